-- How a call of a lexer over a window ends, and how the match ends or goes on there.
use Rattle.std.proofs.Common.{◌≡◌, ◌∙◌, ap, sym, subst, refl, ℕ, suc, ◌+◌, ◌-◌, ◌<◌, ◌≤◌, Bool, true, false, not, inl, inr, List, [], length, Option, Some, None, arith, if◌then◌else◌}
use Rattle.std.proofs.lemmas.Bool.{leb-false, le-leb, lt-leb, lt-ltb, eq-eqb, ne_eqb}
use Rattle.lx_ccode.specs.declared.piece.Piece.{Piece}
use Rattle.lx_ccode.specs.declared.piece.Stmt.{Stmt}
use Rattle.lx_ccode.specs.declared.piece.Stmt.TheVariants.{Need, Try}
use Rattle.lx_ccode.specs.Machine.{Answer, Machine, Value, ends, more, no_more, stored_block, units_of}
use Rattle.lx_ccode.specs.Runs.{entry_block, fresh_machine, loop_count}
use Rattle.lx_window.specs.WindowView.{WindowView}
use Rattle.lx_window.specs.Windows.{Refills}
use Rattle.lx_window.specs.declared.refills.Fill.{Fill}
use Rattle.lx_window.specs.declared.refills.Fill.TheVariants.{More, NoMore, Leave}
use Rattle.lx_step.specs.declared.answers.Outcome.{Outcome}
use Rattle.lx_step.specs.declared.answers.Outcome.TheVariants.{Rule, Jump, NoRule, End, NeedFill, WindowFull, ReadFailed, Stuck, Loop, Spent, Memory}
use Rattle.lx_step.specs.Advances.{ComesBack, EndsAs, HasNoCode, IsFull, IsLastStep, IsLeft, IsLooped, StoresLeft}
use Rattle.lx_step.specs.Entries.{entry_by, entry_point, machine_back}
use Rattle.lx_step.specs.Feeds.{Feed}
use Rattle.lx_step.specs.Held.{Held, is_last}
use Rattle.lx_step.specs.Left.{Left}
use Rattle.lx_step.specs.Points.{Asks, IsAsking, Point, kept_by, needed_by, point_at}
use Rattle.lx_step.specs.Steps.{outcome_of}
use Rattle.lx_run.specs.Matches.{MatchEnd, Stand, answered, asked, asks, ended, made, match_from, point_back, stand_back, stepped, told_by}
use Rattle.lx_run.specs.Readings.{Reading, added, is_whole, refill_at}
use Rattle.lx_run.specs.Windows.{IsAt}
use Rattle.lx_run.proofs.GivenAnswers.{AreGiven}
use Rattle.lx_run.proofs.RefilledWindows.{Ended, Ended-Refills, Filled, Filled-Refills, HasUnits, IsAt-closed, Paused-Refills}
use Rattle.lx_run.proofs.WindowSteps.{HasLimit, IsAnswered, Takes, Takes-made, chances, match_from-answered, match_from-made, measure, stand_at}

-- the outcomes of a call that end a match
abbrev pub IsEnd : Outcome → Type 0
IsEnd NeedFill = ⊥
IsEnd ReadFailed = ⊥
IsEnd Spent = ⊥
IsEnd Memory = ⊥
IsEnd _ = Unit {0}

asks-asking : (statement : Stmt) (machine : Machine) → IsAsking statement machine → asks statement machine ≡ true
asks-asking (Need units) machine asking = ap not asking
asks-asking (Try block) machine asking = refl
asks-asking statement machine asking = absurd asking

-- ---- the end of a match

module _ (piece : Piece) (reading : Reading) (start : ℕ) (leaving : Bool) where
  -- the match ends at a point in so many turns
  pub record EndsSo (point : Point) (told : Outcome) (last : Machine) (limit' : ℕ) : Type 0 where
    pub turns : ℕ
    pub fewer : turns ≤ suc (measure piece reading start leaving point.machine.limit point.steps)
    pub limits : is_last told ≡ false → last.limit ≡ limit'
    pub same : (fuel all : ℕ) → all ≡ turns + fuel → (values : List Value)
        → match_from piece reading start all (stand_at piece reading start leaving point values) ≡ ended told
        (stand_at piece reading start leaving point values) last

  EndsSo-step : (point : Point) (told : Outcome) (used : List Answer) (last : Machine) (limit' : ℕ)
      → IsAnswered piece reading start leaving (ends (outcome_of told) last)
      → told_by (outcome_of told) ≡ told
      → (HasLimit piece reading start leaving (ends (outcome_of told) last) limit' → is_last told ≡ false → last.limit ≡ limit')
      → IsLastStep piece reading.stream start reading.size point told used last → point.machine.limit ≤ length reading.stream
      → AreGiven reading start leaving point.machine.limit used limit' → EndsSo point told last limit'
  EndsSo-step point told used last limit' answers tells limits step within given =
      let takes : Takes piece reading start leaving point step.statement used (ends (outcome_of told) last) limit' =
      Takes-made piece reading start leaving point step.statement step.rest used
      (ends (outcome_of told) last) limit' step.made within given answers in
      record {
        turns = takes.turns;
        fewer = omega (arith, takes.fewer);
        limits = limits takes.limits;
        same =
            λ fuel all sum values. takes.same fuel all sum values ∙ ap
            (λ one. ended one (stand_at piece reading start leaving point values) last) tells;
      }

  EndsSo-no_code : (point : Point) (used : List Answer) (last : Machine) (limit' : ℕ)
      → HasNoCode piece reading.stream start reading.size point used last → EndsSo point Stuck last limit'
  EndsSo-no_code point used last limit' none = record {
    turns = 1;
    fewer = omega arith;
    limits = λ goes. absurd (let e : true ≡ false = goes in cc);
    same = λ fuel all sum values.
        let next : all ≡ suc fuel = omega (arith, sum) in
        let stand : Stand = stand_at piece reading start leaving point values in
        let going : Stand → MatchEnd = match_from piece reading start fuel in
        ap (λ n. match_from piece reading start n stand) next
        ∙ ap (λ (looped : Bool). if looped then ended Loop stand point.machine else made piece reading start going stand point.code)
        (lt-leb (loop_count piece start point.machine.limit) point.steps none.unlooped)
        ∙ ap (made piece reading start going stand) none.code
        ∙ ap (ended Stuck stand) (sym none.stays);
  }

  EndsSo-looped : (point : Point) (used : List Answer) (last : Machine) (limit' : ℕ)
      → IsLooped piece reading.stream start reading.size point used last → EndsSo point Loop last limit'
  EndsSo-looped point used last limit' looped = record {
    turns = 1;
    fewer = omega arith;
    limits = λ goes. absurd (let e : true ≡ false = goes in cc);
    same = λ fuel all sum values.
        let next : all ≡ suc fuel = omega (arith, sum) in
        let stand : Stand = stand_at piece reading start leaving point values in
        ap (λ n. match_from piece reading start n stand) next
        ∙ ap
        (λ (looped : Bool). if looped then ended Loop stand point.machine else made piece reading start (match_from piece reading start fuel) stand point.code)
        (le-leb (loop_count piece start point.machine.limit) point.steps looped.looped)
        ∙ ap (ended Loop stand) (sym looped.stays);
  }

  EndsSo-full : (kept need all_units : ℕ) (point : Point) (used : List Answer) (last : Machine) (limit' : ℕ)
      → IsFull piece reading.stream start reading.size kept need all_units point used last
      → EndsSo point (WindowFull kept need all_units) last limit'
  EndsSo-full kept need all_units point used last limit' full = record {
    turns = 1;
    fewer = omega arith;
    limits = λ goes. absurd (let e : true ≡ false = goes in cc);
    same = λ fuel all sum values.
        let stand : Stand = stand_at piece reading start leaving point values in
        let going : Stand → MatchEnd = match_from piece reading start fuel in
        let kept' : ℕ = kept_by start full.statement point.machine in
        let need' : ℕ = needed_by full.statement in
        let over : reading.size < kept' + need' = omega (arith, full.full, full.kept_is, full.need_is) in
        match_from-made piece reading start leaving fuel all sum stand full.statement full.rest full.stands
        ∙ ap
        (λ (asking : Bool). if asking then asked piece reading start going stand full.statement full.rest kept' need' else stepped piece reading start going stand full.statement full.rest [])
        (asks-asking full.statement point.machine full.asking)
        ∙ ap
        (λ (f : Bool). if f then ended (WindowFull kept' need' reading.size) stand point.machine else answered piece reading start going stand full.statement full.rest)
        (lt-ltb reading.size (kept' + need') over)
        ∙ ap (λ n. ended (WindowFull n need' reading.size) stand point.machine) (sym full.kept_is)
        ∙ ap (λ n. ended (WindowFull kept n reading.size) stand point.machine) (sym full.need_is)
        ∙ ap (λ n. ended (WindowFull kept need n) stand point.machine) (sym full.size_is)
        ∙ ap (ended (WindowFull kept need all_units) stand) (sym full.stays);
  }

  -- a call that ends the match ends it as it is
  pub EndsSo-ends : (told : Outcome) (point : Point) (used : List Answer) (last : Machine) (limit' : ℕ) → IsEnd told
      → EndsAs piece reading.stream start reading.size told point used last
      → point.machine.limit ≤ length reading.stream → AreGiven reading start leaving point.machine.limit used limit'
      → EndsSo point told last limit'
  EndsSo-ends (Rule number) point used last limit' end so within given =
      EndsSo-step point (Rule number) used last limit' tt refl (λ limit goes. limit) so within given
  EndsSo-ends (Jump number) point used last limit' end so within given =
      EndsSo-step point (Jump number) used last limit' tt refl (λ limit goes. limit) so within given
  EndsSo-ends NoRule point used last limit' end so within given =
      EndsSo-step point NoRule used last limit' tt refl (λ limit goes. limit) so within given
  EndsSo-ends End point used last limit' end so within given =
      EndsSo-step point End used last limit' tt refl (λ limit goes. limit) so within given
  EndsSo-ends Stuck point used last limit' end (inl so) within given =
      EndsSo-step point Stuck used last limit' tt refl (λ limit goes. absurd (let e : true ≡ false = goes in cc)) so within given
  EndsSo-ends Stuck point used last limit' end (inr so) within given = EndsSo-no_code point used last limit' so
  EndsSo-ends Loop point used last limit' end so within given = EndsSo-looped point used last limit' so
  EndsSo-ends (WindowFull kept need all) point used last limit' end so within given = EndsSo-full kept need all point used last limit' so
  EndsSo-ends NeedFill point used last limit' end so within given = absurd end
  EndsSo-ends ReadFailed point used last limit' end so within given = absurd end
  EndsSo-ends Spent point used last limit' end so within given = absurd end
  EndsSo-ends Memory point used last limit' end so within given = absurd end

-- ---- a match that is left

-- a match that is left takes one turn
pub match_from-left : (piece : Piece) (reading : Reading) (start : ℕ) (fuel all : ℕ) → all ≡ 1 + fuel
    → (point : Point) (values : List Value) (used : List Answer) (last : Machine)
    → IsLeft piece reading.stream start reading.size point used last
    → match_from piece reading start all (stand_at piece reading start true point values) ≡ match_from piece reading start fuel
    (stand_back piece reading start (stand_at piece reading start true point values))
match_from-left piece reading start fuel all sum point values used last left =
    match_from-answered piece reading start true fuel all sum
    (stand_at piece reading start true point values) left.statement left.rest left.stands
    (asks-asking left.statement point.machine left.asks.asking) left.asks.room

-- the window has room for a refill where the scanner was left
pub IsLeft-room : (piece : Piece) (reading : Reading) (start : ℕ) (point : Point) (used : List Answer) (last : Machine)
    → IsLeft piece reading.stream start reading.size point used last → start ≤ point.machine.limit
    → point.machine.limit < start + reading.size
IsLeft-room piece reading start point used last left from = by left.statement left.asks where
  by : (statement : Stmt) → Asks start reading.size statement point.machine → point.machine.limit < start + reading.size
  by (Need units) asks =
      (let few = leb-false units (point.machine.limit - point.machine.cursor) asks.asking in omega (arith, few, asks.room, from))
  by (Try block) asks = omega (arith, asks.room, from)
  by statement asks = absurd asks.asking

module _ (piece : Piece) (reading : Reading) (start : ℕ) (point : Point) (held : Held) (piece_is : held.piece ≡ piece) (cond_is : held.cond ≡ point.machine.cond) (assigned_is : held.assigned ≡ point.assigned) (window : WindowView)
    (start_is : window.start ≡ start) where
  -- the machine that comes back, where the limit is another one
  machine_back-limit : (left : Left) → ComesBack held left point
      → machine_back held.piece held.cursor held.cond left window.limit ≡ record point.machine { unit = None; limit = window.limit; values = [] }
  machine_back-limit left back = ap (λ (machine : Machine). record machine { limit = window.limit }) back.machine

  entry_by-back : (left : Option Left) → StoresLeft held left point
      → entry_by held.piece held.cursor held.cond held.assigned left window.start window.limit ≡ point_back piece reading start point.machine.state point window.limit
  entry_by-back None stores =
      ap (λ (one : Piece). point_at one.blocks (entry_block one.conds held.cond) (fresh_machine window.start window.limit held.cond) 0 []) piece_is
      ∙ ap (λ cond. point_at piece.blocks (entry_block piece.conds cond) (fresh_machine window.start window.limit cond) 0 []) cond_is
      ∙ ap
      (λ from. point_at piece.blocks (entry_block piece.conds point.machine.cond) (fresh_machine from window.limit point.machine.cond) 0 []) start_is
      ∙ ap (λ state. point_back piece reading start state point window.limit) (sym stores)
  entry_by-back (Some left) back =
      let machine : Machine = record point.machine { unit = None; limit = window.limit; values = [] } in
      ap (λ one. point_at held.piece.blocks (stored_block held.piece.blocks (Some left.state)) one left.steps held.assigned)
      (machine_back-limit left back)
      ∙ ap (λ (one : Piece). point_at one.blocks (stored_block one.blocks (Some left.state)) machine left.steps held.assigned) piece_is
      ∙ ap (λ steps. point_at piece.blocks (stored_block piece.blocks (Some left.state)) machine steps held.assigned) back.steps
      ∙ ap (point_at piece.blocks (stored_block piece.blocks (Some left.state)) machine (suc point.steps)) assigned_is
      ∙ ap (λ state. point_back piece reading start state point window.limit) (ap (λ (one : Machine). one.state) back.machine)

  -- where a lexer goes on that was left there
  pub entry_point-back : StoresLeft held held.left point
      → entry_point held window ≡ point_back piece reading start point.machine.state point window.limit
  entry_point-back stores = entry_by-back held.left stores

-- ---- the refill behind it

module _ (reading : Reading) (unit : ℕ) (start limit : ℕ) (after : Feed) (units : HasUnits reading unit true false start limit after) where
  -- the limit, and whether the scanner is left again
  abbrev pub limit_back : ℕ
  limit_back = limit + units_of (refill_at reading start limit)

  abbrev pub leaving_back : Bool
  leaving_back = not (is_whole reading start limit)

  -- the source was left once, and then refilled the window
  pub record ComesAgain (again : Feed) : Type 0 where
    pub at : IsAt reading unit true leaving_back start limit_back again
    pub fewer : chances reading leaving_back limit_back < chances reading true limit

  ComesAgain-filled : (again : Feed) → Filled reading unit true false start limit after again → ComesAgain again
  ComesAgain-filled again filled =
      let below : is_whole reading start limit ≡ false =
      ne_eqb limit (length reading.stream) (λ whole. let b = filled.within in omega (arith, b, whole)) in
      let brought : refill_at reading start limit ≡ more 0 (added reading start limit) =
      ap (λ (whole : Bool). if whole then no_more else more 0 (added reading start limit)) below in
      let limits : limit + added reading start limit ≡ limit_back = ap (λ refill. limit + units_of refill) (sym brought) in
      let leaves : true ≡ leaving_back = ap not (sym below) in
      record {
        at = subst (λ n. IsAt reading unit true leaving_back start n again) limits
            (subst (λ one. IsAt reading unit true one start (limit + added reading start limit) again) leaves
            (IsAt-closed reading unit true true start (limit + added reading start limit) again filled.units
            (λ left goes. absurd (let e : true ≡ false = goes in cc)) (λ never. never)));
        fewer = subst (λ one. chances reading one limit_back < chances reading true limit) leaves
            (subst (λ n. chances reading true n < chances reading true limit) limits (omega (arith, filled.within, filled.some)));
      }

  ComesAgain-ended : (again : Feed) → Ended reading unit true false start limit again → ComesAgain again
  ComesAgain-ended again ended =
      let whole : is_whole reading start limit ≡ true = eq-eqb limit (length reading.stream) ended.whole in
      let none : refill_at reading start limit ≡ no_more =
      ap (λ (whole : Bool). if whole then no_more else more 0 (added reading start limit)) whole in
      let same : limit + 0 ≡ limit_back = ap (λ refill. limit + units_of refill) (sym none) in
      let limits : limit ≡ limit_back = omega (arith, same) in
      let stays : false ≡ leaving_back = ap not (sym whole) in
      record {
        at = subst (λ n. IsAt reading unit true leaving_back start n again) limits
            (subst (λ one. IsAt reading unit true one start limit again) stays
            (IsAt-closed reading unit true false start limit again ended.units (λ left goes. ended.whole) (λ never. refl)));
        fewer = subst (λ one. chances reading one limit_back < chances reading true limit) stays
            (subst (λ n. chances reading false n < chances reading true limit) limits (omega arith));
      }

  -- the refill that is made behind it; the source does not leave the scanner twice
  pub ComesAgain-Refills : (again : Feed) (fill : Fill) → Refills after.ahead again.ahead after.window again.window fill → ComesAgain again
  ComesAgain-Refills again (More count) refills =
      ComesAgain-filled again (Filled-Refills reading unit true start limit false after units again count refills)
  ComesAgain-Refills again NoMore refills =
      ComesAgain-ended again (Ended-Refills reading unit true false start limit after again units refills)
  ComesAgain-Refills again Leave refills =
      absurd (let e : false ≡ true = (Paused-Refills reading unit true false start limit after again units refills).leaves_now in cc)
