-- A match over a window, made by call after call of a lexer.
use Rattle.std.proofs.Common.{◌≡◌, ◌∙◌, ap, sym, subst, refl, ℕ, suc, ◌+◌, ◌-◌, ◌*◌, ◌<◌, ◌≤◌, Bool, true, false, not, List, [], ◌∷◌, ◌++◌, length, Option, Some, None, arith}
use Rattle.std.proofs.Math.Nat.{mul-le-mul_right}
use Rattle.lx_ccode.specs.declared.piece.Piece.{Piece}
use Rattle.lx_ccode.specs.Machine.{Machine, Value, units_of}
use Rattle.lx_ccode.specs.Runs.{entry_block, fresh_machine, loop_count}
use Rattle.lx_window.specs.Ahead.{Ahead}
use Rattle.lx_window.specs.WindowView.{WindowView}
use Rattle.lx_window.specs.Windows.{IsWindowOf, Refills}
use Rattle.lx_window.specs.declared.refills.Fill.{Fill}
use Rattle.lx_step.specs.declared.answers.Outcome.{Outcome}
use Rattle.lx_step.specs.declared.answers.Outcome.TheVariants.{NeedFill, ReadFailed}
use Rattle.lx_step.specs.declared.answers.StmtAt.{StmtAt}
use Rattle.lx_step.specs.Advances.{Behind, EndsAs, HoldsAfter, IsAdvance, IsLeft, LeavesMatch}
use Rattle.lx_step.specs.Entries.{entry_by, entry_point}
use Rattle.lx_step.specs.Feeds.{Feed}
use Rattle.lx_step.specs.Given.{Given, after_value, after_values}
use Rattle.lx_step.specs.Held.{Held, is_last}
use Rattle.lx_step.specs.Left.{Left}
use Rattle.lx_step.specs.Points.{LeadsTo, Point, point_at}
use Rattle.lx_step.specs.Tags.{tag_names}
use Rattle.lx_step.proofs.FedWindows.{IsFed-limit}
use Rattle.lx_run.specs.Matches.{MatchEnd, ended, match_from, match_fuel, match_of, point_back, stand_back}
use Rattle.lx_run.specs.Readings.{Reading, is_whole, refill_at}
use Rattle.lx_run.specs.Texts.{Between, behind, held_behind, match_at}
use Rattle.lx_run.specs.Windows.{HasMatched, IsAt, IsBehind, IsBetween}
use Rattle.lx_run.proofs.GivenAnswers.{AreGiven, AreGiven-parts, AreGiven-within, AreParts, IsGiven, IsGiven-fed}
use Rattle.lx_run.proofs.MatchBounds.{EndsWithin, match_of-within}
use Rattle.lx_run.proofs.RefilledWindows.{HasUnits, IsAt-units, Paused, Paused-Refills}
use Rattle.lx_run.proofs.WindowEnds.{ComesAgain, ComesAgain-Refills, EndsSo, EndsSo-ends, IsEnd, IsLeft-room, entry_point-back, match_from-left}
use Rattle.lx_run.proofs.WindowSteps.{Comes, Comes-leads, chances, match_measure-fewer, measure, stand_at}

-- ---- what is held

-- values that were given one behind another
after_values-append : (names : List (List ℕ)) (first second : List Value) (given : Given)
    → after_values names (first ++ second) given ≡ after_values names second (after_values names first given)
after_values-append names [] second given = refl
after_values-append names (value ∷ values) second given = after_values-append names values second (after_value names value given)

-- a lexer by its parts
Held-is : (held : Held) (piece : Piece) (spent : Bool) (start cursor : ℕ) (cond : List ℕ) (given : Given) (assigned : List StmtAt)
    (left : Option Left)
    → held.piece ≡ piece → held.spent ≡ spent → held.start ≡ start → held.cursor ≡ cursor → held.cond ≡ cond → held.given ≡ given
    → held.assigned ≡ assigned → held.left ≡ left
    → held ≡ record { piece = piece; spent = spent; start = start; cursor = cursor; cond = cond; given = given; assigned = assigned; left = left }
Held-is held piece spent start cursor cond given assigned left piece_is spent_is start_is cursor_is cond_is given_is assigned_is left_is =
    ap (λ one. record held { piece = one }) piece_is
    ∙ ap (λ one. record held { piece = piece; spent = one }) spent_is
    ∙ ap (λ one. record held { piece = piece; spent = spent; start = one }) start_is
    ∙ ap (λ one. record held { piece = piece; spent = spent; start = start; cursor = one }) cursor_is
    ∙ ap (λ one. record held { piece = piece; spent = spent; start = start; cursor = cursor; cond = one }) cond_is
    ∙ ap (λ one. record held { piece = piece; spent = spent; start = start; cursor = cursor; cond = cond; given = one }) given_is
    ∙ ap
    (λ one. record held { piece = piece; spent = spent; start = start; cursor = cursor; cond = cond; given = given; assigned = one }) assigned_is
    ∙ ap
    (λ one. record held { piece = piece; spent = spent; start = start; cursor = cursor; cond = cond; given = given; assigned = assigned; left = one }) left_is

Behind-end : (told : Outcome) (feed after : Feed) → IsEnd told → Behind told feed after → after ≡ feed
Behind-end NeedFill feed after end behind = absurd end
Behind-end ReadFailed feed after end behind = absurd end
Behind-end told feed after end behind = behind

LeavesMatch-end : (told : Outcome) (new : Held) (point : Point) → IsEnd told → LeavesMatch told new point → new.left ≡ None
LeavesMatch-end NeedFill new point end leaves = absurd end
LeavesMatch-end told new point end leaves = leaves

-- ---- a match under way

-- the source leaves the scanner at its next refill, where its parts are told
abbrev pub leaves_next_of : Option Ahead → Bool
leaves_next_of None = false
leaves_next_of (Some told) = elim told.parts [ None ↦ false | Some parts ↦ parts.leaves_next ]

-- how often the match can still be left or get more units: it falls from call to call
abbrev pub feed_chances : Reading → Feed → ℕ
feed_chances reading feed = chances reading (leaves_next_of feed.ahead) feed.window.limit

entry_point-limit : (held : Held) (window : WindowView) → (entry_point held window).machine.limit ≡ window.limit
entry_point-limit held window = by held.left where
  by : (left : Option Left)
      → (entry_by held.piece held.cursor held.cond held.assigned left window.start window.limit).machine.limit ≡ window.limit
  by None = refl
  by (Some left) = refl

-- the match that is made next goes on where the lexer stands, with these values from before
pub record IsUnderWay (piece : Piece) (reading : Reading) (leaves : Bool) (between : Between) (held : Held) (feed : Feed) : Type 0 where
  pub piece_is : between.held.piece ≡ piece
  pub same_piece : held.piece ≡ piece
  pub fit : held.spent ≡ false
  pub values : List Value
  pub given : held.given ≡ after_values (tag_names piece.blocks) values between.held.given
  pub leaving : Bool
  pub at : IsAt reading piece.unit leaves leaving between.start feed.window.limit feed
  pub from : between.start ≤ between.limit
  pub fuel : ℕ
  pub enough : measure piece reading between.start leaving feed.window.limit (entry_point held feed.window).steps < fuel
  pub goes_on : match_at reading between
      ≡ match_from piece reading between.start fuel (stand_at piece reading between.start leaving (entry_point held feed.window) values)

-- ---- before the first call

module _ (piece : Piece) (reading : Reading) (leaves : Bool) (between : Between) (held : Held) (feed : Feed) where
  entry_point-fresh : held ≡ between.held → between.held.piece ≡ piece → between.held.left ≡ None → feed.window.start ≡ between.start
      → feed.window.limit ≡ between.limit
      → entry_point held feed.window ≡ point_at piece.blocks (entry_block piece.conds between.held.cond)
      (fresh_machine between.start between.limit between.held.cond) 0 []
  entry_point-fresh held_is piece_is unleft start_is limit_is =
      ap (λ (one : Held). entry_point one feed.window) held_is
      ∙ ap
      (λ left. entry_by between.held.piece between.held.cursor between.held.cond between.held.assigned left feed.window.start feed.window.limit) unleft
      ∙ ap
      (λ (one : Piece). point_at one.blocks (entry_block one.conds between.held.cond) (fresh_machine feed.window.start feed.window.limit between.held.cond) 0 []) piece_is
      ∙ ap
      (λ start. point_at piece.blocks (entry_block piece.conds between.held.cond) (fresh_machine start feed.window.limit between.held.cond) 0 []) start_is
      ∙ ap
      (λ limit. point_at piece.blocks (entry_block piece.conds between.held.cond) (fresh_machine between.start limit between.held.cond) 0 []) limit_is

  match_fuel-enough : (leaving : Bool) (limit : ℕ)
      → measure piece reading between.start leaving limit 0 < match_fuel piece reading between.start
  match_fuel-enough leaving limit = by leaving where
    most : (count : ℕ) → count ≤ 1
        → (length reading.stream - limit + count) * suc (loop_count piece between.start (length reading.stream)) +
        (loop_count piece between.start (length reading.stream) - 0)
        < match_fuel piece reading between.start
    most count few =
        let steps : ℕ = loop_count piece between.start (length reading.stream) in
        let product : (length reading.stream - limit + count) * suc steps ≤ (length reading.stream + 1) * suc steps =
        mul-le-mul_right (suc steps) (omega (arith, few)) in
        let split : (length reading.stream + 2) * suc steps ≡ (length reading.stream + 1) * suc steps + suc steps = grind arith in
        omega (arith, product, split)

    by : (one : Bool) → measure piece reading between.start one limit 0 < match_fuel piece reading between.start
    by true = most 1 (omega arith)
    by false = most 0 (omega arith)

  pub IsUnderWay-begun : IsBetween piece reading leaves between held feed → IsUnderWay piece reading leaves between held feed
  unfolding match_of
  IsUnderWay-begun begins =
      let at = begins.at in
      let entry = entry_point-fresh begins.held_is begins.piece_is begins.unleft at.start_is at.limit_is in
      record {
        piece_is = begins.piece_is;
        same_piece = ap (λ (one : Held). one.piece) begins.held_is ∙ begins.piece_is;
        fit = ap (λ (one : Held). one.spent) begins.held_is ∙ begins.fit;
        values = [];
        given = ap (λ (one : Held). one.given) begins.held_is;
        leaving = between.leaving;
        at = subst (λ limit. IsAt reading piece.unit leaves between.leaving between.start limit feed) (sym at.limit_is) at;
        from = let ends = at.formed.ends in omega (arith, ends, at.start_is, at.limit_is);
        fuel = match_fuel piece reading between.start;
        enough =
            subst
            (λ steps. measure piece reading between.start between.leaving feed.window.limit steps < match_fuel piece reading between.start)
            (ap (λ (point : Point). point.steps) (sym entry)) (match_fuel-enough between.leaving feed.window.limit);
        goes_on = ap (λ (one : Piece). match_of one reading between.start between.held.cond between.limit between.leaving) begins.piece_is
            ∙ ap
            (λ point. match_from piece reading between.start (match_fuel piece reading between.start) (stand_at piece reading between.start between.leaving point [])) (sym entry);
      }

-- ---- a call

module _ (piece : Piece) (reading : Reading) (leaves : Bool) (between : Between) (held new : Held) (before after : Feed) (told : Outcome) (way : IsUnderWay piece reading leaves between held before)
    (call : IsAdvance held new before after told) where
  -- where the match stood when it was called
  abbrev entry : Point
  entry = entry_point held before.window

  -- what the source gave to the call
  pub call_given : IsGiven reading piece.unit leaves way.leaving between.start before way.at (call.answers ++ call.used) call.feed
  call_given = IsGiven-fed reading piece.unit leaves way.leaving between.start before way.at call.fed

  call_parts : AreParts reading between.start way.leaving call.answers call.used before.window.limit call.feed.window.limit
  call_parts =
      AreGiven-parts reading between.start way.leaving call.answers call.used before.window.limit call.feed.window.limit call_given.given

  entry-within : entry.machine.limit ≤ length reading.stream
  entry-within = let limit = entry_point-limit held before.window in let within = way.at.fed.holds.within in omega (arith, limit, within)

  -- where the call led, and how it ended, over the stream that the run reads
  abbrev pub Leads : (one : Piece) (start size : ℕ) → Type 0
  Leads one start size =
      LeadsTo one reading.stream start size entry call.answers call.point × EndsAs one reading.stream start size told call.point call.used call.last

  pub call_leads : IsWindowOf reading.stream after.window → Leads piece between.start reading.size
  call_leads is =
      subst (λ one. Leads one between.start reading.size) way.same_piece
      (subst (λ start. Leads held.piece start reading.size) way.at.start_is
      (subst (λ size. Leads held.piece before.window.start size) way.at.size_is (call.leads reading.stream is)))

  call_comes : IsWindowOf reading.stream after.window → Comes piece reading between.start way.leaving entry call.point call_parts.middle
  call_comes is =
      Comes-leads piece reading between.start way.leaving entry call_parts.middle (call_leads is).0 entry-within
      (subst (λ limit. AreGiven reading between.start way.leaving limit call.answers call_parts.middle) (sym (entry_point-limit held before.window)) call_parts.front)

  enough : measure piece reading between.start way.leaving entry.machine.limit entry.steps < way.fuel
  enough =
      subst (λ limit. measure piece reading between.start way.leaving limit entry.steps < way.fuel)
      (sym (entry_point-limit held before.window)) way.enough

  call_within : (is : IsWindowOf reading.stream after.window) → call.point.machine.limit ≤ length reading.stream
  call_within is =
      let inside : before.window.limit ≤ length reading.stream = way.at.fed.holds.within in
      let middle =
      AreGiven-within reading between.start way.leaving call.answers before.window.limit call_parts.middle call_parts.front inside in
      let limit = (call_comes is).limit_is in
      omega (arith, limit, middle)

  names_of : tag_names held.piece.blocks ≡ tag_names piece.blocks
  names_of = ap (λ (one : Piece). tag_names one.blocks) way.same_piece

  -- the values of the call, behind those from before
  call_values : new.given ≡ after_values (tag_names held.piece.blocks) call.last.values held.given
      → new.given ≡ after_values (tag_names piece.blocks) (way.values ++ call.last.values) between.held.given
  call_values given =
      given ∙ ap (λ names. after_values names call.last.values held.given) names_of
      ∙ ap (after_values (tag_names piece.blocks) call.last.values) way.given
      ∙ sym (after_values-append (tag_names piece.blocks) way.values call.last.values between.held.given)

  -- ---- one that ends the match

  module _ (end : IsEnd told) where
    after_is : after ≡ call.feed
    after_is = Behind-end told call.feed after end call.behind

    after_at : IsAt reading piece.unit leaves way.leaving between.start call.feed.window.limit after
    after_at = subst (IsAt reading piece.unit leaves way.leaving between.start call.feed.window.limit) (sym after_is) call_given.at

    call_ends : EndsSo piece reading between.start way.leaving call.point told call.last call.feed.window.limit
    call_ends =
        let is = after_at.fed.holds in
        let comes = call_comes is in
        EndsSo-ends piece reading between.start way.leaving told call.point call.used call.last call.feed.window.limit end (call_leads is).1
        (call_within is)
        (subst (λ limit. AreGiven reading between.start way.leaving limit call.used call.feed.window.limit) (sym comes.limit_is) call_parts.back)

    -- the match ended as the call did
    abbrev match_end : MatchEnd
    match_end = ended told (stand_at piece reading between.start way.leaving call.point way.values) call.last

    pub match_at-ended : match_at reading between ≡ match_end
    match_at-ended =
        let comes = call_comes after_at.fed.holds in
        let ends = call_ends in
        let rest : ℕ = way.fuel - comes.turns - ends.turns in
        let fuel : way.fuel ≡ comes.turns + (ends.turns + rest) = omega (arith, enough, comes.fewer, ends.fewer) in
        way.goes_on ∙ comes.same (ends.turns + rest) way.fuel fuel way.values ∙ ends.same rest (ends.turns + rest) refl way.values

    held_behind-ended : new ≡ held_behind between.held between.start match_end
    held_behind-ended =
        let holds : HoldsAfter held new before.window.start told call.point call.last = call.holds in
        let names : tag_names between.held.piece.blocks ≡ tag_names piece.blocks =
        ap (λ (one : Piece). tag_names one.blocks) way.piece_is in
        Held-is new between.held.piece (is_last told) between.start call.last.cursor call.last.cond
        (after_values (tag_names between.held.piece.blocks) (way.values ++ call.last.values) between.held.given) call.point.assigned None
        (call.piece ∙ way.same_piece ∙ sym way.piece_is) call.spent (holds.start_is ∙ way.at.start_is) holds.cursor holds.cond
        (call_values holds.given ∙ ap (λ all. after_values all (way.values ++ call.last.values) between.held.given) (sym names))
        holds.assigned (LeavesMatch-end told new call.point end holds.left)

    -- a call that ends the match
    pub HasMatched-ended : HasMatched piece reading leaves between new after
    HasMatched-ended =
        let bounds = match_at-within in
        subst (λ one. IsBehind reading piece.unit leaves between one new after) (sym match_at-ended) (record {
          held_is = held_behind-ended;
          from = (subst (EndsWithin piece reading between.start) match_at-ended bounds).0;
          within = (subst (EndsWithin piece reading between.start) match_at-ended bounds).1;
          at =
              λ goes. subst (λ limit. IsAt reading piece.unit leaves way.leaving between.start limit after)
              (sym (call_ends.limits goes)) after_at;
        }) where
          match_at-within : EndsWithin piece reading between.start (match_at reading between)
          match_at-within =
              subst
              (λ (one : Piece). EndsWithin piece reading between.start (match_of one reading between.start between.held.cond between.limit between.leaving)) (sym way.piece_is)
              (match_of-within piece reading between.start between.held.cond between.limit between.leaving way.from)

-- ---- a call that is left, and the refill behind it

leaves_next_of-told : (reading : Reading) (unit : ℕ) (leaves leaving : Bool) (start limit : ℕ) (feed : Feed)
    → IsAt reading unit leaves leaving start limit feed → leaves_next_of feed.ahead ≡ leaving
leaves_next_of-told reading unit leaves leaving start limit feed at = ap leaves_next_of at.ahead_is

-- the match goes on where the lexer stands now, and has a chance fewer to be left or to get units
pub record IsResumed (piece : Piece) (reading : Reading) (leaves : Bool) (between : Between) (new : Held) (before again : Feed) : Type 0 where
  pub way : IsUnderWay piece reading leaves between new again
  pub fewer : feed_chances reading again < feed_chances reading before

module _ (piece : Piece) (reading : Reading) (leaves : Bool) (between : Between) (held new : Held) (before after : Feed) (way : IsUnderWay piece reading leaves between held before)
    (call : IsAdvance held new before after NeedFill) where
  abbrev start : ℕ
  start = between.start

  -- where the units ended when the scanner was left
  abbrev limit : ℕ
  limit = call.feed.window.limit

  paused : Paused reading piece.unit leaves way.leaving start limit after
  paused =
      Paused-Refills reading piece.unit leaves way.leaving start limit call.feed after
      (IsAt-units reading piece.unit leaves way.leaving start limit call.feed (call_given piece reading leaves between held new before after NeedFill way call).at) call.behind

  leaves-true : leaves ≡ true
  leaves-true = by leaves way.at.never where
    by : (one : Bool) → (one ≡ false → way.leaving ≡ false) → one ≡ true
    by true never = refl
    by false never = sym (never refl) ∙ paused.leaves_now

  left_units : HasUnits reading piece.unit true false start limit after
  left_units = subst (λ one. HasUnits reading piece.unit one false start limit after) leaves-true paused.units

  is_left : IsLeft piece reading.stream start reading.size call.point call.used call.last
  is_left = (call_leads piece reading leaves between held new before after NeedFill way call paused.units.fed.holds).1

  -- up to there it is one match
  comes_left : Comes piece reading start true (entry_point held before.window) call.point limit
  comes_left =
      let given = call_parts piece reading leaves between held new before after NeedFill way call in
      let same : limit ≡ given.middle =
      subst (λ used. AreGiven reading start way.leaving given.middle used limit) is_left.used_none given.back in
      subst (λ one. Comes piece reading start one (entry_point held before.window) call.point limit) paused.leaves_now
      (subst (Comes piece reading start way.leaving (entry_point held before.window) call.point) (sym same)
      (call_comes piece reading leaves between held new before after NeedFill way call paused.units.fed.holds))

  -- the window has room for the refill
  pub IsAdvance-room : after.window.limit < after.window.start + after.window.size
  IsAdvance-room =
      let inside : after.window.start ≤ after.window.limit = paused.units.formed.ends in
      let room : call.point.machine.limit < start + reading.size =
      IsLeft-room piece reading start call.point call.used call.last is_left
      (omega (arith, inside, paused.units.start_is, paused.units.limit_is, comes_left.limit_is)) in
      omega (arith, room, paused.units.start_is, paused.units.limit_is, paused.units.size_is, comes_left.limit_is)

  module _ (again : Feed) (fill : Fill) (refills : Refills after.ahead again.ahead after.window again.window fill) where
    comes_again : ComesAgain reading piece.unit start limit after left_units again
    comes_again = ComesAgain-Refills reading piece.unit start limit after left_units again fill refills

    abbrev leaving_again : Bool
    leaving_again = not (is_whole reading start limit)

    again_at : IsAt reading piece.unit leaves leaving_again start again.window.limit again
    again_at =
        subst (λ one. IsAt reading piece.unit one leaving_again start again.window.limit again) (sym leaves-true)
        (subst (λ n. IsAt reading piece.unit true leaving_again start n again) (sym comes_again.at.limit_is) comes_again.at)

    -- the chances that are left, and what the match can still take
    chances-again : chances reading leaving_again again.window.limit < chances reading true limit
    chances-again =
        subst (λ n. chances reading leaving_again n < chances reading true limit) (sym comes_again.at.limit_is) comes_again.fewer

    measure-again : (steps : ℕ)
        → measure piece reading start leaving_again again.window.limit steps < measure piece reading start true call.point.machine.limit call.point.steps
    measure-again steps =
        subst
        (λ n. measure piece reading start leaving_again again.window.limit steps < measure piece reading start true n call.point.steps)
        (sym comes_left.limit_is)
        (match_measure-fewer piece reading start true leaving_again limit again.window.limit call.point.steps steps chances-again)

    holds_left : HoldsAfter held new before.window.start NeedFill call.point call.last
    holds_left = call.holds

    -- where the lexer goes on, the match comes back
    entry_again : entry_point new again.window ≡ point_back piece reading start call.point.machine.state call.point
        (limit + units_of (refill_at reading start limit))
    entry_again =
        entry_point-back piece reading start call.point new (call.piece ∙ way.same_piece)
        (holds_left.cond ∙ ap (λ (machine : Machine). machine.cond) is_left.stays) holds_left.assigned
        again.window comes_again.at.start_is holds_left.left
        ∙ ap (point_back piece reading start call.point.machine.state call.point) comes_again.at.limit_is

    stand_again : stand_back piece reading start (stand_at piece reading start true call.point way.values)
        ≡ stand_at piece reading start leaving_again (entry_point new again.window) (way.values ++ call.last.values)
    stand_again =
        ap (λ n. record {
          point = point_back piece reading start call.point.machine.state call.point (n + units_of (refill_at reading start n));
          values = way.values ++ call.point.machine.values;
          leaving = not (is_whole reading start n);
        }) comes_left.limit_is
        ∙ ap (λ point. stand_at piece reading start leaving_again point (way.values ++ call.point.machine.values)) (sym entry_again)
        ∙ ap
        (λ (machine : Machine). stand_at piece reading start leaving_again (entry_point new again.window) (way.values ++ machine.values))
        (sym is_left.stays)

    enough_left : measure piece reading start true (entry_point held before.window).machine.limit
        (entry_point held before.window).steps < way.fuel
    enough_left =
        subst
        (λ one. measure piece reading start one (entry_point held before.window).machine.limit (entry_point held before.window).steps < way.fuel) paused.leaves_now
        (enough piece reading leaves between held new before after NeedFill way call)

    goes_on_left : (rest : ℕ) → way.fuel ≡ comes_left.turns + (1 + rest)
        → match_at reading between ≡ match_from piece reading start rest
        (stand_at piece reading start leaving_again (entry_point new again.window) (way.values ++ call.last.values))
    goes_on_left rest fuel =
        way.goes_on
        ∙ ap
        (λ one. match_from piece reading start way.fuel (stand_at piece reading start one (entry_point held before.window) way.values)) paused.leaves_now
        ∙ comes_left.same (1 + rest) way.fuel fuel way.values
        ∙ match_from-left piece reading start rest (1 + rest) refl call.point way.values call.used call.last is_left
        ∙ ap (match_from piece reading start rest) stand_again

    -- a call that is left, and the refill that is made behind it
    pub IsResumed-left : IsResumed piece reading leaves between new before again
    IsResumed-left =
        let turns : ℕ = comes_left.turns in
        let steps : ℕ = (entry_point new again.window).steps in
        let less = measure-again steps in
        let taken : turns + measure piece reading start true call.point.machine.limit call.point.steps < way.fuel =
        omega (arith, comes_left.fewer, enough_left) in
        record {
          way = record {
            piece_is = way.piece_is;
            same_piece = call.piece ∙ way.same_piece;
            fit = call.spent;
            values = way.values ++ call.last.values;
            given = call_values piece reading leaves between held new before after NeedFill way call holds_left.given;
            leaving = leaving_again;
            at = again_at;
            from = way.from;
            fuel = way.fuel - turns - 1;
            enough = omega (arith, less, taken);
            goes_on = goes_on_left (way.fuel - turns - 1) (omega (arith, less, taken));
          };
          fewer =
              let leaves_again = leaves_next_of-told reading piece.unit leaves leaving_again start again.window.limit again again_at in
              let leaves_before =
              leaves_next_of-told reading piece.unit leaves way.leaving start before.window.limit before way.at ∙ paused.leaves_now in
              let grows : before.window.limit ≤ limit = IsFed-limit call.fed in
              subst (λ one. chances reading one again.window.limit < feed_chances reading before) (sym leaves_again)
              (subst (λ one. chances reading leaving_again again.window.limit < chances reading one before.window.limit) (sym leaves_before)
              (omega (arith, chances-again, grows)));
        }
