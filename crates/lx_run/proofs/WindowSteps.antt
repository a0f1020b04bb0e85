-- The steps of a match over a window: those that a call of a lexer makes are those of the match.
use Rattle.std.proofs.Common.{◌≡◌, ◌∙◌, ap, sym, subst, refl, ℕ, suc, ◌+◌, ◌-◌, ◌*◌, ◌<◌, ◌≤◌, Bool, true, false, not, List, [], ◌∷◌, length, Option, Some, None, arith, if◌then◌else◌, nat_le, ◌==◌}
use Rattle.std.proofs.Math.Nat.{mul-le-mul_right, mul-le-mul_left}
use Rattle.std.proofs.lemmas.Bool.{lt-leb, le-ltb, eq-eqb, ne_eqb}
use Rattle.lx_ccode.specs.declared.piece.Piece.{Piece}
use Rattle.lx_ccode.specs.declared.piece.Stmt.{Stmt}
use Rattle.lx_ccode.specs.declared.piece.Stmt.TheVariants.{Need, Try}
use Rattle.lx_ccode.specs.Effects.{machine_after}
use Rattle.lx_ccode.specs.Machine.{Answer, Machine, Next, Refill, Value, at_end, code_at, ends, goes_on, has_units, jump, left, more, need, no_more, refilled, step, stuck, try, unanswered}
use Rattle.lx_ccode.specs.Runs.{loop_count}
use Rattle.lx_ccode.specs.Statements.{statement_count}
use Rattle.lx_ccode.proofs.Steps.{ChangesOnly-step}
use Rattle.lx_step.specs.declared.answers.Outcome.TheVariants.{Loop, WindowFull}
use Rattle.lx_step.specs.Assigned.{place_after, with_statement}
use Rattle.lx_step.specs.Points.{AreAsked, Asks, IsAsking, LeadsTo, Makes, Point, StandsBefore, goes_to, kept_by, limited, needed_by, point_after}
use Rattle.lx_step.specs.Points as points
use Rattle.lx_run.specs.Matches.{MatchEnd, Stand, answered, asked, asks, made, match_from, on_from, refilled_by, stand_back, stepped}
use Rattle.lx_run.specs.Matches as matches
use Rattle.lx_run.specs.Readings.{Reading, added, refill_at}
use Rattle.lx_run.proofs.GivenAnswers.{AreGiven, AreGiven-parts, AreGiven-whole, AreGiven-within, IsMore}

-- ---- how far a match has still to go

-- the count of a loop grows with the limit
pub loop_count-grows : (piece : Piece) (start limit limit' : ℕ) → limit ≤ limit'
    → loop_count piece start limit ≤ loop_count piece start limit'
loop_count-grows piece start limit limit' grows =
    mul-le-mul_right (statement_count piece.blocks) (mul-le-mul_left 2 (omega (arith, grows)))

-- how often the match can still be left or get more units
abbrev pub chances : Reading → (leaving : Bool) → (limit : ℕ) → ℕ
chances reading leaving limit = length reading.stream - limit + (if leaving then 1 else 0)

-- as many statements and refills as the match can still take
abbrev pub match_measure : Piece → Reading → (start : ℕ) → (leaving : Bool) → (limit steps : ℕ) → ℕ
match_measure piece reading start leaving limit steps =
    chances reading leaving limit * suc (loop_count piece start (length reading.stream)) +
    (loop_count piece start (length reading.stream) - steps)

-- the measure falls with each of the chances, whatever the steps are
pub match_measure-fewer : (piece : Piece) (reading : Reading) (start : ℕ) (leaving leaving' : Bool) (limit limit' steps steps' : ℕ)
    → chances reading leaving' limit' < chances reading leaving limit
    → match_measure piece reading start leaving' limit' steps' < match_measure piece reading start leaving limit steps
match_measure-fewer piece reading start leaving leaving' limit limit' steps steps' fewer =
    let count : ℕ = loop_count piece start (length reading.stream) in
    let product : suc (chances reading leaving' limit') * suc count ≤ chances reading leaving limit * suc count =
    mul-le-mul_right (suc count) (omega (arith, fewer)) in
    let split : suc (chances reading leaving' limit') * suc count ≡ suc count + chances reading leaving' limit' * suc count = grind arith in
    omega (arith, product, split)

module _ (piece : Piece) (reading : Reading) (start : ℕ) (leaving : Bool) where
  abbrev pub measure : (limit steps : ℕ) → ℕ
  measure limit steps = match_measure piece reading start leaving limit steps

  -- a refill that brings units
  pub measure-more : (limit count steps steps' : ℕ) → IsMore reading start leaving limit count
      → measure (limit + count) steps' < measure limit steps
  measure-more limit count steps steps' more_units =
      match_measure-fewer piece reading start leaving leaving limit (limit + count) steps steps'
      (omega (arith, more_units.below, more_units.some))

  -- a step
  pub measure-step : (limit steps : ℕ) → limit ≤ length reading.stream → steps < loop_count piece start limit
      → measure limit (suc steps) < measure limit steps
  measure-step limit steps within unlooped =
      omega (arith, unlooped, loop_count-grows piece start limit (length reading.stream) within)

  -- ---- a statement

  -- a match stands at a point, with these values from before
  abbrev pub stand_at : Point → List Value → Stand
  stand_at point values = record { point = point; values = values; leaving = leaving }

  abbrev pub Stands : Point → Stmt → List Stmt → Type 0
  Stands point statement rest = StandsBefore piece reading.stream start reading.size point statement rest

  -- each refill that a statement asks was answered, and no answer is left
  abbrev pub IsAnswered : Next → Type 0
  IsAnswered (goes_on code machine []) = Unit {0}
  IsAnswered (goes_on code machine (answer ∷ answers)) = ⊥
  IsAnswered (ends unanswered machine) = ⊥
  IsAnswered (ends outcome machine) = Unit {0}

  -- the limit of the machine behind a step; a Try without its block is stuck before all that was brought came to it
  abbrev pub HasLimit : Next → (limit : ℕ) → Type 0
  HasLimit (goes_on code machine answers) limit = machine.limit ≡ limit
  HasLimit (ends stuck machine) limit = Unit {0}
  HasLimit (ends outcome machine) limit = machine.limit ≡ limit

  -- the measure behind a step
  abbrev pub measure_after : (steps : ℕ) → Next → ℕ
  measure_after steps (goes_on code machine answers) = measure machine.limit (suc steps)
  measure_after steps (ends outcome machine) = 0

  -- with these answers the match makes a statement in so many turns
  pub record Takes (point : Point) (statement : Stmt) (used : List Answer) (next : Next) (limit' : ℕ) : Type 0 where
    pub turns : ℕ
    pub fewer : turns + measure_after point.steps next ≤ measure point.machine.limit point.steps
    pub limits : HasLimit next limit'
    pub same : (fuel all : ℕ) → all ≡ turns + fuel → (values : List Value)
        → match_from piece reading start all (stand_at point values) ≡ on_from piece reading start (match_from piece reading start fuel)
        (stand_at point values) statement used next

  -- one turn makes a statement, unless the steps are the count of a loop
  pub match_from-made : (fuel all : ℕ) → all ≡ 1 + fuel → (stand : Stand) (statement : Stmt) (rest : List Stmt)
      → Stands stand.point statement rest
      → match_from piece reading start all stand ≡ made piece reading start (match_from piece reading start fuel) stand (statement ∷ rest)
  match_from-made fuel all is stand statement rest stands =
      let next : all ≡ suc fuel = omega (arith, is) in
      let on : nat_le (loop_count piece start stand.point.machine.limit) stand.point.steps ≡ false =
      lt-leb (loop_count piece start stand.point.machine.limit) stand.point.steps stands.unlooped in
      ap (λ n. match_from piece reading start n stand) next
      ∙ ap
      (λ (looped : Bool). if looped then matches.ended Loop stand stand.point.machine else made piece reading start (match_from piece reading start fuel) stand stand.point.code) on
      ∙ ap (made piece reading start (match_from piece reading start fuel) stand) stands.code

  -- a statement that asks no refill
  pub match_from-stepped : (fuel all : ℕ) → all ≡ 1 + fuel → (stand : Stand) (statement : Stmt) (rest : List Stmt)
      → Stands stand.point statement rest → asks statement stand.point.machine ≡ false
      → match_from piece reading start all stand ≡ stepped piece reading start (match_from piece reading start fuel) stand statement rest []
  match_from-stepped fuel all is stand statement rest stands quiet =
      let going : Stand → MatchEnd = match_from piece reading start fuel in
      match_from-made fuel all is stand statement rest stands
      ∙ ap
      (λ (asking : Bool). if asking then asked piece reading start going stand statement rest (kept_by start statement stand.point.machine) (needed_by statement) else stepped piece reading start going stand statement rest []) quiet

  -- one that asks a refill, for which the window has room
  pub match_from-answered : (fuel all : ℕ) → all ≡ 1 + fuel → (stand : Stand) (statement : Stmt) (rest : List Stmt)
      → Stands stand.point statement rest → asks statement stand.point.machine ≡ true
      → kept_by start statement stand.point.machine + needed_by statement ≤ reading.size
      → match_from piece reading start all stand ≡ answered piece reading start (match_from piece reading start fuel) stand statement rest
  match_from-answered fuel all is stand statement rest stands asking room =
      let going : Stand → MatchEnd = match_from piece reading start fuel in
      let kept : ℕ = kept_by start statement stand.point.machine in
      let units : ℕ = needed_by statement in
      match_from-made fuel all is stand statement rest stands
      ∙ ap
      (λ (asking : Bool). if asking then asked piece reading start going stand statement rest kept units else stepped piece reading start going stand statement rest []) asking
      ∙ ap
      (λ (full : Bool). if full then matches.ended (WindowFull kept units reading.size) stand stand.point.machine else answered piece reading start going stand statement rest)
      (le-ltb reading.size (kept + units) room)

  -- and which the source answers by this
  pub match_from-refilled : (fuel all : ℕ) → all ≡ 1 + fuel → (point : Point) (values : List Value) (statement : Stmt) (rest : List Stmt)
      → Stands point statement rest → asks statement point.machine ≡ true
      → kept_by start statement point.machine + needed_by statement ≤ reading.size → leaving ≡ false → (refill : Refill)
      → refill_at reading start point.machine.limit ≡ refill
      → match_from piece reading start all (stand_at point values) ≡ refilled_by piece reading start (match_from piece reading start fuel)
      (stand_at point values) statement rest refill
  match_from-refilled fuel all is point values statement rest stands asking room unleft refill told =
      let going : Stand → MatchEnd = match_from piece reading start fuel in
      let stand : Stand = stand_at point values in
      match_from-answered fuel all is stand statement rest stands asking room
      ∙ ap
      (λ (leaves : Bool). if leaves then going (stand_back piece reading start stand) else refilled_by piece reading start going stand statement rest (refill_at reading start point.machine.limit)) unleft
      ∙ ap (refilled_by piece reading start going stand statement rest) told

  pub refill_at-more : (limit count : ℕ) → IsMore reading start leaving limit count → refill_at reading start limit ≡ more 0 count
  refill_at-more limit count more_units =
      let below : (limit == length reading.stream) ≡ false =
      ne_eqb limit (length reading.stream) (λ same. let b = more_units.below in omega (arith, b, same)) in
      ap (λ (whole : Bool). if whole then no_more else more 0 (added reading start limit)) below ∙ ap (more 0) (sym more_units.count_is)

  pub refill_at-no_more : (limit : ℕ) → limit ≡ length reading.stream → refill_at reading start limit ≡ no_more
  refill_at-no_more limit whole =
      ap (λ (whole : Bool). if whole then no_more else more 0 (added reading start limit)) (eq-eqb limit (length reading.stream) whole)

  -- ---- which turns a statement takes

  -- something is left before the count of a loop
  measure-some : (point : Point) (statement : Stmt) (rest : List Stmt) → Stands point statement rest
      → point.machine.limit ≤ length reading.stream
      → 0 < measure point.machine.limit point.steps
  measure-some point statement rest stands within = omega (arith, measure-step point.machine.limit point.steps within stands.unlooped)

  HasLimit-after : (next : Next) (limit : ℕ) → (machine_after next).limit ≡ limit → HasLimit next limit
  HasLimit-after (goes_on code machine answers) limit is = is
  HasLimit-after (ends stuck machine) limit is = tt
  HasLimit-after (ends outcome machine) limit is = is

  fewer-quiet : (point : Point) (statement : Stmt) (rest : List Stmt) (next : Next) → Stands point statement rest
      → point.machine.limit ≤ length reading.stream
      → (machine_after next).limit ≡ point.machine.limit → 1 + measure_after point.steps next ≤ measure point.machine.limit point.steps
  fewer-quiet point statement rest (goes_on code machine answers) stands within is =
      let same : measure machine.limit (suc point.steps) ≡ measure point.machine.limit (suc point.steps) =
      ap (λ n. measure n (suc point.steps)) is in
      omega (arith, same, measure-step point.machine.limit point.steps within stands.unlooped)
  fewer-quiet point statement rest (ends outcome machine) stands within is = omega (arith, measure-some point statement rest stands within)

  -- a statement that asks no refill takes one turn
  Takes-quiet : (point : Point) (statement : Stmt) (rest : List Stmt) (next : Next) → Stands point statement rest
      → point.machine.limit ≤ length reading.stream → asks statement point.machine ≡ false
      → step piece reading.stream statement rest point.machine [] ≡ next → (machine_after next).limit ≡ point.machine.limit
      → Takes point statement [] next point.machine.limit
  Takes-quiet point statement rest next stands within quiet is limit = record {
    turns = 1;
    fewer = fewer-quiet point statement rest next stands within limit;
    limits = HasLimit-after next point.machine.limit limit;
    same = λ fuel all sum values. match_from-stepped fuel all sum (stand_at point values) statement rest stands quiet
        ∙ ap (on_from piece reading start (match_from piece reading start fuel) (stand_at point values) statement []) is;
  }

  -- where a refill was answered, the window has room for it
  abbrev HasRoom : List Answer → Stmt → Machine → Type 0
  HasRoom [] statement machine = Unit {0}
  HasRoom (answer ∷ answers) statement machine = kept_by start statement machine + needed_by statement ≤ reading.size

  HasRoom-any : (answers : List Answer) (statement : Stmt) (machine : Machine)
      → kept_by start statement machine + needed_by statement ≤ reading.size → HasRoom answers statement machine
  HasRoom-any [] statement machine room = tt
  HasRoom-any (answer ∷ answers) statement machine room = room

  -- a Need goes to no other block
  goes_to-need : (units : ℕ) (used : List Answer) (machine : Machine) → goes_to piece.table used (Need units) machine ≡ None
  goes_to-need units [] machine = refl
  goes_to-need units (refilled (more dropped added) ∷ used) machine = refl
  goes_to-need units (refilled no_more ∷ used) machine = refl
  goes_to-need units (left refills ∷ used) machine = refl

  -- behind a Need it matters neither which answers it had, nor where the limit was
  on_from-need : (going : Stand → MatchEnd) (point : Point) (values : List Value) (units limit : ℕ) (used others : List Answer)
      (next : Next)
      → on_from piece reading start going (stand_at (limited limit point) values)
      (Need units) used next ≡ on_from piece reading start going (stand_at point values) (Need units) others next
  on_from-need going point values units limit used others (goes_on code machine answers) =
      let same : goes_to piece.table used (Need units) (limited limit point).machine ≡ goes_to piece.table others (Need units) point.machine =
      goes_to-need units used (limited limit point).machine ∙ sym (goes_to-need units others point.machine) in
      ap (λ target. going (stand_at (record {
        place = place_after point.place target;
        code = code;
        machine = machine;
        steps = suc point.steps;
        assigned = with_statement point.place (Need units) point.assigned;
      }) values)) same
  on_from-need going point values units limit used others (ends outcome machine) = refl

  -- a Need by whether it has its units
  abbrev need_next : List Stmt → Machine → List Answer → (otherwise : Next) → Bool → Next
  need_next rest machine answers otherwise found = if found then goes_on rest machine answers else otherwise

  -- the machine with so many units more
  abbrev with_units : Machine → (count : ℕ) → Machine
  with_units machine count = record machine { limit = machine.limit + count }

  -- a Need takes a turn for each refill that brings units, and one more
  Takes-need : (units : ℕ) (rest : List Stmt) (used : List Answer) (point : Point) (limit' : ℕ) (next : Next)
      → Stands point (Need units) rest → point.machine.limit ≤ length reading.stream
      → HasRoom used (Need units) point.machine → AreGiven reading start leaving point.machine.limit used limit'
      → need piece.blocks units rest point.machine used ≡ next → IsAnswered next
      → Takes point (Need units) used next limit'
  Takes-need units rest [] point limit' next stands within room given is answers = by (has_units units point.machine) refl where
    by : (found : Bool) → has_units units point.machine ≡ found → Takes point (Need units) [] next limit'
    by true found =
        let next_is : next ≡ goes_on rest point.machine [] =
        sym is ∙ ap (need_next rest point.machine [] (ends unanswered point.machine)) found in
        subst (Takes point (Need units) [] next) (sym given)
        (Takes-quiet point (Need units) rest next stands within (ap not found) is (ap (λ one. (machine_after one).limit) next_is))
    by false found =
        let next_is : next ≡ ends unanswered point.machine =
        sym is ∙ ap (need_next rest point.machine [] (ends unanswered point.machine)) found in
        absurd (subst IsAnswered next_is answers)
  Takes-need units rest (refilled no_more ∷ used) point limit' next stands within room given is answers = by (has_units units point.machine) refl where
    by : (found : Bool) → has_units units point.machine ≡ found → Takes point (Need units) (refilled no_more ∷ used) next limit'
    by true found =
        absurd
        (let next_is : next ≡ goes_on rest point.machine (refilled no_more ∷ used) = sym is ∙ ap (need_next rest point.machine (refilled no_more ∷ used) (ends at_end point.machine)) found in subst IsAnswered next_is answers)
    by false found =
        let next_is : next ≡ ends at_end point.machine =
        sym is ∙ ap (need_next rest point.machine (refilled no_more ∷ used) (ends at_end point.machine)) found in
        subst (λ one. Takes point (Need units) (refilled no_more ∷ used) one limit') (sym next_is) (record {
          turns = 1;
          fewer = omega (arith, measure-some point (Need units) rest stands within);
          limits = sym (AreGiven-whole reading start leaving used point.machine.limit limit' given.1 given.0.whole);
          same = λ fuel all sum values.
              match_from-refilled fuel all sum point values (Need units) rest stands (ap not found) room given.0.unleft no_more
              (refill_at-no_more point.machine.limit given.0.whole)
              ∙ ap
              (λ (f : Bool). on_from piece reading start (match_from piece reading start fuel) (stand_at point values) (Need units) (refilled no_more ∷ [])
              (need_next rest point.machine (refilled no_more ∷ []) (ends at_end point.machine) f)) found;
        })
  Takes-need units rest (refilled (more dropped count) ∷ used) point limit' next stands within room given is answers =
      let limit : ℕ = point.machine.limit in
      let grows : loop_count piece start limit ≤ loop_count piece start (limit + count) =
      loop_count-grows piece start limit (limit + count) (omega arith) in
      by (has_units units point.machine) refl
      (λ onward. Takes-need units rest used (limited (limit + count) point) limit' next (record { code = stands.code; unlooped = omega (arith, stands.unlooped, grows) })
      (omega (arith, given.0.below, given.0.count_is))
      (HasRoom-any used (Need units) (with_units point.machine count) room) given.1 onward answers)
    where
      by : (found : Bool) → has_units units point.machine ≡ found
          → (need piece.blocks units rest (with_units point.machine count) used ≡ next → Takes (limited (point.machine.limit + count) point) (Need units) used next limit')
          → Takes point (Need units) (refilled (more dropped count) ∷ used) next limit'
      by true found behind =
          let onward : Next = need piece.blocks units rest (with_units point.machine count) used in
          let next_is : next ≡ goes_on rest point.machine (refilled (more dropped count) ∷ used) =
          sym is ∙ ap (need_next rest point.machine (refilled (more dropped count) ∷ used) onward) found in
          absurd (subst IsAnswered next_is answers)
      by false found behind =
          let limit : ℕ = point.machine.limit in
          let onward : Next = need piece.blocks units rest (with_units point.machine count) used in
          let takes = behind (sym (ap (need_next rest point.machine (refilled (more dropped count) ∷ used) onward) found) ∙ is) in
          record {
            turns = suc takes.turns;
            fewer = omega (arith, takes.fewer, measure-more limit count point.steps point.steps given.0);
            limits = takes.limits;
            same = λ fuel all sum values.
                match_from-refilled (takes.turns + fuel) all (omega (arith, sum)) point values (Need units) rest stands
                (ap not found) room given.0.unleft (more 0 count) (refill_at-more limit count given.0)
                ∙ takes.same fuel (takes.turns + fuel) refl values
                ∙ on_from-need (match_from piece reading start fuel) point values units (limit + count) used
                (refilled (more dropped count) ∷ used) next;
          }
  Takes-need units rest (left refills ∷ used) point limit' next stands within room given is answers = absurd given

  -- a Try takes one turn
  Takes-try : (block : ℕ) (rest : List Stmt) (answer : Answer) (used : List Answer) (point : Point) (limit' : ℕ) (next : Next)
      → Stands point (Try block) rest
      → point.machine.limit ≤ length reading.stream → kept_by start (Try block) point.machine + 1 ≤ reading.size
      → AreGiven reading start leaving point.machine.limit (answer ∷ used) limit'
      → try piece.blocks (code_at piece.blocks (Some block)) rest point.machine (answer ∷ used) ≡ next → IsAnswered next
      → Takes point (Try block) (answer ∷ used) next limit'
  Takes-try block rest (refilled no_more) [] point limit' next stands within room given is answers =
      let limit : limit' ≡ point.machine.limit = given.1 in
      subst (λ one. Takes point (Try block) (refilled no_more ∷ []) one limit') is (record {
        turns = 1;
        fewer = fewer-quiet point (Try block) rest (goes_on rest point.machine []) stands within refl;
        limits = sym limit;
        same = λ fuel all sum values.
            match_from-refilled fuel all sum point values (Try block) rest stands refl room given.0.unleft no_more
            (refill_at-no_more point.machine.limit given.0.whole);
      })
  Takes-try block rest (refilled no_more) (other ∷ used) point limit' next stands within room given is answers =
      absurd (subst IsAnswered (sym is) answers)
  Takes-try block rest (refilled (more dropped count)) used point limit' next stands within room given is answers = by (code_at piece.blocks (Some block)) refl where
    turn : (fuel all : ℕ) → all ≡ 1 + fuel → (values : List Value) (code : Option (List Stmt)) → code_at piece.blocks (Some block) ≡ code
        → match_from piece reading start all (stand_at point values)
        ≡ on_from piece reading start (match_from piece reading start fuel) (stand_at point values) (Try block)
        (refilled (more 0 count) ∷ []) (jump code (with_units point.machine count) [])
    turn fuel all sum values code found =
        match_from-refilled fuel all sum point values (Try block) rest stands refl room given.0.unleft (more 0 count)
        (refill_at-more point.machine.limit count given.0)
        ∙ ap
        (λ target. on_from piece reading start (match_from piece reading start fuel) (stand_at point values) (Try block) (refilled (more 0 count) ∷ []) (jump target (with_units point.machine count) [])) found

    found_by : (code : List Stmt) (others : List Answer) → code_at piece.blocks (Some block) ≡ Some code
        → AreGiven reading start leaving (point.machine.limit + count) others limit'
        → IsAnswered (goes_on code (with_units point.machine count) others)
        → Takes point (Try block) (refilled (more dropped count) ∷ others) (goes_on code (with_units point.machine count) others) limit'
    found_by code [] found rests answered_all = record {
      turns = 1;
      fewer = omega (arith, measure-more point.machine.limit count point.steps (suc point.steps) given.0);
      limits = sym rests;
      same = λ fuel all sum values. turn fuel all sum values (Some code) found;
    }
    found_by code (other ∷ others) found rests answered_all = absurd answered_all

    by : (code : Option (List Stmt)) → code_at piece.blocks (Some block) ≡ code
        → Takes point (Try block) (refilled (more dropped count) ∷ used) next limit'
    by None found =
        let next_is : next ≡ ends stuck (with_units point.machine count) =
        sym is ∙ ap (λ target. jump target (with_units point.machine count) used) found in
        subst (λ one. Takes point (Try block) (refilled (more dropped count) ∷ used) one limit') (sym next_is) (record {
          turns = 1;
          fewer = omega (arith, measure-some point (Try block) rest stands within);
          limits = tt;
          same = λ fuel all sum values. turn fuel all sum values None found;
        })
    by (Some code) found =
        let next_is : next ≡ goes_on code (with_units point.machine count) used =
        sym is ∙ ap (λ target. jump target (with_units point.machine count) used) found in
        subst (λ one. Takes point (Try block) (refilled (more dropped count) ∷ used) one limit') (sym next_is)
        (found_by code used found given.1 (subst IsAnswered next_is answers))
  Takes-try block rest (left refills) used point limit' next stands within room given is answers = absurd given

  -- each statement that is made, with all answers that it had
  pub Takes-made : (point : Point) (statement : Stmt) (rest : List Stmt) (used : List Answer) (next : Next) (limit' : ℕ)
      → Makes piece reading.stream start reading.size point statement rest used next
      → point.machine.limit ≤ length reading.stream → AreGiven reading start leaving point.machine.limit used limit' → IsAnswered next
      → Takes point statement used next limit'
  Takes-made point (Need units) rest [] next limit' made within given answers =
      Takes-need units rest [] point limit' next made.stands within tt given made.step answers
  Takes-made point (Need units) rest (answer ∷ used) next limit' made within given answers =
      Takes-need units rest (answer ∷ used) point limit' next made.stands within made.asked.room given made.step answers
  Takes-made point (Try block) rest [] next limit' made within given answers = absurd (subst IsAnswered (sym made.step) answers)
  Takes-made point (Try block) rest (answer ∷ used) next limit' made within given answers =
      Takes-try block rest answer used point limit' next made.stands within made.asked.room given made.step answers
  Takes-made point statement rest [] next limit' made within given answers =
      subst (Takes point statement [] next) (sym given)
      (Takes-quiet point statement rest next made.stands within refl made.step
      (ap (λ one. (machine_after one).limit) (sym made.step) ∙ (ChangesOnly-step piece reading.stream rest point.machine [] statement).limit refl))
  Takes-made point statement rest (answer ∷ used) next limit' made within given answers = absurd made.asked.asking

  -- ---- from point to point

  -- the match comes from one point to another in so many turns
  pub record Comes (from point : Point) (limit' : ℕ) : Type 0 where
    pub turns : ℕ
    pub fewer : turns + measure point.machine.limit point.steps ≤ measure from.machine.limit from.steps
    pub limit_is : point.machine.limit ≡ limit'
    pub same : (fuel all : ℕ) → all ≡ turns + fuel → (values : List Value)
        → match_from piece reading start all (stand_at from values) ≡ match_from piece reading start fuel (stand_at point values)

  Comes-waits : (from point : Point) (units : ℕ) (rest : List Stmt) (dropped count limit limit' : ℕ) → Comes from point limit
      → Stands point (Need units) rest
      → Asks start reading.size (Need units) point.machine
      → AreGiven reading start leaving limit (refilled (more dropped count) ∷ []) limit'
      → Comes from (limited (point.machine.limit + count) point) limit'
  Comes-waits from point units rest dropped count limit limit' comes stands asks given =
      let more_units : IsMore reading start leaving point.machine.limit count = rw comes.limit_is given.0 in
      record {
        turns = suc comes.turns;
        fewer = omega (arith, comes.fewer, measure-more point.machine.limit count point.steps point.steps more_units);
        limit_is = ap (λ n. n + count) comes.limit_is ∙ sym given.1;
        same = λ fuel all sum values.
            comes.same (suc fuel) all (omega (arith, sum)) values
            ∙ match_from-refilled fuel (suc fuel) (omega arith) point values (Need units) rest stands
            (ap not asks.asking) asks.room more_units.unleft (more 0 count)
            (refill_at-more point.machine.limit count more_units);
      }

  Comes-makes : (from point : Point) (statement : Stmt) (rest code : List Stmt) (machine : Machine) (used : List Answer) (limit limit' : ℕ)
      → Comes from point limit → limit ≤ length reading.stream
      → Makes piece reading.stream start reading.size point statement rest used (goes_on code machine [])
      → AreGiven reading start leaving limit used limit'
      → Comes from (point_after piece.table point statement used code machine) limit'
  Comes-makes from point statement rest code machine used limit limit' comes within made given =
      let takes : Takes point statement used (goes_on code machine []) limit' =
      Takes-made point statement rest used (goes_on code machine []) limit' made (rw comes.limit_is within) (rw comes.limit_is given) tt in
      record {
        turns = comes.turns + takes.turns;
        fewer = omega (arith, comes.fewer, takes.fewer);
        limit_is = takes.limits;
        same =
            λ fuel all sum values. comes.same (takes.turns + fuel) all (omega (arith, sum)) values ∙ takes.same fuel
            (takes.turns + fuel) refl values;
      }

  -- where a call led, the match comes
  pub Comes-leads : (from : Point) {point : Point} {answers : List Answer} (limit' : ℕ)
      → LeadsTo piece reading.stream start reading.size from answers point
      → from.machine.limit ≤ length reading.stream → AreGiven reading start leaving from.machine.limit answers limit'
      → Comes from point limit'
  Comes-leads from limit' points.stays within given =
      record { turns = 0; fewer = omega arith; limit_is = sym given; same = λ fuel all sum values. ap (λ n. match_from piece reading start n (stand_at from values)) (omega (arith, sum)) }
  Comes-leads from limit' (points.waits {answers} {others} {point} {units} {rest} dropped count behind stands asks is) within given =
      let parts = AreGiven-parts reading start leaving answers (refilled (more dropped count) ∷ []) from.machine.limit limit'
      (subst (λ all. AreGiven reading start leaving from.machine.limit all limit') is given) in
      Comes-waits from point units rest dropped count parts.middle limit'
      (Comes-leads from parts.middle behind within parts.front) stands asks parts.back
  Comes-leads from limit' (points.makes {answers} {others} {used} {point} {statement} {rest} {code} {machine} behind made is) within given =
      let parts =
      AreGiven-parts reading start leaving answers used from.machine.limit limit'
      (subst (λ all. AreGiven reading start leaving from.machine.limit all limit') is given) in
      Comes-makes from point statement rest code machine used parts.middle limit' (Comes-leads from parts.middle behind within parts.front)
      (AreGiven-within reading start leaving answers from.machine.limit parts.middle parts.front within) made parts.back
