-- Where a match over a window ends: its cursor stands between the start and the limit.
use Rattle.std.proofs.Common.{◌≡◌, ◌∙◌, ap, sym, refl, ℕ, zero, suc, ◌+◌, ◌≤◌, Bool, true, false, not, List, [], ◌∷◌, Option, Some, None, arith, if◌then◌else◌, nat_le, nat_lt}
use Rattle.lx_ccode.specs.declared.piece.Piece.{Piece}
use Rattle.lx_ccode.specs.declared.piece.Stmt.{Stmt}
use Rattle.lx_ccode.specs.declared.piece.Stmt.TheVariants.{Need, Try}
use Rattle.lx_ccode.specs.Effects.{machine_after}
use Rattle.lx_ccode.specs.Machine.{Answer, Machine, Next, Refill, at_end, code_at, ends, goes_on, has_units, jump, more, no_more, refilled, step, unanswered, units_of}
use Rattle.lx_ccode.specs.Runs.{fresh_machine, loop_count}
use Rattle.lx_ccode.specs.Statements.{is_refill}
use Rattle.lx_ccode.proofs.Bounds.{IsWithin, Stays, StaysAfter, stays-step}
use Rattle.lx_ccode.proofs.Steps.{ChangesOnly-step}
use Rattle.lx_step.specs.Points.{kept_by, needed_by}
use Rattle.lx_run.specs.Matches.{MatchEnd, Stand, asked, made, match_from, match_of, on_from, point_back, refilled_by, stand_back, stepped}
use Rattle.lx_run.specs.Readings.{Reading, refill_at}

module _ (piece : Piece) (reading : Reading) (start : ℕ) where
  -- the cursor of the end stands between the start and the limit
  abbrev pub EndsWithin : MatchEnd → Type 0
  EndsWithin end = IsWithin start end.stand.point.machine.limit end.stand.point.machine.cursor

  -- what a machine holds stands between them
  abbrev pub Rests : Machine → Type 0
  Rests machine = Stays start machine.limit machine []

  abbrev RestsAfter : Next → Type 0
  RestsAfter (goes_on code machine answers) = Rests machine
  RestsAfter (ends outcome machine) = IsWithin start machine.limit machine.cursor

  abbrev Holds : (Stand → MatchEnd) → Type 0
  Holds going = (stand : Stand) → Rests stand.point.machine → EndsWithin (going stand)

  Rests-limit : (machine : Machine) (unit : Option ℕ) (count : ℕ) → Rests machine
      → Rests (record machine { unit = unit; limit = machine.limit + count })
  Rests-limit machine unit count rests = record {
    cursor = (rests.cursor.0, let to = rests.cursor.1 in omega (arith, to));
    marker = (rests.marker.0, let to = rests.marker.1 in omega (arith, to));
    registers =
        λ register offset held. let within = rests.registers register offset held in (within.0, let to = within.1 in omega (arith, to));
    limit = omega arith;
  }

  -- a machine as it is but for values and a unit
  Rests-same : (machine other : Machine) → other.cursor ≡ machine.cursor → other.marker ≡ machine.marker → other.limit ≡ machine.limit
      → other.registers ≡ machine.registers → Rests machine → Rests other
  Rests-same machine other cursor marker limit registers rests = record {
    cursor = (let from = rests.cursor.0 in omega (arith, from, cursor), let to = rests.cursor.1 in omega (arith, to, cursor, limit));
    marker = (let from = rests.marker.0 in omega (arith, from, marker), let to = rests.marker.1 in omega (arith, to, marker, limit));
    registers = λ register offset held.
        let within =
        rests.registers register offset (ap (λ all. all register) (sym registers) ∙ held) in
        (within.0, let to = within.1 in omega (arith, to, limit));
    limit = omega arith;
  }

  Rests-fresh : (limit : ℕ) (cond : List ℕ) → start ≤ limit → Rests (fresh_machine start limit cond)
  Rests-fresh limit cond from = record {
    cursor = (omega arith, from);
    marker = (omega arith, from);
    registers = λ register offset held. absurd (let h = held in cc);
    limit = omega arith;
  }

  RestsAfter-same : (next : Next) (limit : ℕ) → StaysAfter start limit next → (machine_after next).limit ≡ limit → RestsAfter next
  RestsAfter-same (goes_on code machine answers) limit stays is =
      record { cursor = stays.cursor; marker = stays.marker; registers = stays.registers; limit = omega arith }
  RestsAfter-same (ends outcome machine) limit within is = rw is within

  RestsAfter-if : (test : Bool) (one other : Next) → RestsAfter one → RestsAfter other → RestsAfter (if test then one else other)
  RestsAfter-if true one other rests others = rests
  RestsAfter-if false one other rests others = others

  RestsAfter-jump : (code : Option (List Stmt)) (machine : Machine) → Rests machine → RestsAfter (jump code machine [])
  RestsAfter-jump None machine rests = rests.cursor
  RestsAfter-jump (Some code) machine rests = rests

  module _ (going : Stand → MatchEnd) (on : Holds going) where
    on_from-within : (stand : Stand) (statement : Stmt) (used : List Answer) (next : Next) → RestsAfter next
        → EndsWithin (on_from piece reading start going stand statement used next)
    on_from-within stand statement used (goes_on code machine answers) rests = on _ rests
    on_from-within stand statement used (ends outcome machine) rests = rests

    if-within : (test : Bool) (one other : MatchEnd) → EndsWithin one → EndsWithin other → EndsWithin (if test then one else other)
    if-within true one other within others = within
    if-within false one other within others = others

    -- a match that was left comes back with what it held
    stand_back-rests : (stand : Stand) (count : ℕ) (state : Option ℕ) → Rests stand.point.machine
        → Rests (point_back piece reading start state stand.point (stand.point.machine.limit + count)).machine
    stand_back-rests stand count None rests =
        Rests-fresh (stand.point.machine.limit + count) stand.point.machine.cond
        (let from = rests.cursor.0 in let to = rests.cursor.1 in omega (arith, from, to))
    stand_back-rests stand count (Some state) rests =
        Rests-same (record stand.point.machine { unit = None; limit = stand.point.machine.limit + count }) _ refl refl refl refl
        (Rests-limit stand.point.machine None count rests)

    -- a statement that asks a refill which is answered
    asked-within : (stand : Stand) (statement : Stmt) (rest : List Stmt) (kept need : ℕ) → Rests stand.point.machine
        → ((refill : Refill) → EndsWithin (refilled_by piece reading start going stand statement rest refill))
        → EndsWithin (asked piece reading start going stand statement rest kept need)
    asked-within stand statement rest kept need rests refills =
        if-within (nat_lt reading.size (kept + need)) _ _ rests.cursor
        (if-within stand.leaving _ _ (on (stand_back piece reading start stand) (stand_back-rests stand (units_of (refill_at reading start stand.point.machine.limit)) stand.point.machine.state rests))
        (refills (refill_at reading start stand.point.machine.limit)))

    need-within : (stand : Stand) (units : ℕ) (rest : List Stmt) → Rests stand.point.machine → (refill : Refill)
        → EndsWithin (refilled_by piece reading start going stand (Need units) rest refill)
    need-within stand units rest rests (more dropped count) = on _ (Rests-limit stand.point.machine stand.point.machine.unit count rests)
    need-within stand units rest rests no_more =
        on_from-within stand (Need units) (refilled no_more ∷ []) _
        (RestsAfter-if (has_units units stand.point.machine) (goes_on rest stand.point.machine (refilled no_more ∷ [])) (ends at_end stand.point.machine) rests rests.cursor)

    try-within : (stand : Stand) (block : ℕ) (rest : List Stmt) → Rests stand.point.machine → (refill : Refill)
        → EndsWithin (refilled_by piece reading start going stand (Try block) rest refill)
    try-within stand block rest rests (more dropped count) =
        on_from-within stand (Try block) (refilled (more dropped count) ∷ []) _
        (RestsAfter-jump (code_at piece.blocks (Some block)) (record stand.point.machine { limit = stand.point.machine.limit + count })
        (Rests-limit stand.point.machine stand.point.machine.unit count rests))
    try-within stand block rest rests no_more =
        on_from-within stand (Try block) (refilled no_more ∷ []) (goes_on rest stand.point.machine []) rests

    -- a statement that asks none
    quiet-within : (stand : Stand) (statement : Stmt) (rest : List Stmt) → is_refill statement ≡ false → Rests stand.point.machine
        → EndsWithin (stepped piece reading start going stand statement rest [])
    quiet-within stand statement rest quiet rests =
        let machine : Machine = stand.point.machine in
        on_from-within stand statement [] (step piece reading.stream statement rest machine [])
        (RestsAfter-same (step piece reading.stream statement rest machine []) machine.limit (stays-step start machine.limit piece reading.stream rest machine [] statement rests)
        ((ChangesOnly-step piece reading.stream rest machine [] statement).limit quiet))

    made-within : (stand : Stand) (code : List Stmt) → Rests stand.point.machine → EndsWithin (made piece reading start going stand code)
    made-within stand [] rests = rests.cursor
    made-within stand (Need units ∷ rest) rests =
        let machine : Machine = stand.point.machine in
        if-within (not (has_units units machine)) _ _
        (asked-within stand (Need units) rest (kept_by start (Need units) machine) (needed_by (Need units)) rests (need-within stand units rest rests))
        (on_from-within stand (Need units) [] _ (RestsAfter-if (has_units units machine) (goes_on rest machine []) (ends unanswered machine) rests rests.cursor))
    made-within stand (Try block ∷ rest) rests =
        asked-within stand (Try block) rest (kept_by start (Try block) stand.point.machine) (needed_by (Try block)) rests
        (try-within stand block rest rests)
    made-within stand (statement ∷ rest) rests = quiet-within stand statement rest refl rests

  match_from-within : (fuel : ℕ) (stand : Stand) → Rests stand.point.machine → EndsWithin (match_from piece reading start fuel stand)
  match_from-within zero stand rests = rests.cursor
  match_from-within (suc fuel) stand rests =
      if-within (match_from piece reading start fuel) (match_from-within fuel)
      (nat_le (loop_count piece start stand.point.machine.limit) stand.point.steps) _ _ rests.cursor
      (made-within (match_from piece reading start fuel) (match_from-within fuel) stand stand.point.code rests)

  pub match_of-within : (cond : List ℕ) (limit : ℕ) (leaving : Bool) → start ≤ limit
      → EndsWithin (match_of piece reading start cond limit leaving)
  unfolding match_of
  match_of-within cond limit leaving from = match_from-within _ _ (Rests-fresh limit cond from)
