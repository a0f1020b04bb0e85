-- Where the units of the window end behind a match: not before where they ended, and in the stream.
use Rattle.std.proofs.Common.{◌≡◌, refl, ℕ, zero, suc, ◌+◌, ◌≤◌, Bool, true, false, not, List, [], ◌∷◌, Option, Some, None, arith, length}
use Rattle.std.specs.Prelude.{if◌then◌else◌, nat_le, nat_lt}
use Rattle.lx_ccode.specs.declared.piece.Piece.{Piece}
use Rattle.lx_ccode.specs.declared.piece.Stmt.{Stmt}
use Rattle.lx_ccode.specs.declared.piece.Stmt.TheVariants.{Need, Try}
use Rattle.lx_ccode.specs.Effects.{machine_after}
use Rattle.lx_ccode.specs.Machine.{Answer, Machine, Next, Refill, at_end, code_at, ends, goes_on, has_units, jump, more, no_more, refilled, step, unanswered, units_of}
use Rattle.lx_ccode.specs.Runs.{loop_count}
use Rattle.lx_ccode.specs.Statements.{is_refill}
use Rattle.lx_ccode.proofs.Steps.{ChangesOnly-step}
use Rattle.lx_step.specs.declared.answers.Outcome.{Outcome}
use Rattle.lx_step.specs.Points.{Point, kept_by, needed_by}
use Rattle.lx_run.specs.Matches.{MatchEnd, Stand, asked, ended, made, match_from, match_of, on_from, point_back, refilled_by, stand_back, stepped}
use Rattle.lx_run.specs.Readings.{Reading, added, is_whole, refill_at}

module _ (piece : Piece) (reading : Reading) (start : ℕ) where
  abbrev total : ℕ
  total = length reading.stream

  -- the end of a match that stood at this limit, and would leave the scanner or would not
  pub record EndsBehind (limit : ℕ) (leaving : Bool) (end : MatchEnd) : Type 0 where
    pub rises : limit ≤ end.stand.point.machine.limit
    pub within : end.stand.point.machine.limit ≤ total
    pub leaves : end.stand.leaving ≡ true → leaving ≡ true

  EndsBehind-less : (limit other : ℕ) (leaving : Bool) (end : MatchEnd) → limit ≤ other → EndsBehind other leaving end → EndsBehind limit leaving end
  EndsBehind-less limit other leaving end less behind = record {
    rises = let rises = behind.rises in omega (arith, less, rises);
    within = behind.within;
    leaves = behind.leaves;
  }

  abbrev EndsSo : Stand → MatchEnd → Type 0
  EndsSo stand end = EndsBehind stand.point.machine.limit stand.leaving end

  abbrev Follows : (Stand → MatchEnd) → Type 0
  Follows going = (stand : Stand) → stand.point.machine.limit ≤ total → EndsSo stand (going stand)

  -- a refill adds no more than there is
  refill-within : (limit : ℕ) → limit ≤ total → limit + units_of (refill_at reading start limit) ≤ total
  refill-within limit within = by (is_whole reading start limit) where
    by : (whole : Bool) → limit + units_of (if whole then no_more else more 0 (added reading start limit)) ≤ total
    by true = omega (arith, within)
    by false = omega (arith, within)

  point_back-limit : (state : Option ℕ) (point : Point) (limit : ℕ) → (point_back piece reading start state point limit).machine.limit ≡ limit
  point_back-limit None point limit = refl
  point_back-limit (Some state) point limit = refl

  jump-limit : (code : Option (List Stmt)) (machine : Machine) → (machine_after (jump code machine [])).limit ≡ machine.limit
  jump-limit None machine = refl
  jump-limit (Some code) machine = refl

  if-limit : (test : Bool) (one other : Next) (limit : ℕ) → (machine_after one).limit ≡ limit → (machine_after other).limit ≡ limit
      → (machine_after (if test then one else other)).limit ≡ limit
  if-limit true one other limit same others = same
  if-limit false one other limit same others = others

  ended-behind : (told : Outcome) (stand : Stand) → stand.point.machine.limit ≤ total → EndsSo stand (ended told stand stand.point.machine)
  ended-behind told stand within = record { rises = omega arith; within = within; leaves = λ leaves. leaves }

  module _ (going : Stand → MatchEnd) (on : Follows going) where
    on_from-behind : (stand : Stand) (statement : Stmt) (used : List Answer) (next : Next) (limit : ℕ) → stand.point.machine.limit ≤ limit → limit ≤ total
        → (machine_after next).limit ≡ limit → EndsSo stand (on_from piece reading start going stand statement used next)
    on_from-behind stand statement used (goes_on code machine answers) limit rises within is =
        EndsBehind-less stand.point.machine.limit machine.limit stand.leaving _ (omega (arith, rises, is)) (on _ (omega (arith, within, is)))
    on_from-behind stand statement used (ends outcome machine) limit rises within is = record {
      rises = omega (arith, rises, is);
      within = omega (arith, within, is);
      leaves = λ leaves. leaves;
    }

    if-behind : (stand : Stand) (test : Bool) (one other : MatchEnd) → EndsSo stand one → EndsSo stand other → EndsSo stand (if test then one else other)
    if-behind stand true one other behind others = behind
    if-behind stand false one other behind others = others

    -- a match that was left comes back
    stand_back-behind : (stand : Stand) → stand.point.machine.limit ≤ total → stand.leaving ≡ true → EndsSo stand (going (stand_back piece reading start stand))
    stand_back-behind stand within leaving =
        let limit : ℕ = stand.point.machine.limit in
        let is = point_back-limit stand.point.machine.state stand.point (limit + units_of (refill_at reading start limit)) in
        let most = refill-within limit within in
        let behind = on (stand_back piece reading start stand) (omega (arith, is, most)) in
        let rises = behind.rises in
        record { rises = omega (arith, is, rises); within = behind.within; leaves = λ leaves. leaving }

    -- a statement that asks a refill which is answered
    asked-behind : (stand : Stand) (statement : Stmt) (rest : List Stmt) (kept need : ℕ) → stand.point.machine.limit ≤ total
        → ((refill : Refill) → stand.point.machine.limit + units_of refill ≤ total → EndsSo stand (refilled_by piece reading start going stand statement rest refill))
        → EndsSo stand (asked piece reading start going stand statement rest kept need)
    asked-behind stand statement rest kept need within refills =
        if-behind stand (nat_lt reading.size (kept + need)) _ _ (ended-behind _ stand within) (by stand.leaving refl) where
          by : (test : Bool) → stand.leaving ≡ test
              → EndsSo stand (if test then going (stand_back piece reading start stand)
              else refilled_by piece reading start going stand statement rest (refill_at reading start stand.point.machine.limit))
          by true leaving = stand_back-behind stand within leaving
          by false leaving = refills (refill_at reading start stand.point.machine.limit) (refill-within stand.point.machine.limit within)

    need-behind : (stand : Stand) (units : ℕ) (rest : List Stmt) → stand.point.machine.limit ≤ total → (refill : Refill)
        → stand.point.machine.limit + units_of refill ≤ total → EndsSo stand (refilled_by piece reading start going stand (Need units) rest refill)
    need-behind stand units rest within (more dropped count) most =
        EndsBehind-less stand.point.machine.limit (stand.point.machine.limit + count) stand.leaving _ (omega arith) (on _ most)
    need-behind stand units rest within no_more most =
        on_from-behind stand (Need units) (refilled no_more ∷ []) _ stand.point.machine.limit (omega arith) within
        (if-limit (has_units units stand.point.machine) (goes_on rest stand.point.machine (refilled no_more ∷ [])) (ends at_end stand.point.machine)
        stand.point.machine.limit refl refl)

    try-behind : (stand : Stand) (block : ℕ) (rest : List Stmt) → stand.point.machine.limit ≤ total → (refill : Refill)
        → stand.point.machine.limit + units_of refill ≤ total → EndsSo stand (refilled_by piece reading start going stand (Try block) rest refill)
    try-behind stand block rest within (more dropped count) most =
        on_from-behind stand (Try block) (refilled (more dropped count) ∷ []) _ (stand.point.machine.limit + count) (omega arith) most
        (jump-limit (code_at piece.blocks (Some block)) (record stand.point.machine { limit = stand.point.machine.limit + count }))
    try-behind stand block rest within no_more most =
        on_from-behind stand (Try block) (refilled no_more ∷ []) (goes_on rest stand.point.machine []) stand.point.machine.limit (omega arith) within refl

    -- a statement that asks none
    quiet-behind : (stand : Stand) (statement : Stmt) (rest : List Stmt) → is_refill statement ≡ false → stand.point.machine.limit ≤ total
        → EndsSo stand (stepped piece reading start going stand statement rest [])
    quiet-behind stand statement rest quiet within =
        on_from-behind stand statement [] (step piece reading.stream statement rest stand.point.machine []) stand.point.machine.limit (omega arith) within
        ((ChangesOnly-step piece reading.stream rest stand.point.machine [] statement).limit quiet)

    made-behind : (stand : Stand) (code : List Stmt) → stand.point.machine.limit ≤ total → EndsSo stand (made piece reading start going stand code)
    made-behind stand [] within = ended-behind _ stand within
    made-behind stand (Need units ∷ rest) within =
        let machine : Machine = stand.point.machine in
        if-behind stand (not (has_units units machine)) _ _
        (asked-behind stand (Need units) rest (kept_by start (Need units) machine) (needed_by (Need units)) within (need-behind stand units rest within))
        (on_from-behind stand (Need units) [] _ machine.limit (omega arith) within
        (if-limit (has_units units machine) (goes_on rest machine []) (ends unanswered machine) machine.limit refl refl))
    made-behind stand (Try block ∷ rest) within =
        asked-behind stand (Try block) rest (kept_by start (Try block) stand.point.machine) (needed_by (Try block)) within
        (try-behind stand block rest within)
    made-behind stand (statement ∷ rest) within = quiet-behind stand statement rest refl within

  match_from-behind : (fuel : ℕ) (stand : Stand) → stand.point.machine.limit ≤ total → EndsSo stand (match_from piece reading start fuel stand)
  match_from-behind zero stand within = ended-behind _ stand within
  match_from-behind (suc fuel) stand within =
      if-behind (match_from piece reading start fuel) (match_from-behind fuel) stand
      (nat_le (loop_count piece start stand.point.machine.limit) stand.point.steps) _ _ (ended-behind _ stand within)
      (made-behind (match_from piece reading start fuel) (match_from-behind fuel) stand stand.point.code within)

  pub match_of-behind : (cond : List ℕ) (limit : ℕ) (leaving : Bool) → limit ≤ total
      → EndsBehind limit leaving (match_of piece reading start cond limit leaving)
  unfolding match_of
  match_of-behind cond limit leaving within = match_from-behind _ _ within
