-- The run of a match through the points of a call, behind values that were given before it.
use Rattle.std.proofs.Common.{◌≡◌, ◌∙◌, ap, refl, sym, subst, ℕ, suc, ◌+◌, ◌-◌, ◌<◌, ◌≤◌, ◌⊎◌, inl, inr, false, List, [], ◌∷◌, ◌++◌, Option, Some, None, arith, le-leb}
use Rattle.std.specs.Prelude.{map, if◌then◌else◌}
use Rattle.std.proofs.lemmas.Bool.{lt-leb}
use Rattle.std.proofs.lemmas.List.{append-nil, append_assoc, map-append}
use Rattle.std.proofs.Math.Nat.{mul-le-mul_left, mul-le-mul_right}
use Rattle.lx_ccode.specs.declared.piece.Piece.{Piece}
use Rattle.lx_ccode.specs.declared.piece.Stmt.{Stmt}
use Rattle.lx_ccode.specs.declared.piece.Stmt.TheVariants.{Need, Try}
use Rattle.lx_ccode.specs.Machine.{Answer, Machine, Refill, Value, code_at, come_back, ends, goes_on, has_units, jump, left, looped, more, need, refilled, step, stored_block, stuck, unanswered, units_of_all}
use Rattle.lx_ccode.specs.Runs.{Ended, IsRun, ended, last_step, loop_count, loop_step, next_step, no_code}
use Rattle.lx_ccode.specs.Statements.{statement_count}
use Rattle.lx_step.specs.declared.answers.Outcome.{Outcome}
use Rattle.lx_step.specs.declared.answers.Outcome.TheVariants as outcome
use Rattle.lx_step.specs.Advances.{EndsAs, HasNoCode, IsLastStep}
use Rattle.lx_step.specs.Calls.{IsEnd, undropped}
use Rattle.lx_step.specs.Entries.{machine_back}
use Rattle.lx_step.specs.Left.{Left}
use Rattle.lx_step.specs.Points.{Asks, IsAsking, LeadsTo, Makes, Point, StandsBefore, code_or_none, makes, stays, waits}
use Rattle.lx_step.specs.Steps.{outcome_of}
use Rattle.lx_step.proofs.ResumedSteps.{IsAnswered, behind, between, between-step}

-- with more units a match may make more steps
loop_count-more : (piece : Piece) (start limit added : ℕ) → loop_count piece start limit ≤ loop_count piece start (limit + added)
loop_count-more piece start limit added =
    let grows : (limit - start) + 2 ≤ ((limit + added) - start) + 2 = omega arith in
    mul-le-mul_right (statement_count piece.blocks) (mul-le-mul_left 2 grows)

module _ (piece : Piece) (stream : List ℕ) (start : ℕ) where
  -- from here a match ends so: the steps are the count of a loop, or they are not yet, and a run leads to the end
  abbrev pub EndsFrom : (steps : ℕ) → List Stmt → Machine → List Answer → Ended → Type 0
  EndsFrom steps code machine answers end =
      ((loop_count piece start machine.limit ≤ steps) × (end ≡ ended looped machine))
      ⊎ ((steps < loop_count piece start machine.limit) × IsRun piece stream start steps code machine answers end)

  -- a step, and what comes from where it went on
  pub IsRun-step : (steps : ℕ) (statement : Stmt) (rest code : List Stmt) (machine after : Machine) (answers others : List Answer) (end : Ended)
      → step piece stream statement rest machine answers ≡ goes_on code after others → EndsFrom (suc steps) code after others end
      → IsRun piece stream start steps (statement ∷ rest) machine answers end
  IsRun-step steps statement rest code machine after answers others end made (inl (count, is)) =
      subst (λ one. IsRun piece stream start steps (statement ∷ rest) machine answers one) (sym is) (loop_step made (le-leb _ _ count))
  IsRun-step steps statement rest code machine after answers others end made (inr (few, run)) = next_step made (lt-leb _ _ few) run

  -- ---- a refill that only moves the limit

  module _ (steps units : ℕ) (rest : List Stmt) (machine : Machine) (added : ℕ) (others : List Answer) (few : has_units units machine ≡ false) where
    abbrev moved : Machine
    moved = record machine { limit = machine.limit + added }

    asked : step piece stream (Need units) rest machine (refilled (more 0 added) ∷ others) ≡ step piece stream (Need units) rest moved others
    asked = ap (λ found. if found then goes_on rest machine (refilled (more 0 added) ∷ others) else need piece.blocks units rest moved others) few

    IsRun-waits : (end : Ended) → IsRun piece stream start steps (Need units ∷ rest) moved others end
        → IsRun piece stream start steps (Need units ∷ rest) machine (refilled (more 0 added) ∷ others) end
    IsRun-waits end (last_step made) = last_step (asked ∙ made)
    IsRun-waits end (loop_step made count) = loop_step (asked ∙ made) count
    IsRun-waits end (next_step made count run) = next_step (asked ∙ made) count run

    pub EndsFrom-waits : (code : List Stmt) (end : Ended) → code ≡ Need units ∷ rest → steps < loop_count piece start machine.limit → EndsFrom steps code moved others end
        → EndsFrom steps code machine (refilled (more 0 added) ∷ others) end
    EndsFrom-waits code end is unlooped (inl (count, same)) = absurd (omega (arith, loop_count-more piece start machine.limit added, count, unlooped))
    EndsFrom-waits code end is unlooped (inr (fewer, run)) = inr (
      unlooped,
      subst (λ one. IsRun piece stream start steps one machine (refilled (more 0 added) ∷ others) end) (sym is)
          (IsRun-waits end (subst (λ one. IsRun piece stream start steps one moved others end) is run)),
    )

  module _ (size : ℕ) (front : List Value) where
    -- from a point, with these answers
    abbrev EndsAt : Point → List Answer → Ended → Type 0
    EndsAt point answers end = EndsFrom point.steps point.code (behind front point.machine) answers end

    -- ---- a statement that is made

    EndsAt-makes : (point : Point) (statement : Stmt) (rest code : List Stmt) (used others : List Answer) (machine : Machine) (end : Ended)
        → Makes piece stream start size point statement rest used (goes_on code machine [])
        → EndsFrom (suc point.steps) code (behind front machine) others end → EndsAt point (map undropped used ++ others) end
    EndsAt-makes point statement rest code used others machine end made later =
        let here : step piece stream statement rest (behind front point.machine) (map undropped used ++ others) ≡ goes_on code (behind front machine) others =
        between-step front others piece stream rest point.machine used statement (subst IsAnswered (sym made.step) tt) ∙ ap (between front others) made.step in
        inr (
          made.stands.unlooped,
          subst (λ one. IsRun piece stream start point.steps one (behind front point.machine) (map undropped used ++ others) end) (sym made.stands.code)
              (IsRun-step point.steps statement rest code (behind front point.machine) (behind front machine) (map undropped used ++ others) others end here later),
        )

    answers-behind : (answers used all others : List Answer) → all ≡ answers ++ used → map undropped answers ++ (map undropped used ++ others) ≡ map undropped all ++ others
    answers-behind answers used all others is =
        sym (append_assoc (map undropped answers) (map undropped used) others)
        ∙ ap (λ one. one ++ others) (sym (map-append undropped answers used) ∙ ap (map undropped) (sym is))

    -- what ends so from a point ends so from where the match came from
    pub EndsAt-leads : (from point : Point) (answers others : List Answer) (end : Ended) → LeadsTo piece stream start size from answers point
        → EndsAt point others end → EndsAt from (map undropped answers ++ others) end
    EndsAt-leads from point answers others end stays later = later
    EndsAt-leads from point all others end (waits {answers} {point = before} {units} {rest} dropped added leads stands asks is) later =
        subst (λ one. EndsAt from one end) (answers-behind answers (refilled (more dropped added) ∷ []) all others is)
        (EndsAt-leads from before answers (refilled (more 0 added) ∷ others) end leads
        (EndsFrom-waits before.steps units rest (behind front before.machine) added others asks.asking before.code end stands.code stands.unlooped later))
    EndsAt-leads from point all others end (makes {answers} {used} {point = before} {statement} {rest} {code} {machine} leads made is) later =
        subst (λ one. EndsAt from one end) (answers-behind answers used all others is)
        (EndsAt-leads from before answers (map undropped used ++ others) end leads (EndsAt-makes before statement rest code used others machine end made later))

    -- ---- the end of a match

    EndsAt-last : (told : Outcome) (point : Point) (used : List Answer) (last : Machine) → (outcome_of told ≡ unanswered → ⊥)
        → IsLastStep piece stream start size point told used last → EndsAt point (map undropped used) (ended (outcome_of told) (behind front last))
    EndsAt-last told point used last some ending =
        let here : step piece stream ending.statement ending.rest (behind front point.machine) (map undropped used ++ []) ≡ ends (outcome_of told) (behind front last) =
        between-step front [] piece stream ending.rest point.machine used ending.statement (subst IsAnswered (sym ending.made.step) some) ∙ ap (between front []) ending.made.step in
        inr (
          ending.made.stands.unlooped,
          subst (λ one. IsRun piece stream start point.steps one (behind front point.machine) (map undropped used) (ended (outcome_of told) (behind front last))) (sym ending.made.stands.code)
              (last_step (ap (step piece stream ending.statement ending.rest (behind front point.machine)) (sym (append-nil (map undropped used))) ∙ here)),
        )

    EndsAt-no_code : (point : Point) (used : List Answer) (last : Machine) → HasNoCode piece stream start size point used last
        → EndsAt point (map undropped used) (ended stuck (behind front last))
    EndsAt-no_code point used last none = inr (
      none.unlooped,
      subst (λ one. IsRun piece stream start point.steps point.code (behind front point.machine) (map undropped used) (ended stuck (behind front one))) (sym none.stays)
          (subst (λ one. IsRun piece stream start point.steps one (behind front point.machine) (map undropped used) (ended stuck (behind front point.machine))) (sym none.code) no_code),
    )

    pub EndsAt-told : (told : Outcome) (point : Point) (used : List Answer) (last : Machine) → IsEnd told → EndsAs piece stream start size told point used last
        → EndsAt point (map undropped used) (ended (outcome_of told) (behind front last))
    EndsAt-told outcome.NeedFill point used last end so = absurd end
    EndsAt-told (outcome.WindowFull kept needed all) point used last end so = absurd end
    EndsAt-told outcome.ReadFailed point used last end so = absurd end
    EndsAt-told outcome.Spent point used last end so = absurd end
    EndsAt-told outcome.Memory point used last end so = absurd end
    EndsAt-told outcome.Stuck point used last end (inl ending) = EndsAt-last outcome.Stuck point used last (λ is. absurd cc) ending
    EndsAt-told outcome.Stuck point used last end (inr none) = EndsAt-no_code point used last none
    EndsAt-told outcome.Loop point used last end so = inl (so.looped, ap (λ one. ended looped (behind front one)) so.stays)
    EndsAt-told (outcome.Rule number) point used last end so = EndsAt-last (outcome.Rule number) point used last (λ is. absurd cc) so
    EndsAt-told (outcome.Jump number) point used last end so = EndsAt-last (outcome.Jump number) point used last (λ is. absurd cc) so
    EndsAt-told outcome.NoRule point used last end so = EndsAt-last outcome.NoRule point used last (λ is. absurd cc) so
    EndsAt-told outcome.End point used last end so = EndsAt-last outcome.End point used last (λ is. absurd cc) so

  -- ---- a match that is left, and resumed

  pub come_back-left : (refills : List Refill) (machine : Machine) (others : List Answer) (code : List Stmt) → code_at piece.blocks (stored_block piece.blocks machine.state) ≡ Some code
      → come_back piece.blocks refills machine others ≡ goes_on code (record machine { unit = None; limit = machine.limit + units_of_all refills }) others
  come_back-left refills machine others code is = ap (λ target. jump target (record machine { unit = None; limit = machine.limit + units_of_all refills }) others) is

  pub step-left : (statement : Stmt) (rest : List Stmt) (refills : List Refill) (machine : Machine) (others : List Answer) → IsAsking statement machine
      → step piece stream statement rest machine (left refills ∷ others) ≡ come_back piece.blocks refills machine others
  step-left (Need units) rest refills machine others asking =
      ap (λ found. if found then goes_on rest machine (left refills ∷ others) else come_back piece.blocks refills machine others) asking
  step-left (Try block) rest refills machine others asking = refl
  step-left _ rest refills machine others asking = absurd asking

  pub IsAsking-behind : (front : List Value) (statement : Stmt) (machine : Machine) → IsAsking statement machine → IsAsking statement (behind front machine)
  IsAsking-behind front (Need units) machine asking = asking
  IsAsking-behind front (Try block) machine asking = tt
  IsAsking-behind front _ machine asking = absurd asking

  module _ (size : ℕ) (front : List Value) (point : Point) (statement : Stmt) (rest : List Stmt) (stands : StandsBefore piece stream start size point statement rest) (asks : Asks start size statement point.machine)
      (cursor : ℕ) (cond : List ℕ) (stored : Left) (to : ℕ) (refill : Refill) (others : List Answer) (end : Ended)
      (back : machine_back piece cursor cond stored point.machine.limit ≡ record point.machine { unit = None; values = [] }) (counts : stored.steps ≡ suc point.steps)
      (reaches : point.machine.limit + units_of_all (refill ∷ []) ≡ to) where
    -- the block of the stored state
    abbrev way_back : Option (List Stmt)
    way_back = code_at piece.blocks (stored_block piece.blocks (Some stored.state))

    -- the machine that comes back
    machine-back : behind (front ++ point.machine.values) (machine_back piece cursor cond stored to)
        ≡ record (behind front point.machine) { unit = None; limit = point.machine.limit + units_of_all (refill ∷ []) }
    machine-back =
        let values : List Value = front ++ point.machine.values in
        ap (λ (machine : Machine). record machine { limit = to; values = values ++ [] }) back
        ∙ ap (λ values. record point.machine { unit = None; limit = to; values = values }) (append-nil values)
        ∙ ap (λ limit. record point.machine { unit = None; limit = limit; values = values }) (sym reaches)

    -- the match was left at a point, and ends as it does from where it is resumed
    pub EndsAt-left : (way_back ≡ None → ⊥)
        → EndsFrom stored.steps (code_or_none way_back) (behind (front ++ point.machine.values) (machine_back piece cursor cond stored to)) others end
        → EndsAt size front point (left (refill ∷ []) ∷ others) end
    EndsAt-left way later = by way_back refl where
      by : (found : Option (List Stmt)) → way_back ≡ found → EndsAt size front point (left (refill ∷ []) ∷ others) end
      by None none = absurd (way none)
      by (Some code) is =
          let state : point.machine.state ≡ Some stored.state = sym (ap (λ (machine : Machine). machine.state) back) in
          let found : code_at piece.blocks (stored_block piece.blocks point.machine.state) ≡ Some code = ap (λ state. code_at piece.blocks (stored_block piece.blocks state)) state ∙ is in
          let after : Machine = record (behind front point.machine) { unit = None; limit = point.machine.limit + units_of_all (refill ∷ []) } in
          let made : step piece stream statement rest (behind front point.machine) (left (refill ∷ []) ∷ others) ≡ goes_on code after others =
          step-left statement rest (refill ∷ []) (behind front point.machine) others (IsAsking-behind front statement point.machine asks.asking)
          ∙ come_back-left (refill ∷ []) (behind front point.machine) others code found in
          let onward : EndsFrom (suc point.steps) code after others end =
          subst (λ steps. EndsFrom steps code after others end) counts
          (subst (λ code. EndsFrom stored.steps code after others end) (ap code_or_none is)
          (subst (λ machine. EndsFrom stored.steps (code_or_none way_back) machine others end) machine-back later)) in
          inr (
            stands.unlooped,
            subst (λ one. IsRun piece stream start point.steps one (behind front point.machine) (left (refill ∷ []) ∷ others) end) (sym stands.code)
                (IsRun-step point.steps statement rest code (behind front point.machine) after (left (refill ∷ []) ∷ others) others end made onward),
          )
