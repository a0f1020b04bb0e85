-- Traces: how they are put together, and the run that they tell.
use Rattle.std.proofs.Common.{◌≡◌, ℕ, zero, suc, ◌+◌, ◌-◌, ◌<◌, ◌≤◌, ◌⊎◌, Bool, true, false, List, [], ◌∷◌, ◌++◌, length, refl, sym, ap, subst, ◌∙◌, inl, inr, arith, append-nil}
use Rattle.std.specs.Prelude.{nat_le}
use Rattle.std.proofs.lemmas.Bool.{leb-true, leb-false}
use Rattle.lx_ccode.specs.declared.piece.Stmt.{Stmt}
use Rattle.lx_ccode.specs.declared.piece.Piece.{Piece}
use Rattle.lx_ccode.specs.Machine.{Machine, Answer, Outcome, looped, Next, goes_on, ends, step}
use Rattle.lx_ccode.specs.Runs.{Ended, ended, loop_count, unless_looped, gone_on, run, IsRun, no_code, last_step, loop_step, next_step}
use Rattle.lx_ccode.specs.Traces.{Trace, with_first, traced, trace, trace_on, IsOver, IsUnderway, IsTold, count_made}

-- what the machine tells where the match has ended
abbrev pub end_of : Next → Ended
end_of (goes_on code machine answers) = ended looped machine
end_of (ends outcome machine) = ended outcome machine

-- statements made one behind another, each counted by itself
pub count_made-append : (test : Stmt → Bool) (made more : List Stmt) → count_made test (made ++ more) ≡ count_made test made + count_made test more
count_made-append test [] more = omega arith
count_made-append test (statement ∷ made) more = let again = count_made-append test made more in omega (arith, again)

module _ (piece : Piece) (stream : List ℕ) where
  -- ---- traces one behind another

  -- a trace and so many steps more
  abbrev pub joined : Trace → (more : ℕ) → Trace
  joined front more = record {
    made = front.made ++ (trace_on piece stream more front.next).made;
    next = (trace_on piece stream more front.next).next;
  }

  joined-traced : (statement : Stmt) (steps more : ℕ) (next : Next)
      → ((code : List Stmt) (machine : Machine) (answers : List Answer)
      → trace piece stream (steps + more) code machine answers ≡ joined (trace piece stream steps code machine answers) more)
      → traced piece stream statement (trace piece stream (steps + more)) next
      ≡ joined (traced piece stream statement (trace piece stream steps) next) more
  joined-traced statement steps more (goes_on code machine answers) again = ap (with_first statement) (again code machine answers)
  joined-traced statement steps more (ends outcome machine) again = refl

  -- the trace of two numbers of steps is that of the first, and then that of the second
  pub trace-add : (steps more : ℕ) (code : List Stmt) (machine : Machine) (answers : List Answer)
      → trace piece stream (steps + more) code machine answers ≡ joined (trace piece stream steps code machine answers) more
  trace-add zero more code machine answers =
      let none : 0 + more ≡ more = omega arith in
      ap (λ n. trace piece stream n code machine answers) none
  trace-add (suc steps) more [] machine answers =
      let one : suc steps + more ≡ suc (steps + more) = omega arith in
      ap (λ n. trace piece stream n [] machine answers) one
  trace-add (suc steps) more (statement ∷ rest) machine answers =
      let one : suc steps + more ≡ suc (steps + more) = omega arith in
      ap (λ n. trace piece stream n (statement ∷ rest) machine answers) one
      ∙ joined-traced statement steps more (step piece stream statement rest machine answers)
      (λ code after others. trace-add steps more code after others)

  -- behind the end of a match nothing changes
  pub trace-ended : (steps more : ℕ) (code : List Stmt) (machine after : Machine) (answers : List Answer) (outcome : Outcome)
      → (trace piece stream steps code machine answers).next ≡ ends outcome after
      → (trace piece stream (steps + more) code machine answers).next ≡ ends outcome after
  trace-ended steps more code machine after answers outcome e =
      ap (λ (t : Trace). t.next) (trace-add steps more code machine answers)
      ∙ ap (λ n. (trace_on piece stream more n).next) e

  ended-later : (fewer steps : ℕ) → fewer ≤ steps → (code : List Stmt) (machine after last : Machine) (answers : List Answer) (outcome other : Outcome)
      → (trace piece stream fewer code machine answers).next ≡ ends outcome after
      → (trace piece stream steps code machine answers).next ≡ ends other last → ends outcome after ≡ ends other last
  ended-later fewer steps le code machine after last answers outcome other e f =
      let sum : fewer + (steps - fewer) ≡ steps = omega arith in
      sym (trace-ended fewer (steps - fewer) code machine after answers outcome e)
      ∙ ap (λ n. (trace piece stream n code machine answers).next) sum ∙ f

  -- a match ends in one way
  pub one_end : (steps others : ℕ) (code : List Stmt) (machine after last : Machine) (answers : List Answer) (outcome other : Outcome)
      → (trace piece stream steps code machine answers).next ≡ ends outcome after
      → (trace piece stream others code machine answers).next ≡ ends other last → ended outcome after ≡ ended other last
  one_end steps others code machine after last answers outcome other e f = by (nat_le steps others) refl where
    by : (test : Bool) → nat_le steps others ≡ test → ended outcome after ≡ ended other last
    by true t = ap end_of (ended-later steps others (leb-true steps others t) code machine after last answers outcome other e f)
    by false t =
        let lt = leb-false steps others t in
        ap end_of (sym (ended-later others steps (omega (arith, lt)) code machine last after answers other outcome f e))

  made_later : (fewer steps : ℕ) → fewer ≤ steps → (code : List Stmt) (machine after : Machine) (answers : List Answer) (outcome : Outcome)
      → (trace piece stream fewer code machine answers).next ≡ ends outcome after
      → (trace piece stream steps code machine answers).made ≡ (trace piece stream fewer code machine answers).made
  made_later fewer steps le code machine after answers outcome e =
      let sum : steps ≡ fewer + (steps - fewer) = omega arith in
      ap (λ n. (trace piece stream n code machine answers).made) sum
      ∙ ap (λ (t : Trace). t.made) (trace-add fewer (steps - fewer) code machine answers)
      ∙ ap (λ n. (trace piece stream fewer code machine answers).made ++ (trace_on piece stream (steps - fewer) n).made) e
      ∙ append-nil (trace piece stream fewer code machine answers).made

  -- by the same statements
  pub one_made : (steps others : ℕ) (code : List Stmt) (machine after last : Machine) (answers : List Answer) (outcome other : Outcome)
      → (trace piece stream steps code machine answers).next ≡ ends outcome after
      → (trace piece stream others code machine answers).next ≡ ends other last
      → (trace piece stream steps code machine answers).made ≡ (trace piece stream others code machine answers).made
  one_made steps others code machine after last answers outcome other e f = by (nat_le steps others) refl where
    by : (test : Bool) → nat_le steps others ≡ test
        → (trace piece stream steps code machine answers).made ≡ (trace piece stream others code machine answers).made
    by true t = sym (made_later steps others (leb-true steps others t) code machine after answers outcome e)
    by false t =
        let lt = leb-false steps others t in
        made_later others steps (omega (arith, lt)) code machine last answers other f

  -- as many statements are made as there are steps, while the match goes on
  pub length-made : (steps : ℕ) (code next : List Stmt) (machine after : Machine) (answers others : List Answer)
      → (trace piece stream steps code machine answers).next ≡ goes_on next after others
      → length (trace piece stream steps code machine answers).made ≡ steps
  length-made zero code next machine after answers others e = refl
  length-made (suc steps) [] next machine after answers others e = absurd cc
  length-made (suc steps) (statement ∷ rest) next machine after answers others e =
      by (step piece stream statement rest machine answers) e (λ code m q. length-made steps code next m after q others)
    where
      by : (n : Next) → (traced piece stream statement (trace piece stream steps) n).next ≡ goes_on next after others
          → ((code : List Stmt) (m : Machine) (q : List Answer) → (trace piece stream steps code m q).next ≡ goes_on next after others
          → length (trace piece stream steps code m q).made ≡ steps)
          → length (traced piece stream statement (trace piece stream steps) n).made ≡ suc steps
      by (goes_on code m q) e again = ap suc (again code m q e)
      by (ends outcome m) e again = absurd cc

  -- ---- the run that is told

  module _ (start : ℕ) where
    -- the end is this one, or the count of a loop
    abbrev Tells : (end told : Ended) → Type 0
    Tells end told = (told ≡ end) ⊎ (told.outcome ≡ looped)

    unless_told : (test : Bool) (onward : List Stmt → Machine → List Answer → Ended) (code : List Stmt) (machine : Machine) (answers : List Answer) (end : Ended)
        → Tells end (onward code machine answers) → Tells end (unless_looped piece stream start test onward code machine answers)
    unless_told true onward code machine answers end told = inr refl
    unless_told false onward code machine answers end told = told

    -- A match that ends in a trace is told so by its run, or the run is the count of a loop before.
    pub run-ended : (steps fuel before : ℕ) (code : List Stmt) (machine after : Machine) (answers : List Answer) (outcome : Outcome)
        → (trace piece stream steps code machine answers).next ≡ ends outcome after
        → (run piece stream start fuel before code machine answers ≡ ended outcome after)
        ⊎ ((run piece stream start fuel before code machine answers).outcome ≡ looped)
    run-ended zero fuel before code machine after answers outcome e = absurd cc
    run-ended (suc steps) zero before code machine after answers outcome e = inr refl
    run-ended (suc steps) (suc fuel) before [] machine after answers outcome e = inl (ap end_of e)
    run-ended (suc steps) (suc fuel) before (statement ∷ rest) machine after answers outcome e =
        by (step piece stream statement rest machine answers) e
        (λ code m q. run-ended steps fuel (suc before) code m after q outcome)
      where
        by : (n : Next) → (traced piece stream statement (trace piece stream steps) n).next ≡ ends outcome after
            → ((code : List Stmt) (m : Machine) (q : List Answer) → (trace piece stream steps code m q).next ≡ ends outcome after
            → (run piece stream start fuel (suc before) code m q ≡ ended outcome after)
            ⊎ ((run piece stream start fuel (suc before) code m q).outcome ≡ looped))
            → Tells (ended outcome after) (gone_on piece stream start (suc before) (run piece stream start fuel (suc before)) n)
        by (goes_on code m q) e again =
            unless_told (nat_le (loop_count piece start m.limit) (suc before)) (run piece stream start fuel (suc before)) code m q (ended outcome after)
            (again code m q e)
        by (ends other m) e again = inl (ap end_of e)

    -- what is told where so many steps were made before
    record IsToldBehind (before : ℕ) (code : List Stmt) (machine : Machine) (answers : List Answer) (end : Ended) : Type 0 where
      steps : ℕ
      over : IsOver piece stream start (before + steps) (trace piece stream steps code machine answers).next end
      underway : (fewer : ℕ) → fewer < steps → IsUnderway piece stream start (before + fewer) (trace piece stream fewer code machine answers).next

    one_step : (before : ℕ) (statement : Stmt) (rest : List Stmt) (machine : Machine) (answers : List Answer) (end : Ended)
        → before < loop_count piece start machine.limit
        → IsOver piece stream start (suc before) (traced piece stream statement (trace piece stream 0) (step piece stream statement rest machine answers)).next end
        → IsToldBehind before (statement ∷ rest) machine answers end
    one_step before statement rest machine answers end few over =
        let one : suc before ≡ before + 1 = omega arith in
        record {
          steps = 1;
          over = subst (λ n. IsOver piece stream start n (trace piece stream 1 (statement ∷ rest) machine answers).next end) one over;
          underway = by;
        }
      where
        by : (fewer : ℕ) → fewer < 1
            → IsUnderway piece stream start (before + fewer) (trace piece stream fewer (statement ∷ rest) machine answers).next
        by zero lt = omega (arith, few)
        by (suc fewer) lt = absurd (omega (arith, lt))

    told-run : (before : ℕ) (code : List Stmt) (machine : Machine) (answers : List Answer) (end : Ended)
        → before < loop_count piece start machine.limit → IsRun piece stream start before code machine answers end
        → IsToldBehind before code machine answers end
    told-run before [] machine answers end few no_code = record { steps = 1; over = refl; underway = by } where
      by : (fewer : ℕ) → fewer < 1 → IsUnderway piece stream start (before + fewer) (trace piece stream fewer [] machine answers).next
      by zero lt = omega (arith, few)
      by (suc fewer) lt = absurd (omega (arith, lt))
    told-run before (statement ∷ rest) machine answers end few (last_step {outcome = outcome} e) =
        one_step before statement rest machine answers end few
        (subst (λ n. IsOver piece stream start (suc before) (traced piece stream statement (trace piece stream 0) n).next end) (sym e) refl)
    told-run before (statement ∷ rest) machine answers end few (loop_step {after = after} e test) =
        one_step before statement rest machine answers end few
        (subst (λ n. IsOver piece stream start (suc before) (traced piece stream statement (trace piece stream 0) n).next end) (sym e)
        (leb-true (loop_count piece start after.limit) (suc before) test, refl))
    told-run before (statement ∷ rest) machine answers end few (next_step {code = code} {after = after} {others = others} e test run) =
        let lt = leb-false (loop_count piece start after.limit) (suc before) test in
        onward (told-run (suc before) code after others end lt run)
      where
        onward : IsToldBehind (suc before) code after others end → IsToldBehind before (statement ∷ rest) machine answers end
        onward told =
            let one : suc before + told.steps ≡ before + suc told.steps = omega arith in
            record {
              steps = suc told.steps;
              over = subst (λ k. IsOver piece stream start k (trace piece stream (suc told.steps) (statement ∷ rest) machine answers).next end) one
                  (subst (λ n. IsOver piece stream start (suc before + told.steps)
                  (traced piece stream statement (trace piece stream told.steps) n).next end) (sym e) told.over);
              underway = by;
            }
          where
            by : (fewer : ℕ) → fewer < suc told.steps
                → IsUnderway piece stream start (before + fewer) (trace piece stream fewer (statement ∷ rest) machine answers).next
            by zero lt = omega (arith, few)
            by (suc fewer) lt =
                let one : suc before + fewer ≡ before + suc fewer = omega arith in
                subst (λ k. IsUnderway piece stream start k (trace piece stream (suc fewer) (statement ∷ rest) machine answers).next) one
                (subst (λ n. IsUnderway piece stream start (suc before + fewer) (traced piece stream statement (trace piece stream fewer) n).next) (sym e)
                (told.underway fewer (omega (arith, lt))))

    -- the run that the steps make is told by the traces
    pub IsTold-run : (code : List Stmt) (machine : Machine) (answers : List Answer) (end : Ended)
        → 0 < loop_count piece start machine.limit → IsRun piece stream start 0 code machine answers end
        → IsTold piece stream start code machine answers end
    IsTold-run code machine answers end few run =
        let told = told-run 0 code machine answers end few run in
        let none : (n : ℕ) → 0 + n ≡ n = λ n. omega arith in
        record {
          steps = told.steps;
          over = subst (λ k. IsOver piece stream start k (trace piece stream told.steps code machine answers).next end) (none told.steps) told.over;
          underway = λ fewer lt. subst (λ k. IsUnderway piece stream start k (trace piece stream fewer code machine answers).next) (none fewer)
              (told.underway fewer lt);
        }

    over-underway : (steps : ℕ) (next : Next) (end : Ended) → IsOver piece stream start steps next end → IsUnderway piece stream start steps next → ⊥
    over-underway steps (goes_on code machine answers) end over way = omega (arith, over.0, way)
    over-underway steps (ends outcome machine) end over way = way

    over-unique : (steps : ℕ) (next : Next) (end other : Ended) → IsOver piece stream start steps next end → IsOver piece stream start steps next other
        → end ≡ other
    over-unique steps (goes_on code machine answers) end other over same = over.1 ∙ sym same.1
    over-unique steps (ends outcome machine) end other over same = over ∙ sym same

    -- the traces tell no other
    pub IsTold-unique : (code : List Stmt) (machine : Machine) (answers : List Answer) (end other : Ended)
        → IsTold piece stream start code machine answers end → IsTold piece stream start code machine answers other → end ≡ other
    IsTold-unique code machine answers end other told same = by (nat_le told.steps same.steps) (nat_le same.steps told.steps) refl refl where
      by : (t u : Bool) → nat_le told.steps same.steps ≡ t → nat_le same.steps told.steps ≡ u → end ≡ other
      by true true e f =
          let le = leb-true told.steps same.steps e in
          let ge = leb-true same.steps told.steps f in
          let equal : told.steps ≡ same.steps = omega (arith, le, ge) in
          over-unique same.steps (trace piece stream same.steps code machine answers).next end other
          (subst (λ n. IsOver piece stream start n (trace piece stream n code machine answers).next end) equal told.over) same.over
      by true false e f =
          let lt = leb-false same.steps told.steps f in
          absurd (over-underway told.steps (trace piece stream told.steps code machine answers).next end told.over (same.underway told.steps lt))
      by false u e f =
          let lt = leb-false told.steps same.steps e in
          absurd (over-underway same.steps (trace piece stream same.steps code machine answers).next other same.over (told.underway same.steps lt))
