-- Marks that spread from the last state of all are those of the states from which an end can be reached.
use Rattle.std.proofs.Common.{◌≡◌, ℕ, zero, suc, ◌+◌, ◌<◌, ◌≤◌, ◌⊎◌, inl, inr, arith, Bool, true, false, not, List, [], ◌∷◌, ◌++◌, length, get_or, drop, set, take, refl, sym, ap, ap₂, ◌∙◌, subst, count_by}
use Rattle.std.proofs.lemmas.Bool.{false≢true}
use Rattle.std.proofs.lemmas.List.{get_or-set_same, get_or-set_other, length-append, length-replicate, length-set, take-append-le, take_all}
use Rattle.std.proofs.lemmas.List.Elements.{Contains-get_or}
use Rattle.std.proofs.lemmas.List.Sums.{sum_by-set}
use Rattle.std.specs.Prelude.{◌-◌, All, Contains, cond, replicate, if◌then◌else◌}
use Rattle.lx_tnfa.specs.Live.{AreLive, ArePredecessors, ReachesEnd, at_end, onward, leads_to, list_at, mark_at, marks_each, put_each, put_one, state_of, waits_each}
use Rattle.lx_tnfa.specs.declared.classes.ClassGraph.{ClassGraph}
use Rattle.lx_tnfa.specs.declared.states.State.{State}
use Rattle.lx_tnfa.specs.DepthFirst.{IsIn}
use Rattle.lx_tnfa.proofs.Construction.Membership.{behind, contains, either_part, in_front, is_in}
use Rattle.lx_tnfa.proofs.Searching.SearchBasics.{Each}
use native.Mathlib.Decide.{ℕ_discrete}

-- what is put on the lists

one_kept : (before : List (List ℕ)) (number next at other : ℕ) → IsIn (list_at before at) other → IsIn (list_at (put_one before number next) at) other
one_kept [] number next at other m = absurd m
one_kept (list ∷ before) number zero zero other m = in_front list (number ∷ []) other m
one_kept (list ∷ before) number zero (suc at) other m = m
one_kept (list ∷ before) number (suc next) zero other m = m
one_kept (list ∷ before) number (suc next) (suc at) other m = one_kept before number next at other m

one_new : (before : List (List ℕ)) (number next : ℕ) → next < length before → IsIn (list_at (put_one before number next) next) number
one_new [] number next lt = absurd (omega arith)
one_new (list ∷ before) number zero lt = behind list (number ∷ []) number (inl refl)
one_new (list ∷ before) number (suc next) lt = one_new before number next (omega arith)

one_only : (before : List (List ℕ)) (number next at other : ℕ) → IsIn (list_at (put_one before number next) at) other
    → IsIn (list_at before at) other ⊎ ((number ≡ other) × (next ≡ at))
one_only [] number next at other m = absurd m
one_only (list ∷ before) number zero zero other m = at (either_part list (number ∷ []) other m)
  where
    at : IsIn list other ⊎ IsIn (number ∷ []) other → IsIn list other ⊎ ((number ≡ other) × (◌≡◌ {A = ℕ} 0 0))
    at (inl k) = inl k
    at (inr (inl e)) = inr (e, refl)
    at (inr (inr k)) = absurd k
one_only (list ∷ before) number zero (suc at) other m = inl m
one_only (list ∷ before) number (suc next) zero other m = inl m
one_only (list ∷ before) number (suc next) (suc at) other m = up (one_only before number next at other m)
  where
    up : IsIn (list_at before at) other ⊎ ((number ≡ other) × (next ≡ at)) → IsIn (list_at before at) other ⊎ ((number ≡ other) × (suc next ≡ suc at))
    up (inl k) = inl k
    up (inr k) = inr (k.0, ap suc k.1)

pub each_length : (before : List (List ℕ)) (number : ℕ) (nexts : List ℕ) → length (put_each before number nexts) ≡ length before
each_length before number [] = refl
each_length before number (next ∷ nexts) =
    each_length (put_one before number next) number nexts ∙ length-set before next (list_at before next ++ number ∷ [])

each_kept : (before : List (List ℕ)) (number : ℕ) (nexts : List ℕ) (at other : ℕ) → IsIn (list_at before at) other
    → IsIn (list_at (put_each before number nexts) at) other
each_kept before number [] at other m = m
each_kept before number (next ∷ nexts) at other m =
    each_kept (put_one before number next) number nexts at other (one_kept before number next at other m)

each_new : (before : List (List ℕ)) (number : ℕ) (nexts : List ℕ) (at : ℕ) → at < length before → IsIn nexts at
    → IsIn (list_at (put_each before number nexts) at) number
each_new before number [] at lt m = absurd m
each_new before number (next ∷ nexts) at lt (inl e) =
    each_kept (put_one before number next) number nexts at number
    (subst (λ n. IsIn (list_at (put_one before number n) at) number) (sym e) (one_new before number at lt))
each_new before number (next ∷ nexts) at lt (inr m) =
    let long : length (put_one before number next) ≡ length before = length-set before next (list_at before next ++ number ∷ []) in
    each_new (put_one before number next) number nexts at (omega (arith, lt, long)) m

each_only : (before : List (List ℕ)) (number : ℕ) (nexts : List ℕ) (at other : ℕ) → IsIn (list_at (put_each before number nexts) at) other
    → IsIn (list_at before at) other ⊎ ((number ≡ other) × IsIn nexts at)
each_only before number [] at other m = inl m
each_only before number (next ∷ nexts) at other m = later (each_only (put_one before number next) number nexts at other m)
  where
    now : IsIn (list_at before at) other ⊎ ((number ≡ other) × (next ≡ at)) → IsIn (list_at before at) other ⊎ ((number ≡ other) × IsIn (next ∷ nexts) at)
    now (inl k) = inl k
    now (inr k) = inr (k.0, inl k.1)

    later : IsIn (list_at (put_one before number next) at) other ⊎ ((number ≡ other) × IsIn nexts at)
        → IsIn (list_at before at) other ⊎ ((number ≡ other) × IsIn (next ∷ nexts) at)
    later (inl k) = now (one_only before number next at other k)
    later (inr k) = inr (k.0, inr k.1)

-- the lists after states are put, of which the first has this number
abbrev pub put_all : List ClassGraph → List (List ℕ) → (number : ℕ) → List State → List (List ℕ)
put_all classes before number [] = before
put_all classes before number (state ∷ states) = put_all classes (put_each before number (leads_to classes number state)) (suc number) states

all_kept : (classes : List ClassGraph) (before : List (List ℕ)) (first : ℕ) (states : List State) (at other : ℕ) → IsIn (list_at before at) other
    → IsIn (list_at (put_all classes before first states) at) other
all_kept classes before first [] at other m = m
all_kept classes before first (state ∷ states) at other m =
    all_kept classes (put_each before first (leads_to classes first state)) (suc first) states at other
    (each_kept before first (leads_to classes first state) at other m)

all_new : (classes : List ClassGraph) (before : List (List ℕ)) (first : ℕ) (states : List State) (place at : ℕ) → at < length before
    → IsIn (leads_to classes (first + place) (state_of states place)) at → IsIn (list_at (put_all classes before first states) at) (first + place)
all_new classes before first [] place at lt m = absurd m
all_new classes before first (state ∷ states) zero at lt m =
    let here : first + 0 ≡ first = omega arith in
    subst (IsIn (list_at (put_all classes before first (state ∷ states)) at)) (sym here)
    (all_kept classes (put_each before first (leads_to classes first state)) (suc first) states at first
    (each_new before first (leads_to classes first state) at lt (subst (λ n. IsIn (leads_to classes n state) at) here m)))
all_new classes before first (state ∷ states) (suc place) at lt m =
    let next : first + suc place ≡ suc first + place = omega arith in
    let long = each_length before first (leads_to classes first state) in
    subst (IsIn (list_at (put_all classes before first (state ∷ states)) at)) (sym next)
    (all_new classes (put_each before first (leads_to classes first state)) (suc first) states place at (omega (arith, lt, long))
    (subst (λ n. IsIn (leads_to classes n (state_of states place)) at) next m))

all_only : (classes : List ClassGraph) (before : List (List ℕ)) (first : ℕ) (states : List State) (at other : ℕ)
    → IsIn (list_at (put_all classes before first states) at) other
    → IsIn (list_at before at) other ⊎ ((place : ℕ) × (first + place ≡ other) × IsIn (leads_to classes other (state_of states place)) at)
all_only classes before first [] at other m = inl m
all_only classes before first (state ∷ states) at other m =
    later (all_only classes (put_each before first (leads_to classes first state)) (suc first) states at other m)
  where
    now : IsIn (list_at before at) other ⊎ ((first ≡ other) × IsIn (leads_to classes first state) at)
        → IsIn (list_at before at) other ⊎ ((place : ℕ) × (first + place ≡ other) × IsIn (leads_to classes other (state_of (state ∷ states) place)) at)
    now (inl k) = inl k
    now (inr k) = inr (0, omega (arith, k.0), subst (λ n. IsIn (leads_to classes n state) at) k.0 k.1)

    later : IsIn (list_at (put_each before first (leads_to classes first state)) at) other
        ⊎ ((place : ℕ) × (suc first + place ≡ other) × IsIn (leads_to classes other (state_of states place)) at)
        → IsIn (list_at before at) other ⊎ ((place : ℕ) × (first + place ≡ other) × IsIn (leads_to classes other (state_of (state ∷ states) place)) at)
    later (inl k) = now (each_only before first (leads_to classes first state) at other k)
    later (inr k) = inr (suc k.0, omega (arith, k.1), k.2)

no_list : (count at other : ℕ) → IsIn (list_at (replicate count []) at) other → ⊥
no_list zero at other m = m
no_list (suc count) zero other m = m
no_list (suc count) (suc at) other m = no_list count at other m

-- all states are put on the lists of those to which they lead
pub all_predecessors : (classes : List ClassGraph) (states : List State) (before none : List (List ℕ)) → none ≡ replicate (length states) []
    → length before ≡ length states → before ≡ put_all classes none 0 states → ArePredecessors classes states before
all_predecessors classes states before none empty count is number next lt = (only, there)
  where
    here : put_all classes none 0 states ≡ put_all classes (replicate (length states) []) 0 states
    here = ap (λ l. put_all classes l 0 states) empty

    found : IsIn (list_at (replicate (length states) []) next) number
        ⊎ ((place : ℕ) × (0 + place ≡ number) × IsIn (leads_to classes number (state_of states place)) next)
        → Contains (leads_to classes number (state_of states number)) next
    found (inl k) = absurd (no_list (length states) next number k)
    found (inr k) =
        let same : k.0 ≡ number = omega (arith, k.1) in
        contains (leads_to classes number (state_of states number)) next
        (subst (λ n. IsIn (leads_to classes number (state_of states n)) next) same k.2)

    only : Contains (list_at before next) number → Contains (leads_to classes number (state_of states number)) next
    only c =
        found (all_only classes (replicate (length states) []) 0 states next number
        (subst (λ l. IsIn (list_at l next) number) (is ∙ here) (is_in (list_at before next) number c)))

    there : Contains (leads_to classes number (state_of states number)) next → Contains (list_at before next) number
    there c =
        let same : 0 + number ≡ number = omega arith in
        let long = length-replicate {A = List ℕ} (length states) [] in
        contains (list_at before next) number
        (subst (λ l. IsIn (list_at l next) number) (sym (is ∙ here))
        (subst (IsIn (list_at (put_all classes (replicate (length states) []) 0 states) next)) same
        (all_new classes (replicate (length states) []) 0 states number next (omega (arith, lt, long))
        (subst (λ n. IsIn (leads_to classes n (state_of states number)) next) (sym same) (is_in (leads_to classes number (state_of states number)) next c)))))

-- what is marked

marked_at : (marks : List Bool) (number : ℕ) → number < length marks → (other : ℕ)
    → (number ≡ other) ⊎ (mark_at (set marks number true) other ≡ mark_at marks other)
marked_at marks number lt other = at (ℕ_discrete number other)
  where
    at : Dec (number ≡ other) → (number ≡ other) ⊎ (mark_at (set marks number true) other ≡ mark_at marks other)
    at (yes same) = inl same
    at (no differs) = inr (get_or-set_other marks number other true false (λ e. differs (sym e)))

set_kept : (marks : List Bool) (number other : ℕ) → number < length marks → mark_at marks other ≡ true → mark_at (set marks number true) other ≡ true
set_kept marks number other lt e = at (marked_at marks number lt other)
  where
    at : (number ≡ other) ⊎ (mark_at (set marks number true) other ≡ mark_at marks other) → mark_at (set marks number true) other ≡ true
    at (inl same) = subst (λ n. mark_at (set marks number true) n ≡ true) same (get_or-set_same marks number true false lt)
    at (inr same) = same ∙ e

fewer_false : (marks : List Bool) (number : ℕ) → number < length marks → mark_at marks number ≡ false
    → count_by not (set marks number true) + 1 ≡ count_by not marks
fewer_false marks number lt is =
    let counted = sum_by-set (λ x. cond (not x) 1 0) marks number true false lt in
    let size : Bool → ℕ = λ x. cond (not x) 1 0 in
    let one : size (get_or marks number false) ≡ size false = ap size is in
    omega (arith, counted, one)

-- what it does to mark some states
pub record Marking (marks : List Bool) (numbers : List ℕ) (new : List Bool) (waits : List ℕ) : Type 0 where
  pub count : length new ≡ length marks
  pub kept : (other : ℕ) → mark_at marks other ≡ true → mark_at new other ≡ true
  pub marked : (other : ℕ) → IsIn numbers other → mark_at new other ≡ true
  pub only : (other : ℕ) → mark_at new other ≡ true → (mark_at marks other ≡ true) ⊎ (IsIn numbers other × IsIn waits other)
  pub among : (other : ℕ) → IsIn waits other → IsIn numbers other
  pub left : count_by not new + length waits ≡ count_by not marks

marking : (marks : List Bool) (numbers : List ℕ) → Each (λ number. number < length marks) numbers
    → Marking marks numbers (marks_each marks numbers) (waits_each marks numbers)
marking marks [] within = record {
  count = refl;
  kept = λ other e. e;
  marked = λ other m. absurd m;
  only = λ other e. inl e;
  among = λ other m. m;
  left = omega arith;
}
marking marks (number ∷ numbers) within =
    at (mark_at marks number) refl (marking marks numbers within.1)
    (marking (set marks number true) numbers (longer numbers within.1))
  where
    longer : (list : List ℕ) → Each (λ n. n < length marks) list → Each (λ n. n < length (set marks number true)) list
    longer [] h = tt
    longer (n ∷ list) h =
        let long = length-set marks number true in let lt = h.0 in (omega (arith, long, lt), longer list h.1)

    at : (b : Bool) → mark_at marks number ≡ b → Marking marks numbers (marks_each marks numbers) (waits_each marks numbers)
        → Marking (set marks number true) numbers (marks_each (set marks number true) numbers) (waits_each (set marks number true) numbers)
        → Marking marks (number ∷ numbers) (marks_each (if b then marks else set marks number true) numbers)
        (if b then waits_each marks numbers else number ∷ waits_each (set marks number true) numbers)
    at true is same next = record {
      count = same.count;
      kept = same.kept;
      marked = λ other m. marked other m;
      only = λ other e. only (same.only other e);
      among = λ other m. inr (same.among other m);
      left = same.left;
    }
      where
        marked : (other : ℕ) → IsIn (number ∷ numbers) other → mark_at (marks_each marks numbers) other ≡ true
        marked other (inl e) = same.kept other (subst (λ n. mark_at marks n ≡ true) e is)
        marked other (inr m) = same.marked other m

        only : {other : ℕ} → (mark_at marks other ≡ true) ⊎ (IsIn numbers other × IsIn (waits_each marks numbers) other)
            → (mark_at marks other ≡ true) ⊎ (IsIn (number ∷ numbers) other × IsIn (waits_each marks numbers) other)
        only (inl e) = inl e
        only (inr m) = inr (inr m.0, m.1)
    at false is same next =
        let fewer = fewer_false marks number within.0 is in record {
          count = next.count ∙ length-set marks number true;
          kept = λ other e. next.kept other (set_kept marks number other within.0 e);
          marked = λ other m. marked other m;
          only = λ other e. only other (next.only other e);
          among = λ other m. among other m;
          left = omega (arith, fewer, next.left);
        }
      where
        marked : (other : ℕ) → IsIn (number ∷ numbers) other → mark_at (marks_each (set marks number true) numbers) other ≡ true
        marked other (inl e) =
            next.kept other (subst (λ n. mark_at (set marks number true) n ≡ true) e (get_or-set_same marks number true false within.0))
        marked other (inr m) = next.marked other m

        before : (other : ℕ) → mark_at (set marks number true) other ≡ true
            → (number ≡ other) ⊎ (mark_at (set marks number true) other ≡ mark_at marks other)
            → (mark_at marks other ≡ true) ⊎ (IsIn (number ∷ numbers) other × IsIn (number ∷ waits_each (set marks number true) numbers) other)
        before other e (inl same_one) = inr (inl same_one, inl same_one)
        before other e (inr still) = inl (sym still ∙ e)

        only : (other : ℕ) → (mark_at (set marks number true) other ≡ true) ⊎ (IsIn numbers other × IsIn (waits_each (set marks number true) numbers) other)
            → (mark_at marks other ≡ true) ⊎ (IsIn (number ∷ numbers) other × IsIn (number ∷ waits_each (set marks number true) numbers) other)
        only other (inl e) = before other e (marked_at marks number within.0 other)
        only other (inr m) = inr (inr m.0, inr m.1)

        among : (other : ℕ) → IsIn (number ∷ waits_each (set marks number true) numbers) other → IsIn (number ∷ numbers) other
        among other (inl e) = inl e
        among other (inr m) = inr (next.among other m)

-- what the marks and the states that wait keep
pub record IsSpreading (classes : List ClassGraph) (states : List State) (before : List (List ℕ)) (marks : List Bool) (waiting : List ℕ) : Type 0 where
  pub count : length marks ≡ length states
  pub begun : mark_at marks 0 ≡ true
  pub sound : (number : ℕ) → mark_at marks number ≡ true → ReachesEnd classes states number
  pub marked : (number : ℕ) → IsIn waiting number → mark_at marks number ≡ true
  pub spread : (next : ℕ) → mark_at marks next ≡ true
      → IsIn waiting next ⊎ ((number : ℕ) → IsIn (list_at before next) number → mark_at marks number ≡ true)

no_mark : (count number : ℕ) → mark_at (replicate count false) number ≡ true → ⊥
no_mark zero number e = false≢true e
no_mark (suc count) zero e = false≢true e
no_mark (suc count) (suc number) e = no_mark count number e

pub spreading_begins : (classes : List ClassGraph) (states : List State) (before : List (List ℕ)) (marks : List Bool) (waiting : List ℕ)
    → 0 < length states → marks ≡ true ∷ replicate (length states - 1) false → waiting ≡ 0 ∷ [] → IsSpreading classes states before marks waiting
spreading_begins classes states before marks waiting some is waits =
    subst (λ w. IsSpreading classes states before marks w) (sym waits)
    (subst (λ m. IsSpreading classes states before m (0 ∷ [])) (sym is) (record {
      count = let r = length-replicate (length states - 1) false in omega (arith, r, some);
      begun = refl;
      sound = sound;
      marked = λ number m. marked number m;
      spread = λ next e. inl (first next e);
    }))
  where
    first : (number : ℕ) → mark_at (true ∷ replicate (length states - 1) false) number ≡ true → IsIn (0 ∷ []) number
    first zero e = inl refl
    first (suc number) e = absurd (no_mark (length states - 1) number e)

    sound : (number : ℕ) → mark_at (true ∷ replicate (length states - 1) false) number ≡ true → ReachesEnd classes states number
    sound zero e = at_end
    sound (suc number) e = absurd (no_mark (length states - 1) number e)

    marked : (number : ℕ) → IsIn (0 ∷ []) number → mark_at (true ∷ replicate (length states - 1) false) number ≡ true
    marked number (inl e) = ap (mark_at (true ∷ replicate (length states - 1) false)) (sym e)
    marked number (inr m) = absurd m

mark_within : (marks : List Bool) (number : ℕ) → mark_at marks number ≡ true → number < length marks
mark_within [] number e = absurd (false≢true e)
mark_within (mark ∷ marks) zero e = omega arith
mark_within (mark ∷ marks) (suc number) e = let lt : number < length marks = mark_within marks number e in omega arith

state_within : (classes : List ClassGraph) (states : List State) (place number next : ℕ) → IsIn (leads_to classes number (state_of states place)) next
    → place < length states
state_within classes [] place number next m = absurd m
state_within classes (state ∷ states) zero number next m = omega arith
state_within classes (state ∷ states) (suc place) number next m =
    let lt : place < length states = state_within classes states place number next m in omega arith

-- a state that waits is one of the automaton, and so are those that lead to it
pub waits_within : (classes : List ClassGraph) (states : List State) (before : List (List ℕ)) (marks : List Bool) (old waiting : List ℕ) (number : ℕ)
    → old ≡ waiting ++ number ∷ [] → IsSpreading classes states before marks old → number < length states
waits_within classes states before marks old waiting number is s =
    let lt =
    mark_within marks number (s.marked number (subst (λ l. IsIn l number) (sym is) (behind waiting (number ∷ []) number (inl refl)))) in
    omega (arith, lt, s.count)

pub lists_within : (classes : List ClassGraph) (states : List State) (before : List (List ℕ)) (marks : List Bool) (number : ℕ)
    → ArePredecessors classes states before → number < length states → length marks ≡ length states
    → All (λ other. other < length marks) (list_at before number)
lists_within classes states before marks number are lt count k d within =
    let there = Contains-get_or (list_at before number) k d within in
    let r =
    state_within classes states (get_or (list_at before number) k d) (get_or (list_at before number) k d) number
    (is_in (leads_to classes (get_or (list_at before number) k d) (state_of states (get_or (list_at before number) k d))) number
    ((are (get_or (list_at before number) k d) number lt).0 there)) in
    omega (arith, r, count)

each_of : (P : ℕ → Type 0) (xs : List ℕ) → All P xs → Each P xs
each_of P [] h = tt
each_of P (x ∷ xs) h = (h 0 x (omega arith), each_of P xs (λ k d lt. h (suc k) d (omega (arith, lt))))

-- the states that lead to one are marked
pub spreading_more : (classes : List ClassGraph) (states : List State) (before : List (List ℕ)) (marks new : List Bool)
    (old waiting more : List ℕ) (number : ℕ) → ArePredecessors classes states before → old ≡ waiting ++ number ∷ []
    → new ≡ marks_each marks (list_at before number) → more ≡ waiting ++ waits_each marks (list_at before number)
    → IsSpreading classes states before marks old
    → IsSpreading classes states before new more × (count_by not new + length more < count_by not marks + length old)
spreading_more classes states before marks new old waiting more number are is marked waits s =
    let lt = waits_within classes states before marks old waiting number is s in
    let list = list_at before number in
    let m : Marking marks list new (waits_each marks list) =
    subst (λ n. Marking marks list n (waits_each marks list)) (sym marked)
    (marking marks list (each_of (λ other. other < length marks) list (lists_within classes states before marks number are lt s.count))) in
    let long = ap length is ∙ length-append waiting (number ∷ []) in
    let longer = ap length waits ∙ length-append waiting (waits_each marks list) in
    (whole lt m, omega (arith, m.left, long, longer))
  where
    whole : number < length states → Marking marks (list_at before number) new (waits_each marks (list_at before number))
        → IsSpreading classes states before new more
    whole lt m = record {
      count = m.count ∙ s.count;
      begun = m.kept 0 s.begun;
      sound = λ other e. sound other (m.only other e);
      marked = λ other i. waits_marked other (either_part waiting (waits_each marks (list_at before number)) other (subst (λ l. IsIn l other) waits i));
      spread = λ next e. spreads next (m.only next e);
    }
      where
        here : IsIn old number
        here = subst (λ l. IsIn l number) (sym is) (behind waiting (number ∷ []) number (inl refl))

        sound : (other : ℕ) → (mark_at marks other ≡ true) ⊎ (IsIn (list_at before number) other × IsIn (waits_each marks (list_at before number)) other)
            → ReachesEnd classes states other
        sound other (inl e) = s.sound other e
        sound other (inr i) =
            onward number ((are other number lt).0 (contains (list_at before number) other i.0)) (s.sound number (s.marked number here))

        waits_marked : (other : ℕ) → IsIn waiting other ⊎ IsIn (waits_each marks (list_at before number)) other → mark_at new other ≡ true
        waits_marked other (inl i) = m.kept other (s.marked other (subst (λ l. IsIn l other) (sym is) (in_front waiting (number ∷ []) other i)))
        waits_marked other (inr i) = m.marked other (m.among other i)

        stays : (next : ℕ) → IsIn waiting next ⊎ IsIn (number ∷ []) next
            → IsIn more next ⊎ ((other : ℕ) → IsIn (list_at before next) other → mark_at new other ≡ true)
        stays next (inl i) = inl (subst (λ l. IsIn l next) (sym waits) (in_front waiting (waits_each marks (list_at before number)) next i))
        stays next (inr (inl e)) = inr (λ other i. m.marked other (subst (λ n. IsIn (list_at before n) other) (sym e) i))
        stays next (inr (inr i)) = absurd i

        old_spread : (next : ℕ) → IsIn old next ⊎ ((other : ℕ) → IsIn (list_at before next) other → mark_at marks other ≡ true)
            → IsIn more next ⊎ ((other : ℕ) → IsIn (list_at before next) other → mark_at new other ≡ true)
        old_spread next (inl i) = stays next (either_part waiting (number ∷ []) next (subst (λ l. IsIn l next) is i))
        old_spread next (inr all) = inr (λ other i. m.kept other (all other i))

        spreads : (next : ℕ) → (mark_at marks next ≡ true) ⊎ (IsIn (list_at before number) next × IsIn (waits_each marks (list_at before number)) next)
            → IsIn more next ⊎ ((other : ℕ) → IsIn (list_at before next) other → mark_at new other ≡ true)
        spreads next (inl e) = old_spread next (s.spread next e)
        spreads next (inr i) = inl (subst (λ l. IsIn l next) (sym waits) (behind waiting (waits_each marks (list_at before number)) next i.1))

reached_marked : (classes : List ClassGraph) (states : List State) (before : List (List ℕ)) (marks : List Bool) → ArePredecessors classes states before
    → IsSpreading classes states before marks [] → (number : ℕ) → ReachesEnd classes states number → mark_at marks number ≡ true
reached_marked classes states before marks are s zero at_end = s.begun
reached_marked classes states before marks are s number (onward next leads reaches) =
    let next_marked = reached_marked classes states before marks are s next reaches in
    let within = mark_within marks next next_marked in
    at (s.spread next next_marked) (is_in (list_at before next) number ((are number next (omega (arith, within, s.count))).1 leads))
  where
    at : ⊥ ⊎ ((other : ℕ) → IsIn (list_at before next) other → mark_at marks other ≡ true) → IsIn (list_at before next) number → mark_at marks number ≡ true
    at (inl i) m = absurd i
    at (inr all) m = all number m

-- no state waits any more
pub spreading_ends : (classes : List ClassGraph) (states : List State) (before : List (List ℕ)) (marks : List Bool) (waiting : List ℕ)
    → ArePredecessors classes states before → waiting ≡ [] → IsSpreading classes states before marks waiting → AreLive classes states marks
spreading_ends classes states before marks waiting are none s number lt =
    (s.sound number, reached_marked classes states before marks are (subst (IsSpreading classes states before marks) none s) number)

pub live_same : (classes others : List ClassGraph) (states rows : List State) (marks : List Bool) → others ≡ classes → rows ≡ states
    → AreLive others rows marks → AreLive classes states marks
live_same classes others states rows marks same alike live =
    subst (λ c. AreLive c states marks) same (subst (λ s. AreLive others s marks) alike live)

-- what a slice of marks is after it was written
written : (old new : List Bool) (len : ℕ) → len ≡ length old → length new ≡ length old → take len (new ++ drop (length new) old) ≡ new
written old new len is same =
    let le : len ≤ length new = omega (arith, is, same) in
    let all : length new ≤ len = omega (arith, is, same) in
    take-append-le len new (drop (length new) old) le ∙ take_all len new all

-- the same as the program writes it
pub spreading_step : (classes : List ClassGraph) (states : List State) (before : List (List ℕ)) (marks slice new : List Bool) (list old waiting more : List ℕ)
    (number len : ℕ) → ArePredecessors classes states before → list ≡ list_at before number → old ≡ waiting ++ number ∷ [] → slice ≡ marks
    → len ≡ length marks → length new ≡ length slice → new ≡ marks_each slice list → more ≡ waiting ++ waits_each slice list
    → IsSpreading classes states before marks old
    → IsSpreading classes states before (take len (new ++ drop (length new) marks)) more
    × (count_by not (take len (new ++ drop (length new) marks)) + length more < count_by not marks + length old)
spreading_step classes states before marks slice new list old waiting more number len are listed is whole long same marked waits s =
    spreading_more classes states before marks (take len (new ++ drop (length new) marks)) old waiting more number are is
    (written marks new len long (same ∙ ap length whole) ∙ marked ∙ ap₂ marks_each whole listed)
    (waits ∙ ap₂ (λ m l. waiting ++ waits_each m l) whole listed) s
