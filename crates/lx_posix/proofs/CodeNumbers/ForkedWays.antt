-- The number of two ways from one state is the lowest depth on either from where they part.
use Rattle.std.proofs.Common.{inl, inr, sym, ap, ap₂, ◌∙◌, subst, arith, ⊎_elim}
use Rattle.std.proofs.lemmas.Bool.{cases_lt, eqb-false, eqb-true}
use Rattle.std.specs.Prelude.{◌≡◌, ℕ, ◌≤◌, min, List, [], ◌∷◌, ◌++◌, Option, Some, None, Bool, true, false, nat_eq, if◌then◌else◌, refl}
use Rattle.lx_base.specs.declared.settings.Enc.{Enc}
use Rattle.lx_regex.specs.Automaton as spec
use Rattle.lx_regex.specs.Automaton.{automaton, label, target}
use Rattle.lx_regex.specs.Pattern.{Pattern, terms_of}
use Rattle.lx_regex.specs.Script.{Symbol, reads}
use Rattle.lx_regex.specs.Walk.{mark}
use Rattle.lx_regex.proofs.Walks.Clear.{picked}
use Rattle.lx_tnfa.specs.DepthFirst.{successors}
use Rattle.lx_tnfa.specs.LeafReadings.{IsNth}
use Rattle.lx_tnfa.specs.Tnfa.{IsTnfaOf, Tnfa}
use Rattle.lx_tnfa.proofs.Searching.SimplePaths.{IsAt}
use Rattle.lx_tdfa.specs.Graph.{graph_of, move_at, path_symbols}
use Rattle.lx_tdfa.proofs.Rules.StateOrder.{automaton_in_order}
use Rattle.lx_tdfa.proofs.WordKernels.OrderedLists.{nth_at_zero}
use Rattle.lx_posix.specs.Comparing.{Comparison, forked}
use Rattle.lx_posix.specs.Parting.{Event, digit, down, events, keep, read, up}
use Rattle.lx_posix.specs.Walks.{depth, lowest}
use Rattle.lx_posix.specs.Finding.{IsWay}
use Rattle.lx_posix.specs.WayNumbers.{depth_behind, lowest_on_way, next_state, next_states, number_of_fork}
use Rattle.lx_posix.proofs.CodeNumbers.LeafDigits.{IsChoice, choice_of, choice_of-is, choice_of-moves}
use Rattle.lx_posix.proofs.CodeNumbers.WaySymbols.{digits, events-label, forked-mark, in_graph, lowest-way, next_states-nth, target-next, way-rest}
use Rattle.lx_posix.proofs.Lists.Comparisons.{by_order-each, keep_most}
use Rattle.lx_posix.proofs.Searches.DroppedBranches.{keep_lowest}

-- a leaf that reads a unit changes no depth
pub choice-lowest : (symbols : List Symbol) (unit : ℕ) → IsChoice symbols → (d m : ℕ) → lowest d m (symbols ++ reads unit ∷ []) ≡ m
choice-lowest symbols unit (inl e) d m = ap (λ l. lowest d m (l ++ reads unit ∷ [])) e
choice-lowest symbols unit (inr e) d m = ap (λ l. lowest d m (l ++ reads unit ∷ [])) e.1

pub choice-depth : (symbols : List Symbol) (unit : ℕ) → IsChoice symbols → (d : ℕ) → depth d (symbols ++ reads unit ∷ []) ≡ d
choice-depth symbols unit (inl e) d = ap (λ l. depth d (l ++ reads unit ∷ [])) e
choice-depth symbols unit (inr e) d = ap (λ l. depth d (l ++ reads unit ∷ [])) e.1

-- two ways to read in one leaf
abbrev number_of_leaf : (d unit : ℕ) → List Symbol → List Symbol → ℕ
number_of_leaf d unit l k = (forked d (events (l ++ reads unit ∷ [])) (events (k ++ reads unit ∷ []))).number

leaf_number : (d unit : ℕ) (l k : List Symbol) → IsChoice l → IsChoice k → number_of_leaf d unit l k ≡ d
leaf_number d unit l k (inl e) (inl f) = ap₂ (λ a b. number_of_leaf d unit a b) e f
leaf_number d unit l k (inl e) (inr f) = ap₂ (λ a b. number_of_leaf d unit a b) e f.1
leaf_number d unit l k (inr e) (inl f) = ap₂ (λ a b. number_of_leaf d unit a b) e.1 f
leaf_number d unit l k (inr e) (inr f) =
    ap₂ (λ a b. number_of_leaf d unit a b) e.1 f.1
    ∙ by_order-each (λ (c : Comparison). c.number ≡ d) e.0 f.0 _ _ _ (λ l. omega arith) (λ l. refl) (λ l. omega arith)

read_first : (d : ℕ) (l k : List Event) → (forked d (read ∷ l) k).number ≡ d
read_first d l [] = refl
read_first d l (down ∷ k) = refl
read_first d l (up ∷ k) = refl
read_first d l (read ∷ k) = refl
read_first d l (digit x ∷ k) = refl

read_second : (d : ℕ) (l k : List Event) → (forked d l (read ∷ k)).number ≡ d
read_second d [] k = refl
read_second d (down ∷ l) k = refl
read_second d (up ∷ l) k = refl
read_second d (read ∷ l) k = refl
read_second d (digit x ∷ l) k = refl

-- over one move, and over two
same_digits : (d : ℕ) (o : Option ℕ) (l k : List Event) → (forked d (digits o l) (digits o k)).number ≡ (forked d l k).number
same_digits d None l k = refl
same_digits d (Some x) l k =
    by_order-each (λ (c : Comparison). c.number ≡ (forked d l k).number) x x _ _ _ (λ lt. absurd (omega arith)) (λ e. refl)
    (λ lt. absurd (omega arith))

other_digits : (d x y : ℕ) (o p : Option ℕ) (l k : List Event) → o ≡ Some x → p ≡ Some y → (x ≡ y → ⊥)
    → (forked d (digits o l) (digits p k)).number ≡ min (keep 1 d d l) (keep 1 d d k)
other_digits d x y o p l k e f apart =
    let h = keep_most 1 d d l in
    let g = keep_most 1 d d k in
    ap₂ (λ a b. (forked d (digits a l) (digits b k)).number) e f
    ∙ by_order-each (λ (c : Comparison). c.number ≡ min (keep 1 d d l) (keep 1 d d k)) x y _ _ _ (λ lt. omega arith)
    (λ q. absurd (apart q)) (λ lt. omega arith)

module _ (enc : Enc) (patterns : List Pattern) (tnfa : Tnfa) (is : IsTnfaOf enc patterns tnfa) where
  abbrev states : List spec.State
  states = automaton (terms_of patterns)

  -- the symbols of a way from a state to a leaf, and of a way to read a unit there
  abbrev pub walk : (state : ℕ) (way : List ℕ) (to unit pick : ℕ) → List Symbol
  walk state way to unit pick = path_symbols states state way (mark to ∷ (choice_of tnfa to unit pick ++ reads unit ∷ []))

  pub walk-lowest : (way : List ℕ) (state to outer low unit pick : ℕ) → low ≤ outer → IsWay tnfa state way to
      → lowest outer low (walk state way to unit pick)
      ≡ lowest_on_way tnfa state (depth_behind outer state) (min low (depth_behind outer state)) way
  walk-lowest way state to outer low unit pick le w =
      lowest-way enc patterns tnfa is way state to outer low (choice_of tnfa to unit pick ++ reads unit ∷ []) le w
      (choice-lowest (choice_of tnfa to unit pick) unit (choice_of-is tnfa to unit pick))

  -- two moves of a state have two digits
  digits_apart : (state i j c d : ℕ) → IsNth (next_states tnfa state) i c → IsNth (next_states tnfa state) j d → (i ≡ j → ⊥)
      → (x y : ℕ) × (picked (move_at states state i) ≡ Some x) × (picked (move_at states state j) ≡ Some y) × (x ≡ y → ⊥)
  digits_apart state i j c d at at' apart =
      ⊎_elim
      (λ lt.
      let r = automaton_in_order (terms_of patterns) state i j c d (edge i c at) (edge j d at') lt in
      (r.0, r.1, r.2, r.3, λ e. let l = r.4 in omega arith))
      (λ ge.
      let r = automaton_in_order (terms_of patterns) state j i d c (edge j d at') (edge i c at) (omega arith) in
      (r.1, r.0, r.3, r.2, λ e. let l = r.4 in omega arith))
      (cases_lt i j)
    where
      edge : (i c : ℕ) → IsNth (next_states tnfa state) i c → IsAt 0 (successors (graph_of states) state) i c
      edge i c nth = nth_at_zero (successors (graph_of states) state) i c (in_graph enc patterns tnfa is state i c nth)

  -- what a way keeps behind its first move
  kept_behind : (state index to outer unit pick : ℕ) (way : List ℕ) → (w : IsWay tnfa state (index ∷ way) to)
      → keep 1 outer outer (events (walk (target (move_at states state index)) way to unit pick))
      ≡ lowest_on_way tnfa state outer outer (index ∷ way)
  kept_behind state index to outer unit pick way w =
      let next : ℕ = target (move_at states state index) in
      keep_lowest (walk next way to unit pick) outer outer
      ∙ walk-lowest way next to outer outer unit pick (omega arith) (way-rest enc patterns tnfa is state index to way w)
      ∙ ap (λ n. lowest_on_way tnfa n (depth_behind outer n) (min outer (depth_behind outer n)) way)
      (target-next enc patterns tnfa is state index w.0.to (next_states-nth tnfa state index w.0 w.1))

  pub forked-ways : (way other : List ℕ) (state to last outer unit pick second : ℕ) → IsWay tnfa state way to → IsWay tnfa state other last
      → (forked outer (events (walk state way to unit pick)) (events (walk state other last unit second))).number
      ≡ number_of_fork tnfa state (depth_behind outer state) way other
  forked-ways [] [] state to last outer unit pick second w v =
      ap₂ (λ m n. (forked outer (events (mark m ∷ (choice_of tnfa to unit pick ++ reads unit ∷ [])))
      (events (mark n ∷ (choice_of tnfa last unit second ++ reads unit ∷ [])))).number) (sym w) (sym v)
      ∙ ap (λ (c : Comparison). c.number) (forked-mark state outer _ _)
      ∙ leaf_number (depth_behind outer state) unit (choice_of tnfa to unit pick) (choice_of tnfa last unit second)
      (choice_of-is tnfa to unit pick) (choice_of-is tnfa last unit second)
  forked-ways [] (j ∷ other) state to last outer unit pick second w v =
      let none : choice_of tnfa to unit pick ≡ [] =
      choice_of-moves tnfa to unit pick j v.0.to
      (subst (λ n. IsNth (next_states tnfa n) j v.0.to) w (next_states-nth tnfa state j v.0 v.1)) in
      ap₂ (λ m l. (forked outer (events (mark m ∷ (l ++ reads unit ∷ []))) (events (walk state (j ∷ other) last unit second))).number)
      (sym w) none
      ∙ ap (λ (c : Comparison). c.number) (forked-mark state outer (reads unit ∷ []) _)
      ∙ read_first (depth_behind outer state) []
      (events (label (move_at states state j) ++ walk (target (move_at states state j)) other last unit second))
  forked-ways (i ∷ way) [] state to last outer unit pick second w v =
      let none : choice_of tnfa last unit second ≡ [] =
      choice_of-moves tnfa last unit second i w.0.to
      (subst (λ n. IsNth (next_states tnfa n) i w.0.to) v (next_states-nth tnfa state i w.0 w.1)) in
      ap₂ (λ m l. (forked outer (events (walk state (i ∷ way) to unit pick)) (events (mark m ∷ (l ++ reads unit ∷ [])))).number)
      (sym v) none
      ∙ ap (λ (c : Comparison). c.number) (forked-mark state outer _ (reads unit ∷ []))
      ∙ read_second (depth_behind outer state)
      (events (label (move_at states state i) ++ walk (target (move_at states state i)) way to unit pick)) []
  forked-ways (i ∷ way) (j ∷ other) state to last outer unit pick second w v =
      ap (λ (c : Comparison). c.number) (forked-mark state outer _ _)
      ∙ ap₂ (λ l k. (forked d l k).number) (events-label one (walk (target one) way to unit pick))
      (events-label two (walk (target two) other last unit second))
      ∙ by (λ u. forked-ways way other (target one) to last d unit pick second (way-rest enc patterns tnfa is state i to way w) u)
      (nat_eq i j) refl
    where
      d : ℕ
      d = depth_behind outer state

      one : spec.Move
      one = move_at states state i

      two : spec.Move
      two = move_at states state j

      at_one : target one ≡ next_state tnfa state i
      at_one = target-next enc patterns tnfa is state i w.0.to (next_states-nth tnfa state i w.0 w.1)

      Onward : Type 0
      Onward =
          IsWay tnfa (target one) other last
          → (forked d (events (walk (target one) way to unit pick)) (events (walk (target one) other last unit second))).number
          ≡ number_of_fork tnfa (target one) (depth_behind d (target one)) way other

      together : Onward → i ≡ j
          → (forked d (digits (picked one) (events (walk (target one) way to unit pick)))
          (digits (picked two) (events (walk (target two) other last unit second)))).number
          ≡ number_of_fork tnfa (next_state tnfa state i) (depth_behind d (next_state tnfa state i)) way other
      together onward e =
          let same : two ≡ one = ap (λ k. move_at states state k) (sym e) in
          ap (λ (m : spec.Move). (forked d (digits (picked one) (events (walk (target one) way to unit pick)))
          (digits (picked m) (events (walk (target m) other last unit second)))).number) same
          ∙ same_digits d (picked one) _ _
          ∙ onward (subst (λ (m : spec.Move). IsWay tnfa (target m) other last) same (way-rest enc patterns tnfa is state j last other v))
          ∙ ap (λ n. number_of_fork tnfa n (depth_behind d n) way other) at_one

      apart : (i ≡ j → ⊥)
          → (forked d (digits (picked one) (events (walk (target one) way to unit pick)))
          (digits (picked two) (events (walk (target two) other last unit second)))).number
          ≡ min (lowest_on_way tnfa state d d (i ∷ way)) (lowest_on_way tnfa state d d (j ∷ other))
      apart ne =
          let r = digits_apart state i j w.0.to v.0.to (next_states-nth tnfa state i w.0 w.1) (next_states-nth tnfa state j v.0 v.1) ne in
          other_digits d r.0 r.1 (picked one) (picked two) _ _ r.2 r.3 r.4
          ∙ ap₂ (λ a b. min a b) (kept_behind state i to d unit pick way w) (kept_behind state j last d unit second other v)

      by : Onward → (b : Bool) → nat_eq i j ≡ b
          → (forked d (digits (picked one) (events (walk (target one) way to unit pick)))
          (digits (picked two) (events (walk (target two) other last unit second)))).number
          ≡ (if b then number_of_fork tnfa (next_state tnfa state i) (depth_behind d (next_state tnfa state i)) way other
          else min (lowest_on_way tnfa state d d (i ∷ way)) (lowest_on_way tnfa state d d (j ∷ other)))
      by onward true e = together onward (eqb-true i j e)
      by onward false e = apart (eqb-false i j e)
