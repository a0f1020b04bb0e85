-- The run of an automaton with all edges is that of the one with one edge for each class, on a word by the least units of these.
use Rattle.std.proofs.Common.{◌≡◌, ℕ, zero, suc, ◌+◌, ◌<◌, ◌≤◌, List, [], ◌∷◌, length, get_or, Option, Some, None, Bool, true, false, nat_le, ◌&&◌, if◌then◌else◌, Contains, refl, sym, ap, ◌∙◌, subst, arith}
use Rattle.std.specs.Prelude.{map, option_map}
use Rattle.std.proofs.Math.ListN.{get_or-map}
use Rattle.lx_auto.specs.declared.automaton.Auto.{Auto}
use Rattle.lx_auto.specs.declared.automaton.Edge.{Edge}
use Rattle.lx_auto.specs.declared.automaton.State.{State}
use Rattle.lx_auto.specs.Automaton.{AreApartFrom, IsAuto, edge_on, state_of}
use Rattle.lx_auto.specs.Run.{Standing, and_then, behind_edge, by_edge, found_at, found_behind, found_by, found_left, or_else, run, start_with}
use Rattle.lx_auto.specs.SameRun.{FindSame, HasSameRun}
use Rattle.lx_auto.proofs.Edges.{edge_on-here, edge_on-past}
use Rattle.lx_auto.proofs.SameLists.{Contains-later}
use Rattle.lx_auto.proofs.States.{state_formed}
use Rattle.lx_regs.specs.declared.folding.Fold.{Fold}
use Rattle.lx_regs.specs.FoldedEdges.{AreFolded, edge_at, folds_at, unfolded_auto, unfolded_edge, unfolded_state}
use Rattle.lx_regs.specs.Shapes.{EdgeShape, KeepsShape, shape_of_edge}
use Rattle.lx_regs.proofs.FoldedEdges.UnfoldedStates.{state_of-unfolded}

-- ---- the edge on a unit

abbrev in_fold : Fold → ℕ → Bool
in_fold fold unit = nat_le fold.lo unit && nat_le unit fold.hi

-- what was noted of the edge on a unit
abbrev fold_on : List Fold → ℕ → Option Fold
fold_on [] unit = None
fold_on (fold ∷ folds) unit = if in_fold fold unit then Some fold else fold_on folds unit

edge_on-unfolded : (kept : List Edge) (folds : List Fold) (unit : ℕ)
    → edge_on (map (unfolded_edge kept) folds) unit ≡ option_map (unfolded_edge kept) (fold_on folds unit)
edge_on-unfolded kept [] unit = refl
edge_on-unfolded kept (fold ∷ folds) unit = at (in_fold fold unit) (edge_on-unfolded kept folds unit)
  where
    at : (b : Bool) → edge_on (map (unfolded_edge kept) folds) unit ≡ option_map (unfolded_edge kept) (fold_on folds unit)
        → (if b then Some (unfolded_edge kept fold) else edge_on (map (unfolded_edge kept) folds) unit)
        ≡ option_map (unfolded_edge kept) (if b then Some fold else fold_on folds unit)
    at true rest = refl
    at false rest = rest

fold_on-member : (folds : List Fold) (unit : ℕ) (fold : Fold) → fold_on folds unit ≡ Some fold → Contains folds fold
fold_on-member [] unit fold on = absurd (cc on)
fold_on-member (first ∷ folds) unit fold on = at (in_fold first unit) on (fold_on-member folds unit fold)
  where
    at : (b : Bool) → (if b then Some first else fold_on folds unit) ≡ Some fold → (fold_on folds unit ≡ Some fold → Contains folds fold)
        → Contains (first ∷ folds) fold
    at true on rest = (0, omega arith, (let same : first ≡ fold = cc on in same))
    at false on rest = Contains-later first folds fold (rest on)

-- ---- the least unit of an edge

low-at : (low : ℕ) (edges : List Edge) (place : ℕ) → AreApartFrom low edges → place < length edges → low ≤ (edge_at edges place).lo
low-at low [] place apart within = absurd (omega arith)
low-at low (edge ∷ edges) zero apart within = apart.0
low-at low (edge ∷ edges) (suc place) apart within =
    let later = low-at (edge.hi + 1) edges place apart.2 (omega arith) in
    let first = apart.0 in
    let ordered = apart.1 in
    omega (arith, later, first, ordered)

edge_on-least : (low : ℕ) (edges : List Edge) (place : ℕ) → AreApartFrom low edges → place < length edges
    → edge_on edges (edge_at edges place).lo ≡ Some (edge_at edges place)
edge_on-least low [] place apart within = absurd (omega arith)
edge_on-least low (edge ∷ edges) zero apart within = edge_on-here edge edges edge.lo (omega arith) apart.1
edge_on-least low (edge ∷ edges) (suc place) apart within =
    let later = low-at (edge.hi + 1) edges place apart.2 (omega arith) in
    edge_on-past edge edges (edge_at edges place).lo (omega (arith, later)) ∙ edge_on-least (edge.hi + 1) edges place apart.2 (omega arith)

-- ---- words

-- the word on behind an edge
abbrev word_along : List Edge → Option Fold → (ℕ → Option (List ℕ)) → Option (List ℕ)
word_along kept None onward = None
word_along kept (Some fold) onward = option_map (λ rest. (edge_at kept fold.place).lo ∷ rest) (onward (edge_at kept fold.place).to)

-- the word by the least units of the edges that are kept, if there is an edge on each unit
abbrev kept_word : Auto → List (List Fold) → (state : ℕ) → List ℕ → Option (List ℕ)
kept_word auto lists state [] = Some []
kept_word auto lists state (unit ∷ word) =
    word_along (state_of auto.states state).edges (fold_on (folds_at lists state) unit) (λ next. kept_word auto lists next word)

abbrev run_if : Auto → Standing → Option (List ℕ) → Option Standing
run_if auto standing None = None
run_if auto standing (Some word) = run auto standing word

module _ (auto : Auto) (lists : List (List Fold)) (is : IsAuto auto) (count : length lists ≡ length auto.states)
    (are : (number : ℕ) → AreFolded (state_of auto.states number).edges (folds_at lists number)) where
  -- behind one more edge
  run-along : (standing : Standing) (fold : Fold) (rest : Option (List ℕ)) → fold.place < length (state_of auto.states standing.state).edges
      → run_if auto
      (behind_edge (state_of auto.states standing.state) standing (edge_at (state_of auto.states standing.state).edges fold.place)) rest
      ≡ run_if auto standing (option_map (λ word. (edge_at (state_of auto.states standing.state).edges fold.place).lo ∷ word) rest)
  run-along standing fold None within = refl
  run-along standing fold (Some word) within =
      let state = state_of auto.states standing.state in
      let on = edge_on-least 0 state.edges fold.place (state_formed auto standing.state is).apart within in
      ap (λ o. and_then (by_edge state standing o) (λ next. run auto next word)) (sym on)

  run-unfolded : (word : List ℕ) (standing : Standing)
      → run (unfolded_auto auto lists) standing word ≡ run_if auto standing (kept_word auto lists standing.state word)
  run-unfolded [] standing = refl
  run-unfolded (unit ∷ word) standing =
      ap (λ (s : State). and_then (by_edge s standing (edge_on s.edges unit)) (λ next. run (unfolded_auto auto lists) next word))
      (state_of-unfolded auto.states lists standing.state count)
      ∙ ap (λ o. and_then (by_edge (unfolded_state state folds) standing o) (λ next. run (unfolded_auto auto lists) next word))
      (edge_on-unfolded state.edges folds unit)
      ∙ at (fold_on folds unit) refl (λ next. run-unfolded word next)
    where
      state : State
      state = state_of auto.states standing.state

      folds : List Fold
      folds = folds_at lists standing.state

      at : (found : Option Fold) → fold_on folds unit ≡ found
          → ((next : Standing) → run (unfolded_auto auto lists) next word ≡ run_if auto next (kept_word auto lists next.state word))
          → and_then (by_edge (unfolded_state state folds) standing (option_map (unfolded_edge state.edges) found))
          (λ next. run (unfolded_auto auto lists) next word)
          ≡ run_if auto standing (word_along state.edges found (λ next. kept_word auto lists next word))
      at None on rest = refl
      at (Some fold) on rest =
          rest (behind_edge state standing (edge_at state.edges fold.place))
          ∙ run-along standing fold (kept_word auto lists (edge_at state.edges fold.place).to word)
          ((are standing.state).within fold (fold_on-member folds unit fold on))

-- ---- automata of one shape

shape-at : (edges others : List Edge) (place : ℕ) → map shape_of_edge edges ≡ map shape_of_edge others
    → shape_of_edge (edge_at edges place) ≡ shape_of_edge (edge_at others place)
shape-at edges others place same =
    let blank : Edge = record { lo = 0; hi = 0; ops = []; to = 0 } in
    sym (get_or-map shape_of_edge edges place blank) ∙ ap (λ l. get_or l place (shape_of_edge blank)) same
    ∙ get_or-map shape_of_edge others place blank

pub to-at : (edges others : List Edge) (place : ℕ) → map shape_of_edge edges ≡ map shape_of_edge others
    → (edge_at edges place).to ≡ (edge_at others place).to
to-at edges others place same = ap (λ (shape : EdgeShape). shape.target) (shape-at edges others place same)

module _ (folded answer : Auto) (lists : List (List Fold)) (kept : KeepsShape folded answer) where
  kept_word-shape : (word : List ℕ) (state : ℕ) → kept_word answer lists state word ≡ kept_word folded lists state word
  kept_word-shape [] state = refl
  kept_word-shape (unit ∷ word) state = at (fold_on (folds_at lists state) unit) (λ next. kept_word-shape word next)
    where
      edges : List Edge
      edges = (state_of answer.states state).edges

      others : List Edge
      others = (state_of folded.states state).edges

      at : (found : Option Fold) → ((next : ℕ) → kept_word answer lists next word ≡ kept_word folded lists next word)
          → word_along edges found (λ next. kept_word answer lists next word)
          ≡ word_along others found (λ next. kept_word folded lists next word)
      at None rest = refl
      at (Some fold) rest =
          let shape = shape-at edges others fold.place (kept.edges state) in
          let low : (edge_at edges fold.place).lo ≡ (edge_at others fold.place).lo = ap (λ (s : EdgeShape). s.low) shape in
          let to : (edge_at edges fold.place).to ≡ (edge_at others fold.place).to = ap (λ (s : EdgeShape). s.target) shape in
          ap (λ o. option_map (λ (l : List ℕ). (edge_at edges fold.place).lo ∷ l) o)
          (rest (edge_at edges fold.place).to ∙ ap (λ s. kept_word folded lists s word) to)
          ∙ ap (λ n. option_map (λ (l : List ℕ). n ∷ l) (kept_word folded lists (edge_at others fold.place).to word)) low

-- ---- runs

module _ (folded answer : Auto) (lists : List (List Fold)) (count : length lists ≡ length folded.states)
    (also : length lists ≡ length answer.states) where
  found_at-unfolded : (auto : Auto) → length lists ≡ length auto.states → (standing : Standing)
      → found_at (unfolded_auto auto lists) standing ≡ found_at auto standing
  found_at-unfolded auto many standing =
      ap (λ (s : State). found_by s.accept standing) (state_of-unfolded auto.states lists standing.state many)

  found_behind-unfolded : (auto : Auto) → length lists ≡ length auto.states → (standing : Standing)
      → found_behind (unfolded_auto auto lists) standing ≡ found_behind auto standing
  found_behind-unfolded auto many standing =
      ap (λ f. or_else f (found_left standing.bank standing.left)) (found_at-unfolded auto many standing)

  FindSame-unfolded : (one other : Option Standing) → FindSame answer folded one other
      → FindSame (unfolded_auto answer lists) (unfolded_auto folded lists) one other
  FindSame-unfolded None None same = tt
  FindSame-unfolded None (Some other) same = absurd same
  FindSame-unfolded (Some one) None same = absurd same
  FindSame-unfolded (Some one) (Some other) same = (
    found_at-unfolded answer also one ∙ same.0 ∙ sym (found_at-unfolded folded count other),
    found_behind-unfolded answer also one ∙ same.1 ∙ sym (found_behind-unfolded folded count other),
  )

  FindSame-if : (one other : Standing) (word : Option (List ℕ))
      → ((w : List ℕ) → FindSame answer folded (run answer one w) (run folded other w))
      → FindSame (unfolded_auto answer lists) (unfolded_auto folded lists) (run_if answer one word) (run_if folded other word)
  FindSame-if one other None same = tt
  FindSame-if one other (Some word) same = FindSame-unfolded (run answer one word) (run folded other word) (same word)

-- with all edges the answer runs as the automaton of which it is the answer
pub HasSameRun-unfolded : (folded answer : Auto) (lists : List (List Fold)) → IsAuto folded → IsAuto answer
    → length lists ≡ length folded.states → length lists ≡ length answer.states
    → ((number : ℕ) → AreFolded (state_of folded.states number).edges (folds_at lists number))
    → ((number : ℕ) → AreFolded (state_of answer.states number).edges (folds_at lists number)) → KeepsShape folded answer
    → HasSameRun answer folded → HasSameRun (unfolded_auto answer lists) (unfolded_auto folded lists)
HasSameRun-unfolded folded answer lists is formed count also are others kept same start bank empty =
    let found = same start bank empty in (
      found.0,
      found.1,
      found.2,
      λ word.
          let one = run-unfolded answer lists formed also others word (start_with start bank) in
          let other = run-unfolded folded lists is count are word (start_with start found.0)
          ∙ ap (λ w. run_if folded (start_with start found.0) w) (sym (kept_word-shape folded answer lists kept word 0)) in
          subst (λ r. FindSame (unfolded_auto answer lists) (unfolded_auto folded lists) r
          (run (unfolded_auto folded lists) (start_with start found.0) word)) (sym one)
          (subst (λ r. FindSame (unfolded_auto answer lists) (unfolded_auto folded lists)
          (run_if answer (start_with start bank) (kept_word answer lists 0 word)) r) (sym other)
          (FindSame-if folded answer lists count also (start_with start bank) (start_with start found.0)
          (kept_word answer lists 0 word) found.3)),
    )
