-- The merge of an automaton runs as the automaton.
use Rattle.std.proofs.Common.{◌≡◌, ℕ, suc, List, [], ◌∷◌, Option, Some, None, refl, sym, ap, ap₂, ◌∙◌, subst}
use Rattle.std.specs.Prelude.{option_map}
use Rattle.lx_auto.specs.declared.automaton.Accept.{Accept}
use Rattle.lx_auto.specs.declared.automaton.Auto.{Auto}
use Rattle.lx_auto.specs.declared.automaton.Edge.{Edge}
use Rattle.lx_auto.specs.declared.automaton.State.{State}
use Rattle.lx_auto.specs.Automaton.{IsAuto, edge_on, state_of}
use Rattle.lx_auto.specs.Bank.{Bank, bank_after, read_all}
use Rattle.lx_auto.specs.Points.{IsMet, begins}
use Rattle.lx_auto.specs.Run.{Left, Standing, and_then, by_edge, found_by, found_left, left_after, or_else, run}
use Rattle.lx_auto.specs.SameRun.{FindSame, HasSameRun}
use Rattle.lx_auto.specs.ToldApart.{AcceptTheSame}
use Rattle.lx_auto.proofs.MetStates.{met-behind}
use Rattle.lx_auto.proofs.OneEdge.{edge_on-is}
use Rattle.lx_min.specs.Merges.{Classes, IsMerge, MoveAlike, moved_edge, moved_state}
use Rattle.lx_min.proofs.Merges.{accept-merged, state_of-merged}
use Rattle.lx_min.proofs.MovedEdges.{edge_on-moved}
use Rattle.lx_min.proofs.SameEffects.{bank_after-done}

-- where the accepting state left last is one that accepts the same, at one offset; or none was left
abbrev SameLeft : (left other : Option Left) → Type 0
SameLeft None None = Unit {0}
SameLeft None (Some other) = ⊥
SameLeft (Some left) None = ⊥
SameLeft (Some left) (Some other) =
    (left.offset ≡ other.offset) × (left.accept.rule ≡ other.accept.rule) × (left.accept.values ≡ other.accept.values)

found_left-same : (bank : Bank) (left other : Option Left) → SameLeft left other → found_left bank other ≡ found_left bank left
found_left-same bank None None same = refl
found_left-same bank None (Some other) same = absurd same
found_left-same bank (Some left) None same = absurd same
found_left-same bank (Some left) (Some other) same =
    λ i. Some (record { rule = sym same.1 i; values = read_all bank (sym same.2 i); offset = sym same.0 i })

-- where a run stands
abbrev standing : (state offset : ℕ) → Bank → Option Left → Standing
standing state offset bank left = record { state = state; offset = offset; bank = bank; left = left }

module _ (state class offset : ℕ) (bank : Bank) (left other : Option Left) (same_left : SameLeft left other) where
  found_by-same : (accept next : Option Accept) → AcceptTheSame accept next
      → found_by next (standing class offset bank other) ≡ found_by accept (standing state offset bank left)
  found_by-same None None same = refl
  found_by-same None (Some next) same = absurd same
  found_by-same (Some accept) None same = absurd same
  found_by-same (Some accept) (Some next) same =
      let banks = bank_after-done offset accept.ops next.ops bank same.2 in
      λ i. Some (record { rule = sym same.0 i; values = read_all (sym banks i) (sym same.1 i); offset = offset })

  found_behind-same : (accept next : Option Accept) → AcceptTheSame accept next
      → or_else (found_by next (standing class offset bank other)) (found_left bank other)
      ≡ or_else (found_by accept (standing state offset bank left)) (found_left bank left)
  found_behind-same accept next same = ap₂ or_else (found_by-same accept next same) (found_left-same bank left other same_left)

  left_after-same : (accept next : Option Accept) → AcceptTheSame accept next
      → SameLeft (left_after accept (standing state offset bank left)) (left_after next (standing class offset bank other))
  left_after-same None None same = same_left
  left_after-same None (Some next) same = absurd same
  left_after-same (Some accept) None same = absurd same
  left_after-same (Some accept) (Some next) same = (refl, same.0, same.1)

module _ (given answer : Auto) (classes : Classes) (is : IsMerge given answer classes) (formed : IsAuto given) where
  -- on the word the run from a state and that from its class find the same
  abbrev RunSame : List ℕ → (state offset : ℕ) → Bank → (left other : Option Left) → Type 0
  RunSame word state offset bank left other =
      FindSame answer given (run answer (standing (classes.of state) offset bank other) word)
      (run given (standing state offset bank left) word)

  -- from any state to which some walk comes
  abbrev AllRunSame : List ℕ → Type 0
  AllRunSame word = (state : ℕ) → IsMet given state → (offset : ℕ) (bank : Bank) (left other : Option Left) → SameLeft left other
      → RunSame word state offset bank left other

  module _ (word : List ℕ) (onward : AllRunSame word) (state : ℕ) (met : IsMet given state) (offset : ℕ) (bank : Bank)
      (left other : Option Left) (same : SameLeft left other) (unit : ℕ) where
    abbrev source : State
    source = state_of given.states state

    abbrev chosen : State
    chosen = state_of given.states (classes.chosen (classes.of state))

    -- the same behind edges
    abbrev FindSameBehind : (merged : State) → (first second : Option Edge) → Type 0
    FindSameBehind merged first second =
        FindSame answer given
        (and_then (by_edge merged (standing (classes.of state) offset bank other) second) (λ next. run answer next word))
        (and_then (by_edge source (standing state offset bank left) first) (λ next. run given next word))

    find-behind : (first second : Option Edge) → edge_on source.edges unit ≡ first → MoveAlike classes.of source chosen first second
        → FindSameBehind (moved_state classes.of chosen) first (option_map (moved_edge classes.of) second)
    find-behind None None on move = tt
    find-behind None (Some second) on move = absurd move
    find-behind (Some first) None on move = absurd move
    find-behind (Some first) (Some second) on move =
        let between = bank_after offset source.leave bank in
        let between_other = bank_after offset chosen.leave bank in
        let behind = bank_after offset first.ops between in
        let left_behind = left_after source.accept (standing state offset bank left) in
        let other_behind = left_after chosen.accept (standing (classes.of state) offset bank other) in
        let banks : behind ≡ bank_after offset second.ops between_other =
        ap (bank_after offset first.ops) (bank_after-done offset source.leave chosen.leave bank move.0)
        ∙ bank_after-done offset first.ops second.ops between_other move.1 in
        subst (λ (place : ℕ × Bank). FindSame answer given (run answer (standing place.0 (suc offset) place.1 other_behind) word)
        (run given (standing first.to (suc offset) behind left_behind) word)) (λ i. (move.2 i, banks i))
        (onward first.to (met-behind given state first met (edge_on-is source.edges unit first on).0) (suc offset) behind left_behind
        other_behind
        (left_after-same state (classes.of state) offset bank left other same source.accept chosen.accept (is.are.alike state met).accepts))

    run-onward : RunSame (unit ∷ word) state offset bank left other
    run-onward =
        subst (λ (s : State). FindSameBehind s (edge_on source.edges unit) (edge_on s.edges unit))
        (sym (state_of-merged given answer classes is formed state met))
        (subst (FindSameBehind (moved_state classes.of chosen) (edge_on source.edges unit))
        (sym (edge_on-moved classes.of chosen.edges unit))
        (find-behind (edge_on source.edges unit) (edge_on chosen.edges unit) refl ((is.are.alike state met).moves unit)))

  run-merged : (word : List ℕ) → AllRunSame word
  run-merged [] state met offset bank left other same =
      let accept = (state_of given.states state).accept in
      let next = (state_of answer.states (classes.of state)).accept in
      let accepts = accept-merged given answer classes is formed state met in (
        found_by-same state (classes.of state) offset bank left other same accept next accepts,
        found_behind-same state (classes.of state) offset bank left other same accept next accepts,
      )
  run-merged (unit ∷ word) state met offset bank left other same =
      run-onward word (run-merged word) state met offset bank left other same unit

  pub HasSameRun-merged : HasSameRun answer given
  HasSameRun-merged start bank empty = (
    bank,
    empty,
    λ nothing. nothing,
    λ word. subst
        (λ state. FindSame answer given (run answer (standing state start bank None) word) (run given (standing 0 start bank None) word))
        is.are.start (run-merged word 0 (None, begins) start bank None None tt),
  )
