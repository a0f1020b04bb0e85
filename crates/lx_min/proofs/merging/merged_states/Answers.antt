use Rattle.std.proofs.Common.{◌≡◌, ℕ, ◌+◌, ◌<◌, ◌≤◌, List, [], ◌∷◌, ◌++◌, None, length, get_or, set, take, sym, ap, ap₂, ◌∙◌, subst, arith}
use Rattle.std.specs.Prelude.{map}
use Rattle.std.proofs.Math.Seq.{take-length}
use Rattle.std.proofs.lemmas.List.{length-set, map_more}
use Rattle.lx_auto.specs.declared.automaton.State.{State}
use Rattle.lx_auto.specs.Automaton.{state_of}
use Rattle.lx_min.specs.Merges.{moved_state}
use Rattle.lx_min.specs.Numberings.{numbered_classes}
use Rattle.lx_min.proofs.MergedLists.{AreLeft, AreLeft-taken}
use Rattle.lx_min.proofs.Numberings.{met-within}
use Rattle.lx_min.proofs.merging.merged_states.Goals as goal

pub take-kept-requires : goal.take-kept-requires
take-kept-requires c =
    let chosen = c.args.numbering.now.chosen.items in
    let place = c.loop-state.state-index in
    let same : c.deref-state-items.result.now ≡ chosen = c.deref-state-items.ensures.value in
    let in_list : place < length chosen = subst (λ (l : List ℕ). place < length l) same c.loop-state-test.true in
    let state : get_or chosen place 0 < length c.args.auto.states =
    met-within c.args.auto (get_or chosen place 0) c.requires.formed (c.requires.numbering.classes.chosen place in_list).0 in
    subst (λ (l : List ℕ). get_or l place 0 < length c.loop-state.states.items) (sym same)
    (subst (λ n. get_or chosen place 0 < n) (sym c.loop-state.invariant.count) state)

pub loop-state-preserved : goal.loop-state-preserved
loop-state-preserved c =
    let numbering = c.args.numbering.now in
    let classes = numbered_classes numbering in
    let chosen = numbering.chosen.items in
    let given = c.args.auto.states in
    let states = c.loop-state.states.items in
    let place = c.loop-state.state-index in
    let number = get_or chosen place 0 in
    let none : State = record { edges = []; accept = None; leave = [] } in
    let moved : ℕ → State = λ state. moved_state classes.of (state_of given state) in
    let same : c.deref-state-items.result.now ≡ chosen = c.deref-state-items.ensures.value in
    let in_list : place < length chosen = subst (λ (l : List ℕ). place < length l) same c.loop-state-test.true in
    let after : c.take-kept.new.states.items ≡ set states number none =
    c.take-kept.ensures.left ∙ ap (λ (l : List ℕ). set states (get_or l place 0) none) same in
    let kept : c.take-kept.result ≡ state_of given number =
    c.take-kept.ensures.taken ∙ ap (λ (l : List ℕ). state_of states (get_or l place 0)) same
    ∙ c.loop-state.invariant.left place (omega arith) in_list in
    let last : c.moved.result ≡ moved number = c.moved.ensures ∙ ap (moved_state classes.of) kept in
    record {
      count = ap length after ∙ length-set states number none ∙ c.loop-state.invariant.count;
      left =
          subst (λ l. AreLeft classes given l (place + 1)) (sym after)
          (AreLeft-taken c.args.auto classes states place none c.requires.numbering.classes in_list c.loop-state.invariant.left);
      done =
          c.in_ok-push.ensures.pushed
          ∙ ap₂ (λ (front : List State) (state : State). front ++ state ∷ []) c.loop-state.invariant.done last
          ∙ sym (map_more moved chosen place 0 in_list);
    }

pub returns : goal.returns
returns c =
    let classes = numbered_classes c.args.numbering.now in
    let chosen = c.args.numbering.now.chosen.items in
    let place = c.loop-state.state-index in
    let moved : ℕ → State = λ state. moved_state classes.of (state_of c.args.auto.states state) in
    let same : c.deref-state-items.result.now ≡ chosen = c.deref-state-items.ensures.value in
    let all : length chosen ≤ place = subst (λ (l : List ℕ). length l ≤ place) same c.loop-state-test.false in
    let none_more : place ≤ length chosen = subst (λ (l : List ℕ). place ≤ length l) same c.loop-state.auto.state-index-end in
    let ends : place ≡ length chosen = omega arith in
    c.loop-state.invariant.done ∙ ap (λ n. map moved (take n chosen)) ends ∙ ap (map moved) (take-length chosen)
