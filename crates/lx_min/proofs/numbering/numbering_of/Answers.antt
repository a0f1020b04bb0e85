use Rattle.std.proofs.Common.{◌≡◌, ℕ, ◌≤◌, List, length, sym, subst, arith}
use Rattle.lx_auto.specs.declared.automaton.State.{State}
use Rattle.lx_min.specs.Merges.{AreClasses, AreClassesApart}
use Rattle.lx_min.specs.Numberings.{AreNumbered}
use Rattle.lx_min.proofs.Numberings.{AreClasses-numbered, AreClassesApart-numbered, numbered_by}
use Rattle.lx_min.proofs.numbering.numbering_of.Goals as goal

pub returns : goal.returns
returns c =
    let auto = c.args.auto.now in
    let class : List ℕ = c.args.partition.class.items in
    let chosen : List ℕ = c.args.partition.chosen.items in
    let now = c.loop-state.numbering in
    let rank : List ℕ = now.rank.items in
    let listed : List ℕ = now.chosen.items in
    let kept : now.class.items ≡ class = c.loop-state.invariant.kept in
    let same : c.as_slice-state-end.result.now ≡ auto.states = c.as_slice-state-end.ensures in
    let all : length auto.states ≤ c.loop-state.state =
    subst (λ (l : List State). length l ≤ c.loop-state.state) same c.loop-state-test.false in
    let none_more : c.loop-state.state ≤ length auto.states =
    subst (λ (l : List State). c.loop-state.state ≤ length l) same c.loop-state.auto.state-end in
    let ends : c.loop-state.state ≡ length auto.states = omega arith in
    let numbered : AreNumbered class chosen rank listed (length auto.states) =
    subst (AreNumbered class chosen rank listed) ends
    (subst (λ l. AreNumbered l chosen rank listed c.loop-state.state) kept c.loop-state.invariant.numbered) in
    record {
      classes =
          subst (λ l. AreClasses auto (numbered_by l rank listed)) (sym kept)
          (AreClasses-numbered auto class chosen rank listed c.requires.formed c.requires.minimal.classes numbered);
      apart =
          subst (λ l. AreClassesApart auto (numbered_by l rank listed)) (sym kept)
          (AreClassesApart-numbered auto class chosen rank listed c.requires.formed c.requires.minimal.classes numbered
          c.requires.minimal.apart);
      few = numbered.few;
      order = numbered.order;
    }
