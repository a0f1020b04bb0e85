use Rattle.std.proofs.Common.{List, length, subst, sym}
use Rattle.lx_auto.specs.declared.automaton.State.{State}
use Rattle.lx_min.specs.Distances.{AreAccepts, TellApart}
use Rattle.lx_min.proofs.ToldByDistance.{TellApart-accepts}
use Rattle.lx_min.proofs.distances.distances_of.Goals as goal

pub distances_from-requires-clause-apart : goal.distances_from-requires-clause-apart
distances_from-requires-clause-apart c =
    let classes = c.in_ok-classes.classes.items in
    subst (TellApart c.args.auto.now) (sym c.as_slice-2.ensures.value)
    (TellApart-accepts c.args.auto.now classes c.requires
    (subst (λ (states : List State). AreAccepts states (length states) classes) c.as_slice.ensures c.in_ok-classes.ensures))
