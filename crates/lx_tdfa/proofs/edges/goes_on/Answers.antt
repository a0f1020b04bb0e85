-- All four tests hold.
use Rattle.std.proofs.Common.{◌≡◌, ◌-◌, ◌<◌, true, nat_eq, List, sym, ap₂, ◌∙◌, arith}
use Rattle.std.proofs.lemmas.Bool.Decides.{Decides-eqb, nat_tests}
use Rattle.std.specs.Cmp.Lexicographic.{pointwise}
use Rattle.lx_auto.specs.contracts.ops.OpPartialEq.TheImpl.{eq-value}
use Rattle.lx_auto.specs.declared.automaton.Edge.{Edge}
use Rattle.lx_auto.specs.declared.ops.Op.{Op}
use Rattle.lx_tdfa.specs.Edges.{GoesOn}
use Rattle.lx_tdfa.proofs.Loops.OpLists.{Decides-ops}
use Rattle.lx_tdfa.proofs.edges.goes_on.Goals as goal
use Rattle.lx_tdfa.proofs.edges.goes_on.Goals.{then-next-gt0, else-next-gt0, then-edge-next, else-edge-next}

all_hold : (edge next : Edge) → 0 < next.lo → nat_eq edge.hi (next.lo - 1) ≡ true → nat_eq edge.to next.to ≡ true
    → pointwise eq-value.it edge.ops next.ops ≡ true → GoesOn edge next
all_hold edge next some units to ops =
    let last : edge.hi ≡ next.lo - 1 = (Decides-eqb edge.hi (next.lo - 1)).0 units in
    record { units = omega arith; to = (Decides-eqb edge.to next.to).0 to; ops = (Decides-ops edge.ops next.ops).0 ops }

pub returns-then-edge-next-2 : goal.returns-then-edge-next-2
returns-then-edge-next-2 c is =
    elim c.if-next-gt0.branch [
      | then-next-gt0 w ↦
          elim c.if-edge-next.branch [
            | then-edge-next v ↦
                all_hold c.args.edge.now c.args.next.now w.if-next-gt0.true (sym w.value-is ∙ v.if-edge-next.true) (sym v.value-is ∙ c.if-edge-next-2.true)
                (sym (ap₂ (λ (ops others : List Op). pointwise eq-value.it ops others) c.as_slice.ensures c.as_slice-then-edge-next-2.ensures)
                ∙ sym c.eq.ensures ∙ is)
            | else-edge-next v ↦ absurd (cc)
          ]
      | else-next-gt0 w ↦ elim c.if-edge-next.branch [ then-edge-next v ↦ absurd (grind (arith, nat_tests)) | else-edge-next v ↦ absurd (cc) ]
    ]
