use Rattle.std.proofs.Common.{◌≡◌, suc, ◌+◌, ◌≤◌, arith, None, refl, ◌∙◌, subst, length}
use Rattle.std.proofs.lemmas.Option.{get_or_from_slice_get, slice_get_past}
use Rattle.lx_tdfa.specs.Building.{greatest_of}
use Rattle.lx_tdfa.specs.Edges.{AreEdgesBefore, IsRangeEnd}
use Rattle.lx_tdfa.proofs.Loops.EdgeLoops.{edges-start}
use Rattle.lx_tdfa.proofs.Loops.EdgeSteps.{edge-apart, edge-next, empty-next, none-next}
use Rattle.lx_posix.specs.Closures.{onward_of}
use Rattle.lx_posix.proofs.Made.EdgesMade.{closure-places}
use Rattle.lx_posix.proofs.Made.StatesMade.{goes-alike, grows-itself, grows-more}
use Rattle.lx_posix.proofs.states.Making.edges.Goals as goal
use Rattle.lx_posix.proofs.states.Making.edges.Goals.{in-Some+in_ok-edge+in-Some-2+in_ok-push_edge, in-Some+in_ok-edge+in_default-2, in_default}

pub merged_cuts-requires : goal.merged_cuts-requires
merged_cuts-requires c =
    rw (c.as_slice-reaches.ensures.value)
    (closure-places c.args.self.now.source.t.now c.requires.source.built c.args.is_first c.args.closure.now c.requires.closure)

pub loop-index-init : goal.loop-index-init
loop-index-init c =
    let t = c.args.self.now.source.t.now in (
      grows-itself t c.args.kernels.now c.requires.listed,
      rw (c.new-edges.ensures.items)
          (edges-start t (greatest_of t) c.args.is_first (onward_of t c.args.closure.now None) c.in_ok-cuts.cuts.items
          (goes-alike t c.args.closure.now None c.in_ok-cuts.cuts.items (rw (c.as_slice-reaches.ensures.value) at c.in_ok-cuts.ensures.cuts)) c.in_ok-cuts.ensures.ascending
          c.args.kernels.now c.in_ok-cuts.ensures.first),
    )

pub edge-requires-clause-listed : goal.edge-requires-clause-listed
edge-requires-clause-listed c = c.loop-index.invariant.0.listed

pub edge-requires-clause-unit : goal.edge-requires-clause-unit
edge-requires-clause-unit c =
    let t = c.args.self.now.source.t.now in
    let range : IsRangeEnd c.in_ok-cuts.cuts.items c.loop-index.index (greatest_of t) c.in-Some.hi =
    rw (c.deref.ensures.value, c.greatest.ensures) at c.in-Some.ensures in
    let cut : c.index.result.now ≡ range.cut =
    c.index.ensures ∙ get_or_from_slice_get c.in_ok-cuts.cuts.items c.loop-index.index range.cut c.index.result.now range.first in
    omega (arith, cut, range.some, range.within)

pub push_edge-requires : goal.push_edge-requires
push_edge-requires c =
    let t = c.args.self.now.source.t.now in
    let range : IsRangeEnd c.in_ok-cuts.cuts.items c.loop-index.index (greatest_of t) c.in-Some.hi =
    rw (c.deref.ensures.value, c.greatest.ensures) at c.in-Some.ensures in
    let cut : c.index.result.now ≡ range.cut =
    c.index.ensures ∙ get_or_from_slice_get c.in_ok-cuts.cuts.items c.loop-index.index range.cut c.index.result.now range.first in
    let makes = rw (c.in-Some-2.is) at c.in_ok-edge.ensures.1 in
    edge-apart t (greatest_of t) c.args.is_first (onward_of t c.args.closure.now None) c.in_ok-cuts.cuts.items
    (goes-alike t c.args.closure.now None c.in_ok-cuts.cuts.items (rw (c.as_slice-reaches.ensures.value) at c.in_ok-cuts.ensures.cuts)) c.in_ok-cuts.ensures.ascending c.loop-index.kernels
    c.loop-index.index (suc c.loop-index.index) refl c.loop-index.edges.items c.loop-index.invariant.1 c.in-Some.hi c.index.result.now range cut
    c.edge.new.kernels c.in_ok-edge.ensures.0.later c.in_ok-edge.ensures.0.kernels c.in-Some-2.edge makes.0 makes.1 makes.2

pub loop-index-preserved : goal.loop-index-preserved
loop-index-preserved c =
    let t = c.args.self.now.source.t.now in
    let step : c.loop-index.index + 1 ≡ suc c.loop-index.index = omega arith in
    elim c.match-last_unit.branch [
      | in-Some+in_ok-edge+in-Some-2+in_ok-push_edge w ↦
          let range : IsRangeEnd c.in_ok-cuts.cuts.items c.loop-index.index (greatest_of t) w.in-Some.hi =
          rw (c.deref.ensures.value, c.greatest.ensures) at w.in-Some.ensures in
          let cut : w.index.result.now ≡ range.cut =
          w.index.ensures ∙ get_or_from_slice_get c.in_ok-cuts.cuts.items c.loop-index.index range.cut w.index.result.now range.first in
          let makes = rw (w.in-Some-2.is) at w.in_ok-edge.ensures.1 in
          rw (w.kernels-is) (rw (w.edges-is) (
            grows-more t c.args.kernels.now c.loop-index.kernels w.edge.new.kernels c.loop-index.invariant.0 w.in_ok-edge.ensures.0,
            edge-next t (greatest_of t) c.args.is_first (onward_of t c.args.closure.now None) c.in_ok-cuts.cuts.items
                (goes-alike t c.args.closure.now None c.in_ok-cuts.cuts.items (rw (c.as_slice-reaches.ensures.value) at c.in_ok-cuts.ensures.cuts)) c.in_ok-cuts.ensures.ascending
                c.loop-index.kernels c.loop-index.index (c.loop-index.index + 1) step c.loop-index.edges.items c.loop-index.invariant.1
                w.in-Some.hi w.index.result.now range cut w.edge.new.kernels w.in_ok-edge.ensures.0.later w.in_ok-edge.ensures.0.kernels
                w.in-Some-2.edge makes.0 makes.1 makes.2 w.push_edge.new.edges.items w.in_ok-push_edge.ensures,
          ))
      | in-Some+in_ok-edge+in_default-2 w ↦
          let range : IsRangeEnd c.in_ok-cuts.cuts.items c.loop-index.index (greatest_of t) w.in-Some.hi =
          rw (c.deref.ensures.value, c.greatest.ensures) at w.in-Some.ensures in
          let cut : w.index.result.now ≡ range.cut =
          w.index.ensures ∙ get_or_from_slice_get c.in_ok-cuts.cuts.items c.loop-index.index range.cut w.index.result.now range.first in
          rw (w.kernels-is) (rw (w.edges-is) (
            grows-more t c.args.kernels.now c.loop-index.kernels w.edge.new.kernels c.loop-index.invariant.0 w.in_ok-edge.ensures.0,
            none-next t (greatest_of t) c.args.is_first (onward_of t c.args.closure.now None) c.in_ok-cuts.cuts.items
                (goes-alike t c.args.closure.now None c.in_ok-cuts.cuts.items (rw (c.as_slice-reaches.ensures.value) at c.in_ok-cuts.ensures.cuts)) c.in_ok-cuts.ensures.ascending
                c.loop-index.kernels c.loop-index.index (c.loop-index.index + 1) step c.loop-index.edges.items c.loop-index.invariant.1
                w.in-Some.hi w.index.result.now range cut w.edge.new.kernels w.in_ok-edge.ensures.0.later w.in_ok-edge.ensures.0.kernels
                (rw (w.in_default-2.is) at w.in_ok-edge.ensures.1),
          ))
      | in_default w ↦
          rw (w.kernels-is) (rw (w.edges-is) (
            c.loop-index.invariant.0,
            empty-next t (greatest_of t) c.args.is_first (onward_of t c.args.closure.now None) c.in_ok-cuts.cuts.items
                (goes-alike t c.args.closure.now None c.in_ok-cuts.cuts.items (rw (c.as_slice-reaches.ensures.value) at c.in_ok-cuts.ensures.cuts)) c.in_ok-cuts.ensures.ascending
                c.loop-index.kernels c.loop-index.index (c.loop-index.index + 1) step c.loop-index.edges.items c.loop-index.invariant.1
                (rw (c.deref.ensures.value, c.greatest.ensures, w.in_default.is) at c.last_unit.ensures),
          ))
    ]

pub returns : goal.returns
returns c =
    let t = c.args.self.now.source.t.now in
    let past : length c.in_ok-cuts.cuts.items ≤ c.loop-index.index = omega (arith, c.loop-index-test.false, c.len-index-end.ensures) in (
      c.loop-index.invariant.0,
      rw (c.from_vec.ensures)
          (subst (λ o. AreEdgesBefore t (greatest_of t) c.loop-index.kernels c.args.is_first (onward_of t c.args.closure.now None) o c.loop-index.edges.items)
          (slice_get_past c.in_ok-cuts.cuts.items c.loop-index.index past) c.loop-index.invariant.1),
    )
