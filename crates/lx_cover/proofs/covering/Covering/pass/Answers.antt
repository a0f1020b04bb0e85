use Rattle.std.proofs.Common.{◌≡◌, ◌+◌, ◌≤◌, suc, length, sym, ap, ◌∙◌, subst, arith}
use Rattle.lx_base.specs.Spelling.{greatest_unit}
use Rattle.lx_tnfa.specs.Closure.{IsClosureOf}
use Rattle.lx_cover.proofs.CoverPasses.{IsPassing, at-kernel, first-is, first-within, front-is, kernel-places, none-range, passing-all, passing-empty, passing-start, passing-unit, some-range, unit-come, unit-is, unit-led, unit-low}
use Rattle.lx_cover.proofs.covering.Covering.pass.Goals as goal
use Rattle.lx_cover.proofs.covering.Covering.pass.Goals.{else-is_some, then-is_some+in_ok-last}

pub closure_with-requires-clause-places : goal.closure_with-requires-clause-places
closure_with-requires-clause-places c =
    let covering = c.args.self.now in
    kernel-places c.args.t.now c.requires.built covering _ c.requires.come c.args.number c.get-kernel.result.now (sym c.get-kernel.ensures)

pub bounds-as_slice-index : goal.bounds-as_slice-index
bounds-as_slice-index c =
    let covering = c.args.self.now in
    let within = first-within c.args.t.now c.requires.built covering c.args.number c.requires.within c.requires.come in
    let same = first-is c.args.t.now c.requires.built covering c.args.number c.requires.within c.requires.come c.index.result.now c.index.ensures in
    let count = ap length c.as_slice.ensures in
    omega (arith, within, same, count)

pub offset_bounds-as_slice-index : goal.offset_bounds-as_slice-index
offset_bounds-as_slice-index c =
    let covering = c.args.self.now in
    let within = first-within c.args.t.now c.requires.built covering c.args.number c.requires.within c.requires.come in
    let same = first-is c.args.t.now c.requires.built covering c.args.number c.requires.within c.requires.come c.index.result.now c.index.ensures in
    let count = ap length c.as_slice.ensures in
    omega (arith, within, same, count, c.as_slice.type_inv.1)

pub loop-index-init : goal.loop-index-init
loop-index-init c =
    let start = c.args.self.now in
    let front =
    c.as_slice-front.ensures ∙ c.in_ok-copy.ensures ∙ c.as_slice-least.ensures
    ∙ front-is c.args.t.now c.requires.built start c.args.number c.requires.within c.requires.come c.index.result.now c.index.ensures
    c.as_slice.result.now c.index-as_slice-index.result c.as_slice.ensures c.index-as_slice-index.is in
    passing-start c.args.t.now start c.as_slice-front.result.now c.in_ok-cuts.cuts.items c.args.number front c.in_ok-cuts.ensures.first c.requires.counted
    c.requires.come

pub take-requires-clause-kernel : goal.take-requires-clause-kernel
take-requires-clause-kernel c =
    let start = c.args.self.now in
    let front =
    c.as_slice-front.ensures ∙ c.in_ok-copy.ensures ∙ c.as_slice-least.ensures
    ∙ front-is c.args.t.now c.requires.built start c.args.number c.requires.within c.requires.come c.index.result.now c.index.ensures
    c.as_slice.result.now c.index-as_slice-index.result c.as_slice.ensures c.index-as_slice-index.is in
    at-kernel c.args.t.now start c.loop-index.self c.as_slice-reaches.result.now c.as_slice-front.result.now (
      c.args.number,
      c.get-kernel.result.now,
      c.requires.within,
      sym c.get-kernel.ensures,
      subst (IsClosureOf c.args.t.now c.get-kernel.result.now) (sym c.as_slice-reaches.ensures) c.in_ok-targets.ensures.closure,
      front,
    )
    c.loop-index.invariant.keeps

pub take-requires-clause-come : goal.take-requires-clause-come
take-requires-clause-come c =
    let t = c.args.t.now in
    let cuts = c.in_ok-cuts.cuts.items in
    let range =
    some-range cuts c.loop-index.index (greatest_unit t.enc) c.last_unit.result c.deref.result.now c.greatest.result c.deref.ensures.value
    c.greatest.ensures (sym c.is_some.ensures ∙ c.if-is_some.true) c.last_unit.ensures in
    unit-come t c.args.self.now c.as_slice-front.result.now cuts c.in_ok-cuts.ensures.ascending c.loop-index.self c.loop-index.index c.loop-index.last
    c.loop-index.invariant range.0 range.1 c.index-then-is_some.result.now c.index-then-is_some.ensures

pub take-requires-clause-led : goal.take-requires-clause-led
take-requires-clause-led c =
    let t = c.args.t.now in
    let cuts = c.in_ok-cuts.cuts.items in
    let range =
    some-range cuts c.loop-index.index (greatest_unit t.enc) c.last_unit.result c.deref.result.now c.greatest.result c.deref.ensures.value
    c.greatest.ensures (sym c.is_some.ensures ∙ c.if-is_some.true) c.last_unit.ensures in
    unit-led t c.args.self.now c.as_slice-front.result.now cuts c.in_ok-cuts.ensures.ascending c.loop-index.self c.loop-index.index c.loop-index.last
    c.loop-index.invariant range.0 range.1 c.index-then-is_some.result.now c.index-then-is_some.ensures

pub take-requires-clause-unit : goal.take-requires-clause-unit
take-requires-clause-unit c =
    let t = c.args.t.now in
    let cuts = c.in_ok-cuts.cuts.items in
    let range =
    some-range cuts c.loop-index.index (greatest_unit t.enc) c.last_unit.result c.deref.result.now c.greatest.result c.deref.ensures.value
    c.greatest.ensures (sym c.is_some.ensures ∙ c.if-is_some.true) c.last_unit.ensures in
    unit-low t c.args.self.now c.as_slice-front.result.now cuts c.in_ok-cuts.ensures.ascending c.loop-index.self c.loop-index.index c.loop-index.last
    c.loop-index.invariant range.0 range.1 c.index-then-is_some.result.now c.index-then-is_some.ensures

pub loop-index-preserved : goal.loop-index-preserved
loop-index-preserved c =
    let t = c.args.t.now in
    let start = c.args.self.now in
    let front = c.as_slice-front.result.now in
    let cuts = c.in_ok-cuts.cuts.items in
    let index = c.loop-index.index in
    let step : suc index ≡ index + 1 = omega arith in
    elim c.if-is_some.branch [
      | then-is_some+in_ok-last w ↦
          let range =
          some-range cuts index (greatest_unit t.enc) c.last_unit.result c.deref.result.now c.greatest.result c.deref.ensures.value c.greatest.ensures
          (sym c.is_some.ensures ∙ w.if-is_some.true) c.last_unit.ensures in
          let unit = w.index-then-is_some.result.now in
          let told = w.in_ok-last.ensures in
          rw (w.self-is) (rw (w.last-is)
          (subst (λ n. IsPassing t start front cuts w.take.new.self n w.in_ok-last.last) step
          (passing-unit t start front cuts c.in_ok-cuts.ensures.ascending c.loop-index.self index c.loop-index.last c.loop-index.invariant range.0
          range.1 unit
          (unit-is t start front cuts c.in_ok-cuts.ensures.ascending c.loop-index.self index c.loop-index.last c.loop-index.invariant range.0 range.1 unit
          w.index-then-is_some.ensures)
          c.as_slice-reaches.result.now c.in_ok-cuts.ensures.cuts w.take.new.self w.in_ok-last.last told.0 told.1 told.2 told.3)))
      | else-is_some w ↦
          rw (w.self-is) (rw (w.last-is)
          (subst (λ n. IsPassing t start front cuts c.loop-index.self n c.loop-index.last) step
          (passing-empty t start front cuts c.in_ok-cuts.ensures.ascending c.loop-index.self index c.loop-index.last c.loop-index.invariant
          (none-range cuts index (greatest_unit t.enc) c.last_unit.result c.deref.result.now c.greatest.result c.deref.ensures.value c.greatest.ensures
          (sym c.is_some.ensures ∙ w.if-is_some.false) c.last_unit.ensures))))
    ]

pub returns : goal.returns
returns c =
    let start = c.args.self.now in
    let front =
    c.as_slice-front.ensures ∙ c.in_ok-copy.ensures ∙ c.as_slice-least.ensures
    ∙ front-is c.args.t.now c.requires.built start c.args.number c.requires.within c.requires.come c.index.result.now c.index.ensures
    c.as_slice.result.now c.index-as_slice-index.result c.as_slice.ensures c.index-as_slice-index.is in
    let past : length c.in_ok-cuts.cuts.items ≤ c.loop-index.index = omega (arith, c.loop-index-test.false, c.len-index-end.ensures) in
    passing-all c.args.t.now start c.as_slice-front.result.now c.in_ok-cuts.cuts.items c.in_ok-cuts.ensures.ascending c.loop-index.self c.loop-index.index
    c.loop-index.last c.loop-index.invariant past c.args.number c.requires.within front
