use Rattle.std.proofs.Common.{◌≡◌, ◌∙◌, ap, sym, ◌+◌, ◌∷◌, max, drop, arith}
use Rattle.lx_compile.specs.Facts.{greatest_in, units_of}
use Rattle.lx_compile.proofs.GreatestNumbers.{greatest_in-max, units_of-more, units_of-other, units_of-positive}
use Rattle.lx_compile.proofs.ItemRuns.{drop-item}
use Rattle.lx_compile.proofs.facts.units_of.Goals.{in-Scanners, in_default}
use Rattle.lx_compile.proofs.facts.units_of.Goals as goal

pub loop-one-init : goal.loop-one-init
loop-one-init c = let positive = units_of-positive c.args.made.now in record { most = omega (arith, positive); positive = omega arith }

pub loop-one-preserved : goal.loop-one-preserved
loop-one-preserved c =
    let made = c.args.made.now in
    let place = c.loop-one.one-index in
    let one = c.one-item.result in
    let rest = drop (place + 1) made in
    let most = c.loop-one.most in
    let before = c.loop-one.invariant in
    let from = ap (λ l. max most (units_of l)) (sym (drop-item made place one c.loop-one-test.true c.one-item.is)) ∙ before.most in
    elim c.match-one.branch [
      | in-Scanners w ↦
          let piece = w.in-Scanners.piece in
          let checks = w.in-Scanners.checks in
          let warnings = w.in-Scanners.warnings in
          let is : c.match-one.most ≡ greatest_in most checks =
          w.most-is ∙ w.greatest_in-most.ensures in record {
            most =
                ap (λ n. max n (units_of rest)) is ∙ units_of-more most piece checks warnings w.in-Scanners.cover w.in-Scanners.groups rest
                ∙ ap (λ first. max most (units_of (first ∷ rest))) (sym w.in-Scanners.is) ∙ from;
            positive = omega (arith, before.positive, is, greatest_in-max most checks);
          }
      | in_default w ↦ record {
        most = ap (λ n. max n (units_of rest)) w.most-is ∙ ap (max most) (sym (units_of-other one rest w.in_default.not-Scanners)) ∙ from;
        positive = omega (arith, before.positive, w.most-is);
      }
    ]
