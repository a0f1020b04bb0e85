use Rattle.std.proofs.Common.{◌≡◌, ◌∙◌, ap, sym, ◌<◌, ◌≤◌, ◌∷◌, ◌++◌, Some, refl, drop, map, length, arith}
use Rattle.std.proofs.lemmas.List.{append-nil}
use Rattle.std.specs.Prelude.{option_copied}
use Rattle.lx_auto.specs.declared.automaton.Auto.{Auto}
use Rattle.lx_layout.specs.PieceViews.{seen_sources}
use Rattle.lx_layout.specs.RuleEnds.{endings_of}
use Rattle.lx_renumber.specs.Renumbered.{based}
use Rattle.lx_gen.specs.Automata.{seen_autos, seen_checks}
use Rattle.lx_gen.specs.Seen.{source_with}
use Rattle.lx_gen.specs.declared.automata.ScannerAuto.TheVariants.{Own}
use Rattle.lx_gen.proofs.LikeInputs.{AreLike-have, HaveLike-more, auto-at, autos-count, begins-with, checks-at}
use Rattle.lx_gen.proofs.SourceLists.{drop_all, sources_with-more, sources_with-none}
use Rattle.lx_gen.proofs.generating.inputs.Goals as goal

pub loop-place-init : goal.loop-place-init
loop-place-init c = rw c.in_ok-inputs.ensures.items (record { sources = refl; like = tt; count = refl })

pub loop-place-preserved : goal.loop-place-preserved
loop-place-preserved c =
    let k = c.loop-place.place in
    let scanners = c.args.scanners.now in
    let autos = c.args.autos.now in
    let first = c.get-auto.result.now in
    let list = c.in-Some-Own.checks in
    let rest = drop 1 autos in
    let begins : autos ≡ Own first list ∷ rest =
    begins-with autos (Own c.in-Some-Own.first list) (sym c.first.ensures.value ∙ ap option_copied c.in-Some-Own.is ∙ ap Some c.in-Some-Own.field-0-is)
    ∙ ap (λ (auto : Auto). Own auto list ∷ rest) (sym c.get-auto.ensures) in
    let counts = autos-count first list rest autos begins in
    let item = c.index-autos-place.result in
    let given = c.given_auto-given.result in
    let own = based given.by given.auto.now in
    let lt : k < length scanners = c.loop-place-test.true in
    let lt_ends : k < length c.args.ends.now = omega (arith, lt, c.requires.ends) in
    let lt_autos : k < length (seen_autos autos) = omega (arith, lt, c.requires.autos) in
    let lt_items : k < length autos = omega (arith, lt_autos, counts.0) in
    let lt_checks : k < length (seen_checks autos) = omega (arith, lt_items, counts.1) in
    let more = c.in_ok-push.ensures.items in
    let same = c.input.ensures in
    record {
      sources =
          sources_with-more (λ one. endings_of one.items) c.loop-place.inputs.items c.push.new.self.items c.input.result
          c.args.ends.now scanners (seen_autos autos) (seen_checks autos) k
          c.index-ends-place.result c.index-scanners-place.result own given.checks.now
          lt_ends lt lt_autos lt_checks c.index-ends-place.is c.index-scanners-place.is
          (auto-at first list rest autos begins k item lt_items c.index-autos-place.is own c.given_auto-given.ensures.auto)
          (checks-at first list rest autos begins k item lt_items c.index-autos-place.is given.checks.now c.given_auto-given.ensures.checks)
          (same.source ∙ ap (λ ends. source_with (endings_of ends) c.index-scanners-place.result own given.checks.now) c.as_slice.ensures.value)
          more ∙ c.loop-place.invariant.sources;
      like =
          HaveLike-more scanners first list c.input.result c.index-scanners-place.result item (same.by ∙ c.given_auto-given.ensures.by)
          (rw (same.by, same.auto) c.given_auto-given.ensures.auto) (same.checks ∙ c.given_auto-given.ensures.checks) same.end_rule
          rest autos c.loop-place.inputs.items c.push.new.self.items k begins c.requires.alike lt lt_items c.index-scanners-place.is c.index-autos-place.is
          c.loop-place.invariant.count (rw (same.by, same.auto) c.given_auto-given.ensures.first) c.loop-place.invariant.like more;
      count = let count = c.loop-place.invariant.count in rw more (grind (arith, count));
    }

pub returns-clause-sources : goal.returns-clause-sources
returns-clause-sources c =
    let k = c.loop-place.place in
    let past : length c.args.ends.now ≤ k = omega (arith, c.requires.ends, c.loop-place-test.false) in
    sym (append-nil (seen_sources c.loop-place.inputs.items))
    ∙ ap (λ l. seen_sources c.loop-place.inputs.items ++ l)
    (sym (sources_with-none (drop k c.args.scanners.now) (drop k (seen_autos c.args.autos.now)) (drop k (seen_checks c.args.autos.now))
    (map (λ one. endings_of one.items) (drop k c.args.ends.now)) (ap (λ l. map (λ one. endings_of one.items) l) (drop_all c.args.ends.now k past))))
    ∙ c.loop-place.invariant.sources

pub returns-clause-like : goal.returns-clause-like
returns-clause-like c =
    AreLike-have c.args.scanners.now c.get-auto.result.now c.in-Some-Own.checks c.loop-place.inputs.items c.loop-place.invariant.like
