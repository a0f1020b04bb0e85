use Rattle.std.proofs.Common.{◌≡◌, arith, length}
use Rattle.std.proofs.lemmas.List.{length-map}
use Rattle.lx_layout.specs.Plans.{seen_accepts}
use Rattle.lx_layout.specs.declared.accepts.First.{First}
use Rattle.lx_layout.proofs.BlockLayouts.AcceptLoops.{rule_place-le}
use Rattle.lx_layout.proofs.part_ends.PartEnds.saved_number.Goals as goal

pub overflow_cast-result : goal.overflow_cast-result
overflow_cast-result c =
    let saved_accepts = c.args.self.now.saved.list.items in
    let le = rule_place-le (seen_accepts saved_accepts) c.in-Some.accept.rule in
    let count : length (seen_accepts saved_accepts) ≡ length saved_accepts = length-map saved_accepts (λ (first : First). first.accept.now) in
    omega (arith, le, count, c.rule_place.ensures, c.requires.few_saved)

pub overflow_add-result : goal.overflow_add-result
overflow_add-result c =
    let saved_accepts = c.args.self.now.saved.list.items in
    let le = rule_place-le (seen_accepts saved_accepts) c.in-Some.accept.rule in
    let count : length (seen_accepts saved_accepts) ≡ length saved_accepts = length-map saved_accepts (λ (first : First). first.accept.now) in
    omega (arith, le, count, c.rule_place.ensures, c.requires.few_saved)
