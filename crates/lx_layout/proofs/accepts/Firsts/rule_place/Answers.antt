use Rattle.std.proofs.Common.{◌≡◌, ◌∙◌, length, sym}
use Rattle.std.proofs.lemmas.List.{length-map}
use Rattle.lx_layout.specs.Plans.{seen_accepts}
use Rattle.lx_layout.specs.declared.accepts.First.{First}
use Rattle.lx_layout.proofs.BlockLayouts.AcceptLoops.{rule_place-none, rule_place-some}
use Rattle.lx_layout.proofs.accepts.Firsts.rule_place.Goals as goal

pub returns-in-Some : goal.returns-in-Some
returns-in-Some c = rule_place-some (seen_accepts c.args.self.now.list.items) c.args.rule c.in-Some.place c.in-Some.ensures

pub returns-in-None : goal.returns-in-None
returns-in-None c =
    let found = seen_accepts c.args.self.now.list.items in
    let count : length found ≡ c.len.result =
    length-map c.args.self.now.list.items (λ (first : First). first.accept.now) ∙ sym c.args.self.now.list.ok.0 ∙ sym c.len.ensures in
    sym count ∙ rule_place-none found c.args.rule c.in-None.ensures
