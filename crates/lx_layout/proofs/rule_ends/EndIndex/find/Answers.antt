use Rattle.std.proofs.Common.{◌∙◌, sym}
use Rattle.lx_layout.proofs.Rules.EndPlaces.{end_found, end_place-none}
use Rattle.lx_layout.proofs.rule_ends.EndIndex.find.Goals as goal

pub returns-in-Some : goal.returns-in-Some
returns-in-Some c =
    end_found c.args.self.now.ends.now c.args.number c.in-Some.place c.get.result (c.in-Some.ensures ∙ c.requires c.args.number)
    c.get.ensures.lookup.0 c.get.ensures.lookup.1

pub returns-in-None : goal.returns-in-None
returns-in-None c =
    let none = sym (c.in-None.ensures ∙ c.requires c.args.number) in
    (end_place-none c.args.self.now.ends.now c.args.number none, none)
