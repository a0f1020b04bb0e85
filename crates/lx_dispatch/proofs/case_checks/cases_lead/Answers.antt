use Rattle.std.proofs.Common.{◌≡◌, ◌∙◌, None, ap, get_or, replicate, sym}
use Rattle.std.proofs.lemmas.List.{get_or-replicate}
use Rattle.lx_dispatch.specs.UnitSwitches.{way_in}
use Rattle.lx_dispatch.proofs.case_checks.cases_lead.Goals as goal

pub returns : goal.returns
returns c = λ yes unit below left.
    let cases = c.args.cases.now in
    let other = c.args.other in
    let was : get_or (replicate 256 other) unit None ≡ other = get_or-replicate 256 unit other None below in
    ap (λ old. way_in cases old unit) (sym was) ∙ sym (c.set_all_ways.ensures.set unit below)
    ∙ c.ways_lead.ensures yes unit below left
