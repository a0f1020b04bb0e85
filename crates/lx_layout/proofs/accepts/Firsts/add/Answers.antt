use Rattle.std.proofs.Common.{◌∙◌, ap, sym}
use Rattle.std.specs.Option.{is_some}
use Rattle.lx_layout.specs.Layout.{with_accept}
use Rattle.lx_layout.specs.Plans.{seen_accepts}
use Rattle.lx_layout.proofs.BlockLayouts.AcceptLoops.{with_accept-added, with_accept-saved}
use Rattle.lx_layout.proofs.accepts.Firsts.add.Goals as goal

pub returns-in_ok-push-clause-added : goal.returns-in_ok-push-clause-added
returns-in_ok-push-clause-added c =
    let found = seen_accepts c.args.self.now.list.items in
    c.in_ok-push.ensures.pushed
    ∙ with_accept-added found c.in-Some.accept (ap (λ o. is_some o) (sym c.find.ensures) ∙ c.if-is_none.ensures)
    ∙ ap (λ o. with_accept found o) (sym c.in-Some.is)

pub returns-else-is_none-clause-added : goal.returns-else-is_none-clause-added
returns-else-is_none-clause-added c =
    let found = seen_accepts c.args.self.now.list.items in
    with_accept-saved found c.in-Some.accept (ap (λ o. is_some o) (sym c.find.ensures) ∙ c.if-is_none.ensures)
    ∙ ap (λ o. with_accept found o) (sym c.in-Some.is)
