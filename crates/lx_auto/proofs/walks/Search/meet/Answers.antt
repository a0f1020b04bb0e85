use Rattle.std.proofs.Common.{◌≡◌, true, get_or, set, sym, subst}
use Rattle.lx_auto.specs.MetStates.{IsSearchOf}
use Rattle.lx_auto.proofs.MetStates.{search-more}
use Rattle.lx_auto.proofs.walks.Search.meet.Goals as goal

pub returns-in_ok-push-clause-search : goal.returns-in_ok-push-clause-search
returns-in_ok-push-clause-search c =
    let auto = c.args.auto.now in
    let search = c.args.self.now in
    subst (IsSearchOf auto (set search.marks.items c.args.state true)) (sym c.in_ok-push.ensures.items)
    (search-more auto search.marks.items search.order.items c.args.state c.requires.search c.requires.within
    (sym (subst (λ mark. mark ≡ get_or search.marks.items c.args.state mark) c.if-not-index.true c.index.ensures)) c.requires.met)
