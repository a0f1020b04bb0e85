use Rattle.std.proofs.Common.{◌++◌, [], ◌∷◌, length, sym, ap, ◌∙◌, subst}
use Rattle.lx_search.specs.Found.{trace_of}
use Rattle.lx_tdfa.specs.Searches.{word_at}
use Rattle.lx_warn.proofs.StoppedWords.{first-stopping, no-stopping}
use Rattle.lx_warn.specs.Stops.{HaveNoGap, IsFirstGap, IsFirstStopping}
use Rattle.lx_warn.proofs.dead_words.first_stopping.Goals as goal

pub returns-in-None : goal.returns-in-None
returns-in-None c =
    let auto = c.args.auto.now in
    no-stopping c.args.enc auto c.in_ok-found.found.items c.in_ok-found.ensures.searched
    (subst (λ l. HaveNoGap c.args.enc auto l (length l)) c.deref.ensures.value c.in-None.ensures)

pub returns : goal.returns
returns c =
    let auto = c.args.auto.now in
    let found = c.in_ok-found.found.items in
    let place = c.in-Some.place in
    let unit = c.in-Some.unit in
    subst (IsFirstStopping c.args.enc auto)
    (sym (c.in_ok-push-in-Some.ensures.pushed
    ∙ ap (λ w. w ++ unit ∷ []) (c.in_ok-word-in-Some.ensures ∙ ap (λ l. word_at (trace_of l) place) c.deref-in-Some.ensures.value)))
    (first-stopping c.args.enc auto found place unit (sym c.accepts.ensures ∙ c.if-accepts.false) c.in_ok-found.ensures.searched
    (subst (λ l. IsFirstGap c.args.enc auto l place unit) c.deref.ensures.value c.in-Some.ensures))
