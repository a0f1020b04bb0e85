use Rattle.std.proofs.Common.{sym, subst}
use Rattle.lx_auto.specs.Automaton.{AreApart}
use Rattle.lx_auto.proofs.States.{state_formed}
use Rattle.lx_search.specs.Found.{found_at}
use Rattle.lx_warn.proofs.dead_words.first_gap.Goals as goal

pub least_gap-requires : goal.least_gap-requires
least_gap-requires c =
    subst (λ edges. AreApart edges) (sym c.edges_of.ensures.edges)
    (state_formed c.args.auto.now (found_at c.args.found.now c.loop-place.place).state c.requires.formed).apart
