use Rattle.std.proofs.Common.{◌≤◌, ◌^◌, sym, subst}
use Rattle.lx_compile.specs.Facts.{history_count}
use Rattle.lx_compile.proofs.HistoryBounds.{history_count-bound}
use Rattle.lx_compile.proofs.facts.facts_among.Goals as goal

pub listed_numbers-requires : goal.listed_numbers-requires
listed_numbers-requires c =
    subst (λ pieces. history_count pieces ≤ 2 ^ 32) (sym c.requires.pieces) (history_count-bound c.args.made.now c.requires.printable)
