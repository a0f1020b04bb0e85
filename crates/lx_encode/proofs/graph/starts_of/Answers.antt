use Rattle.std.proofs.Common.{List, IfOk, sym, subst}
use Rattle.lx_class.specs.Ranges.{IsCanonical}
use Rattle.lx_class.specs.declared.ranges.Range.{Range}
use Rattle.lx_encode.specs.Graph.{AreStarts, parts}
use Rattle.lx_encode.specs.Starts.{AreEnded}
use Rattle.lx_encode.proofs.graph.starts_of.Goals as goal

pub returns-in-Utf8-clause-starts : goal.returns-in-Utf8-clause-starts
returns-in-Utf8-clause-starts c =
    subst (λ e. IfOk c.utf8_starts.result (λ starts. (set : List Range) → IsCanonical set → AreEnded set c.args.points.now →
    AreStarts c.utf8_starts.new.table e set (parts e) starts.items)) (sym c.in-Utf8.is) c.utf8_starts.ensures.starts

pub returns-in-Utf16-clause-starts : goal.returns-in-Utf16-clause-starts
returns-in-Utf16-clause-starts c =
    subst (λ e. IfOk c.utf16_starts.result (λ starts. (set : List Range) → IsCanonical set → AreEnded set c.args.points.now →
    AreStarts c.utf16_starts.new.table e set (parts e) starts.items)) (sym c.in-Utf16.is) c.utf16_starts.ensures.starts
