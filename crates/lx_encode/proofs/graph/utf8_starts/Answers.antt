use Rattle.std.proofs.Common.{◌∷◌, [], refl, sym, subst}
use Rattle.lx_base.specs.declared.settings.Enc.TheVariants.{Utf8}
use Rattle.lx_class.specs.declared.ranges.Range.{Range}
use Rattle.lx_encode.specs.Graph.{AreStarts}
use Rattle.lx_encode.proofs.Starts.{AreStarts-cons, one_start}
use Rattle.lx_encode.proofs.graph.utf8_starts.Goals as goal

pub returns-clause-starts : goal.returns-clause-starts
returns-clause-starts c = λ set canonical ended.
    let rows = c.utf8_start.new.table in
    let start = c.in_ok-start.start in
    let part : Range = record { lo = 0; hi = 0x10FFFF } in
    subst (λ l. AreStarts rows Utf8 set (part ∷ []) l) (sym (one_start start c.new-starts.result.items c.push_start.new.starts.items c.new-starts.ensures.items c.in_ok-push_start.ensures))
    (AreStarts-cons rows c.in_ok-start.ensures.table Utf8 set part [] start [] c.in_ok-start.ensures.within (c.in_ok-start.ensures.starts set canonical ended) refl)
