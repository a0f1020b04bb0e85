use Rattle.std.proofs.Common.{◌≤◌, ◌∷◌, [], refl, sym, subst}
use Rattle.lx_base.specs.Spelling.{greatest_point}
use Rattle.lx_encode.specs.Graph.{AreStarts}
use Rattle.lx_encode.specs.Starts.{StartsWith}
use Rattle.lx_encode.specs.Table.{row_of}
use Rattle.lx_class.specs.declared.ranges.Range.{Range}
use Rattle.lx_encode.proofs.Starts.{AreStarts-cons, one_start}
use Rattle.lx_encode.proofs.StartRows.{starts_with_one}
use Rattle.lx_encode.proofs.graph.one_unit_starts.Goals as goal

pub returns-clause-starts : goal.returns-clause-starts
returns-clause-starts c = λ set canonical ended.
    let rows = c.one_unit_start.new.table in
    let start = c.in_ok-start.start in
    let enc = c.args.enc in
    let starts : StartsWith rows enc set (record { lo = 0; hi = c.greatest_point.result }) start =
    starts_with_one rows c.in_ok-start.ensures.table set c.args.points.now ended enc c.greatest_point.result start (row_of rows start)
    c.in_ok-start.ensures.within refl c.in_ok-start.ensures.leads (λ p le. c.requires.spelled p (subst (λ g. p ≤ g) c.greatest_point.ensures le)) in
    let part : Range = record { lo = 0; hi = greatest_point enc } in
    let starts' = subst (λ g. StartsWith rows enc set (record { lo = 0; hi = g }) start) c.greatest_point.ensures starts in
    subst (λ l. AreStarts rows enc set l c.push_start.new.starts.items) (sym c.requires.part)
    (subst (λ l. AreStarts rows enc set (part ∷ []) l) (sym (one_start start c.new-starts.result.items c.push_start.new.starts.items c.new-starts.ensures.items c.in_ok-push_start.ensures))
    (AreStarts-cons rows c.in_ok-start.ensures.table enc set part [] start [] c.in_ok-start.ensures.within starts' refl))
