use Rattle.std.proofs.Common.{ℕ, List, [], ap, map}
use Rattle.std.specs.Borrow.{Bor}
use Rattle.lx_base.specs.Text.{joined}
use Rattle.lx_run.proofs.PutTexts.{HasGiven-more, IsPut-refused, drop-next}
use Rattle.lx_run.proofs.puts.put_parts.Goals as goal

pub returns-in_err-put : goal.returns-in_err-put
returns-in_err-put g c =
    let next = ap (λ (parts : List (Bor (List ℕ))). joined (map (λ part. part.now) parts) []) (drop-next c.args.parts.now c.loop-part.part-index _ c.loop-part-test.true) in
    IsPut-refused _ _ _ c.from_residual.result next c.loop-part.invariant c.in_err-put.ensures c.from_residual.ensures.1

pub loop-part-preserved : goal.loop-part-preserved
loop-part-preserved g c =
    let next = ap (λ (parts : List (Bor (List ℕ))). joined (map (λ part. part.now) parts) []) (drop-next c.args.parts.now c.loop-part.part-index _ c.loop-part-test.true) in
    HasGiven-more _ _ _ next c.loop-part.invariant c.in_ok-put.ensures
