use Rattle.std.proofs.Common.{◌≡◌, ◌∙◌, ◌+◌, ◌++◌, ap, arith, drop, length, take}
use Rattle.lx_posix.specs.Sweeps.{level_at, with_place}
use Rattle.lx_posix.proofs.CodeStarts.SweptOrder.{all_found}
use Rattle.lx_posix.proofs.CodeStarts.SweptStarts.{all_begun, swept_none, swept_on}
use Rattle.lx_posix.proofs.CodeStarts.Waiting.{written_back}
use Rattle.lx_posix.proofs.starts.starts.Goals as goal

pub loop-index-init : goal.loop-index-init
loop-index-init c = record {
  swept =
      swept_none c.args.beginnings.now c.level_count.result c.new-found.result.items c.in_ok-levels.levels.items c.new-found.ensures.items
      c.in_ok-levels.ensures c.level_count.ensures;
  small = omega arith;
}

pub loop-index-preserved : goal.loop-index-preserved
loop-index-preserved c =
    let old = c.loop-index.levels.items in
    let waiting = c.wait.new.levels in
    let filled = take c.loop-index.levels.len (waiting ++ drop (length waiting) old) in
    let before = c.deref_mut-in-loop-index.result.now in
    let taken = c.take_above.new.levels in
    let kept : length waiting ≡ length old = c.wait.auto.levels ∙ ap length c.deref_mut.ensures.value in
    let full : filled ≡ waiting = written_back old waiting c.loop-index.levels.len c.loop-index.levels.ok.0 kept in
    let is_filled : before ≡ with_place old c.loop-index.index (c.level_at.result + 1) =
    c.deref_mut-in-loop-index.ensures.value ∙ full ∙ c.in_ok-wait.ensures
    ∙ ap (λ l. with_place l c.loop-index.index (c.level_at.result + 1)) c.deref_mut.ensures.value in
    let still : length taken ≡ length filled = c.take_above.auto.levels ∙ ap length c.deref_mut-in-loop-index.ensures.value in
    let long : length filled ≡ length old = ap length full ∙ kept in
    let left = written_back filled taken c.loop-index.levels.len (omega arith) still in
    let counted : c.level_at.result + 1 ≡ level_at c.args.beginnings.now c.loop-index.index + 1 = ap (λ n. n + 1) c.level_at.ensures in
    record {
      swept =
          swept_on c.args.beginnings.now c.loop-index.index c.loop-index.used c.loop-index.found.items old c.loop-index.invariant.swept
          (c.level_at.result + 1) c.number_at-lowest.result c.max-end.result c.min-used.result before _ c.take_above.new.found.items counted
          c.number_at-lowest.ensures c.max-end.ensures c.min-used.ensures is_filled c.in_ok-take_above.ensures.found
          (left ∙ c.in_ok-take_above.ensures.levels);
      small = omega arith;
    }

pub returns-clause-each : goal.returns-clause-each
returns-clause-each c =
    all_begun c.args.beginnings.now c.loop-index.index c.loop-index.used c.loop-index.found.items c.loop-index.levels.items
    c.loop-index.invariant.swept (omega arith)

pub returns-clause-all : goal.returns-clause-all
returns-clause-all c =
    all_found c.args.beginnings.now c.loop-index.index c.loop-index.used c.loop-index.found.items c.loop-index.levels.items
    c.loop-index.invariant.swept (omega arith)
