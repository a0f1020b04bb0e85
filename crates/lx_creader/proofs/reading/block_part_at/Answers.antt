use Rattle.std.proofs.Common.{◌≡◌, ◌≤◌, ◌∙◌, ap, arith, length, map, subst}
use Rattle.std.specs.Prelude.{if◌then◌else◌}
use Rattle.std.proofs.lemmas.List.{length-map}
use Rattle.lx_ccode.specs.Reading.{behind_brace, blocks_at, conds_from, line_at}
use Rattle.lx_creader.specs.BlockParts.{AreFilled, blocks_behind, manner_of, sections_here}
use Rattle.lx_creader.specs.Fitted.{fitted_block, fitted_line}
use Rattle.lx_creader.proofs.CondLabels.{conds_fitted}
use Rattle.lx_creader.proofs.reading.block_part_at.Goals as goal

pub returns-in-None : goal.returns-in-None
returns-in-None c =
    let manner = manner_of c.args.scope.now in
    let fuel = c.args.fuel in
    subst (λ b. AreFilled (blocks_at fuel fuel manner b).0 → ⊥) c.in_ok-declares.ensures.rest_is
    (rw c.in-None.is at c.in_ok-blocks_at.ensures)

pub returns-in_ok-conds-in-Some : goal.returns-in_ok-conds-in-Some
returns-in_ok-conds-in-Some c =
    let manner = manner_of c.args.scope.now in
    let fuel = c.args.fuel in
    let sections = c.in_ok-declares.ensures in
    let found = rw c.in-Some.is at c.in_ok-blocks_at.ensures in
    let read = blocks_behind fuel c.args.kept manner c.args.bytes.now in
    let blocks = ap (λ b. blocks_at fuel fuel manner b) sections.rest_is in
    let blocks_are = found.0 ∙ ap (λ r. map fitted_block r.0) blocks in
    let slice : c.as_slice.result.now ≡ map fitted_block read.0 = c.as_slice.ensures ∙ blocks_are in
    let few : length c.as_slice.result.now ≤ 18446744073709551615 = omega arith in
    let count = ap length slice ∙ length-map _ _ in
    let last = c.behind_brace.ensures ∙ ap behind_brace (found.2 ∙ ap (λ r. r.2) blocks) in
    record {
      declares_is = sections.declares_is;
      states_are = sections.states_are;
      conds_are = c.in_ok-conds-in-Some.ensures ∙ ap (λ b. if manner.three then conds_from 0 b else c.in_ok-declares.field-0.conds) slice
          ∙ conds_fitted manner.three read.0 c.in_ok-declares.field-0.conds (sections_here fuel c.args.kept manner c.args.bytes.now).2 (omega (arith, few, count)) sections.conds_are;
      blocks_are = blocks_are;
      ctx_is = found.1 ∙ ap (λ r. r.1) blocks;
      line_is = c.in_ok-line-in-Some.ensures.0 ∙ ap (λ b. fitted_line (line_at b).0) last;
    }
