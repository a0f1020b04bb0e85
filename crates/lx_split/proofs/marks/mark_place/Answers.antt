use Rattle.std.proofs.Common.{sym}
use Rattle.lx_split.proofs.FirstMark.{mark_place-found}
use Rattle.lx_split.proofs.marks.mark_place.Goals as goal

pub returns-else-is_empty : goal.returns-else-is_empty
returns-else-is_empty c =
    rw c.place_after.ensures.place
    (sym (mark_place-found c.args.start c.args.bytes.now c.from_mark-rest.result.now (sym c.if-completes_mark.ensures) c.from_mark-rest.ensures.rest
    (sym c.if-is_empty.ensures)))
