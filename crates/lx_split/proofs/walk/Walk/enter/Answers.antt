use Rattle.std.proofs.Common.{ℕ, ◌+◌, ap, arith, length}
use Rattle.lx_split.proofs.walk.Walk.enter.Goals as goal

pub returns : goal.returns
returns c =
    let within = c.in_ok-pieces.ensures in
    let opens = c.in_ok-open_file.ensures in
    let size = length c.args.found.bytes.now in (
      c.in_ok-pieces.pieces,
      within.0,
      record {
        opened = opens.file;
        stack = opens.stack;
        folder = opens.folder;
        waits = opens.waits;
        leaves = opens.leaves;
        before_it = opens.before_it;
        total = ap (λ (n : ℕ). n + size) opens.total;
        within = let total = opens.total in omega arith;
        few = within.1;
      },
    )
