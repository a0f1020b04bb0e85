use Rattle.std.proofs.Common.{◌<◌, ◌≤◌, length, sym, subst, arith}
use Rattle.lx_encode.specs.Runs.{IsRow, LeadsTo}
use Rattle.lx_encode.proofs.layers.Folding.put.Goals as goal

pub returns-in_ok-put_within-clause-in_table : goal.returns-in_ok-put_within-clause-in_table
returns-in_ok-put_within-clause-in_table c =
    let known = c.in_ok-advance.ensures.in_table in
    let now = c.in_ok-put_within.ensures in
    let longer : length c.args.table.now ≤ length c.advance.new.table = c.in_ok-advance.ensures.grows.longer in
    record {
      closed = subst (λ v. IsRow v.items) (sym now.closed) known.closed;
      passed = λ b r at. subst (λ n. b < n) (sym now.block) (known.passed b r (subst (λ v. LeadsTo v.items b r) now.closed at));
      within = λ b r at. known.within b r (subst (λ v. LeadsTo v.items b r) now.closed at);
      bounded = subst (λ n. n ≤ 0x10FFFF) (sym now.block) known.bounded;
      row = now.row;
      below = now.below (length c.advance.new.table) (omega arith) known.below;
    }

pub returns-in_ok-put_within-clause-folded : goal.returns-in_ok-put_within-clause-folded
returns-in_ok-put_within-clause-folded c = λ runs behind folding.
    c.in_ok-put_within.ensures.folded c.advance.new.table runs (c.in_ok-advance.ensures.folded c.args.layer runs folding)

pub returns-in_ok-put_blocks-clause-folded : goal.returns-in_ok-put_blocks-clause-folded
returns-in_ok-put_blocks-clause-folded c = λ runs behind folding.
    c.in_ok-put_blocks.ensures.folded runs behind (c.in_ok-advance.ensures.folded c.args.layer runs folding)
