use Rattle.std.proofs.Common.{◌≡◌, ◌∙◌, ◌≤◌, ◌+◌, arith, refl, sym, min}
use Rattle.lx_exprs.specs.Defined.{is_built}
use Rattle.lx_exprs.specs.Meanings.{alternated, choice_size}
use Rattle.std.specs.Prelude.{◌^◌}
use Rattle.lx_exprs.specs.Values.{content_size}
use Rattle.lx_exprs.proofs.Contents.ValueContents.{choice_more-none, choice_more-one}
use Rattle.lx_exprs.proofs.Contents.OperandValues.{below_greater}
use Rattle.lx_exprs.proofs.Contents.ValueLimits.{counted_alternated, grows}
use Rattle.lx_exprs.proofs.values.Value.beside.Goals as goal
use Rattle.lx_exprs.proofs.values.Value.beside.Goals.{then-is_choice, else-is_choice}

pub returns-clause-stands : goal.returns-clause-stands
returns-clause-stands c first second is is' =
    let built = is_built c.args.room first in
    let more : c.if-is_choice.more ≡ choice_size first.shape = elim c.if-is_choice.branch [
      | then-is_choice w ↦ w.more-is ∙ choice_more-none built first c.args.self.content is.content w.if-is_choice.ensures
      | else-is_choice w ↦ w.more-is ∙ choice_more-one built first c.args.self.content is.content w.if-is_choice.ensures
    ] in
    c.limited.ensures.stands (alternated first second)
    (rw c.sum-size.ensures (rw c.sum.ensures (rw c.max-nesting.ensures (rw c.sum-groups.ensures (rw c.max-tags.ensures
    (counted_alternated first second c.args.self.size c.args.self.nesting c.args.self.groups c.args.self.tags c.args.right.size c.args.right.nesting
    c.args.right.groups c.args.right.tags c.if-is_choice.more is.counted is'.counted more))))))
    (c.in_ok-content.ensures.stands built (is_built c.args.room second) (is_built c.args.room (alternated first second)) first second is.content is'.content
    (grows c.args.room first (alternated first second) (omega arith) (omega arith) (omega arith))
    (grows c.args.room second (alternated first second) (omega arith) (omega arith) (omega arith)))

pub returns-clause-bounded : goal.returns-clause-bounded
returns-clause-bounded c is is' =
    let some = is.some in
    let left = is.size in
    let right = is'.size in
    let sum : c.sum-size.result ≡ min (2 ^ 40) (min (2 ^ 40) (c.args.self.size + c.if-is_choice.more) + c.args.right.size) =
    rw c.sum-size.ensures (rw c.sum.ensures refl) in
    let size : c.sum-size.result ≤ 4096 → content_size c.in_ok-content.content ≤ c.sum-size.result = elim c.if-is_choice.branch [
      | then-is_choice w ↦ λ small.
          let less = c.in_ok-content.ensures.choice (sym w.if-is_choice.ensures) in
          let more : c.if-is_choice.more ≡ 0 = w.more-is in omega (arith, sum, less, left, right, small, more)
      | else-is_choice w ↦ λ small.
          let less = c.in_ok-content.ensures.size in
          let more : c.if-is_choice.more ≡ 1 = w.more-is in omega (arith, sum, less, left, right, small, more)
    ] in
    let all = c.max-tags.ensures in
    c.limited.ensures.bounded (omega (arith, sum, some)) size
    (c.in_ok-content.ensures.tags c.max-tags.result
    (below_greater c.args.self.tags c.max-tags.result (omega (arith, all)) c.args.self.content is.tags)
    (below_greater c.args.right.tags c.max-tags.result (omega (arith, all)) c.args.right.content is'.tags))

pub returns-clause-kinds : goal.returns-clause-kinds
returns-clause-kinds c tags one two = c.limited.ensures.kinds tags (c.in_ok-content.ensures.kinds tags one two)
