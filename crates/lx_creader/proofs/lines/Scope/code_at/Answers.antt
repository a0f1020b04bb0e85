use Rattle.std.proofs.Common.{◌≡◌, ◌≤◌, ◌∙◌, ap, arith, drop, length, refl, take}
use Rattle.lx_base.specs.Letters.{after_letters, is_digit}
use Rattle.lx_ccode.specs.Reading.{code_at, number_at}
use Rattle.lx_ccode.specs.declared.piece.Stmt.TheVariants.{Code}
use Rattle.lx_creader.specs.Fitted.{long, short}
use Rattle.lx_creader.proofs.Steps.{drop-long, take-long}
use Rattle.lx_creader.proofs.lines.Scope.code_at.Goals as goal

pub returns : goal.returns
unfolding code_at
returns c mark line_is =
    let behind = c.skip-text.result.now in
    let small : length behind ≤ 18446744073709551615 = omega arith in
    let rest = after_letters is_digit (drop 14 c.args.bytes.now) in
    let size = number_at (drop 1 rest) in
    let count : c.skip-count.result.now ≡ drop 1 rest =
    c.skip-count.ensures ∙ ap (drop 1) (c.after_digits.ensures ∙ ap (after_letters is_digit) c.skip-number.ensures) in
    let text : behind ≡ drop 2 (after_letters is_digit (drop 1 rest)) =
    c.skip-text.ensures ∙ ap (drop 2) (c.after_digits-2.ensures ∙ ap (after_letters is_digit) count) in
    let size_is : c.count_at-size.result ≡ long size = c.count_at-size.ensures ∙ ap (λ b. long (number_at b)) count in
    let number = c.short_at.ensures ∙ ap (λ b. short (number_at b)) c.skip-number.ensures in
    let action = c.in_ok-action.ensures ∙ c.taken.ensures ∙ ap (λ n. take n behind) size_is ∙ take-long size behind small ∙ ap (take size) text in
    let last = c.skip-2.ensures ∙ ap (drop 1) (c.skip.ensures ∙ ap (λ n. drop n behind) size_is ∙ drop-long size behind small ∙ ap (drop size) text) in
    (λ i. Code (number i) (line_is i) (action i), refl, last)
