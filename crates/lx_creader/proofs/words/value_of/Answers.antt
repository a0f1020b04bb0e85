use Rattle.std.proofs.Common.{ℕ, ◌≡◌, ◌∙◌, ◌+◌, ◌*◌, sym, ap, drop, get_or, min, arith}
use Rattle.std.proofs.Math.ListN.{drop_of_length-le}
use Rattle.std.proofs.lemmas.List.{drop_more}
use Rattle.std.specs.Char.{digit_value}
use Rattle.std.specs.Str.Parse.{digits_value_after}
use Rattle.lx_creader.proofs.Fronts.{value-next}
use Rattle.lx_creader.proofs.words.value_of.Goals as goal

pub loop-letter-preserved : goal.loop-letter-preserved
loop-letter-preserved c =
    let word = c.args.word.now in
    let i = c.loop-letter.letter-index in
    let base = c.args.base in
    let most : ℕ = 18446744073709551615 in
    let letter = get_or word i 0 in
    let more = drop_more word i 0 c.loop-letter-test.true in
    let value_is : c.saturating_add-value.result ≡ min (min (c.loop-letter.value * base) most + digit_value letter) most =
    c.saturating_add-value.ensures ∙ ap (λ n. min n most) (ap (λ n. n + c.from.result) c.saturating_mul.ensures ∙ ap (λ n. min (c.loop-letter.value * base) most + n) (c.from.ensures ∙ c.digit_value.ensures.value)) in (
      value-next base c.loop-letter.value (digit_value letter) most c.saturating_add-value.result (drop (i + 1) word) c.requires.some value_is
          ∙ sym (ap (λ l. min (digits_value_after base c.loop-letter.value l) most) more) ∙ c.loop-letter.invariant.0,
      omega arith,
    )

pub returns : goal.returns
returns c =
    let word = c.args.word.now in
    let most : ℕ = 18446744073709551615 in
    let none = drop_of_length-le word {i = c.loop-letter.letter-index} c.loop-letter-test.false in
    let last : min c.loop-letter.value most ≡ c.loop-letter.value = omega arith in
    sym last ∙ sym (ap (λ l. min (digits_value_after c.args.base c.loop-letter.value l) most) none) ∙ c.loop-letter.invariant.0
