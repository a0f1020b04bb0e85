use Rattle.std.proofs.Common.{[], List, arith, ℕ, ◌+◌, ◌++◌, ◌∙◌, ◌∷◌, ◌/◌, ◌%◌, ◌<◌, ◌≤◌, ◌^◌, ap, append_assoc, sym}
use Rattle.std.proofs.lemmas.Fmt.{decimal_digit, decimal_step}
use Rattle.lx_ccode.proofs.numerals.append_digits.Goals as goal

pub returns-then-number-lt10 : goal.returns-then-number-lt10
returns-then-number-lt10 c =
    c.in_ok-push.ensures.items ∙ ap (λ (l : List ℕ). c.args.text.now.items ++ l) (sym (decimal_digit c.args.number c.if-number-lt10.true))

pub returns-then-number-lt100 : goal.returns-then-number-lt100
returns-then-number-lt100 c =
    let number = c.args.number in
    let more : 10 ≤ number = omega (arith, c.if-number-lt10.false) in
    let tens : number / 10 < 10 = omega (arith, c.if-number-lt100.true) in
    let fits : number < 2 ^ 64 = omega (arith, c.if-number-lt100.true) in
    rw (c.in_ok-push-3.ensures.items, c.in_ok-push-2.ensures.items, decimal_step number more fits, decimal_digit (number / 10) tens) (append_assoc c.args.text.now.items ((48 + number / 10) ∷ []) ((48 + number % 10) ∷ []))
