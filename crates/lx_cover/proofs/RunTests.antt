-- Whether two options are the same, as the program compares them.
use Rattle.std.proofs.Common.{◌≡◌, ◌≢◌, ℕ, Option, Some, None, Bool, true, false, not, nat_eq, eq-eqb, eqb-true, refl, sym, ap, ◌∙◌}
use Rattle.std.proofs.lemmas.Bool.{true≢false}
use Rattle.std.specs.Option.{option_eq}

pub options-same : (result : Bool) (one other : Option ℕ) → result ≡ not (option_eq nat_eq one other) → result ≡ false → one ≡ other
options-same result None None told is = refl
options-same result None (Some y) told is = absurd (true≢false (sym told ∙ is))
options-same result (Some x) None told is = absurd (true≢false (sym told ∙ is))
options-same result (Some x) (Some y) told is = at (nat_eq x y) refl told
  where
    at : (b : Bool) → nat_eq x y ≡ b → result ≡ not b → Some x ≡ Some y
    at true same now = ap Some (eqb-true x y same)
    at false same now = absurd (true≢false (sym now ∙ is))

pub options-apart : (result : Bool) (one other : Option ℕ) → result ≡ not (option_eq nat_eq one other) → result ≡ true → one ≢ other
options-apart result None None told is same = true≢false (sym is ∙ told)
options-apart result None (Some y) told is same = cc same
options-apart result (Some x) None told is same = cc same
options-apart result (Some x) (Some y) told is same =
    let equal : x ≡ y = cc same in
    true≢false (sym is ∙ told ∙ ap not (eq-eqb x y equal))
