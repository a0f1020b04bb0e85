-- How many parts an expression has for its size.
use Rattle.std.proofs.Common.{◌≡◌, ℕ, zero, suc, ◌+◌, ◌*◌, ◌≤◌, arith, Bool, true, false, List, [], ◌∷◌, map, length, sum, Option, Some, None, refl, sym, ap, ap₂, ◌∙◌, subst}
use Rattle.std.proofs.Math.Nat.{mul-le-mul_left}
use Rattle.std.proofs.lemmas.List.Sums.{sum_by-cons}
use Rattle.std.specs.Prelude.{◌==◌, nat_le, if◌then◌else◌}
use Rattle.lx_regex.specs.Term.{Term, empty, class, any_unit, cat, alt, repeat, tag, group, copies, parts, parts_of_all}
use Rattle.lx_regex.specs.Script.{put_tag, merge_tags, tags_in, tags_among}
use Rattle.lx_regex.specs.Limits.{HasLongSequences, HaveLongSequences, member_count}
use Rattle.lx_regex.specs.Expr.{ranges_of, term_step, term_of, times, size_step, size_of}
use Rattle.lx_regex.specs.declared.expr.Expr.{Expr}
use Rattle.lx_regex.specs.declared.expr.Expr.TheOpen.{Expr-F}
use Rattle.lx_regex.specs.declared.expr.Expr.TheViews.{roll-Expr}
use Rattle.lx_regex.specs.declared.expr.Expr.TheFolds.{fold-roll-Expr, ind-Expr, map-Expr}
use Rattle.lx_regex.proofs.Trees.NoUnits.{terms_in}

length-put_tag : (number : ℕ) (tags : List ℕ) → length (put_tag number tags) ≡ suc (length tags)
length-put_tag number [] = refl
length-put_tag number (other ∷ others) = at (nat_le number other) (ap suc (length-put_tag number others))
  where
    at : (b : Bool) → suc (length (put_tag number others)) ≡ suc (suc (length others))
        → length (if b then number ∷ other ∷ others else other ∷ put_tag number others) ≡ suc (suc (length others))
    at true e = refl
    at false e = e

length-merge_tags : (tags others : List ℕ) → length (merge_tags tags others) ≡ length tags + length others
length-merge_tags [] others = omega arith
length-merge_tags (number ∷ tags) others =
    length-put_tag number (merge_tags tags others) ∙ ap suc (length-merge_tags tags others) ∙ omega arith

-- an expression has the same parts for all numbers of tags, and not many more than its size
pub record IsMeasured (e : Expr) : Type 0 where
  pub alike : (tags others : ℕ) → parts (term_of tags e) ≡ parts (term_of others e)
  pub bound : (tags : ℕ) → HasLongSequences (term_of tags e)
      → parts (term_of tags e) + 1 ≤ (2 + length (tags_in (term_of tags e))) * size_of e

-- the bound, for a term and a size
abbrev IsBound : Term → ℕ → Type 0
IsBound e size = parts e + 1 ≤ (2 + length (tags_in e)) * size

measured_by : (e : Expr) (term : ℕ → Term) (size : ℕ) → ((tags : ℕ) → term_of tags e ≡ term tags) → size_of e ≡ size
    → ((tags others : ℕ) → parts (term tags) ≡ parts (term others))
    → ((tags : ℕ) → HasLongSequences (term tags) → IsBound (term tags) size) → IsMeasured e
measured_by e term size folds sized alike bound = record {
  alike = λ tags others. ap parts (folds tags) ∙ alike tags others ∙ ap parts (sym (folds others));
  bound = λ tags long.
      subst
      (λ y. IsBound y (size_of e)) (sym (folds tags))
      (subst (λ n. IsBound (term tags) n) (sym sized) (bound tags (subst HasLongSequences (folds tags) long)));
}

-- expressions with what is known of each
abbrev Known : Type 0
Known = (e : Expr) × IsMeasured e

abbrev all_of : List Known → List Expr
all_of known = map (λ (k : Known). k.0) known

alike_all : (tags others : ℕ) (known : List Known) → parts_of_all (terms_in tags (all_of known)) ≡ parts_of_all (terms_in others (all_of known))
alike_all tags others [] = refl
alike_all tags others (k ∷ known) = ap₂ (λ a b. a + b) (k.1.alike tags others) (alike_all tags others known)

bound_all : (tags : ℕ) (known : List Known) → HaveLongSequences (terms_in tags (all_of known))
    → parts_of_all (terms_in tags (all_of known)) + member_count (terms_in tags (all_of known))
    ≤ (2 + length (tags_among (terms_in tags (all_of known)))) * sum (map size_of (all_of known))
bound_all tags [] long = omega arith
bound_all tags (k ∷ known) long =
    let first = k.1.bound tags long.0 in
    let others = bound_all tags known long.1 in
    let count = length-merge_tags (tags_in (term_of tags k.0)) (tags_among (terms_in tags (all_of known))) in
    subst
    (λ n. parts (term_of tags k.0) + parts_of_all (terms_in tags (all_of known)) + suc (member_count (terms_in tags (all_of known)))
    ≤ (2 + length (tags_among (terms_in tags (all_of (k ∷ known))))) * n)
    (sym (sum_by-cons (λ n. n) (size_of k.0) (map size_of (all_of known))))
    (subst
    (λ n. parts (term_of tags k.0) + parts_of_all (terms_in tags (all_of known)) + suc (member_count (terms_in tags (all_of known)))
    ≤ (2 + n) * (size_of k.0 + sum (map size_of (all_of known))))
    (sym count)
    (both
    (parts (term_of tags k.0)) (parts_of_all (terms_in tags (all_of known))) (member_count (terms_in tags (all_of known)))
    (length (tags_in (term_of tags k.0))) (length (tags_among (terms_in tags (all_of known))))
    (size_of k.0) (sum (map size_of (all_of known))) first others))
  where
    both : (p ps c a b s ss : ℕ) → p + 1 ≤ (2 + a) * s → ps + c ≤ (2 + b) * ss → p + ps + suc c ≤ (2 + (a + b)) * (s + ss)
    both p ps c a b s ss first others = omega arith

times-copies : (low : ℕ) (high : Option ℕ) → copies low high ≤ times low high
times-copies low None = omega arith
times-copies low (Some high) = omega arith

times_positive : (low : ℕ) (high : Option ℕ) → 1 ≤ times low high
times_positive low None = omega arith
times_positive low (Some high) = omega arith

repeated : (p s k c f : ℕ) → p + 1 ≤ k * s → c ≤ f → 1 ≤ f → 2 ≤ k → 1 + c * p + 1 ≤ k * (s * f + 1)
repeated p s k c f bound le positive two =
    let fewer : c * p ≤ f * p = grind arith in
    let larger : f * (p + 1) ≤ f * (k * s) = mul-le-mul_left f bound in
    omega arith

whole : (p a s : ℕ) → p + 1 ≤ (2 + a) * s → 1 + p + 1 ≤ (2 + suc (suc a)) * s
whole p a zero bound = absurd (omega arith)
whole p a (suc s) bound = omega arith

grouped : (is_whole : Bool) (opening closing : ℕ) (e : Term) (size : ℕ) → IsBound e size
    → IsBound (group opening closing e) (if is_whole then size else size + 2)
grouped is_whole opening closing e size bound =
    let ends : length (tags_in (group opening closing e)) ≡ suc (suc (length (tags_in e))) =
    length-put_tag opening (put_tag closing (tags_in e)) ∙ ap suc (length-put_tag closing (tags_in e)) in
    at is_whole (length (tags_in (group opening closing e))) ends bound
  where
    at : (b : Bool) (count : ℕ) → count ≡ suc (suc (length (tags_in e))) → parts e + 1 ≤ (2 + length (tags_in e)) * size
        → 1 + parts e + 1 ≤ (2 + count) * (if b then size else size + 2)
    at true count is bound = subst (λ n. 1 + parts e + 1 ≤ (2 + n) * size) (sym is) (whole (parts e) (length (tags_in e)) size bound)
    at false count is bound = subst (λ n. 1 + parts e + 1 ≤ (2 + n) * (size + 2)) (sym is) (omega arith)

pub measured : (e : Expr) → IsMeasured e
measured = ind-Expr IsMeasured (λ x y is. subst (λ z. IsMeasured (roll-Expr z)) is (at y))
  where
    at : (y : Expr-F Known) → IsMeasured (roll-Expr (map-Expr Known Expr (λ (k : Known). k.0) y))
    at Expr-F.Empty =
        measured_by _ (λ tags. empty) 1 (λ tags. fold-roll-Expr Term (term_step tags) Expr-F.Empty)
        (fold-roll-Expr ℕ size_step Expr-F.Empty) (λ tags others. refl) (λ tags long. omega arith)
    at (Expr-F.Class set) =
        measured_by _ (λ tags. class (ranges_of set)) 1 (λ tags. fold-roll-Expr Term (term_step tags) (Expr-F.Class set))
        (fold-roll-Expr ℕ size_step (Expr-F.Class set)) (λ tags others. refl) (λ tags long. omega arith)
    at Expr-F.AnyUnit =
        measured_by _ (λ tags. any_unit) 1 (λ tags. fold-roll-Expr Term (term_step tags) Expr-F.AnyUnit)
        (fold-roll-Expr ℕ size_step Expr-F.AnyUnit) (λ tags others. refl) (λ tags long. omega arith)
    at (Expr-F.Cat members) =
        measured_by _ (λ tags. cat (terms_in tags (all_of members.items))) (sum (map size_of (all_of members.items)))
        (λ tags. fold-roll-Expr Term (term_step tags) (map-Expr Known Expr (λ (k : Known). k.0) (Expr-F.Cat members)))
        (fold-roll-Expr ℕ size_step (map-Expr Known Expr (λ (k : Known). k.0) (Expr-F.Cat members)))
        (λ tags others. ap (λ n. 1 + n) (alike_all tags others members.items))
        (λ tags long. let all = bound_all tags members.items long.1 in omega (arith, all, long.0))
    at (Expr-F.Alt members) =
        measured_by _ (λ tags. alt (terms_in tags (all_of members.items))) (sum (map size_of (all_of members.items)) + 1)
        (λ tags. fold-roll-Expr Term (term_step tags) (map-Expr Known Expr (λ (k : Known). k.0) (Expr-F.Alt members)))
        (fold-roll-Expr ℕ size_step (map-Expr Known Expr (λ (k : Known). k.0) (Expr-F.Alt members)))
        (λ tags others. ap (λ n. 1 + n) (alike_all tags others members.items))
        (λ tags long. let all = bound_all tags members.items long in omega (arith, all))
    at (Expr-F.Rep body low high) =
        measured_by _ (λ tags. repeat (term_of tags body.value.0) low high) (size_of body.value.0 * times low high + 1)
        (λ tags. fold-roll-Expr Term (term_step tags) (map-Expr Known Expr (λ (k : Known). k.0) (Expr-F.Rep body low high)))
        (fold-roll-Expr ℕ size_step (map-Expr Known Expr (λ (k : Known). k.0) (Expr-F.Rep body low high)))
        (λ tags others. ap (λ n. 1 + copies low high * n) (body.value.1.alike tags others))
        (λ tags long.
        repeated
        (parts (term_of tags body.value.0)) (size_of body.value.0) (2 + length (tags_in (term_of tags body.value.0))) (copies low high) (times low high)
        (body.value.1.bound tags long) (times-copies low high) (times_positive low high) (omega arith))
    at (Expr-F.STag number) =
        measured_by _ (λ tags. tag number) 1 (λ tags. fold-roll-Expr Term (term_step tags) (Expr-F.STag number))
        (fold-roll-Expr ℕ size_step (Expr-F.STag number)) (λ tags others. refl) (λ tags long. omega arith)
    at (Expr-F.MTag number) =
        measured_by _ (λ tags. tag number) 1 (λ tags. fold-roll-Expr Term (term_step tags) (Expr-F.MTag number))
        (fold-roll-Expr ℕ size_step (Expr-F.MTag number)) (λ tags others. refl) (λ tags long. omega arith)
    at (Expr-F.Group number body) =
        measured_by _ (λ tags. group (tags + 2 * number) (tags + 2 * number + 1) (term_of tags body.value.0))
        (if number == 0 then size_of body.value.0 else size_of body.value.0 + 2)
        (λ tags. fold-roll-Expr Term (term_step tags) (map-Expr Known Expr (λ (k : Known). k.0) (Expr-F.Group number body)))
        (fold-roll-Expr ℕ size_step (map-Expr Known Expr (λ (k : Known). k.0) (Expr-F.Group number body)))
        (λ tags others. ap (λ n. 1 + n) (body.value.1.alike tags others))
        (λ tags long. grouped (number == 0) (tags + 2 * number) (tags + 2 * number + 1) (term_of tags body.value.0) (size_of body.value.0) (body.value.1.bound tags long))
