-- The term of an expression in a rule with tags, by its term in a rule that has none.
use Rattle.std.proofs.Common.{◌≡◌, ℕ, ◌+◌, ◌*◌, arith, List, [], ◌∷◌, map, refl, sym, ap, ap₂, ◌∙◌, subst}
use Rattle.lx_regex.specs.Term.{Term, Terms, empty, class, any_unit, cat, alt, repeat, tag, group, cons}
use Rattle.lx_regex.specs.Expr.{members_of, ranges_of, term_of, term_step}
use Rattle.lx_regex.specs.declared.expr.Expr.{Expr}
use Rattle.lx_regex.specs.declared.expr.Expr.TheOpen.{Expr-F}
use Rattle.lx_regex.specs.declared.expr.Expr.TheViews.{roll-Expr}
use Rattle.lx_regex.specs.declared.expr.Expr.TheFolds.{fold-roll-Expr, ind-Expr, map-Expr}
use Rattle.lx_exprs.specs.Meanings.{all_behind, behind}

abbrev IsBehind : Expr → Type 0
IsBehind expr = (tags : ℕ) → term_of tags expr ≡ behind tags (term_of 0 expr)

-- expressions of which this is known
abbrev Known : Type 0
Known = (expr : Expr) × IsBehind expr

abbrev all_of : List Known → List Expr
all_of known = map (λ (k : Known). k.0) known

abbrev terms_in : (tags : ℕ) → List Expr → Terms
terms_in tags exprs = members_of (map (λ e. term_of tags e) exprs)

all-behind : (tags : ℕ) (known : List Known) → terms_in tags (all_of known) ≡ all_behind tags (terms_in 0 (all_of known))
all-behind tags [] = refl
all-behind tags (k ∷ known) = ap₂ cons (k.1 tags) (all-behind tags known)

-- a form whose parts are behind others is behind them
form-behind : (e : Expr) (term : ℕ → Term) → ((tags : ℕ) → term_of tags e ≡ term tags) → ((tags : ℕ) → term tags ≡ behind tags (term 0)) → IsBehind e
form-behind e term folds is tags = folds tags ∙ is tags ∙ ap (behind tags) (sym (folds 0))

pub term_of-behind : (expr : Expr) → IsBehind expr
term_of-behind = ind-Expr IsBehind (λ x y is. subst (λ z. IsBehind (roll-Expr z)) is (at y))
  where
    at : (y : Expr-F Known) → IsBehind (roll-Expr (map-Expr Known Expr (λ (k : Known). k.0) y))
    at Expr-F.Empty = form-behind _ (λ tags. empty) (λ tags. fold-roll-Expr Term (term_step tags) Expr-F.Empty) (λ tags. refl)
    at (Expr-F.Class set) =
        form-behind _ (λ tags. class (ranges_of set)) (λ tags. fold-roll-Expr Term (term_step tags) (Expr-F.Class set)) (λ tags. refl)
    at Expr-F.AnyUnit = form-behind _ (λ tags. any_unit) (λ tags. fold-roll-Expr Term (term_step tags) Expr-F.AnyUnit) (λ tags. refl)
    at (Expr-F.Cat members) =
        form-behind _ (λ tags. cat (terms_in tags (all_of members.items)))
        (λ tags. fold-roll-Expr Term (term_step tags) (map-Expr Known Expr (λ (k : Known). k.0) (Expr-F.Cat members)))
        (λ tags. ap cat (all-behind tags members.items))
    at (Expr-F.Alt members) =
        form-behind _ (λ tags. alt (terms_in tags (all_of members.items)))
        (λ tags. fold-roll-Expr Term (term_step tags) (map-Expr Known Expr (λ (k : Known). k.0) (Expr-F.Alt members)))
        (λ tags. ap alt (all-behind tags members.items))
    at (Expr-F.Rep body low high) =
        form-behind _ (λ tags. repeat (term_of tags body.value.0) low high)
        (λ tags. fold-roll-Expr Term (term_step tags) (map-Expr Known Expr (λ (k : Known). k.0) (Expr-F.Rep body low high)))
        (λ tags. ap (λ t. repeat t low high) (body.value.1 tags))
    at (Expr-F.STag number) =
        form-behind _ (λ tags. tag number) (λ tags. fold-roll-Expr Term (term_step tags) (Expr-F.STag number)) (λ tags. refl)
    at (Expr-F.MTag number) =
        form-behind _ (λ tags. tag number) (λ tags. fold-roll-Expr Term (term_step tags) (Expr-F.MTag number)) (λ tags. refl)
    at (Expr-F.Group number body) =
        form-behind _ (λ tags. group (tags + 2 * number) (tags + 2 * number + 1) (term_of tags body.value.0))
        (λ tags. fold-roll-Expr Term (term_step tags) (map-Expr Known Expr (λ (k : Known). k.0) (Expr-F.Group number body)))
        (λ tags.
        let opening : tags + 2 * number ≡ 0 + 2 * number + tags = omega arith in
        let closing : tags + 2 * number + 1 ≡ 0 + 2 * number + 1 + tags = omega arith in
        ap (group (tags + 2 * number) (tags + 2 * number + 1)) (body.value.1 tags)
        ∙ ap₂ (λ a b. group a b (behind tags (term_of 0 body.value.0))) opening closing)
