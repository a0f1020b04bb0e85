-- The expressions of rules with a trailing context.
use Rattle.std.proofs.Common.{◌≡◌, ℕ, ◌<◌, false, [], ◌∷◌, ◌++◌, map, Vec, Global, sym, ap, ap₂, ◌∙◌, subst}
use Rattle.lx_regex.specs.Expr.{members_of, term_of}
use Rattle.lx_regex.specs.Kinds.{joined, kinds_of}
use Rattle.lx_regex.specs.Term.{cat, cons, nil, tag}
use Rattle.lx_regex.specs.declared.expr.Expr.{Expr}
use Rattle.lx_regex.specs.declared.expr.Expr.TheVariants.{Cat, STag}
use Rattle.lx_regex.proofs.Trees.Folds.{term_of-cat, term_of-stag}
use Rattle.lx_regex.proofs.Trees.Kinds.{kinds-one, kinds_of-cat, kinds_of-stag}
use Rattle.lx_exprs.specs.Values.{HasTagsBelow}

-- a sequence of three, of which the second is a tag
module _ (members : Vec Expr Global) (front back : Expr) (number : ℕ) (are : members.items ≡ front ∷ STag number ∷ back ∷ []) where
  pub around-term : term_of 0 (Cat members) ≡ cat (cons (term_of 0 front) (cons (tag number) (cons (term_of 0 back) nil)))
  around-term =
      term_of-cat 0 members ∙ ap (λ l. cat (members_of (map (term_of 0) l))) are
      ∙ ap (λ t. cat (cons (term_of 0 front) (cons t (cons (term_of 0 back) nil)))) (term_of-stag 0 number)

  pub around-tags : (bound : ℕ) → HasTagsBelow 0 bound (term_of 0 front) → HasTagsBelow 0 bound (term_of 0 back) → number < bound
      → HasTagsBelow 0 bound (term_of 0 (Cat members))
  around-tags bound here there lt = subst (HasTagsBelow 0 bound) (sym around-term) (here, (lt, (there, tt)))

  pub around-kinds : kinds_of (Cat members) ≡ kinds_of front ++ (number, false) ∷ kinds_of back
  around-kinds =
      kinds_of-cat members ∙ ap (λ l. joined (map kinds_of l)) are
      ∙ ap₂ (λ a b. kinds_of front ++ (a ++ b)) (kinds_of-stag number) (kinds-one back)
