-- What holds of all members holds of each.
use Rattle.std.proofs.Common.{◌≡◌, ℕ, zero, suc, ◌+◌, ◌<◌, arith, Bool, true, false, List, [], ◌∷◌, length, get_or, drop, refl, sym, ap, subst}
use Rattle.std.proofs.lemmas.Bool.{eqb-true}
use Rattle.std.specs.Prelude.{nat_eq}
use Rattle.lx_regex.specs.Expr.{term_of}
use Rattle.lx_regex.specs.Term.{parts, parts_of_all}
use Rattle.lx_regex.specs.declared.expr.Expr.{Expr}
use Rattle.lx_regex.proofs.Trees.NoUnits.{terms_in, next_member}
use Rattle.lx_tnfa.specs.Ends.{EndsFit, EndsFitAmong}

pub ends_at : (tags : ℕ) (members : List Expr) (i : ℕ) (member : Expr) → i < length members → member ≡ get_or members i member
    → EndsFitAmong (terms_in tags members) → EndsFit (term_of tags member)
ends_at tags [] i member lt is fit = absurd (omega arith)
ends_at tags (x ∷ members) zero member lt is fit = subst (λ y. EndsFit (term_of tags y)) (sym is) fit.0
ends_at tags (x ∷ members) (suc i) member lt is fit = ends_at tags members i member (omega arith) is fit.1

-- the parts of one member and of the others
pub parts_next : (tags : ℕ) (members : List Expr) (i : ℕ) (member : Expr) → i < length members → member ≡ get_or members i member
    → parts_of_all (terms_in tags (drop i members)) ≡ parts (term_of tags member) + parts_of_all (terms_in tags (drop (suc i) members))
parts_next tags members i member lt is = ap (λ l. parts_of_all (terms_in tags l)) (next_member members i member lt is)

pub not_zero : (n : ℕ) → (n ≡ 0 → ⊥) → nat_eq n 0 ≡ false
not_zero n ne = at (nat_eq n 0) refl
  where
    at : (b : Bool) → nat_eq n 0 ≡ b → nat_eq n 0 ≡ false
    at true e = absurd (ne (eqb-true n 0 e))
    at false e = e
