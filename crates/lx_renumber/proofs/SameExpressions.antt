-- Expressions of one form that hold the same have the same term.
use Rattle.std.proofs.Common.{◌≡◌, ℕ, ◌+◌, ◌*◌, Option, map, Vec, Box, Global, sym, ap, ◌∙◌}
use Rattle.lx_regex.specs.Expr.{members_of, term_of}
use Rattle.lx_regex.specs.Kinds.{joined, kinds_of}
use Rattle.lx_regex.specs.Term.{alt, cat, group, repeat}
use Rattle.lx_regex.specs.declared.expr.Expr.{Expr}
use Rattle.lx_regex.specs.declared.expr.Expr.TheVariants.{Alt, Cat, Group, Rep}
use Rattle.lx_regex.proofs.Trees.Folds.{term_of-alt, term_of-cat, term_of-group, term_of-rep}
use Rattle.lx_regex.proofs.Trees.Kinds.{kinds_of-alt, kinds_of-cat}

module _ (tags : ℕ) where
  pub same-cat : (members others : Vec Expr Global) → map (term_of tags) others.items ≡ map (term_of tags) members.items
      → term_of tags (Cat others) ≡ term_of tags (Cat members)
  same-cat members others same = term_of-cat tags others ∙ ap (λ terms. cat (members_of terms)) same ∙ sym (term_of-cat tags members)

  pub same-alt : (members others : Vec Expr Global) → map (term_of tags) others.items ≡ map (term_of tags) members.items
      → term_of tags (Alt others) ≡ term_of tags (Alt members)
  same-alt members others same = term_of-alt tags others ∙ ap (λ terms. alt (members_of terms)) same ∙ sym (term_of-alt tags members)

  pub same-rep : (body other : Box Expr Global) (low least : ℕ) (high most : Option ℕ) → least ≡ low → most ≡ high
      → term_of tags other.value ≡ term_of tags body.value → term_of tags (Rep other least most) ≡ term_of tags (Rep body low high)
  same-rep body other low least high most lows highs same =
      term_of-rep tags other least most ∙ (λ i. repeat (same i) (lows i) (highs i)) ∙ sym (term_of-rep tags body low high)

  pub same-group : (body other : Box Expr Global) (number same : ℕ) → same ≡ number → term_of tags other.value ≡ term_of tags body.value
      → term_of tags (Group same other) ≡ term_of tags (Group number body)
  same-group body other number same numbers terms =
      term_of-group tags same other ∙ (λ i. group (tags + 2 * numbers i) (tags + 2 * numbers i + 1) (terms i)) ∙ sym (term_of-group tags number body)

-- and the same tags
pub same_kinds-cat : (members others : Vec Expr Global) → map kinds_of others.items ≡ map kinds_of members.items
    → kinds_of (Cat others) ≡ kinds_of (Cat members)
same_kinds-cat members others same = kinds_of-cat others ∙ ap joined same ∙ sym (kinds_of-cat members)

pub same_kinds-alt : (members others : Vec Expr Global) → map kinds_of others.items ≡ map kinds_of members.items
    → kinds_of (Alt others) ≡ kinds_of (Alt members)
same_kinds-alt members others same = kinds_of-alt others ∙ ap joined same ∙ sym (kinds_of-alt members)
