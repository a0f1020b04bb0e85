-- The tags in what is kept of what is read, with whether they are m-tags.
use Rattle.std.proofs.Common.{◌≡◌, ℕ, suc, ◌+◌, arith, Bool, List, [], ◌∷◌, ◌++◌, map, length, Vec, Box, Global, Option, None, Some, IfSome, refl, sym, ap, ap₂, ◌∙◌, subst}
use Rattle.std.specs.List.{slice_get}
use Rattle.std.specs.Option.{option_map}
use Rattle.std.proofs.lemmas.List.{map-append}
use Rattle.lx_regex.specs.Kinds.{HasKind, HaveKinds, joined, kinds_of}
use Rattle.lx_regex.specs.declared.expr.Expr.{Expr}
use Rattle.lx_regex.specs.declared.expr.Expr.TheVariants.{Cat, Alt, Rep}
use Rattle.lx_regex.specs.declared.rules.Tag.{Tag}
use Rattle.lx_regex.proofs.Trees.Kinds.{HasKind-last, HaveKinds-both, kinds-append, kinds-one, kinds_of-alt, kinds_of-cat, kinds_of-rep}
use Rattle.lx_exprs.specs.declared.values.Content.{Content}
use Rattle.lx_exprs.specs.FitDefinitions.{HasKeptKinds}
use Rattle.lx_exprs.specs.Meanings.{moved}
use Rattle.lx_exprs.specs.Values.{HasKinds, content_kinds}

-- tags of members whose numbers are greater
joined-moved : (by : ℕ) (members : List Expr)
    → joined (map (λ (member : Expr). moved by (kinds_of member)) members) ≡ moved by (joined (map kinds_of members))
joined-moved by [] = refl
joined-moved by (member ∷ members) =
    ap (λ l. moved by (kinds_of member) ++ l) (joined-moved by members)
    ∙ sym (map-append (λ (one : ℕ × Bool). (one.0 + by, one.1)) (kinds_of member) (joined (map kinds_of members)))

-- expressions that hold copies in the same way are copies
module _ (by : ℕ) where
  pub cat-moved : (copies members : Vec Expr Global)
      → map kinds_of copies.items ≡ map (λ (member : Expr). moved by (kinds_of member)) members.items
      → kinds_of (Cat copies) ≡ moved by (kinds_of (Cat members))
  cat-moved copies members same =
      kinds_of-cat copies ∙ ap joined same ∙ joined-moved by members.items ∙ ap (moved by) (sym (kinds_of-cat members))

  pub alt-moved : (copies members : Vec Expr Global)
      → map kinds_of copies.items ≡ map (λ (member : Expr). moved by (kinds_of member)) members.items
      → kinds_of (Alt copies) ≡ moved by (kinds_of (Alt members))
  alt-moved copies members same =
      kinds_of-alt copies ∙ ap joined same ∙ joined-moved by members.items ∙ ap (moved by) (sym (kinds_of-alt members))

  pub rep-moved : (copy body : Box Expr Global) (low : ℕ) (high : Option ℕ) → kinds_of copy.value ≡ moved by (kinds_of body.value)
      → kinds_of (Rep copy low high) ≡ moved by (kinds_of (Rep body low high))
  rep-moved copy body low high same = kinds_of-rep copy low high ∙ same ∙ ap (moved by) (sym (kinds_of-rep body low high))

-- a tag that stands behind others
slice_get-behind : (before tags : List Tag) (number : ℕ) → slice_get (before ++ tags) (number + length before) ≡ slice_get tags number
slice_get-behind [] tags number = let here : number + 0 ≡ number = omega arith in ap (slice_get tags) here
slice_get-behind (tag ∷ before) tags number =
    let next : number + suc (length before) ≡ suc (number + length before) = omega arith in
    ap (slice_get (tag ∷ before ++ tags)) next ∙ slice_get-behind before tags number

pub HaveKinds-moved : (before tags : List Tag) (kinds : List (ℕ × Bool)) → HaveKinds tags kinds
    → HaveKinds (before ++ tags) (moved (length before) kinds)
HaveKinds-moved before tags [] are = tt
HaveKinds-moved before tags (one ∷ kinds) are =
    (ap (option_map (λ (tag : Tag). tag.many)) (slice_get-behind before tags one.0) ∙ are.0, HaveKinds-moved before tags kinds are.1)

-- a tag behind all others has its own kind
pub kinds-last : (before : List Tag) (named : Tag) (number : ℕ) (kinds : List (ℕ × Bool)) → number ≡ length before
    → kinds ≡ (number, named.many) ∷ [] → HaveKinds (before ++ named ∷ []) kinds
kinds-last before named number kinds place is =
    subst (HaveKinds (before ++ named ∷ [])) (sym is)
    (subst (λ n. HasKind (before ++ named ∷ []) (n, named.many)) (sym place) (HasKind-last before named []), tt)

-- one expression more
pub kinds-more : (tags : List Tag) (members all : List Expr) (expr : Expr) (left right : List (ℕ × Bool)) → all ≡ members ++ expr ∷ []
    → joined (map kinds_of members) ≡ left → kinds_of expr ≡ right → HaveKinds tags left → HaveKinds tags right
    → HaveKinds tags (joined (map kinds_of all))
kinds-more tags members all expr left right same front back here there =
    subst (HaveKinds tags)
    (sym (ap (λ l. joined (map kinds_of l)) same ∙ kinds-append members (expr ∷ []) ∙ ap₂ (λ a b. a ++ b) front (kinds-one expr ∙ back)))
    (HaveKinds-both tags left right here there)

-- and some behind others
pub kinds-both : (tags : List Tag) (front back all : List Expr) (left right : List (ℕ × Bool)) → all ≡ front ++ back
    → joined (map kinds_of front) ≡ left → joined (map kinds_of back) ≡ right → HaveKinds tags left → HaveKinds tags right
    → HaveKinds tags (joined (map kinds_of all))
kinds-both tags front back all left right same first second here there =
    subst (HaveKinds tags) (sym (ap (λ l. joined (map kinds_of l)) same ∙ kinds-append front back ∙ ap₂ (λ a b. a ++ b) first second))
    (HaveKinds-both tags left right here there)

-- the expression that is kept has the tags of what stood there
pub kept_kinds : (tags : List Tag) (found : Option Expr) (held : Content) → IfSome found (λ e. kinds_of e ≡ content_kinds held)
    → HasKinds tags held → HasKeptKinds tags found
kept_kinds tags None held same are = tt
kept_kinds tags (Some expr) held same are = subst (HaveKinds tags) (sym same) are
