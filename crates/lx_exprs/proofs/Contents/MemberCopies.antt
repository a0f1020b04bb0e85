-- Copies of expressions, form by form.
use Rattle.std.proofs.Common.{◌≡◌, ℕ, zero, suc, ◌+◌, ◌*◌, ◌<◌, ◌≤◌, ◌⊎◌, inl, inr, arith, List, [], ◌∷◌, ◌++◌, map, take, get_or, length, Vec, Box, Global, Option, refl, sym, ap, ap₂, ◌∙◌, subst}
use Rattle.std.proofs.Math.Seq.{take-suc}
use Rattle.std.proofs.lemmas.List.{map-append}
use Rattle.lx_regex.specs.Term.{cat, alt, repeat, group, cons}
use Rattle.lx_regex.specs.Expr.{members_of, term_of}
use Rattle.lx_regex.specs.declared.expr.Expr.{Expr}
use Rattle.lx_regex.specs.declared.expr.Expr.TheVariants.{Cat, Alt, Rep, Group}
use Rattle.lx_regex.proofs.Trees.Folds.{term_of-cat, term_of-alt, term_of-rep, term_of-group}
use Rattle.lx_exprs.specs.Meanings.{shifted, shifted_all}
use Rattle.lx_exprs.specs.Values.{HasTagsBelow, HaveTagsBelow}

-- one member more
pub map-copies : {A : Type 0} (f g : Expr → A) (i : ℕ) (members copies after : List Expr) (item copy : Expr) → i < length members → item ≡ get_or members i item
    → after ≡ copies ++ copy ∷ [] → f copy ≡ g item → map f copies ≡ map g (take i members)
    → map f after ≡ map g (take (suc i) members)
map-copies f g i members copies after item copy lt is pushed same before =
    ap (map f) pushed ∙ map-append f copies (copy ∷ [])
    ∙ ap₂ (λ a b. a ++ b ∷ []) before (same ∙ ap g is)
    ∙ sym (map-append g (take i members) (get_or members i item ∷ []))
    ∙ ap (map g) (sym (take-suc members i item lt))

-- members one by one
shifted_all-members : (by groups : ℕ) (members : List Expr)
    → members_of (map (λ (member : Expr). shifted by groups (term_of 0 member)) members)
    ≡ shifted_all by groups (members_of (map (term_of 0) members))
shifted_all-members by groups [] = refl
shifted_all-members by groups (member ∷ members) =
    ap (cons (shifted by groups (term_of 0 member))) (shifted_all-members by groups members)

pub member_below : (first bound i : ℕ) (members : List Expr) (item : Expr) → HaveTagsBelow first bound (members_of (map (term_of 0) members)) → i < length members
    → item ≡ get_or members i item → HasTagsBelow first bound (term_of 0 item)
member_below first bound i [] item below lt is = absurd (omega (arith, lt))
member_below first bound zero (one ∷ members) item below lt is = subst (λ e. HasTagsBelow first bound (term_of 0 e)) (sym is) below.0
member_below first bound (suc i) (one ∷ members) item below lt is = member_below first bound i members item below.1 (omega (arith, lt)) is

-- expressions that hold copies in the same way are copies
module _ (by groups : ℕ) where
  pub cat-copies : (copies members : Vec Expr Global)
      → map (term_of 0) copies.items ≡ map (λ (member : Expr). shifted by groups (term_of 0 member)) members.items
      → term_of 0 (Cat copies) ≡ shifted by groups (term_of 0 (Cat members))
  cat-copies copies members same =
      term_of-cat 0 copies ∙ ap (λ terms. cat (members_of terms)) same ∙ ap cat (shifted_all-members by groups members.items)
      ∙ ap (shifted by groups) (sym (term_of-cat 0 members))

  pub alt-copies : (copies members : Vec Expr Global)
      → map (term_of 0) copies.items ≡ map (λ (member : Expr). shifted by groups (term_of 0 member)) members.items
      → term_of 0 (Alt copies) ≡ shifted by groups (term_of 0 (Alt members))
  alt-copies copies members same =
      term_of-alt 0 copies ∙ ap (λ terms. alt (members_of terms)) same ∙ ap alt (shifted_all-members by groups members.items)
      ∙ ap (shifted by groups) (sym (term_of-alt 0 members))

  pub rep-copies : (copy body : Box Expr Global) (low : ℕ) (high : Option ℕ) → term_of 0 copy.value ≡ shifted by groups (term_of 0 body.value)
      → term_of 0 (Rep copy low high) ≡ shifted by groups (term_of 0 (Rep body low high))
  rep-copies copy body low high same =
      term_of-rep 0 copy low high ∙ ap (λ e. repeat e low high) same ∙ ap (shifted by groups) (sym (term_of-rep 0 body low high))

  pub group-copies : (copy body : Box Expr Global) (number : ℕ) → term_of 0 copy.value ≡ shifted by groups (term_of 0 body.value)
      → term_of 0 (Group (number + groups) copy) ≡ shifted by groups (term_of 0 (Group number body))
  group-copies copy body number same =
      let opening : 0 + 2 * (number + groups) ≡ 0 + 2 * number + 2 * groups = omega arith in
      let closing : 0 + 2 * (number + groups) + 1 ≡ 0 + 2 * number + 1 + 2 * groups = omega arith in
      term_of-group 0 (number + groups) copy
      ∙ ap₂ (λ a b. group a b (term_of 0 copy.value)) opening closing
      ∙ ap (group (0 + 2 * number + 2 * groups) (0 + 2 * number + 1 + 2 * groups)) same
      ∙ ap (shifted by groups) (sym (term_of-group 0 number body))

-- what stands in an expression has lesser tags, too
pub cat-below : (first bound : ℕ) (members : Vec Expr Global) → HasTagsBelow first bound (term_of 0 (Cat members))
    → HaveTagsBelow first bound (members_of (map (term_of 0) members.items))
cat-below first bound members below = subst (HasTagsBelow first bound) (term_of-cat 0 members) below

pub alt-below : (first bound : ℕ) (members : Vec Expr Global) → HasTagsBelow first bound (term_of 0 (Alt members))
    → HaveTagsBelow first bound (members_of (map (term_of 0) members.items))
alt-below first bound members below = subst (HasTagsBelow first bound) (term_of-alt 0 members) below

pub rep-below : (first bound : ℕ) (body : Box Expr Global) (low : ℕ) (high : Option ℕ) → HasTagsBelow first bound (term_of 0 (Rep body low high))
    → HasTagsBelow first bound (term_of 0 body.value)
rep-below first bound body low high below = subst (HasTagsBelow first bound) (term_of-rep 0 body low high) below

-- and a group has its number
pub group-below : (first bound number : ℕ) (body : Box Expr Global) → HasTagsBelow first bound (term_of 0 (Group number body))
    → (first ≤ number) × (2 * number ≤ bound) × HasTagsBelow first bound (term_of 0 body.value)
group-below first bound number body below =
    let is = subst (HasTagsBelow first bound) (term_of-group 0 number body) below in
    (omega (arith, is.0), omega (arith, is.1), is.2)

-- what stands in a copy may be a copy with its size
module _ (groups : ℕ) where
  pub cat-sized : (members : Vec Expr Global) → (groups ≡ 0) ⊎ HasTagsBelow 1 128 (term_of 0 (Cat members))
      → (groups ≡ 0) ⊎ HaveTagsBelow 1 128 (members_of (map (term_of 0) members.items))
  cat-sized members (inl none) = inl none
  cat-sized members (inr below) = inr (cat-below 1 128 members below)

  pub alt-sized : (members : Vec Expr Global) → (groups ≡ 0) ⊎ HasTagsBelow 1 128 (term_of 0 (Alt members))
      → (groups ≡ 0) ⊎ HaveTagsBelow 1 128 (members_of (map (term_of 0) members.items))
  alt-sized members (inl none) = inl none
  alt-sized members (inr below) = inr (alt-below 1 128 members below)

  pub rep-sized : (body : Box Expr Global) (low : ℕ) (high : Option ℕ) → (groups ≡ 0) ⊎ HasTagsBelow 1 128 (term_of 0 (Rep body low high))
      → (groups ≡ 0) ⊎ HasTagsBelow 1 128 (term_of 0 body.value)
  rep-sized body low high (inl none) = inl none
  rep-sized body low high (inr below) = inr (rep-below 1 128 body low high below)

  pub group-sized : (number : ℕ) (body : Box Expr Global) → (groups ≡ 0) ⊎ HasTagsBelow 1 128 (term_of 0 (Group number body))
      → ((groups ≡ 0) ⊎ (1 ≤ number)) × ((groups ≡ 0) ⊎ HasTagsBelow 1 128 (term_of 0 body.value))
  group-sized number body (inl none) = (inl none, inl none)
  group-sized number body (inr below) =
      let is = group-below 1 128 number body below in (inr is.0, inr is.2)

  pub member-sized : (place : ℕ) (members : List Expr) (item : Expr) → (groups ≡ 0) ⊎ HaveTagsBelow 1 128 (members_of (map (term_of 0) members))
      → place < length members → item ≡ get_or members place item → (groups ≡ 0) ⊎ HasTagsBelow 1 128 (term_of 0 item)
  member-sized place members item (inl none) lt is = inl none
  member-sized place members item (inr below) lt is = inr (member_below 1 128 place members item below lt is)
