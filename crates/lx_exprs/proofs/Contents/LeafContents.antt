-- What is kept of tokens that are no signs between others.
use Rattle.std.proofs.Common.{◌≡◌, ℕ, suc, ◌+◌, ◌≤◌, ◌<◌, arith, Bool, true, false, List, [], ◌∷◌, ◌++◌, get_or, Option, None, Some, length, map, take, refl, sym, ap, ap₂, ◌∙◌}
use Rattle.std.proofs.Math.Seq.{take-suc}
use Rattle.std.proofs.lemmas.List.{map_push}
use Rattle.std.specs.Prelude.{nat_le, ◌&&◌}
use Rattle.lx_class.specs.declared.ranges.Range.{Range}
use Rattle.lx_regex.specs.Term.{cat}
use Rattle.lx_regex.specs.Expr.{members_of}
use Rattle.lx_regex.specs.declared.expr.Expr.{Expr}
use Rattle.lx_exprs.specs.declared.values.Room.{Room}
use Rattle.lx_exprs.specs.Defined.{fits}
use Rattle.lx_exprs.specs.Meanings.{set_term, string_term}
use Rattle.lx_exprs.specs.FitDefinitions.{FitsKept}
use Rattle.lx_exprs.specs.Values.{HaveTagsBelow, IsRoom}

-- one thing more for the next of some items
pub map-taken : {X Y Z : Type 0} (f : X → Z) (g : Y → Z) (done after : List X) (one : X) (items : List Y) (i : ℕ) (default : Y) → i < length items
    → after ≡ done ++ one ∷ [] → f one ≡ g (get_or items i default) → map f done ≡ map g (take i items) → map f after ≡ map g (take (i + 1) items)
map-taken f g done after one items i default lt pushed same before =
    let next : i + 1 ≡ suc i = omega arith in
    ap (map f) pushed ∙ map_push f done one ∙ ap₂ (λ terms term. terms ++ term ∷ []) before same ∙ sym (map_push g (take i items) (get_or items i default))
    ∙ ap (map g) (sym (take-suc items i default lt)) ∙ ap (λ k. map g (take k items)) (sym next)

-- two characters or more are a sequence
pub string_term-many : (sets : List (List Range)) → 2 ≤ length sets → string_term sets ≡ cat (members_of (map set_term sets))
string_term-many [] many = absurd (omega (arith, many))
string_term-many (set ∷ []) many = absurd (omega (arith, many))
string_term-many (set ∷ next ∷ sets) many = refl

-- which has no tags
pub set_terms-below : (bound : ℕ) (sets : List (List Range)) → HaveTagsBelow 1 bound (members_of (map set_term sets))
set_terms-below bound [] = tt
set_terms-below bound (set ∷ sets) = (tt, set_terms-below bound sets)

-- what is kept of a definition counts
pub size-some : (first : ℕ) (expr : Option Expr) (size count : ℕ) → FitsKept first expr size count → 1 ≤ size
size-some first None size count fits = fits
size-some first (Some expr) size count fits = fits.0

-- what is past the limits of a scanner fits into no room
module _ (room : Room) (is_room : IsRoom room) (size nesting count : ℕ) where
  pub fits-great : 4096 + 1 ≤ size → fits room size nesting count ≡ false
  fits-great great =
      let most = is_room.0 in
      let over : nat_le size room.size ≡ false = search (arith, great, most) in rw over refl

  pub fits-tagged : 128 + 1 ≤ count → fits room size nesting count ≡ false
  fits-tagged great =
      let most = is_room.1 in
      let over : nat_le count room.tags ≡ false = search (arith, great, most) in
      rw over (falls (nat_le size room.size) (nat_le nesting 256))
    where
      falls : (first second : Bool) → (first && (second && false)) ≡ false
      falls true true = refl
      falls true false = refl
      falls false second = refl
