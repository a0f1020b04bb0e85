-- The expressions of items stand where their numbers say.
use Rattle.std.proofs.Common.{◌≡◌, ℕ, suc, inl, inr, List, ◌∷◌, length, Option, subst, arith}
use Rattle.lx_parse.specs.declared.items.Item.{Item}
use Rattle.lx_parse.specs.declared.items.Item.TheVariants.{Rule}
use Rattle.lx_parse.specs.declared.forms.Form.{Form}
use Rattle.lx_parse.specs.declared.forms.Form.TheVariants as forms
use Rattle.lx_parse.specs.declared.sorts.Sort.{Sort}
use Rattle.lx_parse.specs.declared.sorts.Sort.TheVariants.{Slash, Star, Dollar, Semicolon}
use Rattle.lx_parse.specs.Expressions.{Part, alt, Reads}
use Rattle.lx_parse.specs.Items.{place, ReadsHead, plain, trailing, any, end, ReadsItem, define, configure, rule, ReadsItems, no_item, next_item, ReadsSeparator, no_separator, separator, ReadsTexts, format, nothing}
use Rattle.lx_parse.specs.Blocks.{IsBody}
use Rattle.lx_parse.specs.Ranges.{IsPart, Stands, HasExpressions, EachHasExpressions}
use Rattle.lx_parse.proofs.Behind.{IsBehind, here, behind_trans, behind_next, behind_shorter, drop-place, reads_behind, list_behind, item_behind}

module _ (sorts : List Sort) where
  is_part : (part : Part) (text rest : List Sort) → IsBehind sorts text → Reads part text rest
      → IsPart sorts part (place (length sorts) text) (place (length sorts) rest)
  is_part part text rest behind read =
      let last = behind_trans sorts text rest behind (reads_behind part text rest read) in
      let less = behind_shorter text rest (reads_behind part text rest read) in record {
        in_order = omega arith;
        within = omega arith;
        reads = rw (drop-place sorts text behind, drop-place sorts rest last) read;
      }

  stands : (sort : Sort) (rest : List Sort) → IsBehind sorts (sort ∷ rest) → Stands sorts sort (place (length sorts) (sort ∷ rest))
  stands sort rest behind = record { rest = rest; is = drop-place sorts (sort ∷ rest) behind }

  place_next : (sort : Sort) (rest : List Sort) → IsBehind sorts (sort ∷ rest) → place (length sorts) rest ≡ suc (place (length sorts) (sort ∷ rest))
  place_next sort rest behind = let less = behind_shorter sorts (sort ∷ rest) behind in omega arith

  has_head : (first : ℕ) (slash goes coded : Option ℕ) (head rest : List Sort) → IsBehind sorts head → ReadsHead (length sorts) slash head rest
      → HasExpressions sorts (Rule first (place (length sorts) head) slash (place (length sorts) rest) goes coded)
  has_head first slash goes coded head rest behind (plain _ _ read) = inl (is_part alt head rest behind read)
  has_head first slash goes coded head rest behind (trailing _ middle _ read more) =
      let at_slash = behind_trans sorts head (Slash ∷ middle) behind (reads_behind alt head (Slash ∷ middle) read) in (
        is_part alt head (Slash ∷ middle) behind read,
        subst (λ from. IsPart sorts alt from (place (length sorts) rest)) (place_next Slash middle at_slash)
            (is_part alt middle rest (behind_next sorts middle Slash at_slash) more),
      )
  has_head first slash goes coded head rest behind (any _) = inr (record { one = place_next Star rest behind; stands = inl (stands Star rest behind) })
  has_head first slash goes coded head rest behind (end _) = inr (record { one = place_next Dollar rest behind; stands = inr (stands Dollar rest behind) })

  has_expressions : (item : Item) (text rest : List Sort) → IsBehind sorts text → ReadsItem (length sorts) item text rest → HasExpressions sorts item
  has_expressions item text rest behind (define inner _ read) =
      is_part alt inner (Semicolon ∷ rest) (behind_next sorts inner _ (behind_next sorts (_ ∷ inner) _ behind)) read
  has_expressions item text rest behind (configure value _ is) = tt
  has_expressions item text rest behind (rule slash goes coded _ head stop _ list read last) =
      has_head (place (length sorts) text) slash goes coded head stop (behind_trans sorts text head behind (list_behind text head list)) read

  each_has : (items : List Item) (text : List Sort) → IsBehind sorts text → ReadsItems (length sorts) items text → EachHasExpressions sorts items
  each_has items text behind no_item = tt
  each_has items text behind (next_item item others _ rest read more) = (
    has_expressions item text rest behind read,
    each_has others rest (behind_trans sorts text rest behind (item_behind (length sorts) item text rest read)) more,
  )

  separator_has : (items : List Item) (text : List Sort) → ReadsSeparator (length sorts) items text → EachHasExpressions sorts items
  separator_has items text no_separator = tt
  separator_has items text (separator value is) = (tt, tt)

  texts_have : (items : List Item) (text : List Sort) → ReadsTexts (length sorts) items text → EachHasExpressions sorts items
  texts_have items text (format others value rest is read) = (tt, separator_has others rest read)

-- the expressions of a body's items stand where their numbers say
pub body_has : (form : Form) (sorts : List Sort) (items : List Item) → IsBody form sorts items → EachHasExpressions sorts items
body_has forms.Items sorts items body = each_has sorts items sorts (here sorts) body
body_has forms.Format sorts items body = texts_have sorts items sorts body
body_has forms.Separator sorts items body = separator_has sorts items sorts body
body_has forms.Nothing sorts items nothing = tt
