-- The places that items name are those of tokens.
use Rattle.std.proofs.Common.{ℕ, ◌<◌, List, ◌∷◌, length, Option, arith}
use Rattle.std.specs.Prelude.{IfSome}
use Rattle.lx_parse.specs.declared.items.Item.{Item}
use Rattle.lx_parse.specs.declared.forms.Form.{Form}
use Rattle.lx_parse.specs.declared.forms.Form.TheVariants as forms
use Rattle.lx_parse.specs.declared.sorts.Sort.{Sort}
use Rattle.lx_parse.specs.declared.sorts.Sort.TheVariants.{Bar, Backslash, Close, Semicolon, Slash}
use Rattle.lx_parse.specs.Expressions.{Part, alt, Reads, sign, group, bare, repeated, first_post, next_post, first_cat, next_cat, first_diff, next_diff}
use Rattle.lx_parse.specs.Items.{place, ReadsHead, plain, trailing, any, end, ReadsAction, code, code_and_target, target, ReadsItem, define, configure, rule, ReadsItems, no_item, next_item, ReadsSeparator, no_separator, separator, ReadsTexts, format, nothing}
use Rattle.lx_parse.specs.Blocks.{IsBody}
use Rattle.lx_parse.specs.Places.{EachHasPlaces, HasPlaces}
use Rattle.lx_parse.proofs.Behind.{IsBehind, here, behind_trans, behind_next, behind_shorter, reads_behind, list_behind, head_behind, item_behind}

-- each part of an expression has a token
reads_shorter : (part : Part) (text rest : List Sort) → Reads part text rest → length rest < length text
reads_shorter part text rest (sign sort _ is) = omega arith
reads_shorter part text rest (group inner _ read) = let less = reads_shorter alt inner (Close ∷ rest) read in omega arith
reads_shorter part text rest (bare _ _ read) = reads_shorter _ text rest read
reads_shorter part text rest (repeated _ _ sort read is) = let less = reads_shorter _ text (sort ∷ rest) read in omega arith
reads_shorter part text rest (first_post _ _ read) = reads_shorter _ text rest read
reads_shorter part text rest (next_post _ middle _ read more) =
    let less = reads_shorter _ text middle read in
    let last = reads_shorter _ middle rest more in omega arith
reads_shorter part text rest (first_cat _ _ read) = reads_shorter _ text rest read
reads_shorter part text rest (next_cat _ middle _ read more) =
    let less = reads_shorter _ text (Backslash ∷ middle) read in
    let last = reads_shorter _ middle rest more in omega arith
reads_shorter part text rest (first_diff _ _ read) = reads_shorter _ text rest read
reads_shorter part text rest (next_diff _ middle _ read more) =
    let less = reads_shorter _ text (Bar ∷ middle) read in
    let last = reads_shorter _ middle rest more in omega arith

-- so has each head, and what stands behind it
head_shorter : (size : ℕ) (slash : Option ℕ) (text rest : List Sort) → ReadsHead size slash text rest → length rest < length text
head_shorter size slash text rest (plain _ _ read) = reads_shorter alt text rest read
head_shorter size slash text rest (trailing _ middle _ read more) =
    let less = reads_shorter alt text (Slash ∷ middle) read in
    let last = reads_shorter alt middle rest more in omega arith
head_shorter size slash text rest (any _) = omega arith
head_shorter size slash text rest (end _) = omega arith

action_shorter : (size : ℕ) (goes coded : Option ℕ) (text rest : List Sort) → ReadsAction size goes coded text rest → length rest < length text
action_shorter size goes coded text rest (code _) = omega arith
action_shorter size goes coded text rest (code_and_target _) = omega arith
action_shorter size goes coded text rest (target _) = omega arith

module _ (sorts : List Sort) where
  -- where something is left there is a token
  token_at : (text : List Sort) → IsBehind sorts text → 0 < length text → place (length sorts) text < length sorts
  token_at text behind some = let less = behind_shorter sorts text behind in omega arith

  slash_at : (slash : Option ℕ) (head rest : List Sort) → IsBehind sorts head → ReadsHead (length sorts) slash head rest
      → IfSome slash (λ place. place < length sorts)
  slash_at slash head rest behind (plain _ _ read) = tt
  slash_at slash head rest behind (trailing _ middle _ read more) =
      token_at (Slash ∷ middle) (behind_trans sorts head (Slash ∷ middle) behind (reads_behind alt head (Slash ∷ middle) read)) (omega arith)
  slash_at slash head rest behind (any _) = tt
  slash_at slash head rest behind (end _) = tt

  goes_at : (goes coded : Option ℕ) (text rest : List Sort) → IsBehind sorts text → ReadsAction (length sorts) goes coded text rest
      → IfSome goes (λ place. (0 < place) × (place < length sorts))
  goes_at goes coded text rest behind (code _) = tt
  goes_at goes coded text rest behind (code_and_target _) = let less = behind_shorter sorts text behind in (omega arith, omega arith)
  goes_at goes coded text rest behind (target _) = let less = behind_shorter sorts text behind in (omega arith, omega arith)

  code_at : (goes coded : Option ℕ) (text rest : List Sort) → IsBehind sorts text → ReadsAction (length sorts) goes coded text rest
      → IfSome coded (λ place. place < length sorts)
  code_at goes coded text rest behind (code _) = let less = behind_shorter sorts text behind in omega arith
  code_at goes coded text rest behind (code_and_target _) = let less = behind_shorter sorts text behind in omega arith
  code_at goes coded text rest behind (target _) = tt

  has_places : (item : Item) (text rest : List Sort) → IsBehind sorts text → ReadsItem (length sorts) item text rest → HasPlaces (length sorts) item
  has_places item text rest behind (define inner _ read) =
      let less = behind_shorter sorts text behind in
      let some = reads_shorter alt inner (Semicolon ∷ rest) read in (omega arith, omega arith, omega arith)
  has_places item text rest behind (configure value _ is) = let less = behind_shorter sorts text behind in (omega arith, omega arith)
  has_places item text rest behind (rule slash goes coded _ head stop _ list read last) =
      let at_head = behind_trans sorts text head behind (list_behind text head list) in
      let at_stop = behind_trans sorts head stop at_head (head_behind (length sorts) slash head stop read) in
      let longer = behind_shorter text head (list_behind text head list) in
      let some = head_shorter (length sorts) slash head stop read in
      let more = action_shorter (length sorts) goes coded stop rest last in (
        token_at text behind (omega arith),
        token_at head at_head (omega arith),
        slash_at slash head stop at_head read,
        token_at stop at_stop (omega arith),
        goes_at goes coded stop rest at_stop last,
        code_at goes coded stop rest at_stop last,
      )

  each_has : (items : List Item) (text : List Sort) → IsBehind sorts text → ReadsItems (length sorts) items text → EachHasPlaces (length sorts) items
  each_has items text behind no_item = tt
  each_has items text behind (next_item item others _ rest read more) = (
    has_places item text rest behind read,
    each_has others rest (behind_trans sorts text rest behind (item_behind (length sorts) item text rest read)) more,
  )

  separator_has : (items : List Item) (text : List Sort) → IsBehind sorts text → ReadsSeparator (length sorts) items text
      → EachHasPlaces (length sorts) items
  separator_has items text behind no_separator = tt
  separator_has items text behind (separator value is) = let less = behind_shorter sorts text behind in (omega arith, tt)

  texts_have : (items : List Item) (text : List Sort) → IsBehind sorts text → ReadsTexts (length sorts) items text → EachHasPlaces (length sorts) items
  texts_have items text behind (format others value rest is read) =
      let less = behind_shorter sorts text behind in
      let after = behind_next sorts rest Semicolon (behind_next sorts (Semicolon ∷ rest) value
      (behind_next sorts (value ∷ Semicolon ∷ rest) _ (behind_next sorts (_ ∷ value ∷ Semicolon ∷ rest) _ behind))) in
      (omega arith, separator_has others rest after read)

-- the places that a body's items name are those of its tokens
pub body_has_places : (form : Form) (sorts : List Sort) (items : List Item) → IsBody form sorts items → EachHasPlaces (length sorts) items
body_has_places forms.Items sorts items body = each_has sorts items sorts (here sorts) body
body_has_places forms.Format sorts items body = texts_have sorts items sorts (here sorts) body
body_has_places forms.Separator sorts items body = separator_has sorts items sorts (here sorts) body
body_has_places forms.Nothing sorts items nothing = tt
