-- The items of a generated source.
use Rattle.std.proofs.Common.{◌≡◌, ◌∙◌, ℕ, zero, suc, ◌+◌, List, [], ◌∷◌, length, Some, None, refl, sym, ap, subst, arith}
use Rattle.lx_base.specs.declared.blocks.BlockKind.TheVariants as block
use Rattle.lx_base.specs.declared.places.Pos.{Pos}
use Rattle.lx_forms.specs.Lexemes.{lexeme_of, lexemes_of, sort_at, sorts_at}
use Rattle.lx_parse.specs.Blocks.{IsBody, form_of}
use Rattle.lx_parse.specs.Expressions.{alt, post, Reads, sign, bare, repeated, first_post, next_post, first_cat, first_diff}
use Rattle.lx_parse.specs.Items.{ReadsItem, ReadsItems, any, code, configure, next_item, no_item, no_list, place, plain, rule}
use Rattle.lx_parse.specs.Sorts.{sorts_of}
use Rattle.lx_parse.specs.declared.items.Item.{Item}
use Rattle.lx_parse.specs.declared.items.Item.TheVariants.{Configure, Rule}
use Rattle.lx_parse.specs.declared.sorts.Sort.{Sort}
use Rattle.lx_parse.specs.declared.sorts.Sort.TheVariants.{Bounds, Class, Code, Config, Equals, Number, Plus, Semicolon, Star, Str}
use Rattle.lx_source.proofs.SourceLexemes.{behind_line, last_lexemes, lines_lexemes, source_body, source_lexemes}
use Rattle.lx_token.specs.declared.list.Token.{Token}

-- ---- the sorts of the tokens

-- the sorts of so many rules and of the last one
abbrev pub rules_sorts : (count : ℕ) → List Sort
rules_sorts zero = Star ∷ Code ∷ []
rules_sorts (suc count) = Str ∷ Bounds ∷ Class ∷ Plus ∷ Code ∷ rules_sorts count

abbrev pub source_sorts : (rules : ℕ) → List Sort
source_sorts rules = Config ∷ Equals ∷ Number ∷ Semicolon ∷ rules_sorts rules

sorts_at-lines : (number count : ℕ) (at : Pos) → sorts_at (lines_lexemes number count at last_lexemes) ≡ rules_sorts count
sorts_at-lines number zero at = refl
sorts_at-lines number (suc count) at =
    ap (λ (l : List Sort). Str ∷ Bounds ∷ Class ∷ Plus ∷ Code ∷ l) (sorts_at-lines (suc number) count (behind_line number at))

sorts_of-lexemes : (body : List ℕ) (tokens : List Token) → sorts_of block.Code body tokens ≡ sorts_at (lexemes_of body tokens)
sorts_of-lexemes body [] = refl
sorts_of-lexemes body (token ∷ tokens) = ap (λ (l : List Sort). sort_at (lexeme_of body token) ∷ l) (sorts_of-lexemes body tokens)

-- ---- the items

-- the items of so many rules and of the last one, of which the first begins at a place
abbrev pub rules_items : (from count : ℕ) → List Item
rules_items from zero = Rule from from None (from + 1) None (Some (from + 1)) ∷ []
rules_items from (suc count) = Rule from from None (from + 4) None (Some (from + 4)) ∷ rules_items (from + 5) count

abbrev pub source_items : (rules : ℕ) → List Item
source_items rules = Configure 0 2 ∷ rules_items 4 rules

-- a word with its bounds, and a class once or more
expression-read : (rest : List Sort) → Reads alt (Str ∷ Bounds ∷ Class ∷ Plus ∷ rest) rest
expression-read rest =
    let text = Str ∷ Bounds ∷ Class ∷ Plus ∷ rest in
    let behind = Class ∷ Plus ∷ rest in
    let word : Reads post text behind = repeated text behind Bounds (bare text (Bounds ∷ behind) (sign Str (Bounds ∷ behind) refl)) refl in
    let digits : Reads post behind rest = repeated behind rest Plus (bare behind (Plus ∷ rest) (sign Class (Plus ∷ rest) refl)) refl in
    first_diff text rest (first_cat text rest (next_post text behind rest (first_post text behind word) digits))

module _ (size from : ℕ) where
  -- a rule of five tokens
  rule-read : (rest : List Sort) → size ≡ from + 5 + length rest
      → ReadsItem size (Rule from from None (from + 4) None (Some (from + 4))) (Str ∷ Bounds ∷ Class ∷ Plus ∷ Code ∷ rest) rest
  rule-read rest is =
      let text = Str ∷ Bounds ∷ Class ∷ Plus ∷ Code ∷ rest in
      let begins : place size text ≡ from = omega arith in
      let acts : place size (Code ∷ rest) ≡ from + 4 = omega arith in
      let same : Rule (place size text) (place size text) None (place size (Code ∷ rest)) None (Some (place size (Code ∷ rest)))
      ≡ Rule from from None (from + 4) None (Some (from + 4)) = cc in
      subst (λ (i : Item). ReadsItem size i text rest) same
      (rule None None (Some (place size (Code ∷ rest))) text text (Code ∷ rest) rest (no_list text)
      (plain text (Code ∷ rest) (expression-read (Code ∷ rest))) (code rest))

  -- the last rule
  last-read : size ≡ from + 2 → ReadsItem size (Rule from from None (from + 1) None (Some (from + 1))) (Star ∷ Code ∷ []) []
  last-read is =
      let text = Star ∷ Code ∷ [] in
      let begins : place size text ≡ from = omega arith in
      let acts : place size (Code ∷ []) ≡ from + 1 = omega arith in
      let same : Rule (place size text) (place size text) None (place size (Code ∷ [])) None (Some (place size (Code ∷ [])))
      ≡ Rule from from None (from + 1) None (Some (from + 1)) = cc in
      subst (λ (i : Item). ReadsItem size i text []) same
      (rule None None (Some (place size (Code ∷ []))) text text (Code ∷ []) [] (no_list text) (any (Code ∷ [])) (code []))

rules-read : (size from count : ℕ) → size ≡ from + length (rules_sorts count) → ReadsItems size (rules_items from count) (rules_sorts count)
rules-read size from zero is = next_item _ _ _ _ (last-read size from is) no_item
rules-read size from (suc count) is =
    next_item _ _ _ _ (rule-read size from (rules_sorts count) (omega arith)) (rules-read size (from + 5) count (omega arith))

source-read : (rules : ℕ) → IsBody (form_of block.Code) (source_sorts rules) (source_items rules)
source-read rules =
    let size = length (source_sorts rules) in
    let rest = rules_sorts rules in
    let text = Config ∷ Equals ∷ Number ∷ Semicolon ∷ rest in
    let name : place size text ≡ 0 = omega arith in
    let value : place size (Number ∷ Semicolon ∷ rest) ≡ 2 = omega arith in
    let same : Configure (place size text) (place size (Number ∷ Semicolon ∷ rest)) ≡ Configure 0 2 = cc in
    next_item _ _ _ _ (subst (λ (i : Item). ReadsItem size i text rest) same (configure Number rest refl)) (rules-read size 4 rules (omega arith))

pub source-items : (rules : ℕ) (start : Pos) (tokens : List Token) → lexemes_of (source_body rules) tokens ≡ source_lexemes rules start
    → IsBody (form_of block.Code) (sorts_of block.Code (source_body rules) tokens) (source_items rules)
source-items rules start tokens are =
    let same : sorts_of block.Code (source_body rules) tokens ≡ source_sorts rules =
    sorts_of-lexemes (source_body rules) tokens ∙ ap sorts_at are
    ∙ ap (λ (l : List Sort). Config ∷ Equals ∷ Number ∷ Semicolon ∷ l) (sorts_at-lines 1 rules _) in
    subst (λ (l : List Sort). IsBody (form_of block.Code) l (source_items rules)) (sym same) (source-read rules)
