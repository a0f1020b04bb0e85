-- The lists of rules have names, or `*` alone; and each rule has an action or a target.
use Rattle.std.proofs.Common.{◌≡◌, ℕ, suc, ◌+◌, ◌-◌, ◌⊎◌, inl, inr, Bool, true, false, List, [], ◌∷◌, ◌++◌, length, take, drop, Option, None, Ok, refl, sym, ap, ◌∙◌, subst, arith, length-append, append_assoc}
use Rattle.std.specs.Prelude.{if◌then◌else◌}
use Rattle.std.specs.List.{AllByRecursion}
use Rattle.std.proofs.lemmas.List.{drop-map}
use Rattle.lx_base.specs.Letters.{IsIdentifier}
use Rattle.lx_base.specs.declared.blocks.BlockKind.TheVariants.{Code}
use Rattle.lx_base.specs.declared.places.Pos.{Pos}
use Rattle.lx_parse.specs.Blocks.{IsBody, form_of}
use Rattle.lx_parse.specs.Items.{place, ReadsNames, first_name, next_name, ReadsList, no_list, all_conditions, conditions, ReadsAction, code, code_and_target, target, ReadsItem, define, configure, rule, ReadsItems, no_item, next_item}
use Rattle.lx_parse.specs.Sorts.{sorts_of}
use Rattle.lx_parse.specs.declared.items.Item.{Item}
use Rattle.lx_parse.specs.declared.items.Item.TheVariants.{Rule}
use Rattle.lx_parse.specs.declared.sorts.Sort.{Sort}
use Rattle.lx_parse.specs.declared.sorts.Sort.TheVariants.{Name, Star, Comma, Less, Greater}
use Rattle.lx_parse.proofs.Behind.{IsBehind, behind_next, behind_shorter, behind_trans, drop-place, here, item_behind}
use Rattle.lx_token.specs.Tokens.{tokens_of}
use Rattle.lx_token.specs.declared.list.Token.{Token}
use Rattle.lx_forms.specs.Lexemes.{Lexeme, lexemes_of, sort_at, sorts_at}
use Rattle.lx_rules.specs.Conditions.{AreListed, EachHasConds, HasConds, IsListed}
use Rattle.lx_rules.specs.Lists.{is_comma, listed_words, words_of}
use Rattle.lx_rules.proofs.Blocks.ItemRuns.{sorts_of-lexemes}
use Rattle.lx_rules.proofs.Rules.RuleNumbers.{all_both, all_drop}
use Rattle.lx_rules.proofs.Spellings.TokenTexts.{IsWord, tokens_of-words}

abbrev IsNameOrComma : Sort → Type 0
IsNameOrComma sort = (sort ≡ Name) ⊎ (sort ≡ Comma)

-- in front of what stands behind names there are names and commas
names_front : (text rest : List Sort) → ReadsNames text rest → (front : List Sort) × (text ≡ front ++ rest) × AllByRecursion IsNameOrComma front
names_front text rest (first_name _) = (Name ∷ [], refl, (inl refl, tt))
names_front text rest (next_name _ _ read) =
    let found = names_front text (Comma ∷ Name ∷ rest) read in (
      found.0 ++ Comma ∷ Name ∷ [],
      found.1 ∙ sym (append_assoc found.0 (Comma ∷ Name ∷ []) rest),
      all_both IsNameOrComma found.0 (Comma ∷ Name ∷ []) found.2 (inr refl, (inl refl, tt)),
    )

-- the words among them are identifiers
names_listed : (front rest : List Sort) (lexemes : List Lexeme) → sorts_at lexemes ≡ front ++ rest → AllByRecursion IsNameOrComma front
    → AllByRecursion IsWord lexemes → AllByRecursion IsIdentifier (words_of (take (length front) lexemes))
names_listed [] rest lexemes same are words = tt
names_listed (sort ∷ front) rest [] same are words = absurd (let h = same in cc)
names_listed (sort ∷ front) rest (lexeme ∷ lexemes) same are words =
    at (is_comma (sort_at lexeme)) refl are.0 (names_listed front rest lexemes next are.1 words.1)
  where
    first : sort_at lexeme ≡ sort
    first = let h = same in cc

    next : sorts_at lexemes ≡ front ++ rest
    next = let h = same in cc

    at : (b : Bool) → is_comma (sort_at lexeme) ≡ b → IsNameOrComma sort → AllByRecursion IsIdentifier (words_of (take (length front) lexemes))
        → AllByRecursion IsIdentifier (if b then words_of (take (length front) lexemes) else lexeme.text ∷ words_of (take (length front) lexemes))
    at true e is later = later
    at false e (inl name) later = (words.0.name (first ∙ name), later)
    at false e (inr comma) later = absurd (let h : true ≡ false = sym (ap is_comma (first ∙ comma)) ∙ e in cc)

-- `*` is the one word of its list
star_listed : (rest : List Sort) (lexemes : List Lexeme) → sorts_at lexemes ≡ Star ∷ rest → AllByRecursion IsWord lexemes
    → AreListed (words_of (take 1 lexemes))
star_listed rest [] same words = absurd (let h = same in cc)
star_listed rest (lexeme ∷ lexemes) same words =
    let first : sort_at lexeme ≡ Star = let h = same in cc in
    inl (ap (λ (b : Bool). if b then [] else lexeme.text ∷ []) (ap is_comma first) ∙ ap (λ (word : List ℕ). word ∷ []) (words.0.star first))

-- a rule has an action or a target
abbrev pub HasAct : Item → Type 0
HasAct (Rule first head slash until goes coded) = goes ≡ None → coded ≡ None → ⊥
HasAct item = Unit {0}

has_act : (size : ℕ) (goes coded : Option ℕ) (text rest : List Sort) → ReadsAction size goes coded text rest → goes ≡ None → coded ≡ None → ⊥
has_act size goes coded text rest (code _) none bare = let h = bare in cc
has_act size goes coded text rest (code_and_target _) none bare = let h = none in cc
has_act size goes coded text rest (target _) none bare = let h = none in cc

module _ (lexemes : List Lexeme) (words : AllByRecursion IsWord lexemes) where
  abbrev size : ℕ
  size = length (sorts_at lexemes)

  -- what a list holds stands between its signs
  module _ (front head : List Sort) (behind : IsBehind (sorts_at lexemes) (Less ∷ front ++ Greater ∷ head)) where
    abbrev first : ℕ
    first = place size (Less ∷ front ++ Greater ∷ head)

    abbrev inside : List Lexeme
    inside = drop (suc first) lexemes

    inside_sorts : sorts_at inside ≡ front ++ Greater ∷ head
    inside_sorts =
        let less = behind_shorter (sorts_at lexemes) (Less ∷ front ++ Greater ∷ head) behind in
        let next : suc first ≡ place size (front ++ Greater ∷ head) = omega (arith, less) in
        sym (drop-map sort_at (suc first) lexemes) ∙ ap (λ n. drop n (sorts_at lexemes)) next
        ∙ drop-place (sorts_at lexemes) (front ++ Greater ∷ head) (behind_next (sorts_at lexemes) (front ++ Greater ∷ head) Less behind)

    inside_count : place size head - (first + 2) ≡ length front
    inside_count =
        let less = behind_shorter (sorts_at lexemes) (Less ∷ front ++ Greater ∷ head) behind in
        let all = length-append front (Greater ∷ head) in omega (arith, less, all)

    pub listed_inside : listed_words lexemes first (place size head) ≡ words_of (take (length front) inside)
    listed_inside = ap (λ n. words_of (take n inside)) inside_count

    inside_words : AllByRecursion IsWord inside
    inside_words = all_drop IsWord (suc first) lexemes words

    names_inside : AllByRecursion IsNameOrComma front → AreListed (listed_words lexemes first (place size head))
    names_inside are = inr (subst (AllByRecursion IsIdentifier) (sym listed_inside) (names_listed front (Greater ∷ head) inside inside_sorts are inside_words))

  has_list : (text head : List Sort) → IsBehind (sorts_at lexemes) text → ReadsList text head
      → IsListed lexemes (place size text) (place size head)
  has_list text head behind (no_list _) = inl refl
  has_list text head behind (all_conditions _) =
      inr (subst AreListed (sym (listed_inside (Star ∷ []) head behind))
      (star_listed (Greater ∷ head) (inside (Star ∷ []) head behind) (inside_sorts (Star ∷ []) head behind) (inside_words (Star ∷ []) head behind)))
  has_list text head behind (conditions inner _ read) =
      let found = names_front inner (Greater ∷ head) read in
      let stands = subst (λ (l : List Sort). IsBehind (sorts_at lexemes) (Less ∷ l)) found.1 behind in
      inr (subst (λ (l : List Sort). AreListed (listed_words lexemes (place size (Less ∷ l)) (place size head))) (sym found.1)
      (names_inside found.0 head stands found.2))

  has_conds : (item : Item) (text rest : List Sort) → IsBehind (sorts_at lexemes) text → ReadsItem size item text rest → HasConds lexemes item × HasAct item
  has_conds item text rest behind (define inner _ read) = (tt, tt)
  has_conds item text rest behind (configure value _ is) = (tt, tt)
  has_conds item text rest behind (rule slash goes coded _ head action _ list read last) =
      (has_list text head behind list, has_act size goes coded action rest last)

  -- each item
  each_has : (items : List Item) (text : List Sort) → IsBehind (sorts_at lexemes) text → ReadsItems size items text
      → EachHasConds lexemes items × AllByRecursion HasAct items
  each_has items text behind no_item = (tt, tt)
  each_has items text behind (next_item item others _ rest read more) =
      let one = has_conds item text rest behind read in
      let last = each_has others rest (behind_trans (sorts_at lexemes) text rest behind (item_behind size item text rest read)) more in
      ((one.0, last.0), (one.1, last.1))

-- the items of a body have such lists and actions
pub body_lists : (body : List ℕ) (start : Pos) (tokens : List Token) (items : List Item) → tokens_of body start ≡ Ok tokens
    → IsBody (form_of Code) (sorts_of Code body tokens) items
    → EachHasConds (lexemes_of body tokens) items × AllByRecursion HasAct items
body_lists body start tokens items are read =
    let lexemes = lexemes_of body tokens in
    each_has lexemes (tokens_of-words body start tokens are) items (sorts_at lexemes) (here (sorts_at lexemes))
    (subst (λ sorts. ReadsItems (length sorts) items sorts) (sorts_of-lexemes body tokens) read)
