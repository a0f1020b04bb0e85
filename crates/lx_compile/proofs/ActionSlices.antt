-- No begin mark begins in an action, which begins with a brace: it stands in the body of its block, or in that of an earlier rules block.
use Rattle.std.proofs.Common.{◌≡◌, ℕ, zero, suc, ◌<◌, ◌-◌, ◌∙◌, arith, Bool, true, false, List, [], ◌∷◌, ◌++◌, map, length, take, drop, codes, Option, Some, None, Result, Ok, refl, sym, ap, subst, append_assoc}
use Rattle.std.specs.Prelude.{◌==◌, IfSome, if◌then◌else◌, is_some}
use Rattle.std.specs.List.{AllByRecursion}
use Rattle.std.proofs.lemmas.Bool.{eqb-true}
use Rattle.std.proofs.lemmas.List.{take-append-drop}
use Rattle.lx_base.specs.Letters.{begins_with}
use Rattle.lx_base.specs.declared.blocks.BlockKind.{BlockKind}
use Rattle.lx_base.specs.declared.blocks.BlockKind.TheVariants as block
use Rattle.lx_base.specs.declared.faults.Fault.{Fault}
use Rattle.lx_base.specs.declared.places.Pos.{Pos}
use Rattle.lx_base.specs.declared.settings.Options.{Options}
use Rattle.lx_ccode.specs.Marks.{HasNoBegin}
use Rattle.lx_ccode.proofs.BeginMarks.{HasNoBegin-ends}
use Rattle.lx_parse.specs.Blocks.{IsBody, form_of}
use Rattle.lx_parse.specs.Items.{place, ReadsAction, code, code_and_target, target, ReadsItem, define, configure, rule, ReadsItems, no_item, next_item}
use Rattle.lx_parse.specs.Sorts.{letter_sort, sign_of, sort_of, sorts_of}
use Rattle.lx_parse.specs.declared.items.Item.{Item}
use Rattle.lx_parse.specs.declared.items.Item.TheVariants.{Define, Configure, Rule, Text}
use Rattle.lx_parse.specs.declared.sorts.Sort.{Sort}
use Rattle.lx_parse.specs.declared.sorts.Sort.TheVariants.{Code}
use Rattle.lx_parse.proofs.Behind.{IsBehind, here, behind_next, behind_trans, drop-place, head_behind, item_behind, list_behind}
use Rattle.lx_rules.specs.Blocks.{HasRules, IsResolvedAs, environment_behind, of_scanners, of_use, to_keep}
use Rattle.lx_rules.specs.Environments.{Environment, KeptBlock}
use Rattle.lx_rules.specs.Items.{Goes, IsAfter, State, act_of, ends, first_state, next, refused, state_behind}
use Rattle.lx_rules.specs.Rules.{RuleOf}
use Rattle.lx_forms.specs.Lexemes.{Lexeme, lexeme_of, lexemes_of, nth_lexeme, sort_at}
use Rattle.lx_rules.specs.declared.resolved.Act.{Act}
use Rattle.lx_rules.specs.declared.resolved.Resolved.{Resolved}
use Rattle.lx_rules.specs.declared.resolved.Scanner.{Scanner}
use Rattle.lx_split.specs.Cuts.{HasNoMark}
use Rattle.lx_token.specs.Spans.{AreInOrder, EachStands, Stands}
use Rattle.lx_token.specs.declared.kinds.TokenKind.{TokenKind}
use Rattle.lx_token.specs.declared.kinds.TokenKind.TheVariants as kind
use Rattle.lx_token.specs.declared.list.Token.{Token}
use Rattle.lx_token.specs.Braces.{after_bounds, after_braces, after_code}
use Rattle.lx_token.specs.Rows.{after_token}
use Rattle.lx_token.proofs.Walk.{tokens_stand}
use Rattle.lx_compile.specs.Blocks.{IsBlock, asks, content_of, gives_nothing, resolves}
use Rattle.lx_compile.specs.declared.parts.Content.{Content}
use Rattle.lx_compile.specs.declared.parts.Content.TheVariants.{Asks, Scanners}
use Rattle.lx_compile.proofs.UnmarkedTexts.{HasNoBegin-unmarked, HasNoMark-behind}

-- the text stands in the body, and begins with a brace
record IsAction (body text : List ℕ) : Type 0 where
  before : List ℕ
  behind : List ℕ
  is : body ≡ before ++ (text ++ behind)
  braced : begins_with (codes "{") text ≡ true

-- it begins with a brace, and no begin mark begins in it
abbrev pub IsPlainAction : List ℕ → Type 0
IsPlainAction text = (begins_with (codes "{") text ≡ true) × HasNoBegin text (codes "\n")

-- so do the actions that there are
abbrev pub ArePlainActs : List Act → Type 0
ArePlainActs acts = AllByRecursion (λ (act : Act). IfSome act.code IsPlainAction) acts

-- the body stands in a text without marks
abbrev pub StandsUnmarked : List ℕ → Type 0
StandsUnmarked body = (before after : List ℕ) × HasNoMark (before ++ (body ++ after))

plain_action : (body text : List ℕ) → StandsUnmarked body → IsAction body text → IsPlainAction text
plain_action body text stands is = (
  is.braced,
  HasNoBegin-ends text (is.behind ++ after) (codes "\n") refl (HasNoBegin-unmarked text (is.behind ++ after) (HasNoMark-behind is.before (text ++ (is.behind ++ after)) within)),
)
  where
    after : List ℕ
    after = stands.1

    whole : body ++ after ≡ is.before ++ (text ++ (is.behind ++ after))
    whole = ap (λ (l : List ℕ). l ++ after) is.is ∙ append_assoc is.before (text ++ is.behind) after ∙ ap (λ (l : List ℕ). is.before ++ l) (append_assoc text is.behind after)

    within : HasNoMark (is.before ++ (text ++ (is.behind ++ after)))
    within = subst HasNoMark whole (HasNoMark-behind stands.0 (body ++ after) stands.2)

-- ---- tokens

other_sign : (flag : Bool) (sign rest : Sort) → (sign ≡ Code → ⊥) → (rest ≡ Code → ⊥) → (if flag then sign else rest) ≡ Code → ⊥
other_sign true sign rest first second is = first is
other_sign false sign rest first second is = second is

letter_is_no_code : (letter : ℕ) → letter_sort letter ≡ Code → ⊥
letter_is_no_code letter =
    other_sign (letter == 61) _ _ (λ e. cc) (other_sign (letter == 59) _ _ (λ e. cc) (other_sign (letter == 124) _ _ (λ e. cc)
    (other_sign (letter == 92) _ _ (λ e. cc) (other_sign (letter == 47) _ _ (λ e. cc) (other_sign (letter == 40) _ _ (λ e. cc)
    (other_sign (letter == 41) _ _ (λ e. cc) (other_sign (letter == 42) _ _ (λ e. cc) (other_sign (letter == 43) _ _ (λ e. cc)
    (other_sign (letter == 63) _ _ (λ e. cc) (other_sign (letter == 46) _ _ (λ e. cc) (other_sign (letter == 36) _ _ (λ e. cc)
    (other_sign (letter == 60) _ _ (λ e. cc) (other_sign (letter == 62) _ _ (λ e. cc) (λ e. cc))))))))))))))

sign_is_no_code : (text : List ℕ) → sign_of text ≡ Code → ⊥
sign_is_no_code [] is = cc
sign_is_no_code (letter ∷ text) is =
    other_sign (begins_with (codes ":=>") (letter ∷ text)) _ _ (λ e. cc)
    (other_sign (begins_with (codes "=>") (letter ∷ text)) _ _ (λ e. cc) (letter_is_no_code letter)) is

-- what is an action by its sort is one by its kind
kind_of-code : (sort : TokenKind) (text : List ℕ) → sort_of sort text ≡ Code → sort ≡ kind.Code
kind_of-code kind.Name text is = absurd cc
kind_of-code kind.Config text is = absurd cc
kind_of-code kind.Number text is = absurd cc
kind_of-code kind.Str text is = absurd cc
kind_of-code kind.IStr text is = absurd cc
kind_of-code kind.Class text is = absurd cc
kind_of-code kind.STag text is = absurd cc
kind_of-code kind.MTag text is = absurd cc
kind_of-code kind.Bounds text is = absurd cc
kind_of-code kind.Code text is = refl
kind_of-code kind.Signs text is = absurd (sign_is_no_code text is)

-- what follows an action follows a brace
code_braced : (text rest : List ℕ) (count : ℕ) → after_code text ≡ Some rest → 0 < count → begins_with (codes "{") (take count text) ≡ true
code_braced [] rest count is some = absurd cc
code_braced (letter ∷ text) rest zero is some = absurd (omega (arith, some))
code_braced (letter ∷ text) rest (suc count) is some = by (letter == 123) refl is
  where
    brace : letter ≡ 123 → begins_with (codes "{") (take (suc count) (letter ∷ text)) ≡ true
    brace same = subst (λ (at : ℕ). begins_with (codes "{") (at ∷ take count text) ≡ true) (sym same) refl

    by : (flag : Bool) → (letter == 123) ≡ flag → (if flag then (if is_some (after_bounds (letter ∷ text)) then None else after_braces (length text) 0 text) else None) ≡ Some rest
        → begins_with (codes "{") (take (suc count) (letter ∷ text)) ≡ true
    by true same e = brace (eqb-true letter 123 same)
    by false same e = absurd cc

lexeme_is_action : (body : List ℕ) (start : Pos) (token : Token) → Stands body start token → token.from < token.to → sort_at (lexeme_of body token) ≡ Code
    → IsAction body (lexeme_of body token).text
lexeme_is_action body start token stands some is =
    let kind_is = kind_of-code token.kind (lexeme_of body token).text is in
    let rest : List ℕ = drop token.from body in record {
      before = take token.from body;
      behind = drop (token.to - token.from) rest;
      is = sym (take-append-drop token.from body) ∙ ap (λ (l : List ℕ). take token.from body ++ l) (sym (take-append-drop (token.to - token.from) rest));
      braced = code_braced rest (drop token.to body) (token.to - token.from) (subst (λ (k : TokenKind). after_token k rest ≡ Some (drop token.to body)) kind_is stands.text) (omega (arith, some));
    }

-- the sort at a place is that of an action: so the lexeme there is one
lexeme_at_place : (body : List ℕ) (start : Pos) (from size : ℕ) (tokens : List Token) (place : ℕ) (rest : List Sort) → AreInOrder from size tokens → EachStands body start tokens
    → drop place (sorts_of block.Code body tokens) ≡ Code ∷ rest → IsAction body (nth_lexeme (lexemes_of body tokens) place).text
lexeme_at_place body start from size [] zero rest order stands is = absurd cc
lexeme_at_place body start from size [] (suc place) rest order stands is = absurd cc
lexeme_at_place body start from size (token ∷ tokens) zero rest order stands is =
    lexeme_is_action body start token stands.0 order.1 (let h = is in cc)
lexeme_at_place body start from size (token ∷ tokens) (suc place) rest order stands is =
    lexeme_at_place body start token.to size tokens place rest order.3 stands.1 is

-- ---- items

-- the action of a rule is plain, if it has one
abbrev HasPlainAct : RuleOf → Type 0
HasPlainAct one = IfSome one.act.code IsPlainAction

module _ (options : Options) (lexemes : List Lexeme) where
  -- where an item is a rule with an action, that is plain
  abbrev ItemActs : Item → Type 0
  ItemActs (Rule first head slash until goes coded) = IfSome coded (λ place. IsPlainAction (nth_lexeme lexemes place).text)
  ItemActs _ = Unit {0}

  abbrev EachActs : List Item → Type 0
  EachActs items = AllByRecursion ItemActs items

  -- so do those of all rules so far
  abbrev HaveActs : State → Type 0
  HaveActs state = AllByRecursion HasPlainAct state.rules

  act_has : (number : ℕ) (goes coded : Option ℕ) → IfSome coded (λ place. IsPlainAction (nth_lexeme lexemes place).text)
      → IfSome (act_of options lexemes number goes coded).code IsPlainAction
  act_has number goes (Some coded) acts = acts
  act_has number (Some goes) None acts = tt
  act_has number None None acts = tt

  acts-append : (rules : List RuleOf) (one : RuleOf) → AllByRecursion HasPlainAct rules → HasPlainAct one
      → AllByRecursion HasPlainAct (rules ++ one ∷ [])
  acts-append [] one have has = (has, tt)
  acts-append (first ∷ rules) one have has = (have.0, acts-append rules one have.1 has)

  acts-after : (state : State) (item : Item) (after : State) → IsAfter options lexemes state item after → ItemActs item → HaveActs state
      → HaveActs after
  acts-after state (Define name from until) after is acts have = subst HaveActs (sym is.6) have
  acts-after state (Configure name value) after is acts have = subst HaveActs (sym is.2) have
  acts-after state (Rule first head slash until goes coded) after is acts have =
      subst HaveActs (sym is.3) (acts-append state.rules _ have (act_has (suc (length state.rules)) goes coded acts))
  acts-after state (Text value) after is acts have = subst HaveActs (sym is) have

  acts-goes : {state : State} {items : List Item} {result : Result State Fault} → Goes options lexemes state items result
      → (last : State) → result ≡ Ok last → EachActs items → HaveActs state → HaveActs last
  acts-goes (ends {state = state}) last is acts have = let same : state ≡ last = cc in subst HaveActs same have
  acts-goes (refused fault checks) last is acts have = absurd cc
  acts-goes (next {state = state} {item = item} after checks becomes goes) last is acts have =
      acts-goes goes last is acts.1 (acts-after state item after becomes acts.0 have)

acts-map : (rules : List RuleOf) → AllByRecursion HasPlainAct rules → ArePlainActs (map (λ (rule : RuleOf). rule.act) rules)
acts-map [] have = tt
acts-map (first ∷ rules) have = (have.0, acts-map rules have.1)

-- ---- the items of a body

module _ (options : Options) (body : List ℕ) (start : Pos) (tokens : List Token) (order : AreInOrder 0 (length body) tokens) (stands : EachStands body start tokens)
    (unmarked : StandsUnmarked body) where
  abbrev sorts : List Sort
  sorts = sorts_of block.Code body tokens

  abbrev Acts : Item → Type 0
  Acts = ItemActs options (lexemes_of body tokens)

  code_at : (rest : List Sort) → IsBehind sorts (Code ∷ rest) → IsPlainAction (nth_lexeme (lexemes_of body tokens) (place (length sorts) (Code ∷ rest))).text
  code_at rest behind = plain_action body _ unmarked (lexeme_at_place body start 0 (length body) tokens (place (length sorts) (Code ∷ rest)) rest order stands (drop-place sorts (Code ∷ rest) behind))

  action_acts : (first head until : ℕ) (slash goes coded : Option ℕ) (text rest : List Sort) → IsBehind sorts text → ReadsAction (length sorts) goes coded text rest
      → Acts (Rule first head slash until goes coded)
  action_acts first head until slash goes coded text rest behind (code _) = code_at rest behind
  action_acts first head until slash goes coded text rest behind (code_and_target _) =
      code_at rest (behind_next sorts (Code ∷ rest) _ (behind_next sorts (_ ∷ Code ∷ rest) _ behind))
  action_acts first head until slash goes coded text rest behind (target _) = tt

  item_acts : (item : Item) (text rest : List Sort) → IsBehind sorts text → ReadsItem (length sorts) item text rest → Acts item
  item_acts item text rest behind (define inner _ read) = tt
  item_acts item text rest behind (configure value _ is) = tt
  item_acts item text rest behind (rule slash goes coded _ head stop _ list read last) =
      action_acts (place (length sorts) text) (place (length sorts) head) (place (length sorts) stop) slash goes coded stop rest
      (behind_trans sorts text stop behind (behind_trans text head stop (list_behind text head list) (head_behind (length sorts) slash head stop read))) last

  items_act : (items : List Item) (text : List Sort) → IsBehind sorts text → ReadsItems (length sorts) items text → AllByRecursion Acts items
  items_act items text behind no_item = tt
  items_act items text behind (next_item item others _ rest read more) =
      (item_acts item text rest behind read, items_act others rest (behind_trans sorts text rest behind (item_behind (length sorts) item text rest read)) more)

-- ---- blocks

-- the sorts of a block with rules are those of a block of scanners
sorts_of-rules : {kind : BlockKind} → HasRules kind → (body : List ℕ) (tokens : List Token) → sorts_of kind body tokens ≡ sorts_of block.Code body tokens
sorts_of-rules of_scanners body tokens = refl
sorts_of-rules to_keep body [] = refl
sorts_of-rules to_keep body (token ∷ tokens) = ap (λ (l : List Sort). sort_at (lexeme_of body token) ∷ l) (sorts_of-rules to_keep body tokens)
sorts_of-rules of_use body [] = refl
sorts_of-rules of_use body (token ∷ tokens) = ap (λ (l : List Sort). sort_at (lexeme_of body token) ∷ l) (sorts_of-rules of_use body tokens)

reads_items : {kind : BlockKind} → HasRules kind → (body : List ℕ) (tokens : List Token) (items : List Item) → IsBody (form_of kind) (sorts_of kind body tokens) items
    → ReadsItems (length (sorts_of block.Code body tokens)) items (sorts_of block.Code body tokens)
reads_items of_scanners body tokens items is = is
reads_items to_keep body tokens items is = subst (λ (l : List Sort). ReadsItems (length l) items l) (sorts_of-rules to_keep body tokens) is
reads_items of_use body tokens items is = subst (λ (l : List Sort). ReadsItems (length l) items l) (sorts_of-rules of_use body tokens) is

-- the rules that are kept have plain actions
abbrev pub KeepsPlain : Environment → Type 0
KeepsPlain environment = IfSome environment.kept (λ (kept : KeptBlock). AllByRecursion HasPlainAct kept.rules)

first_acts : {kind : BlockKind} → HasRules kind → (environment : Environment) → KeepsPlain environment
    → AllByRecursion HasPlainAct (first_state kind environment).rules
first_acts of_scanners environment keeps = tt
first_acts to_keep environment keeps = tt
first_acts of_use environment keeps = by environment.kept keeps
  where
    by : (kept : Option KeptBlock) → IfSome kept (λ (kept : KeptBlock). AllByRecursion HasPlainAct kept.rules)
        → AllByRecursion HasPlainAct (state_behind kept environment).rules
    by None keeps = tt
    by (Some kept) keeps = keeps

keeps_behind : {kind : BlockKind} → HasRules kind → (environment : Environment) (state : State) → KeepsPlain environment
    → AllByRecursion HasPlainAct state.rules → KeepsPlain (environment_behind kind environment state)
keeps_behind of_scanners environment state keeps have = keeps
keeps_behind to_keep environment state keeps have = have
keeps_behind of_use environment state keeps have = keeps

resolved_acts : {kind : BlockKind} → HasRules kind → (named : Bool) (state : State) (resolved : Resolved) → AllByRecursion HasPlainAct state.rules
    → IsResolvedAs kind named state resolved → ArePlainActs resolved.acts
resolved_acts of_scanners named state resolved have is = subst ArePlainActs (sym is.acts) (acts-map state.rules have)
resolved_acts to_keep named state resolved have is = subst ArePlainActs (sym is.1) tt
resolved_acts of_use named state resolved have is = subst ArePlainActs (sym is.acts) (acts-map state.rules have)

-- so do the scanners that a block gives
abbrev pub HasPlainActs : Content → Type 0
HasPlainActs (Scanners resolved) = ArePlainActs resolved.acts
HasPlainActs (Asks directive) = Unit {0}

content_acts : (resolved : Resolved) (scanners : List Scanner) → ArePlainActs resolved.acts → HasPlainActs (content_of resolved scanners)
content_acts resolved [] have = tt
content_acts resolved (scanner ∷ scanners) have = have

-- what a block in a text without marks gives and leaves
pub acts_of_block : (options : Options) (environment : Environment) (kind : BlockKind) (body : List ℕ) (at start : Pos) (after : Environment) (content : Content)
    → IsBlock options environment kind body at start after content → StandsUnmarked body → KeepsPlain environment
    → HasPlainActs content × KeepsPlain after
acts_of_block options environment kind body at start after content (resolves tokens items resolved has read is content_is) unmarked keeps =
    let stand = tokens_stand body start tokens read.tokens_are in
    let acts = items_act options body start tokens stand.in_order stand.each_stands unmarked items (sorts_of block.Code body tokens) (here _)
    (reads_items has body tokens items read.items_are) in
    let have : AllByRecursion HasPlainAct is.state.rules =
    acts-goes options (lexemes_of body tokens) is.goes is.state refl acts (first_acts has environment keeps) in (
      subst HasPlainActs (sym content_is) (content_acts resolved resolved.scanners (resolved_acts has options.conds is.state resolved have is.ends)),
      subst KeepsPlain (sym is.after_is) (keeps_behind has environment is.state keeps have),
    )
acts_of_block options environment kind body at start after content (asks tokens items directive read same content_is) unmarked keeps =
    (subst HasPlainActs (sym content_is) tt, subst KeepsPlain (sym same) keeps)
acts_of_block options environment kind body at start after content (gives_nothing none same content_is) unmarked keeps =
    (subst HasPlainActs (sym content_is) tt, subst KeepsPlain (sym same) keeps)
