-- The items of a block, one behind another.
use Rattle.std.proofs.Common.{◌≡◌, ℕ, zero, suc, ◌-◌, ◌≤◌, ◌<◌, inl, inr, List, [], ◌∷◌, ◌++◌, length, take, drop, get_or, Option, None, Some, Result, Ok, Err, IfOk, MatchResult, refl, subst, ap, ◌∙◌, arith}
use Rattle.std.proofs.lemmas.List.{length-map}
use Rattle.lx_base.specs.declared.faults.Fault.{Fault}
use Rattle.lx_base.specs.declared.faults.Stop.{Stop}
use Rattle.lx_base.specs.declared.faults.Stop.TheVariants as stop
use Rattle.lx_base.specs.declared.settings.Options.{Options}
use Rattle.lx_parse.specs.declared.items.Item.{Item}
use Rattle.lx_parse.specs.declared.sorts.Sort.{Sort}
use Rattle.lx_parse.specs.declared.sorts.Sort.TheVariants.{Semicolon, Slash, Name, Comma, Greater}
use Rattle.lx_parse.specs.Expressions.{alt}
use Rattle.lx_parse.specs.Items.{ReadsNames, first_name, next_name, ReadsList, no_list, all_conditions, conditions, ReadsHead, plain, trailing, any, end, ReadsAction, code, code_and_target, target, ReadsItem, define, configure, rule, ReadsItems, no_item, next_item}
use Rattle.lx_parse.specs.Ranges.{HasExpressions, EachHasExpressions}
use Rattle.lx_base.specs.declared.blocks.BlockKind.{BlockKind}
use Rattle.lx_base.specs.declared.blocks.BlockKind.TheVariants.{Code, Rules, Use}
use Rattle.lx_base.specs.declared.places.Pos.{Pos}
use Rattle.lx_parse.specs.Blocks.{IsBody, form_of}
use Rattle.lx_parse.specs.Sorts.{sort_of, sorts_of}
use Rattle.lx_token.specs.declared.list.Token.{Token}
use Rattle.lx_rules.specs.Environments.{Environment}
use Rattle.lx_rules.specs.Blocks.{BlockChecks, HasRules, StopsWith, of_scanners, of_use, opening_fault, to_keep}
use Rattle.lx_forms.specs.Lexemes.{Lexeme, lexeme_of, lexemes_of, sort_at, sorts_at}
use Rattle.lx_rules.specs.Items.{State, Goes, ends, refused, next, first_state, ItemChecks, IsAfter}
use Rattle.lx_rules.specs.Keeping.{StopsGoing}
use Rattle.lx_exprs.specs.Checks.{StopsAt}
use Rattle.lx_exprs.specs.Seen.{IsStop}
use Rattle.lx_forms.proofs.FormReading.{reads_some}

module _ (options : Options) (lexemes : List Lexeme) where
  -- one item more
  pub goes-snoc : (first state after : State) (items : List Item) (item : Item) → Goes options lexemes first items (Ok state)
      → ItemChecks options lexemes state item None → IsAfter options lexemes state item after → Goes options lexemes first (items ++ item ∷ []) (Ok after)
  goes-snoc first state after [] item ends checks is_after = next after checks is_after ends
  goes-snoc first state after (other ∷ items) item (next middle checked is rest) checks is_after =
      next middle checked is (goes-snoc middle state after items item rest checks is_after)

  -- the first fault is that of the item behind others that are taken
  pub goes-refused : (first state : State) (items : List Item) (item : Item) (others : List Item) (fault : Fault) → Goes options lexemes first items (Ok state)
      → ItemChecks options lexemes state item (Some fault) → Goes options lexemes first (items ++ item ∷ others) (Err fault)
  goes-refused first state [] item others fault ends checks = refused fault checks
  goes-refused first state (other ∷ items) item others fault (next middle checked is rest) checks =
      next middle checked is (goes-refused middle state items item others fault rest checks)

  pub goes-stops : (first state : State) (items : List Item) (item : Item) (others : List Item) (stopped : Stop) → Goes options lexemes first items (Ok state)
      → StopsAt (ItemChecks options lexemes state item) stopped → StopsGoing options lexemes first (items ++ item ∷ others) stopped
  goes-stops first state items item others stop.Memory goes checks = tt
  goes-stops first state items item others (stop.Fault fault) goes checks = goes-refused first state items item others fault goes checks

-- what each item has, the one at a place has
pub expressions_at : (sorts : List Sort) (items : List Item) (place : ℕ) (default : Item) → EachHasExpressions sorts items → place < length items
    → HasExpressions sorts (get_or items place default)
expressions_at sorts [] place default each lt = absurd (omega (arith, lt))
expressions_at sorts (item ∷ items) zero default each lt = each.0
expressions_at sorts (item ∷ items) (suc place) default each lt = expressions_at sorts items place default each.1 (omega (arith, lt))

-- each item has a token at least
names_shorter : (text rest : List Sort) → ReadsNames text rest → length rest ≤ length text
names_shorter text rest (first_name _) = omega arith
names_shorter text rest (next_name _ _ read) = let less = names_shorter text (Comma ∷ Name ∷ rest) read in omega (arith, less)

list_shorter : (text rest : List Sort) → ReadsList text rest → length rest ≤ length text
list_shorter text rest (no_list _) = omega arith
list_shorter text rest (all_conditions _) = omega arith
list_shorter text rest (conditions inner _ read) = let less = names_shorter inner (Greater ∷ rest) read in omega (arith, less)

head_shorter : (size : ℕ) (slash : Option ℕ) (text rest : List Sort) → ReadsHead size slash text rest → length rest < length text
head_shorter size slash text rest (plain _ _ read) = reads_some alt text rest read
head_shorter size slash text rest (trailing _ middle _ read more) =
    let one = reads_some alt text (Slash ∷ middle) read in let two = reads_some alt middle rest more in omega (arith, one, two)
head_shorter size slash text rest (any _) = omega arith
head_shorter size slash text rest (end _) = omega arith

action_shorter : (size : ℕ) (goes coded : Option ℕ) (text rest : List Sort) → ReadsAction size goes coded text rest → length rest ≤ length text
action_shorter size goes coded text rest (code _) = omega arith
action_shorter size goes coded text rest (code_and_target _) = omega arith
action_shorter size goes coded text rest (target _) = omega arith

item_shorter : (size : ℕ) (item : Item) (text rest : List Sort) → ReadsItem size item text rest → length rest < length text
item_shorter size item text rest (define inner _ read) = let less = reads_some alt inner (Semicolon ∷ rest) read in omega (arith, less)
item_shorter size item text rest (configure value _ is) = omega arith
item_shorter size item text rest (rule slash goes coded _ head action _ list read last) =
    let one = list_shorter text head list in let two = head_shorter size slash head action read in
    let three = action_shorter size goes coded action rest last in omega (arith, one, two, three)

pub items_few : (size : ℕ) (items : List Item) (text : List Sort) → ReadsItems size items text → length items ≤ length text
items_few size items text no_item = omega arith
items_few size items text (next_item item others _ rest read more) =
    let one = item_shorter size item text rest read in let two = items_few size others rest more in omega (arith, one, two)

-- the sorts of the tokens of a block of rules are those of its lexemes
pub sorts_of-lexemes : (body : List ℕ) (tokens : List Token) → sorts_of Code body tokens ≡ sorts_at (lexemes_of body tokens)
sorts_of-lexemes body [] = refl
sorts_of-lexemes body (token ∷ tokens) = ap (λ l. sort_of token.kind (take (token.to - token.from) (drop token.from body)) ∷ l) (sorts_of-lexemes body tokens)

pub lexemes_few : (body : List ℕ) (tokens : List Token) (items : List Item) → length tokens ≤ length body → IsBody (form_of Code) (sorts_of Code body tokens) items
    → length items ≤ length body
lexemes_few body tokens items few read =
    let less = items_few (length (sorts_of Code body tokens)) items (sorts_of Code body tokens) read in
    let sorts = ap length (sorts_of-lexemes body tokens) ∙ length-map (lexemes_of body tokens) sort_at ∙ length-map tokens (lexeme_of body) in
    omega (arith, less, sorts, few)

-- what a call that goes on gives, by what its last part gives
pub match_so : {A B : Type 0} (P P' : A → Type 0) (Q Q' : B → Type 0) (result : Result A B) → MatchResult result P Q → ((a : A) → P a → P' a) → ((b : B) → Q b → Q' b)
    → MatchResult result P' Q'
match_so P P' Q Q' (Ok a) given p q = p a given
match_so P P' Q Q' (Err b) given p q = q b given

pub if_ok_so : {A B : Type 0} (P P' : A → Type 0) (Q : B → Type 0) (result : Result A B) → MatchResult result P Q → ((a : A) → P a → P' a) → IfOk result P'
if_ok_so P P' Q (Ok a) given p = p a given
if_ok_so P P' Q (Err b) given p = tt

pub stops_behind : (options : Options) (kind : BlockKind) (at : Pos) (environment : Environment) (lexemes : List Lexeme) (items : List Item) (state : State) (stopped : Stop)
    → opening_fault kind at environment.kept ≡ None → Goes options lexemes (first_state kind environment) items (Ok state)
    → StopsAt (BlockChecks options.custom options.format kind at state) stopped → StopsWith options kind at environment lexemes items stopped
stops_behind options kind at environment lexemes items state stop.Memory opened goes stops = tt
stops_behind options kind at environment lexemes items state (stop.Fault fault) opened goes stops = inr (opened, inr (state, goes, stops))

pub stops_within : (options : Options) (kind : BlockKind) (at : Pos) (environment : Environment) (lexemes : List Lexeme) (items : List Item) (stopped : Stop)
    → opening_fault kind at environment.kept ≡ None → StopsGoing options lexemes (first_state kind environment) items stopped
    → StopsWith options kind at environment lexemes items stopped
stops_within options kind at environment lexemes items stop.Memory opened stops = tt
stops_within options kind at environment lexemes items (stop.Fault fault) opened stops = inr (opened, inl stops)

pub stops_opening : (options : Options) (kind : BlockKind) (at : Pos) (environment : Environment) (lexemes : List Lexeme) (items : List Item) (stopped : Stop)
    → IsStop (opening_fault kind at environment.kept) stopped → StopsWith options kind at environment lexemes items stopped
stops_opening options kind at environment lexemes items stop.Memory stops = tt
stops_opening options kind at environment lexemes items (stop.Fault fault) stops = inl stops

-- blocks of rules are read alike
sorts-alike : (kind : BlockKind) → HasRules kind → (body : List ℕ) (tokens : List Token) → sorts_of kind body tokens ≡ sorts_of Code body tokens
sorts-alike kind of_scanners body tokens = refl
sorts-alike kind to_keep body [] = refl
sorts-alike kind to_keep body (token ∷ tokens) =
    ap (λ l. sort_of token.kind (take (token.to - token.from) (drop token.from body)) ∷ l) (sorts-alike Rules to_keep body tokens)
sorts-alike kind of_use body [] = refl
sorts-alike kind of_use body (token ∷ tokens) =
    ap (λ l. sort_of token.kind (take (token.to - token.from) (drop token.from body)) ∷ l) (sorts-alike Use of_use body tokens)

pub body-alike : (kind : BlockKind) → HasRules kind → (body : List ℕ) (tokens : List Token) (items : List Item)
    → IsBody (form_of kind) (sorts_of kind body tokens) items → IsBody (form_of Code) (sorts_of Code body tokens) items
body-alike kind of_scanners body tokens items read = read
body-alike kind to_keep body tokens items read =
    subst (λ sorts. IsBody (form_of Code) sorts items) (sorts-alike Rules to_keep body tokens) read
body-alike kind of_use body tokens items read = subst (λ sorts. IsBody (form_of Code) sorts items) (sorts-alike Use of_use body tokens) read
