-- Pieces without a scanner: their texts, and texts in which no `/*!` begins.
use Rattle.std.proofs.Common.{[], ◌++◌, ◌<◌, ◌^◌, ◌∙◌, ◌∷◌, ◌≡◌, Bool, List, None, Option, Some, ap, append_assoc, arith, codes, drop, false, map, refl, subst, sym, true, ℕ}
use Rattle.std.proofs.lemmas.Bool.{false≢true, ne_eqb}
use Rattle.std.proofs.lemmas.List.{append-nil}
use Rattle.std.specs.Fmt.{decimal}
use Rattle.std.specs.List.{AllByRecursion}
use Rattle.std.specs.Prelude.{◌==◌, ◌||◌, if◌then◌else◌}
use Rattle.lx_base.specs.Letters.{EachLetter, IsIdentifier, begins_with, each_letter}
use Rattle.lx_base.specs.Names.{AreAllowed, Spellings, condition_prefix, get_state, tag_prefix}
use Rattle.lx_base.specs.Text.{joined}
use Rattle.lx_ccode.specs.Bodies.{body_piece_text, body_then, conditions_then, file_states_then, filled, list_then, separated}
use Rattle.lx_ccode.specs.Marks.{HasNoBegin, begins_piece}
use Rattle.lx_ccode.specs.Registers.{history_text}
use Rattle.lx_ccode.specs.Text.{escaped, line_then, start_then}
use Rattle.lx_ccode.specs.Validity.{IsLine, IsLong, IsShort}
use Rattle.lx_ccode.specs.declared.bodies.Body.{Body}
use Rattle.lx_ccode.specs.declared.bodies.Body.TheVariants.{Empty, MaxFill, MaxGroups, Registers, Histories, Conditions, StateSwitch}
use Rattle.lx_ccode.specs.declared.bodies.FileState.{FileState}
use Rattle.lx_ccode.specs.declared.bodies.Format.{Format}
use Rattle.lx_ccode.specs.declared.piece.CondCase.{CondCase}
use Rattle.lx_ccode.specs.declared.piece.LineMark.{LineMark}
use Rattle.lx_ccode.proofs.BeginLines.{short_passes}
use Rattle.lx_ccode.proofs.BeginMarks.{HasNoBegin-append, HasNoBegin-test, Stops, begins_with-stop, decimal_lacks, identifier_lacks, is_no_slash, spelling_lacks}
use Rattle.lx_ccode.proofs.BodyTails.{file_states_then-nil}
use Rattle.lx_ccode.proofs.Tails.{joined-append, line_then-append, start_then-append, state_parts}
use Rattle.lx_ccode.proofs.Words.{EachLetter-append, each_letter-true, is_false}
use Rattle.lx_creader.specs.Cut.{HasNoOpener, bare, part_text}

-- ---- the text of a body and what stands behind it

list_then-append : (format : Format) (words : List (List ℕ)) (tail : List ℕ)
    → list_then format words tail ≡ list_then format words [] ++ tail
list_then-append format [] tail = refl
list_then-append format (word ∷ words) tail =
    sym (joined-append (separated format.separator (map (λ w. filled w format.format) (word ∷ words)) ∷ codes "\n" ∷ []) [] tail)

conditions_then-append : (names : Spellings) (conds : List (List ℕ)) (tail rest : List ℕ)
    → conditions_then names conds (tail ++ rest) ≡ conditions_then names conds tail ++ rest
conditions_then-append names [] tail rest = refl
conditions_then-append names (cond ∷ conds) tail rest =
    let parts : List (List ℕ) = codes "\t" ∷ (condition_prefix names ++ cond) ∷ codes ",\n" ∷ [] in
    ap (joined parts) (conditions_then-append names conds tail rest) ∙ sym (joined-append parts (conditions_then names conds tail) rest)

file_states_then-append : (states : List FileState) (tail rest : List ℕ)
    → file_states_then states (tail ++ rest) ≡ file_states_then states tail ++ rest
file_states_then-append states tail rest =
    sym (file_states_then-nil states [] (tail ++ rest)) ∙ sym (append_assoc (file_states_then states []) tail rest)
    ∙ ap (λ (l : List ℕ). l ++ rest) (file_states_then-nil states [] tail)

pub body_then-append : (names : Spellings) (body : Body) (tail : List ℕ) → body_then names body tail ≡ body_then names body [] ++ tail
body_then-append names Empty tail = refl
body_then-append names (MaxFill units) tail =
    sym (joined-append (codes "#define YYMAXFILL " ∷ decimal units ∷ codes "\n" ∷ []) [] tail)
body_then-append names (MaxGroups groups) tail =
    sym (joined-append (codes "#define YYMAXNMATCH " ∷ decimal groups ∷ codes "\n" ∷ []) [] tail)
body_then-append names (Registers format numbers) tail =
    list_then-append format (map (λ register. tag_prefix names ++ decimal register) numbers) tail
body_then-append names (Histories format numbers) tail =
    list_then-append format (map (history_text names) numbers) tail
body_then-append names (Conditions conds) tail =
    ap (joined (codes "enum YYCONDTYPE {\n" ∷ [])) (conditions_then-append names conds (codes "};\n") tail)
body_then-append names (StateSwitch states start conds) tail =
    let head : List (List ℕ) = codes "\tswitch (" ∷ get_state names ∷ codes "()) {\n" ∷ [] in
    let default : List (List ℕ) = codes "\tdefault: goto " ∷ [] in
    let last : List ℕ = joined default (start_then start conds (codes ";\n\t}\n")) in
    ap (λ (l : List ℕ). joined head (file_states_then states (joined default l)))
    (sym (start_then-append start conds (codes ";\n\t}\n") tail))
    ∙ ap (joined head) (file_states_then-append states last tail) ∙ sym (joined-append head (file_states_then states last) tail)

pub line_then-behind : (line : Option LineMark) (tail : List ℕ) → line_then line tail ≡ line_then line [] ++ tail
line_then-behind line tail = sym (line_then-append line [] tail)

-- the text of a body and of a line mark, between the marks of a piece
pub bare_text : (number : ℕ) (names : Spellings) (body : Body) (line : Option LineMark)
    → part_text (bare number (body_then names body (line_then line []))) ≡ body_piece_text number names body line
bare_text number names body line =
    let end : List ℕ = codes "/*!end:re2c*/" in
    let text : List ℕ = body_then names body [] in
    ap (joined (codes "/*!begin:re2c " ∷ decimal number ∷ codes "*/\n" ∷ []))
    (ap (λ (l : List ℕ). l ++ end) (body_then-append names body (line_then line [])) ∙ append_assoc text (line_then line []) end
    ∙ ap (λ (l : List ℕ). text ++ l) (sym (line_then-behind line end)) ∙ sym (body_then-append names body (line_then line end)))

-- a piece without a scanner and what stands behind it
pub bare-then : (number : ℕ) (inner tail : List ℕ)
    → part_text (bare number inner) ++ tail
    ≡ codes "/*!begin:re2c " ++ (decimal number ++ 42 ∷ (codes "/\n" ++ (inner ++ (codes "/*!end:re2c*/" ++ tail))))
bare-then number inner tail =
    let words : List (List ℕ) = codes "/*!begin:re2c " ∷ decimal number ∷ codes "*/\n" ∷ [] in
    joined-append words (inner ++ codes "/*!end:re2c*/") tail ∙ ap (joined words) (append_assoc inner (codes "/*!end:re2c*/") tail)

-- ---- texts in which no opener begins, place by place

abbrev pub OpensNowhere : List ℕ → Type 0
OpensNowhere [] = Unit {0}
OpensNowhere (letter ∷ text) = (begins_with (codes "/*!") (letter ∷ text) ≡ false) × OpensNowhere text

pub OpensNowhere-text : (text : List ℕ) → HasNoOpener text → OpensNowhere text
OpensNowhere-text [] none = tt
OpensNowhere-text (letter ∷ text) none = (
  none [] (letter ∷ text) refl,
  OpensNowhere-text text (λ front tail is. none (letter ∷ front) tail (ap (λ (l : List ℕ). letter ∷ l) is)),
)

first_place : (text : List ℕ) → OpensNowhere text → begins_with (codes "/*!") text ≡ false
first_place [] none = refl
first_place (letter ∷ text) none = none.0

pub HasNoOpener-places : (text : List ℕ) → OpensNowhere text → HasNoOpener text
HasNoOpener-places text none [] tail is = subst (λ (l : List ℕ). begins_with (codes "/*!") l ≡ false) is (first_place text none)
HasNoOpener-places [] none (other ∷ front) tail is = absurd cc
HasNoOpener-places (letter ∷ text) none (other ∷ front) tail is = HasNoOpener-places text none.1 front tail (ap (drop 1) is)

-- before what completes no opener
pub opens-stop : (letter : ℕ) (text behind : List ℕ) → Stops (codes "*!") behind → begins_with (codes "/*!") (letter ∷ text) ≡ false
    → begins_with (codes "/*!") (letter ∷ text ++ behind) ≡ false
opens-stop letter text behind stops none = elim (47 == letter) as (λ same. (if same then begins_with (codes "*!") text else false) ≡ false → (if same then begins_with (codes "*!") (text ++ behind) else false) ≡ false) [
  | true ↦ λ is. begins_with-stop (codes "*!") text behind [] stops tt ∙ ap (begins_with (codes "*!")) (append-nil text) ∙ is
  | false ↦ λ is. refl
] none

OpensNowhere-append : (text more : List ℕ) → Stops (codes "*!") more → OpensNowhere text → OpensNowhere more → OpensNowhere (text ++ more)
OpensNowhere-append [] more stops none free = free
OpensNowhere-append (letter ∷ text) more stops none free =
    (opens-stop letter text more stops none.0, OpensNowhere-append text more stops none.1 free)

-- ---- texts in which no opener begins, put together

-- a text and more, which is empty or begins with a letter that is neither `*` nor `!`
pub has_no_opener-append : (text more : List ℕ) → Stops (codes "*!") more → HasNoOpener text → HasNoOpener more → HasNoOpener (text ++ more)
has_no_opener-append text more stops none free =
    HasNoOpener-places (text ++ more) (OpensNowhere-append text more stops (OpensNowhere-text text none) (OpensNowhere-text more free))

no_slash_first : (letter : ℕ) (text : List ℕ) → is_no_slash letter ≡ true → begins_with (codes "/*!") (letter ∷ text) ≡ false
no_slash_first letter text h = rw (ne_eqb 47 letter (λ same. false≢true (ap is_no_slash same ∙ h))) refl

-- a word without a slash, and any text
OpensNowhere-word : (word text : List ℕ) → EachLetter is_no_slash word → OpensNowhere text → OpensNowhere (word ++ text)
OpensNowhere-word [] text lacks none = none
OpensNowhere-word (letter ∷ word) text lacks none = (no_slash_first letter (word ++ text) lacks.0, OpensNowhere-word word text lacks.1 none)

pub has_no_opener-word : (word text : List ℕ) → EachLetter is_no_slash word → HasNoOpener text → HasNoOpener (word ++ text)
has_no_opener-word word text lacks none =
    HasNoOpener-places (word ++ text) (OpensNowhere-word word text lacks (OpensNowhere-text text none))

pub has_no_opener-nil : HasNoOpener []
has_no_opener-nil = HasNoOpener-places [] tt

begins_with-more : (word text more : List ℕ) → begins_with word text ≡ true → begins_with word (text ++ more) ≡ true
begins_with-more [] text more h = refl
begins_with-more (letter ∷ word) [] more h = absurd (false≢true h)
begins_with-more (letter ∷ word) (next ∷ text) more h = elim (letter == next) as (λ same. (if same then begins_with word text else false) ≡ true → (if same then begins_with word (text ++ more) else false) ≡ true) [
  | true ↦ λ k. begins_with-more word text more k
  | false ↦ λ k. absurd (false≢true k)
] h

pub has_no_opener-front : (text more : List ℕ) → HasNoOpener (text ++ more) → HasNoOpener text
has_no_opener-front text more none front tail is =
    is_false (begins_with (codes "/*!") tail) (λ opens. false≢true (
    sym (none front (tail ++ more) (ap (λ (l : List ℕ). l ++ more) is ∙ append_assoc front tail more))
    ∙ begins_with-more (codes "/*!") tail more opens))

-- ---- words without a slash, one behind another

-- the words have no slash
abbrev pub EachLacks : List (List ℕ) → Type 0
EachLacks [] = Unit {0}
EachLacks (word ∷ words) = (each_letter is_no_slash word ≡ true) × EachLacks words

lacks_slash : (word : List ℕ) → each_letter is_no_slash word ≡ true → EachLetter is_no_slash word
lacks_slash [] h = tt
lacks_slash (letter ∷ word) h = by (is_no_slash letter) refl h (lacks_slash word)
  where
    by : (flag : Bool) → is_no_slash letter ≡ flag → (if flag then each_letter is_no_slash word else false) ≡ true
        → (each_letter is_no_slash word ≡ true → EachLetter is_no_slash word) → EachLetter is_no_slash (letter ∷ word)
    by true is k rest = (is, rest k)
    by false is k rest = absurd (false≢true k)

pub has_no_opener-joined : (words : List (List ℕ)) (tail : List ℕ) → EachLacks words → HasNoOpener tail → HasNoOpener (joined words tail)
has_no_opener-joined [] tail lacks none = none
has_no_opener-joined (word ∷ words) tail lacks none =
    has_no_opener-word word (joined words tail) (lacks_slash word lacks.0) (has_no_opener-joined words tail lacks.1 none)

pub lacks-word : (word : List ℕ) → EachLetter is_no_slash word → each_letter is_no_slash word ≡ true
lacks-word word h = each_letter-true is_no_slash word h

pub lacks-decimal : (number : ℕ) → number < 2 ^ 64 → each_letter is_no_slash (decimal number) ≡ true
lacks-decimal number h = lacks-word (decimal number) (decimal_lacks number h)

lacks-short : (number : ℕ) → IsShort number → each_letter is_no_slash (decimal number) ≡ true
lacks-short number h = lacks-decimal number (omega (arith, h))

-- ---- line marks

-- no letter of the word is escaped in a file's name
abbrev is_plain : ℕ → Bool
is_plain letter = if (letter == 34) || (letter == 92) then false else true

escaped_first : (a letter : ℕ) → is_plain a ≡ true → ((letter == 34) || (letter == 92)) ≡ true → (a == letter) ≡ false
escaped_first a letter plain is = ne_eqb a letter (λ same. false≢true (sym (rw is refl) ∙ subst (λ (l : ℕ). is_plain l ≡ true) same plain))

-- a word without such letters stands at the front of a name and of the escaped one
begins_with-escaped : (word name : List ℕ) → EachLetter is_plain word → begins_with word (escaped name) ≡ begins_with word name
begins_with-escaped [] name plain = refl
begins_with-escaped (a ∷ word) [] plain = refl
begins_with-escaped (a ∷ word) (letter ∷ name) plain = by ((letter == 34) || (letter == 92)) refl (begins_with-escaped word name plain.1)
  where
    by : (flag : Bool) → ((letter == 34) || (letter == 92)) ≡ flag → begins_with word (escaped name) ≡ begins_with word name
        → begins_with (a ∷ word) (if flag then 92 ∷ letter ∷ escaped name else letter ∷ escaped name)
        ≡ begins_with (a ∷ word) (letter ∷ name)
    by true is rest = rw (escaped_first a 92 plain.0 refl, escaped_first a letter plain.0 is) refl
    by false is rest = ap (λ (same : Bool). if a == letter then same else false) rest

OpensNowhere-escaped : (name : List ℕ) → OpensNowhere name → OpensNowhere (escaped name)
OpensNowhere-escaped [] none = tt
OpensNowhere-escaped (letter ∷ name) none = by ((letter == 34) || (letter == 92)) refl (OpensNowhere-escaped name none.1)
  where
    by : (flag : Bool) → ((letter == 34) || (letter == 92)) ≡ flag → OpensNowhere (escaped name)
        → OpensNowhere (if flag then 92 ∷ letter ∷ escaped name else letter ∷ escaped name)
    by true is rest = (refl, (rw (escaped_first 47 letter refl is) refl, rest))
    by false is rest = (
      ap (λ (same : Bool). if 47 == letter then same else false) (begins_with-escaped (codes "*!") name (refl, (refl, tt))) ∙ none.0,
      rest,
    )

pub has_no_opener-escaped : (name : List ℕ) → HasNoOpener name → HasNoOpener (escaped name)
has_no_opener-escaped name none = HasNoOpener-places (escaped name) (OpensNowhere-escaped name (OpensNowhere-text name none))

-- in the file's name of a line mark no opener begins
abbrev pub HasPlainFile : Option LineMark → Type 0
HasPlainFile None = Unit {0}
HasPlainFile (Some mark) = HasNoOpener mark.file

pub line_has_no_opener : (line : Option LineMark) (tail : List ℕ) → IsLine line → HasPlainFile line → HasNoOpener tail
    → HasNoOpener (line_then line tail)
line_has_no_opener None tail short plain none = none
line_has_no_opener (Some mark) tail short plain none =
    has_no_opener-joined (codes "#line " ∷ decimal mark.line ∷ codes " \"" ∷ []) (escaped mark.file ++ (codes "\"\n" ++ tail))
    (refl, (lacks-short mark.line short, (refl, tt)))
    (has_no_opener-append (escaped mark.file) (codes "\"\n" ++ tail) refl (has_no_opener-escaped mark.file plain)
    (has_no_opener-joined (codes "\"\n" ∷ []) tail (refl, tt) none))

-- ---- bodies

-- the numbers of a state of the file have spellings
abbrev pub HasShortNumbers : FileState → Type 0
HasShortNumbers state = IsShort state.number × IsLong state.case.state × IsLong state.case.block

-- the numbers and the names of a body have spellings, and no opener begins in a list in a format
abbrev pub HasPlainText : Spellings → Body → Type 0
HasPlainText names Empty = Unit {0}
HasPlainText names (MaxFill units) = IsLong units
HasPlainText names (MaxGroups groups) = IsLong groups
HasPlainText names (Registers format numbers) = HasNoOpener (body_then names (Registers format numbers) [])
HasPlainText names (Histories format numbers) = HasNoOpener (body_then names (Histories format numbers) [])
HasPlainText names (Conditions conds) = AllByRecursion IsIdentifier conds
HasPlainText names (StateSwitch states start conds) = AllByRecursion HasShortNumbers states × IsShort start

list_has_no_opener : (format : Format) (words : List (List ℕ)) (tail : List ℕ) → HasNoOpener (list_then format words []) → HasNoOpener tail
    → HasNoOpener (list_then format words tail)
list_has_no_opener format [] tail plain none = none
list_has_no_opener format (word ∷ words) tail plain none =
    let all : List ℕ = separated format.separator (map (λ w. filled w format.format) (word ∷ words)) in
    has_no_opener-append all (10 ∷ tail) refl (has_no_opener-front all (10 ∷ []) plain) (has_no_opener-word (10 ∷ []) tail (refl, tt) none)

conditions_have_no_opener : (names : Spellings) (conds : List (List ℕ)) (tail : List ℕ) → AreAllowed names
    → AllByRecursion IsIdentifier conds → HasNoOpener tail → HasNoOpener (conditions_then names conds tail)
conditions_have_no_opener names [] tail allowed plain none = none
conditions_have_no_opener names (cond ∷ conds) tail allowed plain none =
    let prefix : List ℕ = condition_prefix names in
    let lacks = EachLetter-append is_no_slash prefix cond (identifier_lacks prefix allowed.condition_prefix) (identifier_lacks cond plain.0) in
    has_no_opener-joined (codes "\t" ∷ (prefix ++ cond) ∷ codes ",\n" ∷ []) (conditions_then names conds tail)
    (refl, (lacks-word (prefix ++ cond) lacks, (refl, tt))) (conditions_have_no_opener names conds tail allowed plain.1 none)

file_states_have_no_opener : (states : List FileState) (tail : List ℕ) → AllByRecursion HasShortNumbers states → HasNoOpener tail
    → HasNoOpener (file_states_then states tail)
file_states_have_no_opener [] tail plain none = none
file_states_have_no_opener (state ∷ states) tail plain none =
    let first = lacks-decimal state.case.state plain.0.1 in
    let number = lacks-short state.number plain.0.0 in
    let block = lacks-decimal state.case.block plain.0.2 in
    has_no_opener-joined (state_parts state.number state.case) (file_states_then states tail)
    (refl, (first, (refl, (number, (refl, (block, (refl, tt)))))))
    (file_states_have_no_opener states tail plain.1 none)

start_has_no_opener : (number : ℕ) (conds : List CondCase) (tail : List ℕ) → IsShort number → HasNoOpener tail
    → HasNoOpener (start_then number conds tail)
start_has_no_opener number [] tail short none =
    has_no_opener-joined (codes "yy" ∷ decimal number ∷ codes "_" ∷ decimal 0 ∷ []) tail
    (refl, (lacks-short number short, (refl, (lacks-short 0 (omega arith), tt)))) none
start_has_no_opener number (case ∷ conds) tail short none =
    has_no_opener-joined (codes "yy" ∷ decimal number ∷ codes "_cond" ∷ []) tail (refl, (lacks-short number short, (refl, tt))) none

pub body_has_no_opener : (names : Spellings) (body : Body) (tail : List ℕ) → AreAllowed names → HasPlainText names body → HasNoOpener tail
    → HasNoOpener (body_then names body tail)
body_has_no_opener names Empty tail allowed plain none = none
body_has_no_opener names (MaxFill units) tail allowed plain none =
    has_no_opener-joined (codes "#define YYMAXFILL " ∷ decimal units ∷ codes "\n" ∷ []) tail
    (refl, (lacks-decimal units plain, (refl, tt))) none
body_has_no_opener names (MaxGroups groups) tail allowed plain none =
    has_no_opener-joined (codes "#define YYMAXNMATCH " ∷ decimal groups ∷ codes "\n" ∷ []) tail
    (refl, (lacks-decimal groups plain, (refl, tt))) none
body_has_no_opener names (Registers format numbers) tail allowed plain none =
    list_has_no_opener format (map (λ register. tag_prefix names ++ decimal register) numbers) tail plain none
body_has_no_opener names (Histories format numbers) tail allowed plain none =
    list_has_no_opener format (map (history_text names) numbers) tail plain none
body_has_no_opener names (Conditions conds) tail allowed plain none =
    let last : HasNoOpener (codes "};\n" ++ tail) = has_no_opener-joined (codes "};\n" ∷ []) tail (refl, tt) none in
    has_no_opener-joined (codes "enum YYCONDTYPE {\n" ∷ []) (conditions_then names conds (codes "};\n" ++ tail)) (refl, tt)
    (conditions_have_no_opener names conds (codes "};\n" ++ tail) allowed plain last)
body_has_no_opener names (StateSwitch states start conds) tail allowed plain none =
    let end : List ℕ = codes ";\n\t}\n" ++ tail in
    let end_none : HasNoOpener end = has_no_opener-joined (codes ";\n\t}\n" ∷ []) tail (refl, tt) none in
    let default : List ℕ = codes "\tdefault: goto " ++ start_then start conds end in
    let default_none : HasNoOpener default = has_no_opener-joined (codes "\tdefault: goto " ∷ []) (start_then start conds end) (refl, tt)
    (start_has_no_opener start conds end plain.1 end_none) in
    has_no_opener-joined (codes "\tswitch (" ∷ get_state names ∷ codes "()) {\n" ∷ []) (file_states_then states default)
    (refl, (lacks-word (get_state names) (spelling_lacks (get_state names) allowed.get_state), (refl, tt)))
    (file_states_have_no_opener states default plain.0 default_none)

-- the whole text between the marks
pub inner_has_no_opener : (names : Spellings) (body : Body) (line : Option LineMark) → AreAllowed names → HasPlainText names body
    → IsLine line → HasPlainFile line → HasNoOpener (body_then names body (line_then line []))
inner_has_no_opener names body line allowed plain short file =
    body_has_no_opener names body (line_then line []) allowed plain (line_has_no_opener line [] short file has_no_opener-nil)

-- ---- begin marks

begins_with-front : (word more text : List ℕ) → begins_with (word ++ more) text ≡ true → begins_with word text ≡ true
begins_with-front [] more text h = refl
begins_with-front (letter ∷ word) more [] h = absurd (false≢true h)
begins_with-front (letter ∷ word) more (next ∷ text) h = elim (letter == next) as (λ same. (if same then begins_with (word ++ more) text else false) ≡ true → (if same then begins_with word text else false) ≡ true) [
  | true ↦ λ k. begins_with-front word more text k
  | false ↦ λ k. absurd (false≢true k)
] h

-- where no opener begins, no begin mark does
HasNoBegin-opens : (text behind : List ℕ) → Stops (codes "*!") behind → OpensNowhere text → HasNoBegin text behind
HasNoBegin-opens [] behind stops none = tt
HasNoBegin-opens (letter ∷ text) behind stops none = (
  is_false (begins_piece (letter ∷ text ++ behind)) (λ begins. false≢true (
      sym (opens-stop letter text behind stops none.0)
      ∙ begins_with-front (codes "/*!") (codes "begin:re2c") (letter ∷ text ++ behind) begins)),
  HasNoBegin-opens text behind stops none.1,
)

-- a begin mark stands at the front of a piece without a scanner, and at no other place, where its last slash begins none
pub HasNoBegin-bare : (number : ℕ) (inner behind : List ℕ) → IsShort number → HasNoOpener inner → begins_piece (47 ∷ behind) ≡ false
    → HasNoBegin (drop 1 (part_text (bare number inner))) behind
HasNoBegin-bare number inner behind short none slash =
    let end : List ℕ = codes "/*!end:re2c*/" in
    let line : List ℕ = codes "*/\n" ++ (inner ++ end) in
    HasNoBegin-append (codes "*!begin:re2c ") (decimal number ++ line) behind
    (HasNoBegin-test (codes "*!begin:re2c ") ((decimal number ++ line) ++ behind) refl)
    (HasNoBegin-append (decimal number) line behind (HasNoBegin-test (decimal number) (line ++ behind) (short_passes number short))
    (HasNoBegin-append (codes "*/\n") (inner ++ end) behind (HasNoBegin-test (codes "*/\n") ((inner ++ end) ++ behind) refl)
    (HasNoBegin-append inner end behind (HasNoBegin-opens inner (end ++ behind) refl (OpensNowhere-text inner none))
    (HasNoBegin-append (codes "/*!end:re2c*") (codes "/") behind (HasNoBegin-test (codes "/*!end:re2c*") (47 ∷ behind) refl) (slash, tt)))))
