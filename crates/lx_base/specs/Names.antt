-- The seventeen spellings of a scanner's names: which are allowed, and which clash.
use Rattle.std.specs.Prelude.{◌≡◌, ℕ, ◌<◌, ◌^◌, Bool, true, false, List, [], ◌∷◌, ◌++◌, Option, None, Some, length, codes, slice_index_or, ◌==◌, ◌||◌}
use Rattle.std.specs.Global.{Vec}
use Rattle.lx_base.specs.Letters.{IsIdentifier, IsSpelling, is_in_identifier, begins_with, equal_words, front_letters, is_register, is_history_register}

-- the list of a scanner's spellings
abbrev pub Spellings : Type 0
Spellings = List (List ℕ)

-- the spellings of a source that configures none
abbrev pub usual_names : Spellings
usual_names =
    codes "YYCTYPE" ∷ codes "YYCURSOR" ∷ codes "YYLIMIT" ∷ codes "YYMARKER" ∷ codes "YYCTXMARKER" ∷ codes "YYFILL" ∷ codes "YYGETSTATE"
    ∷ codes "YYSETSTATE" ∷ codes "YYGETCONDITION" ∷ codes "YYSETCONDITION" ∷ codes "YYMTAGP" ∷ codes "YYMTAGN" ∷ codes "yych" ∷ codes "yyaccept"
    ∷ codes "yyt" ∷ codes "yyc_" ∷ codes "yyc" ∷ []

-- the spellings that are held: the usual ones where none are
abbrev pub held_names : Option (Vec (List ℕ)) → Spellings
held_names None = usual_names
held_names (Some words) = words.items

-- a spelling by its place, counted from 0
abbrev pub spelling_at : ℕ → Spellings → List ℕ
spelling_at place names = slice_index_or names place []

-- YYCTYPE, the type of a code unit
abbrev pub unit_type : Spellings → List ℕ
unit_type = spelling_at 0

-- YYCURSOR
abbrev pub cursor : Spellings → List ℕ
cursor = spelling_at 1

-- YYLIMIT
abbrev pub limit : Spellings → List ℕ
limit = spelling_at 2

-- YYMARKER
abbrev pub marker : Spellings → List ℕ
marker = spelling_at 3

-- YYCTXMARKER
abbrev pub context_marker : Spellings → List ℕ
context_marker = spelling_at 4

-- YYFILL
abbrev pub refill : Spellings → List ℕ
refill = spelling_at 5

-- YYGETSTATE
abbrev pub get_state : Spellings → List ℕ
get_state = spelling_at 6

-- YYSETSTATE
abbrev pub set_state : Spellings → List ℕ
set_state = spelling_at 7

-- YYGETCONDITION
abbrev pub get_condition : Spellings → List ℕ
get_condition = spelling_at 8

-- YYSETCONDITION
abbrev pub set_condition : Spellings → List ℕ
set_condition = spelling_at 9

-- YYMTAGP, which appends the cursor to a history
abbrev pub append_offset : Spellings → List ℕ
append_offset = spelling_at 10

-- YYMTAGN, which appends a negative event to a history
abbrev pub append_negative : Spellings → List ℕ
append_negative = spelling_at 11

-- yych, the present code unit
abbrev pub current_unit : Spellings → List ℕ
current_unit = spelling_at 12

-- yyaccept, the last accepting state
abbrev pub last_accept : Spellings → List ℕ
last_accept = spelling_at 13

-- the prefix of tag registers
abbrev pub tag_prefix : Spellings → List ℕ
tag_prefix = spelling_at 14

-- the prefix of condition labels
abbrev pub label_prefix : Spellings → List ℕ
label_prefix = spelling_at 15

-- the prefix of condition numbers
abbrev pub condition_prefix : Spellings → List ℕ
condition_prefix = spelling_at 16

-- words with single spaces between them, after a space or after a letter
abbrev pub IsWords : (after_space : Bool) → List ℕ → Type 0
IsWords after_space [] = after_space ≡ false
IsWords true (letter ∷ rest) = (is_in_identifier letter ≡ true) × IsWords false rest
IsWords false (letter ∷ rest) = ((is_in_identifier letter || (letter == 32)) ≡ true) × IsWords (letter == 32) rest

-- each spelling has at most 4,294,967,295 bytes, so that its length can be written
abbrev pub EachIsShort : Spellings → Type 0
EachIsShort [] = Unit {0}
EachIsShort (word ∷ words) = (length word < 2 ^ 32) × EachIsShort words

-- the spellings that a scanner may have
pub record AreAllowed (names : Spellings) : Type 0 where
  pub count : length names ≡ 17
  pub each_is_short : EachIsShort names
  pub unit_type : IsWords true (unit_type names)
  pub cursor : IsSpelling (cursor names)
  pub limit : IsSpelling (limit names)
  pub marker : IsSpelling (marker names)
  pub context_marker : IsSpelling (context_marker names)
  pub refill : IsSpelling (refill names)
  pub get_state : IsSpelling (get_state names)
  pub set_state : IsSpelling (set_state names)
  pub get_condition : IsSpelling (get_condition names)
  pub set_condition : IsSpelling (set_condition names)
  pub append_offset : IsSpelling (append_offset names)
  pub append_negative : IsSpelling (append_negative names)
  pub current_unit : IsIdentifier (current_unit names)
  pub last_accept : IsIdentifier (last_accept names)
  pub tag_prefix : IsIdentifier (tag_prefix names)
  pub label_prefix : IsIdentifier (label_prefix names)
  pub condition_prefix : IsIdentifier (condition_prefix names)

-- the word is none of the list
abbrev pub IsNoneOf : List ℕ → List (List ℕ) → Type 0
IsNoneOf word [] = Unit {0}
IsNoneOf word (other ∷ others) = (word ≡ other → ⊥) × IsNoneOf word others

-- no two words of the list are equal
abbrev pub AreDistinct : List (List ℕ) → Type 0
AreDistinct [] = Unit {0}
AreDistinct (word ∷ words) = IsNoneOf word words × AreDistinct words

-- what stands for a variable in emitted text
abbrev pub variables : Spellings → List (List ℕ)
variables names = cursor names ∷ limit names ∷ marker names ∷ context_marker names ∷ current_unit names ∷ last_accept names ∷ []

-- what stands for a call in emitted text
abbrev pub calls : Spellings → List (List ℕ)
calls names =
    refill names ∷ get_state names ∷ set_state names ∷ get_condition names ∷ set_condition names
    ∷ append_offset names ∷ append_negative names ∷ []

-- a variable is not spelled like something else that emitted text assigns
pub record IsFree (word : List ℕ) : Type 0 where
  pub null : word ≡ codes "NULL" → ⊥
  pub count : word ≡ codes "yynmatch" → ⊥
  pub groups : word ≡ codes "yypmatch" → ⊥
  pub group_entry : begins_with (codes "yypmatch[") word ≡ false

abbrev pub EachIsFree : List (List ℕ) → Type 0
EachIsFree [] = Unit {0}
EachIsFree (word ∷ words) = IsFree word × EachIsFree words

-- the word is not spelled like a register under this prefix
abbrev pub IsNoRegister : List ℕ → List ℕ → Type 0
IsNoRegister prefix word = (is_register prefix word ≡ false) × (is_history_register prefix word ≡ false)

abbrev pub EachIsNoRegister : List ℕ → List (List ℕ) → Type 0
EachIsNoRegister prefix [] = Unit {0}
EachIsNoRegister prefix (word ∷ words) = IsNoRegister prefix word × EachIsNoRegister prefix words

-- no two spellings mean different things in one place of emitted text
pub record DoNotClash (names : Spellings) : Type 0 where
  pub variables_differ : AreDistinct (variables names)
  pub variables_are_free : EachIsFree (variables names)
  pub calls_differ : AreDistinct (calls names)
  pub variables_are_no_registers : EachIsNoRegister (tag_prefix names) (variables names)

-- a call of the word is a call of the name: the word is the name, or goes on behind it with a parenthesis
abbrev pub calls_name : (name word : List ℕ) → Bool
calls_name name word = equal_words word name || begins_with (name ++ codes "(") word

-- a call of the word is one of an input primitive with a register
abbrev pub calls_primitive : List ℕ → Bool
calls_primitive word =
    calls_name (codes "YYSTAGP") word || (calls_name (codes "YYSTAGN") word || calls_name (codes "YYRESTORETAG") word)

-- a spelling that is called with one value means an input primitive in custom text
abbrev pub name_primitives : Spellings → Bool
name_primitives names =
    calls_primitive (set_state names) || (calls_primitive (set_condition names) || (calls_primitive (append_offset names) || calls_primitive (append_negative names)))

-- the word begins with the name of the table of sets
abbrev pub begins_table : List ℕ → Bool
begins_table word = equal_words (front_letters is_in_identifier word) (codes "yybm")

-- a spelling of a variable begins with the name of the table of sets
abbrev pub name_table : Spellings → Bool
name_table names =
    begins_table (cursor names) || (begins_table (limit names) || (begins_table (marker names) || (begins_table (context_marker names)
    || (begins_table (current_unit names) || begins_table (last_accept names)))))

-- what a user's tag may be called beside these spellings
pub record IsTagName (names : Spellings) (word : List ℕ) : Type 0 where
  pub identifier : IsIdentifier word
  pub no_variable : IsNoneOf word (variables names)
  pub not_count : word ≡ codes "yynmatch" → ⊥
  pub not_groups : word ≡ codes "yypmatch" → ⊥
  pub no_register : IsNoRegister (tag_prefix names) word
