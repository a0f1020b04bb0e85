-- Configurations: which there are, and what each sets by its value.
use Rattle.std.specs.Prelude.{ℕ, Bool, true, false, List, [], ◌∷◌, codes, ◌==◌, ◌&&◌, nat_le, not, Option, Some, None, if◌then◌else◌}
use Rattle.std.specs.List.{position_from}
use Rattle.std.specs.Option.{option_map}
use Rattle.std.specs.Str.{bytes_eq}
use Rattle.lx_base.specs.Allowed.{may_spell}
use Rattle.lx_base.specs.declared.faults.Fault.{Fault}
use Rattle.lx_base.specs.declared.faults.Fault.TheVariants.{UnknownConfig, BadValue}
use Rattle.lx_base.specs.Spelling.{greatest_unit}
use Rattle.lx_base.specs.declared.settings.Enc.{Enc}
use Rattle.lx_token.specs.declared.kinds.TokenKind.{TokenKind}
use Rattle.lx_token.specs.declared.kinds.TokenKind.TheVariants as kind
use Rattle.lx_token.specs.declared.numbers.Number.{Number}
use Rattle.lx_token.specs.Numbers.{number_of}
use Rattle.lx_rules.specs.declared.configurations.ConfigKind.{ConfigKind}
use Rattle.lx_rules.specs.declared.configurations.ConfigKind.TheVariants as config
use Rattle.lx_rules.specs.declared.environment.Setting.{Setting}
use Rattle.lx_rules.specs.declared.environment.Setting.TheVariants as set
use Rattle.lx_forms.specs.Lexemes.{Lexeme, points_in}
use Rattle.lx_exprs.specs.Checks.{is_among}

-- the configurations that spell the names of a scanner, in the order of the names
abbrev pub spelling_words : List (List ℕ)
spelling_words =
    codes "re2c:define:YYCTYPE" ∷ codes "re2c:define:YYCURSOR" ∷ codes "re2c:define:YYLIMIT" ∷ codes "re2c:define:YYMARKER"
    ∷ codes "re2c:define:YYCTXMARKER" ∷ codes "re2c:define:YYFILL" ∷ codes "re2c:define:YYGETSTATE" ∷ codes "re2c:define:YYSETSTATE"
    ∷ codes "re2c:define:YYGETCONDITION" ∷ codes "re2c:define:YYSETCONDITION" ∷ codes "re2c:define:YYMTAGP" ∷ codes "re2c:define:YYMTAGN"
    ∷ codes "re2c:variable:yych" ∷ codes "re2c:variable:yyaccept" ∷ codes "re2c:tags:prefix" ∷ codes "re2c:condprefix"
    ∷ codes "re2c:condenumprefix" ∷ []

-- the configuration of the code unit at the end of the input
abbrev pub eof_word : List ℕ
eof_word = codes "re2c:eof"

-- the configuration that enables refills
abbrev pub fill_word : List ℕ
fill_word = codes "re2c:yyfill:enable"

-- the configurations that have no effect
abbrev pub idle_words : List (List ℕ)
idle_words = codes "re2c:indent:top" ∷ codes "re2c:indent:string" ∷ []

-- the kind of the configuration of this name, if there is one; a name of a scanner is known by its place, counted from 0
abbrev pub config_kind : (name : List ℕ) → Option ConfigKind
config_kind name =
    if bytes_eq name eof_word then Some config.Eof
    else (if bytes_eq name fill_word then Some config.Fill
    else (if is_among name idle_words then Some config.Idle
    else option_map config.Spelling (position_from (bytes_eq name) 0 spelling_words)))

-- -1 stands for none, and a number from 0 to the greatest code unit for itself
abbrev pub eof_number : Enc → Number → Option (Option ℕ)
eof_number enc number =
    if number.is_negative && (number.magnitude == 1) then Some None
    else (if number.is_negative && not (number.magnitude == 0) then None
    else (if nat_le number.magnitude (greatest_unit enc) then Some (Some number.magnitude) else None))

-- the code unit, or none, that a value says
abbrev pub eof_of : Enc → TokenKind → (text : List ℕ) → Option (Option ℕ)
eof_of enc kind.Number text = eof_number enc (number_of text)
eof_of enc kind text = None

-- whether a number is 1 or 0
abbrev pub number_switch : Number → Option Bool
number_switch number =
    if number.magnitude == 0 then Some false
    else (if number.magnitude == 1 then (if number.is_negative then None else Some true) else None)

-- whether a value says 1 or 0
abbrev pub switch_of : TokenKind → (text : List ℕ) → Option Bool
switch_of kind.Number text = number_switch (number_of text)
switch_of kind text = None

-- the text that a value says: the characters of a string, and else the value as it stands
abbrev pub said_by : TokenKind → Lexeme → List ℕ
said_by kind.Str value = points_in value
said_by kind.IStr value = points_in value
said_by kind value = value.text

abbrev pub said : Lexeme → List ℕ
said value = said_by value.kind value

-- the name at this place spelled as a value says, if it may be so
abbrev pub spelling_of : (place : ℕ) → Lexeme → Option Setting
spelling_of place value = if may_spell place (said value) then Some (set.Spelling place (said value)) else None

-- what a configuration of a kind sets by its value, which may be one that is not allowed
abbrev pub set_by : Enc → ConfigKind → Lexeme → Option Setting
set_by enc (config.Spelling place) value = spelling_of place value
set_by enc config.Eof value = option_map set.Eof (eof_of enc value.kind value.text)
set_by enc config.Fill value = option_map set.Fill (switch_of value.kind value.text)
set_by enc config.Idle value = Some set.Nothing

-- what a configuration of this name sets by its value
abbrev pub setting_in : Enc → Option ConfigKind → Lexeme → Option Setting
setting_in enc None value = None
setting_in enc (Some kind) value = set_by enc kind value

abbrev pub setting_of : Enc → (name : List ℕ) → Lexeme → Option Setting
setting_of enc name value = setting_in enc (config_kind name) value

-- a configuration has a value that is allowed
abbrev pub value_fault : Lexeme → Option Setting → Option Fault
value_fault value (Some setting) = None
value_fault value None = Some (BadValue value.at)

-- a configuration is one that there is, and has such a value
abbrev pub kind_fault : Enc → (name value : Lexeme) → Option ConfigKind → Option Fault
kind_fault enc name value None = Some (UnknownConfig name.at name.text)
kind_fault enc name value (Some kind) = value_fault value (set_by enc kind value)

abbrev pub config_fault : Enc → (name value : Lexeme) → Option Fault
config_fault enc name value = kind_fault enc name value (config_kind name.text)
