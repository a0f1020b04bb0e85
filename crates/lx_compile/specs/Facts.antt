-- What directives tell of all pieces of an output, and the faults of directives.
use Rattle.std.specs.Prelude.{ℕ, max, Bool, true, false, not, ◌&&◌, ◌||◌, ◌==◌, List, [], ◌∷◌, ◌++◌, map, codes, Option, Some, None, if◌then◌else◌}
use Rattle.std.specs.List.{filter, list_any, range_with_len}
use Rattle.std.specs.Option.{option_or}
use Rattle.lx_base.specs.Letters.{begins_with}
use Rattle.lx_base.specs.Names.{Spellings}
use Rattle.lx_base.specs.declared.faults.Fault.{Fault}
use Rattle.lx_base.specs.declared.faults.Fault.TheVariants.{BadValue, Condition, NoRules}
use Rattle.lx_base.specs.declared.places.Pos.{Pos}
use Rattle.lx_ccode.specs.Bodies.{body_then}
use Rattle.lx_ccode.specs.Counts.{mregs_of, regs_of}
use Rattle.lx_ccode.specs.States.{states_from}
use Rattle.lx_ccode.specs.Statements.{all_statements, has_register_one}
use Rattle.lx_ccode.specs.declared.bodies.Body.{Body}
use Rattle.lx_ccode.specs.declared.bodies.Body.TheVariants.{Empty, MaxFill, MaxGroups, Registers, Histories, Conditions, StateSwitch}
use Rattle.lx_ccode.specs.declared.bodies.FileState.{FileState}
use Rattle.lx_ccode.specs.declared.bodies.Format.{Format}
use Rattle.lx_ccode.specs.declared.piece.CondCase.{CondCase}
use Rattle.lx_ccode.specs.declared.piece.Piece.{Piece}
use Rattle.lx_exprs.specs.Checks.{is_among}
use Rattle.lx_compile.specs.declared.made.Made.{Made}
use Rattle.lx_compile.specs.declared.made.Made.TheVariants.{Scanners, Bare}
use Rattle.lx_compile.specs.declared.parts.Directive.{Directive}
use Rattle.lx_compile.specs.declared.parts.Directive.TheVariants as directive

-- ---- facts of the file

-- the pieces of scanners
abbrev pub pieces_among : List Made → List Piece
pieces_among [] = []
pieces_among (Scanners piece checks warnings cover groups ∷ made) = piece ∷ pieces_among made
pieces_among (other ∷ made) = pieces_among made

-- the greatest of numbers, or the least one that it may be
abbrev pub greatest : (least : ℕ) → List ℕ → ℕ
greatest least [] = least
greatest least (number ∷ numbers) = max number (greatest least numbers)

-- the greatest of the numbers in lists
abbrev pub greatest_in : (least : ℕ) → List (List ℕ) → ℕ
greatest_in least [] = least
greatest_in least (numbers ∷ lists) = greatest (greatest_in least lists) numbers

-- the greatest number of units that a check asks for, at least 1
abbrev pub units_of : List Made → ℕ
units_of [] = 1
units_of (Scanners piece checks warnings cover groups ∷ made) = greatest_in (units_of made) checks
units_of (other ∷ made) = units_of made

-- the greatest number of groups of a rule of the file's scanners, at least 1
abbrev pub groups_of : List Made → ℕ
groups_of [] = 1
groups_of (Scanners piece checks warnings cover groups ∷ made) = max groups (groups_of made)
groups_of (other ∷ made) = groups_of made

-- the greatest number of a register, or 0
abbrev pub last_register : List Piece → ℕ
last_register [] = 0
last_register (piece ∷ pieces) = max (regs_of piece.blocks) (last_register pieces)

-- the piece spells a register 1 by the prefix
abbrev pub spells_first : Piece → Bool
spells_first piece = not piece.ctx && list_any has_register_one (all_statements piece.blocks)

-- register 1 is the context marker alone: some piece spells it so, and none spells it by the prefix
abbrev pub is_marker_alone : List Piece → Bool
is_marker_alone pieces = list_any (λ (piece : Piece). piece.ctx) pieces && not (list_any spells_first pieces)

-- the registers that are listed
abbrev pub registers_of : List Piece → List ℕ
registers_of pieces =
    filter (λ register. not (is_marker_alone pieces && (register == 1))) (range_with_len 1 (last_register pieces))

-- one more than the greatest number of a history, or 0
abbrev pub history_count : List Piece → ℕ
history_count [] = 0
history_count (piece ∷ pieces) = max (mregs_of piece.blocks) (history_count pieces)

-- the histories that are listed
abbrev pub histories_of : List Piece → List ℕ
histories_of pieces = range_with_len 0 (history_count pieces)

-- the names of conditions behind others, each once
abbrev pub with_conditions : (seen : List (List ℕ)) → List CondCase → List (List ℕ)
with_conditions seen [] = seen
with_conditions seen (case ∷ cases) =
    if is_among case.cond seen then with_conditions seen cases else with_conditions (seen ++ case.cond ∷ []) cases

abbrev pub conditions_behind : (seen : List (List ℕ)) → List Piece → List (List ℕ)
conditions_behind seen [] = seen
conditions_behind seen (piece ∷ pieces) = conditions_behind (with_conditions seen piece.conds) pieces

-- the conditions, each once and in the order of their first scanners
abbrev pub conditions_of : List Piece → List (List ℕ)
conditions_of pieces = conditions_behind [] pieces

-- the states of a piece, in an output
abbrev pub piece_states : Piece → List FileState
piece_states piece = map (λ case. record { number = piece.number; case = case }) (states_from 0 piece.blocks)

-- the states of all pieces, in order
abbrev pub file_states : List Piece → List FileState
file_states [] = []
file_states (piece ∷ pieces) = piece_states piece ++ file_states pieces

-- ---- bodies

-- the switch over the states of a file, which leads to the start of the first piece where none is stored
abbrev pub state_switch : List FileState → List Piece → Body
state_switch states [] = Empty
state_switch states (piece ∷ pieces) = StateSwitch states piece.number piece.conds

-- a list in a format
abbrev pub listed : (Format → Body) → Option Format → Body
listed body None = Empty
listed body (Some format) = body format

-- the body of the piece in a directive's place
abbrev pub body_of : List Made → Directive → Body
body_of made directive.Nothing = Empty
body_of made directive.Max = MaxFill (units_of made)
body_of made directive.MaxNmatch = MaxGroups (groups_of made)
body_of made (directive.Stags format) = listed (λ format. Registers format (registers_of (pieces_among made))) format
body_of made (directive.Mtags format) = listed (λ format. Histories format (histories_of (pieces_among made))) format
body_of made directive.Types = Conditions (conditions_of (pieces_among made))
body_of made directive.GetState = state_switch (file_states (pieces_among made)) (pieces_among made)

-- ---- faults

-- somewhere in the text `/*!` begins
abbrev pub holds_opener : List ℕ → Bool
holds_opener [] = false
holds_opener (letter ∷ text) = if begins_with (codes "/*!") (letter ∷ text) then true else holds_opener text

-- the strings of a list hold one, or are none of bytes
abbrev pub is_wrong_format : Option Format → Bool
is_wrong_format None = true
is_wrong_format (Some format) = holds_opener format.format || holds_opener format.separator

-- so do those of a directive
abbrev pub has_wrong_strings : Directive → Bool
has_wrong_strings (directive.Stags format) = is_wrong_format format
has_wrong_strings (directive.Mtags format) = is_wrong_format format
has_wrong_strings other = false

-- conditions are asked for where there are none
abbrev pub no_conditions_fault : Pos → List (List ℕ) → Option Fault
no_conditions_fault at [] = Some (Condition at)
no_conditions_fault at (cond ∷ conds) = None

-- states are asked for where there is no scanner
abbrev pub no_scanner_fault : Pos → List Piece → Option Fault
no_scanner_fault at [] = Some (NoRules at)
no_scanner_fault at (piece ∷ pieces) = None

-- what a directive asks for is not there
abbrev pub missing_fault : List Piece → Pos → Directive → Option Fault
missing_fault pieces at directive.Types = no_conditions_fault at (conditions_of pieces)
missing_fault pieces at directive.GetState = no_scanner_fault at pieces
missing_fault pieces at other = None

-- the strings of a directive, or the text that it gives by these spellings, are wrong
abbrev pub text_fault : Spellings → List Made → Pos → Directive → Option Fault
text_fault names made at directive =
    if has_wrong_strings directive || holds_opener (body_then names (body_of made directive) []) then Some (BadValue at) else None

-- the fault of a directive whose opener stands at a place
abbrev pub directive_fault : Spellings → List Made → Pos → Directive → Option Fault
directive_fault names made at directive = option_or (missing_fault (pieces_among made) at directive) (text_fault names made at directive)

-- the fault of the first directive among some that has one, where all this is made
abbrev pub fault_among : Spellings → (all : List Made) → List Made → Option Fault
fault_among names all [] = None
fault_among names all (Bare at line directive ∷ made) = option_or (directive_fault names all at directive) (fault_among names all made)
fault_among names all (other ∷ made) = fault_among names all made

-- the fault of the first directive that has one
abbrev pub directives_fault : Spellings → List Made → Option Fault
directives_fault names made = fault_among names made made
