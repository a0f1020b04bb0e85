-- What is promised of a piece of scanners.
use Rattle.std.specs.Prelude.{◌≡◌, ◌≢◌, ◌⊎◌, ℕ, ◌+◌, ◌*◌, ◌<◌, ◌≤◌, Bool, true, false, ◌&&◌, List, [], ◌∷◌, map, length, All, Contains, Option, Some, None, IfSome, IsSome, is_some, if◌then◌else◌}
use Rattle.std.specs.List.{AllByRecursion, list_any, range_with_len}
use Rattle.lx_auto.specs.Automaton.{IsAuto}
use Rattle.lx_auto.specs.declared.automaton.Accept.{Accept}
use Rattle.lx_auto.specs.declared.automaton.Auto.{Auto}
use Rattle.lx_auto.specs.declared.automaton.Edge.{Edge}
use Rattle.lx_auto.specs.declared.automaton.State.{State}
use Rattle.lx_base.specs.Names.{AreAllowed, DoNotClash, Spellings, begins_table, name_primitives, name_table}
use Rattle.lx_base.specs.Spelling.{greatest_unit}
use Rattle.lx_base.specs.declared.settings.Enc.{Enc}
use Rattle.lx_base.specs.declared.settings.Format.{Format}
use Rattle.lx_base.specs.declared.settings.Format.TheVariants.{Two}
use Rattle.lx_ccode.specs.Counts.{mregs_of, regs_of, state_count}
use Rattle.lx_ccode.specs.Runs.{entry_block}
use Rattle.lx_ccode.specs.Schedules.{ReadsUnasked}
use Rattle.lx_ccode.specs.States.{states_from}
use Rattle.lx_ccode.specs.Statements.{all_statements, has_register_one, is_refill, is_state}
use Rattle.lx_ccode.specs.Validity.{IsLabel, IsLine, IsShort, IsValid}
use Rattle.lx_ccode.specs.Heads.{is_format_three}
use Rattle.lx_ccode.specs.Labels.{is_like_block}
use Rattle.lx_ccode.specs.declared.piece.CodeBlock.{CodeBlock}
use Rattle.lx_ccode.specs.declared.piece.Head.{Head}
use Rattle.lx_ccode.specs.declared.piece.LineMark.{LineMark}
use Rattle.lx_ccode.specs.declared.piece.Mode.{Mode}
use Rattle.lx_ccode.specs.declared.piece.Mode.TheVariants.{Count, Eof, EofFixed, Plain}
use Rattle.lx_ccode.specs.declared.piece.Piece.{Piece}
use Rattle.lx_ccode.specs.declared.piece.Stmt.{Stmt}
use Rattle.lx_encode.specs.Units.{unit_size}
use Rattle.lx_fill.specs.Checks.{AreChecks}
use Rattle.lx_regex.specs.Order.{Policy}
use Rattle.lx_regex.specs.Pattern.{Pattern, end_rule}
use Rattle.lx_tdfa.specs.Promise.{IsAutoUnder}
use Rattle.lx_layout.specs.Actions.{IsOwnAction}
use Rattle.lx_layout.specs.Carries.{Carries}
use Rattle.lx_layout.specs.CheckedStates.{ChecksAs, ChecksByWalks}
use Rattle.lx_layout.specs.Endings.{Ending}
use Rattle.lx_layout.specs.EndedRules.{EndsRules}
use Rattle.lx_layout.specs.FewTests.{HasFewTests}
use Rattle.lx_layout.specs.Forgetting.{JumpsForget, endings_in}
use Rattle.lx_auto.specs.Shapes.{AreAgreed}
use Rattle.lx_layout.specs.LiveBlocks.{HasMetStates, IsLive}
use Rattle.lx_layout.specs.Parts.{Demand, Given, IsPartOf, Part, checked, checked_by}
use Rattle.lx_layout.specs.RightInMode.{HaveEndings, IsRightInMode}
use Rattle.lx_layout.specs.Writable.{CanBeWritten}

-- ---- what is given

-- a piece beside its scanners
pub record Form : Type 0 where
  -- the number in its output
  pub number : ℕ
  -- the format of its text
  pub format : Format
  pub names : Spellings
  pub enc : Enc
  -- whether it reads its input by primitives of the user's
  pub custom : Bool
  -- the unit that stands at the end of the input, if one does
  pub eof : Option ℕ
  -- whether refills are asked for, and whether the state is stored before each
  pub fill : Bool
  pub stores : Bool
  pub first_state : ℕ
  -- whether it has a switch over its states
  pub switches : Bool
  -- whether register 1 is spelled as the context marker, if a statement has it
  pub context : Bool
  pub line : Option LineMark

-- a scanner, with its condition, its automaton and the checks of that, the ends of its rules, and the rule at the end of the input
pub record Source : Type 0 where
  pub cond : Option (List ℕ)
  pub auto : Auto
  pub checks : List ℕ
  pub endings : ℕ → Ending
  pub end_rule : Option ℕ

-- how a scanner finds the end of its input: whether a unit stands there, and whether refills are asked for
abbrev pub mode_of : (eof : Option ℕ) → (fill : Bool) → Mode
mode_of None false = Plain
mode_of None true = Count
mode_of (Some eof) false = EofFixed
mode_of (Some eof) true = Eof

-- units are counted where refills are asked for and no unit stands at the end
abbrev pub counted : (eof : Option ℕ) → (fill : Bool) → (checks : List ℕ) → Option (List ℕ)
counted None true checks = Some checks
counted None false checks = None
counted (Some eof) fill checks = None

-- with a table of sets that are tested
abbrev pub demand_of : Form → (table : List ℕ) → (checks : List ℕ) → Demand
demand_of form table checks = record {
  eof = form.eof;
  tries = is_some form.eof && form.fill;
  check = checked_by (counted form.eof form.fill checks);
  stores = form.stores;
  format = form.format;
  table = table;
}

-- the scanner as it stands in blocks
abbrev pub source_in : List CodeBlock → Source → Source
source_in blocks scanner = record scanner { endings = endings_in blocks scanner.endings }

abbrev pub sources_in : List CodeBlock → List Source → List Source
sources_in blocks scanners = map (source_in blocks) scanners

abbrev pub given_of : Form → (table : List ℕ) → Source → Given
given_of form table scanner = record {
  cond = scanner.cond;
  demand = demand_of form table scanner.checks;
  endings = scanner.endings;
  end_rule = scanner.end_rule;
  auto = scanner.auto;
}

-- ---- what is asked

-- the conditions of scanners, where they have some
abbrev pub onto_conds : Option (List ℕ) → List (List ℕ) → List (List ℕ)
onto_conds None conds = conds
onto_conds (Some cond) conds = cond ∷ conds

abbrev pub conds_of : List Source → List (List ℕ)
conds_of [] = []
conds_of (scanner ∷ scanners) = onto_conds scanner.cond (conds_of scanners)

-- no two scanners have the same condition, and so at most one has none
abbrev pub HaveDifferentConditions : List Source → Type 0
HaveDifferentConditions [] = Unit {0}
HaveDifferentConditions (scanner ∷ scanners) =
    AllByRecursion (λ (other : Source). other.cond ≢ scanner.cond) scanners × HaveDifferentConditions scanners

-- an accept has a rule whose number and end can be written, and a value for each of its tags and of the ends of its groups
pub record FitsAccept (names : Spellings) (conds : List (List ℕ)) (endings : ℕ → Ending) (accept : Accept) : Type 0 where
  pub short : IsShort accept.rule
  pub ending : CanBeWritten names conds (endings accept.rule)
  pub values : length accept.values ≡ length (endings accept.rule).tags + 2 * (endings accept.rule).groups

-- the rule at the end of the input is one of its own, which gives nothing, and a unit stands there
pub record FitsEnd (form : Form) (conds : List (List ℕ)) (scanner : Source) (rule : ℕ) : Type 0 where
  pub short : IsShort rule
  pub ending : CanBeWritten form.names conds (scanner.endings rule)
  pub tags : (scanner.endings rule).tags ≡ []
  pub slash : (scanner.endings rule).slash ≡ None
  pub groups : (scanner.endings rule).groups ≡ 0
  pub alone : All (λ (state : State). IfSome state.accept (λ accept. accept.rule ≢ rule)) scanner.auto.states
  pub unit : IsSome form.eof

-- A scanner's condition, if it has one, is an identifier. Its automaton is well formed, for units of the encoding; its accepts have rules whose
-- ends are told, those of one rule with the same values; and its checks are those of the automaton.
pub record IsFitScanner (form : Form) (conds : List (List ℕ)) (scanner : Source) : Type 0 where
  pub label : IsLabel scanner.cond
  pub formed : IsAuto scanner.auto
  pub units : All (λ (state : State). All (λ (edge : Edge). edge.hi ≤ greatest_unit form.enc) state.edges) scanner.auto.states
  pub agreed : AreAgreed scanner.auto.states
  pub accepts : All (λ (state : State). IfSome state.accept (FitsAccept form.names conds scanner.endings)) scanner.auto.states
  pub checks : AreChecks scanner.auto scanner.checks
  -- in format 3 no tag is named as the table
  pub tags : is_format_three form.format ≡ true
      → All (λ (state : State). IfSome state.accept (λ accept. list_any begins_table (scanner.endings accept.rule).tags ≡ false)) scanner.auto.states
  pub end : IfSome scanner.end_rule (FitsEnd form conds scanner)

-- there are scanners, all with a condition or one without; and what is given beside them can be written
pub record AreFit (form : Form) (scanners : List Source) : Type 0 where
  pub some : 0 < length scanners
  pub each : All (IsFitScanner form (conds_of scanners)) scanners
  pub conds : (length (conds_of scanners) ≡ length scanners) ⊎ (length scanners ≡ 1)
  pub different : HaveDifferentConditions scanners
  pub first_state : form.first_state ≤ 4611686018427387904
  pub eof : IfSome form.eof (λ unit. unit ≤ greatest_unit form.enc)
  pub names : AreAllowed form.names
  pub names_differ : DoNotClash form.names
  pub no_primitive : form.custom ≡ true → name_primitives form.names ≡ false
  -- in format 3 no spelling of a variable means the table, and no label of a condition begins as those of blocks do
  pub no_table : is_format_three form.format ≡ true → name_table form.names ≡ false
  pub no_block_label : is_format_three form.format ≡ true → list_any (is_like_block form.number form.names) (conds_of scanners) ≡ false
  pub line : IsLine form.line

-- ---- what is promised of a scanner

-- a match may begin in this condition: in that of the scanner, or whatever it is called where the scanner has none
abbrev pub MayBegin : Option (List ℕ) → (cond : List ℕ) → Type 0
MayBegin None cond = Unit {0}
MayBegin (Some own) cond = cond ≡ own

-- Where units are counted, states check as the list says; and so each check is for as many units as some walk reads before it stops or comes
-- to the next one.
abbrev pub ChecksIn : Mode → Piece → (entry : ℕ) → (place : ℕ → ℕ) → Auto → (checks : List ℕ) → Type 0
ChecksIn Count piece entry place auto checks =
    ChecksAs piece entry place auto (checked checks) × ChecksByWalks piece entry place auto checks
ChecksIn mode piece entry place auto checks = Unit {0}

-- A scanner stands in a piece: it carries its automaton, checks as the list says where units are counted, ends its rules as they are given
-- and forgets what it kept before it goes on, and tests units few times. It is right in its mode where the automaton is that of its rules.
pub record IsScannerIn (mode : Mode) (enc : Enc) (given : Given) (checks : List ℕ) (piece : Piece) : Type 0 where
  pub entry : ℕ
  pub begins : (cond : List ℕ) → MayBegin given.cond cond → entry_block piece.conds cond ≡ Some entry
  pub carries : Carries piece entry (endings_in piece.blocks given.endings) given.auto
  pub needs : ChecksIn mode piece entry carries.place given.auto checks
  pub rules : EndsRules piece entry (endings_in piece.blocks given.endings)
  pub tests : HasFewTests piece entry given.demand.format carries.place given.demand.eof (greatest_unit enc) given.auto
  pub right : (policy : Policy) (patterns : List Pattern) (cond : List ℕ) → IsAutoUnder policy enc patterns given.auto
      → HaveEndings enc patterns given.endings → end_rule patterns ≡ given.end_rule → MayBegin given.cond cond
      → IsRightInMode policy mode cond enc patterns given.endings piece

-- ---- what is promised of a piece

abbrev pub head_of : Form → List CodeBlock → Head
head_of form blocks = record {
  format = form.format;
  custom = form.custom;
  enc = form.enc;
  mode = mode_of form.eof form.fill;
  regs = regs_of blocks;
  mregs = mregs_of blocks;
  states = state_count blocks;
}

-- The fields beside the blocks. It declares its variables itself where it stores no state, and has a table of sets in format 3 alone; register 1
-- is spelled as the context marker only where a statement has it.
pub record HasFields (form : Form) (conds : List (List ℕ)) (piece : Piece) : Type 0 where
  pub number : piece.number ≡ form.number
  pub head : piece.head ≡ Some (head_of form piece.blocks)
  pub names : piece.names ≡ form.names
  pub unit : piece.unit ≡ unit_size form.enc
  pub eof : piece.eof ≡ form.eof
  pub declares : piece.declares ≡ (if form.stores then false else true)
  pub table : form.format ≡ Two → piece.table ≡ []
  pub ctx : piece.ctx ≡ form.context && list_any has_register_one (all_statements piece.blocks)
  pub switches : is_some piece.states ≡ form.switches
  pub conds_are : map (λ case. case.cond) piece.conds ≡ conds
  pub line : piece.line ≡ form.line

-- the statement is no action, or that of a rule of one of the scanners, with its line
abbrev pub IsActionOf : List Source → Stmt → Type 0
IsActionOf scanners statement = (scanner : Source) × Contains scanners scanner × IsOwnAction scanner.endings statement

-- The piece of scanners is valid, and each of them stands in it. The states that it stores are numbered from the first number on, in
-- their order; it stores one before each refill, or none. Where refills are asked for it asks for some, if it reads units. What a match
-- kept is forgotten before another one begins by a jump.
pub record IsPieceOf (form : Form) (scanners : List Source) (piece : Piece) : Type 0 where
  pub valid : IsValid piece
  pub fields : HasFields form (conds_of scanners) piece
  pub numbered : map (λ case. case.state) (states_from 0 piece.blocks) ≡ range_with_len form.first_state (state_count piece.blocks)
  pub stored : list_any is_state (all_statements piece.blocks) ≡ form.stores && list_any is_refill (all_statements piece.blocks)
  pub asks : ReadsUnasked piece → form.fill ≡ false
  pub forgets : JumpsForget piece.blocks
  pub actions : AllByRecursion (IsActionOf scanners) (all_statements piece.blocks)
  pub stand : AllByRecursion (λ (scanner : Source).
      IsScannerIn (mode_of form.eof form.fill) form.enc (given_of form piece.table scanner) scanner.checks piece) scanners
  -- no block is dead, where each state of each automaton is met
  pub live : AllByRecursion (λ (scanner : Source). HasMetStates scanner.auto) scanners → (block : ℕ) → block < length piece.blocks → IsLive piece block

-- with a table of sets each scanner has a part
abbrev pub ArePartsOf : Form → (table : List ℕ) → List Source → List Part → Type 0
ArePartsOf form table [] [] = Unit {0}
ArePartsOf form table (scanner ∷ scanners) (part ∷ parts) =
    IsPartOf (greatest_unit form.enc) (given_of form table scanner) part × ArePartsOf form table scanners parts
ArePartsOf form table scanners parts = ⊥
