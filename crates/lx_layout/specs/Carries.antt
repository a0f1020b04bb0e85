-- When a piece carries an automaton: the states of the automaton are blocks of the piece, and its registers are registers of the piece.
use Rattle.std.specs.Prelude.{◌≡◌, ◌⊎◌, ℕ, suc, ◌+◌, ◌*◌, ◌^◌, ◌<◌, ◌≤◌, Bool, true, List, [], ◌∷◌, ◌++◌, length, drop, Option, Some, None, slice_get}
use Rattle.std.specs.List.{AllByRecursion}
use Rattle.lx_auto.specs.Automaton.{edge_on, state_of}
use Rattle.lx_auto.specs.Bank.{Bank}
use Rattle.lx_auto.specs.Run.{Left, Standing, behind_edge, found_behind, run, start_with}
use Rattle.lx_auto.specs.declared.automaton.Auto.{Auto}
use Rattle.lx_auto.specs.declared.automaton.Edge.{Edge}
use Rattle.lx_ccode.specs.declared.piece.Piece.{Piece}
use Rattle.lx_ccode.specs.declared.piece.Stmt.{Stmt}
use Rattle.lx_ccode.specs.declared.piece.Stmt.TheVariants.{Peek}
use Rattle.lx_ccode.specs.Effects.{history_written}
use Rattle.lx_ccode.specs.Machine.{Answer, Machine, Outcome, code_at, ends, goes_on}
use Rattle.lx_ccode.specs.Runs.{ended}
use Rattle.lx_ccode.specs.Scanners.{IsMadeBy, IsOfScanner, StandsIn, histories_named, registers_named, units_checked}
use Rattle.lx_ccode.specs.Traces.{JumpsLastTo, count_made, is_peek, is_skip, trace}
use Rattle.lx_layout.specs.Codes.{saved_by}
use Rattle.lx_layout.specs.Endings.{Ending}
use Rattle.lx_layout.specs.Stops.{told_found}

-- the state with this number has an edge
abbrev pub HasEdge : Auto → (number : ℕ) → Type 0
HasEdge auto number = (state_of auto.states number).edges ≡ [] → ⊥

-- a run of the automaton stands so behind some word, from some start, whatever its registers hold there, but that history 0 is empty
abbrev pub IsReached : Auto → Standing → Type 0
IsReached auto standing =
    (start : ℕ) × (bank : Bank) × (word : List ℕ) × (bank.mregs 0 ≡ []) × (run auto (start_with start bank) word ≡ Some standing)

-- it is a unit of the piece, whose units have so many bytes
abbrev pub IsUnitOf : Piece → ℕ → Type 0
IsUnitOf piece unit = unit < 2 ^ (8 * piece.unit)

-- there are units enough for the code of a block: one before the limit, and as many as its checks are for
pub record HasUnits (code : List Stmt) (machine : Machine) : Type 0 where
  pub one : machine.cursor < machine.limit
  pub checked : AllByRecursion (λ statement. machine.cursor + units_checked statement ≤ machine.limit) code

-- A statement names registers of the automaton, or the one spare of each sort, and never writes history 0, which is the empty one.
-- Register r of the automaton is register r + 1 of the piece, and histories keep their numbers.
pub record NamesItsOwn (auto : Auto) (statement : Stmt) : Type 0 where
  pub registers : AllByRecursion (λ register. (0 < register) × (register ≤ auto.regs + 1)) (registers_named statement)
  pub histories : AllByRecursion (λ history. history ≤ auto.mregs) (histories_named statement)
  pub empty : history_written statement ≡ Some 0 → ⊥

-- a number is that which is kept of a state, if one is
abbrev pub HasNumber : (saved : Option ℕ) → (number : ℕ) → Type 0
HasNumber None number = Unit {0}
HasNumber (Some saved) number = number ≡ saved

-- Rules end so; each state has a place, which is a block, and a number by which it is saved, if numbers are kept; and from some states a match
-- falls back.
module _ (piece : Piece) (endings : ℕ → Ending) (auto : Auto) (place : ℕ → ℕ) (saved : Option (ℕ → ℕ)) (falls : ℕ → Bool) where
  -- the machine has saved this state, with the marker where it was left; none by the number 0
  abbrev pub HasSaved : Option Left → Machine → Type 0
  HasSaved None machine = machine.accept ≡ 0
  HasSaved (Some left) machine = HasNumber (saved_by saved left.state) machine.accept × (machine.marker ≡ left.offset)

  -- the machine stands where a run of the automaton stands, and its registers are the automaton's
  pub record StandsAs (machine : Machine) (standing : Standing) : Type 0 where
    pub cursor : machine.cursor ≡ standing.offset
    pub registers : (reg : ℕ) → reg < auto.regs → machine.registers (suc reg) ≡ standing.bank.regs reg
    pub histories : (mreg : ℕ) → mreg < auto.mregs → machine.histories mreg ≡ standing.bank.mregs mreg
    -- what was saved counts where a match falls back
    pub left : falls standing.state ≡ true → HasSaved standing.left machine
    -- nothing was given yet
    pub values : machine.values ≡ []

  module _ (stream : List ℕ) (code : List Stmt) (machine : Machine) (answers : List Answer) where
    -- Some steps lead to the place of a state, where the machine stands as the run does. They pass so many units and read no more.
    -- They ask for no refill.
    pub record LeadsTo (units : ℕ) (standing : Standing) : Type 0 where
      pub steps : ℕ
      pub next : List Stmt
      pub after : Machine
      pub leads : (trace piece stream steps code machine answers).next ≡ goes_on next after answers
      pub at_place : code_at piece.blocks (Some (place standing.state)) ≡ Some next
      pub stands : StandsAs after standing
      pub passes : count_made is_skip (trace piece stream steps code machine answers).made ≡ units
      pub reads : count_made is_peek (trace piece stream steps code machine answers).made ≤ units
      pub limit : after.limit ≡ machine.limit
      pub cond : after.cond ≡ machine.cond

    -- Some steps pass so many units, read at most one more, and end the match as it ends where the run stands: by the rule of the state
    -- or of one to which it falls back, with the values in the automaton's registers, or by no rule.
    pub record EndsAs (units : ℕ) (standing : Standing) : Type 0 where
      pub steps : ℕ
      pub outcome : Outcome
      pub after : Machine
      pub over : (trace piece stream steps code machine answers).next ≡ ends outcome after
      pub tells : ended outcome after ≡ told_found endings machine.cond (found_behind auto standing) standing.offset
      pub passes : count_made is_skip (trace piece stream steps code machine answers).made ≡ units
      pub reads : count_made is_peek (trace piece stream steps code machine answers).made ≤ suc units

    -- the steps follow an edge: they pass its unit, and the last one jumps to the place of the next state
    pub record Follows (standing : Standing) (edge : Edge) : Type 0 where
      pub leads : LeadsTo 1 (behind_edge (state_of auto.states standing.state) standing edge)
      pub jumps : JumpsLastTo (place edge.to) (trace piece stream leads.steps code machine answers).made

    -- they follow the edge that is on a unit; where none is, the match ends and passes no unit
    abbrev pub GoesBy : Standing → Option Edge → Type 0
    GoesBy standing None = EndsAs 0 standing
    GoesBy standing (Some edge) = Follows standing edge

  -- from a block, with units enough, each unit leads the machine on as it leads the run on
  pub record ReadsAs (block : ℕ) (standing : Standing) : Type 0 where
    pub code : List Stmt
    pub is : code_at piece.blocks (Some block) ≡ Some code
    pub goes : (stream : List ℕ) (machine : Machine) (answers : List Answer) (unit : ℕ) → StandsAs machine standing → HasUnits code machine
        → slice_get stream machine.cursor ≡ Some unit → IsUnitOf piece unit
        → GoesBy stream code machine answers standing (edge_on (state_of auto.states standing.state).edges unit)

  -- from a block the match ends, whether a unit follows or not
  pub record StopsAs (block : ℕ) (standing : Standing) : Type 0 where
    pub code : List Stmt
    pub is : code_at piece.blocks (Some block) ≡ Some code
    pub stops : (stream : List ℕ) (machine : Machine) (answers : List Answer) → StandsAs machine standing
        → EndsAs stream code machine answers 0 standing

-- On a stream a run of the automaton from a start stands so behind a word, and no edge is on the next unit. All units are of the piece.
pub record StopsBehind (piece : Piece) (auto : Auto) (stream : List ℕ) (start : ℕ) (bank : Bank) (word : List ℕ) (last : Standing) : Type 0 where
  pub unit : ℕ
  pub rest : List ℕ
  pub split : drop start stream ≡ word ++ unit ∷ rest
  pub units : AllByRecursion (IsUnitOf piece) (drop start stream)
  pub runs : run auto (start_with start bank) word ≡ Some last
  pub none : edge_on (state_of auto.states last.state).edges unit ≡ None

-- The scanner that begins at a block of a piece carries an automaton, with these ends of rules.
pub record Carries (piece : Piece) (entry : ℕ) (endings : ℕ → Ending) (auto : Auto) : Type 0 where
  -- where each state stands, the number by which it is saved for a fallback, if numbers are kept, and whether a match falls back from it
  pub place : ℕ → ℕ
  pub saved : Option (ℕ → ℕ)
  pub falls : ℕ → Bool
  -- states with an edge stand at different blocks of the piece
  pub blocks : (state : ℕ) → HasEdge auto state → place state < length piece.blocks
  pub apart : (state other : ℕ) → HasEdge auto state → HasEdge auto other → place state ≡ place other → state ≡ other
  -- each block of the scanner that reads a unit is one of these, or the entry
  pub peeks : (block : ℕ) → IsOfScanner piece.blocks entry block → StandsIn piece.blocks block Peek
      → (block ≡ entry) ⊎ ((state : ℕ) × HasEdge auto state × (place state ≡ block))
  pub registers : (statement : Stmt) → IsMadeBy piece.blocks entry statement → NamesItsOwn auto statement
  -- a match goes on from the entry as a run from its start, and from the place of each state as a run that stands in the state
  pub starts : (start : ℕ) (bank : Bank) → bank.mregs 0 ≡ [] → ReadsAs piece endings auto place saved falls entry (start_with start bank)
  pub moves : (standing : Standing) → IsReached auto standing → ReadsAs piece endings auto place saved falls (place standing.state) standing
  -- a state without an edge needs no unit
  pub stops : (standing : Standing) → IsReached auto standing → (state_of auto.states standing.state).edges ≡ []
      → StopsAs piece endings auto place saved falls (place standing.state) standing
