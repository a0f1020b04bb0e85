-- When a piece is right in a mode: under each legal schedule its run tells the match of the rules, with the values of the rule's tags.
use Rattle.std.specs.Prelude.{◌≡◌, ◌≢◌, ◌⊎◌, ℕ, ◌+◌, ◌<◌, ◌≤◌, List, [], length, drop, Option, Some, None, All, Contains, IfSome, IsSome, true, false}
use Rattle.std.specs.List.{list_any}
use Rattle.lx_auto.specs.declared.automaton.Auto.{Auto}
use Rattle.lx_base.specs.declared.settings.Enc.{Enc}
use Rattle.lx_ccode.specs.Machine.{at_end, is_among, unanswered}
use Rattle.lx_ccode.specs.Runs.{Ended}
use Rattle.lx_ccode.specs.Schedules.{IsLegal, Schedule}
use Rattle.lx_ccode.specs.Statements.{all_statements, is_refill, is_state}
use Rattle.lx_ccode.specs.States.{states_from}
use Rattle.lx_ccode.specs.Validity.{AreOnce}
use Rattle.lx_ccode.specs.declared.piece.Mode.{Mode}
use Rattle.lx_ccode.specs.declared.piece.Mode.TheVariants.{Count, Eof, EofFixed, Plain}
use Rattle.lx_ccode.specs.declared.piece.Piece.{Piece}
use Rattle.lx_ccode.specs.declared.piece.Stmt.TheVariants.{Need}
use Rattle.lx_fill.specs.Checks.{Suffices, graph_of}
use Rattle.lx_regex.specs.Cut.{BeginsMatch}
use Rattle.lx_regex.specs.Kernel.{IsWord}
use Rattle.lx_regex.specs.Match.{IsMatch, IsWordAt, Outcome}
use Rattle.lx_regex.specs.Order.{Policy}
use Rattle.lx_regex.specs.Pattern.{Pattern, end_rule, terms_of, with_terms}
use Rattle.lx_layout.specs.Endings.{Ending}
use Rattle.lx_layout.specs.Right.{IsSetBy}
use Rattle.lx_layout.specs.Starts.{run_with}
use Rattle.lx_layout.specs.Supplies.{Reader, Supply}
use Rattle.lx_layout.specs.Told.{told_of}

-- ---- what is asked

-- the ends of rules put the cursor back to their trailing contexts, and that of the rule at the end of the input gives nothing
pub record HaveEndings (enc : Enc) (patterns : List Pattern) (endings : ℕ → Ending) : Type 0 where
  pub slashes : All (λ (pattern : Pattern). (endings pattern.number).slash ≡ pattern.slash) (with_terms patterns)
  pub set : All (λ (pattern : Pattern). IsSetBy enc pattern pattern.slash) (with_terms patterns)
  pub bare : IfSome (end_rule patterns) (λ rule. ((endings rule).tags ≡ []) × ((endings rule).slash ≡ None) × ((endings rule).groups ≡ 0))

-- the start has a check where it has an edge, and no walk from a state with a check reads more units before the next one
pub record AreEnough (auto : Auto) (check : (state : ℕ) → ℕ) : Type 0 where
  pub start : graph_of auto 0 ≢ [] → check 0 ≢ 0
  pub most : (state : ℕ) → check state ≢ 0 → Suffices (graph_of auto) check state (check state)

-- the piece asks for no refill
abbrev pub AsksNothing : Piece → Type 0
AsksNothing piece = list_any is_refill (all_statements piece.blocks) ≡ false

-- the supply is that of the mode
abbrev pub IsSupplyOf : Mode → Supply → Auto → Piece → Type 0
IsSupplyOf Plain supply auto piece = (supply.eof ≡ None) × ((state : ℕ) → supply.check state ≡ 0) × AsksNothing piece
IsSupplyOf Count supply auto piece = (supply.eof ≡ None) × AreEnough auto supply.check
IsSupplyOf EofFixed supply auto piece = IsSome supply.eof × (supply.tries ≡ false) × AsksNothing piece
IsSupplyOf Eof supply auto piece = IsSome supply.eof × (supply.tries ≡ true)

-- no state is stored; or each number by which one is stored is that of one place
abbrev pub AreStoredBy : Option (Reader → ℕ) → Piece → Type 0
AreStoredBy None piece = list_any is_state (all_statements piece.blocks) ≡ false
AreStoredBy (Some number) piece = AreOnce (states_from 0 piece.blocks)

-- the piece gets its units so, in this mode
pub record IsSupplied (mode : Mode) (supply : Supply) (auto : Auto) (piece : Piece) : Type 0 where
  pub eof : piece.eof ≡ supply.eof
  pub of_mode : IsSupplyOf mode supply auto piece
  pub stored : AreStoredBy supply.stored piece
  pub among : (set unit : ℕ) → supply.among set unit ≡ is_among piece.table set unit

-- ---- what is promised

-- without a test of the end the input goes on with a word that begins no match
abbrev pub GoesOn : Mode → Enc → List Pattern → (stream : List ℕ) → (start : ℕ) → Type 0
GoesOn Plain enc patterns stream start =
    (word : List ℕ) × IsWordAt stream start word × (BeginsMatch enc (terms_of patterns) word → ⊥)
GoesOn mode enc patterns stream start = Unit {0}

-- where units are counted the run may end at a check for more units than the input has left
abbrev pub EndsAtCheck : Mode → Piece → (units : ℕ) → Ended → Type 0
EndsAtCheck Count piece units ended =
    (ended.outcome ≡ at_end) × ((needed : ℕ) × Contains (all_statements piece.blocks) (Need needed) × (units < ended.cursor + needed))
EndsAtCheck mode piece units ended = ⊥

-- the run tells a match of the rules, by the trees that the policy means
abbrev pub TellsMatch : Policy → (cond : List ℕ) → Enc → List Pattern → (endings : ℕ → Ending) → (stream : List ℕ) → (start : ℕ) → Ended → Type 0
TellsMatch policy cond enc patterns endings stream start ended =
    (outcome : Outcome) × IsMatch policy enc patterns stream start outcome × (ended ≡ told_of endings cond outcome)

-- On every stream of units of the encoding, from every start, and under every legal schedule that answers each refill asked, the run in this
-- condition tells the match of the rules; and so whatever registers hold where the match begins, if only history 0 is empty.
abbrev pub IsRightInMode : Policy → Mode → (cond : List ℕ) → Enc → List Pattern → (endings : ℕ → Ending) → Piece → Type 0
IsRightInMode policy mode cond enc patterns endings piece =
    (stream : List ℕ) (start : ℕ) (schedule : Schedule) (registers : ℕ → Option ℕ) (histories : ℕ → List (Option ℕ))
    → start ≤ length stream → IsWord enc (terms_of patterns) (drop start stream) → IsLegal piece (length stream) start schedule
    → GoesOn mode enc patterns stream start → histories 0 ≡ []
    → (run_with piece stream start registers histories cond schedule).outcome ≢ unanswered
    → EndsAtCheck mode piece (length stream) (run_with piece stream start registers histories cond schedule)
    ⊎ TellsMatch policy cond enc patterns endings stream start (run_with piece stream start registers histories cond schedule)
