-- What is known before blocks are made: the transition classes and the tests of each state, the rules by which states accept, and where blocks stand.
use Rattle.std.specs.Prelude.{◌≡◌, ℕ, List, map, Option, None}
use Rattle.std.specs.List.{AllByRecursion}
use Rattle.lx_auto.specs.Automaton.{AreApart}
use Rattle.lx_auto.specs.declared.automaton.Accept.{Accept}
use Rattle.lx_auto.specs.declared.automaton.State.{State}
use Rattle.lx_ccode.specs.declared.piece.CodeBlock.{CodeBlock}
use Rattle.lx_ccode.specs.declared.piece.Stmt.{Stmt}
use Rattle.lx_layout.specs.NumberIndexes.{first_place, noted_place}
use Rattle.lx_layout.specs.declared.accepts.First.{First}
use Rattle.lx_layout.specs.declared.accepts.Firsts.{Firsts}

abbrev pub seen_accepts : List First → List Accept
seen_accepts firsts = map (λ first. first.accept.now) firsts

-- the place of a rule among those of accepts, if it is there
abbrev pub rule_index : List Accept → (rule : ℕ) → Option ℕ
rule_index accepts rule = first_place (λ (accept : Accept). accept.rule) accepts rule

-- the index has the places of the rules
abbrev pub AreIndexed : Firsts → Type 0
AreIndexed firsts = (rule : ℕ) → noted_place firsts.places rule ≡ rule_index (seen_accepts firsts.list.items) rule

-- blocks of these statements, of which none begins a condition's scanner
abbrev pub unlabelled : List (List Stmt) → List CodeBlock
unlabelled codes = map (λ code. record { cond = None; stmts = code }) codes

-- the edges of each state are in ascending order
abbrev pub HaveOrder : List State → Type 0
HaveOrder states = AllByRecursion (λ (state : State). AreApart state.edges) states
