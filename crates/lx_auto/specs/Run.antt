-- The run of an automaton on a word.
use Rattle.std.specs.Prelude.{ℕ, suc, List, [], ◌∷◌, Option, Some, None}
use Rattle.lx_auto.specs.declared.automaton.Accept.{Accept}
use Rattle.lx_auto.specs.declared.automaton.Auto.{Auto}
use Rattle.lx_auto.specs.declared.automaton.Edge.{Edge}
use Rattle.lx_auto.specs.declared.automaton.State.{State}
use Rattle.lx_auto.specs.Automaton.{edge_on, state_of}
use Rattle.lx_auto.specs.Bank.{Bank, Value, empty_bank, bank_after, read_all}

-- an accepting state that was left: its number, what it accepts, and the offset there
pub record Left : Type 0 where
  pub state : ℕ
  pub accept : Accept
  pub offset : ℕ

-- where a run stands: its state, how far it came, its registers, and the accepting state that it left last
pub record Standing : Type 0 where
  pub state : ℕ
  pub offset : ℕ
  pub bank : Bank
  pub left : Option Left

-- at the beginning of a match, which is at an offset
abbrev pub at_start : (offset : ℕ) → Standing
at_start offset = record { state = 0; offset = offset; bank = empty_bank; left = None }

-- the same, where registers hold what an earlier match left in them
abbrev pub start_with : (offset : ℕ) → Bank → Standing
start_with offset bank = record { state = 0; offset = offset; bank = bank; left = None }

-- the accepting state left last, once this state is left too
abbrev pub left_after : Option Accept → Standing → Option Left
left_after None standing = standing.left
left_after (Some accept) standing = Some (record { state = standing.state; accept = accept; offset = standing.offset })

-- behind an edge out of a state: what the state does where it is left acts first, then what the edge does
abbrev pub behind_edge : State → Standing → Edge → Standing
behind_edge state standing edge = record {
  state = edge.to;
  offset = suc standing.offset;
  bank = bank_after standing.offset edge.ops (bank_after standing.offset state.leave standing.bank);
  left = left_after state.accept standing;
}

-- what comes of a standing, if there is one
abbrev pub and_then : Option Standing → (Standing → Option Standing) → Option Standing
and_then None onward = None
and_then (Some standing) onward = onward standing

-- behind an edge, if there is one
abbrev pub by_edge : State → Standing → Option Edge → Option Standing
by_edge state standing None = None
by_edge state standing (Some edge) = Some (behind_edge state standing edge)

-- the match that an accepting state gives: its rule, the values of the rule's tags, and where it ends
pub record Found : Type 0 where
  pub rule : ℕ
  pub values : List Value
  pub offset : ℕ

-- the match that ends where a run stands, by what the state accepts
abbrev pub found_by : Option Accept → Standing → Option Found
found_by None standing = None
found_by (Some accept) standing =
    Some (record { rule = accept.rule; values = read_all (bank_after standing.offset accept.ops standing.bank) accept.values; offset = standing.offset })

-- a fallback to a state that was left reads the values from the registers as they are
abbrev pub found_left : Bank → Option Left → Option Found
found_left bank None = None
found_left bank (Some left) = Some (record { rule = left.accept.rule; values = read_all bank left.accept.values; offset = left.offset })

-- the first match, if there is one, and else the other
abbrev pub or_else : Option Found → Option Found → Option Found
or_else None other = other
or_else (Some found) other = Some found

module _ (auto : Auto) where
  -- one step of a run, on a unit
  abbrev pub step : Standing → (unit : ℕ) → Option Standing
  step standing unit =
      by_edge (state_of auto.states standing.state) standing (edge_on (state_of auto.states standing.state).edges unit)

  -- the run on a word from where it stands: there is none where a state has no edge on the next unit
  abbrev pub run : Standing → (word : List ℕ) → Option Standing
  run standing [] = Some standing
  run standing (unit ∷ word) = and_then (step standing unit) (λ next. run next word)

  -- the match that ends where a run stands
  abbrev pub found_at : Standing → Option Found
  found_at standing = found_by (state_of auto.states standing.state).accept standing

  -- the match where no unit is read any more: the one that ends here, or that of the accepting state left last
  abbrev pub found_behind : Standing → Option Found
  found_behind standing = or_else (found_at standing) (found_left standing.bank standing.left)
