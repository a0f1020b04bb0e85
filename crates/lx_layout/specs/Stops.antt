-- Where the run of an automaton on a stream stops, and what a piece's run tells of the match there.
use Rattle.std.specs.Prelude.{ℕ, suc, List, [], ◌∷◌, map, Option, Some, None}
use Rattle.lx_auto.specs.Bank.{Bank}
use Rattle.lx_auto.specs.Run.{Found, Standing, step}
use Rattle.lx_auto.specs.declared.automaton.Auto.{Auto}
use Rattle.lx_ccode.specs.Runs.{Ended}
use Rattle.lx_regex.specs.Match.{unmatched}
use Rattle.lx_tdfa.specs.Promise.{tag_value}
use Rattle.lx_layout.specs.Endings.{Ending}
use Rattle.lx_layout.specs.Told.{told_at, told_of}

-- the registers that an automaton finds where a piece has these, which it counts from 1
abbrev pub bank_from : (registers : ℕ → Option ℕ) → (histories : ℕ → List (Option ℕ)) → Bank
bank_from registers histories = record { regs = λ reg. registers (suc reg); mregs = histories }

-- on from the next standing, or here where there is none
abbrev pub or_here : Standing → Option Standing → (Standing → Standing) → Standing
or_here standing None onward = standing
or_here standing (Some next) onward = onward next

-- some unit has no edge, here or later
abbrev pub or_later : Option Standing → (Standing → Type 0) → Type 0
or_later None onward = Unit {0}
or_later (Some next) onward = onward next

module _ (auto : Auto) where
  -- where a run stands that goes on while there is an edge on the next unit
  abbrev pub last_standing : Standing → List ℕ → Standing
  last_standing standing [] = standing
  last_standing standing (unit ∷ word) = or_here standing (step auto standing unit) (λ next. last_standing next word)

  -- the run stops before the units end
  abbrev pub Stops : Standing → List ℕ → Type 0
  Stops standing [] = ⊥
  Stops standing (unit ∷ word) = or_later (step auto standing unit) (λ next. Stops next word)

-- what is told of a match by an automaton in a condition; without a match the cursor stands where the run stopped
abbrev pub told_found : (endings : ℕ → Ending) → (cond : List ℕ) → Option Found → (offset : ℕ) → Ended
told_found endings cond None offset = told_of endings cond (unmatched offset)
told_found endings cond (Some found) offset = told_at endings cond found.rule found.offset (map tag_value found.values)
