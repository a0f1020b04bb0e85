-- Examples of runs, of lists, and of what is live.
use Rattle.std.specs.Prelude.{◌≡◌, ℕ, [], ◌∷◌, List, Option, Some, None, true, false, option_map}
use Rattle.lx_auto.specs.declared.automaton.Auto.{Auto}
use Rattle.lx_auto.specs.declared.automaton.Held.TheVariants.{Reg, MReg}
use Rattle.lx_auto.specs.declared.ops.Op.TheVariants.{Here, MHere, MNull, MCopy, Copy}
use Rattle.lx_auto.specs.Bank.{Bank, bank_after, single}
use Rattle.lx_auto.specs.Effects.{here, history_of, effect_of, effect_of_both, is_overwritten}
use Rattle.lx_auto.specs.Live.{IsLive}
use Rattle.lx_auto.specs.Points.{first_point}
use Rattle.lx_auto.specs.Run.{Found, at_start, found_behind, run}

-- an automaton of the rule `[a-cx-z] ("." [a-cx-z])* @t` with the number 1, for bytes; register 0 holds t
abbrev pub dotted : Auto
dotted = record {
  states = record {
    edges = record { lo = 97; hi = 99; ops = []; to = 1 } ∷ record { lo = 120; hi = 122; ops = []; to = 1 } ∷ [];
    accept = None;
    leave = [];
  } ∷ record {
    edges = record { lo = 46; hi = 46; ops = []; to = 0 } ∷ [];
    accept = Some (record { rule = 1; ops = Here 0 ∷ []; values = Reg 0 ∷ [] });
    leave = Here 0 ∷ [];
  } ∷ [];
  regs = 1;
  mregs = 0;
}

-- the match behind a word that is read from the offset 5, where there is a run on it
abbrev pub found_from_5 : List ℕ → Option (Option Found)
found_from_5 word = option_map (found_behind dotted) (run dotted (at_start 5) word)

-- behind `a.x` the match ends at 8, and so does the tag's value; behind `a.` no state accepts, and what was kept where
-- the state behind `a` was left is read; on the empty word nothing is matched, and on `d` there is no run
pub record RunsOfDotted : Type 0 where
  pub ends_here : found_from_5 (97 ∷ 46 ∷ 120 ∷ []) ≡ Some (Some (record { rule = 1; values = single (Some 8) ∷ []; offset = 8 }))
  pub falls_back : found_from_5 (97 ∷ 46 ∷ []) ≡ Some (Some (record { rule = 1; values = single (Some 6) ∷ []; offset = 6 }))
  pub nothing : found_from_5 [] ≡ Some None
  pub no_run : found_from_5 (100 ∷ []) ≡ None

-- where register 1 holds 4 and m-register 1 the history of 3
abbrev pub worked_bank : Bank
worked_bank = bank_after 4 (Here 1 ∷ []) (bank_after 3 (MHere 1 ∷ []) (at_start 0).bank)

-- copies read what was held before the list, the last write counts, and marks follow a copy that stands behind them
pub record ListsActAtOnce : Type 0 where
  pub swapped : (bank_after 9 (Copy 2 1 ∷ Here 1 ∷ []) worked_bank).regs 2 ≡ Some 4
  pub read_before : (bank_after 9 (Here 1 ∷ Copy 2 1 ∷ []) worked_bank).regs 2 ≡ Some 4
  pub last_counts : (bank_after 9 (Here 1 ∷ Copy 1 2 ∷ []) worked_bank).regs 1 ≡ None
  pub marks_follow : (bank_after 9 (MHere 2 ∷ MCopy 2 1 ∷ MNull 2 ∷ []) worked_bank).mregs 2 ≡ Some 3 ∷ Some 9 ∷ None ∷ []

-- what lists do, whatever registers hold: the last write counts, marks follow a copy, and of two lists the second reads what the
-- first left; what an operation did is taken away by a later write, and marks by none
pub record ListsHaveEffects : Type 0 where
  pub last_counts : effect_of (Copy 1 0 ∷ Here 1 ∷ []) (Reg 1) ≡ here
  pub marks_follow : effect_of (MHere 2 ∷ MCopy 2 1 ∷ MNull 2 ∷ []) (MReg 2) ≡ history_of 1 (true ∷ false ∷ [])
  pub upon_another : effect_of_both (Here 0 ∷ []) (Copy 1 0 ∷ []) (Reg 1) ≡ here
  pub taken_away : is_overwritten (Copy 1 0) (Here 1 ∷ []) ≡ true
  pub marks_stay : is_overwritten (MHere 2) (MCopy 2 1 ∷ []) ≡ false

-- In the automaton above a fallback from state 0 reads register 0 where state 1 was left. Where a match begins no state was left, and
-- register 0 is written before any walk reads it.
pub record LiveInDotted : Type 0 where
  pub after_dot : IsLive dotted (record { state = 0; left = Some 1 }) (Reg 0)
  pub at_first : IsLive dotted first_point (Reg 0) → ⊥
