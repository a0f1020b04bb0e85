-- What holds of all accepts of states holds of those by which a match ends.
use Rattle.std.specs.Prelude.{ℕ, suc, ◌≤◌, List, [], ◌∷◌, length, Option, Some, None, Bool, true, false, ◌||◌, if◌then◌else◌}
use Rattle.std.specs.List.{AllByRecursion}
use Rattle.lx_auto.specs.Automaton.{AreHeld, AreStates, IsAccept, IsAuto}
use Rattle.lx_auto.specs.declared.automaton.Accept.{Accept}
use Rattle.lx_auto.specs.declared.automaton.Auto.{Auto}
use Rattle.lx_auto.specs.declared.automaton.State.{State}
use Rattle.lx_layout.specs.Copies.{AcceptIsToldBy}
use Rattle.lx_layout.specs.Halting.{Halting, ended_accept, ended_accepts, firsts_from, is_saved}
use Rattle.lx_layout.specs.Layout.{with_accept}
use Rattle.lx_layout.specs.declared.rule_ends.RuleEnd.{RuleEnd}
use Rattle.lx_layout.proofs.BlockLayouts.AcceptLoops.{HoldsOf, with_accept-each}
use Rattle.lx_layout.proofs.Rules.EndingLoops.{AreHeld-more}

module _ (ends : List RuleEnd) (by : ℕ) where
  -- what is asked of an accept before the end of its rule is written by a greater number
  abbrev pub EndIsKnownBy : Accept → Type 0
  EndIsKnownBy accept = AreHeld 1073741824 1073741824 accept.values × AcceptIsToldBy ends by (Some accept)

  module _ (regs mregs : ℕ) (few : regs ≤ 1073741824) (mfew : mregs ≤ 1073741824) (halting : Halting) where
    accept_known : (t : Bool) (accept : Option Accept) → IsAccept regs mregs accept → AcceptIsToldBy ends by accept
        → HoldsOf EndIsKnownBy (if t then accept else None)
    accept_known true None is told = tt
    accept_known true (Some accept) is told = (AreHeld-more regs mregs 1073741824 accept.values few mfew is.1, told)
    accept_known false accept is told = tt

    states_known : (count : ℕ) (found : List Accept) (number : ℕ) (states : List State) → AllByRecursion EndIsKnownBy found
        → AreStates regs mregs count states → AllByRecursion (λ (given : State). AcceptIsToldBy ends by given.accept) states
        → AllByRecursion EndIsKnownBy (firsts_from halting (ended_accept halting) found number states)
    states_known count found number [] all are told = all
    states_known count found number (given ∷ states) all are told =
        states_known count (with_accept found (ended_accept halting number given)) (suc number) states
        (with_accept-each EndIsKnownBy found (ended_accept halting number given) all
        (accept_known (halting.halts number || is_saved halting given) given.accept are.0.accept told.0)) are.1 told.1

  pub ended_known_by : (halting : Halting) (auto : Auto) → IsAuto auto
      → AllByRecursion (λ (given : State). AcceptIsToldBy ends by given.accept) auto.states
      → AllByRecursion EndIsKnownBy (ended_accepts halting auto.states)
  ended_known_by halting auto formed told =
      states_known auto.regs auto.mregs formed.few_regs formed.few_mregs halting (length auto.states) [] 0 auto.states tt formed.states told
