-- How many accepts there are by which a match ends, or to which it falls back.
use Rattle.std.specs.Prelude.{ℕ, suc, ◌+◌, ◌≤◌, List, [], ◌∷◌, length, Option}
use Rattle.std.proofs.Common.{arith}
use Rattle.lx_auto.specs.declared.automaton.Accept.{Accept}
use Rattle.lx_auto.specs.declared.automaton.State.{State}
use Rattle.lx_layout.specs.Halting.{Halting, firsts_from, saved_accept, saved_accepts}
use Rattle.lx_layout.specs.Layout.{with_accept}
use Rattle.lx_layout.proofs.BlockLayouts.AcceptLoops.{with_accept-length}

module _ (halting : Halting) where
  firsts_from-length : (choose : ℕ → State → Option Accept) (found : List Accept) (number : ℕ) (states : List State)
      → length (firsts_from halting choose found number states) ≤ length found + length states
  firsts_from-length choose found number [] = omega arith
  firsts_from-length choose found number (given ∷ states) =
      let here : length (with_accept found (choose number given)) ≤ length found + 1 = with_accept-length found (choose number given) in
      let more : length (firsts_from halting choose (with_accept found (choose number given)) (suc number) states)
      ≤ length (with_accept found (choose number given)) + length states =
      firsts_from-length choose (with_accept found (choose number given)) (suc number) states in
      omega (arith, here, more)

  pub saved_accepts-length : (states : List State) → length (saved_accepts halting states) ≤ length states
  saved_accepts-length states = let h = firsts_from-length (saved_accept halting) [] 0 states in omega (arith, h)
