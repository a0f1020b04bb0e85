-- A scanner that begins to store by a greater number, also one with greater numbers of rules, gets its units as the one that begins at 0.
use Rattle.std.specs.Prelude.{◌≡◌, ℕ, ◌+◌, Bool, true, false, Option, is_some, refl}
use Rattle.std.proofs.Common.{arith}
use Rattle.lx_auto.specs.declared.automaton.Auto.{Auto}
use Rattle.lx_layout.specs.Copies.{StoredBehind, SuppliesBehind}
use Rattle.lx_layout.specs.Parts.{Demand, asked_below, number_of, stored_from, supply_from}
use Rattle.lx_layout.specs.Supplies.{Reader, entry, state}
use Rattle.lx_renumber.specs.Renumbered.{renumbered}
use Rattle.lx_layout.proofs.Fronts.RenumberedMarks.{asked_below-renumbered}

-- as many before each one ask
module _ (demand : Demand) (end_rule other : Option ℕ) (auto auto_on : Auto)
    (same : (number : ℕ) → asked_below demand other auto_on number ≡ asked_below demand end_rule auto number) (first : ℕ) where
  number_of-behind : (reader : Reader) → number_of demand other auto_on first reader ≡ number_of demand end_rule auto 0 reader + first
  number_of-behind entry = omega arith
  number_of-behind (state number) = let a = same number in omega (arith, a)

  stored_from-behind : (stores : Bool)
      → StoredBehind first (stored_from demand other auto_on stores first) (stored_from demand end_rule auto stores 0)
  stored_from-behind false = tt
  stored_from-behind true = number_of-behind

  supply_from-behind : SuppliesBehind first (supply_from demand other auto_on first) (supply_from demand end_rule auto 0)
  supply_from-behind = record { eof = refl; tries = refl; check = refl; numbers = stored_from-behind demand.stores; among = refl }

pub supplies-renumbered : (by : ℕ) (demand : Demand) (end_rule other : Option ℕ) → is_some other ≡ is_some end_rule → (auto : Auto)
    (first : ℕ)
    → SuppliesBehind first (supply_from demand other (renumbered by auto) first) (supply_from demand end_rule auto 0)
supplies-renumbered by demand end_rule other same auto first =
    supply_from-behind demand end_rule other auto (renumbered by auto) (asked_below-renumbered by auto demand end_rule other same) first
