-- The item before an arrow.
use Rattle.std.proofs.Common.{◌≡◌, ℕ, List, Some, sym, ◌∙◌}
use Rattle.lx_auto.specs.declared.ops.Op.{Op}
use Rattle.lx_regs.specs.declared.items.Item.{Item}
use Rattle.lx_regs.specs.declared.reached.Pair.{Pair}
use Rattle.lx_regs.specs.Items.{Passes}
use Rattle.lx_regs.specs.Keys.{held_of}
use Rattle.lx_regs.proofs.LiveRegisters.FirstItems.{same_item}

-- there is one at most
pub one_prior : (numbers : List ℕ) (pairs : List Pair) (item : Item) (from : ℕ) (leave ops : List Op) (prior other : Item)
    → Passes numbers pairs item from leave ops prior → Passes numbers pairs item from leave ops other → other ≡ prior
one_prior numbers pairs item from leave ops prior other passes also =
    let group : Some other.group ≡ Some prior.group = sym also.group ∙ passes.group in
    let held : Some (held_of other.key) ≡ Some (held_of prior.key) = sym also.read ∙ passes.read in
    same_item other prior (also.state ∙ sym passes.state) (cc group) (cc held)
