use Rattle.std.proofs.Common.{◌≡◌, ◌+◌, ◌≤◌, length, take, Ok}
use Rattle.lx_rules.specs.Items.{State, Goes}
use Rattle.lx_rules.specs.Keeping.{Holds}
use Rattle.lx_forms.specs.Seen.{lexemes_view}
use Rattle.lx_rules.proofs.resolving.take_items.Given as goal

abbrev pub invariant-loop-item : goal.invariant-loop-item
invariant-loop-item l = record {
  few : length l.after.acts.items ≤ length l.fn.known.acts.items + l.item-index;
  before : (l.after.before ≡ l.fn.known.before) × (l.after.is_use ≡ l.fn.known.is_use);
  goes : (first : State) → Holds l.fn.known first → (state : State)
      × Goes l.block.options.now (lexemes_view l.block.lexemes) first (take l.item-index l.items) (Ok state) × Holds l.after state;
}
