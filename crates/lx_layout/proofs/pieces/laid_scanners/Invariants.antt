use Rattle.std.proofs.Common.{◌≡◌, [], length}
use Rattle.lx_base.specs.declared.settings.Format.TheVariants.{Two}
use Rattle.lx_dispatch.specs.Dispatch.{IsTable}
use Rattle.lx_layout.proofs.pieces.laid_scanners.Given as goal

abbrev pub invariant-loop-sets : goal.invariant-loop-sets
invariant-loop-sets l =
    record {
      table : IsTable l.sets.table.items;
      none : l.form.format ≡ Two → l.sets.table.items ≡ [];
    }

abbrev pub decreases-loop-sets : goal.decreases-loop-sets
decreases-loop-sets l = length l.sets.table.items
