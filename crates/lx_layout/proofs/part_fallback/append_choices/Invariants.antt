use Rattle.std.proofs.Common.{◌≡◌, ◌+◌, ◌++◌, drop}
use Rattle.lx_layout.specs.Fallback.{fallback_code}
use Rattle.lx_layout.specs.LaidParts.{restores_at, saved_at}
use Rattle.lx_layout.specs.Layout.{choices_from}
use Rattle.lx_layout.specs.Plans.{seen_accepts}
use Rattle.lx_layout.proofs.part_fallback.append_choices.Given as goal

abbrev pub invariant-loop-place : goal.invariant-loop-place
invariant-loop-place l =
    record {
      saved : l.saved ≡ l.place + 1;
      put : l.stmts.items ++ fallback_code l.leaves (choices_from l.saved l.block (seen_accepts (drop l.place l.ends.saved.list.items)))
          ≡ l.initial.stmts.items ++ fallback_code l.leaves (choices_from 1 (restores_at l.ends.plans) (saved_at l.ends.plans));
    }
