use Rattle.std.proofs.Common.{◌≡◌, ◌++◌, drop, false}
use Rattle.std.specs.Prelude.{nat_lt}
use Rattle.std.specs.List.{list_any}
use Rattle.lx_exprs.specs.Seen.{points_of}
use Rattle.lx_rules.proofs.configurations.bytes_of.Given as goal

abbrev pub invariant-loop-character : goal.invariant-loop-character
invariant-loop-character l = record {
  copied : l.bytes.items ++ points_of (drop l.character-index l.characters) ≡ points_of l.characters;
  bytes : list_any (λ point. nat_lt 255 point) l.bytes.items ≡ false;
}
