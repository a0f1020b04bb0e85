use Rattle.std.proofs.Common.{◌≡◌, ◌++◌, drop, length, map}
use Rattle.lx_layout.specs.PieceViews.{seen_sources}
use Rattle.lx_layout.specs.RuleEnds.{endings_of}
use Rattle.lx_gen.specs.Automata.{seen_autos, seen_checks}
use Rattle.lx_gen.specs.Seen.{sources_with}
use Rattle.lx_gen.proofs.LikeInputs.{HaveLike}
use Rattle.lx_gen.proofs.generating.inputs.Given as goal

abbrev pub invariant-loop-place : goal.invariant-loop-place
invariant-loop-place l = record {
  sources : seen_sources l.inputs.items
      ++ sources_with (map (λ one. endings_of one.items) (drop l.place l.ends)) (drop l.place l.scanners) (drop l.place (seen_autos l.autos))
      (drop l.place (seen_checks l.autos))
      ≡ sources_with (map (λ one. endings_of one.items) l.ends) l.scanners (seen_autos l.autos) (seen_checks l.autos);
  like : HaveLike l.scanners l.auto' l.checks l.inputs.items;
  count : length l.inputs.items ≡ l.place;
}
