use Rattle.std.proofs.Common.{◌≡◌, ◌<◌, drop}
use Rattle.lx_step.specs.Tags.{hash_from}
use Rattle.lx_step.proofs.tags.bucket_of.Given as goal

abbrev pub invariant-loop-letter : goal.invariant-loop-letter
invariant-loop-letter l = record {
  so_far : hash_from (drop l.letter-index l.name) l.hash ≡ hash_from l.name 0;
  small : l.hash < 4294967291;
}
