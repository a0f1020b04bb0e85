use Rattle.std.proofs.Common.{◌≡◌, drop}
use Rattle.lx_split.specs.Openers.{kind_among}
use Rattle.lx_split.proofs.openers.first_kind.Given as goal

abbrev pub invariant-loop-kind : goal.invariant-loop-kind
invariant-loop-kind l = kind_among (drop l.kind-index l.kinds) l.word ≡ kind_among l.kinds l.word
