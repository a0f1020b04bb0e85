use Rattle.std.proofs.Common.{◌↔◌, drop, map}
use Rattle.lx_base.specs.Names.{EachIsNoRegister}
use Rattle.lx_base.proofs.names.all_no_registers.Given as goal

abbrev pub invariant-loop-word : goal.invariant-loop-word
invariant-loop-word l = EachIsNoRegister l.prefix (map (λ word. word.now) (drop l.word-index l.words)) ↔ EachIsNoRegister l.prefix (map (λ word. word.now) l.words)
