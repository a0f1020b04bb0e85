use Rattle.std.proofs.Common.{◌≡◌, ◌≤◌, ◌+◌, ◌++◌, drop}
use Rattle.lx_compile.specs.Facts.{directives_fault, fault_among}
use Rattle.lx_compile.specs.Writing.{output_text, text_among}
use Rattle.lx_compile.proofs.writing.append_all.Given as goal

abbrev pub invariant-loop-one : goal.invariant-loop-one
invariant-loop-one l = record {
  text : l.output.items ++ text_among l.names l.out l.made l.number l.line (drop l.one-index l.made)
      ≡ l.initial.output.items ++ output_text l.names l.out l.made;
  fault : fault_among l.names l.made (drop l.one-index l.made) ≡ directives_fault l.names l.made;
  small : l.number ≤ 1 + l.one-index;
}
