use Rattle.std.proofs.Common.{◌≡◌, [], ◌++◌, drop}
use Rattle.lx_layout.specs.Codes.{ops_code}
use Rattle.lx_layout.specs.Numbers.{AreBelow}
use Rattle.lx_layout.proofs.statements.append_ops.Given as goal

abbrev pub invariant-loop-op : goal.invariant-loop-op
invariant-loop-op l =
    record {
      below : AreBelow 4294967295 (drop l.op-index l.ops);
      put : l.stmts.items ++ ops_code (drop l.op-index l.ops) [] ≡ l.initial.stmts.items ++ ops_code l.ops [];
    }
