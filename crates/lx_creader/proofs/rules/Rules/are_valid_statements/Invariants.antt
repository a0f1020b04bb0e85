use Rattle.std.proofs.Common.{◌↔◌, drop}
use Rattle.std.specs.List.{AllByRecursion}
use Rattle.lx_creader.specs.ValidParts.{IsValidStatement}
use Rattle.lx_creader.proofs.rules.Rules.are_valid_statements.Given as goal

abbrev pub invariant-loop-statement : goal.invariant-loop-statement
invariant-loop-statement l =
    AllByRecursion (IsValidStatement l.self.names.now l.self.conds.now l.self.blocks) (drop l.statement-index l.statements) ↔ AllByRecursion (IsValidStatement l.self.names.now l.self.conds.now l.self.blocks) l.statements
