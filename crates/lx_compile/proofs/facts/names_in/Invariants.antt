use Rattle.std.proofs.Common.{◌≡◌, ◌++◌, Vec, Global, ℕ, map}
use Rattle.lx_compile.specs.Making.{seen_conditions}
use Rattle.lx_compile.proofs.facts.names_in.Given as goal

abbrev pub invariant-loop-cond : goal.invariant-loop-cond
invariant-loop-cond l = l.names ++ map (λ (cond : Vec ℕ Global). cond.items) l.cond-iterator ≡ seen_conditions l.fn.conds
