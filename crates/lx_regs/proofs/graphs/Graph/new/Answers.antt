-- Where no two are neighbours and no pair is noted there is a graph.
use Rattle.std.proofs.Common.{ℕ, Contains, subst}
use Rattle.lx_regs.specs.Graphs.{list_at}
use Rattle.lx_regs.proofs.SharedNames.GraphLists.{list_at-none}
use Rattle.lx_regs.proofs.graphs.Graph.new.Goals as goal

pub returns-clause-graph : goal.returns-clause-graph
returns-clause-graph c = record {
  both_ways = λ number other near. absurd (none number other near);
  within = λ number other near. absurd (none number other near);
  known = λ number other noted. absurd (c.in_ok-new.ensures number other noted);
}
  where
    none : (number other : ℕ) → Contains (list_at c.in_ok-empty_lists.field-0.items number) other → ⊥
    none number other near =
        list_at-none c.args.size number other (subst (λ l. Contains (list_at l number) other) c.in_ok-empty_lists.ensures near)
