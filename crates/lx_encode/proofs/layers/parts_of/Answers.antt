use Rattle.std.proofs.Common.{◌↔◌, ◌∷◌, [], take, sym, subst, inl, inr, ⊎_elim}
use Rattle.lx_encode.specs.Runs.{LeadsTo}
use Rattle.lx_encode.proofs.RunLists.{LeadsTo-append, run_at, sorted_at, before_at, taken_at}
use Rattle.lx_encode.proofs.layers.parts_of.Goals as goal

pub push_parts-requires-clause-ordered : goal.push_parts-requires-clause-ordered
push_parts-requires-clause-ordered c = (sorted_at c.args.runs.now c.loop-run.run-index c.loop-run-test.true c.requires.sorted).1

pub push_parts-requires-clause-bounded : goal.push_parts-requires-clause-bounded
push_parts-requires-clause-bounded c = (sorted_at c.args.runs.now c.loop-run.run-index c.loop-run-test.true c.requires.sorted).2

pub push_parts-requires-clause-behind : goal.push_parts-requires-clause-behind
push_parts-requires-clause-behind c = λ number target at.
    before_at c.args.runs.now c.loop-run.run-index c.loop-run-test.true number target c.requires.sorted ((c.loop-run.invariant.leads number target).0 at)

pub loop-run-preserved : goal.loop-run-preserved
loop-run-preserved c =
    let xs = c.args.runs.now in
    let i = c.loop-run.run-index in
    let known = c.loop-run.invariant in
    let now = c.in_ok-push_parts.ensures in
    record {
      sorted = now.sorted;
      parts = now.parts;
      leads = λ n t.
          let whole = LeadsTo-append (take i xs) (run_at xs i ∷ []) n t in
          subst (λ l. LeadsTo c.push_parts.new.parts.items n t ↔ LeadsTo l n t) (sym (taken_at xs i c.loop-run-test.true)) (
            λ at. whole.1 (⊎_elim (λ old. inl ((known.leads n t).0 old)) (λ new. inr new) ((now.leads n t).0 at)),
            λ at. (now.leads n t).1 (⊎_elim (λ old. inl ((known.leads n t).1 old)) (λ new. inr new) (whole.0 at)),
          );
    }
