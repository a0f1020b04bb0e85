use Rattle.std.proofs.Common.{◌+◌, ◌*◌, ◌≤◌, arith, ap, ◌∙◌, refl}
use Rattle.std.proofs.Math.Nat.{mul-le-mul}
use Rattle.std.proofs.lemmas.Result.{err_from_is_err_and}
use Rattle.lx_tdfa.specs.Making.{most_places}
use Rattle.lx_tdfa.proofs.Tables.Determined.{built-automaton, built-kernels, built-narrow, built-too_many, start_listed}
use Rattle.lx_tdfa.proofs.Tables.TableBounds.{most_places-within}
use Rattle.lx_tdfa.proofs.Tables.TableFormed.{table_formed}
use Rattle.lx_tdfa.proofs.automata.determinize.Goals as goal

pub overflow_cast-source : goal.overflow_cast-source
overflow_cast-source c = let narrow = built-narrow c.args.t.now c.requires in omega (arith, narrow, c.most_tags.ensures)

pub states-requires-clause-of_rules : goal.states-requires-clause-of_rules
states-requires-clause-of_rules c = record {
  width = c.most_tags.ensures;
  narrow = built-narrow c.args.t.now c.requires;
  enc = c.requires.0;
  patterns = _;
  of = c.requires.4;
}

pub states-requires-clause-listed : goal.states-requires-clause-listed
states-requires-clause-listed c = rw (c.in_ok-kernels.ensures) (start_listed c.args.t.now)

pub returns-in_err-states : goal.returns-in_err-states
returns-in_err-states c = record {
  automaton = λ enc patterns of fits.
      let p = err_from_is_err_and c.from_residual-in_err-states.result c.from_residual-in_err-states.ensures.1 in
      rw (p.1, p.2) (built-too_many c.args.t.now c.requires enc patterns of fits c.args.at c.in_err-states.field-0.0 c.in_err-states.ensures);
  kernels = λ enc patterns of fits.
      let p = err_from_is_err_and c.from_residual-in_err-states.result c.from_residual-in_err-states.ensures.1 in rw (p.1) tt;
}

pub overflow_cast-regs : goal.overflow_cast-regs
overflow_cast-regs c =
    let most = most_places-within c.states.new.kernels c.in_ok-states.ensures.0.listed.within in omega (arith, most, c.most.ensures)

pub overflow_add-regs : goal.overflow_add-regs
overflow_add-regs c =
    let most = most_places-within c.states.new.kernels c.in_ok-states.ensures.0.listed.within in omega (arith, most, c.most.ensures)

pub overflow_mul-regs : goal.overflow_mul-regs
overflow_mul-regs c =
    let most = most_places-within c.states.new.kernels c.in_ok-states.ensures.0.listed.within in
    let narrow = built-narrow c.args.t.now c.requires in
    let le : (c.most.result + 1) * c.most_tags.result ≤ 1048577 * 130 =
    mul-le-mul {n₁ = c.most.result + 1} {m₁ = c.most_tags.result} {n₂ = 1048577} {m₂ = 130} (omega (arith, most, c.most.ensures)) (omega (arith, narrow, c.most_tags.ensures)) in
    omega (arith, le)

pub overflow_add-result : goal.overflow_add-result
overflow_add-result c =
    let most = most_places-within c.states.new.kernels c.in_ok-states.ensures.0.listed.within in
    let narrow = built-narrow c.args.t.now c.requires in
    let le : (c.most.result + 1) * c.most_tags.result ≤ 1048577 * 130 =
    mul-le-mul {n₁ = c.most.result + 1} {m₁ = c.most_tags.result} {n₂ = 1048577} {m₂ = 130} (omega (arith, most, c.most.ensures)) (omega (arith, narrow, c.most_tags.ensures)) in
    omega (arith, le)

pub returns : goal.returns
returns c =
    let formed =
    table_formed c.args.t.now c.states.new.kernels _
    (ap (λ n. (n + 1) * c.most_tags.result) c.most.ensures ∙ ap (λ n. (most_places c.states.new.kernels + 1) * n) c.most_tags.ensures)
    refl (built-narrow c.args.t.now c.requires) c.in_ok-states.ensures.0.listed.within c.in_ok-states.ensures.0.listed.start
    c.in_ok-states.ensures.1 c.in_ok-states.ensures.2 in
    record {
      automaton = λ enc patterns of fits.
          built-automaton c.args.t.now c.requires enc patterns of fits c.states.new.kernels _ c.in_ok-states.ensures.0.listed formed
          c.in_ok-states.ensures.1 c.in_ok-states.ensures.2;
      kernels = λ enc patterns of fits.
          built-kernels c.args.t.now c.requires enc patterns of fits c.states.new.kernels _ c.in_ok-states.ensures.0.listed formed
          c.in_ok-states.ensures.1 c.in_ok-states.ensures.2 c.in_ok-states.ensures.0.listed.apart;
    }
