use Rattle.std.proofs.Common.{ℕ, Option, arith, refl}
use Rattle.std.proofs.lemmas.List.{length-map}
use Rattle.lx_dispatch.specs.TestTrees.{Question}
use Rattle.lx_dispatch.specs.FirstQuestions.{seen_first}
use Rattle.lx_dispatch.specs.Views.{seen_question, seen_stretches}
use Rattle.lx_dispatch.specs.declared.first_questions.FirstQuestion.{FirstQuestion}
use Rattle.lx_dispatch.proofs.FirstWays.{first_way-each}
use Rattle.lx_dispatch.proofs.first_questions.are_first.Goals as goal

pub returns : goal.returns
returns c =
    λ e.
    let seen = length-map {B = Question × Option ℕ} c.args.first.now (λ (one : FirstQuestion). (seen_question one.question, one.class)) in
    record {
      few = omega (arith, c.if-first-gt-MOST.false, seen);
      each = c.if-not-are_asked.ensures refl;
      lead =
          first_way-each c.args.table.now c.args.top (record { tests = seen_stretches c.args.tests.now; last = c.args.last }) (seen_first c.args.first.now)
          (c.if-not-are_asked.ensures refl) (c.lead.ensures e);
    }
