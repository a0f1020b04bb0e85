use Rattle.std.proofs.Common.{◌≡◌, ℕ, ◌<◌, ◌≤◌}
use Rattle.lx_ccode.specs.Machine.{is_among}
use Rattle.lx_dispatch.specs.FirstQuestions.{first_way, seen_first}
use Rattle.lx_dispatch.proofs.first_questions.units_lead.Given as goal

abbrev pub invariant-loop-unit : goal.invariant-loop-unit
invariant-loop-unit l =
    (unit : ℕ) → unit < l.unit → l.low ≤ unit → first_way (is_among l.table) (seen_first l.first) l.class unit ≡ l.class
