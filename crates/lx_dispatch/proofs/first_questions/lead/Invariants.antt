use Rattle.std.proofs.Common.{drop}
use Rattle.lx_ccode.specs.Machine.{is_among}
use Rattle.lx_dispatch.specs.FirstQuestions.{LeadFrom, seen_first}
use Rattle.lx_dispatch.specs.Views.{seen_stretches}
use Rattle.lx_dispatch.proofs.first_questions.lead.Given as goal

abbrev pub invariant-loop-stretch : goal.invariant-loop-stretch
invariant-loop-stretch l =
    LeadFrom (is_among l.table) (seen_first l.first) l.low l.top (seen_stretches (drop l.stretch-index l.tests)) l.last
    → LeadFrom (is_among l.table) (seen_first l.first) 0 l.top (seen_stretches l.tests) l.last
