use Rattle.std.proofs.Common.{◌∙◌, ◌≤◌, ap, length, subst, sym}
use Rattle.lx_base.specs.declared.limits.TheConstants.{STATEMENT_LIMIT}
use Rattle.lx_ccode.specs.Statements.{statement_count}
use Rattle.lx_step.specs.Places.{places_from}
use Rattle.lx_step.proofs.Soundness.{IsProgram-valid}
use Rattle.lx_step.proofs.lexer.Lexer.load.Goals as goal

pub of-requires : goal.of-requires
of-requires c = IsProgram-valid _ c.requires c.statements.ensures (c.count_of_assignments.ensures ∙ ap (λ blocks. length (places_from 0 blocks)) c.as_slice.ensures)

pub count_of_assignments-requires : goal.count_of_assignments-requires
count_of_assignments-requires c = subst (λ blocks. statement_count blocks ≤ STATEMENT_LIMIT) (sym c.as_slice.ensures) c.requires.statements
