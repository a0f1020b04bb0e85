use Rattle.std.proofs.Common.{◌∙◌, sym, ap, false}
use Rattle.lx_ccode.specs.Validity.{last_statements, tries_after_state}
use Rattle.lx_creader.proofs.StateLists.{last_statements-last}
use Rattle.lx_creader.proofs.rules.last_tries_after_state.Goals as goal

pub returns-in-Some : goal.returns-in-Some
returns-in-Some c =
    c.tries_after_state.ensures ∙ ap (tries_after_state false) (
    c.as_slice.ensures ∙ sym (ap last_statements c.in-Some.ensures.cases.0 ∙ last_statements-last c.in-Some.field-0-1.now c.in-Some.block.now))
