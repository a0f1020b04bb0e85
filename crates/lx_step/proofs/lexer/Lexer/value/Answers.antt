use Rattle.std.proofs.Common.{◌≡◌, ◌∙◌, ap, sym, subst, is_some, false, None}
use Rattle.std.specs.List.{list_any}
use Rattle.lx_ccode.specs.Statements.{all_statements}
use Rattle.lx_step.specs.Held.{Held, offset_of}
use Rattle.lx_step.specs.Tags.{gives_offset}
use Rattle.lx_step.proofs.Soundness.{held_of}
use Rattle.lx_step.proofs.TagReaders.{offset-known, offset-unknown, offset_flag, offset_of-none, offset_of-not, offset_of-some}
use Rattle.lx_step.proofs.lexer.Lexer.value.Goals as goal

pub returns-in_err-number-clause-value : goal.returns-in_err-number-clause-value
returns-in_err-number-clause-value c =
    c.from_residual.ensures ∙ subst (λ (held : Held). None ≡ offset_of held c.args.name.now) c.self.view_is
    (offset_of-none (held_of c.self.inside.program.piece.now c.self.inside.spent c.self.inside.start c.self.inside.steps c.self.inside.scanner c.self.inside.slots c.self.inside.assigned.keys) c.self.inside.tags c.as_slice.result.now c.args.name.now c.self.invariant.named c.as_slice.ensures c.in_err-number.ensures.number)

pub returns-in_err-number-clause-known : goal.returns-in_err-number-clause-known
returns-in_err-number-clause-known c =
    ap is_some c.from_residual.ensures ∙ subst (λ (held : Held). false ≡ list_any (gives_offset c.args.name.now) (all_statements held.piece.blocks)) c.self.view_is
    (offset-unknown (held_of c.self.inside.program.piece.now c.self.inside.spent c.self.inside.start c.self.inside.steps c.self.inside.scanner c.self.inside.slots c.self.inside.assigned.keys) c.self.inside.tags c.as_slice.result.now c.args.name.now c.self.invariant.named c.as_slice.ensures c.in_err-number.ensures.number)

pub returns-then-not-index-clause-value : goal.returns-then-not-index-clause-value
returns-then-not-index-clause-value c =
    subst (λ (held : Held). None ≡ offset_of held c.args.name.now) c.self.view_is
    (offset_of-not (held_of c.self.inside.program.piece.now c.self.inside.spent c.self.inside.start c.self.inside.steps c.self.inside.scanner c.self.inside.slots c.self.inside.assigned.keys) c.self.inside.tags c.as_slice.result.now c.args.name.now c.self.invariant.named c.as_slice.ensures c.in_ok-number.number c.index.result.now c.in_ok-number.ensures.number c.index.ensures c.if-not-index.true)

pub returns-then-not-index-clause-known : goal.returns-then-not-index-clause-known
returns-then-not-index-clause-known c =
    subst (λ (held : Held). false ≡ list_any (gives_offset c.args.name.now) (all_statements held.piece.blocks)) c.self.view_is
    (sym c.if-not-index.true ∙ offset_flag (held_of c.self.inside.program.piece.now c.self.inside.spent c.self.inside.start c.self.inside.steps c.self.inside.scanner c.self.inside.slots c.self.inside.assigned.keys) c.self.inside.tags c.as_slice.result.now c.args.name.now c.self.invariant.named c.as_slice.ensures c.in_ok-number.number c.index.result.now c.in_ok-number.ensures.number c.index.ensures)

pub returns-clause-value : goal.returns-clause-value
returns-clause-value c =
    subst (λ (held : Held). c.offset.result ≡ offset_of held c.args.name.now) c.self.view_is
    (c.offset.ensures ∙ offset_of-some (held_of c.self.inside.program.piece.now c.self.inside.spent c.self.inside.start c.self.inside.steps c.self.inside.scanner c.self.inside.slots c.self.inside.assigned.keys) c.self.inside.tags c.as_slice.result.now c.args.name.now c.self.invariant.named c.as_slice.ensures c.in_ok-number.number c.index.result.now c.in_ok-number.ensures.number c.index.ensures c.if-not-index.false)

pub returns-clause-known : goal.returns-clause-known
returns-clause-known c =
    subst (λ (held : Held). is_some c.offset.result ≡ list_any (gives_offset c.args.name.now) (all_statements held.piece.blocks)) c.self.view_is
    (ap is_some c.offset.ensures ∙ offset-known (held_of c.self.inside.program.piece.now c.self.inside.spent c.self.inside.start c.self.inside.steps c.self.inside.scanner c.self.inside.slots c.self.inside.assigned.keys) c.self.inside.tags c.as_slice.result.now c.args.name.now c.self.invariant.named c.as_slice.ensures c.in_ok-number.number c.index.result.now c.in_ok-number.ensures.number c.index.ensures c.if-not-index.false c.self.invariant.tables.offsets)
