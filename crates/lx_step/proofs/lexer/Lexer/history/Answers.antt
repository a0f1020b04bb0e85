use Rattle.std.proofs.Common.{◌≡◌, ◌∙◌, ap, sym, subst, is_some, false, None, List, Option, ℕ}
use Rattle.std.specs.Borrow.{Bor}
use Rattle.std.specs.List.{list_any}
use Rattle.std.specs.Option.{option_map}
use Rattle.lx_ccode.specs.Statements.{all_statements}
use Rattle.lx_step.specs.Held.{Held, history_of}
use Rattle.lx_step.specs.Tags.{gives_history}
use Rattle.lx_step.proofs.Soundness.{held_of}
use Rattle.lx_step.proofs.TagReaders.{history-known, history-unknown, history_flag, history_of-none, history_of-not, history_of-some, is_some-map}
use Rattle.lx_step.proofs.lexer.Lexer.history.Goals as goal

pub returns-in_err-number-clause-history : goal.returns-in_err-number-clause-history
returns-in_err-number-clause-history c =
    ap (option_map (λ (entries : Bor (List (Option ℕ))). entries.now)) c.from_residual.ensures ∙ subst (λ (held : Held). None ≡ history_of held c.args.name.now) c.self.view_is
    (history_of-none (held_of c.self.inside.program.piece.now c.self.inside.spent c.self.inside.start c.self.inside.steps c.self.inside.scanner c.self.inside.slots c.self.inside.assigned.keys) c.self.inside.tags c.as_slice.result.now c.args.name.now c.self.invariant.named c.as_slice.ensures c.in_err-number.ensures.number)

pub returns-in_err-number-clause-known : goal.returns-in_err-number-clause-known
returns-in_err-number-clause-known c =
    ap is_some c.from_residual.ensures ∙ subst (λ (held : Held). false ≡ list_any (gives_history c.args.name.now) (all_statements held.piece.blocks)) c.self.view_is
    (history-unknown (held_of c.self.inside.program.piece.now c.self.inside.spent c.self.inside.start c.self.inside.steps c.self.inside.scanner c.self.inside.slots c.self.inside.assigned.keys) c.self.inside.tags c.as_slice.result.now c.args.name.now c.self.invariant.named c.as_slice.ensures c.in_err-number.ensures.number)

pub returns-then-not-index-clause-history : goal.returns-then-not-index-clause-history
returns-then-not-index-clause-history c =
    subst (λ (held : Held). None ≡ history_of held c.args.name.now) c.self.view_is
    (history_of-not (held_of c.self.inside.program.piece.now c.self.inside.spent c.self.inside.start c.self.inside.steps c.self.inside.scanner c.self.inside.slots c.self.inside.assigned.keys) c.self.inside.tags c.as_slice.result.now c.args.name.now c.self.invariant.named c.as_slice.ensures c.in_ok-number.number c.index.result.now c.in_ok-number.ensures.number c.index.ensures c.if-not-index.true)

pub returns-then-not-index-clause-known : goal.returns-then-not-index-clause-known
returns-then-not-index-clause-known c =
    subst (λ (held : Held). false ≡ list_any (gives_history c.args.name.now) (all_statements held.piece.blocks)) c.self.view_is
    (sym c.if-not-index.true ∙ history_flag (held_of c.self.inside.program.piece.now c.self.inside.spent c.self.inside.start c.self.inside.steps c.self.inside.scanner c.self.inside.slots c.self.inside.assigned.keys) c.self.inside.tags c.as_slice.result.now c.args.name.now c.self.invariant.named c.as_slice.ensures c.in_ok-number.number c.index.result.now c.in_ok-number.ensures.number c.index.ensures)

pub returns-clause-history : goal.returns-clause-history
returns-clause-history c =
    subst (λ (held : Held). (option_map (λ (entries : Bor (List (Option ℕ))). entries.now) c.history.result) ≡ history_of held c.args.name.now) c.self.view_is
    (c.history.ensures ∙ history_of-some (held_of c.self.inside.program.piece.now c.self.inside.spent c.self.inside.start c.self.inside.steps c.self.inside.scanner c.self.inside.slots c.self.inside.assigned.keys) c.self.inside.tags c.as_slice.result.now c.args.name.now c.self.invariant.named c.as_slice.ensures c.in_ok-number.number c.index.result.now c.in_ok-number.ensures.number c.index.ensures c.if-not-index.false)

pub returns-clause-known : goal.returns-clause-known
returns-clause-known c =
    subst (λ (held : Held). is_some c.history.result ≡ list_any (gives_history c.args.name.now) (all_statements held.piece.blocks)) c.self.view_is
    (sym (is_some-map (λ (entries : Bor (List (Option ℕ))). entries.now) c.history.result) ∙ ap is_some c.history.ensures ∙ history-known (held_of c.self.inside.program.piece.now c.self.inside.spent c.self.inside.start c.self.inside.steps c.self.inside.scanner c.self.inside.slots c.self.inside.assigned.keys) c.self.inside.tags c.as_slice.result.now c.args.name.now c.self.invariant.named c.as_slice.ensures c.in_ok-number.number c.index.result.now c.in_ok-number.ensures.number c.index.ensures c.if-not-index.false c.self.invariant.tables.tag_histories)
