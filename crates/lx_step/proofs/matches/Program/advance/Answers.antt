use Rattle.std.proofs.Common.{◌≡◌, ◌∙◌, sym, refl, subst, ◌≤◌, arith, Some, IfSome}
use Rattle.lx_ccode.specs.Machine.{code_at}
use Rattle.lx_step.specs.declared.matches.Position.{Position}
use Rattle.lx_step.specs.Feeds.{feed_of}
use Rattle.lx_step.proofs.Ways.{HasStopped-passed, IsOnWay-entered, IsOnWay-passed, KeepsSource-both, KeepsStart-both, Nears-passed, loop_count-window, stops-looped, stops-nowhere}
use Rattle.lx_step.proofs.matches.Program.advance.Goals as goal

pub returns-in_default-clause-stopped : goal.returns-in_default-clause-stopped
returns-in_default-clause-stopped g c = λ entry enters.
    stops-nowhere c.args.self.now.piece.now entry (feed_of (g.S.Refill.ahead c.args.src.now) c.args.w.now) c.args.at c.args.scanner.now c.args.slots.now c.args.steps.now c.args.self.now.statements c.args.assigned.now.keys c.without_code.result
    c.in_default.is enters c.requires.ready.limit c.requires.program.statements (rw (← c.start.ensures.start) c.without_code.ensures)

pub loop-steps-init : goal.loop-steps-init
loop-steps-init g c = record {
  way = λ entry enters.
      IsOnWay-entered c.args.self.now.piece.now entry (feed_of (g.S.Refill.ahead c.args.src.now) c.args.w.now) c.args.at c.in-Some.at c.args.scanner.now c.args.slots.now c.args.steps.now c.args.assigned.now.keys c.in-Some.is enters;
  block = subst (λ at. IfSome at (λ (one : Position). code_at c.args.self.now.piece.now.blocks (Some one.block) ≡ Some one.code.now)) c.in-Some.is c.requires.block;
  parts = c.requires.parts;
  ready = c.requires.ready;
  returns = c.requires.returns;
  start_kept = record { same_unit = refl; same_start = refl; same_size = refl };
  source = record { same_unit = refl; faults_never_fall = omega arith; pauses_never_fall = omega arith };
}

pub loop-steps-preserved : goal.loop-steps-preserved
loop-steps-preserved g c = record {
  way = λ entry enters.
      IsOnWay-passed c.args.self.now.piece.now entry (feed_of (g.S.Refill.ahead c.args.src.now) c.args.w.now) (feed_of (g.S.Refill.ahead c.pass.new.src) c.pass.new.w) c.args.slots.now c.in_ok-next.field-0 c.in-On.next c.pass.new.scanner
      c.pass.new.slots c.pass.new.steps c.pass.new.assigned.keys c.in-On.is
      (c.in_ok-next.ensures.comes entry (feed_of (g.S.Refill.ahead c.args.src.now) c.args.w.now) c.args.slots.now (sym c.loop-steps.invariant.start_kept.same_start) (sym c.loop-steps.invariant.start_kept.same_size)
      (c.loop-steps.invariant.way entry enters));
  block = (Nears-passed c.args.self.now.piece.now.blocks c.in_ok-next.field-0 c.in-On.next c.loop-steps.steps c.pass.new.steps c.loop-steps.w.limit c.pass.new.w.limit c.in-On.is c.in_ok-next.ensures.nearer).block;
  parts = c.pass.ensures.parts;
  ready = c.in_ok-next.ensures.ready;
  returns = c.loop-steps.invariant.returns;
  start_kept = KeepsStart-both c.loop-steps.invariant.start_kept c.pass.ensures.start_kept;
  source = KeepsSource-both c.loop-steps.invariant.source c.pass.ensures.source;
}

pub returns-in-Ends-clause-stopped : goal.returns-in-Ends-clause-stopped
returns-in-Ends-clause-stopped g c = λ entry enters.
    HasStopped-passed c.args.self.now.piece.now entry (feed_of (g.S.Refill.ahead c.args.src.now) c.args.w.now) (feed_of (g.S.Refill.ahead c.pass.new.src) c.pass.new.w) c.args.slots.now c.in_ok-next.field-0 c.in-Ends.outcome c.pass.new.scanner
    c.pass.new.slots c.pass.new.steps c.pass.new.assigned.keys c.in-Ends.is
    (c.in_ok-next.ensures.comes entry (feed_of (g.S.Refill.ahead c.args.src.now) c.args.w.now) c.args.slots.now (sym c.loop-steps.invariant.start_kept.same_start) (sym c.loop-steps.invariant.start_kept.same_size)
    (c.loop-steps.invariant.way entry enters))

pub returns-clause-stopped : goal.returns-clause-stopped
returns-clause-stopped g c = λ entry enters.
    stops-looped c.args.self.now.piece.now entry (feed_of (g.S.Refill.ahead c.args.src.now) c.args.w.now) (feed_of (g.S.Refill.ahead c.loop-steps.src) c.loop-steps.w) c.args.slots.now c.loop-steps.slots c.loop-steps.at c.loop-steps.scanner
    c.loop-steps.steps c.loop-steps.assigned.keys (c.loop-steps.invariant.way entry enters)
    (subst (λ count. count ≤ c.loop-steps.steps)
    (c.most_steps.ensures ∙ sym (loop_count-window c.args.self.now.piece.now c.args.w.now.start c.loop-steps.scanner.limit c.start-in-loop-steps.result c.loop-steps.scanner.limit c.args.self.now.statements
    (sym c.loop-steps.invariant.start_kept.same_start ∙ sym c.start-in-loop-steps.ensures.start) refl c.requires.program.statements))
    c.loop-steps-test.false)
