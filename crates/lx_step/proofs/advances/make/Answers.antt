use Rattle.std.proofs.Common.{refl, arith}
use Rattle.lx_step.specs.Feeds.{feed_of}
use Rattle.lx_step.proofs.AskedSteps.{Goes-step}
use Rattle.lx_step.proofs.advances.make.Goals as goal

pub returns-in_ok-step-in_default : goal.returns-in_ok-step-in_default
returns-in_ok-step-in_default g c = record {
  made = Goes-step c.args.names.piece.now c.args.stmt.now c.args.scanner.now c.step.new.scanner (feed_of (g.S.Refill.ahead c.args.src.now) c.args.w.now)
      c.in_ok-step-in_default.field-0 c.requires.limit c.in_ok-step-in_default.ensures.step c.in_ok-step-in_default.ensures.moves;
  still = tt;
  given = c.in_ok-step-in_default.ensures.given;
  tables = c.step.ensures.tables;
  cond = c.step.ensures.cond;
  lengths = c.step.ensures.lengths;
  kept = tt;
  stays = tt;
  memory = tt;
  formed = c.requires.formed;
  start_kept = record { same_unit = refl; same_start = refl; same_size = refl };
  leaves = λ stops. absurd cc;
  fails = λ stops. absurd cc;
  source = record { same_unit = refl; faults_never_fall = omega arith; pauses_never_fall = omega arith };
}
