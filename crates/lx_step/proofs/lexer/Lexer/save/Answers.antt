use Rattle.std.proofs.Common.{ap, length, refl, subst}
use Rattle.lx_step.specs.Held.{Held}
use Rattle.lx_step.specs.Left.{left_of}
use Rattle.lx_step.specs.Saved.{Fits, Kept}
use Rattle.lx_step.proofs.SavedLexers.{Fits-own}
use Rattle.lx_step.proofs.lexer.Lexer.save.Goals as goal

pub returns-clause-fits : goal.returns-clause-fits
returns-clause-fits c =
    let inside = c.self.inside in
    let kept : Kept = record {
      counts = record {
        registers = length inside.scanner.registers.items;
        histories = length inside.scanner.histories;
        conds = length c.as_slice.result.now;
        tags = length inside.slots.offsets;
        groups = length inside.slots.entries;
        assignments = inside.program.assignments;
      };
      spent = inside.spent;
      start = inside.start;
      cursor = inside.scanner.cursor;
      cond = inside.scanner.cond;
      given = inside.slots;
      assigned = inside.assigned.keys;
      left = left_of inside.scanner inside.steps;
    } in
    subst (λ (held : Held). Fits held.piece kept) c.self.view_is
    (Fits-own inside.program inside.start inside.steps _ inside.scanner inside.slots _ inside.assigned.keys _ _ inside.known kept c.self.invariant (ap length c.as_slice.ensures) refl refl refl)
