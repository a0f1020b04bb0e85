use Rattle.std.proofs.Common.{◌∙◌, ◌<◌, sym, ap, map, subst, Ok}
use Rattle.lx_ccode.specs.Validity.{NamesOneOf}
use Rattle.lx_step.specs.declared.answers.Outcome.TheVariants.{Memory, NeedFill, ReadFailed}
use Rattle.lx_step.specs.Asking.{IsMade}
use Rattle.lx_step.specs.Held.{is_on_histories}
use Rattle.lx_step.specs.Feeds.{feed_of}
use Rattle.lx_step.proofs.Lists.{slice_get-within}
use Rattle.lx_step.proofs.Passes.{IsNearer-made, ReadsWindow-made, stops_of}
use Rattle.lx_step.proofs.Places.{all-stands, any-stands}
use Rattle.lx_step.proofs.Room.{HasRoomFor-statement}
use Rattle.lx_step.proofs.Underway.{OnErr-always}
use Rattle.lx_step.proofs.Ways.{Comes-without_memory, comes_here, loop_count-window, stops-without_code, stops-without_memory}
use Rattle.lx_step.proofs.matches.Program.pass.Goals as goal

pub returns-in_default-clause-comes : goal.returns-in_default-clause-comes
returns-in_default-clause-comes g c = λ entry before first start size way.
    let piece = c.args.self.now.piece.now in
    stops-without_code piece entry before _ first c.args.slots.now c.args.at c.args.scanner.now c.args.steps.now c.args.assigned.now.keys way (sym c.in_default.ensures)
    (subst (λ count. c.args.steps.now < count) (sym (loop_count-window piece before.window.start c.args.scanner.now.limit c.args.w.now.start c.args.w.now.limit c.args.self.now.statements start c.requires.ready.limit c.requires.program.statements))
    c.requires.unlooped)

pub make-requires-clause-room : goal.make-requires-clause-room
make-requires-clause-room g c = HasRoomFor-statement c.args.self.now.piece.now.blocks c.args.at c.in-Some.stmt.now c.args.scanner.now c.args.slots.now c.requires.parts.tables
    (record { block = c.requires.block; stmt = sym c.in-Some.ensures })

pub make-requires-clause-named : goal.make-requires-clause-named
make-requires-clause-named g c =
    all-stands (NamesOneOf (map (λ case. case.cond) c.args.self.now.piece.now.conds)) c.args.self.now.piece.now.blocks c.args.at.block c.args.at.stmt c.args.at.code.now c.in-Some.stmt.now c.requires.program.conds c.requires.block (sym c.in-Some.ensures)

pub returns-in_err-made-clause-comes : goal.returns-in_err-made-clause-comes
returns-in_err-made-clause-comes g c = λ entry before first start size way.
    let piece = c.args.self.now.piece.now in
    let feed = feed_of (g.S.Refill.ahead c.args.src.now) c.args.w.now in
    let after = feed_of (g.S.Refill.ahead c.make.new.src) c.make.new.w in
    Comes-without_memory piece entry before after first c.from_residual.result c.make.new.scanner c.make.new.slots c.args.steps.now c.args.assigned.now.keys c.from_residual.ensures.0
    (stops-without_memory piece entry before feed first c.args.slots.now c.args.at c.args.scanner.now c.args.steps.now c.args.assigned.now.keys c.in-Some.stmt.now after c.make.new.scanner c.make.new.slots way
    (record { block = c.requires.block; stmt = sym c.in-Some.ensures })
    (subst (λ count. c.args.steps.now < count) (sym (loop_count-window piece before.window.start c.args.scanner.now.limit c.args.w.now.start c.args.w.now.limit c.args.self.now.statements start c.requires.ready.limit c.requires.program.statements))
    c.requires.unlooped)
    c.in_err-made.ensures.still c.in_err-made.ensures.kept c.in_err-made.ensures.stays c.in_err-made.ensures.memory)

pub returns-in_err-made-clause-memory : goal.returns-in_err-made-clause-memory
returns-in_err-made-clause-memory g c =
    OnErr-always c.from_residual.result _
    (any-stands is_on_histories c.args.self.now.piece.now.blocks c.args.at.block c.args.at.stmt c.args.at.code.now c.in-Some.stmt.now c.requires.block (sym c.in-Some.ensures) c.in_err-made.ensures.memory)

pub passed-requires-clause-place : goal.passed-requires-clause-place
passed-requires-clause-place g c = slice_get-within c.args.at.code.now c.args.at.stmt c.in-Some.stmt.now (sym c.in-Some.ensures)

pub returns-clause-comes : goal.returns-clause-comes
returns-clause-comes g c = λ entry before first start size way.
    let piece = c.args.self.now.piece.now in
    let feed = feed_of (g.S.Refill.ahead c.args.src.now) c.args.w.now in
    let after = feed_of (g.S.Refill.ahead c.make.new.src) c.make.new.w in
    comes_here piece entry before feed first c.args.slots.now c.args.at c.args.scanner.now c.args.steps.now c.args.assigned.now.keys c.in-Some.stmt.now after c.make.new.scanner c.make.new.slots c.passed.new.steps c.note.new.assigned.keys start size way
    (record { block = c.requires.block; stmt = sym c.in-Some.ensures })
    (subst (λ count. c.args.steps.now < count) (sym (loop_count-window piece before.window.start c.args.scanner.now.limit c.args.w.now.start c.args.w.now.limit c.args.self.now.statements start c.requires.ready.limit c.requires.program.statements))
    c.requires.unlooped)
    c.in_ok-made.ensures.given c.note.ensures.noted c.in_ok-made.made c.passed.result c.in_ok-made.ensures.made c.passed.ensures c.requires.ready.limit c.requires.ready.formed c.make.ensures.formed

pub returns-clause-nearer : goal.returns-clause-nearer
returns-clause-nearer g c =
    IsNearer-made c.args.self.now.piece.now c.args.at c.in-Some.stmt.now c.args.scanner.now c.make.new.scanner (feed_of (g.S.Refill.ahead c.args.src.now) c.args.w.now) (feed_of (g.S.Refill.ahead c.make.new.src) c.make.new.w)
    c.in_ok-made.made c.passed.result c.args.steps.now c.passed.new.steps c.in_ok-made.ensures.made c.passed.ensures (record { block = c.requires.block; stmt = sym c.in-Some.ensures }) c.requires.ready.formed

pub returns-clause-ready : goal.returns-clause-ready
returns-clause-ready g c =
    ReadsWindow-made c.args.self.now.piece.now c.args.at c.in-Some.stmt.now c.args.scanner.now c.make.new.scanner (feed_of (g.S.Refill.ahead c.args.src.now) c.args.w.now) (feed_of (g.S.Refill.ahead c.make.new.src) c.make.new.w)
    c.in_ok-made.made (g.S.Refill.unit c.args.src.now) (g.S.Refill.unit c.make.new.src) c.in_ok-made.ensures.made (record { block = c.requires.block; stmt = sym c.in-Some.ensures }) c.requires.ready c.make.ensures.source.same_unit
    c.make.ensures.start_kept c.make.ensures.formed

pub returns-clause-leaves : goal.returns-clause-leaves
returns-clause-leaves g c = λ told.
    c.make.ensures.leaves (c.in_ok-made.was ∙ ap Ok
    (stops_of c.args.self.now.piece.now c.args.at c.in-Some.stmt.now c.args.scanner.now c.make.new.scanner (feed_of (g.S.Refill.ahead c.args.src.now) c.args.w.now) (feed_of (g.S.Refill.ahead c.make.new.src) c.make.new.w)
    c.in_ok-made.made c.passed.result c.args.steps.now c.passed.new.steps NeedFill c.in_ok-made.ensures.made c.passed.ensures (λ none. none) cc))

pub returns-clause-fails : goal.returns-clause-fails
returns-clause-fails g c = λ told.
    c.make.ensures.fails (c.in_ok-made.was ∙ ap Ok
    (stops_of c.args.self.now.piece.now c.args.at c.in-Some.stmt.now c.args.scanner.now c.make.new.scanner (feed_of (g.S.Refill.ahead c.args.src.now) c.args.w.now) (feed_of (g.S.Refill.ahead c.make.new.src) c.make.new.w)
    c.in_ok-made.made c.passed.result c.args.steps.now c.passed.new.steps ReadFailed c.in_ok-made.ensures.made c.passed.ensures (λ none. none) cc))

pub returns-clause-other : goal.returns-clause-other
returns-clause-other g c = λ told.
    let piece = c.args.self.now.piece.now in
    let before = feed_of (g.S.Refill.ahead c.args.src.now) c.args.w.now in
    let after = feed_of (g.S.Refill.ahead c.make.new.src) c.make.new.w in
    subst (IsMade piece c.in-Some.stmt.now c.args.scanner.now c.make.new.scanner before after)
    (stops_of piece c.args.at c.in-Some.stmt.now c.args.scanner.now c.make.new.scanner before after
    c.in_ok-made.made c.passed.result c.args.steps.now c.passed.new.steps Memory c.in_ok-made.ensures.made c.passed.ensures (λ none. none) cc)
    c.in_ok-made.ensures.made
