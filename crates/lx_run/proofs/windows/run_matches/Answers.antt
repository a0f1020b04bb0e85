use Rattle.std.proofs.Common.{◌∙◌, Some, ap, arith, inl, inr, sym}
use Rattle.lx_step.specs.Feeds.{feed_of}
use Rattle.lx_window.specs.MemorySource.{ahead_of}
use Rattle.lx_run.proofs.WindowRuns.{HasRun-begins, HasRun-ends, HasRun-falls, HasRun-first, HasRun-next, HasRun-stops, stops-here, stops-later, units-behind}
use Rattle.lx_run.proofs.WantedPuts.{Rose-behind, Rose-put}
use Rattle.lx_run.proofs.windows.run_matches.Goals as goal

pub loop-input-init : goal.loop-input-init
loop-input-init g c = record {
  source_unit = c.requires.stands.0;
  never_falls = omega arith;
  wants_never_fall = omega arith;
  runs = λ reading leaves between is early. HasRun-first _ between _ _ is;
}

pub returns-then-input-start-clause-ends : goal.returns-then-input-start-clause-ends
returns-then-input-start-clause-ends g c = λ reading leaves between is early.
    let run = c.loop-input.invariant.runs reading leaves between is early in
    let start = c.start-start.ensures.start ∙ run.is.at.start_is in
    let stops = stops-here c.args.input.stops c.args.input.units c.start-start.result c.args.piece.now run.between c.requires.stops run.is.piece_is start c.if-input.true c.if-input-start.true in
    HasRun-stops run _ _ c.start-start.result c.put_end_line_together.result c.ended.result start stops c.put_end_line_together.ensures c.ended.ensures

pub returns-then-input-start-clause-memory : goal.returns-then-input-start-clause-memory
returns-then-input-start-clause-memory g c = λ lacks.
    inr (Rose-behind c.loop-input.invariant.wants_never_fall
    (Rose-put c.put_end_line_together.result c.put_end_line_together.ensures.lacks (sym c.ended.ensures ∙ lacks)))

pub match_over-matched-requires-clause-stands : goal.match_over-matched-requires-clause-stands
match_over-matched-requires-clause-stands g c =
    let stands = c.requires.stands.1 in
    let run = c.loop-input.invariant.runs stands.0 stands.1 stands.2 stands.3 stands.4 in
    (c.loop-input.invariant.source_unit, (stands.0, stands.1, run.between, run.is))

pub returns-in-Some-clause-ends : goal.returns-in-Some-clause-ends
returns-in-Some-clause-ends g c = λ reading leaves between is early.
    let run = c.loop-input.invariant.runs reading leaves between is early in
    let start = c.start-start.ensures.start ∙ run.is.at.start_is in
    let later = stops-later c.args.input.stops c.args.input.units c.start-start.result c.args.piece.now run.between c.requires.stops
    run.is.piece_is start c.else-input.either in
    let made = c.match_over-matched.ensures.matched reading leaves run.between run.is in
    HasRun-ends run _ _ later made c.in-Some.end c.in-Some.ensures.ends c.in-Some.ensures.memory

pub returns-in-Some-clause-memory : goal.returns-in-Some-clause-memory
returns-in-Some-clause-memory g c = λ lacks. elim (c.in-Some.ensures.lacks (ap Some lacks)) [
  | inl memory ↦ inl (c.match_over-matched.ensures.memory memory)
  | inr rose ↦ inr (Rose-behind c.loop-input.invariant.wants_never_fall rose)
]

pub begin-requires-clause-from_start : goal.begin-requires-clause-from_start
begin-requires-clause-from_start g c =
    let stands = c.requires.stands.1 in
    let run = c.loop-input.invariant.runs stands.0 stands.1 stands.2 stands.3 stands.4 in
    let matched = c.match_over-matched in
    let made = matched.ensures.matched stands.0 stands.1 run.between run.is in
    (HasRun-begins run matched.result.outcome matched.result.lexer (feed_of (ahead_of matched.new.src) matched.new.w) c.cursor.result made
    c.in-None.ensures.ends.0 c.cursor.ensures).from

pub begin-requires-clause-to_limit : goal.begin-requires-clause-to_limit
begin-requires-clause-to_limit g c =
    let stands = c.requires.stands.1 in
    let run = c.loop-input.invariant.runs stands.0 stands.1 stands.2 stands.3 stands.4 in
    let matched = c.match_over-matched in
    let made = matched.ensures.matched stands.0 stands.1 run.between run.is in
    (HasRun-begins run matched.result.outcome matched.result.lexer (feed_of (ahead_of matched.new.src) matched.new.w) c.cursor.result made
    c.in-None.ensures.ends.0 c.cursor.ensures).to

pub begin-requires-clause-early : goal.begin-requires-clause-early
begin-requires-clause-early g c =
    let stands = c.requires.stands.1 in
    let run = c.loop-input.invariant.runs stands.0 stands.1 stands.2 stands.3 stands.4 in
    let matched = c.match_over-matched in
    let made = matched.ensures.matched stands.0 stands.1 run.between run.is in
    let within = (HasRun-begins run matched.result.outcome matched.result.lexer (feed_of (ahead_of matched.new.src) matched.new.w)
    c.cursor.result made c.in-None.ensures.ends.0 c.cursor.ensures).within in
    let early = stands.4 in
    omega (arith, within, early)

pub loop-input-smaller : goal.loop-input-smaller
loop-input-smaller g c =
    let stands = c.requires.stands.1 in
    let run = c.loop-input.invariant.runs stands.0 stands.1 stands.2 stands.3 stands.4 in
    let matched = c.match_over-matched in
    let made = matched.ensures.matched stands.0 stands.1 run.between run.is in
    let before = units-behind c.loop-input.src c.loop-input.w run.is.at c.loop-input.invariant.source_unit in
    HasRun-falls run matched.result.outcome matched.result.lexer matched.new.src matched.new.w c.begin.new.self c.cursor.result _ made
    c.in-None.ensures.ends.0 c.cursor.ensures
    c.begin.ensures.begun c.begin.ensures.formed (matched.ensures.source_unit ∙ c.loop-input.invariant.source_unit) before

pub loop-input-preserved : goal.loop-input-preserved
loop-input-preserved g c = record {
  source_unit = c.match_over-matched.ensures.source_unit ∙ c.loop-input.invariant.source_unit;
  never_falls = let before = c.loop-input.invariant.never_falls in let after = c.in-None.ensures.never_falls in omega
      (arith, before, after);
  wants_never_fall = let before = c.loop-input.invariant.wants_never_fall in let after = c.in-None.ensures.wants_never_fall in omega
      (arith, before, after);
  runs = λ reading leaves between is early.
      let run = c.loop-input.invariant.runs reading leaves between is early in
      let start = c.start-start.ensures.start ∙ run.is.at.start_is in
      let later = stops-later c.args.input.stops c.args.input.units c.start-start.result c.args.piece.now run.between c.requires.stops
      run.is.piece_is start c.else-input.either in
      let made = c.match_over-matched.ensures.matched reading leaves run.between run.is in
      HasRun-next run _ _ later made c.cursor.result c.begin.new.self c.in-None.ensures.ends c.cursor.ensures c.begin.ensures.begun
      c.begin.ensures.formed;
}
