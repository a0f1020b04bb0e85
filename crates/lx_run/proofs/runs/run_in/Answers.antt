use Rattle.std.proofs.Common.{◌∙◌, ◌<◌, ◌/◌, ◌*◌, ◌++◌, ap, ap₂, arith, replicate, List, ℕ}
use Rattle.lx_window.proofs.PaddedBytes.{IsWhole-padded}
use Rattle.lx_run.specs.Streams.{padded, padding}
use Rattle.lx_run.proofs.Inputs.{EndsAs-made, MayBegin-made, buffer-long, buffer-whole, padded-long, source_of, units-early}
use Rattle.lx_run.proofs.runs.run_in.Goals as goal

pub over-over-requires-clause-whole : goal.over-over-requires-clause-whole
over-over-requires-clause-whole g c =
    let piece = c.args.piece.now in
    let input = c.args.input.items in
    let buffer = c.deref_mut.result.now in
    let whole = IsWhole-padded piece.unit input (padding piece) c.requires.whole in
    let count_is = padded-long piece input c.in_ok-stream.stream c.len-2.result c.ending_of-ending.result.padding c.in_ok-stream.ensures
    (c.len-2.ensures ∙ c.args.input.ok.0) c.ending_of-ending.ensures.padding in
    let long = buffer-long piece c.args.window c.buffer_size-size.result c.in_ok-stream.stream (padded piece input) buffer c.in_ok-buffer.buffer.items
    c.ending_of-ending.result.holds_all
    c.deref_mut.ensures.value c.in_ok-buffer.ensures c.buffer_size-size.ensures count_is
    c.ending_of-ending.ensures.holds_all in
    buffer-whole piece c.args.window input buffer long whole

pub run_window-requires-clause-begins : goal.run_window-requires-clause-begins
run_window-requires-clause-begins g c =
    let piece = c.args.piece.now in
    let input = c.args.input.items in
    let buffer = c.deref_mut.result.now in
    let states = c.ending_of-ending.result.states in
    let whole = IsWhole-padded piece.unit input (padding piece) c.requires.whole in
    let count_is = padded-long piece input c.in_ok-stream.stream c.len-2.result c.ending_of-ending.result.padding c.in_ok-stream.ensures
    (c.len-2.ensures ∙ c.args.input.ok.0) c.ending_of-ending.ensures.padding in
    let long = buffer-long piece c.args.window c.buffer_size-size.result c.in_ok-stream.stream (padded piece input) buffer c.in_ok-buffer.buffer.items
    c.ending_of-ending.result.holds_all
    c.deref_mut.ensures.value c.in_ok-buffer.ensures c.buffer_size-size.ensures count_is
    c.ending_of-ending.ensures.holds_all in
    let some : 0 < piece.unit = let unit = c.requires.valid.unit in omega (arith, unit) in
    let source_is = c.padded-source.ensures ∙ ap (source_of piece.unit c.args.step states)
    (ap₂ (λ (text : List ℕ) (units : ℕ). text ++ replicate (units * piece.unit) 0) c.deref.ensures.value c.ending_of-ending.ensures.padding) in
    let early = units-early piece (padded piece input) c.in_ok-stream.stream c.from-unit.result 0x4000_0000_0000_0000
    count_is c.from-unit.ensures c.if-stream-unit-gt-MOST_UNITS.false in
    MayBegin-made piece c.args.window input buffer long c.args.step states c.over-over.result c.padded-source.result some
    c.over-over.ensures.empty source_is
    c.over-over.ensures.formed whole c.ending_of-ending.ensures.states early

pub returns-clause-ends : goal.returns-clause-ends
returns-clause-ends g c =
    let piece = c.args.piece.now in
    let input = c.args.input.items in
    let buffer = c.deref_mut.result.now in
    let states = c.ending_of-ending.result.states in
    let count_is = padded-long piece input c.in_ok-stream.stream c.len-2.result c.ending_of-ending.result.padding c.in_ok-stream.ensures
    (c.len-2.ensures ∙ c.args.input.ok.0) c.ending_of-ending.ensures.padding in
    let long = buffer-long piece c.args.window c.buffer_size-size.result c.in_ok-stream.stream (padded piece input) buffer c.in_ok-buffer.buffer.items
    c.ending_of-ending.result.holds_all
    c.deref_mut.ensures.value c.in_ok-buffer.ensures c.buffer_size-size.ensures count_is
    c.ending_of-ending.ensures.holds_all in
    let some : 0 < piece.unit = let unit = c.requires.valid.unit in omega (arith, unit) in
    let source_is = c.padded-source.ensures ∙ ap (source_of piece.unit c.args.step states)
    (ap₂ (λ (text : List ℕ) (units : ℕ). text ++ replicate (units * piece.unit) 0) c.deref.ensures.value c.ending_of-ending.ensures.padding) in
    EndsAs-made piece c.args.window input buffer long c.args.step states c.over-over.result c.padded-source.result some
    c.over-over.ensures.empty source_is
    _ _ _ _ _ c.run_window.result
    (ap₂ (λ (count unit : ℕ). count / unit) (c.len.ensures ∙ c.args.input.ok.0) c.from-unit.ensures) c.run_window.ensures.ends
