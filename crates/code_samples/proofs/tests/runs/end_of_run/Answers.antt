use Rattle.std.proofs.Common.{◌≡◌, ◌∙◌, sym, ap, subst, ◌*◌, ◌%◌, ◌++◌, ◌≤◌, length, replicate, arith, true, false}
use Rattle.lx_window.proofs.PaddedBytes.{length-padded}
use Rattle.lx_window.proofs.StreamUnits.{length-stream_units}
use Rattle.lx_window.specs.MemorySource.{MemorySource}
use Rattle.lx_window.specs.Units.{stream_units}
use Rattle.lx_window.specs.WindowView.{WindowView}
use Rattle.code_samples.proofs.tests.runs.end_of_run.Goals as goal

pub run_window-requires-clause-begins : goal.run_window-requires-clause-begins
run_window-requires-clause-begins c =
    let input = c.args.input.now in
    let ending = c.ending_of-ending in
    let view = c.over-w.ensures.empty in
    let source = c.padded-src.ensures in
    let padded = input ++ replicate (ending.result.padding * 1) 0 in
    let long = length-padded input (ending.result.padding * 1) in
    record {
      formed = c.over-w.ensures.formed;
      base = ap (λ (made : WindowView). made.base) view;
      start = ap (λ (made : WindowView). made.start) view;
      limit = ap (λ (made : WindowView). made.limit) view;
      unit = ap (λ (made : WindowView). made.unit) view ∙ sym c.requires.unit;
      source_unit = ap (λ (made : MemorySource). made.unit) source ∙ sym c.requires.unit;
      whole = ap (λ (made : MemorySource). length made.bytes % made.unit) source ∙ omega (arith);
      leaves = ap (λ (made : MemorySource). made.leaves) source ∙ ending.ensures.states;
      leaves_next = ap (λ (made : MemorySource). made.leaves_next) source ∙ sym (ap (λ (made : MemorySource). made.leaves) source);
      early = subst (λ (made : MemorySource). length (stream_units made.unit made.bytes) ≤ 0x4000_0000_0000_0000) (sym source)
          (let units = length-stream_units 1 padded in
          let short = c.if-input-gt-MOST.false in
          let fits = ending.type_inv in
          omega (arith, units, long, short, fits));
      room = λ holds. let none : false ≡ true = sym c.if-ending.false ∙ ending.ensures.holds_all ∙ holds in absurd (cc);
    }
