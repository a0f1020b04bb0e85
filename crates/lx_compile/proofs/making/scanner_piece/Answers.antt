use Rattle.lx_gen.specs.Automata.{seen_autos, seen_checks}
use Rattle.lx_gen.specs.Generated.{AreAutomataUnder, marks_of}
use Rattle.lx_compile.specs.Options.{policy_of}
use Rattle.lx_compile.proofs.MetStates.{sources_met}
use Rattle.lx_compile.proofs.ScannerRuns.{AreAutomata-of, AreAutomataUnder-of, are_reduced}
use Rattle.lx_compile.proofs.making.scanner_piece.Goals as goal

pub generate-requires-clause-automata : goal.generate-requires-clause-automata
generate-requires-clause-automata c =
    let options = c.args.frame.now.options.now in
    let scanners = c.args.resolved.scanners in
    let items = c.in_ok-autos.field-0.autos in
    let made = c.in_ok-autos.ensures.0 in
    rw c.as_slice-2.ensures
    (AreAutomata-of (policy_of options) options.enc scanners (seen_autos items) (seen_checks items)
    (AreAutomataUnder-of options scanners (seen_autos items) (seen_checks items) made.autos made.checks))

pub returns : goal.returns
returns c =
    let options = c.args.frame.now.options.now in
    let scanners = c.args.resolved.scanners in
    let items = c.in_ok-autos.field-0.autos in
    let made = c.in_ok-autos.ensures.0 in
    let automata : AreAutomataUnder (policy_of options) options.enc scanners (seen_autos items) (seen_checks items) =
    AreAutomataUnder-of options scanners (seen_autos items) (seen_checks items) made.autos made.checks in
    let marks = marks_of c.args.line c.args.frame.now.names.now in
    let reduced = are_reduced options scanners (seen_autos items) made.autos in
    let generated = rw c.as_slice-2.ensures at c.in_ok-piece.ensures.piece in
    rw c.in_ok-first.ensures.checks (
      record {
        autos = seen_autos items;
        automata = automata;
        reduced = reduced;
        generated = generated;
        right = (rw c.as_slice-2.ensures at c.in_ok-piece.ensures.right) (policy_of options) automata;
        live = generated.live (sources_met marks c.args.resolved.acts scanners (seen_autos items) (seen_checks items) reduced);
      },
      c.in_ok-warnings.ensures,
      rw c.from_vec.ensures c.in_ok-autos.ensures.2,
      c.block_groups-groups.ensures,
      c.in_ok-autos.ensures.1,
      c.first_kept.ensures options (rw (c.in_ok-piece.ensures.scanners, c.in_ok-first.ensures.first) made.first),
    )
