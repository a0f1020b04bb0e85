use Rattle.std.proofs.Common.{◌≡◌, ◌∙◌, ◌<◌, ◌+◌, None, ap, refl, length, drop, sym, arith}
use Rattle.std.specs.Prelude.{option_copied}
use Rattle.std.proofs.Math.ListN.{drop_of_length-le}
use Rattle.lx_gen.proofs.LikeInputs.{auto-at, autos-count}
use Rattle.lx_gen.specs.Automata.{auto_by, seen_autos}
use Rattle.lx_compile.specs.Models.{first_auto}
use Rattle.lx_compile.proofs.FirstAutos.{begins-own, seen-none}
use Rattle.lx_compile.proofs.ItemRuns.{drop-item}
use Rattle.lx_compile.proofs.WarningRuns.{AreAutosOf-length, AreWarningsOf-none, HaveWarnings-end, HaveWarnings-next}
use Rattle.lx_compile.proofs.warned.block_warnings.Goals as goal

pub append_item_warnings-requires-clause-automaton : goal.append_item_warnings-requires-clause-automaton
append_item_warnings-requires-clause-automaton c =
    let options = c.args.options.now in
    let scanners = c.args.resolved.now.scanners in
    let items = c.args.autos.now in
    let place = c.loop-place.place in
    let item = c.index-autos-place.result in
    let auto = auto_by c.in-Some.first.now item in
    let own = begins-own items c.in-Some.first.now (sym c.first_of.ensures ∙ ap option_copied c.in-Some.is) in
    let counts = autos-count c.in-Some.first.now own.0 own.1 items own.2 in
    let scanners_are = c.as_slice-scanner-items.ensures in
    let within : place < length scanners = rw scanners_are at c.loop-place-test.true in
    let many = AreAutosOf-length options scanners (seen_autos items) c.requires.automata in
    let within_autos : place < length (seen_autos items) = omega (arith, many, within) in
    let within_items : place < length items = omega (arith, within_autos, counts.0) in
    let at = auto-at c.in-Some.first.now own.0 own.1 items own.2 place item within_items c.index-autos-place.is auto refl in
    let left = rw (
      drop-item scanners place c.scanner-item.result within (rw scanners_are at c.scanner-item.is),
      drop-item (seen_autos items) place auto within_autos at,
    ) at c.loop-place.invariant in
    left.automata.0

pub loop-place-preserved : goal.loop-place-preserved
loop-place-preserved c =
    let options = c.args.options.now in
    let scanners = c.args.resolved.now.scanners in
    let items = c.args.autos.now in
    let place = c.loop-place.place in
    let item = c.index-autos-place.result in
    let auto = auto_by c.in-Some.first.now item in
    let first = begins-own items c.in-Some.first.now (sym c.first_of.ensures ∙ ap option_copied c.in-Some.is) in
    let counts = autos-count c.in-Some.first.now first.0 first.1 items first.2 in
    let scanners_are = c.as_slice-scanner-items.ensures in
    let within : place < length scanners = rw scanners_are at c.loop-place-test.true in
    let many = AreAutosOf-length options scanners (seen_autos items) c.requires.automata in
    let within_autos : place < length (seen_autos items) = omega (arith, many, within) in
    let within_items : place < length items = omega (arith, within_autos, counts.0) in
    let at = auto-at c.in-Some.first.now first.0 first.1 items first.2 place item within_items c.index-autos-place.is auto refl in
    let left = rw (
      drop-item scanners place c.scanner-item.result within (rw scanners_are at c.scanner-item.is),
      drop-item (seen_autos items) place auto within_autos at,
    ) at c.loop-place.invariant in
    let own = c.in_ok-append_item_warnings.ensures in
    HaveWarnings-next options c.args.at c.as_slice-acts.result.now scanners c.scanner-item.result (drop (place + 1) scanners) auto
    (drop (place + 1) (seen_autos items)) c.loop-place.all c.append_item_warnings.new.all own.0 left own.1 own.2

pub returns-in_default : goal.returns-in_default
returns-in_default c =
    let none : first_auto c.args.autos.now ≡ None = sym c.first_of.ensures ∙ ap option_copied c.in_default.is in
    rw (sym c.tells_warnings.ensures, c.if-not-tells_warnings.false)
    (AreWarningsOf-none c.args.options.now c.args.at c.args.resolved.now.acts c.args.resolved.now.scanners (seen_autos c.args.autos.now) c.new-all.result
    c.requires.automata (seen-none c.args.autos.now none) c.new-all.ensures)

pub returns : goal.returns
returns c =
    let scanners = c.args.resolved.now.scanners in
    let asked = sym c.tells_warnings.ensures in
    let ended = rw c.as_slice-scanner-items.ensures at c.loop-place-test.false in
    let left = rw (drop_of_length-le scanners ended, c.as_slice-acts.ensures) at c.loop-place.invariant in
    rw (asked, c.if-not-tells_warnings.false) (HaveWarnings-end c.args.options.now c.args.at c.args.resolved.now.acts scanners _ c.loop-place.all left)
