use Rattle.std.proofs.lemmas.Result.{err_from_is_err_and}
use Rattle.lx_regex.specs.Pattern.{patterns_of}
use Rattle.lx_tdfa.proofs.Tables.KeptRules.{IsAutoUnder-within}
use Rattle.lx_compile.specs.Options.{policy_of}
use Rattle.lx_compile.proofs.ScannerRuns.{StopsWithFault-cover, StopsWithFault-kernels}
use Rattle.lx_compile.proofs.automata.made_automaton.Goals as goal

pub reduced-requires : goal.reduced-requires
reduced-requires c =
    let found = c.in_ok-found.ensures (patterns_of c.args.scanner.now.set.rules) c.in_ok-automaton.ensures c.requires.within.classes in
    found.0.fits.formed

pub append_cover-requires-clause-automaton : goal.append_cover-requires-clause-automaton
append_cover-requires-clause-automaton c =
    let options = c.args.frame.now.options.now in
    let patterns = patterns_of c.args.scanner.now.set.rules in
    let found = c.in_ok-found.ensures patterns c.in_ok-automaton.ensures c.requires.within.classes in
    let few = c.in_ok-few.ensures in
    (IsAutoUnder-within (policy_of options) options.enc patterns c.in_ok-few.few c.in_ok-found.found found.0 few.formed few.run few.within, few.reduced)

pub returns : goal.returns
returns c =
    let options = c.args.frame.now.options.now in
    let patterns = patterns_of c.args.scanner.now.set.rules in
    let found = c.in_ok-found.ensures patterns c.in_ok-automaton.ensures c.requires.within.classes in
    let few = c.in_ok-few.ensures in
    let covered = c.in_ok-append_cover.ensures in (
      (IsAutoUnder-within (policy_of options) options.enc patterns c.in_ok-few.few c.in_ok-found.found found.0 few.formed few.run few.within, few.reduced),
      (found.1, covered.0),
      covered.1,
    )

pub returns-in_err-found : goal.returns-in_err-found
returns-in_err-found c =
    let frame = c.args.frame.now in
    let p = err_from_is_err_and c.from_residual-in_err-found.result c.from_residual-in_err-found.ensures.1 in
    rw (p.1, p.2)
    (StopsWithFault-kernels frame.options.now frame.at c.args.scanner.now c.in_err-found.field-0.0
    (c.in_err-found.ensures (patterns_of c.args.scanner.now.set.rules) c.in_ok-automaton.ensures c.requires.within.classes))

pub returns-in_err-append_cover : goal.returns-in_err-append_cover
returns-in_err-append_cover c =
    let frame = c.args.frame.now in
    let found = c.in_ok-found.ensures (patterns_of c.args.scanner.now.set.rules) c.in_ok-automaton.ensures
    c.requires.within.classes in
    let p = err_from_is_err_and c.from_residual-in_err-append_cover.result c.from_residual-in_err-append_cover.ensures.1 in
    rw (p.1, p.2) (StopsWithFault-cover frame.options.now frame.at c.args.scanner.now c.in_err-append_cover.field-0.0 found.1 c.in_err-append_cover.ensures)
