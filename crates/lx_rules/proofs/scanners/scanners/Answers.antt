use Rattle.std.proofs.Common.{◌≡◌, ◌<◌, ◌∙◌, ℕ, List, [], ap, get_or, length, sym, subst}
use Rattle.std.proofs.lemmas.Result.{err_from_is_err_and}
use Rattle.std.specs.List.{AllZip}
use Rattle.lx_rules.specs.Blocks.{conditions_of}
use Rattle.lx_rules.specs.Environments.{config_of}
use Rattle.lx_rules.specs.Finishing.{IsBuiltScanner}
use Rattle.lx_rules.proofs.ScannerSets.CopiedScanners.{scanners_stop, sound_more}
use Rattle.lx_rules.proofs.scanners.scanners.Goals as goal

pub returns-in_err-scanner : goal.returns-in_err-scanner
returns-in_err-scanner c = λ state holds.
    let names = holds.rules.names in
    let conds = conditions_of state.rules in
    let place = c.loop-number.number in
    let lt : place < length conds = subst (λ (l : List (List ℕ)). place < length l) names (subst (λ n. place < n) c.len-number-end.ensures c.loop-number-test.true) in
    let is : get_or conds place [] ≡ c.name_at-cond.result.now = ap (λ l. get_or l place []) (sym names) ∙ sym c.name_at-cond.ensures in
    let p = err_from_is_err_and c.from_residual.result c.from_residual.ensures.1 in
    rw (p.1, p.2)
    (scanners_stop c.args.named c.args.at (config_of state.settings).eof state.rules conds place c.name_at-cond.result.now c.loop-number.scanners c.in_err-scanner.field-0.0 lt is
    (c.loop-number.invariant state holds) (c.in_err-scanner.ensures state holds))

pub loop-number-preserved : goal.loop-number-preserved
loop-number-preserved c = λ state holds.
    let names = holds.rules.names in
    let conds = conditions_of state.rules in
    let place = c.loop-number.number in
    let lt : place < length conds = subst (λ (l : List (List ℕ)). place < length l) names (subst (λ n. place < n) c.len-number-end.ensures c.loop-number-test.true) in
    let is : get_or conds place [] ≡ c.name_at-cond.result.now = ap (λ l. get_or l place []) (sym names) ∙ sym c.name_at-cond.ensures in
    subst (AllZip (IsBuiltScanner c.args.named c.args.at (config_of state.settings).eof state.rules) _) (sym c.in_ok-push.ensures.pushed)
    (sound_more c.args.named c.args.at (config_of state.settings).eof state.rules conds place c.name_at-cond.result.now c.loop-number.scanners c.in_ok-scanner.field-0 lt is
    (c.loop-number.invariant state holds) (c.in_ok-scanner.ensures state holds))
