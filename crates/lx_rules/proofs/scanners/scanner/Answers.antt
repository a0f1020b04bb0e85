use Rattle.std.proofs.Common.{◌≡◌, ◌∙◌, List, None, ap, ap₂, map, sym, subst}
use Rattle.std.specs.Borrow.{Bor}
use Rattle.std.specs.List.{AllByRecursion, AllZip}
use Rattle.lx_rules.specs.declared.kept.KeptRule.{KeptRule}
use Rattle.lx_rules.specs.Blocks.{rules_of, scanner_fault}
use Rattle.lx_rules.specs.Conditions.{cond_names, places_of}
use Rattle.lx_rules.specs.Environments.{config_of}
use Rattle.lx_rules.specs.Seen.{rules_view}
use Rattle.lx_rules.specs.Finishing.{IsBuilt, IsCopyOf, kept_fault, kept_rules_of}
use Rattle.lx_rules.proofs.Blocks.FinishingSteps.{eof_known}
use Rattle.lx_rules.proofs.ScannerSets.KeptScanners.{kept_fault-is}
use Rattle.lx_rules.proofs.ScannerSets.CopiedScanners.{scanner_built, scanner_sound, scanner_zip}
use Rattle.lx_rules.proofs.scanners.scanner.Goals as goal

abbrev seen : List (Bor KeptRule) → List KeptRule
seen held = map (λ one. one.now) held

pub rule_copies-requires : goal.rule_copies-requires
rule_copies-requires c =
    let known = c.args.known.now in
    let cond = c.args.cond.now in
    let state = c.requires.0 in
    let eof = (config_of state.settings).eof in
    let known_eof = c.eof.ensures ∙ eof_known known state c.requires.1 in
    let names = cond_names known.conds in
    let all = c.requires.1.rules.each in
    let held = kept_rules_of (places_of known.conds) cond (rules_view known.rules) in
    let first : seen c.deref.result.now ≡ held = ap seen c.deref.ensures.value ∙ c.in_ok-held.ensures in
    let second : seen c.deref-2.result.now ≡ held = ap seen c.deref-2.ensures.value ∙ c.in_ok-held.ensures in
    let found = kept_fault-is names state.rules c.args.at eof held (rules_of cond state.rules)
    (scanner_zip c.args.named c.args.at eof names (rules_view known.rules) state.rules all (places_of known.conds) c.requires.1.rules.places cond) in
    let none : scanner_fault c.args.at eof (rules_of cond state.rules) ≡ None =
    sym found ∙ ap₂ (kept_fault c.args.at) (sym known_eof) (sym first) ∙ sym c.scanner_fault.ensures ∙ c.in_default.is in
    subst (AllByRecursion IsBuilt) (sym second) (scanner_built c.args.named c.args.at eof names (rules_view known.rules) state.rules all (places_of known.conds) c.requires.1.rules.places cond none)

pub returns-in-Some : goal.returns-in-Some
returns-in-Some c = λ state holds.
    let known = c.args.known.now in
    let cond = c.args.cond.now in
    let eof = (config_of state.settings).eof in
    let known_eof = c.eof.ensures ∙ eof_known known state holds in
    let names = cond_names known.conds in
    let held = kept_rules_of (places_of known.conds) cond (rules_view known.rules) in
    let first : seen c.deref.result.now ≡ held = ap seen c.deref.ensures.value ∙ c.in_ok-held.ensures in
    let found = kept_fault-is names state.rules c.args.at eof held (rules_of cond state.rules)
    (scanner_zip c.args.named c.args.at eof names (rules_view known.rules) state.rules holds.rules.each (places_of known.conds) holds.rules.places cond) in
    sym c.in-Some.is ∙ c.scanner_fault.ensures ∙ ap₂ (kept_fault c.args.at) known_eof first ∙ found

pub returns : goal.returns
returns c = λ state holds.
    let known = c.args.known.now in
    let cond = c.args.cond.now in
    let eof = (config_of state.settings).eof in
    let known_eof = c.eof.ensures ∙ eof_known known state holds in
    let names = cond_names known.conds in
    let all = holds.rules.each in
    let held = kept_rules_of (places_of known.conds) cond (rules_view known.rules) in
    let first : seen c.deref.result.now ≡ held = ap seen c.deref.ensures.value ∙ c.in_ok-held.ensures in
    let second : seen c.deref-2.result.now ≡ held = ap seen c.deref-2.ensures.value ∙ c.in_ok-held.ensures in
    let found = kept_fault-is names state.rules c.args.at eof held (rules_of cond state.rules)
    (scanner_zip c.args.named c.args.at eof names (rules_view known.rules) state.rules all (places_of known.conds) holds.rules.places cond) in
    let none : scanner_fault c.args.at eof (rules_of cond state.rules) ≡ None =
    sym found ∙ ap₂ (kept_fault c.args.at) (sym known_eof) (sym first) ∙ sym c.scanner_fault.ensures ∙ c.in_default.is in
    let copies = subst (AllZip IsCopyOf held) (sym c.from_vec.ensures) (subst (λ l. AllZip IsCopyOf l c.in_ok-rules.rules.items) second c.in_ok-rules.ensures) in
    scanner_sound c.args.named c.args.at eof names (rules_view known.rules) state.rules all (places_of known.conds) holds.rules.places cond none _ c.in_ok-cond_name.ensures copies
