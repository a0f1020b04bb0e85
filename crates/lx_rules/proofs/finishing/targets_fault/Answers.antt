use Rattle.std.proofs.Common.{◌∙◌, ap, ap₂, drop, map, sym}
use Rattle.std.proofs.lemmas.List.{drop_all}
use Rattle.lx_rules.specs.Conditions.{cond_names}
use Rattle.lx_rules.specs.Finishing.{kept_targets_fault}
use Rattle.lx_rules.proofs.Rules.CopiedRules.{no_targets}
use Rattle.lx_rules.proofs.finishing.targets_fault.Goals as goal

pub returns-in_default : goal.returns-in_default
returns-in_default c =
    let names = cond_names c.args.known.now.conds in
    let rules = c.as_slice-rules.result.now in
    let acts = c.as_slice-acts.result.now in
    let place = c.loop-place.place in
    sym (no_targets names (map (λ one. one.value) (drop place rules)))
    ∙ ap (kept_targets_fault names (map (λ one. one.value) (drop place rules))) (sym (drop_all place acts c.in_default.ensures.lookup.3)) ∙ c.loop-place.invariant
    ∙ ap₂ (λ l acts. kept_targets_fault names (map (λ one. one.value) l) acts) c.as_slice-rules.ensures.value c.as_slice-acts.ensures.value
