use Rattle.std.proofs.Common.{◌≡◌, ◌<◌, ℕ, List, [], get_or, length, map, take}
use Rattle.std.specs.Prelude.{if◌then◌else◌}
use Rattle.std.specs.List.{AllByRecursion}
use Rattle.lx_exprs.specs.Checks.{is_among}
use Rattle.lx_rules.specs.Blocks.{add_conds}
use Rattle.lx_rules.specs.Conditions.{cond_names, kept_of, taken}
use Rattle.lx_rules.proofs.conditions.Conditions.count_each.Given as goal

abbrev pub invariant-loop-cond : goal.invariant-loop-cond
invariant-loop-cond l = record {
  names : cond_names l.self ≡ add_conds (take l.cond-index (map (λ cond. cond.now) l.conds)) (cond_names l.initial.self);
  numbers : map (λ number. get_or (cond_names l.self) number []) l.numbers.items ≡ take l.cond-index (map (λ cond. cond.now) l.conds);
  within : AllByRecursion (λ number. number < length (cond_names l.self)) l.numbers.items;
  kept : (cond : List ℕ) → kept_of l.self cond
      ≡ (if is_among cond (take l.cond-index (map (λ one. one.now) l.conds)) then taken l.place l.rule (kept_of l.initial.self cond)
      else kept_of l.initial.self cond);
}
