use Rattle.std.proofs.Common.{ℕ, Bool, List, ap, arith, refl, subst, sym, ◌∙◌}
use Rattle.lx_regex.specs.Kinds.{kinds_of}
use Rattle.lx_regex.specs.Pattern.{Pattern, pattern_of, patterns_of, terms_of}
use Rattle.lx_regex.specs.declared.rules.Rule.{Rule}
use Rattle.lx_tdfa.specs.Promise.{IsAutoUnder}
use Rattle.lx_renumber.proofs.Images.{map-map, map-take_all, map-take_more}
use Rattle.lx_renumber.proofs.RenumberedReads.{AllInterfere-renumbered, EachTargetIsRead-renumbered}
use Rattle.lx_renumber.proofs.RenumberedRules.{IsAutoUnder-renumbered, terms_of-renumbered}
use Rattle.lx_renumber.proofs.RenumberedStates.{AllAreToldApart-renumbered}
use Rattle.lx_renumber.specs.Renumbered.{renumbered, renumbered_pattern}
use Rattle.lx_renumber.proofs.rules.difference.Goals as goal

abbrev kinds_in_rule : Rule → List (ℕ × Bool)
kinds_in_rule rule = kinds_of rule.expr

pub loop-place-preserved : goal.loop-place-preserved
loop-place-preserved c = record {
  patterns =
      map-take_more pattern_of (λ (rule : Rule). renumbered_pattern c.in_ok-by.by (pattern_of rule)) c.loop-place.place c.args.before.now
      c.args.rules.now c.index-before-place.result c.index-rules-place.result c.loop-place-test.true c.if-before-rules.false
      c.index-before-place.is c.index-rules-place.is (c.if-not-is_renumbered.ensures.pattern refl) c.loop-place.invariant.patterns;
  kinds =
      map-take_more kinds_in_rule kinds_in_rule c.loop-place.place c.args.before.now c.args.rules.now c.index-before-place.result
      c.index-rules-place.result c.loop-place-test.true c.if-before-rules.false c.index-before-place.is c.index-rules-place.is
      (c.if-not-is_renumbered.ensures.kinds refl) c.loop-place.invariant.kinds;
}

pub returns-clause-patterns : goal.returns-clause-patterns
returns-clause-patterns c =
    let by = c.in_ok-by.by in
    map-take_all pattern_of (λ (rule : Rule). renumbered_pattern by (pattern_of rule)) c.loop-place.place c.args.before.now c.args.rules.now
    (omega arith) c.if-before-rules.false c.loop-place.invariant.patterns
    ∙ sym (map-map (renumbered_pattern by) pattern_of c.args.before.now)

pub returns-clause-kinds : goal.returns-clause-kinds
returns-clause-kinds c =
    map-take_all kinds_in_rule kinds_in_rule c.loop-place.place c.args.before.now c.args.rules.now (omega arith) c.if-before-rules.false
    c.loop-place.invariant.kinds

pub returns-clause-promised : goal.returns-clause-promised
returns-clause-promised c policy enc promised =
    let by = c.in_ok-by.by in
    subst (λ (patterns : List Pattern). IsAutoUnder policy enc patterns (renumbered by c.args.auto.now)) (sym (returns-clause-patterns c))
    (IsAutoUnder-renumbered by (patterns_of c.args.before.now) enc c.args.auto.now policy promised)

pub returns-clause-terms : goal.returns-clause-terms
returns-clause-terms c =
    ap terms_of (returns-clause-patterns c) ∙ terms_of-renumbered c.in_ok-by.by (patterns_of c.args.before.now)

pub returns-clause-apart : goal.returns-clause-apart
returns-clause-apart c = AllAreToldApart-renumbered c.in_ok-by.by c.args.auto.now

pub returns-clause-read : goal.returns-clause-read
returns-clause-read c = EachTargetIsRead-renumbered c.in_ok-by.by c.args.auto.now

pub returns-clause-interfere : goal.returns-clause-interfere
returns-clause-interfere c = AllInterfere-renumbered c.in_ok-by.by c.args.auto.now
