use Rattle.std.proofs.Common.{◌∙◌, ◌++◌, ◌∷◌, [], ap, sym, refl, subst, map, Global, ◌≡◌, ap₂, arith, length}
use Rattle.std.specs.declared.rc.Rc.{Rc}
use Rattle.std.proofs.lemmas.List.{map-append}
use Rattle.lx_rules.specs.declared.kept.KeptRule.{KeptRule}
use Rattle.lx_rules.specs.Seen.{rules_view}
use Rattle.std.specs.Prelude.{if◌then◌else◌}
use Rattle.lx_exprs.specs.Checks.{is_among}
use Rattle.lx_rules.specs.declared.items.Known.{Known}
use Rattle.lx_rules.specs.Conditions.{AreNumbers, cond_names, conds_seen, kept_of, taken}
use Rattle.lx_rules.proofs.Rules.RuleSteps.{headed-target, holds_more}
use Rattle.lx_rules.proofs.items.Known.add_rule.Goals as goal

pub returns-clause-added : goal.returns-clause-added
returns-clause-added c = λ state rule holds new.
    let known = c.args.self.now in
    let conds = map (λ cond. cond.now) c.args.conds.now in
    let after = c.enter.new.self in
    let next : Known = record known { rules = c.push-2.new.self; acts = c.push.new.self; conds = after } in
    let counted : c.len-place.result ≡ length known.rules.items = let held = known.rules.ok in omega (arith, held, c.len-place.ensures) in
    let entered = c.in_ok-listed.ensures in
    let made = c.into_rule-rule.ensures in
    let one = record c.into_rule-rule.result { target = c.args.target } in
    holds_more known state holds conds c.args.head c.args.at c.args.target c.args.act rule new next one refl refl holds.fit c.in_ok-push.ensures.items
    (ap (map (λ (held : Rc KeptRule Global). held.value)) c.in_ok-push-2.ensures.items
    ∙ map-append (λ (held : Rc KeptRule Global). held.value) known.rules.items _ ∙ ap (λ (value : KeptRule). rules_view known.rules ++ value ∷ []) c.in_ok-new.ensures.ok)
    entered.names (ap (conds_seen (cond_names after)) made.conds ∙ entered.conds) (subst (AreNumbers _) (sym made.conds) entered.within)
    (λ cond. entered.kept cond
    ∙ ap₂ (λ n more. if is_among cond conds then taken n more (kept_of known.conds cond) else kept_of known.conds cond) counted c.standing-standing.ensures)
    made.number made.at refl (headed-target c.args.head c.into_rule-rule.result c.args.target made.head)
