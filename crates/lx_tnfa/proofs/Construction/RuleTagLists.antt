-- Lists of rules with the kinds of their tags.
use Rattle.std.proofs.Common.{◌≡◌, ℕ, suc, ◌<◌, List, ◌∷◌, length, get_or, drop, Some, sym, ap, ◌∙◌, eq-eqb}
use Rattle.std.proofs.Math.Seq.{drop-cons}
use Rattle.std.specs.Prelude.{if◌then◌else◌}
use Rattle.lx_tnfa.specs.Making.{seen_tags}
use Rattle.lx_tnfa.specs.Tnfa.{kinds_for}
use Rattle.lx_tnfa.specs.declared.tnfa.RuleTags.{RuleTags}

next_rule : (rules : List RuleTags) (i : ℕ) (rule : RuleTags) → i < length rules → rule ≡ get_or rules i rule
    → drop i rules ≡ rule ∷ drop (suc i) rules
next_rule rules i rule lt is = drop-cons rules i rule lt ∙ ap (λ y. y ∷ drop (suc i) rules) (sym is)

pub rule_found : (rules : List RuleTags) (i number : ℕ) (rule : RuleTags) → i < length rules → rule ≡ get_or rules i rule → rule.number ≡ number
    → kinds_for (seen_tags (drop i rules)) number ≡ Some rule.many.items
rule_found rules i number rule lt is same =
    ap (λ l. kinds_for (seen_tags l) number) (next_rule rules i rule lt is)
    ∙ ap (λ b. if b then Some rule.many.items else kinds_for (seen_tags (drop (suc i) rules)) number) (eq-eqb rule.number number same)
