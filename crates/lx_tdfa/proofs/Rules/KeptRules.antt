-- In the automaton of a rule list walks stay in their rules, and numbers tell places apart.
use Rattle.std.specs.Prelude.{List}
use Rattle.lx_base.specs.declared.settings.Enc.{Enc}
use Rattle.lx_regex.specs.Pattern.{Pattern}
use Rattle.lx_tnfa.specs.RuleNumbers.{HaveApartNumbers}
use Rattle.lx_tnfa.specs.Tnfa.{IsTnfaOf, Tnfa}
use Rattle.lx_tdfa.proofs.Rules.ApartNumbers.{kinds_kept}
use Rattle.lx_tdfa.proofs.Walks.ClosureSearches.{RulesKept}
use Rattle.lx_tdfa.proofs.WordKernels.EndingRules.{script-ending_rule}
use Rattle.lx_tdfa.proofs.Walks.NumbersApart.{number_of-apart}
use Rattle.lx_tdfa.proofs.Rules.RuleSteps.{first_ending-kept, next_steps-kept}

pub rules_kept : (enc : Enc) (patterns : List Pattern) (tnfa : Tnfa) → IsTnfaOf enc patterns tnfa → HaveApartNumbers tnfa.rules
    → RulesKept enc patterns tnfa
rules_kept enc patterns tnfa of apart = record {
  numbers = number_of-apart enc patterns tnfa of;
  steps = next_steps-kept enc patterns tnfa of;
  endings = first_ending-kept enc patterns tnfa of;
  ending_rules = script-ending_rule enc patterns tnfa of;
  kinds = λ pattern has. kinds_kept patterns tnfa.rules pattern of.rules apart has;
}
