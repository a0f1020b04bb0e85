-- The automaton of a rule list within the limits of a scanner has states whose numbers have 32 bits.
use Rattle.std.proofs.Common.{sym, subst, arith}
use Rattle.std.specs.Prelude.{◌≡◌, ◌+◌, ◌*◌, ◌^◌, ◌<◌, ◌≤◌, List, [], ◌∷◌, Bool, true, false, length, map, if◌then◌else◌, refl}
use Rattle.std.specs.Bool.{OnFalse}
use Rattle.lx_base.specs.declared.settings.Enc.{Enc}
use Rattle.lx_regex.specs.Automaton.{automaton}
use Rattle.lx_regex.specs.Expr.{size_of}
use Rattle.lx_regex.specs.Limits.{AreRegular, IsRegular, IsWithinLimits, sizes_of, tags_of}
use Rattle.lx_regex.specs.Pattern.{Pattern, is_end, pattern_of, patterns_of, terms_of, with_terms}
use Rattle.lx_regex.specs.Term.{parts}
use Rattle.lx_regex.specs.declared.rules.Rule.{Rule}
use Rattle.lx_regex.proofs.PartTables.RuleParts.{few_parts}
use Rattle.lx_tnfa.specs.Tnfa.{IsTnfaOf, Tnfa}
use Rattle.lx_tnfa.proofs.Construction.WholeTable.{held_length}
use Rattle.lx_tdfa.proofs.Rules.WithinStates.{rules_parts}
use Rattle.lx_posix.proofs.CodeSearch.FewMoves.{table_count}

parts_few : (rules : List Rule) → tags_of rules ≤ 128 → AreRegular rules → rules_parts (terms_of (patterns_of rules)) ≤ 132 * sizes_of rules
parts_few [] few regular = omega arith
parts_few (rule ∷ rules) few regular = at (is_end rule.kind) refl (parts_few rules (omega arith) regular.1)
  where
    Goal : Bool → Type 0
    Goal b =
        rules_parts
        (map (λ (p : Pattern). p.term) (if b then with_terms (patterns_of rules) else pattern_of rule ∷ with_terms (patterns_of rules)))
        ≤ 132 * ((if b then 0 else size_of rule.expr) + sizes_of rules)

    at : (b : Bool) → is_end rule.kind ≡ b → rules_parts (terms_of (patterns_of rules)) ≤ 132 * sizes_of rules → Goal (is_end rule.kind)
    at true e rest = subst Goal (sym e) (omega arith)
    at false e rest =
        let own : IsRegular (pattern_of rule) = subst (λ b. OnFalse b (IsRegular (pattern_of rule))) e regular.0 in
        let one : parts (pattern_of rule).term + 1 ≤ 132 * size_of rule.expr = few_parts (rule ∷ rules) 0 rule (omega arith) refl few own in
        subst Goal (sym e) (omega (arith, one, rest))

pub automaton_fits : (rules : List Rule) → IsWithinLimits rules → length (automaton (terms_of (patterns_of rules))) < 2 ^ 32
automaton_fits rules limits =
    let few = parts_few rules limits.tags limits.regular in
    let count = table_count (terms_of (patterns_of rules)) 1 in
    let size = limits.size in
    omega (arith, few, count, size)

pub states_fit : (enc : Enc) (rules : List Rule) (tnfa : Tnfa) → IsTnfaOf enc (patterns_of rules) tnfa → IsWithinLimits rules
    → length tnfa.states < 2 ^ 32
states_fit enc rules tnfa of limits =
    let same = held_length tnfa.classes (automaton (terms_of (patterns_of rules))) tnfa.states of.states in
    let fit = automaton_fits rules limits in
    omega (arith, same, fit)
