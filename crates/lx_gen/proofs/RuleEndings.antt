-- The ends of rules, told one by one.
use mathlib.Core.Path.{fun_ext}
use Rattle.std.proofs.Common.{◌≡◌, ◌∙◌, sym, ap, refl, ℕ, zero, suc, ◌<◌, ◌≤◌, List, [], ◌∷◌, ◌++◌, length, Some, None, Bool, true, false, nat_eq, slice_get, arith, eqb-true, if◌then◌else◌}
use Rattle.std.specs.List.{AllByRecursion}
use Rattle.lx_ccode.specs.Validity.{IsLine}
use Rattle.lx_regex.specs.declared.rules.Rule.{Rule}
use Rattle.lx_rules.specs.declared.resolved.Act.{Act}
use Rattle.lx_layout.specs.Endings.{Ending}
use Rattle.lx_layout.specs.RuleEnds.{ending_of, endings_of}
use Rattle.lx_layout.specs.declared.rule_ends.RuleEnd.{RuleEnd}
use Rattle.lx_gen.specs.Generated.{Marks, act_ending, endings_by}
use Rattle.lx_rules.specs.Numbered.{numbered_act}
use Rattle.lx_gen.specs.Seen.{HaveShortLines}

-- the ending of the first rule with a number, and behind these what the rest says
abbrev pub endings_over : List RuleEnd → (rest : ℕ → Ending) → (number : ℕ) → Ending
endings_over [] rest number = rest number
endings_over (end ∷ ends) rest number = if nat_eq number end.rule.now.number then ending_of end else endings_over ends rest number

one_more : (marks : Marks) (acts : List Act) (end : RuleEnd) (rule : Rule) (act : Act) (rest : ℕ → Ending) (number : ℕ)
    → end.rule.now ≡ rule → ending_of end ≡ act_ending marks rule (Some act) → numbered_act acts rule.number ≡ Some act
    → (if nat_eq number end.rule.now.number then ending_of end else rest number)
    ≡ (if nat_eq number rule.number then act_ending marks rule (numbered_act acts number) else rest number)
one_more marks acts end rule act rest number same ending own =
    ap (λ (one : Rule). if nat_eq number one.number then ending_of end else rest number) same ∙ by (nat_eq number rule.number) refl
  where
    by : (t : Bool) → nat_eq number rule.number ≡ t
        → (if t then ending_of end else rest number) ≡ (if t then act_ending marks rule (numbered_act acts number) else rest number)
    by true is = ending ∙ ap (λ o. act_ending marks rule o) (sym own ∙ ap (λ n. numbered_act acts n) (sym (eqb-true number rule.number is)))
    by false is = refl

-- with one end more behind the others
pub endings_over-more : (marks : Marks) (acts : List Act) (ends : List RuleEnd) (end : RuleEnd) (rule : Rule) (act : Act) (rules : List Rule) (number : ℕ)
    → end.rule.now ≡ rule → ending_of end ≡ act_ending marks rule (Some act) → numbered_act acts rule.number ≡ Some act
    → endings_over (ends ++ end ∷ []) (endings_by marks acts rules) number ≡ endings_over ends (endings_by marks acts (rule ∷ rules)) number
endings_over-more marks acts [] end rule act rules number same ending own =
    one_more marks acts end rule act (endings_by marks acts rules) number same ending own
endings_over-more marks acts (first ∷ ends) end rule act rules number same ending own =
    ap (λ (rest : Ending). if nat_eq number first.rule.now.number then ending_of first else rest)
    (endings_over-more marks acts ends end rule act rules number same ending own)

over-none : (marks : Marks) (acts : List Act) (ends : List RuleEnd) (number : ℕ)
    → endings_of ends number ≡ endings_over ends (endings_by marks acts []) number
over-none marks acts [] number = refl
over-none marks acts (end ∷ ends) number =
    ap (λ (rest : Ending). if nat_eq number end.rule.now.number then ending_of end else rest) (over-none marks acts ends number)

-- where no rule is left
pub endings_over-all : (marks : Marks) (acts : List Act) (ends : List RuleEnd) (rules left : List Rule) → left ≡ []
    → ((number : ℕ) → endings_over ends (endings_by marks acts left) number ≡ endings_by marks acts rules number)
    → endings_of ends ≡ endings_by marks acts rules
endings_over-all marks acts ends rules left none same =
    fun_ext (λ number. over-none marks acts ends number
    ∙ ap (λ (list : List Rule). endings_over ends (endings_by marks acts list) number) (sym none) ∙ same number)

-- a rule with a number of an act has one
pub numbered_act-some : (acts : List Act) (number : ℕ) → 0 < number → number ≤ length acts → numbered_act acts number ≡ None → ⊥
numbered_act-some acts zero some few none = omega arith
numbered_act-some acts (suc place) some few none = within acts place (omega arith) none
  where
    within : (acts : List Act) (place : ℕ) → place < length acts → slice_get acts place ≡ None → ⊥
    within [] place lt e = omega (arith, lt)
    within (act ∷ acts) zero lt e = cc
    within (act ∷ acts) (suc place) lt e = within acts place (omega (arith, lt)) e

-- the line of a first rule is that of one of them
pub lines-each : (ends : List RuleEnd) → AllByRecursion (λ (end : RuleEnd). IsLine end.line) ends → HaveShortLines (endings_of ends)
lines-each [] each number = tt
lines-each (end ∷ ends) each number = by (nat_eq number end.rule.now.number) (lines-each ends each.1 number)
  where
    by : (t : Bool) → IsLine (endings_of ends number).line → IsLine (if t then ending_of end else endings_of ends number).line
    by true again = each.0
    by false again = again
