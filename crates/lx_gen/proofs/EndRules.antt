-- The rule at the end of the input: it gives nothing, and no accept is by it.
use Rattle.std.specs.Prelude.{◌≡◌, ◌≢◌, ◌||◌, ℕ, Bool, true, false, List, [], ◌∷◌, Option, Some, None, All, IfSome, is_some, refl, slice_index_or, if◌then◌else◌}
use Rattle.std.proofs.Common.{sym, ap, ◌∙◌, subst}
use Rattle.std.specs.List.{AllByRecursion, list_any}
use Rattle.std.proofs.lemmas.List.Elements.{All-contains}
use Rattle.lx_auto.specs.declared.automaton.Accept.{Accept}
use Rattle.lx_auto.specs.declared.automaton.State.{State}
use Rattle.lx_base.specs.Names.{Spellings}
use Rattle.lx_base.specs.declared.settings.Enc.{Enc}
use Rattle.lx_regex.specs.Limits.{HaveDifferentNumbers, NoneHasNumber}
use Rattle.lx_regex.specs.Pattern.{Pattern, end_rule, is_end, pattern_of, patterns_of, with_terms}
use Rattle.lx_regex.specs.declared.rules.Rule.{Rule}
use Rattle.lx_rules.specs.WellFormed.{IsBareEnd}
use Rattle.lx_tdfa.specs.Promise.{IsByRule}
use Rattle.lx_layout.specs.Endings.{Ending}
use Rattle.lx_layout.specs.Pieces.{FitsEnd, Form, Source}
use Rattle.lx_layout.specs.Rules.{names_of}
use Rattle.lx_layout.specs.Writable.{CanBeWritten}
use Rattle.lx_gen.proofs.Elements.{All-each}
use Rattle.lx_gen.proofs.WrittenEnds.{EndsAs}

-- the rule is one of the list
end_found : (P : Rule → Type 0) (rules : List Rule) → AllByRecursion P rules
    → IfSome (end_rule (patterns_of rules)) (λ number. (rule : Rule) × (rule.number ≡ number) × (is_end rule.kind ≡ true) × P rule)
end_found P [] each = tt
end_found P (rule ∷ rules) each = by (is_end rule.kind) refl (end_found P rules each.1)
  where
    Found : (number : ℕ) → Type 0
    Found number = (one : Rule) × (one.number ≡ number) × (is_end one.kind ≡ true) × P one

    by : (t : Bool) → is_end rule.kind ≡ t → IfSome (end_rule (patterns_of rules)) Found
        → IfSome (if t then Some rule.number else end_rule (patterns_of rules)) Found
    by true is again = (rule, refl, is, each.0)
    by false is again = again

-- where there is one, some rule is of its kind
end_has : (rules : List Rule) → IfSome (end_rule (patterns_of rules)) (λ number. list_any (λ (rule : Rule). is_end rule.kind) rules ≡ true)
end_has [] = tt
end_has (rule ∷ rules) = by (is_end rule.kind) (end_rule (patterns_of rules)) (end_has rules)
  where
    rest : Bool
    rest = list_any (λ (one : Rule). is_end one.kind) rules

    by : (t : Bool) (o : Option ℕ) → IfSome o (λ (number : ℕ). rest ≡ true) → IfSome {T = ℕ} (if t then Some rule.number else o) (λ (number : ℕ). (t || rest) ≡ true)
    by true o again = refl
    by false o again = again

-- a number that no rule has is not that of one of the patterns
none_pattern : (number : ℕ) (rules : List Rule) → NoneHasNumber number rules
    → AllByRecursion (λ (pattern : Pattern). pattern.number ≢ number) (with_terms (patterns_of rules))
none_pattern number [] none = tt
none_pattern number (rule ∷ rules) none = by (is_end rule.kind) (none_pattern number rules none.1)
  where
    Other : Pattern → Type 0
    Other pattern = pattern.number ≢ number

    by : (t : Bool) → AllByRecursion Other (with_terms (patterns_of rules))
        → AllByRecursion Other (if t then with_terms (patterns_of rules) else pattern_of rule ∷ with_terms (patterns_of rules))
    by true again = again
    by false again = (none.0, again)

none_end : (number : ℕ) (rules : List Rule) → NoneHasNumber number rules → IfSome (end_rule (patterns_of rules)) (λ rule. number ≢ rule)
none_end number [] none = tt
none_end number (rule ∷ rules) none = by (is_end rule.kind) (end_rule (patterns_of rules)) (none_end number rules none.1)
  where
    by : (t : Bool) (o : Option ℕ) → IfSome o (λ one. number ≢ one) → IfSome (if t then Some rule.number else o) (λ one. number ≢ one)
    by true o again = λ e. none.0 (sym e)
    by false o again = again

-- so the rule at the end is none of the patterns
end_alone : (rules : List Rule) → HaveDifferentNumbers rules
    → IfSome (end_rule (patterns_of rules)) (λ rule. AllByRecursion (λ (pattern : Pattern). pattern.number ≢ rule) (with_terms (patterns_of rules)))
end_alone [] apart = tt
end_alone (rule ∷ rules) apart =
    by (is_end rule.kind) (end_rule (patterns_of rules)) (none_pattern rule.number rules apart.0) (none_end rule.number rules apart.0) (end_alone rules apart.1)
  where
    Apart : (number : ℕ) → List Pattern → Type 0
    Apart number patterns = AllByRecursion (λ (pattern : Pattern). pattern.number ≢ number) patterns

    behind : (o : Option ℕ) → IfSome o (λ one. rule.number ≢ one) → IfSome o (λ one. Apart one (with_terms (patterns_of rules)))
        → IfSome o (λ one. Apart one (pattern_of rule ∷ with_terms (patterns_of rules)))
    behind None other again = tt
    behind (Some number) other again = (other, again)

    by : (t : Bool) (o : Option ℕ) → Apart rule.number (with_terms (patterns_of rules)) → IfSome o (λ one. rule.number ≢ one)
        → IfSome o (λ one. Apart one (with_terms (patterns_of rules)))
        → IfSome (if t then Some rule.number else o) (λ one. Apart one (if t then with_terms (patterns_of rules) else pattern_of rule ∷ with_terms (patterns_of rules)))
    by true o first other again = first
    by false o first other again = behind o other again

-- no accept is by it
no_accept : (enc : Enc) (patterns : List Pattern) (rule : ℕ) (states : List State)
    → AllByRecursion (λ (pattern : Pattern). pattern.number ≢ rule) (with_terms patterns) → All (λ (state : State). IsByRule enc patterns state.accept) states
    → All (λ (state : State). IfSome state.accept (λ accept. accept.rule ≢ rule)) states
no_accept enc patterns rule states apart are = λ k d lt. by (slice_index_or states k d).accept (are k d lt)
  where
    by : (o : Option Accept) → IsByRule enc patterns o → IfSome o (λ accept. accept.rule ≢ rule)
    by None is = tt
    by (Some accept) is = λ e.
        All-contains (λ (pattern : Pattern). pattern.number ≢ rule) (with_terms patterns) is.0
        (All-each (λ (pattern : Pattern). pattern.number ≢ rule) (with_terms patterns) apart) is.1 (sym is.2 ∙ e)

-- its end gives nothing
abbrev pub EndsBare : (endings : ℕ → Ending) → (rule : ℕ) → Type 0
EndsBare endings rule = ((endings rule).tags ≡ []) × ((endings rule).slash ≡ None) × ((endings rule).groups ≡ 0)

module _ (names : Spellings) (conds : List (List ℕ)) (endings : ℕ → Ending) where
  bare_end : (rule : Rule) → EndsAs names conds endings rule → (rule.tags ≡ []) × (rule.slash ≡ None) × (rule.groups ≡ 0) → EndsBare endings rule.number
  bare_end rule ends bare = (
    ends.tags ∙ ap names_of bare.0,
    ends.slash ∙ bare.1,
    ends.groups ∙ bare.2,
  )

  abbrev IsBoth : Rule → Type 0
  IsBoth rule = EndsAs names conds endings rule × IsBareEnd rule

  both : (rules : List Rule) → AllByRecursion (EndsAs names conds endings) rules → AllByRecursion IsBareEnd rules → AllByRecursion IsBoth rules
  both [] ends bare = tt
  both (rule ∷ rules) ends bare = ((ends.0, bare.0), both rules ends.1 bare.1)

  pub ends_bare : (rules : List Rule) → AllByRecursion (EndsAs names conds endings) rules → AllByRecursion IsBareEnd rules
      → IfSome (end_rule (patterns_of rules)) (EndsBare endings)
  ends_bare rules ends bare = by (end_rule (patterns_of rules)) (end_found IsBoth rules (both rules ends bare))
    where
      by : (o : Option ℕ) → IfSome o (λ number. (rule : Rule) × (rule.number ≡ number) × (is_end rule.kind ≡ true) × IsBoth rule) → IfSome o (EndsBare endings)
      by None found = tt
      by (Some number) found = subst (EndsBare endings) found.1 (bare_end found.0 found.3.0 (found.3.1 found.2))

  -- it fits where a unit stands at the end
  pub end_fits : (enc : Enc) (form : Form) (scanner : Source) (rules : List Rule) → form.names ≡ names → scanner.endings ≡ endings
      → AllByRecursion (EndsAs names conds endings) rules → AllByRecursion IsBareEnd rules → HaveDifferentNumbers rules
      → All (λ (state : State). IsByRule enc (patterns_of rules) state.accept) scanner.auto.states
      → list_any (λ (rule : Rule). is_end rule.kind) rules ≡ is_some form.eof
      → IfSome (end_rule (patterns_of rules)) (FitsEnd form conds scanner)
  end_fits enc form scanner rules named given ends bare apart are paired =
      by (end_rule (patterns_of rules)) (end_found IsBoth rules (both rules ends bare)) (end_alone rules apart) (end_has rules)
    where
      by : (o : Option ℕ) → IfSome o (λ number. (rule : Rule) × (rule.number ≡ number) × (is_end rule.kind ≡ true) × IsBoth rule)
          → IfSome o (λ rule. AllByRecursion (λ (pattern : Pattern). pattern.number ≢ rule) (with_terms (patterns_of rules)))
          → IfSome o (λ number. list_any (λ (rule : Rule). is_end rule.kind) rules ≡ true) → IfSome o (FitsEnd form conds scanner)
      by None found alone has = tt
      by (Some number) found alone has = subst (FitsEnd form conds scanner) found.1 (record {
        short = found.3.0.short;
        ending = written;
        tags = ap (λ (one : ℕ → Ending). (one found.0.number).tags) given ∙ bares.0;
        slash = ap (λ (one : ℕ → Ending). (one found.0.number).slash) given ∙ bares.1;
        groups = ap (λ (one : ℕ → Ending). (one found.0.number).groups) given ∙ bares.2;
        alone = subst (λ rule. All (λ (state : State). IfSome state.accept (λ accept. accept.rule ≢ rule)) scanner.auto.states) (sym found.1)
            (no_accept enc (patterns_of rules) number scanner.auto.states alone are);
        unit = sym paired ∙ has;
      })
        where
          bares : EndsBare endings found.0.number
          bares = bare_end found.0 found.3.0 (found.3.1 found.2)

          written : CanBeWritten form.names conds (scanner.endings found.0.number)
          written = subst (λ (spellings : Spellings). CanBeWritten spellings conds (scanner.endings found.0.number)) (sym named)
              (subst (λ (one : ℕ → Ending). CanBeWritten names conds (one found.0.number)) (sym given) found.3.0.written)
