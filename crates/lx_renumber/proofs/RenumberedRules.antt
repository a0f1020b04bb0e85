-- What is promised of an automaton of rules holds of the one with greater numbers, of the rules with greater numbers.
use Rattle.std.proofs.Common.{◌≡◌, ℕ, ◌+◌, ◌≤◌, List, [], ◌∷◌, Bool, true, false, if◌then◌else◌, Option, Some, None, refl, All, Contains, sym, ap, ◌∙◌, subst, arith}
use Rattle.std.specs.Prelude.{◌↔◌, IsSome, map, option_map, slice_get}
use Rattle.std.proofs.lemmas.List.Elements.{All-map}
use Rattle.std.proofs.lemmas.Option.{slice_get-map}
use Rattle.lx_auto.specs.declared.automaton.Accept.{Accept}
use Rattle.lx_auto.specs.declared.automaton.Auto.{Auto}
use Rattle.lx_auto.specs.declared.automaton.Edge.{Edge}
use Rattle.lx_auto.specs.declared.automaton.State.{State}
use Rattle.lx_auto.specs.Bank.{Bank}
use Rattle.lx_auto.specs.Run.{Found, Standing, found_at, found_behind, or_else, run, start_with, step}
use Rattle.lx_auto.specs.Shapes.{AreAgreed}
use Rattle.lx_auto.proofs.SameLists.{Contains-map}
use Rattle.lx_base.specs.Spelling.{greatest_unit}
use Rattle.lx_base.specs.declared.settings.Enc.{Enc}
use Rattle.lx_regex.specs.Cut.{BeginsMatch, rule_part}
use Rattle.lx_regex.specs.Kernel.{IsWord}
use Rattle.lx_regex.specs.Least.{HasTree, IsLeast}
use Rattle.lx_regex.specs.Match.{Takes, part_at}
use Rattle.lx_regex.specs.Order.{Policy}
use Rattle.lx_regex.specs.Pattern.{Pattern, is_end, sorts_of, terms_of, with_terms}
use Rattle.lx_regex.specs.Script.{script}
use Rattle.lx_regex.specs.Term.{Term}
use Rattle.lx_regex.specs.Values.{values_of}
use Rattle.lx_tdfa.specs.Promise.{FindsBest, FitsRules, IsAutoUnder, IsBest, IsByRule, tag_value}
use Rattle.lx_renumber.proofs.Images.{is_some-option_map, map-map, option_map-is_some, option_map-some, slice_get-image}
use Rattle.lx_renumber.proofs.RenumberedRuns.{found_at-renumbered, found_behind-renumbered, or_else-renumbered, renumbered_found, renumbered_standing, run-renumbered, step-renumbered}
use Rattle.lx_renumber.proofs.RenumberedStates.{IsAuto-renumbered}
use Rattle.lx_renumber.specs.Renumbered.{renumbered, renumbered_accept, renumbered_pattern, renumbered_state}

module _ (by : ℕ) where
  with_terms-renumbered : (patterns : List Pattern)
      → with_terms (map (renumbered_pattern by) patterns) ≡ map (renumbered_pattern by) (with_terms patterns)
  with_terms-renumbered [] = refl
  with_terms-renumbered (pattern ∷ patterns) = at (is_end pattern.kind) (with_terms-renumbered patterns)
    where
      at : (ends : Bool) → with_terms (map (renumbered_pattern by) patterns) ≡ map (renumbered_pattern by) (with_terms patterns)
          → (if ends then with_terms (map (renumbered_pattern by) patterns)
          else renumbered_pattern by pattern ∷ with_terms (map (renumbered_pattern by) patterns))
          ≡ map (renumbered_pattern by) (if ends then with_terms patterns else pattern ∷ with_terms patterns)
      at true rest = rest
      at false rest = ap (λ others. renumbered_pattern by pattern ∷ others) rest

  module _ (patterns : List Pattern) where
    abbrev others : List Pattern
    others = map (renumbered_pattern by) patterns

    pub terms_of-renumbered : terms_of others ≡ terms_of patterns
    terms_of-renumbered =
        ap (map (λ (pattern : Pattern). pattern.term)) (with_terms-renumbered patterns)
        ∙ map-map (λ (pattern : Pattern). pattern.term) (renumbered_pattern by) (with_terms patterns)

    -- a rule of the list with greater numbers is one of the list
    rule-before : (place : ℕ) (other : Pattern) → slice_get (with_terms others) place ≡ Some other
        → (pattern : Pattern) × (slice_get (with_terms patterns) place ≡ Some pattern) × (renumbered_pattern by pattern ≡ other)
    rule-before place other is =
        slice_get-image (renumbered_pattern by) (with_terms patterns) place other
        (subst (λ rules. slice_get rules place ≡ Some other) (with_terms-renumbered patterns) is)

    Takes-before : (enc : Enc) (place : ℕ) (word : List ℕ) → Takes enc others place word → Takes enc patterns place word
    Takes-before enc place word (other, is, tree) =
        let found = rule-before place other is in (
          found.0,
          found.1,
          subst (λ (terms : List Term). HasTree enc (rule_part terms place) (found.0).term word) terms_of-renumbered
              (subst (λ (pattern : Pattern). HasTree enc (part_at others place) pattern.term word) (sym found.2) tree),
        )

    module _ (policy : Policy) (enc : Enc) where
      IsBest-renumbered : (start : ℕ) (word : List ℕ) (found : Found) → IsBest policy enc patterns start word found
          → IsBest policy enc others start word (renumbered_found by found)
      IsBest-renumbered start word found best = record {
        place = best.place;
        pattern = renumbered_pattern by best.pattern;
        is =
            ap (λ rules. slice_get rules best.place) (with_terms-renumbered patterns)
            ∙ slice_get-map (renumbered_pattern by) (with_terms patterns) best.place ∙ ap (option_map (renumbered_pattern by)) best.is;
        first = λ earlier below takes. best.first earlier below (Takes-before enc earlier word takes);
        rule = ap (λ number. number + by) best.rule;
        offset = best.offset;
        tree = best.tree;
        least =
            subst (λ (terms : List Term). IsLeast policy enc (rule_part terms best.place) best.pattern.term word best.tree)
            (sym terms_of-renumbered) best.least;
        values =
            subst (λ (terms : List Term). map tag_value found.values
            ≡ values_of start (script enc (rule_part terms best.place) best.tree) 0 (sorts_of best.pattern))
            (sym terms_of-renumbered) best.values;
      }

      FindsBest-renumbered : (start : ℕ) (word : List ℕ) (found : Option Found) → FindsBest policy enc patterns start word found
          → FindsBest policy enc others start word (option_map (renumbered_found by) found)
      FindsBest-renumbered start word None finds = λ place takes. finds place (Takes-before enc place word takes)
      FindsBest-renumbered start word (Some found) best = IsBest-renumbered start word found best

    IsByRule-renumbered : (enc : Enc) (accept : Option Accept) → IsByRule enc patterns accept
        → IsByRule enc others (option_map (renumbered_accept by) accept)
    IsByRule-renumbered enc None is = tt
    IsByRule-renumbered enc (Some accept) (pattern, has, rule, sorts) = (
      renumbered_pattern by pattern,
      subst (λ rules. Contains rules (renumbered_pattern by pattern)) (sym (with_terms-renumbered patterns))
          (Contains-map (renumbered_pattern by) (with_terms patterns) pattern has),
      ap (λ number. number + by) rule,
      sorts,
    )

    -- a state of the automaton with greater numbers, and what it accepts, is one of the automaton
    accept-before : (states : List State) (number : ℕ) (state : State) (accept : Accept)
        → slice_get (map (renumbered_state by) states) number ≡ Some state → state.accept ≡ Some accept
        → (source : State) × (before : Accept) × (slice_get states number ≡ Some source) × (source.accept ≡ Some before)
        × (renumbered_accept by before ≡ accept)
    accept-before states number state accept is accepts =
        let source = slice_get-image (renumbered_state by) states number state is in
        let before = option_map-some (renumbered_accept by) (source.0).accept accept (ap (λ (s : State). s.accept) source.2 ∙ accepts) in
        (source.0, before.0, source.1, before.1, before.2)

    AreAgreed-renumbered : (states : List State) → AreAgreed states → AreAgreed (map (renumbered_state by) states)
    AreAgreed-renumbered states agreed number other first second accept same is also accepts others rules =
        let one = accept-before states number first accept is accepts in
        let another = accept-before states other second same also others in
        let left : (one.1).rule + by ≡ accept.rule = ap (λ (a : Accept). a.rule) one.4 in
        let right : (another.1).rule + by ≡ same.rule = ap (λ (a : Accept). a.rule) another.4 in
        sym (ap (λ (a : Accept). a.values) one.4)
        ∙ agreed number other one.0 another.0 one.1 another.1 one.2 another.2 one.3 another.3 (omega arith)
        ∙ ap (λ (a : Accept). a.values) another.4

    module _ (enc : Enc) (auto : Auto) where
      FitsRules-renumbered : FitsRules enc patterns auto → FitsRules enc others (renumbered by auto)
      FitsRules-renumbered fits = record {
        formed = IsAuto-renumbered by auto fits.formed;
        units = All-map (λ (state : State). All (λ (edge : Edge). edge.hi ≤ greatest_unit enc) state.edges) (renumbered_state by) auto.states fits.units;
        rules = All-map (λ (state : State). IsByRule enc others state.accept) (renumbered_state by) auto.states
            (λ number none within. IsByRule-renumbered enc _ (fits.rules number none within));
        agreed = AreAgreed-renumbered auto.states fits.agreed;
      }

      -- a run of the automaton with greater numbers is one of the automaton
      run-before : (start : ℕ) (bank : Bank) (word : List ℕ) (behind : Standing)
          → run (renumbered by auto) (start_with start bank) word ≡ Some behind
          → (source : Standing) × (run auto (start_with start bank) word ≡ Some source) × (renumbered_standing by source ≡ behind)
      run-before start bank word behind ran =
          option_map-some (renumbered_standing by) (run auto (start_with start bank) word) behind
          (sym (run-renumbered by auto word (start_with start bank)) ∙ ran)

      step-before : (source behind next : Standing) (unit : ℕ) → renumbered_standing by source ≡ behind
          → step (renumbered by auto) behind unit ≡ Some next
          → (after : Standing) × (step auto source unit ≡ Some after) × (renumbered_standing by after ≡ next)
      step-before source behind next unit same stepped =
          option_map-some (renumbered_standing by) (step auto source unit) next
          (sym (step-renumbered by auto source unit) ∙ ap (λ standing. step (renumbered by auto) standing unit) same ∙ stepped)

      found_at-before : (source behind : Standing) → renumbered_standing by source ≡ behind
          → option_map (renumbered_found by) (found_at auto source) ≡ found_at (renumbered by auto) behind
      found_at-before source behind same = sym (found_at-renumbered by auto source) ∙ ap (found_at (renumbered by auto)) same

      found_behind-before : (source behind : Standing) → renumbered_standing by source ≡ behind
          → option_map (renumbered_found by) (found_behind auto source) ≡ found_behind (renumbered by auto) behind
      found_behind-before source behind same = sym (found_behind-renumbered by auto source) ∙ ap (found_behind (renumbered by auto)) same

      module _ (policy : Policy) (is : IsAutoUnder policy enc patterns auto) where
        begins-renumbered : (start : ℕ) (bank : Bank) (word : List ℕ) → bank.mregs 0 ≡ [] → IsWord enc (terms_of patterns) word
            → IsSome (run (renumbered by auto) (start_with start bank) word) ↔ BeginsMatch enc (terms_of patterns) word
        begins-renumbered start bank word empty units =
            let before = is.begins start bank word empty units in
            let same = run-renumbered by auto word (start_with start bank) in (
              λ some. before.0 (option_map-is_some (renumbered_standing by) (run auto (start_with start bank) word) (subst IsSome same some)),
              λ matches. subst IsSome (sym same)
                  (is_some-option_map (renumbered_standing by) (run auto (start_with start bank) word) (before.1 matches)),
            )

        kept-renumbered : (start : ℕ) (bank : Bank) (word : List ℕ) (behind next : Standing) (unit : ℕ) → bank.mregs 0 ≡ []
            → run (renumbered by auto) (start_with start bank) word ≡ Some behind → step (renumbered by auto) behind unit ≡ Some next
            → found_behind (renumbered by auto) next ≡ or_else (found_at (renumbered by auto) next) (found_behind (renumbered by auto) behind)
        kept-renumbered start bank word behind next unit empty ran stepped =
            let source = run-before start bank word behind ran in
            let after = step-before source.0 behind next unit source.2 stepped in
            sym (found_behind-before after.0 next after.2)
            ∙ ap (option_map (renumbered_found by)) (is.kept start bank word source.0 after.0 unit empty source.1 after.1)
            ∙ sym (or_else-renumbered by (found_at auto after.0) (found_behind auto source.0))
            ∙ (λ i. or_else (found_at-before after.0 next after.2 i) (found_behind-before source.0 behind source.2 i))

        pub IsAutoUnder-renumbered : IsAutoUnder policy enc others (renumbered by auto)
        IsAutoUnder-renumbered = record {
          fits = FitsRules-renumbered is.fits;
          begins = λ start bank word empty units.
              subst (λ (terms : List Term). IsSome (run (renumbered by auto) (start_with start bank) word) ↔ BeginsMatch enc terms word)
              (sym terms_of-renumbered)
              (begins-renumbered start bank word empty (subst (λ (terms : List Term). IsWord enc terms word) terms_of-renumbered units));
          best = λ start bank word behind empty ran.
              let source = run-before start bank word behind ran in
              subst (FindsBest policy enc others start word) (found_at-before source.0 behind source.2)
              (FindsBest-renumbered policy enc start word (found_at auto source.0) (is.best start bank word source.0 empty source.1));
          kept = kept-renumbered;
        }
