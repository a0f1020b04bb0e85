-- What is told of the rules, and the word behind it, are the warnings of a rule list.
use Rattle.std.proofs.Common.{◌≡◌, ◌↔◌, ◌⊎◌, inl, inr, ℕ, zero, suc, List, [], ◌∷◌, ◌++◌, length, Option, Some, None, Bool, true, false, Contains, IsTrue, refl, sym, ap, ◌∙◌, subst, arith, slice_get, if◌then◌else◌}
use Rattle.std.specs.List.Sorted.{IsStrictlyIncreasing}
use Rattle.std.specs.Option.{MatchOption}
use Rattle.std.proofs.lemmas.Bool.{eq-eqb, eqb-true, true≢false}
use Rattle.std.proofs.lemmas.List.Elements.{Contains-append_cases, Contains-append_left, Contains-append_right}
use Rattle.lx_auto.proofs.SameLists.{Contains-later}
use Rattle.lx_auto.specs.Automaton.{state_of}
use Rattle.lx_auto.specs.MetStates.{AreMet}
use Rattle.lx_auto.specs.declared.automaton.Accept.{Accept}
use Rattle.lx_auto.specs.declared.automaton.Auto.{Auto}
use Rattle.lx_base.specs.declared.settings.Enc.{Enc}
use Rattle.lx_regex.specs.Limits.{AreRegular}
use Rattle.lx_regex.specs.Order.{Policy}
use Rattle.lx_regex.specs.Pattern.{Pattern, end_rule, is_end, patterns_of, with_terms}
use Rattle.lx_regex.specs.declared.rules.Rule.{Rule}
use Rattle.lx_tdfa.specs.Promise.{IsAutoUnder}
use Rattle.lx_warn.proofs.DeadWords.{dead-is-first, dead-stopping, first-dead}
use Rattle.lx_warn.proofs.EnteredRules.{chosen-entered, entered-chosen}
use Rattle.lx_warn.proofs.Links.{IsFirstTaker, accepting-taken, one-taker, taken-accepting}
use Rattle.lx_warn.proofs.NumberLists.{Contains-has_number, has_number-Contains, is-false}
use Rattle.lx_warn.proofs.WarningLists.{AreAbove, Tells, by-told, empty-told, increasing-ascend, order-rules, told-by, unreachable-told, warnings_of-tells}
use Rattle.lx_warn.specs.Entered.{AreEntered, StartEnters, has_number, is_number, number_of, rule_at, rule_warnings, word_warnings}
use Rattle.lx_warn.specs.Stops.{IsFirstStopping, IsStopping}
use Rattle.lx_warn.specs.Warnings.{AreInOrder, AreWarnings, HasNumber, IsChosen, IsFirstDead, TakesEmptyFirst}
use Rattle.lx_warn.specs.declared.lists.Warning.{Warning}
use Rattle.lx_warn.specs.declared.lists.Warning.TheVariants.{Unreachable, Empty, Undefined}

-- a rule with an expression is one of the list
Contains-with_terms : (patterns : List Pattern) (place : ℕ) (pattern : Pattern) → slice_get (with_terms patterns) place ≡ Some pattern
    → Contains patterns pattern
Contains-with_terms [] place pattern is = absurd (cc is)
Contains-with_terms (first ∷ patterns) place pattern is =
    at (is_end first.kind) place is (λ other later. Contains-with_terms patterns other pattern later)
  where
    at : (b : Bool) (place : ℕ) → slice_get (if b then with_terms patterns else first ∷ with_terms patterns) place ≡ Some pattern
        → ((other : ℕ) → slice_get (with_terms patterns) other ≡ Some pattern → Contains patterns pattern) → Contains (first ∷ patterns) pattern
    at true place is rest = Contains-later first patterns pattern (rest place is)
    at false zero is rest = let same : first ≡ pattern = cc is in (0, omega arith, same)
    at false (suc place) is rest = Contains-later first patterns pattern (rest place is)

is_number-some : (start : Option ℕ) (number : ℕ) → is_number start number ≡ true → start ≡ Some number
is_number-some None number is = absurd (cc is)
is_number-some (Some other) number is = ap Some (eqb-true other number is)

-- ---- a warning of the tail

only-words : (word : Option (List ℕ)) (warning : Warning) → Contains (word_warnings word) warning
    → (found : List ℕ) × (word ≡ Some found) × (Undefined found ≡ warning)
only-words None warning (place, within, is) = absurd (omega arith)
only-words (Some found) warning (zero, within, is) = (found, refl, is)
only-words (Some found) warning (suc place, within, is) = absurd (omega arith)

words-above : (word : Option (List ℕ)) (number : ℕ) → AreAbove [] None number (word_warnings word)
words-above None number = tt
words-above (Some word) number = (tt, tt)

words-order : (word : Option (List ℕ)) → AreInOrder (word_warnings word)
words-order None = tt
words-order (Some word) = (tt, tt)

-- this is the first word on which the automaton stops, or there is none
abbrev pub IsToldWord : Enc → Auto → Option (List ℕ) → Type 0
IsToldWord enc auto word = MatchOption word ((other : List ℕ) → IsStopping enc auto other → ⊥) (IsFirstStopping enc auto)

module _ (policy given : Policy) (enc : Enc) (rules : List Rule) (auto : Auto) (is : IsAutoUnder given enc (patterns_of rules) auto)
    (regular : AreRegular rules) (marks : List Bool) (met : AreMet auto marks) (start : Bool)
    (enters : IsTrue start ↔ StartEnters enc auto marks (end_rule (patterns_of rules))) (entered numbers : List ℕ) (word : Option (List ℕ))
    (are_entered : AreEntered (rule_at auto marks start) (end_rule (patterns_of rules)) (length auto.states) entered)
    (are_numbers : (number : ℕ) → Contains numbers number ↔ HasNumber (patterns_of rules) number) (increasing : IsStrictlyIncreasing numbers)
    (told_word : IsToldWord enc auto word) where
  abbrev patterns : List Pattern
  patterns = patterns_of rules

  abbrev own : Option ℕ
  own = number_of (state_of auto.states 0).accept

  abbrev told : List Warning
  told = rule_warnings entered own numbers

  abbrev all : List Warning
  all = told ++ word_warnings word

  has-chosen : (number : ℕ) → has_number entered number ≡ true → IsChosen policy enc patterns number
  has-chosen number has =
      entered-chosen policy given enc rules auto is regular marks met start enters.0 enters.1 (length auto.states) number
      (are_entered.sound number (has_number-Contains entered number has))

  chosen-has : (number : ℕ) → IsChosen policy enc patterns number → has_number entered number ≡ true
  chosen-has number chosen =
      Contains-has_number entered number
      (are_entered.complete number (chosen-entered policy given enc rules auto is regular marks met start enters.0 enters.1 number chosen))

  -- ---- rules that no stream enters

  unreachable-sound : (number : ℕ) → Contains all (Unreachable number) → HasNumber patterns number × (IsChosen policy enc patterns number → ⊥)
  unreachable-sound number has = at (Contains-append_cases told (word_warnings word) (Unreachable number) has)
    where
      tells : (other : ℕ) → Contains numbers other → Tells entered own other (Unreachable number)
          → HasNumber patterns number × (IsChosen policy enc patterns number → ⊥)
      tells other among (inl (same, not_entered)) =
          let one : other ≡ number = cc same in
          subst (λ n. HasNumber patterns n × (IsChosen policy enc patterns n → ⊥)) one
          ((are_numbers other).0 among, λ chosen. true≢false (sym (chosen-has other chosen) ∙ not_entered))
      tells other among (inr (same, entering, starting)) = absurd (let h = same in cc)

      at : Contains told (Unreachable number) ⊎ Contains (word_warnings word) (Unreachable number)
          → HasNumber patterns number × (IsChosen policy enc patterns number → ⊥)
      at (inl here) =
          let by = told-by entered own numbers (Unreachable number) here in
          tells by.0 by.1 (warnings_of-tells entered own by.0 (Unreachable number) by.2)
      at (inr behind) = let by = only-words word (Unreachable number) behind in absurd (let h = by.2 in cc)

  unreachable-complete : (number : ℕ) → HasNumber patterns number × (IsChosen policy enc patterns number → ⊥) → Contains all (Unreachable number)
  unreachable-complete number (has, not_chosen) =
      Contains-append_left told (word_warnings word) (Unreachable number)
      (by-told entered own numbers number (Unreachable number) ((are_numbers number).1 has)
      (unreachable-told entered own number
      (is-false (has_number entered number) (λ entering. not_chosen (has-chosen number entering)))))

  -- ---- the empty match

  starts-by : (number : ℕ) → own ≡ Some number → TakesEmptyFirst enc patterns number
  starts-by number same = at (state_of auto.states 0).accept refl same
    where
      by : (accept : Accept) → accept.rule ≡ number → IsFirstTaker enc patterns [] accept.rule → TakesEmptyFirst enc patterns number
      by accept same taker = record {
        place = taker.place;
        pattern = taker.pattern;
        is = taker.is;
        numbered = taker.numbered ∙ same;
        takes = taker.takes;
        first = taker.first;
      }

      at : (accept : Option Accept) → (state_of auto.states 0).accept ≡ accept → number_of accept ≡ Some number → TakesEmptyFirst enc patterns number
      at None accepted same = absurd (cc same)
      at (Some accept) accepted same =
          let one : accept.rule ≡ number = cc same in
          by accept one (accepting-taken given enc patterns auto is [] 0 accept refl accepted)

  own-is : (number : ℕ) → TakesEmptyFirst enc patterns number → own ≡ Some number
  own-is number first = at (taken-accepting given enc patterns auto is [] first.place tt first.takes)
    where
      at : (state : ℕ) × (accept : Accept) × (Some 0 ≡ Some state) × ((state_of auto.states state).accept ≡ Some accept) → own ≡ Some number
      at (state, accept, comes, accepted) =
          let same : 0 ≡ state = cc comes in
          let here : (state_of auto.states 0).accept ≡ Some accept = ap (λ s. (state_of auto.states s).accept) same ∙ accepted in
          let taker = accepting-taken given enc patterns auto is [] 0 accept refl here in
          let rule = one-taker enc patterns [] accept.rule taker first.place first.pattern first.is first.takes first.first in
          ap number_of here ∙ ap Some (sym rule ∙ first.numbered)

  empty-sound : (number : ℕ) → Contains all (Empty number) → TakesEmptyFirst enc patterns number × IsChosen policy enc patterns number
  empty-sound number has = at (Contains-append_cases told (word_warnings word) (Empty number) has)
    where
      tells : (other : ℕ) → Tells entered own other (Empty number) → TakesEmptyFirst enc patterns number × IsChosen policy enc patterns number
      tells other (inl (same, not_entered)) = absurd (let h = same in cc)
      tells other (inr (same, entering, starting)) =
          let one : other ≡ number = cc same in
          subst (λ n. TakesEmptyFirst enc patterns n × IsChosen policy enc patterns n) one
          (starts-by other (is_number-some own other starting), has-chosen other entering)

      at : Contains told (Empty number) ⊎ Contains (word_warnings word) (Empty number)
          → TakesEmptyFirst enc patterns number × IsChosen policy enc patterns number
      at (inl here) =
          let by = told-by entered own numbers (Empty number) here in tells by.0 (warnings_of-tells entered own by.0 (Empty number) by.2)
      at (inr behind) = let by = only-words word (Empty number) behind in absurd (let h = by.2 in cc)

  empty-complete : (number : ℕ) → TakesEmptyFirst enc patterns number × IsChosen policy enc patterns number → Contains all (Empty number)
  empty-complete number (first, chosen) =
      Contains-append_left told (word_warnings word) (Empty number)
      (by-told entered own numbers number (Empty number)
      ((are_numbers number).1 (first.pattern, Contains-with_terms patterns first.place first.pattern first.is, first.numbered))
      (empty-told entered own number (chosen-has number chosen)
      (ap (λ o. is_number o number) (own-is number first) ∙ eq-eqb number number refl)))

  -- ---- the first dead word

  undefined-sound : (other : List ℕ) → Contains all (Undefined other) → IsFirstDead enc patterns other
  undefined-sound other has = at (Contains-append_cases told (word_warnings word) (Undefined other) has)
    where
      tells : (number : ℕ) → Tells entered own number (Undefined other) → ⊥
      tells number (inl (same, not_entered)) = let h = same in cc
      tells number (inr (same, entering, starting)) = let h = same in cc

      by : (found : List ℕ) → IsToldWord enc auto (Some found) → IsFirstDead enc patterns found
      by found first = first-dead given enc patterns auto is found first

      at : Contains told (Undefined other) ⊎ Contains (word_warnings word) (Undefined other) → IsFirstDead enc patterns other
      at (inl here) =
          let told_of = told-by entered own numbers (Undefined other) here in
          absurd (tells told_of.0 (warnings_of-tells entered own told_of.0 (Undefined other) told_of.2))
      at (inr behind) =
          let found = only-words word (Undefined other) behind in
          let same : Undefined found.0 ≡ Undefined other = found.2 in
          let one : found.0 ≡ other = cc same in
          subst (IsFirstDead enc patterns) one (by found.0 (subst (IsToldWord enc auto) found.1 told_word))

  undefined-complete : (other : List ℕ) → IsFirstDead enc patterns other → Contains all (Undefined other)
  undefined-complete other dead =
      Contains-append_right told (word_warnings word) (Undefined other) (at word told_word)
    where
      at : (found : Option (List ℕ)) → IsToldWord enc auto found → Contains (word_warnings found) (Undefined other)
      at None none = absurd (none other (dead-stopping given enc patterns auto is other dead.is_dead))
      at (Some found) first = (0, omega arith, ap Undefined (dead-is-first given enc patterns auto is found other first dead))

  pub are-warnings : AreWarnings policy enc patterns all
  are-warnings = record {
    unreachable = λ number. (unreachable-sound number, unreachable-complete number);
    empty = λ number. (empty-sound number, empty-complete number);
    undefined = λ other. (undefined-sound other, undefined-complete other);
    order =
        order-rules entered own numbers (word_warnings word) 0 (increasing-ascend entered own numbers 0 (λ place lt. omega arith) increasing)
        (words-above word) (words-order word);
  }
