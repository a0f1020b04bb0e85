-- A rule list has one match on a stream from a start under one policy.
use Rattle.std.specs.Prelude.{◌≡◌, ℕ, ◌+◌, ◌<◌, ◌≤◌, List, [], length, Some, slice_get}
use Rattle.std.proofs.Common.{sym, ap, ap₂, ◌∙◌, subst, arith, ⊎_elim}
use Rattle.std.proofs.lemmas.Bool.{cases_order}
use Rattle.lx_base.specs.declared.settings.Enc.{Enc}
use Rattle.lx_regex.specs.Script.{Symbol, script}
use Rattle.lx_regex.specs.Order.{Policy}
use Rattle.lx_regex.specs.Values.{Value, values_of, cursor_behind}
use Rattle.lx_regex.specs.Pattern.{Pattern, with_terms, terms_of, sorts_of}
use Rattle.lx_regex.specs.Match.{Outcome, matched, unmatched, IsWordAt, part_at, Takes, IsLongestFirst, IsAnswer, IsMatch, at_end, by_rule, by_none}
use Rattle.lx_regex.proofs.Walks.Readings.{front_same_length}
use Rattle.lx_regex.proofs.Trees.LeastScript.{least_script}
use Rattle.lx_regex.proofs.KernelCuts.Cuts.{rule_positive}

-- words of one length at one start are the same
one_word : (stream : List ℕ) (start : ℕ) (word other : List ℕ) → IsWordAt stream start word → IsWordAt stream start other
    → length word ≡ length other → word ≡ other
one_word stream start word other a b same = (front_same_length word other a.0 b.0 same (sym a.1 ∙ b.1)).0

module _ (policy : Policy) (enc : Enc) (patterns : List Pattern) (stream : List ℕ) (start : ℕ) where
  abbrev Longest : List ℕ → ℕ → Type 0
  Longest word place = IsLongestFirst policy enc patterns stream start word place

  abbrev Answer : Pattern → ℕ → List ℕ → ℕ → List Value → Type 0
  Answer pattern part word cursor values = IsAnswer policy enc patterns stream start pattern part word cursor values

  longest_word : (word other : List ℕ) (place place' : ℕ) → Longest word place → Longest other place' → word ≡ other
  longest_word word other place place' a b =
      let le : length other ≤ length word = a.longest other place' b.is_word b.takes in
      let ge : length word ≤ length other = b.longest word place a.is_word a.takes in
      one_word stream start word other a.is_word b.is_word (omega arith)

  first_place : (word other : List ℕ) (place place' : ℕ) → Longest word place → Longest other place' → place ≡ place'
  first_place word other place place' a b =
      let same : word ≡ other = longest_word word other place place' a b in
      ⊎_elim
      (λ e. e)
      (λ r. ⊎_elim
      (λ lt. absurd (b.first place lt (subst (λ w. Takes enc patterns place w) same a.takes)))
      (λ gt. absurd (a.first place' gt (subst (λ w. Takes enc patterns place' w) (sym same) b.takes)))
      r)
      (cases_order place place')

  -- one rule answers one thing for a word
  one_answer : (pattern : Pattern) (part : ℕ) (word : List ℕ) (cursor cursor' : ℕ) (values values' : List Value) → 0 < part
      → Answer pattern part word cursor values → Answer pattern part word cursor' values'
      → matched pattern.number cursor values ≡ matched pattern.number cursor' values'
  one_answer pattern part word cursor cursor' values values' positive a b =
      let same : script enc part a.tree ≡ script enc part b.tree =
      least_script policy enc pattern.term part positive word a.tree b.tree a.least b.least in
      let stands : Some cursor ≡ Some cursor' =
      sym a.stands ∙ ap (λ (s : List Symbol). cursor_behind start word s pattern.slash) same ∙ b.stands in
      let at : cursor ≡ cursor' = cc in
      let valued : values ≡ values' =
      a.valued ∙ ap (λ (s : List Symbol). values_of start s 0 (sorts_of pattern)) same ∙ sym b.valued in
      ap₂ (λ m n. matched pattern.number m n) at valued

  same_answer :
      (pattern pattern' : Pattern) (part part' : ℕ) (word word' : List ℕ) (cursor cursor' : ℕ) (values values' : List Value)
      → 0 < part → pattern ≡ pattern' → part ≡ part' → word ≡ word' → Answer pattern part word cursor values
      → Answer pattern' part' word' cursor' values'
      → matched pattern.number cursor values ≡ matched pattern'.number cursor' values'
  same_answer pattern pattern' part part' word word' cursor cursor' values values' positive e p w a b =
      let back : Answer pattern part word cursor' values' =
      subst
      (λ (x : Pattern). Answer x part word cursor' values') (sym e)
      (subst
      (λ x. Answer pattern' x word cursor' values') (sym p)
      (subst (λ x. Answer pattern' part' x cursor' values') (sym w) b)) in
      one_answer pattern part word cursor cursor' values values' positive a back
      ∙ ap (λ (x : Pattern). matched x.number cursor' values') e

  pub match_is_unique : (outcome other : Outcome) → IsMatch policy enc patterns stream start outcome
      → IsMatch policy enc patterns stream start other → outcome ≡ other
  match_is_unique _ _ (at_end rule is) (at_end rule' is') =
      let same : Some rule ≡ Some rule' = sym is.1 ∙ is'.1 in
      let at : rule ≡ rule' = cc in
      ap (λ n. matched n start []) at
  match_is_unique _ _ (at_end rule is) (by_rule word place pattern cursor values inside first at answer) =
      absurd (inside rule is)
  match_is_unique _ _ (at_end rule is) (by_none word inside begun) = absurd (inside rule is)
  match_is_unique _ _ (by_rule word place pattern cursor values inside first at answer) (at_end rule is) =
      absurd (inside rule is)
  match_is_unique _ _ (by_none word inside begun) (at_end rule is) = absurd (inside rule is)
  match_is_unique _ _ (by_rule word place pattern cursor values inside first at answer) (by_none word' inside' begun) =
      absurd (begun.untaken word place first.is_word first.takes)
  match_is_unique _ _ (by_none word' inside' begun) (by_rule word place pattern cursor values inside first at answer) =
      absurd (begun.untaken word place first.is_word first.takes)
  match_is_unique _ _
      (by_rule word place pattern cursor values inside first at answer)
      (by_rule word' place' pattern' cursor' values' inside' first' at' answer') =
      let p : place ≡ place' = first_place word word' place place' first first' in
      let said : Some pattern ≡ Some pattern' = sym at ∙ ap (λ n. slice_get (with_terms patterns) n) p ∙ at' in
      let e : pattern ≡ pattern' = cc in
      same_answer pattern pattern'
      (part_at patterns place) (part_at patterns place') word word' cursor cursor' values values'
      (rule_positive (terms_of patterns) place) e (ap (λ n. part_at patterns n) p) (longest_word word word' place place' first first') answer answer'
  match_is_unique _ _ (by_none word inside begun) (by_none word' inside' begun') =
      let le : length word' ≤ length word = begun.longest word' begun'.is_word begun'.begins in
      let ge : length word ≤ length word' = begun'.longest word begun.is_word begun.begins in
      let same : length word ≡ length word' = omega arith in
      ap (λ n. unmatched (start + n)) same
