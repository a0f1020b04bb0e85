-- An automaton that runs as that of a rule list is one of it, if it fits the rules.
use Rattle.std.proofs.Common.{◌≡◌, ℕ, List, [], ◌∷◌, ◌++◌, Option, Some, None, refl, sym, ap, ap₂, ◌∙◌, subst}
use Rattle.std.specs.Prelude.{IsSome, ◌↔◌}
use Rattle.lx_base.specs.declared.settings.Enc.{Enc}
use Rattle.lx_auto.specs.Bank.{Bank}
use Rattle.lx_auto.specs.Run.{Standing, and_then, found_at, found_behind, or_else, run, start_with, step}
use Rattle.lx_auto.specs.SameRun.{FindSame, HasSameRun}
use Rattle.lx_auto.specs.declared.automaton.Auto.{Auto}
use Rattle.lx_auto.proofs.Runs.{run-one_more}
use Rattle.lx_regex.specs.Kernel.{IsWord}
use Rattle.lx_regex.specs.Cut.{BeginsMatch}
use Rattle.lx_regex.specs.Order.{Policy}
use Rattle.lx_regex.specs.Pattern.{Pattern, terms_of}
use Rattle.lx_tdfa.specs.Promise.{FindsBest, FitsRules, IsAutoUnder}

-- both runs are there, or none is
find_same-some : (auto given : Auto) (found other : Option Standing) → FindSame auto given found other → IsSome found ↔ IsSome other
find_same-some auto given None None same = ((λ is. is), (λ is. is))
find_same-some auto given (Some standing) (Some other) same = ((λ is. refl), (λ is. refl))
find_same-some auto given None (Some other) same = absurd same
find_same-some auto given (Some standing) None same = absurd same

-- where a run stands the given one stands too, and finds the same
record StandsSame (auto given : Auto) (standing : Standing) (other : Option Standing) : Type 0 where
  of : Standing
  stands : other ≡ Some of
  at : found_at auto standing ≡ found_at given of
  behind : found_behind auto standing ≡ found_behind given of

find_same-stands : (auto given : Auto) (standing : Standing) (found other : Option Standing) → found ≡ Some standing
    → FindSame auto given found other → StandsSame auto given standing other
find_same-stands auto given standing (Some found) (Some other) is same =
    let held : found ≡ standing = cc in record {
      of = other;
      stands = refl;
      at = subst (λ s. found_at auto s ≡ found_at given other) held same.0;
      behind = subst (λ s. found_behind auto s ≡ found_behind given other) held same.1;
    }
find_same-stands auto given standing (Some found) None is same = absurd same
find_same-stands auto given standing None other is same = absurd (cc)

module _ (policy : Policy) (enc : Enc) (patterns : List Pattern) (auto given : Auto) (is : IsAutoUnder policy enc patterns given)
    (same : HasSameRun auto given) (start : ℕ) (bank : Bank) (empty : bank.mregs 0 ≡ []) where
  abbrev source : Bank
  source = (same start bank empty).0

  source_empty : source.mregs 0 ≡ []
  source_empty = (same start bank empty).1

  other_stands : (word : List ℕ) (behind : Standing) → run auto (start_with start bank) word ≡ Some behind
      → StandsSame auto given behind (run given (start_with start source) word)
  other_stands word behind ran =
      find_same-stands auto given behind (run auto (start_with start bank) word) (run given (start_with start source) word) ran
      ((same start bank empty).3 word)

  begins-same : (word : List ℕ) → IsWord enc (terms_of patterns) word
      → IsSome (run auto (start_with start bank) word) ↔ BeginsMatch enc (terms_of patterns) word
  begins-same word spelled =
      let both = find_same-some auto given (run auto (start_with start bank) word) (run given (start_with start source) word)
      ((same start bank empty).3 word) in
      let begins = is.begins start source word source_empty spelled in
      ((λ some. begins.0 (both.0 some)), (λ begun. both.1 (begins.1 begun)))

  best-same : (word : List ℕ) (behind : Standing) → run auto (start_with start bank) word ≡ Some behind
      → FindsBest policy enc patterns start word (found_at auto behind)
  best-same word behind ran =
      let other = other_stands word behind ran in
      subst (FindsBest policy enc patterns start word) (sym other.at)
      (is.best start source word other.of source_empty other.stands)

  kept-same : (word : List ℕ) (behind next : Standing) (unit : ℕ) → run auto (start_with start bank) word ≡ Some behind
      → step auto behind unit ≡ Some next → found_behind auto next ≡ or_else (found_at auto next) (found_behind auto behind)
  kept-same word behind next unit ran stepped =
      let here = other_stands word behind ran in
      let ran' : run auto (start_with start bank) (word ++ unit ∷ []) ≡ Some next =
      run-one_more auto (start_with start bank) word unit ∙ ap (λ o. and_then o (λ last. step auto last unit)) ran ∙ stepped in
      let there = other_stands (word ++ unit ∷ []) next ran' in
      let stepped' : step given here.of unit ≡ Some there.of =
      sym (run-one_more given (start_with start source) word unit ∙ ap (λ o. and_then o (λ last. step given last unit)) here.stands)
      ∙ there.stands in
      there.behind ∙ is.kept start source word here.of there.of unit source_empty here.stands stepped'
      ∙ ap₂ or_else (sym there.at) (sym here.behind)

pub same_automaton : (policy : Policy) (enc : Enc) (patterns : List Pattern) (auto given : Auto) → IsAutoUnder policy enc patterns given
    → HasSameRun auto given → FitsRules enc patterns auto → IsAutoUnder policy enc patterns auto
same_automaton policy enc patterns auto given is same fits = record {
  fits = fits;
  begins = λ start bank word empty. begins-same policy enc patterns auto given is same start bank empty word;
  best = λ start bank word behind empty. best-same policy enc patterns auto given is same start bank empty word behind;
  kept = λ start bank word behind next unit empty. kept-same policy enc patterns auto given is same start bank empty word behind next unit;
}
