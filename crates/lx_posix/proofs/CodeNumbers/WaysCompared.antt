-- The number of two ways is that of the walks, whichever units are read behind them.
use Rattle.std.proofs.Common.{◌∙◌, ap, ap₂, arith, ⊎_elim}
use Rattle.std.proofs.lemmas.Bool.{cases_order}
use Rattle.std.specs.Prelude.{◌≡◌, ℕ, max, min, List}
use Rattle.lx_base.specs.declared.settings.Enc.{Enc}
use Rattle.lx_regex.specs.Automaton.{automaton}
use Rattle.lx_regex.specs.Pattern.{Pattern, terms_of}
use Rattle.lx_tnfa.specs.Tnfa.{IsTnfaOf, Tnfa}
use Rattle.lx_posix.specs.Beginnings.{AreBeginnings, AreByRule}
use Rattle.lx_posix.specs.Comparing.{Ranked, compared, number_between}
use Rattle.lx_posix.specs.LevelSearch.{ArePlaceDepths}
use Rattle.lx_posix.specs.WayNumbers.{IsFound, lowest_to, number_of_ways, numbers_between, walk_to}
use Rattle.lx_posix.specs.declared.points.Beginning.{Beginning}
use Rattle.lx_posix.specs.declared.search.Found.{Found}
use Rattle.lx_posix.proofs.CodeNumbers.FoundNumbers.{found-lowest, kept_from, number-of-one, number-of-two}
use Rattle.lx_posix.proofs.CodeNumbers.NumbersBetween.{number_between-beginnings, number_of_ways-one, number_of_ways-two}

module _ (enc : Enc) (patterns : List Pattern) (tnfa : Tnfa) (deep : ℕ → ℕ) (ranks : List Ranked) (beginnings : List Beginning)
    (of : IsTnfaOf enc patterns tnfa) (placed : ArePlaceDepths (automaton (terms_of patterns)) ranks deep)
    (are : AreBeginnings tnfa deep beginnings ranks) (by : AreByRule ranks) (found other : Found) (way : IsFound tnfa beginnings found)
    (other_way : IsFound tnfa beginnings other) (unit pick second : ℕ) where
  abbrev number : ℕ
  number =
      (compared ranks found.from (walk_to tnfa (terms_of patterns) ranks found unit pick) other.from
      (walk_to tnfa (terms_of patterns) ranks other unit second)).number

  apart-number : (found.from ≡ other.from → ⊥) → number_of_ways tnfa beginnings found other ≡ number
  apart-number apart =
      let one : lowest_to tnfa beginnings found ≡ kept_from ranks found.from (walk_to tnfa (terms_of patterns) ranks found unit pick) =
      found-lowest enc patterns tnfa deep ranks beginnings of placed are found unit pick way in
      let two : lowest_to tnfa beginnings other ≡ kept_from ranks other.from (walk_to tnfa (terms_of patterns) ranks other unit second) =
      found-lowest enc patterns tnfa deep ranks beginnings of placed are other unit second other_way in
      let between : numbers_between beginnings (min found.from other.from) (max found.from other.from)
      ≡ number_between ranks (min found.from other.from) (max found.from other.from) =
      number_between-beginnings tnfa deep _ beginnings ranks (min found.from other.from) (max found.from other.from) are
      (omega (arith, apart)) (omega (arith, way.from, other_way.from)) in
      number_of_ways-two tnfa beginnings found other apart
      ∙ ap₂ (λ (a b : ℕ). min (min a b) (lowest_to tnfa beginnings other)) between one
      ∙ ap (λ n. min (min (number_between ranks (min found.from other.from) (max found.from other.from))
      (kept_from ranks found.from (walk_to tnfa (terms_of patterns) ranks found unit pick))) n) two
      ∙ number-of-two enc patterns tnfa deep ranks beginnings of placed are found other unit pick second by way other_way apart

  pub ways-compared : number_of_ways tnfa beginnings found other
      ≡ (compared ranks found.from (walk_to tnfa (terms_of patterns) ranks found unit pick) other.from
      (walk_to tnfa (terms_of patterns) ranks other unit second)).number
  ways-compared =
      ⊎_elim
      (λ same.
      number_of_ways-one tnfa beginnings found other same
      ∙ number-of-one enc patterns tnfa deep ranks beginnings of placed are found other unit pick second way other_way same)
      (λ apart. apart-number (λ same. ⊎_elim (λ lt. omega (arith, lt, same)) (λ lt. omega (arith, lt, same)) apart))
      (cases_order found.from other.from)
