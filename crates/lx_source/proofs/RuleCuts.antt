-- Where the cuts of generated rules stand.
use Rattle.std.specs.Prelude.{◌≡◌, ℕ, zero, suc, ◌+◌, ◌*◌, ◌<◌, ◌⊎◌, List, [], ◌∷◌, ◌++◌, length, Some, slice_get, refl}
use Rattle.std.proofs.Common.{sym, ap, ◌∙◌, subst, arith, inl, inr, ⊎_elim}
use Rattle.lx_base.specs.declared.settings.Enc.TheVariants.{Byte}
use Rattle.lx_regex.specs.Cut.{Cut, EndsInUnit, IsCut, last_part, rule_part}
use Rattle.lx_regex.specs.Script.{Symbol, script, units}
use Rattle.lx_regex.specs.Term.{Term, any_unit}
use Rattle.lx_regex.specs.Tree.{Tree, unit}
use Rattle.lx_source.specs.GeneratedRules.{rule_term, rule_terms, terms_from, word_letters}
use Rattle.lx_source.proofs.LetterRules.{tree_spot}
use Rattle.lx_source.proofs.PartReads.{last_behind, part_behind, part_reads, part_reads_append, some_reads, spelled, units_spelled}
use Rattle.lx_source.proofs.Spots.{Spot}

-- the term at a place: that of a word, or behind all words that of `*`
term_at : (first left place : ℕ) (e : Term) → slice_get (terms_from first left) place ≡ Some e
    → ((place < left) × (e ≡ rule_term (first + place))) ⊎ ((place ≡ left) × (e ≡ any_unit))
term_at first zero zero e at = inr (refl, cc)
term_at first zero (suc place) e at = cc
term_at first (suc left) zero e at =
    let same : rule_term first ≡ e = cc in
    let number : first ≡ first + 0 = omega arith in inl (omega arith, sym same ∙ ap rule_term number)
term_at first (suc left) (suc place) e at =
    ⊎_elim
    (λ a. let few = a.0 in let number : suc first + place ≡ first + suc place = omega arith in inl (omega arith, a.1 ∙ ap rule_term number))
    (λ b. inr (ap suc b.0, b.1)) (term_at (suc first) left place e at)

-- a front of the one leaf of `*`
any_front : (part : ℕ) (tree : Tree any_unit) (front rest : List Symbol) → script Byte part tree ≡ front ++ rest → EndsInUnit front
    → (number : ℕ) × (units front ≡ number ∷ []) × (last_part 0 front ≡ part)
any_front part (unit number) front rest goes is =
    let split : (part, number) ∷ [] ≡ part_reads 0 front ++ part_reads (last_part 0 front) rest =
    ap (part_reads 0) goes ∙ part_reads_append 0 front rest in
    let one = only (part, number) (part_reads 0 front) _ split (some_reads 0 front is) in
    (number, units_spelled 0 front ∙ ap spelled one, last_behind 0 front is ∙ ap (part_behind 0) one)
  where
    only : (read : ℕ × ℕ) (a b : List (ℕ × ℕ)) → read ∷ [] ≡ a ++ b → (a ≡ [] → ⊥) → a ≡ read ∷ []
    only read [] b e some = absurd (some refl)
    only read (x ∷ []) b e some = let same : read ≡ x = cc in ap (λ r. r ∷ []) (sym same)
    only read (x ∷ y ∷ a) b e some = cc

-- the part of the digits of a word's rule that is this part
abbrev pub digit_part : (part : ℕ) → List ℕ → ℕ
digit_part part letters = part + 3 + 3 * suc (length letters)

-- behind a word the rule of a word at a place stands in this part
abbrev pub SpotIn : (count rule : ℕ) → (word : List ℕ) → (part : ℕ) → Type 0
SpotIn count rule word part =
    Spot (word_letters (suc rule)) (digit_part (rule_part (rule_terms count) rule) (word_letters (suc rule))) 3
    (rule_part (rule_terms count) rule + 3) word part

-- a cut of the rule of a word, at a word
pub record WordCut (count : ℕ) (word : List ℕ) (cut : Cut) : Type 0 where
  pub few : cut.rule < count
  pub spot : SpotIn count cut.rule word (last_part 0 cut.front)

-- a cut of the rule `*`
pub record AnyCut (count : ℕ) (word : List ℕ) (cut : Cut) : Type 0 where
  pub last : cut.rule ≡ count
  pub number : ℕ
  pub one : word ≡ number ∷ []
  pub part : last_part 0 cut.front ≡ rule_part (rule_terms count) cut.rule

module _ (count : ℕ) (word : List ℕ) (cut : Cut) (is : IsCut Byte (rule_terms count) word cut) where
  -- what is said of the trees of a term that go on from the cut
  abbrev SaidOf : Type 0 → Term → Type 0
  SaidOf Result e = (tree : Tree e) → script Byte (rule_part (rule_terms count) cut.rule) tree ≡ cut.front ++ is.possible.0 → Result

  word_cut : cut.rule < count → SaidOf (WordCut count word cut) (rule_term (suc cut.rule))
  word_cut few tree goes = record {
    few = few;
    spot =
        subst
        (λ w. SpotIn count cut.rule w (last_part 0 cut.front)) is.reads_word
        (tree_spot letters (rule_part (rule_terms count) cut.rule) tree cut.front is.possible.0 goes is.after_unit);
  }
    where
      letters : List ℕ
      letters = word_letters (suc cut.rule)

  any_cut : cut.rule ≡ count → SaidOf (AnyCut count word cut) any_unit
  any_cut last tree goes =
      let front = any_front (rule_part (rule_terms count) cut.rule) tree cut.front is.possible.0 goes is.after_unit in
      record { last = last; number = front.0; one = sym is.reads_word ∙ front.1; part = front.2 }

  -- a cut is one of a word's rule or of `*`
  pub cut_cases : WordCut count word cut ⊎ AnyCut count word cut
  cut_cases =
      let goes = is.possible.1 in
      ⊎_elim
      (λ a.
      let number : 1 + cut.rule ≡ suc cut.rule = omega arith in
      inl (subst (SaidOf (WordCut count word cut)) (sym (a.1 ∙ ap rule_term number)) (word_cut a.0) goes.1 goes.3))
      (λ b. inr (subst (SaidOf (AnyCut count word cut)) (sym b.1) (any_cut b.0) goes.1 goes.3)) (term_at 1 count cut.rule goes.0 goes.2)
