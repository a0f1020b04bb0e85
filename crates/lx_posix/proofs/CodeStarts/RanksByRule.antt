-- The places that are kept after a word stand in the order of rules.
use Rattle.std.proofs.Common.{inl, inr, sym, ap, ◌∙◌, arith, length}
use Rattle.std.proofs.lemmas.List.{length-map}
use Rattle.std.specs.Prelude.{◌≡◌, ℕ, zero, suc, ◌<◌, List, [], ◌∷◌, reverse, refl}
use Rattle.lx_base.specs.declared.settings.Enc.{Enc}
use Rattle.lx_regex.specs.ClassLimits.{AllClassesFit}
use Rattle.lx_regex.specs.Pattern.{Pattern, terms_of}
use Rattle.lx_regex.specs.Script.{Symbol}
use Rattle.lx_regex.specs.Term.{Term}
use Rattle.lx_tnfa.specs.LeafReadings.{IsNth, NumbersLeaves}
use Rattle.lx_tnfa.specs.PlaceNumbers.{number_behind, numbers_after, symbols_added}
use Rattle.lx_tnfa.specs.Tnfa.{IsTnfaOf, Tnfa}
use Rattle.lx_tnfa.proofs.Leaves.LeafNumbering.{automaton_numbers}
use Rattle.lx_tdfa.specs.Kernels.{Entry}
use Rattle.lx_posix.specs.Beginnings.{AreByRule, FollowsInRules}
use Rattle.lx_posix.specs.Comparing.{Ranked, number_between, ranked_at}
use Rattle.lx_posix.specs.KernelLists.{posix_kernel_after, ranks_after}
use Rattle.lx_posix.proofs.Lists.ProgramLists.{ranked_after}
use Rattle.lx_posix.proofs.Lists.RankedCuts.{AreRanked, InOrder}

by_rule_from : (ss : List Ranked) → ((i : ℕ) → suc i < length ss → FollowsInRules (ranked_at ss i) (ranked_at ss (suc i))) → AreByRule ss
by_rule_from [] f = tt
by_rule_from (s ∷ []) f = tt
by_rule_from (s ∷ t ∷ ss) f = (f 0 (omega arith), by_rule_from (t ∷ ss) (λ i lt. f (suc i) (omega arith)))

within_nth : {X : Type 0} (xs : List X) (i : ℕ) → i < length xs → (x : X) × IsNth xs i x
within_nth [] i lt = absurd (omega arith)
within_nth (x ∷ xs) zero lt = (x, refl)
within_nth (x ∷ xs) (suc i) lt = within_nth xs i (omega arith)

module _ (enc : Enc) (rules : List Term) (next : ℕ → ℕ → List ℕ) (added : ℕ → ℕ → ℕ → List Symbol) (number : ℕ → List Symbol → ℕ)
    (numbers : NumbersLeaves enc rules next added number) (w : List ℕ) (es : List Entry) (ss : List Ranked)
    (are : AreRanked enc rules next added number numbers w es ss) where
  as_long : length es ≡ length ss
  as_long =
      sym (length-map es (λ (e : Entry). e.place)) ∙ ap length (sym are.places) ∙ length-map ss (λ (s : Ranked). s.place)

  follows : (i : ℕ) → suc i < length ss → FollowsInRules (ranked_at ss i) (ranked_at ss (suc i))
  follows i lt =
      let n = as_long in
      let e = within_nth es i (omega arith) in
      let f = within_nth es (suc i) (omega arith) in
      go e.0 f.0 e.1 f.1 (are.order i (suc i) e.0 f.0 (omega arith) e.1 f.1)
    where
      go : (e f : Entry) → IsNth es i e → IsNth es (suc i) f
          → InOrder enc rules next added number numbers w e f (number_between ss i (suc i))
          → FollowsInRules (ranked_at ss i) (ranked_at ss (suc i))
      go e f h k (inl less) =
          let x = are.rule i e h in
          let y = are.rule (suc i) f k in
          inr (omega arith, are.alone i e f h k less)
      go e f h k (inr same) = inl (are.rule i e h ∙ same.0 ∙ sym (are.rule (suc i) f k))

  pub by_rule : AreByRule ss
  by_rule = by_rule_from ss follows

pub ranks_by_rule : (enc : Enc) (patterns : List Pattern) (tnfa : Tnfa) → IsTnfaOf enc patterns tnfa → AllClassesFit enc (terms_of patterns)
    → (word : List ℕ) → AreByRule (ranks_after tnfa (terms_of patterns) word)
ranks_by_rule enc patterns tnfa of fits word =
    by_rule enc (terms_of patterns) (numbers_after tnfa) (symbols_added tnfa) (number_behind tnfa)
    (automaton_numbers enc patterns tnfa of fits)
    (reverse word) (posix_kernel_after tnfa (terms_of patterns) word) (ranks_after tnfa (terms_of patterns) word)
    (ranked_after enc patterns tnfa of fits word)
