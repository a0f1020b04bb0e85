-- The choices of the fallback, one after another.
use Rattle.std.specs.Prelude.{◌≡◌, ◌⊎◌, ℕ, suc, ◌+◌, ◌<◌, Bool, true, false, List, [], ◌∷◌, ◌++◌, length, drop, refl}
use Rattle.std.proofs.Common.{sym, ap, ap₂, ◌∙◌, arith, append_assoc, length-drop, inl, inr}
use Rattle.std.proofs.lemmas.Bool.{false≢true}
use Rattle.std.proofs.lemmas.List.{drop_more, length-map}
use Rattle.lx_auto.specs.declared.automaton.Accept.{Accept}
use Rattle.lx_ccode.specs.declared.piece.Stmt.{Stmt}
use Rattle.lx_ccode.specs.declared.piece.Stmt.TheVariants.{IfAccept}
use Rattle.lx_layout.specs.Codes.{Choice}
use Rattle.lx_layout.specs.Fallback.{fallback_code}
use Rattle.lx_layout.specs.Layout.{choices_from}
use Rattle.lx_layout.specs.Plans.{seen_accepts}
use Rattle.lx_layout.specs.declared.accepts.First.{First}

fallback-more : (leaves : Bool) (choice : Choice) (rest : List Choice) → (leaves ≡ true) ⊎ (0 < length rest)
    → fallback_code leaves (choice ∷ rest) ≡ IfAccept choice.saved choice.block ∷ fallback_code leaves rest
fallback-more true choice [] some = refl
fallback-more false choice [] some = elim some [ inl e ↦ absurd (false≢true e) | inr more ↦ absurd (omega (arith, more)) ]
fallback-more true choice (next ∷ rest) some = refl
fallback-more false choice (next ∷ rest) some = refl

choices_from-length : (saved block : ℕ) (accepts : List Accept) → length (choices_from saved block accepts) ≡ length accepts
choices_from-length saved block [] = refl
choices_from-length saved block (accept ∷ accepts) = ap suc (choices_from-length (suc saved) (suc block) accepts)

module _ (items : List First) (place : ℕ) (first : First) (within : place < length items) where
  pub choices-more : (leaves : Bool) (saved block next : ℕ) (front put whole : List Stmt) → next ≡ block + 1
      → (leaves ≡ true) ⊎ (place + 1 < length items) → put ≡ front ++ IfAccept saved block ∷ []
      → front ++ fallback_code leaves (choices_from saved block (seen_accepts (drop place items))) ≡ whole
      → put ++ fallback_code leaves (choices_from (saved + 1) next (seen_accepts (drop (place + 1) items))) ≡ whole
  choices-more leaves saved block next front put whole next_is some put_is before =
      let rest : List Accept = seen_accepts (drop (place + 1) items) in
      let more : saved + 1 ≡ suc saved = omega arith in
      let behind : next ≡ suc block = omega (arith, next_is) in
      ap₂ (λ s b. put ++ fallback_code leaves (choices_from s b rest)) more behind
      ∙ ap (λ l. l ++ fallback_code leaves (choices_from (suc saved) (suc block) rest)) put_is
      ∙ append_assoc front (IfAccept saved block ∷ []) (fallback_code leaves (choices_from (suc saved) (suc block) rest))
      ∙ ap (λ l. front ++ l)
      (sym (fallback-more leaves (record { saved = saved; block = block }) (choices_from (suc saved) (suc block) rest) (by some)))
      ∙ ap (λ (l : List First). front ++ fallback_code leaves (choices_from saved block (seen_accepts l))) (sym (drop_more items place first within))
      ∙ before
    where
      by : (leaves ≡ true) ⊎ (place + 1 < length items)
          → (leaves ≡ true) ⊎ (0 < length (choices_from (suc saved) (suc block) (seen_accepts (drop (place + 1) items))))
      by (inl e) = inl e
      by (inr lt) =
          let same = choices_from-length (suc saved) (suc block) (seen_accepts (drop (place + 1) items)) in
          let mapped : length (seen_accepts (drop (place + 1) items)) ≡ length (drop (place + 1) items) = length-map (drop (place + 1) items) (λ (f : First). f.accept.now) in
          let left = length-drop (place + 1) items in inr (omega (arith, same, mapped, left, lt))
