-- Which words begin a match.
use Rattle.std.specs.Prelude.{◌≡◌, ◌≢◌, ℕ, ◌↔◌, List, [], ◌∷◌, ◌++◌, Some, slice_get, refl}
use Rattle.std.proofs.Common.{inl, inr, sym, ap, ◌∙◌, append_assoc, append-nil}
use Rattle.lx_base.specs.declared.settings.Enc.{Enc}
use Rattle.lx_regex.specs.Term.{Term}
use Rattle.lx_regex.specs.Script.{reads, script}
use Rattle.lx_regex.specs.Least.{HasTree}
use Rattle.lx_regex.specs.Cut.{rule_part, Cut, Precedes, BeginsMatch}
use Rattle.lx_regex.specs.Kernel.{IsKernel}
use Rattle.lx_regex.proofs.Walks.WholeWalk.{plain_tree}
use Rattle.lx_regex.proofs.KernelCuts.Cuts.{rule_positive}
use Rattle.lx_regex.proofs.KernelCuts.Kernels.{part_at}

module _ (enc : Enc) (rules : List Term) where
  -- a word for which a rule has a tree begins a match
  pub taken_begins :
      (place : ℕ) (e : Term) (word : List ℕ) → slice_get rules place ≡ Some e → HasTree enc (rule_part rules place) e word
      → BeginsMatch enc rules word
  taken_begins place e [] at has = inl refl
  taken_begins place e (x ∷ word) at has =
      let t = plain_tree enc e (rule_part rules place) (rule_positive rules place) (x ∷ word) has in
      let p = part_at (script enc (rule_part rules place) t.0) x word [] (t.1 ∙ sym (append-nil (x ∷ word))) in
      inr (
        record { rule = place; front = p.fore ++ reads p.unit ∷ [] },
        record {
          reads_word = p.first;
          after_unit = (p.fore, p.unit, refl);
          possible = (p.mid, (e, t.0, at, p.is, t.2));
        },
      )

  -- and so does each front of a word that does
  pub front_begins : (word more : List ℕ) → BeginsMatch enc rules (word ++ more) → BeginsMatch enc rules word
  front_begins [] more begun = inl refl
  front_begins (x ∷ word) more (inl none) = absurd (cc)
  front_begins (x ∷ word) more (inr cut) =
      let p = part_at cut.0.front x word more cut.1.reads_word in
      let go = cut.1.possible.1 in
      inr (
        record { rule = cut.0.rule; front = p.fore ++ reads p.unit ∷ [] },
        record {
          reads_word = p.first;
          after_unit = (p.fore, p.unit, refl);
          possible = (
            p.mid ++ cut.1.possible.0,
            (
              go.0,
              go.1,
              go.2,
              go.3 ∙ ap (λ l. l ++ cut.1.possible.0) p.is
                  ∙ append_assoc (p.fore ++ reads p.unit ∷ []) p.mid cut.1.possible.0,
              go.4,
            ),
          );
        },
      )

  -- a word begins a match where its kernel is not empty
  pub kernel_begins : (word : List ℕ) (kernel : List Cut) → IsKernel Precedes enc rules word kernel
      → BeginsMatch enc rules word ↔ (kernel ≢ [])
  kernel_begins [] kernel is = ((λ begun none. some (sym (is.start refl) ∙ none)), (λ h. inl refl))
    where
      start : Cut
      start = record { rule = 0; front = [] }

      some : start ∷ [] ≡ [] → ⊥
      some e = cc
  kernel_begins (x ∷ word) kernel is = (there, back kernel is)
    where
      nonempty : x ∷ word ≢ []
      nonempty e = cc

      nothing : (i : ℕ) (cut : Cut) → slice_get [] i ≡ Some cut → ⊥
      nothing i cut e = cc

      there : BeginsMatch enc rules (x ∷ word) → kernel ≢ []
      there (inl e) none = nonempty e
      there (inr cut) none =
          let r = is.every cut.0 nonempty cut.1 in nothing r.0 r.1 (ap (λ l. slice_get l r.0) (sym none) ∙ r.2)

      back : (kernel : List Cut) → IsKernel Precedes enc rules (x ∷ word) kernel → kernel ≢ []
          → BeginsMatch enc rules (x ∷ word)
      back [] is h = absurd (h refl)
      back (cut ∷ cuts) is h = inr (cut, is.cuts 0 cut nonempty refl)
