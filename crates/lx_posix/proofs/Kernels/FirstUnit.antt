-- The kernels of the empty word and of a word of one unit.
use Rattle.lx_posix.specs.KernelSteps.{IsStepOf, Source, beginnings}
use Rattle.lx_posix.specs.Numbers.{PosixPrecedes}
use Rattle.lx_posix.specs.PosixKernel.{IsPosixKernel}
use Rattle.std.specs.Prelude.{◌≡◌, ℕ, zero, suc, ◌+◌, ◌<◌, List, [], ◌∷◌, Some, slice_get, refl}
use Rattle.std.proofs.Common.{sym, ap, ◌∙◌, arith}
use Rattle.lx_base.specs.declared.settings.Enc.{Enc}
use Rattle.lx_regex.specs.Cut.{Cut, IsCut}
use Rattle.lx_regex.specs.Term.{Term}

-- the beginning of a rule stands at its number
begins_at : (rules : List Term) (number i : ℕ) (e : Term) → slice_get rules i ≡ Some e
    → slice_get (beginnings number rules) i ≡ Some (record { rule = number + i; front = [] })
begins_at [] number i e at = cc
begins_at (x ∷ rules) number zero e at =
    let z : number ≡ number + 0 = omega arith in ap (λ n. Some (record { rule = n; front = [] })) z
begins_at (x ∷ rules) number (suc i) e at =
    let z : suc number + i ≡ number + suc i = omega arith in
    begins_at rules (suc number) i e at ∙ ap (λ n. Some (record { rule = n; front = [] })) z

nothing : (j : ℕ) (cut : Cut) → slice_get [] j ≡ Some cut → ⊥
nothing j cut z = cc

module _ (enc : Enc) (rules : List Term) where
  own_beginning : (w : List ℕ) (k : Cut) → IsCut enc rules w k
      → slice_get (beginnings 0 rules) k.rule ≡ Some (record { rule = k.rule; front = [] })
  own_beginning w k is =
      let z : 0 + k.rule ≡ k.rule = omega arith in
      begins_at rules 0 k.rule is.possible.1.0 is.possible.1.2 ∙ ap (λ n. Some (record { rule = n; front = [] })) z

  pub empty_kernel : (ks : List Cut) → ks ≡ record { rule = 0; front = [] } ∷ [] → IsPosixKernel enc rules [] ks
  empty_kernel ks e = record {
    start = λ h. e;
    cuts = λ i cut ne at. absurd (ne refl);
    every = λ cut ne is. absurd (ne refl);
    ordered = λ i j cut other lt at at'. absurd (alone i j cut other lt at at');
  }
    where
      alone : (i j : ℕ) (cut other : Cut) → i < j → slice_get ks i ≡ Some cut → slice_get ks j ≡ Some other → ⊥
      alone i zero cut other lt at at' = omega arith
      alone i (suc j) cut other lt at at' =
          let z : slice_get (record { rule = 0; front = [] } ∷ []) (suc j) ≡ Some other =
          ap (λ l. slice_get l (suc j)) (sym e) ∙ at' in
          nothing j other z

  pub first_kernel : (u : ℕ) (next : List Cut) → IsStepOf (PosixPrecedes enc rules) enc rules [] (beginnings 0 rules) u next
      → IsPosixKernel enc rules (u ∷ []) next
  first_kernel u next step = record {
    start = λ e. absurd (none e);
    cuts = λ i cut ne at. step.listed.cuts i cut at;
    every = λ cut ne is.
        step.listed.every cut.rule (record { rule = cut.rule; front = [] }) cut.front (own_beginning (u ∷ []) cut is) is.after_unit is.reads_word is;
    ordered = step.ordered;
  }
    where
      none : u ∷ [] ≡ [] → ⊥
      none e = cc

  pub first_source : (u : ℕ) (next : List Cut) → IsPosixKernel enc rules (u ∷ []) next → (i : ℕ) (k : Cut) → slice_get next i ≡ Some k
      → Source (beginnings 0 rules) u k
  first_source u next kernel i k at =
      let is = kernel.cuts i k (λ e. none e) at in
      record {
        place = k.rule;
        cut = record { rule = k.rule; front = [] };
        walk = k.front;
        stands = own_beginning (u ∷ []) k is;
        is = refl;
        reads_unit = is.reads_word;
        ends_in_unit = is.after_unit;
      }
    where
      none : u ∷ [] ≡ [] → ⊥
      none e = cc
