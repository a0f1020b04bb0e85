-- The laws of the POSIX order over scripts and walks.
use Rattle.lx_posix.specs.Parting.{Parting, events}
use Rattle.std.specs.Prelude.{◌≡◌, ℕ, suc, ◌<◌, ◌≤◌, ◌⊎◌, [], refl}
use Rattle.std.proofs.Common.{sym, ap, ◌∙◌, subst, arith, ⊎_elim, append-nil}
use Rattle.lx_base.specs.declared.settings.Enc.{Enc}
use Rattle.lx_regex.specs.Term.{Term}
use Rattle.lx_regex.specs.Tree.{Tree}
use Rattle.lx_regex.specs.Script.{script}
use Rattle.lx_regex.specs.Posix.{Shape, size, length_at, shape_of, whole, IsLonger}
use Rattle.lx_regex.proofs.PosixTrees.PosixShapes.{Same}
use Rattle.lx_regex.proofs.PosixTrees.PosixAhead.{Ahead, ahead_wins}
use Rattle.lx_regex.proofs.PosixTrees.PosixOrder.{Longer}
use Rattle.lx_posix.proofs.Steps.OneMoreUnit.{Kept, Shared, ending, gains, law_step}
use Rattle.lx_posix.proofs.Steps.KeptByWalk.{low, law_kept}
use Rattle.lx_posix.proofs.Partings.Forks.{first_kept, second_kept, Verdict, law_fork}
use Rattle.lx_posix.proofs.Partings.Partings.{track, events_script}
use Rattle.lx_posix.proofs.Partings.ForkOfParting.{part_tree}
use Rattle.lx_posix.proofs.Fronts.AlikeFronts.{Agree, agree_tree}

pub no_parting : {n d D h h' : ℕ} → Parting n d [] [] D h h' → ⊥
no_parting r = elim r [ ]

-- The rule for two cuts of different places: k positions were shared, and the walks keep h and h'.
abbrev pub Rule : (n : ℕ) → Shape → Shape → (k h h' : ℕ) → Type 0
Rule n s s' k h h' =
    ((k ≤ h) × (k ≤ h') × Ahead n s s' k)
    ⊎ (((h ≡ h') × (h < k) × Ahead n s s' h)
    ⊎ (((h' < h) × (h' < k) × Ahead n s s' h')
    ⊎ ((h < h') × (h < k) × Ahead n s' s h)))

module _ (enc : Enc) {e : Term} (p : ℕ) (t t' : Tree e) where
  pub kept_in : (n : ℕ) (t : Tree e) → 0 < n → n < size (shape_of enc t) → Kept n (shape_of enc t) (low n 0 (script enc p t))
  kept_in n t z h = subst (λ l. Kept n (shape_of enc t) (low n 0 l)) (append-nil (script enc p t)) (law_kept enc p n t [] z h)

  -- Step 3. Two cuts after n units, one ahead with the number k, go on by one unit each.
  pub law_third : (n k : ℕ) → 0 < n → n < size (shape_of enc t) → n < size (shape_of enc t') → Ahead n (shape_of enc t) (shape_of enc t') k →
      Rule (suc n) (shape_of enc t) (shape_of enc t') k (low n 0 (script enc p t)) (low n 0 (script enc p t'))
  law_third n k z h h' a = law_step a (kept_in n t z h) (kept_in n t' z h')

  -- Step 3 for two cuts in one leaf under different digits, where the first goes on in the leaf and the second leaves it.
  pub law_third_tied : (n k : ℕ) → 0 < n → n < size (shape_of enc t) → n < size (shape_of enc t') → Shared n (shape_of enc t) (shape_of enc t') k → low n 0 (script enc p t') < low n 0 (script enc p t) → low n 0 (script enc p t') < k →
      Ahead (suc n) (shape_of enc t) (shape_of enc t') (low n 0 (script enc p t'))
  law_third_tied n k z h h' c l l' = gains c (kept_in n t z h) (kept_in n t' z h') l l'

  pub at_all : (t : Tree e) → events (script enc p t) ≡ track enc t []
  at_all t = ap events (sym (append-nil (script enc p t))) ∙ events_script enc p t []

  -- Step 4. Two cuts that were alike after n units, and part under D positions at digits of which the first has the lesser,
  -- are after the next unit as what they keep of the D positions says.
  pub law_fourth : (n D h h' : ℕ) → n < size (shape_of enc t) → n < size (shape_of enc t') → Same n (shape_of enc t) (shape_of enc t') → Parting (suc n) 0 (events (script enc p t)) (events (script enc p t')) D h h' →
      Verdict (suc n) (shape_of enc t) (shape_of enc t') D h h'
  law_fourth n D h h' l l' same r =
      ⊎_elim
      (λ a.
      let d : a.0 ≡ D = let x = a.2 in omega arith in
      let k : first_kept a.1 ≡ h = ⊎_elim (λ b. let x = b.1 in omega arith) (λ b. let x = b.0 in absurd (omega arith)) a.3 in
      let k' : second_kept a.1 ≡ h' = ⊎_elim (λ b. let x = b.1 in omega arith) (λ b. let x = b.0 in absurd (omega arith)) a.4 in
      subst (λ x. Verdict (suc n) (shape_of enc t) (shape_of enc t') x h h') d
      (subst (λ x. Verdict (suc n) (shape_of enc t) (shape_of enc t') a.0 x h') k
      (subst (λ x. Verdict (suc n) (shape_of enc t) (shape_of enc t') a.0 (first_kept a.1) x) k' (law_fork n a.1 refl same))))
      (λ a. let x = a.1 in absurd (omega arith))
      (part_tree enc t t' (suc n) 0 D h h' [] [] (subst (λ x. Parting (suc n) 0 x (track enc t' []) D h h') (at_all t) (subst (λ x. Parting (suc n) 0 (events (script enc p t)) x D h h') (at_all t') r)))

  -- Two cuts with one front have the same lengths, whatever they go on to.
  pub law_front : (n : ℕ) → n ≤ size (shape_of enc t) → Agree n (events (script enc p t)) (events (script enc p t')) → Same n (shape_of enc t) (shape_of enc t')
  law_front n l r =
      ⊎_elim (λ a. a.2) (λ a. let x = a.1 in absurd (omega arith))
      (agree_tree enc t t' n [] [] (subst (λ x. Agree n x (track enc t' [])) (at_all t) (subst (λ x. Agree n (events (script enc p t)) x) (at_all t') r)))

  -- At the end of the word the order of the cuts is that of the trees.
  pub law_end : (k : ℕ) → size (shape_of enc t) ≡ size (shape_of enc t') → Ahead (size (shape_of enc t)) (shape_of enc t) (shape_of enc t') k → IsLonger enc t t'
  law_end k e a =
      subst (λ m. Longer (λ q. length_at (whole enc t) (shape_of enc t) q) (λ q. length_at (suc m) (shape_of enc t') q)) e (ahead_wins (ending a (omega arith) (omega arith)))

  -- And of two trees with one last cut the one of the lesser digit comes first.
  pub law_end_fork : (D h h' : ℕ) → size (shape_of enc t) ≡ size (shape_of enc t') → Same (size (shape_of enc t)) (shape_of enc t) (shape_of enc t') → Parting (suc (size (shape_of enc t))) 0 (events (script enc p t)) (events (script enc p t')) D h h' → IsLonger enc t t'
  law_end_fork D h h' e same r =
      let n = size (shape_of enc t) in
      ⊎_elim
      (λ a.
      let z : first_kept a.1 ≡ 0 = ⊎_elim (λ b. let x = b.0 in absurd (omega arith)) (λ b. b.2) a.3 in
      let z' : second_kept a.1 ≡ 0 = ⊎_elim (λ b. let x = b.0 in absurd (omega arith)) (λ b. b.2) a.4 in
      ⊎_elim
      (λ v. let x = v.0 in absurd (omega arith))
      (λ v. ⊎_elim
      (λ w. ⊎_elim (λ b. subst (λ m. Longer (λ q. length_at (whole enc t) (shape_of enc t) q) (λ q. length_at (suc m) (shape_of enc t') q)) e (ahead_wins b)) (λ b. let x = b.0 in let y = b.1 in absurd (omega arith)) w.1)
      (λ w. let x = w.0 in absurd (omega arith))
      v)
      (law_fork n a.1 refl same))
      (λ a. absurd (no_parting a.2))
      (part_tree enc t t' (suc n) 0 D h h' [] [] (subst (λ x. Parting (suc n) 0 x (track enc t' []) D h h') (at_all t) (subst (λ x. Parting (suc n) 0 (events (script enc p t)) x D h h') (at_all t') r)))
