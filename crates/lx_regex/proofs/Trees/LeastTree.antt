-- A word that has a tree has a least plain one, under either policy.
use Rattle.std.specs.Prelude.{◌≡◌, ℕ, suc, ◌<◌, ◌⊎◌, List, [], ◌∷◌, ◌++◌, length, refl}
use Rattle.std.proofs.Common.{inl, inr, sym, ap, ◌∙◌, subst, arith, ⊎_elim}
use Rattle.lx_base.specs.declared.settings.Enc.{Enc}
use Rattle.lx_regex.specs.Term.{Term}
use Rattle.lx_regex.specs.Tree.{Tree}
use Rattle.lx_regex.specs.Script.{Symbol, script, units, choices}
use Rattle.lx_regex.specs.Plain.{IsPlain}
use Rattle.lx_regex.specs.Dictionary.{IsBefore}
use Rattle.lx_regex.specs.Posix.{size, length_at, shape_of, whole}
use Rattle.lx_regex.specs.Order.{Policy, greedy, posix, TreePrecedes}
use Rattle.lx_regex.specs.Least.{HasTree, HasPlainTree, IsLeast}
use Rattle.lx_regex.proofs.Walks.Fronts.{before_self}
use Rattle.lx_regex.proofs.Walks.WholeWalk.{plain_tree}
use Rattle.lx_regex.proofs.PosixTrees.PosixOrder.{position_order, position_trans, precedes_self, precedes_trans, precedes_total}
use Rattle.lx_regex.proofs.PosixTrees.PosixUnique.{count}
use Rattle.lx_regex.proofs.Trees.ShapeOfScript.{one_shape}
use Rattle.lx_regex.proofs.Walks.Candidates.{Contains, AllOf, listed, all_scripts}

-- the first of finitely many, under an order that decides
module _
    (A : Type 0) (R : A → A → Type 0) (self : (a : A) → R a a → ⊥) (trans : (a b c : A) → R a b → R b c → R a c)
    (decide : (a b : A) → R a b ⊎ (R a b → ⊥)) where
  pub minimum : (x : A) (xs : List A) → (m : A) × ((a : A) → Contains a (x ∷ xs) → R a m → ⊥)
  minimum x [] = (x, λ a h r. ⊎_elim (λ e. self x (subst (λ b. R b x) e r)) (λ k. k) h)
  minimum x (y ∷ ys) = choose (minimum y ys)
    where
      choose :
          (m : A) × ((a : A) → Contains a (y ∷ ys) → R a m → ⊥) → (m : A) × ((a : A) → Contains a (x ∷ y ∷ ys) → R a m → ⊥)
      choose m =
          ⊎_elim
          (λ before. (x, λ a h r. ⊎_elim (λ e. self x (subst (λ b. R b x) e r)) (λ k. m.1 a k (trans a x m.0 r before)) h))
          (λ not. (m.0, λ a h r. ⊎_elim (λ e. not (subst (λ b. R b m.0) e r)) (λ k. m.1 a k r) h))
          (decide x m.0)

-- the order of two trees depends on their scripts alone
precedes_by_script :
    (policy : Policy) (enc : Enc) {e : Term} (p : ℕ) (t t' m : Tree e) → script enc p t ≡ script enc p t'
    → TreePrecedes policy enc p t m → TreePrecedes policy enc p t' m
precedes_by_script greedy enc p t t' m same before =
    subst (λ l. IsBefore (choices l) (choices (script enc p m))) same before
precedes_by_script posix enc p t t' m same before =
    let shape = (one_shape enc p t t' [] [] (ap (λ l. l ++ []) same)).0 in
    subst
    (λ s. (position : List ℕ) × (length_at (whole enc m) (shape_of enc m) position < length_at (suc (size s)) s position)
    × ((earlier : List ℕ) → IsBefore earlier position → length_at (suc (size s)) s earlier ≡ length_at (whole enc m) (shape_of enc m) earlier))
    shape before

module _ (enc : Enc) (e : Term) (p : ℕ) (w : List ℕ) where
  abbrev Plain : Type 0
  Plain = HasPlainTree enc p e w

  abbrev Earlier : Policy → Plain → Plain → Type 0
  Earlier policy a b = TreePrecedes policy enc p a.0 b.0

  not_itself : (policy : Policy) (a : Plain) → Earlier policy a a → ⊥
  not_itself greedy a before = before_self _ before
  not_itself posix a before = precedes_self enc a.0 before

  in_turn : (policy : Policy) (a b c : Plain) → Earlier policy a b → Earlier policy b c → Earlier policy a c
  in_turn greedy a b c h k =
      position_trans (choices (script enc p a.0)) (choices (script enc p b.0)) (choices (script enc p c.0)) h k
  in_turn posix a b c h k = precedes_trans enc a.0 b.0 c.0 h k

  decide : (policy : Policy) (a b : Plain) → Earlier policy a b ⊎ (Earlier policy a b → ⊥)
  decide greedy a b =
      ⊎_elim
      (λ same. inr (λ h. before_self _ (subst (λ l. IsBefore (choices (script enc p a.0)) l) (sym same) h)))
      (λ r. ⊎_elim (λ before. inl before) (λ after. inr (λ h. not_itself greedy a (in_turn greedy a b a h after))) r)
      (position_order (choices (script enc p a.0)) (choices (script enc p b.0)))
  decide posix a b =
      ⊎_elim
      (λ same. inr (λ h. let lt = h.1 in let equal = same h.0 in omega arith))
      (λ r. ⊎_elim (λ before. inl before) (λ after. inr (λ h. not_itself posix a (in_turn posix a b a h after))) r)
      (precedes_total enc a.0 b.0 (sym (count enc p a.0) ∙ ap length (a.1 ∙ sym b.1) ∙ count enc p b.0))

  -- trees for the listed scripts
  as_trees :
      (ls : List (List Symbol)) → ((l : List Symbol) → Contains l ls → (t : Tree e) × (script enc p t ≡ l) × (units l ≡ w) × IsPlain l)
      → (xs : List Plain) × ((l : List Symbol) → Contains l ls → (a : Plain) × Contains a xs × (script enc p a.0 ≡ l))
  as_trees [] is = ([], λ l h. absurd h)
  as_trees (k ∷ ls) is =
      let r = is k (inl refl) in
      let more = as_trees ls (λ l h. is l (inr h)) in
      let a : Plain = (r.0, ap units r.1 ∙ r.2, subst IsPlain (sym r.1) r.3) in
      (a ∷ more.0, λ l h. ⊎_elim (λ same. (a, inl refl, r.1 ∙ sym same)) (λ m. let q = more.1 l m in (q.0, inr q.1, q.2)) h)

  pub least_tree : (policy : Policy) → 0 < p → HasTree enc p e w → (t : Tree e) × IsLeast policy enc p e w t
  least_tree policy lt has = from_scripts (all_scripts enc e p lt w)
    where
      one : Plain
      one = plain_tree enc e p lt w has

      -- the first of all of them, with the one that is known in front
      from_trees :
          (xs : List Plain) → ((t : Tree e) → units (script enc p t) ≡ w → IsPlain (script enc p t) → (a : Plain) × Contains a xs × (script enc p a.0 ≡ script enc p t))
          → (t : Tree e) × IsLeast policy enc p e w t
      from_trees xs complete =
          let m = minimum Plain (Earlier policy) (not_itself policy) (in_turn policy) (decide policy) one xs in (
            m.0.0,
            record {
              yields = m.0.1;
              plain = m.0.2;
              least =
                  λ other u is before. let a =
                  complete other u is in m.1 a.0
                  (inr a.1) (precedes_by_script policy enc p other a.0.0 m.0.0 (sym a.2) before);
            },
          )

      from_scripts : AllOf (λ l. (t : Tree e) × (script enc p t ≡ l) × (units l ≡ w) × IsPlain l)
          → (t : Tree e) × IsLeast policy enc p e w t
      from_scripts (listed ls is complete) =
          let r = as_trees ls is in
          from_trees r.0 (λ t u is'. r.1 (script enc p t) (complete (script enc p t) (t, refl, u, is')))
