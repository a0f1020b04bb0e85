-- Of two walks without a unit from one cut to the end of the rule that with the lesser choices is first; so the first place of
-- a kernel that ends the rule has the best tree.
use Rattle.lx_posix.specs.Accepts.{IsFirstAccept}
use Rattle.lx_posix.specs.Parting.{Parting, events}
use Rattle.std.specs.Prelude.{◌≡◌, ℕ, suc, ◌<◌, ◌⊎◌, min, List, [], ◌∷◌, ◌++◌, length, Some, slice_get, refl}
use Rattle.std.proofs.Common.{sym, ap, ap₂, ◌∙◌, subst, arith, append-nil, inl, inr, ⊎_elim}
use Rattle.std.proofs.lemmas.Bool.{cases_order}
use Rattle.lx_base.specs.declared.settings.Enc.{Enc}
use Rattle.lx_regex.specs.Cut.{Cut, GoesOn, IsCut, rule_part}
use Rattle.lx_regex.specs.Dictionary.{IsBefore}
use Rattle.lx_regex.specs.Kernel.{IsKernel}
use Rattle.lx_regex.specs.Least.{IsLeast}
use Rattle.lx_regex.specs.Order.{posix}
use Rattle.lx_regex.specs.Plain.{IsPlain}
use Rattle.lx_regex.specs.Posix.{IsLonger, length_at, shape_of, size, whole}
use Rattle.lx_regex.specs.Script.{Symbol, choices, reads, script, units}
use Rattle.lx_regex.specs.Term.{Term}
use Rattle.lx_regex.specs.Tree.{Tree}
use Rattle.lx_regex.proofs.KernelCuts.Cuts.{place_back, place_goes, rule_positive}
use Rattle.lx_regex.proofs.KernelCuts.Kernels.{before_asym, part_at}
use Rattle.lx_regex.proofs.PosixTrees.PosixOrder.{Longer, longer_asym, longer_self}
use Rattle.lx_regex.proofs.PosixTrees.PosixShapes.{Same}
use Rattle.lx_regex.proofs.PosixTrees.PosixUnique.{count}
use Rattle.lx_regex.proofs.Trees.ShapeOfScript.{one_shape}
use Rattle.lx_regex.proofs.Walks.Fronts.{DiffersBefore, before_self}
use Rattle.lx_regex.proofs.Walks.PlainWalk.{units_append}
use Rattle.lx_regex.proofs.Walks.Scripts.{differs_is_before, scripts_differ}
use Rattle.lx_posix.proofs.Ends.EndOfWord.{end_order}
use Rattle.lx_posix.proofs.Ends.PathsPart.{trees_part}
use Rattle.lx_posix.proofs.Fronts.LesserWalks.{choices_behind, walk_before}
use Rattle.lx_posix.proofs.Fronts.SameFront.{front_same}
use Rattle.lx_posix.proofs.Orders.CutOrder.{before_total}
use Rattle.lx_posix.proofs.Orders.NumberBetween.{number_between}
use Rattle.lx_posix.proofs.Orders.Ordered.{Before, Earlier}
use Rattle.lx_posix.proofs.Orders.PosixLaws.{law_end_fork}

module _ (enc : Enc) {e : Term} (p : ℕ) (positive : 0 < p) (t t' : Tree e) where
  pub lesser_end :
      (front y z : List Symbol) → script enc p t ≡ front ++ y → script enc p t' ≡ front ++ z → units y ≡ [] → units z ≡ []
      → DiffersBefore (choices (script enc p t)) (choices (script enc p t')) → IsLonger enc t t'
  lesser_end front y z f f' uy uz df =
      let u1 : units (script enc p t) ≡ units front =
      ap units f ∙ units_append front y ∙ ap (λ x. units front ++ x) uy ∙ append-nil (units front) in
      let u2 : units (script enc p t') ≡ units front =
      ap units f' ∙ units_append front z ∙ ap (λ x. units front ++ x) uz ∙ append-nil (units front) in
      let n1 : length (units front) ≡ size (shape_of enc t) = sym (ap length u1) ∙ count enc p t in
      let n2 : length (units front) ≡ size (shape_of enc t') = sym (ap length u2) ∙ count enc p t' in
      let same = front_same enc p t t' front y z (length (units front)) f f' refl (omega arith) in
      let r = trees_part enc e p positive t t' (u1 ∙ sym u2) df in
      law_end_fork enc p t t' r.0 r.1 r.2 (sym n1 ∙ n2)
      (subst (λ m. Same m (shape_of enc t) (shape_of enc t')) n1 same)
      (subst (λ m. Parting (suc m) 0 (events (script enc p t)) (events (script enc p t')) r.0 r.1 r.2) (count enc p t) r.3)

  -- the same told of the walks
  pub lesser_walk_ends :
      (front y z : List Symbol) → script enc p t ≡ front ++ y → script enc p t' ≡ front ++ z → units y ≡ [] → units z ≡ []
      → IsBefore (choices y) (choices z) → IsLonger enc t t'
  lesser_walk_ends front y z f f' uy uz h =
      let b = choices_behind front y z h in
      let c : IsBefore (choices (script enc p t)) (choices (script enc p t')) =
      subst
      (λ x. IsBefore (choices x) (choices (script enc p t'))) (sym f)
      (subst (λ x. IsBefore (choices (front ++ y)) (choices x)) (sym f') b) in
      let u1 = ap units f ∙ units_append front y ∙ ap (λ x. units front ++ x) (uy ∙ sym uz) in
      let u2 = sym (ap units f' ∙ units_append front z) in
      ⊎_elim
      (λ e. absurd (before_self (choices (script enc p t')) (subst (λ x. IsBefore (choices x) (choices (script enc p t'))) e c)))
      (λ d. ⊎_elim
      (λ d. lesser_end front y z f f' uy uz d)
      (λ d. absurd (before_asym (choices (script enc p t)) (choices (script enc p t')) c (differs_is_before _ _ d))) d)
      (scripts_differ enc e p positive t t' (u1 ∙ u2))

module _ (enc : Enc) (rules : List Term) where
  pub same_scripts : {e : Term} → (p : ℕ) (t t' : Tree e) → script enc p t ≡ script enc p t' → IsLonger enc t t' → ⊥
  same_scripts p t t' s h =
      let z = one_shape enc p t t' [] [] (ap (λ l. l ++ []) s) in
      longer_self (λ q. length_at (whole enc t) (shape_of enc t) q)
      (subst (λ x. Longer (λ q. length_at (whole enc t) (shape_of enc t) q) (λ q. length_at (suc (size x)) x q)) (sym z.0) h)

  -- a cut is one of a kernel's, or later than the first place that ends the rule, or at it
  after_accept :
      (x : ℕ) (w : List ℕ) (ks : List Cut) (i : ℕ) (k : Cut) (rest : List Symbol) → IsKernel (Earlier enc rules) enc rules (x ∷ w) ks
      → IsFirstAccept enc rules ks i k rest → (a : Cut) (mid : List Symbol) → a.rule ≡ k.rule → IsCut enc rules (x ∷ w) a
      → units mid ≡ [] → GoesOn enc rules a mid → (k.front ≡ a.front) ⊎ ((n : ℕ) × Before enc rules k a n)
  after_accept x w ks i k rest kernel accept a mid rule ia um ga =
      let r = kernel.every a ne ia in
      let j = r.1 in
      let ij = kernel.cuts r.0 j ne r.2 in
      let gj = place_goes enc rules a j (place_back enc rules j a r.3) ia.after_unit ij.after_unit mid ga in
      let same = ij.reads_word ∙ sym ia.reads_word in
      let ja : (j.front ≡ a.front) ⊎ ((n : ℕ) × Before enc rules j a n) =
      ⊎_elim
      (λ e. inl e)
      (λ d. ⊎_elim (λ b. inr b) (λ b. absurd (r.4 (inr b))) d)
      (before_total enc rules j a ij.possible.0 mid r.3.rule ij.after_unit ia.after_unit same ij.possible.1 ga) in
      ⊎_elim
      (λ e. let z : j ≡ k = one e r.2 in subst (λ n. (n.front ≡ a.front) ⊎ ((m : ℕ) × Before enc rules n a m)) z ja)
      (λ d. ⊎_elim
      (λ lt.
      let b = (kernel.ordered i r.0 k j lt accept.stands r.2).0 in
      ⊎_elim
      (λ less. let z = r.3.rule in absurd (omega arith))
      (λ b. ⊎_elim
      (λ e. inr (b.0, subst (λ n. Before enc rules k n b.0) (ap₂ (λ m n. record { rule = m; front = n }) r.3.rule e) b.1))
      (λ c. inr (min b.0 c.0, number_between enc rules k j a b.0 c.0 some (ik.reads_word ∙ sym ij.reads_word) same b.1 c.1)) ja)
      b)
      (λ lt. absurd (accept.first_place r.0 j mid lt r.2 (r.3.rule ∙ rule) um gj)) d)
      (cases_order i r.0)
    where
      ne : x ∷ w ≡ [] → ⊥
      ne e = cc

      ik : IsCut enc rules (x ∷ w) k
      ik = kernel.cuts i k ne accept.stands

      some : 0 < length (units k.front)
      some = let z = ap length ik.reads_word in omega arith

      one : {i' : ℕ} {j' : Cut} → i ≡ i' → slice_get ks i' ≡ Some j' → j' ≡ k
      one {i'} {j'} e at' = let s : Some j' ≡ Some k = sym at' ∙ ap (λ n. slice_get ks n) (sym e) ∙ accept.stands in cc

  -- the first place that ends the rule, and the walk of the least choices from it, make the best tree
  pub accept_is_best :
      (x : ℕ) (w : List ℕ) (ks : List Cut) (i : ℕ) (k : Cut) (rest : List Symbol) (e : Term) (t : Tree e)
      → IsKernel (Earlier enc rules) enc rules (x ∷ w) ks → IsFirstAccept enc rules ks i k rest → slice_get rules k.rule ≡ Some e
      → script enc (rule_part rules k.rule) t ≡ k.front ++ rest → IsLeast posix enc (rule_part rules k.rule) e (x ∷ w) t
  accept_is_best x w ks i k rest e t kernel accept at f = record {
    yields = ap units f ∙ units_append k.front rest ∙ ap₂ (λ a b. a ++ b) ik.reads_word accept.without_unit ∙ append-nil (x ∷ w);
    plain = subst IsPlain (accept.ends_rule.3 ∙ sym f) accept.ends_rule.4;
    least = λ other yields plain longer. none other yields plain longer;
  }
    where
      ne : x ∷ w ≡ [] → ⊥
      ne e = cc

      ik : IsCut enc rules (x ∷ w) k
      ik = kernel.cuts i k ne accept.stands

      part : ℕ
      part = rule_part rules k.rule

      longer_both : (s : Tree e) → IsLonger enc s t → IsLonger enc t s → ⊥
      longer_both s h b =
          longer_asym (λ q. length_at (whole enc s) (shape_of enc s) q) (λ q. length_at (whole enc t) (shape_of enc t) q) h b

      none : (s : Tree e) → units (script enc (rule_part rules k.rule) s) ≡ x ∷ w → IsPlain (script enc (rule_part rules k.rule) s)
          → IsLonger enc s t → ⊥
      none s yields plain longer =
          let p = part_at (script enc (rule_part rules k.rule) s) x w [] (yields ∙ sym (append-nil (x ∷ w))) in
          let a : Cut = record { rule = k.rule; front = p.fore ++ reads p.unit ∷ [] } in
          let ga : GoesOn enc rules a p.mid = (e, s, at, p.is, plain) in
          let ia : IsCut enc rules (x ∷ w) a =
          record { reads_word = p.first; after_unit = (p.fore, p.unit, refl); possible = (p.mid, ga) } in
          ⊎_elim
          (λ o.
          let f' : script enc (rule_part rules k.rule) s ≡ k.front ++ p.mid = p.is ∙ ap (λ l. l ++ p.mid) (sym o) in
          let gk : GoesOn enc rules k p.mid = (e, s, at, f', plain) in
          ⊎_elim
          (λ same. same_scripts (rule_part rules k.rule) s t same longer)
          (λ d. ⊎_elim
          (λ d.
          accept.first_walk p.mid p.then gk
          (walk_before k.front p.mid rest
          (subst (λ l. IsBefore (choices l) (choices (k.front ++ rest))) f'
          (subst (λ l. IsBefore (choices (script enc (rule_part rules k.rule) s)) (choices l)) f (differs_is_before _ _ d)))))
          (λ d. longer_both s longer (lesser_end enc (rule_part rules k.rule)
          (rule_positive rules k.rule) t s k.front rest p.mid f f' accept.without_unit p.then d)) d)
          (scripts_differ enc e (rule_part rules k.rule) (rule_positive rules k.rule) s t
          (yields ∙ sym (ap units f ∙ units_append k.front rest ∙ ap₂ (λ a b. a ++ b) ik.reads_word accept.without_unit
          ∙ append-nil (x ∷ w)))))
          (λ b.
          longer_both s longer
          (end_order enc rules k a rest p.mid b.0 (ik.reads_word ∙ sym p.first) accept.without_unit p.then b.1 e at t s f p.is))
          (after_accept x w ks i k rest kernel accept a p.mid refl ia p.then ga)
