-- The order of cuts with its number: it is total, and what one more unit makes of it.
use Rattle.lx_posix.proofs.Orders.Ordered.{Before, Order}
use Rattle.lx_posix.specs.Parting.{Parting, events}
use Rattle.lx_posix.specs.Walks.{after, depth, kept, lowest}
use Rattle.std.specs.Prelude.{◌≡◌, ℕ, suc, ◌+◌, ◌<◌, ◌≤◌, ◌⊎◌, min, List, [], ◌∷◌, ◌++◌, length, Some, slice_get, refl}
use Rattle.std.proofs.Common.{sym, ap, ap₂, ◌∙◌, subst, arith, inl, inr, ⊎_elim, append_assoc}
use Rattle.lx_base.specs.declared.settings.Enc.{Enc}
use Rattle.lx_regex.specs.Term.{Term}
use Rattle.lx_regex.specs.Tree.{Tree}
use Rattle.lx_regex.specs.Script.{Symbol, reads, script, units, choices}
use Rattle.lx_regex.specs.Posix.{shape_of, size}
use Rattle.lx_regex.specs.Cut.{Cut, EndsInUnit, GoesOn, rule_part}
use Rattle.lx_regex.proofs.PosixTrees.PosixShapes.{Same}
use Rattle.lx_regex.proofs.PosixTrees.PosixAhead.{Ahead, decide}
use Rattle.lx_regex.proofs.PosixTrees.PosixUnique.{count}
use Rattle.lx_regex.proofs.Walks.PlainWalk.{units_append}
use Rattle.lx_regex.proofs.KernelCuts.Cuts.{cuts_differ}
use Rattle.lx_regex.proofs.Walks.Fronts.{DiffersBefore}
use Rattle.lx_posix.proofs.Steps.KeptByWalk.{low}
use Rattle.lx_posix.proofs.Steps.CommonWalk.{low_at, lowest_front}
use Rattle.lx_posix.proofs.Fronts.PartDepth.{depth_append}
use Rattle.lx_posix.proofs.Fronts.FrontsPart.{cuts_part, length_both}
use Rattle.lx_posix.proofs.Orders.NumberedOrder.{order_step, order_fork, tied_fork}
use Rattle.lx_posix.proofs.Fronts.SameFront.{agree_front, front_same, order_front, order_asym, order_number, parting_alike, parting_behind}

module _ (enc : Enc) (rules : List Term) where
  -- a tree of a given term that goes on from a cut
  pub tree_on : (k : Cut) (rest : List Symbol) (rule : ℕ) → k.rule ≡ rule → (e : Term) → slice_get rules rule ≡ Some e
      → GoesOn enc rules k rest → (t : Tree e) × (script enc (rule_part rules rule) t ≡ k.front ++ rest)
  tree_on k rest rule same e at go =
      let z : go.0 ≡ e = let s : Some go.0 ≡ Some e = sym go.2 ∙ ap (λ n. slice_get rules n) same ∙ at in cc in
      subst
      (λ n. (t : Tree e) × (script enc (rule_part rules n) t ≡ k.front ++ rest)) same
      (subst (λ f. (t : Tree f) × (script enc (rule_part rules k.rule) t ≡ k.front ++ rest)) z (go.1, go.3))

  pub tree_size : {e : Term} → (p : ℕ) (t : Tree e) (l rest : List Symbol) → script enc p t ≡ l ++ rest
      → length (units l) ≤ size (shape_of enc t)
  tree_size p t l rest e =
      let z = sym (count enc p t) ∙ ap length (ap units e ∙ units_append l rest) ∙ length_both (units l) (units rest) in
      omega arith

  -- Of two cuts of one rule over as many units, whatever trees go on from them, the order is one.
  pub order_of : (j k : Cut) (n : ℕ) → Before enc rules j k n → units j.front ≡ units k.front → (e : Term) → slice_get rules j.rule ≡ Some e
      → (t t' : Tree e) (rest rest' : List Symbol)
      → script enc (rule_part rules j.rule) t ≡ j.front ++ rest → script enc (rule_part rules j.rule) t' ≡ k.front ++ rest'
      → Order enc (rule_part rules j.rule) (length (units j.front)) t t' n
  order_of j k n b u e at t t' rest rest' f f' =
      let z : b.term ≡ e = let s : Some b.term ≡ Some e = sym b.of_rule ∙ at in cc in
      let p = rule_part rules j.rule in
      let m = length (units j.front) in
      let was =
      subst
      (λ g. (s : Tree g) × (s' : Tree g) × (script enc p s ≡ j.front ++ b.rest) × (script enc p s' ≡ k.front ++ b.other_rest) × Order enc p m s s' n)
      z (b.tree, b.other_tree, b.goes, b.other_goes, b.order) in
      let l = tree_size p was.0 j.front b.rest was.2 in
      let l' = tree_size p was.1 k.front b.other_rest was.3 in
      let len : m ≡ length (units k.front) = ap length u in
      order_front enc p was.0 was.1 t t' j.front k.front b.rest b.other_rest rest rest' m n was.2 f was.3 f' refl len l (omega arith) was.4

  pub before_asym : (j k : Cut) (n m : ℕ) → units j.front ≡ units k.front → Before enc rules j k n → Before enc rules k j m → ⊥
  before_asym j k n m u b c =
      let p = rule_part rules j.rule in
      let goes : script enc p c.other_tree ≡ j.front ++ c.other_rest = ap (λ r. script enc (rule_part rules r) c.other_tree) (sym c.one_rule) ∙ c.other_goes in
      absurd (asym)
    where
      asym : ⊥
      asym =
          let at : slice_get rules j.rule ≡ Some c.term = ap (λ r. slice_get rules r) (sym c.one_rule) ∙ c.of_rule in
          let f : script enc (rule_part rules j.rule) c.other_tree ≡ j.front ++ c.other_rest =
          ap (λ r. script enc (rule_part rules r) c.other_tree) (sym c.one_rule) ∙ c.other_goes in
          let g : script enc (rule_part rules j.rule) c.tree ≡ k.front ++ c.rest =
          ap (λ r. script enc (rule_part rules r) c.tree) (sym c.one_rule) ∙ c.goes in
          let a = order_of j k n b u c.term at c.other_tree c.tree c.other_rest c.rest f g in
          let o : Order enc (rule_part rules j.rule) (length (units j.front)) c.tree c.other_tree m =
          subst
          (λ x. Order enc (rule_part rules j.rule) x c.tree c.other_tree m) (ap length (sym u))
          (subst (λ r. Order enc (rule_part rules r) (length (units k.front)) c.tree c.other_tree m) c.one_rule c.order) in
          order_asym enc (rule_part rules j.rule) (length (units j.front)) n m c.other_tree c.tree a o

  pub one_number : (j k : Cut) (n m : ℕ) → units j.front ≡ units k.front → Before enc rules j k n → Before enc rules j k m → n ≡ m
  one_number j k n m u b c =
      order_number enc
      (rule_part rules j.rule) (length (units j.front)) n m c.tree c.other_tree
      (order_of j k n b u c.term c.of_rule c.tree c.other_tree c.rest c.other_rest c.goes c.other_goes) c.order

  -- two cuts of one rule at one word are one, or one is before the other
  pub before_total : (j k : Cut) (p q : List Symbol) → j.rule ≡ k.rule → EndsInUnit j.front → EndsInUnit k.front
      → units j.front ≡ units k.front → GoesOn enc rules j p → GoesOn enc rules k q
      → (j.front ≡ k.front) ⊎ (((n : ℕ) × Before enc rules j k n) ⊎ ((n : ℕ) × Before enc rules k j n))
  before_total j k p q same ij ik u gj gk =
      let e = gj.0 in
      let t = gj.1 in
      let r = tree_on k q j.rule (sym same) e gj.2 gk in
      let t' = r.0 in
      let n = length (units j.front) in
      ⊎_elim
      (λ alike. ⊎_elim
      (λ one. inl one)
      (λ d. inr (⊎_elim
      (λ d. inl (tie j k p q t t' same ij ik u gj gk gj.2 gj.3 r.1 alike d))
      (λ d. inr (tie k j q p t' t (sym same) ik ij (sym u) gk gj (ap (λ x. slice_get rules x) (sym same) ∙ gj.2)
      (ap (λ x. script enc (rule_part rules x) t') (sym same) ∙ r.1) (ap (λ x. script enc (rule_part rules x) t) (sym same) ∙ gj.3)
      (subst (λ x. Same x (shape_of enc t') (shape_of enc t)) (ap length u) (λ y. sym (alike y))) d))
      d))
      (cuts_differ enc rules j k p q same ij ik u gj gk))
      (λ d. inr (⊎_elim
      (λ a. inl (a.0, record { term = e; tree = t; other_tree = t'; rest = p; other_rest = q; of_rule = gj.2; one_rule = same; goes = gj.3; other_goes = r.1; order = inl a.1 }))
      (λ a. inr (
        a.0,
        record {
          term = e;
          tree = t';
          other_tree = t;
          rest = q;
          other_rest = p;
          of_rule = ap (λ x. slice_get rules x) (sym same) ∙ gj.2;
          one_rule = sym same;
          goes = ap (λ x. script enc (rule_part rules x) t') (sym same) ∙ r.1;
          other_goes = ap (λ x. script enc (rule_part rules x) t) (sym same) ∙ gj.3;
          order = inl (subst (λ x. Ahead x (shape_of enc t') (shape_of enc t) a.0) (ap length u) a.1);
        },
      ))
      d))
      (decide n (shape_of enc t) (shape_of enc t'))
    where
      unit_some : (l : List Symbol) → EndsInUnit l → 0 < length (units l)
      unit_some l is =
          let z = ap (λ x. length (units x)) is.2 ∙ ap length (units_append is.0 (reads is.1 ∷ [])) ∙ length_both (units is.0) (is.1 ∷ []) in
          omega arith

      tie : {e : Term} → (j k : Cut) (p q : List Symbol) (t t' : Tree e) → j.rule ≡ k.rule → EndsInUnit j.front → EndsInUnit k.front
          → units j.front ≡ units k.front → GoesOn enc rules j p → GoesOn enc rules k q
          → slice_get rules j.rule ≡ Some e
          → script enc (rule_part rules j.rule) t ≡ j.front ++ p → script enc (rule_part rules j.rule) t' ≡ k.front ++ q
          → Same (length (units j.front)) (shape_of enc t) (shape_of enc t')
          → DiffersBefore (choices j.front) (choices k.front) → (n : ℕ) × Before enc rules j k n
      tie {e} j k p q t t' same ij ik u gj gk at f f' alike d =
          let r = cuts_part enc rules j k p q same ij ik u gj gk d in
          let n = length (units j.front) in
          let s : Parting n 0 (events (script enc (rule_part rules j.rule) t)) (events (script enc (rule_part rules j.rule) t')) r.0 r.1 r.2 =
          subst
          (λ l. Parting n 0 (events l) (events (script enc (rule_part rules j.rule) t')) r.0 r.1 r.2) (sym f)
          (subst (λ l. Parting n 0 (events (j.front ++ p)) (events l) r.0 r.1 r.2) (sym f') r.3) in
          let z = ap length u in
          let l = tree_size (rule_part rules j.rule) t j.front p f in
          let l' = tree_size (rule_part rules j.rule) t' k.front q f' in (
            r.0,
            record {
              term = e;
              tree = t;
              other_tree = t';
              rest = p;
              other_rest = q;
              of_rule = at;
              one_rule = same;
              goes = f;
              other_goes = f';
              order = inr (tied_fork enc (rule_part rules j.rule) n r.0 r.1 r.2 t t' (unit_some j.front ij) l (omega arith) alike s);
            },
          )

  -- a walk is as low as it says
  kept_low : {e : Term} → (p : ℕ) (t : Tree e) (k : Cut) (y rest : List Symbol) → EndsInUnit k.front → EndsInUnit y
      → script enc p t ≡ (k.front ++ y) ++ rest → low (length (units k.front)) 0 (script enc p t) ≡ kept k y
  kept_low p t k y rest ik iy e =
      let b = ik.0 in
      let n = length (units b) in
      let size_of : length (units k.front) ≡ suc n =
      ap (λ x. length (units x)) ik.2 ∙ ap length (units_append b (reads ik.1 ∷ [])) ∙ length_both (units b) (ik.1 ∷ []) ∙ one n in
      let s : script enc p t ≡ b ++ reads ik.1 ∷ (iy.0 ++ reads iy.1 ∷ rest) =
      e ∙ ap (λ x. (x ++ y) ++ rest) ik.2 ∙ append_assoc (b ++ reads ik.1 ∷ []) y rest ∙ append_assoc b (reads ik.1 ∷ []) (y ++ rest)
      ∙ ap (λ x. b ++ reads ik.1 ∷ (x ++ rest)) iy.2 ∙ ap (λ x. b ++ reads ik.1 ∷ x) (append_assoc iy.0 (reads iy.1 ∷ []) rest) in
      let d : depth 0 b ≡ depth 0 k.front = sym (depth_append enc b (reads ik.1 ∷ []) 0) ∙ ap (λ x. depth 0 x) (sym ik.2) in
      ap₂ (λ x l. low x 0 l) size_of s ∙ low_at b ik.1 (iy.0 ++ reads iy.1 ∷ rest) 0 n refl
      ∙ lowest_front iy.0 iy.1 (depth 0 b) (depth 0 b) rest []
      ∙ ap₂ (λ x l. lowest x x l) d (sym iy.2)
    where
      one : (n : ℕ) → n + 1 ≡ suc n
      one n = omega arith

  -- One more unit, from two cuts: each keeps some of its open positions, and that decides.
  pub across :
      (j k : Cut) (y z p q : List Symbol) (u v n : ℕ) → EndsInUnit j.front → EndsInUnit k.front → units j.front ≡ units k.front
      → EndsInUnit y → EndsInUnit z → units y ≡ u ∷ [] → units z ≡ v ∷ []
      → GoesOn enc rules (after j y) p → GoesOn enc rules (after k z) q → Before enc rules j k n
      → (kept j y < min n (kept k z) → Before enc rules (after k z) (after j y) (min n (min (kept j y) (kept k z))))
      × (min n (kept k z) ≤ kept j y → Before enc rules (after j y) (after k z) (min n (min (kept j y) (kept k z))))
  across j k y z p q u v n ij ik same iy iz uy uz gy gz b =
      let r = rule_part rules j.rule in
      let e = gy.0 in
      let t = gy.1 in
      let w = tree_on (after k z) q j.rule (sym b.one_rule) e gy.2 gz in
      let t' = w.0 in
      let m = length (units j.front) in
      let o = order_of j k n b same e gy.2 t t' (y ++ p) (z ++ q) (gy.3 ∙ append_assoc j.front y p) (w.1 ∙ append_assoc k.front z q) in
      let l1 = tree_size r t (j.front ++ y) p gy.3 in
      let l2 = tree_size r t' (k.front ++ z) q w.1 in
      let n1 = ap length (units_append j.front y ∙ ap (λ x. units j.front ++ x) uy) ∙ length_both (units j.front) (u ∷ []) in
      let n2 = ap length (units_append k.front z ∙ ap (λ x. units k.front ++ x) uz) ∙ length_both (units k.front) (v ∷ []) in
      let n3 = ap length same in
      let h = kept_low r t j y p ij iy gy.3 in
      let h' = ap (λ x. low x 0 (script enc r t')) n3 ∙ kept_low r t' k z q ik iz w.1 in
      let s = order_step enc r m n (kept j y) (kept k z) t t' (some j ij) (omega arith) (omega arith) h h' o in
      let m1 : suc m ≡ length (units (j.front ++ y)) = omega arith in
      let m2 : suc m ≡ length (units (k.front ++ z)) = omega arith in (
        λ lt.
            record {
              term = e;
              tree = t';
              other_tree = t;
              rest = q;
              other_rest = p;
              of_rule = ap (λ x. slice_get rules x) (sym b.one_rule) ∙ gy.2;
              one_rule = sym b.one_rule;
              goes = ap (λ x. script enc (rule_part rules x) t') (sym b.one_rule) ∙ w.1;
              other_goes = ap (λ x. script enc (rule_part rules x) t) (sym b.one_rule) ∙ gy.3;
              order =
                  subst
                  (λ x. Order enc (rule_part rules x) (length (units (k.front ++ z))) t' t (min n (min (kept j y) (kept k z)))) b.one_rule
                  (subst (λ x. Order enc r x t' t (min n (min (kept j y) (kept k z)))) m2 (s.0 lt));
            },
        λ ge.
            record {
              term = e;
              tree = t;
              other_tree = t';
              rest = p;
              other_rest = q;
              of_rule = gy.2;
              one_rule = b.one_rule;
              goes = gy.3;
              other_goes = w.1;
              order = subst (λ x. Order enc r x t t' (min n (min (kept j y) (kept k z)))) m1 (s.1 ge);
            },
      )
    where
      some : (j : Cut) → EndsInUnit j.front → 0 < length (units j.front)
      some j ij =
          let z = ap (λ x. length (units x)) ij.2 ∙ ap length (units_append ij.0 (reads ij.1 ∷ [])) ∙ length_both (units ij.0) (ij.1 ∷ []) in
          omega arith

  -- One more unit, from one cut by two walks: they part under D positions, and what each keeps of these decides.
  pub within :
      (j : Cut) (y z p q : List Symbol) (u : ℕ) → EndsInUnit (j.front ++ y) → EndsInUnit (j.front ++ z) → units y ≡ u ∷ [] → units z ≡ u ∷ []
      → GoesOn enc rules (after j y) p → GoesOn enc rules (after j z) q
      → DiffersBefore (choices (j.front ++ y)) (choices (j.front ++ z))
      → (D : ℕ) × (a : ℕ) × (a' : ℕ) × Parting 1 (depth 0 j.front) (events (y ++ [])) (events (z ++ [])) D a a'
      × (a < a' → Before enc rules (after j z) (after j y) (min a a')) × (a' ≤ a → Before enc rules (after j y) (after j z) (min a a'))
  within j y z p q u ijy ijz uy uz gy gz d =
      let r = rule_part rules j.rule in
      let e = gy.0 in
      let t = gy.1 in
      let w = tree_on (after j z) q j.rule refl e gy.2 gz in
      let t' = w.0 in
      let m = length (units j.front) in
      let same : units (j.front ++ y) ≡ units (j.front ++ z) =
      units_append j.front y ∙ ap (λ x. units j.front ++ x) (uy ∙ sym uz) ∙ sym (units_append j.front z) in
      let c = cuts_part enc rules (after j y) (after j z) p q refl ijy ijz same gy gz d in
      let n1 = ap length (units_append j.front y ∙ ap (λ x. units j.front ++ x) uy) ∙ length_both (units j.front) (u ∷ []) in
      let n2 = ap length same in
      let m1 : length (units (j.front ++ y)) ≡ suc m = omega arith in
      let m2 : suc m ≡ length (units (j.front ++ y)) = omega arith in
      let m3 : suc m ≡ length (units (j.front ++ z)) = omega arith in
      let l1 = tree_size r t (j.front ++ y) p gy.3 in
      let l2 = tree_size r t' (j.front ++ z) q w.1 in
      let parting : Parting (suc m) 0 (events (script enc r t)) (events (script enc r t')) c.0 c.1 c.2 =
      subst
      (λ x. Parting (suc m) 0 (events x) (events (script enc r t')) c.0 c.1 c.2) (sym gy.3)
      (subst
      (λ x. Parting (suc m) 0 (events ((j.front ++ y) ++ p)) (events x) c.0 c.1 c.2) (sym w.1)
      (subst (λ x. Parting x 0 (events ((j.front ++ y) ++ p)) (events ((j.front ++ z) ++ q)) c.0 c.1 c.2) m1 c.3)) in
      let alike = front_same enc r t t' j.front (y ++ p) (z ++ q) m (gy.3 ∙ append_assoc j.front y p) (w.1 ∙ append_assoc j.front z q) refl (omega arith) in
      let s = order_fork enc r m c.0 c.1 c.2 t t' (omega arith) (omega arith) alike parting in
      let whole : Parting (suc m) 0 (events (j.front ++ (y ++ p))) (events (j.front ++ (z ++ q))) c.0 c.1 c.2 =
      subst
      (λ x. Parting (suc m) 0 (events x) (events (j.front ++ (z ++ q))) c.0 c.1 c.2) (gy.3 ∙ append_assoc j.front y p)
      (subst
      (λ x. Parting (suc m) 0 (events (script enc r t)) (events x) c.0 c.1 c.2) (w.1 ∙ append_assoc j.front z q) parting) in
      let inner = parting_behind j.front (y ++ p) (z ++ q) 1 (suc m) 0 c.0 c.1 c.2 (omega arith) whole in
      let s1 : 1 ≤ length (units y) = let x = ap length uy in omega arith in
      let s2 : 1 ≤ length (units z) = let x = ap length uz in omega arith in (
        c.0,
        c.1,
        c.2,
        parting_alike (agree_front y p [] 1 s1) (agree_front z q [] 1 s2) inner,
        λ lt.
            record {
              term = e;
              tree = t';
              other_tree = t;
              rest = q;
              other_rest = p;
              of_rule = gy.2;
              one_rule = refl;
              goes = w.1;
              other_goes = gy.3;
              order = subst (λ x. Order enc r x t' t (min c.1 c.2)) m3 (s.0 lt);
            },
        λ ge.
            record {
              term = e;
              tree = t;
              other_tree = t';
              rest = p;
              other_rest = q;
              of_rule = gy.2;
              one_rule = refl;
              goes = gy.3;
              other_goes = w.1;
              order = subst (λ x. Order enc r x t t' (min c.1 c.2)) m2 (s.1 ge);
            },
      )
