-- At the end of a word the order of two cuts is that of the trees that end there, so no cut that may end there is before that
-- of the best tree.
use Rattle.lx_posix.proofs.Orders.Ordered.{Before, Order}
use Rattle.lx_posix.specs.Parting.{Parting, events}
use Rattle.std.specs.Prelude.{◌≡◌, ℕ, suc, min, List, [], ◌++◌, length, Some, slice_get}
use Rattle.std.proofs.Common.{sym, ap, ap₂, ◌∙◌, subst, arith, append-nil, inl, inr}
use Rattle.lx_base.specs.declared.settings.Enc.{Enc}
use Rattle.lx_regex.specs.Cut.{Cut, GoesOn, IsCut, rule_part}
use Rattle.lx_regex.specs.Least.{IsLeast}
use Rattle.lx_regex.specs.Order.{posix}
use Rattle.lx_regex.specs.Plain.{IsPlain}
use Rattle.lx_regex.specs.Posix.{IsLonger, shape_of, size}
use Rattle.lx_regex.specs.Script.{Symbol, script, units}
use Rattle.lx_regex.specs.Term.{Term}
use Rattle.lx_regex.specs.Tree.{Tree}
use Rattle.lx_regex.proofs.Walks.PlainWalk.{units_append}
use Rattle.lx_regex.proofs.PosixTrees.PosixAhead.{Ahead}
use Rattle.lx_regex.proofs.PosixTrees.PosixShapes.{Same}
use Rattle.lx_regex.proofs.PosixTrees.PosixUnique.{count}
use Rattle.lx_posix.proofs.Orders.CutOrder.{order_of}
use Rattle.lx_posix.proofs.Orders.NumberedOrder.{enough, low_event, parting_more}
use Rattle.lx_posix.proofs.Orders.PosixLaws.{law_end, law_end_fork}

module _ (enc : Enc) (rules : List Term) where
  pub end_order :
      (j k : Cut) (p q : List Symbol) (n : ℕ) → units j.front ≡ units k.front → units p ≡ [] → units q ≡ [] → Before enc rules j k n
      → (e : Term) → slice_get rules j.rule ≡ Some e → (t t' : Tree e)
      → script enc (rule_part rules j.rule) t ≡ j.front ++ p → script enc (rule_part rules j.rule) t' ≡ k.front ++ q
      → IsLonger enc t t'
  end_order j k p q n u up uq b e at t t' f f' =
      by_order (order_of enc rules j k n b u e at t t' p q f f')
    where
      part : ℕ
      part = rule_part rules j.rule

      first_size : length (units j.front) ≡ size (shape_of enc t)
      first_size =
          sym (ap length (ap units f ∙ units_append j.front p ∙ ap (λ x. units j.front ++ x) up ∙ append-nil (units j.front)))
          ∙ count enc (rule_part rules j.rule) t

      second_size : length (units k.front) ≡ size (shape_of enc t')
      second_size =
          sym (ap length (ap units f' ∙ units_append k.front q ∙ ap (λ x. units k.front ++ x) uq ∙ append-nil (units k.front)))
          ∙ count enc (rule_part rules j.rule) t'

      sizes : size (shape_of enc t) ≡ size (shape_of enc t')
      sizes = sym first_size ∙ ap length u ∙ second_size

      by_order : Order enc (rule_part rules j.rule) (length (units j.front)) t t' n → IsLonger enc t t'
      by_order (inl a) =
          law_end enc (rule_part rules j.rule) t t' n sizes (subst (λ m. Ahead m (shape_of enc t) (shape_of enc t') n) first_size a)
      by_order (inr a) =
          let m = length (units j.front) in
          let s1 = first_size in
          let s2 = sizes in
          let more = parting_more a.1 (enough enc (rule_part rules j.rule) m t (omega arith)) (enough enc (rule_part rules j.rule) m t' (omega arith)) in
          let h = min n (low_event m 0 (events (script enc (rule_part rules j.rule) t))) in
          let h' = min n (low_event m 0 (events (script enc (rule_part rules j.rule) t'))) in
          law_end_fork enc (rule_part rules j.rule) t t' n h h' sizes
          (subst (λ m. Same m (shape_of enc t) (shape_of enc t')) first_size a.0)
          (subst (λ x. Parting (suc x) 0 (events (script enc (rule_part rules j.rule) t)) (events (script enc (rule_part rules j.rule) t')) n h h') first_size more)

  pub best_is_first :
      (word : List ℕ) (j k : Cut) (p q : List Symbol) (n : ℕ) (e : Term) (t : Tree e) → IsCut enc rules word j → IsCut enc rules word k
      → units p ≡ [] → units q ≡ [] → GoesOn enc rules j p → slice_get rules k.rule ≡ Some e
      → script enc (rule_part rules k.rule) t ≡ k.front ++ q → IsLeast posix enc (rule_part rules k.rule) e word t
      → Before enc rules j k n → ⊥
  best_is_first word j k p q n e t ij ik up uq gj at f least b =
      let same = b.one_rule in
      let z : gj.0 ≡ e = let s : Some gj.0 ≡ Some e = sym gj.2 ∙ ap (λ r. slice_get rules r) same ∙ at in cc in
      let r =
      subst
      (λ g. (s : Tree g) × (script enc (rule_part rules j.rule) s ≡ j.front ++ p)) z (gj.1, gj.3) in
      let plain : IsPlain (j.front ++ p) = subst IsPlain gj.3 gj.4 in
      let o = end_order j k p q n (ij.reads_word ∙ sym ik.reads_word) up uq b e (ap (λ r. slice_get rules r) same ∙ at) r.0 t r.1 (ap (λ x. script enc (rule_part rules x) t) same ∙ f) in
      let s : script enc (rule_part rules k.rule) r.0 ≡ j.front ++ p = ap (λ x. script enc (rule_part rules x) r.0) (sym same) ∙ r.1 in
      least.least r.0
      (ap units s ∙ units_append j.front p ∙ ap₂ (λ x y. x ++ y) ij.reads_word up ∙ append-nil word)
      (subst IsPlain (sym s) plain) o
