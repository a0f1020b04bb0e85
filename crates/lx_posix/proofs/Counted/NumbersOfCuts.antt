-- The order of cuts by recursion is the order by lengths and positions, with the same numbers.
use Rattle.lx_posix.specs.Numbers.{IsFirstOf, IsAlikeBy}
use Rattle.lx_posix.proofs.Orders.Ordered.{Before, Tied}
use Rattle.lx_posix.specs.Parting.{Parting, events}
use Rattle.std.specs.Prelude.{◌≡◌, ℕ, ◌<◌, List, [], ◌∷◌, ◌++◌, length}
use Rattle.std.proofs.Common.{sym, ap, ◌∙◌, subst, arith, inl, inr, ⊎_elim}
use Rattle.lx_base.specs.declared.settings.Enc.{Enc}
use Rattle.lx_regex.specs.Cut.{Cut, EndsInUnit, GoesOn, IsCut, rule_part}
use Rattle.lx_regex.specs.Dictionary.{IsBefore}
use Rattle.lx_regex.specs.Posix.{shape_of}
use Rattle.lx_regex.specs.Script.{Symbol, choices, reads, script, units}
use Rattle.lx_regex.specs.Term.{Term}
use Rattle.lx_regex.proofs.KernelCuts.Cuts.{cuts_differ}
use Rattle.lx_regex.proofs.Walks.Fronts.{DiffersBefore}
use Rattle.lx_regex.proofs.KernelCuts.Kernels.{before_asym}
use Rattle.lx_regex.proofs.Walks.PlainWalk.{units_append}
use Rattle.lx_regex.proofs.Walks.Scripts.{differs_is_before}
use Rattle.lx_posix.proofs.Counted.CountedPositions.{longer_by, by_longer, alike_by, one_alike}
use Rattle.lx_posix.proofs.Orders.CutOrder.{tree_size}
use Rattle.lx_posix.proofs.Fronts.FrontsPart.{cuts_part, length_both}
use Rattle.lx_posix.proofs.Orders.NumberBetween.{opened, fork_of, tie_opened}
use Rattle.lx_posix.proofs.Orders.NumberedOrder.{tied_fork}
use Rattle.lx_posix.proofs.Fronts.SameFront.{agree_front, one_way, parting_alike}

module _ (enc : Enc) (rules : List Term) where
  pub unit_some : (l : List Symbol) → EndsInUnit l → 0 < length (units l)
  unit_some l is =
      let z = ap (λ x. length (units x)) is.2 ∙ ap length (units_append is.0 (reads is.1 ∷ [])) ∙ length_both (units is.0) (is.1 ∷ []) in
      omega arith

  -- the lists of two fronts part one way alone, whatever goes on from them
  part_choices :
      (j k : Cut) (p q x y : List Symbol) (D a b : ℕ) → j.rule ≡ k.rule → EndsInUnit j.front → EndsInUnit k.front
      → units j.front ≡ units k.front → GoesOn enc rules j p → GoesOn enc rules k q
      → Parting (length (units j.front)) 0 (events (j.front ++ x)) (events (k.front ++ y)) D a b
      → DiffersBefore (choices j.front) (choices k.front)
  part_choices j k p q x y D a b same ij ik u gj gk r =
      let n = length (units j.front) in
      let z = ap length u in
      let s = parting_alike (agree_front j.front x p n (omega arith)) (agree_front k.front y q n (omega arith)) r in
      ⊎_elim
      (λ e.
      let t : Parting n 0 (events (j.front ++ p)) (events (j.front ++ q)) D a b =
      subst (λ l. Parting n 0 (events (j.front ++ p)) (events (l ++ q)) D a b) (sym e) s in
      let t' = parting_alike (agree_front j.front p q n (omega arith)) (agree_front j.front q p n (omega arith)) t in
      absurd (one_way t t'))
      (λ d. ⊎_elim
      (λ h. h)
      (λ h.
      let c = cuts_part enc rules k j q p (sym same) ik ij (sym u) gk gj h in
      absurd (one_way s (subst (λ m. Parting m 0 (events (k.front ++ q)) (events (j.front ++ p)) c.0 c.1 c.2) (sym z) c.3)))
      d)
      (cuts_differ enc rules j k p q same ij ik u gj gk)

  pub first_of : (word : List ℕ) (j k : Cut) (n : ℕ) → IsCut enc rules word j → IsCut enc rules word k → Before enc rules j k n
      → IsFirstOf enc rules j k n
  first_of word j k n ij ik b = record {
    term = b.term;
    tree = b.tree;
    other_tree = b.other_tree;
    rest = b.rest;
    other_rest = b.other_rest;
    of_rule = b.of_rule;
    one_rule = b.one_rule;
    goes = b.goes;
    other_goes = b.other_goes;
    first =
        ⊎_elim
        (λ a. inl (longer_by (length (units j.front)) (shape_of enc b.tree) (shape_of enc b.other_tree) n a))
        (λ t.
        let p = rule_part rules j.rule in
        let m = length (units j.front) in
        let e = tie_opened (fork_of enc p m n b.tree b.other_tree t) t.0 in
        let r : Parting m 0 (events (j.front ++ b.rest)) (events (k.front ++ b.other_rest)) n n n =
        subst
        (λ l. Parting m 0 (events l) (events (k.front ++ b.other_rest)) n n n) b.goes
        (subst (λ l. Parting m 0 (events (script enc p b.tree)) (events l) n n n) b.other_goes t.1) in
        inr (
          subst (λ x. IsAlikeBy m (shape_of enc b.tree) (shape_of enc b.other_tree) x) e (alike_by m (shape_of enc b.tree) (shape_of enc b.other_tree) (unit_some j.front ij.after_unit) t.0),
          differs_is_before _ _
              (part_choices j k ij.possible.0 ik.possible.0 b.rest b.other_rest n n n b.one_rule ij.after_unit ik.after_unit
              (ij.reads_word ∙ sym ik.reads_word) ij.possible.1 ik.possible.1 r),
        ))
        b.order;
  }

  pub before_of : (word : List ℕ) (j k : Cut) (n : ℕ) → IsCut enc rules word j → IsCut enc rules word k → IsFirstOf enc rules j k n
      → Before enc rules j k n
  before_of word j k n ij ik f = record {
    term = f.term;
    tree = f.tree;
    other_tree = f.other_tree;
    rest = f.rest;
    other_rest = f.other_rest;
    of_rule = f.of_rule;
    one_rule = f.one_rule;
    goes = f.goes;
    other_goes = f.other_goes;
    order =
        ⊎_elim
        (λ l. inl (by_longer (length (units j.front)) (shape_of enc f.tree) (shape_of enc f.other_tree) n l))
        (λ t. inr (tie t.0 t.1))
        f.first;
  }
    where
      tie : IsAlikeBy (length (units j.front)) (shape_of enc f.tree) (shape_of enc f.other_tree) n → IsBefore (choices j.front) (choices k.front)
          → Tied enc (rule_part rules j.rule) (length (units j.front)) f.tree f.other_tree n
      tie a h =
          let p = rule_part rules j.rule in
          let m = length (units j.front) in
          let u : units j.front ≡ units k.front = ij.reads_word ∙ sym ik.reads_word in
          let z = ap length u in
          let d : DiffersBefore (choices j.front) (choices k.front) =
          ⊎_elim
          (λ e. absurd (before_asym (choices j.front) (choices k.front) h (subst (λ l. IsBefore (choices k.front) (choices l)) (sym e) (subst (λ l. IsBefore (choices l) (choices k.front)) e h))))
          (λ r. ⊎_elim (λ d. d) (λ d. absurd (before_asym (choices j.front) (choices k.front) h (differs_is_before _ _ d))) r)
          (cuts_differ enc rules j k ij.possible.0 ik.possible.0 f.one_rule ij.after_unit ik.after_unit u ij.possible.1 ik.possible.1) in
          let c = cuts_part enc rules j k ij.possible.0 ik.possible.0 f.one_rule ij.after_unit ik.after_unit u ij.possible.1 ik.possible.1 d in
          let s = parting_alike (agree_front j.front ij.possible.0 f.rest m (omega arith)) (agree_front k.front ik.possible.0 f.other_rest m (omega arith)) c.3 in
          let r : Parting m 0 (events (script enc p f.tree)) (events (script enc p f.other_tree)) c.0 c.1 c.2 =
          subst
          (λ l. Parting m 0 (events l) (events (script enc p f.other_tree)) c.0 c.1 c.2) (sym f.goes)
          (subst (λ l. Parting m 0 (events (j.front ++ f.rest)) (events l) c.0 c.1 c.2) (sym f.other_goes) s) in
          let l = tree_size enc rules p f.tree j.front f.rest f.goes in
          let l' = tree_size enc rules p f.other_tree k.front f.other_rest f.other_goes in
          let some = unit_some j.front ij.after_unit in
          let t = tied_fork enc p m c.0 c.1 c.2 f.tree f.other_tree some l (omega arith) a.alike r in
          let e = tie_opened (fork_of enc p m c.0 f.tree f.other_tree t) t.0 in
          let w = one_alike m (shape_of enc f.tree) (shape_of enc f.other_tree) (opened m (shape_of enc f.tree)) n (alike_by m (shape_of enc f.tree) (shape_of enc f.other_tree) some a.alike) a in
          subst (λ x. Tied enc p m f.tree f.other_tree x) (sym e ∙ w) t
