-- The items that are found have all that is live, at each point to which some walk comes.
use Rattle.std.proofs.Common.{◌≡◌, ℕ, ◌⊎◌, inl, inr, true, List, Option, Some, None, get_or, nat_eq, if◌then◌else◌, refl, sym, ap, ◌∙◌, subst}
use Rattle.std.specs.Prelude.{◌≢◌, Contains}
use Rattle.std.proofs.lemmas.Bool.{cases_eq, eq-eqb, ne_eqb}
use Rattle.lx_auto.specs.declared.automaton.Accept.{Accept}
use Rattle.lx_auto.specs.declared.automaton.Auto.{Auto}
use Rattle.lx_auto.specs.declared.automaton.Edge.{Edge}
use Rattle.lx_auto.specs.declared.automaton.Held.{Held}
use Rattle.lx_auto.specs.Effects.{Reads, effect_of, effect_of_both}
use Rattle.lx_auto.specs.Live.{IsClosed, IsLive}
use Rattle.lx_auto.specs.Points.{Point, IsReached, left_behind, point_behind, state_at, values_left}
use Rattle.lx_auto.proofs.LiveSets.{IsLive-needed}
use Rattle.lx_auto.proofs.SameLists.{map-Contains}
use Rattle.lx_regs.specs.declared.items.Item.{Item}
use Rattle.lx_regs.specs.declared.keys.Key.{Key}
use Rattle.lx_regs.specs.declared.reached.Pair.{Pair}
use Rattle.lx_regs.specs.Items.{AreItems, IsAcceptedBy, MayBeLeft, group_before}
use Rattle.lx_regs.specs.Keys.{held_of, key_of}
use Rattle.lx_regs.specs.LeftGroups.{AreGroups, group_left, keys_in, values_in}
use Rattle.lx_regs.specs.Readers.{read_by}
use Rattle.lx_regs.specs.Reached.{ArePairs, left_of}
use Rattle.lx_regs.proofs.LiveRegisters.FirstItems.{held_of-key_of}
use Rattle.lx_regs.proofs.LiveRegisters.PairSearch.{group_left-behind}
use Rattle.lx_regs.proofs.LiveRegisters.ReaderSteps.{read_by-Reads}

-- the group before an edge, where the one behind it is 0 or that of what was left last there
group_before-there : (own left group : ℕ) → (group ≡ 0) ⊎ (group ≡ (if nat_eq own 0 then left else own))
    → (before : ℕ) × (group_before own group ≡ Some before) × ((before ≡ 0) ⊎ (before ≡ left))
group_before-there own left group there = at (cases_eq own 0) (cases_eq group 0) there
  where
    at : (own ≡ 0) ⊎ (own ≢ 0) → (group ≡ 0) ⊎ (group ≢ 0) → (group ≡ 0) ⊎ (group ≡ (if nat_eq own 0 then left else own))
        → (before : ℕ) × (group_before own group ≡ Some before) × ((before ≡ 0) ⊎ (before ≡ left))
    at (inl none) zero_group there = (
      group,
      ap (λ b. if b then Some group else if nat_eq group 0 then Some 0 else if nat_eq own group then Some 0 else None) test,
      by
          there,
    )
      where
        test : nat_eq own 0 ≡ true
        test = eq-eqb own 0 none

        by : (group ≡ 0) ⊎ (group ≡ (if nat_eq own 0 then left else own)) → (group ≡ 0) ⊎ (group ≡ left)
        by (inl e) = inl e
        by (inr e) = inr (e ∙ ap (λ b. if b then left else own) test)
    at (inr some) (inl e) there = (
      0,
      ap (λ b. if b then Some group else if nat_eq group 0 then Some 0 else if nat_eq own group then Some 0 else None) (ne_eqb own 0 some)
          ∙ ap (λ b. if b then Some 0 else if nat_eq own group then Some 0 else None) (eq-eqb group 0 e),
      inl refl,
    )
    at (inr some) (inr apart) (inl e) = absurd (apart e)
    at (inr some) (inr apart) (inr e) =
        let same : own ≡ group = sym (e ∙ ap (λ b. if b then left else own) (ne_eqb own 0 some)) in (
          0,
          ap (λ b. if b then Some group else if nat_eq group 0 then Some 0 else if nat_eq own group then Some 0 else None)
              (ne_eqb own 0 some)
              ∙ ap (λ b. if b then Some 0 else if nat_eq own group then Some 0 else None) (ne_eqb group 0 apart)
              ∙ ap (λ b. if b then Some 0 else None) (eq-eqb own group same),
          inl refl,
        )

module _ (auto : Auto) (numbers : List ℕ) (lists : List (List Key)) (pairs : List Pair) (items : List Item)
    (groups : AreGroups auto numbers lists)
    (are_pairs : ArePairs auto numbers pairs) (are : AreItems auto numbers lists pairs items) where
  -- an item says that the register is live at the point
  abbrev pub HasItem : Point → Held → Type 0
  HasItem point held = (item : Item) × Contains items item × (item.state ≡ point.state) × (held_of item.key ≡ held)
      × ((item.group ≡ 0) ⊎ (item.group ≡ group_left numbers point.left))

  has-accepted : (point : Point) (held : Held) (accept : Accept) (value : Held) → (state_at auto point).accept ≡ Some accept
      → Contains accept.values value → Reads (effect_of accept.ops value) held → HasItem point held
  has-accepted point held accept value is has reads =
      let item : Item = record { state = point.state; group = 0; key = key_of held } in
      let read = read_by-Reads (effect_of accept.ops value) held reads ∙ ap Some (sym (held_of-key_of held)) in (
        item,
        are.begun.accepts item (subst (λ a. IsAcceptedBy point.state a item) (sym is) (value, has, (refl, refl, read))),
        refl,
        held_of-key_of held,
        inl refl,
      )

  values_left-group : (left : Option ℕ) → values_left auto left ≡ values_in lists (group_left numbers left)
  values_left-group None = refl
  values_left-group (Some state) = groups.values state

  has-left : (point : Point) (held : Held) → IsReached auto point → (state_at auto point).accept ≡ None
      → Contains (values_left auto point.left) held → HasItem point held
  has-left point held reached none has =
      let group = group_left numbers point.left in
      let (key, among, same) = map-Contains held_of (keys_in lists group) held
      (subst (λ l. Contains l held) (values_left-group point.left) has) in
      let item : Item = record { state = point.state; group = group; key = key } in (
        item,
        are.begun.left item (
          record { state = point.state; left = group },
          are_pairs.complete point reached,
          (groups.none point.state none, (key, among, refl)),
        ),
        refl,
        same,
        inr refl,
      )

  has-onward : (point : Point) (held : Held) (edge : Edge) (next : Held) → IsReached auto point → Contains (state_at auto point).edges edge
      → HasItem (point_behind auto point edge) next → Reads (effect_of_both (state_at auto point).leave edge.ops next) held
      → HasItem point held
  has-onward point held edge next reached has (item, there, state, same, group) reads =
      let own = get_or numbers point.state 0 in
      let left = group_left numbers point.left in
      let (before, is, where_before) = group_before-there own left item.group (by group) in
      let prior : Item = record { state = point.state; group = before; key = key_of held } in
      let read = ap (λ h. read_by (effect_of_both (state_at auto point).leave edge.ops h)) same
      ∙ read_by-Reads (effect_of_both (state_at auto point).leave edge.ops next) held reads ∙ ap Some (sym (held_of-key_of held)) in (
        prior,
        are.closed item prior there
            (edge, has, sym state, record { state = refl; group = is; left = may_be before where_before; read = read }),
        refl,
        held_of-key_of held,
        where_before,
      )
    where
      by : (item.group ≡ 0) ⊎ (item.group ≡ group_left numbers (left_behind auto point))
          → (item.group ≡ 0) ⊎ (item.group ≡ left_of numbers point.state (group_left numbers point.left))
      by (inl e) = inl e
      by (inr e) = inr (e ∙ group_left-behind auto numbers groups.none groups.some point)

      may_be : (before : ℕ) → (before ≡ 0) ⊎ (before ≡ group_left numbers point.left) → MayBeLeft pairs point.state before
      may_be before (inl e) = inl e
      may_be before (inr e) =
          inr (subst (λ n. Contains pairs (record { state = point.state; left = n })) (sym e) (are_pairs.complete point reached))

  HasItem-closed : IsClosed auto HasItem
  HasItem-closed = record {
    accepts = λ point held accept value reached is has reads. has-accepted point held accept value is has reads;
    falls_back = λ point held reached none has. has-left point held reached none has;
    edges = λ point held edge next reached has needed reads. has-onward point held edge next reached has needed reads;
  }

  pub live-has_item : (point : Point) (held : Held) → IsReached auto point → IsLive auto point held → HasItem point held
  live-has_item point held reached live = IsLive-needed auto HasItem HasItem-closed point held reached live
