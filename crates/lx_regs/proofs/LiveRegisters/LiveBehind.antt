-- What is live behind an edge, from what is kept of the live registers.
use Rattle.std.proofs.Common.{◌≡◌, ℕ, ◌<◌, ◌⊎◌, inl, inr, true, false, List, Option, get_or, length, nat_eq, if◌then◌else◌, sym, ap, ◌∙◌, subst}
use Rattle.std.specs.Bool.{MatchBool}
use Rattle.std.specs.Prelude.{◌≢◌, Contains}
use Rattle.std.proofs.lemmas.Bool.{cases_eq, eq-eqb, ne_eqb}
use Rattle.lx_auto.specs.declared.automaton.Auto.{Auto}
use Rattle.lx_auto.specs.declared.automaton.Edge.{Edge}
use Rattle.lx_auto.specs.declared.automaton.Held.{Held}
use Rattle.lx_auto.specs.Automaton.{IsAuto, state_of}
use Rattle.lx_auto.specs.Live.{AtSomePoint, IsLiveBehind}
use Rattle.lx_auto.specs.Points.{Point, IsReached, goes_on, left_behind}
use Rattle.lx_regs.specs.declared.items.Item.{Item}
use Rattle.lx_regs.specs.declared.live.Liveness.{Liveness}
use Rattle.lx_regs.specs.Items.{IsWhere, MayBeLeft}
use Rattle.lx_regs.specs.LeftGroups.{group_left}
use Rattle.lx_regs.specs.LiveSets.{AreLiveBehind, IsLivenessOf}
use Rattle.lx_regs.specs.Liveness.{AreHeldBehind, MayBeThere, usages_at}
use Rattle.lx_regs.specs.Reached.{IsPair}
use Rattle.lx_regs.proofs.LiveRegisters.LiveItems.{live-has_item}
use Rattle.lx_regs.proofs.LiveRegisters.PairSearch.{edge-within, group_left-behind}

module _ (auto : Auto) (formed : IsAuto auto) (liveness : Liveness) (is : IsLivenessOf auto liveness) (state : ℕ) (edge : Edge)
    (has : Contains (state_of auto.states state).edges edge) where
  abbrev own : ℕ
  own = get_or liveness.numbers.items state 0

  abbrev point_at : Option ℕ → Point
  point_at left = record { state = state; left = left }

  -- behind the edge
  left-there : (left : Option ℕ) → group_left liveness.numbers.items (left_behind auto (point_at left))
      ≡ (if nat_eq own 0 then group_left liveness.numbers.items left else own)
  left-there left = group_left-behind auto liveness.numbers.items is.groups.none is.groups.some (point_at left)

  -- a point at which one of the group was left last, or any where the group is 0
  abbrev Somewhere : ℕ → Type 0
  Somewhere group = (left : Option ℕ) × IsReached auto (point_at left) × IsWhere liveness.numbers.items group
      (left_behind auto (point_at left))

  somewhere : (group : ℕ) → (left : ℕ) × Contains liveness.pairs (record { state = state; left = left })
      → MayBeThere liveness.numbers.items liveness.pairs state group → Somewhere group
  somewhere group (any, there) may_be = at (is.pairs.sound (record { state = state; left = any }) there) (cases_eq own 0) may_be
    where
      at : IsPair auto liveness.numbers.items (record { state = state; left = any }) → (own ≡ 0) ⊎ (own ≢ 0)
          → MatchBool (nat_eq own 0) (MayBeLeft liveness.pairs state group) ((group ≡ 0) ⊎ (group ≡ own)) → Somewhere group
      at (left, reached, same) (inl none) may_be =
          by (subst (λ b. MatchBool b (MayBeLeft liveness.pairs state group) ((group ≡ 0) ⊎ (group ≡ own))) (eq-eqb own 0 none) may_be)
        where
          by : MayBeLeft liveness.pairs state group → Somewhere group
          by (inl e) = (left, reached, λ some. absurd (some e))
          by (inr pair) = let (other, comes, is_group) = is.pairs.sound (record { state = state; left = group }) pair in (
            other,
            comes,
            λ some. left-there other ∙ ap (λ b. if b then group_left liveness.numbers.items other else own)
                (eq-eqb own 0 none) ∙ is_group,
          )
      at (left, reached, same) (inr some_own) may_be =
          by (subst (λ b. MatchBool b (MayBeLeft liveness.pairs state group) ((group ≡ 0) ⊎ (group ≡ own))) (ne_eqb own 0 some_own) may_be)
        where
          by : (group ≡ 0) ⊎ (group ≡ own) → Somewhere group
          by (inl e) = (left, reached, λ some. absurd (some e))
          by (inr e) = (
            left,
            reached,
            λ some. left-there left ∙ ap (λ b. if b then group_left liveness.numbers.items left else own)
                (ne_eqb own 0 some_own) ∙ sym e,
          )

  there : (left : Option ℕ) → IsReached auto (point_at left) → (group : ℕ)
      → (group ≡ 0) ⊎ (group ≡ group_left liveness.numbers.items (left_behind auto (point_at left)))
      → MayBeThere liveness.numbers.items liveness.pairs state group
  there left reached group where_group = at (cases_eq own 0) where_group
    where
      pair : Contains liveness.pairs (record { state = state; left = group_left liveness.numbers.items left })
      pair = is.pairs.complete (point_at left) reached

      put_true : MayBeLeft liveness.pairs state group → own ≡ 0 → MayBeThere liveness.numbers.items liveness.pairs state group
      put_true may_be none = subst (λ b. MatchBool b (MayBeLeft liveness.pairs state group) ((group ≡ 0) ⊎ (group ≡ own)))
          (sym (eq-eqb own 0 none)) may_be

      put_false : (group ≡ 0) ⊎ (group ≡ own) → own ≢ 0 → MayBeThere liveness.numbers.items liveness.pairs state group
      put_false may_be some = subst (λ b. MatchBool b (MayBeLeft liveness.pairs state group) ((group ≡ 0) ⊎ (group ≡ own)))
          (sym (ne_eqb own 0 some)) may_be

      at : (own ≡ 0) ⊎ (own ≢ 0) → (group ≡ 0) ⊎ (group ≡ group_left liveness.numbers.items (left_behind auto (point_at left)))
          → MayBeThere liveness.numbers.items liveness.pairs state group
      at (inl none) (inl e) = put_true (inl e) none
      at (inr some) (inl e) = put_false (inl e) some
      at (inl none) (inr e) =
          let same : group ≡ group_left liveness.numbers.items left =
          e ∙ left-there left ∙ ap (λ b. if b then group_left liveness.numbers.items left else own) (eq-eqb own 0 none) in
          put_true (inr (subst (λ n. Contains liveness.pairs (record { state = state; left = n })) (sym same) pair)) none
      at (inr some) (inr e) =
          put_false (inr (e ∙ left-there left ∙ ap (λ b. if b then group_left liveness.numbers.items left else own) (ne_eqb own 0 some)))
          some

  pub live-behind : (registers : List Held) → get_or liveness.marks.items state false ≡ true
      → AreHeldBehind liveness.numbers.items liveness.pairs state (usages_at liveness.usages.items edge.to) registers
      → AreLiveBehind auto state edge registers
  live-behind registers marked behind = record { sound = sound; complete = complete }
    where
      sound : (held : Held) → Contains registers held → AtSomePoint auto state (λ point. IsLiveBehind auto point edge held)
      sound held among =
          let (usage, has_usage, same, may_be) = behind.sound held among in
          let item : Item = record { state = edge.to; group = usage.group; key = usage.key } in
          let right = is.live.begun.sound item (is.usages.sound edge.to usage has_usage) in
          let (left, reached, is_where) = somewhere usage.group (is.marks.sound state marked) may_be in (
            left,
            reached,
            subst (λ h. IsLiveBehind auto (point_at left) edge h) same
                (right.live (left_behind auto (point_at left)) is_where),
          )

      complete : (held : Held) → AtSomePoint auto state (λ point. IsLiveBehind auto point edge held) → Contains registers held
      complete held (left, reached, live) =
          let (item, among, from, same, where_item) =
          live-has_item auto liveness.numbers.items is.lists liveness.pairs is.items is.groups is.pairs is.live
          (record { state = edge.to; left = left_behind auto (point_at left) }) held (goes_on (point_at left) edge reached has) live in
          let within : item.state < length auto.states = subst (λ s. s < length auto.states) (sym from)
          (edge-within auto state edge formed has) in
          let usage = subst (λ s. Contains (usages_at liveness.usages.items s) (record { group = item.group; key = item.key })) from
          (is.usages.complete item within among) in
          subst (Contains registers) same
          (behind.complete (record { group = item.group; key = item.key }) usage (there left reached item.group where_item))
