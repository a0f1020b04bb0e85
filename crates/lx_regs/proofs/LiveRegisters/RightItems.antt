-- The items that are found are right: each register is live wherever it says.
use Rattle.std.proofs.Common.{◌≡◌, ℕ, zero, suc, ◌<◌, ◌≤◌, ◌⊎◌, inl, inr, arith, true, false, List, [], ◌∷◌, Option, Some, None, length, get_or, nat_eq, if◌then◌else◌, refl, sym, ap, ◌∙◌, subst}
use Rattle.std.specs.Prelude.{◌≢◌, Contains}
use Rattle.std.proofs.lemmas.Bool.{cases_eq, cases_lt, eq-eqb, ne_eqb}
use Rattle.std.proofs.lemmas.List.{get_or_past}
use Rattle.lx_auto.specs.declared.automaton.Accept.{Accept}
use Rattle.lx_auto.specs.declared.automaton.Auto.{Auto}
use Rattle.lx_auto.specs.declared.automaton.Edge.{Edge}
use Rattle.lx_auto.specs.declared.automaton.State.{State}
use Rattle.lx_auto.specs.Automaton.{AreHeld, IsAccept, IsAuto, LeadWithin, AreOps, state_of}
use Rattle.lx_auto.specs.Effects.{effect_of, effect_of_both}
use Rattle.lx_auto.specs.Live.{IsLive, by_accept, by_fallback, onward}
use Rattle.lx_auto.specs.Points.{Point, left_behind, point_behind, values_left, values_of}
use Rattle.lx_auto.proofs.SameLists.{Contains-map}
use Rattle.lx_auto.proofs.States.{state_formed}
use Rattle.lx_regs.specs.declared.items.Item.{Item}
use Rattle.lx_regs.specs.declared.keys.Key.{Key}
use Rattle.lx_regs.specs.declared.reached.Pair.{Pair}
use Rattle.lx_regs.specs.Growth.{Grows, IsDueForSome}
use Rattle.lx_regs.specs.Items.{IsAccepted, IsAcceptedBy, IsBegun, IsItem, IsLeft, IsPrior, IsWhere, MayBeLeft, group_before}
use Rattle.lx_regs.specs.Keys.{held_of}
use Rattle.lx_regs.specs.LeftGroups.{AreGroups, group_left, keys_in, values_in}
use Rattle.lx_regs.specs.Reached.{IsPair}
use Rattle.lx_regs.proofs.LiveRegisters.FirstItems.{accepted-within}
use Rattle.lx_regs.proofs.LiveRegisters.FormedReads.{held-among, held-read, there-of, there-of_both}
use Rattle.lx_regs.proofs.LiveRegisters.GrownLists.{grown-has}
use Rattle.lx_regs.proofs.LiveRegisters.PairSearch.{group_left-behind, group_left-listed, reached-within}
use Rattle.lx_regs.proofs.LiveRegisters.ReaderSteps.{Reads-read_by}

module _ (auto : Auto) (formed : IsAuto auto) (numbers : List ℕ) (lists : List (List Key)) (groups : AreGroups auto numbers lists) where
  -- ---- of what is accepted

  pub right-accepted : (item : Item) → IsAccepted auto item → IsItem auto numbers item
  right-accepted item is = at (state_of auto.states item.state).accept refl is (state_formed auto item.state formed).accept
    where
      at : (accept : Option Accept) → (state_of auto.states item.state).accept ≡ accept → IsAcceptedBy item.state accept item
          → IsAccept auto.regs auto.mregs accept → IsItem auto numbers item
      at None same by there = absurd by
      at (Some accept) same (value, has, (from, group, read)) there = record {
        live = λ left is_where. by_accept (record { state = item.state; left = left }) (held_of item.key) accept value same has
            (Reads-read_by (effect_of accept.ops value) (held_of item.key) read);
        state = accepted-within auto item is (cases_lt item.state (length auto.states));
        held = held-read auto.regs auto.mregs (effect_of accept.ops value) (held_of item.key)
            (there-of auto.regs auto.mregs accept.ops value there.0 (held-among auto.regs auto.mregs accept.values value there.1 has)) read;
        group = subst (λ n. Contains (0 ∷ numbers) n) (sym group) (0, omega arith, refl);
      }

  -- ---- of what was left

  pub values_left-group : (left : Option ℕ) → values_left auto left ≡ values_in lists (group_left numbers left)
  values_left-group None = refl
  values_left-group (Some state) = groups.values state

  values_left-held : (left : Option ℕ) → AreHeld auto.regs auto.mregs (values_left auto left)
  values_left-held None = tt
  values_left-held (Some state) = at (state_of auto.states state).accept (state_formed auto state formed).accept
    where
      at : (accept : Option Accept) → IsAccept auto.regs auto.mregs accept → AreHeld auto.regs auto.mregs (values_of accept)
      at None there = tt
      at (Some accept) there = there.1

  keys_in-some : (group : ℕ) (key : Key) → Contains (keys_in lists group) key → group ≢ 0
  keys_in-some zero key has e = absurd (omega (arith, has.1))
  keys_in-some (suc group) key has e = absurd (omega arith)

  pub right-left : (pair : Pair) (item : Item) → IsPair auto numbers pair → IsLeft numbers lists pair item → IsItem auto numbers item
  right-left pair item (left, reached, group) (none, (key, has, is)) = subst (λ i. IsItem auto numbers i) (sym is) (record {
    live = λ other is_where. by_fallback (record { state = pair.state; left = other }) (held_of key) (groups.some pair.state none)
        (subst (λ l. Contains l (held_of key))
        (sym (values_left-group other ∙ ap (values_in lists) (is_where (keys_in-some pair.left key has)))) among);
    state = reached-within auto (record { state = pair.state; left = left }) formed reached;
    held = held-among auto.regs auto.mregs (values_left auto left) (held_of key) (values_left-held left)
        (subst (λ l. Contains l (held_of key)) (sym (values_left-group left ∙ ap (values_in lists) group)) among);
    group = subst (λ n. Contains (0 ∷ numbers) n) group (group_left-listed auto numbers left);
  })
    where
      among : Contains (values_in lists pair.left) (held_of key)
      among = Contains-map held_of (keys_in lists pair.left) key has

  -- ---- of what is live before an edge

  edge-ops : (edges : List Edge) (edge : Edge) → LeadWithin auto.regs auto.mregs (length auto.states) edges → Contains edges edge
      → AreOps auto.regs auto.mregs edge.ops
  edge-ops [] edge lead has = absurd (omega (arith, has.1))
  edge-ops (first ∷ edges) edge lead (zero, within, is) = subst (λ (e : Edge). AreOps auto.regs auto.mregs e.ops) is lead.1
  edge-ops (first ∷ edges) edge lead (suc place, within, is) = edge-ops edges edge lead.2 (place, omega arith, is)

  pub state-within : (state : ℕ) (edge : Edge) → Contains (state_of auto.states state).edges edge → state < length auto.states
  state-within state edge has = at (cases_lt state (length auto.states))
    where
      at : (state < length auto.states) ⊎ (length auto.states ≤ state) → state < length auto.states
      at (inl lt) = lt
      at (inr past) = absurd
          (let none : Contains [] edge =
          subst (λ (s : State). Contains s.edges edge)
          (get_or_past auto.states state (record { edges = []; accept = None; leave = [] }) past) has in
          omega (arith, none.1))

  -- behind an edge a state of the group was left last, if before it one was where the group before it says
  where-behind : (own group before : ℕ) (left : ℕ) → group_before own group ≡ Some before → (before ≢ 0 → left ≡ before) → group ≢ 0
      → (if nat_eq own 0 then left else own) ≡ group
  where-behind own group before left is is_where some = at (cases_eq own 0)
    where
      at : (own ≡ 0) ⊎ (own ≢ 0) → (if nat_eq own 0 then left else own) ≡ group
      at (inl none) =
          let test : nat_eq own 0 ≡ true = eq-eqb own 0 none in
          let same : Some group ≡ Some before =
          ap (λ b. if b then Some group else if nat_eq group 0 then Some 0 else if nat_eq own group then Some 0 else None) (sym test) ∙ is
          in
          let equal : group ≡ before = cc same in
          ap (λ b. if b then left else own) test ∙ is_where (λ e. some (equal ∙ e)) ∙ sym equal
      at (inr there) =
          let test : nat_eq own 0 ≡ false = ne_eqb own 0 there in
          let test_group : nat_eq group 0 ≡ false = ne_eqb group 0 some in
          let same : (if nat_eq own group then Some 0 else None) ≡ Some before =
          ap (λ b. if b then Some 0 else if nat_eq own group then Some 0 else None) (sym test_group)
          ∙ ap (λ b. if b then Some group else if nat_eq group 0 then Some 0 else if nat_eq own group then Some 0 else None) (sym test) ∙ is
          in
          ap (λ b. if b then left else own) test ∙ by (cases_eq own group) same
        where
          by : (own ≡ group) ⊎ (own ≢ group) → (if nat_eq own group then Some 0 else None) ≡ Some before → own ≡ group
          by (inl e) same = e
          by (inr apart) same = absurd
              (let none : None ≡ Some before = ap (λ b. if b then Some 0 else None) (sym (ne_eqb own group apart)) ∙ same in cc none)

  pub right-prior : (pairs : List Pair) → ((pair : Pair) → Contains pairs pair → IsPair auto numbers pair) → (item prior : Item)
      → IsItem auto numbers item → IsPrior auto numbers pairs item prior → IsItem auto numbers prior
  right-prior pairs sound item prior right (edge, has, to, passes) = record {
    live = λ left is_where. onward (record { state = prior.state; left = left }) (held_of prior.key) edge (held_of item.key) has
        (behind left is_where)
        (Reads-read_by (effect_of_both (state_of auto.states prior.state).leave edge.ops (held_of item.key)) (held_of prior.key)
        passes.read);
    state = state-within prior.state edge has;
    held = held-read auto.regs auto.mregs (effect_of_both (state_of auto.states prior.state).leave edge.ops (held_of item.key))
        (held_of prior.key)
        (there-of_both auto.regs auto.mregs (state_of auto.states prior.state).leave edge.ops (held_of item.key)
        (state_formed auto prior.state formed).leave
        (edge-ops (state_of auto.states prior.state).edges edge (state_formed auto prior.state formed).lead has) right.held) passes.read;
    group = listed passes.left;
  }
    where
      listed : MayBeLeft pairs prior.state prior.group → Contains (0 ∷ numbers) prior.group
      listed (inl none) = subst (λ n. Contains (0 ∷ numbers) n) (sym none) (0, omega arith, refl)
      listed (inr there) = let (left, reached, group) = sound (record { state = prior.state; left = prior.group }) there in
          subst (λ n. Contains (0 ∷ numbers) n) group (group_left-listed auto numbers left)

      behind : (left : Option ℕ) → IsWhere numbers prior.group left
          → IsLive auto (point_behind auto (record { state = prior.state; left = left }) edge) (held_of item.key)
      behind left is_where =
          let point : Point = record { state = prior.state; left = left } in
          subst (λ s. IsLive auto (record { state = s; left = left_behind auto point }) (held_of item.key)) (sym to)
          (right.live (left_behind auto point)
          (λ some. group_left-behind auto numbers groups.none groups.some point
          ∙ where-behind (get_or numbers prior.state 0) item.group prior.group (group_left numbers left) passes.group is_where some))

  -- ---- of all that is live to begin with

  pub begun : (pairs : List Pair) → ((pair : Pair) → Contains pairs pair → IsPair auto numbers pair) → (none accepts all : List Item)
      → none ≡ []
      → Grows (IsAccepted auto) none accepts → Grows (IsDueForSome pairs (IsLeft numbers lists)) accepts all
      → IsBegun auto numbers lists pairs all
  begun pairs sound none accepts all empty first second = record {
    sound = λ item has. from_left item (second.sound item has);
    accepts = λ item is. grown-has (IsDueForSome pairs (IsLeft numbers lists)) accepts all second item (first.complete item is);
    left = λ item is. second.complete item is;
  }
    where
      from_accepts : (item : Item) → Contains none item ⊎ IsAccepted auto item → IsItem auto numbers item
      from_accepts item (inl has) = absurd (let n = ap length empty in omega (arith, n, has.1))
      from_accepts item (inr is) = right-accepted item is

      from_left : (item : Item) → Contains accepts item ⊎ IsDueForSome pairs (IsLeft numbers lists) item → IsItem auto numbers item
      from_left item (inl has) = from_accepts item (first.sound item has)
      from_left item (inr (pair, has, is)) = right-left pair item (sound pair has) is
