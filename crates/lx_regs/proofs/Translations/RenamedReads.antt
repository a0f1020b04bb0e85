-- Where each operation of an automaton has a reader, so has each by other names.
use Rattle.std.proofs.Common.{◌≡◌, ℕ, List, [], ◌∷◌, Option, Some, None, refl, ◌||◌, Contains, sym, ap, ap₂, ◌∙◌, subst}
use Rattle.std.specs.Prelude.{option_map}
use Rattle.std.specs.List.{list_any}
use Rattle.lx_auto.specs.declared.automaton.Accept.{Accept}
use Rattle.lx_auto.specs.declared.automaton.Auto.{Auto}
use Rattle.lx_auto.specs.declared.automaton.Edge.{Edge}
use Rattle.lx_auto.specs.declared.automaton.Held.{Held}
use Rattle.lx_auto.specs.declared.automaton.Held.TheVariants.{Reg, MReg}
use Rattle.lx_auto.specs.declared.automaton.State.{State}
use Rattle.lx_auto.specs.declared.ops.Op.{Op}
use Rattle.lx_auto.specs.declared.ops.Op.TheVariants.{Here, Null, Copy, MHere, MNull, MCopy}
use Rattle.lx_auto.specs.Automaton.{state_of}
use Rattle.lx_auto.specs.Effects.{Names, copies_into, is_overwritten, renamed, sets, target_of}
use Rattle.lx_auto.specs.Live.{AtSomePoint, EachIsWanted, EachTargetIsRead, IsLiveBehind, IsLiveOnLeaving}
use Rattle.lx_auto.specs.Points.{Point}
use Rattle.lx_auto.proofs.SameLists.{Contains-map, map-Contains}
use Rattle.lx_regs.specs.SharedNames.{KeepApart, renamed_accept, renamed_auto, renamed_edge, renamed_op, renamed_ops}
use Rattle.lx_regs.proofs.Translations.RenamedEffects.{KeepsFrom, KeepsFromOne, KeepsFrom-first, KeepsFrom-later, mreg_test, reg_test, target_of-renamed}
use Rattle.lx_regs.proofs.Translations.RenamedInterference.{IsLiveBehind-renamed, IsLiveOnLeaving-renamed, IsReached-renamed}
use Rattle.lx_regs.proofs.Translations.RenamedWalks.{keeps-accept, keeps-edge, keeps-leave, state_of-renamed}

module _ (names : Names) where
  sets-renamed : (reg : ℕ) (op : Op) → KeepsFromOne names op (Reg reg) → sets (names.regs reg) (renamed_op names op) ≡ sets reg op
  sets-renamed reg (Here target) keeps = reg_test names reg target keeps
  sets-renamed reg (Null target) keeps = reg_test names reg target keeps
  sets-renamed reg (Copy target source) keeps = reg_test names reg target keeps
  sets-renamed reg (MHere target) keeps = refl
  sets-renamed reg (MNull target) keeps = refl
  sets-renamed reg (MCopy target source) keeps = refl

  sets_later-renamed : (reg : ℕ) (ops : List Op) → KeepsFrom names ops (Reg reg)
      → list_any (sets (names.regs reg)) (renamed_ops names ops) ≡ list_any (sets reg) ops
  sets_later-renamed reg [] keeps = refl
  sets_later-renamed reg (op ∷ ops) keeps =
      ap₂ (λ b c. b || c) (sets-renamed reg op (KeepsFrom-first names op ops (Reg reg) keeps))
      (sets_later-renamed reg ops (KeepsFrom-later names op ops (Reg reg) keeps))

  copies_into-renamed : (mreg : ℕ) (op : Op) → KeepsFromOne names op (MReg mreg)
      → copies_into (names.mregs mreg) (renamed_op names op) ≡ copies_into mreg op
  copies_into-renamed mreg (Here target) keeps = refl
  copies_into-renamed mreg (Null target) keeps = refl
  copies_into-renamed mreg (Copy target source) keeps = refl
  copies_into-renamed mreg (MHere target) keeps = refl
  copies_into-renamed mreg (MNull target) keeps = refl
  copies_into-renamed mreg (MCopy target source) keeps = mreg_test names mreg target keeps

  copies_later-renamed : (mreg : ℕ) (ops : List Op) → KeepsFrom names ops (MReg mreg)
      → list_any (copies_into (names.mregs mreg)) (renamed_ops names ops) ≡ list_any (copies_into mreg) ops
  copies_later-renamed mreg [] keeps = refl
  copies_later-renamed mreg (op ∷ ops) keeps =
      ap₂ (λ b c. b || c) (copies_into-renamed mreg op (KeepsFrom-first names op ops (MReg mreg) keeps))
      (copies_later-renamed mreg ops (KeepsFrom-later names op ops (MReg mreg) keeps))

  is_overwritten-renamed : (op : Op) (ops : List Op) → KeepsFrom names ops (target_of op)
      → is_overwritten (renamed_op names op) (renamed_ops names ops) ≡ is_overwritten op ops
  is_overwritten-renamed (Here target) ops keeps = sets_later-renamed target ops keeps
  is_overwritten-renamed (Null target) ops keeps = sets_later-renamed target ops keeps
  is_overwritten-renamed (Copy target source) ops keeps = sets_later-renamed target ops keeps
  is_overwritten-renamed (MHere target) ops keeps = refl
  is_overwritten-renamed (MNull target) ops keeps = refl
  is_overwritten-renamed (MCopy target source) ops keeps = copies_later-renamed target ops keeps

  EachIsWanted-renamed : (given answer : Auto) (IsWanted IsWantedThere : Held → Type 0) (ops : List Op)
      → ((held : Held) → IsWanted held → IsWantedThere (renamed names held)) → ((held : Held) → IsWanted held → KeepsFrom names ops held)
      → EachIsWanted given IsWanted ops → EachIsWanted answer IsWantedThere (renamed_ops names ops)
  EachIsWanted-renamed given answer IsWanted IsWantedThere [] carry keeps wanted = tt
  EachIsWanted-renamed given answer IsWanted IsWantedThere (op ∷ ops) carry keeps wanted = (
    subst IsWantedThere (sym (target_of-renamed names op)) (carry (target_of op) wanted.0),
    is_overwritten-renamed op ops (KeepsFrom-later names op ops (target_of op) (keeps (target_of op) wanted.0)) ∙ wanted.1,
    EachIsWanted-renamed given answer IsWanted IsWantedThere ops carry
        (λ held want. KeepsFrom-later names op ops held (keeps held want)) wanted.2,
  )

  -- what is accepted by other names
  pub accept-renamed_back : (theirs : Option Accept) (ours : Accept) → option_map (renamed_accept names) theirs ≡ Some ours
      → (accept : Accept) × (theirs ≡ Some accept) × (renamed_accept names accept ≡ ours)
  accept-renamed_back None ours same = absurd (cc same)
  accept-renamed_back (Some accept) ours same = (accept, refl, inner same)
    where
      inner : Some (renamed_accept names accept) ≡ Some ours → renamed_accept names accept ≡ ours
      inner equal = cc equal

module _ (auto : Auto) (names : Names) (regs mregs : ℕ) (apart : KeepApart names auto) (first : names.mregs 0 ≡ 0)
    (read : EachTargetIsRead auto) where
  abbrev answer : Auto
  answer = renamed_auto names regs mregs auto

  abbrev at : (state : ℕ) → Option ℕ → Point
  at state left = record { state = state; left = left }

  leaves : (state : ℕ) → EachIsWanted answer (λ held. AtSomePoint answer state (λ point. IsLiveOnLeaving answer point held))
      (renamed_ops names (state_of auto.states state).leave)
  leaves state =
      EachIsWanted-renamed names auto answer (λ held. AtSomePoint auto state (λ point. IsLiveOnLeaving auto point held))
      (λ held. AtSomePoint answer state (λ point. IsLiveOnLeaving answer point held)) (state_of auto.states state).leave
      (λ held (left, reached, live). (
        left,
        IsReached-renamed auto names regs mregs apart first (at state left) reached,
        IsLiveOnLeaving-renamed auto names regs mregs apart first (at state left) held reached live,
      ))
      (λ held (left, reached, live). keeps-leave auto names regs mregs apart (at state left) reached held live)
      (read.leaves state)

  edges : (state : ℕ) (edge : Edge) → Contains (state_of auto.states state).edges edge
      → EachIsWanted answer (λ held. AtSomePoint answer state (λ point. IsLiveBehind answer point (renamed_edge names edge) held))
      (renamed_ops names edge.ops)
  edges state edge has =
      EachIsWanted-renamed names auto answer (λ held. AtSomePoint auto state (λ point. IsLiveBehind auto point edge held))
      (λ held. AtSomePoint answer state (λ point. IsLiveBehind answer point (renamed_edge names edge) held)) edge.ops
      (λ held (left, reached, live). (
        left,
        IsReached-renamed auto names regs mregs apart first (at state left) reached,
        IsLiveBehind-renamed auto names regs mregs apart first (at state left) edge held reached has live,
      ))
      (λ held (left, reached, live). keeps-edge auto names regs mregs apart (at state left) reached edge held has live)
      (read.edges state edge has)

  accepts : (state : ℕ) (accept : Accept) → (state_of auto.states state).accept ≡ Some accept
      → EachIsWanted answer (λ held. AtSomePoint answer state (λ point. Contains (renamed_accept names accept).values held))
      (renamed_ops names accept.ops)
  accepts state accept is =
      EachIsWanted-renamed names auto answer (λ held. AtSomePoint auto state (λ point. Contains accept.values held))
      (λ held. AtSomePoint answer state (λ point. Contains (renamed_accept names accept).values held)) accept.ops
      (λ held (left, reached, has).
      (left, IsReached-renamed auto names regs mregs apart first (at state left) reached, Contains-map (renamed names) accept.values held has))
      (λ held (left, reached, has). keeps-accept auto names regs mregs apart (at state left) reached accept held is has)
      (read.accepts state accept is)

  pub EachTargetIsRead-renamed : EachTargetIsRead answer
  EachTargetIsRead-renamed = record {
    leaves = λ state.
        subst (λ (s : State). EachIsWanted answer (λ held. AtSomePoint answer state (λ point. IsLiveOnLeaving answer point held)) s.leave)
        (sym (state_of-renamed names auto.states state)) (leaves state);
    edges = λ state edge has.
        let found = map-Contains (renamed_edge names) (state_of auto.states state).edges edge
        (subst (λ (s : State). Contains s.edges edge) (state_of-renamed names auto.states state) has) in
        subst (λ (e : Edge). EachIsWanted answer (λ held. AtSomePoint answer state (λ point. IsLiveBehind answer point e held)) e.ops) found.2
        (edges state found.0 found.1);
    accepts = λ state accept is.
        let found = accept-renamed_back names (state_of auto.states state).accept accept
        (ap (λ (s : State). s.accept) (sym (state_of-renamed names auto.states state)) ∙ is) in
        subst (λ (a : Accept). EachIsWanted answer (λ held. AtSomePoint answer state (λ point. Contains a.values held)) a.ops) found.2
        (accepts state found.0 found.1);
  }
