-- A merge keeps that each operation is read, and that registers interfere.
use Rattle.std.proofs.Common.{◌≡◌, inl, inr, ℕ, zero, suc, ◌<◌, ◌≤◌, List, [], ◌∷◌, length, Option, Some, None, refl, Contains, sym, ap, ◌∙◌, subst, arith}
use Rattle.std.proofs.lemmas.Bool.{cases_lt}
use Rattle.std.specs.Prelude.{option_map}
use Rattle.lx_auto.specs.declared.automaton.Accept.{Accept}
use Rattle.lx_auto.specs.declared.automaton.Auto.{Auto}
use Rattle.lx_auto.specs.declared.automaton.Edge.{Edge}
use Rattle.lx_auto.specs.declared.automaton.Held.{Held}
use Rattle.lx_auto.specs.declared.automaton.Held.TheVariants.{Reg, MReg}
use Rattle.lx_auto.specs.declared.automaton.State.{State}
use Rattle.lx_auto.specs.declared.ops.Op.{Op}
use Rattle.lx_auto.specs.Automaton.{IsAuto, state_of}
use Rattle.lx_auto.specs.Effects.{Alters, target_of}
use Rattle.lx_auto.specs.Live.{AllInterfere, AtSomePoint, EachIsWanted, EachTargetIsRead, Interfere, IsAlteredBeside, IsLiveBehind, IsLiveOnLeaving, on_accept, on_edge, on_leaving}
use Rattle.lx_auto.specs.Points.{IsReached, Point, state_at}
use Rattle.lx_auto.specs.ToldApart.{AcceptTheSame}
use Rattle.lx_min.specs.Merges.{Classes, IsMerge}
use Rattle.lx_min.proofs.MergedStates.{accept-unmoved, class-of_accept, class-of_edge, edge-unmoved}
use Rattle.lx_min.proofs.SameEffects.{Alters-done}
use Rattle.lx_min.proofs.Merges.{IsLiveBehind-merged, IsLiveOnLeaving-merged, IsReached-merged, accept-merged, edge-merged, image_of}

-- each operation of a list writes what is wanted at some point to which a walk comes with the state
abbrev AreWantedAt : Auto → (state : ℕ) → (Point → Held → Type 0) → List Op → Type 0
AreWantedAt auto state Holds ops = EachIsWanted auto (λ held. AtSomePoint auto state (λ point. Holds point held)) ops

no_leave : (states : List State) (number : ℕ) → length states ≤ number → (state_of states number).leave ≡ []
no_leave [] number past = refl
no_leave (state ∷ states) zero past = absurd (omega arith)
no_leave (state ∷ states) (suc number) past = no_leave states number (omega arith)

module _ (given answer : Auto) (classes : Classes) (is : IsMerge given answer classes) (formed : IsAuto given) where
  abbrev image : Point → Point
  image = image_of given answer classes is formed

  abbrev at_chosen : (state : ℕ) → (left : Option ℕ) → Point
  at_chosen state left = record { state = classes.chosen state; left = left }

  -- where what holds at points of the chosen state holds in the answer at their images
  module _ (state : ℕ) (within : state < classes.count) (Holds AlsoHolds : Point → Held → Type 0)
      (onward : (left : Option ℕ) (held : Held) → IsReached given (at_chosen state left) → Holds (at_chosen state left) held
      → AlsoHolds (image (at_chosen state left)) held) where
    AtSomePoint-merged : (held : Held) → AtSomePoint given (classes.chosen state) (λ point. Holds point held)
        → AtSomePoint answer state (λ point. AlsoHolds point held)
    AtSomePoint-merged held (left, reached, holds) =
        let other = option_map classes.of left in (
          other,
          subst (λ s. IsReached answer (record { state = s; left = other })) (is.are.chosen state within).1
              (IsReached-merged given answer classes is formed (at_chosen state left) reached),
          subst (λ s. AlsoHolds (record { state = s; left = other }) held) (is.are.chosen state within).1 (onward left held reached holds),
        )

    AreWantedAt-merged : (ops : List Op) → AreWantedAt given (classes.chosen state) Holds ops → AreWantedAt answer state AlsoHolds ops
    AreWantedAt-merged [] wanted = tt
    AreWantedAt-merged (op ∷ ops) wanted =
        (AtSomePoint-merged (target_of op) wanted.0, wanted.1, AreWantedAt-merged ops wanted.2)

  module _ (read : EachTargetIsRead given) where
    leaves-read : (state : ℕ) → AreWantedAt answer state (IsLiveOnLeaving answer) (state_of answer.states state).leave
    leaves-read state = elim (cases_lt state classes.count) [
      | inl within ↦
          subst (λ (s : State). AreWantedAt answer state (IsLiveOnLeaving answer) s.leave) (sym (is.states state within))
          (AreWantedAt-merged state within (IsLiveOnLeaving given) (IsLiveOnLeaving answer)
          (λ left held reached live. IsLiveOnLeaving-merged given answer classes is formed (at_chosen state left) held reached live)
          (state_of given.states (classes.chosen state)).leave (read.leaves (classes.chosen state)))
      | inr past ↦
          let count : length answer.states ≡ classes.count = is.count in
          subst (AreWantedAt answer state (IsLiveOnLeaving answer)) (sym (no_leave answer.states state (omega arith))) tt
    ]

    edges-read : (state : ℕ) (edge : Edge) → Contains (state_of answer.states state).edges edge
        → AreWantedAt answer state (λ point. IsLiveBehind answer point edge) edge.ops
    edges-read state edge has =
        let source = edge-unmoved given answer classes is state edge has in
        let target : edge.to ≡ classes.of (source.0).to = ap (λ (e : Edge). e.to) (sym source.2) in
        subst (AreWantedAt answer state (λ point. IsLiveBehind answer point edge)) (ap (λ (e : Edge). e.ops) source.2)
        (AreWantedAt-merged state (class-of_edge given answer classes is state edge has) (λ point. IsLiveBehind given point source.0)
        (λ point. IsLiveBehind answer point edge)
        (λ left held reached live.
        IsLiveBehind-merged given answer classes is formed (at_chosen state left) source.0 edge held reached source.1 target live)
        (source.0).ops (read.edges (classes.chosen state) source.0 source.1))

    accepts-read : (state : ℕ) (accept : Accept) → (state_of answer.states state).accept ≡ Some accept
        → AreWantedAt answer state (λ point held. Contains accept.values held) accept.ops
    accepts-read state accept accepts =
        AreWantedAt-merged state (class-of_accept given answer classes is state accept accepts)
        (λ point held. Contains accept.values held) (λ point held. Contains accept.values held) (λ left held reached has. has) accept.ops
        (read.accepts (classes.chosen state) accept (accept-unmoved given answer classes is state accept accepts))

    pub EachTargetIsRead-merged : EachTargetIsRead answer
    EachTargetIsRead-merged = record { leaves = leaves-read; edges = edges-read; accepts = accepts-read }

  beside-on_accept : (point : Point) (held other : Held) (accept : Accept) (theirs ours : Option Accept) → IsReached given point
      → theirs ≡ Some accept → (state_at answer (image point)).accept ≡ ours → AcceptTheSame theirs ours → Alters accept.ops held
      → Contains accept.values other → IsAlteredBeside answer held other
  beside-on_accept point held other accept None ours reached accepts others same alters has = absurd (cc accepts)
  beside-on_accept point held other accept (Some theirs) None reached accepts others same alters has = absurd same
  beside-on_accept point held other accept (Some theirs) (Some ours) reached accepts others same alters has =
      let one : theirs ≡ accept = cc accepts in
      on_accept (image point) ours (IsReached-merged given answer classes is formed point reached) others
      (Alters-done theirs.ops ours.ops same.2 held (subst (λ (a : Accept). Alters a.ops held) (sym one) alters))
      (subst (λ values. Contains values other) (ap (λ (a : Accept). a.values) (sym one) ∙ same.1) has)

  IsAlteredBeside-merged : (held other : Held) → IsAlteredBeside given held other → IsAlteredBeside answer held other
  IsAlteredBeside-merged held other (on_leaving point reached alters live) =
      let edge = live.0 in
      let found = edge-merged given answer classes is formed point.state (point.left, reached) edge live.2 in
      on_leaving (image point) (IsReached-merged given answer classes is formed point reached)
      (Alters-done (state_at given point).leave (state_at answer (image point)).leave found.2 held alters)
      (IsLiveOnLeaving-merged given answer classes is formed point other reached live)
  IsAlteredBeside-merged held other (on_edge point edge reached has alters live) =
      let found = edge-merged given answer classes is formed point.state (point.left, reached) edge has in
      on_edge (image point) found.0 (IsReached-merged given answer classes is formed point reached) found.1
      (Alters-done edge.ops (found.0).ops found.3 held alters)
      (IsLiveBehind-merged given answer classes is formed point edge found.0 other reached has found.4 live)
  IsAlteredBeside-merged held other (on_accept point accept reached accepts alters has) =
      beside-on_accept point held other accept (state_at given point).accept (state_at answer (image point)).accept reached accepts refl
      (accept-merged given answer classes is formed point.state (point.left, reached)) alters has

  Interfere-merged : (held other : Held) → Interfere given held other → Interfere answer held other
  Interfere-merged held other (inl beside) = inl (IsAlteredBeside-merged held other beside)
  Interfere-merged held other (inr beside) = inr (IsAlteredBeside-merged other held beside)

  pub AllInterfere-merged : AllInterfere given → AllInterfere answer
  AllInterfere-merged all = record {
    regs = λ reg other within also apart.
        Interfere-merged (Reg reg) (Reg other)
        (all.regs reg other (subst (λ count. reg < count) is.regs within) (subst (λ count. other < count) is.regs also) apart);
    mregs = λ mreg other positive within above also apart.
        Interfere-merged (MReg mreg) (MReg other)
        (all.mregs mreg other positive (subst (λ count. mreg < count) is.mregs within) above
        (subst (λ count. other < count) is.mregs also) apart);
  }
