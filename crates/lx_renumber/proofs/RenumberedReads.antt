-- What is read, and what interferes, in an automaton with greater numbers of rules.
use Rattle.std.proofs.Common.{◌≡◌, inl, inr, ℕ, List, [], ◌∷◌, Option, Some, None, refl, Contains, sym, ap, ◌∙◌, subst}
use Rattle.std.specs.Prelude.{option_map}
use Rattle.lx_auto.specs.declared.automaton.Accept.{Accept}
use Rattle.lx_auto.specs.declared.automaton.Auto.{Auto}
use Rattle.lx_auto.specs.declared.automaton.Edge.{Edge}
use Rattle.lx_auto.specs.declared.automaton.Held.{Held}
use Rattle.lx_auto.specs.declared.automaton.Held.TheVariants.{Reg, MReg}
use Rattle.lx_auto.specs.declared.ops.Op.{Op}
use Rattle.lx_auto.specs.Automaton.{state_of}
use Rattle.lx_auto.specs.Effects.{Alters, Reads, effect_of_both}
use Rattle.lx_auto.specs.Live.{AllInterfere, AtSomePoint, EachIsWanted, EachTargetIsRead, Interfere, IsAlteredBeside, IsLive, IsLiveBehind, IsLiveOnLeaving, by_accept, by_fallback, onward, on_accept, on_edge, on_leaving}
use Rattle.lx_auto.specs.Points.{IsReached, Point, begins, goes_on, left_by, point_behind, state_at, values_left, values_of}
use Rattle.lx_renumber.proofs.Images.{option_map-some}
use Rattle.lx_renumber.proofs.RenumberedStates.{accept-renumbered, edges-renumbered, leave-renumbered}
use Rattle.lx_renumber.specs.Renumbered.{renumbered, renumbered_accept}

module _ (by : ℕ) where
  values_of-renumbered : (accept : Option Accept) → values_of (option_map (renumbered_accept by) accept) ≡ values_of accept
  values_of-renumbered None = refl
  values_of-renumbered (Some accept) = refl

  left_by-renumbered : (accept : Option Accept) (point : Point) → left_by (option_map (renumbered_accept by) accept) point ≡ left_by accept point
  left_by-renumbered None point = refl
  left_by-renumbered (Some accept) point = refl

  module _ (auto : Auto) where
    abbrev copy : Auto
    copy = renumbered by auto

    accepts-also : (state : ℕ) (accept : Accept) → (state_of auto.states state).accept ≡ Some accept
        → (state_of copy.states state).accept ≡ Some (renumbered_accept by accept)
    accepts-also state accept accepts = accept-renumbered by auto state ∙ ap (option_map (renumbered_accept by)) accepts

    values_left-renumbered : (left : Option ℕ) → values_left copy left ≡ values_left auto left
    values_left-renumbered None = refl
    values_left-renumbered (Some state) =
        ap values_of (accept-renumbered by auto state) ∙ values_of-renumbered (state_of auto.states state).accept

    point_behind-renumbered : (point : Point) (edge : Edge) → point_behind auto point edge ≡ point_behind copy point edge
    point_behind-renumbered point edge =
        ap (λ left. record { state = edge.to; left = left })
        (sym (ap (λ accept. left_by accept point) (accept-renumbered by auto point.state) ∙ left_by-renumbered (state_at auto point).accept point))

    has-also : (state : ℕ) (edge : Edge) → Contains (state_of auto.states state).edges edge → Contains (state_of copy.states state).edges edge
    has-also state edge has = subst (λ edges. Contains edges edge) (sym (edges-renumbered by auto state)) has

    pub IsReached-renumbered : (point : Point) → IsReached auto point → IsReached copy point
    IsReached-renumbered _ begins = begins
    IsReached-renumbered _ (goes_on point edge reached has) =
        subst (IsReached copy) (sym (point_behind-renumbered point edge))
        (goes_on point edge (IsReached-renumbered point reached) (has-also point.state edge has))

    IsLive-renumbered : (point : Point) (held : Held) → IsLive auto point held → IsLive copy point held
    IsLive-renumbered _ _ (by_accept point held accept value accepts has reads) =
        by_accept point held (renumbered_accept by accept) value (accepts-also point.state accept accepts) has reads
    IsLive-renumbered _ _ (by_fallback point held accepts has) =
        by_fallback point held (accept-renumbered by auto point.state ∙ ap (option_map (renumbered_accept by)) accepts)
        (subst (λ values. Contains values held) (sym (values_left-renumbered point.left)) has)
    IsLive-renumbered _ _ (onward point held edge next has live reads) =
        onward point held edge next (has-also point.state edge has)
        (subst (λ behind. IsLive copy behind next) (point_behind-renumbered point edge)
        (IsLive-renumbered (point_behind auto point edge) next live))
        (subst (λ ops. Reads (effect_of_both ops edge.ops next) held) (sym (leave-renumbered by auto point.state)) reads)

    IsLiveBehind-renumbered : (point : Point) (edge : Edge) (held : Held) → IsLiveBehind auto point edge held → IsLiveBehind copy point edge held
    IsLiveBehind-renumbered point edge held live =
        subst (λ behind. IsLive copy behind held) (point_behind-renumbered point edge)
        (IsLive-renumbered (point_behind auto point edge) held live)

    IsLiveOnLeaving-renumbered : (point : Point) (held : Held) → IsLiveOnLeaving auto point held → IsLiveOnLeaving copy point held
    IsLiveOnLeaving-renumbered point held (edge, next, has, live, reads) =
        (edge, next, has-also point.state edge has, IsLiveBehind-renumbered point edge next live, reads)

    -- what is wanted at a point of the automaton is wanted there in the one with greater numbers
    EachIsWanted-renumbered : (state : ℕ) (Holds AlsoHolds : Point → Held → Type 0)
        → ((point : Point) (held : Held) → Holds point held → AlsoHolds point held) → (ops : List Op)
        → EachIsWanted auto (λ held. AtSomePoint auto state (λ point. Holds point held)) ops
        → EachIsWanted copy (λ held. AtSomePoint copy state (λ point. AlsoHolds point held)) ops
    EachIsWanted-renumbered state Holds AlsoHolds also [] wanted = tt
    EachIsWanted-renumbered state Holds AlsoHolds also (op ∷ ops) ((left, reached, holds), kept, rest) =
        let point : Point = record { state = state; left = left } in (
          (left, IsReached-renumbered point reached, also point _ holds),
          kept,
          EachIsWanted-renumbered state Holds AlsoHolds also ops rest,
        )

    pub EachTargetIsRead-renumbered : EachTargetIsRead auto → EachTargetIsRead copy
    EachTargetIsRead-renumbered read = record {
      leaves = λ state.
          subst (λ ops. EachIsWanted copy (λ held. AtSomePoint copy state (λ point. IsLiveOnLeaving copy point held)) ops)
          (sym (leave-renumbered by auto state))
          (EachIsWanted-renumbered state (IsLiveOnLeaving auto) (IsLiveOnLeaving copy) IsLiveOnLeaving-renumbered
          (state_of auto.states state).leave (read.leaves state));
      edges = λ state edge has.
          EachIsWanted-renumbered state (λ point. IsLiveBehind auto point edge) (λ point. IsLiveBehind copy point edge)
          (λ point held live. IsLiveBehind-renumbered point edge held live) edge.ops
          (read.edges state edge (subst (λ edges. Contains edges edge) (edges-renumbered by auto state) has));
      accepts = λ state accept accepts.
          let source = option_map-some (renumbered_accept by) (state_of auto.states state).accept accept
          (sym (accept-renumbered by auto state) ∙ accepts) in
          subst (λ (a : Accept). EachIsWanted copy (λ held. AtSomePoint copy state (λ point. Contains a.values held)) a.ops) source.2
          (EachIsWanted-renumbered state (λ point held. Contains (source.0).values held) (λ point held. Contains (source.0).values held)
          (λ point held has. has) (source.0).ops (read.accepts state source.0 source.1));
    }

    IsAlteredBeside-renumbered : (held other : Held) → IsAlteredBeside auto held other → IsAlteredBeside copy held other
    IsAlteredBeside-renumbered held other (on_leaving point reached alters live) =
        on_leaving point (IsReached-renumbered point reached)
        (subst (λ ops. Alters ops held) (sym (leave-renumbered by auto point.state)) alters) (IsLiveOnLeaving-renumbered point other live)
    IsAlteredBeside-renumbered held other (on_edge point edge reached has alters live) =
        on_edge point edge (IsReached-renumbered point reached) (has-also point.state edge has) alters
        (IsLiveBehind-renumbered point edge other live)
    IsAlteredBeside-renumbered held other (on_accept point accept reached accepts alters has) =
        on_accept point (renumbered_accept by accept) (IsReached-renumbered point reached) (accepts-also point.state accept accepts) alters has

    Interfere-renumbered : (held other : Held) → Interfere auto held other → Interfere copy held other
    Interfere-renumbered held other (inl beside) = inl (IsAlteredBeside-renumbered held other beside)
    Interfere-renumbered held other (inr beside) = inr (IsAlteredBeside-renumbered other held beside)

    pub AllInterfere-renumbered : AllInterfere auto → AllInterfere copy
    AllInterfere-renumbered all = record {
      regs = λ reg other within also apart. Interfere-renumbered (Reg reg) (Reg other) (all.regs reg other within also apart);
      mregs = λ mreg other positive within above also apart.
          Interfere-renumbered (MReg mreg) (MReg other) (all.mregs mreg other positive within above also apart);
    }
