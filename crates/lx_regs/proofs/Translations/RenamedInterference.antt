-- What holds at points of an automaton holds at those of the one by other names: what is wanted, and what interferes.
use Rattle.std.proofs.Common.{◌≡◌, ℕ, List, Some, Contains, sym, ap, ◌∙◌, subst}
use Rattle.std.specs.Prelude.{option_map}
use Rattle.std.proofs.Common.{inl, inr}
use Rattle.lx_auto.specs.declared.automaton.Accept.{Accept}
use Rattle.lx_auto.specs.declared.automaton.Auto.{Auto}
use Rattle.lx_auto.specs.declared.automaton.Edge.{Edge}
use Rattle.lx_auto.specs.declared.automaton.Held.{Held}
use Rattle.lx_auto.specs.declared.automaton.State.{State}
use Rattle.lx_auto.specs.declared.ops.Op.{Op}
use Rattle.lx_auto.specs.Effects.{Names, Reads, Writes, effect_of, renamed}
use Rattle.lx_auto.specs.Live.{IsLive, IsLiveBehind, IsLiveOnLeaving}
use Rattle.lx_auto.specs.Points.{Point, IsReached, goes_on, point_behind, state_at}
use Rattle.lx_auto.specs.Translations.{IsTranslation}
use Rattle.lx_auto.proofs.Effects.{Reads-renamed}
use Rattle.lx_auto.proofs.SameLists.{Contains-map}
use Rattle.lx_auto.proofs.TranslatedWalks.{IsLive-translated, IsReached-translated, point_behind-alike}
use Rattle.lx_regs.specs.WrittenBeside.{IsWrittenBeside, MayInterfere, written_on_accept, written_on_edge, written_on_leaving}
use Rattle.lx_regs.specs.SharedNames.{KeepApart, renamed_accept, renamed_auto, renamed_edge, renamed_op, renamed_ops}
use Rattle.lx_regs.proofs.Translations.RenamedEffects.{effect_of-renamed, target_of-renamed}
use Rattle.lx_regs.proofs.Translations.RenamedWalks.{LeadAlike-renamed, keeps-edge, renamed-translation, state_at-renamed}

pub Writes-renamed : (names : Names) (ops : List Op) (held : Held) → Writes ops held → Writes (renamed_ops names ops) (renamed names held)
Writes-renamed names ops held (op, has, writes) =
    (renamed_op names op, Contains-map (renamed_op names) ops op has, target_of-renamed names op ∙ ap (renamed names) writes)

module _ (auto : Auto) (names : Names) (regs mregs : ℕ) (apart : KeepApart names auto) (first : names.mregs 0 ≡ 0) where
  abbrev answer : Auto
  answer = renamed_auto names regs mregs auto

  is : IsTranslation auto answer (λ state. names)
  is = renamed-translation auto names regs mregs apart first

  pub IsReached-renamed : (point : Point) → IsReached auto point → IsReached answer point
  IsReached-renamed point reached = IsReached-translated auto answer (λ state. names) is point reached

  -- an edge of the state by other names
  pub has-renamed : (point : Point) (edge : Edge) → Contains (state_at auto point).edges edge
      → Contains (state_at answer point).edges (renamed_edge names edge)
  has-renamed point edge has =
      subst (λ (s : State). Contains s.edges (renamed_edge names edge)) (sym (state_at-renamed auto names regs mregs point))
      (Contains-map (renamed_edge names) (state_at auto point).edges edge has)

  pub IsLiveBehind-renamed : (point : Point) (edge : Edge) (held : Held) → IsReached auto point → Contains (state_at auto point).edges edge
      → IsLiveBehind auto point edge held → IsLiveBehind answer point (renamed_edge names edge) (renamed names held)
  IsLiveBehind-renamed point edge held reached has live =
      let alike = LeadAlike-renamed auto names regs mregs apart point reached edge has in
      subst (λ p. IsLive answer p (renamed names held))
      (sym (point_behind-alike auto answer (λ state. names) is point edge (renamed_edge names edge) reached alike))
      (IsLive-translated auto answer (λ state. names) is (point_behind auto point edge) held (goes_on point edge reached has) live)

  pub IsLiveOnLeaving-renamed : (point : Point) (held : Held) → IsReached auto point → IsLiveOnLeaving auto point held
      → IsLiveOnLeaving answer point (renamed names held)
  IsLiveOnLeaving-renamed point held reached (edge, next, has, live, reads) = (
    renamed_edge names edge,
    renamed names next,
    has-renamed point edge has,
    IsLiveBehind-renamed point edge next reached has live,
    subst (λ e. Reads e (renamed names held))
        (sym (effect_of-renamed names edge.ops next (keeps-edge auto names regs mregs apart point reached edge next has live)))
        (Reads-renamed names (effect_of edge.ops next) held reads),
  )

  pub accepts-renamed : (point : Point) (accept : Accept) → (state_at auto point).accept ≡ Some accept
      → (state_at answer point).accept ≡ Some (renamed_accept names accept)
  accepts-renamed point accept accepts =
      ap (λ (s : State). s.accept) (state_at-renamed auto names regs mregs point) ∙ ap (option_map (renamed_accept names)) accepts

  pub IsWrittenBeside-renamed : (held other : Held) → IsWrittenBeside auto held other
      → IsWrittenBeside answer (renamed names held) (renamed names other)
  IsWrittenBeside-renamed held other (written_on_leaving point reached writes live) =
      written_on_leaving point (IsReached-renamed point reached)
      (subst (λ (s : State). Writes s.leave (renamed names held)) (sym (state_at-renamed auto names regs mregs point))
      (Writes-renamed names (state_at auto point).leave held writes))
      (IsLiveOnLeaving-renamed point other reached live)
  IsWrittenBeside-renamed held other (written_on_edge point edge reached has writes live) =
      written_on_edge point (renamed_edge names edge) (IsReached-renamed point reached) (has-renamed point edge has)
      (Writes-renamed names edge.ops held writes) (IsLiveBehind-renamed point edge other reached has live)
  IsWrittenBeside-renamed held other (written_on_accept point accept reached accepts writes has) =
      written_on_accept point (renamed_accept names accept) (IsReached-renamed point reached) (accepts-renamed point accept accepts)
      (Writes-renamed names accept.ops held writes) (Contains-map (renamed names) accept.values other has)

  pub MayInterfere-renamed : (held other : Held) → MayInterfere auto held other → MayInterfere answer (renamed names held) (renamed names other)
  MayInterfere-renamed held other (inl beside) = inl (IsWrittenBeside-renamed held other beside)
  MayInterfere-renamed held other (inr beside) = inr (IsWrittenBeside-renamed other held beside)
