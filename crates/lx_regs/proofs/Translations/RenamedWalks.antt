-- An automaton by other names that keep registers apart is a translation of it.
use Rattle.std.proofs.Common.{◌≡◌, ℕ, List, [], ◌∷◌, Option, Some, None, refl, Contains, sym, ap, ◌∙◌, subst, arith}
use Rattle.std.specs.Prelude.{map, option_map}
use Rattle.std.proofs.Math.ListN.{get_or-map}
use Rattle.std.proofs.lemmas.Simd.{map-map}
use Rattle.lx_auto.specs.declared.automaton.Accept.{Accept}
use Rattle.lx_auto.specs.declared.automaton.Auto.{Auto}
use Rattle.lx_auto.specs.declared.automaton.Edge.{Edge}
use Rattle.lx_auto.specs.declared.automaton.Held.{Held}
use Rattle.lx_auto.specs.declared.automaton.State.{State}
use Rattle.lx_auto.specs.Automaton.{state_of}
use Rattle.lx_auto.specs.Effects.{Names, effect_of, effect_of_both, renamed, renamed_effect}
use Rattle.lx_auto.specs.Live.{IsLiveBehind, IsLiveOnLeaving}
use Rattle.lx_auto.specs.Points.{Point, IsReached, state_at, values_left, values_of}
use Rattle.lx_auto.specs.Translations.{AcceptAlike, AllLeadAlike, IsTranslation, LeadAlike}
use Rattle.lx_auto.proofs.SameLists.{Contains-later, map-where}
use Rattle.lx_regs.specs.WrittenBeside.{written_on_accept, written_on_edge, written_on_leaving}
use Rattle.lx_regs.specs.SharedNames.{KeepApart, renamed_accept, renamed_auto, renamed_edge, renamed_ops, renamed_state}
use Rattle.lx_regs.proofs.Translations.RenamedEffects.{KeepsFrom, effect_of-renamed, effect_of_both-renamed}

module _ (names : Names) where
  pub state_of-renamed : (states : List State) (number : ℕ)
      → state_of (map (renamed_state names) states) number ≡ renamed_state names (state_of states number)
  state_of-renamed states number = get_or-map (renamed_state names) states number (record { edges = []; accept = None; leave = [] })

  values_of-renamed : (accept : Option Accept) → values_of (option_map (renamed_accept names) accept) ≡ map (renamed names) (values_of accept)
  values_of-renamed None = refl
  values_of-renamed (Some accept) = refl

module _ (auto : Auto) (names : Names) (regs mregs : ℕ) where
  abbrev answer : Auto
  answer = renamed_auto names regs mregs auto

  pub state_at-renamed : (point : Point) → state_at answer point ≡ renamed_state names (state_at auto point)
  state_at-renamed point = state_of-renamed names auto.states point.state

  pub values_left-renamed : (left : Option ℕ) → values_left answer left ≡ map (renamed names) (values_left auto left)
  values_left-renamed None = refl
  values_left-renamed (Some state) =
      ap (λ (s : State). values_of s.accept) (state_of-renamed names auto.states state)
      ∙ values_of-renamed names (state_of auto.states state).accept

  module _ (apart : KeepApart names auto) (point : Point) (reached : IsReached auto point) where
    pub keeps-leave : (held : Held) → IsLiveOnLeaving auto point held → KeepsFrom names (state_at auto point).leave held
    keeps-leave held live other writes same = apart other held (written_on_leaving point reached writes live) same

    pub keeps-edge : (edge : Edge) (held : Held) → Contains (state_at auto point).edges edge → IsLiveBehind auto point edge held
        → KeepsFrom names edge.ops held
    keeps-edge edge held has live other writes same = apart other held (written_on_edge point edge reached has writes live) same

    pub keeps-accept : (accept : Accept) (held : Held) → (state_at auto point).accept ≡ Some accept → Contains accept.values held
        → KeepsFrom names accept.ops held
    keeps-accept accept held accepts has other writes same = apart other held (written_on_accept point accept reached accepts writes has) same

    AcceptAlike-renamed : (accept : Option Accept) → (state_at auto point).accept ≡ accept
        → AcceptAlike names accept (option_map (renamed_accept names) accept)
    AcceptAlike-renamed None accepts = tt
    AcceptAlike-renamed (Some accept) accepts = (
      refl,
      map-map (effect_of (renamed_ops names accept.ops)) (renamed names) accept.values
          ∙ map-where (λ value. effect_of (renamed_ops names accept.ops) (renamed names value))
          (λ value. renamed_effect names (effect_of accept.ops value)) accept.values
          (λ value has. effect_of-renamed names accept.ops value (keeps-accept accept value accepts has)),
    )

    pub LeadAlike-renamed : (edge : Edge) → Contains (state_at auto point).edges edge
        → LeadAlike auto answer (λ state. names) point edge (renamed_edge names edge)
    LeadAlike-renamed edge has = record {
      low = refl;
      high = refl;
      target = refl;
      effects = λ held live.
          ap (λ (s : State). effect_of_both s.leave (renamed_ops names edge.ops) (renamed names held)) (state_at-renamed point)
          ∙ effect_of_both-renamed names (state_at auto point).leave edge.ops held (keeps-edge edge held has live)
          (λ before reads. keeps-leave before (edge, held, has, live, reads));
    }

    AllLeadAlike-renamed : (edges : List Edge) → ((edge : Edge) → Contains edges edge → Contains (state_at auto point).edges edge)
        → AllLeadAlike auto answer (λ state. names) point edges (map (renamed_edge names) edges)
    AllLeadAlike-renamed [] within = tt
    AllLeadAlike-renamed (edge ∷ edges) within = (
      LeadAlike-renamed edge (within edge (0, omega arith, refl)),
      AllLeadAlike-renamed edges (λ other has. within other (Contains-later edge edges other has)),
    )

  pub renamed-translation : KeepApart names auto → names.mregs 0 ≡ 0 → IsTranslation auto answer (λ state. names)
  renamed-translation apart first = record {
    accepts = λ point reached.
        subst (λ (s : State). AcceptAlike names (state_at auto point).accept s.accept) (sym (state_at-renamed point))
        (AcceptAlike-renamed apart point reached (state_at auto point).accept refl);
    falls_back = λ point reached none. values_left-renamed point.left;
    edges = λ point reached.
        subst (λ (s : State). AllLeadAlike auto answer (λ state. names) point (state_at auto point).edges s.edges) (sym (state_at-renamed point))
        (AllLeadAlike-renamed apart point reached (state_at auto point).edges (λ edge has. has));
    start = first;
  }
