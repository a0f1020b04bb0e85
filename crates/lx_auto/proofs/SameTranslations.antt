-- An automaton is a translation of itself, and a translation of a translation is one of what that translates.
use Rattle.std.proofs.Common.{◌≡◌, ℕ, List, [], ◌∷◌, Option, Some, None, refl, Contains, sym, ap, ◌∙◌, subst, arith}
use Rattle.std.specs.Prelude.{map}
use Rattle.std.proofs.lemmas.List.{map-id}
use Rattle.std.proofs.lemmas.Simd.{map-map}
use Rattle.lx_auto.specs.declared.automaton.Accept.{Accept}
use Rattle.lx_auto.specs.declared.automaton.Auto.{Auto}
use Rattle.lx_auto.specs.declared.automaton.Edge.{Edge}
use Rattle.lx_auto.specs.declared.automaton.Held.{Held}
use Rattle.lx_auto.specs.Effects.{Effect, Names, composed, effect_of, effect_of_both, renamed, renamed_effect, same_names}
use Rattle.lx_auto.specs.Live.{IsLive}
use Rattle.lx_auto.specs.Points.{Point, IsReached, goes_on, point_behind, state_at, values_left}
use Rattle.lx_auto.specs.Translations.{AcceptAlike, AllLeadAlike, IsTranslation, LeadAlike}
use Rattle.lx_auto.proofs.Effects.{renamed-composed, renamed-same, renamed_effect-composed, renamed_effect-same}
use Rattle.lx_auto.proofs.SameLists.{Contains-later, map-where}
use Rattle.lx_auto.proofs.TranslatedWalks.{IsLive-translated, IsReached-translated, none-alike, point_behind-alike}

-- values by their own names
pub map-renamed_same : (values : List Held) → map (renamed same_names) values ≡ values
map-renamed_same values = map-where (renamed same_names) (λ held. held) values (λ held has. renamed-same held) ∙ map-id values

AcceptAlike-itself : (accept : Option Accept) → AcceptAlike same_names accept accept
AcceptAlike-itself None = tt
AcceptAlike-itself (Some accept) = (
  refl,
  map-where (effect_of accept.ops) (λ value. renamed_effect same_names (effect_of accept.ops value)) accept.values
      (λ value has. sym (renamed_effect-same (effect_of accept.ops value))),
)

module _ (auto : Auto) (point : Point) where
  LeadAlike-itself : (edge : Edge) → LeadAlike auto auto (λ state. same_names) point edge edge
  LeadAlike-itself edge = record {
    low = refl;
    high = refl;
    target = refl;
    effects = λ held live.
        ap (effect_of_both (state_at auto point).leave edge.ops) (renamed-same held)
        ∙ sym (renamed_effect-same (effect_of_both (state_at auto point).leave edge.ops held));
  }

  AllLeadAlike-itself : (edges : List Edge) → AllLeadAlike auto auto (λ state. same_names) point edges edges
  AllLeadAlike-itself [] = tt
  AllLeadAlike-itself (edge ∷ edges) = (LeadAlike-itself edge, AllLeadAlike-itself edges)

pub translation-itself : (auto : Auto) → IsTranslation auto auto (λ state. same_names)
translation-itself auto = record {
  accepts = λ point reached. AcceptAlike-itself (state_at auto point).accept;
  falls_back = λ point reached none. sym (map-renamed_same (values_left auto point.left));
  edges = λ point reached. AllLeadAlike-itself auto point (state_at auto point).edges;
  start = refl;
}

module _ (given middle answer : Auto) (first second : ℕ → Names) where
  -- the second names of the first ones, state by state
  abbrev pub names_through : ℕ → Names
  names_through state = composed (first state) (second state)

  AcceptAlike-through : (state : ℕ) (theirs between ours : Option Accept) → AcceptAlike (first state) theirs between
      → AcceptAlike (second state) between ours → AcceptAlike (names_through state) theirs ours
  AcceptAlike-through state None None None one other = tt
  AcceptAlike-through state (Some theirs) None ours one other = absurd one
  AcceptAlike-through state None (Some between) ours one other = absurd one
  AcceptAlike-through state None None (Some ours) one other = absurd other
  AcceptAlike-through state (Some theirs) (Some between) None one other = absurd other
  AcceptAlike-through state (Some theirs) (Some between) (Some ours) one other =
      let effect : Held → Effect = λ value. effect_of theirs.ops value in (
        other.0 ∙ one.0,
        other.1
            ∙ sym (map-map (renamed_effect (second state)) (effect_of between.ops) between.values)
            ∙ ap (map (renamed_effect (second state))) one.1
            ∙ map-map (renamed_effect (second state)) (λ value. renamed_effect (first state) (effect value)) theirs.values
            ∙ map-where (λ value. renamed_effect (second state) (renamed_effect (first state) (effect value)))
            (λ value. renamed_effect (names_through state) (effect value)) theirs.values
            (λ value has. sym (renamed_effect-composed (first state) (second state) (effect value))),
      )

  module _ (one : IsTranslation given middle first) (other : IsTranslation middle answer second) (point : Point)
      (reached : IsReached given point) where
    LeadAlike-through : (edge between ours : Edge) → Contains (state_at given point).edges edge
        → LeadAlike given middle first point edge between → LeadAlike middle answer second point between ours
        → LeadAlike given answer names_through point edge ours
    LeadAlike-through edge between ours has before behind = record {
      low = behind.low ∙ before.low;
      high = behind.high ∙ before.high;
      target = behind.target ∙ before.target;
      effects = λ held live.
          let name = renamed (first edge.to) held in
          let live_between = subst (λ p. IsLive middle p name) (sym (point_behind-alike given middle first one point edge between reached before))
          (IsLive-translated given middle first one (point_behind given point edge) held (goes_on point edge reached has) live) in
          let ops = effect_of_both (state_at answer point).leave ours.ops in
          ap ops (renamed-composed (first edge.to) (second edge.to) held)
          ∙ ap (λ state. ops (renamed (second state) name)) (sym before.target)
          ∙ behind.effects name live_between
          ∙ ap (renamed_effect (second point.state)) (before.effects held live)
          ∙ sym (renamed_effect-composed (first point.state) (second point.state) (effect_of_both (state_at given point).leave edge.ops held));
    }

    AllLeadAlike-through : (edges between ours : List Edge)
        → ((edge : Edge) → Contains edges edge → Contains (state_at given point).edges edge)
        → AllLeadAlike given middle first point edges between → AllLeadAlike middle answer second point between ours
        → AllLeadAlike given answer names_through point edges ours
    AllLeadAlike-through [] [] [] within before behind = tt
    AllLeadAlike-through (edge ∷ edges) [] ours within before behind = absurd before
    AllLeadAlike-through [] (next ∷ between) ours within before behind = absurd before
    AllLeadAlike-through [] [] (last ∷ ours) within before behind = absurd behind
    AllLeadAlike-through (edge ∷ edges) (next ∷ between) [] within before behind = absurd behind
    AllLeadAlike-through (edge ∷ edges) (next ∷ between) (last ∷ ours) within before behind = (
      LeadAlike-through edge next last (within edge (0, omega arith, refl)) before.0 behind.0,
      AllLeadAlike-through edges between ours (λ e has. within e (Contains-later edge edges e has)) before.1 behind.1,
    )

  pub translation-through : IsTranslation given middle first → IsTranslation middle answer second → IsTranslation given answer names_through
  translation-through one other = record {
    accepts = λ point reached.
        AcceptAlike-through point.state (state_at given point).accept (state_at middle point).accept (state_at answer point).accept
        (one.accepts point reached) (other.accepts point (IsReached-translated given middle first one point reached));
    falls_back = λ point reached none.
        let none_between =
        none-alike (first point.state) (state_at given point).accept (state_at middle point).accept (one.accepts point reached) none in
        other.falls_back point (IsReached-translated given middle first one point reached) none_between
        ∙ ap (map (renamed (second point.state))) (one.falls_back point reached none)
        ∙ map-map (renamed (second point.state)) (renamed (first point.state)) (values_left given point.left)
        ∙ map-where (λ held. renamed (second point.state) (renamed (first point.state) held)) (renamed (names_through point.state))
        (values_left given point.left) (λ held has. sym (renamed-composed (first point.state) (second point.state) held));
    edges = λ point reached.
        AllLeadAlike-through one other point reached (state_at given point).edges (state_at middle point).edges (state_at answer point).edges
        (λ edge has. has) (one.edges point reached) (other.edges point (IsReached-translated given middle first one point reached));
    start = ap (second 0).mregs one.start ∙ other.start;
  }
