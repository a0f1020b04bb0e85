-- A translation has the points of what it translates, and there the same registers are live, by their other names.
use Rattle.std.proofs.Common.{◌≡◌, ◌↔◌, ℕ, zero, suc, List, [], ◌∷◌, Option, Some, None, refl, Contains, sym, subst, arith}
use Rattle.std.specs.Prelude.{map}
use Rattle.lx_auto.specs.declared.automaton.Accept.{Accept}
use Rattle.lx_auto.specs.declared.automaton.Auto.{Auto}
use Rattle.lx_auto.specs.declared.automaton.Edge.{Edge}
use Rattle.lx_auto.specs.declared.automaton.Held.{Held}
use Rattle.lx_auto.specs.Effects.{Names, Reads, effect_of, effect_of_both, renamed, renamed_effect}
use Rattle.lx_auto.specs.Live.{IsLive, by_accept, by_fallback, onward}
use Rattle.lx_auto.specs.Points.{Point, IsReached, begins, goes_on, left_behind, left_by, point_behind, state_at, values_left}
use Rattle.lx_auto.specs.Translations.{AcceptAlike, AllLeadAlike, IsNameOfLive, IsTranslation, LeadAlike}
use Rattle.lx_auto.proofs.Effects.{Reads-renamed, Reads-renamed_back}
use Rattle.lx_auto.proofs.SameLists.{Contains-images, Contains-later, Contains-map, map-Contains}

left_by-alike : (names : Names) (accept other : Option Accept) (point : Point) → AcceptAlike names accept other
    → left_by other point ≡ left_by accept point
left_by-alike names None None point alike = refl
left_by-alike names (Some accept) None point alike = absurd alike
left_by-alike names None (Some other) point alike = absurd alike
left_by-alike names (Some accept) (Some other) point alike = refl

-- neither accepts where one does not
pub none-alike : (names : Names) (accept other : Option Accept) → AcceptAlike names accept other → accept ≡ None → other ≡ None
none-alike names None None alike none = refl
none-alike names (Some accept) None alike none = refl
none-alike names None (Some other) alike none = absurd alike
none-alike names (Some accept) (Some other) alike none = absurd (cc none)

pub none-alike_back : (names : Names) (accept other : Option Accept) → AcceptAlike names accept other → other ≡ None → accept ≡ None
none-alike_back names None None alike none = refl
none-alike_back names (Some accept) None alike none = absurd alike
none-alike_back names None (Some other) alike none = refl
none-alike_back names (Some accept) (Some other) alike none = absurd (cc none)

module _ (given answer : Auto) (names : ℕ → Names) where
  -- for each edge of one list there is the one of the other list that leads alike
  pub edge-alike : (point : Point) (edges others : List Edge) → AllLeadAlike given answer names point edges others → (edge : Edge)
      → Contains edges edge → (other : Edge) × Contains others other × LeadAlike given answer names point edge other
  edge-alike point [] others alike edge (place, within, is) = absurd (omega arith)
  edge-alike point (first ∷ edges) [] alike edge has = absurd alike
  edge-alike point (first ∷ edges) (second ∷ others) alike edge (zero, within, is) =
      (second, (0, omega arith, refl), subst (λ e. LeadAlike given answer names point e second) is alike.0)
  edge-alike point (first ∷ edges) (second ∷ others) alike edge (suc place, within, is) =
      let found = edge-alike point edges others alike.1 edge (place, omega arith, is) in
      (found.0, Contains-later second others found.0 found.1, found.2)

  pub edge-alike_back : (point : Point) (edges others : List Edge) → AllLeadAlike given answer names point edges others → (other : Edge)
      → Contains others other → (edge : Edge) × Contains edges edge × LeadAlike given answer names point edge other
  edge-alike_back point edges [] alike other (place, within, is) = absurd (omega arith)
  edge-alike_back point [] (second ∷ others) alike other has = absurd alike
  edge-alike_back point (first ∷ edges) (second ∷ others) alike other (zero, within, is) =
      (first, (0, omega arith, refl), subst (λ e. LeadAlike given answer names point first e) is alike.0)
  edge-alike_back point (first ∷ edges) (second ∷ others) alike other (suc place, within, is) =
      let found = edge-alike_back point edges others alike.1 other (place, omega arith, is) in
      (found.0, Contains-later first edges found.0 found.1, found.2)

  module _ (is : IsTranslation given answer names) where
    -- edges that lead alike lead to one point
    pub point_behind-alike : (point : Point) (edge other : Edge) → IsReached given point → LeadAlike given answer names point edge other
        → point_behind answer point other ≡ point_behind given point edge
    point_behind-alike point edge other reached alike =
        let left : left_behind answer point ≡ left_behind given point =
        left_by-alike (names point.state) (state_at given point).accept (state_at answer point).accept point (is.accepts point reached) in
        λ i. record { state = alike.target i; left = left i }

    pub IsReached-translated : (point : Point) → IsReached given point → IsReached answer point
    IsReached-translated _ begins = begins
    IsReached-translated _ (goes_on point edge reached has) =
        let found = edge-alike point (state_at given point).edges (state_at answer point).edges (is.edges point reached) edge has in
        subst (IsReached answer) (point_behind-alike point edge found.0 reached found.2)
        (goes_on point found.0 (IsReached-translated point reached) found.1)

    pub IsReached-translated_back : (point : Point) → IsReached answer point → IsReached given point
    IsReached-translated_back _ begins = begins
    IsReached-translated_back _ (goes_on point other reached has) =
        let before = IsReached-translated_back point reached in
        let found = edge-alike_back point (state_at given point).edges (state_at answer point).edges (is.edges point before) other has in
        subst (IsReached given) (sym (point_behind-alike point found.0 other before found.2)) (goes_on point found.0 before found.1)

    live-by_accept : (point : Point) (held : Held) (accept : Accept) (value : Held) → (theirs ours : Option Accept)
        → theirs ≡ Some accept → (state_at answer point).accept ≡ ours → AcceptAlike (names point.state) theirs ours
        → Contains accept.values value → Reads (effect_of accept.ops value) held → IsLive answer point (renamed (names point.state) held)
    live-by_accept point held accept value None ours accepts others alike has reads = absurd (cc accepts)
    live-by_accept point held accept value (Some theirs) None accepts others alike has reads = absurd alike
    live-by_accept point held accept value (Some theirs) (Some ours) accepts others alike has reads =
        let same : theirs ≡ accept = cc accepts in
        let images = subst (λ (a : Accept). map (effect_of ours.ops) ours.values ≡ map (λ v. renamed_effect (names point.state) (effect_of a.ops v)) a.values)
        same alike.1 in
        let found = Contains-images (effect_of ours.ops) (λ v. renamed_effect (names point.state) (effect_of accept.ops v)) ours.values accept.values images value has in
        by_accept point (renamed (names point.state) held) ours found.0 others found.1
        (subst (λ e. Reads e (renamed (names point.state) held)) (sym found.2)
        (Reads-renamed (names point.state) (effect_of accept.ops value) held reads))

    -- what is live is live by its other name
    pub IsLive-translated : (point : Point) (held : Held) → IsReached given point → IsLive given point held
        → IsLive answer point (renamed (names point.state) held)
    IsLive-translated point held reached (by_accept _ _ accept value accepts has reads) =
        live-by_accept point held accept value (state_at given point).accept (state_at answer point).accept accepts refl
        (is.accepts point reached) has reads
    IsLive-translated point held reached (by_fallback _ _ none has) =
        by_fallback point (renamed (names point.state) held)
        (none-alike (names point.state) (state_at given point).accept (state_at answer point).accept (is.accepts point reached) none)
        (subst (λ values. Contains values (renamed (names point.state) held)) (sym (is.falls_back point reached none))
        (Contains-map (renamed (names point.state)) (values_left given point.left) held has))
    IsLive-translated point held reached (onward _ _ edge next has live reads) =
        let found = edge-alike point (state_at given point).edges (state_at answer point).edges (is.edges point reached) edge has in
        let behind = IsLive-translated (point_behind given point edge) next (goes_on point edge reached has) live in
        onward point (renamed (names point.state) held) found.0 (renamed (names edge.to) next) found.1
        (subst (λ p. IsLive answer p (renamed (names edge.to) next)) (sym (point_behind-alike point edge found.0 reached found.2)) behind)
        (subst (λ e. Reads e (renamed (names point.state) held)) (sym (found.2.effects next live))
        (Reads-renamed (names point.state) (effect_of_both (state_at given point).leave edge.ops next) held reads))

    -- what is live in the answer is the name of what is live
    name-by_accept : (point : Point) (held : Held) (ours : Accept) (value : Held) → (theirs other : Option Accept)
        → (state_at given point).accept ≡ theirs → other ≡ Some ours → AcceptAlike (names point.state) theirs other
        → Contains ours.values value → Reads (effect_of ours.ops value) held → IsNameOfLive given names point held
    name-by_accept point held ours value theirs None accepts others alike has reads = absurd (cc others)
    name-by_accept point held ours value None (Some other) accepts others alike has reads = absurd alike
    name-by_accept point held ours value (Some theirs) (Some other) accepts others alike has reads =
        let same : other ≡ ours = cc others in
        let images = subst (λ (a : Accept). map (effect_of a.ops) a.values ≡ map (λ v. renamed_effect (names point.state) (effect_of theirs.ops v)) theirs.values)
        same alike.1 in
        let found = Contains-images (λ v. renamed_effect (names point.state) (effect_of theirs.ops v)) (effect_of ours.ops) theirs.values ours.values (sym images) value has in
        let source = Reads-renamed_back (names point.state) (effect_of theirs.ops found.0) held
        (subst (λ e. Reads e held) (sym found.2) reads) in
        (source.0, by_accept point source.0 theirs found.0 accepts found.1 source.1, source.2)

    pub IsLive-translated_back : (point : Point) (held : Held) → IsReached given point → IsLive answer point held → IsNameOfLive given names point held
    IsLive-translated_back point held reached (by_accept _ _ accept value accepts has reads) =
        name-by_accept point held accept value (state_at given point).accept (state_at answer point).accept refl accepts
        (is.accepts point reached) has reads
    IsLive-translated_back point held reached (by_fallback _ _ none has) =
        let none_given =
        none-alike_back (names point.state) (state_at given point).accept (state_at answer point).accept (is.accepts point reached) none in
        let found = map-Contains (renamed (names point.state)) (values_left given point.left) held
        (subst (λ values. Contains values held) (is.falls_back point reached none_given) has) in
        (found.0, by_fallback point found.0 none_given found.1, found.2)
    IsLive-translated_back point held reached (onward _ _ other next has live reads) =
        let found = edge-alike_back point (state_at given point).edges (state_at answer point).edges (is.edges point reached) other has in
        let one_point = point_behind-alike point found.0 other reached found.2 in
        let behind = subst (λ p. IsNameOfLive given names p next) one_point
        (IsLive-translated_back (point_behind answer point other) next
        (subst (IsReached given) (sym one_point) (goes_on point found.0 reached found.1)) live) in
        let ops = effect_of_both (state_at given point).leave found.0.ops behind.0 in
        let source = Reads-renamed_back (names point.state) ops held
        (subst (λ e. Reads e held) (found.2.effects behind.0 behind.1)
        (subst (λ h. Reads (effect_of_both (state_at answer point).leave other.ops h) held) (sym behind.2) reads)) in
        (source.0, onward point source.0 found.0 behind.0 found.1 behind.1 source.1, source.2)

pub IsLive-names : (given answer : Auto) (names : ℕ → Names) (point : Point) (held : Held) → IsTranslation given answer names
    → IsReached given point → IsLive answer point held ↔ IsNameOfLive given names point held
IsLive-names given answer names point held is reached = (
  λ live. IsLive-translated_back given answer names is point held reached live,
  λ name. subst (IsLive answer point) name.2 (IsLive-translated given answer names is point name.0 reached name.1),
)
