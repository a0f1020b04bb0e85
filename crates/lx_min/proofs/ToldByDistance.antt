-- States of different distance from those of other classes are told apart.
use Rattle.std.proofs.Common.{◌≡◌, ◌⊎◌, inl, inr, ℕ, zero, suc, ◌+◌, ◌<◌, ◌≤◌, List, [], ◌∷◌, ◌++◌, length, get_or, Option, Some, None, Bool, true, false, nat_eq, nat_lt, if◌then◌else◌, Contains, refl, sym, ap, ◌∙◌, subst, subst₂, arith}
use Rattle.std.specs.Prelude.{◌≢◌}
use Rattle.std.proofs.lemmas.Bool.{cases_eq, cases_lt}
use Rattle.std.proofs.lemmas.List.{get_or_append_left, get_or_push, length_push}
use Rattle.lx_auto.specs.declared.automaton.Accept.{Accept}
use Rattle.lx_auto.specs.declared.automaton.Auto.{Auto}
use Rattle.lx_auto.specs.declared.automaton.Edge.{Edge}
use Rattle.lx_auto.specs.declared.automaton.State.{State}
use Rattle.lx_auto.specs.Automaton.{IsAuto, edge_on, state_of}
use Rattle.lx_auto.specs.Points.{IsMet, IsReached, Point, begins, goes_on}
use Rattle.lx_auto.specs.ToldApart.{AcceptTheSame, AreToldApart, MoveTheSame, by_accepts, by_moves, further_on}
use Rattle.lx_auto.proofs.MetStates.{met-behind, targets_within}
use Rattle.lx_auto.proofs.OneEdge.{edge_on-is, is-edge_on}
use Rattle.lx_auto.proofs.States.{state_formed, state_of-read}
use Rattle.lx_auto.proofs.ToldApart.{AreToldApart-turned}
use Rattle.lx_min.specs.declared.distances.Scale.{Scale}
use Rattle.lx_min.specs.Distances.{AreAccepts, AreDistances, TellApart, accept_class, nearer, nearest}
use Rattle.lx_min.specs.Joined.{class_in}
use Rattle.lx_min.proofs.MovedEdges.{edge-unit}

module _ (distances : List ℕ) where
  nearer-least : (state least : ℕ) → nearer distances state least ≤ least
  nearer-least state least = grind arith

  nearer-state : (state least : ℕ) → nearer distances state least ≤ class_in distances state
  nearer-state state least = grind arith

  nearer-cases : (state least : ℕ)
      → (nearer distances state least ≡ class_in distances state) ⊎ (nearer distances state least ≡ least)
  nearer-cases state least = at (nat_lt (class_in distances state) least)
    where
      at : (b : Bool) → ((if b then class_in distances state else least) ≡ class_in distances state)
          ⊎ ((if b then class_in distances state else least) ≡ least)
      at true = inl refl
      at false = inr refl

  nearest-least : (edges : List Edge) (least : ℕ) → nearest distances edges least ≤ least
  nearest-least [] least = omega arith
  nearest-least (edge ∷ edges) least =
      omega (arith, nearest-least edges (nearer distances edge.to least), nearer-least edge.to least)

  pub nearest-edge : (edges : List Edge) (least : ℕ) (edge : Edge) → Contains edges edge
      → nearest distances edges least ≤ class_in distances edge.to
  nearest-edge [] least edge (place, within, is) = absurd (omega arith)
  nearest-edge (first ∷ edges) least edge (zero, within, is) =
      subst (λ (e : Edge). nearest distances (first ∷ edges) least ≤ class_in distances e.to) is
      (omega (arith, nearest-least edges (nearer distances first.to least), nearer-state first.to least))
  nearest-edge (first ∷ edges) least edge (suc place, within, is) =
      nearest-edge edges (nearer distances first.to least) edge (place, omega arith, is)

  -- some edge leads to a state at the distance
  abbrev LeadTo : List Edge → (distance : ℕ) → Type 0
  LeadTo edges distance = (edge : Edge) × Contains edges edge × (class_in distances edge.to ≡ distance)

  LeadTo-more : (first : Edge) (edges : List Edge) (now least : ℕ) → (now ≡ class_in distances first.to) ⊎ (now ≡ least)
      → nearest distances edges now < least → (nearest distances edges now < now → LeadTo edges (nearest distances edges now))
      → LeadTo (first ∷ edges) (nearest distances edges now)
  LeadTo-more first edges now least cases less rest = at (cases_lt (nearest distances edges now) now) cases
    where
      at : (nearest distances edges now < now) ⊎ (now ≤ nearest distances edges now)
          → (now ≡ class_in distances first.to) ⊎ (now ≡ least) → LeadTo (first ∷ edges) (nearest distances edges now)
      at (inl later) cases =
          let (edge, (place, within, is), same) = rest later in
          (edge, (suc place, omega arith, is), same)
      at (inr here) (inl first_is) = (first, (0, omega arith, refl), omega (arith, here, first_is, nearest-least edges now))
      at (inr here) (inr least_is) = absurd (omega (arith, here, least_is, less))

  -- some edge leads to the nearest
  pub nearest-some : (edges : List Edge) (least : ℕ) → nearest distances edges least < least
      → LeadTo edges (nearest distances edges least)
  nearest-some [] least less = absurd (omega arith)
  nearest-some (first ∷ edges) least less =
      let now = nearer distances first.to least in
      LeadTo-more first edges now least (nearer-cases first.to least) less (nearest-some edges now)

module _ (auto : Auto) (is : IsAuto auto) where
  reached-within : (point : Point) → IsReached auto point → point.state < length auto.states
  reached-within _ begins = is.start
  reached-within _ (goes_on point edge reached (place, within, has)) =
      subst (λ (e : Edge). e.to < length auto.states) has (targets_within auto point.state is place edge within)

  -- a state to which walks come is there
  pub met-there : (state : ℕ) → IsMet auto state → state < length auto.states
  met-there state (left, reached) = reached-within (record { state = state; left = left }) reached

module _ (auto : Auto) (classes : List ℕ) (scale : Scale) (distances : List ℕ) (is : IsAuto auto) (some : 0 < scale.step)
    (apart : TellApart auto classes) (are : AreDistances auto classes scale distances) where
  abbrev edges_at : (state : ℕ) → List Edge
  edges_at state = (state_of auto.states state).edges

  -- a word tells the state apart from each one that is farther
  abbrev IsTold : (state : ℕ) → Type 0
  IsTold state =
      (other : ℕ) → IsMet auto other → class_in distances state < class_in distances other
      → (word : List ℕ) × AreToldApart auto state other word

  -- by whether the state is of the wide class
  distance-by : (state : ℕ) (b : Bool) → IsMet auto state → nat_eq (class_in classes state) scale.wide ≡ b
      → class_in distances state ≡ (if b then scale.step + nearest distances (edges_at state) scale.far else class_in classes state)
  distance-by state b met on =
      are state (met-there auto is state met)
      ∙ ap (λ c. if c then scale.step + nearest distances (edges_at state) scale.far else class_in classes state) on

  -- on a unit of an edge to a nearest state
  told-moving : (state other unit : ℕ) (edge : Edge) → IsMet auto other → edge_on (edges_at state) unit ≡ Some edge
      → (second : Option Edge) → edge_on (edges_at other) unit ≡ second
      → class_in distances edge.to < nearest distances (edges_at other) scale.far → IsTold edge.to
      → (word : List ℕ) × AreToldApart auto state other word
  told-moving state other unit edge met on None also less told = (
    unit ∷ [],
    by_moves state other unit (λ same. subst₂ (MoveTheSame (state_of auto.states state) (state_of auto.states other)) on also same),
  )
  told-moving state other unit edge met on (Some second) also less told =
      let has = (edge_on-is (edges_at other) unit second also).0 in
      let behind = told second.to (met-behind auto other second met has)
      (omega (arith, nearest-edge distances (edges_at other) scale.far second has, less)) in
      (unit ∷ behind.0, further_on state other unit edge second behind.0 on also behind.1)

  -- both are of the wide class
  told-wide : (state other : ℕ) → IsMet auto state → IsMet auto other
      → class_in distances state ≡ scale.step + nearest distances (edges_at state) scale.far
      → class_in distances other ≡ scale.step + nearest distances (edges_at other) scale.far
      → class_in distances state < class_in distances other
      → ((next : ℕ) → IsMet auto next → class_in distances next < class_in distances state → IsTold next)
      → (word : List ℕ) × AreToldApart auto state other word
  told-wide state other met also here there less told =
      let few = nearest-least distances (edges_at other) scale.far in
      let (edge, has, same) = nearest-some distances (edges_at state) scale.far (omega (arith, here, there, few, less)) in
      let lie = (state_formed auto state is).apart in
      let on = is-edge_on (edges_at state) edge.lo edge lie (has, omega arith, edge-unit 0 (edges_at state) edge lie has) in
      told-moving state other edge.lo edge also on (edge_on (edges_at other) edge.lo) refl (omega (arith, here, there, same, less))
      (told edge.to (met-behind auto state edge met has) (omega (arith, here, same, some)))

  -- both are of one class
  told-alike : (state other : ℕ) (b : Bool) → IsMet auto state → IsMet auto other
      → nat_eq (class_in classes state) scale.wide ≡ b → class_in classes state ≡ class_in classes other
      → class_in distances state < class_in distances other
      → ((next : ℕ) → IsMet auto next → class_in distances next < class_in distances state → IsTold next)
      → (word : List ℕ) × AreToldApart auto state other word
  told-alike state other true met also on same less told =
      told-wide state other met also (distance-by state true met on)
      (distance-by other true also (ap (λ c. nat_eq c scale.wide) (sym same) ∙ on)) less told
  told-alike state other false met also on same less told =
      let here = distance-by state false met on in
      let there = distance-by other false also (ap (λ c. nat_eq c scale.wide) (sym same) ∙ on) in
      absurd (omega (arith, here, there, same, less))

  told-by : (state other : ℕ) → IsMet auto state → IsMet auto other → class_in distances state < class_in distances other
      → ((next : ℕ) → IsMet auto next → class_in distances next < class_in distances state → IsTold next)
      → (class_in classes state ≡ class_in classes other) ⊎ (class_in classes state ≢ class_in classes other)
      → (word : List ℕ) × AreToldApart auto state other word
  told-by state other met also less told (inl same) =
      told-alike state other (nat_eq (class_in classes state) scale.wide) met also refl same less told
  told-by state other met also less told (inr differ) = apart state other met also differ

  told-farther : (bound state : ℕ) → IsMet auto state → class_in distances state < bound → IsTold state
  told-farther zero state met below other also less = absurd (omega (arith, below))
  told-farther (suc bound) state met below other also less =
      told-by state other met also less (λ next there before. told-farther bound next there (omega (arith, below, before)))
      (cases_eq (class_in classes state) (class_in classes other))

  pub TellApart-distances : TellApart auto distances
  TellApart-distances state other met also differ =
      at (cases_lt (class_in distances state) (class_in distances other))
    where
      at : (class_in distances state < class_in distances other) ⊎ (class_in distances other ≤ class_in distances state)
          → (word : List ℕ) × AreToldApart auto state other word
      at (inl less) = told-farther (suc (class_in distances state)) state met (omega arith) other also less
      at (inr more) =
          let less : class_in distances other < class_in distances state = grind (arith, more, differ) in
          let told = told-farther (suc (class_in distances other)) other also (omega arith) state met less in
          (told.0, AreToldApart-turned auto other state told.0 told.1)

-- ---- by whether states accept

pub accepts-none : (states : List State) (classes : List ℕ) → classes ≡ [] → AreAccepts states 0 classes
accepts-none states classes none = record { fit = ap length none; each = λ state before. absurd (omega (arith, before)) }

pub accepts-more : (states : List State) (classes : List ℕ) (count class : ℕ) (state : State) → count < length states
    → state ≡ get_or states count state → class ≡ accept_class state.accept → AreAccepts states count classes
    → AreAccepts states (count + 1) (classes ++ class ∷ [])
accepts-more states classes count class state within is number are = record {
  fit = length_push classes class ∙ ap (λ n. n + 1) are.fit;
  each = λ other before. at other before (cases_eq other count);
}
  where
    at : (other : ℕ) → other < count + 1 → (other ≡ count) ⊎ (other ≢ count)
        → class_in (classes ++ class ∷ []) other ≡ accept_class (state_of states other).accept
    at other before (inl last) =
        subst (λ k. class_in (classes ++ class ∷ []) k ≡ accept_class (state_of states k).accept) (sym last)
        (get_or_push classes class 0 count are.fit ∙ number
        ∙ ap (λ (s : State). accept_class s.accept) (state_of-read states count state within is))
    at other before (inr earlier) =
        let lt : other < count = omega (arith, before, earlier) in
        get_or_append_left classes (class ∷ []) 0 other (omega (arith, lt, are.fit)) ∙ are.each other lt

accepts-differ : (first second : Option Accept) → accept_class first ≢ accept_class second → AcceptTheSame first second → ⊥
accepts-differ None None differ same = differ refl
accepts-differ None (Some other) differ same = same
accepts-differ (Some accept) None differ same = same
accepts-differ (Some accept) (Some other) differ same = differ refl

pub TellApart-accepts : (auto : Auto) (classes : List ℕ) → IsAuto auto → AreAccepts auto.states (length auto.states) classes
    → TellApart auto classes
TellApart-accepts auto classes is are state other met also differ = (
  [],
  by_accepts state other (accepts-differ (state_of auto.states state).accept (state_of auto.states other).accept
      (λ same. differ (are.each state (met-there auto is state met) ∙ same ∙ sym (are.each other (met-there auto is other also))))),
)
