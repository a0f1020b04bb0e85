-- Stops as numbers, so that the search of a graph lists them, and walks as paths of that graph.
use Rattle.std.proofs.Common.{◌≡◌, ℕ, zero, suc, ◌+◌, ◌*◌, ◌<◌, ◌≤◌, ◌⊎◌, inl, inr, arith, Bool, true, false, List, [], ◌∷◌, ◌++◌, map, length, get_or, refl, sym, ap, ap₂, ◌∙◌, subst, Some, None}
use Rattle.std.proofs.lemmas.Bool.{false≢true}
use Rattle.std.specs.Prelude.{Option, slice_get}
use Rattle.lx_tnfa.specs.Closure.{steps_at, steps_from, IsDead, IsWalk, Step}
use Rattle.lx_tnfa.specs.Live.{mark_at, state_of}
use Rattle.lx_tnfa.specs.Tnfa.{Tnfa}
use Rattle.lx_tnfa.specs.declared.closure.Stop.{Stop}
use Rattle.lx_tnfa.specs.declared.closure.Stop.TheVariants.{AtState, AtTarget}
use Rattle.lx_tnfa.specs.declared.closure.Target.TheVariants.{Leaf, End}
use Rattle.lx_tnfa.specs.declared.places.Place.{Place}
use Rattle.lx_tnfa.specs.declared.states.Event.{Event}
use Rattle.lx_tnfa.specs.declared.states.State.{State}
use Rattle.lx_tnfa.specs.declared.states.State.TheVariants.{Moves}
use Rattle.lx_tnfa.specs.DepthFirst.{IsIn, successors}
use Rattle.lx_tnfa.proofs.Searching.SearchPaths.{Path}

-- a number for two numbers
abbrev pub pair_number : ℕ → ℕ → ℕ
pair_number zero second = 2 * second + 1
pair_number (suc first) second = 2 * pair_number first second

pair_same : (first second other next : ℕ) → pair_number first second ≡ pair_number other next → (first ≡ other) × (second ≡ next)
pair_same zero second zero next e = (refl, omega (arith, e))
pair_same zero second (suc other) next e = absurd (omega (arith, e))
pair_same (suc first) second zero next e = absurd (omega (arith, e))
pair_same (suc first) second (suc other) next e =
    let half : pair_number first second ≡ pair_number other next = omega (arith, e) in
    let r = pair_same first second other next half in (ap suc r.0, r.1)

-- a number for a stop
abbrev pub stop_number : Stop → ℕ
stop_number (AtState number) = 3 * number
stop_number (AtTarget (Leaf place)) = 3 * pair_number place.part place.rest.0 + 1
stop_number (AtTarget (End rule)) = 3 * rule + 2

place_same : (place other : Place) → place.part ≡ other.part → place.rest.0 ≡ other.rest.0 → place ≡ other
place_same place other p r = λ i. record { part = p i; rest = record { 0 = r i } }

-- different stops have different numbers
pub stop_same : (stop other : Stop) → stop_number stop ≡ stop_number other → stop ≡ other
stop_same (AtState number) (AtState other) e = let same : number ≡ other = omega (arith, e) in ap AtState same
stop_same (AtState number) (AtTarget (Leaf other)) e = absurd (omega (arith, e))
stop_same (AtState number) (AtTarget (End other)) e = absurd (omega (arith, e))
stop_same (AtTarget (Leaf place)) (AtState other) e = absurd (omega (arith, e))
stop_same (AtTarget (Leaf place)) (AtTarget (Leaf other)) e =
    let same : pair_number place.part place.rest.0 ≡ pair_number other.part other.rest.0 = omega (arith, e) in
    let r = pair_same place.part place.rest.0 other.part other.rest.0 same in
    ap (λ p. AtTarget (Leaf p)) (place_same place other r.0 r.1)
stop_same (AtTarget (Leaf place)) (AtTarget (End other)) e = absurd (omega (arith, e))
stop_same (AtTarget (End rule)) (AtState other) e = absurd (omega (arith, e))
stop_same (AtTarget (End rule)) (AtTarget (Leaf other)) e = absurd (omega (arith, e))
stop_same (AtTarget (End rule)) (AtTarget (End other)) e = let same : rule ≡ other = omega (arith, e) in ap (λ n. AtTarget (End n)) same

-- where steps lead, as numbers
abbrev pub leads : List Step → List ℕ
leads steps = map (λ (step : Step). stop_number step.to) steps

-- the graph of stops: the successors of each number
abbrev pub graph_rows : Tnfa → (number : ℕ) → List State → List (List ℕ)
graph_rows tnfa number [] = []
graph_rows tnfa number (state ∷ states) = leads (steps_at tnfa number state) ∷ [] ∷ [] ∷ graph_rows tnfa (suc number) states

abbrev pub stop_graph : Tnfa → List (List ℕ)
stop_graph tnfa = graph_rows tnfa 0 tnfa.states

row_within : (tnfa : Tnfa) (states : List State) (first place : ℕ) → place < length states
    → get_or (graph_rows tnfa first states) (3 * place) [] ≡ leads (steps_at tnfa (first + place) (state_of states place))
row_within tnfa [] first place lt = absurd (omega arith)
row_within tnfa (state ∷ states) first zero lt =
    let e : first ≡ first + 0 = omega arith in ap (λ n. leads (steps_at tnfa n state)) e
row_within tnfa (state ∷ states) first (suc place) lt =
    let e : 3 * suc place ≡ suc (suc (suc (3 * place))) = omega arith in
    let f : suc first + place ≡ first + suc place = omega arith in
    ap (λ n. get_or (graph_rows tnfa first (state ∷ states)) n []) e ∙ row_within tnfa states (suc first) place (omega arith)
    ∙ ap (λ n. leads (steps_at tnfa n (state_of states place))) f

row_past : (tnfa : Tnfa) (states : List State) (first place : ℕ) → length states ≤ place
    → get_or (graph_rows tnfa first states) (3 * place) [] ≡ []
row_past tnfa [] first place le = refl
row_past tnfa (state ∷ states) first zero le = absurd (omega arith)
row_past tnfa (state ∷ states) first (suc place) le =
    let e : 3 * suc place ≡ suc (suc (suc (3 * place))) = omega arith in
    ap (λ n. get_or (graph_rows tnfa first (state ∷ states)) n []) e ∙ row_past tnfa states (suc first) place (omega arith)

row_first : (tnfa : Tnfa) (states : List State) (first place : ℕ) → get_or (graph_rows tnfa first states) (3 * place + 1) [] ≡ []
row_first tnfa [] first place = refl
row_first tnfa (state ∷ states) first zero = refl
row_first tnfa (state ∷ states) first (suc place) =
    let e : 3 * suc place + 1 ≡ suc (suc (suc (3 * place + 1))) = omega arith in
    ap (λ n. get_or (graph_rows tnfa first (state ∷ states)) n []) e ∙ row_first tnfa states (suc first) place

row_second : (tnfa : Tnfa) (states : List State) (first place : ℕ) → get_or (graph_rows tnfa first states) (3 * place + 2) [] ≡ []
row_second tnfa [] first place = refl
row_second tnfa (state ∷ states) first zero = refl
row_second tnfa (state ∷ states) first (suc place) =
    let e : 3 * suc place + 2 ≡ suc (suc (suc (3 * place + 2))) = omega arith in
    ap (λ n. get_or (graph_rows tnfa first (state ∷ states)) n []) e ∙ row_second tnfa states (suc first) place

state_past : (states : List State) (place : ℕ) → length states ≤ place → state_of states place ≡ Moves []
state_past [] place le = refl
state_past (state ∷ states) zero le = absurd (omega arith)
state_past (state ∷ states) (suc place) le = state_past states place (omega arith)

within_or_past : (place count : ℕ) → (place < count) ⊎ (count ≤ place)
within_or_past place count = grind arith

-- the successors of a stop are where its steps lead
pub stop_successors : (tnfa : Tnfa) → 0 < length tnfa.states → (stop : Stop) → successors (stop_graph tnfa) (stop_number stop) ≡ leads (steps_from tnfa stop)
stop_successors tnfa some (AtState number) = at number (within_or_past number (length tnfa.states))
  where
    at : (number : ℕ) → (number < length tnfa.states) ⊎ (length tnfa.states ≤ number)
        → get_or (graph_rows tnfa 0 tnfa.states) (3 * number) [] ≡ leads (steps_at tnfa number (state_of tnfa.states number))
    at number (inl lt) =
        let e : 0 + number ≡ number = omega arith in
        row_within tnfa tnfa.states 0 number lt ∙ ap (λ n. leads (steps_at tnfa n (state_of tnfa.states number))) e
    at zero (inr le) = absurd (omega arith)
    at (suc number) (inr le) =
        row_past tnfa tnfa.states 0 (suc number) le ∙ ap (λ s. leads (steps_at tnfa (suc number) s)) (sym (state_past tnfa.states (suc number) le))
stop_successors tnfa some (AtTarget (Leaf place)) = row_first tnfa tnfa.states 0 (pair_number place.part place.rest.0)
stop_successors tnfa some (AtTarget (End rule)) = row_second tnfa tnfa.states 0 rule

-- the stops from which no end can be reached, of states from one number on
abbrev pub dead_from : (number : ℕ) → List Bool → List ℕ
dead_from number [] = []
dead_from number (true ∷ marks) = dead_from (suc number) marks
dead_from number (false ∷ marks) = 3 * number ∷ dead_from (suc number) marks

abbrev pub dead_stops : Tnfa → List ℕ
dead_stops tnfa = dead_from 0 tnfa.live

abbrev IsDeadAt : List Bool → (first stop : ℕ) → Type 0
IsDeadAt marks first stop = (place : ℕ) × (place < length marks) × (mark_at marks place ≡ false) × (stop ≡ 3 * (first + place))

dead_later : (marks : List Bool) (mark : Bool) (first stop : ℕ) → IsDeadAt marks (suc first) stop → IsDeadAt (mark ∷ marks) first stop
dead_later marks mark first stop d = (suc d.0, omega (arith, d.1), d.2, omega (arith, d.3))

dead_listed : (marks : List Bool) (first stop : ℕ) → IsIn (dead_from first marks) stop → IsDeadAt marks first stop
dead_listed [] first stop m = absurd m
dead_listed (true ∷ marks) first stop m = dead_later marks true first stop (dead_listed marks (suc first) stop m)
dead_listed (false ∷ marks) first stop (inl e) = (0, omega arith, refl, omega (arith, e))
dead_listed (false ∷ marks) first stop (inr m) = dead_later marks false first stop (dead_listed marks (suc first) stop m)

listed_dead : (marks : List Bool) (first place stop : ℕ) → place < length marks → mark_at marks place ≡ false → stop ≡ 3 * (first + place)
    → IsIn (dead_from first marks) stop
listed_dead [] first place stop lt e is = absurd (omega arith)
listed_dead (true ∷ marks) first zero stop lt e is = absurd (false≢true (sym e))
listed_dead (true ∷ marks) first (suc place) stop lt e is = listed_dead marks (suc first) place stop (omega arith) e (omega (arith, is))
listed_dead (false ∷ marks) first zero stop lt e is = inl (omega (arith, is))
listed_dead (false ∷ marks) first (suc place) stop lt e is = inr (listed_dead marks (suc first) place stop (omega arith) e (omega (arith, is)))

pub dead_from_listed : (tnfa : Tnfa) (stop : Stop) → IsIn (dead_stops tnfa) (stop_number stop) → IsDead tnfa stop
dead_from_listed tnfa (AtState number) m =
    let d = dead_listed tnfa.live 0 (3 * number) m in
    let same : d.0 ≡ number = omega (arith, d.3) in
    subst (λ n. (n < length tnfa.live) × (mark_at tnfa.live n ≡ false)) same (d.1, d.2)
dead_from_listed tnfa (AtTarget (Leaf place)) m =
    let d = dead_listed tnfa.live 0 (stop_number (AtTarget (Leaf place))) m in absurd (omega (arith, d.3))
dead_from_listed tnfa (AtTarget (End rule)) m =
    let d = dead_listed tnfa.live 0 (stop_number (AtTarget (End rule))) m in absurd (omega (arith, d.3))

pub dead_to_listed : (tnfa : Tnfa) (stop : Stop) → IsDead tnfa stop → IsIn (dead_stops tnfa) (stop_number stop)
dead_to_listed tnfa (AtState number) d = listed_dead tnfa.live 0 number (3 * number) d.0 d.1 (omega arith)
dead_to_listed tnfa (AtTarget target) d = absurd d

-- the steps with these choices lead to these numbers

abbrev number_or : Option Step → (default : ℕ) → ℕ
number_or None default = default
number_or (Some step) default = stop_number step.to

pub step_leads : (steps : List Step) (choice : ℕ) (step : Step) → slice_get steps choice ≡ Some step
    → (choice < length (leads steps)) × (get_or (leads steps) choice (stop_number step.to) ≡ stop_number step.to)
step_leads [] choice step e = cc
step_leads (other ∷ steps) zero step e = (omega arith, same)
  where
    same : stop_number other.to ≡ stop_number step.to
    same = ap (λ o. number_or o 0) e
step_leads (other ∷ steps) (suc choice) step e = let r = step_leads steps choice step e in (omega (arith, r.0), r.1)

pub leads_step : (steps : List Step) (choice next : ℕ) → choice < length (leads steps) → get_or (leads steps) choice next ≡ next
    → (step : Step) × (slice_get steps choice ≡ Some step) × (stop_number step.to ≡ next)
leads_step [] choice next lt e = absurd (omega arith)
leads_step (other ∷ steps) zero next lt e = (other, refl, e)
leads_step (other ∷ steps) (suc choice) next lt e = leads_step steps choice next (omega arith) e

-- a walk is a path
pub walk_path : (tnfa : Tnfa) → 0 < length tnfa.states → (from : Stop) (choices : List ℕ) (visited : List Stop) (events : List Event) (to : Stop)
    → IsWalk tnfa from choices visited events to → Path (stop_graph tnfa) (stop_number from) choices (map stop_number visited) (stop_number to)
walk_path tnfa some from [] visited events to w =
    subst (λ v. Path (stop_graph tnfa) (stop_number from) [] (map stop_number v) (stop_number to)) (sym w.0) (refl, refl, ap stop_number w.2)
walk_path tnfa some from (choice ∷ choices) visited events to w =
    let step = w.0 in
    let at = step_leads (steps_from tnfa from) choice step w.3 in
    let same = sym (stop_successors tnfa some from) in
    subst (λ v. Path (stop_graph tnfa) (stop_number from) (choice ∷ choices) (map stop_number v) (stop_number to)) (sym w.4) (
      refl,
      (
        stop_number step.to,
        subst (λ l. choice < length l) same at.0,
        subst (λ l. get_or l choice (stop_number step.to) ≡ stop_number step.to) same at.1,
        walk_path tnfa some step.to choices w.1 w.2 to w.6,
      ),
    )

-- and a path is a walk
pub path_walk : (tnfa : Tnfa) → 0 < length tnfa.states → (from : Stop) (choices numbers : List ℕ) (last : ℕ)
    → Path (stop_graph tnfa) (stop_number from) choices numbers last
    → (to : Stop) × (visited : List Stop) × (events : List Event) × (last ≡ stop_number to) × (numbers ≡ map stop_number visited)
    × IsWalk tnfa from choices visited events to
path_walk tnfa some from choices [] last p = absurd p
path_walk tnfa some from [] (number ∷ numbers) last p =
    (from, from ∷ [], [], sym p.2, ap₂ (λ a b. a ∷ b) p.0 p.1, (refl, refl, refl))
path_walk tnfa some from (choice ∷ choices) (number ∷ numbers) last p =
    let same = stop_successors tnfa some from in
    let at =
    leads_step (steps_from tnfa from) choice p.1.0 (subst (λ l. choice < length l) same p.1.1)
    (subst (λ l. get_or l choice p.1.0 ≡ p.1.0) same p.1.2) in
    let r =
    path_walk tnfa some at.0.to choices numbers last
    (subst (λ n. Path (stop_graph tnfa) n choices numbers last) (sym at.2) p.1.3) in
    (r.0, from ∷ r.1, at.0.events ++ r.2, r.3, ap₂ (λ a b. a ∷ b) p.0 r.4, (at.0, r.1, r.2, at.1, refl, refl, r.5))
