-- What steps do on a unit: joined steps do what the steps do of which they are made, and two lists of joined steps that differ do not do
-- the same on some unit.
use Rattle.std.proofs.Common.{◌≡◌, ◌⊎◌, inl, inr, ℕ, ◌+◌, ◌<◌, ◌≤◌, List, [], ◌∷◌, map, Option, Some, None, Bool, true, false, refl, nat_le, ◌&&◌, if◌then◌else◌, sym, ap, ◌∙◌, subst, arith}
use Rattle.std.specs.Option.{option_map}
use Rattle.std.specs.Prelude.{◌≢◌}
use Rattle.std.proofs.Math.Bool.{and-false}
use Rattle.std.proofs.lemmas.Bool.{cases_eq, cases_lt, cases_order, le-leb, lt-leb}
use Rattle.lx_auto.specs.declared.automaton.Edge.{Edge}
use Rattle.lx_auto.specs.declared.ops.Op.{Op}
use Rattle.lx_auto.specs.Automaton.{AreApartFrom, edge_on, has_unit}
use Rattle.lx_min.specs.declared.joined.Step.{Step}
use Rattle.lx_min.specs.Joined.{continues, joined, joined_to, step_of}
use Rattle.lx_min.specs.Looks.{way_of}
use Rattle.lx_min.proofs.JoinedSteps.{Continues, Continues-true, as_one, joined_to-no, joined_to-yes, true-Continues}

-- what a step does, and where it leads
pub record Move : Type 0 where
  pub leave : ℕ
  pub ops : ℕ
  pub class : ℕ

abbrev pub move_of : Step → Move
move_of step = record { leave = step.leave; ops = step.ops; class = step.class }

abbrev takes : Step → (unit : ℕ) → Bool
takes step unit = nat_le step.lo unit && nat_le unit step.hi

-- what the first step does that has the unit
abbrev pub move_on : List Step → (unit : ℕ) → Option Move
move_on [] unit = None
move_on (step ∷ steps) unit = if nat_le step.lo unit && nat_le unit step.hi then Some (move_of step) else move_on steps unit

-- steps in ascending order, apart from one another
abbrev pub AreStepsFrom : (low : ℕ) → List Step → Type 0
AreStepsFrom low [] = Unit {0}
AreStepsFrom low (step ∷ steps) = (low ≤ step.lo) × (step.lo ≤ step.hi) × AreStepsFrom (step.hi + 1) steps

-- no step continues this one
abbrev pub IsLast : Step → List Step → Type 0
IsLast step [] = Unit {0}
IsLast step (next ∷ steps) = continues step next ≡ false

-- the same, and none continues the one before it
abbrev pub AreJoinedFrom : (low : ℕ) → List Step → Type 0
AreJoinedFrom low [] = Unit {0}
AreJoinedFrom low (step ∷ steps) = (low ≤ step.lo) × (step.lo ≤ step.hi) × IsLast step steps × AreJoinedFrom (step.hi + 1) steps

move_on-here : (step : Step) (steps : List Step) (unit : ℕ) → step.lo ≤ unit → unit ≤ step.hi
    → move_on (step ∷ steps) unit ≡ Some (move_of step)
move_on-here step steps unit from to =
    let within : takes step unit ≡ true = ap (λ b. b && nat_le unit step.hi) (le-leb step.lo unit from) ∙ le-leb unit step.hi to in
    ap (λ b. if b then Some (move_of step) else move_on steps unit) within

move_on-below : (step : Step) (steps : List Step) (unit : ℕ) → unit < step.lo → move_on (step ∷ steps) unit ≡ move_on steps unit
move_on-below step steps unit below =
    let outside : takes step unit ≡ false = ap (λ b. b && nat_le unit step.hi) (lt-leb step.lo unit below) in
    ap (λ b. if b then Some (move_of step) else move_on steps unit) outside

move_on-past : (step : Step) (steps : List Step) (unit : ℕ) → step.hi < unit → move_on (step ∷ steps) unit ≡ move_on steps unit
move_on-past step steps unit past =
    let outside : takes step unit ≡ false =
    ap (λ b. nat_le step.lo unit && b) (lt-leb unit step.hi past) ∙ and-false (nat_le step.lo unit) in
    ap (λ b. if b then Some (move_of step) else move_on steps unit) outside

-- ---- joined steps

AreStepsFrom-joined : (low : ℕ) (steps : List Step) → AreJoinedFrom low steps → AreStepsFrom low steps
AreStepsFrom-joined low [] are = tt
AreStepsFrom-joined low (step ∷ steps) are = (are.0, are.1, AreStepsFrom-joined (step.hi + 1) steps are.3)

move_on-before : (low : ℕ) (steps : List Step) (unit : ℕ) → AreStepsFrom low steps → unit < low → move_on steps unit ≡ None
move_on-before low [] unit are below = refl
move_on-before low (step ∷ steps) unit are below =
    move_on-below step steps unit (omega arith) ∙ move_on-before (step.hi + 1) steps unit are.2 (omega arith)

IsLast-one : (step next : Step) (steps : List Step) → IsLast next steps → IsLast (as_one step next) steps
IsLast-one step next [] is = tt
IsLast-one step next (other ∷ steps) is = is

joined_to-joined : (low : ℕ) (step : Step) (steps : List Step) → low ≤ step.lo → step.lo ≤ step.hi → AreJoinedFrom (step.hi + 1) steps
    → AreJoinedFrom low (joined_to step steps)
joined_to-joined low step [] from to are = (from, to, tt, tt)
joined_to-joined low step (next ∷ steps) from to are = at (continues step next) refl
  where
    at : (b : Bool) → continues step next ≡ b → AreJoinedFrom low (joined_to step (next ∷ steps))
    at true is =
        subst (AreJoinedFrom low) (sym (joined_to-yes step next steps is))
        (from, let first = are.0 in let ordered = are.1 in omega arith, IsLast-one step next steps are.2, are.3)
    at false is = subst (AreJoinedFrom low) (sym (joined_to-no step next steps is)) (from, to, is, are)

pub joined-joined : (low : ℕ) (steps : List Step) → AreStepsFrom low steps → AreJoinedFrom low (joined steps)
joined-joined low [] are = tt
joined-joined low (step ∷ steps) are =
    joined_to-joined low step (joined steps) are.0 are.1 (joined-joined (step.hi + 1) steps are.2)

move_on-joined_to : (step : Step) (steps : List Step) (unit : ℕ) → step.lo ≤ step.hi → AreJoinedFrom (step.hi + 1) steps
    → move_on (joined_to step steps) unit ≡ move_on (step ∷ steps) unit
move_on-joined_to step [] unit ordered are = refl
move_on-joined_to step (next ∷ steps) unit ordered are = at (continues step next) refl
  where
    same : Continues step next → move_of next ≡ move_of step
    same is = let leave = is.leave in let ops = is.ops in let class = is.class in cc

    one : Continues step next → move_on (as_one step next ∷ steps) unit ≡ move_on (step ∷ next ∷ steps) unit
    one is =
        let touches : step.hi + 1 ≡ next.lo = is.touches in
        let next_ordered : next.lo ≤ next.hi = are.1 in
        elim (cases_lt unit step.lo) [
          | inl below ↦
              move_on-below (as_one step next) steps unit below ∙ sym (move_on-below next steps unit (omega arith))
              ∙ sym (move_on-below step (next ∷ steps) unit below)
          | inr from ↦ elim (cases_lt step.hi unit) [
            | inr to ↦
                move_on-here (as_one step next) steps unit from (omega arith) ∙ ap Some (same is)
                ∙ sym (move_on-here step (next ∷ steps) unit from to)
            | inl past ↦ elim (cases_lt next.hi unit) [
              | inr to ↦
                  move_on-here (as_one step next) steps unit from to ∙ sym (move_on-here next steps unit (omega arith) to)
                  ∙ sym (move_on-past step (next ∷ steps) unit past)
              | inl behind ↦
                  move_on-past (as_one step next) steps unit behind ∙ sym (move_on-past next steps unit behind)
                  ∙ sym (move_on-past step (next ∷ steps) unit past)
            ]
          ]
        ]

    at : (b : Bool) → continues step next ≡ b → move_on (joined_to step (next ∷ steps)) unit ≡ move_on (step ∷ next ∷ steps) unit
    at true is = ap (λ l. move_on l unit) (joined_to-yes step next steps is) ∙ one (Continues-true step next is)
    at false is = ap (λ l. move_on l unit) (joined_to-no step next steps is)

pub move_on-joined : (low : ℕ) (steps : List Step) (unit : ℕ) → AreStepsFrom low steps → move_on (joined steps) unit ≡ move_on steps unit
move_on-joined low [] unit are = refl
move_on-joined low (step ∷ steps) unit are =
    move_on-joined_to step (joined steps) unit are.1 (joined-joined (step.hi + 1) steps are.2)
    ∙ ap (λ rest. if takes step unit then Some (move_of step) else rest) (move_on-joined (step.hi + 1) steps unit are.2)

-- ---- lists of joined steps that differ

-- both lists do something else on some unit
abbrev pub AreToldBy : List Step → List Step → Type 0
AreToldBy steps others = (unit : ℕ) × (move_on steps unit ≢ move_on others unit)

told-turned : (steps others : List Step) → AreToldBy others steps → AreToldBy steps others
told-turned steps others (unit, differ) = (unit, λ same. differ (sym same))

-- the first begins before the others
told-lo : (low : ℕ) (step : Step) (steps others : List Step) → step.lo ≤ step.hi → AreStepsFrom low others → step.lo < low
    → AreToldBy (step ∷ steps) others
told-lo low step steps others ordered are below = (
  step.lo,
  λ same. let z : Some (move_of step) ≡ None =
      sym (move_on-here step steps step.lo (omega arith) ordered) ∙ same ∙ move_on-before low others step.lo are below in absurd cc,
)

-- behind a step something else follows
move_on-behind : (step : Step) (steps : List Step) → IsLast step steps → AreJoinedFrom (step.hi + 1) steps
    → move_on steps (step.hi + 1) ≢ Some (move_of step)
move_on-behind step [] last are same = absurd cc
move_on-behind step (next ∷ steps) last are same = at (cases_lt (step.hi + 1) next.lo)
  where
    at : (step.hi + 1 < next.lo) ⊎ (next.lo ≤ step.hi + 1) → ⊥
    at (inl gap) =
        let none = move_on-before next.lo (next ∷ steps) (step.hi + 1)
        (let ordered = are.1 in (omega arith, ordered, (AreStepsFrom-joined (step.hi + 1) (next ∷ steps) are).2)) gap in
        let z : None ≡ Some (move_of step) = sym none ∙ same in absurd cc
    at (inr near) =
        let first : step.hi + 1 ≤ next.lo = are.0 in
        let ordered : next.lo ≤ next.hi = are.1 in
        let touches : step.hi + 1 ≡ next.lo = omega arith in
        let z : Some (move_of next) ≡ Some (move_of step) =
        sym (move_on-here next steps (step.hi + 1) near (omega arith)) ∙ same in
        let moves : move_of next ≡ move_of step = cc in
        let yes : continues step next ≡ true = true-Continues step next (record {
          touches = touches;
          leave = sym (ap (λ (m : Move). m.leave) moves);
          ops = sym (ap (λ (m : Move). m.ops) moves);
          class = sym (ap (λ (m : Move). m.class) moves);
        }) in
        let both : true ≡ false = sym yes ∙ last in absurd cc

-- the first ends before the other's first
told-hi : (step other : Step) (steps others : List Step) → IsLast step steps → AreJoinedFrom (step.hi + 1) steps
    → move_of step ≡ move_of other → step.lo ≡ other.lo → step.lo ≤ step.hi → step.hi < other.hi → AreToldBy (step ∷ steps) (other ∷ others)
told-hi step other steps others last are moves lo ordered shorter = (
  step.hi + 1,
  λ same. move_on-behind step steps last are
      (sym (move_on-past step steps (step.hi + 1) (omega arith)) ∙ same
      ∙ move_on-here other others (step.hi + 1) (omega arith) (omega arith) ∙ ap Some (sym moves)),
)

told-move : (step other : Step) (steps others : List Step) → step.lo ≡ other.lo → step.lo ≤ step.hi → other.lo ≤ other.hi
    → (move_of step ≢ move_of other) → AreToldBy (step ∷ steps) (other ∷ others)
told-move step other steps others lo ordered also differ = (
  step.lo,
  λ same. differ (let z : Some (move_of step) ≡ Some (move_of other) =
      sym (move_on-here step steps step.lo (omega arith) ordered) ∙ same
      ∙ move_on-here other others step.lo (omega arith) (omega arith) in cc),
)

-- what tells the rests apart tells the lists apart
told-later : (step other : Step) (steps others : List Step) → step.hi ≡ other.hi → AreStepsFrom (step.hi + 1) steps
    → AreStepsFrom (other.hi + 1) others → AreToldBy steps others → AreToldBy (step ∷ steps) (other ∷ others)
told-later step other steps others hi are also (unit, differ) = at (cases_lt step.hi unit)
  where
    at : (step.hi < unit) ⊎ (unit ≤ step.hi) → AreToldBy (step ∷ steps) (other ∷ others)
    at (inl past) =
        (unit, λ same. differ (sym (move_on-past step steps unit past) ∙ same ∙ move_on-past other others unit (omega arith)))
    at (inr early) =
        absurd (differ (move_on-before (step.hi + 1) steps unit are (omega arith)
        ∙ sym (move_on-before (other.hi + 1) others unit also (omega arith))))

cases-move : (step other : Step) → (move_of step ≡ move_of other) ⊎ (move_of step ≢ move_of other)
cases-move step other = at (cases_eq step.leave other.leave) (cases_eq step.ops other.ops) (cases_eq step.class other.class)
  where
    at : (step.leave ≡ other.leave) ⊎ (step.leave ≢ other.leave) → (step.ops ≡ other.ops) ⊎ (step.ops ≢ other.ops)
        → (step.class ≡ other.class) ⊎ (step.class ≢ other.class) → (move_of step ≡ move_of other) ⊎ (move_of step ≢ move_of other)
    at (inl leave) (inl ops) (inl class) = inl cc
    at (inr differ) ops class = inr (λ same. differ (ap (λ (m : Move). m.leave) same))
    at (inl leave) (inr differ) class = inr (λ same. differ (ap (λ (m : Move). m.ops) same))
    at (inl leave) (inl ops) (inr differ) = inr (λ same. differ (ap (λ (m : Move). m.class) same))

pub same-or-told : (low : ℕ) (steps others : List Step) → AreJoinedFrom low steps → AreJoinedFrom low others
    → (steps ≡ others) ⊎ AreToldBy steps others
same-or-told low [] [] are also = inl refl
same-or-told low [] (other ∷ others) are also =
    inr (told-turned [] (other ∷ others) (told-lo (other.lo + 1) other others [] also.1 tt (omega arith)))
same-or-told low (step ∷ steps) [] are also = inr (told-lo (step.lo + 1) step steps [] are.1 tt (omega arith))
same-or-told low (step ∷ steps) (other ∷ others) are also =
    by_lo (cases_order step.lo other.lo) (λ hi. same-or-told (step.hi + 1) steps others are.3
    (subst (λ h. AreJoinedFrom (h + 1) others) (sym hi) also.3))
  where
    Answer : Type 0
    Answer = ((step ∷ steps) ≡ (other ∷ others)) ⊎ AreToldBy (step ∷ steps) (other ∷ others)

    from_lo : (low : ℕ) (step : Step) (steps : List Step) → AreJoinedFrom low (step ∷ steps) → AreStepsFrom step.lo (step ∷ steps)
    from_lo low step steps are = (omega arith, are.1, AreStepsFrom-joined (step.hi + 1) steps are.3)

    rest : step.lo ≡ other.lo → move_of step ≡ move_of other → step.hi ≡ other.hi → (steps ≡ others) ⊎ AreToldBy steps others → Answer
    rest lo moves hi (inl same) =
        inl (λ i. record { lo = lo i; hi = hi i; leave = (moves i).leave; ops = (moves i).ops; class = (moves i).class } ∷ same i)
    rest lo moves hi (inr told) =
        inr (told-later step other steps others hi (AreStepsFrom-joined (step.hi + 1) steps are.3)
        (AreStepsFrom-joined (other.hi + 1) others also.3) told)

    by_hi : step.lo ≡ other.lo → move_of step ≡ move_of other → (step.hi ≡ other.hi) ⊎ ((step.hi < other.hi) ⊎ (other.hi < step.hi))
        → (step.hi ≡ other.hi → (steps ≡ others) ⊎ AreToldBy steps others) → Answer
    by_hi lo moves (inl hi) more = rest lo moves hi (more hi)
    by_hi lo moves (inr (inl less)) more = inr (told-hi step other steps others are.2 are.3 moves lo are.1 less)
    by_hi lo moves (inr (inr less)) more =
        inr (told-turned (step ∷ steps) (other ∷ others)
        (told-hi other step others steps also.2 also.3 (sym moves) (sym lo) also.1 less))

    by_move : step.lo ≡ other.lo → (move_of step ≡ move_of other) ⊎ (move_of step ≢ move_of other)
        → (step.hi ≡ other.hi → (steps ≡ others) ⊎ AreToldBy steps others) → Answer
    by_move lo (inl moves) more = by_hi lo moves (cases_order step.hi other.hi) more
    by_move lo (inr differ) more = inr (told-move step other steps others lo are.1 also.1 differ)

    by_lo : (step.lo ≡ other.lo) ⊎ ((step.lo < other.lo) ⊎ (other.lo < step.lo))
        → (step.hi ≡ other.hi → (steps ≡ others) ⊎ AreToldBy steps others) → Answer
    by_lo (inl lo) more = by_move lo (cases-move step other) more
    by_lo (inr (inl less)) more =
        inr (told-lo other.lo step steps (other ∷ others) are.1 (from_lo low other others also) less)
    by_lo (inr (inr less)) more =
        inr (told-turned (step ∷ steps) (other ∷ others)
        (told-lo step.lo other others (step ∷ steps) also.1 (from_lo low step steps are) less))

-- ---- edges

module _ (class : ℕ → ℕ) (number : List Op → ℕ) (leave : List Op) where
  abbrev pub steps_of : List Edge → List Step
  steps_of edges = map (step_of class) (map (way_of number leave) edges)

  abbrev pub move_by : Edge → Move
  move_by edge = record { leave = number leave; ops = number edge.ops; class = class edge.to }

  pub AreStepsFrom-edges : (low : ℕ) (edges : List Edge) → AreApartFrom low edges → AreStepsFrom low (steps_of edges)
  AreStepsFrom-edges low [] apart = tt
  AreStepsFrom-edges low (edge ∷ edges) apart = (apart.0, apart.1, AreStepsFrom-edges (edge.hi + 1) edges apart.2)

  move_on-edges : (edges : List Edge) (unit : ℕ) → move_on (steps_of edges) unit ≡ option_map move_by (edge_on edges unit)
  move_on-edges [] unit = refl
  move_on-edges (edge ∷ edges) unit = at (has_unit edge unit) (move_on-edges edges unit)
    where
      at : (b : Bool) → move_on (steps_of edges) unit ≡ option_map move_by (edge_on edges unit)
          → (if b then Some (move_by edge) else move_on (steps_of edges) unit)
          ≡ option_map move_by (if b then Some edge else edge_on edges unit)
      at true rest = refl
      at false rest = rest

  -- joined steps do on each unit what the edge on it does
  pub move_on-joined_edges : (edges : List Edge) (unit : ℕ) → AreApartFrom 0 edges
      → move_on (joined (steps_of edges)) unit ≡ option_map move_by (edge_on edges unit)
  move_on-joined_edges edges unit apart =
      move_on-joined 0 (steps_of edges) unit (AreStepsFrom-edges 0 edges apart) ∙ move_on-edges edges unit

  pub joined-edges : (edges : List Edge) → AreApartFrom 0 edges → AreJoinedFrom 0 (joined (steps_of edges))
  joined-edges edges apart = joined-joined 0 (steps_of edges) (AreStepsFrom-edges 0 edges apart)
