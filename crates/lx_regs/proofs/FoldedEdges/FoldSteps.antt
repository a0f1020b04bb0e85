-- One more edge is folded, and one more state.
use Rattle.std.proofs.Common.{◌≡◌, ℕ, zero, suc, ◌+◌, ◌<◌, ◌⊎◌, inl, inr, Bool, true, false, List, [], ◌∷◌, ◌++◌, length, get_or, Some, None, slice_get, Contains, refl, sym, ap, ap₂, ◌∙◌, subst, append_assoc, append-nil, take, arith, rules, ◌&&◌, ◌||◌, if◌then◌else◌, cond}
use Rattle.std.specs.Bool.{Decides}
use Rattle.std.specs.Cmp.Lexicographic.{pointwise, pointwise_decides}
use Rattle.std.specs.List.{list_any, position_or_len}
use Rattle.std.specs.Prelude.{map, not, nat_eq}
use Rattle.std.proofs.Common.{eqb-true}
use Rattle.std.proofs.Math.Seq.{get_or-append_seam}
use Rattle.std.proofs.lemmas.Bool.{cases_lt}
use Rattle.std.proofs.lemmas.List.{get_or_append_left, length_push, map_push, take_more}
use Rattle.std.proofs.lemmas.List.Elements.{Contains-append_cases, Contains-append_left, Contains-append_right}
use Rattle.indexmap.specs.IndexSet.{insert_key}
use Rattle.lx_auto.specs.contracts.ops.OpPartialEq.TheImpl as op
use Rattle.lx_auto.specs.declared.automaton.Edge.{Edge}
use Rattle.lx_auto.specs.declared.automaton.State.{State}
use Rattle.lx_auto.specs.declared.ops.Op.{Op}
use Rattle.lx_auto.specs.Automaton.{AreApart, AreApartFrom}
use Rattle.lx_auto.proofs.Edges.{AreApartFrom-earlier}
use Rattle.lx_auto.proofs.Places.{Contains-one}
use Rattle.lx_auto.proofs.SameLists.{map-where}
use Rattle.lx_regs.specs.contracts.folding.EdgeClassPartialEq.TheImpl.{eq-value}
use Rattle.lx_regs.specs.declared.folding.EdgeClass.{EdgeClass}
use Rattle.lx_regs.specs.declared.folding.Fold.{Fold}
use Rattle.lx_regs.specs.FoldedEdges.{AreFolded, AreFoldedStates, IsFoldedList, IsFoldedState, LeadAsOne, edge_at, folds_at, unfolded_edge, unfolded_state, unfolded_states}
use Rattle.lx_regs.proofs.FoldedEdges.UnfoldedStates.{length-unfolded}

-- ---- classes

same_op : (one other : Op) → op.eq-value.it one other ≡ true → one ≡ other
same_op one other e = search rules

op_same : (one other : Op) → one ≡ other → op.eq-value.it one other ≡ true
op_same one other e = search rules

Decides-ops : (ops others : List Op) → Decides (pointwise op.eq-value.it ops others) (ops ≡ others)
Decides-ops = pointwise_decides (λ one other. (same_op one other, op_same one other))

both-true : (a b : Bool) → (a && b) ≡ true → (a ≡ true) × (b ≡ true)
both-true true b e = (refl, e)
both-true false b e = absurd (cc e)

classes-lead : (class other : EdgeClass) → eq-value.it class other ≡ true → LeadAsOne class.edge.now other.edge.now
classes-lead class other e =
    let both = both-true (nat_eq class.edge.now.to other.edge.now.to) (pointwise op.eq-value.it class.edge.now.ops other.edge.now.ops) e in
    (eqb-true class.edge.now.to other.edge.now.to both.0, (Decides-ops class.edge.now.ops other.edge.now.ops).0 both.1)

abbrev pub first_edges : List EdgeClass → List Edge
first_edges classes = map (λ class. class.edge.now) classes

position-none : (test : EdgeClass → Bool) (classes : List EdgeClass) → list_any test classes ≡ false
    → position_or_len test classes ≡ length classes
position-none test [] none = refl
position-none test (class ∷ classes) none = at (test class) none (λ h. position-none test classes h)
  where
    at : (b : Bool) → (b || list_any test classes) ≡ false → (list_any test classes ≡ false → position_or_len test classes ≡ length classes)
        → cond (not b) (1 + position_or_len test classes) 0 ≡ suc (length classes)
    at true none rest = absurd (cc none)
    at false none rest = let e = rest none in omega (arith, e)

length-firsts : (classes : List EdgeClass) → length (first_edges classes) ≡ length classes
length-firsts [] = refl
length-firsts (class ∷ classes) = ap suc (length-firsts classes)

stored-edge : (classes : List EdgeClass) (place : ℕ) (class : EdgeClass) → slice_get classes place ≡ Some class
    → (place < length (first_edges classes)) × (edge_at (first_edges classes) place ≡ class.edge.now)
stored-edge [] place class is = absurd (cc is)
stored-edge (first ∷ classes) zero class is =
    (omega arith, (let same : first ≡ class = cc is in ap (λ (c : EdgeClass). c.edge.now) same))
stored-edge (first ∷ classes) (suc place) class is = let rest = stored-edge classes place class is in (omega (arith, rest.0), rest.1)

-- ---- edges

-- the edges so far are given again, and what is kept is apart wherever they are
pub record IsFoldedFront (front kept : List Edge) (folds : List Fold) : Type 0 where
  pub again : map (unfolded_edge kept) folds ≡ front
  pub folded : AreFolded kept folds
  pub apart : (low : ℕ) (rest : List Edge) → AreApartFrom low (front ++ rest) → AreApartFrom low (kept ++ rest)

pub IsFoldedFront-empty : IsFoldedFront [] [] []
IsFoldedFront-empty = record {
  again = refl;
  folded = record { within = λ fold has. absurd (none fold has); noted = λ place within. absurd (omega arith) };
  apart = λ low rest apart. apart;
} where
  none : (fold : Fold) → Contains [] fold → ⊥
  none fold (place, within, is) = omega arith

apart-without : (low : ℕ) (front : List Edge) (edge : Edge) (rest : List Edge) → AreApartFrom low (front ++ edge ∷ rest)
    → AreApartFrom low (front ++ rest)
apart-without low [] edge rest (from, ordered, later) = AreApartFrom-earlier (edge.hi + 1) low rest (omega arith) later
apart-without low (first ∷ front) edge rest (from, ordered, later) = (from, ordered, apart-without (first.hi + 1) front edge rest later)

module _ (front kept : List Edge) (folds : List Fold) (edge : Edge) (is : IsFoldedFront front kept folds) where
  abbrev noted_at : ℕ → Fold
  noted_at place = record { lo = edge.lo; hi = edge.hi; place = place }

  apart-next : (low : ℕ) (rest : List Edge) → AreApartFrom low ((front ++ edge ∷ []) ++ rest) → AreApartFrom low (kept ++ edge ∷ rest)
  apart-next low rest apart = is.apart low (edge ∷ rest) (subst (AreApartFrom low) (append_assoc front (edge ∷ []) rest) apart)

  -- an edge of a class that is kept
  front-old : (place : ℕ) → place < length kept → LeadAsOne edge (edge_at kept place)
      → IsFoldedFront (front ++ edge ∷ []) kept (folds ++ noted_at place ∷ [])
  front-old place below same = record {
    again = map_push (unfolded_edge kept) folds (noted_at place) ∙ ap₂ (λ l e. l ++ e ∷ []) is.again last;
    folded = record { within = within; noted = noted };
    apart = λ low rest apart. apart-without low kept edge rest (apart-next low rest apart);
  } where
    last : unfolded_edge kept (noted_at place) ≡ edge
    last = λ i. record { lo = edge.lo; hi = edge.hi; ops = sym same.1 i; to = sym same.0 i }

    by : (fold : Fold) → Contains folds fold ⊎ Contains (noted_at place ∷ []) fold → fold.place < length kept
    by fold (inl earlier) = is.folded.within fold earlier
    by fold (inr has) = subst (λ (f : Fold). f.place < length kept) (Contains-one (noted_at place) fold has) below

    within : (fold : Fold) → Contains (folds ++ noted_at place ∷ []) fold → fold.place < length kept
    within fold has = by fold (Contains-append_cases folds (noted_at place ∷ []) fold has)

    noted : (other : ℕ) → other < length kept → (fold : Fold) × Contains (folds ++ noted_at place ∷ []) fold × (fold.place ≡ other)
    noted other lt =
        let found = is.folded.noted other lt in (found.0, Contains-append_left folds (noted_at place ∷ []) found.0 found.1, found.2)

  -- the first edge of a class
  front-new : (place : ℕ) → place ≡ length kept → IsFoldedFront (front ++ edge ∷ []) (kept ++ edge ∷ []) (folds ++ noted_at place ∷ [])
  front-new place new = record {
    again = map_push (unfolded_edge (kept ++ edge ∷ [])) folds (noted_at place) ∙ ap₂ (λ l e. l ++ e ∷ []) (earlier ∙ is.again) last;
    folded = record { within = within; noted = noted };
    apart = λ low rest apart. subst (AreApartFrom low) (sym (append_assoc kept (edge ∷ []) rest)) (apart-next low rest apart);
  } where
    more : length (kept ++ edge ∷ []) ≡ length kept + 1
    more = length_push kept edge

    earlier : map (unfolded_edge (kept ++ edge ∷ [])) folds ≡ map (unfolded_edge kept) folds
    earlier = map-where (unfolded_edge (kept ++ edge ∷ [])) (unfolded_edge kept) folds (λ fold has. one fold (is.folded.within fold has))
      where
        one : (fold : Fold) → fold.place < length kept → unfolded_edge (kept ++ edge ∷ []) fold ≡ unfolded_edge kept fold
        one fold lt =
            ap (λ (e : Edge). record { lo = fold.lo; hi = fold.hi; ops = e.ops; to = e.to })
            (get_or_append_left kept (edge ∷ []) (record { lo = 0; hi = 0; ops = []; to = 0 }) fold.place lt)

    last : unfolded_edge (kept ++ edge ∷ []) (noted_at place) ≡ edge
    last =
        ap (λ (e : Edge). record { lo = edge.lo; hi = edge.hi; ops = e.ops; to = e.to })
        (ap (λ p. edge_at (kept ++ edge ∷ []) p) new ∙ get_or-append_seam kept edge [] (record { lo = 0; hi = 0; ops = []; to = 0 }))

    by : (fold : Fold) → Contains folds fold ⊎ Contains (noted_at place ∷ []) fold → fold.place < length (kept ++ edge ∷ [])
    by fold (inl has) = let lt = is.folded.within fold has in omega (arith, lt, more)
    by fold (inr has) =
        let lt : place < length (kept ++ edge ∷ []) = omega (arith, more, new) in
        subst (λ (f : Fold). f.place < length (kept ++ edge ∷ [])) (Contains-one (noted_at place) fold has) lt

    within : (fold : Fold) → Contains (folds ++ noted_at place ∷ []) fold → fold.place < length (kept ++ edge ∷ [])
    within fold has = by fold (Contains-append_cases folds (noted_at place ∷ []) fold has)

    noted : (other : ℕ) → other < length (kept ++ edge ∷ [])
        → (fold : Fold) × Contains (folds ++ noted_at place ∷ []) fold × (fold.place ≡ other)
    noted other lt = elim (cases_lt other (length kept)) [
      | inl below ↦
          let found = is.folded.noted other below in (found.0, Contains-append_left folds (noted_at place ∷ []) found.0 found.1, found.2)
      | inr past ↦ (
        noted_at place,
        Contains-append_right folds (noted_at place ∷ []) (noted_at place) (0, omega arith, refl),
        (let e : place ≡ other = omega (arith, more, new, past, lt) in e),
      )
    ]

module _ (classes new : List EdgeClass) (class : EdgeClass) (place : ℕ) (front : List Edge) (folds : List Fold) where
  pub front-inserted : IsFoldedFront front (first_edges classes) folds → new ≡ insert_key eq-value.it classes class
      → place ≡ position_or_len (eq-value.it class) classes
      → (stored : EdgeClass) × (slice_get new place ≡ Some stored) × (eq-value.it class stored ≡ true)
      → IsFoldedFront (front ++ class.edge.now ∷ []) (first_edges new)
      (folds ++ record { lo = class.edge.now.lo; hi = class.edge.now.hi; place = place } ∷ [])
  front-inserted is inserted index (stored, got, same) = at (list_any (eq-value.it class) classes) refl inserted
    where
      at : (b : Bool) → list_any (eq-value.it class) classes ≡ b → new ≡ (if b then classes else classes ++ class ∷ [])
          → IsFoldedFront (front ++ class.edge.now ∷ []) (first_edges new)
          (folds ++ record { lo = class.edge.now.lo; hi = class.edge.now.hi; place = place } ∷ [])
      at true any old =
          let found = stored-edge classes place stored (subst (λ l. slice_get l place ≡ Some stored) old got) in
          subst (λ l. IsFoldedFront (front ++ class.edge.now ∷ []) (first_edges l)
          (folds ++ record { lo = class.edge.now.lo; hi = class.edge.now.hi; place = place } ∷ [])) (sym old)
          (front-old front (first_edges classes) folds class.edge.now is place found.0
          (subst (λ e. LeadAsOne class.edge.now e) (sym found.1) (classes-lead class stored same)))
      at false none more =
          subst (λ l. IsFoldedFront (front ++ class.edge.now ∷ []) l
          (folds ++ record { lo = class.edge.now.lo; hi = class.edge.now.hi; place = place } ∷ []))
          (sym (ap first_edges more ∙ map_push (λ (c : EdgeClass). c.edge.now) classes class))
          (front-new front (first_edges classes) folds class.edge.now is place
          (index ∙ position-none (eq-value.it class) classes none ∙ sym (length-firsts classes)))

pub IsFoldedList-all : (edges front kept : List Edge) (folds : List Fold) → front ≡ edges → IsFoldedFront front kept folds
    → IsFoldedList edges kept folds
IsFoldedList-all edges front kept folds all is = record {
  again = is.again ∙ all;
  folded = is.folded;
  apart = λ apart.
      subst (λ l. AreApart l) (append-nil kept)
      (is.apart 0 [] (subst (λ l. AreApart l) (sym (append-nil front)) (subst (λ l. AreApart l) (sym all) apart)));
}

-- ---- states

taken-alike : {X Y : Type 0} (xs : List X) (ys : List Y) (number : ℕ) → number < length xs → number < length ys
    → length (take number xs) ≡ length (take number ys)
taken-alike [] ys number one other = absurd (omega arith)
taken-alike (x ∷ xs) [] number one other = absurd (omega arith)
taken-alike (x ∷ xs) (y ∷ ys) zero one other = refl
taken-alike (x ∷ xs) (y ∷ ys) (suc number) one other = ap suc (taken-alike xs ys number (omega arith) (omega arith))

pub unfolded-pushed : (states : List State) (lists : List (List Fold)) (state : State) (folds : List Fold) → length lists ≡ length states
    → unfolded_states (states ++ state ∷ []) (lists ++ folds ∷ []) ≡ unfolded_states states lists ++ unfolded_state state folds ∷ []
unfolded-pushed [] [] state folds count = refl
unfolded-pushed [] (list ∷ lists) state folds count = absurd (omega arith)
unfolded-pushed (first ∷ states) [] state folds count = absurd (omega arith)
unfolded-pushed (first ∷ states) (list ∷ lists) state folds count =
    ap (λ l. unfolded_state first list ∷ l) (unfolded-pushed states lists state folds (omega arith))

-- one more state is passed
pub taken-unfolded : (states : List State) (lists : List (List Fold)) (number : ℕ) (state : State) (folds : List Fold)
    → length lists ≡ length states → number < length states → state ≡ get_or states number state → folds ≡ folds_at lists number
    → unfolded_states (take (number + 1) states) (take (number + 1) lists)
    ≡ unfolded_states (take number states) (take number lists) ++ unfolded_state state folds ∷ []
taken-unfolded states lists number state folds count within is noted =
    let also : number < length lists = omega (arith, count, within) in
    ap₂ (λ (l : List State) (m : List (List Fold)). unfolded_states l m)
    (take_more states number state within ∙ ap (λ (s : State). take number states ++ s ∷ []) (sym is))
    (take_more lists number [] also ∙ ap (λ (f : List Fold). take number lists ++ f ∷ []) (sym noted))
    ∙ unfolded-pushed (take number states) (take number lists) state folds (taken-alike lists states number also within)

-- what holds at all places of two lists holds where each gets one more
pushed-all : {X Y : Type 0} (P : X → Y → Type 0) (d : X) (e : Y) (xs : List X) (ys : List Y) (x : X) (y : Y) → length xs ≡ length ys
    → ((place : ℕ) → P (get_or xs place d) (get_or ys place e)) → P x y
    → (place : ℕ) → P (get_or (xs ++ x ∷ []) place d) (get_or (ys ++ y ∷ []) place e)
pushed-all P d e [] [] x y count all last zero = last
pushed-all P d e [] [] x y count all last (suc place) = all place
pushed-all P d e [] (other ∷ ys) x y count all last place = absurd (omega arith)
pushed-all P d e (one ∷ xs) [] x y count all last place = absurd (omega arith)
pushed-all P d e (one ∷ xs) (other ∷ ys) x y count all last zero = all 0
pushed-all P d e (one ∷ xs) (other ∷ ys) x y count all last (suc place) =
    pushed-all P d e xs ys x y (omega arith) (λ p. all (suc p)) last place

pub AreFoldedStates-empty : AreFoldedStates [] [] []
AreFoldedStates-empty = record {
  count = refl;
  again = refl;
  folded = λ number. IsFoldedFront-empty.folded;
  apart = λ number apart. apart;
}

pub states-pushed : (front states : List State) (lists : List (List Fold)) (given state : State) (folds : List Fold)
    → AreFoldedStates front states lists → IsFoldedState given state folds
    → AreFoldedStates (front ++ given ∷ []) (states ++ state ∷ []) (lists ++ folds ∷ [])
states-pushed front states lists given state folds are is = record {
  count =
      let one = length_push lists folds in let other = length_push states state in let same = are.count in omega (arith, one, other, same);
  again = unfolded-pushed states lists state folds are.count ∙ ap₂ (λ l s. l ++ s ∷ []) are.again is.again;
  folded = pushed-all (λ (s : State) (l : List Fold). AreFolded s.edges l) (record { edges = []; accept = None; leave = [] }) []
      states lists state folds (sym are.count) are.folded is.folded;
  apart = pushed-all (λ (g s : State). AreApart g.edges → AreApart s.edges) (record { edges = []; accept = None; leave = [] })
      (record { edges = []; accept = None; leave = [] }) front states given state
      (sym (ap length are.again) ∙ length-unfolded states lists) are.apart is.apart;
}
