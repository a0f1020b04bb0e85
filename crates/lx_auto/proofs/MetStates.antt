-- A search meets the states to which walks come, and no other.
use Rattle.std.proofs.Common.{◌≡◌, inl, inr, ℕ, zero, suc, ◌+◌, ◌<◌, ◌≤◌, List, [], ◌∷◌, ◌++◌, length, get_or, set, Bool, true, false, Contains, sym, ap, ◌∙◌, subst, arith}
use Rattle.std.specs.Prelude.{All}
use Rattle.std.proofs.Math.Seq.{get_or-append_seam}
use Rattle.std.proofs.lemmas.Bool.{cases_eq, cases_lt}
use Rattle.std.proofs.lemmas.List.{get_or-set_other, get_or_append_left, length-set, length_push}
use Rattle.std.proofs.lemmas.List.Sums.{sum_by-set}
use Rattle.lx_auto.specs.declared.automaton.Auto.{Auto}
use Rattle.lx_auto.specs.declared.automaton.Edge.{Edge}
use Rattle.lx_auto.specs.Automaton.{IsAuto, LeadWithin, state_of}
use Rattle.lx_auto.specs.Points.{IsReached, Point, begins, goes_on, left_behind}
use Rattle.lx_auto.proofs.States.{state_formed}
use Rattle.lx_auto.specs.declared.walks.Search.{Search}
use Rattle.lx_auto.specs.MetStates.{AreMet, ArePassed, Grows, HasMet, IsSearch, IsSearchOf, StandsBelow, is_marked, newness}
use Rattle.lx_auto.specs.Points.{IsMet}

-- ---- edges

leads_within : (regs mregs count : ℕ) (edges : List Edge) → LeadWithin regs mregs count edges → All (λ (edge : Edge). edge.to < count) edges
leads_within regs mregs count [] lead place d lt = absurd (omega arith)
leads_within regs mregs count (edge ∷ edges) lead zero d lt = lead.0
leads_within regs mregs count (edge ∷ edges) lead (suc place) d lt = leads_within regs mregs count edges lead.2 place d (omega arith)

pub targets_within : (auto : Auto) (state : ℕ) → IsAuto auto
    → All (λ (edge : Edge). edge.to < length auto.states) (state_of auto.states state).edges
targets_within auto state is =
    leads_within auto.regs auto.mregs (length auto.states) (state_of auto.states state).edges (state_formed auto state is).lead

pub met-behind : (auto : Auto) (state : ℕ) (edge : Edge) → IsMet auto state → Contains (state_of auto.states state).edges edge
    → IsMet auto edge.to
met-behind auto state edge (left, reached) has =
    (left_behind auto (record { state = state; left = left }), goes_on (record { state = state; left = left }) edge reached has)

-- ---- lists that grow at their end

stands-pushed : (states : List ℕ) (last state : ℕ) → StandsBelow states (length states) state
    → StandsBelow (states ++ last ∷ []) (length (states ++ last ∷ [])) state
stands-pushed states last state stands =
    let more = length_push states last in
    let lt : stands.0 < length states = stands.1 in
    (stands.0, omega (arith, more), get_or_append_left states (last ∷ []) 0 stands.0 lt ∙ stands.2)

stands-last : (states : List ℕ) (last : ℕ) → StandsBelow (states ++ last ∷ []) (length (states ++ last ∷ [])) last
stands-last states last =
    let more = length_push states last in (length states, omega (arith, more), get_or-append_seam states last [] 0)

pushed-all : (P : ℕ → Type 0) (states : List ℕ) (last : ℕ) → ((place : ℕ) → place < length states → P (get_or states place 0)) → P last
    → (place : ℕ) → place < length (states ++ last ∷ []) → P (get_or (states ++ last ∷ []) place 0)
pushed-all P states last all is place lt = elim (cases_lt place (length states)) [
  | inl front ↦ subst P (sym (get_or_append_left states (last ∷ []) 0 place front)) (all place front)
  | inr ge ↦
      let more = length_push states last in
      let same : length states ≡ place = omega (arith, more) in
      subst (λ k. P (get_or (states ++ last ∷ []) k 0)) same (subst P (sym (get_or-append_seam states last [] 0)) is)
]

-- ---- the search

module _ (auto : Auto) where
  pub search-more : (marks : List Bool) (order : List ℕ) (state : ℕ) → IsSearchOf auto marks order → state < length auto.states
      → is_marked marks state ≡ false → IsMet auto state → IsSearchOf auto (set marks state true) (order ++ state ∷ [])
  search-more marks order state is within new met =
      let fit : length marks ≡ length auto.states = is.fit in
      let in_marks : state < length marks = omega arith in
      record {
        fit = length-set marks state true ∙ is.fit;
        total =
            let fewer = sum_by-set newness marks state true false in_marks in
            let one : newness (get_or marks state false) ≡ 1 = ap newness new in
            let more = length_push order state in
            omega (arith, fewer, one, more, is.total);
        within = pushed-all (λ s. s < length auto.states) order state is.within within;
        met = pushed-all (IsMet auto) order state is.met met;
        listed = λ other marked. elim (cases_eq other state) [
          | inl same ↦ subst (λ s. StandsBelow (order ++ state ∷ []) (length (order ++ state ∷ [])) s) (sym same) (stands-last order state)
          | inr apart ↦ stands-pushed order state other
              (is.listed other (sym (get_or-set_other marks state other true false apart) ∙ marked))
        ];
      }

pub grows-on : (first middle last : Search) → Grows first middle → Grows middle last → Grows first last
grows-on first middle last one other =
    let long : length first.order.items ≤ length middle.order.items = one.long in
    let longer : length middle.order.items ≤ length last.order.items = other.long in
    record {
      marks = λ state is. other.marks state (one.marks state is);
      long = omega arith;
      order = λ place lt. other.order place (omega arith) ∙ one.order place lt;
    }

-- one more state of the list
pub passed-more : (auto : Auto) (before after : Search) (place : ℕ) → place < length before.order.items → Grows before after
    → ArePassed auto before place
    → ((edge : Edge) → Contains (state_of auto.states (get_or before.order.items place 0)).edges edge → HasMet after edge.to)
    → ArePassed auto after (place + 1)
passed-more auto before after place within grows passed now other edge lt has =
    let same : get_or after.order.items other 0 ≡ get_or before.order.items other 0 = grows.order other (omega arith) in
    let in_before = subst (λ s. Contains (state_of auto.states s).edges edge) same has in
    elim (cases_lt other place) [
      | inl early ↦ grows.marks edge.to (passed other edge early in_before)
      | inr ge ↦
          let last : other ≡ place = omega arith in
          now edge (subst (λ k. Contains (state_of auto.states (get_or before.order.items k 0)).edges edge) last in_before)
    ]

-- where all states of the list are passed, all states to which walks come are marked
module _ (auto : Auto) (search : Search) (is : IsSearch auto search) (start : HasMet search 0) (bound : ℕ)
    (all : length search.order.items ≤ bound) (passed : ArePassed auto search bound) where
  marked-behind : (state : ℕ) (edge : Edge) → Contains (state_of auto.states state).edges edge → HasMet search state → HasMet search edge.to
  marked-behind state edge has met =
      let stands = is.listed state met in
      let lt : stands.0 < length search.order.items = stands.1 in
      passed stands.0 edge (omega arith) (subst (λ s. Contains (state_of auto.states s).edges edge) (sym stands.2) has)

  reached-marked : (point : Point) → IsReached auto point → HasMet search point.state
  reached-marked _ begins = start
  reached-marked _ (goes_on point edge reached has) = marked-behind point.state edge has (reached-marked point reached)

  pub all-met : AreMet auto search.marks.items
  all-met = record {
    fit = is.fit;
    sound = λ state marked. let stands = is.listed state marked in subst (IsMet auto) stands.2 (is.met stands.0 stands.1);
    complete = λ state (left, reached). reached-marked (record { state = state; left = left }) reached;
  }
