-- Where the runs of the automaton of a table stand.
use Rattle.std.proofs.Common.{◌≡◌, ◌≢◌, ℕ, zero, suc, ◌+◌, ◌<◌, ◌≤◌, List, [], ◌∷◌, ◌++◌, map, length, Option, Some, None, Bool, true, false, Contains, slice_get, slice_index, refl, ◌∙◌, sym, subst, subst₂, arith, append-nil, append_assoc, length-append}
use Rattle.std.proofs.lemmas.Option.{get_or_from_slice_get, slice_get-get_or, slice_get_within}
use Rattle.lx_auto.specs.Automaton.{AreOps, edge_on, state_of}
use Rattle.lx_auto.specs.Bank.{Bank, bank_after}
use Rattle.lx_auto.specs.Run.{Left, Standing, and_then, behind_edge, by_edge, left_after, run, start_with, step}
use Rattle.lx_auto.specs.declared.automaton.Auto.{Auto}
use Rattle.lx_auto.specs.declared.automaton.Edge.{Edge}
use Rattle.lx_auto.specs.declared.automaton.State.{State}
use Rattle.lx_auto.specs.declared.ops.Op.{Op}
use Rattle.lx_auto.proofs.Banks.{bank_after-0}
use Rattle.lx_auto.proofs.OneEdge.{edge_on-is}
use Rattle.lx_auto.proofs.States.{edge_on-leads, state_formed}
use Rattle.lx_base.specs.Spelling.{greatest_unit}
use Rattle.lx_base.specs.declared.settings.Enc.{Enc}
use Rattle.lx_regex.specs.Order.{Policy}
use Rattle.lx_regex.specs.Pattern.{Pattern, terms_of}
use Rattle.lx_tnfa.specs.Tnfa.{Tnfa}
use Rattle.lx_tnfa.specs.declared.places.Place.{Place}
use Rattle.lx_tdfa.specs.Kernels.{Candidate, places}
use Rattle.lx_tdfa.specs.Registers.{first_of, held_from, kinds_of_rule, step_ops, widest}
use Rattle.lx_tdfa.specs.Steps.{Ending, Step, places_of}
use Rattle.lx_tdfa.specs.Table.{IsEdgeOf, IsStateBy, IsTableBy, Onward, accept_of, is_first, leave_of}
use Rattle.lx_tdfa.proofs.Tables.Courses.{Course, IsHeldAt, KeepUp}
use Rattle.lx_tdfa.proofs.Values.RegisterWrites.{AllAvoid}
use Rattle.lx_tdfa.proofs.Values.StepHolds.{Holds, holds-avoid, holds-start, holds-step}
use Rattle.lx_tdfa.proofs.Values.StepOps.{ending_ops-avoid, first_of-width, kinds_of_rule-widest, step_ops-avoid}
use Rattle.lx_tdfa.proofs.Walks.ClosureSearches.{AreAlike}

-- values of the state that was left last are held in the first registers
abbrev pub IsLeft : Tnfa → Option Left → Type 0
IsLeft tnfa None = Unit {0}
IsLeft tnfa (Some left) = (kinds : List Bool) × (left.accept.values ≡ held_from 0 kinds) × (length kinds ≤ widest tnfa.rules)

pub contained : {X : Type 0} (xs : List X) (index : ℕ) (x : X) → slice_get xs index ≡ Some x → Contains xs x
contained xs index x at = (index, slice_get_within xs index x at, get_or_from_slice_get xs index x x at)

-- what is done where a state is left writes the first registers alone
pub leave_of-avoid : (tnfa : Tnfa) (first : Bool) (ending : Option Ending) (reg : ℕ) → widest tnfa.rules ≤ reg → AllAvoid reg (leave_of tnfa first ending)
leave_of-avoid tnfa first None reg above = tt
leave_of-avoid tnfa first (Some ending) reg above =
    ending_ops-avoid tnfa (widest tnfa.rules) (kinds_of_rule-widest tnfa) first ending reg above

left_after-left : (tnfa : Tnfa) (first : Bool) (ending : Option Ending) (behind : Standing) → IsLeft tnfa behind.left
    → IsLeft tnfa (left_after (accept_of tnfa first ending) behind)
left_after-left tnfa first None behind left = left
left_after-left tnfa first (Some ending) behind left = (kinds_of_rule tnfa ending.rule, refl, kinds_of_rule-widest tnfa ending.rule)

-- A run stands behind a word in the state of the word's kernel, and registers hold the values beside its places.
pub record Stands {policy : Policy} {enc : Enc} {patterns : List Pattern} {tnfa : Tnfa} (course : Course policy enc patterns tnfa) {K : Type 0}
    (places_in : K → List Place) (IsAfter : (first : Bool) → K → (word : List ℕ) → Type 0) (kernels : List K) (start : ℕ) (word : List ℕ)
    (behind : Standing) : Type 0 where
  pub first : Bool
  pub is : is_first behind.state ≡ first
  pub kernel : K
  pub at : slice_get kernels behind.state ≡ Some kernel
  pub after : IsAfter first kernel word
  pub empty : first ≡ true → word ≡ []
  pub offset : behind.offset ≡ start + length word
  pub zero_empty : behind.bank.mregs 0 ≡ []
  pub holds : Holds course first start (places_in kernel) word behind.bank
  pub left : IsLeft tnfa behind.left

module _ {policy : Policy} {enc : Enc} {patterns : List Pattern} {tnfa : Tnfa} {course : Course policy enc patterns tnfa} {K : Type 0}
    {begin : K} {places_in : K → List Place} {GoesOn : (first : Bool) → K → Onward K → Type 0}
    {IsAfter : (first : Bool) → K → (word : List ℕ) → Type 0} (keeps : KeepUp course begin places_in GoesOn IsAfter) {kernels : List K} {auto : Auto}
    (table : IsTableBy begin GoesOn tnfa (greatest_unit enc) kernels auto) where
  -- how the state with this number goes on
  pub record Goes (number : ℕ) (first : Bool) (kernel : K) : Type 0 where
    pub onward : Onward K
    pub goes : GoesOn first kernel onward
    pub is : IsStateBy tnfa (greatest_unit enc) kernels first onward (state_of auto.states number)

  state_is : (number : ℕ) (kernel : K) → slice_get kernels number ≡ Some kernel → Goes number (is_first number) kernel
  state_is number kernel at =
      let within : number < length kernels = slice_get_within kernels number kernel at in
      let lists : length kernels ≡ length auto.states = table.lists in
      let there : number < length auto.states = omega arith in
      let is =
      table.states number kernel (state_of auto.states number) at
      (slice_get-get_or auto.states number (record { edges = []; accept = None; leave = [] }) there) in
      record { onward = is.0; goes = is.1; is = is.2 }

  pub stands-start : (start : ℕ) (bank : Bank) → bank.mregs 0 ≡ [] → Stands course places_in IsAfter kernels start [] (start_with start bank)
  stands-start start bank empty = record {
    first = true;
    is = refl;
    kernel = begin;
    at = table.start;
    after = keeps.start;
    empty = λ e. refl;
    offset = omega arith;
    zero_empty = empty;
    holds = holds-start course start (places_in begin) [] bank;
    left = tt;
  }

  -- an edge of steps leads to another state than the first
  not_first : (kernel : K) → kernel ≢ begin → (number : ℕ) → slice_get kernels number ≡ Some kernel → is_first number ≡ false
  not_first kernel other zero at = let start : kernel ≡ begin = cc (at, table.start) in absurd (other start)
  not_first kernel other (suc number) at = refl

  module _ (start : ℕ) (word : List ℕ) (behind : Standing) (stands : Stands course places_in IsAfter kernels start word behind) where
    abbrev state : State
    state = state_of auto.states behind.state

    pub state_at : Goes behind.state stands.first stands.kernel
    state_at = subst (λ b. Goes behind.state b stands.kernel) stands.is (state_is behind.state stands.kernel stands.at)

    -- steps go on as segments do from the list behind the word
    pub alike_at : (unit : ℕ)
        → AreAlike tnfa (terms_of patterns) stands.first (places (course.entries word)) unit (course.segments word unit) (state_at.onward.steps unit)
    alike_at unit = keeps.alike stands.first stands.kernel word state_at.onward unit stands.after state_at.goes

    stands-edge : (unit : ℕ) (edge : Edge) (s : Step) (ss : List Step) → state_at.onward.steps unit ≡ s ∷ ss
        → slice_get kernels edge.to ≡ Some (state_at.onward.next unit) → edge.ops ≡ step_ops tnfa (widest tnfa.rules) stands.first 0 (s ∷ ss)
        → AreOps auto.regs auto.mregs edge.ops → Stands course places_in IsAfter kernels start (word ++ unit ∷ []) (behind_edge state behind edge)
    stands-edge unit edge s ss e to ops are =
        let bank : Bank = bank_after behind.offset state.leave behind.bank in
        let empty : bank.mregs 0 ≡ [] =
        bank_after-0 auto.regs auto.mregs behind.offset state.leave behind.bank (state_formed auto behind.state table.formed).leave stands.zero_empty in
        let alike : AreAlike tnfa (terms_of patterns) stands.first (places (course.entries word)) unit (course.segments word unit) (s ∷ ss) =
        subst (λ l. AreAlike tnfa (terms_of patterns) stands.first (places (course.entries word)) unit (course.segments word unit) l) e (alike_at unit) in
        let held : Holds course stands.first start (places_in stands.kernel) word bank =
        holds-avoid course stands.first start (places_in stands.kernel) word behind.bank stands.holds behind.offset state.leave
        (λ reg above. subst (λ l. AllAvoid reg l) (sym state_at.is.leave) (leave_of-avoid tnfa stands.first state_at.onward.ending reg above)) in
        let sources : (x : Step) → Contains (s ∷ ss) x → IsHeldAt tnfa stands.first (places_in stands.kernel) x.from (slice_index tnfa.owners x.to.part) =
        (λ x within. keeps.held stands.first stands.kernel state_at.onward unit x state_at.goes (subst (λ l. Contains l x) (sym e) within)) in
        let on : Holds course false start (places_of (s ∷ ss)) (word ++ unit ∷ [])
        (bank_after (start + length word) (step_ops tnfa (widest tnfa.rules) stands.first 0 (s ∷ ss)) bank) =
        holds-step course stands.first start (places_in stands.kernel) word bank held unit (s ∷ ss) alike stands.empty sources empty in
        let next = keeps.onward stands.first stands.kernel word state_at.onward unit s ss stands.after state_at.goes e in
        record {
          first = false;
          is = not_first (state_at.onward.next unit) next.2 edge.to to;
          kernel = state_at.onward.next unit;
          at = to;
          after = next.0;
          empty = λ e. cc e;
          offset = (let here : behind.offset ≡ start + length word = stands.offset in let l : length (word ++ unit ∷ []) ≡ length word + 1 = length-append word (unit ∷ []) in omega arith);
          zero_empty = bank_after-0 auto.regs auto.mregs behind.offset edge.ops bank are empty;
          holds = subst₂ (λ (n : ℕ) (l : List Op). Holds course false start (places_in (state_at.onward.next unit)) (word ++ unit ∷ []) (bank_after n l bank))
              (sym stands.offset) (sym ops)
              (subst (λ l. Holds course false start l (word ++ unit ∷ []) (bank_after (start + length word) (step_ops tnfa (widest tnfa.rules) stands.first 0 (s ∷ ss)) bank)) (sym next.1) on);
          left = subst (λ a. IsLeft tnfa (left_after a behind)) (sym state_at.is.accept) (left_after-left tnfa stands.first state_at.onward.ending behind stands.left);
        }

    -- an edge is on a unit up to the greatest
    unit_fits : (unit : ℕ) (edge : Edge) → edge_on state.edges unit ≡ Some edge → unit ≤ greatest_unit enc
    unit_fits unit edge on =
        let found = edge_on-is state.edges unit edge on in
        let high : edge.hi ≤ greatest_unit enc = subst (λ (x : Edge). x.hi ≤ greatest_unit enc) (found.0).2 (state_at.is.units (found.0).0 edge (found.0).1) in
        let below : unit ≤ edge.hi = found.2 in
        omega arith

    -- what an edge on a unit is for
    edge_is : (unit : ℕ) → unit ≤ greatest_unit enc → (edge : Option Edge) → edge_on state.edges unit ≡ edge
        → IsEdgeOf tnfa kernels stands.first (state_at.onward.steps unit) (state_at.onward.next unit) edge
    edge_is unit fits edge on = subst (λ o. IsEdgeOf tnfa kernels stands.first (state_at.onward.steps unit) (state_at.onward.next unit) o) on (state_at.is.edges unit fits)

    ops_on : (unit : ℕ) (edge : Edge) → edge_on state.edges unit ≡ Some edge → AreOps auto.regs auto.mregs edge.ops
    ops_on unit edge on =
        (edge_on-leads auto.regs auto.mregs (length auto.states) state.edges unit edge (state_formed auto behind.state table.formed).lead on).1

    stands-on : (unit : ℕ) (edge : Edge) → edge_on state.edges unit ≡ Some edge
        → Stands course places_in IsAfter kernels start (word ++ unit ∷ []) (behind_edge state behind edge)
    stands-on unit edge on = by_steps (state_at.onward.steps unit) refl (edge_is unit (unit_fits unit edge on) (Some edge) on)
      where
        by_steps : (steps : List Step) → state_at.onward.steps unit ≡ steps → IsEdgeOf tnfa kernels stands.first steps (state_at.onward.next unit) (Some edge)
            → Stands course places_in IsAfter kernels start (word ++ unit ∷ []) (behind_edge state behind edge)
        by_steps [] e is = absurd is
        by_steps (s ∷ ss) e is = stands-edge unit edge s ss e is.0 is.1 (ops_on unit edge on)

    -- the operations of an edge leave the first registers alone
    pub edge_ops : (unit : ℕ) (edge : Edge) → edge_on (state_of auto.states behind.state).edges unit ≡ Some edge → (reg : ℕ) → reg < widest tnfa.rules
        → AllAvoid reg edge.ops
    edge_ops unit edge on reg within = by_steps (state_at.onward.steps unit) (edge_is unit (unit_fits unit edge on) (Some edge) on)
      where
        by_steps : (steps : List Step) → IsEdgeOf tnfa kernels stands.first steps (state_at.onward.next unit) (Some edge) → AllAvoid reg edge.ops
        by_steps [] is = absurd is
        by_steps (s ∷ ss) is =
            let wide : widest tnfa.rules ≤ first_of (widest tnfa.rules) 0 = first_of-width (widest tnfa.rules) 0 in
            let below : reg < first_of (widest tnfa.rules) 0 = omega arith in
            subst (λ l. AllAvoid reg l) (sym is.1)
            (step_ops-avoid tnfa (widest tnfa.rules) (kinds_of_rule-widest tnfa) stands.first 0 (s ∷ ss) reg below)

    pub stands-step : (unit : ℕ) (next : Standing) → step auto behind unit ≡ Some next → Stands course places_in IsAfter kernels start (word ++ unit ∷ []) next
    stands-step unit next stepped = by_edges (edge_on state.edges unit) refl stepped
      where
        by_edges : (found : Option Edge) → edge_on state.edges unit ≡ found → by_edge state behind found ≡ Some next
            → Stands course places_in IsAfter kernels start (word ++ unit ∷ []) next
        by_edges None on stepped = absurd (cc stepped)
        by_edges (Some edge) on stepped =
            let same : behind_edge state behind edge ≡ next = cc stepped in
            subst (λ x. Stands course places_in IsAfter kernels start (word ++ unit ∷ []) x) same (stands-on unit edge on)

    -- where there is no edge, no candidate leads on
    pub stuck : (unit : ℕ) → unit ≤ greatest_unit enc → step auto behind unit ≡ None → places (course.entries (word ++ unit ∷ [])) ≡ []
    stuck unit fits stepped = by_edges (edge_on state.edges unit) refl stepped
      where
        by_steps : (steps : List Step) (candidates : List Candidate) → IsEdgeOf tnfa kernels stands.first steps (state_at.onward.next unit) None
            → AreAlike tnfa (terms_of patterns) stands.first (places (course.entries word)) unit candidates steps
            → map (λ (candidate : Candidate). candidate.to) candidates ≡ []
        by_steps [] [] is alike = refl
        by_steps [] (candidate ∷ candidates) is alike = absurd alike
        by_steps (s ∷ ss) candidates is alike = absurd is

        by_edges : (found : Option Edge) → edge_on state.edges unit ≡ found → by_edge state behind found ≡ None
            → places (course.entries (word ++ unit ∷ [])) ≡ []
        by_edges None on stepped =
            course.onward word unit
            ∙ by_steps (state_at.onward.steps unit) (course.segments word unit)
            (edge_is unit fits None on) (alike_at unit)
        by_edges (Some edge) on stepped = absurd (cc stepped)

  pub stands-run : (start : ℕ) (rest word : List ℕ) (behind next : Standing) → Stands course places_in IsAfter kernels start word behind
      → run auto behind rest ≡ Some next → Stands course places_in IsAfter kernels start (word ++ rest) next
  stands-run start [] word behind next stands ran =
      let same : behind ≡ next = cc ran in
      subst₂ (λ (w : List ℕ) (s : Standing). Stands course places_in IsAfter kernels start w s) (sym (append-nil word)) same stands
  stands-run start (unit ∷ rest) word behind next stands ran =
      by_step (step auto behind unit) refl ran (λ middle. stands-run start rest (word ++ unit ∷ []) middle next)
    where
      by_step : (found : Option Standing) → step auto behind unit ≡ found → and_then found (λ middle. run auto middle rest) ≡ Some next
          → ((middle : Standing) → Stands course places_in IsAfter kernels start (word ++ unit ∷ []) middle → run auto middle rest ≡ Some next
          → Stands course places_in IsAfter kernels start ((word ++ unit ∷ []) ++ rest) next)
          → Stands course places_in IsAfter kernels start (word ++ unit ∷ rest) next
      by_step None stepped ran onward = absurd (cc ran)
      by_step (Some middle) stepped ran onward =
          subst (λ w. Stands course places_in IsAfter kernels start w next) (append_assoc word (unit ∷ []) rest)
          (onward middle (stands-step start word behind stands unit middle stepped) ran)
