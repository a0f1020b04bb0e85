-- The states of kernels, one behind another.
use Rattle.std.proofs.Common.{◌≡◌, ℕ, ◌+◌, ◌<◌, ◌≤◌, inl, inr, arith, Bool, List, [], ◌∷◌, ◌++◌, length, Option, Some, None, sym, ap, ap₂, ◌∙◌, subst}
use Rattle.std.proofs.lemmas.List.{append-nil, append_assoc, length-append, length-map}
use Rattle.std.proofs.lemmas.Option.{slice_get-get_or, slice_get_within}
use Rattle.std.specs.Option.{IfSome, option_map}
use Rattle.std.specs.Prelude.{slice_get, slice_index_or, sum_by}
use Rattle.lx_auto.specs.Automaton.{AreApart}
use Rattle.lx_auto.specs.declared.automaton.State.{State}
use Rattle.lx_tnfa.specs.Closure.{IsClosureOf}
use Rattle.lx_tnfa.specs.Tnfa.{Tnfa}
use Rattle.lx_tnfa.specs.declared.closure.Reach.{Reach}
use Rattle.lx_tnfa.proofs.Searching.SearchPaths.{Each-from_all}
use Rattle.lx_tdfa.specs.Building.{greatest_of}
use Rattle.lx_tdfa.specs.Edges.{AreEdgesBefore, CutSteps, GoesOnAlike}
use Rattle.lx_tdfa.specs.Making.{seen_ending}
use Rattle.lx_tdfa.specs.Steps.{Ending, Step, first_ending, places_of}
use Rattle.lx_tdfa.specs.Table.{accept_of, is_first, leave_of}
use Rattle.lx_tdfa.specs.declared.steps.Ending as held
use Rattle.lx_tdfa.proofs.Loops.EdgeSteps.{next_steps-alike, step_indices-alike}
use Rattle.lx_tdfa.proofs.Loops.EdgesMade.{length-among}
use Rattle.lx_tdfa.proofs.Loops.StateLists.{IsStateBy-more}
use Rattle.lx_tdfa.proofs.Loops.StatesMade.{EndBy-all, closure_sources, first_ending-source}
use Rattle.lx_tdfa.proofs.Walks.ListReads.{slice_get-behind, slice_get-front}
use Rattle.lx_posix.specs.Closures.{IsClosure, IsClosureReached, IsReachedUnder, kept_behind, onward_of}
use Rattle.lx_posix.specs.Determining.{AreListed, AreStatesOf, Grows, IsStateOf}
use Rattle.lx_posix.specs.KeptKernels.{places_in}
use Rattle.lx_posix.specs.declared.closures.Closure.{Closure}
use Rattle.lx_posix.specs.declared.kept.Kept.{Kept}

-- between cuts a kernel goes on over each unit in the same way
pub goes-alike : (tnfa : Tnfa) (closure : Closure) (ending : Option Ending) (cuts : List ℕ) → CutSteps tnfa closure.targets.reaches.items cuts
    → GoesOnAlike (onward_of tnfa closure ending) cuts
goes-alike tnfa closure ending cuts separate first second le none =
    let steps = next_steps-alike tnfa closure.targets.reaches.items cuts separate first second le none in (
      steps,
      ap₂ (λ (l : List Step) (is : List ℕ). kept_behind tnfa closure None (places_of l) is) steps
          (step_indices-alike tnfa closure.targets.reaches.items cuts separate first second le none),
    )

module _ (tnfa : Tnfa) where
  pub grows-itself : (kernels : List (List Kept)) → AreListed tnfa kernels → Grows tnfa kernels kernels
  grows-itself kernels listed = record { later = []; kernels = sym (append-nil kernels); listed = listed }

  pub grows-more : (start kernels new : List (List Kept)) → Grows tnfa start kernels → Grows tnfa kernels new → Grows tnfa start new
  grows-more start kernels new first second = record {
    later = first.later ++ second.later;
    kernels = second.kernels ∙ ap (λ l. l ++ second.later) first.kernels ∙ append_assoc start first.later second.later;
    listed = second.listed;
  }

  -- ---- one state

  module _ (kernels : List (List Kept)) (listed : AreListed tnfa kernels) (number : ℕ) (kernel : List Kept) (there : Some kernel ≡ slice_get kernels number) where
    pub kernel-reached : (first : Bool) → first ≡ is_first number → IsReachedUnder tnfa first kernel
    kernel-reached first same =
        subst (λ b. IsReachedUnder tnfa b kernel) (sym same)
        (λ enc patterns of fits. listed.reached enc patterns of fits number kernel (sym there))

    pub kernel-short : length kernel ≤ 1048576
    kernel-short =
        let among : length kernel ≤ sum_by length kernels = length-among kernels number kernel (sym there) in
        let few : sum_by length kernels ≤ 1048576 = listed.within.few_places in omega (arith, among, few)

    pub closure-reached : (first : Bool) → first ≡ is_first number → (closure : Closure) → IsClosure tnfa first kernel closure
        → IsClosureReached tnfa first closure
    closure-reached first same closure is = record {
      kernel = kernel;
      reached = kernel-reached first same;
      short = kernel-short;
      is = is;
    }

    pub places-short : length (places_in kernel) ≤ 1048576
    places-short = let same = length-map kernel (λ (kept : Kept). kept.place) in omega (arith, kernel-short, same)

    pub kernel-ending : (reaches : List Reach) → IsClosureOf tnfa (places_in kernel) reaches → (ending : Option held.Ending)
        → option_map seen_ending ending ≡ first_ending reaches → IfSome ending (λ (e : held.Ending). e.reach.now.from < 1048576)
    kernel-ending reaches is None same = tt
    kernel-ending reaches is (Some ending) same =
        first_ending-source 1048576 reaches
        (Each-from_all (λ (reach : Reach). reach.from < 1048576) reaches
        (closure_sources tnfa 1048576 (places_in kernel) reaches is places-short))
        (seen_ending ending) (sym same)

    pub state-made : (new : List (List Kept)) (first : Bool) (closure : Closure) (reaches : List Reach) (ending : Option held.Ending) (state : State)
        → IsClosure tnfa first kernel closure → IsClosureOf tnfa (places_in kernel) reaches → option_map seen_ending ending ≡ first_ending reaches
        → first ≡ is_first number → AreEdgesBefore tnfa (greatest_of tnfa) new first (onward_of tnfa closure None) None state.edges
        → state.accept ≡ accept_of tnfa first (option_map seen_ending ending) → state.leave ≡ leave_of tnfa first (option_map seen_ending ending)
        → (other : List Kept) → slice_get kernels number ≡ Some other
        → IsStateOf tnfa new (is_first number) other state × AreApart state.edges
    state-made new first closure reaches ending state goes ends same begins edges accept leave other at =
        subst (λ (l : List Kept). IsStateOf tnfa new (is_first number) l state × AreApart state.edges)
        (let e : Some kernel ≡ Some other = there ∙ at in let q : kernel ≡ other = cc e in q) (
          subst (λ b. IsStateOf tnfa new b kernel state) begins
              (record {
                closure = closure;
                goes = goes;
                reaches = reaches;
                ends = ends;
                is = record {
                  edges = λ unit le. edges.right unit le tt;
                  units = EndBy-all (greatest_of tnfa) state.edges edges.units;
                  accept = accept ∙ ap (λ o. accept_of tnfa first o) same;
                  leave = leave ∙ ap (λ o. leave_of tnfa first o) same;
                };
              }),
          edges.apart,
        )

  IsStateOf-more : (kernels later : List (List Kept)) (first : Bool) (kernel : List Kept) (state : State)
      → IsStateOf tnfa kernels first kernel state → IsStateOf tnfa (kernels ++ later) first kernel state
  IsStateOf-more kernels later first kernel state is = record {
    closure = is.closure;
    goes = is.goes;
    reaches = is.reaches;
    ends = is.ends;
    is = IsStateBy-more tnfa (greatest_of tnfa) kernels later first (onward_of tnfa is.closure (first_ending is.reaches)) state is.is;
  }

-- ---- one state more

module _ (tnfa : Tnfa) (start kernels new : List (List Kept)) (grown : Grows tnfa start kernels) (grows : Grows tnfa kernels new) (states : List State)
    (are : AreStatesOf tnfa kernels states) (number : ℕ) (count : length states ≡ number) (within : number < length kernels) (state : State)
    (made : (kernel : List Kept) → slice_get kernels number ≡ Some kernel → IsStateOf tnfa new (is_first number) kernel state × AreApart state.edges) where
  -- a kernel that is there has its place in what came of the kernels
  kept : (index : ℕ) (kernel : List Kept) → index < length kernels → slice_get new index ≡ Some kernel → slice_get kernels index ≡ Some kernel
  kept index kernel lt e =
      let here : slice_get kernels index ≡ Some (slice_index_or kernels index []) = slice_get-get_or kernels index [] lt in
      let there : slice_get new index ≡ Some (slice_index_or kernels index []) =
      ap (λ l. slice_get l index) grows.kernels ∙ slice_get-front kernels grows.later index (slice_index_or kernels index []) here in
      here ∙ sym there ∙ e

  states_more : AreStatesOf tnfa new (states ++ state ∷ [])
  states_more index kernel other e f = elim (slice_get-behind states state other index f) [
    | inl early ↦
        let lt : index < length states = slice_get_within states index other early in
        let old = are index kernel other (kept index kernel (omega (arith, lt, count, within)) e) early in (
          subst (λ l. IsStateOf tnfa l (is_first index) kernel other) (sym grows.kernels)
              (IsStateOf-more tnfa kernels grows.later (is_first index) kernel other old.0),
          old.1,
        )
    | inr last ↦
        let same : number ≡ index = sym count ∙ sym last.0 in
        let at : slice_get kernels number ≡ Some kernel =
        ap (λ n. slice_get kernels n) same ∙ kept index kernel (omega (arith, same, within)) e in
        let now = made kernel at in (
          subst (λ n. IsStateOf tnfa new (is_first n) kernel other) same
              (subst (λ s. IsStateOf tnfa new (is_first number) kernel s) last.1 now.0),
          subst (λ (s : State). AreApart s.edges) last.1 now.1,
        )
  ]

  pub states-more : (next : List State) → next ≡ states ++ state ∷ []
      → Grows tnfa start new × (length next ≡ number + 1) × (number + 1 ≤ length new) × AreStatesOf tnfa new next
  states-more next is =
      let longer : length new ≡ length kernels + length grows.later = ap (λ l. length l) grows.kernels ∙ length-append kernels grows.later in
      let more : length next ≡ length states + 1 = ap (λ l. length l) is ∙ length-append states (state ∷ []) in (
        grows-more tnfa start kernels new grown grows,
        omega (arith, more, count),
        omega (arith, longer, within),
        subst (λ l. AreStatesOf tnfa new l) (sym is) states_more,
      )
