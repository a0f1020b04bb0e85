-- Each word that begins a match has its list of places in the table, and leads to the state of this list.
use Rattle.std.proofs.Common.{ap, sym, ◌∙◌, subst, inl, inr, ⊎_elim, arith}
use Rattle.std.proofs.lemmas.Option.{get_or_from_slice_get}
use Rattle.std.specs.Prelude.{◌≡◌, ◌≢◌, ℕ, zero, suc, ◌<◌, ◌≤◌, ◌⊎◌, List, [], ◌∷◌, ◌++◌, map, length, reverse, Option, Some, None, Bool, true, false, All, slice_get, refl}
use Rattle.lx_auto.specs.Automaton.{edge_on}
use Rattle.lx_auto.specs.declared.automaton.Auto.{Auto}
use Rattle.lx_auto.specs.declared.automaton.Edge.{Edge}
use Rattle.lx_auto.specs.declared.automaton.State.{State}
use Rattle.lx_base.specs.declared.settings.Enc.{Enc}
use Rattle.lx_base.specs.Spelling.{greatest_unit}
use Rattle.lx_regex.specs.Kernel.{IsWord}
use Rattle.lx_regex.specs.Pattern.{Pattern, terms_of}
use Rattle.lx_regex.specs.Term.{Term}
use Rattle.lx_tnfa.specs.Tnfa.{IsPlace, IsTnfaOf, Tnfa}
use Rattle.lx_tnfa.specs.declared.places.Place.{Place}
use Rattle.lx_tnfa.proofs.Searching.SearchBasics.{Each}
use Rattle.lx_tnfa.proofs.Searching.SearchPaths.{All-from_each}
use Rattle.lx_tdfa.specs.Kernels.{kernel_after, places, places_step}
use Rattle.lx_tdfa.specs.KernelStates.{next, state_behind, target_of}
use Rattle.lx_tdfa.specs.Searches.{and_then}
use Rattle.lx_tdfa.specs.Steps.{IsInLeaf, Step, next_steps, places_of, start_place}
use Rattle.lx_tdfa.specs.Table.{IsEdgeOf, IsTable}
use Rattle.lx_tdfa.proofs.LeastWords.SearchedWords.{walk-push}
use Rattle.lx_tdfa.proofs.Walks.ClosureSearches.{SearchesAlike, number_of}
use Rattle.lx_tdfa.proofs.WordKernels.KernelWords.{first_numbers, numbers_on}
use Rattle.lx_tdfa.proofs.WordKernels.ProgramKernels.{forwards-reverse, kernel_after-step}
use Rattle.lx_tdfa.proofs.Rules.StepPlaces.{next_steps-in_leaf, start_place-place}
use Rattle.lx_tdfa.proofs.Values.ValueSteps.{forwards}

word_front : (enc : Enc) (rules : List Term) (a b : List ℕ) → IsWord enc rules (a ++ b) → IsWord enc rules a
word_front enc rules [] b p = tt
word_front enc rules (x ∷ a) b p = (p.0, word_front enc rules a b p.1)

word_last : (enc : Enc) (rules : List Term) (a : List ℕ) (unit : ℕ) → IsWord enc rules (a ++ unit ∷ []) → unit ≤ greatest_unit enc
word_last enc rules [] unit p = p.0
word_last enc rules (x ∷ a) unit p = word_last enc rules a unit p.1

-- what a list has, a list of the same length has too
also_at : {A B : Type 0} (xs : List A) (ys : List B) (index : ℕ) (x : A) → length xs ≡ length ys → slice_get xs index ≡ Some x
    → (y : B) × (slice_get ys index ≡ Some y)
also_at [] ys index x e at = cc
also_at (first ∷ xs) [] index x e at = absurd (omega arith)
also_at (first ∷ xs) (y ∷ ys) zero x e at = (y, refl)
also_at (first ∷ xs) (y ∷ ys) (suc index) x e at = also_at xs ys index x (omega arith) at

module _ (enc : Enc) (patterns : List Pattern) (tnfa : Tnfa) (kernels : List (List Place)) where
  -- where in the table the places of a word stand: first the start, then those of other words
  pub data StandsAt : (word : List ℕ) → (index : ℕ) → List Place → Type 0 where
    at_first : StandsAt [] 0 (start_place ∷ [])
    at_word : (word : List ℕ) (number : ℕ) (kernel : List Place) → word ≢ []
        → map (number_of tnfa) kernel ≡ places (kernel_after tnfa (terms_of patterns) word) → StandsAt word (suc number) kernel

  pub record InTable (word : List ℕ) : Type 0 where
    pub index : ℕ
    pub kernel : List Place
    pub at : slice_get kernels index ≡ Some kernel
    pub stands : StandsAt word index kernel
    pub full : kernel ≢ []

  -- a word leads to no state and has no places, or to the state of its places
  abbrev pub Leads : (word : List ℕ) → (to : Option ℕ) → Type 0
  Leads word to =
      ((to ≡ None) × (places (kernel_after tnfa (terms_of patterns) word) ≡ [])) ⊎ ((has : InTable word) × (to ≡ Some has.index))

module _ (enc : Enc) (patterns : List Pattern) (tnfa : Tnfa) (of : IsTnfaOf enc patterns tnfa) (alike : SearchesAlike patterns tnfa)
    (kernels : List (List Place)) (auto : Auto) (table : IsTable tnfa (greatest_unit enc) kernels auto) where
  abbrev places_at : List ℕ → List ℕ
  places_at word = places (kernel_after tnfa (terms_of patterns) word)

  -- where an edge leads
  edge_leads : (word : List ℕ) (unit : ℕ) (first : Bool) (steps : List Step) (edge : Option Edge) → IsEdgeOf tnfa kernels first steps (places_of steps) edge
      → map (number_of tnfa) (places_of steps) ≡ places_at (word ++ unit ∷ []) → Each (λ (step : Step). IsInLeaf tnfa step.to) steps
      → Leads enc patterns tnfa kernels (word ++ unit ∷ []) (target_of edge)
  edge_leads word unit first [] None is same leaves = inl (refl, sym same)
  edge_leads word unit first [] (Some edge) is same leaves = absurd is
  edge_leads word unit first (step ∷ steps) None is same leaves = absurd is
  edge_leads word unit first (step ∷ steps) (Some edge) is same leaves = at edge.to is.0
    where
      none : (word : List ℕ) → word ++ unit ∷ [] ≡ [] → ⊥
      none [] e = cc
      none (x ∷ word) e = cc

      at : (index : ℕ) → slice_get kernels index ≡ Some (places_of (step ∷ steps))
          → Leads enc patterns tnfa kernels (word ++ unit ∷ []) (Some index)
      at zero here =
          let start = table.start in
          let first : step.to ≡ start_place = cc in
          let part : 0 < step.to.part = leaves.0.1 in
          let zero : step.to.part ≡ 0 = ap (λ (p : Place). p.part) first in
          absurd (omega arith)
      at (suc number) here = inr (
        record {
          index = suc number;
          kernel = places_of (step ∷ steps);
          at = here;
          stands = at_word (word ++ unit ∷ []) number (places_of (step ∷ steps)) (none word) same;
          full = λ e. cc;
        },
        refl,
      )

  -- the edges of the state with a number
  by_state : (word : List ℕ) (unit index : ℕ) (state : State) → slice_get auto.states index ≡ Some state
      → Leads enc patterns tnfa kernels word (target_of (edge_on state.edges unit)) → Leads enc patterns tnfa kernels word (next auto index unit)
  by_state word unit index state at leads =
      subst (λ (s : State). Leads enc patterns tnfa kernels word (target_of (edge_on s.edges unit)))
      (sym (get_or_from_slice_get auto.states index state (record { edges = []; accept = None; leave = [] }) at)) leads

  -- from a list in the table on
  table_on : (word : List ℕ) (unit : ℕ) (index : ℕ) (kernel : List Place) → unit ≤ greatest_unit enc → slice_get kernels index ≡ Some kernel
      → StandsAt enc patterns tnfa kernels word index kernel → Leads enc patterns tnfa kernels (word ++ unit ∷ []) (next auto index unit)
  table_on word unit index kernel le here at_first =
      let state = also_at kernels auto.states 0 (start_place ∷ []) table.lists here in
      let is = table.states 0 (start_place ∷ []) state.0 here state.1 in
      let start : All (IsPlace tnfa) (start_place ∷ []) = All-from_each (IsPlace tnfa) (start_place ∷ []) (start_place-place enc patterns tnfa of, tt) in
      by_state (unit ∷ []) unit 0 state.0 state.1
      (edge_leads [] unit true (next_steps tnfa unit is.reaches) (edge_on state.0.edges unit) (is.is.edges unit le)
      (first_numbers enc patterns tnfa of alike is.reaches unit is.closure)
      (next_steps-in_leaf enc patterns tnfa of (start_place ∷ []) is.reaches unit start is.closure))
  table_on word unit index kernel le here (at_word w number k some same) =
      let state = also_at kernels auto.states (suc number) kernel table.lists here in
      let is = table.states (suc number) kernel state.0 here state.1 in
      let leaves = table.places number kernel here in
      by_state (word ++ unit ∷ []) unit (suc number) state.0 state.1
      (edge_leads word unit false (next_steps tnfa unit is.reaches) (edge_on state.0.edges unit) (is.is.edges unit le)
      (numbers_on enc patterns tnfa of alike kernel is.reaches word unit leaves is.closure same)
      (next_steps-in_leaf enc patterns tnfa of kernel is.reaches unit (λ k d lt. (leaves k d lt).0) is.closure))

  -- no places are left
  none_on : (word : List ℕ) (unit : ℕ) → places_at word ≡ [] → places_at (word ++ unit ∷ []) ≡ []
  none_on word unit none =
      kernel_after-step tnfa (terms_of patterns) word unit ∙ ap (λ l. places_step tnfa (terms_of patterns) l unit) none

  word_stands : (w : List ℕ) → IsWord enc (terms_of patterns) (forwards w)
      → Leads enc patterns tnfa kernels (forwards w) (state_behind auto (forwards w))
  word_stands [] spelled =
      inr (record { index = 0; kernel = start_place ∷ []; at = table.start; stands = at_first; full = λ e. cc }, refl)
  word_stands (unit ∷ w) spelled =
      let front = forwards w in
      subst (λ to. Leads enc patterns tnfa kernels (front ++ unit ∷ []) to) (sym (walk-push (next auto) 0 front unit))
      (⊎_elim
      (λ (none : (state_behind auto front ≡ None) × (places_at front ≡ [])).
      inl (ap (λ to. and_then to (λ last. next auto last unit)) none.0, none_on front unit none.1))
      (λ (has : (has : InTable enc patterns tnfa kernels front) × (state_behind auto front ≡ Some has.index)).
      subst (λ to. Leads enc patterns tnfa kernels (front ++ unit ∷ []) (and_then to (λ last. next auto last unit))) (sym has.1)
      (table_on front unit has.0.index has.0.kernel (word_last enc (terms_of patterns) front unit spelled) has.0.at has.0.stands))
      (word_stands w (word_front enc (terms_of patterns) front (unit ∷ []) spelled)))

  pub word_leads : (word : List ℕ) → IsWord enc (terms_of patterns) word → Leads enc patterns tnfa kernels word (state_behind auto word)
  word_leads word spelled =
      let e = forwards-reverse word in
      subst (λ v. Leads enc patterns tnfa kernels v (state_behind auto v)) e
      (word_stands (reverse word) (subst (IsWord enc (terms_of patterns)) (sym e) spelled))

  -- a word begins no match, or its places stand in the table
  pub word_in_table : (word : List ℕ) → IsWord enc (terms_of patterns) word → (places_at word ≡ []) ⊎ InTable enc patterns tnfa kernels word
  word_in_table word spelled = ⊎_elim (λ none. inl none.1) (λ has. inr has.0) (word_leads word spelled)
