-- One edge, and the kernel to which it leads.
use Rattle.std.proofs.Common.{◌≡◌, ◌≢◌, inl, inr, ℕ, zero, suc, ◌+◌, ◌/◌, ◌<◌, ◌≤◌, arith, Bool, true, false, List, [], ◌∷◌, ◌++◌, length, map, filter_map, Some, None, refl, sym, ap, ap₂, ◌∙◌, subst}
use Rattle.std.proofs.lemmas.List.{append-nil, length-map}
use Rattle.std.proofs.lemmas.Option.{slice_get_within}
use Rattle.std.specs.Prelude.{All, AllPairs, Contains, if◌then◌else◌, slice_get, slice_index_or}
use Rattle.lx_auto.specs.declared.automaton.Edge.{Edge}
use Rattle.lx_base.specs.declared.faults.Stop.{Stop}
use Rattle.lx_base.specs.declared.places.Pos.{Pos}
use Rattle.lx_base.specs.declared.settings.Enc.{Enc}
use Rattle.lx_regex.specs.ClassLimits.{AllClassesFit}
use Rattle.lx_regex.specs.Kernel.{IsWord}
use Rattle.lx_regex.specs.Pattern.{Pattern, patterns_of, terms_of}
use Rattle.lx_tnfa.specs.Closure.{AllPlaces}
use Rattle.lx_tnfa.specs.LeafReadings.{IsNth}
use Rattle.lx_tnfa.specs.Live.{mark_at, starts_in, state_of}
use Rattle.lx_tnfa.specs.Tnfa.{IsTnfaOf, Tnfa}
use Rattle.lx_encode.specs.declared.graph.Residual.{Residual}
use Rattle.lx_tnfa.specs.declared.closure.Reach.{Reach}
use Rattle.lx_tnfa.specs.declared.closure.Target.TheVariants.{Leaf}
use Rattle.lx_tnfa.specs.declared.places.Place.{Place}
use Rattle.lx_tnfa.specs.declared.states.Event.{Event}
use Rattle.lx_tnfa.proofs.Searching.SearchBasics.{Each}
use Rattle.lx_tnfa.proofs.Searching.SearchPaths.{All-from_each, Each-from_all}
use Rattle.lx_tdfa.specs.Building.{IsBuilt, greatest_of}
use Rattle.lx_tdfa.specs.Kernels.{Candidate}
use Rattle.lx_tdfa.specs.Making.{Adds, AreMany, IsWithin, StopsBy, seen_step}
use Rattle.lx_tdfa.specs.Registers.{step_ops, widest}
use Rattle.lx_tdfa.specs.Steps.{IsInLeaf, Step, next_steps, places_of, step_indices, step_on}
use Rattle.lx_tdfa.specs.Table.{IsEdgeOf}
use Rattle.lx_tdfa.specs.declared.steps.Step as held
use Rattle.lx_tdfa.proofs.Loops.EdgesMade.{steps_from}
use Rattle.lx_tdfa.proofs.Loops.ListSets.{apart-push}
use Rattle.lx_tdfa.proofs.Rules.StepPlaces.{first_steps-each}
use Rattle.lx_tdfa.proofs.Walks.ClosureSearches.{AreAlike}
use Rattle.lx_tdfa.proofs.Walks.ListReads.{slice_get-behind, slice_get-front}
use Rattle.lx_tdfa.proofs.Loops.Stops.{StopsBy-wider}
use Rattle.lx_posix.specs.Closures.{AreWaysOf, HasWay, IsClosure, IsClosureReached, Under, kept_behind, next_kernel}
use Rattle.lx_posix.specs.Determining.{AreListed, Grows, TooManyUnder}
use Rattle.lx_posix.specs.Finding.{IsFoundAt, IsSearchable}
use Rattle.lx_posix.specs.KeptKernels.{AreReached, IsAfter, IsReached, start_kernel}
use Rattle.lx_posix.specs.KernelLists as lists
use Rattle.lx_posix.specs.KernelLists.{ranks_after}
use Rattle.lx_base.specs.Spelling as spelling
use Rattle.lx_posix.specs.Reaching as reaching
use Rattle.lx_posix.specs.Reaching.{AreByWays, AreWaysFrom, IsByWay, IsLeafPoint, beginning_of, reaches_at, reaches_of, segments_by, source_of}
use Rattle.lx_posix.specs.WayNumbers.{IsFound}
use Rattle.lx_posix.specs.declared.closures.Closure.{Closure}
use Rattle.lx_posix.specs.declared.kept.Kept.{Kept}
use Rattle.lx_posix.specs.declared.points.Beginning.{Beginning}
use Rattle.lx_posix.specs.declared.points.Point.{Point}
use Rattle.lx_posix.specs.declared.points.Point.TheVariants.{State, Within}
use Rattle.lx_posix.specs.declared.search.Found.{Found}
use Rattle.lx_posix.proofs.CodeReaches.KernelLeaves.{kernel_leaves}
use Rattle.lx_posix.proofs.CodeReaches.ReachesAlike.{reaches_of-places, steps_alike, steps_by_ways, steps_in_leaves}
use Rattle.lx_posix.proofs.Course.CountedTables.{many_kernels}
use Rattle.lx_posix.proofs.Made.ClosuresMade.{kernel-searchable}
use Rattle.lx_posix.proofs.Made.NextKernels.{next-after, next-length}

nth-within : {A : Type 0} (xs : List A) (index : ℕ) (x : A) → IsNth xs index x → index < length xs
nth-within [] index x nth = absurd nth
nth-within (y ∷ xs) zero x nth = omega arith
nth-within (y ∷ xs) (suc index) x nth = let less = nth-within xs index x nth in omega (arith, less)

nth-or : {A : Type 0} (xs : List A) (index : ℕ) (x other : A) → IsNth xs index x → slice_index_or xs index other ≡ x
nth-or [] index x other nth = absurd nth
nth-or (y ∷ xs) zero x other nth = nth
nth-or (y ∷ xs) (suc index) x other nth = nth-or xs index x other nth

each-append : {A : Type 0} (P : A → Type 0) (xs ys : List A) → Each P xs → Each P ys → Each P (xs ++ ys)
each-append P [] ys one two = two
each-append P (x ∷ xs) ys one two = (one.0, each-append P xs ys one.1 two)

each-map : {A B : Type 0} (P : B → Type 0) (f : A → B) (xs : List A) → ((x : A) → P (f x)) → Each P (map f xs)
each-map P f [] each = tt
each-map P f (x ∷ xs) each = (each x, each-map P f xs each)

-- ---- what is known of a closure under a rule list

module _ (enc : Enc) (patterns : List Pattern) (tnfa : Tnfa) (of : IsTnfaOf enc patterns tnfa) (fits : AllClassesFit enc (terms_of patterns))
    (first : Bool) (kernel : List Kept) (closure : Closure) (is : IsClosure tnfa first kernel closure) (word : List ℕ)
    (after : IsAfter tnfa (terms_of patterns) first kernel word) where
  pub ways-at : AreWaysOf enc patterns tnfa closure.beginnings.items closure.founds.items word
  ways-at = is.ways enc patterns of fits word after

  ways-from : AreWaysFrom enc patterns tnfa closure.beginnings.items (ranks_after tnfa (terms_of patterns) word) closure.founds.items
  ways-from = record {
    of = of;
    fits = fits;
    deep = ways-at.deep;
    are = ways-at.begin;
    leaves =
        subst (All (λ (beginning : Beginning). IsLeafPoint tnfa beginning.at)) (sym is.begin)
        (kernel_leaves tnfa (terms_of patterns) first kernel (ranks_after tnfa (terms_of patterns) word) after.keeps);
    found = ways-at.found;
  }

  pub go-alike : (unit : ℕ)
      → AreAlike tnfa (terms_of patterns) first (lists.places_of (ranks_after tnfa (terms_of patterns) word)) unit
      (segments_by tnfa closure.founds.items unit) (next_steps tnfa unit closure.targets.reaches.items)
  go-alike unit =
      subst (λ l. AreAlike tnfa (terms_of patterns) first (lists.places_of (ranks_after tnfa (terms_of patterns) word)) unit
      (segments_by tnfa closure.founds.items unit) (next_steps tnfa unit l))
      (sym is.reaches)
      (steps_alike enc patterns tnfa closure.beginnings.items (ranks_after tnfa (terms_of patterns) word) closure.founds.items ways-from first unit)

  pub go-by-ways : (unit : ℕ)
      → AreByWays tnfa closure.founds.items closure.targets.origins.items unit (segments_by tnfa closure.founds.items unit)
      (step_indices tnfa unit closure.targets.reaches.items)
  go-by-ways unit =
      subst (λ l. AreByWays tnfa closure.founds.items closure.targets.origins.items unit (segments_by tnfa closure.founds.items unit)
      (step_indices tnfa unit l)) (sym is.reaches)
      (subst (λ l. AreByWays tnfa closure.founds.items l unit (segments_by tnfa closure.founds.items unit)
      (step_indices tnfa unit (reaches_of tnfa first closure.beginnings.items closure.founds.items))) (sym is.origins)
      (steps_by_ways enc patterns tnfa closure.beginnings.items (ranks_after tnfa (terms_of patterns) word) closure.founds.items ways-from first unit))

  pub go-in-leaves : (unit : ℕ) → All (λ (step : Step). IsInLeaf tnfa step.to) (next_steps tnfa unit closure.targets.reaches.items)
  go-in-leaves unit =
      subst (λ l. All (λ (step : Step). IsInLeaf tnfa step.to) (next_steps tnfa unit l)) (sym is.reaches)
      (steps_in_leaves enc patterns tnfa closure.beginnings.items (ranks_after tnfa (terms_of patterns) word) closure.founds.items ways-from first unit)

  go-each : (unit : ℕ) → Each (λ (step : Step). IsInLeaf tnfa step.to) (next_steps tnfa unit closure.targets.reaches.items)
  go-each unit =
      Each-from_all (λ (step : Step). IsInLeaf tnfa step.to) (next_steps tnfa unit closure.targets.reaches.items) (go-in-leaves unit)

  pub go-places : AllPlaces tnfa closure.targets.reaches.items
  go-places =
      subst (AllPlaces tnfa) (sym is.reaches)
      (reaches_of-places enc patterns tnfa closure.beginnings.items (ranks_after tnfa (terms_of patterns) word) closure.founds.items ways-from first)

  pub go-after : (unit : ℕ) → next_steps tnfa unit closure.targets.reaches.items ≢ []
      → IsAfter tnfa (terms_of patterns) false (next_kernel tnfa closure unit) (word ++ unit ∷ [])
  go-after unit some =
      next-after enc patterns tnfa of fits word closure ways-at unit first (next_steps tnfa unit closure.targets.reaches.items)
      (step_indices tnfa unit closure.targets.reaches.items) (go-alike unit) (go-by-ways unit) (go-each unit) some

  pub go-length : (unit : ℕ) → length (next_kernel tnfa closure unit) ≡ length (next_steps tnfa unit closure.targets.reaches.items)
  go-length unit =
      next-length enc patterns tnfa of fits word closure ways-at unit first (next_steps tnfa unit closure.targets.reaches.items)
      (step_indices tnfa unit closure.targets.reaches.items) (go-alike unit) (go-by-ways unit) (go-each unit)

-- ---- sources of steps

module _ (tnfa : Tnfa) (first : Bool) (beginnings : List Beginning) (bound : ℕ) where
  sources-at : (from : ℕ) (at : Point) (events : List Event) → from < bound → Each (λ (reach : Reach). reach.from < bound) (reaches_at tnfa from at events)
  sources-at from (Within place) events less = (less, tt)
  sources-at from (State state) events less = by (mark_at tnfa.live (state + 1))
    where
      start : Residual → Reach
      start rest = record { to = Leaf (record { part = state / 2; rest = rest }); events = events; from = from }

      by : (b : Bool) → Each (λ (reach : Reach). reach.from < bound) (if b then map start (starts_in tnfa.classes (state_of tnfa.states state)) else [])
      by true = each-map (λ (reach : Reach). reach.from < bound) start (starts_in tnfa.classes (state_of tnfa.states state)) (λ rest. less)
      by false = tt

  pub sources-of : (founds : List Found) → Each (λ (found : Found). source_of first found.from < bound) founds
      → Each (λ (reach : Reach). reach.from < bound) (reaches_of tnfa first beginnings founds)
  sources-of [] each = tt
  sources-of (found ∷ founds) each =
      each-append (λ (reach : Reach). reach.from < bound) _ (reaches_of tnfa first beginnings founds)
      (sources-at (source_of first found.from) found.at _ each.0) (sources-of founds each.1)

-- ---- the closure of a kernel that is that of some word

module _ (tnfa : Tnfa) (built : IsBuilt tnfa) (first : Bool) (closure : Closure) (reached : IsClosureReached tnfa first closure) where
  abbrev patterns : List Pattern
  patterns = patterns_of built.1

  at : (word : List ℕ) × IsWord built.0 (terms_of (patterns_of built.1)) word
      × IsAfter tnfa (terms_of (patterns_of built.1)) first reached.kernel word
  at = reached.reached built.0 patterns built.4 built.3

  ways : AreWaysOf built.0 (patterns_of built.1) tnfa closure.beginnings.items closure.founds.items at.0
  ways = ways-at built.0 patterns tnfa built.4 built.3 first reached.kernel closure reached.is at.0 at.2

  pub closure-places : AllPlaces tnfa closure.targets.reaches.items
  closure-places = go-places built.0 patterns tnfa built.4 built.3 first reached.kernel closure reached.is at.0 at.2

  pub closure-searchable : IsSearchable tnfa closure.beginnings.items
  closure-searchable = kernel-searchable tnfa built first reached.kernel reached.reached closure.beginnings.items reached.is.begin

  pub closure-founds : All (IsFound tnfa closure.beginnings.items) closure.founds.items
  closure-founds =
      All-from_each (IsFound tnfa closure.beginnings.items) closure.founds.items
      (each closure.founds.items (Each-from_all (IsFoundAt tnfa closure.beginnings.items ways.deep) closure.founds.items ways.found))
    where
      each : (founds : List Found) → Each (IsFoundAt tnfa closure.beginnings.items ways.deep) founds → Each (IsFound tnfa closure.beginnings.items) founds
      each [] are = tt
      each (found ∷ founds) are = (record { from = are.0.from; way = are.0.way }, each founds are.1)

  -- steps have ways
  pub step-ways : (unit : ℕ) (steps : List held.Step) → map (λ (step : held.Step). step.index) steps ≡ step_indices tnfa unit closure.targets.reaches.items
      → All (λ (step : held.Step). HasWay closure step.index) steps
  step-ways unit steps same =
      All-from_each (λ (step : held.Step). HasWay closure step.index) steps
      (unmapped steps (subst (Each (HasWay closure)) (sym same)
      (each (segments_by tnfa closure.founds.items unit)
      (step_indices tnfa unit closure.targets.reaches.items)
      (go-by-ways built.0 patterns tnfa built.4 built.3 first reached.kernel closure reached.is at.0 at.2 unit))))
    where
      one : (candidate : Candidate) (index : ℕ) → IsByWay tnfa closure.founds.items closure.targets.origins.items unit candidate index → HasWay closure index
      one candidate index by = record {
        target = nth-within closure.targets.origins.items index by.origin by.named;
        way =
            subst (λ n. n < length closure.founds.items) (sym (nth-or closure.targets.origins.items index by.origin 0 by.named))
            (nth-within closure.founds.items by.origin by.found by.listed);
      }

      each : (list : List Candidate) (indices : List ℕ) → AreByWays tnfa closure.founds.items closure.targets.origins.items unit list indices
          → Each (HasWay closure) indices
      each [] [] by = tt
      each [] (index ∷ indices) by = absurd by
      each (candidate ∷ list) [] by = absurd by
      each (candidate ∷ list) (index ∷ indices) by = (one candidate index by.0, each list indices by.1)

      unmapped : (steps : List held.Step) → Each (HasWay closure) (map (λ (step : held.Step). step.index) steps)
          → Each (λ (step : held.Step). HasWay closure step.index) steps
      unmapped [] each = tt
      unmapped (step ∷ steps) each = (each.0, unmapped steps each.1)

  -- they come from places of the kernel
  pub reach-sources : (bound : ℕ) → 0 < bound → length reached.kernel ≤ bound
      → Each (λ (reach : Reach). reach.from < bound) closure.targets.reaches.items
  reach-sources bound some few =
      subst (Each (λ (reach : Reach). reach.from < bound)) (sym reached.is.reaches)
      (sources-of tnfa first closure.beginnings.items bound closure.founds.items
      (each closure.founds.items (Each-from_all (IsFoundAt tnfa closure.beginnings.items ways.deep) closure.founds.items ways.found)))
    where
      by : (b : Bool) → first ≡ b → (from : ℕ) → from < length closure.beginnings.items → source_of b from < bound
      by true e from less = some
      by false e from less =
          let same : length closure.beginnings.items ≡ length reached.kernel =
          ap (λ l. length l) (subst (λ b. closure.beginnings.items ≡ reaching.beginnings_of tnfa b reached.kernel) e reached.is.begin)
          ∙ length-map reached.kernel (beginning_of tnfa) in
          omega (arith, less, same, few)

      each : (founds : List Found) → Each (IsFoundAt tnfa closure.beginnings.items ways.deep) founds
          → Each (λ (found : Found). source_of first found.from < bound) founds
      each [] are = tt
      each (found ∷ founds) are = (by first refl found.from are.0.from, each founds are.1)

  pub steps-from : (bound : ℕ) → 0 < bound → length reached.kernel ≤ bound → (unit : ℕ)
      → Each (λ (step : Step). step.from < bound) (next_steps tnfa unit closure.targets.reaches.items)
  steps-from bound some few unit =
      first_steps-each (λ (step : Step). step.from < bound) [] (filter_map (step_on tnfa unit) closure.targets.reaches.items)
      (steps_from (λ from. from < bound) tnfa unit closure.targets.reaches.items (reach-sources bound some few))

  pub step-sources : (unit : ℕ) (steps : List held.Step) → map seen_step steps ≡ next_steps tnfa unit closure.targets.reaches.items
      → All (λ (step : held.Step). step.reach.now.from < 1048576) steps
  step-sources unit steps same =
      All-from_each (λ (step : held.Step). step.reach.now.from < 1048576) steps
      (unmapped steps (subst (Each (λ (step : Step). step.from < 1048576)) (sym same) (steps-from 1048576 (omega arith) reached.short unit)))
    where
      unmapped : (steps : List held.Step) → Each (λ (step : Step). step.from < 1048576) (map seen_step steps)
          → Each (λ (step : held.Step). step.reach.now.from < 1048576) steps
      unmapped [] each = tt
      unmapped (step ∷ steps) each = (each.0, unmapped steps each.1)

  -- ---- the edge

  module _ (unit : ℕ) (within : unit ≤ greatest_of tnfa) (steps : List held.Step)
      (are : map seen_step steps ≡ next_steps tnfa unit closure.targets.reaches.items)
      (indices : map (λ (step : held.Step). step.index) steps ≡ step_indices tnfa unit closure.targets.reaches.items)
      (list : List Kept)
      (made : list ≡ kept_behind tnfa closure None (map (λ (step : held.Step). step.to) steps) (map (λ (step : held.Step). step.index) steps)) where
    pub kernel-is : list ≡ next_kernel tnfa closure unit
    kernel-is =
        made
        ∙ ap₂ (λ (places : List Place) (is : List ℕ). kept_behind tnfa closure None places is) (places steps ∙ ap places_of are) indices
      where
        places : (steps : List held.Step) → map (λ (step : held.Step). step.to) steps ≡ places_of (map seen_step steps)
        places [] = refl
        places (step ∷ steps) = ap (λ l. step.to ∷ l) (places steps)

    pub kernel-length : length list ≡ length steps
    kernel-length =
        ap (λ l. length l) kernel-is
        ∙ go-length built.0 patterns tnfa built.4 built.3 first reached.kernel closure reached.is at.0 at.2 unit
        ∙ ap (λ l. length l) (sym are) ∙ length-map steps seen_step

    module _ (some : steps ≢ []) (kernels : List (List Kept)) (listed : AreListed tnfa kernels) where
      full : next_steps tnfa unit closure.targets.reaches.items ≢ []
      full none = empty steps some (are ∙ none)
        where
          empty : (steps : List held.Step) → steps ≢ [] → map seen_step steps ≢ []
          empty [] some e = some refl
          empty (step ∷ steps) some e = cc e

      -- the kernel is that of a word
      next-reached : (enc : Enc) (patterns : List Pattern) → IsTnfaOf enc patterns tnfa → AllClassesFit enc (terms_of patterns)
          → (number : ℕ) → IsReached enc (terms_of patterns) tnfa (suc number) list
      next-reached enc patterns of fits number =
          let from = reached.reached enc patterns of fits in
          let after = go-after enc patterns tnfa of fits first reached.kernel closure reached.is from.0 from.2 unit full in (
            from.0 ++ unit ∷ [],
            longer enc patterns from.0 from.1 (subst (λ g. unit ≤ g) (ap (λ e. spelling.greatest_unit e) of.enc) within),
            subst (λ l. IsAfter tnfa (terms_of patterns) false l (from.0 ++ unit ∷ [])) (sym kernel-is) after,
          )
        where
          longer : (enc : Enc) (patterns : List Pattern) (word : List ℕ) → IsWord enc (terms_of patterns) word → unit ≤ spelling.greatest_unit enc
              → IsWord enc (terms_of patterns) (word ++ unit ∷ [])
          longer enc patterns [] is fits = (fits, tt)
          longer enc patterns (other ∷ word) is fits = (is.0, longer enc patterns word is.1 fits)

      behind-reached : Under tnfa (λ enc patterns. AreReached enc (terms_of patterns) tnfa (kernels ++ list ∷ []))
      behind-reached enc patterns of fits number kernel there =
          elim (slice_get-behind kernels list kernel number there) [
            | inl early ↦ listed.reached enc patterns of fits number kernel early
            | inr last ↦
                subst (λ l. IsReached enc (terms_of patterns) tnfa number l) last.1
                (by number (let some : 0 < length kernels = slice_get_within kernels 0 start_kernel listed.start in omega (arith, some, last.0)))
          ]
        where
          by : (number : ℕ) → 0 < number → IsReached enc (terms_of patterns) tnfa number list
          by zero lt = absurd (omega (arith, lt))
          by (suc number) lt = next-reached enc patterns of fits number

      pub adds-grows : (new : List (List Kept)) → Adds kernels list new → IsWithin new → Grows tnfa kernels new
      adds-grows new (inl same) few = record {
        later = [];
        kernels = same.0 ∙ sym (append-nil kernels);
        listed = subst (AreListed tnfa) (sym same.0) listed;
      }
      adds-grows new (inr behind) few = record {
        later = list ∷ [];
        kernels = behind.0;
        listed = record {
          start = ap (λ l. slice_get l 0) behind.0 ∙ slice_get-front kernels (list ∷ []) 0 start_kernel listed.start;
          within = few;
          apart = subst (λ l. AllPairs (λ list other. list ≢ other) l) (sym behind.0) (apart-push kernels list behind.1 listed.apart);
          reached = λ enc patterns of fits.
              subst (λ l. AreReached enc (terms_of patterns) tnfa l) (sym behind.0) (behind-reached enc patterns of fits);
        };
      }

      pub too_many-under : (at : Pos) (why : Stop) → StopsBy at (AreMany (kernels ++ list ∷ []) × ¬ Contains kernels list) why
          → StopsBy at (TooManyUnder tnfa) why
      too_many-under pos why =
          StopsBy-wider pos why
          (λ many enc patterns of fits.
          many_kernels enc patterns tnfa of fits (kernels ++ list ∷ []) (behind-reached enc patterns of fits)
          (slice_get-front kernels (list ∷ []) 0 start_kernel listed.start) (apart-push kernels list many.1 listed.apart) many.0)

    -- it leads to the kernel
    pub edge-made : (new : List (List Kept)) (edge : Edge) → steps ≢ [] → slice_get new edge.to ≡ Some list
        → edge.ops ≡ step_ops tnfa (widest tnfa.rules) first 0 (map seen_step steps)
        → IsEdgeOf tnfa new first (next_steps tnfa unit closure.targets.reaches.items) (next_kernel tnfa closure unit) (Some edge)
    edge-made new edge some there ops =
        subst (λ l. IsEdgeOf tnfa new first l (next_kernel tnfa closure unit) (Some edge)) are
        (by steps some (there ∙ ap (λ l. Some l) kernel-is) ops)
      where
        by : (all : List held.Step) → all ≢ [] → slice_get new edge.to ≡ Some (next_kernel tnfa closure unit)
            → edge.ops ≡ step_ops tnfa (widest tnfa.rules) first 0 (map seen_step all)
            → IsEdgeOf tnfa new first (map seen_step all) (next_kernel tnfa closure unit) (Some edge)
        by [] some there ops = absurd (some refl)
        by (step ∷ others) some there ops = (there, ops)

  -- where there is no step there is no edge
  pub no_edge-made : (unit : ℕ) (steps : List held.Step) → map seen_step steps ≡ next_steps tnfa unit closure.targets.reaches.items → steps ≡ []
      → (new : List (List Kept)) → IsEdgeOf tnfa new first (next_steps tnfa unit closure.targets.reaches.items) (next_kernel tnfa closure unit) None
  no_edge-made unit steps are none new =
      subst (λ l. IsEdgeOf tnfa new first l (next_kernel tnfa closure unit) None) (ap (λ l. map seen_step l) (sym none) ∙ are) tt
