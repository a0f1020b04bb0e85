-- Tables of kernels keep up with words under the POSIX order.
use Rattle.std.proofs.Common.{◌≡◌, ◌≢◌, ◌⊎◌, inl, inr, ℕ, zero, suc, ◌<◌, ◌≤◌, arith, Bool, true, false, List, [], ◌∷◌, ◌++◌, length, map, Option, Some, None, Contains, refl, sym, ap, ◌∙◌, subst}
use Rattle.std.proofs.lemmas.List.Elements.{All-contains}
use Rattle.std.proofs.lemmas.List.{length-map}
use Rattle.std.proofs.lemmas.Option.{slice_get-get_or, slice_get_within}
use Rattle.std.specs.Prelude.{get_or, slice_get, slice_index}
use Rattle.lx_auto.specs.Automaton.{IsAuto, edge_on}
use Rattle.lx_auto.specs.declared.automaton.Auto.{Auto}
use Rattle.lx_auto.specs.declared.automaton.Edge.{Edge}
use Rattle.lx_auto.specs.declared.automaton.State.{State}
use Rattle.lx_base.specs.Spelling.{greatest_unit}
use Rattle.lx_base.specs.declared.settings.Enc.{Enc}
use Rattle.lx_regex.specs.Automaton.{automaton}
use Rattle.lx_regex.specs.ClassLimits.{AllClassesFit}
use Rattle.lx_regex.specs.Order.{posix}
use Rattle.lx_regex.specs.Pattern.{Pattern, terms_of, with_terms}
use Rattle.lx_regex.specs.Term.{Term}
use Rattle.lx_tnfa.specs.Closure.{IsClosureOf}
use Rattle.lx_tnfa.specs.DepthFirst as searched
use Rattle.lx_tnfa.specs.LeafReadings.{IsNth}
use Rattle.lx_tnfa.specs.PlaceNumbers.{numbers_after, symbols_added}
use Rattle.lx_tnfa.specs.Tnfa.{IsTnfaOf, Tnfa}
use Rattle.lx_tnfa.specs.declared.closure.Reach.{Reach}
use Rattle.lx_tnfa.specs.declared.places.Place.{Place}
use Rattle.lx_tnfa.proofs.Searching.SearchBasics.{Each}
use Rattle.lx_tnfa.proofs.Searching.SearchPaths.{All-from_each, Each-from_all}
use Rattle.lx_tdfa.specs.Building.{greatest_of}
use Rattle.lx_tdfa.specs.Graph.{graph_of, rule_starts}
use Rattle.lx_tdfa.specs.Kernels.{Candidate, candidates, first_of_each, places, segment_symbols}
use Rattle.lx_tdfa.specs.Promise.{IsAutoUnder}
use Rattle.lx_tdfa.specs.Steps.{Ending, IsInLeaf, Step, first_ending, next_steps, places_of, start_place, step_indices}
use Rattle.lx_tdfa.specs.Table.{IsEdgeOf, IsStateBy, IsTableBy, Onward, is_first}
use Rattle.lx_tdfa.proofs.Tables.Courses.{IsHeldAt, KeepUp}
use Rattle.lx_tdfa.proofs.Tables.TableAutomata.{table-auto}
use Rattle.lx_tdfa.proofs.Tables.TableBegins.{nil_of_map}
use Rattle.lx_tdfa.proofs.Walks.ClosureSearches.{AreAlike, AreEndsAlike, EndsAreOwned, RulesKept, SearchesAlike, end_from, number_of}
use Rattle.lx_posix.specs.Accepts as accepts
use Rattle.lx_posix.specs.Closures.{AreWaysOf, IsClosure, kept_behind, next_kernel, onward_of}
use Rattle.lx_posix.specs.Comparing.{Ranked, ranked_at}
use Rattle.lx_posix.specs.Finding.{IsFoundAt}
use Rattle.lx_posix.specs.Determining.{AreListed, AreStatesOf, IsStateOf}
use Rattle.lx_posix.specs.KeptKernels as kept_kernels
use Rattle.lx_posix.specs.KeptKernels.{IsAfter, places_in, rank_of, rule_at, start_kernel}
use Rattle.lx_posix.specs.KernelLists as lists
use Rattle.lx_posix.specs.KernelLists.{first_ranks, posix_kernel_after, ranks_after, ranks_behind}
use Rattle.lx_posix.specs.LevelSearch.{ranks_by}
use Rattle.lx_posix.specs.PosixKernel.{HasTooManyPosixKernels}
use Rattle.lx_posix.specs.Reaching.{AreByWays, IsByWay, beginning_of, segments_by}
use Rattle.lx_posix.specs.declared.closures.Closure.{Closure}
use Rattle.lx_posix.specs.declared.kept.Kept.{Kept}
use Rattle.lx_posix.proofs.Course.CountedTables.{few_kernels}
use Rattle.lx_posix.proofs.Course.PlaceRules.{one_owner, ranked-rule}
use Rattle.lx_posix.proofs.Course.PosixCourse.{posix_course, ranks_after-none, ranks_after-places}
use Rattle.lx_posix.proofs.Made.EdgesMade.{go-after, go-alike, go-by-ways, go-in-leaves, ways-at}
use Rattle.lx_posix.proofs.Made.NextKernels.{next-places, next-ranks, ranks-next}
use Rattle.lx_posix.proofs.OneSearch.ProgramSearch.{program_segments}

-- A kernel goes on by its closure, and the first end of a rule is that of plain walks from its places.
pub record GoesOn (enc : Enc) (patterns : List Pattern) (tnfa : Tnfa) (first : Bool) (kernel : List Kept) (onward : Onward (List Kept)) : Type 0 where
  pub word : List ℕ
  pub after : IsAfter tnfa (terms_of patterns) first kernel word
  pub closure : Closure
  pub goes : IsClosure tnfa first kernel closure
  pub reaches : List Reach
  pub ends : IsClosureOf tnfa (places_in kernel) reaches
  pub is : onward_of tnfa closure (first_ending reaches) ≡ onward

pair-at : {A : Type 0} (xs : List A) (index : ℕ) → index < length xs → (x : A) × IsNth xs index x × (slice_get xs index ≡ Some x)
pair-at [] index lt = absurd (omega (arith, lt))
pair-at (x ∷ xs) zero lt = (x, refl, refl)
pair-at (x ∷ xs) (suc index) lt = pair-at xs index (omega (arith, lt))

nth-slice : {A : Type 0} (xs : List A) (index : ℕ) (x : A) → IsNth xs index x → slice_get xs index ≡ Some x
nth-slice [] index x nth = absurd nth
nth-slice (y ∷ xs) zero x nth = ap (λ a. Some a) nth
nth-slice (y ∷ xs) (suc index) x nth = nth-slice xs index x nth

map-nth : {A B : Type 0} (f : A → B) (xs : List A) (index : ℕ) (x : A) → IsNth xs index x → IsNth (map f xs) index (f x)
map-nth f [] index x nth = absurd nth
map-nth f (y ∷ xs) zero x nth = ap f nth
map-nth f (y ∷ xs) (suc index) x nth = map-nth f xs index x nth

nth-ranked : (ranks : List Ranked) (index : ℕ) (ranked : Ranked) → IsNth ranks index ranked → ranked_at ranks index ≡ ranked
nth-ranked [] index ranked nth = absurd nth
nth-ranked (first ∷ ranks) zero ranked nth = nth
nth-ranked (first ∷ ranks) (suc index) ranked nth = nth-ranked ranks index ranked nth

each-at : {A : Type 0} (P : A → Type 0) (xs : List A) (index : ℕ) (x : A) → Each P xs → IsNth xs index x → P x
each-at P [] index x each nth = absurd nth
each-at P (y ∷ xs) zero x each nth = subst P nth each.0
each-at P (y ∷ xs) (suc index) x each nth = each-at P xs index x each.1 nth

first-places : (rule : ℕ) (starts : List ℕ) → lists.places_of (first_ranks rule starts) ≡ starts
first-places rule [] = refl
first-places rule (start ∷ starts) = ap (λ l. start ∷ l) (first-places (suc rule) starts)

module _ (enc : Enc) (patterns : List Pattern) (tnfa : Tnfa) (of : IsTnfaOf enc patterns tnfa) (fits : AllClassesFit enc (terms_of patterns))
    (searches : SearchesAlike patterns tnfa) (kept : RulesKept enc patterns tnfa) (owned : EndsAreOwned patterns tnfa) where
  abbrev rules : List Term
  rules = terms_of patterns

  -- the numbers of its places
  numbers-are : (kernel : List Kept) (word : List ℕ) → IsAfter tnfa (terms_of patterns) false kernel word
      → map (number_of tnfa) (places_in kernel) ≡ places (posix_kernel_after tnfa (terms_of patterns) word)
  numbers-are kernel word after =
      of-kept kernel ∙ ap lists.places_of after.keeps.0 ∙ ranks_after-places enc patterns tnfa of fits word
    where
      of-kept : (kernel : List Kept) → map (number_of tnfa) (places_in kernel) ≡ lists.places_of (map (rank_of tnfa (terms_of patterns)) kernel)
      of-kept [] = refl
      of-kept (kept ∷ kernel) = ap (λ l. number_of tnfa kept.place ∷ l) (of-kept kernel)

  first-numbers : (kernel : List Kept) (word : List ℕ) → IsAfter tnfa (terms_of patterns) true kernel word
      → rule_starts (terms_of patterns) ≡ places (posix_kernel_after tnfa (terms_of patterns) word)
  first-numbers kernel word after =
      sym (first-places 0 (rule_starts rules)) ∙ ap lists.places_of (sym after.keeps.1) ∙ ranks_after-places enc patterns tnfa of fits word

  -- ---- how it goes on

  module _ (first : Bool) (kernel : List Kept) (word : List ℕ) (after : IsAfter tnfa (terms_of patterns) first kernel word) (closure : Closure)
      (goes : IsClosure tnfa first kernel closure) where
    ways : AreWaysOf enc patterns tnfa closure.beginnings.items closure.founds.items word
    ways = ways-at enc patterns tnfa of fits first kernel closure goes word after

    segments-are : (unit : ℕ) → segments_by tnfa closure.founds.items unit
        ≡ lists.posix_segments tnfa (terms_of patterns) (ranks_after tnfa (terms_of patterns) word) unit
    segments-are unit =
        ap (λ (l : List searched.Found). first_of_each [] (candidates (λ state. numbers_after tnfa state unit) l)) ways.listed
        ∙ program_segments enc patterns tnfa of fits word unit ways.deep ways.width ways.depths ways.placed ways.small

    kernel-alike : (unit : ℕ)
        → AreAlike tnfa (terms_of patterns) first (places (posix_kernel_after tnfa (terms_of patterns) word)) unit
        (lists.posix_segments tnfa (terms_of patterns) (ranks_after tnfa (terms_of patterns) word) unit)
        (next_steps tnfa unit closure.targets.reaches.items)
    kernel-alike unit =
        subst (λ l. AreAlike tnfa rules first l unit (lists.posix_segments tnfa rules (ranks_after tnfa rules word) unit)
        (next_steps tnfa unit closure.targets.reaches.items)) (ranks_after-places enc patterns tnfa of fits word)
        (subst (λ l. AreAlike tnfa rules first (lists.places_of (ranks_after tnfa rules word)) unit l
        (next_steps tnfa unit closure.targets.reaches.items)) (segments-are unit)
        (go-alike enc patterns tnfa of fits first kernel closure goes word after unit))

    next-places-are : (unit : ℕ) → places_in (next_kernel tnfa closure unit) ≡ places_of (next_steps tnfa unit closure.targets.reaches.items)
    next-places-are unit =
        next-places enc patterns tnfa of fits word closure ways unit first (next_steps tnfa unit closure.targets.reaches.items)
        (step_indices tnfa unit closure.targets.reaches.items) (go-alike enc patterns tnfa of fits first kernel closure goes word after unit)
        (go-by-ways enc patterns tnfa of fits first kernel closure goes word after unit) (leaves unit)
      where
        leaves : (unit : ℕ) → Each (λ (step : Step). IsInLeaf tnfa step.to) (next_steps tnfa unit closure.targets.reaches.items)
        leaves unit =
            Each-from_all (λ (step : Step). IsInLeaf tnfa step.to) (next_steps tnfa unit closure.targets.reaches.items)
            (go-in-leaves enc patterns tnfa of fits first kernel closure goes word after unit)

    next-leaves : (unit : ℕ) → Each (λ (step : Step). IsInLeaf tnfa step.to) (next_steps tnfa unit closure.targets.reaches.items)
    next-leaves unit =
        Each-from_all (λ (step : Step). IsInLeaf tnfa step.to) (next_steps tnfa unit closure.targets.reaches.items)
        (go-in-leaves enc patterns tnfa of fits first kernel closure goes word after unit)

    next-ranks-are : (unit : ℕ) → map (rank_of tnfa (terms_of patterns)) (next_kernel tnfa closure unit)
        ≡ ranks_after tnfa (terms_of patterns) (word ++ unit ∷ [])
    next-ranks-are unit =
        next-ranks enc patterns tnfa of fits word closure ways unit first (next_steps tnfa unit closure.targets.reaches.items)
        (step_indices tnfa unit closure.targets.reaches.items) (go-alike enc patterns tnfa of fits first kernel closure goes word after unit)
        (go-by-ways enc patterns tnfa of fits first kernel closure goes word after unit) (next-leaves unit)

    not-start : (unit : ℕ) (step : Step) (others : List Step) → next_steps tnfa unit closure.targets.reaches.items ≡ step ∷ others
        → next_kernel tnfa closure unit ≢ start_kernel
    not-start unit step others e same =
        let places : step.to ∷ places_of others ≡ start_place ∷ [] = ap places_of (sym e) ∙ sym (next-places-are unit) ∙ ap places_in same in
        let to : step.to ≡ start_place = cc places in
        let leaf : IsInLeaf tnfa step.to = (subst (Each (λ (step : Step). IsInLeaf tnfa step.to)) e (next-leaves unit)).0 in
        let some : 0 < step.to.part = leaf.1 in
        let none : step.to.part ≡ 0 = ap (λ (place : Place). place.part) to in
        omega (arith, some, none)

    kernel-onward : (unit : ℕ) (step : Step) (others : List Step) → next_steps tnfa unit closure.targets.reaches.items ≡ step ∷ others
        → IsAfter tnfa (terms_of patterns) false (next_kernel tnfa closure unit) (word ++ unit ∷ [])
        × (places_in (next_kernel tnfa closure unit) ≡ places_of (step ∷ others)) × (next_kernel tnfa closure unit ≢ start_kernel)
    kernel-onward unit step others e = (
      go-after enc patterns tnfa of fits first kernel closure goes word after unit (λ none. let z : step ∷ others ≡ [] = sym e ∙ none in cc z),
      next-places-are unit ∙ ap places_of e,
      not-start unit step others e,
    )

  kernel-ends : (first : Bool) (kernel : List Kept) (word : List ℕ) → IsAfter tnfa (terms_of patterns) first kernel word → (reaches : List Reach)
      → IsClosureOf tnfa (places_in kernel) reaches
      → AreEndsAlike tnfa (terms_of patterns) first (places (posix_kernel_after tnfa (terms_of patterns) word))
      (accepts.posix_accept_after tnfa (terms_of patterns) word) (first_ending reaches)
  kernel-ends true kernel word after reaches ends =
      subst (λ ns. AreEndsAlike tnfa rules true ns (end_from rules ns) (first_ending reaches)) (first-numbers kernel word after)
      (searches.first_endings reaches (subst (λ l. IsClosureOf tnfa (places_in l) reaches) after.keeps.0 ends))
  kernel-ends false kernel word after reaches ends =
      subst (λ ns. AreEndsAlike tnfa rules false ns (end_from rules ns) (first_ending reaches)) (numbers-are kernel word after)
      (searches.endings (places_in kernel) reaches after.keeps.1 ends)

  kernel-ending : (first : Bool) (kernel : List Kept) (word : List ℕ) → IsAfter tnfa (terms_of patterns) first kernel word → (reaches : List Reach)
      (ending : Ending) → IsClosureOf tnfa (places_in kernel) reaches → first_ending reaches ≡ Some ending
      → IsHeldAt tnfa first (places_in kernel) ending.from ending.rule
  kernel-ending true kernel word after reaches ending ends e = tt
  kernel-ending false kernel word after reaches ending ends e =
      let from = kept.endings (places_in kernel) reaches ending after.keeps.1 ends e in (from.0, from.1, from.2)

  -- ---- from where its steps come

  module _ (kernel : List Kept) (word : List ℕ) (after : IsAfter tnfa (terms_of patterns) false kernel word) (closure : Closure)
      (goes : IsClosure tnfa false kernel closure) (unit : ℕ) where
    abbrev later : Candidate → List Candidate → List Ranked
    later last list =
        ranks_behind (graph_of (automaton (terms_of patterns))) (numbers_after tnfa) (segment_symbols (terms_of patterns) (symbols_added tnfa))
        (rule_starts (terms_of patterns)) (ranks_after tnfa (terms_of patterns) word) unit last list

    one-held : (candidate : Candidate) (index : ℕ) (step : Step)
        → IsByWay tnfa closure.founds.items closure.targets.origins.items unit candidate index → candidate.from ≡ step.from
        → candidate.to ≡ number_of tnfa step.to → IsInLeaf tnfa step.to
        → (ranked_at (ranks_after tnfa (terms_of patterns) word) candidate.from).rule ≡ rule_at (terms_of patterns) candidate.to
        → IsHeldAt tnfa false (places_in kernel) step.from (slice_index tnfa.owners step.to.part)
    one-held candidate index step by from to leaf rule =
        let w = ways false kernel word after closure goes in
        let found : IsFoundAt tnfa closure.beginnings.items w.deep by.found =
        each-at (IsFoundAt tnfa closure.beginnings.items w.deep) closure.founds.items by.origin by.found
        (Each-from_all (IsFoundAt tnfa closure.beginnings.items w.deep) closure.founds.items w.found) by.listed in
        let count : length closure.beginnings.items ≡ length kernel = ap (λ l. length l) goes.begin ∙ length-map kernel (beginning_of tnfa) in
        let less : by.found.from < length closure.beginnings.items = found.from in
        let within : step.from < length kernel = omega (arith, less, count, by.from, from) in
        let here = pair-at kernel step.from within in
        let stands : IsNth (ranks_after tnfa rules word) step.from (rank_of tnfa rules here.0) =
        subst (λ l. IsNth l step.from (rank_of tnfa rules here.0)) after.keeps.0 (map-nth (rank_of tnfa rules) kernel step.from here.0 here.1) in
        let kept_rule : rule_at rules (number_of tnfa here.0.place) ≡ (ranked_at (ranks_after tnfa rules word) step.from).rule =
        ap (λ (r : Ranked). r.rule) (sym (nth-ranked (ranks_after tnfa rules word) step.from (rank_of tnfa rules here.0) stands)) in
        let place_leaf : IsInLeaf tnfa here.0.place =
        each-at (IsInLeaf tnfa) (places_in kernel) step.from here.0.place (Each-from_all (IsInLeaf tnfa) (places_in kernel) after.keeps.1)
        (map-nth (λ (kept : Kept). kept.place) kernel step.from here.0 here.1) in
        let same : rule_at rules (number_of tnfa here.0.place) ≡ rule_at rules (number_of tnfa step.to) =
        kept_rule ∙ ap (λ n. (ranked_at (ranks_after tnfa rules word) n).rule) (sym from) ∙ rule ∙ ap (rule_at rules) to in (
          here.0.place,
          nth-slice (places_in kernel) step.from here.0.place (map-nth (λ (kept : Kept). kept.place) kernel step.from here.0 here.1),
          one_owner enc patterns tnfa of here.0.place step.to place_leaf leaf same,
        )

    held-behind : (last : Candidate) (list : List Candidate) (steps : List Step) (indices : List ℕ)
        → AreAlike tnfa (terms_of patterns) false (lists.places_of (ranks_after tnfa (terms_of patterns) word)) unit list steps
        → AreByWays tnfa closure.founds.items closure.targets.origins.items unit list indices → Each (λ (step : Step). IsInLeaf tnfa step.to) steps
        → ((index : ℕ) (ranked : Ranked) → IsNth (later last list) index ranked → ranked.rule ≡ rule_at (terms_of patterns) ranked.place)
        → Each (λ (step : Step). IsHeldAt tnfa false (places_in kernel) step.from (slice_index tnfa.owners step.to.part)) steps
    held-behind last [] [] indices alike by leaves each = tt
    held-behind last [] (step ∷ steps) indices alike by leaves each = absurd alike
    held-behind last (candidate ∷ list) [] indices alike by leaves each = tt
    held-behind last (candidate ∷ list) (step ∷ steps) [] alike by leaves each = absurd by
    held-behind last (candidate ∷ list) (step ∷ steps) (index ∷ indices) alike by leaves each = (
      one-held candidate index step by.0 alike.1 alike.0 leaves.0 (each 0 _ refl),
      held-behind candidate list steps indices alike.3 by.1 leaves.1 (λ index ranked nth. each (suc index) ranked nth),
    )

    held-all : (list : List Candidate) (steps : List Step) (indices : List ℕ)
        → AreAlike tnfa (terms_of patterns) false (lists.places_of (ranks_after tnfa (terms_of patterns) word)) unit list steps
        → AreByWays tnfa closure.founds.items closure.targets.origins.items unit list indices → Each (λ (step : Step). IsInLeaf tnfa step.to) steps
        → ((index : ℕ) (ranked : Ranked) → IsNth (ranks_by tnfa (terms_of patterns) (ranks_after tnfa (terms_of patterns) word) unit list) index ranked
        → ranked.rule ≡ rule_at (terms_of patterns) ranked.place)
        → Each (λ (step : Step). IsHeldAt tnfa false (places_in kernel) step.from (slice_index tnfa.owners step.to.part)) steps
    held-all [] [] indices alike by leaves each = tt
    held-all [] (step ∷ steps) indices alike by leaves each = absurd alike
    held-all (candidate ∷ list) [] indices alike by leaves each = tt
    held-all (candidate ∷ list) (step ∷ steps) [] alike by leaves each = absurd by
    held-all (candidate ∷ list) (step ∷ steps) (index ∷ indices) alike by leaves each = (
      one-held candidate index step by.0 alike.1 alike.0 leaves.0 (each 0 _ refl),
      held-behind candidate list steps indices alike.3 by.1 leaves.1 (λ index ranked nth. each (suc index) ranked nth),
    )

    steps-held : Each (λ (step : Step). IsHeldAt tnfa false (places_in kernel) step.from (slice_index tnfa.owners step.to.part))
        (next_steps tnfa unit closure.targets.reaches.items)
    steps-held =
        let w = ways false kernel word after closure goes in
        held-all (segments_by tnfa closure.founds.items unit) (next_steps tnfa unit closure.targets.reaches.items)
        (step_indices tnfa unit closure.targets.reaches.items) (go-alike enc patterns tnfa of fits false kernel closure goes word after unit)
        (go-by-ways enc patterns tnfa of fits false kernel closure goes word after unit) (next-leaves false kernel word after closure goes unit)
        (λ index ranked nth.
        ranked-rule enc patterns tnfa of fits (word ++ unit ∷ []) index ranked
        (subst (λ l. IsNth l index ranked)
        (sym (ranks-next enc patterns tnfa of fits word closure w unit false)) nth))

  kernel-held : (first : Bool) (kernel : List Kept) (word : List ℕ) → IsAfter tnfa (terms_of patterns) first kernel word → (closure : Closure)
      → IsClosure tnfa first kernel closure → (unit : ℕ) (step : Step) → Contains (next_steps tnfa unit closure.targets.reaches.items) step
      → IsHeldAt tnfa first (places_in kernel) step.from (slice_index tnfa.owners step.to.part)
  kernel-held true kernel word after closure goes unit step within = tt
  kernel-held false kernel word after closure goes unit step within =
      All-contains (λ (step : Step). IsHeldAt tnfa false (places_in kernel) step.from (slice_index tnfa.owners step.to.part))
      (next_steps tnfa unit closure.targets.reaches.items) step
      (All-from_each (λ (step : Step). IsHeldAt tnfa false (places_in kernel) step.from (slice_index tnfa.owners step.to.part))
      (next_steps tnfa unit closure.targets.reaches.items) (steps-held kernel word after closure goes unit)) within

  kernel-some : (kernel : List Kept) (word : List ℕ) → IsAfter tnfa (terms_of patterns) false kernel word
      → posix_kernel_after tnfa (terms_of patterns) word ≢ []
  kernel-some kernel word after none =
      let ranks : ranks_after tnfa rules word ≡ [] = ranks_after-none enc patterns tnfa of fits word none in
      after.some (nil_of_map (rank_of tnfa rules) kernel (after.keeps.0 ∙ ranks))

  -- ---- tables

  pub posix_keeps : KeepUp (posix_course enc patterns tnfa of fits) start_kernel places_in (GoesOn enc patterns tnfa)
      (IsAfter tnfa (terms_of patterns))
  unfolding posix_course
  posix_keeps = record {
    start = record { keeps = (refl, refl); empty = λ e. refl; later = λ e. cc e; some = λ e. cc e };
    empty = λ kernel word after. after.empty refl;
    some = kernel-some;
    onward = λ first kernel word onward unit step others after goes.
        subst (λ (o : Onward (List Kept)). o.steps unit ≡ step ∷ others
        → IsAfter tnfa rules false (o.next unit) (word ++ unit ∷ []) × (places_in (o.next unit) ≡ places_of (step ∷ others))
        × (o.next unit ≢ start_kernel)) goes.is
        (kernel-onward first kernel word after goes.closure goes.goes unit step others);
    alike = λ first kernel word onward unit after goes.
        subst (λ (o : Onward (List Kept)). AreAlike tnfa rules first (places (posix_kernel_after tnfa rules word)) unit
        (lists.posix_segments tnfa rules (ranks_after tnfa rules word) unit) (o.steps unit)) goes.is
        (kernel-alike first kernel word after goes.closure goes.goes unit);
    ends_alike = λ first kernel word onward after goes.
        subst (λ (o : Onward (List Kept)). AreEndsAlike tnfa rules first (places (posix_kernel_after tnfa rules word))
        (accepts.posix_accept_after tnfa rules word) o.ending) goes.is
        (kernel-ends first kernel word after goes.reaches goes.ends);
    held = λ first kernel onward unit step goes.
        subst (λ (o : Onward (List Kept)). Contains (o.steps unit) step
        → IsHeldAt tnfa first (places_in kernel) step.from (slice_index tnfa.owners step.to.part)) goes.is
        (kernel-held first kernel goes.word goes.after goes.closure goes.goes unit step);
    ending_held = λ first kernel onward ending goes.
        subst (λ (o : Onward (List Kept)). o.ending ≡ Some ending → IsHeldAt tnfa first (places_in kernel) ending.from ending.rule) goes.is
        (kernel-ending first kernel goes.word goes.after goes.reaches ending goes.ends);
    owned = λ first kernel onward ending goes.
        subst (λ (o : Onward (List Kept)). o.ending ≡ Some ending
        → (pattern : Pattern) × Contains (with_terms patterns) pattern × (pattern.number ≡ ending.rule)) goes.is
        (owned (places_in kernel) goes.reaches ending goes.ends);
  }

  module _ (kernels : List (List Kept)) (listed : AreListed tnfa kernels) (auto : Auto) (formed : IsAuto auto)
      (count : length auto.states ≡ length kernels) (states : AreStatesOf tnfa kernels auto.states) where
    greatest-same : greatest_of tnfa ≡ greatest_unit enc
    greatest-same = ap (λ e. greatest_unit e) of.enc

    reached : (number : ℕ) (kernel : List Kept) → slice_get kernels number ≡ Some kernel
        → (word : List ℕ) × IsAfter tnfa (terms_of patterns) (is_first number) kernel word
    reached number kernel at = let is = listed.reached enc patterns of fits number kernel at in (is.0, is.2)

    table-by : IsTableBy start_kernel (GoesOn enc patterns tnfa) tnfa (greatest_unit enc) kernels auto
    table-by = record {
      formed = formed;
      start = listed.start;
      lists = sym count;
      states = λ number kernel state at there.
          let is = (states number kernel state at there).0 in
          let from = reached number kernel at in (
            onward_of tnfa is.closure (first_ending is.reaches),
            record {
              word = from.0;
              after = from.1;
              closure = is.closure;
              goes = is.goes;
              reaches = is.reaches;
              ends = is.ends;
              is = refl;
            },
            subst (λ greatest. IsStateBy tnfa greatest kernels (is_first number) (onward_of tnfa is.closure (first_ending is.reaches)) state)
                greatest-same is.is,
          );
    }

    pub posix-auto : IsAutoUnder posix enc patterns auto
    posix-auto = table-auto posix_keeps table-by kept

    -- one more unit leads to no place, or to a kernel of the table
    leads-on : (number : ℕ) (kernel : List Kept) (state : State) (word : List ℕ) (unit : ℕ) → IsStateOf tnfa kernels (is_first number) kernel state
        → IsAfter tnfa (terms_of patterns) (is_first number) kernel word → unit ≤ greatest_of tnfa
        → (ranks_after tnfa (terms_of patterns) (word ++ unit ∷ []) ≡ [])
        ⊎ ((later : ℕ) × (next : List Kept) × (slice_get kernels (suc later) ≡ Some next) × IsAfter tnfa (terms_of patterns) false next (word ++ unit ∷ []))
    leads-on number kernel state word unit is after le =
        by (next_steps tnfa unit is.closure.targets.reaches.items) refl (edge_on state.edges unit) (is.is.edges unit le)
      where
        at-number : (to : ℕ) → slice_get kernels to ≡ Some (next_kernel tnfa is.closure unit) → next_kernel tnfa is.closure unit ≢ start_kernel
            → IsAfter tnfa (terms_of patterns) false (next_kernel tnfa is.closure unit) (word ++ unit ∷ [])
            → (later : ℕ) × (next : List Kept) × (slice_get kernels (suc later) ≡ Some next)
            × IsAfter tnfa (terms_of patterns) false next (word ++ unit ∷ [])
        at-number zero there other on =
            let same : next_kernel tnfa is.closure unit ≡ start_kernel = cc (there, listed.start) in absurd (other same)
        at-number (suc to) there other on = (to, next_kernel tnfa is.closure unit, there, on)

        by : (steps : List Step) → next_steps tnfa unit is.closure.targets.reaches.items ≡ steps → (edge : Option Edge)
            → IsEdgeOf tnfa kernels (is_first number) steps (next_kernel tnfa is.closure unit) edge
            → (ranks_after tnfa (terms_of patterns) (word ++ unit ∷ []) ≡ [])
            ⊎ ((later : ℕ) × (next : List Kept) × (slice_get kernels (suc later) ≡ Some next)
            × IsAfter tnfa (terms_of patterns) false next (word ++ unit ∷ []))
        by [] e edge leads =
            inl (sym (next-ranks-are (is_first number) kernel word after is.closure is.goes unit)
            ∙ ap (λ (l : List Place). map (rank_of tnfa (terms_of patterns)) (kept_behind tnfa is.closure None l
            (step_indices tnfa unit is.closure.targets.reaches.items))) (ap places_of e))
        by (step ∷ others) e None leads = absurd leads
        by (step ∷ others) e (Some edge) leads =
            let on = kernel-onward (is_first number) kernel word after is.closure is.goes unit step others e in
            inr (at-number edge.to leads.0 on.2 on.0)

    table-closed : kept_kernels.AreClosed enc (terms_of patterns) tnfa kernels
    table-closed number kernel word unit at after le =
        let within : number < length kernels = slice_get_within kernels number kernel at in
        let there : number < length auto.states = omega (arith, within, count) in
        let state = get_or auto.states number (record { edges = []; accept = None; leave = [] }) in
        leads-on number kernel state word unit
        (states number kernel state at (slice_get-get_or auto.states number (record { edges = []; accept = None; leave = [] }) there)).0 after
        (subst (λ g. unit ≤ g) (sym greatest-same) le)

    pub posix-few : HasTooManyPosixKernels enc (terms_of patterns) → ⊥
    posix-few =
        few_kernels enc patterns tnfa of fits kernels (listed.reached enc patterns of fits) listed.start listed.apart table-closed
        listed.within.few listed.within.few_places
