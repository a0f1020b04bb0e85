-- The kernel after one more unit is made of the ways to it.
use Rattle.std.proofs.Common.{◌≡◌, ◌≢◌, ℕ, zero, suc, ◌*◌, arith, Bool, false, List, [], ◌∷◌, ◌++◌, length, map, Option, Some, None, refl, sym, ap, ap₂, ◌∙◌, subst}
use Rattle.std.proofs.lemmas.List.{length-map}
use Rattle.std.specs.Prelude.{All, slice_index_or}
use Rattle.lx_base.specs.declared.settings.Enc.{Enc}
use Rattle.lx_regex.specs.Automaton.{automaton}
use Rattle.lx_regex.specs.ClassLimits.{AllClassesFit}
use Rattle.lx_regex.specs.Pattern.{Pattern, terms_of}
use Rattle.lx_regex.specs.Script.{Symbol}
use Rattle.lx_regex.specs.Term.{Term}
use Rattle.lx_tnfa.specs.DepthFirst as searched
use Rattle.lx_tnfa.specs.LeafReadings.{IsNth}
use Rattle.lx_tnfa.specs.PlaceNumbers.{numbers_after, place_number, symbols_added}
use Rattle.lx_tnfa.specs.Tnfa.{IsTnfaOf, Tnfa}
use Rattle.lx_tnfa.specs.declared.places.Place.{Place}
use Rattle.lx_tnfa.proofs.Searching.SearchBasics.{Each}
use Rattle.lx_tnfa.proofs.Searching.SearchPaths.{All-from_each, Each-from_all}
use Rattle.lx_tdfa.specs.Graph.{graph_of, rule_starts}
use Rattle.lx_tdfa.specs.Kernels.{Candidate, candidates, first_of_each, segment_symbols}
use Rattle.lx_tdfa.specs.Steps.{IsInLeaf, Step, places_of}
use Rattle.lx_tdfa.proofs.Walks.ClosureSearches.{AreAlike}
use Rattle.lx_posix.specs.Closures.{AreWaysOf, kept_behind, way_to}
use Rattle.lx_posix.specs.Comparing.{Ranked, compared, ranked_at}
use Rattle.lx_posix.specs.Finding.{IsFoundAt}
use Rattle.lx_posix.specs.KeptKernels.{IsAfter, places_in, rank_of, rule_at}
use Rattle.lx_posix.specs.KernelLists as lists
use Rattle.lx_posix.specs.KernelLists.{ranks_after, ranks_behind, ranks_to, walk_of}
use Rattle.lx_posix.specs.LevelSearch.{ranks_by}
use Rattle.lx_posix.specs.Reaching.{AreByWays, IsByWay, segments_by}
use Rattle.lx_posix.specs.Walks as walks
use Rattle.lx_posix.specs.WayNumbers.{IsFound, number_of_ways, walk_to}
use Rattle.lx_posix.specs.declared.closures.Closure.{Closure}
use Rattle.lx_posix.specs.declared.kept.Kept.{Kept}
use Rattle.lx_posix.specs.declared.points.Point.TheVariants.{State}
use Rattle.lx_posix.specs.declared.search.Found.{Found}
use Rattle.lx_posix.proofs.CodeNumbers.FoundNumbers.{depth-found}
use Rattle.lx_posix.proofs.CodeNumbers.WaysCompared.{ways-compared}
use Rattle.lx_posix.proofs.CodeStarts.RanksByRule.{ranks_by_rule}
use Rattle.lx_posix.proofs.Course.PlaceRules.{ranked-rule}
use Rattle.lx_posix.proofs.OneSearch.ProgramSearch.{program_ranks}

nth-or : {A : Type 0} (xs : List A) (index : ℕ) (x other : A) → IsNth xs index x → slice_index_or xs index other ≡ x
nth-or [] index x other nth = absurd nth
nth-or (y ∷ xs) zero x other nth = nth
nth-or (y ∷ xs) (suc index) x other nth = nth-or xs index x other nth

each-at : {A : Type 0} (P : A → Type 0) (xs : List A) (index : ℕ) (x : A) → Each P xs → IsNth xs index x → P x
each-at P [] index x each nth = absurd nth
each-at P (y ∷ xs) zero x each nth = subst P nth each.0
each-at P (y ∷ xs) (suc index) x each nth = each-at P xs index x each.1 nth

-- what is kept is of this place, but for the rule
record IsKeptOf (tnfa : Tnfa) (kept : Kept) (ranked : Ranked) : Type 0 where
  pub place : place_number tnfa (2 * kept.place.part) kept.place.rest.0 ≡ ranked.place
  pub depth : kept.depth ≡ ranked.depth
  pub number : kept.number ≡ ranked.number

abbrev AreKeptOf : Tnfa → List Kept → List Ranked → Type 0
AreKeptOf tnfa [] [] = Unit {0}
AreKeptOf tnfa [] (ranked ∷ ranks) = ⊥
AreKeptOf tnfa (kept ∷ kernel) [] = ⊥
AreKeptOf tnfa (kept ∷ kernel) (ranked ∷ ranks) = IsKeptOf tnfa kept ranked × AreKeptOf tnfa kernel ranks

-- places tell their rules
ranks-are : (tnfa : Tnfa) (rules : List Term) (kernel : List Kept) (ranks : List Ranked) → AreKeptOf tnfa kernel ranks
    → ((index : ℕ) (ranked : Ranked) → IsNth ranks index ranked → ranked.rule ≡ rule_at rules ranked.place)
    → map (rank_of tnfa rules) kernel ≡ ranks
ranks-are tnfa rules [] [] are each = refl
ranks-are tnfa rules [] (ranked ∷ ranks) are each = absurd are
ranks-are tnfa rules (kept ∷ kernel) [] are each = absurd are
ranks-are tnfa rules (kept ∷ kernel) (ranked ∷ ranks) are each =
    ap₂ (λ (r : Ranked) (l : List Ranked). r ∷ l) one
    (ranks-are tnfa rules kernel ranks are.1 (λ index r nth. each (suc index) r nth))
  where
    rule : rule_at rules (place_number tnfa (2 * kept.place.part) kept.place.rest.0) ≡ ranked.rule
    rule = ap (rule_at rules) are.0.place ∙ sym (each 0 ranked refl)

    one : rank_of tnfa rules kept ≡ ranked
    one = λ i. record { rule = rule i; place = are.0.place i; depth = are.0.depth i; number = are.0.number i }

-- the places are those of the steps
places_in-kept : (tnfa : Tnfa) (closure : Closure) (last : Option Found) (places : List Place) (indices : List ℕ) → length places ≡ length indices
    → places_in (kept_behind tnfa closure last places indices) ≡ places
places_in-kept tnfa closure last [] indices same = refl
places_in-kept tnfa closure last (place ∷ places) [] same = absurd (omega arith)
places_in-kept tnfa closure last (place ∷ places) (index ∷ indices) same =
    ap (λ l. place ∷ l) (places_in-kept tnfa closure (Some (way_to closure index)) places indices (omega arith))

places-length : (steps : List Step) → length (places_of steps) ≡ length steps
places-length [] = refl
places-length (step ∷ steps) = ap suc (places-length steps)

module _ (enc : Enc) (patterns : List Pattern) (tnfa : Tnfa) (of : IsTnfaOf enc patterns tnfa) (fits : AllClassesFit enc (terms_of patterns))
    (word : List ℕ) (closure : Closure) (ways : AreWaysOf enc patterns tnfa closure.beginnings.items closure.founds.items word) (unit : ℕ)
    (first : Bool) where
  abbrev rules : List Term
  rules = terms_of patterns

  abbrev ranks : List Ranked
  ranks = ranks_after tnfa (terms_of patterns) word

  abbrev founds : List Found
  founds = closure.founds.items

  abbrev origins : List ℕ
  origins = closure.targets.origins.items

  abbrev said : Candidate → List Symbol
  said candidate =
      walk_of (graph_of (automaton (terms_of patterns))) (numbers_after tnfa) (segment_symbols (terms_of patterns) (symbols_added tnfa))
      (rule_starts (terms_of patterns)) (ranks_after tnfa (terms_of patterns) word) unit candidate

  -- the way to a target is found
  found-at : (candidate : Candidate) (index : ℕ) → IsByWay tnfa closure.founds.items closure.targets.origins.items unit candidate index
      → (found : Found) × (way_to closure index ≡ found) × IsFoundAt tnfa closure.beginnings.items ways.deep found
      × (found.from ≡ candidate.from) × (found.way ≡ candidate.key.way)
  found-at candidate index by = (
    by.found,
    ap (λ n. slice_index_or founds n (record { from = 0; at = State 0; depth = 0; way = [] })) (nth-or origins index by.origin 0 by.named)
        ∙ nth-or founds by.origin by.found _ by.listed,
    each-at (IsFoundAt tnfa closure.beginnings.items ways.deep) founds by.origin by.found
        (Each-from_all (IsFoundAt tnfa closure.beginnings.items ways.deep) founds ways.found) by.listed,
    by.from,
    by.way,
  )

  -- the symbols of a segment are those of its way
  said-way : (candidate : Candidate) (found : Found) → found.from ≡ candidate.from → found.way ≡ candidate.key.way
      → walk_to tnfa (terms_of patterns) (ranks_after tnfa (terms_of patterns) word) found unit candidate.key.pick ≡ said candidate
  said-way candidate found from way =
      ap₂ (λ (n : ℕ) (l : List ℕ). segment_symbols rules (symbols_added tnfa) (ranked_at ranks n).place unit
      (record { way = l; pick = candidate.key.pick })) from way

  is-found : (found : Found) → IsFoundAt tnfa closure.beginnings.items ways.deep found → IsFound tnfa closure.beginnings.items found
  is-found found at = record { from = at.from; way = at.way }

  depth-said : (candidate : Candidate) (found : Found) → IsFoundAt tnfa closure.beginnings.items ways.deep found → found.from ≡ candidate.from
      → found.way ≡ candidate.key.way
      → found.depth
      ≡ (lists.ranked_of (graph_of (automaton (terms_of patterns))) (numbers_after tnfa) (segment_symbols (terms_of patterns) (symbols_added tnfa))
      (rule_starts (terms_of patterns)) (ranks_after tnfa (terms_of patterns) word) unit candidate 0).depth
  depth-said candidate found at from way =
      at.depth
      ∙ sym (depth-found enc patterns tnfa ways.deep ranks closure.beginnings.items of ways.placed ways.begin found unit candidate.key.pick
      ways.depths (is-found found at))
      ∙ ap₂ (λ (n : ℕ) (l : List Symbol). walks.depth (ranked_at ranks n).depth l) from (said-way candidate found from way)

  number-said : (last candidate : Candidate) (before found : Found)
      → IsFoundAt tnfa closure.beginnings.items ways.deep before → before.from ≡ last.from → before.way ≡ last.key.way
      → IsFoundAt tnfa closure.beginnings.items ways.deep found → found.from ≡ candidate.from → found.way ≡ candidate.key.way
      → number_of_ways tnfa closure.beginnings.items before found
      ≡ (compared (ranks_after tnfa (terms_of patterns) word) last.from (said last) candidate.from (said candidate)).number
  number-said last candidate before found at from way found_at found_from found_way =
      ways-compared enc patterns tnfa ways.deep ranks closure.beginnings.items of ways.placed ways.begin
      (ranks_by_rule enc patterns tnfa of fits word) before found (is-found before at) (is-found found found_at) unit last.key.pick candidate.key.pick
      ∙ ap₂ (λ (n : ℕ) (l : List Symbol). (compared ranks n l found.from (walk_to tnfa rules ranks found unit candidate.key.pick)).number) from
      (said-way last before from way)
      ∙ ap₂ (λ (n : ℕ) (l : List Symbol). (compared ranks last.from (said last) n l).number) found_from (said-way candidate found found_from found_way)

  -- ---- one place after another

  abbrev later : Candidate → List Candidate → List Ranked
  later last list =
      ranks_behind (graph_of (automaton (terms_of patterns))) (numbers_after tnfa) (segment_symbols (terms_of patterns) (symbols_added tnfa))
      (rule_starts (terms_of patterns)) (ranks_after tnfa (terms_of patterns) word) unit last list

  behind : (last : Candidate) (before : Found) → IsFoundAt tnfa closure.beginnings.items ways.deep before → before.from ≡ last.from
      → before.way ≡ last.key.way → (list : List Candidate) (steps : List Step) (indices : List ℕ)
      → AreAlike tnfa (terms_of patterns) first (lists.places_of (ranks_after tnfa (terms_of patterns) word)) unit list steps
      → AreByWays tnfa closure.founds.items closure.targets.origins.items unit list indices
      → AreKeptOf tnfa (kept_behind tnfa closure (Some before) (places_of steps) indices)
      (ranks_behind (graph_of (automaton (terms_of patterns))) (numbers_after tnfa) (segment_symbols (terms_of patterns) (symbols_added tnfa))
      (rule_starts (terms_of patterns)) (ranks_after tnfa (terms_of patterns) word) unit last list)
  behind last before at from way [] [] indices alike by = tt
  behind last before at from way [] (step ∷ steps) indices alike by = absurd alike
  behind last before at from way (candidate ∷ list) [] indices alike by = absurd alike
  behind last before at from way (candidate ∷ list) (step ∷ steps) [] alike by = absurd by
  behind last before at from way (candidate ∷ list) (step ∷ steps) (index ∷ indices) alike by =
      let f = found-at candidate index by.0 in (
        record {
          place = sym alike.0;
          depth = ap (λ (found : Found). found.depth) f.1 ∙ depth-said candidate f.0 f.2 f.3 f.4;
          number =
              ap (λ (found : Found). number_of_ways tnfa closure.beginnings.items before found) f.1
              ∙ number-said last candidate before f.0 at from way f.2 f.3 f.4;
        },
        subst (λ found. AreKeptOf tnfa (kept_behind tnfa closure (Some found) (places_of steps) indices) (later candidate list)) (sym f.1)
            (behind candidate f.0 f.2 f.3 f.4 list steps indices alike.3 by.1),
      )

  kept-of : (list : List Candidate) (steps : List Step) (indices : List ℕ)
      → AreAlike tnfa (terms_of patterns) first (lists.places_of (ranks_after tnfa (terms_of patterns) word)) unit list steps
      → AreByWays tnfa closure.founds.items closure.targets.origins.items unit list indices
      → AreKeptOf tnfa (kept_behind tnfa closure None (places_of steps) indices)
      (ranks_to (graph_of (automaton (terms_of patterns))) (numbers_after tnfa) (segment_symbols (terms_of patterns) (symbols_added tnfa))
      (rule_starts (terms_of patterns)) (ranks_after tnfa (terms_of patterns) word) unit list)
  kept-of [] [] indices alike by = tt
  kept-of [] (step ∷ steps) indices alike by = absurd alike
  kept-of (candidate ∷ list) [] indices alike by = absurd alike
  kept-of (candidate ∷ list) (step ∷ steps) [] alike by = absurd by
  kept-of (candidate ∷ list) (step ∷ steps) (index ∷ indices) alike by =
      let f = found-at candidate index by.0 in (
        record {
          place = sym alike.0;
          depth = ap (λ (found : Found). found.depth) f.1 ∙ depth-said candidate f.0 f.2 f.3 f.4;
          number = refl;
        },
        subst (λ found. AreKeptOf tnfa (kept_behind tnfa closure (Some found) (places_of steps) indices) (later candidate list)) (sym f.1)
            (behind candidate f.0 f.2 f.3 f.4 list steps indices alike.3 by.1),
      )

  -- ---- the kernel

  same-lengths : (list : List Candidate) (steps : List Step) (indices : List ℕ)
      → AreAlike tnfa (terms_of patterns) first (lists.places_of (ranks_after tnfa (terms_of patterns) word)) unit list steps
      → AreByWays tnfa closure.founds.items closure.targets.origins.items unit list indices → length steps ≡ length indices
  same-lengths [] [] [] alike by = refl
  same-lengths [] [] (index ∷ indices) alike by = absurd by
  same-lengths [] (step ∷ steps) indices alike by = absurd alike
  same-lengths (candidate ∷ list) [] indices alike by = absurd alike
  same-lengths (candidate ∷ list) (step ∷ steps) [] alike by = absurd by
  same-lengths (candidate ∷ list) (step ∷ steps) (index ∷ indices) alike by = ap suc (same-lengths list steps indices alike.3 by.1)

  abbrev segments : List Candidate
  segments = segments_by tnfa closure.founds.items unit

  pub ranks-next : ranks_after tnfa (terms_of patterns) (word ++ unit ∷ [])
      ≡ ranks_by tnfa (terms_of patterns) (ranks_after tnfa (terms_of patterns) word) unit
      (segments_by tnfa closure.founds.items unit)
  ranks-next =
      program_ranks enc patterns tnfa of fits word unit ways.deep ways.width ways.depths ways.placed ways.small
      ∙ ap (λ (l : List searched.Found). ranks_by tnfa rules ranks unit (first_of_each [] (candidates (λ state. numbers_after tnfa state unit) l)))
      (sym ways.listed)

  module _ (steps : List Step) (indices : List ℕ)
      (alike : AreAlike tnfa (terms_of patterns) first (lists.places_of (ranks_after tnfa (terms_of patterns) word)) unit
      (segments_by tnfa closure.founds.items unit) steps)
      (by : AreByWays tnfa closure.founds.items closure.targets.origins.items unit
      (segments_by tnfa closure.founds.items unit) indices)
      (leaves : Each (λ (step : Step). IsInLeaf tnfa step.to) steps) where
    pub next-places : places_in (kept_behind tnfa closure None (places_of steps) indices) ≡ places_of steps
    next-places =
        places_in-kept tnfa closure None (places_of steps) indices (places-length steps ∙ same-lengths segments steps indices alike by)

    pub next-length : length (kept_behind tnfa closure None (places_of steps) indices) ≡ length steps
    next-length =
        sym (length-map (kept_behind tnfa closure None (places_of steps) indices) (λ (kept : Kept). kept.place))
        ∙ ap (λ l. length l) next-places ∙ places-length steps

    pub next-ranks : map (rank_of tnfa (terms_of patterns)) (kept_behind tnfa closure None (places_of steps) indices)
        ≡ ranks_after tnfa (terms_of patterns) (word ++ unit ∷ [])
    next-ranks =
        ranks-are tnfa rules (kept_behind tnfa closure None (places_of steps) indices) (ranks_after tnfa rules (word ++ unit ∷ []))
        (subst (λ l. AreKeptOf tnfa (kept_behind tnfa closure None (places_of steps) indices) l) (sym ranks-next)
        (kept-of segments steps indices alike by))
        (λ index ranked nth. ranked-rule enc patterns tnfa of fits (word ++ unit ∷ []) index ranked nth)

    leaf-places : (steps : List Step) → Each (λ (step : Step). IsInLeaf tnfa step.to) steps → Each (IsInLeaf tnfa) (places_of steps)
    leaf-places [] each = tt
    leaf-places (step ∷ steps) each = (each.0, leaf-places steps each.1)

    pub next-after : steps ≢ [] → IsAfter tnfa (terms_of patterns) false (kept_behind tnfa closure None (places_of steps) indices) (word ++ unit ∷ [])
    next-after some = record {
      keeps = (
        next-ranks,
        subst (λ l. All (IsInLeaf tnfa) l) (sym next-places)
            (All-from_each (IsInLeaf tnfa) (places_of steps) (leaf-places steps leaves)),
      );
      empty = λ e. cc e;
      later = λ e empty. longer word empty;
      some = λ none. some (no-steps steps (sym next-places ∙ ap places_in none));
    }
      where
        longer : (word : List ℕ) → word ++ unit ∷ [] ≢ []
        longer [] e = cc e
        longer (x ∷ word) e = cc e

        no-steps : (steps : List Step) → places_of steps ≡ [] → steps ≡ []
        no-steps [] e = refl
        no-steps (step ∷ steps) e = cc e
