-- The closure of a kernel is made.
use Rattle.std.proofs.Common.{◌≡◌, ℕ, ◌<◌, ◌≤◌, ◌^◌, arith, Bool, true, false, List, [], ◌∷◌, length, map, sym, ap, ◌∙◌, subst}
use Rattle.std.specs.Prelude.{All}
use Rattle.lx_base.specs.declared.settings.Enc.{Enc}
use Rattle.lx_regex.specs.Automaton.{automaton}
use Rattle.lx_regex.specs.ClassLimits.{AllClassesFit}
use Rattle.lx_regex.specs.Kernel.{IsWord}
use Rattle.lx_regex.specs.Pattern.{Pattern, patterns_of, terms_of}
use Rattle.lx_tnfa.specs.Tnfa.{IsPlace, IsTnfaOf, Tnfa}
use Rattle.lx_tnfa.specs.declared.places.Place.{Place}
use Rattle.lx_tnfa.proofs.Construction.WholeTable.{held_length}
use Rattle.lx_tnfa.proofs.Searching.SearchBasics.{Each}
use Rattle.lx_tnfa.proofs.Searching.SearchPaths.{All-from_each, Each-from_all}
use Rattle.lx_tdfa.specs.Building.{IsBuilt}
use Rattle.lx_tdfa.specs.Steps.{IsInLeaf, start_place}
use Rattle.lx_tdfa.proofs.Rules.StepPlaces.{start_place-place}
use Rattle.lx_posix.specs.Beginnings.{AreBeginnings, AreByRule}
use Rattle.lx_posix.specs.Closures.{AreWaysOf, IsClosure, IsReachedUnder}
use Rattle.lx_posix.specs.Comparing.{Ranked}
use Rattle.lx_posix.specs.Finding.{AreStarts, IsFoundAt, IsSearchable, shown_found, ways_from}
use Rattle.lx_posix.specs.KeptKernels.{IsAfter, places_in}
use Rattle.lx_posix.specs.KernelLists.{ranks_after}
use Rattle.lx_posix.specs.LevelSearch.{place_depth}
use Rattle.lx_posix.specs.Reaching.{beginnings_of, origins_of, reaches_of}
use Rattle.lx_posix.specs.Starts.{level_starts}
use Rattle.lx_posix.specs.Sweeps.{shown_start}
use Rattle.lx_posix.specs.declared.closures.Closure.{Closure}
use Rattle.lx_posix.specs.declared.kept.Kept.{Kept}
use Rattle.lx_posix.specs.declared.points.Beginning.{Beginning}
use Rattle.lx_posix.specs.declared.search.Found.{Found}
use Rattle.lx_posix.specs.declared.starts.Start.{Start}
use Rattle.lx_posix.proofs.CodeSearch.FewStates.{states_fit}
use Rattle.lx_posix.proofs.CodeSearch.KernelStarts.{kernel_starts}
use Rattle.lx_posix.proofs.CodeStarts.RanksByRule.{ranks_by_rule}
use Rattle.lx_posix.proofs.CodeStarts.SmallDepths.{place_depth_less}
use Rattle.lx_posix.proofs.Made.KernelBeginnings.{beginnings-are, beginnings-few}
use Rattle.lx_posix.proofs.OneSearch.ProgramSearch.{are_state_depths, program_places}

pub built-few : (tnfa : Tnfa) → IsBuilt tnfa → length tnfa.states < 2 ^ 32
built-few tnfa built = states_fit built.0 built.1 tnfa built.4 built.2

-- a search can be made from the kernel of a word
module _ (enc : Enc) (patterns : List Pattern) (tnfa : Tnfa) (of : IsTnfaOf enc patterns tnfa) (fits : AllClassesFit enc (terms_of patterns))
    (few : length tnfa.states < 2 ^ 32) (first : Bool) (kernel : List Kept) (word : List ℕ)
    (after : IsAfter tnfa (terms_of patterns) first kernel word) (beginnings : List Beginning) (are : beginnings ≡ beginnings_of tnfa first kernel) where
  abbrev deep : ℕ → ℕ
  deep state = place_depth (terms_of patterns) (ranks_after tnfa (terms_of patterns) word) state

  small : (state : ℕ) → place_depth (terms_of patterns) (ranks_after tnfa (terms_of patterns) word) state < length tnfa.states
  small state =
      let less = place_depth_less enc patterns tnfa of fits word state in
      let count : length tnfa.states ≡ length (automaton (terms_of patterns)) =
      held_length tnfa.classes (automaton (terms_of patterns)) tnfa.states of.states in
      omega (arith, less, count)

  begin : AreBeginnings tnfa (place_depth (terms_of patterns) (ranks_after tnfa (terms_of patterns) word)) beginnings (ranks_after tnfa (terms_of patterns) word)
  begin =
      subst (λ l. AreBeginnings tnfa deep l (ranks_after tnfa (terms_of patterns) word)) (sym are)
      (beginnings-are enc patterns tnfa of fits deep word (program_places enc patterns tnfa of fits word) first kernel after)

  pub searchable : IsSearchable tnfa beginnings
  searchable = record {
    enc = enc;
    patterns = patterns;
    of = of;
    few = few;
    deep = place_depth (terms_of patterns) (ranks_after tnfa (terms_of patterns) word);
    width = length tnfa.states;
    depths = are_state_depths (terms_of patterns) (ranks_after tnfa (terms_of patterns) word);
    small = small;
    narrow = few;
    ranks = ranks_after tnfa (terms_of patterns) word;
    are = begin;
  }

  module _ (starts : List Start)
      (all : (tnfa : Tnfa) (deep : ℕ → ℕ) (ranks : List Ranked) → AreBeginnings tnfa deep beginnings ranks → AreByRule ranks
      → map shown_start starts ≡ level_starts deep ranks) where
    starts-are : map shown_start starts
        ≡ level_starts (place_depth (terms_of patterns) (ranks_after tnfa (terms_of patterns) word)) (ranks_after tnfa (terms_of patterns) word)
    starts-are = all tnfa deep (ranks_after tnfa (terms_of patterns) word) begin (ranks_by_rule enc patterns tnfa of fits word)

    pub starts-fit : AreStarts beginnings starts
    starts-fit = kernel_starts tnfa deep beginnings (ranks_after tnfa (terms_of patterns) word) starts begin starts-are

    pub ways-of : (founds : List Found)
        → ((is : IsSearchable tnfa beginnings) → map (shown_found tnfa) founds ≡ ways_from (terms_of is.patterns) is.deep is.width is.ranks (map shown_start starts))
        → ((is : IsSearchable tnfa beginnings) → All (IsFoundAt tnfa beginnings is.deep) founds)
        → AreWaysOf enc patterns tnfa beginnings founds word
    unfolding searchable
    ways-of founds listed found = record {
      deep = place_depth (terms_of patterns) (ranks_after tnfa (terms_of patterns) word);
      width = length tnfa.states;
      depths = are_state_depths (terms_of patterns) (ranks_after tnfa (terms_of patterns) word);
      placed = program_places enc patterns tnfa of fits word;
      small = small;
      narrow = few;
      begin = begin;
      listed =
          listed searchable
          ∙ ap (λ l. ways_from (terms_of patterns) deep (length tnfa.states) (ranks_after tnfa (terms_of patterns) word) l) starts-are;
      found = found searchable;
    }

-- the closure of a kernel that is that of some word
module _ (tnfa : Tnfa) (built : IsBuilt tnfa) (first : Bool) (kernel : List Kept) (reached : IsReachedUnder tnfa first kernel) where
  abbrev patterns : List Pattern
  patterns = patterns_of built.1

  at : (word : List ℕ) × IsWord built.0 (terms_of (patterns_of built.1)) word × IsAfter tnfa (terms_of (patterns_of built.1)) first kernel word
  at = reached built.0 patterns built.4 built.3

  pub kernel-places : All (IsPlace tnfa) (places_in kernel)
  kernel-places = by first at.2
    where
      leaves : (places : List Place) → Each (IsInLeaf tnfa) places → Each (IsPlace tnfa) places
      leaves [] each = tt
      leaves (place ∷ places) each = (each.0.0, leaves places each.1)

      by : (first : Bool) → IsAfter tnfa (terms_of patterns) first kernel at.0 → All (IsPlace tnfa) (places_in kernel)
      by true after =
          subst (λ l. All (IsPlace tnfa) (places_in l)) (sym after.keeps.0)
          (All-from_each (IsPlace tnfa) (start_place ∷ []) (start_place-place built.0 patterns tnfa built.4, tt))
      by false after =
          All-from_each (IsPlace tnfa) (places_in kernel)
          (leaves (places_in kernel) (Each-from_all (IsInLeaf tnfa) (places_in kernel) after.keeps.1))

  module _ (beginnings : List Beginning) (are : beginnings ≡ beginnings_of tnfa first kernel) where
    pub kernel-few : length kernel ≤ 1048576 → length beginnings < 2 ^ 32
    kernel-few short =
        subst (λ l. length l < 2 ^ 32) (sym are)
        (beginnings-few built.0 patterns tnfa built.4 built.3 (place_depth (terms_of patterns) (ranks_after tnfa (terms_of patterns) at.0)) at.0
        (program_places built.0 patterns tnfa built.4 built.3 at.0) first kernel (built-few tnfa built) short)

    pub kernel-searchable : IsSearchable tnfa beginnings
    kernel-searchable =
        searchable built.0 patterns tnfa built.4 built.3 (built-few tnfa built) first kernel at.0 at.2 beginnings are

    module _ (starts : List Start)
        (all : (tnfa : Tnfa) (deep : ℕ → ℕ) (ranks : List Ranked) → AreBeginnings tnfa deep beginnings ranks → AreByRule ranks
        → map shown_start starts ≡ level_starts deep ranks) where
      pub kernel-starts : AreStarts beginnings starts
      kernel-starts =
          starts-fit built.0 patterns tnfa built.4 built.3 (built-few tnfa built) first kernel at.0 at.2 beginnings are starts all

      module _ (founds : List Found)
          (listed : (is : IsSearchable tnfa beginnings)
          → map (shown_found tnfa) founds ≡ ways_from (terms_of is.patterns) is.deep is.width is.ranks (map shown_start starts))
          (found : (is : IsSearchable tnfa beginnings) → All (IsFoundAt tnfa beginnings is.deep) founds) where
        pub kernel-found : (deep : ℕ → ℕ) × All (IsFoundAt tnfa beginnings deep) founds
        kernel-found = (kernel-searchable.deep, found kernel-searchable)

        pub closure-made : (closure : Closure) → closure.beginnings.items ≡ beginnings → closure.founds.items ≡ founds
            → closure.targets.reaches.items ≡ reaches_of tnfa first beginnings founds
            → closure.targets.origins.items ≡ origins_of tnfa first beginnings 0 founds → IsClosure tnfa first kernel closure
        closure-made closure held ways reaches origins = record {
          begin = held ∙ are;
          ways = λ enc patterns of fits word after.
              subst (λ l. AreWaysOf enc patterns tnfa l closure.founds.items word) (sym held)
              (subst (λ l. AreWaysOf enc patterns tnfa beginnings l word) (sym ways)
              (ways-of enc patterns tnfa of fits (built-few tnfa built) first kernel word after beginnings are starts all founds listed found));
          reaches =
              reaches ∙ ap (λ l. reaches_of tnfa first l founds) (sym held) ∙ ap (λ l. reaches_of tnfa first closure.beginnings.items l) (sym ways);
          origins =
              origins ∙ ap (λ l. origins_of tnfa first l 0 founds) (sym held) ∙ ap (λ l. origins_of tnfa first closure.beginnings.items 0 l) (sym ways);
        }
