-- A way and a unit behind it are a segment, with the events of the way.
use Rattle.std.proofs.Common.{ap, ◌∙◌, append-nil}
use Rattle.std.specs.Prelude.{ℕ, List, [], ◌∷◌, ◌++◌}
use Rattle.lx_base.specs.declared.settings.Enc.{Enc}
use Rattle.lx_regex.specs.Automaton.{automaton}
use Rattle.lx_regex.specs.ClassLimits.{AllClassesFit}
use Rattle.lx_regex.specs.Pattern.{Pattern, terms_of}
use Rattle.lx_regex.specs.Script.{reads}
use Rattle.lx_tnfa.specs.LeafReadings.{IsNth}
use Rattle.lx_tnfa.specs.PlaceNumbers.{numbers_after, symbols_added}
use Rattle.lx_tnfa.specs.Tnfa.{IsTnfaOf, Tnfa}
use Rattle.lx_tdfa.specs.Graph.{path_symbols}
use Rattle.lx_tdfa.proofs.Walks.ClosureSearches.{IsSegment}
use Rattle.lx_tdfa.proofs.Walks.Searches.{automaton_holds}
use Rattle.lx_tdfa.proofs.Walks.StatePaths.{path_symbols-append, path_symbols-units}
use Rattle.lx_posix.specs.Beginnings.{IsPoint, point_number}
use Rattle.lx_posix.specs.Finding.{IsWay}
use Rattle.lx_posix.specs.Reaching.{events_from, events_on}
use Rattle.lx_posix.specs.declared.points.Point.{Point}
use Rattle.lx_posix.proofs.CodeReaches.LeafPoints.{events_from-number}
use Rattle.lx_posix.proofs.CodeReaches.PlacesAfter.{added_at}
use Rattle.lx_posix.proofs.CodeReaches.WayEvents.{path_events}
use Rattle.lx_posix.proofs.CodeSearch.FoundPaths.{way_end}

module _ (enc : Enc) (patterns : List Pattern) (tnfa : Tnfa) (of : IsTnfaOf enc patterns tnfa)
    (fits : AllClassesFit enc (terms_of patterns)) where
  pub way_segment : (begin at : Point) (way : List ℕ) (unit pick to : ℕ) → IsPoint tnfa at
      → IsWay tnfa (point_number tnfa begin) way (point_number tnfa at) → IsNth (numbers_after tnfa (point_number tnfa at) unit) pick to
      → IsSegment tnfa (terms_of patterns) (point_number tnfa begin) unit (record { way = way; pick = pick }) (events_from tnfa begin way)
  way_segment begin at way unit pick to lt w nth =
      let rules = terms_of patterns in
      let states = automaton rules in
      let number = point_number tnfa begin in
      let a = added_at tnfa rules (automaton_holds enc patterns tnfa of fits) at unit pick to lt nth in
      let end = way_end enc patterns tnfa of number way (point_number tnfa at) w in record {
        before = path_symbols states number way a.before;
        says =
            ap (λ n. path_symbols states number way (symbols_added tnfa n unit pick)) end
            ∙ ap (path_symbols states number way) a.added
            ∙ path_symbols-append states number way a.before (reads unit ∷ []);
        silent = path_symbols-units states number way a.before ∙ a.silent;
        events_are =
            path_events tnfa states of.states number way a.before
            ∙ ap (λ l. events_on tnfa number way ++ l) a.still
            ∙ append-nil (events_on tnfa number way)
            ∙ events_from-number tnfa begin way (point_number tnfa at) w;
      }
