-- The closure of places and the search from their numbers go on alike.
use Rattle.std.proofs.Common.{◌≡◌, false, true, List, [], ◌∷◌, map, refl, sym, ◌∙◌, subst}
use Rattle.lx_regex.specs.ClassLimits.{AllClassesFit}
use Rattle.lx_base.specs.declared.settings.Enc.{Enc}
use Rattle.lx_regex.specs.Pattern.{Pattern, terms_of}
use Rattle.lx_tnfa.specs.Classes.{AreClasses}
use Rattle.lx_tnfa.specs.Closure.{beginning_of}
use Rattle.lx_tnfa.specs.Tnfa.{IsTnfaOf, Tnfa}
use Rattle.lx_tnfa.specs.declared.closure.Stop.TheVariants.{AtState}
use Rattle.lx_tnfa.specs.declared.places.Place.{Place}
use Rattle.lx_tnfa.proofs.Searching.SearchPaths.{Each-from_all}
use Rattle.lx_tdfa.specs.Graph.{rule_starts}
use Rattle.lx_tdfa.specs.Steps.{IsInLeaf, start_place}
use Rattle.lx_tdfa.proofs.Walks.ClosureSearches.{SearchesAlike, number_of}
use Rattle.lx_tdfa.proofs.Walks.EndsAlike.{ends_alike}
use Rattle.lx_tdfa.proofs.Walks.PlainRuns.{full_key, places_keyed, short_key, start_keyed}
use Rattle.lx_tdfa.proofs.Walks.StepsAlike.{steps_alike}
use Rattle.lx_tdfa.proofs.Walks.StopPlaces.{begins_are, begins_positive, places_begin, rules_begin}
use Rattle.lx_tdfa.proofs.Walks.StopSteps.{Holds}

-- numbers tell the places in leaves apart
abbrev pub AreApartByNumber : Tnfa → Type 0
AreApartByNumber tnfa =
    (place other : Place) → IsInLeaf tnfa place → IsInLeaf tnfa other → number_of tnfa place ≡ number_of tnfa other → place ≡ other

module _ (enc : Enc) (patterns : List Pattern) (tnfa : Tnfa) (of : IsTnfaOf enc patterns tnfa) (fits : AllClassesFit enc (terms_of patterns)) where
  pub automaton_holds : Holds tnfa (terms_of patterns)
  automaton_holds = record {
    are = subst (λ e. AreClasses e tnfa.classes) (sym of.enc) of.classes;
    states = of.states;
    fits = subst (λ e. AllClassesFit e (terms_of patterns)) (sym of.enc) fits;
    live = of.live;
    marks = of.marks;
  }

  rules_begins : tnfa.begins ≡ rule_starts (terms_of patterns)
  rules_begins = of.begins ∙ begins_are tnfa (terms_of patterns) automaton_holds 0 1 (terms_of patterns) refl

  pub searches_alike : AreApartByNumber tnfa → SearchesAlike patterns tnfa
  searches_alike told = record {
    steps = λ kernel reaches unit within closure.
        steps_alike tnfa (terms_of patterns) automaton_holds kernel false (map (beginning_of tnfa) kernel) (map (number_of tnfa) kernel) full_key
        (places_keyed tnfa kernel) (places_begin tnfa (terms_of patterns) automaton_holds kernel (Each-from_all (IsInLeaf tnfa) kernel within)) unit told reaches closure;
    first_steps = λ reaches unit closure.
        steps_alike tnfa (terms_of patterns) automaton_holds (start_place ∷ []) true (map AtState tnfa.begins) (rule_starts (terms_of patterns)) short_key
        (start_keyed tnfa (terms_of patterns) automaton_holds (begins_positive tnfa (terms_of patterns) automaton_holds rules_begins)) (rules_begin tnfa (terms_of patterns) automaton_holds rules_begins) unit told reaches
        closure;
    endings = λ kernel reaches within closure.
        ends_alike tnfa (terms_of patterns) automaton_holds kernel false (map (beginning_of tnfa) kernel) (map (number_of tnfa) kernel) full_key
        (places_keyed tnfa kernel) (places_begin tnfa (terms_of patterns) automaton_holds kernel (Each-from_all (IsInLeaf tnfa) kernel within)) reaches closure;
    first_endings = λ reaches closure.
        ends_alike tnfa (terms_of patterns) automaton_holds (start_place ∷ []) true (map AtState tnfa.begins) (rule_starts (terms_of patterns)) short_key
        (start_keyed tnfa (terms_of patterns) automaton_holds (begins_positive tnfa (terms_of patterns) automaton_holds rules_begins)) (rules_begin tnfa (terms_of patterns) automaton_holds rules_begins) reaches closure;
  }
