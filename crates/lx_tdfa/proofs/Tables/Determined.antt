-- From what the code builds to what is promised.
use Rattle.std.proofs.Common.{◌≡◌, ◌≢◌, ◌≤◌, arith, List, [], ◌∷◌, length, refl, sym, ap, subst}
use Rattle.std.proofs.lemmas.List.Elements.{All-cons, All-nil}
use Rattle.std.specs.Prelude.{All, AllPairs}
use Rattle.lx_regex.specs.ClassLimits.{AllClassesFit}
use Rattle.lx_base.specs.Spelling.{greatest_unit}
use Rattle.lx_base.specs.declared.faults.Stop.{Stop}
use Rattle.lx_base.specs.declared.places.Pos.{Pos}
use Rattle.lx_base.specs.declared.settings.Enc.{Enc}
use Rattle.lx_auto.specs.Automaton.{IsAuto}
use Rattle.lx_auto.specs.declared.automaton.Auto.{Auto}
use Rattle.lx_regex.specs.Kernel.{HasTooManyKernels}
use Rattle.lx_regex.specs.Pattern.{Pattern, terms_of}
use Rattle.lx_tnfa.specs.RuleNumbers.{HaveApartNumbers}
use Rattle.lx_tnfa.specs.Tnfa.{IsTnfaOf, Tnfa}
use Rattle.lx_tnfa.specs.declared.places.Place.{Place}
use Rattle.lx_tdfa.specs.Building.{AreListed, AreStatesOf, IsBuilt, TooManyFound, greatest_of}
use Rattle.lx_tdfa.specs.KernelStates.{HasKernelStates}
use Rattle.lx_tdfa.specs.Making.{StopsBy}
use Rattle.lx_tdfa.specs.Promise.{IsAutoOf}
use Rattle.lx_tdfa.specs.Registers.{widest}
use Rattle.lx_tdfa.specs.Steps.{IsFound, at_start, start_place}
use Rattle.lx_tdfa.specs.Table.{IsStateOf, IsTable, is_first}
use Rattle.lx_tnfa.proofs.Construction.ApartNumbers.{numbers_apart}
use Rattle.lx_tdfa.proofs.Loops.Stops.{StopsBy-wider}
use Rattle.lx_tdfa.proofs.Rules.ApartNumbers.{widest_bound}
use Rattle.lx_tdfa.proofs.Walks.ClosureSearches.{RulesKept, SearchesAlike}
use Rattle.lx_tdfa.proofs.WordKernels.FewKernels.{few_found}
use Rattle.lx_tdfa.proofs.Rules.KeptRules.{rules_kept}
use Rattle.lx_tdfa.proofs.WordKernels.ManyKernels.{many_found}
use Rattle.lx_tdfa.proofs.Rules.OwnedEnds.{ends_are_owned}
use Rattle.lx_tdfa.proofs.Walks.Searches.{searches_alike}
use Rattle.lx_tdfa.proofs.Tables.GreedyTables.{table_auto}
use Rattle.lx_tdfa.proofs.Tables.TableKernels.{table-kernels}

pub start_listed : (tnfa : Tnfa) → AreListed tnfa ((start_place ∷ []) ∷ [])
start_listed tnfa = record {
  found = All-cons (IsFound tnfa (greatest_of tnfa)) (start_place ∷ []) [] at_start (All-nil (IsFound tnfa (greatest_of tnfa)));
  start = refl;
  places = λ number list e. cc;
  within = record { few = omega arith; few_places = omega arith };
  apart = λ i j d lt within. absurd (omega arith);
}

module _ (tnfa : Tnfa) (built : IsBuilt tnfa) where
  pub built-narrow : widest tnfa.rules ≤ 130
  built-narrow =
      subst (λ rules. widest rules ≤ 130) (sym built.4.rules) (widest_bound built.1 built.2.tags)

  built-apart : HaveApartNumbers tnfa.rules
  built-apart = subst HaveApartNumbers (sym built.4.rules) (numbers_apart built.1 built.2.numbers)

  module _ (enc : Enc) (patterns : List Pattern) (of : IsTnfaOf enc patterns tnfa) (fits : AllClassesFit enc (terms_of patterns)) where
    kept : RulesKept enc patterns tnfa
    kept = rules_kept enc patterns tnfa of built-apart

    alike : SearchesAlike patterns tnfa
    alike = searches_alike enc patterns tnfa of fits kept.numbers

    greatest_same : greatest_of tnfa ≡ greatest_unit enc
    greatest_same = ap (λ e. greatest_unit e) of.enc

    pub built-too_many : (at : Pos) (why : Stop) → StopsBy at (TooManyFound tnfa) why → StopsBy at (HasTooManyKernels enc (terms_of patterns)) why
    built-too_many at why =
        StopsBy-wider at why
        (λ found.
        many_found enc patterns tnfa of fits kept alike found.0
        (subst (λ greatest. All (IsFound tnfa greatest) found.0) greatest_same found.1) found.2.apart found.2.many)

    built-table : (kernels : List (List Place)) (auto : Auto) → AreListed tnfa kernels → IsAuto auto → length auto.states ≡ length kernels
        → AreStatesOf tnfa kernels auto.states → IsTable tnfa (greatest_unit enc) kernels auto
    built-table kernels auto listed formed count states = record {
      formed = formed;
      start = listed.start;
      lists = sym count;
      places = listed.places;
      states = λ number list state e f.
          subst (λ greatest. IsStateOf tnfa greatest kernels (is_first number) list state) greatest_same (states number list state e f).0;
    }

    pub built-kernels : (kernels : List (List Place)) (auto : Auto) → AreListed tnfa kernels → IsAuto auto → length auto.states ≡ length kernels
        → AreStatesOf tnfa kernels auto.states → AllPairs (λ list other. list ≢ other) kernels → HasKernelStates enc patterns auto
    built-kernels kernels auto listed formed count states differ =
        table-kernels enc patterns tnfa of fits alike kept kernels auto (built-table kernels auto listed formed count states) differ

    pub built-automaton : (kernels : List (List Place)) (auto : Auto) → AreListed tnfa kernels → IsAuto auto → length auto.states ≡ length kernels
        → AreStatesOf tnfa kernels auto.states
        → IsAutoOf enc patterns auto × (HasTooManyKernels enc (terms_of patterns) → ⊥)
    built-automaton kernels auto listed formed count states =
        let table = built-table kernels auto listed formed count states in (
          table_auto enc patterns tnfa of fits alike kept (ends_are_owned enc patterns tnfa of) kernels auto table,
          few_found enc patterns tnfa of fits alike kernels auto table listed.within.few listed.within.few_places,
        )
