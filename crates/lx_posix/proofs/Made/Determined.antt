-- From what the code builds to what is promised.
use Rattle.std.proofs.Common.{◌≡◌, ℕ, zero, suc, ◌+◌, ◌*◌, ◌<◌, ◌≤◌, arith, List, [], ◌∷◌, length, Some, refl, sym, subst}
use Rattle.std.proofs.lemmas.List.{length-map}
use Rattle.std.specs.Prelude.{slice_get}
use Rattle.lx_auto.specs.Automaton.{AreApart, IsAuto, IsState}
use Rattle.lx_auto.specs.declared.automaton.Auto.{Auto}
use Rattle.lx_auto.specs.declared.automaton.State.{State}
use Rattle.lx_base.specs.declared.faults.Stop.{Stop}
use Rattle.lx_base.specs.declared.places.Pos.{Pos}
use Rattle.lx_base.specs.declared.settings.Enc.{Enc}
use Rattle.lx_regex.specs.ClassLimits.{AllClassesFit}
use Rattle.lx_regex.specs.Order.{posix}
use Rattle.lx_regex.specs.Pattern.{Pattern, patterns_of, terms_of}
use Rattle.lx_tnfa.specs.Tnfa.{IsTnfaOf, Tnfa}
use Rattle.lx_tnfa.specs.declared.closure.Reach.{Reach}
use Rattle.lx_tnfa.specs.RuleNumbers.{HaveApartNumbers}
use Rattle.lx_tnfa.proofs.Construction.ApartNumbers.{numbers_apart}
use Rattle.lx_tnfa.proofs.Searching.SearchPaths.{Each-from_all}
use Rattle.lx_tdfa.specs.Building.{IsBuilt, greatest_of}
use Rattle.lx_tdfa.specs.Making.{StopsBy, most_places}
use Rattle.lx_tdfa.specs.Promise.{IsAutoUnder}
use Rattle.lx_tdfa.specs.Registers.{widest}
use Rattle.lx_tdfa.specs.Steps.{Ending, first_ending}
use Rattle.lx_tdfa.specs.Table.{is_first}
use Rattle.lx_tdfa.proofs.Loops.StatesMade.{closure_sources, first_ending-source}
use Rattle.lx_tdfa.proofs.Rules.KeptRules.{rules_kept}
use Rattle.lx_tdfa.proofs.Rules.OwnedEnds.{ends_are_owned}
use Rattle.lx_tdfa.proofs.Tables.Determined.{built-narrow}
use Rattle.lx_tdfa.proofs.Tables.TableBounds.{most_places-within}
use Rattle.lx_tdfa.proofs.Tables.TableFormed.{auto-formed, length-most, state-formed}
use Rattle.lx_tdfa.proofs.Walks.ClosureSearches.{RulesKept, SearchesAlike}
use Rattle.lx_tdfa.proofs.Walks.Searches.{searches_alike}
use Rattle.lx_tdfa.proofs.Loops.Stops.{StopsBy-wider}
use Rattle.lx_posix.specs.Closures.{IsClosureReached, onward_of}
use Rattle.lx_posix.specs.Determining.{AreListed, AreStatesOf, IsStateOf, TooManyUnder}
use Rattle.lx_posix.specs.KeptKernels as kept_kernels
use Rattle.lx_posix.specs.KeptKernels.{AreReached, places_in, start_kernel}
use Rattle.lx_posix.specs.PosixKernel.{HasTooManyPosixKernels}
use Rattle.lx_posix.specs.declared.kept.Kept.{Kept}
use Rattle.lx_posix.proofs.Made.EdgesMade.{go-length, steps-from}
use Rattle.lx_posix.proofs.Made.PosixTables.{posix-auto, posix-few}
use Rattle.lx_posix.proofs.Made.StatesMade.{kernel-short}

pub start_listed : (tnfa : Tnfa) → AreListed tnfa (start_kernel ∷ [])
start_listed tnfa = record {
  start = refl;
  within = record { few = omega arith; few_places = omega arith };
  apart = λ i j d lt within. absurd (omega arith);
  reached = λ enc patterns of fits number kernel at. one enc patterns number kernel at;
}
  where
    one : (enc : Enc) (patterns : List Pattern) → AreReached enc (terms_of patterns) tnfa (start_kernel ∷ [])
    one enc patterns zero kernel at =
        subst (λ k. kept_kernels.IsReached enc (terms_of patterns) tnfa 0 k)
        (let same : start_kernel ≡ kernel = cc at in same)
        ([], tt, record { keeps = (refl, refl); empty = λ e. refl; later = λ e. cc e; some = λ e. cc e })
    one enc patterns (suc number) kernel at = absurd (cc at)

pub too_many-kernels : (tnfa : Tnfa) (enc : Enc) (patterns : List Pattern) → IsTnfaOf enc patterns tnfa → AllClassesFit enc (terms_of patterns)
    → (at : Pos) (why : Stop) → StopsBy at (TooManyUnder tnfa) why → StopsBy at (HasTooManyPosixKernels enc (terms_of patterns)) why
too_many-kernels tnfa enc patterns of fits pos why = StopsBy-wider pos why (λ many. many enc patterns of fits)

module _ (tnfa : Tnfa) (built : IsBuilt tnfa) (kernels : List (List Kept)) (listed : AreListed tnfa kernels) (auto : Auto)
    (regs : auto.regs ≡ (most_places kernels + 1) * widest tnfa.rules) (mregs : auto.mregs ≡ auto.regs + 1)
    (count : length auto.states ≡ length kernels) (states : AreStatesOf tnfa kernels auto.states) where
  most : ℕ
  most = most_places kernels

  some : 0 < most_places kernels
  some = let long = length-most kernels 0 start_kernel listed.start in omega (arith, long)

  formed-state : (number : ℕ) (kernel : List Kept) (state : State) → slice_get kernels number ≡ Some kernel
      → IsStateOf tnfa kernels (is_first number) kernel state → AreApart state.edges
      → IsState auto.regs auto.mregs (length kernels) state
  formed-state number kernel state at is apart =
      state-formed tnfa (most_places kernels) auto.regs auto.mregs regs mregs kernels (λ (l : List Kept). length l) (length-most kernels)
      (greatest_of tnfa) (is_first number) (onward_of tnfa is.closure (first_ending is.reaches)) state
      (λ unit. steps-from tnfa built (is_first number) is.closure reached (most_places kernels) some (length-most kernels number kernel at) unit)
      (λ unit. go-length built.0 (patterns_of built.1) tnfa built.4 built.3 (is_first number) kernel is.closure is.goes word.0 word.2 unit)
      (λ (ending : Ending) e. first_ending-source (most_places kernels) is.reaches
      (Each-from_all (λ (reach : Reach). reach.from < most_places kernels) is.reaches
      (closure_sources tnfa (most_places kernels) (places_in kernel) is.reaches is.ends few)) ending e)
      is.is apart
    where
      word : kept_kernels.IsReached built.0 (terms_of (patterns_of built.1)) tnfa number kernel
      word = listed.reached built.0 (patterns_of built.1) built.4 built.3 number kernel at

      reached : IsClosureReached tnfa (is_first number) is.closure
      reached = record {
        kernel = kernel;
        reached = λ enc patterns of fits. listed.reached enc patterns of fits number kernel at;
        short = kernel-short tnfa kernels listed number kernel (sym at);
        is = is.goes;
      }

      few : length (places_in kernel) ≤ most_places kernels
      few =
          let same = length-map kernel (λ (kept : Kept). kept.place) in
          let long = length-most kernels number kernel at in omega (arith, same, long)

  pub posix-formed : IsAuto auto
  posix-formed =
      auto-formed tnfa (most_places kernels) kernels start_kernel auto regs mregs (built-narrow tnfa built) listed.within.few
      (most_places-within kernels listed.within) listed.start count
      (λ number kernel state at there.
      formed-state number kernel state at (states number kernel state at there).0 (states number kernel state at there).1)

  -- rules have different numbers
  built-apart : HaveApartNumbers tnfa.rules
  built-apart = subst HaveApartNumbers (sym built.4.rules) (numbers_apart built.1 built.2.numbers)

  pub posix-determined : (enc : Enc) (patterns : List Pattern) → IsTnfaOf enc patterns tnfa → AllClassesFit enc (terms_of patterns)
      → IsAutoUnder posix enc patterns auto × (HasTooManyPosixKernels enc (terms_of patterns) → ⊥)
  posix-determined enc patterns of fits =
      let kept : RulesKept enc patterns tnfa = rules_kept enc patterns tnfa of built-apart in
      let alike : SearchesAlike patterns tnfa = searches_alike enc patterns tnfa of fits kept.numbers in (
        posix-auto enc patterns tnfa of fits alike kept (ends_are_owned enc patterns tnfa of) kernels listed auto posix-formed count states,
        posix-few enc patterns tnfa of fits alike kept (ends_are_owned enc patterns tnfa of) kernels listed auto posix-formed count states,
      )
