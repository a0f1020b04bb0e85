-- The automaton of a table of kernels that keep up with words is that of its rule list.
use Rattle.std.proofs.Common.{◌≡◌, ℕ, ◌<◌, List, length, Option, Some, None, Bool, refl, ap, ◌∙◌, sym, subst, arith}
use Rattle.std.proofs.lemmas.Option.{get_or_from_slice_get, slice_get-get_or, slice_get_within}
use Rattle.std.specs.Option.{unwrap_or}
use Rattle.std.specs.Prelude.{slice_get, slice_index_or}
use Rattle.lx_auto.specs.declared.automaton.Accept.{Accept}
use Rattle.lx_auto.specs.declared.automaton.Auto.{Auto}
use Rattle.lx_auto.specs.declared.automaton.State.{State}
use Rattle.lx_base.specs.Spelling.{greatest_unit}
use Rattle.lx_base.specs.declared.settings.Enc.{Enc}
use Rattle.lx_regex.specs.Order.{Policy}
use Rattle.lx_regex.specs.Pattern.{Pattern}
use Rattle.lx_tnfa.specs.Tnfa.{Tnfa}
use Rattle.lx_tnfa.specs.declared.places.Place.{Place}
use Rattle.lx_tdfa.specs.Promise.{IsAutoUnder, IsByRule}
use Rattle.lx_tdfa.specs.Registers.{held_from, kinds_of_rule}
use Rattle.lx_tdfa.specs.Steps.{Ending}
use Rattle.lx_tdfa.specs.Table.{IsStateBy, IsTableBy, Onward, accept_of, is_first}
use Rattle.lx_tdfa.proofs.Tables.Courses.{Course, KeepUp}
use Rattle.lx_tdfa.proofs.Walks.ClosureSearches.{RulesKept}
use Rattle.lx_tdfa.proofs.Values.HeldValues.{held_from-kinds}
use Rattle.lx_tdfa.proofs.Tables.TableBegins.{table-begins}
use Rattle.lx_tdfa.proofs.Tables.TableBest.{table-best}
use Rattle.lx_tdfa.proofs.Tables.TableKept.{table-kept}

module _ {policy : Policy} {enc : Enc} {patterns : List Pattern} {tnfa : Tnfa} {course : Course policy enc patterns tnfa} {K : Type 0}
    {begin : K} {places_in : K → List Place} {GoesOn : (first : Bool) → K → Onward K → Type 0}
    {IsAfter : (first : Bool) → K → (word : List ℕ) → Type 0} (keeps : KeepUp course begin places_in GoesOn IsAfter) {kernels : List K} {auto : Auto}
    (table : IsTableBy begin GoesOn tnfa (greatest_unit enc) kernels auto) (kept : RulesKept enc patterns tnfa) where
  -- a state, with the kernel of which it is
  record Of (number : ℕ) (state : State) : Type 0 where
    pub kernel : K
    pub onward : Onward K
    pub goes : GoesOn (is_first number) kernel onward
    pub is : IsStateBy tnfa (greatest_unit enc) kernels (is_first number) onward state

  -- each state, also one that no word reaches, is that of a kernel
  each_state : (number : ℕ) (other : State) → number < length auto.states → Of number (slice_index_or auto.states number other)
  each_state number other within =
      let lists : length kernels ≡ length auto.states = table.lists in
      let there : number < length kernels = omega arith in
      let kernel : K = slice_index_or kernels number begin in
      let is =
      table.states number kernel (slice_index_or auto.states number other) (slice_get-get_or kernels number begin there)
      (slice_get-get_or auto.states number other within) in
      record { kernel = kernel; onward = is.0; goes = is.1; is = is.2 }

  accept_by : (first : Bool) (kernel : K) (onward : Onward K) → GoesOn first kernel onward → (ending : Option Ending) → onward.ending ≡ ending
      → IsByRule enc patterns (accept_of tnfa first ending)
  accept_by first kernel onward goes None e = tt
  accept_by first kernel onward goes (Some ending) e =
      let by = keeps.owned first kernel onward ending goes e in (
        by.0,
        by.1,
        sym by.2,
        held_from-kinds 0 (kinds_of_rule tnfa ending.rule) ∙ ap (kinds_of_rule tnfa) (sym by.2) ∙ kept.kinds by.0 by.1,
      )

  -- what an accept names holds the values in the first registers
  accept_values : (first : Bool) (ending : Option Ending) (accept : Accept) → accept_of tnfa first ending ≡ Some accept
      → accept.values ≡ held_from 0 (kinds_of_rule tnfa accept.rule)
  accept_values first None accept e = cc
  accept_values first (Some ending) accept e =
      let made : unwrap_or (accept_of tnfa first (Some ending)) accept ≡ accept = ap (λ (o : Option Accept). unwrap_or o accept) e in
      subst (λ (a : Accept). a.values ≡ held_from 0 (kinds_of_rule tnfa a.rule)) made refl

  state_values : (number : ℕ) (state : State) (accept : Accept) → slice_get auto.states number ≡ Some state → state.accept ≡ Some accept
      → accept.values ≡ held_from 0 (kinds_of_rule tnfa accept.rule)
  state_values number state accept there accepts =
      let within : number < length auto.states = slice_get_within auto.states number state there in
      let made = each_state number state within in
      let same : slice_index_or auto.states number state ≡ state = get_or_from_slice_get auto.states number state state there in
      accept_values (is_first number) made.onward.ending accept
      (sym made.is.accept ∙ ap (λ (s : State). s.accept) same ∙ accepts)

  pub table-auto : IsAutoUnder policy enc patterns auto
  table-auto = record {
    fits = record {
      formed = table.formed;
      units = λ number other within. (each_state number other within).is.units;
      rules = λ number other within.
          let state = each_state number other within in
          subst (λ (accept : Option Accept). IsByRule enc patterns accept) (sym state.is.accept)
          (accept_by (is_first number) state.kernel state.onward state.goes state.onward.ending refl);
      agreed = λ number other first second accept same there here accepts also rule.
          state_values number first accept there accepts ∙ ap (λ r. held_from 0 (kinds_of_rule tnfa r)) rule
          ∙ sym (state_values other second same here also);
    };
    begins = table-begins keeps table;
    best = table-best keeps table kept;
    kept = table-kept keeps table;
  }
