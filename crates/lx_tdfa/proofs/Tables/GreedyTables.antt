-- Tables of lists of places keep up with words under the leftmost greedy order.
use Rattle.std.proofs.Common.{◌≡◌, ◌≢◌, ℕ, zero, suc, List, [], ◌∷◌, ◌++◌, map, length, Option, Some, None, Bool, true, false, Contains, inr, slice_get, slice_index, refl, ap, ◌∙◌, sym, subst}
use Rattle.std.proofs.lemmas.List.{length-reverse, reverse-append}
use Rattle.std.specs.Prelude.{All}
use Rattle.lx_auto.specs.declared.automaton.Auto.{Auto}
use Rattle.lx_base.specs.Spelling.{greatest_unit}
use Rattle.lx_base.specs.declared.settings.Enc.{Enc}
use Rattle.lx_regex.specs.Automaton.{automaton}
use Rattle.lx_regex.specs.ClassLimits.{AllClassesFit}
use Rattle.lx_regex.specs.Cut.{BeginsMatch, Precedes}
use Rattle.lx_regex.specs.Kernel.{IsKernel}
use Rattle.lx_regex.specs.Order.{greedy}
use Rattle.lx_regex.specs.Pattern.{Pattern, terms_of, with_terms}
use Rattle.lx_regex.specs.Term.{Term}
use Rattle.lx_regex.specs.Values.{all_events, last_event}
use Rattle.lx_tnfa.specs.Closure.{IsClosureOf}
use Rattle.lx_tnfa.specs.PlaceNumbers.{numbers_after, symbols_added}
use Rattle.lx_tnfa.specs.Tnfa.{IsTnfaOf, Tnfa}
use Rattle.lx_tnfa.specs.declared.closure.Reach.{Reach}
use Rattle.lx_tnfa.specs.declared.places.Place.{Place}
use Rattle.lx_tdfa.specs.Accepts.{accept_after}
use Rattle.lx_tdfa.specs.Graph.{graph_of, rule_starts}
use Rattle.lx_tdfa.specs.Kernels.{Entry, cut_of, first_entries, kernel_after, kernel_list, kernel_step, places, segment_symbols}
use Rattle.lx_tdfa.specs.Promise.{IsAutoOf}
use Rattle.lx_tdfa.specs.Steps.{Ending, IsInLeaf, Step, first_ending, next_steps, places_of, start_place}
use Rattle.lx_tdfa.specs.Table.{IsTable, IsTableBy, Onward, is_first, onward_by}
use Rattle.lx_tdfa.specs.Values.{all_values_after, last_values_after, value_at, values_beside}
use Rattle.lx_tdfa.proofs.Rules.StartUnreached.{next_steps-start}
use Rattle.lx_tdfa.proofs.Tables.Courses.{Course, IsHeldAt, KeepUp}
use Rattle.lx_tdfa.proofs.Tables.TableAutomata.{table-auto}
use Rattle.lx_tdfa.proofs.Tables.TableBegins.{nil_of_map}
use Rattle.lx_tdfa.proofs.Values.StepValues.{all_on, alike-numbers, last_on}
use Rattle.lx_tdfa.proofs.Walks.ClosureSearches.{AreAlike, AreEndsAlike, EndsAreOwned, RulesKept, SearchesAlike, candidates_from, end_from, number_of}
use Rattle.lx_tdfa.proofs.WordKernels.ProgramAccepts.{accept_after-accepts, all_kept, last_kept}
use Rattle.lx_tdfa.proofs.WordKernels.ProgramKernels.{kernel_after-empty, kernel_after-kernel, kernel_after-step}

-- the numbers of a list of places; the start stands for the beginnings of the rules
abbrev pub kernel_numbers : Tnfa → List Term → (first : Bool) → List Place → List ℕ
kernel_numbers tnfa rules true kernel = rule_starts rules
kernel_numbers tnfa rules false kernel = map (number_of tnfa) kernel

-- ---- word by word

module _ (tnfa : Tnfa) (rules : List Term) (word : List ℕ) (unit : ℕ) where
  -- the list after one more unit, and the values beside it
  pub kernel_after-more : kernel_after tnfa rules (word ++ unit ∷ [])
      ≡ kernel_step (graph_of (automaton rules)) (numbers_after tnfa) (segment_symbols rules (symbols_added tnfa)) (rule_starts rules) (kernel_after tnfa rules word) unit
  kernel_after-more =
      ap (λ w. kernel_list (graph_of (automaton rules)) (numbers_after tnfa) (segment_symbols rules (symbols_added tnfa)) (rule_starts rules) w)
      (reverse-append word (unit ∷ []))

  last_values_after-more : (first : Bool) (tag : ℕ) → last_values_after tnfa rules (word ++ unit ∷ []) tag
      ≡ last_on tnfa rules first unit (length word) tag (kernel_after tnfa rules word) (last_values_after tnfa rules word tag)
      (candidates_from tnfa rules (places (kernel_after tnfa rules word)) unit)
  last_values_after-more first tag =
      ap (λ w. values_beside (Option ℕ) None (λ here value symbols. last_event tag here value symbols) (graph_of (automaton rules))
      (numbers_after tnfa) (segment_symbols rules (symbols_added tnfa)) (rule_starts rules) w) (reverse-append word (unit ∷ []))
      ∙ ap (λ here. last_on tnfa rules first unit here tag (kernel_after tnfa rules word) (last_values_after tnfa rules word tag)
      (candidates_from tnfa rules (places (kernel_after tnfa rules word)) unit)) (length-reverse word)

  all_values_after-more : (first : Bool) (tag : ℕ) → all_values_after tnfa rules (word ++ unit ∷ []) tag
      ≡ all_on tnfa rules first unit (length word) tag (kernel_after tnfa rules word) (all_values_after tnfa rules word tag)
      (candidates_from tnfa rules (places (kernel_after tnfa rules word)) unit)
  all_values_after-more first tag =
      ap (λ w. values_beside (List (Option ℕ)) [] (λ here value symbols. value ++ all_events tag here symbols) (graph_of (automaton rules))
      (numbers_after tnfa) (segment_symbols rules (symbols_added tnfa)) (rule_starts rules) w) (reverse-append word (unit ∷ []))
      ∙ ap (λ here. all_on tnfa rules first unit here tag (kernel_after tnfa rules word) (all_values_after tnfa rules word tag)
      (candidates_from tnfa rules (places (kernel_after tnfa rules word)) unit)) (length-reverse word)

value_at-none : {X Y : Type 0} (none : X) (ys : List Y) (from : ℕ) → value_at none (map (λ (y : Y). none) ys) from ≡ none
value_at-none none [] from = refl
value_at-none none (y ∷ ys) zero = refl
value_at-none none (y ∷ ys) (suc from) = value_at-none none ys from

-- the course of words, by searches from the places before
module _ (enc : Enc) (patterns : List Pattern) (tnfa : Tnfa) (of : IsTnfaOf enc patterns tnfa) (fits : AllClassesFit enc (terms_of patterns)) where
  abbrev after_word : List ℕ → List Entry
  after_word word = kernel_after tnfa (terms_of patterns) word

  kernel_begins : (word : List ℕ) (es : List Entry) → word ≢ [] → es ≢ [] → IsKernel Precedes enc (terms_of patterns) word (map cut_of es) → BeginsMatch enc (terms_of patterns) word
  kernel_begins word [] ne some kernel = absurd (some refl)
  kernel_begins word (e ∷ es) ne some kernel = inr (cut_of e, kernel.cuts 0 (cut_of e) ne refl)

  pub greedy_course : Course greedy enc patterns tnfa
  greedy_course = record {
    entries = after_word;
    segments = λ word unit. candidates_from tnfa (terms_of patterns) (places (after_word word)) unit;
    last = last_values_after tnfa (terms_of patterns);
    all = all_values_after tnfa (terms_of patterns);
    accept = accept_after tnfa (terms_of patterns);
    start = refl;
    onward = kernel_after-step tnfa (terms_of patterns);
    stuck = λ word unit none. ap (λ es. candidates_from tnfa (terms_of patterns) (places es) unit) none;
    begins = kernel_after-empty enc patterns tnfa of fits;
    full = λ word ne some. kernel_begins word (after_word word) ne some (kernel_after-kernel enc patterns tnfa of fits word ne);
    last_start = λ tag from. value_at-none None (after_word []) from;
    all_start = λ tag from. value_at-none [] (after_word []) from;
    last_onward = last_values_after-more tnfa (terms_of patterns);
    all_onward = all_values_after-more tnfa (terms_of patterns);
    last_kept = last_kept enc patterns tnfa of fits;
    all_kept = all_kept enc patterns tnfa of fits;
    accepts = accept_after-accepts enc patterns tnfa of fits;
  }

-- ---- tables

places-first_entries : (number : ℕ) (starts : List ℕ) → places (first_entries number starts) ≡ starts
places-first_entries number [] = refl
places-first_entries number (start ∷ starts) = ap (λ l. start ∷ l) (places-first_entries (suc number) starts)

-- the places are in leaves, but those of the first list, which is the start
abbrev pub AreInLeaves : Tnfa → (first : Bool) → List Place → Type 0
AreInLeaves tnfa true kernel = kernel ≡ start_place ∷ []
AreInLeaves tnfa false kernel = All (IsInLeaf tnfa) kernel

-- a list of places goes on by the targets of its closure
pub record GoesOn (tnfa : Tnfa) (first : Bool) (kernel : List Place) (onward : Onward (List Place)) : Type 0 where
  pub reaches : List Reach
  pub closure : IsClosureOf tnfa kernel reaches
  pub leaves : AreInLeaves tnfa first kernel
  pub is : onward_by tnfa reaches ≡ onward

-- it is that of a word
pub record IsAfter (tnfa : Tnfa) (rules : List Term) (first : Bool) (kernel : List Place) (word : List ℕ) : Type 0 where
  pub numbers : kernel_numbers tnfa rules first kernel ≡ places (kernel_after tnfa rules word)
  pub empty : first ≡ true → word ≡ []
  pub some : kernel ≢ []

module _ (enc : Enc) (patterns : List Pattern) (tnfa : Tnfa) (of : IsTnfaOf enc patterns tnfa) (fits : AllClassesFit enc (terms_of patterns))
    (searches : SearchesAlike patterns tnfa) (kept : RulesKept enc patterns tnfa)
    (owned : EndsAreOwned patterns tnfa) where
  abbrev rules : List Term
  rules = terms_of patterns

  steps_alike : (first : Bool) (kernel : List Place) (reaches : List Reach) (unit : ℕ) → AreInLeaves tnfa first kernel → IsClosureOf tnfa kernel reaches
      → AreAlike tnfa rules first (kernel_numbers tnfa rules first kernel) unit (candidates_from tnfa rules (kernel_numbers tnfa rules first kernel) unit)
      (next_steps tnfa unit reaches)
  steps_alike true kernel reaches unit leaves closure =
      searches.first_steps reaches unit (subst (λ k. IsClosureOf tnfa k reaches) leaves closure)
  steps_alike false kernel reaches unit leaves closure = searches.steps kernel reaches unit leaves closure

  ends_alike : (first : Bool) (kernel : List Place) (reaches : List Reach) → AreInLeaves tnfa first kernel → IsClosureOf tnfa kernel reaches
      → AreEndsAlike tnfa rules first (kernel_numbers tnfa rules first kernel) (end_from rules (kernel_numbers tnfa rules first kernel))
      (first_ending reaches)
  ends_alike true kernel reaches leaves closure = searches.first_endings reaches (subst (λ k. IsClosureOf tnfa k reaches) leaves closure)
  ends_alike false kernel reaches leaves closure = searches.endings kernel reaches leaves closure

  steps_held : (first : Bool) (kernel : List Place) (reaches : List Reach) (unit : ℕ) (s : Step) → AreInLeaves tnfa first kernel
      → IsClosureOf tnfa kernel reaches → Contains (next_steps tnfa unit reaches) s
      → IsHeldAt tnfa first kernel s.from (slice_index tnfa.owners s.to.part)
  steps_held true kernel reaches unit s leaves closure within = tt
  steps_held false kernel reaches unit s leaves closure within =
      let from = kept.steps kernel reaches unit s leaves closure within in (from.0, from.1, from.2)

  ending_held : (first : Bool) (kernel : List Place) (reaches : List Reach) (ending : Ending) → AreInLeaves tnfa first kernel
      → IsClosureOf tnfa kernel reaches → first_ending reaches ≡ Some ending → IsHeldAt tnfa first kernel ending.from ending.rule
  ending_held true kernel reaches ending leaves closure e = tt
  ending_held false kernel reaches ending leaves closure e =
      let from = kept.endings kernel reaches ending leaves closure e in (from.0, from.1, from.2)

  not_start : (unit : ℕ) (reaches : List Reach) (s : Step) (ss : List Step) → next_steps tnfa unit reaches ≡ s ∷ ss
      → places_of (next_steps tnfa unit reaches) ≢ start_place ∷ []
  not_start unit reaches s ss e same =
      let places : s.to ∷ places_of ss ≡ start_place ∷ [] = ap places_of (sym e) ∙ same in
      let start : s.to ≡ start_place = cc places in
      next_steps-start enc patterns tnfa of unit reaches s ss e start

  -- how one goes on, whatever is said of its `onward`
  module _ (first : Bool) (kernel : List Place) (word : List ℕ) (after : IsAfter tnfa rules first kernel word) (reaches : List Reach)
      (closure : IsClosureOf tnfa kernel reaches) (leaves : AreInLeaves tnfa first kernel) where
    alike_after : (unit : ℕ) → AreAlike tnfa rules first (places (kernel_after tnfa rules word)) unit
        (candidates_from tnfa rules (places (kernel_after tnfa rules word)) unit) (next_steps tnfa unit reaches)
    alike_after unit =
        subst (λ ns. AreAlike tnfa rules first ns unit (candidates_from tnfa rules ns unit) (next_steps tnfa unit reaches)) after.numbers
        (steps_alike first kernel reaches unit leaves closure)

    ends_after : AreEndsAlike tnfa rules first (places (kernel_after tnfa rules word)) (accept_after tnfa rules word) (first_ending reaches)
    ends_after =
        subst (λ ns. AreEndsAlike tnfa rules first ns (end_from rules ns) (first_ending reaches)) after.numbers
        (ends_alike first kernel reaches leaves closure)

    next_after : (unit : ℕ) (s : Step) (ss : List Step) → next_steps tnfa unit reaches ≡ s ∷ ss
        → IsAfter tnfa rules false (places_of (next_steps tnfa unit reaches)) (word ++ unit ∷ [])
    next_after unit s ss e = record {
      numbers =
          alike-numbers tnfa rules first unit (places (kernel_after tnfa rules word)) _ (next_steps tnfa unit reaches) (alike_after unit)
          ∙ sym (kernel_after-step tnfa rules word unit);
      empty = λ is. cc is;
      some = λ none. let places : s.to ∷ places_of ss ≡ [] = ap places_of (sym e) ∙ none in cc places;
    }

  pub greedy_keeps : KeepUp (greedy_course enc patterns tnfa of fits) (start_place ∷ []) (λ kernel. kernel) (GoesOn tnfa) (IsAfter tnfa (terms_of patterns))
  unfolding greedy_course
  greedy_keeps = record {
    start = record { numbers = sym (places-first_entries 0 (rule_starts rules)); empty = λ e. refl; some = λ e. cc e };
    empty = λ kernel word after. after.empty refl;
    some = λ kernel word after none. after.some (nil_of_map (number_of tnfa) kernel (after.numbers ∙ ap places none));
    onward = λ first kernel word onward unit step others after goes.
        subst (λ (o : Onward (List Place)). o.steps unit ≡ step ∷ others
        → IsAfter tnfa rules false (o.next unit) (word ++ unit ∷ []) × (o.next unit ≡ places_of (step ∷ others)) × (o.next unit ≢ start_place ∷ []))
        goes.is
        (λ e. (
          next_after first kernel word after goes.reaches goes.closure goes.leaves unit step others e,
          ap places_of e,
          not_start unit goes.reaches step others e,
        ));
    alike = λ first kernel word onward unit after goes.
        subst (λ (o : Onward (List Place)). AreAlike tnfa rules first (places (kernel_after tnfa rules word)) unit
        (candidates_from tnfa rules (places (kernel_after tnfa rules word)) unit) (o.steps unit)) goes.is
        (alike_after first kernel word after goes.reaches goes.closure goes.leaves unit);
    ends_alike = λ first kernel word onward after goes.
        subst (λ (o : Onward (List Place)). AreEndsAlike tnfa rules first (places (kernel_after tnfa rules word)) (accept_after tnfa rules word) o.ending)
        goes.is (ends_after first kernel word after goes.reaches goes.closure goes.leaves);
    held = λ first kernel onward unit step goes.
        subst (λ (o : Onward (List Place)). Contains (o.steps unit) step → IsHeldAt tnfa first kernel step.from (slice_index tnfa.owners step.to.part))
        goes.is (λ within. steps_held first kernel goes.reaches unit step goes.leaves goes.closure within);
    ending_held = λ first kernel onward ending goes.
        subst (λ (o : Onward (List Place)). o.ending ≡ Some ending → IsHeldAt tnfa first kernel ending.from ending.rule)
        goes.is (λ e. ending_held first kernel goes.reaches ending goes.leaves goes.closure e);
    owned = λ first kernel onward ending goes.
        subst (λ (o : Onward (List Place)). o.ending ≡ Some ending
        → (pattern : Pattern) × Contains (with_terms patterns) pattern × (pattern.number ≡ ending.rule))
        goes.is (λ e. owned kernel goes.reaches ending goes.closure e);
  }

  module _ (kernels : List (List Place)) (auto : Auto) (table : IsTable tnfa (greatest_unit enc) kernels auto) where
    in_leaves : (number : ℕ) (kernel : List Place) → slice_get kernels number ≡ Some kernel → AreInLeaves tnfa (is_first number) kernel
    in_leaves zero kernel at = let same : kernel ≡ start_place ∷ [] = cc (at, table.start) in same
    in_leaves (suc number) kernel at = table.places number kernel at

    table_by : IsTableBy (start_place ∷ []) (GoesOn tnfa) tnfa (greatest_unit enc) kernels auto
    table_by = record {
      formed = table.formed;
      start = table.start;
      lists = table.lists;
      states = λ number kernel state at there.
          let is = table.states number kernel state at there in (
            onward_by tnfa is.reaches,
            record { reaches = is.reaches; closure = is.closure; leaves = in_leaves number kernel at; is = refl },
            is.is,
          );
    }

    pub table_auto : IsAutoOf enc patterns auto
    table_auto = table-auto greedy_keeps table_by kept
