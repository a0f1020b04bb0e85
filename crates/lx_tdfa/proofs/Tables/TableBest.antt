-- Where a run stands, the first rule that takes the word is found, with the values of its best tree.
use Rattle.std.proofs.Common.{◌≡◌, ◌≢◌, ℕ, zero, suc, ◌+◌, ◌/◌, List, [], ◌∷◌, ◌++◌, map, length, Option, Some, None, Bool, true, false, slice_get, slice_index, option_map, refl, ap, ap₂, ◌∙◌, sym, subst, arith}
use Rattle.std.proofs.lemmas.List.{map-append}
use Rattle.std.proofs.lemmas.Option.{slice_get-map}
use Rattle.lx_auto.specs.Bank.{Bank, bank_after, read_all}
use Rattle.lx_auto.specs.Run.{Standing, found_at, found_by, run, start_with}
use Rattle.lx_auto.specs.Run as machine
use Rattle.lx_auto.specs.declared.automaton.Auto.{Auto}
use Rattle.lx_auto.specs.declared.ops.Op.{Op}
use Rattle.lx_base.specs.Spelling.{greatest_unit}
use Rattle.lx_base.specs.declared.settings.Enc.{Enc}
use Rattle.lx_regex.specs.Automaton.{automaton}
use Rattle.lx_regex.specs.Cut.{rule_part}
use Rattle.lx_regex.specs.Least.{IsLeast}
use Rattle.lx_regex.specs.Match.{Takes}
use Rattle.lx_regex.specs.Order.{Policy}
use Rattle.lx_regex.specs.Pattern.{Pattern, sorts_of, terms_of, with_terms}
use Rattle.lx_regex.specs.Script.{Symbol, script, units}
use Rattle.lx_regex.specs.Term.{Term}
use Rattle.lx_regex.specs.Tree.{Tree}
use Rattle.lx_regex.specs.Values.{all_events, last_event, values_of}
use Rattle.lx_tnfa.specs.DepthFirst.{Found}
use Rattle.lx_tnfa.specs.LeafReadings.{IsNth}
use Rattle.lx_tnfa.specs.Tnfa.{Tnfa}
use Rattle.lx_tnfa.specs.declared.places.Place.{Place}
use Rattle.lx_tdfa.specs.Accepts.{Accepts, IsAccepted, none, some}
use Rattle.lx_tdfa.specs.Graph.{path_symbols}
use Rattle.lx_tdfa.specs.Kernels.{Entry, places, rule_of}
use Rattle.lx_tdfa.specs.Promise.{FindsBest, IsBest, tag_value}
use Rattle.lx_tdfa.specs.Registers.{ending_ops, first_of, held_from, last_mark, kinds_of_rule, tag_ops, widest}
use Rattle.lx_tdfa.specs.Steps.{Ending}
use Rattle.lx_tdfa.specs.Table.{IsTableBy, Onward, accept_of}
use Rattle.lx_tdfa.specs.Values.{value_at}
use Rattle.lx_tdfa.proofs.Tables.Courses.{Course, IsHeldAt, KeepUp}
use Rattle.lx_tdfa.proofs.Walks.ClosureSearches.{AreEndsAlike, IsEndAlike, IsSource, RulesKept, events_of, last_state}
use Rattle.lx_tdfa.proofs.Values.HeldValues.{read_all-values}
use Rattle.lx_tdfa.proofs.Values.RegisterWrites.{mregs-alone, regs-alone}
use Rattle.lx_tdfa.proofs.Values.StepHolds.{all-bare, last-bare}
use Rattle.lx_tdfa.proofs.Values.StepOps.{ending_ops-alone, kinds_of_rule-widest}
use Rattle.lx_tdfa.proofs.Values.StepValues.{source_value, value_at-source}
use Rattle.lx_tdfa.proofs.Values.SymbolValues.{all_events-from, all_events-marks, from_start, last_event-from, last_event-marked, marked-from, marks-from}
use Rattle.lx_tdfa.proofs.Tables.TableRuns.{Goes, Stands, contained, stands-run, stands-start, state_at}
use Rattle.lx_tdfa.proofs.Values.TagOps.{marked, marks, tag_ops-history, tag_ops-value}

nth-place : (entries : List Entry) (from : ℕ) (entry : Entry) → IsNth entries from entry → value_at 0 (places entries) from ≡ entry.place
nth-place [] from entry nth = absurd nth
nth-place (first ∷ entries) zero entry nth = ap (λ (e : Entry). e.place) nth
nth-place (first ∷ entries) (suc from) entry nth = nth-place entries from entry nth

module _ {policy : Policy} {enc : Enc} {patterns : List Pattern} {tnfa : Tnfa} {course : Course policy enc patterns tnfa} {K : Type 0}
    {begin : K} {places_in : K → List Place} {GoesOn : (first : Bool) → K → Onward K → Type 0}
    {IsAfter : (first : Bool) → K → (word : List ℕ) → Type 0} (keeps : KeepUp course begin places_in GoesOn IsAfter) {kernels : List K} {auto : Auto}
    (table : IsTableBy begin GoesOn tnfa (greatest_unit enc) kernels auto)
    (kept : RulesKept enc patterns tnfa) (start : ℕ) (word : List ℕ) (behind : Standing)
    (stands : Stands course places_in IsAfter kernels start word behind) where
  abbrev rules : List Term
  rules = terms_of patterns

  abbrev numbers : List ℕ
  numbers = places (course.entries word)

  -- a way that was found is the walk of the first ending
  module _ (ending : Ending) (held : IsHeldAt tnfa stands.first (places_in stands.kernel) ending.from ending.rule)
      (found : Found) (alike : IsEndAlike tnfa (terms_of patterns) stands.first (places (course.entries word)) found ending)
      (from : ℕ) (way : List ℕ) (entry : Entry) (choices : found.choices ≡ from ∷ way) (nth : IsNth (course.entries word) from entry)
      (accepted : IsAccepted policy enc (terms_of patterns) word (rule_of entry.keys) (entry.front ++ path_symbols (automaton (terms_of patterns)) entry.place way [])) where
    abbrev path : List Symbol
    path = path_symbols (automaton (terms_of patterns)) entry.place way []

    abbrev whole : List Symbol
    whole = script enc (rule_part (terms_of patterns) (rule_of entry.keys)) accepted.tree

    from_same : alike.from ≡ from
    from_same = let e : alike.from ∷ alike.way ≡ from ∷ way = sym alike.choices ∙ choices in cc e

    way_same : alike.way ≡ way
    way_same = let e : alike.from ∷ alike.way ≡ from ∷ way = sym alike.choices ∙ choices in cc e

    place_same : value_at 0 numbers alike.from ≡ entry.place
    place_same = ap (value_at 0 numbers) from_same ∙ nth-place (course.entries word) from entry nth

    path_same : path_symbols (automaton rules) (value_at 0 numbers alike.from) alike.way [] ≡ path
    path_same = ap₂ (λ (p : ℕ) (w : List ℕ). path_symbols (automaton rules) p w []) place_same way_same

    silent : units path ≡ []
    silent = ap units (sym path_same) ∙ alike.silent

    events : events_of path ≡ ending.events
    events = ap events_of (sym path_same) ∙ alike.events_are

    source : IsSource stands.first from ending.from
    source = subst (λ n. IsSource stands.first n ending.from) from_same alike.source

    moves : way ≢ []
    moves e = alike.moves (way_same ∙ e)

    -- the rule, as a pattern
    of_rule : (pattern : Pattern) × (slice_get (with_terms patterns) (rule_of entry.keys) ≡ Some pattern)
        × (pattern.number ≡ slice_index tnfa.owners (last_state (automaton rules) entry.place way / 2))
    of_rule =
        let r = kept.ending_rules (rule_of entry.keys) accepted.term accepted.tree entry.front entry.place way moves accepted.at accepted.says in
        (r.0, r.1, r.2)

    rule_is : ending.rule ≡ (of_rule.0).number
    rule_is =
        alike.rule
        ∙ ap₂ (λ (p : ℕ) (w : List ℕ). slice_index tnfa.owners (last_state (automaton rules) p w / 2)) place_same way_same ∙ sym of_rule.2

    kinds_are : kinds_of_rule tnfa ending.rule ≡ sorts_of of_rule.0
    kinds_are = ap (kinds_of_rule tnfa) rule_is ∙ kept.kinds of_rule.0 (contained (with_terms patterns) (rule_of entry.keys) of_rule.0 of_rule.1)

    term_is : (of_rule.0).term ≡ accepted.term
    term_is =
        let e : Some (of_rule.0).term ≡ Some accepted.term =
        ap (option_map (λ (pattern : Pattern). pattern.term)) (sym of_rule.1)
        ∙ sym (slice_get-map (λ (pattern : Pattern). pattern.term) (with_terms patterns) (rule_of entry.keys)) ∙ accepted.at in
        cc e

    abbrev ops : List Op
    ops = ending_ops tnfa (widest tnfa.rules) stands.first ending

    found_value : (t : ℕ) → slice_get (kinds_of_rule tnfa ending.rule) t ≡ Some false
        → (bank_after behind.offset ops behind.bank).regs t ≡ last_event t start None whole
    found_value t kind =
        let from_reg : ℕ = first_of (widest tnfa.rules) ending.from + t in
        let mark : Option Bool = last_mark t ending.events None in
        let before : List (Option ℕ) = course.last word t in
        let kept : Option ℕ = source_value None stands.first before ending.from in
        let value : Option ℕ = value_at None before from in
        let read : (bank_after behind.offset ops behind.bank).regs t ≡ from_start start (marked (length word) mark kept) =
        regs-alone behind.bank behind.offset t ops (tag_ops stands.first from_reg t t ending.events false)
        (ending_ops-alone tnfa (widest tnfa.rules) (kinds_of_rule-widest tnfa) stands.first ending t false kind)
        ∙ tag_ops-value behind.bank behind.offset stands.first from_reg t t ending.events
        ∙ ap₂ (λ (n : ℕ) (v : Option ℕ). marked n mark v) stands.offset (stands.holds.values ending.from ending.rule t held kind)
        ∙ marked-from start (length word) mark kept in
        let z : start ≡ start + 0 = omega arith in
        let said : last_event t start None whole ≡ from_start start (marked (length word) mark kept) =
        ap (λ n. last_event t n None whole) z ∙ last_event-from start t 0 None whole
        ∙ ap (from_start start) (ap (last_event t 0 None) accepted.says ∙ course.last_kept word t from entry path nth
        ∙ last_event-marked t (length word) path value None silent
        ∙ ap₂ (λ (l : List _) (v : Option ℕ). marked (length word) (last_mark t l None) v) events
        (value_at-source None stands.first before from ending.from (last-bare course stands.first word t stands.empty) source)) in
        read ∙ sym said

    found_history : (t : ℕ) → slice_get (kinds_of_rule tnfa ending.rule) t ≡ Some true
        → (bank_after behind.offset ops behind.bank).mregs (suc t) ≡ all_events t start whole
    found_history t kind =
        let from_reg : ℕ = first_of (widest tnfa.rules) ending.from + t in
        let before : List (List (Option ℕ)) = course.all word t in
        let kept : List (Option ℕ) = source_value [] stands.first before ending.from in
        let more : List (Option ℕ) = marks (length word) t ending.events in
        let read : (bank_after behind.offset ops behind.bank).mregs (suc t) ≡ map (from_start start) (kept ++ more) =
        mregs-alone behind.bank behind.offset t ops (tag_ops stands.first from_reg t t ending.events true)
        (ending_ops-alone tnfa (widest tnfa.rules) (kinds_of_rule-widest tnfa) stands.first ending t true kind)
        ∙ tag_ops-history behind.bank behind.offset stands.first from_reg t t ending.events stands.zero_empty
        ∙ ap₂ (λ (a b : List (Option ℕ)). a ++ b) (stands.holds.histories ending.from ending.rule t held kind)
        (ap (λ n. marks n t ending.events) stands.offset ∙ marks-from start (length word) t ending.events)
        ∙ sym (map-append (from_start start) kept more) in
        let z : start ≡ start + 0 = omega arith in
        let said : all_events t start whole ≡ map (from_start start) (kept ++ more) =
        ap (λ n. all_events t n whole) z ∙ all_events-from start t 0 whole
        ∙ ap (map (from_start start)) (ap (all_events t 0) accepted.says ∙ course.all_kept word t from entry path nth
        ∙ ap₂ (λ (a b : List (Option ℕ)). a ++ b)
        (value_at-source [] stands.first before from ending.from (all-bare course stands.first word t stands.empty) source)
        (all_events-marks t (length word) path silent ∙ ap (marks (length word) t) events)) in
        read ∙ sym said

    abbrev match : machine.Found
    match = record {
      rule = ending.rule;
      values = read_all (bank_after behind.offset ops behind.bank) (held_from 0 (kinds_of_rule tnfa ending.rule));
      offset = behind.offset;
    }

    values_are : map tag_value match.values ≡ values_of start whole 0 (sorts_of of_rule.0)
    values_are =
        read_all-values (bank_after behind.offset ops behind.bank) start whole 0 (kinds_of_rule tnfa ending.rule)
        (λ k t e at. let same : k ≡ t = omega arith in found_value t (subst (λ n. slice_get (kinds_of_rule tnfa ending.rule) n ≡ Some false) same at))
        (λ k t e at. let same : k ≡ t = omega arith in found_history t (subst (λ n. slice_get (kinds_of_rule tnfa ending.rule) n ≡ Some true) same at))
        ∙ ap (values_of start whole 0) kinds_are

    best_by : (term : Term) → (of_rule.0).term ≡ term → (tree : Tree term)
        → IsLeast policy enc (rule_part rules (rule_of entry.keys)) term word tree
        → map tag_value match.values ≡ values_of start (script enc (rule_part rules (rule_of entry.keys)) tree) 0 (sorts_of of_rule.0)
        → IsBest policy enc patterns start word match
    best_by term is =
        subst (λ (x : Term). (tree : Tree x) → IsLeast policy enc (rule_part rules (rule_of entry.keys)) x word tree
        → map tag_value match.values ≡ values_of start (script enc (rule_part rules (rule_of entry.keys)) tree) 0 (sorts_of of_rule.0)
        → IsBest policy enc patterns start word match) is
        (λ tree least values. record {
          place = rule_of entry.keys;
          pattern = of_rule.0;
          is = of_rule.1;
          first = λ earlier below takes. accepted.first earlier (takes.0).term below (term_at earlier takes.0 takes.1) takes.2;
          rule = rule_is;
          offset = stands.offset;
          tree = tree;
          least = least;
          values = values;
        })
      where
        term_at : (place : ℕ) (pattern : Pattern) → slice_get (with_terms patterns) place ≡ Some pattern → slice_get rules place ≡ Some pattern.term
        term_at place pattern at =
            slice_get-map (λ (pattern : Pattern). pattern.term) (with_terms patterns) place ∙ ap (option_map (λ (pattern : Pattern). pattern.term)) at

    is_best : IsBest policy enc patterns start word match
    is_best = best_by accepted.term term_is accepted.tree accepted.least values_are

  none_taken : ((rule : ℕ) (e : Term) → slice_get rules rule ≡ Some e → (tree : Tree e) × (units (script enc (rule_part rules rule) tree) ≡ word) → ⊥)
      → (place : ℕ) → Takes enc patterns place word → ⊥
  none_taken not place takes =
      not place (takes.0).term
      (slice_get-map (λ (pattern : Pattern). pattern.term) (with_terms patterns) place ∙ ap (option_map (λ (pattern : Pattern). pattern.term)) takes.1)
      takes.2

  best_of : (ending : Option Ending) (found : Option Found)
      → ((e : Ending) → ending ≡ Some e → IsHeldAt tnfa stands.first (places_in stands.kernel) e.from e.rule)
      → AreEndsAlike tnfa rules stands.first numbers found ending → Accepts policy enc rules word (course.entries word) found
      → FindsBest policy enc patterns start word (found_by (accept_of tnfa stands.first ending) behind)
  best_of None None held alike (none not) = none_taken not
  best_of None (Some found) held alike accepts = absurd alike
  best_of (Some ending) None held alike accepts = absurd alike
  best_of (Some ending) (Some found) held alike (some other from way entry choices nth accepted) =
      is_best ending (held ending refl) found alike from way entry choices nth accepted

  stands-best : FindsBest policy enc patterns start word (found_at auto behind)
  stands-best =
      let goes : Goes keeps table behind.state stands.first stands.kernel = state_at keeps table start word behind stands in
      subst (λ a. FindsBest policy enc patterns start word (found_by a behind)) (sym goes.is.accept)
      (best_of goes.onward.ending (course.accept word)
      (λ e same. keeps.ending_held stands.first stands.kernel goes.onward e goes.goes same)
      (keeps.ends_alike stands.first stands.kernel word goes.onward stands.after goes.goes) (course.accepts word))

module _ {policy : Policy} {enc : Enc} {patterns : List Pattern} {tnfa : Tnfa} {course : Course policy enc patterns tnfa} {K : Type 0}
    {begin : K} {places_in : K → List Place} {GoesOn : (first : Bool) → K → Onward K → Type 0}
    {IsAfter : (first : Bool) → K → (word : List ℕ) → Type 0} (keeps : KeepUp course begin places_in GoesOn IsAfter) {kernels : List K} {auto : Auto}
    (table : IsTableBy begin GoesOn tnfa (greatest_unit enc) kernels auto)
    (kept : RulesKept enc patterns tnfa) where
  pub table-best : (start : ℕ) (bank : Bank) (word : List ℕ) (behind : Standing) → bank.mregs 0 ≡ []
      → run auto (start_with start bank) word ≡ Some behind → FindsBest policy enc patterns start word (found_at auto behind)
  table-best start bank word behind empty ran =
      stands-best keeps table kept start word behind
      (stands-run keeps table start word [] (start_with start bank) behind (stands-start keeps table start bank empty) ran)
