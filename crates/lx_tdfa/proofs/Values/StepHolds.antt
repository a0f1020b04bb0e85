-- The registers of places hold the values that are kept beside them, and a step goes on so.
use Rattle.std.proofs.Common.{◌≡◌, ℕ, suc, ◌+◌, ◌≤◌, List, [], ◌∷◌, ◌++◌, map, length, Option, Some, None, Bool, true, false, Contains, slice_get, slice_index, refl, ap, ap₂, ◌∙◌, sym, subst, arith}
use Rattle.std.proofs.lemmas.List.{map-append}
use Rattle.std.proofs.lemmas.Option.{get_or_from_slice_get, slice_get-map, slice_get_within}
use Rattle.lx_auto.specs.Bank.{Bank, bank_after}
use Rattle.lx_auto.specs.declared.ops.Op.{Op}
use Rattle.lx_base.specs.declared.settings.Enc.{Enc}
use Rattle.lx_regex.specs.Order.{Policy}
use Rattle.lx_regex.specs.Pattern.{Pattern, terms_of}
use Rattle.lx_tnfa.specs.Tnfa.{Tnfa}
use Rattle.lx_tnfa.specs.declared.places.Place.{Place}
use Rattle.lx_tnfa.proofs.Construction.NthLists.{mapped_from}
use Rattle.lx_tdfa.specs.Kernels.{places}
use Rattle.lx_tdfa.specs.Registers.{first_of, last_mark, kinds_at, kinds_of_rule, step_ops, tag_ops, widest}
use Rattle.lx_tdfa.specs.Steps.{Step, places_of}
use Rattle.lx_tdfa.specs.Values.{value_at}
use Rattle.lx_tdfa.proofs.Tables.Courses.{Course, IsHeldAt}
use Rattle.lx_tdfa.proofs.Walks.ClosureSearches.{AreAlike}
use Rattle.lx_tdfa.proofs.Values.RegisterWrites.{AllAvoid, mregs-alone, mregs-avoid, regs-alone, regs-avoid}
use Rattle.lx_tdfa.proofs.Values.StepOps.{first_of-width, kinds_of_rule-widest, step_ops-alone}
use Rattle.lx_tdfa.proofs.Values.StepValues.{IsBare, all_on-step, last_on-step, source_value}
use Rattle.lx_tdfa.proofs.Values.SymbolValues.{from_start, marked-from, marks-from}
use Rattle.lx_tdfa.proofs.Values.TagOps.{history_held, marked, marks, tag_ops-history, tag_ops-value, value_held}

-- beside the places of the start nothing is kept
module _ {policy : Policy} {enc : Enc} {patterns : List Pattern} {tnfa : Tnfa} (course : Course policy enc patterns tnfa) where
  pub last-bare : (first : Bool) (word : List ℕ) (tag : ℕ) → (first ≡ true → word ≡ []) → IsBare None first (course.last word tag)
  last-bare true word tag empty = subst (λ w. IsBare None true (course.last w tag)) (sym (empty refl)) (course.last_start tag)
  last-bare false word tag empty = tt

  pub all-bare : (first : Bool) (word : List ℕ) (tag : ℕ) → (first ≡ true → word ≡ []) → IsBare [] first (course.all word tag)
  all-bare true word tag empty = subst (λ w. IsBare [] true (course.all w tag)) (sym (empty refl)) (course.all_start tag)
  all-bare false word tag empty = tt

value_held-same : (first : Bool) (bank other : Bank) (reg : ℕ) → bank.regs reg ≡ other.regs reg → value_held first bank reg ≡ value_held first other reg
value_held-same true bank other reg e = refl
value_held-same false bank other reg e = e

history_held-same : (first : Bool) (bank other : Bank) (reg : ℕ) → bank.mregs (suc reg) ≡ other.mregs (suc reg)
    → history_held first bank reg ≡ history_held first other reg
history_held-same true bank other reg e = refl
history_held-same false bank other reg e = e

-- registers hold the values that are kept beside places, from a start on
pub record Holds {policy : Policy} {enc : Enc} {patterns : List Pattern} {tnfa : Tnfa} (course : Course policy enc patterns tnfa) (first : Bool) (start : ℕ) (kernel : List Place) (word : List ℕ) (bank : Bank) : Type 0 where
  pub values : (from rule t : ℕ) → IsHeldAt tnfa first kernel from rule → slice_get (kinds_of_rule tnfa rule) t ≡ Some false
      → value_held first bank (first_of (widest tnfa.rules) from + t)
      ≡ from_start start (source_value None first (course.last word t) from)
  pub histories : (from rule t : ℕ) → IsHeldAt tnfa first kernel from rule → slice_get (kinds_of_rule tnfa rule) t ≡ Some true
      → history_held first bank (first_of (widest tnfa.rules) from + t)
      ≡ map (from_start start) (source_value [] first (course.all word t) from)

pub holds-start : {policy : Policy} {enc : Enc} {patterns : List Pattern} {tnfa : Tnfa} (course : Course policy enc patterns tnfa) (start : ℕ) (kernel : List Place) (word : List ℕ) (bank : Bank) → Holds course true start kernel word bank
holds-start course start kernel word bank = record { values = λ from rule t at kind. refl; histories = λ from rule t at kind. refl }

module _ {policy : Policy} {enc : Enc} {patterns : List Pattern} {tnfa : Tnfa} (course : Course policy enc patterns tnfa) (first : Bool) (start : ℕ) (kernel : List Place) (word : List ℕ) (bank : Bank)
    (holds : Holds course first start kernel word bank) where
  -- operations on the first registers alone keep that
  pub holds-avoid : (offset : ℕ) (ops : List Op) → ((reg : ℕ) → widest tnfa.rules ≤ reg → AllAvoid reg ops)
      → Holds course first start kernel word (bank_after offset ops bank)
  holds-avoid offset ops avoids = record {
    values = λ from rule t at kind.
        let reg : ℕ = first_of (widest tnfa.rules) from + t in
        value_held-same first (bank_after offset ops bank) bank reg (regs-avoid bank offset ops reg (avoids reg (within from t)))
        ∙ holds.values from rule t at kind;
    histories = λ from rule t at kind.
        let reg : ℕ = first_of (widest tnfa.rules) from + t in
        history_held-same first (bank_after offset ops bank) bank reg (mregs-avoid bank offset ops reg (avoids reg (within from t)))
        ∙ holds.histories from rule t at kind;
  }
    where
      within : (from t : ℕ) → widest tnfa.rules ≤ first_of (widest tnfa.rules) from + t
      within from t = let above : widest tnfa.rules ≤ first_of (widest tnfa.rules) from = first_of-width (widest tnfa.rules) from in omega arith

  module _ (unit : ℕ) (steps : List Step)
      (alike : AreAlike tnfa (terms_of patterns) first (places (course.entries word)) unit (course.segments word unit) steps)
      (empty : first ≡ true → word ≡ [])
      (sources : (step : Step) → Contains steps step → IsHeldAt tnfa first kernel step.from (slice_index tnfa.owners step.to.part))
      (zero_empty : bank.mregs 0 ≡ []) where
    abbrev ops : List Op
    ops = step_ops tnfa (widest tnfa.rules) first 0 steps

    abbrev offset : ℕ
    offset = start + length word

    -- the register of a tag at the place to which a step leads
    module _ (from t : ℕ) (step : Step) (at : slice_get steps from ≡ Some step) where
      abbrev reg : ℕ
      reg = first_of (widest tnfa.rules) from + t

      abbrev source : ℕ
      source = first_of (widest tnfa.rules) step.from + t

      source_held : IsHeldAt tnfa first kernel step.from (slice_index tnfa.owners step.to.part)
      source_held = sources step (from, slice_get_within steps from step at, get_or_from_slice_get steps from step step at)

      reg_is : reg ≡ first_of (widest tnfa.rules) (0 + from) + t
      reg_is = let e : from ≡ 0 + from = omega arith in ap (λ n. first_of (widest tnfa.rules) n + t) e

      step_value : slice_get (kinds_at tnfa step.to) t ≡ Some false
          → (bank_after offset ops bank).regs reg ≡ from_start start (value_at None (course.last (word ++ unit ∷ []) t) from)
      step_value kind =
          let before : List (Option ℕ) = course.last word t in
          let kept : Option ℕ = source_value None first before step.from in
          let mark : Option Bool = last_mark t step.events None in
          regs-alone bank offset reg ops (tag_ops first source reg t step.events false)
          (step_ops-alone tnfa (widest tnfa.rules) (kinds_of_rule-widest tnfa) first 0 steps from step t reg false at kind reg_is)
          ∙ tag_ops-value bank offset first source reg t step.events
          ∙ ap (marked offset mark) (holds.values step.from (slice_index tnfa.owners step.to.part) t source_held kind)
          ∙ marked-from start (length word) mark kept
          ∙ ap (from_start start) (sym (ap (λ l. value_at None l from) (course.last_onward word unit first t)
          ∙ last_on-step tnfa (terms_of patterns) first unit (length word) t (course.entries word) before
          (course.segments word unit) steps from step alike (last-bare course first word t empty) at))

      step_history : slice_get (kinds_at tnfa step.to) t ≡ Some true
          → (bank_after offset ops bank).mregs (suc reg)
          ≡ map (from_start start) (value_at [] (course.all (word ++ unit ∷ []) t) from)
      step_history kind =
          let before : List (List (Option ℕ)) = course.all word t in
          let kept : List (Option ℕ) = source_value [] first before step.from in
          mregs-alone bank offset reg ops (tag_ops first source reg t step.events true)
          (step_ops-alone tnfa (widest tnfa.rules) (kinds_of_rule-widest tnfa) first 0 steps from step t reg true at kind reg_is)
          ∙ tag_ops-history bank offset first source reg t step.events zero_empty
          ∙ ap₂ (λ (a b : List (Option ℕ)). a ++ b) (holds.histories step.from (slice_index tnfa.owners step.to.part) t source_held kind)
          (marks-from start (length word) t step.events)
          ∙ sym (map-append (from_start start) kept (marks (length word) t step.events))
          ∙ ap (map (from_start start)) (sym (ap (λ l. value_at [] l from) (course.all_onward word unit first t)
          ∙ all_on-step tnfa (terms_of patterns) first unit (length word) t (course.entries word) before
          (course.segments word unit) steps from step alike (all-bare course first word t empty) at))

    -- the step that leads to a place
    leading : (from rule : ℕ) → IsHeldAt tnfa false (places_of steps) from rule
        → (step : Step) × (slice_get steps from ≡ Some step) × (slice_index tnfa.owners step.to.part ≡ rule)
    leading from rule held =
        let mapped = mapped_from (λ (step : Step). step.to) (slice_get steps from) held.0 (sym (slice_get-map (λ (step : Step). step.to) steps from) ∙ held.1) in
        (mapped.0, mapped.1, ap (λ (place : Place). slice_index tnfa.owners place.part) mapped.2 ∙ held.2)

    pub holds-step : Holds course false start (places_of steps) (word ++ unit ∷ []) (bank_after offset ops bank)
    holds-step = record {
      values = λ from rule t held kind.
          let to = leading from rule held in
          step_value from t to.0 to.1 (ap (λ r. slice_get (kinds_of_rule tnfa r) t) to.2 ∙ kind);
      histories = λ from rule t held kind.
          let to = leading from rule held in
          step_history from t to.0 to.1 (ap (λ r. slice_get (kinds_of_rule tnfa r) t) to.2 ∙ kind);
    }
