-- The registers that operations name are there.
use Rattle.std.proofs.Common.{◌≡◌, ℕ, suc, ◌+◌, ◌*◌, ◌<◌, ◌≤◌, arith, List, [], ◌∷◌, ◌++◌, length, Option, Some, None, Bool, true, false, nat_eq, if◌then◌else◌, slice_index, mul-le-mul_right, suc-mul}
use Rattle.lx_auto.specs.Automaton.{AreHeld, AreOps, IsHeld, IsWritable}
use Rattle.lx_auto.specs.declared.automaton.Held.TheVariants.{MReg, Reg}
use Rattle.lx_auto.specs.declared.ops.Op.{Op}
use Rattle.lx_auto.specs.declared.ops.Op.TheVariants.{Copy, MCopy, MHere, MNull}
use Rattle.lx_tnfa.specs.Tnfa.{Tnfa}
use Rattle.lx_tnfa.specs.declared.states.Event.{Event}
use Rattle.lx_tnfa.specs.declared.states.Event.TheVariants.{Set, Unset}
use Rattle.lx_tnfa.proofs.Searching.SearchBasics.{Each}
use Rattle.lx_tdfa.specs.Registers.{all_tag_ops, copy_ops, ending_ops, first_of, held_from, history_copy_ops, history_mark_ops, last_mark, single_ops, kinds_at, kinds_of_rule, step_ops, tag_ops}
use Rattle.lx_tdfa.specs.Steps.{Ending, Step}

-- the registers of an index are behind those of a lower one
first_of-below : (width index most : ℕ) → index < most → first_of width index + width ≤ first_of width most
first_of-below width index most below =
    let e : suc (suc index) * width ≡ suc index * width + width = suc-mul (suc index) width in
    let more : suc (suc index) ≤ suc most = omega arith in
    let le : suc (suc index) * width ≤ suc most * width = mul-le-mul_right width more in omega (arith, e, le)

first_of-room : (width most : ℕ) → width ≤ first_of width most
first_of-room width most = let e : suc most * width ≡ most * width + width = suc-mul most width in omega (arith, e)

-- with one m-register more than registers
module _ (regs mregs : ℕ) (one_more : mregs ≡ regs + 1) where
  pub AreOps-append : (front back : List Op) → AreOps regs mregs front → AreOps regs mregs back → AreOps regs mregs (front ++ back)
  AreOps-append [] back are others = others
  AreOps-append (op ∷ front) back are others = (are.0, AreOps-append front back are.1 others)

  writable : (target : ℕ) → target < regs → IsWritable regs mregs (suc target)
  writable target within = (omega arith, omega arith)

  copy_ops-bound : (first : Bool) (source target : ℕ) → source < regs → target < regs → AreOps regs mregs (copy_ops first source target)
  copy_ops-bound true source target from to = (to, tt)
  copy_ops-bound false source target from to = at (nat_eq source target)
    where
      at : (b : Bool) → AreOps regs mregs (if b then [] else Copy target source ∷ [])
      at true = tt
      at false = ((to, from), tt)

  single_ops-bound : (first : Bool) (source target : ℕ) (mark : Option Bool) → source < regs → target < regs
      → AreOps regs mregs (single_ops first source target mark)
  single_ops-bound first source target (Some true) from to = (to, tt)
  single_ops-bound first source target (Some false) from to = (to, tt)
  single_ops-bound first source target None from to = copy_ops-bound first source target from to

  history_copy_ops-bound : (first : Bool) (source target : ℕ) → source < regs → target < regs
      → AreOps regs mregs (history_copy_ops first source target)
  history_copy_ops-bound true source target from to = ((writable target to, omega arith), tt)
  history_copy_ops-bound false source target from to = at (nat_eq source target)
    where
      at : (b : Bool) → AreOps regs mregs (if b then [] else MCopy (suc target) (suc source) ∷ [])
      at true = tt
      at false = ((writable target to, omega arith), tt)

  history_mark_ops-bound : (target tag : ℕ) (events : List Event) → target < regs → AreOps regs mregs (history_mark_ops target tag events)
  history_mark_ops-bound target tag [] to = tt
  history_mark_ops-bound target tag (Set other ∷ events) to = at (nat_eq other tag) (history_mark_ops-bound target tag events to)
    where
      at : (b : Bool) → AreOps regs mregs (history_mark_ops target tag events)
          → AreOps regs mregs (if b then MHere (suc target) ∷ history_mark_ops target tag events else history_mark_ops target tag events)
      at true later = (writable target to, later)
      at false later = later
  history_mark_ops-bound target tag (Unset other ∷ events) to = at (nat_eq other tag) (history_mark_ops-bound target tag events to)
    where
      at : (b : Bool) → AreOps regs mregs (history_mark_ops target tag events)
          → AreOps regs mregs (if b then MNull (suc target) ∷ history_mark_ops target tag events else history_mark_ops target tag events)
      at true later = (writable target to, later)
      at false later = later

  tag_ops-bound : (first : Bool) (source target tag : ℕ) (events : List Event) (many : Bool) → source < regs → target < regs
      → AreOps regs mregs (tag_ops first source target tag events many)
  tag_ops-bound first source target tag events false from to = single_ops-bound first source target (last_mark tag events None) from to
  tag_ops-bound first source target tag events true from to =
      AreOps-append (history_copy_ops first source target) (history_mark_ops target tag events)
      (history_copy_ops-bound first source target from to) (history_mark_ops-bound target tag events to)

  pub all_tag_ops-bound : (first : Bool) (source target tag : ℕ) (events : List Event) (kinds : List Bool) → source + length kinds ≤ regs
      → target + length kinds ≤ regs → AreOps regs mregs (all_tag_ops first source target tag events kinds)
  all_tag_ops-bound first source target tag events [] from to = tt
  all_tag_ops-bound first source target tag events (many ∷ kinds) from to =
      AreOps-append (tag_ops first source target tag events many) (all_tag_ops first (suc source) (suc target) (suc tag) events kinds)
      (tag_ops-bound first source target tag events many (omega arith) (omega arith))
      (all_tag_ops-bound first (suc source) (suc target) (suc tag) events kinds (omega arith) (omega arith))

  pub held_from-bound : (tag : ℕ) (kinds : List Bool) → tag + length kinds ≤ regs → AreHeld regs mregs (held_from tag kinds)
  held_from-bound tag [] within = tt
  held_from-bound tag (many ∷ kinds) within = (at many, held_from-bound (suc tag) kinds (omega arith))
    where
      at : (b : Bool) → IsHeld regs mregs (if b then MReg (suc tag) else Reg tag)
      at true = omega arith
      at false = omega arith

  -- with registers for so many places, and for the values of a rule
  module _ (tnfa : Tnfa) (width most : ℕ) (narrow : (rule : ℕ) → length (kinds_of_rule tnfa rule) ≤ width) (all : regs ≡ (most + 1) * width) where
    room : first_of width most ≡ regs
    room = let e : suc most * width ≡ most * width + width = suc-mul most width in omega (arith, all, e)

    index_room : (index rule : ℕ) → index < most → first_of width index + length (kinds_of_rule tnfa rule) ≤ regs
    index_room index rule below =
        let le : first_of width index + width ≤ first_of width most = first_of-below width index most below in
        let short : length (kinds_of_rule tnfa rule) ≤ width = narrow rule in omega (arith, le, short, room)

    rule_room : (rule : ℕ) → 0 + length (kinds_of_rule tnfa rule) ≤ regs
    rule_room rule =
        let le : width ≤ first_of width most = first_of-room width most in
        let short : length (kinds_of_rule tnfa rule) ≤ width = narrow rule in omega (arith, le, short, room)

    pub step_ops-bound : (first : Bool) (index : ℕ) (steps : List Step) → Each (λ (step : Step). step.from < most) steps
        → index + length steps ≤ most → AreOps regs mregs (step_ops tnfa width first index steps)
    step_ops-bound first index [] each few = tt
    step_ops-bound first index (step ∷ steps) each few =
        AreOps-append (all_tag_ops first (first_of width step.from) (first_of width index) 0 step.events (kinds_at tnfa step.to))
        (step_ops tnfa width first (suc index) steps)
        (all_tag_ops-bound first (first_of width step.from) (first_of width index) 0 step.events (kinds_at tnfa step.to)
        (index_room step.from (slice_index tnfa.owners step.to.part) each.0)
        (index_room index (slice_index tnfa.owners step.to.part) (omega arith)))
        (step_ops-bound first (suc index) steps each.1 (omega arith))

    pub ending_ops-bound : (first : Bool) (ending : Ending) → ending.from < most → AreOps regs mregs (ending_ops tnfa width first ending)
    ending_ops-bound first ending from =
        all_tag_ops-bound first (first_of width ending.from) 0 0 ending.events (kinds_of_rule tnfa ending.rule)
        (index_room ending.from ending.rule from) (rule_room ending.rule)

    pub values-bound : (rule : ℕ) → AreHeld regs mregs (held_from 0 (kinds_of_rule tnfa rule))
    values-bound rule = held_from-bound 0 (kinds_of_rule tnfa rule) (rule_room rule)
