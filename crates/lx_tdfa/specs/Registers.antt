-- What holds the values of tags, and the operations that bring them from place to place.
use Rattle.std.specs.Prelude.{ℕ, suc, ◌*◌, List, [], ◌∷◌, ◌++◌, Option, Some, None, Bool, true, false, nat_eq, if◌then◌else◌, slice_index}
use Rattle.std.specs.Option.{unwrap_or}
use Rattle.lx_auto.specs.declared.automaton.Held.{Held}
use Rattle.lx_auto.specs.declared.automaton.Held.TheVariants.{MReg, Reg}
use Rattle.lx_auto.specs.declared.ops.Op.{Op}
use Rattle.lx_auto.specs.declared.ops.Op.TheVariants.{Copy, Here, MCopy, MHere, MNull, Null}
use Rattle.lx_tnfa.specs.Tnfa.{Tnfa, most_tags, kinds_for}
use Rattle.lx_tnfa.specs.declared.places.Place.{Place}
use Rattle.lx_tnfa.specs.declared.states.Event.{Event}
use Rattle.lx_tnfa.specs.declared.states.Event.TheVariants.{Set, Unset}
use Rattle.lx_tdfa.specs.Steps.{Ending, Step}

-- of each tag of the rule with this number, whether it is an m-tag
abbrev pub kinds_of_rule : Tnfa → (rule : ℕ) → List Bool
kinds_of_rule tnfa rule = unwrap_or (kinds_for tnfa.rules rule) []

-- the same of the rule in which a place stands
abbrev pub kinds_at : Tnfa → Place → List Bool
kinds_at tnfa place = kinds_of_rule tnfa (slice_index tnfa.owners place.part)

-- the most tags that a rule has
abbrev pub widest : (rules : List (ℕ × List Bool)) → ℕ
widest rules = most_tags rules

-- The first registers, one for each tag, hold the values of a rule that was accepted. Then come those of the places of a list, by
-- their index. An m-register has the number behind that of the register, since m-register 0 is never written.
abbrev pub first_of : (width index : ℕ) → ℕ
first_of width index = suc index * width

-- what a list of events does last to a tag: whether it sets it, if it does anything
abbrev pub last_mark : (tag : ℕ) → List Event → (before : Option Bool) → Option Bool
last_mark tag [] before = before
last_mark tag (Set other ∷ events) before = last_mark tag events (if nat_eq other tag then Some true else before)
last_mark tag (Unset other ∷ events) before = last_mark tag events (if nat_eq other tag then Some false else before)

-- at first nothing is held; else there is something to copy, where the registers are not the same
abbrev pub copy_ops : (is_first : Bool) → (source target : ℕ) → List Op
copy_ops true source target = Null target ∷ []
copy_ops false source target = if nat_eq source target then [] else Copy target source ∷ []

-- what becomes of a register, by what is done last to its tag
abbrev pub single_ops : (is_first : Bool) → (source target : ℕ) → (mark : Option Bool) → List Op
single_ops is_first source target (Some true) = Here target ∷ []
single_ops is_first source target (Some false) = Null target ∷ []
single_ops is_first source target None = copy_ops is_first source target

-- the same of histories
abbrev pub history_copy_ops : (is_first : Bool) → (source target : ℕ) → List Op
history_copy_ops true source target = MCopy (suc target) 0 ∷ []
history_copy_ops false source target = if nat_eq source target then [] else MCopy (suc target) (suc source) ∷ []

-- what events put at the end of a tag's history
abbrev pub history_mark_ops : (target tag : ℕ) → List Event → List Op
history_mark_ops target tag [] = []
history_mark_ops target tag (Set other ∷ events) =
    if nat_eq other tag then MHere (suc target) ∷ history_mark_ops target tag events else history_mark_ops target tag events
history_mark_ops target tag (Unset other ∷ events) =
    if nat_eq other tag then MNull (suc target) ∷ history_mark_ops target tag events else history_mark_ops target tag events

-- how the value of one tag goes on, by its kind
abbrev pub tag_ops : (is_first : Bool) → (source target tag : ℕ) → List Event → (many : Bool) → List Op
tag_ops is_first source target tag events false = single_ops is_first source target (last_mark tag events None)
tag_ops is_first source target tag events true =
    history_copy_ops is_first source target ++ history_mark_ops target tag events

-- the same of tags from one number on, of which the first is held by these registers
abbrev pub all_tag_ops : (is_first : Bool) → (source target tag : ℕ) → List Event → (kinds : List Bool) → List Op
all_tag_ops is_first source target tag events [] = []
all_tag_ops is_first source target tag events (many ∷ kinds) =
    tag_ops is_first source target tag events many ++ all_tag_ops is_first (suc source) (suc target) (suc tag) events kinds

-- the operations of steps, of which the first leads to the place with this index
abbrev pub step_ops : Tnfa → (width : ℕ) → (is_first : Bool) → (index : ℕ) → List Step → List Op
step_ops tnfa width is_first index [] = []
step_ops tnfa width is_first index (step ∷ steps) =
    all_tag_ops is_first (first_of width step.from) (first_of width index) 0 step.events (kinds_at tnfa step.to)
    ++ step_ops tnfa width is_first (suc index) steps

-- the operations of an ending, which keep the values of its rule
abbrev pub ending_ops : Tnfa → (width : ℕ) → (is_first : Bool) → Ending → List Op
ending_ops tnfa width is_first ending =
    all_tag_ops is_first (first_of width ending.from) 0 0 ending.events (kinds_of_rule tnfa ending.rule)

-- what holds the values of tags from one number on
abbrev pub held_from : (tag : ℕ) → (kinds : List Bool) → List Held
held_from tag [] = []
held_from tag (many ∷ kinds) = (if many then MReg (suc tag) else Reg tag) ∷ held_from (suc tag) kinds
