-- The runs of the automaton over the sorts of a body.
use Rattle.std.proofs.Common.{ℕ, suc, Bool, true, false, List, [], ◌∷◌, Result, Ok, Err}
use Rattle.lx_parse.specs.declared.items.Item.{Item}
use Rattle.lx_parse.specs.declared.sorts.Sort.{Sort}
use Rattle.lx_parse.specs.declared.states.State.{State}
use Rattle.lx_parse.specs.declared.states.State.TheVariants as states
use Rattle.lx_parse.specs.declared.states.Step.{Step}
use Rattle.lx_parse.specs.declared.states.Step.TheVariants.{Refuse, Go, Done}
use Rattle.lx_parse.specs.Automaton.{next, may_end}

-- the items of a rest, or the place of the token that is refused
abbrev pub Items : Type 0
Items = Result (List Item) ℕ

-- an item before the others
abbrev pub with_item : Item → Items → Items
with_item item (Ok items) = Ok (item ∷ items)
with_item item (Err place) = Err place

-- on from a step at a place
abbrev pub follow : (next : (at : ℕ) → State → Items) (at : ℕ) → Step → Items
follow next at Refuse = Err at
follow next at (Go state) = next (suc at) state
follow next at (Done item form) = with_item item (next (suc at) (states.Between form))

-- the end of a body, at a place
abbrev pub at_last : Bool → (at : ℕ) → Items
at_last true at = Ok []
at_last false at = Err at

-- the items from a place and a state on
abbrev pub run : List Sort → (at : ℕ) → State → Items
run [] at state = at_last (may_end state) at
run (sort ∷ sorts) at state = follow (run sorts) at (next state sort at)
