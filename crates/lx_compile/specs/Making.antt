-- What the definitions see of the making of pieces, and of what directives ask for.
use Rattle.std.specs.Prelude.{◌≡◌, ℕ, Bool, true, false, List, [], ◌∷◌, map, Option, Some, None}
use Rattle.std.specs.List.{list_any}
use Rattle.std.specs.Borrow.{Bor}
use Rattle.std.specs.Global.{Vec}
use Rattle.indexmap.specs.IndexSet.{IndexSet}
use Rattle.lx_ccode.specs.declared.piece.Piece.{Piece}
use Rattle.lx_compile.specs.Facts.{conditions_of, file_states, groups_of, histories_of, pieces_among, registers_of, units_of}
use Rattle.lx_compile.specs.Made.{Setting}
use Rattle.lx_compile.specs.declared.facts.Facts.{Facts}
use Rattle.lx_compile.specs.declared.facts.Start.{Start}
use Rattle.lx_compile.specs.declared.made.Made.{Made}
use Rattle.lx_compile.specs.declared.made.Made.TheVariants.{Bare}
use Rattle.lx_compile.specs.declared.parts.Directive.{Directive}
use Rattle.lx_compile.specs.declared.parts.Directive.TheVariants as directive
use Rattle.lx_compile.specs.declared.making.Frame.{Frame}

-- what holds for all pieces of an output
abbrev pub seen_frame : Frame → Setting
seen_frame frame = record { options = frame.options.now; names = frame.names.now; own_switch = frame.own_switch }

-- pieces that are borrowed
abbrev pub seen_pieces : List (Bor Piece) → List Piece
seen_pieces pieces = map (λ piece. piece.now) pieces

-- the names of conditions in a set, in their order
abbrev pub seen_conditions : {Build : Type 0} → IndexSet (Vec ℕ) Build → List (List ℕ)
seen_conditions conds = map (λ cond. cond.items) conds.keys

-- the start of the first piece
abbrev pub start_of : List Piece → Option Start
start_of [] = None
start_of (piece ∷ pieces) = Some (record { number = piece.number; conds = piece.conds })

-- these are the facts of all that is made
pub record AreFacts (facts : Facts) (made : List Made) : Type 0 where
  pub units : facts.units ≡ units_of made
  pub groups : facts.groups ≡ groups_of made
  pub registers : facts.registers ≡ registers_of (pieces_among made)
  pub histories : facts.histories ≡ histories_of (pieces_among made)
  pub conds : facts.conds ≡ conditions_of (pieces_among made)
  pub states : facts.states ≡ file_states (pieces_among made)
  pub start : facts.start ≡ start_of (pieces_among made)

-- it stands in the place of a directive that asks for something
abbrev pub asks : Made → Bool
asks (Bare at line directive.Nothing) = false
asks (Bare at line other) = true
asks other = false

-- the facts are those of all that is made; there may be none where no directive asks for any
abbrev pub AreAsked : Option Facts → List Made → Type 0
AreAsked None made = list_any asks made ≡ false
AreAsked (Some facts) made = AreFacts facts made

-- the directive can be answered by the facts of all that is made, or without any
abbrev pub CanAnswer : Option Facts → List Made → Directive → Type 0
CanAnswer None made asked = asked ≡ directive.Nothing
CanAnswer (Some facts) made asked = AreFacts facts made

-- so can what is made, if it is a directive
abbrev pub CanTell : Option Facts → List Made → Made → Type 0
CanTell facts made (Bare at line asked) = CanAnswer facts made asked
CanTell facts made other = Unit {0}
