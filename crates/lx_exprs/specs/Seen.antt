-- What the definitions see of the code's values.
use Rattle.std.specs.Prelude.{◌≡◌, ◌≤◌, ℕ, All, List, [], ◌++◌, map, Option, Some, None}
use Rattle.std.specs.Borrow.{Bor}
use Rattle.std.specs.Option.{option_map}
use Rattle.lx_base.specs.declared.faults.Fault.{Fault}
use Rattle.lx_base.specs.declared.faults.Stop.{Stop}
use Rattle.lx_base.specs.declared.faults.Stop.TheVariants as stop
use Rattle.lx_token.specs.declared.characters.Character.{Character}
use Rattle.lx_class.specs.declared.ranges.Range.{Range}
use Rattle.lx_regex.specs.Expr.{term_of}
use Rattle.lx_exprs.specs.declared.definitions.Kept.{Kept}
use Rattle.lx_exprs.specs.declared.definitions.Definitions.{Definitions}
use Rattle.lx_exprs.specs.declared.definitions.Scope.{Scope}
use Rattle.lx_exprs.specs.Defined.{Definition}

-- a definition of this name
abbrev pub definition_view : (name : List ℕ) → Kept → Definition
definition_view name kept = record {
  name = name;
  at = kept.at;
  size = kept.size;
  nesting = kept.nesting;
  tags = kept.tags;
  groups = kept.groups;
  term = option_map (term_of 0) kept.expr;
}

-- the definitions so far, in order
abbrev pub definitions_view : Definitions → List Definition
definitions_view definitions = map (λ entry. definition_view entry.0.items entry.1) definitions.by_name.entries

-- the definitions, if there are any
abbrev pub seen_in : Option (Bor Definitions) → List Definition
seen_in None = []
seen_in (Some definitions) = definitions_view definitions.now

-- the definitions that a block sees: the first one of a name is the one that holds
abbrev pub scope_view : Scope → List Definition
scope_view scope = seen_in scope.kept ++ (seen_in scope.outer ++ definitions_view scope.own.now)

-- the code points of characters
abbrev pub points_of : List Character → List ℕ
points_of characters = map (λ (character : Character). character.point) characters

-- each character has a code point
abbrev pub AreCodePoints : List Character → Type 0
AreCodePoints characters = All (λ (character : Character). character.point ≤ 0x10FFFF) characters

-- a range begins no later than it ends, and is one of code points
abbrev pub IsOrdered : Range → Type 0
IsOrdered range = (range.lo ≤ range.hi) × (range.hi ≤ 0x10FFFF)

-- a call stops with the first fault, where memory does not run out
abbrev pub IsStop : Option Fault → Stop → Type 0
IsStop found stop.Memory = Unit {0}
IsStop found (stop.Fault fault) = found ≡ Some fault
