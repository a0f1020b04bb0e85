-- What is made of the parts of a source: the pieces of scanners, before the text of any directive.
use Rattle.std.specs.Prelude.{◌≡◌, ◌<◌, ℕ, suc, ◌+◌, max, length, Bool, List, [], ◌∷◌, Option, Some, None, slice_index_or, if◌then◌else◌}
use Rattle.std.specs.List.{AllByRecursion}
use Rattle.lx_auto.specs.declared.automaton.Auto.{Auto}
use Rattle.lx_base.specs.declared.places.Pos.{Pos}
use Rattle.lx_base.specs.declared.settings.Options.{Options}
use Rattle.lx_ccode.specs.Counts.{state_count}
use Rattle.lx_ccode.specs.declared.piece.LineMark.{LineMark}
use Rattle.lx_ccode.specs.declared.piece.Piece.{Piece}
use Rattle.lx_gen.specs.Generated.{AreAutomataUnder, AreRightUnder, IsGenerated, marks_of}
use Rattle.lx_layout.specs.LiveBlocks.{IsLive}
use Rattle.lx_regex.specs.declared.rules.Rule.{Rule}
use Rattle.lx_rules.specs.declared.resolved.Resolved.{Resolved}
use Rattle.lx_rules.specs.declared.resolved.Scanner.{Scanner}
use Rattle.lx_compile.specs.Covering.{AreCovered}
use Rattle.lx_compile.specs.Options.{policy_of}
use Rattle.lx_compile.specs.Reduced.{IsReduced}
use Rattle.lx_compile.specs.Warnings.{AreWarned}
use Rattle.lx_compile.specs.declared.made.Made.{Made}
use Rattle.lx_compile.specs.declared.made.Made.TheVariants as made
use Rattle.lx_compile.specs.declared.parts.Content.{Content}
use Rattle.lx_compile.specs.declared.parts.Content.TheVariants.{Asks, Scanners}
use Rattle.lx_compile.specs.declared.parts.Part.{Part}
use Rattle.lx_compile.specs.declared.parts.Part.TheVariants.{Outside, Block}

-- what holds for all pieces of an output: the options, the names of the files met, and whether pieces switch over their states themselves
pub record Setting : Type 0 where
  pub options : Options
  pub names : List (List ℕ)
  pub own_switch : Bool

-- the line of a place's file that is told behind a piece, where lines are told
abbrev pub line_mark : Setting → Pos → (line : ℕ) → Option LineMark
line_mark setting at line =
    if setting.options.lines then Some (record { line = line; file = slice_index_or setting.names at.file [] }) else None

-- The piece with this number of a block's scanners, whose states are numbered from a first one on, and the checks of its automata: it
-- carries these automata, in which nothing is left that need not be there, and each scanner is right, by the trees that are meant.
pub record IsScannerPiece (setting : Setting) (number first_state : ℕ) (line : Option LineMark) (resolved : Resolved) (piece : Piece) (checks : List (List ℕ)) : Type 0 where
  pub autos : List Auto
  pub automata : AreAutomataUnder (policy_of setting.options) setting.options.enc resolved.scanners autos checks
  pub reduced : AllByRecursion IsReduced autos
  pub generated : IsGenerated setting.options resolved autos checks setting.names number first_state setting.own_switch line piece
  pub right : AreRightUnder (policy_of setting.options) setting.options (marks_of line setting.names) resolved piece
  -- no block is dead
  pub live : (block : ℕ) → block < length piece.blocks → IsLive piece block

-- the greatest number of groups of a rule, the whole match counted, or 0
abbrev pub groups_in_rules : List Rule → ℕ
groups_in_rules [] = 0
groups_in_rules (rule ∷ rules) = max rule.groups (groups_in_rules rules)

-- the same of all rules of scanners: it is no matter whether a rule is ever chosen
abbrev pub groups_in_scanners : List Scanner → ℕ
groups_in_scanners [] = 0
groups_in_scanners (scanner ∷ scanners) = max (groups_in_rules scanner.set.rules) (groups_in_scanners scanners)

-- This is made of what a block gives, whose opener stands at a place and whose end in a line, where the piece has this number and its states are
-- numbered from a first one on; behind it they are from `next` on. With a piece of scanners stand their warnings, the text of their
-- covering words, and the greatest number of groups of their rules.
abbrev pub IsMadeOf : Setting → (number first_state next : ℕ) → Pos → (line : ℕ) → Content → Made → Type 0
IsMadeOf setting number first_state next at line (Scanners resolved) (made.Scanners piece checks warnings cover groups) =
    IsScannerPiece setting number first_state (line_mark setting at line) resolved piece checks × AreWarned setting.options at resolved warnings × AreCovered setting.options number resolved cover
    × (next ≡ first_state + state_count piece.blocks) × (groups ≡ groups_in_scanners resolved.scanners)
IsMadeOf setting number first_state next at line (Asks directive) (made.Bare place mark other) =
    (place ≡ at) × (mark ≡ line_mark setting at line) × (other ≡ directive) × (next ≡ first_state)
IsMadeOf setting number first_state next at line content one = ⊥

-- of the parts of a source this is made, where the pieces in the places of the blocks are numbered from here on, and so are the states
abbrev pub AreMade : Setting → (number first_state : ℕ) → List Part → List Made → Type 0
AreMade setting number first_state [] [] = Unit {0}
AreMade setting number first_state (Outside text ∷ parts) (made.Outside other ∷ all) =
    (other ≡ text) × AreMade setting number first_state parts all
AreMade setting number first_state (Block at line content ∷ parts) (one ∷ all) =
    (next : ℕ) × IsMadeOf setting number first_state next at line content one × AreMade setting (suc number) next parts all
AreMade setting number first_state parts all = ⊥
