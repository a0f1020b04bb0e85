-- What is written of what is made, and the faults of its directives, do not go by its warnings.
use Rattle.std.proofs.Common.{◌≡◌, ◌∙◌, ℕ, suc, max, List, [], ◌∷◌, ◌++◌, Option, Some, None, refl, ap}
use Rattle.std.specs.Prelude.{◌||◌, if◌then◌else◌}
use Rattle.std.specs.Option.{option_or}
use Rattle.lx_base.specs.Names.{Spellings}
use Rattle.lx_base.specs.declared.faults.Fault.{Fault}
use Rattle.lx_base.specs.declared.faults.Fault.TheVariants.{BadValue}
use Rattle.lx_base.specs.declared.places.Pos.{Pos}
use Rattle.lx_ccode.specs.Bodies.{body_piece_text, body_then}
use Rattle.lx_ccode.specs.Text.{line_after, piece_text}
use Rattle.lx_ccode.specs.declared.bodies.Body.{Body}
use Rattle.lx_ccode.specs.declared.bodies.Body.TheVariants.{MaxFill, MaxGroups, Registers, Histories, Conditions}
use Rattle.lx_ccode.specs.declared.bodies.Format.{Format}
use Rattle.lx_ccode.specs.declared.piece.Piece.{Piece}
use Rattle.lx_compile.specs.Covering.{cover_of}
use Rattle.lx_compile.specs.Facts.{body_of, conditions_of, directive_fault, directives_fault, fault_among, file_states, greatest_in, groups_of, has_wrong_strings, histories_of, holds_opener, listed, missing_fault, pieces_among, registers_of, state_switch, text_fault, units_of}
use Rattle.lx_compile.specs.Warnings.{quiet_made}
use Rattle.lx_compile.specs.Writing.{output_text, place_of, text_among}
use Rattle.lx_compile.specs.declared.made.Made.{Made}
use Rattle.lx_compile.specs.declared.made.Made.TheVariants.{Outside, Scanners, Bare}
use Rattle.lx_compile.specs.declared.parts.Directive.{Directive}
use Rattle.lx_compile.specs.declared.parts.Directive.TheVariants as directive

-- ---- facts

pieces-quiet : (made : List Made) → pieces_among (quiet_made made) ≡ pieces_among made
pieces-quiet [] = refl
pieces-quiet (Outside text ∷ made) = pieces-quiet made
pieces-quiet (Scanners piece checks warnings cover groups ∷ made) = ap (λ (pieces : List Piece). piece ∷ pieces) (pieces-quiet made)
pieces-quiet (Bare at line asked ∷ made) = pieces-quiet made

units-quiet : (made : List Made) → units_of (quiet_made made) ≡ units_of made
units-quiet [] = refl
units-quiet (Outside text ∷ made) = units-quiet made
units-quiet (Scanners piece checks warnings cover groups ∷ made) = ap (λ (least : ℕ). greatest_in least checks) (units-quiet made)
units-quiet (Bare at line asked ∷ made) = units-quiet made

groups-quiet : (made : List Made) → groups_of (quiet_made made) ≡ groups_of made
groups-quiet [] = refl
groups-quiet (Outside text ∷ made) = groups-quiet made
groups-quiet (Scanners piece checks warnings cover groups ∷ made) = ap (λ (most : ℕ). max groups most) (groups-quiet made)
groups-quiet (Bare at line asked ∷ made) = groups-quiet made

-- ---- directives

body-quiet : (made : List Made) (asked : Directive) → body_of (quiet_made made) asked ≡ body_of made asked
body-quiet made directive.Nothing = refl
body-quiet made directive.Max = ap (λ (units : ℕ). MaxFill units) (units-quiet made)
body-quiet made directive.MaxNmatch = ap (λ (groups : ℕ). MaxGroups groups) (groups-quiet made)
body-quiet made (directive.Stags format) =
    ap (λ (pieces : List Piece). listed (λ (format : Format). Registers format (registers_of pieces)) format) (pieces-quiet made)
body-quiet made (directive.Mtags format) =
    ap (λ (pieces : List Piece). listed (λ (format : Format). Histories format (histories_of pieces)) format) (pieces-quiet made)
body-quiet made directive.Types = ap (λ (pieces : List Piece). Conditions (conditions_of pieces)) (pieces-quiet made)
body-quiet made directive.GetState = ap (λ (pieces : List Piece). state_switch (file_states pieces) pieces) (pieces-quiet made)

module _ (names : Spellings) (all : List Made) where
  text_fault-quiet : (at : Pos) (asked : Directive) → text_fault names (quiet_made all) at asked ≡ text_fault names all at asked
  text_fault-quiet at asked =
      ap (λ (body : Body). if has_wrong_strings asked || holds_opener (body_then names body []) then Some (BadValue at) else None) (body-quiet all asked)

  directive_fault-quiet : (at : Pos) (asked : Directive) → directive_fault names (quiet_made all) at asked ≡ directive_fault names all at asked
  directive_fault-quiet at asked =
      ap (λ (pieces : List Piece). option_or (missing_fault pieces at asked) (text_fault names (quiet_made all) at asked)) (pieces-quiet all)
      ∙ ap (λ (found : Option Fault). option_or (missing_fault (pieces_among all) at asked) found) (text_fault-quiet at asked)

  among-quiet : (made : List Made) → fault_among names (quiet_made all) (quiet_made made) ≡ fault_among names all made
  among-quiet [] = refl
  among-quiet (Outside text ∷ made) = among-quiet made
  among-quiet (Scanners piece checks warnings cover groups ∷ made) = among-quiet made
  among-quiet (Bare at line asked ∷ made) =
      ap (λ (found : Option Fault). option_or found (fault_among names (quiet_made all) (quiet_made made))) (directive_fault-quiet at asked)
      ∙ ap (λ (found : Option Fault). option_or (directive_fault names all at asked) found) (among-quiet made)

  pub directives-quiet : directives_fault names (quiet_made all) ≡ directives_fault names all
  directives-quiet = among-quiet all

-- ---- texts

module _ (names : Spellings) (out : List ℕ) (all : List Made) where
  among_text-quiet : (number line : ℕ) (made : List Made) → text_among names out (quiet_made all) number line (quiet_made made) ≡ text_among names out all number line made
  among_text-quiet number line [] = refl
  among_text-quiet number line (Outside text ∷ made) = ap (λ (rest : List ℕ). text ++ rest) (among_text-quiet number (line_after line text) made)
  among_text-quiet number line (Scanners piece checks warnings cover groups ∷ made) =
      let text : List ℕ = piece_text (place_of out line piece) piece in
      ap (λ (rest : List ℕ). text ++ rest) (among_text-quiet (suc number) (line_after line text) made)
  among_text-quiet number line (Bare at mark asked ∷ made) =
      ap (λ (body : Body). body_piece_text number names body mark
      ++ text_among names out (quiet_made all) (suc number) (line_after line (body_piece_text number names body mark)) (quiet_made made)) (body-quiet all asked)
      ∙ (let text : List ℕ = body_piece_text number names (body_of all asked) mark in
      ap (λ (rest : List ℕ). text ++ rest) (among_text-quiet (suc number) (line_after line text) made))

pub output-quiet : (names : Spellings) (out : List ℕ) (made : List Made) → output_text names out (quiet_made made) ≡ output_text names out made
output-quiet names out made = among_text-quiet names out made 1 1 made

pub cover-quiet : (made : List Made) → cover_of (quiet_made made) ≡ cover_of made
cover-quiet [] = refl
cover-quiet (Outside text ∷ made) = cover-quiet made
cover-quiet (Scanners piece checks warnings cover groups ∷ made) = ap (λ (rest : List ℕ). cover ++ rest) (cover-quiet made)
cover-quiet (Bare at line asked ∷ made) = cover-quiet made
