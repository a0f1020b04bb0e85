-- The pieces of a generated source.
use Rattle.std.proofs.Common.{◌≡◌, ◌∙◌, ℕ, zero, suc, ◌+◌, ◌-◌, ◌*◌, ◌<◌, ◌≤◌, List, [], ◌∷◌, ◌++◌, length, take, Option, Some, None, Ok, refl, sym, ap, ap₂, arith, append_assoc, length-append}
use Rattle.std.proofs.lemmas.Bool.{le-ltb}
use Rattle.std.specs.Fmt.{decimal}
use Rattle.std.specs.Prelude.{codes}
use Rattle.lx_base.specs.Places.{file_start, place_after}
use Rattle.lx_base.specs.declared.blocks.BlockKind.TheVariants.{Code}
use Rattle.lx_base.specs.declared.limits.TheConstants.{SOURCE_LIMIT}
use Rattle.lx_base.specs.declared.places.Pos.{Pos}
use Rattle.lx_source.proofs.Digits.{decimal-digits, decimal-length, from_first-digits}
use Rattle.lx_source.proofs.ReadLexemes.{take-word}
use Rattle.lx_source.proofs.SourceBodies.{block-ends}
use Rattle.lx_source.proofs.SourceLexemes.{source_body}
use Rattle.lx_source.specs.Sources.{rule_lines_then, source_files, source_name, source_options, source_text}
use Rattle.lx_split.specs.IncludeNames.{folder_of}
use Rattle.lx_split.specs.Includes.{expansion, go_on, met, pieces_expansion, pieces_within}
use Rattle.lx_split.specs.Marks.{begins_mark, mark_place, place_if_any}
use Rattle.lx_split.specs.Pieces.{Split, at_end, before, block, body_before, outside, pieces_from, pieces_of, pieces_without_marks, unless_marked}
use Rattle.lx_split.specs.Searches.{from_first}
use Rattle.lx_split.specs.declared.pieces.SourcePiece.{SourcePiece}
use Rattle.lx_split.specs.declared.pieces.SourcePiece.TheVariants.{Outside, Block}
use Rattle.lx_token.specs.Tokens.{place_of_rest}

-- ---- no mark stands in a source

lines-marks : (number count : ℕ) (text : List ℕ) → number + count ≤ 1000
    → from_first begins_mark (rule_lines_then number count text) ≡ from_first begins_mark text
lines-marks number zero text few = refl
lines-marks number (suc count) text few =
    from_first-digits (decimal number) (codes "x\"{1,3} [0-9]+ { }\n" ++ rule_lines_then (suc number) count text)
    (decimal-digits number (omega arith))
    ∙ lines-marks (suc number) count text (omega arith)

no_mark : (rules : ℕ) → rules < 1000 → mark_place (file_start 0) (source_text rules) ≡ None
no_mark rules few = ap (place_if_any (file_start 0) (source_text rules)) (lines-marks 1 rules (codes "* { }\n*/\n") (omega arith))

-- ---- its size

lines-size : (number count : ℕ) (text : List ℕ) → number + count ≤ 1000 → length (rule_lines_then number count text) ≤ 30 * count + length text
lines-size number zero text few = omega arith
lines-size number (suc count) text few =
    let rest = lines-size (suc number) count text (omega arith) in
    let digits = decimal-length number (omega arith) in
    simp length-append (omega arith)

source-size : (rules : ℕ) → rules < 1000 → length (source_text rules) ≤ 40000
source-size rules few = let lines = lines-size 1 rules (codes "* { }\n*/\n") (omega arith) in omega arith

-- ---- its block

lines-append : (number count : ℕ) (text more : List ℕ) → rule_lines_then number count (text ++ more) ≡ rule_lines_then number count text ++ more
lines-append number zero text more = refl
lines-append number (suc count) text more =
    let line = codes "x\"{1,3} [0-9]+ { }\n" in
    ap (λ (l : List ℕ). codes "\"w" ++ (decimal number ++ (line ++ l))) (lines-append (suc number) count text more)
    ∙ sym (ap (λ (l : List ℕ). codes "\"w" ++ l) (append_assoc (decimal number) (line ++ rule_lines_then (suc number) count text) more))

-- what stands behind the opener
abbrev behind_opener : (rules : ℕ) → List ℕ
behind_opener rules = codes "\nre2c:yyfill:enable = 0;\n" ++ rule_lines_then 1 rules (codes "* { }\n*/\n")

behind-body : (rules : ℕ) → behind_opener rules ≡ source_body rules ++ codes "*/\n"
behind-body rules = ap (λ (l : List ℕ). codes "\nre2c:yyfill:enable = 0;\n" ++ l) (lines-append 1 rules (codes "* { }\n") (codes "*/\n"))

body-is : (rules : ℕ) → body_before (behind_opener rules) (codes "\n") ≡ source_body rules
body-is rules =
    let whole = source_body rules ++ codes "*/\n" in
    let size : length whole - 1 - 2 ≡ length (source_body rules) = simp length-append (omega arith) in
    ap (λ (l : List ℕ). body_before l (codes "\n")) (behind-body rules)
    ∙ ap (λ (n : ℕ). take n whole) size ∙ take-word (source_body rules) (codes "*/\n")

-- the places of the block's opener, of its body, and of its end
abbrev pub source_start : Pos
source_start = place_after (file_start 0) (codes "/*!re2c")

abbrev pub end_line : (rules : ℕ) → ℕ
end_line rules = (place_of_rest (file_start 0) (source_text rules) (codes "\n")).line

-- the block, and a line feed
abbrev pub source_pieces : (rules : ℕ) → List SourcePiece
source_pieces rules = Block Code (source_body rules) (file_start 0) source_start (end_line rules) ∷ Outside (codes "\n") ∷ []

nothing-before : (text : List ℕ) → before text text ≡ []
nothing-before text = let none : length text - length text ≡ 0 = omega arith in ap (λ (n : ℕ). take n text) none

nowhere-else : (at : Pos) (text : List ℕ) → place_of_rest at text text ≡ at
nowhere-else at text = ap (place_after at) (nothing-before text)

block-is : (rules : ℕ) → block Code (file_start 0) (source_text rules) (codes "\n") ∷ Outside (codes "\n") ∷ [] ≡ source_pieces rules
block-is rules =
    ap (λ (body : List ℕ). Block Code body (file_start 0) source_start (end_line rules) ∷ Outside (codes "\n") ∷ []) (body-is rules)

without-marks : (rules : ℕ) → rules < 1000 → pieces_without_marks source_options 0 (source_text rules) ≡ Ok (source_pieces rules)
without-marks rules few =
    let text = source_text rules in
    let next = pieces_from (length text) source_options in
    ap (at_end next (outside (before text text)) Code (place_of_rest (file_start 0) text text) text) (block-ends rules few)
    ∙ ap₂ (λ (front : List ℕ) (at : Pos). at_end next (outside front) Code at text (Some (codes "\n"))) (nothing-before text)
    (nowhere-else (file_start 0) text)
    ∙ ap Ok (block-is rules)

pieces-source : (rules : ℕ) → rules < 1000 → pieces_of source_options 0 (source_text rules) ≡ Ok (source_pieces rules)
pieces-source rules few =
    ap (λ (o : Option Pos). unless_marked o (pieces_without_marks source_options 0 (source_text rules))) (no_mark rules few)
    ∙ without-marks rules few

pieces-within : (rules : ℕ) → rules < 1000 → pieces_within source_options (file_start 0) 0 0 (source_text rules) ≡ Ok (source_pieces rules)
pieces-within rules few =
    let size = source-size rules few in
    rw (le-ltb SOURCE_LIMIT (0 + length (source_text rules)) (omega arith)) (pieces-source rules few)

pub expansion-source : (rules : ℕ) → rules < 1000 → (expansion source_options (source_files rules) source_name).found ≡ Ok (source_pieces rules)
expansion-source rules few =
    let files = met (source_name ∷ []) (0 + length (source_text rules)) in
    ap (λ (s : Split). (go_on (pieces_expansion source_options (source_files rules) 32 (folder_of source_name)) files s).found)
    (pieces-within rules few)
