-- Where the block of a generated source ends.
use Rattle.std.proofs.Common.{◌≡◌, ◌∙◌, ℕ, zero, suc, ◌+◌, ◌-◌, ◌<◌, ◌≤◌, List, ◌∷◌, ◌++◌, length, Option, Some, refl, ap, arith, length-append}
use Rattle.std.specs.Fmt.{decimal}
use Rattle.std.specs.Prelude.{codes, unwrap_or}
use Rattle.lx_base.specs.declared.blocks.BlockKind.TheVariants.{Code}
use Rattle.lx_source.proofs.Digits.{after_literal-digits, decimal-digits}
use Rattle.lx_source.specs.Sources.{rule_lines_then}
use Rattle.lx_split.specs.Bodies.{after_block, after_body}

-- a number more than another, by its steps
abbrev more : (count left : ℕ) → ℕ
more zero left = left
more (suc count) left = suc (more count left)

more-sum : (count left : ℕ) → more count left ≡ count + left
more-sum zero left = omega arith
more-sum (suc count) left = let same = more-sum count left in omega arith

-- a block whose body goes on with this text ends before this rest
abbrev Ends : (text rest : List ℕ) → Type 0
Ends text rest = (steps : ℕ) → length text ≤ steps → after_body Code steps text ≡ Some rest

Ends-closing : (rest : List ℕ) → Ends (codes "*/" ++ rest) rest
Ends-closing rest zero enough = absurd (omega arith)
Ends-closing rest (suc steps) enough = refl

-- so many parts stand at the front of the text
Ends-parts : (count : ℕ) (text next rest : List ℕ) → count + length next ≤ length text
    → ((left : ℕ) → after_body Code (more count left) text ≡ after_body Code left next) → Ends next rest → Ends text rest
Ends-parts count text next rest fits same later steps enough =
    let is : steps ≡ more count (steps - count) = let sum = more-sum count (steps - count) in omega arith in
    ap (λ (n : ℕ). after_body Code n text) is ∙ same (steps - count) ∙ later (steps - count) (omega arith)

-- the line of a rule: a string, and seven parts more
line-ends : (number : ℕ) (tail rest : List ℕ) → number < 1000 → Ends tail rest
    → Ends (codes "\"w" ++ (decimal number ++ (codes "x\"{1,3} [0-9]+ { }\n" ++ tail))) rest
line-ends number tail rest less later =
    let behind = codes "x\"{1,3} [0-9]+ { }\n" ++ tail in
    Ends-parts 1 (codes "\"w" ++ (decimal number ++ behind)) (codes "{1,3} [0-9]+ { }\n" ++ tail) rest (simp length-append (omega arith))
    (λ left. ap (λ (o : Option (List ℕ)). after_body Code left (unwrap_or o (119 ∷ (decimal number ++ behind))))
    (after_literal-digits (decimal number) behind (decimal-digits number less)))
    (Ends-parts 7 (codes "{1,3} [0-9]+ { }\n" ++ tail) tail rest (omega arith) (λ left. refl) later)

lines-end : (number count : ℕ) (text rest : List ℕ) → number + count ≤ 1000 → Ends text rest → Ends (rule_lines_then number count text) rest
lines-end number zero text rest few ends = ends
lines-end number (suc count) text rest few ends =
    line-ends number (rule_lines_then (suc number) count text) rest (omega arith) (lines-end (suc number) count text rest (omega arith) ends)

-- the block of a source ends before its last line feed
pub block-ends : (rules : ℕ) → rules < 1000
    → after_block Code (codes "\nre2c:yyfill:enable = 0;\n" ++ rule_lines_then 1 rules (codes "* { }\n*/\n")) ≡ Some (codes "\n")
block-ends rules few =
    let lines = rule_lines_then 1 rules (codes "* { }\n*/\n") in
    let text = codes "\nre2c:yyfill:enable = 0;\n" ++ lines in
    Ends-parts 25 text lines (codes "\n") (omega arith) (λ left. refl)
    (lines-end 1 rules (codes "* { }\n*/\n") (codes "\n") (omega arith)
    (Ends-parts 4 (codes "* { }\n*/\n") (codes "*/\n") (codes "\n") (omega arith) (λ left. refl) (Ends-closing (codes "\n"))))
    (length text) (omega arith)
