-- The text of a generated source, and the words that its scanner is run over.
use Rattle.std.proofs.Common.{◌≡◌, ◌∙◌, ℕ, suc, ◌+◌, List, [], ◌∷◌, ◌++◌, refl, sym, ap, append_assoc, add-one, arith}
use Rattle.std.proofs.lemmas.List.{append-nil}
use Rattle.std.specs.Fmt.{decimal}
use Rattle.std.specs.Prelude.{codes}
use Rattle.lx_base.specs.Text.{joined}
use Rattle.lx_source.specs.Sources.{rule_lines_then, source_text}
use Rattle.lx_top.specs.Sources.{words_from, words_of}

joined-behind : (parts : List (List ℕ)) (tail : List ℕ) → joined parts [] ++ tail ≡ joined parts tail
joined-behind [] tail = refl
joined-behind (part ∷ parts) tail = append_assoc part (joined parts []) tail ∙ ap (λ (l : List ℕ). part ++ l) (joined-behind parts tail)

-- parts and a tail behind a text
parts-behind : (text written : List ℕ) (parts : List (List ℕ)) (tail : List ℕ) → written ≡ text ++ joined parts [] → written ++ tail ≡ text ++ joined parts tail
parts-behind text written parts tail is =
    ap (λ (l : List ℕ). l ++ tail) is ∙ append_assoc text (joined parts []) tail ∙ ap (λ (l : List ℕ). text ++ l) (joined-behind parts tail)

-- ---- the source

-- the line of the rule with this number
abbrev pub rule_parts : (number : List ℕ) → List (List ℕ)
rule_parts number = codes "\"w" ∷ number ∷ codes "x\"{1,3} [0-9]+ { }\n" ∷ []

-- the text is that of a source up to this rule
abbrev pub HasRules : (rules number : ℕ) (text : List ℕ) → Type 0
HasRules rules number text =
    (count : ℕ) → number + count ≡ rules + 1 → (tail : List ℕ)
    → text ++ rule_lines_then number count tail ≡ codes "/*!re2c\nre2c:yyfill:enable = 0;\n" ++ rule_lines_then 1 rules tail

pub HasRules-none : (rules : ℕ) (text : List ℕ) → text ≡ codes "/*!re2c\nre2c:yyfill:enable = 0;\n" → HasRules rules 1 text
HasRules-none rules text is count all tail =
    let same : count ≡ rules = omega arith in
    ap (λ (l : List ℕ). l ++ rule_lines_then 1 count tail) is
    ∙ ap (λ (n : ℕ). codes "/*!re2c\nre2c:yyfill:enable = 0;\n" ++ rule_lines_then 1 n tail) same

pub HasRules-more : (rules number : ℕ) (text written : List ℕ) → HasRules rules number text → written ≡ text ++ joined (rule_parts (decimal number)) []
    → HasRules rules (number + 1) written
HasRules-more rules number text written has is count all tail =
    parts-behind text written (rule_parts (decimal number)) (rule_lines_then (number + 1) count tail) is
    ∙ ap (λ (n : ℕ). text ++ joined (rule_parts (decimal number)) (rule_lines_then n count tail)) (add-one number) ∙ has (suc count) (omega (arith, all)) tail

pub HasRules-all : (rules number : ℕ) (text : List ℕ) → HasRules rules number text → number ≡ rules + 1 → text ++ codes "* { }\n*/\n" ≡ source_text rules
HasRules-all rules number text has is = has 0 (omega (arith, is)) (codes "* { }\n*/\n")

-- ---- the words

-- the word of the rule with this number
abbrev pub word_parts : (number : List ℕ) → List (List ℕ)
word_parts number = codes "w" ∷ number ∷ codes "x7" ∷ []

-- the text is that of the words up to this one
abbrev pub HasWords : (rules number : ℕ) (text : List ℕ) → Type 0
HasWords rules number text = (count : ℕ) → number + count ≡ rules + 1 → text ++ words_from number count ≡ words_of rules

pub HasWords-none : (rules : ℕ) (text : List ℕ) → text ≡ [] → HasWords rules 1 text
HasWords-none rules text is count all =
    let same : count ≡ rules = omega arith in
    ap (λ (l : List ℕ). l ++ words_from 1 count) is ∙ ap (words_from 1) same

pub HasWords-more : (rules number : ℕ) (text written : List ℕ) → HasWords rules number text → written ≡ text ++ joined (word_parts (decimal number)) []
    → HasWords rules (number + 1) written
HasWords-more rules number text written has is count all =
    parts-behind text written (word_parts (decimal number)) (words_from (number + 1) count) is
    ∙ ap (λ (n : ℕ). text ++ joined (word_parts (decimal number)) (words_from n count)) (add-one number) ∙ has (suc count) (omega (arith, all))

pub HasWords-all : (rules number : ℕ) (text : List ℕ) → HasWords rules number text → number ≡ rules + 1 → text ≡ words_of rules
HasWords-all rules number text has is = sym (append-nil text) ∙ has 0 (omega (arith, is))
