-- Lists that are gone through item by item.
use Rattle.std.proofs.Common.{◌≡◌, ℕ, suc, ◌+◌, ◌<◌, ◌||◌, Bool, true, false, List, [], ◌∷◌, ◌++◌, length, take, drop, get_or, refl, ap, ap₂, sym, ◌∙◌, max, arith, Option, Some, None, append-nil}
use Rattle.std.specs.List.{list_any}
use Rattle.std.proofs.lemmas.List.Folds.{list_any-append}
use Rattle.std.proofs.Math.Seq.{drop-cons, take-suc}
use Rattle.lx_ccode.specs.declared.piece.Stmt.{Stmt}
use Rattle.lx_ccode.specs.declared.piece.CodeBlock.{CodeBlock}
use Rattle.lx_ccode.specs.declared.piece.Piece.{Piece}
use Rattle.lx_ccode.specs.Statements.{all_statements}
use Rattle.lx_step.specs.declared.answers.StmtAt.{StmtAt}
use Rattle.lx_step.specs.Held.{Held}
use Rattle.lx_run.proofs.PutTexts.{drop-next}
use Rattle.lx_run.specs.Streams.{most_needed}
use Rattle.lx_run.specs.Tags.{new_tag_text}
use Rattle.lx_run.specs.Values.{onto, statement_at, statements_at, tags_text}

-- ---- what statements ask for

most_needed-append : (front back : List Stmt) → most_needed (front ++ back) ≡ max (most_needed front) (most_needed back)
most_needed-append [] back = omega arith
most_needed-append (statement ∷ front) back = let rest = most_needed-append front back in omega (arith, rest)

-- the statements of a block, and of those behind it
pub all_statements-drop : (blocks : List CodeBlock) (index : ℕ) (block : CodeBlock) (front : List Stmt) → index < length blocks → block ≡ get_or blocks index block
    → front ≡ block.stmts → all_statements (drop index blocks) ≡ front ++ all_statements (drop (index + 1) blocks)
all_statements-drop blocks index block front below is front_is =
    let next : drop index blocks ≡ block ∷ drop (suc index) blocks = drop-cons blocks index block below ∙ ap (λ (first : CodeBlock). first ∷ drop (suc index) blocks) (sym is) in
    let after : suc index ≡ index + 1 = omega arith in
    ap all_statements next ∙ ap₂ (λ (first : List Stmt) (place : ℕ). first ++ all_statements (drop place blocks)) (sym front_is) after

or_assoc : (first second third : Bool) → ((first || second) || third) ≡ (first || (second || third))
or_assoc true second third = refl
or_assoc false second third = refl

-- a test of one statement behind others
pub list_any-one : (test : Stmt → Bool) (before : Bool) (statement : Stmt) → (before || test statement) ≡ (before || list_any test (statement ∷ []))
list_any-one test before statement = ap (λ found. before || found) (by (test statement)) where
  by : (found : Bool) → found ≡ (found || false)
  by true = refl
  by false = refl

-- the statements from a place on
pub drop-item : (statements : List Stmt) (index : ℕ) (statement : Stmt) → index < length statements → statement ≡ get_or statements index statement
    → drop index statements ≡ statement ∷ drop (index + 1) statements
drop-item statements index statement below is =
    let after : suc index ≡ index + 1 = omega arith in
    drop-cons statements index statement below ∙ ap₂ (λ (first : Stmt) (place : ℕ). first ∷ drop place statements) (sym is) after

pub list_any-behind : (test : Stmt → Bool) (before result whole : Bool) (front back all : List Stmt) → all ≡ front ++ back
    → result ≡ (before || list_any test front) → (before || list_any test all) ≡ whole → (result || list_any test back) ≡ whole
list_any-behind test before result whole front back all splits result_is whole_is =
    ap (λ first. first || list_any test back) result_is ∙ or_assoc before (list_any test front) (list_any test back)
    ∙ ap (λ rest. before || rest) (sym (list_any-append test front back)) ∙ ap (λ rest. before || list_any test rest) (sym splits) ∙ whole_is

pub most_needed-behind : (before result whole : ℕ) (front back all : List Stmt) → all ≡ front ++ back
    → result ≡ max before (most_needed front) → max before (most_needed all) ≡ whole → max result (most_needed back) ≡ whole
most_needed-behind before result whole front back all splits result_is whole_is =
    let both = ap most_needed splits ∙ most_needed-append front back in omega (arith, both, result_is, whole_is)

-- ---- tags

onto-append : (statement : Option Stmt) (whole front back : List Stmt) → whole ≡ front ++ back → onto statement whole ≡ onto statement front ++ back
onto-append None whole front back is = is
onto-append (Some statement) whole front back is = ap (λ (rest : List Stmt). statement ∷ rest) is

statements_at-append : (piece : Piece) (front back : List StmtAt) → statements_at piece (front ++ back) ≡ statements_at piece front ++ statements_at piece back
statements_at-append piece [] back = refl
statements_at-append piece (place ∷ front) back =
    onto-append (statement_at piece place) (statements_at piece (front ++ back)) (statements_at piece front) (statements_at piece back) (statements_at-append piece front back)

-- the tag of the first statement, where there is one, and those of others
tags_text-onto : (held : Held) (before rest : List Stmt) (statement : Option Stmt)
    → tags_text held before (onto statement rest) ≡ new_tag_text held before statement ++ tags_text held (before ++ onto statement []) rest
tags_text-onto held before rest None = ap (λ (front : List Stmt). tags_text held front rest) (sym (append-nil before))
tags_text-onto held before rest (Some statement) = refl

-- the tag of the statement at a place, and those behind
pub tags_text-at : (held : Held) (piece : Piece) (places : List StmtAt) (at : ℕ) (other : StmtAt) → at < length places
    → tags_text held (statements_at piece (take at places)) (statements_at piece (drop at places))
    ≡ new_tag_text held (statements_at piece (take at places)) (statement_at piece (get_or places at other)) ++ tags_text held (statements_at piece (take (at + 1) places)) (statements_at piece (drop (at + 1) places))
tags_text-at held piece places at other below =
    let place : StmtAt = get_or places at other in
    let before : List Stmt = statements_at piece (take at places) in
    let rest : List Stmt = statements_at piece (drop (at + 1) places) in
    let after : at + 1 ≡ suc at = omega arith in
    let taken : take (at + 1) places ≡ take at places ++ place ∷ [] = ap (λ (count : ℕ). take count places) after ∙ take-suc places at other below in
    let made : statements_at piece (take (at + 1) places) ≡ before ++ onto (statement_at piece place) [] = ap (statements_at piece) taken ∙ statements_at-append piece (take at places) (place ∷ []) in
    let left : drop at places ≡ place ∷ drop (at + 1) places = drop-next places at other below in
    ap (λ (list : List StmtAt). tags_text held before (statements_at piece list)) left ∙ tags_text-onto held before rest (statement_at piece place)
    ∙ ap (λ (front : List Stmt). new_tag_text held before (statement_at piece place) ++ tags_text held front rest) (sym made)
