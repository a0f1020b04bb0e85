-- The places of statements that assign something of the user's: which they are, and how many.
use Rattle.std.proofs.Common.{◌≡◌, ◌∙◌, sym, ap, subst, refl, ℕ, suc, ◌+◌, ◌<◌, ◌≤◌, ◌⊎◌, inl, inr, Bool, true, false, if◌then◌else◌, List, [], ◌∷◌, length, drop, get_or, Option, Some, None, slice_get, arith}
use Rattle.std.specs.List.{AllByRecursion, list_any}
use Rattle.std.proofs.lemmas.Bool.{false≢true}
use Rattle.std.proofs.Math.Seq.{drop-cons}
use Rattle.lx_ccode.specs.declared.piece.Stmt.{Stmt}
use Rattle.lx_ccode.specs.declared.piece.CodeBlock.{CodeBlock}
use Rattle.lx_ccode.specs.Statements.{code_of, statement_count}
use Rattle.lx_step.specs.declared.answers.StmtAt.{StmtAt}
use Rattle.lx_step.specs.Assigned.{is_assignment, same_place}
use Rattle.lx_step.specs.Places.{places_from, places_in, statement_at}
use Rattle.lx_step.specs.Saved.{Assigns, IsAssignmentAt}
use Rattle.lx_step.proofs.Places.{any-places_from, either, length-places_from, or-true, same_place-self, same_place-true}

-- ---- how many

pub length-places_in : (block stmt : ℕ) (statements : List Stmt) (others : List StmtAt) → length (places_in block stmt statements others) ≡ length (places_in 0 0 statements []) + length others
length-places_in block stmt statements others = same block stmt 0 0 statements others where
  same : (block stmt at from : ℕ) (statements : List Stmt) (others : List StmtAt) → length (places_in block stmt statements others) ≡ length (places_in at from statements []) + length others
  same block stmt at from [] others = omega arith
  same block stmt at from (statement ∷ statements) others = by (is_assignment statement) (same block (suc stmt) at (suc from) statements others) where
    by : (test : Bool) → length (places_in block (suc stmt) statements others) ≡ length (places_in at (suc from) statements []) + length others
        → length (if test then record { block = block; stmt = stmt } ∷ places_in block (suc stmt) statements others else places_in block (suc stmt) statements others)
        ≡ length (if test then record { block = at; stmt = from } ∷ places_in at (suc from) statements [] else places_in at (suc from) statements []) + length others
    by true e = omega (arith, e)
    by false e = e

-- one block more
pub counted-places : (blocks : List CodeBlock) (place count more total : ℕ) (block : CodeBlock) (front : List Stmt) → place < length blocks → block ≡ get_or blocks place block → front ≡ block.stmts
    → more ≡ length (places_in 0 0 front []) → count + length (places_from place (drop place blocks)) ≡ total → count + more + length (places_from (place + 1) (drop (place + 1) blocks)) ≡ total
counted-places blocks place count more total block front below is front_is told so_far =
    let next : place + 1 ≡ suc place = omega arith in
    let split : drop place blocks ≡ block ∷ drop (suc place) blocks = drop-cons blocks place block below ∙ ap (λ (first : CodeBlock). first ∷ drop (suc place) blocks) (sym is) in
    let parts : length (places_from place (drop place blocks)) ≡ length (places_in 0 0 front []) + length (places_from (suc place) (drop (suc place) blocks)) =
    ap (λ blocks. length (places_from place blocks)) split ∙ length-places_in place 0 block.stmts (places_from (suc place) (drop (suc place) blocks))
    ∙ ap (λ stmts. length (places_in 0 0 stmts []) + length (places_from (suc place) (drop (suc place) blocks))) (sym front_is) in
    let after : length (places_from (place + 1) (drop (place + 1) blocks)) ≡ length (places_from (suc place) (drop (suc place) blocks)) = ap (λ n. length (places_from n (drop n blocks))) next in
    omega (arith, parts, after, told, so_far)

pub fewer-places : (blocks : List CodeBlock) (count rest : ℕ) → count + rest ≡ length (places_from 0 blocks) → count ≤ statement_count blocks
fewer-places blocks count rest e = omega (arith, e, length-places_from 0 blocks)

-- ---- which

-- the place is one of those of a block, or one of the others
places_in-split : (place : StmtAt) (block stmt : ℕ) (statements : List Stmt) (others : List StmtAt) → list_any (same_place place) (places_in block stmt statements others) ≡ true
    → ((at : ℕ) × (place.block ≡ block) × (place.stmt ≡ stmt + at) × ((statement : Stmt) × (slice_get statements at ≡ Some statement) × (is_assignment statement ≡ true))) ⊎ (list_any (same_place place) others ≡ true)
places_in-split place block stmt [] others e = inr e
places_in-split place block stmt (statement ∷ statements) others e = by (is_assignment statement) refl e (places_in-split place block (suc stmt) statements others) where
  Here : Type 0
  Here = (at : ℕ) × (place.block ≡ block) × (place.stmt ≡ stmt + at) × ((one : Stmt) × (slice_get (statement ∷ statements) at ≡ Some one) × (is_assignment one ≡ true))

  Later : Type 0
  Later = list_any (same_place place) (places_in block (suc stmt) statements others) ≡ true
      → ((at : ℕ) × (place.block ≡ block) × (place.stmt ≡ suc stmt + at) × ((statement : Stmt) × (slice_get statements at ≡ Some statement) × (is_assignment statement ≡ true))) ⊎ (list_any (same_place place) others ≡ true)

  next : Later → list_any (same_place place) (places_in block (suc stmt) statements others) ≡ true → Here ⊎ (list_any (same_place place) others ≡ true)
  next later e = elim (later e) [
    | inl found ↦ inl (suc found.0, found.1, (let at = found.2 in omega (arith, at)), found.3)
    | inr h ↦ inr h
  ]

  by : (test : Bool) → is_assignment statement ≡ test
      → list_any (same_place place) (if test then record { block = block; stmt = stmt } ∷ places_in block (suc stmt) statements others else places_in block (suc stmt) statements others) ≡ true
      → Later → Here ⊎ (list_any (same_place place) others ≡ true)
  by true is e later = elim (either (same_place place (record { block = block; stmt = stmt })) _ e) [
    | inl same ↦
        let is_here : place ≡ record { block = block; stmt = stmt } = same_place-true place (record { block = block; stmt = stmt }) same in
        inl (0, ap (λ (one : StmtAt). one.block) is_here, (let at = ap (λ (one : StmtAt). one.stmt) is_here in omega (arith, at)), (statement, refl, is))
    | inr h ↦ next later h
  ]
  by false is e later = next later e

-- the place is that of a statement of the blocks, of which the first has a number
abbrev StandsFrom : (block : ℕ) → List CodeBlock → StmtAt → Type 0
StandsFrom block blocks place =
    (at : ℕ) × (place.block ≡ block + at) × ((code : List Stmt) × (slice_get (code_of blocks) at ≡ Some code) × ((statement : Stmt) × (slice_get code place.stmt ≡ Some statement) × (is_assignment statement ≡ true)))

places_from-stands : (place : StmtAt) (block : ℕ) (blocks : List CodeBlock) → list_any (same_place place) (places_from block blocks) ≡ true → StandsFrom block blocks place
places_from-stands place block [] e = absurd (false≢true e)
places_from-stands place block (first ∷ blocks) e = by (places_in-split place block 0 first.stmts (places_from (suc block) blocks) e) (places_from-stands place (suc block) blocks) where
  by : ((at : ℕ) × (place.block ≡ block) × (place.stmt ≡ 0 + at) × ((statement : Stmt) × (slice_get first.stmts at ≡ Some statement) × (is_assignment statement ≡ true)))
      ⊎ (list_any (same_place place) (places_from (suc block) blocks) ≡ true)
      → (list_any (same_place place) (places_from (suc block) blocks) ≡ true → StandsFrom (suc block) blocks place) → StandsFrom block (first ∷ blocks) place
  by (inl found) later =
      let stmt : found.0 ≡ place.stmt = let at = found.2 in omega (arith, at) in
      let one = found.3 in
      (0, (let same = found.1 in omega (arith, same)), (first.stmts, refl, (one.0, ap (slice_get first.stmts) (sym stmt) ∙ one.1, one.2)))
  by (inr h) later = let found = later h in (suc found.0, (let same = found.1 in omega (arith, same)), found.2)

pub IsAssignmentAt-place : (blocks : List CodeBlock) (place : StmtAt) → list_any (same_place place) (places_from 0 blocks) ≡ true → IsAssignmentAt blocks place
IsAssignmentAt-place blocks place e =
    let found = places_from-stands place 0 blocks e in
    let at : found.0 ≡ place.block = let same = found.1 in omega (arith, same) in
    let code = found.2 in
    let one = code.2 in
    let there : statement_at blocks place ≡ Some one.0 =
    subst (λ (found : Option (List Stmt)). elim found as (λ x. Option Stmt) [ None ↦ None | Some code ↦ slice_get code place.stmt ] ≡ Some one.0) (sym (ap (slice_get (code_of blocks)) (sym at) ∙ code.1)) one.1 in
    subst Assigns (sym there) one.2

by_statement : (blocks : List CodeBlock) (place : StmtAt) (code : List Stmt) (found : Option Stmt) → slice_get (code_of blocks) place.block ≡ Some code → slice_get code place.stmt ≡ found
    → Assigns found → list_any (same_place place) (places_from 0 blocks) ≡ true
by_statement blocks place code None b s h = absurd h
by_statement blocks place code (Some statement) b s h =
    let sum : 0 + place.block ≡ place.block = omega arith in
    subst (λ n. list_any (same_place (record { block = n; stmt = place.stmt })) (places_from 0 blocks) ≡ true) sum (any-places_from 0 place.block place.stmt blocks code statement b s h)

by_code : (blocks : List CodeBlock) (place : StmtAt) (code : Option (List Stmt)) → slice_get (code_of blocks) place.block ≡ code
    → Assigns (elim code [ None ↦ None | Some code ↦ slice_get code place.stmt ]) → list_any (same_place place) (places_from 0 blocks) ≡ true
by_code blocks place None b h = absurd h
by_code blocks place (Some code) b h = by_statement blocks place code (slice_get code place.stmt) b refl h

pub place-IsAssignmentAt : (blocks : List CodeBlock) (place : StmtAt) → IsAssignmentAt blocks place → list_any (same_place place) (places_from 0 blocks) ≡ true
place-IsAssignmentAt blocks place is = by_code blocks place (slice_get (code_of blocks) place.block) refl is

-- ---- all of them

pub all-StaysIn : (blocks : List CodeBlock) (places : List StmtAt) → ((place : StmtAt) → list_any (same_place place) places ≡ true → list_any (same_place place) (places_from 0 blocks) ≡ true)
    → AllByRecursion (IsAssignmentAt blocks) places
all-StaysIn blocks [] among = tt
all-StaysIn blocks (first ∷ places) among =
    (IsAssignmentAt-place blocks first (among first (rw (same_place-self first) refl)), all-StaysIn blocks places (λ place h. among place (or-true (same_place place first) (list_any (same_place place) places) h)))

pub among-all : (blocks : List CodeBlock) (places : List StmtAt) → AllByRecursion (IsAssignmentAt blocks) places → (place : StmtAt) → list_any (same_place place) places ≡ true
    → list_any (same_place place) (places_from 0 blocks) ≡ true
among-all blocks [] all place e = absurd (false≢true e)
among-all blocks (first ∷ places) all place e = elim (either (same_place place first) (list_any (same_place place) places) e) [
  | inl same ↦ place-IsAssignmentAt blocks place (subst (IsAssignmentAt blocks) (sym (same_place-true place first same)) all.0)
  | inr h ↦ among-all blocks places all.1 place h
]
