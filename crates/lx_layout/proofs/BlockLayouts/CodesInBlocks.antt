-- Codes that stand in blocks from a number on.
use Rattle.std.specs.Prelude.{◌≡◌, ◌≢◌, ℕ, zero, suc, ◌+◌, ◌≤◌, List, [], ◌∷◌, ◌++◌, length, Some, slice_get, refl}
use Rattle.std.proofs.Common.{ap, ◌∙◌, subst, arith}
use Rattle.std.specs.List.{AllByRecursion}
use Rattle.lx_ccode.specs.Statements.{code_length}
use Rattle.lx_ccode.specs.declared.piece.Stmt.{Stmt}
use Rattle.lx_layout.specs.Layout.{StandsFrom}

module _ (blocks : List (List Stmt)) where
  pub StandsFrom-front : (i : ℕ) (a b : List (List Stmt)) → StandsFrom blocks i (a ++ b) → StandsFrom blocks i a
  StandsFrom-front i [] b h = tt
  StandsFrom-front i (c ∷ a) b h = (h.0, StandsFrom-front (suc i) a b h.1)

  pub StandsFrom-back : (i : ℕ) (a b : List (List Stmt)) → StandsFrom blocks i (a ++ b) → StandsFrom blocks (i + length a) b
  StandsFrom-back i [] b h = let e : i ≡ i + 0 = omega arith in subst (λ n. StandsFrom blocks n b) e h
  StandsFrom-back i (c ∷ a) b h =
      let e : suc i + length a ≡ i + length (c ∷ a) = omega arith in
      subst (λ n. StandsFrom blocks n b) e (StandsFrom-back (suc i) a b h.1)

  pub StandsFrom-get : (i j : ℕ) (a : List (List Stmt)) (code : List Stmt) → StandsFrom blocks i a → slice_get a j ≡ Some code
      → slice_get blocks (i + j) ≡ Some code
  StandsFrom-get i j [] code h e = absurd (cc)
  StandsFrom-get i zero (c ∷ a) code h e = let k : i ≡ i + 0 = omega arith in subst (λ n. slice_get blocks n ≡ Some code) k (h.0 ∙ e)
  StandsFrom-get i (suc j) (c ∷ a) code h e =
      let k : suc i + j ≡ i + suc j = omega arith in
      subst (λ n. slice_get blocks n ≡ Some code) k (StandsFrom-get (suc i) j a code h.1 e)

under : (block : List Stmt) (blocks : List (List Stmt)) (i : ℕ) (a : List (List Stmt)) → StandsFrom blocks i a → StandsFrom (block ∷ blocks) (suc i) a
under block blocks i [] h = tt
under block blocks i (c ∷ a) h = (h.0, under block blocks (suc i) a h.1)

-- blocks stand in themselves
pub StandsFrom-itself : (blocks : List (List Stmt)) → StandsFrom blocks 0 blocks
StandsFrom-itself [] = tt
StandsFrom-itself (block ∷ blocks) = (refl, under block blocks 0 blocks (StandsFrom-itself blocks))

-- ---- how many statements stand

pub code_length-append : (a b : List (List Stmt)) → code_length (a ++ b) ≡ code_length a + code_length b
code_length-append [] b = omega arith
code_length-append (code ∷ a) b = let again = code_length-append a b in omega (arith, again)

-- no block is longer than all blocks together
pub length-block : (codes : List (List Stmt)) (i : ℕ) (b : List Stmt) → slice_get codes i ≡ Some b → length b ≤ code_length codes
length-block [] i b e = absurd (cc)
length-block (c ∷ codes) zero b e = let k : c ≡ b = cc in let l : length c ≡ length b = ap length k in omega arith
length-block (c ∷ codes) (suc i) b e = let k = length-block codes i b e in omega (arith, k)

pub others : (block : List Stmt) (blocks : List (List Stmt)) (i : ℕ) (a : List (List Stmt)) → StandsFrom (block ∷ blocks) (suc i) a → StandsFrom blocks i a
others block blocks i [] h = tt
others block blocks i (c ∷ a) h = (h.0, others block blocks (suc i) a h.1)

-- nor are blocks that stand in a row
code_length-row : (blocks : List (List Stmt)) (i : ℕ) (row : List (List Stmt)) → StandsFrom blocks i row → code_length row ≤ code_length blocks
code_length-row blocks i [] h = omega arith
code_length-row [] i (c ∷ row) h = absurd (let e = h.0 in cc)
code_length-row (block ∷ blocks) zero (c ∷ row) h =
    let same : block ≡ c = let e = h.0 in cc in
    let long : length block ≡ length c = ap length same in
    let again = code_length-row blocks 0 row (others block blocks 0 row h.1) in
    omega (arith, long, again)
code_length-row (block ∷ blocks) (suc i) (c ∷ row) h =
    let again = code_length-row blocks i (c ∷ row) (others block blocks i (c ∷ row) h) in omega (arith, again)

-- with a block that is none of them
pub length-with_row : (blocks : List (List Stmt)) (i : ℕ) (code : List Stmt) (j : ℕ) (row : List (List Stmt)) → slice_get blocks i ≡ Some code
    → StandsFrom blocks j row → AllByRecursion (λ other. other ≢ code) row → length code + code_length row ≤ code_length blocks
length-with_row [] i code j row e h differ = absurd (cc)
length-with_row (block ∷ blocks) i code zero [] e h differ = let one = length-block (block ∷ blocks) i code e in omega (arith, one)
length-with_row (block ∷ blocks) zero code zero (c ∷ row) e h differ =
    absurd (differ.0 (let same = h.0 in cc))
length-with_row (block ∷ blocks) (suc i) code zero (c ∷ row) e h differ =
    let same : block ≡ c = let e = h.0 in cc in
    let long : length block ≡ length c = ap length same in
    let again = length-with_row blocks i code 0 row e (others block blocks 0 row h.1) differ.1 in
    omega (arith, long, again)
length-with_row (block ∷ blocks) zero code (suc j) row e h differ =
    let same : block ≡ code = cc in
    let long : length block ≡ length code = ap length same in
    let rest = code_length-row blocks j row (others block blocks j row h) in
    omega (arith, long, rest)
length-with_row (block ∷ blocks) (suc i) code (suc j) row e h differ =
    let again = length-with_row blocks i code j row e (others block blocks j row h) differ in omega (arith, again)
