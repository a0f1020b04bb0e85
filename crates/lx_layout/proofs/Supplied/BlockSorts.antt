-- Blocks of different sorts are together no longer than all blocks of a piece.
use Rattle.std.specs.Prelude.{◌≡◌, ℕ, zero, suc, ◌+◌, ◌≤◌, Bool, true, false, List, [], ◌∷◌, length, Option, Some, None, refl, slice_get, if◌then◌else◌}
use Rattle.std.proofs.Common.{ap, ◌∙◌, arith}
use Rattle.std.specs.List.{AllByRecursion}
use Rattle.lx_auto.specs.declared.automaton.Auto.{Auto}
use Rattle.lx_auto.specs.declared.automaton.Edge.{Edge}
use Rattle.lx_auto.specs.declared.automaton.State.{State}
use Rattle.lx_auto.specs.declared.ops.Op.{Op}
use Rattle.lx_auto.specs.declared.ops.Op.TheVariants.{Here, Null, Copy, MHere, MNull, MCopy}
use Rattle.lx_ccode.specs.Statements.{code_length}
use Rattle.lx_ccode.specs.declared.piece.Stmt.{Stmt}
use Rattle.lx_ccode.specs.declared.piece.Stmt.TheVariants.{Goto, IfEnd, Peek, Skip, Try}
use Rattle.lx_sequence.specs.ParallelCopies.{sequentialized}
use Rattle.lx_layout.specs.Codes.{list_code, ops_code, save_code}
use Rattle.lx_layout.specs.Fallback.{edge_code}
use Rattle.lx_layout.specs.Halting.{Halting, saves_on}
use Rattle.lx_layout.specs.Layout.{StandsFrom}
use Rattle.lx_layout.specs.Supplies.{Reader, need_code}
use Rattle.lx_dispatch.specs.TestTrees.{Question, TestTree, fork, leaf, switch, test}
use Rattle.lx_layout.specs.TreeCodes.{asks, inner_blocks, inner_size, tree_code}
use Rattle.lx_layout.proofs.BlockLayouts.CodesInBlocks.{others}
use Rattle.lx_layout.proofs.BlockLayouts.Questions.{any_question}
use Rattle.lx_layout.proofs.Validity.EachElement.{each-append}

-- a block reads a unit, passes one, tests whether the limit is reached, asks for a refill there, or does none of these
pub data Sort : Type 0 where
  reading : Sort
  passing : Sort
  testing : Sort
  asking : Sort
  other : Sort

abbrev statement_sort : Stmt → Sort
statement_sort Peek = reading
statement_sort Skip = passing
statement_sort (IfEnd block) = testing
statement_sort (Try block) = asking
statement_sort _ = other

abbrev or_sort : Sort → Sort → Sort
or_sort other later = later
or_sort sort later = sort

-- the sort of the first statement that has one
abbrev pub sort_of : List Stmt → Sort
sort_of [] = other
sort_of (statement ∷ code) = or_sort (statement_sort statement) (sort_of code)

abbrev same_sort : Sort → Sort → Bool
same_sort reading reading = true
same_sort passing passing = true
same_sort testing testing = true
same_sort asking asking = true
same_sort other other = true
same_sort _ _ = false

same_sort-itself : (sort : Sort) → same_sort sort sort ≡ true
same_sort-itself reading = refl
same_sort-itself passing = refl
same_sort-itself testing = refl
same_sort-itself asking = refl
same_sort-itself other = refl

-- how many statements the blocks of a sort have
abbrev pub lengths_of : Sort → List (List Stmt) → ℕ
lengths_of sort [] = 0
lengths_of sort (code ∷ blocks) = (if same_sort sort (sort_of code) then length code else 0) + lengths_of sort blocks

pub lengths_within : (blocks : List (List Stmt))
    → lengths_of reading blocks + lengths_of passing blocks + lengths_of testing blocks + lengths_of asking blocks + lengths_of other blocks
    ≤ code_length blocks
lengths_within [] = omega arith
lengths_within (code ∷ blocks) = by (sort_of code) (lengths_within blocks)
  where
    by : (sort : Sort)
        → lengths_of reading blocks + lengths_of passing blocks + lengths_of testing blocks + lengths_of asking blocks + lengths_of other blocks
        ≤ code_length blocks
        → ((if same_sort reading sort then length code else 0) + lengths_of reading blocks)
        + ((if same_sort passing sort then length code else 0) + lengths_of passing blocks)
        + ((if same_sort testing sort then length code else 0) + lengths_of testing blocks)
        + ((if same_sort asking sort then length code else 0) + lengths_of asking blocks)
        + ((if same_sort other sort then length code else 0) + lengths_of other blocks)
        ≤ length code + code_length blocks
    by reading again = omega (arith, again)
    by passing again = omega (arith, again)
    by testing again = omega (arith, again)
    by asking again = omega (arith, again)
    by other again = omega (arith, again)

-- blocks of a sort that stand in a row are no longer than all of this sort
pub lengths_of-row : (sort : Sort) (blocks : List (List Stmt)) (i : ℕ) (row : List (List Stmt)) → StandsFrom blocks i row
    → AllByRecursion (λ code. sort_of code ≡ sort) row → code_length row ≤ lengths_of sort blocks
lengths_of-row sort blocks i [] h sorts = omega arith
lengths_of-row sort [] i (code ∷ row) h sorts = absurd (let e = h.0 in cc)
lengths_of-row sort (block ∷ blocks) zero (code ∷ row) h sorts =
    let same : block ≡ code = let e = h.0 in cc in
    let long : (if same_sort sort (sort_of block) then length block else 0) ≡ length code =
    ap (λ b. if same_sort sort (sort_of b) then length b else 0) same
    ∙ ap (λ s. if same_sort sort s then length code else 0) sorts.0
    ∙ ap (λ t. if t then length code else 0) (same_sort-itself sort) in
    let again = lengths_of-row sort blocks 0 row (others block blocks 0 row h.1) sorts.1 in
    omega (arith, long, again)
lengths_of-row sort (block ∷ blocks) (suc i) (code ∷ row) h sorts =
    let again = lengths_of-row sort blocks i (code ∷ row) (others block blocks i (code ∷ row) h) sorts in omega (arith, again)

-- nor is one of them
pub lengths_of-block : (sort : Sort) (blocks : List (List Stmt)) (i : ℕ) (code : List Stmt) → slice_get blocks i ≡ Some code → sort_of code ≡ sort
    → length code ≤ lengths_of sort blocks
lengths_of-block sort blocks i code is e = let h = lengths_of-row sort blocks i (code ∷ []) (is, tt) (e, tt) in omega (arith, h)

-- ---- the sorts of codes

sort_of-asks : (question : Question) (block : ℕ) (code : List Stmt) → sort_of code ≡ other → sort_of (asks question block ∷ code) ≡ other
sort_of-asks question block code is =
    any_question (λ statement. sort_of (statement ∷ code) ≡ other) block (λ greatest. is) (λ unit. is) (λ set. is) question

pub sort_of-tree : (next : ℕ) (tree : TestTree ℕ) → sort_of (tree_code next tree) ≡ other
sort_of-tree next (leaf block) = refl
sort_of-tree next (test question block high) = sort_of-asks question block (tree_code next high) (sort_of-tree next high)
sort_of-tree next (fork question low high) =
    sort_of-asks question next (tree_code (suc next + inner_size low) high) (sort_of-tree (suc next + inner_size low) high)
sort_of-tree next (switch cases last) = refl

pub sorts_of-inner : (next : ℕ) (tree : TestTree ℕ) → AllByRecursion (λ code. sort_of code ≡ other) (inner_blocks next tree)
sorts_of-inner next (leaf block) = tt
sorts_of-inner next (switch cases last) = tt
sorts_of-inner next (test question block high) = sorts_of-inner next high
sorts_of-inner next (fork question low high) = (
  sort_of-tree (suc next) low,
  each-append (λ code. sort_of code ≡ other) (inner_blocks (suc next) low) (inner_blocks (suc next + inner_size low) high)
      (sorts_of-inner (suc next) low) (sorts_of-inner (suc next + inner_size low) high),
)

sort_of-ops : (ops : List Op) (rest : List Stmt) → sort_of (ops_code ops rest) ≡ sort_of rest
sort_of-ops [] rest = refl
sort_of-ops (Here reg ∷ ops) rest = sort_of-ops ops rest
sort_of-ops (Null reg ∷ ops) rest = sort_of-ops ops rest
sort_of-ops (Copy reg source ∷ ops) rest = sort_of-ops ops rest
sort_of-ops (MHere mreg ∷ ops) rest = sort_of-ops ops rest
sort_of-ops (MNull mreg ∷ ops) rest = sort_of-ops ops rest
sort_of-ops (MCopy mreg source ∷ ops) rest = sort_of-ops ops rest

sort_of-save : (saves : Bool) (saved : Option ℕ) (rest : List Stmt) → sort_of (save_code saves saved rest) ≡ sort_of rest
sort_of-save false saved rest = refl
sort_of-save true None rest = refl
sort_of-save true (Some saved) rest = refl

pub sort_of-edge : (halting : Halting) (auto : Auto) (state : State) (saved : Option ℕ) (edge : Edge) (block : ℕ)
    → sort_of (edge_code halting auto state saved edge block) ≡ passing
sort_of-edge halting auto state saved edge block =
    sort_of-save (saves_on halting state edge) saved (list_code auto state.leave (list_code auto edge.ops (Skip ∷ Goto block ∷ [])))
    ∙ sort_of-ops (sequentialized auto.regs auto.mregs state.leave) (list_code auto edge.ops (Skip ∷ Goto block ∷ []))
    ∙ sort_of-ops (sequentialized auto.regs auto.mregs edge.ops) (Skip ∷ Goto block ∷ [])

pub sort_of-need : (stored : Option (Reader → ℕ)) (reader : Reader) (units : ℕ) (rest : List Stmt)
    → sort_of (need_code stored reader units rest) ≡ sort_of rest
sort_of-need stored reader zero rest = refl
sort_of-need None reader (suc units) rest = refl
sort_of-need (Some number) reader (suc units) rest = refl
