-- What holds of the blocks of each scanner holds of all blocks.
use Rattle.std.specs.Prelude.{ℕ, ◌+◌, List, [], ◌∷◌, length, Option}
use Rattle.std.specs.List.{AllByRecursion}
use Rattle.lx_ccode.specs.Statements.{all_statements}
use Rattle.lx_ccode.specs.declared.piece.CodeBlock.{CodeBlock}
use Rattle.lx_ccode.specs.declared.piece.Stmt.{Stmt}
use Rattle.lx_layout.specs.Parts.{EachPart, Part, given_asked, labelled, part_blocks, part_codes, parts_blocks}
use Rattle.lx_layout.specs.Plans.{unlabelled}
use Rattle.lx_layout.proofs.Validity.EachElement.{each-append}

module _ (P : List Stmt → Type 0) where
  abbrev pub OfBlocks : List CodeBlock → Type 0
  OfBlocks blocks = AllByRecursion (λ (block : CodeBlock). P block.stmts) blocks

  of_unlabelled : (codes : List (List Stmt)) → AllByRecursion P codes → OfBlocks (unlabelled codes)
  of_unlabelled [] h = tt
  of_unlabelled (code ∷ codes) h = (h.0, of_unlabelled codes h.1)

  of_labelled : (cond : Option (List ℕ)) (codes : List (List Stmt)) → AllByRecursion P codes → OfBlocks (labelled cond codes)
  of_labelled cond [] h = tt
  of_labelled cond (code ∷ codes) h = (h.0, of_unlabelled codes h.1)

  pub of_parts : (begin first : ℕ) (parts : List Part) → EachPart (λ part begin from. AllByRecursion P (part_codes part begin from)) begin first parts
      → OfBlocks (parts_blocks begin first parts)
  of_parts begin first [] h = tt
  of_parts begin first (part ∷ parts) h =
      each-append (λ (block : CodeBlock). P block.stmts) (part_blocks part begin first)
      (parts_blocks (begin + length (part_codes part begin first)) (first + given_asked part.given) parts)
      (of_labelled part.given.cond (part_codes part begin first) h.0)
      (of_parts (begin + length (part_codes part begin first)) (first + given_asked part.given) parts h.1)

-- of the statements of all blocks
pub of_statements : (Q : Stmt → Type 0) (blocks : List CodeBlock) → OfBlocks (λ code. AllByRecursion Q code) blocks → AllByRecursion Q (all_statements blocks)
of_statements Q [] h = tt
of_statements Q (block ∷ blocks) h = each-append Q block.stmts (all_statements blocks) h.0 (of_statements Q blocks h.1)
