-- Each block of scanners one behind another ends once, and jumps to a block of its own scanner.
use Rattle.std.specs.Prelude.{◌≡◌, ℕ, ◌+◌, ◌<◌, ◌≤◌, List, [], ◌∷◌, length, Option, None, true, refl}
use Rattle.std.proofs.Common.{arith, length-append, subst, sym}
use Rattle.std.proofs.lemmas.List.{length-map}
use Rattle.std.specs.List.{AllByRecursion}
use Rattle.lx_ccode.specs.Statements.{all_statements, targets}
use Rattle.lx_ccode.specs.Validity.{JumpsBelow, ends_once}
use Rattle.lx_ccode.specs.declared.piece.CodeBlock.{CodeBlock}
use Rattle.lx_ccode.specs.declared.piece.Stmt.{Stmt}
use Rattle.lx_layout.specs.FormedParts.{AreFormed, IsFormed}
use Rattle.lx_layout.specs.Parts.{EachPart, Part, given_asked, given_supply, labelled, part_blocks, part_codes, parts_blocks}
use Rattle.lx_layout.specs.Plans.{unlabelled}
use Rattle.lx_layout.specs.SuppliedLayout.{EachReader, JumpsWithin}
use Rattle.lx_dispatch.specs.Dispatch.{AreTestsOf}
use Rattle.lx_layout.proofs.PartLayouts.PartBlocks.{of_parts, of_statements}
use Rattle.lx_layout.proofs.SuppliedLayouts.ClosedLayouts.{closed_ends, closed_jumps}
use Rattle.lx_layout.proofs.SuppliedLayouts.LeadingTrees.{LeadsWithin, each_reader, leads_within}
use Rattle.lx_layout.proofs.Validity.EachElement.{each-map}

-- ---- how many blocks there are

length-labelled : (cond : Option (List ℕ)) (codes : List (List Stmt)) → length (labelled cond codes) ≡ length codes
length-labelled cond [] = refl
length-labelled cond (code ∷ codes) =
    let e : length (unlabelled codes) ≡ length codes = length-map {B = CodeBlock} codes (λ code. record { cond = None; stmts = code }) in omega (arith, e)

pub length-parts : (begin first : ℕ) (part : Part) (parts : List Part) → length (parts_blocks begin first (part ∷ parts))
    ≡ length (part_codes part begin first)
    + length (parts_blocks (begin + length (part_codes part begin first)) (first + given_asked part.given) parts)
length-parts begin first part parts =
    let own = length-labelled part.given.cond (part_codes part begin first) in
    let all = length-append (part_blocks part begin first)
    (parts_blocks (begin + length (part_codes part begin first)) (first + given_asked part.given) parts) in
    omega (arith, own, all)

-- ---- the trees of a scanner

-- by them units go within the splits of its states
pub part_leads : (greatest : ℕ) (part : Part) → IsFormed greatest part
    → EachReader LeadsWithin part.given.demand.eof greatest part.trees part.given.auto
part_leads greatest part formed =
    each_reader (AreTestsOf part.given.demand.format part.given.demand.table part.given.demand.eof greatest) LeadsWithin
    (λ split tree is. leads_within (length part.given.demand.table) greatest split tree is.within) part.given.demand.eof greatest part.trees part.given.auto
    formed.chosen.trees

-- ---- all scanners

-- a jump below a number, where it is one to some blocks below it
jump_below : (low high count : ℕ) (statement : Stmt) → high ≤ count → JumpsWithin low high statement → JumpsBelow count statement
jump_below low high count statement le h =
    each-map (λ block. (low ≤ block) × (block < high)) (λ block. block < count) (λ block within. omega (arith, le, within.1)) (targets statement) h

parts_jump : (greatest count begin first : ℕ) (parts : List Part) → AreFormed greatest parts
    → begin + length (parts_blocks begin first parts) ≤ count
    → EachPart (λ part begin from. AllByRecursion (λ code. AllByRecursion (JumpsBelow count) code) (part_codes part begin from)) begin first parts
parts_jump greatest count begin first [] are room = tt
parts_jump greatest count begin first (part ∷ parts) are room =
    let l = length-parts begin first part parts in
    let high : ℕ = begin + length (part_codes part begin first) in
    let own = closed_jumps (given_supply part.given first) part.halting part.given.endings part.given.end_rule greatest part.trees part.given.auto begin
    are.0.auto (part_leads greatest part are.0) are.0.chosen.marked in (
      each-map (λ code. AllByRecursion (JumpsWithin begin (begin + length (part_codes part begin first))) code) (λ code. AllByRecursion (JumpsBelow count) code)
          (λ code h. each-map (JumpsWithin begin (begin + length (part_codes part begin first))) (JumpsBelow count)
          (λ statement is. jump_below begin (begin + length (part_codes part begin first)) count statement (omega (arith, l, room)) is) code h)
          (part_codes part begin first) own,
      parts_jump greatest count (begin + length (part_codes part begin first)) (first + given_asked part.given) parts are.1 (omega (arith, l, room)),
    )

parts_end : (greatest begin first : ℕ) (parts : List Part) → AreFormed greatest parts
    → EachPart (λ part begin from. AllByRecursion (λ code. ends_once code ≡ true) (part_codes part begin from)) begin first parts
parts_end greatest begin first [] are = tt
parts_end greatest begin first (part ∷ parts) are = (
  closed_ends (given_supply part.given first) part.halting part.given.endings part.given.end_rule greatest part.trees part.given.auto begin are.0.auto
      (part_leads greatest part are.0),
  parts_end greatest (begin + length (part_codes part begin first)) (first + given_asked part.given) parts are.1,
)

module _ (greatest first : ℕ) (parts : List Part) (blocks : List CodeBlock) (are : AreFormed greatest parts) (same : blocks ≡ parts_blocks 0 first parts) where
  pub all_jump : AllByRecursion (JumpsBelow (length blocks)) (all_statements blocks)
  all_jump =
      subst (λ l. AllByRecursion (JumpsBelow (length l)) (all_statements l)) (sym same)
      (of_statements (JumpsBelow (length (parts_blocks 0 first parts))) (parts_blocks 0 first parts)
      (of_parts (λ code. AllByRecursion (JumpsBelow (length (parts_blocks 0 first parts))) code) 0 first parts
      (parts_jump greatest (length (parts_blocks 0 first parts)) 0 first parts are (omega arith))))

  pub all_end : AllByRecursion (λ (block : CodeBlock). ends_once block.stmts ≡ true) blocks
  all_end =
      subst (λ l. AllByRecursion (λ (block : CodeBlock). ends_once block.stmts ≡ true) l) (sym same)
      (of_parts (λ code. ends_once code ≡ true) 0 first parts (parts_end greatest 0 first parts are))
