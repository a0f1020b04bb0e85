-- Scanners ask for no sets but those of the table of their piece.
use Rattle.std.specs.Prelude.{◌≡◌, ℕ, ◌*◌, ◌≤◌, List, length}
use Rattle.std.proofs.Common.{◌∙◌, ap, arith}
use Rattle.std.proofs.lemmas.List.Elements.{recursion_from_All}
use Rattle.lx_base.specs.Spelling.{greatest_unit}
use Rattle.lx_ccode.specs.Counts.{table_size}
use Rattle.lx_ccode.specs.declared.piece.CodeBlock.{CodeBlock}
use Rattle.lx_dispatch.specs.Dispatch.{IsTable}
use Rattle.lx_layout.specs.Parts.{Part, parts_blocks}
use Rattle.lx_layout.specs.Pieces.{AreFit, ArePartsOf, Form, Source, conds_of}
use Rattle.lx_layout.proofs.PartLayouts.AskedSets.{sets_few}
use Rattle.lx_layout.proofs.PieceLaws.FitParts.{all_tables, are_formed}
use Rattle.lx_layout.proofs.Validity.EachElement.{each-map}

module _ (form : Form) (table : List ℕ) (is_table : IsTable table) (scanners : List Source) (parts : List Part) (blocks : List CodeBlock)
    (fit : AreFit form scanners) (are : ArePartsOf form table scanners parts) (is : blocks ≡ parts_blocks 0 form.first_state parts) where
  pub sets_within : table_size blocks ≤ length table
  sets_within =
      let each = recursion_from_All _ scanners fit.each in
      let formed = are_formed form table (conds_of scanners) is_table scanners parts each are in
      let tables = all_tables form table (conds_of scanners) scanners parts each are in
      let few = sets_few is_table.0 (greatest_unit form.enc) form.first_state parts blocks formed
      (each-map (λ (part : Part). part.given.demand.table ≡ table) (λ (part : Part). length part.given.demand.table ≡ 256 * is_table.0)
      (λ part same. ap (λ (l : List ℕ). length l) same ∙ is_table.1) parts tables) is in
      let long = is_table.1 in
      omega (arith, few, long)
