-- Histories of scanners one behind another have numbers of 32 bits, and no state is stored where none is to be.
use Rattle.std.specs.Prelude.{◌≡◌, ℕ, ◌+◌, ◌≤◌, [], List, false, length}
use Rattle.std.proofs.Common.{ap, arith, subst, sym}
use Rattle.std.proofs.lemmas.List.Elements.{recursion_from_All}
use Rattle.std.specs.List.{AllByRecursion}
use Rattle.lx_base.specs.Spelling.{greatest_unit}
use Rattle.lx_base.specs.declared.limits.TheConstants.{STATEMENT_LIMIT}
use Rattle.lx_ccode.specs.Counts.{mregs_of}
use Rattle.lx_ccode.specs.States.{states_from}
use Rattle.lx_ccode.specs.Statements.{statement_count}
use Rattle.lx_ccode.specs.Validity.{IsLong, IsShort}
use Rattle.lx_ccode.specs.declared.piece.CodeBlock.{CodeBlock}
use Rattle.lx_dispatch.specs.Dispatch.{IsTable}
use Rattle.lx_layout.specs.FormedParts as formed
use Rattle.lx_layout.specs.FormedParts.{AllStore, AreFormed, all_asked}
use Rattle.lx_layout.specs.Parts.{Part, parts_blocks}
use Rattle.lx_layout.specs.Pieces.{AreFit, ArePartsOf, Form, Source, conds_of}
use Rattle.lx_layout.specs.Writable.{PartsCanBeWritten}
use Rattle.lx_layout.proofs.PartLayouts.ClosedParts.{all_end}
use Rattle.lx_layout.proofs.PartLayouts.PartBlocks.{OfBlocks, of_statements}
use Rattle.lx_layout.proofs.PartLayouts.PartStates.{no_states}
use Rattle.lx_layout.proofs.PartLayouts.ShortNumbers.{blocks_few, mregs_short}
use Rattle.lx_layout.proofs.PartLayouts.Spelled.{IsSpellable}
use Rattle.lx_layout.proofs.PartLayouts.ValidParts.{greatest_short}
use Rattle.lx_layout.proofs.PartLayouts.WrittenParts.{blocks_fine}
use Rattle.lx_layout.proofs.PieceLaws.AskedFew.{all_few}
use Rattle.lx_layout.proofs.PieceLaws.EachPart.{AreFitScanners}
use Rattle.lx_layout.proofs.PieceLaws.FitParts.{all_store, all_written, are_formed}
use Rattle.lx_layout.proofs.PieceLaws.EachScanner.{same_conds}

module _ (form : Form) (table : List ℕ) (is_table : IsTable table) (scanners : List Source) (parts : List Part) (blocks : List CodeBlock) (fit : AreFit form scanners) (are : ArePartsOf form table scanners parts)
    (is : blocks ≡ parts_blocks 0 form.first_state parts) (small : statement_count blocks ≤ STATEMENT_LIMIT) where
  each : AreFitScanners form (conds_of scanners) scanners
  each = recursion_from_All _ scanners fit.each

  formed_parts : AreFormed (greatest_unit form.enc) parts
  formed_parts = are_formed form table (conds_of scanners) is_table scanners parts each are

  written : PartsCanBeWritten form.names (formed.conds_of parts) parts
  written =
      subst (λ list. PartsCanBeWritten form.names list parts) (sym (same_conds form table scanners parts are))
      (all_written form table (conds_of scanners) fit.eof scanners parts each are)

  room : IsLong (form.first_state + all_asked parts)
  room =
      let few = all_few 0 form.first_state parts in
      let l : length blocks ≡ length (parts_blocks 0 form.first_state parts) = ap (λ l. length l) is in
      let le = blocks_few blocks (all_end (greatest_unit form.enc) form.first_state parts blocks formed_parts is) in
      let first = fit.first_state in
      omega (arith, few, l, le, first, small)

  pub histories_short : IsShort (mregs_of blocks)
  histories_short =
      mregs_short form.names (formed.conds_of parts) blocks
      (of_statements (IsSpellable form.names (formed.conds_of parts)) blocks
      (subst (λ l. OfBlocks (λ code. AllByRecursion (IsSpellable form.names (formed.conds_of parts)) code) l) (sym is)
      (blocks_fine form.names (formed.conds_of parts) (greatest_unit form.enc) form.first_state parts formed_parts (greatest_short form.enc) written room)))

  pub states_none : form.stores ≡ false → states_from 0 blocks ≡ []
  states_none none =
      no_states (greatest_unit form.enc) form.first_state parts blocks formed_parts
      (subst (λ stores. AllStore stores parts) none (all_store form table (conds_of scanners) scanners parts each are)) is
