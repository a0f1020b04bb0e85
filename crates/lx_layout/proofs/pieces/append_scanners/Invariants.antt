use Rattle.std.proofs.Common.{◌≡◌, ◌+◌, List, take}
use Rattle.lx_layout.specs.FormedParts.{all_asked}
use Rattle.lx_layout.specs.Parts.{Part, parts_blocks}
use Rattle.lx_layout.specs.PieceViews.{seen_form, seen_sources}
use Rattle.lx_layout.specs.Pieces.{ArePartsOf}
use Rattle.lx_layout.proofs.pieces.append_scanners.Given as goal

abbrev pub invariant-loop-scanner : goal.invariant-loop-scanner
invariant-loop-scanner l =
    (parts : List Part) × ArePartsOf (seen_form l.form) l.sets.table.items (seen_sources (take l.scanner-index l.scanners)) parts
    × (l.blocks.items ≡ parts_blocks 0 l.form.first_state parts) × (l.next ≡ l.form.first_state + all_asked parts)
