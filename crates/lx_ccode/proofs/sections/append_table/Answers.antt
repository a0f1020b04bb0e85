use Rattle.std.proofs.Common.{◌∙◌, length}
use Rattle.std.proofs.lemmas.Bool.{false≢true, eq-eqb}
use Rattle.lx_ccode.proofs.Tails.{table_written}
use Rattle.lx_ccode.proofs.sections.append_table.Goals as goal

pub returns : goal.returns
returns c =
    table_written c.args.table.now _ _ _ _ (λ e. false≢true (c.if-is_empty.ensures ∙ eq-eqb (length c.args.table.now) 0 e))
    c.in_ok-append_number.ensures c.in_ok-append_cells.ensures c.in_ok-append_parts.ensures
