use Rattle.std.proofs.Common.{◌∙◌, ap, [], None}
use Rattle.lx_ccode.specs.declared.piece.Stmt.TheVariants.{Count, End, Tag}
use Rattle.lx_step.specs.Steps.{machine_of}
use Rattle.lx_step.proofs.GivenLengths.{IfOk-lengths, IfOk-tag, KeepsLengths-given, names_of, numbered}
use Rattle.lx_step.proofs.Tables.{IfOk-IsStep, IfOk-IsStep-tag, IfOk-Moves, IfOk-Moves-tag, Moves-step}
use Rattle.lx_step.proofs.step.step.Goals as goal

pub returns-in-Skip-clause-step : goal.returns-in-Skip-clause-step
returns-in-Skip-clause-step c = λ stream holds. rw c.in-Skip.is (c.skip.ensures stream c.args.names.piece.now.eof c.args.names.piece.now.table c.args.names.piece.now.conds)

pub returns-in-Skip-clause-tables : goal.returns-in-Skip-clause-tables
returns-in-Skip-clause-tables c = (c.skip.ensures [] None c.args.names.piece.now.table c.args.names.piece.now.conds).tables

pub returns-in-Skip-clause-cond : goal.returns-in-Skip-clause-cond
returns-in-Skip-clause-cond c = (c.skip.ensures [] None c.args.names.piece.now.table c.args.names.piece.now.conds).cond

pub returns-in-Backup-clause-step : goal.returns-in-Backup-clause-step
returns-in-Backup-clause-step c = λ stream holds. rw c.in-Backup.is (c.backup.ensures stream c.args.names.piece.now.eof c.args.names.piece.now.table c.args.names.piece.now.conds)

pub returns-in-Backup-clause-tables : goal.returns-in-Backup-clause-tables
returns-in-Backup-clause-tables c = (c.backup.ensures [] None c.args.names.piece.now.table c.args.names.piece.now.conds).tables

pub returns-in-Backup-clause-cond : goal.returns-in-Backup-clause-cond
returns-in-Backup-clause-cond c = (c.backup.ensures [] None c.args.names.piece.now.table c.args.names.piece.now.conds).cond

pub returns-in-Restore-clause-step : goal.returns-in-Restore-clause-step
returns-in-Restore-clause-step c = λ stream holds. rw c.in-Restore.is (c.restore.ensures stream c.args.names.piece.now.eof c.args.names.piece.now.table c.args.names.piece.now.conds)

pub returns-in-Restore-clause-tables : goal.returns-in-Restore-clause-tables
returns-in-Restore-clause-tables c = (c.restore.ensures [] None c.args.names.piece.now.table c.args.names.piece.now.conds).tables

pub returns-in-Restore-clause-cond : goal.returns-in-Restore-clause-cond
returns-in-Restore-clause-cond c = (c.restore.ensures [] None c.args.names.piece.now.table c.args.names.piece.now.conds).cond

pub returns-in-Accept-clause-step : goal.returns-in-Accept-clause-step
returns-in-Accept-clause-step c = λ stream holds. rw c.in-Accept.is (c.accept.ensures stream c.args.names.piece.now.eof c.args.names.piece.now.table c.args.names.piece.now.conds)

pub returns-in-Accept-clause-tables : goal.returns-in-Accept-clause-tables
returns-in-Accept-clause-tables c = (c.accept.ensures [] None c.args.names.piece.now.table c.args.names.piece.now.conds).tables

pub returns-in-Accept-clause-cond : goal.returns-in-Accept-clause-cond
returns-in-Accept-clause-cond c = (c.accept.ensures [] None c.args.names.piece.now.table c.args.names.piece.now.conds).cond

pub returns-in-Set-clause-step : goal.returns-in-Set-clause-step
returns-in-Set-clause-step c = λ stream holds. rw c.in-Set.is (c.set.ensures stream c.args.names.piece.now.eof c.args.names.piece.now.table c.args.names.piece.now.conds)

pub returns-in-Set-clause-tables : goal.returns-in-Set-clause-tables
returns-in-Set-clause-tables c = (c.set.ensures [] None c.args.names.piece.now.table c.args.names.piece.now.conds).tables

pub returns-in-Set-clause-cond : goal.returns-in-Set-clause-cond
returns-in-Set-clause-cond c = (c.set.ensures [] None c.args.names.piece.now.table c.args.names.piece.now.conds).cond

pub returns-in-Unset-clause-step : goal.returns-in-Unset-clause-step
returns-in-Unset-clause-step c = λ stream holds. rw c.in-Unset.is (c.unset.ensures stream c.args.names.piece.now.eof c.args.names.piece.now.table c.args.names.piece.now.conds)

pub returns-in-Unset-clause-tables : goal.returns-in-Unset-clause-tables
returns-in-Unset-clause-tables c = (c.unset.ensures [] None c.args.names.piece.now.table c.args.names.piece.now.conds).tables

pub returns-in-Unset-clause-cond : goal.returns-in-Unset-clause-cond
returns-in-Unset-clause-cond c = (c.unset.ensures [] None c.args.names.piece.now.table c.args.names.piece.now.conds).cond

pub returns-in-Copy-clause-step : goal.returns-in-Copy-clause-step
returns-in-Copy-clause-step c = λ stream holds. rw c.in-Copy.is (c.copy.ensures stream c.args.names.piece.now.eof c.args.names.piece.now.table c.args.names.piece.now.conds)

pub returns-in-Copy-clause-tables : goal.returns-in-Copy-clause-tables
returns-in-Copy-clause-tables c = (c.copy.ensures [] None c.args.names.piece.now.table c.args.names.piece.now.conds).tables

pub returns-in-Copy-clause-cond : goal.returns-in-Copy-clause-cond
returns-in-Copy-clause-cond c = (c.copy.ensures [] None c.args.names.piece.now.table c.args.names.piece.now.conds).cond

pub returns-in-MCopy-clause-step : goal.returns-in-MCopy-clause-step
returns-in-MCopy-clause-step c = λ stream holds. rw c.in-MCopy.is (c.copy_history.ensures stream c.args.names.piece.now.eof c.args.names.piece.now.table c.args.names.piece.now.conds)

pub returns-in-MCopy-clause-tables : goal.returns-in-MCopy-clause-tables
returns-in-MCopy-clause-tables c = (c.copy_history.ensures [] None c.args.names.piece.now.table c.args.names.piece.now.conds).tables

pub returns-in-MCopy-clause-cond : goal.returns-in-MCopy-clause-cond
returns-in-MCopy-clause-cond c = (c.copy_history.ensures [] None c.args.names.piece.now.table c.args.names.piece.now.conds).cond

pub returns-in-State-clause-step : goal.returns-in-State-clause-step
returns-in-State-clause-step c = λ stream holds. rw c.in-State.is (c.state.ensures stream c.args.names.piece.now.eof c.args.names.piece.now.table c.args.names.piece.now.conds)

pub returns-in-State-clause-tables : goal.returns-in-State-clause-tables
returns-in-State-clause-tables c = (c.state.ensures [] None c.args.names.piece.now.table c.args.names.piece.now.conds).tables

pub returns-in-State-clause-cond : goal.returns-in-State-clause-cond
returns-in-State-clause-cond c = (c.state.ensures [] None c.args.names.piece.now.table c.args.names.piece.now.conds).cond

pub returns-in-Back-clause-step : goal.returns-in-Back-clause-step
returns-in-Back-clause-step c = λ stream holds. rw c.in-Back.is (c.back.ensures stream c.args.names.piece.now.eof c.args.names.piece.now.table c.args.names.piece.now.conds)

pub returns-in-Back-clause-tables : goal.returns-in-Back-clause-tables
returns-in-Back-clause-tables c = (c.back.ensures [] None c.args.names.piece.now.table c.args.names.piece.now.conds).tables

pub returns-in-Back-clause-cond : goal.returns-in-Back-clause-cond
returns-in-Back-clause-cond c = (c.back.ensures [] None c.args.names.piece.now.table c.args.names.piece.now.conds).cond

pub returns-in-IfUnit-clause-step : goal.returns-in-IfUnit-clause-step
returns-in-IfUnit-clause-step c = λ stream holds. rw c.in-IfUnit.is (c.if_unit.ensures stream c.args.names.piece.now.eof c.args.names.piece.now.table c.args.names.piece.now.conds)

pub returns-in-IfIs-clause-step : goal.returns-in-IfIs-clause-step
returns-in-IfIs-clause-step c = λ stream holds. rw c.in-IfIs.is (c.if_is.ensures stream c.args.names.piece.now.eof c.args.names.piece.now.table c.args.names.piece.now.conds)

pub returns-in-IfSet-clause-step : goal.returns-in-IfSet-clause-step
returns-in-IfSet-clause-step c = λ stream holds. rw c.in-IfSet.is (rw c.as_slice.ensures at (c.if_set.ensures stream c.args.names.piece.now.eof c.args.names.piece.now.conds))

pub returns-in-Switch-clause-step : goal.returns-in-Switch-clause-step
returns-in-Switch-clause-step c = λ stream holds. rw c.in-Switch.is (rw c.as_slice-in-Switch.ensures at (c.switch.ensures stream c.args.names.piece.now.eof c.args.names.piece.now.table c.args.names.piece.now.conds))

pub returns-in-IfAccept-clause-step : goal.returns-in-IfAccept-clause-step
returns-in-IfAccept-clause-step c = λ stream holds. rw c.in-IfAccept.is (c.if_accept.ensures stream c.args.names.piece.now.eof c.args.names.piece.now.table c.args.names.piece.now.conds)

pub returns-in-IfEnd-clause-step : goal.returns-in-IfEnd-clause-step
returns-in-IfEnd-clause-step c = λ stream holds. rw c.in-IfEnd.is (c.if_end.ensures stream c.args.names.piece.now.eof c.args.names.piece.now.table c.args.names.piece.now.conds)

pub returns-in-Cond-clause-step : goal.returns-in-Cond-clause-step
returns-in-Cond-clause-step c = λ stream holds. rw c.in-Cond.is (rw c.as_slice-in-Cond.ensures at (c.set_cond.ensures stream c.args.names.piece.now.eof c.args.names.piece.now.table))

pub returns-in-MSet-clause-step : goal.returns-in-MSet-clause-step
returns-in-MSet-clause-step c = IfOk-IsStep _ _ _ _ _ _ _ _ _ c.in-MSet.is c.append.ensures.step

pub returns-in-MUnset-clause-step : goal.returns-in-MUnset-clause-step
returns-in-MUnset-clause-step c = IfOk-IsStep _ _ _ _ _ _ _ _ _ c.in-MUnset.is c.append_none.ensures.step

pub returns-in-Peek-clause-step : goal.returns-in-Peek-clause-step
returns-in-Peek-clause-step c = λ stream holds. rw c.in-Peek.is (c.peek.ensures.step stream c.args.names.piece.now.table c.args.names.piece.now.conds holds)

pub returns-in-Peek-clause-moves : goal.returns-in-Peek-clause-moves
returns-in-Peek-clause-moves c = rw c.in-Peek.is (c.peek.ensures.moves c.args.names.piece.now.table c.args.names.piece.now.conds)

pub returns-in-Peek-clause-tables : goal.returns-in-Peek-clause-tables
returns-in-Peek-clause-tables c = (c.peek.ensures.moves c.args.names.piece.now.table c.args.names.piece.now.conds).tables

pub returns-in-Peek-clause-cond : goal.returns-in-Peek-clause-cond
returns-in-Peek-clause-cond c = (c.peek.ensures.moves c.args.names.piece.now.table c.args.names.piece.now.conds).cond

pub returns-in-Cond-clause-tables : goal.returns-in-Cond-clause-tables
returns-in-Cond-clause-tables c = (c.set_cond.ensures [] None c.args.names.piece.now.table).tables

pub returns-in-Cond-clause-cond : goal.returns-in-Cond-clause-cond
returns-in-Cond-clause-cond c = rw c.as_slice-in-Cond.ensures at (c.set_cond.ensures [] None c.args.names.piece.now.table).cond

pub returns-in-Count-clause-step : goal.returns-in-Count-clause-step
returns-in-Count-clause-step c = λ stream holds. rw c.in-Count.is (c.count.ensures.step stream c.args.names.piece.now.eof c.args.names.piece.now.table c.args.names.piece.now.conds)

pub returns-in-Count-clause-given : goal.returns-in-Count-clause-given
returns-in-Count-clause-given c = rw c.in-Count.is (c.count.ensures.given c.args.names.piece.now.conds (names_of c.args.names.piece.now))

pub returns-in-Count-clause-lengths : goal.returns-in-Count-clause-lengths
returns-in-Count-clause-lengths c = KeepsLengths-given (names_of c.args.names.piece.now) (Count c.in-Count.groups) (machine_of c.args.names.piece.now.conds c.args.scanner.now []) _ _ (c.count.ensures.given c.args.names.piece.now.conds (names_of c.args.names.piece.now))

pub returns-in-End-clause-step : goal.returns-in-End-clause-step
returns-in-End-clause-step c = λ stream holds. rw c.in-End.is (c.set_end.ensures.step stream c.args.names.piece.now.eof c.args.names.piece.now.table c.args.names.piece.now.conds)

pub returns-in-End-clause-given : goal.returns-in-End-clause-given
returns-in-End-clause-given c = rw c.in-End.is (c.set_end.ensures.given c.args.names.piece.now.conds (names_of c.args.names.piece.now))

pub returns-in-End-clause-lengths : goal.returns-in-End-clause-lengths
returns-in-End-clause-lengths c = KeepsLengths-given (names_of c.args.names.piece.now) (End c.in-End.place c.in-End.register) (machine_of c.args.names.piece.now.conds c.args.scanner.now []) _ _ (c.set_end.ensures.given c.args.names.piece.now.conds (names_of c.args.names.piece.now))

pub returns-then-is_history-clause-step : goal.returns-then-is_history-clause-step
returns-then-is_history-clause-step c =
    IfOk-IsStep-tag _ c.args.names.piece.now.eof c.args.names.piece.now.table c.args.names.piece.now.conds _ _ _ _ _ (c.in-Tag.is ∙ ap (λ flag. Tag c.in-Tag.name flag c.in-Tag.place) c.if-is_history.true) c.give_history.ensures.step

pub returns-then-is_history-clause-given : goal.returns-then-is_history-clause-given
returns-then-is_history-clause-given c =
    IfOk-tag c.args.names.piece.now _ _ _ _ _ _ _ _ _ c.in-Tag.is c.if-is_history.true
    (numbered c.args.names.piece.now _ _ _ _ _ c.requires.tags.listed.named c.as_slice-blocks.ensures c.as_slice-in-Tag.ensures c.number_of-number.ensures.number) c.give_history.ensures.given

pub returns-then-is_history-clause-lengths : goal.returns-then-is_history-clause-lengths
returns-then-is_history-clause-lengths c =
    IfOk-lengths (names_of c.args.names.piece.now) c.args.stmt.now (machine_of c.args.names.piece.now.conds c.args.scanner.now []) _ _ _ (returns-then-is_history-clause-given c) c.give_history.ensures.kept

pub returns-else-is_history-clause-step : goal.returns-else-is_history-clause-step
returns-else-is_history-clause-step c = λ stream holds. rw (c.in-Tag.is, c.if-is_history.false) (c.give_offset.ensures.step stream c.args.names.piece.now.eof c.args.names.piece.now.table c.args.names.piece.now.conds c.in-Tag.name)

pub returns-else-is_history-clause-given : goal.returns-else-is_history-clause-given
returns-else-is_history-clause-given c = rw (c.in-Tag.is, c.if-is_history.false) (c.give_offset.ensures.given c.args.names.piece.now.conds (names_of c.args.names.piece.now) c.in-Tag.name
    (numbered c.args.names.piece.now _ _ _ _ _ c.requires.tags.listed.named c.as_slice-blocks.ensures c.as_slice-in-Tag.ensures c.number_of-number.ensures.number))

pub returns-else-is_history-clause-lengths : goal.returns-else-is_history-clause-lengths
returns-else-is_history-clause-lengths c = KeepsLengths-given (names_of c.args.names.piece.now) c.args.stmt.now (machine_of c.args.names.piece.now.conds c.args.scanner.now []) _ _ (returns-else-is_history-clause-given c)

pub returns-in-Skip-clause-moves : goal.returns-in-Skip-clause-moves
returns-in-Skip-clause-moves c = rw c.in-Skip.is (Moves-step [] None c.args.names.piece.now.table c.args.names.piece.now.conds _ _ _ _ (c.skip.ensures [] None c.args.names.piece.now.table c.args.names.piece.now.conds))

pub returns-in-Backup-clause-moves : goal.returns-in-Backup-clause-moves
returns-in-Backup-clause-moves c = rw c.in-Backup.is (Moves-step [] None c.args.names.piece.now.table c.args.names.piece.now.conds _ _ _ _ (c.backup.ensures [] None c.args.names.piece.now.table c.args.names.piece.now.conds))

pub returns-in-Restore-clause-moves : goal.returns-in-Restore-clause-moves
returns-in-Restore-clause-moves c = rw c.in-Restore.is (Moves-step [] None c.args.names.piece.now.table c.args.names.piece.now.conds _ _ _ _ (c.restore.ensures [] None c.args.names.piece.now.table c.args.names.piece.now.conds))

pub returns-in-Accept-clause-moves : goal.returns-in-Accept-clause-moves
returns-in-Accept-clause-moves c = rw c.in-Accept.is (Moves-step [] None c.args.names.piece.now.table c.args.names.piece.now.conds _ _ _ _ (c.accept.ensures [] None c.args.names.piece.now.table c.args.names.piece.now.conds))

pub returns-in-Set-clause-moves : goal.returns-in-Set-clause-moves
returns-in-Set-clause-moves c = rw c.in-Set.is (Moves-step [] None c.args.names.piece.now.table c.args.names.piece.now.conds _ _ _ _ (c.set.ensures [] None c.args.names.piece.now.table c.args.names.piece.now.conds))

pub returns-in-Unset-clause-moves : goal.returns-in-Unset-clause-moves
returns-in-Unset-clause-moves c = rw c.in-Unset.is (Moves-step [] None c.args.names.piece.now.table c.args.names.piece.now.conds _ _ _ _ (c.unset.ensures [] None c.args.names.piece.now.table c.args.names.piece.now.conds))

pub returns-in-Copy-clause-moves : goal.returns-in-Copy-clause-moves
returns-in-Copy-clause-moves c = rw c.in-Copy.is (Moves-step [] None c.args.names.piece.now.table c.args.names.piece.now.conds _ _ _ _ (c.copy.ensures [] None c.args.names.piece.now.table c.args.names.piece.now.conds))

pub returns-in-MCopy-clause-moves : goal.returns-in-MCopy-clause-moves
returns-in-MCopy-clause-moves c = rw c.in-MCopy.is (Moves-step [] None c.args.names.piece.now.table c.args.names.piece.now.conds _ _ _ _ (c.copy_history.ensures [] None c.args.names.piece.now.table c.args.names.piece.now.conds))

pub returns-in-State-clause-moves : goal.returns-in-State-clause-moves
returns-in-State-clause-moves c = rw c.in-State.is (Moves-step [] None c.args.names.piece.now.table c.args.names.piece.now.conds _ _ _ _ (c.state.ensures [] None c.args.names.piece.now.table c.args.names.piece.now.conds))

pub returns-in-Back-clause-moves : goal.returns-in-Back-clause-moves
returns-in-Back-clause-moves c = rw c.in-Back.is (Moves-step [] None c.args.names.piece.now.table c.args.names.piece.now.conds _ _ _ _ (c.back.ensures [] None c.args.names.piece.now.table c.args.names.piece.now.conds))

pub returns-in-IfUnit-clause-moves : goal.returns-in-IfUnit-clause-moves
returns-in-IfUnit-clause-moves c = rw c.in-IfUnit.is (Moves-step [] None c.args.names.piece.now.table c.args.names.piece.now.conds _ _ _ _ (c.if_unit.ensures [] None c.args.names.piece.now.table c.args.names.piece.now.conds))

pub returns-in-IfIs-clause-moves : goal.returns-in-IfIs-clause-moves
returns-in-IfIs-clause-moves c = rw c.in-IfIs.is (Moves-step [] None c.args.names.piece.now.table c.args.names.piece.now.conds _ _ _ _ (c.if_is.ensures [] None c.args.names.piece.now.table c.args.names.piece.now.conds))

pub returns-in-IfSet-clause-moves : goal.returns-in-IfSet-clause-moves
returns-in-IfSet-clause-moves c = rw c.in-IfSet.is (Moves-step [] None c.args.names.piece.now.table c.args.names.piece.now.conds _ _ _ _ (rw c.as_slice.ensures at (c.if_set.ensures [] None c.args.names.piece.now.conds)))

pub returns-in-Switch-clause-moves : goal.returns-in-Switch-clause-moves
returns-in-Switch-clause-moves c = rw c.in-Switch.is (Moves-step [] None c.args.names.piece.now.table c.args.names.piece.now.conds _ _ _ _ (rw c.as_slice-in-Switch.ensures at (c.switch.ensures [] None c.args.names.piece.now.table c.args.names.piece.now.conds)))

pub returns-in-IfAccept-clause-moves : goal.returns-in-IfAccept-clause-moves
returns-in-IfAccept-clause-moves c = rw c.in-IfAccept.is (Moves-step [] None c.args.names.piece.now.table c.args.names.piece.now.conds _ _ _ _ (c.if_accept.ensures [] None c.args.names.piece.now.table c.args.names.piece.now.conds))

pub returns-in-IfEnd-clause-moves : goal.returns-in-IfEnd-clause-moves
returns-in-IfEnd-clause-moves c = rw c.in-IfEnd.is (Moves-step [] None c.args.names.piece.now.table c.args.names.piece.now.conds _ _ _ _ (c.if_end.ensures [] None c.args.names.piece.now.table c.args.names.piece.now.conds))

pub returns-in-Count-clause-moves : goal.returns-in-Count-clause-moves
returns-in-Count-clause-moves c = rw c.in-Count.is (Moves-step [] None c.args.names.piece.now.table c.args.names.piece.now.conds _ _ _ _ (c.count.ensures.step [] None c.args.names.piece.now.table c.args.names.piece.now.conds))

pub returns-in-End-clause-moves : goal.returns-in-End-clause-moves
returns-in-End-clause-moves c = rw c.in-End.is (Moves-step [] None c.args.names.piece.now.table c.args.names.piece.now.conds _ _ _ _ (c.set_end.ensures.step [] None c.args.names.piece.now.table c.args.names.piece.now.conds))

pub returns-in-Cond-clause-moves : goal.returns-in-Cond-clause-moves
returns-in-Cond-clause-moves c = rw c.in-Cond.is (rw c.as_slice-in-Cond.ensures at (Moves-step [] None c.args.names.piece.now.table _ _ _ _ _ (c.set_cond.ensures [] None c.args.names.piece.now.table)))

pub returns-in-MSet-clause-moves : goal.returns-in-MSet-clause-moves
returns-in-MSet-clause-moves c = IfOk-Moves _ c.args.names.piece.now.table c.args.names.piece.now.conds _ _ _ _ c.in-MSet.is c.append.ensures.step

pub returns-in-MUnset-clause-moves : goal.returns-in-MUnset-clause-moves
returns-in-MUnset-clause-moves c = IfOk-Moves _ c.args.names.piece.now.table c.args.names.piece.now.conds _ _ _ _ c.in-MUnset.is c.append_none.ensures.step

pub returns-then-is_history-clause-moves : goal.returns-then-is_history-clause-moves
returns-then-is_history-clause-moves c =
    IfOk-Moves-tag _ c.args.names.piece.now.table c.args.names.piece.now.conds _ _ _ _ (c.in-Tag.is ∙ ap (λ flag. Tag c.in-Tag.name flag c.in-Tag.place) c.if-is_history.true) c.give_history.ensures.step

pub returns-else-is_history-clause-moves : goal.returns-else-is_history-clause-moves
returns-else-is_history-clause-moves c = rw (c.in-Tag.is, c.if-is_history.false) (Moves-step [] None c.args.names.piece.now.table c.args.names.piece.now.conds _ _ _ _ (c.give_offset.ensures.step [] None c.args.names.piece.now.table c.args.names.piece.now.conds c.in-Tag.name))
