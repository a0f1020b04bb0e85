use Rattle.std.proofs.Common.{◌≡◌, ◌∷◌, [], ◌++◌, true, if◌then◌else◌, nat_eq, sym, subst}
use Rattle.lx_regs.specs.Unset.{IsKept, is_unset}
use Rattle.lx_regs.proofs.NeedlessNulls.KeptLists.{IsKept-goes, IsKept-written}
use Rattle.lx_regs.proofs.unset.keep_write.Goals as goal

pub returns-then-is_needless : goal.returns-then-is_needless
returns-then-is_needless c = λ ops is.
    let both = c.is_needless.ensures c.if-is_needless.true in
    IsKept-goes c.args.before.now c.args.kept.now.unset.items ops c.args.kept.now.ops is c.args.op c.args.target c.requires both.0 both.1

pub returns : goal.returns
returns c = λ ops is.
    let before = c.args.before.now in
    let behind = c.args.kept.now.unset.items in
    let after = c.note.new.row.items in
    subst (IsKept before after (ops ++ c.args.op ∷ [])) (sym c.in_ok-push.ensures.pushed)
    (IsKept-written before behind ops c.args.kept.now.ops is c.args.op c.args.target c.requires after
    (λ reg yes.
    subst (λ empty. (if nat_eq reg c.args.target then empty else is_unset behind reg) ≡ true) c.empties.ensures
    (c.note.ensures reg yes)))
