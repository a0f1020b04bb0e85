use Rattle.std.proofs.Common.{Some, Contains, refl, sym, ◌∙◌, subst}
use Rattle.lx_auto.specs.declared.automaton.Accept.{Accept}
use Rattle.lx_auto.specs.Effects.{target_of}
use Rattle.lx_auto.specs.Live.{AtSomePoint}
use Rattle.lx_regs.specs.Dead.{IsAcceptCut, KeepsWanted}
use Rattle.lx_regs.specs.KeptLists.{IsListed}
use Rattle.lx_regs.proofs.CutOperations.KeptOps.{KeepsWanted-alike}
use Rattle.lx_regs.proofs.dead.Source.cut_accept.Goals as goal

pub returns-in_ok-copy_of-in-Some : goal.returns-in_ok-copy_of-in-Some
returns-in_ok-copy_of-in-Some c =
    let auto = c.args.self.now.auto.now in
    let accept = c.in-Some.accept in
    let wanted = c.wanted_values-wanted.result.now in
    let kept = c.in_ok-kept_ops-in-Some.field-0 in
    let values = c.in_ok-copy_of-in-Some.field-0 in
    let other : Accept = record { rule = accept.rule; ops = kept; values = values } in
    subst (λ given. IsAcceptCut auto c.args.state given (Some other)) (sym c.in-Some.is)
    (record {
      rule = refl;
      values = c.in_ok-copy_of-in-Some.ensures ∙ c.as_slice-in-Some.ensures;
      ops =
          KeepsWanted-alike (IsListed wanted) (λ held. AtSomePoint auto c.args.state (λ point. Contains accept.values held)) accept.ops kept
          (λ op has. (c.wanted_values-wanted.ensures (target_of op)).0) (λ op has. (c.wanted_values-wanted.ensures (target_of op)).1)
          (subst (λ ops. KeepsWanted (IsListed wanted) ops kept) c.as_slice.ensures c.in_ok-kept_ops-in-Some.ensures);
    })
