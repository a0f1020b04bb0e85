use Rattle.std.proofs.Common.{◌≡◌, ◌-◌, ◌++◌, ◌∷◌, ◌∙◌, [], List, Some, ap, length, sym, subst}
use Rattle.std.proofs.lemmas.Bool.{false≢true}
use Rattle.std.specs.Prelude.{slice_get}
use Rattle.lx_auto.specs.declared.automaton.Held.{Held}
use Rattle.lx_regs.specs.Keys.{held_of}
use Rattle.lx_regs.specs.LiveSets.{AreAscending}
use Rattle.lx_regs.specs.Liveness.{AddsUsage}
use Rattle.lx_regs.proofs.CutOperations.KeptUsages.{adds-pushed}
use Rattle.lx_regs.proofs.LiveRegisters.UsageOrder.{ascending-push}
use Rattle.lx_regs.proofs.live.Liveness.add_usage.Goals as goal

pub returns : goal.returns
returns c =
    let old = c.args.registers.now.items in
    let held = held_of c.args.usage.key in
    let pushed : c.push.new.self.items ≡ old ++ held ∷ [] =
    c.in_ok-push.ensures.items ∙ ap (λ h. old ++ h ∷ []) c.held_of-held.ensures in
    let apart : slice_get old (length old - 1) ≡ Some held → ⊥ = λ is.
    false≢true (sym c.if-ends_with.false ∙ c.ends_with.ensures.1
    (ap (λ (l : List Held). slice_get l (length l - 1)) c.deref.ensures.value ∙ is ∙ ap Some (sym c.held_of-held.ensures))) in
    record {
      adds = subst (λ (l : List Held). AddsUsage c.args.self.now.numbers.items c.args.self.now.pairs c.args.state c.args.usage old l)
          (sym pushed)
          (adds-pushed c.args.self.now.numbers.items c.args.self.now.pairs c.args.state c.args.usage old
          (c.may_be_there.ensures.0 c.if-not-may_be_there.false));
      order = subst (λ (l : List Held). AreAscending l) (sym pushed) (ascending-push old held c.requires.order c.requires.behind apart);
    }
