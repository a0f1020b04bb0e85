use Rattle.std.proofs.Common.{◌<◌, length, get_or, subst, ap}
use Rattle.lx_min.specs.Joined.{class_in}
use Rattle.lx_min.specs.Rounds.{Takes}
use Rattle.lx_min.specs.Signatures.{AreChosen, HasSign}
use Rattle.lx_min.proofs.Refinements.{chosen-again}
use Rattle.lx_min.proofs.rounds.Round.of.Goals as goal

pub loop-state-preserved : goal.loop-state-preserved
loop-state-preserved c =
    let looks = c.args.looks.now in
    let given = c.args.given.now in
    let told = c.in_ok-class_of.ensures in
    let place = c.loop-state.state-index in
    let states = c.as_slice-state-items.ensures.value in
    let classes = c.as_slice.ensures.value in
    let within : place < length given.chosen.items = subst (λ l. place < length l) states c.loop-state-test.true in
    let now = ap (λ l. get_or l place 0) states in
    let are = subst (λ l. AreChosen (class_in l) looks c.class_of.new.self.signatures.keys c.class_of.new.self.chosen.items) classes
    told.chosen in
    record {
      chosen = are;
      same =
          chosen-again looks given c.requires.own c.loop-state.round c.class_of.new.self place c.in_ok-class_of.field-0 within
          c.loop-state.invariant.same are
          (subst (HasSign (class_in given.class.items) looks c.class_of.new.self.signatures.keys c.in_ok-class_of.field-0) now
          (subst (λ l. HasSign (class_in l) looks c.class_of.new.self.signatures.keys c.in_ok-class_of.field-0
          (get_or c.as_slice-state-items.result.now place 0)) classes told.signed))
          (subst (Takes c.loop-state.round c.class_of.new.self) now told.takes);
    }
