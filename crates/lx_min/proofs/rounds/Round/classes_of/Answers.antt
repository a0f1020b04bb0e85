use Rattle.std.proofs.Common.{◌≡◌, ◌+◌, ◌++◌, ◌∷◌, [], Vec, ℕ, Global, length, refl, subst, sym, ap, ◌∙◌, arith}
use Rattle.lx_min.specs.declared.rounds.Round.{Round}
use Rattle.lx_min.specs.Joined.{class_in}
use Rattle.lx_min.specs.Signatures.{AreChosen, HasSign}
use Rattle.lx_min.proofs.Refinements.{HasCome, come-all, come-first, come-met, come-unmet}
use Rattle.lx_min.proofs.rounds.Round.classes_of.Goals as goal
use Rattle.lx_min.proofs.rounds.Round.classes_of.Goals.{then-is_met+in_ok-class_of+in_ok-push, else-is_met+in_ok-push-2}

pub loop-state-init : goal.loop-state-init
loop-state-init c =
    subst (λ classes. HasCome c.args.met.now c.args.looks.now c.args.given.now c.args.self.now classes 0) (sym c.in_ok-class.ensures.items)
    (come-first c.args.met.now c.args.looks.now c.args.given.now c.args.self.now c.requires.chosen c.requires.same c.requires.marked)

pub loop-state-preserved : goal.loop-state-preserved
loop-state-preserved c =
    let marks = c.args.met.now in
    let looks = c.args.looks.now in
    let given = c.args.given.now in
    let before = c.loop-state.self in
    let place = c.loop-state.state in
    elim c.if-is_met.branch [
      | then-is_met+in_ok-class_of+in_ok-push w ↦
          let after = w.class_of.new.self in
          let number = w.in_ok-class_of.field-0 in
          let told = w.in_ok-class_of.ensures in
          let classes = w.as_slice.ensures.value in
          let come = come-met marks looks given before after c.loop-state.class.items place number c.loop-state.invariant
          (subst (λ l. AreChosen (class_in l) looks after.signatures.keys after.chosen.items) classes told.chosen)
          (subst (λ l. HasSign (class_in l) looks after.signatures.keys number place) classes told.signed) told.takes w.if-is_met.true in
          let pushed : c.if-is_met.class.items ≡ c.loop-state.class.items ++ number ∷ [] =
          ap (λ (v : Vec ℕ Global). v.items) w.class-is ∙ w.in_ok-push.ensures.items in
          subst (λ (round : Round). HasCome marks looks given round c.if-is_met.class.items (place + 1)) (sym w.self-is)
          (subst (λ l. HasCome marks looks given after l (place + 1)) (sym pushed) come)
      | else-is_met+in_ok-push-2 w ↦
          let come = come-unmet marks looks given before c.loop-state.class.items place 0 c.loop-state.invariant
          (λ marked. absurd (cc (marked, w.if-is_met.false))) in
          let pushed : c.if-is_met.class.items ≡ c.loop-state.class.items ++ 0 ∷ [] =
          ap (λ (v : Vec ℕ Global). v.items) w.class-is ∙ w.in_ok-push-2.ensures.items in
          subst (λ (round : Round). HasCome marks looks given round c.if-is_met.class.items (place + 1)) (sym w.self-is)
          (subst (λ l. HasCome marks looks given before l (place + 1)) (sym pushed) come)
    ]

pub returns : goal.returns
returns c =
    let ends : c.loop-state.state ≡ length c.args.met.now = omega arith in
    come-all c.args.met.now c.args.looks.now c.args.given.now c.loop-state.self
    (record { class = c.loop-state.class; chosen = c.loop-state.self.chosen }) c.loop-state.state c.loop-state.invariant refl
    c.requires.fit ends
