use Rattle.std.proofs.Common.{◌≡◌, ◌∙◌, ◌++◌, ◌∷◌, [], Bool, true, false, ◌+◌, ap, sym, arith, append-nil}
use Rattle.std.specs.Prelude.{if◌then◌else◌, ◌&&◌, ◌==◌, not}
use Rattle.lx_compile.specs.Facts.{last_register}
use Rattle.lx_compile.specs.Making.{seen_pieces}
use Rattle.lx_compile.proofs.ListedRegisters.{listed_to, listed_to-more}
use Rattle.lx_compile.proofs.facts.registers_of.Goals.{then-is_listed+in_ok-push, else-is_listed}
use Rattle.lx_compile.proofs.facts.registers_of.Goals as goal

pub loop-before-preserved : goal.loop-before-preserved
loop-before-preserved c =
    let alone = c.is_marker_alone-is_alone.result in
    let before = c.loop-before.before in
    let register = before + 1 in
    let registers = c.loop-before.registers in
    let choice : (test : Bool) → test ≡ c.is_listed.result → registers ++ (if test then register ∷ [] else [])
    ≡ registers ++ (if not (alone && (register == 1)) then register ∷ [] else []) =
    λ test is. ap (λ (t : Bool). registers ++ (if t then register ∷ [] else [])) (is ∙ c.is_listed.ensures) in
    let more : c.if-is_listed.registers ≡ registers ++ (if not (alone && (register == 1)) then register ∷ [] else []) =
    elim c.if-is_listed.branch [
      | then-is_listed+in_ok-push w ↦ w.registers-is ∙ w.in_ok-push.ensures.pushed ∙ choice true (sym w.if-is_listed.true)
      | else-is_listed w ↦ w.registers-is ∙ sym (append-nil registers) ∙ choice false (sym w.if-is_listed.false)
    ] in
    listed_to-more alone before register registers c.if-is_listed.registers (omega arith) c.loop-before.invariant more

pub returns : goal.returns
returns c =
    let ended : c.loop-before.before ≡ c.last_register-before-end.result =
    omega (arith, c.loop-before.auto.before-end, c.loop-before-test.false) in
    c.loop-before.invariant ∙ ap (listed_to c.is_marker_alone-is_alone.result) (ended ∙ c.last_register-before-end.ensures)
    ∙ ap (λ alone. listed_to alone (last_register (seen_pieces c.args.pieces.now))) c.is_marker_alone-is_alone.ensures
