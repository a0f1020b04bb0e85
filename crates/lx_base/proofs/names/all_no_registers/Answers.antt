use Rattle.std.proofs.Common.{List, [], ℕ, map, Bor}
use Rattle.lx_base.proofs.Deciding.{IsEach, each_next, each_fails}
use Rattle.lx_base.specs.Names.{EachIsNoRegister, IsNoRegister}
use Rattle.lx_base.proofs.names.all_no_registers.Goals as goal

each : (prefix : List ℕ) → IsEach {A = Bor (List ℕ)} (λ word _. IsNoRegister prefix word.now) (λ words. EachIsNoRegister prefix (map (λ word. word.now) words))
each prefix = record { join = λ x xs p all. (p, all); head = λ x xs all. all.0; tail = λ x xs all. all.1 }

pub returns-then-not-is_no_register : goal.returns-then-not-is_no_register
returns-then-not-is_no_register c =
    each_fails (each c.args.prefix.now) c.args.words.now c.loop-word.word-index (record { ref_ptr = (0, 0); now = [] })
    c.loop-word-test.true c.is_no_register.result c.is_no_register.ensures c.if-not-is_no_register.true c.loop-word.invariant

pub loop-word-preserved : goal.loop-word-preserved
loop-word-preserved c =
    each_next (each c.args.prefix.now) c.args.words.now c.loop-word.word-index (record { ref_ptr = (0, 0); now = [] })
    c.loop-word-test.true c.is_no_register.result c.is_no_register.ensures c.if-not-is_no_register.false c.loop-word.invariant
