use Rattle.std.proofs.Common.{List, [], ℕ, map, Bor}
use Rattle.lx_base.proofs.Deciding.{IsEach, each_next, each_fails}
use Rattle.lx_base.specs.Names.{EachIsFree, IsFree}
use Rattle.lx_base.proofs.names.all_free.Goals as goal

each : IsEach {A = Bor (List ℕ)} (λ word _. IsFree word.now) (λ words. EachIsFree (map (λ word. word.now) words))
each = record { join = λ x xs p all. (p, all); head = λ x xs all. all.0; tail = λ x xs all. all.1 }

pub returns-then-not-is_free : goal.returns-then-not-is_free
returns-then-not-is_free c =
    each_fails each c.args.words.now c.loop-word.word-index (record { ref_ptr = (0, 0); now = [] })
    c.loop-word-test.true c.is_free.result c.is_free.ensures c.if-not-is_free.true c.loop-word.invariant

pub loop-word-preserved : goal.loop-word-preserved
loop-word-preserved c =
    each_next each c.args.words.now c.loop-word.word-index (record { ref_ptr = (0, 0); now = [] })
    c.loop-word-test.true c.is_free.result c.is_free.ensures c.if-not-is_free.false c.loop-word.invariant
