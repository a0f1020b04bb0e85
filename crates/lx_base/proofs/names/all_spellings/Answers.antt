use Rattle.std.proofs.Common.{List, [], ℕ, map, Bor}
use Rattle.lx_base.proofs.Deciding.{IsEach, each_next, each_fails}
use Rattle.std.specs.List.{AllByRecursion}
use Rattle.lx_base.specs.Letters.{IsSpelling}
use Rattle.lx_base.proofs.names.all_spellings.Goals as goal

each : IsEach {A = Bor (List ℕ)} (λ word _. IsSpelling word.now) (λ words. AllByRecursion IsSpelling (map (λ word. word.now) words))
each = record { join = λ x xs p all. (p, all); head = λ x xs all. all.0; tail = λ x xs all. all.1 }

pub returns-then-not-is_spelling : goal.returns-then-not-is_spelling
returns-then-not-is_spelling c =
    each_fails each c.args.words.now c.loop-word.word-index (record { ref_ptr = (0, 0); now = [] })
    c.loop-word-test.true c.is_spelling.result c.is_spelling.ensures c.if-not-is_spelling.true c.loop-word.invariant

pub loop-word-preserved : goal.loop-word-preserved
loop-word-preserved c =
    each_next each c.args.words.now c.loop-word.word-index (record { ref_ptr = (0, 0); now = [] })
    c.loop-word-test.true c.is_spelling.result c.is_spelling.ensures c.if-not-is_spelling.false c.loop-word.invariant
