use Rattle.std.proofs.Common.{List, [], ℕ, map, Bor, ◌≡◌, ap}
use Rattle.std.specs.Prelude.{not}
use Rattle.lx_base.specs.Names.{IsNoneOf}
use Rattle.lx_base.proofs.Deciding.{IsEach, each_next, each_fails, not_decides}
use Rattle.lx_base.proofs.letters.is_none_of.Goals as goal

each : (word : List ℕ) → IsEach {A = Bor (List ℕ)} (λ other _. word ≡ other.now → ⊥) (λ others. IsNoneOf word (map (λ other. other.now) others))
each word = record { join = λ x xs p all. (p, all); head = λ x xs all. all.0; tail = λ x xs all. all.1 }

pub returns-then-equal_words : goal.returns-then-equal_words
returns-then-equal_words c =
    each_fails (each c.args.word.now) c.args.others.now c.loop-other.other-index (record { ref_ptr = (0, 0); now = [] })
    c.loop-other-test.true (not c.equal_words.result) (not_decides c.equal_words.result c.equal_words.ensures.decides)
    (ap not c.if-equal_words.true) c.loop-other.invariant

pub loop-other-preserved : goal.loop-other-preserved
loop-other-preserved c =
    each_next (each c.args.word.now) c.args.others.now c.loop-other.other-index (record { ref_ptr = (0, 0); now = [] })
    c.loop-other-test.true (not c.equal_words.result) (not_decides c.equal_words.result c.equal_words.ensures.decides)
    (ap not c.if-equal_words.false) c.loop-other.invariant
