use Rattle.std.proofs.Common.{◌≡◌, ◌<◌, ◌≤◌, ◌∙◌, ℕ, List, sym, subst, arith}
use Rattle.std.proofs.lemmas.Bool.Decides.{nat_tests, same_from_decides}
use Rattle.lx_base.specs.Allowed.{is_identifier, is_spelling, may_spell}
use Rattle.lx_base.proofs.Allowed.{is_identifier-decides, is_spelling-decides, is_words-decides}
use Rattle.lx_rules.proofs.configurations.may_spell.Goals as goal

spelling_place : (place : ℕ) (word : List ℕ) → 1 ≤ place → place ≤ 11 → may_spell place word ≡ is_spelling word
spelling_place place word low high = grind (arith, nat_tests)

identifier_place : (place : ℕ) (word : List ℕ) → 11 < place → may_spell place word ≡ is_identifier word
identifier_place place word low = grind (arith, nat_tests)

pub returns-in-0 : goal.returns-in-0
returns-in-0 c =
    subst (λ place. c.is_words.result ≡ may_spell place c.args.word.now) (sym c.in-0.is)
    (same_from_decides c.is_words.result _ c.is_words.ensures (is_words-decides _ c.args.word.now))

pub returns-in-1-to-11 : goal.returns-in-1-to-11
returns-in-1-to-11 c =
    same_from_decides c.is_spelling.result (is_spelling c.args.word.now) c.is_spelling.ensures (is_spelling-decides c.args.word.now)
    ∙ sym (spelling_place c.args.place c.args.word.now (omega arith) (omega arith))

pub returns-in_default : goal.returns-in_default
returns-in_default c =
    same_from_decides c.is_identifier.result (is_identifier c.args.word.now) c.is_identifier.ensures (is_identifier-decides c.args.word.now)
    ∙ sym (identifier_place c.args.place c.args.word.now (omega arith))
