use Rattle.std.proofs.Common.{ap, arith, ◌∙◌, ◌++◌, [], List, ℕ}
use Rattle.lx_base.specs.Text.{joined}
use Rattle.lx_top.proofs.SourceLemmas.{HasWords-all, HasWords-more, HasWords-none, word_parts}
use Rattle.lx_top.proofs.source.words_of.Goals as goal

pub loop-number-init : goal.loop-number-init
loop-number-init c = HasWords-none c.args.rules _ c.new-text.ensures.items

pub loop-number-preserved : goal.loop-number-preserved
loop-number-preserved c =
    HasWords-more c.args.rules c.loop-number.number-counter c.loop-number.text.items c.append_parts.new.text.items c.loop-number.invariant
    (c.in_ok-append_parts.ensures
    ∙ ap (λ (digits : List ℕ). c.loop-number.text.items ++ joined (word_parts digits) []) (c.as_bytes.ensures.value ∙ c.in_ok-number.ensures.ok))

pub returns : goal.returns
returns c = HasWords-all c.args.rules c.loop-number.number-counter c.loop-number.text.items c.loop-number.invariant (omega arith)
