use Rattle.std.proofs.Common.{ap, arith, ◌∙◌, ◌++◌, [], List, ℕ}
use Rattle.std.specs.Prelude.{codes}
use Rattle.lx_base.specs.Text.{joined}
use Rattle.lx_top.proofs.SourceLemmas.{HasRules-all, HasRules-more, HasRules-none, rule_parts}
use Rattle.lx_top.proofs.source.source_text.Goals as goal

pub loop-number-init : goal.loop-number-init
loop-number-init c =
    HasRules-none c.args.rules _
    (c.in_ok-extend_from_slice.ensures.items ∙ ap (λ (l : List ℕ). l ++ codes "/*!re2c\nre2c:yyfill:enable = 0;\n") c.new-text.ensures.items)

pub loop-number-preserved : goal.loop-number-preserved
loop-number-preserved c =
    HasRules-more c.args.rules c.loop-number.number-counter c.loop-number.text.items c.append_parts.new.text.items c.loop-number.invariant
    (c.in_ok-append_parts.ensures
    ∙ ap (λ (digits : List ℕ). c.loop-number.text.items ++ joined (rule_parts digits) []) (c.as_bytes.ensures.value ∙ c.in_ok-number.ensures.ok))

pub returns : goal.returns
returns c =
    c.in_ok-extend_from_slice-2.ensures.items
    ∙ HasRules-all c.args.rules c.loop-number.number-counter c.loop-number.text.items c.loop-number.invariant (omega arith)
