use Rattle.std.proofs.Common.{◌≡◌, ◌-◌, sym, ◌∙◌, ap, take, drop, length, arith}
use Rattle.std.proofs.lemmas.Grind.{common_steps}
use Rattle.std.specs.Prelude.{cond, false, true}
use Rattle.lx_base.specs.Letters.{is_history_numeral, begins_with}
use Rattle.lx_base.proofs.Deciding.{begins_with-value}
use Rattle.lx_base.proofs.names.is_history_register.Goals as goal

pub returns-then-starts_with : goal.returns-then-starts_with
returns-then-starts_with c =
    let word = c.args.word.now in
    let prefix = c.args.prefix.now in
    let begins : begins_with prefix word ≡ true = sym (begins_with-value word prefix) ∙ sym c.starts_with.ensures.value ∙ c.if-starts_with.true in
    let whole : take (length word - length prefix) (drop (length prefix) word) ≡ drop (length prefix) word = grind (arith, common_steps) in
    c.is_history_numeral.ensures ∙ ap is_history_numeral whole ∙ sym (ap (λ t. cond t (is_history_numeral (drop (length prefix) word)) false) begins)

pub returns-else-starts_with : goal.returns-else-starts_with
returns-else-starts_with c =
    let word = c.args.word.now in
    let prefix = c.args.prefix.now in
    let begins : begins_with prefix word ≡ false = sym (begins_with-value word prefix) ∙ sym c.starts_with.ensures.value ∙ c.if-starts_with.false in
    c.if-starts_with.false ∙ sym (ap (λ t. cond t (is_history_numeral (drop (length prefix) word)) false) begins)
