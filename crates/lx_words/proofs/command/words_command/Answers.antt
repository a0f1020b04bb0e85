use Rattle.std.proofs.Common.{◌∙◌, ap}
use Rattle.std.proofs.lemmas.Result.{IfOk-weaker}
use Rattle.lx_words.specs.Command.{file_options, flag_options, value_options, with_options}
use Rattle.lx_words.proofs.command.words_command.Goals as goal

pub returns : goal.returns
returns c = IfOk-weaker c.with_options-3.result _ _
    (λ command is. is ∙ ap (with_options value_options)
    (c.in_ok-command-2.ensures ∙ ap (with_options flag_options)
    (c.in_ok-command.ensures ∙ ap (with_options file_options) c.bare_command.ensures))) c.with_options-3.ensures
