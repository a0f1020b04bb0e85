use Rattle.std.proofs.Common.{◌≡◌, map, option_map, drop}
use Rattle.clap.specs.Words.{app_of}
use Rattle.lx_words.specs.Command.{option_rule, with_options}
use Rattle.lx_words.proofs.command.with_options.Given as goal

abbrev pub invariant-loop-id : goal.invariant-loop-id
invariant-loop-id l =
    with_options (map (λ row. option_rule row.0.now row.1 (option_map (λ name. name.now) row.2) l.action) (drop l.id-index l.options)) (app_of l.command)
    ≡ with_options (map (λ row. option_rule row.0.now row.1 (option_map (λ name. name.now) row.2) l.action) l.options) (app_of l.initial.command)
