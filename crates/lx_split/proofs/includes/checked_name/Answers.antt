use Rattle.std.proofs.Common.{sym, ◌∙◌, ap}
use Rattle.std.specs.Option.{option_copied}
use Rattle.lx_split.proofs.IncludeTexts.{checked_name-read}
use Rattle.lx_split.proofs.includes.checked_name.Goals as goal

pub returns : goal.returns
returns c =
    ap option_copied c.ok.ensures.value
    ∙ checked_name-read c.args.quoted.now _ c.from_utf8.result (sym c.if-not-is_allowed.ensures) c.from_utf8.ensures.cases
