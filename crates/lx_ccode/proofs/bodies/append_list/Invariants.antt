use Rattle.std.proofs.Common.{◌≡◌, ◌++◌, drop, map}
use Rattle.lx_ccode.specs.Registers.{variable_text}
use Rattle.lx_ccode.proofs.BodyTails.{behind_separators, filled_all}
use Rattle.lx_ccode.proofs.bodies.append_list.Given as goal

abbrev pub invariant-loop-number : goal.invariant-loop-number
invariant-loop-number l =
    l.text.items ++ behind_separators l.format.separator (filled_all l.format (map (variable_text l.names l.history) (drop l.number-index l.others)))
    ≡ l.initial.text.items ++ behind_separators l.format.separator (filled_all l.format (map (variable_text l.names l.history) l.others))
