-- What the command line asks for.
use Rattle.std.specs.Prelude.{◌&&◌, ℕ, Bool, true, false, List, codes, unwrap_or}
use Rattle.lx_base.specs.declared.settings.Job.{Job}
use Rattle.lx_base.specs.declared.settings.Job.TheVariants.{Compile}
use Rattle.lx_base.specs.declared.settings.Options.{Options}
use Rattle.lx_ccode.specs.Heads.{is_format_three}
use Rattle.lx_regex.specs.Order.{Policy, greedy, posix}

-- which trees of rules are meant: the best ones under the POSIX order where its captures are asked for, and else the leftmost greedy ones
abbrev pub policy_where : (posix : Bool) → Policy
policy_where true = posix
policy_where false = greedy

abbrev pub policy_of : Options → Policy
policy_of options = policy_where options.posix

-- the name of the output, as its lines tell it: that of its file, or `<stdout>`
abbrev pub name_by : Job → List ℕ
name_by (Compile file to) = unwrap_or to (codes "<stdout>")
name_by job = codes "<stdout>"

abbrev pub out_name : Options → List ℕ
out_name options = name_by options.job

-- the output is named in its own text, by `#line`: in text of format 3, where lines are told
abbrev pub names_output : Options → Bool
names_output options = is_format_three options.format && options.lines

-- warnings are asked for
abbrev pub tells_warnings : Options → Bool
tells_warnings options = options.warn

-- covering words are asked for
abbrev pub asks_for_cover : Options → Bool
asks_for_cover options = options.cover
