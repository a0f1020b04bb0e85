use Rattle.std.proofs.Common.{◌∙◌, refl}
use Rattle.lx_split.proofs.walk.Walk.open_file.Goals as goal

pub returns : goal.returns
returns c = record {
  file = record { rest = c.from_vec.result; folder = c.from_string.result; leave = c.args.leave };
  stack = c.in_ok-push.ensures.items;
  folder = c.from_string.ensures ∙ c.in_ok-folder.ensures.ok ∙ c.folder_of.ensures;
  waits = c.from_vec.ensures.items ∙ c.into_vec.ensures;
  leaves = refl;
  before_it = refl;
  total = refl;
}
