use Rattle.std.proofs.Common.{◌≡◌, ◌++◌, take, drop, length}
use Rattle.lx_regex.specs.Script.{put_tag}
use Rattle.lx_tnfa.proofs.tags.put_tag.Given as goal

abbrev pub invariant-loop-place : goal.invariant-loop-place
invariant-loop-place l = record {
  same : l.list.items ≡ l.fn.list.items;
  so : put_tag l.number l.list.items ≡ take l.place l.list.items ++ put_tag l.number (drop l.place l.list.items);
  end : l.place-end ≡ length l.list.items;
}
