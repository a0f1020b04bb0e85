-- Whether a list is new is told, and it stands at the index that is returned.
use Rattle.std.proofs.Common.{subst}
use Rattle.std.specs.Bool.{MatchBool}
use Rattle.std.specs.Prelude.{Contains}
use Rattle.lx_tdfa.proofs.Loops.ListSets.{put_told, stored_list}
use Rattle.lx_tdfa.proofs.lists.Lists.put.Goals as goal

pub returns-clause-told : goal.returns-clause-told
returns-clause-told g c = λ tells.
    let told = c.in_ok-put.ensures in (
      subst (λ lists. MatchBool c.in_ok-put.put.1 (¬ Contains lists c.args.list.items) (Contains lists c.args.list.items)) c.self.view_is
          (put_told _ c.self.inside.lists.keys c.insert_full.new.self.keys c.args.list c.in_ok-put.put.1 told.added told.keys tells),
      stored_list _ tells c.insert_full.new.self.keys c.args.list.items c.in_ok-put.put.0 told.stored,
    )
