use Rattle.std.proofs.Common.{rules, refl}
use Rattle.lx_split.proofs.Walks.{WalksOn-piece, WalksOn-trans}
use Rattle.lx_split.proofs.walk.Walk.next_include.Goals as goal

pub loop-file-preserved : goal.loop-file-preserved
loop-file-preserved c =
    WalksOn-trans c.args.self.now c.loop-file.self c.push-in-Err.new.self c.loop-file.invariant
    (WalksOn-piece c.loop-file.self c.push-in-Err.new.self c.pop.new.self.items c.in-Some.file (search rules) (search rules)
    (record c.in-Some.file { rest = c.pop_front.new.self }) c.in-Some-pop_front.piece c.pop_front.new.self.items
    (search rules) (record { waits = refl; folder = refl; leaves = refl }) (search rules) (search rules) (search rules))
