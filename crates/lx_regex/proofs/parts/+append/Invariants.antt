use Rattle.std.proofs.Common.{◌-◌}
use Rattle.lx_regex.proofs.PartTables.PartLists.{MembersLeft, CopiesLeft}
use Rattle.lx_regex.proofs.parts.+append.Given as goal

abbrev pub invariant-append_members-loop-child : goal.invariant-append_members-loop-child
invariant-append_members-loop-child l = MembersLeft l.around.rule l.around.part l.members l.fn.list.items l.list.items l.child

abbrev pub invariant-append_copies-loop-child : goal.invariant-append_copies-loop-child
invariant-append_copies-loop-child l = CopiesLeft l.around.rule l.around.part l.body l.count l.fn.list.items l.list.items l.child (l.count - l.child)
