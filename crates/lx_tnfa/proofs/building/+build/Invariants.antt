use Rattle.std.proofs.Common.{◌≡◌, ◌-◌}
use Rattle.lx_regex.specs.Automaton.{members_table, alternatives_table}
use Rattle.lx_regex.specs.Expr.{term_of}
use Rattle.lx_tnfa.proofs.Construction.BuiltCopies.{CopiesBuilt}
use Rattle.lx_tnfa.proofs.Construction.BuiltStates.{MembersBuilt}
use Rattle.lx_tnfa.proofs.building.+build.Given as goal

abbrev pub invariant-build_members-loop-i : goal.invariant-build_members-loop-i
invariant-build_members-loop-i l = record {
  tags : l.site.tags ≡ l.fn.first.tags;
  built : MembersBuilt (λ members part. members_table members part l.last) l.fn.building l.building l.fn.first.tags l.fn.first.part l.members l.site.part l.i;
}

abbrev pub invariant-build_alternatives-loop-i : goal.invariant-build_alternatives-loop-i
invariant-build_alternatives-loop-i l = record {
  tags : l.site.tags ≡ l.fn.first.tags;
  built : MembersBuilt (λ members part. alternatives_table members part l.last) l.fn.building l.building l.fn.first.tags l.fn.first.part l.members l.site.part l.i;
}

abbrev pub invariant-build_copies-loop-number : goal.invariant-build_copies-loop-number
invariant-build_copies-loop-number l =
    CopiesBuilt l.fn.building l.building l.repeat (term_of l.tags l.body) l.number (l.number-end - l.number)
