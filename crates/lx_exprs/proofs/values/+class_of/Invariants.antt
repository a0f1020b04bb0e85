use Rattle.std.proofs.Common.{map, take}
use Rattle.lx_regex.specs.Expr.{members_of, term_of}
use Rattle.lx_exprs.specs.Defined.{classes_in}
use Rattle.lx_exprs.specs.Values.{HasPoints}
use Rattle.lx_exprs.proofs.values.+class_of.Given as goal

abbrev pub invariant-class_of_all-loop-member : goal.invariant-class_of_all-loop-member
invariant-class_of_all-loop-member l = HasPoints l.all (classes_in (members_of (map (term_of 0) (take l.member-index l.members))))
