use Rattle.std.proofs.Common.{◌≡◌, ◌⊎◌, map, take}
use Rattle.lx_regex.specs.Expr.{members_of, size_of, term_of}
use Rattle.lx_regex.specs.declared.expr.Expr.{Expr}
use Rattle.lx_regex.specs.Kinds.{kinds_of}
use Rattle.lx_exprs.specs.Meanings.{moved, shifted}
use Rattle.lx_exprs.specs.Values.{HaveTagsBelow}
use Rattle.lx_exprs.proofs.copies.+copy.Given as goal

abbrev pub invariant-copy_members-loop-member : goal.invariant-copy_members-loop-member
invariant-copy_members-loop-member l = record {
  terms : map (term_of 0) l.copies.items ≡ map (λ (member : Expr). shifted l.by l.groups (term_of 0 member)) (take l.member-index l.members);
  sizes : (l.groups ≡ 0) ⊎ HaveTagsBelow 1 128 (members_of (map (term_of 0) l.members)) → map size_of l.copies.items ≡ map size_of (take l.member-index l.members);
  kinds : map kinds_of l.copies.items ≡ map (λ (member : Expr). moved l.by (kinds_of member)) (take l.member-index l.members);
}
