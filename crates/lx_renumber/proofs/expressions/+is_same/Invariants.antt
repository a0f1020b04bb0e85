use Rattle.std.proofs.Common.{◌≡◌, ℕ, map, take}
use Rattle.lx_regex.specs.Expr.{term_of}
use Rattle.lx_regex.specs.Kinds.{kinds_of}
use Rattle.lx_renumber.proofs.expressions.+is_same.Given as goal

abbrev pub invariant-are_same-loop-place : goal.invariant-are_same-loop-place
invariant-are_same-loop-place l = record {
  terms : (tags : ℕ) → map (term_of tags) (take l.place l.others) ≡ map (term_of tags) (take l.place l.members);
  kinds : map kinds_of (take l.place l.others) ≡ map kinds_of (take l.place l.members);
}
