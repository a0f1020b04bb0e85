-- The rules of a block, as they are read.
use Rattle.std.specs.Prelude.{ℕ, List, Option}
use Rattle.lx_base.specs.declared.places.Pos.{Pos}
use Rattle.lx_exprs.specs.Defined.{Meaning}
use Rattle.lx_regex.specs.declared.rules.Kind.{Kind}
use Rattle.lx_rules.specs.declared.resolved.Act.{Act}

-- A rule: its conditions, its kind, the place of its head, what that means, the number of the tag of its trailing context, the
-- place of its target, and its action. Where conditions are not in use it has one without a name; and that of `<*>` is named so.
pub record RuleOf : Type 0 where
  pub conds : List (List ℕ)
  pub kind : Kind
  pub at : Pos
  pub meaning : Meaning
  pub slash : Option ℕ
  pub target : Option Pos
  pub act : Act
