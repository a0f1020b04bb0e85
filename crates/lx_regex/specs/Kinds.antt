-- Which tags stand in expressions, and whether they are m-tags.
use Rattle.std.specs.Prelude.{◌≡◌, ℕ, Bool, true, false, List, [], ◌∷◌, ◌++◌, Some, IfSome, slice_get}
use Rattle.std.specs.List.{AllByRecursion}
use Rattle.std.specs.Option.{option_map}
use Rattle.lx_regex.specs.declared.expr.Expr.{Expr}
use Rattle.lx_regex.specs.declared.expr.Expr.TheOpen.{Expr-F}
use Rattle.lx_regex.specs.declared.expr.Expr.TheFolds.{fold-Expr}
use Rattle.lx_regex.specs.declared.rules.Rule.{Rule}
use Rattle.lx_regex.specs.declared.rules.Tag.{Tag}

-- lists one behind another
abbrev pub joined : List (List (ℕ × Bool)) → List (ℕ × Bool)
joined [] = []
joined (kinds ∷ others) = kinds ++ joined others

-- the tags of one form, with those of the expressions inside
abbrev pub kinds_step : Expr-F (List (ℕ × Bool)) → List (ℕ × Bool)
kinds_step Expr-F.Empty = []
kinds_step (Expr-F.Class set) = []
kinds_step Expr-F.AnyUnit = []
kinds_step (Expr-F.Cat members) = joined members.items
kinds_step (Expr-F.Alt members) = joined members.items
kinds_step (Expr-F.Rep body low high) = body.value
kinds_step (Expr-F.STag number) = (number, false) ∷ []
kinds_step (Expr-F.MTag number) = (number, true) ∷ []
kinds_step (Expr-F.Group number body) = body.value

-- the tags in an expression, from left to right, each with whether it is an m-tag
abbrev pub kinds_of : Expr → List (ℕ × Bool)
kinds_of = fold-Expr (List (ℕ × Bool)) kinds_step

-- there is a tag with this number, and it is an m-tag or none
abbrev pub HasKind : List Tag → ℕ × Bool → Type 0
HasKind tags one = option_map (λ (tag : Tag). tag.many) (slice_get tags one.0) ≡ Some one.1

-- so is each of these
abbrev pub HaveKinds : List Tag → List (ℕ × Bool) → Type 0
HaveKinds tags kinds = AllByRecursion (HasKind tags) kinds

-- each tag in the expression of a rule is of the kind that it has among the rule's tags, and the tag of a trailing context is an s-tag
abbrev pub HasRightKinds : Rule → Type 0
HasRightKinds rule = HaveKinds rule.tags (kinds_of rule.expr) × IfSome rule.slash (λ slash. HasKind rule.tags (slash, false))
