-- What holds of definitions that are kept, whatever they say.
use Rattle.std.specs.Prelude.{ℕ, ◌+◌, ◌*◌, ◌≤◌, List, length, All, Option, Some, None, IfSome}
use Rattle.lx_regex.specs.Expr.{size_of, term_of}
use Rattle.lx_regex.specs.Kinds.{HaveKinds, kinds_of}
use Rattle.lx_regex.specs.declared.rules.Tag.{Tag}
use Rattle.lx_regex.specs.declared.expr.Expr.{Expr}
use Rattle.std.specs.Borrow.{Bor}
use Rattle.lx_exprs.specs.declared.definitions.Definitions.{Definitions}
use Rattle.lx_exprs.specs.declared.definitions.Scope.{Scope}
use Rattle.lx_exprs.specs.declared.definitions.Kept.{Kept}
use Rattle.lx_exprs.specs.Values.{HasTagsBelow}

-- an expression that is kept has at most the size that is kept of it, which is at least 1, and so many tags, two for each group;
-- its groups are numbered from the first one on
abbrev pub FitsKept : (first : ℕ) → Option Expr → (size count : ℕ) → Type 0
FitsKept first None size count = 1 ≤ size
FitsKept first (Some expr) size count = (1 ≤ size) × (size_of expr ≤ size) × HasTagsBelow first count (term_of 0 expr)

-- the tags of an expression that is kept are of the kinds that they have among these
abbrev pub HasKeptKinds : List Tag → Option Expr → Type 0
HasKeptKinds tags expr = IfSome expr (λ expr. HaveKinds tags (kinds_of expr))

-- a definition has the size, the tags and the groups of its expression, and its tags are of their kinds
abbrev pub IsFitDefinition : Kept → Type 0
IsFitDefinition kept = FitsKept 1 kept.expr kept.size (length kept.tags + 2 * kept.groups) × HasKeptKinds kept.tags kept.expr

abbrev pub DefinitionsFit : Definitions → Type 0
DefinitionsFit definitions = All (λ entry. IsFitDefinition entry.1) definitions.by_name.entries

abbrev pub AreFit : Option (Bor Definitions) → Type 0
AreFit None = Unit {0}
AreFit (Some definitions) = DefinitionsFit definitions.now

-- so is each definition that a block sees
abbrev pub ScopeFits : Scope → Type 0
ScopeFits scope = AreFit scope.kept × AreFit scope.outer × DefinitionsFit scope.own.now
