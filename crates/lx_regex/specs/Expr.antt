-- What an `Expr` stands for, and its size.
use Rattle.std.specs.Prelude.{ℕ, ◌+◌, ◌*◌, max, List, [], ◌∷◌, map, sum, Option, Some, None, ◌==◌, if◌then◌else◌}
use Rattle.lx_class.specs.declared.ranges.Range.{Range}
use Rattle.lx_regex.specs.Term.{Term, empty, class, any_unit, cat, alt, repeat, tag, group, Terms, nil, cons}
use Rattle.lx_regex.specs.declared.expr.Expr.{Expr}
use Rattle.lx_regex.specs.declared.expr.Expr.TheOpen.{Expr-F}
use Rattle.lx_regex.specs.declared.expr.Expr.TheFolds.{fold-Expr}

-- the ranges of a class
abbrev pub ranges_of : List Range → List (ℕ × ℕ)
ranges_of ranges = map (λ (range : Range). (range.lo, range.hi)) ranges

-- the members of a sequence
abbrev pub members_of : List Term → Terms
members_of [] = nil
members_of (member ∷ members) = cons member (members_of members)

-- One form, with the term of each expression inside in its place. Behind so many tags of the rule the ends of its groups are
-- numbered.
abbrev pub term_step : (tags : ℕ) → Expr-F Term → Term
term_step tags Expr-F.Empty = empty
term_step tags (Expr-F.Class set) = class (ranges_of set)
term_step tags Expr-F.AnyUnit = any_unit
term_step tags (Expr-F.Cat members) = cat (members_of members.items)
term_step tags (Expr-F.Alt members) = alt (members_of members.items)
term_step tags (Expr-F.Rep body low high) = repeat body.value low high
term_step tags (Expr-F.STag number) = tag number
term_step tags (Expr-F.MTag number) = tag number
term_step tags (Expr-F.Group number body) = group (tags + 2 * number) (tags + 2 * number + 1) body.value

-- the term of an expression of a rule that has so many tags
abbrev pub term_of : (tags : ℕ) → Expr → Term
term_of tags = fold-Expr Term (term_step tags)

-- how often the body of a repetition counts: the greatest of 1, its minimum and, if there is one, its bound
abbrev pub times : (low : ℕ) → (high : Option ℕ) → ℕ
times low None = max low 1
times low (Some high) = max (max low high) 1

-- the size of one form, with the sizes of the expressions inside; group 0, which is the whole match, counts for nothing
abbrev pub size_step : Expr-F ℕ → ℕ
size_step Expr-F.Empty = 1
size_step (Expr-F.Class set) = 1
size_step Expr-F.AnyUnit = 1
size_step (Expr-F.Cat members) = sum members.items
size_step (Expr-F.Alt members) = sum members.items + 1
size_step (Expr-F.Rep body low high) = body.value * times low high + 1
size_step (Expr-F.STag number) = 1
size_step (Expr-F.MTag number) = 1
size_step (Expr-F.Group number body) = if number == 0 then body.value else body.value + 2

-- the size of an expression
abbrev pub size_of : Expr → ℕ
size_of = fold-Expr ℕ size_step
