-- The equations of the definitions on expressions.
use Rattle.std.proofs.Common.{◌≡◌, ℕ, ◌+◌, ◌*◌, List, map, Vec, Box, Global, Option, sym, ap, ◌∙◌}
use Rattle.std.specs.Prelude.{◌==◌, if◌then◌else◌}
use Rattle.lx_regex.specs.Term.{Term, empty, class, any_unit, cat, alt, repeat, tag, group}
use Rattle.lx_regex.specs.Expr.{members_of, ranges_of, term_step, term_of, size_step, size_of}
use Rattle.lx_class.specs.declared.ranges.Range.{Range}
use Rattle.lx_regex.specs.declared.expr.Expr.{Expr}
use Rattle.lx_regex.specs.declared.expr.Expr.TheOpen.{Expr-F}
use Rattle.lx_regex.specs.declared.expr.Expr.TheVariants.{Empty, Class, AnyUnit, Cat, Alt, Rep, STag, MTag, Group, rolls-Empty, rolls-Class, rolls-AnyUnit, rolls-Cat, rolls-Alt, rolls-Rep, rolls-STag, rolls-MTag, rolls-Group}
use Rattle.lx_regex.specs.declared.expr.Expr.TheFolds.{fold-roll-Expr}

pub size_of-group : (number : ℕ) (body : Box Expr Global) → size_of (Group number body) ≡ (if number == 0 then size_of body.value else size_of body.value + 2)
size_of-group number body = ap size_of (sym (rolls-Group number body)) ∙ fold-roll-Expr ℕ size_step (Expr-F.Group number body)

pub term_of-empty : (tags : ℕ) → term_of tags Empty ≡ empty
term_of-empty tags = ap (λ e. term_of tags e) (sym rolls-Empty) ∙ fold-roll-Expr Term (term_step tags) Expr-F.Empty

pub term_of-class : (tags : ℕ) (set : List Range) → term_of tags (Class set) ≡ class (ranges_of set)
term_of-class tags set =
    ap (λ e. term_of tags e) (sym (rolls-Class set)) ∙ fold-roll-Expr Term (term_step tags) (Expr-F.Class set)

pub term_of-any_unit : (tags : ℕ) → term_of tags AnyUnit ≡ any_unit
term_of-any_unit tags = ap (λ e. term_of tags e) (sym rolls-AnyUnit) ∙ fold-roll-Expr Term (term_step tags) Expr-F.AnyUnit

pub term_of-cat : (tags : ℕ) (members : Vec Expr Global)
    → term_of tags (Cat members) ≡ cat (members_of (map (λ e. term_of tags e) members.items))
term_of-cat tags members =
    ap (λ e. term_of tags e) (sym (rolls-Cat members)) ∙ fold-roll-Expr Term (term_step tags) (Expr-F.Cat members)

pub term_of-alt : (tags : ℕ) (members : Vec Expr Global)
    → term_of tags (Alt members) ≡ alt (members_of (map (λ e. term_of tags e) members.items))
term_of-alt tags members =
    ap (λ e. term_of tags e) (sym (rolls-Alt members)) ∙ fold-roll-Expr Term (term_step tags) (Expr-F.Alt members)

pub term_of-rep : (tags : ℕ) (body : Box Expr Global) (low : ℕ) (high : Option ℕ)
    → term_of tags (Rep body low high) ≡ repeat (term_of tags body.value) low high
term_of-rep tags body low high =
    ap (λ e. term_of tags e) (sym (rolls-Rep body low high)) ∙ fold-roll-Expr Term (term_step tags) (Expr-F.Rep body low high)

pub term_of-stag : (tags number : ℕ) → term_of tags (STag number) ≡ tag number
term_of-stag tags number =
    ap (λ e. term_of tags e) (sym (rolls-STag number)) ∙ fold-roll-Expr Term (term_step tags) (Expr-F.STag number)

pub term_of-mtag : (tags number : ℕ) → term_of tags (MTag number) ≡ tag number
term_of-mtag tags number =
    ap (λ e. term_of tags e) (sym (rolls-MTag number)) ∙ fold-roll-Expr Term (term_step tags) (Expr-F.MTag number)

pub term_of-group : (tags number : ℕ) (body : Box Expr Global)
    → term_of tags (Group number body) ≡ group (tags + 2 * number) (tags + 2 * number + 1) (term_of tags body.value)
term_of-group tags number body =
    ap (λ e. term_of tags e) (sym (rolls-Group number body)) ∙ fold-roll-Expr Term (term_step tags) (Expr-F.Group number body)
