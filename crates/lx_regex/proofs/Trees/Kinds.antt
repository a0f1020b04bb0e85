-- The tags in expressions, form by form, and lists of tags that grow.
use Rattle.std.proofs.Common.{◌≡◌, ℕ, zero, suc, Bool, true, false, List, [], ◌∷◌, ◌++◌, length, map, Vec, Box, Global, Option, Some, refl, sym, ap, ◌∙◌, append_assoc}
use Rattle.std.specs.List.{slice_get}
use Rattle.std.specs.Option.{option_map}
use Rattle.std.proofs.lemmas.List.{append-nil, map-append}
use Rattle.lx_class.specs.declared.ranges.Range.{Range}
use Rattle.lx_regex.specs.Kinds.{HasKind, HaveKinds, joined, kinds_of, kinds_step}
use Rattle.lx_regex.specs.declared.rules.Tag.{Tag}
use Rattle.lx_regex.specs.declared.expr.Expr.{Expr}
use Rattle.lx_regex.specs.declared.expr.Expr.TheOpen.{Expr-F}
use Rattle.lx_regex.specs.declared.expr.Expr.TheVariants.{Empty, Class, AnyUnit, Cat, Alt, Rep, STag, MTag, Group, rolls-Empty, rolls-Class, rolls-AnyUnit, rolls-Cat, rolls-Alt, rolls-Rep, rolls-STag, rolls-MTag, rolls-Group}
use Rattle.lx_regex.specs.declared.expr.Expr.TheFolds.{fold-roll-Expr}

pub kinds_of-empty : kinds_of Empty ≡ []
kinds_of-empty = ap kinds_of (sym rolls-Empty) ∙ fold-roll-Expr (List (ℕ × Bool)) kinds_step Expr-F.Empty

pub kinds_of-class : (set : List Range) → kinds_of (Class set) ≡ []
kinds_of-class set = ap kinds_of (sym (rolls-Class set)) ∙ fold-roll-Expr (List (ℕ × Bool)) kinds_step (Expr-F.Class set)

pub kinds_of-any_unit : kinds_of AnyUnit ≡ []
kinds_of-any_unit = ap kinds_of (sym rolls-AnyUnit) ∙ fold-roll-Expr (List (ℕ × Bool)) kinds_step Expr-F.AnyUnit

pub kinds_of-cat : (members : Vec Expr Global) → kinds_of (Cat members) ≡ joined (map kinds_of members.items)
kinds_of-cat members = ap kinds_of (sym (rolls-Cat members)) ∙ fold-roll-Expr (List (ℕ × Bool)) kinds_step (Expr-F.Cat members)

pub kinds_of-alt : (members : Vec Expr Global) → kinds_of (Alt members) ≡ joined (map kinds_of members.items)
kinds_of-alt members = ap kinds_of (sym (rolls-Alt members)) ∙ fold-roll-Expr (List (ℕ × Bool)) kinds_step (Expr-F.Alt members)

pub kinds_of-rep : (body : Box Expr Global) (low : ℕ) (high : Option ℕ) → kinds_of (Rep body low high) ≡ kinds_of body.value
kinds_of-rep body low high =
    ap kinds_of (sym (rolls-Rep body low high)) ∙ fold-roll-Expr (List (ℕ × Bool)) kinds_step (Expr-F.Rep body low high)

pub kinds_of-stag : (number : ℕ) → kinds_of (STag number) ≡ (number, false) ∷ []
kinds_of-stag number = ap kinds_of (sym (rolls-STag number)) ∙ fold-roll-Expr (List (ℕ × Bool)) kinds_step (Expr-F.STag number)

pub kinds_of-mtag : (number : ℕ) → kinds_of (MTag number) ≡ (number, true) ∷ []
kinds_of-mtag number = ap kinds_of (sym (rolls-MTag number)) ∙ fold-roll-Expr (List (ℕ × Bool)) kinds_step (Expr-F.MTag number)

pub kinds_of-group : (number : ℕ) (body : Box Expr Global) → kinds_of (Group number body) ≡ kinds_of body.value
kinds_of-group number body =
    ap kinds_of (sym (rolls-Group number body)) ∙ fold-roll-Expr (List (ℕ × Bool)) kinds_step (Expr-F.Group number body)

-- lists of members one behind another
pub joined-append : (front back : List (List (ℕ × Bool))) → joined (front ++ back) ≡ joined front ++ joined back
joined-append [] back = refl
joined-append (kinds ∷ front) back = ap (λ l. kinds ++ l) (joined-append front back) ∙ sym (append_assoc kinds (joined front) (joined back))

pub kinds-append : (front back : List Expr)
    → joined (map kinds_of (front ++ back)) ≡ joined (map kinds_of front) ++ joined (map kinds_of back)
kinds-append front back = ap joined (map-append kinds_of front back) ∙ joined-append (map kinds_of front) (map kinds_of back)

pub kinds-one : (expr : Expr) → joined (map kinds_of (expr ∷ [])) ≡ kinds_of expr
kinds-one expr = append-nil (kinds_of expr)

-- tags of two lists
pub HaveKinds-both : (tags : List Tag) (front back : List (ℕ × Bool)) → HaveKinds tags front → HaveKinds tags back
    → HaveKinds tags (front ++ back)
HaveKinds-both tags [] back here later = later
HaveKinds-both tags (one ∷ front) back here later = (here.0, HaveKinds-both tags front back here.1 later)

-- tags that stand behind others count for nothing
HasKind-get : (tags more : List Tag) (number : ℕ) (many : Bool) → option_map (λ (tag : Tag). tag.many) (slice_get tags number) ≡ Some many
    → option_map (λ (tag : Tag). tag.many) (slice_get (tags ++ more) number) ≡ Some many
HasKind-get [] more number many is = cc
HasKind-get (tag ∷ tags) more zero many is = is
HasKind-get (tag ∷ tags) more (suc number) many is = HasKind-get tags more number many is

pub HasKind-append : (tags more : List Tag) (one : ℕ × Bool) → HasKind tags one → HasKind (tags ++ more) one
HasKind-append tags more one is = HasKind-get tags more one.0 one.1 is

pub HaveKinds-append : (tags more : List Tag) (kinds : List (ℕ × Bool)) → HaveKinds tags kinds → HaveKinds (tags ++ more) kinds
HaveKinds-append tags more [] are = tt
HaveKinds-append tags more (one ∷ kinds) are = (HasKind-append tags more one are.0, HaveKinds-append tags more kinds are.1)

-- the tag behind others
pub HasKind-last : (tags : List Tag) (tag : Tag) (more : List Tag) → HasKind (tags ++ tag ∷ more) (length tags, tag.many)
HasKind-last [] tag more = refl
HasKind-last (first ∷ tags) tag more = HasKind-last tags tag more
