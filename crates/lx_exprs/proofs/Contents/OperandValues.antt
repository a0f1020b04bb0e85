-- The operands that are not yet put together.
use Rattle.std.proofs.Common.{◌≡◌, ℕ, ◌≤◌, List, [], ◌∷◌, ◌++◌, map, sym, subst}
use Rattle.lx_regex.specs.Expr.{members_of, term_of}
use Rattle.lx_exprs.specs.declared.operands.Operand.{Operand}
use Rattle.lx_exprs.specs.declared.operands.Operand.TheVariants as operand
use Rattle.lx_exprs.specs.declared.values.Content.{Content}
use Rattle.lx_exprs.specs.declared.values.Content.TheVariants as content
use Rattle.lx_exprs.specs.Reading.{AreBounded, HaveOperandKinds}
use Rattle.lx_exprs.specs.Operands.{HasOperandKinds, IsBoundedOperand}
use Rattle.lx_exprs.specs.Values.{AreTagsBelow, content_kinds}
use Rattle.lx_regex.specs.declared.rules.Tag.{Tag}
use Rattle.lx_regex.proofs.Trees.Kinds.{HaveKinds-append}
use Rattle.lx_exprs.proofs.TagLists.SharedNames.{each_apart, each_both}
use Rattle.lx_exprs.proofs.TagLists.TermTags.{HasTagsBelow-greater, HaveTagsBelow-greater}

-- the last operand of bounded ones, and those before it
pub bounded_front : (front items : List Operand) (value : Operand) → items ≡ front ++ value ∷ [] → AreBounded items → AreBounded front
bounded_front front items value same bounded = go front (subst AreBounded same bounded)
  where
    go : (l : List Operand) → AreBounded (l ++ value ∷ []) → AreBounded l
    go [] is = tt
    go (first ∷ l) is = (is.0, go l is.1)

pub bounded_last : (front items : List Operand) (value : Operand) → items ≡ front ++ value ∷ [] → AreBounded items → IsBoundedOperand value
bounded_last front items value same bounded = go front (subst AreBounded same bounded)
  where
    go : (l : List Operand) → AreBounded (l ++ value ∷ []) → IsBoundedOperand value
    go [] is = is.0
    go (first ∷ l) is = go l is.1

pub bounded_all : (front items : List Operand) (value : Operand) → items ≡ front ++ value ∷ [] → AreBounded front → IsBoundedOperand value → AreBounded items
bounded_all front items value same before last = subst AreBounded (sym same) (go front before)
  where
    go : (l : List Operand) → AreBounded l → AreBounded (l ++ value ∷ [])
    go [] is = (last, tt)
    go (first ∷ l) is = (is.0, go l is.1)

-- numbers below a bound are below a greater one
pub below_greater : (less more : ℕ) → less ≤ more → (held : Content) → AreTagsBelow less held → AreTagsBelow more held
below_greater less more le (content.One expr) below = HasTagsBelow-greater 1 less more (term_of 0 expr) le below
below_greater less more le (content.Row members) below = HaveTagsBelow-greater 1 less more (members_of (map (term_of 0) members.items)) le below
below_greater less more le (content.Choice members) below = HaveTagsBelow-greater 1 less more (members_of (map (term_of 0) members.items)) le below
below_greater less more le (content.Past set alternatives) below = tt

-- kinds of tags, with more tags behind these
operand_kind-more : (tags more : List Tag) (value : Operand) → HasOperandKinds tags value → HasOperandKinds (tags ++ more) value
operand_kind-more tags more (operand.Whole value) is = HaveKinds-append tags more (content_kinds value.content) is
operand_kind-more tags more (operand.Holed holed) is = tt

pub operand_kinds-more : (tags more : List Tag) (values : List Operand) → HaveOperandKinds tags values
    → HaveOperandKinds (tags ++ more) values
operand_kinds-more tags more [] are = tt
operand_kinds-more tags more (value ∷ values) are = (operand_kind-more tags more value are.0, operand_kinds-more tags more values are.1)

-- and of the last operand, and those before it
pub operand_kinds-both : (tags : List Tag) (front items : List Operand) (value : Operand) → items ≡ front ++ value ∷ []
    → HaveOperandKinds tags front → HasOperandKinds tags value → HaveOperandKinds tags items
operand_kinds-both tags front items value same are is =
    subst (HaveOperandKinds tags) (sym same) (each_both (HasOperandKinds tags) front (value ∷ []) are (is, tt))

pub operand_kinds-apart : (tags : List Tag) (front items : List Operand) (value : Operand) → items ≡ front ++ value ∷ []
    → HaveOperandKinds tags items → HaveOperandKinds tags front × HasOperandKinds tags value
operand_kinds-apart tags front items value same are =
    let both = each_apart (HasOperandKinds tags) front (value ∷ []) (subst (HaveOperandKinds tags) same are) in (both.0, both.1.0)
