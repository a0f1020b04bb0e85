-- What shapes tell of terms.
use Rattle.std.proofs.Common.{◌≡◌, ℕ, zero, suc, ◌+◌, ◌*◌, ◌<◌, ◌≤◌, ◌⊎◌, inl, inr, ⊎_elim, arith, List, [], ◌∷◌, ◌++◌, length, get_or, take, drop, refl, sym, ap, ap₂, ◌∙◌, subst, Vec, Box, Global, Option}
use Rattle.std.proofs.Math.Seq.{drop-cons}
use Rattle.std.proofs.lemmas.Bool.{cases_lt}
use Rattle.std.specs.Prelude.{◌^◌, min, nat_eq, if◌then◌else◌}
use Rattle.lx_regex.specs.Expr.{term_of}
use Rattle.lx_regex.specs.Script.{merge_tags, tags_among, tags_in}
use Rattle.lx_regex.specs.Term.{Term, empty, class, any_unit, cat, alt, repeat, tag, group, Terms, nil, cons, copies, parts, parts_of_all}
use Rattle.lx_regex.specs.declared.expr.Expr.{Expr}
use Rattle.lx_regex.specs.declared.expr.Expr.TheVariants.{Cat, Alt, Rep}
use Rattle.lx_regex.proofs.Trees.Folds.{term_of-cat, term_of-alt, term_of-rep}
use Rattle.lx_regex.proofs.Trees.NoUnits.{terms_in}
use Rattle.lx_tnfa.specs.Moves.{counted_size}
use Rattle.lx_tnfa.specs.Shapes.{HasShape, HaveShapes, IsAround, IsOnly, Tells, parts_together, tags_together}
use Rattle.lx_tnfa.specs.declared.shape.Shape.{Shape, out-Shape}
use Rattle.lx_tnfa.proofs.Construction.TagMerges.{merge_assoc, merge_more}

pub tells : (e : Term) (shape : Shape) → HasShape e shape → Tells e shape
tells empty shape has = has
tells (class ranges) shape has = has
tells any_unit shape has = has
tells (cat members) shape has = has.0
tells (alt members) shape has = has.0
tells (repeat body low high) shape has = has.0
tells (tag number) shape has = has
tells (group opening closing body) shape has = has.0

pub next_shape : (shapes : List Shape) (i : ℕ) (shape : Shape) → i < length shapes → shape ≡ get_or shapes i shape
    → drop i shapes ≡ shape ∷ drop (suc i) shapes
next_shape shapes i shape lt is = drop-cons shapes i shape lt ∙ ap (λ y. y ∷ drop (suc i) shapes) (sym is)

-- numbers that are cut off at a limit may be cut off again
capped_sum : (a b c limit : ℕ) → min (min (a + b) limit + c) limit ≡ min (a + (b + c)) limit
capped_sum a b c limit = omega arith

pub parts_next : (shapes : List Shape) (i : ℕ) (shape : Shape) (now new all : ℕ) → i < length shapes → shape ≡ get_or shapes i shape
    → min (now + parts_together (drop i shapes)) (2 ^ 31) ≡ all → new ≡ min (now + (out-Shape shape).parts) (2 ^ 31)
    → min (new + parts_together (drop (suc i) shapes)) (2 ^ 31) ≡ all
parts_next shapes i shape now new all lt is so more =
    ap (λ n. min (n + parts_together (drop (suc i) shapes)) (2 ^ 31)) more
    ∙ capped_sum now (out-Shape shape).parts (parts_together (drop (suc i) shapes)) (2 ^ 31)
    ∙ ap (λ l. min (now + parts_together l) (2 ^ 31)) (sym (next_shape shapes i shape lt is)) ∙ so

pub together-nil : (shapes : List Shape) → merge_tags (tags_together shapes) [] ≡ tags_together shapes
together-nil [] = refl
together-nil (shape ∷ shapes) =
    merge_assoc (out-Shape shape).tags.items (tags_together shapes) [] ∙ ap (merge_tags (out-Shape shape).tags.items) (together-nil shapes)

pub tags_next : (shapes : List Shape) (i : ℕ) (shape : Shape) (now new all : List ℕ) → i < length shapes → shape ≡ get_or shapes i shape
    → merge_tags (tags_together (drop i shapes)) now ≡ all → new ≡ merge_tags (out-Shape shape).tags.items now
    → merge_tags (tags_together (drop (suc i) shapes)) new ≡ all
tags_next shapes i shape now new all lt is so more =
    ap (merge_tags (tags_together (drop (suc i) shapes))) more
    ∙ sym (merge_more (out-Shape shape).tags.items (tags_together (drop (suc i) shapes)) now)
    ∙ ap (λ l. merge_tags (tags_together l) now) (sym (next_shape shapes i shape lt is)) ∙ so

pub have_parts : (members : Terms) (shapes : List Shape) → HaveShapes members shapes
    → min (parts_together shapes) (2 ^ 31) ≡ min (parts_of_all members) (2 ^ 31)
have_parts nil [] have = refl
have_parts nil (shape ∷ shapes) have = absurd have
have_parts (cons member members) [] have = absurd have
have_parts (cons member members) (shape ∷ shapes) have =
    omega (arith, (tells member shape have.0).0, have_parts members shapes have.1)

pub have_tags : (members : Terms) (shapes : List Shape) → HaveShapes members shapes → tags_together shapes ≡ tags_among members
have_tags nil [] have = refl
have_tags nil (shape ∷ shapes) have = absurd have
have_tags (cons member members) [] have = absurd have
have_tags (cons member members) (shape ∷ shapes) have =
    ap₂ merge_tags (tells member shape have.0).1 (have_tags members shapes have.1)

-- one more shape behind those of the first members
pub have_push : (tags : ℕ) (members : List Expr) (i : ℕ) (member : Expr) (shapes : List Shape) (shape : Shape) → i < length members
    → member ≡ get_or members i member → HaveShapes (terms_in tags (take i members)) shapes → HasShape (term_of tags member) shape
    → HaveShapes (terms_in tags (take (suc i) members)) (shapes ++ shape ∷ [])
have_push tags [] i member shapes shape lt is have more = absurd (omega arith)
have_push tags (x ∷ members) zero member [] shape lt is have more = (subst (λ y. HasShape (term_of tags y) shape) is more, tt)
have_push tags (x ∷ members) zero member (other ∷ others) shape lt is have more = absurd have
have_push tags (x ∷ members) (suc i) member [] shape lt is have more = absurd have
have_push tags (x ∷ members) (suc i) member (other ∷ others) shape lt is have more =
    (have.0, have_push tags members i member others shape (omega arith) is have.1 more)

-- shapes around those of members
pub sequence_shape : (members : Terms) (shapes : List Shape) (shape : Shape) → HaveShapes members shapes → IsAround shapes shape
    → HasShape (cat members) shape
sequence_shape members shapes shape have around = (
  (omega (arith, around.0, have_parts members shapes have), around.1 ∙ have_tags members shapes have),
  subst (HaveShapes members) (sym around.2) have,
)

pub members_shape : (tags : ℕ) (e : Expr) (members : Vec Expr Global) (shapes : List Shape) (shape : Shape)
    → (e ≡ Cat members) ⊎ (e ≡ Alt members) → HaveShapes (terms_in tags members.items) shapes → IsAround shapes shape
    → HasShape (term_of tags e) shape
members_shape tags e members shapes shape is have around =
    let all = sequence_shape (terms_in tags members.items) shapes shape have around in
    ⊎_elim
    (λ h. subst (λ t. HasShape t shape) (sym (ap (term_of tags) h ∙ term_of-cat tags members)) all)
    (λ h. subst (λ t. HasShape t shape) (sym (ap (term_of tags) h ∙ term_of-alt tags members)) all) is

capped_times : (count size : ℕ) → min (1 + count * min size (2 ^ 31)) (2 ^ 31) ≡ min (1 + count * size) (2 ^ 31)
capped_times zero size = omega arith
capped_times (suc count) size = at (cases_lt size (2 ^ 31))
  where
    at : (size < 2 ^ 31) ⊎ (2 ^ 31 ≤ size) → min (1 + suc count * min size (2 ^ 31)) (2 ^ 31) ≡ min (1 + suc count * size) (2 ^ 31)
    at (inl lt) = let same : min size (2 ^ 31) ≡ size = omega arith in ap (λ n. min (1 + suc count * n) (2 ^ 31)) same
    at (inr le) =
        let same : min size (2 ^ 31) ≡ 2 ^ 31 = omega arith in
        ap (λ n. min (1 + suc count * n) (2 ^ 31)) same ∙ omega arith

pub repeat_shape : (tags : ℕ) (e : Expr) (body : Box Expr Global) (low : ℕ) (high : Option ℕ) (inner made : Shape) → e ≡ Rep body low high
    → HasShape (term_of tags body.value) inner → (out-Shape made).parts ≡ min (1 + copies low high * (out-Shape inner).parts) (2 ^ 31)
    → (out-Shape made).tags.items ≡ (out-Shape inner).tags.items → (out-Shape made).members.items ≡ inner ∷ []
    → HasShape (term_of tags e) made
repeat_shape tags e body low high inner made is has count marks kept =
    let b = term_of tags body.value in
    subst (λ t. HasShape t made) (sym (ap (term_of tags) is ∙ term_of-rep tags body low high)) (
      (
        count ∙ ap (λ n. min (1 + copies low high * n) (2 ^ 31)) (tells b inner has).0 ∙ capped_times (copies low high) (parts b),
        marks ∙ (tells b inner has).1,
      ),
      subst (IsOnly (HasShape b)) (sym kept) has,
    )

-- what a shape says of few parts is their number
pub shape_parts : (e : Term) (shape : Shape) → HasShape e shape → (out-Shape shape).parts < 2 ^ 31 → (out-Shape shape).parts ≡ parts e
shape_parts e shape has few = omega (arith, (tells e shape has).0, few)

pub parts_shape : (e : Term) (shape : Shape) → HasShape e shape → parts e < 2 ^ 31 → (out-Shape shape).parts ≡ parts e
parts_shape e shape has few = omega (arith, (tells e shape has).0, few)

-- the shapes of members at their places
pub shape_at : (tags : ℕ) (members : List Expr) (shapes : List Shape) (i : ℕ) (member : Expr) (shape : Shape) → HaveShapes (terms_in tags members) shapes
    → i < length members → member ≡ get_or members i member → shape ≡ get_or shapes i shape → HasShape (term_of tags member) shape
shape_at tags [] shapes i member shape have lt is at = absurd (omega arith)
shape_at tags (x ∷ members) [] i member shape have lt is at = absurd have
shape_at tags (x ∷ members) (other ∷ shapes) zero member shape have lt is at =
    subst (HasShape (term_of tags member)) (sym at) (subst (λ y. HasShape (term_of tags y) other) (sym is) have.0)
shape_at tags (x ∷ members) (other ∷ shapes) (suc i) member shape have lt is at = shape_at tags members shapes i member shape have.1 (omega arith) is at

pub shapes_many : (tags : ℕ) (members : List Expr) (shapes : List Shape) → HaveShapes (terms_in tags members) shapes → length shapes ≡ length members
shapes_many tags [] [] have = refl
shapes_many tags [] (shape ∷ shapes) have = absurd have
shapes_many tags (x ∷ members) [] have = absurd have
shapes_many tags (x ∷ members) (shape ∷ shapes) have = ap suc (shapes_many tags members shapes have.1)

only_at : (body : Term) (shapes : List Shape) → IsOnly (HasShape body) shapes
    → (0 < length shapes) × ((other : Shape) → HasShape body (get_or shapes 0 other))
only_at body [] only = absurd only
only_at body (shape ∷ []) only = (omega arith, λ other. only)
only_at body (shape ∷ other ∷ others) only = absurd only

-- the shape of the body of a repetition
pub repeat_body : (tags : ℕ) (e : Expr) (body : Box Expr Global) (low : ℕ) (high : Option ℕ) (shape inner : Shape) → e ≡ Rep body low high
    → HasShape (term_of tags e) shape → inner ≡ get_or (out-Shape shape).members.items 0 inner → HasShape (term_of tags body.value) inner
repeat_body tags e body low high shape inner is has first =
    let so = subst (λ t. HasShape t shape) (ap (term_of tags) is ∙ term_of-rep tags body low high) has in
    subst (HasShape (term_of tags body.value)) (sym first) ((only_at (term_of tags body.value) (out-Shape shape).members.items so.1).1 inner)

pub repeat_tags : (tags : ℕ) (e : Expr) (body : Box Expr Global) (low : ℕ) (high : Option ℕ) (shape : Shape) → e ≡ Rep body low high
    → HasShape (term_of tags e) shape → (out-Shape shape).tags.items ≡ tags_in (term_of tags body.value)
repeat_tags tags e body low high shape is has =
    (subst (λ t. HasShape t shape) (ap (term_of tags) is ∙ term_of-rep tags body low high) has).0.1

-- the parts of a body that count
pub counted_shape : (low : ℕ) (high : Option ℕ) (body : Term) (shape : Shape) → HasShape body shape → copies low high * parts body < 2 ^ 31
    → (if nat_eq (copies low high) 0 then 0 else (out-Shape shape).parts) ≡ counted_size low high body
counted_shape low high body shape has = at (copies low high)
  where
    at : (n : ℕ) → n * parts body < 2 ^ 31 → (if nat_eq n 0 then 0 else (out-Shape shape).parts) ≡ (if nat_eq n 0 then 0 else parts body)
    at zero few = refl
    at (suc n) few = ap (λ k. if nat_eq (suc n) 0 then 0 else k) (parts_shape body shape has (omega (arith, few)))

-- the shapes of the members of an alternation
pub alternation_shapes : (tags : ℕ) (e : Expr) (members : Vec Expr Global) (shape : Shape) → e ≡ Alt members → HasShape (term_of tags e) shape
    → HaveShapes (terms_in tags members.items) (out-Shape shape).members.items
    × ((out-Shape shape).tags.items ≡ tags_among (terms_in tags members.items))
alternation_shapes tags e members shape is has =
    let so = subst (λ t. HasShape t shape) (ap (term_of tags) is ∙ term_of-alt tags members) has in
    (so.1, so.0.1)

pub few_together : (members : Terms) (shapes : List Shape) (part : ℕ) → HaveShapes members shapes → part + parts_of_all members < 2 ^ 31
    → part + parts_together shapes < 2 ^ 31
few_together members shapes part have few = omega (arith, have_parts members shapes have, few)
