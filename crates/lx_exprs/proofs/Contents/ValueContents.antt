-- What is kept of what is read, form by form.
use Rattle.std.proofs.Common.{◌≡◌, ℕ, suc, ◌+◌, ◌*◌, ◌<◌, ◌≤◌, ◌↔◌, ◌⊎◌, arith, inl, inr, ⊎_elim, Bool, true, false, List, [], ◌∷◌, ◌++◌, map, sum, length, take, get_or, Vec, Box, Global, Option, None, Some, IfNone, IfSome, refl, sym, ap, ap₂, ◌∙◌, subst}
use Rattle.std.specs.Prelude.{not}
use Rattle.std.proofs.Math.Seq.{take-suc}
use Rattle.std.proofs.lemmas.List.{map-append}
use Rattle.std.proofs.lemmas.List.Sums.{sum-map, sum_by-append, sum_by-cons}
use Rattle.lx_class.specs.Ranges.{HaveSamePoints, InRanges, IsCanonical, IsUnion}
use Rattle.lx_class.specs.declared.ranges.Range.{Range}
use Rattle.lx_regex.specs.Term.{Term, IsInRanges, class, group, repeat}
use Rattle.lx_regex.specs.Expr.{members_of, ranges_of, size_of, term_of}
use Rattle.lx_regex.specs.declared.expr.Expr.{Expr}
use Rattle.lx_regex.specs.declared.expr.Expr.TheVariants.{Cat, Alt, Rep, Group}
use Rattle.lx_regex.proofs.Trees.Folds.{term_of-cat, term_of-alt, term_of-group, term_of-rep}
use Rattle.lx_exprs.specs.declared.values.Content.{Content}
use Rattle.lx_exprs.specs.declared.values.Content.TheVariants as content
use Rattle.lx_exprs.proofs.Forms.ClassForms.{in_ranges_of}
use Rattle.lx_exprs.proofs.Classes.ClassUnions.{classes_in-append, class_in-choice}
use Rattle.lx_exprs.specs.Defined.{HasClass, IsTermKept, Meaning, Shape, one, row, choice, whole, both_classes, class_in, classes_in, kept, meant_class, term_of_meaning}
use Rattle.lx_exprs.specs.Meanings.{alternated, choice_size, grouped, in_choice, in_row}
use Rattle.std.specs.Option.{option_map}
use Rattle.lx_exprs.specs.FitDefinitions.{FitsKept}
use Rattle.lx_exprs.proofs.TagLists.TermTags.{HasTagsBelow-greater}
use Rattle.lx_exprs.specs.Values.{AreTagsBelow, HasPoints, HasTagsBelow, HaveTagsBelow, IsContent, content_size, is_choice, is_choice_content, is_past}

-- whether alternatives stand there can be seen
pub choice_content : (built : Bool) (meaning : Meaning) (held : Content) → IsContent built meaning held → is_choice_content held ≡ is_choice meaning.shape
choice_content built meaning (content.One expr) is = sym (ap is_choice is)
choice_content built meaning (content.Row members) is = sym (ap is_choice is)
choice_content built meaning (content.Choice members) is = sym (ap is_choice is)
choice_content built meaning (content.Past set alternatives) is = is.2

pub past_of : (b : Bool) → false ≡ not b → b ≡ true
past_of true off = refl
past_of false off = absurd (let h : false ≡ true = off in cc)

-- what is built is kept
pub past_unbuilt : (built : Bool) (meaning : Meaning) (held : Content) → IsContent built meaning held → is_past held ≡ true → built ≡ false
past_unbuilt built meaning (content.One expr) is past = absurd (let h : false ≡ true = past in cc)
past_unbuilt built meaning (content.Row members) is past = absurd (let h : false ≡ true = past in cc)
past_unbuilt built meaning (content.Choice members) is past = absurd (let h : false ≡ true = past in cc)
past_unbuilt built meaning (content.Past set alternatives) is past = is.0

-- the expression of what is built
pub one_whole : (built : Bool) (meaning : Meaning) (held : Content) (expr : Expr) → held ≡ content.One expr → IsContent built meaning held
    → term_of 0 expr ≡ term_of_meaning meaning
one_whole built meaning held expr same is = sym (ap whole (subst (IsContent built meaning) same is))

pub row_whole : (built : Bool) (meaning : Meaning) (held : Content) (members : Vec Expr Global) → held ≡ content.Row members → IsContent built meaning held
    → term_of 0 (Cat members) ≡ term_of_meaning meaning
row_whole built meaning held members same is =
    term_of-cat 0 members ∙ sym (ap whole (subst (IsContent built meaning) same is))

pub choice_whole : (built : Bool) (meaning : Meaning) (held : Content) (members : Vec Expr Global) → held ≡ content.Choice members → IsContent built meaning held
    → term_of 0 (Alt members) ≡ term_of_meaning meaning
choice_whole built meaning held members same is =
    term_of-alt 0 members ∙ sym (ap whole (subst (IsContent built meaning) same is))

-- what stands in a sequence, and in an alternation
pub row_members : (built : Bool) (meaning : Meaning) (held : Content) (members : Vec Expr Global) → held ≡ content.Row members → IsContent built meaning held
    → map (term_of 0) members.items ≡ in_row meaning.shape
row_members built meaning held members same is = sym (ap in_row (subst (IsContent built meaning) same is))

pub choice_members : (built : Bool) (meaning : Meaning) (held : Content) (members : Vec Expr Global) → held ≡ content.Choice members → IsContent built meaning held
    → map (term_of 0) members.items ≡ in_choice meaning.shape
choice_members built meaning held members same is = sym (ap in_choice (subst (IsContent built meaning) same is))

-- whether terms stand there one behind another
abbrev is_row : Shape → Bool
is_row (one term) = false
is_row (row terms) = true
is_row (choice terms) = false

pub row_free : (built : Bool) (meaning : Meaning) (held : Content) → IsContent built meaning held → is_past held ≡ false
    → ((members : Vec Expr Global) → held ≡ content.Row members → ⊥) → is_row meaning.shape ≡ false
row_free built meaning (content.One expr) is kept free = ap is_row is
row_free built meaning (content.Row members) is kept free = absurd (free members refl)
row_free built meaning (content.Choice members) is kept free = ap is_row is
row_free built meaning (content.Past set alternatives) is kept free = absurd (let h : true ≡ false = kept in cc)

pub choice_free : (built : Bool) (meaning : Meaning) (held : Content) → IsContent built meaning held → is_past held ≡ false
    → ((members : Vec Expr Global) → held ≡ content.Choice members → ⊥) → is_choice meaning.shape ≡ false
choice_free built meaning (content.One expr) is kept free = ap is_choice is
choice_free built meaning (content.Row members) is kept free = ap is_choice is
choice_free built meaning (content.Choice members) is kept free = absurd (free members refl)
choice_free built meaning (content.Past set alternatives) is kept free = absurd (let h : true ≡ false = kept in cc)

pub choice_other : (held : Content) → is_past held ≡ false → ((members : Vec Expr Global) → held ≡ content.Choice members → ⊥)
    → is_choice_content held ≡ true → ⊥
choice_other (content.One expr) kept free alternatives = let h : false ≡ true = alternatives in cc
choice_other (content.Row members) kept free alternatives = let h : false ≡ true = alternatives in cc
choice_other (content.Choice members) kept free alternatives = free members refl
choice_other (content.Past set others) kept free alternatives = let h : true ≡ false = kept in cc

-- one expression by itself
pub choice_one : (meaning : Meaning) (expr : Expr) (members : List Expr) → is_choice meaning.shape ≡ false → members ≡ expr ∷ []
    → term_of 0 expr ≡ term_of_meaning meaning → map (term_of 0) members ≡ in_choice meaning.shape
choice_one meaning expr members no_choice is same =
    ap (map (term_of 0)) is ∙ ap (λ term. term ∷ []) same ∙ at meaning.shape no_choice
  where
    at : (shape : Shape) → is_choice shape ≡ false → whole shape ∷ [] ≡ in_choice shape
    at (one term) off = refl
    at (row terms) off = refl
    at (choice terms) off = absurd (let h : true ≡ false = off in cc)

pub row_one : (meaning : Meaning) (expr : Expr) (members : List Expr) → is_row meaning.shape ≡ false → members ≡ expr ∷ []
    → term_of 0 expr ≡ term_of_meaning meaning → map (term_of 0) members ≡ in_row meaning.shape
row_one meaning expr members no_row is same = ap (map (term_of 0)) is ∙ ap (λ term. term ∷ []) same ∙ at meaning.shape no_row
  where
    at : (shape : Shape) → is_row shape ≡ false → whole shape ∷ [] ≡ in_row shape
    at (one term) off = refl
    at (choice terms) off = refl
    at (row terms) off = absurd (let h : true ≡ false = off in cc)

-- the points of two classes
in_both : (ranges others : List (ℕ × ℕ)) (point : ℕ) → IsInRanges (ranges ++ others) point ↔ (IsInRanges ranges point ⊎ IsInRanges others point)
in_both [] others point = ((λ is. inr is), ⊎_elim (λ is. absurd is) (λ is. is))
in_both (range ∷ ranges) others point =
    let later = in_both ranges others point in (
      ⊎_elim (λ here. inl (inl here)) (λ behind. ⊎_elim (λ is. inl (inr is)) (λ is. inr is) (later.0 behind)),
      ⊎_elim (⊎_elim (λ here. inl here) (λ is. inr (later.1 (inl is)))) (λ is. inr (later.1 (inr is))),
    )

pub has_both : (collected other both : List Range) (ranges others : Option (List (ℕ × ℕ))) → HasPoints (Some collected) ranges
    → HasPoints (Some other) others → IsUnion collected other both → HasPoints (Some both) (both_classes ranges others)
has_both collected other both None others has more union = absurd has
has_both collected other both (Some ranges) None has more union = absurd more
has_both collected other both (Some ranges) (Some others) has more union = λ point. (
  λ is. (in_both ranges others point).1 (⊎_elim (λ in_these. inl ((has point).0 in_these)) (λ in_other. inr ((more point).0 in_other)) ((union point).0 is)),
  λ is. (union point).1 (⊎_elim (λ in_these. inl ((has point).1 in_these)) (λ in_other. inr ((more point).1 in_other)) ((in_both ranges others point).0 is)),
)

-- a set has the points of its class
pub has_set : (set collected : List Range) → collected ≡ set → HasPoints (Some collected) (Some (ranges_of set))
has_set set collected same point = subst (λ s. InRanges s point ↔ IsInRanges (ranges_of set) point) (sym same)
    ((in_ranges_of set point).1, (in_ranges_of set point).0)

-- no ranges have the points of no classes
pub has_none : (none : List Range) → none ≡ [] → HasPoints (Some none) (Some [])
has_none none same = subst (λ s. HasPoints (Some s) (Some [])) (sym same) (λ point. ((λ is. is), (λ is. is)))

-- the set of the points that are collected is the class
pub has_class : (collected set : List Range) (ranges : Option (List (ℕ × ℕ))) → HasPoints (Some collected) ranges → IsCanonical set
    → HaveSamePoints collected set → HasClass (Some set) ranges
has_class collected set None has canonical same = absurd has
has_class collected set (Some ranges) has canonical same =
    (canonical, λ point. ((λ is. (has point).0 ((same point).1 is)), (λ is. (same point).0 ((has point).1 is))))

pub no_class : (ranges : Option (List (ℕ × ℕ))) → HasPoints None ranges → HasClass None ranges
no_class None has = tt
no_class (Some ranges) has = has

pub classes-next : (i : ℕ) (members : List Expr) (item : Expr) → i < length members → item ≡ get_or members i item
    → classes_in (members_of (map (term_of 0) (take (suc i) members)))
    ≡ both_classes (classes_in (members_of (map (term_of 0) (take i members)))) (class_in (term_of 0 item))
classes-next i members item lt is =
    ap (λ l. classes_in (members_of (map (term_of 0) l))) (take-suc members i item lt)
    ∙ ap (λ l. classes_in (members_of l)) (map-append (term_of 0) (take i members) (get_or members i item ∷ []))
    ∙ classes_in-append (map (term_of 0) (take i members)) (term_of 0 (get_or members i item))
    ∙ ap (λ e. both_classes (classes_in (members_of (map (term_of 0) (take i members)))) (class_in (term_of 0 e))) (sym is)

-- the class of what stands there
pub one_class : (built : Bool) (meaning : Meaning) (held : Content) (expr : Expr) → held ≡ content.One expr → IsContent built meaning held
    → class_in (term_of 0 expr) ≡ meant_class meaning
one_class built meaning held expr same is = ap class_in (one_whole built meaning held expr same is)

pub row_class : (built : Bool) (meaning : Meaning) (held : Content) (members : Vec Expr Global) → held ≡ content.Row members → IsContent built meaning held
    → meant_class meaning ≡ None
row_class built meaning held members same is = ap (λ shape. class_in (whole shape)) (subst (IsContent built meaning) same is)

pub choice_class : (built : Bool) (meaning : Meaning) (held : Content) (members : Vec Expr Global) → held ≡ content.Choice members → IsContent built meaning held
    → meant_class meaning ≡ classes_in (members_of (map (term_of 0) members.items))
choice_class built meaning held members same is = ap (λ shape. class_in (whole shape)) (subst (IsContent built meaning) same is)

-- the class of alternatives
pub has_choice : (both : Option (List Range)) (first second : Meaning) → HasPoints both (both_classes (meant_class first) (meant_class second))
    → HasPoints both (meant_class (alternated first second))
has_choice both first second has =
    subst (HasPoints both) (sym (class_in-choice first.shape (whole second.shape))) has

-- one alternative more
pub choice_more : (first second : Meaning) (members all : List Expr) (expr : Expr) → all ≡ members ++ expr ∷ []
    → map (term_of 0) members ≡ in_choice first.shape → term_of 0 expr ≡ term_of_meaning second
    → choice (in_choice first.shape ++ whole second.shape ∷ []) ≡ choice (map (term_of 0) all)
choice_more first second members all expr same left right =
    sym (ap choice
    (ap (map (term_of 0)) same ∙ map-append (term_of 0) members (expr ∷ []) ∙ ap₂ (λ l t. l ++ t ∷ []) left right))

pub sizes-more : (members all : List Expr) (expr : Expr) → all ≡ members ++ expr ∷ [] → sum (map size_of all) ≡ sum (map size_of members) + size_of expr
sizes-more members all expr same =
    let all_of = sum-map size_of (members ++ expr ∷ []) in
    let some_of = sum-map size_of members in
    let both = sum_by-append size_of members (expr ∷ []) in
    let last = sum_by-cons size_of expr [] in
    ap (λ l. sum (map size_of l)) same ∙ omega (arith, all_of, some_of, both, last)

pub below-more : (bound : ℕ) (members all : List Expr) (expr : Expr) → all ≡ members ++ expr ∷ []
    → HaveTagsBelow 1 bound (members_of (map (term_of 0) members)) → HasTagsBelow 1 bound (term_of 0 expr)
    → HaveTagsBelow 1 bound (members_of (map (term_of 0) all))
below-more bound members all expr same left right = subst (λ l. HaveTagsBelow 1 bound (members_of (map (term_of 0) l))) (sym same) (go members left)
  where
    go : (l : List Expr) → HaveTagsBelow 1 bound (members_of (map (term_of 0) l)) → HaveTagsBelow 1 bound (members_of (map (term_of 0) (l ++ expr ∷ [])))
    go [] is = (right, tt)
    go (first ∷ l) is = (is.0, go l is.1)

-- a sequence, and something behind it
pub row_more : (first second : Meaning) (front back all : List Expr) → all ≡ front ++ back
    → map (term_of 0) front ≡ in_row first.shape → map (term_of 0) back ≡ in_row second.shape
    → row (in_row first.shape ++ in_row second.shape) ≡ row (map (term_of 0) all)
row_more first second front back all same left right =
    sym (ap row (ap (map (term_of 0)) same ∙ map-append (term_of 0) front back ∙ ap₂ (λ l r. l ++ r) left right))

pub below-both : (bound : ℕ) (front back all : List Expr) → all ≡ front ++ back → HaveTagsBelow 1 bound (members_of (map (term_of 0) front))
    → HaveTagsBelow 1 bound (members_of (map (term_of 0) back)) → HaveTagsBelow 1 bound (members_of (map (term_of 0) all))
below-both bound front back all same left right = subst (λ l. HaveTagsBelow 1 bound (members_of (map (term_of 0) l))) (sym same) (go front left)
  where
    go : (l : List Expr) → HaveTagsBelow 1 bound (members_of (map (term_of 0) l)) → HaveTagsBelow 1 bound (members_of (map (term_of 0) (l ++ back)))
    go [] is = right
    go (first ∷ l) is = (is.0, go l is.1)

-- a repetition
pub repeated_one : (meaning : Meaning) (body : Expr) (held : Box Expr Global) (low : ℕ) (high most : Option ℕ) → held.value ≡ body → most ≡ high
    → term_of 0 body ≡ term_of_meaning meaning → one (repeat (whole meaning.shape) low high) ≡ one (term_of 0 (Rep held low most))
repeated_one meaning body held low high most same bound is =
    sym (ap one (term_of-rep 0 held low most ∙ ap₂ (λ e h. repeat e low h) (ap (term_of 0) same ∙ is) bound))

-- a group
pub grouped_one : (meaning : Meaning) (body : Expr) (held : Box Expr Global) (before : ℕ) → before < 128 → held.value ≡ body
    → term_of 0 body ≡ term_of_meaning meaning
    → (grouped (kept (suc before)) meaning).shape ≡ one (term_of 0 (Group (before + 1) held))
grouped_one meaning body held before few same is =
    let opening : 0 + 2 * (before + 1) ≡ 2 * kept (suc before) = omega (arith, few) in
    let closing : 0 + 2 * (before + 1) + 1 ≡ 2 * kept (suc before) + 1 = omega (arith, few) in
    sym (ap one
    (term_of-group 0 (before + 1) held ∙ ap₂ (λ a b. group a b (term_of 0 held.value)) opening closing
    ∙ ap (group (2 * kept (suc before)) (2 * kept (suc before) + 1)) (ap (term_of 0) same ∙ is)))

pub grouped_below : (bound : ℕ) (body : Expr) (held : Box Expr Global) (before : ℕ) → held.value ≡ body → 2 * suc before ≤ bound
    → HasTagsBelow 1 bound (term_of 0 body) → HasTagsBelow 1 bound (term_of 0 (Group (before + 1) held))
grouped_below bound body held before same few below =
    subst (HasTagsBelow 1 bound) (sym (term_of-group 0 (before + 1) held))
    (omega arith, omega (arith, few), subst (λ e. HasTagsBelow 1 bound (term_of 0 e)) (sym same) below)

-- what is kept of what is built, and past the limits
pub kept_fits : (found : Option Expr) (held : Content) (size count : ℕ) → 1 ≤ size → content_size held ≤ size → AreTagsBelow count held
    → IfSome found (λ e. size_of e ≡ content_size held) → IfSome found (λ e. HasTagsBelow 1 count (term_of 0 e)) → FitsKept 1 found size count
kept_fits None held size count some small below same tags = some
kept_fits (Some expr) held size count some small below same tags = (some, omega (arith, same, small), tags)

-- and so it is within a greater count
pub fits_counted : (first : ℕ) (found : Option Expr) (size less more : ℕ) → less ≤ more → FitsKept first found size less → FitsKept first found size more
fits_counted first None size less more le fits = fits
fits_counted first (Some expr) size less more le fits = (fits.0, fits.1, HasTagsBelow-greater first less more (term_of 0 expr) le fits.2)

pub not_past : (held : Content) → ((set : Option (List Range)) (alternatives : Bool) → held ≡ content.Past set alternatives → ⊥) → is_past held ≡ false
not_past (content.One expr) free = refl
not_past (content.Row members) free = refl
not_past (content.Choice members) free = refl
not_past (content.Past set alternatives) free = absurd (free set alternatives refl)

pub term_kept : (built : Bool) (meaning : Meaning) (held : Content) (found : Option Expr) → is_past held ≡ not built → is_past held ≡ false
    → IfNone found (is_past held ≡ true) → IfSome found (λ e. term_of 0 e ≡ term_of_meaning meaning)
    → IsTermKept built meaning (option_map (term_of 0) found)
term_kept true meaning held None past kept none some = absurd (let h : false ≡ true = sym kept ∙ none in cc)
term_kept true meaning held (Some expr) past kept none some = ap Some some
term_kept false meaning held found past kept none some = absurd (let h : false ≡ true = sym kept ∙ past in cc)

pub class_kept : (built : Bool) (meaning : Meaning) (held : Content) (collected set : List Range) (alternatives : Bool) (expr : Term)
    → held ≡ content.Past (Some collected) alternatives → IsContent built meaning held → IsCanonical set → HaveSamePoints collected set
    → expr ≡ class (ranges_of set) → IsTermKept built meaning (Some expr)
class_kept built meaning held collected set alternatives expr same is canonical points term =
    let past = subst (IsContent built meaning) same is in
    subst (λ b. IsTermKept b meaning (Some expr)) (sym past.0) (set, has_class collected set (meant_class meaning) past.1 canonical points, term)

pub none_kept : (built : Bool) (meaning : Meaning) (held : Content) (alternatives : Bool) → held ≡ content.Past None alternatives
    → IsContent built meaning held → IsTermKept built meaning None
none_kept built meaning held alternatives same is =
    let past = subst (IsContent built meaning) same is in
    subst (λ b. IsTermKept b meaning None) (sym past.0) (at (meant_class meaning) past.1)
  where
    at : (ranges : Option (List (ℕ × ℕ))) → HasPoints None ranges → ranges ≡ None
    at None has = refl
    at (Some ranges) has = absurd has

-- an alternation that is one already counts nothing more
pub choice_more-none : (built : Bool) (meaning : Meaning) (held : Content) → IsContent built meaning held → true ≡ is_choice_content held
    → 0 ≡ choice_size meaning.shape
choice_more-none built meaning held is alternatives = at meaning.shape (alternatives ∙ choice_content built meaning held is)
  where
    at : (shape : Shape) → true ≡ is_choice shape → 0 ≡ choice_size shape
    at (one term) on = absurd (let h : true ≡ false = on in cc)
    at (row terms) on = absurd (let h : true ≡ false = on in cc)
    at (choice terms) on = refl

pub choice_more-one : (built : Bool) (meaning : Meaning) (held : Content) → IsContent built meaning held → false ≡ is_choice_content held
    → 1 ≡ choice_size meaning.shape
choice_more-one built meaning held is alternatives = at meaning.shape (alternatives ∙ choice_content built meaning held is)
  where
    at : (shape : Shape) → false ≡ is_choice shape → 1 ≡ choice_size shape
    at (one term) off = refl
    at (row terms) off = refl
    at (choice terms) off = absurd (let h : false ≡ true = off in cc)
