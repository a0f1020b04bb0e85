-- Lists of parts that grow, expression by expression.
use Rattle.std.proofs.Common.{◌≡◌, ℕ, suc, ◌+◌, ◌-◌, ◌*◌, ◌/◌, ◌<◌, ◌≤◌, arith, List, [], ◌∷◌, ◌++◌, map, length, get_or, drop, refl, sym, ap, ap₂, ◌∙◌, append_assoc, append-nil, length-append, ◌⊎◌, ⊎_elim}
use Rattle.std.proofs.lemmas.List.{map-append, length-map}
use Rattle.std.proofs.Math.ListN.{drop_of_length-le}
use Rattle.lx_class.specs.declared.ranges.Range.{Range}
use Rattle.lx_regex.specs.Term.{Term, empty, class, any_unit, cat, alt, repeat, tag, group, copies, parts, parts_of_all}
use Rattle.lx_regex.specs.Parts.{Part, copied_parts, parts_in, parts_among}
use Rattle.lx_regex.specs.PartList.{own_sort, set_of, shown, shown_sort}
use Rattle.lx_regex.specs.Expr.{ranges_of, term_of}
use Rattle.lx_regex.specs.declared.expr.Expr.{Expr}
use Rattle.lx_regex.specs.declared.expr.Expr.TheVariants.{Empty, Class, AnyUnit, STag, MTag}
use Rattle.lx_regex.specs.declared.parts.Part as program
use Rattle.lx_regex.specs.declared.parts.PartSort.{PartSort}
use Rattle.lx_regex.proofs.Trees.Folds.{term_of-empty, term_of-class, term_of-any_unit, term_of-stag, term_of-mtag}
use Rattle.lx_regex.proofs.Trees.NoUnits.{terms_in, next_member}
use Rattle.lx_regex.proofs.PartTables.PartCount.{part_count, among_count, copied_count}

-- the sort of an expression, by its term
pub sort_for : (sort : PartSort) (e form : Expr) (term : ℕ → Term) → e ≡ form → ((tags : ℕ) → term_of tags form ≡ term tags)
    → ((tags : ℕ) → sort ≡ shown_sort tags (own_sort (term tags))) → (tags : ℕ) → sort ≡ shown_sort tags (own_sort (term_of tags e))
sort_for sort e form term is folds same tags =
    same tags ∙ ap (λ y. shown_sort tags (own_sort y)) (sym (ap (λ y. term_of tags y) is ∙ folds tags))

pub set_of-ranges_of : (set : List Range) → set_of (ranges_of set) ≡ set
set_of-ranges_of [] = refl
set_of-ranges_of (range ∷ set) = ap (λ l. range ∷ l) (set_of-ranges_of set)

pub group_number : (tags number : ℕ) → (tags + 2 * number - tags) / 2 ≡ number
group_number tags number = omega arith

-- the parts that stand in a term
abbrev pub inner_parts : (rule part : ℕ) → Term → List Part
inner_parts rule part empty = []
inner_parts rule part (class ranges) = []
inner_parts rule part any_unit = []
inner_parts rule part (cat members) = parts_among rule part 0 (part + 1) members
inner_parts rule part (alt members) = parts_among rule part 0 (part + 1) members
inner_parts rule part (repeat body low high) =
    copied_parts (λ number copy. parts_in rule part number copy body) (parts body) (copies low high) 0 (part + 1)
inner_parts rule part (tag number) = []
inner_parts rule part (group opening closing body) = parts_in rule part 0 (part + 1) body

parts_in-own : (rule up child part : ℕ) (e : Term)
    → parts_in rule up child part e ≡ record { rule = rule; up = up; child = child; sort = own_sort e } ∷ inner_parts rule part e
parts_in-own rule up child part empty = refl
parts_in-own rule up child part (class ranges) = refl
parts_in-own rule up child part any_unit = refl
parts_in-own rule up child part (cat members) = refl
parts_in-own rule up child part (alt members) = refl
parts_in-own rule up child part (repeat body low high) = refl
parts_in-own rule up child part (tag number) = refl
parts_in-own rule up child part (group opening closing body) = refl

-- an expression's own part, and then those that stand in it
pub own_then_inner : (tags rule up child : ℕ) (e : Term) (old mid new : List program.Part) (sort : PartSort)
    → mid ≡ old ++ record { rule = rule; up = up; child = child; sort = sort } ∷ [] → sort ≡ shown_sort tags (own_sort e)
    → new ≡ mid ++ map (shown tags) (inner_parts rule (length old) e)
    → new ≡ old ++ map (shown tags) (parts_in rule up child (length old) e)
own_then_inner tags rule up child e old mid new sort pushed is rest =
    rest ∙ ap (λ l. l ++ map (shown tags) (inner_parts rule (length old) e)) pushed
    ∙ append_assoc old (record { rule = rule; up = up; child = child; sort = sort } ∷ []) (map (shown tags) (inner_parts rule (length old) e))
    ∙ ap (λ s. old ++ record { rule = rule; up = up; child = child; sort = s } ∷ map (shown tags) (inner_parts rule (length old) e)) is
    ∙ ap (λ l. old ++ map (shown tags) l) (sym (parts_in-own rule up child (length old) e))

-- the same for an expression of which it is known what it is
pub form_then_inner :
    (rule up child : ℕ) (e form : Expr) (term : ℕ → Term) (old mid new : List program.Part) (sort : PartSort) → e ≡ form
    → ((tags : ℕ) → term_of tags form ≡ term tags)
    → mid ≡ old ++ record { rule = rule; up = up; child = child; sort = sort } ∷ []
    → ((tags : ℕ) → sort ≡ shown_sort tags (own_sort (term_of tags e)))
    → ((tags : ℕ) → new ≡ mid ++ map (shown tags) (inner_parts rule (length old) (term tags)))
    → (tags : ℕ) → new ≡ old ++ map (shown tags) (parts_in rule up child (length old) (term_of tags e))
form_then_inner rule up child e form term old mid new sort is folds pushed same rest tags =
    own_then_inner tags rule up child (term_of tags e) old mid new sort pushed (same tags)
    (rest tags ∙ ap (λ y. mid ++ map (shown tags) (inner_parts rule (length old) y)) (sym (ap (λ y. term_of tags y) is ∙ folds tags)))

-- an expression in which no other stands
abbrev pub IsLeafForm : Expr → Type 0
IsLeafForm e = (e ≡ Empty) ⊎ (((set : List Range) × (e ≡ Class set)) ⊎ ((e ≡ AnyUnit) ⊎ (((number : ℕ) × (e ≡ STag number)) ⊎ ((number : ℕ) × (e ≡ MTag number)))))

pub leaf_alone :
    (rule up child : ℕ) (e : Expr) (old mid : List program.Part) (sort : PartSort) → IsLeafForm e
    → mid ≡ old ++ record { rule = rule; up = up; child = child; sort = sort } ∷ []
    → ((tags : ℕ) → sort ≡ shown_sort tags (own_sort (term_of tags e)))
    → (tags : ℕ) → mid ≡ old ++ map (shown tags) (parts_in rule up child (length old) (term_of tags e))
leaf_alone rule up child e old mid sort leaf pushed same =
    ⊎_elim (λ h. form Empty _ h term_of-empty (λ tags. refl))
    (λ h. ⊎_elim (λ h. form (Class h.0) _ h.1 (λ tags. term_of-class tags h.0) (λ tags. refl))
    (λ h. ⊎_elim (λ h. form AnyUnit _ h term_of-any_unit (λ tags. refl))
    (λ h. ⊎_elim (λ h. form (STag h.0) _ h.1 (λ tags. term_of-stag tags h.0) (λ tags. refl))
    (λ h. form (MTag h.0) _ h.1 (λ tags. term_of-mtag tags h.0) (λ tags. refl)) h) h) h) leaf
  where
    form : (f : Expr) (term : ℕ → Term) → e ≡ f → ((tags : ℕ) → term_of tags f ≡ term tags)
        → ((tags : ℕ) → inner_parts rule (length old) (term tags) ≡ [])
        → (tags : ℕ) → mid ≡ old ++ map (shown tags) (parts_in rule up child (length old) (term_of tags e))
    form f term is folds none =
        form_then_inner rule up child e f term old mid mid sort is folds pushed same
        (λ tags. sym (append-nil mid) ∙ ap (λ l. mid ++ map (shown tags) l) (sym (none tags)))

-- one more part
pub length-pushed : (old mid : List program.Part) (part : program.Part) → mid ≡ old ++ part ∷ [] → length mid ≡ length old + 1
length-pushed old mid part is = ap length is ∙ length-append old (part ∷ [])

-- what a loop over members still has to put to the end
abbrev pub MembersLeft : (rule part : ℕ) (members : List Expr) (start now : List program.Part) (child : ℕ) → Type 0
MembersLeft rule part members start now child = (tags : ℕ)
    → now ++ map (shown tags) (parts_among rule part child (length now) (terms_in tags (drop child members)))
    ≡ start ++ map (shown tags) (parts_among rule part 0 (length start) (terms_in tags members))

pub length-shown : (tags : ℕ) (now : List program.Part) (more : List Part) (count : ℕ) → length more ≡ count
    → length (now ++ map (shown tags) more) ≡ length now + count
length-shown tags now more count e = length-append now (map (shown tags) more) ∙ ap (λ n. length now + n) (length-map more (shown tags) ∙ e)

pub members_more : (rule part : ℕ) (members : List Expr) (start now new : List program.Part) (child : ℕ) (member : Expr)
    → child < length members → member ≡ get_or members child member → MembersLeft rule part members start now child
    → ((tags : ℕ) → new ≡ now ++ map (shown tags) (parts_in rule part child (length now) (term_of tags member)))
    → MembersLeft rule part members start new (suc child)
members_more rule part members start now new child member lt is left more tags =
    let e = term_of tags member in
    let rest = terms_in tags (drop (suc child) members) in
    let count : length new ≡ length now + parts e =
    ap length (more tags) ∙ length-shown tags now (parts_in rule part child (length now) e) (parts e) (part_count rule part child (length now) e) in
    ap₂ (λ a n. a ++ map (shown tags) (parts_among rule part (suc child) n rest)) (more tags) count
    ∙ append_assoc now (map (shown tags) (parts_in rule part child (length now) e)) (map (shown tags) (parts_among rule part (suc child) (length now + parts e) rest))
    ∙ ap (λ l. now ++ l)
    (sym (map-append (shown tags) (parts_in rule part child (length now) e) (parts_among rule part (suc child) (length now + parts e) rest)))
    ∙ ap (λ l. now ++ map (shown tags) (parts_among rule part child (length now) (terms_in tags l))) (sym (next_member members child member lt is))
    ∙ left tags

pub members_done : (rule part : ℕ) (members : List Expr) (start now : List program.Part) (child : ℕ) → length members ≤ child
    → MembersLeft rule part members start now child → (tags : ℕ)
    → now ≡ start ++ map (shown tags) (parts_among rule part 0 (length start) (terms_in tags members))
members_done rule part members start now child le left tags =
    sym (append-nil now)
    ∙ ap (λ l. now ++ map (shown tags) (parts_among rule part child (length now) (terms_in tags l))) (sym (drop_of_length-le members le))
    ∙ left tags

-- so many parts are there then
pub members_count : (rule part : ℕ) (members : List Expr) (start now : List program.Part) (child : ℕ)
    → MembersLeft rule part members start now child → (tags : ℕ)
    → length now + parts_of_all (terms_in tags (drop child members)) ≡ length start + parts_of_all (terms_in tags members)
members_count rule part members start now child left tags =
    sym (length-shown tags now _ _ (among_count rule part child (length now) (terms_in tags (drop child members))))
    ∙ ap length (left tags) ∙ length-shown tags start _ _ (among_count rule part 0 (length start) (terms_in tags members))

-- and there is room for the next member
pub members_room : (rule part : ℕ) (members : List Expr) (start now : List program.Part) (child : ℕ) (member : Expr)
    → child < length members → member ≡ get_or members child member → MembersLeft rule part members start now child → (tags : ℕ)
    → length now + parts (term_of tags member) ≤ length start + parts_of_all (terms_in tags members)
members_room rule part members start now child member lt is left tags =
    let next : parts_of_all (terms_in tags (drop child members)) ≡ parts (term_of tags member) + parts_of_all (terms_in tags (drop (suc child) members)) =
    ap (λ l. parts_of_all (terms_in tags l)) (next_member members child member lt is) in
    omega (arith, next, members_count rule part members start now child left tags)

-- what a loop over copies still has to put to the end
abbrev pub CopiesLeft : (rule part : ℕ) (body : Expr) (count : ℕ) (start now : List program.Part) (child left : ℕ) → Type 0
CopiesLeft rule part body count start now child left = (tags : ℕ)
    → now ++ map (shown tags) (copied_parts (λ number copy. parts_in rule part number copy (term_of tags body)) (parts (term_of tags body)) left child (length now))
    ≡ start ++ map (shown tags) (copied_parts (λ number copy. parts_in rule part number copy (term_of tags body)) (parts (term_of tags body)) count 0 (length start))

pub copies_more : (rule part : ℕ) (body : Expr) (count : ℕ) (start now new : List program.Part) (child left : ℕ)
    → CopiesLeft rule part body count start now child (suc left)
    → ((tags : ℕ) → new ≡ now ++ map (shown tags) (parts_in rule part child (length now) (term_of tags body)))
    → CopiesLeft rule part body count start new (suc child) left
copies_more rule part body count start now new child left is more tags =
    let e = term_of tags body in
    let some : ℕ → ℕ → List Part = λ number copy. parts_in rule part number copy e in
    let count : length new ≡ length now + parts e =
    ap length (more tags) ∙ length-shown tags now (parts_in rule part child (length now) e) (parts e) (part_count rule part child (length now) e) in
    ap₂ (λ a n. a ++ map (shown tags) (copied_parts some (parts e) left (suc child) n)) (more tags) count
    ∙ append_assoc now (map (shown tags) (some child (length now))) (map (shown tags) (copied_parts some (parts e) left (suc child) (length now + parts e)))
    ∙ ap (λ l. now ++ l)
    (sym (map-append (shown tags) (some child (length now)) (copied_parts some (parts e) left (suc child) (length now + parts e))))
    ∙ is tags

pub copies_count : (rule part : ℕ) (body : Expr) (count : ℕ) (start now : List program.Part) (child left : ℕ)
    → CopiesLeft rule part body count start now child left → (tags : ℕ)
    → length now + left * parts (term_of tags body) ≡ length start + count * parts (term_of tags body)
copies_count rule part body count start now child left is tags =
    let e = term_of tags body in
    sym (length-shown tags now _ _ (copied_count (λ number copy. parts_in rule part number copy e) (parts e) left child (length now) (λ number copy. part_count rule part number copy e)))
    ∙ ap length (is tags)
    ∙ length-shown tags start _ _ (copied_count (λ number copy. parts_in rule part number copy e) (parts e) count 0 (length start) (λ number copy. part_count rule part number copy e))

pub copies_done : (rule part : ℕ) (body : Expr) (count : ℕ) (start now : List program.Part) (child : ℕ)
    → CopiesLeft rule part body count start now child 0 → (tags : ℕ)
    → now ≡ start ++ map (shown tags) (copied_parts (λ number copy. parts_in rule part number copy (term_of tags body)) (parts (term_of tags body)) count 0 (length start))
copies_done rule part body count start now child left tags = sym (append-nil now) ∙ left tags

-- and there is room for the next copy
pub copies_room : (rule part : ℕ) (body : Expr) (count : ℕ) (start now : List program.Part) (child left : ℕ)
    → CopiesLeft rule part body count start now child (suc left) → (tags : ℕ)
    → length now + parts (term_of tags body) ≤ length start + count * parts (term_of tags body)
copies_room rule part body count start now child left is tags = omega (arith, copies_count rule part body count start now child (suc left) is tags)

pub parts_positive : (e : Term) → 1 ≤ parts e
parts_positive e = elim e as (λ y. 1 ≤ parts y) [
  | empty ↦ omega arith
  | class ranges ↦ omega arith
  | any_unit ↦ omega arith
  | cat members ↦ omega arith
  | alt members ↦ omega arith
  | repeat body low high ↦ omega arith
  | tag number ↦ omega arith
  | group opening closing body ↦ omega arith
]

pub length-parts_of_all : (tags : ℕ) (members : List Expr) → length members ≤ parts_of_all (terms_in tags members)
length-parts_of_all tags [] = omega arith
length-parts_of_all tags (member ∷ members) = omega (arith, parts_positive (term_of tags member), length-parts_of_all tags members)

-- the parts of an expression of which it is known what it is
pub parts-form : (e form : Expr) (term : ℕ → Term) → e ≡ form → ((tags : ℕ) → term_of tags form ≡ term tags) → (tags : ℕ)
    → parts (term_of tags e) ≡ parts (term tags)
parts-form e form term is folds tags = ap (λ y. parts (term_of tags y)) is ∙ ap parts (folds tags)
