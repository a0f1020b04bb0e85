-- Which forms have a tree without units.
use Rattle.std.proofs.Common.{◌≡◌, ℕ, zero, suc, ◌+◌, ◌<◌, ◌≤◌, ◌⊎◌, ◌↔◌, arith, IsTrue, Bool, true, false, List, [], ◌∷◌, ◌++◌, map, length, get_or, drop, Some, None, Option, Vec, Box, Global, refl, sym, ap, ap₂, ◌∙◌, subst, append-nil, inl, inr, ⊎_elim}
use Rattle.std.proofs.Math.ListN.{drop_of_length-le}
use Rattle.std.proofs.Math.Seq.{drop-cons}
use Rattle.std.specs.Prelude.{nat_eq, nat_le, if◌then◌else◌}
use Rattle.lx_base.specs.declared.settings.Enc.{Enc}
use Rattle.lx_base.specs.Spelling.{spell}
use Rattle.lx_regex.specs.Term.{Term, class, any_unit, cat, alt, repeat, group, Terms, nil, cons, parts, IsAtMost}
use Rattle.lx_regex.specs.Tree.{Tree, blank, point, unit, row, chosen, iterations, event, inside, Row, row_end, beside, Choice, here, later, Iterations, stop, iteration}
use Rattle.lx_regex.specs.Script.{Symbol, ends, leaf_choice, may_iterate, copy_part, script, row_script, choice_script, iterations_script, tags_in, tags_beside, units}
use Rattle.lx_regex.specs.Least.{HasTree, HasEmptyRow, HasEmptyChoice}
use Rattle.lx_class.specs.declared.ranges.Range.{Range}
use Rattle.lx_regex.specs.Expr.{members_of, ranges_of, term_of}
use Rattle.lx_regex.specs.declared.expr.Expr.{Expr}
use Rattle.lx_regex.specs.declared.expr.Expr.TheVariants.{Empty, Class, AnyUnit, Cat, Alt, Rep, STag, MTag, Group}
use Rattle.lx_regex.proofs.Trees.Folds.{term_of-empty, term_of-class, term_of-any_unit, term_of-cat, term_of-alt, term_of-rep, term_of-stag, term_of-mtag, term_of-group}
use Rattle.lx_regex.proofs.Walks.PlainWalk.{units_append, units_label}
use Rattle.lx_regex.proofs.Walks.TreeWalk.{stop_label, iteration_label, stop_move, iteration_move}
use Rattle.lx_regex.specs.Automaton.{leaf, move}
use Rattle.lx_regex.proofs.Walks.Readings.{code_quiet, code_some}
use Rattle.lx_regex.specs.Reading.{IsReading, of_point}
use Rattle.lx_regex.proofs.Walks.Fronts.{units_reads}

front_empty : (a b : List ℕ) → a ++ b ≡ [] → a ≡ []
front_empty [] b e = refl
front_empty (x ∷ a) b e = cc

back_empty : (a b : List ℕ) → a ++ b ≡ [] → b ≡ []
back_empty [] b e = e
back_empty (x ∷ a) b e = cc

pub class_reads : (enc : Enc) (part : ℕ) (ranges : List (ℕ × ℕ)) → HasTree enc part (class ranges) [] → ⊥
class_reads enc part ranges has = at has.0 has.1
  where
    at : (tree : Tree (class ranges)) → units (script enc part tree) ≡ [] → ⊥
    at (point number within) e =
        let reading : IsReading enc (leaf ranges) (leaf_choice enc ranges number) (spell enc number) = of_point number within in
        let some = code_some enc reading in
        let says : spell enc number ++ [] ≡ [] =
        sym (units_append (leaf_choice enc ranges number) _ ∙ ap₂ (λ a b. a ++ b) (code_quiet enc reading) (units_reads (spell enc number) (ends part ∷ [])))
        ∙ e in
        let none : some.0 ∷ some.1 ≡ [] = sym some.2 ∙ front_empty (spell enc number) [] says in
        cc

pub any_unit_reads : (enc : Enc) (part : ℕ) → HasTree enc part any_unit [] → ⊥
any_unit_reads enc part has = at has.0 has.1
  where
    at : (tree : Tree any_unit) → units (script enc part tree) ≡ [] → ⊥
    at (unit number) e = cc

pub cat_row : (enc : Enc) (part : ℕ) (members : Terms) → HasTree enc part (cat members) [] → HasEmptyRow enc (part + 1) members
cat_row enc part members has = at has.0 has.1
  where
    at : (tree : Tree (cat members)) → units (script enc part tree) ≡ [] → HasEmptyRow enc (part + 1) members
    at (row trees) e = (
      trees,
      front_empty
          (units (row_script enc (part + 1) trees)) []
          (sym (units_append (row_script enc (part + 1) trees) (ends part ∷ [])) ∙ e),
    )

pub row_cat : (enc : Enc) (part : ℕ) (members : Terms) → HasEmptyRow enc (part + 1) members → HasTree enc part (cat members) []
row_cat enc part members has =
    (row has.0, units_append (row_script enc (part + 1) has.0) (ends part ∷ []) ∙ ap (λ l. l ++ []) has.1)

pub row_first : (enc : Enc) (part : ℕ) (member : Term) (members : Terms) → HasEmptyRow enc part (cons member members)
    → HasTree enc part member [] × HasEmptyRow enc (part + parts member) members
row_first enc part member members has = at has.0 has.1
  where
    at : (trees : Row (cons member members)) → units (row_script enc part trees) ≡ []
        → HasTree enc part member [] × HasEmptyRow enc (part + parts member) members
    at (beside tree trees) e =
        let both : units (script enc part tree) ++ units (row_script enc (part + parts member) trees) ≡ [] =
        sym (units_append (script enc part tree) _) ∙ e in
        ((tree, front_empty _ _ both), (trees, back_empty (units (script enc part tree)) _ both))

pub row_more : (enc : Enc) (part : ℕ) (member : Term) (members : Terms) → HasTree enc part member []
    → HasEmptyRow enc (part + parts member) members → HasEmptyRow enc part (cons member members)
row_more enc part member members has more = (
  beside has.0 more.0,
  units_append (script enc part has.0) (row_script enc (part + parts member) more.0) ∙ ap₂ (λ a b. a ++ b) has.1 more.1,
)

units_end : (a : List Symbol) (part : ℕ) → units (a ++ ends part ∷ []) ≡ [] → units a ≡ []
units_end a part e = front_empty (units a) [] (sym (units_append a (ends part ∷ [])) ∙ e)

end_units : (a : List Symbol) (part : ℕ) → units a ≡ [] → units (a ++ ends part ∷ []) ≡ []
end_units a part e = units_append a (ends part ∷ []) ∙ ap (λ l. l ++ []) e

pub alt_choice : (enc : Enc) (part : ℕ) (members : Terms) → HasTree enc part (alt members) [] → HasEmptyChoice enc (part + 1) members
alt_choice enc part members has = at has.0 has.1
  where
    at : (tree : Tree (alt members)) → units (script enc part tree) ≡ [] → HasEmptyChoice enc (part + 1) members
    at (chosen choice) e =
        (choice, units_end (choice_script enc (part + 1) choice) part (sym (units_label (move None [] (tags_beside choice) 0) _) ∙ e))

pub choice_alt : (enc : Enc) (part : ℕ) (members : Terms) → HasEmptyChoice enc (part + 1) members → HasTree enc part (alt members) []
choice_alt enc part members has =
    (chosen has.0, units_label (move None [] (tags_beside has.0) 0) _ ∙ end_units (choice_script enc (part + 1) has.0) part has.1)

pub choice_first : (enc : Enc) (part : ℕ) (member : Term) (members : Terms) → HasEmptyChoice enc part (cons member members)
    → HasTree enc part member [] ⊎ HasEmptyChoice enc (part + parts member) members
choice_first enc part member members has = at has.0 has.1
  where
    at : (choice : Choice (cons member members)) → units (choice_script enc part choice) ≡ []
        → HasTree enc part member [] ⊎ HasEmptyChoice enc (part + parts member) members
    at (here tree) e = inl (tree, e)
    at (later choice) e = inr (choice, e)

choice_none : (enc : Enc) (part : ℕ) → HasEmptyChoice enc part nil → ⊥
choice_none enc part has = at has.0
  where
    at : Choice nil → ⊥
    at choice = elim choice [ ]

pub group_body : (enc : Enc) (part opening closing : ℕ) (body : Term) → HasTree enc part (group opening closing body) []
    → HasTree enc (part + 1) body []
group_body enc part opening closing body has = at has.0 has.1
  where
    at : (tree : Tree (group opening closing body)) → units (script enc part tree) ≡ [] → HasTree enc (part + 1) body []
    at (inside tree) e = (tree, front_empty (units (script enc (part + 1) tree)) [] (sym (units_append (script enc (part + 1) tree) _) ∙ e))

pub body_group : (enc : Enc) (part opening closing : ℕ) (body : Term) → HasTree enc (part + 1) body []
    → HasTree enc part (group opening closing body) []
body_group enc part opening closing body has =
    (inside has.0, units_append (script enc (part + 1) has.0) _ ∙ ap (λ l. l ++ []) has.1)

at_most-trans : (a b : ℕ) (high : Option ℕ) → a ≤ b → IsAtMost b high → IsAtMost a high
at_most-trans a b None le h = tt
at_most-trans a b (Some most) le h = omega arith

-- a repetition without units has enough iterations, and where it has one, its body has a tree without units
pub repeat_body : (enc : Enc) (part : ℕ) (body : Term) (low : ℕ) (high : Option ℕ) → HasTree enc part (repeat body low high) []
    → IsAtMost low high × ((low ≡ 0) ⊎ ((place : ℕ) × HasTree enc place body []))
repeat_body enc part body low high has = at has.0 has.1
  where
    some : (count : ℕ) (trees : Iterations body count) → low ≤ count → units (iterations_script enc part low high 0 trees) ≡ []
        → (low ≡ 0) ⊎ ((place : ℕ) × HasTree enc place body [])
    some zero stop least e = inl (omega arith)
    some (suc count) (iteration tree trees) least e =
        let says : units (script enc (copy_part part body low high 0) tree ++ iterations_script enc part low high 1 trees) ≡ [] =
        sym (units_label (iteration_move (nat_le low 0) 0) _) ∙ ap units (iteration_label (nat_le low 0) 0 _) ∙ e in
        inr (copy_part part body low high 0, (tree, front_empty _ _ (sym (units_append (script enc (copy_part part body low high 0) tree) _) ∙ says)))

    at : (tree : Tree (repeat body low high)) → units (script enc part tree) ≡ []
        → IsAtMost low high × ((low ≡ 0) ⊎ ((place : ℕ) × HasTree enc place body []))
    at (iterations count trees least most) e =
        (at_most-trans low count high least most, some count trees least (units_end (iterations_script enc part low high 0 trees) part e))

-- so many iterations without units
abbrev HasIterations : Enc → (part : ℕ) → (body : Term) → (low : ℕ) → (high : Option ℕ) → (done count : ℕ) → Type 0
HasIterations enc part body low high done count =
    (trees : Iterations body count) × (units (iterations_script enc part low high done trees) ≡ [])

iterations_of : (enc : Enc) (part : ℕ) (body : Term) (low : ℕ) (high : Option ℕ) (done count : ℕ)
    → ((place : ℕ) → HasTree enc place body []) → HasIterations enc part body low high done count
iterations_of enc part body low high done zero has =
    (stop, ap units (sym (append-nil _) ∙ sym (stop_label (may_iterate done high) (nat_eq done 0) (tags_in body) 0 [])) ∙ units_label (stop_move (may_iterate done high) (if nat_eq done 0 then tags_in body else []) 0) [])
iterations_of enc part body low high done (suc count) has =
    let more = iterations_of enc part body low high (suc done) count has in
    let one = has (copy_part part body low high done) in (
      iteration one.0 more.0,
      ap units (sym (iteration_label (nat_le low done) 0 _)) ∙ units_label (iteration_move (nat_le low done) 0) _
          ∙ units_append (script enc (copy_part part body low high done) one.0) _ ∙ ap₂ (λ a b. a ++ b) one.1 more.1,
    )

pub body_repeat : (enc : Enc) (part : ℕ) (body : Term) (low : ℕ) (high : Option ℕ) → IsAtMost low high
    → ((low ≡ 0) ⊎ ((place : ℕ) → HasTree enc place body [])) → HasTree enc part (repeat body low high) []
body_repeat enc part body low high most (inl none) =
    let trees = iterations_of enc part body low high 0 0 in
    let no : (trees : Iterations body 0) × (units (iterations_script enc part low high 0 trees) ≡ []) =
    (stop, ap units (sym (append-nil _) ∙ sym (stop_label (may_iterate 0 high) true (tags_in body) 0 [])) ∙ units_label (stop_move (may_iterate 0 high) (tags_in body) 0) []) in
    (iterations 0 no.0 (omega arith) (at_most-trans 0 low high (omega arith) most), end_units (iterations_script enc part low high 0 no.0) part no.1)
body_repeat enc part body low high most (inr has) =
    let trees = iterations_of enc part body low high 0 low has in
    (iterations low trees.0 (omega arith) most, end_units (iterations_script enc part low high 0 trees.0) part trees.1)

-- the terms of expressions of a rule with so many tags
abbrev pub terms_in : ℕ → List Expr → Terms
terms_in tags members = members_of (map (λ e. term_of tags e) members)

-- the members of a sequence of expressions have a row without units, from every part on
abbrev pub AreNullable : List Expr → Type 0
AreNullable members = (enc : Enc) (tags part : ℕ) → HasEmptyRow enc part (terms_in tags members)

-- and if one member has no tree without units, they have none
pub row_at : (enc : Enc) (tags part : ℕ) (members : List Expr) (i : ℕ) (member : Expr) → i < length members → member ≡ get_or members i member
    → HasEmptyRow enc part (terms_in tags members) → (place : ℕ) × HasTree enc place (term_of tags member) []
row_at enc tags part [] i member lt is has = absurd (omega arith)
row_at enc tags part (x ∷ members) zero member lt is has =
    subst (λ y. (place : ℕ) × HasTree enc place (term_of tags y) []) (sym is) (part, (row_first enc part (term_of tags x) _ has).0)
row_at enc tags part (x ∷ members) (suc i) member lt is has =
    row_at enc tags (part + parts (term_of tags x)) members i member (omega arith) is (row_first enc part (term_of tags x) _ has).1

pub choice_at : (enc : Enc) (tags part : ℕ) (members : List Expr) (i : ℕ) (member : Expr) → i < length members → member ≡ get_or members i member
    → ((place : ℕ) → HasTree enc place (term_of tags member) []) → HasEmptyChoice enc part (terms_in tags members)
choice_at enc tags part [] i member lt is has = absurd (omega arith)
choice_at enc tags part (x ∷ members) zero member lt is has =
    let one = subst (λ y. HasTree enc part (term_of tags y) []) is (has part) in (here one.0, one.1)
choice_at enc tags part (x ∷ members) (suc i) member lt is has =
    let one = choice_at enc tags (part + parts (term_of tags x)) members i member (omega arith) is has in (later one.0, one.1)

-- the answer tells whether the expression has a tree without units
abbrev pub IsAnswer : Bool → Expr → Type 0
IsAnswer answer e = (enc : Enc) (tags part : ℕ) → IsTrue answer ↔ HasTree enc part (term_of tags e) []

pub not_true : IsTrue false → ⊥
not_true h = cc

-- one answer for a fact
pub yes : {A : Type 0} → A → IsTrue true ↔ A
yes a = ((λ h. a), (λ h. refl))

pub no : {A : Type 0} → (A → ⊥) → IsTrue false ↔ A
no f = ((λ (h : IsTrue false). absurd (not_true h)), (λ a. absurd (f a)))

-- the answer for a term is that for an expression which has it
pub answer_for : (answer : Bool) (e form : Expr) (term : ℕ → Term) → e ≡ form → ((tags : ℕ) → term_of tags form ≡ term tags)
    → ((enc : Enc) (tags part : ℕ) → IsTrue answer ↔ HasTree enc part (term tags) []) → IsAnswer answer e
answer_for answer e form term is folds answers enc tags part =
    subst (λ y. IsTrue answer ↔ HasTree enc part y []) (sym (ap (λ y. term_of tags y) is ∙ folds tags)) (answers enc tags part)

pub answer-empty : (e : Expr) → e ≡ Empty → IsAnswer true e
answer-empty e is = answer_for true e Empty _ is term_of-empty (λ enc tags part. yes (blank, refl))

pub answer-class : (e : Expr) (set : List Range) → e ≡ Class set → IsAnswer false e
answer-class e set is =
    answer_for false e (Class set) _ is (λ tags. term_of-class tags set) (λ enc tags part. no (class_reads enc part (ranges_of set)))

pub answer-any_unit : (e : Expr) → e ≡ AnyUnit → IsAnswer false e
answer-any_unit e is = answer_for false e AnyUnit _ is term_of-any_unit (λ enc tags part. no (any_unit_reads enc part))

pub answer-stag : (e : Expr) (number : ℕ) → e ≡ STag number → IsAnswer true e
answer-stag e number is =
    answer_for true e (STag number) _ is (λ tags. term_of-stag tags number) (λ enc tags part. yes (event, refl))

pub answer-mtag : (e : Expr) (number : ℕ) → e ≡ MTag number → IsAnswer true e
answer-mtag e number is =
    answer_for true e (MTag number) _ is (λ tags. term_of-mtag tags number) (λ enc tags part. yes (event, refl))

pub answer-cat : (answer : Bool) (e : Expr) (members : Vec Expr Global) → e ≡ Cat members
    → ((enc : Enc) (tags part : ℕ) → IsTrue answer ↔ HasEmptyRow enc part (terms_in tags members.items)) → IsAnswer answer e
answer-cat answer e members is all =
    answer_for answer e (Cat members) _ is (λ tags. term_of-cat tags members) (λ enc tags part.
    ((λ h. row_cat enc part _ ((all enc tags (part + 1)).0 h)), (λ h. (all enc tags (part + 1)).1 (cat_row enc part _ h))))

pub answer-alt : (answer : Bool) (e : Expr) (members : Vec Expr Global) → e ≡ Alt members
    → ((enc : Enc) (tags part : ℕ) → IsTrue answer ↔ HasEmptyChoice enc part (terms_in tags members.items)) → IsAnswer answer e
answer-alt answer e members is some =
    answer_for answer e (Alt members) _ is (λ tags. term_of-alt tags members) (λ enc tags part.
    ((λ h. choice_alt enc part _ ((some enc tags (part + 1)).0 h)), (λ h. (some enc tags (part + 1)).1 (alt_choice enc part _ h))))

pub answer-group : (answer : Bool) (e : Expr) (number : ℕ) (body : Box Expr Global) → e ≡ Group number body → IsAnswer answer body.value
    → IsAnswer answer e
answer-group answer e number body is inner =
    answer_for answer e (Group number body) _ is (λ tags. term_of-group tags number body) (λ enc tags part.
    ((λ h. body_group enc part _ _ _ ((inner enc tags (part + 1)).0 h)), (λ h. (inner enc tags (part + 1)).1 (group_body enc part _ _ _ h))))

-- a repetition that may have no iteration
pub answer-none : (e : Expr) (body : Box Expr Global) (low : ℕ) (high : Option ℕ) → e ≡ Rep body low high → IsAtMost low high → low ≡ 0
    → IsAnswer true e
answer-none e body low high is most none =
    answer_for true e (Rep body low high) _ is (λ tags. term_of-rep tags body low high) (λ enc tags part.
    yes (body_repeat enc part _ low high most (inl none)))

-- one that has to have some
pub answer-some : (answer : Bool) (e : Expr) (body : Box Expr Global) (low : ℕ) (high : Option ℕ) → e ≡ Rep body low high → IsAtMost low high
    → (low ≡ 0 → ⊥) → IsAnswer answer body.value → IsAnswer answer e
answer-some answer e body low high is most some inner =
    answer_for answer e (Rep body low high) _ is (λ tags. term_of-rep tags body low high) (λ enc tags part. (
      (λ h. body_repeat enc part _ low high most (inr (λ place. (inner enc tags place).0 h))),
      (λ h. ⊎_elim (λ none. absurd (some none)) (λ has. (inner enc tags has.0).1 has.1) (repeat_body enc part _ low high h).1),
    ))

pub next_member : (members : List Expr) (i : ℕ) (member : Expr) → i < length members → member ≡ get_or members i member
    → drop i members ≡ member ∷ drop (suc i) members
next_member members i member lt is = drop-cons members i member lt ∙ ap (λ y. y ∷ drop (suc i) members) (sym is)

pub nullable_more : (members : List Expr) (i : ℕ) (member : Expr) → i < length members → member ≡ get_or members i member
    → IsAnswer true member → AreNullable (drop (suc i) members) → AreNullable (drop i members)
nullable_more members i member lt is answer more =
    subst AreNullable
    (sym (next_member members i member lt is))
    (λ enc tags part.
    row_more enc part
    (term_of tags member) _ ((answer enc tags part).0 refl) (more enc tags (part + parts (term_of tags member))))

pub nullable_end : (members : List Expr) (i : ℕ) → length members ≤ i → AreNullable (drop i members)
nullable_end members i le = subst AreNullable (sym (drop_of_length-le members le)) (λ enc tags part. (row_end, refl))

-- a choice among members lies among those behind the first ones, if these are not nullable
abbrev pub LiesBehind : (i : ℕ) → List Expr → Type 0
LiesBehind i members = (enc : Enc) (tags part : ℕ) → HasEmptyChoice enc part (terms_in tags members)
    → (place : ℕ) × HasEmptyChoice enc place (terms_in tags (drop i members))

pub behind_more : (members : List Expr) (i : ℕ) (member : Expr) → i < length members → member ≡ get_or members i member
    → IsAnswer false member → LiesBehind i members → LiesBehind (suc i) members
behind_more members i member lt is answer behind enc tags part has =
    let r = behind enc tags part has in
    let c = subst (λ l. HasEmptyChoice enc r.0 (terms_in tags l)) (next_member members i member lt is) r.1 in
    ⊎_elim
    (λ h. absurd (not_true ((answer enc tags r.0).1 h)))
    (λ h. (r.0 + parts (term_of tags member), h)) (choice_first enc r.0 (term_of tags member) _ c)

pub behind_end : (members : List Expr) (i : ℕ) → length members ≤ i → LiesBehind i members → (enc : Enc) (tags part : ℕ)
    → IsTrue false ↔ HasEmptyChoice enc part (terms_in tags members)
behind_end members i le behind enc tags part = no (λ has.
    let r = behind enc tags part has in
    choice_none enc r.0 (subst (λ l. HasEmptyChoice enc r.0 (terms_in tags l)) (drop_of_length-le members le) r.1))
