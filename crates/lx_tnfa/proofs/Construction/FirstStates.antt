-- The states at the beginnings of expressions.
use Rattle.std.proofs.Common.{◌≡◌, ℕ, zero, suc, ◌+◌, ◌-◌, ◌*◌, ◌≤◌, min, max, arith, Bool, true, false, List, [], ◌∷◌, map, length, Option, Some, None, Vec, Box, Global, refl, sym, ap, ◌∙◌, subst}
use Rattle.std.proofs.Math.Dec.{leb-suc-zero}
use Rattle.std.specs.Prelude.{nat_eq, nat_le, if◌then◌else◌}
use Rattle.lx_base.specs.declared.settings.Enc.{Enc}
use Rattle.lx_class.specs.declared.ranges.Range.{Range}
use Rattle.lx_encode.specs.Policy.{FitsEncoding}
use Rattle.lx_regex.specs.Automaton.{iteration_moves, member_moves, moves_after, next_member, move}
use Rattle.lx_regex.specs.Expr.{term_of}
use Rattle.lx_regex.specs.Script.{may_iterate, tags_in, copy_part}
use Rattle.lx_regex.specs.Term.{Term, copies, parts}
use Rattle.lx_regex.specs.declared.expr.Expr.{Expr}
use Rattle.lx_regex.specs.declared.expr.Expr.TheVariants.{Class, Cat, Alt, Rep}
use Rattle.lx_regex.proofs.Trees.Folds.{term_of-class, term_of-cat, term_of-alt, term_of-rep}
use Rattle.lx_regex.proofs.Trees.NoUnits.{terms_in}
use Rattle.lx_regex.proofs.PartTables.PartLists.{set_of-ranges_of}
use Rattle.lx_tnfa.proofs.Construction.Members.{not_zero}
use Rattle.lx_tnfa.specs.Beginnings.{first_state}
use Rattle.lx_tnfa.specs.Classes.{HasClass}
use Rattle.lx_tnfa.specs.Moves.{counted_size, shown_move, sized_moves}
use Rattle.lx_tnfa.specs.Rows.{IsBuildable, Represents}
use Rattle.lx_tnfa.specs.declared.classes.ClassGraph.{ClassGraph}
use Rattle.lx_tnfa.specs.declared.states.Move.{Move}
use Rattle.lx_tnfa.specs.declared.states.Repeat.{Repeat}
use Rattle.lx_tnfa.specs.declared.states.State.TheVariants as held

pub counted_times : (n size : ℕ) → n * (if nat_eq n 0 then 0 else size) ≡ n * size
counted_times zero size = omega arith
counted_times (suc n) size = ap (λ b. suc n * (if b then 0 else size)) (not_zero (suc n) (λ none. omega arith))

-- where no iteration may come, no copy counts
no_copy : (enough : Bool) (tags : List ℕ) (copy other last : ℕ)
    → iteration_moves false enough tags copy last ≡ iteration_moves false enough tags other last
no_copy true tags copy other last = refl
no_copy false tags copy other last = refl

pub moves_sized : (r : Repeat) (body : Term) (done : ℕ) → r.size ≡ counted_size r.low r.high body
    → moves_after r.part body r.low r.high done ≡ sized_moves r done (if nat_eq done 0 then tags_in body else [])
moves_sized r body done size = at r.high refl
  where
    by : (n : ℕ) → (copies r.low r.high ≡ n) → nat_eq n 0 ≡ false → r.size ≡ parts body
    by n e some = size ∙ ap (λ k. if nat_eq k 0 then 0 else parts body) e ∙ ap (λ b. if b then 0 else parts body) some

    sized : r.size ≡ parts body
        → moves_after r.part body r.low r.high done ≡ sized_moves r done (if nat_eq done 0 then tags_in body else [])
    sized e =
        ap
        (λ n. iteration_moves (may_iterate done r.high) (nat_le r.low done) (if nat_eq done 0 then tags_in body else [])
        (2 * (r.part + 1 + min done (copies r.low r.high - 1) * n)) (2 * r.part + 1)) (sym e)

    some_more : (n : ℕ) → 1 ≤ n → nat_eq n 0 ≡ false
    some_more n le = not_zero n (λ e. omega arith)

    at : (high : Option ℕ) → r.high ≡ high
        → moves_after r.part body r.low r.high done ≡ sized_moves r done (if nat_eq done 0 then tags_in body else [])
    at None e = sized (by (max r.low 1) (ap (copies r.low) e) (some_more (max r.low 1) (omega arith)))
    at (Some (suc high)) e = sized (by (suc high) (ap (copies r.low) e) (some_more (suc high) (omega arith)))
    at (Some zero) e =
        let never : may_iterate done r.high ≡ false = ap (may_iterate done) e ∙ leb-suc-zero done in
        let tags : List ℕ = if nat_eq done 0 then tags_in body else [] in
        ap (λ b. iteration_moves b (nat_le r.low done) tags (2 * copy_part r.part body r.low r.high done) (2 * r.part + 1)) never
        ∙ no_copy (nat_le r.low done) tags _ _ (2 * r.part + 1)
        ∙ ap
        (λ b. iteration_moves b (nat_le r.low done) tags
        (2 * (r.part + 1 + min done (copies r.low r.high - 1) * r.size)) (2 * r.part + 1)) (sym never)

-- what holds of a term holds of that of an expression, where it is known what it is
pub for_form : (P : Term → Type 0) (tags : ℕ) (e form : Expr) (term : Term) → e ≡ form → term_of tags form ≡ term
    → P term → P (term_of tags e)
for_form P tags e form term is folds p = subst P (sym (ap (term_of tags) is ∙ folds)) p

pub from_form : (P : Term → Type 0) (tags : ℕ) (e form : Expr) (term : Term) → e ≡ form → term_of tags form ≡ term
    → P (term_of tags e) → P term
from_form P tags e form term is folds p = subst P (ap (term_of tags) is ∙ folds) p

pub class_fits : (enc : Enc) (tags : ℕ) (e : Expr) (set : List Range) → e ≡ Class set → IsBuildable enc (term_of tags e) → FitsEncoding enc set
class_fits enc tags e set is term =
    subst (FitsEncoding enc) (set_of-ranges_of set) (from_form (IsBuildable enc) tags e (Class set) _ is (term_of-class tags set) term).1

pub class_held : (classes : List ClassGraph) (tags part : ℕ) (e : Expr) (set : List Range) (number : ℕ) → e ≡ Class set
    → HasClass classes number set → Represents classes (first_state (term_of tags e) part) (held.Class number)
class_held classes tags part e set number is has =
    for_form (λ t. Represents classes (first_state t part) (held.Class number)) tags e (Class set) _ is (term_of-class tags set)
    (subst (HasClass classes number) (sym (set_of-ranges_of set)) has)

next_of : (members : List Expr) (tags part last to : ℕ) (b : Bool) → b ≡ nat_eq (length members) 0
    → to ≡ (if b then last else 2 * part) → next_member part (terms_in tags members) last ≡ to
next_of [] tags part last to b e is = sym (is ∙ ap (λ b. if b then last else 2 * part) e)
next_of (x ∷ members) tags part last to b e is =
    sym (is ∙ ap (λ b. if b then last else 2 * part) (e ∙ not_zero (suc (length members)) (λ none. omega arith)))

pub cat_held : (classes : List ClassGraph) (tags part : ℕ) (e : Expr) (members : Vec Expr Global) (to : ℕ) (b : Bool) (ways : List Move) → e ≡ Cat members
    → b ≡ nat_eq (length members.items) 0 → to ≡ (if b then 2 * part + 1 else 2 * (part + 1))
    → ways ≡ map shown_move (move None [] [] to ∷ [])
    → Represents classes (first_state (term_of tags e) part) (held.Moves ways)
cat_held classes tags part e members to b ways is empty goes ways-are =
    for_form (λ t. Represents classes (first_state t part) (held.Moves ways)) tags e (Cat members) _ is (term_of-cat tags members)
    (ways-are ∙ ap (λ n. map shown_move (move None [] [] n ∷ [])) (sym (next_of members.items tags (part + 1) (2 * part + 1) to b empty goes)))

pub alt_held : (classes : List ClassGraph) (tags part : ℕ) (e : Expr) (members : Vec Expr Global) (ways : List Move) → e ≡ Alt members
    → ways ≡ map shown_move (member_moves (terms_in tags members.items) 0 (part + 1) (λ tags. tags))
    → Represents classes (first_state (term_of tags e) part) (held.Moves ways)
alt_held classes tags part e members ways is ways-are =
    for_form (λ t. Represents classes (first_state t part) (held.Moves ways)) tags e (Alt members) _ is (term_of-alt tags members) ways-are

pub rep_held : (classes : List ClassGraph) (tags : ℕ) (e : Expr) (body : Box Expr Global) (r : Repeat) (unset : List ℕ) (ways : List Move)
    → e ≡ Rep body r.low r.high → r.size ≡ counted_size r.low r.high (term_of tags body.value)
    → unset ≡ tags_in (term_of tags body.value) → ways ≡ map shown_move (sized_moves r 0 unset)
    → Represents classes (first_state (term_of tags e) r.part) (held.Moves ways)
rep_held classes tags e body r unset ways is size none ways-are =
    for_form
    (λ t. Represents classes (first_state t r.part) (held.Moves ways)) tags e (Rep body r.low r.high) _ is (term_of-rep tags body r.low r.high)
    (ways-are ∙ ap (λ l. map shown_move (sized_moves r 0 l)) none ∙ ap (map shown_move) (sym (moves_sized r (term_of tags body.value) 0 size)))
