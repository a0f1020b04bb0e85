-- An expression for each term that one can stand for.
use Rattle.std.proofs.Common.{◌≡◌, ℕ, suc, ◌+◌, ◌*◌, ◌<◌, ◌^◌, List, [], ◌∷◌, map, length, Vec, Box, Global, refl, sym, ap, ap₂, ◌∙◌, subst, arith}
use denote.RawPtr.{null_ptr}
use Rattle.lx_regex.specs.Term.{Term, Terms, empty, class, any_unit, cat, alt, repeat, tag, group, nil, cons}
use Rattle.lx_regex.specs.Expr.{members_of, ranges_of, term_of}
use Rattle.lx_regex.specs.Limits.{member_count}
use Rattle.lx_regex.specs.PartList.{set_of}
use Rattle.lx_regex.specs.declared.expr.Expr.{Expr}
use Rattle.lx_regex.specs.declared.expr.Expr.TheVariants.{Empty, Class, AnyUnit, Cat, Alt, Rep, STag, Group}
use Rattle.lx_regex.proofs.Trees.Folds.{term_of-empty, term_of-class, term_of-any_unit, term_of-cat, term_of-alt, term_of-rep, term_of-stag, term_of-group}
use Rattle.lx_rules.specs.Buildable.{IsExpressible, AreExpressible}

-- a vector and a box, wherever they lie
abbrev heap : Global
heap = record { memory = record { seal = tt } }

abbrev vector : (items : List Expr) → length items < 2 ^ 63 → Vec Expr Global
vector items small = record {
  ptr = null_ptr;
  len = length items;
  cap = length items;
  alloc = heap;
  items = items;
  ok = (refl, omega arith);
  small = small;
}

abbrev boxed : Expr → Box Expr Global
boxed expr = record { ptr = null_ptr; alloc = heap; value = expr }

-- an expression that stands for the term
abbrev pub Expressed : Term → Type 0
Expressed term = (expr : Expr) × (term_of 0 expr ≡ term)

abbrev AllExpressed : Terms → Type 0
AllExpressed members =
    (exprs : List Expr) × (members_of (map (λ e. term_of 0 e) exprs) ≡ members) × (length exprs ≡ member_count members)

ranges_of-set_of : (ranges : List (ℕ × ℕ)) → ranges_of (set_of ranges) ≡ ranges
ranges_of-set_of [] = refl
ranges_of-set_of (range ∷ ranges) = ap (λ l. range ∷ l) (ranges_of-set_of ranges)

cat_expressed : (members : Terms) → member_count members < 2 ^ 63 → AllExpressed members → Expressed (cat members)
cat_expressed members small all =
    let few : length all.0 < 2 ^ 63 = subst (λ n. n < 2 ^ 63) (sym all.2) small in
    (Cat (vector all.0 few), term_of-cat 0 (vector all.0 few) ∙ ap cat all.1)

alt_expressed : (members : Terms) → member_count members < 2 ^ 63 → AllExpressed members → Expressed (alt members)
alt_expressed members small all =
    let few : length all.0 < 2 ^ 63 = subst (λ n. n < 2 ^ 63) (sym all.2) small in
    (Alt (vector all.0 few), term_of-alt 0 (vector all.0 few) ∙ ap alt all.1)

mutual
  pub expressed : (term : Term) → IsExpressible term → Expressed term
  expressed empty is = (Empty, term_of-empty 0)
  expressed (class ranges) is = (Class (set_of ranges), term_of-class 0 (set_of ranges) ∙ ap class (ranges_of-set_of ranges))
  expressed any_unit is = (AnyUnit, term_of-any_unit 0)
  expressed (cat members) is = cat_expressed members is.0 (all_expressed members is.1)
  expressed (alt members) is = alt_expressed members is.0 (all_expressed members is.1)
  expressed (repeat body low high) is =
      let inner = expressed body is in
      (Rep (boxed inner.0) low high, term_of-rep 0 (boxed inner.0) low high ∙ ap (λ t. repeat t low high) inner.1)
  expressed (tag number) is = (STag number, term_of-stag 0 number)
  expressed (group opening closing body) is =
      let inner = expressed body is.3 in
      let one : 0 + 2 * is.0 ≡ opening = omega (arith, is.1) in
      let other : 0 + 2 * is.0 + 1 ≡ closing = omega (arith, is.2) in (
        Group is.0 (boxed inner.0),
        term_of-group 0 is.0 (boxed inner.0) ∙ ap (group (0 + 2 * is.0) (0 + 2 * is.0 + 1)) inner.1 ∙ ap₂ (λ a b. group a b body) one other,
      )

  all_expressed : (members : Terms) → AreExpressible members → AllExpressed members
  all_expressed nil are = ([], refl, refl)
  all_expressed (cons member members) are =
      let one = expressed member are.0 in
      let others = all_expressed members are.1 in
      (one.0 ∷ others.0, ap₂ cons one.1 others.1, ap suc others.2)
