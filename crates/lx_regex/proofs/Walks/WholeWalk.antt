-- Whole walks: those of a term whose exit leads to state 0. They are the scripts of its trees, so a word with a tree has a
-- plain one.
use Rattle.std.specs.Prelude.{◌≡◌, ℕ, zero, suc, ◌+◌, ◌*◌, ◌<◌, List, [], ◌∷◌, ◌++◌, length, Some, None, slice_get, refl}
use Rattle.std.proofs.Common.{sym, ap, ◌∙◌, subst, arith, append_assoc, append-nil, length-append}
use Rattle.std.proofs.lemmas.Option.{slice_get-get_or}
use Rattle.std.proofs.Math.Seq.{get_or-append_seam}
use Rattle.lx_base.specs.declared.settings.Enc.{Enc}
use Rattle.lx_regex.specs.Term.{Term}
use Rattle.lx_regex.specs.Tree.{Tree}
use Rattle.lx_regex.specs.Script.{script, units}
use Rattle.lx_regex.specs.Plain.{IsPlain}
use Rattle.lx_regex.specs.Least.{HasTree, HasPlainTree}
use Rattle.lx_regex.specs.Automaton.{move, State, moves, table, final}
use Rattle.lx_regex.specs.Walk.{Walk, stay, symbols}
use Rattle.lx_regex.proofs.PartTables.Rows.{Stands}
use Rattle.lx_regex.proofs.Walks.TreeWalk.{tree_walk, leave, by_only}
use Rattle.lx_regex.proofs.Walks.WalkTree.{only, split}
use Rattle.lx_regex.proofs.Walks.PlainWalk.{plain_list, no_way, cut, walk_plain}

pub stands_all : (rows pre : List State) → Stands (pre ++ rows) (length pre) rows
stands_all [] pre = tt
stands_all (r ∷ rows) pre =
    let within : length pre < length (pre ++ r ∷ rows) = omega (arith, length-append pre (r ∷ rows)) in
    let at = slice_get-get_or (pre ++ r ∷ rows) (length pre) r within ∙ ap Some (get_or-append_seam pre r rows r) in
    let n : length (pre ++ r ∷ []) ≡ length pre + 1 = omega (arith, length-append pre (r ∷ [])) in
    let rest = stands_all rows (pre ++ r ∷ []) in
    let rest' = subst (λ l. Stands l (length (pre ++ r ∷ [])) rows) (append_assoc pre (r ∷ []) rows) rest in
    (at, subst (λ m. Stands (pre ++ r ∷ rows) m rows) n rest')

-- states with no moves, two for each part before this one
abbrev pub blanks : (p : ℕ) → List State
blanks zero = []
blanks (suc p) = moves [] ∷ moves [] ∷ blanks p

-- a table in which one term stands alone, as part p
abbrev pub alone : Term → (p : ℕ) → List State
alone e p = blanks p ++ table e p final

blanks_length : (p : ℕ) → length (blanks p) ≡ 2 * p
blanks_length zero = refl
blanks_length (suc p) = omega (arith, blanks_length p)

pub alone_stands : (e : Term) (p : ℕ) → Stands (alone e p) (2 * p) (table e p final)
alone_stands e p =
    subst (λ n. Stands (alone e p) n (table e p final)) (blanks_length p) (stands_all (table e p final) (blanks p))

pub alone_zero : (e : Term) (p : ℕ) → 0 < p → slice_get (alone e p) 0 ≡ Some (moves [])
alone_zero e zero lt = absurd (omega arith)
alone_zero e (suc p) lt = refl

-- The walk of a tree, and the tree of a walk, where the term is a part whose exit leads to state 0.
module _ (enc : Enc) (states : List State) (e : Term) (p : ℕ) (h : Stands states (2 * p) (table e p final)) where
  pub walk_of : (t : Tree e) → (w : Walk states 0 (2 * p)) × (symbols enc w [] ≡ script enc p t)
  walk_of t =
      let v =
      leave enc states 0 [] e p final [] h
      (by_only enc states 0 [] (move None [] [] 0) 0 [] refl (record { walk = stay; says = refl })) in
      let r = tree_walk enc states 0 [] t p final h [] v in
      (r.walk, r.says ∙ append-nil (script enc p t))

  pub tree_of :
      0 < p → slice_get states 0 ≡ Some
      (moves []) → (w : Walk states 0 (2 * p)) → (t : Tree e) × (symbols enc w [] ≡ script enc p t)
  tree_of lt z w =
      let s = split enc states 0 [] e p final h (λ a b. absurd (omega arith)) w in
      let o = only enc states 0 [] (script enc p s.tree) (move None [] [] 0) s.by s.among s.walk _ _ s.says s.shorter in (
        s.tree,
        o.says ∙ ap (λ k. (script enc p s.tree ++ []) ++ k) (no_way enc states 0 o.walk z)
            ∙ append-nil (script enc p s.tree ++ []) ∙ append-nil (script enc p s.tree),
      )

-- where a term has a tree for a word, it has a plain one
pub plain_tree : (enc : Enc) (e : Term) (p : ℕ) → 0 < p → (w : List ℕ) → HasTree enc p e w → HasPlainTree enc p e w
plain_tree enc e p lt w has =
    let states = alone e p in
    let h = alone_stands e p in
    let a = walk_of enc states e p h has.0 in
    let r = cut enc states 0 a.0 in
    let b = tree_of enc states e p h lt (alone_zero e p lt) r.walk in (
      b.0,
      ap units (sym b.1) ∙ r.same ∙ ap units a.1 ∙ has.1,
      subst IsPlain b.1 (plain_list _ (walk_plain enc states 0 r.walk r.plain)),
    )
