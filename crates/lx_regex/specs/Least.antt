-- The tree of a word that a policy means.
use Rattle.std.specs.Prelude.{◌≡◌, ℕ, List, []}
use Rattle.lx_base.specs.declared.settings.Enc.{Enc}
use Rattle.lx_regex.specs.Term.{Term, Terms}
use Rattle.lx_regex.specs.Tree.{Tree, Row, Choice}
use Rattle.lx_regex.specs.Script.{script, row_script, choice_script, units}
use Rattle.lx_regex.specs.Plain.{IsPlain}
use Rattle.lx_regex.specs.Order.{Policy, TreePrecedes}

-- the term, which is this part, has a tree with these units
abbrev pub HasTree : Enc → (part : ℕ) → Term → List ℕ → Type 0
HasTree enc part e word = (tree : Tree e) × (units (script enc part tree) ≡ word)

-- the members, of which the first is this part, have a row of trees without units
abbrev pub HasEmptyRow : Enc → (part : ℕ) → Terms → Type 0
HasEmptyRow enc part members = (trees : Row members) × (units (row_script enc part trees) ≡ [])

-- one of them has a tree without units
abbrev pub HasEmptyChoice : Enc → (part : ℕ) → Terms → Type 0
HasEmptyChoice enc part members = (choice : Choice members) × (units (choice_script enc part choice) ≡ [])

-- it has a plain one
abbrev pub HasPlainTree : Enc → (part : ℕ) → Term → List ℕ → Type 0
HasPlainTree enc part e word = (tree : Tree e) × (units (script enc part tree) ≡ word) × IsPlain (script enc part tree)

-- the plain tree of the word before which no other plain one of it comes
pub record IsLeast (policy : Policy) (enc : Enc) (part : ℕ) (e : Term) (word : List ℕ) (tree : Tree e) : Type 0 where
  pub yields : units (script enc part tree) ≡ word
  pub plain : IsPlain (script enc part tree)
  pub least : (other : Tree e) → units (script enc part other) ≡ word → IsPlain (script enc part other)
      → TreePrecedes policy enc part other tree → ⊥
