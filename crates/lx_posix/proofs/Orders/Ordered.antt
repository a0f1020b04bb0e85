-- The order of two cuts with its number, by recursion.
use Rattle.std.specs.Prelude.{◌≡◌, ℕ, ◌<◌, ◌⊎◌, List, ◌++◌, length, Some, slice_get}
use Rattle.lx_base.specs.declared.settings.Enc.{Enc}
use Rattle.lx_regex.specs.Cut.{Cut, rule_part}
use Rattle.lx_regex.specs.Posix.{shape_of}
use Rattle.lx_regex.specs.Script.{Symbol, script, units}
use Rattle.lx_regex.specs.Term.{Term}
use Rattle.lx_regex.specs.Tree.{Tree}
use Rattle.lx_regex.proofs.PosixTrees.PosixAhead.{Ahead}
use Rattle.lx_regex.proofs.PosixTrees.PosixShapes.{Same}
use Rattle.lx_posix.specs.Parting.{Parting, events}

module _ (enc : Enc) {e : Term} (p : ℕ) where
  -- In one leaf under different digits: no length differs, and all the k positions that were open where the digits parted are
  -- open in both.
  abbrev pub Tied : (n : ℕ) → Tree e → Tree e → (k : ℕ) → Type 0
  Tied n t t' k = Same n (shape_of enc t) (shape_of enc t') × Parting n 0 (events (script enc p t)) (events (script enc p t')) k k k

  -- When n units are read the first is before the second, with the number k.
  abbrev pub Order : (n : ℕ) → Tree e → Tree e → (k : ℕ) → Type 0
  Order n t t' k = Ahead n (shape_of enc t) (shape_of enc t') k ⊎ Tied n t t' k

module _ (enc : Enc) (rules : List Term) where
  -- the first cut is before the second, of the same rule, with a number
  pub record Before (cut other : Cut) (number : ℕ) : Type 0 where
    pub term : Term
    pub tree : Tree term
    pub other_tree : Tree term
    pub rest : List Symbol
    pub other_rest : List Symbol
    pub of_rule : slice_get rules cut.rule ≡ Some term
    pub one_rule : cut.rule ≡ other.rule
    pub goes : script enc (rule_part rules cut.rule) tree ≡ cut.front ++ rest
    pub other_goes : script enc (rule_part rules cut.rule) other_tree ≡ other.front ++ other_rest
    pub order : Order enc (rule_part rules cut.rule) (length (units cut.front)) tree other_tree number

  -- the POSIX order of cuts: by rule, and then by lengths
  abbrev pub Earlier : Cut → Cut → Type 0
  Earlier cut other = (cut.rule < other.rule) ⊎ ((number : ℕ) × Before cut other number)
