-- Where the parses of a word may stand behind its last unit.
use Rattle.std.specs.Prelude.{◌≡◌, ℕ, zero, suc, ◌+◌, ◌<◌, ◌⊎◌, ◌↔◌, List, [], ◌∷◌, ◌++◌, map, Some, slice_get}
use Rattle.lx_base.specs.declared.settings.Enc.{Enc}
use Rattle.lx_regex.specs.Term.{Term, parts}
use Rattle.lx_regex.specs.Tree.{Tree}
use Rattle.lx_regex.specs.Script.{Symbol, begins, ends, reads, sets, unsets, picks, script, units, choices}
use Rattle.lx_regex.specs.Plain.{IsPlain}
use Rattle.lx_regex.specs.Dictionary.{IsBefore}

-- the part of a rule by its place in the list: part 0 is the list itself, and the rules with all their parts follow
abbrev pub rule_part : List Term → (place : ℕ) → ℕ
rule_part [] place = 1
rule_part (e ∷ rules) zero = 1
rule_part (e ∷ rules) (suc place) = parts e + rule_part rules place

-- the front of a script up to a unit, with the place of its rule in the list
pub record Cut : Type 0 where
  pub rule : ℕ
  pub front : List Symbol

-- the part that began last
abbrev pub last_part : ℕ → List Symbol → ℕ
last_part part [] = part
last_part part (begins other ∷ rest) = last_part other rest
last_part part (ends other ∷ rest) = last_part part rest
last_part part (reads number ∷ rest) = last_part part rest
last_part part (sets number ∷ rest) = last_part part rest
last_part part (unsets number ∷ rest) = last_part part rest
last_part part (picks choice ∷ rest) = last_part part rest

-- the last symbol is a unit
abbrev pub EndsInUnit : List Symbol → Type 0
EndsInUnit front = (before : List Symbol) × (number : ℕ) × (front ≡ before ++ reads number ∷ [])

-- leftmost greedy: the first cut is of an earlier rule, or of the same one with lesser choices
abbrev pub Precedes : Cut → Cut → Type 0
Precedes cut other = (cut.rule < other.rule) ⊎ ((cut.rule ≡ other.rule) × IsBefore (choices cut.front) (choices other.front))

module _ (enc : Enc) (rules : List Term) where
  -- with these symbols behind it the cut is the script of a plain tree of its rule
  abbrev pub GoesOn : Cut → List Symbol → Type 0
  GoesOn cut rest =
      (e : Term) × (tree : Tree e) × (slice_get rules cut.rule ≡ Some e)
      × (script enc (rule_part rules cut.rule) tree ≡ cut.front ++ rest) × IsPlain (script enc (rule_part rules cut.rule) tree)

  -- a cut at a word: the front of the script of some plain tree, up to the last unit of the word
  pub record IsCut (word : List ℕ) (cut : Cut) : Type 0 where
    pub reads_word : units cut.front ≡ word
    pub after_unit : EndsInUnit cut.front
    pub possible : (rest : List Symbol) × GoesOn cut rest

  -- these units finish the leaf in which the cut stands
  abbrev pub Finishes : Cut → List ℕ → Type 0
  Finishes cut left = (rest : List Symbol) × GoesOn cut (map reads left ++ ends (last_part 0 cut.front) ∷ rest)

  -- two cuts stand at one place: in one leaf, which the same units finish
  pub record SamePlace (cut other : Cut) : Type 0 where
    pub rule : cut.rule ≡ other.rule
    pub part : last_part 0 cut.front ≡ last_part 0 other.front
    pub left : (left : List ℕ) → Finishes cut left ↔ Finishes other left

  -- a word begins a match if it is empty, or there is a cut at it
  abbrev pub BeginsMatch : List ℕ → Type 0
  BeginsMatch word = (word ≡ []) ⊎ ((cut : Cut) × IsCut word cut)
