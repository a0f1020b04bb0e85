-- The marks in the script of a rule's tree are those of its parts, so that the last of them tells the rule.
use Rattle.std.proofs.Common.{ap, sym, ◌∙◌, subst, inl, inr, arith}
use Rattle.std.specs.Prelude.{◌≡◌, ◌≢◌, ℕ, ◌/◌, ◌%◌, List, [], ◌∷◌, ◌++◌, map, Option, Some, None, Bool, true, false, nat_eq, nat_lt, ◌&&◌, if◌then◌else◌, slice_get, slice_index, refl}
use Rattle.lx_base.specs.declared.settings.Enc.{Enc}
use Rattle.lx_base.specs.declared.settings.Enc.TheVariants.{Byte, Ucs2, Utf8, Utf16, Utf32}
use Rattle.lx_base.specs.Spelling.{spell}
use Rattle.lx_regex.specs.Automaton.{Move, State, automaton, label, leaf, move, moves, picked_symbols, target, unit_leaf}
use Rattle.lx_regex.specs.Cut.{rule_part}
use Rattle.lx_regex.specs.Pattern.{Pattern, terms_of, with_terms}
use Rattle.lx_regex.specs.Reading.{of_point, of_unit}
use Rattle.lx_regex.specs.Script.{Symbol, begins, ends, has_long, has_short, leaf_choice, picks, reads, script, sets, unsets}
use Rattle.lx_regex.specs.Term.{Term}
use Rattle.lx_regex.specs.Tree.{Tree}
use Rattle.lx_regex.specs.Walk.{IsAmong, Walk, at_point, at_unit, mark, moved, stay, symbols}
use Rattle.lx_regex.proofs.KernelCuts.Cuts.{rule_stands}
use Rattle.lx_regex.proofs.PartTables.PartLists.{parts_positive}
use Rattle.lx_regex.proofs.Walks.WholeWalk.{walk_of}
use Rattle.lx_tnfa.specs.Tnfa.{IsTnfaOf, Tnfa}
use Rattle.lx_tnfa.proofs.Searching.SearchBasics.{Each, Each-append}
use Rattle.lx_tdfa.specs.Graph.{move_at, path_symbols}
use Rattle.lx_tdfa.proofs.Walks.ClosureSearches.{last_state}
use Rattle.lx_tdfa.proofs.Rules.RuleStates.{IsPartOf, IsWithin, moves_within, pattern_at, reading_within, rule_owns, state_part}

module _ (P : ℕ → Type 0) where
  -- the beginnings and ends of parts are of these parts
  abbrev IsMarkOf : Symbol → Type 0
  IsMarkOf (begins part) = P part
  IsMarkOf (ends part) = P part
  IsMarkOf (reads number) = Unit {0}
  IsMarkOf (sets number) = Unit {0}
  IsMarkOf (unsets number) = Unit {0}
  IsMarkOf (picks choice) = Unit {0}

  marked : (state : ℕ) → P (state / 2) → IsMarkOf (mark state)
  marked state is = by (nat_eq (state % 2) 0)
    where
      by : (b : Bool) → IsMarkOf (if b then begins (state / 2) else ends (state / 2))
      by true = is
      by false = is

  unmarked : (state : ℕ) → IsMarkOf (mark state) → P (state / 2)
  unmarked state is = by (nat_eq (state % 2) 0) is
    where
      by : (b : Bool) → IsMarkOf (if b then begins (state / 2) else ends (state / 2)) → P (state / 2)
      by true is = is
      by false is = is

  reads_marks : (units : List ℕ) → Each IsMarkOf (map reads units)
  reads_marks [] = tt
  reads_marks (unit ∷ units) = (tt, reads_marks units)

  sets_marks : (tags : List ℕ) → Each IsMarkOf (map sets tags)
  sets_marks [] = tt
  sets_marks (tag ∷ tags) = (tt, sets_marks tags)

  unsets_marks : (tags : List ℕ) → Each IsMarkOf (map unsets tags)
  unsets_marks [] = tt
  unsets_marks (tag ∷ tags) = (tt, unsets_marks tags)

  picked_marks : (picked : Option ℕ) → Each IsMarkOf (picked_symbols picked)
  picked_marks None = tt
  picked_marks (Some choice) = (tt, tt)

  label_marks : (way : Move) → Each IsMarkOf (label way)
  label_marks (move picked set unset to) =
      Each-append IsMarkOf (picked_symbols picked) (map sets set ++ map unsets unset) (picked_marks picked)
      (Each-append IsMarkOf (map sets set) (map unsets unset) (sets_marks set) (unsets_marks unset))

  choice_marks : (enc : Enc) (ranges : List (ℕ × ℕ)) (number : ℕ) → Each IsMarkOf (leaf_choice enc ranges number)
  choice_marks Byte ranges number = tt
  choice_marks Ucs2 ranges number = tt
  choice_marks Utf8 ranges number = tt
  choice_marks Utf16 ranges number = by (has_short ranges && has_long ranges)
    where
      by : (b : Bool) → Each IsMarkOf (if b then picks (if nat_lt number 0x10000 then 1 else 0) ∷ [] else [])
      by true = (tt, tt)
      by false = tt
  choice_marks Utf32 ranges number = tt

  each_behind : (xs ys : List Symbol) → Each IsMarkOf (xs ++ ys) → Each IsMarkOf ys
  each_behind [] ys each = each
  each_behind (x ∷ xs) ys each = each_behind xs ys each.1

  -- the last state of a path is marked in its symbols
  path_marks : (states : List State) (place : ℕ) (way : List ℕ) → way ≢ [] → Each IsMarkOf (path_symbols states place way [])
      → P (last_state states place way / 2)
  path_marks states place [] some each = absurd (some refl)
  path_marks states place (index ∷ []) some each = unmarked place each.0
  path_marks states place (index ∷ other ∷ way) some each =
      path_marks states (target (move_at states place index)) (other ∷ way) (λ e. cc)
      (each_behind (label (move_at states place index)) (path_symbols states (target (move_at states place index)) (other ∷ way) []) each.1)

none_among : {way : Move} (ways : List Move) → ways ≡ [] → IsAmong way ways → ⊥
none_among [] e among = elim among [ ]
none_among (other ∷ ways) e among = cc

module _ (enc : Enc) (rules : List Term) (index : ℕ) (e : Term) (at : slice_get rules index ≡ Some e) where
  -- all marks of a walk in the rule are of its parts
  walk_marks : {state : ℕ} → (walk : Walk (automaton rules) 0 state) → IsWithin rules index e state
      → Each (IsMarkOf (IsPartOf rules index e)) (symbols enc walk [])
  walk_marks stay within = tt
  walk_marks (moved {state} ways way stands among walk) (inl z) =
      absurd (none_among ways (let same : Some (moves ways) ≡ Some (moves []) = sym stands ∙ ap (slice_get (automaton rules)) z in cc) among)
  walk_marks (moved {state} ways way stands among walk) (inr is) = (
    marked (IsPartOf rules index e) state (state_part rules index e state is),
    Each-append (IsMarkOf (IsPartOf rules index e)) (label way) (symbols enc walk []) (label_marks (IsPartOf rules index e) way)
        (walk_marks walk (moves_within rules index e at state ways way is stands among)),
  )
  walk_marks (at_point {state} ranges number stands points walk) (inl z) =
      let same : Some (leaf ranges) ≡ Some (moves []) = sym stands ∙ ap (slice_get (automaton rules)) z in absurd (cc)
  walk_marks (at_point {state} ranges number stands points walk) (inr is) = (
    marked (IsPartOf rules index e) state (state_part rules index e state is),
    Each-append (IsMarkOf (IsPartOf rules index e)) (leaf_choice enc ranges number) (map reads (spell enc number) ++ symbols enc walk [])
        (choice_marks (IsPartOf rules index e) enc ranges number)
        (Each-append (IsMarkOf (IsPartOf rules index e)) (map reads (spell enc number)) (symbols enc walk [])
        (reads_marks (IsPartOf rules index e) (spell enc number))
        (walk_marks walk
        (inr (reading_within rules index e at enc state (leaf ranges) (leaf_choice enc ranges number) (spell enc number) is stands (of_point number points))))),
  )
  walk_marks (at_unit {state} number stands walk) (inl z) =
      let same : Some unit_leaf ≡ Some (moves []) = sym stands ∙ ap (slice_get (automaton rules)) z in absurd (cc)
  walk_marks (at_unit {state} number stands walk) (inr is) = (
    marked (IsPartOf rules index e) state (state_part rules index e state is),
    (tt, walk_marks walk (inr (reading_within rules index e at enc state unit_leaf [] (number ∷ []) is stands (of_unit number)))),
  )

  -- and so are those of the script of a tree
  script_marks : (tree : Tree e) → Each (IsMarkOf (IsPartOf rules index e)) (script enc (rule_part rules index) tree)
  script_marks tree =
      let walk = walk_of enc (automaton rules) e (rule_part rules index) (rule_stands rules index e at) tree in
      let some = parts_positive e in
      subst (Each (IsMarkOf (IsPartOf rules index e))) walk.1 (walk_marks walk.0 (inr (omega arith, omega arith)))

module _ (enc : Enc) (patterns : List Pattern) (tnfa : Tnfa) (of : IsTnfaOf enc patterns tnfa) where
  -- the last state of a way to the end of a rule is one of the rule
  pub script-ending_rule : (index : ℕ) (term : Term) (tree : Tree term) (front : List Symbol) (place : ℕ) (way : List ℕ) → way ≢ []
      → slice_get (terms_of patterns) index ≡ Some term
      → script enc (rule_part (terms_of patterns) index) tree ≡ front ++ path_symbols (automaton (terms_of patterns)) place way []
      → (pattern : Pattern) × (slice_get (with_terms patterns) index ≡ Some pattern)
      × (pattern.number ≡ slice_index tnfa.owners (last_state (automaton (terms_of patterns)) place way / 2))
  script-ending_rule index term tree front place way some at says =
      let found = pattern_at (with_terms patterns) index term at in
      let P : ℕ → Type 0 = IsPartOf (terms_of patterns) index term in
      let marks = subst (Each (IsMarkOf P)) says (script_marks enc (terms_of patterns) index term at tree) in
      let own =
      path_marks P (automaton (terms_of patterns)) place way some
      (each_behind P front (path_symbols (automaton (terms_of patterns)) place way []) marks) in
      let part : ℕ = last_state (automaton (terms_of patterns)) place way / 2 in (
        found.0,
        found.1,
        sym (ap (λ l. slice_index l part) of.owners
            ∙ rule_owns patterns index part found.0 found.1 (subst (λ t. IsPartOf (terms_of patterns) index t part) (sym found.2) own)),
      )
