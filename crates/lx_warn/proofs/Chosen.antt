-- Rules are chosen where words lead to states that accept them.
use Rattle.std.proofs.Common.{◌≡◌, ℕ, zero, suc, ◌+◌, ◌≤◌, List, [], ◌∷◌, ◌++◌, length, Option, Some, None, IsSome, Bool, true, false, refl, sym, ap, ◌∙◌, subst, arith, slice_get, length-append, append-nil, if◌then◌else◌}
use Rattle.std.proofs.lemmas.Bool.{OnFalse_at}
use Rattle.lx_base.specs.declared.settings.Enc.{Enc}
use Rattle.lx_regex.proofs.KernelCuts.Cuts.{rule_positive}
use Rattle.lx_regex.proofs.Trees.LeastTree.{least_tree}
use Rattle.lx_regex.proofs.Trees.SlashEvents.{slash_set}
use Rattle.lx_regex.specs.Kernel.{IsWord}
use Rattle.lx_regex.specs.Limits.{AreRegular, IsRegular}
use Rattle.lx_regex.specs.Match.{IsEnd, IsLongestFirst, IsMatch, IsWordAt, Takes, at_end, by_rule, matched, part_at}
use Rattle.lx_regex.specs.Order.{Policy}
use Rattle.lx_regex.specs.Pattern.{Pattern, end_rule, is_end, pattern_of, patterns_of, sorts_of, terms_of, with_terms}
use Rattle.lx_regex.specs.Script.{script}
use Rattle.lx_regex.specs.Tree.{Tree}
use Rattle.lx_regex.specs.Values.{cursor_behind, last_event, values_of}
use Rattle.lx_regex.specs.declared.rules.Rule.{Rule}
use Rattle.lx_warn.proofs.Links.{IsFirstTaker}
use Rattle.lx_warn.specs.Warnings.{IsChosen}

-- ---- rules are regular

pub regular-at : (rules : List Rule) → AreRegular rules → (place : ℕ) (pattern : Pattern)
    → slice_get (with_terms (patterns_of rules)) place ≡ Some pattern → IsRegular pattern
regular-at [] are place pattern is = absurd (cc is)
regular-at (rule ∷ rules) are place pattern is = by (is_end rule.kind) refl place is (regular-at rules are.1)
  where
    by : (t : Bool) → is_end rule.kind ≡ t → (place : ℕ)
        → slice_get (if t then with_terms (patterns_of rules) else pattern_of rule ∷ with_terms (patterns_of rules)) place ≡ Some pattern
        → ((place : ℕ) (pattern : Pattern) → slice_get (with_terms (patterns_of rules)) place ≡ Some pattern → IsRegular pattern)
        → IsRegular pattern
    by true end place is rest = rest place pattern is
    by false end zero is rest = let same : pattern_of rule ≡ pattern = cc is in subst IsRegular same (OnFalse_at end are.0)
    by false end (suc place) is rest = rest place pattern is

-- ---- matches by rules

cursor-stands : (enc : Enc) (pattern : Pattern) (slash : Option ℕ) (start part : ℕ) (word : List ℕ) (tree : Tree pattern.term) → IsRegular pattern
    → pattern.slash ≡ slash → (cursor : ℕ) × (cursor_behind start word (script enc part tree) slash ≡ Some cursor)
cursor-stands enc pattern None start part word tree regular is = (start + length word, refl)
cursor-stands enc pattern (Some slash) start part word tree regular is =
    at (last_event slash start None (script enc part tree)) refl (slash_set enc pattern slash start part tree regular is)
  where
    at : (found : Option ℕ) → last_event slash start None (script enc part tree) ≡ found → IsSome (last_event slash start None (script enc part tree))
        → (cursor : ℕ) × (last_event slash start None (script enc part tree) ≡ Some cursor)
    at None same some = absurd (nothing (subst (λ o. IsSome o) same some))
      where
        nothing : IsSome {T = ℕ} None → ⊥
        nothing h = cc
    at (Some cursor) same some = (cursor, same)

module _ (policy : Policy) (enc : Enc) (rules : List Rule) (regular : AreRegular rules) (stream : List ℕ) (start : ℕ)
    (units : IsWord enc (terms_of (patterns_of rules)) stream) (within : start ≤ length stream) (word : List ℕ) (number : ℕ)
    (taker : IsFirstTaker enc (patterns_of rules) word number)
    (no_end : (rule : ℕ) → IsEnd policy enc (patterns_of rules) stream start rule → ⊥) (is_word : IsWordAt stream start word)
    (longest : (other : List ℕ) (place : ℕ) → IsWordAt stream start other → Takes enc (patterns_of rules) place other → length other ≤ length word) where
  abbrev patterns : List Pattern
  patterns = patterns_of rules

  abbrev pattern : Pattern
  pattern = taker.takes.0

  abbrev part : ℕ
  part = part_at patterns taker.place

  first-longest : IsLongestFirst policy enc patterns stream start word taker.place
  first-longest = record { is_word = is_word; takes = taker.takes; longest = longest; first = taker.first }

  numbered : pattern.number ≡ number
  numbered =
      let both : Some pattern ≡ Some taker.pattern = sym taker.takes.1 ∙ taker.is in
      let one : pattern ≡ taker.pattern = cc in
      ap (λ (p : Pattern). p.number) one ∙ taker.numbered

  -- the longest word that a rule takes, taken first by one with this number
  pub chosen-longest : IsChosen policy enc patterns number
  chosen-longest =
      let shape = regular-at rules regular taker.place pattern taker.takes.1 in
      let least = least_tree enc pattern.term part word policy (rule_positive (terms_of patterns) taker.place) taker.takes.2 in
      let cursor = cursor-stands enc pattern pattern.slash start part word least.0 shape refl in
      let values = values_of start (script enc part least.0) 0 (sorts_of pattern) in
      record {
        stream = stream;
        start = start;
        cursor = cursor.0;
        values = values;
        units = units;
        within = within;
        has_match =
            subst (λ n. IsMatch policy enc patterns stream start (matched n cursor.0 values)) numbered
            (by_rule word taker.place pattern cursor.0 values no_end first-longest taker.takes.1
            (record { tree = least.0; least = least.1; stands = cursor.1; valued = refl }));
      }

-- the rule at the end of the input is chosen by the empty stream
pub chosen-end : (policy : Policy) (enc : Enc) (patterns : List Pattern) (number : ℕ) → end_rule patterns ≡ Some number
    → IsChosen policy enc patterns number
chosen-end policy enc patterns number is = record {
  stream = [];
  start = 0;
  cursor = 0;
  values = [];
  units = tt;
  within = omega arith;
  has_match = at_end number (refl, is);
}

-- a stream that is the word itself
pub chosen-whole : (policy : Policy) (enc : Enc) (rules : List Rule) → AreRegular rules → (word : List ℕ) (number : ℕ)
    → IsWord enc (terms_of (patterns_of rules)) word → IsFirstTaker enc (patterns_of rules) word number
    → ((rule : ℕ) → word ≡ [] → end_rule (patterns_of rules) ≡ Some rule → ⊥) → IsChosen policy enc (patterns_of rules) number
chosen-whole policy enc rules regular word number units taker no_end =
    chosen-longest policy enc rules regular word 0 units (omega arith) word number taker (λ rule end. no_end rule (empty word end.0) end.1)
    ([], sym (append-nil word)) (λ other place (rest, is) takes.
    let whole : length word ≡ length other + length rest = ap length is ∙ length-append other rest in omega (arith, whole))
  where
    empty : (word : List ℕ) → 0 ≡ length word → word ≡ []
    empty [] none = refl
    empty (unit ∷ word) none = absurd (omega arith)

-- the empty word, on a stream of one unit that no rule takes
pub chosen-before : (policy : Policy) (enc : Enc) (rules : List Rule) → AreRegular rules → (unit number : ℕ)
    → IsWord enc (terms_of (patterns_of rules)) (unit ∷ []) → IsFirstTaker enc (patterns_of rules) [] number
    → ((place : ℕ) → Takes enc (patterns_of rules) place (unit ∷ []) → ⊥) → IsChosen policy enc (patterns_of rules) number
chosen-before policy enc rules regular unit number units taker untaken =
    chosen-longest policy enc rules regular (unit ∷ []) 0 units (omega arith) [] number taker (λ rule end. absurd (never end.0)) (unit ∷ [], refl)
    (λ other place (rest, is) takes. at other rest is place takes)
  where
    never : 0 ≡ length (unit ∷ []) → ⊥
    never same = omega arith

    at : (other rest : List ℕ) → unit ∷ [] ≡ other ++ rest → (place : ℕ) → Takes enc (patterns_of rules) place other → length other ≤ 0
    at [] rest is place takes = omega arith
    at (first ∷ []) rest is place takes =
        let same : unit ≡ first = cc is in
        absurd (untaken place (subst (λ u. Takes enc (patterns_of rules) place (u ∷ [])) (sym same) takes))
    at (first ∷ second ∷ other) rest is place takes =
        let whole : length (unit ∷ []) ≡ length (first ∷ second ∷ other) + length rest = ap length is ∙ length-append (first ∷ second ∷ other) rest in
        absurd (omega (arith, whole))
