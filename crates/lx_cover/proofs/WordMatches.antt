-- What is found where a run on a word stops is the match of the word.
use Rattle.std.proofs.Common.{◌≡◌, ◌⊎◌, inl, inr, ℕ, zero, suc, ◌+◌, List, [], ◌∷◌, ◌++◌, length, map, Option, Some, None, IsSome, Bool, true, false, refl, if◌then◌else◌, sym, ap, ◌∙◌, subst, arith, append_assoc, length-append, slice_get}
use Rattle.std.proofs.lemmas.Bool.{OnFalse_at, eq-eqb, ne_eqb}
use Rattle.std.proofs.lemmas.Option.{slice_get-map}
use Rattle.std.proofs.Common.{option_map}
use Rattle.lx_auto.proofs.Runs.{run-one_more}
use Rattle.lx_auto.specs.Bank.{empty_bank}
use Rattle.lx_auto.specs.Run.{Found, Standing, and_then, at_start, found_behind, run, step}
use Rattle.lx_auto.specs.declared.automaton.Auto.{Auto}
use Rattle.lx_base.specs.declared.settings.Enc.{Enc}
use Rattle.lx_regex.proofs.Trees.Beginnings.{front_begins, taken_begins}
use Rattle.lx_regex.proofs.Trees.SlashEvents.{slash_set}
use Rattle.lx_regex.specs.Cut.{BeginsMatch}
use Rattle.lx_regex.specs.Kernel.{IsWord}
use Rattle.lx_regex.specs.Limits.{AreRegular, HaveDifferentNumbers, IsRegular, IsSlashOf, IsWithinLimits, NoneHasNumber}
use Rattle.lx_regex.specs.Match.{IsEnd, IsMatch, IsWordAt, Takes, at_end, by_none, by_rule, matched, part_at, unmatched}
use Rattle.lx_regex.specs.Order.{Policy}
use Rattle.lx_regex.specs.Pattern.{Pattern, is_end, pattern_of, patterns_of, sorts_of, terms_of, with_terms}
use Rattle.lx_regex.specs.Script.{Symbol, script}
use Rattle.lx_regex.specs.Tree.{Tree}
use Rattle.lx_regex.specs.Values.{Value, cursor_behind, group_ends, last_event, single, value_of, values_of}
use Rattle.lx_regex.specs.declared.rules.Rule.{Rule}
use Rattle.lx_tdfa.specs.Promise.{IsAutoUnder, tag_value}
use Rattle.lx_cover.proofs.BestFronts.{BestFront, IsStopped, fronts, stopped}
use Rattle.lx_cover.specs.Cursors.{cursor_at, end_at, offset_in, slash_of}
use Rattle.lx_cover.specs.Machine.{last_standing}
use Rattle.lx_cover.specs.Outcomes.{outcome_of, outcome_on}

-- ---- the cursor

slice_get-front : {A : Type 0} (xs ys : List A) (place : ℕ) (x : A) → slice_get xs place ≡ Some x → slice_get (xs ++ ys) place ≡ Some x
slice_get-front [] ys place x is = absurd (cc is)
slice_get-front (y ∷ xs) ys zero x is = is
slice_get-front (y ∷ xs) ys (suc place) x is = slice_get-front xs ys place x is

slice_get-values_of : (start : ℕ) (symbols : List Symbol) (number : ℕ) (sorts : List Bool) (place : ℕ) (many : Bool)
    → slice_get sorts place ≡ Some many
    → slice_get (values_of start symbols number sorts) place ≡ Some (value_of start symbols (number + place) many)
slice_get-values_of start symbols number [] place many is = absurd (cc is)
slice_get-values_of start symbols number (sort ∷ sorts) zero many is =
    let same : sort ≡ many = cc is in
    let at : number ≡ number + 0 = omega arith in
    ap (λ m. Some (value_of start symbols number m)) same ∙ ap (λ n. Some (value_of start symbols n many)) at
slice_get-values_of start symbols number (sort ∷ sorts) (suc place) many is =
    let at : suc number + place ≡ number + suc place = omega arith in
    slice_get-values_of start symbols (suc number) sorts place many is ∙ ap (λ n. Some (value_of start symbols n many)) at

-- the cursor stands where the values put it
cursor_behind-values : (enc : Enc) (pattern : Pattern) (slash : Option ℕ) (part : ℕ) (word : List ℕ) (tree : Tree pattern.term)
    (values : List Value) → IsRegular pattern → pattern.slash ≡ slash → values ≡ values_of 0 (script enc part tree) 0 (sorts_of pattern)
    → cursor_behind 0 word (script enc part tree) slash ≡ Some (cursor_at slash values (0 + length word))
cursor_behind-values enc pattern None part word tree values regular is valued = refl
cursor_behind-values enc pattern (Some slash) part word tree values regular is valued =
    by (last_event slash 0 None (script enc part tree)) refl (slash_set enc pattern slash 0 part tree regular is)
  where
    single_one : slice_get (sorts_of pattern) slash ≡ Some false
    single_one = slice_get-front pattern.many (group_ends pattern.groups) slash false (subst (IsSlashOf pattern) is regular.slash).0

    read : slice_get values slash ≡ Some (single (last_event slash 0 None (script enc part tree)))
    read =
        let at : 0 + slash ≡ slash = omega arith in
        ap (λ l. slice_get l slash) valued ∙ slice_get-values_of 0 (script enc part tree) 0 (sorts_of pattern) slash false single_one
        ∙ ap (λ n. Some (value_of 0 (script enc part tree) n false)) at

    by : (offset : Option ℕ) → last_event slash 0 None (script enc part tree) ≡ offset
        → IsSome (last_event slash 0 None (script enc part tree))
        → last_event slash 0 None (script enc part tree) ≡ Some (offset_in (slice_get values slash) (0 + length word))
    by None same some = absurd (nothing (subst (λ o. IsSome o) same some))
      where
        nothing : IsSome {T = ℕ} None → ⊥
        nothing h = cc
    by (Some offset) same some =
        same ∙ ap (λ o. Some (offset_in o (0 + length word))) (sym (read ∙ ap (λ o. Some (single o)) same))

-- ---- the rules by their numbers

number-apart : (number : ℕ) (rules : List Rule) (place : ℕ) (pattern : Pattern) → NoneHasNumber number rules
    → slice_get (with_terms (patterns_of rules)) place ≡ Some pattern → pattern.number ≡ number → ⊥
number-apart number [] place pattern none is same = absurd (cc is)
number-apart number (rule ∷ rules) place pattern none is same =
    by (is_end rule.kind) place is (λ place is. number-apart number rules place pattern none.1 is same)
  where
    by : (t : Bool) (place : ℕ)
        → slice_get (if t then with_terms (patterns_of rules) else pattern_of rule ∷ with_terms (patterns_of rules)) place ≡ Some pattern
        → ((place : ℕ) → slice_get (with_terms (patterns_of rules)) place ≡ Some pattern → ⊥) → ⊥
    by true place is rest = rest place is
    by false zero is rest =
        let one : pattern_of rule ≡ pattern = cc is in none.0 (ap (λ (p : Pattern). p.number) one ∙ same)
    by false (suc place) is rest = rest place is

slash-own : (rules : List Rule) (place : ℕ) (pattern : Pattern) → HaveDifferentNumbers rules
    → slice_get (with_terms (patterns_of rules)) place ≡ Some pattern → slash_of rules pattern.number ≡ pattern.slash
slash-own [] place pattern apart is = absurd (cc is)
slash-own (rule ∷ rules) place pattern apart is = by (is_end rule.kind) place is (λ place is. slash-own rules place pattern apart.1 is)
  where
    later : (place : ℕ) → slice_get (with_terms (patterns_of rules)) place ≡ Some pattern
        → ((place : ℕ) → slice_get (with_terms (patterns_of rules)) place ≡ Some pattern → slash_of rules pattern.number ≡ pattern.slash)
        → slash_of (rule ∷ rules) pattern.number ≡ pattern.slash
    later place is rest =
        ap (λ b. if b then rule.slash else slash_of rules pattern.number)
        (ne_eqb rule.number pattern.number (λ same. number-apart rule.number rules place pattern apart.0 is (sym same)))
        ∙ rest place is

    by : (t : Bool) (place : ℕ)
        → slice_get (if t then with_terms (patterns_of rules) else pattern_of rule ∷ with_terms (patterns_of rules)) place ≡ Some pattern
        → ((place : ℕ) → slice_get (with_terms (patterns_of rules)) place ≡ Some pattern → slash_of rules pattern.number ≡ pattern.slash)
        → slash_of (rule ∷ rules) pattern.number ≡ pattern.slash
    by true place is rest = later place is rest
    by false zero is rest =
        let one : pattern_of rule ≡ pattern = cc is in
        ap (λ b. if b then rule.slash else slash_of rules pattern.number)
        (eq-eqb rule.number pattern.number (ap (λ (p : Pattern). p.number) one)) ∙ ap (λ (p : Pattern). p.slash) one
    by false (suc place) is rest = later place is rest

regular-at : (rules : List Rule) (place : ℕ) (pattern : Pattern) → AreRegular rules
    → slice_get (with_terms (patterns_of rules)) place ≡ Some pattern → IsRegular pattern
regular-at [] place pattern are is = absurd (cc is)
regular-at (rule ∷ rules) place pattern are is = by (is_end rule.kind) refl place is (λ place. regular-at rules place pattern are.1)
  where
    by : (t : Bool) → is_end rule.kind ≡ t → (place : ℕ)
        → slice_get (if t then with_terms (patterns_of rules) else pattern_of rule ∷ with_terms (patterns_of rules)) place ≡ Some pattern
        → ((place : ℕ) → slice_get (with_terms (patterns_of rules)) place ≡ Some pattern → IsRegular pattern)
        → IsRegular pattern
    by true end place is rest = rest place is
    by false end zero is rest = let same : pattern_of rule ≡ pattern = cc is in subst IsRegular same (OnFalse_at end are.0)
    by false end (suc place) is rest = rest place is

-- ---- the rule at the end

pub end-match : (policy : Policy) (enc : Enc) (rules : List Rule) (word : List ℕ) (number : ℕ) → end_at rules word ≡ Some number
    → IsMatch policy enc (patterns_of rules) word 0 (matched number 0 [])
end-match policy enc rules [] number is = at_end number (refl, is)
end-match policy enc rules (unit ∷ word) number is = absurd (cc is)

no-end : (policy : Policy) (enc : Enc) (rules : List Rule) (word : List ℕ) → end_at rules word ≡ None
    → (rule : ℕ) → IsEnd policy enc (patterns_of rules) word 0 rule → ⊥
no-end policy enc rules [] none rule end =
    let both : None ≡ Some rule = sym none ∙ end.1 in absurd (cc both)
no-end policy enc rules (unit ∷ word) none rule end = let never : 0 ≡ length (unit ∷ word) = end.0 in absurd (omega arith)

-- ---- the match

IsWord-front : (enc : Enc) (patterns : List Pattern) (a b : List ℕ) → IsWord enc (terms_of patterns) (a ++ b)
    → IsWord enc (terms_of patterns) a
IsWord-front enc patterns [] b h = tt
IsWord-front enc patterns (unit ∷ a) b h = (h.0, IsWord-front enc patterns a b h.1)

-- one front of two equal texts goes
same_behind : (front a b : List ℕ) → front ++ a ≡ front ++ b → a ≡ b
same_behind [] a b e = e
same_behind (unit ∷ front) a b e = let h : front ++ a ≡ front ++ b = cc in same_behind front a b h

module _ (policy : Policy) (enc : Enc) (rules : List Rule) (auto : Auto) (is : IsAutoUnder policy enc (patterns_of rules) auto)
    (limits : IsWithinLimits rules) (word : List ℕ) (units : IsWord enc (terms_of (patterns_of rules)) word)
    (none : end_at rules word ≡ None) where
  abbrev Begins : List ℕ → Type 0
  Begins other = BeginsMatch enc (terms_of (patterns_of rules)) other

  stop : IsStopped policy enc (patterns_of rules) auto is word (last_standing auto (at_start 0) word)
  stop = stopped policy enc (patterns_of rules) auto is word

  taken_begun : (other : List ℕ) (place : ℕ) → Takes enc (patterns_of rules) place other → Begins other
  taken_begun other place takes =
      let at : slice_get (terms_of (patterns_of rules)) place ≡ Some takes.0.term =
      slice_get-map (λ (pattern : Pattern). pattern.term) (with_terms (patterns_of rules)) place
      ∙ ap (option_map (λ (pattern : Pattern). pattern.term)) takes.1 in
      taken_begins enc (terms_of (patterns_of rules)) place takes.0.term other at takes.2

  spelled : IsWord enc (terms_of (patterns_of rules)) stop.passed
  spelled =
      IsWord-front enc (patterns_of rules) stop.passed stop.left (subst (λ l. IsWord enc (terms_of (patterns_of rules)) l) stop.splits units)

  passed_begins : Begins stop.passed
  passed_begins = (is.begins 0 empty_bank stop.passed refl spelled).0 (subst (λ o. IsSome o) (sym stop.runs) refl)

  -- with one unit more no match is begun
  ends_there : (unit : ℕ) (back : List ℕ) → IsWordAt word 0 (stop.passed ++ unit ∷ back) → Begins (stop.passed ++ unit ∷ back) → ⊥
  ends_there unit back at begun =
      let longer : stop.passed ++ stop.left ≡ stop.passed ++ (unit ∷ back ++ at.0) = sym stop.splits ∙ at.1
      ∙ append_assoc stop.passed (unit ∷ back) at.0 in
      let behind = same_behind stop.passed stop.left (unit ∷ back ++ at.0) longer in
      let splits : stop.passed ++ unit ∷ back ≡ (stop.passed ++ unit ∷ []) ++ back = sym (append_assoc stop.passed (unit ∷ []) back) in
      let begun1 = front_begins enc (terms_of (patterns_of rules)) (stop.passed ++ unit ∷ []) back (subst (λ l. Begins l) splits begun) in
      let whole : word ≡ (stop.passed ++ unit ∷ []) ++ (back ++ at.0) = at.1 ∙ ap (λ l. l ++ at.0) splits
      ∙ append_assoc (stop.passed ++ unit ∷ []) back at.0 in
      let spelled1 = IsWord-front enc (patterns_of rules) (stop.passed ++ unit ∷ []) (back ++ at.0)
      (subst (λ l. IsWord enc (terms_of (patterns_of rules)) l) whole units) in
      let some = (is.begins 0 empty_bank (stop.passed ++ unit ∷ []) refl spelled1).1 begun1 in
      let no_run : run auto (at_start 0) (stop.passed ++ unit ∷ []) ≡ None =
      run-one_more auto (at_start 0) stop.passed unit ∙ ap (λ o. and_then o (λ s. step auto s unit)) stop.runs
      ∙ stop.no_edge unit (back ++ at.0) behind in
      nothing (subst (λ o. IsSome o) no_run some)
    where
      nothing : IsSome {T = Standing} None → ⊥
      nothing h = cc

  -- what begins a match there is a front of what was passed
  begun_within : (other : List ℕ) → IsWordAt word 0 other → Begins other → (back : List ℕ) × (stop.passed ≡ other ++ back)
  begun_within other at begun = by (fronts stop.passed stop.left other at.0 (sym stop.splits ∙ at.1))
    where
      by : ((back : List ℕ) × (stop.passed ≡ other ++ back)) ⊎ ((unit : ℕ) × (back : List ℕ) × (other ≡ stop.passed ++ unit ∷ back))
          → (back : List ℕ) × (stop.passed ≡ other ++ back)
      by (inl within) = within
      by (inr longer) =
          absurd (ends_there longer.0 longer.1 (subst (λ l. IsWordAt word 0 l) longer.2 at) (subst (λ l. Begins l) longer.2 begun))

  -- where nothing is found, no rule is entered
  none-match : BestFront policy enc (patterns_of rules) stop.passed None
      → IsMatch policy enc (patterns_of rules) word 0 (unmatched (last_standing auto (at_start 0) word).offset)
  none-match untaken =
      let end : 0 + length stop.passed ≡ (last_standing auto (at_start 0) word).offset = omega (arith, stop.offset) in
      subst (λ n. IsMatch policy enc (patterns_of rules) word 0 (unmatched n)) end
      (by_none stop.passed (no-end policy enc rules word none) (record {
        is_word = (stop.left, stop.splits);
        begins = passed_begins;
        longest = λ other at begun.
            let w = begun_within other at begun in let l = length-append other w.0 in let e = ap length w.1 in omega (arith, l, e);
        untaken = λ other taker at takes.
            let w = begun_within other at (taken_begun other taker takes) in untaken other w.0 taker w.1 takes;
      }))

  abbrev cursor_of : Found → ℕ
  cursor_of found = cursor_at (slash_of rules found.rule) (map tag_value found.values) found.offset

  -- where a match is found, its rule is entered
  found-match : (found : Found) → BestFront policy enc (patterns_of rules) stop.passed (Some found)
      → IsMatch policy enc (patterns_of rules) word 0 (matched found.rule (cursor_of found) (map tag_value found.values))
  found-match found front =
      let best = front.best in
      let pattern = best.pattern in
      let regular = regular-at rules best.place best.pattern limits.regular best.is in
      let values = map tag_value found.values in
      let whole : word ≡ front.front ++ (front.back ++ stop.left) =
      stop.splits ∙ ap (λ l. l ++ stop.left) front.splits ∙ append_assoc front.front front.back stop.left in
      let cursor : cursor_at pattern.slash values (0 + length front.front) ≡ cursor_of found =
      ap (λ s. cursor_at s values (0 + length front.front)) (sym (slash-own rules best.place best.pattern limits.numbers best.is))
      ∙ ap (λ n. cursor_at (slash_of rules n) values (0 + length front.front)) (sym best.rule)
      ∙ ap (λ n. cursor_at (slash_of rules found.rule) values n) (sym best.offset) in
      subst (λ n. IsMatch policy enc (patterns_of rules) word 0 (matched n (cursor_of found) values)) (sym best.rule)
      (subst (λ n. IsMatch policy enc (patterns_of rules) word 0 (matched pattern.number n values)) cursor
      (by_rule front.front best.place best.pattern (cursor_at pattern.slash values (0 + length front.front)) values
      (no-end policy enc rules word none)
      (record {
        is_word = (front.back ++ stop.left, whole);
        takes = (best.pattern, best.is, (best.tree, best.least.yields));
        longest = λ other taker at takes.
            let w = begun_within other at (taken_begun other taker takes) in front.longest other w.0 taker w.1 takes;
        first = best.first;
      })
      best.is
      (record {
        tree = best.tree;
        least = best.least;
        stands =
            cursor_behind-values enc best.pattern best.pattern.slash (part_at (patterns_of rules) best.place) front.front best.tree values
            regular refl best.values;
        valued = best.values;
      })))

  by-found : (found : Option Found) → BestFront policy enc (patterns_of rules) stop.passed found
      → IsMatch policy enc (patterns_of rules) word 0 (outcome_of rules (last_standing auto (at_start 0) word).offset found)
  by-found None best = none-match best
  by-found (Some found) best = found-match found best

  pub outcome-match : IsMatch policy enc (patterns_of rules) word 0 (outcome_on rules auto word)
  outcome-match = by-found (found_behind auto (last_standing auto (at_start 0) word)) stop.best
