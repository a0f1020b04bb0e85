-- Of what is chosen of states with their numbers the first accept of each rule: what holds of each, and that each rule chosen is there.
use Rattle.std.specs.Prelude.{◌≡◌, ◌≢◌, ℕ, zero, suc, ◌+◌, ◌<◌, Bool, true, false, List, [], ◌∷◌, length, Option, Some, None, ◌||◌, nat_eq, refl, slice_get, if◌then◌else◌, nat_lt}
use Rattle.std.proofs.Common.{sym, ap, ◌∙◌, arith, eq-eqb, true≢false, lt-ltb}
use Rattle.std.proofs.lemmas.Bool.{ne_eqb}
use Rattle.std.specs.List.{AllByRecursion}
use Rattle.lx_auto.specs.Automaton.{state_of}
use Rattle.lx_auto.specs.declared.automaton.Accept.{Accept}
use Rattle.lx_auto.specs.declared.automaton.State.{State}
use Rattle.lx_layout.specs.Endings.{Ending, ending_code}
use Rattle.lx_layout.specs.Fallback.{chosen}
use Rattle.lx_layout.specs.Halting.{Halting, ended_accept, ended_accepts, firsts_from, is_saved, saved_accept, saved_accepts}
use Rattle.lx_auto.specs.Shapes.{AreAgreed}
use Rattle.lx_layout.specs.Layout.{choices_from, ending_blocks, has_rule, rule_place, with_accept}
use Rattle.lx_layout.proofs.BlockLayouts.FirstAccepts.{Chosen, each-with_accept, has_rule-own, has_rule-with_accept}
use Rattle.lx_layout.proofs.Rules.RuleBlocks.{rule_found, slice_get-ending_blocks, slice_get-state_of}

module _ (halting : Halting) (choose : ℕ → State → Option Accept) where
  has_rule-found : (found : List Accept) (number : ℕ) (states : List State) (rule : ℕ) → has_rule found rule ≡ true
      → has_rule (firsts_from halting choose found number states) rule ≡ true
  has_rule-found found number [] rule has = has
  has_rule-found found number (given ∷ states) rule has =
      has_rule-found (with_accept found (choose number given)) (suc number) states rule (has_rule-with_accept found (choose number given) rule has)

  -- the rule of what is chosen of a state is among them
  pub has_rule-chosen : (found : List Accept) (number : ℕ) (states : List State) (s : ℕ) (accept : Accept) → s < length states
      → choose (number + s) (state_of states s) ≡ Some accept → has_rule (firsts_from halting choose found number states) accept.rule ≡ true
  has_rule-chosen found number [] s accept lt is = absurd (omega (arith, lt))
  has_rule-chosen found number (given ∷ states) zero accept lt is =
      let e : number + 0 ≡ number = omega arith in
      has_rule-found (with_accept found (choose number given)) (suc number) states accept.rule
      (ap (λ o. has_rule (with_accept found o) accept.rule) (ap (λ n. choose n given) (sym e) ∙ is) ∙ has_rule-own found accept)
  has_rule-chosen found number (given ∷ states) (suc s) accept lt is =
      let e : suc number + s ≡ number + suc s = omega arith in
      has_rule-chosen (with_accept found (choose number given)) (suc number) states s accept (omega (arith, lt))
      (ap (λ n. choose n (state_of states s)) e ∙ is)

  -- what holds of what is chosen of each state
  pub each-firsts_from : (P : Accept → Type 0) (found : List Accept) (number : ℕ) (states : List State) → AllByRecursion P found
      → ((s : ℕ) (accept : Accept) → s < length states → choose (number + s) (state_of states s) ≡ Some accept → P accept)
      → AllByRecursion P (firsts_from halting choose found number states)
  each-firsts_from P found number [] h are = h
  each-firsts_from P found number (given ∷ states) h are =
      each-firsts_from P (with_accept found (choose number given)) (suc number) states
      (each-with_accept P found (choose number given) h (own (choose number given) refl))
      (λ s accept lt is. are (suc s) accept (omega (arith, lt)) (next s accept is))
    where
      own : (o : Option Accept) → choose number given ≡ o → Chosen P o
      own None is = tt
      own (Some accept) is =
          let e : number + 0 ≡ number = omega arith in are 0 accept (omega arith) (ap (λ n. choose n given) e ∙ is)

      next : (s : ℕ) (accept : Accept) → choose (suc number + s) (state_of states s) ≡ Some accept → choose (number + suc s) (state_of states s) ≡ Some accept
      next s accept is = let e : number + suc s ≡ suc number + s = omega arith in ap (λ n. choose n (state_of states s)) e ∙ is

-- what is kept where it is asked for
pub kept_some : (t : Bool) (o : Option Accept) (accept : Accept) → (if t then o else None) ≡ Some accept → (t ≡ true) × (o ≡ Some accept)
kept_some true o accept is = (refl, is)
kept_some false o accept is = absurd (cc)

module _ (halting : Halting) (states : List State) (s : ℕ) (accept : Accept) (lt : s < length states) (is : (state_of states s).accept ≡ Some accept) where
  -- the rule of an accept by which a match can end, or to which it can fall back
  pub has_rule-ended : (halting.halts s || is_saved halting (state_of states s)) ≡ true → has_rule (ended_accepts halting states) accept.rule ≡ true
  has_rule-ended ended =
      let e : 0 + s ≡ s = omega arith in
      has_rule-chosen halting (ended_accept halting) [] 0 states s accept lt
      (ap (λ n. ended_accept halting n (state_of states s)) e
      ∙ ap (λ t. if t then (state_of states s).accept else None) ended ∙ is)

  pub has_rule-saved : is_saved halting (state_of states s) ≡ true → has_rule (saved_accepts halting states) accept.rule ≡ true
  has_rule-saved saved =
      has_rule-chosen halting (saved_accept halting) [] 0 states s accept lt
      (ap (λ t. if t then (state_of states s).accept else None) saved ∙ is)

  -- the rule ends by the values of the accept
  pub end_stands : (endings : ℕ → Ending) → AreAgreed states → (halting.halts s || is_saved halting (state_of states s)) ≡ true
      → slice_get (ending_blocks endings (ended_accepts halting states)) (rule_place (ended_accepts halting states) accept.rule)
      ≡ Some (ending_code endings accept.rule accept.values)
  end_stands endings agreed ended =
      let found = rule_found (λ other. other.rule ≡ accept.rule → other.values ≡ accept.values) (ended_accepts halting states) accept.rule
      (each-firsts_from halting (ended_accept halting) (λ other. other.rule ≡ accept.rule → other.values ≡ accept.values) [] 0 states tt
      (λ number other within chosen same.
      let kept = kept_some (halting.halts (0 + number) || is_saved halting (state_of states number)) (state_of states number).accept other chosen in
      agreed number s (state_of states number) (state_of states s) other accept (slice_get-state_of states number within) (slice_get-state_of states s lt)
      kept.1 is same)) (has_rule-ended ended) in
      slice_get-ending_blocks endings (ended_accepts halting states) (rule_place (ended_accepts halting states) accept.rule) found.0 found.1
      ∙ ap (λ rule. Some (ending_code endings rule found.0.values)) found.2
      ∙ ap (λ values. Some (ending_code endings accept.rule values)) (found.3 found.2)

-- ---- the choices of the fallback

-- no number below the first one is chosen
pub chosen-below : (saved block n : ℕ) (list : List Accept) → n < saved → chosen true (choices_from saved block list) n ≡ None
chosen-below saved block n [] lt = refl
chosen-below saved block n (accept ∷ []) lt =
    let ne : n ≢ saved = λ e. omega (arith, e, lt) in ap (λ t. if t then Some block else None) (ne_eqb n saved ne)
chosen-below saved block n (accept ∷ next ∷ list) lt =
    let ne : n ≢ saved = λ e. omega (arith, e, lt) in
    ap (λ t. if t then Some block else chosen true (choices_from (suc saved) (suc block) (next ∷ list)) n) (ne_eqb n saved ne)
    ∙ chosen-below (suc saved) (suc block) n (next ∷ list) (omega (arith, lt))

-- the number at a rule's place leads to the block at that place
pub chosen-choices_from : (leaves : Bool) (saved block : ℕ) (list : List Accept) (rule : ℕ) → has_rule list rule ≡ true
    → chosen leaves (choices_from saved block list) (saved + rule_place list rule) ≡ Some (block + rule_place list rule)
chosen-choices_from leaves saved block [] rule e = absurd (true≢false (sym e))
chosen-choices_from leaves saved block (accept ∷ []) rule e = by leaves (nat_eq rule accept.rule) e
  where
    by : (leaves t : Bool) → (if t then true else false) ≡ true
        → chosen leaves (choices_from saved block (accept ∷ [])) (saved + (if t then 0 else 1)) ≡ Some (block + (if t then 0 else 1))
    by leaves false e = absurd (true≢false (sym e))
    by false true e = let at : block ≡ block + 0 = omega arith in ap (λ n. Some n) at
    by true true e =
        let same : saved + 0 ≡ saved = omega arith in
        let at : block ≡ block + 0 = omega arith in
        ap (λ t. if t then Some block else None) (eq-eqb (saved + 0) saved same) ∙ ap (λ n. Some n) at
chosen-choices_from leaves saved block (accept ∷ next ∷ list) rule e =
    by (nat_eq rule accept.rule) e (λ h. chosen-choices_from leaves (suc saved) (suc block) (next ∷ list) rule h)
  where
    place : ℕ
    place = rule_place (next ∷ list) rule

    by : (t : Bool) → (if t then true else has_rule (next ∷ list) rule) ≡ true
        → (has_rule (next ∷ list) rule ≡ true
        → chosen leaves (choices_from (suc saved) (suc block) (next ∷ list)) (suc saved + rule_place (next ∷ list) rule) ≡ Some
        (suc block + rule_place (next ∷ list) rule))
        → chosen leaves (choices_from saved block (accept ∷ next ∷ list)) (saved + (if t then 0 else suc (rule_place (next ∷ list) rule)))
        ≡ Some (block + (if t then 0 else suc (rule_place (next ∷ list) rule)))
    by true e again =
        let same : saved + 0 ≡ saved = omega arith in
        let at : block ≡ block + 0 = omega arith in
        ap (λ t. if t then Some block else chosen leaves (choices_from (suc saved) (suc block) (next ∷ list)) (saved + 0))
        (eq-eqb (saved + 0) saved same)
        ∙ ap (λ n. Some n) at
    by false e again =
        let ne : saved + suc place ≢ saved = λ e. omega (arith, e) in
        let up : saved + suc (rule_place (next ∷ list) rule) ≡ suc saved + rule_place (next ∷ list) rule = omega arith in
        let to : suc block + rule_place (next ∷ list) rule ≡ block + suc (rule_place (next ∷ list) rule) = omega arith in
        ap (λ t. if t then Some block
        else chosen leaves (choices_from (suc saved) (suc block) (next ∷ list)) (saved + suc (rule_place (next ∷ list) rule)))
        (ne_eqb (saved + suc place) saved ne)
        ∙ ap (λ n. chosen leaves (choices_from (suc saved) (suc block) (next ∷ list)) n) up ∙ again e ∙ ap (λ n. Some n) to

-- where no number is kept, the block of the only choice is chosen by any number
pub chosen-alone : (leaves : Bool) (saved block : ℕ) (list : List Accept) (rule n : ℕ) → (leaves || nat_lt 1 (length list)) ≡ false
    → has_rule list rule ≡ true → chosen leaves (choices_from saved block list) n ≡ Some (block + rule_place list rule)
chosen-alone true saved block list rule n alone has = absurd (true≢false alone)
chosen-alone false saved block [] rule n alone has = absurd (true≢false (sym has))
chosen-alone false saved block (accept ∷ []) rule n alone has = by (nat_eq rule accept.rule) has
  where
    by : (t : Bool) → (if t then true else false) ≡ true → Some block ≡ Some (block + (if t then 0 else 1))
    by true e = let at : block ≡ block + 0 = omega arith in ap (λ n. Some n) at
    by false e = absurd (true≢false (sym e))
chosen-alone false saved block (accept ∷ next ∷ list) rule n alone has =
    absurd (true≢false (sym (lt-ltb 1 (length (accept ∷ next ∷ list)) (omega arith)) ∙ alone))
