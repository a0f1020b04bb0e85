-- Each rule by which a state accepts has its block, and so has what the fallback does for each rule that it may find.
use Rattle.std.specs.Prelude.{◌≡◌, ℕ, zero, suc, ◌<◌, List, [], ◌∷◌, length, Some, Bool, true, false, nat_eq, refl, slice_get, if◌then◌else◌}
use Rattle.std.proofs.Common.{sym, ap, ◌∙◌, arith, eqb-true, true≢false}
use Rattle.std.specs.List.{AllByRecursion}
use Rattle.lx_auto.specs.Automaton.{state_of}
use Rattle.lx_auto.specs.declared.automaton.Accept.{Accept}
use Rattle.lx_auto.specs.declared.automaton.State.{State}
use Rattle.lx_layout.specs.Codes.{restore_code}
use Rattle.lx_layout.specs.Endings.{Ending, ending_code}
use Rattle.lx_layout.specs.Layout.{ending_blocks, has_rule, restore_blocks, rule_place}

-- ---- the first accept of each rule

-- the accept at a rule's place is by that rule
pub rule_found : (P : Accept → Type 0) (accepts : List Accept) (rule : ℕ) → AllByRecursion P accepts → has_rule accepts rule ≡ true
    → (accept : Accept) × (slice_get accepts (rule_place accepts rule) ≡ Some accept) × (accept.rule ≡ rule) × P accept
rule_found P [] rule all e = absurd (true≢false (sym e))
rule_found P (first ∷ accepts) rule all e = by (nat_eq rule first.rule) refl e (λ h. rule_found P accepts rule all.1 h)
  where
    by : (t : Bool) → nat_eq rule first.rule ≡ t → (if t then true else has_rule accepts rule) ≡ true
        → (has_rule accepts rule ≡ true
        → (accept : Accept) × (slice_get accepts (rule_place accepts rule) ≡ Some accept) × (accept.rule ≡ rule) × P accept)
        → (accept : Accept) × (slice_get (first ∷ accepts) (if t then 0 else suc (rule_place accepts rule)) ≡ Some accept)
        × (accept.rule ≡ rule) × P accept
    by true is e again = (first, refl, sym (eqb-true rule first.rule is), all.0)
    by false is e again = again e

AllByRecursion-any : (accepts : List Accept) → AllByRecursion (λ accept. Unit {0}) accepts
AllByRecursion-any [] = tt
AllByRecursion-any (accept ∷ accepts) = (tt, AllByRecursion-any accepts)

pub slice_get-state_of : (states : List State) (s : ℕ) → s < length states → slice_get states s ≡ Some (state_of states s)
slice_get-state_of [] s lt = absurd (omega arith)
slice_get-state_of (state ∷ states) zero lt = refl
slice_get-state_of (state ∷ states) (suc s) lt = slice_get-state_of states s (omega arith)

-- ---- the blocks where rules end

pub slice_get-ending_blocks : (endings : ℕ → Ending) (accepts : List Accept) (i : ℕ) (accept : Accept) → slice_get accepts i ≡ Some accept
    → slice_get (ending_blocks endings accepts) i ≡ Some (ending_code endings accept.rule accept.values)
slice_get-ending_blocks endings [] i accept e = absurd (cc)
slice_get-ending_blocks endings (first ∷ accepts) zero accept e =
    let same : first ≡ accept = cc in ap (λ (a : Accept). Some (ending_code endings a.rule a.values)) same
slice_get-ending_blocks endings (first ∷ accepts) (suc i) accept e = slice_get-ending_blocks endings accepts i accept e

-- ---- the blocks of the fallback

slice_get-restore_blocks : (rules : ℕ → ℕ) (saved_accepts : List Accept) (i : ℕ) (accept : Accept) → slice_get saved_accepts i ≡ Some accept
    → slice_get (restore_blocks rules saved_accepts) i ≡ Some (restore_code (rules accept.rule))
slice_get-restore_blocks rules [] i accept e = absurd (cc)
slice_get-restore_blocks rules (first ∷ saved_accepts) zero accept e =
    let same : first ≡ accept = cc in ap (λ (a : Accept). Some (restore_code (rules a.rule))) same
slice_get-restore_blocks rules (first ∷ saved_accepts) (suc i) accept e = slice_get-restore_blocks rules saved_accepts i accept e

pub restore_stands : (rules : ℕ → ℕ) (saved_accepts : List Accept) (rule : ℕ) → has_rule saved_accepts rule ≡ true
    → slice_get (restore_blocks rules saved_accepts) (rule_place saved_accepts rule) ≡ Some (restore_code (rules rule))
restore_stands rules saved_accepts rule has =
    let found = rule_found (λ accept. Unit {0}) saved_accepts rule (AllByRecursion-any saved_accepts) has in
    slice_get-restore_blocks rules saved_accepts (rule_place saved_accepts rule) found.0 found.1 ∙ ap (λ rule. Some (restore_code (rules rule))) found.2
