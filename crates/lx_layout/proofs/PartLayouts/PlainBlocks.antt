-- What holds of each block of a layout that reads no unit, if it holds of the code of each sort, wherever that stands.
use Rattle.std.specs.Prelude.{◌≡◌, ℕ, zero, suc, ◌+◌, ◌≤◌, Bool, true, false, ◌||◌, List, [], ◌∷◌, ◌++◌, length, Option, Some, None, nat_eq, refl, if◌then◌else◌}
use Rattle.std.proofs.Common.{arith, length-append}
use Rattle.std.specs.List.{AllByRecursion}
use Rattle.lx_auto.specs.declared.automaton.Accept.{Accept}
use Rattle.lx_auto.specs.declared.automaton.Auto.{Auto}
use Rattle.lx_auto.specs.declared.automaton.Edge.{Edge}
use Rattle.lx_auto.specs.declared.automaton.State.{State}
use Rattle.lx_auto.specs.declared.ops.Op.{Op}
use Rattle.lx_ccode.specs.declared.piece.Stmt.{Stmt}
use Rattle.lx_ccode.specs.declared.piece.Stmt.TheVariants.{Goto}
use Rattle.lx_layout.specs.Codes.{Choice, accept_code, restore_code}
use Rattle.lx_layout.specs.Endings.{Ending, ending_code}
use Rattle.lx_layout.specs.Fallback.{edge_code, fallback_code}
use Rattle.lx_layout.specs.Halting.{Halting, any_falls, ended_accept, ended_accepts, firsts_from, halted_accept, is_saved, saved_accept, saved_accepts, keeps_numbers, kept_number}
use Rattle.lx_layout.specs.Layout.{choices_from, end_blocks, ending_blocks, has_rule, lone_blocks, own_blocks, restore_blocks, rule_place, saved_number, with_accept}
use Rattle.lx_layout.specs.SuppliedLayout.{class_blocks, end_rule_part, fallback_part, kept}
use Rattle.lx_dispatch.specs.TransitionClasses.{classes_onto, has_class}
use Rattle.lx_layout.proofs.Validity.EachElement.{each-append}

-- ---- what is chosen of states

module _ (A : Accept → Type 0) where
  abbrev pub OfAccept : Option Accept → Type 0
  OfAccept None = Unit {0}
  OfAccept (Some accept) = A accept

  abbrev pub OfAccepts : List State → Type 0
  OfAccepts states = AllByRecursion (λ (given : State). OfAccept given.accept) states

  of_unless : (t : Bool) (o : Option Accept) → OfAccept o → OfAccept (if t then o else None)
  of_unless true o h = h
  of_unless false o h = tt

  of_with_accept : (found : List Accept) (o : Option Accept) → AllByRecursion A found → OfAccept o → AllByRecursion A (with_accept found o)
  of_with_accept found None h is = h
  of_with_accept found (Some accept) h is = by (has_rule found accept.rule)
    where
      by : (t : Bool) → AllByRecursion A (if t then found else found ++ accept ∷ [])
      by true = h
      by false = each-append A found (accept ∷ []) h (is, tt)

  of_firsts : (halting : Halting) (choose : ℕ → State → Option Accept)
      → ((number : ℕ) (given : State) → OfAccept given.accept → OfAccept (choose number given))
      → (found : List Accept) (number : ℕ) (states : List State) → AllByRecursion A found → OfAccepts states
      → AllByRecursion A (firsts_from halting choose found number states)
  of_firsts halting choose f found number [] h are = h
  of_firsts halting choose f found number (given ∷ states) h are =
      of_firsts halting choose f (with_accept found (choose number given)) (suc number) states
      (of_with_accept found (choose number given) h (f number given are.0)) are.1

  module _ (halting : Halting) where
    pub of_halted : (number : ℕ) (given : State) → OfAccept given.accept → OfAccept (halted_accept halting number given)
    of_halted number given h = of_unless (halting.halts number) given.accept h

    pub of_saved : (states : List State) → OfAccepts states → AllByRecursion A (saved_accepts halting states)
    of_saved states h =
        of_firsts halting (saved_accept halting) (λ number given is. of_unless (is_saved halting given) given.accept is) [] 0 states tt h

    pub of_ended : (states : List State) → OfAccepts states → AllByRecursion A (ended_accepts halting states)
    of_ended states h =
        of_firsts halting (ended_accept halting) (λ number given is. of_unless (halting.halts number || is_saved halting given) given.accept is) [] 0 states
        tt h

length-with_accept : (found : List Accept) (o : Option Accept) → length (with_accept found o) ≤ suc (length found)
length-with_accept found None = omega arith
length-with_accept found (Some accept) = by (has_rule found accept.rule)
  where
    by : (t : Bool) → length (if t then found else found ++ accept ∷ []) ≤ suc (length found)
    by true = omega arith
    by false = let e = length-append found (accept ∷ []) in omega (arith, e)

length-firsts_from : (halting : Halting) (choose : ℕ → State → Option Accept) (found : List Accept) (number : ℕ) (states : List State)
    → length (firsts_from halting choose found number states) ≤ length found + length states
length-firsts_from halting choose found number [] = omega arith
length-firsts_from halting choose found number (given ∷ states) =
    let more = length-with_accept found (choose number given) in
    let again = length-firsts_from halting choose (with_accept found (choose number given)) (suc number) states in
    omega (arith, more, again)

-- no more states are saved than there are
pub few_saved : (halting : Halting) (states : List State) → length (saved_accepts halting states) ≤ length states
few_saved halting states = let few = length-firsts_from halting (saved_accept halting) [] 0 states in omega (arith, few)

place_within : (accepts : List Accept) (rule : ℕ) → rule_place accepts rule ≤ length accepts
place_within [] rule = omega arith
place_within (accept ∷ accepts) rule = by (nat_eq rule accept.rule) (place_within accepts rule)
  where
    by : (t : Bool) → rule_place accepts rule ≤ length accepts → (if t then 0 else suc (rule_place accepts rule)) ≤ suc (length accepts)
    by true le = omega arith
    by false le = omega (arith, le)

pub saved_number-few : (accepts : List Accept) (o : Option Accept) → saved_number accepts o ≤ suc (length accepts)
saved_number-few accepts None = omega arith
saved_number-few accepts (Some accept) = let le = place_within accepts accept.rule in omega (arith, le)

-- of the number by which a state is saved, if it is kept
abbrev pub OfKept : (S : ℕ → Type 0) → Option ℕ → Type 0
OfKept S None = Unit {0}
OfKept S (Some saved) = S saved

pub kept_number-of : (S : ℕ → Type 0) (halting : Halting) (accepts : List Accept) (o : Option Accept) → S (saved_number accepts o)
    → OfKept S (kept_number halting accepts o)
kept_number-of S halting accepts o h = by (keeps_numbers halting halting.format accepts)
  where
    by : (t : Bool) → OfKept S (if t then Some (saved_number accepts o) else None)
    by true = h
    by false = tt

-- what holds of edges holds of their classes
pub of_classes : (Q : Edge → Type 0) (found edges : List Edge) → AllByRecursion Q found → AllByRecursion Q edges
    → AllByRecursion Q (classes_onto found edges)
of_classes Q found [] h g = h
of_classes Q found (edge ∷ edges) h g = by (has_class found edge) (λ more also. of_classes Q more edges also g.1)
  where
    by : (t : Bool) → ((more : List Edge) → AllByRecursion Q more → AllByRecursion Q (classes_onto more edges))
        → AllByRecursion Q (classes_onto (if t then found else found ++ edge ∷ []) edges)
    by true again = again found h
    by false again = again (found ++ edge ∷ []) (each-append Q found (edge ∷ []) h (g.0, tt))

-- ---- the sorts of code

-- States are saved by numbers of some sort; edges and accepts are of some sort, and so is the rule at the end of the input.
module _ (P : List Stmt → Type 0) (S : ℕ → Type 0) (E : State → Edge → Type 0) (A : Accept → Type 0) (D : ℕ → Type 0) (halting : Halting)
    (endings : ℕ → Ending) (auto : Auto) where
  pub record HoldsOfPlain : Type 0 where
    pub jumps : (block : ℕ) → P (Goto block ∷ [])
    pub edges : (given : State) (saved : Option ℕ) (block : ℕ) (edge : Edge) → OfKept S saved → E given edge → P (edge_code halting auto given saved edge block)
    pub accepts : (accept : Accept) (block : ℕ) → A accept → P (accept_code auto accept.ops block)
    pub choices : (leaves : Bool) (choices : List Choice) → AllByRecursion (λ (choice : Choice). S choice.saved) choices
        → P (fallback_code leaves choices)
    pub restores : (block : ℕ) → P (restore_code block)
    pub ends : (accept : Accept) → A accept → P (ending_code endings accept.rule accept.values)
    pub end_rule : (rule : ℕ) → D rule → P (ending_code endings rule [])

  module _ (holds : HoldsOfPlain) where
    pub plain-classes : (saved : List Accept) (place : ℕ → ℕ) (given : State) (classes : List Edge) → OfKept S (kept_number halting saved given.accept)
        → AllByRecursion (E given) classes → AllByRecursion P (class_blocks halting auto saved place given classes)
    plain-classes saved place given [] few h = tt
    plain-classes saved place given (class ∷ classes) few h = (
      holds.edges given (kept_number halting saved given.accept) (place class.to) class few h.0,
      plain-classes saved place given classes few h.1,
    )

    pub plain-end : (rules : ℕ → ℕ) (fall : ℕ) (o : Option Accept) → OfAccept A o → AllByRecursion P (end_blocks auto rules fall o)
    plain-end rules fall None h = tt
    plain-end rules fall (Some accept) h = by accept.ops (λ block. holds.accepts accept block h)
      where
        by : (ops : List Op) → ((block : ℕ) → P (accept_code auto ops block)) → AllByRecursion P (own_blocks auto rules fall (rules accept.rule) ops)
        by [] f = tt
        by (op ∷ ops) f = (f (rules accept.rule), tt)

    pub plain-lone : (rules : ℕ → ℕ) (fall number : ℕ) (o : Option Accept) → OfAccept A o → AllByRecursion P (lone_blocks auto rules fall number o)
    plain-lone rules fall zero None h = (holds.jumps fall, tt)
    plain-lone rules fall zero (Some accept) h = (holds.accepts accept (rules accept.rule) h, tt)
    plain-lone rules fall (suc number) o h = plain-end rules fall o h

    choices_of : (n saved block : ℕ) (accepts : List Accept) → ((saved : ℕ) → saved ≤ n → S saved) → saved + length accepts ≤ suc n
        → AllByRecursion (λ (choice : Choice). S choice.saved) (choices_from saved block accepts)
    choices_of n saved block [] few fit = tt
    choices_of n saved block (accept ∷ accepts) few fit =
        (few saved (omega (arith, fit)), choices_of n (suc saved) (suc block) accepts few (omega (arith, fit)))

    pub plain-fallback : (first : ℕ) → ((saved : ℕ) → saved ≤ suc (length (saved_accepts halting auto.states)) → S saved)
        → AllByRecursion P (fallback_part halting auto first)
    plain-fallback first few = by (any_falls halting 0 auto.states)
      where
        holds_so : P (fallback_code (halting.falls 0) (choices_from 1 first (saved_accepts halting auto.states)))
        holds_so =
            holds.choices (halting.falls 0) (choices_from 1 first (saved_accepts halting auto.states))
            (choices_of (suc (length (saved_accepts halting auto.states))) 1 first (saved_accepts halting auto.states) few (omega arith))

        by : (t : Bool)
            → AllByRecursion P (kept t (fallback_code (halting.falls 0) (choices_from 1 first (saved_accepts halting auto.states)) ∷ []))
        by false = tt
        by true = (holds_so, tt)

    pub plain-restores : (rules : ℕ → ℕ) (accepts : List Accept) → AllByRecursion P (restore_blocks rules accepts)
    plain-restores rules [] = tt
    plain-restores rules (accept ∷ accepts) = (holds.restores (rules accept.rule), plain-restores rules accepts)

    pub plain-endings : (accepts : List Accept) → AllByRecursion A accepts → AllByRecursion P (ending_blocks endings accepts)
    plain-endings [] h = tt
    plain-endings (accept ∷ accepts) h = (holds.ends accept h.0, plain-endings accepts h.1)

    pub plain-end_rule : (o : Option ℕ) → ((rule : ℕ) → o ≡ Some rule → D rule) → AllByRecursion P (end_rule_part endings o)
    plain-end_rule None h = tt
    plain-end_rule (Some rule) h = (holds.end_rule rule (h rule refl), tt)

    -- all that stands behind the blocks of the states
    pub plain-rest : (rules : ℕ → ℕ) (first : ℕ) (end_rule : Option ℕ) → ((saved : ℕ) → saved ≤ suc (length (saved_accepts halting auto.states)) → S saved)
        → OfAccepts A auto.states → ((rule : ℕ) → end_rule ≡ Some rule → D rule)
        → AllByRecursion P (fallback_part halting auto first
        ++ (restore_blocks rules (saved_accepts halting auto.states) ++ (ending_blocks endings (ended_accepts halting auto.states) ++ end_rule_part endings end_rule)))
    plain-rest rules first end_rule few accepts ends_by =
        let falls : List (List Stmt) = fallback_part halting auto first in
        let restores : List (List Stmt) = restore_blocks rules (saved_accepts halting auto.states) in
        let ends : List (List Stmt) = ending_blocks endings (ended_accepts halting auto.states) in
        let last : List (List Stmt) = end_rule_part endings end_rule in
        each-append P falls (restores ++ (ends ++ last)) (plain-fallback first few)
        (each-append P restores (ends ++ last) (plain-restores rules (saved_accepts halting auto.states))
        (each-append P ends last (plain-endings (ended_accepts halting auto.states) (of_ended A halting auto.states accepts)) (plain-end_rule end_rule ends_by)))

-- what follows from what holds of each code holds of each code
pub plain-map : (P Q : List Stmt → Type 0) (S : ℕ → Type 0) (E : State → Edge → Type 0) (A : Accept → Type 0) (D : ℕ → Type 0) (halting : Halting)
    (endings : ℕ → Ending) (auto : Auto) → ((code : List Stmt) → P code → Q code) → HoldsOfPlain P S E A D halting endings auto
    → HoldsOfPlain Q S E A D halting endings auto
plain-map P Q S E A D halting endings auto f holds = record {
  jumps = λ block. f _ (holds.jumps block);
  edges = λ given saved block edge is of. f _ (holds.edges given saved block edge is of);
  accepts = λ accept block of. f _ (holds.accepts accept block of);
  choices = λ leaves choices of. f _ (holds.choices leaves choices of);
  restores = λ block. f _ (holds.restores block);
  ends = λ accept of. f _ (holds.ends accept of);
  end_rule = λ rule of. f _ (holds.end_rule rule of);
}
