-- Where the end of each rule stands among the ends of rules: at the rule's place, and that of the rule at the end of the input behind the others.
use Rattle.std.specs.Prelude.{◌≡◌, ◌≢◌, ◌⊎◌, ℕ, zero, suc, ◌+◌, ◌<◌, List, [], ◌∷◌, ◌++◌, length, Option, Some, None, ◌||◌, refl, slice_get, if◌then◌else◌}
use Rattle.std.proofs.Common.{inl, inr, sym, ap, ◌∙◌, subst, arith, eq-eqb}
use Rattle.std.proofs.lemmas.Bool.{ne_eqb}
use Rattle.std.specs.List.{AllByRecursion}
use Rattle.lx_auto.specs.Automaton.{state_of}
use Rattle.lx_auto.specs.declared.automaton.Accept.{Accept}
use Rattle.lx_auto.specs.declared.automaton.Held.{Held}
use Rattle.lx_auto.specs.declared.automaton.State.{State}
use Rattle.lx_ccode.specs.declared.piece.Stmt.{Stmt}
use Rattle.lx_layout.specs.Endings.{Ending, ending_code}
use Rattle.lx_layout.specs.Halting.{Halting, ended_accept, ended_accepts, firsts_from, is_saved}
use Rattle.lx_layout.specs.Layout.{ending_blocks, rule_place, with_accept}
use Rattle.lx_layout.specs.SuppliedLayout.{end_rule_part}
use Rattle.lx_layout.proofs.BlockLayouts.FirstAccepts.{HaveOwnRules, HaveOwnRules-with_accept, NoneByRule}
use Rattle.lx_layout.proofs.SuppliedLayouts.FirstsFrom.{each-firsts_from, kept_some}

-- ---- an element of lists one behind another

pub slice_get-parts : {A : Type 0} (a b : List A) (k : ℕ) (x : A) → slice_get (a ++ b) k ≡ Some x
    → (slice_get a k ≡ Some x) ⊎ ((j : ℕ) × (k ≡ length a + j) × (slice_get b j ≡ Some x))
slice_get-parts [] b k x is = let e : k ≡ 0 + k = omega arith in inr (k, e, is)
slice_get-parts (first ∷ a) b zero x is = inl is
slice_get-parts (first ∷ a) b (suc k) x is = by (slice_get-parts a b k x is)
  where
    by : (slice_get a k ≡ Some x) ⊎ ((j : ℕ) × (k ≡ length a + j) × (slice_get b j ≡ Some x))
        → (slice_get a k ≡ Some x) ⊎ ((j : ℕ) × (suc k ≡ suc (length a) + j) × (slice_get b j ≡ Some x))
    by (inl here) = inl here
    by (inr there) = let e = there.1 in inr (there.0, omega (arith, e), there.2)

pub slice_get-front : {A : Type 0} (a b : List A) (k : ℕ) (x : A) → slice_get a k ≡ Some x → slice_get (a ++ b) k ≡ Some x
slice_get-front [] b k x is = absurd (cc)
slice_get-front (first ∷ a) b zero x is = is
slice_get-front (first ∷ a) b (suc k) x is = slice_get-front a b k x is

-- ---- the places of rules

-- each of the first accepts has a rule of its own
pub own_rules : (halting : Halting) (choose : ℕ → State → Option Accept) (found : List Accept) (number : ℕ) (states : List State) → HaveOwnRules found
    → HaveOwnRules (firsts_from halting choose found number states)
own_rules halting choose found number [] h = h
own_rules halting choose found number (given ∷ states) h =
    own_rules halting choose (with_accept found (choose number given)) (suc number) states (HaveOwnRules-with_accept found (choose number given) h)

-- of accepts with their own rules each stands at the place of its rule
none_at : (rule : ℕ) (list : List Accept) (j : ℕ) (accept : Accept) → NoneByRule rule list → slice_get list j ≡ Some accept → rule ≢ accept.rule
none_at rule [] j accept none is = absurd (cc)
none_at rule (first ∷ list) zero accept none is = let same : first ≡ accept = cc in subst (λ (a : Accept). rule ≢ a.rule) same none.0
none_at rule (first ∷ list) (suc j) accept none is = none_at rule list j accept none.1 is

pub own_place : (list : List Accept) (j : ℕ) (accept : Accept) → HaveOwnRules list → slice_get list j ≡ Some accept → rule_place list accept.rule ≡ j
own_place [] j accept own is = absurd (cc)
own_place (first ∷ list) zero accept own is =
    let same : accept.rule ≡ first.rule = ap (λ (a : Accept). a.rule) (let e : accept ≡ first = cc in e) in
    ap (λ t. if t then 0 else suc (rule_place list accept.rule)) (eq-eqb accept.rule first.rule same)
own_place (first ∷ list) (suc j) accept own is =
    let other : first.rule ≢ accept.rule = none_at first.rule list j accept own.0 is in
    let ne : accept.rule ≢ first.rule = λ e. other (sym e) in
    ap (λ t. if t then 0 else suc (rule_place list accept.rule)) (ne_eqb accept.rule first.rule ne) ∙ ap suc (own_place list j accept own.1 is)

-- a rule of none of them has the place behind them
last_place : (rule : ℕ) (list : List Accept) → AllByRecursion (λ (accept : Accept). accept.rule ≢ rule) list → rule_place list rule ≡ length list
last_place rule [] none = refl
last_place rule (first ∷ list) none =
    let ne : rule ≢ first.rule = λ e. none.0 (sym e) in
    ap (λ t. if t then 0 else suc (rule_place list rule)) (ne_eqb rule first.rule ne) ∙ ap suc (last_place rule list none.1)

-- ---- their ends

-- the code is the end of a rule, which has this place
pub record IsEndAt (endings : ℕ → Ending) (list : List Accept) (j : ℕ) (code : List Stmt) : Type 0 where
  pub rule : ℕ
  pub values : List Held
  pub is : code ≡ ending_code endings rule values
  pub at : j ≡ rule_place list rule

found_end : (endings : ℕ → Ending) (list : List Accept) (j : ℕ) (code : List Stmt) → slice_get (ending_blocks endings list) j ≡ Some code
    → (accept : Accept) × (slice_get list j ≡ Some accept) × (code ≡ ending_code endings accept.rule accept.values)
found_end endings [] j code is = absurd (cc)
found_end endings (first ∷ list) zero code is = (first, refl, cc)
found_end endings (first ∷ list) (suc j) code is = found_end endings list j code is

length-ends : (endings : ℕ → Ending) (list : List Accept) → length (ending_blocks endings list) ≡ length list
length-ends endings [] = refl
length-ends endings (first ∷ list) = ap suc (length-ends endings list)

module _ (halting : Halting) (endings : ℕ → Ending) (end_rule : Option ℕ) (states : List State)
    (other : (rule s : ℕ) (accept : Accept) → end_rule ≡ Some rule → s < length states → (state_of states s).accept ≡ Some accept → accept.rule ≢ rule) where
  abbrev list : List Accept
  list = ended_accepts halting states

  none_ends : (rule : ℕ) → end_rule ≡ Some rule → AllByRecursion (λ (accept : Accept). accept.rule ≢ rule) (ended_accepts halting states)
  none_ends rule is =
      each-firsts_from halting (ended_accept halting) (λ (accept : Accept). accept.rule ≢ rule) [] 0 states tt
      (λ s accept lt chosen.
      other rule s accept is lt (kept_some (halting.halts (0 + s) || is_saved halting (state_of states s)) (state_of states s).accept accept chosen).1)

  last_end : (given : Option ℕ) (j : ℕ) (code : List Stmt) → end_rule ≡ given → slice_get (end_rule_part endings given) j ≡ Some code
      → IsEndAt endings (ended_accepts halting states) (length (ending_blocks endings (ended_accepts halting states)) + j) code
  last_end None j code same is = absurd (cc)
  last_end (Some rule) (suc j) code same is = absurd (cc)
  last_end (Some rule) zero code same is =
      let l = length-ends endings list in
      let place = last_place rule list (none_ends rule same) in
      record { rule = rule; values = []; is = cc; at = omega (arith, l, place) }

  pub end_at : (j : ℕ) (code : List Stmt)
      → slice_get (ending_blocks endings (ended_accepts halting states) ++ end_rule_part endings end_rule) j ≡ Some code
      → IsEndAt endings (ended_accepts halting states) j code
  end_at j code is = by (slice_get-parts (ending_blocks endings list) (end_rule_part endings end_rule) j code is)
    where
      by : (slice_get (ending_blocks endings (ended_accepts halting states)) j ≡ Some code)
          ⊎ ((i : ℕ) × (j ≡ length (ending_blocks endings (ended_accepts halting states)) + i) × (slice_get (end_rule_part endings end_rule) i ≡ Some code))
          → IsEndAt endings (ended_accepts halting states) j code
      by (inl here) =
          let found = found_end endings list j code here in
          let accept : Accept = found.0 in
          record {
            rule = accept.rule;
            values = accept.values;
            is = found.2;
            at = sym (own_place list j found.0 (own_rules halting (ended_accept halting) [] 0 states tt) found.1);
          }
      by (inr there) =
          subst (λ n. IsEndAt endings (ended_accepts halting states) n code) (sym there.1) (last_end end_rule there.0 code refl there.2)
