-- Where scanners store, there is a state just where there is a refill.
use Rattle.std.specs.Prelude.{◌≡◌, ◌⊎◌, Bool, true, false, ◌||◌, List, [], ◌∷◌, refl, if◌then◌else◌}
use Rattle.std.proofs.Common.{◌∙◌, ap, inl, inr, sym}
use Rattle.std.proofs.lemmas.Bool.{false≢true}
use Rattle.std.proofs.lemmas.List.Folds.{list_any-append}
use Rattle.std.specs.List.{AllByRecursion, list_any}
use Rattle.lx_ccode.specs.Statements.{all_statements, is_need, is_refill, is_state, is_try}
use Rattle.lx_ccode.specs.Validity.{refill_first, refills_after_states, states_before_refills}
use Rattle.lx_ccode.specs.declared.piece.CodeBlock.{CodeBlock}
use Rattle.lx_ccode.specs.declared.piece.Stmt.{Stmt}

-- ---- truth values

pub or_false : (a b : Bool) → a ≡ false → b ≡ false → (a || b) ≡ false
or_false false b e f = f
or_false true b e f = absurd (false≢true (sym e))

or_true : (a b : Bool) → (a || b) ≡ true → (a ≡ true) ⊎ (b ≡ true)
or_true true b e = inl refl
or_true false b e = inr e

or_left : (a b : Bool) → a ≡ true → (a || b) ≡ true
or_left true b e = refl
or_left false b e = absurd (false≢true e)

or_right : (a b : Bool) → b ≡ true → (a || b) ≡ true
or_right true b e = refl
or_right false b e = e

both_ways : (a b : Bool) → (a ≡ true → b ≡ true) → (b ≡ true → a ≡ true) → a ≡ b
both_ways true b f g = sym (f refl)
both_ways false true f g = g refl
both_ways false false f g = refl

if_both : (a b : Bool) → (if a then b else false) ≡ true → (a ≡ true) × (b ≡ true)
if_both true b e = (refl, e)
if_both false b e = absurd (false≢true e)

if_asked : (a b : Bool) → (if a then b else true) ≡ true → a ≡ true → b ≡ true
if_asked true b e is = e
if_asked false b e is = absurd (false≢true is)

-- ---- a block

first_any : (code : List Stmt) → refill_first code ≡ true → list_any is_refill code ≡ true
first_any [] e = absurd (false≢true e)
first_any (statement ∷ code) e = or_left (is_refill statement) (list_any is_refill code) e

refill_after : (code : List Stmt) → refills_after_states code ≡ true → list_any is_state code ≡ true → list_any is_refill code ≡ true
refill_after [] e has = absurd (false≢true has)
refill_after (statement ∷ code) e has =
    let both = if_both (if is_state statement then refill_first code else true) (refills_after_states code) e in
    or_right (is_refill statement) (list_any is_refill code) (by both.0 (or_true (is_state statement) (list_any is_state code) has) (refill_after code both.1))
  where
    by : (if is_state statement then refill_first code else true) ≡ true → (is_state statement ≡ true) ⊎ (list_any is_state code ≡ true)
        → (list_any is_state code ≡ true → list_any is_refill code ≡ true) → list_any is_refill code ≡ true
    by first (inl here) again = first_any code (if_asked (is_state statement) (refill_first code) first here)
    by first (inr later) again = again later

state_before : (after : Bool) (code : List Stmt) → states_before_refills after code ≡ true → list_any is_refill code ≡ true
    → (after ≡ true) ⊎ (list_any is_state code ≡ true)
state_before after [] e has = absurd (false≢true has)
state_before after (statement ∷ code) e has =
    let both = if_both (if is_refill statement then after else true) (states_before_refills (is_state statement) code) e in
    by both.0 (or_true (is_refill statement) (list_any is_refill code) has) (state_before (is_state statement) code both.1)
  where
    by : (if is_refill statement then after else true) ≡ true → (is_refill statement ≡ true) ⊎ (list_any is_refill code ≡ true)
        → (list_any is_refill code ≡ true → (is_state statement ≡ true) ⊎ (list_any is_state code ≡ true))
        → (after ≡ true) ⊎ (list_any is_state (statement ∷ code) ≡ true)
    by first (inl here) again = inl (if_asked (is_refill statement) after first here)
    by first (inr later) again = more (again later)
      where
        more : (is_state statement ≡ true) ⊎ (list_any is_state code ≡ true) → (after ≡ true) ⊎ (list_any is_state (statement ∷ code) ≡ true)
        more (inl stored) = inr (or_left (is_state statement) (list_any is_state code) stored)
        more (inr behind) = inr (or_right (is_state statement) (list_any is_state code) behind)

stored_code : (code : List Stmt) → refills_after_states code ≡ true → states_before_refills false code ≡ true
    → list_any is_state code ≡ list_any is_refill code
stored_code code after before =
    both_ways (list_any is_state code) (list_any is_refill code) (refill_after code after) (λ has. by (state_before false code before has))
  where
    by : (false ≡ true) ⊎ (list_any is_state code ≡ true) → list_any is_state code ≡ true
    by (inl never) = absurd (false≢true never)
    by (inr is) = is

-- ---- all blocks

pub stored_blocks : (blocks : List CodeBlock) → AllByRecursion (λ (block : CodeBlock). refills_after_states block.stmts ≡ true) blocks
    → AllByRecursion (λ (block : CodeBlock). states_before_refills false block.stmts ≡ true) blocks
    → list_any is_state (all_statements blocks) ≡ list_any is_refill (all_statements blocks)
stored_blocks [] after before = refl
stored_blocks (block ∷ blocks) after before =
    list_any-append is_state block.stmts (all_statements blocks)
    ∙ ap (λ t. t || list_any is_state (all_statements blocks)) (stored_code block.stmts after.0 before.0)
    ∙ ap (λ t. list_any is_refill block.stmts || t) (stored_blocks blocks after.1 before.1)
    ∙ sym (list_any-append is_refill block.stmts (all_statements blocks))

-- a refill is a check or a try
pub refills_none : (code : List Stmt) → list_any is_need code ≡ false → list_any is_try code ≡ false → list_any is_refill code ≡ false
refills_none [] needs tries = refl
refills_none (statement ∷ code) needs tries = by (is_need statement) (is_try statement) needs tries (refills_none code)
  where
    by : (need try : Bool) → (need || list_any is_need code) ≡ false → (try || list_any is_try code) ≡ false
        → (list_any is_need code ≡ false → list_any is_try code ≡ false → list_any is_refill code ≡ false) → ((need || try) || list_any is_refill code) ≡ false
    by true try e f again = absurd (false≢true (sym e))
    by false true e f again = absurd (false≢true (sym f))
    by false false e f again = again e f

pub none_refills : (code : List Stmt) → list_any is_refill code ≡ false → (list_any is_need code ≡ false) × (list_any is_try code ≡ false)
none_refills [] none = (refl, refl)
none_refills (statement ∷ code) none = by (is_need statement) (is_try statement) (none_refills code) none
  where
    by : (need try : Bool) → (list_any is_refill code ≡ false → (list_any is_need code ≡ false) × (list_any is_try code ≡ false))
        → ((need || try) || list_any is_refill code) ≡ false → ((need || list_any is_need code) ≡ false) × ((try || list_any is_try code) ≡ false)
    by true try again none = absurd (false≢true (sym none))
    by false true again none = absurd (false≢true (sym none))
    by false false again none = again none
