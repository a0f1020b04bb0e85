-- Code in which what was kept is forgotten before a jump at its end.
use Rattle.std.specs.Prelude.{◌≡◌, suc, ◌-◌, Bool, true, false, ◌||◌, List, [], ◌∷◌, ◌++◌, length, map, take, drop, slice_get, Option, Some, None, refl, if◌then◌else◌}
use Rattle.std.proofs.Common.{sym, ap, ap₂, ◌∙◌, subst, arith, true≢false}
use Rattle.std.proofs.lemmas.List.Folds.{list_any-append}
use Rattle.std.specs.List.{AllByRecursion, list_any}
use Rattle.lx_ccode.specs.Statements.{all_statements, is_ending}
use Rattle.lx_ccode.specs.Validity.{ends_once}
use Rattle.lx_ccode.specs.declared.piece.CodeBlock.{CodeBlock}
use Rattle.lx_ccode.specs.declared.piece.Stmt.{Stmt}
use Rattle.lx_ccode.specs.declared.piece.Stmt.TheVariants.{Accept, Jump}
use Rattle.lx_layout.specs.Forgetting.{any_tests_kept, ends_by_jump, forgets_before_jumps, forgetting, forgetting_block, is_forget, is_jump, tests_kept}

-- ---- what is forgotten is so before the last statement

pub forgetting-append : (front : List Stmt) (last : Stmt) (rest : List Stmt) → forgetting (front ++ last ∷ rest) ≡ front ++ forgetting (last ∷ rest)
forgetting-append [] last rest = refl
forgetting-append (statement ∷ []) last rest = refl
forgetting-append (statement ∷ next ∷ front) last rest = ap (λ l. statement ∷ l) (forgetting-append (next ∷ front) last rest)

pub forgetting-none : (code : List Stmt) → ends_by_jump code ≡ false → forgetting code ≡ code
forgetting-none [] none = refl
forgetting-none (statement ∷ []) none = ap (λ t. if t then Accept 0 ∷ statement ∷ [] else statement ∷ []) none
forgetting-none (statement ∷ next ∷ code) none = ap (λ l. statement ∷ l) (forgetting-none (next ∷ code) none)

-- the last statement is looked at
abbrev pub jumps_at : Option Stmt → Bool
jumps_at None = false
jumps_at (Some statement) = is_jump statement

pub ends_by_jump-last : (code : List Stmt) (last : Option Stmt) → last ≡ slice_get code (length code - 1) → jumps_at last ≡ ends_by_jump code
ends_by_jump-last code last is = ap jumps_at is ∙ at code
  where
    at : (code : List Stmt) → jumps_at (slice_get code (length code - 1)) ≡ ends_by_jump code
    at [] = refl
    at (statement ∷ []) = refl
    at (statement ∷ next ∷ code) =
        let last : length (statement ∷ next ∷ code) - 1 ≡ suc (length (next ∷ code) - 1) = omega arith in
        ap (λ n. jumps_at (slice_get (statement ∷ next ∷ code) n)) last ∙ at (next ∷ code)

pub jumps_none : (code : List Stmt) → AllByRecursion (λ statement. is_jump statement ≡ false) code → ends_by_jump code ≡ false
jumps_none [] none = refl
jumps_none (statement ∷ []) none = none.0
jumps_none (statement ∷ next ∷ code) none = jumps_none (next ∷ code) none.1

-- it is put in there
pub forgetting-insert : (code : List Stmt) → ends_by_jump code ≡ true
    → take (length code - 1) code ++ Accept 0 ∷ drop (length code - 1) code ≡ forgetting code
forgetting-insert [] jumps = absurd (true≢false (sym jumps))
forgetting-insert (statement ∷ []) jumps = ap (λ t. if t then Accept 0 ∷ statement ∷ [] else statement ∷ []) (sym jumps)
forgetting-insert (statement ∷ next ∷ code) jumps =
    let last : length (statement ∷ next ∷ code) - 1 ≡ suc (length (next ∷ code) - 1) = omega arith in
    subst (λ n. take n (statement ∷ next ∷ code) ++ Accept 0 ∷ drop n (statement ∷ next ∷ code) ≡ forgetting (statement ∷ next ∷ code)) (sym last)
    (ap (λ l. statement ∷ l) (forgetting-insert (next ∷ code) jumps))

-- ---- tests of what was kept stay

tests-forgetting : (code : List Stmt) → list_any tests_kept (forgetting code) ≡ list_any tests_kept code
tests-forgetting [] = refl
tests-forgetting (statement ∷ []) = by (is_jump statement)
  where
    by : (t : Bool) → list_any tests_kept (if t then Accept 0 ∷ statement ∷ [] else statement ∷ []) ≡ list_any tests_kept (statement ∷ [])
    by true = refl
    by false = refl
tests-forgetting (statement ∷ next ∷ code) = ap (λ t. tests_kept statement || t) (tests-forgetting (next ∷ code))

pub any_tests-forgetting : (blocks : List CodeBlock) → any_tests_kept (map forgetting_block blocks) ≡ any_tests_kept blocks
any_tests-forgetting [] = refl
any_tests-forgetting (block ∷ blocks) =
    list_any-append tests_kept (forgetting block.stmts) (all_statements (map forgetting_block blocks))
    ∙ ap₂ (λ s t. s || t) (tests-forgetting block.stmts) (any_tests-forgetting blocks)
    ∙ sym (list_any-append tests_kept block.stmts (all_statements blocks))

-- ---- where a block ends once, no other statement is a jump

not_ending : (statement : Stmt) → is_ending statement ≡ false → is_jump statement ≡ false
not_ending (Jump cond rule) e = absurd (true≢false e)
not_ending statement e = refl

forgets_more : (forgotten : Bool) (statement : Stmt) (code : List Stmt) → is_jump statement ≡ false
    → forgets_before_jumps (is_forget statement) code ≡ true → forgets_before_jumps forgotten (statement ∷ code) ≡ true
forgets_more forgotten statement code none h =
    ap (λ t. if (if t then forgotten else true) then forgets_before_jumps (is_forget statement) code else false) none ∙ h

forgetting-forgets : (forgotten : Bool) (code : List Stmt) → ends_once code ≡ true → forgets_before_jumps forgotten (forgetting code) ≡ true
forgetting-forgets forgotten [] once = refl
forgetting-forgets forgotten (statement ∷ []) once = by (is_jump statement) refl
  where
    by : (t : Bool) → is_jump statement ≡ t
        → forgets_before_jumps forgotten (if t then Accept 0 ∷ statement ∷ [] else statement ∷ []) ≡ true
    by true jumps = ap (λ t. if (if t then true else true) then true else false) jumps
    by false jumps = forgets_more forgotten statement [] jumps refl
forgetting-forgets forgotten (statement ∷ next ∷ code) once =
    by (is_ending statement) refl once (λ again. forgetting-forgets (is_forget statement) (next ∷ code) again)
  where
    by : (t : Bool) → is_ending statement ≡ t → (if t then false else ends_once (next ∷ code)) ≡ true
        → (ends_once (next ∷ code) ≡ true → forgets_before_jumps (is_forget statement) (forgetting (next ∷ code)) ≡ true)
        → forgets_before_jumps forgotten (statement ∷ forgetting (next ∷ code)) ≡ true
    by true ends again rest = absurd (true≢false (sym again))
    by false ends again rest = forgets_more forgotten statement (forgetting (next ∷ code)) (not_ending statement ends) (rest again)

pub each_forgets : (blocks : List CodeBlock) → AllByRecursion (λ (block : CodeBlock). ends_once block.stmts ≡ true) blocks
    → AllByRecursion (λ (block : CodeBlock). forgets_before_jumps false block.stmts ≡ true) (map forgetting_block blocks)
each_forgets [] once = tt
each_forgets (block ∷ blocks) once = (forgetting-forgets false block.stmts once.0, each_forgets blocks once.1)
