-- The states of a piece, and lists of cases.
use Rattle.std.proofs.Common.{◌≡◌, ◌<◌, ◌≤◌, ◌+◌, ◌-◌, ◌∙◌, length, get_or, add-one, append_assoc, ℕ, zero, suc, Bool, true, false, List, [], ◌∷◌, ◌++◌, drop, Option, Some, None, ◌↔◌, map, refl, sym, ap, subst, inl, inr, arith}
use Rattle.std.specs.Prelude.{cond, ◌==◌, ◌⊎◌, IsTrue}
use Rattle.std.specs.List.{AllByRecursion}
use Rattle.std.proofs.lemmas.Bool.Decides.{eqb_tells, nat_tests}
use Rattle.lx_ccode.specs.declared.piece.Stmt.{Stmt}
use Rattle.lx_ccode.specs.declared.piece.StateCase.{StateCase}
use Rattle.lx_ccode.specs.declared.piece.CodeBlock.{CodeBlock}
use Rattle.lx_ccode.specs.Statements.{state_of}
use Rattle.lx_ccode.specs.States.{block_of, onto_cases, states_from, states_in, try_first}
use Rattle.lx_ccode.specs.Validity.{AreAscending, AreOnce, label_of, last_statements}
use Rattle.std.proofs.Math.Seq.{drop-cons}
use Rattle.std.specs.Ordering.{nat_cmp}
use Rattle.std.specs.BTreeMap.{is_at}
use Rattle.std.specs.Option.{is_some}
use Rattle.std.proofs.lemmas.Bool.{true≢false, eqb-true, eq-eqb}
use Rattle.std.proofs.lemmas.List.{length-map, length-drop}
use Rattle.std.proofs.Math.ListN.{drop_of_length-le}
use Rattle.std.specs.Map.{lookup}
use Rattle.lx_ccode.specs.declared.piece.CondCase.{CondCase}

onto_cases-append : (state : Option ℕ) (block : ℕ) (cases others : List StateCase) → onto_cases state block (cases ++ others) ≡ onto_cases state block cases ++ others
onto_cases-append None block cases others = refl
onto_cases-append (Some state) block cases others = refl

pub states_in-append : (place : ℕ) (statements : List Stmt) (others : List StateCase) → states_in place statements others ≡ states_in place statements [] ++ others
states_in-append place [] others = refl
states_in-append place (statement ∷ statements) others =
    let block = cond (try_first statements) (suc place) place in
    ap (onto_cases (state_of statement) block) (states_in-append place statements others) ∙ onto_cases-append (state_of statement) block (states_in place statements []) others

-- no other case has the state
abbrev pub IsFresh : ℕ → List StateCase → Type 0
IsFresh state cases = AllByRecursion (λ other. other.state ≡ state → ⊥) cases

abbrev Tells : ℕ → ℕ → Type 0
Tells a b = ((a == b ≡ true) × (a ≡ b)) ⊎ ((a == b ≡ false) × (a ≡ b → ⊥))

none_by : (case : StateCase) (state : ℕ) (cases : List StateCase) → Tells case.state state → (case.state ≡ state → ⊥) → block_of cases state ≡ None → block_of (case ∷ cases) state ≡ None
none_by case state cases (inl same) differ none = absurd (differ same.1)
none_by case state cases (inr other) differ none = rw other.0 none

pub IsFresh-none : (state : ℕ) (cases : List StateCase) → IsFresh state cases → block_of cases state ≡ None
IsFresh-none state [] fresh = refl
IsFresh-none state (case ∷ cases) fresh = none_by case state cases (eqb_tells case.state state) fresh.0 (IsFresh-none state cases fresh.1)

fresh_by : (case : StateCase) (state : ℕ) (cases : List StateCase) → Tells case.state state → (block_of cases state ≡ None → IsFresh state cases) → block_of (case ∷ cases) state ≡ None → IsFresh state (case ∷ cases)
fresh_by case state cases (inl same) later none = let some : Some case.block ≡ None = rw same.0 at none in absurd (cc)
fresh_by case state cases (inr other) later none = (other.1, later (rw other.0 at none))

pub IsFresh-from : (state : ℕ) (cases : List StateCase) → block_of cases state ≡ None → IsFresh state cases
IsFresh-from state [] none = tt
IsFresh-from state (case ∷ cases) none = fresh_by case state cases (eqb_tells case.state state) (IsFresh-from state cases) none

pub AreOnce-drop : (n : ℕ) (cases : List StateCase) → AreOnce cases → AreOnce (drop n cases)
AreOnce-drop zero cases once = once
AreOnce-drop (suc n) [] once = once
AreOnce-drop (suc n) (case ∷ cases) once = AreOnce-drop n cases once.1

pub AreAscending-drop : (n : ℕ) (cases : List StateCase) → AreAscending cases → AreAscending (drop n cases)
AreAscending-drop zero cases up = up
AreAscending-drop (suc n) [] up = up
AreAscending-drop (suc n) (case ∷ cases) up = AreAscending-drop n cases up.1

all_above : (low high : ℕ) (cases : List StateCase) → low < high → AllByRecursion (λ (other : StateCase). high < other.state) cases → AllByRecursion (λ (other : StateCase). low < other.state) cases
all_above low high [] less all = tt
all_above low high (case ∷ cases) less all = let first = all.0 in (omega arith, all_above low high cases less all.1)

-- cases that ascend stand once each
pub AreAscending-fresh : (case : StateCase) (cases : List StateCase) → AreAscending (case ∷ cases) → IsFresh case.state cases
AreAscending-fresh case [] up = tt
AreAscending-fresh case (next ∷ cases) up = let first = up.0.0 in (λ same. omega arith, AreAscending-fresh case cases (up.0.1, up.1.1))

-- the element before a place, and those from it on
pub drop-before : {A : Type 0} (xs : List A) (place : ℕ) (d : A) → 0 < place → place ≤ length xs → drop (place - 1) xs ≡ get_or xs (place - 1) d ∷ drop place xs
drop-before xs place d some within =
    let next : suc (place - 1) ≡ place = omega arith in
    drop-cons xs (place - 1) d (omega arith) ∙ ap (λ n. get_or xs (place - 1) d ∷ drop n xs) next

at_equal : (k q : ℕ) → is_at (nat_cmp k) q ≡ (k == q)
at_equal k q = grind (arith, nat_tests)

-- a state that was found already stands twice
pub once_refused : (cases : List StateCase) (place : ℕ) (case : StateCase) (found : Option ℕ) → drop (place - 1) cases ≡ case ∷ drop place cases
    → found ≡ block_of (drop place cases) case.state → true ≡ is_some found → AreOnce cases → ⊥
once_refused cases place case found cons is some once =
    let fresh = (subst (λ (l : List StateCase). AreOnce l) cons (AreOnce-drop (place - 1) cases once)).0 in
    let none = is ∙ IsFresh-none case.state (drop place cases) fresh in
    true≢false (some ∙ ap is_some none)

none_of : (found : Option ℕ) → false ≡ is_some found → found ≡ None
none_of None is = refl
none_of (Some block) is = absurd (true≢false (sym is))

-- a new state before the others
pub once_goes_on : (cases : List StateCase) (place : ℕ) (case : StateCase) (found : Option ℕ) (before after : ℕ → Option ℕ) → drop (place - 1) cases ≡ case ∷ drop place cases
    → found ≡ before case.state → false ≡ is_some found → AreOnce (drop place cases) → ((state : ℕ) → before state ≡ block_of (drop place cases) state)
    → ((state : ℕ) → after state ≡ cond (is_at (nat_cmp case.state) state) (Some case.block) (before state))
    → AreOnce (drop (place - 1) cases) × ((state : ℕ) → after state ≡ block_of (drop (place - 1) cases) state)
once_goes_on cases place case found before after cons is none once same update =
    let fresh = IsFresh-from case.state (drop place cases) (sym (same case.state) ∙ sym is ∙ none_of found none) in (
      subst (λ (l : List StateCase). AreOnce l) (sym cons) (fresh, once),
      λ state. update state ∙ ap (λ t. cond t (Some case.block) (before state)) (at_equal case.state state)
          ∙ ap (λ b. cond (case.state == state) (Some case.block) b) (same state) ∙ sym (ap (λ l. block_of l state) cons),
    )

pub last_statements-last : (front : List CodeBlock) (block : CodeBlock) → last_statements (front ++ block ∷ []) ≡ block.stmts
last_statements-last [] block = refl
last_statements-last (first ∷ []) block = refl
last_statements-last (first ∷ next ∷ front) block = last_statements-last (next ∷ front) block

pub states_from-step : (blocks : List CodeBlock) (place : ℕ) (block : CodeBlock) (done next whole : List StateCase) → drop place blocks ≡ block ∷ drop (place + 1) blocks
    → next ≡ done ++ states_in place block.stmts [] → done ++ states_from place (drop place blocks) ≡ whole
    → next ++ states_from (place + 1) (drop (place + 1) blocks) ≡ whole
states_from-step blocks place block done next whole cons next_is is =
    let rest = states_from (place + 1) (drop (place + 1) blocks) in
    ap (λ l. l ++ rest) next_is ∙ append_assoc done (states_in place block.stmts []) rest ∙ ap (λ l. done ++ l) (
    sym (states_in-append place block.stmts rest) ∙ ap (λ n. states_in place block.stmts (states_from n (drop (place + 1) blocks))) (add-one place) ∙ sym (ap (states_from place) cons)) ∙ is

pub below_first : (state : ℕ) (next : StateCase) (cases : List StateCase) → AreAscending (next ∷ cases) → state < next.state
    → AllByRecursion (λ (other : StateCase). state < other.state) (next ∷ cases)
below_first state next cases up less = (less, all_above state next.state cases less up.0)

takes_by : (case : StateCase) (rest : List StateCase) (before after : ℕ → Option ℕ) (s : ℕ) → Tells case.state s → before case.state ≡ Some case.block
    → after s ≡ cond (case.state == s) None (before s) → block_of rest s ≡ after s → block_of (case ∷ rest) s ≡ before s
takes_by case rest before after s (inl same) first update is = ap (λ t. cond t (Some case.block) (block_of rest s)) same.0 ∙ sym (ap before (sym same.1) ∙ first)
takes_by case rest before after s (inr other) first update is = ap (λ t. cond t (Some case.block) (block_of rest s)) other.0 ∙ is ∙ update ∙ ap (λ t. cond t None (before s)) other.0

leaves_by : (case : StateCase) (rest : List StateCase) (before after : ℕ → Option ℕ) (s : ℕ) → Tells case.state s → IsFresh case.state rest
    → after s ≡ cond (case.state == s) None (before s) → block_of (case ∷ rest) s ≡ before s → block_of rest s ≡ after s
leaves_by case rest before after s (inl same) fresh update is =
    sym (ap (block_of rest) same.1) ∙ IsFresh-none case.state rest fresh ∙ sym (update ∙ ap (λ t. cond t None (before s)) same.0)
leaves_by case rest before after s (inr other) fresh update is =
    sym (ap (λ t. cond t (Some case.block) (block_of rest s)) other.0) ∙ is ∙ sym (update ∙ ap (λ t. cond t None (before s)) other.0)

-- a case that is taken out of a map
pub takes_next : (case : StateCase) (rest : List StateCase) (before after : ℕ → Option ℕ) → AreAscending (case ∷ rest) → before case.state ≡ Some case.block
    → ((s : ℕ) → after s ≡ cond (is_at (nat_cmp case.state) s) None (before s))
    → ((s : ℕ) → block_of rest s ≡ after s) ↔ ((s : ℕ) → block_of (case ∷ rest) s ≡ before s)
takes_next case rest before after up first update =
    let update_at : (s : ℕ) → after s ≡ cond (case.state == s) None (before s) = λ s. update s ∙ ap (λ t. cond t None (before s)) (at_equal case.state s) in (
      λ same s. takes_by case rest before after s (eqb_tells case.state s) first (update_at s) (same s),
      λ same s. leaves_by case rest before after s (eqb_tells case.state s) (AreAscending-fresh case rest up) (update_at s) (same s),
    )

same_numbers : (n : ℕ) → (n == n) ≡ true
same_numbers n = eq-eqb n n refl

-- a map with no value at any key has no entry
pub no_entries : (entries : List (ℕ × ℕ)) → (length entries ≡ 0) ↔ ((s : ℕ) → None ≡ lookup (is_at (nat_cmp s)) entries)
no_entries [] = (λ _ s. refl, λ _. refl)
no_entries (entry ∷ entries) = (
  λ none. absurd (omega arith),
  λ none.
      let found : is_at (nat_cmp entry.0) entry.0 ≡ true = at_equal entry.0 entry.0 ∙ same_numbers entry.0 in
      let clash : None ≡ Some entry.1 = none entry.0 ∙ ap (λ t. cond t (Some entry.1) (lookup (is_at (nat_cmp entry.0)) entries)) found in absurd (cc),
)

pub label_of-beyond : (blocks : List CodeBlock) (n : ℕ) → length blocks ≤ n → label_of blocks n ≡ None
label_of-beyond [] n le = refl
label_of-beyond (block ∷ blocks) zero le = absurd (omega arith)
label_of-beyond (block ∷ blocks) (suc n) le = label_of-beyond blocks n (omega arith)

pub label_of-at : (blocks : List CodeBlock) (n : ℕ) (d : CodeBlock) → n < length blocks → label_of blocks n ≡ (get_or blocks n d).cond
label_of-at [] n d less = absurd (omega arith)
label_of-at (block ∷ blocks) zero d less = refl
label_of-at (block ∷ blocks) (suc n) d less = label_of-at blocks n d (omega arith)

-- the cases end where the labels do
pub labels_end : (conds : List CondCase) (place : ℕ) → place ≤ length conds → IsTrue (place == length conds) ↔ (map (λ case. case.cond) (drop place conds) ≡ [])
labels_end conds place within = (
  λ same.
      let end : length conds ≤ place = let e = eqb-true place (length conds) same in omega arith in
      ap (map (λ (case : CondCase). case.cond)) (drop_of_length-le conds {i = place} end),
  λ none.
      let size : length (drop place conds) ≡ 0 = sym (length-map (drop place conds) (λ (case : CondCase). case.cond)) ∙ ap length none in
      let dropped = length-drop place conds in
      eq-eqb place (length conds) (omega (arith, size, dropped)),
)

-- a case that does not stand before those that follow
pub ascending_refused : (cases : List StateCase) (place : ℕ) (case : StateCase) (below : Bool) → drop (place - 1) cases ≡ case ∷ drop place cases
    → IsTrue below ↔ AllByRecursion (λ (other : StateCase). case.state < other.state) (drop place cases) → below ≡ false → IsTrue false ↔ AreAscending cases
ascending_refused cases place case below cons decides is = (
  λ e. absurd (true≢false (sym e)),
  λ up. sym is ∙ decides.1 (subst (λ (l : List StateCase). AreAscending l) cons (AreAscending-drop (place - 1) cases up)).0,
)
