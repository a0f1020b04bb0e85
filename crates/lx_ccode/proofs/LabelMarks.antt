-- The labels of a piece that stand, marked block by block.
use Rattle.std.proofs.Common.{[], ◌++◌, ◌+◌, ◌<◌, ◌∙◌, ◌∷◌, ◌≡◌, Bool, List, None, Option, Some, add-one, ap, append_assoc, arith, drop, false, get_or, length, map, refl, subst, suc, sym, true, zero, ℕ}
use Rattle.std.proofs.lemmas.Bool.{eq-eqb, eqb-true, false≢true}
use Rattle.std.proofs.lemmas.List.{drop_more, ext_get_or, get_or-set_other, get_or-set_same, length-set}
use Rattle.std.proofs.lemmas.List.Folds.{list_any-append}
use Rattle.std.specs.List.{list_any}
use Rattle.std.specs.Prelude.{◌==◌, ◌||◌, if◌then◌else◌, replicate, set}
use Rattle.lx_ccode.specs.declared.piece.CodeBlock.{CodeBlock}
use Rattle.lx_ccode.specs.declared.piece.Piece.{Piece}
use Rattle.lx_ccode.specs.declared.piece.StateCase.{StateCase}
use Rattle.lx_ccode.specs.declared.piece.Stmt.{Stmt}
use Rattle.lx_ccode.specs.Labels.{all_targets, answers_from, goes_on_at, goes_to, is_gone_to, marked, starts_by_label}
use Rattle.lx_ccode.specs.States.{onto_cases, states_from, states_in, try_first}
use Rattle.lx_ccode.specs.Statements.{all_statements, state_of, targets}

-- ---- answers of a test

length-answers_from : (test : ℕ → Bool) (first count : ℕ) → length (answers_from test first count) ≡ count
length-answers_from test first zero = refl
length-answers_from test first (suc count) = ap suc (length-answers_from test (suc first) count)

get_or-answers_from : (test : ℕ → Bool) (first count index : ℕ) → index < count → get_or (answers_from test first count) index false ≡ test (first + index)
get_or-answers_from test first zero index within = absurd (omega (arith, within))
get_or-answers_from test first (suc count) zero within = ap test (omega arith)
get_or-answers_from test first (suc count) (suc index) within =
    get_or-answers_from test (suc first) count index (omega (arith, within)) ∙ ap test (omega arith)

answers_from-same : (one other : ℕ → Bool) (first count : ℕ) → ((number : ℕ) → one number ≡ other number) → answers_from one first count ≡ answers_from other first count
answers_from-same one other first zero same = refl
answers_from-same one other first (suc count) same = λ i. same first i ∷ answers_from-same one other (suc first) count same i

-- ---- marks

-- the other block is this one
abbrev pub is_it : (block other : ℕ) → Bool
is_it block other = other == block

eqb-self : (number : ℕ) → (number == number) ≡ true
eqb-self number = eq-eqb number number refl

set-answers_from : (test : ℕ → Bool) (count block : ℕ) → set (answers_from test 0 count) block true ≡ answers_from (λ number. test number || (block == number)) 0 count
set-answers_from test count block =
    ext_get_or false (set labels block true) (answers_from next 0 count)
    (length-set labels block true ∙ length-answers_from test 0 count ∙ sym (length-answers_from next 0 count))
    (λ index within. by index (subst (λ n. index < n) (length-set labels block true ∙ length-answers_from test 0 count) within) (block == index) refl) where
      labels : List Bool
      labels = answers_from test 0 count

      next : ℕ → Bool
      next number = test number || (block == number)

      or_it : (flag : Bool) → (flag || true) ≡ true
      or_it true = refl
      or_it false = refl

      or_not : (flag : Bool) → (flag || false) ≡ flag
      or_not true = refl
      or_not false = refl

      by : (index : ℕ) → index < count → (is : Bool) → (block == index) ≡ is → get_or (set labels block true) index false ≡ get_or (answers_from next 0 count) index false
      by index within true e =
          let same : block ≡ index = eqb-true block index e in
          let room : block < length labels = (let long = length-answers_from test 0 count in omega (arith, same, within, long)) in
          let hit : next (0 + index) ≡ true = (let here : (block == (0 + index)) ≡ true = ap (λ n. block == n) (omega arith) ∙ e in ap (λ flag. test (0 + index) || flag) here ∙ or_it (test (0 + index))) in
          ap (λ n. get_or (set labels block true) n false) (sym same) ∙ get_or-set_same labels block true false room ∙ sym (get_or-answers_from next 0 count index within ∙ hit)
      by index within false e =
          let other : index ≡ block → ⊥ = (λ same. false≢true (sym e ∙ ap (λ n. block == n) same ∙ eqb-self block)) in
          let miss : next (0 + index) ≡ test (0 + index) = (let here : (block == (0 + index)) ≡ false = ap (λ n. block == n) (omega arith) ∙ e in ap (λ flag. test (0 + index) || flag) here ∙ or_not (test (0 + index))) in
          get_or-set_other labels block index true false other ∙ get_or-answers_from test 0 count index within ∙ sym (get_or-answers_from next 0 count index within ∙ miss)

or_assoc-right : (a b c : Bool) → ((a || b) || c) ≡ (a || (b || c))
or_assoc-right true b c = refl
or_assoc-right false b c = refl

or_false-right : (a : Bool) → (a || false) ≡ a
or_false-right true = refl
or_false-right false = refl

marked-answers_from : (test : ℕ → Bool) (count : ℕ) (blocks : List ℕ)
    → marked (answers_from test 0 count) blocks ≡ answers_from (λ number. test number || list_any (is_it number) blocks) 0 count
marked-answers_from test count [] = answers_from-same test (λ number. test number || false) 0 count (λ number. sym (or_false-right (test number)))
marked-answers_from test count (block ∷ blocks) =
    ap (λ labels. marked labels blocks) (set-answers_from test count block)
    ∙ marked-answers_from (λ number. test number || (block == number)) count blocks
    ∙ answers_from-same _ _ 0 count (λ number. or_assoc-right (test number) (block == number) (list_any (is_it number) blocks))

pub marked-append : (labels : List Bool) (blocks more : List ℕ) → marked labels (blocks ++ more) ≡ marked (marked labels blocks) more
marked-append labels [] more = refl
marked-append labels (block ∷ blocks) more = marked-append (set labels block true) blocks more

replicate-from : (first count : ℕ) → replicate count false ≡ answers_from (λ number. false) first count
replicate-from first zero = refl
replicate-from first (suc count) = ap (λ labels. false ∷ labels) (replicate-from (suc first) count)

replicate-answers_from : (count : ℕ) → replicate count false ≡ answers_from (λ number. false) 0 count
replicate-answers_from count = replicate-from 0 count

-- ---- what goes to a block

list_any-all_targets : (number : ℕ) (statements : List Stmt) → list_any (is_it number) (all_targets statements) ≡ list_any (goes_to number) statements
list_any-all_targets number [] = refl
list_any-all_targets number (statement ∷ statements) =
    list_any-append (is_it number) (targets statement) (all_targets statements)
    ∙ ap (λ others. list_any (is_it number) (targets statement) || others) (list_any-all_targets number statements)

list_any-returns : (number : ℕ) (cases : List StateCase) → list_any (is_it number) (map (λ case. case.block) cases) ≡ list_any (goes_on_at number) cases
list_any-returns number [] = refl
list_any-returns number (case ∷ cases) = ap (λ others. (case.block == number) || others) (list_any-returns number cases)

-- marks of all that goes to blocks
abbrev first_marks : (starts : Bool) → List Bool → List Bool
first_marks true labels = set labels 0 true
first_marks false labels = labels

first_marks-answers_from : (starts : Bool) (test : ℕ → Bool) (count : ℕ)
    → first_marks starts (answers_from test 0 count) ≡ answers_from (λ number. test number || (if starts then 0 == number else false)) 0 count
first_marks-answers_from true test count = set-answers_from test count 0
first_marks-answers_from false test count = answers_from-same test (λ number. test number || false) 0 count (λ number. sym (or_false-right (test number)))

pub labels_marked : (piece : Piece) (starts : Bool) (none jumps returns all : List Bool) → starts ≡ starts_by_label piece → none ≡ replicate (length piece.blocks) false
    → jumps ≡ marked none (all_targets (all_statements piece.blocks)) → returns ≡ marked jumps (map (λ case. case.block) (states_from 0 piece.blocks))
    → all ≡ first_marks starts returns → all ≡ answers_from (is_gone_to piece) 0 (length piece.blocks)
labels_marked piece starts none jumps returns all is e0 e1 e2 e3 =
    let count : ℕ = length piece.blocks in
    let goals : List ℕ = all_targets (all_statements piece.blocks) in
    let backs : List ℕ = map (λ case. case.block) (states_from 0 piece.blocks) in
    let first : jumps ≡ answers_from (λ number. false || list_any (is_it number) goals) 0 count =
    e1 ∙ ap (λ labels. marked labels goals) (e0 ∙ replicate-answers_from count) ∙ marked-answers_from (λ number. false) count goals in
    let second : returns ≡ answers_from (λ number. (false || list_any (is_it number) goals) || list_any (is_it number) backs) 0 count =
    e2 ∙ ap (λ labels. marked labels backs) first ∙ marked-answers_from (λ number. false || list_any (is_it number) goals) count backs in
    e3 ∙ ap (first_marks starts) second
    ∙ first_marks-answers_from starts (λ number. (false || list_any (is_it number) goals) || list_any (is_it number) backs) count
    ∙ answers_from-same _ (is_gone_to piece) 0 count (λ number. or_assoc-right (list_any (is_it number) goals) (list_any (is_it number) backs) (if starts then 0 == number else false)
    ∙ ap (λ flag. flag || (list_any (is_it number) backs || (if starts then 0 == number else false))) (list_any-all_targets number (all_statements piece.blocks))
    ∙ ap (λ flag. list_any (goes_to number) (all_statements piece.blocks) || (flag || (if starts then 0 == number else false))) (list_any-returns number (states_from 0 piece.blocks))
    ∙ ap (λ flag. list_any (goes_to number) (all_statements piece.blocks) || (list_any (goes_on_at number) (states_from 0 piece.blocks) || (if flag then 0 == number else false))) is)

-- ---- states of statements, one after another

pub states_in-append : (place : ℕ) (statements : List Stmt) (others : List StateCase) → states_in place statements others ≡ states_in place statements [] ++ others
states_in-append place [] others = refl
states_in-append place (statement ∷ statements) others = by (state_of statement) (states_in-append place statements others) where
  block : ℕ
  block = if try_first statements then suc place else place

  by : (state : Option ℕ) → states_in place statements others ≡ states_in place statements [] ++ others
      → onto_cases state block (states_in place statements others) ≡ onto_cases state block (states_in place statements []) ++ others
  by None rest = rest
  by (Some state) rest = ap (λ cases. record { state = state; block = block } ∷ cases) rest

map-append_blocks : (cases others : List StateCase) → map (λ case. case.block) (cases ++ others) ≡ map (λ case. case.block) cases ++ map (λ case. case.block) others
map-append_blocks [] others = refl
map-append_blocks (case ∷ cases) others = ap (λ blocks. case.block ∷ blocks) (map-append_blocks cases others)

-- the statements of a block, and then those of the blocks behind it
pub all_targets-append : (statements more : List Stmt) → all_targets (statements ++ more) ≡ all_targets statements ++ all_targets more
all_targets-append [] more = refl
all_targets-append (statement ∷ statements) more =
    ap (λ blocks. targets statement ++ blocks) (all_targets-append statements more) ∙ sym (append_assoc (targets statement) (all_targets statements) (all_targets more))

-- one more item of a list whose marks are set one after another
pub marked_next : {A : Type 0} (goals : A → List ℕ) (all : List A → List ℕ) (xs : List A) (index : ℕ) (x : A) (was now total : List Bool)
    → ((x : A) (xs : List A) → all (x ∷ xs) ≡ goals x ++ all xs) → index < length xs → x ≡ get_or xs index x → now ≡ marked was (goals x)
    → marked was (all (drop index xs)) ≡ total → marked now (all (drop (index + 1) xs)) ≡ total
marked_next goals all xs index x was now total step within is e before =
    let rest : drop index xs ≡ x ∷ drop (index + 1) xs = drop_more xs index x within ∙ ap (λ item. item ∷ drop (index + 1) xs) (sym is) in
    ap (λ labels. marked labels (all (drop (index + 1) xs))) e ∙ sym (marked-append was (goals x) (all (drop (index + 1) xs)))
    ∙ ap (marked was) (sym (step x (drop (index + 1) xs)) ∙ ap all (sym rest)) ∙ before

-- the same, where the marks of an item depend on its place
pub marked_next_at : {A : Type 0} (goals : ℕ → A → List ℕ) (all : ℕ → List A → List ℕ) (xs : List A) (index : ℕ) (x : A) (was now total : List Bool)
    → ((x : A) (xs : List A) → all index (x ∷ xs) ≡ goals index x ++ all (index + 1) xs) → index < length xs → x ≡ get_or xs index x → now ≡ marked was (goals index x)
    → marked was (all index (drop index xs)) ≡ total → marked now (all (index + 1) (drop (index + 1) xs)) ≡ total
marked_next_at goals all xs index x was now total step within is e before =
    let rest : drop index xs ≡ x ∷ drop (index + 1) xs = drop_more xs index x within ∙ ap (λ item. item ∷ drop (index + 1) xs) (sym is) in
    ap (λ labels. marked labels (all (index + 1) (drop (index + 1) xs))) e ∙ sym (marked-append was (goals index x) (all (index + 1) (drop (index + 1) xs)))
    ∙ ap (marked was) (sym (step x (drop (index + 1) xs)) ∙ ap (all index) (sym rest)) ∙ before

pub states_from-cons : (place : ℕ) (block : CodeBlock) (blocks : List CodeBlock)
    → map (λ case. case.block) (states_from place (block ∷ blocks)) ≡ map (λ case. case.block) (states_in place block.stmts []) ++ map (λ case. case.block) (states_from (place + 1) blocks)
states_from-cons place block blocks =
    ap (map (λ case. case.block)) (states_in-append place block.stmts (states_from (suc place) blocks))
    ∙ map-append_blocks (states_in place block.stmts []) (states_from (suc place) blocks)
    ∙ ap (λ next. map (λ case. case.block) (states_in place block.stmts []) ++ map (λ case. case.block) (states_from next blocks)) (sym (add-one place))
