-- One step of each reading function that makes a list.
use Rattle.std.proofs.Common.{◌≡◌, ◌<◌, ◌≤◌, ◌-◌, ◌∷◌, ◌++◌, ◌∙◌, ℕ, zero, suc, Bool, true, false, List, [], Option, None, Some, map, take, drop, length, refl, sym, ap, subst, append_assoc, arith, inl, inr}
use Rattle.std.specs.Prelude.{◌==◌, ◌||◌, if◌then◌else◌, is_some}
use Rattle.std.proofs.lemmas.Bool.Decides.{eqb_tells}
use Rattle.std.proofs.lemmas.Grind.{common_steps}
use Rattle.lx_base.specs.Letters.{is_digit, is_hexadecimal, is_in_identifier, front_letters, after_letters}
use Rattle.lx_base.specs.Names.{Spellings, condition_prefix}
use Rattle.lx_ccode.specs.declared.piece.StateCase.{StateCase}
use Rattle.lx_ccode.specs.declared.piece.CondCase.{CondCase}
use Rattle.lx_ccode.specs.declared.piece.CodeBlock.{CodeBlock}
use Rattle.lx_ccode.specs.declared.piece.SwitchCase.{SwitchCase}
use Rattle.lx_ccode.specs.declared.piece.Head.{Head}
use Rattle.lx_ccode.specs.declared.piece.LineMark.{LineMark}
use Rattle.lx_ccode.specs.declared.piece.Stmt.{Stmt}
use Rattle.lx_ccode.specs.declared.piece.Stmt.TheVariants.{Leave}
use Rattle.lx_ccode.specs.Heads.{is_custom, is_three}
use Rattle.lx_ccode.specs.Labels.{block_front}
use Rattle.lx_ccode.specs.Reading.{Manner, begins_statement, behind_block, behind_label_cases, blocks_at, byte_at, case_goto, case_tail, cells_at, code_block_at, cond_cases_at, ends_blocks, eof_at, goto_block, goto_tail, head_at, hexadecimal_at, is_tab, line_at, mark_at, names_at, number_at, piece_at, reading, state_cases_at, statement_at, statements_at, switch_cases_at, table_at, units_at}
use Rattle.lx_ccode.specs.Statements.{ends_in_code, is_code, is_ending}
use Rattle.lx_ccode.specs.Validity.{EachBlockHasSpelling, IsValid}
use Rattle.lx_creader.specs.BlockParts.{AreFilled, blocks_behind, fuel_behind}
use Rattle.lx_creader.specs.Fitted.{fitted_block, fitted_case, fitted_cond, fitted_line, fitted_state, fitted_statement, long, short, tiny}

-- what was read so far, with one element more before what is still to be read
pub step : {A B : Type 0} (f : A → B) (done next : List B) (x : A) (y : B) (others whole : List A)
    → whole ≡ x ∷ others → y ≡ f x → next ≡ done ++ y ∷ [] → next ++ map f others ≡ done ++ map f whole
step f done next x y others whole whole_is y_is next_is =
    ap (λ l. l ++ map f others) next_is ∙ append_assoc done (y ∷ []) (map f others)
    ∙ ap (λ z. done ++ z ∷ map f others) y_is ∙ ap (λ l. done ++ map f l) (sym whole_is)

not_equal : (a b : ℕ) → (a ≡ b → ⊥) → (a == b) ≡ false
not_equal a b differ = elim (eqb_tells a b) [ inl same ↦ absurd (differ same.1) | inr other ↦ other.0 ]

-- a list is shorter than the bound, so that a count that stops there takes and drops as much
pub take-long : {A : Type 0} (n : ℕ) (xs : List A) → length xs ≤ 18446744073709551615 → take (long n) xs ≡ take n xs
take-long n xs small = grind (arith, common_steps)

pub drop-long : {A : Type 0} (n : ℕ) (xs : List A) → length xs ≤ 18446744073709551615 → drop (long n) xs ≡ drop n xs
drop-long n xs small = grind (arith, common_steps)

names_at-value : (left : ℕ) (bytes text : List ℕ) → 0 < left → text ≡ drop 1 (after_letters is_digit (drop 1 bytes))
    → names_at left bytes ≡ (
      take (number_at (drop 1 bytes)) text ∷ (names_at (left - 1) (drop (number_at (drop 1 bytes)) text)).0,
      (names_at (left - 1) (drop (number_at (drop 1 bytes)) text)).1,
    )
unfolding names_at
names_at-value zero bytes text some is = absurd (omega arith)
names_at-value (suc k) bytes text some is = let one : suc k - 1 ≡ k = omega arith in rw (one, is) refl

pub names_at-step : (left : ℕ) (bytes text rest name : List ℕ) (done next : List (List ℕ)) → 0 < left → text ≡ drop 1 (after_letters is_digit (drop 1 bytes))
    → length text ≤ 18446744073709551615 → name ≡ take (long (number_at (drop 1 bytes))) text → rest ≡ drop (long (number_at (drop 1 bytes))) text
    → next ≡ done ++ name ∷ []
    → (next ++ (names_at (left - 1) rest).0 ≡ done ++ (names_at left bytes).0) × ((names_at (left - 1) rest).1 ≡ (names_at left bytes).1)
names_at-step left bytes text rest name done next some is small name_is rest_is next_is =
    let n = number_at (drop 1 bytes) in
    let whole = names_at-value left bytes text some is in
    let others = ap (λ r. names_at (left - 1) r) (rest_is ∙ drop-long n text small) in (
      ap (λ l. l ++ (names_at (left - 1) rest).0) next_is ∙ append_assoc done (name ∷ []) (names_at (left - 1) rest).0
          ∙ ap (λ z. done ++ z ∷ (names_at (left - 1) rest).0) (name_is ∙ take-long n text small)
          ∙ ap (λ l. done ++ take n text ∷ l) (ap (λ p. p.0) others) ∙ ap (λ l. done ++ l) (sym (ap (λ p. p.0) whole)),
      ap (λ p. p.1) others ∙ sym (ap (λ p. p.1) whole),
    )

state_cases_at-value : (left : ℕ) (bytes : List ℕ) → 0 < left → byte_at bytes 1 ≡ 99
    → state_cases_at left bytes ≡ (
      record { state = number_at (drop 6 bytes); block = goto_block (drop 1 (after_letters is_digit (drop 6 bytes))) }
          ∷ (state_cases_at (left - 1) (goto_tail (drop 1 (after_letters is_digit (drop 6 bytes))))).0,
      (state_cases_at (left - 1) (goto_tail (drop 1 (after_letters is_digit (drop 6 bytes))))).1,
    )
unfolding state_cases_at
state_cases_at-value zero bytes some is = absurd (omega arith)
state_cases_at-value (suc k) bytes some is = let one : suc k - 1 ≡ k = omega arith in rw (one, is) refl

pub state_cases_at-step : (left : ℕ) (bytes rest : List ℕ) (done next : List StateCase) (case : StateCase) → 0 < left → byte_at bytes 1 ≡ 99
    → case.state ≡ long (number_at (drop 6 bytes)) → case.block ≡ long (goto_block (drop 1 (after_letters is_digit (drop 6 bytes))))
    → rest ≡ goto_tail (drop 1 (after_letters is_digit (drop 6 bytes))) → next ≡ done ++ case ∷ []
    → (next ++ map fitted_state (state_cases_at (left - 1) rest).0 ≡ done ++ map fitted_state (state_cases_at left bytes).0)
    × ((state_cases_at (left - 1) rest).1 ≡ (state_cases_at left bytes).1)
state_cases_at-step left bytes rest done next case some is state block rest_is next_is =
    let whole = state_cases_at-value left bytes some is in
    let others = ap (λ r. state_cases_at (left - 1) r) rest_is in (
      step fitted_state done next (record { state = number_at (drop 6 bytes); block = goto_block (drop 1 (after_letters is_digit (drop 6 bytes))) }) case _ _
          (ap (λ p. p.0) whole ∙ ap (λ (o : List StateCase). record { state = number_at (drop 6 bytes); block = goto_block (drop 1 (after_letters is_digit (drop 6 bytes))) } ∷ o) (sym (ap (λ p. p.0) others))) (λ i. record { state = state i; block = block i }) next_is,
      ap (λ p. p.1) others ∙ sym (ap (λ p. p.1) whole),
    )

cond_cases_at-value : (left : ℕ) (names : Spellings) (bytes : List ℕ) → 0 < left → byte_at bytes 1 ≡ 99
    → cond_cases_at left names bytes ≡ (
      record { cond = drop (length (condition_prefix names)) (front_letters is_in_identifier (drop 6 bytes)); block = goto_block (drop 1 (after_letters is_in_identifier (drop 6 bytes))) }
          ∷ (cond_cases_at (left - 1) names (goto_tail (drop 1 (after_letters is_in_identifier (drop 6 bytes))))).0,
      (cond_cases_at (left - 1) names (goto_tail (drop 1 (after_letters is_in_identifier (drop 6 bytes))))).1,
    )
unfolding cond_cases_at
cond_cases_at-value zero names bytes some is = absurd (omega arith)
cond_cases_at-value (suc k) names bytes some is = let one : suc k - 1 ≡ k = omega arith in rw (one, is) refl

pub cond_cases_at-step : (left : ℕ) (names : Spellings) (bytes rest : List ℕ) (done next : List CondCase) (case : CondCase) → 0 < left → byte_at bytes 1 ≡ 99
    → case.cond ≡ drop (length (condition_prefix names)) (front_letters is_in_identifier (drop 6 bytes)) → case.block ≡ long (goto_block (drop 1 (after_letters is_in_identifier (drop 6 bytes))))
    → rest ≡ goto_tail (drop 1 (after_letters is_in_identifier (drop 6 bytes))) → next ≡ done ++ case ∷ []
    → (next ++ map fitted_cond (cond_cases_at (left - 1) names rest).0 ≡ done ++ map fitted_cond (cond_cases_at left names bytes).0)
    × ((cond_cases_at (left - 1) names rest).1 ≡ (cond_cases_at left names bytes).1)
cond_cases_at-step left names bytes rest done next case some is cond block rest_is next_is =
    let whole = cond_cases_at-value left names bytes some is in
    let others = ap (λ r. cond_cases_at (left - 1) names r) rest_is in (
      step fitted_cond done next (record { cond = drop (length (condition_prefix names)) (front_letters is_in_identifier (drop 6 bytes)); block = goto_block (drop 1 (after_letters is_in_identifier (drop 6 bytes))) }) case _ _
          (ap (λ p. p.0) whole ∙ ap (λ (o : List CondCase). record { cond = drop (length (condition_prefix names)) (front_letters is_in_identifier (drop 6 bytes)); block = goto_block (drop 1 (after_letters is_in_identifier (drop 6 bytes))) } ∷ o) (sym (ap (λ p. p.0) others))) (λ i. record { cond = cond i; block = block i }) next_is,
      ap (λ p. p.1) others ∙ sym (ap (λ p. p.1) whole),
    )

units_at-value : (left : ℕ) (bytes : List ℕ) → 0 < left → byte_at bytes 0 ≡ 99
    → units_at left bytes ≡ (
      hexadecimal_at (drop 7 bytes) ∷ (units_at (left - 1) (drop 2 (after_letters is_hexadecimal (drop 7 bytes)))).0,
      (units_at (left - 1) (drop 2 (after_letters is_hexadecimal (drop 7 bytes)))).1,
    )
unfolding units_at
units_at-value zero bytes some is = absurd (omega arith)
units_at-value (suc k) bytes some is = let one : suc k - 1 ≡ k = omega arith in rw (one, is) refl

pub units_at-step : (left : ℕ) (bytes rest done next : List ℕ) (unit : ℕ) → 0 < left → byte_at bytes 0 ≡ 99
    → unit ≡ tiny (hexadecimal_at (drop 7 bytes)) → rest ≡ drop 2 (after_letters is_hexadecimal (drop 7 bytes)) → next ≡ done ++ unit ∷ []
    → (next ++ map tiny (units_at (left - 1) rest).0 ≡ done ++ map tiny (units_at left bytes).0) × ((units_at (left - 1) rest).1 ≡ (units_at left bytes).1)
units_at-step left bytes rest done next unit some is unit_is rest_is next_is =
    let whole = units_at-value left bytes some is in
    let others = ap (λ r. units_at (left - 1) r) rest_is in (
      step tiny done next (hexadecimal_at (drop 7 bytes)) unit _ _
          (ap (λ p. p.0) whole ∙ ap (λ (o : List ℕ). hexadecimal_at (drop 7 bytes) ∷ o) (sym (ap (λ p. p.0) others))) unit_is next_is,
      ap (λ p. p.1) others ∙ sym (ap (λ p. p.1) whole),
    )

switch_cases_at-value : (left fuel : ℕ) (bytes : List ℕ) → 0 < left → byte_at bytes 1 ≡ 99
    → switch_cases_at left fuel bytes ≡ (
      record { units = (units_at fuel (drop 1 bytes)).0; block = case_goto (units_at fuel (drop 1 bytes)).1 }
          ∷ (switch_cases_at (left - 1) fuel (case_tail (units_at fuel (drop 1 bytes)).1)).0,
      (switch_cases_at (left - 1) fuel (case_tail (units_at fuel (drop 1 bytes)).1)).1,
    )
unfolding switch_cases_at
switch_cases_at-value zero fuel bytes some is = absurd (omega arith)
switch_cases_at-value (suc k) fuel bytes some is = let one : suc k - 1 ≡ k = omega arith in rw (one, is) refl

pub switch_cases_at-step : (left fuel : ℕ) (bytes rest : List ℕ) (done next : List SwitchCase) (case : SwitchCase) → 0 < left → byte_at bytes 1 ≡ 99
    → case.units ≡ map tiny (units_at fuel (drop 1 bytes)).0 → case.block ≡ long (case_goto (units_at fuel (drop 1 bytes)).1)
    → rest ≡ case_tail (units_at fuel (drop 1 bytes)).1 → next ≡ done ++ case ∷ []
    → (next ++ map fitted_case (switch_cases_at (left - 1) fuel rest).0 ≡ done ++ map fitted_case (switch_cases_at left fuel bytes).0)
    × ((switch_cases_at (left - 1) fuel rest).1 ≡ (switch_cases_at left fuel bytes).1)
switch_cases_at-step left fuel bytes rest done next case some is units block rest_is next_is =
    let first : SwitchCase = record { units = (units_at fuel (drop 1 bytes)).0; block = case_goto (units_at fuel (drop 1 bytes)).1 } in
    let whole = switch_cases_at-value left fuel bytes some is in
    let others = ap (λ r. switch_cases_at (left - 1) fuel r) rest_is in (
      step fitted_case done next first case _ _
          (ap (λ p. p.0) whole ∙ ap (λ (o : List SwitchCase). first ∷ o) (sym (ap (λ p. p.0) others))) (λ i. record { units = units i; block = block i }) next_is,
      ap (λ p. p.1) others ∙ sym (ap (λ p. p.1) whole),
    )

-- the number of a byte of the table
abbrev pub cell_number : List ℕ → List ℕ
cell_number bytes = drop 2 (if is_tab bytes then drop 1 bytes else bytes)

abbrev without_feed : List ℕ → List ℕ
without_feed next = if byte_at next 0 == 10 then drop 1 next else next

-- what comes behind a byte of the table
abbrev pub behind_cell : List ℕ → List ℕ
behind_cell bytes = without_feed (drop 1 (after_letters is_hexadecimal (cell_number bytes)))

cells_at-value : (left : ℕ) (bytes : List ℕ) → 0 < left → (byte_at bytes 1 ≡ 125 → ⊥)
    → cells_at left bytes ≡ (hexadecimal_at (cell_number bytes) ∷ (cells_at (left - 1) (behind_cell bytes)).0, (cells_at (left - 1) (behind_cell bytes)).1)
unfolding cells_at
cells_at-value zero bytes some is = absurd (omega arith)
cells_at-value (suc k) bytes some is =
    let one : suc k - 1 ≡ k = omega arith in
    let other = not_equal (byte_at bytes 1) 125 is in rw (one, other) refl

pub cells_at-step : (left : ℕ) (bytes rest done next : List ℕ) (cell : ℕ) → 0 < left → (byte_at bytes 1 ≡ 125 → ⊥)
    → cell ≡ tiny (hexadecimal_at (cell_number bytes)) → rest ≡ behind_cell bytes → next ≡ done ++ cell ∷ []
    → (next ++ map tiny (cells_at (left - 1) rest).0 ≡ done ++ map tiny (cells_at left bytes).0) × ((cells_at (left - 1) rest).1 ≡ (cells_at left bytes).1)
cells_at-step left bytes rest done next cell some is cell_is rest_is next_is =
    let whole = cells_at-value left bytes some is in
    let others = ap (λ r. cells_at (left - 1) r) rest_is in (
      step tiny done next (hexadecimal_at (cell_number bytes)) cell _ _
          (ap (λ p. p.0) whole ∙ ap (λ (o : List ℕ). hexadecimal_at (cell_number bytes) ∷ o) (sym (ap (λ p. p.0) others))) cell_is next_is,
      ap (λ p. p.1) others ∙ sym (ap (λ p. p.1) whole),
    )

or_none : (flag : Bool) → flag ≡ (flag || false)
or_none true = refl
or_none false = refl

-- a statement with those that are read behind it, with no fuel for them where it ends a block
behind_first : (flag : Bool) (fuel : ℕ) (custom : Bool) (names : Spellings) (first : Stmt × Bool × List ℕ)
    → ◌≡◌ {A = List Stmt × Bool × List ℕ} (if flag then (first.0 ∷ [], first.1, first.2)
    else (first.0 ∷ (statements_at fuel custom names first.2).0, first.1 || (statements_at fuel custom names first.2).1, (statements_at fuel custom names first.2).2)) (
      first.0 ∷ (statements_at (if flag then 0 else fuel) custom names first.2).0,
      first.1 || (statements_at (if flag then 0 else fuel) custom names first.2).1,
      (statements_at (if flag then 0 else fuel) custom names first.2).2,
    )
unfolding statements_at
behind_first true fuel custom names first = λ i. (first.0 ∷ [], or_none first.1 i, first.2)
behind_first false fuel custom names first = refl

statements_at-value : (left : ℕ) (custom : Bool) (names : Spellings) (bytes : List ℕ) → 0 < left → begins_statement bytes ≡ true
    → statements_at left custom names bytes ≡ (
      (statement_at custom names bytes).0 ∷ (statements_at (fuel_behind left (statement_at custom names bytes).0) custom names (statement_at custom names bytes).2).0,
      (statement_at custom names bytes).1 || (statements_at (fuel_behind left (statement_at custom names bytes).0) custom names (statement_at custom names bytes).2).1,
      (statements_at (fuel_behind left (statement_at custom names bytes).0) custom names (statement_at custom names bytes).2).2,
    )
unfolding statements_at
statements_at-value zero custom names bytes some is = absurd (omega arith)
statements_at-value (suc k) custom names bytes some is =
    let one : suc k - 1 ≡ k = omega arith in
    rw (one, is) (behind_first (is_ending (statement_at custom names bytes).0) k custom names (statement_at custom names bytes))

is_ending-fitted : (statement : Stmt) → is_ending (fitted_statement statement) ≡ is_ending statement
is_ending-fitted Leave = refl
is_ending-fitted _ = refl

or_assoc : (a b c : Bool) → ((a || b) || c) ≡ (a || (b || c))
or_assoc true b c = refl
or_assoc false b c = refl

pub statements_at-step : (left after : ℕ) (custom : Bool) (names : Spellings) (bytes rest : List ℕ) (done next : List Stmt) (statement : Stmt) (ctx is_context : Bool)
    → 0 < left → begins_statement bytes ≡ true
    → statement ≡ fitted_statement (statement_at custom names bytes).0 → is_context ≡ (statement_at custom names bytes).1 → rest ≡ (statement_at custom names bytes).2 → next ≡ done ++ statement ∷ []
    → after ≡ fuel_behind left statement
    → (next ++ map fitted_statement (statements_at after custom names rest).0 ≡ done ++ map fitted_statement (statements_at left custom names bytes).0)
    × (((ctx || is_context) || (statements_at after custom names rest).1) ≡ (ctx || (statements_at left custom names bytes).1))
    × ((statements_at after custom names rest).2 ≡ (statements_at left custom names bytes).2)
statements_at-step left after custom names bytes rest done next statement ctx is_context some is statement_is context rest_is next_is after_is =
    let first = (statement_at custom names bytes).0 in
    let fuel : after ≡ fuel_behind left first =
    after_is ∙ ap (λ (flag : Bool). if flag then 0 else left - 1) (ap is_ending statement_is ∙ is_ending-fitted first) in
    let whole = statements_at-value left custom names bytes some is in
    let others = ap (λ r. statements_at after custom names r) rest_is ∙ ap (λ n. statements_at n custom names (statement_at custom names bytes).2) fuel in (
      step fitted_statement done next (statement_at custom names bytes).0 statement _ _
          (ap (λ p. p.0) whole ∙ ap (λ (o : List Stmt). (statement_at custom names bytes).0 ∷ o) (sym (ap (λ p. p.0) others))) statement_is next_is,
      or_assoc ctx is_context _ ∙ ap (λ t. ctx || (t || (statements_at after custom names rest).1)) context
          ∙ ap (λ t. ctx || ((statement_at custom names bytes).1 || t)) (ap (λ p. p.1) others) ∙ ap (λ t. ctx || t) (sym (ap (λ p. p.1) whole)),
      ap (λ p. p.2) others ∙ sym (ap (λ p. p.2) whole),
    )

is_code-fitted : (statement : Stmt) → is_code (fitted_statement statement) ≡ is_code statement
is_code-fitted Leave = refl
is_code-fitted _ = refl

ends_in_code-fitted : (statements : List Stmt) → ends_in_code (map fitted_statement statements) ≡ ends_in_code statements
ends_in_code-fitted [] = refl
ends_in_code-fitted (statement ∷ []) = is_code-fitted statement
ends_in_code-fitted (statement ∷ next ∷ statements) = ends_in_code-fitted (next ∷ statements)

-- what comes behind a block is told by its statements as they were read
pub behind_block-fitted : (manner : Manner) (statements : List Stmt) (bytes : List ℕ)
    → behind_block manner (map fitted_statement statements) bytes ≡ behind_block manner statements bytes
behind_block-fitted manner statements bytes =
    ap (λ (code : Bool). if (if manner.placed then code else false) then (mark_at bytes).1 else bytes) (ends_in_code-fitted statements)

blocks_at-value : (left fuel : ℕ) (manner : Manner) (bytes : List ℕ) → 0 < left → ends_blocks bytes ≡ false
    → blocks_at left fuel manner bytes ≡ (
      (code_block_at fuel manner bytes).0 ∷ (blocks_at (left - 1) fuel manner (code_block_at fuel manner bytes).2).0,
      (code_block_at fuel manner bytes).1 || (blocks_at (left - 1) fuel manner (code_block_at fuel manner bytes).2).1,
      (blocks_at (left - 1) fuel manner (code_block_at fuel manner bytes).2).2,
    )
unfolding blocks_at
blocks_at-value zero fuel manner bytes some is = absurd (omega arith)
blocks_at-value (suc k) fuel manner bytes some is = let one : suc k - 1 ≡ k = omega arith in rw (one, is) refl

pub blocks_at-filled : (left fuel : ℕ) (manner : Manner) (bytes : List ℕ) → 0 < left → ends_blocks bytes ≡ false
    → AreFilled (blocks_at left fuel manner bytes).0 → 0 < length (code_block_at fuel manner bytes).0.stmts
blocks_at-filled left fuel manner bytes some is filled =
    (subst (λ (l : List CodeBlock). AreFilled l) (ap (λ p. p.0) (blocks_at-value left fuel manner bytes some is)) filled).0

pub blocks_at-step : (left fuel : ℕ) (manner : Manner) (bytes rest : List ℕ) (done next : List CodeBlock) (block : CodeBlock) (ctx is_context : Bool)
    → 0 < left → ends_blocks bytes ≡ false
    → block ≡ fitted_block (code_block_at fuel manner bytes).0 → is_context ≡ (code_block_at fuel manner bytes).1 → rest ≡ (code_block_at fuel manner bytes).2 → next ≡ done ++ block ∷ []
    → (next ++ map fitted_block (blocks_at (left - 1) fuel manner rest).0 ≡ done ++ map fitted_block (blocks_at left fuel manner bytes).0)
    × (((ctx || is_context) || (blocks_at (left - 1) fuel manner rest).1) ≡ (ctx || (blocks_at left fuel manner bytes).1))
    × ((blocks_at (left - 1) fuel manner rest).2 ≡ (blocks_at left fuel manner bytes).2)
    × (AreFilled (blocks_at left fuel manner bytes).0 → AreFilled (blocks_at (left - 1) fuel manner rest).0)
blocks_at-step left fuel manner bytes rest done next block ctx is_context some is block_is context rest_is next_is =
    let whole = blocks_at-value left fuel manner bytes some is in
    let others = ap (λ r. blocks_at (left - 1) fuel manner r) rest_is in (
      step fitted_block done next (code_block_at fuel manner bytes).0 block _ _
          (ap (λ p. p.0) whole ∙ ap (λ (o : List CodeBlock). (code_block_at fuel manner bytes).0 ∷ o) (sym (ap (λ p. p.0) others))) block_is next_is,
      or_assoc ctx is_context _ ∙ ap (λ t. ctx || (t || (blocks_at (left - 1) fuel manner rest).1)) context
          ∙ ap (λ t. ctx || ((code_block_at fuel manner bytes).1 || t)) (ap (λ p. p.1) others) ∙ ap (λ t. ctx || t) (sym (ap (λ p. p.1) whole)),
      ap (λ p. p.2) others ∙ sym (ap (λ p. p.2) whole),
      λ filled. subst (λ (l : List CodeBlock). AreFilled l) (sym (ap (λ p. p.0) others)) (subst (λ (l : List CodeBlock). AreFilled l) (ap (λ p. p.0) whole) filled).1,
    )

-- what comes behind one case of the switch over conditions of format 3
abbrev pub behind_label_case : List ℕ → List ℕ
behind_label_case bytes = drop 2 (after_letters is_in_identifier (drop 7 (after_letters is_in_identifier (drop 6 bytes))))

pub behind_label_cases-step : (left : ℕ) (bytes : List ℕ) → 0 < left → byte_at bytes 1 ≡ 99
    → behind_label_cases (left - 1) (behind_label_case bytes) ≡ behind_label_cases left bytes
unfolding behind_label_cases
behind_label_cases-step zero bytes some is = absurd (omega arith)
behind_label_cases-step (suc k) bytes some is = let one : suc k - 1 ≡ k = omega arith in rw (one, is) refl

pub AreFilled-spelled : (names : Spellings) (blocks : List CodeBlock) → EachBlockHasSpelling names blocks → AreFilled blocks
AreFilled-spelled names [] spelled = tt
AreFilled-spelled names (block ∷ blocks) spelled = (spelled.0.0, AreFilled-spelled names blocks spelled.1)

-- the head that is read, whether `kept` stands in it, and what comes behind it
abbrev pub read_head : List ℕ → Option Head × Bool × List ℕ
read_head bytes = head_at (drop 3 (after_letters is_digit (drop 14 bytes)))

-- the spellings that are read, and what comes behind them
abbrev pub read_names : List ℕ → Spellings × List ℕ
read_names bytes = names_at 17 (eof_at (drop 1 (after_letters is_digit (drop 14 (read_head bytes).2)))).1

-- the place that is read, and what comes behind it
abbrev pub read_place : List ℕ → Option LineMark × List ℕ
read_place bytes = line_at (drop 3 (read_names bytes).1)

-- the table that is read, and what comes behind it
abbrev pub read_table : List ℕ → List ℕ × List ℕ
read_table bytes = table_at (length bytes) (drop 2 (read_place bytes).1)

-- what the blocks that are read depend on
abbrev pub read_manner : List ℕ → Manner
read_manner bytes = record {
  names = (read_names bytes).0;
  custom = is_custom (read_head bytes).0;
  three = is_three (read_head bytes).0;
  placed = is_some (read_place bytes).0;
  front = block_front (short (number_at (drop 14 bytes)));
}

pub is_some-fitted : (line : Option LineMark) → is_some (fitted_line line) ≡ is_some line
is_some-fitted None = refl
is_some-fitted (Some mark) = refl

-- where the blocks that are read are not all filled, the piece that is read is not valid
pub unfilled : (bytes : List ℕ) → (AreFilled (blocks_behind (length bytes) (read_head bytes).1 (read_manner bytes) (read_table bytes).1).0 → ⊥)
    → IsValid (piece_at bytes).0 → ⊥
unfolding piece_at reading
unfilled bytes none valid = none (AreFilled-spelled _ _ valid.spelled)
