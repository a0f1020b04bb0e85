-- Registers and histories as functions of their numbers.
use mathlib.Core.Path.{fun_ext}
use Rattle.std.proofs.Common.{◌≤◌, ◌≡◌, ◌∙◌, sym, ap, subst, refl, ℕ, zero, suc, ◌+◌, ◌<◌, ◌==◌, Bool, true, false, List, [], ◌∷◌, length, length-set, set, get_or, get_or-set_other, eqb-true, eq-eqb, Option, None, Some, position, arith, if◌then◌else◌, Result, Ok, Err, IfOk}
use Rattle.std.specs.List.{AllByRecursion}
use Rattle.std.proofs.lemmas.Bool.{false≢true}
use Rattle.std.proofs.lemmas.Grind.{get_or-set_at}
use Rattle.std.proofs.lemmas.List.Quantifiers.{position-Some}
use Rattle.lx_ccode.specs.declared.piece.Stmt.{Stmt}
use Rattle.lx_ccode.specs.declared.piece.Stmt.TheVariants.{Tag}
use Rattle.lx_ccode.specs.declared.piece.CondCase.{CondCase}
use Rattle.lx_ccode.specs.declared.piece.Piece.{Piece}
use Rattle.lx_ccode.specs.Machine.{Answer, updated, Machine, Value, goes_on, step, write_history}
use Rattle.lx_step.specs.declared.scanner.Scanner.{Scanner}
use Rattle.lx_base.specs.declared.lists.Memory.{Memory}
use Rattle.lx_step.specs.declared.scanner.Going.{Going}
use Rattle.lx_step.specs.declared.scanner.Going.TheVariants.{Next}
use Rattle.lx_step.specs.Assigned.{target}
use Rattle.lx_step.specs.declared.numbers.Numbering.{Numbering}
use Rattle.lx_step.specs.Conds.{IsCond}
use Rattle.lx_step.specs.Left.{IsBehind, IsFrom}
use Rattle.lx_step.specs.Numbers.{place_of}
use Rattle.lx_step.specs.Steps.{content_of, history_at, machine_of, IsStep, Moves, SetsRegister, state_after, values_after}

-- ---- by numbers

true-false : (a : Bool) → a ≡ true → a ≡ false → ⊥
true-false a p q = false≢true (sym q ∙ p)

-- two numbers have two places
place_of-apart : (numbers : List ℕ) (number other : ℕ) → (number == other) ≡ false → (place_of numbers number ≡ place_of numbers other → ⊥)
unfolding place_of
place_of-apart numbers number other differ = by (position (λ one. number == one) numbers) (position (λ one. other == one) numbers) refl refl where
  behind : ℕ → Option ℕ → ℕ
  behind n found = elim found [ None ↦ length numbers + n | Some i ↦ i ]

  by : (found others : Option ℕ) → position (λ one. number == one) numbers ≡ found → position (λ one. other == one) numbers ≡ others
      → behind number found ≡ behind other others → ⊥
  by None None p q e = let same : number ≡ other = omega (arith, e) in true-false (number == other) (eq-eqb number other same) differ
  by None (Some j) p q e = let there = position-Some (λ one. other == one) numbers j 0 q in omega (arith, there.0, e)
  by (Some i) None p q e = let here = position-Some (λ one. number == one) numbers i 0 p in omega (arith, here.0, e)
  by (Some i) (Some j) p q e =
      let here = position-Some (λ one. number == one) numbers i 0 p in
      let there = position-Some (λ one. other == one) numbers j 0 q in
      let same : number ≡ other = eqb-true number (get_or numbers i 0) here.1 ∙ ap (λ k. get_or numbers k 0) e ∙ sym (eqb-true other (get_or numbers j 0) there.1) in
      true-false (number == other) (eq-eqb number other same) differ

-- a table with another entry, by the numbers of its places
pub updated-at : {A : Type 0} (numbers : List ℕ) (items : List A) (number : ℕ) (item none : A) → place_of numbers number < length items
    → (let read : ℕ → A = λ at. get_or (set items (place_of numbers number) item) (place_of numbers at) none in read) ≡ updated number item (λ at. get_or items (place_of numbers at) none)
updated-at {A} numbers items number item none h = fun_ext (λ at. one at (at == number) refl) where
  one : (at : ℕ) (same : Bool) → (at == number) ≡ same
      → get_or (set items (place_of numbers number) item) (place_of numbers at) none ≡ (if same then item else get_or items (place_of numbers at) none)
  one at true e = get_or-set_at items (place_of numbers number) (place_of numbers at) item none (ap (place_of numbers) (eqb-true at number e)) h
  one at false e = get_or-set_other items (place_of numbers number) (place_of numbers at) item none (place_of-apart numbers at number e)

all-set : {A : Type 0} (P : A → Type 0) (items : List A) (place : ℕ) (item : A) → AllByRecursion P items → P item → AllByRecursion P (set items place item)
all-set P [] place item all p = tt
all-set P (first ∷ items) zero item all p = (p, all.1)
all-set P (first ∷ items) (suc place) item all p = (all.0, all-set P items place item all.1 p)

pub all-at : {A : Type 0} (P : A → Type 0) (items : List A) (place : ℕ) (none : A) → P none → AllByRecursion P items → P (get_or items place none)
all-at P [] place none p all = p
all-at P (first ∷ items) zero none p all = all.0
all-at P (first ∷ items) (suc place) none p all = all-at P items place none p all.1

-- a scanner whose register's place has another content
pub SetsRegister-at : (old new : Scanner) (register : ℕ) (value : Option ℕ) → place_of old.numbering.registers.keys register < length old.registers.items
    → new.registers.items ≡ set old.registers.items (place_of old.numbering.registers.keys register) value → new.numbering ≡ old.numbering → new.histories ≡ old.histories → new.cond ≡ old.cond
    → new.cursor ≡ old.cursor → new.marker ≡ old.marker → new.state ≡ old.state
    → ((conds : List CondCase) (values : List Value) → machine_of conds new values ≡ record (machine_of conds old values) { registers = content_of new }) → SetsRegister old new register value
SetsRegister-at old new register value h is numbering histories cond cursor marker state machine = record {
  state = state;
  from = λ start behind from. record {
    cursor = subst (λ n. start ≤ n) (sym cursor) from.cursor;
    marker = subst (λ n. start ≤ n) (sym marker) from.marker;
    registers = subst (AllByRecursion (IsBehind start)) (sym is) (all-set (IsBehind start) old.registers.items (place_of old.numbering.registers.keys register) value from.registers behind);
  };
  machine = λ conds values. machine conds values ∙ ap (λ (read : ℕ → Option ℕ). record (machine_of conds old values) { registers = read }) contents;
  tables = record { numbering = numbering; registers = ap length is ∙ length-set old.registers.items (place_of old.numbering.registers.keys register) value; histories = ap length histories };
  cond = cond;
} where
  contents : content_of new ≡ updated register value (content_of old)
  contents =
      ap (λ (one : Numbering). (let read : ℕ → Option ℕ = λ at. get_or new.registers.items (place_of one.registers.keys at) None in read)) numbering
      ∙ ap (λ (items : List (Option ℕ)). (let read : ℕ → Option ℕ = λ at. get_or items (place_of old.numbering.registers.keys at) None in read)) is
      ∙ updated-at old.numbering.registers.keys old.registers.items register value None h

written : (history : ℕ) (content : List (Option ℕ)) (rest : List Stmt) (machine : Machine) (answers : List Answer) → (history ≡ 0 → ⊥)
    → write_history history content rest machine answers ≡ goes_on rest (record machine { histories = updated history content machine.histories }) answers
written zero content rest machine answers some = absurd (some refl)
written (suc history) content rest machine answers some = refl

-- a statement that writes a history, and does nothing else
pub IsStep-history : (stream : List ℕ) (eof : Option ℕ) (table : List ℕ) (conds : List CondCase) (statement : Stmt) (old : Scanner) (others : List (List (Option ℕ))) (history : ℕ) (content : List (Option ℕ)) → (history ≡ 0 → ⊥)
    → place_of old.numbering.histories.keys history < length old.histories → others ≡ set old.histories (place_of old.numbering.histories.keys history) content
    → ((piece : Piece) (rest : List Stmt) (values : List Value) (answers : List Answer) → step piece stream statement rest (machine_of conds old values) answers
    ≡ write_history history content rest (machine_of conds old values) answers)
    → ((values : List Value) → values_after statement (machine_of conds old values) values ≡ values) → ((values : List Value) → target table statement (machine_of conds old values) ≡ None)
    → state_after statement old.state ≡ old.state → IsStep stream eof table conds statement old (record old { histories = others }) Next
IsStep-history stream eof table conds statement old others history content some h is step values_kept none stored = record {
  state = sym stored;
  from = λ start from. record { cursor = from.cursor; marker = from.marker; registers = from.registers };
  step = λ piece rest values answers e t. step piece rest values answers ∙ written history content rest (machine_of conds old values) answers some
      ∙ ap (λ machine. goes_on rest machine answers) (sym (moved values) ∙ ap (λ more. machine_of conds (record old { histories = others }) more) (sym (values_kept values)));
  leads = none;
  tables = record { numbering = refl; registers = refl; histories = ap length is ∙ length-set old.histories (place_of old.numbering.histories.keys history) content };
  limit = refl;
  cond = λ same. same;
} where
  moved : (values : List Value) → machine_of conds (record old { histories = others }) values ≡ record (machine_of conds old values) { histories = updated history content (history_at old) }
  moved values =
      ap (λ (read : ℕ → List (Option ℕ)). record (machine_of conds old values) { histories = read })
      (ap (λ (one : List (List (Option ℕ))). (let read : ℕ → List (Option ℕ) = λ at. get_or one (place_of old.numbering.histories.keys at) [] in read)) is
      ∙ updated-at old.numbering.histories.keys old.histories history content [] h)

-- a statement that sets a register, and does nothing else
pub IsStep-register : (stream : List ℕ) (eof : Option ℕ) (table : List ℕ) (conds : List CondCase) (statement : Stmt) (old new : Scanner) (register : ℕ) (value : Option ℕ) → SetsRegister old new register value
    → ((piece : Piece) (rest : List Stmt) (values : List Value) (answers : List Answer) → step piece stream statement rest (machine_of conds old values) answers
    ≡ goes_on rest (record (machine_of conds old values) { registers = updated register value (content_of old) }) answers)
    → ((values : List Value) → values_after statement (machine_of conds old values) values ≡ values) → ((values : List Value) → target table statement (machine_of conds old values) ≡ None)
    → state_after statement old.state ≡ old.state → ((start : ℕ) → IsFrom start old → IsBehind start value) → IsStep stream eof table conds statement old new Next
IsStep-register stream eof table conds statement old new register value sets step values_kept none stored behind = record {
  state = sets.state ∙ sym stored;
  from = λ start from. sets.from start (behind start from) from;
  step = λ piece rest values answers e t. step piece rest values answers
      ∙ ap (λ machine. goes_on rest machine answers) (sym (sets.machine conds values) ∙ ap (λ others. machine_of conds new others) (sym (values_kept values)));
  leads = none;
  tables = sets.tables;
  limit = ap (λ (machine : Machine). machine.limit) (sets.machine conds []);
  cond = λ same. subst (IsCond conds) (sym sets.cond) same;
}

-- a step of any stream is a step of this one
pub IfOk-IsStep : (result : Result Going Memory) (eof : Option ℕ) (table : List ℕ) (conds : List CondCase) (statement made : Stmt) (old new : Scanner) (Holds : List ℕ → Type 0) → statement ≡ made
    → IfOk result (λ going. (stream : List ℕ) (eof : Option ℕ) (table : List ℕ) (conds : List CondCase) → IsStep stream eof table conds made old new going)
    → IfOk result (λ going. (stream : List ℕ) → Holds stream → IsStep stream eof table conds statement old new going)
IfOk-IsStep (Ok going) eof table conds statement made old new Holds e h = λ stream holds. rw e (h stream eof table conds)
IfOk-IsStep (Err memory) eof table conds statement made old new Holds e h = tt

-- a step of any name is a step of this one
pub IfOk-IsStep-tag : (result : Result Going Memory) (eof : Option ℕ) (table : List ℕ) (conds : List CondCase) (statement : Stmt) (name : List ℕ) (place : ℕ) (scanner : Scanner) (Holds : List ℕ → Type 0)
    → statement ≡ Tag name true place
    → IfOk result (λ going. (stream : List ℕ) (eof : Option ℕ) (table : List ℕ) (conds : List CondCase) (name : List ℕ) → IsStep stream eof table conds (Tag name true place) scanner scanner going)
    → IfOk result (λ going. (stream : List ℕ) → Holds stream → IsStep stream eof table conds statement scanner scanner going)
IfOk-IsStep-tag (Ok going) eof table conds statement name place scanner Holds e h = λ stream holds. rw e (h stream eof table conds name)
IfOk-IsStep-tag (Err memory) eof table conds statement name place scanner Holds e h = tt

pub Moves-step : (stream : List ℕ) (eof : Option ℕ) (table : List ℕ) (conds : List CondCase) (statement : Stmt) (old new : Scanner) (going : Going) → IsStep stream eof table conds statement old new going → Moves table conds statement old new going
Moves-step stream eof table conds statement old new going step = record {
  leads = step.leads;
  tables = step.tables;
  limit = step.limit;
  cond = step.cond;
  state = step.state;
  from = step.from;
}

pub IfOk-Moves : (result : Result Going Memory) (table : List ℕ) (conds : List CondCase) (statement made : Stmt) (old new : Scanner) → statement ≡ made
    → IfOk result (λ going. (stream : List ℕ) (eof : Option ℕ) (table : List ℕ) (conds : List CondCase) → IsStep stream eof table conds made old new going)
    → IfOk result (λ going. Moves table conds statement old new going)
IfOk-Moves (Ok going) table conds statement made old new e h = rw e (Moves-step [] None table conds made old new going (h [] None table conds))
IfOk-Moves (Err memory) table conds statement made old new e h = tt

pub IfOk-Moves-tag : (result : Result Going Memory) (table : List ℕ) (conds : List CondCase) (statement : Stmt) (name : List ℕ) (place : ℕ) (scanner : Scanner) → statement ≡ Tag name true place
    → IfOk result (λ going. (stream : List ℕ) (eof : Option ℕ) (table : List ℕ) (conds : List CondCase) (name : List ℕ) → IsStep stream eof table conds (Tag name true place) scanner scanner going)
    → IfOk result (λ going. Moves table conds statement scanner scanner going)
IfOk-Moves-tag (Ok going) table conds statement name place scanner e h = rw e (Moves-step [] None table conds (Tag name true place) scanner scanner going (h [] None table conds name))
IfOk-Moves-tag (Err memory) table conds statement name place scanner e h = tt
