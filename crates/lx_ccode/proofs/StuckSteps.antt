-- A step is stuck exactly where its statement cannot do what it is for.
use Rattle.std.proofs.Common.{◌≡◌, ℕ, zero, suc, ◌+◌, ◌<◌, ◌≤◌, Bool, true, false, List, [], ◌∷◌, ◌++◌, length, map, Option, Some, None, refl, sym, ap, ◌∙◌, arith}
use Rattle.std.specs.Prelude.{if◌then◌else◌, nat_lt, ◌==◌, ◌↔◌, slice_get}
use Rattle.std.specs.List.{AllByRecursion}
use Rattle.std.proofs.lemmas.Bool.{false≢true, eq-eqb, eqb-true, ltb-true, ltb-false}
use Rattle.lx_ccode.specs.declared.piece.Stmt.{Stmt}
use Rattle.lx_ccode.specs.declared.piece.Stmt.TheVariants.{Peek, Skip, Backup, Restore, Accept, Set, Unset, Copy, MSet, MUnset, MCopy, IfUnit, IfIs, IfSet, IfAccept, IfEnd, State, Need, Try, Cond, Tag, Count, End, Back, Switch, Goto, Leave, Code, Jump}
use Rattle.lx_ccode.specs.declared.piece.CodeBlock.{CodeBlock}
use Rattle.lx_ccode.specs.declared.piece.SwitchCase.{SwitchCase}
use Rattle.lx_ccode.specs.declared.piece.Piece.{Piece}
use Rattle.lx_ccode.specs.Machine.{Machine, more, no_more, Answer, refilled, left, Next, jump, code_at, stored_block, choose, unit_at, peek, skip, if_unit, has_unit, case_block, switch_unit, write_history, back, has_units, need, try, step}
use Rattle.lx_ccode.specs.Stuck.{outcome_after, IsStuck, CannotDo, HasWayBack}
use Rattle.lx_ccode.specs.Validity.{JumpsBelow}

-- a block below the number of blocks has code
pub code_at-below : (blocks : List CodeBlock) (block : ℕ) → block < length blocks → code_at blocks (Some block) ≡ None → ⊥
code_at-below [] block below none = omega arith
code_at-below (first ∷ blocks) zero below none = cc
code_at-below (first ∷ blocks) (suc block) below none = code_at-below blocks block (omega arith) none

IsStuck-jump : (target : Option (List Stmt)) (machine : Machine) (answers : List Answer) → (target ≡ None → ⊥) → IsStuck (jump target machine answers) → ⊥
IsStuck-jump None machine answers some is = some refl
IsStuck-jump (Some code) machine answers some is = cc

IsStuck-choose : (test : Bool) (target : Option (List Stmt)) (rest : List Stmt) (machine : Machine) (answers : List Answer) → (target ≡ None → ⊥)
    → IsStuck (choose test target rest machine answers) → ⊥
IsStuck-choose true target rest machine answers some is = IsStuck-jump target machine answers some is
IsStuck-choose false target rest machine answers some is = cc

IsStuck-if : (test : Bool) (then_next else_next : Next) → (IsStuck then_next → ⊥) → (IsStuck else_next → ⊥) → IsStuck (if test then then_next else else_next) → ⊥
IsStuck-if true then_next else_next first second is = first is
IsStuck-if false then_next else_next first second is = second is

IsStuck-need : (blocks : List CodeBlock) (units : ℕ) (rest : List Stmt) (machine : Machine) (answers : List Answer)
    → (code_at blocks (stored_block blocks machine.state) ≡ None → ⊥) → IsStuck (need blocks units rest machine answers) → ⊥
IsStuck-need blocks units rest machine [] way is = IsStuck-if (has_units units machine) _ _ (λ h. cc) (λ h. cc) is
IsStuck-need blocks units rest machine (refilled (more dropped added) ∷ answers) way is =
    IsStuck-if (has_units units machine) _ _ (λ h. cc) (IsStuck-need blocks units rest (record machine { limit = machine.limit + added }) answers way) is
IsStuck-need blocks units rest machine (refilled no_more ∷ answers) way is = IsStuck-if (has_units units machine) _ _ (λ h. cc) (λ h. cc) is
IsStuck-need blocks units rest machine (left refills ∷ answers) way is =
    IsStuck-if (has_units units machine) _ _ (λ h. cc) (IsStuck-jump _ _ answers way) is

IsStuck-try : (blocks : List CodeBlock) (target : Option (List Stmt)) (rest : List Stmt) (machine : Machine) (answers : List Answer)
    → (target ≡ None → ⊥) → (code_at blocks (stored_block blocks machine.state) ≡ None → ⊥) → IsStuck (try blocks target rest machine answers) → ⊥
IsStuck-try blocks target rest machine [] some way is = cc
IsStuck-try blocks target rest machine (refilled (more dropped added) ∷ answers) some way is = IsStuck-jump target _ answers some is
IsStuck-try blocks target rest machine (refilled no_more ∷ answers) some way is = cc
IsStuck-try blocks target rest machine (left refills ∷ answers) some way is = IsStuck-jump _ _ answers way is

-- ---- what some statements cannot do

slice_get-below : (stream : List ℕ) (offset : ℕ) → offset < length stream → slice_get stream offset ≡ None → ⊥
slice_get-below [] offset below none = omega arith
slice_get-below (unit ∷ stream) zero below none = cc
slice_get-below (unit ∷ stream) (suc offset) below none = slice_get-below stream offset (omega arith) none

IsStuck-peek : (unit : Option ℕ) (rest : List Stmt) (machine : Machine) (answers : List Answer) → IsStuck (peek unit rest machine answers) → unit ≡ None
IsStuck-peek None rest machine answers is = refl
IsStuck-peek (Some unit) rest machine answers is = absurd cc

module _ (eof : Option ℕ) (stream : List ℕ) (cursor limit : ℕ) (within : limit ≤ length stream) where
  -- there is no unit at the cursor: it is past the limit, or at the limit where the piece has no unit for the end
  abbrev HasNone : Type 0
  HasNone = (limit ≤ cursor) × (cursor ≡ limit → eof ≡ None)

  at_limit : (same : Bool) → (cursor == limit) ≡ same → limit ≤ cursor → (if same then eof else None) ≡ None → HasNone
  at_limit true e past none = (past, λ h. none)
  at_limit false e past none = (past, λ h. absurd (false≢true (sym e ∙ eq-eqb cursor limit h)))

  unit_at-none : unit_at eof stream cursor limit ≡ None → HasNone
  unit_at-none none = by_test (nat_lt cursor limit) refl none where
    by_test : (before : Bool) → nat_lt cursor limit ≡ before → (if before then slice_get stream cursor else (if cursor == limit then eof else None)) ≡ None → HasNone
    by_test true e none = (let below = ltb-true cursor limit e in absurd (slice_get-below stream cursor (omega (arith, below)) none))
    by_test false e none = at_limit (cursor == limit) refl (ltb-false cursor limit e) none

  none-unit_at : HasNone → unit_at eof stream cursor limit ≡ None
  none-unit_at has = by_test (nat_lt cursor limit) refl where
    at_end : (same : Bool) → (cursor == limit) ≡ same → (if same then eof else None) ≡ None
    at_end true e = has.1 (eqb-true cursor limit e)
    at_end false e = refl

    by_test : (before : Bool) → nat_lt cursor limit ≡ before → (if before then slice_get stream cursor else (if cursor == limit then eof else None)) ≡ None
    by_test true e = (let below = ltb-true cursor limit e in absurd (omega (arith, below, has.0)))
    by_test false e = at_end (cursor == limit) refl

IsStuck-skip : (cursor limit : ℕ) (rest : List Stmt) (machine : Machine) (answers : List Answer) → IsStuck (skip (nat_lt cursor limit) rest machine answers) ↔ (limit ≤ cursor)
IsStuck-skip cursor limit rest machine answers = by_test (nat_lt cursor limit) refl where
  by_test : (before : Bool) → nat_lt cursor limit ≡ before → IsStuck (skip before rest machine answers) ↔ (limit ≤ cursor)
  by_test true e = (λ is. absurd cc, λ past. (let below = ltb-true cursor limit e in absurd (omega (arith, below, past))))
  by_test false e = (λ is. ltb-false cursor limit e, λ past. refl)

IsStuck-write_history : (history : ℕ) (content : List (Option ℕ)) (rest : List Stmt) (machine : Machine) (answers : List Answer)
    → IsStuck (write_history history content rest machine answers) ↔ (history ≡ 0)
IsStuck-write_history zero content rest machine answers = (λ is. refl, λ h. refl)
IsStuck-write_history (suc place) content rest machine answers = (λ is. absurd cc, λ h. absurd (omega (arith, h)))

IsStuck-if_unit : (unit : Option ℕ) (test : ℕ → Bool) (target : Option (List Stmt)) (rest : List Stmt) (machine : Machine) (answers : List Answer) → (target ≡ None → ⊥)
    → IsStuck (if_unit unit test target rest machine answers) ↔ (unit ≡ None)
IsStuck-if_unit None test target rest machine answers some = (λ is. refl, λ h. refl)
IsStuck-if_unit (Some unit) test target rest machine answers some =
    (λ is. absurd (IsStuck-choose _ target rest machine answers some is), λ h. absurd cc)

-- a block of the cases, or the last one, is below a number where each is
pub case_block-below : (blocks last unit : ℕ) (cases : List SwitchCase) → AllByRecursion (λ block. block < blocks) (map (λ case. case.block) cases ++ last ∷ [])
    → case_block cases last unit < blocks
case_block-below blocks last unit [] below = below.0
case_block-below blocks last unit (case ∷ cases) below = by (has_unit case.units unit) (case_block-below blocks last unit cases below.1) where
  by : (flag : Bool) → case_block cases last unit < blocks → (if flag then case.block else case_block cases last unit) < blocks
  by true h = below.0
  by false h = h

IsStuck-switch_unit : (unit : Option ℕ) (target : ℕ → Option (List Stmt)) (machine : Machine) (answers : List Answer) → ((unit : ℕ) → target unit ≡ None → ⊥)
    → IsStuck (switch_unit unit target machine answers) ↔ (unit ≡ None)
IsStuck-switch_unit None target machine answers some = (λ is. refl, λ h. refl)
IsStuck-switch_unit (Some unit) target machine answers some = (λ is. absurd (IsStuck-jump (target unit) machine answers (some unit) is), λ h. absurd cc)

IsStuck-back : (offset : Option ℕ) (rest : List Stmt) (machine : Machine) (answers : List Answer) → IsStuck (back offset rest machine answers) ↔ (offset ≡ None)
IsStuck-back None rest machine answers = (λ is. refl, λ h. refl)
IsStuck-back (Some offset) rest machine answers = (λ is. absurd cc, λ h. absurd cc)

-- ---- each statement

module _ (piece : Piece) (stream : List ℕ) (rest : List Stmt) (machine : Machine) (answers : List Answer) (within : machine.limit ≤ length stream) where
  pub IsStuck-step : (statement : Stmt) → JumpsBelow (length piece.blocks) statement → HasWayBack piece statement machine
      → IsStuck (step piece stream statement rest machine answers) ↔ CannotDo piece statement machine
  IsStuck-step Peek jumps way = (
    λ is. unit_at-none piece.eof stream machine.cursor machine.limit within (IsStuck-peek _ rest machine answers is),
    λ none. ap (λ unit. outcome_after (peek unit rest machine answers)) (none-unit_at piece.eof stream machine.cursor machine.limit within none),
  )
  IsStuck-step Skip jumps way = IsStuck-skip machine.cursor machine.limit rest machine answers
  IsStuck-step Backup jumps way = (λ is. cc, λ h. absurd h)
  IsStuck-step Restore jumps way = (λ is. cc, λ h. absurd h)
  IsStuck-step (Accept accept) jumps way = (λ is. cc, λ h. absurd h)
  IsStuck-step (Set register) jumps way = (λ is. cc, λ h. absurd h)
  IsStuck-step (Unset register) jumps way = (λ is. cc, λ h. absurd h)
  IsStuck-step (Copy register source) jumps way = (λ is. cc, λ h. absurd h)
  IsStuck-step (MSet history) jumps way = IsStuck-write_history history _ rest machine answers
  IsStuck-step (MUnset history) jumps way = IsStuck-write_history history _ rest machine answers
  IsStuck-step (MCopy history source) jumps way = IsStuck-write_history history _ rest machine answers
  IsStuck-step (IfUnit greatest block) jumps way = IsStuck-if_unit machine.unit _ _ rest machine answers (code_at-below piece.blocks block jumps.0)
  IsStuck-step (IfIs unit block) jumps way = IsStuck-if_unit machine.unit _ _ rest machine answers (code_at-below piece.blocks block jumps.0)
  IsStuck-step (IfSet set block) jumps way = IsStuck-if_unit machine.unit _ _ rest machine answers (code_at-below piece.blocks block jumps.0)
  IsStuck-step (IfAccept accept block) jumps way = (IsStuck-choose _ _ rest machine answers (code_at-below piece.blocks block jumps.0), λ h. absurd h)
  IsStuck-step (IfEnd block) jumps way = (IsStuck-choose _ _ rest machine answers (code_at-below piece.blocks block jumps.0), λ h. absurd h)
  IsStuck-step (State state) jumps way = (λ is. cc, λ h. absurd h)
  IsStuck-step (Need units) jumps way = (IsStuck-need piece.blocks units rest machine answers (way refl), λ h. absurd h)
  IsStuck-step (Try block) jumps way = (IsStuck-try piece.blocks _ rest machine answers (code_at-below piece.blocks block jumps.0) (way refl), λ h. absurd h)
  IsStuck-step (Cond cond) jumps way = (λ is. cc, λ h. absurd h)
  IsStuck-step (Tag tag true history) jumps way = (λ is. cc, λ h. absurd h)
  IsStuck-step (Tag tag false register) jumps way = (λ is. cc, λ h. absurd h)
  IsStuck-step (Count groups) jumps way = (λ is. cc, λ h. absurd h)
  IsStuck-step (End place register) jumps way = (λ is. cc, λ h. absurd h)
  IsStuck-step (Back register) jumps way = IsStuck-back (machine.registers register) rest machine answers
  IsStuck-step (Switch cases last) jumps way = IsStuck-switch_unit machine.unit _ machine answers
      (λ unit. code_at-below piece.blocks (case_block cases last unit) (case_block-below (length piece.blocks) last unit cases jumps))
  IsStuck-step (Goto block) jumps way = (IsStuck-jump _ machine answers (code_at-below piece.blocks block jumps.0), λ h. absurd h)
  IsStuck-step Leave jumps way = (λ is. cc, λ h. absurd h)
  IsStuck-step (Code rule line action) jumps way = (λ is. cc, λ h. absurd h)
  IsStuck-step (Jump cond rule) jumps way = (λ is. cc, λ h. absurd h)
