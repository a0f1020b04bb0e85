-- The numbers of a valid piece have room in their fields.
use Rattle.std.proofs.Common.{◌≡◌, ◌<◌, ◌∙◌, ℕ, true, false, List, [], ◌∷◌, map, Option, Some, None, refl, sym, ap, subst, arith, inl, inr}
use Rattle.std.specs.Prelude.{◌^◌, ◌*◌, ◌⊎◌, IfSome}
use Rattle.std.specs.List.{AllByRecursion}
use Rattle.lx_base.specs.Letters.{IsIdentifier}
use Rattle.lx_base.specs.Names.{Spellings}
use Rattle.lx_ccode.specs.declared.piece.CodeBlock.{CodeBlock}
use Rattle.lx_ccode.specs.declared.piece.CondCase.{CondCase}
use Rattle.lx_ccode.specs.declared.piece.Head.{Head}
use Rattle.lx_ccode.specs.declared.piece.LineMark.{LineMark}
use Rattle.lx_ccode.specs.declared.piece.Piece.{Piece}
use Rattle.lx_ccode.specs.declared.piece.StateCase.{StateCase}
use Rattle.lx_ccode.specs.declared.piece.SwitchCase.{SwitchCase}
use Rattle.lx_ccode.specs.declared.piece.Stmt.{Stmt}
use Rattle.lx_ccode.specs.declared.piece.Stmt.TheVariants.{Peek, Skip, Backup, Restore, Accept, Set, Unset, Copy, MSet, MUnset, MCopy, IfUnit, IfIs, IfSet, IfAccept, IfEnd, State, Need, Try, Cond, Tag, Count, End, Back, Switch, Goto, Leave, Code, Jump}
use Rattle.lx_ccode.specs.Validity.{EachBlockHasSpelling, EachHasSpelling, HasSpelling, IsByte, IsSwitchCase, IsLine, IsLong, IsShort, IsValid}
use Rattle.lx_ccode.specs.Front.{BeginsWithPiece, BeginsWithPieceAt, IsPlaced}
use Rattle.lx_ccode.specs.Reading.{piece_at}
use Rattle.lx_creader.specs.Fitted.{fitted, fitted_block, fitted_case, fitted_cond, fitted_eof, fitted_head, fitted_line, fitted_state, fitted_statement, fitted_states, long, short, tiny}

short_fits : (n : ℕ) → n < 2 ^ 32 → short n ≡ n
short_fits n fits = omega arith

long_fits : (n : ℕ) → n < 2 ^ 64 → long n ≡ n
long_fits n fits = omega arith

bytes_fit : (bytes : List ℕ) → AllByRecursion IsByte bytes → map tiny bytes ≡ bytes
bytes_fit [] h = refl
bytes_fit (byte ∷ bytes) h =
    let small : byte < 256 = h.0 in
    let same : tiny byte ≡ byte = omega (arith, small) in
    λ i. same i ∷ bytes_fit bytes h.1 i

switch_cases_fit : (cases : List SwitchCase) → AllByRecursion IsSwitchCase cases → map fitted_case cases ≡ cases
switch_cases_fit [] h = refl
switch_cases_fit (case ∷ cases) h = λ i. record { units = bytes_fit case.units h.0.bytes i; block = long_fits case.block h.0.block i } ∷ switch_cases_fit cases h.1 i

fitted_line-fits : (line : Option LineMark) → IsLine line → fitted_line line ≡ line
fitted_line-fits None fits = refl
fitted_line-fits (Some mark) fits = λ i. Some (record mark { line = short_fits mark.line fits i })

fitted_statement-fits : (names : Spellings) (statement : Stmt) → HasSpelling names statement → fitted_statement statement ≡ statement
fitted_statement-fits names Peek h = refl
fitted_statement-fits names Skip h = refl
fitted_statement-fits names Backup h = refl
fitted_statement-fits names Restore h = refl
fitted_statement-fits names (Accept a) h = λ i. Accept (short_fits a h i)
fitted_statement-fits names (Set r) h = λ i. Set (short_fits r h.1 i)
fitted_statement-fits names (Unset r) h = λ i. Unset (short_fits r h.1 i)
fitted_statement-fits names (Copy r s) h = λ i. Copy (short_fits r h.0.1 i) (short_fits s h.1.1 i)
fitted_statement-fits names (MSet a) h = λ i. MSet (short_fits a h i)
fitted_statement-fits names (MUnset a) h = λ i. MUnset (short_fits a h i)
fitted_statement-fits names (MCopy a b) h = λ i. MCopy (short_fits a h.0 i) (short_fits b h.1 i)
fitted_statement-fits names (IfUnit a b) h = λ i. IfUnit (short_fits a h.0 i) (long_fits b h.1 i)
fitted_statement-fits names (IfIs a b) h = λ i. IfIs (short_fits a h.0 i) (long_fits b h.1 i)
fitted_statement-fits names (IfSet a b) h = λ i. IfSet (short_fits a h.0 i) (long_fits b h.1 i)
fitted_statement-fits names (IfAccept a b) h = λ i. IfAccept (short_fits a h.0 i) (long_fits b h.1 i)
fitted_statement-fits names (IfEnd b) h = λ i. IfEnd (long_fits b h i)
fitted_statement-fits names (State b) h = λ i. State (long_fits b h i)
fitted_statement-fits names (Need a) h = λ i. Need (short_fits a h i)
fitted_statement-fits names (Try b) h = λ i. Try (long_fits b h i)
fitted_statement-fits names (Cond c) h = refl
fitted_statement-fits names (Tag t true a) h = λ i. Tag t true (short_fits a h.1 i)
fitted_statement-fits names (Tag t false a) h = λ i. Tag t false (short_fits a h.1.1 i)
fitted_statement-fits names (Count a) h = λ i. Count (short_fits a h i)
fitted_statement-fits names (End a r) h = λ i. End (short_fits a h.0 i) (short_fits r h.1.1 i)
fitted_statement-fits names (Back r) h = λ i. Back (short_fits r h.1 i)
fitted_statement-fits names (Switch cases b) h = λ i. Switch (switch_cases_fit cases h.0.each i) (long_fits b h.1 i)
fitted_statement-fits names (Goto b) h = λ i. Goto (long_fits b h i)
fitted_statement-fits names Leave h = refl
fitted_statement-fits names (Code r l a) h = λ i. Code (short_fits r h.0 i) (fitted_line-fits l h.1 i) a
fitted_statement-fits names (Jump c r) h = λ i. Jump c (short_fits r h.1 i)

statements_fit : (names : Spellings) (statements : List Stmt) → EachHasSpelling names statements → map fitted_statement statements ≡ statements
statements_fit names [] h = refl
statements_fit names (s ∷ statements) h = λ i. fitted_statement-fits names s h.0 i ∷ statements_fit names statements h.1 i

blocks_fit : (names : Spellings) (blocks : List CodeBlock) → EachBlockHasSpelling names blocks → map fitted_block blocks ≡ blocks
blocks_fit names [] h = refl
blocks_fit names (b ∷ blocks) h = λ i. record b { stmts = statements_fit names b.stmts h.0.2 i } ∷ blocks_fit names blocks h.1 i

cases_fit : (cases : List StateCase) → AllByRecursion (λ (case : StateCase). IsLong case.state × IsLong case.block) cases → map fitted_state cases ≡ cases
cases_fit [] h = refl
cases_fit (c ∷ cases) h = λ i. record { state = long_fits c.state h.0.0 i; block = long_fits c.block h.0.1 i } ∷ cases_fit cases h.1 i

states_fit : (states : Option (List StateCase)) → IfSome states (λ cases. AllByRecursion (λ (case : StateCase). IsLong case.state × IsLong case.block) cases) → fitted_states states ≡ states
states_fit None h = refl
states_fit (Some cases) h = ap Some (cases_fit cases h)

conds_fit : (conds : List CondCase) → AllByRecursion (λ (case : CondCase). IsIdentifier case.cond × IsLong case.block) conds → map fitted_cond conds ≡ conds
conds_fit [] h = refl
conds_fit (c ∷ conds) h = λ i. record c { block = long_fits c.block h.0.1 i } ∷ conds_fit conds h.1 i

unit_fits : (unit : ℕ) → (unit ≡ 1) ⊎ ((unit ≡ 2) ⊎ (unit ≡ 4)) → unit < 2 ^ 32
unit_fits unit (inl is) = omega arith
unit_fits unit (inr (inl is)) = omega arith
unit_fits unit (inr (inr is)) = omega arith

below_unit : (unit eof : ℕ) → (unit ≡ 1) ⊎ ((unit ≡ 2) ⊎ (unit ≡ 4)) → eof < 2 ^ (8 * unit) → eof < 2 ^ 32
below_unit unit eof (inl is) fits = let small : eof < 2 ^ (8 * 1) = subst (λ (u : ℕ). eof < 2 ^ (8 * u)) is fits in omega arith
below_unit unit eof (inr (inl is)) fits = let small : eof < 2 ^ (8 * 2) = subst (λ (u : ℕ). eof < 2 ^ (8 * u)) is fits in omega arith
below_unit unit eof (inr (inr is)) fits = let small : eof < 2 ^ (8 * 4) = subst (λ (u : ℕ). eof < 2 ^ (8 * u)) is fits in omega arith

eof_fits : (unit : ℕ) (eof : Option ℕ) → (unit ≡ 1) ⊎ ((unit ≡ 2) ⊎ (unit ≡ 4)) → IfSome eof (λ eof. eof < 2 ^ (8 * unit)) → fitted_eof eof ≡ eof
eof_fits unit None size h = refl
eof_fits unit (Some eof) size h = ap Some (short_fits eof (below_unit unit eof size h))

head_fits : (head : Option Head) → IfSome head (λ head. IsShort head.regs × IsShort head.mregs × IsLong head.states) → fitted_head head ≡ head
head_fits None h = refl
head_fits (Some head) h = λ i. Some (record head { regs = short_fits head.regs h.0 i; mregs = short_fits head.mregs h.1 i; states = long_fits head.states h.2 i })

pub fitted-valid : (piece : Piece) → IsValid piece → fitted piece ≡ piece
fitted-valid piece valid = λ i. record piece {
  number = short_fits piece.number valid.range.number i;
  head = head_fits piece.head valid.range.head i;
  unit = short_fits piece.unit (unit_fits piece.unit valid.unit) i;
  eof = eof_fits piece.unit piece.eof valid.unit valid.eof i;
  table = bytes_fit piece.table valid.range.table i;
  states = states_fit piece.states valid.range.states i;
  conds = conds_fit piece.conds valid.range.conds i;
  blocks = blocks_fit piece.names piece.blocks valid.spelled i;
  line = fitted_line-fits piece.line valid.range.line i;
}

-- the piece that is valid, and whose text stands at the front of bytes with a place
abbrev pub StandsAt : List ℕ → Option LineMark → Piece → Type 0
StandsAt bytes place piece = IsValid piece × IsPlaced place piece × BeginsWithPieceAt bytes place piece

pub BeginsWithPiece-at : (bytes : List ℕ) (place : Option LineMark) (piece : Piece) → StandsAt bytes place piece → BeginsWithPiece bytes piece
BeginsWithPiece-at bytes place piece stands = record { valid = stands.0; place = place; placed = stands.1; rest = stands.2.0; text = stands.2.1 }

-- reading finds each piece that stands at the front of bytes
abbrev pub Finds : Type 0
Finds = (bytes : List ℕ) (piece : Piece) → BeginsWithPiece bytes piece → StandsAt bytes (piece_at bytes).1 (piece_at bytes).0

pub none_stands : Finds → (bytes : List ℕ) → (IsValid (piece_at bytes).0 → ⊥) → (piece : Piece) → BeginsWithPiece bytes piece → ⊥
none_stands finds bytes invalid piece stands = invalid (finds bytes piece stands).0

pub no_other_stands : Finds → (bytes : List ℕ) (place : Option LineMark) (read : Piece) → read ≡ fitted (piece_at bytes).0 → place ≡ fitted_line (piece_at bytes).1
    → (StandsAt bytes place read → ⊥) → (piece : Piece) → BeginsWithPiece bytes piece → ⊥
no_other_stands finds bytes place read piece_is place_is refused piece stands =
    let found = finds bytes piece stands in
    let same = piece_is ∙ fitted-valid (piece_at bytes).0 found.0 in
    let there = place_is ∙ fitted_line-fits (piece_at bytes).1 found.1.line in
    refused (subst (λ (p : Piece). StandsAt bytes place p) (sym same) (subst (λ (mark : Option LineMark). StandsAt bytes mark (piece_at bytes).0) (sym there) found))
