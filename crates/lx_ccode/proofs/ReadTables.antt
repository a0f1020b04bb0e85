-- The table of sets is read again.
use Rattle.std.proofs.Common.{[], ◌++◌, ◌+◌, ◌<◌, ◌^◌, ◌∷◌, ◌≡◌, ◌≤◌, ◌*◌, Bool, List, arith, drop, false, length, refl, suc, true, zero, ℕ}
use Rattle.std.specs.Fmt.{decimal}
use Rattle.std.specs.List.{AllByRecursion}
use Rattle.std.specs.Prelude.{◌%◌, ◌==◌, codes, if◌then◌else◌}
use Rattle.lx_base.specs.Letters.{after_letters, is_digit, is_hexadecimal, is_in_type}
use Rattle.lx_base.specs.Names.{Spellings}
use Rattle.lx_base.specs.Text.{joined}
use Rattle.lx_ccode.specs.declared.piece.CodeBlock.{CodeBlock}
use Rattle.lx_ccode.specs.declared.piece.Piece.{Piece}
use Rattle.lx_ccode.specs.declared.piece.Stmt.{Stmt}
use Rattle.lx_ccode.specs.declared.piece.Stmt.TheVariants.{IfSet}
use Rattle.lx_ccode.specs.Counts.{greatest_of, groups_in}
use Rattle.lx_ccode.specs.Statements.{all_statements}
use Rattle.lx_ccode.specs.Reading.{byte_at, cells_at, is_tab, table_at}
use Rattle.lx_ccode.specs.Text.{cells_then, hexadecimal, row_end, row_start, table_then}
use Rattle.lx_ccode.specs.Validity.{EachBlockHasSpelling, EachHasSpelling, HasSpelling, IsByte, IsValid}
use Rattle.lx_ccode.proofs.Greatest.{greatest_of-append}
use Rattle.lx_ccode.proofs.Tails.{joined-length}
use Rattle.lx_ccode.proofs.Words.{behind-stop, decimal_digits, front-stop, hexadecimal_digits, hexadecimal_value}

-- the parts of a byte of the table, where it may be the first or the last one of its row
abbrev parts : (is_first is_last : Bool) (byte : ℕ) → List (List ℕ)
parts is_first is_last byte = row_start is_first ∷ codes "0x" ∷ hexadecimal byte ∷ codes "," ∷ row_end is_last ∷ []

-- what stands behind a byte begins no line feed
abbrev NoFeed : List ℕ → Type 0
NoFeed tail = (byte_at tail 0 == 10) ≡ false

cells_at-cell : (fuel : ℕ) (is_first is_last : Bool) (byte : ℕ) (bytes others tail : List ℕ) → byte < 2 ^ 64 → NoFeed others → cells_at fuel others ≡ (bytes, tail)
    → cells_at (suc fuel) (joined (parts is_first is_last byte) others) ≡ (byte ∷ bytes, tail)
unfolding cells_at
cells_at-cell fuel false false byte bytes others tail h q e =
    rw (front-stop is_hexadecimal (hexadecimal byte) 44 others (hexadecimal_digits byte h) refl, behind-stop is_hexadecimal (hexadecimal byte) 44 others (hexadecimal_digits byte h) refl, hexadecimal_value byte h, q, e) refl
cells_at-cell fuel false true byte bytes others tail h q e =
    rw (front-stop is_hexadecimal (hexadecimal byte) 44 (10 ∷ others) (hexadecimal_digits byte h) refl, behind-stop is_hexadecimal (hexadecimal byte) 44 (10 ∷ others) (hexadecimal_digits byte h) refl, hexadecimal_value byte h, e) refl
cells_at-cell fuel true false byte bytes others tail h q e =
    rw (front-stop is_hexadecimal (hexadecimal byte) 44 others (hexadecimal_digits byte h) refl, behind-stop is_hexadecimal (hexadecimal byte) 44 others (hexadecimal_digits byte h) refl, hexadecimal_value byte h, q, e) refl
cells_at-cell fuel true true byte bytes others tail h q e =
    rw (front-stop is_hexadecimal (hexadecimal byte) 44 (10 ∷ others) (hexadecimal_digits byte h) refl, behind-stop is_hexadecimal (hexadecimal byte) 44 (10 ∷ others) (hexadecimal_digits byte h) refl, hexadecimal_value byte h, e) refl

no_feed-cell : (is_first is_last : Bool) (byte : ℕ) (others : List ℕ) → NoFeed (joined (parts is_first is_last byte) others)
no_feed-cell true is_last byte others = refl
no_feed-cell false is_last byte others = refl

no_feed-cells : (place : ℕ) (bytes tail : List ℕ) → NoFeed tail → NoFeed (cells_then place bytes tail)
no_feed-cells place [] tail q = q
no_feed-cells place (byte ∷ bytes) tail q = no_feed-cell ((place % 16) == 0) ((place % 16) == 15) byte (cells_then (suc place) bytes tail)

cells_at-cells : (fuel place : ℕ) (bytes tail : List ℕ) → AllByRecursion IsByte bytes → length bytes ≤ fuel → NoFeed tail → (byte_at tail 1 == 125) ≡ true
    → cells_at fuel (cells_then place bytes tail) ≡ (bytes, tail)
unfolding cells_at
cells_at-cells zero place [] tail each le q e = refl
cells_at-cells (suc fuel) place [] tail each le q e = rw e refl
cells_at-cells zero place (byte ∷ bytes) tail each le q e = absurd (omega (arith, le))
cells_at-cells (suc fuel) place (byte ∷ bytes) tail each le q e =
    let small : byte < 2 ^ 64 = (let h : byte < 256 = each.0 in omega (arith, h)) in
    cells_at-cell fuel ((place % 16) == 0) ((place % 16) == 15) byte bytes (cells_then (suc place) bytes tail) tail small
    (no_feed-cells (suc place) bytes tail q) (cells_at-cells fuel (suc place) bytes tail each.1 (omega (arith, le)) q e)

-- what stands behind the table
pub record NoTable (tail : List ℕ) : Type 0 where
  pub no_bracket : (if is_tab tail then byte_at (after_letters is_in_type (drop 1 tail)) 0 == 91 else false) ≡ false

pub table_at-table : (fuel : ℕ) (table tail : List ℕ) → AllByRecursion IsByte table → length table ≤ fuel → length table < 2 ^ 64 → NoTable tail
    → table_at fuel (table_then table tail) ≡ (table, tail)
unfolding table_at
table_at-table fuel [] tail each le small none = rw none.no_bracket refl
table_at-table fuel (byte ∷ bytes) tail each le small none =
    let table : List ℕ = byte ∷ bytes in
    let end : List ℕ = codes "\t};\n" ++ tail in
    rw (
      behind-stop is_digit (decimal (length table)) 93 (codes " = {\n" ++ cells_then 0 table end) (decimal_digits (length table) small) refl,
      cells_at-cells fuel 0 table end each le refl refl,
    ) refl

-- ---- lengths

cells_then-length : (place : ℕ) (bytes tail : List ℕ) → length bytes + length tail ≤ length (cells_then place bytes tail)
cells_then-length place [] tail = omega arith
cells_then-length place (byte ∷ bytes) tail =
    let others : List ℕ = cells_then (suc place) bytes tail in
    let rest : length bytes + length tail ≤ length others = cells_then-length (suc place) bytes tail in
    let here = longer ((place % 16) == 0) ((place % 16) == 15) others in
    omega (arith, rest, here)
  where
    longer : (is_first is_last : Bool) (others : List ℕ) → length others < length (joined (parts is_first is_last byte) others)
    longer is_first is_last others = by is_first where
      words : List (List ℕ)
      words = codes "x" ∷ hexadecimal byte ∷ codes "," ∷ row_end is_last ∷ []

      by : (is_first : Bool) → length others < length (joined (parts is_first is_last byte) others)
      by false = (let h : length others ≤ length (joined words others) = joined-length words others in omega (arith, h))
      by true = (let h : length others ≤ length (joined words others) = joined-length words others in omega (arith, h))

pub table_then-length : (table tail : List ℕ) → length table + length tail ≤ length (table_then table tail)
table_then-length [] tail = omega arith
table_then-length (byte ∷ bytes) tail =
    let table : List ℕ = byte ∷ bytes in
    let end : List ℕ = codes "\t};\n" ++ tail in
    let behind : length tail ≤ length end = joined-length (codes "\t};\n" ∷ []) tail in
    let cells : length table + length end ≤ length (cells_then 0 table end) = cells_then-length 0 table end in
    let whole : length (cells_then 0 table end) ≤ length (table_then table tail) =
    joined-length (codes "\tstatic const unsigned char yybm[" ∷ decimal (length table) ∷ codes "] = {\n" ∷ []) (cells_then 0 table end) in
    omega (arith, behind, cells, whole)

-- ---- the size of a table

groups_in-below : (names : Spellings) (statement : Stmt) → HasSpelling names statement → groups_in statement ≤ 536870912
groups_in-below names (IfSet set block) spelled = (let short = spelled.0 in omega (arith, short))
groups_in-below names _ spelled = omega arith

statements-below : (names : Spellings) (statements : List Stmt) → EachHasSpelling names statements → greatest_of groups_in statements ≤ 536870912
statements-below names [] spelled = omega arith
statements-below names (statement ∷ statements) spelled =
    let here = groups_in-below names statement spelled.0 in
    let rest = statements-below names statements spelled.1 in
    omega (arith, here, rest)

blocks-below : (names : Spellings) (blocks : List CodeBlock) → EachBlockHasSpelling names blocks → greatest_of groups_in (all_statements blocks) ≤ 536870912
blocks-below names [] spelled = omega arith
blocks-below names (block ∷ blocks) spelled =
    let here = statements-below names block.stmts spelled.0.2 in
    let rest = blocks-below names blocks spelled.1 in
    let both = greatest_of-append groups_in block.stmts (all_statements blocks) in
    omega (arith, here, rest, both)

-- the size of a valid piece's table can be written
pub table_is_small : (piece : Piece) → IsValid piece → length piece.table < 2 ^ 64
table_is_small piece valid =
    let few = blocks-below piece.names piece.blocks valid.spelled in
    let size : length piece.table ≡ 256 * greatest_of groups_in (all_statements piece.blocks) = valid.table in
    omega (arith, few, size)
