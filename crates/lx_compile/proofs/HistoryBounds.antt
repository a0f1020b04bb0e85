-- The numbers of histories of pieces that can be printed are below 2^32.
use Rattle.std.proofs.Common.{◌≤◌, ◌^◌, true, false, List, [], ◌∷◌, arith}
use Rattle.std.specs.List.{All}
use Rattle.std.proofs.lemmas.List.Elements.{All-head, All-tail}
use Rattle.lx_base.specs.Names.{Spellings}
use Rattle.lx_ccode.specs.Counts.{greatest_of, history_in, mregs_of}
use Rattle.lx_ccode.specs.Statements.{all_statements}
use Rattle.lx_ccode.specs.Validity.{EachBlockHasSpelling, EachHasSpelling, HasSpelling}
use Rattle.lx_ccode.specs.declared.piece.CodeBlock.{CodeBlock}
use Rattle.lx_ccode.specs.declared.piece.Stmt.{Stmt}
use Rattle.lx_ccode.specs.declared.piece.Stmt.TheVariants.{Peek, Skip, Backup, Restore, Accept, Set, Unset, Copy, MSet, MUnset, MCopy, IfUnit, IfIs, IfSet, IfAccept, IfEnd, State, Need, Try, Cond, Tag, Count, End, Back, Switch, Goto, Leave, Code, Jump}
use Rattle.lx_ccode.proofs.Greatest.{greatest_of-append}
use Rattle.lx_compile.specs.Facts.{history_count, pieces_among}
use Rattle.lx_compile.specs.Writing.{IsPrintable}
use Rattle.lx_compile.specs.declared.made.Made.{Made}
use Rattle.lx_compile.specs.declared.made.Made.TheVariants.{Outside, Scanners, Bare}

history_in-bound : (names : Spellings) (statement : Stmt) → HasSpelling names statement → history_in statement ≤ 2 ^ 32
history_in-bound names (MSet history) spelled = omega arith
history_in-bound names (MUnset history) spelled = omega arith
history_in-bound names (MCopy history source) spelled = omega (arith, spelled.0, spelled.1)
history_in-bound names (Tag tag true history) spelled = omega (arith, spelled.1)
history_in-bound names (Tag tag false register) spelled = omega arith
history_in-bound names Peek spelled = omega arith
history_in-bound names Skip spelled = omega arith
history_in-bound names Backup spelled = omega arith
history_in-bound names Restore spelled = omega arith
history_in-bound names (Accept accept) spelled = omega arith
history_in-bound names (Set register) spelled = omega arith
history_in-bound names (Unset register) spelled = omega arith
history_in-bound names (Copy register source) spelled = omega arith
history_in-bound names (IfUnit greatest block) spelled = omega arith
history_in-bound names (IfIs unit block) spelled = omega arith
history_in-bound names (IfSet set block) spelled = omega arith
history_in-bound names (IfAccept accept block) spelled = omega arith
history_in-bound names (IfEnd block) spelled = omega arith
history_in-bound names (State state) spelled = omega arith
history_in-bound names (Need units) spelled = omega arith
history_in-bound names (Try block) spelled = omega arith
history_in-bound names (Cond cond) spelled = omega arith
history_in-bound names (Count groups) spelled = omega arith
history_in-bound names (End place register) spelled = omega arith
history_in-bound names (Back register) spelled = omega arith
history_in-bound names (Switch cases last) spelled = omega arith
history_in-bound names (Goto block) spelled = omega arith
history_in-bound names Leave spelled = omega arith
history_in-bound names (Code rule line action) spelled = omega arith
history_in-bound names (Jump cond rule) spelled = omega arith

greatest_of-bound : (names : Spellings) (statements : List Stmt) → EachHasSpelling names statements
    → greatest_of history_in statements ≤ 2 ^ 32
greatest_of-bound names [] spelled = omega arith
greatest_of-bound names (statement ∷ statements) spelled =
    let first = history_in-bound names statement spelled.0 in
    let rest = greatest_of-bound names statements spelled.1 in
    omega (arith, first, rest)

mregs_of-bound : (names : Spellings) (blocks : List CodeBlock) → EachBlockHasSpelling names blocks → mregs_of blocks ≤ 2 ^ 32
mregs_of-bound names [] spelled = omega arith
mregs_of-bound names (block ∷ blocks) spelled =
    let first = greatest_of-bound names block.stmts spelled.0.2 in
    let rest = mregs_of-bound names blocks spelled.1 in
    let parts = greatest_of-append history_in block.stmts (all_statements blocks) in
    omega (arith, first, rest, parts)

pub history_count-bound : (made : List Made) → All IsPrintable made → history_count (pieces_among made) ≤ 2 ^ 32
history_count-bound [] valid = omega arith
history_count-bound (Outside text ∷ made) valid = history_count-bound made (All-tail IsPrintable (Outside text) made valid)
history_count-bound (Bare at line directive ∷ made) valid =
    history_count-bound made (All-tail IsPrintable (Bare at line directive) made valid)
history_count-bound (Scanners piece checks warnings cover groups ∷ made) valid =
    let printable = All-head IsPrintable (Scanners piece checks warnings cover groups) made valid in
    let first = mregs_of-bound piece.names piece.blocks printable.spelled in
    let rest = history_count-bound made (All-tail IsPrintable (Scanners piece checks warnings cover groups) made valid) in
    omega (arith, first, rest)
