-- That the tables have room for what statements name.
use Rattle.std.proofs.Common.{sym, subst, ℕ, ◌≤◌, List, [], ◌∷◌, length, Option, arith}
use Rattle.std.specs.List.{AllByRecursion}
use Rattle.lx_ccode.specs.declared.piece.CodeBlock.{CodeBlock}
use Rattle.lx_ccode.specs.declared.piece.Stmt.{Stmt}
use Rattle.lx_ccode.specs.Statements.{all_statements}
use Rattle.lx_step.specs.declared.matches.Position.{Position}
use Rattle.lx_step.specs.declared.numbers.Sort.TheVariants.{Register, History}
use Rattle.lx_step.specs.declared.scanner.Scanner.{Scanner}
use Rattle.lx_step.specs.Given.{Given}
use Rattle.lx_step.specs.Numbers.{numbers_of}
use Rattle.lx_step.specs.Places.{StandsAt}
use Rattle.lx_step.specs.Sizes.{groups_of, groups_of_all}
use Rattle.lx_step.specs.Steps.{HasRoomFor, HasTables, IsPlaced}
use Rattle.lx_step.proofs.CountedNumbers.{AreAmong, IsAmong, IsPlaced-among, all-among-from}
use Rattle.lx_step.proofs.Places.{all-stands}

all-groups : (statements : List Stmt) (groups : ℕ) → groups_of_all statements ≤ groups → AllByRecursion (λ statement. groups_of statement ≤ groups) statements
all-groups [] groups h = tt
all-groups (statement ∷ statements) groups h = (omega (arith, h), all-groups statements groups (omega (arith, h)))

pub HasRoomFor-statement : (blocks : List CodeBlock) (at : Position) (statement : Stmt) (scanner : Scanner) (given : Given) → HasTables blocks scanner given
    → StandsAt blocks at statement → HasRoomFor statement scanner given
HasRoomFor-statement blocks at statement scanner given tables stands =
    let registers : AreAmong Register (numbers_of Register blocks) statement =
    all-stands (AreAmong Register (numbers_of Register blocks)) blocks at.block at.stmt at.code.now statement (all-among-from Register (all_statements blocks) []) stands.block stands.stmt in
    let histories : AreAmong History (numbers_of History blocks) statement =
    all-stands (AreAmong History (numbers_of History blocks)) blocks at.block at.stmt at.code.now statement (all-among-from History (all_statements blocks) []) stands.block stands.stmt in
    let groups : groups_of statement ≤ groups_of_all (all_statements blocks) =
    all-stands (λ one. groups_of one ≤ groups_of_all (all_statements blocks)) blocks at.block at.stmt at.code.now statement (all-groups (all_statements blocks) _ (omega arith)) stands.block stands.stmt in
    let register = λ (one : Option ℕ) (h : IsAmong (numbers_of Register blocks) one). subst (λ keys. IsPlaced keys (length scanner.registers.items) one) (sym tables.numbering.registers) (IsPlaced-among (numbers_of Register blocks) (length scanner.registers.items) one tables.registers h) in
    let history = λ (one : Option ℕ) (h : IsAmong (numbers_of History blocks) one). subst (λ keys. IsPlaced keys (length scanner.histories) one) (sym tables.numbering.histories) (IsPlaced-among (numbers_of History blocks) (length scanner.histories) one tables.histories h) in
    record {
      register = register _ registers.first;
      source = register _ registers.second;
      history = history _ histories.first;
      other = history _ histories.second;
      groups = omega (arith, groups, tables.entries);
    }
