-- What holds of lexers at first, and what they hold by their parts.
use Rattle.std.proofs.Common.{◌≡◌, ◌∙◌, sym, ap, subst, refl, ℕ, ◌<◌, ◌≤◌, Bool, false, List, [], ◌∷◌, length, Option, None, IfSome, arith}
use Rattle.std.specs.List.{AllByRecursion}
use Rattle.std.proofs.lemmas.List.{length-map, length-replicate}
use Rattle.lx_ccode.specs.declared.piece.CodeBlock.{CodeBlock}
use Rattle.lx_ccode.specs.declared.piece.CondCase.{CondCase}
use Rattle.lx_ccode.specs.declared.piece.Piece.{Piece}
use Rattle.lx_ccode.specs.declared.piece.StateCase.{StateCase}
use Rattle.lx_ccode.specs.Statements.{all_statements, statement_count}
use Rattle.lx_ccode.specs.Validity.{EachBlockHasSpelling, IsValid, NamesOneOf}
use Rattle.lx_step.specs.declared.answers.StmtAt.{StmtAt}
use Rattle.lx_step.specs.declared.firsts.First.{First}
use Rattle.lx_step.specs.declared.matches.Program.{Program}
use Rattle.lx_step.specs.declared.numbers.Numbering.{Numbering}
use Rattle.lx_step.specs.declared.scanner.Scanner.{Scanner}
use Rattle.lx_step.specs.declared.tags.TagTable.{TagTable}
use Rattle.lx_step.specs.Conds.{IsCond, cond_name}
use Rattle.lx_step.specs.Firsts.{AreFirsts}
use Rattle.lx_step.specs.Given.{Given, nothing_given}
use Rattle.lx_step.specs.Held.{Held, first_cond, fresh}
use Rattle.lx_step.specs.Left.{IsFrom, IsReturnOf, IsStored, Left, left_of}
use Rattle.lx_step.specs.LexerParts.{IsLexerOf, IsProgram}
use Rattle.lx_step.specs.Matches.{condition_of}
use Rattle.lx_step.specs.Numbers.{IsNumberingOf}
use Rattle.lx_step.specs.Places.{places_from}
use Rattle.lx_step.specs.Sizes.{groups_of_all}
use Rattle.lx_step.specs.Steps.{HasTables}
use Rattle.lx_step.specs.Tags.{AreTags, tag_names, told_name}
use Rattle.lx_step.proofs.CondNumbers.{IsCond-zero}
use Rattle.lx_step.proofs.Places.{StaysIn-none, length-places_from}

-- ---- a program

statements-some : (names : _) (blocks : List CodeBlock) → 0 < length blocks → EachBlockHasSpelling names blocks → 0 < statement_count blocks
statements-some names [] some spelled = absurd (omega (arith, some))
statements-some names (block ∷ blocks) some spelled = let first = spelled.0.0 in omega (arith, first)

pub IsProgram-valid : (program : Program) → IsValid program.piece.now → program.statements ≡ statement_count program.piece.now.blocks
    → program.assignments ≡ length (places_from 0 program.piece.now.blocks) → IsProgram program
IsProgram-valid program valid count assignments =
    let piece : Piece = program.piece.now in
    let some : 0 < statement_count piece.blocks = statements-some piece.names piece.blocks valid.blocks valid.spelled in
    record {
      statements = count;
      some = omega (arith, count, some);
      few = omega (arith, count, valid.statements);
      unit = valid.unit;
      conds = subst (λ (conds : List (List ℕ)). AllByRecursion (NamesOneOf conds) (all_statements piece.blocks)) (sym valid.conds) valid.conds_named;
      assignments = assignments;
      states = valid.states_differ;
    }

-- ---- a fresh lexer

-- what was given is nothing, and the tables are those of the blocks
pub record FreshTables (blocks : List CodeBlock) (scanner : Scanner) (given : Given) : Type 0 where
  pub nothing : given ≡ nothing_given (tag_names blocks) (groups_of_all (all_statements blocks))
  pub tables : HasTables blocks scanner given

pub HasTables-fresh : (blocks : List CodeBlock) (scanner : Scanner) (given : Given) (numbering : Numbering) (table : TagTable) (count groups : ℕ) → IsNumberingOf blocks numbering → scanner.numbering ≡ numbering
    → length scanner.registers.items ≡ length numbering.registers.keys → length scanner.histories ≡ length numbering.histories.keys
    → AreTags blocks table → count ≡ length table.tags.items → groups ≡ groups_of_all (all_statements blocks)
    → ((names : List (List ℕ)) → length names ≡ count → given ≡ nothing_given names groups) → FreshTables blocks scanner given
HasTables-fresh blocks scanner given numbering table count groups numbers same registers histories tags many most nothing =
    let tagged : length (tag_names blocks) ≡ count = ap length (sym tags.listed.named) ∙ length-map table.tags.items (told_name blocks) ∙ sym many in
    let is : given ≡ nothing_given (tag_names blocks) groups = nothing (tag_names blocks) tagged in
    record {
      nothing = is ∙ ap (nothing_given (tag_names blocks)) most;
      tables = record {
        numbering = record {
          registers = ap (λ (one : Numbering). one.registers.keys) same ∙ numbers.registers;
          histories = ap (λ (one : Numbering). one.histories.keys) same ∙ numbers.histories;
        };
        registers = registers ∙ ap length numbers.registers;
        histories = histories ∙ ap length numbers.histories;
        offsets = ap (λ (one : Given). length one.offsets) is ∙ length-replicate (length (tag_names blocks)) _;
        tag_histories = ap (λ (one : Given). length one.histories) is ∙ length-replicate (length (tag_names blocks)) _;
        entries = ap (λ (one : Given). length one.entries) is ∙ length-replicate groups _ ∙ most;
      };
    }

pub IsLexerOf-fresh : (program : Program) (start : ℕ) (scanner : Scanner) (given : Given) (table : TagTable) (assigned : List StmtAt) (firsts : List First) (room : ℕ) (known : Option StateCase) → IsProgram program → HasTables program.piece.now.blocks scanner given
    → scanner.cond ≡ 0 → scanner.state ≡ None → AreTags program.piece.now.blocks table → assigned ≡ [] → length firsts ≡ length table.tags.items → program.statements ≤ room → known ≡ None → IsLexerOf program start scanner given table assigned firsts room known
IsLexerOf-fresh program start scanner given table assigned firsts room known runs tables cond state tags none many roomy unknown = record {
  runs = runs;
  tables = tables;
  cond = subst (IsCond program.piece.now.conds) (sym cond) (IsCond-zero program.piece.now.conds);
  named = tags;
  places = let statements = runs.statements in omega (arith, length-places_from 0 program.piece.now.blocks, statements, roomy);
  within = StaysIn-none program.piece.now.blocks assigned none;
  noted = subst (λ places. AreFirsts program.piece.now.blocks places firsts) (sym none) (record {
    many = many ∙ sym (length-map table.tags.items (told_name program.piece.now.blocks)) ∙ ap length tags.listed.named;
    each = λ number h history. tt;
  });
  state = subst (IsStored program.piece.now.blocks) (sym state) tt;
  left = subst (λ (state : Option ℕ). IfSome state (λ one. IsFrom start scanner)) (sym state) tt;
  returns = subst (IsReturnOf program.piece.now.blocks) (sym unknown) tt;
}

-- what is held of the parts
abbrev pub held_of : Piece → Bool → (start steps : ℕ) → Scanner → Given → List StmtAt → Held
held_of piece spent start steps scanner given assigned = record {
  piece = piece;
  spent = spent;
  start = start;
  cursor = scanner.cursor;
  cond = condition_of piece scanner;
  given = given;
  assigned = assigned;
  left = left_of scanner steps;
}

first_cond-name : (conds : List CondCase) → cond_name conds 0 ≡ first_cond conds
first_cond-name [] = refl
first_cond-name (case ∷ cases) = refl

none_left : (scanner : Scanner) → scanner.state ≡ None → left_of scanner 0 ≡ None
none_left scanner state = rw state refl

-- the fresh lexer of these parts
pub fresh-is : (piece : Piece) (scanner : Scanner) (given : Given) (assigned : List StmtAt) → scanner.cursor ≡ 0 → scanner.cond ≡ 0 → scanner.state ≡ None → assigned ≡ [] → FreshTables piece.blocks scanner given
    → held_of piece false 0 0 scanner given assigned ≡ fresh piece
fresh-is piece scanner given assigned cursor cond state none tables =
    let held : Option Left → ℕ → List ℕ → Given → List StmtAt → Held = λ left cursor cond given assigned.
    record { piece = piece; spent = false; start = 0; cursor = cursor; cond = cond; given = given; assigned = assigned; left = left } in
    ap (λ left. held left scanner.cursor (condition_of piece scanner) given assigned) (none_left scanner state)
    ∙ ap (λ cursor. held None cursor (condition_of piece scanner) given assigned) cursor
    ∙ ap (λ cond. held None 0 cond given assigned) (ap (cond_name piece.conds) cond ∙ first_cond-name piece.conds)
    ∙ ap (λ given. held None 0 (first_cond piece.conds) given assigned) tables.nothing
    ∙ ap (held None 0 (first_cond piece.conds) (nothing_given (tag_names piece.blocks) (groups_of_all (all_statements piece.blocks)))) none
