-- Lexers that are saved, and that go on.
use Rattle.std.proofs.Common.{◌≡◌, ◌∙◌, sym, ap, subst, refl, ℕ, zero, suc, ◌<◌, max, Bool, true, false, List, [], ◌∷◌, length, map, Option, Some, None, IfSome, arith}
use Rattle.std.specs.List.{AllByRecursion, list_any}
use Rattle.lx_base.specs.Letters.{equal_words}
use Rattle.lx_base.specs.Names.{AreDistinct, IsNoneOf}
use Rattle.lx_ccode.proofs.Words.{equal_words-self, equal_words-true}
use Rattle.lx_ccode.specs.declared.piece.CondCase.{CondCase}
use Rattle.lx_ccode.specs.declared.piece.Piece.{Piece}
use Rattle.lx_ccode.specs.declared.piece.StateCase.{StateCase}
use Rattle.lx_ccode.specs.Statements.{all_statements, statement_count}
use Rattle.lx_ccode.specs.States.{stores}
use Rattle.lx_ccode.specs.Validity.{IsValid}
use Rattle.lx_step.specs.declared.answers.StmtAt.{StmtAt}
use Rattle.lx_step.specs.declared.firsts.First.{First}
use Rattle.lx_step.specs.declared.matches.Program.{Program}
use Rattle.lx_step.specs.declared.numbers.Numbering.{Numbering}
use Rattle.lx_step.specs.declared.saved.Counts.{Counts}
use Rattle.lx_step.specs.declared.scanner.Scanner.{Scanner}
use Rattle.lx_step.specs.declared.tags.TagTable.{TagTable}
use Rattle.lx_step.specs.Conds.{IsCond, cond_name, cond_number}
use Rattle.lx_step.specs.Firsts.{AreFirsts}
use Rattle.lx_step.specs.Given.{Given}
use Rattle.lx_step.specs.Left.{IsFrom, IsReturnOf, Left, left_of}
use Rattle.lx_step.specs.LexerParts.{IsLexerOf, IsSaved}
use Rattle.lx_step.specs.Numbers.{IsNumberingOf}
use Rattle.lx_step.specs.Places.{places_from}
use Rattle.lx_step.specs.Saved.{Fits, IsAssignmentAt, Kept, counts_of}
use Rattle.lx_step.specs.Tags.{AreTags, tag_names}
use Rattle.lx_step.proofs.AssignmentPlaces.{all-StaysIn, among-all}
use Rattle.lx_step.proofs.Soundness.{IsProgram-valid}

-- ---- saved

-- the state of a match that was left
state-left : (P : ℕ → Type 0) (scanner : Scanner) (steps : ℕ) → IfSome scanner.state P → IfSome (left_of scanner steps) (λ left. P left.state)
state-left P scanner steps h = by scanner.state h where
  by : (state : Option ℕ) → IfSome state P → IfSome (left_of (record scanner { state = state }) steps) (λ left. P left.state)
  by None h = tt
  by (Some state) h = h

left-state : (P : ℕ → Type 0) (scanner : Scanner) (steps : ℕ) → IfSome (left_of scanner steps) (λ left. P left.state) → IfSome scanner.state P
left-state P scanner steps h = by scanner.state h where
  by : (state : Option ℕ) → IfSome (left_of (record scanner { state = state }) steps) (λ left. P left.state) → IfSome state P
  by None h = tt
  by (Some state) h = h

-- a lexer fits its own piece
pub Fits-own : (program : Program) (start steps conds : ℕ) (scanner : Scanner) (given : Given) (table : TagTable) (assigned : List StmtAt) (firsts : List First) (room : ℕ) (known : Option StateCase) (kept : Kept)
    → IsLexerOf program start scanner given table assigned firsts room known → conds ≡ length program.piece.now.conds
    → kept.counts ≡ record {
      registers = length scanner.registers.items;
      histories = length scanner.histories;
      conds = conds;
      tags = length given.offsets;
      groups = length given.entries;
      assignments = program.assignments;
    }
    → kept.assigned ≡ assigned → kept.left ≡ left_of scanner steps → Fits program.piece.now kept
Fits-own program start steps conds scanner given table assigned firsts room known kept lexer many counts places left = record {
  counts =
      let registers = lexer.tables.registers in
      let histories = lexer.tables.histories in
      let tags = lexer.tables.offsets in
      let groups = lexer.tables.entries in
      let assignments = lexer.runs.assignments in
      counts ∙ (let same : record { registers = length scanner.registers.items; histories = length scanner.histories; conds = conds; tags = length given.offsets; groups = length given.entries; assignments = program.assignments } ≡ counts_of program.piece.now = cc in same);
  places = subst (AllByRecursion (IsAssignmentAt program.piece.now.blocks)) (sym places) (all-StaysIn program.piece.now.blocks assigned lexer.within.among);
  state =
      subst (λ (left : Option Left). IfSome left (λ one. list_any (stores one.state) (all_statements program.piece.now.blocks) ≡ true)) (sym left)
      (state-left (λ one. list_any (stores one) (all_statements program.piece.now.blocks) ≡ true) scanner steps lexer.state);
}

-- ---- going on

none_of : (cond : List ℕ) (cases : List CondCase) → IsNoneOf cond (map (λ (case : CondCase). case.cond) cases) → (number : ℕ) → number < length cases → equal_words cond (cond_name cases number) ≡ false
none_of cond [] none number h = absurd (omega (arith, h))
none_of cond (case ∷ cases) none zero h = by (equal_words cond case.cond) refl where
  by : (same : Bool) → equal_words cond case.cond ≡ same → equal_words cond case.cond ≡ false
  by true is = absurd (none.0 (equal_words-true cond case.cond is))
  by false is = is
none_of cond (case ∷ cases) none (suc number) h = none_of cond cases none.1 number (omega (arith, h))

cond_number-distinct : (conds : List CondCase) (number : ℕ) → AreDistinct (map (λ (case : CondCase). case.cond) conds) → number < length conds → cond_number conds (cond_name conds number) ≡ number
cond_number-distinct [] number distinct h = absurd (omega (arith, h))
cond_number-distinct (case ∷ cases) zero distinct h = rw (equal_words-self case.cond) refl
cond_number-distinct (case ∷ cases) (suc number) distinct h =
    let below : number < length cases = omega (arith, h) in
    rw (none_of case.cond cases distinct.0 number below) (ap suc (cond_number-distinct cases number distinct.1 below))

-- where conditions differ, each number is that of a condition
IsCond-distinct : (conds : List CondCase) (number : ℕ) → AreDistinct (map (λ (case : CondCase). case.cond) conds) → number < max (length conds) 1 → IsCond conds number
IsCond-distinct [] number distinct h = record { within = h; first = let none : 0 ≡ number = omega (arith, h) in none }
IsCond-distinct (case ∷ cases) number distinct h = record { within = h; first = cond_number-distinct (case ∷ cases) number distinct (omega (arith, h)) }

pub IsLexerOf-resumed : (program : Program) (start steps conds assignments : ℕ) (before : TagTable) (noted : List First) (scanner : Scanner) (numbering : Numbering) (given : Given) (table : TagTable) (assigned : List StmtAt) (firsts : List First) (room : ℕ) (known : Option StateCase) (kept : Kept)
    → IsValid program.piece.now → program.statements ≡ statement_count program.piece.now.blocks → program.assignments ≡ assignments
    → IsSaved conds assignments start before scanner given assigned noted room → Fits program.piece.now kept
    → kept.counts ≡ record {
      registers = length scanner.registers.items;
      histories = length scanner.histories;
      conds = conds;
      tags = length given.offsets;
      groups = length given.entries;
      assignments = assignments;
    }
    → kept.assigned ≡ assigned → kept.left ≡ left_of scanner steps → IsNumberingOf program.piece.now.blocks numbering → AreTags program.piece.now.blocks table → AreFirsts program.piece.now.blocks assigned firsts
    → IsReturnOf program.piece.now.blocks known → IsLexerOf program start (record scanner { numbering = numbering }) given table assigned firsts room known
IsLexerOf-resumed program start steps conds assignments before noted scanner numbering given table assigned firsts room known kept valid statements own saved fits counts places left numbered tags notes returns =
    let piece : Piece = program.piece.now in
    let same = sym counts ∙ fits.counts in
    let many : assignments ≡ length (places_from 0 piece.blocks) = ap (λ (one : Counts). one.assignments) same in
    let all : AllByRecursion (IsAssignmentAt piece.blocks) assigned = subst (AllByRecursion (IsAssignmentAt piece.blocks)) places fits.places in
    let offsets : length given.offsets ≡ length (tag_names piece.blocks) = ap (λ (one : Counts). one.tags) same in
    record {
      runs = IsProgram-valid program valid statements (own ∙ many);
      tables = record {
        numbering = numbered;
        registers = ap (λ (one : Counts). one.registers) same;
        histories = ap (λ (one : Counts). one.histories) same;
        offsets = offsets;
        tag_histories = saved.tag_histories ∙ offsets;
        entries = ap (λ (one : Counts). one.groups) same;
      };
      cond =
          let cases : conds ≡ length piece.conds = ap (λ (one : Counts). one.conds) same in
          IsCond-distinct piece.conds scanner.cond (subst AreDistinct (sym valid.conds) valid.conds_differ) (let within = saved.cond in omega (arith, within, cases));
      named = tags;
      places = let roomy = saved.places in omega (arith, many, roomy);
      noted = notes;
      within = record { distinct = saved.distinct; among = among-all piece.blocks assigned all };
      state =
          left-state (λ one. list_any (stores one) (all_statements piece.blocks) ≡ true) scanner steps
          (subst (λ (left : Option Left). IfSome left (λ one. list_any (stores one.state) (all_statements piece.blocks) ≡ true)) left fits.state);
      left = renumbered scanner.state saved.left;
      returns = returns;
    }
  where
    renumbered : (state : Option ℕ) → IfSome state (λ one. IsFrom start scanner) → IfSome state (λ one. IsFrom start (record scanner { numbering = numbering }))
    renumbered None h = tt
    renumbered (Some state) h = record { cursor = h.cursor; marker = h.marker; registers = h.registers }
