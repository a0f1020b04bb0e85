-- The rules of a valid piece, from its groups of rules and back; and a valid piece's numbers stay as they are.
use Rattle.std.proofs.Common.{◌≡◌, ◌↔◌, ℕ, Bool, IsTrue, true, List, [], ◌∷◌, ◌++◌, length, map, Some, sym, subst}
use Rattle.std.specs.Prelude.{IfSome}
use Rattle.std.specs.List.{AllByRecursion}
use Rattle.lx_base.specs.Letters.{IsIdentifier}
use Rattle.lx_base.specs.Names.{AreDistinct, Spellings}
use Rattle.lx_ccode.specs.declared.piece.CodeBlock.{CodeBlock}
use Rattle.lx_ccode.specs.declared.piece.CondCase.{CondCase}
use Rattle.lx_ccode.specs.declared.piece.Piece.{Piece}
use Rattle.lx_ccode.specs.declared.piece.Stmt.{Stmt}
use Rattle.lx_ccode.specs.Agreement.{Agrees}
use Rattle.lx_ccode.specs.States.{states_from}
use Rattle.lx_ccode.specs.Statements.{all_statements}
use Rattle.lx_ccode.specs.Validity.{AreOnce, EachBlockHasSpelling, EachHasSpelling, HasFewGroups, IsLong, IsStateSwitch, IsValid, JumpsBelow, NamesOneOf, ends_once, label_of, refills_after_states}
use Rattle.lx_creader.specs.ValidParts.{IsValidBlock, IsValidCase, IsValidStatement, KeepCondRules, KeepsBlockRules, KeepsFormatRules, KeepsHeadRules, KeepsKindRules}

all_map : {A : Type 0} {P Q : A → Type 0} → ((x : A) → P x → Q x) → (xs : List A) → AllByRecursion P xs → AllByRecursion Q xs
all_map f [] all = tt
all_map f (x ∷ xs) all = (f x all.0, all_map f xs all.1)

all_append : {A : Type 0} (P : A → Type 0) (xs ys : List A) → AllByRecursion P xs → AllByRecursion P ys → AllByRecursion P (xs ++ ys)
all_append P [] ys front back = back
all_append P (x ∷ xs) ys front back = (front.0, all_append P xs ys front.1 back)

all_front : {A : Type 0} (P : A → Type 0) (xs ys : List A) → AllByRecursion P (xs ++ ys) → AllByRecursion P xs
all_front P [] ys all = tt
all_front P (x ∷ xs) ys all = (all.0, all_front P xs ys all.1)

all_back : {A : Type 0} (P : A → Type 0) (xs ys : List A) → AllByRecursion P (xs ++ ys) → AllByRecursion P ys
all_back P [] ys all = all
all_back P (x ∷ xs) ys all = all_back P xs ys all.1

-- what holds of the statements of valid blocks
of_statements : {P : Stmt → Type 0} (names : Spellings) (conds : List (List ℕ)) (count : ℕ) → ((s : Stmt) → IsValidStatement names conds count s → P s)
    → (blocks : List CodeBlock) → AllByRecursion (IsValidBlock names conds count) blocks → AllByRecursion P (all_statements blocks)
of_statements names conds count f [] valid = tt
of_statements {P = P} names conds count f (block ∷ blocks) valid =
    all_append P block.stmts (all_statements blocks) (all_map f block.stmts valid.0.statements) (of_statements names conds count f blocks valid.1)

each_spelled : (names : Spellings) (conds : List (List ℕ)) (count : ℕ) (statements : List Stmt) → AllByRecursion (IsValidStatement names conds count) statements → EachHasSpelling names statements
each_spelled names conds count [] valid = tt
each_spelled names conds count (s ∷ statements) valid = (valid.0.spelled, each_spelled names conds count statements valid.1)

blocks_spelled : (names : Spellings) (conds : List (List ℕ)) (count : ℕ) (blocks : List CodeBlock) → AllByRecursion (IsValidBlock names conds count) blocks → EachBlockHasSpelling names blocks
blocks_spelled names conds count [] valid = tt
blocks_spelled names conds count (block ∷ blocks) valid =
    ((valid.0.some, valid.0.label, each_spelled names conds count block.stmts valid.0.statements), blocks_spelled names conds count blocks valid.1)

fine_statements : (names : Spellings) (conds : List (List ℕ)) (count : ℕ) (statements : List Stmt) → AllByRecursion (JumpsBelow count) statements
    → AllByRecursion (NamesOneOf conds) statements → AllByRecursion HasFewGroups statements → EachHasSpelling names statements → AllByRecursion (IsValidStatement names conds count) statements
fine_statements names conds count [] jumps named groups spelled = tt
fine_statements names conds count (s ∷ statements) jumps named groups spelled =
    (record { jumps = jumps.0; named = named.0; groups = groups.0; spelled = spelled.0 }, fine_statements names conds count statements jumps.1 named.1 groups.1 spelled.1)

fine_blocks : (names : Spellings) (conds : List (List ℕ)) (count : ℕ) (blocks : List CodeBlock) → AllByRecursion (JumpsBelow count) (all_statements blocks)
    → AllByRecursion (NamesOneOf conds) (all_statements blocks) → AllByRecursion HasFewGroups (all_statements blocks) → EachBlockHasSpelling names blocks
    → AllByRecursion (λ (block : CodeBlock). ends_once block.stmts ≡ true) blocks → AllByRecursion (λ (block : CodeBlock). refills_after_states block.stmts ≡ true) blocks
    → AllByRecursion (IsValidBlock names conds count) blocks
fine_blocks names conds count [] jumps named groups spelled ends after = tt
fine_blocks names conds count (block ∷ blocks) jumps named groups spelled ends after =
    let rest = all_statements blocks in (
      record {
        some = spelled.0.0;
        label = spelled.0.1;
        ends = ends.0;
        after_states = after.0;
        statements = fine_statements names conds count block.stmts (all_front (JumpsBelow count) block.stmts rest jumps) (all_front (NamesOneOf conds) block.stmts rest named)
            (all_front HasFewGroups block.stmts rest groups) spelled.0.2;
      },
      fine_blocks names conds count blocks (all_back (JumpsBelow count) block.stmts rest jumps) (all_back (NamesOneOf conds) block.stmts rest named)
          (all_back HasFewGroups block.stmts rest groups) spelled.1 ends.1 after.1,
    )

fine_conds : (blocks : List CodeBlock) (conds : List CondCase) → AllByRecursion (λ (case : CondCase). IsIdentifier case.cond × IsLong case.block) conds
    → AllByRecursion (λ (case : CondCase). label_of blocks case.block ≡ Some case.cond) conds → AllByRecursion (IsValidCase blocks) conds
fine_conds blocks [] range starts = tt
fine_conds blocks (case ∷ conds) range starts =
    (record { identifier = range.0.0; long = range.0.1; start = starts.0 }, fine_conds blocks conds range.1 starts.1)

abbrev pub names_of : List CondCase → List (List ℕ)
names_of conds = map (λ case. case.cond) conds

pub IsValid-from : (piece : Piece) → AreOnce (states_from 0 piece.blocks) → IfSome piece.states (IsStateSwitch piece.blocks) → KeepsHeadRules piece
    → KeepCondRules piece.blocks piece.conds → KeepsBlockRules piece.names (names_of piece.conds) piece.blocks → KeepsKindRules piece.ctx piece.blocks
    → IfSome piece.head (Agrees piece) → KeepsFormatRules piece → IsValid piece
IsValid-from piece once switch head conds valid kinds agrees formats =
    let names = piece.names in
    let words = names_of piece.conds in
    let count = length piece.blocks in
    record {
      range = record {
        number = head.number;
        line = head.line;
        states = head.states;
        conds = all_map {P = IsValidCase piece.blocks} (λ case valid. (valid.identifier, valid.long)) piece.conds conds.valid;
        head = head.head;
        table = head.table;
      };
      unit = head.unit.size;
      eof = head.unit.fits;
      blocks = valid.some;
      statements = valid.countable;
      jumps = of_statements names words count (λ s valid. valid.jumps) piece.blocks valid.valid;
      ends = all_map {P = IsValidBlock names words count} (λ block valid. valid.ends) piece.blocks valid.valid;
      one_refill = kinds.one_refill;
      states_differ = once;
      after_states = all_map {P = IsValidBlock names words count} (λ block valid. valid.after_states) piece.blocks valid.valid;
      before_refills = kinds.before_refills;
      next_block = kinds.next_block;
      state_switch = switch;
      conds = conds.labels;
      conds_differ = subst (λ (l : List (List ℕ)). AreDistinct l) conds.labels conds.differ;
      cond_switch = all_map {P = IsValidCase piece.blocks} (λ case valid. valid.start) piece.conds conds.valid;
      conds_named = subst (λ (l : List (List ℕ)). AllByRecursion (NamesOneOf l) (all_statements piece.blocks)) conds.labels (of_statements names words count (λ s valid. valid.named) piece.blocks valid.valid);
      groups = of_statements names words count (λ s valid. valid.groups) piece.blocks valid.valid;
      ctx = kinds.context;
      names = head.names;
      names_differ = head.names_differ;
      no_primitive = head.no_primitive;
      of_three = formats.of_three;
      switches = formats.switches;
      table = formats.table;
      no_table = formats.no_table;
      no_table_tag = formats.no_table_tag;
      no_block_label = formats.no_block_label;
      head = agrees;
      spelled = blocks_spelled names words count piece.blocks valid.valid;
    }

pub head_of : (piece : Piece) → IsValid piece → KeepsHeadRules piece
head_of piece valid = record {
  number = valid.range.number;
  line = valid.range.line;
  states = valid.range.states;
  unit = record { size = valid.unit; fits = valid.eof };
  names = valid.names;
  names_differ = valid.names_differ;
  no_primitive = valid.no_primitive;
  head = valid.range.head;
  table = valid.range.table;
}

pub conds_of : (piece : Piece) → IsValid piece → KeepCondRules piece.blocks piece.conds
conds_of piece valid = record {
  labels = valid.conds;
  differ = subst (λ (l : List (List ℕ)). AreDistinct l) (sym valid.conds) valid.conds_differ;
  valid = fine_conds piece.blocks piece.conds valid.range.conds valid.cond_switch;
}

pub blocks_of : (piece : Piece) → IsValid piece → KeepsBlockRules piece.names (names_of piece.conds) piece.blocks
blocks_of piece valid = record {
  some = valid.blocks;
  countable = valid.statements;
  valid = fine_blocks piece.names (names_of piece.conds) (length piece.blocks) piece.blocks valid.jumps
      (subst (λ (l : List (List ℕ)). AllByRecursion (NamesOneOf l) (all_statements piece.blocks)) (sym valid.conds) valid.conds_named) valid.groups valid.spelled valid.ends valid.after_states;
}

pub kinds_of : (piece : Piece) → IsValid piece → KeepsKindRules piece.ctx piece.blocks
kinds_of piece valid = record { one_refill = valid.one_refill; before_refills = valid.before_refills; next_block = valid.next_block; context = valid.ctx }

pub formats_of : (piece : Piece) → IsValid piece → KeepsFormatRules piece
formats_of piece valid = record {
  of_three = valid.of_three;
  switches = valid.switches;
  table = valid.table;
  no_table = valid.no_table;
  no_table_tag = valid.no_table_tag;
  no_block_label = valid.no_block_label;
}

pub IsValid-decides : (piece : Piece) (blocks : List CodeBlock) (conds : List CondCase) (head named valid kinds agree formats all : Bool) → blocks ≡ piece.blocks → conds ≡ piece.conds
    → AreOnce (states_from 0 blocks) × IfSome piece.states (IsStateSwitch blocks) → IsTrue head ↔ KeepsHeadRules piece → IsTrue named ↔ KeepCondRules blocks conds
    → IsTrue valid ↔ KeepsBlockRules piece.names (names_of conds) blocks → IsTrue kinds ↔ KeepsKindRules piece.ctx blocks
    → IsTrue agree ↔ IfSome piece.head (Agrees piece) → IsTrue formats ↔ KeepsFormatRules piece
    → IsTrue all ↔ (IsTrue head × IsTrue named × IsTrue valid × IsTrue kinds × IsTrue agree × IsTrue formats) → IsTrue all ↔ IsValid piece
IsValid-decides piece blocks conds head named valid kinds agree formats all blocks_is conds_is states head_is named_is fine_is kinds_is agree_is formats_is all_is =
    let states = subst (λ (b : List CodeBlock). AreOnce (states_from 0 b) × IfSome piece.states (IsStateSwitch b)) blocks_is states in
    let named_is = subst (λ (c : List CondCase). IsTrue named ↔ KeepCondRules piece.blocks c) conds_is (subst (λ (b : List CodeBlock). IsTrue named ↔ KeepCondRules b conds) blocks_is named_is) in
    let fine_is = subst (λ (c : List CondCase). IsTrue valid ↔ KeepsBlockRules piece.names (names_of c) piece.blocks) conds_is
    (subst (λ (b : List CodeBlock). IsTrue valid ↔ KeepsBlockRules piece.names (names_of conds) b) blocks_is fine_is) in
    let kinds_is = subst (λ (b : List CodeBlock). IsTrue kinds ↔ KeepsKindRules piece.ctx b) blocks_is kinds_is in (
      λ e. let each = all_is.0 e in IsValid-from piece states.0 states.1 (head_is.0 each.0) (named_is.0 each.1) (fine_is.0 each.2) (kinds_is.0 each.3) (agree_is.0 each.4) (formats_is.0 each.5),
      λ valid. all_is.1 (head_is.1 (head_of piece valid), named_is.1 (conds_of piece valid), fine_is.1 (blocks_of piece valid), kinds_is.1 (kinds_of piece valid), agree_is.1 valid.head, formats_is.1 (formats_of piece valid)),
    )
