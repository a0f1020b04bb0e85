-- What holds of each block of a layout, if it holds of calm code and of that of what reads.
use Rattle.std.specs.Prelude.{◌≡◌, ℕ, zero, suc, Bool, true, false, ◌||◌, List, [], ◌∷◌, Option, Some, None, is_some, refl, if◌then◌else◌}
use Rattle.std.proofs.Common.{◌∙◌, ap}
use Rattle.std.specs.List.{AllByRecursion}
use Rattle.lx_auto.specs.declared.automaton.Auto.{Auto}
use Rattle.lx_auto.specs.declared.automaton.State.{State}
use Rattle.lx_ccode.specs.Statements.{is_state, is_try}
use Rattle.lx_ccode.specs.Validity.{refill_first, refills_after_states, states_before_refills}
use Rattle.lx_ccode.specs.declared.piece.Stmt.{Stmt}
use Rattle.lx_ccode.specs.declared.piece.Stmt.TheVariants.{Goto, Peek}
use Rattle.lx_layout.specs.Endings.{Ending}
use Rattle.lx_layout.specs.Halting.{Halting}
use Rattle.lx_layout.specs.SuppliedLayout.{supplied_layout}
use Rattle.lx_layout.specs.Supplies.{Reader, Supply, entry, need_code, state, try_code}
use Rattle.lx_dispatch.specs.TestTrees.{TestTree}
use Rattle.lx_layout.proofs.BlockLayouts.Questions.{any_question}
use Rattle.lx_layout.proofs.PartLayouts.CalmBlocks.{Calm, accept_any, all_any, calm_plain}
use Rattle.lx_layout.proofs.PartLayouts.EachCode.{StatesAsk, codes_each}
use Rattle.lx_layout.proofs.PartLayouts.EachStatement.{units_any}
use Rattle.lx_layout.proofs.PartLayouts.PlainBlocks.{plain-map}
use Rattle.lx_layout.proofs.PartLayouts.ReaderBlocks.{HoldsOfReaders}

module _ (P : List Stmt → Type 0) (C : ℕ → Type 0) (supply : Supply) (halting : Halting) (endings : ℕ → Ending) (end_rule : Option ℕ)
    (trees : Reader → TestTree (Option ℕ)) (auto : Auto) (of_calm : (code : List Stmt) → Calm code → P code)
    (readers : HoldsOfReaders P (λ unit. Unit {0}) (λ reader. Unit {0}) C supply) (asked : supply.eof ≡ None → (number : ℕ) → C (supply.check number)) where
  states_any : (number : ℕ) (states : List State)
      → StatesAsk P (λ unit. Unit {0}) (λ reader. Unit {0}) C (λ saved. Unit {0}) (λ given edge. Unit {0}) (λ accept. Unit {0}) (λ rule. Unit {0}) supply
      halting endings end_rule trees auto number states
  states_any number [] = tt
  states_any number (given ∷ states) = (
    record {
      reader = tt;
      check = λ none. asked none number;
      units = units_any (trees (state number));
      edges = all_any given.edges;
      accept = accept_any given.accept;
    },
    states_any (suc number) states,
  )

  pub calm_layout : (begin : ℕ) → AllByRecursion P (supplied_layout supply halting endings end_rule trees auto begin)
  calm_layout begin =
      codes_each P (λ unit. Unit {0}) (λ reader. Unit {0}) C (λ saved. Unit {0}) (λ given edge. Unit {0}) (λ accept. Unit {0}) (λ rule. Unit {0}) supply
      halting endings end_rule trees auto
      (record {
        readers = readers;
        plain = plain-map Calm P (λ saved. Unit {0}) (λ given edge. Unit {0}) (λ accept. Unit {0}) (λ rule. Unit {0}) halting endings auto of_calm
            (calm_plain halting endings auto);
        states = states_any 0 auto.states;
        entry_reads = tt;
        entry_units = units_any (trees entry);
        saved = λ saved le. tt;
        ends_by = λ rule is. tt;
      }) begin

-- ---- refills behind states

calm_after : (code : List Stmt) → Calm code → refills_after_states code ≡ true
calm_after [] h = refl
calm_after (statement ∷ code) h =
    ap (λ o. if (if is_some o then refill_first code else true) then refills_after_states code else false) h.0.state ∙ calm_after code h.1

need_after : (stored : Option (Reader → ℕ)) (reader : Reader) (units : ℕ) (rest : List Stmt) → refills_after_states rest ≡ true
    → refills_after_states (need_code stored reader units rest) ≡ true
need_after stored reader zero rest h = h
need_after None reader (suc units) rest h = h
need_after (Some number) reader (suc units) rest h = h

try_after : (stored : Option (Reader → ℕ)) (reader : Reader) (block end : ℕ) → refills_after_states (try_code stored reader block end) ≡ true
try_after None reader block end = refl
try_after (Some number) reader block end = refl

pub readers_after : (supply : Supply)
    → HoldsOfReaders (λ code. refills_after_states code ≡ true) (λ unit. Unit {0}) (λ reader. Unit {0}) (λ units. Unit {0}) supply
readers_after supply = record {
  leads = λ block. refl;
  tests = λ question block code is h. any_question (λ statement. refills_after_states (statement ∷ code) ≡ true) block (λ greatest. h) (λ unit. h) (λ set. h) question;
  switches = λ cases last is. refl;
  checks = λ reader units block is some. need_after supply.stored reader (suc units) (Goto block ∷ []) refl;
  reads = λ reader units code is some h. need_after supply.stored reader units (Peek ∷ code) h;
  unchecked = tt;
  asks = λ asked to. refl;
  tries = λ reader block end is some tries. try_after supply.stored reader block end;
  comes_back = λ block end. refl;
}

pub layout_after : (supply : Supply) (halting : Halting) (endings : ℕ → Ending) (end_rule : Option ℕ) (trees : Reader → TestTree (Option ℕ)) (auto : Auto)
    (begin : ℕ) → AllByRecursion (λ code. refills_after_states code ≡ true) (supplied_layout supply halting endings end_rule trees auto begin)
layout_after supply halting endings end_rule trees auto begin =
    calm_layout (λ code. refills_after_states code ≡ true) (λ units. Unit {0}) supply halting endings end_rule trees auto calm_after (readers_after supply)
    (λ none number. tt) begin

-- ---- states before refills

calm_before : (t : Bool) (code : List Stmt) → Calm code → states_before_refills t code ≡ true
calm_before t [] h = refl
calm_before t (statement ∷ code) h =
    ap (λ y. if (if y || is_try statement then t else true) then states_before_refills (is_state statement) code else false) h.0.need
    ∙ ap (λ y. if (if y then t else true) then states_before_refills (is_state statement) code else false) h.0.try
    ∙ calm_before (is_state statement) code h.1

need_before : (stored : Option (Reader → ℕ)) (number : Reader → ℕ) (reader : Reader) (units : ℕ) (rest : List Stmt) → stored ≡ Some number
    → states_before_refills false rest ≡ true → states_before_refills false (need_code stored reader units rest) ≡ true
need_before stored number reader zero rest same h = h
need_before None number reader (suc units) rest same h = absurd (cc)
need_before (Some other) number reader (suc units) rest same h = h

try_before : (stored : Option (Reader → ℕ)) (number : Reader → ℕ) (reader : Reader) (block end : ℕ) → stored ≡ Some number
    → states_before_refills false (try_code stored reader block end) ≡ true
try_before None number reader block end same = absurd (cc)
try_before (Some other) number reader block end same = refl

readers_before : (supply : Supply) (number : Reader → ℕ) → supply.stored ≡ Some number
    → HoldsOfReaders (λ code. states_before_refills false code ≡ true) (λ unit. Unit {0}) (λ reader. Unit {0}) (λ units. Unit {0}) supply
readers_before supply number same = record {
  leads = λ block. refl;
  tests = λ question block code is h.
      any_question (λ statement. states_before_refills false (statement ∷ code) ≡ true) block (λ greatest. h) (λ unit. h) (λ set. h) question;
  switches = λ cases last is. refl;
  checks = λ reader units block is some. need_before supply.stored number reader (suc units) (Goto block ∷ []) same refl;
  reads = λ reader units code is some h. need_before supply.stored number reader units (Peek ∷ code) same h;
  unchecked = tt;
  asks = λ asked to. refl;
  tries = λ reader block end is some tries. try_before supply.stored number reader block end same;
  comes_back = λ block end. refl;
}

pub layout_before : (supply : Supply) (number : Reader → ℕ) → supply.stored ≡ Some number → (halting : Halting) (endings : ℕ → Ending) (end_rule : Option ℕ)
    (trees : Reader → TestTree (Option ℕ)) (auto : Auto) (begin : ℕ)
    → AllByRecursion (λ code. states_before_refills false code ≡ true) (supplied_layout supply halting endings end_rule trees auto begin)
layout_before supply number same halting endings end_rule trees auto begin =
    calm_layout (λ code. states_before_refills false code ≡ true) (λ units. Unit {0}) supply halting endings end_rule trees auto
    (λ code h. calm_before false code h) (readers_before supply number same) (λ none number. tt) begin
