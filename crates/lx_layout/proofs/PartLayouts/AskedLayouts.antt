-- In which layouts something is asked for before units are read.
use Rattle.std.specs.Prelude.{◌≡◌, ◌⊎◌, ℕ, zero, suc, Bool, true, false, ◌||◌, List, [], ◌∷◌, ◌++◌, Option, Some, None, is_some, refl}
use Rattle.std.proofs.Common.{inl, inr, ◌∙◌, ap, arith, sym, true≢false}
use Rattle.std.proofs.lemmas.Bool.{false≢true}
use Rattle.std.specs.List.{AllByRecursion, list_any}
use Rattle.lx_auto.specs.declared.automaton.Auto.{Auto}
use Rattle.lx_ccode.specs.Statements.{all_statements, code_of, is_need, is_try}
use Rattle.lx_ccode.specs.declared.piece.CodeBlock.{CodeBlock}
use Rattle.lx_ccode.specs.declared.piece.Stmt.{Stmt}
use Rattle.lx_ccode.specs.declared.piece.Stmt.TheVariants.{Goto, Peek}
use Rattle.lx_layout.specs.Endings.{Ending}
use Rattle.lx_layout.specs.Halting.{Halting}
use Rattle.lx_layout.specs.SuppliedLayout.{blocks_at_end, read_blocks, reader_blocks, supplied_layout}
use Rattle.lx_layout.specs.Supplies.{Reader, Supply, need_code}
use Rattle.lx_dispatch.specs.TestTrees.{TestTree, fork, leaf, switch, test}
use Rattle.lx_layout.specs.TreeCodes.{inner_blocks, tree_code}
use Rattle.lx_layout.proofs.BlockLayouts.Questions.{any_question}
use Rattle.lx_layout.proofs.PartLayouts.CalmBlocks.{IsCalm}
use Rattle.lx_layout.proofs.PartLayouts.CalmLayouts.{calm_layout}
use Rattle.lx_layout.proofs.PartLayouts.StatementSorts.{reader_statements}
use Rattle.lx_layout.proofs.Validity.EachElement.{each-map}

-- ---- where nothing is asked for

module _ (supply : Supply) (halting : Halting) (endings : ℕ → Ending) (end_rule : Option ℕ) (trees : Reader → TestTree (Option ℕ)) (auto : Auto) where
  pub no_needs : (supply.eof ≡ None → (number : ℕ) → supply.check number ≡ 0) → (begin : ℕ)
      → AllByRecursion (λ code. AllByRecursion (λ statement. is_need statement ≡ false) code) (supplied_layout supply halting endings end_rule trees auto begin)
  no_needs none begin =
      calm_layout (λ code. AllByRecursion (λ statement. is_need statement ≡ false) code) (λ units. units ≡ 0) supply halting endings end_rule trees auto
      (λ code h. each-map IsCalm (λ statement. is_need statement ≡ false) (λ statement is. is.need) code h)
      (reader_statements (λ statement. is_need statement ≡ false) (λ unit. Unit {0}) (λ reader. Unit {0}) (λ units. units ≡ 0) supply
      (record {
        goes = λ block. refl;
        unit = λ question block is.
            any_question (λ statement. is_need statement ≡ false) block (λ greatest. refl) (λ unit. refl) (λ set. refl) question;
        switches = λ cases last is. refl;
        peeks = refl;
        unchecked = refl;
        needs = λ units is. absurd (omega (arith, is));
        stores = λ number reader same is. refl;
        tries = λ block some tries. refl;
        at_end = λ block. refl;
      })) none begin

  pub no_tries : (is_some supply.eof ≡ true → supply.tries ≡ false) → (begin : ℕ)
      → AllByRecursion (λ code. AllByRecursion (λ statement. is_try statement ≡ false) code) (supplied_layout supply halting endings end_rule trees auto begin)
  no_tries none begin =
      calm_layout (λ code. AllByRecursion (λ statement. is_try statement ≡ false) code) (λ units. Unit {0}) supply halting endings end_rule trees auto
      (λ code h. each-map IsCalm (λ statement. is_try statement ≡ false) (λ statement is. is.try) code h)
      (reader_statements (λ statement. is_try statement ≡ false) (λ unit. Unit {0}) (λ reader. Unit {0}) (λ units. Unit {0}) supply
      (record {
        goes = λ block. refl;
        unit = λ question block is.
            any_question (λ statement. is_try statement ≡ false) block (λ greatest. refl) (λ unit. refl) (λ set. refl) question;
        switches = λ cases last is. refl;
        peeks = refl;
        unchecked = tt;
        needs = λ units is. refl;
        stores = λ number reader same is. refl;
        tries = λ block some tries. absurd (true≢false (sym tries ∙ none some));
        at_end = λ block. refl;
      })) (λ none number. tt) begin

-- ---- whether some statement passes a test

abbrev pub has : (passes : Stmt → Bool) → List (List Stmt) → Bool
has passes [] = false
has passes (code ∷ codes) = list_any passes code || has passes codes

module _ (passes : Stmt → Bool) where
  abbrev pub Has : List (List Stmt) → Type 0
  Has codes = has passes codes ≡ true

  or_split : (a b : Bool) → (a || b) ≡ true → (a ≡ true) ⊎ (b ≡ true)
  or_split true b e = inl refl
  or_split false b e = inr e

  or_back : (a : Bool) → (a || true) ≡ true
  or_back true = refl
  or_back false = refl

  pub has-back : (a b : List (List Stmt)) → Has b → Has (a ++ b)
  has-back [] b h = h
  has-back (code ∷ a) b h = ap (λ t. list_any passes code || t) (has-back a b h) ∙ or_back (list_any passes code)

  pub has-front : (a b : List (List Stmt)) → Has a → Has (a ++ b)
  has-front [] b h = absurd (false≢true h)
  has-front (code ∷ a) b h = by (list_any passes code) h (λ g. has-front a b g)
    where
      by : (t : Bool) → (t || has passes a) ≡ true → (Has a → Has (a ++ b)) → (t || has passes (a ++ b)) ≡ true
      by true h again = refl
      by false h again = again h

  pub has-split : (a b : List (List Stmt)) → Has (a ++ b) → Has a ⊎ Has b
  has-split [] b h = inr h
  has-split (code ∷ a) b h = by (list_any passes code) h (λ g. has-split a b g)
    where
      by : (t : Bool) → (t || has passes (a ++ b)) ≡ true → (Has (a ++ b) → Has a ⊎ Has b) → ((t || has passes a) ≡ true) ⊎ Has b
      by true h again = inl refl
      by false h again = again h

  none_in : (code : List Stmt) → AllByRecursion (λ statement. passes statement ≡ false) code → list_any passes code ≡ false
  none_in [] h = refl
  none_in (statement ∷ code) h = ap (λ t. t || list_any passes code) h.0 ∙ none_in code h.1

  pub has-nowhere : (codes : List (List Stmt)) → AllByRecursion (λ code. list_any passes code ≡ false) codes → Has codes → ⊥
  has-nowhere [] h e = false≢true e
  has-nowhere (code ∷ codes) h e = has-nowhere codes h.1 (sym (ap (λ t. t || has passes codes) h.0) ∙ e)

  pub has-none : (codes : List (List Stmt)) → AllByRecursion (λ code. AllByRecursion (λ statement. passes statement ≡ false) code) codes → Has codes → ⊥
  has-none codes h e =
      has-nowhere codes (each-map (λ code. AllByRecursion (λ statement. passes statement ≡ false) code) (λ code. list_any passes code ≡ false) none_in codes h) e

  pub in_statements : (blocks : List CodeBlock) → list_any passes (all_statements blocks) ≡ has passes (code_of blocks)
  in_statements [] = refl
  in_statements (block ∷ blocks) = both block.stmts (all_statements blocks) ∙ ap (λ t. list_any passes block.stmts || t) (in_statements blocks)
    where
      both : (a b : List Stmt) → list_any passes (a ++ b) ≡ list_any passes a || list_any passes b
      both [] b = refl
      both (statement ∷ a) b = by (passes statement) (both a b)
        where
          by : (t : Bool) → list_any passes (a ++ b) ≡ list_any passes a || list_any passes b → (t || list_any passes (a ++ b)) ≡ (t || list_any passes a) || list_any passes b
          by true again = refl
          by false again = again

-- ---- what reads asks

need_has : (stored : Option (Reader → ℕ)) (reader : Reader) (units : ℕ) (rest : List Stmt) → list_any is_need (need_code stored reader (suc units) rest) ≡ true
need_has None reader units rest = refl
need_has (Some number) reader units rest = refl

read_needs : (stored : Option (Reader → ℕ)) (reader : Reader) (units from : ℕ) (tree : TestTree ℕ) → Has is_need (read_blocks stored reader (suc units) from tree)
read_needs stored reader units from tree =
    ap (λ t. t || has is_need (inner_blocks (suc from) tree)) (need_has stored reader units (Peek ∷ tree_code (suc from) tree))

pub checks_need : (stored : Option (Reader → ℕ)) (reader : Reader) (units from : ℕ) (tree : TestTree ℕ) → (units ≡ 0 → ⊥)
    → Has is_need (reader_blocks stored reader None units from tree)
checks_need stored reader zero from tree some = absurd (some refl)
checks_need stored reader (suc units) from (leaf block) some = ap (λ t. t || false) (need_has stored reader units (Goto block ∷ []))
checks_need stored reader (suc units) from (test question block high) some = read_needs stored reader units from (test question block high)
checks_need stored reader (suc units) from (fork question low high) some = read_needs stored reader units from (fork question low high)
checks_need stored reader (suc units) from (switch cases last) some = read_needs stored reader units from (switch cases last)

pub turn_tries : (stored : Option (Reader → ℕ)) (reader : Reader) (eof : Option ℕ) (tries : Bool) (block here : ℕ) (to : ℕ → ℕ) (end : ℕ)
    → is_some eof ≡ true → tries ≡ true → Has is_try (blocks_at_end stored reader eof tries block here to end)
turn_tries stored reader None tries block here to end some does = absurd (false≢true some)
turn_tries stored reader (Some eof) false block here to end some does = absurd (false≢true does)
turn_tries None reader (Some eof) true block here to end some does = refl
turn_tries (Some number) reader (Some eof) true block here to end some does = refl
