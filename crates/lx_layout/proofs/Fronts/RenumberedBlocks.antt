-- The blocks of the states and of the entry of an automaton with greater numbers of rules: they are the same, if those of the rules are.
use Rattle.std.specs.Prelude.{◌≡◌, ℕ, zero, suc, ◌+◌, Bool, List, [], ◌∷◌, ◌++◌, length, map, Option, Some, None, is_some, option_map, refl, if◌then◌else◌, ◌&&◌}
use Rattle.std.proofs.Common.{ap, ap₂, ◌∙◌}
use Rattle.lx_auto.specs.Automaton.{edge_on}
use Rattle.lx_auto.specs.declared.automaton.Accept.{Accept}
use Rattle.lx_auto.specs.declared.automaton.Auto.{Auto}
use Rattle.lx_auto.specs.declared.automaton.Edge.{Edge}
use Rattle.lx_auto.specs.declared.automaton.State.{State}
use Rattle.lx_ccode.specs.declared.piece.Stmt.{Stmt}
use Rattle.lx_ccode.specs.declared.piece.Stmt.TheVariants.{Goto, Skip}
use Rattle.lx_layout.specs.Codes.{list_code, save_code}
use Rattle.lx_layout.specs.Fallback.{edge_code}
use Rattle.lx_layout.specs.Halting.{Halting, halted_accept, saves_on, kept_number}
use Rattle.lx_layout.specs.Layout.{class_block, end_block, end_blocks, lone_blocks, lone_place}
use Rattle.lx_layout.specs.SuppliedLayout.{at_end_blocks, blocks_at_end, blocks_by, class_blocks, entry_blocks, entry_tests_size, entry_way, kept, lone_number, own_end, place_by, place_in, reader_blocks, refill_blocks, state_end, state_size, state_to, state_way, states_blocks, tests_of, turn_begin, turn_of, with_blocks}
use Rattle.lx_layout.specs.Supplies.{Reader, Supply, entry, state as by_state}
use Rattle.lx_dispatch.specs.TestTrees.{TestTree, fork, leaf, switch, test}
use Rattle.lx_dispatch.specs.TransitionClasses.{edge_class, same_place, transition_classes}
use Rattle.lx_renumber.specs.Renumbered.{renumbered, renumbered_accept, renumbered_state}
use Rattle.lx_dispatch.proofs.Cases.{cases_by-same}
use Rattle.lx_layout.proofs.Fronts.RenumberedAccepts.{all, halted-renumbered, is_some-renumbered, kept_number-renumbered}
use Rattle.lx_layout.proofs.Fronts.RenumberedEnds.{end_block-renumbered, end_blocks-renumbered, lone_blocks-renumbered, lone_place-renumbered}
use Rattle.lx_layout.proofs.Fronts.RenumberedMarks.{is_entered-renumbered}
use Rattle.lx_layout.proofs.Fronts.RenumberedSizes.{classes_begin-renumbered, lone_number-renumbered, own_end-renumbered, state_size-renumbered, turn_begin-renumbered}

-- ---- what reads, where units lead to the same blocks

pub with_blocks-same : (first second : Option ℕ → ℕ) → ((class : Option ℕ) → first class ≡ second class) → (tree : TestTree (Option ℕ))
    → with_blocks first tree ≡ with_blocks second tree
with_blocks-same first second same (leaf class) = ap leaf (same class)
with_blocks-same first second same (switch cases last) = ap₂ (λ c l. switch c l) (cases_by-same first second same cases) (same last)
with_blocks-same first second same (test question class high) = ap₂ (test question) (same class) (with_blocks-same first second same high)
with_blocks-same first second same (fork question low high) =
    ap₂ (fork question) (with_blocks-same first second same low) (with_blocks-same first second same high)

blocks_at_end-same : (stored : Option (Reader → ℕ)) (reader : Reader) (eof : Option ℕ) (tries : Bool) (block here : ℕ)
    (first second : ℕ → ℕ)
    → ((unit : ℕ) → first unit ≡ second unit) → (end : ℕ)
    → blocks_at_end stored reader eof tries block here first end ≡ blocks_at_end stored reader eof tries block here second end
blocks_at_end-same stored reader None tries block here first second same end = refl
blocks_at_end-same stored reader (Some eof) tries block here first second same end =
    ap (λ to. refill_blocks stored reader tries stored block here to end) (same eof)

pub at_end_blocks-same : (supply : Supply) (reader : Reader) (block here : ℕ) (first second : ℕ → ℕ)
    → ((unit : ℕ) → first unit ≡ second unit) → (end : ℕ)
    → at_end_blocks supply reader block here first end ≡ at_end_blocks supply reader block here second end
at_end_blocks-same supply reader block here first second same end =
    blocks_at_end-same supply.stored reader supply.eof supply.tries block here first second same end

-- ---- edges

module _ (by : ℕ) (halting : Halting) (auto : Auto) (saved : List Accept) (first second : ℕ → ℕ)
    (same : (number : ℕ) → first number ≡ second number) where
  edge_code-renumbered : (given : State) (edge : Edge)
      → edge_code halting (renumbered by auto) (renumbered_state by given) (kept_number halting (all by saved) (renumbered_state by given).accept)
      edge (first edge.to)
      ≡ edge_code halting auto given (kept_number halting saved given.accept) edge (second edge.to)
  edge_code-renumbered given edge =
      ap₂ (λ t number. edge_code_by t number (first edge.to)) (ap (λ t. t && halting.falls edge.to) (is_some-renumbered by given.accept))
      (kept_number-renumbered by halting saved given.accept)
      ∙ ap (λ block. edge_code_by (saves_on halting given edge) (kept_number halting saved given.accept) block) (same edge.to)
    where
      edge_code_by : Bool → (number : Option ℕ) (block : ℕ) → List Stmt
      edge_code_by t number block = save_code t number (list_code auto given.leave (list_code auto edge.ops (Skip ∷ Goto block ∷ [])))

  pub class_blocks-renumbered : (given : State) (classes : List Edge)
      → class_blocks halting (renumbered by auto) (all by saved) first (renumbered_state by given) classes
      ≡ class_blocks halting auto saved second given classes
  class_blocks-renumbered given [] = refl
  class_blocks-renumbered given (class ∷ classes) =
      ap₂ (λ (code : List Stmt) (codes : List (List Stmt)). code ∷ codes) (edge_code-renumbered given class)
      (class_blocks-renumbered given classes)

-- ---- states

module _ (by : ℕ) (supply : Supply) (halting : Halting) (end_rule other : Option ℕ) (same : is_some other ≡ is_some end_rule)
    (trees : Reader → TestTree (Option ℕ)) (auto : Auto) (others rules : ℕ → ℕ) (are : (rule : ℕ) → others (rule + by) ≡ rules rule)
    (fall begin : ℕ) where
  abbrev copy : Auto
  copy = renumbered by auto

  state_end-renumbered : (number from : ℕ) (given : State)
      → state_end supply halting other trees copy others fall begin number from (renumbered_state by given)
      ≡ state_end supply halting end_rule trees auto rules fall begin number from given
  state_end-renumbered number from given =
      ap (λ own. end_block copy others fall own (renumbered_state by given).accept)
      (own_end-renumbered by supply halting end_rule other same trees auto number from given.edges)
      ∙ end_block-renumbered by others rules are auto fall (own_end supply halting end_rule trees auto number from given.edges) given.accept

  state_way-renumbered : (number from : ℕ) (given : State) (class : Option ℕ)
      → state_way supply halting other trees copy others fall begin number from (renumbered_state by given) class
      ≡ state_way supply halting end_rule trees auto rules fall begin number from given class
  state_way-renumbered number from given class =
      ap₂ (λ first end. class_block first end class)
      (classes_begin-renumbered by supply halting end_rule other same trees auto number from given.edges)
      (state_end-renumbered number from given)

  state_to-renumbered : (number from : ℕ) (given : State) (unit : ℕ)
      → state_to supply halting other trees copy others fall begin number from (renumbered_state by given) unit
      ≡ state_to supply halting end_rule trees auto rules fall begin number from given unit
  state_to-renumbered number from given unit =
      state_way-renumbered number from given (edge_class (transition_classes given.edges) (edge_on given.edges unit))

  place_by-renumbered : (number from : ℕ) (edges : List Edge) (accept : Option Accept)
      → place_by supply halting other trees copy others fall begin number from edges (option_map (renumbered_accept by) accept)
      ≡ place_by supply halting end_rule trees auto rules fall begin number from edges accept
  place_by-renumbered number from [] accept =
      ap (λ n. lone_place copy others fall n from (option_map (renumbered_accept by) accept))
      (lone_number-renumbered end_rule other same number)
      ∙ lone_place-renumbered by others rules are auto fall (lone_number end_rule number) from accept
  place_by-renumbered number from (edge ∷ edges) accept =
      ap (λ t. if t then from else begin) (is_entered-renumbered by auto end_rule other same number)

  pub place_in-renumbered : (number from : ℕ) (states : List State) (n : ℕ)
      → place_in supply halting other trees copy others fall begin number from (map (renumbered_state by) states) n
      ≡ place_in supply halting end_rule trees auto rules fall begin number from states n
  place_in-renumbered number from [] n = refl
  place_in-renumbered number from (given ∷ states) zero = place_by-renumbered number from given.edges given.accept
  place_in-renumbered number from (given ∷ states) (suc n) =
      ap (λ size. place_in supply halting other trees copy others fall begin (suc number) (from + size)
      (map (renumbered_state by) states) n)
      (state_size-renumbered by supply halting end_rule other same trees auto number given)
      ∙ place_in-renumbered (suc number) (from + state_size supply halting end_rule trees auto number given) states n

  entry_way-renumbered : (from : ℕ) (given : State) (class : Option ℕ)
      → entry_way supply halting other trees copy others fall begin from (renumbered_state by given) class
      ≡ entry_way supply halting end_rule trees auto rules fall begin from given class
  entry_way-renumbered from given class =
      ap (λ block. if same_place class (Some (length (transition_classes given.edges)))
      then begin + entry_tests_size supply halting end_rule trees auto else block)
      (state_way-renumbered 0 from given class)

  pub entry_blocks-renumbered : (end from : ℕ) (given : State)
      → entry_blocks supply halting other trees copy others fall begin end from (renumbered_state by given)
      ≡ entry_blocks supply halting end_rule trees auto rules fall begin end from given
  entry_blocks-renumbered end from given =
      ap₂ (λ (tests turn : List (List Stmt)). tests ++ turn)
      (ap (λ tree. reader_blocks supply.stored entry supply.eof 0 begin tree)
      (with_blocks-same (entry_way supply halting other trees copy others fall begin from (renumbered_state by given))
      (entry_way supply halting end_rule trees auto rules fall begin from given) (entry_way-renumbered from given) (trees entry)))
      (at_end_blocks-same supply entry begin (begin + entry_tests_size supply halting end_rule trees auto)
      (state_to supply halting other trees copy others fall begin 0 from (renumbered_state by given))
      (state_to supply halting end_rule trees auto rules fall begin 0 from given) (state_to-renumbered 0 from given) end)

  module _ (saved : List Accept) (first second : ℕ → ℕ) (places : (number : ℕ) → first number ≡ second number) where
    tests_of-renumbered : (number from : ℕ) (given : State)
        → tests_of supply halting other trees copy others fall begin (all by saved) first number from (renumbered_state by given)
        ≡ tests_of supply halting end_rule trees auto rules fall begin saved second number from given
    tests_of-renumbered number from given =
        ap₂ (λ t tree. kept t (reader_blocks supply.stored (by_state number) supply.eof (supply.check number) from tree))
        (is_entered-renumbered by auto end_rule other same number)
        (with_blocks-same (state_way supply halting other trees copy others fall begin number from (renumbered_state by given))
        (state_way supply halting end_rule trees auto rules fall begin number from given) (state_way-renumbered number from given)
        (trees (by_state number)))

    turn_of-renumbered : (number from : ℕ) (given : State)
        → turn_of supply halting other trees copy others fall begin (all by saved) first number from (renumbered_state by given)
        ≡ turn_of supply halting end_rule trees auto rules fall begin saved second number from given
    turn_of-renumbered number from given =
        ap₂ kept (is_entered-renumbered by auto end_rule other same number)
        (ap₂ (λ here end. at_end_blocks supply (by_state number) from here
        (state_to supply halting other trees copy others fall begin number from (renumbered_state by given)) end)
        (turn_begin-renumbered by supply halting end_rule other same trees auto number from given.edges)
        (state_end-renumbered number from given)
        ∙ at_end_blocks-same supply (by_state number) from (turn_begin supply halting end_rule trees auto number from given.edges)
        (state_to supply halting other trees copy others fall begin number from (renumbered_state by given))
        (state_to supply halting end_rule trees auto rules fall begin number from given) (state_to-renumbered number from given)
        (state_end supply halting end_rule trees auto rules fall begin number from given))

    blocks_by-renumbered : (number from : ℕ) (given : State) (edges : List Edge)
        → blocks_by supply halting other trees copy others fall begin (all by saved) first number from (renumbered_state by given) edges
        ≡ blocks_by supply halting end_rule trees auto rules fall begin saved second number from given edges
    blocks_by-renumbered number from given [] =
        ap (λ n. lone_blocks copy others fall n (renumbered_state by given).accept) (lone_number-renumbered end_rule other same number)
        ∙ lone_blocks-renumbered by others rules are auto fall (lone_number end_rule number) given.accept
    blocks_by-renumbered number from given (edge ∷ edges) =
        ap₂ (λ (a b : List (List Stmt)). a ++ b) (tests_of-renumbered number from given)
        (ap₂ (λ (a b : List (List Stmt)). a ++ b)
        (class_blocks-renumbered by halting auto saved first second places given (transition_classes (edge ∷ edges)))
        (ap₂ (λ (a b : List (List Stmt)). a ++ b) (turn_of-renumbered number from given)
        (ap (λ accept. end_blocks copy others fall accept) (halted-renumbered by halting number given)
        ∙ end_blocks-renumbered by others rules are auto fall (halted_accept halting number given))))

    pub states_blocks-renumbered : (number from : ℕ) (states : List State)
        → states_blocks supply halting other trees copy others fall begin (all by saved) first number from
        (map (renumbered_state by) states)
        ≡ states_blocks supply halting end_rule trees auto rules fall begin saved second number from states
    states_blocks-renumbered number from [] = refl
    states_blocks-renumbered number from (given ∷ states) =
        ap₂ (λ (a b : List (List Stmt)). a ++ b) (blocks_by-renumbered number from given given.edges)
        (ap (λ size. states_blocks supply halting other trees copy others fall begin (all by saved) first (suc number) (from + size)
        (map (renumbered_state by) states)) (state_size-renumbered by supply halting end_rule other same trees auto number given)
        ∙ states_blocks-renumbered (suc number) (from + state_size supply halting end_rule trees auto number given) states)
