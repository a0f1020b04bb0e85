-- From the block of what reads a unit the machine comes to the right block for the unit, where the units are there.
use Rattle.std.specs.Prelude.{◌≡◌, ℕ, ◌≤◌, Bool, true, false, List, [], ◌∷◌, Option, Some, nat_eq, nat_le, refl, slice_get}
use Rattle.std.proofs.Common.{sym, ap, ◌∙◌, subst, arith, eq-eqb, eqb-true, lt-ltb, true≢false}
use Rattle.std.proofs.lemmas.Bool.{lt-leb}
use Rattle.lx_auto.specs.declared.automaton.Auto.{Auto}
use Rattle.lx_ccode.specs.declared.piece.Piece.{Piece}
use Rattle.lx_ccode.specs.declared.piece.Stmt.{Stmt}
use Rattle.lx_ccode.specs.declared.piece.Stmt.TheVariants.{Goto, IfEnd, Peek}
use Rattle.lx_ccode.specs.Machine.{Answer, Machine, choose, code_at, goes_on, step}
use Rattle.lx_ccode.specs.Statements.{code_of}
use Rattle.lx_ccode.proofs.TraceSteps.{goto_step}
use Rattle.lx_layout.specs.Carries.{HasUnits}
use Rattle.lx_layout.specs.Endings.{Ending}
use Rattle.lx_layout.specs.Halting.{Halting}
use Rattle.lx_layout.specs.Layout.{StandsFrom}
use Rattle.lx_layout.specs.Supplied.{ServesReader, at_end, by_jump, by_tests, itself}
use Rattle.lx_layout.specs.Supplies.{Reader, Supply, end_test, need_code}
use Rattle.lx_dispatch.specs.TestTrees.{TestTree, picked}
use Rattle.lx_layout.specs.TreeCodes.{inner_blocks, tree_code}
use Rattle.lx_layout.proofs.BlockLayouts.Questions.{FitsTable}
use Rattle.lx_layout.proofs.Carrying.MachineSteps.{need_walk, tree_walk}
use Rattle.lx_layout.proofs.Carrying.SilentTraces.{Walks, stays, walk_on, walk_peek, walk_step}

-- before the limit the test of the end fails
end_step : (piece : Piece) (stream : List ℕ) (block : ℕ) (rest : List Stmt) (machine : Machine) (answers : List Answer)
    → nat_le machine.limit machine.cursor ≡ false → step piece stream (IfEnd block) rest machine answers ≡ goes_on rest machine answers
end_step piece stream block rest machine answers before =
    ap (λ t. choose t (code_at piece.blocks (Some block)) rest machine answers) before

module _ (piece : Piece) (stream : List ℕ) (answers : List Answer) where
  -- From code the machine comes to a block of a sort. It reads at most one unit; what it read and a state that it stored are all that changes.
  pub record Enters (code : List Stmt) (machine : Machine) (To : ℕ → Type 0) : Type 0 where
    pub block : ℕ
    pub target : To block
    pub to : List Stmt
    pub has : code_at piece.blocks (Some block) ≡ Some to
    pub peeks : ℕ
    pub few : peeks ≤ 1
    pub state : Option ℕ
    pub unit : Option ℕ
    pub walks : Walks piece stream peeks code machine answers to (record machine { state = state; unit = unit })

  module _ (supply : Supply) (halting : Halting) (endings : ℕ → Ending) (greatest : ℕ) (auto : Auto) (place : ℕ → ℕ) (saved : Option (ℕ → ℕ)) (rules : ℕ → ℕ) (fall : ℕ) (reader : Reader) (units block : ℕ)
      (Leads : (unit block : ℕ) → Type 0) (Ends : ℕ → Type 0)
      (target_code : (unit to : ℕ) → Leads unit to → (code : List Stmt) × (code_at piece.blocks (Some to) ≡ Some code)) where
    abbrev Serves : Type 0
    Serves = ServesReader supply halting endings greatest auto (code_of piece.blocks) place saved rules fall reader units block Leads Ends

    -- the reader has a block
    pub reader_code : Serves → (code : List Stmt) × (code_at piece.blocks (Some block) ≡ Some code)
    reader_code (by_tests none tree next has stands leads) = (need_code supply.stored reader units (Peek ∷ tree_code next tree), has)
    reader_code (by_jump none to has leads) = (need_code supply.stored reader units (Goto to ∷ []), has)
    reader_code (itself none unchecked leads) = target_code 0 block (leads 0 (omega arith))
    reader_code (at_end eof is tree next to asked has stands leads test leads_eof ends) = (Peek ∷ tree_code next tree, has)

    module _ (fits : FitsTable supply.among piece) (machine : Machine) (unit : ℕ)
        (here : slice_get stream machine.cursor ≡ Some unit) where
      -- by a check, a read and tests
      tests_enter : (tree : TestTree ℕ) (next : ℕ) → StandsFrom (code_of piece.blocks) next (inner_blocks next tree) → Leads unit (picked supply.among tree unit)
          → HasUnits (need_code supply.stored reader units (Peek ∷ tree_code next tree)) machine
          → Enters (need_code supply.stored reader units (Peek ∷ tree_code next tree)) machine (Leads unit)
      tests_enter tree next stands leads enough =
          let to = target_code unit (picked supply.among tree unit) leads in
          let checks = need_walk piece stream answers supply.stored reader units (Peek ∷ tree_code next tree) machine enough in
          record {
            block = picked supply.among tree unit;
            target = leads;
            to = to.0;
            has = to.1;
            peeks = 1;
            few = omega arith;
            state = checks.0;
            unit = Some unit;
            walks = walk_on piece stream checks.1
                (walk_on piece stream (walk_peek piece stream unit (lt-ltb machine.cursor machine.limit enough.one) here)
                (tree_walk piece stream answers supply.among fits tree next unit to.0 (record machine { state = checks.0; unit = Some unit }) refl stands to.1));
          }

      jump_enters : (to : ℕ) → Leads unit to → HasUnits (need_code supply.stored reader units (Goto to ∷ [])) machine
          → Enters (need_code supply.stored reader units (Goto to ∷ [])) machine (Leads unit)
      jump_enters to leads enough =
          let code = target_code unit to leads in
          let checks = need_walk piece stream answers supply.stored reader units (Goto to ∷ []) machine enough in
          record {
            block = to;
            target = leads;
            to = code.0;
            has = code.1;
            peeks = 0;
            few = omega arith;
            state = checks.0;
            unit = machine.unit;
            walks = walk_on piece stream checks.1
                (walk_step piece stream (Goto to) refl refl
                (goto_step piece stream [] (record machine { state = checks.0 }) answers to code.0 code.1));
          }

      -- where a unit stands at the end, a unit of the input is told apart from it
      end_enters : (eof : ℕ) (tree : TestTree ℕ) (next to asked : ℕ) → StandsFrom (code_of piece.blocks) next (inner_blocks next tree)
          → ((unit ≡ eof → ⊥) → Leads unit (picked supply.among tree unit)) → code_at piece.blocks (Some (picked supply.among tree eof)) ≡ Some (end_test asked to)
          → (unit ≡ eof → Leads unit to) → HasUnits (Peek ∷ tree_code next tree) machine → Enters (Peek ∷ tree_code next tree) machine (Leads unit)
      end_enters eof tree next to asked stands leads test leads_eof enough = by (nat_eq unit eof) refl where
        peek : Walks piece stream 1 (Peek ∷ tree_code next tree) machine answers (tree_code next tree) (record machine { unit = Some unit })
        peek = walk_peek piece stream unit (lt-ltb machine.cursor machine.limit enough.one) here

        by : (t : Bool) → nat_eq unit eof ≡ t → Enters (Peek ∷ tree_code next tree) machine (Leads unit)
        by false differs =
            let target = leads (λ same. true≢false (sym (eq-eqb unit eof same) ∙ differs)) in
            let code = target_code unit (picked supply.among tree unit) target in
            record {
              block = picked supply.among tree unit;
              target = target;
              to = code.0;
              has = code.1;
              peeks = 1;
              few = omega arith;
              state = machine.state;
              unit = Some unit;
              walks = walk_on piece stream peek
                  (tree_walk piece stream answers supply.among fits tree next unit code.0 (record machine { unit = Some unit }) refl stands code.1);
            }
        by true is =
            let same = eqb-true unit eof is in
            let code = target_code unit to (leads_eof same) in
            let tested : slice_get (code_of piece.blocks) (picked supply.among tree unit) ≡ Some (end_test asked to) =
            ap (λ n. slice_get (code_of piece.blocks) (picked supply.among tree n)) same ∙ test in
            record {
              block = to;
              target = leads_eof same;
              to = code.0;
              has = code.1;
              peeks = 1;
              few = omega arith;
              state = machine.state;
              unit = Some unit;
              walks = walk_on piece stream peek
                  (walk_on piece stream
                  (tree_walk piece stream answers supply.among fits tree next unit (end_test asked to) (record machine { unit = Some unit }) refl stands tested)
                  (walk_on piece stream
                  (walk_step piece stream (IfEnd asked) refl refl
                  (end_step piece stream asked (Goto to ∷ []) (record machine { unit = Some unit }) answers
                  (lt-leb machine.limit machine.cursor enough.one)))
                  (walk_step piece stream (Goto to) refl refl
                  (goto_step piece stream [] (record machine { unit = Some unit }) answers to code.0 code.1))));
            }

      pub reader_enters : (code : List Stmt) → Serves → code_at piece.blocks (Some block) ≡ Some code → HasUnits code machine → unit ≤ greatest
          → Enters code machine (Leads unit)
      reader_enters code (by_tests none tree next has stands leads) at enough within =
          let same : need_code supply.stored reader units (Peek ∷ tree_code next tree) ≡ code = cc in
          subst (λ (l : List Stmt). Enters l machine (Leads unit)) same
          (tests_enter tree next stands (leads unit within) (subst (λ (l : List Stmt). HasUnits l machine) (sym same) enough))
      reader_enters code (by_jump none to has leads) at enough within =
          let same : need_code supply.stored reader units (Goto to ∷ []) ≡ code = cc in
          subst (λ (l : List Stmt). Enters l machine (Leads unit)) same
          (jump_enters to (leads unit within) (subst (λ (l : List Stmt). HasUnits l machine) (sym same) enough))
      reader_enters code (itself none unchecked leads) at enough within = record {
        block = block;
        target = leads unit within;
        to = code;
        has = at;
        peeks = 0;
        few = omega arith;
        state = machine.state;
        unit = machine.unit;
        walks = stays piece stream code machine answers;
      }
      reader_enters code (at_end eof is tree next to asked has stands leads test leads_eof ends) at enough within =
          let same : Peek ∷ tree_code next tree ≡ code = cc in
          subst (λ (l : List Stmt). Enters l machine (Leads unit)) same
          (end_enters eof tree next to asked stands (leads unit within) test
          (λ e. subst (λ n. Leads n to) (sym e) (leads_eof (subst (λ n. n ≤ greatest) e within)))
          (subst (λ (l : List Stmt). HasUnits l machine) (sym same) enough))
