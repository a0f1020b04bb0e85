-- In the blocks of what reads a unit none is tested before one is read, and then it is tested no more often than its tree is deep.
use Rattle.std.specs.Prelude.{◌≡◌, ◌≢◌, ◌⊎◌, ℕ, zero, suc, ◌+◌, Bool, true, false, List, [], ◌∷◌, Option, Some, None, refl, slice_get, if◌then◌else◌}
use Rattle.std.proofs.Common.{inl, inr, sym, ap, ◌∙◌, subst, arith}
use Rattle.std.specs.List.{list_any}
use Rattle.lx_ccode.specs.States.{state_block, states_from, states_in, try_first}
use Rattle.lx_ccode.specs.Statements.{code_of}
use Rattle.lx_ccode.specs.Traces.{is_peek}
use Rattle.lx_ccode.specs.Validity.{AreOnce}
use Rattle.lx_ccode.specs.declared.piece.CodeBlock.{CodeBlock}
use Rattle.lx_ccode.specs.declared.piece.Piece.{Piece}
use Rattle.lx_ccode.specs.declared.piece.StateCase.{StateCase}
use Rattle.lx_ccode.specs.declared.piece.Stmt.{Stmt}
use Rattle.lx_ccode.specs.declared.piece.Stmt.TheVariants.{Goto, Need, Peek, State as Store}
use Rattle.lx_layout.specs.FewTests.{first_questions}
use Rattle.lx_layout.specs.Layout.{StandsFrom}
use Rattle.lx_layout.specs.SuppliedLayout.{at_end_blocks, blocks_at_end, check_blocks, read_blocks, reader_blocks, refill_blocks}
use Rattle.lx_layout.specs.Supplies.{Reader, Supply, back_code, end_test, need_code, try_code}
use Rattle.lx_dispatch.specs.TestTrees.{EachTest, TestTree, fork, leaf, switch, test}
use Rattle.lx_layout.specs.TreeCodes.{inner_blocks, tree_code}
use Rattle.lx_dispatch.proofs.SplitTrees.{each-tests}
use Rattle.lx_layout.proofs.ScannerLaws.CalmCodes.{At, UpAt, known, lower, up_asks, up_back, up_check, up_goto, up_tries}
use Rattle.lx_layout.proofs.ScannerLaws.FewSteps.{Backs, Calm, CalmAt, calm_with, checks, fewer, reads_none, reads_one, stores, stores_alone, tree_calm}
use Rattle.lx_layout.proofs.ScannerLaws.TestSorts.{Sort, all_tests, depth_of}
use Rattle.lx_layout.proofs.Supplied.StoredStates.{IsAmong, among_states, block_of-among}

-- where no state is stored at two places, the block of one that a block stores first
pub state_first : (blocks : List CodeBlock) → AreOnce (states_from 0 blocks) → (at number : ℕ) (rest : List Stmt)
    → slice_get (code_of blocks) at ≡ Some (Store number ∷ rest)
    → state_block blocks number ≡ Some (if try_first rest then suc at else at)
state_first blocks once at number rest here =
    let case : StateCase = record { state = number; block = if try_first rest then suc at else at } in
    let z : 0 + at ≡ at = omega arith in
    let among : IsAmong case (states_from 0 blocks) =
    among_states case blocks 0 at (Store number ∷ rest) here
    (λ cases. subst (λ n. IsAmong case (states_in n (Store number ∷ rest) cases)) (sym z) (inl refl)) in
    block_of-among case (states_from 0 blocks) once among

-- code that reads no unit, and asks no first question
pub record IsBare (code : List Stmt) : Type 0 where
  pub peeks : list_any is_peek code ≡ false
  pub asks : first_questions code ≡ []

module _ (piece : Piece) (supply : Supply) (reader : Reader) (units from here : ℕ) (tree : TestTree ℕ) (to : ℕ → ℕ) (end : ℕ)
    (row : StandsFrom (code_of piece.blocks) from (reader_blocks supply.stored reader supply.eof units from tree))
    (turn : StandsFrom (code_of piece.blocks) here (at_end_blocks supply reader from here to end)) where
  abbrev Stands : (block : ℕ) → List Stmt → Type 0
  Stands block code = slice_get (code_of piece.blocks) block ≡ Some code

  -- what stands in the reader's own block: nothing of its own, a jump behind a check, or what reads
  pub data Home : Type 0 where
    plain : supply.eof ≡ None → units ≡ 0 → (block : ℕ) → tree ≡ leaf block → Home
    checked : (block : ℕ) → tree ≡ leaf block → slice_get (code_of piece.blocks) from ≡ Some (need_code supply.stored reader units (Goto block ∷ [])) → Home
    reading : (count : ℕ)
        → slice_get (code_of piece.blocks) from ≡ Some (need_code supply.stored reader count (Peek ∷ tree_code (suc from) tree))
        → StandsFrom (code_of piece.blocks) (suc from) (inner_blocks (suc from) tree) → Home

  pub home : Home
  home = by supply.eof refl tree refl row
    where
      checks_of : supply.eof ≡ None → (n block : ℕ) → units ≡ n → tree ≡ leaf block
          → StandsFrom (code_of piece.blocks) from (check_blocks supply.stored reader n block) → Home
      checks_of none zero block e is h = plain none e block is
      checks_of none (suc n) block e is h =
          checked block is (h.0 ∙ ap (λ k. Some (need_code supply.stored reader k (Goto block ∷ []))) (sym e))

      reads_of : (n : ℕ) (given : TestTree ℕ) → tree ≡ given
          → StandsFrom (code_of piece.blocks) from (read_blocks supply.stored reader n from given) → Home
      reads_of n given is h =
          let there : StandsFrom (code_of piece.blocks) from (read_blocks supply.stored reader n from tree) =
          subst (λ t. StandsFrom (code_of piece.blocks) from (read_blocks supply.stored reader n from t)) (sym is) h in
          reading n there.0 there.1

      by : (eof : Option ℕ) → supply.eof ≡ eof → (given : TestTree ℕ) → tree ≡ given
          → StandsFrom (code_of piece.blocks) from (reader_blocks supply.stored reader eof units from given) → Home
      by None none (leaf block) is h = checks_of none units block refl is h
      by None none (test question block high) is h = reads_of units (test question block high) is h
      by None none (fork question low high) is h = reads_of units (fork question low high) is h
      by None none (switch cases last) is h = reads_of units (switch cases last) is h
      by (Some unit) at given is h = reads_of 0 given is h

  none_check : (back : Option (Reader → ℕ)) (count block : ℕ) → list_any is_peek (need_code back reader count (Goto block ∷ [])) ≡ false
  none_check back zero block = refl
  none_check None (suc count) block = refl
  none_check (Some number) (suc count) block = refl

  -- a check asks nothing of a unit
  check_asks : (back : Option (Reader → ℕ)) (count : ℕ) (code : List Stmt) → first_questions (need_code back reader count code) ≡ first_questions code
  check_asks back zero code = refl
  check_asks None (suc count) code = refl
  check_asks (Some number) (suc count) code = refl

  -- the first questions in it are those of the tree, if it reads a unit
  pub home_asks : (supply.eof ≡ None → units ≡ 0 → (block : ℕ) → tree ≡ leaf block → (code : List Stmt)
      → slice_get (code_of piece.blocks) from ≡ Some code → IsBare code)
      → (code : List Stmt) → slice_get (code_of piece.blocks) from ≡ Some code
      → IsBare code ⊎ (first_questions code ≡ first_questions (tree_code (suc from) tree))
  home_asks itself code here = by home
    where
      by : Home → IsBare code ⊎ (first_questions code ≡ first_questions (tree_code (suc from) tree))
      by (plain none zeroth block is) = inl (itself none zeroth block is code here)
      by (checked block is at) =
          let same : need_code supply.stored reader units (Goto block ∷ []) ≡ code = cc in
          inl (subst (λ l. IsBare l) same
          (record { peeks = none_check supply.stored units block; asks = check_asks supply.stored units (Goto block ∷ []) }))
      by (reading count at inner) =
          let same : need_code supply.stored reader count (Peek ∷ tree_code (suc from) tree) ≡ code = cc in
          inr (ap (λ l. first_questions l) (sym same) ∙ check_asks supply.stored count (Peek ∷ tree_code (suc from) tree))

  -- ---- where the end was read

  -- a refill is tried, and a state is stored before it
  module _ (number : Reader → ℕ) (tries : supply.tries ≡ true) (same : supply.stored ≡ Some number) (unit : ℕ) (some : supply.eof ≡ Some unit) where
    turned : StandsFrom (code_of piece.blocks) here (refill_blocks supply.stored reader true (Some number) from here (to unit) end)
    turned =
        subst (λ o. StandsFrom (code_of piece.blocks) here (refill_blocks supply.stored reader true o from here (to unit) end)) same
        (subst (λ t. StandsFrom (code_of piece.blocks) here (refill_blocks supply.stored reader t supply.stored from here (to unit) end)) tries
        (subst (λ o. StandsFrom (code_of piece.blocks) here (blocks_at_end supply.stored reader o supply.tries from here to end)) some turn))

    -- the scanner comes back right behind that block
    pub turn_back : AreOnce (states_from 0 piece.blocks) → state_block piece.blocks (number reader) ≡ Some (suc (suc here))
    turn_back once = state_first piece.blocks once (suc here) (number reader) _ (let h = turned in h.1.0)

    pub back_calm : (stream : List ℕ) (Stored : ℕ → Type 0) (n : ℕ) → At piece stream Stored n from → At piece stream Stored n end
        → UpAt piece stream Stored n (suc (suc here))
    back_calm stream Stored n own ends =
        let h = turned in
        known piece stream Stored n (suc (suc here)) (back_code from end) h.1.1.0 (up_back piece stream Stored n from end own ends)

  module _ (stream : List ℕ) (Stored : ℕ → Type 0) (n : ℕ) (own : At piece stream Stored n from) (backs : Backs all_tests piece stream Stored 0 0 n) where
    pub turn_calm : (unit : ℕ) → supply.eof ≡ Some unit → ((number : Reader → ℕ) → supply.tries ≡ true → supply.stored ≡ Some number → Stored (number reader))
        → At piece stream Stored n (to unit) → At piece stream Stored n end → UpAt piece stream Stored n here
    turn_calm unit some stored leads ends =
        by supply.tries supply.stored refl refl
        (subst (λ o. StandsFrom (code_of piece.blocks) here (blocks_at_end supply.stored reader o supply.tries from here to end)) some turn)
      where
        asked : (back : Option (Reader → ℕ)) → supply.tries ≡ true → supply.stored ≡ back → Stands (suc here) (try_code back reader from end)
            → At piece stream Stored n (suc here)
        asked back tries same h =
            lower piece stream Stored n (suc here)
            (known piece stream Stored n (suc here) (try_code back reader from end) h
            (up_tries piece stream Stored n back reader from end (λ number is. stored number tries (same ∙ is)) backs own ends))

        by : (tries : Bool) (back : Option (Reader → ℕ)) → supply.tries ≡ tries → supply.stored ≡ back
            → StandsFrom (code_of piece.blocks) here (refill_blocks supply.stored reader tries back from here (to unit) end) → UpAt piece stream Stored n here
        by false back tried same h = known piece stream Stored n here (end_test end (to unit)) h.0 (up_asks piece stream Stored n end (to unit) ends leads)
        by true None tried same h =
            known piece stream Stored n here (end_test (suc here) (to unit)) h.0
            (up_asks piece stream Stored n (suc here) (to unit) (asked None tried same h.1.0) leads)
        by true (Some number) tried same h =
            known piece stream Stored n here (end_test (suc here) (to unit)) h.0
            (up_asks piece stream Stored n (suc here) (to unit) (asked (Some number) tried same h.1.0) leads)

  -- ---- the reader's own block

  once_at : AreOnce (states_from 0 piece.blocks) → (number : Reader → ℕ) → supply.stored ≡ Some number → (count : ℕ) → 0 ≢ count → (rest : List Stmt)
      → slice_get (code_of piece.blocks) from ≡ Some (need_code supply.stored reader count rest) → state_block piece.blocks (number reader) ≡ Some from
  once_at once number same zero some rest at = absurd (some refl)
  once_at once number same (suc count) some rest at =
      state_first piece.blocks once from (number reader) (Need (suc count) ∷ rest)
      (at ∙ ap (λ o. Some (need_code o reader (suc count) rest)) same)

  -- where states are stored, none is at two places
  module _ (once : (number : Reader → ℕ) → supply.stored ≡ Some number → AreOnce (states_from 0 piece.blocks)) (stream : List ℕ) (Stored : ℕ → Type 0)
      (stored : (number : Reader → ℕ) → supply.stored ≡ Some number → state_block piece.blocks (number reader) ≡ Some from → Stored (number reader)) where
    pub home_calm : (n : ℕ) → Backs all_tests piece stream Stored 0 0 n
        → (supply.eof ≡ None → units ≡ 0 → (block : ℕ) → tree ≡ leaf block → UpAt piece stream Stored n from)
        → EachTest (λ unit. Unit {0}) (At piece stream Stored n) tree → UpAt piece stream Stored n from
    home_calm n backs itself leads = by home
      where
        by : Home → UpAt piece stream Stored n from
        by (plain none zeroth block is) = itself none zeroth block is
        by (checked block is at) =
            let to_block : EachTest (λ unit. Unit {0}) (At piece stream Stored n) (leaf block) =
            subst (λ t. EachTest (λ unit. Unit {0}) (At piece stream Stored n) t) is leads in
            known piece stream Stored n from (need_code supply.stored reader units (Goto block ∷ [])) at
            (up_check piece stream Stored n supply.stored reader units (Goto block ∷ [])
            (λ number same some. stored number same (once_at (once number same) number same units some (Goto block ∷ []) at)) backs
            (up_goto piece stream Stored n block to_block))
        by (reading count at inner) =
            let rest : List Stmt = Peek ∷ tree_code (suc from) tree in
            known piece stream Stored n from (need_code supply.stored reader count (Peek ∷ tree_code (suc from) tree)) at
            (up_check piece stream Stored n supply.stored reader count (Peek ∷ tree_code (suc from) tree)
            (λ number same some. stored number same (once_at (once number same) number same count some (Peek ∷ tree_code (suc from) tree) at)) backs
            (reads_none all_tests piece stream Stored 0 (suc n) (tree_code (suc from) tree)))

    -- ---- where a unit is read

    module _ (sort : Sort) (leads : (n : ℕ) → EachTest (λ unit. Unit {0}) (At piece stream Stored n) tree) (never : supply.stored ≡ None → (state : ℕ) → Stored state → ⊥)
        (inner : StandsFrom (code_of piece.blocks) (suc from) (inner_blocks (suc from) tree)) where
      -- whatever of these states is stored
      module _ (Others : ℕ → Type 0) (own : (state : ℕ) → Others state → Stored state) where
        peek_one : (n : ℕ) → Calm sort piece stream Others 1 (depth_of sort tree) n (Peek ∷ tree_code (suc from) tree)
        peek_one n =
            fewer sort piece stream Others 1 (depth_of sort tree) n (Peek ∷ tree_code (suc from) tree)
            (reads_one sort piece stream Others (depth_of sort tree) n (tree_code (suc from) tree)
            (tree_calm sort piece stream Others n tree (suc from) inner
            (each-tests (λ unit. Unit {0}) (λ unit. Unit {0}) (At piece stream Stored n) (CalmAt sort piece stream Others 0 0 n) (λ unit any. any)
            (λ block h code at. calm_with sort piece stream Stored Others own 0 0 n code (h code at)) tree (leads n))))

      still : (Others : ℕ → Type 0) (code : List Stmt) → Calm sort piece stream Others 1 (depth_of sort tree) 0 code
      still Others code zero le machine answers ok few = omega arith
      still Others code (suc steps) le machine answers ok few = absurd (omega (arith, le))

      module _ (number : Reader → ℕ) (count : ℕ) (back : state_block piece.blocks (number reader) ≡ Some from)
          (at : slice_get (code_of piece.blocks) from ≡ Some (Store (number reader) ∷ Need (suc count) ∷ Peek ∷ tree_code (suc from) tree))
          (own : Stored (number reader)) where
        abbrev Own : ℕ → Type 0
        Own state = state ≡ number reader

        abbrev behind : List Stmt
        behind = Need (suc count) ∷ Peek ∷ tree_code (suc from) tree

        -- it comes back to the reader's own block
        come_back_one : (n : ℕ) → Calm sort piece stream Own 1 (depth_of sort tree) n (Store (number reader) ∷ behind) → Backs sort piece stream Own 1 (depth_of sort tree) n
        come_back_one n again state block same e code there =
            let first : state_block piece.blocks state ≡ Some from = subst (λ k. state_block piece.blocks k ≡ Some from) (sym same) back in
            let home_block : block ≡ from = cc in
            let here : slice_get (code_of piece.blocks) from ≡ Some code = subst (λ b. slice_get (code_of piece.blocks) b ≡ Some code) home_block there in
            let whole : Store (number reader) ∷ Need (suc count) ∷ Peek ∷ tree_code (suc from) tree ≡ code = cc in
            subst (λ l. Calm sort piece stream Own 1 (depth_of sort tree) n l) whole again

        stored_one : (n : ℕ) → Calm sort piece stream Own 1 (depth_of sort tree) n behind × Calm sort piece stream Own 1 (depth_of sort tree) n (Store (number reader) ∷ behind)
        stored_one zero = (still Own behind, still Own (Store (number reader) ∷ behind))
        stored_one (suc n) =
            let again = stored_one n in (
              checks sort piece stream Own 1 (depth_of sort tree) n (suc count) (Peek ∷ tree_code (suc from) tree) (come_back_one n again.1)
                  (peek_one Own (λ state same. subst Stored (sym same) own) n),
              stores sort piece stream Own 1 (depth_of sort tree) n (number reader) behind refl again.0,
            )

        one_stored : (n : ℕ) → Calm sort piece stream Stored 1 (depth_of sort tree) n (Store (number reader) ∷ Need (suc count) ∷ Peek ∷ tree_code (suc from) tree)
        one_stored n =
            fewer sort piece stream Stored 1 (depth_of sort tree) n (Store (number reader) ∷ Need (suc count) ∷ Peek ∷ tree_code (suc from) tree)
            (stores_alone sort piece stream Stored 1 (depth_of sort tree) n (number reader) behind (stored_one n).0)

      one_read : (n count : ℕ) → slice_get (code_of piece.blocks) from ≡ Some (need_code supply.stored reader count (Peek ∷ tree_code (suc from) tree))
          → Calm sort piece stream Stored 1 (depth_of sort tree) n (need_code supply.stored reader count (Peek ∷ tree_code (suc from) tree))
      one_read n zero at = peek_one Stored (λ state h. h) n
      one_read n (suc count) at = by supply.stored refl at
        where
          by : (back : Option (Reader → ℕ)) → supply.stored ≡ back
              → slice_get (code_of piece.blocks) from ≡ Some (need_code back reader (suc count) (Peek ∷ tree_code (suc from) tree))
              → Calm sort piece stream Stored 1 (depth_of sort tree) n (need_code back reader (suc count) (Peek ∷ tree_code (suc from) tree))
          by None same at =
              fewer sort piece stream Stored 1 (depth_of sort tree) n (Need (suc count) ∷ Peek ∷ tree_code (suc from) tree)
              (checks sort piece stream Stored 1 (depth_of sort tree) n (suc count) (Peek ∷ tree_code (suc from) tree) (λ state block is e. absurd (never same state is))
              (peek_one Stored (λ state h. h) n))
          by (Some number) same at =
              let back = state_first piece.blocks (once number same) from (number reader) (Need (suc count) ∷ Peek ∷ tree_code (suc from) tree) at in
              one_stored number count back at (stored number same back) n

    -- from the reader's own block on, if it reads a unit
    pub one_calm : (sort : Sort) (leads : (n : ℕ) → EachTest (λ unit. Unit {0}) (At piece stream Stored n) tree) → (supply.stored ≡ None → (state : ℕ) → Stored state → ⊥)
        → (supply.eof ≡ None → units ≡ 0 → (block : ℕ) → tree ≡ leaf block → (code : List Stmt) → Stands from code → list_any is_peek code ≡ false)
        → (n : ℕ) (code : List Stmt) → slice_get (code_of piece.blocks) from ≡ Some code
        → (list_any is_peek code ≡ false) ⊎ Calm sort piece stream Stored 1 (depth_of sort tree) n code
    one_calm sort leads never itself n code here = by home
      where
        by : Home → (list_any is_peek code ≡ false) ⊎ Calm sort piece stream Stored 1 (depth_of sort tree) n code
        by (plain none zeroth block is) = inl (itself none zeroth block is code here)
        by (checked block is at) =
            let same : need_code supply.stored reader units (Goto block ∷ []) ≡ code = cc in
            inl (ap (λ l. list_any is_peek l) (sym same) ∙ none_check supply.stored units block)
        by (reading count at inner) =
            let same : need_code supply.stored reader count (Peek ∷ tree_code (suc from) tree) ≡ code = cc in
            inr (subst (λ l. Calm sort piece stream Stored 1 (depth_of sort tree) n l) same (one_read sort leads never inner n count at))
