-- Where the blocks lead of what reads a unit, and that each of them is led to.
use Rattle.std.specs.Prelude.{◌≡◌, ℕ, zero, suc, Bool, true, false, List, [], ◌∷◌, Option, Some, None, refl, slice_get}
use Rattle.std.proofs.Common.{sym, subst}
use Rattle.lx_ccode.specs.declared.piece.Stmt.{Stmt}
use Rattle.lx_ccode.specs.declared.piece.Stmt.TheVariants.{Goto, Peek, State as Store, Try}
use Rattle.lx_dispatch.specs.TestTrees.{TestTree, fork, leaf, picked, switch, test}
use Rattle.lx_layout.specs.Layout.{StandsFrom}
use Rattle.lx_layout.specs.SuppliedLayout.{at_end_blocks, blocks_at_end, check_blocks, read_blocks, reader_blocks, refill_blocks}
use Rattle.lx_layout.specs.Supplies.{Reader, Supply, end_test, need_code, try_code}
use Rattle.lx_layout.specs.TreeCodes.{tree_code}
use Rattle.lx_layout.proofs.LiveBlocks.LedCodes.{Leads, leads-end_test, leads-need, leads-try}
use Rattle.lx_layout.proofs.LiveBlocks.LedTrees.{AllFrom, EachWay, led-tree, way-picked}

-- A sort of blocks is closed: each statement of a block of it leads to others of it, and a scanner that was left before it tried a refill
-- comes back to such a one.
pub record IsClosed (R : ℕ → Type 0) (blocks : List (List Stmt)) : Type 0 where
  pub goes : (block : ℕ) (code : List Stmt) → slice_get blocks block ≡ Some code → R block → Leads R code
  pub comes : (block state to end : ℕ) → slice_get blocks block ≡ Some (Store state ∷ Try to ∷ Goto end ∷ []) → R block → R (suc block)

module _ (R : ℕ → Type 0) (blocks : List (List Stmt)) (closed : IsClosed R blocks) where
  -- the blocks for its tests: those that come behind its own one, and all to which they lead
  module _ (stored : Option (Reader → ℕ)) (reader : Reader) where
    led-read : (units from : ℕ) (tree : TestTree ℕ) → R from → StandsFrom blocks from (read_blocks stored reader units from tree)
        → AllFrom R from (read_blocks stored reader units from tree) × EachWay R tree
    led-read units from tree own stands =
        let behind : Leads R (Peek ∷ tree_code (suc from) tree) =
        leads-need R stored reader units (Peek ∷ tree_code (suc from) tree)
        (closed.goes from (need_code stored reader units (Peek ∷ tree_code (suc from) tree)) stands.0 own) in
        let led = led-tree R blocks closed.goes (suc from) tree behind.1 stands.1 in
        ((own, led.0), led.1)

    -- a tree that is no test leads to the block that comes next
    pub led-reader : (eof : Option ℕ) (units from : ℕ) (tree : TestTree ℕ)
        → (eof ≡ None → units ≡ 0 → (block : ℕ) → tree ≡ leaf block → block ≡ from)
        → R from → StandsFrom blocks from (reader_blocks stored reader eof units from tree)
        → AllFrom R from (reader_blocks stored reader eof units from tree) × EachWay R tree
    led-reader None units from (leaf block) next own stands = by units refl stands
      where
        by : (n : ℕ) → units ≡ n → StandsFrom blocks from (check_blocks stored reader n block)
            → AllFrom R from (check_blocks stored reader n block) × R block
        by zero is stands = (tt, subst R (sym (next refl is block refl)) own)
        by (suc n) is stands =
            let behind : Leads R (Goto block ∷ []) =
            leads-need R stored reader (suc n) (Goto block ∷ [])
            (closed.goes from (need_code stored reader (suc n) (Goto block ∷ [])) stands.0 own) in
            ((own, tt), behind.0.0)
    led-reader None units from (test question block high) next own stands = led-read units from (test question block high) own stands
    led-reader None units from (fork question low high) next own stands = led-read units from (fork question low high) own stands
    led-reader None units from (switch cases last) next own stands = led-read units from (switch cases last) own stands
    led-reader (Some eof) units from tree next own stands = led-read 0 from tree own stands

    -- the blocks for the end of the input, from the one on that tells it apart
    led-refill : (tries : Bool) (back : Option (Reader → ℕ)) (block here to end : ℕ) → R here
        → StandsFrom blocks here (refill_blocks stored reader tries back block here to end)
        → AllFrom R here (refill_blocks stored reader tries back block here to end) × R to × R end
    led-refill false back block here to end own stands =
        let led = leads-end_test R end to (closed.goes here (end_test end to) stands.0 own) in ((own, tt), led.1, led.0)
    led-refill true None block here to end own stands =
        let led = leads-end_test R (suc here) to (closed.goes here (end_test (suc here) to) stands.0 own) in
        let ended = leads-try R None reader block end (closed.goes (suc here) (try_code None reader block end) stands.1.0 led.0) in
        ((own, (led.0, tt)), led.1, ended)
    led-refill true (Some number) block here to end own stands =
        let led = leads-end_test R (suc here) to (closed.goes here (end_test (suc here) to) stands.0 own) in
        let ended =
        leads-try R (Some number) reader block end (closed.goes (suc here) (try_code (Some number) reader block end) stands.1.0 led.0) in
        ((own, (led.0, (closed.comes (suc here) (number reader) block end stands.1.0 led.0, tt))), led.1, ended)

    pub led-end : (eof : Option ℕ) (tries : Bool) (block here : ℕ) (to : ℕ → ℕ) (end : ℕ) → ((unit : ℕ) → eof ≡ Some unit → R here)
        → StandsFrom blocks here (blocks_at_end stored reader eof tries block here to end)
        → AllFrom R here (blocks_at_end stored reader eof tries block here to end) × ((unit : ℕ) → eof ≡ Some unit → R (to unit) × R end)
    led-end None tries block here to end own stands = (tt, λ unit none. absurd (cc))
    led-end (Some eof) tries block here to end own stands =
        let led = led-refill tries stored block here (to eof) end (own eof refl) stands in
        (led.0, λ unit is. let same : eof ≡ unit = cc in (subst (λ u. R (to u)) same led.1, led.2))

  -- ---- the whole

  -- the blocks of a reader, and where units lead: each by its way, and the one at the end behind the block that tells it apart
  pub record IsLedReader (supply : Supply) (reader : Reader) (units from here : ℕ) (tree : TestTree ℕ) (to : ℕ → ℕ) (end : ℕ) : Type 0 where
    pub tests : AllFrom R from (reader_blocks supply.stored reader supply.eof units from tree)
    pub turn : AllFrom R here (at_end_blocks supply reader from here to end)
    pub ways : (unit : ℕ) → R (picked supply.among tree unit)
    pub ends : (unit : ℕ) → supply.eof ≡ Some unit → R (to unit) × R end

  pub reader_led : (supply : Supply) (reader : Reader) (units from here : ℕ) (tree : TestTree ℕ) (to : ℕ → ℕ) (end : ℕ)
      → (supply.eof ≡ None → units ≡ 0 → (block : ℕ) → tree ≡ leaf block → block ≡ from)
      → ((unit : ℕ) → supply.eof ≡ Some unit → picked supply.among tree unit ≡ here) → R from
      → StandsFrom blocks from (reader_blocks supply.stored reader supply.eof units from tree)
      → StandsFrom blocks here (at_end_blocks supply reader from here to end) → IsLedReader supply reader units from here tree to end
  reader_led supply reader units from here tree to end next apart own stands turns =
      let led = led-reader supply.stored reader supply.eof units from tree next own stands in
      let ended = led-end supply.stored reader supply.eof supply.tries from here to end
      (λ unit is. subst R (apart unit is) (way-picked R supply.among tree unit led.1)) turns in
      record { tests = led.0; turn = ended.0; ways = λ unit. way-picked R supply.among tree unit led.1; ends = ended.1 }
