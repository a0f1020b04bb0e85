-- Code that names blocks so many places further on, and stored states by greater numbers, is the same code, moved so far.
use Rattle.std.specs.Prelude.{◌≡◌, ℕ, zero, suc, ◌+◌, Bool, true, false, List, [], ◌∷◌, ◌++◌, map, Option, Some, None, refl}
use Rattle.std.proofs.Common.{ap, ap₂, ◌∙◌, sym, arith}
use Rattle.std.proofs.lemmas.List.{map-append}
use Rattle.lx_auto.specs.declared.automaton.Accept.{Accept}
use Rattle.lx_auto.specs.declared.automaton.Auto.{Auto}
use Rattle.lx_auto.specs.declared.automaton.Edge.{Edge}
use Rattle.lx_auto.specs.declared.automaton.State.{State}
use Rattle.lx_auto.specs.declared.ops.Op.{Op}
use Rattle.lx_auto.specs.declared.ops.Op.TheVariants.{Here, Null, Copy, MHere, MNull, MCopy}
use Rattle.lx_ccode.specs.declared.piece.Stmt.{Stmt}
use Rattle.lx_ccode.specs.declared.piece.Stmt.TheVariants.{Accept as SaveAccept, Backup, Goto, IfAccept, IfEnd, Leave, Need, Skip, State as Store, Try}
use Rattle.lx_sequence.specs.ParallelCopies.{sequentialized}
use Rattle.lx_layout.specs.Codes.{accept_code, list_code, op_code, ops_code, restore_code, save_code}
use Rattle.lx_layout.specs.Copies.{StoredBehind, moved, moved_codes}
use Rattle.lx_layout.specs.Fallback.{edge_code, fallback_code}
use Rattle.lx_layout.specs.Halting.{Halting, any_falls, saved_accepts, saves_on, kept_number}
use Rattle.lx_layout.specs.Layout.{choices_from, end_blocks, lone_blocks, lone_code, own_blocks, restore_blocks}
use Rattle.lx_layout.specs.SuppliedLayout.{class_blocks, fallback_part, kept}
use Rattle.lx_layout.specs.Supplies.{Reader, back_code, end_test, need_code, store_code, try_code}

module _ (by stored : ℕ) where
  -- ---- blocks one behind another

  pub append-moved : (first others first_on others_on : List (List Stmt)) → first_on ≡ moved_codes by stored first
      → others_on ≡ moved_codes by stored others
      → first_on ++ others_on ≡ moved_codes by stored (first ++ others)
  append-moved first others first_on others_on e f =
      ap₂ (λ a b. a ++ b) e f ∙ sym (map-append (λ code. map (moved by stored) code) first others)

  pub kept-moved : (t : Bool) (codes codes_on : List (List Stmt)) → codes_on ≡ moved_codes by stored codes
      → kept t codes_on ≡ moved_codes by stored (kept t codes)
  kept-moved false codes codes_on e = refl
  kept-moved true codes codes_on e = e

  -- ---- operations

  op_code-moved : (op : Op) → op_code op ≡ moved by stored (op_code op)
  op_code-moved (Here reg) = refl
  op_code-moved (Null reg) = refl
  op_code-moved (Copy reg source) = refl
  op_code-moved (MHere mreg) = refl
  op_code-moved (MNull mreg) = refl
  op_code-moved (MCopy mreg source) = refl

  ops_code-moved : (ops : List Op) (rest rest_on : List Stmt) → rest_on ≡ map (moved by stored) rest
      → ops_code ops rest_on ≡ map (moved by stored) (ops_code ops rest)
  ops_code-moved [] rest rest_on e = e
  ops_code-moved (op ∷ ops) rest rest_on e = ap₂ (λ a b. a ∷ b) (op_code-moved op) (ops_code-moved ops rest rest_on e)

  list_code-moved : (auto : Auto) (ops : List Op) (rest rest_on : List Stmt) → rest_on ≡ map (moved by stored) rest
      → list_code auto ops rest_on ≡ map (moved by stored) (list_code auto ops rest)
  list_code-moved auto ops rest rest_on e = ops_code-moved (sequentialized auto.regs auto.mregs ops) rest rest_on e

  save_code-moved : (saves : Bool) (saved : Option ℕ) (rest rest_on : List Stmt) → rest_on ≡ map (moved by stored) rest
      → save_code saves saved rest_on ≡ map (moved by stored) (save_code saves saved rest)
  save_code-moved false saved rest rest_on e = e
  save_code-moved true None rest rest_on e = ap (λ code. Backup ∷ code) e
  save_code-moved true (Some saved) rest rest_on e = ap (λ code. Backup ∷ SaveAccept saved ∷ code) e

  -- ---- edges, and the ends of matches

  edge_code-moved : (halting : Halting) (auto : Auto) (given : State) (saved : Option ℕ) (edge : Edge) (block block_on : ℕ) → block_on ≡ block + by
      → edge_code halting auto given saved edge block_on ≡ map (moved by stored) (edge_code halting auto given saved edge block)
  edge_code-moved halting auto given saved edge block block_on e =
      save_code-moved (saves_on halting given edge) saved (list_code auto given.leave (list_code auto edge.ops (Skip ∷ Goto block ∷ [])))
      (list_code auto given.leave (list_code auto edge.ops (Skip ∷ Goto block_on ∷ [])))
      (list_code-moved auto given.leave (list_code auto edge.ops (Skip ∷ Goto block ∷ []))
      (list_code auto edge.ops (Skip ∷ Goto block_on ∷ []))
      (list_code-moved auto edge.ops (Skip ∷ Goto block ∷ []) (Skip ∷ Goto block_on ∷ []) (ap (λ n. Skip ∷ Goto n ∷ []) e)))

  pub class_blocks-moved : (halting : Halting) (auto : Auto) (saved : List Accept) (place place_on : ℕ → ℕ)
      → ((n : ℕ) → place_on n ≡ place n + by)
      → (given : State) (classes : List Edge)
      → class_blocks halting auto saved place_on given classes ≡ moved_codes by stored (class_blocks halting auto saved place given classes)
  class_blocks-moved halting auto saved place place_on e given [] = refl
  class_blocks-moved halting auto saved place place_on e given (class ∷ classes) =
      ap₂ (λ a b. a ∷ b)
      (edge_code-moved halting auto given (kept_number halting saved given.accept) class (place class.to) (place_on class.to) (e class.to))
      (class_blocks-moved halting auto saved place place_on e given classes)

  accept_code-moved : (auto : Auto) (ops : List Op) (block block_on : ℕ) → block_on ≡ block + by
      → accept_code auto ops block_on ≡ map (moved by stored) (accept_code auto ops block)
  accept_code-moved auto ops block block_on e = list_code-moved auto ops (Goto block ∷ []) (Goto block_on ∷ []) (ap (λ n. Goto n ∷ []) e)

  -- the blocks of the rules' ends and of the fallback are moved
  module _ (auto : Auto) (rules rules_on : ℕ → ℕ) (fall fall_on : ℕ) (rules_move : (n : ℕ) → rules_on n ≡ rules n + by)
      (fall_moves : fall_on ≡ fall + by) where
    own_blocks-moved : (block block_on : ℕ) → block_on ≡ block + by → (ops : List Op)
        → own_blocks auto rules_on fall_on block_on ops ≡ moved_codes by stored (own_blocks auto rules fall block ops)
    own_blocks-moved block block_on e [] = refl
    own_blocks-moved block block_on e (op ∷ ops) = ap (λ code. code ∷ []) (accept_code-moved auto (op ∷ ops) block block_on e)

    pub end_blocks-moved : (accept : Option Accept)
        → end_blocks auto rules_on fall_on accept ≡ moved_codes by stored (end_blocks auto rules fall accept)
    end_blocks-moved None = refl
    end_blocks-moved (Some accept) = own_blocks-moved (rules accept.rule) (rules_on accept.rule) (rules_move accept.rule) accept.ops

    lone_code-moved : (accept : Option Accept)
        → lone_code auto rules_on fall_on accept ≡ map (moved by stored) (lone_code auto rules fall accept)
    lone_code-moved None = ap (λ n. Goto n ∷ []) fall_moves
    lone_code-moved (Some accept) = accept_code-moved auto accept.ops (rules accept.rule) (rules_on accept.rule) (rules_move accept.rule)

    pub lone_blocks-moved : (number : ℕ) (accept : Option Accept)
        → lone_blocks auto rules_on fall_on number accept ≡ moved_codes by stored (lone_blocks auto rules fall number accept)
    lone_blocks-moved zero accept = ap (λ code. code ∷ []) (lone_code-moved accept)
    lone_blocks-moved (suc number) accept = end_blocks-moved accept

  -- ---- the fallback

  fallback_code-moved : (leaves : Bool) (saved block block_on : ℕ) → block_on ≡ block + by → (accepts : List Accept)
      → fallback_code leaves (choices_from saved block_on accepts)
      ≡ map (moved by stored) (fallback_code leaves (choices_from saved block accepts))
  fallback_code-moved leaves saved block block_on e [] = refl
  fallback_code-moved true saved block block_on e (accept ∷ []) = ap (λ n. IfAccept saved n ∷ Leave ∷ []) e
  fallback_code-moved false saved block block_on e (accept ∷ []) = ap (λ n. Goto n ∷ []) e
  fallback_code-moved leaves saved block block_on e (accept ∷ next ∷ accepts) =
      ap₂ (λ n code. IfAccept saved n ∷ code) e
      (fallback_code-moved leaves (suc saved) (suc block) (suc block_on) (omega (arith, e)) (next ∷ accepts))

  pub fallback_part-moved : (halting : Halting) (auto : Auto) (first first_on : ℕ) → first_on ≡ first + by
      → fallback_part halting auto first_on ≡ moved_codes by stored (fallback_part halting auto first)
  fallback_part-moved halting auto first first_on e =
      let accepts : List Accept = saved_accepts halting auto.states in
      kept-moved (any_falls halting 0 auto.states) (fallback_code (halting.falls 0) (choices_from 1 first accepts) ∷ [])
      (fallback_code (halting.falls 0) (choices_from 1 first_on accepts) ∷ [])
      (ap (λ code. code ∷ []) (fallback_code-moved (halting.falls 0) 1 first first_on e accepts))

  pub restore_blocks-moved : (rules rules_on : ℕ → ℕ) → ((n : ℕ) → rules_on n ≡ rules n + by) → (accepts : List Accept)
      → restore_blocks rules_on accepts ≡ moved_codes by stored (restore_blocks rules accepts)
  restore_blocks-moved rules rules_on e [] = refl
  restore_blocks-moved rules rules_on e (accept ∷ accepts) =
      ap₂ (λ n codes. restore_code n ∷ codes) (e accept.rule) (restore_blocks-moved rules rules_on e accepts)

  -- ---- checks for units and refills

  -- what reads is stored by greater numbers
  module _ (numbers numbers_on : Option (Reader → ℕ)) (numbers_move : StoredBehind stored numbers_on numbers) (reader : Reader) where
    store_code-moved : (numbers numbers_on : Option (Reader → ℕ)) → StoredBehind stored numbers_on numbers
        → (rest rest_on : List Stmt) → rest_on ≡ map (moved by stored) rest
        → store_code numbers_on reader rest_on ≡ map (moved by stored) (store_code numbers reader rest)
    store_code-moved None None behind rest rest_on e = e
    store_code-moved None (Some number_on) behind rest rest_on e = absurd behind
    store_code-moved (Some number) None behind rest rest_on e = absurd behind
    store_code-moved (Some number) (Some number_on) behind rest rest_on e = ap₂ (λ n code. Store n ∷ code) (behind reader) e

    pub need_code-moved : (units : ℕ) (rest rest_on : List Stmt) → rest_on ≡ map (moved by stored) rest
        → need_code numbers_on reader units rest_on ≡ map (moved by stored) (need_code numbers reader units rest)
    need_code-moved zero rest rest_on e = e
    need_code-moved (suc units) rest rest_on e =
        store_code-moved numbers numbers_on numbers_move (Need (suc units) ∷ rest) (Need (suc units) ∷ rest_on)
        (ap (λ code. Need (suc units) ∷ code) e)

    pub try_code-moved : (block block_on end end_on : ℕ) → block_on ≡ block + by → end_on ≡ end + by
        → try_code numbers_on reader block_on end_on ≡ map (moved by stored) (try_code numbers reader block end)
    try_code-moved block block_on end end_on e f =
        store_code-moved numbers numbers_on numbers_move (Try block ∷ Goto end ∷ []) (Try block_on ∷ Goto end_on ∷ [])
        (ap₂ (λ a b. Try a ∷ Goto b ∷ []) e f)

  pub end_test-moved : (asked asked_on to to_on : ℕ) → asked_on ≡ asked + by → to_on ≡ to + by
      → end_test asked_on to_on ≡ map (moved by stored) (end_test asked to)
  end_test-moved asked asked_on to to_on e f = ap₂ (λ a b. IfEnd a ∷ Goto b ∷ []) e f

  pub back_code-moved : (block block_on end end_on : ℕ) → block_on ≡ block + by → end_on ≡ end + by
      → back_code block_on end_on ≡ map (moved by stored) (back_code block end)
  back_code-moved block block_on end end_on e f = ap₂ (λ a b. IfEnd b ∷ Goto a ∷ []) e f
