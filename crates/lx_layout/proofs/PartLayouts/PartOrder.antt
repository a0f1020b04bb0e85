-- Scanners stand one behind another, each with its condition at its first block.
use Rattle.std.specs.Prelude.{◌≡◌, ℕ, suc, ◌+◌, ◌<◌, ◌≤◌, Bool, true, false, List, [], ◌∷◌, ◌++◌, length, Option, Some, None, refl, if◌then◌else◌}
use Rattle.std.proofs.Common.{◌∙◌, ap, arith, length-append, subst, sym}
use Rattle.lx_auto.specs.declared.automaton.Accept.{Accept}
use Rattle.lx_auto.specs.declared.automaton.Auto.{Auto}
use Rattle.lx_auto.specs.declared.automaton.Edge.{Edge}
use Rattle.lx_auto.specs.declared.automaton.State.{State}
use Rattle.lx_ccode.specs.Statements.{code_of}
use Rattle.lx_ccode.specs.Validity.{label_of, labels}
use Rattle.lx_ccode.specs.declared.piece.CodeBlock.{CodeBlock}
use Rattle.lx_ccode.specs.declared.piece.Stmt.{Stmt}
use Rattle.lx_layout.specs.Endings.{Ending}
use Rattle.lx_layout.specs.FormedParts.{AreFormed, IsFormed, conds_of, with_cond}
use Rattle.lx_layout.specs.Halting.{Halting, ended_accepts, halted_accept, saved_accepts}
use Rattle.lx_layout.specs.Layout.{StandsFrom, end_blocks, ending_blocks, restore_blocks}
use Rattle.lx_layout.specs.Parts.{EachPart, Part, given_asked, given_supply, labelled, part_blocks, part_codes, parts_blocks}
use Rattle.lx_layout.specs.Plans.{unlabelled}
use Rattle.lx_layout.specs.SuppliedLayout.{blocks_by, class_blocks, end_rule_part, entry_part, fall_block, fallback_part, first_restore, place_of, rule_block, state_blocks, state_size, states_begin, states_blocks, states_part, supplied_layout, tests_of, turn_of}
use Rattle.lx_layout.specs.Supplies.{Reader, Supply}
use Rattle.lx_dispatch.specs.TestTrees.{TestTree}
use Rattle.lx_dispatch.specs.TransitionClasses.{classes_onto, has_class, transition_classes}
use Rattle.lx_layout.proofs.BlockLayouts.CodesInBlocks.{StandsFrom-back, StandsFrom-front, StandsFrom-itself}
use Rattle.lx_layout.proofs.PartLayouts.StoredLayouts.{codes-parts}

-- ---- a scanner has a block

more_classes : (found edges : List Edge) → length found ≤ length (classes_onto found edges)
more_classes found [] = omega arith
more_classes found (edge ∷ edges) = by (has_class found edge) (λ more. more_classes more edges)
  where
    by : (t : Bool) → ((more : List Edge) → length more ≤ length (classes_onto more edges))
        → length found ≤ length (classes_onto (if t then found else found ++ edge ∷ []) edges)
    by true again = again found
    by false again =
        let more = again (found ++ edge ∷ []) in
        let l = length-append found (edge ∷ []) in
        omega (arith, more, l)

module _ (supply : Supply) (halting : Halting) (endings : ℕ → Ending) (trees : Reader → TestTree (Option ℕ)) (auto : Auto) where
  some_class : (saved : List Accept) (place : ℕ → ℕ) (given : State) (classes : List Edge) → 0 < length classes
      → 0 < length (class_blocks halting auto saved place given classes)
  some_class saved place given [] some = absurd (omega (arith, some))
  some_class saved place given (class ∷ classes) some = omega arith

  some_state : (rules : ℕ → ℕ) (fall begin : ℕ) (saved : List Accept) (place : ℕ → ℕ) (from : ℕ) (given : State) (edges : List Edge)
      → 0 < length (blocks_by supply halting None trees auto rules fall begin saved place 0 from given edges)
  some_state rules fall begin saved place from given [] = omega arith
  some_state rules fall begin saved place from given (edge ∷ edges) =
      let tests_row : List (List Stmt) = tests_of supply halting None trees auto rules fall begin saved place 0 from given in
      let classes_row : List (List Stmt) = class_blocks halting auto saved place given (transition_classes (edge ∷ edges)) in
      let turn_row : List (List Stmt) = turn_of supply halting None trees auto rules fall begin saved place 0 from given in
      let end_row : List (List Stmt) = end_blocks auto rules fall (halted_accept halting 0 given) in
      let some : 0 < length classes_row =
      some_class saved place given (transition_classes (edge ∷ edges)) (let more = more_classes (edge ∷ []) edges in omega (arith, more)) in
      let a = length-append tests_row (classes_row ++ (turn_row ++ end_row)) in
      let b = length-append classes_row (turn_row ++ end_row) in
      omega (arith, some, a, b)

  some_states : (rules : ℕ → ℕ) (fall begin : ℕ) (saved : List Accept) (place : ℕ → ℕ) (from : ℕ) (states : List State) → 0 < length states
      → 0 < length (states_blocks supply halting None trees auto rules fall begin saved place 0 from states)
  some_states rules fall begin saved place from [] some = absurd (omega (arith, some))
  some_states rules fall begin saved place from (given ∷ states) some =
      let own : List (List Stmt) = state_blocks supply halting None trees auto rules fall begin saved place 0 from given in
      let others : List (List Stmt) = states_blocks supply halting None trees auto rules fall begin saved place 1
      (from + state_size supply halting None trees auto 0 given) states in
      let here = some_state rules fall begin saved place from given given.edges in
      let a = length-append own others in
      omega (arith, here, a)

  some_layout : (end_rule : Option ℕ) (begin : ℕ) → 0 < length auto.states → 0 < length (supplied_layout supply halting endings end_rule trees auto begin)
  some_layout None begin some =
      let states : List (List Stmt) = states_part supply halting None trees auto begin in
      let rest : List (List Stmt) = fallback_part halting auto (first_restore supply halting None trees auto begin)
      ++ (restore_blocks (rule_block supply halting None trees auto begin) (saved_accepts halting auto.states)
      ++ (ending_blocks endings (ended_accepts halting auto.states) ++ end_rule_part endings None)) in
      let here = some_states (rule_block supply halting None trees auto begin) (fall_block supply halting None trees auto begin) begin
      (saved_accepts halting auto.states) (place_of supply halting None trees auto begin) (states_begin supply halting None trees auto begin) auto.states
      some in
      let a = length-append states rest in
      omega (arith, here, a)
  some_layout (Some rule) begin some =
      let first : List (List Stmt) = entry_part supply halting (Some rule) trees auto begin (Some rule) in
      let states : List (List Stmt) = states_part supply halting (Some rule) trees auto begin in
      let falls : List (List Stmt) = fallback_part halting auto (first_restore supply halting (Some rule) trees auto begin) in
      let restores : List (List Stmt) = restore_blocks (rule_block supply halting (Some rule) trees auto begin) (saved_accepts halting auto.states) in
      let ends : List (List Stmt) = ending_blocks endings (ended_accepts halting auto.states) in
      let last : List (List Stmt) = end_rule_part endings (Some rule) in
      let a = length-append first (states ++ (falls ++ (restores ++ (ends ++ last)))) in
      let b = length-append states (falls ++ (restores ++ (ends ++ last))) in
      let c = length-append falls (restores ++ (ends ++ last)) in
      let d = length-append restores (ends ++ last) in
      let e = length-append ends last in
      omega (arith, a, b, c, d, e)

pub some_block : (greatest begin first : ℕ) (part : Part) → IsFormed greatest part → 0 < length (part_codes part begin first)
some_block greatest begin first part formed =
    some_layout (given_supply part.given first) part.halting part.given.endings part.trees part.given.auto part.given.end_rule begin formed.auto.start

pub some_blocks : (greatest begin first : ℕ) (parts : List Part) → AreFormed greatest parts
    → EachPart (λ part begin from. 0 < length (part_codes part begin from)) begin first parts
some_blocks greatest begin first [] are = tt
some_blocks greatest begin first (part ∷ parts) are = (
  some_block greatest begin first part are.0,
  some_blocks greatest (begin + length (part_codes part begin first)) (first + given_asked part.given) parts are.1,
)

-- ---- where they stand

parts_stand_in : (all : List (List Stmt)) (begin first : ℕ) (parts : List Part) → StandsFrom all begin (code_of (parts_blocks begin first parts))
    → EachPart (λ part begin from. StandsFrom all begin (part_codes part begin from)) begin first parts
parts_stand_in all begin first [] h = tt
parts_stand_in all begin first (part ∷ parts) h =
    let own : List (List Stmt) = part_codes part begin first in
    let others : List (List Stmt) = code_of (parts_blocks (begin + length (part_codes part begin first)) (first + given_asked part.given) parts) in
    let both : StandsFrom all begin (own ++ others) = subst (λ l. StandsFrom all begin l) (codes-parts begin first part parts) h in (
      StandsFrom-front all begin own others both,
      parts_stand_in all (begin + length (part_codes part begin first)) (first + given_asked part.given) parts (StandsFrom-back all begin own others both),
    )

pub parts_stand : (first : ℕ) (parts : List Part) (blocks : List CodeBlock) → blocks ≡ parts_blocks 0 first parts
    → EachPart (λ part begin from. StandsFrom (code_of blocks) begin (part_codes part begin from)) 0 first parts
parts_stand first parts blocks same =
    subst (λ l. EachPart (λ part begin from. StandsFrom (code_of l) begin (part_codes part begin from)) 0 first parts) (sym same)
    (parts_stand_in (code_of (parts_blocks 0 first parts)) 0 first parts (StandsFrom-itself (code_of (parts_blocks 0 first parts))))

-- ---- their conditions

labels-unlabelled : (codes : List (List Stmt)) (rest : List CodeBlock) → labels (unlabelled codes ++ rest) ≡ labels rest
labels-unlabelled [] rest = refl
labels-unlabelled (code ∷ codes) rest = labels-unlabelled codes rest

labels-labelled : (cond : Option (List ℕ)) (codes : List (List Stmt)) (rest : List CodeBlock) → 0 < length codes
    → labels (labelled cond codes ++ rest) ≡ with_cond cond (labels rest)
labels-labelled cond [] rest some = absurd (omega (arith, some))
labels-labelled None (code ∷ codes) rest some = labels-unlabelled codes rest
labels-labelled (Some cond) (code ∷ codes) rest some = ap (λ l. cond ∷ l) (labels-unlabelled codes rest)

labels-parts : (greatest begin first : ℕ) (parts : List Part) → AreFormed greatest parts → labels (parts_blocks begin first parts) ≡ conds_of parts
labels-parts greatest begin first [] are = refl
labels-parts greatest begin first (part ∷ parts) are =
    labels-labelled part.given.cond (part_codes part begin first)
    (parts_blocks (begin + length (part_codes part begin first)) (first + given_asked part.given) parts) (some_block greatest begin first part are.0)
    ∙ ap (λ l. with_cond part.given.cond l)
    (labels-parts greatest (begin + length (part_codes part begin first)) (first + given_asked part.given) parts are.1)

pub parts_labelled : (greatest first : ℕ) (parts : List Part) (blocks : List CodeBlock) → AreFormed greatest parts → blocks ≡ parts_blocks 0 first parts
    → labels blocks ≡ conds_of parts
parts_labelled greatest first parts blocks are same = ap (λ l. labels l) same ∙ labels-parts greatest 0 first parts are

label_of-behind : (front rest : List CodeBlock) (k : ℕ) → label_of (front ++ rest) (length front + k) ≡ label_of rest k
label_of-behind [] rest k = let e : 0 + k ≡ k = omega arith in ap (λ n. label_of rest n) e
label_of-behind (block ∷ front) rest k =
    let e : length (block ∷ front) + k ≡ suc (length front + k) = omega arith in
    ap (λ n. label_of (block ∷ (front ++ rest)) n) e ∙ label_of-behind front rest k

label_of-first : (cond : Option (List ℕ)) (codes : List (List Stmt)) (rest : List CodeBlock) → 0 < length codes → label_of (labelled cond codes ++ rest) 0 ≡ cond
label_of-first cond [] rest some = absurd (omega (arith, some))
label_of-first cond (code ∷ codes) rest some = refl

length-labelled : (cond : Option (List ℕ)) (codes : List (List Stmt)) → length (labelled cond codes) ≡ length codes
length-labelled cond [] = refl
length-labelled cond (code ∷ codes) = let e = length-unlabelled codes in omega (arith, e)
  where
    length-unlabelled : (codes : List (List Stmt)) → length (unlabelled codes) ≡ length codes
    length-unlabelled [] = refl
    length-unlabelled (code ∷ codes) = let e = length-unlabelled codes in omega (arith, e)

begin_in_all : (all : List CodeBlock) (greatest begin first : ℕ) (parts : List Part) → AreFormed greatest parts
    → ((k : ℕ) → label_of all (begin + k) ≡ label_of (parts_blocks begin first parts) k)
    → EachPart (λ part begin from. label_of all begin ≡ part.given.cond) begin first parts
begin_in_all all greatest begin first [] are h = tt
begin_in_all all greatest begin first (part ∷ parts) are h =
    let own : List CodeBlock = part_blocks part begin first in
    let n : ℕ = length (part_codes part begin first) in
    let others : List CodeBlock = parts_blocks (begin + length (part_codes part begin first)) (first + given_asked part.given) parts in
    let e : begin ≡ begin + 0 = omega arith in
    let l = length-labelled part.given.cond (part_codes part begin first) in (
      ap (λ k. label_of all k) e ∙ h 0
          ∙ label_of-first part.given.cond (part_codes part begin first) others (some_block greatest begin first part are.0),
      begin_in_all all greatest (begin + length (part_codes part begin first)) (first + given_asked part.given) parts are.1
          (λ k. let f : (begin + length (part_codes part begin first)) + k ≡ begin + (length own + k) = omega (arith, l) in
          ap (λ m. label_of all m) f ∙ h (length own + k) ∙ label_of-behind own others k),
    )

pub parts_begin : (greatest first : ℕ) (parts : List Part) (blocks : List CodeBlock) → AreFormed greatest parts → blocks ≡ parts_blocks 0 first parts
    → EachPart (λ part begin from. label_of blocks begin ≡ part.given.cond) 0 first parts
parts_begin greatest first parts blocks are same =
    subst (λ l. EachPart (λ part begin from. label_of l begin ≡ part.given.cond) 0 first parts) (sym same)
    (begin_in_all (parts_blocks 0 first parts) greatest 0 first parts are
    (λ k. let e : 0 + k ≡ k = omega arith in ap (λ n. label_of (parts_blocks 0 first parts) n) e))
