-- Where a step goes, and the code there.
use Rattle.std.proofs.Common.{◌≡◌, ap, sym, subst, refl, ℕ, zero, suc, ◌+◌, Bool, true, false, List, [], ◌∷◌, drop, Option, Some, None, if◌then◌else◌, arith}
use Rattle.std.specs.List.{AllByRecursion}
use Rattle.lx_ccode.specs.declared.piece.Stmt.{Stmt}
use Rattle.lx_ccode.specs.declared.piece.Stmt.TheVariants.{Peek, Skip, MSet, MUnset, MCopy, IfUnit, IfIs, IfSet, IfAccept, IfEnd, Need, Try, Tag, Back, Switch, Goto, Leave, Code, Jump}
use Rattle.lx_ccode.specs.declared.piece.CodeBlock.{CodeBlock}
use Rattle.lx_ccode.specs.declared.piece.SwitchCase.{SwitchCase}
use Rattle.lx_ccode.specs.declared.piece.Piece.{Piece}
use Rattle.lx_ccode.specs.Machine.{Answer, Machine, Next, at_end, back, choose, code_at, ends, goes_on, case_block, has_units, if_unit, switch_unit, jump, left, more, need, no_more, peek, refilled, skip, step, unanswered, write_history}
use Rattle.lx_step.specs.declared.answers.StmtAt.{StmtAt}
use Rattle.lx_step.specs.Assigned.{block_of_unit, block_where, block_where_unit, target, place_after, code_from}
use Rattle.lx_step.specs.Points.{AreAsked, goes_to}

drop-next : {A : Type 0} (items : List A) (place : ℕ) (item : A) (rest : List A) → drop place items ≡ item ∷ rest → drop (suc place) items ≡ rest
drop-next [] zero item rest e = absurd cc
drop-next [] (suc place) item rest e = absurd cc
drop-next (first ∷ items) zero item rest e = cc
drop-next (first ∷ items) (suc place) item rest e = drop-next items place item rest e

code_from-next : (blocks : List CodeBlock) (place : StmtAt) (statement : Stmt) (rest : List Stmt) → code_from blocks place ≡ Some (statement ∷ rest) → code_from blocks (place_after place None) ≡ Some rest
code_from-next blocks place statement rest here = by (code_at blocks (Some place.block)) here where
  by : (code : Option (List Stmt)) → elim code [ None ↦ None | Some code ↦ Some (drop place.stmt code) ] ≡ Some (statement ∷ rest) → elim code [ None ↦ None | Some code ↦ Some (drop (place.stmt + 1) code) ] ≡ Some rest
  by None e = absurd cc
  by (Some code) e = let one : suc place.stmt ≡ place.stmt + 1 = omega arith in ap Some (subst (λ (n : ℕ). drop n code ≡ rest) one (drop-next code place.stmt statement rest cc))

-- a refill was answered, and the scanner was not left
abbrev pub IsRefilled : Answer → Type 0
IsRefilled (refilled refill) = Unit {0}
IsRefilled (left refills) = ⊥

-- a step that goes on, goes on with the code of its place
abbrev Follows : List CodeBlock → StmtAt → Option ℕ → Next → Type 0
Follows blocks place block (goes_on code machine answers) = code_from blocks (place_after place block) ≡ Some code
Follows blocks place block (ends outcome machine) = Unit {0}

module _ (piece : Piece) (stream : List ℕ) (place : StmtAt) (rest : List Stmt) (next : code_from piece.blocks (place_after place None) ≡ Some rest) where
  jumps : (block : ℕ) (machine : Machine) (answers : List Answer) → Follows piece.blocks place (Some block) (jump (code_at piece.blocks (Some block)) machine answers)
  jumps block machine answers = by (code_at piece.blocks (Some block)) refl where
    by : (code : Option (List Stmt)) → code_at piece.blocks (Some block) ≡ code → Follows piece.blocks place (Some block) (jump code machine answers)
    by None e = tt
    by (Some code) e = subst (λ (found : Option (List Stmt)). elim found [ None ↦ None | Some one ↦ Some (drop 0 one) ] ≡ Some code) (sym e) refl

  if_goes_on : (test : Bool) (machine : Machine) (answers : List Answer) (other : Next) → Follows piece.blocks place None other
      → Follows piece.blocks place None (if test then goes_on rest machine answers else other)
  if_goes_on true machine answers other follows = next
  if_goes_on false machine answers other follows = follows

  -- a Need goes on in its block, also behind refills
  needs : (units : ℕ) (answers : List Answer) (machine : Machine) → AllByRecursion IsRefilled answers → Follows piece.blocks place None (need piece.blocks units rest machine answers)
  needs units [] machine refills = if_goes_on (has_units units machine) machine [] (ends unanswered machine) tt
  needs units (refilled (more dropped added) ∷ answers) machine refills =
      let longer : Machine = record machine { limit = machine.limit + added } in
      if_goes_on (has_units units machine) machine (refilled (more dropped added) ∷ answers) (need piece.blocks units rest longer answers) (needs units answers longer refills.1)
  needs units (refilled no_more ∷ answers) machine refills = if_goes_on (has_units units machine) machine (refilled no_more ∷ answers) (ends at_end machine) tt
  needs units (left refills ∷ answers) machine none = absurd none.0

  -- ---- a step without an answer

  module _ (machine : Machine) where
    chooses : (test : Bool) (block : ℕ) → Follows piece.blocks place (block_where test block) (choose test (code_at piece.blocks (Some block)) rest machine [])
    chooses true block = jumps block machine []
    chooses false block = next

    peeks : (unit : Option ℕ) → Follows piece.blocks place None (peek unit rest machine [])
    peeks None = tt
    peeks (Some unit) = next

    skips : (before_limit : Bool) → Follows piece.blocks place None (skip before_limit rest machine [])
    skips true = next
    skips false = tt

    tests_unit : (unit : Option ℕ) (test : ℕ → Bool) (block : ℕ) → Follows piece.blocks place (block_where_unit unit test block) (if_unit unit test (code_at piece.blocks (Some block)) rest machine [])
    tests_unit None test block = tt
    tests_unit (Some unit) test block = chooses _ block

    switches : (cases : List SwitchCase) (last : ℕ) (unit : Option ℕ)
        → Follows piece.blocks place (block_of_unit cases last unit) (switch_unit unit (λ unit. code_at piece.blocks (Some (case_block cases last unit))) machine [])
    switches cases last None = tt
    switches cases last (Some unit) = jumps (case_block cases last unit) machine []

    writes : (history : ℕ) (content : List (Option ℕ)) → Follows piece.blocks place None (write_history history content rest machine [])
    writes zero content = tt
    writes (suc history) content = next

    goes_back : (offset : Option ℕ) → Follows piece.blocks place None (back offset rest machine [])
    goes_back None = tt
    goes_back (Some offset) = next

    steps : (statement : Stmt) → Follows piece.blocks place (target piece.table statement machine) (step piece stream statement rest machine [])
    steps Peek = peeks _
    steps Skip = skips _
    steps (MSet history) = writes history _
    steps (MUnset history) = writes history _
    steps (MCopy history source) = writes history _
    steps (IfUnit greatest block) = tests_unit machine.unit _ block
    steps (IfIs unit block) = tests_unit machine.unit _ block
    steps (IfSet set block) = tests_unit machine.unit _ block
    steps (IfAccept accept block) = chooses _ block
    steps (IfEnd block) = chooses _ block
    steps (Need units) = needs units [] machine tt
    steps (Try block) = tt
    steps (Tag tag true history) = next
    steps (Tag tag false register) = next
    steps (Back register) = goes_back _
    steps (Switch cases last) = switches cases last machine.unit
    steps (Goto block) = jumps block machine []
    steps Leave = tt
    steps (Code rule line action) = tt
    steps (Jump cond rule) = tt
    steps _ = next

  -- ---- a step with answers

  steps_asked : (start size : ℕ) (statement : Stmt) (used : List Answer) (machine : Machine) → AllByRecursion IsRefilled used → AreAsked start size used statement machine
      → Follows piece.blocks place (goes_to piece.table used statement machine) (step piece stream statement rest machine used)
  steps_asked start size statement [] machine refills asked = steps machine statement
  steps_asked start size statement (left refills ∷ answers) machine none asked = absurd none.0
  steps_asked start size (Need units) (refilled (more dropped added) ∷ answers) machine refills asked = needs units (refilled (more dropped added) ∷ answers) machine refills
  steps_asked start size (Need units) (refilled no_more ∷ answers) machine refills asked = needs units (refilled no_more ∷ answers) machine refills
  steps_asked start size (Try block) (refilled (more dropped added) ∷ answers) machine refills asked = jumps block (record machine { limit = machine.limit + added }) answers
  steps_asked start size (Try block) (refilled no_more ∷ answers) machine refills asked = next
  steps_asked start size _ (refilled refill ∷ answers) machine refills asked = absurd asked.asking

pub code_from-step : (piece : Piece) (stream : List ℕ) (start size : ℕ) (place : StmtAt) (statement : Stmt) (rest code : List Stmt) (used : List Answer) (machine after : Machine)
    → code_from piece.blocks place ≡ Some (statement ∷ rest) → AllByRecursion IsRefilled used → AreAsked start size used statement machine
    → step piece stream statement rest machine used ≡ goes_on code after [] → code_from piece.blocks (place_after place (goes_to piece.table used statement machine)) ≡ Some code
code_from-step piece stream start size place statement rest code used machine after here refills asked e =
    subst (λ (next : Next). Follows piece.blocks place (goes_to piece.table used statement machine) next) e
    (steps_asked piece stream place rest (code_from-next piece.blocks place statement rest here) start size statement used machine refills asked)
