-- What a call reaches stands in the piece.
use Rattle.std.proofs.Common.{◌≡◌, ◌∙◌, ap, sym, subst, refl, ℕ, zero, suc, Bool, true, false, List, [], ◌∷◌, ◌++◌, drop, Option, Some, None, slice_get}
use Rattle.std.specs.Prelude.{if◌then◌else◌, is_some}
use Rattle.std.specs.List.{AllByRecursion, list_any}
use Rattle.lx_ccode.specs.declared.piece.Stmt.{Stmt}
use Rattle.lx_ccode.specs.declared.piece.CodeBlock.{CodeBlock}
use Rattle.lx_ccode.specs.declared.piece.Piece.{Piece}
use Rattle.lx_ccode.specs.Machine.{Answer, Machine, code_at, more, no_more, refilled, stored_block}
use Rattle.lx_ccode.specs.Runs.{entry_block, fresh_machine}
use Rattle.lx_ccode.specs.Statements.{all_statements}
use Rattle.lx_step.specs.declared.answers.StmtAt.{StmtAt}
use Rattle.lx_step.specs.Assigned.{code_from, is_assignment, same_place, with_statement}
use Rattle.lx_step.specs.Entries.{entry_by, entry_point, machine_back}
use Rattle.lx_step.specs.Feeds.{Feed, IsFed, brought, ended, filled, unasked}
use Rattle.lx_step.specs.Held.{Held}
use Rattle.lx_step.specs.Left.{Left}
use Rattle.lx_step.specs.Points.{LeadsTo, Point, block_or_first, code_or_none, makes, point_at, stays, waits}
use Rattle.lx_step.specs.Reached.{EntersBlock, Reaches, entered_block}
use Rattle.lx_step.specs.Saved.{Assigns, IsAssignmentAt}
use Rattle.lx_step.specs.Places.{statement_at}
use Rattle.lx_step.proofs.Following.{IsRefilled, code_from-step}
use Rattle.lx_step.proofs.Places.{all-left, all-right}
use Rattle.lx_step.proofs.StoredStates.{IsCodeOf-entry, IsCodeOf-leads}

-- ---- answers

all-append : {A : Type 0} (P : A → Type 0) (first second : List A) → AllByRecursion P first → AllByRecursion P second → AllByRecursion P (first ++ second)
all-append P [] second all others = others
all-append P (item ∷ first) second all others = (all.0, all-append P first second all.1 others)

-- a source does not answer that the scanner was left
IsRefilled-fed : {from after : Feed} {answers : List Answer} → IsFed from answers after → AllByRecursion IsRefilled answers
IsRefilled-fed unasked = tt
IsRefilled-fed (filled {answers} {others} {before} {after} {count} earlier formed refills is) =
    subst (AllByRecursion IsRefilled) (sym is) (all-append IsRefilled answers (brought before.window after.window ∷ []) (IsRefilled-fed earlier) (tt, tt))
IsRefilled-fed (ended {answers} {others} {before} {after} earlier formed refills is) =
    subst (AllByRecursion IsRefilled) (sym is) (all-append IsRefilled answers (refilled no_more ∷ []) (IsRefilled-fed earlier) (tt, tt))

-- ---- the statement at a place

slice_get-drop : {A : Type 0} (items : List A) (place : ℕ) (item : A) (rest : List A) → drop place items ≡ item ∷ rest → slice_get items place ≡ Some item
slice_get-drop [] zero item rest e = absurd cc
slice_get-drop [] (suc place) item rest e = absurd cc
slice_get-drop (first ∷ items) zero item rest e = let same : first ≡ item = cc in ap Some same
slice_get-drop (first ∷ items) (suc place) item rest e = slice_get-drop items place item rest e

module _ (blocks : List CodeBlock) (place : StmtAt) (statement : Stmt) (rest : List Stmt) (here : code_from blocks place ≡ Some (statement ∷ rest)) where
  statement_at-here : statement_at blocks place ≡ Some statement
  statement_at-here = by (code_at blocks (Some place.block)) here where
    by : (code : Option (List Stmt)) → elim code [ None ↦ None | Some code ↦ Some (drop place.stmt code) ] ≡ Some (statement ∷ rest)
        → elim code as (λ x. Option Stmt) [ None ↦ None | Some code ↦ slice_get code place.stmt ] ≡ Some statement
    by None e = absurd cc
    by (Some code) e = slice_get-drop code place.stmt statement rest cc

  -- its place is that of a statement that assigns something, if it is put to the others
  IsAssignmentAt-with : (places : List StmtAt) → AllByRecursion (IsAssignmentAt blocks) places → AllByRecursion (IsAssignmentAt blocks) (with_statement place statement places)
  IsAssignmentAt-with places all = by (is_assignment statement) refl (list_any (same_place place) places) where
    by : (test : Bool) → is_assignment statement ≡ test → (noted : Bool)
        → AllByRecursion (IsAssignmentAt blocks) (if test then (if noted then places else places ++ place ∷ []) else places)
    by true is true = all
    by true is false = all-append (IsAssignmentAt blocks) places (place ∷ []) all (subst Assigns (sym statement_at-here) is, tt)
    by false is noted = all

-- ---- from a point on

module _ (piece : Piece) (stream : List ℕ) (start size : ℕ) where
  -- from a point at which the code is that of its place a call comes to such points
  code_from-leads : (from point : Point) (answers : List Answer) → LeadsTo piece stream start size from answers point → AllByRecursion IsRefilled answers → code_from piece.blocks from.place ≡ Some from.code
      → code_from piece.blocks point.place ≡ Some point.code
  code_from-leads from point answers stays refills here = here
  code_from-leads from point all (waits {answers} {point = before} {units} {rest} dropped added leads stands asks is) refills here =
      code_from-leads from before answers leads (all-left IsRefilled answers (refilled (more dropped added) ∷ []) (subst (AllByRecursion IsRefilled) is refills)) here
  code_from-leads from point all (makes {answers} {used} {point = before} {statement} {rest} {code} {machine} leads made is) refills here =
      let both : AllByRecursion IsRefilled (answers ++ used) = subst (AllByRecursion IsRefilled) is refills in
      code_from-step piece stream start size before.place statement rest code used before.machine machine
      (code_from-leads from before answers leads (all-left IsRefilled answers used both) here ∙ ap Some made.stands.code) (all-right IsRefilled answers used both) made.asked made.step

  -- and it notes places of statements that assign something
  assigned-leads : (from point : Point) (answers : List Answer) → LeadsTo piece stream start size from answers point → AllByRecursion IsRefilled answers → code_from piece.blocks from.place ≡ Some from.code
      → AllByRecursion (IsAssignmentAt piece.blocks) from.assigned → AllByRecursion (IsAssignmentAt piece.blocks) point.assigned
  assigned-leads from point answers stays refills here all = all
  assigned-leads from point both (waits {answers} {point = before} {units} {rest} dropped added leads stands asks is) refills here all =
      assigned-leads from before answers leads (all-left IsRefilled answers (refilled (more dropped added) ∷ []) (subst (AllByRecursion IsRefilled) is refills)) here all
  assigned-leads from point both (makes {answers} {used} {point = before} {statement} {rest} {code} {machine} leads made is) refills here all =
      let front : AllByRecursion IsRefilled answers = all-left IsRefilled answers used (subst (AllByRecursion IsRefilled) is refills) in
      IsAssignmentAt-with piece.blocks before.place statement rest (code_from-leads from before answers leads front here ∙ ap Some made.stands.code) before.assigned
      (assigned-leads from before answers leads front here all)

  -- from a point without code it comes nowhere
  leads-nowhere : (from point : Point) (answers : List Answer) → LeadsTo piece stream start size from answers point → from.code ≡ [] → point ≡ from
  leads-nowhere from point answers stays none = refl
  leads-nowhere from point all (waits {answers} {point = before} {units} {rest} dropped added leads stands asks is) none =
      absurd (let nothing : before.code ≡ [] = ap (λ (one : Point). one.code) (leads-nowhere from before answers leads none) ∙ none in let some = stands.code in cc)
  leads-nowhere from point all (makes {answers} {used} {point = before} {statement} {rest} {code} {machine} leads made is) none =
      absurd (let nothing : before.code ≡ [] = ap (λ (one : Point). one.code) (leads-nowhere from before answers leads none) ∙ none in let some = made.stands.code in cc)

-- ---- where a call begins

module _ (blocks : List CodeBlock) (block : Option ℕ) (machine : Machine) (steps : ℕ) (assigned : List StmtAt) where
  code_from-start : is_some (code_at blocks block) ≡ true → code_from blocks (point_at blocks block machine steps assigned).place ≡ Some (point_at blocks block machine steps assigned).code
  code_from-start is = by block is where
    here : (found : Option (List Stmt)) → is_some found ≡ true → elim found [ None ↦ None | Some code ↦ Some (drop 0 code) ] ≡ Some (code_or_none found)
    here None is = absurd cc
    here (Some code) is = refl

    by : (block : Option ℕ) → is_some (code_at blocks block) ≡ true → code_from blocks (record { block = block_or_first block; stmt = 0 }) ≡ Some (code_or_none (code_at blocks block))
    by None is = absurd cc
    by (Some block) is = here (code_at blocks (Some block)) is

  no_code-start : is_some (code_at blocks block) ≡ false → (point_at blocks block machine steps assigned).code ≡ []
  no_code-start none = by (code_at blocks block) none where
    by : (found : Option (List Stmt)) → is_some found ≡ false → code_or_none found ≡ []
    by None none = refl
    by (Some code) none = absurd cc

-- the block where a call begins, by what was left
abbrev block_by : Piece → (cond : List ℕ) → Option Left → Option ℕ
block_by piece cond stored = elim stored [ None ↦ entry_block piece.conds cond | Some left ↦ stored_block piece.blocks (Some left.state) ]

module _ (piece : Piece) (cursor : ℕ) (cond : List ℕ) (assigned : List StmtAt) (start limit : ℕ) where
  code_from-entry : (stored : Option Left) → is_some (code_at piece.blocks (block_by piece cond stored)) ≡ true
      → code_from piece.blocks (entry_by piece cursor cond assigned stored start limit).place ≡ Some (entry_by piece cursor cond assigned stored start limit).code
  code_from-entry None is = code_from-start piece.blocks (entry_block piece.conds cond) (fresh_machine start limit cond) 0 [] is
  code_from-entry (Some left) is =
      code_from-start piece.blocks (stored_block piece.blocks (Some left.state)) (machine_back piece cursor cond left limit) left.steps assigned is

  no_code-entry : (stored : Option Left) → is_some (code_at piece.blocks (block_by piece cond stored)) ≡ false → (entry_by piece cursor cond assigned stored start limit).code ≡ []
  no_code-entry None none = no_code-start piece.blocks (entry_block piece.conds cond) (fresh_machine start limit cond) 0 [] none
  no_code-entry (Some left) none = no_code-start piece.blocks (stored_block piece.blocks (Some left.state)) (machine_back piece cursor cond left limit) left.steps assigned none

-- ---- what a call reaches

module _ (held : Held) (before : Feed) (stream : List ℕ) (point : Point) where
  abbrev entry : Point
  entry = entry_point held before.window

  pub code_from-reached : EntersBlock held → Reaches held before stream point → code_from held.piece.blocks point.place ≡ Some point.code
  code_from-reached enters reaches =
      code_from-leads held.piece stream before.window.start before.window.size entry point reaches.answers reaches.leads (IsRefilled-fed reaches.fed)
      (code_from-entry held.piece held.cursor held.cond held.assigned before.window.start before.window.limit held.left enters)

  pub list_any-reached : (test : Stmt → Bool) → Reaches held before stream point → list_any test point.code ≡ true → list_any test (all_statements held.piece.blocks) ≡ true
  list_any-reached test reaches has =
      IsCodeOf-leads held.piece stream before.window.start before.window.size entry point reaches.answers reaches.leads
      (IsCodeOf-entry held.piece held.cursor held.cond held.assigned held.left before.window.start before.window.limit) test has

  pub assigned-reached : Reaches held before stream point → AllByRecursion (IsAssignmentAt held.piece.blocks) entry.assigned → AllByRecursion (IsAssignmentAt held.piece.blocks) point.assigned
  assigned-reached reaches all = by (is_some (code_at held.piece.blocks (entered_block held))) refl where
    by : (enters : Bool) → is_some (code_at held.piece.blocks (entered_block held)) ≡ enters → AllByRecursion (IsAssignmentAt held.piece.blocks) point.assigned
    by true enters =
        assigned-leads held.piece stream before.window.start before.window.size entry point reaches.answers reaches.leads (IsRefilled-fed reaches.fed)
        (code_from-entry held.piece held.cursor held.cond held.assigned before.window.start before.window.limit held.left enters) all
    by false none =
        subst (λ (one : Point). AllByRecursion (IsAssignmentAt held.piece.blocks) one.assigned)
        (sym (leads-nowhere held.piece stream before.window.start before.window.size entry point reaches.answers reaches.leads
        (no_code-entry held.piece held.cursor held.cond held.assigned before.window.start before.window.limit held.left none))) all
