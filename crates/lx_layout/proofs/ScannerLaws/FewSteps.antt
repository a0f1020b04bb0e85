-- How often a unit is tested in steps from some code on, with so many units read at most.
use Rattle.std.specs.Prelude.{◌≡◌, ℕ, zero, suc, ◌+◌, ◌≤◌, max, Bool, true, false, List, [], ◌∷◌, length, Option, Some, None, nat_lt, refl, slice_get, if◌then◌else◌}
use Rattle.std.proofs.Common.{sym, ap, ◌∙◌, subst, arith, true≢false}
use Rattle.std.specs.List.{AllByRecursion}
use Rattle.lx_ccode.specs.Machine.{Answer, Machine, Next, Outcome, Refill, at_end, back, case_block, choose, code_at, come_back, ends, goes_on, has_units, if_unit, is_among, jump, left, more, need, no_more, peek, refilled, skip, step, stored_block, switch_unit, try, unanswered, unit_at, units_of_all}
use Rattle.lx_ccode.specs.States.{state_block}
use Rattle.lx_ccode.specs.Statements.{code_of}
use Rattle.lx_ccode.specs.Traces.{count_made, is_peek, trace, traced}
use Rattle.lx_ccode.specs.declared.piece.CodeBlock.{CodeBlock}
use Rattle.lx_ccode.specs.declared.piece.Piece.{Piece}
use Rattle.lx_ccode.specs.declared.piece.Stmt.{Stmt}
use Rattle.lx_ccode.specs.declared.piece.Stmt.TheVariants.{Peek, Skip, Backup, Restore, Accept, Set, Unset, Copy, MSet, MUnset, MCopy, IfUnit, IfIs, IfSet, IfAccept, IfEnd, State, Need, Try, Cond, Tag, Count, End, Back, Switch, Goto, Leave, Code, Jump}
use Rattle.lx_layout.specs.Layout.{StandsFrom}
use Rattle.lx_layout.specs.TestRuns.{is_test}
use Rattle.lx_dispatch.specs.TestTrees.{EachTest, Question, TestTree, case_way, fork, holds, leaf, switch, test}
use Rattle.lx_layout.specs.TreeCodes.{asks, inner_blocks, inner_size, switch_cases, tree_code}
use Rattle.lx_layout.proofs.BlockLayouts.CodesInBlocks.{StandsFrom-back, StandsFrom-front}
use Rattle.lx_layout.proofs.BlockLayouts.Questions.{asks_step, case_block-ways, is_peek-asks}
use Rattle.lx_dispatch.proofs.Cases.{case_way-each}
use Rattle.lx_layout.proofs.BlockLayouts.TreeCodes.{length-inner_blocks}
use Rattle.lx_layout.proofs.ScannerLaws.TestSorts.{Sort, all_tests, asked_of, counted-asks, depth_of, fewer_made, first_tests, is_of, is_of-none, other_tests, switched_of}

-- the statement neither reads nor tests a unit, jumps, stores a state or asks for a refill
abbrev pub is_simple : Stmt → Bool
is_simple Peek = false
is_simple (IfUnit greatest block) = false
is_simple (IfIs unit block) = false
is_simple (IfSet set block) = false
is_simple (IfAccept accept block) = false
is_simple (IfEnd block) = false
is_simple (State state) = false
is_simple (Need units) = false
is_simple (Try block) = false
is_simple (Switch cases last) = false
is_simple (Goto block) = false
is_simple _ = true

-- what holds behind a check: where it goes on with the same state stored, ends, or comes back
module _ (P : Next → Type 0) (blocks : List CodeBlock) (units : ℕ) (rest : List Stmt) (state : Option ℕ)
    (on : (machine : Machine) (answers : List Answer) → machine.state ≡ state → P (goes_on rest machine answers))
    (over : (outcome : Outcome) (machine : Machine) → P (ends outcome machine))
    (backs : (refills : List Refill) (machine : Machine) (answers : List Answer) → machine.state ≡ state → P (come_back blocks refills machine answers)) where
  pub need_next : (machine : Machine) (answers : List Answer) → machine.state ≡ state → P (need blocks units rest machine answers)
  need_next machine [] same = by (has_units units machine)
    where
      by : (t : Bool) → P (if t then goes_on rest machine [] else ends unanswered machine)
      by true = on machine [] same
      by false = over unanswered machine
  need_next machine (refilled (more dropped added) ∷ answers) same =
      by (has_units units machine) (need_next (record machine { limit = machine.limit + added }) answers same)
    where
      by : (t : Bool) → P (need blocks units rest (record machine { limit = machine.limit + added }) answers)
          → P (if t then goes_on rest machine (refilled (more dropped added) ∷ answers)
          else need blocks units rest (record machine { limit = machine.limit + added }) answers)
      by true again = on machine (refilled (more dropped added) ∷ answers) same
      by false again = again
  need_next machine (refilled no_more ∷ answers) same = by (has_units units machine)
    where
      by : (t : Bool) → P (if t then goes_on rest machine (refilled no_more ∷ answers) else ends at_end machine)
      by true = on machine (refilled no_more ∷ answers) same
      by false = over at_end machine
  need_next machine (left refills ∷ answers) same = by (has_units units machine)
    where
      by : (t : Bool) → P (if t then goes_on rest machine (left refills ∷ answers) else come_back blocks refills machine answers)
      by true = on machine (left refills ∷ answers) same
      by false = backs refills machine answers same

-- ---- what is counted

switch_sort : (sort : Sort) (cases : List (List ℕ × ℕ)) (last : ℕ)
    → ◌≡◌ {A = ℕ} (if is_of sort (Switch (switch_cases cases) last) then 1 else 0) (switched_of sort)
switch_sort all_tests cases last = refl
switch_sort first_tests cases last = refl
switch_sort other_tests cases last = refl

counted : (t : Bool) → t ≡ false → (if t then 1 else 0) + 0 ≡ 0
counted true e = absurd (true≢false e)
counted false e = omega arith

-- what the machine has stored is one of some states
module _ (sort : Sort) (piece : Piece) (stream : List ℕ) (Stored : ℕ → Type 0) where
  abbrev pub IsOk : Machine → Type 0
  IsOk machine = (state : ℕ) → machine.state ≡ Some state → Stored state

  -- so many steps on read at most so many units, and then test one at most so often
  abbrev pub After : (reads most steps : ℕ) → Next → Type 0
  After reads most steps (goes_on code machine answers) =
      count_made is_peek (trace piece stream steps code machine answers).made ≤ reads
      → count_made (is_of sort) (trace piece stream steps code machine answers).made ≤ most
  After reads most steps (ends outcome machine) = Unit {0}

  -- so from some code on, in any number of steps up to a greatest one
  abbrev pub Calm : (reads most greatest : ℕ) → List Stmt → Type 0
  Calm reads most greatest code =
      (steps : ℕ) → steps ≤ greatest → (machine : Machine) (answers : List Answer) → IsOk machine
      → After reads most steps (goes_on code machine answers)

  -- and from a block on
  abbrev pub CalmAt : (reads most greatest block : ℕ) → Type 0
  CalmAt reads most greatest block = (code : List Stmt) → slice_get (code_of piece.blocks) block ≡ Some code → Calm reads most greatest code

  -- and where a scanner comes back that was left in one of the states
  abbrev pub Backs : (reads most greatest : ℕ) → Type 0
  Backs reads most greatest = (state block : ℕ) → Stored state → state_block piece.blocks state ≡ Some block → CalmAt reads most greatest block

  pub fewer : (reads most n : ℕ) (code : List Stmt) → Calm reads most (suc n) code → Calm reads most n code
  fewer reads most n code h steps le machine answers ok = h steps (omega (arith, le)) machine answers ok

  pub more_tests : (reads most others n : ℕ) (code : List Stmt) → most ≤ others → Calm reads most n code → Calm reads others n code
  more_tests reads most others n code le h steps few machine answers ok some = let least = h steps few machine answers ok some in omega (arith, least, le)

  -- a statement that tests no unit
  module _ (reads most n : ℕ) (statement : Stmt) (rest : List Stmt) (none : is_test statement ≡ false) where
    behind : (steps : ℕ) (next : Next) → After reads most steps next
        → count_made is_peek (traced piece stream statement (trace piece stream steps) next).made ≤ reads
        → count_made (is_of sort) (traced piece stream statement (trace piece stream steps) next).made ≤ most
    behind steps (goes_on code machine answers) h le =
        let no = counted (is_of sort statement) (is_of-none sort statement none) in
        let few = h (omega (arith, le)) in
        omega (arith, no, few)
    behind steps (ends outcome machine) h le =
        let no = counted (is_of sort statement) (is_of-none sort statement none) in omega (arith, no)

    made : ((steps : ℕ) → steps ≤ n → (machine : Machine) (answers : List Answer) → IsOk machine
        → After reads most steps (step piece stream statement rest machine answers)) → Calm reads most (suc n) (statement ∷ rest)
    made h zero le machine answers ok few = omega arith
    made h (suc steps) le machine answers ok few =
        behind steps (step piece stream statement rest machine answers) (h steps (omega (arith, le)) machine answers ok) few

  -- ---- the statements

  module _ (reads most n : ℕ) where
    simple_step : (statement : Stmt) (rest : List Stmt) → is_simple statement ≡ true → (steps : ℕ) (machine : Machine) (answers : List Answer)
        → ((next : Machine) → next.state ≡ machine.state → After reads most steps (goes_on rest next answers))
        → After reads most steps (step piece stream statement rest machine answers)
    simple_step Skip rest is steps machine answers on = by (nat_lt machine.cursor machine.limit)
      where
        by : (t : Bool) → After reads most steps (skip t rest machine answers)
        by true = on (record machine { cursor = suc machine.cursor }) refl
        by false = tt
    simple_step Backup rest is steps machine answers on = on _ refl
    simple_step Restore rest is steps machine answers on = on _ refl
    simple_step (Accept accept) rest is steps machine answers on = on _ refl
    simple_step (Set register) rest is steps machine answers on = on _ refl
    simple_step (Unset register) rest is steps machine answers on = on _ refl
    simple_step (Copy register source) rest is steps machine answers on = on _ refl
    simple_step (MSet zero) rest is steps machine answers on = tt
    simple_step (MSet (suc history)) rest is steps machine answers on = on _ refl
    simple_step (MUnset zero) rest is steps machine answers on = tt
    simple_step (MUnset (suc history)) rest is steps machine answers on = on _ refl
    simple_step (MCopy zero source) rest is steps machine answers on = tt
    simple_step (MCopy (suc history) source) rest is steps machine answers on = on _ refl
    simple_step (Cond cond) rest is steps machine answers on = on _ refl
    simple_step (Tag tag false register) rest is steps machine answers on = on _ refl
    simple_step (Tag tag true register) rest is steps machine answers on = on _ refl
    simple_step (Count groups) rest is steps machine answers on = on _ refl
    simple_step (End place register) rest is steps machine answers on = on _ refl
    simple_step (Back register) rest is steps machine answers on = by (machine.registers register)
      where
        by : (o : Option ℕ) → After reads most steps (back o rest machine answers)
        by None = tt
        by (Some offset) = on (record machine { cursor = offset }) refl
    simple_step Leave rest is steps machine answers on = tt
    simple_step (Code rule line action) rest is steps machine answers on = tt
    simple_step (Jump cond rule) rest is steps machine answers on = tt
    simple_step _ rest is steps machine answers on = absurd (cc)

    simple_tests : (statement : Stmt) → is_simple statement ≡ true → is_test statement ≡ false
    simple_tests (IfUnit greatest block) is = absurd (cc)
    simple_tests (IfIs unit block) is = absurd (cc)
    simple_tests (IfSet set block) is = absurd (cc)
    simple_tests (Switch cases last) is = absurd (cc)
    simple_tests _ is = refl

    pub simple : (statement : Stmt) (rest : List Stmt) → is_simple statement ≡ true → Calm reads most n rest → Calm reads most (suc n) (statement ∷ rest)
    simple statement rest is h =
        made reads most n statement rest (simple_tests statement is)
        (λ steps le machine answers ok. simple_step statement rest is steps machine answers
        (λ next same. h steps le next answers (λ state stored. ok state (sym same ∙ stored))))

    jumped : (steps : ℕ) (o : Option (List Stmt)) (machine : Machine) (answers : List Answer)
        → ((code : List Stmt) → o ≡ Some code → After reads most steps (goes_on code machine answers))
        → After reads most steps (jump o machine answers)
    jumped steps None machine answers h = tt
    jumped steps (Some code) machine answers h = h code refl

    chosen : (steps : ℕ) (t : Bool) (o : Option (List Stmt)) (rest : List Stmt) (machine : Machine) (answers : List Answer)
        → ((code : List Stmt) → o ≡ Some code → After reads most steps (goes_on code machine answers)) → After reads most steps (goes_on rest machine answers)
        → After reads most steps (choose t o rest machine answers)
    chosen steps true o rest machine answers h g = jumped steps o machine answers h
    chosen steps false o rest machine answers h g = g

    pub goto : (block : ℕ) (rest : List Stmt) → CalmAt reads most n block → Calm reads most (suc n) (Goto block ∷ rest)
    goto block rest h =
        made reads most n (Goto block) rest refl
        (λ steps le machine answers ok. jumped steps (code_at piece.blocks (Some block)) machine answers (λ code is. h code is steps le machine answers ok))

    pub if_accept : (accept block : ℕ) (rest : List Stmt) → CalmAt reads most n block → Calm reads most n rest
        → Calm reads most (suc n) (IfAccept accept block ∷ rest)
    if_accept accept block rest h g =
        made reads most n (IfAccept accept block) rest refl
        (λ steps le machine answers ok. chosen steps _ (code_at piece.blocks (Some block)) rest machine answers
        (λ code is. h code is steps le machine answers ok) (g steps le machine answers ok))

    pub if_end : (block : ℕ) (rest : List Stmt) → CalmAt reads most n block → Calm reads most n rest → Calm reads most (suc n) (IfEnd block ∷ rest)
    if_end block rest h g =
        made reads most n (IfEnd block) rest refl
        (λ steps le machine answers ok. chosen steps _ (code_at piece.blocks (Some block)) rest machine answers
        (λ code is. h code is steps le machine answers ok) (g steps le machine answers ok))

    pub stores : (state : ℕ) (rest : List Stmt) → Stored state → Calm reads most n rest → Calm reads most (suc n) (State state ∷ rest)
    stores state rest stored h =
        made reads most n (State state) rest refl
        (λ steps le machine answers ok. h steps le (record machine { state = Some state }) answers
        (λ other is. let same : state ≡ other = cc in subst Stored same stored))

    came_back : (steps : ℕ) → steps ≤ n → (refills : List Refill) (machine : Machine) (answers : List Answer) → IsOk machine → Backs reads most n
        → After reads most steps (come_back piece.blocks refills machine answers)
    came_back steps le refills machine answers ok backs = by machine.state refl
      where
        by : (o : Option ℕ) → machine.state ≡ o
            → After reads most steps (jump (code_at piece.blocks (stored_block piece.blocks o))
            (record machine { unit = None; limit = machine.limit + units_of_all refills }) answers)
        by None is = tt
        by (Some state) is = there (state_block piece.blocks state) refl
          where
            there : (o : Option ℕ) → state_block piece.blocks state ≡ o
                → After reads most steps (jump (code_at piece.blocks o) (record machine { unit = None; limit = machine.limit + units_of_all refills }) answers)
            there None e = tt
            there (Some block) e =
                jumped steps (code_at piece.blocks (Some block)) (record machine { unit = None; limit = machine.limit + units_of_all refills }) answers
                (λ code at. backs state block (ok state is) e code at steps le (record machine { unit = None; limit = machine.limit + units_of_all refills }) answers ok)

    pub checks : (units : ℕ) (rest : List Stmt) → Backs reads most n → Calm reads most n rest → Calm reads most (suc n) (Need units ∷ rest)
    checks units rest backs h =
        made reads most n (Need units) rest refl
        (λ steps le machine answers ok.
        need_next (After reads most steps) piece.blocks units rest machine.state
        (λ next others same. h steps le next others (λ state is. ok state (sym same ∙ is)))
        (λ outcome next. tt)
        (λ refills next others same. came_back steps le refills next others (λ state is. ok state (sym same ∙ is)) backs) machine answers refl)

    tried : (steps : ℕ) → steps ≤ n → (block : ℕ) (rest : List Stmt) → CalmAt reads most n block → Calm reads most n rest → Backs reads most n
        → (machine : Machine) (answers : List Answer) → IsOk machine
        → After reads most steps (try piece.blocks (code_at piece.blocks (Some block)) rest machine answers)
    tried steps le block rest h g backs machine [] ok = tt
    tried steps le block rest h g backs machine (refilled (more dropped added) ∷ answers) ok =
        jumped steps (code_at piece.blocks (Some block)) (record machine { limit = machine.limit + added }) answers
        (λ code is. h code is steps le (record machine { limit = machine.limit + added }) answers ok)
    tried steps le block rest h g backs machine (refilled no_more ∷ answers) ok = g steps le machine answers ok
    tried steps le block rest h g backs machine (left refills ∷ answers) ok = came_back steps le refills machine answers ok backs

    pub tries : (block : ℕ) (rest : List Stmt) → CalmAt reads most n block → Calm reads most n rest → Backs reads most n
        → Calm reads most (suc n) (Try block ∷ rest)
    tries block rest h g backs =
        made reads most n (Try block) rest refl (λ steps le machine answers ok. tried steps le block rest h g backs machine answers ok)

  -- ---- reading a unit

  -- where none is to be read
  pub reads_none : (most n : ℕ) (rest : List Stmt) → Calm 0 most n (Peek ∷ rest)
  reads_none most n rest zero le machine answers ok few = omega arith
  reads_none most n rest (suc steps) le machine answers ok few = by (step piece stream Peek rest machine answers) few
    where
      by : (next : Next) → count_made is_peek (traced piece stream Peek (trace piece stream steps) next).made ≤ 0
          → count_made (is_of sort) (traced piece stream Peek (trace piece stream steps) next).made ≤ most
      by (goes_on code machine answers) few = absurd (omega (arith, few))
      by (ends outcome machine) few = absurd (omega (arith, few))

  -- behind the one that is read no other one is
  pub reads_one : (most n : ℕ) (rest : List Stmt) → Calm 0 most n rest → Calm 1 most (suc n) (Peek ∷ rest)
  reads_one most n rest h zero le machine answers ok few = omega arith
  reads_one most n rest h (suc steps) le machine answers ok few =
      by (unit_at piece.eof stream machine.cursor machine.limit) few
    where
      by : (o : Option ℕ) → count_made is_peek (traced piece stream Peek (trace piece stream steps) (peek o rest machine answers)).made ≤ 1
          → count_made (is_of sort) (traced piece stream Peek (trace piece stream steps) (peek o rest machine answers)).made ≤ most
      by None few = let no = counted (is_of sort Peek) (is_of-none sort Peek refl) in omega (arith, no)
      by (Some unit) few =
          let no = counted (is_of sort Peek) (is_of-none sort Peek refl) in
          let least = h steps (omega (arith, le)) (record machine { unit = Some unit }) answers ok (omega (arith, few)) in
          omega (arith, least, no)

  -- ---- the tests

  -- a question reads nothing
  counted_read : (question : Question) (block : ℕ) → ◌≡◌ {A = ℕ} (if is_peek (asks question block) then 1 else 0) 0
  counted_read question block = ap {B = ℕ} (λ t. if t then 1 else 0) (is_peek-asks question block)

  tests : (most n : ℕ) (question : Question) (block : ℕ) (rest : List Stmt) → CalmAt 0 most n block → Calm 0 most n rest
      → Calm 0 (asked_of sort question + most) (suc n) (asks question block ∷ rest)
  tests most n question block rest h g zero le machine answers ok few = omega arith
  tests most n question block rest h g (suc steps) le machine answers ok few =
      by (step piece stream (asks question block) rest machine answers) after_step few
    where
      by : (next : Next) → After 0 most steps next
          → count_made is_peek (traced piece stream (asks question block) (trace piece stream steps) next).made ≤ 0
          → count_made (is_of sort) (traced piece stream (asks question block) (trace piece stream steps) next).made ≤ asked_of sort question + most
      by (goes_on code next others) after few =
          let one = counted-asks sort question block in
          let none = counted_read question block in
          let least = after (omega (arith, few, none)) in
          omega (arith, least, one)
      by (ends outcome next) after few = let one = counted-asks sort question block in omega (arith, one)

      stepped : (o : Option ℕ)
          → After 0 most steps (if_unit o (holds (is_among piece.table) question) (code_at piece.blocks (Some block)) rest machine answers)
      stepped None = tt
      stepped (Some unit) =
          chosen 0 most n steps (holds (is_among piece.table) question unit) (code_at piece.blocks (Some block)) rest machine answers
          (λ code is. h code is steps (omega (arith, le)) machine answers ok) (g steps (omega (arith, le)) machine answers ok)

      after_step : After 0 most steps (step piece stream (asks question block) rest machine answers)
      after_step = subst (λ next. After 0 most steps next) (sym (asks_step piece stream rest machine answers question block)) (stepped machine.unit)

  -- a jump by the unit
  switches : (n : ℕ) (cases : List (List ℕ × ℕ)) (last : ℕ) → AllByRecursion (λ case. CalmAt 0 0 n case.1) cases → CalmAt 0 0 n last
      → Calm 0 (switched_of sort) (suc n) (Switch (switch_cases cases) last ∷ [])
  switches n cases last h own zero le machine answers ok few = omega arith
  switches n cases last h own (suc steps) le machine answers ok few =
      by (step piece stream (Switch (switch_cases cases) last) [] machine answers) (stepped machine.unit) few
    where
      by : (next : Next) → After 0 0 steps next
          → count_made is_peek (traced piece stream (Switch (switch_cases cases) last) (trace piece stream steps) next).made ≤ 0
          → count_made (is_of sort) (traced piece stream (Switch (switch_cases cases) last) (trace piece stream steps) next).made ≤ switched_of sort
      by (goes_on code next others) after few =
          let one = switch_sort sort cases last in
          let least = after (omega (arith, few)) in
          omega (arith, least, one)
      by (ends outcome next) after few = let one = switch_sort sort cases last in omega (arith, one)

      led : (unit block : ℕ) → CalmAt 0 0 n block → After 0 0 steps (jump (code_at piece.blocks (Some block)) machine answers)
      led unit block calm = there (code_at piece.blocks (Some block)) refl
        where
          there : (o : Option (List Stmt)) → code_at piece.blocks (Some block) ≡ o → After 0 0 steps (jump o machine answers)
          there None is = tt
          there (Some code) is = calm code is steps (omega (arith, le)) machine answers ok

      stepped : (o : Option ℕ)
          → After 0 0 steps (switch_unit o (λ unit. code_at piece.blocks (Some (case_block (switch_cases cases) last unit))) machine answers)
      stepped None = tt
      stepped (Some unit) =
          subst (λ block. After 0 0 steps (jump (code_at piece.blocks (Some block)) machine answers)) (sym (case_block-ways cases last unit))
          (led unit (case_way cases last unit) (case_way-each (CalmAt 0 0 n) cases last unit h own))

  -- by a tree that leads to calm blocks
  pub tree_calm : (n : ℕ) (tree : TestTree ℕ) (next : ℕ) → StandsFrom (code_of piece.blocks) next (inner_blocks next tree)
      → EachTest (λ unit. Unit {0}) (CalmAt 0 0 n) tree → Calm 0 (depth_of sort tree) n (tree_code next tree)
  tree_calm n (leaf block) next stands leads = fewer 0 0 n (Goto block ∷ []) (goto 0 0 n block [] leads)
  tree_calm n (switch cases last) next stands leads =
      fewer 0 (switched_of sort) n (Switch (switch_cases cases) last ∷ []) (switches n cases last leads.1 leads.2)
  tree_calm n (test question block high) next stands leads =
      let again = tree_calm n high next stands leads.2 in
      fewer 0 (asked_of sort question + depth_of sort high) n (asks question block ∷ tree_code next high)
      (tests (depth_of sort high) n question block (tree_code next high)
      (λ code is. more_tests 0 0 (depth_of sort high) n code (omega arith) (leads.1 code is)) again)
  tree_calm n (fork question low high) next stands leads =
      let below : List (List Stmt) = inner_blocks (suc next) low in
      let above : List (List Stmt) = inner_blocks (suc next + inner_size low) high in
      let e : suc next + length below ≡ suc next + inner_size low = ap (λ n. suc next + n) (length-inner_blocks (suc next) low) in
      let low_calm = tree_calm n low (suc next) (StandsFrom-front (code_of piece.blocks) (suc next) below above stands.1) leads.1 in
      let high_calm = tree_calm n high (suc next + inner_size low)
      (subst (λ n. StandsFrom (code_of piece.blocks) n above) e (StandsFrom-back (code_of piece.blocks) (suc next) below above stands.1)) leads.2 in
      fewer 0 (asked_of sort question + max (depth_of sort low) (depth_of sort high)) n (asks question next ∷ tree_code (suc next + inner_size low) high)
      (tests (max (depth_of sort low) (depth_of sort high)) n question next (tree_code (suc next + inner_size low) high)
      (λ code is.
      let own = stands.0 in
      let same : tree_code (suc next) low ≡ code = cc in
      subst (λ l. Calm 0 (max (depth_of sort low) (depth_of sort high)) n l) same
      (more_tests 0 (depth_of sort low) (max (depth_of sort low) (depth_of sort high)) n (tree_code (suc next) low) (omega arith) low_calm))
      (more_tests 0 (depth_of sort high) (max (depth_of sort low) (depth_of sort high)) n (tree_code (suc next + inner_size low) high) (omega arith) high_calm))

-- where no more tests come, and with fewer states stored, no more of one sort come
pub calm_with : (sort : Sort) (piece : Piece) (stream : List ℕ) (Stored Others : ℕ → Type 0) → ((state : ℕ) → Others state → Stored state)
    → (reads most n : ℕ) (code : List Stmt) → Calm all_tests piece stream Stored reads most n code → Calm sort piece stream Others reads most n code
calm_with sort piece stream Stored Others f reads most n code h steps le machine answers ok few =
    let least = h steps le machine answers (λ state is. f state (ok state is)) few in
    let fewer = fewer_made sort (trace piece stream steps code machine answers).made in
    omega (arith, least, fewer)

-- behind a statement that stores a state no other one is stored
pub stores_alone : (sort : Sort) (piece : Piece) (stream : List ℕ) (Stored : ℕ → Type 0) (reads most n state : ℕ) (rest : List Stmt)
    → Calm sort piece stream (λ other. other ≡ state) reads most n rest → Calm sort piece stream Stored reads most (suc n) (State state ∷ rest)
stores_alone sort piece stream Stored reads most n state rest h =
    made sort piece stream Stored reads most n (State state) rest refl
    (λ steps le machine answers ok. h steps le (record machine { state = Some state }) answers (λ other is. let same : other ≡ state = cc in same))
