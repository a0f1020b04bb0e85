-- A step of a match that was left before: with values that were given before its own, and with answers that come behind those that it uses.
use Rattle.std.proofs.Common.{◌≡◌, ◌∙◌, ap, refl, sym, subst, ℕ, zero, suc, ◌+◌, Bool, true, false, List, [], ◌∷◌, ◌++◌, Option, Some, None}
use Rattle.std.specs.Prelude.{map, if◌then◌else◌}
use Rattle.std.proofs.lemmas.List.{append_assoc}
use Rattle.lx_ccode.specs.declared.piece.CodeBlock.{CodeBlock}
use Rattle.lx_ccode.specs.declared.piece.Piece.{Piece}
use Rattle.lx_ccode.specs.declared.piece.Stmt.{Stmt}
use Rattle.lx_ccode.specs.declared.piece.Stmt.TheVariants.{Peek, Skip, MSet, MUnset, MCopy, IfUnit, IfIs, IfSet, IfAccept, IfEnd, Need, Try, Cond, Tag, Count, End, Back, Switch, Goto}
use Rattle.lx_ccode.specs.Machine.{Answer, Machine, Next, Value, at_end, back, choose, come_back, condition, ends, given, goes_on, group_count, group_end, has_units, if_unit, switch_unit, jump, left, more, need, no_more, peek, refilled, skip, step, tag_history, tag_offset, try, unanswered, write_history}
use Rattle.lx_step.specs.Calls.{undropped}

-- the machine with values that were given before its own
abbrev pub behind : List Value → Machine → Machine
behind front machine = record machine { values = front ++ machine.values }

-- it is not that a refill was asked in vain
abbrev pub IsAnswered : Next → Type 0
IsAnswered (goes_on code machine answers) = Unit {0}
IsAnswered (ends outcome machine) = outcome ≡ unanswered → ⊥

-- a Need that has its units goes on
need-enough : (blocks : List CodeBlock) (units : ℕ) (rest : List Stmt) (machine : Machine) (answers : List Answer) → has_units units machine ≡ true
    → need blocks units rest machine answers ≡ goes_on rest machine answers
need-enough blocks units rest machine [] enough = ap (λ found. if found then goes_on rest machine [] else ends unanswered machine) enough
need-enough blocks units rest machine (refilled (more dropped added) ∷ answers) enough =
    ap (λ found. if found then goes_on rest machine (refilled (more dropped added) ∷ answers) else need blocks units rest (record machine { limit = machine.limit + added }) answers) enough
need-enough blocks units rest machine (refilled no_more ∷ answers) enough =
    ap (λ found. if found then goes_on rest machine (refilled no_more ∷ answers) else ends at_end machine) enough
need-enough blocks units rest machine (left refills ∷ answers) enough =
    ap (λ found. if found then goes_on rest machine (left refills ∷ answers) else come_back blocks refills machine answers) enough

module _ (front : List Value) (others : List Answer) where
  -- what comes after the step, with the values before its own and with the answers behind
  abbrev pub between : Next → Next
  between (goes_on code machine answers) = goes_on code (behind front machine) (map undropped answers ++ others)
  between (ends outcome machine) = ends outcome (behind front machine)

  -- the answers, and those behind them
  abbrev pub with_others : List Answer → List Answer
  with_others used = map undropped used ++ others

  between-jump : (target : Option (List Stmt)) (machine : Machine) (used : List Answer) → jump target (behind front machine) (with_others used) ≡ between (jump target machine used)
  between-jump None machine used = refl
  between-jump (Some code) machine used = refl

  between-choose : (test : Bool) (target : Option (List Stmt)) (rest : List Stmt) (machine : Machine) (used : List Answer)
      → choose test target rest (behind front machine) (with_others used) ≡ between (choose test target rest machine used)
  between-choose true target rest machine used = between-jump target machine used
  between-choose false target rest machine used = refl

  between-peek : (unit : Option ℕ) (rest : List Stmt) (machine : Machine) (used : List Answer) → peek unit rest (behind front machine) (with_others used) ≡ between (peek unit rest machine used)
  between-peek None rest machine used = refl
  between-peek (Some unit) rest machine used = refl

  between-skip : (before_limit : Bool) (rest : List Stmt) (machine : Machine) (used : List Answer) → skip before_limit rest (behind front machine) (with_others used) ≡ between (skip before_limit rest machine used)
  between-skip true rest machine used = refl
  between-skip false rest machine used = refl

  between-if_unit : (unit : Option ℕ) (test : ℕ → Bool) (target : Option (List Stmt)) (rest : List Stmt) (machine : Machine) (used : List Answer)
      → if_unit unit test target rest (behind front machine) (with_others used) ≡ between (if_unit unit test target rest machine used)
  between-if_unit None test target rest machine used = refl
  between-if_unit (Some unit) test target rest machine used = between-choose (test unit) target rest machine used

  between-switch_unit : (unit : Option ℕ) (target : ℕ → Option (List Stmt)) (machine : Machine) (used : List Answer)
      → switch_unit unit target (behind front machine) (with_others used) ≡ between (switch_unit unit target machine used)
  between-switch_unit None target machine used = refl
  between-switch_unit (Some unit) target machine used = between-jump (target unit) machine used

  between-write_history : (history : ℕ) (content : List (Option ℕ)) (rest : List Stmt) (machine : Machine) (used : List Answer)
      → write_history history content rest (behind front machine) (with_others used) ≡ between (write_history history content rest machine used)
  between-write_history zero content rest machine used = refl
  between-write_history (suc place) content rest machine used = refl

  between-back : (offset : Option ℕ) (rest : List Stmt) (machine : Machine) (used : List Answer) → back offset rest (behind front machine) (with_others used) ≡ between (back offset rest machine used)
  between-back None rest machine used = refl
  between-back (Some offset) rest machine used = refl

  between-given : (value : Value) (rest : List Stmt) (machine : Machine) (used : List Answer)
      → goes_on rest (given value (behind front machine)) (with_others used) ≡ between (goes_on rest (given value machine) used)
  between-given value rest machine used = ap (λ values. goes_on rest (record machine { values = values }) (with_others used)) (append_assoc front machine.values (value ∷ []))

  between-if : (test : Bool) (one other one' other' : Next) → one' ≡ between one → (IsAnswered other → other' ≡ between other) → IsAnswered (if test then one else other)
      → (if test then one' else other') ≡ between (if test then one else other)
  between-if true one other one' other' same again answered = same
  between-if false one other one' other' same again answered = again answered

  between-need : (blocks : List CodeBlock) (units : ℕ) (rest : List Stmt) (machine : Machine) (used : List Answer) → IsAnswered (need blocks units rest machine used)
      → need blocks units rest (behind front machine) (with_others used) ≡ between (need blocks units rest machine used)
  between-need blocks units rest machine [] answered = by (has_units units machine) refl where
    by : (has : Bool) → has_units units machine ≡ has → need blocks units rest (behind front machine) others ≡ between (need blocks units rest machine [])
    by true enough = need-enough blocks units rest (behind front machine) others enough ∙ sym (ap between (need-enough blocks units rest machine [] enough))
    by false few = absurd (subst IsAnswered (ap (λ found. if found then goes_on rest machine [] else ends unanswered machine) few) answered refl)
  between-need blocks units rest machine (refilled (more dropped added) ∷ used) answered =
      between-if (has_units units machine) _ _ _ _ refl (between-need blocks units rest (record machine { limit = machine.limit + added }) used) answered
  between-need blocks units rest machine (refilled no_more ∷ used) answered = between-if (has_units units machine) _ _ _ _ refl (λ so. refl) answered
  between-need blocks units rest machine (left refills ∷ used) answered = between-if (has_units units machine) _ _ _ _ refl (λ so. between-jump _ _ used) answered

  between-try : (blocks : List CodeBlock) (target : Option (List Stmt)) (rest : List Stmt) (machine : Machine) (used : List Answer) → IsAnswered (try blocks target rest machine used)
      → try blocks target rest (behind front machine) (with_others used) ≡ between (try blocks target rest machine used)
  between-try blocks target rest machine [] answered = absurd (answered refl)
  between-try blocks target rest machine (refilled (more dropped added) ∷ used) answered = between-jump target _ used
  between-try blocks target rest machine (refilled no_more ∷ used) answered = refl
  between-try blocks target rest machine (left refills ∷ used) answered = between-jump _ _ used

  -- the step does the same behind the values and before the answers
  module _ (piece : Piece) (stream : List ℕ) (rest : List Stmt) (machine : Machine) (used : List Answer) where
    pub between-step : (statement : Stmt) → IsAnswered (step piece stream statement rest machine used)
        → step piece stream statement rest (behind front machine) (with_others used) ≡ between (step piece stream statement rest machine used)
    between-step Peek answered = between-peek _ rest machine used
    between-step Skip answered = between-skip _ rest machine used
    between-step (MSet history) answered = between-write_history history _ rest machine used
    between-step (MUnset history) answered = between-write_history history _ rest machine used
    between-step (MCopy history source) answered = between-write_history history _ rest machine used
    between-step (IfUnit greatest block) answered = between-if_unit machine.unit _ _ rest machine used
    between-step (IfIs unit block) answered = between-if_unit machine.unit _ _ rest machine used
    between-step (IfSet set block) answered = between-if_unit machine.unit _ _ rest machine used
    between-step (IfAccept accept block) answered = between-choose _ _ rest machine used
    between-step (IfEnd block) answered = between-choose _ _ rest machine used
    between-step (Need units) answered = between-need piece.blocks units rest machine used answered
    between-step (Try block) answered = between-try piece.blocks _ rest machine used answered
    between-step (Cond cond) answered = between-given (condition cond) rest (record machine { cond = cond }) used
    between-step (Tag tag false register) answered = between-given (tag_offset tag (machine.registers register)) rest machine used
    between-step (Tag tag true history) answered = between-given (tag_history tag (machine.histories history)) rest machine used
    between-step (Count groups) answered = between-given (group_count groups) rest machine used
    between-step (End place register) answered = between-given (group_end place (machine.registers register)) rest machine used
    between-step (Back register) answered = between-back (machine.registers register) rest machine used
    between-step (Switch cases last) answered = between-switch_unit machine.unit _ machine used
    between-step (Goto block) answered = between-jump _ machine used
    between-step _ answered = refl
