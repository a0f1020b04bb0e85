-- The automaton of a list of terms, with ordered moves and tags (Trofimovich 2017): state 2 p is the beginning of part p, and
-- state 2 p + 1 its end.
use Rattle.std.specs.Prelude.{ℕ, zero, suc, ◌+◌, ◌*◌, List, [], ◌∷◌, ◌++◌, map, Option, Some, None, Bool, true, false, nat_le, nat_eq, if◌then◌else◌}
use Rattle.lx_regex.specs.Term.{Term, empty, class, any_unit, cat, alt, repeat, tag, group, Terms, nil, cons, copies, parts}
use Rattle.lx_regex.specs.Script.{Symbol, sets, unsets, picks, merge_tags, tags_in, tags_among, may_iterate, copy_part}

-- a move to another state: the choice that it is, if any, the tags that it sets, those that it unsets, and the state
pub data Move : Type 0 where
  move : (picked : Option ℕ) (set unset : List ℕ) (to : ℕ) → Move

-- the state to which a move leads
abbrev pub target : Move → ℕ
target (move picked set unset to) = to

-- a choice, if there is one
abbrev pub picked_symbols : Option ℕ → List Symbol
picked_symbols None = []
picked_symbols (Some choice) = picks choice ∷ []

-- the symbols of a move
abbrev pub label : Move → List Symbol
label (move picked set unset to) = picked_symbols picked ++ (map sets set ++ map unsets unset)

-- A state goes on by one of its moves, in their order; or it is a leaf, and a code point of the class, or any unit, leads to
-- the next state.
pub data State : Type 0 where
  moves : List Move → State
  leaf : (ranges : List (ℕ × ℕ)) → State
  unit_leaf : State

-- the moves between two iterations: on to a copy of the body, where one more may come, and to the end, where there are enough
abbrev pub iteration_moves : (may enough : Bool) → List ℕ → (copy last : ℕ) → List Move
iteration_moves true true tags copy last = move (Some 0) [] [] copy ∷ move (Some 1) [] tags last ∷ []
iteration_moves true false tags copy last = move None [] [] copy ∷ []
iteration_moves false true tags copy last = move None [] tags last ∷ []
iteration_moves false false tags copy last = []

-- the moves after so many iterations of a repetition that is this part
abbrev pub moves_after : (part : ℕ) → (body : Term) → (low : ℕ) → (high : Option ℕ) → (done : ℕ) → List Move
moves_after part body low high done =
    iteration_moves (may_iterate done high) (nat_le low done) (if nat_eq done 0 then tags_in body else [])
    (2 * copy_part part body low high done) (2 * part + 1)

-- where a sequence goes on: the beginning of the next member, or the end
abbrev pub next_member : (part : ℕ) → Terms → (last : ℕ) → ℕ
next_member part nil last = last
next_member part (cons member members) last = 2 * part

-- a move for each member of an alternation; `merged` puts the tags of the members before to those behind
abbrev pub member_moves : Terms → (place part : ℕ) → (merged : List ℕ → List ℕ) → List Move
member_moves nil place part merged = []
member_moves (cons member members) place part merged =
    move (Some place) [] (merged (tags_among members)) (2 * part)
    ∷ member_moves members (suc place) (part + parts member) (λ tags. merged (merge_tags (tags_in member) tags))

-- so many copies of a body, from one number on
abbrev pub copies_table :
    (rows : ℕ → List Move → List State) → (part : ℕ) → (body : Term) → (low : ℕ) → (high : Option ℕ) → (left number : ℕ) → List State
copies_table rows part body low high zero number = []
copies_table rows part body low high (suc left) number =
    rows (part + 1 + number * parts body) (moves_after part body low high (suc number))
    ++ copies_table rows part body low high left (suc number)

-- The states of a term that is this part, from whose end these moves lead on: its beginning, its end, and the states of what
-- stands in it.
abbrev mutual
  pub table : Term → (part : ℕ) → (exits : List Move) → List State
  table empty part exits = moves (move None [] [] (2 * part + 1) ∷ []) ∷ moves exits ∷ []
  table (class ranges) part exits = leaf ranges ∷ moves exits ∷ []
  table any_unit part exits = unit_leaf ∷ moves exits ∷ []
  table (cat members) part exits =
      moves (move None [] [] (next_member (part + 1) members (2 * part + 1)) ∷ []) ∷ moves exits
      ∷ members_table members (part + 1) (2 * part + 1)
  table (alt members) part exits =
      moves (member_moves members 0 (part + 1) (λ tags. tags)) ∷ moves exits
      ∷ alternatives_table members (part + 1) (2 * part + 1)
  table (repeat body low high) part exits =
      moves (moves_after part body low high 0) ∷ moves exits
      ∷ copies_table (λ copy ways. table body copy ways) part body low high (copies low high) 0
  table (tag number) part exits = moves (move None (number ∷ []) [] (2 * part + 1) ∷ []) ∷ moves exits ∷ []
  table (group opening closing body) part exits =
      moves (move None (opening ∷ []) [] (2 * (part + 1)) ∷ []) ∷ moves exits
      ∷ table body (part + 1) (move None (closing ∷ []) [] (2 * part + 1) ∷ [])

  pub members_table : Terms → (part last : ℕ) → List State
  members_table nil part last = []
  members_table (cons member members) part last =
      table member part (move None [] [] (next_member (part + parts member) members last) ∷ [])
      ++ members_table members (part + parts member) last

  pub alternatives_table : Terms → (part last : ℕ) → List State
  alternatives_table nil part last = []
  alternatives_table (cons member members) part last =
      table member part (move None [] [] last ∷ []) ++ alternatives_table members (part + parts member) last

-- from the end of a rule the one move leads to state 0, the last state of all
abbrev pub final : List Move
final = move None [] [] 0 ∷ []

-- the states of rules, of which the first is this part
abbrev pub rules_table : List Term → (part : ℕ) → List State
rules_table [] part = []
rules_table (e ∷ rules) part = table e part final ++ rules_table rules (part + parts e)

-- the automaton of a rule list, which is itself part 0
abbrev pub automaton : List Term → List State
automaton rules = moves [] ∷ moves [] ∷ rules_table rules 1
