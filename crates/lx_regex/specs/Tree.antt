-- The trees by which a term matches.
use Rattle.std.specs.Prelude.{ℕ, zero, suc, ◌≤◌, List, Option}
use Rattle.lx_regex.specs.Term.{Term, empty, class, any_unit, cat, alt, repeat, tag, group, Terms, nil, cons, IsInRanges, IsAtMost}

-- A class has a leaf for each of its code points, `any_unit` one for each code unit. A sequence has a tree for each member,
-- in a row; an alternation has a tree of one member; a repetition has as many iterations of its body as its bounds allow.
mutual
  pub data Tree : Term → Type 0 where
    blank : Tree empty
    point : {ranges : List (ℕ × ℕ)} → (number : ℕ) → IsInRanges ranges number → Tree (class ranges)
    unit : (number : ℕ) → Tree any_unit
    row : {members : Terms} → Row members → Tree (cat members)
    chosen : {members : Terms} → Choice members → Tree (alt members)
    iterations : {body : Term} {low : ℕ} {high : Option ℕ}
        → (count : ℕ) → Iterations body count → low ≤ count → IsAtMost count high → Tree (repeat body low high)
    event : {number : ℕ} → Tree (tag number)
    inside : {opening closing : ℕ} {body : Term} → Tree body → Tree (group opening closing body)

  -- a tree for each member
  pub data Row : Terms → Type 0 where
    row_end : Row nil
    beside : {member : Term} {members : Terms} → Tree member → Row members → Row (cons member members)

  -- a tree of one member: of the first, or of a later one
  pub data Choice : Terms → Type 0 where
    here : {member : Term} {members : Terms} → Tree member → Choice (cons member members)
    later : {member : Term} {members : Terms} → Choice members → Choice (cons member members)

  -- trees of one body, so many
  pub data Iterations : Term → ℕ → Type 0 where
    stop : {body : Term} → Iterations body zero
    iteration : {body : Term} {count : ℕ} → Tree body → Iterations body count → Iterations body (suc count)
