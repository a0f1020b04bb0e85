-- The copies of a body, built one behind another.
use Rattle.std.proofs.Common.{◌≡◌, ℕ, suc, ◌+◌, ◌*◌, ◌<◌, arith, List, [], ◌++◌, map, refl, sym, ap, ◌∙◌, subst, append_assoc, append-nil}
use Rattle.std.specs.Prelude.{if◌then◌else◌}
use Rattle.lx_regex.specs.Automaton as spec
use Rattle.lx_regex.specs.Automaton.{table, copies_table, moves_after}
use Rattle.lx_regex.specs.Script.{tags_in}
use Rattle.lx_regex.specs.Term.{Term, copies, parts}
use Rattle.lx_regex.proofs.PartTables.Rows.{table_length}
use Rattle.lx_tnfa.specs.Moves.{counted_size, shown_move, sized_moves}
use Rattle.lx_tnfa.specs.Rows.{Builds, HasRoom}
use Rattle.lx_tnfa.specs.declared.building.Building.{Building}
use Rattle.lx_tnfa.specs.declared.states.Move.{Move}
use Rattle.lx_tnfa.specs.declared.states.Repeat.{Repeat}
use Rattle.lx_tnfa.proofs.Construction.BuiltStates.{builds_none, builds_then, room_then}
use Rattle.lx_tnfa.proofs.Construction.FirstStates.{moves_sized}
use Rattle.lx_tnfa.proofs.Construction.Members.{not_zero}

-- the states of so many copies, from one number on
abbrev pub copy_rows : Repeat → Term → (left number : ℕ) → List spec.State
copy_rows r body left number = copies_table (λ copy ways. table body copy ways) r.part body r.low r.high left number

-- what a loop over copies has built
pub record CopiesBuilt (start now : Building) (r : Repeat) (body : Term) (number more : ℕ) : Type 0 where
  pub done : List spec.State
  pub builds : Builds start now done
  pub left : done ++ copy_rows r body more number ≡ copy_rows r body (copies r.low r.high) 0
  pub room : HasRoom now (r.part + 1 + number * r.size) (more * r.size)

pub copies_begin : (start : Building) (r : Repeat) (body : Term) → HasRoom start (r.part + 1) (copies r.low r.high * r.size)
    → CopiesBuilt start start r body 0 (copies r.low r.high)
copies_begin start r body room = record {
  done = [];
  builds = builds_none start room.are_classes;
  left = refl;
  room = let e : r.part + 1 ≡ r.part + 1 + 0 * r.size = omega arith in subst (λ n. HasRoom start n (copies r.low r.high * r.size)) e room;
}

-- where there is a copy, the body's parts count
pub size_counts : (r : Repeat) (body : Term) (number : ℕ) → number < copies r.low r.high → r.size ≡ counted_size r.low r.high body
    → r.size ≡ parts body
size_counts r body number lt size =
    size ∙ ap (λ b. if b then 0 else parts body) (not_zero (copies r.low r.high) (λ none. omega arith))

pub copy_room : (start now : Building) (r : Repeat) (body : Term) (number left : ℕ) → CopiesBuilt start now r body number (suc left)
    → r.size ≡ parts body → HasRoom now (r.part + 1 + number * r.size) (parts body + left * r.size)
copy_room start now r body number left built size =
    let e : suc left * r.size ≡ parts body + left * r.size = omega (arith, size) in
    subst (HasRoom now (r.part + 1 + number * r.size)) e built.room

-- the moves behind a copy
pub copy_exits : (r : Repeat) (body : Term) (number : ℕ) (ways : List Move) → r.size ≡ counted_size r.low r.high body
    → ways ≡ map shown_move (sized_moves r (suc number) []) → ways ≡ map shown_move (moves_after r.part body r.low r.high (suc number))
copy_exits r body number ways size are =
    are
    ∙ ap (map shown_move)
    (ap (λ b. sized_moves r (suc number) (if b then tags_in body else [])) (sym (not_zero (suc number) (λ none. omega arith)))
    ∙ sym (moves_sized r body (suc number) size))

pub copies_more : (start now new : Building) (r : Repeat) (body : Term) (number left : ℕ) → CopiesBuilt start now r body number (suc left)
    → r.size ≡ parts body
    → Builds now new (table body (r.part + 1 + number * r.size) (moves_after r.part body r.low r.high (suc number)))
    → CopiesBuilt start new r body (suc number) left
copies_more start now new r body number left built size more =
    let ways = moves_after r.part body r.low r.high (suc number) in
    let own = table body (r.part + 1 + number * r.size) ways in
    let same : own ≡ table body (r.part + 1 + number * parts body) ways = ap (λ n. table body (r.part + 1 + number * n) ways) size in
    let next : r.part + 1 + number * r.size + parts body ≡ r.part + 1 + suc number * r.size = omega (arith, size) in record {
      done = built.done ++ own;
      builds = builds_then start now new built.done own built.builds more;
      left =
          append_assoc built.done own (copy_rows r body left (suc number))
          ∙ ap (λ l. built.done ++ (l ++ copy_rows r body left (suc number))) same ∙ built.left;
      room =
          subst
          (λ n. HasRoom new n (left * r.size)) next
          (room_then now new (r.part + 1 + number * r.size) (parts body) (left * r.size) own (copy_room start now r body number left built size) more
          (table_length body (r.part + 1 + number * r.size) ways));
    }

pub copies_end : (start now : Building) (r : Repeat) (body : Term) (number : ℕ) → CopiesBuilt start now r body number 0
    → Builds start now (copy_rows r body (copies r.low r.high) 0)
copies_end start now r body number built = subst (Builds start now) (sym (append-nil built.done) ∙ built.left) built.builds
