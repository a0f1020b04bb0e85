-- An edge is kept where the registers that are live behind it are.
use Rattle.std.proofs.Common.{◌≡◌, ℕ, List, All, subst}
use Rattle.std.proofs.lemmas.List.Elements.{All-contains}
use Rattle.lx_auto.specs.declared.automaton.Auto.{Auto}
use Rattle.lx_auto.specs.declared.automaton.Edge.{Edge}
use Rattle.lx_auto.specs.declared.automaton.Held.{Held}
use Rattle.lx_auto.specs.declared.ops.Op.{Op}
use Rattle.lx_regs.specs.LiveSets.{AreLiveBehind}
use Rattle.lx_regs.specs.Tested.{KeepsEffect, KeepsLive}
use Rattle.lx_regs.specs.declared.name_tables.NameTable.{NameTable}

-- by lists that are those of the state and of the edge in both automata
pub KeepsLive-registers : (table : NameTable) (given : Auto) (number : ℕ) (leave new_leave : List Op) (edge other : Edge)
    (registers : List Held) (first second new_first new_second : List Op)
    → first ≡ leave → second ≡ edge.ops → new_first ≡ new_leave → new_second ≡ other.ops
    → AreLiveBehind given number edge registers
    → All (KeepsEffect table number edge.to first second new_first new_second) registers
    → KeepsLive table given number leave new_leave edge other
KeepsLive-registers table given number leave new_leave edge other registers first second new_first new_second
    is_first is_second is_new_first is_new_second live kept = λ held at.
    let one : KeepsEffect table number edge.to first second new_first new_second held =
    All-contains (KeepsEffect table number edge.to first second new_first new_second) registers held kept (live.complete held at) in
    let P : List Op → List Op → List Op → List Op → Type 0 = λ a b c d. KeepsEffect table number edge.to a b c d held in
    subst (λ a. P a edge.ops new_leave other.ops) is_first
    (subst (λ b. P first b new_leave other.ops) is_second
    (subst (λ c. P first second c other.ops) is_new_first (subst (λ d. P first second new_first d) is_new_second one)))
