-- The list of operations that stands for all those that do the same.
use Rattle.std.specs.Prelude.{ℕ, List, [], ◌∷◌, ◌++◌, map, Bool, true, false, nat_lt, if◌then◌else◌}
use Rattle.std.specs.List.{flat_map}
use Rattle.lx_auto.specs.declared.automaton.Held.{Held}
use Rattle.lx_auto.specs.declared.automaton.Held.TheVariants.{Reg, MReg}
use Rattle.lx_auto.specs.declared.ops.Op.{Op}
use Rattle.lx_auto.specs.declared.ops.Op.TheVariants.{Here, Null, Copy, MHere, MNull, MCopy}
use Rattle.lx_auto.specs.Effects.{Effect, here, nothing, held_by, history_of, copies_itself, effect_of, marks_by, origin_after, target_of}

-- ---- targets, each once, in ascending order

-- registers stand in the order of their numbers, and behind them m-registers in the order of theirs
abbrev pub comes_before : (held other : Held) → Bool
comes_before (Reg reg) (Reg other) = nat_lt reg other
comes_before (Reg reg) (MReg other) = true
comes_before (MReg mreg) (Reg other) = false
comes_before (MReg mreg) (MReg other) = nat_lt mreg other

-- the targets, with one more, if it is not among them
abbrev pub with_target : Held → List Held → List Held
with_target held [] = held ∷ []
with_target held (other ∷ targets) =
    if comes_before other held then other ∷ with_target held targets
    else (if comes_before held other then held ∷ other ∷ targets else other ∷ targets)

-- the targets, with those of a list
abbrev pub targets_onto : (targets : List Held) → List Op → List Held
targets_onto targets [] = targets
targets_onto targets (op ∷ ops) = targets_onto (with_target (target_of op) targets) ops

-- what a list writes
abbrev pub targets_of : List Op → List Held
targets_of ops = targets_onto [] ops

-- ---- what is done to each

-- the operation with this effect on a register; a register has no history
abbrev pub op_with : (reg : ℕ) → Effect → Op
op_with reg here = Here reg
op_with reg nothing = Null reg
op_with reg (held_by source) = Copy reg source
op_with reg (history_of origin marks) = Copy reg reg

-- the operation that puts a mark at the end of an m-register
abbrev pub marking : (mreg : ℕ) → (mark : Bool) → Op
marking mreg true = MHere mreg
marking mreg false = MNull mreg

-- the operation, unless it copies a register to itself
abbrev pub unless_itself : Op → List Op
unless_itself op = if copies_itself op then [] else op ∷ []

-- what a list does to a register, by one operation; and to an m-register, by a copy and then its marks
abbrev pub ops_on : List Op → Held → List Op
ops_on ops (Reg reg) = unless_itself (op_with reg (effect_of ops (Reg reg)))
ops_on ops (MReg mreg) = unless_itself (MCopy mreg (origin_after ops mreg mreg)) ++ map (marking mreg) (marks_by ops mreg)

-- what a list does to each register that it alters
abbrev pub canonical : List Op → List Op
canonical ops = flat_map (ops_on ops) (targets_of ops)
