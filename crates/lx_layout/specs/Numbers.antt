-- Operations whose registers statements can count: a statement counts from 1.
use Rattle.std.specs.Prelude.{ℕ, ◌<◌, List, [], ◌∷◌}
use Rattle.lx_auto.specs.declared.ops.Op.{Op}
use Rattle.lx_auto.specs.declared.ops.Op.TheVariants.{Here, Null, Copy, MHere, MNull, MCopy}

-- the registers of an operation are less than a number
abbrev pub IsBelow : (bound : ℕ) → Op → Type 0
IsBelow bound (Here reg) = reg < bound
IsBelow bound (Null reg) = reg < bound
IsBelow bound (Copy reg source) = (reg < bound) × (source < bound)
IsBelow bound (MHere mreg) = Unit {0}
IsBelow bound (MNull mreg) = Unit {0}
IsBelow bound (MCopy mreg source) = Unit {0}

-- the same of a list
abbrev pub AreBelow : (bound : ℕ) → List Op → Type 0
AreBelow bound [] = Unit {0}
AreBelow bound (op ∷ ops) = IsBelow bound op × AreBelow bound ops
