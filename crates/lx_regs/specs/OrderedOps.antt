-- Lists that write registers one by one, each of a greater number than those before.
use Rattle.std.specs.Prelude.{◌≡◌, ◌≤◌, ℕ, suc, Bool, true, false, List, [], ◌∷◌}
use Rattle.lx_auto.specs.declared.ops.Op.{Op}
use Rattle.lx_auto.specs.declared.ops.Op.TheVariants.{Here, Null, Copy, MHere, MNull, MCopy}

-- the number of the register or the m-register that an operation writes
abbrev pub number_of : Op → ℕ
number_of (Here target) = target
number_of (Null target) = target
number_of (Copy target source) = target
number_of (MHere target) = target
number_of (MNull target) = target
number_of (MCopy target source) = target

-- whether an operation writes a register
abbrev pub writes_register : Op → Bool
writes_register (Here target) = true
writes_register (Null target) = true
writes_register (Copy target source) = true
writes_register (MHere target) = false
writes_register (MNull target) = false
writes_register (MCopy target source) = false

-- each operation writes a register, of a number that is not below the least one and greater than those of the operations before
abbrev pub AscendFrom : (least : ℕ) → List Op → Type 0
AscendFrom least [] = Unit {0}
AscendFrom least (op ∷ ops) = (writes_register op ≡ true) × (least ≤ number_of op) × AscendFrom (suc (number_of op)) ops

-- the registers of a list are in ascending order
abbrev pub Ascend : List Op → Type 0
Ascend ops = AscendFrom 0 ops
