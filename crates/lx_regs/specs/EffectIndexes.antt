-- What lists do to registers, by an index.
use Rattle.std.specs.Prelude.{◌≡◌, ℕ, List, [], Bool, Option, Some, None, nat_eq}
use Rattle.indexmap.specs.IndexMap.{IndexMap, get}
use Rattle.lx_auto.specs.declared.ops.Op.{Op}
use Rattle.lx_auto.specs.Effects.{Effect, here, nothing, held_by, effect_after, origin_after, marks_by}
use Rattle.lx_regs.specs.declared.effects.Index.{Index}
use Rattle.lx_regs.specs.declared.effects.Look.{Look}
use Rattle.lx_regs.specs.declared.effects.Look.TheVariants.{Each, Halves, Indexed}
use Rattle.lx_regs.specs.declared.effects.Single.{Single}
use Rattle.lx_regs.specs.declared.effects.Single.TheVariants.{Now, Never, From}
use Rattle.lx_regs.specs.OrderedOps.{Ascend}

-- the effect on a register
abbrev pub single_effect : Single → Effect
single_effect Now = here
single_effect Never = nothing
single_effect (From reg) = held_by reg

-- what is found for a register: one that an index does not have keeps what it held
abbrev pub effect_found : (found : Option Single) → (reg : ℕ) → Effect
effect_found None reg = held_by reg
effect_found (Some single) reg = single_effect single

-- the same of an index as it is kept
abbrev pub effect_in : {S : Type 0} → IndexMap ℕ Single S → (reg : ℕ) → Effect
effect_in index reg = effect_found (get nat_eq index reg) reg

-- whose history is found for an m-register
abbrev pub origin_found : (found : Option ℕ) → (mreg : ℕ) → ℕ
origin_found None mreg = mreg
origin_found (Some origin) mreg = origin

-- the same of an index as it is kept
abbrev pub origin_in : {S : Type 0} → IndexMap ℕ ℕ S → (mreg : ℕ) → ℕ
origin_in index mreg = origin_found (get nat_eq index mreg) mreg

-- the marks that are found for an m-register
abbrev pub marks_found : (found : Option (List Bool)) → List Bool
marks_found None = []
marks_found (Some marks) = marks

-- the same of an index as it is kept
abbrev pub marks_in : {S : Type 0} → IndexMap ℕ (List Bool) S → (mreg : ℕ) → List Bool
marks_in index mreg = marks_found (get nat_eq index mreg)

-- the index tells what the list does
pub record AreIndexed (ops : List Op) (index : Index) : Type 0 where
  pub singles : (reg : ℕ) → effect_in index.singles reg ≡ effect_after ops reg (held_by reg)
  pub origins : (mreg : ℕ) → origin_in index.origins mreg ≡ origin_after ops mreg mreg
  pub marks : (mreg : ℕ) → marks_in index.marks mreg ≡ marks_by ops mreg

-- it can be found so what the list does
abbrev pub CanLook : List Op → Look → Type 0
CanLook ops Each = Unit {0}
CanLook ops Halves = Ascend ops
CanLook ops (Indexed index) = AreIndexed ops index
