-- What the opener of a block says of its kind.
use Rattle.std.proofs.Common.{◌≡◌, ◌⊎◌, inl, inr, Option, None, Some, refl}
use Rattle.lx_base.specs.declared.blocks.BlockKind.{BlockKind}
use Rattle.lx_base.specs.declared.faults.Fault.{Fault}
use Rattle.lx_base.specs.declared.places.Pos.{Pos}
use Rattle.lx_rules.specs.Blocks.{opening_fault}
use Rattle.lx_rules.specs.Environments.{KeptBlock}

-- the opener is refused or not
pub opening_is : (kind : BlockKind) (at : Pos) (kept : Option KeptBlock) → (opening_fault kind at kept ≡ None) ⊎ ((fault : Fault) × (opening_fault kind at kept ≡ Some fault))
opening_is kind at kept = of (opening_fault kind at kept)
  where
    of : (found : Option Fault) → (found ≡ None) ⊎ ((fault : Fault) × (found ≡ Some fault))
    of None = inl refl
    of (Some fault) = inr (fault, refl)
