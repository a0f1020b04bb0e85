-- The steps by which a body is passed over.
use Rattle.std.proofs.Common.{◌≡◌, ℕ, zero, suc, ◌<◌, ◌≤◌, true, false, List, [], ◌∷◌, length, drop, codes, Some, None, refl, sym, ◌∙◌, arith}
use Rattle.lx_base.specs.Letters.{begins_with}
use Rattle.lx_base.specs.declared.blocks.BlockKind.{BlockKind}
use Rattle.lx_base.specs.declared.blocks.BlockKind.TheVariants.{Include}
use Rattle.lx_split.specs.Bodies.{after_part_of, after_body}

-- what follows the body that begins the text is what follows the one that begins its rest
pub record Passes (kind : BlockKind) (text rest : List ℕ) : Type 0 where
  pub steps : ℕ
  pub enough : length rest ≤ steps
  pub same : after_body kind steps rest ≡ after_body kind (length text) text

no_part : (kind : BlockKind) → after_part_of kind [] ≡ None
no_part Include = refl
no_part kind = refl

no_text : (kind : BlockKind) (steps : ℕ) (rest : List ℕ) → length rest ≡ 0 → after_body kind steps rest ≡ None
no_text kind zero rest none = refl
no_text kind (suc steps) [] none = rw (no_part kind)
no_text kind (suc steps) (letter ∷ rest) none = absurd (omega arith)

module _ (kind : BlockKind) (text rest : List ℕ) where
  pub Passes-end : length rest ≡ 0 → Passes kind text rest → after_body kind (length text) text ≡ None
  Passes-end none at = sym at.same ∙ no_text kind at.steps rest none

  closed_at : (steps : ℕ) → begins_with (codes "*/") rest ≡ true → 0 < length rest → length rest ≤ steps →
      after_body kind steps rest ≡ after_body kind (length text) text → after_body kind (length text) text ≡ Some (drop 2 rest)
  closed_at zero closed some enough same = absurd (omega arith)
  closed_at (suc steps) closed some enough same = sym (rw closed at same)

  pub Passes-closed : begins_with (codes "*/") rest ≡ true → 0 < length rest → Passes kind text rest → after_body kind (length text) text ≡ Some (drop 2 rest)
  Passes-closed closed some at = closed_at at.steps closed some at.enough at.same

  part_at : (steps : ℕ) (next : List ℕ) → begins_with (codes "*/") rest ≡ false → after_part_of kind rest ≡ Some next → length next < length rest →
      length rest ≤ steps → after_body kind steps rest ≡ after_body kind (length text) text → Passes kind text next
  part_at zero next not_closed part less enough same = absurd (omega arith)
  part_at (suc steps) next not_closed part less enough same =
      record { steps = steps; enough = omega arith; same = rw (not_closed, part) at same }

  pub Passes-part : (next : List ℕ) → begins_with (codes "*/") rest ≡ false → after_part_of kind rest ≡ Some next → length next < length rest →
      Passes kind text rest → Passes kind text next
  Passes-part next not_closed part less at = part_at at.steps next not_closed part less at.enough at.same

  stuck_at : (steps : ℕ) → begins_with (codes "*/") rest ≡ false → after_part_of kind rest ≡ None →
      after_body kind steps rest ≡ after_body kind (length text) text → after_body kind (length text) text ≡ None
  stuck_at zero not_closed part same = sym same
  stuck_at (suc steps) not_closed part same = sym (rw (not_closed, part) at same)

  pub Passes-stuck : begins_with (codes "*/") rest ≡ false → after_part_of kind rest ≡ None → Passes kind text rest → after_body kind (length text) text ≡ None
  Passes-stuck not_closed part at = stuck_at at.steps not_closed part at.same
