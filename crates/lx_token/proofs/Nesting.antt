-- The steps by which braces are passed over.
use Rattle.std.proofs.Common.{◌≡◌, ℕ, zero, suc, ◌+◌, ◌-◌, ◌<◌, ◌≤◌, ◌≢◌, List, [], ◌∷◌, length, Some, None, refl, arith, eq-eqb, sym, ◌∙◌, add-one}
use Rattle.std.proofs.lemmas.Bool.{ne_eqb}
use Rattle.lx_token.specs.Braces.{after_braces, after_piece}

-- the braces of the text are passed over as those of its rest are at this depth
pub record Reaches (text rest : List ℕ) (depth : ℕ) : Type 0 where
  pub steps : ℕ
  pub enough : length rest ≤ steps
  pub same : after_braces steps depth rest ≡ after_braces (length text) 0 text

end_at : (steps depth : ℕ) → after_braces steps depth [] ≡ None
end_at zero depth = refl
end_at (suc steps) depth = refl

pub Reaches-end : (text rest : List ℕ) (depth : ℕ) → length rest ≡ 0 → Reaches text rest depth → after_braces (length text) 0 text ≡ None
Reaches-end text [] depth none at = sym at.same ∙ end_at at.steps depth
Reaches-end text (letter ∷ rest) depth none at = absurd (omega arith)

module _ (text tail : List ℕ) (letter depth : ℕ) where
  open_at : (steps : ℕ) → letter ≡ 123 → length (letter ∷ tail) ≤ steps →
      after_braces steps depth (letter ∷ tail) ≡ after_braces (length text) 0 text → Reaches text tail (depth + 1)
  open_at zero is enough same = absurd (omega arith)
  open_at (suc steps) is enough same =
      let test = eq-eqb letter 123 is in
      record { steps = steps; enough = omega arith; same = rw add-one (rw test at same) }

  pub Reaches-open : letter ≡ 123 → Reaches text (letter ∷ tail) depth → Reaches text tail (depth + 1)
  Reaches-open is at = open_at at.steps is at.enough at.same

  close_at : (steps : ℕ) → letter ≡ 125 → 0 < depth → length (letter ∷ tail) ≤ steps →
      after_braces steps depth (letter ∷ tail) ≡ after_braces (length text) 0 text → Reaches text tail (depth - 1)
  close_at zero is inner enough same = absurd (omega arith)
  close_at (suc steps) is inner enough same =
      let none = ne_eqb letter 123 (omega arith) in
      let test = eq-eqb letter 125 is in
      let deep = ne_eqb depth 0 (omega arith) in
      record { steps = steps; enough = omega arith; same = rw (none, test, deep) at same }

  pub Reaches-close : letter ≡ 125 → 0 < depth → Reaches text (letter ∷ tail) depth → Reaches text tail (depth - 1)
  Reaches-close is inner at = close_at at.steps is inner at.enough at.same

  last_at : (steps : ℕ) → letter ≡ 125 → depth ≡ 0 → length (letter ∷ tail) ≤ steps →
      after_braces steps depth (letter ∷ tail) ≡ after_braces (length text) 0 text → after_braces (length text) 0 text ≡ Some tail
  last_at zero is outer enough same = absurd (omega arith)
  last_at (suc steps) is outer enough same =
      let none = ne_eqb letter 123 (omega arith) in
      let test = eq-eqb letter 125 is in
      let flat = eq-eqb depth 0 outer in
      sym (rw (none, test, flat) at same)

  pub Reaches-last : letter ≡ 125 → depth ≡ 0 → Reaches text (letter ∷ tail) depth → after_braces (length text) 0 text ≡ Some tail
  Reaches-last is outer at = last_at at.steps is outer at.enough at.same

  piece_at : (steps : ℕ) (rest : List ℕ) → letter ≢ 123 → letter ≢ 125 → after_piece (letter ∷ tail) ≡ Some rest →
      length rest < length (letter ∷ tail) → length (letter ∷ tail) ≤ steps →
      after_braces steps depth (letter ∷ tail) ≡ after_braces (length text) 0 text → Reaches text rest depth
  piece_at zero rest no_open no_close piece shorter enough same = absurd (omega arith)
  piece_at (suc steps) rest no_open no_close piece shorter enough same =
      let none = ne_eqb letter 123 no_open in
      let test = ne_eqb letter 125 no_close in
      record { steps = steps; enough = omega arith; same = rw (none, test, piece) at same }

  pub Reaches-piece : (rest : List ℕ) → letter ≢ 123 → letter ≢ 125 → after_piece (letter ∷ tail) ≡ Some rest →
      length rest < length (letter ∷ tail) → Reaches text (letter ∷ tail) depth → Reaches text rest depth
  Reaches-piece rest no_open no_close piece shorter at = piece_at at.steps rest no_open no_close piece shorter at.enough at.same

  stuck_at : (steps : ℕ) → letter ≢ 123 → letter ≢ 125 → after_piece (letter ∷ tail) ≡ None → length (letter ∷ tail) ≤ steps →
      after_braces steps depth (letter ∷ tail) ≡ after_braces (length text) 0 text → after_braces (length text) 0 text ≡ None
  stuck_at zero no_open no_close piece enough same = absurd (omega arith)
  stuck_at (suc steps) no_open no_close piece enough same =
      let none = ne_eqb letter 123 no_open in
      let test = ne_eqb letter 125 no_close in
      sym (rw (none, test, piece) at same)

  pub Reaches-stuck : letter ≢ 123 → letter ≢ 125 → after_piece (letter ∷ tail) ≡ None → Reaches text (letter ∷ tail) depth →
      after_braces (length text) 0 text ≡ None
  Reaches-stuck no_open no_close piece at = stuck_at at.steps no_open no_close piece at.enough at.same
