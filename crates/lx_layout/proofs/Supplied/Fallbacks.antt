-- What the statements of a fallback do: they come to the block that they choose, or to no rule.
use Rattle.std.specs.Prelude.{◌≡◌, ℕ, suc, ◌<◌, List, [], ◌∷◌, length, Option, Some, None, Bool, true, false, nat_eq, refl, slice_get, if◌then◌else◌}
use Rattle.std.proofs.Common.{ap, ◌∙◌, arith}
use Rattle.lx_ccode.specs.declared.piece.Piece.{Piece}
use Rattle.lx_ccode.specs.declared.piece.Stmt.{Stmt}
use Rattle.lx_ccode.specs.declared.piece.Stmt.TheVariants.{IfAccept, Leave}
use Rattle.lx_ccode.specs.Machine.{Answer, Machine, choose, code_at, goes_on, jump, no_rule, step}
use Rattle.lx_ccode.specs.Runs.{ended}
use Rattle.lx_ccode.specs.Statements.{code_of}
use Rattle.lx_layout.specs.Codes.{Choice}
use Rattle.lx_layout.specs.Fallback.{chosen, fallback_code}
use Rattle.lx_layout.proofs.Runs.PartialRuns.{EndsIn, LeadsIn, end_in, last_in, step_in, then_in, widen}

pub fallback_code-some : (leaves : Bool) (choices : List Choice) → 0 < length (fallback_code leaves choices)
fallback_code-some leaves [] = omega arith
fallback_code-some true (choice ∷ []) = omega arith
fallback_code-some false (choice ∷ []) = omega arith
fallback_code-some true (choice ∷ next ∷ choices) = omega arith
fallback_code-some false (choice ∷ next ∷ choices) = omega arith

module _ (p : Piece) (x : List ℕ) (start : ℕ) (m : Machine) (q : List Answer) where
  -- one choice before others
  choice_run : (choice : Choice) (rest : List Stmt) (later : Option ℕ) (block : ℕ) (to : List Stmt)
      → (if nat_eq m.accept choice.saved then Some choice.block else later) ≡ Some block → slice_get (code_of p.blocks) block ≡ Some to
      → (later ≡ Some block → LeadsIn p x start (length rest) rest m q to m q)
      → LeadsIn p x start (suc (length rest)) (IfAccept choice.saved choice.block ∷ rest) m q to m q
  choice_run choice rest later block to is et again = by (nat_eq m.accept choice.saved) refl is
    where
      by : (b : Bool) → nat_eq m.accept choice.saved ≡ b → (if b then Some choice.block else later) ≡ Some block
          → LeadsIn p x start (suc (length rest)) (IfAccept choice.saved choice.block ∷ rest) m q to m q
      by true h e =
          let same : choice.block ≡ block = cc in
          let s : step p x (IfAccept choice.saved choice.block) rest m q ≡ goes_on to m q =
          ap (λ b. choose b (code_at p.blocks (Some choice.block)) rest m q) h
          ∙ ap (λ o. jump o m q) (ap (λ n. slice_get (code_of p.blocks) n) same ∙ et) in
          widen p x start (suc (length rest)) (step_in p x start s (omega arith)) (omega arith)
      by false h e =
          let s : step p x (IfAccept choice.saved choice.block) rest m q ≡ goes_on rest m q =
          ap (λ b. choose b (code_at p.blocks (Some choice.block)) rest m q) h in
          then_in p x start (suc (length rest)) (step_in p x start s (omega arith)) (again e) (omega arith)

  choice_end : (choice : Choice) (rest : List Stmt) (later : Option ℕ) → (if nat_eq m.accept choice.saved then Some choice.block else later) ≡ None
      → (later ≡ None → EndsIn p x start (length rest) rest m q (ended no_rule m))
      → EndsIn p x start (suc (length rest)) (IfAccept choice.saved choice.block ∷ rest) m q (ended no_rule m)
  choice_end choice rest later is again = by (nat_eq m.accept choice.saved) refl is
    where
      by : (b : Bool) → nat_eq m.accept choice.saved ≡ b → (if b then Some choice.block else later) ≡ None
          → EndsIn p x start (suc (length rest)) (IfAccept choice.saved choice.block ∷ rest) m q (ended no_rule m)
      by true h e = absurd (cc)
      by false h e =
          let s : step p x (IfAccept choice.saved choice.block) rest m q ≡ goes_on rest m q =
          ap (λ b. choose b (code_at p.blocks (Some choice.block)) rest m q) h in
          end_in p x start (suc (length rest)) (step_in p x start s (omega arith)) (again e) (omega arith)

  -- the block that is chosen comes next
  pub fallback_run : (leaves : Bool) (choices : List Choice) (block : ℕ) (to : List Stmt) → chosen leaves choices m.accept ≡ Some block
      → slice_get (code_of p.blocks) block ≡ Some to → LeadsIn p x start (length (fallback_code leaves choices)) (fallback_code leaves choices) m q to m q
  fallback_run leaves [] block to is et = absurd (cc)
  fallback_run true (choice ∷ []) block to is et = choice_run choice (Leave ∷ []) None block to is et (λ none. absurd (cc))
  fallback_run false (choice ∷ []) block to is et =
      let same : choice.block ≡ block = cc in
      step_in p x start (ap (λ o. jump o m q) (ap (λ n. slice_get (code_of p.blocks) n) same ∙ et)) (omega arith)
  fallback_run true (choice ∷ next ∷ choices) block to is et =
      choice_run choice (fallback_code true (next ∷ choices)) (chosen true (next ∷ choices) m.accept) block to is et
      (λ later. fallback_run true (next ∷ choices) block to later et)
  fallback_run false (choice ∷ next ∷ choices) block to is et =
      choice_run choice (fallback_code false (next ∷ choices)) (chosen false (next ∷ choices) m.accept) block to is et
      (λ later. fallback_run false (next ∷ choices) block to later et)

  -- where none is chosen, no rule is matched
  pub fallback_end : (leaves : Bool) (choices : List Choice) → chosen leaves choices m.accept ≡ None
      → EndsIn p x start (length (fallback_code leaves choices)) (fallback_code leaves choices) m q (ended no_rule m)
  fallback_end leaves [] is = last_in p x start refl
  fallback_end true (choice ∷ []) is = choice_end choice (Leave ∷ []) None is (λ none. last_in p x start refl)
  fallback_end false (choice ∷ []) is = absurd (cc)
  fallback_end true (choice ∷ next ∷ choices) is =
      choice_end choice (fallback_code true (next ∷ choices)) (chosen true (next ∷ choices) m.accept) is (λ later. fallback_end true (next ∷ choices) later)
  fallback_end false (choice ∷ next ∷ choices) is =
      choice_end choice (fallback_code false (next ∷ choices)) (chosen false (next ∷ choices) m.accept) is (λ later. fallback_end false (next ∷ choices) later)
