-- The steps of a form are in order: each has what it needs.
use Rattle.std.proofs.Common.{◌≡◌, ℕ, suc, ◌-◌, ◌≤◌, Bool, true, false, not, List, [], ◌∷◌, ◌++◌, refl, sym, ap, ◌∙◌, subst, arith, append_assoc}
use Rattle.std.specs.Prelude.{◌&&◌}
use Rattle.std.proofs.lemmas.List.{append-nil}
use Rattle.lx_forms.specs.Forms.{Form, leaf, group, repeated, sequence, difference, alternative}
use Rattle.lx_forms.specs.Steps.{Step, reads, opens, closes, repeats, joins, subtracts, chooses, steps_of}
use Rattle.lx_exprs.specs.Reading.{AreInOrder}

module _ (are_groups : Bool) where
  -- the steps of a form, and these behind them
  abbrev pub steps_then : (operand : Bool) → Form → List Step → List Step
  steps_then operand (leaf lexeme) rest = reads operand lexeme ∷ rest
  steps_then operand (group opening inner) rest = opens opening ∷ steps_then (operand && not are_groups) inner (closes opening ∷ rest)
  steps_then operand (repeated inner sign) rest = steps_then false inner (repeats sign ∷ rest)
  steps_then operand (sequence front back) rest = steps_then false front (steps_then false back (joins ∷ rest))
  steps_then operand (difference left sign right) rest = steps_then true left (steps_then true right (subtracts operand sign ∷ rest))
  steps_then operand (alternative left sign right) rest = steps_then operand left (steps_then operand right (chooses ∷ rest))

  -- the steps of two forms and one step more
  both_then-append : (operand : Bool) (front back : Form) (step : Step) (rest : List Step)
      → steps_then operand front (steps_then operand back (step ∷ rest)) ≡ steps_of are_groups operand front ++ steps_then operand back (step ∷ rest)
      → steps_then operand back (step ∷ rest) ≡ steps_of are_groups operand back ++ (step ∷ rest)
      → steps_then operand front (steps_then operand back (step ∷ rest)) ≡ (steps_of are_groups operand front ++ (steps_of are_groups operand back ++ step ∷ [])) ++ rest
  both_then-append operand front back step rest before behind =
      before
      ∙ ap (λ steps. steps_of are_groups operand front ++ steps) (behind ∙ sym (append_assoc (steps_of are_groups operand back) (step ∷ []) rest))
      ∙ sym (append_assoc (steps_of are_groups operand front) (steps_of are_groups operand back ++ step ∷ []) rest)

  pub steps_then-append : (operand : Bool) (form : Form) (rest : List Step) → steps_then operand form rest ≡ steps_of are_groups operand form ++ rest
  steps_then-append operand (leaf lexeme) rest = refl
  steps_then-append operand (group opening inner) rest =
      ap (λ steps. opens opening ∷ steps)
      (steps_then-append (operand && not are_groups) inner (closes opening ∷ rest)
      ∙ sym (append_assoc (steps_of are_groups (operand && not are_groups) inner) (closes opening ∷ []) rest))
  steps_then-append operand (repeated inner sign) rest =
      steps_then-append false inner (repeats sign ∷ rest) ∙ sym (append_assoc (steps_of are_groups false inner) (repeats sign ∷ []) rest)
  steps_then-append operand (sequence front back) rest =
      both_then-append false front back joins rest (steps_then-append false front (steps_then false back (joins ∷ rest)))
      (steps_then-append false back (joins ∷ rest))
  steps_then-append operand (difference left sign right) rest =
      both_then-append true left right (subtracts operand sign) rest (steps_then-append true left (steps_then true right (subtracts operand sign ∷ rest)))
      (steps_then-append true right (subtracts operand sign ∷ rest))
  steps_then-append operand (alternative left sign right) rest =
      both_then-append operand left right chooses rest (steps_then-append operand left (steps_then operand right (chooses ∷ rest)))
      (steps_then-append operand right (chooses ∷ rest))

  pub steps_then-nil : (operand : Bool) (form : Form) → steps_then operand form [] ≡ steps_of are_groups operand form
  steps_then-nil operand form = steps_then-append operand form [] ∙ append-nil (steps_of are_groups operand form)

  -- one meaning in the place of two
  in_order_behind : (depth : ℕ) (rest : List Step) → AreInOrder (suc depth) rest → AreInOrder (suc (suc depth) - 1) rest
  in_order_behind depth rest ordered = let one_less : suc depth ≡ suc (suc depth) - 1 = omega arith in subst (λ d. AreInOrder d rest) one_less ordered

  -- a form leaves one meaning more
  then_in_order : (operand : Bool) (form : Form) (depth : ℕ) (rest : List Step) → AreInOrder (suc depth) rest → AreInOrder depth (steps_then operand form rest)
  then_in_order operand (leaf lexeme) depth rest ordered = (tt, ordered)
  then_in_order operand (group opening inner) depth rest ordered =
      let one : 1 ≤ suc depth = omega arith in (tt, then_in_order (operand && not are_groups) inner depth (closes opening ∷ rest) (one, ordered))
  then_in_order operand (repeated inner sign) depth rest ordered =
      let one : 1 ≤ suc depth = omega arith in then_in_order false inner depth (repeats sign ∷ rest) (one, ordered)
  then_in_order operand (sequence front back) depth rest ordered =
      let two : 2 ≤ suc (suc depth) = omega arith in
      then_in_order false front depth (steps_then false back (joins ∷ rest))
      (then_in_order false back (suc depth) (joins ∷ rest) (two, in_order_behind depth rest ordered))
  then_in_order operand (difference left sign right) depth rest ordered =
      let two : 2 ≤ suc (suc depth) = omega arith in
      then_in_order true left depth (steps_then true right (subtracts operand sign ∷ rest))
      (then_in_order true right (suc depth) (subtracts operand sign ∷ rest) (two, in_order_behind depth rest ordered))
  then_in_order operand (alternative left sign right) depth rest ordered =
      let two : 2 ≤ suc (suc depth) = omega arith in
      then_in_order operand left depth (steps_then operand right (chooses ∷ rest))
      (then_in_order operand right (suc depth) (chooses ∷ rest) (two, in_order_behind depth rest ordered))

  pub steps_in_order : (operand : Bool) (form : Form) → AreInOrder 0 (steps_of are_groups operand form)
  steps_in_order operand form = subst (AreInOrder 0) (steps_then-nil operand form) (then_in_order operand form 0 [] refl)
