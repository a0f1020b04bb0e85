-- The steps by which the tokens of a body are found.
use Rattle.std.proofs.Common.{◌≡◌, ℕ, zero, suc, ◌<◌, ◌≤◌, List, [], ◌∷◌, ◌++◌, length, Some, None, Ok, Err, refl, arith, sym, ◌∙◌}
use Rattle.lx_base.specs.declared.places.Pos.{Pos}
use Rattle.lx_base.specs.declared.faults.Fault.TheVariants.{BadToken}
use Rattle.lx_token.specs.declared.list.Token.{Token}
use Rattle.lx_token.specs.Blanks.{after_blank}
use Rattle.lx_token.specs.Rows.{Found, longest_token}
use Rattle.lx_token.specs.Tokens.{place_of_rest, token_at, step, tokens_from, tokens_of}

-- the tokens of the body are those of its rest, behind these
pub record HasPassed (body : List ℕ) (start : Pos) (tokens : List Token) (at : Pos) (rest : List ℕ) : Type 0 where
  pub steps : ℕ
  pub enough : length rest ≤ steps
  pub same : tokens_from steps (length body) tokens at rest ≡ tokens_of body start

pub HasPassed-start : (body : List ℕ) (start : Pos) → HasPassed body start [] start body
HasPassed-start body start = record { steps = length body; enough = omega arith; same = refl }

no_text : (steps size : ℕ) (tokens : List Token) (at : Pos) (text : List ℕ) → length text ≡ 0 → tokens_from steps size tokens at text ≡ Ok tokens
no_text zero size tokens at text none = refl
no_text (suc steps) size tokens at [] none = refl
no_text (suc steps) size tokens at (letter ∷ text) none = absurd (omega arith)

some_text : (steps size : ℕ) (tokens : List Token) (at : Pos) (text : List ℕ) → 0 < length text →
    tokens_from (suc steps) size tokens at text ≡ step (tokens_from steps size) size tokens at text (after_blank text) (longest_token text)
some_text steps size tokens at [] some = absurd (omega arith)
some_text steps size tokens at (letter ∷ text) some = refl

module _ (body : List ℕ) (start : Pos) (tokens : List Token) (at : Pos) (rest : List ℕ) where
  pub HasPassed-end : length rest ≡ 0 → HasPassed body start tokens at rest → tokens_of body start ≡ Ok tokens
  HasPassed-end none passed = sym passed.same ∙ no_text passed.steps (length body) tokens at rest none

  blank_at : (steps : ℕ) (tail : List ℕ) → after_blank rest ≡ Some tail → length tail < length rest → length rest ≤ steps →
      tokens_from steps (length body) tokens at rest ≡ tokens_of body start → HasPassed body start tokens (place_of_rest at rest tail) tail
  blank_at zero tail blank less enough same = absurd (omega arith)
  blank_at (suc steps) tail blank less enough same = record {
    steps = steps;
    enough = omega arith;
    same = rw (some_text steps (length body) tokens at rest (omega arith), blank) at same;
  }

  pub HasPassed-blank : (tail : List ℕ) → after_blank rest ≡ Some tail → length tail < length rest → HasPassed body start tokens at rest →
      HasPassed body start tokens (place_of_rest at rest tail) tail
  HasPassed-blank tail blank less passed = blank_at passed.steps tail blank less passed.enough passed.same

  token_from : (steps : ℕ) (found : Found) → after_blank rest ≡ None → longest_token rest ≡ Some found → length found.1 < length rest →
      length rest ≤ steps → tokens_from steps (length body) tokens at rest ≡ tokens_of body start →
      HasPassed body start (tokens ++ token_at (length body) at rest found ∷ []) (place_of_rest at rest found.1) found.1
  token_from zero found blank token less enough same = absurd (omega arith)
  token_from (suc steps) found blank token less enough same = record {
    steps = steps;
    enough = omega arith;
    same = rw (some_text steps (length body) tokens at rest (omega arith), blank, token) at same;
  }

  pub HasPassed-token : (found : Found) → after_blank rest ≡ None → longest_token rest ≡ Some found → length found.1 < length rest →
      HasPassed body start tokens at rest →
      HasPassed body start (tokens ++ token_at (length body) at rest found ∷ []) (place_of_rest at rest found.1) found.1
  HasPassed-token found blank token less passed = token_from passed.steps found blank token less passed.enough passed.same

  stuck_at : (steps : ℕ) → after_blank rest ≡ None → longest_token rest ≡ None → 0 < length rest → length rest ≤ steps →
      tokens_from steps (length body) tokens at rest ≡ tokens_of body start → tokens_of body start ≡ Err (BadToken at)
  stuck_at zero blank token some enough same = absurd (omega arith)
  stuck_at (suc steps) blank token some enough same =
      sym (rw (some_text steps (length body) tokens at rest some, blank, token) at same)

  pub HasPassed-stuck : after_blank rest ≡ None → longest_token rest ≡ None → 0 < length rest → HasPassed body start tokens at rest →
      tokens_of body start ≡ Err (BadToken at)
  HasPassed-stuck blank token some passed = stuck_at passed.steps blank token some passed.enough passed.same
