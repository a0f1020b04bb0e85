-- The tokens of a body.
use Rattle.std.specs.Prelude.{◌≡◌, ℕ, zero, suc, ◌-◌, List, [], ◌∷◌, ◌++◌, length, take, Option, Some, None, Result, Ok, Err}
use Rattle.lx_base.specs.declared.places.Pos.{Pos}
use Rattle.lx_base.specs.declared.faults.Fault.{Fault}
use Rattle.lx_base.specs.declared.faults.Fault.TheVariants.{BadToken}
use Rattle.lx_base.specs.declared.faults.Stop.{Stop}
use Rattle.lx_base.specs.declared.faults.Stop.TheVariants as stop
use Rattle.lx_token.specs.declared.list.Token.{Token}
use Rattle.lx_token.specs.Blanks.{after_blank}
use Rattle.lx_base.specs.Places.{place_after}
use Rattle.lx_token.specs.Rows.{Found, longest_token}

-- the tokens, or the fault at which they end
abbrev pub Tokens : Type 0
Tokens = Result (List Token) Fault

-- the place of the rest of a text that begins at a place
abbrev pub place_of_rest : Pos → List ℕ → List ℕ → Pos
place_of_rest at text rest = place_after at (take (length text - length rest) text)

-- a token at the front of a text, in a body of this size
abbrev pub token_at : (size : ℕ) → Pos → List ℕ → Found → Token
token_at size at text found =
    record { kind = found.0; from = size - length text; to = size - length found.1; at = at }

-- a blank or a comment is passed over, else the longest token is taken, else no token begins here
abbrev pub step : (next : List Token → Pos → List ℕ → Tokens) (size : ℕ) → List Token → Pos → List ℕ → Option (List ℕ) → Option Found → Tokens
step next size tokens at text (Some rest) found = next tokens (place_of_rest at text rest) rest
step next size tokens at text None None = Err (BadToken at)
step next size tokens at text None (Some found) =
    next (tokens ++ token_at size at text found ∷ []) (place_of_rest at text found.1) found.1

-- the tokens of the rest of a body, behind those before it. Each step passes a byte at least, so as many steps serve as
-- the rest has bytes
abbrev pub tokens_from : (steps size : ℕ) → List Token → Pos → List ℕ → Tokens
tokens_from zero size tokens at text = Ok tokens
tokens_from (suc steps) size tokens at [] = Ok tokens
tokens_from (suc steps) size tokens at (letter ∷ text) =
    step (tokens_from steps size) size tokens at (letter ∷ text) (after_blank (letter ∷ text)) (longest_token (letter ∷ text))

-- the tokens of a body that begins at a place, in order; or a fault at the first place where no token begins
abbrev pub tokens_of : List ℕ → Pos → Tokens
tokens_of body at = tokens_from (length body) (length body) [] at body

-- a call that is to give the tokens stops with their fault, or where memory runs out
abbrev pub StopsWith : Tokens → Stop → Type 0
StopsWith tokens stop.Memory = Unit {0}
StopsWith tokens (stop.Fault fault) = tokens ≡ Err fault
