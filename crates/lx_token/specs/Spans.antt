-- Where the tokens of a body stand, and what is true of each.
use Rattle.std.specs.Prelude.{◌≡◌, ◌≢◌, ℕ, ◌<◌, ◌≤◌, List, [], ◌∷◌, length, take, drop, Some, None}
use Rattle.lx_base.specs.declared.places.Pos.{Pos}
use Rattle.lx_base.specs.declared.faults.Fault.{Fault}
use Rattle.lx_base.specs.declared.faults.Fault.TheVariants.{BadToken}
use Rattle.lx_token.specs.declared.kinds.TokenKind.{TokenKind}
use Rattle.lx_token.specs.declared.list.Token.{Token}
use Rattle.lx_token.specs.Blanks.{after_blank}
use Rattle.lx_base.specs.Places.{place_after}
use Rattle.lx_token.specs.Rows.{after_token}

-- each token begins at `from` or later and where the one before it ends or later, has a byte, and ends within the body
abbrev pub AreInOrder : (from size : ℕ) → List Token → Type 0
AreInOrder from size [] = Unit {0}
AreInOrder from size (token ∷ tokens) =
    (from ≤ token.from) × (token.from < token.to) × (token.to ≤ size) × AreInOrder token.to size tokens

-- the token is longer than one of any other kind at its offset, and its place is that of its first byte
pub record Stands (body : List ℕ) (start : Pos) (token : Token) : Type 0 where
  pub place : token.at ≡ place_after start (take token.from body)
  pub text : after_token token.kind (drop token.from body) ≡ Some (drop token.to body)
  pub longest : (kind : TokenKind) (rest : List ℕ) → kind ≢ token.kind → after_token kind (drop token.from body) ≡ Some rest →
      length (drop token.to body) < length rest

-- each of the tokens stands in the body
abbrev pub EachStands : List ℕ → Pos → List Token → Type 0
EachStands body start [] = Unit {0}
EachStands body start (token ∷ tokens) = Stands body start token × EachStands body start tokens

-- the rest is what a number of blanks and comments at the front of the text leave
pub data PassesBlanks : List ℕ → List ℕ → Type 0 where
  stay : (text : List ℕ) → PassesBlanks text text
  pass : (text next rest : List ℕ) → after_blank text ≡ Some next → PassesBlanks next rest → PassesBlanks text rest

-- between two offsets stand these tokens, and beside them nothing but blanks and comments
abbrev pub Covers : List ℕ → (from to : ℕ) → List Token → Type 0
Covers body from to [] = PassesBlanks (drop from body) (drop to body)
Covers body from to (token ∷ tokens) =
    PassesBlanks (drop from body) (drop token.from body) × (after_blank (drop token.from body) ≡ None) × Covers body token.to to tokens

-- what is true of the tokens of a body
pub record AreTokens (body : List ℕ) (start : Pos) (tokens : List Token) : Type 0 where
  pub in_order : AreInOrder 0 (length body) tokens
  pub each_stands : EachStands body start tokens
  pub covers : Covers body 0 (length body) tokens

-- what is true of the fault of a body, from an offset on: behind some tokens there is a first offset at which neither a
-- blank or a comment nor a token of any kind begins
pub record IsBadTokenFrom (from : ℕ) (body : List ℕ) (start : Pos) (fault : Fault) : Type 0 where
  pub tokens : List Token
  pub offset : ℕ
  pub within : offset < length body
  pub each_stands : EachStands body start tokens
  pub covers : Covers body from offset tokens
  pub fault_is : fault ≡ BadToken (place_after start (take offset body))
  pub no_blank : after_blank (drop offset body) ≡ None
  pub no_token : (kind : TokenKind) → after_token kind (drop offset body) ≡ None

-- what is true of the fault of a body
abbrev pub IsBadToken : List ℕ → Pos → Fault → Type 0
IsBadToken body start fault = IsBadTokenFrom 0 body start fault
