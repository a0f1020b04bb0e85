-- The kinds of tokens: what follows the longest token of each kind, and which kind is taken.
use Rattle.std.specs.Prelude.{ℕ, List, [], ◌∷◌, length, Option, Some, None, nat_lt, if◌then◌else◌}
use Rattle.lx_token.specs.declared.kinds.TokenKind.{TokenKind}
use Rattle.lx_token.specs.declared.kinds.TokenKind.TheVariants.{Name, Config, Number, Str, IStr, Class, STag, MTag, Bounds, Code, Signs}
use Rattle.lx_token.specs.Words.{after_name, after_config, after_number, after_tag}
use Rattle.lx_token.specs.Quoted.{after_quoted}
use Rattle.lx_token.specs.Braces.{after_bounds, after_code}
use Rattle.lx_token.specs.Signs.{after_sign}

-- what follows the longest token of a kind at the front of the text. A `{` that begins bounds begins no action, a `re2c`
-- with no word behind it is a name and no configuration word, and the longest sign is one sign
abbrev pub after_token : TokenKind → List ℕ → Option (List ℕ)
after_token Name text = after_name text
after_token Config text = after_config text
after_token Number text = after_number text
after_token Str text = after_quoted 34 34 text
after_token IStr text = after_quoted 39 39 text
after_token Class text = after_quoted 91 93 text
after_token STag text = after_tag 64 text
after_token MTag text = after_tag 35 text
after_token Bounds text = after_bounds text
after_token Code text = after_code text
after_token Signs text = after_sign text

-- a kind of token, and what follows the token
abbrev pub Found : Type 0
Found = TokenKind × List ℕ

-- the longer one of two tokens at one place: the one that less follows
abbrev pub longer : Option Found → TokenKind → Option (List ℕ) → Option Found
longer found kind None = found
longer None kind (Some rest) = Some (kind, rest)
longer (Some other) kind (Some rest) = if nat_lt (length rest) (length other.1) then Some (kind, rest) else Some other

-- the longest of what was found and of the tokens of these kinds; of two equally long ones the one of the earlier kind,
-- but no two kinds have tokens of one length at a place
abbrev pub longest_of : Option Found → List TokenKind → List ℕ → Option Found
longest_of found [] text = found
longest_of found (kind ∷ kinds) text = longest_of (longer found kind (after_token kind text)) kinds text

-- the longest token of all kinds at the front of the text
abbrev pub longest_token : List ℕ → Option Found
longest_token text =
    longest_of None (Name ∷ Config ∷ Number ∷ Str ∷ IStr ∷ Class ∷ STag ∷ MTag ∷ Bounds ∷ Code ∷ Signs ∷ []) text
