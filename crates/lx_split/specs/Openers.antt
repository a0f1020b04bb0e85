-- The openers of blocks.
use Rattle.std.specs.Prelude.{ℕ, Bool, true, false, List, [], ◌∷◌, drop, codes, Option, Some, None, if◌then◌else◌}
use Rattle.std.specs.Str.{bytes_eq}
use Rattle.lx_base.specs.declared.blocks.BlockKind.{BlockKind}
use Rattle.lx_base.specs.declared.blocks.BlockKind.TheVariants.{Code, Rules, Use, Max, MaxNmatch, Stags, Mtags, Types, GetState, Ignore, Include, Enter, Leave}
use Rattle.lx_base.specs.declared.settings.Options.{Options}
use Rattle.lx_base.specs.Letters.{is_in_opener, begins_with, front_letters}
use Rattle.lx_split.specs.declared.openers.Opener.{Opener}
use Rattle.lx_split.specs.declared.openers.Opener.TheVariants.{Absent, Refused, Opens}
use Rattle.lx_split.specs.Searches.{from_first}

-- the longest run of such letters at the front of the text
abbrev pub word_at : List ℕ → List ℕ
word_at text = front_letters is_in_opener text

-- the word of a kind; no word opens the blocks that stand around an included file
abbrev pub word_of : BlockKind → List ℕ
word_of Code = codes "re2c"
word_of Rules = codes "rules:re2c"
word_of Use = codes "use:re2c"
word_of Max = codes "max:re2c"
word_of MaxNmatch = codes "maxnmatch:re2c"
word_of Stags = codes "stags:re2c"
word_of Mtags = codes "mtags:re2c"
word_of Types = codes "types:re2c"
word_of GetState = codes "getstate:re2c"
word_of Ignore = codes "ignore:re2c"
word_of Include = codes "include:re2c"
word_of Enter = []
word_of Leave = []

-- the first of the kinds that has this word
abbrev pub kind_among : List BlockKind → List ℕ → Option BlockKind
kind_among [] word = None
kind_among (kind ∷ kinds) word = if bytes_eq word (word_of kind) then Some kind else kind_among kinds word

-- the kinds of blocks that words open
abbrev pub block_kinds : List BlockKind
block_kinds = Code ∷ Rules ∷ Use ∷ Max ∷ MaxNmatch ∷ Stags ∷ Mtags ∷ Types ∷ GetState ∷ Ignore ∷ Include ∷ []

-- the kind of blocks that a word opens
abbrev pub kind_of : List ℕ → Option BlockKind
kind_of word = kind_among block_kinds word

-- whether `re2c` stands in a word
abbrev pub names_re2c : List ℕ → Bool
names_re2c [] = false
names_re2c (letter ∷ word) = if begins_with (codes "re2c") (letter ∷ word) then true else names_re2c word

-- the list of conditions is for sources with conditions, and the state switch for those with stored states
abbrev pub is_allowed : Options → BlockKind → Bool
is_allowed options Types = options.conds
is_allowed options GetState = options.states
is_allowed options kind = true

-- what a word behind `/*!` makes of it, by the kind that it opens
abbrev pub opener_of_kind : Options → List ℕ → Option BlockKind → Opener
opener_of_kind options word (Some kind) = if is_allowed options kind then Opens kind else Refused
opener_of_kind options word None = if names_re2c word then Refused else Absent

abbrev pub opener_of : Options → List ℕ → Opener
opener_of options word = opener_of_kind options word (kind_of word)

-- what stands at the front of outside text: `/*!` and a word, or none
abbrev pub opener_at : Options → List ℕ → Opener
opener_at options text = if begins_with (codes "/*!") text then opener_of options (word_at (drop 3 text)) else Absent

abbrev pub is_present : Opener → Bool
is_present Absent = false
is_present Refused = true
is_present (Opens kind) = true

-- what is left of outside text from the first opener on, be it refused or not
abbrev pub from_opener : Options → List ℕ → List ℕ
from_opener options text = from_first (λ rest. is_present (opener_at options rest)) text
