-- The grammar of items, over the sorts of tokens.
use Rattle.std.specs.Prelude.{◌≡◌, ℕ, ◌-◌, true, List, [], ◌∷◌, length, Option, Some, None}
use Rattle.lx_parse.specs.declared.items.Item.{Item}
use Rattle.lx_parse.specs.declared.items.Item.TheVariants.{Define, Configure, Rule, Text}
use Rattle.lx_parse.specs.declared.sorts.Sort.{Sort}
use Rattle.lx_parse.specs.declared.sorts.Sort.TheVariants.{Name, Format, Separator, Config, Code, Equals, Semicolon, Slash, Star, Dollar, Less, Greater, Comma, Arrow, Jump}
use Rattle.lx_parse.specs.Sorts.{is_string, is_value}
use Rattle.lx_parse.specs.Expressions.{alt, Reads}

-- the place where the rest of so many tokens begins
abbrev pub place : (size : ℕ) → List Sort → ℕ
place size rest = size - length rest

-- one name or more, with commas between them
pub data ReadsNames : List Sort → List Sort → Type 0 where
  first_name : (rest : List Sort) → ReadsNames (Name ∷ rest) rest
  next_name : (text rest : List Sort) → ReadsNames text (Comma ∷ Name ∷ rest) → ReadsNames text rest

-- a list of conditions, or none
pub data ReadsList : List Sort → List Sort → Type 0 where
  no_list : (text : List Sort) → ReadsList text text
  all_conditions : (rest : List Sort) → ReadsList (Less ∷ Star ∷ Greater ∷ rest) rest
  conditions : (text rest : List Sort) → ReadsNames text (Greater ∷ rest) → ReadsList (Less ∷ text) rest

-- the head of a rule, and the place of the `/` before its trailing context
pub data ReadsHead (size : ℕ) : (slash : Option ℕ) → List Sort → List Sort → Type 0 where
  plain : (text rest : List Sort) → Reads alt text rest → ReadsHead size None text rest
  trailing : (text middle rest : List Sort) → Reads alt text (Slash ∷ middle) → Reads alt middle rest →
      ReadsHead size (Some (place size (Slash ∷ middle))) text rest
  any : (rest : List Sort) → ReadsHead size None (Star ∷ rest) rest
  end : (rest : List Sort) → ReadsHead size None (Dollar ∷ rest) rest

-- what stands behind the head of a rule, and the places of the target and of the action
pub data ReadsAction (size : ℕ) : (goes code : Option ℕ) → List Sort → List Sort → Type 0 where
  code : (rest : List Sort) → ReadsAction size None (Some (place size (Code ∷ rest))) (Code ∷ rest) rest
  code_and_target : (rest : List Sort) →
      ReadsAction size (Some (place size (Name ∷ Code ∷ rest))) (Some (place size (Code ∷ rest))) (Arrow ∷ Name ∷ Code ∷ rest) rest
  target : (rest : List Sort) → ReadsAction size (Some (place size (Name ∷ rest))) None (Jump ∷ Name ∷ rest) rest

-- an item of a block of this many tokens
pub data ReadsItem (size : ℕ) : Item → List Sort → List Sort → Type 0 where
  define : (text rest : List Sort) → Reads alt text (Semicolon ∷ rest) →
      ReadsItem size (Define (place size (Name ∷ Equals ∷ text)) (place size text) (place size (Semicolon ∷ rest))) (Name ∷ Equals ∷ text) rest
  configure : (value : Sort) (rest : List Sort) → is_value value ≡ true →
      ReadsItem size (Configure (place size (Config ∷ Equals ∷ value ∷ Semicolon ∷ rest)) (place size (value ∷ Semicolon ∷ rest)))
      (Config ∷ Equals ∷ value ∷ Semicolon ∷ rest) rest
  rule : (slash goes code : Option ℕ) (text head action rest : List Sort) →
      ReadsList text head → ReadsHead size slash head action → ReadsAction size goes code action rest →
      ReadsItem size (Rule (place size text) (place size head) slash (place size action) goes code) text rest

-- items, up to the end
pub data ReadsItems (size : ℕ) : List Item → List Sort → Type 0 where
  no_item : ReadsItems size [] []
  next_item : (item : Item) (items : List Item) (text rest : List Sort) →
      ReadsItem size item text rest → ReadsItems size items rest → ReadsItems size (item ∷ items) text

-- the separator of a directive, or none, up to the end
pub data ReadsSeparator (size : ℕ) : List Item → List Sort → Type 0 where
  no_separator : ReadsSeparator size [] []
  separator : (value : Sort) → is_string value ≡ true →
      ReadsSeparator size (Text (place size (value ∷ Semicolon ∷ [])) ∷ []) (Separator ∷ Equals ∷ value ∷ Semicolon ∷ [])

-- the format of a directive, and its separator if it has one, up to the end
pub data ReadsTexts (size : ℕ) : List Item → List Sort → Type 0 where
  format : (items : List Item) (value : Sort) (rest : List Sort) → is_string value ≡ true → ReadsSeparator size items rest →
      ReadsTexts size (Text (place size (value ∷ Semicolon ∷ rest)) ∷ items) (Format ∷ Equals ∷ value ∷ Semicolon ∷ rest)

-- nothing, up to the end
pub data ReadsNothing : List Item → List Sort → Type 0 where
  nothing : ReadsNothing [] []
