-- The expressions of items as ranges of the tokens.
use Rattle.std.specs.Prelude.{◌≡◌, ℕ, suc, ◌≤◌, ◌⊎◌, List, [], ◌∷◌, length, drop, Some, None}
use Rattle.lx_parse.specs.declared.items.Item.{Item}
use Rattle.lx_parse.specs.declared.items.Item.TheVariants.{Define, Configure, Rule, Text}
use Rattle.lx_parse.specs.declared.sorts.Sort.{Sort}
use Rattle.lx_parse.specs.declared.sorts.Sort.TheVariants.{Star, Dollar}
use Rattle.lx_parse.specs.Expressions.{Part, alt, Reads}

-- the sorts from one place up to another are such a part of an expression
pub record IsPart (sorts : List Sort) (part : Part) (from until : ℕ) : Type 0 where
  pub in_order : from ≤ until
  pub within : until ≤ length sorts
  pub reads : Reads part (drop from sorts) (drop until sorts)

-- the sort at a place is this one
pub record Stands (sorts : List Sort) (sort : Sort) (at : ℕ) : Type 0 where
  pub rest : List Sort
  pub is : drop at sorts ≡ sort ∷ rest

-- the head is `*` or `$`
pub record IsBareHead (sorts : List Sort) (head until : ℕ) : Type 0 where
  pub one : until ≡ suc head
  pub stands : Stands sorts Star head ⊎ Stands sorts Dollar head

-- the expressions of an item stand where its numbers say
abbrev pub HasExpressions : List Sort → Item → Type 0
HasExpressions sorts (Define name from until) = IsPart sorts alt from until
HasExpressions sorts (Configure name value) = Unit {0}
HasExpressions sorts (Rule first head None until goes code) = IsPart sorts alt head until ⊎ IsBareHead sorts head until
HasExpressions sorts (Rule first head (Some slash) until goes code) = IsPart sorts alt head slash × IsPart sorts alt (suc slash) until
HasExpressions sorts (Text value) = Unit {0}

-- those of each of the items do
abbrev pub EachHasExpressions : List Sort → List Item → Type 0
EachHasExpressions sorts [] = Unit {0}
EachHasExpressions sorts (item ∷ items) = HasExpressions sorts item × EachHasExpressions sorts items
