-- The grammar of expressions, over the sorts of tokens.
use Rattle.std.specs.Prelude.{◌≡◌, true, List, ◌∷◌}
use Rattle.lx_parse.specs.declared.sorts.Sort.{Sort}
use Rattle.lx_parse.specs.declared.sorts.Sort.TheVariants.{Bar, Backslash, Open, Close}
use Rattle.lx_parse.specs.Sorts.{is_atom, is_postfix}

-- the parts of expressions: alternatives between `|`, differences between `\`, what stands one behind another,
-- an atom with what repeats it, and an atom
pub data Part : Type 0 where
  alt : Part
  diff : Part
  cat : Part
  post : Part
  atom : Part

-- the sorts from the front of the first list up to the second one are such a part
pub data Reads : Part → List Sort → List Sort → Type 0 where
  sign : (sort : Sort) (rest : List Sort) → is_atom sort ≡ true → Reads atom (sort ∷ rest) rest
  group : (text rest : List Sort) → Reads alt text (Close ∷ rest) → Reads atom (Open ∷ text) rest
  bare : (text rest : List Sort) → Reads atom text rest → Reads post text rest
  repeated : (text rest : List Sort) (sort : Sort) → Reads post text (sort ∷ rest) → is_postfix sort ≡ true → Reads post text rest
  first_post : (text rest : List Sort) → Reads post text rest → Reads cat text rest
  next_post : (text middle rest : List Sort) → Reads cat text middle → Reads post middle rest → Reads cat text rest
  first_cat : (text rest : List Sort) → Reads cat text rest → Reads diff text rest
  next_cat : (text middle rest : List Sort) → Reads diff text (Backslash ∷ middle) → Reads cat middle rest → Reads diff text rest
  first_diff : (text rest : List Sort) → Reads diff text rest → Reads alt text rest
  next_diff : (text middle rest : List Sort) → Reads alt text (Bar ∷ middle) → Reads diff middle rest → Reads alt text rest
