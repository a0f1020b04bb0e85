-- The ranges of a class are those of its parts.
use Rattle.std.proofs.Common.{◌≡◌, ℕ, Bool, true, false, cond, List, [], ◌∷◌, map, Some, None, refl, sym, ap, ◌==◌}
use Rattle.std.proofs.lemmas.Bool.{eqb-true}
use Rattle.lx_token.specs.declared.characters.Character.{Character}
use Rattle.lx_token.specs.declared.classes.PointRange.{PointRange}
use Rattle.lx_token.specs.Characters.{character}
use Rattle.lx_token.specs.Classes.{between, is_plain, ranges_behind}
use Rattle.lx_token.specs.ClassParts.{AreParts, ClassPart, IsParted, MayBegin, characters_in, part_range}
use Rattle.lx_token.specs.ClassParts.ClassPart.{Single, Span}

plain-from : (is_escaped : Bool) (point : ℕ) → cond is_escaped false (point == 45) ≡ true → character point is_escaped ≡ character 45 false
plain-from true point is = absurd (cc)
plain-from false point is = ap (λ (p : ℕ). character p false) (eqb-true point 45 is)

is_plain-dash : (letter : Character) → is_plain 45 letter ≡ true → letter ≡ character 45 false
is_plain-dash letter is = plain-from letter.is_escaped letter.point is

-- the last point, which may be a `-`
last-range : (point : ℕ) (one : Character) → ranges_behind (Some point) false (one ∷ []) ≡ between point point ∷ between one.point one.point ∷ []
last-range point one = at (is_plain 45 one) refl
  where
    at : (b : Bool) → is_plain 45 one ≡ b →
        cond b (between point point ∷ between 45 45 ∷ []) (between point point ∷ between one.point one.point ∷ []) ≡ between point point ∷ between one.point one.point ∷ []
    at true is = ap (λ (c : Character). between point point ∷ between c.point c.point ∷ []) (sym (is_plain-dash one is))
    at false is = refl

-- the ranges of parts, and those of a point that may begin a range and of parts behind it
pub record HaveRanges (parts : List ClassPart) : Type 0 where
  pub behind_none : AreParts true parts → ranges_behind None false (characters_in parts) ≡ map part_range parts
  pub behind_some : (point : ℕ) → AreParts false parts → ranges_behind (Some point) false (characters_in parts) ≡ between point point ∷ map part_range parts

pub parts-ranges : (parts : List ClassPart) → HaveRanges parts
parts-ranges [] = record { behind_none = λ are. refl; behind_some = λ point are. refl }
parts-ranges (Single one ∷ []) = record { behind_none = λ are. refl; behind_some = λ point are. last-range point one }
parts-ranges (Single one ∷ next ∷ parts) =
    let later = parts-ranges (next ∷ parts) in record {
      behind_none = λ are. later.behind_some one.point are.1;
      behind_some = λ point are.
          let plain : is_plain 45 one ≡ false = are.0 refl in
          rw plain (ap (λ (l : List PointRange). between point point ∷ l) (later.behind_some one.point are.1));
    }
parts-ranges (Span first last ∷ parts) =
    let later = parts-ranges parts in record {
      behind_none = λ are. ap (λ (l : List PointRange). between first.point last.point ∷ l) (later.behind_none are.1);
      behind_some = λ point are.
          let plain : is_plain 45 first ≡ false = are.0 refl in
          rw plain (ap (λ (l : List PointRange). between point point ∷ between first.point last.point ∷ l) (later.behind_none are.1));
    }

AreParts-Single : (may : Bool) (one : Character) (parts : List ClassPart) → MayBegin may one → AreParts false parts → AreParts may (Single one ∷ parts)
AreParts-Single may one [] begins are = tt
AreParts-Single may one (next ∷ parts) begins are = (begins, are)

-- the parts of characters, and of one more before them
pub record HaveParts (characters : List Character) : Type 0 where
  pub whole : IsParted true characters
  pub behind : (may : Bool) (one : Character) → MayBegin may one → IsParted may (one ∷ characters)

free : (one : Character) → MayBegin true one
free one = λ not_free. absurd (cc)

one_more : (may : Bool) (one next : Character) (characters : List Character) → MayBegin may one → is_plain 45 next ≡ false →
    ((may : Bool) (one : Character) → MayBegin may one → IsParted may (one ∷ characters)) → IsParted may (one ∷ next ∷ characters)
one_more may one next characters begins plain behind =
    let rest = behind false next (λ not_free. plain) in record {
      parts = Single one ∷ rest.parts;
      are_parts = AreParts-Single may one rest.parts begins rest.are_parts;
      characters_are = ap (λ (l : List Character). one ∷ l) rest.characters_are;
    }

ends-with : (may : Bool) (one next : Character) → MayBegin may one → IsParted may (one ∷ next ∷ [])
ends-with may one next begins = record { parts = Single one ∷ Single next ∷ []; are_parts = (begins, tt); characters_are = refl }

spans : (may : Bool) (one next last : Character) (characters : List Character) → MayBegin may one → is_plain 45 next ≡ true → IsParted true characters →
    IsParted may (one ∷ next ∷ last ∷ characters)
spans may one next last characters begins dash rest = record {
  parts = Span one last ∷ rest.parts;
  are_parts = (begins, rest.are_parts);
  characters_are = let is = is_plain-dash next dash in let more = rest.characters_are in cc;
}

pub parts-are : (characters : List Character) → HaveParts characters
parts-are [] = record {
  whole = record { parts = []; are_parts = tt; characters_are = refl };
  behind = λ may one begins. record { parts = Single one ∷ []; are_parts = tt; characters_are = refl };
}
parts-are (next ∷ []) = record {
  whole = record { parts = Single next ∷ []; are_parts = tt; characters_are = refl };
  behind = λ may one begins. ends-with may one next begins;
}
parts-are (next ∷ last ∷ characters) =
    let later = parts-are (last ∷ characters) in
    let rest = parts-are characters in record {
      whole = later.behind true next (free next);
      behind = λ may one begins. at may one begins (is_plain 45 next) refl later.behind rest.whole;
    }
  where
    at : (may : Bool) (one : Character) → MayBegin may one → (b : Bool) → is_plain 45 next ≡ b →
        ((may : Bool) (one : Character) → MayBegin may one → IsParted may (one ∷ last ∷ characters)) → IsParted true characters →
        IsParted may (one ∷ next ∷ last ∷ characters)
    at may one begins true dash behind rest = spans may one next last characters begins dash rest
    at may one begins false plain behind rest = one_more may one next (last ∷ characters) begins plain behind

pub ranges-of-parts : (parts : List ClassPart) → AreParts true parts → ranges_behind None false (characters_in parts) ≡ map part_range parts
ranges-of-parts parts are = (parts-ranges parts).behind_none are

pub characters-are-parted : (characters : List Character) → IsParted true characters
characters-are-parted characters = (parts-are characters).whole
