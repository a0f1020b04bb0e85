-- Which classes an encoding takes.
use Rattle.std.specs.Prelude.{ℕ, ◌≤◌, List, [], ◌∷◌}
use Rattle.lx_base.specs.Spelling.{greatest_point}
use Rattle.lx_base.specs.declared.settings.Enc.{Enc}
use Rattle.lx_class.specs.Ranges.{InRanges}
use Rattle.lx_regex.specs.PartList.{set_of}
use Rattle.lx_regex.specs.Term.{Term, empty, class, any_unit, cat, alt, repeat, tag, group, Terms, nil, cons}

-- every point of a class of the term is one of the encoding
abbrev mutual
  pub ClassesFit : Enc → Term → Type 0
  ClassesFit enc empty = Unit {0}
  ClassesFit enc (class ranges) = (point : ℕ) → InRanges (set_of ranges) point → point ≤ greatest_point enc
  ClassesFit enc any_unit = Unit {0}
  ClassesFit enc (cat members) = ClassesFitAmong enc members
  ClassesFit enc (alt members) = ClassesFitAmong enc members
  ClassesFit enc (repeat body low high) = ClassesFit enc body
  ClassesFit enc (tag number) = Unit {0}
  ClassesFit enc (group opening closing body) = ClassesFit enc body

  pub ClassesFitAmong : Enc → Terms → Type 0
  ClassesFitAmong enc nil = Unit {0}
  ClassesFitAmong enc (cons member members) = ClassesFit enc member × ClassesFitAmong enc members

-- the same of several terms
abbrev pub AllClassesFit : Enc → List Term → Type 0
AllClassesFit enc [] = Unit {0}
AllClassesFit enc (term ∷ terms) = ClassesFit enc term × AllClassesFit enc terms
