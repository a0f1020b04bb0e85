-- The numbers of group ends.
use Rattle.std.specs.Prelude.{◌^◌, ◌<◌}
use Rattle.lx_regex.specs.Term.{Term, empty, class, any_unit, cat, alt, repeat, tag, group, Terms, nil, cons}

-- the numbers of all group ends in a term have 32 bits
abbrev mutual
  pub EndsFit : Term → Type 0
  EndsFit empty = Unit {0}
  EndsFit (class ranges) = Unit {0}
  EndsFit any_unit = Unit {0}
  EndsFit (cat members) = EndsFitAmong members
  EndsFit (alt members) = EndsFitAmong members
  EndsFit (repeat body low high) = EndsFit body
  EndsFit (tag number) = Unit {0}
  EndsFit (group opening closing body) = (opening < 2 ^ 32) × (closing < 2 ^ 32) × EndsFit body

  pub EndsFitAmong : Terms → Type 0
  EndsFitAmong nil = Unit {0}
  EndsFitAmong (cons member members) = EndsFit member × EndsFitAmong members
