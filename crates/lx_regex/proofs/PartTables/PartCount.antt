-- A term has as many parts in its list as are counted.
use Rattle.std.specs.Prelude.{◌≡◌, ℕ, zero, suc, ◌+◌, ◌*◌, List, length, refl}
use Rattle.std.proofs.Common.{arith, length-append}
use Rattle.lx_regex.specs.Term.{Term, empty, class, any_unit, cat, alt, repeat, tag, group, Terms, nil, cons, copies, parts, parts_of_all}
use Rattle.lx_regex.specs.Parts.{Part, copied_parts, parts_in, parts_among}

pub copied_count :
    (body : ℕ → ℕ → List Part) (size left number part : ℕ) → ((number part : ℕ) → length (body number part) ≡ size)
    → length (copied_parts body size left number part) ≡ left * size
copied_count body size zero number part each = omega arith
copied_count body size (suc left) number part each =
    omega (
      arith,
      length-append (body number part) (copied_parts body size left (suc number) (part + size)),
      each number part,
      copied_count body size left (suc number) (part + size) each,
    )

mutual
  pub part_count : (rule up child part : ℕ) (e : Term) → length (parts_in rule up child part e) ≡ parts e
  part_count rule up child part empty = refl
  part_count rule up child part (class ranges) = refl
  part_count rule up child part any_unit = refl
  part_count rule up child part (cat members) = omega (arith, among_count rule part 0 (part + 1) members)
  part_count rule up child part (alt members) = omega (arith, among_count rule part 0 (part + 1) members)
  part_count rule up child part (repeat body low high) =
      omega (arith, copied_count (λ number copy. parts_in rule part number copy body) (parts body) (copies low high) 0 (part + 1) (λ number copy. part_count rule part number copy body))
  part_count rule up child part (tag number) = refl
  part_count rule up child part (group opening closing body) = omega (arith, part_count rule part 0 (part + 1) body)

  pub among_count :
      (rule up child part : ℕ) (members : Terms) → length (parts_among rule up child part members) ≡ parts_of_all members
  among_count rule up child part nil = refl
  among_count rule up child part (cons member members) =
      omega (
        arith,
        length-append (parts_in rule up child part member) (parts_among rule up (suc child) (part + parts member) members),
        part_count rule up child part member,
        among_count rule up (suc child) (part + parts member) members,
      )
