-- Terms whose tags are numbered from another number on.
use Rattle.std.proofs.Common.{◌≡◌, ℕ, ◌+◌, ◌*◌, ◌≤◌, arith, refl, ap₂}
use Rattle.lx_regex.specs.Term.{Term, Terms, empty, class, any_unit, cat, alt, repeat, tag, group, nil, cons}
use Rattle.lx_exprs.specs.Defined.{both_classes, class_in, classes_in}
use Rattle.lx_exprs.specs.Meanings.{shifted, shifted_all}
use Rattle.lx_exprs.specs.Values.{HasTagsBelow, HaveTagsBelow}

-- tags below a bound are below a greater one
mutual
  pub HasTagsBelow-greater : (first bound greater : ℕ) (body : Term) → bound ≤ greater → HasTagsBelow first bound body → HasTagsBelow first greater body
  HasTagsBelow-greater first bound greater empty le below = tt
  HasTagsBelow-greater first bound greater (class ranges) le below = tt
  HasTagsBelow-greater first bound greater any_unit le below = tt
  HasTagsBelow-greater first bound greater (cat members) le below = HaveTagsBelow-greater first bound greater members le below
  HasTagsBelow-greater first bound greater (alt members) le below = HaveTagsBelow-greater first bound greater members le below
  HasTagsBelow-greater first bound greater (repeat body low high) le below = HasTagsBelow-greater first bound greater body le below
  HasTagsBelow-greater first bound greater (tag number) le below = omega (arith, le, below)
  HasTagsBelow-greater first bound greater (group opening closing body) le below =
      (below.0, omega (arith, le, below.1), HasTagsBelow-greater first bound greater body le below.2)

  pub HaveTagsBelow-greater : (first bound greater : ℕ) (members : Terms) → bound ≤ greater → HaveTagsBelow first bound members → HaveTagsBelow first greater members
  HaveTagsBelow-greater first bound greater nil le below = tt
  HaveTagsBelow-greater first bound greater (cons member members) le below =
      (HasTagsBelow-greater first bound greater member le below.0, HaveTagsBelow-greater first bound greater members le below.1)

-- groups that are numbered from the first one on are so from group 0 on
mutual
  pub HasTagsBelow-whole : (bound : ℕ) (body : Term) → HasTagsBelow 1 bound body → HasTagsBelow 0 bound body
  HasTagsBelow-whole bound empty below = tt
  HasTagsBelow-whole bound (class ranges) below = tt
  HasTagsBelow-whole bound any_unit below = tt
  HasTagsBelow-whole bound (cat members) below = HaveTagsBelow-whole bound members below
  HasTagsBelow-whole bound (alt members) below = HaveTagsBelow-whole bound members below
  HasTagsBelow-whole bound (repeat body low high) below = HasTagsBelow-whole bound body below
  HasTagsBelow-whole bound (tag number) below = below
  HasTagsBelow-whole bound (group opening closing body) below = (omega arith, below.1, HasTagsBelow-whole bound body below.2)

  HaveTagsBelow-whole : (bound : ℕ) (members : Terms) → HaveTagsBelow 1 bound members → HaveTagsBelow 0 bound members
  HaveTagsBelow-whole bound nil below = tt
  HaveTagsBelow-whole bound (cons member members) below = (HasTagsBelow-whole bound member below.0, HaveTagsBelow-whole bound members below.1)

-- the bound goes up with the tags and the groups
mutual
  pub HasTagsBelow-shifted : (by groups bound : ℕ) (body : Term) → HasTagsBelow 1 bound body
      → HasTagsBelow 1 (by + 2 * groups + bound) (shifted by groups body)
  HasTagsBelow-shifted by groups bound empty below = tt
  HasTagsBelow-shifted by groups bound (class ranges) below = tt
  HasTagsBelow-shifted by groups bound any_unit below = tt
  HasTagsBelow-shifted by groups bound (cat members) below = HaveTagsBelow-shifted by groups bound members below
  HasTagsBelow-shifted by groups bound (alt members) below = HaveTagsBelow-shifted by groups bound members below
  HasTagsBelow-shifted by groups bound (repeat body low high) below = HasTagsBelow-shifted by groups bound body below
  HasTagsBelow-shifted by groups bound (tag number) below = omega (arith, below)
  HasTagsBelow-shifted by groups bound (group opening closing body) below =
      (omega (arith, below.0), omega (arith, below.1), HasTagsBelow-shifted by groups bound body below.2)

  HaveTagsBelow-shifted : (by groups bound : ℕ) (members : Terms) → HaveTagsBelow 1 bound members
      → HaveTagsBelow 1 (by + 2 * groups + bound) (shifted_all by groups members)
  HaveTagsBelow-shifted by groups bound nil below = tt
  HaveTagsBelow-shifted by groups bound (cons member members) below =
      (HasTagsBelow-shifted by groups bound member below.0, HaveTagsBelow-shifted by groups bound members below.1)

-- and the class is the same
mutual
  pub class_in-shifted : (by groups : ℕ) (body : Term) → class_in (shifted by groups body) ≡ class_in body
  class_in-shifted by groups (alt members) = classes_in-shifted by groups members
  class_in-shifted by groups body = refl

  classes_in-shifted : (by groups : ℕ) (members : Terms) → classes_in (shifted_all by groups members) ≡ classes_in members
  classes_in-shifted by groups nil = refl
  classes_in-shifted by groups (cons member members) =
      ap₂ both_classes (class_in-shifted by groups member) (classes_in-shifted by groups members)
