-- The shapes of terms: how many parts they have, up to a limit, and which tags.
use Rattle.std.specs.Prelude.{◌≡◌, ℕ, ◌+◌, ◌^◌, min, List, [], ◌∷◌}
use Rattle.lx_regex.specs.Script.{merge_tags, tags_in}
use Rattle.lx_regex.specs.Term.{Term, empty, class, any_unit, cat, alt, repeat, tag, group, Terms, nil, cons, parts}
use Rattle.lx_tnfa.specs.declared.shape.Shape.{Shape, out-Shape}

-- the parts of shapes together
abbrev pub parts_together : List Shape → ℕ
parts_together [] = 0
parts_together (shape ∷ shapes) = (out-Shape shape).parts + parts_together shapes

-- the tags of shapes together
abbrev pub tags_together : List Shape → List ℕ
tags_together [] = []
tags_together (shape ∷ shapes) = merge_tags (out-Shape shape).tags.items (tags_together shapes)

-- a shape around others: it has one part more, and the tags of all
abbrev pub IsAround : List Shape → Shape → Type 0
IsAround shapes shape =
    ((out-Shape shape).parts ≡ min (1 + parts_together shapes) (2 ^ 31)) × ((out-Shape shape).tags.items ≡ tags_together shapes)
    × ((out-Shape shape).members.items ≡ shapes)

-- what a term's shape tells of the term itself
abbrev pub Tells : Term → Shape → Type 0
Tells e shape = ((out-Shape shape).parts ≡ min (parts e) (2 ^ 31)) × ((out-Shape shape).tags.items ≡ tags_in e)

-- a list of one shape, of which this holds
abbrev pub IsOnly : (Shape → Type 0) → List Shape → Type 0
IsOnly holds [] = ⊥
IsOnly holds (shape ∷ []) = holds shape
IsOnly holds (shape ∷ other ∷ others) = ⊥

-- the shape of a term, with those of its members or its body
abbrev mutual
  pub HasShape : Term → Shape → Type 0
  HasShape empty shape = Tells empty shape
  HasShape (class ranges) shape = Tells (class ranges) shape
  HasShape any_unit shape = Tells any_unit shape
  HasShape (cat members) shape = Tells (cat members) shape × HaveShapes members (out-Shape shape).members.items
  HasShape (alt members) shape = Tells (alt members) shape × HaveShapes members (out-Shape shape).members.items
  HasShape (repeat body low high) shape = Tells (repeat body low high) shape × IsOnly (HasShape body) (out-Shape shape).members.items
  HasShape (tag number) shape = Tells (tag number) shape
  HasShape (group opening closing body) shape = Tells (group opening closing body) shape × IsOnly (HasShape body) (out-Shape shape).members.items

  pub HaveShapes : Terms → List Shape → Type 0
  HaveShapes nil [] = Unit {0}
  HaveShapes nil (shape ∷ shapes) = ⊥
  HaveShapes (cons member members) [] = ⊥
  HaveShapes (cons member members) (shape ∷ shapes) = HasShape member shape × HaveShapes members shapes
