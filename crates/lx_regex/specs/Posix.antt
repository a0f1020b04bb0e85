-- The POSIX order of trees (Okui and Suzuki 2010): by the lengths at their positions.
use Rattle.std.specs.Prelude.{◌≡◌, ℕ, zero, suc, ◌+◌, ◌-◌, ◌<◌, min, List, [], ◌∷◌, length}
use Rattle.lx_base.specs.declared.settings.Enc.{Enc}
use Rattle.lx_base.specs.Spelling.{spell}
use Rattle.lx_regex.specs.Term.{Term, Terms}
use Rattle.lx_regex.specs.Tree.{Tree, blank, point, unit, row, chosen, iterations, event, inside, Row, row_end, beside, Choice, here, later, Iterations, stop, iteration}
use Rattle.lx_regex.specs.Dictionary.{IsBefore}

-- what remains of a tree when only the counts of its units matter: its child places, each with a shape or absent
mutual
  pub data Shape : Type 0 where
    absent : Shape
    leaf : (count : ℕ) → Shape
    inner : (children : Shapes) → Shape

  pub data Shapes : Type 0 where
    none : Shapes
    more : Shape → Shapes → Shapes

-- the count of a shape's units
abbrev mutual
  pub size : Shape → ℕ
  size absent = 0
  size (leaf count) = count
  size (inner children) = sizes children

  pub sizes : Shapes → ℕ
  sizes none = 0
  sizes (more shape shapes) = size shape + sizes shapes

-- The length of a shape and one, when `read` of its units have been read and nothing behind the last of them; 0 where it is
-- absent or has not begun.
abbrev pub measure : (read : ℕ) → Shape → ℕ
measure read absent = 0
measure zero (leaf count) = 0
measure (suc read) (leaf count) = suc (min (suc read) count)
measure zero (inner children) = 0
measure (suc read) (inner children) = suc (min (suc read) (sizes children))

-- what stands at a position, with how many units are read from its beginning on; a position is a list of child places
abbrev mutual
  pub shape_at : (read : ℕ) → Shape → List ℕ → ℕ × Shape
  shape_at read shape [] = (read, shape)
  shape_at read absent (place ∷ position) = (0, absent)
  shape_at read (leaf count) (place ∷ position) = (0, absent)
  shape_at read (inner children) (place ∷ position) = shape_among read children place position

  pub shape_among : (read : ℕ) → Shapes → (place : ℕ) → List ℕ → ℕ × Shape
  shape_among read none place position = (0, absent)
  shape_among read (more shape shapes) zero position = shape_at read shape position
  shape_among read (more shape shapes) (suc place) position = shape_among (read - size shape) shapes place position

-- the length at a position and one, or 0 where the shape lacks the position
abbrev pub length_at : (read : ℕ) → Shape → List ℕ → ℕ
length_at read shape position = measure (shape_at read shape position).0 (shape_at read shape position).1

module _ (enc : Enc) where
  -- the shape of a tree
  abbrev mutual
    pub shape_of : {e : Term} → Tree e → Shape
    shape_of blank = leaf 0
    shape_of (point number within) = leaf (length (spell enc number))
    shape_of (unit number) = leaf 1
    shape_of (row trees) = inner (row_shapes trees)
    shape_of (chosen choice) = inner (choice_shapes choice)
    shape_of (iterations count trees least most) = inner (iteration_shapes trees)
    shape_of event = leaf 0
    shape_of (inside tree) = inner (more (shape_of tree) none)

    pub row_shapes : {members : Terms} → Row members → Shapes
    row_shapes row_end = none
    row_shapes (beside tree trees) = more (shape_of tree) (row_shapes trees)

    pub choice_shapes : {members : Terms} → Choice members → Shapes
    choice_shapes (here tree) = more (shape_of tree) none
    choice_shapes (later choice) = more absent (choice_shapes choice)

    pub iteration_shapes : {body : Term} {count : ℕ} → Iterations body count → Shapes
    iteration_shapes stop = none
    iteration_shapes (iteration tree trees) = more (shape_of tree) (iteration_shapes trees)

  -- of a whole tree all units are read, and what follows too
  abbrev pub whole : {e : Term} → Tree e → ℕ
  whole tree = suc (size (shape_of tree))

  -- two trees have equal lengths at all positions
  abbrev pub HaveEqualLengths : {e : Term} → Tree e → Tree e → Type 0
  HaveEqualLengths tree other =
      (position : List ℕ) → length_at (whole tree) (shape_of tree) position ≡ length_at (whole other) (shape_of other) position

  -- at the first position where two trees differ in length the first one is longer; preorder is the order of a dictionary
  abbrev pub IsLonger : {e : Term} → Tree e → Tree e → Type 0
  IsLonger tree other =
      (position : List ℕ)
      × (length_at (whole other) (shape_of other) position < length_at (whole tree) (shape_of tree) position)
      × ((earlier : List ℕ) → IsBefore earlier position
      → length_at (whole tree) (shape_of tree) earlier ≡ length_at (whole other) (shape_of other) earlier)
