-- The nodes of histories, and what is the history of each.
use Rattle.std.specs.Prelude.{ℕ, suc, ◌<◌, List, [], ◌∷◌, ◌++◌, length, Option, Some, None, slice_index_or}
use Rattle.std.specs.List.{AllByRecursion}
use Rattle.lx_step.specs.declared.histories.Node.{Node}

-- the content of a node, by those of all nodes; none is the empty history
abbrev pub content_at : List (List (Option ℕ)) → Option ℕ → List (Option ℕ)
content_at done None = []
content_at done (Some place) = slice_index_or done place []

-- the contents of further nodes behind those of the first ones: that of the one before, and its own entry
abbrev pub contents_behind : List (List (Option ℕ)) → List Node → List (List (Option ℕ))
contents_behind done [] = done
contents_behind done (node ∷ nodes) = contents_behind (done ++ (content_at done node.before ++ node.entry ∷ []) ∷ []) nodes

abbrev pub contents : List Node → List (List (Option ℕ))
contents nodes = contents_behind [] nodes

-- the place, where there is one, is below the count
abbrev pub IsBelow : ℕ → Option ℕ → Type 0
IsBelow count None = Unit {0}
IsBelow count (Some place) = place < count

-- each node comes behind the one before it, where so many stand before them
abbrev pub AreInOrder : ℕ → List Node → Type 0
AreInOrder count [] = Unit {0}
AreInOrder count (node ∷ nodes) = IsBelow count node.before × AreInOrder (suc count) nodes

-- the last nodes of histories are nodes
pub record AreBelow (lasts : List (Option ℕ)) (nodes : List Node) : Type 0 where
  pub each : AllByRecursion (IsBelow (length nodes)) lasts
  pub in_order : AreInOrder 0 nodes
