-- Steps of the search that lead back to the node where they begin may be left out.
use Rattle.std.proofs.Common.{ap, ◌∙◌}
use Rattle.std.specs.Prelude.{◌≡◌, ℕ, zero, suc, List, [], ◌∷◌, ◌++◌, map, Bool, true, false, nat_le, nat_lt, if◌then◌else◌, refl}
use Rattle.lx_tnfa.specs.DepthFirst.{Found, IsIn, visited}
use Rattle.lx_tnfa.proofs.Searching.SearchBasics.{IsWithin-visited}
use Rattle.lx_tnfa.proofs.Searching.SearchBounds.{search_at}
use Rattle.lx_tnfa.proofs.Searching.SearchStack.{after_choices, found_by, found_by-seen, stacked}
use Rattle.lx_posix.specs.LevelSearch.{nodes_after}
use Rattle.lx_posix.proofs.OneSearch.LevelGraphs.{levels, node}

module _ (graph : List (List ℕ)) (deep : ℕ → ℕ) (width : ℕ) where
  abbrev at_node : ℕ → ℕ → ℕ
  at_node s l = node graph deep width s l

  abbrev found : List ℕ → List Found → List Found
  found seen st = found_by (levels graph deep width) seen st

  -- the steps by moves that may be taken, of which the first has this place
  abbrev pub moves_kept : (p : List ℕ) → (l first : ℕ) → (nexts : List ℕ) → List Found
  moves_kept p l first [] = []
  moves_kept p l first (next ∷ nexts) =
      if nat_le l (deep next)
      then (record { state = node graph deep width next l; choices = p ++ suc first ∷ [] }) ∷ moves_kept p l (suc first) nexts
      else moves_kept p l (suc first) nexts

  -- all steps that may be taken
  abbrev pub steps_kept : (p : List ℕ) → (s l : ℕ) → (nexts : List ℕ) → List Found
  steps_kept p s l nexts =
      if nat_lt l (deep s)
      then (record { state = node graph deep width s (suc l); choices = p ++ zero ∷ [] }) ∷ moves_kept p l 0 nexts
      else moves_kept p l 0 nexts

  -- one more step before others that come to the same
  more : (seen : List ℕ) (s l n : ℕ) (c : List ℕ) (b : Bool) (xs ys : List Found) → IsIn seen (at_node s l)
      → ((seen : List ℕ) → IsIn seen (at_node s l) → found seen xs ≡ found seen ys)
      → found seen (record { state = if b then n else at_node s l; choices = c } ∷ xs)
      ≡ found seen (if b then (record { state = n; choices = c }) ∷ ys else ys)
  more seen s l n c true xs ys m same =
      let here : List Found = search_at (levels graph deep width) seen n in
      ap (λ r. after_choices c here ++ r) (same (visited seen here) (IsWithin-visited seen here (at_node s l) m))
  more seen s l n c false xs ys m same =
      found_by-seen (levels graph deep width) seen (record { state = at_node s l; choices = c }) xs m ∙ same seen m

  split : (b : Bool) (e : Found) (xs st : List Found) → (if b then e ∷ (xs ++ st) else xs ++ st) ≡ (if b then e ∷ xs else xs) ++ st
  split true e xs st = refl
  split false e xs st = refl

  moves_dropped : (p : List ℕ) (s l first : ℕ) (nexts : List ℕ) (st : List Found) (seen : List ℕ) → IsIn seen (at_node s l)
      → found seen (stacked p (map (λ next. if nat_le l (deep next) then at_node next l else at_node s l) nexts) (suc first) ++ st)
      ≡ found seen (moves_kept p l first nexts ++ st)
  moves_dropped p s l first [] st seen m = refl
  moves_dropped p s l first (next ∷ nexts) st seen m =
      more seen s l (at_node next l) (p ++ suc first ∷ []) (nat_le l (deep next))
      (stacked p (map (λ next. if nat_le l (deep next) then at_node next l else at_node s l) nexts) (suc (suc first)) ++ st)
      (moves_kept p l (suc first) nexts ++ st) m (λ seen m. moves_dropped p s l (suc first) nexts st seen m)
      ∙ ap (λ r. found seen r)
      (split (nat_le l (deep next)) (record { state = at_node next l; choices = p ++ suc first ∷ [] })
      (moves_kept p l (suc first) nexts) st)

  pub steps_dropped : (p : List ℕ) (s l : ℕ) (nexts : List ℕ) (st : List Found) (seen : List ℕ) → IsIn seen (at_node s l)
      → found seen (stacked p (nodes_after graph deep width s l nexts) 0 ++ st) ≡ found seen (steps_kept p s l nexts ++ st)
  steps_dropped p s l nexts st seen m =
      more seen s l (at_node s (suc l)) (p ++ zero ∷ []) (nat_lt l (deep s))
      (stacked p (map (λ next. if nat_le l (deep next) then at_node next l else at_node s l) nexts) 1 ++ st)
      (moves_kept p l 0 nexts ++ st) m (λ seen m. moves_dropped p s l 0 nexts st seen m)
      ∙ ap (λ r. found seen r)
      (split (nat_lt l (deep s)) (record { state = at_node s (suc l); choices = p ++ zero ∷ [] }) (moves_kept p l 0 nexts) st)
