-- The starts of a search from the places of a kernel are starts from its beginnings.
use Rattle.std.proofs.Common.{inl, inr, sym, subst, arith}
use Rattle.std.specs.Prelude.{◌≡◌, ℕ, zero, suc, ◌<◌, ◌≤◌, min, List, [], ◌∷◌, length, map, refl}
use Rattle.lx_tnfa.specs.LeafReadings.{IsNth}
use Rattle.lx_tnfa.specs.Tnfa.{Tnfa}
use Rattle.lx_tnfa.proofs.Searching.SearchBasics.{Each}
use Rattle.lx_tnfa.proofs.Searching.SearchPaths.{All-from_each}
use Rattle.lx_tdfa.proofs.WordKernels.OrderedLists.{IsMember}
use Rattle.lx_posix.specs.Beginnings.{AreBeginnings, IsBeginning}
use Rattle.lx_posix.specs.Comparing.{Ranked}
use Rattle.lx_posix.specs.Finding.{AreStarts, IsStart, beginning_at}
use Rattle.lx_posix.specs.Sweeps.{shown_start}
use Rattle.lx_posix.specs.Starts.{level_starts}
use Rattle.lx_posix.specs.declared.points.Beginning.{Beginning}
use Rattle.lx_posix.specs.declared.starts.Start.{Start}
use Rattle.lx_posix.proofs.OneSearch.StartOrder.{start_place}

module _ (tnfa : Tnfa) (deep : ℕ → ℕ) where
  -- the beginning of a place
  beginning_of : (beginnings : List Beginning) (ranks : List Ranked) (index : ℕ) (ranked : Ranked)
      → AreBeginnings tnfa deep beginnings ranks → IsNth ranks index ranked
      → (index < length beginnings) × IsBeginning tnfa deep (beginning_at beginnings index) ranked
  beginning_of [] [] index ranked are nth = absurd nth
  beginning_of [] (first ∷ ranks) index ranked are nth = absurd are
  beginning_of (beginning ∷ beginnings) [] index ranked are nth = absurd nth
  beginning_of (beginning ∷ beginnings) (first ∷ ranks) zero ranked are nth =
      (omega arith, subst (IsBeginning tnfa deep beginning) nth are.0)
  beginning_of (beginning ∷ beginnings) (first ∷ ranks) (suc index) ranked are nth =
      let r = beginning_of beginnings ranks index ranked are.1 nth in
      let lt = r.0 in
      (omega (arith, lt), r.1)

  pub kernel_starts : (beginnings : List Beginning) (ranks : List Ranked) (starts : List Start) → AreBeginnings tnfa deep beginnings ranks
      → map shown_start starts ≡ level_starts deep ranks → AreStarts beginnings starts
  kernel_starts beginnings ranks starts are same =
      All-from_each (IsStart beginnings) starts (each starts (λ start m. subst (λ l. IsMember l (shown_start start)) same m))
    where
      one : (start : Start) → IsMember (level_starts deep ranks) (shown_start start) → IsStart beginnings start
      one start m =
          let b = start_place ranks deep (shown_start start) m in
          let r = beginning_of beginnings ranks b.index b.ranked are b.at in
          let here : start.from ≡ b.index = omega (arith, b.from) in
          let stands : IsBeginning tnfa deep (beginning_at beginnings start.from) b.ranked =
          subst (λ n. IsBeginning tnfa deep (beginning_at beginnings n) b.ranked) (sym here) r.1 in
          let lt = r.0 in
          let low : start.level ≤ min b.ranked.depth (deep b.ranked.place) = b.level in
          let depth = stands.depth in
          record { from = omega (arith, here, lt); level = omega (arith, low, depth) }

      each : (list : List Start)
          → ((start : Start) → IsMember (map shown_start list) (shown_start start) → IsMember (level_starts deep ranks) (shown_start start))
          → Each (IsStart beginnings) list
      each [] within = tt
      each (start ∷ list) within =
          (one start (within start (inl refl)), each list (λ other m. within other (inr m)))
