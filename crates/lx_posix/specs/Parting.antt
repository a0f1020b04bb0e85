-- Where two scripts part at a choice, and what each keeps from there of the positions that are open.
use Rattle.std.specs.Prelude.{◌≡◌, ℕ, zero, suc, ◌-◌, ◌<◌, min, List, [], ◌∷◌}
use Rattle.lx_regex.specs.Script.{Symbol, begins, ends, reads, sets, unsets, picks}

-- the beginnings, ends, units and digits of a script
pub data Event : Type 0 where
  down : Event
  up : Event
  read : Event
  digit : ℕ → Event

abbrev pub events : List Symbol → List Event
events [] = []
events (begins p ∷ l) = down ∷ events l
events (ends p ∷ l) = up ∷ events l
events (reads u ∷ l) = read ∷ events l
events (picks d ∷ l) = digit d ∷ events l
events (sets t ∷ l) = events l
events (unsets t ∷ l) = events l

-- the lowest depth until n units are read, from depth d on, where m was the lowest so far
abbrev pub keep : (n d m : ℕ) → List Event → ℕ
keep zero d m l = m
keep (suc n) d m [] = m
keep (suc n) d m (down ∷ l) = keep (suc n) (suc d) m l
keep (suc n) d m (up ∷ l) = keep (suc n) (d - 1) (min m (d - 1)) l
keep (suc n) d m (read ∷ l) = keep n d m l
keep (suc n) d m (digit x ∷ l) = keep (suc n) d m l

-- Within n units two scripts, so far alike and at depth d, part at depth D at digits of which the first has the lesser; h and h'
-- are what they keep from there until the n units are read.
pub data Parting : (n d : ℕ) → List Event → List Event → (D h h' : ℕ) → Type 0 where
  parts_here : {n d i j : ℕ} {l l' : List Event}
      → i < j → Parting (suc n) d (digit i ∷ l) (digit j ∷ l') d (keep (suc n) d d l) (keep (suc n) d d l')
  by_down : {n d D h h' : ℕ} {l l' : List Event} → Parting (suc n) (suc d) l l' D h h' → Parting (suc n) d (down ∷ l) (down ∷ l') D h h'
  by_up : {n d D h h' : ℕ} {l l' : List Event} → Parting (suc n) (d - 1) l l' D h h' → Parting (suc n) d (up ∷ l) (up ∷ l') D h h'
  by_read : {n d D h h' : ℕ} {l l' : List Event} → Parting n d l l' D h h' → Parting (suc n) d (read ∷ l) (read ∷ l') D h h'
  by_digit : {n d i j D h h' : ℕ} {l l' : List Event}
      → i ≡ j → Parting (suc n) d l l' D h h' → Parting (suc n) d (digit i ∷ l) (digit j ∷ l') D h h'

-- the lists part, the first with the lesser choice
abbrev pub Parts : (n d : ℕ) → List Event → List Event → Type 0
Parts n d l l' = (D h h' : ℕ) × Parting n d l l' D h h'
