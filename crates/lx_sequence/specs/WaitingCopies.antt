-- Copies that wait for their turn, as the code keeps them.
use Rattle.std.specs.Prelude.{◌≡◌, ℕ, zero, suc, ◌+◌, ◌<◌, List, [], ◌∷◌, ◌++◌, length, Bool, true, false, ◌&&◌, Some, nat_eq, if◌then◌else◌, slice_index_or}
use Rattle.std.specs.Option.{unwrap_or}
use Rattle.std.specs.Ordering.{nat_cmp}
use Rattle.std.specs.BTreeMap.{BTreeMap}
use Rattle.std.specs.BTreeMap as map
use Rattle.std.specs.BTreeSet.{BTreeSet, contains}
use Rattle.lx_sequence.specs.CopyOps.{seen_copies}
use Rattle.lx_sequence.specs.ParallelCopies.{Copies, sources}
use Rattle.lx_sequence.specs.declared.copy_sequences.WaitingCopies.{WaitingCopies}

-- how often a number is in a list
abbrev pub count : ℕ → List ℕ → ℕ
count number [] = 0
count number (other ∷ others) = (if nat_eq number other then 1 else 0) + count number others

-- whether no other one of the copies than this one reads its target
abbrev pub is_unread : Copies → ℕ × ℕ → Bool
is_unread copies copy = nat_eq (count copy.0 (sources copies)) (if nat_eq copy.0 copy.1 then 1 else 0)

-- the copies at those of the first places that wait
abbrev pub copies_below : (waits : ℕ → Bool) → (copy_at : ℕ → ℕ × ℕ) → (places : ℕ) → Copies
copies_below waits copy_at zero = []
copies_below waits copy_at (suc place) = copies_below waits copy_at place ++ (if waits place then copy_at place ∷ [] else [])

-- some places, without one of them
abbrev pub without : (place : ℕ) → (ℕ → Bool) → ℕ → Bool
without place has other = if nat_eq other place then false else has other

-- a place is the first one of some
abbrev pub IsFirst : (ℕ → Bool) → (place : ℕ) → Type 0
IsFirst has place = (has place ≡ true) × ((other : ℕ) → other < place → has other ≡ false)

-- the copy at a place of a list
abbrev pub copy_of : Copies → (place : ℕ) → ℕ × ℕ
copy_of copies place = slice_index_or copies place (0, 0)

-- a copy, where the spare holds what some registers held
abbrev pub moved_copy : (spare : ℕ) → (moved : BTreeSet ℕ) → ℕ × ℕ → ℕ × ℕ
moved_copy spare moved copy = (copy.0, if contains nat_cmp moved copy.1 then spare else copy.1)

-- ---- what the code keeps

-- the place of the copy into each register, for the copies at the first places
abbrev pub ArePlaces : (places : BTreeMap ℕ ℕ) → Copies → (count : ℕ) → Type 0
ArePlaces places copies count =
    record {
      placed : (place : ℕ) → place < count → map.get nat_cmp places (copy_of copies place).0 ≡ Some place;
      known : (reg place : ℕ) → map.get nat_cmp places reg ≡ Some place → (place < count) × ((copy_of copies place).0 ≡ reg);
    }

-- how many copies read a register
abbrev pub reader_count : (readers : BTreeMap ℕ ℕ) → (reg : ℕ) → ℕ
reader_count readers reg = unwrap_or (map.get nat_cmp readers reg) 0

-- whether the copy at a place waits
abbrev pub waits : WaitingCopies → (place : ℕ) → Bool
waits list place = contains nat_cmp list.waiting place

-- the copy at a place, as it reads by now
abbrev pub copy_at : (spare : ℕ) → WaitingCopies → (place : ℕ) → ℕ × ℕ
copy_at spare list place = moved_copy spare list.moved (copy_of (seen_copies list.copies.items) place)

-- the copies that wait
abbrev pub waiting_copies : (spare : ℕ) → WaitingCopies → Copies
waiting_copies spare list = copies_below (waits list) (copy_at spare list) (length list.copies.items)

-- the other copies that wait than the one at a place
abbrev pub other_copies : (spare : ℕ) → WaitingCopies → (place : ℕ) → Copies
other_copies spare list place = copies_below (without place (waits list)) (copy_at spare list) (length list.copies.items)

-- what is kept of the copies is so, but for which of them are ready
pub record AreNoted (spare : ℕ) (list : WaitingCopies) : Type 0 where
  pub places : ArePlaces list.places (seen_copies list.copies.items) (length list.copies.items)
  pub within : (place : ℕ) → waits list place ≡ true → place < length list.copies.items
  pub readers : (reg : ℕ) → reader_count list.readers reg ≡ count reg (sources (waiting_copies spare list))

-- the copy at a place is among those that are ready exactly if it is
abbrev pub IsReadyNoted : (spare : ℕ) → WaitingCopies → (place : ℕ) → Type 0
IsReadyNoted spare list place =
    contains nat_cmp list.ready place ≡ (waits list place && is_unread (waiting_copies spare list) (copy_at spare list place))

-- all that is kept of the copies is so
pub record AreKept (spare : ℕ) (list : WaitingCopies) : Type 0 where
  pub noted : AreNoted spare list
  pub ready : (place : ℕ) → IsReadyNoted spare list place
