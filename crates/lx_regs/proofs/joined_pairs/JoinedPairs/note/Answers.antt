-- A pair without a place in a row is noted in the set.
use Rattle.std.proofs.Common.{◌≡◌, ℕ, ◌+◌, ◌*◌, ◌<◌, List, true, Contains, inl, inr}
use Rattle.std.specs.Prelude.{◌⊎◌}
use Rattle.lx_regs.specs.JoinedPairs.{is_marked_at, row_length}
use Rattle.lx_regs.proofs.SharedNames.GraphSteps.{pair-inserted, pair-known}
use Rattle.lx_regs.proofs.joined_pairs.JoinedPairs.note.Goals as goal

pub returns : goal.returns
returns c =
    let old = c.args.self.now in
    let first = c.args.first in
    let second = c.args.second in
    let added = c.in_ok-fresh.ensures in
    record {
      told = λ noted. inr
          (pair-known first second old.others.keys c.insert.new.self.keys c.in_ok-fresh.fresh added.added noted added.keys).0;
      only = at old.others.keys c.insert.new.self.keys
          (pair-inserted first second old.others.keys c.insert.new.self.keys added.keys);
    }
  where
    at : (pairs new : List (ℕ × ℕ))
        → ((number other : ℕ) → Contains new (number, other)
        → Contains pairs (number, other) ⊎ ((number ≡ c.args.first) × (other ≡ c.args.second)))
        → (number other : ℕ)
        → ((other < row_length) × (is_marked_at c.args.self.now.marks.items (number * row_length + other) ≡ true)) ⊎ Contains new (number, other)
        → (((other < row_length) × (is_marked_at c.args.self.now.marks.items (number * row_length + other) ≡ true)) ⊎ Contains pairs (number, other))
        ⊎ ((number ≡ c.args.first) × (other ≡ c.args.second))
    at pairs new inserted number other (inl marked) = inl (inl marked)
    at pairs new inserted number other (inr has) = behind (inserted number other has)
      where
        behind : Contains pairs (number, other) ⊎ ((number ≡ c.args.first) × (other ≡ c.args.second))
            → (((other < row_length) × (is_marked_at c.args.self.now.marks.items (number * row_length + other) ≡ true)) ⊎ Contains pairs (number, other))
            ⊎ ((number ≡ c.args.first) × (other ≡ c.args.second))
        behind (inl before) = inl (inr before)
        behind (inr same) = inr same
