-- The tags of a regular rule are below a bound, so the numbers of its group ends have 32 bits.
use Rattle.std.proofs.Common.{◌≡◌, ℕ, zero, suc, ◌+◌, ◌<◌, ◌≤◌, arith, Bool, true, false, List, [], ◌∷◌, sym, subst}
use Rattle.std.specs.Prelude.{nat_le, ◌^◌, if◌then◌else◌}
use Rattle.lx_regex.specs.Limits.{numbers_from}
use Rattle.lx_regex.specs.Script.{put_tag, merge_tags, tags_in, tags_among}
use Rattle.lx_regex.specs.Term.{Term, empty, class, any_unit, cat, alt, repeat, tag, group, Terms, nil, cons}
use Rattle.lx_tnfa.specs.Ends.{EndsFit, EndsFitAmong}

-- each of the numbers is below the bound
abbrev AreBelow : ℕ → List ℕ → Type 0
AreBelow bound [] = Unit {0}
AreBelow bound (number ∷ numbers) = (number < bound) × AreBelow bound numbers

put_below : (bound number : ℕ) (list : List ℕ) → AreBelow bound (put_tag number list) → (number < bound) × AreBelow bound list
put_below bound number [] below = below
put_below bound number (other ∷ list) below = at (nat_le number other) below (put_below bound number list)
  where
    at : (b : Bool) → AreBelow bound (if b then number ∷ other ∷ list else other ∷ put_tag number list)
        → (AreBelow bound (put_tag number list) → (number < bound) × AreBelow bound list) → (number < bound) × AreBelow bound (other ∷ list)
    at true below more = (below.0, below.1)
    at false below more = let rest = more below.1 in (rest.0, (below.0, rest.1))

merge_below : (bound : ℕ) (a b : List ℕ) → AreBelow bound (merge_tags a b) → AreBelow bound a × AreBelow bound b
merge_below bound [] b below = (tt, below)
merge_below bound (number ∷ a) b below =
    let first = put_below bound number (merge_tags a b) below in
    let rest = merge_below bound a b first.1 in
    ((first.0, rest.0), rest.1)

mutual
  ends_below : (bound : ℕ) → bound ≤ 2 ^ 32 → (e : Term) → AreBelow bound (tags_in e) → EndsFit e
  ends_below bound le empty below = tt
  ends_below bound le (class ranges) below = tt
  ends_below bound le any_unit below = tt
  ends_below bound le (cat members) below = ends_below_among bound le members below
  ends_below bound le (alt members) below = ends_below_among bound le members below
  ends_below bound le (repeat body low high) below = ends_below bound le body below
  ends_below bound le (tag number) below = tt
  ends_below bound le (group opening closing body) below =
      let first = put_below bound opening (put_tag closing (tags_in body)) below in
      let second = put_below bound closing (tags_in body) first.1 in
      let a : opening < bound = first.0 in
      let b : closing < bound = second.0 in
      (omega arith, omega arith, ends_below bound le body second.1)

  ends_below_among : (bound : ℕ) → bound ≤ 2 ^ 32 → (members : Terms) → AreBelow bound (tags_among members) → EndsFitAmong members
  ends_below_among bound le nil below = tt
  ends_below_among bound le (cons member members) below =
      let both = merge_below bound (tags_in member) (tags_among members) below in
      (ends_below bound le member both.0, ends_below_among bound le members both.1)

numbers_below : (number count bound : ℕ) → number + count ≤ bound → AreBelow bound (numbers_from number count)
numbers_below number zero bound le = tt
numbers_below number (suc count) bound le = (omega arith, numbers_below (suc number) count bound (omega arith))

pub ends_fit : (e : Term) (count : ℕ) → tags_in e ≡ numbers_from 0 count → count ≤ 2 ^ 32 → EndsFit e
ends_fit e count is le = ends_below count le e (subst (AreBelow count) (sym is) (numbers_below 0 count count (omega arith)))
