-- The worked examples.
use Rattle.lx_posix.specs.Examples.{EmptyIterationIsFirst, LongerMemberIsFirst, letter, letters, split_word, twice_letters}
use Rattle.std.specs.Prelude.{◌≡◌, ℕ, zero, suc, List, [], ◌∷◌, None, refl}
use Rattle.std.proofs.Common.{sym, subst, arith, inl, ⊎_elim, lit≤}
use Rattle.lx_base.specs.declared.settings.Enc.TheVariants.{Byte}
use Rattle.lx_regex.specs.Dictionary.{IsBefore}
use Rattle.lx_regex.specs.Posix.{length_at, shape_of, whole}
use Rattle.lx_regex.specs.Script.{script}
use Rattle.lx_regex.specs.Term.{cat, repeat}
use Rattle.lx_regex.specs.Tree.{Tree, point, row, chosen, iterations, row_end, beside, here, later, stop, iteration}
use Rattle.lx_regex.proofs.PosixTrees.PosixAhead.{ahead_wins, behind, longer, now, on}
use Rattle.lx_regex.proofs.Trees.PlainTest.{plain_by_test}
use Rattle.lx_regex.proofs.Walks.PlainWalk.{plain_list}

abbrev a : Tree (letter 97)
a = point 97 (inl (lit≤ tt, lit≤ tt))

abbrev b : Tree (letter 98)
b = point 98 (inl (lit≤ tt, lit≤ tt))

abbrev c : Tree (letter 99)
c = point 99 (inl (lit≤ tt, lit≤ tt))

abbrev d : Tree (letter 100)
d = point 100 (inl (lit≤ tt, lit≤ tt))

abbrev ab : Tree (cat (letters (97 ∷ 98 ∷ [])))
ab = row (beside a (beside b row_end))

abbrev bcd : Tree (cat (letters (98 ∷ 99 ∷ 100 ∷ [])))
bcd = row (beside b (beside c (beside d row_end)))

abbrev pub ab_c_d : Tree split_word
ab_c_d = row (beside (chosen (later (here ab))) (beside (chosen (here c)) (beside (iterations 1 (iteration d stop) (lit≤ tt) tt) row_end)))

abbrev pub a_bcd : Tree split_word
a_bcd = row (beside (chosen (here a)) (beside (chosen (later (here bcd))) (beside (iterations 0 stop (lit≤ tt) tt) row_end)))

only_root : (q : List ℕ) → IsBefore q (0 ∷ []) → q ≡ []
only_root [] h = refl
only_root (zero ∷ []) h = absurd (⊎_elim (λ lt. absurd (omega arith)) (λ r. r.1) h)
only_root (zero ∷ j ∷ q) h = absurd (⊎_elim (λ lt. absurd (omega arith)) (λ r. r.1) h)
only_root (suc i ∷ q) h = absurd (⊎_elim (λ lt. absurd (omega arith)) (λ r. let z = r.0 in absurd (omega arith)) h)

pub longer_member : LongerMemberIsFirst ab_c_d a_bcd
longer_member = record {
  long_units = refl;
  short_units = refl;
  longest = (
    0 ∷ [],
    lit≤ tt,
    λ q h.
        subst
        (λ x. length_at (whole Byte ab_c_d) (shape_of Byte ab_c_d) x ≡ length_at (whole Byte a_bcd) (shape_of Byte a_bcd) x)
        (sym (only_root q h)) refl,
  );
  leftmost = inl (lit≤ tt);
}

abbrev some_a : Tree (repeat (letter 97) 0 None)
some_a = iterations 1 (iteration a stop) (lit≤ tt) tt

abbrev no_a : Tree (repeat (letter 97) 0 None)
no_a = iterations 0 stop (lit≤ tt) tt

abbrev pub once : Tree twice_letters
once = iterations 1 (iteration some_a stop) (lit≤ tt) (lit≤ tt)

abbrev pub once_and_empty : Tree twice_letters
once_and_empty = iterations 2 (iteration some_a (iteration no_a stop)) (lit≤ tt) (lit≤ tt)

pub empty_iteration : EmptyIterationIsFirst once_and_empty once
empty_iteration = record {
  script_with = refl;
  plain = plain_list (script Byte 1 once_and_empty) (plain_by_test (script Byte 1 once_and_empty) refl);
  units_without = refl;
  longest = ahead_wins (behind refl (lit≤ tt) (on (λ q. refl) (now (longer (lit≤ tt)))));
}
