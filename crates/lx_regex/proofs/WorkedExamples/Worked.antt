-- The trees of the worked examples, and what holds of them.
use Rattle.std.specs.Prelude.{Some, None, ◌≡◌, ℕ, List, [], ◌∷◌, refl}
use Rattle.std.proofs.Common.{inl, inr, lit≤, lit<, arith, ⊎_elim}
use Rattle.lx_base.specs.declared.settings.Enc.TheVariants.{Utf8}
use Rattle.lx_regex.specs.Term.{Term, class, cat, alt, repeat, tag}
use Rattle.lx_regex.specs.Tree.{Tree, point, row, chosen, iterations, event, row_end, beside, here, later, stop, iteration}
use Rattle.lx_regex.specs.Dictionary.{IsBefore}
use Rattle.lx_regex.specs.Posix.{length_at, shape_of, whole}
use Rattle.lx_regex.specs.Examples.{letter, two, three, tagged_letters, AlternativesUnsetTags, marked_letters, HistoriesKeepAllEvents, letter_in_context, ContextsPutTheCursorBack, one_or_two_points, PairsComeBeforeSurrogates, overlapping_letters, PoliciesDiffer, TablesAre}

abbrev a_then_tag : Tree (alt (two (cat (two (letter 97) (tag 0))) (letter 98)))
a_then_tag = chosen (here (row (beside (point 97 (inl (lit≤ tt, lit≤ tt))) (beside event row_end))))

abbrev only_b : Tree (alt (two (cat (two (letter 97) (tag 0))) (letter 98)))
only_b = chosen (later (here (point 98 (inl (lit≤ tt, lit≤ tt)))))

abbrev pub tagged_ab : Tree tagged_letters
tagged_ab = iterations 2 (iteration a_then_tag (iteration only_b stop)) (lit≤ tt) tt

abbrev pub tagged_ba : Tree tagged_letters
tagged_ba = iterations 2 (iteration only_b (iteration a_then_tag stop)) (lit≤ tt) tt

abbrev pub tagged_nothing : Tree tagged_letters
tagged_nothing = iterations 0 stop (lit≤ tt) tt

pub alternatives : AlternativesUnsetTags tagged_ab tagged_ba tagged_nothing
alternatives = record {
  ab_units = refl;
  ab_script = refl;
  ab_choices = refl;
  ab_value = refl;
  ba_units = refl;
  ba_choices = refl;
  ba_value = refl;
  nothing_script = refl;
  nothing_value = refl;
}

abbrev tag_then_x : Tree (alt (two (cat (two (tag 0) (letter 120))) (letter 121)))
tag_then_x = chosen (here (row (beside event (beside (point 120 (inl (lit≤ tt, lit≤ tt))) row_end))))

abbrev only_y : Tree (alt (two (cat (two (tag 0) (letter 120))) (letter 121)))
only_y = chosen (later (here (point 121 (inl (lit≤ tt, lit≤ tt)))))

abbrev pub marked_xyx : Tree marked_letters
marked_xyx = iterations 3 (iteration tag_then_x (iteration only_y (iteration tag_then_x stop))) (lit≤ tt) tt

pub histories : HistoriesKeepAllEvents marked_xyx
histories = record { xyx_units = refl; xyx_value = refl }

abbrev just_b : Tree (letter 98)
just_b = point 98 (inl (lit≤ tt, lit≤ tt))

abbrev three_b : Tree (repeat (letter 98) 1 None)
three_b = iterations 3 (iteration just_b (iteration just_b (iteration just_b stop))) (lit≤ tt) tt

abbrev pub context_abbb : Tree letter_in_context
context_abbb =
    row (beside (point 97 (inl (lit≤ tt, lit≤ tt))) (beside event (beside three_b row_end)))

pub contexts : ContextsPutTheCursorBack context_abbb
contexts = record { abbb_units = refl; cursor = refl; without_context = refl }

abbrev pub pair_tree : Tree one_or_two_points
pair_tree =
    row (beside (point 0x10000 (inl (lit≤ tt, lit≤ tt))) (beside event (beside (iterations 0 stop (lit≤ tt) (lit≤ tt)) row_end)))

abbrev second_surrogate : Tree (repeat (class ((1, 0x10FFFF) ∷ [])) 0 (Some 1))
second_surrogate = iterations 1 (iteration (point 0xDC00 (inl (lit≤ tt, lit≤ tt))) stop) (lit≤ tt) (lit≤ tt)

abbrev pub surrogates_tree : Tree one_or_two_points
surrogates_tree = row (beside (point 0xD800 (inl (lit≤ tt, lit≤ tt))) (beside event (beside second_surrogate row_end)))

pub pairs : PairsComeBeforeSurrogates pair_tree surrogates_tree
pairs = record {
  pair_units = refl;
  two_units = refl;
  pair_choices = refl;
  two_choices = refl;
  pair_first = inl (lit< tt);
  pair_value = refl;
}

abbrev overlapping_body : Term
overlapping_body = alt (three (letter 97) (cat (two (letter 97) (letter 98))) (letter 98))

abbrev first_a : Tree overlapping_body
first_a = chosen (here (point 97 (inl (lit≤ tt, lit≤ tt))))

abbrev second_ab : Tree overlapping_body
second_ab = chosen (later (here (row (beside (point 97 (inl (lit≤ tt, lit≤ tt))) (beside just_b row_end)))))

abbrev third_b : Tree overlapping_body
third_b = chosen (later (later (here just_b)))

abbrev pub one_ab : Tree overlapping_letters
one_ab = iterations 1 (iteration second_ab stop) (lit≤ tt) tt

abbrev pub a_and_b : Tree overlapping_letters
a_and_b = iterations 2 (iteration first_a (iteration third_b stop)) (lit≤ tt) tt

pub policies : PoliciesDiffer one_ab a_and_b
policies = record {
  one_units = refl;
  two_units = refl;
  leftmost = inr (refl, inl (lit< tt));
  longest = (0 ∷ [], lit< tt, equal_before);
}
  where
    equal_before : (earlier : List ℕ) → IsBefore earlier (0 ∷ [])
        → length_at
        (whole Utf8 one_ab) (shape_of Utf8 one_ab) earlier ≡ length_at (whole Utf8 a_and_b)
        (shape_of Utf8 a_and_b) earlier
    equal_before [] before = refl
    equal_before (place ∷ position) before =
        ⊎_elim (λ lt. absurd (omega arith)) (λ same. absurd (none position same.1)) before
      where
        none : (position : List ℕ) → IsBefore position [] → ⊥
        none [] h = h
        none (x ∷ xs) h = h

pub tables : TablesAre
tables = record { tagged_parts = refl; tagged = refl; copied = refl }
