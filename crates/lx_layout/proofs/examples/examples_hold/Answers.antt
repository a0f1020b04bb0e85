use Rattle.std.proofs.Common.{◌≡◌, ℕ, zero, suc, ◌<◌, [], ◌∷◌, arith, lit≤, refl}
use Rattle.std.specs.Prelude.{slice_index_or}
use Rattle.lx_ccode.specs.declared.piece.Stmt.TheVariants.{Leave, Need}
use Rattle.lx_layout.specs.Starts.{run_with}
use Rattle.lx_layout.proofs.BlockLayouts.TreeExamples.{any_are_trees, dotted_are_trees, letters_is_tree, seven_is_tree}
use Rattle.lx_layout.proofs.examples.examples_hold.Goals as goal

pub returns-clause-layouts : goal.returns-clause-layouts
returns-clause-layouts c = record {
  dotted_stands = refl;
  dotted_are = record { states = dotted_are_trees; entry = dotted_are_trees.0 };
  any_stands = refl;
  any_are = record { states = any_are_trees; entry = any_are_trees.0 };
}

pub returns-clause-runs : goal.returns-clause-runs
unfolding run_with
returns-clause-runs c = record { whole = λ names. refl; falls_back = λ names. refl; at_once = λ names. refl; none = λ names. refl }

pub returns-clause-tests : goal.returns-clause-tests
returns-clause-tests c = record { seven_is = seven_is_tree; seven_stands = refl; letters_is = letters_is_tree; letters_stand = refl }

-- the one check of the piece is for two units
needed_two : (needed k : ℕ) → k < 2 → slice_index_or (Need 2 ∷ Leave ∷ []) k (Need needed) ≡ Need needed → needed ≡ 2
needed_two needed zero lt is = cc
needed_two needed (suc zero) lt is = absurd (let h = is in cc)
needed_two needed (suc (suc k)) lt is = absurd (omega (arith, lt))

pub returns-clause-checks : goal.returns-clause-checks
returns-clause-checks c = record {
  for_more = λ names. (refl, (2, (0, lit≤ tt, refl), lit≤ tt));
  not_for_as_many = λ names ends.
      let two : ends.1.0 ≡ 2 = needed_two ends.1.0 ends.1.1.0 ends.1.1.1 ends.1.1.2 in
      let more = ends.1.2 in
      absurd (omega (arith, two, more));
}
