-- Under bytes a leaf is finished by its one unit, so the rule and the part of a cut are its place.
use Rattle.std.specs.Prelude.{◌≡◌, ℕ, suc, ◌+◌, List, [], ◌∷◌, ◌++◌, map, Option, Bool, true, false, nat_eq, nat_le, if◌then◌else◌, refl}
use Rattle.std.proofs.Common.{ap, ◌∙◌, subst, append_assoc}
use Rattle.lx_base.specs.declared.settings.Enc.TheVariants.{Byte}
use Rattle.lx_regex.specs.Cut.{Cut, EndsInUnit, Finishes, GoesOn, IsCut, SamePlace, last_part}
use Rattle.lx_regex.specs.Script.{Symbol, begins, choice_script, copy_part, ends, iterate_choice, iterations_script, may_iterate, picks, reads, row_script, script, sets, stop_choice, tags_beside, tags_in, unsets}
use Rattle.lx_regex.specs.Term.{Term, Terms, parts}
use Rattle.lx_regex.specs.Tree.{Choice, Iterations, Row, Tree, beside, blank, chosen, event, here, inside, iteration, iterations, later, point, row, row_end, stop, unit}
use Rattle.lx_regex.proofs.KernelCuts.Cuts.{goes_shape}

-- behind each unit a part ends
abbrev pub IsSpaced : List Symbol → Type 0
IsSpaced [] = Unit {0}
IsSpaced (begins part ∷ rest) = IsSpaced rest
IsSpaced (ends part ∷ rest) = IsSpaced rest
IsSpaced (sets number ∷ rest) = IsSpaced rest
IsSpaced (unsets number ∷ rest) = IsSpaced rest
IsSpaced (picks choice ∷ rest) = IsSpaced rest
IsSpaced (reads number ∷ []) = ⊥
IsSpaced (reads number ∷ ends part ∷ rest) = IsSpaced rest
IsSpaced (reads number ∷ begins part ∷ rest) = ⊥
IsSpaced (reads number ∷ reads other ∷ rest) = ⊥
IsSpaced (reads number ∷ sets other ∷ rest) = ⊥
IsSpaced (reads number ∷ unsets other ∷ rest) = ⊥
IsSpaced (reads number ∷ picks choice ∷ rest) = ⊥

spaced_append : (front back : List Symbol) → IsSpaced front → IsSpaced back → IsSpaced (front ++ back)
spaced_append [] back is too = too
spaced_append (begins part ∷ front) back is too = spaced_append front back is too
spaced_append (ends part ∷ front) back is too = spaced_append front back is too
spaced_append (sets number ∷ front) back is too = spaced_append front back is too
spaced_append (unsets number ∷ front) back is too = spaced_append front back is too
spaced_append (picks choice ∷ front) back is too = spaced_append front back is too
spaced_append (reads number ∷ []) back is too = absurd is
spaced_append (reads number ∷ ends part ∷ front) back is too = spaced_append front back is too
spaced_append (reads number ∷ begins part ∷ front) back is too = absurd is
spaced_append (reads number ∷ reads other ∷ front) back is too = absurd is
spaced_append (reads number ∷ sets other ∷ front) back is too = absurd is
spaced_append (reads number ∷ unsets other ∷ front) back is too = absurd is
spaced_append (reads number ∷ picks choice ∷ front) back is too = absurd is

spaced_back : (front : List Symbol) (number : ℕ) (rest : List Symbol) → IsSpaced (front ++ reads number ∷ rest)
    → (part : ℕ) × (more : List Symbol) × (rest ≡ ends part ∷ more)
spaced_back [] number [] is = absurd is
spaced_back [] number (ends part ∷ rest) is = (part, rest, refl)
spaced_back [] number (begins part ∷ rest) is = absurd is
spaced_back [] number (reads other ∷ rest) is = absurd is
spaced_back [] number (sets other ∷ rest) is = absurd is
spaced_back [] number (unsets other ∷ rest) is = absurd is
spaced_back [] number (picks choice ∷ rest) is = absurd is
spaced_back (begins part ∷ front) number rest is = spaced_back front number rest is
spaced_back (ends part ∷ front) number rest is = spaced_back front number rest is
spaced_back (sets other ∷ front) number rest is = spaced_back front number rest is
spaced_back (unsets other ∷ front) number rest is = spaced_back front number rest is
spaced_back (picks choice ∷ front) number rest is = spaced_back front number rest is
spaced_back (reads other ∷ []) number rest is = absurd is
spaced_back (reads other ∷ ends part ∷ front) number rest is = spaced_back front number rest is
spaced_back (reads other ∷ begins part ∷ front) number rest is = absurd is
spaced_back (reads other ∷ reads next ∷ front) number rest is = absurd is
spaced_back (reads other ∷ sets next ∷ front) number rest is = absurd is
spaced_back (reads other ∷ unsets next ∷ front) number rest is = absurd is
spaced_back (reads other ∷ picks choice ∷ front) number rest is = absurd is

spaced_unsets : (tags : List ℕ) → IsSpaced (map unsets tags)
spaced_unsets [] = tt
spaced_unsets (tag ∷ tags) = spaced_unsets tags

spaced_choice : (may : Bool) (choice : ℕ) → IsSpaced (if may then picks choice ∷ [] else [])
spaced_choice true choice = tt
spaced_choice false choice = tt

spaced_if : (none : Bool) (tags : List ℕ) → IsSpaced (if none then map unsets tags else [])
spaced_if true tags = spaced_unsets tags
spaced_if false tags = tt

-- the script of a tree has an end behind each unit
mutual
  spaced_script : {e : Term} (part : ℕ) (tree : Tree e) → IsSpaced (script Byte part tree)
  spaced_script part blank = tt
  spaced_script part (point number within) = tt
  spaced_script part (unit number) = tt
  spaced_script part (row trees) = spaced_append (row_script Byte (part + 1) trees) (ends part ∷ []) (spaced_row (part + 1) trees) tt
  spaced_script part (chosen choice) =
      spaced_append
      (map unsets (tags_beside choice)) (choice_script Byte (part + 1) choice ++ ends part ∷ []) (spaced_unsets (tags_beside choice))
      (spaced_append (choice_script Byte (part + 1) choice) (ends part ∷ []) (spaced_among (part + 1) choice) tt)
  spaced_script part (iterations {body} {low} {high} count trees least most) =
      spaced_append
      (iterations_script Byte part low high 0 trees) (ends part ∷ []) (spaced_iterations part low high 0 trees) tt
  spaced_script part event = tt
  spaced_script part (inside {opening} {closing} tree) =
      spaced_append (script Byte (part + 1) tree) (sets closing ∷ ends part ∷ []) (spaced_script (part + 1) tree) tt

  spaced_row : {members : Terms} (part : ℕ) (trees : Row members) → IsSpaced (row_script Byte part trees)
  spaced_row part row_end = tt
  spaced_row part (beside {member} {members} tree trees) =
      spaced_append
      (script Byte part tree) (row_script Byte (part + parts member) trees) (spaced_script part tree)
      (spaced_row (part + parts member) trees)

  spaced_among : {members : Terms} (part : ℕ) (choice : Choice members) → IsSpaced (choice_script Byte part choice)
  spaced_among part (here tree) = spaced_script part tree
  spaced_among part (later {member} {members} choice) = spaced_among (part + parts member) choice

  spaced_iterations : {body : Term} {count : ℕ} (part low : ℕ) (high : Option ℕ) (done : ℕ) (trees : Iterations body count)
      → IsSpaced (iterations_script Byte part low high done trees)
  spaced_iterations part low high done (stop {body}) =
      spaced_append
      (stop_choice done high) (if nat_eq done 0 then map unsets (tags_in body) else []) (spaced_choice (may_iterate done high) 1)
      (spaced_if (nat_eq done 0) (tags_in body))
  spaced_iterations part low high done (iteration {body} {count} tree trees) =
      spaced_append
      (iterate_choice low done)
      (script Byte (copy_part part body low high done) tree ++ iterations_script Byte part low high (suc done) trees)
      (spaced_choice (nat_le low done) 0)
      (spaced_append
      (script Byte (copy_part part body low high done) tree) (iterations_script Byte part low high (suc done) trees)
      (spaced_script (copy_part part body low high done) tree) (spaced_iterations part low high (suc done) trees))

module _ (rules : List Term) where
  -- behind a cut its leaf ends
  cut_ends : (cut : Cut) (rest : List Symbol) → EndsInUnit cut.front → GoesOn Byte rules cut rest
      → (more : List Symbol) × (rest ≡ ends (last_part 0 cut.front) ∷ more)
  cut_ends cut rest is goes =
      let whole = goes.3 ∙ ap (λ l. l ++ rest) is.2 ∙ append_assoc is.0 (reads is.1 ∷ []) rest in
      let behind = spaced_back is.0 is.1 rest (subst IsSpaced whole (spaced_script _ goes.1)) in
      let shape = goes_shape Byte rules cut rest is goes in
      at shape.0 shape.1 shape.2 behind.0 behind.1 behind.2
    where
      at : (left : List ℕ) (more : List Symbol) → rest ≡ map reads left ++ ends (last_part 0 cut.front) ∷ more
          → (part : ℕ) (others : List Symbol) → rest ≡ ends part ∷ others
          → (more : List Symbol) × (rest ≡ ends (last_part 0 cut.front) ∷ more)
      at [] more same part others too = (more, same)
      at (number ∷ left) more same part others too = cc

  -- units that finish the leaf of a cut are none, and these finish the leaf of each cut
  finish_all : (word other : List ℕ) (cut next : Cut) → IsCut Byte rules word cut → IsCut Byte rules other next → (left : List ℕ)
      → Finishes Byte rules cut left → Finishes Byte rules next left
  finish_all word other cut next is too [] finishes =
      let behind = cut_ends next too.possible.0 too.after_unit too.possible.1 in
      (behind.0, subst (λ l. GoesOn Byte rules next l) behind.1 too.possible.1)
  finish_all word other cut next is too (number ∷ left) finishes =
      let behind = cut_ends cut (map reads (number ∷ left) ++ ends (last_part 0 cut.front) ∷ finishes.0) is.after_unit finishes.1 in
      let e : reads number ∷ (map reads left ++ ends (last_part 0 cut.front) ∷ finishes.0) ≡ ends (last_part 0 cut.front) ∷ behind.0 = behind.1 in
      cc

  -- cuts in one part of one rule, at any words, are at one place
  pub part_place : (word other : List ℕ) (cut next : Cut) → IsCut Byte rules word cut → IsCut Byte rules other next
      → cut.rule ≡ next.rule → last_part 0 cut.front ≡ last_part 0 next.front → SamePlace Byte rules cut next
  part_place word other cut next is too rule part = record {
    rule = rule;
    part = part;
    left = λ left. (finish_all word other cut next is too left, finish_all other word next cut too is left);
  }
