-- Each tree of a rule sets the tag of the rule's trailing context, and nothing behind unsets it.
use Rattle.std.specs.Prelude.{◌≡◌, ◌≢◌, ℕ, zero, suc, ◌+◌, ◌<◌, ◌≤◌, List, [], ◌∷◌, ◌++◌, map, Option, Some, None, Bool, true, false, IsSome, nat_eq, nat_le, nat_lt, ◌&&◌, if◌then◌else◌, refl}
use Rattle.std.proofs.Common.{sym, ap, ◌∙◌, subst, arith, eq-eqb, eqb-true, inl, inr}
use Rattle.std.proofs.lemmas.Bool.{ne_eqb}
use Rattle.lx_base.specs.declared.settings.Enc.{Enc}
use Rattle.lx_base.specs.declared.settings.Enc.TheVariants.{Byte, Ucs2, Utf8, Utf16, Utf32}
use Rattle.lx_base.specs.Spelling.{spell}
use Rattle.lx_regex.specs.Limits.{IsRegular, IsSlashOf, StandsAmong, StandsIn, numbers_from}
use Rattle.lx_regex.specs.Pattern.{Pattern}
use Rattle.lx_regex.specs.Script.{Symbol, begins, ends, reads, sets, unsets, picks, script, row_script, choice_script, iterations_script, leaf_choice, has_short, has_long, iterate_choice, stop_choice, may_iterate, copy_part, put_tag, merge_tags, tags_in, tags_among, tags_beside}
use Rattle.lx_regex.specs.Term.{Term, empty, class, any_unit, cat, alt, repeat, tag, group, Terms, parts}
use Rattle.lx_regex.specs.Tree.{Tree, blank, point, unit, row, chosen, iterations, event, inside, Row, row_end, beside, Choice, here, later, Iterations, stop, iteration}
use Rattle.lx_regex.specs.Values.{last_event}

-- how often a number stands in a list
abbrev one_if : Bool → ℕ
one_if true = 1
one_if false = 0

abbrev count_of : ℕ → List ℕ → ℕ
count_of n [] = 0
count_of n (m ∷ l) = one_if (nat_eq m n) + count_of n l

count-put : (n m : ℕ) (l : List ℕ) → count_of n (put_tag m l) ≡ one_if (nat_eq m n) + count_of n l
count-put n m [] = refl
count-put n m (k ∷ l) = at (nat_le m k) (count-put n m l)
  where
    at : (b : Bool) → count_of n (put_tag m l) ≡ one_if (nat_eq m n) + count_of n l
        → count_of n (if b then m ∷ k ∷ l else k ∷ put_tag m l)
        ≡ one_if (nat_eq m n) + (one_if (nat_eq k n) + count_of n l)
    at true again = refl
    at false again = omega (arith, again)

count-merge : (n : ℕ) (l k : List ℕ) → count_of n (merge_tags l k) ≡ count_of n l + count_of n k
count-merge n [] k = omega arith
count-merge n (m ∷ l) k =
    let put = count-put n m (merge_tags l k) in let again = count-merge n l k in omega (arith, put, again)

-- numbers one after another are different
count-below : (n from count : ℕ) → n < from → count_of n (numbers_from from count) ≡ 0
count-below n from zero lt = refl
count-below n from (suc count) lt =
    let other : nat_eq from n ≡ false = ne_eqb from n (λ same. omega (arith, same, lt)) in
    let one : one_if (nat_eq from n) ≡ 0 = ap one_if other in
    let later = count-below n (suc from) count (omega (arith, lt)) in omega (arith, one, later)

count-numbers_from : (n from count : ℕ) → count_of n (numbers_from from count) ≤ 1
count-numbers_from n from zero = omega arith
count-numbers_from n from (suc count) = at (nat_eq from n) refl (count-numbers_from n (suc from) count)
  where
    at : (b : Bool) → nat_eq from n ≡ b → count_of n (numbers_from (suc from) count) ≤ 1
        → one_if b + count_of n (numbers_from (suc from) count) ≤ 1
    at true same again =
        let is : from ≡ n = eqb-true from n same in
        let later = count-below n (suc from) count (omega (arith, is)) in omega (arith, later)
    at false other again = omega (arith, again)

-- what stands in a list nowhere is not its first number
not_first : (n m : ℕ) (l : List ℕ) → count_of n (m ∷ l) ≡ 0 → m ≢ n
not_first n m l none same =
    let one : one_if (nat_eq m n) ≡ 1 = ap one_if (eq-eqb m n same) in omega (arith, one, none)

-- no event of a tag stands among symbols
abbrev IsSilent : ℕ → List Symbol → Type 0
IsSilent n [] = Unit {0}
IsSilent n (begins part ∷ l) = IsSilent n l
IsSilent n (ends part ∷ l) = IsSilent n l
IsSilent n (reads number ∷ l) = IsSilent n l
IsSilent n (sets number ∷ l) = (number ≢ n) × IsSilent n l
IsSilent n (unsets number ∷ l) = (number ≢ n) × IsSilent n l
IsSilent n (picks choice ∷ l) = IsSilent n l

silent-append : (n : ℕ) (l k : List Symbol) → IsSilent n l → IsSilent n k → IsSilent n (l ++ k)
silent-append n [] k a b = b
silent-append n (begins part ∷ l) k a b = silent-append n l k a b
silent-append n (ends part ∷ l) k a b = silent-append n l k a b
silent-append n (reads number ∷ l) k a b = silent-append n l k a b
silent-append n (sets number ∷ l) k a b = (a.0, silent-append n l k a.1 b)
silent-append n (unsets number ∷ l) k a b = (a.0, silent-append n l k a.1 b)
silent-append n (picks choice ∷ l) k a b = silent-append n l k a b

reads-silent : (n : ℕ) (word : List ℕ) → IsSilent n (map reads word)
reads-silent n [] = tt
reads-silent n (u ∷ word) = reads-silent n word

unsets-silent : (n : ℕ) (l : List ℕ) → count_of n l ≡ 0 → IsSilent n (map unsets l)
unsets-silent n [] none = tt
unsets-silent n (m ∷ l) none = (not_first n m l none, unsets-silent n l (omega (arith, none)))

picked-silent : (n c : ℕ) (b : Bool) → IsSilent n (if b then picks c ∷ [] else [])
picked-silent n c true = tt
picked-silent n c false = tt

leaf-silent : (n : ℕ) (enc : Enc) (ranges : List (ℕ × ℕ)) (number : ℕ) → IsSilent n (leaf_choice enc ranges number)
leaf-silent n Utf16 ranges number = picked-silent n (if nat_lt number 0x10000 then 1 else 0) (has_short ranges && has_long ranges)
leaf-silent n Byte ranges number = tt
leaf-silent n Ucs2 ranges number = tt
leaf-silent n Utf8 ranges number = tt
leaf-silent n Utf32 ranges number = tt

stop-silent : (n : ℕ) (b : Bool) (l : List ℕ) → count_of n l ≡ 0 → IsSilent n (if b then map unsets l else [])
stop-silent n true l none = unsets-silent n l none
stop-silent n false l none = tt

beside-none : (n : ℕ) {members : Terms} (choice : Choice members) → count_of n (tags_among members) ≡ 0 → count_of n (tags_beside choice) ≡ 0
beside-none n (here {member} {members} tree) none =
    let both = count-merge n (tags_in member) (tags_among members) in omega (arith, both, none)
beside-none n (later {member} {members} choice) none =
    let both = count-merge n (tags_in member) (tags_among members) in
    let again = beside-none n choice (omega (arith, both, none)) in
    let all = count-merge n (tags_in member) (tags_beside choice) in omega (arith, both, none, again, all)

-- a tree has no event of a tag that its term has not
module _ (enc : Enc) (n : ℕ) where
  mutual
    tree-silent : {e : Term} (part : ℕ) (tree : Tree e) → count_of n (tags_in e) ≡ 0 → IsSilent n (script enc part tree)
    tree-silent part blank none = tt
    tree-silent part (point {ranges} number within) none =
        silent-append n (leaf_choice enc ranges number) _ (leaf-silent n enc ranges number)
        (silent-append n (map reads (spell enc number)) _ (reads-silent n (spell enc number)) tt)
    tree-silent part (unit number) none = tt
    tree-silent part (row {members} trees) none = silent-append n (row_script enc (part + 1) trees) _ (row-silent (part + 1) trees none) tt
    tree-silent part (chosen {members} choice) none =
        silent-append n (map unsets (tags_beside choice)) _ (unsets-silent n (tags_beside choice) (beside-none n choice none))
        (silent-append n (choice_script enc (part + 1) choice) _ (choice-silent (part + 1) choice none) tt)
    tree-silent part (iterations {body} {low} {high} count trees least most) none =
        silent-append n (iterations_script enc part low high 0 trees) _ (iterations-silent part low high 0 trees none) tt
    tree-silent part (event {number}) none = (not_first n number [] none, tt)
    tree-silent part (inside {opening} {closing} {body} tree) none =
        let first = count-put n opening (put_tag closing (tags_in body)) in
        let second = count-put n closing (tags_in body) in (
          not_first n opening [] (omega (arith, first, none)),
          silent-append n (script enc (part + 1) tree) _ (tree-silent (part + 1) tree (omega (arith, first, second, none)))
              (not_first n closing [] (omega (arith, first, second, none)), tt),
        )

    row-silent : {members : Terms} (part : ℕ) (trees : Row members) → count_of n (tags_among members) ≡ 0 → IsSilent n (row_script enc part trees)
    row-silent part row_end none = tt
    row-silent part (beside {member} {members} tree trees) none =
        let both = count-merge n (tags_in member) (tags_among members) in
        silent-append n (script enc part tree) _ (tree-silent part tree (omega (arith, both, none)))
        (row-silent (part + parts member) trees (omega (arith, both, none)))

    choice-silent : {members : Terms} (part : ℕ) (choice : Choice members) → count_of n (tags_among members) ≡ 0
        → IsSilent n (choice_script enc part choice)
    choice-silent part (here {member} {members} tree) none =
        let both = count-merge n (tags_in member) (tags_among members) in tree-silent part tree (omega (arith, both, none))
    choice-silent part (later {member} {members} choice) none =
        let both = count-merge n (tags_in member) (tags_among members) in
        choice-silent (part + parts member) choice (omega (arith, both, none))

    iterations-silent : {body : Term} {count : ℕ} (part low : ℕ) (high : Option ℕ) (done : ℕ) (trees : Iterations body count)
        → count_of n (tags_in body) ≡ 0 → IsSilent n (iterations_script enc part low high done trees)
    iterations-silent part low high done (stop {body}) none =
        silent-append n (stop_choice done high) _ (picked-silent n 1 (may_iterate done high))
        (stop-silent n (nat_eq done 0) (tags_in body) none)
    iterations-silent part low high done (iteration {body} {count} tree trees) none =
        silent-append n (iterate_choice low done) _ (picked-silent n 0 (nat_le low done))
        (silent-append n (script enc (copy_part part body low high done) tree) _
        (tree-silent (copy_part part body low high done) tree none)
        (iterations-silent part low high (suc done) trees none))

-- a tag that has an offset keeps one
silent-keeps : (n at : ℕ) (last : Option ℕ) (l : List Symbol) → IsSilent n l → IsSome last → IsSome (last_event n at last l)
silent-keeps n at last [] quiet some = some
silent-keeps n at last (begins part ∷ l) quiet some = silent-keeps n at last l quiet some
silent-keeps n at last (ends part ∷ l) quiet some = silent-keeps n at last l quiet some
silent-keeps n at last (reads number ∷ l) quiet some = silent-keeps n (suc at) last l quiet some
silent-keeps n at last (sets number ∷ l) quiet some =
    silent-keeps n at (if nat_eq number n then Some at else last) l quiet.1
    (subst (λ b. IsSome (if b then Some at else last)) (sym (ne_eqb number n quiet.0)) some)
silent-keeps n at last (unsets number ∷ l) quiet some =
    silent-keeps n at (if nat_eq number n then None else last) l quiet.1
    (subst (λ b. IsSome (if b then None else last)) (sym (ne_eqb number n quiet.0)) some)
silent-keeps n at last (picks choice ∷ l) quiet some = silent-keeps n at last l quiet some

-- the symbols give the tag an offset, whatever stood before
abbrev Gives : ℕ → List Symbol → Type 0
Gives n l = (at : ℕ) (last : Option ℕ) → IsSome (last_event n at last l)

gives-behind : (n : ℕ) (l k : List Symbol) → Gives n k → Gives n (l ++ k)
gives-behind n [] k gives at last = gives at last
gives-behind n (begins part ∷ l) k gives at last = gives-behind n l k gives at last
gives-behind n (ends part ∷ l) k gives at last = gives-behind n l k gives at last
gives-behind n (reads number ∷ l) k gives at last = gives-behind n l k gives (suc at) last
gives-behind n (sets number ∷ l) k gives at last = gives-behind n l k gives at (if nat_eq number n then Some at else last)
gives-behind n (unsets number ∷ l) k gives at last = gives-behind n l k gives at (if nat_eq number n then None else last)
gives-behind n (picks choice ∷ l) k gives at last = gives-behind n l k gives at last

gives-kept : (n : ℕ) (l k : List Symbol) (at : ℕ) (last : Option ℕ) → IsSilent n k → IsSome (last_event n at last l)
    → IsSome (last_event n at last (l ++ k))
gives-kept n [] k at last quiet some = silent-keeps n at last k quiet some
gives-kept n (begins part ∷ l) k at last quiet some = gives-kept n l k at last quiet some
gives-kept n (ends part ∷ l) k at last quiet some = gives-kept n l k at last quiet some
gives-kept n (reads number ∷ l) k at last quiet some = gives-kept n l k (suc at) last quiet some
gives-kept n (sets number ∷ l) k at last quiet some = gives-kept n l k at (if nat_eq number n then Some at else last) quiet some
gives-kept n (unsets number ∷ l) k at last quiet some = gives-kept n l k at (if nat_eq number n then None else last) quiet some
gives-kept n (picks choice ∷ l) k at last quiet some = gives-kept n l k at last quiet some

module _ (enc : Enc) (n : ℕ) where
  -- a tag gives itself an offset
  event-gives : (e : Term) (part : ℕ) (tree : Tree e) → e ≡ tag n → Gives n (script enc part tree)
  event-gives (tag number) part event same =
      λ at last. let is : number ≡ n = cc in subst (λ b. IsSome (if b then Some at else last)) (sym (eq-eqb number n is)) refl
  event-gives empty part tree same = absurd (cc)
  event-gives (class ranges) part tree same = absurd (cc)
  event-gives any_unit part tree same = absurd (cc)
  event-gives (cat members) part tree same = absurd (cc)
  event-gives (alt members) part tree same = absurd (cc)
  event-gives (repeat body low high) part tree same = absurd (cc)
  event-gives (group opening closing body) part tree same = absurd (cc)

  row-gives : {members : Terms} (part : ℕ) (trees : Row members) → StandsAmong n members → count_of n (tags_among members) ≤ 1
      → Gives n (row_script enc part trees)
  row-gives part row_end stands once = absurd stands
  row-gives part (beside {member} {members} tree trees) (inl is) once =
      λ at last.
      let both = count-merge n (tags_in member) (tags_among members) in
      let own : count_of n (tags_in member) ≡ 1 =
      ap (λ e. count_of n (tags_in e)) is ∙ ap (λ b. one_if b + 0) (eq-eqb n n refl) in
      gives-kept n (script enc part tree) (row_script enc (part + parts member) trees) at last
      (row-silent enc n (part + parts member) trees (omega (arith, both, own, once)))
      (event-gives member part tree is at last)
  row-gives part (beside {member} {members} tree trees) (inr after) once =
      let both = count-merge n (tags_in member) (tags_among members) in
      gives-behind n (script enc part tree) (row_script enc (part + parts member) trees)
      (row-gives (part + parts member) trees after (omega (arith, both, once)))

  term-gives : (e : Term) (part : ℕ) (tree : Tree e) → StandsIn n e → count_of n (tags_in e) ≤ 1 → Gives n (script enc part tree)
  term-gives (cat members) part (row trees) stands once =
      λ at last.
      gives-kept n (row_script enc (part + 1) trees) (ends part ∷ []) at last tt (row-gives (part + 1) trees stands once at last)
  term-gives empty part tree stands once = absurd stands
  term-gives (class ranges) part tree stands once = absurd stands
  term-gives any_unit part tree stands once = absurd stands
  term-gives (alt members) part tree stands once = absurd stands
  term-gives (repeat body low high) part tree stands once = absurd stands
  term-gives (tag number) part tree stands once = absurd stands
  term-gives (group opening closing body) part tree stands once = absurd stands

-- each tree of a regular rule gives the tag of its trailing context an offset
pub slash_set : (enc : Enc) (pattern : Pattern) (slash start part : ℕ) (tree : Tree pattern.term) → IsRegular pattern → pattern.slash ≡ Some slash
    → IsSome (last_event slash start None (script enc part tree))
slash_set enc pattern slash start part tree regular is =
    term-gives enc slash pattern.term part tree (subst (IsSlashOf pattern) is regular.slash).1
    (subst (λ l. count_of slash l ≤ 1) (sym regular.tags) (count-numbers_from slash 0 _)) start None
