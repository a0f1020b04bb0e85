-- The worked examples of matches.
use Rattle.std.specs.Prelude.{◌≡◌, ℕ, zero, suc, ◌+◌, ◌≤◌, ◌<◌, List, [], ◌∷◌, ◌++◌, length, Some, None, slice_get, refl}
use Rattle.std.proofs.Common.{inl, inr, lit≤, arith, ⊎_elim, sym, ap, ap₂, ◌∙◌, subst}
use Rattle.lx_base.specs.declared.settings.Enc.TheVariants.{Utf8}
use Rattle.lx_regex.specs.Term.{Term, any_unit, cat, IsInRanges}
use Rattle.lx_regex.specs.Tree.{Tree, point, unit, row, row_end, beside}
use Rattle.lx_regex.specs.Script.{Symbol, begins, ends, reads, script, units, choices}
use Rattle.lx_regex.specs.Plain.{IsPlain}
use Rattle.lx_regex.specs.Dictionary.{IsBefore}
use Rattle.lx_regex.specs.Order.{greedy}
use Rattle.lx_regex.specs.Least.{HasTree, IsLeast}
use Rattle.lx_regex.specs.Cut.{Cut, IsCut, BeginsMatch}
use Rattle.lx_regex.specs.Pattern.{Pattern, with_terms, terms_of}
use Rattle.lx_regex.specs.declared.rules.Kind.TheVariants.{Plain, Default}
use Rattle.lx_regex.specs.Match.{matched, unmatched, IsWordAt, Takes, IsMatch, at_end, by_rule, by_none, part_at}
use Rattle.lx_regex.specs.Examples.{letter, two, plain_rule, single_letters, short_and_long, only_long, MatchesAre}
use Rattle.lx_regex.proofs.Walks.PlainWalk.{plain_list, units_append}
use Rattle.lx_regex.proofs.Trees.PlainTest.{plain_by_test}
use Rattle.lx_regex.proofs.Walks.Fronts.{before_self}

letter_is : (number c : ℕ) → IsInRanges ((number, number) ∷ []) c → number ≡ c
letter_is number c within = ⊎_elim (λ h. let a = h.0 in let b = h.1 in omega arith) (λ h. absurd h) within

-- the scripts of the trees of "a", of "b" and of "ab"
a_script : (part : ℕ) (tree : Tree (letter 97)) → script Utf8 part tree ≡ begins part ∷ reads 97 ∷ ends part ∷ []
a_script part (point c within) =
    subst
    (λ y.
    (i : IsInRanges ((97, 97) ∷ []) y) → script Utf8 part (point {ranges = (97, 97) ∷ []} y i) ≡ begins part ∷ reads 97 ∷ ends part ∷ [])
    (letter_is 97 c within) (λ i. refl) within

b_script : (part : ℕ) (tree : Tree (letter 98)) → script Utf8 part tree ≡ begins part ∷ reads 98 ∷ ends part ∷ []
b_script part (point c within) =
    subst
    (λ y.
    (i : IsInRanges ((98, 98) ∷ []) y) → script Utf8 part (point {ranges = (98, 98) ∷ []} y i) ≡ begins part ∷ reads 98 ∷ ends part ∷ [])
    (letter_is 98 c within) (λ i. refl) within

abbrev pub ab_symbols : ℕ → List Symbol
ab_symbols part =
    begins part ∷ begins
    (part + 1) ∷ reads 97 ∷ ends (part + 1) ∷ begins (part + 1 + 1) ∷ reads 98 ∷ ends (part + 1 + 1) ∷ ends part ∷ []

pub ab_script : (part : ℕ) (tree : Tree (cat (two (letter 97) (letter 98)))) → script Utf8 part tree ≡ ab_symbols part
ab_script part (row (beside a (beside b row_end))) =
    ap₂ (λ x y. begins part ∷ ((x ++ (y ++ [])) ++ ends part ∷ [])) (a_script (part + 1) a) (b_script (part + 1 + 1) b)

-- a tree whose choices are none is least
no_choice : (part : ℕ) (e : Term) (word : List ℕ) (tree : Tree e) → units (script Utf8 part tree) ≡ word
    → IsPlain (script Utf8 part tree)
    → ((other : Tree e) → choices (script Utf8 part other) ≡ choices (script Utf8 part tree))
    → IsLeast greedy Utf8 part e word tree
no_choice part e word tree yields plain same = record {
  yields = yields;
  plain = plain;
  least =
      λ other u p before. before_self (choices (script Utf8 part tree)) (subst (λ l. IsBefore l (choices (script Utf8 part tree))) (same other) before);
}

-- what a rule takes, by its term
taken : (patterns : List Pattern) (place : ℕ) (word : List ℕ) (rule : Pattern)
    → slice_get (with_terms patterns) place ≡ Some rule → Takes Utf8 patterns place word
    → HasTree Utf8 (part_at patterns place) rule.term word
taken patterns place word rule at takes =
    let said : Some takes.0 ≡ Some rule = sym takes.1 ∙ at in
    let same : takes.0 ≡ rule = cc in
    subst (λ (y : Pattern). HasTree Utf8 (part_at patterns place) y.term word) same takes.2

a_word : (part : ℕ) (word : List ℕ) → HasTree Utf8 part (letter 97) word → word ≡ 97 ∷ []
a_word part word has = sym has.1 ∙ ap units (a_script part has.0)

ab_word : (part : ℕ) (word : List ℕ) → HasTree Utf8 part (cat (two (letter 97) (letter 98))) word → word ≡ 97 ∷ 98 ∷ []
ab_word part word has = sym has.1 ∙ ap units (ab_script part has.0)

unit_word : (part : ℕ) (word : List ℕ) → HasTree Utf8 part any_unit word → length word ≡ 1
unit_word part word has = at has.0 has.1
  where
    at : (tree : Tree any_unit) → units (script Utf8 part tree) ≡ word → length word ≡ 1
    at (unit number) e = ap length (sym e)

-- each rule of `single_letters` takes one letter
one_letter : (place : ℕ) (word : List ℕ) → Takes Utf8 single_letters place word → length word ≤ 1
one_letter zero word takes =
    let e = ap length (a_word _ word (taken single_letters 0 word (plain_rule 1 Plain (letter 97)) refl takes)) in
    omega arith
one_letter (suc zero) word takes =
    let e = ap length (a_word _ word (taken single_letters 1 word (plain_rule 2 Plain (letter 97)) refl takes)) in
    omega arith
one_letter (suc (suc zero)) word takes =
    let e = unit_word _ word (taken single_letters 2 word (plain_rule 3 Default any_unit) refl takes) in omega arith
one_letter (suc (suc (suc place))) word takes = let none : None ≡ Some takes.0 = takes.1 in cc

abbrev a_tree : Tree (letter 97)
a_tree = point 97 (inl (lit≤ tt, lit≤ tt))

abbrev ab_tree : Tree (cat (two (letter 97) (letter 98)))
ab_tree = row (beside a_tree (beside (point 98 (inl (lit≤ tt, lit≤ tt))) row_end))

first_rule : IsMatch greedy Utf8 single_letters (97 ∷ 97 ∷ []) 0 (matched 1 1 [])
first_rule =
    by_rule (97 ∷ []) 0 (plain_rule 1 Plain (letter 97)) 1 [] (λ rule is. absurd (omega (arith, is.0)))
    (record {
      is_word = (97 ∷ [], refl);
      takes = (plain_rule 1 Plain (letter 97), refl, (a_tree, refl));
      longest = λ other taker is takes. one_letter taker other takes;
      first = λ earlier lt takes. absurd (omega arith);
    })
    refl
    (record {
      tree = a_tree;
      least =
          no_choice 1
          (letter 97) (97 ∷ []) a_tree refl (plain_list _ (plain_by_test (script Utf8 1 a_tree) refl))
          (λ other. ap choices (a_script 1 other));
      stands = refl;
      valued = refl;
    })

end_rule : IsMatch greedy Utf8 single_letters (97 ∷ 97 ∷ []) 2 (matched 4 2 [])
end_rule = at_end 4 (refl, refl)

-- the rules of `short_and_long` take `a` and `ab`
at_most_two : (place : ℕ) (word : List ℕ) → Takes Utf8 short_and_long place word → length word ≤ 2
at_most_two zero word takes =
    let e = ap length (a_word _ word (taken short_and_long 0 word (plain_rule 1 Plain (letter 97)) refl takes)) in
    omega arith
at_most_two (suc zero) word takes =
    let e =
    ap length
    (ab_word _ word (taken short_and_long 1 word (plain_rule 2 Plain (cat (two (letter 97) (letter 98)))) refl takes)) in
    omega arith
at_most_two (suc (suc place)) word takes = let none : None ≡ Some takes.0 = takes.1 in cc

not_the_first : (place : ℕ) → place < 1 → Takes Utf8 short_and_long place (97 ∷ 98 ∷ []) → ⊥
not_the_first zero lt takes =
    let e =
    ap length
    (a_word _ (97 ∷ 98 ∷ []) (taken short_and_long 0 (97 ∷ 98 ∷ []) (plain_rule 1 Plain (letter 97)) refl takes)) in
    omega (arith, e)
not_the_first (suc place) lt takes = absurd (omega arith)

longest_word : IsMatch greedy Utf8 short_and_long (97 ∷ 98 ∷ []) 0 (matched 2 2 [])
longest_word =
    by_rule
    (97 ∷ 98 ∷ []) 1 (plain_rule 2 Plain (cat (two (letter 97) (letter 98)))) 2 []
    (λ rule is. absurd (omega (arith, is.0)))
    (record {
      is_word = ([], refl);
      takes = (plain_rule 2 Plain (cat (two (letter 97) (letter 98))), refl, (ab_tree, refl));
      longest = λ other taker is takes. at_most_two taker other takes;
      first = λ earlier lt takes. not_the_first earlier lt takes;
    })
    refl
    (record {
      tree = ab_tree;
      least =
          no_choice 2
          (cat (two (letter 97) (letter 98))) (97 ∷ 98 ∷ []) ab_tree refl
          (plain_list _ (plain_by_test (script Utf8 2 ab_tree) refl)) (λ other. ap choices (ab_script 2 other));
      stands = refl;
      valued = refl;
    })

-- a word that begins both `ab` and `ac` has at most one letter
pub same_head : (a b : ℕ) (xs ys : List ℕ) → a ∷ xs ≡ b ∷ ys → a ≡ b
same_head a b xs ys e = cc

same_tail : (a b : ℕ) (xs ys : List ℕ) → a ∷ xs ≡ b ∷ ys → xs ≡ ys
same_tail a b xs ys e = cc

at_most_one : (word rest more : List ℕ) → 97 ∷ 98 ∷ [] ≡ word ++ rest → 97 ∷ 99 ∷ [] ≡ word ++ more → length word ≤ 1
at_most_one [] rest more e h = omega arith
at_most_one (x ∷ []) rest more e h = omega arith
at_most_one (x ∷ y ∷ word) rest more e h =
    let a = same_head 98 y [] (word ++ rest) (same_tail 97 x (98 ∷ []) (y ∷ (word ++ rest)) e) in
    let b = same_head 99 y [] (word ++ more) (same_tail 97 x (99 ∷ []) (y ∷ (word ++ more)) h) in
    absurd (omega (arith, a, b))

-- the one rule takes `ab`, which does not stand there
untaken : (word : List ℕ) (place : ℕ) → IsWordAt (97 ∷ 99 ∷ []) 0 word → Takes Utf8 only_long place word → ⊥
untaken word zero is takes =
    let e = ab_word _ word (taken only_long 0 word (plain_rule 1 Plain (cat (two (letter 97) (letter 98)))) refl takes) in
    let short = at_most_one word [] is.0 (sym e ∙ sym (append_nothing word)) is.1 in
    omega (arith, short, ap length e)
  where
    append_nothing : (l : List ℕ) → l ++ [] ≡ l
    append_nothing [] = refl
    append_nothing (x ∷ l) = ap (λ k. x ∷ k) (append_nothing l)
untaken word (suc place) is takes = let none : None ≡ Some takes.0 = takes.1 in cc

-- a word at which the rule has a cut begins `ab`
pub begun_word :
    (word : List ℕ) (cut : Cut) → IsCut Utf8 (terms_of only_long) word cut → (rest : List ℕ) × (97 ∷ 98 ∷ [] ≡ word ++ rest)
begun_word word cut is = at cut.rule is.possible.1.0 is.possible.1.1 is.possible.1.2 is.possible.1.3
  where
    at : (rule : ℕ) (e : Term) (tree : Tree e) → slice_get (terms_of only_long) rule ≡ Some e
        → script Utf8 (part_at only_long cut.rule) tree ≡ cut.front ++ is.possible.0
        → (rest : List ℕ) × (97 ∷ 98 ∷ [] ≡ word ++ rest)
    at zero e tree said goes =
        let same : e ≡ cat (two (letter 97) (letter 98)) = cc in
        let scripted =
        subst
        (λ y. (t : Tree y) → script Utf8 (part_at only_long cut.rule) t ≡ ab_symbols (part_at only_long cut.rule))
        (sym same) (λ t. ab_script (part_at only_long cut.rule) t) tree in (
          units is.possible.0,
          ap units (sym scripted ∙ goes) ∙ units_append cut.front is.possible.0
              ∙ ap (λ l. l ++ units is.possible.0) is.reads_word,
        )
    at (suc rule) e tree said goes = cc

begins_at_most_one :
    (word : List ℕ) → IsWordAt (97 ∷ 99 ∷ []) 0 word → BeginsMatch Utf8 (terms_of only_long) word → length word ≤ 1
begins_at_most_one word is (inl none) = let e = ap length none in omega (arith, e)
begins_at_most_one word is (inr cut) = let b = begun_word word cut.0 cut.1 in at_most_one word b.0 is.0 b.1 is.1

pub a_cut : IsCut Utf8 (terms_of only_long) (97 ∷ []) (record { rule = 0; front = begins 1 ∷ begins 2 ∷ reads 97 ∷ [] })
a_cut = record {
  reads_word = refl;
  after_unit = (begins 1 ∷ begins 2 ∷ [], 97, refl);
  possible = (
    ends 2 ∷ begins 3 ∷ reads 98 ∷ ends 3 ∷ ends 1 ∷ [],
    (cat (two (letter 97) (letter 98)), ab_tree, refl, refl, plain_list _ (plain_by_test (script Utf8 1 ab_tree) refl)),
  );
}

no_rule : IsMatch greedy Utf8 only_long (97 ∷ 99 ∷ []) 0 (unmatched 1)
no_rule =
    by_none (97 ∷ []) (λ rule is. absurd (omega (arith, is.0)))
    (record {
      is_word = (99 ∷ [], refl);
      begins = inr (_, a_cut);
      longest = begins_at_most_one;
      untaken = untaken;
    })

pub matches : MatchesAre
matches = record { first_rule = first_rule; at_end = end_rule; longest_word = longest_word; no_rule = no_rule }
