-- The tags of terms and the ends of their groups, in order and numbered from one on.
use Rattle.std.proofs.Common.{◌≡◌, ℕ, zero, suc, ◌+◌, ◌*◌, ◌≤◌, Bool, true, false, List, [], ◌∷◌, ◌++◌, map, refl, sym, ap, ap₂, ◌∙◌, arith}
use Rattle.std.specs.Prelude.{nat_le}
use Rattle.lx_regex.specs.Expr.{members_of}
use Rattle.lx_regex.specs.Limits.{HasLongSequences, HaveLongSequences, member_count, numbers_from}
use Rattle.lx_regex.specs.Script.{merge_tags, put_tag, tags_among, tags_in}
use Rattle.lx_regex.specs.Term.{Term, Terms, empty, class, any_unit, cat, alt, repeat, tag, group, nil, cons}
use Rattle.lx_exprs.specs.Meanings.{all_behind, behind, shifted, shifted_all}
use Rattle.lx_exprs.specs.Within.{IsNumbered, ends_among, ends_in, own_tags, own_tags_among}

-- two tags may be put in either order
put_tag-swap : (x y : ℕ) (l : List ℕ) → put_tag x (put_tag y l) ≡ put_tag y (put_tag x l)
put_tag-swap x y [] = at (nat_le x y) (nat_le y x) refl refl
  where
    at : (b b' : Bool) → nat_le x y ≡ b → nat_le y x ≡ b' → put_tag x (put_tag y []) ≡ put_tag y (put_tag x [])
    at true true e e' =
        let le : x ≤ y = search (arith, e) in
        let ge : y ≤ x = search (arith, e') in
        let same : x ≡ y = omega (arith, le, ge) in
        rw (e, e') (ap₂ (λ a b. a ∷ b ∷ []) same (sym same))
    at true false e e' = rw (e, e') refl
    at false true e e' = rw (e, e') refl
    at false false e e' = absurd (search (arith, e, e'))
put_tag-swap x y (z ∷ l) = at (nat_le x y) (nat_le y x) (nat_le x z) (nat_le y z) refl refl refl refl (put_tag-swap x y l)
  where
    at : (b b' c c' : Bool) → nat_le x y ≡ b → nat_le y x ≡ b' → nat_le x z ≡ c → nat_le y z ≡ c'
        → put_tag x (put_tag y l) ≡ put_tag y (put_tag x l) → put_tag x (put_tag y (z ∷ l)) ≡ put_tag y (put_tag x (z ∷ l))
    at true true true true e e' f f' later =
        let le : x ≤ y = search (arith, e) in
        let ge : y ≤ x = search (arith, e') in
        let same : x ≡ y = omega (arith, le, ge) in
        rw (f, f') (rw (e, e') (ap₂ (λ a b. a ∷ b ∷ z ∷ l) same (sym same)))
    at true false true true e e' f f' later = rw (f, f') (rw (e, e') refl)
    at false true true true e e' f f' later = rw (f, f') (rw (e, e', f) refl)
    at false false c c' e e' f f' later = absurd (search (arith, e, e'))
    at true true true false e e' f f' later = absurd (search (arith, e, e', f, f'))
    at false true true false e e' f f' later = absurd (search (arith, e, e', f, f'))
    at true false true false e e' f f' later = rw (f, f') (rw (e', f) refl)
    at true true false true e e' f f' later = absurd (search (arith, e, e', f, f'))
    at false true false true e e' f f' later = rw (f, f') (rw (e, f) refl)
    at true false false true e e' f f' later = absurd (search (arith, e, e', f, f'))
    at b b' false false e e' f f' later = rw (f, f') (rw (f) (ap (λ l. z ∷ l) later))

-- a tag is put in before or behind a merge
merge_tags-put : (x : ℕ) (l others : List ℕ) → merge_tags (put_tag x l) others ≡ put_tag x (merge_tags l others)
merge_tags-put x [] others = refl
merge_tags-put x (y ∷ l) others = at (nat_le x y) refl (merge_tags-put x l others)
  where
    at : (b : Bool) → nat_le x y ≡ b → merge_tags (put_tag x l) others ≡ put_tag x (merge_tags l others)
        → merge_tags (put_tag x (y ∷ l)) others ≡ put_tag x (merge_tags (y ∷ l) others)
    at true e later = rw (e) refl
    at false e later = rw (e) (ap (put_tag y) later ∙ put_tag-swap y x (merge_tags l others))

merge_tags-assoc : (a b c : List ℕ) → merge_tags (merge_tags a b) c ≡ merge_tags a (merge_tags b c)
merge_tags-assoc [] b c = refl
merge_tags-assoc (x ∷ a) b c = merge_tags-put x (merge_tags a b) c ∙ ap (put_tag x) (merge_tags-assoc a b c)

-- what is merged into a merge may be merged first
merge_tags-before : (x : ℕ) (l others : List ℕ) → put_tag x (merge_tags l others) ≡ merge_tags l (put_tag x others)
merge_tags-before x [] others = refl
merge_tags-before x (y ∷ l) others = put_tag-swap x y (merge_tags l others) ∙ ap (put_tag y) (merge_tags-before x l others)

merge_tags-left : (a b c : List ℕ) → merge_tags a (merge_tags b c) ≡ merge_tags b (merge_tags a c)
merge_tags-left [] b c = refl
merge_tags-left (x ∷ a) b c = ap (put_tag x) (merge_tags-left a b c) ∙ merge_tags-before x b (merge_tags a c)

-- four lists, of which the middle ones change places
merge_tags-across : (a x b y : List ℕ) → merge_tags (merge_tags a x) (merge_tags b y) ≡ merge_tags (merge_tags a b) (merge_tags x y)
merge_tags-across a x b y =
    merge_tags-assoc a x (merge_tags b y) ∙ ap (merge_tags a) (merge_tags-left x b y) ∙ sym (merge_tags-assoc a b (merge_tags x y))

-- the tags of terms behind others, and the ends of their groups
pub own_tags_among-append : (front back : List Term)
    → own_tags_among (members_of (front ++ back)) ≡ merge_tags (own_tags_among (members_of front)) (own_tags_among (members_of back))
own_tags_among-append [] back = refl
own_tags_among-append (term ∷ front) back =
    ap (merge_tags (own_tags term)) (own_tags_among-append front back)
    ∙ sym (merge_tags-assoc (own_tags term) (own_tags_among (members_of front)) (own_tags_among (members_of back)))

pub ends_among-append : (front back : List Term)
    → ends_among (members_of (front ++ back)) ≡ merge_tags (ends_among (members_of front)) (ends_among (members_of back))
ends_among-append [] back = refl
ends_among-append (term ∷ front) back =
    ap (merge_tags (ends_in term)) (ends_among-append front back)
    ∙ sym (merge_tags-assoc (ends_in term) (ends_among (members_of front)) (ends_among (members_of back)))

-- numbers in order, and those behind them
pub put_tag-before : (number count : ℕ) → put_tag number (numbers_from (suc number) count) ≡ number ∷ numbers_from (suc number) count
put_tag-before number zero = refl
put_tag-before number (suc count) = let le : nat_le number (suc number) ≡ true = search arith in rw (le) refl

pub merge_tags-numbers : (number count more : ℕ)
    → merge_tags (numbers_from number count) (numbers_from (number + count) more) ≡ numbers_from number (count + more)
merge_tags-numbers number zero more =
    let none : number + 0 ≡ number = omega arith in let all : 0 + more ≡ more = omega arith in ap₂ numbers_from none (sym all)
merge_tags-numbers number (suc count) more =
    let from : number + suc count ≡ suc number + count = omega arith in
    let all : suc (count + more) ≡ suc count + more = omega arith in
    ap (λ n. put_tag number (merge_tags (numbers_from (suc number) count) (numbers_from n more))) from
    ∙ ap (put_tag number) (merge_tags-numbers (suc number) count more)
    ∙ put_tag-before number (count + more) ∙ ap (numbers_from number) all

-- lists whose numbers are all greater by the same
put_tag-shifted : (by x : ℕ) (l : List ℕ) → put_tag (x + by) (map (λ n. n + by) l) ≡ map (λ n. n + by) (put_tag x l)
put_tag-shifted by x [] = refl
put_tag-shifted by x (y ∷ l) = at (nat_le x y) refl (put_tag-shifted by x l)
  where
    at : (b : Bool) → nat_le x y ≡ b → put_tag (x + by) (map (λ n. n + by) l) ≡ map (λ n. n + by) (put_tag x l)
        → put_tag (x + by) (map (λ n. n + by) (y ∷ l)) ≡ map (λ n. n + by) (put_tag x (y ∷ l))
    at true e later = let e' : nat_le (x + by) (y + by) ≡ true = search (arith, e) in rw (e, e') refl
    at false e later = let e' : nat_le (x + by) (y + by) ≡ false = search (arith, e) in rw (e, e') (ap (λ l. (y + by) ∷ l) later)

merge_tags-shifted : (by : ℕ) (l others : List ℕ)
    → merge_tags (map (λ n. n + by) l) (map (λ n. n + by) others) ≡ map (λ n. n + by) (merge_tags l others)
merge_tags-shifted by [] others = refl
merge_tags-shifted by (x ∷ l) others = ap (put_tag (x + by)) (merge_tags-shifted by l others) ∙ put_tag-shifted by x (merge_tags l others)

pub numbers_from-shifted : (by number count : ℕ) → map (λ n. n + by) (numbers_from number count) ≡ numbers_from (number + by) count
numbers_from-shifted by number zero = refl
numbers_from-shifted by number (suc count) =
    let next : suc number + by ≡ suc (number + by) = omega arith in
    ap (λ l. (number + by) ∷ l) (numbers_from-shifted by (suc number) count ∙ ap (λ n. numbers_from n count) next)

-- a copy
module _ (by groups : ℕ) where
  mutual
    own_tags-shifted : (term : Term) → own_tags (shifted by groups term) ≡ map (λ n. n + by) (own_tags term)
    own_tags-shifted empty = refl
    own_tags-shifted (class ranges) = refl
    own_tags-shifted any_unit = refl
    own_tags-shifted (cat members) = own_tags_among-shifted members
    own_tags-shifted (alt members) = own_tags_among-shifted members
    own_tags-shifted (repeat body low high) = own_tags-shifted body
    own_tags-shifted (tag number) = refl
    own_tags-shifted (group opening closing body) = own_tags-shifted body

    own_tags_among-shifted : (members : Terms) → own_tags_among (shifted_all by groups members) ≡ map (λ n. n + by) (own_tags_among members)
    own_tags_among-shifted nil = refl
    own_tags_among-shifted (cons member members) =
        ap₂ merge_tags (own_tags-shifted member) (own_tags_among-shifted members)
        ∙ merge_tags-shifted by (own_tags member) (own_tags_among members)

  mutual
    ends_in-shifted : (term : Term) → ends_in (shifted by groups term) ≡ map (λ n. n + 2 * groups) (ends_in term)
    ends_in-shifted empty = refl
    ends_in-shifted (class ranges) = refl
    ends_in-shifted any_unit = refl
    ends_in-shifted (cat members) = ends_among-shifted members
    ends_in-shifted (alt members) = ends_among-shifted members
    ends_in-shifted (repeat body low high) = ends_in-shifted body
    ends_in-shifted (tag number) = refl
    ends_in-shifted (group opening closing body) =
        ap (λ l. put_tag (opening + 2 * groups) (put_tag (closing + 2 * groups) l)) (ends_in-shifted body)
        ∙ ap (put_tag (opening + 2 * groups)) (put_tag-shifted (2 * groups) closing (ends_in body))
        ∙ put_tag-shifted (2 * groups) opening (put_tag closing (ends_in body))

    ends_among-shifted : (members : Terms) → ends_among (shifted_all by groups members) ≡ map (λ n. n + 2 * groups) (ends_among members)
    ends_among-shifted nil = refl
    ends_among-shifted (cons member members) =
        ap₂ merge_tags (ends_in-shifted member) (ends_among-shifted members)
        ∙ merge_tags-shifted (2 * groups) (ends_in member) (ends_among members)

  -- has sequences as long
  pub member_count-shifted : (members : Terms) → member_count (shifted_all by groups members) ≡ member_count members
  member_count-shifted nil = refl
  member_count-shifted (cons member members) = ap suc (member_count-shifted members)

  mutual
    long-shifted : (term : Term) → HasLongSequences term → HasLongSequences (shifted by groups term)
    long-shifted empty long = tt
    long-shifted (class ranges) long = tt
    long-shifted any_unit long = tt
    long-shifted (cat members) long =
        let same = member_count-shifted members in let two = long.0 in (omega (arith, same, two), long_all-shifted members long.1)
    long-shifted (alt members) long = long_all-shifted members long
    long-shifted (repeat body low high) long = long-shifted body long
    long-shifted (tag number) long = tt
    long-shifted (group opening closing body) long = long-shifted body long

    long_all-shifted : (members : Terms) → HaveLongSequences members → HaveLongSequences (shifted_all by groups members)
    long_all-shifted nil long = tt
    long_all-shifted (cons member members) long = (long-shifted member long.0, long_all-shifted members long.1)

  -- so a copy is numbered from where it begins
  pub numbered-shifted : (count own : ℕ) (term : Term) → IsNumbered 0 count 1 own term
      → IsNumbered by count (suc groups) own (shifted by groups term)
  numbered-shifted count own term numbered =
      let from : 0 + by ≡ by = omega arith in
      let first : 2 * 1 + 2 * groups ≡ 2 * suc groups = omega arith in record {
        sequences = long-shifted term numbered.sequences;
        tags =
            own_tags-shifted term ∙ ap (map (λ n. n + by)) numbered.tags ∙ numbers_from-shifted by 0 count
            ∙ ap (λ n. numbers_from n count) from;
        ends =
            ends_in-shifted term ∙ ap (map (λ n. n + 2 * groups)) numbered.ends ∙ numbers_from-shifted (2 * groups) (2 * 1) (2 * own)
            ∙ ap (λ n. numbers_from n (2 * own)) first;
      }

-- a term in a rule
module _ (tags : ℕ) where
  -- has its tags, and the ends of its groups behind those of the rule
  mutual
    pub tags_in-behind : (term : Term) → tags_in (behind tags term) ≡ merge_tags (own_tags term) (map (λ n. n + tags) (ends_in term))
    tags_in-behind empty = refl
    tags_in-behind (class ranges) = refl
    tags_in-behind any_unit = refl
    tags_in-behind (cat members) = tags_among-behind members
    tags_in-behind (alt members) = tags_among-behind members
    tags_in-behind (repeat body low high) = tags_in-behind body
    tags_in-behind (tag number) = refl
    tags_in-behind (group opening closing body) =
        ap (λ l. put_tag (opening + tags) (put_tag (closing + tags) l)) (tags_in-behind body)
        ∙ ap (put_tag (opening + tags)) (merge_tags-before (closing + tags) (own_tags body) (map (λ n. n + tags) (ends_in body)))
        ∙ merge_tags-before (opening + tags) (own_tags body) (put_tag (closing + tags) (map (λ n. n + tags) (ends_in body)))
        ∙ ap (λ l. merge_tags (own_tags body) (put_tag (opening + tags) l)) (put_tag-shifted tags closing (ends_in body))
        ∙ ap (merge_tags (own_tags body)) (put_tag-shifted tags opening (put_tag closing (ends_in body)))

    tags_among-behind : (members : Terms)
        → tags_among (all_behind tags members) ≡ merge_tags (own_tags_among members) (map (λ n. n + tags) (ends_among members))
    tags_among-behind nil = refl
    tags_among-behind (cons member members) =
        ap₂ merge_tags (tags_in-behind member) (tags_among-behind members)
        ∙ merge_tags-across (own_tags member) (map (λ n. n + tags) (ends_in member)) (own_tags_among members) (map (λ n. n + tags) (ends_among members))
        ∙ ap (merge_tags (merge_tags (own_tags member) (own_tags_among members))) (merge_tags-shifted tags (ends_in member) (ends_among members))

  -- and sequences as long
  member_count-behind : (members : Terms) → member_count (all_behind tags members) ≡ member_count members
  member_count-behind nil = refl
  member_count-behind (cons member members) = ap suc (member_count-behind members)

  mutual
    pub long-behind : (term : Term) → HasLongSequences term → HasLongSequences (behind tags term)
    long-behind empty long = tt
    long-behind (class ranges) long = tt
    long-behind any_unit long = tt
    long-behind (cat members) long =
        let same = member_count-behind members in let two = long.0 in (omega (arith, same, two), long-all_behind members long.1)
    long-behind (alt members) long = long-all_behind members long
    long-behind (repeat body low high) long = long-behind body long
    long-behind (tag number) long = tt
    long-behind (group opening closing body) long = long-behind body long

    long-all_behind : (members : Terms) → HaveLongSequences members → HaveLongSequences (all_behind tags members)
    long-all_behind nil long = tt
    long-all_behind (cons member members) long = (long-behind member long.0, long-all_behind members long.1)

-- more members, and their sequences
pub member_count-append : (front back : List Term)
    → member_count (members_of (front ++ back)) ≡ member_count (members_of front) + member_count (members_of back)
member_count-append [] back = omega arith
member_count-append (term ∷ front) back = let later = member_count-append front back in omega (arith, later)

pub long-append : (front back : List Term) → HaveLongSequences (members_of front) → HaveLongSequences (members_of back)
    → HaveLongSequences (members_of (front ++ back))
long-append [] back here there = there
long-append (term ∷ front) back here there = (here.0, long-append front back here.1 there)
