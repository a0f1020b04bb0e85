-- Ascending lists of tags: the order in which they are put together does not count.
use Rattle.std.proofs.Common.{◌≡◌, ℕ, suc, ◌<◌, ◌≤◌, ◌⊎◌, arith, Bool, true, false, List, [], ◌∷◌, ◌++◌, length, get_or, take, drop, refl, sym, ap, ap₂, ◌∙◌, subst, append_assoc, append-nil, eq-eqb, le-leb, inl, inr, ⊎_elim}
use Rattle.std.proofs.Math.ListN.{drop_of_length-le}
use Rattle.std.proofs.Math.Seq.{take-suc, drop-cons}
use Rattle.std.proofs.lemmas.Bool.{cases_lt, eqb-true, lt-leb}
use Rattle.std.proofs.lemmas.List.{take_all}
use Rattle.std.specs.Prelude.{nat_eq, if◌then◌else◌}
use Rattle.lx_regex.specs.Script.{put_tag, merge_tags}
use Rattle.lx_tnfa.specs.TagLists.{remove_tag, remove_tags}

-- a tag is put before the first one that is not less
put-before : (n x : ℕ) (l : List ℕ) → n ≤ x → put_tag n (x ∷ l) ≡ n ∷ x ∷ l
put-before n x l le = ap (λ b. if b then n ∷ x ∷ l else x ∷ put_tag n l) (le-leb n x le)

put-behind : (n x : ℕ) (l : List ℕ) → x < n → put_tag n (x ∷ l) ≡ x ∷ put_tag n l
put-behind n x l lt = ap (λ b. if b then n ∷ x ∷ l else x ∷ put_tag n l) (lt-leb n x lt)

put_put_lt : (m n : ℕ) (l : List ℕ) → m < n → put_tag m (put_tag n l) ≡ put_tag n (put_tag m l)
put_put_lt m n [] lt = put-before m n [] (omega arith) ∙ sym (put-behind n m [] lt)
put_put_lt m n (x ∷ l) lt = at (put_put_lt m n l lt) (cases_lt x n) (cases_lt x m)
  where
    at : put_tag m (put_tag n l) ≡ put_tag n (put_tag m l) → (x < n) ⊎ (n ≤ x) → (x < m) ⊎ (m ≤ x)
        → put_tag m (put_tag n (x ∷ l)) ≡ put_tag n (put_tag m (x ∷ l))
    at more (inr le) (inl less) = absurd (omega arith)
    at more (inr le) (inr le') =
        ap (put_tag m) (put-before n x l le) ∙ put-before m n (x ∷ l) (omega arith)
        ∙ sym (ap (put_tag n) (put-before m x l le') ∙ put-behind n m (x ∷ l) lt ∙ ap (λ k. m ∷ k) (put-before n x l le))
    at more (inl less) (inr le') =
        ap (put_tag m) (put-behind n x l less) ∙ put-before m x (put_tag n l) le'
        ∙ sym (ap (put_tag n) (put-before m x l le') ∙ put-behind n m (x ∷ l) lt ∙ ap (λ k. m ∷ k) (put-behind n x l less))
    at more (inl less) (inl less') =
        ap (put_tag m) (put-behind n x l less) ∙ put-behind m x (put_tag n l) less' ∙ ap (λ k. x ∷ k) more
        ∙ sym (ap (put_tag n) (put-behind m x l less') ∙ put-behind n x (put_tag m l) less)

put_put : (m n : ℕ) (l : List ℕ) → put_tag m (put_tag n l) ≡ put_tag n (put_tag m l)
put_put m n l = at (cases_lt m n)
  where
    same : (a b : ℕ) → a ≡ b → put_tag a (put_tag b l) ≡ put_tag b (put_tag a l)
    same a b e = subst (λ k. put_tag a (put_tag k l) ≡ put_tag k (put_tag a l)) e refl

    at : (m < n) ⊎ (n ≤ m) → put_tag m (put_tag n l) ≡ put_tag n (put_tag m l)
    at (inl lt) = put_put_lt m n l lt
    at (inr le) = ⊎_elim (λ lt. sym (put_put_lt n m l lt)) (λ le'. same m n (omega arith)) (cases_lt n m)

merge-put : (n : ℕ) (l more : List ℕ) → merge_tags (put_tag n l) more ≡ put_tag n (merge_tags l more)
merge-put n [] more = refl
merge-put n (x ∷ l) more = at (merge-put n l more) (cases_lt x n)
  where
    at : merge_tags (put_tag n l) more ≡ put_tag n (merge_tags l more) → (x < n) ⊎ (n ≤ x)
        → merge_tags (put_tag n (x ∷ l)) more ≡ put_tag n (put_tag x (merge_tags l more))
    at e (inl lt) =
        ap (λ k. merge_tags k more) (put-behind n x l lt) ∙ ap (put_tag x) e ∙ put_put x n (merge_tags l more)
    at e (inr le) = ap (λ k. merge_tags k more) (put-before n x l le)

pub merge_assoc : (a b c : List ℕ) → merge_tags (merge_tags a b) c ≡ merge_tags a (merge_tags b c)
merge_assoc [] b c = refl
merge_assoc (n ∷ a) b c = merge-put n (merge_tags a b) c ∙ ap (put_tag n) (merge_assoc a b c)

put_merge : (n : ℕ) (b c : List ℕ) → put_tag n (merge_tags b c) ≡ merge_tags b (put_tag n c)
put_merge n [] c = refl
put_merge n (x ∷ b) c = put_put n x (merge_tags b c) ∙ ap (put_tag x) (put_merge n b c)

pub merge_swap : (a b c : List ℕ) → merge_tags a (merge_tags b c) ≡ merge_tags b (merge_tags a c)
merge_swap [] b c = refl
merge_swap (n ∷ a) b c = ap (put_tag n) (merge_swap a b c) ∙ put_merge n b (merge_tags a c)

-- tags of a member and then those of the others, put into a list
pub merge_more : (a b list : List ℕ) → merge_tags (merge_tags a b) list ≡ merge_tags b (merge_tags a list)
merge_more a b list = merge_assoc a b list ∙ merge_swap a b list

remove-here : (n x : ℕ) (l : List ℕ) → x ≡ n → remove_tag n (x ∷ l) ≡ l
remove-here n x l e = ap (λ b. if b then l else x ∷ remove_tag n l) (eq-eqb x n e)

remove-on : (n x : ℕ) (l : List ℕ) → (x ≡ n → ⊥) → remove_tag n (x ∷ l) ≡ x ∷ remove_tag n l
remove-on n x l ne = at (nat_eq x n) refl
  where
    at : (b : Bool) → nat_eq x n ≡ b → remove_tag n (x ∷ l) ≡ x ∷ remove_tag n l
    at true e = absurd (ne (eqb-true x n e))
    at false e = ap (λ b. if b then l else x ∷ remove_tag n l) e

remove-put : (n : ℕ) (l : List ℕ) → remove_tag n (put_tag n l) ≡ l
remove-put n [] = remove-here n n [] refl
remove-put n (x ∷ l) = at (remove-put n l) (cases_lt x n)
  where
    at : remove_tag n (put_tag n l) ≡ l → (x < n) ⊎ (n ≤ x) → remove_tag n (put_tag n (x ∷ l)) ≡ x ∷ l
    at e (inl lt) = ap (remove_tag n) (put-behind n x l lt) ∙ remove-on n x (put_tag n l) (λ same. omega arith) ∙ ap (λ k. x ∷ k) e
    at e (inr le) = ap (remove_tag n) (put-before n x l le) ∙ remove-here n n (x ∷ l) refl

-- what was put in can be taken out again
pub remove-merge : (tags list : List ℕ) → remove_tags tags (merge_tags tags list) ≡ list
remove-merge [] list = refl
remove-merge (n ∷ tags) list = ap (remove_tags tags) (remove-put n (merge_tags tags list)) ∙ remove-merge tags list

-- what a loop passes over stays in front
passed : (f : List ℕ → List ℕ) (list : List ℕ) (i x : ℕ) → i < length list → x ≡ get_or list i x
    → f (x ∷ drop (suc i) list) ≡ x ∷ f (drop (suc i) list) → f list ≡ take i list ++ f (drop i list)
    → f list ≡ take (suc i) list ++ f (drop (suc i) list)
passed f list i x lt is on so =
    so ∙ ap (λ l. take i list ++ f l) (drop-cons list i x lt ∙ ap (λ y. y ∷ drop (suc i) list) (sym is))
    ∙ ap (λ l. take i list ++ l) on
    ∙ sym (append_assoc (take i list) (x ∷ []) (f (drop (suc i) list)))
    ∙ ap (λ l. l ++ f (drop (suc i) list)) (ap (λ y. take i list ++ y ∷ []) is ∙ sym (take-suc list i x lt))

next_is : (list : List ℕ) (i x : ℕ) → i < length list → x ≡ get_or list i x → drop i list ≡ x ∷ drop (suc i) list
next_is list i x lt is = drop-cons list i x lt ∙ ap (λ y. y ∷ drop (suc i) list) (sym is)

pub put_here : (n : ℕ) (list : List ℕ) (i x : ℕ) → i < length list → x ≡ get_or list i x → n ≤ x
    → put_tag n list ≡ take i list ++ put_tag n (drop i list) → put_tag n list ≡ take i list ++ n ∷ drop i list
put_here n list i x lt is le so =
    so ∙ ap (λ l. take i list ++ l)
    (ap (put_tag n) (next_is list i x lt is) ∙ put-before n x (drop (suc i) list) le ∙ ap (λ l. n ∷ l) (sym (next_is list i x lt is)))

pub put_last : (n : ℕ) (list : List ℕ) (i : ℕ) → length list ≤ i → put_tag n list ≡ take i list ++ put_tag n (drop i list)
    → put_tag n list ≡ list ++ n ∷ []
put_last n list i le so = so ∙ ap₂ (λ a b. a ++ put_tag n b) (take_all i list le) (drop_of_length-le list le)

pub remove_at : (n : ℕ) (list : List ℕ) (i x : ℕ) → i < length list → x ≡ get_or list i x → x ≡ n
    → remove_tag n list ≡ take i list ++ remove_tag n (drop i list) → remove_tag n list ≡ take i list ++ drop (suc i) list
remove_at n list i x lt is same so =
    so ∙ ap (λ l. take i list ++ l) (ap (remove_tag n) (next_is list i x lt is) ∙ remove-here n x (drop (suc i) list) same)

pub remove_none : (n : ℕ) (list : List ℕ) (i : ℕ) → length list ≤ i → remove_tag n list ≡ take i list ++ remove_tag n (drop i list)
    → remove_tag n list ≡ list
remove_none n list i le so =
    so ∙ ap₂ (λ a b. a ++ remove_tag n b) (take_all i list le) (drop_of_length-le list le) ∙ append-nil list

-- the first of some tags is put into a list before the others
pub merge_next : (tags : List ℕ) (i : ℕ) (list all : List ℕ) → i < length tags → merge_tags (drop i tags) list ≡ all
    → merge_tags (drop (suc i) tags) (put_tag (get_or tags i 0) list) ≡ all
merge_next tags i list all lt so =
    sym (put_merge (get_or tags i 0) (drop (suc i) tags) list) ∙ ap (λ l. merge_tags l list) (sym (drop-cons tags i 0 lt)) ∙ so
