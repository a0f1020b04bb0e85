-- Lists whose elements stand for those of others, and tests of lists.
use Rattle.std.proofs.Common.{◌≡◌, Bool, true, false, List, [], ◌∷◌, ◌++◌, refl, sym, ap, ◌∙◌}
use Rattle.std.specs.Prelude.{◌||◌, ◌&&◌, if◌then◌else◌}
use Rattle.std.specs.List.{AllZip, filter, list_any}

module _ {A : Type 0} (test : A → Bool) where
  -- nothing passes
  pub filter-none : (items : List A) → list_any test items ≡ false → filter test items ≡ []
  filter-none [] none = refl
  filter-none (item ∷ items) none = at (test item) refl none (filter-none items)
    where
      at : (b : Bool) → test item ≡ b → (b || list_any test items) ≡ false → (list_any test items ≡ false → filter test items ≡ [])
          → filter test (item ∷ items) ≡ []
      at true e found later = absurd (let h : true ≡ false = found in cc)
      at false e found later = rw (e) (later found)

  -- something passes, and so one element
  pub filter-some : {B : Type 0} (items : List A) → list_any test items ≡ true → filter test items ≡ [] → B
  filter-some [] some none = absurd (let h : false ≡ true = some in cc)
  filter-some (item ∷ items) some none = at (test item) refl some none (filter-some items)
    where
      at : {B : Type 0} (b : Bool) → test item ≡ b → (b || list_any test items) ≡ true
          → (if b then item ∷ filter test items else filter test items) ≡ [] → (list_any test items ≡ true → filter test items ≡ [] → B) → B
      at true e found empty later = absurd (let h = empty in cc)
      at false e found empty later = later found empty

  -- one test behind another
  pub filter-filter : (other : A → Bool) (items : List A) → filter test (filter other items) ≡ filter (λ item. test item && other item) items
  filter-filter other [] = refl
  filter-filter other (item ∷ items) = at (other item) (test item) refl refl (filter-filter other items)
    where
      at : (o t : Bool) → other item ≡ o → test item ≡ t → filter test (filter other items) ≡ filter (λ item. test item && other item) items
          → filter test (filter other (item ∷ items)) ≡ filter (λ item. test item && other item) (item ∷ items)
      at true true e f later = rw (e, f) (ap (λ l. item ∷ l) later)
      at true false e f later = rw (e, f) later
      at false true e f later = rw (e, f) later
      at false false e f later = rw (e, f) later

-- a test that another one follows from
pub list_any-weaker : {A : Type 0} (test other : A → Bool) → ((item : A) → test item ≡ true → other item ≡ true) → (items : List A)
    → list_any other items ≡ false → list_any test items ≡ false
list_any-weaker test other follows [] none = refl
list_any-weaker test other follows (item ∷ items) none = at (test item) refl (other item) refl none (list_any-weaker test other follows items)
  where
    at : (t : Bool) → test item ≡ t → (o : Bool) → other item ≡ o → (o || list_any other items) ≡ false
        → (list_any other items ≡ false → list_any test items ≡ false) → (t || list_any test items) ≡ false
    at t e true f found later = absurd (let h : true ≡ false = found in cc)
    at true e false f found later = absurd (let h : false ≡ true = sym f ∙ follows item e in cc)
    at false e false f found later = later found

-- lists whose elements stand for those of others
module _ {A B : Type 0} (R : A → B → Type 0) where
  pub zip-append : (front back : List A) (others more : List B) → AllZip R front others → AllZip R back more → AllZip R (front ++ back) (others ++ more)
  zip-append [] back [] more one two = two
  zip-append [] back (other ∷ others) more one two = absurd one
  zip-append (item ∷ front) back [] more one two = absurd one
  zip-append (item ∷ front) back (other ∷ others) more one two = (one.0, zip-append front back others more one.1 two)

  -- they stand for them in another way too
  pub zip-so : (S : A → B → Type 0) → ((item : A) (other : B) → R item other → S item other) → (items : List A) (others : List B)
      → AllZip R items others → AllZip S items others
  zip-so S so [] [] all = tt
  zip-so S so [] (other ∷ others) all = absurd all
  zip-so S so (item ∷ items) [] all = absurd all
  zip-so S so (item ∷ items) (other ∷ others) all = (so item other all.0, zip-so S so items others all.1)

  -- two lists that stand for one
  pub zip-both : {C : Type 0} (S : A → C → Type 0) (T : C → B → Type 0) → ((item : A) (other : B) (third : C) → R item other → S item third → T third other)
      → (items : List A) (others : List B) (thirds : List C) → AllZip R items others → AllZip S items thirds → AllZip T thirds others
  zip-both S T so [] [] [] one two = tt
  zip-both S T so [] [] (third ∷ thirds) one two = absurd two
  zip-both S T so [] (other ∷ others) thirds one two = absurd one
  zip-both S T so (item ∷ items) [] thirds one two = absurd one
  zip-both S T so (item ∷ items) (other ∷ others) [] one two = absurd two
  zip-both S T so (item ∷ items) (other ∷ others) (third ∷ thirds) one two =
      (so item other third one.0 two.0, zip-both S T so items others thirds one.1 two.1)

  module _ (test : A → Bool) (other_test : B → Bool) (same : (item : A) (other : B) → R item other → test item ≡ other_test other) where
    -- those that pass a test
    pub zip-passes : (items : List A) (others : List B) → AllZip R items others
        → AllZip (λ item other. R item other × (other_test other ≡ true)) (filter test items) (filter other_test others)
    zip-passes [] [] all = tt
    zip-passes [] (other ∷ others) all = absurd all
    zip-passes (item ∷ items) [] all = absurd all
    zip-passes (item ∷ items) (other ∷ others) all =
        at (test item) (other_test other) refl refl (same item other all.0) (zip-passes items others all.1)
      where
        at : (t o : Bool) → test item ≡ t → other_test other ≡ o → test item ≡ other_test other
            → AllZip (λ item other. R item other × (other_test other ≡ true)) (filter test items) (filter other_test others)
            → AllZip (λ item other. R item other × (other_test other ≡ true)) (filter test (item ∷ items)) (filter other_test (other ∷ others))
        at true true e f agree later = rw (e, f) ((all.0, f), later)
        at true false e f agree later = absurd (let h : true ≡ false = sym e ∙ agree ∙ f in cc)
        at false true e f agree later = absurd (let h : false ≡ true = sym e ∙ agree ∙ f in cc)
        at false false e f agree later = rw (e, f) later

    pub zip-any : (items : List A) (others : List B) → AllZip R items others → list_any test items ≡ list_any other_test others
    zip-any [] [] all = refl
    zip-any [] (other ∷ others) all = absurd all
    zip-any (item ∷ items) [] all = absurd all
    zip-any (item ∷ items) (other ∷ others) all =
        ap (λ b. b || list_any test items) (same item other all.0) ∙ ap (λ b. other_test other || b) (zip-any items others all.1)

module _ {A B : Type 0} (R : A → B → Type 0) (test : A → Bool) (other_test : B → Bool)
    (same : (item : A) (other : B) → R item other → test item ≡ other_test other) where
  pub zip-filter : (items : List A) (others : List B) → AllZip R items others → AllZip R (filter test items) (filter other_test others)
  zip-filter items others all =
      zip-so (λ item other. R item other × (other_test other ≡ true)) R (λ item other is. is.0) (filter test items) (filter other_test others)
      (zip-passes R test other_test same items others all)
