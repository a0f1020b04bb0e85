-- What a tag has after values were given.
use Rattle.std.proofs.Common.{◌≡◌, ◌∙◌, sym, ap, subst, refl, ℕ, zero, suc, Bool, true, false, List, [], ◌∷◌, set, Option, Some, None, slice_get, if◌then◌else◌}
use Rattle.std.specs.List.{last_or}
use Rattle.std.specs.Option.{option_map}
use Rattle.std.proofs.lemmas.Bool.{false≢true}
use Rattle.lx_base.specs.Letters.{equal_words}
use Rattle.lx_ccode.proofs.Words.{equal_words-true}
use Rattle.lx_ccode.specs.Machine.{Value, tag_offset, tag_history}
use Rattle.lx_ccode.specs.NameSets.{first_place}
use Rattle.lx_step.specs.Given.{Given, after_value, after_values, histories_given, history_in, offset_in, offsets_given, with_item}

-- ---- items at places

slice_get-set_same : {A : Type 0} (items : List A) (place : ℕ) (item old : A) → slice_get items place ≡ Some old → slice_get (set items place item) place ≡ Some item
slice_get-set_same [] place item old e = absurd cc
slice_get-set_same (first ∷ items) zero item old e = refl
slice_get-set_same (first ∷ items) (suc place) item old e = slice_get-set_same items place item old e

slice_get-set_other : {A : Type 0} (items : List A) (place other : ℕ) (item : A) → (place ≡ other → ⊥) → slice_get (set items other item) place ≡ slice_get items place
slice_get-set_other [] place other item apart = refl
slice_get-set_other (first ∷ items) zero zero item apart = absurd (apart refl)
slice_get-set_other (first ∷ items) zero (suc other) item apart = refl
slice_get-set_other (first ∷ items) (suc place) zero item apart = refl
slice_get-set_other (first ∷ items) (suc place) (suc other) item apart = slice_get-set_other items place other item (λ same. apart (ap suc same))

slice_get-set_none : {A : Type 0} (items : List A) (place other : ℕ) (item : A) → slice_get items place ≡ None → slice_get (set items other item) place ≡ None
slice_get-set_none [] place other item e = e
slice_get-set_none (first ∷ items) zero other item e = absurd cc
slice_get-set_none (first ∷ items) (suc place) zero item e = e
slice_get-set_none (first ∷ items) (suc place) (suc other) item e = slice_get-set_none items place other item e

-- ---- items of names

abbrev item_at : {A : Type 0} → Option ℕ → List A → Option A
item_at None items = None
item_at (Some place) items = slice_get items place

later : (found : Option ℕ) (place : ℕ) → option_map suc found ≡ Some (suc place) → found ≡ Some place
later None place e = absurd cc
later (Some other) place e = let same : other ≡ place = cc in ap Some same

not_first : (found : Option ℕ) → (option_map suc found ≡ Some 0 → ⊥)
not_first None e = cc
not_first (Some other) e = cc

-- two words have two places
first_place-apart : (names : List (List ℕ)) (other tag : List ℕ) (place : ℕ) → equal_words other tag ≡ false → first_place names other ≡ Some place → first_place names tag ≡ Some place → ⊥
first_place-apart [] other tag place differ p q = cc
first_place-apart (name ∷ names) other tag place differ p q = by (equal_words name other) refl (equal_words name tag) refl p q (first_place-apart names other tag) where
  by : (a : Bool) → equal_words name other ≡ a → (b : Bool) → equal_words name tag ≡ b → first_place (name ∷ names) other ≡ Some place → first_place (name ∷ names) tag ≡ Some place
      → ((place : ℕ) → equal_words other tag ≡ false → first_place names other ≡ Some place → first_place names tag ≡ Some place → ⊥) → ⊥
  by true is true also p q on = false≢true (sym differ ∙ ap (λ word. equal_words word tag) (sym (equal_words-true name other is)) ∙ also)
  by true is false also p q on = not_first (first_place names tag) (rw also at q ∙ sym (rw is at p))
  by false is true also p q on = not_first (first_place names other) (rw is at p ∙ sym (rw also at q))
  by false is false also p q on = deeper place (rw is at p) (rw also at q) where
    deeper : (place : ℕ) → option_map suc (first_place names other) ≡ Some place → option_map suc (first_place names tag) ≡ Some place → ⊥
    deeper zero p q = not_first (first_place names other) p
    deeper (suc place) p q = on place differ (later (first_place names other) place p) (later (first_place names tag) place q)

module _ {A : Type 0} (names : List (List ℕ)) (items : List A) where
  same-item : (tag : List ℕ) (item old : A) → item_at (first_place names tag) items ≡ Some old → item_at (first_place names tag) (with_item (first_place names tag) item items) ≡ Some item
  same-item tag item old e = by (first_place names tag) e where
    by : (found : Option ℕ) → item_at found items ≡ Some old → item_at found (with_item found item items) ≡ Some item
    by None e = absurd cc
    by (Some place) e = slice_get-set_same items place item old e

  other-item : (other tag : List ℕ) (item : A) → equal_words other tag ≡ false → item_at (first_place names tag) (with_item (first_place names other) item items) ≡ item_at (first_place names tag) items
  other-item other tag item differ = by (first_place names tag) (first_place names other) refl refl where
    by : (found another : Option ℕ) → first_place names tag ≡ found → first_place names other ≡ another → item_at found (with_item another item items) ≡ item_at found items
    by None another p q = refl
    by (Some place) None p q = refl
    by (Some place) (Some at) p q = slice_get-set_other items place at item (λ same. first_place-apart names other tag place differ (q ∙ ap Some (sym same)) p)

  none-item : (other tag : List ℕ) (item : A) → item_at (first_place names tag) items ≡ None → item_at (first_place names tag) (with_item (first_place names other) item items) ≡ None
  none-item other tag item e = by (first_place names tag) (first_place names other) e where
    by : (found another : Option ℕ) → item_at found items ≡ None → item_at found (with_item another item items) ≡ None
    by None another e = refl
    by (Some place) None e = e
    by (Some place) (Some at) e = slice_get-set_none items place at item e

-- ---- offsets

module _ (names : List (List ℕ)) where
  offset_in-item : (given : Given) (tag : List ℕ) → offset_in names given tag ≡ item_at (first_place names tag) given.offsets
  offset_in-item given tag = by (first_place names tag) where
    by : (found : Option ℕ) → elim found [ None ↦ None | Some number ↦ slice_get given.offsets number ] ≡ item_at found given.offsets
    by None = refl
    by (Some place) = refl

  history_in-item : (given : Given) (tag : List ℕ) → history_in names given tag ≡ item_at (first_place names tag) given.histories
  history_in-item given tag = by (first_place names tag) where
    by : (found : Option ℕ) → elim found [ None ↦ None | Some number ↦ slice_get given.histories number ] ≡ item_at found given.histories
    by None = refl
    by (Some place) = refl

pub offset_in-given : (names : List (List ℕ)) (values : List Value) (given : Given) (tag : List ℕ) (before : Option ℕ) → offset_in names given tag ≡ Some before
    → offset_in names (after_values names values given) tag ≡ last_or (Some before) (offsets_given tag values)
offset_in-given names [] given tag before e = e
offset_in-given names (tag_offset other value ∷ values) given tag before e = by (equal_words other tag) refl (offset_in-given names values (after_value names (tag_offset other value) given) tag) where
  after : Option (Option ℕ)
  after = offset_in names (after_values names values (after_value names (tag_offset other value) given)) tag

  by : (same : Bool) → equal_words other tag ≡ same
      → ((last : Option ℕ) → offset_in names (after_value names (tag_offset other value) given) tag ≡ Some last → after ≡ last_or (Some last) (offsets_given tag values))
      → after ≡ last_or (Some before) (if same then value ∷ offsets_given tag values else offsets_given tag values)
  by true same next =
      next value (subst (λ (word : List ℕ). offset_in names (after_value names (tag_offset word value) given) tag ≡ Some value) (sym (equal_words-true other tag same))
      (offset_in-item names (after_value names (tag_offset tag value) given) tag ∙ same-item names given.offsets tag value before (sym (offset_in-item names given tag) ∙ e)))
  by false same next =
      next before (offset_in-item names (after_value names (tag_offset other value) given) tag ∙ other-item names given.offsets other tag value same ∙ sym (offset_in-item names given tag) ∙ e)
offset_in-given names (value ∷ values) given tag before e = offset_in-given names values (after_value names value given) tag before e

pub offset_in-none : (names : List (List ℕ)) (values : List Value) (given : Given) (tag : List ℕ) → offset_in names given tag ≡ None → offset_in names (after_values names values given) tag ≡ None
offset_in-none names [] given tag e = e
offset_in-none names (tag_offset other value ∷ values) given tag e =
    offset_in-none names values (after_value names (tag_offset other value) given) tag
    (offset_in-item names (after_value names (tag_offset other value) given) tag ∙ none-item names given.offsets other tag value (sym (offset_in-item names given tag) ∙ e))
offset_in-none names (value ∷ values) given tag e = offset_in-none names values (after_value names value given) tag e

-- ---- histories

pub history_in-given : (names : List (List ℕ)) (values : List Value) (given : Given) (tag : List ℕ) (before : List (Option ℕ)) → history_in names given tag ≡ Some before
    → history_in names (after_values names values given) tag ≡ last_or (Some before) (histories_given tag values)
history_in-given names [] given tag before e = e
history_in-given names (tag_history other value ∷ values) given tag before e = by (equal_words other tag) refl (history_in-given names values (after_value names (tag_history other value) given) tag) where
  after : Option (List (Option ℕ))
  after = history_in names (after_values names values (after_value names (tag_history other value) given)) tag

  by : (same : Bool) → equal_words other tag ≡ same
      → ((last : List (Option ℕ)) → history_in names (after_value names (tag_history other value) given) tag ≡ Some last → after ≡ last_or (Some last) (histories_given tag values))
      → after ≡ last_or (Some before) (if same then value ∷ histories_given tag values else histories_given tag values)
  by true same next =
      next value (subst (λ (word : List ℕ). history_in names (after_value names (tag_history word value) given) tag ≡ Some value) (sym (equal_words-true other tag same))
      (history_in-item names (after_value names (tag_history tag value) given) tag ∙ same-item names given.histories tag value before (sym (history_in-item names given tag) ∙ e)))
  by false same next =
      next before (history_in-item names (after_value names (tag_history other value) given) tag ∙ other-item names given.histories other tag value same ∙ sym (history_in-item names given tag) ∙ e)
history_in-given names (value ∷ values) given tag before e = history_in-given names values (after_value names value given) tag before e

pub history_in-none : (names : List (List ℕ)) (values : List Value) (given : Given) (tag : List ℕ) → history_in names given tag ≡ None → history_in names (after_values names values given) tag ≡ None
history_in-none names [] given tag e = e
history_in-none names (tag_history other value ∷ values) given tag e =
    history_in-none names values (after_value names (tag_history other value) given) tag
    (history_in-item names (after_value names (tag_history other value) given) tag ∙ none-item names given.histories other tag value (sym (history_in-item names given tag) ∙ e))
history_in-none names (value ∷ values) given tag e = history_in-none names values (after_value names value given) tag e
