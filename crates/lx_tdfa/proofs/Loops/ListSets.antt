-- Lists in sets.
use Rattle.std.proofs.Common.{◌≡◌, ℕ, ◌+◌, ◌<◌, ◌≤◌, max, arith, Bool, true, false, not, List, [], ◌∷◌, ◌++◌, length, Vec, refl, sym, ap, ◌∙◌, inl, inr, Some, subst, slice_get}
use Rattle.std.specs.Bool.{Decides, MatchBool}
use Rattle.std.specs.Cmp.Lexicographic.{pointwise, pointwise_decides}
use Rattle.std.specs.List.{list_any}
use Rattle.std.specs.Option.{option_map}
use Rattle.std.specs.Prelude.{AllPairs, Contains, ◌≢◌, ◌⊎◌, sum_by, if◌then◌else◌}
use Rattle.std.proofs.lemmas.Bool.{cases_lt}
use Rattle.std.proofs.lemmas.Bool.Decides.{when_true, when_false}
use Rattle.std.proofs.lemmas.List.{get_or_append_left, get_or_default, get_or_push, length_push}
use Rattle.std.proofs.lemmas.List.Sums.{sum_by_push}
use Rattle.std.proofs.lemmas.Option.{slice_get-map}
use Rattle.lx_tnfa.specs.Equality.{TellsEqual}
use Rattle.lx_tdfa.specs.Making.{Adds, lists_of, most_places}
use Rattle.lx_tnfa.proofs.Searching.SetMembers.{added}

Decides-pointwise : {P : Type 0} (same : P → P → Bool) → TellsEqual same → (list other : List P) → Decides (pointwise same list other) (list ≡ other)
Decides-pointwise same tells = pointwise_decides (λ place other. (tells.equal place other, tells.itself place other))

-- what a set of lists says of itself
abbrev pub AreKept : {P : Type 0} → (lists : List (List P)) → (places most : ℕ) → Type 0
AreKept lists places most = (places ≡ sum_by length lists) × (most ≡ most_places lists)

most_places-push : {P : Type 0} (lists : List (List P)) (list : List P) → most_places (lists ++ list ∷ []) ≡ max (most_places lists) (length list)
most_places-push [] list = omega arith
most_places-push (other ∷ lists) list =
    let later : most_places (lists ++ list ∷ []) ≡ max (most_places lists) (length list) = most_places-push lists list in
    omega arith

-- lists that are all different, and one that is not among them
pub apart-push : {P : Type 0} (lists : List (List P)) (list : List P) → ¬ Contains lists list → AllPairs (λ list other. list ≢ other) lists
    → AllPairs (λ list other. list ≢ other) (lists ++ list ∷ [])
apart-push lists list absent apart i j d lt within e = at (cases_lt j (length lists))
  where
    at : (j < length lists) ⊎ (length lists ≤ j) → ⊥
    at (inl inside) =
        apart i j d lt inside (sym (get_or_append_left lists (list ∷ []) d i (omega arith)) ∙ e ∙ get_or_append_left lists (list ∷ []) d j inside)
    at (inr past) =
        let last : length lists ≡ j = omega (arith, length_push lists list) in
        absent (
          i,
          omega arith,
          get_or_default lists i list d (omega arith)
              ∙ sym (get_or_append_left lists (list ∷ []) d i (omega arith)) ∙ e ∙ get_or_push lists list d j last,
        )

kept-push : {P : Type 0} (lists : List (List P)) (list : List P) (places most count : ℕ) → AreKept lists places most → count ≡ length list
    → AreKept (lists ++ list ∷ []) (places + count) (max most count)
kept-push {P} lists list places most count kept counted =
    (omega (arith, sum_by_push {X = List P} length lists list, kept.0), omega (arith, most_places-push lists list, kept.1))

module _ {P A : Type 0} (same : P → P → Bool) (old new : List (Vec P A)) (list : Vec P A) (fresh : Bool)
    (told : fresh ≡ not (list_any (λ (other : Vec P A). pointwise same list.items other.items) old))
    (keys : new ≡ (if list_any (λ (other : Vec P A). pointwise same list.items other.items) old then old else old ++ list ∷ [])) where
  insertion : TellsEqual same
      → MatchBool fresh (¬ Contains (lists_of old) list.items × (new ≡ old ++ list ∷ [])) (Contains (lists_of old) list.items × (new ≡ old))
  insertion tells =
      added (λ (list : Vec P A). list.items) (λ (list other : Vec P A). pointwise same list.items other.items)
      (λ list other. (Decides-pointwise same tells list.items other.items).0) (λ list other. (Decides-pointwise same tells list.items other.items).1) old new list fresh told keys

  is_absent : TellsEqual same → fresh ≡ true → ¬ Contains (lists_of old) list.items
  is_absent tells e = (when_true _ _ e (insertion tells)).0

  -- whether a list that is put was there
  pub put_told : TellsEqual same → MatchBool fresh (¬ Contains (lists_of old) list.items) (Contains (lists_of old) list.items)
  put_told tells = by fresh refl
    where
      by : (b : Bool) → fresh ≡ b → MatchBool b (¬ Contains (lists_of old) list.items) (Contains (lists_of old) list.items)
      by true e = is_absent tells e
      by false e = (when_false _ _ e (insertion tells)).0

-- what stands in the set at the index of an equal list
pub stored_list : {P A : Type 0} (same : P → P → Bool) → TellsEqual same → (new : List (Vec P A)) (list : List P) (index : ℕ)
    → (there : Vec P A) × (slice_get new index ≡ Some there) × (pointwise same list there.items ≡ true)
    → slice_get (lists_of new) index ≡ Some list
stored_list {P} {A} same tells new list index there =
    slice_get-map (λ (list : Vec P A). list.items) new index
    ∙ ap (λ o. option_map (λ (list : Vec P A). list.items) o) there.1
    ∙ ap Some (sym ((Decides-pointwise same tells list there.0.items).0 there.2))

-- a list that was put came behind the others, or was there
pub put_adds : {P : Type 0} (old new : List (List P)) (list : List P) (fresh : Bool) → MatchBool fresh (new ≡ old ++ list ∷ []) (new ≡ old)
    → MatchBool fresh (¬ Contains old list) (Contains old list) → Adds old list new
put_adds old new list true lists told = inr (lists, told)
put_adds old new list false lists told = inl (lists, told)

-- what a set of lists says of itself stays so, with what a new list has
pub kept_put : {P : Type 0} (old new : List (List P)) (list : List P) (fresh : Bool) (places most count : ℕ) → fresh ≡ true
    → MatchBool fresh (new ≡ old ++ list ∷ []) (new ≡ old) → AreKept old places most → count ≡ length list → AreKept new (places + count) (max most count)
kept_put {P} old new list fresh places most count is lists kept counted =
    subst (λ (lists : List (List P)). AreKept lists (places + count) (max most count)) (sym (when_true _ _ is lists))
    (kept-push old list places most count kept counted)
