-- Tags in segments, one behind another.
use Rattle.std.proofs.Common.{◌≡◌, ℕ, zero, suc, ◌+◌, ◌<◌, Bool, true, false, List, [], ◌∷◌, ◌++◌, None, Some, refl, arith, get_or, length, take, sym, ap, ◌∙◌}
use Rattle.std.specs.Prelude.{◌||◌, Option, if◌then◌else◌, is_some, not}
use Rattle.std.specs.List.{AllByRecursion, flat_map, list_any}
use Rattle.std.specs.Str.{bytes_eq}
use Rattle.std.proofs.lemmas.List.{append-nil, take_more}
use Rattle.std.proofs.lemmas.List.Concat.{flat_map-append}
use Rattle.std.proofs.lemmas.List.Folds.{list_any-append}
use Rattle.std.proofs.lemmas.Slice.Eq.{bytes_eq-Decides}
use Rattle.lx_base.specs.declared.faults.Fault.{Fault}
use Rattle.lx_base.specs.declared.faults.Fault.TheVariants.{DuplicateTag}
use Rattle.lx_base.specs.declared.places.Pos.{Pos}
use Rattle.lx_base.proofs.Deciding.{IsEach}
use Rattle.lx_exprs.proofs.TagLists.TagIndexes.{is_tag_among-append}
use Rattle.lx_exprs.specs.Checks.{is_tag_among, repeated_tag}
use Rattle.lx_regex.specs.declared.rules.Tag.{Tag}

-- a fact of each member of two lists is one of each list
module _ {A : Type 0} (P : A → Type 0) where
  pub each_both : (front back : List A) → AllByRecursion P front → AllByRecursion P back → AllByRecursion P (front ++ back)
  each_both [] back one two = two
  each_both (name ∷ front) back one two = (one.0, each_both front back one.1 two)

  pub each_apart : (front back : List A) → AllByRecursion P (front ++ back) → AllByRecursion P front × AllByRecursion P back
  each_apart [] back all = (tt, all)
  each_apart (name ∷ front) back all = let later = each_apart front back all.1 in ((all.0, later.0), later.1)

or-true : (test : Bool) → (test || true) ≡ true
or-true true = refl
or-true false = refl

module _ {X : Type 0} (tags : X → List Tag) where
  -- one segment more
  pub flat_map-snoc : (segments : List X) (segment : X) → flat_map tags (segments ++ segment ∷ []) ≡ flat_map tags segments ++ tags segment
  flat_map-snoc segments segment =
      flat_map-append tags segments (segment ∷ []) ∙ ap (λ l. flat_map tags segments ++ l) (append-nil (tags segment))

  -- the next of the segments
  pub flat_map-next : (segments : List X) (i : ℕ) (d : X) → i < length segments
      → flat_map tags (take (i + 1) segments) ≡ flat_map tags (take i segments) ++ tags (get_or segments i d)
  flat_map-next segments i d lt = ap (flat_map tags) (take_more segments i d lt) ∙ flat_map-snoc (take i segments) (get_or segments i d)

  -- the names of the tags of one of the segments are among those of all
  pub among-segment : (name : List ℕ) (segments : List X) (i : ℕ) (d : X) → i < length segments → is_tag_among name (tags (get_or segments i d)) ≡ true
      → is_tag_among name (flat_map tags segments) ≡ true
  among-segment name [] i d lt is = absurd (omega (arith, lt))
  among-segment name (segment ∷ segments) zero d lt is =
      is_tag_among-append name (tags segment) (flat_map tags segments) ∙ ap (λ t. t || is_tag_among name (flat_map tags segments)) is
  among-segment name (segment ∷ segments) (suc i) d lt is =
      is_tag_among-append name (tags segment) (flat_map tags segments)
      ∙ ap (λ t. is_tag_among name (tags segment) || t) (among-segment name segments i d (omega (arith, lt)) is) ∙ or-true (is_tag_among name (tags segment))

  -- what holds of one of the tags of a segment
  pub any-segment : (test : Tag → Bool) (segments : List X) (i : ℕ) (d : X) → i < length segments
      → list_any test (tags (get_or segments i d)) ≡ true → list_any test (flat_map tags segments) ≡ true
  any-segment test [] i d lt is = absurd (omega (arith, lt))
  any-segment test (segment ∷ segments) zero d lt is =
      list_any-append test (tags segment) (flat_map tags segments) ∙ ap (λ t. t || list_any test (flat_map tags segments)) is
  any-segment test (segment ∷ segments) (suc i) d lt is =
      list_any-append test (tags segment) (flat_map tags segments)
      ∙ ap (λ t. list_any test (tags segment) || t) (any-segment test segments i d (omega (arith, lt)) is) ∙ or-true (list_any test (tags segment))

-- a fault in the front is the first one
pub repeated_tag-front : (at : Pos) (front back seen : List Tag) (fault : Fault) → repeated_tag at front seen ≡ Some fault
    → repeated_tag at (front ++ back) seen ≡ Some fault
repeated_tag-front at [] back seen fault is = cc
repeated_tag-front at (tag ∷ front) back seen fault is = by (is_tag_among tag.name seen) is (repeated_tag-front at front back seen fault)
  where
    by : (test : Bool) → (if test then Some (DuplicateTag at tag.name) else repeated_tag at front seen) ≡ Some fault
        → (repeated_tag at front seen ≡ Some fault → repeated_tag at (front ++ back) seen ≡ Some fault)
        → (if test then Some (DuplicateTag at tag.name) else repeated_tag at (front ++ back) seen) ≡ Some fault
    by true is later = is
    by false is later = later is

-- where there is none, it is that of the rest
pub repeated_tag-back : (at : Pos) (front back seen : List Tag) → repeated_tag at front seen ≡ None
    → repeated_tag at (front ++ back) seen ≡ repeated_tag at back seen
repeated_tag-back at [] back seen is = refl
repeated_tag-back at (tag ∷ front) back seen is = by (is_tag_among tag.name seen) is (repeated_tag-back at front back seen)
  where
    by : (test : Bool) → (if test then Some (DuplicateTag at tag.name) else repeated_tag at front seen) ≡ None
        → (repeated_tag at front seen ≡ None → repeated_tag at (front ++ back) seen ≡ repeated_tag at back seen)
        → (if test then Some (DuplicateTag at tag.name) else repeated_tag at (front ++ back) seen) ≡ repeated_tag at back seen
    by true is later = cc
    by false is later = later is

abbrev pub has_any : (tags others : List Tag) → Bool
has_any tags others = list_any (λ (other : Tag). is_tag_among other.name tags) others

either-left : (first second : Bool) → (first || second) ≡ false → first ≡ false
either-left true second is = is
either-left false second is = refl

either-right : (first second : Bool) → (first || second) ≡ false → second ≡ false
either-right true second is = cc
either-right false second is = is

neither : (first second : Bool) → first ≡ false → second ≡ false → (first || second) ≡ false
neither first second one two = ap (λ t. t || second) one ∙ two

-- names that are not the same either way
other_way : (name other : List ℕ) → bytes_eq name other ≡ false → bytes_eq other name ≡ false
other_way name other is = by (bytes_eq other name) refl
  where
    by : (test : Bool) → bytes_eq other name ≡ test → test ≡ false
    by true same = sym (ap (λ n. bytes_eq n other) (sym ((bytes_eq-Decides other name).0 same)) ∙ (bytes_eq-Decides other other).1 refl) ∙ is
    by false same = refl

-- where none of the tags that were seen has the name of the first tag, that was not seen
not_seen : (tag : Tag) (tags seen : List Tag) → has_any (tag ∷ tags) seen ≡ false → is_tag_among tag.name seen ≡ false
not_seen tag tags [] none = refl
not_seen tag tags (other ∷ seen) none =
    let here = either-left (is_tag_among other.name (tag ∷ tags)) (has_any (tag ∷ tags) seen) none in
    neither (bytes_eq tag.name other.name) (is_tag_among tag.name seen)
    (other_way other.name tag.name (either-left (bytes_eq other.name tag.name) (is_tag_among other.name tags) here))
    (not_seen tag tags seen (either-right (is_tag_among other.name (tag ∷ tags)) (has_any (tag ∷ tags) seen) none))

has_any-rest : (tag : Tag) (tags seen : List Tag) → has_any (tag ∷ tags) seen ≡ false → has_any tags seen ≡ false
has_any-rest tag tags [] none = refl
has_any-rest tag tags (other ∷ seen) none =
    let here = either-left (is_tag_among other.name (tag ∷ tags)) (has_any (tag ∷ tags) seen) none in
    neither (is_tag_among other.name tags) (has_any tags seen) (either-right (bytes_eq other.name tag.name) (is_tag_among other.name tags) here)
    (has_any-rest tag tags seen (either-right (is_tag_among other.name (tag ∷ tags)) (has_any (tag ∷ tags) seen) none))

-- no tag is repeated where none of the tags that were seen has the name of one of them
pub repeated_tag-apart : (at : Pos) (tags seen : List Tag) → has_any tags seen ≡ false → repeated_tag at tags seen ≡ None
repeated_tag-apart at [] seen none = refl
repeated_tag-apart at (tag ∷ tags) seen none =
    ap (λ test. if test then Some (DuplicateTag at tag.name) else repeated_tag at tags seen) (not_seen tag tags seen none)
    ∙ repeated_tag-apart at tags seen (has_any-rest tag tags seen none)

pub refused : (test : Bool) → not test ≡ true → test ≡ false
refused true is = sym is
refused false is = refl

-- a fault that is found in the front, or is not
pub repeated_tag-found : (at : Pos) (front back seen : List Tag) (found : Option Fault) → found ≡ repeated_tag at front seen → is_some found ≡ true
    → found ≡ repeated_tag at (front ++ back) seen
repeated_tag-found at front back seen None is some = absurd (let h : false ≡ true = some in cc)
repeated_tag-found at front back seen (Some fault) is some = sym (repeated_tag-front at front back seen fault (sym is))

pub repeated_tag-passed : (at : Pos) (front back seen : List Tag) (found : Option Fault) → found ≡ repeated_tag at front seen → is_some found ≡ false
    → repeated_tag at (front ++ back) seen ≡ repeated_tag at back seen
repeated_tag-passed at front back seen None is some = repeated_tag-back at front back seen (sym is)
repeated_tag-passed at front back seen (Some fault) is some = absurd (let h : true ≡ false = some in cc)

-- a fact of each tag, segment by segment
pub segment-each : {X : Type 0} (tags : X → List Tag) (P : Tag → Type 0)
    → IsEach (λ segment rest. AllByRecursion P (tags segment)) (λ segments. AllByRecursion P (flat_map tags segments))
segment-each tags P = record {
  join = λ segment rest here later. each_both P (tags segment) (flat_map tags rest) here later;
  head = λ segment rest all. (each_apart P (tags segment) (flat_map tags rest) all).0;
  tail = λ segment rest all. (each_apart P (tags segment) (flat_map tags rest) all).1;
}
