-- What the meanings of expressions have so that scanners can be built from them.
use Rattle.std.proofs.Common.{◌≡◌, ℕ, suc, ◌+◌, ◌*◌, ◌≤◌, max, Bool, true, false, List, [], ◌∷◌, ◌++◌, length, map, Option, None, Some, refl, sym, ap, ap₂, ◌∙◌, subst, arith, length-append}
use Rattle.std.specs.Prelude.{◌&&◌, nat_le, is_some}
use Rattle.std.specs.Option.{option_and_then}
use Rattle.std.specs.Str.{bytes_eq}
use Rattle.lx_base.specs.declared.settings.EmptyPolicy.{EmptyPolicy}
use Rattle.lx_base.specs.declared.settings.EmptyPolicy.TheVariants.{MatchEmpty, MatchNone, Error}
use Rattle.lx_base.specs.declared.settings.Enc.{Enc}
use Rattle.lx_base.specs.declared.settings.Options.{Options}
use Rattle.lx_class.specs.declared.ranges.Range.{Range}
use Rattle.lx_encode.specs.Policy.{FitsEncoding}
use Rattle.lx_regex.specs.Expr.{members_of, times}
use Rattle.lx_regex.specs.Limits.{HasLongSequences, HaveLongSequences, member_count, numbers_from}
use Rattle.lx_regex.specs.Script.{merge_tags, put_tag}
use Rattle.lx_regex.specs.Term.{Term, alt, cat, group}
use Rattle.lx_regex.specs.declared.rules.Tag.{Tag}
use Rattle.lx_token.specs.declared.numbers.Repeat.{Repeat}
use Rattle.lx_exprs.specs.Defined.{Before, Definition, Meaning, Shape, one, row, choice, and_more, class_in, count_of, definition_of, fits, is_built, kept, meant_class, whole, whole_room}
use Rattle.lx_exprs.specs.Meanings.{alternated, class_meaning, class_term, copied, enclosed, followed, grouped, in_choice, in_group, in_parentheses, in_row, parenthesized, repeated_by, set_term, shifted, string_meaning, string_term, tag_meaning, term_or_empty}
use Rattle.lx_exprs.specs.Within.{AreDefinedWithin, IsDefinedWithin, IsNumbered, IsPlain, ArePlain, ends_among, own_tags_among}
use Rattle.lx_exprs.proofs.Classes.ClassFits.{class_plain, plain-append, plain-shifted}
use Rattle.lx_exprs.proofs.Forms.ClassForms.{both_hold, is_some-both}
use Rattle.lx_exprs.proofs.Classes.ClassUnions.{class_in-choice}
use Rattle.lx_exprs.proofs.TagLists.TagNumbers.{ends_among-append, long-append, member_count-append, merge_tags-numbers, numbered-shifted, own_tags_among-append, put_tag-before}
use Rattle.lx_exprs.proofs.TagLists.TermTags.{class_in-shifted}
use Rattle.lx_exprs.proofs.Contents.ValueLimits.{at_least, both_of, grows, times-some}

-- The meaning of an expression behind others: its classes fit the encoding, a class has no tags and no groups, and within the
-- limits of a scanner its tags and groups are numbered in order.
pub record IsMeantWithin (enc : Enc) (before : Before) (meaning : Meaning) : Type 0 where
  pub plain : IsPlain enc (whole meaning.shape)
  pub count : meaning.count ≡ count_of (and_more before meaning.tags meaning.groups)
  pub untagged : is_some (meant_class meaning) ≡ true → (meaning.tags ≡ []) × (meaning.groups ≡ 0)
  pub numbered : is_built whole_room meaning ≡ true
      → IsNumbered (length before.tags) (length meaning.tags) (suc before.groups) meaning.groups (whole meaning.shape)

-- what stands in an expression that is built is built
pub built_part : (part around : Meaning) → part.size ≤ around.size → part.nesting ≤ around.nesting → part.count ≤ around.count
    → is_built whole_room around ≡ true → is_built whole_room part ≡ true
built_part part around size nesting count built = at (is_built whole_room part) refl
  where
    at : (b : Bool) → is_built whole_room part ≡ b → is_built whole_room part ≡ true
    at true e = e
    at false e = absurd (let h : false ≡ true = sym (grows whole_room part around size nesting count e) ∙ built in cc)

-- what is built is within the limit on tags
pub counted_few : (meaning : Meaning) → is_built whole_room meaning ≡ true → meaning.count ≤ 128
counted_few meaning built =
    let more = (both_of (nat_le meaning.size 4096) (nat_le meaning.nesting 256 && nat_le meaning.count 128) built).1 in
    let last = (both_of (nat_le meaning.nesting 256) (nat_le meaning.count 128) more).1 in search (arith, last)

no_class : {A : Type 0} → false ≡ true → A
no_class held = absurd (let h : false ≡ true = held in cc)

-- terms whose tags and groups are numbered in order
pub record AreNumbered (start count first groups : ℕ) (terms : List Term) : Type 0 where
  pub sequences : HaveLongSequences (members_of terms)
  pub tags : own_tags_among (members_of terms) ≡ numbers_from start count
  pub ends : ends_among (members_of terms) ≡ numbers_from (2 * first) (2 * groups)

pub numbered-one : (start count first groups : ℕ) (term : Term) → IsNumbered start count first groups term
    → AreNumbered start count first groups (term ∷ [])
numbered-one start count first groups term is = record {
  sequences = (is.sequences, tt);
  tags = ap (λ l. merge_tags l []) is.tags ∙ alone start count;
  ends = ap (λ l. merge_tags l []) is.ends ∙ alone (2 * first) (2 * groups);
}
  where
    alone : (number many : ℕ) → merge_tags (numbers_from number many) [] ≡ numbers_from number many
    alone number many =
        let all : many + 0 ≡ many = omega arith in merge_tags-numbers number many 0 ∙ ap (numbers_from number) all

pub numbered-append : (start count more first groups others : ℕ) (front back : List Term) → AreNumbered start count first groups front
    → AreNumbered (start + count) more (first + groups) others back → AreNumbered start (count + more) first (groups + others) (front ++ back)
numbered-append start count more first groups others front back here there =
    let next : 2 * (first + groups) ≡ 2 * first + 2 * groups = omega arith in
    let all : 2 * groups + 2 * others ≡ 2 * (groups + others) = omega arith in record {
      sequences = long-append front back here.sequences there.sequences;
      tags = own_tags_among-append front back ∙ ap₂ merge_tags here.tags there.tags ∙ merge_tags-numbers start count more;
      ends =
          ends_among-append front back ∙ ap₂ merge_tags here.ends (there.ends ∙ ap (λ n. numbers_from n (2 * others)) next)
          ∙ merge_tags-numbers (2 * first) (2 * groups) (2 * others) ∙ ap (numbers_from (2 * first)) all;
    }

in_row-numbered : (start count first groups : ℕ) (shape : Shape) → IsNumbered start count first groups (whole shape)
    → AreNumbered start count first groups (in_row shape)
in_row-numbered start count first groups (one term) is = numbered-one start count first groups term is
in_row-numbered start count first groups (row terms) is = record { sequences = is.sequences.1; tags = is.tags; ends = is.ends }
in_row-numbered start count first groups (choice terms) is = numbered-one start count first groups (alt (members_of terms)) is

in_choice-numbered : (start count first groups : ℕ) (shape : Shape) → IsNumbered start count first groups (whole shape)
    → AreNumbered start count first groups (in_choice shape)
in_choice-numbered start count first groups (one term) is = numbered-one start count first groups term is
in_choice-numbered start count first groups (row terms) is = numbered-one start count first groups (cat (members_of terms)) is
in_choice-numbered start count first groups (choice terms) is = record { sequences = is.sequences; tags = is.tags; ends = is.ends }

-- a group has its two ends before those of the groups in it
numbered_group : (start count number groups : ℕ) (term : Term) → IsNumbered start count (suc number) groups term
    → IsNumbered start count number (suc groups) (group (2 * number) (2 * number + 1) term)
numbered_group start count number groups term is = record {
  sequences = is.sequences;
  tags = is.tags;
  ends =
      let next : 2 * suc number ≡ suc (suc (2 * number)) = omega arith in
      let closing : 2 * number + 1 ≡ suc (2 * number) = omega arith in
      let all : suc (suc (2 * groups)) ≡ 2 * suc groups = omega arith in
      ap (λ l. put_tag (2 * number) (put_tag (2 * number + 1) l)) (is.ends ∙ ap (λ n. numbers_from n (2 * groups)) next)
      ∙ ap (λ n. put_tag (2 * number) (put_tag n (numbers_from (suc (suc (2 * number))) (2 * groups)))) closing
      ∙ ap (put_tag (2 * number)) (put_tag-before (suc (2 * number)) (2 * groups))
      ∙ put_tag-before (2 * number) (suc (2 * groups))
      ∙ ap (numbers_from (2 * number)) all;
}

-- a sequence has terms
in_row-some : (shape : Shape) → HasLongSequences (whole shape) → 1 ≤ member_count (members_of (in_row shape))
in_row-some (one term) long = omega arith
in_row-some (row terms) long = let two = long.0 in omega (arith, two)
in_row-some (choice terms) long = omega arith

-- a definition that is found among others is ready, too
pub definition_within : (options : Options) (definitions : List Definition) (name : List ℕ) (definition : Definition) → AreDefinedWithin options definitions
    → definition_of definitions name ≡ Some definition → IsDefinedWithin options.enc definition
definition_within options [] name definition are found = absurd (let h : None ≡ Some definition = found in cc)
definition_within options (first ∷ definitions) name definition are found =
    at (bytes_eq name first.name) refl (λ behind. definition_within options definitions name definition are.1 behind)
  where
    at : (b : Bool) → bytes_eq name first.name ≡ b
        → (definition_of definitions name ≡ Some definition → IsDefinedWithin options.enc definition) → IsDefinedWithin options.enc definition
    at true e later =
        let same : Some first ≡ Some definition = rw (e) at found in
        let is : first ≡ definition = cc in subst (IsDefinedWithin options.enc) is are.0.0
    at false e later = later (rw (e) at found)

module _ (enc : Enc) where
  in_row-plain : (shape : Shape) → IsPlain enc (whole shape) → ArePlain enc (members_of (in_row shape))
  in_row-plain (one term) plain = (plain, tt)
  in_row-plain (row terms) plain = plain
  in_row-plain (choice terms) plain = (plain, tt)

  in_choice-plain : (shape : Shape) → IsPlain enc (whole shape) → ArePlain enc (members_of (in_choice shape))
  in_choice-plain (one term) plain = (plain, tt)
  in_choice-plain (row terms) plain = (plain, tt)
  in_choice-plain (choice terms) plain = plain

  -- a class
  class_numbered : (operand : Bool) (policy : EmptyPolicy) (set : List Range) (start first : ℕ)
      → IsNumbered start 0 first 0 (class_term operand policy set)
  class_numbered true policy set start first = record { sequences = tt; tags = refl; ends = refl }
  class_numbered false MatchEmpty [] start first = record { sequences = tt; tags = refl; ends = refl }
  class_numbered false MatchEmpty (range ∷ set) start first = record { sequences = tt; tags = refl; ends = refl }
  class_numbered false MatchNone set start first = record { sequences = tt; tags = refl; ends = refl }
  class_numbered false Error set start first = record { sequences = tt; tags = refl; ends = refl }

  pub class_within : (operand : Bool) (policy : EmptyPolicy) (nesting : ℕ) (tags : List Tag) (groups count : ℕ) (before : Before) (set : List Range)
      → FitsEncoding enc set → tags ≡ [] → groups ≡ 0 → count ≡ count_of before
      → IsMeantWithin enc before (class_meaning operand policy nesting tags groups count set)
  class_within operand policy nesting tags groups count before set fit none ungrouped same = record {
    plain = class_plain enc operand policy set fit;
    count =
        let short = ap (λ (l : List Tag). length l) none in
        let all = length-append before.tags tags in omega (arith, same, short, all, ungrouped);
    untagged = λ held. (none, ungrouped);
    numbered = λ built. rw (none, ungrouped) (class_numbered operand policy set (length before.tags) (suc before.groups));
  }

  -- a string
  sets_numbered : (start first : ℕ) (sets : List (List Range)) → AreNumbered start 0 first 0 (map set_term sets)
  sets_numbered start first [] = record { sequences = tt; tags = refl; ends = refl }
  sets_numbered start first (set ∷ sets) =
      let later = sets_numbered start first sets in record { sequences = (tt, later.sequences); tags = later.tags; ends = later.ends }

  string_numbered : (start first : ℕ) (sets : List (List Range)) → IsNumbered start 0 first 0 (string_term sets)
  string_numbered start first [] = record { sequences = tt; tags = refl; ends = refl }
  string_numbered start first (set ∷ []) = record { sequences = tt; tags = refl; ends = refl }
  string_numbered start first (set ∷ next ∷ sets) =
      let all = sets_numbered start first (set ∷ next ∷ sets) in
      record { sequences = (omega arith, all.sequences); tags = all.tags; ends = all.ends }

  no_more : (before : Before) → count_of before ≡ count_of (and_more before [] 0)
  no_more before = let all = length-append before.tags [] in omega (arith, all)

  pub string_within : (before : Before) (sets : List (List Range)) → IsPlain enc (string_term sets)
      → IsMeantWithin enc before (string_meaning (count_of before) sets)
  string_within before sets plain = record {
    plain = plain;
    count = no_more before;
    untagged = λ held. (refl, refl);
    numbered = λ built. string_numbered (length before.tags) (suc before.groups) sets;
  }

  -- a tag
  pub tag_within : (before : Before) (named : Tag) → IsMeantWithin enc before (tag_meaning before named)
  tag_within before named = record {
    plain = tt;
    count = let all = length-append before.tags (named ∷ []) in omega (arith, all);
    untagged = λ held. no_class held;
    numbered = λ built. record { sequences = tt; tags = refl; ends = refl };
  }

  -- a copy of a definition
  pub copied_within : (before : Before) (definition : Definition) → IsDefinedWithin enc definition → IsMeantWithin enc before (copied before definition)
  copied_within before definition is = record {
    plain = plain-shifted enc (length before.tags) before.groups (term_or_empty definition.term) is.plain;
    count = refl;
    untagged = λ held. is.untagged (ap is_some (sym (same definition.term)) ∙ held);
    numbered = λ built.
        numbered-shifted (length before.tags) before.groups (length definition.tags) definition.groups (term_or_empty definition.term)
        (is.numbered (within built));
  }
    where
      same : (term : Option Term) → class_in (shifted (length before.tags) before.groups (term_or_empty term)) ≡ option_and_then class_in term
      same None = refl
      same (Some term) = class_in-shifted (length before.tags) before.groups term

      within : is_built whole_room (copied before definition) ≡ true
          → fits whole_room definition.size definition.nesting (length definition.tags + 2 * definition.groups) ≡ true
      within built =
          let all = length-append before.tags definition.tags in
          let s = (both_of (nat_le definition.size 4096) (nat_le (suc definition.nesting) 256 && nat_le (copied before definition).count 128) built).0 in
          let more = (both_of (nat_le definition.size 4096) (nat_le (suc definition.nesting) 256 && nat_le (copied before definition).count 128) built).1 in
          let both = both_of (nat_le (suc definition.nesting) 256) (nat_le (copied before definition).count 128) more in
          let n : suc definition.nesting ≤ 256 = search (arith, both.0) in
          let c : (copied before definition).count ≤ 128 = search (arith, both.1) in
          let n' : nat_le definition.nesting 256 ≡ true = search (arith, n) in
          let few : length definition.tags + 2 * definition.groups ≤ 128 = omega (arith, c, all) in
          let c' : nat_le (length definition.tags + 2 * definition.groups) 128 ≡ true = search (arith, few) in
          rw (s, n', c') refl

  -- an expression in parentheses, or repeated
  enclosed_within : (before : Before) (inner : Meaning) → IsMeantWithin enc before inner → IsMeantWithin enc before (enclosed inner)
  enclosed_within before inner is = record {
    plain = is.plain;
    count = is.count;
    untagged = is.untagged;
    numbered = λ built. is.numbered (built_part inner (enclosed inner) (omega arith) (omega arith) (omega arith) built);
  }

  grouped_within : (before : Before) (inner : Meaning) → IsMeantWithin enc (in_group before) inner
      → IsMeantWithin enc before (grouped (in_group before).groups inner)
  grouped_within before inner is = record {
    plain = is.plain;
    count = let count = is.count in omega (arith, count);
    untagged = λ held. no_class held;
    numbered = λ built.
        let around = grouped (in_group before).groups inner in
        let few : max inner.count (2 * kept (suc before.groups)) ≤ 128 = counted_few around built in
        let inside = is.numbered (built_part inner around (omega arith) (omega arith) (omega arith) built) in
        let count = is.count in
        let one : kept (suc before.groups) ≡ suc before.groups = omega (arith, few) in
        let own : kept (suc inner.groups) ≡ suc inner.groups = omega (arith, few, count) in
        let from = length before.tags in
        let many = length inner.tags in
        let term = whole inner.shape in
        subst (λ n. IsNumbered from many (suc before.groups) (kept (suc inner.groups)) (group (2 * n) (2 * n + 1) term)) (sym one)
        (subst (λ n. IsNumbered from many (suc before.groups) n (group (2 * suc before.groups) (2 * suc before.groups + 1) term)) (sym own)
        (numbered_group from many (suc before.groups) inner.groups term
        (subst (λ n. IsNumbered from many (suc n) inner.groups term) one inside)));
  }

  pub parenthesized_within : (is_group : Bool) (before : Before) (inner : Meaning) → IsMeantWithin enc (in_parentheses is_group before) inner
      → IsMeantWithin enc before (parenthesized is_group before inner)
  parenthesized_within true before inner is = grouped_within before inner is
  parenthesized_within false before inner is = enclosed_within before inner is

  pub repeated_within : (before : Before) (bounds : Repeat) (inner : Meaning) → IsMeantWithin enc before inner
      → IsMeantWithin enc before (repeated_by bounds inner)
  repeated_within before bounds inner is = record {
    plain = is.plain;
    count = is.count;
    untagged = λ held. no_class held;
    numbered = λ built.
        let more = at_least inner.size (times bounds.min bounds.max) (times-some bounds.min bounds.max) in
        let inside = is.numbered (built_part inner (repeated_by bounds inner) (omega (arith, more)) (omega arith) (omega arith) built) in
        record { sequences = inside.sequences; tags = inside.tags; ends = inside.ends };
  }

  -- two expressions one behind the other, or beside it: their counts
  counted_both : (before : Before) (first second : Meaning) → IsMeantWithin enc before first
      → IsMeantWithin enc (and_more before first.tags first.groups) second
      → max first.count second.count ≡ count_of (and_more before (first.tags ++ second.tags) (kept (first.groups + second.groups)))
  counted_both before first second is is_too =
      let front = length-append before.tags first.tags in
      let back = length-append (before.tags ++ first.tags) second.tags in
      let both = length-append first.tags second.tags in
      let all = length-append before.tags (first.tags ++ second.tags) in
      let one = is.count in let two = is_too.count in
      omega (arith, front, back, both, all, one, two)

  -- where they are built, the numbers of the second begin behind those of the first
  module _ (before : Before) (first second : Meaning) (is : IsMeantWithin enc before first)
      (is_too : IsMeantWithin enc (and_more before first.tags first.groups) second) (count : max first.count second.count ≤ 128) where
    number_next : length (before.tags ++ first.tags) ≡ length before.tags + length first.tags
    number_next = length-append before.tags first.tags

    group_next : suc (kept (before.groups + first.groups)) ≡ suc before.groups + first.groups
    group_next =
        let two = is_too.count in
        let front = length-append before.tags first.tags in
        let back = length-append (before.tags ++ first.tags) second.tags in
        omega (arith, two, front, back, count)

    groups_both : kept (first.groups + second.groups) ≡ first.groups + second.groups
    groups_both =
        let two = is_too.count in
        let back = length-append (before.tags ++ first.tags) second.tags in
        omega (arith, two, back, count)

    behind_first : IsNumbered (length (before.tags ++ first.tags)) (length second.tags) (suc (kept (before.groups + first.groups))) second.groups (whole second.shape)
        → IsNumbered (length before.tags + length first.tags) (length second.tags) (suc before.groups + first.groups) second.groups (whole second.shape)
    behind_first numbered =
        subst (λ n. IsNumbered n (length second.tags) (suc before.groups + first.groups) second.groups (whole second.shape)) number_next
        (subst (λ n. IsNumbered (length (before.tags ++ first.tags)) (length second.tags) n second.groups (whole second.shape)) group_next numbered)

  -- a sequence
  pub followed_within : (before : Before) (first second : Meaning) → IsMeantWithin enc before first
      → IsMeantWithin enc (and_more before first.tags first.groups) second → IsMeantWithin enc before (followed first second)
  followed_within before first second is is_too = record {
    plain = plain-append enc (in_row first.shape) (in_row second.shape) (in_row-plain first.shape is.plain) (in_row-plain second.shape is_too.plain);
    count = counted_both before first second is is_too;
    untagged = λ held. no_class held;
    numbered = λ built.
        let few = counted_few (followed first second) built in
        let here = is.numbered (built_part first (followed first second) (omega arith) (omega arith) (omega arith) built) in
        let there =
        behind_first before first second is is_too few
        (is_too.numbered (built_part second (followed first second) (omega arith) (omega arith) (omega arith) built)) in
        let all =
        numbered-append (length before.tags) (length first.tags) (length second.tags) (suc before.groups) first.groups second.groups
        (in_row first.shape) (in_row second.shape)
        (in_row-numbered (length before.tags) (length first.tags) (suc before.groups) first.groups first.shape here)
        (in_row-numbered (length before.tags + length first.tags) (length second.tags) (suc before.groups + first.groups) second.groups second.shape there) in
        let one = in_row-some first.shape here.sequences in
        let two = in_row-some second.shape there.sequences in
        let sum = member_count-append (in_row first.shape) (in_row second.shape) in record {
          sequences = (omega (arith, one, two, sum), all.sequences);
          tags = all.tags ∙ ap (numbers_from (length before.tags)) (sym (length-append first.tags second.tags));
          ends = all.ends ∙ ap (λ n. numbers_from (2 * suc before.groups) (2 * n)) (sym (groups_both before first second is is_too few));
        };
  }

  -- an alternation
  pub alternated_within : (before : Before) (first second : Meaning) → IsMeantWithin enc before first
      → IsMeantWithin enc (and_more before first.tags first.groups) second → IsMeantWithin enc before (alternated first second)
  alternated_within before first second is is_too = record {
    plain = plain-append enc (in_choice first.shape) (whole second.shape ∷ []) (in_choice-plain first.shape is.plain) (is_too.plain, tt);
    count = counted_both before first second is is_too;
    untagged = λ held.
        let class = class_in-choice first.shape (whole second.shape) in
        let both = both_hold (is_some (meant_class first)) (is_some (meant_class second))
        (is_some-both (meant_class first) (meant_class second) ∙ ap is_some (sym class) ∙ held) in
        let none = is.untagged both.0 in
        let none_too = is_too.untagged both.1 in
        (ap₂ (λ (a b : List Tag). a ++ b) none.0 none_too.0, ap₂ (λ a b. kept (a + b)) none.1 none_too.1);
    numbered = λ built.
        let few = counted_few (alternated first second) built in
        let here = is.numbered (built_part first (alternated first second) (omega arith) (omega arith) (omega arith) built) in
        let there =
        behind_first before first second is is_too few
        (is_too.numbered (built_part second (alternated first second) (omega arith) (omega arith) (omega arith) built)) in
        let all =
        numbered-append (length before.tags) (length first.tags) (length second.tags) (suc before.groups) first.groups second.groups
        (in_choice first.shape) (whole second.shape ∷ [])
        (in_choice-numbered (length before.tags) (length first.tags) (suc before.groups) first.groups first.shape here)
        (numbered-one (length before.tags + length first.tags) (length second.tags) (suc before.groups + first.groups) second.groups (whole second.shape) there) in
        record {
          sequences = all.sequences;
          tags = all.tags ∙ ap (numbers_from (length before.tags)) (sym (length-append first.tags second.tags));
          ends = all.ends ∙ ap (λ n. numbers_from (2 * suc before.groups) (2 * n)) (sym (groups_both before first second is is_too few));
        };
  }
