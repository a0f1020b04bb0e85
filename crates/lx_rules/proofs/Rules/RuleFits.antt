-- What is asked of what rules mean holds of groups, trailing contexts, `*` and `$`.
use Rattle.std.proofs.Common.{◌≡◌, ℕ, suc, ◌+◌, ◌*◌, ◌-◌, ◌≤◌, inl, inr, Bool, true, false, List, [], ◌∷◌, ◌++◌, length, Option, None, Some, refl, sym, ap, ◌∙◌, subst, arith, length-append, zero-add}
use Rattle.std.specs.Prelude.{map, slice_get}
use Rattle.lx_base.specs.declared.settings.Enc.{Enc}
use Rattle.lx_regex.specs.Limits.{StandsIn, numbers_from}
use Rattle.lx_regex.specs.Script.{put_tag}
use Rattle.lx_regex.specs.Term.{Term, tag}
use Rattle.lx_regex.specs.declared.rules.Tag.{Tag}
use Rattle.lx_exprs.specs.Defined.{Meaning, is_built, kept, nothing, slash_tag, whole, whole_room}
use Rattle.lx_rules.specs.Items.{any_meaning, as_rule, behind_slash, trailing, in_whole, end_meaning}
use Rattle.lx_exprs.specs.Within.{IsNumbered, IsPlain}
use Rattle.lx_exprs.proofs.Forms.MeaningFits.{IsMeantWithin, built_part, counted_few, numbered-append, numbered-one}
use Rattle.lx_exprs.proofs.TagLists.TagNumbers.{put_tag-before}

-- a trailing context begins at one of the s-tags, and that stands in the sequence of all
abbrev pub IsSlashIn : Meaning → (slash : Option ℕ) → Type 0
IsSlashIn meaning None = Unit {0}
IsSlashIn meaning (Some slash) =
    (slice_get (map (λ (tag : Tag). tag.many) meaning.tags) slash ≡ Some false) × StandsIn slash (whole meaning.shape)

-- What is asked of what a rule means: its classes fit the encoding, and within the limits of a scanner its tags and groups are
-- numbered in order, and so many are counted.
pub record IsRuleMeant (enc : Enc) (meaning : Meaning) (slash : Option ℕ) : Type 0 where
  pub plain : IsPlain enc (whole meaning.shape)
  pub numbered : is_built whole_room meaning ≡ true → IsNumbered 0 (length meaning.tags) 0 meaning.groups (whole meaning.shape)
  pub count : is_built whole_room meaning ≡ true → length meaning.tags + 2 * (meaning.groups - 1) ≤ meaning.count
  pub slashed : IsSlashIn meaning slash

-- the tag of the slash is an s-tag
at_slash : (front back : List Tag) → slice_get (map (λ (tag : Tag). tag.many) ((front ++ slash_tag ∷ []) ++ back)) (length front) ≡ Some false
at_slash [] back = refl
at_slash (first ∷ front) back = at_slash front back

-- what is within the limits has few groups
groups_few : {enc : Enc} (inner : Meaning) → IsMeantWithin enc nothing inner → is_built whole_room inner ≡ true → inner.groups ≤ 64
groups_few inner is built =
    let few = counted_few inner built in let all = is.count in omega (arith, few, all)

module _ (enc : Enc) where
  -- the expression of a rule, which has groups only where they are counted
  pub as_rule_meant : (is_group : Bool) (inner : Meaning) → IsMeantWithin enc nothing inner → (is_group ≡ false → inner.groups ≡ 0)
      → IsRuleMeant enc (as_rule is_group inner) None
  as_rule_meant true inner is none = record {
    plain = is.plain;
    numbered = λ built.
        let numbered = is.numbered built in
        let few = groups_few inner is built in
        let all : kept (suc inner.groups) ≡ suc inner.groups = omega (arith, few) in
        let double : suc (suc (2 * inner.groups)) ≡ 2 * suc inner.groups = omega arith in record {
          sequences = numbered.sequences;
          tags = numbered.tags;
          ends =
              ap (λ l. put_tag 0 (put_tag 1 l)) numbered.ends ∙ ap (put_tag 0) (put_tag-before 1 (2 * inner.groups))
              ∙ put_tag-before 0 (suc (2 * inner.groups)) ∙ ap (numbers_from 0) (double ∙ ap (λ n. 2 * n) (sym all));
        };
    count = λ built. let all = is.count in let few = groups_few inner is built in omega (arith, all, few);
    slashed = tt;
  }
  as_rule_meant false inner is none = record {
    plain = is.plain;
    numbered = λ built.
        let numbered = is.numbered built in record {
          sequences = numbered.sequences;
          tags = numbered.tags;
          ends = numbered.ends ∙ ap (λ n. numbers_from 2 (2 * n)) (none refl);
        };
    count = λ built. let all = is.count in omega (arith, all);
    slashed = tt;
  }

  -- group 0 is as its expression is
  plain-in_whole : (is_group : Bool) (term : Term) → IsPlain enc term → IsPlain enc (in_whole is_group term)
  plain-in_whole true term is = is
  plain-in_whole false term is = is

  -- a rule with a trailing context
  module _ (is_group : Bool) (first second : Meaning) (one : IsMeantWithin enc nothing first) (two : IsMeantWithin enc (behind_slash first) second)
      (none : is_group ≡ false → (first.groups ≡ 0) × (second.groups ≡ 0)) where
    abbrev both : Meaning
    both = (trailing is_group first second).means

    tags_are : length both.tags ≡ length first.tags + (1 + length second.tags)
    tags_are =
        let all = length-append (first.tags ++ slash_tag ∷ []) second.tags in let front = length-append first.tags (slash_tag ∷ []) in omega (arith, all, front)

    first_less : first.count ≤ second.count
    first_less =
        let a = one.count in let b = two.count in let all = length-append (first.tags ++ slash_tag ∷ []) second.tags in
        let front = length-append first.tags (slash_tag ∷ []) in omega (arith, a, b, all, front)

    module _ (built : is_built whole_room both ≡ true) where
      few : second.count ≤ 128
      few = counted_few both built

      front_numbered : IsNumbered 0 (length first.tags) 1 first.groups (whole first.shape)
      front_numbered = one.numbered (built_part first both (omega arith) (omega arith) first_less built)

      back_numbered : IsNumbered (length (first.tags ++ slash_tag ∷ [])) (length second.tags) (suc first.groups) second.groups (whole second.shape)
      back_numbered = two.numbered (built_part second both (omega arith) (omega arith) (omega arith) built)

      small : first.groups + second.groups ≤ 64
      small =
          let b = two.count in let c = few in let all = length-append (first.tags ++ slash_tag ∷ []) second.tags in omega (arith, b, c, all)

    trailing_numbered : (groups : ℕ) → IsNumbered 0 (length first.tags) 0 groups (in_whole is_group (whole first.shape))
        → IsNumbered (length first.tags + 1) (length second.tags) (groups + 0) second.groups (whole second.shape)
        → IsNumbered 0 (length first.tags + (1 + length second.tags)) 0 (groups + (0 + second.groups)) (whole both.shape)
    trailing_numbered groups front back =
        let slash : IsNumbered (length first.tags) 1 groups 0 (tag (length first.tags)) = record { sequences = tt; tags = refl; ends = refl } in
        let n = length first.tags in let m = length second.tags in
        let later = numbered-append n 1 m groups 0 second.groups (tag n ∷ []) (whole second.shape ∷ []) (numbered-one n 1 groups 0 (tag n) slash)
        (numbered-one (n + 1) m (groups + 0) second.groups (whole second.shape) back) in
        let all = numbered-append 0 n (1 + m) 0 groups (0 + second.groups) (in_whole is_group (whole first.shape) ∷ []) (tag n ∷ whole second.shape ∷ [])
        (numbered-one 0 n 0 groups (in_whole is_group (whole first.shape)) front) (rw (zero-add n, zero-add groups) later) in
        record { sequences = (omega arith, all.sequences); tags = all.tags; ends = all.ends }

  trailing_numbers : (is_group : Bool) (first second : Meaning) → IsMeantWithin enc nothing first → IsMeantWithin enc (behind_slash first) second
      → (is_group ≡ false → (first.groups ≡ 0) × (second.groups ≡ 0)) → is_built whole_room (trailing is_group first second).means ≡ true
      → IsNumbered 0 (length (trailing is_group first second).means.tags) 0 (trailing is_group first second).means.groups (whole (trailing is_group first second).means.shape)
  trailing_numbers true first second one two none built =
      let front = front_numbered true first second one two none built in
      let back = back_numbered true first second one two none built in
      let start : length (first.tags ++ slash_tag ∷ []) ≡ length first.tags + 1 = length-append first.tags (slash_tag ∷ []) in
      let from : suc first.groups ≡ suc first.groups + 0 = omega arith in
      let few = small true first second one two none built in
      let groups : suc first.groups + (0 + second.groups) ≡ kept (suc (first.groups + second.groups)) = omega (arith, few) in
      let least = groups_few first one (built_part first (trailing true first second).means (omega arith) (omega arith) (first_less true first second one two none) built) in
      let all : kept (suc first.groups) ≡ suc first.groups = omega (arith, least) in
      let grouped = (as_rule_meant true first one (λ no. absurd (let h : true ≡ false = no in cc))).numbered
      (built_part first (trailing true first second).means (omega arith) (omega arith) (first_less true first second one two none) built) in
      subst (λ n. IsNumbered 0 n 0 (kept (suc (first.groups + second.groups))) (whole (trailing true first second).means.shape)) (sym (tags_are true first second one two none))
      (subst (λ g. IsNumbered 0 (length first.tags + (1 + length second.tags)) 0 g (whole (trailing true first second).means.shape)) groups
      (trailing_numbered true first second one two none (suc first.groups)
      (subst (λ g. IsNumbered 0 (length first.tags) 0 g (in_whole true (whole first.shape))) all grouped)
      (subst (λ s. IsNumbered s (length second.tags) (suc first.groups + 0) second.groups (whole second.shape)) start
      (subst (λ g. IsNumbered (length (first.tags ++ slash_tag ∷ [])) (length second.tags) g second.groups (whole second.shape)) from back))))
  trailing_numbers false first second one two none built =
      let front = front_numbered false first second one two none built in
      let back = back_numbered false first second one two none built in
      let start : length (first.tags ++ slash_tag ∷ []) ≡ length first.tags + 1 = length-append first.tags (slash_tag ∷ []) in
      let no = none refl in
      let groups : 0 + (0 + second.groups) ≡ 0 = omega (arith, no.1) in
      subst (λ n. IsNumbered 0 n 0 0 (whole (trailing false first second).means.shape)) (sym (tags_are false first second one two none))
      (subst (λ g. IsNumbered 0 (length first.tags + (1 + length second.tags)) 0 g (whole (trailing false first second).means.shape)) groups
      (trailing_numbered false first second one two none 0
      (record { sequences = front.sequences; tags = front.tags; ends = front.ends ∙ ap (λ n. numbers_from 2 (2 * n)) no.0 })
      (subst (λ s. IsNumbered s (length second.tags) 0 second.groups (whole second.shape)) start
      (record {
        sequences = back.sequences;
        tags = back.tags;
        ends = back.ends ∙ ap (λ n. numbers_from (2 * suc first.groups) (2 * n)) no.1 ∙ ap (λ n. numbers_from 0 (2 * n)) (sym no.1);
      }))))

  trailing_counts : (is_group : Bool) (first second : Meaning) → IsMeantWithin enc nothing first → IsMeantWithin enc (behind_slash first) second
      → (is_group ≡ false → (first.groups ≡ 0) × (second.groups ≡ 0)) → is_built whole_room (trailing is_group first second).means ≡ true
      → length (trailing is_group first second).means.tags + 2 * ((trailing is_group first second).means.groups - 1) ≤ second.count
  trailing_counts true first second one two none built =
      let few = small true first second one two none built in let count = two.count in omega (arith, few, count)
  trailing_counts false first second one two none built = let count = two.count in omega (arith, count)

  pub trailing_meant : (is_group : Bool) (first second : Meaning) → IsMeantWithin enc nothing first → IsMeantWithin enc (behind_slash first) second
      → (is_group ≡ false → (first.groups ≡ 0) × (second.groups ≡ 0))
      → IsRuleMeant enc (trailing is_group first second).means (trailing is_group first second).slash
  trailing_meant is_group first second one two none = record {
    plain = (plain-in_whole is_group (whole first.shape) one.plain, (tt, (two.plain, tt)));
    numbered = trailing_numbers is_group first second one two none;
    count = trailing_counts is_group first second one two none;
    slashed = (at_slash first.tags second.tags, inr (inl refl));
  }

  -- what stands in the place of an expression of `$`
  pub end_meant : IsRuleMeant enc end_meaning None
  end_meant = record {
    plain = tt;
    numbered = λ built. record { sequences = tt; tags = refl; ends = refl };
    count = λ built. omega arith;
    slashed = tt;
  }

  pub any_within : IsMeantWithin enc nothing any_meaning
  any_within = record {
    plain = tt;
    count = refl;
    untagged = λ held. (refl, refl);
    numbered = λ built. record { sequences = tt; tags = refl; ends = refl };
  }
