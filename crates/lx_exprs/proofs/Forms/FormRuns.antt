-- Where the steps of a form are taken, its checks find what a step finds, and what is read is what it means.
use Rattle.std.proofs.Common.{◌≡◌, ℕ, suc, ◌+◌, max, inl, inr, ⊎_elim, ◌⊎◌, ◌↔◌, Bool, true, false, List, [], ◌∷◌, ◌++◌, Option, None, Some, Result, Ok, Err, refl, sym, ap, ap₂, ◌∙◌, subst, arith, append_assoc}
use Rattle.std.proofs.lemmas.List.{length-append}
use Rattle.std.specs.Prelude.{◌&&◌, is_some, if◌then◌else◌}
use Rattle.lx_base.specs.declared.faults.Fault.{Fault}
use Rattle.lx_base.specs.declared.faults.Fault.TheVariants.{NotClass}
use Rattle.lx_base.specs.declared.settings.Options.{Options}
use Rattle.lx_token.specs.declared.kinds.TokenKind.{TokenKind}
use Rattle.lx_token.specs.declared.kinds.TokenKind.TheVariants as kind
use Rattle.lx_forms.specs.Lexemes.{Lexeme}
use Rattle.lx_regex.specs.declared.rules.Tag.{Tag}
use Rattle.lx_exprs.specs.Defined.{Before, Definition, Meaning, and_more, count_of, kept, meant_class}
use Rattle.lx_exprs.specs.Meanings.{IsClassMeaning, IsLeafMeaning, IsMeaning, alternated, followed, grouped, in_group, in_parentheses, parenthesized, past, repeated_by}
use Rattle.lx_exprs.specs.Checks.{AreClasses, Check, Checks, HasPoint, IsFilled, Then, are_groups, bounds_of, defined_groups, defined_tags, groups_of, inner_operand, is_class, leaf_groups, leaf_tags, tag_of, tags_of}
use Rattle.lx_forms.specs.Forms.{Form, leaf, group, repeated, sequence, difference, alternative}
use Rattle.lx_forms.specs.Steps.{Step, reads, opens, closes, repeats, joins, subtracts, chooses, steps_of}
use Rattle.lx_exprs.specs.Reading.{DifferenceChecks, DifferenceHas, Goes, IsDifference, IsStepped, Operands, StepChecks, closed, ends, refused, next, in_place, operands_behind, opened, with_more}
use Rattle.lx_exprs.proofs.Forms.ClassForms.{Agrees, filled-same, form-agrees}
use Rattle.lx_exprs.proofs.Forms.StepOrder.{steps_then, steps_then-nil}

-- a fault of two checks is one of them and a third one
then_behind : (First Second Third : Check) (fault : Fault) → Then First Second (Some fault) → Then First (Then Second Third) (Some fault)
then_behind First Second Third fault (inl found) = inl (found.0, inr (fault, found.1, refl))
then_behind First Second Third fault (inr found) = inr found

pub both_true : (a b : Bool) (fault : Fault) → None ≡ (if a && b then None else Some fault) → (a ≡ true) × (b ≡ true)
both_true true true fault is = (refl, refl)
both_true true false fault is = absurd (let h : None ≡ Some fault = is in cc)
both_true false b fault is = absurd (let h : None ≡ Some fault = is in cc)

-- tags and groups behind others, and a count up to the last of them
count-both : (before : Before) (left right : List Tag) (groups more first second : ℕ) → first ≡ count_of (and_more before left groups)
    → second ≡ count_of (and_more (and_more before left groups) right more)
    → max first second ≡ count_of (and_more before (left ++ right) (kept (groups + more)))
count-both before left right groups more first second is is_too =
    let front = length-append before.tags left in
    let back = length-append (before.tags ++ left) right in
    let both = length-append left right in
    let all = length-append before.tags (left ++ right) in
    omega (arith, front, back, both, all, is, is_too)

-- one meaning in the place of two, with the tags and groups of both
in_place-both : (operands : Operands) (first second meaning : Meaning) → meaning.tags ≡ first.tags ++ second.tags
    → meaning.groups ≡ kept (first.groups + second.groups)
    → in_place (with_more (with_more operands first) second) (meaning ∷ operands.meanings) ≡ with_more operands meaning
in_place-both operands first second meaning tags groups =
    ap₂ make (append_assoc operands.seen.tags first.tags second.tags ∙ ap (λ tags. operands.seen.tags ++ tags) (sym tags)) counted
  where
    make : List Tag → ℕ → Operands
    make tags groups =
        record { meanings = meaning ∷ operands.meanings; seen = record { tags = tags; groups = groups }; open_groups = operands.open_groups }

    counted : kept (kept (operands.seen.groups + first.groups) + second.groups) ≡ kept (operands.seen.groups + meaning.groups)
    counted = omega (arith, groups)

-- parentheses
seen-opened : (is_group : Bool) (operands : Operands) → (opened is_group operands).seen ≡ in_parentheses is_group operands.seen
seen-opened true operands = refl
seen-opened false operands = refl

pub tags-in_parentheses : (is_group : Bool) (before : Before) → (in_parentheses is_group before).tags ≡ before.tags
tags-in_parentheses true before = refl
tags-in_parentheses false before = refl

tags-opened : (is_group : Bool) (operands : Operands) → (opened is_group operands).seen.tags ≡ operands.seen.tags
tags-opened true operands = refl
tags-opened false operands = refl

closed-opened : (is_group : Bool) (operands : Operands) (inner : Meaning)
    → closed is_group (with_more (opened is_group operands) inner) ≡ with_more operands (parenthesized is_group operands.seen inner)
closed-opened false operands inner = refl
closed-opened true operands inner = ap make counted
  where
    make : ℕ → Operands
    make groups = record {
      meanings = grouped (in_group operands.seen).groups inner ∷ operands.meanings;
      seen = record { tags = operands.seen.tags ++ inner.tags; groups = groups };
      open_groups = operands.open_groups;
    }

    counted : kept (kept (suc operands.seen.groups) + inner.groups) ≡ kept (operands.seen.groups + kept (suc inner.groups))
    counted = omega arith

pub tags-parenthesized : (is_group : Bool) (before : Before) (inner : Meaning) → (parenthesized is_group before inner).tags ≡ inner.tags
tags-parenthesized true before inner = refl
tags-parenthesized false before inner = refl

pub groups-parenthesized : (is_group : Bool) (before : Before) (inner : Meaning)
    → (parenthesized is_group before inner).groups ≡ (if is_group then kept (suc inner.groups) else inner.groups)
groups-parenthesized true before inner = refl
groups-parenthesized false before inner = refl

count-parenthesized : (is_group : Bool) (before : Before) (inner : Meaning) (tags : List Tag) (groups : ℕ)
    → inner.count ≡ count_of (and_more (in_parentheses is_group before) tags groups)
    → (parenthesized is_group before inner).count ≡ count_of (and_more before tags (if is_group then kept (suc groups) else groups))
count-parenthesized true before inner tags groups is = omega (arith, is)
count-parenthesized false before inner tags groups is = is

module _ (options : Options) (definitions : List Definition) where
  abbrev pub is_group : Bool
  is_group = are_groups options definitions

  -- a form is read behind others: its checks find nothing, and this is its meaning
  pub record IsFormRead (operand : Bool) (before : Before) (form : Form) (meaning : Meaning) : Type 0 where
    pub checked : Checks options definitions operand before.tags form None
    pub means : IsMeaning options definitions operand before form meaning
    pub tags : meaning.tags ≡ tags_of options definitions form
    pub groups : meaning.groups ≡ groups_of options definitions form
    pub count : meaning.count ≡ count_of (past options definitions before form)

  -- What the steps of a form come to: a fault that its checks find; or one meaning more, behind which the others go on.
  abbrev Outcome : (operand : Bool) → Form → Operands → (rest : List Step) → Result Operands Fault → Type 0
  Outcome operand form operands rest result =
      ((fault : Fault) × (result ≡ Err fault) × Checks options definitions operand operands.seen.tags form (Some fault))
      ⊎ ((meaning : Meaning) × IsFormRead operand operands.seen form meaning × Goes options definitions (with_more operands meaning) rest result)

  abbrev Reads : (operand : Bool) → Form → Type 0
  Reads operand form =
      (operands : Operands) (rest : List Step) (result : Result Operands Fault)
      → Goes options definitions operands (steps_then is_group operand form rest) result → Outcome operand form operands rest result

  -- a step is refused, or taken
  step_goes : (operands : Operands) (step : Step) (steps : List Step) (result : Result Operands Fault)
      → Goes options definitions operands (step ∷ steps) result
      → ((fault : Fault) × (result ≡ Err fault) × StepChecks options definitions operands step (Some fault))
      ⊎ ((after : Operands) × StepChecks options definitions operands step None × IsStepped options definitions operands step after
      × Goes options definitions after steps result)
  step_goes operands step steps result (refused fault found) = inl (fault, refl, found)
  step_goes operands step steps result (next after checked stepped goes) = inr (after, checked, stepped, goes)

  ends_with : (operands : Operands) (result : Result Operands Fault) → Goes options definitions operands [] result → result ≡ Ok operands
  ends_with operands result ends = refl

  -- a step that checks nothing is taken
  free_goes : (operands : Operands) (step : Step) (steps : List Step) (result : Result Operands Fault)
      → ((fault : Fault) → StepChecks options definitions operands step (Some fault) → Some fault ≡ None)
      → Goes options definitions operands (step ∷ steps) result
      → (after : Operands) × IsStepped options definitions operands step after × Goes options definitions after steps result
  free_goes operands step steps result free goes =
      ⊎_elim (λ found. absurd (let h = free found.0 found.2 in cc)) (λ taken. (taken.0, taken.2, taken.3))
      (step_goes operands step steps result goes)

  closes_goes : (operands : Operands) (inner : Meaning) (opening : Lexeme) (rest : List Step) (result : Result Operands Fault)
      → Goes options definitions (with_more (opened is_group operands) inner) (closes opening ∷ rest) result
      → Goes options definitions (with_more operands (parenthesized is_group operands.seen inner)) rest result
  closes_goes operands inner opening rest result goes =
      let taken = free_goes (with_more (opened is_group operands) inner) (closes opening) rest result (λ fault found. found) goes in
      subst (λ after. Goes options definitions after rest result) (taken.1 ∙ closed-opened is_group operands inner) taken.2

  joins_goes : (operands : Operands) (first second : Meaning) (rest : List Step) (result : Result Operands Fault)
      → Goes options definitions (with_more (with_more operands first) second) (joins ∷ rest) result
      → Goes options definitions (with_more operands (followed first second)) rest result
  joins_goes operands first second rest result goes =
      let taken = free_goes (with_more (with_more operands first) second) joins rest result (λ fault found. found) goes in
      subst (λ after. Goes options definitions after rest result) (taken.1 ∙ in_place-both operands first second (followed first second) refl refl) taken.2

  chooses_goes : (operands : Operands) (first second : Meaning) (rest : List Step) (result : Result Operands Fault)
      → Goes options definitions (with_more (with_more operands first) second) (chooses ∷ rest) result
      → Goes options definitions (with_more operands (alternated first second)) rest result
  chooses_goes operands first second rest result goes =
      let taken = free_goes (with_more (with_more operands first) second) chooses rest result (λ fault found. found) goes in
      subst (λ after. Goes options definitions after rest result) (taken.1 ∙ in_place-both operands first second (alternated first second) refl refl) taken.2

  -- a leaf
  pub record HasLeafTags (sort : TokenKind) (before : Before) (lexeme : Lexeme) (meaning : Meaning) : Type 0 where
    pub tags : meaning.tags ≡ leaf_tags options definitions sort lexeme
    pub groups : meaning.groups ≡ leaf_groups options definitions sort lexeme
    pub count : meaning.count ≡ count_of (and_more before (leaf_tags options definitions sort lexeme) (leaf_groups options definitions sort lexeme))

  no_more : (before : Before) → count_of before ≡ count_of (and_more before [] 0)
  no_more before = let all = length-append before.tags [] in omega (arith, all)

  one_more : (before : Before) (tag : Tag) → suc (count_of before) ≡ count_of (and_more before (tag ∷ []) 0)
  one_more before tag = let all = length-append before.tags (tag ∷ []) in omega (arith, all)

  pub leaf-tags : (operand : Bool) (sort : TokenKind) (before : Before) (lexeme : Lexeme) (meaning : Meaning)
      → IsLeafMeaning options definitions operand sort before lexeme meaning → HasLeafTags sort before lexeme meaning
  leaf-tags operand kind.Str before lexeme meaning is =
      record { tags = ap (λ (m : Meaning). m.tags) is; groups = ap (λ (m : Meaning). m.groups) is; count = ap (λ (m : Meaning). m.count) is ∙ no_more before }
  leaf-tags operand kind.IStr before lexeme meaning is =
      record { tags = ap (λ (m : Meaning). m.tags) is; groups = ap (λ (m : Meaning). m.groups) is; count = ap (λ (m : Meaning). m.count) is ∙ no_more before }
  leaf-tags operand kind.Class before lexeme meaning is =
      record { tags = ap (λ (m : Meaning). m.tags) is.2; groups = ap (λ (m : Meaning). m.groups) is.2; count = ap (λ (m : Meaning). m.count) is.2 ∙ no_more before }
  leaf-tags operand kind.Signs before lexeme meaning is =
      record { tags = ap (λ (m : Meaning). m.tags) is.2; groups = ap (λ (m : Meaning). m.groups) is.2; count = ap (λ (m : Meaning). m.count) is.2 ∙ no_more before }
  leaf-tags operand kind.Name before lexeme meaning is = record {
    tags = ap (λ (m : Meaning). m.tags) is.2 ∙ ap (λ (found : Option Definition). defined_tags options definitions found) (sym is.1);
    groups = ap (λ (m : Meaning). m.groups) is.2 ∙ ap (λ (found : Option Definition). defined_groups options definitions found) (sym is.1);
    count =
        ap (λ (m : Meaning). m.count) is.2
        ∙ ap (λ (found : Option Definition). count_of (and_more before (defined_tags options definitions found) (defined_groups options definitions found)))
        (sym is.1);
  }
  leaf-tags operand kind.STag before lexeme meaning is = record {
    tags = ap (λ (m : Meaning). m.tags) is;
    groups = ap (λ (m : Meaning). m.groups) is;
    count = ap (λ (m : Meaning). m.count) is ∙ one_more before (tag_of false lexeme);
  }
  leaf-tags operand kind.MTag before lexeme meaning is = record {
    tags = ap (λ (m : Meaning). m.tags) is;
    groups = ap (λ (m : Meaning). m.groups) is;
    count = ap (λ (m : Meaning). m.count) is ∙ one_more before (tag_of true lexeme);
  }
  leaf-tags operand kind.Config before lexeme meaning is = absurd is
  leaf-tags operand kind.Number before lexeme meaning is = absurd is
  leaf-tags operand kind.Bounds before lexeme meaning is = absurd is
  leaf-tags operand kind.Code before lexeme meaning is = absurd is

  leaf_reads : (operand : Bool) (lexeme : Lexeme) → Reads operand (leaf lexeme)
  leaf_reads operand lexeme operands rest result goes =
      ⊎_elim (λ found. inl found)
      (λ taken.
      let is = leaf-tags operand lexeme.kind operands.seen lexeme taken.2.0 taken.2.1 in
      inr (
        taken.2.0,
        record { checked = taken.1; means = taken.2.1; tags = is.tags; groups = is.groups; count = is.count },
        subst (λ after. Goes options definitions after rest result) taken.2.2 taken.3,
      ))
      (step_goes operands (reads operand lexeme) rest result goes)

  -- what is read in parentheses is read
  inside : (operand : Bool) (opening : Lexeme) (inner : Form) (operands : Operands) (body : Meaning)
      → IsFormRead (inner_operand options definitions operand) (opened is_group operands).seen inner body
      → IsFormRead operand operands.seen (group opening inner) (parenthesized is_group operands.seen body)
  inside operand opening inner operands body is = record {
    checked = subst (λ tags. Checks options definitions (inner_operand options definitions operand) tags inner None) (tags-opened is_group operands) is.checked;
    means = (
      body,
      subst (λ before. IsMeaning options definitions (inner_operand options definitions operand) before inner body) (seen-opened is_group operands) is.means,
      refl,
    );
    tags = tags-parenthesized is_group operands.seen body ∙ is.tags;
    groups =
        groups-parenthesized is_group operands.seen body ∙ ap (λ n. if is_group then kept (suc n) else n) is.groups;
    count =
        count-parenthesized is_group operands.seen body (tags_of options definitions inner) (groups_of options definitions inner)
        (is.count
        ∙ ap (λ (before : Before). count_of (and_more before (tags_of options definitions inner) (groups_of options definitions inner)))
        (seen-opened is_group operands));
  }

  -- parentheses
  group_reads : (operand : Bool) (opening : Lexeme) (inner : Form) → Reads (inner_operand options definitions operand) inner
      → Reads operand (group opening inner)
  group_reads operand opening inner inner_reads operands rest result goes =
      let steps = steps_then is_group (inner_operand options definitions operand) inner (closes opening ∷ rest) in
      let taken = free_goes operands (opens opening) steps result (λ fault found. found) goes in
      ⊎_elim
      (λ found.
      inl (
        found.0,
        found.1,
        subst (λ tags. Checks options definitions (inner_operand options definitions operand) tags inner (Some found.0)) (tags-opened is_group operands) found.2,
      ))
      (λ is.
      inr (
        parenthesized is_group operands.seen is.0,
        inside operand opening inner operands is.0 is.1,
        closes_goes operands is.0 opening rest result is.2,
      ))
      (inner_reads (opened is_group operands) (closes opening ∷ rest) result
      (subst (λ after. Goes options definitions after steps result) taken.1 taken.2))

  -- a repetition
  repeated_reads : (operand : Bool) (inner : Form) (sign : Lexeme) → Reads false inner → Reads operand (repeated inner sign)
  repeated_reads operand inner sign inner_reads operands rest result goes =
      ⊎_elim (λ found. inl (found.0, found.1, inr (found.0, found.2, refl)))
      (λ is.
      ⊎_elim (λ found. inl (found.0, found.1, inl (is.1.checked, found.2)))
      (λ taken.
      inr (
        repeated_by (bounds_of sign) is.0,
        record { checked = inl (is.1.checked, taken.1); means = (is.0, is.1.means, refl); tags = is.1.tags; groups = is.1.groups; count = is.1.count },
        subst (λ after. Goes options definitions after rest result) taken.2 taken.3,
      ))
      (step_goes (with_more operands is.0) (repeats sign) rest result is.2))
      (inner_reads operands (repeats sign ∷ rest) result goes)

  -- two forms: a fault of their checks, or both meanings
  abbrev Both : (operand : Bool) (left right : Form) → Operands → (rest : List Step) → Result Operands Fault → Type 0
  Both operand left right operands rest result =
      ((fault : Fault) × (result ≡ Err fault)
      × Then (Checks options definitions operand operands.seen.tags left)
      (Checks options definitions operand (operands.seen.tags ++ tags_of options definitions left) right) (Some fault))
      ⊎ ((first second : Meaning) × IsFormRead operand operands.seen left first
      × IsFormRead operand (past options definitions operands.seen left) right second
      × Goes options definitions (with_more (with_more operands first) second) rest result)

  both_reads : (operand : Bool) (left right : Form) → Reads operand left → Reads operand right → (operands : Operands) (rest : List Step)
      (result : Result Operands Fault)
      → Goes options definitions operands (steps_then is_group operand left (steps_then is_group operand right rest)) result
      → Both operand left right operands rest result
  both_reads operand left right left_reads right_reads operands rest result goes =
      ⊎_elim (λ found. inl (found.0, found.1, inr (found.0, found.2, refl)))
      (λ is.
      let seen : and_more operands.seen is.0.tags is.0.groups ≡ past options definitions operands.seen left =
      ap₂ (λ tags groups. and_more operands.seen tags groups) is.1.tags is.1.groups in
      ⊎_elim
      (λ found. inl (
        found.0,
        found.1,
        inl (is.1.checked, subst (λ (before : Before). Checks options definitions operand before.tags right (Some found.0)) seen found.2),
      ))
      (λ more. inr (is.0, more.0, is.1, subst (λ before. IsFormRead operand before right more.0) seen more.1, more.2))
      (right_reads (with_more operands is.0) rest result is.2))
      (left_reads operands (steps_then is_group operand right rest) result goes)

  -- one behind another
  sequence_reads : (operand : Bool) (front back : Form) → Reads false front → Reads false back → Reads operand (sequence front back)
  sequence_reads operand front back front_reads back_reads operands rest result goes =
      ⊎_elim (λ found. inl found)
      (λ is.
      inr (
        followed is.0 is.1,
        record {
          checked = inl (is.2.checked, is.3.checked);
          means = (is.0, is.1, is.2.means, is.3.means, refl);
          tags = ap₂ (λ (a b : List Tag). a ++ b) is.2.tags is.3.tags;
          groups = ap₂ (λ a b. kept (a + b)) is.2.groups is.3.groups;
          count =
              count-both operands.seen (tags_of options definitions front) (tags_of options definitions back) (groups_of options definitions front)
              (groups_of options definitions back) is.0.count is.1.count is.2.count is.3.count;
        },
        joins_goes operands is.0 is.1 rest result is.4,
      ))
      (both_reads false front back front_reads back_reads operands (joins ∷ rest) result goes)

  -- one beside another
  alternative_reads : (operand : Bool) (left : Form) (sign : Lexeme) (right : Form) → Reads operand left → Reads operand right
      → Reads operand (alternative left sign right)
  alternative_reads operand left sign right left_reads right_reads operands rest result goes =
      ⊎_elim (λ found. inl found)
      (λ is.
      inr (
        alternated is.0 is.1,
        record {
          checked = inl (is.2.checked, is.3.checked);
          means = (is.0, is.1, is.2.means, is.3.means, refl);
          tags = ap₂ (λ (a b : List Tag). a ++ b) is.2.tags is.3.tags;
          groups = ap₂ (λ a b. kept (a + b)) is.2.groups is.3.groups;
          count =
              count-both operands.seen (tags_of options definitions left) (tags_of options definitions right) (groups_of options definitions left)
              (groups_of options definitions right) is.0.count is.1.count is.2.count is.3.count;
        },
        chooses_goes operands is.0 is.1 rest result is.4,
      ))
      (both_reads operand left right left_reads right_reads operands (chooses ∷ rest) result goes)

  -- the checks of a difference behind those of its operands
  abbrev ClassChecks : (operand : Bool) (left : Form) (sign : Lexeme) (right : Form) → Check
  ClassChecks operand left sign right =
      Then (AreClasses options definitions left right sign)
      (IsFilled options definitions options.empty operand sign.at (HasPoint options definitions (difference left sign right)))

  -- two operands of a difference that were read
  module _ (left right : Form) (sign : Lexeme) (seen more : Before) (first second : Meaning) (is : IsFormRead true seen left first)
      (is_too : IsFormRead true more right second) where
    here : Agrees (is_class options definitions left) (HasPoint options definitions left) (meant_class first)
    here = form-agrees options definitions left seen first is.checked is.means

    there : Agrees (is_class options definitions right) (HasPoint options definitions right) (meant_class second)
    there = form-agrees options definitions right more second is_too.checked is_too.means

    -- where both are classes, the difference of the meanings has the points of the difference of the forms
    difference-same : None ≡ (if is_some (meant_class first) && is_some (meant_class second) then None else Some (NotClass sign.at))
        → (point : ℕ) → DifferenceHas options definitions first second point ↔ HasPoint options definitions (difference left sign right) point
    difference-same none point =
        let are = both_true (is_some (meant_class first)) (is_some (meant_class second)) (NotClass sign.at) none in
        let one = here.points (here.class_is ∙ are.0) point in
        let other = there.points (there.class_is ∙ are.1) point in
        (λ inside. (one.0 inside.0, λ has. inside.1 (other.1 has)), λ has. (one.1 has.0, λ inside. has.1 (other.0 inside)))

    classes-same : (fault : Option Fault)
        → fault ≡ (if is_some (meant_class first) && is_some (meant_class second) then None else Some (NotClass sign.at))
        → AreClasses options definitions left right sign fault
    classes-same fault found =
        found ∙ ap₂ (λ (a b : Bool). if a && b then None else Some (NotClass sign.at)) (sym here.class_is) (sym there.class_is)

    -- the checks of the meanings are those of the forms
    difference_checks-same : (operand : Bool) (fault : Option Fault) → DifferenceChecks options definitions operand first second sign fault
        → ClassChecks operand left sign right fault
    difference_checks-same operand fault (inr found) = inr (found.0, classes-same (Some found.0) found.1, found.2)
    difference_checks-same operand fault (inl found) =
        inl (
          classes-same None found.0,
          filled-same options definitions options.empty operand sign.at (DifferenceHas options definitions first second)
              (HasPoint options definitions (difference left sign right)) (difference-same found.0) fault found.1,
        )

    -- and so is the class
    difference-means : (operand : Bool) (meaning : Meaning) → DifferenceChecks options definitions operand first second sign None
        → IsDifference options definitions operand first second meaning
        → IsClassMeaning options definitions operand (max first.nesting second.nesting) (first.tags ++ second.tags) (kept (first.groups + second.groups))
        (max first.count second.count) (HasPoint options definitions (difference left sign right)) meaning
    difference-means operand meaning (inl found) means = (
      means.0,
      record {
        canonical = means.1.canonical;
        points = λ point.
            let same = difference-same found.0 point in
            let has = means.1.points point in (λ inside. same.0 (has.0 inside), λ held. has.1 (same.1 held));
      },
      means.2,
    )
    difference-means operand meaning (inr found) means = absurd (let h : None ≡ Some found.0 = found.2 in cc)

  -- one without another
  difference_reads : (operand : Bool) (left : Form) (sign : Lexeme) (right : Form) → Reads true left → Reads true right
      → Reads operand (difference left sign right)
  difference_reads operand left sign right left_reads right_reads operands rest result goes =
      ⊎_elim
      (λ found.
      inl (
        found.0,
        found.1,
        then_behind (Checks options definitions true operands.seen.tags left)
            (Checks options definitions true (operands.seen.tags ++ tags_of options definitions left) right) (ClassChecks operand left sign right) found.0 found.2,
      ))
      (λ is.
      ⊎_elim
      (λ found.
      inl (
        found.0,
        found.1,
        inl (
          is.2.checked,
          inl (
            is.3.checked,
            difference_checks-same left right sign operands.seen (past options definitions operands.seen left) is.0 is.1 is.2 is.3 operand (Some found.0) found.2,
          ),
        ),
      ))
      (λ taken.
      let means = taken.2.1.1 in
      let tags = ap (λ (m : Meaning). m.tags) means.2 in
      let groups = ap (λ (m : Meaning). m.groups) means.2 in
      inr (
        taken.2.1.0,
        record {
          checked =
              inl (
                is.2.checked,
                inl (is.3.checked, difference_checks-same left right sign operands.seen (past options definitions operands.seen left) is.0 is.1 is.2 is.3 operand None taken.1),
              );
          means = (
            is.0,
            is.1,
            is.2.means,
            is.3.means,
            difference-means left right sign operands.seen (past options definitions operands.seen left) is.0 is.1 is.2 is.3 operand taken.2.1.0 taken.1 means,
          );
          tags = tags ∙ ap₂ (λ (a b : List Tag). a ++ b) is.2.tags is.3.tags;
          groups = groups ∙ ap₂ (λ a b. kept (a + b)) is.2.groups is.3.groups;
          count =
              ap (λ (m : Meaning). m.count) means.2
              ∙ count-both operands.seen (tags_of options definitions left) (tags_of options definitions right) (groups_of options definitions left)
              (groups_of options definitions right) is.0.count is.1.count is.2.count is.3.count;
        },
        subst (λ after. Goes options definitions after rest result)
            (taken.2.2 ∙ ap (in_place (with_more (with_more operands is.0) is.1)) taken.2.1.2 ∙ in_place-both operands is.0 is.1 taken.2.1.0 tags groups)
            taken.3,
      ))
      (step_goes (with_more (with_more operands is.0) is.1) (subtracts operand sign) rest result is.4))
      (both_reads true left right left_reads right_reads operands (subtracts operand sign ∷ rest) result goes)

  -- each form
  form_reads : (operand : Bool) (form : Form) → Reads operand form
  form_reads operand (leaf lexeme) = leaf_reads operand lexeme
  form_reads operand (group opening inner) = group_reads operand opening inner (form_reads (inner_operand options definitions operand) inner)
  form_reads operand (repeated inner sign) = repeated_reads operand inner sign (form_reads false inner)
  form_reads operand (sequence front back) = sequence_reads operand front back (form_reads false front) (form_reads false back)
  form_reads operand (difference left sign right) = difference_reads operand left sign right (form_reads true left) (form_reads true right)
  form_reads operand (alternative left sign right) = alternative_reads operand left sign right (form_reads operand left) (form_reads operand right)

  -- a form that is read from its first step on
  pub form_goes : (before : Before) (form : Form) (result : Result Operands Fault)
      → Goes options definitions (operands_behind before) (steps_of is_group false form) result
      → ((fault : Fault) × (result ≡ Err fault) × Checks options definitions false before.tags form (Some fault))
      ⊎ ((meaning : Meaning) × (result ≡ Ok (with_more (operands_behind before) meaning)) × IsFormRead false before form meaning)
  form_goes before form result goes =
      ⊎_elim (λ found. inl found)
      (λ is. inr (is.0, ends_with (with_more (operands_behind before) is.0) result is.2, is.1))
      (form_reads false form (operands_behind before) [] result
      (subst (λ steps. Goes options definitions (operands_behind before) steps result) (sym (steps_then-nil is_group false form)) goes))

  -- what an expression means has its tags
  pub tags-meant : (operand : Bool) (before : Before) (form : Form) (meaning : Meaning) → IsMeaning options definitions operand before form meaning
      → meaning.tags ≡ tags_of options definitions form
  tags-meant operand before (leaf lexeme) meaning is = (leaf-tags operand lexeme.kind before lexeme meaning is).tags
  tags-meant operand before (group opening inner) meaning is =
      ap (λ (m : Meaning). m.tags) is.2 ∙ tags-parenthesized is_group before is.0
      ∙ tags-meant (inner_operand options definitions operand) (in_parentheses is_group before) inner is.0 is.1
  tags-meant operand before (repeated inner sign) meaning is =
      ap (λ (m : Meaning). m.tags) is.2 ∙ tags-meant false before inner is.0 is.1
  tags-meant operand before (sequence front back) meaning is =
      ap (λ (m : Meaning). m.tags) is.4
      ∙ ap₂ (λ (a b : List Tag). a ++ b) (tags-meant false before front is.0 is.2) (tags-meant false (past options definitions before front) back is.1 is.3)
  tags-meant operand before (difference left sign right) meaning is =
      ap (λ (m : Meaning). m.tags) is.4.2
      ∙ ap₂ (λ (a b : List Tag). a ++ b) (tags-meant true before left is.0 is.2) (tags-meant true (past options definitions before left) right is.1 is.3)
  tags-meant operand before (alternative left sign right) meaning is =
      ap (λ (m : Meaning). m.tags) is.4
      ∙ ap₂ (λ (a b : List Tag). a ++ b) (tags-meant operand before left is.0 is.2) (tags-meant operand (past options definitions before left) right is.1 is.3)
