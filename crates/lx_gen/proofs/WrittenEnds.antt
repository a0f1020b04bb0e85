-- The ends of a scanner's rules can be written, and what its automaton accepts fits them.
use Rattle.std.specs.Prelude.{◌≡◌, ℕ, zero, suc, ◌+◌, ◌*◌, ◌<◌, ◌≤◌, ◌==◌, Bool, true, false, List, [], ◌∷◌, ◌++◌, map, length, Option, Some, None, All, IfSome, refl, slice_get, slice_index_or, if◌then◌else◌}
use Rattle.std.proofs.Common.{sym, ap, ◌∙◌, subst, arith, eq-eqb, length-append}
use Rattle.std.specs.List.{AllByRecursion}
use Rattle.std.proofs.lemmas.Bool.{OnFalse_from, false≢true, ne_eqb}
use Rattle.std.proofs.lemmas.List.{length-map}
use Rattle.std.proofs.lemmas.List.Elements.{All-contains}
use Rattle.lx_auto.specs.declared.automaton.Accept.{Accept}
use Rattle.lx_auto.specs.declared.automaton.State.{State}
use Rattle.lx_base.specs.Names.{IsTagName, Spellings}
use Rattle.lx_base.specs.declared.limits.TheConstants.{SOURCE_LIMIT}
use Rattle.lx_base.specs.declared.settings.Enc.{Enc}
use Rattle.lx_ccode.specs.Validity.{IsLine, IsShort}
use Rattle.lx_regex.specs.Limits.{HaveDifferentNumbers, NoneHasNumber, tags_of}
use Rattle.lx_regex.specs.Pattern.{Pattern, is_end, pattern_of, patterns_of, sorts_of, with_terms}
use Rattle.lx_regex.specs.Values.{group_ends}
use Rattle.lx_regex.specs.declared.rules.Rule.{Rule}
use Rattle.lx_regex.specs.declared.rules.Tag.{Tag}
use Rattle.lx_rules.specs.WellFormed.{HaveNames, HaveTagNames}
use Rattle.lx_rules.specs.declared.resolved.Act.{Act}
use Rattle.lx_auto.specs.Shapes.{is_history}
use Rattle.lx_tdfa.specs.Promise.{IsByRule}
use Rattle.lx_layout.specs.Endings.{Ending}
use Rattle.lx_layout.specs.Pieces.{FitsAccept}
use Rattle.lx_layout.specs.Rules.{names_of}
use Rattle.lx_layout.specs.Writable.{ActsOrGoes, CanBeWritten, IsOneOf}
use Rattle.lx_layout.specs.Written.{MayStand}
use Rattle.lx_gen.specs.Generated.{Marks, act_ending, endings_by, mark_of}
use Rattle.lx_rules.specs.Numbered.{numbered_act}
use Rattle.lx_gen.specs.Seen.{HaveShortLines}
use Rattle.lx_gen.proofs.Elements.{All-each}

-- ---- names of tags

may_past : (names : Spellings) (slash number : ℕ) (tags : List Tag) → slash < number → HaveNames names None tags
    → MayStand names (Some slash) number (names_of tags)
may_past names slash number [] past named = tt
may_past names slash number (tag ∷ tags) past named = (
  OnFalse_from (number == slash) (IsTagName names tag.name) (λ e. named.0),
  may_past names slash (suc number) tags (omega (arith, past)) named.1,
)

may_before : (names : Spellings) (slash number left : ℕ) (tags : List Tag) → number + left ≡ slash → HaveNames names (Some left) tags
    → MayStand names (Some slash) number (names_of tags)
may_before names slash number left [] is named = tt
may_before names slash number zero (tag ∷ tags) is named =
    let same : number ≡ slash = omega (arith, is) in (
      OnFalse_from (number == slash) (IsTagName names tag.name) (λ e. absurd (false≢true (sym e ∙ eq-eqb number slash same))),
      may_past names slash (suc number) tags (omega (arith, is)) named.1,
    )
may_before names slash number (suc left) (tag ∷ tags) is named = (
  OnFalse_from (number == slash) (IsTagName names tag.name) (λ e. named.0),
  may_before names slash (suc number) left tags (omega (arith, is)) named.1,
)

may_none : (names : Spellings) (number : ℕ) (tags : List Tag) → HaveNames names None tags → MayStand names None number (names_of tags)
may_none names number [] named = tt
may_none names number (tag ∷ tags) named = (named.0, may_none names (suc number) tags named.1)

may_stand : (names : Spellings) (slash : Option ℕ) (tags : List Tag) → HaveNames names slash tags → MayStand names slash 0 (names_of tags)
may_stand names None tags named = may_none names 0 tags named
may_stand names (Some slash) tags named = may_before names slash 0 slash tags (omega arith) named

-- ---- as many values as tags and ends of groups

group_ends-length : (groups : ℕ) → length (group_ends groups) ≡ 2 * groups
group_ends-length zero = omega arith
group_ends-length (suc groups) = let h : length (group_ends groups) ≡ 2 * groups = group_ends-length groups in omega (arith, h)

sorts-length : (rule : Rule) → length (sorts_of (pattern_of rule)) ≡ length (names_of rule.tags) + 2 * rule.groups
sorts-length rule =
    let both : length (map (λ (tag : Tag). tag.many) rule.tags ++ group_ends rule.groups)
    ≡ length (map (λ (tag : Tag). tag.many) rule.tags) + length (group_ends rule.groups) =
    length-append (map (λ (tag : Tag). tag.many) rule.tags) (group_ends rule.groups) in
    let tags : length (map (λ (tag : Tag). tag.many) rule.tags) ≡ length rule.tags = length-map rule.tags (λ (tag : Tag). tag.many) in
    let named : length (names_of rule.tags) ≡ length rule.tags = length-map rule.tags (λ (tag : Tag). tag.name) in
    let ends : length (group_ends rule.groups) ≡ 2 * rule.groups = group_ends-length rule.groups in
    omega (arith, both, tags, named, ends)

-- ---- acts

-- an act goes to a condition of the piece, and has an action or goes
pub record IsWritableAct (conds : List (List ℕ)) (act : Act) : Type 0 where
  pub goes : IsOneOf conds act.goes
  pub acts : ActsOrGoes act.code act.goes

pub act_there : (P : Act → Type 0) (acts : List Act) (number : ℕ) → AllByRecursion P acts → 0 < number → number ≤ length acts
    → (act : Act) × (numbered_act acts number ≡ Some act) × P act
act_there P acts zero each some few = absurd (omega (arith, some))
act_there P acts (suc place) each some few = within acts place each (omega (arith, few))
  where
    within : (acts : List Act) (place : ℕ) → AllByRecursion P acts → place < length acts → (act : Act) × (slice_get acts place ≡ Some act) × P act
    within [] place each lt = absurd (omega (arith, lt))
    within (act ∷ acts) zero each lt = (act, refl, each.0)
    within (act ∷ acts) (suc place) each lt = within acts place each.1 (omega (arith, lt))

module _ (marks : Marks) (acts : List Act) where
  -- each rule has its own ending, where numbers differ
  abbrev pub HaveOwnEndings : (endings : ℕ → Ending) → List Rule → Type 0
  HaveOwnEndings endings rules = AllByRecursion (λ (rule : Rule). endings rule.number ≡ act_ending marks rule (numbered_act acts rule.number)) rules

  own-first : (rule : Rule) (rules : List Rule) → endings_by marks acts (rule ∷ rules) rule.number ≡ act_ending marks rule (numbered_act acts rule.number)
  own-first rule rules =
      ap (λ t. if t then act_ending marks rule (numbered_act acts rule.number) else endings_by marks acts rules rule.number)
      (eq-eqb rule.number rule.number refl)

  own-later : (first : Rule) (list rules : List Rule) → NoneHasNumber first.number rules → HaveOwnEndings (endings_by marks acts list) rules
      → HaveOwnEndings (endings_by marks acts (first ∷ list)) rules
  own-later first list [] apart own = tt
  own-later first list (rule ∷ rules) apart own = (
    ap (λ t. if t then act_ending marks first (numbered_act acts rule.number) else endings_by marks acts list rule.number)
        (ne_eqb rule.number first.number apart.0) ∙ own.0,
    own-later first list rules apart.1 own.1,
  )

  pub own-apart : (rules : List Rule) → HaveDifferentNumbers rules → HaveOwnEndings (endings_by marks acts rules) rules
  own-apart [] apart = tt
  own-apart (rule ∷ rules) apart = (own-first rule rules, own-later rule rules rules apart.0 (own-apart rules apart.1))

module _ (names : Spellings) (conds : List (List ℕ)) (endings : ℕ → Ending) where
  -- a rule's end can be written, and gives the tags and the groups of the rule
  pub record EndsAs (rule : Rule) : Type 0 where
    pub short : IsShort rule.number
    pub written : CanBeWritten names conds (endings rule.number)
    pub tags : (endings rule.number).tags ≡ names_of rule.tags
    pub slash : (endings rule.number).slash ≡ rule.slash
    pub groups : (endings rule.number).groups ≡ rule.groups

  module _ (marks : Marks) (acts : List Act) (few_acts : length acts ≤ 2 * SOURCE_LIMIT) (writable : AllByRecursion (IsWritableAct conds) acts)
      (lines : HaveShortLines endings) where
    rule_ends : (rule : Rule) → endings rule.number ≡ act_ending marks rule (numbered_act acts rule.number) → (0 < rule.number) × (rule.number ≤ length acts)
        → HaveNames names rule.slash rule.tags → rule.groups ≤ 65 → EndsAs rule
    rule_ends rule own numbered named few =
        let there = act_there (IsWritableAct conds) acts rule.number writable numbered.0 numbered.1 in
        let is : endings rule.number ≡ act_ending marks rule (Some there.0) = own ∙ ap (λ o. act_ending marks rule o) there.1 in
        let line : IsLine (mark_of marks there.0.at) = subst (λ (ending : Ending). IsLine ending.line) is (lines rule.number) in
        let written : CanBeWritten names conds (act_ending marks rule (Some there.0)) = record {
          tags = may_stand names rule.slash rule.tags named;
          groups = few;
          goes = there.2.goes;
          acts = there.2.acts;
          line = line;
        } in
        record {
          short = omega (arith, numbered.1, few_acts);
          written = subst (λ (ending : Ending). CanBeWritten names conds ending) (sym is) written;
          tags = ap (λ (ending : Ending). ending.tags) is;
          slash = ap (λ (ending : Ending). ending.slash) is;
          groups = ap (λ (ending : Ending). ending.groups) is;
        }

    pub rules_end : (rules : List Rule) → HaveOwnEndings marks acts endings rules
        → AllByRecursion (λ (rule : Rule). (0 < rule.number) × (rule.number ≤ length acts)) rules → HaveTagNames names rules → tags_of rules ≤ 128
        → AllByRecursion EndsAs rules
    rules_end [] own numbered named few = tt
    rules_end (rule ∷ rules) own numbered named few = (
      rule_ends rule own.0 numbered.0 named.0 (omega (arith, few)),
      rules_end rules own.1 numbered.1 named.1 (omega (arith, few)),
    )

  -- ---- accepts

  -- an accept by the pattern fits its end
  abbrev PatternFits : Pattern → Type 0
  PatternFits pattern =
      (accept : Accept) → accept.rule ≡ pattern.number → map is_history accept.values ≡ sorts_of pattern → FitsAccept names conds endings accept

  rule_fits : (rule : Rule) → EndsAs rule → PatternFits (pattern_of rule)
  rule_fits rule ends accept is values =
      let many : length accept.values ≡ length (sorts_of (pattern_of rule)) = sym (length-map accept.values is_history) ∙ ap (λ l. length l) values in
      let sorts : length (sorts_of (pattern_of rule)) ≡ length (names_of rule.tags) + 2 * rule.groups = sorts-length rule in
      let tags : length (endings rule.number).tags ≡ length (names_of rule.tags) = ap (λ l. length l) ends.tags in
      let groups : (endings rule.number).groups ≡ rule.groups = ends.groups in
      let count : length accept.values ≡ length (endings rule.number).tags + 2 * (endings rule.number).groups =
      omega (arith, many, sorts, tags, groups) in
      record {
        short = subst IsShort (sym is) ends.short;
        ending = subst (λ number. CanBeWritten names conds (endings number)) (sym is) ends.written;
        values = subst (λ number. length accept.values ≡ length (endings number).tags + 2 * (endings number).groups) (sym is) count;
      }

  patterns_fit : (rules : List Rule) → AllByRecursion EndsAs rules → AllByRecursion PatternFits (with_terms (patterns_of rules))
  patterns_fit [] ends = tt
  patterns_fit (rule ∷ rules) ends = by (is_end rule.kind) (patterns_fit rules ends.1)
    where
      by : (t : Bool) → AllByRecursion PatternFits (with_terms (patterns_of rules))
          → AllByRecursion PatternFits (if t then with_terms (patterns_of rules) else pattern_of rule ∷ with_terms (patterns_of rules))
      by true again = again
      by false again = (rule_fits rule ends.0, again)

  pub accepts_fit : (enc : Enc) (rules : List Rule) (states : List State) → AllByRecursion EndsAs rules
      → All (λ (state : State). IsByRule enc (patterns_of rules) state.accept) states
      → All (λ (state : State). IfSome state.accept (FitsAccept names conds endings)) states
  accepts_fit enc rules states ends are = λ k d lt. by (slice_at k d) (are k d lt)
    where
      slice_at : (k : ℕ) (d : State) → Option Accept
      slice_at k d = (slice_index_or states k d).accept

      by : (o : Option Accept) → IsByRule enc (patterns_of rules) o → IfSome o (FitsAccept names conds endings)
      by None is = tt
      by (Some accept) is =
          All-contains PatternFits (with_terms (patterns_of rules)) is.0
          (All-each PatternFits (with_terms (patterns_of rules)) (patterns_fit rules ends)) is.1 accept is.2 is.3
