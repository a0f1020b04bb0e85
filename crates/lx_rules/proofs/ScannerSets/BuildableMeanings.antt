-- What expressions mean can be built within the limits of a scanner, and so can what is kept of definitions.
use Rattle.std.proofs.Common.{◌≡◌, ℕ, suc, ◌+◌, ◌<◌, ◌≤◌, ◌^◌, max, Bool, true, false, List, [], ◌∷◌, ◌++◌, length, map, Option, None, Some, refl, sym, ap, subst, arith, length-append}
use Rattle.std.specs.List.{AllByRecursion}
use Rattle.std.specs.Prelude.{nat_le, ◌&&◌}
use Rattle.std.specs.Str.{bytes_eq}
use Rattle.lx_base.specs.declared.places.Pos.{Pos}
use Rattle.lx_base.specs.declared.settings.EmptyPolicy.{EmptyPolicy}
use Rattle.lx_base.specs.declared.settings.EmptyPolicy.TheVariants.{MatchEmpty, MatchNone, Error}
use Rattle.lx_base.specs.declared.settings.Options.{Options}
use Rattle.lx_class.specs.declared.ranges.Range.{Range}
use Rattle.lx_token.specs.declared.kinds.TokenKind.{TokenKind}
use Rattle.lx_token.specs.declared.kinds.TokenKind.TheVariants as kind
use Rattle.lx_token.specs.declared.numbers.Repeat.{Repeat}
use Rattle.lx_regex.specs.Expr.{members_of, times}
use Rattle.lx_regex.specs.Limits.{member_count}
use Rattle.lx_regex.specs.Term.{Term, Terms, empty, class, any_unit, cat, alt, repeat, tag, nil, cons}
use Rattle.lx_regex.specs.Term as term
use Rattle.lx_regex.specs.declared.rules.Tag.{Tag}
use Rattle.lx_rules.specs.Buildable.{IsExpressible, AreExpressible, IsBuildable}
use Rattle.lx_exprs.specs.Checks.{are_groups, bounds_of, inner_operand, tag_of}
use Rattle.lx_exprs.specs.Defined.{Before, Definition, IsClassKept, IsDefined, IsTermKept, Meaning, Shape, one, row, choice, count_of, definition_of, is_built, kept, meant_class, whole, whole_room}
use Rattle.lx_forms.specs.Forms.{Form, leaf, group, repeated, sequence, difference, alternative}
use Rattle.lx_regex.specs.Pattern.{is_end}
use Rattle.lx_rules.specs.Items.{any_meaning, as_rule, end_meaning, in_whole, trailing}
use Rattle.lx_rules.specs.Rules.{RuleOf}
use Rattle.lx_forms.specs.Lexemes.{Lexeme, points_in}
use Rattle.lx_exprs.specs.Meanings.{IsLeafMeaning, IsMeaning, alternated, character_set, class_meaning, class_term, copied, enclosed, followed, grouped, in_choice, in_group, in_parentheses, in_row, parenthesized, past, repeated_by, set_term, shifted, shifted_all, string_meaning, string_term, tag_meaning, term_or_empty}
use Rattle.lx_exprs.proofs.Contents.ValueLimits.{at_least, both_of, times-some}
use Rattle.lx_exprs.proofs.TagLists.TagNumbers.{member_count-shifted}

-- how many terms stand beside one another
abbrev term_count : Shape → ℕ
term_count (one term) = 1
term_count (row terms) = length terms
term_count (choice terms) = length terms

-- a meaning counts for each of its terms, and an expression can stand for it within the limit of a scanner
pub record IsMeantBuildable (meaning : Meaning) : Type 0 where
  pub some : 1 ≤ meaning.size
  pub few : term_count meaning.shape ≤ meaning.size
  pub expressible : meaning.size ≤ 4096 → IsExpressible (whole meaning.shape)

-- a rule can be built, and `$` is small
pub record IsRuleBuildable (rule : RuleOf) : Type 0 where
  pub meaning : IsMeantBuildable rule.meaning
  pub small : is_end rule.kind ≡ true → rule.meaning.size ≤ 4096

member_count-members : (terms : List Term) → member_count (members_of terms) ≡ length terms
member_count-members [] = refl
member_count-members (term ∷ terms) = ap suc (member_count-members terms)

expressible-append : (front back : List Term) → AreExpressible (members_of front) → AreExpressible (members_of back)
    → AreExpressible (members_of (front ++ back))
expressible-append [] back here there = there
expressible-append (term ∷ front) back here there = (here.0, expressible-append front back here.1 there)

-- terms within the limit are few enough for a vector
count_small : (terms : List Term) → length terms ≤ 4096 → member_count (members_of terms) < 2 ^ 63
count_small terms few = let same = member_count-members terms in omega (arith, few, same)

in_row-expressible : (shape : Shape) → IsExpressible (whole shape) → AreExpressible (members_of (in_row shape))
in_row-expressible (one term) is = (is, tt)
in_row-expressible (row terms) is = is.1
in_row-expressible (choice terms) is = (is, tt)

in_choice-expressible : (shape : Shape) → IsExpressible (whole shape) → AreExpressible (members_of (in_choice shape))
in_choice-expressible (one term) is = (is, tt)
in_choice-expressible (row terms) is = (is, tt)
in_choice-expressible (choice terms) is = is.1

in_row-few : (size : ℕ) (shape : Shape) → 1 ≤ size → term_count shape ≤ size → length (in_row shape) ≤ size
in_row-few size (one term) some few = omega (arith, some)
in_row-few size (row terms) some few = few
in_row-few size (choice terms) some few = omega (arith, some)

in_choice-few : (size : ℕ) (shape : Shape) → 1 ≤ size → term_count shape ≤ size → length (in_choice shape) ≤ size
in_choice-few size (one term) some few = omega (arith, some)
in_choice-few size (row terms) some few = omega (arith, some)
in_choice-few size (choice terms) some few = few

class_expressible : (operand : Bool) (policy : EmptyPolicy) (set : List Range) → IsExpressible (class_term operand policy set)
class_expressible true policy set = tt
class_expressible false MatchEmpty [] = tt
class_expressible false MatchEmpty (range ∷ set) = tt
class_expressible false MatchNone set = tt
class_expressible false Error set = tt

class_buildable : (operand : Bool) (policy : EmptyPolicy) (nesting : ℕ) (tags : List Tag) (groups count : ℕ) (set : List Range)
    → IsMeantBuildable (class_meaning operand policy nesting tags groups count set)
class_buildable operand policy nesting tags groups count set =
    record { some = omega arith; few = omega arith; expressible = λ within. class_expressible operand policy set }

sets_expressible : (sets : List (List Range)) → AreExpressible (members_of (map set_term sets))
sets_expressible [] = tt
sets_expressible (set ∷ sets) = (tt, sets_expressible sets)

sets_count : (sets : List (List Range)) → member_count (members_of (map set_term sets)) ≡ length sets
sets_count [] = refl
sets_count (set ∷ sets) = ap suc (sets_count sets)

string_expressible : (sets : List (List Range)) → length sets ≤ 4096 → IsExpressible (string_term sets)
string_expressible [] few = tt
string_expressible (set ∷ []) few = tt
string_expressible (set ∷ next ∷ sets) few =
    let same = sets_count (set ∷ next ∷ sets) in (omega (arith, same, few), sets_expressible (set ∷ next ∷ sets))

string_buildable : (count : ℕ) (sets : List (List Range)) → IsMeantBuildable (string_meaning count sets)
string_buildable count sets =
    record { some = omega arith; few = omega arith; expressible = λ within. string_expressible sets (omega (arith, within)) }

pub any_buildable : IsMeantBuildable any_meaning
any_buildable = record { some = omega arith; few = omega arith; expressible = λ within. tt }

pub end_buildable : IsMeantBuildable end_meaning
end_buildable = record { some = omega arith; few = omega arith; expressible = λ within. tt }

-- the expression of a rule
pub as_rule_buildable : (is_group : Bool) (inner : Meaning) → IsMeantBuildable inner → IsMeantBuildable (as_rule is_group inner)
as_rule_buildable true inner is = record { some = is.some; few = is.some; expressible = λ within. (0, refl, refl, is.expressible within) }
as_rule_buildable false inner is = record { some = is.some; few = is.some; expressible = is.expressible }

-- and with a trailing context
pub trailing_buildable : (is_group : Bool) (first second : Meaning) → IsMeantBuildable first → IsMeantBuildable second
    → IsMeantBuildable (trailing is_group first second).means
trailing_buildable is_group first second is is_too = record {
  some = omega arith;
  few = let here = is.some in let there = is_too.some in omega (arith, here, there);
  expressible = λ within. (
    omega arith,
    (whole_expressible is_group (whole first.shape) (is.expressible (omega (arith, within))), (tt, (is_too.expressible (omega (arith, within)), tt))),
  );
}
  where
    whole_expressible : (is_group : Bool) (term : Term) → IsExpressible term → IsExpressible (in_whole is_group term)
    whole_expressible true term is = (0, refl, refl, is)
    whole_expressible false term is = is

tag_buildable : (before : Before) (named : Tag) → IsMeantBuildable (tag_meaning before named)
tag_buildable before named = record { some = omega arith; few = omega arith; expressible = λ within. tt }

-- a copy of a definition
module _ (by groups : ℕ) where
  mutual
    shifted_expressible : (body : Term) → IsExpressible body → IsExpressible (shifted by groups body)
    shifted_expressible empty is = tt
    shifted_expressible (class ranges) is = tt
    shifted_expressible any_unit is = tt
    shifted_expressible (cat members) is =
        (subst (λ n. n < 2 ^ 63) (sym (member_count-shifted by groups members)) is.0, shifted_all_expressible members is.1)
    shifted_expressible (alt members) is =
        (subst (λ n. n < 2 ^ 63) (sym (member_count-shifted by groups members)) is.0, shifted_all_expressible members is.1)
    shifted_expressible (repeat body low high) is = shifted_expressible body is
    shifted_expressible (tag number) is = tt
    shifted_expressible (term.group opening closing body) is =
        (is.0 + groups, omega (arith, is.1), omega (arith, is.2), shifted_expressible body is.3)

    shifted_all_expressible : (members : Terms) → AreExpressible members → AreExpressible (shifted_all by groups members)
    shifted_all_expressible nil are = tt
    shifted_all_expressible (cons member members) are = (shifted_expressible member are.0, shifted_all_expressible members are.1)

copied_buildable : (before : Before) (definition : Definition) → IsBuildable definition → IsMeantBuildable (copied before definition)
copied_buildable before definition is = record {
  some = is.0;
  few = is.0;
  expressible = λ within. shifted_expressible (length before.tags) before.groups (term_or_empty definition.term) is.1;
}

enclosed_buildable : (inner : Meaning) → IsMeantBuildable inner → IsMeantBuildable (enclosed inner)
enclosed_buildable inner is = record { some = is.some; few = is.some; expressible = is.expressible }

grouped_buildable : (number : ℕ) (inner : Meaning) → IsMeantBuildable inner → IsMeantBuildable (grouped number inner)
grouped_buildable number inner is = record {
  some = omega arith;
  few = omega arith;
  expressible = λ within. (number, refl, refl, is.expressible (omega (arith, within)));
}

parenthesized_buildable : (is_group : Bool) (before : Before) (inner : Meaning) → IsMeantBuildable inner
    → IsMeantBuildable (parenthesized is_group before inner)
parenthesized_buildable true before inner is = grouped_buildable (in_group before).groups inner is
parenthesized_buildable false before inner is = enclosed_buildable inner is

repeated_buildable : (bounds : Repeat) (inner : Meaning) → IsMeantBuildable inner → IsMeantBuildable (repeated_by bounds inner)
repeated_buildable bounds inner is =
    record { some = omega arith; few = omega arith; expressible = λ within. is.expressible (less within) }
  where
    less : (repeated_by bounds inner).size ≤ 4096 → inner.size ≤ 4096
    less within = let more = at_least inner.size (times bounds.min bounds.max) (times-some bounds.min bounds.max) in omega (arith, within, more)

followed_buildable : (first second : Meaning) → IsMeantBuildable first → IsMeantBuildable second → IsMeantBuildable (followed first second)
followed_buildable first second is is_too = record {
  some = let here = is.some in omega (arith, here);
  few = few;
  expressible = λ within. (
    count_small (in_row first.shape ++ in_row second.shape) (omega (arith, few, within)),
    expressible-append (in_row first.shape) (in_row second.shape)
        (in_row-expressible first.shape (is.expressible (omega (arith, within))))
        (in_row-expressible second.shape (is_too.expressible (omega (arith, within)))),
  );
}
  where
    few : length (in_row first.shape ++ in_row second.shape) ≤ first.size + second.size
    few =
        let all = length-append (in_row first.shape) (in_row second.shape) in
        let here = in_row-few first.size first.shape is.some is.few in
        let there = in_row-few second.size second.shape is_too.some is_too.few in
        omega (arith, all, here, there)

alternated_buildable : (first second : Meaning) → IsMeantBuildable first → IsMeantBuildable second → IsMeantBuildable (alternated first second)
alternated_buildable first second is is_too = record {
  some = let here = is.some in omega (arith, here);
  few = few;
  expressible = λ within. (
    count_small (in_choice first.shape ++ whole second.shape ∷ []) (omega (arith, few, within)),
    expressible-append (in_choice first.shape) (whole second.shape ∷ [])
        (in_choice-expressible first.shape (is.expressible (omega (arith, within))))
        (is_too.expressible (omega (arith, within)), tt),
  );
}
  where
    few : length (in_choice first.shape ++ whole second.shape ∷ []) ≤ (alternated first second).size
    few =
        let all = length-append (in_choice first.shape) (whole second.shape ∷ []) in
        let here = in_choice-few first.size first.shape is.some is.few in
        let there = is_too.some in
        omega (arith, all, here, there)

definition_buildable : (definitions : List Definition) (name : List ℕ) (definition : Definition) → AllByRecursion IsBuildable definitions
    → definition_of definitions name ≡ Some definition → IsBuildable definition
definition_buildable [] name definition are found = absurd (let h : None ≡ Some definition = found in cc)
definition_buildable (first ∷ definitions) name definition are found =
    at (bytes_eq name first.name) refl (λ behind. definition_buildable definitions name definition are.1 behind)
  where
    at : (b : Bool) → bytes_eq name first.name ≡ b → (definition_of definitions name ≡ Some definition → IsBuildable definition) → IsBuildable definition
    at true e later =
        let same : Some first ≡ Some definition = rw (e) at found in
        let is : first ≡ definition = cc in subst IsBuildable is are.0
    at false e later = later (rw (e) at found)

module _ (options : Options) (definitions : List Definition) (ready : AllByRecursion IsBuildable definitions) where
  leaf_buildable : (operand : Bool) (sort : TokenKind) (before : Before) (lexeme : Lexeme) (meaning : Meaning)
      → IsLeafMeaning options definitions operand sort before lexeme meaning → IsMeantBuildable meaning
  leaf_buildable operand kind.Str before lexeme meaning is =
      subst IsMeantBuildable (sym is) (string_buildable (count_of before) (map (character_set options.surrogates false) (points_in lexeme)))
  leaf_buildable operand kind.IStr before lexeme meaning is =
      subst IsMeantBuildable (sym is) (string_buildable (count_of before) (map (character_set options.surrogates true) (points_in lexeme)))
  leaf_buildable operand kind.Class before lexeme meaning is =
      subst IsMeantBuildable (sym is.2) (class_buildable operand options.empty 0 [] 0 (count_of before) is.0)
  leaf_buildable operand kind.Signs before lexeme meaning is =
      subst IsMeantBuildable (sym is.2) (class_buildable operand options.empty 0 [] 0 (count_of before) is.0)
  leaf_buildable operand kind.Name before lexeme meaning is =
      subst IsMeantBuildable (sym is.2) (copied_buildable before is.0 (definition_buildable definitions lexeme.text is.0 ready is.1))
  leaf_buildable operand kind.STag before lexeme meaning is =
      subst IsMeantBuildable (sym is) (tag_buildable before (tag_of false lexeme))
  leaf_buildable operand kind.MTag before lexeme meaning is =
      subst IsMeantBuildable (sym is) (tag_buildable before (tag_of true lexeme))
  leaf_buildable operand sort before lexeme meaning is = absurd is

  -- the meaning of each expression
  pub form_buildable : (operand : Bool) (before : Before) (form : Form) (meaning : Meaning)
      → IsMeaning options definitions operand before form meaning → IsMeantBuildable meaning
  form_buildable operand before (leaf lexeme) meaning is = leaf_buildable operand lexeme.kind before lexeme meaning is
  form_buildable operand before (group opening inner) meaning is =
      subst IsMeantBuildable (sym is.2)
      (parenthesized_buildable (are_groups options definitions) before is.0
      (form_buildable (inner_operand options definitions operand) (in_parentheses (are_groups options definitions) before) inner is.0 is.1))
  form_buildable operand before (repeated inner sign) meaning is =
      subst IsMeantBuildable (sym is.2) (repeated_buildable (bounds_of sign) is.0 (form_buildable false before inner is.0 is.1))
  form_buildable operand before (sequence front back) meaning is =
      subst IsMeantBuildable (sym is.4)
      (followed_buildable is.0 is.1 (form_buildable false before front is.0 is.2)
      (form_buildable false (past options definitions before front) back is.1 is.3))
  form_buildable operand before (difference left sign right) meaning is =
      subst IsMeantBuildable (sym is.4.2)
      (class_buildable operand options.empty (max is.0.nesting is.1.nesting) (is.0.tags ++ is.1.tags) (kept (is.0.groups + is.1.groups)) (max is.0.count is.1.count) is.4.0)
  form_buildable operand before (alternative left sign right) meaning is =
      subst IsMeantBuildable (sym is.4)
      (alternated_buildable is.0 is.1 (form_buildable operand before left is.0 is.2)
      (form_buildable operand (past options definitions before left) right is.1 is.3))

-- what is kept of an expression
class_kept_expressible : (ranges : Option (List (ℕ × ℕ))) (term : Option Term) → IsClassKept ranges term → IsExpressible (term_or_empty term)
class_kept_expressible ranges None is = tt
class_kept_expressible ranges (Some term) is = subst IsExpressible (sym is.2) tt

pub defined_buildable : (name : List ℕ) (at : Pos) (meaning : Meaning) (definition : Definition) → IsDefined name at meaning definition
    → IsMeantBuildable meaning → IsBuildable definition
defined_buildable name place meaning definition is buildable = (counts, at (is_built whole_room meaning) refl is.term)
  where
    counts : 1 ≤ definition.size
    counts = let same = is.size in let some = buildable.some in omega (arith, same, some)

    within : is_built whole_room meaning ≡ true → meaning.size ≤ 4096
    within built =
        let fits = (both_of (nat_le meaning.size 4096) (nat_le meaning.nesting 256 && nat_le meaning.count 128) built).0 in search (arith, fits)

    at : (b : Bool) → is_built whole_room meaning ≡ b → IsTermKept b meaning definition.term → IsExpressible (term_or_empty definition.term)
    at true e term = subst (λ t. IsExpressible (term_or_empty t)) (sym term) (buildable.expressible (within e))
    at false e term = class_kept_expressible (meant_class meaning) definition.term term
