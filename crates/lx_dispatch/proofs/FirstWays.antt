-- Where first questions lead units, and what follows for a tree behind them.
use Rattle.std.specs.Prelude.{◌≡◌, ℕ, suc, ◌+◌, ◌-◌, ◌*◌, ◌/◌, ◌%◌, ◌^◌, ◌<◌, ◌≤◌, Bool, true, false, List, [], ◌∷◌, length, drop, get_or, Option, nat_le, ◌==◌, slice_index, if◌then◌else◌, refl}
use Rattle.std.specs.List.{AllByRecursion}
use Rattle.std.proofs.Common.{sym, ap, subst, ◌∙◌, arith, leb-true, leb-false, eqb-true, true≢false}
use Rattle.std.proofs.Math.ListN.{drop_of_length-le}
use Rattle.std.proofs.lemmas.Bool.{lt-leb}
use Rattle.std.proofs.lemmas.List.{drop_more}
use Rattle.lx_base.specs.declared.settings.Format.TheVariants.{Two, Three}
use Rattle.lx_ccode.specs.Machine.{is_among}
use Rattle.lx_dispatch.specs.Dispatch.{AreTestsOf, AsksRest, MayAsk, TestsWithin, fronted, is_first, top_of}
use Rattle.lx_dispatch.specs.FirstQuestions.{AreAsked, AreFirst, IsFirstQuestion, IsRestOf, LeadFrom, first_way, questions_of, seen_first}
use Rattle.lx_dispatch.specs.LeftUnits.{any_holds, left_split}
use Rattle.lx_dispatch.specs.TestTrees as trees
use Rattle.lx_dispatch.specs.TestTrees.{Ascend, Asked, AsksAtMost, EachTest, HasEnd, HasWay, IsPlain, IsTreeOf, Question, TestTree, among, at_most, by_question, class_on, depth, holds, picked, split_class, test}
use Rattle.lx_dispatch.specs.TransitionClasses.{Split, Stretch}
use Rattle.lx_dispatch.specs.Views.{seen_question}
use Rattle.lx_dispatch.specs.declared.first_questions.FirstQuestion.{FirstQuestion}
use Rattle.lx_dispatch.proofs.LeftWays.{part-left_split, split_class-left_split}
use Rattle.lx_dispatch.proofs.SplitTrees.{IsPlain-within, asked-at_most, each-tests}

-- ---- where units go

-- units of one stretch, and those behind it
pub LeadFrom-next : (sets : (set unit : ℕ) → Bool) (first : List (Question × Option ℕ)) (low top : ℕ) (stretch : Stretch) (list : List Stretch) (last : Option ℕ)
    → ((unit : ℕ) → low ≤ unit → unit ≤ stretch.greatest → unit ≤ 0xFF → first_way sets first stretch.class unit ≡ stretch.class)
    → LeadFrom sets first (suc stretch.greatest) top list last → LeadFrom sets first low top (stretch ∷ list) last
LeadFrom-next sets first low top stretch list last here behind unit above le byte = by (nat_le unit stretch.greatest) refl
  where
    by : (t : Bool) → nat_le unit stretch.greatest ≡ t
        → first_way sets first (if t then stretch.class else class_on list last unit) unit ≡ (if t then stretch.class else class_on list last unit)
    by true e = here unit above (leb-true unit stretch.greatest e) byte
    by false e = let more : stretch.greatest < unit = leb-false unit stretch.greatest e in behind unit (omega (arith, more)) le byte

-- no first question holds of a unit above 0xFF
holds-wide : (table : List ℕ) (question : Question) (unit : ℕ) → IsFirstQuestion (length table) question → 0xFF < unit → holds (is_among table) question unit ≡ false
holds-wide table (at_most greatest) unit is wide = absurd is
holds-wide table (trees.is one) unit is wide = by (unit == one) refl
  where
    by : (t : Bool) → (unit == one) ≡ t → t ≡ false
    by true e = let same : unit ≡ one = eqb-true unit one e in let small : one < 256 = is in absurd (omega (arith, same, small, wide))
    by false e = refl
holds-wide table (among set) unit is wide =
    ap (λ (t : Bool). if t then ((slice_index table (256 * (set / 8) + unit) / 2 ^ (set % 8)) % 2) == 1 else false) (lt-leb unit 0xFF wide)

first_way-wide : (table : List ℕ) (split : Split) (first : List (Question × Option ℕ)) (other : Option ℕ) (unit : ℕ) → AreAsked (length table) split first
    → 0xFF < unit → first_way (is_among table) first other unit ≡ other
first_way-wide table split [] other unit asked wide = refl
first_way-wide table split (one ∷ first) other unit asked wide =
    ap (λ (t : Bool). if t then one.1 else first_way (is_among table) first other unit) (holds-wide table one.0 unit asked.0.0 wide)
    ∙ first_way-wide table split first other unit asked.1 wide

pub first_way-each : (table : List ℕ) (top : ℕ) (split : Split) (first : List (Question × Option ℕ)) → AreAsked (length table) split first
    → LeadFrom (is_among table) first 0 top split.tests split.last
    → (unit : ℕ) → unit ≤ top → first_way (is_among table) first (split_class split unit) unit ≡ split_class split unit
first_way-each table top split first asked lead unit le = by (nat_le unit 0xFF) refl
  where
    by : (t : Bool) → nat_le unit 0xFF ≡ t → first_way (is_among table) first (split_class split unit) unit ≡ split_class split unit
    by true e = lead unit (omega arith) le (leb-true unit 0xFF e)
    by false e = first_way-wide table split first (split_class split unit) unit asked (leb-false unit 0xFF e)

pub AreFirst-none : (table : List ℕ) (top : ℕ) (split : Split) → AreFirst table top split []
AreFirst-none table top split = record { few = omega arith; each = tt; lead = λ unit le. refl }

-- ---- a tree behind first questions

-- one question more, from the last one on
pub fronted-next : (first : List FirstQuestion) (passed : ℕ) (none : FirstQuestion) (tree rest : TestTree (Option ℕ)) → passed < length first
    → tree ≡ fronted (seen_first (drop (length first - passed) first)) rest
    → test (seen_question (get_or first (length first - 1 - passed) none).question) (get_or first (length first - 1 - passed) none).class tree
    ≡ fronted (seen_first (drop (length first - (passed + 1)) first)) rest
fronted-next first passed none tree rest within so_far =
    let place = length first - 1 - passed in
    let one = get_or first place none in
    let before : length first - (passed + 1) ≡ place = omega arith in
    let behind : place + 1 ≡ length first - passed = omega arith in
    ap (λ tree. test (seen_question one.question) one.class tree) (so_far ∙ ap (λ n. fronted (seen_first (drop n first)) rest) (sym behind))
    ∙ ap (λ l. fronted (seen_first l) rest) (sym (drop_more first place none (omega arith)))
    ∙ ap (λ n. fronted (seen_first (drop n first)) rest) (sym before)

pub fronted-none : (first : List FirstQuestion) (rest : TestTree (Option ℕ)) → rest ≡ fronted (seen_first (drop (length first - 0) first)) rest
fronted-none first rest = ap (λ l. fronted (seen_first l) rest) (sym (drop_of_length-le first (omega arith)))

pub fronted-all : (first : List FirstQuestion) (passed : ℕ) (tree rest : TestTree (Option ℕ)) → length first ≤ passed
    → tree ≡ fronted (seen_first (drop (length first - passed) first)) rest → tree ≡ fronted (seen_first first) rest
fronted-all first passed tree rest past so_far =
    let none : length first - passed ≡ 0 = omega arith in so_far ∙ ap (λ n. fronted (seen_first (drop n first)) rest) none

-- where a unit goes
picked-fronted : (sets : (set unit : ℕ) → Bool) (first : List (Question × Option ℕ)) (rest : TestTree (Option ℕ)) (unit : ℕ)
    → picked sets (fronted first rest) unit ≡ first_way sets first (picked sets rest unit) unit
picked-fronted sets [] rest unit = refl
picked-fronted sets (one ∷ first) rest unit =
    ap (λ way. if holds sets one.0 unit then one.1 else way) (picked-fronted sets first rest unit)

-- where a question holds, other ways are of no account
first_way-decided : (sets : (set unit : ℕ) → Bool) (first : List (Question × Option ℕ)) (unit : ℕ) → any_holds sets (questions_of first) unit ≡ true
    → (other way : Option ℕ) → first_way sets first other unit ≡ first_way sets first way unit
first_way-decided sets [] unit some other way = absurd (true≢false (sym some))
first_way-decided sets (one ∷ first) unit some other way = by (holds sets one.0 unit) some (first_way-decided sets first unit)
  where
    by : (t : Bool) → (if t then true else any_holds sets (questions_of first) unit) ≡ true
        → (any_holds sets (questions_of first) unit ≡ true → (other way : Option ℕ) → first_way sets first other unit ≡ first_way sets first way unit)
        → (if t then one.1 else first_way sets first other unit) ≡ (if t then one.1 else first_way sets first way unit)
    by true some again = refl
    by false some again = again some other way

module _ (table : List ℕ) (top greatest : ℕ) (split : Split) where
  abbrev sets : (set unit : ℕ) → Bool
  sets = is_among table

  picks-fronted : (first : List (Question × Option ℕ)) (rest : TestTree (Option ℕ)) → AreFirst table top split first
      → IsRestOf table top greatest split first rest → (unit : ℕ) → unit ≤ top → picked (is_among table) (fronted first rest) unit ≡ split_class split unit
  picks-fronted first rest are is unit le =
      picked-fronted sets first rest unit ∙ by (any_holds sets (questions_of first) unit) refl ∙ are.lead unit le
    where
      by : (t : Bool) → any_holds sets (questions_of first) unit ≡ t
          → first_way sets first (picked sets rest unit) unit ≡ first_way sets first (split_class split unit) unit
      by true e = first_way-decided sets first unit e (picked sets rest unit) (split_class split unit)
      by false e = ap (λ way. first_way sets first way unit) (is.picks unit le e)

  may_ask-first : (question : Question) → IsFirstQuestion (length table) question → MayAsk (length table) greatest split.tests (by_question question)
  may_ask-first (at_most unit) is = absurd is
  may_ask-first (trees.is unit) is = is
  may_ask-first (among set) is = is

  is_first-first : (question : Question) → IsFirstQuestion (length table) question → is_first question ≡ true
  is_first-first (at_most unit) is = absurd is
  is_first-first (trees.is unit) is = refl
  is_first-first (among set) is = refl

  within-fronted : (first : List (Question × Option ℕ)) (rest : TestTree (Option ℕ)) → AreAsked (length table) split first
      → TestsWithin (length table) greatest split rest → TestsWithin (length table) greatest split (fronted first rest)
  within-fronted [] rest asked within = within
  within-fronted (one ∷ first) rest asked within = (may_ask-first one.0 asked.0.0, asked.0.1, within-fronted first rest asked.1 within)

  sorts-first : (first : List (Question × Option ℕ)) → AreAsked (length table) split first → AllByRecursion (λ one. is_first one.0 ≡ true) first
  sorts-first [] asked = tt
  sorts-first (one ∷ first) asked = (is_first-first one.0 asked.0.0, sorts-first first asked.1)

  -- a tree of the tests of the split that first questions leave
  pub rest-tree : (first : List (Question × Option ℕ)) (left : Split) (tree : TestTree (Option ℕ)) → Ascend 0 split.tests
      → left ≡ left_split (any_holds (is_among table) (questions_of first)) top split → IsTreeOf left tree → IsRestOf table top greatest split first tree
  rest-tree first left tree order is of =
      let decided = any_holds sets (questions_of first) in
      let part = part-left_split decided top split in record {
        picks = λ unit le open_. of.picks sets unit ∙ ap (λ (s : Split). split_class s unit) is ∙ split_class-left_split decided top split unit order le open_;
        within =
            each-tests (AsksAtMost (HasEnd left.tests)) (MayAsk (length table) greatest split.tests) (HasWay left.tests left.last)
            (HasWay split.tests split.last)
            (asked-at_most (HasEnd left.tests) (MayAsk (length table) greatest split.tests)
            (λ unit h. part.0 unit (subst (λ (s : Split). HasEnd s.tests unit) is h)))
            (λ class h. part.1 class (subst (λ (s : Split). HasWay s.tests s.last class) is h)) tree of.ends;
        others =
            each-tests (AsksAtMost (HasEnd left.tests)) AsksRest (HasWay left.tests left.last) (λ class. Unit {0})
            (asked-at_most (HasEnd left.tests) AsksRest (λ unit h. refl)) (λ class h. tt) tree of.ends;
        few = subst (λ (s : Split). 2 ^ depth tree ≤ 2 * suc (length s.tests) + 1) is of.few;
      }

-- ---- the whole

pub AreTestsOf-three : (table : List ℕ) (eof : Option ℕ) (greatest : ℕ) (split : Split) (first : List (Question × Option ℕ)) (rest tree : TestTree (Option ℕ))
    → AreFirst table (top_of eof greatest) split first → IsRestOf table (top_of eof greatest) greatest split first rest → tree ≡ fronted first rest
    → AreTestsOf Three table eof greatest split tree
AreTestsOf-three table eof greatest split first rest tree are is same =
    subst (λ tree. AreTestsOf Three table eof greatest split tree) (sym same) (record {
      picks = picks-fronted table (top_of eof greatest) greatest split first rest are is;
      within = within-fronted table (top_of eof greatest) greatest split first rest are.each is.within;
      few = record {
        first = first;
        rest = rest;
        is = refl;
        at_most_five = are.few;
        sorts = sorts-first table (top_of eof greatest) greatest split first are.each;
        others = is.others;
        few = is.few;
      };
    })

pub AreTestsOf-two : (table : List ℕ) (eof : Option ℕ) (greatest : ℕ) (split : Split) (tree : TestTree (Option ℕ)) → IsTreeOf split tree
    → AreTestsOf Two table eof greatest split tree
AreTestsOf-two table eof greatest split tree of = record {
  picks = λ unit le. of.picks (is_among table) unit;
  within =
      each-tests (AsksAtMost (HasEnd split.tests)) (MayAsk (length table) greatest split.tests) (HasWay split.tests split.last)
      (HasWay split.tests split.last) (asked-at_most (HasEnd split.tests) (MayAsk (length table) greatest split.tests) (λ unit h. h)) (λ class h. h)
      tree of.ends;
  few = record { plain = IsPlain-within split tree of.ends; few = of.few };
}
