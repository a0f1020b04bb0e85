-- Scanners whose rules are copies of those that are kept.
use Rattle.std.proofs.Common.{◌≡◌, ℕ, zero, suc, ◌+◌, ◌<◌, ◌≤◌, ◌⊎◌, inl, inr, Bool, true, false, List, [], ◌∷◌, ◌++◌, map, length, take, get_or, Option, None, Some, IfSome, refl, sym, ap, ap₂, ◌∙◌, subst, arith}
use Rattle.std.specs.Prelude.{not, if◌then◌else◌}
use Rattle.std.specs.List.{AllByRecursion, AllZip}
use Rattle.std.specs.Option.{option_map, option_or}
use Rattle.std.proofs.lemmas.List.{take_more}
use Rattle.std.proofs.lemmas.List.Elements.{All-from_recursion}
use Rattle.std.proofs.lemmas.Slice.Zip.{all_zipped_more}
use Rattle.lx_base.specs.declared.faults.Fault.{Fault}
use Rattle.lx_base.specs.declared.faults.Stop.{Stop}
use Rattle.lx_base.specs.declared.faults.Stop.TheVariants as stop
use Rattle.lx_base.specs.declared.places.Pos.{Pos}
use Rattle.lx_regex.specs.Expr.{size_of, term_of}
use Rattle.lx_regex.specs.Kinds.{HasKind, HasRightKinds, HaveKinds, kinds_of}
use Rattle.lx_regex.specs.Limits.{end_count, sizes_of}
use Rattle.lx_regex.specs.Pattern as regex
use Rattle.lx_regex.specs.Pattern.{Pattern, is_end}
use Rattle.lx_regex.specs.declared.expr.Expr.{Expr}
use Rattle.lx_regex.specs.declared.rules.Rule.{Rule}
use Rattle.lx_regex.specs.declared.rules.Tag.{Tag}
use Rattle.lx_exprs.specs.Checks.{Finds, StopsAt, is_among, tag_names}
use Rattle.lx_exprs.specs.Defined.{Meaning, kept, term_of_meaning}
use Rattle.lx_exprs.specs.Meanings.{behind}
use Rattle.lx_exprs.specs.FitDefinitions.{FitsKept}
use Rattle.lx_exprs.proofs.Contents.TermsBehind.{term_of-behind}
use Rattle.lx_exprs.proofs.TagLists.TermTags.{HasTagsBelow-greater}
use Rattle.lx_rules.specs.declared.kept.KeptRule.{KeptRule}
use Rattle.lx_rules.specs.declared.resolved.Scanner.{Scanner}
use Rattle.lx_rules.specs.Blocks as blocks
use Rattle.lx_rules.specs.Blocks.{AreScanners, cond_name, every, given_names, names_of, not_of_kind, pattern_of, rules_of, scanner_fault, scanners_fault, tags_of}
use Rattle.lx_rules.specs.Finishing.{IsBuilt, IsCopyOf, IsBuiltScanner, kept_rules_of}
use Rattle.lx_rules.specs.Kept.{HasExprKinds, IsExprKept, IsKeptRule, is_within, may_stand, places_from}
use Rattle.lx_rules.specs.Rules.{RuleOf}
use Rattle.lx_rules.specs.FitScanners.{IsFit}
use Rattle.lx_rules.proofs.CondSets.CondNames.{list_any-among}
use Rattle.lx_rules.proofs.ScannerSets.KeptScanners.{StandsUnder, rules_of-zip}
use Rattle.lx_rules.proofs.ScannerSets.ScannerLimits.{AreLimited, own_within, scanner_limited, shared_within}
use Rattle.lx_rules.proofs.ZippedLists.{zip-both, zip-so}

slash_few : (slash : Option ℕ) (count : ℕ) → count ≤ 128 → IfSome slash (λ number. number ≤ count) → IfSome slash (λ number. number ≤ 128)
slash_few None count few less = tt
slash_few (Some number) count few less = omega (arith, few, less)

-- a rule that may stand in a scanner has its expression
built_one : (one : KeptRule) (rule : RuleOf) (stands : Bool) (expr : Option Expr) → one.expr ≡ expr → stands ≡ true → IsExprKept stands rule.meaning expr
    → FitsKept 0 expr one.size one.count → one.groups ≤ suc one.count → IfSome one.slash (λ number. number ≤ one.count)
    → one.count ≤ 128 → IsBuilt one
built_one one rule stands None is may past fits least counts few = absurd (let h : false ≡ true = sym past ∙ may in cc)
built_one one rule stands (Some expr) is may means fits least counts few =
    (expr, is, HasTagsBelow-greater 0 one.count 128 (term_of 0 expr) few fits.2, omega (arith, least, few), slash_few one.slash one.count few counts)

module _ (names : List (List ℕ)) (all : List RuleOf) (cond : List ℕ) (own : is_within all cond ≡ true) (shared : is_within all every ≡ true) where
  stands : (rule : RuleOf) → (is_among cond rule.conds ≡ true) ⊎ (is_among every rule.conds ≡ true) → may_stand all rule ≡ true
  stands rule (inl here) = list_any-among (is_within all) cond rule.conds here own
  stands rule (inr there) = list_any-among (is_within all) every rule.conds there shared

  all_built : (held : List KeptRule) (rules : List RuleOf) → AllZip (StandsUnder names all cond) held rules → tags_of (not_of_kind is_end rules) ≤ 128
      → AllByRecursion IsBuilt held
  all_built [] [] are few = tt
  all_built [] (rule ∷ rules) are few = absurd are
  all_built (one ∷ held) [] are few = absurd are
  all_built (one ∷ held) (rule ∷ rules) are few = at (is_end rule.kind) refl few (all_built held rules are.1)
    where
      is : IsKeptRule names all one rule
      is = are.0.held

      built : rule.meaning.count ≤ 128 → IsBuilt one
      built most =
          let count = is.count in
          built_one one rule (may_stand all rule) one.expr refl (stands rule are.0.under) is.expr is.fits is.few is.counted (omega (arith, count, most))

      at : (b : Bool) → is_end rule.kind ≡ b → tags_of (if not b then rule ∷ not_of_kind is_end rules else not_of_kind is_end rules) ≤ 128
          → (tags_of (not_of_kind is_end rules) ≤ 128 → AllByRecursion IsBuilt held) → AllByRecursion IsBuilt (one ∷ held)
      at true e most later =
          let none = ap (λ (meaning : Meaning). meaning.count) (is.end e) in (built (omega (arith, none)), later most)
      at false e most later = (built (omega (arith, most)), later (omega (arith, most)))

-- a copy has tags of the same kinds
kinds_same : (tags others : List Tag) (slash other : Option ℕ) (kinds known : List (ℕ × Bool)) → tags ≡ others → slash ≡ other → kinds ≡ known
    → HaveKinds others known × IfSome other (λ number. HasKind others (number, false))
    → HaveKinds tags kinds × IfSome slash (λ number. HasKind tags (number, false))
kinds_same tags others slash other kinds known same_tags same_slash same_kinds are =
    subst (λ l. HaveKinds l kinds × IfSome slash (λ number. HasKind l (number, false))) (sym same_tags)
    (subst (λ s. HaveKinds others kinds × IfSome s (λ number. HasKind others (number, false))) (sym same_slash)
    (subst (λ k. HaveKinds others k × IfSome other (λ number. HasKind others (number, false))) (sym same_kinds) are))

-- the rule of a scanner is as it is wanted
record IsCopied (most : ℕ) (built : Rule) (rule : RuleOf) : Type 0 where
  pattern : regex.pattern_of built ≡ pattern_of rule
  names : given_names built ≡ names_of rule
  some : 1 ≤ rule.meaning.size
  size : size_of built.expr ≤ rule.meaning.size
  number : (0 < built.number) × (built.number ≤ most)
  kinds : HasRightKinds built

copied : (names : List (List ℕ)) (all : List RuleOf) (one : KeptRule) (rule : RuleOf) (built : Rule) → IsKeptRule names all one rule → IsCopyOf one built
    → IsCopied (length all) built rule
copied names all one rule built is copy = record {
  pattern = λ j. record {
    number = number j;
    kind = (copy.kind ∙ is.kind) j;
    term = term j;
    many = map (λ (tag : Tag). tag.many) (tags j);
    slash = (copy.slash ∙ is.slash ∙ kept_same) j;
    groups = (copy.groups ∙ is.groups) j;
  };
  names = ap (λ (l : List Tag). tag_names l) tags;
  some = let least = fits.0 in let size = is.size in omega (arith, least, size);
  size = let less = fits.1 in let size = is.size in let same = copy.size in omega (arith, less, size, same);
  number = let same = copy.number in let placed = is.placed in (omega (arith, same, placed.0), omega (arith, same, placed.1));
  kinds =
      kinds_same built.tags one.tags built.slash one.slash (kinds_of built.expr) (kinds_of copy.expr) copy.tags copy.slash copy.kinds
      (subst (HasExprKinds one.tags one.slash) copy.kept is.kinds);
}
  where
    number : built.number ≡ rule.act.number
    number = copy.number ∙ is.number

    tags : built.tags ≡ rule.meaning.tags
    tags = copy.tags ∙ is.tags

    kept_same : option_map kept rule.slash ≡ rule.slash
    kept_same = of rule.slash (subst (λ slash. IfSome slash (λ number. number ≤ 128)) is.slash copy.slashed)
      where
        of : (slash : Option ℕ) → IfSome (option_map kept slash) (λ number. number ≤ 128) → option_map kept slash ≡ slash
        of None few = refl
        of (Some number) few = let same : kept number ≡ number = omega (arith, few) in ap Some same

    means : term_of 0 copy.expr ≡ term_of_meaning rule.meaning
    means = subst (IsExprKept (may_stand all rule) rule.meaning) copy.kept is.expr

    fits : FitsKept 0 (Some copy.expr) one.size one.count
    fits = subst (λ expr. FitsKept 0 expr one.size one.count) copy.kept is.fits

    term : term_of (length built.tags) built.expr ≡ behind (length rule.meaning.tags) (term_of_meaning rule.meaning)
    term =
        term_of-behind built.expr (length built.tags)
        ∙ ap₂ behind (ap (λ (l : List Tag). length l) tags) (copy.term ∙ means)

module _ (most : ℕ) where
  patterns_are : (built : List Rule) (rules : List RuleOf) → AllZip (IsCopied most) built rules → map regex.pattern_of built ≡ map pattern_of rules
  patterns_are [] [] are = refl
  patterns_are [] (rule ∷ rules) are = absurd are
  patterns_are (one ∷ built) [] are = absurd are
  patterns_are (one ∷ built) (rule ∷ rules) are = ap₂ (λ (p : Pattern) (l : List Pattern). p ∷ l) are.0.pattern (patterns_are built rules are.1)

  names_are : (built : List Rule) (rules : List RuleOf) → AllZip (IsCopied most) built rules → map given_names built ≡ map names_of rules
  names_are [] [] are = refl
  names_are [] (rule ∷ rules) are = absurd are
  names_are (one ∷ built) [] are = absurd are
  names_are (one ∷ built) (rule ∷ rules) are =
      ap₂ (λ (n : List (List ℕ)) (l : List (List (List ℕ))). n ∷ l) are.0.names (names_are built rules are.1)

  sizes_small : (built : List Rule) (rules : List RuleOf) → AllZip (IsCopied most) built rules
      → (sizes_of built ≤ blocks.size_of (not_of_kind is_end rules)) × (length built ≤ blocks.size_of (not_of_kind is_end rules) + end_count built)
  sizes_small [] [] are = (omega arith, omega arith)
  sizes_small [] (rule ∷ rules) are = absurd are
  sizes_small (one ∷ built) [] are = absurd are
  sizes_small (one ∷ built) (rule ∷ rules) are = at (is_end rule.kind) refl (sizes_small built rules are.1)
    where
      same : (b : Bool) → is_end rule.kind ≡ b → regex.is_end one.kind ≡ b
      same b e = ap (λ (p : Pattern). is_end p.kind) are.0.pattern ∙ e

      at : (b : Bool) → is_end rule.kind ≡ b
          → (sizes_of built ≤ blocks.size_of (not_of_kind is_end rules)) × (length built ≤ blocks.size_of (not_of_kind is_end rules) + end_count built)
          → (sizes_of (one ∷ built) ≤ blocks.size_of (if not b then rule ∷ not_of_kind is_end rules else not_of_kind is_end rules))
          × (length (one ∷ built) ≤ blocks.size_of (if not b then rule ∷ not_of_kind is_end rules else not_of_kind is_end rules) + end_count (one ∷ built))
      at true e later = let a = later.0 in let b = later.1 in rw (same true e) (omega (arith, a), omega (arith, b))
      at false e later =
          let a = later.0 in let b = later.1 in let size = are.0.size in let some = are.0.some in
          rw (same false e) (omega (arith, a, size), omega (arith, b, some))

  numbers_are : (built : List Rule) (rules : List RuleOf) → AllZip (IsCopied most) built rules
      → AllByRecursion (λ (rule : Rule). (0 < rule.number) × (rule.number ≤ most)) built
  numbers_are [] [] are = tt
  numbers_are [] (rule ∷ rules) are = absurd are
  numbers_are (one ∷ built) [] are = absurd are
  numbers_are (one ∷ built) (rule ∷ rules) are = (are.0.number, numbers_are built rules are.1)

  kinds_are : (built : List Rule) (rules : List RuleOf) → AllZip (IsCopied most) built rules → AllByRecursion HasRightKinds built
  kinds_are [] [] are = tt
  kinds_are [] (rule ∷ rules) are = absurd are
  kinds_are (one ∷ built) [] are = absurd are
  kinds_are (one ∷ built) (rule ∷ rules) are = (are.0.kinds, kinds_are built rules are.1)

module _ (named : Bool) (at : Pos) (eof : Option ℕ) (names : List (List ℕ)) (held : List KeptRule) (rules : List RuleOf) (are : AllZip (IsKeptRule names rules) held rules)
    (places : List ℕ → List ℕ) (placed : (cond : List ℕ) → places cond ≡ places_from 0 rules cond) (cond : List ℕ) where
  -- the rules of the scanner are as its checks want them
  pub scanner_zip : AllZip (IsKeptRule names rules) (kept_rules_of places cond held) (rules_of cond rules)
  scanner_zip =
      zip-so (StandsUnder names rules cond) (IsKeptRule names rules) (λ one rule is. is.held) (kept_rules_of places cond held) (rules_of cond rules)
      (rules_of-zip names rules held rules are places placed cond)

  module _ (none : scanner_fault at eof (rules_of cond rules) ≡ None) where
    most : AreLimited (rules_of cond rules)
    most = scanner_limited at eof (rules_of cond rules) none

    -- they can be copied
    pub scanner_built : AllByRecursion IsBuilt (kept_rules_of places cond held)
    scanner_built =
        all_built names rules cond (own_within cond rules most) (shared_within cond rules most) (kept_rules_of places cond held) (rules_of cond rules)
        (rules_of-zip names rules held rules are places placed cond) most.tags

    -- and with the copies it is as is wanted
    pub scanner_sound : (scanner : Scanner) → scanner.cond ≡ cond_name named cond → AllZip IsCopyOf (kept_rules_of places cond held) scanner.set.rules
        → IsBuiltScanner named at eof rules cond scanner
    scanner_sound scanner name copies =
        let built = scanner.set.rules in
        let wanted = rules_of cond rules in
        let all = zip-both (IsKeptRule names rules) IsCopyOf (IsCopied (length rules)) (λ one rule made is copy. copied names rules one rule made is copy)
        (kept_rules_of places cond held) wanted built scanner_zip copies in
        let small = sizes_small (length rules) built wanted all in
        let size = most.size in (
          none,
          record { name = name; patterns = patterns_are (length rules) built wanted all; names = names_are (length rules) built wanted all },
          record {
            size = omega (arith, small.0, size);
            few = omega (arith, small.1, size);
            numbers = All-from_recursion (λ (rule : Rule). (0 < rule.number) × (rule.number ≤ length rules)) built (numbers_are (length rules) built wanted all);
            kinds = kinds_are (length rules) built wanted all;
          },
        )

module _ (named : Bool) (at : Pos) (eof : Option ℕ) (rules : List RuleOf) where
  abbrev AreBuiltScanners : List (List ℕ) → List Scanner → Type 0
  AreBuiltScanners conds scanners = AllZip (IsBuiltScanner named at eof rules) conds scanners

  -- one scanner more
  pub sound_more : (conds : List (List ℕ)) (place : ℕ) (cond : List ℕ) (scanners : List Scanner) (scanner : Scanner) → place < length conds
      → get_or conds place [] ≡ cond → AreBuiltScanners (take place conds) scanners → IsBuiltScanner named at eof rules cond scanner
      → AreBuiltScanners (take (place + 1) conds) (scanners ++ scanner ∷ [])
  sound_more conds place cond scanners scanner lt is are one =
      let next = take_more conds place [] lt ∙ ap (λ c. take place conds ++ c ∷ []) is in
      subst (λ l. AreBuiltScanners l (scanners ++ scanner ∷ [])) (sym next)
      (all_zipped_more (IsBuiltScanner named at eof rules) (take place conds) scanners cond scanner are one)

  first_fault : (conds : List (List ℕ)) (place : ℕ) (scanners : List Scanner) (fault : Fault) → place < length conds → AreBuiltScanners (take place conds) scanners
      → Some fault ≡ scanner_fault at eof (rules_of (get_or conds place []) rules) → Some fault ≡ scanners_fault at eof rules conds
  first_fault [] place scanners fault lt are is = absurd (omega (arith, lt))
  first_fault (cond ∷ conds) zero scanners fault lt are is = ap (λ found. option_or found (scanners_fault at eof rules conds)) is
  first_fault (cond ∷ conds) (suc place) [] fault lt are is = absurd are
  first_fault (cond ∷ conds) (suc place) (scanner ∷ scanners) fault lt are is =
      first_fault conds place scanners fault (omega (arith, lt)) are.1 is
      ∙ sym (ap (λ found. option_or found (scanners_fault at eof rules conds)) are.0.0)

  -- the fault of the scanner behind others is the first one
  pub scanners_stop : (conds : List (List ℕ)) (place : ℕ) (cond : List ℕ) (scanners : List Scanner) (stopped : Stop) → place < length conds
      → get_or conds place [] ≡ cond → AreBuiltScanners (take place conds) scanners → StopsAt (Finds (scanner_fault at eof (rules_of cond rules))) stopped
      → StopsAt (Finds (scanners_fault at eof rules conds)) stopped
  scanners_stop conds place cond scanners stop.Memory lt is are stops = tt
  scanners_stop conds place cond scanners (stop.Fault fault) lt is are stops =
      first_fault conds place scanners fault lt are (stops ∙ ap (λ c. scanner_fault at eof (rules_of c rules)) (sym is))

  -- the checks of scanners that are built so find nothing
  pub built_checked : (conds : List (List ℕ)) (scanners : List Scanner) → AreBuiltScanners conds scanners → scanners_fault at eof rules conds ≡ None
  built_checked [] [] are = refl
  built_checked [] (scanner ∷ scanners) are = absurd are
  built_checked (cond ∷ conds) [] are = absurd are
  built_checked (cond ∷ conds) (scanner ∷ scanners) are =
      ap (λ found. option_or found (scanners_fault at eof rules conds)) are.0.0 ∙ built_checked conds scanners are.1

  -- and they are as is wanted, within the limits
  pub built_scanners : (conds : List (List ℕ)) (scanners : List Scanner) → AreBuiltScanners conds scanners → AreScanners named rules conds scanners
  built_scanners [] [] are = tt
  built_scanners [] (scanner ∷ scanners) are = absurd are
  built_scanners (cond ∷ conds) [] are = absurd are
  built_scanners (cond ∷ conds) (scanner ∷ scanners) are = (are.0.1, built_scanners conds scanners are.1)

  pub built_fit : (conds : List (List ℕ)) (scanners : List Scanner) → AreBuiltScanners conds scanners → AllByRecursion (IsFit (length rules)) scanners
  built_fit [] [] are = tt
  built_fit [] (scanner ∷ scanners) are = absurd are
  built_fit (cond ∷ conds) [] are = absurd are
  built_fit (cond ∷ conds) (scanner ∷ scanners) are = (are.0.2, built_fit conds scanners are.1)
