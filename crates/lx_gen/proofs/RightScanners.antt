-- Each scanner of a piece is right.
use Rattle.std.specs.Prelude.{◌≡◌, ℕ, zero, suc, Bool, true, false, List, [], ◌∷◌, ◌++◌, Option, Some, None, refl, slice_get, if◌then◌else◌}
use Rattle.std.specs.List.{AllByRecursion}
use Rattle.std.proofs.lemmas.Bool.{OnFalse_at}
use Rattle.lx_auto.specs.declared.automaton.Auto.{Auto}
use Rattle.lx_base.specs.Names.{Spellings}
use Rattle.lx_base.specs.declared.settings.Enc.{Enc}
use Rattle.lx_ccode.specs.declared.piece.Piece.{Piece}
use Rattle.lx_regex.specs.Limits.{AreRegular, IsRegular, IsSlashOf}
use Rattle.lx_regex.specs.Order.{Policy}
use Rattle.lx_regex.specs.Pattern.{Pattern, is_end, pattern_of, patterns_of, with_terms}
use Rattle.lx_regex.specs.Values.{group_ends}
use Rattle.lx_regex.specs.declared.rules.Rule.{Rule}
use Rattle.lx_regex.proofs.Trees.SlashEvents.{slash_set}
use Rattle.lx_rules.specs.declared.resolved.Act.{Act}
use Rattle.lx_rules.specs.declared.resolved.Scanner.{Scanner}
use Rattle.lx_layout.specs.Endings.{Ending}
use Rattle.lx_layout.specs.Pieces.{Form, IsScannerIn, MayBegin, Source, given_of, mode_of}
use Rattle.lx_layout.specs.Right.{IsSetBy}
use Rattle.lx_layout.specs.RightInMode.{HaveEndings, IsRightInMode}
use Rattle.lx_gen.specs.Generated.{AreAutomataUnder, Marks, endings_by, sources_of}
use Rattle.lx_gen.proofs.Elements.{All-each}
use Rattle.lx_gen.proofs.EndRules.{ends_bare}
use Rattle.lx_gen.proofs.FitSources.{IsKnown}
use Rattle.lx_gen.proofs.WrittenEnds.{EndsAs}

-- ---- the ends of rules put the cursor back to their trailing contexts

slice_get-front : {A : Type 0} (xs ys : List A) (i : ℕ) (x : A) → slice_get xs i ≡ Some x → slice_get (xs ++ ys) i ≡ Some x
slice_get-front [] ys i x e = absurd (let h = e in cc)
slice_get-front (y ∷ xs) ys zero x e = e
slice_get-front (y ∷ xs) ys (suc i) x e = slice_get-front xs ys i x e

set_by-regular : (enc : Enc) (pattern : Pattern) → IsRegular pattern → IsSetBy enc pattern pattern.slash
set_by-regular enc pattern regular = by pattern.slash refl regular.slash
  where
    by : (slash : Option ℕ) → pattern.slash ≡ slash → IsSlashOf pattern slash → IsSetBy enc pattern slash
    by None is stands = tt
    by (Some slash) is stands = (
      slice_get-front pattern.many (group_ends pattern.groups) slash false stands.0,
      λ start part tree. slash_set enc pattern slash start part tree regular is,
    )

sets-regular : (enc : Enc) (rules : List Rule) → AreRegular rules
    → AllByRecursion (λ (pattern : Pattern). IsSetBy enc pattern pattern.slash) (with_terms (patterns_of rules))
sets-regular enc [] are = tt
sets-regular enc (rule ∷ rules) are = by (is_end rule.kind) refl (sets-regular enc rules are.1)
  where
    IsSet : Pattern → Type 0
    IsSet pattern = IsSetBy enc pattern pattern.slash

    by : (t : Bool) → is_end rule.kind ≡ t → AllByRecursion IsSet (with_terms (patterns_of rules))
        → AllByRecursion IsSet (if t then with_terms (patterns_of rules) else pattern_of rule ∷ with_terms (patterns_of rules))
    by true is again = again
    by false is again = (set_by-regular enc (pattern_of rule) (OnFalse_at is are.0), again)

slashes-own : (names : Spellings) (conds : List (List ℕ)) (endings : ℕ → Ending) (rules : List Rule) → AllByRecursion (EndsAs names conds endings) rules
    → AllByRecursion (λ (pattern : Pattern). (endings pattern.number).slash ≡ pattern.slash) (with_terms (patterns_of rules))
slashes-own names conds endings [] ends = tt
slashes-own names conds endings (rule ∷ rules) ends = by (is_end rule.kind) (slashes-own names conds endings rules ends.1)
  where
    HasOwn : Pattern → Type 0
    HasOwn pattern = (endings pattern.number).slash ≡ pattern.slash

    by : (t : Bool) → AllByRecursion HasOwn (with_terms (patterns_of rules))
        → AllByRecursion HasOwn (if t then with_terms (patterns_of rules) else pattern_of rule ∷ with_terms (patterns_of rules))
    by true again = again
    by false again = (ends.0.slash, again)

known_endings : (enc : Enc) (names : Spellings) (conds : List (List ℕ)) (eof : Option ℕ) (marks : Marks) (acts : List Act) (scanner : Scanner)
    → IsKnown enc names conds eof marks acts scanner → HaveEndings enc (patterns_of scanner.set.rules) (endings_by marks acts scanner.set.rules)
known_endings enc names conds eof marks acts scanner known =
    let rules = scanner.set.rules in
    let endings = endings_by marks acts rules in
    record {
      slashes = All-each (λ (pattern : Pattern). (endings pattern.number).slash ≡ pattern.slash) (with_terms (patterns_of rules))
          (slashes-own names conds endings rules known.ends);
      set = All-each (λ (pattern : Pattern). IsSetBy enc pattern pattern.slash) (with_terms (patterns_of rules)) (sets-regular enc rules known.limits.regular);
      bare = ends_bare names conds endings rules known.ends known.bare;
    }

-- ---- each scanner is right

module _ (policy : Policy) (form : Form) (names : Spellings) (conds : List (List ℕ)) (eof : Option ℕ) (marks : Marks) (acts : List Act) (piece : Piece) where
  abbrev IsRight : Scanner → Type 0
  IsRight scanner =
      (cond : List ℕ) → MayBegin scanner.cond cond
      → IsRightInMode policy (mode_of form.eof form.fill) cond form.enc (patterns_of scanner.set.rules) (endings_by marks acts scanner.set.rules) piece

  abbrev Stands : Source → Type 0
  Stands scanner = IsScannerIn (mode_of form.eof form.fill) form.enc (given_of form piece.table scanner) scanner.checks piece

  pub scanners_right : (scanners : List Scanner) (autos : List Auto) (checks : List (List ℕ)) → AreAutomataUnder policy form.enc scanners autos checks
      → AllByRecursion (IsKnown form.enc names conds eof marks acts) scanners
      → AllByRecursion Stands (sources_of marks acts scanners autos checks) → AllByRecursion IsRight scanners
  scanners_right [] autos checks are known stand = tt
  scanners_right (scanner ∷ scanners) (auto ∷ autos) (list ∷ checks) are known stand = (
    λ cond begins. stand.0.right policy (patterns_of scanner.set.rules) cond are.0
        (known_endings form.enc names conds eof marks acts scanner known.0) refl begins,
    scanners_right scanners autos checks are.2 known.1 stand.1,
  )
  scanners_right (scanner ∷ scanners) (auto ∷ autos) [] are known stand = absurd are
  scanners_right (scanner ∷ scanners) [] (list ∷ checks) are known stand = absurd are
  scanners_right (scanner ∷ scanners) [] [] are known stand = absurd are
