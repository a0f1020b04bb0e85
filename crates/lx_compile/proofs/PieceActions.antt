-- The actions of a piece are those of its block, and no begin mark stands in them.
use Rattle.std.proofs.Common.{ℕ, zero, suc, List, [], ◌∷◌, Bool, true, false, Option, Some, None, sym, subst}
use Rattle.std.specs.Prelude.{IfSome, nat_eq, slice_get, if◌then◌else◌}
use Rattle.std.specs.List.{AllByRecursion}
use Rattle.std.proofs.lemmas.List.Elements.{All-contains, All-from_recursion}
use Rattle.lx_auto.specs.declared.automaton.Auto.{Auto}
use Rattle.lx_ccode.specs.Marks.{IsUnmarked, IsUnmarkedLine}
use Rattle.lx_ccode.specs.declared.piece.Stmt.{Stmt}
use Rattle.lx_ccode.specs.declared.piece.Stmt.TheVariants.{Peek, Skip, Backup, Restore, Accept, Set, Unset, Copy, MSet, MUnset, MCopy, IfUnit, IfIs, IfSet, IfAccept, IfEnd, State, Need, Try, Cond, Tag, Count, End, Back, Switch, Goto, Leave, Code, Jump}
use Rattle.lx_gen.specs.Generated.{Marks, act_ending, endings_by, sources_of}
use Rattle.lx_rules.specs.Numbered.{numbered_act}
use Rattle.lx_layout.specs.Endings.{Ending}
use Rattle.lx_layout.specs.Pieces.{IsActionOf, Source}
use Rattle.lx_regex.specs.declared.rules.Rule.{Rule}
use Rattle.lx_rules.specs.declared.resolved.Act.{Act}
use Rattle.lx_rules.specs.declared.resolved.Scanner.{Scanner}
use Rattle.lx_compile.proofs.ActionSlices.{ArePlainActs, IsPlainAction}
use Rattle.lx_compile.proofs.UnmarkedTexts.{ArePlain, IsUnmarkedLine-mark}

module _ (marks : Marks) (plain : IfSome marks ArePlain) where
  -- the action of an ending, if it has one, is plain, and so is its line
  record IsPlainEnding (ending : Ending) : Type 0 where
    acts : IfSome ending.action IsPlainAction
    line : IsUnmarkedLine ending.line

  abbrev HasPlainAct : Act → Type 0
  HasPlainAct act = IfSome act.code IsPlainAction

  found_act : (acts : List Act) (place : ℕ) → ArePlainActs acts → IfSome (slice_get acts place) HasPlainAct
  found_act [] zero have = tt
  found_act [] (suc place) have = tt
  found_act (act ∷ acts) zero have = have.0
  found_act (act ∷ acts) (suc place) have = found_act acts place have.1

  act_found : (acts : List Act) (number : ℕ) → ArePlainActs acts → IfSome (numbered_act acts number) HasPlainAct
  act_found acts zero have = tt
  act_found acts (suc place) have = found_act acts place have

  plain_ending : (rule : Rule) (found : Option Act) → IfSome found HasPlainAct → IsPlainEnding (act_ending marks rule found)
  plain_ending rule None have = record { acts = tt; line = tt }
  plain_ending rule (Some act) have = record { acts = have; line = IsUnmarkedLine-mark marks plain act.at }

  either : (same : Bool) (ending other : Ending) → IsPlainEnding ending → IsPlainEnding other → IsPlainEnding (if same then ending else other)
  either true ending other is is_other = is
  either false ending other is is_other = is_other

  plain_endings : (acts : List Act) (rules : List Rule) (number : ℕ) → ArePlainActs acts → IsPlainEnding (endings_by marks acts rules number)
  plain_endings acts [] number have = record { acts = tt; line = tt }
  plain_endings acts (rule ∷ rules) number have =
      either (nat_eq number rule.number) (act_ending marks rule (numbered_act acts number)) (endings_by marks acts rules number)
      (plain_ending rule (numbered_act acts number) (act_found acts number have)) (plain_endings acts rules number have)

  abbrev IsPlainSource : Source → Type 0
  IsPlainSource source = (number : ℕ) → IsPlainEnding (source.endings number)

  plain_sources : (acts : List Act) (scanners : List Scanner) (autos : List Auto) (checks : List (List ℕ)) → ArePlainActs acts
      → AllByRecursion IsPlainSource (sources_of marks acts scanners autos checks)
  plain_sources acts [] autos checks have = tt
  plain_sources acts (scanner ∷ scanners) [] [] have = tt
  plain_sources acts (scanner ∷ scanners) [] (list ∷ checks) have = tt
  plain_sources acts (scanner ∷ scanners) (auto ∷ autos) [] have = tt
  plain_sources acts (scanner ∷ scanners) (auto ∷ autos) (list ∷ checks) have =
      (λ number. plain_endings acts scanner.set.rules number have, plain_sources acts scanners autos checks have)

  module _ (sources : List Source) (have : AllByRecursion IsPlainSource sources) where
    unmarked : (statement : Stmt) → IsActionOf sources statement → IsUnmarked statement
    unmarked (Code rule line action) is =
        let of : IsPlainEnding (is.0.endings rule) =
        All-contains IsPlainSource sources is.0 (All-from_recursion IsPlainSource sources have) is.1 rule in
        let stands : IsPlainAction action = subst (λ (code : Option (List ℕ)). IfSome code IsPlainAction) is.2.0 of.acts in
        (subst IsUnmarkedLine (sym is.2.1) of.line, stands.0, stands.1)
    unmarked (Jump cond rule) is = tt
    unmarked (Peek) is = tt
    unmarked (Skip) is = tt
    unmarked (Backup) is = tt
    unmarked (Restore) is = tt
    unmarked (Accept accept) is = tt
    unmarked (Set register) is = tt
    unmarked (Unset register) is = tt
    unmarked (Copy register source) is = tt
    unmarked (MSet history) is = tt
    unmarked (MUnset history) is = tt
    unmarked (MCopy history source) is = tt
    unmarked (IfUnit greatest block) is = tt
    unmarked (IfIs unit block) is = tt
    unmarked (IfSet set block) is = tt
    unmarked (IfAccept accept block) is = tt
    unmarked (IfEnd block) is = tt
    unmarked (State state) is = tt
    unmarked (Need units) is = tt
    unmarked (Try block) is = tt
    unmarked (Cond cond) is = tt
    unmarked (Tag tag many register) is = tt
    unmarked (Count groups) is = tt
    unmarked (End place register) is = tt
    unmarked (Back register) is = tt
    unmarked (Switch cases last) is = tt
    unmarked (Goto block) is = tt
    unmarked (Leave) is = tt

    each_unmarked : (statements : List Stmt) → AllByRecursion (IsActionOf sources) statements → AllByRecursion IsUnmarked statements
    each_unmarked [] is = tt
    each_unmarked (statement ∷ statements) is = (unmarked statement is.0, each_unmarked statements is.1)

  -- no begin mark stands in the statements of a piece of the block's scanners
  pub all_unmarked : (acts : List Act) (scanners : List Scanner) (autos : List Auto) (checks : List (List ℕ)) (statements : List Stmt) → ArePlainActs acts
      → AllByRecursion (IsActionOf (sources_of marks acts scanners autos checks)) statements → AllByRecursion IsUnmarked statements
  all_unmarked acts scanners autos checks statements have is =
      each_unmarked (sources_of marks acts scanners autos checks) (plain_sources acts scanners autos checks have) statements is
