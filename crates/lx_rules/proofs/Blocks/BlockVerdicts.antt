-- A block surely resolves or has a fault.
use Rattle.std.proofs.Common.{Bool, ◌≡◌, ℕ, ◌⊎◌, inl, inr, List, [], Option, None, Some, Result, Ok, Err, refl, subst}
use Rattle.std.specs.List.{AllByRecursion}
use Rattle.lx_base.specs.declared.blocks.BlockKind.{BlockKind}
use Rattle.lx_base.specs.declared.blocks.BlockKind.TheVariants.{Code}
use Rattle.lx_base.specs.declared.faults.Fault.{Fault}
use Rattle.lx_base.specs.declared.faults.Fault.TheVariants.{BadValue}
use Rattle.lx_base.specs.declared.places.Pos.{Pos}
use Rattle.lx_base.specs.declared.settings.Options.{Options}
use Rattle.lx_parse.specs.Blocks.{IsBody, form_of}
use Rattle.lx_parse.specs.Ranges.{EachHasExpressions}
use Rattle.lx_parse.specs.Sorts.{sorts_of}
use Rattle.lx_parse.specs.declared.items.Item.{Item}
use Rattle.lx_parse.proofs.Ranges.{body_has}
use Rattle.lx_token.specs.declared.list.Token.{Token}
use Rattle.lx_base.specs.declared.settings.Format.{Format}
use Rattle.lx_rules.specs.Blocks.{BlockChecks, ClashCheck, HasRules, IsBlockFault, IsResolvedAs, NoClash, Resolves, ScannerChecks, conditions_of, environment_behind, lonely_fault, no_rules_fault, of_scanners, of_use, opening_fault, scanners_fault, targets_fault, to_keep}
use Rattle.lx_exprs.specs.Checks.{Check, Finds, Then}
use Rattle.lx_rules.specs.Environments.{Environment, config_of}
use Rattle.lx_rules.specs.Items.{Goes, State, first_state}
use Rattle.lx_forms.specs.Lexemes.{Lexeme, lexemes_of, sorts_at}
use Rattle.lx_rules.specs.declared.resolved.Resolved.{Resolved}
use Rattle.lx_rules.proofs.ScannerSets.BuiltScanners.{block_built}
use Rattle.lx_exprs.proofs.Classical.{Surely, surely, and_then, excluded_middle}
use Rattle.lx_exprs.proofs.Forms.FormVerdicts.{Decides, finds_decides, then_decides}
use Rattle.lx_rules.proofs.Blocks.Openings.{opening_is}
use Rattle.lx_rules.proofs.Blocks.ItemFits.{IsStateWithin}
use Rattle.lx_rules.proofs.Blocks.ItemRuns.{sorts_of-lexemes}
use Rattle.lx_rules.proofs.ScannerSets.BuildableMeanings.{IsRuleBuildable}
use Rattle.lx_rules.proofs.Blocks.Readiness.{IsUsable, first_buildable, first_within}
use Rattle.lx_rules.proofs.Blocks.ItemVerdicts.{IsStateBuildable, goes_buildable, goes_decides}

-- the checks behind the items find a fault, or nothing
scanners_decide : (custom : Bool) (format : Format) (at : Pos) (state : State) → Decides (ScannerChecks custom format at state)
scanners_decide custom format at state =
    let names = (config_of state.settings).names in
    let Scanners : Check = Finds (scanners_fault at (config_of state.settings).eof state.rules (conditions_of state.rules)) in
    let Targets : Check = Finds (targets_fault state.rules (conditions_of state.rules)) in
    let Lonely : Check = Finds (lonely_fault at state.rules (conditions_of state.rules)) in
    then_decides (ClashCheck custom format at names state.rules) (Then Lonely (Then Targets Scanners))
    (and_then (excluded_middle (NoClash custom format names state.rules)) (λ found. surely (clash found)))
    (then_decides Lonely (Then Targets Scanners) (finds_decides (lonely_fault at state.rules (conditions_of state.rules)))
    (then_decides Targets Scanners (finds_decides (targets_fault state.rules (conditions_of state.rules)))
    (finds_decides (scanners_fault at (config_of state.settings).eof state.rules (conditions_of state.rules)))))
  where
    clash : NoClash custom format (config_of state.settings).names state.rules ⊎ (NoClash custom format (config_of state.settings).names state.rules → ⊥)
        → (fault : Option Fault) × ClashCheck custom format at (config_of state.settings).names state.rules fault
    clash (inl free) = (None, inl (free, refl))
    clash (inr clashes) = (Some (BadValue at), inr (clashes, refl))

-- and so do those of a block of any kind that has rules
kind_decides : (custom : Bool) (format : Format) (kind : BlockKind) → HasRules kind → (at : Pos) (state : State) → Decides (BlockChecks custom format kind at state)
kind_decides custom format kind of_scanners at state = scanners_decide custom format at state
kind_decides custom format kind to_keep at state = finds_decides (no_rules_fault at state.rules)
kind_decides custom format kind of_use at state = scanners_decide custom format at state

-- what a block resolves to whose checks find nothing
kind_built : (options : Options) (kind : BlockKind) → HasRules kind → (at : Pos) (state : State) → BlockChecks options.custom options.format kind at state None
    → AllByRecursion IsRuleBuildable state.rules → (resolved : Resolved) × IsResolvedAs kind options.conds state resolved
kind_built options kind of_scanners at state checked buildable = block_built options.conds options.custom options.format at state checked buildable
kind_built options kind of_use at state checked buildable = block_built options.conds options.custom options.format at state checked buildable
kind_built options kind to_keep at state checked buildable =
    (record { scanners = []; acts = []; config = config_of state.settings }, (refl, refl, refl))

module _ (options : Options) (kind : BlockKind) (has : HasRules kind) (at : Pos) (environment : Environment) (lexemes : List Lexeme) (items : List Item)
    (ready : IsUsable options environment) where
  abbrev before : State
  before = first_state kind environment

  first_is : IsStateWithin options before
  first_is = first_within options environment ready kind has

  first_built : IsStateBuildable before
  first_built = first_buildable options environment ready kind has

  -- what a block resolves to, or its fault
  abbrev pub IsVerdict : Type 0
  IsVerdict =
      ((after : Environment) × (resolved : Resolved) × Resolves options kind at environment lexemes items after resolved)
      ⊎ ((fault : Fault) × IsBlockFault options kind at environment lexemes items fault)

  module _ (opened : opening_fault kind at environment.kept ≡ None) where
    state_verdict : (state : State) → Goes options lexemes before items (Ok state) → (fault : Option Fault) → BlockChecks options.custom options.format kind at state fault → IsVerdict
    state_verdict state goes None checked =
        let built = kind_built options kind has at state checked (goes_buildable options lexemes before state items first_built goes).rules in
        inl (
          environment_behind kind environment state,
          built.0,
          record { opening = opened; state = state; goes = goes; checked = checked; after_is = refl; ends = built.1 },
        )
    state_verdict state goes (Some fault) checked = inr (fault, inr (opened, inr (state, goes, checked)))

    items_verdict : (result : Result State Fault) → Goes options lexemes before items result → Surely IsVerdict
    items_verdict (Err fault) goes = surely (inr (fault, inr (opened, inl goes)))
    items_verdict (Ok state) goes = and_then (kind_decides options.custom options.format kind has at state) (λ found. surely (state_verdict state goes found.0 found.1))

    opened_verdict : EachHasExpressions (sorts_at lexemes) items → Surely IsVerdict
    opened_verdict expressions =
        and_then (goes_decides options lexemes items before expressions first_is first_built) (λ found. items_verdict found.0 found.1)

  pub block_verdict : EachHasExpressions (sorts_at lexemes) items → Surely IsVerdict
  block_verdict expressions = elim (opening_is kind at environment.kept) [
    | inl opened ↦ opened_verdict opened expressions
    | inr waits ↦ surely (inr (waits.0, inl waits.1))
  ]

  pub verdict_among : EachHasExpressions (sorts_at lexemes) items
      → ((after : Environment) (resolved : Resolved) → Resolves options kind at environment lexemes items after resolved → ⊥)
      → ((fault : Fault) → IsBlockFault options kind at environment lexemes items fault → ⊥) → ⊥
  verdict_among expressions unresolved free = block_verdict expressions (λ verdict. of verdict)
    where
      of : IsVerdict → ⊥
      of (inl found) = unresolved found.0 found.1 found.2
      of (inr found) = free found.0 found.1

-- the items of a body have their expressions
pub body_expressions : (body : List ℕ) (tokens : List Token) (items : List Item) → IsBody (form_of Code) (sorts_of Code body tokens) items
    → EachHasExpressions (sorts_at (lexemes_of body tokens)) items
body_expressions body tokens items read =
    subst (λ sorts. EachHasExpressions sorts items) (sorts_of-lexemes body tokens) (body_has (form_of Code) (sorts_of Code body tokens) items read)
