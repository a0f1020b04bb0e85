-- A scanner whose rules are those of a model but for their numbers has the automaton of that, and no fault.
use Rattle.std.proofs.Common.{◌≡◌, ℕ, false, map, subst, Option, Some, None}
use Rattle.std.specs.Prelude.{IfSome}
use Rattle.lx_auto.specs.Live.{AllInterfere, EachTargetIsRead}
use Rattle.lx_auto.specs.ToldApart.{AllAreToldApart}
use Rattle.lx_base.specs.declared.settings.Options.{Options}
use Rattle.lx_regex.specs.Pattern.{patterns_of, terms_of}
use Rattle.lx_renumber.specs.Renumbered.{renumbered, renumbered_pattern}
use Rattle.lx_rules.specs.declared.resolved.Scanner.{Scanner}
use Rattle.lx_tdfa.specs.Promise.{IsAutoUnder}
use Rattle.lx_compile.proofs.MetStates.{HasMetStates-renumbered}
use Rattle.lx_compile.specs.Models.{DiffersBy, IsModel}
use Rattle.lx_compile.specs.Options.{asks_for_cover, policy_of}
use Rattle.lx_compile.specs.ScannerFaults.{AreTooManyFor}
use Rattle.lx_compile.specs.declared.automata.Model.{Model}

module _ (options : Options) (scanner : Scanner) (model : Model) where
  pub DiffersBy-renumbered : IsModel options model → asks_for_cover options ≡ false → (result : Option ℕ)
      → IfSome result (λ by. patterns_of scanner.set.rules ≡ map (renumbered_pattern by) (patterns_of model.rules.now))
      → IfSome result (λ by. IsAutoUnder (policy_of options) options.enc (patterns_of scanner.set.rules) (renumbered by model.auto.now))
      → IfSome result (λ by. terms_of (patterns_of scanner.set.rules) ≡ terms_of (patterns_of model.rules.now))
      → IfSome result (λ by. AllAreToldApart (renumbered by model.auto.now)) → IfSome result (λ by. EachTargetIsRead (renumbered by model.auto.now))
      → IfSome result (λ by. AllInterfere (renumbered by model.auto.now)) → IfSome result (DiffersBy options model scanner)
  DiffersBy-renumbered serves unasked None alike is same apart read interfere = tt
  DiffersBy-renumbered serves unasked (Some by) alike is same apart read interfere = record {
    alike = alike;
    made = (
      is,
      record {
        met = HasMetStates-renumbered by model.auto.now serves.reduced.met;
        states = apart;
        operations = read;
        registers = interfere;
      },
    );
    faultless = ((λ large. serves.few (subst (AreTooManyFor options) same large)), (λ sum long. let asked = long.0 in cc));
    unasked = unasked;
  }
