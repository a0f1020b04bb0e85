-- What the definitions see of what the code holds.
use Rattle.std.specs.Prelude.{ℕ, List, [], ◌∷◌, option_copied}
use Rattle.lx_auto.specs.declared.automaton.Auto.{Auto}
use Rattle.lx_ccode.specs.Validity.{IsLine}
use Rattle.lx_layout.specs.Endings.{Ending}
use Rattle.lx_layout.specs.Pieces.{Source}
use Rattle.lx_regex.specs.Pattern.{end_rule, patterns_of}
use Rattle.lx_rules.specs.declared.resolved.Scanner.{Scanner}
use Rattle.lx_gen.specs.Generated as generated
use Rattle.lx_gen.specs.declared.scanner_ends.Marks.{Marks}

abbrev pub seen_marks : Marks → generated.Marks
seen_marks marks = option_copied marks.names

-- the lines of actions, where they are told, have a spelling
abbrev pub HaveShortLines : (endings : ℕ → Ending) → Type 0
HaveShortLines endings = (number : ℕ) → IsLine (endings number).line

-- a scanner with the ends of its rules, its automaton and its checks
abbrev pub source_with : (endings : ℕ → Ending) → Scanner → Auto → (checks : List ℕ) → Source
source_with endings scanner auto checks = record {
  cond = scanner.cond;
  auto = auto;
  checks = checks;
  endings = endings;
  end_rule = end_rule (patterns_of scanner.set.rules);
}

-- the same of each of a list
abbrev pub sources_with : List (ℕ → Ending) → List Scanner → List Auto → (checks : List (List ℕ)) → List Source
sources_with (endings ∷ others) (scanner ∷ scanners) (auto ∷ autos) (list ∷ checks) =
    source_with endings scanner auto list ∷ sources_with others scanners autos checks
sources_with endings scanners autos checks = []
