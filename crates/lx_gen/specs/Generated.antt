-- What the piece of a block of scanners is made of, by what the block resolves to.
use Rattle.std.specs.Prelude.{◌&&◌, ◌||◌, ℕ, Bool, not, List, [], ◌∷◌, Option, Some, None, is_some, false, nat_eq, slice_index_or, if◌then◌else◌}
use Rattle.std.specs.List.{AllByRecursion, list_any}
use Rattle.lx_auto.specs.declared.automaton.Auto.{Auto}
use Rattle.lx_base.specs.declared.places.Pos.{Pos}
use Rattle.lx_base.specs.declared.settings.Enc.{Enc}
use Rattle.lx_base.specs.declared.settings.Options.{Options}
use Rattle.lx_ccode.specs.declared.piece.LineMark.{LineMark}
use Rattle.lx_ccode.specs.declared.piece.Piece.{Piece}
use Rattle.lx_fill.specs.Checks.{AreChecks}
use Rattle.lx_layout.specs.Endings.{Ending}
use Rattle.lx_layout.specs.Pieces.{Form, IsPieceOf, MayBegin, Source, mode_of}
use Rattle.lx_layout.specs.RightInMode.{IsRightInMode}
use Rattle.lx_layout.specs.RuleEnds.{no_ending}
use Rattle.lx_layout.specs.Rules.{names_of}
use Rattle.lx_regex.specs.Order.{Policy}
use Rattle.lx_regex.specs.Pattern.{end_rule, patterns_of}
use Rattle.lx_regex.specs.declared.rules.Rule.{Rule}
use Rattle.lx_rules.specs.Numbered.{numbered_act}
use Rattle.lx_rules.specs.declared.resolved.Act.{Act}
use Rattle.lx_rules.specs.declared.resolved.Resolved.{Resolved}
use Rattle.lx_rules.specs.declared.resolved.Scanner.{Scanner}
use Rattle.lx_tdfa.specs.Promise.{FitsRules, IsAutoUnder}

-- ---- the ends of rules

-- the names of files, where the lines of actions are told
abbrev pub Marks : Type 0
Marks = Option (List (List ℕ))

-- they are told where the place behind the block is
abbrev pub marks_of : Option LineMark → (names : List (List ℕ)) → Marks
marks_of None names = None
marks_of (Some line) names = Some names

-- the line where an action stands
abbrev pub mark_of : Marks → Pos → Option LineMark
mark_of None at = None
mark_of (Some names) at = Some (record { line = at.line; file = slice_index_or names at.file [] })

-- the end of a rule with its action
abbrev pub act_ending : Marks → Rule → Option Act → Ending
act_ending marks rule None = no_ending
act_ending marks rule (Some act) = record {
  tags = names_of rule.tags;
  slash = rule.slash;
  groups = rule.groups;
  goes_to = act.goes;
  action = act.code;
  line = mark_of marks act.at;
  forgets = false;
}

-- the end of the first rule with a number
abbrev pub endings_by : Marks → List Act → List Rule → (number : ℕ) → Ending
endings_by marks acts [] number = no_ending
endings_by marks acts (rule ∷ rules) number =
    if nat_eq number rule.number then act_ending marks rule (numbered_act acts number) else endings_by marks acts rules number

-- ---- a piece

-- each scanner with its automaton and its checks
abbrev pub sources_of : Marks → List Act → List Scanner → List Auto → (checks : List (List ℕ)) → List Source
sources_of marks acts [] autos checks = []
sources_of marks acts (scanner ∷ scanners) [] checks = []
sources_of marks acts (scanner ∷ scanners) (auto ∷ autos) [] = []
sources_of marks acts (scanner ∷ scanners) (auto ∷ autos) (list ∷ checks) =
    record {
      cond = scanner.cond;
      auto = auto;
      checks = list;
      endings = endings_by marks acts scanner.set.rules;
      end_rule = end_rule (patterns_of scanner.set.rules);
    }
    ∷ sources_of marks acts scanners autos checks

-- some rule has a trailing context
abbrev pub has_slash : List Scanner → Bool
has_slash scanners = list_any (λ (scanner : Scanner). list_any (λ (rule : Rule). is_some rule.slash) scanner.set.rules) scanners

-- Register 1 is spelled as the context marker where some rule has a trailing context, and the user gives no name to a tag or a group.
abbrev pub has_context_marker : Options → List Scanner → Bool
has_context_marker options scanners = not (options.tags || (options.captures || options.posix)) && has_slash scanners

abbrev pub form_of : Options → Resolved → (number first_state : ℕ) → (own_switch : Bool) → Option LineMark → Form
form_of options resolved number first_state own_switch line = record {
  number = number;
  format = options.format;
  names = resolved.config.names;
  enc = options.enc;
  custom = options.custom;
  eof = resolved.config.eof;
  fill = resolved.config.fill;
  stores = options.states;
  first_state = first_state;
  switches = options.states && own_switch;
  context = has_context_marker options resolved.scanners;
  line = line;
}

-- the piece of a block of scanners
abbrev pub IsGenerated : Options → Resolved → List Auto → (checks : List (List ℕ)) → (names : List (List ℕ)) → (number first_state : ℕ)
    → (own_switch : Bool) → Option LineMark → Piece → Type 0
IsGenerated options resolved autos checks names number first_state own_switch line piece =
    IsPieceOf (form_of options resolved number first_state own_switch line)
    (sources_of (marks_of line names) resolved.acts resolved.scanners autos checks) piece

-- ---- the automata

-- each scanner has an automaton that fits its rules, and the checks of that
abbrev pub AreAutomata : Enc → List Scanner → List Auto → (checks : List (List ℕ)) → Type 0
AreAutomata enc [] [] [] = Unit {0}
AreAutomata enc (scanner ∷ scanners) (auto ∷ autos) (list ∷ checks) =
    FitsRules enc (patterns_of scanner.set.rules) auto × AreChecks auto list × AreAutomata enc scanners autos checks
AreAutomata enc scanners autos checks = ⊥

-- each scanner has the automaton of its rules, by the trees that a policy means, and the checks of that
abbrev pub AreAutomataUnder : Policy → Enc → List Scanner → List Auto → (checks : List (List ℕ)) → Type 0
AreAutomataUnder policy enc [] [] [] = Unit {0}
AreAutomataUnder policy enc (scanner ∷ scanners) (auto ∷ autos) (list ∷ checks) =
    IsAutoUnder policy enc (patterns_of scanner.set.rules) auto × AreChecks auto list × AreAutomataUnder policy enc scanners autos checks
AreAutomataUnder policy enc scanners autos checks = ⊥

-- each scanner is right, in its condition and in the mode of the block
abbrev pub AreRightUnder : Policy → Options → Marks → Resolved → Piece → Type 0
AreRightUnder policy options marks resolved piece =
    AllByRecursion (λ (scanner : Scanner). (cond : List ℕ) → MayBegin scanner.cond cond
    → IsRightInMode policy (mode_of resolved.config.eof resolved.config.fill) cond options.enc (patterns_of scanner.set.rules)
    (endings_by marks resolved.acts scanner.set.rules) piece) resolved.scanners
