-- Where parentheses are no groups, no expression has any.
use Rattle.std.proofs.Common.{◌≡◌, ℕ, ◌+◌, Bool, true, false, List, [], ◌∷◌, Some, refl, ap₂}
use Rattle.std.specs.Prelude.{if◌then◌else◌}
use Rattle.std.specs.Str.{bytes_eq}
use Rattle.lx_base.specs.declared.settings.Options.{Options}
use Rattle.lx_token.specs.declared.kinds.TokenKind.{TokenKind}
use Rattle.lx_token.specs.declared.kinds.TokenKind.TheVariants as kind
use Rattle.lx_forms.specs.Forms.{Form, leaf, group, repeated, sequence, difference, alternative}
use Rattle.lx_forms.specs.Lexemes.{Lexeme}
use Rattle.lx_exprs.specs.Checks.{are_groups, defined_groups, groups_of, leaf_groups}
use Rattle.lx_exprs.specs.Defined.{Definition, definition_of, kept}
use Rattle.lx_exprs.specs.Within.{AreDefinedWithin}

module _ (options : Options) (definitions : List Definition) (ready : AreDefinedWithin options definitions) (none : are_groups options definitions ≡ false) where
  defined_none : (all : List Definition) (name : List ℕ) → AreDefinedWithin options all → defined_groups options definitions (definition_of all name) ≡ 0
  defined_none [] name are = refl
  defined_none (first ∷ all) name are = at (bytes_eq name first.name) (defined_none all name are.1)
    where
      at : (b : Bool) → defined_groups options definitions (definition_of all name) ≡ 0
          → defined_groups options definitions (if b then Some first else definition_of all name) ≡ 0
      at true later = are.0.1 none
      at false later = later

  leaf_none : (sort : TokenKind) (lexeme : Lexeme) → leaf_groups options definitions sort lexeme ≡ 0
  leaf_none kind.Name lexeme = defined_none definitions lexeme.text ready
  leaf_none sort lexeme = refl

  both_none : (first second : ℕ) → first ≡ 0 → second ≡ 0 → kept (first + second) ≡ 0
  both_none first second one two = ap₂ (λ a b. kept (a + b)) one two

  pub groups_of-none : (form : Form) → groups_of options definitions form ≡ 0
  groups_of-none (leaf lexeme) = leaf_none lexeme.kind lexeme
  groups_of-none (group opening inner) = rw (none) (groups_of-none inner)
  groups_of-none (repeated inner sign) = groups_of-none inner
  groups_of-none (sequence front back) =
      both_none (groups_of options definitions front) (groups_of options definitions back) (groups_of-none front) (groups_of-none back)
  groups_of-none (difference left sign right) =
      both_none (groups_of options definitions left) (groups_of options definitions right) (groups_of-none left) (groups_of-none right)
  groups_of-none (alternative left sign right) =
      both_none (groups_of options definitions left) (groups_of options definitions right) (groups_of-none left) (groups_of-none right)
