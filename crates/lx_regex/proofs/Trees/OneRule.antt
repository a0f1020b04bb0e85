-- A rule list of one rule.
use Rattle.std.proofs.Common.{◌≡◌, ℕ, ◌+◌, ◌*◌, ◌-◌, ◌≤◌, List, [], ◌∷◌, map, length, Option, arith, sym, ◌∙◌, ap}
use Rattle.std.proofs.lemmas.List.{length-map, length-append}
use Rattle.lx_regex.specs.declared.expr.Expr.{Expr}
use Rattle.lx_regex.specs.declared.rules.Kind.TheVariants.{Plain}
use Rattle.lx_regex.specs.declared.rules.Rule.{Rule}
use Rattle.lx_regex.specs.declared.rules.Tag.{Tag}
use Rattle.lx_regex.specs.Expr.{size_of, term_of}
use Rattle.lx_regex.specs.Limits.{HasLongSequences, IsSlashOf, IsWithinLimits, numbers_from}
use Rattle.lx_regex.specs.Pattern.{pattern_of, sorts_of}
use Rattle.lx_regex.specs.Script.{tags_in}
use Rattle.lx_regex.specs.Values.{group_ends}
use Rattle.lx_regex.proofs.PartTables.RuleParts.{length-group_ends}

-- a plain rule
abbrev pub plain : (number : ℕ) → Expr → List Tag → Option ℕ → (groups : ℕ) → Rule
plain number expr tags slash groups = record { number = number; kind = Plain; expr = expr; tags = tags; slash = slash; groups = groups }

count_of_sorts : (rule : Rule) → length (sorts_of (pattern_of rule)) ≡ length rule.tags + 2 * rule.groups
count_of_sorts rule =
    let both : length (sorts_of (pattern_of rule)) ≡ length (map (λ (tag : Tag). tag.many) rule.tags) + length (group_ends rule.groups) =
    length-append (map (λ (tag : Tag). tag.many) rule.tags) (group_ends rule.groups) in
    let sorts : length (map (λ (tag : Tag). tag.many) rule.tags) ≡ length rule.tags = length-map rule.tags (λ (tag : Tag). tag.many) in
    let ends : length (group_ends rule.groups) ≡ 2 * rule.groups = length-group_ends rule.groups in
    omega (arith, both, sorts, ends)

-- its rule list keeps the limits
pub limits_of_one : (number : ℕ) (expr : Expr) (tags : List Tag) (slash : Option ℕ) (groups : ℕ)
    → size_of expr ≤ 4096 → length tags + 2 * (groups - 1) ≤ 128 → HasLongSequences (term_of (length tags) expr)
    → tags_in (term_of (length tags) expr) ≡ numbers_from 0 (length tags + 2 * groups)
    → IsSlashOf (pattern_of (plain number expr tags slash groups)) slash
    → IsWithinLimits (plain number expr tags slash groups ∷ [])
limits_of_one number expr tags slash groups size few sequences told stands = record {
  size = omega (arith, size);
  tags = omega (arith, few);
  ends = omega arith;
  numbers = (tt, tt);
  regular = (
    record {
      sequences = sequences;
      tags = told ∙ ap (numbers_from 0) (sym (count_of_sorts (plain number expr tags slash groups)));
      slash = stands;
    },
    tt,
  );
}
