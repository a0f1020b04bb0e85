use denote.Enum.Bare.{differs_false}
use Rattle.std.proofs.Common.{rules, ◌≡◌, ℕ, ◌+◌, length, map, refl, sym, ap, ◌∙◌, arith}
use Rattle.std.proofs.lemmas.List.{length-map}
use Rattle.std.specs.Prelude.{Bool}
use Rattle.lx_regex.specs.Expr.{term_of}
use Rattle.lx_regex.specs.Pattern.{pattern_of}
use Rattle.lx_regex.specs.contracts.rules.Kind.{the_type}
use Rattle.lx_regex.specs.declared.rules.Rule.{Rule}
use Rattle.lx_regex.specs.declared.rules.Tag.{Tag}
use Rattle.lx_renumber.proofs.EqualValues.{option_eq-differs}
use Rattle.lx_renumber.specs.Renumbered.{renumbered_pattern}
use Rattle.lx_renumber.proofs.rules.is_renumbered.Goals as goal

abbrev is_many : Tag → Bool
is_many tag = tag.many

-- a rule that has what another one has, with a greater number
renumbered-rule : (before rule : Rule) (by : ℕ) → rule.number ≡ before.number + by → rule.kind ≡ before.kind → rule.slash ≡ before.slash
    → rule.groups ≡ before.groups → map is_many rule.tags ≡ map is_many before.tags
    → ((tags : ℕ) → term_of tags rule.expr ≡ term_of tags before.expr) → pattern_of rule ≡ renumbered_pattern by (pattern_of before)
renumbered-rule before rule by number kind slash groups sorts term =
    let count : length rule.tags ≡ length before.tags =
    sym (length-map rule.tags is_many) ∙ ap length sorts ∙ length-map before.tags is_many in
    let terms = ap (λ tags. term_of tags rule.expr) count ∙ term (length before.tags) in
    λ i. record { number = number i; kind = kind i; term = terms i; many = sorts i; slash = slash i; groups = groups i }

pub returns-clause-pattern : goal.returns-clause-pattern
returns-clause-pattern c same =
    let rule = c.args.rule.now in
    let before = c.args.before.now in
    renumbered-rule before rule c.args.by (omega arith)
    (differs_false the_type (search rules) rule.kind before.kind (sym c.ne.ensures ∙ c.if-ne.false))
    (option_eq-differs rule.slash before.slash (sym c.ne-2.ensures ∙ c.if-ne-2.false))
    c.if-rule-before.false
    (ap (map is_many) (sym c.as_slice-2.ensures) ∙ c.if-not-have_same_sorts.ensures refl ∙ ap (map is_many) c.as_slice.ensures)
    (c.is_same.ensures.term same)
