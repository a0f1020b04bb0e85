-- What the definitions see of rules.
use Rattle.std.specs.Prelude.{ℕ, List, [], ◌∷◌, ◌++◌, map, length, Option, Some, None, Bool, true, false, if◌then◌else◌}
use Rattle.lx_regex.specs.Term.{Term}
use Rattle.lx_regex.specs.Expr.{term_of}
use Rattle.lx_regex.specs.Values.{group_ends}
use Rattle.lx_regex.specs.declared.rules.Kind.{Kind}
use Rattle.lx_regex.specs.declared.rules.Kind.TheVariants.{Plain, Default, Eof}
use Rattle.lx_regex.specs.declared.rules.Tag.{Tag}
use Rattle.lx_regex.specs.declared.rules.Rule.{Rule}

-- a rule: its number and kind, the term, of each tag whether it is an m-tag, the tag of the trailing context, and the groups
pub record Pattern : Type 0 where
  pub number : ℕ
  pub kind : Kind
  pub term : Term
  pub many : List Bool
  pub slash : Option ℕ
  pub groups : ℕ

-- a rule as a pattern
abbrev pub pattern_of : Rule → Pattern
pattern_of rule = record {
  number = rule.number;
  kind = rule.kind;
  term = term_of (length rule.tags) rule.expr;
  many = map (λ (tag : Tag). tag.many) rule.tags;
  slash = rule.slash;
  groups = rule.groups;
}

-- the rules of a scanner as patterns
abbrev pub patterns_of : List Rule → List Pattern
patterns_of rules = map pattern_of rules

-- the rule `$`
abbrev pub is_end : Kind → Bool
is_end Plain = false
is_end Default = false
is_end Eof = true

-- the rules that have an expression: all but `$`
abbrev pub with_terms : List Pattern → List Pattern
with_terms [] = []
with_terms (pattern ∷ patterns) = if is_end pattern.kind then with_terms patterns else pattern ∷ with_terms patterns

-- their terms: the rule list that the parts are numbered over
abbrev pub terms_of : List Pattern → List Term
terms_of patterns = map (λ (pattern : Pattern). pattern.term) (with_terms patterns)

-- the number of the rule `$`, if there is one
abbrev pub end_rule : List Pattern → Option ℕ
end_rule [] = None
end_rule (pattern ∷ patterns) = if is_end pattern.kind then Some pattern.number else end_rule patterns

-- of each tag number of a rule, the ends of its groups included, whether it is an m-tag
abbrev pub sorts_of : Pattern → List Bool
sorts_of pattern = pattern.many ++ group_ends pattern.groups
