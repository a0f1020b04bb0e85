use Rattle.std.proofs.Common.{◌∙◌, inl, refl}
use Rattle.lx_regex.specs.Expr.{term_of}
use Rattle.lx_regex.specs.Kinds.{kinds_of}
use Rattle.lx_rules.proofs.Rules.CopiedRules.{moved-nothing, shifted-nothing}
use Rattle.lx_rules.proofs.copies.rule_copy.Goals as goal

pub returns : goal.returns
returns c = record {
  number = refl;
  kind = refl;
  tags = c.in_ok-tag_copies.ensures;
  slash = c.number_of.ensures;
  slashed = c.requires.4;
  groups = refl;
  expr = c.in-Some.expr;
  kept = c.in-Some.is;
  term = c.in_ok-copy.ensures.term ∙ shifted-nothing (term_of 0 c.in-Some.expr);
  size = c.in_ok-copy.ensures.size (inl refl);
  kinds = c.in_ok-copy.ensures.kinds ∙ moved-nothing (kinds_of c.in-Some.expr);
}
