use Rattle.std.proofs.Common.{◌∙◌, ap, arith, map, subst, sym}
use Rattle.lx_regex.specs.Expr.{members_of, term_of}
use Rattle.lx_regex.specs.Kinds.{joined, kinds_of}
use Rattle.lx_regex.proofs.Trees.Kinds.{kinds-one}
use Rattle.lx_exprs.specs.Values.{HaveTagsBelow}
use Rattle.lx_exprs.proofs.Contents.ValueContents.{choice_free, choice_members, choice_one, choice_other}
use Rattle.lx_exprs.proofs.values.Content.into_choice.Goals as goal

pub returns-in-Choice-clause-built : goal.returns-in-Choice-clause-built
returns-in-Choice-clause-built c built meaning is = choice_members built meaning c.args.self c.in-Choice.members c.in-Choice.is is

pub returns-in_ok-vec-in-Some : goal.returns-in_ok-vec-in-Some
returns-in_ok-vec-in-Some c =
    let items = c.in_ok-vec-in-Some.ensures.items in
    let size = c.in-Some.ensures.size in record {
      built = λ built meaning is.
          choice_one meaning c.in-Some.expr c.in_ok-vec-in-Some.field-0.items
          (choice_free built meaning c.args.self is c.in-Some.ensures.kept (λ members same. c.in_default.not-Choice members same)) items
          (c.in-Some.ensures.built built meaning is);
      past = tt;
      size = rw items (omega (arith, size));
      choice = λ choice. absurd (choice_other c.args.self c.in-Some.ensures.kept (λ members same. c.in_default.not-Choice members same) choice);
      tags = λ bound below. subst (λ l. HaveTagsBelow 1 bound (members_of (map (term_of 0) l))) (sym items) (c.in-Some.ensures.tags bound below, tt);
      kinds = ap (λ l. joined (map kinds_of l)) items ∙ kinds-one c.in-Some.expr ∙ c.in-Some.ensures.kinds;
    }
