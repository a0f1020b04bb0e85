use Rattle.std.proofs.Common.{List, ◌<◌, sym, subst}
use Rattle.std.specs.List.{AllByRecursion}
use Rattle.std.proofs.lemmas.Bool.Decides.{Decides-ltb}
use Rattle.lx_ccode.specs.declared.piece.StateCase.{StateCase}
use Rattle.lx_ccode.specs.Validity.{AreAscending}
use Rattle.lx_creader.proofs.StateLists.{below_first}
use Rattle.lx_creader.proofs.states.is_below.Goals as goal

pub returns-in-Some : goal.returns-in-Some
returns-in-Some c =
    let cons = c.in-Some.ensures.cases.0 in
    let less = Decides-ltb c.args.state c.in-Some.case.now.state in (
      λ e. subst (λ (l : List StateCase). AllByRecursion (λ (other : StateCase). c.args.state < other.state) l) (sym cons)
          (below_first c.args.state c.in-Some.case.now c.in-Some.field-0-1.now (subst (λ (l : List StateCase). AreAscending l) cons c.requires) (less.0 e)),
      λ all. less.1 (subst (λ (l : List StateCase). AllByRecursion (λ (other : StateCase). c.args.state < other.state) l) cons all).0,
    )
