use Rattle.std.proofs.Common.{◌≡◌, ◌++◌, ◌∙◌, List, ap, arith, subst, sym}
use Rattle.lx_ccode.specs.declared.piece.CodeBlock.{CodeBlock}
use Rattle.lx_layout.specs.Copies.{front_at}
use Rattle.lx_layout.specs.LaidParts.{ArePartEnds, seen_given}
use Rattle.lx_layout.specs.Parts.{given_asked}
use Rattle.lx_layout.specs.Plans.{unlabelled}
use Rattle.lx_layout.specs.declared.part_ends.PartEnds.{PartEnds}
use Rattle.lx_layout.proofs.copies.front_of.Goals as goal

pub returns-clause-front : goal.returns-clause-front
returns-clause-front c =
    let ends = c.in_ok-places.places.ends in
    let made = c.in_ok-places.ensures in
    let same = c.into_ends.ensures in
    let told = c.in_ok-asked.ensures.asked in
    let first = made.first in
    let asked : c.in_ok-asked.asked ≡ given_asked (seen_given ends.plans.input) = omega (arith, told, first) in
    record {
      ends = subst (λ (e : PartEnds). ArePartEnds e) (sym same) made.places.ends;
      begin = ap (λ (e : PartEnds). e.plans.begin) same ∙ made.begin;
      first = ap (λ (e : PartEnds). e.plans.first) same ∙ first;
      blocks = c.in_ok-asked.ensures.laid ∙ ap (λ (l : List CodeBlock). l ++ unlabelled (front_at ends.plans)) c.new-blocks.ensures.items
          ∙ ap (λ (e : PartEnds). unlabelled (front_at e.plans)) (sym same);
      asked = asked ∙ ap (λ (e : PartEnds). given_asked (seen_given e.plans.input)) (sym same);
    }
