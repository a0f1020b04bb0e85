use Rattle.std.proofs.Common.{◌≡◌, List, sym, subst, arith, length}
use Rattle.lx_base.specs.declared.settings.Enc.{Enc}
use Rattle.lx_encode.specs.Graph.{IsGraphOf}
use Rattle.lx_tnfa.specs.Classes.{AreClasses, HasClass}
use Rattle.lx_tnfa.specs.declared.classes.ClassGraph.{ClassGraph}
use Rattle.lx_tnfa.proofs.Leaves.ClassLists.{classes_push, class_last}
use Rattle.lx_tnfa.proofs.classes.Classes.number_of.Goals as goal

pub returns-clause-are_classes : goal.returns-clause-are_classes
returns-clause-are_classes c =
    subst (λ (enc : Enc). AreClasses enc c.note.new.self.list.items) (sym c.note.ensures.enc)
    (subst (λ (l : List ClassGraph). AreClasses c.args.self.now.enc l) (sym c.note.ensures.list)
    (classes_push c.args.self.now.enc c.args.self.now.list.items c.push.new.self.items _ c.in_ok-push.ensures.items c.requires.are_classes
    (subst (λ s. IsGraphOf c.args.self.now.enc s c.in_ok-graph.graph) (sym c.in_ok-set.ensures.ranges) c.in_ok-graph.ensures.graph)))

pub returns-clause-number : goal.returns-clause-number
returns-clause-number c =
    let count : c.len-number.result ≡ length c.args.self.now.list.items = omega (arith, c.len-number.ensures) in
    subst (λ (l : List ClassGraph). HasClass l c.len-number.result c.args.set.now) (sym c.note.ensures.list)
    (class_last c.args.self.now.list.items c.push.new.self.items _ c.len-number.result c.args.set.now c.in_ok-push.ensures.items count c.in_ok-set.ensures.ranges)
