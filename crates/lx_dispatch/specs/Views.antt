-- What the definitions see of what the code holds.
use Rattle.std.specs.Prelude.{ℕ, List, Option, map}
use Rattle.lx_auto.specs.declared.automaton.Edge.{Edge}
use Rattle.lx_dispatch.specs.TestTrees as trees
use Rattle.lx_dispatch.specs.TestTrees.{TestTree, among, at_most, fork, leaf, switch, test}
use Rattle.lx_dispatch.specs.TransitionClasses.{Split, Stretch}
use Rattle.lx_dispatch.specs.declared.test_trees.Question.{Question}
use Rattle.lx_dispatch.specs.declared.test_trees.Question.TheVariants.{AtMost, Is, Among}
use Rattle.lx_dispatch.specs.declared.test_trees.TestTree as held_tree
use Rattle.lx_dispatch.specs.declared.test_trees.UnitCase.{UnitCase}
use Rattle.lx_dispatch.specs.declared.test_trees.TestTree.TheOpen.{TestTree-F}
use Rattle.lx_dispatch.specs.declared.test_trees.TestTree.TheFolds.{fold-TestTree}
use Rattle.lx_dispatch.specs.declared.unit_splits.Split as held_split
use Rattle.lx_dispatch.specs.declared.unit_splits.Stretch as held_stretch
use Rattle.lx_dispatch.specs.declared.classes.TransitionClass.{TransitionClass}
use Rattle.lx_dispatch.specs.declared.classes.TransitionClasses.{TransitionClasses}
use Rattle.lx_dispatch.specs.declared.classes.TransitionClasses.TheVariants.{Few, Many}

abbrev pub seen_classes : List TransitionClass → List Edge
seen_classes classes = map (λ class. class.edge.now) classes

abbrev pub class_list : TransitionClasses → List TransitionClass
class_list (Few classes) = classes.items
class_list (Many classes) = classes.value.keys

abbrev pub seen_stretch : held_stretch.Stretch → Stretch
seen_stretch stretch = record { greatest = stretch.greatest; class = stretch.class }

abbrev pub seen_stretches : List held_stretch.Stretch → List Stretch
seen_stretches stretches = map seen_stretch stretches

abbrev pub seen_split : held_split.Split → Split
seen_split split = record { tests = seen_stretches split.tests.items; last = split.last }

abbrev pub seen_question : Question → trees.Question
seen_question (AtMost greatest) = at_most greatest
seen_question (Is unit) = trees.is unit
seen_question (Among set) = among set

abbrev pub seen_case : UnitCase → List ℕ × Option ℕ
seen_case case = (case.units.items, case.class)

-- one test, with the trees behind it
abbrev pub seen_test : TestTree-F (TestTree (Option ℕ)) → TestTree (Option ℕ)
seen_test (TestTree-F.Leaf class) = leaf class
seen_test (TestTree-F.Test question class high) = test (seen_question question) class high.value
seen_test (TestTree-F.Fork greatest low high) = fork (at_most greatest) low.value high.value
seen_test (TestTree-F.Switch cases last) = switch (map seen_case cases.items) last

abbrev pub seen_tree : held_tree.TestTree → TestTree (Option ℕ)
seen_tree = fold-TestTree (TestTree (Option ℕ)) seen_test
