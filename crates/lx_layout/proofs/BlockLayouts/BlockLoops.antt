-- Statements and blocks, one behind another.
use Rattle.std.specs.Prelude.{◌≡◌, ℕ, ◌+◌, ◌<◌, List, [], ◌∷◌, ◌++◌, length, drop, slice_index_or, None, Bool, true, false, if◌then◌else◌}
use Rattle.std.proofs.Common.{refl, ap, sym, subst, ◌∙◌}
use Rattle.std.proofs.lemmas.List.{drop_more}
use Rattle.lx_auto.specs.Automaton.{AreStates, LeadWithin}
use Rattle.lx_auto.specs.declared.automaton.Auto.{Auto}
use Rattle.lx_auto.specs.declared.automaton.Edge.{Edge}
use Rattle.lx_auto.specs.declared.automaton.State.{State}
use Rattle.lx_auto.specs.declared.ops.Op.{Op}
use Rattle.lx_ccode.specs.declared.piece.Stmt.{Stmt}
use Rattle.lx_sequence.specs.ParallelCopies.{sequentialized}
use Rattle.lx_layout.specs.Codes.{list_code}
use Rattle.lx_layout.specs.Plans.{HaveOrder, unlabelled}
use Rattle.lx_dispatch.specs.Views.{seen_classes}
use Rattle.lx_dispatch.specs.TransitionClasses.{has_class, transition_classes, classes_onto}
use Rattle.lx_dispatch.specs.declared.classes.TransitionClass.{TransitionClass}
use Rattle.lx_layout.proofs.Operations.SequenceBounds.{ops_code-append}

-- ---- statements

pub list_code-append : (auto : Auto) (ops : List Op) (rest : List Stmt) → list_code auto ops rest ≡ list_code auto ops [] ++ rest
list_code-append auto ops rest = ops_code-append (sequentialized auto.regs auto.mregs ops) rest

-- ---- transition classes

LeadWithin-append : (regs mregs count : ℕ) (a b : List Edge) → LeadWithin regs mregs count a → LeadWithin regs mregs count b
    → LeadWithin regs mregs count (a ++ b)
LeadWithin-append regs mregs count [] b h g = g
LeadWithin-append regs mregs count (edge ∷ a) b h g = (h.0, h.1, LeadWithin-append regs mregs count a b h.2 g)

LeadWithin-onto : (regs mregs count : ℕ) (edges found : List Edge) → LeadWithin regs mregs count found → LeadWithin regs mregs count edges
    → LeadWithin regs mregs count (classes_onto found edges)
LeadWithin-onto regs mregs count [] found h g = h
LeadWithin-onto regs mregs count (edge ∷ edges) found h g = by (has_class found edge) (λ classes is. LeadWithin-onto regs mregs count edges classes is g.2)
  where
    by : (t : Bool) → ((classes : List Edge) → LeadWithin regs mregs count classes → LeadWithin regs mregs count (classes_onto classes edges))
        → LeadWithin regs mregs count (classes_onto (if t then found else found ++ edge ∷ []) edges)
    by true again = again found h
    by false again = again (found ++ edge ∷ []) (LeadWithin-append regs mregs count found (edge ∷ []) h (g.0, g.1, tt))

pub LeadWithin-transition_classes : (regs mregs count : ℕ) (edges : List Edge) → LeadWithin regs mregs count edges
    → LeadWithin regs mregs count (transition_classes edges)
LeadWithin-transition_classes regs mregs count edges lead = LeadWithin-onto regs mregs count edges [] tt lead

module _ (classes : List TransitionClass) (index : ℕ) (class : TransitionClass) (within : index < length classes) (is : class ≡ slice_index_or classes index class) where
  here : drop index classes ≡ class ∷ drop (index + 1) classes
  here = drop_more classes index class within ∙ ap (λ w. w ∷ drop (index + 1) classes) (sym is)

  pub classes-lead : (regs mregs count : ℕ) → LeadWithin regs mregs count (seen_classes (drop index classes))
      → LeadWithin regs mregs count (class.edge.now ∷ seen_classes (drop (index + 1) classes))
  classes-lead regs mregs count lead = subst (λ (l : List TransitionClass). LeadWithin regs mregs count (seen_classes l)) here lead

-- ---- blocks

pub unlabelled-append : (a b : List (List Stmt)) → unlabelled (a ++ b) ≡ unlabelled a ++ unlabelled b
unlabelled-append [] b = refl
unlabelled-append (code ∷ a) b = ap (λ l. record { cond = None; stmts = code } ∷ l) (unlabelled-append a b)

-- ---- plans

pub states_ordered : (regs mregs count : ℕ) (states : List State) → AreStates regs mregs count states → HaveOrder states
states_ordered regs mregs count [] are = tt
states_ordered regs mregs count (state ∷ states) are = (are.0.apart, states_ordered regs mregs count states are.1)
