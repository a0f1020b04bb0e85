-- What is noted in graphs over registers, step by step.
use Rattle.std.proofs.Common.{◌≡◌, ℕ, ◌+◌, ◌-◌, ◌<◌, List, [], ◌∷◌, ◌++◌, refl, Contains, sym, ap, ◌∙◌, subst, arith}
use Rattle.std.proofs.Common.{inl, inr}
use Rattle.std.proofs.lemmas.List.Elements.{Contains-append_left, Contains-push, Contains-push_cases}
use Rattle.std.specs.Prelude.{◌⊎◌}
use Rattle.lx_auto.specs.declared.automaton.Held.{Held}
use Rattle.lx_auto.specs.declared.automaton.Held.TheVariants.{Reg, MReg}
use Rattle.lx_auto.specs.declared.ops.Op.{Op}
use Rattle.lx_auto.specs.Effects.{Writes, target_of}
use Rattle.lx_regs.specs.declared.held_graphs.HeldGraph.{HeldGraph}
use Rattle.lx_regs.specs.Graphs.{AreNeighbours, IsGraph, IsPair, Joins, size_of}
use Rattle.lx_regs.specs.HeldGraphs.{AreAmong, AreBeside, AreJoined, AreThese, AreTwo, IsHeldGraph, IsThere, Notes}

-- ---- of all that is noted

-- nothing is noted
pub notes-none : (AreSo : Held → Held → Type 0) (graph : HeldGraph) → IsHeldGraph graph
    → ((held other : Held) → AreSo held other → AreTwo held other → ⊥) → Notes AreSo graph graph
notes-none AreSo graph is none = record {
  formed = is;
  reg_count = refl;
  mreg_count = refl;
  joined = λ held other so two. absurd (none held other so two);
  kept = λ held other joined. joined;
  only = λ held other joined. inl joined;
}

-- the same is noted
pub notes-same : (AreSo AreSoToo : Held → Held → Type 0) (old new : HeldGraph) → ((held other : Held) → AreSo held other → AreSoToo held other)
    → ((held other : Held) → AreSoToo held other → AreSo held other) → Notes AreSo old new → Notes AreSoToo old new
notes-same AreSo AreSoToo old new forth back notes = record {
  formed = notes.formed;
  reg_count = notes.reg_count;
  mreg_count = notes.mreg_count;
  joined = λ held other so two. notes.joined held other (back held other so) two;
  kept = notes.kept;
  only = λ held other joined. at held other (notes.only held other joined);
}
  where
    at : (held other : Held) → AreJoined old held other ⊎ (AreSo held other ⊎ AreSo other held)
        → AreJoined old held other ⊎ (AreSoToo held other ⊎ AreSoToo other held)
    at held other (inl before) = inl before
    at held other (inr (inl so)) = inr (inl (forth held other so))
    at held other (inr (inr so)) = inr (inr (forth other held so))

-- something is noted, and then more
pub notes-more : (AreSo AreMore AreBoth : Held → Held → Type 0) (old middle new : HeldGraph)
    → ((held other : Held) → AreSo held other ⊎ AreMore held other → AreBoth held other)
    → ((held other : Held) → AreBoth held other → AreSo held other ⊎ AreMore held other)
    → Notes AreSo old middle → Notes AreMore middle new → Notes AreBoth old new
notes-more AreSo AreMore AreBoth old middle new forth back first second = record {
  formed = second.formed;
  reg_count = second.reg_count ∙ first.reg_count;
  mreg_count = second.mreg_count ∙ first.mreg_count;
  joined = λ held other both two. joined held other two (back held other both);
  kept = λ held other before. second.kept held other (first.kept held other before);
  only = λ held other there. later held other (second.only held other there);
}
  where
    joined : (held other : Held) → AreTwo held other → AreSo held other ⊎ AreMore held other → AreJoined new held other
    joined held other two (inl so) = second.kept held other (first.joined held other so two)
    joined held other two (inr more) = second.joined held other more two

    earlier : (held other : Held) → AreJoined old held other ⊎ (AreSo held other ⊎ AreSo other held)
        → AreJoined old held other ⊎ (AreBoth held other ⊎ AreBoth other held)
    earlier held other (inl before) = inl before
    earlier held other (inr (inl so)) = inr (inl (forth held other (inl so)))
    earlier held other (inr (inr so)) = inr (inr (forth other held (inl so)))

    later : (held other : Held) → AreJoined middle held other ⊎ (AreMore held other ⊎ AreMore other held)
        → AreJoined old held other ⊎ (AreBoth held other ⊎ AreBoth other held)
    later held other (inl before) = earlier held other (first.only held other before)
    later held other (inr (inl more)) = inr (inl (forth held other (inr more)))
    later held other (inr (inr more)) = inr (inr (forth other held (inr more)))

-- what is there stays there
pub there-still : (AreSo : Held → Held → Type 0) (old new : HeldGraph) → Notes AreSo old new → (held : Held) → IsThere old held → IsThere new held
there-still AreSo old new notes (Reg reg) there = subst (λ n. reg < n) (sym notes.reg_count) there
there-still AreSo old new notes (MReg mreg) there = subst (λ n. mreg < n + 1) (sym notes.mreg_count) there

-- ---- of one pair

pub notes-regs : (old new : HeldGraph) (reg other : ℕ) → IsHeldGraph old → new.mregs ≡ old.mregs → Joins old.regs new.regs reg other
    → Notes (AreThese (Reg reg) (Reg other)) old new
notes-regs old new reg other is same joins = record {
  formed = record { of_regs = joins.graph; of_mregs = subst IsGraph (sym same) is.of_mregs };
  reg_count = joins.size;
  mreg_count = ap size_of same;
  joined = λ held second these two.
      subst (λ k. AreJoined new held k) these.1 (subst (λ h. AreJoined new h (Reg other)) these.0 joins.joined);
  kept = kept;
  only = only;
}
  where
    kept : (held second : Held) → AreJoined old held second → AreJoined new held second
    kept (Reg first) (Reg second) near = joins.kept first second near
    kept (Reg first) (MReg second) near = near
    kept (MReg first) (Reg second) near = near
    kept (MReg first) (MReg second) near =
        (near.0, near.1, subst (λ g. AreNeighbours g (first - 1) (second - 1)) (sym same) near.2)

    of_pair : (first second : ℕ) → AreNeighbours old.regs first second ⊎ IsPair reg other first second
        → AreJoined old (Reg first) (Reg second)
        ⊎ (AreThese (Reg reg) (Reg other) (Reg first) (Reg second) ⊎ AreThese (Reg reg) (Reg other) (Reg second) (Reg first))
    of_pair first second (inl before) = inl before
    of_pair first second (inr (inl pair)) = inr (inl (ap Reg (sym pair.0), ap Reg (sym pair.1)))
    of_pair first second (inr (inr pair)) = inr (inr (ap Reg (sym pair.1), ap Reg (sym pair.0)))

    only : (held second : Held) → AreJoined new held second
        → AreJoined old held second ⊎ (AreThese (Reg reg) (Reg other) held second ⊎ AreThese (Reg reg) (Reg other) second held)
    only (Reg first) (Reg second) near = of_pair first second (joins.only first second near)
    only (Reg first) (MReg second) near = inl near
    only (MReg first) (Reg second) near = inl near
    only (MReg first) (MReg second) near =
        inl (near.0, near.1, subst (λ g. AreNeighbours g (first - 1) (second - 1)) same near.2)

pub notes-mregs : (old new : HeldGraph) (mreg other : ℕ) → IsHeldGraph old → 0 < mreg → 0 < other → new.regs ≡ old.regs
    → Joins old.mregs new.mregs (mreg - 1) (other - 1) → Notes (AreThese (MReg mreg) (MReg other)) old new
notes-mregs old new mreg other is above other_above same joins = record {
  formed = record { of_regs = subst IsGraph (sym same) is.of_regs; of_mregs = joins.graph };
  reg_count = ap size_of same;
  mreg_count = joins.size;
  joined = λ held second these two.
      subst (λ k. AreJoined new held k) these.1
      (subst (λ h. AreJoined new h (MReg other)) these.0 (above, other_above, joins.joined));
  kept = kept;
  only = only;
}
  where
    kept : (held second : Held) → AreJoined old held second → AreJoined new held second
    kept (Reg first) (Reg second) near = subst (λ g. AreNeighbours g first second) (sym same) near
    kept (Reg first) (MReg second) near = near
    kept (MReg first) (Reg second) near = near
    kept (MReg first) (MReg second) near = (near.0, near.1, joins.kept (first - 1) (second - 1) near.2)

    of_pair : (first second : ℕ) → 0 < first → 0 < second
        → AreNeighbours old.mregs (first - 1) (second - 1) ⊎ IsPair (mreg - 1) (other - 1) (first - 1) (second - 1)
        → AreJoined old (MReg first) (MReg second)
        ⊎ (AreThese (MReg mreg) (MReg other) (MReg first) (MReg second) ⊎ AreThese (MReg mreg) (MReg other) (MReg second) (MReg first))
    of_pair first second positive second_positive (inl before) = inl (positive, second_positive, before)
    of_pair first second positive second_positive (inr (inl pair)) =
        let one : mreg ≡ first = omega (arith, pair.0) in
        let two : other ≡ second = omega (arith, pair.1) in
        inr (inl (ap MReg one, ap MReg two))
    of_pair first second positive second_positive (inr (inr pair)) =
        let one : mreg ≡ second = omega (arith, pair.1) in
        let two : other ≡ first = omega (arith, pair.0) in
        inr (inr (ap MReg one, ap MReg two))

    only : (held second : Held) → AreJoined new held second
        → AreJoined old held second ⊎ (AreThese (MReg mreg) (MReg other) held second ⊎ AreThese (MReg mreg) (MReg other) second held)
    only (Reg first) (Reg second) near = inl (subst (λ g. AreNeighbours g first second) same near)
    only (Reg first) (MReg second) near = inl near
    only (MReg first) (Reg second) near = inl near
    only (MReg first) (MReg second) near = of_pair first second near.0 near.1 (joins.only (first - 1) (second - 1) near.2)

-- ---- of lists

pub among-pushed : (first : Held) (others : List Held) (second : Held) (old middle new : HeldGraph) → Notes (AreAmong first others) old middle
    → Notes (AreThese first second) middle new → Notes (AreAmong first (others ++ second ∷ [])) old new
among-pushed first others second old middle new before one =
    notes-more (AreAmong first others) (AreThese first second) (AreAmong first (others ++ second ∷ [])) old middle new
    (λ held other. forth held other) (λ held other among. back held other among.0 (Contains-push_cases others second other among.1)) before one
  where
    forth : (held other : Held) → AreAmong first others held other ⊎ AreThese first second held other
        → AreAmong first (others ++ second ∷ []) held other
    forth held other (inl among) = (among.0, Contains-append_left others (second ∷ []) other among.1)
    forth held other (inr these) = (these.0, subst (Contains (others ++ second ∷ [])) these.1 (Contains-push others second))

    back : (held other : Held) → first ≡ held → Contains others other ⊎ (second ≡ other)
        → AreAmong first others held other ⊎ AreThese first second held other
    back held other same (inl has) = inl (same, has)
    back held other same (inr last) = inr (same, last)

pub beside-pushed : (ops : List Op) (op : Op) (live : List Held) (old middle new : HeldGraph) → Notes (AreBeside ops live) old middle
    → Notes (AreAmong (target_of op) live) middle new → Notes (AreBeside (ops ++ op ∷ []) live) old new
beside-pushed ops op live old middle new before one =
    notes-more (AreBeside ops live) (AreAmong (target_of op) live) (AreBeside (ops ++ op ∷ []) live) old middle new
    (λ held other. forth held other) (λ held other beside. back held other beside.0 beside.1) before one
  where
    forth : (held other : Held) → AreBeside ops live held other ⊎ AreAmong (target_of op) live held other
        → AreBeside (ops ++ op ∷ []) live held other
    forth held other (inl ((writer, has, writes), alive)) = ((writer, Contains-append_left ops (op ∷ []) writer has, writes), alive)
    forth held other (inr (writes, alive)) = ((op, Contains-push ops op, writes), alive)

    back : (held other : Held) → Writes (ops ++ op ∷ []) held → Contains live other
        → AreBeside ops live held other ⊎ AreAmong (target_of op) live held other
    back held other (writer, has, writes) alive = at (Contains-push_cases ops op writer has)
      where
        at : Contains ops writer ⊎ (op ≡ writer) → AreBeside ops live held other ⊎ AreAmong (target_of op) live held other
        at (inl there) = inl ((writer, there, writes), alive)
        at (inr same) = inr (ap target_of same ∙ writes, alive)

-- ---- of graphs without neighbours

pub joined-empty : (graph : HeldGraph) → ((number other : ℕ) → AreNeighbours graph.regs number other → ⊥)
    → ((number other : ℕ) → AreNeighbours graph.mregs number other → ⊥) → (held other : Held) → AreJoined graph held other → ⊥
joined-empty graph none mnone (Reg first) (Reg second) near = none first second near
joined-empty graph none mnone (Reg first) (MReg second) near = near
joined-empty graph none mnone (MReg first) (Reg second) near = near
joined-empty graph none mnone (MReg first) (MReg second) near = mnone (first - 1) (second - 1) near.2
