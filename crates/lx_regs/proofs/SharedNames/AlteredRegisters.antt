-- Where each operation is read and none copies a register to itself, what is written is altered, and so registers interfere.
use Rattle.std.proofs.Common.{◌≡◌, ℕ, zero, suc, List, [], ◌∷◌, ◌++◌, Option, Some, Bool, true, false, refl, ◌||◌, if◌then◌else◌, Contains, sym, ap, ◌∙◌, subst, inl, inr, eqb-true, arith}
use Rattle.std.specs.List.{list_any}
use Rattle.std.proofs.lemmas.Bool.{eq-eqb, false≢true}
use Rattle.lx_auto.specs.declared.automaton.Accept.{Accept}
use Rattle.lx_auto.specs.declared.automaton.Auto.{Auto}
use Rattle.lx_auto.specs.declared.automaton.Edge.{Edge}
use Rattle.lx_auto.specs.declared.automaton.Held.{Held}
use Rattle.lx_auto.specs.declared.automaton.Held.TheVariants.{Reg, MReg}
use Rattle.lx_auto.specs.declared.automaton.State.{State}
use Rattle.lx_auto.specs.declared.ops.Op.{Op}
use Rattle.lx_auto.specs.declared.ops.Op.TheVariants.{Here, Null, Copy, MHere, MNull, MCopy}
use Rattle.lx_auto.specs.Automaton.{state_of}
use Rattle.lx_auto.specs.Effects.{Alters, Writes, here, nothing, held_by, copies_into, copies_itself, effect_after, effect_behind, mark_by, marks_by, origin_after, origin_behind, sets, target_of}
use Rattle.lx_auto.specs.Live.{AllInterfere, AtSomePoint, EachIsWanted, EachTargetIsRead, Interfere, IsAlteredBeside, IsLiveBehind, IsLiveOnLeaving, on_accept, on_edge, on_leaving}
use Rattle.lx_auto.specs.Points.{state_at}
use Rattle.lx_regs.specs.IdleOps.{some_itself, some_itself_at, some_itself_by}
use Rattle.lx_regs.specs.WrittenBeside.{AllMayInterfere, IsWrittenBeside, MayInterfere, written_on_accept, written_on_edge, written_on_leaving}
use Rattle.lx_regs.proofs.CutOperations.UnsetRegisters.{copies-last, effect_after-unset, effect_behind-unset, none-first, none-second, origin_after-uncopied, origin_behind-uncopied, sets-last}

-- ---- one operation

set-alters : (op : Op) (reg : ℕ) → sets reg op ≡ true → copies_itself op ≡ false → effect_behind op reg (held_by reg) ≡ held_by reg → ⊥
set-alters (Here target) reg is none same =
    let both : here ≡ held_by reg = sym (ap (λ b. if b then here else held_by reg) is) ∙ same in cc both
set-alters (Null target) reg is none same =
    let both : nothing ≡ held_by reg = sym (ap (λ b. if b then nothing else held_by reg) is) ∙ same in cc both
set-alters (Copy target source) reg is none same =
    let both : held_by source ≡ held_by reg = sym (ap (λ b. if b then held_by source else held_by reg) is) ∙ same in
    let one : source ≡ reg = cc both in
    false≢true (sym none ∙ eq-eqb target source (sym (one ∙ eqb-true reg target is)))
set-alters (MHere target) reg is none same = false≢true is
set-alters (MNull target) reg is none same = false≢true is
set-alters (MCopy target source) reg is none same = false≢true is

copy-alters : (op : Op) (mreg : ℕ) → copies_into mreg op ≡ true → copies_itself op ≡ false → origin_behind op mreg mreg ≡ mreg → ⊥
copy-alters (MCopy target source) mreg is none same =
    let one : source ≡ mreg = sym (ap (λ b. if b then source else mreg) is) ∙ same in
    false≢true (sym none ∙ eq-eqb target source (sym (one ∙ eqb-true mreg target is)))
copy-alters (Here target) mreg is none same = false≢true is
copy-alters (Null target) mreg is none same = false≢true is
copy-alters (Copy target source) mreg is none same = false≢true is
copy-alters (MHere target) mreg is none same = false≢true is
copy-alters (MNull target) mreg is none same = false≢true is

sets-target : (op : Op) (reg : ℕ) → target_of op ≡ Reg reg → sets reg op ≡ true
sets-target (Here target) reg same = let one : target ≡ reg = cc same in eq-eqb reg target (sym one)
sets-target (Null target) reg same = let one : target ≡ reg = cc same in eq-eqb reg target (sym one)
sets-target (Copy target source) reg same = let one : target ≡ reg = cc same in eq-eqb reg target (sym one)
sets-target (MHere target) reg same = absurd (cc same)
sets-target (MNull target) reg same = absurd (cc same)
sets-target (MCopy target source) reg same = absurd (cc same)

-- what writes an m-register and is no copy puts a mark at its end
mark-alters : (op : Op) (mreg : ℕ) (marks : List Bool) → target_of op ≡ MReg mreg → copies_into mreg op ≡ false
    → mark_by op mreg ++ marks ≡ [] → ⊥
mark-alters (MHere target) mreg marks same none empty =
    let one : target ≡ mreg = cc same in
    let full : true ∷ marks ≡ [] =
    sym (ap (λ b. (if b then true ∷ [] else []) ++ marks) (eq-eqb mreg target (sym one))) ∙ empty in
    cc full
mark-alters (MNull target) mreg marks same none empty =
    let one : target ≡ mreg = cc same in
    let full : false ∷ marks ≡ [] =
    sym (ap (λ b. (if b then false ∷ [] else []) ++ marks) (eq-eqb mreg target (sym one))) ∙ empty in
    cc full
mark-alters (MCopy target source) mreg marks same none empty =
    let one : target ≡ mreg = cc same in false≢true (sym none ∙ eq-eqb mreg target (sym one))
mark-alters (Here target) mreg marks same none empty = absurd (cc same)
mark-alters (Null target) mreg marks same none empty = absurd (cc same)
mark-alters (Copy target source) mreg marks same none empty = absurd (cc same)

nil-behind : {X : Type 0} (front back : List X) → front ++ back ≡ [] → back ≡ []
nil-behind [] back empty = empty
nil-behind (x ∷ front) back empty = absurd (cc empty)

-- ---- a list

module _ (auto : Auto) (IsWanted : Held → Type 0) where
  written-reg : (ops : List Op) (reg : ℕ) → EachIsWanted auto IsWanted ops → list_any copies_itself ops ≡ false → Writes ops (Reg reg)
      → effect_after ops reg (held_by reg) ≡ held_by reg → ⊥
  written-reg [] reg wanted none (op, (place, within, is), target) same = omega arith
  written-reg (op ∷ ops) reg wanted none writes same =
      at (sets reg op) refl writes
      (written-reg ops reg wanted.2 (none-second (copies_itself op) (list_any copies_itself ops) none))
    where
      at : (b : Bool) → sets reg op ≡ b → Writes (op ∷ ops) (Reg reg)
          → (Writes ops (Reg reg) → effect_after ops reg (held_by reg) ≡ held_by reg → ⊥) → ⊥
      at true is writes later =
          set-alters op reg is (none-first (copies_itself op) (list_any copies_itself ops) none)
          (sym (effect_after-unset ops reg (effect_behind op reg (held_by reg)) (sets-last op ops reg is wanted.1)) ∙ same)
      at false is (other, (zero, within, first), target) later =
          false≢true (sym is ∙ sets-target op reg (ap target_of first ∙ target))
      at false is (other, (suc place, within, behind), target) later =
          later (other, (place, omega arith, behind), target)
          (sym (ap (effect_after ops reg) (effect_behind-unset op reg (held_by reg) is)) ∙ same)

  written-mreg : (ops : List Op) (mreg : ℕ) → EachIsWanted auto IsWanted ops → list_any copies_itself ops ≡ false → Writes ops (MReg mreg)
      → origin_after ops mreg mreg ≡ mreg → marks_by ops mreg ≡ [] → ⊥
  written-mreg [] mreg wanted none (op, (place, within, is), target) origin marks = omega arith
  written-mreg (op ∷ ops) mreg wanted none writes origin marks =
      at (copies_into mreg op) refl writes
      (written-mreg ops mreg wanted.2 (none-second (copies_itself op) (list_any copies_itself ops) none))
    where
      at : (b : Bool) → copies_into mreg op ≡ b → Writes (op ∷ ops) (MReg mreg)
          → (Writes ops (MReg mreg) → origin_after ops mreg mreg ≡ mreg → marks_by ops mreg ≡ [] → ⊥) → ⊥
      at true is writes later =
          copy-alters op mreg is (none-first (copies_itself op) (list_any copies_itself ops) none)
          (sym (origin_after-uncopied ops mreg (origin_behind op mreg mreg) (copies-last op ops mreg is wanted.1)) ∙ origin)
      at false is (other, (zero, within, first), target) later =
          mark-alters op mreg (marks_by ops mreg) (ap target_of first ∙ target) is marks
      at false is (other, (suc place, within, behind), target) later =
          later (other, (place, omega arith, behind), target)
          (sym (ap (origin_after ops mreg) (origin_behind-uncopied op mreg mreg is)) ∙ origin)
          (nil-behind (mark_by op mreg) (marks_by ops mreg) marks)

  Alters-written : (ops : List Op) (held : Held) → EachIsWanted auto IsWanted ops → list_any copies_itself ops ≡ false → Writes ops held
      → Alters ops held
  Alters-written ops (Reg reg) wanted none writes = λ same. written-reg ops reg wanted none writes same
  Alters-written ops (MReg mreg) wanted none writes = λ same.
      let origin : origin_after ops mreg mreg ≡ mreg = cc same in
      let marks : marks_by ops mreg ≡ [] = cc same in
      written-mreg ops mreg wanted none writes origin marks

-- ---- an automaton

none-at : (states : List State) (number : ℕ) → list_any some_itself_at states ≡ false → some_itself_at (state_of states number) ≡ false
none-at [] number none = refl
none-at (state ∷ states) zero none = none-first (some_itself_at state) (list_any some_itself_at states) none
none-at (state ∷ states) (suc number) none =
    none-at states number (none-second (some_itself_at state) (list_any some_itself_at states) none)

none-on : (edges : List Edge) (edge : Edge) → Contains edges edge → list_any some_itself edges ≡ false → some_itself edge ≡ false
none-on [] edge (place, within, is) none = absurd (omega arith)
none-on (first ∷ edges) edge (zero, within, is) none =
    subst (λ (e : Edge). some_itself e ≡ false) is (none-first (some_itself first) (list_any some_itself edges) none)
none-on (first ∷ edges) edge (suc place, within, is) none =
    none-on edges edge (place, omega arith, is) (none-second (some_itself first) (list_any some_itself edges) none)

none-by : (accept : Option Accept) (other : Accept) → accept ≡ Some other → some_itself_by accept ≡ false
    → list_any copies_itself other.ops ≡ false
none-by accept other is none = sym (ap some_itself_by is) ∙ none

module _ (auto : Auto) (read : EachTargetIsRead auto) (none : list_any some_itself_at auto.states ≡ false) where
  none-leaving : (number : ℕ) → list_any copies_itself (state_of auto.states number).leave ≡ false
  none-leaving number =
      let state = state_of auto.states number in
      none-first (list_any copies_itself state.leave) (some_itself_by state.accept || list_any some_itself state.edges)
      (none-at auto.states number none)

  none-beside : (number : ℕ)
      → (some_itself_by (state_of auto.states number).accept || list_any some_itself (state_of auto.states number).edges) ≡ false
  none-beside number =
      let state = state_of auto.states number in
      none-second (list_any copies_itself state.leave) (some_itself_by state.accept || list_any some_itself state.edges)
      (none-at auto.states number none)

  IsAlteredBeside-written : (held other : Held) → IsWrittenBeside auto held other → IsAlteredBeside auto held other
  IsAlteredBeside-written held other (written_on_leaving point reached writes live) =
      on_leaving point reached
      (Alters-written auto (λ h. AtSomePoint auto point.state (λ at. IsLiveOnLeaving auto at h)) (state_at auto point).leave held
      (read.leaves point.state) (none-leaving point.state) writes)
      live
  IsAlteredBeside-written held other (written_on_edge point edge reached has writes live) =
      let state = state_of auto.states point.state in
      on_edge point edge reached has
      (Alters-written auto (λ h. AtSomePoint auto point.state (λ at. IsLiveBehind auto at edge h)) edge.ops held
      (read.edges point.state edge has)
      (none-on state.edges edge has
      (none-second (some_itself_by state.accept) (list_any some_itself state.edges) (none-beside point.state)))
      writes)
      live
  IsAlteredBeside-written held other (written_on_accept point accept reached accepts writes has) =
      let state = state_of auto.states point.state in
      on_accept point accept reached accepts
      (Alters-written auto (λ h. AtSomePoint auto point.state (λ at. Contains accept.values h)) accept.ops held
      (read.accepts point.state accept accepts)
      (none-by state.accept accept accepts
      (none-first (some_itself_by state.accept) (list_any some_itself state.edges) (none-beside point.state)))
      writes)
      has

  Interfere-written : (held other : Held) → MayInterfere auto held other → Interfere auto held other
  Interfere-written held other (inl beside) = inl (IsAlteredBeside-written held other beside)
  Interfere-written held other (inr beside) = inr (IsAlteredBeside-written other held beside)

  pub AllInterfere-written : AllMayInterfere auto → AllInterfere auto
  AllInterfere-written all = record {
    regs = λ reg other within also apart. Interfere-written (Reg reg) (Reg other) (all.regs reg other within also apart);
    mregs = λ mreg other above within other_above also apart.
        Interfere-written (MReg mreg) (MReg other) (all.mregs mreg other above within other_above also apart);
  }
