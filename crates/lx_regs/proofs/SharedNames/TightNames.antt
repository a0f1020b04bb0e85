-- Colours of the graph of what interferes are names that registers can share.
use Rattle.std.proofs.Common.{◌≡◌, ℕ, zero, suc, ◌+◌, ◌-◌, ◌<◌, ◌≤◌, List, [], ◌∷◌, length, refl, sym, ap, ◌∙◌, subst, arith}
use Rattle.std.proofs.Common.{inl, inr}
use Rattle.std.proofs.lemmas.Bool.{cases_eq, cases_order}
use Rattle.std.proofs.lemmas.List.{get_or-map, length-map}
use Rattle.std.specs.Prelude.{◌⊎◌, ◌≢◌, map, slice_index}
use Rattle.lx_auto.specs.declared.automaton.Auto.{Auto}
use Rattle.lx_auto.specs.declared.automaton.Held.{Held}
use Rattle.lx_auto.specs.declared.automaton.Held.TheVariants.{Reg, MReg}
use Rattle.lx_auto.specs.Automaton.{IsAuto, IsOp, AreOps}
use Rattle.lx_auto.specs.declared.ops.Op.{Op}
use Rattle.lx_auto.specs.declared.ops.Op.TheVariants.{Here, Null, Copy, MHere, MNull, MCopy}
use Rattle.lx_auto.specs.Effects.{Names, Writes, target_of}
use Rattle.lx_auto.specs.Points.{state_at}
use Rattle.lx_auto.proofs.States.{state_formed}
use Rattle.lx_regs.specs.WrittenBeside.{AllMayInterfere, IsWrittenBeside, MayInterfere, written_on_accept, written_on_edge, written_on_leaving}
use Rattle.lx_regs.specs.declared.graphs.Graph.{Graph}
use Rattle.lx_regs.specs.declared.held_graphs.HeldGraph.{HeldGraph}
use Rattle.lx_regs.specs.Bounds.{IsBoundOf}
use Rattle.lx_regs.specs.Colours.{IsSharing}
use Rattle.lx_regs.specs.Graphs.{AreNeighbours, IsGraph, size_of}
use Rattle.lx_regs.specs.Interference.{IsInterferenceOf}
use Rattle.lx_regs.specs.SharedNames.{AreShared, AreTight, FitWithin, KeepApart, renamed_auto}
use Rattle.lx_regs.proofs.LiveRegisters.HeldBounds.{accept-formed, edge-ops}
use Rattle.lx_regs.proofs.Translations.RenamedInterference.{MayInterfere-renamed}

-- ---- colours

module _ (graph : Graph) (is : IsGraph graph) (colours : List ℕ) (sharing : IsSharing graph colours) where
  -- two numbers of these colours are neighbours
  abbrev pub HaveNeighbours : (colour other : ℕ) → Type 0
  HaveNeighbours colour other = (member second : ℕ) × AreNeighbours graph member second × (slice_index colours member ≡ colour)
      × (slice_index colours second ≡ other)

  pub turned : (colour other : ℕ) → HaveNeighbours colour other → HaveNeighbours other colour
  turned colour other (member, second, near, one, two) = (second, member, is.both_ways member second near, two, one)

  -- below a colour that some number has
  neighbours-here : (number colour other : ℕ) → number < size_of graph → slice_index colours number ≡ colour → other < colour
      → HaveNeighbours colour other
  neighbours-here number colour other within same less =
      at (sharing.tight number other within (subst (λ n. other < n) (sym same) less))
    where
      at : ((member second : ℕ) × AreNeighbours graph member second × (slice_index colours member ≡ slice_index colours number)
          × (slice_index colours second ≡ other)) → HaveNeighbours colour other
      at (member, second, near, one, two) = (member, second, near, one ∙ same, two)

  -- each colour below that of some number is that of some number
  pub neighbours-below : (top colour other : ℕ) → top < size_of graph → colour < slice_index colours top + 1 → other < colour
      → HaveNeighbours colour other
  neighbours-below top colour other within le less = by (cases_eq colour (slice_index colours top))
    where
      lower : ((member second : ℕ) × AreNeighbours graph member second × (slice_index colours member ≡ slice_index colours top)
          × (slice_index colours second ≡ colour)) → HaveNeighbours colour other
      lower (member, second, near, one, two) = neighbours-here second colour other (is.within member second near) two less

      by : (colour ≡ slice_index colours top) ⊎ (colour ≡ slice_index colours top → ⊥) → HaveNeighbours colour other
      by (inl same) = neighbours-here top colour other within (sym same) less
      by (inr differs) = lower (sharing.tight top colour within (omega (arith, le, differs)))

  pub neighbours-all : (bound colour other : ℕ) → IsBoundOf colours bound → colour < bound → other < bound → colour ≢ other
      → HaveNeighbours colour other
  neighbours-all bound colour other of below other_below differs = by (cases_order colour other) (of.reached (omega arith))
    where
      by : (colour ≡ other) ⊎ ((colour < other) ⊎ (other < colour))
          → ((place : ℕ) × (place < length colours) × (slice_index colours place + 1 ≡ bound)) → HaveNeighbours colour other
      by (inl same) top = absurd (differs same)
      by (inr (inl less)) (place, within, last) =
          turned other colour
          (neighbours-below place other colour (subst (λ n. place < n) sharing.count within) (subst (λ n. other < n) (sym last) other_below) less)
      by (inr (inr more)) (place, within, last) =
          neighbours-below place colour other (subst (λ n. place < n) sharing.count within) (subst (λ n. colour < n) (sym last) below) more

-- ---- names

-- the names of m-registers by the colours of those that are not m-register 0
abbrev pub behind_zero : List ℕ → List ℕ
behind_zero colours = 0 ∷ map (λ colour. colour + 1) colours

module _ (auto : Auto) (formed : IsAuto auto) (graph : HeldGraph) (interference : IsInterferenceOf auto graph) (regs colours : List ℕ)
    (of_regs : IsSharing graph.regs regs) (of_mregs : IsSharing graph.mregs colours) where
  abbrev pub names : Names
  names = record { regs = slice_index regs; mregs = slice_index (behind_zero colours) }

  reg_count : length regs ≡ auto.regs
  reg_count = of_regs.count ∙ interference.fits.reg_count

  mreg_count : length colours ≡ auto.mregs - 1
  mreg_count = of_mregs.count ∙ interference.fits.mreg_count

  -- the name of an m-register that is not m-register 0
  pub mreg-name : (mreg : ℕ) → 0 < mreg → mreg - 1 < length colours → names.mregs mreg ≡ slice_index colours (mreg - 1) + 1
  mreg-name zero above within = absurd (omega arith)
  mreg-name (suc place) above within =
      let same : suc place - 1 ≡ place = omega arith in
      let inside : place < length colours = omega (arith, within) in
      get_or-map (λ colour. colour + 1) colours place 0 0 inside ∙ ap (λ n. slice_index colours n + 1) (sym same)

  -- ---- registers that interfere have different names

  above-held : (regs mregs : ℕ) (ops : List Op) (mreg : ℕ) → AreOps regs mregs ops → Writes ops (MReg mreg) → (0 < mreg) × (mreg < mregs)
  above-held regs mregs [] mreg are (op, (place, within, is), writes) = absurd (omega arith)
  above-held regs mregs (first ∷ ops) mreg are (op, (zero, within, is), writes) = at first are.0 (ap target_of is ∙ writes)
    where
      at : (op : Op) → IsOp regs mregs op → target_of op ≡ MReg mreg → (0 < mreg) × (mreg < mregs)
      at (Here target) is same = absurd (cc same)
      at (Null target) is same = absurd (cc same)
      at (Copy target source) is same = absurd (cc same)
      at (MHere target) is same = let one : target ≡ mreg = cc same in subst (λ n. (0 < n) × (n < mregs)) one is
      at (MNull target) is same = let one : target ≡ mreg = cc same in subst (λ n. (0 < n) × (n < mregs)) one is
      at (MCopy target source) is same = let one : target ≡ mreg = cc same in subst (λ n. (0 < n) × (n < mregs)) one is.0
  above-held regs mregs (first ∷ ops) mreg are (op, (suc place, within, is), writes) =
      above-held regs mregs ops mreg are.1 (op, (place, omega arith, is), writes)

  written-above : (mreg : ℕ) (other : Held) → IsWrittenBeside auto (MReg mreg) other → (0 < mreg) × (mreg < auto.mregs)
  written-above mreg other (written_on_leaving point reached writes live) =
      above-held auto.regs auto.mregs (state_at auto point).leave mreg (state_formed auto point.state formed).leave writes
  written-above mreg other (written_on_edge point edge reached has writes live) =
      above-held auto.regs auto.mregs edge.ops mreg
      (edge-ops auto.regs auto.mregs (length auto.states) (state_at auto point).edges edge (state_formed auto point.state formed).lead has) writes
  written-above mreg other (written_on_accept point accept reached accepts writes has) =
      let are = accept-formed auto.regs auto.mregs (state_at auto point).accept accept (state_formed auto point.state formed).accept accepts in
      above-held auto.regs auto.mregs accept.ops mreg are.0 writes

  inner_reg : (reg other : ℕ) → Reg reg ≡ Reg other → reg ≡ other
  inner_reg reg other same = cc same

  inner_mreg : (mreg other : ℕ) → MReg mreg ≡ MReg other → mreg ≡ other
  inner_mreg mreg other same = cc same

  apart : KeepApart names auto
  apart (Reg reg) (Reg other) beside same = by (cases_eq reg other)
    where
      by : (reg ≡ other) ⊎ (reg ≡ other → ⊥) → Reg reg ≡ Reg other
      by (inl equal) = ap Reg equal
      by (inr differs) =
          ap Reg (of_regs.differ reg other (interference.complete (Reg reg) (Reg other) beside differs)
          (inner_reg (slice_index regs reg) (slice_index regs other) same))
  apart (Reg reg) (MReg other) beside same = absurd (cc same)
  apart (MReg mreg) (Reg other) beside same = absurd (cc same)
  apart (MReg mreg) (MReg zero) beside same =
      let above = written-above mreg (MReg 0) beside in
      let name = mreg-name mreg above.0 (omega (arith, above.0, above.1, mreg_count)) in
      let none : names.mregs mreg ≡ 0 = inner_mreg (names.mregs mreg) 0 same in
      absurd (omega (arith, name, none))
  apart (MReg mreg) (MReg (suc other)) beside same = by (cases_eq mreg (suc other))
    where
      by : (mreg ≡ suc other) ⊎ (mreg ≡ suc other → ⊥) → MReg mreg ≡ MReg (suc other)
      by (inl equal) = ap MReg equal
      by (inr differs) =
          let above = written-above mreg (MReg (suc other)) beside in
          let positive : 0 < suc other = omega arith in
          let joined = interference.complete (MReg mreg) (MReg (suc other)) beside (above.0, positive, differs) in
          let near = joined.2 in
          let inside : suc other - 1 < length colours =
          subst (λ n. suc other - 1 < n) (sym of_mregs.count) (interference.fits.formed.of_mregs.within (mreg - 1) (suc other - 1) near) in
          let name = mreg-name mreg above.0 (omega (arith, above.0, above.1, mreg_count)) in
          let second = mreg-name (suc other) positive inside in
          let names_same : names.mregs mreg ≡ names.mregs (suc other) = inner_mreg (names.mregs mreg) (names.mregs (suc other)) same in
          let one : slice_index colours (mreg - 1) ≡ slice_index colours (suc other - 1) = omega (arith, name, second, names_same) in
          let equal = of_mregs.differ (mreg - 1) (suc other - 1) near one in
          ap MReg (omega (arith, above.0, equal))

  -- ---- how many names there are

  module _ (named mnamed : ℕ) (bound : IsBoundOf regs named) (mbound : IsBoundOf (behind_zero colours) mnamed) where
    count_behind : length (behind_zero colours) ≡ length colours + 1
    count_behind = omega (arith, length-map colours (λ colour. colour + 1))

    fit : FitWithin names auto.regs auto.mregs named mnamed
    fit = record {
      regs_within = λ reg within. bound.above reg (subst (λ n. reg < n) (sym reg_count) within);
      mregs_within = λ mreg within. mbound.above mreg (omega (arith, within, mreg_count, count_behind));
      zero = refl;
      others = λ mreg above within.
          let name = mreg-name mreg above (omega (arith, above, within, mreg_count)) in omega (arith, name);
    }

    -- the greatest colour
    colours_bound : 1 < mnamed → IsBoundOf colours (mnamed - 1)
    colours_bound more = record { above = above; reached = λ some. reached (mbound.reached (omega arith)) }
      where
        name_at : (place : ℕ) → place < length colours → slice_index (behind_zero colours) (suc place) ≡ slice_index colours place + 1
        name_at place within = get_or-map (λ colour. colour + 1) colours place 0 0 within

        above : (place : ℕ) → place < length colours → slice_index colours place < mnamed - 1
        above place within =
            let below = mbound.above (suc place) (omega (arith, within, count_behind)) in
            let name = name_at place within in
            omega (arith, below, name, more)

        reached : ((place : ℕ) × (place < length (behind_zero colours)) × (slice_index (behind_zero colours) place + 1 ≡ mnamed))
            → (place : ℕ) × (place < length colours) × (slice_index colours place + 1 ≡ mnamed - 1)
        reached (zero, within, last) = absurd (omega (arith, more, last))
        reached (suc place, within, last) =
            let inside : place < length colours = omega (arith, within, count_behind) in
            let name = name_at place inside in
            (place, inside, omega (arith, name, last))

    of_two_regs : (name other : ℕ) → HaveNeighbours graph.regs interference.fits.formed.of_regs regs of_regs name other
        → (reg second : ℕ) × MayInterfere auto (Reg reg) (Reg second) × (names.regs reg ≡ name) × (names.regs second ≡ other)
    of_two_regs name other (reg, second, near, one, two) = (reg, second, interference.sound (Reg reg) (Reg second) near, one, two)

    of_two_mregs : (name other : ℕ) → 0 < name → 0 < other
        → HaveNeighbours graph.mregs interference.fits.formed.of_mregs colours of_mregs (name - 1) (other - 1)
        → (mreg second : ℕ) × MayInterfere auto (MReg mreg) (MReg second) × (names.mregs mreg ≡ name) × (names.mregs second ≡ other)
    of_two_mregs name other above other_above (member, second, near, one, two) =
        let within = interference.fits.formed.of_mregs.within member second near in
        let member_within = interference.fits.formed.of_mregs.within second member (interference.fits.formed.of_mregs.both_ways member second near) in
        let back : member + 1 - 1 ≡ member = omega arith in
        let second_back : second + 1 - 1 ≡ second = omega arith in
        let near_back : AreNeighbours graph.mregs (member + 1 - 1) (second + 1 - 1) =
        subst (λ n. AreNeighbours graph.mregs n (second + 1 - 1)) (sym back) (subst (λ n. AreNeighbours graph.mregs member n) (sym second_back) near) in
        let name_is = mreg-name (member + 1) (omega arith) (omega (arith, member_within, of_mregs.count)) in
        let other_is = mreg-name (second + 1) (omega arith) (omega (arith, within, of_mregs.count)) in
        let colour : slice_index colours (member + 1 - 1) ≡ name - 1 = ap (slice_index colours) back ∙ one in
        let other_colour : slice_index colours (second + 1 - 1) ≡ other - 1 = ap (slice_index colours) second_back ∙ two in (
          member + 1,
          second + 1,
          interference.sound (MReg (member + 1)) (MReg (second + 1)) (omega arith, omega arith, near_back),
          omega (arith, name_is, colour, above),
          omega (arith, other_is, other_colour, other_above),
        )

    tight : AreTight names auto named mnamed
    tight = record {
      of_regs = λ name other below other_below differs.
          of_two_regs name other
          (neighbours-all graph.regs interference.fits.formed.of_regs regs of_regs named name other bound below other_below differs);
      of_mregs = λ name other above below other_above other_below differs.
          let more : 1 < mnamed = omega (arith, above, below, other_above, other_below, differs) in
          of_two_mregs name other above other_above
          (neighbours-all graph.mregs interference.fits.formed.of_mregs colours of_mregs (mnamed - 1) (name - 1) (other - 1) (colours_bound more)
          (omega (arith, above, below)) (omega (arith, other_above, other_below)) (λ same. differs (omega (arith, same, above, other_above))));
    }

    few : named ≤ 1073741824
    few = by (cases_eq named 0)
      where
        top : ((place : ℕ) × (place < length regs) × (slice_index regs place + 1 ≡ named)) → named ≤ 1073741824
        top (place, within, last) =
            let inside : place < size_of graph.regs = subst (λ n. place < n) of_regs.count within in
            let low = of_regs.few place inside in
            let bounded = formed.few_regs in
            omega (arith, low, last, within, reg_count, bounded)

        by : (named ≡ 0) ⊎ (named ≡ 0 → ⊥) → named ≤ 1073741824
        by (inl none) = omega (arith, none)
        by (inr some) = top (bound.reached (omega (arith, some)))

    mfew : mnamed ≤ 1073741824
    mfew = by (cases_order mnamed 1)
      where
        top : ((place : ℕ) × (place < length colours) × (slice_index colours place + 1 ≡ mnamed - 1)) → mnamed ≤ 1073741824
        top (place, within, last) =
            let inside : place < size_of graph.mregs = subst (λ n. place < n) of_mregs.count within in
            let low = of_mregs.few place inside in
            let bounded = formed.few_mregs in
            omega (arith, low, last, within, mreg_count, bounded)

        by : (mnamed ≡ 1) ⊎ ((mnamed < 1) ⊎ (1 < mnamed)) → mnamed ≤ 1073741824
        by (inl one) = omega (arith, one)
        by (inr (inl none)) = omega (arith, none)
        by (inr (inr more)) = top ((colours_bound more).reached (omega (arith, more)))

    pub names-shared : AreShared names auto auto.regs auto.mregs named mnamed
    names-shared = record { apart = apart; fit = fit; tight = tight; few = few; mfew = mfew }

-- no register is named, or no m-register but m-register 0: so there have to be none
module _ (auto : Auto) (names : Names) (regs mregs named mnamed : ℕ) (shared : AreShared names auto regs mregs named mnamed) where
  pub shared-no_regs : AreShared names auto 0 mregs 0 mnamed
  shared-no_regs = record {
    apart = shared.apart;
    fit = record {
      regs_within = λ reg within. absurd (omega arith);
      mregs_within = shared.fit.mregs_within;
      zero = shared.fit.zero;
      others = shared.fit.others;
    };
    tight = record { of_regs = λ name other below other_below differs. absurd (omega arith); of_mregs = shared.tight.of_mregs };
    few = omega arith;
    mfew = shared.mfew;
  }

  pub shared-no_mregs : AreShared names auto regs 1 named 1
  shared-no_mregs = record {
    apart = shared.apart;
    fit = record {
      regs_within = shared.fit.regs_within;
      mregs_within = λ mreg within.
          let none : mreg ≡ 0 = omega arith in let name : names.mregs mreg ≡ 0 = ap names.mregs none ∙ shared.fit.zero in omega (arith, name);
      zero = shared.fit.zero;
      others = λ mreg above within. absurd (omega arith);
    };
    tight = record { of_regs = shared.tight.of_regs; of_mregs = λ name other above below other_above other_below differs. absurd (omega arith) };
    few = shared.few;
    mfew = omega arith;
  }

-- where names are tight any two registers of the automaton by these names interfere
pub shared-interfere : (auto : Auto) (names : Names) (regs mregs named mnamed : ℕ) → AreShared names auto regs mregs named mnamed
    → AllMayInterfere (renamed_auto names named mnamed auto)
shared-interfere auto names regs mregs named mnamed shared = record {
  regs = λ reg other within other_within differs. at_regs reg other (shared.tight.of_regs reg other within other_within differs);
  mregs = λ mreg other above within other_above other_within differs.
      at_mregs mreg other (shared.tight.of_mregs mreg other above within other_above other_within differs);
}
  where
    at_regs : (name other : ℕ)
        → ((reg second : ℕ) × MayInterfere auto (Reg reg) (Reg second) × (names.regs reg ≡ name) × (names.regs second ≡ other))
        → MayInterfere (renamed_auto names named mnamed auto) (Reg name) (Reg other)
    at_regs name other (reg, second, interfere, one, two) =
        subst (λ n. MayInterfere (renamed_auto names named mnamed auto) (Reg n) (Reg other)) one
        (subst (λ n. MayInterfere (renamed_auto names named mnamed auto) (Reg (names.regs reg)) (Reg n)) two
        (MayInterfere-renamed auto names named mnamed shared.apart shared.fit.zero (Reg reg) (Reg second) interfere))

    at_mregs : (name other : ℕ)
        → ((mreg second : ℕ) × MayInterfere auto (MReg mreg) (MReg second) × (names.mregs mreg ≡ name) × (names.mregs second ≡ other))
        → MayInterfere (renamed_auto names named mnamed auto) (MReg name) (MReg other)
    at_mregs name other (mreg, second, interfere, one, two) =
        subst (λ n. MayInterfere (renamed_auto names named mnamed auto) (MReg n) (MReg other)) one
        (subst (λ n. MayInterfere (renamed_auto names named mnamed auto) (MReg (names.mregs mreg)) (MReg n)) two
        (MayInterfere-renamed auto names named mnamed shared.apart shared.fit.zero (MReg mreg) (MReg second) interfere))
