-- Machines that stand where a run of an automaton stands, and what is saved where the run leaves a state.
use Rattle.std.specs.Prelude.{◌≡◌, ℕ, suc, Bool, true, false, ◌&&◌, Option, Some, None, is_some, if◌then◌else◌, refl}
use Rattle.std.proofs.Common.{sym, ap, ◌∙◌, subst, true≢false}
use Rattle.lx_auto.specs.Automaton.{state_of}
use Rattle.lx_auto.specs.Bank.{bank_after}
use Rattle.lx_auto.specs.Run.{Left, Standing, behind_edge, left_after}
use Rattle.lx_auto.specs.declared.automaton.Accept.{Accept}
use Rattle.lx_auto.specs.declared.automaton.Auto.{Auto}
use Rattle.lx_auto.specs.declared.automaton.Edge.{Edge}
use Rattle.lx_ccode.specs.declared.piece.Piece.{Piece}
use Rattle.lx_ccode.specs.Machine.{Machine}
use Rattle.lx_sequence.proofs.Agreeing.{Agrees}
use Rattle.lx_layout.specs.Carries.{HasSaved, StandsAs, HasNumber}
use Rattle.lx_layout.specs.Endings.{Ending}
use Rattle.lx_layout.proofs.Carrying.MachineSteps.{bank_of}
use Rattle.lx_layout.specs.Codes.{saved_by}

module _ (piece : Piece) (endings : ℕ → Ending) (auto : Auto) (place : ℕ → ℕ) (saved : Option (ℕ → ℕ)) (falls : ℕ → Bool) where
  abbrev pub Stands : Machine → Standing → Type 0
  Stands machine standing = StandsAs piece endings auto place saved falls machine standing

  abbrev Saved : Option Left → Machine → Type 0
  Saved left machine = HasSaved piece endings auto place saved falls left machine

  -- what is saved is told by a number and the marker
  saved_alike : (left : Option Left) (machine other : Machine) → other.accept ≡ machine.accept → other.marker ≡ machine.marker → Saved left machine
      → Saved left other
  saved_alike None machine other accept marker has = accept ∙ has
  saved_alike (Some left) machine other accept marker has =
      (subst (λ n. HasNumber (saved_by saved left.state) n) (sym accept) has.0, marker ∙ has.1)

  -- the unit that was read and the stored state are none of a run's
  pub stands_still : {machine : Machine} {standing : Standing} → Stands machine standing → (state unit : Option ℕ)
      → Stands (record machine { state = state; unit = unit }) standing
  stands_still {machine} {standing} stands state unit = record {
    cursor = stands.cursor;
    registers = stands.registers;
    histories = stands.histories;
    left = λ is.
        saved_alike standing.left machine (record machine { state = state; unit = unit }) (λ i. machine.accept) (λ i. machine.marker) (stands.left is);
    values = stands.values;
  }

  -- the registers of the machine agree with those of the run
  pub registers_agree : {machine : Machine} {standing : Standing} → Stands machine standing
      → Agrees auto.regs auto.mregs (bank_of machine) standing.bank
  registers_agree stands = record { same = stands.registers; alike = stands.histories }

  -- ---- along an edge

  -- the number that the machine has where a state was saved, of which a number is kept or none
  abbrev pub number_kept : (saved : Option ℕ) → (before : ℕ) → ℕ
  number_kept None before = before
  number_kept (Some saved) before = saved

  has_kept : (number : Option ℕ) (before : ℕ) → HasNumber number (number_kept number before)
  has_kept None before = tt
  has_kept (Some saved) before = refl

  -- the machine where an accepting state was saved, if it is saved
  abbrev pub kept : (saves : Bool) → (saved : Option ℕ) → Machine → Machine
  kept saves number machine = record machine {
    marker = if saves then machine.cursor else machine.marker;
    accept = if saves then number_kept number machine.accept else machine.accept;
  }

  saved_after : (o : Option Accept) (back : Bool) (standing : Standing) (machine after : Machine) → back ≡ true → machine.cursor ≡ standing.offset
      → (o ≡ None → Saved standing.left machine)
      → after.accept ≡ (if is_some o && back then number_kept (saved_by saved standing.state) machine.accept else machine.accept)
      → after.marker ≡ (if is_some o && back then machine.cursor else machine.marker) → Saved (left_after o standing) after
  saved_after None back standing machine after is cursor left accept marker =
      saved_alike standing.left machine after accept marker (left (λ i. None))
  saved_after (Some other) true standing machine after is cursor left accept marker =
      (subst (λ n. HasNumber (saved_by saved standing.state) n) (sym accept) (has_kept (saved_by saved standing.state) machine.accept), marker ∙ cursor)
  saved_after (Some other) false standing machine after is cursor left accept marker = absurd (true≢false (sym is))

  -- where the registers behind an edge agree with the run's, so does all else, if a match that falls back from the next state falls back
  -- from this one where it does not accept
  pub stands_behind : {machine : Machine} {standing : Standing} → Stands machine standing → (edge : Edge) (after : Machine)
      → ((state_of auto.states standing.state).accept ≡ None → falls edge.to ≡ true → falls standing.state ≡ true)
      → Agrees auto.regs auto.mregs (bank_of after)
      (bank_after machine.cursor edge.ops (bank_after machine.cursor (state_of auto.states standing.state).leave standing.bank))
      → after.cursor ≡ suc machine.cursor
      → after.accept
      ≡ (if is_some (state_of auto.states standing.state).accept && falls edge.to then number_kept (saved_by saved standing.state) machine.accept else machine.accept)
      → after.marker
      ≡ (if is_some (state_of auto.states standing.state).accept && falls edge.to then machine.cursor else machine.marker)
      → after.values ≡ machine.values → Stands after (behind_edge (state_of auto.states standing.state) standing edge)
  stands_behind {machine} {standing} stands edge after onward agree cursor accept marker values =
      let same = subst (λ n. Agrees auto.regs auto.mregs (bank_of after) (bank_after n edge.ops
      (bank_after n (state_of auto.states standing.state).leave standing.bank))) stands.cursor agree in
      record {
        cursor = cursor ∙ ap suc stands.cursor;
        registers = same.same;
        histories = same.alike;
        left = λ is.
            saved_after (state_of auto.states standing.state).accept (falls edge.to) standing machine after is stands.cursor
            (λ none. stands.left (onward none is)) accept marker;
        values = values ∙ stands.values;
      }
