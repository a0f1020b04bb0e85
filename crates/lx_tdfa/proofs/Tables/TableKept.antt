-- What was found in the state that was left last is read from the registers later too.
use Rattle.std.proofs.Common.{◌≡◌, ℕ, ◌+◌, ◌<◌, ◌≤◌, List, [], length, Option, Some, None, Bool, refl, ap, ◌∙◌, sym, subst, subst₂, arith}
use Rattle.lx_auto.specs.Automaton.{edge_on, state_of}
use Rattle.lx_auto.specs.Bank.{Bank, bank_after}
use Rattle.lx_auto.specs.Run.{Standing, behind_edge, by_edge, found_at, found_behind, found_by, found_left, left_after, or_else, run, start_with, step}
use Rattle.lx_auto.specs.declared.automaton.Accept.{Accept}
use Rattle.lx_auto.specs.declared.automaton.Auto.{Auto}
use Rattle.lx_auto.specs.declared.automaton.Edge.{Edge}
use Rattle.lx_auto.specs.declared.automaton.State.{State}
use Rattle.lx_auto.specs.declared.ops.Op.{Op}
use Rattle.lx_base.specs.Spelling.{greatest_unit}
use Rattle.lx_base.specs.declared.settings.Enc.{Enc}
use Rattle.lx_regex.specs.Order.{Policy}
use Rattle.lx_regex.specs.Pattern.{Pattern}
use Rattle.lx_tnfa.specs.Tnfa.{Tnfa}
use Rattle.lx_tnfa.specs.declared.places.Place.{Place}
use Rattle.lx_tdfa.specs.Registers.{ending_ops, kinds_of_rule, widest}
use Rattle.lx_tdfa.specs.Steps.{Ending}
use Rattle.lx_tdfa.specs.Table.{IsTableBy, Onward, accept_of, leave_of}
use Rattle.lx_tdfa.proofs.Tables.Courses.{Course, KeepUp}
use Rattle.lx_tdfa.proofs.Values.HeldValues.{found_left-same, read_all-same}
use Rattle.lx_tdfa.proofs.Values.RegisterWrites.{AllAvoid, mregs-avoid, regs-avoid}
use Rattle.lx_tdfa.proofs.Values.StepOps.{kinds_of_rule-widest}
use Rattle.lx_tdfa.proofs.Tables.TableRuns.{Goes, IsLeft, Stands, edge_ops, stands-run, stands-start, state_at}

-- operations that leave the first registers alone
module _ (tnfa : Tnfa) (first : Bool) (behind : Standing) (ops : List Op)
    (avoids : (reg : ℕ) → reg < widest tnfa.rules → AllAvoid reg ops) (left : IsLeft tnfa behind.left) where
  abbrev behind_ops : List Op → Bank
  behind_ops leave = bank_after behind.offset ops (bank_after behind.offset leave behind.bank)

  pub left_of : (ending : Option Ending)
      → found_left (behind_ops (leave_of tnfa first ending)) (left_after (accept_of tnfa first ending) behind)
      ≡ or_else (found_by (accept_of tnfa first ending) behind) (found_left behind.bank behind.left)
  left_of None =
      found_left-same (behind_ops []) behind.bank (widest tnfa.rules)
      (λ reg within. regs-avoid (bank_after behind.offset [] behind.bank) behind.offset ops reg (avoids reg within))
      (λ reg within. mregs-avoid (bank_after behind.offset [] behind.bank) behind.offset ops reg (avoids reg within) ∙ mregs-avoid behind.bank behind.offset [] reg tt)
      tnfa behind.left (omega arith) left
  left_of (Some ending) =
      let leave : List Op = ending_ops tnfa (widest tnfa.rules) first ending in
      let short : length (kinds_of_rule tnfa ending.rule) ≤ widest tnfa.rules = kinds_of_rule-widest tnfa ending.rule in
      let fits : 0 + length (kinds_of_rule tnfa ending.rule) ≤ widest tnfa.rules = omega arith in
      ap (λ l. Some (record { rule = ending.rule; values = l; offset = behind.offset }))
      (read_all-same (behind_ops leave) (bank_after behind.offset leave behind.bank) (widest tnfa.rules)
      (λ reg within. regs-avoid (bank_after behind.offset leave behind.bank) behind.offset ops reg (avoids reg within))
      (λ reg within. mregs-avoid (bank_after behind.offset leave behind.bank) behind.offset ops reg (avoids reg within))
      0 (kinds_of_rule tnfa ending.rule) fits)

module _ {policy : Policy} {enc : Enc} {patterns : List Pattern} {tnfa : Tnfa} {course : Course policy enc patterns tnfa} {K : Type 0}
    {begin : K} {places_in : K → List Place} {GoesOn : (first : Bool) → K → Onward K → Type 0}
    {IsAfter : (first : Bool) → K → (word : List ℕ) → Type 0} (keeps : KeepUp course begin places_in GoesOn IsAfter) {kernels : List K} {auto : Auto}
    (table : IsTableBy begin GoesOn tnfa (greatest_unit enc) kernels auto) where
  module _ (start : ℕ) (word : List ℕ) (behind : Standing) (stands : Stands course places_in IsAfter kernels start word behind) where
    abbrev state : State
    state = state_of auto.states behind.state

    stands-kept : (unit : ℕ) (next : Standing) → step auto behind unit ≡ Some next
        → found_left next.bank next.left ≡ or_else (found_at auto behind) (found_left behind.bank behind.left)
    stands-kept unit next stepped = by_edges (edge_on state.edges unit) refl stepped
      where
        goes : Goes keeps table behind.state stands.first stands.kernel
        goes = state_at keeps table start word behind stands

        by_edges : (found : Option Edge) → edge_on state.edges unit ≡ found → by_edge state behind found ≡ Some next
            → found_left next.bank next.left ≡ or_else (found_at auto behind) (found_left behind.bank behind.left)
        by_edges None on stepped = absurd (cc stepped)
        by_edges (Some edge) on stepped =
            let same : behind_edge state behind edge ≡ next = cc stepped in
            let avoids : (reg : ℕ) → reg < widest tnfa.rules → AllAvoid reg edge.ops = edge_ops keeps table start word behind stands unit edge on in
            subst (λ (s : Standing). found_left s.bank s.left ≡ or_else (found_at auto behind) (found_left behind.bank behind.left)) same
            (subst₂ (λ (a : Option Accept) (l : List Op).
            found_left (bank_after behind.offset edge.ops (bank_after behind.offset l behind.bank)) (left_after a behind)
            ≡ or_else (found_by a behind) (found_left behind.bank behind.left)) (sym goes.is.accept) (sym goes.is.leave)
            (left_of tnfa stands.first behind edge.ops avoids stands.left goes.onward.ending))

  pub table-kept : (start : ℕ) (bank : Bank) (word : List ℕ) (behind next : Standing) (unit : ℕ) → bank.mregs 0 ≡ []
      → run auto (start_with start bank) word ≡ Some behind → step auto behind unit ≡ Some next
      → found_behind auto next ≡ or_else (found_at auto next) (found_behind auto behind)
  table-kept start bank word behind next unit empty ran stepped =
      ap (or_else (found_at auto next))
      (stands-kept start word behind
      (stands-run keeps table start word [] (start_with start bank) behind
      (stands-start keeps table start bank empty) ran) unit next stepped)
