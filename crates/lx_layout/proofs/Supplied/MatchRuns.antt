-- The run of a match, from its entry on: it ends as the automaton's, or with the rule that stands at the end of the stream.
use Rattle.std.specs.Prelude.{◌≡◌, ℕ, zero, suc, ◌+◌, ◌-◌, ◌*◌, ◌<◌, ◌≤◌, List, [], ◌∷◌, length, drop, Option, Some, None, IsSome, false, refl, slice_get}
use Rattle.std.proofs.Common.{sym, ap, ◌∙◌, subst, arith}
use Rattle.std.specs.List.{AllByRecursion}
use Rattle.lx_auto.specs.Automaton.{IsAuto, edge_on, state_of}
use Rattle.lx_auto.specs.Bank.{Bank}
use Rattle.lx_auto.specs.Run.{Standing, start_with}
use Rattle.lx_auto.specs.declared.automaton.Auto.{Auto}
use Rattle.lx_ccode.specs.declared.piece.Piece.{Piece}
use Rattle.lx_ccode.specs.declared.piece.Stmt.{Stmt}
use Rattle.lx_ccode.specs.Machine.{Answer, Machine, code_at, units_of_answers}
use Rattle.lx_ccode.specs.Runs.{Ended, entry_block, loop_count, run, run_in}
use Rattle.lx_ccode.specs.Schedules.{Buffer, IsLegal, Schedule}
use Rattle.lx_ccode.specs.Statements.{code_of, statement_count}
use Rattle.lx_layout.specs.Endings.{Ending, ending_code}
use Rattle.lx_layout.specs.RightInMode.{AreEnough, AreStoredBy}
use Rattle.lx_layout.specs.Starts.{machine_with, run_with}
use Rattle.lx_layout.specs.Stops.{bank_from, last_standing}
use Rattle.lx_layout.specs.Supplied.{IsTarget, Serves, ServesEntry}
use Rattle.lx_layout.specs.Halting.{Halting, is_entered}
use Rattle.lx_layout.specs.Supplies.{Supply, entry}
use Rattle.lx_layout.specs.Told.{told_at}
use Rattle.lx_layout.proofs.BlockLayouts.CodesInBlocks.{length-block}
use Rattle.lx_layout.proofs.BlockLayouts.Questions.{FitsTable}
use Rattle.lx_layout.proofs.Rules.RuleEnds.{ending_run}
use Rattle.lx_layout.proofs.Runs.PartialRuns.{EndsIn, widen_end}
use Rattle.lx_layout.proofs.Runs.OperationSteps.{machine_at, raised-shift}
use Rattle.lx_layout.proofs.Supplied.EnteredStates.{entered-edge}
use Rattle.lx_layout.proofs.Supplied.ReaderClaims.{TellsOrEnds, reader_claim, told_behind}
use Rattle.lx_layout.proofs.Supplied.ReaderRuns.{reader_code}
use Rattle.lx_layout.proofs.Supplied.Readers.{IsReading}
use Rattle.lx_layout.proofs.Supplied.SufficientUnits.{HoldsAs, HoldsAs-edge, StandsAt}
use Rattle.lx_layout.proofs.Supplied.SuppliedRuns.{Tells, next_code, state_claim, suffices-start, target}

-- what is told of the rest of the stream where a match begins, by the rule that stands at the end, if there is one
abbrev pub told_from : (endings : ℕ → Ending) → (cond : List ℕ) → Auto → (end_rule : Option ℕ) → Standing → List ℕ → Ended
told_from endings cond auto None st w = told_behind endings cond auto (last_standing auto st w)
told_from endings cond auto (Some rule) st [] = told_at endings cond rule st.offset []
told_from endings cond auto (Some rule) st (unit ∷ w) = told_behind endings cond auto (last_standing auto st (unit ∷ w))

module _ (p : Piece) (x : List ℕ) (start : ℕ) (supply : Supply) (halting : Halting) (endings : ℕ → Ending) (greatest : ℕ) (auto : Auto) (place : ℕ → ℕ) (saved : Option (ℕ → ℕ)) (rules : ℕ → ℕ) (fall : ℕ)
    (end_rule : Option ℕ) (begin : ℕ) (serves : Serves supply halting endings greatest auto (code_of p.blocks) place saved rules fall end_rule)
    (enters : ServesEntry supply halting endings greatest auto (code_of p.blocks) place saved rules fall end_rule begin) (formed : IsAuto auto)
    (at_limit : p.eof ≡ supply.eof) (stored : AreStoredBy supply.stored p) (fits : FitsTable supply.among p)
    (enough : supply.eof ≡ None → AreEnough auto supply.check)
    (first : Option ℕ) (cond : List ℕ) where
  abbrev TellsHere : (lim : ℕ) → Standing → List Stmt → (u kept : Option ℕ) → Bank → List Answer → (told : Ended) → Type 0
  TellsHere lim st code u kept k q told =
      Tells p x start supply halting endings greatest auto place saved rules fall end_rule begin serves enters formed at_limit stored fits enough first cond lim st code None u kept k q told

  -- from the entry on, where a rule stands at the end
  module _ (rule block : ℕ) (code : List Stmt) (own : slice_get (code_of p.blocks) block ≡ Some code) (some : IsSome supply.eof)
      (reader : ServesEntry supply halting endings greatest auto (code_of p.blocks) place saved rules fall (Some rule) block) (bank : Bank) where
    no_none : supply.eof ≡ None → ⊥
    no_none none = let h : IsSome {T = ℕ} None = subst (λ o. IsSome o) none some in cc

    entry_claim : (g : ℕ) (w : List ℕ) (lim : ℕ) (u kept : Option ℕ) (q : List Answer) (buffer : Buffer) → length q < g
        → HoldsAs halting auto (start_with start bank) None bank → StandsAt p x start supply greatest auto w lim (start_with start bank) q buffer
        → TellsHere lim (start_with start bank) code u kept bank q (told_from endings cond auto (Some rule) (start_with start bank) w)
    entry_claim zero w lim u kept q buffer few h stands = absurd (omega (arith, few))
    entry_claim (suc g) w lim u kept q buffer few h stands =
        reader_claim p x start supply halting endings greatest auto place saved rules fall end_rule serves formed at_limit stored fits
        (next_code p x start supply halting endings greatest auto place saved rules fall end_rule begin serves enters formed at_limit stored fits enough first cond) first cond
        (start_with start bank) None bank h entry 0 block (λ end. slice_get (code_of p.blocks) end ≡ Some (ending_code endings rule []))
        (λ to is. (ending_code endings rule [], is)) code own w lim u kept q buffer stands (λ none. absurd (no_none none))
        (told_from endings cond auto (Some rule) (start_with start bank) w) reader.1 (λ none. absurd (no_none none))
        (λ unit w' e. ap (λ l. told_from endings cond auto (Some rule) (start_with start bank) l) e)
        (λ to next lim' u' kept' q' e is is_next.
        let n = length-block (code_of p.blocks) to (ending_code endings rule []) is in
        let same : ending_code endings rule [] ≡ next = cc in
        let over = ending_run p x start start lim' u' 0 kept' first bank q' endings rule [] start cond in
        subst (λ l. EndsIn p x start (3 * statement_count p.blocks) next (machine_at start start lim' u' 0 kept' first bank cond []) q'
        (told_from endings cond auto (Some rule) (start_with start bank) l)) (sym e)
        (subst (λ c. EndsIn p x start (3 * statement_count p.blocks) c (machine_at start start lim' u' 0 kept' first bank cond []) q'
        (told_at endings cond rule start [])) same (widen_end p x start (3 * statement_count p.blocks) over (omega (arith, n)))))
        (λ lim' u' kept' q' buffer' fewer stands'. entry_claim g w lim' u' kept' q' buffer' (omega (arith, few, fewer)) h stands')
        (λ unit w' edge e code' lim' u' kept' q' buffer' fewer on is stands'.
        state_claim p x start supply halting endings greatest auto place saved rules fall end_rule begin serves enters formed at_limit stored fits enough first cond
        (suc (length w' + length q')) w' lim' u' kept' q' buffer' _ _ _ code' (omega arith)
        (entered-edge end_rule auto 0 unit edge h.state on) (HoldsAs-edge halting auto (start_with start bank) None bank unit edge formed serves.onward h on) stands' is)

  -- from any entry on
  module _ (bank : Bank) (h : HoldsAs halting auto (start_with start bank) None bank) (w : List ℕ) (lim : ℕ) (q : List Answer) (buffer : Buffer)
      (stands : StandsAt p x start supply greatest auto w lim (start_with start bank) q buffer) where
    entered : (given : Option ℕ) (block : ℕ) → end_rule ≡ given → (IsSome given → IsSome supply.eof)
        → ServesEntry supply halting endings greatest auto (code_of p.blocks) place saved rules fall given block
        → (code : List Stmt) × (slice_get (code_of p.blocks) block ≡ Some code)
        × TellsHere lim (start_with start bank) code None None bank q (told_from endings cond auto given (start_with start bank) w)
    entered None block is some same =
        let code = next_code p x start supply halting endings greatest auto place saved rules fall end_rule begin serves enters formed at_limit stored fits enough first cond 0 h.state in (
          code.0,
          ap (λ n. slice_get (code_of p.blocks) n) same ∙ code.1,
          state_claim p x start supply halting endings greatest auto place saved rules fall end_rule begin serves enters formed at_limit stored fits enough first cond
              (suc (length w + length q)) w lim None None q buffer (start_with start bank) None bank code.0 (omega arith)
              (ap (λ o. is_entered o auto 0) is) h stands code.1,
        )
    entered (Some rule) block is some reader =
        let code = reader_code supply halting endings greatest auto (code_of p.blocks) place saved rules fall entry 0 block
        (λ unit to. IsTarget supply halting endings greatest auto (code_of p.blocks) place saved rules fall 0 (state_of auto.states 0)
        (edge_on (state_of auto.states 0).edges unit) to) (λ end. slice_get (code_of p.blocks) end ≡ Some (ending_code endings rule []))
        (λ unit to is. target p x start supply halting endings greatest auto place saved rules fall end_rule begin serves enters formed at_limit stored fits enough first cond 0
        (edge_on (state_of auto.states 0).edges unit) to h.state is) reader.1 in
        (code.0, code.1, entry_claim rule block code.0 code.1 (some refl) reader bank (suc (length q)) w lim None None q buffer (omega arith) h stands)

-- the run of a match under a schedule
pub match_run : (p : Piece) (x : List ℕ) (start : ℕ) (supply : Supply) (halting : Halting) (endings : ℕ → Ending) (greatest : ℕ) (auto : Auto) (place : ℕ → ℕ) (saved : Option (ℕ → ℕ)) (rules : ℕ → ℕ)
    (fall : ℕ) (end_rule : Option ℕ) (block : ℕ) → Serves supply halting endings greatest auto (code_of p.blocks) place saved rules fall end_rule → IsAuto auto
    → p.eof ≡ supply.eof → AreStoredBy supply.stored p → FitsTable supply.among p → (supply.eof ≡ None → AreEnough auto supply.check) → (cond : List ℕ)
    → (IsSome end_rule → IsSome supply.eof)
    → ServesEntry supply halting endings greatest auto (code_of p.blocks) place saved rules fall end_rule block → entry_block p.conds cond ≡ Some block
    → start ≤ length x → AllByRecursion (λ unit. unit ≤ greatest) (drop start x) → (registers : ℕ → Option ℕ) (histories : ℕ → List (Option ℕ))
    → (schedule : Schedule) → IsLegal p (length x) start schedule → (IsReading p → IsSome supply.eof → supply.tries ≡ false → schedule.first ≡ length x)
    → TellsOrEnds p supply (length x)
    (told_from endings cond auto end_rule (start_with start (bank_from registers histories)) (drop start x))
    (run_with p x start registers histories cond schedule)
unfolding run_with
match_run p x start supply halting endings greatest auto place saved rules fall end_rule block serves formed at_limit stored fits enough cond some entered_by is_entry le small registers histories schedule legal whole =
    let q : List Answer = schedule.answers in
    let k : Bank = bank_from registers histories in
    let m : Machine = machine_with registers histories start schedule.first cond in
    let fuel : ℕ = loop_count p start (schedule.first + units_of_answers schedule.answers) in
    let holds : HoldsAs halting auto (start_with start (bank_from registers histories)) None (bank_from registers histories) = record {
      state = formed.start;
      found = tt;
      same = λ falls. refl;
      fresh = λ none falls. falls;
      agrees = record { same = λ r lt. refl; alike = λ r lt. refl };
    } in
    let stands : StandsAt p x start supply greatest auto (drop start x) schedule.first (start_with start (bank_from registers histories)) schedule.answers
    (record { base = 0; limit = schedule.first; closed = false }) = record {
      rest = refl;
      small = small;
      from = omega arith;
      below = legal.from_start;
      fills = record { within = legal.within; limit = refl; legal = legal.answers };
      whole = whole;
      ready = λ none unchecked. suffices-start auto supply.check (schedule.first - start) (enough none) unchecked;
    } in
    let claim = entered p x start supply halting endings greatest auto place saved rules fall end_rule block serves entered_by formed at_limit stored fits enough (registers 0) cond
    (bank_from registers histories) holds (drop start x) schedule.first schedule.answers (record { base = 0; limit = schedule.first; closed = false })
    stands end_rule block refl some entered_by in
    let go = claim.2.holds 0 fuel (omega arith) (omega arith) in
    let found : code_at p.blocks (entry_block p.conds cond) ≡ Some claim.0 = ap (λ o. code_at p.blocks o) is_entry ∙ claim.1 in
    let same : m ≡ machine_at start start schedule.first None 0 None (registers 0) k cond [] =
    ap (λ g. machine_with g histories start schedule.first cond) (sym (raised-shift registers)) in
    let ran : run_in p x start (code_at p.blocks (entry_block p.conds cond)) m q
    ≡ run p x start fuel 0 claim.0 (machine_at start start schedule.first None 0 None (registers 0) k cond []) q =
    ap (λ o. run_in p x start o m q) found ∙ ap (λ m. run p x start fuel 0 claim.0 m q) same in
    subst (λ e. TellsOrEnds p supply (length x) (told_from endings cond auto end_rule (start_with start (bank_from registers histories)) (drop start x)) e)
    (sym ran) go
