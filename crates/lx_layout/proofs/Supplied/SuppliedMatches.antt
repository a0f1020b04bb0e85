-- A piece whose blocks serve the automaton of its rules with a supply is right in the mode of the supply.
use Rattle.std.specs.Prelude.{◌≡◌, ◌⊎◌, ℕ, suc, ◌-◌, ◌≤◌, List, [], ◌∷◌, length, drop, IfSome, Option, Some, None, IsSome, Bool, true, false, refl}
use Rattle.std.proofs.Common.{inl, inr, sym, ap, ◌∙◌, subst, arith, length-drop, true≢false}
use Rattle.std.specs.List.{AllByRecursion, list_any}
use Rattle.lx_auto.specs.Bank.{Bank}
use Rattle.lx_auto.specs.Run.{found_behind, start_with}
use Rattle.lx_auto.specs.declared.automaton.Auto.{Auto}
use Rattle.lx_base.specs.Spelling.{greatest_unit}
use Rattle.lx_base.specs.declared.settings.Enc.{Enc}
use Rattle.lx_ccode.specs.Runs.{Ended, entry_block}
use Rattle.lx_ccode.specs.Schedules.{IsLegal, Schedule}
use Rattle.lx_ccode.specs.Statements.{all_statements, code_of, is_reading}
use Rattle.lx_ccode.specs.declared.piece.Mode.{Mode}
use Rattle.lx_ccode.specs.declared.piece.Mode.TheVariants.{Count, Eof, EofFixed, Plain}
use Rattle.lx_ccode.specs.declared.piece.Piece.{Piece}
use Rattle.lx_regex.specs.Kernel.{IsWord}
use Rattle.lx_regex.specs.Match.{IsEnd, at_end, matched}
use Rattle.lx_regex.specs.Order.{Policy}
use Rattle.lx_regex.specs.Pattern.{Pattern, end_rule, terms_of}
use Rattle.lx_tdfa.specs.Promise.{IsAutoUnder}
use Rattle.lx_layout.specs.Endings.{Ending}
use Rattle.lx_layout.specs.Halting.{Halting}
use Rattle.lx_layout.specs.RightInMode.{AreEnough, EndsAtCheck, HaveEndings, IsRightInMode, IsSupplied, IsSupplyOf, TellsMatch}
use Rattle.lx_layout.specs.Starts.{run_with}
use Rattle.lx_layout.specs.Stops.{Stops, bank_from, last_standing, told_found}
use Rattle.lx_layout.specs.Supplied.{Serves, ServesEntry}
use Rattle.lx_layout.specs.Supplies.{Supply}
use Rattle.lx_layout.specs.Told.{put_back, slash_value, told_at, told_of, told_with}
use Rattle.lx_layout.proofs.BlockLayouts.Questions.{FitsTable}
use Rattle.lx_layout.proofs.Runs.Matches.{IsWord-units, outcome_told, stops_there}
use Rattle.lx_layout.proofs.Supplied.MatchRuns.{match_run, told_from}
use Rattle.lx_layout.proofs.Supplied.PlainRuns.{plain_found}
use Rattle.lx_layout.proofs.Supplied.ReaderClaims.{TellsOrEnds}
use Rattle.lx_layout.proofs.Supplied.Readers.{IsReading}
use Rattle.lx_layout.proofs.Supplied.StillRuns.{still_found}

-- there is none where there is none
nothing : (o : Option ℕ) → o ≡ None → IsSome o → ⊥
nothing o none some = let h : IsSome {T = ℕ} None = subst (λ o. IsSome o) none some in cc

module _ (policy : Policy) (enc : Enc) (patterns : List Pattern) (auto : Auto) (is : IsAutoUnder policy enc patterns auto) (endings : ℕ → Ending)
    (ends : HaveEndings enc patterns endings) (cond : List ℕ) where
  -- what is told of the rest of a stream is a match of the rules
  told_match : (x : List ℕ) (start : ℕ) (bank : Bank) → bank.mregs 0 ≡ [] → start ≤ length x → IsWord enc (terms_of patterns) (drop start x)
      → (o : Option ℕ) → end_rule patterns ≡ o → (w : List ℕ) → drop start x ≡ w → (told : Ended)
      → told ≡ told_from endings cond auto o (start_with start bank) w → TellsMatch policy cond enc patterns endings x start told
  told_match x start bank empty le units None none w split told tells =
      let no_end : (rule : ℕ) → IsEnd policy enc patterns x start rule → ⊥ = λ rule end. let e = sym none ∙ end.1 in cc in
      let match = outcome_told policy enc patterns auto is endings x start bank empty units ends.slashes ends.set no_end cond in
      (match.0, match.1, tells ∙ ap (λ l. told_from endings cond auto None (start_with start bank) l) (sym split) ∙ match.2)
  told_match x start bank empty le units (Some rule) some [] split told tells =
      let left : length x - start ≡ 0 = sym (length-drop start x) ∙ ap length split in
      let whole : start ≡ length x = omega (arith, left, le) in
      let bare = subst (λ o. IfSome o (λ rule. ((endings rule).tags ≡ []) × ((endings rule).slash ≡ None) × ((endings rule).groups ≡ 0))) some ends.bare in
      let plain : told_at endings cond rule start [] ≡ told_of endings cond (matched rule start []) =
      ap (λ s. told_with endings cond rule start [] (put_back (slash_value s []) start)) bare.1 in
      (matched rule start [], at_end rule (whole, some), tells ∙ plain)
  told_match x start bank empty le units (Some rule) some (unit ∷ w) split told tells =
      let left : length x - start ≡ suc (length w) = sym (length-drop start x) ∙ ap length split in
      let no_end : (other : ℕ) → IsEnd policy enc patterns x start other → ⊥ = λ other end. let whole = end.0 in omega (arith, left, whole) in
      let match = outcome_told policy enc patterns auto is endings x start bank empty units ends.slashes ends.set no_end cond in
      (match.0, match.1, tells ∙ ap (λ l. told_from endings cond auto None (start_with start bank) l) (sym split) ∙ match.2)

  module _ (supply : Supply) (halting : Halting) (piece : Piece) (place : ℕ → ℕ) (saved : Option (ℕ → ℕ)) (rules : ℕ → ℕ) (fall entry : ℕ)
      (serves : Serves supply halting endings (greatest_unit enc) auto (code_of piece.blocks) place saved rules fall (end_rule patterns))
      (enters : ServesEntry supply halting endings (greatest_unit enc) auto (code_of piece.blocks) place saved rules fall (end_rule patterns) entry)
      (some : IsSome (end_rule patterns) → IsSome supply.eof) (is_entry : entry_block piece.conds cond ≡ Some entry) where
    -- without a unit at the end no rule stands there, and the entry is the block of state 0
    lone_entry : supply.eof ≡ None → (o : Option ℕ) → end_rule patterns ≡ o
        → ServesEntry supply halting endings (greatest_unit enc) auto (code_of piece.blocks) place saved rules fall o entry
        → (end_rule patterns ≡ None) × (entry ≡ place 0)
    lone_entry none None e same = (e, same)
    lone_entry none (Some rule) e reader = absurd (nothing supply.eof none (some (subst (λ o. IsSome o) (sym e) refl)))

    -- where all units are there from the start
    plain_right : FitsTable supply.among piece → IsSupplyOf Plain supply auto piece → IsRightInMode policy Plain cond enc patterns endings piece
    plain_right fits of stream start schedule registers histories le units legal on empty answered =
        let lone = lone_entry of.0 (end_rule patterns) refl enters in
        let plain = subst (λ o. Serves supply halting endings (greatest_unit enc) auto (code_of piece.blocks) place saved rules fall o) lone.0 serves in
        let small = IsWord-units enc patterns (drop start stream) units in
        let begins : entry_block piece.conds cond ≡ Some (place 0) = is_entry ∙ ap (λ n. Some n) lone.1 in
        let stops = stops_there policy enc patterns auto is endings stream start (bank_from registers histories) empty units on.0 on.1 on.2 in
        let no_end : (rule : ℕ) → IsEnd policy enc patterns stream start rule → ⊥ = λ rule end. let e = sym lone.0 ∙ end.1 in cc in
        let told = outcome_told policy enc patterns auto is endings stream start (bank_from registers histories) empty units ends.slashes ends.set no_end cond in
        inr (told.0, told.1, ran plain begins small stops (list_any is_reading (all_statements piece.blocks)) refl ∙ told.2)
      where
        -- where no unit is read, it does not matter how many there are
        ran : Serves supply halting endings (greatest_unit enc) auto (code_of piece.blocks) place saved rules fall None → entry_block piece.conds cond ≡ Some (place 0)
            → AllByRecursion (λ unit. unit ≤ greatest_unit enc) (drop start stream) → Stops auto (start_with start (bank_from registers histories)) (drop start stream)
            → (t : Bool) → list_any is_reading (all_statements piece.blocks) ≡ t → run_with piece stream start registers histories cond schedule
            ≡ told_found endings cond (found_behind auto (last_standing auto (start_with start (bank_from registers histories)) (drop start stream)))
            (last_standing auto (start_with start (bank_from registers histories)) (drop start stream)).offset
        ran plain begins small stops true reads =
            plain_found piece stream start supply halting endings (greatest_unit enc) auto place saved rules fall plain of.0 of.1 fits is.fits.formed cond begins le small
            registers histories stops schedule (legal.whole (reads, of.2))
        ran plain begins small stops false still =
            still_found piece stream start supply halting endings (greatest_unit enc) auto place saved rules fall plain of.0 of.1 is.fits.formed cond begins still small
            registers histories stops schedule

    -- in the other modes
    module _ (mode : Mode) (supplied : IsSupplied mode supply auto piece) (enough : supply.eof ≡ None → AreEnough auto supply.check)
        (counts : (units : ℕ) (told : Ended) → supply.eof ≡ None → EndsAtCheck Count piece units told → EndsAtCheck mode piece units told)
        (whole : (units start : ℕ) (schedule : Schedule) → IsLegal piece units start schedule → IsReading piece → IsSome supply.eof → supply.tries ≡ false
        → schedule.first ≡ units) where
      mode_right : IsRightInMode policy mode cond enc patterns endings piece
      mode_right stream start schedule registers histories le units legal on empty answered =
          by (match_run piece stream start supply halting endings (greatest_unit enc) auto place saved rules fall (end_rule patterns) entry serves is.fits.formed
          supplied.eof supplied.stored supplied.among enough cond some enters is_entry le (IsWord-units enc patterns (drop start stream) units) registers histories schedule
          legal (whole (length stream) start schedule legal))
        where
          by : TellsOrEnds piece supply (length stream)
              (told_from endings cond auto (end_rule patterns) (start_with start (bank_from registers histories)) (drop start stream))
              (run_with piece stream start registers histories cond schedule)
              → EndsAtCheck mode piece (length stream) (run_with piece stream start registers histories cond schedule)
              ⊎ TellsMatch policy cond enc patterns endings stream start (run_with piece stream start registers histories cond schedule)
          by (inl (inl unasked)) = absurd (answered unasked)
          by (inl (inr checked)) = inl (counts (length stream) (run_with piece stream start registers histories cond schedule) checked.0 checked.1)
          by (inr tells) =
              inr (told_match stream start (bank_from registers histories) empty le units (end_rule patterns) refl (drop start stream) refl
              (run_with piece stream start registers histories cond schedule) tells)

-- the law
pub supplied_right : (policy : Policy) (mode : Mode) (enc : Enc) (patterns : List Pattern) (auto : Auto) (endings : ℕ → Ending) (supply : Supply)
    (halting : Halting) (piece : Piece) (place : ℕ → ℕ) (saved : Option (ℕ → ℕ)) (rules : ℕ → ℕ) (fall entry : ℕ) (cond : List ℕ)
    → IsAutoUnder policy enc patterns auto → HaveEndings enc patterns endings
    → Serves supply halting endings (greatest_unit enc) auto (code_of piece.blocks) place saved rules fall (end_rule patterns)
    → ServesEntry supply halting endings (greatest_unit enc) auto (code_of piece.blocks) place saved rules fall (end_rule patterns) entry
    → (IsSome (end_rule patterns) → IsSome supply.eof) → IsSupplied mode supply auto piece → entry_block piece.conds cond ≡ Some entry
    → IsRightInMode policy mode cond enc patterns endings piece
supplied_right policy mode enc patterns auto endings supply halting piece place saved rules fall entry cond is ends serves enters some supplied is_entry =
    by mode supplied
  where
    by : (mode : Mode) → IsSupplied mode supply auto piece → IsRightInMode policy mode cond enc patterns endings piece
    by Plain supplied =
        plain_right policy enc patterns auto is endings ends cond supply halting piece place saved rules fall entry serves enters some is_entry supplied.among supplied.of_mode
    by Count supplied =
        mode_right policy enc patterns auto is endings ends cond supply halting piece place saved rules fall entry serves enters some is_entry Count supplied
        (λ none. supplied.of_mode.1) (λ units told none checked. checked)
        (λ units start schedule legal reads there. absurd (nothing supply.eof supplied.of_mode.0 there))
    by EofFixed supplied =
        mode_right policy enc patterns auto is endings ends cond supply halting piece place saved rules fall entry serves enters some is_entry EofFixed supplied
        (λ none. absurd (nothing supply.eof none supplied.of_mode.0)) (λ units told none checked. absurd (nothing supply.eof none supplied.of_mode.0))
        (λ units start schedule legal reads there fixed. legal.whole (reads, supplied.of_mode.2))
    by Eof supplied =
        mode_right policy enc patterns auto is endings ends cond supply halting piece place saved rules fall entry serves enters some is_entry Eof supplied
        (λ none. absurd (nothing supply.eof none supplied.of_mode.0)) (λ units told none checked. absurd (nothing supply.eof none supplied.of_mode.0))
        (λ units start schedule legal reads there fixed. absurd (true≢false (sym supplied.of_mode.1 ∙ fixed)))
