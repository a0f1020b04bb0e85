-- What a piece that carries an automaton does with a whole match, and that two automata that it carries tell the same.
use Rattle.std.specs.Prelude.{◌≡◌, ◌⊎◌, ℕ, suc, ◌+◌, ◌<◌, ◌≤◌, List, [], ◌∷◌, ◌++◌, length, drop, Option, Some, refl}
use Rattle.std.proofs.Common.{sym, ap, ◌∙◌, subst, arith, inl, inr}
use Rattle.std.specs.List.{AllByRecursion}
use Rattle.lx_auto.specs.Run.{Standing, found_behind, run}
use Rattle.lx_auto.specs.declared.automaton.Auto.{Auto}
use Rattle.lx_ccode.specs.declared.piece.Piece.{Piece}
use Rattle.lx_ccode.specs.declared.piece.Stmt.{Stmt}
use Rattle.lx_ccode.specs.Machine.{Answer, Machine, code_at, looped, units_of_answers}
use Rattle.lx_ccode.specs.Runs.{Ended, entry_block, loop_count, run_in}
use Rattle.lx_ccode.specs.Scanners.{CheckAtMost}
use Rattle.lx_ccode.specs.Schedules.{Schedule}
use Rattle.lx_ccode.specs.Traces.{count_made, is_skip}
use Rattle.lx_ccode.proofs.Traces.{one_end, one_made, run-ended}
use Rattle.lx_layout.specs.Carries.{Carries, EndsAs, IsUnitOf, LeadsTo, StandsAs, StopsBehind, IsReached}
use Rattle.lx_layout.specs.Endings.{Ending}
use Rattle.lx_layout.specs.Starts.{machine_with, run_with}
use Rattle.lx_layout.specs.Stops.{bank_from, told_found}
use Rattle.lx_layout.proofs.Runs.CarriedRuns.{lead, match_ends}

All-front : (Holds : ℕ → Type 0) (front behind : List ℕ) → AllByRecursion Holds (front ++ behind) → AllByRecursion Holds front
All-front Holds [] behind all = tt
All-front Holds (unit ∷ front) behind all = (all.0, All-front Holds front behind all.1)

All-next : (Holds : ℕ → Type 0) (front behind : List ℕ) (unit : ℕ) → AllByRecursion Holds (front ++ unit ∷ behind) → Holds unit
All-next Holds [] behind unit all = all.0
All-next Holds (first ∷ front) behind unit all = All-next Holds front behind unit all.1

-- two fronts of one list that are equally long are the same
same_fronts : (front other rest behind : List ℕ) → length front ≡ length other → front ++ rest ≡ other ++ behind → front ≡ other
same_fronts [] [] rest behind e same = refl
same_fronts [] (unit ∷ other) rest behind e same = absurd (omega (arith, e))
same_fronts (unit ∷ front) [] rest behind e same = absurd (omega (arith, e))
same_fronts (unit ∷ front) (first ∷ other) rest behind e same =
    let one : unit ≡ first = cc in
    let more : front ++ rest ≡ other ++ behind = cc in
    let again = same_fronts front other rest behind (omega (arith, e)) more in
    ap (λ u. u ∷ front) one ∙ ap (λ l. first ∷ l) again

pub carried_leads : (piece : Piece) (entry : ℕ) (endings : ℕ → Ending) (auto : Auto) (carries : Carries piece entry endings auto) (ahead : ℕ) → 0 < ahead
    → CheckAtMost ahead piece.blocks → (stream word rest : List ℕ) (standing last : Standing) (code : List Stmt) (machine : Machine) (answers : List Answer)
    → IsReached auto standing → run auto standing word ≡ Some last → code_at piece.blocks (Some (carries.place standing.state)) ≡ Some code
    → StandsAs piece endings auto carries.place carries.saved carries.falls machine standing → drop machine.cursor stream ≡ word ++ rest
    → AllByRecursion (IsUnitOf piece) word → machine.cursor + (length word + ahead) ≤ suc machine.limit
    → LeadsTo piece endings auto carries.place carries.saved carries.falls stream code machine answers (length word) last
carried_leads piece entry endings auto carries ahead some checks stream word rest standing last code machine answers reached ran at stands split units enough =
    (lead piece entry endings auto carries stream ahead some checks word rest standing last code machine answers reached ran
    (record { at = at; stands = stands; split = sym split; units = units; enough = enough })).leads

pub carried_ends : (piece : Piece) (entry : ℕ) (endings : ℕ → Ending) (auto : Auto) (carries : Carries piece entry endings auto) (ahead : ℕ) → 0 < ahead
    → CheckAtMost ahead piece.blocks → (stream word : List ℕ) (start limit : ℕ) (last : Standing) (code : List Stmt) (registers : ℕ → Option ℕ)
    (histories : ℕ → List (Option ℕ)) (cond : List ℕ) (answers : List Answer) → code_at piece.blocks (Some entry) ≡ Some code → histories 0 ≡ []
    → StopsBehind piece auto stream start (bank_from registers histories) word last → start + (length word + ahead) ≤ limit
    → EndsAs piece endings auto carries.place carries.saved carries.falls stream code (machine_with registers histories start limit cond) answers (length word) last
carried_ends piece entry endings auto carries ahead some checks stream word start limit last code registers histories cond answers at empty stops enough =
    let units = subst (λ l. AllByRecursion (IsUnitOf piece) l) stops.split stops.units in
    match_ends piece entry endings auto carries stream ahead some checks word stops.rest stops.unit start (bank_from registers histories) last code
    (machine_with registers histories start limit cond) answers empty stops.runs stops.none
    (All-next (IsUnitOf piece) word stops.rest stops.unit units) enough
    (record {
      at = at;
      stands = record { cursor = refl; registers = λ reg lt. refl; histories = λ mreg lt. refl; left = λ none. refl; values = refl };
      split = sym stops.split;
      units = All-front (IsUnitOf piece) word (stops.unit ∷ stops.rest) units;
      enough = omega (arith, enough);
    })

pub carried_runs : (piece : Piece) (entry : ℕ) (endings : ℕ → Ending) (auto : Auto) (carries : Carries piece entry endings auto) (ahead : ℕ) → 0 < ahead
    → CheckAtMost ahead piece.blocks → (stream word : List ℕ) (start : ℕ) (last : Standing) (registers : ℕ → Option ℕ)
    (histories : ℕ → List (Option ℕ)) (cond : List ℕ) (schedule : Schedule) → entry_block piece.conds cond ≡ Some entry → histories 0 ≡ []
    → StopsBehind piece auto stream start (bank_from registers histories) word last → start + (length word + ahead) ≤ schedule.first
    → (run_with piece stream start registers histories cond schedule ≡ told_found endings cond (found_behind auto last) last.offset)
    ⊎ ((run_with piece stream start registers histories cond schedule).outcome ≡ looped)
unfolding run_with
carried_runs piece entry endings auto carries ahead some checks stream word start last registers histories cond schedule begins empty stops enough =
    let machine : Machine = machine_with registers histories start schedule.first cond in
    let first = carries.starts start (bank_from registers histories) empty in
    let ends = carried_ends piece entry endings auto carries ahead some checks stream word start schedule.first last first.code registers histories cond
    schedule.answers first.is empty stops enough in
    let fuel : ℕ = loop_count piece start (schedule.first + units_of_answers schedule.answers) in
    let found : code_at piece.blocks (entry_block piece.conds cond) ≡ Some first.code = ap (λ o. code_at piece.blocks o) begins ∙ first.is in
    let told = run-ended piece stream start ends.steps fuel 0 first.code machine ends.after schedule.answers ends.outcome ends.over in
    subst (λ o. (run_in piece stream start o machine schedule.answers ≡ told_found endings cond (found_behind auto last) last.offset)
    ⊎ ((run_in piece stream start o machine schedule.answers).outcome ≡ looped)) (sym found)
    (with_tells (run_in piece stream start (Some first.code) machine schedule.answers) ends.tells told)
  where
    with_tells : {told end : Ended} (ran : Ended) → end ≡ told → (ran ≡ end) ⊎ (ran.outcome ≡ looped) → (ran ≡ told) ⊎ (ran.outcome ≡ looped)
    with_tells ran e (inl same) = inl (same ∙ e)
    with_tells ran e (inr late) = inr late

-- two automata that a scanner carries stop behind the same word, and tell the same
pub carried_alike : (piece : Piece) (entry : ℕ) (endings : ℕ → Ending) (auto other : Auto) → Carries piece entry endings auto → Carries piece entry endings other
    → (ahead : ℕ) → 0 < ahead → CheckAtMost ahead piece.blocks → (stream word words : List ℕ) (start limit : ℕ) (last behind : Standing)
    (registers : ℕ → Option ℕ) (histories : ℕ → List (Option ℕ)) (cond : List ℕ) → histories 0 ≡ []
    → StopsBehind piece auto stream start (bank_from registers histories) word last
    → StopsBehind piece other stream start (bank_from registers histories) words behind
    → start + (length word + ahead) ≤ limit → start + (length words + ahead) ≤ limit
    → (word ≡ words)
    × (told_found endings cond (found_behind auto last) last.offset ≡ told_found endings cond (found_behind other behind) behind.offset)
carried_alike piece entry endings auto other carries others ahead some checks stream word words start limit last behind registers histories cond empty stops same enough more =
    let machine : Machine = machine_with registers histories start limit cond in
    let first = carries.starts start (bank_from registers histories) empty in
    let one = carried_ends piece entry endings auto carries ahead some checks stream word start limit last first.code registers histories cond [] first.is empty
    stops enough in
    let two = carried_ends piece entry endings other others ahead some checks stream words start limit behind first.code registers histories cond [] first.is empty
    same more in
    let made = one_made piece stream one.steps two.steps first.code machine one.after two.after [] one.outcome two.outcome one.over two.over in
    let long : length word ≡ length words = sym one.passes ∙ ap (count_made is_skip) made ∙ two.passes in (
      same_fronts word words (stops.unit ∷ stops.rest) (same.unit ∷ same.rest) long (sym stops.split ∙ same.split),
      sym one.tells ∙ one_end piece stream one.steps two.steps first.code machine one.after two.after [] one.outcome two.outcome one.over two.over ∙ two.tells,
    )
