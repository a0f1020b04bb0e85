-- Calls that make one match end as its run under the schedule of their answers does.
use Rattle.std.proofs.Common.{◌≡◌, ◌∙◌, ap, refl, sym, subst, ℕ, ◌+◌, ◌<◌, ◌≤◌, ◌⊎◌, inl, inr, Bool, true, List, [], ◌∷◌, ◌++◌, length, Option, Some, None, arith}
use Rattle.std.specs.Prelude.{is_some, map}
use Rattle.std.proofs.lemmas.List.{append-nil, append_assoc, map-append}
use Rattle.lx_ccode.specs.declared.piece.Piece.{Piece}
use Rattle.lx_ccode.specs.declared.piece.Stmt.{Stmt}
use Rattle.lx_ccode.specs.Machine.{Answer, Machine, Value, code_at, left, stored_block, units_of_answers}
use Rattle.lx_ccode.specs.Machine as machines
use Rattle.lx_ccode.specs.Runs.{Ended, IsRun, ended, entry_block, fresh_machine, no_code, run_of}
use Rattle.lx_ccode.specs.Validity.{IsValid}
use Rattle.lx_ccode.proofs.RoundTrip.{statement_count-valid}
use Rattle.lx_ccode.proofs.RunSteps.{IsRun-run_of, IsRun-unique, loop_count-some}
use Rattle.lx_ccode.proofs.WaysBack.{code_at-stored}
use Rattle.lx_window.specs.Windows.{IsFedBy, IsFormed, IsWindowOf}
use Rattle.lx_window.specs.WindowView.{WindowView}
use Rattle.lx_step.specs.declared.answers.Outcome.{Outcome}
use Rattle.lx_step.specs.declared.answers.Outcome.TheVariants as outcome
use Rattle.lx_step.specs.Advances.{ComesBack, EndsAs, HoldsAfter, IsAdvance, StoresLeft}
use Rattle.lx_step.specs.Calls.{AreCalls, EndsAsRun, GoesOn, IsEnd, ends, leaves, refill_between, schedule_of, undropped}
use Rattle.lx_step.specs.Entries.{entry_by, machine_back}
use Rattle.lx_step.specs.Feeds.{Feed}
use Rattle.lx_step.specs.Given.{Given, after_value, after_values}
use Rattle.lx_step.specs.Held.{Held, Tells, after_match, is_last}
use Rattle.lx_step.specs.Left.{Left}
use Rattle.lx_step.specs.Points.{LeadsTo, Point, code_or_none}
use Rattle.lx_step.specs.Steps.{outcome_of}
use Rattle.lx_step.specs.Tags.{tag_names}
use Rattle.lx_step.proofs.CallWindows.{Behind-end, IsFedBy-fed, IsFed-units, LeadsTo-units, entry_by-limit, refill_between-units}
use Rattle.lx_step.proofs.ResumedRuns.{EndsAt-leads, EndsAt-left, EndsAt-told, EndsFrom}
use Rattle.lx_step.proofs.ResumedSteps.{behind}
use Rattle.lx_step.proofs.StoredStates.{LeavesStored, LeavesStored-call}

after_values-both : (names : List (List ℕ)) (first second : List Value) (given : Given) → after_values names (first ++ second) given ≡ after_values names second (after_values names first given)
after_values-both names [] second given = refl
after_values-both names (value ∷ first) second given = after_values-both names first second (after_value names value given)

-- no match is under way behind a call that ended one
none-left : (told : Outcome) (old new : Held) (start : ℕ) (point : Point) (last : Machine) → IsEnd told → HoldsAfter old new start told point last → new.left ≡ None
none-left outcome.NeedFill old new start point last end holds = absurd end
none-left _ old new start point last end holds = holds.left

pub Tells-end : (told : Outcome) → IsEnd told → Tells told (outcome_of told)
Tells-end (outcome.Rule number) end = refl
Tells-end (outcome.Jump number) end = refl
Tells-end outcome.NoRule end = refl
Tells-end outcome.End end = refl
Tells-end outcome.Stuck end = refl
Tells-end outcome.Loop end = refl
Tells-end _ end = absurd end

module _ (stream : List ℕ) (told : Outcome) (new : Held) (piece : Piece) (start : ℕ) where
  -- where a call begins
  abbrev entry_of : Held → Feed → Point
  entry_of old before = entry_by piece old.cursor old.cond old.assigned old.left start before.window.limit

  -- the calls lead to an end, behind any values, and the lexer holds it
  record Leads (old : Held) (before : Feed) (answers : List Answer) (front : List Value) : Type 0 where
    last : Machine
    runs : EndsFrom piece stream start (entry_of old before).steps (entry_of old before).code (behind front (entry_of old before).machine) answers (ended (outcome_of told) (behind front last))
    end : IsEnd told
    cursor : new.cursor ≡ last.cursor
    cond : new.cond ≡ last.cond
    given : new.given ≡ after_values (tag_names piece.blocks) last.values old.given
    same_piece : new.piece ≡ piece
    spent : new.spent ≡ is_last told
    start_is : new.start ≡ start
    none : new.left ≡ None

  -- what a call does, from its entry
  abbrev Does : (old : Held) (before : Feed) (size : ℕ) (answers : List Answer) → Outcome → Point → (used : List Answer) → Machine → Type 0
  Does old before size answers out point used last =
      LeadsTo piece stream start size (entry_of old before) answers point × EndsAs piece stream start size out point used last

  does-call : (old middle : Held) (before after : Feed) (out : Outcome) → old.piece ≡ piece → before.window.start ≡ start → (call : IsAdvance old middle before after out) → IsWindowOf stream after.window
      → Does old before before.window.size call.answers out call.point call.used call.last
  does-call old middle before after out same starts call holds =
      let size : ℕ = before.window.size in
      let limit : ℕ = before.window.limit in
      subst (λ start. LeadsTo piece stream start size (entry_by piece old.cursor old.cond old.assigned old.left start limit) call.answers call.point × EndsAs piece stream start size out call.point call.used call.last) starts
      (subst (λ piece. LeadsTo piece stream before.window.start size (entry_by piece old.cursor old.cond old.assigned old.left before.window.start limit) call.answers call.point × EndsAs piece stream before.window.start size out call.point call.used call.last) same
      (call.leads stream holds))

  -- the last call
  Leads-ends : (old : Held) (before after : Feed) (front : List Value) → old.piece ≡ piece → before.window.start ≡ start → IsFormed before.window → IsFedBy stream before.window before.ahead
      → (call : IsAdvance old new before after told) → IsEnd told → Leads old before (map undropped (call.answers ++ call.used)) front
  Leads-ends old before after front same starts formed fed call end =
      let still : after ≡ call.feed = Behind-end told call.feed after end call.behind in
      let holds : IsWindowOf stream after.window = subst (λ (feed : Feed). IsWindowOf stream feed.window) (sym still) (IsFedBy-fed stream call.fed formed fed).0.holds in
      let does : Does old before before.window.size call.answers told call.point call.used call.last = does-call old new before after told same starts call holds in
      let held : HoldsAfter old new before.window.start told call.point call.last = call.holds in
      record {
        last = call.last;
        runs = subst (λ answers. EndsFrom piece stream start (entry_of old before).steps (entry_of old before).code (behind front (entry_of old before).machine) answers (ended (outcome_of told) (behind front call.last)))
            (sym (map-append undropped call.answers call.used))
            (EndsAt-leads piece stream start before.window.size front (entry_of old before) call.point call.answers (map undropped call.used) (ended (outcome_of told) (behind front call.last)) does.0
            (EndsAt-told piece stream start before.window.size front told call.point call.used call.last end does.1));
        end = end;
        cursor = held.cursor;
        cond = held.cond;
        given = held.given ∙ ap (λ (piece : Piece). after_values (tag_names piece.blocks) call.last.values old.given) same;
        same_piece = call.piece ∙ same;
        spent = call.spent;
        start_is = held.start_is ∙ starts;
        none = none-left told old new before.window.start call.point call.last end held;
      }

  -- a call that left the match, before those that go on
  module _ (valid : IsValid piece) (old middle : Held) (before after again : Feed) (others : List Answer) (front : List Value) (same : old.piece ≡ piece) (starts : before.window.start ≡ start)
      (formed : IsFormed before.window) (fed : IsFedBy stream before.window before.ahead) (call : IsAdvance old middle before after outcome.NeedFill) (goes : GoesOn stream middle after again)
      (keeps : LeavesStored piece.blocks middle.left) (later : Leads middle again others (front ++ call.point.machine.values)) where
    abbrev point : Point
    point = call.point

    -- the match ends as the later calls do, with the values of this one before theirs
    abbrev last_of : Machine
    last_of = record later.last { values = point.machine.values ++ later.last.values }

    does : Does old before before.window.size call.answers outcome.NeedFill point call.used call.last
    does = does-call old middle before after outcome.NeedFill same starts call (subst (IsWindowOf stream) (sym call.behind.1) (IsFedBy-fed stream call.fed formed fed).1)

    -- the machine's limit is that of the window
    limit-point : point.machine.limit ≡ after.window.limit
    limit-point =
        let none : units_of_answers (call.answers ++ call.used) ≡ units_of_answers call.answers =
        ap (λ used. units_of_answers (call.answers ++ used)) does.1.used_none ∙ ap units_of_answers (append-nil call.answers) in
        LeadsTo-units piece stream start before.window.size (entry_of old before) point call.answers does.0
        ∙ ap (λ limit. limit + units_of_answers call.answers) (entry_by-limit piece old.cursor old.cond old.assigned old.left start before.window.limit)
        ∙ ap (λ units. before.window.limit + units) (sym none)
        ∙ sym (IsFed-units call.fed) ∙ sym (ap (λ (window : WindowView). window.limit) call.behind.1)

    further : after.window.limit ≤ again.window.limit
    further = by goes.further where
      within : after.window.limit ≤ length stream
      within =
          let limit : after.window.limit ≡ call.feed.window.limit = ap (λ (window : WindowView). window.limit) call.behind.1 in
          omega (arith, limit, (IsFedBy-fed stream call.fed formed fed).0.holds.within)

      by : (after.window.limit < again.window.limit) ⊎ (again.window.limit ≡ length stream) → after.window.limit ≤ again.window.limit
      by (inl below) = omega (arith, below)
      by (inr is) = omega (arith, is, within)

    -- the stored state has a block to come back to
    way-back : (stored : Left) → middle.left ≡ Some stored → code_at piece.blocks (stored_block piece.blocks (Some stored.state)) ≡ None → ⊥
    way-back stored is =
        code_at-stored piece stored.state valid (subst (LeavesStored piece.blocks) is keeps)

    abbrev EndsHere : List Answer → Ended → Type 0
    EndsHere answers end = EndsFrom piece stream start point.steps point.code (behind front point.machine) answers end

    -- from the point where it was left
    left-here : (stored : Option Left) → middle.left ≡ stored → EndsHere (left (refill_between after.window.limit again.window.limit ∷ []) ∷ others) (ended (outcome_of told) (behind front last_of))
    left-here None none = absurd (let some = subst (λ (one : Option Left). is_some one ≡ true) none goes.stored in cc)
    left-here (Some stored) is =
        let comes : ComesBack middle stored point = subst (λ (one : Option Left). StoresLeft middle one point) is call.holds.left in
        let back : machine_back piece middle.cursor middle.cond stored point.machine.limit ≡ record point.machine { unit = None; values = [] } =
        subst (λ piece. machine_back piece middle.cursor middle.cond stored point.machine.limit ≡ record point.machine { unit = None; values = [] }) (call.piece ∙ same) comes.machine in
        let entry : Option Left → Point = λ one. entry_by piece middle.cursor middle.cond middle.assigned one start again.window.limit in
        let values : List Value = front ++ point.machine.values in
        let onward : EndsFrom piece stream start (entry (Some stored)).steps (entry (Some stored)).code (behind values (entry (Some stored)).machine) others (ended (outcome_of told) (behind values later.last)) =
        subst (λ one. EndsFrom piece stream start (entry one).steps (entry one).code (behind values (entry one).machine) others (ended (outcome_of told) (behind values later.last))) is later.runs in
        let reaches = ap (λ limit. limit + machines.units_of_all (refill_between after.window.limit again.window.limit ∷ [])) limit-point ∙ refill_between-units after.window.limit again.window.limit further in
        subst (λ all. EndsHere (left (refill_between after.window.limit again.window.limit ∷ []) ∷ others) (ended (outcome_of told) (record later.last { values = all })))
        (append_assoc front point.machine.values later.last.values)
        (EndsAt-left piece stream start before.window.size front point does.1.statement does.1.rest does.1.stands does.1.asks middle.cursor middle.cond stored again.window.limit
        (refill_between after.window.limit again.window.limit) others (ended (outcome_of told) (behind values later.last)) back comes.steps reaches (way-back stored is) onward)

    Leads-left : Leads old before (map undropped (call.answers ++ call.used) ++ left (refill_between after.window.limit again.window.limit ∷ []) ∷ others) front
    Leads-left = record {
      last = last_of;
      runs = subst (λ answers. EndsFrom piece stream start (entry_of old before).steps (entry_of old before).code (behind front (entry_of old before).machine)
          (map undropped answers ++ left (refill_between after.window.limit again.window.limit ∷ []) ∷ others) (ended (outcome_of told) (behind front last_of)))
          (sym (ap (λ used. call.answers ++ used) does.1.used_none ∙ append-nil call.answers))
          (EndsAt-leads piece stream start before.window.size front (entry_of old before) point call.answers (left (refill_between after.window.limit again.window.limit ∷ []) ∷ others)
          (ended (outcome_of told) (behind front last_of)) does.0 (left-here middle.left refl));
      end = later.end;
      cursor = later.cursor;
      cond = later.cond;
      given = later.given
          ∙ ap (after_values (tag_names piece.blocks) later.last.values)
          (call.holds.given ∙ ap (λ (piece : Piece). after_values (tag_names piece.blocks) call.last.values old.given) same
          ∙ ap (λ (machine : Machine). after_values (tag_names piece.blocks) machine.values old.given) does.1.stays)
          ∙ sym (after_values-both (tag_names piece.blocks) point.machine.values later.last.values old.given);
      same_piece = later.same_piece;
      spent = later.spent;
      start_is = later.start_is;
      none = later.none;
    }

  Leads-calls : IsValid piece → (old : Held) (before : Feed) (answers : List Answer) (front : List Value) → LeavesStored piece.blocks old.left → old.piece ≡ piece → before.window.start ≡ start
      → IsFormed before.window → IsFedBy stream before.window before.ahead → AreCalls stream told new old before answers → Leads old before answers front
  Leads-calls valid old before all front stored same starts formed fed (ends {after} call end is) =
      subst (λ answers. Leads old before answers front) (sym is) (Leads-ends old before after front same starts formed fed call end)
  Leads-calls valid old before all front stored same starts formed fed (leaves {middle} {after} {again} {others} call goes calls is) =
      let keeps : LeavesStored piece.blocks middle.left = LeavesStored-call stream piece old middle before after same formed fed call stored in
      subst (λ answers. Leads old before answers front) (sym is)
      (Leads-left valid old middle before after again others front same starts formed fed call goes keeps
      (Leads-calls valid middle again others (front ++ call.point.machine.values) keeps (call.piece ∙ same) (goes.start ∙ call.holds.start_is ∙ starts) goes.formed goes.fed calls))

-- ---- the run

IsRun-no_code : (piece : Piece) (stream : List ℕ) (start : ℕ) (machine : Machine) (answers : List Answer) (end : Ended) → IsRun piece stream start 0 [] machine answers end
    → end ≡ ended machines.stuck machine
IsRun-no_code piece stream start machine answers end no_code = refl

module _ (piece : Piece) (stream : List ℕ) (start : ℕ) (cond : List ℕ) (first : ℕ) (answers : List Answer) (end : Ended) (valid : IsValid piece) where
  abbrev code : Option (List Stmt)
  code = code_at piece.blocks (entry_block piece.conds cond)

  abbrev the_run : Ended
  the_run = run_of piece stream start cond (record { first = first; answers = answers })

  -- a match makes its first step
  IsRun-fresh : (code : List Stmt) → EndsFrom piece stream start 0 code (fresh_machine start first cond) answers end → IsRun piece stream start 0 code (fresh_machine start first cond) answers end
  IsRun-fresh code (inl (count, is)) = absurd (omega (arith, count, loop_count-some piece start first (statement_count-valid piece valid)))
  IsRun-fresh code (inr (few, run)) = run

  run_of-no_code : code ≡ None → the_run ≡ ended machines.stuck (fresh_machine start first cond)
  unfolding run_of
  run_of-no_code none = rw none refl

  -- what a match leads to from its entry is its run
  pub run_of-leads : EndsFrom piece stream start 0 (code_or_none code) (fresh_machine start first cond) answers end → the_run ≡ end
  run_of-leads leads = by code refl where
    by : (found : Option (List Stmt)) → code ≡ found → the_run ≡ end
    by None none =
        run_of-no_code none
        ∙ sym (IsRun-no_code piece stream start (fresh_machine start first cond) answers end (IsRun-fresh [] (subst (λ found. EndsFrom piece stream start 0 (code_or_none found) (fresh_machine start first cond) answers end) none leads)))
    by (Some found) is =
        IsRun-unique piece stream start 0 found (fresh_machine start first cond) answers the_run end
        (IsRun-run_of piece stream start cond (record { first = first; answers = answers }) found (statement_count-valid piece valid) is)
        (IsRun-fresh found (subst (λ found. EndsFrom piece stream start 0 (code_or_none found) (fresh_machine start first cond) answers end) is leads))

-- the match ends as its run
pub EndsAsRun-calls : (old new : Held) (before : Feed) (stream : List ℕ) (told : Outcome) (answers : List Answer) → IsValid old.piece → old.left ≡ None → IsFormed before.window
    → IsFedBy stream before.window before.ahead → AreCalls stream told new old before answers
    → EndsAsRun old new before.window.start told (run_of old.piece stream before.window.start old.cond (schedule_of before answers))
EndsAsRun-calls old new before stream told answers valid fresh formed fed calls =
    let piece : Piece = old.piece in
    let start : ℕ = before.window.start in
    let limit : ℕ = before.window.limit in
    let leads : Leads stream told new piece start old before answers [] = Leads-calls stream told new piece start valid old before answers [] (subst (LeavesStored piece.blocks) (sym fresh) tt) refl refl formed fed calls in
    let end : Ended = ended (outcome_of told) leads.last in
    let entry : Option Left → Point = λ one. entry_by piece old.cursor old.cond old.assigned one start limit in
    let run : run_of piece stream start old.cond (schedule_of before answers) ≡ end =
    run_of-leads piece stream start old.cond limit answers end valid
    (subst (λ one. EndsFrom piece stream start (entry one).steps (entry one).code (entry one).machine answers end) fresh leads.runs) in
    let held : Piece → Bool → ℕ → ℕ → List ℕ → Given → Option Left → Held = λ piece spent start cursor cond given left.
    record { piece = piece; spent = spent; start = start; cursor = cursor; cond = cond; given = given; assigned = new.assigned; left = left } in
    let after : Given = after_values (tag_names piece.blocks) leads.last.values old.given in
    let holds : new ≡ after_match old start (is_last told) end new.assigned =
    ap (λ one. held one new.spent new.start new.cursor new.cond new.given new.left) leads.same_piece
    ∙ ap (λ one. held piece one new.start new.cursor new.cond new.given new.left) leads.spent
    ∙ ap (λ one. held piece (is_last told) one new.cursor new.cond new.given new.left) leads.start_is
    ∙ ap (λ one. held piece (is_last told) start one new.cond new.given new.left) leads.cursor
    ∙ ap (λ one. held piece (is_last told) start leads.last.cursor one new.given new.left) leads.cond
    ∙ ap (λ one. held piece (is_last told) start leads.last.cursor leads.last.cond one new.left) leads.given
    ∙ ap (held piece (is_last told) start leads.last.cursor leads.last.cond after) leads.none in
    subst (λ end. EndsAsRun old new start told end) (sym run) (record { tells = Tells-end told leads.end; holds = holds })
