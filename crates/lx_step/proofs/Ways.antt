-- How a match over a window goes on, and how it ends.
use Rattle.std.proofs.Common.{◌≡◌, ◌∙◌, ap, refl, sym, subst, ℕ, suc, ◌+◌, ◌-◌, ◌*◌, ◌<◌, ◌≤◌, inl, inr, List, [], ◌∷◌, ◌++◌, drop, Option, Some, None, Result, Ok, Err, IsErr, Bool, slice_get, nat_le, if◌then◌else◌, arith, true, false, leb-true}
use Rattle.std.proofs.lemmas.Bool.{leb-false}
use Rattle.lx_base.specs.declared.lists.Memory.{Memory}
use Rattle.lx_ccode.specs.declared.piece.CodeBlock.{CodeBlock}
use Rattle.lx_ccode.specs.declared.piece.Piece.{Piece}
use Rattle.lx_ccode.specs.declared.piece.Stmt.{Stmt}
use Rattle.lx_ccode.specs.declared.piece.Stmt.TheVariants.{Need, Try, Tag, Count, Cond}
use Rattle.lx_ccode.specs.Machine.{Answer, Value, Machine, Next, goes_on, ends, code_at, step}
use Rattle.lx_ccode.specs.Machine as machines
use Rattle.lx_ccode.specs.Runs.{loop_count}
use Rattle.lx_ccode.specs.Statements.{statement_count}
use Rattle.lx_window.specs.WindowView.{WindowView}
use Rattle.lx_window.specs.Windows.{IsFormed, IsWindowOf, KeepsStart, slid}
use Rattle.lx_window.specs.declared.refills.Fill.TheVariants.{More}
use Rattle.lx_step.specs.declared.advances.Made.{Made}
use Rattle.lx_step.specs.declared.advances.Made.TheVariants as made
use Rattle.lx_step.specs.declared.answers.Outcome.{Outcome}
use Rattle.lx_step.specs.declared.answers.Outcome.TheVariants as outcome
use Rattle.lx_step.specs.declared.answers.StmtAt.{StmtAt}
use Rattle.lx_step.specs.declared.calls.Passed.{Passed}
use Rattle.lx_step.specs.declared.calls.Passed.TheVariants.{On, Ends}
use Rattle.lx_step.specs.declared.matches.Position.{Position}
use Rattle.lx_step.specs.declared.scanner.Going.{Going}
use Rattle.lx_step.specs.declared.scanner.Scanner.{Scanner}
use Rattle.lx_step.specs.Assigned.{with_statement}
use Rattle.lx_step.specs.Asking.{Goes, Halts, Fills, IsMade, KeepsSource, Waits}
use Rattle.lx_step.specs.Advances.{Behind, EndsAs, IsLastStep, IsLeft}
use Rattle.lx_step.specs.Entries.{Enters, IsEntry}
use Rattle.lx_step.specs.Feeds.{Feed, brought, filled, unasked}
use Rattle.lx_step.specs.Given.{Given, after_values}
use Rattle.lx_step.specs.Held.{is_on_histories}
use Rattle.lx_step.specs.Matches.{GoesTo, code_of}
use Rattle.lx_step.specs.Places.{StandsAt, place_of}
use Rattle.lx_step.specs.Points.{AreAsked, Asks, IsAsking, LeadsTo, Makes, Point, StandsBefore, goes_to, kept_by, limited, makes, stays, waits}
use Rattle.lx_step.specs.Steps.{given_after, machine_of, next_of, outcome_of, values_after, IsAnswer}
use Rattle.lx_step.specs.Tags.{tag_names}
use Rattle.lx_step.specs.Ways.{Comes, CountsOn, HasStopped, IsOnWay, IsNearer, IsPassed, Nears, point_of}
use Rattle.lx_step.proofs.AskedSteps.{Refills-limit}
use Rattle.lx_step.proofs.FedWindows.{IsFed-append, IsFed-none, IsWindowOf-fed}
use Rattle.lx_step.proofs.FilledWindows.{IsWindowOf-before, slid-slid, some_stream}
use Rattle.lx_step.proofs.Lists.{drop-slice_get_none}
use Rattle.lx_step.proofs.Underway.{code-split, kept-step}

-- the count of a loop, by the window and by the statements that were counted
pub loop_count-window : (piece : Piece) (start limit from to statements : ℕ) → start ≡ from → limit ≡ to → statements ≡ statement_count piece.blocks
    → loop_count piece start limit ≡ 2 * ((to - from) + 2) * statements
loop_count-window piece start limit from to statements starts limits counted =
    ap (λ at. loop_count piece at limit) starts ∙ ap (loop_count piece from) limits ∙ ap (λ count. 2 * ((to - from) + 2) * count) (sym counted)

-- ---- ends

-- a statement that asks gives nothing
given_after-asking : (names : List (List ℕ)) (statement : Stmt) (machine at : Machine) (given : Given) → IsAsking statement at → given_after names statement machine given ≡ given
given_after-asking names (Need units) machine at given asking = refl
given_after-asking names (Try block) machine at given asking = refl
given_after-asking names _ machine at given asking = absurd asking

-- it assigns nothing
with_statement-asking : (place : StmtAt) (statement : Stmt) (at : Machine) (places : List StmtAt) → IsAsking statement at → with_statement place statement places ≡ places
with_statement-asking place (Need units) at places asking = refl
with_statement-asking place (Try block) at places asking = refl
with_statement-asking place _ at places asking = absurd asking

-- the last step of a match assigns nothing
with_statement-last : (piece : Piece) (stream : List ℕ) (place : StmtAt) (statement : Stmt) (rest : List Stmt) (machine : Machine) (answers : List Answer) (end : machines.Outcome) (last : Machine) (places : List StmtAt)
    → step piece stream statement rest machine answers ≡ ends end last → with_statement place statement places ≡ places
with_statement-last piece stream place (Tag tag false register) rest machine answers end last places made = absurd cc
with_statement-last piece stream place (Tag tag true history) rest machine answers end last places made = absurd cc
with_statement-last piece stream place (Count groups) rest machine answers end last places made = absurd cc
with_statement-last piece stream place (Cond cond) rest machine answers end last places made = absurd cc
with_statement-last piece stream place _ rest machine answers end last places made = refl

-- ---- outcomes of the machine

Behind-answer : (told : Outcome) (feed : Feed) → IsAnswer told → Behind told feed feed
Behind-answer outcome.NeedFill feed answer = absurd answer
Behind-answer outcome.ReadFailed feed answer = absurd answer
Behind-answer _ feed answer = refl

EndsAs-answer : (piece : Piece) (stream : List ℕ) (start size : ℕ) (told : Outcome) (point : Point) (used : List Answer) (last : Machine) → IsAnswer told
    → IsLastStep piece stream start size point told used last → EndsAs piece stream start size told point used last
EndsAs-answer piece stream start size outcome.Stuck point used last answer made = inl made
EndsAs-answer piece stream start size outcome.Loop point used last answer made = absurd answer
EndsAs-answer piece stream start size (outcome.WindowFull kept need all) point used last answer made = absurd answer
EndsAs-answer piece stream start size outcome.NeedFill point used last answer made = absurd answer
EndsAs-answer piece stream start size outcome.ReadFailed point used last answer made = absurd answer
EndsAs-answer piece stream start size outcome.Spent point used last answer made = absurd answer
EndsAs-answer piece stream start size outcome.Memory point used last answer made = absurd answer
EndsAs-answer piece stream start size _ point used last answer made = made

CountsOn-answer : (told : Outcome) (steps : ℕ) (point : Point) → IsAnswer told → CountsOn told steps point
CountsOn-answer outcome.NeedFill steps point answer = absurd answer
CountsOn-answer _ steps point answer = tt

module _ (piece : Piece) (entry : Point) (before feed : Feed) (first given : Given) (at : Position) (old : Scanner) (steps : ℕ) (assigned : List StmtAt) where
  -- it has not looped
  abbrev IsUnlooped : Type 0
  IsUnlooped = steps < loop_count piece before.window.start old.limit

  -- no statement is left
  pub stops-without_code : IsOnWay piece entry before first at old given steps assigned feed → slice_get at.code.now at.stmt ≡ None → IsUnlooped
      → HasStopped piece entry before feed first outcome.Stuck old given steps assigned
  stops-without_code way none unlooped = record {
    answers = way.answers;
    used = [];
    values = way.values;
    point = point_of piece at old way.values steps assigned;
    feed = feed;
    fed = IsFed-none before feed way.answers way.fed;
    behind = refl;
    leads = λ stream is. (
      way.leads stream is,
      inr (record { code = drop-slice_get_none at.code.now at.stmt none; unlooped = unlooped; used_none = refl; stays = refl }),
    );
    kept = way.kept;
    counts = tt;
    places = refl;
  }

  -- the steps are those of a loop
  pub stops-looped : IsOnWay piece entry before first at old given steps assigned feed → loop_count piece before.window.start old.limit ≤ steps
      → HasStopped piece entry before feed first outcome.Loop old given steps assigned
  stops-looped way looped = record {
    answers = way.answers;
    used = [];
    values = way.values;
    point = point_of piece at old way.values steps assigned;
    feed = feed;
    fed = IsFed-none before feed way.answers way.fed;
    behind = refl;
    leads = λ stream is. (way.leads stream is, record { looped = looped; used_none = refl; stays = refl });
    kept = way.kept;
    counts = tt;
    places = refl;
  }

  module _ (statement : Stmt) where
    abbrev rest : List Stmt
    rest = drop (at.stmt + 1) at.code.now

    stands-here : (values : List Value) → StandsAt piece.blocks at statement → IsUnlooped → (stream : List ℕ)
        → StandsBefore piece stream before.window.start before.window.size (point_of piece at old values steps assigned) statement rest
    stands-here values stands unlooped stream = record { code = code-split piece at statement stands; unlooped = unlooped }

    -- memory ran out
    pub stops-without_memory : (after : Feed) (new : Scanner) (more : Given) → IsOnWay piece entry before first at old given steps assigned feed
        → StandsAt piece.blocks at statement → IsUnlooped → after ≡ feed → more ≡ given → new ≡ old → is_on_histories statement ≡ true
        → HasStopped piece entry before after first outcome.Memory new more steps assigned
    stops-without_memory after new more way stands unlooped same kept still histories = record {
      answers = way.answers;
      used = [];
      values = way.values;
      point = point_of piece at old way.values steps assigned;
      feed = feed;
      fed = IsFed-none before feed way.answers way.fed;
      behind = same;
      leads = λ stream is. (
        way.leads stream (subst (λ (one : Feed). IsWindowOf stream (slid one.window)) same is),
        record {
          statement = statement;
          rest = rest;
          stands = stands-here way.values stands unlooped stream;
          on_histories = histories;
          used_none = refl;
          stays = ap (λ scanner. machine_of piece.conds scanner way.values) still;
        },
      );
      kept = kept ∙ way.kept;
      counts = tt;
      places = refl;
    }

    -- the source left the scanner, or failed
    module _ (after : Feed) (new : Scanner) (more : Given) (steps' : ℕ) (others : List StmtAt) (starts : before.window.start ≡ feed.window.start) (sizes : before.window.size ≡ feed.window.size)
        (way : IsOnWay piece entry before first at old given steps assigned feed) (stands : StandsAt piece.blocks at statement) (unlooped : IsUnlooped)
        (gives : more ≡ given_after (tag_names piece.blocks) statement (machine_of piece.conds old []) given) (notes : others ≡ with_statement (place_of at) statement assigned) where
      abbrev here : Point
      here = point_of piece at old way.values steps assigned

      earlier : after.window ≡ slid feed.window → (stream : List ℕ) → IsWindowOf stream (slid after.window) → IsWindowOf stream (slid feed.window)
      earlier slides stream is = subst (IsWindowOf stream) (ap slid slides ∙ slid-slid feed.window) is

      asks-here : (values : List Value) → Asks feed.window.start feed.window.size statement (machine_of piece.conds old values) → Asks before.window.start before.window.size statement (machine_of piece.conds old values)
      asks-here values asks =
          subst (λ start. Asks start before.window.size statement (machine_of piece.conds old values)) (sym starts)
          (subst (λ size. Asks feed.window.start size statement (machine_of piece.conds old values)) (sym sizes) asks)

      left-here : (told : Outcome) → Halts piece statement old new feed after told → after.window ≡ slid feed.window → (stream : List ℕ) → IsWindowOf stream (slid after.window)
          → LeadsTo piece stream before.window.start before.window.size entry way.answers here
          × IsLeft piece stream before.window.start before.window.size here [] (machine_of piece.conds new way.values)
      left-here told halts slides stream is = (
        way.leads stream (earlier slides stream is),
        record {
          statement = statement;
          rest = rest;
          stands = stands-here way.values stands unlooped stream;
          asks = asks-here way.values (halts.asks way.values);
          used_none = refl;
          stays = ap (λ scanner. machine_of piece.conds scanner way.values) halts.same;
        },
      )

      keeps-given : IsAsking statement (machine_of piece.conds old way.values) → more ≡ after_values (tag_names piece.blocks) way.values first
      keeps-given asking = gives ∙ given_after-asking (tag_names piece.blocks) statement (machine_of piece.conds old []) (machine_of piece.conds old way.values) given asking ∙ way.kept

      keeps-places : IsAsking statement (machine_of piece.conds old way.values) → others ≡ assigned
      keeps-places asking = notes ∙ with_statement-asking (place_of at) statement (machine_of piece.conds old way.values) assigned asking

      stops-left : Halts piece statement old new feed after outcome.NeedFill → steps' ≡ suc steps → HasStopped piece entry before after first outcome.NeedFill new more steps' others
      stops-left halts counts = record {
        answers = way.answers;
        used = [];
        values = way.values;
        point = here;
        feed = feed;
        fed = IsFed-none before feed way.answers way.fed;
        behind = halts.behind;
        leads = left-here outcome.NeedFill halts halts.behind.1;
        kept = keeps-given (halts.asks way.values).asking;
        counts = counts;
        places = keeps-places (halts.asks way.values).asking;
      }

      stops-failed : Halts piece statement old new feed after outcome.ReadFailed → HasStopped piece entry before after first outcome.ReadFailed new more steps' others
      stops-failed halts = record {
        answers = way.answers;
        used = [];
        values = way.values;
        point = here;
        feed = feed;
        fed = IsFed-none before feed way.answers way.fed;
        behind = halts.behind;
        leads = left-here outcome.ReadFailed halts halts.behind.window;
        kept = keeps-given (halts.asks way.values).asking;
        counts = tt;
        places = keeps-places (halts.asks way.values).asking;
      }

      stops-full : (kept need size : ℕ) → Fills piece statement old new feed after kept need size
          → HasStopped piece entry before after first (outcome.WindowFull kept need size) new more steps' others
      stops-full kept need size fills = record {
        answers = way.answers;
        used = [];
        values = way.values;
        point = here;
        feed = feed;
        fed = IsFed-none before feed way.answers way.fed;
        behind = fills.still;
        leads = λ stream is. (
          way.leads stream (subst (λ (one : Feed). IsWindowOf stream (slid one.window)) fills.still is),
          record {
            statement = statement;
            rest = rest;
            stands = stands-here way.values stands unlooped stream;
            asking = fills.asking way.values;
            kept_is = subst (λ start. kept ≡ kept_by start statement (machine_of piece.conds old way.values)) (sym starts) (fills.kept_is way.values);
            need_is = fills.need_is;
            size_is = fills.size_is ∙ sym sizes;
            full = subst (λ one. one < kept + need) (sym sizes) fills.full;
            used_none = refl;
            stays = ap (λ scanner. machine_of piece.conds scanner way.values) fills.same;
          },
        );
        kept = keeps-given (fills.asking way.values);
        counts = tt;
        places = keeps-places (fills.asking way.values);
      }

      asking-need : (waits_so : Waits piece statement old new feed after) → IsAsking statement (machine_of piece.conds old way.values)
      asking-need waits_so = subst (λ one. IsAsking one (machine_of piece.conds old way.values)) (sym waits_so.is) waits_so.few

      room-need : (waits_so : Waits piece statement old new feed after) → (old.cursor - before.window.start) + waits_so.units ≤ before.window.size
      room-need waits_so =
          subst (λ start. (old.cursor - start) + waits_so.units ≤ before.window.size) (sym starts)
          (subst (λ size. (old.cursor - feed.window.start) + waits_so.units ≤ size) (sym sizes) waits_so.room)

      -- it waits for more units
      goes-waits : Waits piece statement old new feed after → steps' ≡ steps → old.limit ≡ feed.window.limit → IsFormed feed.window
          → IsOnWay piece entry before first at new more steps' others after
      goes-waits waits_so counts limits formed = record {
        answers = way.answers ++ brought feed.window after.window ∷ [];
        values = way.values;
        fed = filled way.fed formed waits_so.refills refl;
        leads = λ stream is.
            subst (LeadsTo piece stream before.window.start before.window.size entry (way.answers ++ brought feed.window after.window ∷ []))
            (ap (λ limit. limited limit here) (ap (λ from. from + (after.window.limit - feed.window.limit)) limits ∙ sym (Refills-limit feed after waits_so.count waits_so.refills))
            ∙ ap (λ scanner. point_of piece at scanner way.values steps assigned) (sym waits_so.same)
            ∙ ap (λ count. point_of piece at new way.values count assigned) (sym counts)
            ∙ ap (λ places. point_of piece at new way.values steps' places) (sym (keeps-places (asking-need waits_so))))
            (waits (feed.window.start - feed.window.base) (after.window.limit - feed.window.limit)
            (way.leads stream (IsWindowOf-before stream feed.window after.window feed.ahead after.ahead (More waits_so.count) formed waits_so.refills is))
            (subst (λ one. StandsBefore piece stream before.window.start before.window.size here one rest) waits_so.is (stands-here way.values stands unlooped stream))
            (record { asking = waits_so.few; room = room-need waits_so }) refl);
        kept = keeps-given (asking-need waits_so);
      }

      -- ---- the machine made it

      asked-here : (going : Going) (goes : Goes piece statement old new feed after going) (values : List Value) → AreAsked before.window.start before.window.size goes.used statement (machine_of piece.conds old values)
      asked-here going goes values =
          subst (λ start. AreAsked start before.window.size goes.used statement (machine_of piece.conds old values)) (sym starts)
          (subst (λ size. AreAsked feed.window.start size goes.used statement (machine_of piece.conds old values)) (sym sizes) (goes.asks values))

      abbrev values-here : List Value
      values-here = values_after statement (machine_of piece.conds old way.values) way.values

      made-here : (going : Going) (goes : Goes piece statement old new feed after going) (next : Next) → IsFormed after.window
          → next_of piece.blocks rest going (machine_of piece.conds new values-here) [] ≡ next → (stream : List ℕ) → IsWindowOf stream (slid after.window)
          → Makes piece stream before.window.start before.window.size here statement rest goes.used next
      made-here going goes next formed is_next stream is = record {
        stands = stands-here way.values stands unlooped stream;
        asked = asked-here going goes way.values;
        step = goes.step stream formed is rest way.values ∙ is_next;
      }

      keeps-more : more ≡ after_values (tag_names piece.blocks) values-here first
      keeps-more = gives ∙ ap (given_after (tag_names piece.blocks) statement (machine_of piece.conds old [])) way.kept ∙ kept-step (tag_names piece.blocks) piece.conds statement old way.values first

      -- and went on
      goes-on : (going : Going) (next : Position) (goes : Goes piece statement old new feed after going) → IsFormed after.window → GoesTo piece.blocks at going (Ok next) → steps' ≡ suc steps
          → IsOnWay piece entry before first next new more steps' others after
      goes-on going next goes formed to counts = record {
        answers = way.answers ++ goes.used;
        values = values-here;
        fed = IsFed-append before feed after way.answers goes.used way.fed goes.fed;
        leads = λ stream is.
            subst (LeadsTo piece stream before.window.start before.window.size entry (way.answers ++ goes.used))
            (ap (λ place. record (point_of piece next new values-here (suc steps) (with_statement (place_of at) statement assigned)) { place = place })
            (sym (to.2 (goes_to piece.table goes.used statement (machine_of piece.conds old way.values)) (goes.leads way.values)))
            ∙ ap (λ count. point_of piece next new values-here count (with_statement (place_of at) statement assigned)) (sym counts)
            ∙ ap (λ places. point_of piece next new values-here steps' places) (sym notes))
            (makes (way.leads stream (IsWindowOf-fed stream goes.fed is))
            (made-here going goes (goes_on (code_of next) (machine_of piece.conds new values-here) []) formed (to.0 (machine_of piece.conds new values-here) []) stream is) refl);
        kept = keeps-more;
      }

      last-here : (going : Going) (told : Outcome) (goes : Goes piece statement old new feed after going) → IsFormed after.window → GoesTo piece.blocks at going (Err told)
          → (stream : List ℕ) → IsWindowOf stream (slid after.window)
          → Makes piece stream before.window.start before.window.size here statement rest goes.used (ends (outcome_of told) (machine_of piece.conds new values-here))
      last-here going told goes formed to stream is =
          made-here going goes (ends (outcome_of told) (machine_of piece.conds new values-here)) formed (to.0 (machine_of piece.conds new values-here) []) stream is

      answer-here : (going : Going) (told : Outcome) (goes : Goes piece statement old new feed after going) → GoesTo piece.blocks at going (Err told) → IsAnswer told
      answer-here going told goes to = to.1 (goes_to piece.table goes.used statement (machine_of piece.conds old way.values)) (goes.leads way.values)

      -- and ended the match
      goes-ends : (going : Going) (told : Outcome) (goes : Goes piece statement old new feed after going) → IsFormed after.window → GoesTo piece.blocks at going (Err told)
          → HasStopped piece entry before after first told new more steps' others
      goes-ends going told goes formed to = record {
        answers = way.answers;
        used = goes.used;
        values = values-here;
        point = here;
        feed = after;
        fed = IsFed-append before feed after way.answers goes.used way.fed goes.fed;
        behind = Behind-answer told after (answer-here going told goes to);
        leads = λ stream is. (
          way.leads stream (IsWindowOf-fed stream goes.fed is),
          EndsAs-answer piece stream before.window.start before.window.size told here goes.used (machine_of piece.conds new values-here) (answer-here going told goes to)
              (record { statement = statement; rest = rest; made = last-here going told goes formed to stream is }),
        );
        kept = keeps-more;
        counts = CountsOn-answer told steps' here (answer-here going told goes to);
        places =
            let some : (stream : List ℕ) × IsWindowOf stream (slid after.window) = some_stream after.window formed in
            notes ∙ with_statement-last piece some.0 (place_of at) statement rest (machine_of piece.conds old way.values) goes.used (outcome_of told) (machine_of piece.conds new values-here) assigned
            (last-here going told goes formed to some.0 some.1).step;
      }

      -- ---- all of it

      -- what comes of a statement
      pub comes_here : (one : Made) (passed : Passed) → IsMade piece statement old new feed after one → IsPassed piece.blocks at one passed steps steps' → old.limit ≡ feed.window.limit
          → IsFormed feed.window → IsFormed after.window → Comes piece entry before after first (Ok passed) new more steps' others
      comes_here made.Waits passed so is limits formed formed_after =
          subst (λ one. Comes piece entry before after first (Ok one) new more steps' others) (sym is.0) (goes-waits so is.1 limits formed)
      comes_here (made.Stops outcome.NeedFill) passed so is limits formed formed_after =
          subst (λ one. Comes piece entry before after first (Ok one) new more steps' others) (sym is.0) (stops-left so is.1)
      comes_here (made.Stops outcome.ReadFailed) passed so is limits formed formed_after =
          subst (λ one. Comes piece entry before after first (Ok one) new more steps' others) (sym is.0) (stops-failed so)
      comes_here (made.Stops (outcome.WindowFull kept need size)) passed so is limits formed formed_after =
          subst (λ one. Comes piece entry before after first (Ok one) new more steps' others) (sym is.0) (stops-full kept need size so)
      comes_here (made.Stops _) passed so is limits formed formed_after = absurd so
      comes_here (made.Goes going) (On next) so is limits formed formed_after = goes-on going next so formed_after is.0 is.1
      comes_here (made.Goes going) (Ends told) so is limits formed formed_after = goes-ends going told so formed_after is.0

-- a call that found no memory
pub Comes-without_memory : (piece : Piece) (entry : Point) (before after : Feed) (first : Given) (result : Result Passed Memory) (scanner : Scanner) (given : Given) (steps : ℕ) (assigned : List StmtAt) → IsErr result
    → HasStopped piece entry before after first outcome.Memory scanner given steps assigned → Comes piece entry before after first result scanner given steps assigned
Comes-without_memory piece entry before after first (Ok passed) scanner given steps assigned none stopped = absurd cc
Comes-without_memory piece entry before after first (Err memory) scanner given steps assigned none stopped = stopped

-- what comes of a statement, where it went on
pub IsOnWay-passed : (piece : Piece) (entry : Point) (before after : Feed) (first : Given) (passed : Passed) (next : Position) (scanner : Scanner) (given : Given) (steps : ℕ) (assigned : List StmtAt) → passed ≡ On next
    → Comes piece entry before after first (Ok passed) scanner given steps assigned → IsOnWay piece entry before first next scanner given steps assigned after
IsOnWay-passed piece entry before after first passed next scanner given steps assigned is comes = subst (λ one. Comes piece entry before after first (Ok one) scanner given steps assigned) is comes

-- where it ended the match
pub HasStopped-passed : (piece : Piece) (entry : Point) (before after : Feed) (first : Given) (passed : Passed) (told : Outcome) (scanner : Scanner) (given : Given) (steps : ℕ) (assigned : List StmtAt) → passed ≡ Ends told
    → Comes piece entry before after first (Ok passed) scanner given steps assigned → HasStopped piece entry before after first told scanner given steps assigned
HasStopped-passed piece entry before after first passed told scanner given steps assigned is comes = subst (λ one. Comes piece entry before after first (Ok one) scanner given steps assigned) is comes

pub Nears-passed : (blocks : List CodeBlock) (passed : Passed) (next : Position) (steps steps' limit limit' : ℕ) → passed ≡ On next → IsNearer blocks (Ok passed) steps steps' limit limit' → Nears blocks next steps steps' limit limit'
Nears-passed blocks passed next steps steps' limit limit' is nearer = subst (λ one. IsNearer blocks (Ok one) steps steps' limit limit') is nearer

pub KeepsStart-both : {first second third : WindowView} → KeepsStart first second → KeepsStart second third → KeepsStart first third
KeepsStart-both one other = record { same_unit = other.same_unit ∙ one.same_unit; same_start = other.same_start ∙ one.same_start; same_size = other.same_size ∙ one.same_size }

pub KeepsSource-both : {a b c d e f g h i : ℕ} → KeepsSource a b d e g h → KeepsSource b c e f h i → KeepsSource a c d f g i
KeepsSource-both one other = record {
  same_unit = other.same_unit ∙ one.same_unit;
  faults_never_fall = omega (arith, one.faults_never_fall, other.faults_never_fall);
  pauses_never_fall = omega (arith, one.pauses_never_fall, other.pauses_never_fall);
}

-- ---- where it begins

-- a call enters the code at a place
pub IsOnWay-entered : (piece : Piece) (entry : Point) (feed : Feed) (at : Option Position) (here : Position) (scanner : Scanner) (given : Given) (steps : ℕ) (assigned : List StmtAt) → at ≡ Some here
    → Enters piece entry at scanner steps assigned → IsOnWay piece entry feed given here scanner given steps assigned feed
IsOnWay-entered piece entry feed at here scanner given steps assigned is enters =
    let stands : IsEntry piece entry (Some here) = subst (IsEntry piece entry) is enters.stands in
    let point : entry ≡ point_of piece here scanner [] steps assigned =
    sym (ap (λ place. record { place = place; code = code_of here; machine = machine_of piece.conds scanner []; steps = steps; assigned = assigned }) stands.1
    ∙ ap (λ code. record { place = entry.place; code = code; machine = machine_of piece.conds scanner []; steps = steps; assigned = assigned }) stands.2
    ∙ ap (λ machine. record { place = entry.place; code = entry.code; machine = machine; steps = steps; assigned = assigned }) enters.machine
    ∙ ap (λ count. record { place = entry.place; code = entry.code; machine = entry.machine; steps = count; assigned = assigned }) enters.steps_are
    ∙ ap (λ places. record { place = entry.place; code = entry.code; machine = entry.machine; steps = entry.steps; assigned = places }) enters.assigned_are) in
    record {
      answers = [];
      values = [];
      fed = unasked;
      leads = λ stream is. subst (LeadsTo piece stream feed.window.start feed.window.size entry []) point stays;
      kept = refl;
    }

-- a call enters where no code is
pub stops-nowhere : (piece : Piece) (entry : Point) (feed : Feed) (at : Option Position) (scanner : Scanner) (given : Given) (steps statements : ℕ) (assigned : List StmtAt) (told : Outcome) → at ≡ None
    → Enters piece entry at scanner steps assigned → scanner.limit ≡ feed.window.limit → statements ≡ statement_count piece.blocks
    → told ≡ (if nat_le (2 * ((scanner.limit - feed.window.start) + 2) * statements) steps then outcome.Loop else outcome.Stuck)
    → HasStopped piece entry feed feed given told scanner given steps assigned
stops-nowhere piece entry feed at scanner given steps statements assigned told is enters limits counted tells =
    by (nat_le (loop_count piece feed.window.start scanner.limit) steps) refl (tells ∙ ap (λ count. if nat_le (2 * ((scanner.limit - feed.window.start) + 2) * count) steps then outcome.Loop else outcome.Stuck) counted) where
      limit : entry.machine.limit ≡ scanner.limit
      limit = sym (ap (λ (machine : Machine). machine.limit) enters.machine)

      count : loop_count piece feed.window.start entry.machine.limit ≡ loop_count piece feed.window.start scanner.limit
      count = ap (loop_count piece feed.window.start) limit

      stopped : (one : Outcome) → ((stream : List ℕ) → EndsAs piece stream feed.window.start feed.window.size one entry [] (machine_of piece.conds scanner [])) → Behind one feed feed → CountsOn one steps entry
          → assigned ≡ entry.assigned → HasStopped piece entry feed feed given one scanner given steps assigned
      stopped one ends_so behind counts places = record {
        answers = [];
        used = [];
        values = [];
        point = entry;
        feed = feed;
        fed = unasked;
        behind = behind;
        leads = λ stream is. (stays, ends_so stream);
        kept = refl;
        counts = counts;
        places = places;
      }

      by : (looped : Bool) → nat_le (loop_count piece feed.window.start scanner.limit) steps ≡ looped → told ≡ (if looped then outcome.Loop else outcome.Stuck)
          → HasStopped piece entry feed feed given told scanner given steps assigned
      by true found same =
          subst (λ one. HasStopped piece entry feed feed given one scanner given steps assigned) (sym same)
          (stopped outcome.Loop (λ stream. record { looped = omega (arith, count, enters.steps_are, leb-true (loop_count piece feed.window.start scanner.limit) steps found); used_none = refl; stays = enters.machine }) refl tt enters.assigned_are)
      by false found same =
          subst (λ one. HasStopped piece entry feed feed given one scanner given steps assigned) (sym same)
          (stopped outcome.Stuck (λ stream. inr (record {
            code = subst (IsEntry piece entry) is enters.stands;
            unlooped = omega (arith, count, enters.steps_are, leb-false (loop_count piece feed.window.start scanner.limit) steps found);
            used_none = refl;
            stays = enters.machine;
          })) refl tt enters.assigned_are)
