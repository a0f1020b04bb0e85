-- The answers of calls that make one match are those of a legal schedule.
use Rattle.std.proofs.Common.{◌≡◌, ◌∙◌, ap, refl, sym, subst, ℕ, ◌+◌, ◌-◌, ◌<◌, ◌≤◌, ◌⊎◌, inl, inr, Bool, false, true, List, [], ◌∷◌, ◌++◌, length, Option, Some, None, arith, ◌||◌, ltb-true, ltb-false}
use Rattle.std.specs.Prelude.{map, is_some, nat_lt}
use Rattle.std.specs.List.{list_any}
use Rattle.std.proofs.lemmas.List.{append-nil, append_assoc, map-append}
use Rattle.lx_ccode.specs.declared.piece.Piece.{Piece}
use Rattle.lx_ccode.specs.declared.piece.Stmt.{Stmt}
use Rattle.lx_ccode.specs.Machine.{Answer, Refill, left, more, no_more, refilled}
use Rattle.lx_ccode.specs.Schedules.{AreLegalAnswers, Buffer, IsLegal, ReadsUnasked}
use Rattle.lx_ccode.specs.States.{has_state, stores}
use Rattle.lx_ccode.specs.Statements.{all_statements, is_state, state_of}
use Rattle.lx_window.specs.Windows.{IsFedBy, IsFormed}
use Rattle.lx_window.specs.WindowView.{WindowView}
use Rattle.lx_window.proofs.StreamWindows.{IsSpent-limit}
use Rattle.lx_step.specs.declared.answers.Outcome.{Outcome}
use Rattle.lx_step.specs.Calls.{AreCalls, LeavesOpen, ends, leaves, refill_between, schedule_of, undropped}
use Rattle.lx_step.specs.Feeds.{Feed, IsFed, brought, ended, filled, unasked}
use Rattle.lx_step.specs.Held.{Held}
use Rattle.lx_step.specs.Left.{Left}
use Rattle.lx_step.proofs.CallWindows.{IsFedBy-fed, refill_between-more, refill_between-no_more}
use Rattle.lx_step.proofs.FedWindows.{Refills-more}
use Rattle.lx_step.proofs.StoredStates.{LeavesStored, LeavesStored-call}

-- ---- states

-- a statement that stores a state is a State
list_any-stores : (state : ℕ) (statements : List Stmt) → list_any (stores state) statements ≡ true → list_any is_state statements ≡ true
list_any-stores state [] has = absurd cc
list_any-stores state (statement ∷ statements) has = by (state_of statement) (list_any-stores state statements) has where
  by : (found : Option ℕ) → (list_any (stores state) statements ≡ true → list_any is_state statements ≡ true)
      → (has_state found state || list_any (stores state) statements) ≡ true → (is_some found || list_any is_state statements) ≡ true
  by None later has = later has
  by (Some other) later has = refl

module _ (stream : List ℕ) (start : ℕ) (states : Bool) where
  abbrev buffer : (limit : ℕ) → (closed : Bool) → Buffer
  buffer limit closed = record { base = 0; limit = limit; closed = closed }

  -- a buffer that was closed has the whole stream
  abbrev ClosesWhole : (limit : ℕ) → (closed : Bool) → Type 0
  ClosesWhole limit closed = closed ≡ true → limit ≡ length stream

  -- behind any buffer with this limit the answers are legal
  abbrev AreLegalFrom : (limit : ℕ) → List Answer → Type 0
  AreLegalFrom limit answers = (closed : Bool) → ClosesWhole limit closed → LeavesOpen closed answers → AreLegalAnswers (length stream) start states (buffer limit closed) answers

  -- a buffer is open before units of the stream that are not in it
  open-before : (limit to : ℕ) (closed : Bool) → ClosesWhole limit closed → limit < to → to ≤ length stream → closed ≡ false
  open-before limit to true whole below within = absurd (omega (arith, whole refl, below, within))
  open-before limit to false whole below within = refl

  -- a refill that brings units
  AreLegalFrom-more : (limit to : ℕ) (others : List Answer) → limit < to → to ≤ length stream → AreLegalFrom to others → AreLegalFrom limit (refilled (more 0 (to - limit)) ∷ others)
  AreLegalFrom-more limit to others below within legal closed whole opens =
      let reached : limit + (to - limit) ≡ to = omega (arith, below) in (
        (open-before limit to closed whole below within, omega arith, omega (arith, below), omega (arith, below, within)),
        subst (λ limit. AreLegalAnswers (length stream) start states (buffer limit closed) others) (sym reached)
            (legal closed (λ is. absurd (omega (arith, whole is, below, within))) opens),
      )

  -- a refill that says that there are no more
  AreLegalFrom-no_more : (limit : ℕ) (others : List Answer) → limit ≡ length stream → AreLegalFrom limit others → AreLegalFrom limit (refilled no_more ∷ others)
  AreLegalFrom-no_more limit others whole legal closed closes opens = (whole, legal true (λ is. whole) opens)

  answers-before : (answers used all others : List Answer) → all ≡ answers ++ used → map undropped answers ++ (map undropped used ++ others) ≡ map undropped all ++ others
  answers-before answers used all others is =
      sym (append_assoc (map undropped answers) (map undropped used) others)
      ∙ ap (λ one. one ++ others) (sym (map-append undropped answers used) ∙ sym (ap (map undropped) is))

  -- the answers of a call, and then legal ones
  AreLegalFrom-fed : {from after : Feed} {answers : List Answer} (others : List Answer) → IsFed from answers after → IsFormed from.window → IsFedBy stream from.window from.ahead
      → AreLegalFrom after.window.limit others → AreLegalFrom from.window.limit (map undropped answers ++ others)
  AreLegalFrom-fed others unasked formed fed legal = legal
  AreLegalFrom-fed {from} others (filled {answers} {others = all} {before} {after} {count} earlier formed_before refills is) formed fed legal =
      let now : IsFedBy stream after.window after.ahead = (IsFedBy-fed stream (filled earlier formed_before refills refl) formed fed).0 in
      subst (AreLegalFrom from.window.limit) (answers-before answers (brought before.window after.window ∷ []) all others is)
      (AreLegalFrom-fed (refilled (more 0 (after.window.limit - before.window.limit)) ∷ others) earlier formed fed
      (AreLegalFrom-more before.window.limit after.window.limit others (Refills-more before after count formed_before refills) now.holds.within legal))
  AreLegalFrom-fed {from} others (ended {answers} {others = all} {before} {after} earlier formed_before refills is) formed fed legal =
      let whole : before.window.limit ≡ length stream = IsSpent-limit stream before.window before.ahead (IsFedBy-fed stream earlier formed fed).0 refills.0 in
      subst (AreLegalFrom from.window.limit) (answers-before answers (refilled no_more ∷ []) all others is)
      (AreLegalFrom-fed (refilled no_more ∷ others) earlier formed fed
      (AreLegalFrom-no_more before.window.limit others whole (subst (λ limit. AreLegalFrom limit others) (ap (λ (window : WindowView). window.limit) refills.2) legal)))

  -- the scanner is left, and comes back behind a refill
  AreLegalFrom-left : (limit to : ℕ) (others : List Answer) → states ≡ true → (limit < to) ⊎ (to ≡ length stream) → limit ≤ length stream → to ≤ length stream
      → AreLegalFrom to others → AreLegalFrom limit (left (refill_between limit to ∷ []) ∷ others)
  AreLegalFrom-left limit to others stored further before within legal = by (nat_lt limit to) refl where
    brings : limit < to → AreLegalFrom limit (left (more 0 (to - limit) ∷ []) ∷ others)
    brings below closed whole opens =
        let reached : limit + (to - limit) ≡ to = omega (arith, below) in (
          opens.0,
          stored,
          omega arith,
          ((opens.0, omega arith, omega (arith, below), omega (arith, below, within)), tt),
          subst (λ (closed : Bool). AreLegalAnswers (length stream) start states (buffer (limit + (to - limit)) closed) others) (sym opens.0)
              (subst (λ limit. AreLegalAnswers (length stream) start states (buffer limit false) others) (sym reached) (legal false (λ is. absurd cc) opens.1)),
        )

    brings_none : limit ≡ length stream → limit ≡ to → AreLegalFrom limit (left (no_more ∷ []) ∷ others)
    brings_none whole same closed closes opens = (
      opens.0,
      stored,
      omega arith,
      (whole, tt),
      subst (λ limit. AreLegalAnswers (length stream) start states (buffer limit true) others) (sym same) (legal true (λ is. sym same ∙ whole) opens.1),
    )

    end-limit : to ≤ limit → (limit < to) ⊎ (to ≡ length stream) → limit ≡ length stream
    end-limit above (inl below) = absurd (omega (arith, above, below))
    end-limit above (inr is) = omega (arith, is, before, above)

    by : (test : Bool) → nat_lt limit to ≡ test → AreLegalFrom limit (left (refill_between limit to ∷ []) ∷ others)
    by true e =
        subst (λ (refill : Refill). AreLegalFrom limit (left (refill ∷ []) ∷ others)) (sym (refill_between-more limit to (ltb-true limit to e))) (brings (ltb-true limit to e))
    by false e =
        let whole : limit ≡ length stream = end-limit (ltb-false limit to e) further in
        subst (λ (refill : Refill). AreLegalFrom limit (left (refill ∷ []) ∷ others)) (sym (refill_between-no_more limit to (ltb-false limit to e)))
        (brings_none whole (omega (arith, whole, within, ltb-false limit to e)))

-- ---- all calls of a match

module _ (stream : List ℕ) (told : Outcome) (new : Held) (piece : Piece) (start : ℕ) where
  abbrev states : Bool
  states = list_any is_state (all_statements piece.blocks)

  -- a match that goes on stores a state of the piece
  LeavesStored-states : (stored : Option Left) → is_some stored ≡ true → LeavesStored piece.blocks stored → states ≡ true
  LeavesStored-states None some keeps = absurd cc
  LeavesStored-states (Some one) some keeps = list_any-stores one.state (all_statements piece.blocks) keeps

  AreCalls-legal : (old : Held) (before : Feed) (answers : List Answer) → LeavesStored piece.blocks old.left → old.piece ≡ piece → IsFormed before.window → IsFedBy stream before.window before.ahead
      → AreCalls stream told new old before answers → AreLegalFrom stream start states before.window.limit answers
  AreCalls-legal old before all stored same formed fed (ends call end is) =
      subst (AreLegalFrom stream start states before.window.limit) (append-nil (map undropped (call.answers ++ call.used)) ∙ sym is)
      (AreLegalFrom-fed stream start states [] call.fed formed fed (λ closed whole opens. tt))
  AreCalls-legal old before all stored same formed fed (leaves {middle} {after} {again} {others} call goes calls is) =
      let keeps : LeavesStored piece.blocks middle.left = LeavesStored-call stream piece old middle before after same formed fed call stored in
      let now : IsFedBy stream call.feed.window call.feed.ahead = (IsFedBy-fed stream call.fed formed fed).0 in
      let limit : after.window.limit ≡ call.feed.window.limit = ap (λ (window : WindowView). window.limit) call.behind.1 in
      let later : AreLegalFrom stream start states again.window.limit others =
      AreCalls-legal middle again others keeps (call.piece ∙ same) goes.formed goes.fed calls in
      let coming : AreLegalFrom stream start states after.window.limit (left (refill_between after.window.limit again.window.limit ∷ []) ∷ others) =
      AreLegalFrom-left stream start states after.window.limit again.window.limit others (LeavesStored-states middle.left goes.stored keeps) goes.further
      (omega (arith, limit, now.holds.within)) goes.fed.holds.within later in
      subst (AreLegalFrom stream start states before.window.limit) (sym is)
      (AreLegalFrom-fed stream start states (left (refill_between after.window.limit again.window.limit ∷ []) ∷ others) call.fed formed fed
      (subst (λ limit. AreLegalFrom stream start states limit (left (refill_between after.window.limit again.window.limit ∷ []) ∷ others)) limit coming))

-- the schedule of the calls is legal
pub IsLegal-calls : (old new : Held) (before : Feed) (stream : List ℕ) (told : Outcome) (answers : List Answer) → old.left ≡ None → IsFormed before.window → IsFedBy stream before.window before.ahead
    → AreCalls stream told new old before answers → (ReadsUnasked old.piece → before.window.limit ≡ length stream)
    → LeavesOpen false answers → IsLegal old.piece (length stream) before.window.start (schedule_of before answers)
IsLegal-calls old new before stream told answers fresh formed fed calls whole opens = record {
  from_start = formed.ends;
  within = fed.holds.within;
  whole = whole;
  answers = AreCalls-legal stream told new old.piece before.window.start old before answers (subst (LeavesStored old.piece.blocks) (sym fresh) tt) refl formed fed calls false (λ is. absurd cc) opens;
}
