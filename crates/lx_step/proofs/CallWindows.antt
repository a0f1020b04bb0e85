-- The windows of calls that make one match, and their limits.
use Rattle.std.proofs.Common.{◌≡◌, ◌∙◌, ap, refl, sym, subst, ℕ, ◌+◌, ◌-◌, ◌<◌, ◌≤◌, Bool, false, true, List, [], ◌∷◌, ◌++◌, Option, Some, None, arith, ltb-true, ltb-false}
use Rattle.std.specs.Prelude.{if◌then◌else◌, nat_lt}
use Rattle.lx_ccode.specs.declared.piece.Piece.{Piece}
use Rattle.lx_ccode.specs.Machine.{Answer, left, more, no_more, refilled, units_of, units_of_all, units_of_answers}
use Rattle.lx_ccode.proofs.Steps.{units_after, units_after-step}
use Rattle.lx_window.specs.Windows.{IsFedBy, IsFormed, IsWindowOf, slid}
use Rattle.lx_window.specs.WindowView.{WindowView}
use Rattle.lx_window.specs.declared.refills.Fill.TheVariants.{More, NoMore}
use Rattle.lx_window.proofs.StreamWindows.{IsFedBy-Refills, IsWindowOf-slid}
use Rattle.lx_step.specs.declared.answers.Outcome.{Outcome}
use Rattle.lx_step.specs.declared.answers.Outcome.TheVariants as outcome
use Rattle.lx_step.specs.declared.answers.StmtAt.{StmtAt}
use Rattle.lx_step.specs.Advances.{Behind}
use Rattle.lx_step.specs.Calls.{IsEnd, refill_between}
use Rattle.lx_step.specs.Entries.{entry_by}
use Rattle.lx_step.specs.Feeds.{Feed, IsFed, ended, filled, unasked}
use Rattle.lx_step.specs.Left.{Left}
use Rattle.lx_step.specs.Points.{LeadsTo, Point, makes, stays, waits}
use Rattle.lx_step.proofs.AskedSteps.{Refills-limit}
use Rattle.lx_step.proofs.FilledWindows.{slid-grown, slid-slid}

-- ---- windows of the stream

-- a feed that its stream fed is fed by it after refills, and also where the window slides once more
pub IsFedBy-fed : (stream : List ℕ) {from after : Feed} {answers : List Answer} → IsFed from answers after → IsFormed from.window → IsFedBy stream from.window from.ahead
    → IsFedBy stream after.window after.ahead × IsWindowOf stream (slid after.window)
IsFedBy-fed stream {from} unasked formed fed = (fed, IsWindowOf-slid stream from.window formed fed.holds)
IsFedBy-fed stream (filled {answers} {others} {before} {after} {count} earlier formed_before refills is) formed fed =
    let now : IsFedBy stream after.window after.ahead =
    IsFedBy-Refills stream before.window after.window before.ahead after.ahead (More count) formed_before (IsFedBy-fed stream earlier formed fed).0 refills in
    (now, subst (IsWindowOf stream) (refills.window_grown ∙ sym (slid-grown before.window refills.bytes) ∙ sym (ap slid refills.window_grown)) now.holds)
IsFedBy-fed stream (ended {answers} {others} {before} {after} earlier formed_before refills is) formed fed =
    let now : IsFedBy stream after.window after.ahead =
    IsFedBy-Refills stream before.window after.window before.ahead after.ahead NoMore formed_before (IsFedBy-fed stream earlier formed fed).0 refills in
    (now, subst (IsWindowOf stream) (refills.2 ∙ sym (slid-slid before.window) ∙ sym (ap slid refills.2)) now.holds)

-- a call that ended the match left the window as the source did
pub Behind-end : (told : Outcome) (feed after : Feed) → IsEnd told → Behind told feed after → after ≡ feed
Behind-end outcome.NeedFill feed after end behind = absurd end
Behind-end outcome.ReadFailed feed after end behind = absurd end
Behind-end _ feed after end behind = behind

-- ---- the limit

pub units_of_answers-append : (first second : List Answer) → units_of_answers (first ++ second) ≡ units_of_answers first + units_of_answers second
units_of_answers-append [] second = omega arith
units_of_answers-append (refilled refill ∷ first) second = omega (arith, units_of_answers-append first second)
units_of_answers-append (left refills ∷ first) second = omega (arith, units_of_answers-append first second)

units_of_answers-all : (first second all : List Answer) → all ≡ first ++ second → units_of_answers all ≡ units_of_answers first + units_of_answers second
units_of_answers-all first second all is = ap units_of_answers is ∙ units_of_answers-append first second

-- a call moves the limit by the units of its answers
pub IsFed-units : {from after : Feed} {answers : List Answer} → IsFed from answers after → after.window.limit ≡ from.window.limit + units_of_answers answers
IsFed-units unasked = omega arith
IsFed-units (filled {answers} {others} {before} {after} {count} earlier formed refills is) =
    omega (arith, IsFed-units earlier, Refills-limit before after count refills, units_of_answers-all answers _ others is)
IsFed-units (ended {answers} {others} {before} {after} earlier formed refills is) =
    omega (arith, IsFed-units earlier, ap (λ (window : WindowView). window.limit) refills.2, units_of_answers-all answers _ others is)

-- and so does the machine
pub LeadsTo-units : (piece : Piece) (stream : List ℕ) (start size : ℕ) (from point : Point) (answers : List Answer) → LeadsTo piece stream start size from answers point
    → point.machine.limit ≡ from.machine.limit + units_of_answers answers
LeadsTo-units piece stream start size from point answers stays = omega arith
LeadsTo-units piece stream start size from point all (waits {answers} {point = before} {units} {rest} dropped added leads stands asks is) =
    omega (arith, LeadsTo-units piece stream start size from before answers leads, units_of_answers-all answers _ all is)
LeadsTo-units piece stream start size from point all (makes {answers} {used} {point = before} {statement} {rest} {code} {machine} leads made is) =
    let step = ap (units_after (before.machine.limit + units_of_answers used)) (sym made.step) ∙ units_after-step piece stream rest before.machine used statement in
    omega (arith, LeadsTo-units piece stream start size from before answers leads, step, units_of_answers-all answers used all is)

pub entry_by-limit : (piece : Piece) (cursor : ℕ) (cond : List ℕ) (assigned : List StmtAt) (stored : Option Left) (start limit : ℕ)
    → (entry_by piece cursor cond assigned stored start limit).machine.limit ≡ limit
entry_by-limit piece cursor cond assigned None start limit = refl
entry_by-limit piece cursor cond assigned (Some stored) start limit = refl

-- the refill between two limits
pub refill_between-more : (from to : ℕ) → from < to → refill_between from to ≡ more 0 (to - from)
refill_between-more from to below = by (nat_lt from to) refl where
  by : (test : Bool) → nat_lt from to ≡ test → refill_between from to ≡ more 0 (to - from)
  by true e = ap (λ found. if found then more 0 (to - from) else no_more) e
  by false e = absurd (omega (arith, ltb-false from to e, below))

pub refill_between-no_more : (from to : ℕ) → to ≤ from → refill_between from to ≡ no_more
refill_between-no_more from to above = by (nat_lt from to) refl where
  by : (test : Bool) → nat_lt from to ≡ test → refill_between from to ≡ no_more
  by true e = absurd (omega (arith, ltb-true from to e, above))
  by false e = ap (λ found. if found then more 0 (to - from) else no_more) e

-- it brings the limit there
pub refill_between-units : (from to : ℕ) → from ≤ to → from + units_of_all (refill_between from to ∷ []) ≡ to
refill_between-units from to within = by (nat_lt from to) refl where
  by : (test : Bool) → nat_lt from to ≡ test → from + units_of_all (refill_between from to ∷ []) ≡ to
  by true e = omega (arith, ltb-true from to e, ap units_of (refill_between-more from to (ltb-true from to e)))
  by false e = omega (arith, ltb-false from to e, within, ap units_of (refill_between-no_more from to (ltb-false from to e)))
