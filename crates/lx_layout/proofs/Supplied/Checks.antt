-- How a check for units goes on: with units enough, at the end of the stream, unanswered, or after the scanner was left.
use Rattle.std.specs.Prelude.{◌≡◌, ℕ, ◌+◌, ◌-◌, ◌<◌, ◌≤◌, List, [], ◌∷◌, Option, Bool, true, false, nat_le, refl, if◌then◌else◌}
use Rattle.std.proofs.Common.{sym, ap, ◌∙◌, arith, leb-true, leb-false, true≢false}
use Rattle.lx_auto.specs.Bank.{Bank}
use Rattle.lx_ccode.specs.declared.piece.CodeBlock.{CodeBlock}
use Rattle.lx_ccode.specs.declared.piece.Stmt.{Stmt}
use Rattle.lx_ccode.specs.Machine.{Answer, Machine, Refill, at_end, come_back, ends, goes_on, left, more, need, no_more, refilled, unanswered}
use Rattle.lx_ccode.specs.Schedules.{Buffer, after_refill}
use Rattle.lx_layout.proofs.Runs.OperationSteps.{machine_at}
use Rattle.lx_layout.proofs.Supplied.Refills.{Buffered, Refilled, Refilled-none}

module _ (blocks : List CodeBlock) (len start : ℕ) (states : Bool) (units : ℕ) (rest : List Stmt) (cur mk : ℕ) (u : Option ℕ) (ac : ℕ)
    (kept first : Option ℕ) (k : Bank) (cond : List ℕ) where
  abbrev pub at : (lim : ℕ) → Machine
  at lim = machine_at cur mk lim u ac kept first k cond []

  pub data Checked (lim : ℕ) (q : List Answer) (closed : Bool) : Type 0 where
    has : (q' : List Answer) (buffer : Buffer) (lim' : ℕ) → Buffered len start states lim' q' buffer → Refilled lim q lim' q' → units ≤ lim' - cur
        → (closed ≡ true → lim' ≡ lim) → need blocks units rest (at lim) q ≡ goes_on rest (at lim') q' → Checked lim q closed
    short : (lim' : ℕ) → lim' ≡ len → lim' - cur < units → need blocks units rest (at lim) q ≡ ends at_end (at lim') → Checked lim q closed
    no_answer : (m : Machine) → need blocks units rest (at lim) q ≡ ends unanswered m → Checked lim q closed
    was_left : (fs : List Refill) (q' : List Answer) (buffer : Buffer) (lim' : ℕ) → Buffered len start states lim' (left fs ∷ q') buffer
        → Refilled lim q lim' (left fs ∷ q') → lim' - cur < units → closed ≡ false
        → need blocks units rest (at lim) q ≡ come_back blocks fs (at lim') q' → Checked lim q closed

  enough : (q : List Answer) (lim : ℕ) → nat_le units (lim - cur) ≡ true → need blocks units rest (at lim) q ≡ goes_on rest (at lim) q
  enough [] lim e = ap (λ t. if t then goes_on rest (at lim) [] else ends unanswered (at lim)) e
  enough (refilled (more dropped added) ∷ q) lim e =
      ap (λ t. if t then goes_on rest (at lim) (refilled (more dropped added) ∷ q) else need blocks units rest (at (lim + added)) q) e
  enough (refilled no_more ∷ q) lim e = ap (λ t. if t then goes_on rest (at lim) (refilled no_more ∷ q) else ends at_end (at lim)) e
  enough (left fs ∷ q) lim e = ap (λ t. if t then goes_on rest (at lim) (left fs ∷ q) else come_back blocks fs (at lim) q) e

  has_here : (q : List Answer) (buffer : Buffer) (lim : ℕ) → Buffered len start states lim q buffer → nat_le units (lim - cur) ≡ true
      → Checked lim q buffer.closed
  has_here q buffer lim h e = has q buffer lim h (Refilled-none lim q) (leb-true units (lim - cur) e) (λ z. refl) (enough q lim e)

  -- with too few units
  asks : (q : List Answer) (buffer : Buffer) (lim : ℕ) → Buffered len start states lim q buffer → nat_le units (lim - cur) ≡ false
      → Checked lim q buffer.closed
  asks [] buffer lim h e = no_answer (at lim) (ap (λ t. if t then goes_on rest (at lim) [] else ends unanswered (at lim)) e)
  asks (refilled no_more ∷ q) buffer lim h e =
      short lim (sym h.limit ∙ h.legal.0) (leb-false units (lim - cur) e)
      (ap (λ t. if t then goes_on rest (at lim) (refilled no_more ∷ q) else ends at_end (at lim)) e)
  asks (left fs ∷ q) buffer lim h e =
      was_left fs q buffer lim h (Refilled-none lim (left fs ∷ q)) (leb-false units (lim - cur) e) h.legal.0
      (ap (λ t. if t then goes_on rest (at lim) (left fs ∷ q) else come_back blocks fs (at lim) q) e)
  asks (refilled (more dropped added) ∷ q) buffer lim h e =
      by (nat_le units (lim + added - cur)) refl (λ z. asks q (after_refill buffer (more dropped added)) (lim + added) after z)
    where
      after : Buffered len start states (lim + added) q (after_refill buffer (more dropped added))
      after = record { within = omega (arith, h.legal.0.3, h.limit); limit = omega (arith, h.limit); legal = h.legal.1 }

      goes : need blocks units rest (at lim) (refilled (more dropped added) ∷ q) ≡ need blocks units rest (at (lim + added)) q
      goes = ap (λ t. if t then goes_on rest (at lim) (refilled (more dropped added) ∷ q) else need blocks units rest (at (lim + added)) q) e

      on : (lim' : ℕ) (q' : List Answer) → Refilled (lim + added) q lim' q' → Refilled lim (refilled (more dropped added) ∷ q) lim' q'
      on lim' q' r = record { grows = omega (arith, r.grows); fewer = omega (arith, r.fewer); same = omega (arith, r.same) }

      from : Checked (lim + added) q buffer.closed → Checked lim (refilled (more dropped added) ∷ q) buffer.closed
      from (has q' buffer' lim' b r units_there same is) =
          has q' buffer' lim' b (on lim' q' r) units_there (λ z. absurd (true≢false (sym z ∙ h.legal.0.0))) (goes ∙ is)
      from (short lim' whole few is) = short lim' whole few (goes ∙ is)
      from (no_answer m is) = no_answer m (goes ∙ is)
      from (was_left fs q' buffer' lim' b r few unclosed is) = was_left fs q' buffer' lim' b (on lim' (left fs ∷ q') r) few unclosed (goes ∙ is)

      by : (t : Bool) → nat_le units (lim + added - cur) ≡ t → (nat_le units (lim + added - cur) ≡ false → Checked (lim + added) q buffer.closed)
          → Checked lim (refilled (more dropped added) ∷ q) buffer.closed
      by true z again = from (has_here q (after_refill buffer (more dropped added)) (lim + added) after z)
      by false z again = from (again z)

  pub check_run : (q : List Answer) (buffer : Buffer) (lim : ℕ) → Buffered len start states lim q buffer → Checked lim q buffer.closed
  check_run q buffer lim h = by (nat_le units (lim - cur)) refl
    where
      by : (t : Bool) → nat_le units (lim - cur) ≡ t → Checked lim q buffer.closed
      by true e = has_here q buffer lim h e
      by false e = asks q buffer lim h e
