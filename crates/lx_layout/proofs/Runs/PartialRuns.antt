-- Stretches of a run: from one place to another, or to the end, with the count of the steps.
use Rattle.std.specs.Prelude.{◌≡◌, ℕ, suc, ◌+◌, ◌-◌, ◌*◌, ◌<◌, ◌≤◌, List, ◌∷◌, false, nat_le, refl}
use Rattle.std.proofs.Common.{sym, ap, ◌∙◌, arith, mul-le-mul_right}
use Rattle.std.proofs.lemmas.Bool.{lt-leb}
use Rattle.lx_ccode.specs.declared.piece.Stmt.{Stmt}
use Rattle.lx_ccode.specs.declared.piece.Piece.{Piece}
use Rattle.lx_ccode.specs.Machine.{Machine, Answer, Outcome, goes_on, ends, step}
use Rattle.lx_ccode.specs.Runs.{Ended, ended, loop_count, unless_looped, gone_on, run}
use Rattle.lx_ccode.specs.Statements.{statement_count}

module _ (p : Piece) (x : List ℕ) (start : ℕ) where
  pub loop_count-mono : (l l' : ℕ) → l ≤ l' → loop_count p start l ≤ loop_count p start l'
  loop_count-mono l l' h =
      let k : 2 * ((l - start) + 2) ≤ 2 * ((l' - start) + 2) = omega arith in
      mul-le-mul_right (statement_count p.blocks) k

  -- so many steps lead from here to there, and none of them is the last one before a loop
  pub record Leads (j : ℕ) (b : List Stmt) (m : Machine) (q : List Answer) (b' : List Stmt) (m' : Machine) (q' : List Answer) : Type 0 where
    pub grows : m.limit ≤ m'.limit
    pub by : (f f' k k' : ℕ) → f' ≡ f + j → k' ≡ k + j → k' < loop_count p start m.limit → run p x start f' k b m q ≡ run p x start f k' b' m' q'

  -- so many steps, and one more that ends
  pub record Ends (j : ℕ) (b : List Stmt) (m : Machine) (q : List Answer) (e : Ended) : Type 0 where
    pub by : (f f' k : ℕ) → f' ≡ suc (f + j) → k + j < loop_count p start m.limit → run p x start f' k b m q ≡ e

  pub stays : (b : List Stmt) (m : Machine) (q : List Answer) → Leads 0 b m q b m q
  stays b m q = record {
    grows = omega arith;
    by = λ f f' k k' e g lt.
        let e' : f' ≡ f = omega arith in
        let g' : k ≡ k' = omega arith in
        ap (λ n. run p x start n k b m q) e' ∙ ap (λ n. run p x start f n b m q) g';
  }

  pub goes_step : {s : Stmt} {b b' : List Stmt} {m m' : Machine} {q q' : List Answer} → step p x s b m q ≡ goes_on b' m' q' → m.limit ≤ m'.limit
      → Leads 1 (s ∷ b) m q b' m' q'
  goes_step {s} {b} {b'} {m} {m'} {q} {q'} e le = record {
    grows = le;
    by = λ f f' k k' ef ek lt.
        let g : f' ≡ suc f = omega arith in
        let h : k' ≡ suc k = omega arith in
        let mono = loop_count-mono m.limit m'.limit le in
        let lt' : k' < loop_count p start m'.limit = omega (arith, mono) in
        let t : nat_le (loop_count p start m'.limit) k' ≡ false = lt-leb (loop_count p start m'.limit) k' lt' in
        ap (λ n. run p x start n k (s ∷ b) m q) g
        ∙ ap (λ n. gone_on p x start n (run p x start f n) (step p x s b m q)) (sym h)
        ∙ ap (λ n. gone_on p x start k' (run p x start f k') n) e
        ∙ ap (λ t. unless_looped p x start t (run p x start f k') b' m' q') t;
  }

  pub ends_step : {s : Stmt} {b : List Stmt} {m m' : Machine} {q : List Answer} {o : Outcome} → step p x s b m q ≡ ends o m'
      → Ends 0 (s ∷ b) m q (ended o m')
  ends_step {s} {b} {m} {m'} {q} {o} e = record {
    by = λ f f' k ef lt.
        let g : f' ≡ suc f = omega arith in
        ap (λ n. run p x start n k (s ∷ b) m q) g ∙ ap (λ n. gone_on p x start (suc k) (run p x start f (suc k)) n) e;
  }

  pub leads_on : {i j : ℕ} {b b1 b2 : List Stmt} {m m1 m2 : Machine} {q q1 q2 : List Answer} → Leads i b m q b1 m1 q1 → Leads j b1 m1 q1 b2 m2 q2
      → Leads (i + j) b m q b2 m2 q2
  leads_on {i} {j} {b} {b1} {b2} {m} {m1} {m2} {q} {q1} {q2} h g = record {
    grows = omega (arith, h.grows, g.grows);
    by = λ f f' k k' ef ek lt.
        let mono = loop_count-mono m.limit m1.limit h.grows in
        h.by (f + j) f' k (k + i) (omega arith) refl (omega arith) ∙ g.by f (f + j) (k + i) k' refl (omega arith) (omega (arith, mono));
  }

  pub leads_end : {i j : ℕ} {b b1 : List Stmt} {m m1 : Machine} {q q1 : List Answer} {e : Ended} → Leads i b m q b1 m1 q1 → Ends j b1 m1 q1 e
      → Ends (i + j) b m q e
  leads_end {i} {j} {b} {b1} {m} {m1} {q} {q1} h g = record {
    by = λ f f' k ef lt.
        let mono = loop_count-mono m.limit m1.limit h.grows in
        h.by (suc (f + j)) f' k (k + i) (omega arith) refl (omega arith) ∙ g.by f (suc (f + j)) (k + i) refl (omega (arith, mono));
  }

  -- in at most so many steps
  pub record LeadsIn (n : ℕ) (b : List Stmt) (m : Machine) (q : List Answer) (b' : List Stmt) (m' : Machine) (q' : List Answer) : Type 0 where
    pub steps : ℕ
    pub few : steps ≤ n
    pub leads : Leads steps b m q b' m' q'

  -- in at most so many steps with the one that ends
  pub record EndsIn (n : ℕ) (b : List Stmt) (m : Machine) (q : List Answer) (e : Ended) : Type 0 where
    pub steps : ℕ
    pub few : steps < n
    pub ends : Ends steps b m q e

  pub stays_in : (n : ℕ) (b : List Stmt) (m : Machine) (q : List Answer) → LeadsIn n b m q b m q
  stays_in n b m q = record { steps = 0; few = omega arith; leads = stays b m q }

  pub step_in : {s : Stmt} {b b' : List Stmt} {m m' : Machine} {q q' : List Answer} → step p x s b m q ≡ goes_on b' m' q' → m.limit ≤ m'.limit
      → LeadsIn 1 (s ∷ b) m q b' m' q'
  step_in e le = record { steps = 1; few = omega arith; leads = goes_step e le }

  pub last_in : {s : Stmt} {b : List Stmt} {m m' : Machine} {q : List Answer} {o : Outcome} → step p x s b m q ≡ ends o m'
      → EndsIn 1 (s ∷ b) m q (ended o m')
  last_in e = record { steps = 0; few = omega arith; ends = ends_step e }

  pub then_in : {i j : ℕ} (n : ℕ) {b b1 b2 : List Stmt} {m m1 m2 : Machine} {q q1 q2 : List Answer} → LeadsIn i b m q b1 m1 q1
      → LeadsIn j b1 m1 q1 b2 m2 q2 → i + j ≤ n → LeadsIn n b m q b2 m2 q2
  then_in n h g le = record { steps = h.steps + g.steps; few = omega (arith, h.few, g.few); leads = leads_on h.leads g.leads }

  pub end_in : {i j : ℕ} (n : ℕ) {b b1 : List Stmt} {m m1 : Machine} {q q1 : List Answer} {e : Ended} → LeadsIn i b m q b1 m1 q1 → EndsIn j b1 m1 q1 e
      → i + j ≤ n → EndsIn n b m q e
  end_in n h g le = record { steps = h.steps + g.steps; few = omega (arith, h.few, g.few); ends = leads_end h.leads g.ends }

  pub widen : {i : ℕ} (n : ℕ) {b b' : List Stmt} {m m' : Machine} {q q' : List Answer} → LeadsIn i b m q b' m' q' → i ≤ n → LeadsIn n b m q b' m' q'
  widen n h le = record { steps = h.steps; few = omega (arith, h.few); leads = h.leads }

  pub widen_end : {i : ℕ} (n : ℕ) {b : List Stmt} {m : Machine} {q : List Answer} {e : Ended} → EndsIn i b m q e → i ≤ n → EndsIn n b m q e
  widen_end n h le = record { steps = h.steps; few = omega (arith, h.few); ends = h.ends }
