-- A claim on the rest of a run, with a bound on the steps so far, and how it is carried over stretches of a run.
use Rattle.std.specs.Prelude.{◌≡◌, ℕ, suc, ◌+◌, ◌-◌, ◌*◌, ◌<◌, ◌≤◌, List, refl}
use Rattle.std.proofs.Common.{sym, ap, subst, arith, mul-le-mul_left}
use Rattle.lx_ccode.specs.declared.piece.Piece.{Piece}
use Rattle.lx_ccode.specs.declared.piece.Stmt.{Stmt}
use Rattle.lx_ccode.specs.Machine.{Answer, Machine, units_of_answers}
use Rattle.lx_ccode.specs.Runs.{Ended, loop_count, run}
use Rattle.lx_ccode.specs.Statements.{statement_count}
use Rattle.lx_layout.proofs.Runs.PartialRuns.{EndsIn, LeadsIn, loop_count-mono}

-- the counts of steps in a piece of n statements, where a units stand from the start to the cursor and b to the limit
steps_within : (n a b k j : ℕ) → a ≤ b → 0 < n → k ≤ n * (a + b) → j ≤ n → k + j < 2 * (b + 2) * n
steps_within n a b k j le some before here = let m = mul-le-mul_left n le in omega (arith, m)

last_steps_within : (n a b k j : ℕ) → a ≤ b → k ≤ n * (a + b) → j < 4 * n → k + j < 2 * (b + 2) * n
last_steps_within n a b k j le before here = let m = mul-le-mul_left n le in omega (arith, m)

steps_on : (n a b a' b' k j : ℕ) → a + b < a' + b' → k ≤ n * (a + b) → j ≤ n → k + j ≤ n * (a' + b')
steps_on n a b a' b' k j lt before here =
    let le : suc (a + b) ≤ a' + b' = lt in
    let m = mul-le-mul_left n le in
    let e : n * suc (a + b) ≡ n * (a + b) + n = omega arith in
    omega (arith, m, e)

module _ (p : Piece) (x : List ℕ) (start : ℕ) where
  -- The run tells what is claimed, if so far it made at most as many steps as the piece has statements for each of the units that it passed,
  -- and for each of those from the start to the limit.
  pub record Claim (passed lim : ℕ) (b : List Stmt) (m : Machine) (q : List Answer) (Told : Ended → Type 0) : Type 0 where
    pub holds : (k f : ℕ) → k ≤ statement_count p.blocks * (passed + (lim - start)) → loop_count p start (lim + units_of_answers q) ≤ f + k
        → Told (run p x start f k b m q)

  -- over a stretch with no more steps than the piece has statements, which passes a unit or adds one
  pub carry : {n passed lim passed' lim' : ℕ} {b b' : List Stmt} {m m' : Machine} {q q' : List Answer} {Told : Ended → Type 0}
      → LeadsIn p x start n b m q b' m' q' → n ≤ statement_count p.blocks → m.limit ≡ lim → passed ≤ lim - start → 0 < statement_count p.blocks
      → passed + (lim - start) < passed' + (lim' - start) → lim' + units_of_answers q' ≡ lim + units_of_answers q
      → Claim passed' lim' b' m' q' Told → Claim passed lim b m q Told
  carry {n} {passed} {lim} {passed'} {lim'} {b} {b'} {m} {m'} {q} {q'} {Told} h hn at_limit le some lt same claim = record {
    holds = λ k f before fuel.
        let j : ℕ = h.steps in
        let few : j ≤ statement_count p.blocks = omega (arith, h.few, hn) in
        let within : k + j < loop_count p start lim = steps_within (statement_count p.blocks) passed (lim - start) k j le some before few in
        let mono = loop_count-mono p x start lim (lim + units_of_answers q) (omega arith) in
        let here : loop_count p start lim ≡ loop_count p start m.limit = ap (λ l. loop_count p start l) (sym at_limit) in
        let f1 : ℕ = f - j in
        let led = h.leads.by f1 f k (k + j) (omega (arith, within, mono)) refl (omega (arith, within, here)) in
        let after = steps_on (statement_count p.blocks) passed (lim - start) passed' (lim' - start) k j lt before few in
        let last : loop_count p start (lim' + units_of_answers q') ≡ loop_count p start (lim + units_of_answers q) =
        ap (λ l. loop_count p start l) same in
        subst (λ e. Told e) (sym led) (claim.holds (k + j) f1 after (omega (arith, within, mono, last)));
  }

  -- over the last stretch
  pub ends_so : {passed lim : ℕ} {b : List Stmt} {m : Machine} {q : List Answer} {e : Ended} {Told : Ended → Type 0}
      → EndsIn p x start (4 * statement_count p.blocks) b m q e → m.limit ≡ lim → passed ≤ lim - start → Told e → Claim passed lim b m q Told
  ends_so {passed} {lim} {b} {m} {q} {e} {Told} h at_limit le told = record {
    holds = λ k f before fuel.
        let j : ℕ = h.steps in
        let within : k + j < loop_count p start lim = last_steps_within (statement_count p.blocks) passed (lim - start) k j le before h.few in
        let mono = loop_count-mono p x start lim (lim + units_of_answers q) (omega arith) in
        let here : loop_count p start lim ≡ loop_count p start m.limit = ap (λ l. loop_count p start l) (sym at_limit) in
        subst (λ e. Told e) (sym (h.ends.by (f - suc j) f k (omega (arith, within, mono)) (omega (arith, within, here)))) told;
  }
