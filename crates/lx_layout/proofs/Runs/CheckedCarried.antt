-- The piece of `"ab"` that checks for its units carries its automaton, which its blocks serve.
use Rattle.std.specs.Prelude.{◌≡◌, ◌⊎◌, ℕ, zero, suc, ◌<◌, Bool, true, false, List, [], ◌∷◌, Option, Some, None, nat_le, ◌&&◌, refl, if◌then◌else◌}
use Rattle.std.proofs.Common.{sym, ap, ◌∙◌, subst, arith, inl, inr, le-leb, leb-true, leb-false}
use Rattle.std.proofs.lemmas.Bool.{lt-leb}
use Rattle.std.specs.List.{AllByRecursion}
use Rattle.lx_auto.specs.Automaton.{IsAuto, edge_on, state_of}
use Rattle.lx_auto.specs.declared.automaton.Accept.{Accept as Accepted}
use Rattle.lx_auto.specs.declared.automaton.Edge.{Edge}
use Rattle.lx_base.specs.Names.{Spellings}
use Rattle.lx_ccode.specs.declared.piece.Piece.{Piece}
use Rattle.lx_ccode.specs.declared.piece.Stmt.{Stmt}
use Rattle.lx_ccode.specs.declared.piece.Stmt.TheVariants.{Code, Goto, Leave, Peek, Skip}
use Rattle.lx_ccode.specs.Machine.{code_at, is_among}
use Rattle.lx_ccode.specs.Scanners.{IsMadeBy, StandsIn}
use Rattle.lx_ccode.specs.Statements.{code_of}
use Rattle.lx_ccode.specs.Traces.{is_peek}
use Rattle.lx_ccode.proofs.TraceSteps.{All-made, NeverStands}
use Rattle.lx_layout.specs.CarriedExamples.{both, checked_piece}
use Rattle.lx_layout.specs.Carries.{Carries, HasEdge, NamesItsOwn}
use Rattle.lx_layout.specs.Endings.{ending_code}
use Rattle.lx_layout.specs.Examples.{untagged}
use Rattle.lx_layout.specs.Halting.{Halting, is_saved}
use Rattle.lx_layout.specs.Supplied.{HasCode, IsTarget, Serves, ServesState, by_tests, ends, reads}
use Rattle.lx_layout.specs.Supplies.{Supply}
use Rattle.lx_dispatch.specs.TestTrees.{TestTree, at_most, leaf, picked, test}
use Rattle.lx_layout.proofs.Carrying.SuppliedCarried.{supplied_carries}
use Rattle.lx_layout.proofs.Runs.CarriedSteps.{nothing_named}
use Rattle.lx_base.specs.declared.settings.Format.TheVariants.{Two}

abbrev place : ℕ → ℕ
place zero = 0
place (suc zero) = 2
place (suc (suc number)) = 5

abbrev saved : Option (ℕ → ℕ)
saved = Some (λ number. 1)

-- a match can end in each state, and falls back from the first two
abbrev halting : Halting
halting = record { halts = λ number. true; falls = falls; format = Two }
  where
    falls : ℕ → Bool
    falls zero = true
    falls (suc zero) = true
    falls (suc (suc number)) = false

-- the end of the rule
abbrev rules : ℕ → ℕ
rules rule = 5

-- state 0 checks for both units
abbrev checked : ℕ → ℕ
checked zero = 2
checked (suc number) = 0

abbrev supply : Supply
supply = record { eof = None; tries = false; check = checked; stored = Some (λ reader. 0); among = is_among [] }

abbrev to_second : Edge
to_second = record { lo = 97; hi = 97; ops = []; to = 1 }

abbrev to_last : Edge
to_last = record { lo = 98; hi = 98; ops = []; to = 2 }

abbrev by_last : Accepted
by_last = record { rule = 1; ops = []; values = [] }

formed : IsAuto both
formed = record {
  start = omega arith;
  few = omega arith;
  few_regs = omega arith;
  few_mregs = omega arith;
  states = (
    record { apart = (omega arith, omega arith, tt); lead = (omega arith, tt, tt); accept = tt; leave = tt },
    (
      record { apart = (omega arith, omega arith, tt); lead = (omega arith, tt, tt); accept = tt; leave = tt },
      (record { apart = tt; lead = tt; accept = (tt, tt); leave = tt }, tt),
    ),
  );
}

edges_there : (number : ℕ) → number < 2 → HasEdge both number
edges_there zero lt none = absurd cc
edges_there (suc zero) lt none = absurd cc
edges_there (suc (suc number)) lt none = omega (arith, lt)

-- which edge is on a unit
low_first : (unit : ℕ) → nat_le unit 96 ≡ true → edge_on (state_of both.states 0).edges unit ≡ None
low_first unit low =
    let le = leb-true unit 96 low in
    ap (λ t. if t && nat_le unit 97 then Some to_second else None) (lt-leb 97 unit (omega (arith, le)))

high_first : (unit : ℕ) (high : Bool) → nat_le unit 96 ≡ false → nat_le unit 97 ≡ high
    → edge_on (state_of both.states 0).edges unit ≡ (if high then Some to_second else None)
high_first unit high low is =
    let lt = leb-false unit 96 low in
    ap (λ t. if t && nat_le unit 97 then Some to_second else None) (le-leb 97 unit (omega (arith, lt)))
    ∙ ap (λ t. if t then Some to_second else None) is

low_second : (unit : ℕ) → nat_le unit 97 ≡ true → edge_on (state_of both.states 1).edges unit ≡ None
low_second unit low =
    let le = leb-true unit 97 low in
    ap (λ t. if t && nat_le unit 98 then Some to_last else None) (lt-leb 98 unit (omega (arith, le)))

high_second : (unit : ℕ) (high : Bool) → nat_le unit 97 ≡ false → nat_le unit 98 ≡ high
    → edge_on (state_of both.states 1).edges unit ≡ (if high then Some to_last else None)
high_second unit high low is =
    let lt = leb-false unit 97 low in
    ap (λ t. if t && nat_le unit 98 then Some to_last else None) (le-leb 98 unit (omega (arith, lt)))
    ∙ ap (λ t. if t then Some to_last else None) is

module _ (names : Spellings) where
  abbrev p : Piece
  p = checked_piece names

  abbrev Has : ℕ → List Stmt → Type 0
  Has block code = HasCode supply halting untagged 255 both (code_of p.blocks) place saved rules 4 block code

  abbrev Target : ℕ → Option Edge → ℕ → Type 0
  Target number o block = IsTarget supply halting untagged 255 both (code_of p.blocks) place saved rules 4 number (state_of both.states number) o block

  -- ---- what the blocks serve

  abbrev first_tree : TestTree ℕ
  first_tree = test (at_most 96) 4 (test (at_most 97) 1 (leaf 4))

  abbrev second_tree : TestTree ℕ
  second_tree = test (at_most 97) 4 (test (at_most 98) 3 (leaf 4))

  first_leads : (unit : ℕ) → Target 0 (edge_on (state_of both.states 0).edges unit) (picked supply.among first_tree unit)
  first_leads unit = by (nat_le unit 96) (nat_le unit 97) refl refl where
    on_a : (high : Bool) → Target 0 (if high then Some to_second else None) (if high then 1 else 4)
    on_a true = refl
    on_a false = (refl, refl)

    by : (low high : Bool) → nat_le unit 96 ≡ low → nat_le unit 97 ≡ high
        → Target 0 (edge_on (state_of both.states 0).edges unit) (if low then 4 else (if high then 1 else 4))
    by true high is_low is_high = subst (λ o. Target 0 o 4) (sym (low_first unit is_low)) (refl, refl)
    by false high low is_high = subst (λ o. Target 0 o (if high then 1 else 4)) (sym (high_first unit high low is_high)) (on_a high)

  second_leads : (unit : ℕ) → Target 1 (edge_on (state_of both.states 1).edges unit) (picked supply.among second_tree unit)
  second_leads unit = by (nat_le unit 97) (nat_le unit 98) refl refl where
    on_b : (high : Bool) → Target 1 (if high then Some to_last else None) (if high then 3 else 4)
    on_b true = refl
    on_b false = (refl, refl)

    by : (low high : Bool) → nat_le unit 97 ≡ low → nat_le unit 98 ≡ high
        → Target 1 (edge_on (state_of both.states 1).edges unit) (if low then 4 else (if high then 3 else 4))
    by true high is_low is_high = subst (λ o. Target 1 o 4) (sym (low_second unit is_low)) (refl, refl)
    by false high low is_high = subst (λ o. Target 1 o (if high then 3 else 4)) (sym (high_second unit high low is_high)) (on_b high)

  states_serve : (number : ℕ) → number < 3
      → ServesState supply halting untagged 255 both (code_of p.blocks) place saved rules 4 number (state_of both.states number)
  states_serve zero lt = reads (edges_there 0 (omega arith)) (by_tests refl first_tree 0 refl tt (λ unit within. first_leads unit))
  states_serve (suc zero) lt = reads (edges_there 1 (omega arith)) (by_tests refl second_tree 0 refl tt (λ unit within. second_leads unit))
  states_serve (suc (suc zero)) lt = ends refl (refl, inr (refl, refl))
  states_serve (suc (suc (suc number))) lt = absurd (omega (arith, lt))

  -- no match falls back to a state
  none_saved : (number : ℕ) → number < 3 → is_saved halting (state_of both.states number) ≡ true → ⊥
  none_saved zero lt is = cc
  none_saved (suc zero) lt is = cc
  none_saved (suc (suc zero)) lt is = cc
  none_saved (suc (suc (suc number))) lt is = omega (arith, lt)

  -- from the states that do not accept, and from no other one, a match falls back
  falls_there : (number : ℕ) → number < 3 → (state_of both.states number).accept ≡ None → halting.falls number ≡ true
  falls_there zero lt none = refl
  falls_there (suc zero) lt none = refl
  falls_there (suc (suc zero)) lt none = absurd cc
  falls_there (suc (suc (suc number))) lt none = absurd (omega (arith, lt))

  bare_there : (number : ℕ) → halting.falls number ≡ true → (state_of both.states number).accept ≡ None
  bare_there zero falls = refl
  bare_there (suc zero) falls = refl
  bare_there (suc (suc number)) falls = absurd cc

  rule_stands : (number : ℕ) (accept : Accepted) → number < 3 → (state_of both.states number).accept ≡ Some accept
      → Has (rules accept.rule) (ending_code untagged accept.rule accept.values)
  rule_stands zero accept lt e = absurd cc
  rule_stands (suc zero) accept lt e = absurd cc
  rule_stands (suc (suc zero)) accept lt e =
      let same : by_last ≡ accept = cc in
      subst (λ (accept : Accepted). Has (rules accept.rule) (ending_code untagged accept.rule accept.values)) same refl
  rule_stands (suc (suc (suc number))) accept lt e = absurd (omega (arith, lt))

  serves : Serves supply halting untagged 255 both (code_of p.blocks) place saved rules 4 None
  serves = record {
    states = λ number lt entered. states_serve number lt;
    choices = [];
    falls = λ number lt none halts. falls_there number lt none;
    onward = λ number edge lt none has falls. falls_there number lt none;
    bare = λ number lt falls. bare_there number falls;
    fallback = λ number lt falls. refl;
    none = λ falls. refl;
    restores = λ number accept lt is e. absurd (none_saved number lt is);
    ends = λ number accept lt e ended. rule_stands number accept lt e;
  }

  -- ---- the blocks and statements of the scanner

  apart : (number other : ℕ) → HasEdge both number → HasEdge both other → place number ≡ place other → number ≡ other
  apart zero zero has too same = refl
  apart zero (suc zero) has too same = absurd (omega (arith, same))
  apart zero (suc (suc other)) has too same = absurd (omega (arith, same))
  apart (suc zero) zero has too same = absurd (omega (arith, same))
  apart (suc zero) (suc zero) has too same = refl
  apart (suc zero) (suc (suc other)) has too same = absurd (omega (arith, same))
  apart (suc (suc zero)) other has too same = absurd (has refl)
  apart (suc (suc (suc number))) other has too same = absurd (has refl)

  never_stands : (block : ℕ) (code : List Stmt) → code_at p.blocks (Some block) ≡ Some code → AllByRecursion (λ s. is_peek s ≡ false) code
      → StandsIn p.blocks block Peek → ⊥
  never_stands block code at quiet stands = NeverStands p.blocks block Peek code at (λ s. is_peek s ≡ false) quiet stands (λ e. absurd cc)

  peeks : (block : ℕ) → StandsIn p.blocks block Peek → (block ≡ 0) ⊎ ((number : ℕ) × HasEdge both number × (place number ≡ block))
  peeks zero stands = inl refl
  peeks (suc zero) stands = absurd (never_stands 1 (Skip ∷ Goto 2 ∷ []) refl (refl, (refl, tt)) stands)
  peeks (suc (suc zero)) stands = inr (1, edges_there 1 (omega arith), refl)
  peeks (suc (suc (suc zero))) stands = absurd (never_stands 3 (Skip ∷ Goto 5 ∷ []) refl (refl, (refl, tt)) stands)
  peeks (suc (suc (suc (suc zero)))) stands = absurd (never_stands 4 (Leave ∷ []) refl (refl, tt) stands)
  peeks (suc (suc (suc (suc (suc zero))))) stands = absurd (never_stands 5 (Code 1 None (97 ∷ []) ∷ []) refl (refl, tt) stands)
  peeks (suc (suc (suc (suc (suc (suc block)))))) stands = let none = stands.1 in absurd cc

  -- no statement names a register
  own : (statement : Stmt) → IsMadeBy p.blocks 0 statement → NamesItsOwn both statement
  own statement made =
      All-made (NamesItsOwn both) p.blocks 0 statement
      (nothing_named _ refl refl refl, (nothing_named _ refl refl refl, (nothing_named _ refl refl refl, (nothing_named _ refl refl refl, (nothing_named _ refl refl refl, (nothing_named _ refl refl refl, (nothing_named _ refl refl refl, (nothing_named _ refl refl refl, (nothing_named _ refl refl refl, (nothing_named _ refl refl refl, (nothing_named _ refl refl refl, (nothing_named _ refl refl refl, (nothing_named _ refl refl refl, (nothing_named _ refl refl refl, (nothing_named _ refl refl refl, (nothing_named _ refl refl refl, tt))))))))))))))))
      made

  pub checked_carried : Carries (checked_piece names) 0 untagged both
  checked_carried =
      supplied_carries supply halting untagged 255 both p place saved rules 4 None 0 serves refl formed (λ set unit. refl) (λ unit lt. omega (arith, lt)) apart
      (λ block of stands. peeks block stands) own
