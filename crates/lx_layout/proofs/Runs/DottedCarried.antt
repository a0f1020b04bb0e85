-- The piece of `[a-cx-z] ("." [a-cx-z])* @t` carries its automaton, which its blocks serve.
use Rattle.std.specs.Prelude.{◌≡◌, ◌⊎◌, ℕ, zero, suc, ◌<◌, Bool, true, false, List, [], ◌∷◌, Option, Some, None, nat_le, ◌&&◌, refl, if◌then◌else◌}
use Rattle.std.proofs.Common.{sym, ap, ◌∙◌, subst, arith, inl, inr, le-leb, leb-true, leb-false}
use Rattle.std.proofs.lemmas.Bool.{lt-leb}
use Rattle.std.specs.List.{AllByRecursion}
use Rattle.lx_auto.specs.Automaton.{IsAuto, edge_on, state_of}
use Rattle.lx_auto.specs.Examples.{dotted}
use Rattle.lx_auto.specs.declared.automaton.Accept.{Accept as Accepted}
use Rattle.lx_auto.specs.declared.automaton.Edge.{Edge}
use Rattle.lx_auto.specs.declared.automaton.Held.TheVariants.{Reg}
use Rattle.lx_auto.specs.declared.ops.Op.TheVariants.{Here}
use Rattle.lx_base.specs.Names.{Spellings}
use Rattle.lx_ccode.specs.declared.piece.Piece.{Piece}
use Rattle.lx_ccode.specs.declared.piece.Stmt.{Stmt}
use Rattle.lx_ccode.specs.declared.piece.Stmt.TheVariants.{Accept, Backup, Code, Goto, IfAccept, IfUnit, Leave, Peek, Restore, Set, Skip, Tag}
use Rattle.lx_ccode.specs.Machine.{code_at}
use Rattle.lx_ccode.specs.Scanners.{IsMadeBy, StandsIn}
use Rattle.lx_ccode.specs.Statements.{code_of}
use Rattle.lx_ccode.specs.Traces.{is_peek}
use Rattle.lx_ccode.proofs.TraceSteps.{All-made, NeverStands}
use Rattle.lx_layout.specs.Carries.{Carries, HasEdge, NamesItsOwn}
use Rattle.lx_layout.specs.Endings.{ending_code}
use Rattle.lx_layout.specs.Examples.{bytes_piece, dotted_blocks, tagged}
use Rattle.lx_layout.specs.Halting.{Halting}
use Rattle.lx_layout.specs.Supplied.{HasCode, IsTarget, Serves, ServesState, by_tests, reads}
use Rattle.lx_layout.specs.Supplies.{plain_supply}
use Rattle.lx_dispatch.specs.TestTrees.{TestTree, at_most, fork, leaf, picked, test}
use Rattle.lx_layout.proofs.Carrying.SuppliedCarried.{supplied_carries}
use Rattle.lx_layout.proofs.Runs.CarriedSteps.{first_named, nothing_named}
use Rattle.lx_base.specs.declared.settings.Format.TheVariants.{Two}
use Rattle.lx_layout.specs.Fallback.{chosen}

abbrev place : ℕ → ℕ
place zero = 0
place (suc number) = 3

abbrev saved : Option (ℕ → ℕ)
saved = Some (λ number. 1)

-- a match can end in both states, and falls back from the first one
abbrev halting : Halting
halting = record { halts = λ number. true; falls = falls; format = Two }
  where
    falls : ℕ → Bool
    falls zero = true
    falls (suc number) = false

-- the end of the rule
abbrev rules : ℕ → ℕ
rules rule = 8

abbrev by_tag : Accepted
by_tag = record { rule = 1; ops = Here 0 ∷ []; values = Reg 0 ∷ [] }

abbrev low_edge : Edge
low_edge = record { lo = 97; hi = 99; ops = []; to = 1 }

abbrev high_edge : Edge
high_edge = record { lo = 120; hi = 122; ops = []; to = 1 }

abbrev dot_edge : Edge
dot_edge = record { lo = 46; hi = 46; ops = []; to = 0 }

formed : IsAuto dotted
formed = record {
  start = omega arith;
  few = omega arith;
  few_regs = omega arith;
  few_mregs = omega arith;
  states = (
    record {
      apart = (omega arith, omega arith, (omega arith, omega arith, tt));
      lead = (omega arith, tt, (omega arith, tt, tt));
      accept = tt;
      leave = tt;
    },
    (
      record {
        apart = (omega arith, omega arith, tt);
        lead = (omega arith, tt, tt);
        accept = ((omega arith, tt), (omega arith, tt));
        leave = (omega arith, tt);
      },
      tt,
    ),
  );
}

-- which edge is on a unit of state 0, by the tests against the bounds of both edges
abbrev first_edge : (a b c d : Bool) → Option Edge
first_edge a b c d = if a && b then Some low_edge else (if c && d then Some high_edge else None)

on_first : (unit : ℕ) (a b c d : Bool) → nat_le 97 unit ≡ a → nat_le unit 99 ≡ b → nat_le 120 unit ≡ c → nat_le unit 122 ≡ d
    → edge_on (state_of dotted.states 0).edges unit ≡ first_edge a b c d
on_first unit a b c d is_a is_b is_c is_d =
    ap (λ t. first_edge t (nat_le unit 99) (nat_le 120 unit) (nat_le unit 122)) is_a
    ∙ ap (λ t. first_edge a t (nat_le 120 unit) (nat_le unit 122)) is_b
    ∙ ap (λ t. first_edge a b t (nat_le unit 122)) is_c
    ∙ ap (λ t. first_edge a b c t) is_d

low_last : (unit : ℕ) → nat_le unit 45 ≡ true → edge_on (state_of dotted.states 1).edges unit ≡ None
low_last unit low =
    let le = leb-true unit 45 low in
    ap (λ t. if t && nat_le unit 46 then Some dot_edge else None) (lt-leb 46 unit (omega (arith, le)))

on_last : (unit : ℕ) (high : Bool) → nat_le unit 45 ≡ false → nat_le unit 46 ≡ high
    → edge_on (state_of dotted.states 1).edges unit ≡ (if high then Some dot_edge else None)
on_last unit high low is =
    let lt = leb-false unit 45 low in
    ap (λ t. if t && nat_le unit 46 then Some dot_edge else None) (le-leb 46 unit (omega (arith, lt)))
    ∙ ap (λ t. if t then Some dot_edge else None) is

edges_there : (number : ℕ) → number < 2 → HasEdge dotted number
edges_there zero lt none = absurd cc
edges_there (suc zero) lt none = absurd cc
edges_there (suc (suc number)) lt none = omega (arith, lt)

module _ (names : Spellings) where
  abbrev p : Piece
  p = bytes_piece names dotted_blocks

  abbrev Has : ℕ → List Stmt → Type 0
  Has block code = HasCode plain_supply halting tagged 255 dotted (code_of p.blocks) place saved rules 6 block code

  abbrev Target : ℕ → Option Edge → ℕ → Type 0
  Target number o block = IsTarget plain_supply halting tagged 255 dotted (code_of p.blocks) place saved rules 6 number (state_of dotted.states number) o block

  -- ---- what the blocks serve

  abbrev first_tree : TestTree ℕ
  first_tree = test (at_most 96) 6 (fork (at_most 119) (test (at_most 99) 2 (leaf 6)) (test (at_most 122) 2 (leaf 6)))

  abbrev second_tree : TestTree ℕ
  second_tree = test (at_most 45) 5 (test (at_most 46) 4 (leaf 5))

  first_leads : (unit : ℕ) → Target 0 (edge_on (state_of dotted.states 0).edges unit) (picked plain_supply.among first_tree unit)
  first_leads unit = by (nat_le unit 96) (nat_le unit 119) (nat_le unit 99) (nat_le unit 122) refl refl refl refl where
    -- the edge by its bounds, and the block
    goes_by : (a b c d : Bool) (block : ℕ) → nat_le 97 unit ≡ a → nat_le unit 99 ≡ b → nat_le 120 unit ≡ c → nat_le unit 122 ≡ d
        → Target 0 (first_edge a b c d) block → Target 0 (edge_on (state_of dotted.states 0).edges unit) block
    goes_by a b c d block is_a is_b is_c is_d target = subst (λ o. Target 0 o block) (sym (on_first unit a b c d is_a is_b is_c is_d)) target

    by : (low upper middle top : Bool) → nat_le unit 96 ≡ low → nat_le unit 119 ≡ upper → nat_le unit 99 ≡ middle → nat_le unit 122 ≡ top
        → Target 0 (edge_on (state_of dotted.states 0).edges unit)
        (if low then 6 else (if upper then (if middle then 2 else 6) else (if top then 2 else 6)))
    by true upper middle top is_low is_upper is_middle is_top =
        let le = leb-true unit 96 is_low in
        goes_by false middle false top 6 (lt-leb 97 unit (omega (arith, le))) is_middle (lt-leb 120 unit (omega (arith, le))) is_top (refl, refl)
    by false true true top is_low is_upper is_middle is_top =
        let gt = leb-false unit 96 is_low in
        goes_by true true (nat_le 120 unit) top 2 (le-leb 97 unit (omega (arith, gt))) is_middle refl is_top refl
    by false true false top is_low is_upper is_middle is_top =
        let gt = leb-false unit 96 is_low in
        let le = leb-true unit 119 is_upper in
        goes_by true false false top 6 (le-leb 97 unit (omega (arith, gt))) is_middle (lt-leb 120 unit (omega (arith, le))) is_top (refl, refl)
    by false false middle true is_low is_upper is_middle is_top =
        let gt = leb-false unit 119 is_upper in
        goes_by true false true true 2 (le-leb 97 unit (omega (arith, gt))) (lt-leb unit 99 (omega (arith, gt))) (le-leb 120 unit (omega (arith, gt))) is_top
        refl
    by false false middle false is_low is_upper is_middle is_top =
        let gt = leb-false unit 119 is_upper in
        goes_by true false true false 6 (le-leb 97 unit (omega (arith, gt))) (lt-leb unit 99 (omega (arith, gt))) (le-leb 120 unit (omega (arith, gt))) is_top
        (refl, refl)

  second_leads : (unit : ℕ) → Target 1 (edge_on (state_of dotted.states 1).edges unit) (picked plain_supply.among second_tree unit)
  second_leads unit = by (nat_le unit 45) (nat_le unit 46) refl refl where
    on_dot : (high : Bool) → Target 1 (if high then Some dot_edge else None) (if high then 4 else 5)
    on_dot true = refl
    on_dot false = (refl, inl refl)

    by : (low high : Bool) → nat_le unit 45 ≡ low → nat_le unit 46 ≡ high
        → Target 1 (edge_on (state_of dotted.states 1).edges unit) (if low then 5 else (if high then 4 else 5))
    by true high is_low is_high = subst (λ o. Target 1 o 5) (sym (low_last unit is_low)) (refl, inl refl)
    by false high low is_high = subst (λ o. Target 1 o (if high then 4 else 5)) (sym (on_last unit high low is_high)) (on_dot high)

  states_serve : (number : ℕ) → number < 2
      → ServesState plain_supply halting tagged 255 dotted (code_of p.blocks) place saved rules 6 number (state_of dotted.states number)
  states_serve zero lt = reads (edges_there 0 lt) (by_tests refl first_tree 1 refl (refl, tt) (λ unit within. first_leads unit))
  states_serve (suc zero) lt = reads (edges_there 1 lt) (by_tests refl second_tree 0 refl tt (λ unit within. second_leads unit))
  states_serve (suc (suc number)) lt = absurd (omega (arith, lt))

  -- from the state that does not accept, and from no other one, a match falls back
  falls_there : (number : ℕ) → number < 2 → (state_of dotted.states number).accept ≡ None → halting.falls number ≡ true
  falls_there zero lt none = refl
  falls_there (suc zero) lt none = absurd cc
  falls_there (suc (suc number)) lt none = absurd (omega (arith, lt))

  bare_there : (number : ℕ) → halting.falls number ≡ true → (state_of dotted.states number).accept ≡ None
  bare_there zero falls = refl
  bare_there (suc number) falls = absurd cc

  rule_stands : (number : ℕ) (accept : Accepted) → (state_of dotted.states number).accept ≡ Some accept
      → Has (rules accept.rule) (ending_code tagged accept.rule accept.values)
  rule_stands zero accept e = absurd cc
  rule_stands (suc zero) accept e =
      let same : by_tag ≡ accept = cc in
      subst (λ (accept : Accepted). Has (rules accept.rule) (ending_code tagged accept.rule accept.values)) same refl
  rule_stands (suc (suc number)) accept e = absurd cc

  serves : Serves plain_supply halting tagged 255 dotted (code_of p.blocks) place saved rules 6 None
  serves = record {
    states = λ number lt entered. states_serve number lt;
    choices = record { saved = 1; block = 7 } ∷ [];
    falls = λ number lt none halts. falls_there number lt none;
    onward = λ number edge lt none has falls. falls_there number lt none;
    bare = λ number lt falls. bare_there number falls;
    fallback = λ number lt falls. refl;
    none = λ falls. refl;
    restores = λ number accept lt is e. (7, λ kept is_kept. ap (λ n. chosen true (record { saved = 1; block = 7 } ∷ []) n) is_kept, refl);
    ends = λ number accept lt e ended. rule_stands number accept e;
  }

  -- ---- the blocks and statements of the scanner

  apart : (number other : ℕ) → HasEdge dotted number → HasEdge dotted other → place number ≡ place other → number ≡ other
  apart zero zero has too same = refl
  apart zero (suc other) has too same = absurd (omega (arith, same))
  apart (suc number) zero has too same = absurd (omega (arith, same))
  apart (suc zero) (suc zero) has too same = refl
  apart (suc zero) (suc (suc other)) has too same = absurd (too refl)
  apart (suc (suc number)) (suc other) has too same = absurd (has refl)

  never : (block : ℕ) (code : List Stmt) → code_at p.blocks (Some block) ≡ Some code → AllByRecursion (λ s. is_peek s ≡ false) code
      → StandsIn p.blocks block Peek → ⊥
  never block code at quiet stands = NeverStands p.blocks block Peek code at (λ s. is_peek s ≡ false) quiet stands (λ e. absurd cc)

  peeks : (block : ℕ) → StandsIn p.blocks block Peek → (block ≡ 0) ⊎ ((number : ℕ) × HasEdge dotted number × (place number ≡ block))
  peeks zero stands = inl refl
  peeks (suc zero) stands = absurd (never 1 (IfUnit 99 2 ∷ Goto 6 ∷ []) refl (refl, (refl, tt)) stands)
  peeks (suc (suc zero)) stands = absurd (never 2 (Skip ∷ Goto 3 ∷ []) refl (refl, (refl, tt)) stands)
  peeks (suc (suc (suc zero))) stands = inr (1, edges_there 1 (omega arith), refl)
  peeks (suc (suc (suc (suc zero)))) stands = absurd (never 4 (Backup ∷ Accept 1 ∷ Set 1 ∷ Skip ∷ Goto 0 ∷ []) refl (refl, (refl, (refl, (refl, (refl, tt))))) stands)
  peeks (suc (suc (suc (suc (suc zero))))) stands = absurd (never 5 (Set 1 ∷ Goto 8 ∷ []) refl (refl, (refl, tt)) stands)
  peeks (suc (suc (suc (suc (suc (suc zero)))))) stands = absurd (never 6 (IfAccept 1 7 ∷ Leave ∷ []) refl (refl, (refl, tt)) stands)
  peeks (suc (suc (suc (suc (suc (suc (suc zero))))))) stands = absurd (never 7 (Restore ∷ Goto 8 ∷ []) refl (refl, (refl, tt)) stands)
  peeks (suc (suc (suc (suc (suc (suc (suc (suc zero)))))))) stands = absurd (never 8 (Tag (116 ∷ []) false 1 ∷ Code 1 None (97 ∷ []) ∷ []) refl (refl, (refl, tt)) stands)
  peeks (suc (suc (suc (suc (suc (suc (suc (suc (suc block))))))))) stands = let none = stands.1 in absurd cc

  -- statements name register 1 or none
  own : (statement : Stmt) → IsMadeBy p.blocks 0 statement → NamesItsOwn dotted statement
  own statement made =
      All-made (NamesItsOwn dotted) p.blocks 0 statement
      (nothing_named _ refl refl refl, (nothing_named _ refl refl refl, (nothing_named _ refl refl refl, (nothing_named _ refl refl refl, (nothing_named _ refl refl refl, (nothing_named _ refl refl refl, (nothing_named _ refl refl refl, (nothing_named _ refl refl refl, (nothing_named _ refl refl refl, (nothing_named _ refl refl refl, (nothing_named _ refl refl refl, (nothing_named _ refl refl refl, (nothing_named _ refl refl refl, (nothing_named _ refl refl refl, (nothing_named _ refl refl refl, (first_named _ refl refl refl, (nothing_named _ refl refl refl, (nothing_named _ refl refl refl, (first_named _ refl refl refl, (nothing_named _ refl refl refl, (nothing_named _ refl refl refl, (nothing_named _ refl refl refl, (nothing_named _ refl refl refl, (nothing_named _ refl refl refl, (first_named _ refl refl refl, (nothing_named _ refl refl refl, tt))))))))))))))))))))))))))
      made

  pub dots_carried : Carries (bytes_piece names dotted_blocks) 0 tagged dotted
  dots_carried =
      supplied_carries plain_supply halting tagged 255 dotted p place saved rules 6 None 0 serves refl formed (λ set unit. refl) (λ unit lt. omega (arith, lt)) apart
      (λ block of stands. peeks block stands) own
