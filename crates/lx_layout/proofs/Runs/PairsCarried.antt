-- The piece of `"a" ("ba")*` carries its automaton, which its blocks serve.
use Rattle.std.specs.Prelude.{◌≡◌, ◌⊎◌, ℕ, zero, suc, ◌<◌, Bool, true, false, List, [], ◌∷◌, Option, Some, None, nat_le, ◌&&◌, refl, if◌then◌else◌}
use Rattle.std.proofs.Common.{sym, ap, ◌∙◌, subst, arith, inl, inr, le-leb, leb-true, leb-false}
use Rattle.std.proofs.lemmas.Bool.{lt-leb}
use Rattle.std.specs.List.{AllByRecursion}
use Rattle.lx_auto.specs.Automaton.{IsAuto, edge_on, state_of}
use Rattle.lx_auto.specs.declared.automaton.Accept.{Accept as Accepted}
use Rattle.lx_auto.specs.declared.automaton.Edge.{Edge}
use Rattle.lx_base.specs.Names.{Spellings}
use Rattle.lx_ccode.specs.declared.piece.Piece.{Piece}
use Rattle.lx_ccode.specs.declared.piece.Stmt.{Stmt}
use Rattle.lx_ccode.specs.declared.piece.Stmt.TheVariants.{Accept, Backup, Code, Goto, IfAccept, Leave, Peek, Restore, Skip}
use Rattle.lx_ccode.specs.Machine.{code_at}
use Rattle.lx_ccode.specs.Scanners.{CheckAtMost, IsMadeBy, StandsIn}
use Rattle.lx_ccode.specs.Statements.{code_of}
use Rattle.lx_ccode.specs.Traces.{is_peek}
use Rattle.lx_ccode.proofs.TraceSteps.{All-made, NeverStands}
use Rattle.lx_layout.specs.CarriedExamples.{paired, paired_blocks}
use Rattle.lx_layout.specs.Carries.{Carries, HasEdge, NamesItsOwn}
use Rattle.lx_layout.specs.Endings.{ending_code}
use Rattle.lx_layout.specs.Examples.{bytes_piece, untagged}
use Rattle.lx_layout.specs.Halting.{Halting}
use Rattle.lx_layout.specs.Supplied.{HasCode, IsTarget, Serves, ServesState, by_tests, reads}
use Rattle.lx_layout.specs.Supplies.{plain_supply}
use Rattle.lx_dispatch.specs.TestTrees.{TestTree, at_most, leaf, picked, test}
use Rattle.lx_layout.proofs.Carrying.SuppliedCarried.{supplied_carries}
use Rattle.lx_layout.proofs.Runs.CarriedSteps.{nothing_named}
use Rattle.lx_base.specs.declared.settings.Format.TheVariants.{Two}
use Rattle.lx_layout.specs.Fallback.{chosen}

abbrev place : ℕ → ℕ
place zero = 0
place (suc number) = 2

abbrev pub saved : Option (ℕ → ℕ)
saved = Some (λ number. 1)

-- a match can end in both states, and falls back from the first one
abbrev pub halting : Halting
halting = record { halts = λ number. true; falls = falls; format = Two }
  where
    falls : ℕ → Bool
    falls zero = true
    falls (suc number) = false

-- the end of the rule
abbrev rules : ℕ → ℕ
rules rule = 6

abbrev pub by_first : Accepted
by_first = record { rule = 1; ops = []; values = [] }

abbrev pub to_second : Edge
to_second = record { lo = 97; hi = 97; ops = []; to = 1 }

abbrev pub to_first : Edge
to_first = record { lo = 98; hi = 98; ops = []; to = 0 }

pub paired_formed : IsAuto paired
paired_formed = record {
  start = omega arith;
  few = omega arith;
  few_regs = omega arith;
  few_mregs = omega arith;
  states = (
    record { apart = (omega arith, omega arith, tt); lead = (omega arith, tt, tt); accept = tt; leave = tt },
    (record { apart = (omega arith, omega arith, tt); lead = (omega arith, tt, tt); accept = (tt, tt); leave = tt }, tt),
  );
}

-- its accept has what holds of that of rule 1
pub accepted_first : (Holds : Accepted → Type 0) → Holds by_first → (number : ℕ) (accept : Accepted) → (state_of paired.states number).accept ≡ Some accept
    → Holds accept
accepted_first Holds first zero accept e = absurd cc
accepted_first Holds first (suc zero) accept e = let same : by_first ≡ accept = cc in subst Holds same first
accepted_first Holds first (suc (suc number)) accept e = absurd cc

-- from the state that does not accept, and from no other one, a match falls back
pub falls_there : (number : ℕ) → number < 2 → (state_of paired.states number).accept ≡ None → halting.falls number ≡ true
falls_there zero lt none = refl
falls_there (suc zero) lt none = absurd cc
falls_there (suc (suc number)) lt none = absurd (omega (arith, lt))

pub bare_there : (number : ℕ) → halting.falls number ≡ true → (state_of paired.states number).accept ≡ None
bare_there zero falls = refl
bare_there (suc number) falls = absurd cc

-- which edge is on a unit
pub low_none : (unit : ℕ) → nat_le unit 96 ≡ true → edge_on (state_of paired.states 0).edges unit ≡ None
low_none unit low =
    let le = leb-true unit 96 low in
    ap (λ t. if t && nat_le unit 97 then Some to_second else None) (lt-leb 97 unit (omega (arith, le)))

pub on_first : (unit : ℕ) (high : Bool) → nat_le unit 96 ≡ false → nat_le unit 97 ≡ high
    → edge_on (state_of paired.states 0).edges unit ≡ (if high then Some to_second else None)
on_first unit high low is =
    let lt = leb-false unit 96 low in
    ap (λ t. if t && nat_le unit 97 then Some to_second else None) (le-leb 97 unit (omega (arith, lt)))
    ∙ ap (λ t. if t then Some to_second else None) is

pub low_last : (unit : ℕ) → nat_le unit 97 ≡ true → edge_on (state_of paired.states 1).edges unit ≡ None
low_last unit low =
    let le = leb-true unit 97 low in
    ap (λ t. if t && nat_le unit 98 then Some to_first else None) (lt-leb 98 unit (omega (arith, le)))

pub on_last : (unit : ℕ) (high : Bool) → nat_le unit 97 ≡ false → nat_le unit 98 ≡ high
    → edge_on (state_of paired.states 1).edges unit ≡ (if high then Some to_first else None)
on_last unit high low is =
    let lt = leb-false unit 97 low in
    ap (λ t. if t && nat_le unit 98 then Some to_first else None) (le-leb 98 unit (omega (arith, lt)))
    ∙ ap (λ t. if t then Some to_first else None) is

pub edges_there : (number : ℕ) → number < 2 → HasEdge paired number
edges_there zero lt none = absurd cc
edges_there (suc zero) lt none = absurd cc
edges_there (suc (suc number)) lt none = omega (arith, lt)

module _ (names : Spellings) where
  abbrev p : Piece
  p = bytes_piece names paired_blocks

  abbrev Has : ℕ → List Stmt → Type 0
  Has block code = HasCode plain_supply halting untagged 255 paired (code_of p.blocks) place saved rules 4 block code

  abbrev Target : ℕ → Option Edge → ℕ → Type 0
  Target number o block = IsTarget plain_supply halting untagged 255 paired (code_of p.blocks) place saved rules 4 number (state_of paired.states number) o block

  -- ---- what the blocks serve

  abbrev first_tree : TestTree ℕ
  first_tree = test (at_most 96) 4 (test (at_most 97) 1 (leaf 4))

  abbrev second_tree : TestTree ℕ
  second_tree = test (at_most 97) 6 (test (at_most 98) 3 (leaf 6))

  first_leads : (unit : ℕ) → Target 0 (edge_on (state_of paired.states 0).edges unit) (picked plain_supply.among first_tree unit)
  first_leads unit = by (nat_le unit 96) (nat_le unit 97) refl refl where
    on_a : (high : Bool) → Target 0 (if high then Some to_second else None) (if high then 1 else 4)
    on_a true = refl
    on_a false = (refl, refl)

    by : (low high : Bool) → nat_le unit 96 ≡ low → nat_le unit 97 ≡ high
        → Target 0 (edge_on (state_of paired.states 0).edges unit) (if low then 4 else (if high then 1 else 4))
    by true high is_low is_high = subst (λ o. Target 0 o 4) (sym (low_none unit is_low)) (refl, refl)
    by false high low is_high = subst (λ o. Target 0 o (if high then 1 else 4)) (sym (on_first unit high low is_high)) (on_a high)

  second_leads : (unit : ℕ) → Target 1 (edge_on (state_of paired.states 1).edges unit) (picked plain_supply.among second_tree unit)
  second_leads unit = by (nat_le unit 97) (nat_le unit 98) refl refl where
    on_b : (high : Bool) → Target 1 (if high then Some to_first else None) (if high then 3 else 6)
    on_b true = refl
    on_b false = (refl, inr (refl, refl))

    by : (low high : Bool) → nat_le unit 97 ≡ low → nat_le unit 98 ≡ high
        → Target 1 (edge_on (state_of paired.states 1).edges unit) (if low then 6 else (if high then 3 else 6))
    by true high is_low is_high = subst (λ o. Target 1 o 6) (sym (low_last unit is_low)) (refl, inr (refl, refl))
    by false high low is_high = subst (λ o. Target 1 o (if high then 3 else 6)) (sym (on_last unit high low is_high)) (on_b high)

  states_serve : (number : ℕ) → number < 2
      → ServesState plain_supply halting untagged 255 paired (code_of p.blocks) place saved rules 4 number (state_of paired.states number)
  states_serve zero lt = reads (edges_there 0 lt) (by_tests refl first_tree 0 refl tt (λ unit within. first_leads unit))
  states_serve (suc zero) lt = reads (edges_there 1 lt) (by_tests refl second_tree 0 refl tt (λ unit within. second_leads unit))
  states_serve (suc (suc number)) lt = absurd (omega (arith, lt))

  serves : Serves plain_supply halting untagged 255 paired (code_of p.blocks) place saved rules 4 None
  serves = record {
    states = λ number lt entered. states_serve number lt;
    choices = record { saved = 1; block = 5 } ∷ [];
    falls = λ number lt none halts. falls_there number lt none;
    onward = λ number edge lt none has falls. falls_there number lt none;
    bare = λ number lt falls. bare_there number falls;
    fallback = λ number lt falls. refl;
    none = λ falls. refl;
    restores = λ number accept lt is e. (5, λ kept is_kept. ap (λ n. chosen true (record { saved = 1; block = 5 } ∷ []) n) is_kept, refl);
    ends = λ number accept lt e ended.
        accepted_first (λ accept. Has (rules accept.rule) (ending_code untagged accept.rule accept.values)) refl number accept e;
  }

  -- ---- the blocks and statements of the scanner

  apart : (number other : ℕ) → HasEdge paired number → HasEdge paired other → place number ≡ place other → number ≡ other
  apart zero zero has too same = refl
  apart zero (suc other) has too same = absurd (omega (arith, same))
  apart (suc number) zero has too same = absurd (omega (arith, same))
  apart (suc zero) (suc zero) has too same = refl
  apart (suc zero) (suc (suc other)) has too same = absurd (too refl)
  apart (suc (suc number)) (suc other) has too same = absurd (has refl)

  never : (block : ℕ) (code : List Stmt) → code_at p.blocks (Some block) ≡ Some code → AllByRecursion (λ s. is_peek s ≡ false) code
      → StandsIn p.blocks block Peek → ⊥
  never block code at quiet stands = NeverStands p.blocks block Peek code at (λ s. is_peek s ≡ false) quiet stands (λ e. absurd cc)

  peeks : (block : ℕ) → StandsIn p.blocks block Peek → (block ≡ 0) ⊎ ((number : ℕ) × HasEdge paired number × (place number ≡ block))
  peeks zero stands = inl refl
  peeks (suc zero) stands = absurd (never 1 (Skip ∷ Goto 2 ∷ []) refl (refl, (refl, tt)) stands)
  peeks (suc (suc zero)) stands = inr (1, edges_there 1 (omega arith), refl)
  peeks (suc (suc (suc zero))) stands = absurd (never 3 (Backup ∷ Accept 1 ∷ Skip ∷ Goto 0 ∷ []) refl (refl, (refl, (refl, (refl, tt)))) stands)
  peeks (suc (suc (suc (suc zero)))) stands = absurd (never 4 (IfAccept 1 5 ∷ Leave ∷ []) refl (refl, (refl, tt)) stands)
  peeks (suc (suc (suc (suc (suc zero))))) stands = absurd (never 5 (Restore ∷ Goto 6 ∷ []) refl (refl, (refl, tt)) stands)
  peeks (suc (suc (suc (suc (suc (suc zero)))))) stands = absurd (never 6 (Code 1 None (97 ∷ []) ∷ []) refl (refl, tt) stands)
  peeks (suc (suc (suc (suc (suc (suc (suc block))))))) stands = let none = stands.1 in absurd cc

  -- no statement names a register
  own : (statement : Stmt) → IsMadeBy p.blocks 0 statement → NamesItsOwn paired statement
  own statement made =
      All-made (NamesItsOwn paired) p.blocks 0 statement
      (nothing_named _ refl refl refl, (nothing_named _ refl refl refl, (nothing_named _ refl refl refl, (nothing_named _ refl refl refl, (nothing_named _ refl refl refl, (nothing_named _ refl refl refl, (nothing_named _ refl refl refl, (nothing_named _ refl refl refl, (nothing_named _ refl refl refl, (nothing_named _ refl refl refl, (nothing_named _ refl refl refl, (nothing_named _ refl refl refl, (nothing_named _ refl refl refl, (nothing_named _ refl refl refl, (nothing_named _ refl refl refl, (nothing_named _ refl refl refl, (nothing_named _ refl refl refl, (nothing_named _ refl refl refl, (nothing_named _ refl refl refl, tt)))))))))))))))))))
      made

  pub pairs_carried : Carries (bytes_piece names paired_blocks) 0 untagged paired
  pairs_carried =
      supplied_carries plain_supply halting untagged 255 paired p place saved rules 4 None 0 serves refl paired_formed (λ set unit. refl) (λ unit lt. omega (arith, lt)) apart
      (λ block of stands. peeks block stands) own

  -- it checks for no units
  pub pairs_check_nothing : CheckAtMost 1 (bytes_piece names paired_blocks).blocks
  pairs_check_nothing = (omega arith, (omega arith, (omega arith, (omega arith, (omega arith, (omega arith, (omega arith, (omega arith, (omega arith, (omega arith, (omega arith, (omega arith, (omega arith, (omega arith, (omega arith, (omega arith, (omega arith, (omega arith, (omega arith, tt)))))))))))))))))))
