-- The piece of `"a" ("ba")*` with the end of the stream, refills and stored states carries its automaton, which its blocks serve.
use Rattle.std.specs.Prelude.{◌≡◌, ◌⊎◌, ℕ, zero, suc, ◌<◌, Bool, true, false, List, [], ◌∷◌, Option, Some, None, nat_le, refl, if◌then◌else◌}
use Rattle.std.proofs.Common.{sym, subst, arith, inl, inr, leb-true, true≢false, ap}
use Rattle.std.specs.List.{AllByRecursion}
use Rattle.lx_auto.specs.Automaton.{edge_on, state_of}
use Rattle.lx_auto.specs.declared.automaton.Edge.{Edge}
use Rattle.lx_base.specs.Names.{Spellings}
use Rattle.lx_ccode.specs.declared.piece.Piece.{Piece}
use Rattle.lx_ccode.specs.declared.piece.Stmt.{Stmt}
use Rattle.lx_ccode.specs.declared.piece.Stmt.TheVariants.{Accept, Backup, Code, Goto, IfAccept, IfEnd, Leave, Peek, Restore, Skip, State, Try}
use Rattle.lx_ccode.specs.Machine.{code_at, is_among}
use Rattle.lx_ccode.specs.Scanners.{IsMadeBy, StandsIn}
use Rattle.lx_ccode.specs.Statements.{code_of}
use Rattle.lx_ccode.specs.Traces.{is_peek}
use Rattle.lx_ccode.proofs.TraceSteps.{All-made, NeverStands}
use Rattle.lx_layout.specs.CarriedExamples.{ended_piece, paired}
use Rattle.lx_layout.specs.Carries.{Carries, HasEdge, NamesItsOwn}
use Rattle.lx_layout.specs.Endings.{ending_code}
use Rattle.lx_layout.specs.Examples.{untagged}
use Rattle.lx_layout.specs.Supplied.{HasCode, IsTarget, Serves, ServesEntry, ServesState, at_end, reads}
use Rattle.lx_layout.specs.Supplies.{Reader, Supply, entry, state}
use Rattle.lx_dispatch.specs.TestTrees.{TestTree, at_most, leaf, picked, test}
use Rattle.lx_layout.proofs.Carrying.SuppliedCarried.{supplied_carries}
use Rattle.lx_layout.proofs.Runs.CarriedSteps.{nothing_named}
use Rattle.lx_layout.proofs.Runs.PairsCarried.{accepted_first, bare_there, edges_there, falls_there, halting, saved, low_last, low_none, on_first, on_last, paired_formed, to_first, to_second}
use Rattle.lx_layout.specs.Fallback.{chosen}

abbrev place : ℕ → ℕ
place zero = 4
place (suc number) = 9

-- the end of the rule
abbrev rules : ℕ → ℕ
rules rule = 16

abbrev stored : Reader → ℕ
stored entry = 0
stored (state number) = suc number

abbrev supply : Supply
supply = record { eof = Some 0; tries = true; check = λ number. 0; stored = Some stored; among = is_among [] }

module _ (names : Spellings) where
  abbrev p : Piece
  p = ended_piece names

  abbrev Has : ℕ → List Stmt → Type 0
  Has block code = HasCode supply halting untagged 255 paired (code_of p.blocks) place saved rules 14 block code

  abbrev Target : ℕ → Option Edge → ℕ → Type 0
  Target number o block = IsTarget supply halting untagged 255 paired (code_of p.blocks) place saved rules 14 number (state_of paired.states number) o block

  -- ---- the tests of the states; those of state 0 stand at the entry too, with another test of the end

  abbrev first_tree : (asks : ℕ) → TestTree ℕ
  first_tree asks = test (at_most 0) asks (test (at_most 96) 14 (test (at_most 97) 8 (leaf 14)))

  abbrev second_tree : TestTree ℕ
  second_tree = test (at_most 0) 10 (test (at_most 97) 16 (test (at_most 98) 13 (leaf 16)))

  -- a unit that is not 0 passes the first test
  behind_zero : (To : ℕ → Type 0) (unit asks to : ℕ) → (unit ≡ 0 → ⊥) → To to → To (if nat_le unit 0 then asks else to)
  behind_zero To unit asks to some target = by (nat_le unit 0) refl where
    by : (t : Bool) → nat_le unit 0 ≡ t → To (if t then asks else to)
    by true low = absurd (some (let le = leb-true unit 0 low in omega (arith, le)))
    by false above = target

  first_leads : (asks unit : ℕ) → (unit ≡ 0 → ⊥) → Target 0 (edge_on (state_of paired.states 0).edges unit) (picked supply.among (first_tree asks) unit)
  first_leads asks unit some =
      behind_zero (λ block. Target 0 (edge_on (state_of paired.states 0).edges unit) block) unit asks (picked supply.among (test (at_most 96) 14 (test (at_most 97) 8 (leaf 14))) unit) some
      (by (nat_le unit 96) (nat_le unit 97) refl refl)
    where
      on_a : (high : Bool) → Target 0 (if high then Some to_second else None) (if high then 8 else 14)
      on_a true = refl
      on_a false = (refl, refl)

      by : (low high : Bool) → nat_le unit 96 ≡ low → nat_le unit 97 ≡ high
          → Target 0 (edge_on (state_of paired.states 0).edges unit) (if low then 14 else (if high then 8 else 14))
      by true high is_low is_high = subst (λ o. Target 0 o 14) (sym (low_none unit is_low)) (refl, refl)
      by false high low is_high = subst (λ o. Target 0 o (if high then 8 else 14)) (sym (on_first unit high low is_high)) (on_a high)

  second_leads : (unit : ℕ) → (unit ≡ 0 → ⊥) → Target 1 (edge_on (state_of paired.states 1).edges unit) (picked supply.among second_tree unit)
  second_leads unit some =
      behind_zero (λ block. Target 1 (edge_on (state_of paired.states 1).edges unit) block) unit 10 (picked supply.among (test (at_most 97) 16 (test (at_most 98) 13 (leaf 16))) unit) some
      (by (nat_le unit 97) (nat_le unit 98) refl refl)
    where
      on_b : (high : Bool) → Target 1 (if high then Some to_first else None) (if high then 13 else 16)
      on_b true = refl
      on_b false = (refl, inr (refl, refl))

      by : (low high : Bool) → nat_le unit 97 ≡ low → nat_le unit 98 ≡ high
          → Target 1 (edge_on (state_of paired.states 1).edges unit) (if low then 16 else (if high then 13 else 16))
      by true high is_low is_high = subst (λ o. Target 1 o 16) (sym (low_last unit is_low)) (refl, inr (refl, refl))
      by false high low is_high = subst (λ o. Target 1 o (if high then 13 else 16)) (sym (on_last unit high low is_high)) (on_b high)

  -- ---- what the blocks serve

  states_serve : (number : ℕ) → number < 2
      → ServesState supply halting untagged 255 paired (code_of p.blocks) place saved rules 14 number (state_of paired.states number)
  states_serve zero lt =
      reads (edges_there 0 lt)
      (at_end 0 refl (first_tree 5) 0 14 6 refl tt (λ unit within some. first_leads 5 unit some) refl (λ within. (refl, refl)) (14, (refl, refl), refl, refl))
  states_serve (suc zero) lt =
      reads (edges_there 1 lt)
      (at_end 0 refl second_tree 0 16 11 refl tt (λ unit within some. second_leads unit some) refl (λ within. (refl, inr (refl, refl))) (16, (refl, inr (refl, refl)), refl, refl))
  states_serve (suc (suc number)) lt = absurd (omega (arith, lt))

  serves : Serves supply halting untagged 255 paired (code_of p.blocks) place saved rules 14 (Some 2)
  serves = record {
    states = λ number lt entered. states_serve number lt;
    choices = record { saved = 1; block = 15 } ∷ [];
    falls = λ number lt none halts. falls_there number lt none;
    onward = λ number edge lt none has falls. falls_there number lt none;
    bare = λ number lt falls. bare_there number falls;
    fallback = λ number lt falls. refl;
    none = λ falls. refl;
    restores = λ number accept lt is e. (15, λ kept is_kept. ap (λ n. chosen true (record { saved = 1; block = 15 } ∷ []) n) is_kept, refl);
    ends = λ number accept lt e ended.
        accepted_first (λ accept. Has (rules accept.rule) (ending_code untagged accept.rule accept.values)) refl number accept e;
  }

  serves_entry : ServesEntry supply halting untagged 255 paired (code_of p.blocks) place saved rules 14 (Some 2) 0
  serves_entry =
      (λ never. absurd (true≢false never), at_end 0 refl (first_tree 1) 0 14 2 refl tt (λ unit within some. first_leads 1 unit some) refl (λ within. (refl, refl)) (17, refl, refl, refl))

  -- ---- the blocks and statements of the scanner

  apart : (number other : ℕ) → HasEdge paired number → HasEdge paired other → place number ≡ place other → number ≡ other
  apart zero zero has too same = refl
  apart zero (suc other) has too same = absurd (omega (arith, same))
  apart (suc number) zero has too same = absurd (omega (arith, same))
  apart (suc zero) (suc zero) has too same = refl
  apart (suc zero) (suc (suc other)) has too same = absurd (too refl)
  apart (suc (suc number)) (suc other) has too same = absurd (has refl)

  never : (block : ℕ) (code : List Stmt) → code_at p.blocks (Some block) ≡ Some code → AllByRecursion (λ s. is_peek s ≡ false) code
      → StandsIn p.blocks block Peek → ⊥
  never block code at quiet stands = NeverStands p.blocks block Peek code at (λ s. is_peek s ≡ false) quiet stands (λ e. absurd cc)

  peeks : (block : ℕ) → StandsIn p.blocks block Peek → (block ≡ 0) ⊎ ((number : ℕ) × HasEdge paired number × (place number ≡ block))
  peeks zero stands = inl refl
  peeks (suc zero) stands = absurd (never 1 (IfEnd 2 ∷ Goto 14 ∷ []) refl (refl, (refl, tt)) stands)
  peeks (suc (suc zero)) stands = absurd (never 2 (State 0 ∷ Try 0 ∷ Goto 17 ∷ []) refl (refl, (refl, (refl, tt))) stands)
  peeks (suc (suc (suc zero))) stands = absurd (never 3 (IfEnd 17 ∷ Goto 0 ∷ []) refl (refl, (refl, tt)) stands)
  peeks (suc (suc (suc (suc zero)))) stands = inr (0, edges_there 0 (omega arith), refl)
  peeks (suc (suc (suc (suc (suc zero))))) stands = absurd (never 5 (IfEnd 6 ∷ Goto 14 ∷ []) refl (refl, (refl, tt)) stands)
  peeks (suc (suc (suc (suc (suc (suc zero)))))) stands = absurd (never 6 (State 1 ∷ Try 4 ∷ Goto 14 ∷ []) refl (refl, (refl, (refl, tt))) stands)
  peeks (suc (suc (suc (suc (suc (suc (suc zero))))))) stands = absurd (never 7 (IfEnd 14 ∷ Goto 4 ∷ []) refl (refl, (refl, tt)) stands)
  peeks (suc (suc (suc (suc (suc (suc (suc (suc zero)))))))) stands = absurd (never 8 (Skip ∷ Goto 9 ∷ []) refl (refl, (refl, tt)) stands)
  peeks (suc (suc (suc (suc (suc (suc (suc (suc (suc zero))))))))) stands = inr (1, edges_there 1 (omega arith), refl)
  peeks (suc (suc (suc (suc (suc (suc (suc (suc (suc (suc zero)))))))))) stands = absurd (never 10 (IfEnd 11 ∷ Goto 16 ∷ []) refl (refl, (refl, tt)) stands)
  peeks (suc (suc (suc (suc (suc (suc (suc (suc (suc (suc (suc zero))))))))))) stands = absurd (never 11 (State 2 ∷ Try 9 ∷ Goto 16 ∷ []) refl (refl, (refl, (refl, tt))) stands)
  peeks (suc (suc (suc (suc (suc (suc (suc (suc (suc (suc (suc (suc zero)))))))))))) stands = absurd (never 12 (IfEnd 16 ∷ Goto 9 ∷ []) refl (refl, (refl, tt)) stands)
  peeks (suc (suc (suc (suc (suc (suc (suc (suc (suc (suc (suc (suc (suc zero))))))))))))) stands = absurd (never 13 (Backup ∷ Accept 1 ∷ Skip ∷ Goto 4 ∷ []) refl (refl, (refl, (refl, (refl, tt)))) stands)
  peeks (suc (suc (suc (suc (suc (suc (suc (suc (suc (suc (suc (suc (suc (suc zero)))))))))))))) stands = absurd (never 14 (IfAccept 1 15 ∷ Leave ∷ []) refl (refl, (refl, tt)) stands)
  peeks (suc (suc (suc (suc (suc (suc (suc (suc (suc (suc (suc (suc (suc (suc (suc zero))))))))))))))) stands = absurd (never 15 (Restore ∷ Goto 16 ∷ []) refl (refl, (refl, tt)) stands)
  peeks (suc (suc (suc (suc (suc (suc (suc (suc (suc (suc (suc (suc (suc (suc (suc (suc zero)))))))))))))))) stands = absurd (never 16 (Code 1 None (97 ∷ []) ∷ []) refl (refl, tt) stands)
  peeks (suc (suc (suc (suc (suc (suc (suc (suc (suc (suc (suc (suc (suc (suc (suc (suc (suc zero))))))))))))))))) stands = absurd (never 17 (Code 2 None (97 ∷ []) ∷ []) refl (refl, tt) stands)
  peeks (suc (suc (suc (suc (suc (suc (suc (suc (suc (suc (suc (suc (suc (suc (suc (suc (suc (suc block)))))))))))))))))) stands = let none = stands.1 in absurd cc

  -- no statement names a register
  own : (statement : Stmt) → IsMadeBy p.blocks 0 statement → NamesItsOwn paired statement
  own statement made =
      All-made (NamesItsOwn paired) p.blocks 0 statement
      (nothing_named _ refl refl refl, (nothing_named _ refl refl refl, (nothing_named _ refl refl refl, (nothing_named _ refl refl refl, (nothing_named _ refl refl refl, (nothing_named _ refl refl refl, (nothing_named _ refl refl refl, (nothing_named _ refl refl refl, (nothing_named _ refl refl refl, (nothing_named _ refl refl refl, (nothing_named _ refl refl refl, (nothing_named _ refl refl refl, (nothing_named _ refl refl refl, (nothing_named _ refl refl refl, (nothing_named _ refl refl refl, (nothing_named _ refl refl refl, (nothing_named _ refl refl refl, (nothing_named _ refl refl refl, (nothing_named _ refl refl refl, (nothing_named _ refl refl refl, (nothing_named _ refl refl refl, (nothing_named _ refl refl refl, (nothing_named _ refl refl refl, (nothing_named _ refl refl refl, (nothing_named _ refl refl refl, (nothing_named _ refl refl refl, (nothing_named _ refl refl refl, (nothing_named _ refl refl refl, (nothing_named _ refl refl refl, (nothing_named _ refl refl refl, (nothing_named _ refl refl refl, (nothing_named _ refl refl refl, (nothing_named _ refl refl refl, (nothing_named _ refl refl refl, (nothing_named _ refl refl refl, (nothing_named _ refl refl refl, (nothing_named _ refl refl refl, (nothing_named _ refl refl refl, (nothing_named _ refl refl refl, (nothing_named _ refl refl refl, (nothing_named _ refl refl refl, (nothing_named _ refl refl refl, (nothing_named _ refl refl refl, (nothing_named _ refl refl refl, (nothing_named _ refl refl refl, (nothing_named _ refl refl refl, (nothing_named _ refl refl refl, (nothing_named _ refl refl refl, tt))))))))))))))))))))))))))))))))))))))))))))))))
      made

  pub ended_carried : Carries (ended_piece names) 0 untagged paired
  ended_carried =
      supplied_carries supply halting untagged 255 paired p place saved rules 14 (Some 2) 0 serves serves_entry paired_formed (λ set unit. refl) (λ unit lt. omega (arith, lt)) apart
      (λ block of stands. peeks block stands) own
