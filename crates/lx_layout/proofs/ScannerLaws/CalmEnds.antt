-- Where a match ends in a layout no unit is tested: in the ends of rules, in the fallback, and in the ends of states.
use Rattle.std.specs.Prelude.{◌≡◌, ◌≢◌, ℕ, zero, suc, ◌+◌, ◌<◌, ◌≤◌, Bool, true, false, List, [], ◌∷◌, ◌++◌, length, Option, Some, None, ◌||◌, nat_eq, refl, slice_get}
use Rattle.std.proofs.Common.{sym, ap, ◌∙◌, subst, arith, eqb-true, length-append}
use Rattle.std.proofs.lemmas.Bool.{eqb-false}
use Rattle.std.specs.List.{AllByRecursion}
use Rattle.lx_auto.specs.Automaton.{state_of}
use Rattle.lx_auto.specs.declared.automaton.Accept.{Accept}
use Rattle.lx_auto.specs.declared.automaton.Auto.{Auto}
use Rattle.lx_auto.specs.declared.ops.Op.{Op}
use Rattle.lx_ccode.specs.Statements.{code_of}
use Rattle.lx_ccode.specs.declared.piece.Piece.{Piece}
use Rattle.lx_ccode.specs.declared.piece.Stmt.{Stmt}
use Rattle.lx_ccode.specs.declared.piece.Stmt.TheVariants.{Goto}
use Rattle.lx_layout.specs.Codes.{accept_code}
use Rattle.lx_layout.specs.Endings.{Ending, ending_code}
use Rattle.lx_layout.specs.Fallback.{fallback_code}
use Rattle.lx_layout.specs.Halting.{AreHalting, Halting, any_falls, ended_accepts, here, is_saved, saved_accept, saved_accepts}
use Rattle.lx_layout.specs.Layout.{StandsFrom, choices_from, end_block, end_blocks, ending_blocks, has_rule, lone_blocks, lone_place, own_block, own_blocks, restore_blocks, rule_place}
use Rattle.lx_layout.specs.SuppliedLayout.{end_rule_block, end_rule_part, fall_block, fallback_part, first_restore, first_rule, kept, rule_block, supplied_layout}
use Rattle.lx_layout.specs.Supplies.{Reader, Supply}
use Rattle.lx_dispatch.specs.TestTrees.{TestTree}
use Rattle.lx_layout.proofs.BlockLayouts.FirstAccepts.{rule_place-below}
use Rattle.lx_layout.proofs.BlockLayouts.LayoutLengths.{length-ending_blocks, length-restore_blocks}
use Rattle.lx_layout.proofs.BlockLayouts.CodesInBlocks.{StandsFrom-front, StandsFrom-get}
use Rattle.lx_layout.proofs.ScannerLaws.CalmCodes.{At, Up, UpAt, known, lower, up_accept, up_ending, up_fallback, up_goto, up_restore}
use Rattle.lx_layout.proofs.SuppliedLayouts.FirstsFrom.{each-firsts_from, has_rule-ended, kept_some}
use Rattle.lx_layout.proofs.SuppliedLayouts.LayoutServes.{behind, behind_ends, behind_fallback, behind_restores, fallback_stands}
use Rattle.lx_layout.proofs.SuppliedLayouts.Lengths.{length-fallback_part}
use Rattle.lx_layout.proofs.SuppliedLayouts.WholeLayout.{any_falls-one}
use Rattle.lx_layout.proofs.Validity.EachElement.{each-append}

or_else : (t u : Bool) → u ≡ true → (t || u) ≡ true
or_else true u h = refl
or_else false u h = h

-- at each place there is the end of an accept's rule
end_there_at : (endings : ℕ → Ending) (list : List Accept) (k : ℕ) → k < length list
    → (accept : Accept) × (slice_get (ending_blocks endings list) k ≡ Some (ending_code endings accept.rule accept.values))
end_there_at endings [] k lt = absurd (omega (arith, lt))
end_there_at endings (accept ∷ list) zero lt = (accept, refl)
end_there_at endings (accept ∷ list) (suc k) lt = end_there_at endings list k (omega (arith, lt))

module _ (piece : Piece) (stream : List ℕ) (Stored : ℕ → Type 0) (n : ℕ) (supply : Supply) (halting : Halting) (endings : ℕ → Ending) (end_rule : Option ℕ)
    (greatest : ℕ) (trees : Reader → TestTree (Option ℕ)) (auto : Auto) (begin : ℕ)
    (stands : StandsFrom (code_of piece.blocks) begin (supplied_layout supply halting endings end_rule trees auto begin))
    (marked : AreHalting supply.eof end_rule greatest auto halting) where
  abbrev blocks : List (List Stmt)
  blocks = code_of piece.blocks

  abbrev rules : ℕ → ℕ
  rules = rule_block supply halting end_rule trees auto begin

  abbrev fall : ℕ
  fall = fall_block supply halting end_rule trees auto begin

  abbrev restore : ℕ
  restore = first_restore supply halting end_rule trees auto begin

  abbrev saves : List Accept
  saves = saved_accepts halting auto.states

  abbrev list : List Accept
  list = ended_accepts halting auto.states

  abbrev IsAt : ℕ → Type 0
  IsAt block = At piece stream Stored n block

  abbrev IsUp : ℕ → Type 0
  IsUp block = UpAt piece stream Stored n block

  rule_calm : (rule : ℕ) → has_rule list rule ≡ true → IsUp (rules rule)
  rule_calm rule has =
      let place : ℕ = rule_place list rule in
      let there = end_there_at endings list (rule_place list rule) (rule_place-below list rule has) in
      let accept : Accept = there.0 in
      known piece stream Stored n (rules rule) (ending_code endings accept.rule accept.values)
      (StandsFrom-get blocks (first_rule supply halting end_rule trees auto begin) (rule_place list rule) (ending_blocks endings list)
      (ending_code endings accept.rule accept.values)
      (StandsFrom-front blocks (first_rule supply halting end_rule trees auto begin) (ending_blocks endings list) (end_rule_part endings end_rule)
      (behind_restores supply halting endings end_rule greatest trees auto begin blocks stands)) there.1)
      (up_ending piece stream Stored n endings accept.rule accept.values)

  -- the rule at the end of the input
  pub end_rule_calm : (rule : ℕ) → end_rule ≡ Some rule → IsUp (end_rule_block supply halting end_rule trees auto begin)
  end_rule_calm rule is =
      by end_rule is (behind_ends supply halting endings end_rule greatest trees auto begin blocks stands)
    where
      by : (o : Option ℕ) → o ≡ Some rule
          → StandsFrom (code_of piece.blocks) (end_rule_block supply halting end_rule trees auto begin) (end_rule_part endings o)
          → IsUp (end_rule_block supply halting end_rule trees auto begin)
      by None is h = absurd (cc)
      by (Some other) is h =
          known piece stream Stored n (end_rule_block supply halting end_rule trees auto begin) (ending_code endings other []) h.0
          (up_ending piece stream Stored n endings other [])

  -- ---- the fallback

  saves_calm : AllByRecursion (λ (accept : Accept). IsAt (rules accept.rule)) saves
  saves_calm =
      each-firsts_from halting (saved_accept halting) (λ (accept : Accept). IsAt (rules accept.rule)) [] 0 auto.states tt
      (λ s accept lt is.
      let kept = kept_some (is_saved halting (state_of auto.states s)) (state_of auto.states s).accept accept is in
      lower piece stream Stored n (rules accept.rule)
      (rule_calm accept.rule
      (has_rule-ended halting auto.states s accept lt kept.1 (or_else (halting.halts s) (is_saved halting (state_of auto.states s)) kept.0))))

  up_choices_all : Up piece stream Stored n (fallback_code (halting.falls 0) (choices_from 1 (first_restore supply halting end_rule trees auto begin) saves))
  up_choices_all =
      up_fallback piece stream Stored n rules (halting.falls 0) restore saves
      (StandsFrom-front blocks restore (restore_blocks rules saves) (ending_blocks endings list ++ end_rule_part endings end_rule)
      (behind_fallback supply halting endings end_rule greatest trees auto begin blocks stands)) saves_calm

  fall_calm : any_falls halting 0 auto.states ≡ true → IsUp fall
  fall_calm some =
      known piece stream Stored n fall (fallback_code (halting.falls 0) (choices_from 1 restore saves))
      (fallback_stands supply halting endings end_rule greatest trees auto begin blocks stands some) up_choices_all

  -- ---- all blocks from the fallback on, where a rule stands at the end of the input

  up_restores : (accepts : List Accept) → AllByRecursion (λ (accept : Accept). IsAt (rules accept.rule)) accepts
      → AllByRecursion (Up piece stream Stored n) (restore_blocks rules accepts)
  up_restores [] h = tt
  up_restores (accept ∷ accepts) h = (up_restore piece stream Stored n (rules accept.rule) h.0, up_restores accepts h.1)

  up_endings : (accepts : List Accept) → AllByRecursion (Up piece stream Stored n) (ending_blocks endings accepts)
  up_endings [] = tt
  up_endings (accept ∷ accepts) = (up_ending piece stream Stored n endings accept.rule accept.values, up_endings accepts)

  up_last : (o : Option ℕ) → AllByRecursion (Up piece stream Stored n) (end_rule_part endings o)
  up_last None = tt
  up_last (Some rule) = (up_ending piece stream Stored n endings rule [], tt)

  up_fallback_part : AllByRecursion (Up piece stream Stored n) (fallback_part halting auto (first_restore supply halting end_rule trees auto begin))
  up_fallback_part = by (any_falls halting 0 auto.states)
    where
      by : (t : Bool) → AllByRecursion (Up piece stream Stored n)
          (kept t (fallback_code (halting.falls 0) (choices_from 1 (first_restore supply halting end_rule trees auto begin) saves) ∷ []))
      by false = tt
      by true = (up_choices_all, tt)

  row_up : (from : ℕ) (row : List (List Stmt)) → StandsFrom blocks from row → AllByRecursion (Up piece stream Stored n) row
      → (block : ℕ) → from ≤ block → block < from + length row → IsUp block
  row_up from [] h each block low lt = absurd (omega (arith, low, lt))
  row_up from (code ∷ row) h each block low lt =
      by (nat_eq block from) refl (λ up. row_up (suc from) row h.1 each.1 block up (omega (arith, lt)))
    where
      by : (t : Bool) → nat_eq block from ≡ t → (suc from ≤ block → IsUp block) → IsUp block
      by true e again =
          let same : block ≡ from = eqb-true block from e in
          known piece stream Stored n block code (subst (λ b. slice_get (code_of piece.blocks) b ≡ Some code) (sym same) h.0) each.0
      by false e again = let other : block ≢ from = eqb-false block from e in again (omega (arith, low, other))

  pub rest_calm : (rule : ℕ) → end_rule ≡ Some rule → (block : ℕ) → fall_block supply halting end_rule trees auto begin ≤ block
      → block ≤ end_rule_block supply halting end_rule trees auto begin → IsUp block
  rest_calm rule is block low high =
      let restores : List (List Stmt) = restore_blocks rules saves in
      let ends : List (List Stmt) = ending_blocks endings list in
      let last : List (List Stmt) = end_rule_part endings end_rule in
      let fallback : List (List Stmt) = fallback_part halting auto restore in
      let one : length (end_rule_part endings end_rule) ≡ 1 = ap (λ o. length (end_rule_part endings o)) is in
      let a = length-fallback_part halting auto restore in
      let b = length-restore_blocks rules saves in
      let c = length-ending_blocks endings list in
      let d = length-append fallback (restores ++ (ends ++ last)) in
      let e = length-append restores (ends ++ last) in
      let f = length-append ends last in
      row_up fall (fallback ++ (restores ++ (ends ++ last))) (behind supply halting endings end_rule greatest trees auto begin blocks stands)
      (each-append (Up piece stream Stored n) fallback (restores ++ (ends ++ last)) up_fallback_part
      (each-append (Up piece stream Stored n) restores (ends ++ last) (up_restores saves saves_calm)
      (each-append (Up piece stream Stored n) ends last (up_endings list) (up_last end_rule)))) block low (omega (arith, high, one, a, b, c, d, e, f))

  -- ---- the end of a state in which a match can end

  module _ (s : ℕ) (lt : s < length auto.states) (halts : halting.halts s ≡ true) where
    abbrev own_accept : Option Accept
    own_accept = (state_of auto.states s).accept

    falls_calm : (state_of auto.states s).accept ≡ None → IsUp fall
    falls_calm none =
        let falls = (marked.falls s lt).1 (here s none ((marked.halts s lt).0 halts)) in
        let e : 0 + s ≡ s = omega arith in
        fall_calm (any_falls-one halting 0 auto.states s lt (ap (λ n. halting.falls n) e ∙ falls))

    accept_calm : (accept : Accept) → (state_of auto.states s).accept ≡ Some accept → IsUp (rules accept.rule)
    accept_calm accept is =
        rule_calm accept.rule (has_rule-ended halting auto.states s accept lt is (ap (λ t. t || is_saved halting (state_of auto.states s)) halts))

    pub end_calm : (own : ℕ) → StandsFrom blocks own (end_blocks auto rules fall (state_of auto.states s).accept)
        → IsUp (end_block auto rules fall own (state_of auto.states s).accept)
    end_calm own h = by (state_of auto.states s).accept refl h
      where
        by : (o : Option Accept) → (state_of auto.states s).accept ≡ o → StandsFrom (code_of piece.blocks) own (end_blocks auto rules fall o)
            → IsUp (end_block auto rules fall own o)
        by None is h = falls_calm is
        by (Some accept) is h = by_ops accept.ops h
          where
            by_ops : (ops : List Op) → StandsFrom (code_of piece.blocks) own (own_blocks auto rules fall (rules accept.rule) ops)
                → IsUp (own_block own (rules accept.rule) ops)
            by_ops [] h = accept_calm accept is
            by_ops (op ∷ ops) h =
                known piece stream Stored n own (accept_code auto (op ∷ ops) (rules accept.rule)) h.0
                (up_accept piece stream Stored n auto (op ∷ ops) (rules accept.rule)
                (lower piece stream Stored n (rules accept.rule) (accept_calm accept is)))

    -- a state without an edge
    pub lone_calm : (number own : ℕ) → StandsFrom blocks own (lone_blocks auto rules fall number (state_of auto.states s).accept)
        → IsUp (lone_place auto rules fall number own (state_of auto.states s).accept)
    lone_calm (suc number) own h = end_calm own h
    lone_calm zero own h = by (state_of auto.states s).accept refl h
      where
        by : (o : Option Accept) → (state_of auto.states s).accept ≡ o → StandsFrom (code_of piece.blocks) own (lone_blocks auto rules fall zero o) → IsUp own
        by None is h =
            known piece stream Stored n own (Goto fall ∷ []) h.0 (up_goto piece stream Stored n fall (lower piece stream Stored n fall (falls_calm is)))
        by (Some accept) is h =
            known piece stream Stored n own (accept_code auto accept.ops (rules accept.rule)) h.0
            (up_accept piece stream Stored n auto accept.ops (rules accept.rule)
            (lower piece stream Stored n (rules accept.rule) (accept_calm accept is)))
