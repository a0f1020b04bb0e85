-- Each block of a layout with a supply of units is of a closed sort of blocks, if the entry is, and each state is met.
use Rattle.std.specs.Prelude.{◌≡◌, ℕ, zero, suc, ◌+◌, ◌<◌, ◌≤◌, Bool, true, false, All, IsSome, List, [], ◌∷◌, ◌++◌, length, Option, Some, None, ◌&&◌, ◌||◌, is_some, refl, slice_get}
use Rattle.std.proofs.Common.{sym, ap, ◌∙◌, subst, arith, true≢false}
use Rattle.std.specs.List.{AllByRecursion}
use Rattle.lx_auto.specs.Automaton.{IsAuto, state_of}
use Rattle.lx_auto.specs.declared.automaton.Accept.{Accept}
use Rattle.lx_auto.specs.declared.automaton.Auto.{Auto}
use Rattle.lx_auto.specs.declared.automaton.Edge.{Edge}
use Rattle.lx_auto.specs.declared.automaton.State.{State}
use Rattle.lx_ccode.specs.declared.piece.Stmt.{Stmt}
use Rattle.lx_dispatch.specs.Dispatch.{top_of}
use Rattle.lx_dispatch.specs.TestTrees.{PicksAs, TestTree}
use Rattle.lx_layout.specs.Codes.{Choice, restore_code}
use Rattle.lx_layout.specs.Endings.{Ending}
use Rattle.lx_layout.specs.Fallback.{fallback_code}
use Rattle.lx_layout.specs.Halting.{AreHalting, Falls, Halting, any_falls, ended_accept, ended_accepts, here, is_saved, onward, saved_accept, saved_accepts}
use Rattle.lx_layout.specs.Layout.{StandsFrom, choices_from, ending_blocks, restore_blocks, rule_place}
use Rattle.lx_layout.specs.LiveBlocks.{HasMetStates}
use Rattle.lx_layout.specs.SuppliedLayout.{EachReader, end_rule_block, end_rule_part, entry_of, entry_part, fall_block, fallback_part, first_restore, first_rule, kept, place_of, rule_block, state_blocks, state_size, states_begin, states_blocks, states_part, supplied_layout}
use Rattle.lx_layout.specs.Supplies.{Reader, Supply}
use Rattle.lx_layout.proofs.BlockLayouts.CodesInBlocks.{StandsFrom-front, StandsFrom-get}
use Rattle.lx_layout.proofs.BlockLayouts.LayoutLengths.{length-ending_blocks, length-restore_blocks}
use Rattle.lx_layout.proofs.LiveBlocks.FoundStates.{any_found, falling_found}
use Rattle.lx_layout.proofs.LiveBlocks.LedCodes.{leads-fallback, leads-restore}
use Rattle.lx_layout.proofs.LiveBlocks.LedEnds.{IsEndLed}
use Rattle.lx_layout.proofs.LiveBlocks.LedReaders.{IsClosed}
use Rattle.lx_layout.proofs.LiveBlocks.LedTrees.{AllFrom, all_from-parts}
use Rattle.lx_layout.proofs.LiveBlocks.LedWays.{all_from-each}
use Rattle.lx_layout.proofs.LiveBlocks.MetPlaces.{IsApartLed, apart_led, state_led, step_within}
use Rattle.lx_layout.proofs.Rules.RuleBlocks.{restore_stands}
use Rattle.lx_layout.proofs.ScannerLaws.RulePlaces.{own_place, own_rules}
use Rattle.lx_layout.proofs.SuppliedLayouts.FirstsFrom.{each-firsts_from, has_rule-saved, kept_some}
use Rattle.lx_layout.proofs.SuppliedLayouts.LayoutServes.{behind_fallback, fallback_stands}
use Rattle.lx_layout.proofs.SuppliedLayouts.Lengths.{length-entry_part, length-fallback_part, length-state_blocks, length-states_blocks}
use Rattle.lx_layout.proofs.SuppliedLayouts.OwnBlocks.{each_from-get}
use Rattle.lx_layout.proofs.SuppliedLayouts.Places.{begin_in}
use Rattle.lx_layout.proofs.SuppliedLayouts.WholeLayout.{any_falls-one}

and_parts : (t u : Bool) → (t && u) ≡ true → (t ≡ true) × (u ≡ true)
and_parts true u e = (refl, e)
and_parts false u e = absurd (true≢false (sym e))

module _ (R : ℕ → Type 0) where
  -- the blocks of states one by one
  each_states : (supply : Supply) (halting : Halting) (end_rule : Option ℕ) (trees : Reader → TestTree (Option ℕ)) (auto : Auto)
      (rules : ℕ → ℕ) (fall begin : ℕ)
      (saves : List Accept) (place : ℕ → ℕ) (number from : ℕ) (states : List State)
      → ((s : ℕ) → s < length states → AllFrom R (begin_in supply halting end_rule trees auto number from states s)
      (state_blocks supply halting end_rule trees auto rules fall begin saves place (number + s)
      (begin_in supply halting end_rule trees auto number from states s)
      (state_of states s)))
      → AllFrom R from (states_blocks supply halting end_rule trees auto rules fall begin saves place number from states)
  each_states supply halting end_rule trees auto rules fall begin saves place number from [] each = tt
  each_states supply halting end_rule trees auto rules fall begin saves place number from (given ∷ states) each =
      let size = length-state_blocks supply halting end_rule trees auto rules fall begin saves place number from given in
      let same : number + 0 ≡ number = omega arith in
      all_from-parts R from (from + state_size supply halting end_rule trees auto number given)
      (state_blocks supply halting end_rule trees auto rules fall begin saves place number from given)
      (states_blocks supply halting end_rule trees auto rules fall begin saves place (suc number)
      (from + state_size supply halting end_rule trees auto number given) states)
      (ap (λ n. from + n) size)
      (subst (λ n. AllFrom R from (state_blocks supply halting end_rule trees auto rules fall begin saves place n from given)) same
      (each 0 (omega arith)))
      (each_states supply halting end_rule trees auto rules fall begin saves place (suc number)
      (from + state_size supply halting end_rule trees auto number given) states
      (λ s lt.
      let e : number + suc s ≡ suc number + s = omega arith in
      subst (λ n. AllFrom R
      (begin_in supply halting end_rule trees auto (suc number)
      (from + state_size supply halting end_rule trees auto number given) states s)
      (state_blocks supply halting end_rule trees auto rules fall begin saves place n
      (begin_in supply halting end_rule trees auto (suc number)
      (from + state_size supply halting end_rule trees auto number given) states s)
      (state_of states s))) e (each (suc s) (omega (arith, lt)))))

  -- the blocks of choices
  restores_from : (rules : ℕ → ℕ) (saved block : ℕ) (list : List Accept)
      → AllByRecursion (λ (choice : Choice). R choice.block) (choices_from saved block list)
      → AllFrom R block (restore_blocks rules list)
  restores_from rules saved block [] h = tt
  restores_from rules saved block (accept ∷ list) h = (h.0, restores_from rules (suc saved) (suc block) list h.1)

module _ (R : ℕ → Type 0) (blocks : List (List Stmt)) (closed : IsClosed R blocks) (supply : Supply) (halting : Halting)
    (endings : ℕ → Ending)
    (end_rule : Option ℕ) (greatest : ℕ) (trees : Reader → TestTree (Option ℕ)) (auto : Auto) (begin : ℕ)
    (stands : StandsFrom blocks begin (supplied_layout supply halting endings end_rule trees auto begin)) (formed : IsAuto auto)
    (within : All (λ (state : State). All (λ (edge : Edge). edge.hi ≤ greatest) state.edges) auto.states)
    (are : EachReader (PicksAs (top_of supply.eof greatest) supply.among) supply.eof greatest trees auto)
    (some_unit : IsSome end_rule → IsSome supply.eof) (enters : R (entry_of supply halting end_rule trees auto begin))
    (met : HasMetStates auto) (marked : AreHalting supply.eof end_rule greatest auto halting) where
  abbrev saves : List Accept
  saves = saved_accepts halting auto.states

  abbrev ended : List Accept
  ended = ended_accepts halting auto.states

  abbrev rules : ℕ → ℕ
  rules = rule_block supply halting end_rule trees auto begin

  abbrev fall : ℕ
  fall = fall_block supply halting end_rule trees auto begin

  abbrev place : ℕ → ℕ
  place = place_of supply halting end_rule trees auto begin

  abbrev start : ℕ
  start = states_begin supply halting end_rule trees auto begin

  abbrev restore : ℕ
  restore = first_restore supply halting end_rule trees auto begin

  abbrev given : ℕ → State
  given s = state_of auto.states s

  led : (s : ℕ) → s < length auto.states
      → AllFrom R (begin_in supply halting end_rule trees auto 0 start auto.states s)
      (state_blocks supply halting end_rule trees auto rules fall begin saves place s
      (begin_in supply halting end_rule trees auto 0 start auto.states s) (given s))
      × (halting.halts s ≡ true → IsEndLed R blocks closed auto rules fall (given s).accept)
  led s lt =
      state_led R blocks closed supply halting endings end_rule greatest trees auto begin stands formed within are some_unit enters met
      marked s lt

  -- ---- the entry, and the end of its rule

  apart : (rule : ℕ) → end_rule ≡ Some rule
      → IsApartLed R blocks closed supply halting endings end_rule greatest trees auto begin stands formed within are some_unit enters
  apart rule is =
      apart_led R blocks closed supply halting endings end_rule greatest trees auto begin stands formed within are some_unit enters rule is

  entry_row : AllFrom R begin (entry_part supply halting end_rule trees auto begin end_rule)
  entry_row = by end_rule refl
    where
      by : (o : Option ℕ) → end_rule ≡ o → AllFrom R begin (entry_part supply halting end_rule trees auto begin o)
      by None is = tt
      by (Some rule) is = subst (λ o. AllFrom R begin (entry_part supply halting end_rule trees auto begin o)) is (apart rule is).all

  end_rule_row : AllFrom R (end_rule_block supply halting end_rule trees auto begin) (end_rule_part endings end_rule)
  end_rule_row = by end_rule refl
    where
      by : (o : Option ℕ) → end_rule ≡ o → AllFrom R (end_rule_block supply halting end_rule trees auto begin) (end_rule_part endings o)
      by None is = tt
      by (Some rule) is = ((apart rule is).end, tt)

  -- ---- the states

  states_row : AllFrom R start (states_part supply halting end_rule trees auto begin)
  states_row =
      each_states R supply halting end_rule trees auto rules fall begin saves place 0 start auto.states
      (λ s lt.
      let e : s ≡ 0 + s = omega arith in
      subst (λ n. AllFrom R (begin_in supply halting end_rule trees auto 0 start auto.states s)
      (state_blocks supply halting end_rule trees auto rules fall begin saves place n
      (begin_in supply halting end_rule trees auto 0 start auto.states s) (given s)))
      e (led s lt).0)

  -- ---- the fallback

  -- a match that falls back comes to a state in which it ends by no accept
  falls_led : (s : ℕ) → Falls supply.eof end_rule greatest auto s → s < length auto.states → R fall
  falls_led s (here number none halts) lt =
      subst (λ o. IsEndLed R blocks closed auto rules fall o) none ((led number lt).1 ((marked.halts number lt).1 halts))
  falls_led s (onward number edge none has falls) lt =
      falls_led edge.to falls
      (step_within R blocks closed supply halting endings end_rule greatest trees auto begin stands formed within are some_unit enters
      number edge has)

  some_falls : any_falls halting 0 auto.states ≡ true → R fall
  some_falls some =
      let found = falling_found halting 0 auto.states some in
      let e : 0 + found.0 ≡ found.0 = omega arith in
      let falls : halting.falls found.0 ≡ true = ap (λ n. halting.falls n) (sym e) ∙ found.2 in
      falls_led found.0 ((marked.falls found.0 found.1).0 falls) found.1

  fallback_row : AllFrom R fall (fallback_part halting auto restore)
  fallback_row = by (any_falls halting 0 auto.states) refl
    where
      by : (t : Bool) → any_falls halting 0 auto.states ≡ t
          → AllFrom R fall (kept t (fallback_code (halting.falls 0) (choices_from 1 restore (saved_accepts halting auto.states)) ∷ []))
      by false e = tt
      by true e = (some_falls e, tt)

  -- a state is saved on an edge to one from which a match falls back
  saved_falls : (s : ℕ) → s < length auto.states → is_saved halting (given s) ≡ true → any_falls halting 0 auto.states ≡ true
  saved_falls s lt saved =
      let found = any_found (λ (edge : Edge). is_some (given s).accept && halting.falls edge.to) (given s).edges saved in
      let falls = (and_parts (is_some (given s).accept) (halting.falls found.0.to) found.2).1 in
      let to =
      step_within R blocks closed supply halting endings end_rule greatest trees auto begin stands formed within are some_unit enters s
      found.0 found.1 in
      let e : 0 + found.0.to ≡ found.0.to = omega arith in
      any_falls-one halting 0 auto.states found.0.to to (ap (λ n. halting.falls n) e ∙ falls)

  saves_fall : AllByRecursion (λ (accept : Accept). any_falls halting 0 auto.states ≡ true) (saved_accepts halting auto.states)
  saves_fall =
      each-firsts_from halting (saved_accept halting) (λ (accept : Accept). any_falls halting 0 auto.states ≡ true) [] 0 auto.states tt
      (λ s accept lt chosen. saved_falls s lt (kept_some (is_saved halting (given s)) (given s).accept accept chosen).0)

  choices_led : any_falls halting 0 auto.states ≡ true
      → AllByRecursion (λ (choice : Choice). R choice.block) (choices_from 1 restore (saved_accepts halting auto.states))
  choices_led some =
      leads-fallback R (halting.falls 0) (choices_from 1 restore (saved_accepts halting auto.states))
      (closed.goes fall (fallback_code (halting.falls 0) (choices_from 1 restore (saved_accepts halting auto.states)))
      (fallback_stands supply halting endings end_rule greatest trees auto begin blocks stands some) (some_falls some))

  restores_row : AllFrom R restore (restore_blocks rules (saved_accepts halting auto.states))
  restores_row = by (saved_accepts halting auto.states) refl saves_fall
    where
      by : (list : List Accept) → saved_accepts halting auto.states ≡ list
          → AllByRecursion (λ (accept : Accept). any_falls halting 0 auto.states ≡ true) list
          → AllFrom R restore (restore_blocks rules list)
      by [] is all = tt
      by (accept ∷ list) is all =
          restores_from R rules 1 restore (accept ∷ list)
          (subst (λ l. AllByRecursion (λ (choice : Choice). R choice.block) (choices_from 1 restore l)) is (choices_led all.0))

  -- ---- the ends of rules

  -- the rule of a state that is saved
  restored : (s : ℕ) (accept : Accept) → s < length auto.states → (given s).accept ≡ Some accept → is_saved halting (given s) ≡ true
      → R (rules accept.rule)
  restored s accept lt is saved =
      let code = restore_stands rules saves accept.rule (has_rule-saved halting auto.states s accept lt is saved) in
      let at : R (restore + rule_place saves accept.rule) =
      each_from-get (λ block code. R block) restore (restore_blocks rules saves) (rule_place saves accept.rule)
      (restore_code (rules accept.rule)) restores_row
      code in
      leads-restore R (rules accept.rule)
      (closed.goes (restore + rule_place saves accept.rule) (restore_code (rules accept.rule))
      (StandsFrom-get blocks restore (rule_place saves accept.rule) (restore_blocks rules saves) (restore_code (rules accept.rule))
      (StandsFrom-front blocks restore (restore_blocks rules saves) (ending_blocks endings ended ++ end_rule_part endings end_rule)
      (behind_fallback supply halting endings end_rule greatest trees auto begin blocks stands)) code) at)

  rule_led : (s : ℕ) (accept : Accept) → s < length auto.states → (given s).accept ≡ Some accept
      → (halting.halts s || is_saved halting (given s)) ≡ true → R (rules accept.rule)
  rule_led s accept lt is ends = by (halting.halts s) refl ends
    where
      by : (t : Bool) → halting.halts s ≡ t → (t || is_saved halting (given s)) ≡ true → R (rules accept.rule)
      by true halts ends = subst (λ o. IsEndLed R blocks closed auto rules fall o) is ((led s lt).1 halts)
      by false halts saved = restored s accept lt is saved

  rules_led : AllByRecursion (λ (accept : Accept). R (rules accept.rule)) (ended_accepts halting auto.states)
  rules_led =
      each-firsts_from halting (ended_accept halting) (λ (accept : Accept). R (rules accept.rule)) [] 0 auto.states tt
      (λ s accept lt chosen.
      let e : 0 + s ≡ s = omega arith in
      let kept = kept_some (halting.halts (0 + s) || is_saved halting (given s)) (given s).accept accept chosen in
      rule_led s accept lt kept.1 (ap (λ n. halting.halts n || is_saved halting (given s)) (sym e) ∙ kept.0))

  -- each stands at the place of its rule
  rules_row : AllFrom R (first_rule supply halting end_rule trees auto begin) (ending_blocks endings (ended_accepts halting auto.states))
  rules_row =
      all_from-each R (first_rule supply halting end_rule trees auto begin) (ending_blocks endings (ended_accepts halting auto.states))
      (λ k lt.
      let long = length-ending_blocks endings (ended_accepts halting auto.states) in
      let one = some_at (ended_accepts halting auto.states) k (omega (arith, lt, long)) rules_led in
      subst (λ n. R (first_rule supply halting end_rule trees auto begin + n))
      (own_place (ended_accepts halting auto.states) k one.0 (own_rules halting (ended_accept halting) [] 0 auto.states tt) one.1) one.2)
    where
      some_at : (list : List Accept) (k : ℕ) → k < length list → AllByRecursion (λ (accept : Accept). R (rules accept.rule)) list
          → (accept : Accept) × (slice_get list k ≡ Some accept) × R (rules accept.rule)
      some_at [] k lt all = absurd (omega (arith, lt))
      some_at (accept ∷ list) zero lt all = (accept, refl, all.0)
      some_at (accept ∷ list) (suc k) lt all = some_at list k (omega (arith, lt)) all.1

  -- ---- the whole

  pub layout_led : AllFrom R begin (supplied_layout supply halting endings end_rule trees auto begin)
  layout_led =
      let states : List (List Stmt) = states_part supply halting end_rule trees auto begin in
      let fallback : List (List Stmt) = fallback_part halting auto (first_restore supply halting end_rule trees auto begin) in
      let restores : List (List Stmt) = restore_blocks rules (saved_accepts halting auto.states) in
      let ends : List (List Stmt) = ending_blocks endings (ended_accepts halting auto.states) in
      let last : List (List Stmt) = end_rule_part endings end_rule in
      all_from-parts R begin start (entry_part supply halting end_rule trees auto begin end_rule)
      (states ++ (fallback ++ (restores ++ (ends ++ last))))
      (ap (λ n. begin + n) (length-entry_part supply halting endings end_rule trees auto begin end_rule)) entry_row
      (all_from-parts R start fall (states_part supply halting end_rule trees auto begin) (fallback ++ (restores ++ (ends ++ last)))
      (length-states_blocks supply halting end_rule trees auto rules fall begin saves place 0 start auto.states) states_row
      (all_from-parts R fall restore (fallback_part halting auto restore) (restores ++ (ends ++ last))
      (ap (λ n. fall + n) (length-fallback_part halting auto restore)) fallback_row
      (all_from-parts R restore (first_rule supply halting end_rule trees auto begin)
      (restore_blocks rules (saved_accepts halting auto.states)) (ends ++ last)
      (ap (λ n. restore + n) (length-restore_blocks rules saves)) restores_row
      (all_from-parts R (first_rule supply halting end_rule trees auto begin) (end_rule_block supply halting end_rule trees auto begin)
      (ending_blocks endings (ended_accepts halting auto.states)) last
      (ap (λ n. first_rule supply halting end_rule trees auto begin + n) (length-ending_blocks endings ended)) rules_row end_rule_row))))
