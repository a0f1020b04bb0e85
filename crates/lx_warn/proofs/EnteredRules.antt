-- The rules that are entered are those that some stream chooses.
use Rattle.std.proofs.Common.{◌≡◌, ◌≢◌, inl, inr, ℕ, zero, suc, ◌<◌, ◌≤◌, List, [], ◌∷◌, ◌++◌, length, drop, Option, Some, None, IsTrue, Bool, true, false, Contains, refl, sym, ap, ◌∙◌, subst, arith, slice_get, is_some, if◌then◌else◌, ◌&&◌}
use Rattle.std.proofs.lemmas.Bool.{cases_lt}
use Rattle.std.proofs.lemmas.List.{take-append-drop}
use Rattle.std.specs.Prelude.{take}
use Rattle.std.proofs.Math.ListN.{get_or-eq_default}
use Rattle.lx_auto.proofs.OneEdge.{edge_on-is}
use Rattle.lx_auto.specs.Automaton.{IsAuto, state_of}
use Rattle.lx_auto.specs.MetStates.{AreMet, is_marked}
use Rattle.lx_auto.specs.Points.{IsMet}
use Rattle.lx_auto.specs.declared.automaton.Accept.{Accept}
use Rattle.lx_auto.specs.declared.automaton.Auto.{Auto}
use Rattle.lx_auto.specs.declared.automaton.Edge.{Edge}
use Rattle.lx_base.specs.Spelling.{greatest_unit}
use Rattle.lx_base.specs.declared.settings.Enc.{Enc}
use Rattle.lx_regex.specs.Kernel.{IsWord}
use Rattle.lx_regex.specs.Limits.{AreRegular}
use Rattle.lx_regex.specs.Match.{IsEnd, IsLongestFirst, IsMatch, Outcome, Takes, at_end, by_none, by_rule, matched}
use Rattle.lx_regex.specs.Order.{Policy}
use Rattle.lx_regex.specs.Pattern.{Pattern, end_rule, patterns_of, terms_of, with_terms}
use Rattle.lx_regex.specs.Values.{Value}
use Rattle.lx_regex.specs.declared.rules.Rule.{Rule}
use Rattle.lx_tdfa.specs.KernelStates.{next, target_of}
use Rattle.lx_tdfa.specs.Promise.{IsAutoUnder}
use Rattle.lx_tdfa.specs.Searches.{and_then, walk}
use Rattle.lx_warn.proofs.Chosen.{chosen-before, chosen-end, chosen-whole}
use Rattle.lx_warn.proofs.Links.{accepting-taken, one-taker, taken-accepting}
use Rattle.lx_warn.proofs.MetWords.{IsWord-back, IsWord-front, edge-first, edge-units, met-push, met-word, word-met, word-returns}
use Rattle.lx_warn.specs.Entered.{IsEnteredBelow, MayStopAtOnce, StartEnters, counts, number_of, rule_at}
use Rattle.lx_warn.specs.Graph.{edge_from}
use Rattle.lx_warn.specs.Warnings.{IsChosen}

number_of-some : (accept : Option Accept) (number : ℕ) → number_of accept ≡ Some number → (found : Accept) × (accept ≡ Some found) × (found.rule ≡ number)
number_of-some None number is = absurd (cc is)
number_of-some (Some accept) number is = (accept, refl, let same : accept.rule ≡ number = cc is in same)

-- what a rule at a state says
rule_at-some : (auto : Auto) (marks : List Bool) (start : Bool) (state number : ℕ) → rule_at auto marks start state ≡ Some number
    → (is_marked marks state ≡ true) × (counts start state ≡ true)
    × ((found : Accept) × ((state_of auto.states state).accept ≡ Some found) × (found.rule ≡ number))
rule_at-some auto marks start state number is = at (is_marked marks state) (counts start state) refl refl is
  where
    at : (a b : Bool) → is_marked marks state ≡ a → counts start state ≡ b
        → (if a && b then number_of (state_of auto.states state).accept else None) ≡ Some number
        → (is_marked marks state ≡ true) × (counts start state ≡ true)
        × ((found : Accept) × ((state_of auto.states state).accept ≡ Some found) × (found.rule ≡ number))
    at true true one two is = (one, two, number_of-some (state_of auto.states state).accept number is)
    at true false one two is = absurd (cc is)
    at false b one two is = absurd (cc is)

accepts-none : (accept : Option Accept) → is_some accept ≡ false → accept ≡ None
accepts-none None is = refl
accepts-none (Some accept) is = absurd (cc is)

module _ (policy given : Policy) (enc : Enc) (rules : List Rule) (auto : Auto) (is : IsAutoUnder given enc (patterns_of rules) auto)
    (regular : AreRegular rules) (marks : List Bool) (met : AreMet auto marks) (start : Bool)
    (enters : IsTrue start → StartEnters enc auto marks (end_rule (patterns_of rules)))
    (entered : StartEnters enc auto marks (end_rule (patterns_of rules)) → IsTrue start) where
  abbrev patterns : List Pattern
  patterns = patterns_of rules

  abbrev formed : IsAuto auto
  formed = is.fits.formed

  -- ---- what is entered is chosen

  -- a word that is not empty
  by-word : (word : List ℕ) (state number : ℕ) (accept : Accept) → word ≢ [] → IsWord enc (terms_of patterns) word
      → walk (next auto) 0 word ≡ Some state → (state_of auto.states state).accept ≡ Some accept → accept.rule ≡ number
      → IsChosen policy enc patterns number
  by-word word state number accept longer units comes accepted same =
      subst (IsChosen policy enc patterns) same
      (chosen-whole policy enc rules regular word accept.rule units (accepting-taken given enc patterns auto is word state accept comes accepted)
      (λ rule empty end. longer empty))

  -- the empty word, where no rule takes one unit
  by-unit : (unit number : ℕ) (accept : Accept) → unit ≤ greatest_unit enc → (state_of auto.states 0).accept ≡ Some accept → accept.rule ≡ number
      → ((state : ℕ) → next auto 0 unit ≡ Some state → (state_of auto.states state).accept ≡ None) → IsChosen policy enc patterns number
  by-unit unit number accept most accepted same quiet =
      subst (IsChosen policy enc patterns) same
      (chosen-before policy enc rules regular unit accept.rule (most, tt) (accepting-taken given enc patterns auto is [] 0 accept refl accepted) untaken)
    where
      at : (place : ℕ) → Takes enc patterns place (unit ∷ [])
          → (state : ℕ) × (found : Accept) × (walk (next auto) 0 (unit ∷ []) ≡ Some state) × ((state_of auto.states state).accept ≡ Some found) → ⊥
      at place takes (state, found, comes, accepts_it) =
          by (next auto 0 unit) refl comes
        where
          none : None ≡ Some found → ⊥
          none e = cc

          by : (onward : Option ℕ) → next auto 0 unit ≡ onward
              → and_then onward (λ last. Some last) ≡ Some state → ⊥
          by None leads comes = cc comes
          by (Some last) leads comes =
              let one : last ≡ state = cc comes in
              none (sym (quiet last leads) ∙ ap (λ s. (state_of auto.states s).accept) one ∙ accepts_it)

      untaken : (place : ℕ) → Takes enc patterns place (unit ∷ []) → ⊥
      untaken place takes = at place takes (taken-accepting given enc patterns auto is (unit ∷ []) place (most, tt) takes)

  by-start : (number : ℕ) (accept : Accept) → (state_of auto.states 0).accept ≡ Some accept → accept.rule ≡ number
      → StartEnters enc auto marks (end_rule patterns) → IsChosen policy enc patterns number
  by-start number accept accepted same (inl no_end) =
      subst (IsChosen policy enc patterns) same
      (chosen-whole policy enc rules regular [] accept.rule tt (accepting-taken given enc patterns auto is [] 0 accept refl accepted)
      (λ rule empty end. never rule (sym no_end ∙ end)))
    where
      never : (rule : ℕ) → None ≡ Some rule → ⊥
      never rule e = cc
  by-start number accept accepted same (inr (inl (inl (unit, gap)))) =
      by-unit unit number accept gap.0 accepted same (λ state leads. absurd (never state (sym (ap target_of gap.1) ∙ leads)))
    where
      never : (state : ℕ) → None ≡ Some state → ⊥
      never state e = cc
  by-start number accept accepted same (inr (inl (inr (edge, has, quiet)))) =
      let most : edge.hi ≤ greatest_unit enc = edge-units enc patterns auto is.fits 0 edge has in
      let on = edge-first auto formed 0 edge has in
      let forwards : edge.lo ≤ edge.hi = (edge_on-is (state_of auto.states 0).edges edge.lo edge on).2 in
      by-unit edge.lo number accept (omega arith) accepted same
      (λ state leads.
      let both : Some edge.to ≡ Some state = sym (ap target_of on) ∙ leads in
      let one : edge.to ≡ state = cc both in
      ap (λ s. (state_of auto.states s).accept) (sym one) ∙ accepts-none (state_of auto.states edge.to).accept quiet)
  by-start number accept accepted same (inr (inr (state, (marked, (edge, has, to))))) =
      at (met-push enc patterns auto is.fits state edge (met.sound state marked) has)
    where
      longer : (word : List ℕ) (unit : ℕ) → word ++ unit ∷ [] ≡ [] → ⊥
      longer [] unit empty = cc
      longer (first ∷ word) unit empty = cc

      at : (word : List ℕ) × (unit : ℕ) × IsWord enc (terms_of patterns) (word ++ unit ∷ []) × (walk (next auto) 0 (word ++ unit ∷ []) ≡ Some edge.to)
          → IsChosen policy enc patterns number
      at (word, unit, units, comes) =
          by-word (word ++ unit ∷ []) 0 number accept (longer word unit) units (comes ∙ ap Some to) accepted same

  pub entered-chosen : (bound number : ℕ) → IsEnteredBelow (rule_at auto marks start) (end_rule patterns) bound number
      → IsChosen policy enc patterns number
  entered-chosen bound number (inl end) = chosen-end policy enc patterns number end
  entered-chosen bound number (inr (state, lt, entering)) = at state (rule_at-some auto marks start state number entering)
    where
      longer : (word : List ℕ) (state : ℕ) → walk (next auto) 0 word ≡ Some (suc state) → word ≡ [] → ⊥
      longer [] state comes empty = let same : 0 ≡ suc state = cc comes in omega arith
      longer (first ∷ word) state comes empty = cc

      by : (state : ℕ) (accept : Accept) → (state_of auto.states (suc state)).accept ≡ Some accept → accept.rule ≡ number
          → (word : List ℕ) × IsWord enc (terms_of patterns) word × (walk (next auto) 0 word ≡ Some (suc state)) → IsChosen policy enc patterns number
      by state accept accepted same (word, units, comes) =
          by-word word (suc state) number accept (longer word state comes) units comes accepted same

      at : (state : ℕ) → (is_marked marks state ≡ true) × (counts start state ≡ true)
          × ((found : Accept) × ((state_of auto.states state).accept ≡ Some found) × (found.rule ≡ number))
          → IsChosen policy enc patterns number
      at zero (marked, counted, (accept, accepted, same)) = by-start number accept accepted same (enters counted)
      at (suc state) (marked, counted, (accept, accepted, same)) =
          by state accept accepted same (met-word enc patterns auto is.fits (suc state) (met.sound (suc state) marked))

  -- ---- what is chosen is entered

  -- the first unit of what is left of a stream that has not ended
  first-left : (stream : List ℕ) (begun : ℕ) → begun ≤ length stream → begun ≢ length stream
      → (unit : ℕ) × (rest : List ℕ) × (drop begun stream ≡ unit ∷ rest)
  first-left [] begun within differs = absurd (differs (omega arith))
  first-left (unit ∷ stream) zero within differs = (unit, stream, refl)
  first-left (unit ∷ stream) (suc begun) within differs =
      first-left stream begun (omega arith) (λ same. differs (ap suc same))

  -- where the longest match is empty, the start may stop at once, or nothing is left
  stops-at-once : (unit : ℕ) → unit ≤ greatest_unit enc → ((place : ℕ) → Takes enc patterns place (unit ∷ []) → ⊥) → MayStopAtOnce enc auto
  stops-at-once unit most untaken = at (edge_from auto 0 unit) refl
    where
      by : (edge : Edge) (accept : Option Accept) → edge_from auto 0 unit ≡ Some edge → (state_of auto.states edge.to).accept ≡ accept
          → MayStopAtOnce enc auto
      by edge None on accepted =
          inr (edge, (edge_on-is (state_of auto.states 0).edges unit edge on).0, ap (λ a. is_some a) accepted)
      by edge (Some accept) on accepted =
          let comes : walk (next auto) 0 (unit ∷ []) ≡ Some edge.to = ap (λ e. and_then (target_of e) (λ last. Some last)) on in
          let taker = accepting-taken given enc patterns auto is (unit ∷ []) edge.to accept comes accepted in
          absurd (untaken taker.place taker.takes)

      at : (found : Option Edge) → edge_from auto 0 unit ≡ found → MayStopAtOnce enc auto
      at None on = inl (unit, (most, on))
      at (Some edge) on = by edge (state_of auto.states edge.to).accept on refl

  rule_at-is : (state : ℕ) (accept : Accept) → is_marked marks state ≡ true → counts start state ≡ true
      → (state_of auto.states state).accept ≡ Some accept → rule_at auto marks start state ≡ Some accept.rule
  rule_at-is state accept marked counted accepted =
      ap (λ a. if a && counts start state then number_of (state_of auto.states state).accept else None) marked
      ∙ ap (λ b. if true && b then number_of (state_of auto.states state).accept else None) counted ∙ ap number_of accepted

  module _ (stream : List ℕ) (begun : ℕ) (within : begun ≤ length stream) (units : IsWord enc (terms_of patterns) stream) where
    units-left : IsWord enc (terms_of patterns) (drop begun stream)
    units-left =
        IsWord-back enc (terms_of patterns) (take begun stream) (drop begun stream)
        (subst (IsWord enc (terms_of patterns)) (sym (take-append-drop begun stream)) units)

    -- the start counts where its match is the longest
    start-counts : (place : ℕ) → ((rule : ℕ) → IsEnd policy enc patterns stream begun rule → ⊥)
        → IsLongestFirst policy enc patterns stream begun [] place → StartEnters enc auto marks (end_rule patterns)
    start-counts place no_end longest = at (end_rule patterns) refl
      where
        by : (unit : ℕ) × (rest : List ℕ) × (drop begun stream ≡ unit ∷ rest) → MayStopAtOnce enc auto
        by (unit, rest, left) =
            let here = subst (IsWord enc (terms_of patterns)) left units-left in
            stops-at-once unit here.0 (λ taker takes.
            let short : length (unit ∷ []) ≤ length {A = ℕ} [] = longest.longest (unit ∷ []) taker (rest, left) takes in omega (arith, short))

        at : (end : Option ℕ) → end_rule patterns ≡ end → StartEnters enc auto marks (end_rule patterns)
        at None end = inl end
        at (Some rule) end = inr (inl (by (first-left stream begun within (λ same. no_end rule (same, end)))))

    counts-for : (word : List ℕ) (place state : ℕ) → ((rule : ℕ) → IsEnd policy enc patterns stream begun rule → ⊥)
        → IsLongestFirst policy enc patterns stream begun word place → walk (next auto) 0 word ≡ Some state → counts start state ≡ true
    counts-for word place (suc state) no_end longest comes = refl
    counts-for [] place zero no_end longest comes = entered (start-counts place no_end longest)
    counts-for (unit ∷ word) place zero no_end longest comes = at (word-returns auto formed word unit comes)
      where
        at : (from : ℕ) × (edge : Edge) × IsMet auto from × Contains (state_of auto.states from).edges edge × (edge.to ≡ 0) → start ≡ true
        at (from, edge, reached, has, to) = entered (inr (inr (from, (met.complete from reached, (edge, has, to)))))

    by-match : (word : List ℕ) (place number : ℕ) (pattern : Pattern) → ((rule : ℕ) → IsEnd policy enc patterns stream begun rule → ⊥)
        → IsLongestFirst policy enc patterns stream begun word place → slice_get (with_terms patterns) place ≡ Some pattern
        → pattern.number ≡ number → IsEnteredBelow (rule_at auto marks start) (end_rule patterns) (length auto.states) number
    by-match word place number pattern no_end longest is_pattern same =
        at (taken-accepting given enc patterns auto is word place word-units longest.takes)
      where
        word-units : IsWord enc (terms_of patterns) word
        word-units = IsWord-front enc (terms_of patterns) word longest.is_word.0 (subst (IsWord enc (terms_of patterns)) longest.is_word.1 units-left)

        at : (state : ℕ) × (accept : Accept) × (walk (next auto) 0 word ≡ Some state) × ((state_of auto.states state).accept ≡ Some accept)
            → IsEnteredBelow (rule_at auto marks start) (end_rule patterns) (length auto.states) number
        at (state, accept, comes, accepted) =
            let taker = accepting-taken given enc patterns auto is word state accept comes accepted in
            let rule = one-taker enc patterns word accept.rule taker place pattern is_pattern longest.takes longest.first in
            let marked = met.complete state (word-met auto formed word state comes) in
            inr (
              state,
              marked-below state marked,
              rule_at-is state accept marked (counts-for word place state no_end longest comes) accepted ∙ ap Some (sym rule ∙ same),
            )
          where
            marked-below : (state : ℕ) → is_marked marks state ≡ true → state < length auto.states
            marked-below state marked = elim (cases_lt state (length auto.states)) [
              | inl lt ↦ lt
              | inr ge ↦
                  let fit : length marks ≡ length auto.states = met.fit in
                  let beyond : length marks ≤ state = omega arith in
                  absurd (never (sym (get_or-eq_default marks false beyond) ∙ marked))
            ]
              where
                never : false ≡ true → ⊥
                never e = cc

    by-outcome : (number cursor : ℕ) (values : List Value) (outcome : Outcome) → IsMatch policy enc patterns stream begun outcome
        → outcome ≡ matched number cursor values → IsEnteredBelow (rule_at auto marks start) (end_rule patterns) (length auto.states) number
    by-outcome number cursor values _ (at_end rule end) same = inl (end.1 ∙ (let one : rule ≡ number = cc in ap Some one))
    by-outcome number cursor values _ (by_rule word place pattern at_cursor its no_end longest is_pattern answer) same =
        by-match word place number pattern no_end longest is_pattern (let one : pattern.number ≡ number = cc in one)
    by-outcome number cursor values _ (by_none word no_end longest) same = absurd (let h = same in cc)

  pub chosen-entered : (number : ℕ) → IsChosen policy enc patterns number
      → IsEnteredBelow (rule_at auto marks start) (end_rule patterns) (length auto.states) number
  chosen-entered number chosen =
      by-outcome chosen.stream chosen.start chosen.within chosen.units number chosen.cursor chosen.values
      (matched number chosen.cursor chosen.values) chosen.has_match refl
