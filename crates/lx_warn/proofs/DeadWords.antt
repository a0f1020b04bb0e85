-- Dead words are those on which the automaton of the rules stops before it accepts.
use Rattle.std.proofs.Common.{◌≡◌, ◌≢◌, inl, inr, ℕ, ◌≤◌, List, [], ◌∷◌, ◌++◌, Option, Some, None, Bool, true, false, refl, sym, ap, ◌∙◌, subst, arith, append_assoc, append-nil, is_some, if◌then◌else◌}
use Rattle.lx_auto.proofs.OneEdge.{edge_on-is}
use Rattle.lx_auto.specs.Automaton.{state_of}
use Rattle.lx_auto.specs.declared.automaton.Accept.{Accept}
use Rattle.lx_auto.specs.declared.automaton.Auto.{Auto}
use Rattle.lx_auto.specs.declared.automaton.Edge.{Edge}
use Rattle.lx_base.specs.Spelling.{greatest_unit}
use Rattle.lx_base.specs.declared.settings.Enc.{Enc}
use Rattle.lx_regex.proofs.Trees.Beginnings.{front_begins}
use Rattle.lx_regex.specs.Cut.{BeginsMatch}
use Rattle.lx_regex.specs.Kernel.{IsWord}
use Rattle.lx_regex.specs.Match.{Takes}
use Rattle.lx_regex.specs.Order.{Policy}
use Rattle.lx_regex.specs.Pattern.{Pattern, terms_of}
use Rattle.lx_search.proofs.Scopes.{quiet-leads}
use Rattle.lx_search.specs.Scopes.{accepts, next_quiet, quiet}
use Rattle.lx_tdfa.proofs.LeastWords.SearchedWords.{walk-append, walk-push, walk-pushed}
use Rattle.lx_tdfa.proofs.LeastWords.WordOrder.{no_later-never}
use Rattle.lx_tdfa.specs.KernelStates.{next, target_of}
use Rattle.lx_tdfa.specs.Promise.{IsAutoUnder}
use Rattle.lx_tdfa.specs.Searches.{and_then, walk}
use Rattle.lx_tdfa.specs.Words.{IsNoLater}
use Rattle.lx_warn.proofs.Links.{accepting-taken, begins-walk, quiet-untaken, taken-begins, walk-begins}
use Rattle.lx_warn.proofs.MetWords.{IsWord-back, IsWord-front, IsWord-push, edge-units}
use Rattle.lx_warn.specs.Graph.{edge_from}
use Rattle.lx_warn.specs.Stops.{IsFirstStopping, IsStopping}
use Rattle.lx_warn.specs.Warnings.{IsDead, IsFirstDead}

-- ---- words

split-last : (first : ℕ) (rest : List ℕ) → (front : List ℕ) × (unit : ℕ) × (first ∷ rest ≡ front ++ unit ∷ [])
split-last first [] = ([], first, refl)
split-last first (second ∷ rest) = at (split-last second rest)
  where
    at : (front : List ℕ) × (unit : ℕ) × (second ∷ rest ≡ front ++ unit ∷ []) → (front : List ℕ) × (unit : ℕ) × (first ∷ second ∷ rest ≡ front ++ unit ∷ [])
    at (front, unit, is) = (first ∷ front, unit, ap (λ l. first ∷ l) is)

nothing-behind : (xs ys : List ℕ) → xs ++ ys ≡ [] → ys ≡ []
nothing-behind [] ys is = is
nothing-behind (x ∷ xs) ys is = absurd (let h = is in cc)

-- a front that leaves something of a word and a unit is a front of the word
shorter-front : (word : List ℕ) (unit : ℕ) (front back : List ℕ) → word ++ unit ∷ [] ≡ front ++ back → back ≢ []
    → (rest : List ℕ) × (word ≡ front ++ rest)
shorter-front word unit [] back is more = (word, refl)
shorter-front [] unit (first ∷ front) back is more =
    let tail : [] ≡ front ++ back = cc in absurd (more (nothing-behind front back (sym tail)))
shorter-front (letter ∷ word) unit (first ∷ front) back is more =
    let head : letter ≡ first = cc in
    let tail : word ++ unit ∷ [] ≡ front ++ back = cc in
    at head (shorter-front word unit front back tail more)
  where
    at : letter ≡ first → (rest : List ℕ) × (word ≡ front ++ rest) → (rest : List ℕ) × (letter ∷ word ≡ first ∷ (front ++ rest))
    at head (rest, is) = (rest, cc)

not-empty : (front : List ℕ) (unit : ℕ) → front ++ unit ∷ [] ≡ [] → ⊥
not-empty [] unit is = cc
not-empty (first ∷ front) unit is = cc

never-some : {X : Type 0} (x : X) → None ≡ Some x → ⊥
never-some x is = cc

-- ---- walks through states that accept nothing

module _ (auto : Auto) where
  quiet-next : (word : List ℕ) (state last : ℕ) → walk (next_quiet auto) state word ≡ Some last → walk (next auto) state word ≡ Some last
  quiet-next [] state last comes = comes
  quiet-next (unit ∷ word) state last comes =
      at (next auto state unit) comes (λ between. quiet-next word between last)
    where
      at : (found : Option ℕ) → and_then (quiet auto found) (λ between. walk (next_quiet auto) between word) ≡ Some last
          → ((between : ℕ) → walk (next_quiet auto) between word ≡ Some last → walk (next auto) between word ≡ Some last)
          → and_then found (λ between. walk (next auto) between word) ≡ Some last
      at None comes rest = absurd (cc comes)
      at (Some between) comes rest = by (accepts auto between) comes
        where
          by : (b : Bool) → and_then (if b then None else Some between) (λ onward. walk (next_quiet auto) onward word) ≡ Some last
              → walk (next auto) between word ≡ Some last
          by true comes = absurd (cc comes)
          by false comes = rest between comes

  quiet-last : (word : List ℕ) (state last : ℕ) → accepts auto state ≡ false → walk (next_quiet auto) state word ≡ Some last
      → accepts auto last ≡ false
  quiet-last [] state last start comes = let same : state ≡ last = cc comes in subst (λ s. accepts auto s ≡ false) same start
  quiet-last (unit ∷ word) state last start comes =
      at (next_quiet auto state unit) refl comes
      (λ between leads. quiet-last word between last (quiet-leads auto (next auto state unit) between leads).1)
    where
      at : (found : Option ℕ) → next_quiet auto state unit ≡ found → and_then found (λ between. walk (next_quiet auto) between word) ≡ Some last
          → ((between : ℕ) → next_quiet auto state unit ≡ Some between → walk (next_quiet auto) between word ≡ Some last → accepts auto last ≡ false)
          → accepts auto last ≡ false
      at None leads comes rest = absurd (cc comes)
      at (Some between) leads comes rest = rest between leads comes

  -- a walk comes by each front
  front-walk : (front back : List ℕ) (last : ℕ) → walk (next_quiet auto) 0 (front ++ back) ≡ Some last
      → (state : ℕ) × (walk (next_quiet auto) 0 front ≡ Some state)
  front-walk front back last comes =
      at (walk (next_quiet auto) 0 front) refl (sym (walk-append (next_quiet auto) 0 front back) ∙ comes)
    where
      at : (found : Option ℕ) → walk (next_quiet auto) 0 front ≡ found → and_then found (λ state. walk (next_quiet auto) state back) ≡ Some last
          → (state : ℕ) × (walk (next_quiet auto) 0 front ≡ Some state)
      at None is comes = absurd (cc comes)
      at (Some state) is comes = (state, is)

accepts-nothing : (accept : Option Accept) → is_some accept ≡ false → accept ≡ None
accepts-nothing None is = refl
accepts-nothing (Some accept) is = absurd (cc is)

module _ (policy : Policy) (enc : Enc) (patterns : List Pattern) (auto : Auto) (is : IsAutoUnder policy enc patterns auto) where
  walk-units : (word : List ℕ) (state last : ℕ) → walk (next auto) state word ≡ Some last → IsWord enc (terms_of patterns) word
  walk-units [] state last comes = tt
  walk-units (unit ∷ word) state last comes =
      at (edge_from auto state unit) refl comes (λ between. walk-units word between last)
    where
      at : (found : Option Edge) → edge_from auto state unit ≡ found
          → and_then (target_of found) (λ between. walk (next auto) between word) ≡ Some last
          → ((between : ℕ) → walk (next auto) between word ≡ Some last → IsWord enc (terms_of patterns) word)
          → IsWord enc (terms_of patterns) (unit ∷ word)
      at None on comes rest = absurd (cc comes)
      at (Some edge) on comes rest =
          let on_it = edge_on-is (state_of auto.states state).edges unit edge on in
          let most : edge.hi ≤ greatest_unit enc = edge-units enc patterns auto is.fits state edge on_it.0 in
          let to : unit ≤ edge.hi = on_it.2 in
          (omega arith, rest edge.to comes)

  -- ---- dead words stop the automaton

  quiet-where : (word : List ℕ) (state : ℕ) → walk (next auto) 0 word ≡ Some state → ((place : ℕ) → Takes enc patterns place word → ⊥)
      → accepts auto state ≡ false
  quiet-where word state comes untaken = at (state_of auto.states state).accept refl
    where
      at : (accept : Option Accept) → (state_of auto.states state).accept ≡ accept → accepts auto state ≡ false
      at None accepted = ap (λ a. is_some a) accepted
      at (Some accept) accepted =
          let taker = accepting-taken policy enc patterns auto is word state accept comes accepted in
          absurd (untaken taker.place taker.takes)

  quiet-walk : (rest front : List ℕ) (state last : ℕ) → walk (next auto) 0 front ≡ Some state → walk (next auto) state rest ≡ Some last
      → ((more back : List ℕ) → rest ≡ more ++ back → (place : ℕ) → Takes enc patterns place (front ++ more) → ⊥)
      → walk (next_quiet auto) state rest ≡ Some last
  quiet-walk [] front state last comes leads untaken = leads
  quiet-walk (unit ∷ rest) front state last comes leads untaken =
      at (next auto state unit) refl leads
      (λ between steps onward. quiet-walk rest (front ++ unit ∷ []) between last (walk-pushed (next auto) 0 front unit state between comes steps) onward
      (λ more back is_rest place takes.
      untaken (unit ∷ more) back (ap (λ l. unit ∷ l) is_rest) place (subst (Takes enc patterns place) (append_assoc front (unit ∷ []) more) takes)))
    where
      at : (found : Option ℕ) → next auto state unit ≡ found → and_then found (λ between. walk (next auto) between rest) ≡ Some last
          → ((between : ℕ) → next auto state unit ≡ Some between → walk (next auto) between rest ≡ Some last
          → walk (next_quiet auto) between rest ≡ Some last)
          → and_then (quiet auto found) (λ between. walk (next_quiet auto) between rest) ≡ Some last
      at None steps leads rest_is = absurd (cc leads)
      at (Some between) steps leads rest_is =
          let quiet_there = quiet-where (front ++ unit ∷ []) between (walk-pushed (next auto) 0 front unit state between comes steps)
          (λ place takes. untaken (unit ∷ []) rest refl place takes) in
          ap (λ b. and_then (if b then None else Some between) (λ onward. walk (next_quiet auto) onward rest)) quiet_there
          ∙ rest_is between steps leads

  pub dead-stopping : (word : List ℕ) → IsDead enc patterns word → IsStopping enc auto word
  dead-stopping [] dead = absurd (dead.longer refl)
  dead-stopping (first ∷ rest) dead = at (split-last first rest)
    where
      by : (front : List ℕ) (unit state : ℕ) → first ∷ rest ≡ front ++ unit ∷ [] → walk (next auto) 0 front ≡ Some state
          → IsStopping enc auto (first ∷ rest)
      by front unit state whole comes = record {
        front = front;
        unit = unit;
        state = state;
        whole = whole;
        start = quiet-where [] 0 refl (λ place takes. dead.untaken [] (first ∷ rest) place refl takes);
        leads =
            quiet-walk front [] 0 state refl comes
            (λ more back is_front place takes.
            dead.untaken more (back ++ unit ∷ []) place
            (whole ∙ ap (λ l. l ++ unit ∷ []) is_front ∙ append_assoc more back (unit ∷ [])) takes);
        gap = (
          (IsWord-back enc (terms_of patterns) front (unit ∷ []) (subst (IsWord enc (terms_of patterns)) whole dead.units)).0,
          no_edge (edge_from auto state unit) refl,
        );
      }
        where
          no_edge : (found : Option Edge) → edge_from auto state unit ≡ found → edge_from auto state unit ≡ None
          no_edge None on = on
          no_edge (Some edge) on =
              absurd (dead.dead (walk-begins policy enc patterns auto is (first ∷ rest) edge.to dead.units
              (ap (λ w. walk (next auto) 0 w) whole ∙ walk-pushed (next auto) 0 front unit state edge.to comes (ap target_of on))))

      led : (front : List ℕ) (unit : ℕ) → first ∷ rest ≡ front ++ unit ∷ [] → (state : ℕ) × (walk (next auto) 0 front ≡ Some state)
          → IsStopping enc auto (first ∷ rest)
      led front unit whole (state, comes) = by front unit state whole comes

      at : (front : List ℕ) × (unit : ℕ) × (first ∷ rest ≡ front ++ unit ∷ []) → IsStopping enc auto (first ∷ rest)
      at (front, unit, whole) =
          led front unit whole
          (begins-walk policy enc patterns auto is front
          (IsWord-front enc (terms_of patterns) front (unit ∷ []) (subst (IsWord enc (terms_of patterns)) whole dead.units))
          (dead.fronts front (unit ∷ []) whole (not-empty [] unit)))

  -- ---- and such words are dead

  module _ (word : List ℕ) (stops : IsStopping enc auto word) where
    comes-front : walk (next auto) 0 stops.front ≡ Some stops.state
    comes-front = quiet-next auto stops.front 0 stops.state stops.leads

    units-front : IsWord enc (terms_of patterns) stops.front
    units-front = walk-units stops.front 0 stops.state comes-front

    units-word : IsWord enc (terms_of patterns) word
    units-word =
        subst (IsWord enc (terms_of patterns)) (sym stops.whole) (IsWord-push enc (terms_of patterns) stops.front stops.unit units-front stops.gap.0)

    not-begun : BeginsMatch enc (terms_of patterns) word → ⊥
    not-begun begun = at (begins-walk policy enc patterns auto is word units-word begun)
      where
        at : (state : ℕ) × (walk (next auto) 0 word ≡ Some state) → ⊥
        at (state, comes) =
            never-some state
            (sym (ap (λ w. walk (next auto) 0 w) stops.whole ∙ walk-push (next auto) 0 stops.front stops.unit
            ∙ ap (λ found. and_then found (λ last. next auto last stops.unit)) comes-front ∙ ap target_of stops.gap.1) ∙ comes)

    fronts-begin : (front back : List ℕ) → word ≡ front ++ back → back ≢ [] → BeginsMatch enc (terms_of patterns) front
    fronts-begin front back splits more = at (shorter-front stops.front stops.unit front back (sym stops.whole ∙ splits) more)
      where
        at : (rest : List ℕ) × (stops.front ≡ front ++ rest) → BeginsMatch enc (terms_of patterns) front
        at (rest, is_front) =
            front_begins enc (terms_of patterns) front rest
            (subst (BeginsMatch enc (terms_of patterns)) is_front (walk-begins policy enc patterns auto is stops.front stops.state units-front comes-front))

    front-untaken : (front rest : List ℕ) (place : ℕ) → stops.front ≡ front ++ rest → Takes enc patterns place front → ⊥
    front-untaken front rest place is_front takes =
        at (front-walk auto front rest stops.state (ap (λ w. walk (next_quiet auto) 0 w) (sym is_front) ∙ stops.leads))
      where
        at : (state : ℕ) × (walk (next_quiet auto) 0 front ≡ Some state) → ⊥
        at (state, comes) =
            quiet-untaken policy enc patterns auto is front state (quiet-next auto front 0 state comes)
            (accepts-nothing (state_of auto.states state).accept (quiet-last auto front 0 state stops.start comes)) place takes

    untaken-front : (front back : List ℕ) (place : ℕ) → word ≡ front ++ back → Takes enc patterns place front → ⊥
    untaken-front front [] place splits takes =
        not-begun (subst (BeginsMatch enc (terms_of patterns)) (sym (splits ∙ append-nil front)) (taken-begins enc patterns place front takes))
    untaken-front front (unit ∷ back) place splits takes =
        at (shorter-front stops.front stops.unit front (unit ∷ back) (sym stops.whole ∙ splits) (not-nil unit back))
      where
        not-nil : (unit : ℕ) (back : List ℕ) → unit ∷ back ≡ [] → ⊥
        not-nil unit back is_nil = cc

        at : (rest : List ℕ) × (stops.front ≡ front ++ rest) → ⊥
        at (rest, is_front) = front-untaken front rest place is_front takes

    pub stopping-dead : IsDead enc patterns word
    stopping-dead = record {
      units = units-word;
      longer = λ empty. not-empty stops.front stops.unit (sym stops.whole ∙ empty);
      dead = not-begun;
      fronts = fronts-begin;
      untaken = untaken-front;
    }

  -- ---- the first of them

  pub first-dead : (word : List ℕ) → IsFirstStopping enc auto word → IsFirstDead enc patterns word
  first-dead word first = record {
    is_dead = stopping-dead word first.stops;
    first = λ other dead before. no_later-never word other (first.first other (dead-stopping other dead)) before;
  }

  pub dead-is-first : (word other : List ℕ) → IsFirstStopping enc auto word → IsFirstDead enc patterns other → word ≡ other
  dead-is-first word other first dead = at (first.first other (dead-stopping other dead.is_dead))
    where
      at : IsNoLater word other → word ≡ other
      at (inl before) = absurd (dead.first word (stopping-dead word first.stops) before)
      at (inr same) = same
