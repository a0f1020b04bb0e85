-- The first word on which an automaton stops before it accepts.
use Rattle.std.proofs.Common.{◌≡◌, ℕ, List, [], ◌∷◌, ◌++◌, length, true, false, refl, sym, ◌∙◌, subst}
use Rattle.lx_auto.specs.declared.automaton.Auto.{Auto}
use Rattle.lx_base.specs.declared.settings.Enc.{Enc}
use Rattle.lx_search.specs.Found.{found_at, trace_of}
use Rattle.lx_search.specs.Scopes.{accepts, next_quiet}
use Rattle.lx_search.specs.declared.search.Found.{Found}
use Rattle.lx_tdfa.proofs.LeastWords.SearchedWords.{StandsNoLater, first-least, stands-least, words-lead}
use Rattle.lx_tdfa.specs.Searches.{IsSearched, word_at}
use Rattle.lx_tdfa.specs.Words.{IsNoLater}
use Rattle.lx_warn.specs.Graph.{IsGap}
use Rattle.lx_warn.specs.Stops.{HaveNoGap, IsFirstGap, IsFirstStopping, IsStopping}

module _ (enc : Enc) (auto : Auto) where
  pub accepting-stops : accepts auto 0 ≡ true → (word : List ℕ) → IsStopping enc auto word → ⊥
  accepting-stops accepting word stops = never (sym accepting ∙ stops.start)
    where
      never : true ≡ false → ⊥
      never e = cc

  pub no-stopping : (found : List Found) → IsSearched (next_quiet auto) (trace_of found) → HaveNoGap enc auto found (length found)
      → (word : List ℕ) → IsStopping enc auto word → ⊥
  no-stopping found searched none word stops =
      at (stands-least (next_quiet auto) (trace_of found) searched stops.front stops.state stops.leads)
    where
      at : StandsNoLater (trace_of found) stops.front stops.state → ⊥
      at (place, lt, stands, later) = none place stops.unit lt (subst (λ s. IsGap auto enc s stops.unit) (sym stands) stops.gap)

  pub first-stopping : (found : List Found) (place unit : ℕ) → accepts auto 0 ≡ false → IsSearched (next_quiet auto) (trace_of found)
      → IsFirstGap enc auto found place unit → IsFirstStopping enc auto (word_at (trace_of found) place ++ unit ∷ [])
  first-stopping found place unit start searched gap = record {
    stops = record {
      front = word_at (trace_of found) place;
      unit = unit;
      state = (found_at found place).state;
      whole = refl;
      start = start;
      leads = words-lead (next_quiet auto) (trace_of found) searched.traced place gap.within;
      gap = gap.gap;
    };
    first = λ other stops.
        subst (λ w. IsNoLater (word_at (trace_of found) place ++ unit ∷ []) w) (sym stops.whole)
        (first-least (next_quiet auto) (trace_of found) searched (IsGap auto enc) place unit gap.within gap.none gap.least
        stops.front stops.unit stops.state stops.leads stops.gap);
  }
