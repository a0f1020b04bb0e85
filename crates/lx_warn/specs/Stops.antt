-- Words on which an automaton stops before it accepts.
use Rattle.std.specs.Prelude.{◌≡◌, ℕ, ◌<◌, List, [], ◌∷◌, ◌++◌, length, Some, false}
use Rattle.lx_auto.specs.declared.automaton.Auto.{Auto}
use Rattle.lx_base.specs.declared.settings.Enc.{Enc}
use Rattle.lx_search.specs.Found.{found_at}
use Rattle.lx_search.specs.Scopes.{accepts, next_quiet}
use Rattle.lx_search.specs.declared.search.Found.{Found}
use Rattle.lx_tdfa.specs.Searches.{walk}
use Rattle.lx_tdfa.specs.Words.{IsNoLater}
use Rattle.lx_warn.specs.Graph.{IsGap}

module _ (enc : Enc) (auto : Auto) where
  -- up to its last unit the word leads through states that accept nothing, and the last unit is on no edge
  pub record IsStopping (word : List ℕ) : Type 0 where
    pub front : List ℕ
    pub unit : ℕ
    pub state : ℕ
    pub whole : word ≡ front ++ unit ∷ []
    pub start : accepts auto 0 ≡ false
    pub leads : walk (next_quiet auto) 0 front ≡ Some state
    pub gap : IsGap auto enc state unit

  -- the first such word
  pub record IsFirstStopping (word : List ℕ) : Type 0 where
    pub stops : IsStopping word
    pub first : (other : List ℕ) → IsStopping other → IsNoLater word other

  -- the states that were found before a place have an edge on each unit
  abbrev pub HaveNoGap : List Found → (bound : ℕ) → Type 0
  HaveNoGap found bound = (place unit : ℕ) → place < bound → IsGap auto enc (found_at found place).state unit → ⊥

  -- the place is the first whose state has none on some unit, and this unit is the least
  pub record IsFirstGap (found : List Found) (place unit : ℕ) : Type 0 where
    pub within : place < length found
    pub gap : IsGap auto enc (found_at found place).state unit
    pub none : HaveNoGap found place
    pub least : (other : ℕ) → other < unit → IsGap auto enc (found_at found place).state other → ⊥
