-- Edges and states of which what is not needed is left out, one behind another, as code makes them.
use Rattle.std.proofs.Common.{◌≡◌, ◌⊎◌, inl, inr, ℕ, ◌+◌, ◌<◌, ◌≤◌, List, [], ◌∷◌, ◌++◌, length, None, refl, sym, ◌∙◌, subst, arith}
use Rattle.std.proofs.lemmas.Bool.{cases_lt}
use Rattle.std.proofs.Math.Seq.{get_or-append_seam}
use Rattle.std.proofs.lemmas.List.{get_or_append_left, get_or_past}
use Rattle.lx_auto.specs.declared.automaton.State.{State}
use Rattle.lx_auto.specs.Automaton.{state_of}
use Rattle.lx_regs.specs.declared.unset_rows.UnsetRows.{UnsetRows}
use Rattle.lx_regs.specs.Pairs.{AllPairs}
use Rattle.lx_regs.specs.Unset.{AreStatesKept, IsStateKept, row_at}
use Rattle.lx_regs.proofs.NeedlessNulls.KeptLists.{IsKept-none}

-- the pairs of two lists, and one more
pub pairs-more : {X Y : Type 0} (AreRelated : X → Y → Type 0) (items : List X) (others : List Y) (item : X) (other : Y)
    → AllPairs AreRelated items others → AreRelated item other → AllPairs AreRelated (items ++ item ∷ []) (others ++ other ∷ [])
pairs-more AreRelated [] [] item other are is = (is, tt)
pairs-more AreRelated (first ∷ items) [] item other are is = absurd are
pairs-more AreRelated [] (second ∷ others) item other are is = absurd are
pairs-more AreRelated (first ∷ items) (second ∷ others) item other are is = (are.0, pairs-more AreRelated items others item other are.1 is)

-- the state that is read where there is none
abbrev no_state : State
no_state = record { edges = []; accept = None; leave = [] }

module _ (rows : UnsetRows) (given : List State) where
  pub states-more : (states : List State) (number : ℕ) (other : State) → length states ≡ number
      → ((earlier : ℕ) → earlier < number → IsStateKept rows earlier (state_of given earlier) (state_of states earlier))
      → IsStateKept rows number (state_of given number) other → (next : List State) → next ≡ states ++ other ∷ []
      → (earlier : ℕ) → earlier < number + 1 → IsStateKept rows earlier (state_of given earlier) (state_of next earlier)
  states-more states number other count kept is next same earlier lt =
      subst (λ l. IsStateKept rows earlier (state_of given earlier) (state_of l earlier)) (sym same) (at (cases_lt earlier number))
    where
      at : (earlier < number) ⊎ (number ≤ earlier)
          → IsStateKept rows earlier (state_of given earlier) (state_of (states ++ other ∷ []) earlier)
      at (inl front) =
          subst (IsStateKept rows earlier (state_of given earlier))
          (sym (get_or_append_left states (other ∷ []) no_state earlier (omega arith)))
          (kept earlier front)
      at (inr ge) =
          let is_number : number ≡ earlier = omega arith in
          subst (λ k. IsStateKept rows k (state_of given k) (state_of (states ++ other ∷ []) k)) is_number
          (subst (λ k. IsStateKept rows number (state_of given number) (state_of (states ++ other ∷ []) k)) count
          (subst (IsStateKept rows number (state_of given number)) (sym (get_or-append_seam states other [] no_state)) is))

  pub states-all : (states : List State) (number : ℕ) → length states ≡ number → length given ≡ number
      → ((earlier : ℕ) → earlier < number → IsStateKept rows earlier (state_of given earlier) (state_of states earlier))
      → AreStatesKept rows given states
  states-all states number count all kept = record {
    count = count ∙ sym all;
    each = λ state. at state (cases_lt state number);
  }
    where
      at : (state : ℕ) → (state < number) ⊎ (number ≤ state) → IsStateKept rows state (state_of given state) (state_of states state)
      at state (inl lt) = kept state lt
      at state (inr ge) =
          subst (λ s. IsStateKept rows state s (state_of states state)) (sym (get_or_past given state no_state (omega arith)))
          (subst (IsStateKept rows state no_state) (sym (get_or_past states state no_state (omega arith)))
          (record { left = row_at rows state; edges = tt; accept = tt; leave = IsKept-none (row_at rows state) }))
