-- Runs of the automaton of a rule list as walks over its states: which words begin matches, and which rules take them.
use Rattle.std.proofs.Common.{◌≡◌, ◌⊎◌, inl, inr, ℕ, zero, suc, ◌<◌, List, [], ◌∷◌, map, Option, Some, None, IsSome, refl, sym, ap, ◌∙◌, subst, slice_get}
use Rattle.std.proofs.lemmas.Bool.{cases_order}
use Rattle.lx_auto.specs.Automaton.{state_of}
use Rattle.lx_auto.specs.Bank.{empty_bank}
use Rattle.lx_auto.specs.Run as run_of
use Rattle.lx_auto.specs.Run.{Found, Standing, behind_edge, by_edge, found_at, found_by, run, start_with}
use Rattle.lx_auto.specs.declared.automaton.Accept.{Accept}
use Rattle.lx_auto.specs.declared.automaton.Auto.{Auto}
use Rattle.lx_auto.specs.declared.automaton.Edge.{Edge}
use Rattle.lx_base.specs.declared.settings.Enc.{Enc}
use Rattle.lx_regex.proofs.Trees.Beginnings.{taken_begins}
use Rattle.lx_regex.specs.Cut.{BeginsMatch}
use Rattle.lx_regex.specs.Kernel.{IsWord}
use Rattle.lx_regex.specs.Match.{Takes}
use Rattle.lx_regex.specs.Order.{Policy}
use Rattle.lx_regex.specs.Pattern.{Pattern, terms_of, with_terms}
use Rattle.lx_tdfa.specs.KernelStates.{next, target_of}
use Rattle.lx_tdfa.specs.Promise.{FindsBest, IsAutoUnder}
use Rattle.lx_tdfa.specs.Searches.{and_then, walk}
use Rattle.lx_warn.specs.Graph.{edge_from}

-- ---- runs and walks

module _ (auto : Auto) where
  run-walk : (word : List ℕ) (standing behind : Standing) → run auto standing word ≡ Some behind
      → walk (next auto) standing.state word ≡ Some behind.state
  run-walk [] standing behind ran = let same : standing ≡ behind = cc ran in ap (λ (s : Standing). Some s.state) same
  run-walk (unit ∷ word) standing behind ran =
      at (edge_from auto standing.state unit) ran (λ onward. run-walk word onward behind)
    where
      at : (found : Option Edge)
          → run_of.and_then (by_edge (state_of auto.states standing.state) standing found) (λ onward. run auto onward word) ≡ Some behind
          → ((onward : Standing) → run auto onward word ≡ Some behind → walk (next auto) onward.state word ≡ Some behind.state)
          → and_then (target_of found) (λ state. walk (next auto) state word) ≡ Some behind.state
      at None ran rest = absurd (cc ran)
      at (Some edge) ran rest = rest (behind_edge (state_of auto.states standing.state) standing edge) ran

  walk-run : (word : List ℕ) (standing : Standing) (state : ℕ) → walk (next auto) standing.state word ≡ Some state
      → (behind : Standing) × (run auto standing word ≡ Some behind) × (behind.state ≡ state)
  walk-run [] standing state comes = (standing, refl, let same : standing.state ≡ state = cc comes in same)
  walk-run (unit ∷ word) standing state comes =
      at (edge_from auto standing.state unit) comes (λ onward. walk-run word onward state)
    where
      at : (found : Option Edge) → and_then (target_of found) (λ next_one. walk (next auto) next_one word) ≡ Some state
          → ((onward : Standing) → walk (next auto) onward.state word ≡ Some state
          → (behind : Standing) × (run auto onward word ≡ Some behind) × (behind.state ≡ state))
          → (behind : Standing)
          × (run_of.and_then (by_edge (state_of auto.states standing.state) standing found) (λ onward. run auto onward word) ≡ Some behind)
          × (behind.state ≡ state)
      at None comes rest = absurd (cc comes)
      at (Some edge) comes rest = rest (behind_edge (state_of auto.states standing.state) standing edge) comes

-- ---- what rules take

pub slice_get-mapped : {X Y : Type 0} (f : X → Y) (xs : List X) (place : ℕ) (x : X) → slice_get xs place ≡ Some x
    → slice_get (map f xs) place ≡ Some (f x)
slice_get-mapped f [] place x is = absurd (cc is)
slice_get-mapped f (y ∷ xs) zero x is = let same : y ≡ x = cc is in ap (λ z. Some (f z)) same
slice_get-mapped f (y ∷ xs) (suc place) x is = slice_get-mapped f xs place x is

-- the first rule that takes the word has the number
pub record IsFirstTaker (enc : Enc) (patterns : List Pattern) (word : List ℕ) (number : ℕ) : Type 0 where
  pub place : ℕ
  pub pattern : Pattern
  pub is : slice_get (with_terms patterns) place ≡ Some pattern
  pub numbered : pattern.number ≡ number
  pub takes : Takes enc patterns place word
  pub first : (earlier : ℕ) → earlier < place → Takes enc patterns earlier word → ⊥

-- two first rules are one
pub one-taker : (enc : Enc) (patterns : List Pattern) (word : List ℕ) (number : ℕ) (taker : IsFirstTaker enc patterns word number)
    (place : ℕ) (pattern : Pattern) → slice_get (with_terms patterns) place ≡ Some pattern → Takes enc patterns place word
    → ((earlier : ℕ) → earlier < place → Takes enc patterns earlier word → ⊥) → pattern.number ≡ number
one-taker enc patterns word number taker place pattern is takes first = at (cases_order taker.place place)
  where
    at : (taker.place ≡ place) ⊎ ((taker.place < place) ⊎ (place < taker.place)) → pattern.number ≡ number
    at (inl same) =
        let both : Some taker.pattern ≡ Some pattern = sym taker.is ∙ ap (slice_get (with_terms patterns)) same ∙ is in
        let one : taker.pattern ≡ pattern = cc in
        ap (λ (p : Pattern). p.number) (sym one) ∙ taker.numbered
    at (inr (inl less)) = absurd (first taker.place less taker.takes)
    at (inr (inr more)) = absurd (taker.first place more takes)

pub taken-begins : (enc : Enc) (patterns : List Pattern) (place : ℕ) (word : List ℕ) → Takes enc patterns place word
    → BeginsMatch enc (terms_of patterns) word
taken-begins enc patterns place word (pattern, is, tree) =
    taken_begins enc (terms_of patterns) place pattern.term word
    (slice_get-mapped (λ (p : Pattern). p.term) (with_terms patterns) place pattern is) tree

-- ---- the automaton of a rule list

module _ (policy : Policy) (enc : Enc) (patterns : List Pattern) (auto : Auto) (is : IsAutoUnder policy enc patterns auto) where
  pub begins-walk : (word : List ℕ) → IsWord enc (terms_of patterns) word → BeginsMatch enc (terms_of patterns) word
      → (state : ℕ) × (walk (next auto) 0 word ≡ Some state)
  begins-walk word units begun =
      at (run auto (start_with 0 empty_bank) word) refl ((is.begins 0 empty_bank word refl units).1 begun)
    where
      at : (found : Option Standing) → run auto (start_with 0 empty_bank) word ≡ found → IsSome (run auto (start_with 0 empty_bank) word)
          → (state : ℕ) × (walk (next auto) 0 word ≡ Some state)
      at None ran some = absurd (nothing (subst (λ o. IsSome o) ran some))
        where
          nothing : IsSome {T = Standing} None → ⊥
          nothing h = cc
      at (Some behind) ran some = (behind.state, run-walk auto word (start_with 0 empty_bank) behind ran)

  pub walk-begins : (word : List ℕ) (state : ℕ) → IsWord enc (terms_of patterns) word → walk (next auto) 0 word ≡ Some state
      → BeginsMatch enc (terms_of patterns) word
  walk-begins word state units comes =
      let ran = walk-run auto word (start_with 0 empty_bank) state comes in
      (is.begins 0 empty_bank word refl units).0 (subst (λ o. IsSome o) (sym ran.1) (some ran.0))
    where
      some : (behind : Standing) → IsSome (Some behind)
      some behind = refl

  found-best : (word : List ℕ) (state : ℕ) (accept : Option Accept) → walk (next auto) 0 word ≡ Some state
      → (state_of auto.states state).accept ≡ accept
      → (behind : Standing) × FindsBest policy enc patterns 0 word (found_by accept behind)
  found-best word state accept comes accepted =
      let ran = walk-run auto word (start_with 0 empty_bank) state comes in
      let same : (state_of auto.states ran.0.state).accept ≡ accept = ap (λ s. (state_of auto.states s).accept) ran.2 ∙ accepted in
      (ran.0, subst (λ a. FindsBest policy enc patterns 0 word (found_by a ran.0)) same (is.best 0 empty_bank word ran.0 refl ran.1))

  -- in a state that accepts nothing no rule takes the word
  pub quiet-untaken : (word : List ℕ) (state : ℕ) → walk (next auto) 0 word ≡ Some state → (state_of auto.states state).accept ≡ None
      → (place : ℕ) → Takes enc patterns place word → ⊥
  quiet-untaken word state comes accepted place takes = (found-best word state None comes accepted).1 place takes

  -- in one that accepts, its rule is the first to take the word
  pub accepting-taken : (word : List ℕ) (state : ℕ) (accept : Accept) → walk (next auto) 0 word ≡ Some state
      → (state_of auto.states state).accept ≡ Some accept → IsFirstTaker enc patterns word accept.rule
  accepting-taken word state accept comes accepted = by (found-best word state (Some accept) comes accepted)
    where
      by : (behind : Standing) × FindsBest policy enc patterns 0 word (found_by (Some accept) behind) → IsFirstTaker enc patterns word accept.rule
      by (behind, best) = record {
        place = best.place;
        pattern = best.pattern;
        is = best.is;
        numbered = sym best.rule;
        takes = (best.pattern, best.is, (best.tree, best.least.yields));
        first = best.first;
      }

  -- so a word that a rule takes leads to a state that accepts
  pub taken-accepting : (word : List ℕ) (place : ℕ) → IsWord enc (terms_of patterns) word → Takes enc patterns place word
      → (state : ℕ) × (accept : Accept) × (walk (next auto) 0 word ≡ Some state) × ((state_of auto.states state).accept ≡ Some accept)
  taken-accepting word place units takes = by (begins-walk word units (taken-begins enc patterns place word takes))
    where
      at : (state : ℕ) (accept : Option Accept) → walk (next auto) 0 word ≡ Some state → (state_of auto.states state).accept ≡ accept
          → (state : ℕ) × (accept : Accept) × (walk (next auto) 0 word ≡ Some state) × ((state_of auto.states state).accept ≡ Some accept)
      at state None comes accepted = absurd (quiet-untaken word state comes accepted place takes)
      at state (Some accept) comes accepted = (state, accept, comes, accepted)

      by : (state : ℕ) × (walk (next auto) 0 word ≡ Some state)
          → (state : ℕ) × (accept : Accept) × (walk (next auto) 0 word ≡ Some state) × ((state_of auto.states state).accept ≡ Some accept)
      by (state, comes) = at state (state_of auto.states state).accept comes refl
