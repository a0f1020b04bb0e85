-- What is noted of stops, as they are visited.
use Rattle.std.proofs.Common.{◌≡◌, ℕ, zero, suc, ◌<◌, ◌≤◌, ◌⊎◌, inl, inr, arith, Bool, true, false, List, [], ◌∷◌, ◌++◌, refl, sym, subst, Some, None}
use Rattle.std.proofs.lemmas.List.Elements.{Contains-append_left, Contains-append_right, Contains-append_cases}
use Rattle.std.specs.Bool.{MatchBool}
use Rattle.std.specs.Prelude.{Option, Contains, length, get_or}
use Rattle.lx_tnfa.specs.Noted.{AreNoted, IsNoted, IsNotedAt, NotesOnly, mark_place, turn_at}
use Rattle.lx_tnfa.specs.declared.closure.Stop.{Stop}

-- in a new turn nothing is noted
pub none_noted : (stops : List Stop) (marks : List ℕ) (turn : ℕ) (others : List Stop) → stops ≡ [] → others ≡ []
    → ((place : ℕ) → turn_at marks place < turn) → AreNoted stops marks turn others
none_noted stops marks turn others e f before =
    subst (λ s. AreNoted s marks turn others) (sym e)
    (subst (λ o. AreNoted [] marks turn o) (sym f) (record {
      begun = some (before 0);
      none_later = λ place. within place (before place);
      noted = λ stop c. absurd (omega (arith, c.1));
      only = λ stop n. unmarked stop (mark_place stop) n;
    }))
  where
    some : turn_at marks 0 < turn → 0 < turn
    some lt = omega (arith, lt)

    within : (place : ℕ) → turn_at marks place < turn → turn_at marks place ≤ turn
    within place lt = omega (arith, lt)

    apart : (place : ℕ) → turn_at marks place < turn → turn_at marks place ≡ turn → ⊥
    apart place lt e = omega (arith, lt, e)

    unmarked : (stop : Stop) (place : Option ℕ) → IsNotedAt marks turn [] stop place → Contains [] stop
    unmarked stop (Some place) e = absurd (apart place (before place) e)
    unmarked stop None c = c

-- a list of one
single : (stop other : Stop) → Contains (stop ∷ []) other → stop ≡ other
single stop other c = at c.0 c.1 c.2
  where
    at : (k : ℕ) → k < length (stop ∷ []) → get_or (stop ∷ []) k other ≡ other → stop ≡ other
    at zero lt e = e
    at (suc k) lt e = absurd (omega (arith, lt))

last_in : (stops : List Stop) (stop : Stop) → Contains (stops ++ stop ∷ []) stop
last_in stops stop = Contains-append_right stops (stop ∷ []) stop (0, omega arith, refl)

-- the list with one more stop, once that is noted
pub with_stop : (stops : List Stop) (marks next : List ℕ) (turn : ℕ) (others more : List Stop) (stop : Stop)
    → AreNoted stops marks turn others
    → NotesOnly stop marks next turn others more → AreNoted (stops ++ stop ∷ []) next turn more
with_stop stops marks next turn others more stop are notes = record {
  begun = are.begun;
  none_later = notes.none_later are.none_later;
  noted = λ other c. listed other (Contains-append_cases stops (stop ∷ []) other c);
  only = λ other n. kept other (notes.only other n);
}
  where
    listed : (other : Stop) → Contains stops other ⊎ Contains (stop ∷ []) other → IsNoted next turn more other
    listed other (inl c) = notes.kept other (are.noted other c)
    listed other (inr c) = subst (λ s. IsNoted next turn more s) (single stop other c) notes.itself

    kept : (other : Stop) → IsNoted marks turn others other ⊎ (stop ≡ other) → Contains (stops ++ stop ∷ []) other
    kept other (inl n) = Contains-append_left stops (stop ∷ []) other (are.only other n)
    kept other (inr e) = subst (λ s. Contains (stops ++ stop ∷ []) s) e (last_in stops stop)

-- what putting a stop into a set of stops tells
abbrev IsPut : (old new : List Stop) (stop : Stop) (fresh : Bool) → Type 0
IsPut old new stop fresh = MatchBool fresh (¬ Contains old stop × (new ≡ old ++ stop ∷ [])) (Contains old stop × (new ≡ old))

-- a stop without a number is noted in the set
pub put_told : (marks : List ℕ) (turn : ℕ) (old new : List Stop) (stop : Stop) (fresh : Bool) → mark_place stop ≡ None
    → IsPut old new stop fresh
    → MatchBool fresh (¬ IsNoted marks turn old stop) (IsNoted marks turn old stop)
put_told marks turn old new stop fresh e put =
    subst (λ place. MatchBool fresh (¬ IsNotedAt marks turn old stop place) (IsNotedAt marks turn old stop place)) (sym e) (at fresh put)
  where
    at : (fresh : Bool) → IsPut old new stop fresh → MatchBool fresh (¬ Contains old stop) (Contains old stop)
    at true put = put.0
    at false put = put.0

put_itself : (old new : List Stop) (stop : Stop) (fresh : Bool) → IsPut old new stop fresh → Contains new stop
put_itself old new stop true put = subst (λ s. Contains s stop) (sym put.1) (last_in old stop)
put_itself old new stop false put = subst (λ s. Contains s stop) (sym put.1) put.0

put_kept : (old new : List Stop) (stop : Stop) (fresh : Bool) → IsPut old new stop fresh → (other : Stop) → Contains old other
    → Contains new other
put_kept old new stop true put other c = subst (λ s. Contains s other) (sym put.1) (Contains-append_left old (stop ∷ []) other c)
put_kept old new stop false put other c = subst (λ s. Contains s other) (sym put.1) c

put_only : (old new : List Stop) (stop : Stop) (fresh : Bool) → IsPut old new stop fresh → (other : Stop) → Contains new other
    → Contains old other ⊎ (stop ≡ other)
put_only old new stop true put other c = at (Contains-append_cases old (stop ∷ []) other (subst (λ s. Contains s other) put.1 c))
  where
    at : Contains old other ⊎ Contains (stop ∷ []) other → Contains old other ⊎ (stop ≡ other)
    at (inl before) = inl before
    at (inr now) = inr (single stop other now)
put_only old new stop false put other c = inl (subst (λ s. Contains s other) put.1 c)

pub put_noted : (marks : List ℕ) (turn : ℕ) (old new : List Stop) (stop : Stop) (fresh : Bool) → mark_place stop ≡ None
    → IsPut old new stop fresh
    → NotesOnly stop marks marks turn old new
put_noted marks turn old new stop fresh e put = record {
  none_later = λ later. later;
  itself = subst (λ place. IsNotedAt marks turn new stop place) (sym e) (put_itself old new stop fresh put);
  kept = λ other n. kept other (mark_place other) n;
  only = λ other n. only other (mark_place other) n;
}
  where
    kept : (other : Stop) (place : Option ℕ) → IsNotedAt marks turn old other place → IsNotedAt marks turn new other place
    kept other (Some place) n = n
    kept other None c = put_kept old new stop fresh put other c

    only : (other : Stop) (place : Option ℕ) → IsNotedAt marks turn new other place → IsNotedAt marks turn old other place ⊎ (stop ≡ other)
    only other (Some place) n = inl n
    only other None c = put_only old new stop fresh put other c
