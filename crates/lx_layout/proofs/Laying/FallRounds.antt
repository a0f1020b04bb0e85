-- Which states are marked in a round, state by state.
use Rattle.std.specs.Prelude.{◌≡◌, ◌≢◌, ℕ, zero, suc, ◌+◌, ◌-◌, ◌<◌, ◌≤◌, Bool, true, false, ◌&&◌, ◌||◌, not, is_some, List, [], ◌∷◌, length, Option, Some, None, Contains, slice_index_or, slice_set, if◌then◌else◌, refl}
use Rattle.std.proofs.Common.{sym, ap, ◌∙◌, arith, subst, true≢false, eqb-true, eq-eqb, nat_eq, get_or-set_other}
use Rattle.std.proofs.lemmas.Bool.{false≢true}
use Rattle.std.proofs.lemmas.List.{length-set}
use Rattle.std.proofs.lemmas.List.Folds.{list_any_at}
use Rattle.std.specs.List.{list_any}
use Rattle.lx_auto.specs.Automaton.{state_of}
use Rattle.lx_auto.specs.declared.automaton.Accept.{Accept}
use Rattle.lx_auto.specs.declared.automaton.Edge.{Edge}
use Rattle.lx_auto.specs.declared.automaton.State.{State}
use Rattle.lx_layout.specs.Marks.{AllFall, AreFalls, FallsFrom, IsClosed, falls_by, here, onward, unmarked}

-- ---- tests of lists

pub list_any-some : {X : Type 0} (p : X → Bool) (xs : List X) → list_any p xs ≡ true → (x : X) × Contains xs x × (p x ≡ true)
list_any-some p [] e = absurd (false≢true e)
list_any-some {X} p (x ∷ xs) e = by (p x) refl e (λ h. list_any-some p xs h)
  where
    by : (t : Bool) → p x ≡ t → (t || list_any p xs) ≡ true → (list_any p xs ≡ true → (y : X) × Contains xs y × (p y ≡ true))
        → (y : X) × Contains (x ∷ xs) y × (p y ≡ true)
    by true h e again = (x, (0, omega arith, refl), h)
    by false h e again =
        let found = again e in
        let within : suc found.1.0 < suc (length xs) = omega (arith, found.1.1) in (found.0, (suc found.1.0, within, found.1.2), found.2)

pub list_any-of : {X : Type 0} (p : X → Bool) (xs : List X) (x : X) → Contains xs x → p x ≡ true → list_any p xs ≡ true
list_any-of p xs x among e = list_any_at p xs among.0 x among.1 (ap p among.2 ∙ e)

-- ---- how many are not marked

pub unmarked-set : (marks : List Bool) (number : ℕ) → number < length marks → slice_index_or marks number false ≡ false
    → unmarked (slice_set marks number true) < unmarked marks
unmarked-set [] number within e = absurd (omega (arith, within))
unmarked-set (true ∷ marks) zero within e = absurd (true≢false e)
unmarked-set (false ∷ marks) zero within e = omega arith
unmarked-set (true ∷ marks) (suc number) within e = unmarked-set marks number (omega (arith, within)) e
unmarked-set (false ∷ marks) (suc number) within e =
    let less : unmarked (slice_set marks number true) < unmarked marks = unmarked-set marks number (omega (arith, within)) e in omega (arith, less)

-- ---- one state

and-first : (a b : Bool) → (a && b) ≡ true → a ≡ true
and-first true b e = refl
and-first false b e = absurd (false≢true e)

and-second : (a b : Bool) → (a && b) ≡ true → b ≡ true
and-second true b e = e
and-second false b e = absurd (false≢true e)

not-true : (a : Bool) → not a ≡ true → a ≡ false
not-true true e = absurd (false≢true e)
not-true false e = refl

none_of : (accept : Option Accept) → not (is_some accept) ≡ true → accept ≡ None
none_of None e = refl
none_of (Some accept) e = absurd (false≢true e)

not-none : (accept : Option Accept) → accept ≡ None → not (is_some accept) ≡ true
not-none accept e = ap (λ o. not (is_some o)) e

module _ (halts : List Bool) (states : List State) where
  abbrev step_of : (falls : List Bool) → (number : ℕ) → Bool
  step_of falls number = falls_by falls (slice_index_or halts number false) (state_of states number)

  -- a state that is found by one step
  found_by : (falls : List Bool) → AllFall halts states falls → (number : ℕ) → number < length states → step_of falls number ≡ true
      → FallsFrom halts states number
  found_by falls all number within e = by (slice_index_or halts number false) refl (and-second (not (is_some (state_of states number).accept)) _ e)
    where
      none : (state_of states number).accept ≡ None
      none = none_of (state_of states number).accept (and-first (not (is_some (state_of states number).accept)) _ e)

      by : (t : Bool) → slice_index_or halts number false ≡ t
          → (t || list_any (λ (edge : Edge). slice_index_or falls edge.to false) (state_of states number).edges) ≡ true → FallsFrom halts states number
      by true h e = here number within none h
      by false h e =
          let found = list_any-some (λ (edge : Edge). slice_index_or falls edge.to false) (state_of states number).edges e in
          onward number found.0 within none found.1 (all found.0.to found.2)

  -- so is each that is marked where it is marked, too
  mark_sound : (falls : List Bool) (number : ℕ) → number < length states → step_of falls number ≡ true → AllFall halts states falls
      → AllFall halts states (slice_set falls number true)
  mark_sound falls number within step all k h = by (nat_eq k number) refl
    where
      by : (t : Bool) → nat_eq k number ≡ t → FallsFrom halts states k
      by true e = subst (λ n. FallsFrom halts states n) (sym (eqb-true k number e)) (found_by falls all number within step)
      by false e =
          all k (sym (get_or-set_other falls number k true false (λ same. absurd (true≢false (sym (eq-eqb k number same) ∙ e)))) ∙ h)

  -- where nothing more is found, each is marked from which a match falls back
  pub closed_all : (falls : List Bool) → IsClosed halts states falls → (number : ℕ) → FallsFrom halts states number
      → slice_index_or falls number false ≡ true
  closed_all falls closed _ (here number within none halt) =
      closed number within (by (not (is_some (state_of states number).accept)) (slice_index_or halts number false)
      (not-none (state_of states number).accept none) halt)
    where
      by : (a b : Bool) → a ≡ true → b ≡ true
          → (a && (b || list_any (λ (edge : Edge). slice_index_or falls edge.to false) (state_of states number).edges)) ≡ true
      by true true e h = refl
      by true false e h = absurd (false≢true h)
      by false b e h = absurd (false≢true e)
  closed_all falls closed _ (onward number edge within none among next) =
      closed number within (by (not (is_some (state_of states number).accept)) (slice_index_or halts number false)
      (not-none (state_of states number).accept none)
      (list_any-of (λ (edge : Edge). slice_index_or falls edge.to false) (state_of states number).edges edge among
      (closed_all falls closed edge.to next)))
    where
      by : (a b : Bool) → a ≡ true
          → list_any (λ (edge : Edge). slice_index_or falls edge.to false) (state_of states number).edges ≡ true
          → (a && (b || list_any (λ (edge : Edge). slice_index_or falls edge.to false) (state_of states number).edges)) ≡ true
      by true true e h = refl
      by true false e h = h
      by false b e h = absurd (false≢true e)

  pub are_falls : (falls : List Bool) → AllFall halts states falls → IsClosed halts states falls → AreFalls halts states falls
  are_falls falls all closed number within = (all number, closed_all falls closed number)

  -- what holds in a round, behind so many states from the last one on
  pub record RoundStands (before falls : List Bool) (changed : Bool) (index : ℕ) : Type 0 where
    pub long : length falls ≡ length states
    pub sound : AllFall halts states before → AllFall halts states falls
    pub most : unmarked falls ≤ unmarked before
    pub fewer : changed ≡ true → unmarked falls < unmarked before
    pub closed : changed ≡ false → (k : ℕ) → length states ≤ k + index → k < length states → step_of falls k ≡ true
        → slice_index_or falls k false ≡ true

  module _ (before falls after : List Bool) (changed marked : Bool) (index number : ℕ) (stands : RoundStands before falls changed index)
      (within : index < length states) (is : number ≡ length states - 1 - index)
      (asked : marked ≡ (not (slice_index_or falls number false) && step_of falls number))
      (put : after ≡ (if marked then slice_set falls number true else falls)) where
    below : number < length states
    below = omega (arith, within, is)

    there : number < length falls
    there = let h = below in omega (arith, h, stands.long)

    pub round_marked : marked ≡ true → RoundStands before after true (index + 1)
    round_marked e =
        let set : after ≡ slice_set falls number true = put ∙ ap (λ (t : Bool). if t then slice_set falls number true else falls) e in
        let test = sym asked ∙ e in
        let bare : slice_index_or falls number false ≡ false =
        not-true (slice_index_or falls number false) (and-first (not (slice_index_or falls number false)) _ test) in
        let less : unmarked (slice_set falls number true) < unmarked falls = unmarked-set falls number there bare in
        subst (λ l. RoundStands before l true (index + 1)) (sym set) (record {
          long = length-set falls number true ∙ stands.long;
          sound = λ all. mark_sound falls number below (and-second (not (slice_index_or falls number false)) _ test) (stands.sound all);
          most = omega (arith, less, stands.most);
          fewer = λ e. omega (arith, less, stands.most);
          closed = λ e. absurd (true≢false e);
        })

    pub round_left : marked ≡ false → RoundStands before after changed (index + 1)
    round_left e =
        let same : after ≡ falls = put ∙ ap (λ (t : Bool). if t then slice_set falls number true else falls) e in
        subst (λ l. RoundStands before l changed (index + 1)) (sym same) (record {
          long = stands.long;
          sound = stands.sound;
          most = stands.most;
          fewer = stands.fewer;
          closed = λ left k low high h. by left k low high h (nat_eq k number) refl;
        })
      where
        own : (t : Bool) → step_of falls number ≡ true → slice_index_or falls number false ≡ t → slice_index_or falls number false ≡ true
        own true step h = h
        own false step h =
            absurd (true≢false (sym (both (slice_index_or falls number false) (step_of falls number) h step) ∙ sym asked ∙ e))
          where
            both : (a b : Bool) → a ≡ false → b ≡ true → (not a && b) ≡ true
            both true b h g = absurd (true≢false h)
            both false b h g = g

        by : changed ≡ false → (k : ℕ) → length states ≤ k + (index + 1) → k < length states → step_of falls k ≡ true → (t : Bool)
            → nat_eq k number ≡ t → slice_index_or falls k false ≡ true
        by left k low high step true e =
            let same = eqb-true k number e in
            subst (λ n. slice_index_or falls n false ≡ true) (sym same)
            (own (slice_index_or falls number false) (subst (λ n. step_of falls n ≡ true) same step) refl)
        by left k low high step false e =
            let other : k ≢ number = λ same. absurd (true≢false (sym (eq-eqb k number same) ∙ e)) in
            stands.closed left k (omega (arith, low, high, other, is, within)) high step

  -- ---- one state that is marked or left

  pub record MarkStands (before after : List Bool) (marked : Bool) : Type 0 where
    pub long : length after ≡ length before
    pub sound : AllFall halts states before → AllFall halts states after
    pub fewer : marked ≡ true → unmarked after < unmarked before
    pub most : unmarked after ≤ unmarked before

  pub mark_stands : (falls after : List Bool) (marked : Bool) (number : ℕ) → number < length states → length falls ≡ length states
      → marked ≡ (not (slice_index_or falls number false) && step_of falls number)
      → after ≡ (if marked then slice_set falls number true else falls) → MarkStands falls after marked
  mark_stands falls after marked number within long asked put = by marked asked put
    where
      by : (marked : Bool) → marked ≡ (not (slice_index_or falls number false) && step_of falls number)
          → after ≡ (if marked then slice_set falls number true else falls) → MarkStands falls after marked
      by true asked put =
          let bare : slice_index_or falls number false ≡ false =
          not-true (slice_index_or falls number false) (and-first (not (slice_index_or falls number false)) _ (sym asked)) in
          let less : unmarked (slice_set falls number true) < unmarked falls = unmarked-set falls number (omega (arith, within, long)) bare in
          subst (λ l. MarkStands falls l true) (sym put) (record {
            long = length-set falls number true;
            sound = mark_sound falls number within (and-second (not (slice_index_or falls number false)) _ (sym asked));
            fewer = λ e. less;
            most = omega (arith, less);
          })
      by false asked put = subst (λ l. MarkStands falls l false) (sym put) (record {
        long = refl;
        sound = λ all. all;
        fewer = λ e. absurd (false≢true e);
        most = omega arith;
      })
