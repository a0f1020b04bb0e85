-- A walk taken apart at a state that it passes, and put together with another that goes on from there.
use Rattle.std.specs.Prelude.{◌≡◌, ℕ, List, [], ◌∷◌, ◌++◌, map, Some, None, Bool, true, false, ◌&&◌, nat_lt, if◌then◌else◌, refl}
use Rattle.std.proofs.Common.{sym, ap, ap₂, ◌∙◌, subst, append_assoc}
use Rattle.lx_base.specs.declared.settings.Enc.{Enc}
use Rattle.lx_base.specs.declared.settings.Enc.TheVariants.{Byte, Ucs2, Utf8, Utf16, Utf32}
use Rattle.lx_regex.specs.Automaton.{Move, State, label, move}
use Rattle.lx_regex.specs.Plain.{mark_of}
use Rattle.lx_regex.specs.Reading.{IsReading, of_point, of_unit}
use Rattle.lx_regex.specs.Script.{Symbol, has_long, has_short, leaf_choice, picks, reads, sets, unsets}
use Rattle.lx_regex.specs.Walk.{mark}
use Rattle.lx_regex.proofs.Walks.PlainWalk.{mark_tells}
use Rattle.lx_regex.proofs.Walks.Scripts.{Path, ended, then_code, then_move}

-- no state is passed
abbrev IsUnmarked : List Symbol → Type 0
IsUnmarked [] = Unit {0}
IsUnmarked (x ∷ l) = (mark_of x ≡ None) × IsUnmarked l

unmarked_append : (a b : List Symbol) → IsUnmarked a → IsUnmarked b → IsUnmarked (a ++ b)
unmarked_append [] b h k = k
unmarked_append (x ∷ a) b h k = (h.0, unmarked_append a b h.1 k)

unmarked_sets : (ts : List ℕ) → IsUnmarked (map sets ts)
unmarked_sets [] = tt
unmarked_sets (t ∷ ts) = (refl, unmarked_sets ts)

unmarked_unsets : (ts : List ℕ) → IsUnmarked (map unsets ts)
unmarked_unsets [] = tt
unmarked_unsets (t ∷ ts) = (refl, unmarked_unsets ts)

unmarked_reads : (us : List ℕ) → IsUnmarked (map reads us)
unmarked_reads [] = tt
unmarked_reads (u ∷ us) = (refl, unmarked_reads us)

unmarked_label : (m : Move) → IsUnmarked (label m)
unmarked_label (move None set unset to) = unmarked_append (map sets set) (map unsets unset) (unmarked_sets set) (unmarked_unsets unset)
unmarked_label (move (Some d) set unset to) =
    (refl, unmarked_append (map sets set) (map unsets unset) (unmarked_sets set) (unmarked_unsets unset))

unmarked_choice : (enc : Enc) (ranges : List (ℕ × ℕ)) (c : ℕ) → IsUnmarked (leaf_choice enc ranges c)
unmarked_choice Byte ranges c = tt
unmarked_choice Ucs2 ranges c = tt
unmarked_choice Utf8 ranges c = tt
unmarked_choice Utf16 ranges c = at (has_short ranges && has_long ranges)
  where
    at : (b : Bool) → IsUnmarked (if b then picks (if nat_lt c 0x10000 then 1 else 0) ∷ [] else [])
    at true = (refl, tt)
    at false = tt
unmarked_choice Utf32 ranges c = tt

unmarked_reading : (enc : Enc) {r : State} {d : List Symbol} {us : List ℕ} → IsReading enc r d us → IsUnmarked d
unmarked_reading enc (of_point {ranges} c i) = unmarked_choice enc ranges c
unmarked_reading enc (of_unit u) = tt

-- a state stands behind what passes none
behind_unmarked :
    (a : List Symbol) → IsUnmarked a → (k b c : List Symbol) (m : Symbol) (t : ℕ) → mark_of m ≡ Some t → a ++ k ≡ b ++ m ∷ c
    → (l : List Symbol) × (b ≡ a ++ l) × (k ≡ l ++ m ∷ c)
behind_unmarked [] h k b c m t e f = (b, refl, f)
behind_unmarked (x ∷ a) h k [] c m t e f =
    let z : x ≡ m = cc in let y : None ≡ Some t = sym h.0 ∙ ap mark_of z ∙ e in absurd (cc)
behind_unmarked (x ∷ a) h k (y ∷ b) c m t e f =
    let z : x ≡ y = cc in
    let r = behind_unmarked a h.1 k b c m t e (cc) in
    (r.0, ap₂ (λ p q. p ∷ q) (sym z) r.1, r.2)

module _ (enc : Enc) (states : List State) where
  at_once : {s : ℕ} → (l : List Symbol) → Path enc states s (mark s ∷ l) → (c : List Symbol) (m : Symbol) (t : ℕ) → mark_of m ≡ Some t
      → mark s ∷ l ≡ m ∷ c → Path enc states t (m ∷ c) × ((k : List Symbol) → Path enc states t k → Path enc states s k)
  at_once {s} l a c m t h f =
      let z : mark s ≡ m = cc in
      let y : Some s ≡ Some t = sym (mark_tells s) ∙ ap mark_of z ∙ h in
      let e : s ≡ t = cc in (
        subst (λ n. Path enc states n (m ∷ c)) e (subst (λ k. Path enc states s k) f a),
        λ k p. subst (λ n. Path enc states n k) (sym e) p,
      )

  pub at_state : {s : ℕ} {l : List Symbol} → Path enc states s l → (b c : List Symbol) (m : Symbol) (t : ℕ) → mark_of m ≡ Some t
      → l ≡ b ++ m ∷ c → Path enc states t (m ∷ c) × ((k : List Symbol) → Path enc states t k → Path enc states s (b ++ k))
  at_state (ended e) [] c m t h f = cc
  at_state (ended e) (x ∷ b) c m t h f = cc
  at_state (then_move {s} {l} ms w g i a) [] c m t h f = at_once (label w ++ l) (then_move ms w g i a) c m t h f
  at_state (then_move {s} {l} ms w g i a) (x ∷ b) c m t h f =
      let z : mark s ≡ x = cc in
      let r = behind_unmarked (label w) (unmarked_label w) l b c m t h (cc) in
      let q = at_state a r.0 c m t h r.2 in (
        q.0,
        λ k p.
            subst
            (λ n. Path enc states s n)
            (ap₂ (λ x y. x ∷ y) z (sym (append_assoc (label w) r.0 k) ∙ ap (λ n. n ++ k) (sym r.1)))
            (then_move ms w g i (q.1 k p)),
      )
  at_state (then_code {s} {l} r d us g i a) [] c m t h f = at_once (d ++ (map reads us ++ l)) (then_code r d us g i a) c m t h f
  at_state (then_code {s} {l} r d us g i a) (x ∷ b) c m t h f =
      let z : mark s ≡ x = cc in
      let y : d ++ (map reads us ++ l) ≡ b ++ m ∷ c = cc in
      let o =
      behind_unmarked
      (d ++ map reads us) (unmarked_append d (map reads us) (unmarked_reading enc i) (unmarked_reads us)) l b c m t h
      (append_assoc d (map reads us) l ∙ y) in
      let q = at_state a o.0 c m t h o.2 in (
        q.0,
        λ k p.
            subst
            (λ n. Path enc states s n)
            (ap₂
            (λ x y. x ∷ y) z
            (ap (λ n. d ++ n) (sym (append_assoc (map reads us) o.0 k)) ∙ sym (append_assoc d (map reads us ++ o.0) k)
            ∙ ap (λ n. n ++ k) (sym (append_assoc d (map reads us) o.0) ∙ sym o.1)))
            (then_code r d us g i (q.1 k p)),
      )
