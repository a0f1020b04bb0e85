-- Whole walks over the same units: their choices tell them apart. So the leftmost greedy tree's script is one.
use Rattle.std.specs.Prelude.{◌≡◌, ℕ, ◌+◌, ◌*◌, ◌<◌, ◌⊎◌, List, [], ◌∷◌, ◌++◌, map, Some, slice_get, refl}
use Rattle.std.proofs.Common.{sym, ap, ap₂, ◌∙◌, subst, append_assoc, append-nil, inl, inr, ⊎_elim}
use Rattle.lx_base.specs.declared.settings.Enc.{Enc}
use Rattle.lx_base.specs.Spelling.{spell}
use Rattle.lx_regex.specs.Automaton.{Move, State, label, leaf, moves, unit_leaf, target}
use Rattle.lx_regex.specs.Dictionary.{IsBefore}
use Rattle.lx_regex.specs.Least.{IsLeast}
use Rattle.lx_regex.specs.Script.{Symbol, choices, leaf_choice, reads, script, units}
use Rattle.lx_regex.specs.Term.{Term}
use Rattle.lx_regex.specs.Tree.{Tree}
use Rattle.lx_regex.specs.Walk.{IsAmong, Walk, at_point, at_unit, mark, moved, stay, symbols}
use Rattle.lx_regex.proofs.Walks.Clear.{AllAreClear, clear_at, picked, alone_clear}
use Rattle.lx_regex.proofs.Walks.Fronts.{DiffersBefore, choices_code, choices_label, choices_mark, compare_lists, drop_picks, no_rows, pick_list, same_pick, differs-before, units_code}
use Rattle.lx_regex.proofs.Walks.PlainWalk.{units_label, units_mark}
use Rattle.lx_regex.proofs.Walks.WholeWalk.{alone, alone_stands, alone_zero, walk_of}
use Rattle.lx_regex.proofs.Walks.Readings.{code_choice, code_free}
use Rattle.lx_regex.specs.Reading.{IsReading, of_point, of_unit}
use Rattle.lx_regex.specs.Order.{greedy}

-- the symbols of a walk from a state to state 0
pub data Path (enc : Enc) (states : List State) : ℕ → List Symbol → Type 0 where
  ended : {s : ℕ} → s ≡ 0 → Path enc states s []
  then_move : {s : ℕ} {l : List Symbol} → (ms : List Move) (m : Move) → slice_get states s ≡ Some (moves ms) → IsAmong m ms
      → Path enc states (target m) l → Path enc states s (mark s ∷ (label m ++ l))
  then_code :
      {s : ℕ} {l : List Symbol} →
      (r : State) (d : List Symbol) (us : List ℕ) → slice_get states s ≡ Some r → IsReading enc r d us
      → Path enc states (s + 1) l → Path enc states s (mark s ∷ (d ++ (map reads us ++ l)))

pub path_of : (enc : Enc) (states : List State) {s : ℕ} → (w : Walk states 0 s) → Path enc states s (symbols enc w [])
path_of enc states stay = ended refl
path_of enc states (moved ms m h i w) = then_move ms m h i (path_of enc states w)
path_of enc states (at_point {state = s} ranges c h i w) =
    then_code (leaf ranges) (leaf_choice enc ranges c) (spell enc c) h (of_point c i) (path_of enc states w)
path_of enc states (at_unit {state = s} u h w) = then_code unit_leaf [] (u ∷ []) h (of_unit u) (path_of enc states w)

code_step : (enc : Enc) (states : List State) {s : ℕ} {r : State} {d : List Symbol} {us : List ℕ} → IsReading enc r d us
    → slice_get states s ≡ Some r → (w : Walk states 0 (s + 1))
    → (w' : Walk states 0 s) × (symbols enc w' [] ≡ mark s ∷ (d ++ (map reads us ++ symbols enc w [])))
code_step enc states (of_point {ranges} c i) h w = (at_point ranges c h i w, refl)
code_step enc states (of_unit u) h w = (at_unit u h w, refl)

pub walk_from :
    (enc : Enc) (states : List State) {s : ℕ} {l : List Symbol} → Path enc states s l → (w : Walk states 0 s)
    × (symbols enc w [] ≡ l)
walk_from enc states (ended e) = subst (λ n. (w : Walk states 0 n) × (symbols enc w [] ≡ [])) (sym e) (stay, refl)
walk_from enc states (then_move {s} ms m h i a) =
    let r = walk_from enc states a in (moved ms m h i r.0, ap (λ k. mark s ∷ (label m ++ k)) r.1)
walk_from enc states (then_code {s} r d us h c a) =
    let q = walk_from enc states a in
    let x = code_step enc states c h q.0 in
    (x.0, x.1 ∙ ap (λ k. mark s ∷ (d ++ (map reads us ++ k))) q.1)

pub zero_is :
    (states : List State) (s : ℕ) → slice_get states 0 ≡ Some (moves []) → s ≡ 0 → slice_get states s ≡ Some (moves [])
zero_is states s z e = ap (λ n. slice_get states n) e ∙ z

pub in_none : {m : Move} (ms : List Move) → ms ≡ [] → IsAmong m ms → ⊥
in_none {m} ms e i = none (subst (λ k. IsAmong m k) e i)
  where
    none : IsAmong m [] → ⊥
    none j = elim j [ ]

pub path_same :
    (enc : Enc) (states : List State) → AllAreClear states → slice_get states 0 ≡ Some (moves []) → {s : ℕ} {l l' : List Symbol}
    → Path enc states s l → Path enc states s l' → units l ≡ units l' →
    (rest : List ℕ) → choices l' ≡ choices l ++ rest → l ≡ l'
path_same enc states clear z (ended h) (ended h') u rest c = refl
path_same enc states clear z (ended {s} h) (then_move ms m h' i b) u rest c =
    let k = zero_is states s z h in absurd (in_none ms (cc) i)
path_same enc states clear z (ended {s} h) (then_code r d us h' k b) u rest c =
    absurd (no_rows enc states s [] r (zero_is states s z h) h' k)
path_same enc states clear z (then_move {s} ms m h i a) (ended h') u rest c =
    let k = zero_is states s z h' in absurd (in_none ms (cc) i)
path_same enc states clear z (then_code r d us h k a) (ended {s} h') u rest c =
    absurd (no_rows enc states s [] r (zero_is states s z h') h k)
path_same enc states clear z (then_move {s} {l} ms m h i a) (then_move {l = l'} ms' m' h' i' b) u rest c =
    let k : ms' ≡ ms = cc in
    let j : IsAmong m' ms = subst (λ n. IsAmong m' n) k i' in
    let c0 : pick_list (picked m') ++ choices l' ≡ pick_list (picked m) ++ (choices l ++ rest) =
    sym (choices_mark s _ ∙ choices_label m' l') ∙ c ∙ ap (λ n. n ++ rest) (choices_mark s _ ∙ choices_label m l)
    ∙ append_assoc (pick_list (picked m)) (choices l) rest in
    let e : m ≡ m' = same_pick ms m m' (clear_at states s (moves ms) clear h) i j _ _ c0 in
    let c1 : choices l' ≡ choices l ++ rest =
    drop_picks (picked m) _ _ (ap (λ n. pick_list (picked n) ++ choices l') e ∙ c0) in
    let u1 : units l ≡ units l' = sym (units_mark s _ ∙ units_label m l) ∙ u ∙ (units_mark s _ ∙ units_label m' l') in
    ap₂
    (λ n k. mark s ∷ (label n ++ k)) e
    (path_same enc states clear z a (subst (λ n. Path enc states (target n) l') (sym e) b) u1 rest c1)
path_same enc states clear z (then_move {s} ms m h i a) (then_code r d us h' k b) u rest c =
    absurd (no_rows enc states s ms r h h' k)
path_same enc states clear z (then_code {s} r d us h' k a) (then_move ms m h i b) u rest c =
    absurd (no_rows enc states s ms r h h' k)
path_same enc states clear z (then_code {s} {l} r d us h k a) (then_code {l = l'} r' d' us' h' k' b) u rest c =
    let e : r' ≡ r = cc in
    let k'' : IsReading enc r d' us' = subst (λ n. IsReading enc n d' us') e k' in
    let c0 : choices d' ++ choices l' ≡ choices d ++ (choices l ++ rest) =
    sym (choices_code enc states s d' us' l') ∙ c ∙ ap (λ n. n ++ rest) (choices_code enc states s d us l)
    ∙ append_assoc (choices d) (choices l) rest in
    let q = code_choice enc k k'' _ _ c0 in
    let u0 : us ++ units l ≡ us' ++ units l' =
    sym (units_code enc states s r d us l k) ∙ u ∙ units_code enc states s r d' us' l' k'' in
    let p = code_free enc k k'' q.0 _ _ u0 in
    ap₂ (λ x y. mark s ∷ (x ++ y)) q.0 (ap₂ (λ x y. map reads x ++ y) p.0 (path_same enc states clear z a b p.1 rest q.1))

-- the scripts of two trees over the same units are the same, or their choices differ before either's end
pub scripts_differ :
    (enc : Enc) (e : Term) (p : ℕ) → 0 < p → (t t' : Tree e) → units (script enc p t) ≡ units (script enc p t')
    → (script enc p t ≡ script enc p t')
    ⊎ (DiffersBefore (choices (script enc p t)) (choices (script enc p t')) ⊎ DiffersBefore (choices (script enc p t')) (choices (script enc p t)))
scripts_differ enc e p lt t t' same =
    let states = alone e p in
    let a = walk_of enc states e p (alone_stands e p) t in
    let b = walk_of enc states e p (alone_stands e p) t' in
    let v = subst (λ l. Path enc states (2 * p) l) a.1 (path_of enc states a.0) in
    let w = subst (λ l. Path enc states (2 * p) l) b.1 (path_of enc states b.0) in
    ⊎_elim
    (λ r. inl (path_same enc states (alone_clear e p) (alone_zero e p lt) v w same r.0 r.1))
    (λ r.
    ⊎_elim
    (λ r. inl (sym (path_same enc states (alone_clear e p) (alone_zero e p lt) w v (sym same) r.0 r.1))) (λ d. inr d) r)
    (compare_lists (choices (script enc p t)) (choices (script enc p t')))

pub differs_is_before : (xs ys : List ℕ) → DiffersBefore xs ys → IsBefore xs ys
differs_is_before xs ys h =
    subst
    (λ k. IsBefore k ys) (append-nil xs)
    (subst (λ k. IsBefore (xs ++ []) k) (append-nil ys) (differs-before xs ys [] [] h))

-- all leftmost greedy least trees of a word have one script
pub greedy_script : (enc : Enc) (e : Term) (p : ℕ) → 0 < p → (w : List ℕ) (t t' : Tree e) → IsLeast greedy enc p e w t
    → IsLeast greedy enc p e w t' → script enc p t ≡ script enc p t'
greedy_script enc e p lt w t t' b b' =
    ⊎_elim
    (λ h. h)
    (λ r.
    ⊎_elim
    (λ s. absurd (b'.least t b.yields b.plain (differs_is_before _ _ s)))
    (λ s. absurd (b.least t' b'.yields b'.plain (differs_is_before _ _ s))) r)
    (scripts_differ enc e p lt t t' (b.yields ∙ sym b'.yields))
