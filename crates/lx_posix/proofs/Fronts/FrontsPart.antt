-- Two different fronts of walks over the same units part at a choice; the one with the lesser choice is the first.
use Rattle.lx_posix.specs.Parting.{Event, Parts, by_digit, by_down, by_read, by_up, digit, down, events, keep, parts_here, up}
use Rattle.std.specs.Prelude.{◌≡◌, ℕ, zero, suc, ◌+◌, ◌-◌, ◌<◌, ◌⊎◌, List, [], ◌∷◌, ◌++◌, map, length, Some, None, Bool, true, false, ◌&&◌, nat_lt, if◌then◌else◌, refl}
use Rattle.std.proofs.Common.{sym, ap, ap₂, ◌∙◌, subst, arith, append_assoc, append-nil, inl, inr, ⊎_elim}
use Rattle.lx_base.specs.declared.settings.Enc.{Enc}
use Rattle.lx_base.specs.declared.settings.Enc.TheVariants.{Byte, Ucs2, Utf8, Utf16, Utf32}
use Rattle.lx_regex.specs.Automaton.{Move, State, label, move, moves, target, automaton}
use Rattle.lx_regex.specs.Cut.{Cut, EndsInUnit, GoesOn}
use Rattle.lx_regex.specs.Script.{Symbol, begins, choices, ends, picks, reads, sets, units, unsets, leaf_choice, has_short, has_long}
use Rattle.lx_regex.specs.Term.{Term}
use Rattle.lx_regex.specs.Walk.{IsAmong, mark}
use Rattle.lx_regex.specs.Reading.{IsReading, of_point, of_unit}
use Rattle.lx_regex.proofs.Walks.Clear.{AllAreClear, AreClear, clear_at, picked}
use Rattle.lx_regex.proofs.Walks.PlainWalk.{units_append, units_label, units_mark}
use Rattle.lx_regex.proofs.Walks.Readings.{code_free, code_quiet, code_some}
use Rattle.lx_regex.proofs.Walks.Fronts.{Front, by_code, by_move, within, DiffersBefore, pick_list, choices_mark, choices_label, choices_code, choices_append, units_code, units_reads, no_rows}
use Rattle.lx_regex.proofs.KernelCuts.Cuts.{Way, way_of, cutting_of, automaton_clear}
use Rattle.lx_posix.proofs.Partings.ForkOfParting.{parting_some}

pub down_on : (n d : ℕ) (l l' : List Event) → Parts n (suc d) l l' → Parts n d (down ∷ l) (down ∷ l')
down_on zero d l l' r = let z = parting_some r.3 in absurd (omega arith)
down_on (suc n) d l l' r = (r.0, r.1, r.2, by_down r.3)

pub up_on : (n d : ℕ) (l l' : List Event) → Parts n (d - 1) l l' → Parts n d (up ∷ l) (up ∷ l')
up_on zero d l l' r = let z = parting_some r.3 in absurd (omega arith)
up_on (suc n) d l l' r = (r.0, r.1, r.2, by_up r.3)

pub digit_on : (n d i : ℕ) (l l' : List Event) → Parts n d l l' → Parts n d (digit i ∷ l) (digit i ∷ l')
digit_on zero d i l l' r = let z = parting_some r.3 in absurd (omega arith)
digit_on (suc n) d i l l' r = (r.0, r.1, r.2, by_digit refl r.3)

pub part_now : (n d i j : ℕ) (l l' : List Event) → 0 < n → i < j → Parts n d (digit i ∷ l) (digit j ∷ l')
part_now zero d i j l l' z lt = absurd (omega arith)
part_now (suc n) d i j l l' z lt = (d, keep (suc n) d d l, keep (suc n) d d l', parts_here lt)

-- behind a common front
pub common_front :
    (a y y' : List Symbol) (n k : ℕ) → k ≡ length (units a) + n → ((d : ℕ) → Parts n d (events y) (events y'))
    → (d : ℕ) → Parts k d (events (a ++ y)) (events (a ++ y'))
common_front [] y y' n k e f d = let z : n ≡ k = omega arith in subst (λ m. Parts m d (events y) (events y')) z (f d)
common_front (begins p ∷ a) y y' n k e f d = down_on k d _ _ (common_front a y y' n k e f (suc d))
common_front (ends p ∷ a) y y' n k e f d = up_on k d _ _ (common_front a y y' n k e f (d - 1))
common_front (sets t ∷ a) y y' n k e f d = common_front a y y' n k e f d
common_front (unsets t ∷ a) y y' n k e f d = common_front a y y' n k e f d
common_front (picks i ∷ a) y y' n k e f d = digit_on k d i _ _ (common_front a y y' n k e f d)
common_front (reads u ∷ a) y y' n zero e f d = absurd (omega arith)
common_front (reads u ∷ a) y y' n (suc k) e f d =
    let r = common_front a y y' n k (omega arith) f d in (r.0, r.1, r.2, by_read r.3)

-- two ways out of a state
pub move_way :
    (ms : List Move) (m m' : Move) → AreClear ms → IsAmong m ms → IsAmong m' ms → (x y : List ℕ)
    → DiffersBefore (pick_list (picked m) ++ x) (pick_list (picked m') ++ y)
    → ((m ≡ m') × DiffersBefore x y)
    ⊎ ((i j : ℕ) × (r r' : List Symbol) × (label m ≡ picks i ∷ r) × (label m' ≡ picks j ∷ r') × (i < j))
move_way ms (move None s t p) m' c i j x y h =
    let e = c _ _ i j (inl refl) in inl (e, subst (λ n. DiffersBefore x (pick_list (picked n) ++ y)) (sym e) h)
move_way ms (move (Some a) s t p) (move None s' t' p') c i j x y h =
    let e = c _ _ j i (inl refl) in let z : None ≡ Some a = ap picked e in absurd (cc)
move_way ms (move (Some a) s t p) (move (Some b) s' t' p') c i j x y h =
    ⊎_elim (λ lt. inr (a, b, _, _, refl, refl, lt)) (λ r. inl (c _ _ i j (inr (ap Some r.0)), r.1)) h

abbrev pub ReadingWay : (d d' : List Symbol) (x y : List ℕ) → Type 0
ReadingWay d d' x y =
    ((d ≡ d') × DiffersBefore x y)
    ⊎ ((i j : ℕ) × (r r' : List Symbol) × (d ≡ picks i ∷ r) × (d' ≡ picks j ∷ r') × (i < j))

choice_way :
    (enc : Enc) (ranges : List (ℕ × ℕ)) (c c' : ℕ) (x y : List ℕ)
    → DiffersBefore (choices (leaf_choice enc ranges c) ++ x) (choices (leaf_choice enc ranges c') ++ y)
    → ReadingWay (leaf_choice enc ranges c) (leaf_choice enc ranges c') x y
choice_way Byte ranges c c' x y h = inl (refl, h)
choice_way Ucs2 ranges c c' x y h = inl (refl, h)
choice_way Utf8 ranges c c' x y h = inl (refl, h)
choice_way Utf32 ranges c c' x y h = inl (refl, h)
choice_way Utf16 ranges c c' x y h =
    two (has_short ranges && has_long ranges) (if nat_lt c 0x10000 then 1 else 0) (if nat_lt c' 0x10000 then 1 else 0) h
  where
    two :
        (b : Bool) (i j : ℕ)
        → DiffersBefore (choices (if b then picks i ∷ [] else []) ++ x) (choices (if b then picks j ∷ [] else []) ++ y)
        → ReadingWay (if b then picks i ∷ [] else []) (if b then picks j ∷ [] else []) x y
    two true i j h = ⊎_elim (λ lt. inr (i, j, [], [], refl, refl, lt)) (λ r. inl (ap (λ k. picks k ∷ []) r.0, r.1)) h
    two false i j h = inl (refl, h)

pub reading_way :
    (enc : Enc) {r : State} {d d' : List Symbol} {us us' : List ℕ} → IsReading enc r d us → IsReading enc r d' us' → (x y : List ℕ)
    → DiffersBefore (choices d ++ x) (choices d' ++ y) → ReadingWay d d' x y
reading_way enc (of_point {ranges} c i) (of_point c' i') x y h = choice_way enc ranges c c' x y h
reading_way enc (of_unit u) (of_unit u') x y h = inl (refl, h)

pub length_both : (a b : List ℕ) → length (a ++ b) ≡ length a + length b
length_both [] b = omega arith
length_both (x ∷ a) b = let z = length_both a b in omega arith

nothing_before : (x : List ℕ) → DiffersBefore x [] → ⊥
nothing_before [] h = h
nothing_before (a ∷ x) h = h

module _ (enc : Enc) (states : List State) where
  front_some : (f : ℕ) (v : List ℕ) {s : ℕ} {l : List Symbol} → Front enc states f v s l → 0 < length (units l)
  front_some f v (by_move {s} {l} ms m h i a) =
      subst (λ k. 0 < length k) (sym (units_mark s (label m ++ l) ∙ units_label m l)) (front_some f v a)
  front_some f v (by_code {s} {l} r d us h c a) =
      let k = code_some enc c in
      subst
      (λ k. 0 < length k)
      (sym (units_code enc states s r d us l c ∙ ap (λ n. n ++ units l) k.2)) (omega arith)
  front_some f v (within {s} at r d u us h c) =
      let e = units_mark s (d ++ map reads (u ∷ us)) ∙ units_append d _ ∙ ap (λ n. n ++ units (map reads (u ∷ us))) (code_quiet enc c) in
      subst (λ k. 0 < length k) (sym e) (omega arith)

  choices_inside : (s : ℕ) (d : List Symbol) (us : List ℕ) → choices (mark s ∷ (d ++ map reads us)) ≡ choices d ++ []
  choices_inside s d us =
      choices_mark s _ ∙ choices_append d _ ∙ ap (λ k. choices d ++ k) (none us)
    where
      none : (us : List ℕ) → choices (map reads us) ≡ []
      none [] = refl
      none (u ∷ us) = none us

  -- at once, where both symbols of the state are choices
  pub parted :
      (s n d i j : ℕ) (a a' r r' k k' x x' : List Symbol) → 0 < n → i < j → a ≡ picks i ∷ r → a' ≡ picks j ∷ r'
      → Parts n d (events ((mark s ∷ (a ++ k)) ++ x)) (events ((mark s ∷ (a' ++ k')) ++ x'))
  parted s n d i j a a' r r' k k' x x' z lt e e' =
      let z' : n ≡ 0 + n = omega arith in
      let q : units (mark s ∷ []) ≡ [] = units_mark s [] in
      subst
      (λ b. Parts n d (events ((mark s ∷ (b ++ k)) ++ x)) (events ((mark s ∷ (a' ++ k')) ++ x'))) (sym e)
      (subst
      (λ b. Parts n d (events ((mark s ∷ ((picks i ∷ r) ++ k)) ++ x)) (events ((mark s ∷ (b ++ k')) ++ x'))) (sym e')
      (common_front
      (mark s ∷ []) (picks i ∷ ((r ++ k) ++ x)) (picks j ∷ ((r' ++ k') ++ x')) n n
      (z' ∙ ap (λ u. length u + n) (sym q)) (λ d'. part_now n d' i j _ _ z lt) d))

  -- later, where both go on from a common front
  pub onward :
      (a k k' x x' : List Symbol) (n m : ℕ) → m ≡ length (units a) + n
      → ((d : ℕ) → Parts n d (events (k ++ x)) (events (k' ++ x')))
      → (d : ℕ) → Parts m d (events ((a ++ k) ++ x)) (events ((a ++ k') ++ x'))
  onward a k k' x x' n m e f d =
      subst
      (λ b. Parts m d (events b) (events ((a ++ k') ++ x'))) (sym (append_assoc a k x))
      (subst
      (λ b. Parts m d (events (a ++ (k ++ x))) (events b)) (sym (append_assoc a k' x'))
      (common_front a (k ++ x) (k' ++ x') n m e f d))

  pub front_parting :
      AllAreClear states → (f f' : ℕ) (v v' : List ℕ) (x x' : List Symbol) {s : ℕ} {l l' : List Symbol}
      → Front enc states f v s l → Front enc states f' v' s l' → units l ≡ units l'
      → DiffersBefore (choices l) (choices l')
      → (d : ℕ) → Parts (length (units l)) d (events (l ++ x)) (events (l' ++ x'))
  front_parting clear f f' v v' x x' (by_move {s} {l} ms m h i a) (by_move {l = l'} ms' m' h' i' b) u df d =
      let k : ms' ≡ ms = cc in
      let j : IsAmong m' ms = subst (λ n. IsAmong m' n) k i' in
      let c0 : DiffersBefore (pick_list (picked m) ++ choices l) (pick_list (picked m') ++ choices l') =
      subst
      (λ q. DiffersBefore q (pick_list (picked m') ++ choices l')) (choices_mark s _ ∙ choices_label m l)
      (subst (λ q. DiffersBefore (choices (mark s ∷ (label m ++ l))) q) (choices_mark s _ ∙ choices_label m' l') df) in
      let u1 : units l ≡ units l' = sym (units_mark s _ ∙ units_label m l) ∙ u ∙ (units_mark s _ ∙ units_label m' l') in
      let some = front_some f v (by_move ms m h i a) in
      ⊎_elim
      (λ r.
      let b' = subst (λ n. Front enc states f' v' (target n) l') (sym r.0) b in
      let quiet : units (mark s ∷ label m) ≡ [] =
      units_mark s (label m) ∙ ap units (sym (append-nil (label m))) ∙ units_label m [] in
      let e1 : length (units l) ≡ 0 + length (units l) = omega arith in
      let e : length (units (mark s ∷ (label m ++ l))) ≡ length (units (mark s ∷ label m)) + length (units l) =
      ap length (units_mark s _ ∙ units_label m l) ∙ e1 ∙ ap (λ q. length q + length (units l)) (sym quiet) in
      subst
      (λ n. Parts (length (units (mark s ∷ (label m ++ l)))) d (events ((mark s ∷ (label m ++ l)) ++ x)) (events ((mark s ∷ (label n ++ l')) ++ x')))
      r.0
      (onward (mark s ∷ label m) l l' x x' (length (units l)) _ e
      (λ d'. front_parting clear f f' v v' x x' a b' u1 r.1 d') d))
      (λ r. parted s _ d r.0 r.1 (label m) (label m') r.2 r.3 l l' x x' some r.6 r.4 r.5)
      (move_way ms m m' (clear_at states s (moves ms) clear h) i j _ _ c0)
  front_parting clear f f' v v' x x' (by_move {s} ms m h i a) (by_code r d us h' k b) u df dd =
      absurd (no_rows enc states s ms r h h' k)
  front_parting clear f f' v v' x x' (by_move {s} ms m h i a) (within at r d y us h' k) u df dd =
      absurd (no_rows enc states s ms r h h' k)
  front_parting clear f f' v v' x x' (by_code {s} r d us h' k a) (by_move ms m h i b) u df dd =
      absurd (no_rows enc states s ms r h h' k)
  front_parting clear f f' v v' x x' (within {s} at r d y us h' k) (by_move ms m h i b) u df dd =
      absurd (no_rows enc states s ms r h h' k)
  front_parting clear f f' v v' x x' (by_code {s} {l} r d us h k a) (by_code {l = l'} r' d' us' h' k' b) u df dd =
      let e : r' ≡ r = cc in
      let k'' : IsReading enc r d' us' = subst (λ n. IsReading enc n d' us') e k' in
      let c0 : DiffersBefore (choices d ++ choices l) (choices d' ++ choices l') =
      subst
      (λ q. DiffersBefore q (choices d' ++ choices l')) (choices_code enc states s d us l)
      (subst
      (λ q. DiffersBefore (choices (mark s ∷ (d ++ (map reads us ++ l)))) q) (choices_code enc states s d' us' l') df) in
      let u0 : us ++ units l ≡ us' ++ units l' =
      sym (units_code enc states s r d us l k) ∙ u ∙ units_code enc states s r d' us' l' k'' in
      let some = front_some f v (by_code r d us h k a) in
      ⊎_elim
      (λ q.
      let p = code_free enc k k'' q.0 _ _ u0 in
      let front = mark s ∷ (d ++ map reads us) in
      let quiet : units front ≡ us ++ [] =
      units_mark s _ ∙ units_append d _ ∙ ap₂ (λ a b. a ++ b) (code_quiet enc k) (ap units (sym (append-nil (map reads us))) ∙ units_reads us []) in
      let n1 : length (us ++ units l) ≡ length us + length (units l) = length_both us (units l) in
      let n2 : length (us ++ []) ≡ length us = ap length (append-nil us) in
      let e1 : length (units (mark s ∷ (d ++ (map reads us ++ l)))) ≡ length (units front) + length (units l) =
      ap length (units_code enc states s r d us l k) ∙ n1 ∙ ap (λ n. n + length (units l)) (sym (ap length quiet ∙ n2)) in
      let g : Parts (length (units (mark s ∷ (d ++ (map reads us ++ l))))) dd (events ((front ++ l) ++ x)) (events ((front ++ l') ++ x')) =
      onward front l l' x x' (length (units l)) _ e1
      (λ d'. front_parting clear f f' v v' x x' a b p.1 q.1 d') dd in
      let s1 : front ++ l ≡ mark s ∷ (d ++ (map reads us ++ l)) = ap (λ n. mark s ∷ n) (append_assoc d (map reads us) l) in
      let s2 : front ++ l' ≡ mark s ∷ (d' ++ (map reads us' ++ l')) =
      ap (λ n. mark s ∷ n) (append_assoc d (map reads us) l' ∙ ap₂ (λ m n. m ++ (map reads n ++ l')) q.0 p.0) in
      subst
      (λ n. Parts (length (units (mark s ∷ (d ++ (map reads us ++ l))))) dd (events (n ++ x)) (events ((mark s ∷ (d' ++ (map reads us' ++ l'))) ++ x'))) s1
      (subst
      (λ n. Parts (length (units (mark s ∷ (d ++ (map reads us ++ l))))) dd (events ((front ++ l) ++ x)) (events (n ++ x'))) s2 g))
      (λ q. parted s _ dd q.0 q.1 d d' q.2 q.3 _ _ x x' some q.6 q.4 q.5)
      (reading_way enc k k'' _ _ c0)
  front_parting clear f f' v v' x x' (by_code {s} {l} r d us h k a) (within at r' d' y us' h' k') u df dd =
      let e : r' ≡ r = cc in
      let k'' : IsReading enc r d' ((y ∷ us') ++ v') = subst (λ n. IsReading enc n d' (y ∷ (us' ++ v'))) e k' in
      let c0 : DiffersBefore (choices d ++ choices l) (choices d' ++ []) =
      subst
      (λ q. DiffersBefore q (choices d' ++ [])) (choices_code enc states s d us l)
      (subst
      (λ q. DiffersBefore (choices (mark s ∷ (d ++ (map reads us ++ l)))) q) (choices_inside s d' (y ∷ us')) df) in
      let some = front_some f v (by_code r d us h k a) in
      ⊎_elim
      (λ q. absurd (nothing_before (choices l) q.1))
      (λ q. parted s _ dd q.0 q.1 d d' q.2 q.3 _ _ x x' some q.6 q.4 q.5)
      (reading_way enc k k'' _ _ c0)
  front_parting clear f f' v v' x x' (within {s} at r' d' y us' h' k') (by_code {l} r d us h k a) u df dd =
      let e : r' ≡ r = cc in
      let k'' : IsReading enc r d' ((y ∷ us') ++ v) = subst (λ n. IsReading enc n d' (y ∷ (us' ++ v))) e k' in
      let c0 : DiffersBefore (choices d' ++ []) (choices d ++ choices l) =
      subst
      (λ q. DiffersBefore q (choices d ++ choices l)) (choices_inside s d' (y ∷ us'))
      (subst
      (λ q. DiffersBefore (choices (mark s ∷ (d' ++ map reads (y ∷ us')))) q) (choices_code enc states s d us l) df) in
      let some = front_some f v (within at r' d' y us' h' k') in
      ⊎_elim
      (λ q. absurd q.1)
      (λ q. parted s _ dd q.0 q.1 d' d q.2 q.3 _ _ x x' some q.6 q.4 q.5)
      (reading_way enc k'' k _ _ c0)
  front_parting clear f f' v v' x x' (within {s} at r d y us h k) (within at' r' d' y' us' h' k') u df dd =
      let e : r' ≡ r = cc in
      let k'' : IsReading enc r d' ((y' ∷ us') ++ v') = subst (λ n. IsReading enc n d' (y' ∷ (us' ++ v'))) e k' in
      let c0 : DiffersBefore (choices d ++ []) (choices d' ++ []) =
      subst
      (λ q. DiffersBefore q (choices d' ++ [])) (choices_inside s d (y ∷ us))
      (subst
      (λ q. DiffersBefore (choices (mark s ∷ (d ++ map reads (y ∷ us)))) q) (choices_inside s d' (y' ∷ us')) df) in
      let some = front_some f v (within at r d y us h k) in
      ⊎_elim
      (λ q. absurd q.1)
      (λ q. parted s _ dd q.0 q.1 d d' q.2 q.3 _ _ x x' some q.6 q.4 q.5)
      (reading_way enc k k'' _ _ c0)

module _ (enc : Enc) (rules : List Term) where
  -- Two cuts of one rule over the same units whose choices differ part where they differ.
  pub cuts_part : (j k : Cut) (p q : List Symbol) → j.rule ≡ k.rule → EndsInUnit j.front → EndsInUnit k.front
      → units j.front ≡ units k.front → GoesOn enc rules j p → GoesOn enc rules k q
      → DiffersBefore (choices j.front) (choices k.front)
      → Parts (length (units j.front)) 0 (events (j.front ++ p)) (events (k.front ++ q))
  cuts_part j k p q same ij ik u gj gk h =
      let c = cutting_of enc rules k.rule j.front p ij (subst (λ n. Way enc rules n (j.front ++ p)) same (way_of enc rules j p gj)) in
      let d = cutting_of enc rules k.rule k.front q ik (way_of enc rules k q gk) in
      front_parting enc (automaton rules) (automaton_clear rules) c.at d.at c.left d.left p q c.front d.front u h 0
