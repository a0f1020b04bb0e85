-- Two whole walks over the same units part at a choice; the one with the lesser choice is the first.
use Rattle.lx_posix.specs.Parting.{Parts, events}
use Rattle.std.specs.Prelude.{◌≡◌, ℕ, suc, ◌+◌, ◌-◌, ◌*◌, ◌<◌, List, [], ◌∷◌, ◌++◌, map, length, Some, slice_get}
use Rattle.std.proofs.Common.{sym, ap, ap₂, ◌∙◌, subst, arith, append_assoc, append-nil, ⊎_elim}
use Rattle.lx_base.specs.declared.settings.Enc.{Enc}
use Rattle.lx_regex.specs.Automaton.{State, label, moves, target}
use Rattle.lx_regex.specs.Script.{Symbol, choices, reads, script, units}
use Rattle.lx_regex.specs.Term.{Term}
use Rattle.lx_regex.specs.Tree.{Tree}
use Rattle.lx_regex.specs.Walk.{IsAmong, mark}
use Rattle.lx_regex.specs.Reading.{IsReading}
use Rattle.lx_regex.proofs.Walks.Clear.{AllAreClear, clear_at, picked, alone_clear}
use Rattle.lx_regex.proofs.Walks.PlainWalk.{units_append, units_label, units_mark}
use Rattle.lx_regex.proofs.Walks.Readings.{code_free, code_quiet}
use Rattle.lx_regex.proofs.Walks.Fronts.{DiffersBefore, pick_list, choices_mark, choices_label, choices_code, units_code, units_reads, no_rows}
use Rattle.lx_regex.proofs.Walks.Scripts.{Path, ended, then_move, then_code, path_of, in_none, zero_is}
use Rattle.lx_regex.proofs.Walks.WholeWalk.{alone, alone_stands, alone_zero, walk_of}
use Rattle.lx_posix.proofs.Fronts.FrontsPart.{length_both, move_way, onward, parted, reading_way}

module _ (enc : Enc) (states : List State) (clear : AllAreClear states) (z : slice_get states 0 ≡ Some (moves [])) where
  pub path_parting :
      (n : ℕ) (x x' : List Symbol) {s : ℕ} {l l' : List Symbol} → Path enc states s l → Path enc states s l' → units l ≡ units l'
      → DiffersBefore (choices l) (choices l') → length (units l) < n → (d : ℕ) → Parts n d (events (l ++ x)) (events (l' ++ x'))
  path_parting n x x' (ended h) b u df lt d = absurd df
  path_parting n x x' (then_move {s} ms m h i a) (ended h') u df lt d =
      let k = zero_is states s z h' in absurd (in_none ms (cc) i)
  path_parting n x x' (then_code {s} r y us h k a) (ended h') u df lt d =
      absurd (no_rows enc states s [] r (zero_is states s z h') h k)
  path_parting n x x' (then_move {s} ms m h i a) (then_code r y us h' k b) u df lt d =
      absurd (no_rows enc states s ms r h h' k)
  path_parting n x x' (then_code {s} r y us h k a) (then_move ms m h' i b) u df lt d =
      absurd (no_rows enc states s ms r h' h k)
  path_parting n x x' (then_move {s} {l} ms m h i a) (then_move {l = l'} ms' m' h' i' b) u df lt d =
      let k : ms' ≡ ms = cc in
      let j : IsAmong m' ms = subst (λ n. IsAmong m' n) k i' in
      let c0 : DiffersBefore (pick_list (picked m) ++ choices l) (pick_list (picked m') ++ choices l') =
      subst
      (λ q. DiffersBefore q (pick_list (picked m') ++ choices l')) (choices_mark s _ ∙ choices_label m l)
      (subst (λ q. DiffersBefore (choices (mark s ∷ (label m ++ l))) q) (choices_mark s _ ∙ choices_label m' l') df) in
      let u0 = units_mark s (label m ++ l) ∙ units_label m l in
      let u1 : units l ≡ units l' = sym u0 ∙ u ∙ (units_mark s _ ∙ units_label m' l') in
      let n0 = ap length u0 in
      let quiet : units (mark s ∷ label m) ≡ [] =
      units_mark s (label m) ∙ ap units (sym (append-nil (label m))) ∙ units_label m [] in
      let n1 = ap length quiet in
      let e : n ≡ length (units (mark s ∷ label m)) + n = omega arith in
      ⊎_elim
      (λ r.
      let b' = subst (λ n. Path enc states (target n) l') (sym r.0) b in
      subst
      (λ n'. Parts n d (events ((mark s ∷ (label m ++ l)) ++ x)) (events ((mark s ∷ (label n' ++ l')) ++ x')))
      r.0
      (onward enc states (mark s ∷ label m) l l' x x' n n e
      (λ d'. path_parting n x x' a b' u1 r.1 (omega arith) d') d))
      (λ r. parted enc states s n d r.0 r.1 (label m) (label m') r.2 r.3 l l' x x' (omega arith) r.6 r.4 r.5)
      (move_way ms m m' (clear_at states s (moves ms) clear h) i j _ _ c0)
  path_parting n x x' (then_code {s} {l} r y us h k a) (then_code {l = l'} r' y' us' h' k' b) u df lt d =
      let e : r' ≡ r = cc in
      let k'' : IsReading enc r y' us' = subst (λ n. IsReading enc n y' us') e k' in
      let c0 : DiffersBefore (choices y ++ choices l) (choices y' ++ choices l') =
      subst
      (λ q. DiffersBefore q (choices y' ++ choices l')) (choices_code enc states s y us l)
      (subst
      (λ q. DiffersBefore (choices (mark s ∷ (y ++ (map reads us ++ l)))) q) (choices_code enc states s y' us' l') df) in
      let u0 : us ++ units l ≡ us' ++ units l' =
      sym (units_code enc states s r y us l k) ∙ u ∙ units_code enc states s r y' us' l' k'' in
      let front = mark s ∷ (y ++ map reads us) in
      let quiet : units front ≡ us ++ [] =
      units_mark s _ ∙ units_append y _ ∙ ap₂ (λ a b. a ++ b) (code_quiet enc k) (ap units (sym (append-nil (map reads us))) ∙ units_reads us []) in
      let n0 = ap length (units_code enc states s r y us l k) ∙ length_both us (units l) in
      let n1 = ap length quiet ∙ ap length (append-nil us) in
      let e1 : n ≡ length (units front) + (n - length us) = omega arith in
      ⊎_elim
      (λ q.
      let p = code_free enc k k'' q.0 _ _ u0 in
      let g : Parts n d (events ((front ++ l) ++ x)) (events ((front ++ l') ++ x')) =
      onward enc states front l l' x x' (n - length us) n e1
      (λ d'. path_parting (n - length us) x x' a b p.1 q.1 (omega arith) d') d in
      let s1 : front ++ l ≡ mark s ∷ (y ++ (map reads us ++ l)) = ap (λ n. mark s ∷ n) (append_assoc y (map reads us) l) in
      let s2 : front ++ l' ≡ mark s ∷ (y' ++ (map reads us' ++ l')) =
      ap (λ n. mark s ∷ n) (append_assoc y (map reads us) l' ∙ ap₂ (λ m n. m ++ (map reads n ++ l')) q.0 p.0) in
      subst
      (λ m. Parts n d (events (m ++ x)) (events ((mark s ∷ (y' ++ (map reads us' ++ l'))) ++ x'))) s1
      (subst (λ m. Parts n d (events ((front ++ l) ++ x)) (events (m ++ x'))) s2 g))
      (λ q. parted enc states s n d q.0 q.1 y y' q.2 q.3 _ _ x x' (omega arith) q.6 q.4 q.5)
      (reading_way enc k k'' _ _ c0)

-- so do the scripts of two trees over the same units
pub trees_part :
    (enc : Enc) (e : Term) (p : ℕ) → 0 < p → (t t' : Tree e) → units (script enc p t) ≡ units (script enc p t')
    → DiffersBefore (choices (script enc p t)) (choices (script enc p t'))
    → Parts (suc (length (units (script enc p t)))) 0 (events (script enc p t)) (events (script enc p t'))
trees_part enc e p lt t t' same df =
    let states = alone e p in
    let a = walk_of enc states e p (alone_stands e p) t in
    let b = walk_of enc states e p (alone_stands e p) t' in
    let v = subst (λ l. Path enc states (2 * p) l) a.1 (path_of enc states a.0) in
    let w = subst (λ l. Path enc states (2 * p) l) b.1 (path_of enc states b.0) in
    let n = suc (length (units (script enc p t))) in
    let r = path_parting enc states (alone_clear e p) (alone_zero e p lt) n [] [] v w same df (omega arith) 0 in
    subst
    (λ k. Parts n 0 (events k) (events (script enc p t'))) (append-nil (script enc p t))
    (subst (λ k. Parts n 0 (events (script enc p t ++ [])) (events k)) (append-nil (script enc p t')) r)
