-- What goes on from one front goes on from each that stands at the same place.
use Rattle.std.specs.Prelude.{◌≡◌, ℕ, ◌+◌, ◌*◌, ◌<◌, ◌⊎◌, List, [], ◌∷◌, ◌++◌, map, Some, None, slice_get, refl}
use Rattle.std.proofs.Common.{sym, ap, ap₂, ◌∙◌, subst, arith, append_assoc, append-nil, inl, inr, ⊎_elim}
use Rattle.lx_base.specs.declared.settings.Enc.{Enc}
use Rattle.lx_base.specs.Spelling.{spell}
use Rattle.lx_regex.specs.Automaton.{State, label, leaf, moves, unit_leaf, table, final}
use Rattle.lx_regex.specs.Plain.{IsPlain, mark_of}
use Rattle.lx_regex.specs.Script.{Symbol, begins, ends, leaf_choice, picks, reads, script, sets, units, unsets}
use Rattle.lx_regex.specs.Term.{Term}
use Rattle.lx_regex.specs.Tree.{Tree}
use Rattle.lx_regex.specs.Walk.{Walk, at_point, at_unit, mark, moved, stay, symbols}
use Rattle.lx_regex.proofs.Walks.Fronts.{Front, by_code, by_move, within}
use Rattle.lx_regex.proofs.Walks.PlainWalk.{IsPlainList, IsUnseen, mark_tells, plain_list, units_label, units_mark}
use Rattle.lx_regex.proofs.Walks.Readings.{code_quiet}
use Rattle.lx_regex.specs.Reading.{IsReading, of_point, of_unit}
use Rattle.lx_regex.proofs.PartTables.Rows.{Stands}
use Rattle.lx_regex.proofs.Walks.WholeWalk.{walk_of, tree_of}

-- a unit stands behind what has none
pub quiet_split : (a : List Symbol) → units a ≡ [] → (k before : List Symbol) (u : ℕ) (rest : List Symbol)
    → a ++ k ≡ before ++ reads u ∷ rest → (l : List Symbol) × (before ≡ a ++ l) × (k ≡ l ++ reads u ∷ rest)
quiet_split [] q k before u rest e = (before, refl, e)
quiet_split (reads x ∷ a) q k before u rest e = cc
quiet_split (begins x ∷ a) q k [] u rest e = cc
quiet_split (begins x ∷ a) q k (b ∷ before) u rest e =
    let h : begins x ≡ b = cc in let r = quiet_split a q k before u rest (cc) in (r.0, ap₂ (λ m n. m ∷ n) (sym h) r.1, r.2)
quiet_split (ends x ∷ a) q k [] u rest e = cc
quiet_split (ends x ∷ a) q k (b ∷ before) u rest e =
    let h : ends x ≡ b = cc in let r = quiet_split a q k before u rest (cc) in (r.0, ap₂ (λ m n. m ∷ n) (sym h) r.1, r.2)
quiet_split (sets x ∷ a) q k [] u rest e = cc
quiet_split (sets x ∷ a) q k (b ∷ before) u rest e =
    let h : sets x ≡ b = cc in let r = quiet_split a q k before u rest (cc) in (r.0, ap₂ (λ m n. m ∷ n) (sym h) r.1, r.2)
quiet_split (unsets x ∷ a) q k [] u rest e = cc
quiet_split (unsets x ∷ a) q k (b ∷ before) u rest e =
    let h : unsets x ≡ b = cc in let r = quiet_split a q k before u rest (cc) in (r.0, ap₂ (λ m n. m ∷ n) (sym h) r.1, r.2)
quiet_split (picks x ∷ a) q k [] u rest e = cc
quiet_split (picks x ∷ a) q k (b ∷ before) u rest e =
    let h : picks x ≡ b = cc in let r = quiet_split a q k before u rest (cc) in (r.0, ap₂ (λ m n. m ∷ n) (sym h) r.1, r.2)

-- a unit stands behind some units, or is one of them
abbrev Behind : List ℕ → List Symbol → List Symbol → ℕ → List Symbol → Type 0
Behind us k l u rest = (l' : List Symbol) × (l ≡ map reads us ++ l') × (k ≡ l' ++ reads u ∷ rest)

abbrev Among : List ℕ → List Symbol → List Symbol → ℕ → List Symbol → Type 0
Among us k l u rest = (fore back : List ℕ) × (us ≡ fore ++ u ∷ back) × (l ≡ map reads fore) × (rest ≡ map reads back ++ k)

reads_split : (us : List ℕ) (k l : List Symbol) (u : ℕ) (rest : List Symbol) → map reads us ++ k ≡ l ++ reads u ∷ rest
    → Behind us k l u rest ⊎ Among us k l u rest
reads_split [] k l u rest e = inl (l, refl, e)
reads_split (x ∷ us) k [] u rest e =
    let h : x ≡ u = cc in
    inr ([], us, ap (λ n. n ∷ us) h, refl, cc)
reads_split (x ∷ us) k (y ∷ l) u rest e =
    let h : reads x ≡ y = cc in
    ⊎_elim
    (λ r. inl (r.0, ap₂ (λ m n. m ∷ n) (sym h) r.1, r.2))
    (λ r. inr (x ∷ r.0, r.1, ap (λ n. x ∷ n) r.2, ap₂ (λ m n. m ∷ n) (sym h) r.3, r.4))
    (reads_split us k l u rest (cc))

-- some units and then a mark are read in one way
pub reads_match : (v w : List ℕ) (x y : Symbol) (m n : ℕ) (k l : List Symbol) → mark_of x ≡ Some m → mark_of y ≡ Some n
    → map reads v ++ x ∷ k ≡ map reads w ++ y ∷ l → (v ≡ w) × (x ≡ y) × (k ≡ l)
reads_match [] [] x y m n k l ex ey e = (refl, cc, cc)
reads_match [] (b ∷ w) x y m n k l ex ey e =
    let h : x ≡ reads b = cc in let z : Some m ≡ None = sym ex ∙ ap mark_of h in absurd (cc)
reads_match (a ∷ v) [] x y m n k l ex ey e =
    let h : y ≡ reads a = cc in let z : Some n ≡ None = sym ey ∙ ap mark_of h in absurd (cc)
reads_match (a ∷ v) (b ∷ w) x y m n k l ex ey e =
    let h : a ≡ b = cc in
    let r = reads_match v w x y m n k l ex ey (cc) in
    (ap₂ (λ p q. p ∷ q) h r.0, r.1, r.2)

module _ (enc : Enc) (states : List State) (end : ℕ) where
  -- a walk from s taken apart behind a unit
  pub record Cutting (s : ℕ) (l rest : List Symbol) : Type 0 where
    pub at : ℕ
    pub left : List ℕ
    pub front : Front enc states at left s l
    pub walk : Walk states end (at + 1)
    pub goes : rest ≡ map reads left ++ symbols enc walk []

  cutting_as : (s : ℕ) (l l' rest : List Symbol) → l ≡ l' → Cutting s l rest → Cutting s l' rest
  cutting_as s l l' rest e c =
      record {
        at = c.at;
        left = c.left;
        front = subst (λ k. Front enc states c.at c.left s k) e c.front;
        walk = c.walk;
        goes = c.goes;
      }

  within_at : (s : ℕ) (r : State) (d : List Symbol) (fore : List ℕ) (u : ℕ) (back : List ℕ) → slice_get states s ≡ Some r
      → IsReading enc r d (fore ++ u ∷ back) → Front enc states s back s (mark s ∷ (d ++ (map reads fore ++ reads u ∷ [])))
  within_at s r d [] u back h c = within refl r d u [] h c
  within_at s r d (x ∷ fore) u back h c =
      let e : fore ++ u ∷ back ≡ (fore ++ u ∷ []) ++ back = sym (append_assoc fore (u ∷ []) back) in
      subst
      (λ k. Front enc states s back s (mark s ∷ (d ++ reads x ∷ k))) (map_one fore)
      (within refl r d x (fore ++ u ∷ []) h (subst (λ k. IsReading enc r d (x ∷ k)) e c))
    where
      map_one : (us : List ℕ) → map reads (us ++ u ∷ []) ≡ map reads us ++ reads u ∷ []
      map_one [] = refl
      map_one (y ∷ us) = ap (λ k. reads y ∷ k) (map_one us)

  cut_code : (s : ℕ) (r : State) (d : List Symbol) (us : List ℕ) → slice_get states s ≡ Some r → IsReading enc r d us
      → (w : Walk states end (s + 1)) → (before : List Symbol) (u : ℕ) (rest : List Symbol)
      → ((l : List Symbol) → symbols enc w [] ≡ l ++ reads u ∷ rest → Cutting (s + 1) (l ++ reads u ∷ []) rest)
      → mark s ∷ (d ++ (map reads us ++ symbols enc w [])) ≡ before ++ reads u ∷ rest
      → Cutting s (before ++ reads u ∷ []) rest
  cut_code s r d us h c w before u rest ih e =
      let quiet : units (mark s ∷ d) ≡ [] = units_mark s d ∙ code_quiet enc c in
      let a = quiet_split (mark s ∷ d) quiet (map reads us ++ symbols enc w []) before u rest e in
      ⊎_elim (λ b. behind a.0 a.1 b) (λ b. among a.0 a.1 b) (reads_split us (symbols enc w []) a.0 u rest a.2)
    where
      behind : (l : List Symbol) → before ≡ (mark s ∷ d) ++ l → Behind us (symbols enc w []) l u rest
          → Cutting s (before ++ reads u ∷ []) rest
      behind l el b =
          let i = ih b.0 b.2 in
          let same : mark s ∷ (d ++ (map reads us ++ (b.0 ++ reads u ∷ []))) ≡ before ++ reads u ∷ [] =
          sym (ap (λ k. k ++ reads u ∷ []) (el ∙ ap (λ k. mark s ∷ (d ++ k)) b.1) ∙ simp append_assoc) in
          record {
            at = i.at;
            left = i.left;
            front = subst (λ k. Front enc states i.at i.left s k) same (by_code r d us h c i.front);
            walk = i.walk;
            goes = i.goes;
          }

      among : (l : List Symbol) → before ≡ (mark s ∷ d) ++ l → Among us (symbols enc w []) l u rest
          → Cutting s (before ++ reads u ∷ []) rest
      among l el b =
          let same : mark s ∷ (d ++ (map reads b.0 ++ reads u ∷ [])) ≡ before ++ reads u ∷ [] =
          sym (ap (λ k. k ++ reads u ∷ []) (el ∙ ap (λ k. mark s ∷ (d ++ k)) b.3) ∙ simp append_assoc) in
          record {
            at = s;
            left = b.1;
            front =
                subst
                (λ k. Front enc states s b.1 s k) same (within_at s r d b.0 u b.1 h (subst (λ k. IsReading enc r d k) b.2 c));
            walk = w;
            goes = b.4;
          }

  pub cut_walk : {s : ℕ} → (w : Walk states end s) → (before : List Symbol) (u : ℕ) (rest : List Symbol)
      → symbols enc w [] ≡ before ++ reads u ∷ rest → Cutting s (before ++ reads u ∷ []) rest
  cut_walk stay [] u rest e = cc
  cut_walk stay (x ∷ before) u rest e = cc
  cut_walk (moved {state = s} ms m h i w) before u rest e =
      let quiet : units (mark s ∷ label m) ≡ [] =
      units_mark s (label m) ∙ ap units (sym (append-nil (label m))) ∙ units_label m [] in
      let a = quiet_split (mark s ∷ label m) quiet (symbols enc w []) before u rest e in
      let c = cut_walk w a.0 u rest a.2 in
      let same : mark s ∷ (label m ++ (a.0 ++ reads u ∷ [])) ≡ before ++ reads u ∷ [] =
      sym (ap (λ k. k ++ reads u ∷ []) a.1 ∙ simp append_assoc) in
      record {
        at = c.at;
        left = c.left;
        front = subst (λ k. Front enc states c.at c.left s k) same (by_move ms m h i c.front);
        walk = c.walk;
        goes = c.goes;
      }
  cut_walk (at_point {state = s} ranges c h i w) before u rest e =
      cut_code s
      (leaf ranges) (leaf_choice enc ranges c) (spell enc c) h (of_point c i) w before u rest
      (λ l k. cut_walk w l u rest k) e
  cut_walk (at_unit {state = s} x h w) before u rest e =
      cut_code s unit_leaf [] (x ∷ []) h (of_unit x) w before u rest (λ l k. cut_walk w l u rest k) e

  -- and put together again
  pub code_walk : {s : ℕ} {r : State} {d : List Symbol} {us : List ℕ} → IsReading enc r d us → slice_get states s ≡ Some r
      → (w : Walk states end (s + 1))
      → (w' : Walk states end s) × (symbols enc w' [] ≡ mark s ∷ (d ++ (map reads us ++ symbols enc w [])))
  code_walk (of_point {ranges} c i) h w = (at_point ranges c h i w, refl)
  code_walk (of_unit u) h w = (at_unit u h w, refl)

  pub resume : {f : ℕ} {v : List ℕ} {s : ℕ} {l : List Symbol} → Front enc states f v s l → (w : Walk states end (f + 1))
      → (w' : Walk states end s) × (symbols enc w' [] ≡ l ++ (map reads v ++ symbols enc w []))
  resume (by_move {s} {l} ms m h i a) w =
      let r = resume a w in
      (moved ms m h i r.0, ap (λ k. mark s ∷ (label m ++ k)) r.1 ∙ sym (ap (λ k. mark s ∷ k) (append_assoc (label m) l _)))
  resume (by_code {s} {l} r d us h c a) w =
      let r = resume a w in
      let q = code_walk c h r.0 in
      (q.0, q.1 ∙ ap (λ k. mark s ∷ (d ++ (map reads us ++ k))) r.1 ∙ sym (simp append_assoc))
  resume {v} (within {s} at r d u us h c) w =
      let w2 : (w2 : Walk states end (s + 1)) × (symbols enc w2 [] ≡ symbols enc w []) =
      subst (λ n. (w2 : Walk states end (n + 1)) × (symbols enc w2 [] ≡ symbols enc w [])) (sym at) (w, refl) in
      let q = code_walk c h w2.0 in (
        q.0,
        q.1 ∙ ap (λ k. mark s ∷ (d ++ (map reads (u ∷ (us ++ v)) ++ k))) w2.1
            ∙ ap (λ k. mark s ∷ (d ++ reads u ∷ (k ++ symbols enc w []))) (map_append us v) ∙ sym (simp append_assoc),
      )
    where
      map_append : (a b : List ℕ) → map reads (a ++ b) ≡ map reads a ++ map reads b
      map_append [] b = refl
      map_append (x ∷ a) b = ap (λ k. reads x ∷ k) (map_append a b)

  pub first_mark : {s : ℕ} → (w : Walk states end s) → (s ≡ end → ⊥) → (k : List Symbol) × (symbols enc w [] ≡ mark s ∷ k)
  first_mark stay h = absurd (h refl)
  first_mark (moved ms m h i w) ne = (_, refl)
  first_mark (at_point ranges c h i w) ne = (_, refl)
  first_mark (at_unit u h w) ne = (_, refl)

  -- after v the part p ends: so the front stands in part p, and v finishes it
  cut_ends : (s p : ℕ) (v : List ℕ) (l r : List Symbol) → end ≡ 0 → (c : Cutting s l (map reads v ++ ends p ∷ r))
      → (v ≡ c.left) × (2 * p ≡ c.at) × (symbols enc c.walk [] ≡ ends p ∷ r)
  cut_ends s p v l r z c =
      let k = first_mark c.walk (λ e. absurd (omega arith)) in
      let q =
      reads_match v c.left
      (ends p) (mark (c.at + 1)) (2 * p + 1) (c.at + 1) r k.0 refl (mark_tells (c.at + 1))
      (c.goes ∙ ap (λ n. map reads c.left ++ n) k.1) in
      let e : Some (2 * p + 1) ≡ Some (c.at + 1) = ap mark_of q.1 ∙ mark_tells (c.at + 1) in
      let n : 2 * p + 1 ≡ c.at + 1 = cc in
      (q.0, omega arith, k.1 ∙ ap₂ (λ x y. x ∷ y) (sym q.1) (sym q.2))

  pub swap_walks :
      (s p : ℕ) (v : List ℕ) (b b' : List Symbol) (u u' : ℕ) (r r' : List Symbol) → end ≡ 0 → (w w' : Walk states end s)
      → symbols enc w [] ≡ b ++ reads u ∷ (map reads v ++ ends p ∷ r)
      → symbols enc w' [] ≡ b' ++ reads u' ∷ (map reads v ++ ends p ∷ r')
      → (x : Walk states end s) × (symbols enc x [] ≡ b' ++ reads u' ∷ (map reads v ++ ends p ∷ r))
  swap_walks s p v b b' u u' r r' z w w' e e' =
      let c = cut_walk w b u _ e in
      let c' = cut_walk w' b' u' _ e' in
      let k = cut_ends s p v _ r z c in
      let k' = cut_ends s p v _ r' z c' in
      let same : c.at ≡ c'.at = sym k.1 ∙ k'.1 in
      let on : (y : Walk states end (c'.at + 1)) × (symbols enc y [] ≡ symbols enc c.walk []) =
      subst (λ n. (y : Walk states end (n + 1)) × (symbols enc y [] ≡ symbols enc c.walk [])) same (c.walk, refl) in
      let x = resume c'.front on.0 in (
        x.0,
        x.1 ∙ ap₂ (λ m n. (b' ++ reads u' ∷ []) ++ (map reads m ++ n)) (sym k'.0) (on.1 ∙ k.2)
            ∙ append_assoc b' (reads u' ∷ []) _,
      )

-- Plain lists, the other way round.
unseen_from : (x : Symbol) (m : ℕ) → mark_of x ≡ Some m → (l : List Symbol)
    → ((between after : List Symbol) → units between ≡ [] → l ≡ between ++ x ∷ after → ⊥) → IsUnseen x l
unseen_from x m e [] h = tt
unseen_from x m e (reads u ∷ l) h = tt
unseen_from x m e (begins p ∷ l) h = (
  λ k.
      h [] l refl
      (ap (λ n. n ∷ l) (sym k)),
  unseen_from x m e l (λ b a q k. h (begins p ∷ b) a q (ap (λ n. begins p ∷ n) k)),
)
unseen_from x m e (ends p ∷ l) h = (
  λ k.
      h [] l refl (ap (λ n. n ∷ l) (sym k)),
  unseen_from x m e l (λ b a q k. h (ends p ∷ b) a q (ap (λ n. ends p ∷ n) k)),
)
unseen_from x m e (sets t ∷ l) h = unseen_from x m e l (λ b a q k. h (sets t ∷ b) a q (ap (λ n. sets t ∷ n) k))
unseen_from x m e (unsets t ∷ l) h = unseen_from x m e l (λ b a q k. h (unsets t ∷ b) a q (ap (λ n. unsets t ∷ n) k))
unseen_from x m e (picks t ∷ l) h = unseen_from x m e l (λ b a q k. h (picks t ∷ b) a q (ap (λ n. picks t ∷ n) k))

pub plain_rest : (y : Symbol) (l : List Symbol) → IsPlain (y ∷ l) → IsPlain l
plain_rest y l h before between after x m e n k = h (y ∷ before) between after x m e n (ap (λ z. y ∷ z) k)

pub plain_from : (l : List Symbol) → IsPlain l → IsPlainList l
plain_from [] h = tt
plain_from (begins p ∷ l) h = (
  unseen_from (begins p) (2 * p) refl l (λ b a q k. h [] b a (begins p) (2 * p) refl q (ap (λ z. begins p ∷ z) k)),
  plain_from l (plain_rest (begins p) l h),
)
plain_from (ends p ∷ l) h = (
  unseen_from (ends p) (2 * p + 1) refl l (λ b a q k. h [] b a (ends p) (2 * p + 1) refl q (ap (λ z. ends p ∷ z) k)),
  plain_from l (plain_rest (ends p) l h),
)
plain_from (reads u ∷ l) h = plain_from l (plain_rest (reads u) l h)
plain_from (sets u ∷ l) h = plain_from l (plain_rest (sets u) l h)
plain_from (unsets u ∷ l) h = plain_from l (plain_rest (unsets u) l h)
plain_from (picks u ∷ l) h = plain_from l (plain_rest (picks u) l h)

pub unseen_seam : (x : Symbol) (b : List Symbol) (u : ℕ) (r r' : List Symbol) → IsUnseen x (b ++ reads u ∷ r)
    → IsUnseen x (b ++ reads u ∷ r')
unseen_seam x [] u r r' h = tt
unseen_seam x (begins p ∷ b) u r r' h = (h.0, unseen_seam x b u r r' h.1)
unseen_seam x (ends p ∷ b) u r r' h = (h.0, unseen_seam x b u r r' h.1)
unseen_seam x (reads p ∷ b) u r r' h = tt
unseen_seam x (sets p ∷ b) u r r' h = unseen_seam x b u r r' h
unseen_seam x (unsets p ∷ b) u r r' h = unseen_seam x b u r r' h
unseen_seam x (picks p ∷ b) u r r' h = unseen_seam x b u r r' h

pub plain_back : (b : List Symbol) (u : ℕ) (r : List Symbol) → IsPlainList (b ++ reads u ∷ r) → IsPlainList r
plain_back [] u r h = h
plain_back (begins p ∷ b) u r h = plain_back b u r h.1
plain_back (ends p ∷ b) u r h = plain_back b u r h.1
plain_back (reads p ∷ b) u r h = plain_back b u r h
plain_back (sets p ∷ b) u r h = plain_back b u r h
plain_back (unsets p ∷ b) u r h = plain_back b u r h
plain_back (picks p ∷ b) u r h = plain_back b u r h

pub plain_join : (b : List Symbol) (u : ℕ) (r r' : List Symbol) → IsPlainList (b ++ reads u ∷ r) → IsPlainList r'
    → IsPlainList (b ++ reads u ∷ r')
plain_join [] u r r' h k = k
plain_join (begins p ∷ b) u r r' h k = (unseen_seam (begins p) b u r r' h.0, plain_join b u r r' h.1 k)
plain_join (ends p ∷ b) u r r' h k = (unseen_seam (ends p) b u r r' h.0, plain_join b u r r' h.1 k)
plain_join (reads p ∷ b) u r r' h k = plain_join b u r r' h k
plain_join (sets p ∷ b) u r r' h k = plain_join b u r r' h k
plain_join (unsets p ∷ b) u r r' h k = plain_join b u r r' h k
plain_join (picks p ∷ b) u r r' h k = plain_join b u r r' h k

-- what is plain up to a unit, and what is plain from it
pub plain_swap :
    (b b' : List Symbol) (u u' : ℕ) (r r' : List Symbol) → IsPlain (b ++ reads u ∷ r) → IsPlain (b' ++ reads u' ∷ r')
    → IsPlain (b' ++ reads u' ∷ r)
plain_swap b b' u u' r r' h h' = plain_list _ (plain_join b' u' r' r (plain_from _ h') (plain_back b u r (plain_from _ h)))

module _ (enc : Enc) (states : List State) (e : Term) (p : ℕ) (h : Stands states (2 * p) (table e p final)) where
  -- The exchange: of two trees whose scripts, each up to a unit, stand in one part that the units v finish, the second goes
  -- on as the first does.
  pub exchange : 0 < p → slice_get states 0 ≡ Some (moves [])
      → (t t' : Tree e) (b b' : List Symbol) (u u' q : ℕ) (v : List ℕ) (r r' : List Symbol)
      → script enc p t ≡ b ++ reads u ∷ (map reads v ++ ends q ∷ r)
      → script enc p t' ≡ b' ++ reads u' ∷ (map reads v ++ ends q ∷ r')
      → (x : Tree e) × (script enc p x ≡ b' ++ reads u' ∷ (map reads v ++ ends q ∷ r))
  exchange lt z t t' b b' u u' q v r r' k k' =
      let w = walk_of enc states e p h t in
      let w' = walk_of enc states e p h t' in
      let x = swap_walks enc states 0 (2 * p) q v b b' u u' r r' refl w.0 w'.0 (w.1 ∙ k) (w'.1 ∙ k') in
      let y = tree_of enc states e p h lt z x.0 in
      (y.0, sym y.1 ∙ x.1)
