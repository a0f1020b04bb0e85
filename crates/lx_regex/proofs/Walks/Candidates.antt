-- The plain paths over a word are finitely many.
use Rattle.std.specs.Prelude.{◌≡◌, ℕ, zero, suc, ◌+◌, ◌-◌, ◌*◌, ◌/◌, ◌%◌, ◌<◌, ◌≤◌, ◌⊎◌, List, [], ◌∷◌, ◌++◌, map, length, Option, Some, None, Bool, true, false, nat_eq, if◌then◌else◌, slice_get, refl}
use Rattle.std.proofs.Common.{sym, ap, ap₂, ◌∙◌, subst, arith, append_assoc, length-append, inl, inr, ⊎_elim}
use Rattle.std.proofs.lemmas.Bool.{cases_order, cases_eq}
use Rattle.std.proofs.lemmas.Option.{slice_get_within}
use Rattle.lx_base.specs.declared.settings.Enc.{Enc}
use Rattle.lx_base.specs.Spelling.{spell}
use Rattle.lx_regex.specs.Automaton.{Move, State, label, leaf, move, moves, unit_leaf, target}
use Rattle.lx_regex.specs.Plain.{IsPlain, mark_of}
use Rattle.lx_regex.specs.Script.{Symbol, begins, ends, leaf_choice, picks, reads, script, sets, units, unsets}
use Rattle.lx_regex.specs.Term.{IsInRanges, Term}
use Rattle.lx_regex.specs.Tree.{Tree}
use Rattle.lx_regex.specs.Walk.{IsAmong, first, mark, next}
use Rattle.lx_regex.proofs.Walks.Exchange.{plain_from}
use Rattle.lx_regex.proofs.Walks.Fronts.{no_rows, units_code}
use Rattle.lx_regex.proofs.Walks.PlainWalk.{IsPlainList, IsUnseen, mark_tells, plain_choice, plain_label, plain_list, plain_mark, plain_reads, spell_some, units_label, units_mark, unseen_choice, unseen_label, unseen_mark, unseen_point}
use Rattle.lx_regex.proofs.Walks.Readings.{code_some, front_same_length}
use Rattle.lx_regex.specs.Reading.{IsReading, of_point, of_unit}
use Rattle.lx_regex.proofs.Walks.Scripts.{Path, ended, in_none, path_of, then_code, then_move, walk_from, zero_is}
use Rattle.lx_regex.proofs.Walks.WholeWalk.{alone, alone_stands, alone_zero, walk_of, tree_of}

-- a value is in a list
abbrev pub Contains : {A : Type 0} → A → List A → Type 0
Contains x [] = ⊥
Contains x (y ∷ ys) = (x ≡ y) ⊎ Contains x ys

-- finitely many lists: all for which P holds, and no others
pub data AllOf (P : List Symbol → Type 0) : Type 0 where
  listed : (ls : List (List Symbol)) → ((l : List Symbol) → Contains l ls → P l) → ((l : List Symbol) → P l → Contains l ls)
      → AllOf P

none_of : (P : List Symbol → Type 0) → ((l : List Symbol) → P l → ⊥) → AllOf P
none_of P none = listed [] (λ l h. absurd h) none

contains_cases : (l : List Symbol) (xs ys : List (List Symbol)) → Contains l (xs ++ ys) → Contains l xs ⊎ Contains l ys
contains_cases l [] ys h = inr h
contains_cases l (x ∷ xs) ys h =
    ⊎_elim (λ e. inl (inl e)) (λ k. ⊎_elim (λ a. inl (inr a)) (λ a. inr a) (contains_cases l xs ys k)) h

contains_front : (l : List Symbol) (xs ys : List (List Symbol)) → Contains l xs → Contains l (xs ++ ys)
contains_front l [] ys h = absurd h
contains_front l (x ∷ xs) ys h = ⊎_elim (λ e. inl e) (λ k. inr (contains_front l xs ys k)) h

contains_back : (l : List Symbol) (xs ys : List (List Symbol)) → Contains l ys → Contains l (xs ++ ys)
contains_back l [] ys h = h
contains_back l (x ∷ xs) ys h = inr (contains_back l xs ys h)

contains_map :
    (f : List Symbol → List Symbol) (l : List Symbol) (xs : List (List Symbol)) → Contains l xs → Contains (f l) (map f xs)
contains_map f l [] h = absurd h
contains_map f l (x ∷ xs) h = ⊎_elim (λ e. inl (ap f e)) (λ k. inr (contains_map f l xs k)) h

contains_unmap :
    (f : List Symbol → List Symbol) (l : List Symbol) (xs : List (List Symbol)) → Contains l (map f xs)
    → (k : List Symbol) × Contains k xs × (l ≡ f k)
contains_unmap f l [] h = absurd h
contains_unmap f l (x ∷ xs) h =
    ⊎_elim (λ e. (x, inl refl, e)) (λ k. let r = contains_unmap f l xs k in (r.0, inr r.1, r.2)) h

all_or : (P Q R : List Symbol → Type 0) → AllOf P → AllOf Q → ((l : List Symbol) → R l → P l ⊎ Q l)
    → ((l : List Symbol) → P l → R l) → ((l : List Symbol) → Q l → R l) → AllOf R
all_or P Q R (listed xs is p) (listed ys is' q) from pr qr =
    listed (xs ++ ys)
    (λ l h. ⊎_elim (λ k. pr l (is l k)) (λ k. qr l (is' l k)) (contains_cases l xs ys h))
    (λ l r. ⊎_elim (λ h. contains_front l xs ys (p l h)) (λ h. contains_back l xs ys (q l h)) (from l r))

all_as :
    (P R : List Symbol → Type 0) → AllOf P → ((l : List Symbol) → R l → P l) → ((l : List Symbol) → P l → R l) → AllOf R
all_as P R (listed xs is p) from pr = listed xs (λ l h. pr l (is l h)) (λ l r. p l (from l r))

-- behind a front
all_behind : (P : List Symbol → Type 0) (f : List Symbol → List Symbol) → AllOf P
    → AllOf (λ l'. (l : List Symbol) × P l × (l' ≡ f l))
all_behind P f (listed xs is p) =
    listed (map f xs)
    (λ l h. let r = contains_unmap f l xs h in (r.0, is r.0 r.1, r.2))
    (λ l' r. subst (λ k. Contains k (map f xs)) (sym r.2) (contains_map f r.0 xs (p r.0 r.1)))

-- the states not yet seen
contains_or_not : (s : ℕ) (xs : List ℕ) → Contains s xs ⊎ (Contains s xs → ⊥)
contains_or_not s [] = inr (λ h. h)
contains_or_not s (x ∷ xs) =
    ⊎_elim
    (λ e. inl (inl e)) (λ ne. ⊎_elim (λ h. inl (inr h)) (λ n. inr (λ h. ⊎_elim ne n h)) (contains_or_not s xs)) (cases_eq s x)

take_out : (s : ℕ) (xs : List ℕ) → Contains s xs
    → (ys : List ℕ) × (length xs ≡ suc (length ys)) × ((x : ℕ) → Contains x xs → (x ≡ s) ⊎ Contains x ys)
take_out s [] h = absurd h
take_out s (x ∷ xs) h =
    ⊎_elim
    (λ e. (xs, refl, λ y k. ⊎_elim (λ a. inl (a ∙ sym e)) (λ a. inr a) k))
    (λ i.
    let r = take_out s xs i in
    (x ∷ r.0, ap suc r.1, λ y k. ⊎_elim (λ a. inr (inl a)) (λ a. ⊎_elim (λ b. inl b) (λ b. inr (inr b)) (r.2 y a)) k))
    h

abbrev below_list : ℕ → List ℕ
below_list zero = []
below_list (suc n) = n ∷ below_list n

below_contains : (n s : ℕ) → s < n → Contains s (below_list n)
below_contains zero s lt = absurd (omega arith)
below_contains (suc n) s lt =
    ⊎_elim (λ e. inl e) (λ r. ⊎_elim (λ a. inr (below_contains n s a)) (λ a. absurd (omega arith)) r) (cases_order s n)

-- what unseen and plain say behind a step
pub unseen_sets_back : (x : Symbol) (ts : List ℕ) (l : List Symbol) → IsUnseen x (map sets ts ++ l) → IsUnseen x l
unseen_sets_back x [] l h = h
unseen_sets_back x (t ∷ ts) l h = unseen_sets_back x ts l h

pub unseen_unsets_back : (x : Symbol) (ts : List ℕ) (l : List Symbol) → IsUnseen x (map unsets ts ++ l) → IsUnseen x l
unseen_unsets_back x [] l h = h
unseen_unsets_back x (t ∷ ts) l h = unseen_unsets_back x ts l h

pub unseen_label_back : (x : Symbol) (m : Move) (l : List Symbol) → IsUnseen x (label m ++ l) → IsUnseen x l
unseen_label_back x (move None set unset to) l h =
    unseen_unsets_back x unset l
    (unseen_sets_back x set _ (subst (IsUnseen x) (append_assoc (map sets set) (map unsets unset) l) h))
unseen_label_back x (move (Some d) set unset to) l h =
    unseen_unsets_back x unset l
    (unseen_sets_back x set _ (subst (IsUnseen x) (append_assoc (map sets set) (map unsets unset) l) h))

pub plain_tail : (a b : List Symbol) → IsPlainList (a ++ b) → IsPlainList b
plain_tail [] b h = h
plain_tail (begins p ∷ a) b h = plain_tail a b h.1
plain_tail (ends p ∷ a) b h = plain_tail a b h.1
plain_tail (reads u ∷ a) b h = plain_tail a b h
plain_tail (sets u ∷ a) b h = plain_tail a b h
plain_tail (unsets u ∷ a) b h = plain_tail a b h
plain_tail (picks u ∷ a) b h = plain_tail a b h

pub unseen_mark_back : (x : Symbol) (s : ℕ) (l : List Symbol) → IsUnseen x (mark s ∷ l) → (x ≡ mark s → ⊥) × IsUnseen x l
unseen_mark_back x s l h = at (nat_eq (s % 2) 0) h
  where
    at : (b : Bool) → IsUnseen x ((if b then begins (s / 2) else ends (s / 2)) ∷ l)
        → (x ≡ (if b then begins (s / 2) else ends (s / 2)) → ⊥) × IsUnseen x l
    at true k = k
    at false k = k

pub plain_mark_back : (s : ℕ) (l : List Symbol) → IsPlainList (mark s ∷ l) → IsUnseen (mark s) l × IsPlainList l
plain_mark_back s l h = at (nat_eq (s % 2) 0) h
  where
    at : (b : Bool) → IsPlainList ((if b then begins (s / 2) else ends (s / 2)) ∷ l)
        → IsUnseen (if b then begins (s / 2) else ends (s / 2)) l × IsPlainList l
    at true k = k
    at false k = k

pub mark_same : (s s' : ℕ) → mark s ≡ mark s' → s ≡ s'
mark_same s s' e =
    let q = mark_tells s in
    let q' = mark_tells s' in
    let k : Some s ≡ Some s' = sym q ∙ ap mark_of e ∙ q' in cc

-- whether a list begins with another
dec_front : (cs us : List ℕ) → ((rest : List ℕ) × (us ≡ cs ++ rest)) ⊎ ((rest : List ℕ) → us ≡ cs ++ rest → ⊥)
dec_front [] us = inl (us, refl)
dec_front (c ∷ cs) [] = inr (λ rest e. cc)
dec_front (c ∷ cs) (u ∷ us) =
    ⊎_elim
    (λ e. ⊎_elim (λ r. inl (r.0, ap₂ (λ a b. a ∷ b) e r.1)) (λ n. inr (λ rest k. n rest (cc))) (dec_front cs us))
    (λ ne. inr (λ rest k. ne (cc)))
    (cases_eq u c)

module _ (enc : Enc) (states : List State) (z : slice_get states 0 ≡ Some (moves [])) where
  -- a plain path over these units that passes none of the states seen before its first unit
  record Candidate (s : ℕ) (us seen : List ℕ) (l : List Symbol) : Type 0 where
    path : Path enc states s l
    over : units l ≡ us
    plain : IsPlainList l
    avoids : (x : ℕ) → Contains x seen → IsUnseen (mark x) l

  -- behind the symbols of a spelling
  abbrev Via : (s : ℕ) → List ℕ → (d : List Symbol) (cs : List ℕ) → List Symbol → Type 0
  Via s us d cs l' =
      (rest : List ℕ) × (l : List Symbol) × (us ≡ cs ++ rest) × Candidate (s + 1) rest [] l
      × (l' ≡ mark s ∷ (d ++ (map reads cs ++ l)))

  all_via : (s : ℕ) (us : List ℕ) (d : List Symbol) (cs : List ℕ)
      → ((rest : List ℕ) → us ≡ cs ++ rest → AllOf (Candidate (s + 1) rest [])) → AllOf (Via s us d cs)
  all_via s us d cs more = at (dec_front cs us)
    where
      at : ((rest : List ℕ) × (us ≡ cs ++ rest)) ⊎ ((rest : List ℕ) → us ≡ cs ++ rest → ⊥) → AllOf (Via s us d cs)
      at (inl r) =
          all_as _ _ (all_behind (Candidate (s + 1) r.0 []) (λ l. mark s ∷ (d ++ (map reads cs ++ l))) (more r.0 r.1))
          (λ l v.
          let e : v.0 ≡ r.0 = (front_same_length cs cs v.0 r.0 refl (sym v.2 ∙ r.1)).1 in
          (v.1, subst (λ k. Candidate (s + 1) k [] v.1) e v.3, v.4))
          (λ l v. (r.0, v.0, r.1, v.1, v.2))
      at (inr n) = none_of _ (λ l v. n v.0 v.2)

  -- the points from lo on, n of them
  abbrev ViaPoints : (s : ℕ) → List ℕ → List (ℕ × ℕ) → (lo n : ℕ) → List Symbol → Type 0
  ViaPoints s us ranges lo zero l = ⊥
  ViaPoints s us ranges lo (suc n) l =
      Via s us (leaf_choice enc ranges lo) (spell enc lo) l ⊎ ViaPoints s us ranges (suc lo) n l

  via_at : (s : ℕ) (us : List ℕ) (ranges : List (ℕ × ℕ)) (lo n c : ℕ) (l : List Symbol) → lo ≤ c → c < lo + n
      → Via s us (leaf_choice enc ranges c) (spell enc c) l → ViaPoints s us ranges lo n l
  via_at s us ranges lo zero c l a b v = absurd (omega arith)
  via_at s us ranges lo (suc n) c l a b v =
      ⊎_elim
      (λ e. inl (subst (λ k. Via s us (leaf_choice enc ranges k) (spell enc k) l) (sym e) v))
      (λ ne. inr (via_at s us ranges (suc lo) n c l (grind arith) (omega arith) v))
      (cases_eq lo c)

  via_from : (s : ℕ) (us : List ℕ) (ranges : List (ℕ × ℕ)) (lo n : ℕ) (l : List Symbol) → ViaPoints s us ranges lo n l
      → (c : ℕ) × (lo ≤ c) × (c < lo + n) × Via s us (leaf_choice enc ranges c) (spell enc c) l
  via_from s us ranges lo zero l v = absurd v
  via_from s us ranges lo (suc n) l v =
      ⊎_elim
      (λ a. (lo, omega arith, omega arith, a))
      (λ a. let r = via_from s us ranges (suc lo) n l a in (r.0, omega (arith, r.1), omega (arith, r.2), r.3)) v

  -- the points of some of the ranges
  abbrev ViaRanges : (s : ℕ) → List ℕ → (all ranges : List (ℕ × ℕ)) → List Symbol → Type 0
  ViaRanges s us all ranges l = (c : ℕ) × IsInRanges ranges c × Via s us (leaf_choice enc all c) (spell enc c) l

  all_points : (s : ℕ) (us : List ℕ) (ranges : List (ℕ × ℕ)) (lo n : ℕ)
      → ((c : ℕ) (rest : List ℕ) → us ≡ spell enc c ++ rest → AllOf (Candidate (s + 1) rest []))
      → AllOf (ViaPoints s us ranges lo n)
  all_points s us ranges lo zero more = none_of _ (λ l v. v)
  all_points s us ranges lo (suc n) more =
      all_or _ _ _
      (all_via s us (leaf_choice enc ranges lo) (spell enc lo) (λ rest e. more lo rest e))
      (all_points s us ranges (suc lo) n more) (λ l v. v) (λ l v. inl v) (λ l v. inr v)

  all_ranges : (s : ℕ) (us : List ℕ) (all ranges : List (ℕ × ℕ))
      → ((c : ℕ) (rest : List ℕ) → us ≡ spell enc c ++ rest → AllOf (Candidate (s + 1) rest []))
      → AllOf (ViaRanges s us all ranges)
  all_ranges s us all [] more = none_of _ (λ l v. v.1)
  all_ranges s us all (r ∷ ranges) more =
      all_or _ _ _ (all_points s us all r.0 (suc r.1 - r.0) more) (all_ranges s us all ranges more)
      (λ l v.
      ⊎_elim
      (λ i. let a = i.0 in let b = i.1 in inl (via_at s us all r.0 (suc r.1 - r.0) v.0 l a (omega arith) v.2))
      (λ i. inr (v.0, i, v.2)) v.1)
      (λ l v.
      let q = via_from s us all r.0 (suc r.1 - r.0) l v in let a = q.1 in let b = q.2 in (q.0, inl (a, omega arith), q.3))
      (λ l v. (v.0, inr v.1, v.2))

  -- behind one of some moves
  abbrev ByMoves : (s : ℕ) → (us seen : List ℕ) → List Move → List Symbol → Type 0
  ByMoves s us seen ms l' =
      (m : Move) × IsAmong m ms × (l : List Symbol) × Candidate (target m) us (s ∷ seen) l × (l' ≡ mark s ∷ (label m ++ l))

  all_moves : (s : ℕ) (us seen : List ℕ) (ms : List Move) → ((t : ℕ) → AllOf (Candidate t us (s ∷ seen)))
      → AllOf (ByMoves s us seen ms)
  all_moves s us seen [] more = none_of _ (λ l v. in_none [] refl v.1)
  all_moves s us seen (m ∷ ms) more =
      all_or
      (λ l'. (l : List Symbol) × Candidate (target m) us (s ∷ seen) l × (l' ≡ mark s ∷ (label m ++ l)))
      (ByMoves s us seen ms) (ByMoves s us seen (m ∷ ms))
      (all_behind
      (Candidate (target m) us (s ∷ seen)) (λ l. mark s ∷ (label m ++ l)) (more (target m)))
      (all_moves s us seen ms more)
      (λ l' v. by_cases v.0 l' v.1 v.2 v.3 v.4)
      (λ l' v. (m, first, v.0, v.1, v.2))
      (λ l' v. (v.0, next v.1, v.2, v.3, v.4))
    where
      by_cases :
          (n : Move) (l' : List Symbol) → IsAmong n (m ∷ ms) → (l : List Symbol) → Candidate (target n) us (s ∷ seen) l
          → l' ≡ mark s ∷ (label n ++ l)
          → ((l : List Symbol) × Candidate (target m) us (s ∷ seen) l × (l' ≡ mark s ∷ (label m ++ l)))
          ⊎ ByMoves s us seen ms l'
      by_cases n l' first l c e = inl (l, c, e)
      by_cases n l' (next i) l c e = inr (n, i, l, c, e)

  -- candidates by the row of their state
  from_moves :
      (s : ℕ) (us seen : List ℕ) (ms : List Move) → slice_get states s ≡ Some (moves ms) → (s ≡ 0 → ⊥) → (l : List Symbol)
      → Candidate s us seen l → ByMoves s us seen ms l
  from_moves s us seen ms h ne l c = at c.path c.over c.plain c.avoids
    where
      at : {l : List Symbol} → Path enc states s l → units l ≡ us → IsPlainList l
          → ((x : ℕ) → Contains x seen → IsUnseen (mark x) l)
          → ByMoves s us seen ms l
      at (ended e) u p a = absurd (ne e)
      at (then_move {l} ms' m h' i q) u p a =
          let k : ms' ≡ ms = cc in
          let b = plain_mark_back s (label m ++ l) p in (
            m,
            subst (λ n. IsAmong m n) k i,
            l,
            record {
              path = q;
              over = sym (units_mark s (label m ++ l) ∙ units_label m l) ∙ u;
              plain = plain_tail (label m) l b.1;
              avoids =
                  λ x i. ⊎_elim (λ e. subst (λ n. IsUnseen (mark n) l) (sym e) (unseen_label_back (mark s) m l b.0)) (λ j. unseen_label_back (mark x) m l (unseen_mark_back (mark x) s (label m ++ l) (a x j)).1) i;
            },
            refl,
          )
      at (then_code r d cs h' k q) u p a = absurd (no_rows enc states s ms r h h' k)

  to_moves :
      (s : ℕ) (us seen : List ℕ) (ms : List Move) → slice_get states s ≡ Some (moves ms) → (Contains s seen → ⊥) → (l : List Symbol)
      → ByMoves s us seen ms l → Candidate s us seen l
  to_moves s us seen ms h new l v =
      let m = v.0 in
      let c = v.3 in
      subst (Candidate s us seen) (sym v.4) (record {
        path = then_move ms m h v.1 c.path;
        over = units_mark s (label m ++ v.2) ∙ units_label m v.2 ∙ c.over;
        plain = plain_mark s _ (unseen_label (mark s) m _ (c.avoids s (inl refl))) (plain_label m _ c.plain);
        avoids =
            λ x i. unseen_mark (mark x) s _ (λ e. new (subst (λ n. Contains n seen) (mark_same x s e) i)) (unseen_label (mark x) m _ (c.avoids x (inr i)));
      })

  from_code :
      (s : ℕ) (us seen : List ℕ) (r : State) → slice_get states s ≡ Some r → (l : List Symbol) → (d : List Symbol) (cs : List ℕ)
      → IsReading enc r d cs → Path enc states (s + 1) l → units (mark s ∷ (d ++ (map reads cs ++ l))) ≡ us
      → IsPlainList (mark s ∷ (d ++ (map reads cs ++ l))) → Via s us d cs (mark s ∷ (d ++ (map reads cs ++ l)))
  from_code s us seen r h l d cs k q u p = (
    units l,
    l,
    sym u ∙ units_code enc states s r d cs l k,
    record {
      path = q;
      over = refl;
      plain = plain_tail (map reads cs) l (plain_tail d _ (plain_mark_back s _ p).1);
      avoids = λ x i. absurd i;
    },
    refl,
  )

  pub unseen_code : {r : State} {d : List Symbol} {cs : List ℕ} → IsReading enc r d cs → (x : Symbol) (l : List Symbol)
      → IsUnseen x (d ++ (map reads cs ++ l))
  unseen_code (of_point {ranges} c i) x l =
      let q = code_some enc (of_point c i) in unseen_choice enc ranges c x _ (unseen_point x (spell enc c) q.0 q.1 l q.2)
  unseen_code (of_unit u) x l = tt

  pub plain_code : {r : State} {d : List Symbol} {cs : List ℕ} → IsReading enc r d cs → (l : List Symbol) → IsPlainList l
      → IsPlainList (d ++ (map reads cs ++ l))
  plain_code (of_point {ranges} c i) l h = plain_choice enc ranges c _ (plain_reads (spell enc c) l h)
  plain_code (of_unit u) l h = h

  to_code :
      (s : ℕ) (us seen : List ℕ) (r : State) → slice_get states s ≡ Some r → (Contains s seen → ⊥) → (d : List Symbol) (cs : List ℕ)
      → IsReading enc r d cs → (l : List Symbol) → Via s us d cs l → Candidate s us seen l
  to_code s us seen r h new d cs k l' v =
      let l = v.1 in
      let c = v.3 in
      subst (Candidate s us seen) (sym v.4) (record {
        path = then_code r d cs h k c.path;
        over = units_code enc states s r d cs l k ∙ ap (λ n. cs ++ n) c.over ∙ sym v.2;
        plain = plain_mark s _ (unseen_code k (mark s) l) (plain_code k l c.plain);
        avoids =
            λ x i. unseen_mark (mark x) s _ (λ e. new (subst (λ n. Contains n seen) (mark_same x s e) i)) (unseen_code k (mark x) l);
      })

  from_leaf : (s : ℕ) (us seen : List ℕ) (ranges : List (ℕ × ℕ)) → slice_get states s ≡ Some (leaf ranges) → (s ≡ 0 → ⊥)
      → (l : List Symbol) → Candidate s us seen l → ViaRanges s us ranges ranges l
  from_leaf s us seen ranges h ne l c = at c.path c.over c.plain
    where
      code : {r : State} {d : List Symbol} {cs : List ℕ} → IsReading enc r d cs → r ≡ leaf ranges → {l : List Symbol}
          → Path enc states (s + 1) l → units (mark s ∷ (d ++ (map reads cs ++ l))) ≡ us
          → IsPlainList (mark s ∷ (d ++ (map reads cs ++ l)))
          → ViaRanges s us ranges ranges (mark s ∷ (d ++ (map reads cs ++ l)))
      code (of_point {ranges = ranges'} c i) e {l} q u p =
          let k : ranges' ≡ ranges = cc in
          let v =
          from_code s us seen
          (leaf ranges') (h ∙ ap Some (sym e)) l (leaf_choice enc ranges' c) (spell enc c) (of_point c i) q u p in (
            c,
            subst (λ n. IsInRanges n c) k i,
            subst (λ n. Via s us (leaf_choice enc n c) (spell enc c) (mark s ∷ (leaf_choice enc ranges' c ++ (map reads (spell enc c) ++ l)))) k v,
          )
      code (of_unit u) e q n p = cc

      at : {l : List Symbol} → Path enc states s l → units l ≡ us → IsPlainList l → ViaRanges s us ranges ranges l
      at (ended e) u p = absurd (ne e)
      at (then_move ms m h' i q) u p = cc
      at (then_code r d cs h' k q) u p = code k (cc) q u p

  from_unit :
      (s : ℕ) (us seen : List ℕ) → slice_get states s ≡ Some unit_leaf → (s ≡ 0 → ⊥) → (l : List Symbol) → Candidate s us seen l
      → (u : ℕ) × Via s us [] (u ∷ []) l
  from_unit s us seen h ne l c = at c.path c.over c.plain
    where
      code : {r : State} {d : List Symbol} {cs : List ℕ} → IsReading enc r d cs → r ≡ unit_leaf → {l : List Symbol}
          → Path enc states (s + 1) l → units (mark s ∷ (d ++ (map reads cs ++ l))) ≡ us
          → IsPlainList (mark s ∷ (d ++ (map reads cs ++ l)))
          → (u : ℕ) × Via s us [] (u ∷ []) (mark s ∷ (d ++ (map reads cs ++ l)))
      code (of_point c i) e q u p = cc
      code (of_unit u) e {l} q n p = (u, from_code s us seen unit_leaf h l [] (u ∷ []) (of_unit u) q n p)

      at : {l : List Symbol} → Path enc states s l → units l ≡ us → IsPlainList l → (u : ℕ) × Via s us [] (u ∷ []) l
      at (ended e) u p = absurd (ne e)
      at (then_move ms m h' i q) u p = cc
      at (then_code r d cs h' k q) u p = code k (cc) q u p

  spell_shorter : (c : ℕ) (us rest : List ℕ) → us ≡ spell enc c ++ rest → length rest < length us
  spell_shorter c us rest e =
      let q = spell_some enc c in
      let n : us ≡ q.0 ∷ (q.1 ++ rest) = e ∙ ap (λ k. k ++ rest) q.2 in
      omega (arith, ap length n, length-append q.1 rest)

  all_unit : (s : ℕ) (us seen : List ℕ) → slice_get states s ≡ Some unit_leaf → (s ≡ 0 → ⊥) → (Contains s seen → ⊥)
      → ((rest : List ℕ) → length rest < length us → AllOf (Candidate (s + 1) rest [])) → AllOf (Candidate s us seen)
  all_unit s [] seen h ne new later =
      none_of _ (λ l c. let v = from_unit s [] seen h ne l c in let e : [] ≡ v.0 ∷ v.1.0 = v.1.2 in no v.0 v.1.0 e)
    where
      no : (x : ℕ) (xs : List ℕ) → [] ≡ x ∷ xs → ⊥
      no x xs e = cc
  all_unit s (x ∷ us) seen h ne new later =
      all_as _ _ (all_via s (x ∷ us) [] (x ∷ []) (λ rest e. let e' : x ∷ us ≡ x ∷ rest = e in later rest (omega (arith, ap length e'))))
      (λ l c. let v = from_unit s (x ∷ us) seen h ne l c in same v.0 l v.1)
      (λ l v. to_code s (x ∷ us) seen unit_leaf h new [] (x ∷ []) (of_unit x) l v)
    where
      head : (u : ℕ) (rest : List ℕ) → x ∷ us ≡ u ∷ rest → u ≡ x
      head u rest e = cc

      same : (u : ℕ) (l : List Symbol) → Via s (x ∷ us) [] (u ∷ []) l → Via s (x ∷ us) [] (x ∷ []) l
      same u l v = subst (λ k. Via s (x ∷ us) [] (k ∷ []) l) (head u v.0 v.2) v

  -- all candidates, by the row of their state
  all_row : (s : ℕ) (us seen : List ℕ) (r : Option State) → slice_get states s ≡ r → (s ≡ 0 → ⊥) → (Contains s seen → ⊥)
      → ((rest : List ℕ) → length rest < length us → AllOf (Candidate (s + 1) rest []))
      → (s < length states → (t : ℕ) → AllOf (Candidate t us (s ∷ seen))) → AllOf (Candidate s us seen)
  all_row s us seen None h ne new later more = none_of _ (λ l c. no c.path)
    where
      no : {l : List Symbol} → Path enc states s l → ⊥
      no (ended e) = ne e
      no (then_move ms m h' i q) = cc
      no (then_code r d cs h' k q) = cc
  all_row s us seen (Some (moves ms)) h ne new later more =
      all_as _ _
      (all_moves s us seen ms (more (slice_get_within states s (moves ms) h))) (from_moves s us seen ms h ne)
      (to_moves s us seen ms h new)
  all_row s us seen (Some (leaf ranges)) h ne new later more =
      all_as _ _
      (all_ranges s us ranges ranges (λ c rest e. later rest (spell_shorter c us rest e)))
      (from_leaf s us seen ranges h ne)
      (λ l v. to_code s us seen (leaf ranges) h new (leaf_choice enc ranges v.0) (spell enc v.0) (of_point v.0 v.1) l v.2)
  all_row s us seen (Some unit_leaf) h ne new later more = all_unit s us seen h ne new later

  -- at the end
  end_path : {s : ℕ} {l : List Symbol} → s ≡ 0 → Path enc states s l → l ≡ []
  end_path e (ended k) = refl
  end_path e (then_move {s} ms m h i q) = let k = zero_is states s z e in absurd (in_none ms (cc) i)
  end_path e (then_code {s} r d cs h k q) = absurd (no_rows enc states s [] r (zero_is states s z e) h k)

  all_end : (s : ℕ) (us seen : List ℕ) → s ≡ 0 → AllOf (Candidate s us seen)
  all_end s [] seen e =
      listed ([] ∷ [])
      (λ l h. ⊎_elim (λ k. subst (Candidate s [] seen) (sym k) at_end) (λ k. absurd k) h)
      (λ l c. inl (end_path e c.path))
    where
      at_end : Candidate s [] seen []
      at_end = record { path = ended e; over = refl; plain = tt; avoids = λ x i. tt }
  all_end s (u ∷ us) seen e = none_of _ (λ l c. let k : [] ≡ u ∷ us = ap units (sym (end_path e c.path)) ∙ c.over in cc)

  -- a state that was seen
  seen_none : (s : ℕ) (us seen : List ℕ) → (s ≡ 0 → ⊥) → Contains s seen → AllOf (Candidate s us seen)
  seen_none s us seen ne i = none_of _ (λ l c. no c.path (c.avoids s i))
    where
      no : {l : List Symbol} → Path enc states s l → IsUnseen (mark s) l → ⊥
      no (ended e) h = ne e
      no (then_move {l} ms m h' j q) h = (unseen_mark_back (mark s) s (label m ++ l) h).0 refl
      no (then_code {l} r d cs h' k q) h = (unseen_mark_back (mark s) s (d ++ (map reads cs ++ l)) h).0 refl

  all_state :
      (s : ℕ) (us seen : List ℕ) → ((rest : List ℕ) → length rest < length us → AllOf (Candidate (s + 1) rest []))
      → ((Contains s seen → ⊥) → s < length states → (t : ℕ) → AllOf (Candidate t us (s ∷ seen)))
      → AllOf (Candidate s us seen)
  all_state s us seen later more =
      ⊎_elim
      (λ e. all_end s us seen e)
      (λ ne.
      ⊎_elim
      (λ i. seen_none s us seen ne i) (λ new. all_row s us seen (slice_get states s) refl ne new later (more new))
      (contains_or_not s seen))
      (cases_eq s 0)

  -- k states aren't seen yet
  search_in : (us : List ℕ) → ((rest : List ℕ) → length rest < length us → (s : ℕ) → AllOf (Candidate s rest []))
      → (k : ℕ) (open' seen : List ℕ)
      → length open' ≤ k
      → ((x : ℕ) → x < length states → Contains x seen ⊎ Contains x open')
      → (s : ℕ)
      → AllOf (Candidate s us seen)
  search_in us later zero open' seen le cover s =
      all_state s us seen
      (λ rest lt. later rest lt (s + 1)) (λ new lt t. absurd (⊎_elim new (λ i. no open' le i) (cover s lt)))
    where
      no : (xs : List ℕ) → length xs ≤ 0 → Contains s xs → ⊥
      no [] le i = i
      no (x ∷ xs) le i = absurd (omega arith)
  search_in us later (suc k) open' seen le cover s =
      all_state s us seen
      (λ rest lt. later rest lt (s + 1))
      (λ new lt t.
      ⊎_elim
      (λ i. absurd (new i))
      (λ i.
      let r = take_out s open' i in
      search_in us later k r.0
      (s ∷ seen) (omega (arith, r.1))
      (λ x lx. ⊎_elim (λ a. inl (inr a)) (λ a. ⊎_elim (λ b. inl (inl b)) (λ b. inr b) (r.2 x a)) (cover x lx)) t)
      (cover s lt))

  search_all : (n : ℕ) (us : List ℕ) → length us < n → (s : ℕ) → AllOf (Candidate s us [])
  search_all zero us lt s = absurd (omega arith)
  search_all (suc n) us lt s =
      search_in us
      (λ rest less t. search_all n rest (omega arith) t) (length (below_list (length states))) (below_list (length states)) []
      (omega arith) (λ x lx. inr (below_contains (length states) x lx)) s

-- the scripts of the plain trees of a word
pub all_scripts :
    (enc : Enc) (e : Term) (p : ℕ) → 0 < p → (w : List ℕ)
    → AllOf (λ l. (t : Tree e) × (script enc p t ≡ l) × (units l ≡ w) × IsPlain l)
all_scripts enc e p lt w =
    all_as
    (Candidate enc (alone e p) (alone_zero e p lt) (2 * p) w []) (λ l. (t : Tree e) × (script enc p t ≡ l) × (units l ≡ w) × IsPlain l)
    (search_all enc (alone e p) (alone_zero e p lt) (suc (length w)) w (omega arith) (2 * p))
    (λ l r. candidate r.0 l r.1 r.2 r.3)
    (λ l c. tree l c)
  where
    candidate :
        (t : Tree e) (l : List Symbol) → script enc p t ≡ l → units l ≡ w → IsPlain l
        → Candidate enc (alone e p) (alone_zero e p lt) (2 * p) w [] l
    candidate t l is u plain =
        let a = walk_of enc (alone e p) e p (alone_stands e p) t in
        record {
          path = subst (λ k. Path enc (alone e p) (2 * p) k) (a.1 ∙ is) (path_of enc (alone e p) a.0);
          over = u;
          plain = plain_from l plain;
          avoids = λ x i. absurd i;
        }

    tree :
        (l : List Symbol) → Candidate enc (alone e p) (alone_zero e p lt) (2 * p) w [] l
        → (t : Tree e) × (script enc p t ≡ l) × (units l ≡ w) × IsPlain l
    tree l c =
        let q = walk_from enc (alone e p) c.path in
        let t = tree_of enc (alone e p) e p (alone_stands e p) lt (alone_zero e p lt) q.0 in
        (t.0, sym t.1 ∙ q.1, c.over, plain_list l c.plain)
