-- A word that has a tree has a plain one.
use Rattle.std.specs.Prelude.{◌≡◌, ℕ, ◌+◌, ◌*◌, ◌/◌, ◌%◌, ◌⊎◌, List, [], ◌∷◌, ◌++◌, map, Some, None, Bool, true, false, ◌&&◌, nat_lt, nat_eq, if◌then◌else◌, slice_get, refl}
use Rattle.std.proofs.Common.{sym, ap, ◌∙◌, subst, arith, append_assoc, inl, inr, ⊎_elim, eqb-true}
use Rattle.std.proofs.lemmas.Bool.{cases_eq, eqb-false}
use Rattle.lx_base.specs.declared.settings.Enc.{Enc}
use Rattle.lx_base.specs.declared.settings.Enc.TheVariants.{Byte, Ucs2, Utf8, Utf16, Utf32}
use Rattle.lx_base.specs.Spelling.{spell}
use Rattle.lx_regex.specs.Automaton.{Move, State, label, moves, target, move}
use Rattle.lx_regex.specs.Plain.{IsPlain, mark_of}
use Rattle.lx_regex.specs.Script.{Symbol, begins, ends, has_long, has_short, leaf_choice, picks, reads, sets, units, unsets}
use Rattle.lx_regex.specs.Walk.{IsAmong, Walk, at_point, at_unit, mark, moved, stay, symbols}

pub units_append : (a b : List Symbol) → units (a ++ b) ≡ units a ++ units b
units_append [] b = refl
units_append (begins p ∷ a) b = units_append a b
units_append (ends p ∷ a) b = units_append a b
units_append (reads u ∷ a) b = ap (λ k. u ∷ k) (units_append a b)
units_append (sets t ∷ a) b = units_append a b
units_append (unsets t ∷ a) b = units_append a b
units_append (picks d ∷ a) b = units_append a b

units_if : (b : Bool) (p q : ℕ) (l : List Symbol) → units ((if b then begins p else ends q) ∷ l) ≡ units l
units_if true p q l = refl
units_if false p q l = refl

pub units_mark : (s : ℕ) (l : List Symbol) → units (mark s ∷ l) ≡ units l
units_mark s l = units_if (nat_eq (s % 2) 0) (s / 2) (s / 2) l

units_sets : (ts : List ℕ) (l : List Symbol) → units (map sets ts ++ l) ≡ units l
units_sets [] l = refl
units_sets (t ∷ ts) l = units_sets ts l

units_unsets : (ts : List ℕ) (l : List Symbol) → units (map unsets ts ++ l) ≡ units l
units_unsets [] l = refl
units_unsets (t ∷ ts) l = units_unsets ts l

pub units_label : (m : Move) (l : List Symbol) → units (label m ++ l) ≡ units l
units_label (move None set unset to) l =
    ap units (append_assoc (map sets set) (map unsets unset) l) ∙ units_sets set (map unsets unset ++ l)
    ∙ units_unsets unset l
units_label (move (Some d) set unset to) l =
    ap units (append_assoc (map sets set) (map unsets unset) l) ∙ units_sets set (map unsets unset ++ l)
    ∙ units_unsets unset l

-- a mark tells its state
mark_if : (s : ℕ) (b : Bool) → nat_eq (s % 2) 0 ≡ b → mark_of (if b then begins (s / 2) else ends (s / 2)) ≡ Some s
mark_if s true e = let z = eqb-true (s % 2) 0 e in let d : 2 * (s / 2) ≡ s = omega arith in ap Some d
mark_if s false e = let z = eqb-false (s % 2) 0 e in let d : 2 * (s / 2) + 1 ≡ s = omega arith in ap Some d

pub mark_tells : (s : ℕ) → mark_of (mark s) ≡ Some s
mark_tells s = mark_if s (nat_eq (s % 2) 0) refl

-- x isn't in a list before its first unit
abbrev pub IsUnseen : Symbol → List Symbol → Type 0
IsUnseen x [] = Unit {0}
IsUnseen x (reads u ∷ l) = Unit {0}
IsUnseen x (begins p ∷ l) = (x ≡ begins p → ⊥) × IsUnseen x l
IsUnseen x (ends p ∷ l) = (x ≡ ends p → ⊥) × IsUnseen x l
IsUnseen x (sets t ∷ l) = IsUnseen x l
IsUnseen x (unsets t ∷ l) = IsUnseen x l
IsUnseen x (picks d ∷ l) = IsUnseen x l

abbrev pub IsPlainList : List Symbol → Type 0
IsPlainList [] = Unit {0}
IsPlainList (begins p ∷ l) = IsUnseen (begins p) l × IsPlainList l
IsPlainList (ends p ∷ l) = IsUnseen (ends p) l × IsPlainList l
IsPlainList (reads u ∷ l) = IsPlainList l
IsPlainList (sets t ∷ l) = IsPlainList l
IsPlainList (unsets t ∷ l) = IsPlainList l
IsPlainList (picks d ∷ l) = IsPlainList l

unseen_not : (x : Symbol) (m : ℕ) → mark_of x ≡ Some m → (between after : List Symbol) → units between ≡ []
    → IsUnseen x (between ++ x ∷ after) → ⊥
unseen_not (begins p) m e [] after n h = h.0 refl
unseen_not (ends p) m e [] after n h = h.0 refl
unseen_not (reads u) m e between after n h = cc
unseen_not (sets t) m e between after n h = cc
unseen_not (unsets t) m e between after n h = cc
unseen_not (picks d) m e between after n h = cc
unseen_not x m e (begins p ∷ between) after n h = unseen_not x m e between after n h.1
unseen_not x m e (ends p ∷ between) after n h = unseen_not x m e between after n h.1
unseen_not x m e (reads u ∷ between) after n h = cc
unseen_not x m e (sets t ∷ between) after n h = unseen_not x m e between after n h
unseen_not x m e (unsets t ∷ between) after n h = unseen_not x m e between after n h
unseen_not x m e (picks d ∷ between) after n h = unseen_not x m e between after n h

plain_not : (x : Symbol) (m : ℕ) → mark_of x ≡ Some m → (before between after : List Symbol) → units between ≡ []
    → IsPlainList (before ++ x ∷ (between ++ x ∷ after)) → ⊥
plain_not (begins p) m e [] between after n h = unseen_not (begins p) m e between after n h.0
plain_not (ends p) m e [] between after n h = unseen_not (ends p) m e between after n h.0
plain_not (reads u) m e [] between after n h = cc
plain_not (sets t) m e [] between after n h = cc
plain_not (unsets t) m e [] between after n h = cc
plain_not (picks d) m e [] between after n h = cc
plain_not x m e (begins p ∷ before) between after n h = plain_not x m e before between after n h.1
plain_not x m e (ends p ∷ before) between after n h = plain_not x m e before between after n h.1
plain_not x m e (reads u ∷ before) between after n h = plain_not x m e before between after n h
plain_not x m e (sets t ∷ before) between after n h = plain_not x m e before between after n h
plain_not x m e (unsets t ∷ before) between after n h = plain_not x m e before between after n h
plain_not x m e (picks d ∷ before) between after n h = plain_not x m e before between after n h

pub plain_list : (l : List Symbol) → IsPlainList l → IsPlain l
plain_list l h before between after x m e n is = plain_not x m e before between after n (subst IsPlainList is h)

-- every point has a unit
if_some : (b : Bool) (u : ℕ) (us v : List ℕ) → ((x : ℕ) × (xs : List ℕ) × (v ≡ x ∷ xs))
    → (x : ℕ) × (xs : List ℕ) × ((if b then u ∷ us else v) ≡ x ∷ xs)
if_some true u us v h = (u, us, refl)
if_some false u us v h = h

pub spell_some : (enc : Enc) (c : ℕ) → (x : ℕ) × (xs : List ℕ) × (spell enc c ≡ x ∷ xs)
spell_some Byte c = (c, [], refl)
spell_some Ucs2 c = (c, [], refl)
spell_some Utf8 c =
    if_some (nat_lt c 0x80) _ _ _ (if_some (nat_lt c 0x800) _ _ _ (if_some (nat_lt c 0x10000) _ _ _ (_, _, refl)))
spell_some Utf16 c = if_some (nat_lt c 0x10000) _ _ _ (_, _, refl)
spell_some Utf32 c = (c, [], refl)

pub unseen_point :
    (x : Symbol) (us : List ℕ) (u : ℕ) (rest : List ℕ) (l : List Symbol) → us ≡ u ∷ rest → IsUnseen x (map reads us ++ l)
unseen_point x us u rest l e = subst (λ k. IsUnseen x (map reads k ++ l)) (sym e) tt

pub unseen_mark : (x : Symbol) (s : ℕ) (l : List Symbol) → (x ≡ mark s → ⊥) → IsUnseen x l → IsUnseen x (mark s ∷ l)
unseen_mark x s l ne h = at (nat_eq (s % 2) 0) ne
  where
    at : (b : Bool) → (x ≡ (if b then begins (s / 2) else ends (s / 2)) → ⊥)
        → IsUnseen x ((if b then begins (s / 2) else ends (s / 2)) ∷ l)
    at true n = (n, h)
    at false n = (n, h)

pub plain_mark : (s : ℕ) (l : List Symbol) → IsUnseen (mark s) l → IsPlainList l → IsPlainList (mark s ∷ l)
plain_mark s l h p = at (nat_eq (s % 2) 0) h
  where
    at : (b : Bool) → IsUnseen (if b then begins (s / 2) else ends (s / 2)) l
        → IsPlainList ((if b then begins (s / 2) else ends (s / 2)) ∷ l)
    at true n = (n, p)
    at false n = (n, p)

unseen_sets : (x : Symbol) (ts : List ℕ) (l : List Symbol) → IsUnseen x l → IsUnseen x (map sets ts ++ l)
unseen_sets x [] l h = h
unseen_sets x (t ∷ ts) l h = unseen_sets x ts l h

unseen_unsets : (x : Symbol) (ts : List ℕ) (l : List Symbol) → IsUnseen x l → IsUnseen x (map unsets ts ++ l)
unseen_unsets x [] l h = h
unseen_unsets x (t ∷ ts) l h = unseen_unsets x ts l h

pub unseen_label : (x : Symbol) (m : Move) (l : List Symbol) → IsUnseen x l → IsUnseen x (label m ++ l)
unseen_label x (move None set unset to) l h =
    subst
    (IsUnseen x) (sym (append_assoc (map sets set) (map unsets unset) l))
    (unseen_sets x set _ (unseen_unsets x unset l h))
unseen_label x (move (Some d) set unset to) l h =
    subst
    (IsUnseen x) (sym (append_assoc (map sets set) (map unsets unset) l))
    (unseen_sets x set _ (unseen_unsets x unset l h))

plain_sets : (ts : List ℕ) (l : List Symbol) → IsPlainList l → IsPlainList (map sets ts ++ l)
plain_sets [] l h = h
plain_sets (t ∷ ts) l h = plain_sets ts l h

plain_unsets : (ts : List ℕ) (l : List Symbol) → IsPlainList l → IsPlainList (map unsets ts ++ l)
plain_unsets [] l h = h
plain_unsets (t ∷ ts) l h = plain_unsets ts l h

pub plain_label : (m : Move) (l : List Symbol) → IsPlainList l → IsPlainList (label m ++ l)
plain_label (move None set unset to) l h =
    subst IsPlainList (sym (append_assoc (map sets set) (map unsets unset) l)) (plain_sets set _ (plain_unsets unset l h))
plain_label (move (Some d) set unset to) l h =
    subst IsPlainList (sym (append_assoc (map sets set) (map unsets unset) l)) (plain_sets set _ (plain_unsets unset l h))

pub plain_reads : (us : List ℕ) (l : List Symbol) → IsPlainList l → IsPlainList (map reads us ++ l)
plain_reads [] l h = h
plain_reads (u ∷ us) l h = plain_reads us l h

-- the choice of a leaf is no mark
pub unseen_choice : (enc : Enc) (ranges : List (ℕ × ℕ)) (c : ℕ) (x : Symbol) (l : List Symbol) → IsUnseen x l
    → IsUnseen x (leaf_choice enc ranges c ++ l)
unseen_choice Byte ranges c x l h = h
unseen_choice Ucs2 ranges c x l h = h
unseen_choice Utf8 ranges c x l h = h
unseen_choice Utf16 ranges c x l h = at (has_short ranges && has_long ranges)
  where
    at : (b : Bool) → IsUnseen x ((if b then picks (if nat_lt c 0x10000 then 1 else 0) ∷ [] else []) ++ l)
    at true = h
    at false = h
unseen_choice Utf32 ranges c x l h = h

pub plain_choice : (enc : Enc) (ranges : List (ℕ × ℕ)) (c : ℕ) (l : List Symbol) → IsPlainList l
    → IsPlainList (leaf_choice enc ranges c ++ l)
plain_choice Byte ranges c l h = h
plain_choice Ucs2 ranges c l h = h
plain_choice Utf8 ranges c l h = h
plain_choice Utf16 ranges c l h = at (has_short ranges && has_long ranges)
  where
    at : (b : Bool) → IsPlainList ((if b then picks (if nat_lt c 0x10000 then 1 else 0) ∷ [] else []) ++ l)
    at true = h
    at false = h
plain_choice Utf32 ranges c l h = h

module _ (enc : Enc) (states : List State) (last_state : ℕ) where
  -- a walk doesn't pass s before its first unit
  abbrev pub IsFresh : (s : ℕ) → {s' : ℕ} → Walk states last_state s' → Type 0
  IsFresh s stay = Unit {0}
  IsFresh s (moved {state = s'} ms m h i w) = (s ≡ s' → ⊥) × IsFresh s w
  IsFresh s (at_point {state = s'} ranges c h i w) = s ≡ s' → ⊥
  IsFresh s (at_unit {state = s'} u h w) = s ≡ s' → ⊥

  -- between two units it passes no state twice
  abbrev pub IsPlainWalk : {s : ℕ} → Walk states last_state s → Type 0
  IsPlainWalk stay = Unit {0}
  IsPlainWalk (moved {state = s} ms m h i w) = IsFresh s w × IsPlainWalk w
  IsPlainWalk (at_point ranges c h i w) = IsPlainWalk w
  IsPlainWalk (at_unit u h w) = IsPlainWalk w

  pub record Found (s : ℕ) (us : List ℕ) : Type 0 where
    pub walk : Walk states last_state s
    pub plain : IsPlainWalk walk
    pub same : units (symbols enc walk []) ≡ us

  found_at : (s s' : ℕ) (us : List ℕ) → s ≡ s' → Found s' us → Found s us
  found_at s s' us e r = subst (λ n. Found n us) (sym e) r

  seek : (s : ℕ) → {s' : ℕ} → (w : Walk states last_state s') → IsPlainWalk w
      → IsFresh s w ⊎ Found s (units (symbols enc w []))
  seek s stay p = inl tt
  seek s (moved {state = s'} ms m h i w) p =
      ⊎_elim
      (λ e. inr (found_at s s' _ e (record { walk = moved ms m h i w; plain = p; same = refl })))
      (λ ne. ⊎_elim (λ fr. inl (ne, fr)) (λ r. inr (record {
        walk = r.walk;
        plain = r.plain;
        same = r.same ∙ sym (units_mark s' (label m ++ symbols enc w []) ∙ units_label m (symbols enc w []));
      })) (seek s w p.1))
      (cases_eq s s')
  seek s (at_point {state = s'} ranges c h i w) p =
      ⊎_elim (λ e. inr (found_at s s' _ e (record {
        walk = at_point ranges c h i w;
        plain = p;
        same = refl;
      }))) (λ ne. inl ne) (cases_eq s s')
  seek s (at_unit {state = s'} u h w) p =
      ⊎_elim
      (λ e. inr (found_at s s' _ e (record { walk = at_unit u h w; plain = p; same = refl }))) (λ ne. inl ne)
      (cases_eq s s')

  -- the walk without what it goes round
  pub cut : {s : ℕ} → (w : Walk states last_state s) → Found s (units (symbols enc w []))
  cut stay = record { walk = stay; plain = tt; same = refl }
  cut (moved {state = s} ms m h i w) = at (cut w)
    where
      at : Found (target m) (units (symbols enc w [])) → Found s (units (mark s ∷ (label m ++ symbols enc w [])))
      at r =
          let e = units_mark s (label m ++ symbols enc w []) ∙ units_label m (symbols enc w []) in
          ⊎_elim
          (λ fr. record {
            walk = moved ms m h i r.walk;
            plain = (fr, r.plain);
            same = units_mark s (label m ++ symbols enc r.walk []) ∙ units_label m (symbols enc r.walk []) ∙ r.same ∙ sym e;
          })
          (λ q. record { walk = q.walk; plain = q.plain; same = q.same ∙ r.same ∙ sym e })
          (seek s r.walk r.plain)
  cut (at_point {state = s} ranges c h i w) =
      let r = cut w in
      let lead =
      λ (k : List Symbol). units_mark s (leaf_choice enc ranges c ++ (map reads (spell enc c) ++ k)) ∙ units_append (leaf_choice enc ranges c) (map reads (spell enc c) ++ k) ∙ ap (λ j. units (leaf_choice enc ranges c) ++ j) (units_append (map reads (spell enc c)) k) in
      record {
        walk = at_point ranges c h i r.walk;
        plain = r.plain;
        same =
            lead (symbols enc r.walk [])
            ∙ ap (λ k. units (leaf_choice enc ranges c) ++ (units (map reads (spell enc c)) ++ k)) r.same
            ∙ sym (lead (symbols enc w []));
      }
  cut (at_unit {state = s} u h w) =
      let r = cut w in
      record {
        walk = at_unit u h r.walk;
        plain = r.plain;
        same =
            units_mark s (reads u ∷ symbols enc r.walk []) ∙ ap (λ k. u ∷ k) r.same
            ∙ sym (units_mark s (reads u ∷ symbols enc w []));
      }

  pub marks_differ : (s s' : ℕ) → (s ≡ s' → ⊥) → mark s ≡ mark s' → ⊥
  marks_differ s s' ne e = let k : Some s ≡ Some s' = sym (mark_tells s) ∙ ap mark_of e ∙ mark_tells s' in ne (cc)

  fresh_unseen : (s : ℕ) → {s' : ℕ} → (w : Walk states last_state s') → IsFresh s w → IsUnseen (mark s) (symbols enc w [])
  fresh_unseen s stay h = tt
  fresh_unseen s (moved {state = s'} ms m a i w) h =
      unseen_mark (mark s) s' _ (marks_differ s s' h.0) (unseen_label (mark s) m _ (fresh_unseen s w h.1))
  fresh_unseen s (at_point {state = s'} ranges c a i w) h =
      let u = spell_some enc c in
      unseen_mark
      (mark s) s' _ (marks_differ s s' h)
      (unseen_choice enc ranges c (mark s) _ (unseen_point (mark s) (spell enc c) u.0 u.1 _ u.2))
  fresh_unseen s (at_unit {state = s'} u a w) h = unseen_mark (mark s) s' _ (marks_differ s s' h) tt

  pub walk_plain : {s : ℕ} → (w : Walk states last_state s) → IsPlainWalk w → IsPlainList (symbols enc w [])
  walk_plain stay h = tt
  walk_plain (moved {state = s} ms m a i w) h =
      plain_mark s _ (unseen_label (mark s) m _ (fresh_unseen s w h.0)) (plain_label m _ (walk_plain w h.1))
  walk_plain (at_point {state = s} ranges c a i w) h =
      let u = spell_some enc c in
      plain_mark s _
      (unseen_choice enc ranges c (mark s) _ (unseen_point (mark s) (spell enc c) u.0 u.1 _ u.2))
      (plain_choice enc ranges c _ (plain_reads (spell enc c) _ (walk_plain w h)))
  walk_plain (at_unit {state = s} u a w) h = plain_mark s _ tt (walk_plain w h)

  -- a state with no way on
  pub no_way : {s : ℕ} → (w : Walk states last_state s) → slice_get states s ≡ Some (moves []) → symbols enc w [] ≡ []
  no_way stay e = refl
  no_way (moved ms m h i w) e =
      let k : ms ≡ [] = cc in
      absurd (none (subst (IsAmong m) k i))
    where
      none : IsAmong m [] → ⊥
      none j = elim j [ ]
  no_way (at_point ranges c h i w) e = cc
  no_way (at_unit u h w) e = cc
