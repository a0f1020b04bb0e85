-- A walk to a state, and then a rest: where the rest passes a state of the walk again, a shorter walk leaves out what lies between.
use Rattle.std.specs.Prelude.{◌≡◌, ℕ, List, [], ◌∷◌, ◌++◌, ◌⊎◌, Some, refl}
use Rattle.std.proofs.Common.{sym, ap, ◌∙◌, inl, inr, ⊎_elim}
use Rattle.std.proofs.lemmas.Bool.{cases_eq}
use Rattle.lx_regex.specs.Plain.{mark_of}
use Rattle.lx_regex.specs.Script.{Symbol, begins, ends, picks, reads, sets, units, unsets}
use Rattle.lx_regex.proofs.Walks.PlainWalk.{IsPlainList, IsUnseen}

is_begins : (x : Symbol) (p : ℕ) → (x ≡ begins p) ⊎ (x ≡ begins p → ⊥)
is_begins (begins q) p = ⊎_elim (λ e. inl (ap (λ n. begins n) e)) (λ ne. inr (λ h. ne (cc))) (cases_eq q p)
is_begins (ends q) p = inr (λ h. cc)
is_begins (reads q) p = inr (λ h. cc)
is_begins (sets q) p = inr (λ h. cc)
is_begins (unsets q) p = inr (λ h. cc)
is_begins (picks q) p = inr (λ h. cc)

is_ends : (x : Symbol) (p : ℕ) → (x ≡ ends p) ⊎ (x ≡ ends p → ⊥)
is_ends (ends q) p = ⊎_elim (λ e. inl (ap (λ n. ends n) e)) (λ ne. inr (λ h. ne (cc))) (cases_eq q p)
is_ends (begins q) p = inr (λ h. cc)
is_ends (reads q) p = inr (λ h. cc)
is_ends (sets q) p = inr (λ h. cc)
is_ends (unsets q) p = inr (λ h. cc)
is_ends (picks q) p = inr (λ h. cc)

-- a symbol stands in a list before its first unit
abbrev Seen : Symbol → List Symbol → Type 0
Seen x l = (before after : List Symbol) × (l ≡ before ++ x ∷ after) × (units before ≡ [])

seen_behind : (x y : Symbol) (l : List Symbol) → ((k : List Symbol) → units (y ∷ k) ≡ units k) → Seen x l → Seen x (y ∷ l)
seen_behind x y l quiet s = (y ∷ s.0, s.1, ap (λ k. y ∷ k) s.2, quiet s.0 ∙ s.3)

seen : (x : Symbol) (l : List Symbol) → Seen x l ⊎ IsUnseen x l
seen x [] = inr tt
seen x (reads u ∷ l) = inr tt
seen x (begins p ∷ l) =
    ⊎_elim
    (λ e. inl ([], l, ap (λ s. s ∷ l) (sym e), refl))
    (λ ne. ⊎_elim (λ s. inl (seen_behind x (begins p) l (λ k. refl) s)) (λ u. inr (ne, u)) (seen x l)) (is_begins x p)
seen x (ends p ∷ l) =
    ⊎_elim
    (λ e. inl ([], l, ap (λ s. s ∷ l) (sym e), refl))
    (λ ne. ⊎_elim (λ s. inl (seen_behind x (ends p) l (λ k. refl) s)) (λ u. inr (ne, u)) (seen x l)) (is_ends x p)
seen x (sets t ∷ l) = ⊎_elim (λ s. inl (seen_behind x (sets t) l (λ k. refl) s)) (λ u. inr u) (seen x l)
seen x (unsets t ∷ l) = ⊎_elim (λ s. inl (seen_behind x (unsets t) l (λ k. refl) s)) (λ u. inr u) (seen x l)
seen x (picks t ∷ l) = ⊎_elim (λ s. inl (seen_behind x (picks t) l (λ k. refl) s)) (λ u. inr u) (seen x l)

-- no state of a walk is passed by a list before its first unit
abbrev pub AreUnseen : (walk list : List Symbol) → Type 0
AreUnseen [] l = Unit {0}
AreUnseen (begins p ∷ y) l = IsUnseen (begins p) l × AreUnseen y l
AreUnseen (ends p ∷ y) l = IsUnseen (ends p) l × AreUnseen y l
AreUnseen (reads u ∷ y) l = AreUnseen y l
AreUnseen (sets t ∷ y) l = AreUnseen y l
AreUnseen (unsets t ∷ y) l = AreUnseen y l
AreUnseen (picks t ∷ y) l = AreUnseen y l

-- The walk y comes to the state m, and goes on by `more`; the rest goes on from there by other symbols. The front `fore` of y
-- comes to a state from which the rest's back goes on, and the back passes no state of `fore`.
pub record Shortcut (y : List Symbol) (m : Symbol) (rest more : List Symbol) : Type 0 where
  pub fore : List Symbol
  pub left_out : List Symbol
  pub is_front : y ≡ fore ++ left_out
  pub at : Symbol
  pub state : ℕ
  pub is_mark : mark_of at ≡ Some state
  pub behind : List Symbol
  pub comes : y ++ m ∷ more ≡ fore ++ at ∷ behind
  pub skipped : List Symbol
  pub back : List Symbol
  pub goes : m ∷ rest ≡ skipped ++ at ∷ back
  pub without_unit : units skipped ≡ []
  pub unseen : AreUnseen fore (m ∷ rest)

pub shortcut : (y : List Symbol) (m : Symbol) (s : ℕ) → mark_of m ≡ Some s → (rest more : List Symbol) → Shortcut y m rest more
shortcut [] m s e rest more =
    record {
      fore = [];
      left_out = [];
      is_front = refl;
      at = m;
      state = s;
      is_mark = e;
      behind = more;
      comes = refl;
      skipped = [];
      back = rest;
      goes = refl;
      without_unit = refl;
      unseen = tt;
    }
shortcut (begins p ∷ y) m s e rest more =
    ⊎_elim
    (λ h. record {
      fore = [];
      left_out = begins p ∷ y;
      is_front = refl;
      at = begins p;
      state = _;
      is_mark = refl;
      behind = y ++ m ∷ more;
      comes = refl;
      skipped = h.0;
      back = h.1;
      goes = h.2;
      without_unit = h.3;
      unseen = tt;
    })
    (λ u. let q = shortcut y m s e rest more in record {
      fore = begins p ∷ q.fore;
      left_out = q.left_out;
      is_front = ap (λ k. begins p ∷ k) q.is_front;
      at = q.at;
      state = q.state;
      is_mark = q.is_mark;
      behind = q.behind;
      comes = ap (λ k. begins p ∷ k) q.comes;
      skipped = q.skipped;
      back = q.back;
      goes = q.goes;
      without_unit = q.without_unit;
      unseen = (u, q.unseen);
    })
    (seen (begins p) (m ∷ rest))
shortcut (ends p ∷ y) m s e rest more =
    ⊎_elim
    (λ h. record {
      fore = [];
      left_out = ends p ∷ y;
      is_front = refl;
      at = ends p;
      state = _;
      is_mark = refl;
      behind = y ++ m ∷ more;
      comes = refl;
      skipped = h.0;
      back = h.1;
      goes = h.2;
      without_unit = h.3;
      unseen = tt;
    })
    (λ u. let q = shortcut y m s e rest more in record {
      fore = ends p ∷ q.fore;
      left_out = q.left_out;
      is_front = ap (λ k. ends p ∷ k) q.is_front;
      at = q.at;
      state = q.state;
      is_mark = q.is_mark;
      behind = q.behind;
      comes = ap (λ k. ends p ∷ k) q.comes;
      skipped = q.skipped;
      back = q.back;
      goes = q.goes;
      without_unit = q.without_unit;
      unseen = (u, q.unseen);
    })
    (seen (ends p) (m ∷ rest))
shortcut (reads t ∷ y) m s e rest more = let q = shortcut y m s e rest more in record {
  fore = reads t ∷ q.fore;
  left_out = q.left_out;
  is_front = ap (λ k. reads t ∷ k) q.is_front;
  at = q.at;
  state = q.state;
  is_mark = q.is_mark;
  behind = q.behind;
  comes = ap (λ k. reads t ∷ k) q.comes;
  skipped = q.skipped;
  back = q.back;
  goes = q.goes;
  without_unit = q.without_unit;
  unseen = q.unseen;
}
shortcut (sets t ∷ y) m s e rest more = let q = shortcut y m s e rest more in record {
  fore = sets t ∷ q.fore;
  left_out = q.left_out;
  is_front = ap (λ k. sets t ∷ k) q.is_front;
  at = q.at;
  state = q.state;
  is_mark = q.is_mark;
  behind = q.behind;
  comes = ap (λ k. sets t ∷ k) q.comes;
  skipped = q.skipped;
  back = q.back;
  goes = q.goes;
  without_unit = q.without_unit;
  unseen = q.unseen;
}
shortcut (unsets t ∷ y) m s e rest more = let q = shortcut y m s e rest more in record {
  fore = unsets t ∷ q.fore;
  left_out = q.left_out;
  is_front = ap (λ k. unsets t ∷ k) q.is_front;
  at = q.at;
  state = q.state;
  is_mark = q.is_mark;
  behind = q.behind;
  comes = ap (λ k. unsets t ∷ k) q.comes;
  skipped = q.skipped;
  back = q.back;
  goes = q.goes;
  without_unit = q.without_unit;
  unseen = q.unseen;
}
shortcut (picks t ∷ y) m s e rest more = let q = shortcut y m s e rest more in record {
  fore = picks t ∷ q.fore;
  left_out = q.left_out;
  is_front = ap (λ k. picks t ∷ k) q.is_front;
  at = q.at;
  state = q.state;
  is_mark = q.is_mark;
  behind = q.behind;
  comes = ap (λ k. picks t ∷ k) q.comes;
  skipped = q.skipped;
  back = q.back;
  goes = q.goes;
  without_unit = q.without_unit;
  unseen = q.unseen;
}

-- what a list does not pass, neither does its back, nor the list with more behind its first unit
pub unseen_back : (x : Symbol) (a l : List Symbol) → units a ≡ [] → IsUnseen x (a ++ l) → IsUnseen x l
unseen_back x [] l q h = h
unseen_back x (begins p ∷ a) l q h = unseen_back x a l q h.1
unseen_back x (ends p ∷ a) l q h = unseen_back x a l q h.1
unseen_back x (reads u ∷ a) l q h = cc
unseen_back x (sets t ∷ a) l q h = unseen_back x a l q h
unseen_back x (unsets t ∷ a) l q h = unseen_back x a l q h
unseen_back x (picks t ∷ a) l q h = unseen_back x a l q h

unseen_more : (x : Symbol) (l k : List Symbol) → (units l ≡ [] → ⊥) → IsUnseen x l → IsUnseen x (l ++ k)
unseen_more x [] k some h = absurd (some refl)
unseen_more x (begins p ∷ l) k some h = (h.0, unseen_more x l k some h.1)
unseen_more x (ends p ∷ l) k some h = (h.0, unseen_more x l k some h.1)
unseen_more x (reads u ∷ l) k some h = tt
unseen_more x (sets t ∷ l) k some h = unseen_more x l k some h
unseen_more x (unsets t ∷ l) k some h = unseen_more x l k some h
unseen_more x (picks t ∷ l) k some h = unseen_more x l k some h

pub all_unseen : (y a l k : List Symbol) → units a ≡ [] → (units l ≡ [] → ⊥) → AreUnseen y (a ++ l) → AreUnseen y (l ++ k)
all_unseen [] a l k q some h = tt
all_unseen (begins p ∷ y) a l k q some h =
    (unseen_more (begins p) l k some (unseen_back (begins p) a l q h.0), all_unseen y a l k q some h.1)
all_unseen (ends p ∷ y) a l k q some h =
    (unseen_more (ends p) l k some (unseen_back (ends p) a l q h.0), all_unseen y a l k q some h.1)
all_unseen (reads u ∷ y) a l k q some h = all_unseen y a l k q some h
all_unseen (sets t ∷ y) a l k q some h = all_unseen y a l k q some h
all_unseen (unsets t ∷ y) a l k q some h = all_unseen y a l k q some h
all_unseen (picks t ∷ y) a l k q some h = all_unseen y a l k q some h

-- a walk that is plain before one list is so before another that passes none of its states
unseen_swap : (x : Symbol) (y l k : List Symbol) → units y ≡ [] → IsUnseen x (y ++ l) → IsUnseen x k → IsUnseen x (y ++ k)
unseen_swap x [] l k q h u = u
unseen_swap x (begins p ∷ y) l k q h u = (h.0, unseen_swap x y l k q h.1 u)
unseen_swap x (ends p ∷ y) l k q h u = (h.0, unseen_swap x y l k q h.1 u)
unseen_swap x (reads t ∷ y) l k q h u = cc
unseen_swap x (sets t ∷ y) l k q h u = unseen_swap x y l k q h u
unseen_swap x (unsets t ∷ y) l k q h u = unseen_swap x y l k q h u
unseen_swap x (picks t ∷ y) l k q h u = unseen_swap x y l k q h u

pub plain_swapped : (y l k : List Symbol) → units y ≡ [] → IsPlainList (y ++ l) → IsPlainList k → AreUnseen y k → IsPlainList (y ++ k)
plain_swapped [] l k q h p u = p
plain_swapped (begins b ∷ y) l k q h p u = (unseen_swap (begins b) y l k q h.0 u.0, plain_swapped y l k q h.1 p u.1)
plain_swapped (ends b ∷ y) l k q h p u = (unseen_swap (ends b) y l k q h.0 u.0, plain_swapped y l k q h.1 p u.1)
plain_swapped (reads t ∷ y) l k q h p u = cc
plain_swapped (sets t ∷ y) l k q h p u = plain_swapped y l k q h p u
plain_swapped (unsets t ∷ y) l k q h p u = plain_swapped y l k q h p u
plain_swapped (picks t ∷ y) l k q h p u = plain_swapped y l k q h p u

pub plain_tail : (a l : List Symbol) → IsPlainList (a ++ l) → IsPlainList l
plain_tail [] l h = h
plain_tail (begins p ∷ a) l h = plain_tail a l h.1
plain_tail (ends p ∷ a) l h = plain_tail a l h.1
plain_tail (reads t ∷ a) l h = plain_tail a l h
plain_tail (sets t ∷ a) l h = plain_tail a l h
plain_tail (unsets t ∷ a) l h = plain_tail a l h
plain_tail (picks t ∷ a) l h = plain_tail a l h
