-- Which words come between a word with one more unit and another one.
use Rattle.std.proofs.Common.{◌≡◌, ◌⊎◌, inl, inr, ℕ, ◌<◌, ◌≤◌, List, [], ◌∷◌, ◌++◌, refl, sym, ap, ◌∙◌, subst, arith}
use Rattle.std.proofs.lemmas.Bool.{cases_lt}
use Rattle.std.proofs.lemmas.List.{length_push}
use Rattle.lx_base.specs.Spelling.{greatest_unit}
use Rattle.lx_base.specs.declared.settings.Enc.{Enc}
use Rattle.lx_regex.specs.Kernel.{IsWord}
use Rattle.lx_regex.specs.Term.{Term}
use Rattle.lx_tdfa.proofs.LeastWords.WordOrder.{comes-last, comes-or, comes-push, empty-no_later, no_later-last, no_later-never}
use Rattle.lx_tdfa.specs.Words.{ComesBefore, IsNoLater}

-- a word is empty, or a word with one more unit
pub record HasFront (word : List ℕ) : Type 0 where
  pub front : List ℕ
  pub unit : ℕ
  pub whole : word ≡ front ++ unit ∷ []

pub fronted : (word : List ℕ) → (word ≡ []) ⊎ HasFront word
fronted [] = inl refl
fronted (unit ∷ word) = inr (at word (fronted word))
  where
    at : (word : List ℕ) → (word ≡ []) ⊎ HasFront word → HasFront (unit ∷ word)
    at word (inl none) = record { front = []; unit = unit; whole = ap (λ w. unit ∷ w) none }
    at word (inr has) = record { front = unit ∷ has.front; unit = has.unit; whole = ap (λ w. unit ∷ w) has.whole }

pub no_later-both : (word other : List ℕ) → IsNoLater word other → IsNoLater other word → word ≡ other
no_later-both word other (inr same) also = same
no_later-both word other (inl before) also = absurd (no_later-never other word also before)

pub never-empty : (word : List ℕ) (unit : ℕ) → ComesBefore (word ++ unit ∷ []) [] → ⊥
never-empty word unit (inl shorter) = let long = length_push word unit in omega (arith, long, shorter)
never-empty word unit (inr (same, before)) = let long = length_push word unit in omega (arith, long, same)

pub word-push : (enc : Enc) (rules : List Term) (word : List ℕ) (unit : ℕ) → IsWord enc rules word → unit ≤ greatest_unit enc
    → IsWord enc rules (word ++ unit ∷ [])
word-push enc rules [] unit is low = (low, tt)
word-push enc rules (first ∷ word) unit is low = (is.0, word-push enc rules word unit is.1 low)

pub word-apart : (enc : Enc) (rules : List Term) (word : List ℕ) (unit : ℕ) → IsWord enc rules (word ++ unit ∷ [])
    → IsWord enc rules word × (unit ≤ greatest_unit enc)
word-apart enc rules [] unit is = (tt, is.0)
word-apart enc rules (first ∷ word) unit is = let rest = word-apart enc rules word unit is.1 in ((is.0, rest.0), rest.1)

-- a front that comes no later, with a unit that is no greater
no_later-pushed : (word other : List ℕ) (unit last : ℕ) → IsNoLater word other → unit ≤ last → IsNoLater (word ++ unit ∷ []) (other ++ last ∷ [])
no_later-pushed word other unit last (inl before) most = inl (comes-push word other unit last before)
no_later-pushed word other unit last (inr same) most =
    subst (λ w. IsNoLater (word ++ unit ∷ []) (w ++ last ∷ [])) same (no_later-last word unit last most)

-- ---- from one unit behind a front to another

-- the word is the front with a unit from one to another
pub record IsBetween (front : List ℕ) (unit end : ℕ) (word : List ℕ) : Type 0 where
  pub other : ℕ
  pub whole : word ≡ front ++ other ∷ []
  pub from : unit ≤ other
  pub below : other < end

pub between : (front : List ℕ) (unit end : ℕ) (word : List ℕ) → ComesBefore word (front ++ end ∷ [])
    → ComesBefore word (front ++ unit ∷ []) ⊎ IsBetween front unit end word
between front unit end word before = at (fronted word)
  where
    last : (own : ℕ) → word ≡ front ++ own ∷ [] → ComesBefore word (front ++ unit ∷ []) ⊎ IsBetween front unit end word
    last own whole = elim (cases_lt own unit) [
      | inl less ↦ inl (subst (λ w. ComesBefore w (front ++ unit ∷ [])) (sym whole) (comes-last front own unit less))
      | inr ge ↦ elim (cases_lt own end) [
        | inl below ↦ inr (record { other = own; whole = whole; from = ge; below = below })
        | inr past ↦
            absurd (no_later-never (front ++ end ∷ []) (front ++ own ∷ []) (no_later-last front end own past)
            (subst (λ w. ComesBefore w (front ++ end ∷ [])) whole before))
      ]
    ]

    same : (own : List ℕ) (other : ℕ) → word ≡ own ++ other ∷ [] → IsNoLater front own → ComesBefore word (front ++ unit ∷ []) ⊎ IsBetween front unit end word
    same own other whole (inl less) =
        absurd (no_later-never (front ++ end ∷ []) (own ++ other ∷ []) (inl (comes-push front own end other less))
        (subst (λ w. ComesBefore w (front ++ end ∷ [])) whole before))
    same own other whole (inr equal) = last other (whole ∙ ap (λ w. w ++ other ∷ []) (sym equal))

    at : (word ≡ []) ⊎ HasFront word → ComesBefore word (front ++ unit ∷ []) ⊎ IsBetween front unit end word
    at (inl none) = let long = length_push front unit in inl (subst (λ w. ComesBefore w (front ++ unit ∷ [])) (sym none) (inl (omega (arith, long))))
    at (inr has) = elim (comes-or has.front front) [
      | inl less ↦ inl (subst (λ w. ComesBefore w (front ++ unit ∷ [])) (sym has.whole) (comes-push has.front front has.unit unit less))
      | inr no_later ↦ same has.front has.unit has.whole no_later
    ]

-- ---- from one front to another

-- the word is one between the fronts, or the first of them, with one more unit
pub record IsBehind (front next : List ℕ) (end : ℕ) (word : List ℕ) : Type 0 where
  pub own : List ℕ
  pub unit : ℕ
  pub whole : word ≡ own ++ unit ∷ []
  pub before : ComesBefore own next
  pub behind : ComesBefore front own ⊎ (end ≤ unit)

pub onward : (front next : List ℕ) (end : ℕ) (word : List ℕ) → ComesBefore word (next ++ 0 ∷ [])
    → ComesBefore word (front ++ end ∷ []) ⊎ IsBehind front next end word
onward front next end word before = at (fronted word)
  where
    earlier : (own : List ℕ) (unit : ℕ) → word ≡ own ++ unit ∷ [] → ComesBefore own next
    earlier own unit whole = elim (comes-or own next) [
      | inl less ↦ less
      | inr no_later ↦
          absurd (no_later-never (next ++ 0 ∷ []) (own ++ unit ∷ []) (no_later-pushed next own 0 unit no_later (omega arith))
          (subst (λ w. ComesBefore w (next ++ 0 ∷ [])) whole before))
    ]

    by : (own : List ℕ) (unit : ℕ) → word ≡ own ++ unit ∷ [] → ComesBefore own front ⊎ IsNoLater front own
        → ComesBefore word (front ++ end ∷ []) ⊎ IsBehind front next end word
    by own unit whole (inl less) =
        inl (subst (λ w. ComesBefore w (front ++ end ∷ [])) (sym whole) (comes-push own front unit end less))
    by own unit whole (inr (inl more)) =
        inr (record { own = own; unit = unit; whole = whole; before = earlier own unit whole; behind = inl more })
    by own unit whole (inr (inr same)) = elim (cases_lt unit end) [
      | inl below ↦
          inl (subst (λ w. ComesBefore w (front ++ end ∷ [])) (ap (λ w. w ++ unit ∷ []) same ∙ sym whole) (comes-last front unit end below))
      | inr past ↦ inr (record { own = own; unit = unit; whole = whole; before = earlier own unit whole; behind = inr past })
    ]

    at : (word ≡ []) ⊎ HasFront word → ComesBefore word (front ++ end ∷ []) ⊎ IsBehind front next end word
    at (inl none) = let long = length_push front end in inl (subst (λ w. ComesBefore w (front ++ end ∷ [])) (sym none) (inl (omega (arith, long))))
    at (inr has) = by has.front has.unit has.whole (comes-or has.front front)

-- before the first unit alone only the empty word comes
pub only-empty : (word : List ℕ) → ComesBefore word (0 ∷ []) → word ≡ []
only-empty word before = at (fronted word)
  where
    at : (word ≡ []) ⊎ HasFront word → word ≡ []
    at (inl none) = none
    at (inr has) =
        absurd (no_later-never (0 ∷ []) (has.front ++ has.unit ∷ []) (no_later-pushed [] has.front 0 has.unit (empty-no_later has.front) (omega arith))
        (subst (λ w. ComesBefore w (0 ∷ [])) has.whole before))
