-- The longest token of all kinds.
use Rattle.std.proofs.Common.{◌≡◌, ℕ, ◌≤◌, Bool, true, false, ◌⊎◌, inl, inr, ⊎_elim, List, [], ◌∷◌, length, Option, Some, None, IfSome, cond, refl, sym, ◌∙◌, ap, subst, arith, nat_lt}
use Rattle.std.proofs.lemmas.Option.{same_Some}
use borrow.Author.Tests.{ltb-true, ltb-false}
use Rattle.lx_token.specs.declared.kinds.TokenKind.{TokenKind}
use Rattle.lx_token.specs.declared.kinds.TokenKind.TheVariants.{Name, Config, Number, Str, IStr, Class, STag, MTag, Bounds, Code, Signs}
use Rattle.lx_token.specs.Rows.{Found, after_token, longer, longest_of, longest_token}

-- what is found is a token of its kind
abbrev IsToken : List ℕ → Option Found → Type 0
IsToken text found = IfSome found (λ token. after_token token.0 text ≡ Some token.1)

-- what is found is as long as the token of a kind, if there is one
abbrev IsAsLong : List ℕ → TokenKind → Option Found → Type 0
IsAsLong text kind found = (rest : List ℕ) → after_token kind text ≡ Some rest → (token : Found) × (found ≡ Some token) × (length token.1 ≤ length rest)

IsToken-longer : (text : List ℕ) (found : Option Found) (kind : TokenKind) (rest : Option (List ℕ)) → after_token kind text ≡ rest → IsToken text found →
    IsToken text (longer found kind rest)
IsToken-longer text found kind None is h = h
IsToken-longer text None kind (Some rest) is h = is
IsToken-longer text (Some other) kind (Some rest) is h = pick (nat_lt (length rest) (length other.1))
  where
    pick : (b : Bool) → IsToken text (cond b (Some (kind, rest)) (Some other))
    pick true = is
    pick false = h

IsToken-longest : (text : List ℕ) (kinds : List TokenKind) (found : Option Found) → IsToken text found → IsToken text (longest_of found kinds text)
IsToken-longest text [] found h = h
IsToken-longest text (kind ∷ kinds) found h =
    IsToken-longest text kinds (longer found kind (after_token kind text)) (IsToken-longer text found kind (after_token kind text) refl h)

-- a longer token is as long too
IsAsLong-kept : (text : List ℕ) (other kind : TokenKind) (found : Option Found) (rest : Option (List ℕ)) → IsAsLong text other found →
    IsAsLong text other (longer found kind rest)
IsAsLong-kept text other kind found None h = h
IsAsLong-kept text other kind None (Some rest) h = λ rest' is. let old = h rest' is in cc
IsAsLong-kept text other kind (Some token) (Some rest) h = λ rest' is.
    let old = h rest' is in
    let same = same_Some token old.0 old.1 in
    let le : length token.1 ≤ length rest' = rw same old.2 in
    pick (nat_lt (length rest) (length token.1)) refl rest' le
  where
    pick : (b : Bool) → nat_lt (length rest) (length token.1) ≡ b → (rest' : List ℕ) → length token.1 ≤ length rest' →
        (found : Found) × (cond b (Some (kind, rest)) (Some token) ≡ Some found) × (length found.1 ≤ length rest')
    pick true test rest' le = let lt = ltb-true (length rest) (length token.1) test in ((kind, rest), refl, omega arith)
    pick false test rest' le = (token, refl, le)

-- after a kind was tried, what is found is as long as its token
IsAsLong-tried : (text : List ℕ) (kind : TokenKind) (found : Option Found) (rest : Option (List ℕ)) → after_token kind text ≡ rest →
    IsAsLong text kind (longer found kind rest)
IsAsLong-tried text kind found None none = λ rest is. let e = sym none ∙ is in cc
IsAsLong-tried text kind None (Some rest) some = λ rest' is.
    let same = same_Some rest rest' (sym some ∙ is) in ((kind, rest), refl, omega (arith, ap length same))
IsAsLong-tried text kind (Some token) (Some rest) some = λ rest' is.
    let same = same_Some rest rest' (sym some ∙ is) in
    let le : length rest ≤ length rest' = omega (arith, ap length same) in
    pick (nat_lt (length rest) (length token.1)) refl rest' le
  where
    pick : (b : Bool) → nat_lt (length rest) (length token.1) ≡ b → (rest' : List ℕ) → length rest ≤ length rest' →
        (found : Found) × (cond b (Some (kind, rest)) (Some token) ≡ Some found) × (length found.1 ≤ length rest')
    pick true test rest' le = ((kind, rest), refl, le)
    pick false test rest' le = let no = ltb-false (length rest) (length token.1) test in (token, refl, omega arith)

IsAsLong-later : (text : List ℕ) (other : TokenKind) (kinds : List TokenKind) (found : Option Found) → IsAsLong text other found →
    IsAsLong text other (longest_of found kinds text)
IsAsLong-later text other [] found h = h
IsAsLong-later text other (kind ∷ kinds) found h =
    IsAsLong-later text other kinds (longer found kind (after_token kind text)) (IsAsLong-kept text other kind found (after_token kind text) h)

abbrev IsAmongKinds : TokenKind → List TokenKind → Type 0
IsAmongKinds kind [] = ⊥
IsAmongKinds kind (other ∷ kinds) = (kind ≡ other) ⊎ IsAmongKinds kind kinds

IsAsLong-longest : (text : List ℕ) (kind : TokenKind) (kinds : List TokenKind) (found : Option Found) → IsAmongKinds kind kinds →
    IsAsLong text kind (longest_of found kinds text)
IsAsLong-longest text kind [] found among = absurd among
IsAsLong-longest text kind (other ∷ kinds) found among =
    let next = longer found other (after_token other text) in
    ⊎_elim
    (λ here. IsAsLong-later text kind kinds next (subst (λ k. IsAsLong text k next) (sym here) (IsAsLong-tried text other found (after_token other text) refl)))
    (λ later. IsAsLong-longest text kind kinds next later) among

abbrev all_kinds : List TokenKind
all_kinds = Name ∷ Config ∷ Number ∷ Str ∷ IStr ∷ Class ∷ STag ∷ MTag ∷ Bounds ∷ Code ∷ Signs ∷ []

among_all : (kind : TokenKind) → IsAmongKinds kind all_kinds
among_all Name = inl refl
among_all Config = inr (inl refl)
among_all Number = inr (inr (inl refl))
among_all Str = inr (inr (inr (inl refl)))
among_all IStr = inr (inr (inr (inr (inl refl))))
among_all Class = inr (inr (inr (inr (inr (inl refl)))))
among_all STag = inr (inr (inr (inr (inr (inr (inl refl))))))
among_all MTag = inr (inr (inr (inr (inr (inr (inr (inl refl)))))))
among_all Bounds = inr (inr (inr (inr (inr (inr (inr (inr (inl refl))))))))
among_all Code = inr (inr (inr (inr (inr (inr (inr (inr (inr (inl refl)))))))))
among_all Signs = inr (inr (inr (inr (inr (inr (inr (inr (inr (inr (inl refl))))))))))

pub longest_token-is : (text : List ℕ) (token : Found) → longest_token text ≡ Some token → after_token token.0 text ≡ Some token.1
longest_token-is text token is =
    subst (λ found. IsToken text found) is (IsToken-longest text all_kinds None tt)

pub longest_token-longest : (text : List ℕ) (token : Found) → longest_token text ≡ Some token → (kind : TokenKind) (rest : List ℕ) →
    after_token kind text ≡ Some rest → length token.1 ≤ length rest
longest_token-longest text token is kind rest stands =
    let found = IsAsLong-longest text kind all_kinds None (among_all kind) rest stands in
    let same = same_Some token found.0 (sym is ∙ found.1) in
    rw same found.2

pub longest_token-none : (text : List ℕ) → longest_token text ≡ None → (kind : TokenKind) → after_token kind text ≡ None
longest_token-none text none kind = at (after_token kind text) refl
  where
    at : (rest : Option (List ℕ)) → after_token kind text ≡ rest → rest ≡ None
    at None is = refl
    at (Some rest) is =
        let found = IsAsLong-longest text kind all_kinds None (among_all kind) rest is in
        let clash = sym none ∙ found.1 in cc
