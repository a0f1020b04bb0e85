-- Trees with one script have one shape.
use Rattle.std.specs.Prelude.{◌≡◌, ℕ, suc, ◌+◌, ◌*◌, List, [], ◌∷◌, ◌++◌, map, length, Option, Bool, true, false, ◌&&◌, nat_lt, nat_le, nat_eq, if◌then◌else◌, refl}
use Rattle.std.proofs.Common.{sym, ap, ap₂, ◌∙◌, append_assoc}
use Rattle.lx_base.specs.declared.settings.Enc.{Enc}
use Rattle.lx_base.specs.declared.settings.Enc.TheVariants.{Byte, Ucs2, Utf8, Utf16, Utf32}
use Rattle.lx_base.specs.Spelling.{spell}
use Rattle.lx_regex.specs.Term.{Term, Terms, parts}
use Rattle.lx_regex.specs.Tree.{Tree, blank, point, unit, row, chosen, iterations, event, inside, Row, row_end, beside, Choice, here, later, Iterations, stop, iteration}
use Rattle.lx_regex.specs.Script.{Symbol, begins, ends, reads, sets, unsets, picks, script, row_script, choice_script, iterations_script, leaf_choice, has_short, has_long, chosen_place, tags_in, tags_beside, merge_tags, may_iterate, iterate_choice, stop_choice, copy_part}
use Rattle.lx_regex.specs.Posix.{leaf, inner, none, more, absent, shape_of, row_shapes, choice_shapes, iteration_shapes}
use Rattle.lx_regex.proofs.Walks.Exchange.{reads_match}

-- one front goes
drop_front : (a x y : List Symbol) → a ++ x ≡ a ++ y → x ≡ y
drop_front [] x y e = e
drop_front (s ∷ a) x y e = drop_front a x y (cc)

same_tail : (s : Symbol) (x y : List Symbol) → s ∷ x ≡ s ∷ y → x ≡ y
same_tail s x y e = cc

-- the choices of two leaves of one class
drop_choice :
    (enc : Enc) (ranges : List (ℕ × ℕ)) (c c' : ℕ) (x y : List Symbol)
    → leaf_choice enc ranges c ++ x ≡ leaf_choice enc ranges c' ++ y → x ≡ y
drop_choice Byte ranges c c' x y e = e
drop_choice Ucs2 ranges c c' x y e = e
drop_choice Utf8 ranges c c' x y e = e
drop_choice Utf16 ranges c c' x y e =
    at (has_short ranges && has_long ranges) (if nat_lt c 0x10000 then 1 else 0) (if nat_lt c' 0x10000 then 1 else 0) e
  where
    at : (b : Bool) (m n : ℕ) → (if b then picks m ∷ [] else []) ++ x ≡ (if b then picks n ∷ [] else []) ++ y → x ≡ y
    at true m n h = cc
    at false m n h = h
drop_choice Utf32 ranges c c' x y e = e

tags_by_place :
    {members : Terms} → (c c' : Choice members) → chosen_place c ≡ chosen_place c' → tags_beside c ≡ tags_beside c'
tags_by_place (here t) (here t') e = refl
tags_by_place (here t) (later c') e = cc
tags_by_place (later c) (here t') e = cc
tags_by_place (later {member} c) (later c') e = ap (λ ts. merge_tags (tags_in member) ts) (tags_by_place c c' (cc))

-- the place of the chosen member, and what follows the tags of the others
chosen_rest :
    {members : Terms} → (p : ℕ) (c c' : Choice members) (s s' x y : List Symbol)
    → (begins p ∷ picks (chosen_place c) ∷ (map unsets (tags_beside c) ++ (s ++ ends p ∷ []))) ++ x
    ≡ (begins p ∷ picks (chosen_place c') ∷ (map unsets (tags_beside c') ++ (s' ++ ends p ∷ []))) ++ y
    → (chosen_place c ≡ chosen_place c') × (s ++ ends p ∷ x ≡ s' ++ ends p ∷ y)
chosen_rest p c c' s s' x y h =
    let place : chosen_place c ≡ chosen_place c' = same_pick _ _ _ _ (same_tail (begins p) _ _ h) in
    let rest = behind_pick _ _ _ _ (same_tail (begins p) _ _ h) in
    let unset : map unsets (tags_beside c') ≡ map unsets (tags_beside c) =
    ap (λ ts. map unsets ts) (sym (tags_by_place c c' place)) in
    let a =
    sym (append_assoc (map unsets (tags_beside c)) (s ++ ends p ∷ []) x) ∙ rest
    ∙ append_assoc (map unsets (tags_beside c')) (s' ++ ends p ∷ []) y
    ∙ ap (λ l. l ++ ((s' ++ ends p ∷ []) ++ y)) unset in (
      place,
      sym (append_assoc s (ends p ∷ []) x) ∙ drop_front (map unsets (tags_beside c)) _ _ a
          ∙ append_assoc s' (ends p ∷ []) y,
    )
  where
    same_pick : (m n : ℕ) (k l : List Symbol) → picks m ∷ k ≡ picks n ∷ l → m ≡ n
    same_pick m n k l e = cc

    behind_pick : (m n : ℕ) (k l : List Symbol) → picks m ∷ k ≡ picks n ∷ l → k ≡ l
    behind_pick m n k l e = cc

-- a script begins with its part
first_symbol : (enc : Enc) {e : Term} (p : ℕ) (t : Tree e) → (rest : List Symbol) × (script enc p t ≡ begins p ∷ rest)
first_symbol enc p blank = (_, refl)
first_symbol enc p (point c i) = (_, refl)
first_symbol enc p (unit u) = (_, refl)
first_symbol enc p (row ts) = (_, refl)
first_symbol enc p (chosen c) = (_, refl)
first_symbol enc p (iterations n ts l m) = (_, refl)
first_symbol enc p event = (_, refl)
first_symbol enc p (inside t) = (_, refl)

-- stopping and iterating are told apart by the first symbol
stop_or_go :
    (may none_yet enough : Bool) (tags : List ℕ) (p q : ℕ) (x y : List Symbol)
    → ((if may then picks 1 ∷ [] else []) ++ (if none_yet then map unsets tags else [])) ++ ends p ∷ x
    ≡ (if enough then picks 0 ∷ [] else []) ++ begins q ∷ y
    → ⊥
stop_or_go true none_yet true tags p q x y e = cc
stop_or_go true none_yet false tags p q x y e = cc
stop_or_go false true true [] p q x y e = cc
stop_or_go false true true (t ∷ tags) p q x y e = cc
stop_or_go false true false [] p q x y e = cc
stop_or_go false true false (t ∷ tags) p q x y e = cc
stop_or_go false false true tags p q x y e = cc
stop_or_go false false false tags p q x y e = cc

module _ (enc : Enc) where
  mutual
    pub one_shape : {e : Term} → (p : ℕ) (t t' : Tree e) (x y : List Symbol) → script enc p t ++ x ≡ script enc p t' ++ y
        → (shape_of enc t ≡ shape_of enc t') × (x ≡ y)
    one_shape p blank blank x y h = (refl, cc)
    one_shape p (point {ranges} c i) (point c' i') x y h =
        let a =
        drop_choice enc ranges c c' _ _ (sym (append_assoc (leaf_choice enc ranges c) _ x) ∙ same_tail (begins p) _ _ h ∙ append_assoc (leaf_choice enc ranges c') _ y) in
        let b =
        sym (append_assoc (map reads (spell enc c)) (ends p ∷ []) x) ∙ a
        ∙ append_assoc (map reads (spell enc c')) (ends p ∷ []) y in
        let r = reads_match (spell enc c) (spell enc c') (ends p) (ends p) (2 * p + 1) (2 * p + 1) x y refl refl b in
        (ap (λ us. leaf (length us)) r.0, r.2)
    one_shape p (unit u) (unit u') x y h = (refl, cc)
    one_shape p (row ts) (row ts') x y h =
        let a =
        sym (append_assoc (row_script enc (p + 1) ts) (ends p ∷ []) x) ∙ same_tail (begins p) _ _ h
        ∙ append_assoc (row_script enc (p + 1) ts') (ends p ∷ []) y in
        let r = row_shape (p + 1) ts ts' (ends p ∷ x) (ends p ∷ y) a in
        (ap inner r.0, same_tail (ends p) x y r.1)
    one_shape p (chosen c) (chosen c') x y h =
        let a = chosen_rest p c c' (choice_script enc (p + 1) c) (choice_script enc (p + 1) c') x y h in
        let r = choice_shape (p + 1) c c' (ends p ∷ x) (ends p ∷ y) a.0 a.1 in
        (ap inner r.0, same_tail (ends p) x y r.1)
    one_shape p (iterations {body} {low} {high} n ts l m) (iterations n' ts' l' m') x y h =
        let a =
        sym (append_assoc (iterations_script enc p low high 0 ts) (ends p ∷ []) x) ∙ same_tail (begins p) _ _ h
        ∙ append_assoc (iterations_script enc p low high 0 ts') (ends p ∷ []) y in
        let r = iterations_shape p low high 0 ts ts' x y a in
        (ap inner r.0, r.1)
    one_shape p event event x y h = (refl, cc)
    one_shape p (inside {opening} {closing} t) (inside t') x y h =
        let a =
        sym (append_assoc (script enc (p + 1) t) (sets closing ∷ ends p ∷ []) x)
        ∙ same_tail (sets opening) _ _ (same_tail (begins p) _ _ h)
        ∙ append_assoc (script enc (p + 1) t') (sets closing ∷ ends p ∷ []) y in
        let r = one_shape (p + 1) t t' (sets closing ∷ ends p ∷ x) (sets closing ∷ ends p ∷ y) a in
        (ap (λ s. inner (more s none)) r.0, same_tail (ends p) x y (same_tail (sets closing) _ _ r.1))

    row_shape : {members : Terms} → (p : ℕ) (ts ts' : Row members) (x y : List Symbol)
        → row_script enc p ts ++ x ≡ row_script enc p ts' ++ y
        → (row_shapes enc ts ≡ row_shapes enc ts') × (x ≡ y)
    row_shape p row_end row_end x y h = (refl, h)
    row_shape p (beside {member} t ts) (beside t' ts') x y h =
        let a = sym (append_assoc (script enc p t) _ x) ∙ h ∙ append_assoc (script enc p t') _ y in
        let r =
        one_shape p t t' (row_script enc (p + parts member) ts ++ x) (row_script enc (p + parts member) ts' ++ y) a in
        let q = row_shape (p + parts member) ts ts' x y r.1 in
        (ap₂ (λ s ss. more s ss) r.0 q.0, q.1)

    choice_shape :
        {members : Terms} → (p : ℕ) (c c' : Choice members) (x y : List Symbol) → chosen_place c ≡ chosen_place c'
        → choice_script enc p c ++ x ≡ choice_script enc p c' ++ y → (choice_shapes enc c ≡ choice_shapes enc c') × (x ≡ y)
    choice_shape p (here t) (here t') x y e h = let r = one_shape p t t' x y h in (ap (λ s. more s none) r.0, r.1)
    choice_shape p (here t) (later c') x y e h = cc
    choice_shape p (later c) (here t') x y e h = cc
    choice_shape p (later {member} c) (later c') x y e h =
        let r = choice_shape (p + parts member) c c' x y (cc) h in (ap (λ ss. more absent ss) r.0, r.1)

    iterations_shape : {body : Term} {m m' : ℕ}
        → (p low : ℕ) (high : Option ℕ) (n : ℕ) (ts : Iterations body m) (ts' : Iterations body m') (x y : List Symbol)
        → iterations_script enc p low high n ts ++ ends p ∷ x ≡ iterations_script enc p low high n ts' ++ ends p ∷ y
        → (iteration_shapes enc ts ≡ iteration_shapes enc ts') × (x ≡ y)
    iterations_shape p low high n (stop {body}) stop x y h = (
      refl,
      same_tail
          (ends p) x y (drop_front (stop_choice n high ++ (if nat_eq n 0 then map unsets (tags_in body) else [])) _ _ h),
    )
    iterations_shape p low high n (stop {body}) (iteration t' ts') x y h =
        let f = first_symbol enc (copy_part p body low high n) t' in
        let rest = iterations_script enc p low high (suc n) ts' in
        let e =
        append_assoc (iterate_choice low n) _ _ ∙ ap (λ s. iterate_choice low n ++ ((s ++ rest) ++ ends p ∷ y)) f.1 in
        absurd (stop_or_go (may_iterate n high) (nat_eq n 0) (nat_le low n) (tags_in body) p (copy_part p body low high n) x _ (h ∙ e))
    iterations_shape p low high n (iteration {body} t ts) stop x y h =
        let f = first_symbol enc (copy_part p body low high n) t in
        let rest = iterations_script enc p low high (suc n) ts in
        let e =
        append_assoc (iterate_choice low n) _ _ ∙ ap (λ s. iterate_choice low n ++ ((s ++ rest) ++ ends p ∷ x)) f.1 in
        absurd (stop_or_go (may_iterate n high) (nat_eq n 0) (nat_le low n) (tags_in body) p (copy_part p body low high n) y _ (sym h ∙ e))
    iterations_shape p low high n (iteration {body} t ts) (iteration t' ts') x y h =
        let q = copy_part p body low high n in
        let a =
        drop_front
        (iterate_choice low n) _ _
        (sym (append_assoc (iterate_choice low n) _ _) ∙ h ∙ append_assoc (iterate_choice low n) _ _) in
        let b = sym (append_assoc (script enc q t) _ (ends p ∷ x)) ∙ a ∙ append_assoc (script enc q t') _ (ends p ∷ y) in
        let r =
        one_shape q t t'
        (iterations_script enc p low high (suc n) ts ++ ends p ∷ x)
        (iterations_script enc p low high (suc n) ts' ++ ends p ∷ y) b in
        let z = iterations_shape p low high (suc n) ts ts' x y r.1 in
        (ap₂ (λ s ss. more s ss) r.0 z.0, z.1)
