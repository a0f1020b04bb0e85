-- The registers that have a name, noted one by one.
use Rattle.std.proofs.Common.{◌≡◌, ◌⊎◌, inl, inr, ℕ, ◌+◌, ◌<◌, ◌≤◌, List, [], ◌∷◌, ◌++◌, length, get_or, set, sym, ap, ◌∙◌, subst, arith}
use Rattle.std.specs.Prelude.{◌≢◌, Contains, replicate}
use Rattle.std.proofs.lemmas.Bool.{cases_eq, cases_lt}
use Rattle.std.proofs.Math.Seq.{get_or-append_seam}
use Rattle.std.proofs.lemmas.List.{get_or-set_other, get_or-set_same, get_or_append_left, length-append, length-replicate, length-set}
use Rattle.std.proofs.lemmas.List.Elements.{Contains-append_left, Contains-push}
use Rattle.lx_regs.specs.declared.name_tables.NameTable.{NameTable}
use Rattle.lx_regs.specs.ListRenamings.{AreFixedNames, AreMembers, IsFixedName, IsNoted, members_at}

pub members-none : (count : ℕ) (names : List ℕ) (members : List (List ℕ)) → members ≡ replicate count [] → AreMembers 0 count names members
members-none count names members is = record {
  fit = ap length is ∙ length-replicate count [];
  complete = λ reg within named. absurd (omega (arith, within));
}

module _ (bound count : ℕ) (names : List ℕ) (members : List (List ℕ)) (are : AreMembers bound count names members) where
  abbrev name_of : ℕ → ℕ
  name_of reg = get_or names reg reg

  -- the next register has no name below the count
  pub members-past : count ≤ name_of bound → AreMembers (bound + 1) count names members
  members-past past = record {
    fit = are.fit;
    complete = λ reg within named. at reg within named (cases_eq reg bound);
  }
    where
      at : (reg : ℕ) → reg < bound + 1 → name_of reg < count → (reg ≡ bound) ⊎ (reg ≢ bound)
          → Contains (members_at members (name_of reg)) reg
      at reg within named (inl same) =
          absurd (let equal : name_of reg ≡ name_of bound = ap name_of same in omega (arith, named, past, equal))
      at reg within named (inr apart) = are.complete reg (omega (arith, within, apart)) named

  -- it is put behind those of its name
  module _ (new : List (List ℕ)) (small : name_of bound < count)
      (put : new ≡ set members (name_of bound) (members_at members (name_of bound) ++ bound ∷ [])) where
    here : members_at new (name_of bound) ≡ members_at members (name_of bound) ++ bound ∷ []
    here = ap (λ l. members_at l (name_of bound)) put
        ∙ get_or-set_same members (name_of bound) (members_at members (name_of bound) ++ bound ∷ []) []
        (let fit = are.fit in omega (arith, fit, small))

    elsewhere : (name : ℕ) → name ≢ name_of bound → members_at new name ≡ members_at members name
    elsewhere name apart = ap (λ l. members_at l name) put
        ∙ get_or-set_other members (name_of bound) name (members_at members (name_of bound) ++ bound ∷ []) [] apart

    wider : (reg name : ℕ) → Contains (members_at members name) reg → (name ≡ name_of bound) ⊎ (name ≢ name_of bound)
        → Contains (members_at new name) reg
    wider reg name has (inl same) =
        subst (λ n. Contains (members_at new n) reg) (sym same)
        (subst (λ l. Contains l reg) (sym here)
        (Contains-append_left (members_at members (name_of bound)) (bound ∷ []) reg (subst (λ n. Contains (members_at members n) reg) same has)))
    wider reg name has (inr apart) = subst (λ l. Contains l reg) (sym (elsewhere name apart)) has

    last : Contains (members_at new (name_of bound)) bound
    last = subst (λ l. Contains l bound) (sym here) (Contains-push (members_at members (name_of bound)) bound)

    pub members-more : AreMembers (bound + 1) count names new
    members-more = record {
      fit = ap length put ∙ length-set members (name_of bound) (members_at members (name_of bound) ++ bound ∷ []) ∙ are.fit;
      complete = λ reg within named. at reg within named (cases_eq reg bound);
    }
      where
        at : (reg : ℕ) → reg < bound + 1 → name_of reg < count → (reg ≡ bound) ⊎ (reg ≢ bound) → Contains (members_at new (name_of reg)) reg
        at reg within named (inl same) =
            subst (λ r. Contains (members_at new (name_of r)) r) (sym same) last
        at reg within named (inr apart) =
            wider reg (name_of reg) (are.complete reg (omega (arith, within, apart)) named) (cases_eq (name_of reg) (name_of bound))

-- either way
pub members-noted : (bound count : ℕ) (names : List ℕ) (members new : List (List ℕ)) (name : ℕ) → AreMembers bound count names members
    → name ≡ get_or names bound bound → IsNoted members new name bound → AreMembers (bound + 1) count names new
members-noted bound count names members new name are is noted = at (cases_lt name count)
  where
    at : (name < count) ⊎ (count ≤ name) → AreMembers (bound + 1) count names new
    at (inl small) =
        let within : name < length members = (let fit = are.fit in omega (arith, fit, small)) in
        members-more bound count names members are new (subst (λ n. n < count) is small)
        (noted.0 within ∙ ap (λ n. set members n (members_at members n ++ bound ∷ [])) is)
    at (inr past) =
        let beyond : length members ≤ name = (let fit = are.fit in omega (arith, fit, past)) in
        subst (AreMembers (bound + 1) count names) (sym (noted.1 beyond)) (members-past bound count names members are (subst (λ n. count ≤ n) is past))

-- ---- names, one by one

module _ (table : NameTable) (count bound : ℕ) (names : List ℕ) (name : ℕ) (are : AreFixedNames table count bound names)
    (is : IsFixedName table count bound name) where
  pub fixed-more : AreFixedNames table count (bound + 1) (names ++ name ∷ [])
  fixed-more = record {
    fit = length-append names (name ∷ []) ∙ ap (λ n. n + 1) are.fit;
    each = λ reg within. at reg within (cases_eq reg bound);
  }
    where
      at : (reg : ℕ) → reg < bound + 1 → (reg ≡ bound) ⊎ (reg ≢ bound)
          → IsFixedName table count reg (get_or (names ++ name ∷ []) reg reg)
      at reg within (inl same) =
          let last : get_or (names ++ name ∷ []) bound bound ≡ name =
          ap (λ n. get_or (names ++ name ∷ []) n bound) (sym are.fit) ∙ get_or-append_seam names name [] bound in
          subst (λ r. IsFixedName table count r (get_or (names ++ name ∷ []) r r)) (sym same)
          (subst (IsFixedName table count bound) (sym last) is)
      at reg within (inr apart) =
          let earlier : reg < bound = omega (arith, within, apart) in
          subst (IsFixedName table count reg)
          (sym (get_or_append_left names (name ∷ []) reg reg (let fit = are.fit in omega (arith, fit, earlier)))) (are.each reg earlier)
