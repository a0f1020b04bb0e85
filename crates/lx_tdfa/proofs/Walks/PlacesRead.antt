-- Where rules begin, and what one unit more or less changes in a leaf.
use Rattle.std.proofs.Common.{sym, ap, ap₂, ◌∙◌, subst, arith, append_assoc}
use Rattle.std.specs.Prelude.{◌≡◌, ℕ, zero, suc, ◌+◌, ◌*◌, List, [], ◌∷◌, ◌++◌, map, Some, slice_get, refl}
use Rattle.lx_base.specs.declared.settings.Enc.{Enc}
use Rattle.lx_regex.specs.Cut.{rule_part}
use Rattle.lx_regex.specs.Reading.{IsReading}
use Rattle.lx_regex.specs.Script.{Symbol, begins, ends, picks, reads, sets, units, unsets}
use Rattle.lx_regex.specs.Term.{Term, parts}
use Rattle.lx_regex.proofs.Walks.Readings.{code_quiet}
use Rattle.lx_tnfa.specs.LeafReadings.{IsLeft, IsNth}
use Rattle.lx_tdfa.specs.Graph.{rule_starts, starts_behind}

starts_are : (c : ℕ) (rules : List Term) (r q : ℕ) → IsNth (starts_behind c rules) r q
    → (e : Term) × (slice_get rules r ≡ Some e) × (q ≡ 2 * (c + rule_part rules r))
starts_are c [] r q h = absurd h
starts_are c (e ∷ rules) zero q h = (e, refl, sym h)
starts_are c (e ∷ rules) (suc r) q h =
    let i = starts_are (c + parts e) rules r q h in
    let z : 2 * ((c + parts e) + rule_part rules r) ≡ 2 * (c + (parts e + rule_part rules r)) = omega arith in
    (i.0, i.1, i.2 ∙ z)

pub start_is : (rules : List Term) (r q : ℕ) → IsNth (rule_starts rules) r q → (e : Term) × (slice_get rules r ≡ Some e) × (q ≡ 2 * rule_part rules r)
start_is rules r q h =
    let i = starts_are 0 rules r q h in
    let z : 2 * (0 + rule_part rules r) ≡ 2 * rule_part rules r = omega arith in
    (i.0, i.1, i.2 ∙ z)

starts_have : (c : ℕ) (rules : List Term) (r : ℕ) (e : Term) → slice_get rules r ≡ Some e
    → IsNth (starts_behind c rules) r (2 * (c + rule_part rules r))
starts_have c [] r e h = cc
starts_have c (x ∷ rules) zero e h = refl
starts_have c (x ∷ rules) (suc r) e h =
    let z : 2 * ((c + parts x) + rule_part rules r) ≡ 2 * (c + (parts x + rule_part rules r)) = omega arith in
    subst (λ k. IsNth (starts_behind (c + parts x) rules) r k) z (starts_have (c + parts x) rules r e h)

pub start_has : (rules : List Term) (r : ℕ) (e : Term) → slice_get rules r ≡ Some e → IsNth (rule_starts rules) r (2 * rule_part rules r)
start_has rules r e h =
    let z : 2 * (0 + rule_part rules r) ≡ 2 * rule_part rules r = omega arith in
    subst (λ k. IsNth (rule_starts rules) r k) z (starts_have 0 rules r e h)

module _ (enc : Enc) (rules : List Term) where
  split_reads : (T : List Symbol) (u : ℕ) (us : List ℕ) → T ++ reads u ∷ [] ≡ map reads us → (vs : List ℕ) × (us ≡ vs ++ u ∷ []) × (T ≡ map reads vs)
  split_reads [] u [] e = cc
  split_reads [] u (x ∷ []) e = let h : u ≡ x = cc in ([], ap (λ k. k ∷ []) (sym h), refl)
  split_reads [] u (x ∷ y ∷ us) e = cc
  split_reads (s ∷ T) u [] e = cc
  split_reads (s ∷ T) u (x ∷ us) e =
      let r = split_reads T u us (cc) in
      let h : s ≡ reads x = cc in
      (x ∷ r.0, ap (λ k. x ∷ k) r.1, ap₂ (λ a b. a ∷ b) h r.2)

  split_last : (T : List Symbol) (u : ℕ) (d : List Symbol) (us : List ℕ) → units d ≡ [] → T ++ reads u ∷ [] ≡ d ++ map reads us
      → (vs : List ℕ) × (us ≡ vs ++ u ∷ []) × (T ≡ d ++ map reads vs)
  split_last T u [] us q e = split_reads T u us e
  split_last [] u (x ∷ d) us q e = let h : x ≡ reads u = cc in let k : units (reads u ∷ d) ≡ [] = subst (λ s. units (s ∷ d) ≡ []) h q in cc
  split_last (s ∷ T) u (x ∷ d) us q e =
      let h : s ≡ x = cc in
      let r = split_last T u d us (rest x d q) (cc) in
      (r.0, r.1, ap₂ (λ a b. a ∷ b) h r.2)
    where
      rest : (x : Symbol) (d : List Symbol) → units (x ∷ d) ≡ [] → units d ≡ []
      rest (begins p) d q = q
      rest (ends p) d q = q
      rest (sets p) d q = q
      rest (unsets p) d q = q
      rest (picks p) d q = q
      rest (reads u) d q = cc

  -- the unit that was read last was among those that could finish the leaf before
  pub left_before : (f : ℕ) (T : List Symbol) (u : ℕ) (v : List ℕ) → IsLeft enc rules f (T ++ reads u ∷ []) v → IsLeft enc rules f T (u ∷ v)
  left_before f T u v r =
      let p = split_last T u r.choice r.read (code_quiet enc r.reading) r.is in
      record { row = r.row; choice = r.choice; read = p.0; at = r.at; is = p.2; reading = subst (λ k. IsReading enc r.row r.choice k) (ap (λ k. k ++ v) p.1 ∙ append_assoc p.0 (u ∷ []) v) r.reading }

  pub left_after : (f : ℕ) (T : List Symbol) (u : ℕ) (v : List ℕ) → IsLeft enc rules f T (u ∷ v) → IsLeft enc rules f (T ++ reads u ∷ []) v
  left_after f T u v r = record {
    row = r.row;
    choice = r.choice;
    read = r.read ++ u ∷ [];
    at = r.at;
    is = ap (λ k. k ++ reads u ∷ []) r.is ∙ append_assoc r.choice (map reads r.read) (reads u ∷ []) ∙ ap (λ k. r.choice ++ k) (sym (map_one r.read u));
    reading = subst (λ k. IsReading enc r.row r.choice k) (sym (append_assoc r.read (u ∷ []) v)) r.reading;
  }
    where
      map_one : (us : List ℕ) (u : ℕ) → map reads (us ++ u ∷ []) ≡ map reads us ++ reads u ∷ []
      map_one [] u = refl
      map_one (y ∷ us) u = ap (λ k. reads y ∷ k) (map_one us u)
