-- The number of two cuts is the lesser of the numbers between: numbers of neighbours suffice.
use Rattle.std.specs.Prelude.{◌≡◌, ℕ, suc, ◌<◌, ◌⊎◌, min, [], refl}
use Rattle.std.proofs.Common.{sym, ◌∙◌, subst, arith, inl, inr, ⊎_elim}
use Rattle.std.proofs.lemmas.Bool.{cases_lt}
use Rattle.lx_regex.specs.Posix.{Shape, Shapes, size}
use Rattle.lx_regex.proofs.PosixTrees.PosixShapes.{head, tail}
use Rattle.lx_regex.proofs.PosixTrees.PosixAhead.{Ahead, longer, under, behind, AheadAmong, now, on, rest_same}
use Rattle.lx_posix.proofs.Steps.OneMoreUnit.{ended_same, open_same, ended_head, open_both}
use Rattle.lx_posix.proofs.Steps.CommonWalk.{ahead_alike}

-- nothing is shared where one has ended
ended_number : {n : ℕ} {s s' : Shape} {k : ℕ} → Ahead n s s' k → (size s < n) ⊎ (size s' < n) → k ≡ 0
ended_number {n} {s} {s'} {k} a h = ⊎_elim
    (λ z. let o = open_both a z in let x = o.0.1 in let y = o.1.1 in absurd (⊎_elim (λ l. absurd (omega arith)) (λ l. absurd (omega arith)) h))
    (λ z. omega arith)
    (cases_lt 0 k)

as_zero : {n : ℕ} {s s' : Shape} {k m : ℕ} → Ahead n s s' k → k ≡ m → Ahead n s s' m
as_zero {n} {s} {s'} a e = subst (λ x. Ahead n s s' x) e a

mutual
  pub law_least : {n : ℕ} {s s' s'' : Shape} {x y : ℕ} → Ahead n s s' x → Ahead n s' s'' y → Ahead n s s'' (min x y)
  law_least (longer l) (longer l') = longer (omega arith)
  law_least (longer l) (under {k} e o b) = as_zero (longer (omega arith)) (let z : 0 ≡ min 0 (suc k) = omega arith in z)
  law_least (longer l) (behind {k} e h b) = as_zero (longer (omega arith)) (let z : 0 ≡ min 0 k = omega arith in z)
  law_least (under {k} e o a) (longer l') = as_zero (longer (omega arith)) (let z : 0 ≡ min (suc k) 0 = omega arith in z)
  law_least (behind {k} e h a) (longer l') = as_zero (longer (omega arith)) (let z : 0 ≡ min k 0 = omega arith in z)
  law_least (under {k} e o a) (under {k = k'} e' o' b) = as_zero (under (e ∙ e') o (least_among a b)) (let z : suc (min k k') ≡ min (suc k) (suc k') = omega arith in z)
  law_least (under {n} {s} {s'} e o a) (behind e' h' b) = let p = open_same n s s' e o in let q = p.1 in absurd (omega arith)
  law_least (behind {n} {s} {s'} e h a) (under e' o' b) = let z = ended_same n s s' e h in let q = o'.1 in absurd (omega arith)
  law_least (behind e h a) (behind e' h' b) = behind (e ∙ e') h (least_among a b)

  least_among : {n : ℕ} {ks ks' ks'' : Shapes} {x y : ℕ} → AheadAmong n ks ks' x → AheadAmong n ks' ks'' y → AheadAmong n ks ks'' (min x y)
  least_among (now a) (now b) = now (law_least a b)
  least_among (now {k} a) (on {n} {ks = ks'} {ks' = ks''} {k = k'} same b) =
      let z = ended_number a (inr (ended_head n (head ks') (tail ks') (tail ks'') b)) in
      now (as_zero (ahead_alike (λ q. refl) same a) (omega arith))
  least_among (on {n} {ks} {ks'} {k} same a) (now {k = k'} b) =
      let h = ended_head n (head ks) (tail ks) (tail ks') a in
      let w = ended_same n (head ks) (head ks') (same []) h in
      let z = ended_number b (inl (omega arith)) in
      now (as_zero (ahead_alike (λ q. sym (same q)) (λ q. refl) b) (omega arith))
  least_among (on {n} {ks} {ks'} {k} same a) (on {ks' = ks''} {k = k'} same' b) =
      let w = rest_same n (head ks) (head ks') (same []) in
      on (λ q. same q ∙ same' q) (least_among a (subst (λ m. AheadAmong m (tail ks') (tail ks'') k') (sym w) b))
