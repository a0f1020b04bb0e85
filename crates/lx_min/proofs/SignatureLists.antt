-- How the program tells signatures apart, and how lists of them grow.
use Rattle.std.proofs.Common.{◌≡◌, ◌⊎◌, inl, inr, ℕ, zero, suc, ◌+◌, ◌<◌, ◌≤◌, Bool, true, false, not, nat_eq, List, [], ◌∷◌, ◌++◌, length, get_or, Some, slice_get, refl, sym, ap, ◌∙◌, subst, arith, rules, if◌then◌else◌}
use Rattle.std.specs.Bool.{Decides}
use Rattle.std.specs.Cmp.Lexicographic.{pointwise, pointwise_decides}
use Rattle.std.specs.List.{IsDistinct, list_any}
use Rattle.std.specs.Prelude.{◌≢◌, AllPairs}
use Rattle.std.proofs.lemmas.Bool.{and_from, and_parts, cases_lt, cases_order, eq-eqb, eqb-true}
use Rattle.std.proofs.lemmas.Bool.Decides.{Decides-eqb}
use Rattle.std.proofs.lemmas.List.{get_or_append_left, get_or_default, get_or_push, length_push}
use Rattle.std.proofs.lemmas.Map.Keys.{apart_from_distinct}
use Rattle.std.proofs.lemmas.Map.Made.{IsDistinct-from_AllPairs}
use Rattle.std.proofs.lemmas.Map.Steps.{length-le_from_distinct_below}
use Rattle.std.proofs.lemmas.Map.Views.{Contains-from_any}
use Rattle.std.proofs.lemmas.Option.{get_or_from_slice_get, slice_get_within}
use Rattle.lx_min.specs.contracts.joined.StepPartialEq.TheImpl.{eq-value as eq-step}
use Rattle.lx_min.specs.contracts.signatures.SignaturePartialEq.TheImpl.{eq-value}
use Rattle.lx_min.specs.declared.joined.Step.{Step}
use Rattle.lx_min.specs.declared.looks.Look.{Look}
use Rattle.lx_min.specs.declared.signatures.Signature.{Signature}
use Rattle.lx_min.specs.Signatures.{AreChosen, AreDistinct, HasSign, seen_sign, sign_of}

-- ---- equality

same_step : (step other : Step) → eq-step.it step other ≡ true → step ≡ other
same_step step other e = search rules

step_same : (step other : Step) → step ≡ other → eq-step.it step other ≡ true
step_same step other e = search rules

Decides-steps : (steps others : List Step) → Decides (pointwise eq-step.it steps others) (steps ≡ others)
Decides-steps = pointwise_decides (λ step other. (same_step step other, step_same step other))

pub same-signature : (first second : Signature) → eq-value.it first second ≡ true → seen_sign first ≡ seen_sign second
same-signature first second e =
    let all = and_parts _ _ e in
    let rest = and_parts _ _ all.1 in
    let class = eqb-true first.class second.class all.0 in
    let accept = eqb-true first.accept second.accept rest.0 in
    let steps = (Decides-steps first.steps.items second.steps.items).0 rest.1 in
    λ i. record { class = class i; accept = accept i; steps = steps i }

pub signature-same : (first second : Signature) → seen_sign first ≡ seen_sign second → eq-value.it first second ≡ true
signature-same first second same =
    and_from _ _ (eq-eqb first.class second.class (λ i. (same i).class))
    (and_from _ _ (eq-eqb first.accept second.accept (λ i. (same i).accept))
    ((Decides-steps first.steps.items second.steps.items).1 (λ i. (same i).steps)))

-- ---- lists that grow

slice_get-front : {X : Type 0} (xs ys : List X) (place : ℕ) (x : X) → slice_get xs place ≡ Some x → slice_get (xs ++ ys) place ≡ Some x
slice_get-front [] ys place x is = absurd (cc is)
slice_get-front (first ∷ xs) ys zero x is = is
slice_get-front (first ∷ xs) ys (suc place) x is = slice_get-front xs ys place x is

slice_get-last : {X : Type 0} (xs : List X) (x : X) → slice_get (xs ++ x ∷ []) (length xs) ≡ Some x
slice_get-last [] x = refl
slice_get-last (first ∷ xs) x = slice_get-last xs x

pub AreDistinct-unique : (signatures : List Signature) → IsDistinct eq-value.it signatures → AreDistinct signatures
AreDistinct-unique signatures unique place other first second is also same = at (cases_order place other)
  where
    apart : (place other : ℕ) (first second : Signature) → slice_get signatures place ≡ Some first
        → slice_get signatures other ≡ Some second → seen_sign first ≡ seen_sign second → place < other → ⊥
    apart place other first second is also same less =
        let within = slice_get_within signatures other second also in
        let differ = apart_from_distinct eq-value.it signatures place other first unique less within in
        let here = get_or_from_slice_get signatures place first first is in
        let there = get_or_from_slice_get signatures other second first also in
        let both : true ≡ false =
        sym (signature-same first second same) ∙ sym (λ i. eq-value.it (here i) (there i)) ∙ differ in absurd cc

    at : (place ≡ other) ⊎ ((place < other) ⊎ (other < place)) → place ≡ other
    at (inl e) = e
    at (inr (inl less)) = absurd (apart place other first second is also same less)
    at (inr (inr less)) = absurd (apart other place second first also is (sym same) less)

-- what is put into a set comes last, or is there
module _ (old new : List Signature) (value : Signature) (is_new : Bool) (added : is_new ≡ not (list_any (eq-value.it value) old))
    (keys : new ≡ (if list_any (eq-value.it value) old then old else old ++ value ∷ [])) where
  pub inserted-new : is_new ≡ true → new ≡ old ++ value ∷ []
  inserted-new is_so = at (list_any (eq-value.it value) old) added keys
    where
      at : (b : Bool) → is_new ≡ not b → new ≡ (if b then old else old ++ value ∷ []) → new ≡ old ++ value ∷ []
      at true e is = absurd (cc (is_so, e))
      at false e is = is

  pub inserted-same : is_new ≡ false → new ≡ old
  inserted-same is_so = at (list_any (eq-value.it value) old) added keys
    where
      at : (b : Bool) → is_new ≡ not b → new ≡ (if b then old else old ++ value ∷ []) → new ≡ old
      at true e is = is
      at false e is = absurd (cc (is_so, e))

module _ (class : ℕ → ℕ) (looks : List Look) where
  pub HasSign-more : (signatures more : List Signature) (place state : ℕ) → HasSign class looks signatures place state
      → HasSign class looks (signatures ++ more) place state
  HasSign-more signatures more place state has = record {
    look = has.look;
    looks_so = has.looks_so;
    signature = has.signature;
    stands = slice_get-front signatures more place has.signature has.stands;
    same = has.same;
  }

  -- a signature that was put into a set
  pub HasSign-stored : (signatures : List Signature) (value : Signature) (look : Look) (place state : ℕ) → slice_get looks state ≡ Some look
      → seen_sign value ≡ sign_of class look state
      → (stored : Signature) × (slice_get signatures place ≡ Some stored) × (eq-value.it value stored ≡ true)
      → HasSign class looks signatures place state
  HasSign-stored signatures value look place state looks_so is (stored, stands, same) = record {
    look = look;
    looks_so = looks_so;
    signature = stored;
    stands = stands;
    same = sym (same-signature value stored same) ∙ is;
  }

  -- both signatures are those of states
  pub same-sign : (signatures others : List Signature) (place other state : ℕ) (has : HasSign class looks signatures place state)
      (also : HasSign class looks others other state) → seen_sign has.signature ≡ seen_sign also.signature
  same-sign signatures others place other state has also =
      let both : Some has.look ≡ Some also.look = sym has.looks_so ∙ also.looks_so in
      let looks_same : has.look ≡ also.look = cc in
      has.same ∙ ap (λ look. sign_of class look state) looks_same ∙ sym also.same

  -- one state stands at one place
  pub one-place : (signatures : List Signature) (place other state : ℕ) → AreDistinct signatures
      → HasSign class looks signatures place state → HasSign class looks signatures other state → place ≡ other
  one-place signatures place other state distinct has also =
      distinct place other has.signature also.signature has.stands also.stands (same-sign signatures signatures place other state has also)

  pub chosen-more : (old new : List Signature) (chosen : List ℕ) (value : Signature) (look : Look) (state : ℕ)
      → AreChosen class looks old chosen → IsDistinct eq-value.it new → new ≡ old ++ value ∷ [] → slice_get looks state ≡ Some look
      → seen_sign value ≡ sign_of class look state → AreChosen class looks new (chosen ++ state ∷ [])
  chosen-more old new chosen value look state are unique pushed looks_so is = record {
    distinct = AreDistinct-unique new unique;
    count = length_push chosen state ∙ ap (λ n. n + 1) are.count ∙ sym (length_push old value) ∙ ap length (sym pushed);
    signed = λ place lt. at place lt (cases_lt place (length chosen));
  }
    where
      last : HasSign class looks (old ++ value ∷ []) (length old) state
      last = record { look = look; looks_so = looks_so; signature = value; stands = slice_get-last old value; same = is }

      at : (place : ℕ) → place < length (chosen ++ state ∷ []) → (place < length chosen) ⊎ (length chosen ≤ place)
          → HasSign class looks new place (get_or (chosen ++ state ∷ []) place 0)
      at place lt (inl front) =
          subst (λ s. HasSign class looks new place s) (sym (get_or_append_left chosen (state ∷ []) 0 place front))
          (subst (λ l. HasSign class looks l place (get_or chosen place 0)) (sym pushed)
          (HasSign-more old (value ∷ []) place (get_or chosen place 0) (are.signed place front)))
      at place lt (inr past) =
          let ends : length chosen ≡ place = omega (arith, length_push chosen state) in
          let count : length old ≡ place = sym are.count ∙ ends in
          subst (λ s. HasSign class looks new place s) (sym (get_or_push chosen state 0 place ends))
          (subst (λ p. HasSign class looks new p state) count (subst (λ l. HasSign class looks l (length old) state) (sym pushed) last))

  chosen-within : (signatures : List Signature) (chosen : List ℕ) (place : ℕ) → AreChosen class looks signatures chosen
      → place < length chosen → get_or chosen place 0 < length looks
  chosen-within signatures chosen place are lt =
      let has = are.signed place lt in slice_get_within looks (get_or chosen place 0) has.look has.looks_so

  -- no state is chosen twice
  pub chosen-few : (signatures : List Signature) (chosen : List ℕ) → AreChosen class looks signatures chosen → length chosen ≤ length looks
  chosen-few signatures chosen are =
      length-le_from_distinct_below chosen (length looks) (IsDistinct-from_AllPairs Decides-eqb chosen apart) below
    where
      apart : AllPairs (λ state other. state ≢ other) chosen
      apart place other default less within same =
          let before : place < length chosen = omega arith in
          let states : get_or chosen place 0 ≡ get_or chosen other 0 =
          get_or_default chosen place 0 default before ∙ same ∙ sym (get_or_default chosen other 0 default within) in
          let one = one-place signatures place other (get_or chosen other 0) are.distinct
          (subst (λ s. HasSign class looks signatures place s) states (are.signed place before)) (are.signed other within) in
          absurd (omega (arith, one))

      below : (state : ℕ) → list_any (λ other. nat_eq state other) chosen ≡ true → state < length looks
      below state any =
          let has = Contains-from_any {eq = nat_eq} eqb-true state chosen any in
          let lt : has.0 < length chosen = has.1 in
          subst (λ s. s < length looks) (get_or_default chosen has.0 0 state lt ∙ has.2) (chosen-within signatures chosen has.0 are lt)
