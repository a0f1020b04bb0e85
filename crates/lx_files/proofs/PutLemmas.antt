-- Puts of a text in several parts.
use Rattle.std.proofs.Common.{◌≡◌, ℕ, List, [], ◌++◌, take, drop, Option, Some, None, refl, ap, sym, ◌∙◌, append_assoc}
use Rattle.std.proofs.lemmas.List.{append-nil, take-append-drop}
use Rattle.lx_files.specs.Taking.{given_then}

-- so far a front of the text was given, and this is the rest of it
pub record HasPut (given given' : Option (List ℕ)) (faults faults' : ℕ) (text rest : List ℕ) : Type 0 where
  pub front : List ℕ
  pub splits : front ++ rest ≡ text
  pub gave : given' ≡ given_then given front
  pub calm : faults' ≡ faults

pub given_then-given_then : (given : Option (List ℕ)) (front back : List ℕ) → given_then (given_then given front) back ≡ given_then given (front ++ back)
given_then-given_then None front back = refl
given_then-given_then (Some given) front back = ap Some (append_assoc given front back)

pub given_then-nil : (given : Option (List ℕ)) → given ≡ given_then given []
given_then-nil None = refl
given_then-nil (Some given) = ap Some (sym (append-nil given))

-- a further front of the rest was given
pub HasPut-step : {given given' given'' : Option (List ℕ)} {faults faults' faults'' : ℕ} {text rest : List ℕ} (count : ℕ) →
    HasPut given given' faults faults' text rest → given'' ≡ given_then given' (take count rest) → faults'' ≡ faults' →
    HasPut given given'' faults faults'' text (drop count rest)
HasPut-step {given} {given'} {given''} {faults} {faults'} {faults''} {text} {rest} count put gave calm = record {
  front = put.front ++ take count rest;
  splits = append_assoc put.front (take count rest) (drop count rest) ∙ ap (λ (back : List ℕ). put.front ++ back) (take-append-drop count rest) ∙ put.splits;
  gave = gave ∙ ap (λ (before : Option (List ℕ)). given_then before (take count rest)) put.gave ∙ given_then-given_then given put.front (take count rest);
  calm = calm ∙ put.calm;
}
