-- Texts that are put part by part.
use Rattle.std.proofs.Common.{◌≡◌, ℕ, ◌<◌, ◌≤◌, ◌+◌, List, [], ◌∷◌, ◌++◌, Option, Result, Ok, Err, refl, ap, sym, subst, ◌∙◌, arith, length, drop, get_or, drop-cons, add-one, append_assoc, append-nil}
use Rattle.std.specs.Result.{IsErrAnd}
use Rattle.lx_files.specs.Taking.{GivesFront, RefusesPut, WantsMemory, given_then}
use Rattle.lx_files.specs.declared.sinks.PutAnswer.{PutAnswer}
use Rattle.lx_files.specs.declared.sinks.PutAnswer.TheVariants as refusal
use Rattle.lx_files.proofs.PutLemmas.{HasPut, given_then-given_then, given_then-nil}
use Rattle.lx_run.specs.Puts.{IsPut}

pub GivesFront-same : (given given' : Option (List ℕ)) (text : List ℕ) → given' ≡ given → GivesFront given given' text
GivesFront-same given given' text same = ([], (text, refl), same ∙ given_then-nil given)

-- a front of a part was given behind others
pub GivesFront-behind : (given given' given'' : Option (List ℕ)) (front part rest whole : List ℕ) → given' ≡ given_then given front → front ++ (part ++ rest) ≡ whole
    → GivesFront given' given'' part → GivesFront given given'' whole
GivesFront-behind given given' given'' front part rest whole gave is gives = (
  front ++ gives.0,
  (
    gives.1.0 ++ rest,
    append_assoc front gives.0 (gives.1.0 ++ rest)
        ∙ ap (λ (tail : List ℕ). front ++ tail) (sym (append_assoc gives.0 gives.1.0 rest) ∙ ap (λ (tail : List ℕ). tail ++ rest) gives.1.1) ∙ is,
  ),
  gives.2 ∙ ap (λ before. given_then before gives.0) gave ∙ given_then-given_then given front gives.0,
)

-- ---- part by part

-- the items from a place on: the one that stands there, and those behind
pub drop-next : {A : Type 0} (items : List A) (at : ℕ) (item : A) → at < length items → drop at items ≡ get_or items at item ∷ drop (at + 1) items
drop-next items at item below = rw (add-one, drop-cons items at item below) refl

pub HasPut-nothing : (given : Option (List ℕ)) (faults : ℕ) (text : List ℕ) → HasPut given given faults faults text text
HasPut-nothing given faults text = record { front = []; splits = refl; gave = given_then-nil given; calm = refl }

-- a part more was put
pub HasPut-part : {given given' given'' : Option (List ℕ)} {faults faults' faults'' : ℕ} {text : List ℕ} (rest part others : List ℕ) → rest ≡ part ++ others
    → HasPut given given' faults faults' text rest → given'' ≡ given_then given' part → faults'' ≡ faults' → HasPut given given'' faults faults'' text others
HasPut-part {given = given} rest part others is has gave calm = record {
  front = has.front ++ part;
  splits = append_assoc has.front part others ∙ ap (λ (tail : List ℕ). has.front ++ tail) (sym is) ∙ has.splits;
  gave = gave ∙ ap (λ before. given_then before part) has.gave ∙ given_then-given_then given has.front part;
  calm = calm ∙ has.calm;
}

-- so far a front of the text was given, and this is the rest of it; the count of wants has not fallen
pub record HasGiven (given given' : Option (List ℕ)) (faults faults' wants wants' : ℕ) (text rest : List ℕ) : Type 0 where
  pub front : List ℕ
  pub splits : front ++ rest ≡ text
  pub gave : given' ≡ given_then given front
  pub calm : faults' ≡ faults
  pub rises : wants ≤ wants'

pub HasGiven-nothing : (given : Option (List ℕ)) (faults wants : ℕ) (text : List ℕ) → HasGiven given given faults faults wants wants text text
HasGiven-nothing given faults wants text = record { front = []; splits = refl; gave = given_then-nil given; calm = refl; rises = omega arith }

-- a put that was refused for want of memory behind others, with which the count has not fallen
WantsMemory-behind : (wants wants' wants'' : ℕ) (error : PutAnswer) → wants ≤ wants' → WantsMemory wants' wants'' error → WantsMemory wants wants'' error
WantsMemory-behind wants wants' wants'' refusal.Failed rises lacks = tt
WantsMemory-behind wants wants' wants'' refusal.Memory rises lacks = λ stays. lacks (omega (arith, rises, stays))

module _ {given given' given'' : Option (List ℕ)} {faults faults' faults'' wants wants' wants'' : ℕ} {text : List ℕ} where
  -- a part more was put
  pub HasGiven-more : {A : Type 0} {value : A} (rest part others : List ℕ) → rest ≡ part ++ others → HasGiven given given' faults faults' wants wants' text rest
      → IsPut given' given'' faults' faults'' wants' wants'' part (Ok value) → HasGiven given given'' faults faults'' wants wants'' text others
  HasGiven-more rest part others is has put = record {
    front = has.front ++ part;
    splits = append_assoc has.front part others ∙ ap (λ (tail : List ℕ). has.front ++ tail) (sym is) ∙ has.splits;
    gave = put.gave ∙ ap (λ before. given_then before part) has.gave ∙ given_then-given_then given has.front part;
    calm = put.calm ∙ has.calm;
    rises = let before = has.rises in let behind = put.wants_never_fall in omega (arith, before, behind);
  }

  -- a part more was refused
  pub IsPut-refused : {A B : Type 0} {error : PutAnswer} (rest part others : List ℕ) (result : Result B PutAnswer) → rest ≡ part ++ others
      → HasGiven given given' faults faults' wants wants' text rest → IsPut {A = A} given' given'' faults' faults'' wants' wants'' part (Err error)
      → IsErrAnd result (λ answer. answer ≡ error) → IsPut given given'' faults faults'' wants wants'' text result
  IsPut-refused {error = error} rest part others (Err answer) is has put same = record {
    gave = tt;
    calm = tt;
    refuses = subst (λ reason. RefusesPut faults faults'' reason) (sym same) (subst (λ count. RefusesPut count faults'' error) has.calm put.refuses);
    lacks = subst (WantsMemory wants wants'') (sym same) (WantsMemory-behind wants wants' wants'' error has.rises put.lacks);
    front = GivesFront-behind given given' given'' has.front part others text has.gave (ap (λ (tail : List ℕ). has.front ++ tail) (sym is) ∙ has.splits) put.front;
    never_falls = let calm = has.calm in let rises = put.never_falls in omega (arith, calm, rises);
    wants_never_fall = let before = has.rises in let behind = put.wants_never_fall in omega (arith, before, behind);
  }
  IsPut-refused rest part others (Ok value) is has put same = absurd same

  -- the last part was put, or refused
  pub IsPut-last : {A : Type 0} (rest : List ℕ) (result : Result A PutAnswer) → HasGiven given given' faults faults' wants wants' text rest
      → IsPut given' given'' faults' faults'' wants' wants'' rest result → IsPut given given'' faults faults'' wants wants'' text result
  IsPut-last rest (Ok value) has put = record {
    gave = put.gave ∙ ap (λ before. given_then before rest) has.gave ∙ given_then-given_then given has.front rest ∙ ap (given_then given) has.splits;
    calm = put.calm ∙ has.calm;
    refuses = tt;
    lacks = tt;
    front = tt;
    never_falls = let before = has.calm in let after = put.calm in omega (arith, before, after);
    wants_never_fall = let before = has.rises in let behind = put.wants_never_fall in omega (arith, before, behind);
  }
  IsPut-last rest (Err error) has put = record {
    gave = tt;
    calm = tt;
    refuses = subst (λ count. RefusesPut count faults'' error) has.calm put.refuses;
    lacks = WantsMemory-behind wants wants' wants'' error has.rises put.lacks;
    front = GivesFront-behind given given' given'' has.front rest [] text has.gave (ap (λ (tail : List ℕ). has.front ++ tail) (append-nil rest) ∙ has.splits) put.front;
    never_falls = let calm = has.calm in let rises = put.never_falls in omega (arith, calm, rises);
    wants_never_fall = let before = has.rises in let behind = put.wants_never_fall in omega (arith, before, behind);
  }

-- ---- the first part

-- the first part was refused
pub IsPut-first_refused : {A B : Type 0} {error : PutAnswer} {given given' : Option (List ℕ)} {faults faults' wants wants' : ℕ} {part : List ℕ} (text others : List ℕ) (result : Result B PutAnswer)
    → text ≡ part ++ others → IsPut {A = A} given given' faults faults' wants wants' part (Err error) → IsErrAnd result (λ answer. answer ≡ error)
    → IsPut given given' faults faults' wants wants' text result
IsPut-first_refused {given = given} {faults = faults} {wants = wants} {part = part} text others result is put same =
    IsPut-refused text part others result is (HasGiven-nothing given faults wants text) put same

-- the first part was put
pub HasGiven-first : {A : Type 0} {value : A} {given given' : Option (List ℕ)} {faults faults' wants wants' : ℕ} {part : List ℕ} (text others : List ℕ)
    → text ≡ part ++ others → IsPut given given' faults faults' wants wants' part (Ok value) → HasGiven given given' faults faults' wants wants' text others
HasGiven-first {given = given} {faults = faults} {wants = wants} {part = part} text others is put =
    HasGiven-more text part others is (HasGiven-nothing given faults wants text) put
