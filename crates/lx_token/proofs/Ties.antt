-- No two kinds have tokens of one length at a place.
use Rattle.std.proofs.Common.{◌≡◌, ℕ, ◌<◌, ◌⊎◌, inl, inr, ⊎_elim, Bool, true, false, cond, List, [], ◌∷◌, ◌++◌, length, drop, codes, Option, Some, None, refl, sym, ◌∙◌, ap, subst, arith, ◌==◌, ◌||◌, if◌then◌else◌, is_some, option_and_then}
use Rattle.std.proofs.lemmas.Bool.{eqb-true}
use Rattle.std.proofs.lemmas.Bool.Decides.{nat_tests}
use Rattle.std.proofs.lemmas.Option.{same_Some, none-some}
use Rattle.lx_base.specs.Letters.{begins_identifier, is_in_identifier, is_digit, begins_with, after_letters}
use Rattle.lx_token.specs.declared.kinds.TokenKind.{TokenKind}
use Rattle.lx_token.specs.declared.kinds.TokenKind.TheVariants.{Name, Config, Number, Str, IStr, Class, STag, MTag, Bounds, Code, Signs}
use Rattle.lx_token.specs.Words.{begins_word, after_words, after_numeral, after_config, after_name}
use Rattle.lx_token.specs.Quoted.{after_close}
use Rattle.lx_token.specs.Braces.{after_first_bound, after_bounds, after_braces}
use Rattle.lx_token.specs.Signs.{is_sign}
use Rattle.lx_token.specs.Rows.{after_token}
use Rattle.lx_token.proofs.Ends.{after_words-length}

-- the kind that a first byte tells, up to names and configuration words, and bounds and actions
abbrev told : ℕ → TokenKind
told letter =
    if begins_identifier letter then Name else (if is_digit letter then Number else (if letter == 45 then Number else (if letter == 34 then Str
    else (if letter == 39 then IStr else (if letter == 91 then Class else (if letter == 64 then STag else (if letter == 35 then MTag
    else (if letter == 123 then Bounds else Signs))))))))

abbrev group : TokenKind → TokenKind
group Name = Name
group Config = Name
group Number = Number
group Str = Str
group IStr = IStr
group Class = Class
group STag = STag
group MTag = MTag
group Bounds = Bounds
group Code = Bounds
group Signs = Signs

pub tested : (b : Bool) (some : Option (List ℕ)) (rest : List ℕ) → cond b some None ≡ Some rest → b ≡ true
tested true some rest h = refl
tested false some rest h = absurd (cc)

pub both : (a b : Bool) → cond a b false ≡ true → a ≡ true
both true b h = refl
both false b h = absurd (cc)

or_elim : {P : Type 0} (a b : Bool) → (a ≡ true → P) → (b ≡ true → P) → (a || b) ≡ true → P
or_elim true b left right h = left refl
or_elim false b left right h = right h

told_at : (letter other : ℕ) (kind : TokenKind) → letter ≡ other → told other ≡ kind → told letter ≡ kind
told_at letter other kind same is = ap told same ∙ is

digit_told : (letter : ℕ) → is_digit letter ≡ true → told letter ≡ Number
digit_told letter digit =
    let no_name : begins_identifier letter ≡ false = grind (arith, nat_tests) in rw (no_name, digit)

sign_told : (letter : ℕ) → is_sign letter ≡ true → told letter ≡ Signs
sign_told letter =
    (or_elim ((letter == 61) || (letter == 59) || (letter == 124) || (letter == 92) || (letter == 47) || (letter == 40) || (letter == 41) || (letter == 42) || (letter == 43) || (letter == 63) || (letter == 46) || (letter == 36) || (letter == 60) || (letter == 62)) (letter == 44)
    (or_elim ((letter == 61) || (letter == 59) || (letter == 124) || (letter == 92) || (letter == 47) || (letter == 40) || (letter == 41) || (letter == 42) || (letter == 43) || (letter == 63) || (letter == 46) || (letter == 36) || (letter == 60)) (letter == 62)
    (or_elim ((letter == 61) || (letter == 59) || (letter == 124) || (letter == 92) || (letter == 47) || (letter == 40) || (letter == 41) || (letter == 42) || (letter == 43) || (letter == 63) || (letter == 46) || (letter == 36)) (letter == 60)
    (or_elim ((letter == 61) || (letter == 59) || (letter == 124) || (letter == 92) || (letter == 47) || (letter == 40) || (letter == 41) || (letter == 42) || (letter == 43) || (letter == 63) || (letter == 46)) (letter == 36)
    (or_elim ((letter == 61) || (letter == 59) || (letter == 124) || (letter == 92) || (letter == 47) || (letter == 40) || (letter == 41) || (letter == 42) || (letter == 43) || (letter == 63)) (letter == 46)
    (or_elim ((letter == 61) || (letter == 59) || (letter == 124) || (letter == 92) || (letter == 47) || (letter == 40) || (letter == 41) || (letter == 42) || (letter == 43)) (letter == 63)
    (or_elim ((letter == 61) || (letter == 59) || (letter == 124) || (letter == 92) || (letter == 47) || (letter == 40) || (letter == 41) || (letter == 42)) (letter == 43)
    (or_elim ((letter == 61) || (letter == 59) || (letter == 124) || (letter == 92) || (letter == 47) || (letter == 40) || (letter == 41)) (letter == 42)
    (or_elim ((letter == 61) || (letter == 59) || (letter == 124) || (letter == 92) || (letter == 47) || (letter == 40)) (letter == 41)
    (or_elim ((letter == 61) || (letter == 59) || (letter == 124) || (letter == 92) || (letter == 47)) (letter == 40)
    (or_elim ((letter == 61) || (letter == 59) || (letter == 124) || (letter == 92)) (letter == 47)
    (or_elim ((letter == 61) || (letter == 59) || (letter == 124)) (letter == 92)
    (or_elim ((letter == 61) || (letter == 59)) (letter == 124)
    (or_elim ((letter == 61)) (letter == 59)
    (λ is. at_sign 61 (eqb-true letter 61 is) refl)
    (λ is. at_sign 59 (eqb-true letter 59 is) refl))
    (λ is. at_sign 124 (eqb-true letter 124 is) refl))
    (λ is. at_sign 92 (eqb-true letter 92 is) refl))
    (λ is. at_sign 47 (eqb-true letter 47 is) refl))
    (λ is. at_sign 40 (eqb-true letter 40 is) refl))
    (λ is. at_sign 41 (eqb-true letter 41 is) refl))
    (λ is. at_sign 42 (eqb-true letter 42 is) refl))
    (λ is. at_sign 43 (eqb-true letter 43 is) refl))
    (λ is. at_sign 63 (eqb-true letter 63 is) refl))
    (λ is. at_sign 46 (eqb-true letter 46 is) refl))
    (λ is. at_sign 36 (eqb-true letter 36 is) refl))
    (λ is. at_sign 60 (eqb-true letter 60 is) refl))
    (λ is. at_sign 62 (eqb-true letter 62 is) refl))
    (λ is. at_sign 44 (eqb-true letter 44 is) refl))
  where
    at_sign : (other : ℕ) → letter ≡ other → told other ≡ Signs → told letter ≡ Signs
    at_sign other same is = told_at letter other Signs same is

number_told : (letter : ℕ) (text rest : List ℕ) → after_token Number (letter ∷ text) ≡ Some rest → told letter ≡ Number
number_told letter text rest h = at (letter == 45) refl h
  where
    at : (b : Bool) → (letter == 45) ≡ b → cond b (after_numeral text) (after_numeral (letter ∷ text)) ≡ Some rest → told letter ≡ Number
    at true is h = told_at letter 45 Number (eqb-true letter 45 is) refl
    at false is h = digit_told letter (tested (is_digit letter) (Some (after_letters is_digit text)) rest h)

signs_told : (letter : ℕ) (text rest : List ℕ) → after_token Signs (letter ∷ text) ≡ Some rest → told letter ≡ Signs
signs_told letter text rest h =
    at (begins_with (codes ":=>") (letter ∷ text)) (begins_with (codes "=>") (letter ∷ text)) (begins_with (codes "/*") (letter ∷ text)) refl refl h
  where
    at : (three two comment : Bool) → begins_with (codes ":=>") (letter ∷ text) ≡ three → begins_with (codes "=>") (letter ∷ text) ≡ two →
        cond three (Some (drop 3 (letter ∷ text))) (cond two (Some (drop 2 (letter ∷ text))) (cond comment None (cond (is_sign letter) (Some text) None))) ≡ Some rest →
        told letter ≡ Signs
    at true two comment is_three is_two h =
        told_at letter 58 Signs (sym (eqb-true 58 letter (both (58 == letter) (begins_with (codes "=>") text) is_three))) refl
    at false true comment is_three is_two h =
        told_at letter 61 Signs (sym (eqb-true 61 letter (both (61 == letter) (begins_with (codes ">") text) is_two))) refl
    at false false true is_three is_two h = absurd (cc)
    at false false false is_three is_two h = sign_told letter (tested (is_sign letter) (Some text) rest h)

told_group : (kind : TokenKind) (letter : ℕ) (text rest : List ℕ) → after_token kind (letter ∷ text) ≡ Some rest → told letter ≡ group kind
told_group Name letter text rest h =
    let begins = tested (begins_identifier letter) (Some (after_letters is_in_identifier text)) rest h in rw begins
told_group Config letter text rest h =
    let tail = drop 5 (letter ∷ text) in
    let begins = tested (begins_with (codes "re2c:") (letter ∷ text)) (cond (begins_word tail) (Some (after_words tail)) None) rest h in
    told_at letter 114 Name (sym (eqb-true 114 letter (both (114 == letter) (begins_with (codes "e2c:") text) begins))) refl
told_group Number letter text rest h = number_told letter text rest h
told_group Str letter text rest h =
    told_at letter 34 Str (eqb-true letter 34 (tested (letter == 34) (after_close 34 false text) rest h)) refl
told_group IStr letter text rest h =
    told_at letter 39 IStr (eqb-true letter 39 (tested (letter == 39) (after_close 39 false text) rest h)) refl
told_group Class letter text rest h =
    told_at letter 91 Class (eqb-true letter 91 (tested (letter == 91) (after_close 93 false text) rest h)) refl
told_group STag letter text rest h = told_at letter 64 STag (eqb-true letter 64 (tested (letter == 64) (after_name text) rest h)) refl
told_group MTag letter text rest h = told_at letter 35 MTag (eqb-true letter 35 (tested (letter == 35) (after_name text) rest h)) refl
told_group Bounds letter text rest h =
    told_at letter 123 Bounds (eqb-true letter 123 (tested (letter == 123) (option_and_then after_first_bound (after_numeral text)) rest h)) refl
told_group Code letter text rest h =
    let inner = cond (is_some (after_bounds (letter ∷ text))) None (after_braces (length text) 0 text) in
    told_at letter 123 Bounds (eqb-true letter 123 (tested (letter == 123) inner rest h)) refl
told_group Signs letter text rest h = signs_told letter text rest h

-- a text that begins with another one
pub begins-split : (front text : List ℕ) → begins_with front text ≡ true → text ≡ front ++ drop (length front) text
begins-split [] text h = refl
begins-split (letter ∷ front) [] h = absurd (cc)
begins-split (letter ∷ front) (other ∷ text) h =
    let first = both (letter == other) (begins_with front text) h in
    let more = begins-split front text (rw first at h) in
    ap (λ (n : ℕ). n ∷ text) (sym (eqb-true letter other first)) ∙ ap (λ (l : List ℕ). letter ∷ l) more

-- a configuration word is longer than the name at its place
config_is_longer : (text name config : List ℕ) → after_name text ≡ Some name → after_config text ≡ Some config → length config < length name
config_is_longer text name config is_name is_config =
    let tail = drop 5 text in
    let begins = tested (begins_with (codes "re2c:") text) (cond (begins_word tail) (Some (after_words tail)) None) config is_config in
    let words = rw begins at is_config in
    let begins' = tested (begins_word tail) (Some (after_words tail)) config words in
    let config_is = same_Some (after_words tail) config (rw begins' at words) in
    let split = begins-split (codes "re2c:") text begins in
    let name' : after_name (codes "re2c:" ++ tail) ≡ Some name = subst (λ l. after_name l ≡ Some name) split is_name in
    let name_is = same_Some (58 ∷ tail) name name' in
    let shorter = after_words-length tail in omega (arith, ap length config_is, ap length name_is)

-- no action begins where bounds do
no_code_at_bounds : (text bounds code : List ℕ) → after_token Bounds text ≡ Some bounds → after_token Code text ≡ Some code → ⊥
no_code_at_bounds [] bounds code is_bounds is_code = none-some code is_code
no_code_at_bounds (letter ∷ text) bounds code is_bounds is_code =
    let inner = after_braces (length text) 0 text in
    let begins = tested (letter == 123) (cond (is_some (after_bounds (letter ∷ text))) None inner) code is_code in
    let some : is_some (after_bounds (letter ∷ text)) ≡ true = ap is_some is_bounds in
    let some' = rw begins at some in
    none-some code (rw (begins, some') at is_code)

group_cases : (kind : TokenKind) → (group kind ≡ kind) ⊎ ((kind ≡ Config) ⊎ (kind ≡ Code))
group_cases Name = inl refl
group_cases Config = inr (inl refl)
group_cases Number = inl refl
group_cases Str = inl refl
group_cases IStr = inl refl
group_cases Class = inl refl
group_cases STag = inl refl
group_cases MTag = inl refl
group_cases Bounds = inl refl
group_cases Code = inr (inr refl)
group_cases Signs = inl refl

no_text : (kind : TokenKind) (rest : List ℕ) → after_token kind [] ≡ Some rest → ⊥
no_text Name rest h = none-some rest h
no_text Config rest h = none-some rest h
no_text Number rest h = none-some rest h
no_text Str rest h = none-some rest h
no_text IStr rest h = none-some rest h
no_text Class rest h = none-some rest h
no_text STag rest h = none-some rest h
no_text MTag rest h = none-some rest h
no_text Bounds rest h = none-some rest h
no_text Code rest h = none-some rest h
no_text Signs rest h = none-some rest h

same_group : (kind other : TokenKind) (text rest rest' : List ℕ) → after_token kind text ≡ Some rest → after_token other text ≡ Some rest' →
    group kind ≡ group other
same_group kind other [] rest rest' h h' = absurd (no_text kind rest h)
same_group kind other (letter ∷ text) rest rest' h h' =
    sym (told_group kind letter text rest h) ∙ told_group other letter text rest' h'

pub no_ties : (kind other : TokenKind) (text rest rest' : List ℕ) → after_token kind text ≡ Some rest → after_token other text ≡ Some rest' →
    length rest ≡ length rest' → kind ≡ other
no_ties kind other text rest rest' h h' tie =
    let same = same_group kind other text rest rest' h h' in
    ⊎_elim
    (λ self. ⊎_elim
    (λ self'. sym self ∙ same ∙ self')
    (λ pair. ⊎_elim
    (λ config.
    let name : kind ≡ Name = sym self ∙ same ∙ ap group config in
    let at_name = subst (λ k. after_token k text ≡ Some rest) name h in
    let at_config = subst (λ k. after_token k text ≡ Some rest') config h' in
    let less = config_is_longer text rest rest' at_name at_config in absurd (omega arith))
    (λ code.
    let bounds : kind ≡ Bounds = sym self ∙ same ∙ ap group code in
    absurd (no_code_at_bounds text rest rest' (subst (λ k. after_token k text ≡ Some rest) bounds h) (subst (λ k. after_token k text ≡ Some rest') code h')))
    pair)
    (group_cases other))
    (λ pair. ⊎_elim
    (λ config. ⊎_elim
    (λ self'.
    let name : other ≡ Name = sym self' ∙ sym same ∙ ap group config in
    let at_name = subst (λ k. after_token k text ≡ Some rest') name h' in
    let at_config = subst (λ k. after_token k text ≡ Some rest) config h in
    let less = config_is_longer text rest' rest at_name at_config in absurd (omega arith))
    (λ pair'. ⊎_elim (λ config'. config ∙ sym config') (λ code'. absurd (let clash : Name ≡ Bounds = ap group (sym config) ∙ same ∙ ap group code' in cc)) pair')
    (group_cases other))
    (λ code. ⊎_elim
    (λ self'.
    let bounds : other ≡ Bounds = sym self' ∙ sym same ∙ ap group code in
    absurd (no_code_at_bounds text rest' rest (subst (λ k. after_token k text ≡ Some rest') bounds h') (subst (λ k. after_token k text ≡ Some rest) code h)))
    (λ pair'. ⊎_elim (λ config'. absurd (let clash : Bounds ≡ Name = ap group (sym code) ∙ same ∙ ap group config' in cc)) (λ code'. code ∙ sym code') pair')
    (group_cases other))
    pair)
    (group_cases kind)
