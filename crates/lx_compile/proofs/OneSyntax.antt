-- A body has one fault of syntax, if it has one, and none where it is read.
use Rattle.std.proofs.Common.{◌≡◌, ℕ, zero, suc, ◌<◌, ◌≤◌, List, [], ◌∷◌, ◌++◌, length, take, drop, refl, sym, ap, subst, inl, inr, ◌∙◌, arith, append_assoc, append-nil}
use Rattle.std.proofs.lemmas.Bool.{cases_lt}
use Rattle.std.proofs.lemmas.List.{drop_all, take_all}
use Rattle.std.proofs.Math.Nat.{le_antisymm}
use Rattle.lx_base.specs.declared.blocks.BlockKind.{BlockKind}
use Rattle.lx_base.specs.declared.faults.Fault.{Fault}
use Rattle.lx_base.specs.declared.faults.Fault.TheVariants.{Syntax}
use Rattle.lx_base.specs.declared.places.Pos.{Pos}
use Rattle.lx_parse.specs.Blocks.{BeginsBody, IsBody, IsRefused, IsSyntaxFault, form_of, place_of_next}
use Rattle.lx_parse.specs.Sorts.{sorts_of}
use Rattle.lx_parse.specs.declared.items.Item.{Item}
use Rattle.lx_parse.specs.declared.sorts.Sort.{Sort}
use Rattle.lx_token.specs.declared.list.Token.{Token}

-- what stands at a place of a list, and the front up to it
here : (sorts : List Sort) (count : ℕ) → count < length sorts
    → (sort : Sort) × (rest : List Sort) × (drop count sorts ≡ sort ∷ rest) × (take (suc count) sorts ≡ take count sorts ++ sort ∷ [])
here [] count before = absurd (omega arith)
here (sort ∷ sorts) zero before = (sort, sorts, refl, refl)
here (sort ∷ sorts) (suc count) before =
    let found = here sorts count (omega arith) in (found.0, found.1, found.2, ap (λ front. sort ∷ front) found.3)

-- a longer front goes on
longer : (sorts : List Sort) (count more : ℕ) → count ≤ more → (tail : List Sort) × (take more sorts ≡ take count sorts ++ tail)
longer [] zero more before = (take more [], refl)
longer (sort ∷ sorts) zero more before = (take more (sort ∷ sorts), refl)
longer [] (suc count) zero before = ([], refl)
longer [] (suc count) (suc more) before = ([], refl)
longer (sort ∷ sorts) (suc count) zero before = absurd (omega arith)
longer (sort ∷ sorts) (suc count) (suc more) before =
    let found = longer sorts count more (omega arith) in (found.0, ap (λ front. sort ∷ front) found.1)

begins-front : (kind : BlockKind) (front tail : List Sort) → BeginsBody (form_of kind) (front ++ tail) → BeginsBody (form_of kind) front
begins-front kind front tail begins =
    (tail ++ begins.0, begins.1, subst (λ sorts. IsBody (form_of kind) sorts begins.1) (append_assoc front tail begins.0) begins.2)

-- behind a token with which no body goes on none does
refused_before : (kind : BlockKind) (sorts : List Sort) (count more : ℕ) → IsRefused (form_of kind) (take count sorts) (drop count sorts)
    → BeginsBody (form_of kind) (take more sorts) → count < more → count < length sorts → ⊥
refused_before kind sorts count more refuses begins before within =
    let found = here sorts count within in
    let front = longer sorts (suc count) more (omega arith) in
    let stops = subst (IsRefused (form_of kind) (take count sorts)) found.2 refuses in
    stops (begins-front kind (take count sorts ++ found.0 ∷ []) front.0
    (subst (BeginsBody (form_of kind)) (front.1 ∙ ap (λ l. l ++ front.0) found.3) begins))

length-sorts_of : (kind : BlockKind) (body : List ℕ) (tokens : List Token) → length (sorts_of kind body tokens) ≡ length tokens
length-sorts_of kind body [] = refl
length-sorts_of kind body (token ∷ tokens) = ap suc (length-sorts_of kind body tokens)

module _ (kind : BlockKind) (body : List ℕ) (start : Pos) (tokens : List Token) where
  abbrev sorts : List Sort
  sorts = sorts_of kind body tokens

  -- the tokens of two fronts are the same, or all of them stand in both
  syntax-before : (fault other : Fault) (is : IsSyntaxFault kind body start tokens fault) (is_other : IsSyntaxFault kind body start tokens other)
      → is.count < is_other.count → fault ≡ other
  syntax-before fault other is is_other before = elim (cases_lt is.count (length sorts)) [
    | inl within ↦ absurd (refused_before kind sorts is.count is_other.count is.refused is_other.begins before within)
    | inr all ↦
        let length_is = length-sorts_of kind body tokens in
        let first : drop is.count tokens ≡ [] = drop_all is.count tokens (omega (arith, length_is, all)) in
        let second : drop is_other.count tokens ≡ [] = drop_all is_other.count tokens (omega (arith, length_is, all, before)) in
        is.fault_is ∙ ap (λ rest. Syntax (place_of_next start body rest)) (first ∙ sym second) ∙ sym is_other.fault_is
  ]

  -- a body has one fault of syntax, if it has one
  pub syntax-one : (fault other : Fault) → IsSyntaxFault kind body start tokens fault → IsSyntaxFault kind body start tokens other → fault ≡ other
  syntax-one fault other is is_other = elim (cases_lt is.count is_other.count) [
    | inl before ↦ syntax-before fault other is is_other before
    | inr behind ↦ elim (cases_lt is_other.count is.count) [
      | inl before ↦ sym (syntax-before other fault is_other is before)
      | inr ahead ↦
          let same : is.count ≡ is_other.count = le_antisymm ahead behind in
          is.fault_is ∙ ap (λ count. Syntax (place_of_next start body (drop count tokens))) same ∙ sym is_other.fault_is
    ]
  ]

  -- a body that is read has none
  pub read_or_not : (items : List Item) (fault : Fault) → IsBody (form_of kind) sorts items → IsSyntaxFault kind body start tokens fault → ⊥
  read_or_not items fault read is = elim (cases_lt is.count (length sorts)) [
    | inl within ↦
        refused_before kind sorts is.count (length sorts) is.refused
        ([], items, subst (λ l. IsBody (form_of kind) l items) (sym (append-nil (take (length sorts) sorts) ∙ take_all (length sorts) sorts (omega arith))) read) within within
    | inr all ↦
        subst (λ l. IsRefused (form_of kind) l []) (take_all is.count sorts all)
        (subst (IsRefused (form_of kind) (take is.count sorts)) (drop_all is.count sorts all) is.refused) items read
  ]
