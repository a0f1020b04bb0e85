-- Conditions by their numbers.
use Rattle.std.proofs.Common.{arith, ◌<◌, ◌≡◌, ◌∙◌, sym, ap, subst, refl, ℕ, ◌==◌, Bool, true, false, ◌||◌, List, [], ◌∷◌, ◌++◌, length, map, Option, slice_get}
use Rattle.std.specs.List.{list_any}
use Rattle.std.specs.Option.{option_map}
use Rattle.std.proofs.lemmas.Bool.{false≢true}
use Rattle.lx_base.specs.Letters.{equal_words}
use Rattle.lx_ccode.proofs.Words.{equal_words-self, equal_words-true}
use Rattle.lx_ccode.specs.declared.piece.CondCase.{CondCase}
use Rattle.lx_ccode.specs.declared.piece.Stmt.TheVariants.{Cond}
use Rattle.lx_ccode.specs.Machine.{condition, goes_on}
use Rattle.lx_ccode.specs.Runs.{cond_block, entry_block}
use Rattle.lx_step.specs.declared.scanner.Going.TheVariants.{Next}
use Rattle.lx_step.specs.declared.scanner.Scanner.{Scanner}
use Rattle.lx_step.specs.Conds.{IsCond, cond_name, cond_number}
use Rattle.lx_step.specs.Steps.{IsStep, machine_of}

-- a condition that is one of them has its name back by its number
pub cond_name-number : (conds : List CondCase) (cond : List ℕ) → list_any (equal_words cond) (map (λ case. case.cond) conds) ≡ true → cond_name conds (cond_number conds cond) ≡ cond
cond_name-number [] cond e = absurd (false≢true e)
cond_name-number (case ∷ cases) cond e = by (equal_words case.cond cond) refl (equal_words cond case.cond) refl e (cond_name-number cases cond) where
  by : (same : Bool) → equal_words case.cond cond ≡ same → (turned : Bool) → equal_words cond case.cond ≡ turned → (turned || list_any (equal_words cond) (map (λ case. case.cond) cases)) ≡ true
      → (list_any (equal_words cond) (map (λ case. case.cond) cases) ≡ true → cond_name cases (cond_number cases cond) ≡ cond)
      → cond_name (case ∷ cases) (cond_number (case ∷ cases) cond) ≡ cond
  by true same turned is h later = rw same (equal_words-true case.cond cond same)
  by false same true is h later =
      absurd (false≢true (sym same ∙ ap (λ word. equal_words word cond) (sym (equal_words-true cond case.cond is)) ∙ equal_words-self cond))
  by false same false is h later = rw same (later h)

cond_number-within : (conds : List CondCase) (cond : List ℕ) → list_any (equal_words cond) (map (λ case. case.cond) conds) ≡ true → cond_number conds cond < length conds
cond_number-within [] cond e = absurd (false≢true e)
cond_number-within (case ∷ cases) cond e = by (equal_words case.cond cond) refl (equal_words cond case.cond) refl e (cond_number-within cases cond) where
  by : (same : Bool) → equal_words case.cond cond ≡ same → (turned : Bool) → equal_words cond case.cond ≡ turned → (turned || list_any (equal_words cond) (map (λ case. case.cond) cases)) ≡ true
      → (list_any (equal_words cond) (map (λ case. case.cond) cases) ≡ true → cond_number cases cond < length cases)
      → cond_number (case ∷ cases) cond < length (case ∷ cases)
  by true same turned is h later = rw same (omega arith)
  by false same true is h later =
      absurd (false≢true (sym same ∙ ap (λ word. equal_words word cond) (sym (equal_words-true cond case.cond is)) ∙ equal_words-self cond))
  by false same false is h later = let below = later h in rw same (omega (arith, below))

-- its number is the one of its name
pub IsCond-number : (conds : List CondCase) (cond : List ℕ) → list_any (equal_words cond) (map (λ case. case.cond) conds) ≡ true → IsCond conds (cond_number conds cond)
IsCond-number conds cond e = record {
  within = let below : cond_number conds cond < length conds = cond_number-within conds cond e in omega (arith, below);
  first = ap (cond_number conds) (cond_name-number conds cond e);
}

pub IsCond-zero : (conds : List CondCase) → IsCond conds 0
IsCond-zero conds = record { within = omega arith; first = zero_is conds } where
  zero_is : (conds : List CondCase) → cond_number conds (cond_name conds 0) ≡ 0
  zero_is [] = refl
  zero_is (case ∷ cases) = rw (equal_words-self case.cond) refl

-- the block of a condition, by its number
cond_block-number : (conds : List CondCase) (cond : List ℕ) → cond_block conds cond ≡ option_map (λ case. case.block) (slice_get conds (cond_number conds cond))
cond_block-number [] cond = refl
cond_block-number (case ∷ cases) cond = by (equal_words case.cond cond) refl (cond_block-number cases cond) where
  by : (same : Bool) → equal_words case.cond cond ≡ same → cond_block cases cond ≡ option_map (λ case. case.block) (slice_get cases (cond_number cases cond))
      → cond_block (case ∷ cases) cond ≡ option_map (λ case. case.block) (slice_get (case ∷ cases) (cond_number (case ∷ cases) cond))
  by true same h = rw same refl
  by false same h = rw same h

pub entry_block-number : (conds : List CondCase) (number : ℕ) (found : Option CondCase) → (conds ≡ [] → ⊥) → IsCond conds number → slice_get conds number ≡ found
    → option_map (λ (case : CondCase). case.block) found ≡ entry_block conds (cond_name conds number)
entry_block-number [] number found some first is = absurd (some refl)
entry_block-number (case ∷ cases) number found some first is =
    sym (cond_block-number (case ∷ cases) (cond_name (case ∷ cases) number) ∙ ap (λ at. option_map (λ case. case.block) (slice_get (case ∷ cases) at)) first.first ∙ ap (option_map (λ (case : CondCase). case.block)) is)

-- the step of a statement that sets one of these conditions
pub IsStep-cond : (stream : List ℕ) (eof : Option ℕ) (table : List ℕ) (conds : List CondCase) (cond word : List ℕ) (number : ℕ) (old : Scanner) → list_any (equal_words cond) (map (λ case. case.cond) conds) ≡ true
    → number ≡ cond_number conds word → word ≡ cond → IsStep stream eof table conds (Cond cond) old (record old { cond = number }) Next
IsStep-cond stream eof table conds cond word number old known is same =
    let numbered : number ≡ cond_number conds cond = is ∙ ap (cond_number conds) same in
    let named : cond_name conds number ≡ cond = ap (cond_name conds) numbered ∙ cond_name-number conds cond known in
    record {
      step = λ piece rest values answers e t. ap (λ name. goes_on rest (record (machine_of conds old (values ++ condition cond ∷ [])) { cond = name }) answers) (sym named);
      leads = λ values. refl;
      tables = record { numbering = refl; registers = refl; histories = refl };
      limit = refl;
      state = refl;
      from = λ start from. record { cursor = from.cursor; marker = from.marker; registers = from.registers };
      cond = λ before. subst (IsCond conds) (sym numbered) (IsCond-number conds cond known);
    }

pub some_conds : (conds : List CondCase) → (length conds == 0) ≡ false → (conds ≡ [] → ⊥)
some_conds conds e none = false≢true (sym e ∙ ap (λ (conds : List CondCase). length conds == 0) none)
