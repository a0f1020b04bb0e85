-- Lists that loops make, one element after another.
use Rattle.std.proofs.Common.{◌≡◌, ◌∙◌, sym, ap, ap₂, refl, subst, ℕ, zero, suc, ◌+◌, ◌<◌, ◌≤◌, List, [], ◌∷◌, ◌++◌, length, map, take, drop, get_or, arith}
use Rattle.std.proofs.lemmas.List.{drop_more, take_more}
use Rattle.std.specs.List.{AllByRecursion}
use Rattle.lx_auto.specs.declared.automaton.Auto.{Auto}
use Rattle.lx_layout.specs.Endings.{Ending}
use Rattle.lx_layout.specs.PieceViews.{seen_source, seen_sources}
use Rattle.lx_layout.specs.Pieces.{Source}
use Rattle.lx_layout.specs.declared.pieces.ScannerInput.{ScannerInput}
use Rattle.lx_rules.specs.declared.resolved.Act.{Act}
use Rattle.lx_rules.specs.declared.resolved.Scanner.{Scanner}
use Rattle.lx_gen.specs.Generated.{Marks, AreAutomata, endings_by, sources_of}
use Rattle.lx_gen.specs.Seen.{HaveShortLines, source_with, sources_with}
use Rattle.lx_base.specs.declared.settings.Enc.{Enc}

-- a list and one element more
pub map-behind : {A C : Type 0} (f : A → C) (xs : List A) (x : A) → map f (xs ++ x ∷ []) ≡ map f xs ++ f x ∷ []
map-behind f [] x = refl
map-behind f (z ∷ xs) x = ap (λ l. f z ∷ l) (map-behind f xs x)

-- one element more of each
pub mapped-more : {A B C : Type 0} (f : A → C) (g : B → C) (xs all : List A) (x : A) (ys : List B) (k : ℕ) (y : B) → k < length ys → y ≡ get_or ys k y
    → map f xs ≡ map g (take k ys) → f x ≡ g y → all ≡ xs ++ x ∷ [] → map f all ≡ map g (take (k + 1) ys)
mapped-more {A} {B} {C} f g xs all x ys k y lt is before same more =
    ap (map f) more ∙ map-behind f xs x ∙ ap₂ (λ (l : List C) (c : C). l ++ c ∷ []) before (same ∙ ap g is)
    ∙ sym (map-behind g (take k ys) (get_or ys k y)) ∙ ap (map g) (sym (take_more ys k y lt))

-- what holds of each, and of one more
pub each-more : {A : Type 0} (P : A → Type 0) (xs all : List A) (x : A) → AllByRecursion P xs → P x → all ≡ xs ++ x ∷ [] → AllByRecursion P all
each-more {A} P xs all x each one more = subst (AllByRecursion P) (sym more) (behind xs each)
  where
    behind : (xs : List A) → AllByRecursion P xs → AllByRecursion P (xs ++ x ∷ [])
    behind [] each = (one, tt)
    behind (z ∷ xs) each = (each.0, behind xs each.1)

-- one source more
sources-behind : (inputs : List ScannerInput) (input : ScannerInput) (source : Source) (rest : List Source) → seen_source input ≡ source
    → seen_sources (inputs ++ input ∷ []) ++ rest ≡ seen_sources inputs ++ source ∷ rest
sources-behind [] input source rest is = ap (λ one. one ∷ rest) is
sources-behind (first ∷ inputs) input source rest is = ap (λ l. seen_source first ∷ l) (sources-behind inputs input source rest is)

front : {A : Type 0} (xs : List A) (k : ℕ) (x : A) → k < length xs → x ≡ get_or xs k x → drop k xs ≡ x ∷ drop (k + 1) xs
front xs k x lt is = drop_more xs k x lt ∙ ap (λ y. y ∷ drop (k + 1) xs) (sym is)

pub sources_with-more : {E : Type 0} (f : E → ℕ → Ending) (inputs all : List ScannerInput) (input : ScannerInput)
    (ends : List E) (scanners : List Scanner) (autos : List Auto) (checks : List (List ℕ)) (k : ℕ) (one : E) (scanner : Scanner) (auto : Auto) (list : List ℕ)
    → k < length ends → k < length scanners → k < length autos → k < length checks
    → one ≡ get_or ends k one → scanner ≡ get_or scanners k scanner → auto ≡ get_or autos k auto → list ≡ get_or checks k list
    → seen_source input ≡ source_with (f one) scanner auto list → all ≡ inputs ++ input ∷ []
    → seen_sources all ++ sources_with (map f (drop (k + 1) ends)) (drop (k + 1) scanners) (drop (k + 1) autos) (drop (k + 1) checks)
    ≡ seen_sources inputs ++ sources_with (map f (drop k ends)) (drop k scanners) (drop k autos) (drop k checks)
sources_with-more f inputs all input ends scanners autos checks k one scanner auto list lt₁ lt₂ lt₃ lt₄ is₁ is₂ is₃ is₄ same more =
    let rest = sources_with (map f (drop (k + 1) ends)) (drop (k + 1) scanners) (drop (k + 1) autos) (drop (k + 1) checks) in
    ap (λ l. seen_sources l ++ rest) more
    ∙ sources-behind inputs input (source_with (f one) scanner auto list) rest same
    ∙ ap (λ l. seen_sources inputs ++ sources_with (map f l) (scanner ∷ drop (k + 1) scanners) (auto ∷ drop (k + 1) autos) (list ∷ drop (k + 1) checks)) (sym (front ends k one lt₁ is₁))
    ∙ ap (λ l. seen_sources inputs ++ sources_with (map f (drop k ends)) l (auto ∷ drop (k + 1) autos) (list ∷ drop (k + 1) checks)) (sym (front scanners k scanner lt₂ is₂))
    ∙ ap (λ l. seen_sources inputs ++ sources_with (map f (drop k ends)) (drop k scanners) l (list ∷ drop (k + 1) checks)) (sym (front autos k auto lt₃ is₃))
    ∙ ap (λ l. seen_sources inputs ++ sources_with (map f (drop k ends)) (drop k scanners) (drop k autos) l) (sym (front checks k list lt₄ is₄))

-- where all are taken
pub sources_with-none : (scanners : List Scanner) (autos : List Auto) (checks : List (List ℕ)) (endings : List (ℕ → Ending)) → endings ≡ []
    → sources_with endings scanners autos checks ≡ []
sources_with-none scanners autos checks endings none = ap (λ l. sources_with l scanners autos checks) none

pub drop_all : {A : Type 0} (xs : List A) (k : ℕ) → length xs ≤ k → drop k xs ≡ []
drop_all [] zero h = refl
drop_all [] (suc k) h = refl
drop_all (x ∷ xs) zero h = absurd (omega (arith, h))
drop_all (x ∷ xs) (suc k) h = drop_all xs k (omega (arith, h))

-- each list is as long as that of the scanners
pub autos-length : (enc : Enc) (scanners : List Scanner) (autos : List Auto) (checks : List (List ℕ)) → AreAutomata enc scanners autos checks
    → (length autos ≡ length scanners) × (length checks ≡ length scanners)
autos-length enc [] [] [] are = (refl, refl)
autos-length enc [] [] (list ∷ checks) are = absurd are
autos-length enc [] (auto ∷ autos) checks are = absurd are
autos-length enc (scanner ∷ scanners) (auto ∷ autos) (list ∷ checks) are =
    let again = autos-length enc scanners autos checks are.2 in (ap suc again.0, ap suc again.1)
autos-length enc (scanner ∷ scanners) (auto ∷ autos) [] are = absurd are
autos-length enc (scanner ∷ scanners) [] (list ∷ checks) are = absurd are
autos-length enc (scanner ∷ scanners) [] [] are = absurd are

-- with the ends that a block tells the sources are those of the block
pub sources_with-told : (enc : Enc) (marks : Marks) (acts : List Act) (scanners : List Scanner) (autos : List Auto) (checks : List (List ℕ))
    → AreAutomata enc scanners autos checks
    → sources_with (map (λ (scanner : Scanner). endings_by marks acts scanner.set.rules) scanners) scanners autos checks
    ≡ sources_of marks acts scanners autos checks
sources_with-told enc marks acts [] autos checks are = refl
sources_with-told enc marks acts (scanner ∷ scanners) (auto ∷ autos) (list ∷ checks) are =
    ap (λ l. source_with (endings_by marks acts scanner.set.rules) scanner auto list ∷ l)
    (sources_with-told enc marks acts scanners autos checks are.2)
sources_with-told enc marks acts (scanner ∷ scanners) (auto ∷ autos) [] are = absurd are
sources_with-told enc marks acts (scanner ∷ scanners) [] (list ∷ checks) are = absurd are
sources_with-told enc marks acts (scanner ∷ scanners) [] [] are = absurd are

-- ---- what the sources of a piece are

module _ {E : Type 0} (f : E → ℕ → Ending) (marks told : Marks) (acts : List Act) (scanners : List Scanner) (ends : List E) (same : told ≡ marks)
    (endings : map f ends ≡ map (λ (scanner : Scanner). endings_by told acts scanner.set.rules) scanners) where
  each_told : map f ends ≡ map (λ (scanner : Scanner). endings_by marks acts scanner.set.rules) scanners
  each_told = endings ∙ ap (λ (one : Marks). map (λ (scanner : Scanner). endings_by one acts scanner.set.rules) scanners) same

  pub lines_told : AllByRecursion HaveShortLines (map f ends)
      → AllByRecursion HaveShortLines (map (λ (scanner : Scanner). endings_by marks acts scanner.set.rules) scanners)
  lines_told lines = subst (AllByRecursion HaveShortLines) each_told lines

  pub sources_told : (enc : Enc) (autos : List Auto) (checks : List (List ℕ)) (slice : List Scanner) (lent : List E) (inputs given : List ScannerInput)
      → AreAutomata enc scanners autos checks → slice ≡ scanners → lent ≡ ends → given ≡ inputs
      → seen_sources inputs ≡ sources_with (map f lent) slice autos checks → seen_sources given ≡ sources_of marks acts scanners autos checks
  sources_told enc autos checks slice lent inputs given are scanners_are ends_are given_are seen =
      ap seen_sources given_are ∙ seen ∙ ap₂ (λ l (list : List Scanner). sources_with (map f l) list autos checks) ends_are scanners_are
      ∙ ap (λ l. sources_with l scanners autos checks) each_told ∙ sources_with-told enc marks acts scanners autos checks are
