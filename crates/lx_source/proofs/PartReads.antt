-- The units of a script, each with the part in which it stands.
use Rattle.std.specs.Prelude.{◌≡◌, ℕ, ◌⊎◌, List, [], ◌∷◌, ◌++◌, refl}
use Rattle.std.proofs.Common.{sym, ap, ◌∙◌, inl, inr}
use Rattle.lx_regex.specs.Cut.{EndsInUnit, last_part}
use Rattle.lx_regex.specs.Script.{Symbol, begins, ends, picks, reads, sets, units, unsets}

-- behind the beginning of a part: each unit, behind the part that began last before it
abbrev pub part_reads : (part : ℕ) → List Symbol → List (ℕ × ℕ)
part_reads part [] = []
part_reads part (begins other ∷ rest) = part_reads other rest
part_reads part (ends other ∷ rest) = part_reads part rest
part_reads part (reads number ∷ rest) = (part, number) ∷ part_reads part rest
part_reads part (sets number ∷ rest) = part_reads part rest
part_reads part (unsets number ∷ rest) = part_reads part rest
part_reads part (picks choice ∷ rest) = part_reads part rest

-- the units alone
abbrev pub spelled : List (ℕ × ℕ) → List ℕ
spelled [] = []
spelled (read ∷ others) = read.1 ∷ spelled others

-- the part of the last unit
abbrev pub part_behind : (part : ℕ) → List (ℕ × ℕ) → ℕ
part_behind part [] = part
part_behind part (read ∷ others) = part_behind read.0 others

pub part_reads_append : (part : ℕ) (front back : List Symbol)
    → part_reads part (front ++ back) ≡ part_reads part front ++ part_reads (last_part part front) back
part_reads_append part [] back = refl
part_reads_append part (begins other ∷ front) back = part_reads_append other front back
part_reads_append part (ends other ∷ front) back = part_reads_append part front back
part_reads_append part (reads number ∷ front) back = ap (λ l. (part, number) ∷ l) (part_reads_append part front back)
part_reads_append part (sets number ∷ front) back = part_reads_append part front back
part_reads_append part (unsets number ∷ front) back = part_reads_append part front back
part_reads_append part (picks choice ∷ front) back = part_reads_append part front back

pub spelled_append : (front back : List (ℕ × ℕ)) → spelled (front ++ back) ≡ spelled front ++ spelled back
spelled_append [] back = refl
spelled_append (read ∷ front) back = ap (λ l. read.1 ∷ l) (spelled_append front back)

pub units_spelled : (part : ℕ) (script : List Symbol) → units script ≡ spelled (part_reads part script)
units_spelled part [] = refl
units_spelled part (begins other ∷ rest) = units_spelled other rest
units_spelled part (ends other ∷ rest) = units_spelled part rest
units_spelled part (reads number ∷ rest) = ap (λ l. number ∷ l) (units_spelled part rest)
units_spelled part (sets number ∷ rest) = units_spelled part rest
units_spelled part (unsets number ∷ rest) = units_spelled part rest
units_spelled part (picks choice ∷ rest) = units_spelled part rest

pub behind_append : (part other : ℕ) (front : List (ℕ × ℕ)) (read : ℕ × ℕ) (more : List (ℕ × ℕ))
    → part_behind part (front ++ read ∷ more) ≡ part_behind other (read ∷ more)
behind_append part other [] read more = refl
behind_append part other (next ∷ front) read more = behind_append next.0 other front read more

last_unit : (part : ℕ) (front : List Symbol) (number : ℕ) → last_part part (front ++ reads number ∷ []) ≡ last_part part front
last_unit part [] number = refl
last_unit part (begins other ∷ front) number = last_unit other front number
last_unit part (ends other ∷ front) number = last_unit part front number
last_unit part (reads other ∷ front) number = last_unit part front number
last_unit part (sets other ∷ front) number = last_unit part front number
last_unit part (unsets other ∷ front) number = last_unit part front number
last_unit part (picks choice ∷ front) number = last_unit part front number

-- a front that ends in a unit stands in the part of its last unit
pub last_behind : (part : ℕ) (front : List Symbol) → EndsInUnit front → last_part part front ≡ part_behind 0 (part_reads part front)
last_behind part front is =
    ap (last_part part) is.2 ∙ last_unit part is.0 is.1
    ∙ sym
    (ap (λ l. part_behind 0 (part_reads part l)) is.2
    ∙ ap (part_behind 0) (part_reads_append part is.0 (reads is.1 ∷ []))
    ∙ behind_append 0 0 (part_reads part is.0) (last_part part is.0, is.1) [])

-- it has a unit
pub some_reads : (part : ℕ) (front : List Symbol) → EndsInUnit front → part_reads part front ≡ [] → ⊥
some_reads part front is none =
    absurd_end (part_reads part is.0) (last_part part is.0, is.1)
    (sym (ap (part_reads part) is.2 ∙ part_reads_append part is.0 (reads is.1 ∷ [])) ∙ none)
  where
    absurd_end : (a : List (ℕ × ℕ)) (read : ℕ × ℕ) → a ++ read ∷ [] ≡ [] → ⊥
    absurd_end [] read e = cc
    absurd_end (x ∷ a) read e = cc

cons_same : {A : Type 0} {x y : A} {a b : List A} → x ≡ y → a ≡ b → x ∷ a ≡ y ∷ b
cons_same {A} {x} {y} {a} {b} e f = cc

-- a front of two lists in a row is one of the first, or goes on into the second
pub front_cases : (front back first second : List (ℕ × ℕ)) → front ++ back ≡ first ++ second
    → ((rest : List (ℕ × ℕ)) × (front ++ rest ≡ first))
    ⊎ ((read : ℕ × ℕ) × (more : List (ℕ × ℕ)) × (front ≡ first ++ read ∷ more) × ((read ∷ more) ++ back ≡ second))
front_cases [] back first second e = inl (first, refl)
front_cases (read ∷ front) back [] second e = inr (read, front, refl, e)
front_cases (read ∷ front) back (other ∷ first) second e =
    more_cases read other front back first second (cc) (front_cases front back first second (cc))
  where
    more_cases : (read other : ℕ × ℕ) (front back first second : List (ℕ × ℕ)) → read ≡ other
        → ((rest : List (ℕ × ℕ)) × (front ++ rest ≡ first))
        ⊎ ((read : ℕ × ℕ) × (more : List (ℕ × ℕ)) × (front ≡ first ++ read ∷ more) × ((read ∷ more) ++ back ≡ second))
        → ((rest : List (ℕ × ℕ)) × ((read ∷ front) ++ rest ≡ other ∷ first))
        ⊎ ((next : ℕ × ℕ) × (more : List (ℕ × ℕ)) × (read ∷ front ≡ (other ∷ first) ++ next ∷ more) × ((next ∷ more) ++ back ≡ second))
    more_cases read other front back first second same (inl c) = inl (c.0, cons_same same c.1)
    more_cases read other front back first second same (inr c) = inr (c.0, c.1, cons_same same c.2, c.3)
