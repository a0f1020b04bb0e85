-- In each condition a match begins at the first block of its scanner.
use Rattle.std.specs.Prelude.{◌≡◌, ◌≢◌, ◌⊎◌, ℕ, suc, ◌+◌, ◌≤◌, List, [], ◌∷◌, ◌++◌, length, Option, Some, None, refl, if◌then◌else◌}
use Rattle.std.proofs.Common.{◌∙◌, ap, arith, inl, inr, sym}
use Rattle.std.specs.List.{AllByRecursion}
use Rattle.lx_base.specs.Names.{AreDistinct, IsNoneOf}
use Rattle.lx_ccode.proofs.Words.{equal_words-false, equal_words-self}
use Rattle.lx_ccode.specs.Runs.{cond_block, entry_block}
use Rattle.lx_ccode.specs.declared.piece.CodeBlock.{CodeBlock}
use Rattle.lx_ccode.specs.declared.piece.CondCase.{CondCase}
use Rattle.lx_ccode.specs.declared.piece.Stmt.{Stmt}
use Rattle.lx_layout.specs.FormedParts.{AreFormed, conds_of, with_cond}
use Rattle.lx_layout.specs.PartPieces.{cond_cases, with_case}
use Rattle.lx_layout.specs.Parts.{EachPart, Part, given_asked, labelled, part_codes, parts_blocks}
use Rattle.lx_layout.specs.Pieces.{MayBegin}
use Rattle.lx_layout.specs.Plans.{unlabelled}
use Rattle.lx_layout.specs.Switches as switches
use Rattle.lx_layout.proofs.PartLayouts.PartOrder.{some_block}

-- ---- the cases of the switch

cases-unlabelled : (at : ℕ) (codes : List (List Stmt)) (rest : List CodeBlock)
    → switches.cond_cases at (unlabelled codes ++ rest) ≡ switches.cond_cases (at + length codes) rest
cases-unlabelled at [] rest = let e : at ≡ at + 0 = omega arith in ap (λ n. switches.cond_cases n rest) e
cases-unlabelled at (code ∷ codes) rest =
    let e : suc at + length codes ≡ at + length (code ∷ codes) = omega arith in
    cases-unlabelled (suc at) codes rest ∙ ap (λ n. switches.cond_cases n rest) e

cases-labelled : (cond : Option (List ℕ)) (at : ℕ) (codes : List (List Stmt)) (rest : List CodeBlock) → 1 ≤ length codes
    → switches.cond_cases at (labelled cond codes ++ rest) ≡ with_case cond at (switches.cond_cases (at + length codes) rest)
cases-labelled cond at [] rest some = absurd (omega (arith, some))
cases-labelled cond at (code ∷ codes) rest some =
    let e : suc at + length codes ≡ at + length (code ∷ codes) = omega arith in
    let behind : switches.cond_cases (suc at) (unlabelled codes ++ rest) ≡ switches.cond_cases (at + length (code ∷ codes)) rest
    = cases-unlabelled (suc at) codes rest ∙ ap (λ n. switches.cond_cases n rest) e in
    by cond behind
  where
    by : (o : Option (List ℕ)) → switches.cond_cases (suc at) (unlabelled codes ++ rest) ≡ switches.cond_cases (at + length (code ∷ codes)) rest
        → switches.onto_conds o at (switches.cond_cases (suc at) (unlabelled codes ++ rest))
        ≡ with_case o at (switches.cond_cases (at + length (code ∷ codes)) rest)
    by None e = e
    by (Some own) e = ap (λ (l : List CondCase). record { cond = own; block = at } ∷ l) e

pub cases_of : (greatest begin first : ℕ) (parts : List Part) → AreFormed greatest parts
    → switches.cond_cases begin (parts_blocks begin first parts) ≡ cond_cases begin first parts
cases_of greatest begin first [] are = refl
cases_of greatest begin first (part ∷ parts) are =
    let some = some_block greatest begin first part are.0 in
    cases-labelled part.given.cond begin (part_codes part begin first)
    (parts_blocks (begin + length (part_codes part begin first)) (first + given_asked part.given) parts) (omega (arith, some))
    ∙ ap (λ l. with_case part.given.cond begin l)
    (cases_of greatest (begin + length (part_codes part begin first)) (first + given_asked part.given) parts are.1)

-- ---- the block of a condition

-- a condition is that of a scanner
abbrev HasCond : (own : List ℕ) → List Part → Type 0
HasCond own [] = ⊥
HasCond own (part ∷ parts) = (part.given.cond ≡ Some own) ⊎ HasCond own parts

-- no two scanners have the same one
abbrev pub AreDifferent : List Part → Type 0
AreDifferent [] = Unit {0}
AreDifferent (part ∷ parts) = AllByRecursion (λ (other : Part). other.given.cond ≢ part.given.cond) parts × AreDifferent parts

other_than : (own : List ℕ) (cond : Option (List ℕ)) (parts : List Part) → AllByRecursion (λ (other : Part). other.given.cond ≢ cond) parts
    → HasCond own parts → cond ≡ Some own → ⊥
other_than own cond [] apart has same = has
other_than own cond (part ∷ parts) apart (inl here) same = apart.0 (here ∙ sym same)
other_than own cond (part ∷ parts) apart (inr later) same = other_than own cond parts apart.1 later same

first_case : (own : List ℕ) (begin : ℕ) (cases : List CondCase) (cond : Option (List ℕ)) → cond ≡ Some own
    → cond_block (with_case cond begin cases) own ≡ Some begin
first_case own begin cases cond same =
    ap (λ o. cond_block (with_case o begin cases) own) same ∙ ap (λ t. if t then Some begin else cond_block cases own) (equal_words-self own)

later_case : (own : List ℕ) (begin : ℕ) (cases : List CondCase) (cond : Option (List ℕ)) → (cond ≡ Some own → ⊥)
    → cond_block (with_case cond begin cases) own ≡ cond_block cases own
later_case own begin cases None other = refl
later_case own begin cases (Some cond) other =
    ap (λ t. if t then Some begin else cond_block cases own) (equal_words-false cond own (λ e. other (ap (λ l. Some l) e)))

blocks_of : (all : List CondCase) (begin first : ℕ) (parts : List Part) → AreDifferent parts
    → ((own : List ℕ) → HasCond own parts → cond_block all own ≡ cond_block (cond_cases begin first parts) own)
    → EachPart (λ part begin first. (own : List ℕ) → part.given.cond ≡ Some own → cond_block all own ≡ Some begin) begin first parts
blocks_of all begin first [] apart same = tt
blocks_of all begin first (part ∷ parts) apart same =
    let rest : List CondCase = cond_cases (begin + length (part_codes part begin first)) (first + given_asked part.given) parts in (
      λ own is. same own (inl is) ∙ first_case own begin rest part.given.cond is,
      blocks_of all (begin + length (part_codes part begin first)) (first + given_asked part.given) parts apart.1
          (λ own has. same own (inr has) ∙ later_case own begin rest part.given.cond (λ is. other_than own part.given.cond parts apart.0 has is)),
    )

-- a switch that has a block for a condition is there
entry_of_block : (cases : List CondCase) (own : List ℕ) (block : ℕ) → cond_block cases own ≡ Some block → entry_block cases own ≡ Some block
entry_of_block [] own block e = absurd (cc)
entry_of_block (case ∷ cases) own block e = e

-- ---- where a match begins

-- in the conditions of the scanner
abbrev pub BeginsAt : List CondCase → Part → (begin first : ℕ) → Type 0
BeginsAt cases part begin first = (cond : List ℕ) → MayBegin part.given.cond cond → entry_block cases cond ≡ Some begin

-- where all have conditions
conds_few : (parts : List Part) → length (conds_of parts) ≤ length parts
conds_few [] = omega arith
conds_few (part ∷ parts) = by part.given.cond (conds_few parts)
  where
    by : (o : Option (List ℕ)) → length (conds_of parts) ≤ length parts → length (with_cond o (conds_of parts)) ≤ suc (length parts)
    by None le = omega (arith, le)
    by (Some own) le = omega (arith, le)

begin_each : (cases : List CondCase) (begin first : ℕ) (parts : List Part) → length (conds_of parts) ≡ length parts
    → EachPart (λ part begin first. (own : List ℕ) → part.given.cond ≡ Some own → cond_block cases own ≡ Some begin) begin first parts
    → EachPart (BeginsAt cases) begin first parts
begin_each cases begin first [] all h = tt
begin_each cases begin first (part ∷ parts) all h = (
  (λ cond may. by part.given.cond refl cond may all),
  begin_each cases (begin + length (part_codes part begin first)) (first + given_asked part.given) parts (rest part.given.cond all) h.1,
)
  where
    by : (o : Option (List ℕ)) → part.given.cond ≡ o → (cond : List ℕ) → MayBegin o cond → length (with_cond o (conds_of parts)) ≡ suc (length parts)
        → entry_block cases cond ≡ Some begin
    by None is cond may long = absurd (let few = conds_few parts in omega (arith, long, few))
    by (Some own) is cond may long = entry_of_block cases cond begin (h.0 cond (is ∙ ap (λ l. Some l) (sym may)))

    rest : (o : Option (List ℕ)) → length (with_cond o (conds_of parts)) ≡ suc (length parts) → length (conds_of parts) ≡ length parts
    rest None long = absurd (let few = conds_few parts in omega (arith, long, few))
    rest (Some own) long = omega (arith, long)

pub parts_enter : (first : ℕ) (parts : List Part) → AreDifferent parts → (length (conds_of parts) ≡ length parts) ⊎ (length parts ≡ 1)
    → EachPart (BeginsAt (cond_cases 0 first parts)) 0 first parts
parts_enter first parts apart (inl all) =
    begin_each (cond_cases 0 first parts) 0 first parts all (blocks_of (cond_cases 0 first parts) 0 first parts apart (λ own has. refl))
parts_enter first [] apart (inr one) = tt
parts_enter first (part ∷ other ∷ parts) apart (inr one) = absurd (omega (arith, one))
parts_enter first (part ∷ []) apart (inr one) = ((λ cond may. by part.given.cond cond may), tt)
  where
    by : (o : Option (List ℕ)) → (cond : List ℕ) → MayBegin o cond → entry_block (with_case o 0 []) cond ≡ Some 0
    by None cond may = refl
    by (Some own) cond may = entry_of_block (with_case (Some own) 0 []) cond 0 (first_case cond 0 [] (Some own) (ap (λ l. Some l) (sym may)))

-- ---- conditions that differ

none_of : (own : List ℕ) (parts : List Part) → AllByRecursion (λ (other : Part). other.given.cond ≢ Some own) parts → IsNoneOf own (conds_of parts)
none_of own [] apart = tt
none_of own (part ∷ parts) apart = by part.given.cond apart.0 (none_of own parts apart.1)
  where
    by : (o : Option (List ℕ)) → o ≢ Some own → IsNoneOf own (conds_of parts) → IsNoneOf own (with_cond o (conds_of parts))
    by None other again = again
    by (Some cond) other again = ((λ e. other (ap (λ l. Some l) (sym e))), again)

pub conds_distinct : (parts : List Part) → AreDifferent parts → AreDistinct (conds_of parts)
conds_distinct [] apart = tt
conds_distinct (part ∷ parts) apart = by part.given.cond apart.0 (conds_distinct parts apart.1)
  where
    by : (o : Option (List ℕ)) → AllByRecursion (λ (other : Part). other.given.cond ≢ o) parts → AreDistinct (conds_of parts)
        → AreDistinct (with_cond o (conds_of parts))
    by None others again = again
    by (Some own) others again = (none_of own parts others, again)
