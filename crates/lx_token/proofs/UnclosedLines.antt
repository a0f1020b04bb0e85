-- Strings and classes that are not closed in their line.
use Rattle.std.proofs.Common.{◌≡◌, ◌≢◌, ℕ, ◌≤◌, Bool, true, false, cond, List, [], ◌∷◌, ◌++◌, length, Option, Some, None, sym, subst, arith, ◌==◌, length-append, ⊎_elim}
use Rattle.std.proofs.lemmas.Bool.{ne_eqb}
use Rattle.lx_token.specs.Blanks.{after_line}
use Rattle.lx_token.specs.Braces.{AreUnclosed, after_literal}
use Rattle.lx_token.proofs.Ends.{IsEnd}

-- a search fails in the line behind one of its bytes too, where it failed and more is left than behind the line
further : (is_line : Bool) (size : ℕ) (whole line : List ℕ) (literal : Option (List ℕ)) (goal : Type 0) → size ≤ length whole →
    (literal ≡ None → length line ≤ size → goal) → cond is_line None literal ≡ None → length (cond is_line whole line) ≤ size →
    (length whole ≤ size → ⊥) → goal
further true size whole line literal goal long next fails le outside = absurd (outside le)
further false size whole line literal goal long next fails le outside = next fails le

not_closed : (is_quote : Bool) (text : List ℕ) (literal : Option (List ℕ)) → cond is_quote (Some text) literal ≡ None → literal ≡ None
not_closed true text literal h = absurd (cc)
not_closed false text literal h = h

-- where a search behind one opener fails, it fails behind each later opener of the line
fails_behind : (opener close : ℕ) (escaped : Bool) (front tail : List ℕ) → opener ≢ 10 → opener ≢ 92 → after_literal close escaped (front ++ opener ∷ tail) ≡ None →
    length (after_line (front ++ opener ∷ tail)) ≤ length tail → after_literal close false tail ≡ None
fails_behind opener close true [] tail no_line plain fails le =
    let test = ne_eqb opener 10 no_line in rw test at fails
fails_behind opener close false [] tail no_line plain fails le =
    let test = ne_eqb opener 10 no_line in
    let test' = ne_eqb opener 92 plain in
    let fails' = rw test at fails in
    rw test' at (not_closed (opener == close) tail (after_literal close (opener == 92) tail) fails')
fails_behind opener close true (letter ∷ front) tail no_line plain fails le =
    let rest = front ++ opener ∷ tail in
    let size = length-append front (opener ∷ tail) in
    further (letter == 10) (length tail) (letter ∷ rest) (after_line rest) (after_literal close false rest) (after_literal close false tail ≡ None)
    (omega arith) (λ fails' le'. fails_behind opener close false front tail no_line plain fails' le') fails le (λ h. omega arith)
fails_behind opener close false (letter ∷ front) tail no_line plain fails le =
    let rest = front ++ opener ∷ tail in
    let size = length-append front (opener ∷ tail) in
    let more = after_literal close (letter == 92) rest in
    further (letter == 10) (length tail) (letter ∷ rest) (after_line rest) (cond (letter == close) (Some rest) more)
    (after_literal close false tail ≡ None) (omega arith)
    (λ fails' le'. fails_behind opener close (letter == 92) front tail no_line plain (not_closed (letter == close) rest more fails') le') fails le
    (λ h. omega arith)

-- so no opener of the line is closed
pub AreUnclosed-failed : (opener close : ℕ) (text : List ℕ) → opener ≢ 10 → opener ≢ 92 → after_literal close false text ≡ None →
    AreUnclosed opener close (length (after_line text)) text
AreUnclosed-failed opener close text no_line plain fails = λ front tail split le.
    let fails' : after_literal close false (front ++ opener ∷ tail) ≡ None = rw split at fails in
    let le' : length (after_line (front ++ opener ∷ tail)) ≤ length tail = rw split at le in
    fails_behind opener close false front tail no_line plain fails' le'

-- what is known of a text is known of an end of it
pub AreUnclosed-tail : (opener close size letter : ℕ) (text : List ℕ) → AreUnclosed opener close size (letter ∷ text) → AreUnclosed opener close size text
AreUnclosed-tail opener close size letter text known = λ inner tail split le. known (letter ∷ inner) tail (rw split) le

pub AreUnclosed-end : (opener close size : ℕ) (text rest : List ℕ) → IsEnd text rest → AreUnclosed opener close size text → AreUnclosed opener close size rest
AreUnclosed-end opener close size [] rest end known = subst (λ l. AreUnclosed opener close size l) (sym end) known
AreUnclosed-end opener close size (letter ∷ text) rest end known =
    ⊎_elim (λ same. subst (λ l. AreUnclosed opener close size l) (sym same) known)
    (λ later. AreUnclosed-end opener close size text rest later (AreUnclosed-tail opener close size letter text known)) end
