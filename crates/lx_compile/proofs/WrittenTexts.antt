-- What is written, one behind another.
use Rattle.std.proofs.Common.{◌≡◌, ◌≤◌, ◌∙◌, ℕ, ◌+◌, ◌-◌, List, ◌∷◌, ◌++◌, Option, ap, ap₂, append_assoc, arith, drop, length, take}
use Rattle.std.proofs.Math.Seq.{drop-append_seam}
use Rattle.std.proofs.lemmas.List.{length-append, take_rest}
use Rattle.std.specs.Option.{option_or}
use Rattle.lx_base.specs.Names.{Spellings}
use Rattle.lx_base.specs.declared.faults.Fault.{Fault}
use Rattle.lx_base.specs.declared.faults.Stop.{Stop}
use Rattle.lx_base.specs.declared.faults.Stop.TheVariants as stop
use Rattle.lx_ccode.specs.Text.{line_after}
use Rattle.lx_compile.specs.Writing.{StopsAs, made_text, number_behind, text_among}
use Rattle.lx_compile.specs.declared.made.Made.{Made}
use Rattle.lx_compile.specs.declared.made.Made.TheVariants.{Outside, Scanners, Bare}

-- a text that was appended begins in what is shown
pub shown-within : (start : ℕ) (output text after shown : List ℕ) → start ≡ length output → after ≡ output ++ text → shown ≡ after
    → start ≤ length shown
shown-within start output text after shown at is same = omega (arith, at, ap length (same ∙ is), length-append output text)

-- the line behind such a text
pub line_after-written : (line begins start : ℕ) (output text after shown : List ℕ) → start ≡ length output → after ≡ output ++ text
    → shown ≡ after → begins ≡ line_after line (take (length shown - start) (drop start shown)) → begins ≡ line_after line text
line_after-written line begins start output text after shown at is same begins_is =
    let last : drop start shown ≡ text = ap₂ (λ (place : ℕ) (l : List ℕ). drop place l) at (same ∙ is) ∙ drop-append_seam output text in
    begins_is ∙ ap (line_after line) (take_rest shown start ∙ last)

-- the number behind one that is made
pub number_behind-le : (number : ℕ) (one : Made) → number_behind number one ≤ number + 1
number_behind-le number (Outside text) = omega arith
number_behind-le number (Scanners piece checks warnings cover groups) = omega arith
number_behind-le number (Bare at mark directive) = omega arith

-- one text more, behind which the next piece has this number and the next text begins in this line
pub text_among-more : (names : Spellings) (out : List ℕ) (all : List Made) (number line : ℕ) (one : Made) (rest : List Made)
    (output after whole : List ℕ) (next begins : ℕ) → output ++ text_among names out all number line (one ∷ rest) ≡ whole
    → after ≡ output ++ made_text names out all number line one → next ≡ number_behind number one
    → begins ≡ line_after line (made_text names out all number line one) → after ++ text_among names out all next begins rest ≡ whole
text_among-more names out all number line one rest output after whole next begins before is next_is begins_is =
    let text = made_text names out all number line one in
    let behind = number_behind number one in
    ap (λ l. l ++ text_among names out all next begins rest) is
    ∙ ap (λ n. (output ++ text) ++ text_among names out all n begins rest) next_is
    ∙ ap (λ n. (output ++ text) ++ text_among names out all behind n rest) begins_is
    ∙ append_assoc output text (text_among names out all behind (line_after line text) rest)
    ∙ before

-- a call that stops with the fault of the first directive
pub StopsAs-first : (found rest : Option Fault) (stopped : Stop) → StopsAs found stopped → StopsAs (option_or found rest) stopped
StopsAs-first found rest stop.Memory stops = tt
StopsAs-first found rest (stop.Fault fault) stops = ap (λ first. option_or first rest) stops
