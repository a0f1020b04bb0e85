-- What is kept of openers that are not closed, as a text is passed over.
use Rattle.std.proofs.Common.{length, length-append, ◌<◌, ap, arith, ◌≡◌, ℕ, false, List, ◌∷◌, Option, Some, None, IfSome, Bor, unwrap_or, inr, sym, subst}
use Rattle.std.specs.Option.{option_copied}
use Rattle.lx_token.specs.Blanks.{after_closing}
use Rattle.lx_token.specs.Braces.{AreKnown, AreUnclosed, after_bounds, after_literal, after_unquoted}
use Rattle.lx_token.proofs.Ends.{IsEnd, LeavesEnd, IsEnd-behind_quote, IsEnd-after_unquoted, IsShorterEnd-end, after_bounds-end, after_closing-end}
use Rattle.lx_token.specs.declared.unclosed.Unclosed.{Unclosed}
use Rattle.lx_token.proofs.UnclosedLines.{AreUnclosed-end}

pub AreKnown-end : (unclosed : Unclosed) (text rest : List ℕ) → IsEnd text rest → AreKnown unclosed text → AreKnown unclosed rest
AreKnown-end unclosed text rest end known = record {
  strings = AreUnclosed-end 34 34 unclosed.strings text rest end known.strings;
  characters = AreUnclosed-end 39 39 unclosed.characters text rest end known.characters;
  classes = AreUnclosed-end 91 93 unclosed.classes text rest end known.classes;
}

pub AreKnown-tail : (unclosed : Unclosed) (text rest : List ℕ) (letter : ℕ) (tail : List ℕ) → text ≡ letter ∷ tail → IsEnd tail rest →
    AreKnown unclosed text → AreKnown unclosed rest
AreKnown-tail unclosed text rest letter tail is end known =
    AreKnown-end unclosed (letter ∷ tail) rest (inr end) (subst (λ l. AreKnown unclosed l) is known)

pub AreKnown-quote : (unclosed : Unclosed) (text rest : List ℕ) (letter close : ℕ) (tail : List ℕ) → text ≡ letter ∷ tail →
    rest ≡ unwrap_or (after_literal close false tail) tail → AreKnown unclosed text → AreKnown unclosed rest
AreKnown-quote unclosed text rest letter close tail is quoted known =
    AreKnown-tail unclosed text rest letter tail is (IsEnd-behind_quote close tail rest quoted) known

pub AreKnown-unquoted : (unclosed : Unclosed) (text : List ℕ) (result : Option (Bor (List ℕ))) → option_copied result ≡ after_unquoted text →
    AreKnown unclosed text → IfSome result (λ rest. AreKnown unclosed rest.now)
AreKnown-unquoted unclosed text None is known = tt
AreKnown-unquoted unclosed text (Some rest) is known = AreKnown-end unclosed text rest.now (IsEnd-after_unquoted text rest.now (sym is)) known

pub AreKnown-bounds : (unclosed : Unclosed) (text rest : List ℕ) → after_bounds text ≡ Some rest → AreKnown unclosed text → AreKnown unclosed rest
AreKnown-bounds unclosed text rest is known =
    let P : Option (List ℕ) → Type 0 = λ o. LeavesEnd text o in
    AreKnown-end unclosed text rest (IsShorterEnd-end text rest (subst P is (after_bounds-end text))) known

pub AreKnown-closing : (unclosed : Unclosed) (text : List ℕ) (result : Option (Bor (List ℕ))) → option_copied result ≡ after_closing text →
    AreKnown unclosed text → IfSome result (λ rest. AreKnown unclosed rest.now)
AreKnown-closing unclosed text None is known = tt
AreKnown-closing unclosed text (Some rest) is known =
    let P : Option (List ℕ) → Type 0 = λ o. LeavesEnd text o in
    AreKnown-end unclosed text rest.now (IsShorterEnd-end text rest.now (subst P (sym is) (after_closing-end text))) known

-- where nothing is known of any text
pub AreUnclosed-nowhere : (opener close size : ℕ) (text : List ℕ) → length text < size → AreUnclosed opener close size text
AreUnclosed-nowhere opener close size text short = λ front tail split le.
    absurd (omega (arith, ap length split, length-append front (opener ∷ tail)))
