-- Openers stand where blocks begin.
use Rattle.std.proofs.Common.{◌≡◌, ℕ, ◌-◌, ◌<◌, Bool, true, false, cond, List, [], ◌∷◌, ◌++◌, length, drop, refl, sym, ◌∙◌, ap, subst, arith, length-append}
use Rattle.lx_base.specs.declared.settings.Options.{Options}
use Rattle.lx_split.specs.declared.openers.Opener.{Opener}
use Rattle.lx_split.specs.declared.openers.Opener.TheVariants.{Absent, Refused, Opens}
use Rattle.lx_split.specs.declared.pieces.SourcePiece.{SourcePiece}
use Rattle.lx_split.specs.Searches.{from_first}
use Rattle.lx_split.specs.Openers.{from_opener, is_present, opener_at}
use Rattle.lx_split.specs.Pieces.{outside}
use Rattle.lx_split.specs.Cuts.{AreOpened, HasNoOpener}

-- where a search ends, the test holds nowhere before
pub from_first-before : (test : List ℕ → Bool) (text inner rest : List ℕ) → text ≡ inner ++ rest → length inner < length text - length (from_first test text) →
    test rest ≡ false
from_first-before test [] inner rest is less = absurd (omega arith)
from_first-before test (letter ∷ text) inner rest is less =
    at (test (letter ∷ text)) refl (from_first-before test text) inner is less
  where
    at : (b : Bool) → test (letter ∷ text) ≡ b →
        ((inner rest : List ℕ) → text ≡ inner ++ rest → length inner < length text - length (from_first test text) → test rest ≡ false) →
        (inner : List ℕ) → letter ∷ text ≡ inner ++ rest → length inner < length (letter ∷ text) - length (cond b (letter ∷ text) (from_first test text)) →
        test rest ≡ false
    at true holds later inner is less = absurd (omega arith)
    at false holds later [] is less = subst (λ l. test l ≡ false) is holds
    at false holds later (other ∷ inner) is less = later inner rest (cc) (omega arith)

is_present-absent : (opener : Opener) → is_present opener ≡ false → opener ≡ Absent
is_present-absent Absent none = refl
is_present-absent Refused none = absurd (cc)
is_present-absent (Opens kind) none = absurd (cc)

-- no opener begins before the first one
from_opener-before : (options : Options) (text passed : List ℕ) → text ≡ passed ++ from_opener options text → HasNoOpener options (length passed) text
from_opener-before options text passed split = λ front tail is less.
    let size = ap length split in
    let both = length-append passed (from_opener options text) in
    is_present-absent (opener_at options tail)
    (from_first-before (λ rest. is_present (opener_at options rest)) text front tail is (omega arith))

drop-front : (front back : List ℕ) → drop (length front) (front ++ back) ≡ back
drop-front [] back = refl
drop-front (letter ∷ front) back = drop-front front back

pub drop-behind : (front back text : List ℕ) → text ≡ front ++ back → drop (length front) text ≡ back
drop-behind front back text is = ap (drop (length front)) is ∙ drop-front front back

-- the outside text before the first opener, and pieces behind it
pub AreOpened-outside : (options : Options) (text passed : List ℕ) (pieces : List SourcePiece) → text ≡ passed ++ from_opener options text →
    AreOpened options (from_opener options text) pieces → AreOpened options text (outside passed ++ pieces)
AreOpened-outside options text [] pieces split opened = subst (λ (l : List ℕ). AreOpened options l pieces) (sym split) opened
AreOpened-outside options text (letter ∷ passed) pieces split opened = (
  from_opener-before options text (letter ∷ passed) split,
  subst (λ (l : List ℕ). AreOpened options l pieces) (sym (drop-behind (letter ∷ passed) (from_opener options text) text split)) opened,
)

pub AreOpened-last : (options : Options) (text passed : List ℕ) → text ≡ passed ++ from_opener options text → AreOpened options text (outside passed)
AreOpened-last options text [] split = tt
AreOpened-last options text (letter ∷ passed) split = (from_opener-before options text (letter ∷ passed) split, tt)
