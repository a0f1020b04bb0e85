-- An opener is `/*!` and the word of its kind.
use Rattle.std.proofs.Common.{length-append, subst, ◌≡◌, ℕ, zero, suc, ◌+◌, ◌-◌, ◌≤◌, Bool, true, false, cond, List, [], ◌∷◌, ◌++◌, length, take, drop, codes, Option, Some, None, refl, sym, ◌∙◌, ap, arith}
use Rattle.std.specs.Str.{bytes_eq}
use Rattle.std.proofs.lemmas.Option.{same_Some}
use Rattle.std.proofs.lemmas.List.{drop-drop}
use Rattle.std.proofs.lemmas.Slice.Eq.{bytes_eq-Decides}
use Rattle.lx_base.specs.declared.blocks.BlockKind.{BlockKind}
use Rattle.lx_base.specs.declared.settings.Options.{Options}
use Rattle.lx_base.proofs.Fronts.{front_letters-take}
use Rattle.lx_base.specs.Letters.{begins_with, after_letters, is_in_opener}
use Rattle.lx_token.proofs.Ties.{begins-split}
use Rattle.lx_split.specs.declared.openers.Opener.TheVariants.{Absent, Refused, Opens}
use Rattle.lx_split.specs.Openers.{word_of, word_at, kind_among, kind_of, block_kinds, names_re2c, is_allowed, opener_of_kind, opener_of, opener_at}
use Rattle.lx_split.specs.Pieces.{opener_size}

kind_among-word : (kinds : List BlockKind) (word : List ℕ) (kind : BlockKind) → kind_among kinds word ≡ Some kind → word ≡ word_of kind
kind_among-word [] word kind is = absurd (cc)
kind_among-word (other ∷ kinds) word kind is =
    at (bytes_eq word (word_of other)) refl (kind_among-word kinds word kind) is
  where
    at : (b : Bool) → bytes_eq word (word_of other) ≡ b → (kind_among kinds word ≡ Some kind → word ≡ word_of kind) →
        cond b (Some other) (kind_among kinds word) ≡ Some kind → word ≡ word_of kind
    at true test later is = (bytes_eq-Decides word (word_of other)).0 test ∙ ap word_of (same_Some other kind is)
    at false test later is = later is

opener_of_kind-opens : (options : Options) (word : List ℕ) (found : Option BlockKind) (kind : BlockKind) → opener_of_kind options word found ≡ Opens kind →
    found ≡ Some kind
opener_of_kind-opens options word (Some other) kind is = at (is_allowed options other) is
  where
    at : (b : Bool) → cond b (Opens other) Refused ≡ Opens kind → Some other ≡ Some kind
    at true is = cc
    at false is = absurd (cc)
opener_of_kind-opens options word None kind is = at (names_re2c word) is
  where
    at : (b : Bool) → cond b Refused Absent ≡ Opens kind → None ≡ Some kind
    at true is = absurd (cc)
    at false is = absurd (cc)

-- a text behind a front of it
behind_take : (count : ℕ) (text : List ℕ) → text ≡ take count text ++ drop (length (take count text)) text
behind_take zero text = refl
behind_take (suc count) [] = refl
behind_take (suc count) (letter ∷ text) = ap (λ (l : List ℕ). letter ∷ l) (behind_take count text)

drop-three : (count : ℕ) (text : List ℕ) → drop (3 + count) text ≡ drop count (drop 3 text)
drop-three count text = sym (drop-drop count 3 text)

pub opener-text : (options : Options) (text : List ℕ) (kind : BlockKind) → opener_at options text ≡ Opens kind →
    text ≡ codes "/*!" ++ word_of kind ++ drop (opener_size kind) text
opener-text options text kind is = at (begins_with (codes "/*!") text) refl is
  where
    at : (b : Bool) → begins_with (codes "/*!") text ≡ b → cond b (opener_of options (word_at (drop 3 text))) Absent ≡ Opens kind →
        text ≡ codes "/*!" ++ word_of kind ++ drop (opener_size kind) text
    at true begins is =
        let word = word_at (drop 3 text) in
        let found = opener_of_kind-opens options word (kind_of word) kind is in
        let same = kind_among-word block_kinds word kind found in
        let tail = drop 3 text in
        let count = length tail - length (after_letters is_in_opener tail) in
        rw (drop-three (length (word_of kind)) text, ← same)
        (begins-split (codes "/*!") text begins ∙ ap (λ (l : List ℕ). codes "/*!" ++ l)
        (subst (λ front. tail ≡ front ++ drop (length front) tail) (sym (front_letters-take is_in_opener tail)) (behind_take count tail)))
    at false begins is = absurd (cc)

pub opener-fits : (options : Options) (text : List ℕ) (kind : BlockKind) → opener_at options text ≡ Opens kind → opener_size kind ≤ length text
opener-fits options text kind is =
    let tail = drop (opener_size kind) text in
    omega (arith, ap length (opener-text options text kind is), length-append (word_of kind) tail)
