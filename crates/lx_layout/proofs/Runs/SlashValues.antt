-- The cursor behind a match with a trailing context is the value of its tag.
use Rattle.std.specs.Prelude.{◌≡◌, ℕ, zero, suc, ◌+◌, List, [], ◌∷◌, length, Option, Some, None, IsSome, Bool, false, refl, slice_get}
use Rattle.std.proofs.Common.{ap, ◌∙◌, subst, arith}
use Rattle.lx_base.specs.declared.settings.Enc.{Enc}
use Rattle.lx_regex.specs.Pattern.{Pattern, sorts_of}
use Rattle.lx_regex.specs.Script.{Symbol, script}
use Rattle.lx_regex.specs.Tree.{Tree}
use Rattle.lx_regex.specs.Values.{Value, cursor_behind, last_event, single, value_of, values_of}
use Rattle.lx_layout.specs.Right.{IsSetBy}
use Rattle.lx_layout.specs.Told.{put_back, slash_value}

slice_get-values_of : (start : ℕ) (symbols : List Symbol) (number : ℕ) (sorts : List Bool) (j : ℕ) (many : Bool) → slice_get sorts j ≡ Some many
    → slice_get (values_of start symbols number sorts) j ≡ Some (value_of start symbols (number + j) many)
slice_get-values_of start symbols number [] j many e = absurd (cc)
slice_get-values_of start symbols number (sort ∷ sorts) zero many e =
    let same : sort ≡ many = cc in
    let z : number ≡ number + 0 = omega arith in
    ap (λ m. Some (value_of start symbols number m)) same ∙ ap (λ n. Some (value_of start symbols n many)) z
slice_get-values_of start symbols number (sort ∷ sorts) (suc j) many e =
    let z : suc number + j ≡ number + suc j = omega arith in
    slice_get-values_of start symbols (suc number) sorts j many e ∙ ap (λ n. Some (value_of start symbols n many)) z

-- the values put the cursor where it stands behind the match, and it does stand somewhere
pub put_back-cursor : (enc : Enc) (pattern : Pattern) (slash : Option ℕ) (start part : ℕ) (word : List ℕ) (tree : Tree pattern.term)
    (values : List Value)
    → IsSetBy enc pattern slash → values ≡ values_of start (script enc part tree) 0 (sorts_of pattern)
    → (cursor : ℕ) × (cursor_behind start word (script enc part tree) slash ≡ Some cursor) ×
    (put_back (slash_value slash values) (start + length word) ≡ Some cursor)
put_back-cursor enc pattern None start part word tree values set valued = (start + length word, refl, refl)
put_back-cursor enc pattern (Some slash) start part word tree values set valued =
    by (last_event slash start None (script enc part tree)) refl (set.1 start part tree)
  where
    value_is : slice_get values slash ≡ Some (single (last_event slash start None (script enc part tree)))
    value_is =
        let z : 0 + slash ≡ slash = omega arith in
        ap (λ l. slice_get l slash) valued ∙ slice_get-values_of start (script enc part tree) 0 (sorts_of pattern) slash false set.0
        ∙ ap (λ n. Some (value_of start (script enc part tree) n false)) z

    by : (o : Option ℕ) → last_event slash start None (script enc part tree) ≡ o → IsSome (last_event slash start None (script enc part tree))
        → (cursor : ℕ) × (last_event slash start None (script enc part tree) ≡ Some cursor) ×
        (put_back (slice_get values slash) (start + length word) ≡ Some cursor)
    by None e some = absurd (nothing (subst (λ o. IsSome o) e some))
      where
        nothing : IsSome {T = ℕ} None → ⊥
        nothing h = cc
    by (Some cursor) e some = (cursor, e, ap (λ o. put_back o (start + length word)) (value_is) ∙ e)
