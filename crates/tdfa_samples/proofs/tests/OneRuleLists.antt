-- Rule lists of one rule.
use Rattle.std.proofs.Common.{◌≡◌, ℕ, ◌+◌, ◌*◌, ◌≤◌, List, [], ◌∷◌, length, Option, None, arith, refl, ap, ◌∙◌}
use Rattle.lx_base.specs.declared.settings.Enc.TheVariants.{Utf8}
use Rattle.lx_regex.specs.ClassLimits.{AllClassesFit, ClassesFit}
use Rattle.lx_regex.specs.Expr.{size_of, term_of}
use Rattle.lx_regex.specs.Limits.{HasLongSequences, IsWithinLimits, numbers_from}
use Rattle.lx_regex.specs.Pattern.{patterns_of, terms_of}
use Rattle.lx_regex.specs.Script.{merge_tags, tags_in}
use Rattle.lx_regex.specs.Term.{Term, alt, cons, empty, nil, repeat}
use Rattle.lx_regex.specs.declared.expr.Expr.{Expr}
use Rattle.lx_regex.specs.declared.rules.Rule.{Rule}
use Rattle.lx_regex.specs.declared.rules.Tag.{Tag}
use Rattle.lx_regex.proofs.Trees.OneRule.{limits_of_one, plain}

-- its sequences are long, these are its tags, and UTF-8 has its classes
abbrev pub HasTags : Term → (told : List ℕ) → Type 0
HasTags e told = HasLongSequences e × (tags_in e ≡ told) × ClassesFit Utf8 e

-- a term repeated
pub sound_repeat : (body e : Term) (low : ℕ) (high : Option ℕ) (told : List ℕ) → e ≡ repeat body low high → HasTags body told → HasTags e told
sound_repeat body e low high told is sound = rw is sound

-- a term with the first tag, or nothing
pub sound_or_nothing : (first e : Term) → e ≡ alt (cons first (cons empty nil)) → HasTags first (0 ∷ []) → HasTags e (0 ∷ [])
sound_or_nothing first e is (sequences, tags, fits) =
    rw is ((sequences, (tt, tt)), ap (λ list. merge_tags list (merge_tags [] [])) tags, (fits, (tt, tt)))

-- a rule without a trailing context and without groups
pub within_one : (expr : Expr) (list : List Tag) (count : ℕ) → length list ≡ count → size_of expr ≤ 4096 → count ≤ 128
    → ((tags : ℕ) → HasTags (term_of tags expr) (numbers_from 0 count))
    → IsWithinLimits (plain 1 expr list None 0 ∷ []) × AllClassesFit Utf8 (terms_of (patterns_of (plain 1 expr list None 0 ∷ [])))
within_one expr list count is few few_tags sound =
    let (sequences, told, fits) = sound (length list) in
    let all : count ≡ length list + 2 * 0 = omega (arith, is) in (
      limits_of_one 1 expr list None 0 few (omega (arith, is, few_tags)) sequences (told ∙ ap (numbers_from 0) all) tt,
      (fits, tt),
    )
