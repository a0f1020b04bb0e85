-- Lists of tags.
use Rattle.std.proofs.Common.{◌≡◌, ℕ, zero, suc, ◌+◌, ◌≤◌, List, [], ◌∷◌, ◌++◌, map, arith, refl, sym, ◌∙◌, ap, le-leb}
use Rattle.std.specs.Prelude.{if◌then◌else◌}
use Rattle.std.proofs.lemmas.List.{map-append}
use Rattle.lx_base.specs.declared.settings.Enc.TheVariants.{Utf8}
use Rattle.lx_regex.specs.Expr.{members_of, term_of}
use Rattle.lx_regex.specs.Limits.{HaveLongSequences, numbers_from}
use Rattle.lx_regex.specs.Script.{put_tag, tags_among}
use Rattle.lx_regex.specs.Term.{Term, alt, tag}
use Rattle.lx_regex.specs.declared.expr.Expr.{Expr}
use Rattle.lx_regex.specs.ClassLimits.{ClassesFitAmong}
use Rattle.tdfa_samples.proofs.tests.OneRuleLists.{HasTags}

one_number_more : (number count : ℕ) → numbers_from number count ++ (number + count) ∷ [] ≡ numbers_from number (suc count)
one_number_more number zero = ap (λ (n : ℕ). n ∷ []) (omega arith)
one_number_more number (suc count) =
    ap (λ (list : List ℕ). number ∷ list)
    (ap (λ (n : ℕ). numbers_from (suc number) count ++ n ∷ []) (omega arith) ∙ one_number_more (suc number) count)

-- the terms of one tag more
pub one_tag_more : (tags : ℕ) (list : List Expr) (next : Expr) (count : ℕ)
    → map (term_of tags) list ≡ map tag (numbers_from 0 count) → term_of tags next ≡ tag count
    → map (term_of tags) (list ++ next ∷ []) ≡ map tag (numbers_from 0 (count + 1))
one_tag_more tags list next count before this =
    let last : count ≡ 0 + count = omega arith in
    let behind : suc count ≡ count + 1 = omega arith in
    rw (map-append (term_of tags) list (next ∷ [])) (rw before (rw this
    (sym (map-append tag (numbers_from 0 count) (count ∷ []))
    ∙ ap (map tag) (ap (λ (n : ℕ). numbers_from 0 count ++ n ∷ []) last ∙ one_number_more 0 count ∙ ap (numbers_from 0) behind))))

put_first : (n k : ℕ) → put_tag n (numbers_from (suc n) k) ≡ n ∷ numbers_from (suc n) k
put_first n zero = refl
put_first n (suc k) =
    let le : n ≤ suc n = omega arith in
    ap (λ b. if b then n ∷ suc n ∷ numbers_from (suc (suc n)) k else suc n ∷ put_tag n (numbers_from (suc (suc n)) k)) (le-leb n (suc n) le)

sound_marks : (first count : ℕ)
    → HaveLongSequences (members_of (map tag (numbers_from first count)))
    × (tags_among (members_of (map tag (numbers_from first count))) ≡ numbers_from first count)
    × ClassesFitAmong Utf8 (members_of (map tag (numbers_from first count)))
sound_marks first zero = (tt, refl, tt)
sound_marks first (suc count) =
    let (sequences, tags, fits) = sound_marks (suc first) count in
    ((tt, sequences), ap (put_tag first) tags ∙ put_first first count, (tt, fits))

-- one of some tags
pub sound_choice_of_marks : (count : ℕ) (e : Term) → e ≡ alt (members_of (map tag (numbers_from 0 count))) → HasTags e (numbers_from 0 count)
sound_choice_of_marks count e is = let (sequences, tags, fits) = sound_marks 0 count in rw is (sequences, tags, fits)
