-- A block ends with `*/`.
use Rattle.std.proofs.Common.{◌≡◌, ℕ, zero, suc, ◌+◌, ◌-◌, ◌≤◌, Bool, true, false, cond, inr, ⊎_elim, List, [], ◌∷◌, ◌++◌, length, take, drop, codes, Option, Some, None, IfSome, option_and_then, unwrap_or, refl, sym, ◌∙◌, ap, subst, arith, ◌==◌, Bor}
use Rattle.std.specs.Option.{option_copied}
use Rattle.std.proofs.lemmas.Option.{same_Some}
use Rattle.lx_base.specs.declared.blocks.BlockKind.{BlockKind}
use Rattle.lx_base.specs.declared.blocks.BlockKind.TheVariants.{Ignore, Include}
use Rattle.lx_base.specs.Letters.{begins_with}
use Rattle.lx_token.specs.Blanks.{after_closing}
use Rattle.lx_token.specs.Braces.{after_bounds, after_literal, after_piece}
use Rattle.lx_token.proofs.Ends.{IsEnd, LeavesEnd, IsEnd-trans, IsEnd-self, IsShorterEnd-end, either, after_bounds-end, after_code-end, after_piece-end, behind_quote-end, end_or_self, LeavesEnd-later}
use Rattle.lx_token.proofs.Ties.{begins-split}
use Rattle.lx_token.proofs.Walk.{IsEnd-drop_is}
use Rattle.lx_split.specs.Bodies.{after_brace, after_part, after_part_of, after_include_part, after_file_name, after_body, after_block}

-- a text that is cut before an end of it
pub IsEnd-split : (text rest : List ℕ) → IsEnd text rest → text ≡ take (length text - length rest) text ++ rest
IsEnd-split [] rest same = rw same
IsEnd-split (letter ∷ text) rest end =
    ⊎_elim
    (λ same.
    let none : length (letter ∷ text) - length rest ≡ 0 = omega (arith, ap length same) in rw none (sym same))
    (λ later.
    let within = (IsEnd-drop_is text rest later).within in
    let more : length (letter ∷ text) - length rest ≡ suc (length text - length rest) = omega arith in
    rw more (ap (λ (l : List ℕ). letter ∷ l) (IsEnd-split text rest later))) end

-- the `*/` before the rest, where it begins a text
closing_here : (text rest : List ℕ) → begins_with (codes "*/") text ≡ true → Some (drop 2 text) ≡ Some rest → text ≡ 42 ∷ 47 ∷ rest
closing_here text rest closed is =
    begins-split (codes "*/") text closed ∙ ap (λ (l : List ℕ). 42 ∷ 47 ∷ l) (same_Some (drop 2 text) rest is)

end_here : (text rest : List ℕ) → text ≡ rest → IsEnd text rest
end_here text rest same = subst (λ l. IsEnd text l) same (IsEnd-self text)

after_closing-closes : (text rest : List ℕ) → after_closing text ≡ Some rest → IsEnd text (42 ∷ 47 ∷ rest)
after_closing-closes [] rest is = absurd (cc)
after_closing-closes (letter ∷ text) rest is =
    at (begins_with (codes "*/") (letter ∷ text)) refl (after_closing-closes text rest) is
  where
    at : (b : Bool) → begins_with (codes "*/") (letter ∷ text) ≡ b → (after_closing text ≡ Some rest → IsEnd text (42 ∷ 47 ∷ rest)) →
        cond b (Some (drop 2 (letter ∷ text))) (after_closing text) ≡ Some rest → IsEnd (letter ∷ text) (42 ∷ 47 ∷ rest)
    at true closed later is = end_here (letter ∷ text) (42 ∷ 47 ∷ rest) (closing_here (letter ∷ text) rest closed is)
    at false closed later is = inr (later is)

after_brace-end : (bounds : Option (List ℕ)) (text : List ℕ) → LeavesEnd text bounds → LeavesEnd text (after_brace bounds text)
after_brace-end None text end = after_code-end text
after_brace-end (Some rest) text end = end

after_part-end : (text : List ℕ) → LeavesEnd text (after_part text)
after_part-end [] = tt
after_part-end (letter ∷ text) =
    let P = LeavesEnd (letter ∷ text) in
    let class = Some (unwrap_or (after_literal 93 false text) text) in
    let brace = after_brace (after_bounds (letter ∷ text)) (letter ∷ text) in
    let piece = after_piece (letter ∷ text) in
    either P (letter == 91) class (cond (letter == 123) brace piece) (behind_quote-end 93 text)
    (either P (letter == 123) brace piece (after_brace-end (after_bounds (letter ∷ text)) (letter ∷ text) (after_bounds-end (letter ∷ text)))
    (after_piece-end (letter ∷ text)))

after_file_name-end : (text : List ℕ) → LeavesEnd text (after_file_name text)
after_file_name-end [] = tt
after_file_name-end (letter ∷ text) =
    let P = LeavesEnd (letter ∷ text) in
    either P (letter == 34) (Some text) (cond (letter == 10) None (after_file_name text)) (IsEnd-self text)
    (either P (letter == 10) None (after_file_name text) tt (LeavesEnd-later letter text (after_file_name text) (after_file_name-end text)))

pub behind_file_name-end : (text : List ℕ) → IsEnd text (unwrap_or (after_file_name text) text)
behind_file_name-end text = end_or_self text (after_file_name text) (after_file_name-end text)

after_include_part-end : (text : List ℕ) → LeavesEnd text (after_include_part text)
after_include_part-end [] = tt
after_include_part-end (letter ∷ text) =
    either (LeavesEnd (letter ∷ text)) (letter == 34) (Some (unwrap_or (after_file_name text) text)) (after_part (letter ∷ text))
    (behind_file_name-end text) (after_part-end (letter ∷ text))

after_part_of-end : (kind : BlockKind) (text : List ℕ) → LeavesEnd text (after_part_of kind text)
after_part_of-end Include text = after_include_part-end text
after_part_of-end kind text = after_part-end text

after_body-closes : (kind : BlockKind) (steps : ℕ) (text rest : List ℕ) → after_body kind steps text ≡ Some rest → IsEnd text (42 ∷ 47 ∷ rest)
after_body-closes kind zero text rest is = absurd (cc)
after_body-closes kind (suc steps) text rest is =
    at (begins_with (codes "*/") text) (after_part_of kind text) refl (after_part_of-end kind text) (after_body-closes kind steps) is
  where
    at : (b : Bool) (part : Option (List ℕ)) → begins_with (codes "*/") text ≡ b → LeavesEnd text part →
        ((next rest : List ℕ) → after_body kind steps next ≡ Some rest → IsEnd next (42 ∷ 47 ∷ rest)) →
        cond b (Some (drop 2 text)) (option_and_then (after_body kind steps) part) ≡ Some rest → IsEnd text (42 ∷ 47 ∷ rest)
    at true part closed end later is = end_here text (42 ∷ 47 ∷ rest) (closing_here text rest closed is)
    at false None closed end later is = absurd (cc)
    at false (Some next) closed end later is = IsEnd-trans text next (42 ∷ 47 ∷ rest) (IsShorterEnd-end text next end) (later next rest is)

pub after_block-other : (kind : BlockKind) (text : List ℕ) → (kind ≡ Ignore → ⊥) → after_body kind (length text) text ≡ after_block kind text
after_block-other Ignore text other = absurd (other refl)
after_block-other kind text other = refl

pub after_block-closes : (kind : BlockKind) (text rest : List ℕ) → after_block kind text ≡ Some rest → IsEnd text (42 ∷ 47 ∷ rest)
after_block-closes Ignore text rest is = after_closing-closes text rest is
after_block-closes kind text rest is = after_body-closes kind (length text) text rest is

pub after_block-shorter : (kind : BlockKind) (text : List ℕ) (result : Option (Bor (List ℕ))) → option_copied result ≡ after_block kind text →
    IfSome result (λ rest. length rest.now + 2 ≤ length text)
after_block-shorter kind text None is = tt
after_block-shorter kind text (Some rest) is =
    let within = (IsEnd-drop_is text (42 ∷ 47 ∷ rest.now) (after_block-closes kind text rest.now (sym is))).within in omega arith

pub IsEnd-behind_file_name : (text : List ℕ) (found : Option (Bor (List ℕ))) (other rest : Bor (List ℕ)) → other.now ≡ text →
    option_copied found ≡ after_file_name text → rest ≡ unwrap_or found other → IsEnd text rest.now
IsEnd-behind_file_name text found other rest same is rest_is =
    subst (λ l. IsEnd text l) (sym (ap (λ (b : Bor (List ℕ)). b.now) rest_is ∙ copied_or found ∙ ap (λ (o : Option (List ℕ)). unwrap_or o text) is)) (behind_file_name-end text)
  where
    copied_or : (found : Option (Bor (List ℕ))) → (unwrap_or found other).now ≡ unwrap_or (option_copied found) text
    copied_or None = same
    copied_or (Some next) = refl
