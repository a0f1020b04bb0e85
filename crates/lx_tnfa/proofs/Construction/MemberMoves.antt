-- The moves to the members of an alternation, one by one.
use Rattle.std.proofs.Common.{◌≡◌, ℕ, suc, ◌+◌, ◌*◌, ◌<◌, ◌≤◌, List, [], ◌∷◌, ◌++◌, map, length, get_or, drop, refl, sym, ap, ap₂, ◌∙◌, subst, append_assoc, append-nil}
use Rattle.std.proofs.Math.ListN.{drop_of_length-le}
use Rattle.std.specs.Prelude.{◌^◌}
use Rattle.lx_regex.specs.Automaton.{member_moves}
use Rattle.lx_regex.specs.Script.{merge_tags, tags_in, tags_among}
use Rattle.lx_regex.specs.Term.{Terms, nil, cons, parts}
use Rattle.lx_tnfa.specs.Moves.{shown_move}
use Rattle.lx_tnfa.specs.Shapes.{HaveShapes}
use Rattle.lx_tnfa.specs.TagLists.{remove_tags}
use Rattle.lx_tnfa.specs.declared.shape.Shape.{Shape, out-Shape}
use Rattle.lx_tnfa.specs.declared.states.Event.TheVariants.{Unset}
use Rattle.lx_tnfa.specs.declared.states.Move.{Move}
use Rattle.lx_tnfa.proofs.Construction.ShapeFacts.{next_shape, shape_parts, tells}
use Rattle.lx_tnfa.proofs.Construction.TagMerges.{merge_swap, remove-merge}

-- what a loop over members still has to put to the moves; `merged` puts the tags of the members before to others
pub record MovesLeft (terms : Terms) (first : ℕ) (all : List ℕ) (shapes : List Shape) (ways : List Move) (part i : ℕ) : Type 0 where
  pub rest : Terms
  pub has : HaveShapes rest (drop i shapes)
  pub merged : List ℕ → List ℕ
  pub swaps : (a b : List ℕ) → merged (merge_tags a b) ≡ merge_tags a (merged b)
  pub whole : all ≡ merged (tags_among rest)
  pub left : ways ++ map shown_move (member_moves rest i part merged) ≡ map shown_move (member_moves terms 0 first (λ tags. tags))

pub moves_begin : (terms : Terms) (first : ℕ) (all : List ℕ) (shapes : List Shape) (ways : List Move) → ways ≡ [] → HaveShapes terms shapes
    → all ≡ tags_among terms → MovesLeft terms first all shapes ways first 0
moves_begin terms first all shapes ways none has is = record {
  rest = terms;
  has = has;
  merged = λ tags. tags;
  swaps = λ a b. refl;
  whole = is;
  left = ap (λ l. l ++ map shown_move (member_moves terms 0 first (λ tags. tags))) none;
}

moves_next :
    (terms : Terms) (first : ℕ) (all : List ℕ) (shapes : List Shape) (ways new : List Move) (part i : ℕ) (shape : Shape)
    (rest : Terms) (merged : List ℕ → List ℕ) → HaveShapes rest (shape ∷ drop (suc i) shapes)
    → ((a b : List ℕ) → merged (merge_tags a b) ≡ merge_tags a (merged b)) → all ≡ merged (tags_among rest)
    → ways ++ map shown_move (member_moves rest i part merged) ≡ map shown_move (member_moves terms 0 first (λ tags. tags))
    → (out-Shape shape).parts < 2 ^ 31
    → new ≡ ways ++ record { to = 2 * part; events = map Unset (remove_tags (out-Shape shape).tags.items all) } ∷ []
    → MovesLeft terms first all shapes new (part + (out-Shape shape).parts) (suc i)
moves_next terms first all shapes ways new part i shape nil merged has swaps whole left few more = absurd has
moves_next terms first all shapes ways new part i shape (cons member rest) merged has swaps whole left few more =
    let own = tags_in member in
    let others : remove_tags (out-Shape shape).tags.items all ≡ merged (tags_among rest) =
    ap₂ remove_tags (tells member shape has.0).1 (whole ∙ swaps own (tags_among rest)) ∙ remove-merge own (merged (tags_among rest)) in
    let now : Move = record { to = 2 * part; events = map Unset (merged (tags_among rest)) } in
    let after = map shown_move (member_moves rest (suc i) (part + parts member) (λ t. merged (merge_tags own t))) in
    record {
      rest = rest;
      has = has.1;
      merged = λ t. merged (merge_tags own t);
      swaps = λ a b. ap merged (merge_swap own a b) ∙ swaps a (merge_tags own b);
      whole = whole;
      left =
          ap (λ n. new ++ map shown_move (member_moves rest (suc i) (part + n) (λ t. merged (merge_tags own t)))) (shape_parts member shape has.0 few)
          ∙ ap (λ l. l ++ after) (more ∙ ap (λ l. ways ++ record { to = 2 * part; events = map Unset l } ∷ []) others)
          ∙ append_assoc ways (now ∷ []) after ∙ left;
    }

pub moves_more :
    (terms : Terms) (first : ℕ) (all : List ℕ) (shapes : List Shape) (ways new : List Move) (part i : ℕ) (shape : Shape) → i < length shapes
    → shape ≡ get_or shapes i shape → MovesLeft terms first all shapes ways part i → (out-Shape shape).parts < 2 ^ 31
    → new ≡ ways ++ record { to = 2 * part; events = map Unset (remove_tags (out-Shape shape).tags.items all) } ∷ []
    → MovesLeft terms first all shapes new (part + (out-Shape shape).parts) (suc i)
moves_more terms first all shapes ways new part i shape lt is left few more =
    moves_next terms first all shapes ways new part i shape left.rest left.merged (subst (HaveShapes left.rest) (next_shape shapes i shape lt is) left.has)
    left.swaps left.whole left.left few more

pub moves_end : (terms : Terms) (first : ℕ) (all : List ℕ) (shapes : List Shape) (ways : List Move) (part i : ℕ) → length shapes ≤ i
    → MovesLeft terms first all shapes ways part i → ways ≡ map shown_move (member_moves terms 0 first (λ tags. tags))
moves_end terms first all shapes ways part i le left =
    sym (append-nil ways)
    ∙ ap (λ t. ways ++ map shown_move (member_moves t i part left.merged))
    (sym (no_terms left.rest (subst (HaveShapes left.rest) (drop_of_length-le shapes le) left.has)))
    ∙ left.left
  where
    no_terms : (rest : Terms) → HaveShapes rest [] → rest ≡ nil
    no_terms nil has = refl
    no_terms (cons member rest) has = absurd has
