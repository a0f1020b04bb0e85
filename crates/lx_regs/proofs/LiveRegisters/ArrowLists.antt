-- How the lists of arrows grow.
use Rattle.std.proofs.Common.{◌≡◌, ℕ, zero, suc, ◌+◌, ◌<◌, ◌≤◌, ◌⊎◌, inl, inr, arith, List, map, [], ◌∷◌, ◌++◌, length, get_or, take, refl, sym, ap, ◌∙◌, subst}
use Rattle.std.specs.Prelude.{◌≢◌, Contains, replicate}
use Rattle.std.proofs.lemmas.Bool.{cases_eq, cases_lt}
use Rattle.std.proofs.lemmas.List.{get_or-set_other, get_or-set_same, length-replicate, length-set, take_more}
use Rattle.std.proofs.lemmas.List.Elements.{Contains-append_left, Contains-push, Contains-push_cases}
use Rattle.lx_auto.specs.declared.automaton.Auto.{Auto}
use Rattle.lx_auto.specs.declared.automaton.Edge.{Edge}
use Rattle.lx_auto.specs.declared.automaton.State.{State}
use Rattle.lx_auto.specs.declared.ops.Op.{Op}
use Rattle.lx_auto.specs.Automaton.{state_of}
use Rattle.lx_regs.specs.declared.arrows.Arrow.{Arrow}
use Rattle.lx_regs.specs.Arrows.{AreArrows, HasArrow, IsArrow, Notes, arrows_to, with_arrow}

module _ (lists : List (List Arrow)) (arrow : Arrow) (within : arrow.edge.now.to < length lists) where
  at_target : arrows_to (with_arrow lists arrow) arrow.edge.now.to ≡ arrows_to lists arrow.edge.now.to ++ arrow ∷ []
  at_target = get_or-set_same lists arrow.edge.now.to (arrows_to lists arrow.edge.now.to ++ arrow ∷ []) [] within

  at_other : (other : ℕ) → other ≢ arrow.edge.now.to → arrows_to (with_arrow lists arrow) other ≡ arrows_to lists other
  at_other other apart = get_or-set_other lists arrow.edge.now.to other (arrows_to lists arrow.edge.now.to ++ arrow ∷ []) [] apart

  kept-with : (other : ℕ) (a : Arrow) → Contains (arrows_to lists other) a → Contains (arrows_to (with_arrow lists arrow) other) a
  kept-with other a has = at (cases_eq other arrow.edge.now.to)
    where
      at : (other ≡ arrow.edge.now.to) ⊎ (other ≢ arrow.edge.now.to) → Contains (arrows_to (with_arrow lists arrow) other) a
      at (inl same) =
          subst (λ o. Contains (arrows_to (with_arrow lists arrow) o) a) (sym same)
          (subst (λ l. Contains l a) (sym at_target)
          (Contains-append_left (arrows_to lists arrow.edge.now.to) (arrow ∷ []) a (subst (λ o. Contains (arrows_to lists o) a) same has)))
      at (inr apart) = subst (λ l. Contains l a) (sym (at_other other apart)) has

  sound-with : (other : ℕ) (a : Arrow) → Contains (arrows_to (with_arrow lists arrow) other) a
      → Contains (arrows_to lists other) a ⊎ ((arrow ≡ a) × (arrow.edge.now.to ≡ other))
  sound-with other a has = at (cases_eq other arrow.edge.now.to)
    where
      at : (other ≡ arrow.edge.now.to) ⊎ (other ≢ arrow.edge.now.to)
          → Contains (arrows_to lists other) a ⊎ ((arrow ≡ a) × (arrow.edge.now.to ≡ other))
      at (inl same) =
          by (Contains-push_cases (arrows_to lists arrow.edge.now.to) arrow a
          (subst (λ l. Contains l a) at_target (subst (λ o. Contains (arrows_to (with_arrow lists arrow) o) a) same has)))
        where
          by : Contains (arrows_to lists arrow.edge.now.to) a ⊎ (arrow ≡ a)
              → Contains (arrows_to lists other) a ⊎ ((arrow ≡ a) × (arrow.edge.now.to ≡ other))
          by (inl was) = inl (subst (λ o. Contains (arrows_to lists o) a) (sym same) was)
          by (inr is) = inr (is, sym same)
      at (inr apart) = inl (subst (λ l. Contains l a) (at_other other apart) has)

  has-with : HasArrow (with_arrow lists arrow) arrow.state arrow.edge.now
  has-with = (arrow, subst (λ l. Contains l arrow) (sym at_target) (Contains-push (arrows_to lists arrow.edge.now.to) arrow), refl, refl)

pub notes-none : (state : ℕ) (edges : List Edge) (lists : List (List Arrow)) → Notes state (take 0 edges) lists lists
notes-none state edges lists = record {
  fit = refl;
  kept = λ target arrow has. has;
  sound = λ target arrow has. inl has;
  complete = λ edge has. absurd (omega (arith, has.1));
}

-- the arrow of the next edge
pub notes-more : (edges : List Edge) (place : ℕ) (old lists new : List (List Arrow)) (arrow : Arrow) → place < length edges
    → get_or edges place arrow.edge.now ≡ arrow.edge.now → arrow.edge.now.to < length lists → arrow.reader ≡ arrow.edge.now.ops
    → new ≡ with_arrow lists arrow
    → Notes arrow.state (take place edges) old lists → Notes arrow.state (take (place + 1) edges) old new
notes-more edges place old lists new arrow within is in_lists reads put notes = record {
  fit = ap length put ∙ length-set lists arrow.edge.now.to (arrows_to lists arrow.edge.now.to ++ arrow ∷ []) ∙ notes.fit;
  kept = λ target a has. grown target a (notes.kept target a has);
  sound = λ target a has. sound target a (sound-with lists arrow in_lists target a (subst (λ l. Contains (arrows_to l target) a) put has));
  complete = λ edge has. complete edge (Contains-push_cases (take place edges) arrow.edge.now edge (subst (λ l. Contains l edge) more has));
}
  where
    more : take (place + 1) edges ≡ take place edges ++ arrow.edge.now ∷ []
    more = take_more edges place arrow.edge.now within ∙ ap (λ e. take place edges ++ e ∷ []) is

    grown : (target : ℕ) (a : Arrow) → Contains (arrows_to lists target) a → Contains (arrows_to new target) a
    grown target a has = subst (λ l. Contains (arrows_to l target) a) (sym put) (kept-with lists arrow in_lists target a has)

    wider : (edge : Edge) → Contains (take place edges) edge → Contains (take (place + 1) edges) edge
    wider edge has = subst (λ l. Contains l edge) (sym more) (Contains-append_left (take place edges) (arrow.edge.now ∷ []) edge has)

    sound : (target : ℕ) (a : Arrow) → Contains (arrows_to lists target) a ⊎ ((arrow ≡ a) × (arrow.edge.now.to ≡ target))
        → Contains (arrows_to old target) a ⊎ IsArrow arrow.state (take (place + 1) edges) target a
    sound target a (inl has) = by (notes.sound target a has)
      where
        by : Contains (arrows_to old target) a ⊎ IsArrow arrow.state (take place edges) target a
            → Contains (arrows_to old target) a ⊎ IsArrow arrow.state (take (place + 1) edges) target a
        by (inl was) = inl was
        by (inr (state, has, to, reader)) = inr (state, wider a.edge.now has, to, reader)
    sound target a (inr (same, to)) = inr
        (subst (λ b. IsArrow arrow.state (take (place + 1) edges) target b) same
        (refl, subst (λ l. Contains l arrow.edge.now) (sym more) (Contains-push (take place edges) arrow.edge.now), to, reads))

    complete : (edge : Edge) → Contains (take place edges) edge ⊎ (arrow.edge.now ≡ edge) → HasArrow new arrow.state edge
    complete edge (inl has) = let (a, there, state, is_edge) = notes.complete edge has in (a, grown edge.to a there, state, is_edge)
    complete edge (inr same) = subst (λ l. HasArrow l arrow.state edge) (sym put)
        (subst (λ e. HasArrow (with_arrow lists arrow) arrow.state e) same (has-with lists arrow in_lists))

pub arrows-none : (auto : Auto) (lists : List (List Arrow)) → lists ≡ replicate (length auto.states) [] → AreArrows auto 0 lists
arrows-none auto lists is = record {
  fit = ap length is ∙ length-replicate (length auto.states) [];
  sound = λ target arrow has. absurd (let none = at (length auto.states) target in
      let e = ap (λ l. length (arrows_to l target)) is in let n = ap length none in omega (arith, has.1, e, n));
  complete = λ state edge lt has. absurd (omega arith);
}
  where
    at : (count target : ℕ) → arrows_to (replicate count []) target ≡ []
    at zero target = refl
    at (suc count) zero = refl
    at (suc count) (suc target) = at count target

-- the arrows of one state more
pub arrows-more : (auto : Auto) (count : ℕ) (lists new : List (List Arrow)) → Notes count (state_of auto.states count).edges lists new
    → AreArrows auto count lists → AreArrows auto (count + 1) new
arrows-more auto count lists new notes are = record {
  fit = notes.fit ∙ are.fit;
  sound = λ target arrow has. sound target arrow (notes.sound target arrow has);
  complete = λ state edge lt has. complete state edge has (cases_lt state count) lt;
}
  where
    sound : (target : ℕ) (arrow : Arrow)
        → Contains (arrows_to lists target) arrow ⊎ IsArrow count (state_of auto.states count).edges target arrow
        → (arrow.state < count + 1) × IsArrow arrow.state (state_of auto.states arrow.state).edges target arrow
    sound target arrow (inl has) = let was = are.sound target arrow has in (omega (arith, was.0), was.1)
    sound target arrow (inr is) = (omega (arith, is.0), subst (λ s. IsArrow s (state_of auto.states s).edges target arrow) (sym is.0) is)

    complete : (state : ℕ) (edge : Edge) → Contains (state_of auto.states state).edges edge → (state < count) ⊎ (count ≤ state)
        → state < count + 1
        → HasArrow new state edge
    complete state edge has (inl lt) _ = let (arrow, there, from, is) = are.complete state edge lt has in
        (arrow, notes.kept edge.to arrow there, from, is)
    complete state edge has (inr past) lt =
        let same : state ≡ count = omega arith in
        subst (λ s. HasArrow new s edge) (sym same)
        (notes.complete edge (subst (λ s. Contains (state_of auto.states s).edges edge) same has))

-- what states do where they are left
pub leave_at : (states : List State) (leaves : List (List Op)) → leaves ≡ map (λ (state : State). state.leave) states → (state : ℕ)
    → get_or leaves state [] ≡ (state_of states state).leave
leave_at states leaves is state = ap (λ l. get_or l state []) is ∙ at states state
  where
    at : (states : List State) (state : ℕ) → get_or (map (λ (state : State). state.leave) states) state [] ≡ (state_of states state).leave
    at [] state = refl
    at (first ∷ states) zero = refl
    at (first ∷ states) (suc state) = at states state
