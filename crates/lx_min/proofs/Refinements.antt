-- How far a round of refinement has come.
use Rattle.std.proofs.Common.{◌≡◌, ◌⊎◌, inl, inr, ℕ, ◌+◌, ◌<◌, ◌≤◌, Bool, true, false, List, [], ◌∷◌, ◌++◌, length, get_or, take, Some, refl, sym, ap, ◌∙◌, subst, arith, append-nil, append_assoc}
use Rattle.std.proofs.lemmas.Bool.{cases_lt}
use Rattle.std.proofs.lemmas.List.{get_or-take, get_or_append_left, get_or_past, get_or_push, length-take-le, length_push, take_more}
use Rattle.std.proofs.lemmas.Option.{slice_get_within}
use Rattle.lx_auto.specs.MetStates.{is_marked}
use Rattle.lx_min.specs.declared.looks.Look.{Look}
use Rattle.lx_min.specs.declared.partitions.Partition.{Partition}
use Rattle.lx_min.specs.declared.rounds.Round.{Round}
use Rattle.lx_min.specs.declared.signatures.Signature.{Signature}
use Rattle.lx_min.specs.Joined.{class_in}
use Rattle.lx_min.specs.Rounds.{AreMarked, AreOwn, IsRefined, Takes}
use Rattle.lx_min.specs.Signatures.{AreChosen, HasSign, Sign, seen_sign, sign_of}
use Rattle.lx_min.proofs.SignatureLists.{HasSign-more}

module _ (class : ℕ → ℕ) (looks : List Look) where
  -- states with the same signature
  pub same-at : (signatures : List Signature) (place state other : ℕ) (has : HasSign class looks signatures place state)
      (also : HasSign class looks signatures place other) → sign_of class has.look state ≡ sign_of class also.look other
  same-at signatures place state other has also =
      let both : Some has.signature ≡ Some also.signature = sym has.stands ∙ also.stands in
      let one : has.signature ≡ also.signature = cc in
      sym has.same ∙ ap seen_sign one ∙ also.same

  pub same-class : (signatures : List Signature) (place state other : ℕ) → HasSign class looks signatures place state
      → HasSign class looks signatures place other → class state ≡ class other
  same-class signatures place state other has also = ap (λ (s : Sign). s.class) (same-at signatures place state other has also)

-- the states that were chosen are chosen one by one
module _ (looks : List Look) (given : Partition) (own : AreOwn looks given) (before after : Round) (place number : ℕ)
    (within : place < length given.chosen.items) (same : before.chosen.items ≡ take place given.chosen.items)
    (are : AreChosen (class_in given.class.items) looks after.signatures.keys after.chosen.items)
    (has : HasSign (class_in given.class.items) looks after.signatures.keys number (get_or given.chosen.items place 0)) where
  count : after.chosen.items ≡ before.chosen.items → length after.chosen.items ≡ place
  count stays = ap length (stays ∙ same) ∙ length-take-le place given.chosen.items (omega arith)

  not-there : after.chosen.items ≡ before.chosen.items → ⊥
  not-there stays =
      let lt : number < length after.chosen.items =
      omega (arith, are.count, slice_get_within after.signatures.keys number has.signature has.stands) in
      let early : number < place = omega (arith, count stays, lt) in
      let stands : get_or after.chosen.items number 0 ≡ get_or given.chosen.items number 0 =
      ap (λ l. get_or l number 0) (stays ∙ same) ∙ get_or-take place given.chosen.items number 0 early in
      let classes = same-class (class_in given.class.items) looks after.signatures.keys number (get_or after.chosen.items number 0)
      (get_or given.chosen.items place 0) (are.signed number lt) has in
      let one : number ≡ place =
      (own number (omega arith)).1 place within (ap (class_in given.class.items) (sym stands) ∙ classes) in
      absurd (omega arith)

  pub chosen-again : Takes before after (get_or given.chosen.items place 0) → after.chosen.items ≡ take (place + 1) given.chosen.items
  chosen-again takes = at takes.chosen
    where
      at : (after.chosen.items ≡ before.chosen.items)
          ⊎ (after.chosen.items ≡ before.chosen.items ++ get_or given.chosen.items place 0 ∷ [])
          → after.chosen.items ≡ take (place + 1) given.chosen.items
      at (inl stays) = absurd (not-there stays)
      at (inr pushed) =
          pushed ∙ ap (λ l. l ++ get_or given.chosen.items place 0 ∷ []) same ∙ sym (take_more given.chosen.items place 0 within)

-- what was chosen stays so
pub kept-more : (before after : Round) (state : ℕ) (first : List ℕ) → Takes before after state
    → (more : List ℕ) × (before.chosen.items ≡ first ++ more) → (more : List ℕ) × (after.chosen.items ≡ first ++ more)
kept-more before after state first takes (more, kept) = at takes.chosen
  where
    at : (after.chosen.items ≡ before.chosen.items) ⊎ (after.chosen.items ≡ before.chosen.items ++ state ∷ [])
        → (more : List ℕ) × (after.chosen.items ≡ first ++ more)
    at (inl stays) = (more, stays ∙ kept)
    at (inr pushed) =
        (more ++ state ∷ [], pushed ∙ ap (λ l. l ++ state ∷ []) kept ∙ append_assoc first more (state ∷ []))

-- how far it has come: each marked state below the place has its class
pub record HasCome (marks : List Bool) (looks : List Look) (given : Partition) (round : Round) (classes : List ℕ) (place : ℕ) : Type 0 where
  pub chosen : AreChosen (class_in given.class.items) looks round.signatures.keys round.chosen.items
  pub kept : (more : List ℕ) × (round.chosen.items ≡ given.chosen.items ++ more)
  pub marked : AreMarked marks round.chosen.items
  pub fit : length classes ≡ place
  pub signed : (state : ℕ) → state < place → is_marked marks state ≡ true
      → HasSign (class_in given.class.items) looks round.signatures.keys (class_in classes state) state

module _ (marks : List Bool) (looks : List Look) (given : Partition) where
  signed-more : (before : Round) (signatures : List Signature) (classes : List ℕ) (place number : ℕ)
      → HasCome marks looks given before classes place → (more : List Signature) → signatures ≡ before.signatures.keys ++ more
      → (is_marked marks place ≡ true → HasSign (class_in given.class.items) looks signatures number place)
      → (state : ℕ) → state < place + 1 → is_marked marks state ≡ true
      → HasSign (class_in given.class.items) looks signatures (class_in (classes ++ number ∷ []) state) state
  signed-more before signatures classes place number come more grown now state lt marked = at (cases_lt state place)
    where
      at : (state < place) ⊎ (place ≤ state)
          → HasSign (class_in given.class.items) looks signatures (class_in (classes ++ number ∷ []) state) state
      at (inl early) =
          subst (λ n. HasSign (class_in given.class.items) looks signatures n state)
          (sym (get_or_append_left classes (number ∷ []) 0 state (omega (arith, come.fit, early))))
          (subst (λ l. HasSign (class_in given.class.items) looks l (class_in classes state) state) (sym grown)
          (HasSign-more (class_in given.class.items) looks before.signatures.keys more (class_in classes state) state
          (come.signed state early marked)))
      at (inr late) =
          let here : place ≡ state = omega arith in
          subst (λ n. HasSign (class_in given.class.items) looks signatures n state)
          (sym (get_or_push classes number 0 state (omega (arith, come.fit, here))))
          (subst (λ s. is_marked marks s ≡ true → HasSign (class_in given.class.items) looks signatures number s) here now marked)

  marked-more : (before after : Round) (state : ℕ) → Takes before after state → AreMarked marks before.chosen.items
      → is_marked marks state ≡ true → AreMarked marks after.chosen.items
  marked-more before after state takes are is = at takes.chosen
    where
      pushed-marked : (place : ℕ) → place < length (before.chosen.items ++ state ∷ [])
          → (place < length before.chosen.items) ⊎ (length before.chosen.items ≤ place)
          → is_marked marks (get_or (before.chosen.items ++ state ∷ []) place 0) ≡ true
      pushed-marked place lt (inl front) =
          ap (is_marked marks) (get_or_append_left before.chosen.items (state ∷ []) 0 place front) ∙ are place front
      pushed-marked place lt (inr past) =
          let ends : length before.chosen.items ≡ place = omega (arith, length_push before.chosen.items state) in
          ap (is_marked marks) (get_or_push before.chosen.items state 0 place ends) ∙ is

      at : (after.chosen.items ≡ before.chosen.items) ⊎ (after.chosen.items ≡ before.chosen.items ++ state ∷ [])
          → AreMarked marks after.chosen.items
      at (inl stays) = subst (AreMarked marks) (sym stays) are
      at (inr pushed) =
          subst (AreMarked marks) (sym pushed) (λ place lt. pushed-marked place lt (cases_lt place (length before.chosen.items)))

  -- one state more has its class
  pub come-met : (before after : Round) (classes : List ℕ) (place number : ℕ) → HasCome marks looks given before classes place
      → AreChosen (class_in given.class.items) looks after.signatures.keys after.chosen.items
      → HasSign (class_in given.class.items) looks after.signatures.keys number place → Takes before after place
      → is_marked marks place ≡ true → HasCome marks looks given after (classes ++ number ∷ []) (place + 1)
  come-met before after classes place number come are has takes is_met = record {
    chosen = are;
    kept = kept-more before after place given.chosen.items takes come.kept;
    marked = marked-more before after place takes come.marked is_met;
    fit = length_push classes number ∙ ap (λ n. n + 1) come.fit;
    signed = signed-more before after.signatures.keys classes place number come takes.more takes.signatures (λ marked. has);
  }

  -- a state without a mark has none
  pub come-unmet : (round : Round) (classes : List ℕ) (place number : ℕ) → HasCome marks looks given round classes place
      → (is_marked marks place ≡ true → ⊥) → HasCome marks looks given round (classes ++ number ∷ []) (place + 1)
  come-unmet round classes place number come unmarked = record {
    chosen = come.chosen;
    kept = come.kept;
    marked = come.marked;
    fit = length_push classes number ∙ ap (λ n. n + 1) come.fit;
    signed = signed-more round round.signatures.keys classes place number come [] (sym (append-nil round.signatures.keys))
        (λ marked. absurd (unmarked marked));
  }

  pub come-first : (round : Round) → AreChosen (class_in given.class.items) looks round.signatures.keys round.chosen.items
      → round.chosen.items ≡ given.chosen.items → AreMarked marks given.chosen.items → HasCome marks looks given round [] 0
  come-first round are same marked = record {
    chosen = are;
    kept = ([], same ∙ sym (append-nil given.chosen.items));
    marked = subst (AreMarked marks) (sym same) marked;
    fit = refl;
    signed = λ state lt marked. absurd (omega arith);
  }

  pub come-all : (round : Round) (next : Partition) (place : ℕ) → HasCome marks looks given round next.class.items place
      → round.chosen.items ≡ next.chosen.items → length marks ≡ length looks → place ≡ length marks → IsRefined marks looks given next
  come-all round next place come same fit all = record {
    signatures = round.signatures.keys;
    more = come.kept.0;
    kept = sym same ∙ come.kept.1;
    chosen = subst (AreChosen (class_in given.class.items) looks round.signatures.keys) same come.chosen;
    marked = subst (AreMarked marks) same come.marked;
    fit = come.fit ∙ all ∙ fit;
    signed = λ state marked. come.signed state (within state marked (cases_lt state (length marks))) marked;
  }
    where
      within : (state : ℕ) → is_marked marks state ≡ true → (state < length marks) ⊎ (length marks ≤ state) → state < place
      within state marked (inl lt) = omega (arith, all, lt)
      within state marked (inr past) =
          let none : is_marked marks state ≡ false = get_or_past marks state false past in absurd (cc (none, marked))
