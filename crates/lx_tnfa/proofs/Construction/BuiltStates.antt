-- States that are built one behind another.
use Rattle.std.proofs.Common.{◌≡◌, ℕ, zero, suc, ◌+◌, ◌-◌, ◌*◌, ◌<◌, ◌≤◌, arith, List, [], ◌∷◌, ◌++◌, map, length, get_or, drop, refl, sym, ap, ◌∙◌, subst, append_assoc, append-nil, length-append, length-drop, ◌⊎◌, inl, inr, ⊎_elim}
use Rattle.std.proofs.Math.ListN.{drop_of_length-le}
use Rattle.lx_regex.specs.ClassLimits.{ClassesFit, ClassesFitAmong}
use Rattle.lx_base.specs.declared.settings.Enc.{Enc}
use Rattle.lx_regex.specs.Automaton as spec
use Rattle.lx_regex.specs.Automaton.{moves, leaf, unit_leaf, table, next_member}
use Rattle.lx_regex.specs.Expr.{term_of}
use Rattle.lx_regex.specs.Term.{Term, empty, class, any_unit, cat, alt, repeat, tag, group, Terms, nil, cons, parts, parts_of_all}
use Rattle.lx_regex.specs.declared.expr.Expr.{Expr}
use Rattle.lx_regex.specs.declared.expr.Expr.TheVariants.{Empty, Class, AnyUnit, STag, MTag}
use Rattle.lx_regex.proofs.Trees.Folds.{term_of-empty, term_of-class, term_of-any_unit, term_of-stag, term_of-mtag}
use Rattle.lx_regex.proofs.Trees.NoUnits.{terms_in, next_member as next_expr}
use Rattle.lx_regex.proofs.PartTables.PartLists.{IsLeafForm}
use Rattle.lx_tnfa.specs.Beginnings.{first_state, inner_states}
use Rattle.lx_tnfa.specs.Classes.{Adds, AreClasses}
use Rattle.lx_tnfa.specs.Moves.{shown_move}
use Rattle.lx_tnfa.specs.Rows.{AreBuildable, RepresentEach, Builds, HasRoom, IsBuildable, Represents}
use Rattle.lx_tnfa.specs.declared.building.Building.{Building}
use Rattle.lx_tnfa.specs.declared.classes.ClassGraph.{ClassGraph}
use Rattle.lx_tnfa.specs.declared.states.Move.{Move}
use Rattle.lx_tnfa.specs.declared.states.State.{State}
use Rattle.lx_tnfa.specs.declared.states.State.TheVariants as held
use Rattle.lx_tnfa.proofs.Leaves.ClassLists.{class_front}
use Rattle.lx_tnfa.proofs.Construction.Members.{ends_at, parts_next}

-- states stay held when classes come
is_held_more : (classes later : List ClassGraph) (row : spec.State) (state : State) → Represents classes row state → Represents (classes ++ later) row state
is_held_more classes later (moves ways) (held.Moves list) h = h
is_held_more classes later (moves ways) (held.Class number) h = absurd h
is_held_more classes later (moves ways) held.AnyUnit h = absurd h
is_held_more classes later (leaf ranges) (held.Moves list) h = absurd h
is_held_more classes later (leaf ranges) (held.Class number) h = class_front classes (classes ++ later) later number _ refl h
is_held_more classes later (leaf ranges) held.AnyUnit h = absurd h
is_held_more classes later unit_leaf (held.Moves list) h = absurd h
is_held_more classes later unit_leaf (held.Class number) h = absurd h
is_held_more classes later unit_leaf held.AnyUnit h = tt

held_more : (classes later : List ClassGraph) (rows : List spec.State) (states : List State) → RepresentEach classes rows states
    → RepresentEach (classes ++ later) rows states
held_more classes later [] [] h = tt
held_more classes later [] (state ∷ states) h = absurd h
held_more classes later (row ∷ rows) [] h = absurd h
held_more classes later (row ∷ rows) (state ∷ states) h =
    (is_held_more classes later row state h.0, held_more classes later rows states h.1)

held_append : (classes : List ClassGraph) (rows others : List spec.State) (states more : List State) → RepresentEach classes rows states
    → RepresentEach classes others more → RepresentEach classes (rows ++ others) (states ++ more)
held_append classes [] others [] more h k = k
held_append classes [] others (state ∷ states) more h k = absurd h
held_append classes (row ∷ rows) others [] more h k = absurd h
held_append classes (row ∷ rows) others (state ∷ states) more h k = (h.0, held_append classes rows others states more h.1 k)

pub builds_none : (now : Building) → AreClasses now.classes.enc now.classes.list.items → Builds now now []
builds_none now are_classes = record {
  enc = refl;
  are_classes = are_classes;
  later = [];
  classes = sym (append-nil now.classes.list.items);
  few = omega arith;
  more = [];
  states = sym (append-nil now.states.items);
  held = tt;
}

pub builds_then : (a b c : Building) (rows others : List spec.State) → Builds a b rows → Builds b c others → Builds a c (rows ++ others)
builds_then a b c rows others first then = record {
  enc = then.enc ∙ first.enc;
  are_classes = then.are_classes;
  later = first.later ++ then.later;
  classes = then.classes ∙ ap (λ l. l ++ then.later) first.classes ∙ append_assoc a.classes.list.items first.later then.later;
  few = omega (arith, first.few, then.few, length-append first.later then.later, length-append rows others);
  more = first.more ++ then.more;
  states = then.states ∙ ap (λ l. l ++ then.more) first.states ∙ append_assoc a.states.items first.more then.more;
  held =
      held_append c.classes.list.items rows others first.more then.more
      (subst (λ l. RepresentEach l rows first.more) (sym then.classes) (held_more b.classes.list.items then.later rows first.more first.held)) then.held;
}

pub room_then : (a b : Building) (part front back : ℕ) (rows : List spec.State) → HasRoom a part (front + back) → Builds a b rows
    → length rows ≡ 2 * front → HasRoom b (part + front) back
room_then a b part front back rows room builds count = record {
  parts = omega (arith, room.parts);
  classes = omega (arith, room.classes, ap length builds.classes, length-append a.classes.list.items builds.later, builds.few, count);
  are_classes = builds.are_classes;
}

pub room_front : (a : Building) (part front back : ℕ) → HasRoom a part (front + back) → HasRoom a part front
room_front a part front back room = record { parts = omega (arith, room.parts); classes = room.classes; are_classes = room.are_classes }

-- the state at the beginning of a part and the one at its end
pub builds_ends :
    (old new : Building) (row : spec.State) (ways : List spec.Move) (state : State) (exits : List Move) → Adds old.classes new.classes 1
    → AreClasses new.classes.enc new.classes.list.items → Represents new.classes.list.items row state
    → exits ≡ map shown_move ways → new.states.items ≡ old.states.items ++ state ∷ held.Moves exits ∷ []
    → Builds old new (row ∷ moves ways ∷ [])
builds_ends old new row ways state exits adds are_classes is out pushed = record {
  enc = adds.enc;
  are_classes = are_classes;
  later = adds.later;
  classes = adds.list;
  few = omega (arith, adds.few);
  more = state ∷ held.Moves exits ∷ [];
  states = pushed;
  held = (is, (out, tt));
}

pub table-ends : (e : Term) (part : ℕ) (ways : List spec.Move) → table e part ways ≡ (first_state e part ∷ moves ways ∷ []) ++ inner_states e part
table-ends empty part ways = refl
table-ends (class ranges) part ways = refl
table-ends any_unit part ways = refl
table-ends (cat members) part ways = refl
table-ends (alt members) part ways = refl
table-ends (repeat body low high) part ways = refl
table-ends (tag number) part ways = refl
table-ends (group opening closing body) part ways = refl

fits_at : (enc : Enc) (tags : ℕ) (members : List Expr) (i : ℕ) (member : Expr) → i < length members → member ≡ get_or members i member
    → ClassesFitAmong enc (terms_in tags members) → ClassesFit enc (term_of tags member)
fits_at enc tags [] i member lt is fit = absurd (omega arith)
fits_at enc tags (x ∷ members) zero member lt is fit = subst (λ y. ClassesFit enc (term_of tags y)) (sym is) fit.0
fits_at enc tags (x ∷ members) (suc i) member lt is fit = fits_at enc tags members i member (omega arith) is fit.1

pub buildable_at : (enc : Enc) (tags : ℕ) (members : List Expr) (i : ℕ) (member : Expr) → i < length members → member ≡ get_or members i member
    → AreBuildable enc (terms_in tags members) → IsBuildable enc (term_of tags member)
buildable_at enc tags members i member lt is fit =
    (ends_at tags members i member lt is fit.0, fits_at enc tags members i member lt is fit.1)

-- What a loop over members has built. `rows` are the states of members, of which the first is a part.
pub record MembersBuilt (rows : Terms → ℕ → List spec.State) (start now : Building) (tags first : ℕ) (members : List Expr) (part i : ℕ) : Type 0 where
  pub done : List spec.State
  pub builds : Builds start now done
  pub left : done ++ rows (terms_in tags (drop i members)) part ≡ rows (terms_in tags members) first
  pub room : HasRoom now part (parts_of_all (terms_in tags (drop i members)))

module _ (rows : Terms → ℕ → List spec.State) (own : Term → Terms → ℕ → List spec.State)
    (none : (part : ℕ) → rows nil part ≡ [])
    (one : (e : Term) (others : Terms) (part : ℕ) → rows (cons e others) part ≡ own e others part ++ rows others (part + parts e))
    (size : (e : Term) (others : Terms) (part : ℕ) → length (own e others part) ≡ 2 * parts e) where
  pub members_begin : (start : Building) (tags first : ℕ) (members : List Expr) → HasRoom start first (parts_of_all (terms_in tags members))
      → MembersBuilt rows start start tags first members first 0
  members_begin start tags first members room = record { done = []; builds = builds_none start room.are_classes; left = refl; room = room }

  pub member_room : (start now : Building) (tags first : ℕ) (members : List Expr) (part i : ℕ) (member : Expr) → i < length members
      → member ≡ get_or members i member → MembersBuilt rows start now tags first members part i
      → HasRoom now part (parts (term_of tags member) + parts_of_all (terms_in tags (drop (suc i) members)))
  member_room start now tags first members part i member lt is built =
      subst (HasRoom now part) (parts_next tags members i member lt is) built.room

  pub members_more :
      (start now new : Building) (tags first : ℕ) (members : List Expr) (part i : ℕ) (member : Expr) → i < length members
      → member ≡ get_or members i member → MembersBuilt rows start now tags first members part i
      → Builds now new (own (term_of tags member) (terms_in tags (drop (suc i) members)) part)
      → MembersBuilt rows start new tags first members (part + parts (term_of tags member)) (suc i)
  members_more start now new tags first members part i member lt is built more =
      let e = term_of tags member in
      let others = terms_in tags (drop (suc i) members) in record {
        done = built.done ++ own e others part;
        builds = builds_then start now new built.done (own e others part) built.builds more;
        left =
            append_assoc built.done (own e others part) (rows others (part + parts e))
            ∙ ap (λ l. built.done ++ l) (sym (one e others part) ∙ ap (λ t. rows (terms_in tags t) part) (sym (next_expr members i member lt is)))
            ∙ built.left;
        room =
            room_then now new part (parts e) (parts_of_all others) (own e others part)
            (member_room start now tags first members part i member lt is built) more (size e others part);
      }

  pub members_end : (start now : Building) (tags first : ℕ) (members : List Expr) (part i : ℕ) → length members ≤ i
      → MembersBuilt rows start now tags first members part i → Builds start now (rows (terms_in tags members) first)
  members_end start now tags first members part i le built =
      subst
      (Builds start now)
      (sym (append-nil built.done) ∙ ap (λ l. built.done ++ l) (sym (ap (λ t. rows (terms_in tags t) part) (drop_of_length-le members le) ∙ none part)) ∙ built.left)
      built.builds

-- where a member of a sequence leads: to the next one, or behind the last one to the end
pub leads_on : (tags : ℕ) (members : List Expr) (i part last to : ℕ)
    → ((suc i < length members) × (to ≡ 2 * part)) ⊎ ((length members ≤ suc i) × (to ≡ last))
    → to ≡ next_member part (terms_in tags (drop (suc i) members)) last
leads_on tags members i part last to (inl more) = at (drop (suc i) members) (length-drop (suc i) members)
  where
    at : (rest : List Expr) → length rest ≡ length members - suc i → to ≡ next_member part (terms_in tags rest) last
    at [] e = absurd (omega (arith, more.0, e))
    at (x ∷ rest) e = more.1
leads_on tags members i part last to (inr none) =
    none.1 ∙ ap (λ l. next_member part (terms_in tags l) last) (sym (drop_of_length-le members none.0))

-- an expression's two ends and then what stands in it
pub built : (old mid new : Building) (tags part : ℕ) (e form : Expr) (term : Term) (state : State) (exits : List Move) (ways : List spec.Move)
    → e ≡ form → term_of tags form ≡ term → Adds old.classes mid.classes 1 → AreClasses mid.classes.enc mid.classes.list.items
    → Represents mid.classes.list.items (first_state (term_of tags e) part) state
    → mid.states.items ≡ old.states.items ++ state ∷ held.Moves exits ∷ []
    → Builds mid new (inner_states term part) → exits ≡ map shown_move ways → Builds old new (table (term_of tags e) part ways)
built old mid new tags part e form term state exits ways is folds adds are_classes first pushed inner out =
    let t = term_of tags e in
    let same : t ≡ term = ap (term_of tags) is ∙ folds in
    subst
    (Builds old new) (sym (table-ends t part ways))
    (builds_then old mid new (first_state t part ∷ moves ways ∷ []) (inner_states t part)
    (builds_ends old mid (first_state t part) ways state exits adds are_classes first out pushed)
    (subst (λ y. Builds mid new (inner_states y part)) (sym same) inner))

pub built_leaf : (old mid : Building) (tags part : ℕ) (e : Expr) (state : State) (exits : List Move) (ways : List spec.Move) → IsLeafForm e
    → Adds old.classes mid.classes 1 → AreClasses mid.classes.enc mid.classes.list.items
    → Represents mid.classes.list.items (first_state (term_of tags e) part) state
    → mid.states.items ≡ old.states.items ++ state ∷ held.Moves exits ∷ []
    → exits ≡ map shown_move ways → Builds old mid (table (term_of tags e) part ways)
built_leaf old mid tags part e state exits ways alone adds are_classes first pushed out =
    ⊎_elim (λ h. form Empty _ h (term_of-empty tags) refl)
    (λ h. ⊎_elim (λ h. form (Class h.0) _ h.1 (term_of-class tags h.0) refl)
    (λ h. ⊎_elim (λ h. form AnyUnit _ h (term_of-any_unit tags) refl)
    (λ h. ⊎_elim (λ h. form (STag h.0) _ h.1 (term_of-stag tags h.0) refl)
    (λ h. form (MTag h.0) _ h.1 (term_of-mtag tags h.0) refl) h) h) h) alone
  where
    form : (f : Expr) (term : Term) → e ≡ f → term_of tags f ≡ term → inner_states term part ≡ []
        → Builds old mid (table (term_of tags e) part ways)
    form f term is folds none =
        built old mid mid tags part e f term state exits ways is folds adds are_classes first pushed
        (subst (Builds mid mid) (sym none) (builds_none mid are_classes)) out

-- two states more
pub both_pushed : (old mid new : List State) (state exits : State) → mid ≡ old ++ state ∷ [] → new ≡ mid ++ exits ∷ []
    → new ≡ old ++ state ∷ exits ∷ []
both_pushed old mid new state exits first then = then ∙ ap (λ l. l ++ exits ∷ []) first ∙ append_assoc old (state ∷ []) (exits ∷ [])

-- there is room for what stands in a part
pub room_inside : (old mid : Building) (part count : ℕ) → HasRoom old part (1 + count) → Adds old.classes mid.classes 1
    → AreClasses mid.classes.enc mid.classes.list.items → HasRoom mid (part + 1) count
room_inside old mid part count room adds are_classes = record {
  parts = omega (arith, room.parts);
  classes = omega (arith, room.classes, ap length adds.list, length-append old.classes.list.items adds.later, adds.few);
  are_classes = are_classes;
}
