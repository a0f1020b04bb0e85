-- A cut stands at a place: that of its leaf, and of what was read in it.
use Rattle.std.proofs.Common.{◌≡◌, ℕ, ◌+◌, ◌*◌, arith, List, [], ◌∷◌, ◌++◌, map, refl, sym, ap, ap₂, ◌∙◌, subst, append_assoc}
use Rattle.lx_regex.specs.ClassLimits.{AllClassesFit}
use Rattle.lx_base.specs.declared.settings.Enc.{Enc}
use Rattle.lx_encode.specs.Graph.{numbered}
use Rattle.lx_regex.specs.Automaton.{automaton}
use Rattle.lx_regex.specs.Cut.{Cut, EndsInUnit, Finishes, GoesOn, IsCut, last_part, rule_part}
use Rattle.lx_regex.specs.Pattern.{Pattern, terms_of}
use Rattle.lx_regex.specs.Plain.{IsPlain}
use Rattle.lx_regex.specs.Script.{Symbol, ends, reads, script}
use Rattle.lx_regex.specs.Term.{Term}
use Rattle.lx_regex.specs.Walk.{Walk, symbols}
use Rattle.lx_regex.proofs.KernelCuts.Cuts.{cutting_of, front_part, paired_rules, rule_positive, rule_stands, way_of}
use Rattle.lx_regex.proofs.Walks.Exchange.{first_mark, plain_from, plain_rest, plain_swap, reads_match, resume}
use Rattle.lx_regex.proofs.Walks.Fronts.{Front}
use Rattle.lx_regex.proofs.Walks.PlainWalk.{plain_list, plain_reads}
use Rattle.lx_regex.proofs.PartTables.Rows.{mark_ends}
use Rattle.lx_regex.proofs.Walks.WholeWalk.{tree_of}
use Rattle.lx_tnfa.specs.Classes.{AreClasses}
use Rattle.lx_tnfa.specs.LeafReadings.{IsLeft}
use Rattle.lx_tnfa.specs.Live.{state_of}
use Rattle.lx_tnfa.specs.PlaceNumbers.{rest_left}
use Rattle.lx_tnfa.specs.Rows.{RepresentEach}
use Rattle.lx_tnfa.specs.CutPlaces.{StandsAt}
use Rattle.lx_tnfa.specs.Tnfa.{IsRest, IsTnfaOf, Tnfa}
use Rattle.lx_tnfa.specs.declared.places.Place.{Place}
use Rattle.lx_tnfa.proofs.Leaves.FrontLeaves.{front_leaf, front_left, since}
use Rattle.lx_tnfa.proofs.Leaves.LeafGraphs.{EndsBy}
use Rattle.lx_tnfa.proofs.Leaves.LeafRests.{left_below, left_ends, left_rest, reading_left}
use Rattle.lx_tnfa.proofs.Leaves.RestPlaces.{StepsStay, rest_ends, steps_stay}
use Rattle.lx_tnfa.proofs.Construction.WholeTable.{held_length}

module _ (tnfa : Tnfa) (rules : List Term) (are : AreClasses tnfa.enc tnfa.classes) (states : RepresentEach tnfa.classes (automaton rules) tnfa.states) (fits : AllClassesFit tnfa.enc rules) (stay : StepsStay tnfa.classes) (cut : Cut) (after : EndsInUnit cut.front) where
  -- the part in which the cut stands, the state at its beginning, and the residual of what was read in it
  abbrev part : ℕ
  part = last_part 0 cut.front

  abbrev leaf : ℕ
  leaf = 2 * last_part 0 cut.front

  abbrev rest : ℕ
  rest = rest_left tnfa (2 * last_part 0 cut.front) (since [] cut.front)

  -- a walk of the cut's rule, behind the leaf
  record Behind (more : List Symbol) : Type 0 where
    pub left : List ℕ
    pub front : Front tnfa.enc (automaton rules) leaf left (2 * rule_part rules cut.rule) cut.front
    pub walk : Walk (automaton rules) 0 (leaf + 1)
    pub later : List Symbol
    pub says : symbols tnfa.enc walk [] ≡ ends part ∷ later
    pub goes : more ≡ map reads left ++ ends part ∷ later

  behind : (more : List Symbol) → GoesOn tnfa.enc rules cut more → Behind more
  behind more go =
      let c = cutting_of tnfa.enc rules cut.rule cut.front more after (way_of tnfa.enc rules cut more go) in
      let same : c.at ≡ leaf = front_part tnfa.enc (automaton rules) (paired_rules rules 1) c.at c.left c.front 0 in
      let walk : (w : Walk (automaton rules) 0 (leaf + 1)) × (symbols tnfa.enc w [] ≡ symbols tnfa.enc c.walk []) =
      subst (λ n. (w : Walk (automaton rules) 0 (n + 1)) × (symbols tnfa.enc w [] ≡ symbols tnfa.enc c.walk [])) same (c.walk, refl) in
      let first = first_mark tnfa.enc (automaton rules) 0 walk.0 (λ e. absurd (omega arith)) in
      let says = first.1 ∙ ap (λ x. x ∷ first.0) (mark_ends part) in
      record {
        left = c.left;
        front = subst (λ n. Front tnfa.enc (automaton rules) n c.left (2 * rule_part rules cut.rule) cut.front) same c.front;
        walk = walk.0;
        later = first.0;
        says = says;
        goes = c.goes ∙ ap (λ x. map reads c.left ++ x) (sym walk.1 ∙ says);
      }

  so_far : (more : List Symbol) → (b : Behind more) → IsLeft tnfa.enc rules leaf (since [] cut.front) b.left
  so_far more b = front_leaf tnfa.enc rules b.front []

  -- units that finish the cut finish the residual
  forth : (left : List ℕ) → Finishes tnfa.enc rules cut left → EndsBy tnfa.classes (state_of tnfa.states leaf) rest left
  forth left fin =
      let b = behind (map reads left ++ ends part ∷ fin.0) fin.1 in
      let same = reads_match left b.left (ends part) (ends part) (2 * part + 1) (2 * part + 1) fin.0 b.later refl refl b.goes in
      left_ends tnfa are rules states fits leaf (since [] cut.front) left
      (subst (IsLeft tnfa.enc rules leaf (since [] cut.front)) (sym same.0) (so_far (map reads left ++ ends part ∷ fin.0) b))

  -- and the other way round
  back : (more : List Symbol) → GoesOn tnfa.enc rules cut more → (left : List ℕ) → EndsBy tnfa.classes (state_of tnfa.states leaf) rest left
      → Finishes tnfa.enc rules cut left
  back more go left finish =
      let b = behind more go in
      let front =
      front_left tnfa.enc rules left b.front []
      (λ row choice read at reading is. reading_left tnfa are rules states fits leaf row choice read left b.left at reading
      (subst (λ l. EndsBy tnfa.classes (state_of tnfa.states leaf) (rest_left tnfa leaf l) left) is finish)) in
      let w = resume tnfa.enc (automaton rules) 0 front b.walk in
      let says : symbols tnfa.enc w.0 [] ≡ cut.front ++ (map reads left ++ ends part ∷ b.later) =
      w.1 ∙ ap (λ x. cut.front ++ (map reads left ++ x)) b.says in
      let t =
      tree_of tnfa.enc (automaton rules) go.0 (rule_part rules cut.rule) (rule_stands rules cut.rule go.0 go.2)
      (rule_positive rules cut.rule) refl w.0 in
      let s : script tnfa.enc (rule_part rules cut.rule) t.0 ≡ cut.front ++ (map reads left ++ ends part ∷ b.later) = sym t.1 ∙ says in
      let old : script tnfa.enc (rule_part rules cut.rule) go.1 ≡ after.0 ++ reads after.1 ∷ (map reads b.left ++ ends part ∷ b.later) =
      go.3 ∙ ap₂ (λ x y. x ++ y) after.2 b.goes ∙ append_assoc after.0 (reads after.1 ∷ []) _ in
      let new : after.0 ++ reads after.1 ∷ (map reads left ++ ends part ∷ b.later) ≡ script tnfa.enc (rule_part rules cut.rule) t.0 =
      sym (append_assoc after.0 (reads after.1 ∷ []) _) ∙ ap (λ x. x ++ (map reads left ++ ends part ∷ b.later)) (sym after.2) ∙ sym s in
      let plain = subst IsPlain old go.4 in
      let tail = plain_tail (after.0 ++ reads after.1 ∷ map reads b.left) (ends part ∷ b.later) (subst IsPlain (sym (append_assoc after.0 (reads after.1 ∷ map reads b.left) (ends part ∷ b.later))) plain) in
      let begun = plain_list (reads after.1 ∷ (map reads left ++ ends part ∷ b.later)) (plain_reads left (ends part ∷ b.later) (plain_from (ends part ∷ b.later) tail)) in
      (b.later, (go.0, t.0, go.2, s, subst IsPlain new (plain_swap [] after.0 after.1 after.1 _ _ begun plain)))
    where
      plain_tail : (front tail : List Symbol) → IsPlain (front ++ tail) → IsPlain tail
      plain_tail [] tail h = h
      plain_tail (x ∷ front) tail h = plain_tail front tail (plain_rest x (front ++ tail) h)

  pub cut_stands : (more : List Symbol) → GoesOn tnfa.enc rules cut more → (place : Place) × StandsAt tnfa.enc rules tnfa cut place
  cut_stands more go =
      let b = behind more go in
      let so = so_far more b in
      let count = held_length tnfa.classes (automaton rules) tnfa.states states in
      let is : IsRest tnfa.classes (state_of tnfa.states leaf) part rest =
      left_rest tnfa are rules states fits part leaf (since [] cut.front) b.left stay so in (
        record { part = part; rest = numbered rest },
        record {
          is_place = record { part = omega (arith, count, left_below tnfa are rules states fits leaf (since [] cut.front) b.left so); rest = is };
          part = refl;
          left = λ left. (
            λ fin. (rest_ends tnfa.classes (state_of tnfa.states leaf) part rest left is).0 (forth left fin),
            λ fin. back more go left ((rest_ends tnfa.classes (state_of tnfa.states leaf) part rest left is).1 fin),
          );
        },
      )

-- each cut of a word stands at a place of the automaton
pub cut_place : (enc : Enc) (patterns : List Pattern) (tnfa : Tnfa) (word : List ℕ) (cut : Cut) → IsTnfaOf enc patterns tnfa
    → AllClassesFit enc (terms_of patterns) → IsCut enc (terms_of patterns) word cut
    → (place : Place) × StandsAt enc (terms_of patterns) tnfa cut place
cut_place enc patterns tnfa word cut of fits is =
    subst (λ e. (place : Place) × StandsAt e (terms_of patterns) tnfa cut place) of.enc
    (cut_stands tnfa (terms_of patterns) are of.states (subst (λ e. AllClassesFit e (terms_of patterns)) (sym of.enc) fits)
    (steps_stay tnfa.enc tnfa.classes are) cut is.after_unit is.possible.0
    (subst (λ e. GoesOn e (terms_of patterns) cut is.possible.0) (sym of.enc) is.possible.1))
  where
    are : AreClasses tnfa.enc tnfa.classes
    are = subst (λ e. AreClasses e tnfa.classes) (sym of.enc) of.classes
