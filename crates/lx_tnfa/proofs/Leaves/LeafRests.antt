-- What was read in a leaf leaves a residual, which the units that are left finish, and no others.
use Rattle.std.proofs.Common.{◌≡◌, ℕ, ◌+◌, ◌<◌, List, [], ◌∷◌, ◌++◌, map, refl, sym, ap, ap₂, ◌∙◌, subst, append_assoc, append-nil, Some}
use Rattle.std.specs.Option.{unwrap_or}
use Rattle.std.specs.Prelude.{length, slice_get}
use Rattle.lx_regex.specs.ClassLimits.{AllClassesFit}
use Rattle.lx_regex.specs.Automaton.{State, automaton}
use Rattle.lx_regex.specs.Reading.{IsReading}
use Rattle.lx_regex.specs.Script.{Symbol, choices, reads, units}
use Rattle.lx_regex.specs.Term.{Term}
use Rattle.lx_regex.proofs.KernelCuts.Cuts.{paired_rules}
use Rattle.lx_regex.proofs.Walks.Fronts.{choices_append}
use Rattle.lx_regex.proofs.Walks.PlainWalk.{units_append}
use Rattle.lx_regex.proofs.Walks.Readings.{code_quiet}
use Rattle.lx_tnfa.specs.Classes.{AreClasses}
use Rattle.lx_tnfa.specs.LeafReadings.{IsLeft, IsNth}
use Rattle.lx_tnfa.specs.Live.{state_of}
use Rattle.lx_tnfa.specs.PlaceNumbers.{leaf_starts, rest_behind, rest_left, start_picked}
use Rattle.lx_tnfa.specs.Rows.{RepresentEach}
use Rattle.lx_tnfa.specs.Tnfa.{IsRest, Tnfa, rest_after}
use Rattle.lx_tnfa.proofs.Construction.HeldStates.{held_at}
use Rattle.lx_tnfa.proofs.Leaves.LeafGraphs.{EndsBy, behind_ends, ends_behind, rest_behind-more}
use Rattle.lx_tnfa.proofs.Leaves.LeafStarts.{Starts, leaf_rise, start_found, starts_have, starts_read}
use Rattle.lx_tnfa.proofs.Leaves.RestPlaces.{StepsStay, behind_rest, start_rest}
use Rattle.lx_tnfa.proofs.Leaves.TableLeaves.{leaf_below, leaf_fits}

choices_of : (read : List ℕ) → choices (map reads read) ≡ []
choices_of [] = refl
choices_of (unit ∷ read) = choices_of read

units_of : (read : List ℕ) → units (map reads read) ≡ read
units_of [] = refl
units_of (unit ∷ read) = ap (λ l. unit ∷ l) (units_of read)

pub choices-reads : (choice : List Symbol) (read : List ℕ) → choices (choice ++ map reads read) ≡ choices choice
choices-reads choice read =
    choices_append choice (map reads read) ∙ ap (λ l. choices choice ++ l) (choices_of read) ∙ append-nil (choices choice)

units-reads : (choice : List Symbol) (read : List ℕ) → units choice ≡ [] → units (choice ++ map reads read) ≡ read
units-reads choice read quiet = units_append choice (map reads read) ∙ ap₂ (λ a b. a ++ b) quiet (units_of read)

reads_more : (read : List ℕ) (unit : ℕ) → map reads read ++ reads unit ∷ [] ≡ map reads (read ++ unit ∷ [])
reads_more [] unit = refl
reads_more (first ∷ read) unit = ap (λ l. reads first ∷ l) (reads_more read unit)

module _ (tnfa : Tnfa) (are : AreClasses tnfa.enc tnfa.classes) where
  -- the residual is that to which the units lead from the start that the choice picks
  pub rest_left-start : (leaf index rest : ℕ) (symbols choice : List Symbol) (read : List ℕ) → symbols ≡ choice ++ map reads read
      → units choice ≡ [] → IsNth (leaf_starts tnfa (state_of tnfa.states leaf)) index (choice, rest)
      → rest_left tnfa leaf symbols ≡ rest_behind tnfa.classes (state_of tnfa.states leaf) rest read
  rest_left-start leaf index rest symbols choice read is quiet nth =
      ap₂
      (λ picked us. rest_behind tnfa.classes (state_of tnfa.states leaf) (start_picked (leaf_starts tnfa (state_of tnfa.states leaf)) picked) us)
      (ap choices is ∙ choices-reads choice read) (ap units is ∙ units-reads choice read quiet)
      ∙ ap (λ n. rest_behind tnfa.classes (state_of tnfa.states leaf) n read)
      (start_found (leaf_starts tnfa (state_of tnfa.states leaf)) index (choice, rest) (leaf_rise tnfa are (state_of tnfa.states leaf)) nth)

  -- and one more unit leads on from it
  pub rest_left-more : (leaf : ℕ) (symbols : List Symbol) (unit : ℕ) → rest_left tnfa leaf (symbols ++ reads unit ∷ [])
      ≡ unwrap_or (rest_after tnfa.classes (state_of tnfa.states leaf) (rest_left tnfa leaf symbols) unit) 0
  rest_left-more leaf symbols unit =
      ap₂
      (λ picked us. rest_behind tnfa.classes (state_of tnfa.states leaf) (start_picked (leaf_starts tnfa (state_of tnfa.states leaf)) picked) us)
      (choices_append symbols (reads unit ∷ []) ∙ append-nil (choices symbols)) (units_append symbols (reads unit ∷ []))
      ∙ rest_behind-more tnfa.classes (state_of tnfa.states leaf)
      (start_picked (leaf_starts tnfa (state_of tnfa.states leaf)) (choices symbols)) (units symbols) unit

  module _ (rules : List Term) (states : RepresentEach tnfa.classes (automaton rules) tnfa.states) (fits : AllClassesFit tnfa.enc rules) where
    starts_of : (leaf : ℕ) (symbols : List Symbol) (left : List ℕ) → (so : IsLeft tnfa.enc rules leaf symbols left)
        → Starts tnfa (state_of tnfa.states leaf) so.choice (so.read ++ left)
    starts_of leaf symbols left so =
        starts_have tnfa are so.row (state_of tnfa.states leaf) so.choice (so.read ++ left)
        (held_at tnfa.classes (automaton rules) tnfa.states leaf so.row states so.at) (leaf_fits tnfa.enc rules leaf so.row fits so.at) so.reading

    pub left_ends : (leaf : ℕ) (symbols : List Symbol) (left : List ℕ) → IsLeft tnfa.enc rules leaf symbols left
        → EndsBy tnfa.classes (state_of tnfa.states leaf) (rest_left tnfa leaf symbols) left
    left_ends leaf symbols left so =
        let start = starts_of leaf symbols left so in
        subst (λ n. EndsBy tnfa.classes (state_of tnfa.states leaf) n left)
        (sym (rest_left-start leaf start.index start.rest symbols so.choice so.read so.is (code_quiet tnfa.enc so.reading) start.nth))
        (ends_behind tnfa.classes (state_of tnfa.states leaf) start.rest so.read left start.ends)

    -- what was read goes on with each list that finishes the residual
    pub reading_left : (leaf : ℕ) (row : State) (choice : List Symbol) (read left known : List ℕ) → slice_get (automaton rules) leaf ≡ Some row
        → IsReading tnfa.enc row choice (read ++ known)
        → EndsBy tnfa.classes (state_of tnfa.states leaf) (rest_left tnfa leaf (choice ++ map reads read)) left
        → IsReading tnfa.enc row choice (read ++ left)
    reading_left leaf row choice read left known at reading ends =
        let so : IsLeft tnfa.enc rules leaf (choice ++ map reads read) known =
        record { row = row; choice = choice; read = read; at = at; is = refl; reading = reading } in
        let start = starts_of leaf (choice ++ map reads read) known so in
        starts_read tnfa are row (state_of tnfa.states leaf) start.index choice start.rest (read ++ left)
        (held_at tnfa.classes (automaton rules) tnfa.states leaf row states at) start.nth
        (behind_ends tnfa.classes (state_of tnfa.states leaf) start.rest read left known start.ends
        (subst (λ n. EndsBy tnfa.classes (state_of tnfa.states leaf) n left)
        (rest_left-start leaf start.index start.rest (choice ++ map reads read) choice read refl (code_quiet tnfa.enc reading) start.nth) ends))

    pub ends_left : (leaf : ℕ) (symbols : List Symbol) (left known : List ℕ) → IsLeft tnfa.enc rules leaf symbols known
        → EndsBy tnfa.classes (state_of tnfa.states leaf) (rest_left tnfa leaf symbols) left → IsLeft tnfa.enc rules leaf symbols left
    ends_left leaf symbols left known so ends = record {
      row = so.row;
      choice = so.choice;
      read = so.read;
      at = so.at;
      is = so.is;
      reading =
          reading_left leaf so.row so.choice so.read left known so.at so.reading
          (subst (λ l. EndsBy tnfa.classes (state_of tnfa.states leaf) (rest_left tnfa leaf l) left) so.is ends);
    }

    -- a state follows the leaf
    pub left_below : (leaf : ℕ) (symbols : List Symbol) (left : List ℕ) → IsLeft tnfa.enc rules leaf symbols left
        → leaf + 1 < length (automaton rules)
    left_below leaf symbols left so = leaf_below tnfa.enc (automaton rules) leaf so.row (paired_rules rules 1) so.at so.reading

    -- a unit of those that were left was read
    pub left_more : (leaf : ℕ) (symbols : List Symbol) (unit : ℕ) (left : List ℕ) → IsLeft tnfa.enc rules leaf symbols (unit ∷ left)
        → IsLeft tnfa.enc rules leaf (symbols ++ reads unit ∷ []) left
    left_more leaf symbols unit left so = record {
      row = so.row;
      choice = so.choice;
      read = so.read ++ unit ∷ [];
      at = so.at;
      is =
          ap (λ l. l ++ reads unit ∷ []) so.is ∙ append_assoc so.choice (map reads so.read) (reads unit ∷ [])
          ∙ ap (λ l. so.choice ++ l) (reads_more so.read unit);
      reading = subst (λ l. IsReading tnfa.enc so.row so.choice l) (sym (append_assoc so.read (unit ∷ []) left)) so.reading;
    }

    -- the residual is one of the leaf
    pub left_rest : (part leaf : ℕ) (symbols : List Symbol) (left : List ℕ) → StepsStay tnfa.classes → IsLeft tnfa.enc rules leaf symbols left
        → IsRest tnfa.classes (state_of tnfa.states leaf) part (rest_left tnfa leaf symbols)
    left_rest part leaf symbols left stay so =
        let start = starts_of leaf symbols left so in
        subst (IsRest tnfa.classes (state_of tnfa.states leaf) part)
        (sym (rest_left-start leaf start.index start.rest symbols so.choice so.read so.is (code_quiet tnfa.enc so.reading) start.nth))
        (behind_rest tnfa.classes (state_of tnfa.states leaf) part start.rest so.read left stay
        (start_rest tnfa are so.row (state_of tnfa.states leaf) part start.index start.rest so.choice
        (held_at tnfa.classes (automaton rules) tnfa.states leaf so.row states so.at) start.nth) start.ends)
