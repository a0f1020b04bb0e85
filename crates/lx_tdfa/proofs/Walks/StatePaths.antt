-- The paths of the graph of an automaton are its walks without units, and have their symbols.
use Rattle.std.proofs.Common.{inl, inr, sym, ap, ◌∙◌, subst, arith, append_assoc}
use Rattle.std.specs.Prelude.{◌≡◌, ℕ, zero, suc, ◌<◌, ◌≤◌, List, [], ◌∷◌, ◌++◌, map, length, Some, slice_get, refl}
use Rattle.lx_base.specs.declared.settings.Enc.{Enc}
use Rattle.lx_regex.specs.Automaton.{Move, State, label, leaf, moves, target, unit_leaf}
use Rattle.lx_regex.specs.Plain.{mark_of}
use Rattle.lx_regex.specs.Reading.{IsReading}
use Rattle.lx_regex.specs.Script.{Symbol, units}
use Rattle.lx_regex.specs.Walk.{IsAmong, Walk, first, mark, moved, next, symbols}
use Rattle.lx_regex.proofs.Walks.Clear.{picked}
use Rattle.lx_regex.proofs.Walks.PlainWalk.{IsPlainList, IsUnseen, mark_tells, plain_label, plain_mark, units_label, units_mark, unseen_label, unseen_mark}
use Rattle.lx_regex.proofs.Walks.Readings.{code_row}
use Rattle.lx_tnfa.specs.LeafReadings.{IsNth}
use Rattle.lx_tnfa.specs.DepthFirst.{IsIn, successors}
use Rattle.lx_tnfa.proofs.Searching.SimplePaths.{IsAt, SimplePath}
use Rattle.lx_tnfa.proofs.Construction.NthLists.{nth_map}
use Rattle.lx_tnfa.proofs.Searching.SearchBasics.{IsAt-row}
use Rattle.lx_tdfa.specs.Graph.{graph_of, move_at, moves_at, moves_of_state, nth_move, path_end, path_symbols}
use Rattle.lx_tdfa.proofs.WordKernels.OrderedLists.{at_zero_nth, nth_at_zero}

nth_target : (ms : List Move) (i c : ℕ) → IsNth (map target ms) i c → IsNth ms i (nth_move ms i) × (target (nth_move ms i) ≡ c)
nth_target [] i c h = absurd h
nth_target (m ∷ ms) zero c h = (refl, h)
nth_target (m ∷ ms) (suc i) c h = nth_target ms i c h

pub nth_is_move : (ms : List Move) (i : ℕ) (m : Move) → IsNth ms i m → nth_move ms i ≡ m
nth_is_move [] i m h = absurd h
nth_is_move (n ∷ ms) zero m h = h
nth_is_move (n ∷ ms) (suc i) m h = nth_is_move ms i m h

pub nth_in : (ms : List Move) (i : ℕ) (m : Move) → IsNth ms i m → IsAmong m ms
nth_in [] i m h = absurd h
nth_in (n ∷ ms) zero m h = subst (λ k. IsAmong m (k ∷ ms)) (sym h) first
nth_in (n ∷ ms) (suc i) m h = next (nth_in ms i m h)

pub in_nth : {m : Move} {ms : List Move} → IsAmong m ms → (i : ℕ) × IsNth ms i m
in_nth first = (0, refl)
in_nth (next h) = let r = in_nth h in (suc r.0, r.1)

pub moves_are : (states : List State) (s : ℕ) (ms : List Move) → slice_get states s ≡ Some (moves ms) → moves_at states s ≡ ms
moves_are [] s ms h = cc
moves_are (r ∷ states) zero ms h = let e : r ≡ moves ms = cc in ap moves_of_state e
moves_are (r ∷ states) (suc s) ms h = moves_are states s ms h

successors_nth : (states : List State) (s i c : ℕ) → IsNth (successors (graph_of states) s) i c
    → (slice_get states s ≡ Some (moves (moves_at states s))) × IsNth (moves_at states s) i (move_at states s i) × (target (move_at states s i) ≡ c)
successors_nth [] s i c h = absurd h
successors_nth (moves ms ∷ states) zero i c h = let r = nth_target ms i c h in (refl, r.0, r.1)
successors_nth (leaf ranges ∷ states) zero i c h = absurd h
successors_nth (unit_leaf ∷ states) zero i c h = absurd h
successors_nth (r ∷ states) (suc s) i c h = successors_nth states s i c h

nth_successors : (states : List State) (s i : ℕ) (m : Move) → IsNth (moves_at states s) i m → IsNth (successors (graph_of states) s) i (target m)
nth_successors [] s i m h = absurd h
nth_successors (moves ms ∷ states) zero i m h = nth_map target ms i m h
nth_successors (leaf ranges ∷ states) zero i m h = absurd h
nth_successors (unit_leaf ∷ states) zero i m h = absurd h
nth_successors (r ∷ states) (suc s) i m h = nth_successors states s i m h

-- an edge of the graph is a move of the automaton
pub at_move : (states : List State) (s i c : ℕ) → IsAt 0 (successors (graph_of states) s) i c
    → (slice_get states s ≡ Some (moves (moves_at states s))) × IsAmong (move_at states s i) (moves_at states s) × (target (move_at states s i) ≡ c)
at_move states s i c a = let r = successors_nth states s i c (at_zero_nth (successors (graph_of states) s) i c a) in (r.0, nth_in (moves_at states s) i (move_at states s i) r.1, r.2)

pub move_edge : (states : List State) (s : ℕ) (ms : List Move) (m : Move) → slice_get states s ≡ Some (moves ms) → IsAmong m ms
    → (i : ℕ) × IsAt 0 (successors (graph_of states) s) i (target m) × (move_at states s i ≡ m)
move_edge states s ms m h i =
    let r = in_nth i in
    let k : IsNth (moves_at states s) r.0 m = subst (λ ns. IsNth ns r.0 m) (sym (moves_are states s ms h)) r.1 in
    (r.0, nth_at_zero (successors (graph_of states) s) r.0 (target m) (nth_successors states s r.0 m k), nth_is_move (moves_at states s) r.0 m k)

pub graph_of-length : (states : List State) → length (graph_of states) ≡ length states
graph_of-length [] = refl
graph_of-length (r ∷ states) = ap suc (graph_of-length states)

-- beyond the states there are no edges, and none from leaves
pub no_edge : (states : List State) (s i c : ℕ) → length states ≤ s → IsAt 0 (successors (graph_of states) s) i c → ⊥
no_edge states s i c l a =
    let h : s < length (graph_of states) = IsAt-row (graph_of states) s 0 i c a in
    let e : length (graph_of states) ≡ length states = graph_of-length states in
    omega arith

pub leaf_edge : (enc : Enc) (states : List State) (s : ℕ) (r : State) {d : List Symbol} {us : List ℕ} → slice_get states s ≡ Some r
    → IsReading enc r d us → (i c : ℕ) → IsAt 0 (successors (graph_of states) s) i c → ⊥
leaf_edge enc states s r h k i c a = let e = at_move states s i c a in code_row enc k (moves_at states s) (cc (h, e.0))

pub path_end-is : (states : List State) (avoided : List ℕ) (s : ℕ) (ws : List ℕ) (t : ℕ) → SimplePath (graph_of states) avoided s ws t
    → path_end states s ws ≡ t
path_end-is states avoided s [] t p = p.1
path_end-is states avoided s (i ∷ ws) t p =
    let m = at_move states s i p.1.0 p.1.1 in
    ap (λ k. path_end states k ws) m.2 ∙ path_end-is states (s ∷ avoided) p.1.0 ws t p.1.2

pub path_symbols-append : (states : List State) (s : ℕ) (ws : List ℕ) (y z : List Symbol)
    → path_symbols states s ws (y ++ z) ≡ path_symbols states s ws y ++ z
path_symbols-append states s [] y z = refl
path_symbols-append states s (i ∷ ws) y z =
    ap (λ k. mark s ∷ (label (move_at states s i) ++ k)) (path_symbols-append states (target (move_at states s i)) ws y z)
    ∙ ap (λ k. mark s ∷ k) (sym (append_assoc (label (move_at states s i)) (path_symbols states (target (move_at states s i)) ws y) z))

pub path_symbols-units : (states : List State) (s : ℕ) (ws : List ℕ) (y : List Symbol) → units (path_symbols states s ws y) ≡ units y
path_symbols-units states s [] y = refl
path_symbols-units states s (i ∷ ws) y = units_mark s _ ∙ units_label (move_at states s i) _ ∙ path_symbols-units states (target (move_at states s i)) ws y

-- a path of the graph before a walk
pub path_walk : (enc : Enc) (states : List State) (avoided : List ℕ) (s : ℕ) (ws : List ℕ) (t : ℕ)
    → SimplePath (graph_of states) avoided s ws t → (W : Walk states 0 t)
    → (W' : Walk states 0 s) × (symbols enc W' [] ≡ path_symbols states s ws (symbols enc W []))
path_walk enc states avoided s [] t p W = subst (λ n. (W' : Walk states 0 n) × (symbols enc W' [] ≡ symbols enc W [])) (sym p.1) (W, refl)
path_walk enc states avoided s (i ∷ ws) t p W =
    let m = at_move states s i p.1.0 p.1.1 in
    let q : SimplePath (graph_of states) (s ∷ avoided) (target (move_at states s i)) ws t = subst (λ c. SimplePath (graph_of states) (s ∷ avoided) c ws t) (sym m.2) p.1.2 in
    let r = path_walk enc states (s ∷ avoided) (target (move_at states s i)) ws t q W in
    (moved (moves_at states s) (move_at states s i) m.0 m.1 r.0, ap (λ k. mark s ∷ (label (move_at states s i) ++ k)) r.1)

marks_apart : (x s : ℕ) → (x ≡ s → ⊥) → mark x ≡ mark s → ⊥
marks_apart x s ne e = let k : Some x ≡ Some s = sym (mark_tells x) ∙ ap mark_of e ∙ mark_tells s in ne (cc)

-- the symbols of a simple path are plain, if what follows them shows no mark before a unit
module _ (states : List State) (Z : List Symbol) (clean : (x : Symbol) → IsUnseen x Z) (flat : IsPlainList Z) where
  path_unseen : (avoided : List ℕ) (s : ℕ) (ws : List ℕ) (t x : ℕ) → IsIn avoided x → SimplePath (graph_of states) avoided s ws t
      → IsUnseen (mark x) (path_symbols states s ws (mark t ∷ Z))
  path_unseen avoided s [] t x m p = unseen_mark (mark x) t Z (marks_apart x t (λ e. p.0 (subst (λ k. IsIn avoided k) (e ∙ sym p.1) m))) (clean (mark x))
  path_unseen avoided s (i ∷ ws) t x m p =
      let e = at_move states s i p.1.0 p.1.1 in
      let q : SimplePath (graph_of states) (s ∷ avoided) (target (move_at states s i)) ws t = subst (λ c. SimplePath (graph_of states) (s ∷ avoided) c ws t) (sym e.2) p.1.2 in
      unseen_mark (mark x) s _ (marks_apart x s (λ e. p.0 (subst (λ k. IsIn avoided k) e m)))
      (unseen_label (mark x) (move_at states s i) _ (path_unseen (s ∷ avoided) (target (move_at states s i)) ws t x (inr m) q))

  pub path_plain : (avoided : List ℕ) (s : ℕ) (ws : List ℕ) (t : ℕ) → SimplePath (graph_of states) avoided s ws t
      → IsPlainList (path_symbols states s ws (mark t ∷ Z))
  path_plain avoided s [] t p = plain_mark t Z (clean (mark t)) flat
  path_plain avoided s (i ∷ ws) t p =
      let e = at_move states s i p.1.0 p.1.1 in
      let q : SimplePath (graph_of states) (s ∷ avoided) (target (move_at states s i)) ws t = subst (λ c. SimplePath (graph_of states) (s ∷ avoided) c ws t) (sym e.2) p.1.2 in
      plain_mark s _ (unseen_label (mark s) (move_at states s i) _ (path_unseen (s ∷ avoided) (target (move_at states s i)) ws t s (inl refl) q))
      (plain_label (move_at states s i) _ (path_plain (s ∷ avoided) (target (move_at states s i)) ws t q))

-- the moves of a state stand in the order of their choices
abbrev pub MovesInOrder : List State → Type 0
MovesInOrder states = (s i j c d : ℕ) → IsAt 0 (successors (graph_of states) s) i c → IsAt 0 (successors (graph_of states) s) j d → i < j → (a b : ℕ) × (picked (move_at states s i) ≡ Some a) × (picked (move_at states s j) ≡ Some b) × (a < b)
