-- A part fixes how many positions are open in a cut that stands in it.
use Rattle.lx_posix.specs.Walks.{depth}
use Rattle.std.specs.Prelude.{◌≡◌, ℕ, zero, suc, ◌+◌, ◌-◌, ◌*◌, List, [], ◌∷◌, ◌++◌, map, refl}
use Rattle.std.proofs.Common.{sym, ap, ◌∙◌, subst, arith, append_assoc, append-nil}
use Rattle.lx_base.specs.declared.settings.Enc.{Enc}
use Rattle.lx_regex.specs.Automaton.{automaton}
use Rattle.lx_regex.specs.Cut.{Cut, EndsInUnit, GoesOn, SamePlace, last_part, rule_part}
use Rattle.lx_regex.specs.Posix.{Shape, absent, leaf, inner, Shapes, none, more, shape_of}
use Rattle.lx_regex.specs.Script.{Symbol, begins, ends, picks, reads, script, sets, unsets}
use Rattle.lx_regex.specs.Term.{Term}
use Rattle.lx_regex.specs.Tree.{Tree}
use Rattle.lx_regex.specs.Walk.{Walk, symbols}
use Rattle.lx_regex.proofs.KernelCuts.Cuts.{Way, way_of, cutting_of, front_part, paired_rules, place_goes, rule_stands, rule_positive}
use Rattle.lx_regex.proofs.Walks.Exchange.{resume}
use Rattle.lx_regex.proofs.Walks.WholeWalk.{tree_of}
use Rattle.lx_posix.proofs.Steps.KeptByWalk.{Step, down, up, tick, ticks, steps, steps_all, erase, erase_script}

-- from depth d on it ends at depth 0, and never goes below
abbrev pub Falls : ℕ → List Step → Type 0
Falls d [] = d ≡ 0
Falls d (down ∷ l) = Falls (suc d) l
Falls zero (up ∷ l) = ⊥
Falls (suc d) (up ∷ l) = Falls d l
Falls d (tick ∷ l) = Falls d l

pub one_fall : (l : List Step) (d d' : ℕ) → Falls d l → Falls d' l → d ≡ d'
one_fall [] d d' h h' = h ∙ sym h'
one_fall (down ∷ l) d d' h h' = let z = one_fall l (suc d) (suc d') h h' in omega arith
one_fall (up ∷ l) zero d' h h' = absurd h
one_fall (up ∷ l) (suc d) zero h h' = absurd h'
one_fall (up ∷ l) (suc d) (suc d') h h' = ap (λ x. suc x) (one_fall l d d' h h')
one_fall (tick ∷ l) d d' h h' = one_fall l d d' (ticked d l h) (ticked d' l h')
  where
    ticked : (d : ℕ) (l : List Step) → Falls d (tick ∷ l) → Falls d l
    ticked zero l h = h
    ticked (suc d) l h = h

fall_tick : (d : ℕ) (l : List Step) → Falls d l → Falls d (tick ∷ l)
fall_tick zero l h = h
fall_tick (suc d) l h = h

fall_ticks : (m d : ℕ) (l : List Step) → Falls d l → Falls d (ticks m l)
fall_ticks zero d l h = h
fall_ticks (suc m) d l h = fall_tick d (ticks m l) (fall_ticks m d l h)

fall_down : (d : ℕ) (l : List Step) → Falls (suc d) l → Falls d (down ∷ l)
fall_down zero l h = h
fall_down (suc d) l h = h

mutual
  fall_steps : (s : Shape) (d : ℕ) (y : List Step) → Falls d y → Falls d (steps s y)
  fall_steps absent d y h = h
  fall_steps (leaf m) d y h = fall_down d (ticks m (up ∷ y)) (fall_ticks m (suc d) (up ∷ y) h)
  fall_steps (inner ks) d y h = fall_down d (steps_all ks (up ∷ y)) (fall_all ks (suc d) (up ∷ y) h)

  fall_all : (ks : Shapes) (d : ℕ) (y : List Step) → Falls d y → Falls d (steps_all ks y)
  fall_all none d y h = h
  fall_all (more s ks) d y h = fall_steps s d (steps_all ks y) (fall_all ks d y h)

-- what goes on from a front falls from the depth of the front
fall_behind : (a b : List Symbol) (d : ℕ) → Falls d (erase (a ++ b)) → Falls (depth d a) (erase b)
fall_behind [] b d h = h
fall_behind (begins p ∷ a) b zero h = fall_behind a b 1 h
fall_behind (begins p ∷ a) b (suc d) h = fall_behind a b (suc (suc d)) h
fall_behind (ends p ∷ a) b zero h = absurd h
fall_behind (ends p ∷ a) b (suc d) h =
    let z : d ≡ suc d - 1 = omega arith in subst (λ n. Falls (depth n a) (erase b)) z (fall_behind a b d h)
fall_behind (reads u ∷ a) b zero h = fall_behind a b zero h
fall_behind (reads u ∷ a) b (suc d) h = fall_behind a b (suc d) h
fall_behind (sets t ∷ a) b d h = fall_behind a b d h
fall_behind (unsets t ∷ a) b d h = fall_behind a b d h
fall_behind (picks t ∷ a) b d h = fall_behind a b d h

depth_reads : (us : List ℕ) (d : ℕ) → depth d (map reads us) ≡ d
depth_reads [] d = refl
depth_reads (u ∷ us) d = depth_reads us d

module _ (enc : Enc) where
  pub fall_script : {e : Term} → (p : ℕ) (t : Tree e) (a b : List Symbol) → script enc p t ≡ a ++ b → Falls (depth 0 a) (erase b)
  fall_script p t a b e =
      fall_behind a b 0
      (subst
      (λ l. Falls 0 (erase l)) (append-nil (script enc p t) ∙ e)
      (subst (λ l. Falls 0 l) (sym (erase_script enc p t [])) (fall_steps (shape_of enc t) 0 [] refl)))

  pub depth_append : (a b : List Symbol) (d : ℕ) → depth d (a ++ b) ≡ depth (depth d a) b
  depth_append [] b d = refl
  depth_append (begins p ∷ a) b d = depth_append a b (suc d)
  depth_append (ends p ∷ a) b d = depth_append a b (d - 1)
  depth_append (reads p ∷ a) b d = depth_append a b d
  depth_append (sets p ∷ a) b d = depth_append a b d
  depth_append (unsets p ∷ a) b d = depth_append a b d
  depth_append (picks p ∷ a) b d = depth_append a b d

module _ (enc : Enc) (rules : List Term) where
  -- Cuts at one place, of one word or of two, have one depth.
  pub place_depth : (j k : Cut) (rest : List Symbol) → SamePlace enc rules j k → EndsInUnit j.front → EndsInUnit k.front
      → GoesOn enc rules j rest → depth 0 j.front ≡ depth 0 k.front
  place_depth j k rest same ij ik go =
      let on = place_goes enc rules j k same ij ik rest go in
      one_fall (erase rest) _ _
      (fall_script enc (rule_part rules j.rule) go.1 j.front rest go.3)
      (fall_script enc (rule_part rules k.rule) on.1 k.front rest on.3)

  -- A part fixes the depth of the cuts that stand in it, of one word or of two.
  pub part_depth : (j k : Cut) (p q : List Symbol) → j.rule ≡ k.rule → last_part 0 j.front ≡ last_part 0 k.front
      → EndsInUnit j.front → EndsInUnit k.front → GoesOn enc rules j p → GoesOn enc rules k q
      → depth 0 j.front ≡ depth 0 k.front
  part_depth j k p q same part ij ik gj gk =
      let c = cutting_of enc rules k.rule j.front p ij (subst (λ n. Way enc rules n (j.front ++ p)) same (way_of enc rules j p gj)) in
      let d = cutting_of enc rules k.rule k.front q ik (way_of enc rules k q gk) in
      let x = front_part enc (automaton rules) (paired_rules rules 1) c.at c.left c.front 0 in
      let y = front_part enc (automaton rules) (paired_rules rules 1) d.at d.left d.front 0 in
      let at : c.at ≡ d.at = x ∙ ap (λ n. 2 * n) part ∙ sym y in
      let on : (w : Walk (automaton rules) 0 (d.at + 1)) × (symbols enc w [] ≡ symbols enc c.walk []) =
      subst (λ n. (w : Walk (automaton rules) 0 (n + 1)) × (symbols enc w [] ≡ symbols enc c.walk [])) at (c.walk, refl) in
      let r = resume enc (automaton rules) 0 d.front on.0 in
      let t =
      tree_of enc
      (automaton rules) gk.0 (rule_part rules k.rule) (rule_stands rules k.rule gk.0 gk.2)
      (rule_positive rules k.rule) refl r.0 in
      let fj = fall_script enc (rule_part rules j.rule) gj.1 (j.front ++ map reads c.left) (symbols enc c.walk []) (gj.3 ∙ ap (λ n. j.front ++ n) c.goes ∙ sym (append_assoc j.front _ _)) in
      let fk = fall_script enc (rule_part rules k.rule) t.0 (k.front ++ map reads d.left) (symbols enc c.walk []) (sym t.1 ∙ r.1 ∙ ap (λ n. k.front ++ (map reads d.left ++ n)) on.1 ∙ sym (append_assoc k.front _ _)) in
      let dj = depth_append enc j.front (map reads c.left) 0 ∙ depth_reads c.left (depth 0 j.front) in
      let dk = depth_append enc k.front (map reads d.left) 0 ∙ depth_reads d.left (depth 0 k.front) in
      sym dj ∙ one_fall (erase (symbols enc c.walk [])) _ _ fj fk ∙ dk
