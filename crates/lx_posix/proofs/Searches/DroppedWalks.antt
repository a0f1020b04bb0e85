-- Of two walks without a unit to one state the later may be dropped where the earlier keeps no less: to each place to which the
-- later goes on, a walk from the earlier's cut comes before it.
use Rattle.lx_posix.specs.Numbers.{IsFirstOf}
use Rattle.lx_posix.specs.Walks.{after, depth, kept, lowest}
use Rattle.std.specs.Prelude.{◌≡◌, ℕ, ◌*◌, ◌≤◌, min, List, [], ◌∷◌, ◌++◌, map, Some, refl}
use Rattle.std.proofs.Common.{sym, ap, ap₂, ◌∙◌, subst, arith, append_assoc}
use Rattle.lx_base.specs.declared.settings.Enc.{Enc}
use Rattle.lx_regex.specs.Automaton.{automaton}
use Rattle.lx_regex.specs.Cut.{Cut, EndsInUnit, GoesOn, IsCut, SamePlace, last_part, rule_part}
use Rattle.lx_regex.specs.Plain.{IsPlain, mark_of}
use Rattle.lx_regex.specs.Script.{Symbol, ends, reads, script, units}
use Rattle.lx_regex.specs.Term.{Term}
use Rattle.lx_regex.proofs.KernelCuts.Cuts.{front_part, last_append, paired_rules, rule_positive, rule_stands, way_of}
use Rattle.lx_regex.proofs.KernelCuts.Kernels.{ends_behind}
use Rattle.lx_regex.proofs.Walks.Exchange.{cut_walk, plain_back, plain_from, plain_join, plain_swap}
use Rattle.lx_regex.proofs.Walks.PlainWalk.{IsPlainList, plain_list, units_append}
use Rattle.lx_regex.proofs.Walks.Scripts.{Path, path_of, walk_from}
use Rattle.lx_regex.proofs.Walks.WholeWalk.{tree_of}
use Rattle.lx_posix.proofs.Counted.NumbersOfCuts.{before_of, first_of}
use Rattle.lx_posix.proofs.Fronts.LesserWalks.{walk_units}
use Rattle.lx_posix.proofs.Fronts.PartDepth.{depth_append, fall_script, one_fall}
use Rattle.lx_posix.proofs.Kernels.KernelStep.{ends_on}
use Rattle.lx_posix.proofs.Orders.CutOrder.{across}
use Rattle.lx_posix.proofs.Searches.Shortcuts.{AreUnseen, all_unseen, plain_swapped, plain_tail, shortcut}
use Rattle.lx_posix.proofs.Searches.StatePaths.{at_state}
use Rattle.lx_posix.proofs.Steps.KeptByWalk.{erase}
use Rattle.lx_posix.proofs.Steps.KeptInParts.{kept_in_parts}

pub no_front : (a b : List ℕ) → a ++ b ≡ [] → a ≡ []
no_front [] b e = refl
no_front (x ∷ a) b e = cc

module _ (enc : Enc) (rules : List Term) where
  -- the path of a cut's rule with the cut's symbols and what goes on
  pub path_on : (rule : ℕ) (l x : List Symbol) → GoesOn enc rules (record { rule = rule; front = l }) x
      → Path enc (automaton rules) (2 * rule_part rules rule) (l ++ x)
  path_on rule l x go =
      let w = way_of enc rules (record { rule = rule; front = l }) x go in
      subst (λ k. Path enc (automaton rules) (2 * rule_part rules rule) k) w.says (path_of enc (automaton rules) w.walk)

  -- and the other way round, where it is plain
  pub goes_by : (rule : ℕ) (l x y z : List Symbol) → GoesOn enc rules (record { rule = rule; front = y }) z
      → Path enc (automaton rules) (2 * rule_part rules rule) (l ++ x) → IsPlain (l ++ x)
      → GoesOn enc rules (record { rule = rule; front = l }) x
  goes_by rule l x y z go path plain =
      let w = walk_from enc (automaton rules) path in
      let t =
      tree_of enc
      (automaton rules) go.0 (rule_part rules rule) (rule_stands rules rule go.0 go.2) (rule_positive rules rule) refl w.0 in
      let s : script enc (rule_part rules rule) t.0 ≡ l ++ x = sym t.1 ∙ w.1 in
      (go.0, t.0, go.2, s, subst IsPlain (sym s) plain)

  -- two cuts come by the same symbols from one state to one unit
  module _
      (m : Symbol) (s : ℕ) (is_mark : mark_of m ≡ Some s) (r : List Symbol) (is : EndsInUnit (m ∷ r)) where
    -- what goes on from one goes on from the other
    over : (rule other : ℕ) (a b x y : List Symbol) → GoesOn enc rules (record { rule = rule; front = a ++ m ∷ r }) x
        → GoesOn enc rules (record { rule = other; front = b ++ m ∷ r }) y
        → GoesOn enc rules (record { rule = other; front = b ++ m ∷ r }) x
    over rule other a b x y gx gy =
        let p = at_state enc (automaton rules) (path_on rule (a ++ m ∷ r) x gx) a (r ++ x) m s is_mark (append_assoc a (m ∷ r) x) in
        let q = at_state enc (automaton rules) (path_on other (b ++ m ∷ r) y gy) b (r ++ y) m s is_mark (append_assoc b (m ∷ r) y) in
        let path = q.1 (m ∷ (r ++ x)) p.0 in
        let one : (c z : List Symbol) → (c ++ m ∷ r) ++ z ≡ (c ++ is.0) ++ reads is.1 ∷ z = λ c z. ap (λ l. (c ++ l) ++ z) is.2
        ∙ simp append_assoc in
        let plain : IsPlain ((b ++ m ∷ r) ++ x) =
        subst IsPlain (sym (one b x))
        (plain_swap
        (a ++ is.0) (b ++ is.0) is.1 is.1 x y (subst IsPlain (gx.3 ∙ one a x) gx.4) (subst IsPlain (gy.3 ∙ one b y) gy.4)) in
        goes_by other (b ++ m ∷ r) x (b ++ m ∷ r) y gy
        (subst (λ l. Path enc (automaton rules) (2 * rule_part rules other) l) (sym (append_assoc b (m ∷ r) x)) path) plain

    -- and they stand in one leaf
    one_leaf : (rule : ℕ) (a b x : List Symbol) → GoesOn enc rules (record { rule = rule; front = a ++ m ∷ r }) x
        → last_part 0 (a ++ m ∷ r) ≡ last_part 0 (b ++ m ∷ r)
    one_leaf rule a b x gx =
        let p = at_state enc (automaton rules) (path_on rule (a ++ m ∷ r) x gx) a (r ++ x) m s is_mark (append_assoc a (m ∷ r) x) in
        let w = walk_from enc (automaton rules) p.0 in
        let e : (m ∷ r) ++ x ≡ is.0 ++ reads is.1 ∷ x = ap (λ l. l ++ x) is.2 ∙ append_assoc is.0 (reads is.1 ∷ []) x in
        let c = cut_walk enc (automaton rules) 0 w.0 is.0 is.1 x (w.1 ∙ e) in
        let i = front_part enc (automaton rules) (paired_rules rules 1) c.at c.left c.front (last_part 0 a) in
        let j = front_part enc (automaton rules) (paired_rules rules 1) c.at c.left c.front (last_part 0 b) in
        let k : last_part (last_part 0 a) (is.0 ++ reads is.1 ∷ []) ≡ last_part (last_part 0 b) (is.0 ++ reads is.1 ∷ []) =
        omega arith in
        last_append 0 a (m ∷ r) ∙ ap (λ l. last_part (last_part 0 a) l) is.2 ∙ k
        ∙ sym (last_append 0 b (m ∷ r) ∙ ap (λ l. last_part (last_part 0 b) l) is.2)

    pub one_place : (rule : ℕ) (a b x y : List Symbol) → GoesOn enc rules (record { rule = rule; front = a ++ m ∷ r }) x
        → GoesOn enc rules (record { rule = rule; front = b ++ m ∷ r }) y
        → SamePlace enc rules (record { rule = rule; front = a ++ m ∷ r }) (record { rule = rule; front = b ++ m ∷ r })
    one_place rule a b x y gx gy = record {
      rule = refl;
      part = one_leaf rule a b x gx;
      left = λ v. (
        λ f. (
          f.0,
          subst (λ p. GoesOn enc rules (record { rule = rule; front = b ++ m ∷ r }) (map reads v ++ ends p ∷ f.0))
              (one_leaf rule a b x gx) (over rule rule a b _ y f.1 gy),
        ),
        λ f. (
          f.0,
          subst (λ p. GoesOn enc rules (record { rule = rule; front = a ++ m ∷ r }) (map reads v ++ ends p ∷ f.0))
              (one_leaf rule b a y gy) (over rule rule b a _ x f.1 gx),
        ),
      );
    }

  -- the depth at a state is one
  pub one_depth : (rule other : ℕ) (a b x : List Symbol) → GoesOn enc rules (record { rule = rule; front = a }) x
      → GoesOn enc rules (record { rule = other; front = b }) x → depth 0 a ≡ depth 0 b
  one_depth rule other a b x ga gb =
      one_fall (erase x) _ _
      (fall_script enc (rule_part rules rule) ga.1 a x ga.3) (fall_script enc (rule_part rules other) gb.1 b x gb.3)

  pub record EarlierWalk (word : List ℕ) (u : ℕ) (j k : Cut) (y way : List Symbol) : Type 0 where
    pub walk : List Symbol
    pub ends_in_unit : EndsInUnit walk
    pub own : IsCut enc rules (word ++ u ∷ []) (after j walk)
    pub place : SamePlace enc rules (after j walk) (after k way)
    pub keeps : min (kept j y) (kept k way) ≤ kept j walk

  -- A walk y from j comes to a state, and a walk z from k comes there and goes on to a unit: then a walk from j comes to that place,
  -- and keeps no less than the lesser of what the two keep.
  pub walk_over :
      (w : List ℕ) (u : ℕ) (j k : Cut) (y z rest more : List Symbol) (m : Symbol) (s : ℕ) → IsCut enc rules w j → IsCut enc rules w k
      → j.rule ≡ k.rule → mark_of m ≡ Some s → units y ≡ [] → units z ≡ [] → GoesOn enc rules (after j y) (m ∷ more)
      → EndsInUnit (m ∷ rest) → IsCut enc rules (w ++ u ∷ []) (after k (z ++ m ∷ rest))
      → EarlierWalk w u j k y (z ++ m ∷ rest)
  walk_over w u j k y z rest more m s ij ik same is_mark uy uz gj er kz =
      let c = shortcut y m s is_mark rest more in
      let q = kz.possible.0 in
      let gk = kz.possible.1 in
      let back = c.at ∷ c.back in
      let uf : units c.fore ≡ [] =
      no_front (units c.fore) (units c.left_out) (sym (units_append c.fore c.left_out) ∙ ap units (sym c.is_front) ∙ uy) in
      let ur : units (m ∷ rest) ≡ u ∷ [] =
      ap (λ l. l ++ units (m ∷ rest)) (sym uz) ∙ sym (units_append z (m ∷ rest)) ∙ walk_units enc rules w k (z ++ m ∷ rest) u ik kz in
      let ub : units (c.at ∷ c.back) ≡ u ∷ [] =
      ap (λ l. l ++ units (c.at ∷ c.back)) (sym c.without_unit) ∙ sym (units_append c.skipped (c.at ∷ c.back)) ∙ ap units (sym c.goes)
      ∙ ur in
      let eb : EndsInUnit (c.at ∷ c.back) =
      ends_behind c.skipped (c.at ∷ c.back) er.0 er.1 (sym c.goes ∙ er.2) (λ e. some (sym ub ∙ e)) in
      let b : List Symbol = k.front ++ (z ++ c.skipped) in
      let a : List Symbol = j.front ++ c.fore in
      let fk : k.front ++ (z ++ m ∷ rest) ≡ (k.front ++ (z ++ c.skipped)) ++ (c.at ∷ c.back) =
      ap (λ l. k.front ++ (z ++ l)) c.goes ∙ simp append_assoc in
      let gk' : GoesOn enc rules (record { rule = k.rule; front = b ++ (c.at ∷ c.back) }) q =
      subst (λ l. GoesOn enc rules (record { rule = k.rule; front = l }) q) fk gk in
      let pk =
      at_state enc
      (automaton rules) (path_on k.rule (b ++ (c.at ∷ c.back)) q gk') b (c.back ++ q) c.at c.state c.is_mark
      (append_assoc b (c.at ∷ c.back) q) in
      let fj : (j.front ++ y) ++ m ∷ more ≡ (j.front ++ c.fore) ++ (c.at ∷ c.behind) =
      append_assoc j.front y (m ∷ more) ∙ ap (λ l. j.front ++ l) c.comes ∙ sym (append_assoc j.front c.fore (c.at ∷ c.behind)) in
      let pj = at_state enc (automaton rules) (path_on j.rule (j.front ++ y) (m ∷ more) gj) a c.behind c.at c.state c.is_mark fj in
      let path = pj.1 (c.at ∷ (c.back ++ q)) pk.0 in
      let unit : (x : List Symbol) → (j.front ++ c.fore) ++ x ≡ ij.after_unit.0 ++ reads ij.after_unit.1 ∷ (c.fore ++ x) =
      λ x. ap (λ l. (l ++ c.fore) ++ x) ij.after_unit.2 ∙ simp append_assoc in
      let whole = plain_from _ (subst IsPlain (gj.3 ∙ fj ∙ unit (c.at ∷ c.behind)) gj.4) in
      let p1 = plain_back ij.after_unit.0 ij.after_unit.1 (c.fore ++ (c.at ∷ c.behind)) whole in
      let p2 : IsPlainList (c.at ∷ (c.back ++ q)) =
      plain_tail b (c.at ∷ (c.back ++ q))
      (subst IsPlainList (append_assoc b (c.at ∷ c.back) q) (plain_from _ (subst IsPlain gk'.3 gk'.4))) in
      let unseen =
      all_unseen c.fore c.skipped (c.at ∷ c.back) q c.without_unit (λ e. some (sym ub ∙ e))
      (subst (λ l. AreUnseen c.fore l) c.goes c.unseen) in
      let p3 = plain_swapped c.fore (c.at ∷ c.behind) (c.at ∷ (c.back ++ q)) uf p1 p2 unseen in
      let p4 = plain_join ij.after_unit.0 ij.after_unit.1 (c.fore ++ (c.at ∷ c.behind)) (c.fore ++ (c.at ∷ (c.back ++ q))) whole p3 in
      let plain : IsPlain ((j.front ++ c.fore) ++ (c.at ∷ (c.back ++ q))) = subst IsPlain (sym (unit (c.at ∷ (c.back ++ q))))
      (plain_list _ p4) in
      let ga : GoesOn enc rules (record { rule = j.rule; front = a }) (c.at ∷ (c.back ++ q)) =
      goes_by j.rule a (c.at ∷ (c.back ++ q)) (j.front ++ y) (m ∷ more) gj path plain in
      let gb : GoesOn enc rules (record { rule = k.rule; front = b }) (c.at ∷ (c.back ++ q)) =
      (gk'.0, gk'.1, gk'.2, gk'.3 ∙ append_assoc b (c.at ∷ c.back) q, gk'.4) in
      let go : GoesOn enc rules (record { rule = j.rule; front = a ++ (c.at ∷ c.back) }) q =
      (ga.0, ga.1, ga.2, ga.3 ∙ sym (append_assoc a (c.at ∷ c.back) q), ga.4) in
      let fa : (j.front ++ c.fore) ++ (c.at ∷ c.back) ≡ j.front ++ (c.fore ++ (c.at ∷ c.back)) = append_assoc j.front c.fore
      (c.at ∷ c.back) in
      let gk'' : GoesOn enc rules (record { rule = j.rule; front = b ++ (c.at ∷ c.back) }) q =
      subst (λ n. GoesOn enc rules (record { rule = n; front = b ++ (c.at ∷ c.back) }) q) (sym same) gk' in
      let place = one_place c.at c.state c.is_mark c.back eb j.rule a b q q go gk'' in
      let place1 =
      subst
      (λ n. SamePlace enc rules (record { rule = j.rule; front = (j.front ++ c.fore) ++ (c.at ∷ c.back) })
      (record { rule = n; front = (k.front ++ (z ++ c.skipped)) ++ (c.at ∷ c.back) })) same
      place in
      let place2 =
      subst
      (λ l. SamePlace enc rules (record { rule = j.rule; front = l })
      (record { rule = k.rule; front = (k.front ++ (z ++ c.skipped)) ++ (c.at ∷ c.back) })) fa
      place1 in
      let deep = one_depth j.rule k.rule a b (c.at ∷ (c.back ++ q)) ga gb in
      let da = depth_append enc j.front c.fore 0 in
      let db = depth_append enc k.front (z ++ c.skipped) 0 in
      let level : depth (depth 0 j.front) c.fore ≡ depth (depth 0 k.front) (z ++ c.skipped) = sym da ∙ deep ∙ db in
      let us : units (z ++ c.skipped) ≡ [] = units_append z c.skipped ∙ ap₂ (λ a b. a ++ b) uz c.without_unit in
      let k1 = kept_in_parts j c.fore (c.at ∷ c.back) uf in
      let k2 = kept_in_parts j c.fore c.left_out uf in
      let k3 = kept_in_parts k (z ++ c.skipped) (c.at ∷ c.back) us in
      let k4 : kept j y ≡ kept j (c.fore ++ c.left_out) = ap (λ l. kept j l) c.is_front in
      let k5 : kept k (z ++ m ∷ rest) ≡ kept k ((z ++ c.skipped) ++ (c.at ∷ c.back)) =
      ap (λ l. kept k l) (ap (λ l. z ++ l) c.goes ∙ sym (append_assoc z c.skipped (c.at ∷ c.back))) in
      let k6 :
      lowest (depth (depth 0 j.front) c.fore) (depth (depth 0 j.front) c.fore) (c.at ∷ c.back)
      ≡ lowest (depth (depth 0 k.front) (z ++ c.skipped)) (depth (depth 0 k.front) (z ++ c.skipped)) (c.at ∷ c.back) =
      ap (λ d. lowest d d (c.at ∷ c.back)) level in
      record {
        walk = c.fore ++ (c.at ∷ c.back);
        ends_in_unit = ends_on c.fore (c.at ∷ c.back) eb;
        own = record {
          reads_word =
              units_append j.front (c.fore ++ (c.at ∷ c.back))
              ∙ ap₂ (λ a b. a ++ b) ij.reads_word (units_append c.fore (c.at ∷ c.back) ∙ ap₂ (λ a b. a ++ b) uf ub);
          after_unit = ends_on j.front (c.fore ++ (c.at ∷ c.back)) (ends_on c.fore (c.at ∷ c.back) eb);
          possible = (q, subst (λ l. GoesOn enc rules (record { rule = j.rule; front = l }) q) fa go);
        };
        place =
            subst
            (λ l. SamePlace enc rules (after j (c.fore ++ (c.at ∷ c.back))) (record { rule = k.rule; front = l })) (sym fk) place2;
        keeps = omega arith;
      }
    where
      some : u ∷ [] ≡ [] → ⊥
      some e = cc

  pub dropped :
      (w : List ℕ) (u : ℕ) (j k : Cut) (y z rest more : List Symbol) (m : Symbol) (s n : ℕ) → IsCut enc rules w j → IsCut enc rules w k
      → IsFirstOf enc rules j k n → mark_of m ≡ Some s → units y ≡ [] → units z ≡ [] → GoesOn enc rules (after j y) (m ∷ more)
      → EndsInUnit (m ∷ rest) → IsCut enc rules (w ++ u ∷ []) (after k (z ++ m ∷ rest)) → min n (kept k z) ≤ kept j y
      → (walk : List Symbol) × IsCut enc rules (w ++ u ∷ []) (after j walk) × SamePlace enc rules (after j walk) (after k (z ++ m ∷ rest))
      × IsFirstOf enc rules (after j walk) (after k (z ++ m ∷ rest)) (min n (min (kept j walk) (kept k (z ++ m ∷ rest))))
  dropped w u j k y z rest more m s n ij ik first is_mark uy uz gj er kz le =
      let o = walk_over w u j k y z rest more m s ij ik first.one_rule is_mark uy uz gj er kz in
      let e1 = walk_units enc rules w j o.walk u ij o.own in
      let e2 = walk_units enc rules w k (z ++ m ∷ rest) u ik kz in
      let a =
      across enc rules j k o.walk (z ++ m ∷ rest) o.own.possible.0 kz.possible.0 u u n ij.after_unit ik.after_unit
      (ij.reads_word ∙ sym ik.reads_word) o.ends_in_unit (ends_on z (m ∷ rest) er) e1 e2 o.own.possible.1 kz.possible.1
      (before_of enc rules w j k n ij ik first) in
      let k1 = kept_in_parts k z (m ∷ rest) uz in
      let k2 = o.keeps in
      (o.walk, o.own, o.place, first_of enc rules (w ++ u ∷ []) _ _ _ o.own kz (a.1 (omega arith)))
