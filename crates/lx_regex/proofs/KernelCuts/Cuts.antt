-- What holds of cuts: one place goes on as another, and the order of two cuts of a word is that of what
-- goes on from them.
use Rattle.std.specs.Prelude.{◌≡◌, ℕ, zero, suc, ◌+◌, ◌*◌, ◌<◌, ◌⊎◌, List, [], ◌∷◌, ◌++◌, map, Option, Some, Bool, true, false, ◌&&◌, nat_lt, if◌then◌else◌, slice_get, refl}
use Rattle.std.proofs.Common.{sym, ap, ap₂, ◌∙◌, subst, arith, append_assoc, inl, inr, ⊎_elim}
use Rattle.lx_base.specs.declared.settings.Enc.{Enc}
use Rattle.lx_base.specs.declared.settings.Enc.TheVariants.{Byte, Ucs2, Utf8, Utf16, Utf32}
use Rattle.lx_regex.specs.Automaton.{Move, State, moves_after, alternatives_table, copies_table, label, leaf, moves, unit_leaf, members_table, table, final, rules_table, automaton}
use Rattle.lx_regex.specs.Cut.{Cut, EndsInUnit, GoesOn, SamePlace, last_part, rule_part}
use Rattle.lx_regex.specs.Dictionary.{IsBefore}
use Rattle.lx_regex.specs.Plain.{IsPlain}
use Rattle.lx_regex.specs.Script.{Symbol, begins, choices, ends, has_long, has_short, leaf_choice, picks, reads, script, sets, units, unsets}
use Rattle.lx_regex.specs.Term.{Term, Terms, alt, any_unit, cat, class, cons, copies, empty, group, nil, parts, repeat, tag}
use Rattle.lx_regex.specs.Walk.{Walk, mark, symbols}
use Rattle.lx_regex.proofs.Walks.Clear.{AllAreClear, clear_append, none_clear, one_clear, table_clear}
use Rattle.lx_regex.proofs.Walks.Exchange.{Cutting, cut_walk, first_mark, plain_swap, swap_walks}
use Rattle.lx_regex.proofs.Walks.Fronts.{Front, DiffersBefore, by_code, by_move, fronts_differ, fronts_order, within}
use Rattle.lx_regex.proofs.Walks.PlainWalk.{units_append}
use Rattle.lx_regex.proofs.Walks.Readings.{code_row}
use Rattle.lx_regex.specs.Reading.{IsReading, of_point, of_unit}
use Rattle.lx_regex.proofs.PartTables.Rows.{mark_begins, mark_ends, stands_front, Stands}
use Rattle.lx_regex.proofs.Walks.TreeWalk.{member_back}
use Rattle.lx_regex.proofs.Walks.WholeWalk.{stands_all, walk_of, tree_of}

rule_at :
    (states : List State) (rules : List Term) (c r : ℕ) (e : Term) → Stands states (2 * (c + 1)) (rules_table rules (c + 1))
    → slice_get rules r ≡ Some e → Stands states (2 * (c + rule_part rules r)) (table e (c + rule_part rules r) final)
rule_at states [] c r e h k = cc
rule_at states (x ∷ rules) c zero e h k =
    let z : x ≡ e = cc in
    subst (λ n. Stands states (2 * (c + 1)) (table n (c + 1) final)) z (stands_front states _ (table x (c + 1) final) _ h)
rule_at states (x ∷ rules) c (suc r) e h k =
    let back = member_back states (c + 1) x final (rules_table rules (c + 1 + parts x)) h in
    let z : c + 1 + parts x ≡ (c + parts x) + 1 = omega arith in
    let i = rule_at states rules (c + parts x) r e (subst (λ n. Stands states (2 * n) (rules_table rules n)) z back) k in
    let y : (c + parts x) + rule_part rules r ≡ c + (parts x + rule_part rules r) = omega arith in
    subst (λ n. Stands states (2 * n) (table e n final)) y i

pub rule_stands : (rules : List Term) (r : ℕ) (e : Term) → slice_get rules r ≡ Some e
    → Stands (automaton rules) (2 * rule_part rules r) (table e (rule_part rules r) final)
rule_stands rules r e k =
    let z : 0 + rule_part rules r ≡ rule_part rules r = omega arith in
    subst
    (λ n. Stands (automaton rules) (2 * n) (table e n final)) z
    (rule_at (automaton rules) rules 0 r e (stands_all (rules_table rules 1) (moves [] ∷ moves [] ∷ [])) k)

pub rule_positive : (rules : List Term) (r : ℕ) → 0 < rule_part rules r
rule_positive [] r = omega arith
rule_positive (e ∷ rules) zero = omega arith
rule_positive (e ∷ rules) (suc r) = omega (arith, rule_positive rules r)

rules_clear : (rules : List Term) (p : ℕ) → AllAreClear (rules_table rules p)
rules_clear [] p = tt
rules_clear (e ∷ rules) p =
    clear_append (table e p final) _ (table_clear e p final (one_clear _)) (rules_clear rules (p + parts e))

pub automaton_clear : (rules : List Term) → AllAreClear (automaton rules)
automaton_clear rules = (none_clear, (none_clear, rules_clear rules 1))

-- rows in pairs, of which the second has moves: so leaves have even states
abbrev pub ArePaired : List State → Type 0
ArePaired [] = Unit {0}
ArePaired (r ∷ []) = ⊥
ArePaired (r ∷ moves ms ∷ rows) = ArePaired rows
ArePaired (r ∷ leaf ranges ∷ rows) = ⊥
ArePaired (r ∷ unit_leaf ∷ rows) = ⊥

paired_append : (a b : List State) → ArePaired a → ArePaired b → ArePaired (a ++ b)
paired_append [] b h k = k
paired_append (r ∷ []) b h k = absurd h
paired_append (r ∷ moves ms ∷ a) b h k = paired_append a b h k
paired_append (r ∷ leaf ranges ∷ a) b h k = absurd h
paired_append (r ∷ unit_leaf ∷ a) b h k = absurd h

paired_copies : (rows : ℕ → List Move → List State) (p : ℕ) (body : Term) (low : ℕ) (high : Option ℕ) (n c : ℕ)
    → ((q : ℕ) (ms : List Move) → ArePaired (rows q ms)) → ArePaired (copies_table rows p body low high n c)
paired_copies rows p body low high zero c h = tt
paired_copies rows p body low high (suc n) c h =
    paired_append
    (rows (p + 1 + c * parts body) (moves_after p body low high (suc c))) _ (h _ _)
    (paired_copies rows p body low high n (suc c) h)

mutual
  paired_table : (e : Term) (p : ℕ) (ms : List Move) → ArePaired (table e p ms)
  paired_table empty p ms = tt
  paired_table (class ranges) p ms = tt
  paired_table any_unit p ms = tt
  paired_table (cat members) p ms = paired_row members (p + 1) (2 * p + 1)
  paired_table (alt members) p ms = paired_alt members (p + 1) (2 * p + 1)
  paired_table (repeat body low high) p ms =
      paired_copies (λ q ms. table body q ms) p body low high (copies low high) 0 (λ q ms. paired_table body q ms)
  paired_table (tag t) p ms = tt
  paired_table (group opening closing body) p ms = paired_table body (p + 1) _

  paired_row : (members : Terms) (q last : ℕ) → ArePaired (members_table members q last)
  paired_row nil q last = tt
  paired_row (cons e members) q last =
      paired_append (table e q _) _ (paired_table e q _) (paired_row members (q + parts e) last)

  paired_alt : (members : Terms) (q last : ℕ) → ArePaired (alternatives_table members q last)
  paired_alt nil q last = tt
  paired_alt (cons e members) q last =
      paired_append (table e q _) _ (paired_table e q _) (paired_alt members (q + parts e) last)

pub paired_rules : (rules : List Term) (p : ℕ) → ArePaired (rules_table rules p)
paired_rules [] p = tt
paired_rules (e ∷ rules) p = paired_append (table e p final) _ (paired_table e p final) (paired_rules rules (p + parts e))

-- a row that is no list of moves is the first of a pair
pub code_even :
    (enc : Enc) (states : List State) (s : ℕ) (r : State) {d : List Symbol} {us : List ℕ} → ArePaired states → slice_get states s ≡ Some r
    → IsReading enc r d us → (p : ℕ) × (s ≡ 2 * p)
code_even enc [] s r h k c = cc
code_even enc (x ∷ []) s r h k c = absurd h
code_even enc (x ∷ moves ms ∷ states) zero r h k c = (0, refl)
code_even enc (x ∷ moves ms ∷ states) (suc zero) r h k c = absurd (code_row enc c ms (cc))
code_even enc (x ∷ moves ms ∷ states) (suc (suc s)) r h k c =
    let z = code_even enc states s r h k c in (suc z.0, omega (arith, z.1))
code_even enc (x ∷ leaf ranges ∷ states) s r h k c = absurd h
code_even enc (x ∷ unit_leaf ∷ states) s r h k c = absurd h

pub last_append : (q : ℕ) (a b : List Symbol) → last_part q (a ++ b) ≡ last_part (last_part q a) b
last_append q [] b = refl
last_append q (begins p ∷ a) b = last_append p a b
last_append q (ends p ∷ a) b = last_append q a b
last_append q (reads u ∷ a) b = last_append q a b
last_append q (sets t ∷ a) b = last_append q a b
last_append q (unsets t ∷ a) b = last_append q a b
last_append q (picks d ∷ a) b = last_append q a b

pub last_reads : (q : ℕ) (us : List ℕ) → last_part q (map reads us) ≡ q
last_reads q [] = refl
last_reads q (u ∷ us) = last_reads q us

last_choice : (enc : Enc) (ranges : List (ℕ × ℕ)) (c q : ℕ) → last_part q (leaf_choice enc ranges c) ≡ q
last_choice Byte ranges c q = refl
last_choice Ucs2 ranges c q = refl
last_choice Utf8 ranges c q = refl
last_choice Utf16 ranges c q = at (has_short ranges && has_long ranges)
  where
    at : (b : Bool) → last_part q (if b then picks (if nat_lt c 0x10000 then 1 else 0) ∷ [] else []) ≡ q
    at true = refl
    at false = refl
last_choice Utf32 ranges c q = refl

pub last_code : (enc : Enc) {r : State} {d : List Symbol} {us : List ℕ} → IsReading enc r d us → (q : ℕ) → last_part q d ≡ q
last_code enc (of_point {ranges} c i) q = last_choice enc ranges c q
last_code enc (of_unit u) q = refl

-- the leaf in which a front stands is the part that began last
pub front_part :
    (enc : Enc) (states : List State) → ArePaired states → (f : ℕ) (v : List ℕ) {s : ℕ} {l : List Symbol} → Front enc states f v s l
    → (q : ℕ) → f ≡ 2 * last_part q l
front_part enc states h f v (by_move {s} {l} ms m k i a) q =
    front_part enc states h f v a (last_part q (mark s ∷ label m))
    ∙ ap (λ n. 2 * n) (sym (last_append q (mark s ∷ label m) l))
front_part enc states h f v (by_code {s} {l} r d us k c a) q =
    front_part enc states h f v a (last_part (last_part q (mark s ∷ d)) (map reads us))
    ∙ ap
    (λ n. 2 * n)
    (sym (last_append (last_part q (mark s ∷ d)) (map reads us) l)
    ∙ sym (last_append q (mark s ∷ d) (map reads us ++ l)))
front_part enc states h f v (within {s} at r d u us k c) q =
    let z = code_even enc states s r h k c in
    let e : last_part q (mark s ∷ (d ++ map reads (u ∷ us))) ≡ z.0 =
    ap (λ x. last_part q (x ∷ (d ++ map reads (u ∷ us)))) (ap mark z.1 ∙ mark_begins z.0)
    ∙ last_append z.0 d (map reads (u ∷ us)) ∙ last_reads (last_part z.0 d) (u ∷ us) ∙ last_code enc c z.0 in
    sym at ∙ z.1 ∙ ap (λ n. 2 * n) (sym e)

module _ (enc : Enc) (rules : List Term) where
  -- a walk of a cut's rule with the cut's symbols and what goes on
  pub record Way (rule : ℕ) (l : List Symbol) : Type 0 where
    pub walk : Walk (automaton rules) 0 (2 * rule_part rules rule)
    pub says : symbols enc walk [] ≡ l

  pub way_of : (k : Cut) (rest : List Symbol) → GoesOn enc rules k rest → Way k.rule (k.front ++ rest)
  way_of k rest go =
      let w = walk_of enc (automaton rules) go.0 (rule_part rules k.rule) (rule_stands rules k.rule go.0 go.2) go.1 in
      record { walk = w.0; says = w.1 ∙ go.3 }

  pub cutting_of : (rule : ℕ) (l rest : List Symbol) → EndsInUnit l → Way rule (l ++ rest)
      → Cutting enc (automaton rules) 0 (2 * rule_part rules rule) l rest
  cutting_of rule l rest is w =
      let e : symbols enc w.walk [] ≡ is.0 ++ reads is.1 ∷ rest =
      w.says ∙ ap (λ n. n ++ rest) is.2 ∙ append_assoc is.0 (reads is.1 ∷ []) rest in
      subst
      (λ n. Cutting enc (automaton rules) 0 (2 * rule_part rules rule) n rest) (sym is.2)
      (cut_walk enc (automaton rules) 0 w.walk is.0 is.1 rest e)

  -- what goes on from a cut: units that finish its leaf, the end of the leaf, and more
  pub goes_shape : (k : Cut) (rest : List Symbol) → EndsInUnit k.front → GoesOn enc rules k rest
      → (v : List ℕ) × (r : List Symbol) × (rest ≡ map reads v ++ ends (last_part 0 k.front) ∷ r)
  goes_shape k rest is go =
      let c = cutting_of k.rule k.front rest is (way_of k rest go) in
      let n = front_part enc (automaton rules) (paired_rules rules 1) c.at c.left c.front 0 in
      let m = first_mark enc (automaton rules) 0 c.walk (λ e. absurd (omega arith)) in (
        c.left,
        m.0,
        c.goes
            ∙ ap
            (λ x. map reads c.left ++ x)
            (m.1 ∙ ap (λ x. x ∷ m.0) (ap (λ x. mark (x + 1)) n ∙ mark_ends (last_part 0 k.front))),
      )

  -- what goes on from a cut goes on from each cut at its place
  pub place_goes : (j k : Cut) → SamePlace enc rules j k → EndsInUnit j.front → EndsInUnit k.front → (rest : List Symbol)
      → GoesOn enc rules j rest → GoesOn enc rules k rest
  place_goes j k same ij ik rest go =
      let sh = goes_shape j rest ij go in
      let v = sh.0 in
      let q = last_part 0 j.front in
      let other = (same.left v).0 (sh.1, subst (λ n. GoesOn enc rules j n) sh.2 go) in
      let r' = other.0 in
      let wj = way_of j rest go in
      let wk = way_of k (map reads v ++ ends (last_part 0 k.front) ∷ r') other.1 in
      let wj' : Way k.rule (j.front ++ rest) = subst (λ n. Way n (j.front ++ rest)) same.rule wj in
      let ej : j.front ++ rest ≡ ij.0 ++ reads ij.1 ∷ (map reads v ++ ends q ∷ sh.1) =
      ap₂ (λ x y. x ++ y) ij.2 sh.2 ∙ append_assoc ij.0 (reads ij.1 ∷ []) _ in
      let ek : k.front ++ (map reads v ++ ends (last_part 0 k.front) ∷ r') ≡ ik.0 ++ reads ik.1 ∷ (map reads v ++ ends q ∷ r') =
      ap₂ (λ x y. x ++ (map reads v ++ ends y ∷ r')) ik.2 (sym same.part) ∙ append_assoc ik.0 (reads ik.1 ∷ []) _ in
      let x =
      swap_walks enc
      (automaton rules) 0 (2 * rule_part rules k.rule) q v ij.0 ik.0 ij.1 ik.1 sh.1 r' refl wj'.walk wk.walk
      (wj'.says ∙ ej) (wk.says ∙ ek) in
      let y =
      tree_of enc
      (automaton rules) other.1.0 (rule_part rules k.rule) (rule_stands rules k.rule other.1.0 other.1.2)
      (rule_positive rules k.rule) refl x.0 in
      let e : ik.0 ++ reads ik.1 ∷ (map reads v ++ ends q ∷ sh.1) ≡ k.front ++ rest =
      sym (append_assoc ik.0 (reads ik.1 ∷ []) _) ∙ ap₂ (λ a b. a ++ b) (sym ik.2) (sym sh.2) in
      let s : script enc (rule_part rules k.rule) y.0 ≡ k.front ++ rest = sym y.1 ∙ x.1 ∙ e in
      let p =
      plain_swap ij.0 ik.0 ij.1 ik.1
      (map reads v ++ ends q ∷ sh.1) (map reads v ++ ends q ∷ r') (subst IsPlain (go.3 ∙ ej) go.4)
      (subst IsPlain (other.1.3 ∙ ek) other.1.4) in
      (other.1.0, y.0, other.1.2, s, subst IsPlain (e ∙ sym s) p)

  -- two cuts of one rule over the same units are the same, or their choices differ before either's end
  pub cuts_differ : (j k : Cut) (p q : List Symbol) → j.rule ≡ k.rule → EndsInUnit j.front → EndsInUnit k.front
      → units j.front ≡ units k.front → GoesOn enc rules j p → GoesOn enc rules k q
      → (j.front ≡ k.front)
      ⊎ (DiffersBefore (choices j.front) (choices k.front) ⊎ DiffersBefore (choices k.front) (choices j.front))
  cuts_differ j k p q same ij ik u gj gk =
      let c = cutting_of k.rule j.front p ij (subst (λ n. Way n (j.front ++ p)) same (way_of j p gj)) in
      let d = cutting_of k.rule k.front q ik (way_of k q gk) in
      ⊎_elim
      (λ e. inl e.0) (λ r. inr r)
      (fronts_differ enc
      (automaton rules) (automaton_clear rules) c.at d.at c.left d.left
      (2 * rule_part rules k.rule) j.front k.front c.front d.front u)

  -- their order is that of whatever goes on from them
  pub cuts_order : (j k : Cut) (p q : List Symbol) → j.rule ≡ k.rule → EndsInUnit j.front → EndsInUnit k.front
      → units j.front ≡ units k.front → GoesOn enc rules j p → GoesOn enc rules k q
      → IsBefore (choices j.front) (choices k.front) → IsBefore (choices (j.front ++ p)) (choices (k.front ++ q))
  cuts_order j k p q same ij ik u gj gk h =
      let c = cutting_of k.rule j.front p ij (subst (λ n. Way n (j.front ++ p)) same (way_of j p gj)) in
      let d = cutting_of k.rule k.front q ik (way_of k q gk) in
      fronts_order enc
      (automaton rules) (automaton_clear rules) c.at d.at c.left d.left
      (2 * rule_part rules k.rule) j.front k.front c.front d.front u h p q

  pub place_back : (j k : Cut) → SamePlace enc rules j k → SamePlace enc rules k j
  place_back j k s = record { rule = sym s.rule; part = sym s.part; left = λ v. ((s.left v).1, (s.left v).0) }

  -- So a tree whose script goes on from a cut isn't least where another cut of the same units at its place comes before it:
  -- there is a plain one with the same units and lesser choices.
  pub not_least : (j k : Cut) (rest p : List Symbol) → SamePlace enc rules j k → EndsInUnit j.front → EndsInUnit k.front
      → units j.front ≡ units k.front → GoesOn enc rules j p → GoesOn enc rules k rest
      → IsBefore (choices j.front) (choices k.front)
      → GoesOn enc rules j rest × (units (j.front ++ rest) ≡ units (k.front ++ rest))
      × IsBefore (choices (j.front ++ rest)) (choices (k.front ++ rest))
  not_least j k rest p same ij ik u gj gk h =
      let on = place_goes k j (place_back j k same) ik ij rest gk in (
        on,
        units_append j.front rest ∙ ap (λ n. n ++ units rest) u ∙ sym (units_append k.front rest),
        cuts_order j k rest rest same.rule ij ik u on gk h,
      )
