-- The numbers that are kept after one more unit are those of the cuts to which the segments lead.
use Rattle.std.proofs.Common.{inl, inr, sym, ap, ◌∙◌, subst, arith, ⊎_elim}
use Rattle.std.specs.Prelude.{◌≡◌, ℕ, zero, suc, ◌<◌, ◌≤◌, min, List, [], ◌∷◌, ◌++◌, Bool, true, false, refl}
use Rattle.lx_base.specs.declared.settings.Enc.{Enc}
use Rattle.lx_regex.specs.Automaton.{automaton}
use Rattle.lx_regex.specs.Cut.{Cut, IsCut, SamePlace}
use Rattle.lx_regex.specs.Script.{Symbol}
use Rattle.lx_regex.specs.Term.{Term}
use Rattle.lx_tnfa.specs.LeafReadings.{IsNth, NumbersLeaves}
use Rattle.lx_tdfa.specs.Graph.{graph_of, rule_starts}
use Rattle.lx_tdfa.specs.Kernels.{Candidate, Entry, cut_of, rule_of, segment_symbols}
use Rattle.lx_tdfa.proofs.Values.ValueSteps.{forwards}
use Rattle.lx_tdfa.proofs.WordKernels.KernelsListed.{same_number}
use Rattle.lx_tdfa.proofs.WordKernels.OrderedLists.{IsMember, IsRising, each_member, nth_member}
use Rattle.lx_tdfa.proofs.WordKernels.RunSteps.{AreApart}
use Rattle.lx_posix.specs.Comparing.{Comparison, Ranked, least_number, number_between, ranked_at}
use Rattle.lx_posix.specs.KernelLists.{ranked_of, ranks_behind, ranks_to}
use Rattle.lx_posix.specs.Numbers.{IsFirstOf, PosixPrecedes}
use Rattle.lx_posix.proofs.Counted.NumbersOfCuts.{before_of, first_of, unit_some}
use Rattle.lx_posix.proofs.Kernels.ListedKernels.{precedes_asym, precedes_trans}
use Rattle.lx_posix.proofs.Lists.RankedCuts.{AreRanked, Comes, IsCompared, Precede, compare, compared_right, cut_after, is_cut, next_entry, next_run, rule_after, said}
use Rattle.lx_posix.proofs.Orders.NumberBetween.{number_between as outer_number}

module _ (enc : Enc) (rules : List Term) (next : ℕ → ℕ → List ℕ) (added : ℕ → ℕ → ℕ → List Symbol) (number : ℕ → List Symbol → ℕ)
    (numbers : NumbersLeaves enc rules next added number) (w : List ℕ) (es : List Entry) (ss : List Ranked) (u : ℕ)
    (are : AreRanked enc rules next added number numbers w es ss) where
  abbrev pub ComesFrom : Candidate → Type 0
  ComesFrom n = Comes enc rules next added number numbers es u n

  abbrev pub cut_on : Candidate → Cut
  cut_on n = cut_after enc rules next added number numbers es u n

  abbrev pub number_of : Candidate → Candidate → ℕ
  number_of n m = (compare enc rules next added number numbers ss u n m).number

  abbrev pub rule_at : Candidate → ℕ
  rule_at n = (ranked_at ss n.from).rule

  abbrev pub PrecedeBy : Candidate → Candidate → Type 0
  PrecedeBy n m = Precede enc rules next added number numbers w es ss u are n m

  pub cut_is : (n : Candidate) → ComesFrom n → IsCut enc rules (forwards w ++ u ∷ []) (cut_on n)
  cut_is n c = is_cut enc rules next added number numbers w es ss u are n c

  pub precede_trans : (a b c : Candidate) → ComesFrom a → ComesFrom b → ComesFrom c → PrecedeBy a b → PrecedeBy b c → PrecedeBy a c
  precede_trans a b c ca cb cc' (inl e) (inl f) = inl (e ∙ f)
  precede_trans a b c ca cb cc' (inl e) (inr q) = inr (subst (λ k. PosixPrecedes enc rules k (cut_on c)) (sym e) q)
  precede_trans a b c ca cb cc' (inr p) (inl f) = inr (subst (λ k. PosixPrecedes enc rules (cut_on a) k) f p)
  precede_trans a b c ca cb cc' (inr p) (inr q) =
      inr (precedes_trans enc rules (forwards w ++ u ∷ []) (cut_on a) (cut_on b) (cut_on c) (cut_is a ca) (cut_is b cb) (cut_is c cc') p q)

  -- segments that lead to different places lead to different cuts
  place_self : (k : Cut) → SamePlace enc rules k k
  place_self k = record { rule = refl; part = refl; left = λ v. ((λ f. f), (λ f. f)) }

  pub apart : (a b : Candidate) → ComesFrom a → ComesFrom b → AreApart a b → cut_on a ≡ cut_on b → ⊥
  apart a b ca cb not e =
      let ra = next_run enc rules next added number numbers w es ss u are a ca in
      let rb = next_run enc rules next added number numbers w es ss u are b cb in
      let ka = ap cut_of (next_entry enc rules next added number numbers w es ss u are a ca) in
      let kb = ap cut_of (next_entry enc rules next added number numbers w es ss u are b cb) in
      not
      (same_number enc rules next added number numbers u w u w (a.key ∷ ca.entry.keys) (b.key ∷ cb.entry.keys)
      (ca.entry.front ++ said enc rules next added number numbers w es ss u are a ca)
      (cb.entry.front ++ said enc rules next added number numbers w es ss u are b cb) a.to b.to ra rb
      (subst (λ k. SamePlace enc rules
      (record {
        rule = rule_of (a.key ∷ ca.entry.keys);
        front = ca.entry.front ++ said enc rules next added number numbers w es ss u are a ca;
      }) k)
      (sym ka ∙ e ∙ kb) (place_self _)))

  pub strict : (a b : Candidate) → ComesFrom a → ComesFrom b → AreApart a b → PrecedeBy a b → PosixPrecedes enc rules (cut_on a) (cut_on b)
  strict a b ca cb not (inl e) = absurd (apart a b ca cb not e)
  strict a b ca cb not (inr p) = p

  -- the number of two, of which the first comes first
  two_in_rule : (a b : Candidate) → ComesFrom a → ComesFrom b → AreApart a b → PrecedeBy a b → rule_at a ≡ rule_at b
      → IsFirstOf enc rules (cut_on a) (cut_on b) (number_of a b)
  two_in_rule a b ca cb not p same =
      go (compare enc rules next added number numbers ss u a b)
      (compared_right enc rules next added number numbers w es ss u are a b ca cb)
    where
      go : (c : Comparison) → IsCompared enc rules next added number numbers w es ss u are a b c
          → IsFirstOf enc rules (cut_on a) (cut_on b) c.number
      go c r = by c.is_first refl
        where
          by : (t : Bool) → c.is_first ≡ t → IsFirstOf enc rules (cut_on a) (cut_on b) c.number
          by true e = ⊎_elim (λ q. absurd (apart a b ca cb not q)) (λ f. f) ((r.one_rule same).yes_first e)
          by false e =
              ⊎_elim (λ q. absurd (apart a b ca cb not q))
              (λ f. absurd
              (precedes_asym enc rules (forwards w ++ u ∷ []) (cut_on a) (cut_on b) (cut_is a ca) (cut_is b cb)
              (strict a b ca cb not p) (inr (c.number, f))))
              ((r.one_rule same).not_first e)

  -- of three in order the number of the outer two
  outer : (a b c : Candidate) → ComesFrom a → ComesFrom b → ComesFrom c → (n m : ℕ) → IsFirstOf enc rules (cut_on a) (cut_on b) n
      → IsFirstOf enc rules (cut_on b) (cut_on c) m → IsFirstOf enc rules (cut_on a) (cut_on c) (min n m)
  outer a b c ca cb cc' n m f g =
      let v = forwards w ++ u ∷ [] in
      let ia = cut_is a ca in
      let ib = cut_is b cb in
      let ic = cut_is c cc' in
      first_of enc rules (forwards w ++ u ∷ []) (cut_on a) (cut_on c) (min n m) ia ic
      (outer_number enc rules (cut_on a) (cut_on b) (cut_on c) n m (unit_some enc rules (cut_on a).front ia.after_unit)
      (ia.reads_word ∙ sym ib.reads_word) (ib.reads_word ∙ sym ic.reads_word)
      (before_of enc rules (forwards w ++ u ∷ []) (cut_on a) (cut_on b) n ia ib f)
      (before_of enc rules (forwards w ++ u ∷ []) (cut_on b) (cut_on c) m ib ic g))

  -- of two in order the rule of the first is no later one
  pub rules_rise : (a b : Candidate) → ComesFrom a → ComesFrom b → PrecedeBy a b → rule_at a ≤ rule_at b
  rules_rise a b ca cb p =
      let x = rule_after enc rules next added number numbers w es ss u are a ca in
      let y = rule_after enc rules next added number numbers w es ss u are b cb in
      ⊎_elim
      (λ e. let z : (cut_on a).rule ≡ (cut_on b).rule = ap (λ (k : Cut). k.rule) e in omega arith)
      (λ q. ⊎_elim (λ lt. omega arith) (λ f. let z = f.1.one_rule in omega arith) q) p

  -- segments in order, to different places
  pub record AreInOrder (ns : List Candidate) : Type 0 where
    pub come : (n : Candidate) → IsMember ns n → ComesFrom n
    pub rise : IsRising PrecedeBy ns
    pub once : IsRising AreApart ns

  pub tail_in_order : (n : Candidate) (ns : List Candidate) → AreInOrder (n ∷ ns) → AreInOrder ns
  tail_in_order n ns o = record { come = λ m k. o.come m (inr k); rise = o.rise.1; once = o.once.1 }

  abbrev pub behind : Candidate → List Candidate → List Ranked
  behind n ns = ranks_behind (graph_of (automaton rules)) next (segment_symbols rules added) (rule_starts rules) ss u n ns

  abbrev pub all_behind : List Candidate → List Ranked
  all_behind ns = ranks_to (graph_of (automaton rules)) next (segment_symbols rules added) (rule_starts rules) ss u ns

  -- the number of the first and a later one is the least of the numbers between
  number_behind : (n : Candidate) (ns : List Candidate) → AreInOrder (n ∷ ns) → (j : ℕ) (m : Candidate) → IsNth ns j m
      → rule_at n ≡ rule_at m → IsFirstOf enc rules (cut_on n) (cut_on m) (least_number (behind n ns) j)
  number_behind n [] o j m h same = absurd h
  number_behind n (x ∷ ns) o zero m h same =
      let cn = o.come n (inl refl) in
      let cx = o.come x (inr (inl refl)) in
      let same' : rule_at n ≡ rule_at x = same ∙ ap (λ (y : Candidate). rule_at y) (sym h) in
      subst (λ (y : Candidate). IsFirstOf enc rules (cut_on n) (cut_on y) (number_of n x)) h
      (two_in_rule n x cn cx o.once.0.0 o.rise.0.0 same')
  number_behind n (x ∷ ns) o (suc j) m h same =
      let cn = o.come n (inl refl) in
      let cx = o.come x (inr (inl refl)) in
      let k = nth_member ns j m h in
      let cm = o.come m (inr (inr k)) in
      let a = rules_rise n x cn cx o.rise.0.0 in
      let b = rules_rise x m cx cm (each_member (PrecedeBy x) ns m o.rise.1.0 k) in
      outer n x m cn cx cm (number_of n x) (least_number (behind x ns) j)
      (two_in_rule n x cn cx o.once.0.0 o.rise.0.0 (omega arith))
      (number_behind x ns (tail_in_order n (x ∷ ns) o) j m h (omega arith))

  -- the number of two of the list
  between_behind : (last : Candidate) (ns : List Candidate) → AreInOrder ns → (i j : ℕ) (n m : Candidate) → i < j → IsNth ns i n
      → IsNth ns j m
      → rule_at n ≡ rule_at m → IsFirstOf enc rules (cut_on n) (cut_on m) (number_between (behind last ns) i j)
  between_behind last [] o i j n m lt h k same = absurd h
  between_behind last (x ∷ ns) o i zero n m lt h k same = absurd (omega arith)
  between_behind last (x ∷ ns) o zero (suc j) n m lt h k same =
      subst (λ (y : Candidate). IsFirstOf enc rules (cut_on y) (cut_on m) (least_number (behind x ns) j)) h
      (number_behind x ns o j m k (ap (λ (y : Candidate). rule_at y) h ∙ same))
  between_behind last (x ∷ ns) o (suc i) (suc j) n m lt h k same =
      between_behind x ns (tail_in_order x ns o) i j n m (omega arith) h k same

  pub between_all : (ns : List Candidate) → AreInOrder ns → (i j : ℕ) (n m : Candidate) → i < j → IsNth ns i n → IsNth ns j m
      → rule_at n ≡ rule_at m → IsFirstOf enc rules (cut_on n) (cut_on m) (number_between (all_behind ns) i j)
  between_all [] o i j n m lt h k same = absurd h
  between_all (x ∷ ns) o i zero n m lt h k same = absurd (omega arith)
  between_all (x ∷ ns) o zero (suc j) n m lt h k same =
      subst (λ (y : Candidate). IsFirstOf enc rules (cut_on y) (cut_on m) (least_number (behind x ns) j)) h
      (number_behind x ns o j m k (ap (λ (y : Candidate). rule_at y) h ∙ same))
  between_all (x ∷ ns) o (suc i) (suc j) n m lt h k same =
      between_behind x ns (tail_in_order x ns o) i j n m (omega arith) h k same

  -- what is kept of one of the list
  abbrev kept_of : Candidate → ℕ → Ranked
  kept_of n k = ranked_of (graph_of (automaton rules)) next (segment_symbols rules added) (rule_starts rules) ss u n k

  kept_behind : (last : Candidate) (ns : List Candidate) (i : ℕ) (n : Candidate) → IsNth ns i n
      → (k : ℕ) × (ranked_at (behind last ns) i ≡ kept_of n k)
  kept_behind last [] i n h = absurd h
  kept_behind last (x ∷ ns) zero n h = (number_of last x, ap (λ (y : Candidate). kept_of y (number_of last x)) h)
  kept_behind last (x ∷ ns) (suc i) n h = kept_behind x ns i n h

  pub kept_all : (ns : List Candidate) (i : ℕ) (n : Candidate) → IsNth ns i n → (k : ℕ) × (ranked_at (all_behind ns) i ≡ kept_of n k)
  kept_all [] i n h = absurd h
  kept_all (x ∷ ns) zero n h = (0, ap (λ (y : Candidate). kept_of y 0) h)
  kept_all (x ∷ ns) (suc i) n h = kept_behind x ns i n h

  pub first_alone : (ns : List Candidate) → (ranked_at (all_behind ns) 0).number ≡ 0
  first_alone [] = refl
  first_alone (n ∷ ns) = refl

  -- of two rules there is no number
  two_rules : (n m : Candidate) → ComesFrom n → ComesFrom m → rule_at n < rule_at m → number_of n m ≡ 0
  two_rules n m cn cm lt = (compared_right enc rules next added number numbers w es ss u are n m cn cm).no_number lt

  alone_behind : (last : Candidate) (ns : List Candidate) → AreInOrder ns → (i : ℕ) (n m : Candidate) → IsNth ns i n → IsNth ns (suc i) m
      → rule_at n < rule_at m → (ranked_at (behind last ns) (suc i)).number ≡ 0
  alone_behind last [] o i n m h k lt = absurd h
  alone_behind last (x ∷ []) o zero n m h k lt = absurd k
  alone_behind last (x ∷ y ∷ ns) o zero n m h k lt =
      two_rules x y (o.come x (inl refl)) (o.come y (inr (inl refl)))
      (subst (λ a. rule_at a < rule_at y) (sym h) (subst (λ a. rule_at n < rule_at a) (sym k) lt))
  alone_behind last (x ∷ ns) o (suc i) n m h k lt = alone_behind x ns (tail_in_order x ns o) i n m h k lt

  pub alone_all : (ns : List Candidate) → AreInOrder ns → (i : ℕ) (n m : Candidate) → IsNth ns i n → IsNth ns (suc i) m
      → rule_at n < rule_at m → (ranked_at (all_behind ns) (suc i)).number ≡ 0
  alone_all [] o i n m h k lt = absurd h
  alone_all (x ∷ []) o zero n m h k lt = absurd k
  alone_all (x ∷ y ∷ ns) o zero n m h k lt =
      two_rules x y (o.come x (inl refl)) (o.come y (inr (inl refl)))
      (subst (λ a. rule_at a < rule_at y) (sym h) (subst (λ a. rule_at n < rule_at a) (sym k) lt))
  alone_all (x ∷ ns) o (suc i) n m h k lt = alone_behind x ns (tail_in_order x ns o) i n m h k lt
