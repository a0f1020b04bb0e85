-- Where the run of an automaton on a word stops, its match is that of the best front of what it passed.
use Rattle.std.proofs.Common.{◌≡◌, ◌⊎◌, inl, inr, ℕ, suc, ◌+◌, ◌≤◌, List, [], ◌∷◌, ◌++◌, length, Option, Some, None, refl, sym, ap, ◌∙◌, subst, arith, append_assoc, append-nil, length-append}
use Rattle.lx_auto.proofs.Runs.{run-one_more}
use Rattle.lx_auto.specs.Automaton.{edge_on, state_of}
use Rattle.lx_auto.specs.Bank.{empty_bank}
use Rattle.lx_auto.specs.Run.{Found, Standing, and_then, at_start, behind_edge, by_edge, found_at, found_behind, or_else, run, step}
use Rattle.lx_auto.specs.declared.automaton.Auto.{Auto}
use Rattle.lx_auto.specs.declared.automaton.Edge.{Edge}
use Rattle.lx_base.specs.declared.settings.Enc.{Enc}
use Rattle.lx_regex.specs.Match.{Takes}
use Rattle.lx_regex.specs.Order.{Policy}
use Rattle.lx_regex.specs.Pattern.{Pattern}
use Rattle.lx_tdfa.specs.Promise.{FindsBest, IsAutoUnder, IsBest}
use Rattle.lx_cover.specs.Machine.{last_standing, or_here}

same_cons : (letter unit : ℕ) (text other : List ℕ) → letter ≡ unit → text ≡ other → letter ∷ text ≡ unit ∷ other
same_cons letter unit text other head tail = cc

-- of two fronts of one text the first goes on within the second, or it is shorter
pub fronts : (word rest other more : List ℕ) → word ++ rest ≡ other ++ more
    → ((back : List ℕ) × (word ≡ other ++ back)) ⊎ ((unit : ℕ) × (back : List ℕ) × (other ≡ word ++ unit ∷ back))
fronts word rest [] more same = inl (word, refl)
fronts [] rest (unit ∷ other) more same = inr (unit, other, refl)
fronts (letter ∷ word) rest (unit ∷ other) more same =
    let head : letter ≡ unit = cc in
    let tail : word ++ rest ≡ other ++ more = cc in
    by head (fronts word rest other more tail)
  where
    by : letter ≡ unit → ((back : List ℕ) × (word ≡ other ++ back)) ⊎ ((next : ℕ) × (back : List ℕ) × (other ≡ word ++ next ∷ back))
        → ((back : List ℕ) × (letter ∷ word ≡ unit ∷ (other ++ back))) ⊎
        ((next : ℕ) × (back : List ℕ) × (unit ∷ other ≡ letter ∷ (word ++ next ∷ back)))
    by head (inl within) = inl (within.0, same_cons letter unit word (other ++ within.0) head within.1)
    by head (inr longer) = inr (longer.0, longer.1, same_cons unit letter other (word ++ longer.0 ∷ longer.1) (sym head) longer.2)

nothing_left : (l : List ℕ) → length l ≡ 0 → l ≡ []
nothing_left [] none = refl
nothing_left (x ∷ l) none = absurd (omega (arith, none))

-- a front of a word with one unit more is one of the word, or the whole
front_or_whole : (word other more : List ℕ) (unit : ℕ) → word ++ unit ∷ [] ≡ other ++ more
    → ((back : List ℕ) × (word ≡ other ++ back)) ⊎ (word ++ unit ∷ [] ≡ other)
front_or_whole word other more unit same = by (fronts word (unit ∷ []) other more same)
  where
    by : ((back : List ℕ) × (word ≡ other ++ back)) ⊎ ((next : ℕ) × (back : List ℕ) × (other ≡ word ++ next ∷ back))
        → ((back : List ℕ) × (word ≡ other ++ back)) ⊎ (word ++ unit ∷ [] ≡ other)
    by (inl within) = inl within
    by (inr longer) =
        let e : length other ≡ length word + suc (length longer.1) = ap length longer.2 ∙ length-append word (longer.0 ∷ longer.1) in
        let l : length (word ++ unit ∷ []) ≡ length word + 1 = length-append word (unit ∷ []) in
        let both : length (word ++ unit ∷ []) ≡ length other + length more = ap length same ∙ length-append other more in
        let none : length more ≡ 0 = omega (arith, e, l, both) in
        inr (same ∙ ap (λ l. other ++ l) (nothing_left more none) ∙ append-nil other)

module _ (policy : Policy) (enc : Enc) (patterns : List Pattern) where
  -- the longest front of a word that some rule takes, and what is found there
  pub record IsBestFront (word : List ℕ) (found : Found) : Type 0 where
    pub front : List ℕ
    pub back : List ℕ
    pub splits : word ≡ front ++ back
    pub best : IsBest policy enc patterns 0 front found
    pub longest : (other more : List ℕ) (place : ℕ) → word ≡ other ++ more → Takes enc patterns place other → length other ≤ length front

  -- or no front is taken
  abbrev pub BestFront : List ℕ → Option Found → Type 0
  BestFront word None = (other more : List ℕ) (place : ℕ) → word ≡ other ++ more → Takes enc patterns place other → ⊥
  BestFront word (Some found) = IsBestFront word found

  whole_best : (word : List ℕ) (found : Found) → IsBest policy enc patterns 0 word found → IsBestFront word found
  whole_best word found best = record {
    front = word;
    back = [];
    splits = sym (append-nil word);
    best = best;
    longest = λ other more place same takes. let l = length-append other more in let e = ap length same in omega (arith, e, l);
  }

  BestFront-start : (here : Option Found) → FindsBest policy enc patterns 0 [] here → BestFront [] (or_else here None)
  BestFront-start (Some found) best = whole_best [] found best
  BestFront-start None none = λ other more place same takes. by other more place same takes
    where
      by : (other more : List ℕ) (place : ℕ) → [] ≡ other ++ more → Takes enc patterns place other → ⊥
      by [] more place same takes = none place takes
      by (unit ∷ other) more place same takes = absurd (cc)

  BestFront-more : (word : List ℕ) (unit : ℕ) (here last : Option Found) → FindsBest policy enc patterns 0 (word ++ unit ∷ []) here
      → BestFront word last → BestFront (word ++ unit ∷ []) (or_else here last)
  BestFront-more word unit (Some found) last best before = whole_best (word ++ unit ∷ []) found best
  BestFront-more word unit None None none before =
      λ other more place same takes. by other place takes (front_or_whole word other more unit same)
    where
      by : (other : List ℕ) (place : ℕ) → Takes enc patterns place other
          → ((back : List ℕ) × (word ≡ other ++ back)) ⊎ (word ++ unit ∷ [] ≡ other) → ⊥
      by other place takes (inl within) = before other within.0 place within.1 takes
      by other place takes (inr e) = none place (subst (λ l. Takes enc patterns place l) (sym e) takes)
  BestFront-more word unit None (Some found) none before = record {
    front = before.front;
    back = before.back ++ unit ∷ [];
    splits = ap (λ l. l ++ unit ∷ []) before.splits ∙ append_assoc before.front before.back (unit ∷ []);
    best = before.best;
    longest = λ other more place same takes. by other place takes (front_or_whole word other more unit same);
  }
    where
      by : (other : List ℕ) (place : ℕ) → Takes enc patterns place other
          → ((back : List ℕ) × (word ≡ other ++ back)) ⊎ (word ++ unit ∷ [] ≡ other) → length other ≤ length before.front
      by other place takes (inl within) = before.longest other within.0 place within.1 takes
      by other place takes (inr e) = absurd (none place (subst (λ l. Takes enc patterns place l) (sym e) takes))

module _ (policy : Policy) (enc : Enc) (patterns : List Pattern) (auto : Auto) (is : IsAutoUnder policy enc patterns auto) where
  abbrev pub RunsTo : List ℕ → Standing → Type 0
  RunsTo word standing = run auto (at_start 0) word ≡ Some standing

  -- where the run on a word stops: no edge is on the next unit, if there is one
  pub record IsStopped (word : List ℕ) (last : Standing) : Type 0 where
    pub passed : List ℕ
    pub left : List ℕ
    pub splits : word ≡ passed ++ left
    pub runs : RunsTo passed last
    pub no_edge : (unit : ℕ) (more : List ℕ) → left ≡ unit ∷ more → step auto last unit ≡ None
    pub best : BestFront policy enc patterns passed (found_behind auto last)
    pub offset : last.offset ≡ length passed

  step-offset : (standing next : Standing) (unit : ℕ) → step auto standing unit ≡ Some next → next.offset ≡ suc standing.offset
  step-offset standing next unit stepped = by (edge_on (state_of auto.states standing.state).edges unit) stepped
    where
      by : (o : Option Edge) → by_edge (state_of auto.states standing.state) standing o ≡ Some next → next.offset ≡ suc standing.offset
      by None e = absurd (cc)
      by (Some edge) e =
          let same : behind_edge (state_of auto.states standing.state) standing edge ≡ next = cc in ap (λ s. s.offset) (sym same)

  stopped_from : (w passed : List ℕ) (standing : Standing) → RunsTo passed standing
      → BestFront policy enc patterns passed (found_behind auto standing)
      → standing.offset ≡ length passed → IsStopped (passed ++ w) (last_standing auto standing w)
  stopped_from [] passed standing runs best offset = record {
    passed = passed;
    left = [];
    splits = refl;
    runs = runs;
    no_edge = λ unit more e. absurd (cc);
    best = best;
    offset = offset;
  }
  stopped_from (v ∷ w) passed standing runs best offset =
      by (step auto standing v) refl (λ next. stopped_from w (passed ++ v ∷ []) next)
    where
      by : (o : Option Standing) → step auto standing v ≡ o
          → ((next : Standing) → RunsTo (passed ++ v ∷ []) next → BestFront policy enc patterns (passed ++ v ∷ []) (found_behind auto next)
          → next.offset ≡ length (passed ++ v ∷ []) → IsStopped ((passed ++ v ∷ []) ++ w) (last_standing auto next w))
          → IsStopped (passed ++ v ∷ w) (or_here standing o (λ next. last_standing auto next w))
      by None stepped again = record {
        passed = passed;
        left = v ∷ w;
        splits = refl;
        runs = runs;
        no_edge = λ unit more e. let same : v ≡ unit = cc in ap (λ u. step auto standing u) (sym same) ∙ stepped;
        best = best;
        offset = offset;
      }
      by (Some next) stepped again =
          let ran : RunsTo (passed ++ v ∷ []) next = run-one_more auto (at_start 0) passed v
          ∙ ap (λ o. and_then o (λ last. step auto last v)) runs ∙ stepped in
          let kept = is.kept 0 empty_bank passed standing next v refl runs stepped in
          let here = is.best 0 empty_bank (passed ++ v ∷ []) next refl ran in
          let more = BestFront-more policy enc patterns passed v (found_at auto next) (found_behind auto standing) here best in
          let more' = subst (BestFront policy enc patterns (passed ++ v ∷ [])) (sym kept) more in
          let l : length (passed ++ v ∷ []) ≡ length passed + 1 = length-append passed (v ∷ []) in
          let off = step-offset standing next v stepped in
          subst (λ s. IsStopped s (last_standing auto next w)) (append_assoc passed (v ∷ []) w)
          (again next ran more' (omega (arith, l, off, offset)))

  pub stopped : (word : List ℕ) → IsStopped word (last_standing auto (at_start 0) word)
  stopped word =
      let here = is.best 0 empty_bank [] (at_start 0) refl refl in
      stopped_from word [] (at_start 0) refl (BestFront-start policy enc patterns (found_at auto (at_start 0)) here) refl
