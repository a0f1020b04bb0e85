-- The ways to read a unit at one state are in the order of the cuts to which they lead.
use Rattle.std.proofs.Common.{inr, sym, ap, ap₂, ◌∙◌, subst, arith, le-leb, ⊎_elim}
use Rattle.std.proofs.lemmas.Bool.{cases_lt}
use Rattle.std.specs.Prelude.{◌≡◌, ℕ, ◌<◌, min, List, [], ◌∷◌, ◌++◌, length, Bool, true, false, ◌&&◌, nat_lt, if◌then◌else◌, refl}
use Rattle.lx_base.specs.declared.settings.Enc.{Enc}
use Rattle.lx_base.specs.declared.settings.Enc.TheVariants.{Byte, Ucs2, Utf16, Utf32, Utf8}
use Rattle.lx_regex.specs.Automaton.{State, automaton}
use Rattle.lx_regex.specs.Cut.{Cut, IsCut}
use Rattle.lx_regex.specs.Reading.{IsReading, of_point, of_unit}
use Rattle.lx_regex.specs.Script.{Symbol, choices, has_long, has_short, leaf_choice, picks, reads, units}
use Rattle.lx_regex.specs.Term.{Term}
use Rattle.lx_regex.specs.Walk.{mark}
use Rattle.lx_regex.proofs.Walks.PlainWalk.{units_mark}
use Rattle.lx_tnfa.specs.LeafReadings.{IsNth, NumbersLeaves}
use Rattle.lx_tdfa.specs.Graph.{path_symbols}
use Rattle.lx_tdfa.specs.Kernels.{Candidate, Entry, cut_of, segment_symbols}
use Rattle.lx_tdfa.proofs.Values.ValueSteps.{forwards}
use Rattle.lx_tdfa.proofs.Walks.StatePaths.{path_symbols-append, path_symbols-units}
use Rattle.lx_tdfa.proofs.WordKernels.RunCuts.{IsSegmentOf}
use Rattle.lx_posix.specs.Comparing.{Comparison, Ranked, forked, weighed}
use Rattle.lx_posix.specs.LevelPaths.{AreDepths}
use Rattle.lx_posix.specs.LevelSearch.{ArePlaceDepths}
use Rattle.lx_posix.specs.Numbers.{IsFirstOf, PosixPrecedes}
use Rattle.lx_posix.specs.Parting.{events}
use Rattle.lx_posix.specs.Walks.{after, depth}
use Rattle.lx_posix.proofs.Lists.Comparisons.{fork_of, forked_right}
use Rattle.lx_posix.proofs.Lists.RankedCuts.{AreRanked, Comes, after_is_cut, cut_after, next_cut, one, said}
use Rattle.lx_posix.proofs.OneSearch.WayOrder.{CodedSegment, Codes, Shape, comes_by, one_symbol, same_place, segment_by, shaped}
use Rattle.lx_posix.proofs.Searches.DroppedBranches.{parting_at}
use Rattle.lx_posix.proofs.Searches.LevelOrder.{mark_either}

abbrev pub segment_of : (from : ℕ) (way : List ℕ) (pick to : ℕ) → Candidate
segment_of from way pick to = record { from = from; key = record { way = way; pick = pick }; to = to }

choices_marked : (s : ℕ) (l : List Symbol) → choices (mark s ∷ l) ≡ choices l
choices_marked s l = mark_either s (λ x. choices (x ∷ l) ≡ choices l) (λ p. refl) (λ p. refl)

-- where a leaf has a choice it is its one symbol
picks_of : (enc : Enc) (row : State) (d : List Symbol) (us : List ℕ) (u x : ℕ) (r : List ℕ) → IsReading enc row d us
    → choices (d ++ reads u ∷ []) ≡ x ∷ r → d ≡ picks x ∷ []
picks_of enc row d us u x r (of_unit y) h = cc
picks_of enc row d us u x r (of_point {ranges} c i) h = by enc h
  where
    at : (b : Bool) (y : ℕ) → choices ((if b then picks y ∷ [] else []) ++ reads u ∷ []) ≡ x ∷ r
        → (if b then picks y ∷ [] else []) ≡ picks x ∷ []
    at true y e = let z : y ≡ x = cc in ap (λ n. picks n ∷ []) z
    at false y e = cc

    by : (enc : Enc) → choices (leaf_choice enc ranges c ++ reads u ∷ []) ≡ x ∷ r → leaf_choice enc ranges c ≡ picks x ∷ []
    by Byte e = cc
    by Ucs2 e = cc
    by Utf8 e = cc
    by Utf16 e = at (has_short ranges && has_long ranges) (if nat_lt c 0x10000 then 1 else 0) e
    by Utf32 e = cc

same_tail : (a b c : List Symbol) → a ++ b ≡ a ++ c → b ≡ c
same_tail [] b c e = e
same_tail (x ∷ a) b c e = same_tail a b c (cc)

module _ (enc : Enc) (rules : List Term) where
  -- two walks from one cut that part at their last choice
  last_choice : (w : List ℕ) (u : ℕ) (j : Cut) (a y z : List Symbol) (m n : ℕ) → units a ≡ [] → m < n → y ≡ a ++ picks m ∷ reads u ∷ []
      → z ≡ a ++ picks n ∷ reads u ∷ [] → units y ≡ u ∷ [] → units z ≡ u ∷ [] → IsCut enc rules (w ++ u ∷ []) (after j y)
      → IsCut enc rules (w ++ u ∷ []) (after j z) → (k : ℕ) × IsFirstOf enc rules (after j y) (after j z) k
  last_choice w u j a y z m n quiet lt says says' uy uz iy iz =
      let p = parting_at a quiet (depth 0 j.front) m n lt (reads u ∷ []) (reads u ∷ []) in
      let f = fork_of refl p in
      let q : forked (depth 0 j.front) (events y) (events z)
      ≡ weighed (depth (depth 0 j.front) a) (depth (depth 0 j.front) a) (depth (depth 0 j.front) a) =
      ap₂ (λ b c. forked (depth 0 j.front) (events b) (events c)) says says' ∙ f.there in
      let first = le-leb (min (depth (depth 0 j.front) a) (depth (depth 0 j.front) a)) (depth (depth 0 j.front) a) (omega arith) in
      ⊎_elim
      (λ e. absurd (apart (same_tail j.front y z (ap (λ (c : Cut). c.front) e))))
      (λ r. (_, r))
      ((forked_right enc rules w u j y z uy uz iy iz).yes_first (ap (λ (c : Comparison). c.is_first) q ∙ first))
    where
      apart : y ≡ z → ⊥
      apart e =
          let t = same_tail a (picks m ∷ reads u ∷ []) (picks n ∷ reads u ∷ []) (sym says ∙ e ∙ says') in
          let x : m ≡ n = cc in
          omega arith

module _ (enc : Enc) (rules : List Term) (next : ℕ → ℕ → List ℕ) (added : ℕ → ℕ → ℕ → List Symbol) (number : ℕ → List Symbol → ℕ)
    (numbers : NumbersLeaves enc rules next added number) (w : List ℕ) (es : List Entry) (ss : List Ranked) (u : ℕ)
    (are : AreRanked enc rules next added number numbers w es ss) (deep : ℕ → ℕ) (depths : AreDepths (automaton rules) deep)
    (placed : ArePlaceDepths (automaton rules) ss deep) (width : ℕ) (small : (s : ℕ) → deep s < width) where
  abbrev CodedBy : Candidate → List ℕ → Type 0
  CodedBy n cs = CodedSegment enc rules next added number numbers w es ss u are deep depths placed width small n cs

  abbrev to_cut : Candidate → Cut
  to_cut n = cut_after enc rules next added number numbers es u n

  abbrev Code : List ℕ → ℕ → ℕ → List ℕ → Type 0
  Code cs t from way = Codes enc rules next added number numbers w es ss u are deep depths placed width small cs t from way

  module _ (cs : List ℕ) (t from : ℕ) (way : List ℕ) (coded : Code cs t from way) (pick later to other : ℕ)
      (goes : IsNth (next t u) pick to) (goes' : IsNth (next t u) later other) (lt : pick < later) where
    abbrev first : CodedBy (segment_of from way pick to) cs
    first = record { to = t; coded = coded; goes = goes }

    abbrev second : CodedBy (segment_of from way later other) cs
    second = record { to = t; coded = coded; goes = goes' }

    in_state : coded.ranked.place < length (automaton rules)
        → PosixPrecedes enc rules (to_cut (segment_of from way pick to)) (to_cut (segment_of from way later other))
    in_state low =
        let r =
        last_choice enc rules (forwards w) u (cut_of c.entry)
        (path_symbols (automaton rules) coded.ranked.place way (mark t ∷ []))
        (said enc rules next added number numbers w es ss u are (segment_of from way pick to) c)
        (said enc rules next added number numbers w es ss u are (segment_of from way later other) d) o.0 o.1
        (path_symbols-units (automaton rules) coded.ranked.place way (mark t ∷ []) ∙ units_mark t [])
        o.6 (says pick to c.entry.place same sa o.0 o.2 o.4) (says later other c.entry.place same sb o.1 o.3 o.5)
        (one enc rules next added number numbers w es ss u are (segment_of from way pick to) c)
        (one enc rules next added number numbers w es ss u are (segment_of from way later other) d)
        (after_is_cut enc rules next added number numbers w es ss u are (segment_of from way pick to) c)
        (after_is_cut enc rules next added number numbers w es ss u are (segment_of from way later other) d) in
        inr (
          r.0,
          subst (λ k. IsFirstOf enc rules k (to_cut (segment_of from way later other)) r.0)
              (sym (next_cut enc rules next added number numbers w es ss u are (segment_of from way pick to) c))
              (subst
              (λ k. IsFirstOf enc rules (after (cut_of c.entry)
              (said enc rules next added number numbers w es ss u are (segment_of from way pick to) c)) k r.0)
              (sym (next_cut enc rules next added number numbers w es ss u are (segment_of from way later other) d)) r.1),
        )
      where
        c : Comes enc rules next added number numbers es u (segment_of from way pick to)
        c = comes_by enc rules next added number numbers w es ss u are deep depths placed width small (segment_of from way pick to) cs first

        same : coded.ranked.place ≡ c.entry.place
        same =
            same_place enc rules next added number numbers w es ss u are deep depths placed width small (segment_of from way pick to) cs
            first

        goes_second : IsSegmentOf enc rules next added number numbers coded.ranked.place u (record { way = way; pick = later }) other
        goes_second =
            segment_by enc rules next added number numbers w es ss u are deep depths placed width small (segment_of from way later other) cs
            second

        d : Comes enc rules next added number numbers es u (segment_of from way later other)
        d = record {
          entry = c.entry;
          at = c.at;
          segment =
              subst (λ q. IsSegmentOf enc rules next added number numbers q u (record { way = way; pick = later }) other) same goes_second;
        }

        sa : Shape enc rules next added number numbers deep depths coded.ranked.place u (record { way = way; pick = pick }) t
        sa =
            shaped enc rules next added number numbers deep depths coded.ranked.place u (record { way = way; pick = pick }) to low
            (segment_by enc rules next added number numbers w es ss u are deep depths placed width small (segment_of from way pick to) cs
            (record { to = t; coded = coded; goes = goes }))

        sb : Shape enc rules next added number numbers deep depths coded.ranked.place u (record { way = way; pick = later }) t
        sb =
            shaped enc rules next added number numbers deep depths coded.ranked.place u (record { way = way; pick = later }) other low
            (segment_by enc rules next added number numbers w es ss u are deep depths placed width small (segment_of from way later other)
            cs (record { to = t; coded = coded; goes = goes' }))

        o : (choice second : ℕ) × (rest others : List ℕ) × (choices (added t u pick) ≡ choice ∷ rest)
            × (choices (added t u later) ≡ second ∷ others) × (choice < second)
        o = numbers.order t u pick later to other goes goes' lt

        says : (pick to q : ℕ) → coded.ranked.place ≡ q
            → (s : Shape enc rules next added number numbers deep depths coded.ranked.place u (record { way = way; pick = pick }) t)
            → (x : ℕ) (rest : List ℕ) → choices (added t u pick) ≡ x ∷ rest
            → segment_symbols rules added q u (record { way = way; pick = pick })
            ≡ path_symbols (automaton rules) coded.ranked.place way (mark t ∷ []) ++ picks x ∷ reads u ∷ []
        says pick to q e s x rest ch =
            let z =
            picks_of enc s.row s.choice (u ∷ s.left) u x rest s.reading
            (sym (choices_marked t (s.choice ++ reads u ∷ [])) ∙ ap choices (sym s.adds) ∙ ch) in
            ap (λ n. segment_symbols rules added n u (record { way = way; pick = pick })) (sym e) ∙ s.says
            ∙ ap (λ l. path_symbols (automaton rules) coded.ranked.place way (mark t ∷ (l ++ reads u ∷ []))) z
            ∙ path_symbols-append (automaton rules) coded.ranked.place way (mark t ∷ []) (picks x ∷ reads u ∷ [])

    pub by_picks : PosixPrecedes enc rules (to_cut (segment_of from way pick to)) (to_cut (segment_of from way later other))
    by_picks =
        ⊎_elim (λ low. in_state low)
        (λ ge.
        let z =
        (one_symbol enc rules next added number numbers w es ss u are deep depths placed width small (segment_of from way later other) cs
        second ge).2 in
        absurd (omega arith))
        (cases_lt coded.ranked.place (length (automaton rules)))
