-- A piece whose blocks serve the automaton of a rule list is right: its run tells the match of the rules.
use Rattle.std.specs.Prelude.{◌≡◌, ℕ, ◌+◌, ◌≤◌, List, [], ◌∷◌, ◌++◌, map, length, drop, Option, Some, None, All, IsSome, refl, slice_get, ◌⊎◌}
use Rattle.std.proofs.Common.{sym, ap, ◌∙◌, subst, arith, inl, inr, append_assoc, length-append, option_map}
use Rattle.std.specs.List.{AllByRecursion}
use Rattle.std.proofs.lemmas.List.Elements.{All-get_or}
use Rattle.std.proofs.lemmas.Option.{get_or_from_slice_get, slice_get-map, slice_get_within}
use Rattle.lx_auto.specs.Bank.{Bank}
use Rattle.lx_auto.specs.Run.{Found, Standing, and_then, found_behind, run, start_with, step}
use Rattle.lx_auto.specs.declared.automaton.Auto.{Auto}
use Rattle.lx_auto.proofs.Runs.{run-one_more}
use Rattle.lx_base.specs.Spelling.{greatest_unit}
use Rattle.lx_base.specs.declared.settings.Enc.{Enc}
use Rattle.lx_regex.specs.Cut.{BeginsMatch}
use Rattle.lx_regex.specs.Kernel.{IsWord}
use Rattle.lx_regex.specs.Match.{IsEnd, IsMatch, IsWordAt, Outcome, Takes, by_none, by_rule, matched, part_at, unmatched}
use Rattle.lx_regex.specs.Order.{Policy}
use Rattle.lx_regex.specs.Pattern.{Pattern, terms_of, with_terms}
use Rattle.lx_regex.proofs.Trees.Beginnings.{front_begins, taken_begins}
use Rattle.lx_tdfa.specs.Promise.{IsAutoUnder, tag_value}
use Rattle.lx_layout.specs.Endings.{Ending}
use Rattle.lx_layout.specs.Right.{IsSetBy}
use Rattle.lx_layout.specs.Stops.{Stops, last_standing, or_later, told_found}
use Rattle.lx_layout.specs.Told.{put_back, slash_value, told_at, told_by, told_of, told_with}
use Rattle.lx_layout.proofs.Runs.BestFronts.{BestFront, IsStopped, fronts, stopped}
use Rattle.lx_layout.proofs.Runs.SlashValues.{put_back-cursor}

-- where there is no run on a word, the run on a stream that goes on from it stops
Stops-run : (auto : Auto) (word rest : List ℕ) (standing : Standing) → run auto standing word ≡ None → Stops auto standing (word ++ rest)
Stops-run auto [] rest standing none = absurd (cc)
Stops-run auto (unit ∷ word) rest standing none = by (step auto standing unit) none (λ next. Stops-run auto word rest next)
  where
    by : (o : Option Standing) → and_then o (λ next. run auto next word) ≡ None
        → ((next : Standing) → run auto next word ≡ None → Stops auto next (word ++ rest))
        → or_later o (λ next. Stops auto next (word ++ rest))
    by None none again = tt
    by (Some next) none again = again next none

IsWord-front : (enc : Enc) (patterns : List Pattern) (a b : List ℕ) → IsWord enc (terms_of patterns) (a ++ b) → IsWord enc (terms_of patterns) a
IsWord-front enc patterns [] b h = tt
IsWord-front enc patterns (unit ∷ a) b h = (h.0, IsWord-front enc patterns a b h.1)

pub IsWord-units : (enc : Enc) (patterns : List Pattern) (word : List ℕ) → IsWord enc (terms_of patterns) word
    → AllByRecursion (λ unit. unit ≤ greatest_unit enc) word
IsWord-units enc patterns [] h = tt
IsWord-units enc patterns (unit ∷ word) h = (h.0, IsWord-units enc patterns word h.1)

-- one front of two equal texts goes
same_behind : (front a b : List ℕ) → front ++ a ≡ front ++ b → a ≡ b
same_behind [] a b e = e
same_behind (unit ∷ front) a b e = let h : front ++ a ≡ front ++ b = cc in same_behind front a b h

All-at : {A : Type 0} (P : A → Type 0) (xs : List A) (i : ℕ) (x : A) → slice_get xs i ≡ Some x → All P xs → P x
All-at P xs i x e h = subst (λ y. P y) (get_or_from_slice_get xs i x x e) (All-get_or P xs i x (slice_get_within xs i x e) h)

module _ (policy : Policy) (enc : Enc) (patterns : List Pattern) (auto : Auto) (is : IsAutoUnder policy enc patterns auto) (endings : ℕ → Ending)
    (stream : List ℕ) (start : ℕ) (bank : Bank) (empty : bank.mregs 0 ≡ []) (units : IsWord enc (terms_of patterns) (drop start stream)) where
  abbrev Begins : List ℕ → Type 0
  Begins word = BeginsMatch enc (terms_of patterns) word

  -- a word at the start that begins no match stops the run
  pub stops_there : (word : List ℕ) → IsWordAt stream start word → (Begins word → ⊥) → Stops auto (start_with start bank) (drop start stream)
  stops_there word at none =
      let spelled = IsWord-front enc patterns word at.0 (subst (λ l. IsWord enc (terms_of patterns) l) at.1 units) in
      let no_run = by (run auto (start_with start bank) word) refl (is.begins start bank word empty spelled).0 in
      subst (λ l. Stops auto (start_with start bank) l) (sym at.1) (Stops-run auto word at.0 (start_with start bank) no_run)
    where
      by : (o : Option Standing) → run auto (start_with start bank) word ≡ o → (IsSome (run auto (start_with start bank) word) → Begins word)
          → run auto (start_with start bank) word ≡ None
      by None e begun = e
      by (Some standing) e begun = absurd (none (begun (subst (λ o. IsSome o) (sym e) refl)))

  taken_begun : (word : List ℕ) (place : ℕ) → Takes enc patterns place word → Begins word
  taken_begun word place takes =
      let at : slice_get (terms_of patterns) place ≡ Some takes.0.term =
      slice_get-map (λ (pattern : Pattern). pattern.term) (with_terms patterns) place
      ∙ ap (option_map (λ (pattern : Pattern). pattern.term)) takes.1 in
      taken_begins enc (terms_of patterns) place takes.0.term word at takes.2

  -- the ends of rules put the cursor back to their trailing contexts, and no rule ends here since the stream does
  module _ (slashes : All (λ (pattern : Pattern). (endings pattern.number).slash ≡ pattern.slash) (with_terms patterns))
      (set : All (λ (pattern : Pattern). IsSetBy enc pattern pattern.slash) (with_terms patterns))
      (no_end : (rule : ℕ) → IsEnd policy enc patterns stream start rule → ⊥)
      (last : Standing) (stop : IsStopped policy enc patterns auto is start bank empty (drop start stream) last) where
    passed_at : IsWordAt stream start stop.passed
    passed_at = (stop.left, stop.splits)

    passed_begins : Begins stop.passed
    passed_begins =
        let spelled = IsWord-front enc patterns stop.passed stop.left
        (subst (λ l. IsWord enc (terms_of patterns) l) stop.splits units) in
        (is.begins start bank stop.passed empty spelled).0 (subst (λ o. IsSome o) (sym stop.runs) refl)

    -- with one unit more no match is begun
    ends_there : (unit : ℕ) (back : List ℕ) → IsWordAt stream start (stop.passed ++ unit ∷ back) → Begins (stop.passed ++ unit ∷ back) → ⊥
    ends_there unit back at begun =
        let e1 : stop.passed ++ stop.left ≡ stop.passed ++ (unit ∷ back ++ at.0) = sym stop.splits ∙ at.1
        ∙ append_assoc stop.passed (unit ∷ back) at.0 in
        let e2 = same_behind stop.passed stop.left (unit ∷ back ++ at.0) e1 in
        let more : List ℕ = stop.passed ++ unit ∷ [] in
        let splits : stop.passed ++ unit ∷ back ≡ (stop.passed ++ unit ∷ []) ++ back = sym (append_assoc stop.passed (unit ∷ []) back) in
        let begun1 = front_begins enc (terms_of patterns) (stop.passed ++ unit ∷ []) back (subst (λ l. Begins l) splits begun) in
        let whole : drop start stream ≡ (stop.passed ++ unit ∷ []) ++ (back ++ at.0) = at.1 ∙ ap (λ l. l ++ at.0) splits
        ∙ append_assoc (stop.passed ++ unit ∷ []) back at.0 in
        let spelled = IsWord-front enc patterns (stop.passed ++ unit ∷ []) (back ++ at.0)
        (subst (λ l. IsWord enc (terms_of patterns) l) whole units) in
        let some = (is.begins start bank (stop.passed ++ unit ∷ []) empty spelled).1 begun1 in
        let none : run auto (start_with start bank) (stop.passed ++ unit ∷ []) ≡ None =
        run-one_more auto (start_with start bank) stop.passed unit ∙ ap (λ o. and_then o (λ last. step auto last unit)) stop.runs
        ∙ stop.no_edge unit (back ++ at.0) e2 in
        nothing (subst (λ o. IsSome o) none some)
      where
        nothing : IsSome {T = Standing} None → ⊥
        nothing h = cc

    -- what begins a match there is a front of what was passed
    begun_within : (other : List ℕ) → IsWordAt stream start other → Begins other → (back : List ℕ) × (stop.passed ≡ other ++ back)
    begun_within other at begun = by (fronts stop.passed stop.left other at.0 (sym stop.splits ∙ at.1))
      where
        by : ((back : List ℕ) × (stop.passed ≡ other ++ back)) ⊎ ((unit : ℕ) × (back : List ℕ) × (other ≡ stop.passed ++ unit ∷ back))
            → (back : List ℕ) × (stop.passed ≡ other ++ back)
        by (inl within) = within
        by (inr longer) =
            absurd (ends_there longer.0 longer.1 (subst (λ l. IsWordAt stream start l) longer.2 at) (subst (λ l. Begins l) longer.2 begun))

    -- the match, and what is told of it
    Told : Option Found → Type 0
    Told found = (cond : List ℕ) → (outcome : Outcome) × IsMatch policy enc patterns stream start outcome
        × (told_found endings cond found last.offset ≡ told_of endings cond outcome)

    match_told : (found : Option Found) → BestFront policy enc patterns start stop.passed found → Told found
    unfolding Told
    match_told None none cond =
        let longest : (other : List ℕ) → IsWordAt stream start other → Begins other
        → length other ≤ length stop.passed = λ other at begun. let w = begun_within other at begun in let l = length-append other w.0 in let e =
        ap length w.1 in omega (arith, l, e) in (
          unmatched (start + length stop.passed),
          by_none stop.passed no_end (record {
            is_word = passed_at;
            begins = passed_begins;
            longest = longest;
            untaken = λ other taker at takes. let w = begun_within other at (taken_begun other taker takes) in none other w.0 taker w.1 takes;
          }),
          ap (λ n. told_of endings cond (unmatched n)) stop.offset,
        )
    match_told (Some found) front cond =
        let best = front.best in
        let pattern : Pattern = best.pattern in
        let saved = All-at (λ (pattern : Pattern). (endings pattern.number).slash ≡ pattern.slash)
        (with_terms patterns) best.place best.pattern best.is slashes in
        let sets = All-at (λ (pattern : Pattern). IsSetBy enc pattern pattern.slash) (with_terms patterns) best.place best.pattern best.is set in
        let back = put_back-cursor enc best.pattern best.pattern.slash start (part_at patterns best.place) front.front best.tree
        (map tag_value found.values) sets best.values in
        let whole : drop start stream ≡ front.front ++ (front.back ++ stop.left) =
        stop.splits ∙ ap (λ l. l ++ stop.left) front.splits ∙ append_assoc front.front front.back stop.left in
        let told : told_at endings cond best.pattern.number found.offset
        (map tag_value found.values) ≡ told_by endings cond best.pattern.number back.0 (map tag_value found.values) =
        ap (λ s. told_with endings cond best.pattern.number found.offset (map tag_value found.values)
        (put_back (slash_value s (map tag_value found.values)) found.offset)) saved
        ∙ ap (λ n. told_with endings cond best.pattern.number found.offset (map tag_value found.values)
        (put_back (slash_value best.pattern.slash (map tag_value found.values)) n)) best.offset
        ∙ ap (λ o. told_with endings cond best.pattern.number found.offset (map tag_value found.values) o) back.2 in (
          matched best.pattern.number back.0 (map tag_value found.values),
          by_rule front.front best.place best.pattern back.0 (map tag_value found.values) no_end
              (record {
                is_word = (front.back ++ stop.left, whole);
                takes = (best.pattern, best.is, (best.tree, best.least.yields));
                longest = λ other taker at takes. let w = begun_within other at
                    (taken_begun other taker takes) in front.longest other w.0 taker w.1 takes;
                first = best.first;
              })
              best.is
              (record { tree = best.tree; least = best.least; stands = back.1; valued = best.values }),
          ap (λ n. told_at endings cond n found.offset (map tag_value found.values)) best.rule ∙ told,
        )

  -- what is told where the run on the rest of the stream stops, or where that ends, is a match of the rules
  pub outcome_told : All (λ (pattern : Pattern). (endings pattern.number).slash ≡ pattern.slash) (with_terms patterns)
      → All (λ (pattern : Pattern). IsSetBy enc pattern pattern.slash) (with_terms patterns)
      → ((rule : ℕ) → IsEnd policy enc patterns stream start rule → ⊥) → (cond : List ℕ)
      → (outcome : Outcome) × IsMatch policy enc patterns stream start outcome
      × (told_found endings cond (found_behind auto (last_standing auto (start_with start bank) (drop start stream)))
      (last_standing auto (start_with start bank) (drop start stream)).offset
      ≡ told_of endings cond outcome)
  unfolding Told
  outcome_told slashes set no_end cond =
      let last : Standing = last_standing auto (start_with start bank) (drop start stream) in
      let stop = stopped policy enc patterns auto is start bank empty (drop start stream) in
      match_told slashes set no_end (last_standing auto (start_with start bank) (drop start stream)) stop
      (found_behind auto (last_standing auto (start_with start bank) (drop start stream))) stop.best cond
