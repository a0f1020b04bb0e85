-- What symbols that read nothing leave in a tag, by their events; and the values of tags from a start on.
use Rattle.std.proofs.Common.{◌≡◌, ℕ, suc, ◌+◌, List, [], ◌∷◌, ◌++◌, map, Option, Some, None, Bool, true, false, nat_eq, ◌==◌, if◌then◌else◌, refl, ap, ◌∙◌, arith, append-nil, option_map}
use Rattle.lx_regex.specs.Script.{Symbol, begins, ends, picks, reads, sets, units, unsets}
use Rattle.lx_regex.specs.Values.{all_events, last_event}
use Rattle.lx_tnfa.specs.declared.states.Event.{Event}
use Rattle.lx_tnfa.specs.declared.states.Event.TheVariants.{Set, Unset}
use Rattle.lx_tdfa.specs.Registers.{last_mark}
use Rattle.lx_tdfa.proofs.Walks.ClosureSearches.{events_of}
use Rattle.lx_tdfa.proofs.Values.TagOps.{marked, marks}
use Rattle.lx_tdfa.proofs.Values.ValueSteps.{all_events_append, last_event_append}

-- a value that is counted from a start
abbrev pub from_start : (start : ℕ) → Option ℕ → Option ℕ
from_start start value = option_map (λ offset. start + offset) value

pub last_event-marked : (tag here : ℕ) (symbols : List Symbol) (before : Option ℕ) (mark : Option Bool) → units symbols ≡ []
    → last_event tag here (marked here mark before) symbols ≡ marked here (last_mark tag (events_of symbols) mark) before
last_event-marked tag here [] before mark silent = refl
last_event-marked tag here (reads unit ∷ symbols) before mark silent = absurd (cc silent)
last_event-marked tag here (sets other ∷ symbols) before mark silent = at (other == tag) (λ m. last_event-marked tag here symbols before m silent)
  where
    at : (b : Bool) → ((m : Option Bool) → last_event tag here (marked here m before) symbols ≡ marked here (last_mark tag (events_of symbols) m) before)
        → last_event tag here (if b then Some here else marked here mark before) symbols
        ≡ marked here (last_mark tag (events_of symbols) (if b then Some true else mark)) before
    at true rest = rest (Some true)
    at false rest = rest mark
last_event-marked tag here (unsets other ∷ symbols) before mark silent = at (other == tag) (λ m. last_event-marked tag here symbols before m silent)
  where
    at : (b : Bool) → ((m : Option Bool) → last_event tag here (marked here m before) symbols ≡ marked here (last_mark tag (events_of symbols) m) before)
        → last_event tag here (if b then None else marked here mark before) symbols
        ≡ marked here (last_mark tag (events_of symbols) (if b then Some false else mark)) before
    at true rest = rest (Some false)
    at false rest = rest mark
last_event-marked tag here (begins part ∷ symbols) before mark silent = last_event-marked tag here symbols before mark silent
last_event-marked tag here (ends part ∷ symbols) before mark silent = last_event-marked tag here symbols before mark silent
last_event-marked tag here (picks choice ∷ symbols) before mark silent = last_event-marked tag here symbols before mark silent

pub all_events-marks : (tag here : ℕ) (symbols : List Symbol) → units symbols ≡ [] → all_events tag here symbols ≡ marks here tag (events_of symbols)
all_events-marks tag here [] silent = refl
all_events-marks tag here (reads unit ∷ symbols) silent = absurd (cc silent)
all_events-marks tag here (sets other ∷ symbols) silent =
    ap (λ l. if other == tag then Some here ∷ l else l) (all_events-marks tag here symbols silent)
all_events-marks tag here (unsets other ∷ symbols) silent =
    ap (λ l. if other == tag then None ∷ l else l) (all_events-marks tag here symbols silent)
all_events-marks tag here (begins part ∷ symbols) silent = all_events-marks tag here symbols silent
all_events-marks tag here (ends part ∷ symbols) silent = all_events-marks tag here symbols silent
all_events-marks tag here (picks choice ∷ symbols) silent = all_events-marks tag here symbols silent

-- a unit behind them leaves nothing
module _ (tag here unit : ℕ) (symbols : List Symbol) (silent : units symbols ≡ []) where
  pub last_event-segment : (before : Option ℕ)
      → last_event tag here before (symbols ++ reads unit ∷ []) ≡ marked here (last_mark tag (events_of symbols) None) before
  last_event-segment before =
      last_event_append tag here before symbols (reads unit ∷ []) ∙ last_event-marked tag here symbols before None silent

  pub all_events-segment : all_events tag here (symbols ++ reads unit ∷ []) ≡ marks here tag (events_of symbols)
  all_events-segment =
      all_events_append tag here symbols (reads unit ∷ []) ∙ append-nil (all_events tag here symbols) ∙ all_events-marks tag here symbols silent

-- the same symbols from a start on
pub last_event-from : (start tag here : ℕ) (before : Option ℕ) (symbols : List Symbol)
    → last_event tag (start + here) (from_start start before) symbols ≡ from_start start (last_event tag here before symbols)
last_event-from start tag here before [] = refl
last_event-from start tag here before (reads unit ∷ symbols) =
    let e : suc (start + here) ≡ start + suc here = omega arith in
    ap (λ n. last_event tag n (from_start start before) symbols) e ∙ last_event-from start tag (suc here) before symbols
last_event-from start tag here before (sets other ∷ symbols) = at (other == tag) (λ v. last_event-from start tag here v symbols)
  where
    at : (b : Bool) → ((v : Option ℕ) → last_event tag (start + here) (from_start start v) symbols ≡ from_start start (last_event tag here v symbols))
        → last_event tag (start + here) (if b then Some (start + here) else from_start start before) symbols
        ≡ from_start start (last_event tag here (if b then Some here else before) symbols)
    at true rest = rest (Some here)
    at false rest = rest before
last_event-from start tag here before (unsets other ∷ symbols) = at (other == tag) (λ v. last_event-from start tag here v symbols)
  where
    at : (b : Bool) → ((v : Option ℕ) → last_event tag (start + here) (from_start start v) symbols ≡ from_start start (last_event tag here v symbols))
        → last_event tag (start + here) (if b then None else from_start start before) symbols
        ≡ from_start start (last_event tag here (if b then None else before) symbols)
    at true rest = rest None
    at false rest = rest before
last_event-from start tag here before (begins part ∷ symbols) = last_event-from start tag here before symbols
last_event-from start tag here before (ends part ∷ symbols) = last_event-from start tag here before symbols
last_event-from start tag here before (picks choice ∷ symbols) = last_event-from start tag here before symbols

map_if : (start : ℕ) (b : Bool) (x : Option ℕ) (a c : List (Option ℕ)) → a ≡ map (from_start start) c
    → (if b then from_start start x ∷ a else a) ≡ map (from_start start) (if b then x ∷ c else c)
map_if start true x a c e = ap (λ l. from_start start x ∷ l) e
map_if start false x a c e = e

pub all_events-from : (start tag here : ℕ) (symbols : List Symbol)
    → all_events tag (start + here) symbols ≡ map (from_start start) (all_events tag here symbols)
all_events-from start tag here [] = refl
all_events-from start tag here (reads unit ∷ symbols) =
    let e : suc (start + here) ≡ start + suc here = omega arith in
    ap (λ n. all_events tag n symbols) e ∙ all_events-from start tag (suc here) symbols
all_events-from start tag here (sets other ∷ symbols) =
    map_if start (other == tag) (Some here) (all_events tag (start + here) symbols) (all_events tag here symbols) (all_events-from start tag here symbols)
all_events-from start tag here (unsets other ∷ symbols) =
    map_if start (other == tag) None (all_events tag (start + here) symbols) (all_events tag here symbols) (all_events-from start tag here symbols)
all_events-from start tag here (begins part ∷ symbols) = all_events-from start tag here symbols
all_events-from start tag here (ends part ∷ symbols) = all_events-from start tag here symbols
all_events-from start tag here (picks choice ∷ symbols) = all_events-from start tag here symbols

pub marked-from : (start here : ℕ) (mark : Option Bool) (before : Option ℕ)
    → marked (start + here) mark (from_start start before) ≡ from_start start (marked here mark before)
marked-from start here (Some true) before = refl
marked-from start here (Some false) before = refl
marked-from start here None before = refl

pub marks-from : (start here tag : ℕ) (events : List Event) → marks (start + here) tag events ≡ map (from_start start) (marks here tag events)
marks-from start here tag [] = refl
marks-from start here tag (Set other ∷ events) =
    map_if start (nat_eq other tag) (Some here) (marks (start + here) tag events) (marks here tag events) (marks-from start here tag events)
marks-from start here tag (Unset other ∷ events) =
    map_if start (nat_eq other tag) None (marks (start + here) tag events) (marks here tag events) (marks-from start here tag events)
