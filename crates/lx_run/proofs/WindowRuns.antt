-- Runs over a window, match by match.
use Rattle.std.proofs.Common.{◌≡◌, ℕ, suc, ◌+◌, ◌-◌, ◌/◌, ◌<◌, ◌≤◌, ◌⊎◌, inl, inr, Bool, true, false, List, [], ◌++◌, length, Option, Some, None, Result, Ok, Err, refl, sym, ap, ap₂, subst, ◌∙◌, arith, append_assoc, append-nil, length-drop}
use Rattle.std.specs.Prelude.{◌==◌, ◌&&◌, codes, nat_le, not, if◌then◌else◌}
use Rattle.std.proofs.lemmas.Bool.{cases_lt, eqb-false, le-leb, lt-leb}
use Rattle.lx_ccode.specs.declared.piece.Piece.{Piece}
use Rattle.lx_files.specs.Taking.{GivesFront, given_then}
use Rattle.lx_files.specs.declared.sinks.PutAnswer.{PutAnswer}
use Rattle.lx_files.specs.declared.sinks.PutAnswer.TheVariants as answer
use Rattle.lx_files.proofs.PutLemmas.{HasPut, given_then-given_then}
use Rattle.lx_step.specs.declared.answers.Outcome.{Outcome}
use Rattle.lx_step.specs.declared.answers.Outcome.TheVariants.{Rule, Jump, NoRule, End, NeedFill, WindowFull, ReadFailed, Stuck, Loop, Memory, Spent}
use Rattle.lx_step.specs.Feeds.{Feed, feed_of}
use Rattle.lx_step.specs.Held.{Held, is_last}
use Rattle.lx_window.proofs.StreamUnits.{length-stream_units}
use Rattle.lx_window.proofs.StreamWindows.{IsFedBy-begun}
use Rattle.lx_window.specs.MemorySource.{MemorySource, ahead_of}
use Rattle.lx_window.specs.WindowView.{WindowView}
use Rattle.lx_window.specs.Windows.{IsFedBy, IsFormed, begun}
use Rattle.lx_run.specs.Ends.{EndsAs, end_behind}
use Rattle.lx_run.specs.Lines.{end_line}
use Rattle.lx_run.specs.Puts.{IsPut}
use Rattle.lx_run.specs.Readings.{Reading}
use Rattle.lx_run.specs.Streams.{stops_at_end}
use Rattle.lx_run.specs.Texts.{Between, Full, RunText, behind, is_followed, last_text, lines_from, match_at, match_lines, onto, run_from}
use Rattle.lx_run.specs.Windows.{HasMatched, IsAt, IsBetween, LinesEnd}
use Rattle.lx_run.specs.declared.ends.RunEnd.{RunEnd}
use Rattle.lx_run.specs.declared.ends.RunEnd.TheVariants as run_end
use Rattle.lx_run.proofs.PutTexts.{GivesFront-behind, HasPut-nothing, HasPut-part}

-- ---- the lines of a match

-- a match by which the run ends has no lines behind it
last_text-text : (told : Outcome) → (last_text told).text ≡ []
last_text-text (Rule rule) = refl
last_text-text (Jump rule) = refl
last_text-text NoRule = refl
last_text-text End = refl
last_text-text NeedFill = refl
last_text-text (WindowFull kept need size) = refl
last_text-text ReadFailed = refl
last_text-text Stuck = refl
last_text-text Loop = refl
last_text-text Memory = refl
last_text-text Spent = refl

-- none follows one that ended where the window was full
last_text-full : (told : Outcome) (held : Held) (full : Full) → (last_text told).full ≡ Some full → is_followed told held ≡ false
last_text-full (Rule rule) held full is = absurd cc
last_text-full (Jump rule) held full is = absurd cc
last_text-full NoRule held full is = refl
last_text-full End held full is = refl
last_text-full NeedFill held full is = refl
last_text-full (WindowFull kept need size) held full is = refl
last_text-full ReadFailed held full is = refl
last_text-full Stuck held full is = refl
last_text-full Loop held full is = refl
last_text-full Memory held full is = refl
last_text-full Spent held full is = refl

-- one that is followed is not the last, and took something
record IsOnward (told : Outcome) (held : Held) : Type 0 where
  pub fit : is_last told ≡ false
  pub apart : (held.cursor == held.start) ≡ false

not-true : (test : Bool) → not test ≡ true → test ≡ false
not-true true is = absurd cc
not-true false is = refl

is_followed-onward : (told : Outcome) (held : Held) → is_followed told held ≡ true → IsOnward told held
is_followed-onward (Rule rule) held is = record { fit = refl; apart = not-true (held.cursor == held.start) is }
is_followed-onward (Jump rule) held is = record { fit = refl; apart = not-true (held.cursor == held.start) is }
is_followed-onward NoRule held is = absurd cc
is_followed-onward End held is = absurd cc
is_followed-onward NeedFill held is = absurd cc
is_followed-onward (WindowFull kept need size) held is = absurd cc
is_followed-onward ReadFailed held is = absurd cc
is_followed-onward Stuck held is = absurd cc
is_followed-onward Loop held is = absurd cc
is_followed-onward Memory held is = absurd cc
is_followed-onward Spent held is = absurd cc

-- ---- the ends of a run

-- a front of the lines is one of what has more lines
GivesFront-longer : (given given' : Option (List ℕ)) (lines none more : List ℕ) → none ≡ [] → GivesFront given given' (lines ++ none)
    → GivesFront given given' (lines ++ more)
GivesFront-longer given given' lines none more empty gives = (
  gives.0,
  (
    gives.1.0 ++ more,
    sym (append_assoc gives.0 gives.1.0 more) ∙ ap (λ (text : List ℕ). text ++ more) (gives.1.1
        ∙ ap (λ (rest : List ℕ). lines ++ rest) empty ∙ append-nil lines),
  ),
  gives.2,
)

-- the lines of a match were put, or a front of them, and the run ends so, also where another match would have followed
LinesEnd-EndsAs : (told : Outcome) (held : Held) (given given' : Option (List ℕ)) (faults faults' : ℕ) (rest : RunText) (end : RunEnd)
    → LinesEnd told held given given' faults faults' (Some end)
    → EndsAs (onto (match_lines told held) (if is_followed told held then rest else last_text told)) given given' faults faults' end
LinesEnd-EndsAs told held given given' faults faults' rest run_end.Done ends =
    subst (λ (test : Bool). EndsAs (onto (match_lines told held) (if test then rest else last_text told)) given given' faults faults'
    run_end.Done) (sym ends.0) ends.1
LinesEnd-EndsAs told held given given' faults faults' rest (run_end.WindowFull kept need size) ends =
    let last = last_text-full told held (record { kept = kept; need = need; size = size }) ends.0 in
    subst (λ (test : Bool). EndsAs (onto (match_lines told held) (if test then rest else last_text told)) given given' faults faults'
    (run_end.WindowFull kept need size)) (sym last) ends
LinesEnd-EndsAs told held given given' faults faults' rest run_end.PutFailed ends =
    (ends.0, GivesFront-longer given given' (match_lines told held) (last_text told).text _ (last_text-text told) ends.1)
LinesEnd-EndsAs told held given given' faults faults' rest run_end.Memory ends =
    GivesFront-longer given given' (match_lines told held) (last_text told).text _ (last_text-text told) ends

-- a put was made last or refused
EndsAs-put : {A : Type 0} (given given' : Option (List ℕ)) (faults faults' wants wants' : ℕ) (text : List ℕ) (put : Result A PutAnswer)
    → IsPut given given' faults faults' wants wants' text put
    → EndsAs (record { text = text; full = None }) given given' faults faults' (end_behind put)
EndsAs-put given given' faults faults' wants wants' text (Ok value) put = (refl, put.gave, put.calm)
EndsAs-put given given' faults faults' wants wants' text (Err answer.Failed) put = (put.refuses, put.front)
EndsAs-put given given' faults faults' wants wants' text (Err answer.Memory) put = put.front

module _ (given given' given'' : Option (List ℕ)) (faults faults' faults'' : ℕ) (whole rest : RunText)
    (put : HasPut given given' faults faults' whole.text rest.text)
    (full_is : rest.full ≡ whole.full) where
  EndsAs-front : GivesFront given' given'' rest.text → GivesFront given given'' whole.text
  EndsAs-front gives =
      GivesFront-behind given given' given'' put.front rest.text [] whole.text put.gave
      (ap (λ (tail : List ℕ). put.front ++ tail) (append-nil rest.text) ∙ put.splits) gives

  EndsAs-all : given'' ≡ given_then given' rest.text → given'' ≡ given_then given whole.text
  EndsAs-all gave = gave ∙ ap (λ (before : Option (List ℕ)). given_then before rest.text) put.gave
      ∙ given_then-given_then given put.front rest.text ∙ ap (given_then given) put.splits

  -- so a run ends whose rest ends so
  EndsAs-behind : (end : RunEnd) → EndsAs rest given' given'' faults' faults'' end → EndsAs whole given given'' faults faults'' end
  EndsAs-behind run_end.Done ends = (sym full_is ∙ ends.0, EndsAs-all ends.1, ends.2 ∙ put.calm)
  EndsAs-behind (run_end.WindowFull kept need size) ends = (sym full_is ∙ ends.0, EndsAs-all ends.1, ends.2 ∙ put.calm)
  EndsAs-behind run_end.PutFailed ends =
      (let calm = put.calm in let rose = ends.0 in λ stays. rose (omega (arith, calm, stays)), EndsAs-front ends.1)
  EndsAs-behind run_end.Memory ends = EndsAs-front ends

-- ---- one match more

-- so far a front of the text of a run was given, and this is how it goes on
pub record HasRun (piece : Piece) (reading : Reading) (leaves : Bool) (units : ℕ) (whole : RunText) (given given' : Option (List ℕ))
    (faults faults' : ℕ)
    (held : Held) (feed : Feed) : Type 0 where
  pub between : Between
  pub fuel : ℕ
  pub is : IsBetween piece reading leaves between held feed
  pub enough : length reading.stream < between.start + fuel
  pub put : HasPut given given' faults faults' whole.text (run_from reading units fuel between).text
  pub full_is : (run_from reading units fuel between).full ≡ whole.full

-- before the first match
pub HasRun-first : {piece : Piece} {reading : Reading} {leaves : Bool} {held : Held} {feed : Feed} (units : ℕ) (between : Between)
    (given : Option (List ℕ)) (faults : ℕ)
    → IsBetween piece reading leaves between held feed
    → HasRun piece reading leaves units (run_from reading units (suc (length reading.stream - between.start)) between) given given faults
    faults held feed
HasRun-first {reading = reading} units between given faults is = record {
  between = between;
  fuel = suc (length reading.stream - between.start);
  is = is;
  enough = omega arith;
  put = HasPut-nothing given faults _;
  full_is = refl;
}

-- the lines from a match on, by whether the run ends before it
run_from-at : (reading : Reading) (units fuel before : ℕ) (between : Between) (test : Bool) → fuel ≡ suc before
    → (stops_at_end between.held.piece && nat_le units between.start) ≡ test
    → run_from reading units fuel between
    ≡ (if test then record { text = end_line (codes "end ") between.start between.start; full = None }
    else lines_from (run_from reading units before) (match_at reading between).told (behind between (match_at reading between)))
unfolding run_from
run_from-at reading units fuel before between test fuel_is test_is =
    ap (λ (steps : ℕ). run_from reading units steps between) fuel_is
    ∙ ap (λ (stops : Bool). if stops then record { text = end_line (codes "end ") between.start between.start; full = None }
    else lines_from (run_from reading units before) (match_at reading between).told (behind between (match_at reading between))) test_is

-- a match that was to be made: it was, or memory ran out
abbrev pub IsMade : (reading : Reading) (between : Between) (told : Outcome) → Type 0 → Type 0
IsMade reading between told HasBeen = (told ≡ Memory) ⊎ ((told ≡ (match_at reading between).told) × HasBeen)

-- it was, if another one follows
IsMade-made : (reading : Reading) (between : Between) (told : Outcome) (held : Held) {HasBeen : Type 0}
    → IsMade reading between told HasBeen → is_followed told held ≡ true
    → (told ≡ (match_at reading between).told) × HasBeen
IsMade-made reading between told held made followed = elim made [
  | inl memory ↦ let never = sym (ap (λ (outcome : Outcome). is_followed outcome held) memory) ∙ followed in absurd cc
  | inr matched ↦ matched
]

-- the run ends before a match that would start here
pub stops-here : (stops : Bool) (units start : ℕ) (piece : Piece) (between : Between) → stops ≡ stops_at_end piece
    → between.held.piece ≡ piece → start ≡ between.start
    → stops ≡ true → units ≤ start → (stops_at_end between.held.piece && nat_le units between.start) ≡ true
stops-here stops units start piece between stops_is piece_is start_is stop behind =
    ap₂ (λ (first second : Bool). first && second) (ap stops_at_end piece_is ∙ sym stops_is ∙ stop)
    (ap (nat_le units) (sym start_is) ∙ le-leb units start behind)

-- it does not
pub stops-later : (stops : Bool) (units start : ℕ) (piece : Piece) (between : Between) → stops ≡ stops_at_end piece
    → between.held.piece ≡ piece → start ≡ between.start
    → ((stops ≡ true) × (start < units)) ⊎ (stops ≡ false) → (stops_at_end between.held.piece && nat_le units between.start) ≡ false
stops-later stops units start piece between stops_is piece_is start_is goes_on = elim goes_on [
  | inl before ↦
      ap₂ (λ (first second : Bool). first && second) (ap stops_at_end piece_is ∙ sym stops_is ∙ before.0)
      (ap (nat_le units) (sym start_is) ∙ lt-leb units start before.1)
  | inr never ↦ ap (λ (first : Bool). first && nat_le units between.start) (ap stops_at_end piece_is ∙ sym stops_is ∙ never)
]

-- ---- from one match to the next

-- so many units stand behind the start: those of the window, and those that are ahead
pub units-behind : {reading : Reading} {unit : ℕ} {leaves leaving : Bool} {start limit : ℕ} (source : MemorySource) (window : WindowView)
    → IsAt reading unit leaves leaving start limit (feed_of (ahead_of source) window) → source.unit ≡ unit
    → length source.bytes / source.unit + (window.limit - window.start) ≡ length reading.stream - start
units-behind {reading} source window at unit_is =
    let same : window.unit ≡ source.unit = at.unit_is ∙ sym unit_is in
    let ahead : length reading.stream - window.limit ≡ length source.bytes / source.unit =
    sym (length-drop window.limit reading.stream) ∙ ap length at.fed.goes_on ∙ length-stream_units window.unit source.bytes
    ∙ ap (λ (unit : ℕ). length source.bytes / unit) same in
    let within = at.fed.holds.within in
    let ends = at.fed.holds.ends in
    let start = at.start_is in
    omega (arith, ahead, within, ends, start)

module _ {piece : Piece} {reading : Reading} {leaves : Bool} {between : Between} {held : Held} {feed : Feed} (made : HasMatched piece reading leaves between held feed) where
  -- the next match starts at the cursor
  module _ (told : Outcome) (told_is : told ≡ (match_at reading between).told) (piece_is : between.held.piece ≡ piece) (followed : is_followed told held ≡ true) where
    -- behind such a match the window has the units up to the limit
    stays_at : IsAt reading piece.unit leaves (match_at reading between).stand.leaving between.start (match_at reading between).stand.point.machine.limit feed
    stays_at = made.at (ap is_last (sym told_is) ∙ (is_followed-onward told held followed).fit)

    -- the cursor is in the window, and behind its start
    cursor-from : feed.window.start ≤ held.cursor
    cursor-from =
        let cursor = ap (λ (lexer : Held). lexer.cursor) made.held_is in
        let start = stays_at.start_is in
        let from = made.from in
        omega (arith, cursor, start, from)

    cursor-to : held.cursor ≤ feed.window.limit
    cursor-to =
        let cursor = ap (λ (lexer : Held). lexer.cursor) made.held_is in
        let limit = stays_at.limit_is in
        let within = made.within in
        omega (arith, cursor, limit, within)

    cursor-in_stream : held.cursor ≤ length reading.stream
    cursor-in_stream = let limit = cursor-to in let within = stays_at.fed.holds.within in omega (arith, limit, within)

    cursor-behind : between.start < held.cursor
    cursor-behind =
        let cursor = ap (λ (lexer : Held). lexer.cursor) made.held_is in
        let start = ap (λ (lexer : Held). lexer.start) made.held_is in
        let from = made.from in
        let apart = eqb-false held.cursor held.start (is_followed-onward told held followed).apart in
        elim (cases_lt between.start held.cursor) [
          | inl more ↦ more
          | inr no_more ↦ absurd (apart (omega (arith, cursor, start, from, no_more)))
        ]

    IsBetween-next : (at : ℕ) (window : WindowView) → at ≡ held.cursor → window ≡ begun feed.window at → IsFormed window
        → IsBetween piece reading leaves (behind between (match_at reading between)) held (feed_of feed.ahead window)
    IsBetween-next at window at_is window_is formed =
        let from : feed.window.start ≤ at = let cursor = cursor-from in omega (arith, cursor, at_is) in
        let to : at ≤ feed.window.limit = let cursor = cursor-to in omega (arith, cursor, at_is) in
        record {
          held_is = made.held_is;
          piece_is = piece_is;
          unleft = refl;
          fit = ap is_last (sym told_is) ∙ (is_followed-onward told held followed).fit;
          at = record {
            formed = formed;
            unit_is = ap (λ (view : WindowView). view.unit) window_is ∙ stays_at.unit_is;
            size_is = ap (λ (view : WindowView). view.size) window_is ∙ stays_at.size_is;
            start_is = ap (λ (view : WindowView). view.start) window_is ∙ at_is ∙ ap (λ (lexer : Held). lexer.cursor) made.held_is;
            limit_is = ap (λ (view : WindowView). view.limit) window_is ∙ stays_at.limit_is;
            fed = subst (λ (view : WindowView). IsFedBy reading.stream view feed.ahead) (sym window_is) (IsFedBy-begun reading.stream feed.window at feed.ahead stays_at.fed from to);
            bytes = stays_at.bytes;
            ahead_is = stays_at.ahead_is;
            closed = stays_at.closed;
            never = stays_at.never;
          };
        }

-- the next token starts in the window, behind the last one
pub record Begins (reading : Reading) (start at : ℕ) (window : WindowView) : Type 0 where
  pub from : window.start ≤ at
  pub to : at ≤ window.limit
  pub within : at ≤ length reading.stream
  pub more : start < at

module _ {piece : Piece} {reading : Reading} {leaves : Bool} {units : ℕ} {whole : RunText} {given given' : Option (List ℕ)}
    {faults faults' : ℕ}
    {held : Held} {feed : Feed} (run : HasRun piece reading leaves units whole given given' faults faults' held feed) where
  -- some steps are left
  HasRun-steps : run.fuel ≡ suc (run.fuel - 1)
  HasRun-steps =
      let within = run.is.at.fed.holds.within in
      let ends = run.is.at.fed.holds.ends in
      let start = run.is.at.start_is in
      let enough = run.enough in
      omega (arith, within, ends, start, enough)

  -- the run ends before the next match
  pub HasRun-stops : {A : Type 0} {wants wants' : ℕ} (given'' : Option (List ℕ)) (faults'' start : ℕ) (put : Result A PutAnswer) (end : RunEnd)
      → start ≡ run.between.start
      → (stops_at_end run.between.held.piece && nat_le units run.between.start) ≡ true
      → IsPut given' given'' faults' faults'' wants wants' (end_line (codes "end ") start start) put
      → end ≡ end_behind put → EndsAs whole given given'' faults faults'' end
  HasRun-stops {wants = wants} {wants' = wants'} given'' faults'' start put end start_is stops is end_is =
      let at_end = run_from-at reading units run.fuel (run.fuel - 1) run.between true HasRun-steps stops in
      let text = ap (λ (place : ℕ). end_line (codes "end ") place place) start_is in
      subst (λ (last : RunEnd). EndsAs whole given given'' faults faults'' last) (sym end_is)
      (EndsAs-behind given given' given'' faults faults' faults'' whole (run_from reading units run.fuel run.between) run.put run.full_is
      (end_behind put)
      (subst (λ (rest : RunText). EndsAs rest given' given'' faults' faults'' (end_behind put)) (sym at_end)
      (subst (λ (line : List ℕ). EndsAs (record { text = line; full = None }) given' given'' faults' faults'' (end_behind put)) text
      (EndsAs-put given' given'' faults' faults'' wants wants' (end_line (codes "end ") start start) put is))))

  module _ {told : Outcome} {held' : Held} {feed' : Feed} (given'' : Option (List ℕ)) (faults'' : ℕ)
      (goes_on : (stops_at_end run.between.held.piece && nat_le units run.between.start) ≡ false)
      (made : IsMade reading run.between told (HasMatched piece reading leaves run.between held' feed')) where
    -- the lines of the match, and those behind
    HasRun-lines : told ≡ (match_at reading run.between).told → HasMatched piece reading leaves run.between held' feed'
        → run_from reading units run.fuel run.between
        ≡ onto (match_lines told held') (if is_followed told held' then run_from reading units (run.fuel - 1)
        (behind run.between (match_at reading run.between)) else last_text told)
    HasRun-lines told_is matched =
        let after = behind run.between (match_at reading run.between) in
        let rest = run_from reading units (run.fuel - 1) after in
        run_from-at reading units run.fuel (run.fuel - 1) run.between false HasRun-steps goes_on
        ∙ ap (λ (lexer : Held). onto (match_lines (match_at reading run.between).told lexer)
        (if is_followed (match_at reading run.between).told lexer then rest else last_text (match_at reading run.between).told))
        (sym matched.held_is)
        ∙ ap (λ (outcome : Outcome). onto (match_lines outcome held') (if is_followed outcome held' then rest else last_text outcome))
        (sym told_is)

    -- the run ends behind the match
    pub HasRun-ends : (end : RunEnd) → LinesEnd told held' given' given'' faults' faults'' (Some end)
        → (told ≡ Memory → Some end ≡ Some run_end.Memory)
        → EndsAs whole given given'' faults faults'' end
    HasRun-ends end ends by_memory = EndsAs-behind given given' given'' faults faults' faults'' whole
        (run_from reading units run.fuel run.between) run.put run.full_is end (by made) where
          by : IsMade reading run.between told (HasMatched piece reading leaves run.between held' feed')
              → EndsAs (run_from reading units run.fuel run.between) given' given'' faults' faults'' end
          by (inl memory) =
              let end_is : end ≡ run_end.Memory = let same = by_memory memory in cc in
              let gives = subst (λ (last : RunEnd). LinesEnd Memory held' given' given'' faults' faults'' (Some last)) end_is
              (subst (λ (outcome : Outcome). LinesEnd outcome held' given' given'' faults' faults'' (Some end)) memory ends) in
              subst (λ (last : RunEnd). EndsAs (run_from reading units run.fuel run.between) given' given'' faults' faults'' last) (sym end_is)
              (GivesFront-longer given' given'' [] [] (run_from reading units run.fuel run.between).text refl gives)
          by (inr matched) =
              let rest = run_from reading units (run.fuel - 1) (behind run.between (match_at reading run.between)) in
              subst (λ (lines : RunText). EndsAs lines given' given'' faults' faults'' end) (sym (HasRun-lines matched.0 matched.1))
              (LinesEnd-EndsAs told held' given' given'' faults' faults'' rest end ends)

    -- the run goes on at the cursor
    pub HasRun-next : (at : ℕ) (window : WindowView) → LinesEnd told held' given' given'' faults' faults'' None → at ≡ held'.cursor
        → window ≡ begun feed'.window at → IsFormed window
        → HasRun piece reading leaves units whole given given'' faults faults'' held' (feed_of feed'.ahead window)
    HasRun-next at window lines at_is window_is formed =
        let matched = IsMade-made reading run.between told held' made lines.0 in
        let after = behind run.between (match_at reading run.between) in
        let rest = run_from reading units (run.fuel - 1) after in
        let splits : run_from reading units run.fuel run.between ≡ onto (match_lines told held') rest =
        HasRun-lines matched.0 matched.1 ∙ ap (λ (test : Bool). onto (match_lines told held')
        (if test then rest else last_text told)) lines.0 in
        record {
          between = after;
          fuel = run.fuel - 1;
          is = IsBetween-next matched.1 told matched.0 run.is.piece_is lines.0 at window at_is window_is formed;
          enough =
              let enough = run.enough in
              let cursor = ap (λ (lexer : Held). lexer.cursor) matched.1.held_is in
              let more = cursor-behind matched.1 told matched.0 run.is.piece_is lines.0 in
              let steps = HasRun-steps in
              omega (arith, enough, cursor, more, steps);
          put = HasPut-part (run_from reading units run.fuel run.between).text (match_lines told held') rest.text
              (ap (λ (lines : RunText). lines.text) splits) run.put lines.1 lines.2;
          full_is = sym (ap (λ (lines : RunText). lines.full) splits) ∙ run.full_is;
        }

  -- the window's start may move to the cursor, where another match follows
  pub HasRun-begins : (told : Outcome) (held' : Held) (feed' : Feed) (at : ℕ)
      → IsMade reading run.between told (HasMatched piece reading leaves run.between held' feed') → is_followed told held' ≡ true
      → at ≡ held'.cursor → Begins reading run.between.start at feed'.window
  HasRun-begins told held' feed' at made followed at_is =
      let matched = IsMade-made reading run.between told held' made followed in
      let from = cursor-from matched.1 told matched.0 run.is.piece_is followed in
      let to = cursor-to matched.1 told matched.0 run.is.piece_is followed in
      let within = cursor-in_stream matched.1 told matched.0 run.is.piece_is followed in
      let more = cursor-behind matched.1 told matched.0 run.is.piece_is followed in
      record {
        from = omega (arith, from, at_is);
        to = omega (arith, to, at_is);
        within = omega (arith, within, at_is);
        more = omega
            (arith, more, at_is);
      }

  -- then fewer units stand behind it
  pub HasRun-falls : (told : Outcome) (held' : Held) (source' : MemorySource) (window' window : WindowView) (at before : ℕ)
      → IsMade reading run.between told (HasMatched piece reading leaves run.between held' (feed_of (ahead_of source') window'))
      → is_followed told held' ≡ true
      → at ≡ held'.cursor → window ≡ begun window' at → IsFormed window → source'.unit ≡ piece.unit
      → before ≡ length reading.stream - run.between.start
      → length source'.bytes / source'.unit + (window.limit - window.start) < before
  HasRun-falls told held' source' window' window at before made followed at_is window_is formed unit_is before_is =
      let matched = IsMade-made reading run.between told held' made followed in
      let next = IsBetween-next matched.1 told matched.0 run.is.piece_is followed at window at_is window_is formed in
      let after = units-behind source' window next.at unit_is in
      let begins = HasRun-begins told held' (feed_of (ahead_of source') window') at made followed at_is in
      let within = begins.within in
      let more = begins.more in
      let cursor = ap (λ (lexer : Held). lexer.cursor) matched.1.held_is in
      omega (arith, after, within, more, cursor, before_is, at_is)
