-- What a call over a window leaves of a lexer.
use Rattle.std.proofs.Common.{◌≡◌, ◌∙◌, ap, refl, sym, subst, ℕ, Bool, List, [], Option, Some, None}
use Rattle.std.specs.Option.{option_map}
use Rattle.lx_ccode.specs.declared.piece.Piece.{Piece}
use Rattle.lx_ccode.specs.Machine.{Machine, Value}
use Rattle.lx_window.specs.Windows.{IsFormed, IsWindowOf, slid}
use Rattle.lx_window.proofs.StreamWindows.{IsWindowOf-slid}
use Rattle.lx_step.specs.declared.answers.Outcome.{Outcome}
use Rattle.lx_step.specs.declared.answers.Outcome.TheVariants as outcome
use Rattle.lx_step.specs.declared.answers.StmtAt.{StmtAt}
use Rattle.lx_step.specs.declared.numbers.Sort.TheVariants.{Register}
use Rattle.lx_step.specs.declared.scanner.Scanner.{Scanner}
use Rattle.lx_step.specs.Advances.{HoldsAfter, IsAdvance, StoresLeft}
use Rattle.lx_step.specs.Entries.{entry_by, machine_back}
use Rattle.lx_step.specs.Feeds.{Feed}
use Rattle.lx_step.specs.Given.{Given}
use Rattle.lx_step.specs.Held.{Held, is_last}
use Rattle.lx_step.specs.Left.{Left, left_of}
use Rattle.lx_step.specs.Matches.{condition_of}
use Rattle.lx_step.specs.Numbers.{IsNumberingOf, numbers_of, place_of}
use Rattle.lx_step.specs.Points.{Point}
use Rattle.lx_step.specs.Steps.{content_of, history_at, history_of, machine_of, register_in}
use Rattle.lx_step.specs.Ways.{HasStopped, left_by}
use Rattle.lx_step.proofs.FilledWindows.{some_stream}
use Rattle.lx_step.proofs.Soundness.{held_of}

-- what a scanner has left, with a state
abbrev left_with : Scanner → (steps state : ℕ) → Left
left_with scanner steps state = record {
  marker = scanner.marker;
  accept = scanner.accept;
  registers = scanner.registers.items;
  histories = scanner.histories;
  state = state;
  steps = steps;
}

-- a scanner that comes back by what it stored is as it was, without its unit
machine_back-stored : (piece : Piece) (scanner : Scanner) (steps state : ℕ) (values : List Value) → IsNumberingOf piece.blocks scanner.numbering → scanner.state ≡ Some state
    → machine_back piece scanner.cursor (condition_of piece scanner) (left_with scanner steps state) scanner.limit ≡ record (machine_of piece.conds scanner values) { unit = None; values = [] }
machine_back-stored piece scanner steps state values numbered stored =
    let back : (registers : ℕ → Option ℕ) (histories : ℕ → List (Option ℕ)) (state : Option ℕ) → Machine = λ registers histories state. record {
      cursor = scanner.cursor;
      marker = scanner.marker;
      limit = scanner.limit;
      unit = None;
      accept = scanner.accept;
      registers = registers;
      histories = histories;
      cond = condition_of piece scanner;
      state = state;
      values = [];
    } in
    ap (λ keys. back (λ register. register_in scanner.registers.items (place_of (numbers_of Register piece.blocks) register)) (λ history. history_of scanner.histories (place_of keys history)) (Some state)) (sym numbered.histories)
    ∙ ap (λ keys. back (λ register. register_in scanner.registers.items (place_of keys register)) (λ history. history_of scanner.histories (place_of scanner.numbering.histories.keys history)) (Some state)) (sym numbered.registers)
    ∙ ap (back (content_of scanner) (history_at scanner)) (sym stored)

module _ (piece : Piece) (spent : Bool) (start first_steps : ℕ) (first : Scanner) (before_given : Given) (before_assigned : List StmtAt) (before after : Feed)
    (scanner : Scanner) (given : Given) (steps : ℕ) (assigned : List StmtAt) (formed : IsFormed after.window) (numbered : IsNumberingOf piece.blocks scanner.numbering) where
  abbrev old : Held
  old = held_of piece spent start first_steps first before_given before_assigned

  abbrev entry : Point
  entry = entry_by piece first.cursor (condition_of piece first) before_assigned (left_of first first_steps) before.window.start before.window.limit

  abbrev new : Outcome → Held
  new told = held_of piece (is_last told) before.window.start steps (left_by told scanner) given assigned

  stores-left : (stopped : HasStopped piece entry before after before_given outcome.NeedFill scanner given steps assigned) → StoresLeft (new outcome.NeedFill) (new outcome.NeedFill).left stopped.point
  stores-left stopped = by scanner.state refl where
    some : (stream : List ℕ) × IsWindowOf stream (slid after.window)
    some = some_stream after.window formed

    stays : machine_of piece.conds scanner stopped.values ≡ stopped.point.machine
    stays = (stopped.leads some.0 some.1).1.stays

    by : (state : Option ℕ) → scanner.state ≡ state → StoresLeft (new outcome.NeedFill) (new outcome.NeedFill).left stopped.point
    by None none =
        subst (λ state. StoresLeft (new outcome.NeedFill) (option_map (left_with scanner steps) state) stopped.point) (sym none) (sym (ap (λ (machine : Machine). machine.state) stays) ∙ none)
    by (Some state) is =
        subst (λ state. StoresLeft (new outcome.NeedFill) (option_map (left_with scanner steps) state) stopped.point) (sym is) (record {
          machine = subst (λ (machine : Machine). machine_back piece scanner.cursor (condition_of piece scanner) (left_with scanner steps state) machine.limit ≡ record machine { unit = None; values = [] }) stays
              (machine_back-stored piece scanner steps state stopped.values numbered is);
          steps = stopped.counts;
        })

  holds : (told : Outcome) → (stopped : HasStopped piece entry before after before_given told scanner given steps assigned)
      → HoldsAfter old (new told) before.window.start told stopped.point (machine_of piece.conds scanner stopped.values)
  holds outcome.NeedFill stopped = record { start_is = refl; cursor = refl; cond = refl; given = stopped.kept; assigned = stopped.places; left = stores-left stopped }
  holds _ stopped = record { start_is = refl; cursor = refl; cond = refl; given = stopped.kept; assigned = stopped.places; left = refl }

  -- the call did what it is said to do
  pub IsAdvance-stopped : (told : Outcome) → HasStopped piece entry before after before_given told scanner given steps assigned → IsAdvance old (new told) before after told
  IsAdvance-stopped told stopped = record {
    answers = stopped.answers;
    used = stopped.used;
    point = stopped.point;
    last = machine_of piece.conds scanner stopped.values;
    feed = stopped.feed;
    fed = stopped.fed;
    behind = stopped.behind;
    leads = λ stream is. stopped.leads stream (IsWindowOf-slid stream after.window formed is);
    piece = refl;
    spent = refl;
    holds = holds told stopped;
  }
