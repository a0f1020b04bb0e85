-- Steps of statements that ask for a refill, by what the source answered.
use Rattle.std.proofs.Common.{◌≡◌, ◌∙◌, ◌≤◌, ap, refl, sym, ℕ, ◌+◌, ◌-◌, true, false, if◌then◌else◌, nat_le, List, [], ◌∷◌, Some, arith}
use Rattle.lx_ccode.specs.declared.piece.Piece.{Piece}
use Rattle.lx_ccode.specs.declared.piece.Stmt.{Stmt}
use Rattle.lx_ccode.specs.declared.piece.Stmt.TheVariants.{Need, Try}
use Rattle.lx_ccode.specs.Machine.{Machine, refilled, no_more, goes_on, ends, at_end, unanswered, jump, code_at}
use Rattle.lx_window.specs.Windows.{IsFormed, IsWindowOf, Refills, slid}
use Rattle.lx_window.specs.declared.refills.Fill.TheVariants.{More, NoMore}
use Rattle.lx_step.specs.declared.answers.Outcome.TheVariants.{End}
use Rattle.lx_step.specs.declared.scanner.Going.{Going}
use Rattle.lx_step.specs.declared.scanner.Going.TheVariants.{Next, To, Ends}
use Rattle.lx_step.specs.declared.scanner.Scanner.{Scanner}
use Rattle.lx_step.specs.Asking.{Goes}
use Rattle.lx_step.specs.Feeds.{Feed, brought, unasked, filled, ended}
use Rattle.lx_step.specs.Steps.{IsStep, KeepsTables, Moves, machine_of}

KeepsTables-refl : (scanner : Scanner) → KeepsTables scanner scanner
KeepsTables-refl scanner = record { numbering = refl; registers = refl; histories = refl }

-- a Need that has its units goes on
pub Goes-enough : (piece : Piece) (units : ℕ) (old : Scanner) (feed : Feed) → nat_le units (old.limit - old.cursor) ≡ true → old.limit ≡ feed.window.limit
    → Goes piece (Need units) old old feed feed Next
Goes-enough piece units old feed enough limit = record {
  used = [];
  fed = unasked;
  asks = λ values. tt;
  step = λ stream slid_formed is rest values. let machine : Machine = machine_of piece.conds old values in
      ap (λ found. if found then goes_on rest machine [] else ends unanswered machine) enough;
  leads = λ values. refl;
  tables = KeepsTables-refl old;
  limit = limit;
  cond = λ is. is;
  state = refl;
  from = λ start from. from;
}

-- a Need that gets none of its units ends the match
pub Goes-need-end : (piece : Piece) (units : ℕ) (old : Scanner) (before after : Feed) → IsFormed before.window → nat_le units (old.limit - old.cursor) ≡ false → old.limit ≡ before.window.limit
    → (old.cursor - before.window.start) + units ≤ before.window.size → Refills before.ahead after.ahead before.window after.window NoMore
    → Goes piece (Need units) old old before after (Ends End)
Goes-need-end piece units old before after formed few limit room refills = record {
  used = refilled no_more ∷ [];
  fed = ended unasked formed refills refl;
  asks = λ values. record { asking = few; room = room };
  step = λ stream slid_formed is rest values. let machine : Machine = machine_of piece.conds old values in
      ap (λ found. if found then goes_on rest machine (refilled no_more ∷ []) else ends at_end machine) few;
  leads = λ values. tt;
  tables = KeepsTables-refl old;
  limit = limit ∙ sym (ap (λ window. window.limit) refills.2);
  cond = λ is. is;
  state = refl;
  from = λ start from. from;
}

-- a Try that gets nothing goes on
pub Goes-try-end : (piece : Piece) (block : ℕ) (old : Scanner) (before after : Feed) → IsFormed before.window → old.limit ≡ before.window.limit
    → (old.limit - before.window.start) + 1 ≤ before.window.size → Refills before.ahead after.ahead before.window after.window NoMore
    → Goes piece (Try block) old old before after Next
Goes-try-end piece block old before after formed limit room refills = record {
  used = refilled no_more ∷ [];
  fed = ended unasked formed refills refl;
  asks = λ values. record { asking = tt; room = room };
  step = λ stream slid_formed is rest values. refl;
  leads = λ values. refl;
  tables = KeepsTables-refl old;
  limit = limit ∙ sym (ap (λ window. window.limit) refills.2);
  cond = λ is. is;
  state = refl;
  from = λ start from. from;
}

-- the limit behind a refill
pub Refills-limit : (before after : Feed) (count : ℕ) → Refills before.ahead after.ahead before.window after.window (More count)
    → after.window.limit ≡ before.window.limit + (after.window.limit - before.window.limit)
Refills-limit before after count refills = omega (arith, ap (λ window. window.limit) refills.window_grown)

-- a Try that gets units goes to its block
pub Goes-try-block : (piece : Piece) (block : ℕ) (old : Scanner) (before after : Feed) (count limit : ℕ) → IsFormed before.window → old.limit ≡ before.window.limit
    → limit ≡ after.window.limit → (old.limit - before.window.start) + 1 ≤ before.window.size
    → Refills before.ahead after.ahead before.window after.window (More count) → Goes piece (Try block) old (record old { limit = limit }) before after (To block)
Goes-try-block piece block old before after count limit formed at behind room refills = record {
  used = brought before.window after.window ∷ [];
  fed = filled unasked formed refills refl;
  asks = λ values. record { asking = tt; room = room };
  step = λ stream slid_formed is rest values.
      ap (λ limit. jump (code_at piece.blocks (Some block)) (record (machine_of piece.conds old values) { limit = limit }) [])
      (ap (λ from. from + (after.window.limit - before.window.limit)) at ∙ sym (Refills-limit before after count refills) ∙ sym behind);
  leads = λ values. refl;
  tables = record { numbering = refl; registers = refl; histories = refl };
  limit = behind;
  cond = λ is. is;
  state = refl;
  from = λ start from. record { cursor = from.cursor; marker = from.marker; registers = from.registers };
}

-- a statement that asks nothing
pub Goes-step : (piece : Piece) (statement : Stmt) (old new : Scanner) (feed : Feed) (going : Going) → old.limit ≡ feed.window.limit
    → ((stream : List ℕ) → IsFormed feed.window × IsWindowOf stream (slid feed.window) → IsStep stream piece.eof piece.table piece.conds statement old new going)
    → Moves piece.table piece.conds statement old new going → Goes piece statement old new feed feed going
Goes-step piece statement old new feed going limit step moves = record {
  used = [];
  fed = unasked;
  asks = λ values. tt;
  step = λ stream slid_formed is rest values. (step stream (slid_formed, is)).step piece rest values [] refl refl;
  leads = moves.leads;
  tables = moves.tables;
  limit = moves.limit ∙ limit;
  cond = moves.cond;
  state = moves.state;
  from = moves.from;
}
