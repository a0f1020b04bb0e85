-- Where a match stands, and how it goes on while refills are answered.
use Rattle.std.specs.Prelude.{◌≡◌, ◌<◌, ◌≤◌, ℕ, suc, ◌+◌, ◌-◌, false, List, [], ◌∷◌, ◌++◌, Option, Some, None}
use Rattle.lx_ccode.specs.declared.piece.CodeBlock.{CodeBlock}
use Rattle.lx_ccode.specs.declared.piece.Piece.{Piece}
use Rattle.lx_ccode.specs.declared.piece.Stmt.{Stmt}
use Rattle.lx_ccode.specs.declared.piece.Stmt.TheVariants.{Need, Try}
use Rattle.lx_ccode.specs.Machine.{Machine, Answer, refilled, more, Next, goes_on, code_at, has_units, step}
use Rattle.lx_ccode.specs.Runs.{loop_count}
use Rattle.lx_step.specs.declared.answers.StmtAt.{StmtAt}
use Rattle.lx_step.specs.Assigned.{place_after, target, with_statement}

-- a place in the code, what is left of its block, the machine, how many steps were made, and the places of statements that assigned something
pub record Point : Type 0 where
  pub place : StmtAt
  pub code : List Stmt
  pub machine : Machine
  pub steps : ℕ
  pub assigned : List StmtAt

-- the code of a block; none where there is no such block
abbrev pub code_or_none : Option (List Stmt) → List Stmt
code_or_none None = []
code_or_none (Some code) = code

abbrev pub block_or_first : Option ℕ → ℕ
block_or_first None = 0
block_or_first (Some block) = block

-- the start of a block
abbrev pub point_at : List CodeBlock → Option ℕ → Machine → (steps : ℕ) → (assigned : List StmtAt) → Point
point_at blocks block machine steps assigned = record {
  place = record { block = block_or_first block; stmt = 0 };
  code = code_or_none (code_at blocks block);
  machine = machine;
  steps = steps;
  assigned = assigned;
}

-- ---- refills

-- the statement asks for a refill, where it stands with this machine
abbrev pub IsAsking : Stmt → Machine → Type 0
IsAsking (Need units) machine = has_units units machine ≡ false
IsAsking (Try block) machine = Unit {0}
IsAsking _ machine = ⊥

-- the units that stay in the window while it asks
abbrev pub kept_by : (start : ℕ) → Stmt → Machine → ℕ
kept_by start (Need units) machine = machine.cursor - start
kept_by start (Try block) machine = machine.limit - start
kept_by start _ machine = 0

-- the units that it needs beside them
abbrev pub needed_by : Stmt → ℕ
needed_by (Need units) = units
needed_by (Try block) = 1
needed_by _ = 0

-- it asks, and both have room in a window of so many units
pub record Asks (start size : ℕ) (statement : Stmt) (machine : Machine) : Type 0 where
  pub asking : IsAsking statement machine
  pub room : kept_by start statement machine + needed_by statement ≤ size

-- there are answers only where it asks
abbrev pub AreAsked : (start size : ℕ) → List Answer → Stmt → Machine → Type 0
AreAsked start size [] statement machine = Unit {0}
AreAsked start size (answer ∷ answers) statement machine = Asks start size statement machine

-- the block to which a step goes, where it does not go on in its own
abbrev pub goes_to : (table : List ℕ) → List Answer → Stmt → Machine → Option ℕ
goes_to table [] statement machine = target table statement machine
goes_to table (refilled (more dropped added) ∷ answers) (Try block) machine = Some block
goes_to table (answer ∷ answers) statement machine = target table statement machine

-- ---- steps

-- the limit moved
abbrev pub limited : (limit : ℕ) → Point → Point
limited limit point = record point { machine = record point.machine { limit = limit } }

-- the point behind a step that went on
abbrev pub point_after : (table : List ℕ) → Point → Stmt → (used : List Answer) → (code : List Stmt) → Machine → Point
point_after table point statement used code machine = record {
  place = place_after point.place (goes_to table used statement point.machine);
  code = code;
  machine = machine;
  steps = suc point.steps;
  assigned = with_statement point.place statement point.assigned;
}

module _ (piece : Piece) (stream : List ℕ) (start size : ℕ) where
  -- a statement is to be made here: the steps are not yet the count of a loop
  pub record StandsBefore (point : Point) (statement : Stmt) (rest : List Stmt) : Type 0 where
    pub code : point.code ≡ statement ∷ rest
    pub unlooped : point.steps < loop_count piece start point.machine.limit

  -- it is made with these answers, and all of them
  pub record Makes (point : Point) (statement : Stmt) (rest : List Stmt) (used : List Answer) (next : Next) : Type 0 where
    pub stands : StandsBefore point statement rest
    pub asked : AreAsked start size used statement point.machine
    pub step : step piece stream statement rest point.machine used ≡ next

  -- from one point the match comes to another with these answers: step by step, where a refill that does not bring a Need enough units only
  -- moves the limit
  pub data LeadsTo (from : Point) : List Answer → Point → Type 0 where
    stays : LeadsTo from [] from
    waits : {answers others : List Answer} {point : Point} {units : ℕ} {rest : List Stmt} (dropped added : ℕ) → LeadsTo from answers point
        → StandsBefore point (Need units) rest → Asks start size (Need units) point.machine → others ≡ answers ++ refilled (more dropped added) ∷ []
        → LeadsTo from others (limited (point.machine.limit + added) point)
    makes : {answers others used : List Answer} {point : Point} {statement : Stmt} {rest code : List Stmt} {machine : Machine} → LeadsTo from answers point
        → Makes point statement rest used (goes_on code machine []) → others ≡ answers ++ used
        → LeadsTo from others (point_after piece.table point statement used code machine)
