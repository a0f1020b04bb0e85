-- How a scanner gets its units: what it asks for before it reads one, and what happens at the end of the input.
use Rattle.std.specs.Prelude.{ℕ, zero, suc, Bool, false, List, [], ◌∷◌, Option, Some, None}
use Rattle.lx_ccode.specs.Machine.{is_among}
use Rattle.lx_ccode.specs.declared.piece.Stmt.{Stmt}
use Rattle.lx_ccode.specs.declared.piece.Stmt.TheVariants.{Goto, IfEnd, Need, State as Store, Try}

-- what reads a unit: the entry, where it stands apart from the states, or a state by its number
pub data Reader : Type 0 where
  entry : Reader
  state : (number : ℕ) → Reader

pub record Supply : Type 0 where
  -- the unit that stands at the end of the input, if one does
  pub eof : Option ℕ
  -- whether a refill is tried there
  pub tries : Bool
  -- how many units a state checks for before it reads one; 0 where it does not
  pub check : (number : ℕ) → ℕ
  -- by which number what reads is stored before a refill, if that is stored
  pub stored : Option (Reader → ℕ)
  -- what is in the sets that are tested
  pub among : (set unit : ℕ) → Bool

-- all units are there from the start, the end is not tested, and there is no set
abbrev pub plain_supply : Supply
plain_supply = record { eof = None; tries = false; check = λ number. 0; stored = None; among = is_among [] }

-- what reads is stored, and then the rest
abbrev pub store_code : Option (Reader → ℕ) → Reader → List Stmt → List Stmt
store_code None reader rest = rest
store_code (Some number) reader rest = Store (number reader) ∷ rest

-- a check for so many units, and then the rest
abbrev pub need_code : Option (Reader → ℕ) → Reader → (units : ℕ) → List Stmt → List Stmt
need_code stored reader zero rest = rest
need_code stored reader (suc units) rest = store_code stored reader (Need (suc units) ∷ rest)

-- where the unit at the end was read: to one block if it is the end, and to another one if it is a unit of the input
abbrev pub end_test : (asked to : ℕ) → List Stmt
end_test asked to = IfEnd asked ∷ Goto to ∷ []

-- at the end a refill is tried, and then the unit is read anew in the block; where nothing was added the match ends
abbrev pub try_code : Option (Reader → ℕ) → Reader → (block end : ℕ) → List Stmt
try_code stored reader block end = store_code stored reader (Try block ∷ Goto end ∷ [])

-- the same where the scanner comes back that was left before the refill
abbrev pub back_code : (block end : ℕ) → List Stmt
back_code block end = IfEnd end ∷ Goto block ∷ []
