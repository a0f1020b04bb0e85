-- What a piece does where a match ends by a rule.
use Rattle.std.specs.Prelude.{ℕ, zero, suc, List, [], ◌∷◌, Option, Some, None, Bool, true, false, slice_get, ◌==◌}
use Rattle.lx_auto.specs.declared.automaton.Held.{Held}
use Rattle.lx_auto.specs.declared.automaton.Held.TheVariants.{Reg, MReg}
use Rattle.lx_ccode.specs.declared.piece.LineMark.{LineMark}
use Rattle.lx_ccode.specs.declared.piece.Stmt.{Stmt}
use Rattle.lx_ccode.specs.declared.piece.Stmt.TheVariants.{Accept, Back, Code, Cond, Count, End, Jump, Tag}

-- What a rule does at its end: it gives its tags, which have these names in the order of their numbers, puts the cursor back to
-- the tag of its trailing context, tells its groups, sets a condition, and does its action. Without one it goes on in the condition.
pub record Ending : Type 0 where
  pub tags : List (List ℕ)
  pub slash : Option ℕ
  pub groups : ℕ
  pub goes_to : Option (List ℕ)
  pub action : Option (List ℕ)
  pub line : Option LineMark
  -- whether what the match kept is forgotten before it goes on there
  pub forgets : Bool

-- the tag with this number is that of the trailing context, which has no name
abbrev pub is_slash : Option ℕ → (number : ℕ) → Bool
is_slash None number = false
is_slash (Some slash) number = number == slash

-- ---- the code of a rule's end. Register r of the automaton is register r + 1 of the piece, and histories keep their numbers.

abbrev pub tag_code : Held → (name : List ℕ) → Stmt
tag_code (Reg reg) name = Tag name false (suc reg)
tag_code (MReg mreg) name = Tag name true mreg

-- an end of a group, and then the rest; it has no history
abbrev pub end_code : Held → (place : ℕ) → List Stmt → List Stmt
end_code (Reg reg) place rest = End place (suc reg) ∷ rest
end_code (MReg mreg) place rest = rest

abbrev pub ends_code : List Held → (place : ℕ) → List Stmt → List Stmt
ends_code [] place rest = rest
ends_code (held ∷ others) place rest = end_code held place (ends_code others (suc place) rest)

abbrev pub groups_code : (groups : ℕ) → List Held → List Stmt → List Stmt
groups_code zero values rest = rest
groups_code (suc groups) values rest = Count (suc groups) ∷ ends_code values 0 rest

abbrev pub unless : {A : Type 0} → Bool → A → List A → List A
unless true element rest = rest
unless false element rest = element ∷ rest

-- the tags from a number on in the order of their numbers, then the groups, and then the rest
abbrev pub tags_code : Ending → (number : ℕ) → (names : List (List ℕ)) → List Held → List Stmt → List Stmt
tags_code ending number [] values rest = groups_code ending.groups values rest
tags_code ending number (name ∷ names) [] rest = rest
tags_code ending number (name ∷ names) (held ∷ values) rest =
    unless (is_slash ending.slash number) (tag_code held name) (tags_code ending (suc number) names values rest)

-- what holds the value of the trailing context's tag
abbrev pub slash_held : Option ℕ → List Held → Option Held
slash_held None values = None
slash_held (Some number) values = slice_get values number

abbrev pub back_code : Option Held → List Stmt → List Stmt
back_code None rest = rest
back_code (Some (Reg reg)) rest = Back (suc reg) ∷ rest
back_code (Some (MReg mreg)) rest = rest

abbrev pub cond_code : Option (List ℕ) → List Stmt → List Stmt
cond_code None rest = rest
cond_code (Some cond) rest = Cond cond ∷ rest

abbrev pub name_or_none : Option (List ℕ) → List ℕ
name_or_none None = []
name_or_none (Some name) = name

abbrev pub action_code : (rule : ℕ) → Ending → (action : Option (List ℕ)) → (forgets : Bool) → List Stmt
action_code rule ending None true = Accept 0 ∷ Jump (name_or_none ending.goes_to) rule ∷ []
action_code rule ending None false = Jump (name_or_none ending.goes_to) rule ∷ []
action_code rule ending (Some action) forgets = Code rule ending.line action ∷ []

-- what a rule gives where a match ends, with the values held so, and then the rest
abbrev pub rule_code : (endings : ℕ → Ending) → (rule : ℕ) → List Held → List Stmt → List Stmt
rule_code endings rule values rest =
    tags_code (endings rule) 0 (endings rule).tags values (back_code (slash_held (endings rule).slash values) rest)

-- and its last statements
abbrev pub last_code : (endings : ℕ → Ending) → (rule : ℕ) → List Stmt
last_code endings rule = cond_code (endings rule).goes_to (action_code rule (endings rule) (endings rule).action (endings rule).forgets)

-- the whole, which stands in one block for all states that accept by the rule
abbrev pub ending_code : (endings : ℕ → Ending) → (rule : ℕ) → List Held → List Stmt
ending_code endings rule values = rule_code endings rule values (last_code endings rule)
