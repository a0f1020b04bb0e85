-- The blocks of an automaton, without tests of the end and without refills.
use Rattle.std.specs.Prelude.{◌≡◌, ℕ, zero, suc, ◌+◌, Bool, true, false, List, [], ◌∷◌, ◌++◌, Option, Some, None, nat_eq, slice_get, if◌then◌else◌}
use Rattle.lx_auto.specs.declared.automaton.Accept.{Accept}
use Rattle.lx_auto.specs.declared.automaton.Auto.{Auto}
use Rattle.lx_auto.specs.declared.ops.Op.{Op}
use Rattle.lx_ccode.specs.declared.piece.Stmt.{Stmt}
use Rattle.lx_ccode.specs.declared.piece.Stmt.TheVariants.{Goto}
use Rattle.lx_layout.specs.Codes.{Choice, accept_code, restore_code}
use Rattle.lx_layout.specs.Endings.{Ending, ending_code}
use Rattle.lx_dispatch.specs.TestTrees.{TestTree, cases_by, fork, leaf, switch, test}

-- ---- the rules by which states accept

-- the place of a rule among those of accepts
abbrev pub rule_place : List Accept → (rule : ℕ) → ℕ
rule_place [] rule = 0
rule_place (accept ∷ accepts) rule = if nat_eq rule accept.rule then 0 else suc (rule_place accepts rule)

abbrev pub has_rule : List Accept → (rule : ℕ) → Bool
has_rule [] rule = false
has_rule (accept ∷ accepts) rule = if nat_eq rule accept.rule then true else has_rule accepts rule

-- behind others, unless one of these is by the same rule
abbrev pub with_accept : List Accept → Option Accept → List Accept
with_accept found None = found
with_accept found (Some accept) = if has_rule found accept.rule then found else found ++ accept ∷ []

-- States that accept by one rule are saved by one number. The number 0 says that none was saved.
abbrev pub saved_number : (saved_accepts : List Accept) → Option Accept → ℕ
saved_number saved_accepts None = 0
saved_number saved_accepts (Some accept) = suc (rule_place saved_accepts accept.rule)

-- ---- how many blocks there are

-- the end of a match by an accept has a block of its own, if something is to be done before the rule's block
abbrev pub own_size : List Op → ℕ
own_size [] = 0
own_size (op ∷ ops) = 1

abbrev pub end_size : Option Accept → ℕ
end_size None = 0
end_size (Some accept) = own_size accept.ops

-- a state without edges has a block for the end alone; state 0 has one in any case
abbrev pub lone_size : (number : ℕ) → Option Accept → ℕ
lone_size zero accept = 1
lone_size (suc number) accept = end_size accept

-- ---- the blocks

-- the block of a class, if the first one's is `first`; without a class the match ends
abbrev pub class_block : (first end : ℕ) → Option ℕ → ℕ
class_block first end None = end
class_block first end (Some place) = first + place

-- the blocks of the classes that a tree picks
abbrev pub numbered : (first end : ℕ) → TestTree (Option ℕ) → TestTree ℕ
numbered first end (leaf class) = leaf (class_block first end class)
numbered first end (test question class high) = test question (class_block first end class) (numbered first end high)
numbered first end (fork question low high) = fork question (numbered first end low) (numbered first end high)
numbered first end (switch cases last) = switch (cases_by (class_block first end) cases) (class_block first end last)

-- the block where a match ends by an accept: its own one, or that of the rule
abbrev pub own_block : (own rule : ℕ) → List Op → ℕ
own_block own rule [] = rule
own_block own rule (op ∷ ops) = own

-- with the blocks of the rules' ends and of the fallback
module _ (auto : Auto) (rules : ℕ → ℕ) (fall : ℕ) where
  -- where a match ends in a state
  abbrev pub end_block : (own : ℕ) → Option Accept → ℕ
  end_block own None = fall
  end_block own (Some accept) = own_block own (rules accept.rule) accept.ops

  -- where the code of a state without edges stands
  abbrev pub lone_place : (number own : ℕ) → Option Accept → ℕ
  lone_place zero own accept = own
  lone_place (suc number) own accept = end_block own accept

  abbrev pub own_blocks : (block : ℕ) → List Op → List (List Stmt)
  own_blocks block [] = []
  own_blocks block (op ∷ ops) = accept_code auto (op ∷ ops) block ∷ []

  abbrev pub end_blocks : Option Accept → List (List Stmt)
  end_blocks None = []
  end_blocks (Some accept) = own_blocks (rules accept.rule) accept.ops

  -- without an edge
  abbrev pub lone_code : Option Accept → List Stmt
  lone_code None = Goto fall ∷ []
  lone_code (Some accept) = accept_code auto accept.ops (rules accept.rule)

  abbrev pub lone_blocks : (number : ℕ) → Option Accept → List (List Stmt)
  lone_blocks zero accept = lone_code accept ∷ []
  lone_blocks (suc number) accept = end_blocks accept

-- ---- the fallback and the rules

-- what was saved by a number on is found again in the blocks from one on
abbrev pub choices_from : (saved block : ℕ) → (saved_accepts : List Accept) → List Choice
choices_from saved block [] = []
choices_from saved block (accept ∷ saved_accepts) = record { saved = saved; block = block } ∷ choices_from (suc saved) (suc block) saved_accepts

abbrev pub restore_blocks : (rules : ℕ → ℕ) → (saved_accepts : List Accept) → List (List Stmt)
restore_blocks rules [] = []
restore_blocks rules (accept ∷ saved_accepts) = restore_code (rules accept.rule) ∷ restore_blocks rules saved_accepts

-- the ends of the rules
abbrev pub ending_blocks : (endings : ℕ → Ending) → (accepts : List Accept) → List (List Stmt)
ending_blocks endings [] = []
ending_blocks endings (accept ∷ accepts) = ending_code endings accept.rule accept.values ∷ ending_blocks endings accepts

-- ---- the trees

-- these codes stand in blocks from a number on
abbrev pub StandsFrom : (blocks : List (List Stmt)) → (from : ℕ) → List (List Stmt) → Type 0
StandsFrom blocks from [] = Unit {0}
StandsFrom blocks from (code ∷ codes) = (slice_get blocks from ≡ Some code) × StandsFrom blocks (suc from) codes
