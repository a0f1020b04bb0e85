-- Code that all layouts have reads, passes and tests no unit, asks for no refill and stores no state; on an edge one unit is passed.
use Rattle.std.specs.Prelude.{◌≡◌, ℕ, zero, suc, Bool, true, false, List, [], ◌∷◌, Option, Some, None, ◌||◌, refl}
use Rattle.std.proofs.Common.{ap, ◌∙◌}
use Rattle.std.specs.List.{AllByRecursion, list_any}
use Rattle.lx_auto.specs.declared.automaton.Auto.{Auto}
use Rattle.lx_auto.specs.declared.automaton.Edge.{Edge}
use Rattle.lx_auto.specs.declared.automaton.Held.{Held}
use Rattle.lx_auto.specs.declared.automaton.Held.TheVariants.{Reg, MReg}
use Rattle.lx_auto.specs.declared.automaton.State.{State}
use Rattle.lx_auto.specs.declared.ops.Op.{Op}
use Rattle.lx_auto.specs.declared.ops.Op.TheVariants.{Here, Null, Copy, MHere, MNull, MCopy}
use Rattle.lx_ccode.specs.declared.piece.Stmt.{Stmt}
use Rattle.lx_ccode.specs.declared.piece.Stmt.TheVariants.{Accept as SaveAccept, Backup, Goto, IfEnd, IfIs, IfSet, IfUnit, Need, Peek, Skip, State as Store, Switch, Try}
use Rattle.lx_sequence.specs.ParallelCopies.{sequentialized}
use Rattle.lx_layout.specs.Codes.{Choice, accept_code, list_code, op_code, ops_code, save_code}
use Rattle.lx_layout.specs.Endings.{Ending, action_code, back_code, cond_code, ending_code, ends_code, groups_code, is_slash, last_code, slash_held, tag_code, tags_code, unless}
use Rattle.lx_layout.specs.Fallback.{edge_code, fallback_code}
use Rattle.lx_layout.specs.Halting.{Halting, saves_on}

-- all statements but those that read, pass or test a unit, ask whether one is left or for a refill, or store a state
abbrev pub is_common : Stmt → Bool
is_common Peek = false
is_common Skip = false
is_common (IfEnd block) = false
is_common (Need units) = false
is_common (Try block) = false
is_common (Store state) = false
is_common (IfUnit greatest block) = false
is_common (IfIs unit block) = false
is_common (IfSet set block) = false
is_common (Switch cases last) = false
is_common _ = true

abbrev pub AreCommon : List Stmt → Type 0
AreCommon code = AllByRecursion (λ statement. is_common statement ≡ true) code

-- ---- the sorts of code

op_common : (op : Op) → is_common (op_code op) ≡ true
op_common (Here reg) = refl
op_common (Null reg) = refl
op_common (Copy reg source) = refl
op_common (MHere mreg) = refl
op_common (MNull mreg) = refl
op_common (MCopy mreg source) = refl

ops_common : (ops : List Op) (rest : List Stmt) → AreCommon rest → AreCommon (ops_code ops rest)
ops_common [] rest h = h
ops_common (op ∷ ops) rest h = (op_common op, ops_common ops rest h)

fallback_common : (leaves : Bool) (choices : List Choice) → AreCommon (fallback_code leaves choices)
fallback_common leaves [] = (refl, tt)
fallback_common true (choice ∷ []) = (refl, (refl, tt))
fallback_common false (choice ∷ []) = (refl, tt)
fallback_common leaves (choice ∷ next ∷ choices) = (refl, fallback_common leaves (next ∷ choices))

ends_common : (values : List Held) (place : ℕ) (rest : List Stmt) → AreCommon rest → AreCommon (ends_code values place rest)
ends_common [] place rest h = h
ends_common (Reg r ∷ values) place rest h = (refl, ends_common values (suc place) rest h)
ends_common (MReg r ∷ values) place rest h = ends_common values (suc place) rest h

groups_common : (groups : ℕ) (values : List Held) (rest : List Stmt) → AreCommon rest → AreCommon (groups_code groups values rest)
groups_common zero values rest h = h
groups_common (suc groups) values rest h = (refl, ends_common values 0 rest h)

tags_common : (ending : Ending) (number : ℕ) (names : List (List ℕ)) (values : List Held) (rest : List Stmt) → AreCommon rest
    → AreCommon (tags_code ending number names values rest)
tags_common ending number [] values rest h = groups_common ending.groups values rest h
tags_common ending number (name ∷ names) [] rest h = h
tags_common ending number (name ∷ names) (held ∷ values) rest h =
    by (is_slash ending.slash number) held (tags_common ending (suc number) names values rest h)
  where
    by : (t : Bool) (held : Held) → AreCommon (tags_code ending (suc number) names values rest)
        → AreCommon (unless t (tag_code held name) (tags_code ending (suc number) names values rest))
    by true held again = again
    by false (Reg r) again = (refl, again)
    by false (MReg r) again = (refl, again)

back_common : (o : Option Held) (rest : List Stmt) → AreCommon rest → AreCommon (back_code o rest)
back_common None rest h = h
back_common (Some (Reg r)) rest h = (refl, h)
back_common (Some (MReg r)) rest h = h

last_common : (endings : ℕ → Ending) (rule : ℕ) → AreCommon (last_code endings rule)
last_common endings rule = by (endings rule).goes_to
  where
    acts : (action : Option (List ℕ)) (forgets : Bool) → AreCommon (action_code rule (endings rule) action forgets)
    acts None true = (refl, (refl, tt))
    acts None false = (refl, tt)
    acts (Some action) forgets = (refl, tt)

    by : (cond : Option (List ℕ)) → AreCommon (cond_code cond (action_code rule (endings rule) (endings rule).action (endings rule).forgets))
    by None = acts (endings rule).action (endings rule).forgets
    by (Some cond) = (refl, acts (endings rule).action (endings rule).forgets)

pub ending_common : (endings : ℕ → Ending) (rule : ℕ) (values : List Held) → AreCommon (ending_code endings rule values)
ending_common endings rule values =
    tags_common (endings rule) 0 (endings rule).tags values (back_code (slash_held (endings rule).slash values) (last_code endings rule))
    (back_common (slash_held (endings rule).slash values) (last_code endings rule) (last_common endings rule))

-- ---- what none of them is

module _ (test : Stmt → Bool) (others : (statement : Stmt) → is_common statement ≡ true → test statement ≡ false) where
  none_common : (code : List Stmt) → AreCommon code → list_any test code ≡ false
  none_common [] h = refl
  none_common (statement ∷ code) h = ap (λ t. t || list_any test code) (others statement h.0) ∙ none_common code h.1

  none_ops : (ops : List Op) (rest : List Stmt) → list_any test rest ≡ false → list_any test (ops_code ops rest) ≡ false
  none_ops [] rest none = none
  none_ops (op ∷ ops) rest none =
      ap (λ t. t || list_any test (ops_code ops rest)) (others (op_code op) (op_common op)) ∙ none_ops ops rest none

  none_save : (saves : Bool) (saved : Option ℕ) (rest : List Stmt) → list_any test rest ≡ false → list_any test (save_code saves saved rest) ≡ false
  none_save false saved rest none = none
  none_save true None rest none = ap (λ t. t || list_any test rest) (others Backup refl) ∙ none
  none_save true (Some number) rest none =
      ap (λ t. t || (test (SaveAccept number) || list_any test rest)) (others Backup refl)
      ∙ ap (λ t. t || list_any test rest) (others (SaveAccept number) refl) ∙ none

  pub none-edge : test Skip ≡ false → (halting : Halting) (auto : Auto) (given : State) (saved : Option ℕ) (edge : Edge) (block : ℕ)
      → list_any test (edge_code halting auto given saved edge block) ≡ false
  none-edge passes halting auto given saved edge block =
      let last : List Stmt = Skip ∷ Goto block ∷ [] in
      none_save (saves_on halting given edge) saved (list_code auto given.leave (list_code auto edge.ops (Skip ∷ Goto block ∷ [])))
      (none_ops (sequentialized auto.regs auto.mregs given.leave) (list_code auto edge.ops (Skip ∷ Goto block ∷ []))
      (none_ops (sequentialized auto.regs auto.mregs edge.ops) last
      (ap (λ t. t || list_any test (Goto block ∷ [])) passes ∙ none_common (Goto block ∷ []) (refl, tt))))

  pub none-accept : (auto : Auto) (ops : List Op) (block : ℕ) → list_any test (accept_code auto ops block) ≡ false
  none-accept auto ops block =
      none_common (accept_code auto ops block) (ops_common (sequentialized auto.regs auto.mregs ops) (Goto block ∷ []) (refl, tt))

  pub none-fallback : (leaves : Bool) (choices : List Choice) → list_any test (fallback_code leaves choices) ≡ false
  none-fallback leaves choices = none_common (fallback_code leaves choices) (fallback_common leaves choices)

  pub none-ending : (endings : ℕ → Ending) (rule : ℕ) (values : List Held) → list_any test (ending_code endings rule values) ≡ false
  none-ending endings rule values = none_common (ending_code endings rule values) (ending_common endings rule values)
