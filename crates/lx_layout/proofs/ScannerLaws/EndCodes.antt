-- The end of a rule has a statement by which that rule ends, and none by which another one does.
use Rattle.std.specs.Prelude.{◌≡◌, ℕ, zero, suc, Bool, true, false, Contains, List, [], ◌∷◌, Option, Some, None, refl}
use Rattle.std.proofs.Common.{arith}
use Rattle.std.specs.List.{AllByRecursion}
use Rattle.lx_auto.specs.declared.automaton.Held.{Held}
use Rattle.lx_auto.specs.declared.automaton.Held.TheVariants.{Reg, MReg}
use Rattle.lx_ccode.specs.declared.piece.Stmt.{Stmt}
use Rattle.lx_ccode.specs.declared.piece.Stmt.TheVariants.{Accept, Back, Code, Cond, Count, End, Jump}
use Rattle.lx_layout.specs.EndedRules.{ended_rule}
use Rattle.lx_layout.specs.Endings.{Ending, action_code, back_code, cond_code, ending_code, ends_code, groups_code, is_slash, last_code, name_or_none, slash_held, tag_code, tags_code, unless}

module _ (rule : ℕ) where
  -- if a rule ends by the statement, it is this one
  abbrev pub EndsNoOther : Stmt → Type 0
  EndsNoOther statement = (other : ℕ) → ended_rule statement ≡ Some other → other ≡ rule

  pub record EndsBy (code : List Stmt) : Type 0 where
    pub alone : AllByRecursion EndsNoOther code
    pub statement : Stmt
    pub has : Contains code statement
    pub is : ended_rule statement ≡ Some rule

  contains_more : (first statement : Stmt) (code : List Stmt) → Contains code statement → Contains (first ∷ code) statement
  contains_more first statement code has = let lt = has.1 in (suc has.0, omega (arith, lt), has.2)

  more : (first : Stmt) (code : List Stmt) → ended_rule first ≡ None → EndsBy code → EndsBy (first ∷ code)
  more first code none ends = record {
    alone = ((λ other is. absurd (cc)), ends.alone);
    statement = ends.statement;
    has = contains_more first ends.statement code ends.has;
    is = ends.is;
  }

  ends_by : (values : List Held) (place : ℕ) (rest : List Stmt) → EndsBy rest → EndsBy (ends_code values place rest)
  ends_by [] place rest h = h
  ends_by (Reg r ∷ values) place rest h = more (End place (suc r)) (ends_code values (suc place) rest) refl (ends_by values (suc place) rest h)
  ends_by (MReg r ∷ values) place rest h = ends_by values (suc place) rest h

  groups_by : (groups : ℕ) (values : List Held) (rest : List Stmt) → EndsBy rest → EndsBy (groups_code groups values rest)
  groups_by zero values rest h = h
  groups_by (suc groups) values rest h = more (Count (suc groups)) (ends_code values 0 rest) refl (ends_by values 0 rest h)

  tag_by : (held : Held) (name : List ℕ) (rest : List Stmt) → EndsBy rest → EndsBy (tag_code held name ∷ rest)
  tag_by (Reg r) name rest h = more (tag_code (Reg r) name) rest refl h
  tag_by (MReg r) name rest h = more (tag_code (MReg r) name) rest refl h

  tags_by : (ending : Ending) (number : ℕ) (names : List (List ℕ)) (values : List Held) (rest : List Stmt) → EndsBy rest
      → EndsBy (tags_code ending number names values rest)
  tags_by ending number [] values rest h = groups_by ending.groups values rest h
  tags_by ending number (name ∷ names) [] rest h = h
  tags_by ending number (name ∷ names) (held ∷ values) rest h = by (is_slash ending.slash number) (tags_by ending (suc number) names values rest h)
    where
      by : (t : Bool) → EndsBy (tags_code ending (suc number) names values rest)
          → EndsBy (unless t (tag_code held name) (tags_code ending (suc number) names values rest))
      by true again = again
      by false again = tag_by held name (tags_code ending (suc number) names values rest) again

  back_by : (o : Option Held) (rest : List Stmt) → EndsBy rest → EndsBy (back_code o rest)
  back_by None rest h = h
  back_by (Some (Reg r)) rest h = more (Back (suc r)) rest refl h
  back_by (Some (MReg r)) rest h = h

  jump_by : (ending : Ending) → EndsBy (Jump (name_or_none ending.goes_to) rule ∷ [])
  jump_by ending = record {
    alone = ((λ other is. cc), tt);
    statement = Jump (name_or_none ending.goes_to) rule;
    has = (0, omega arith, refl);
    is = refl;
  }

  action_by : (ending : Ending) (action : Option (List ℕ)) (forgets : Bool) → EndsBy (action_code rule ending action forgets)
  action_by ending None true = more (Accept 0) (Jump (name_or_none ending.goes_to) rule ∷ []) refl (jump_by ending)
  action_by ending None false = jump_by ending
  action_by ending (Some action) forgets = record {
    alone = ((λ other is. cc), tt);
    statement = Code rule ending.line action;
    has = (0, omega arith, refl);
    is = refl;
  }

  cond_by : (cond : Option (List ℕ)) (rest : List Stmt) → EndsBy rest → EndsBy (cond_code cond rest)
  cond_by None rest h = h
  cond_by (Some cond) rest h = more (Cond cond) rest refl h

  pub ending_by : (endings : ℕ → Ending) (values : List Held) → EndsBy (ending_code endings rule values)
  ending_by endings values =
      tags_by (endings rule) 0 (endings rule).tags values (back_code (slash_held (endings rule).slash values) (last_code endings rule))
      (back_by (slash_held (endings rule).slash values) (last_code endings rule)
      (cond_by (endings rule).goes_to (action_code rule (endings rule) (endings rule).action (endings rule).forgets)
      (action_by (endings rule) (endings rule).action (endings rule).forgets)))
