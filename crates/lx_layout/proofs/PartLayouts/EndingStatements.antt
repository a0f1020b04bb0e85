-- What holds of each statement of the end of a rule, if it holds of the statements of each sort.
use Rattle.std.specs.Prelude.{◌≡◌, ℕ, zero, suc, ◌+◌, ◌<◌, ◌≤◌, Bool, true, false, List, [], ◌∷◌, length, Option, Some, None, slice_get, refl}
use Rattle.std.proofs.Common.{arith}
use Rattle.std.specs.Bool.{OnFalse}
use Rattle.std.specs.List.{AllByRecursion}
use Rattle.lx_auto.specs.declared.automaton.Held.{Held}
use Rattle.lx_auto.specs.declared.automaton.Held.TheVariants.{Reg, MReg}
use Rattle.lx_ccode.specs.declared.piece.Stmt.{Stmt}
use Rattle.lx_ccode.specs.declared.piece.Stmt.TheVariants.{Back, Count, End}
use Rattle.lx_layout.specs.Endings.{Ending, back_code, ending_code, ends_code, groups_code, is_slash, last_code, slash_held, tag_code, tags_code, unless}

-- each tag from a number on, but that of the trailing context, has a name of some sort
abbrev pub EachTag : (T : List ℕ → Type 0) → (slash : Option ℕ) → (number : ℕ) → (tags : List (List ℕ)) → Type 0
EachTag T slash number [] = Unit {0}
EachTag T slash number (tag ∷ tags) = OnFalse (is_slash slash number) (T tag) × EachTag T slash (suc number) tags

-- Values are held by what is of some sort, tags have names of some sort, and no group has more ends than these.
module _ (Q : Stmt → Type 0) (H : Held → Type 0) (T : List ℕ → Type 0) (most : ℕ) where
  pub record HoldsOfEnds : Type 0 where
    pub tags : (held : Held) (name : List ℕ) → H held → T name → Q (tag_code held name)
    pub ends : (reg place : ℕ) → H (Reg reg) → place < most → Q (End place (suc reg))
    pub backs : (reg : ℕ) → H (Reg reg) → Q (Back (suc reg))

  module _ (holds : HoldsOfEnds) where
    ends_each : (values : List Held) (place : ℕ) (rest : List Stmt) → AllByRecursion H values → place + length values ≤ most → AllByRecursion Q rest
        → AllByRecursion Q (ends_code values place rest)
    ends_each [] place rest held fit h = h
    ends_each (Reg r ∷ values) place rest held fit h =
        (holds.ends r place held.0 (omega (arith, fit)), ends_each values (suc place) rest held.1 (omega (arith, fit)) h)
    ends_each (MReg r ∷ values) place rest held fit h = ends_each values (suc place) rest held.1 (omega (arith, fit)) h

    groups_each : (groups : ℕ) (values : List Held) (rest : List Stmt) → ((n : ℕ) → groups ≡ suc n → Q (Count (suc n))) → AllByRecursion H values
        → length values ≤ most → AllByRecursion Q rest → AllByRecursion Q (groups_code groups values rest)
    groups_each zero values rest counts held fit h = h
    groups_each (suc groups) values rest counts held fit h = (counts groups refl, ends_each values 0 rest held (omega (arith, fit)) h)

    tags_each : (ending : Ending) (number : ℕ) (tags : List (List ℕ)) (values : List Held) (rest : List Stmt)
        → ((n : ℕ) → ending.groups ≡ suc n → Q (Count (suc n))) → EachTag T ending.slash number tags → AllByRecursion H values
        → length values ≤ length tags + most → AllByRecursion Q rest → AllByRecursion Q (tags_code ending number tags values rest)
    tags_each ending number [] values rest counts named held fit h = groups_each ending.groups values rest counts held (omega (arith, fit)) h
    tags_each ending number (name ∷ tags) [] rest counts named held fit h = h
    tags_each ending number (name ∷ tags) (value ∷ values) rest counts named held fit h = by (is_slash ending.slash number) named.0
        (tags_each ending (suc number) tags values rest counts named.1 held.1 (omega (arith, fit)) h)
      where
        by : (t : Bool) → OnFalse t (T name) → AllByRecursion Q (tags_code ending (suc number) tags values rest)
            → AllByRecursion Q (unless t (tag_code value name) (tags_code ending (suc number) tags values rest))
        by true is again = again
        by false is again = (holds.tags value name held.0 is, again)

    abbrev HeldSo : Option Held → Type 0
    HeldSo None = Unit {0}
    HeldSo (Some held) = H held

    value_held : (values : List Held) (number : ℕ) → AllByRecursion H values → HeldSo (slice_get values number)
    value_held [] number held = tt
    value_held (value ∷ values) zero held = held.0
    value_held (value ∷ values) (suc number) held = value_held values number held.1

    slash_is_held : (slash : Option ℕ) (values : List Held) → AllByRecursion H values → HeldSo (slash_held slash values)
    slash_is_held None values held = tt
    slash_is_held (Some number) values held = value_held values number held

    back_each : (o : Option Held) (rest : List Stmt) → HeldSo o → AllByRecursion Q rest → AllByRecursion Q (back_code o rest)
    back_each None rest held h = h
    back_each (Some (Reg r)) rest held h = (holds.backs r held, h)
    back_each (Some (MReg r)) rest held h = h

    pub ending_each : (endings : ℕ → Ending) (rule : ℕ) (values : List Held) → ((n : ℕ) → (endings rule).groups ≡ suc n → Q (Count (suc n)))
        → EachTag T (endings rule).slash 0 (endings rule).tags → AllByRecursion H values → length values ≤ length (endings rule).tags + most
        → AllByRecursion Q (last_code endings rule) → AllByRecursion Q (ending_code endings rule values)
    ending_each endings rule values counts named held fit last =
        tags_each (endings rule) 0 (endings rule).tags values (back_code (slash_held (endings rule).slash values) (last_code endings rule)) counts named
        held fit
        (back_each (slash_held (endings rule).slash values) (last_code endings rule) (slash_is_held (endings rule).slash values held) last)
