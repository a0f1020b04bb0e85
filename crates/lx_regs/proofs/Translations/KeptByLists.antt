-- Where all lists are kept by the names of registers, so are the edges of an automaton.
use Rattle.std.proofs.Common.{◌≡◌, ℕ, ◌+◌, ◌*◌, ◌<◌, Bool, true, false, List, [], ◌∷◌, ◌++◌, get_or, None, nat_eq, if◌then◌else◌, refl, sym, ap, ap₂, ◌∙◌}
use Rattle.indexmap.specs.IndexMap.{get}
use Rattle.lx_auto.specs.declared.automaton.Auto.{Auto}
use Rattle.lx_auto.specs.declared.automaton.Held.{Held}
use Rattle.lx_auto.specs.declared.automaton.Held.TheVariants.{Reg, MReg}
use Rattle.lx_auto.specs.declared.ops.Op.{Op}
use Rattle.lx_auto.specs.declared.ops.Op.TheVariants.{Here, Null, Copy, MHere, MNull, MCopy}
use Rattle.lx_auto.specs.Automaton.{AreOps, IsHeld}
use Rattle.lx_auto.specs.Effects.{Effect, here, nothing, held_by, history_of, effect_after, effect_behind, effect_of, effect_of_both, effect_upon, marks_by, origin_after, Reads, renamed_effect}
use Rattle.lx_regs.specs.ListRenamings.{IsKept, IsListKept, IsRenaming, names_by}
use Rattle.lx_regs.specs.NameTables.{fixed_names, names_at}
use Rattle.lx_regs.specs.OrderedOps.{Ascend}
use Rattle.lx_regs.specs.Tested.{KeepsEffect}
use Rattle.lx_regs.specs.declared.list_renaming.ListRenaming.{ListRenaming}
use Rattle.lx_regs.specs.declared.name_tables.NameTable.{NameTable}
use Rattle.lx_regs.proofs.LiveRegisters.HeldBounds.{read-held}
use Rattle.lx_regs.proofs.Translations.KeptLists.{IsKept-all}
use Rattle.lx_regs.proofs.Translations.OrderedOps.{marks_by-ascending, origin_after-ascending}
use Rattle.lx_regs.proofs.Translations.TestedTranslations.{first_name-fixed}

-- ---- registers have no history

abbrev IsSingle : Effect → Type 0
IsSingle here = Unit {0}
IsSingle nothing = Unit {0}
IsSingle (held_by reg) = Unit {0}
IsSingle (history_of mreg marks) = ⊥

IsSingle-either : (b : Bool) (effect other : Effect) → IsSingle effect → IsSingle other → IsSingle (if b then effect else other)
IsSingle-either true effect other one rest = one
IsSingle-either false effect other one rest = rest

IsSingle-behind : (op : Op) (reg : ℕ) (effect : Effect) → IsSingle effect → IsSingle (effect_behind op reg effect)
IsSingle-behind (Here target) reg effect single = IsSingle-either (nat_eq reg target) here effect tt single
IsSingle-behind (Null target) reg effect single = IsSingle-either (nat_eq reg target) nothing effect tt single
IsSingle-behind (Copy target source) reg effect single = IsSingle-either (nat_eq reg target) (held_by source) effect tt single
IsSingle-behind (MHere target) reg effect single = single
IsSingle-behind (MNull target) reg effect single = single
IsSingle-behind (MCopy target source) reg effect single = single

IsSingle-after : (ops : List Op) (reg : ℕ) (effect : Effect) → IsSingle effect → IsSingle (effect_after ops reg effect)
IsSingle-after [] reg effect single = single
IsSingle-after (op ∷ ops) reg effect single = IsSingle-after ops reg (effect_behind op reg effect) (IsSingle-behind op reg effect single)

-- ---- m-registers stay

both-untouched : (first second : List Op) (mreg : ℕ) → Ascend first → Ascend second
    → effect_of_both first second (MReg mreg) ≡ history_of mreg []
both-untouched first second mreg order also =
    ap₂ (λ origin marks. history_of (origin_after first origin origin) (marks_by first origin ++ marks)) (origin_after-ascending second mreg also)
    (marks_by-ascending second mreg also)
    ∙ ap₂ (λ origin marks. history_of origin (marks ++ [])) (origin_after-ascending first mreg order) (marks_by-ascending first mreg order)

module _ (given : Auto) (table : NameTable) (renaming : ListRenaming) (is : IsRenaming given table renaming) where
  abbrev names : List ℕ
  names = renaming.names.items

  -- the names at each state
  named-at : (state reg : ℕ) → reg < given.regs → (names_at table state).regs reg ≡ get_or names reg reg
  named-at state reg within =
      first_name-fixed (get nat_eq table.fixed_regs reg) (get nat_eq table.regs (state * 4294967296 + reg)) None reg (is.fixed reg within).0
      ∙ (is.fixed reg within).1

  history-named : (state mreg : ℕ) → mreg < given.mregs → (names_at table state).mregs mreg ≡ (fixed_names table).mregs mreg
  history-named state mreg within =
      first_name-fixed (get nat_eq table.fixed_mregs mreg) (get nat_eq table.mregs (state * 4294967296 + mreg)) None mreg
      (is.histories mreg within)

  -- an effect on a register, by either names
  effect-named : (state : ℕ) (effect : Effect) → IsSingle effect
      → ((held : Held) → Reads effect held → IsHeld given.regs given.mregs held)
      → renamed_effect (names_by names) effect ≡ renamed_effect (names_at table state) effect
  effect-named state here single reads = refl
  effect-named state nothing single reads = refl
  effect-named state (held_by reg) single reads = ap held_by (sym (named-at state reg (reads (Reg reg) refl)))
  effect-named state (history_of mreg marks) single reads = absurd single

  module _ (state to : ℕ) (leave new_leave ops new_ops : List Op) (allowed : AreOps given.regs given.mregs leave)
      (also : AreOps given.regs given.mregs ops) (kept_leave : IsListKept names renaming.members.items leave new_leave)
      (kept : IsListKept names renaming.members.items ops new_ops) where
    kept-at : (first second : List Op) → IsListKept names renaming.members.items first second → (reg : ℕ) → reg < given.regs
        → IsKept names first second reg
    kept-at first second are reg within =
        IsKept-all names renaming.members.items given.regs is.count is.members first second are reg within (is.fixed reg within).2

    -- an effect upon what is done on leaving the state
    upon-kept : (effect : Effect) → IsSingle effect → ((held : Held) → Reads effect held → IsHeld given.regs given.mregs held)
        → effect_upon new_leave (renamed_effect (names_by names) effect) ≡ renamed_effect (names_at table state) (effect_upon leave effect)
    upon-kept here single reads = refl
    upon-kept nothing single reads = refl
    upon-kept (held_by reg) single reads =
        let within : reg < given.regs = reads (Reg reg) refl in
        kept-at leave new_leave kept_leave reg within
        ∙ effect-named state (effect_of leave (Reg reg)) (IsSingle-after leave reg (held_by reg) tt)
        (read-held given.regs given.mregs leave (Reg reg) allowed within)
    upon-kept (history_of mreg marks) single reads = absurd single

    pub KeepsEffect-lists : (held : Held) → IsHeld given.regs given.mregs held → KeepsEffect table state to leave ops new_leave new_ops held
    KeepsEffect-lists (Reg reg) within =
        ap (λ name. effect_upon new_leave (effect_of new_ops (Reg name))) (named-at to reg within)
        ∙ ap (effect_upon new_leave) (kept-at ops new_ops kept reg within)
        ∙ upon-kept (effect_of ops (Reg reg)) (IsSingle-after ops reg (held_by reg) tt)
        (read-held given.regs given.mregs ops (Reg reg) also within)
    KeepsEffect-lists (MReg mreg) within =
        both-untouched new_leave new_ops ((names_at table to).mregs mreg) kept_leave.also kept.also
        ∙ ap (λ name. history_of name []) (history-named to mreg within ∙ sym (history-named state mreg within))
        ∙ sym (ap (renamed_effect (names_at table state)) (both-untouched leave ops mreg kept_leave.order kept.order))
