-- The statements of the end of a rule, part by part.
use Rattle.std.specs.Prelude.{◌≡◌, ℕ, zero, suc, ◌≤◌, List, [], ◌∷◌, ◌++◌, Option, Some, None, IfSome, Bool, true, false, slice_get}
use Rattle.std.proofs.Common.{refl, ap, sym, ◌∙◌, arith, append_assoc}
use Rattle.lx_auto.specs.Automaton.{AreHeld, IsHeld}
use Rattle.lx_auto.specs.declared.automaton.Held.{Held}
use Rattle.lx_auto.specs.declared.automaton.Held.TheVariants.{Reg, MReg}
use Rattle.lx_ccode.specs.declared.piece.Stmt.{Stmt}
use Rattle.lx_layout.specs.Endings.{Ending, back_code, end_code, ends_code, groups_code, is_slash, slash_held, tag_code, tags_code, unless}

ends_code-append : (values : List Held) (place : ℕ) (rest : List Stmt) → ends_code values place rest ≡ ends_code values place [] ++ rest
ends_code-append [] place rest = refl
ends_code-append (Reg reg ∷ values) place rest = ap (λ l. end_code (Reg reg) place l) (ends_code-append values (suc place) rest)
ends_code-append (MReg mreg ∷ values) place rest = ends_code-append values (suc place) rest

groups_code-append : (groups : ℕ) (values : List Held) (rest : List Stmt) → groups_code groups values rest ≡ groups_code groups values [] ++ rest
groups_code-append zero values rest = refl
groups_code-append (suc groups) values rest = ap (λ l. groups_code (suc groups) [] [] ++ l) (ends_code-append values 0 rest)

unless-append : (skips : Bool) (stmt : Stmt) (front rest : List Stmt) → unless skips stmt (front ++ rest) ≡ unless skips stmt front ++ rest
unless-append true stmt front rest = refl
unless-append false stmt front rest = refl

tags_code-append : (ending : Ending) (number : ℕ) (names : List (List ℕ)) (values : List Held) (rest : List Stmt)
    → tags_code ending number names values rest ≡ tags_code ending number names values [] ++ rest
tags_code-append ending number [] values rest = groups_code-append ending.groups values rest
tags_code-append ending number (name ∷ names) [] rest = refl
tags_code-append ending number (name ∷ names) (held ∷ values) rest =
    ap (λ l. unless (is_slash ending.slash number) (tag_code held name) l) (tags_code-append ending (suc number) names values rest)
    ∙ unless-append (is_slash ending.slash number) (tag_code held name) (tags_code ending (suc number) names values []) rest

back_code-append : (held : Option Held) (rest : List Stmt) → back_code held rest ≡ back_code held [] ++ rest
back_code-append None rest = refl
back_code-append (Some (Reg reg)) rest = refl
back_code-append (Some (MReg mreg)) rest = refl

pub rule_code-parts : (ending : Ending) (names : List (List ℕ)) (values : List Held) (held : Option Held) (rest : List Stmt)
    → (tags_code ending 0 names values [] ++ back_code held []) ++ rest ≡ tags_code ending 0 names values (back_code held rest)
rule_code-parts ending names values held rest =
    append_assoc (tags_code ending 0 names values []) (back_code held []) rest
    ∙ ap (λ l. tags_code ending 0 names values [] ++ l) (sym (back_code-append held rest))
    ∙ sym (tags_code-append ending 0 names values (back_code held rest))

-- ---- what holds values

held_at : (regs mregs : ℕ) (values : List Held) (number : ℕ) → AreHeld regs mregs values → IfSome (slice_get values number) (IsHeld regs mregs)
held_at regs mregs [] number h = tt
held_at regs mregs (held ∷ values) zero h = h.0
held_at regs mregs (held ∷ values) (suc number) h = held_at regs mregs values number h.1

pub slash_held-held : (regs mregs : ℕ) (slash : Option ℕ) (values : List Held) → AreHeld regs mregs values
    → IfSome (slash_held slash values) (IsHeld regs mregs)
slash_held-held regs mregs None values h = tt
slash_held-held regs mregs (Some number) values h = held_at regs mregs values number h

IsHeld-more : (regs mregs bound : ℕ) (held : Held) → regs ≤ bound → mregs ≤ bound → IsHeld regs mregs held → IsHeld bound bound held
IsHeld-more regs mregs bound (Reg reg) le mle h = omega (arith, h, le)
IsHeld-more regs mregs bound (MReg mreg) le mle h = omega (arith, h, mle)

pub AreHeld-more : (regs mregs bound : ℕ) (values : List Held) → regs ≤ bound → mregs ≤ bound → AreHeld regs mregs values
    → AreHeld bound bound values
AreHeld-more regs mregs bound [] le mle h = tt
AreHeld-more regs mregs bound (held ∷ values) le mle h =
    (IsHeld-more regs mregs bound held le mle h.0, AreHeld-more regs mregs bound values le mle h.1)
