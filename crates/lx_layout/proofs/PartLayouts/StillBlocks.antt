-- The blocks of a layout to which units do not lead read no unit and pass none.
use Rattle.std.specs.Prelude.{◌≡◌, ℕ, true, false, List, [], ◌++◌, Option, refl}
use Rattle.std.proofs.lemmas.Bool.{false≢true}
use Rattle.std.specs.List.{AllByRecursion, list_any}
use Rattle.lx_auto.specs.declared.automaton.Accept.{Accept}
use Rattle.lx_auto.specs.declared.automaton.Auto.{Auto}
use Rattle.lx_ccode.specs.Statements.{is_reading}
use Rattle.lx_ccode.specs.declared.piece.Stmt.{Stmt}
use Rattle.lx_ccode.specs.declared.piece.Stmt.TheVariants.{IfEnd, Peek, Skip}
use Rattle.lx_layout.specs.Endings.{Ending}
use Rattle.lx_layout.specs.Halting.{Halting, ended_accepts, saved_accepts}
use Rattle.lx_layout.specs.Layout.{ending_blocks, lone_blocks, restore_blocks}
use Rattle.lx_layout.specs.SuppliedLayout.{end_rule_part, fallback_part}
use Rattle.lx_layout.proofs.PartLayouts.CalmBlocks.{accept_any, accepts_any}
use Rattle.lx_layout.proofs.PartLayouts.PlainBlocks.{HoldsOfPlain, plain-lone, plain-rest}
use Rattle.lx_layout.proofs.SuppliedLayouts.CommonCodes.{is_common, none-accept, none-ending, none-fallback}

abbrev Still : List Stmt → Type 0
Still code = list_any is_reading code ≡ false

others_read : (statement : Stmt) → is_common statement ≡ true → is_reading statement ≡ false
others_read Peek e = absurd (false≢true e)
others_read Skip e = absurd (false≢true e)
others_read (IfEnd block) e = absurd (false≢true e)
others_read _ e = refl

module _ (halting : Halting) (endings : ℕ → Ending) (auto : Auto) where
  still_plain : HoldsOfPlain Still (λ saved. Unit {0}) (λ given edge. ⊥) (λ accept. Unit {0}) (λ rule. Unit {0}) halting endings auto
  still_plain = record {
    jumps = λ block. refl;
    edges = λ given saved block edge any none. absurd none;
    accepts = λ accept block any. none-accept is_reading others_read auto accept.ops block;
    choices = λ leaves choices any. none-fallback is_reading others_read leaves choices;
    restores = λ block. refl;
    ends = λ accept any. none-ending is_reading others_read endings accept.rule accept.values;
    end_rule = λ rule any. none-ending is_reading others_read endings rule [];
  }

  pub still_lone : (rules : ℕ → ℕ) (fall number : ℕ) (o : Option Accept) → AllByRecursion Still (lone_blocks auto rules fall number o)
  still_lone rules fall number o =
      plain-lone Still (λ saved. Unit {0}) (λ given edge. ⊥) (λ accept. Unit {0}) (λ rule. Unit {0}) halting endings auto still_plain rules fall number o
      (accept_any o)

  pub still_rest : (rules : ℕ → ℕ) (first : ℕ) (end_rule : Option ℕ)
      → AllByRecursion Still (fallback_part halting auto first
      ++ (restore_blocks rules (saved_accepts halting auto.states) ++ (ending_blocks endings (ended_accepts halting auto.states) ++ end_rule_part endings end_rule)))
  still_rest rules first end_rule =
      plain-rest Still (λ saved. Unit {0}) (λ given edge. ⊥) (λ accept. Unit {0}) (λ rule. Unit {0}) halting endings auto still_plain rules first end_rule
      (λ saved le. tt) (accepts_any auto.states) (λ rule is. tt)
