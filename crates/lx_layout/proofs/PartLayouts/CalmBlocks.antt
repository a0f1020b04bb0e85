-- The blocks of a layout that read no unit store no state and ask for no refill.
use Rattle.std.specs.Prelude.{◌≡◌, ℕ, suc, ◌+◌, Bool, true, false, List, [], ◌∷◌, ◌++◌, length, Option, Some, None, refl}
use Rattle.std.proofs.Common.{arith}
use Rattle.std.specs.Bool.{OnFalse}
use Rattle.std.specs.List.{AllByRecursion}
use Rattle.lx_auto.specs.declared.automaton.Accept.{Accept}
use Rattle.lx_auto.specs.declared.automaton.Auto.{Auto}
use Rattle.lx_auto.specs.declared.automaton.Edge.{Edge}
use Rattle.lx_auto.specs.declared.automaton.Held.{Held}
use Rattle.lx_auto.specs.declared.automaton.Held.TheVariants.{Reg, MReg}
use Rattle.lx_auto.specs.declared.automaton.State.{State}
use Rattle.lx_auto.specs.declared.ops.Op.{Op}
use Rattle.lx_auto.specs.declared.ops.Op.TheVariants.{Here, Null, Copy, MHere, MNull, MCopy}
use Rattle.lx_ccode.specs.Counts.{is_peek}
use Rattle.lx_ccode.specs.Statements.{is_need, is_try, state_of}
use Rattle.lx_ccode.specs.declared.piece.Stmt.{Stmt}
use Rattle.lx_sequence.specs.ParallelCopies.{sequentialized}
use Rattle.lx_layout.specs.Codes.{op_code}
use Rattle.lx_layout.specs.Endings.{Ending, action_code, cond_code, ending_code, is_slash, last_code, tag_code}
use Rattle.lx_layout.specs.Halting.{Halting, ended_accepts, saved_accepts}
use Rattle.lx_layout.specs.Layout.{end_blocks, ending_blocks, lone_blocks, restore_blocks}
use Rattle.lx_layout.specs.SuppliedLayout.{class_blocks, end_rule_part, fallback_part}
use Rattle.lx_dispatch.specs.TestTrees.{Question, TestTree, fork, leaf, switch, test}
use Rattle.lx_layout.specs.TreeCodes.{asks, inner_blocks, inner_size, tree_code}
use Rattle.lx_layout.proofs.BlockLayouts.Questions.{any_question}
use Rattle.lx_layout.proofs.PartLayouts.EndingStatements.{EachTag, HoldsOfEnds, ending_each}
use Rattle.lx_layout.proofs.PartLayouts.PlainBlocks.{HoldsOfPlain, OfAccept, OfAccepts, plain-classes, plain-end, plain-lone, plain-rest, kept_number-of}
use Rattle.lx_layout.proofs.PartLayouts.StatementSorts.{PlainStatements, plain_statements}
use Rattle.lx_layout.proofs.Validity.EachElement.{each-append}

-- it stores nothing, asks for nothing and reads nothing
pub record IsCalm (statement : Stmt) : Type 0 where
  pub state : state_of statement ≡ None
  pub need : is_need statement ≡ false
  pub try : is_try statement ≡ false
  pub peek : is_peek statement ≡ false

abbrev pub Calm : List Stmt → Type 0
Calm code = AllByRecursion IsCalm code

calm : {statement : Stmt} → state_of statement ≡ None → is_need statement ≡ false → is_try statement ≡ false → is_peek statement ≡ false
    → IsCalm statement
calm a b c d = record { state = a; need = b; try = c; peek = d }

-- nothing is asked
pub all_any : {A : Type 0} (xs : List A) → AllByRecursion (λ x. Unit {0}) xs
all_any [] = tt
all_any (x ∷ xs) = (tt, all_any xs)

pub accept_any : (o : Option Accept) → OfAccept (λ accept. Unit {0}) o
accept_any None = tt
accept_any (Some accept) = tt

pub accepts_any : (states : List State) → OfAccepts (λ accept. Unit {0}) states
accepts_any [] = tt
accepts_any (given ∷ states) = (accept_any given.accept, accepts_any states)

-- ---- tests

calm_question : (question : Question) (block : ℕ) → IsCalm (asks question block)
calm_question question block =
    any_question IsCalm block (λ greatest. calm refl refl refl refl) (λ unit. calm refl refl refl refl) (λ set. calm refl refl refl refl) question

pub calm_tree : (next : ℕ) (tree : TestTree ℕ) → Calm (tree_code next tree)
calm_tree next (leaf block) = (calm refl refl refl refl, tt)
calm_tree next (test question block high) = (calm_question question block, calm_tree next high)
calm_tree next (fork question low high) = (calm_question question next, calm_tree (suc next + inner_size low) high)
calm_tree next (switch cases last) = (calm refl refl refl refl, tt)

pub calm_inner : (next : ℕ) (tree : TestTree ℕ) → AllByRecursion Calm (inner_blocks next tree)
calm_inner next (leaf block) = tt
calm_inner next (switch cases last) = tt
calm_inner next (test question block high) = calm_inner next high
calm_inner next (fork question low high) = (
  calm_tree (suc next) low,
  each-append Calm (inner_blocks (suc next) low) (inner_blocks (suc next + inner_size low) high) (calm_inner (suc next) low)
      (calm_inner (suc next + inner_size low) high),
)

-- ---- operations and ends

pub calm_op : (op : Op) → IsCalm (op_code op)
calm_op (Here r) = calm refl refl refl refl
calm_op (Null r) = calm refl refl refl refl
calm_op (Copy r s) = calm refl refl refl refl
calm_op (MHere r) = calm refl refl refl refl
calm_op (MNull r) = calm refl refl refl refl
calm_op (MCopy r s) = calm refl refl refl refl

calm_ops : (ops : List Op) → AllByRecursion (λ op. IsCalm (op_code op)) ops
calm_ops [] = tt
calm_ops (op ∷ ops) = (calm_op op, calm_ops ops)

calm_tag : (held : Held) (name : List ℕ) → IsCalm (tag_code held name)
calm_tag (Reg r) name = calm refl refl refl refl
calm_tag (MReg r) name = calm refl refl refl refl

calm_ends : (most : ℕ) → HoldsOfEnds IsCalm (λ held. Unit {0}) (λ name. Unit {0}) most
calm_ends most = record {
  tags = λ held name is any. calm_tag held name;
  ends = λ reg place is lt. calm refl refl refl refl;
  backs = λ reg is. calm refl refl refl refl;
}

tags_any : (slash : Option ℕ) (number : ℕ) (tags : List (List ℕ)) → EachTag (λ name. Unit {0}) slash number tags
tags_any slash number [] = tt
tags_any slash number (tag ∷ tags) = (by (is_slash slash number), tags_any slash (suc number) tags)
  where
    by : (t : Bool) → OnFalse t (Unit {0})
    by true = tt
    by false = tt

held_any : (values : List Held) → AllByRecursion (λ held. Unit {0}) values
held_any [] = tt
held_any (value ∷ values) = (tt, held_any values)

calm_last : (endings : ℕ → Ending) (rule : ℕ) → Calm (last_code endings rule)
calm_last endings rule = by (endings rule).goes_to
  where
    acts : (action : Option (List ℕ)) (forgets : Bool) → Calm (action_code rule (endings rule) action forgets)
    acts None true = (calm refl refl refl refl, (calm refl refl refl refl, tt))
    acts None false = (calm refl refl refl refl, tt)
    acts (Some action) forgets = (calm refl refl refl refl, tt)

    by : (cond : Option (List ℕ)) → Calm (cond_code cond (action_code rule (endings rule) (endings rule).action (endings rule).forgets))
    by None = acts (endings rule).action (endings rule).forgets
    by (Some cond) = (calm refl refl refl refl, acts (endings rule).action (endings rule).forgets)

pub calm_ending : (endings : ℕ → Ending) (rule : ℕ) (values : List Held) → Calm (ending_code endings rule values)
calm_ending endings rule values =
    ending_each IsCalm (λ held. Unit {0}) (λ name. Unit {0}) (length values) (calm_ends (length values)) endings rule values
    (λ n is. calm refl refl refl refl) (tags_any (endings rule).slash 0 (endings rule).tags) (held_any values) (omega arith) (calm_last endings rule)

-- ---- all that reads no unit

module _ (halting : Halting) (endings : ℕ → Ending) (auto : Auto) where
  pub calm_sorts : PlainStatements IsCalm (λ saved. Unit {0}) halting endings auto
  calm_sorts = record {
    goes = λ block. calm refl refl refl refl;
    skips = calm refl refl refl refl;
    backs_up = calm refl refl refl refl;
    restores = calm refl refl refl refl;
    leaves = calm refl refl refl refl;
    saves = λ saved is. calm refl refl refl refl;
    chooses = λ saved block is. calm refl refl refl refl;
  }

  pub calm_plain : HoldsOfPlain Calm (λ saved. Unit {0}) (λ given edge. Unit {0}) (λ accept. Unit {0}) (λ rule. Unit {0}) halting endings auto
  calm_plain =
      let all = plain_statements IsCalm (λ saved. Unit {0}) halting endings auto calm_sorts in
      record {
        jumps = all.jumps;
        edges = λ given saved block edge is any.
            all.edges given saved block edge is
            (calm_ops (sequentialized auto.regs auto.mregs given.leave), calm_ops (sequentialized auto.regs auto.mregs edge.ops));
        accepts = λ accept block any.
            all.accepts accept block
            (calm_ops (sequentialized auto.regs auto.mregs accept.ops), calm_ending endings accept.rule accept.values);
        choices = all.choices;
        restores = all.restores;
        ends = λ accept any. calm_ending endings accept.rule accept.values;
        end_rule = λ rule any. calm_ending endings rule [];
      }

  pub calm_lone : (rules : ℕ → ℕ) (fall number : ℕ) (o : Option Accept) → AllByRecursion Calm (lone_blocks auto rules fall number o)
  calm_lone rules fall number o =
      plain-lone Calm (λ saved. Unit {0}) (λ given edge. Unit {0}) (λ accept. Unit {0}) (λ rule. Unit {0}) halting endings auto calm_plain rules fall number o
      (accept_any o)

  pub calm_end : (rules : ℕ → ℕ) (fall : ℕ) (o : Option Accept) → AllByRecursion Calm (end_blocks auto rules fall o)
  calm_end rules fall o =
      plain-end Calm (λ saved. Unit {0}) (λ given edge. Unit {0}) (λ accept. Unit {0}) (λ rule. Unit {0}) halting endings auto calm_plain rules fall o
      (accept_any o)

  pub calm_classes : (saved : List Accept) (place : ℕ → ℕ) (given : State) (classes : List Edge)
      → AllByRecursion Calm (class_blocks halting auto saved place given classes)
  calm_classes saved place given classes =
      plain-classes Calm (λ saved. Unit {0}) (λ given edge. Unit {0}) (λ accept. Unit {0}) (λ rule. Unit {0}) halting endings auto calm_plain saved place
      given classes (kept_number-of (λ saved. Unit {0}) halting saved given.accept tt) (all_any classes)

  pub calm_rest : (rules : ℕ → ℕ) (first : ℕ) (end_rule : Option ℕ)
      → AllByRecursion Calm (fallback_part halting auto first
      ++ (restore_blocks rules (saved_accepts halting auto.states) ++ (ending_blocks endings (ended_accepts halting auto.states) ++ end_rule_part endings end_rule)))
  calm_rest rules first end_rule =
      plain-rest Calm (λ saved. Unit {0}) (λ given edge. Unit {0}) (λ accept. Unit {0}) (λ rule. Unit {0}) halting endings auto calm_plain rules first end_rule
      (λ saved le. tt) (accepts_any auto.states) (λ rule is. tt)
