-- Lists that do the same leave the same in registers, and what does the same as something that does the same as a third does as that.
use Rattle.std.proofs.Common.{◌≡◌, ℕ, List, Option, Some, None, sym, ap, ◌∙◌}
use Rattle.lx_auto.specs.declared.automaton.Accept.{Accept}
use Rattle.lx_auto.specs.declared.automaton.Held.{Held}
use Rattle.lx_auto.specs.declared.automaton.Held.TheVariants.{Reg, MReg}
use Rattle.lx_auto.specs.declared.ops.Op.{Op}
use Rattle.lx_auto.specs.Bank.{Bank, bank_after, history, read, single}
use Rattle.lx_auto.specs.Effects.{Alters, effect_of_both, value_of}
use Rattle.lx_auto.specs.ToldApart.{AcceptTheSame, DoTheSame}
use Rattle.lx_auto.proofs.EffectLists.{effect_of_both-same}
use Rattle.lx_auto.proofs.Effects.{read-bank_after}

pub DoTheSame-through : (ops middle others : List Op) → DoTheSame ops middle → DoTheSame middle others → DoTheSame ops others
DoTheSame-through ops middle others first second = λ held. first held ∙ second held

pub AcceptTheSame-through : (accept middle other : Option Accept) → AcceptTheSame accept middle → AcceptTheSame middle other
    → AcceptTheSame accept other
AcceptTheSame-through None None None first second = tt
AcceptTheSame-through (Some accept) (Some middle) (Some other) first second = (
  first.0 ∙ second.0,
  first.1 ∙ second.1,
  DoTheSame-through accept.ops middle.ops other.ops first.2 second.2,
)
AcceptTheSame-through (Some accept) None other first second = absurd first
AcceptTheSame-through None (Some middle) other first second = absurd first
AcceptTheSame-through None None (Some other) first second = absurd second
AcceptTheSame-through (Some accept) (Some middle) None first second = absurd second

-- what one list alters the other one does
pub Alters-done : (ops others : List Op) → DoTheSame ops others → (held : Held) → Alters ops held → Alters others held
Alters-done ops others same held alters = λ is. alters (same held ∙ is)

-- two lists, of which each does the same as another one
pub effect_of_both-done : (first second other next : List Op) → DoTheSame first other → DoTheSame second next → (held : Held)
    → effect_of_both other next held ≡ effect_of_both first second held
effect_of_both-done first second other next leaves edges held =
    effect_of_both-same first second other next held (sym (edges held)) (λ middle reads. sym (leaves middle))

single-inner : (value other : Option ℕ) → single value ≡ single other → value ≡ other
single-inner value other same = cc same

history-inner : (value other : List (Option ℕ)) → history value ≡ history other → value ≡ other
history-inner value other same = cc same

-- registers hold the same behind both lists
pub bank_after-done : (offset : ℕ) (ops others : List Op) (bank : Bank) → DoTheSame ops others
    → bank_after offset ops bank ≡ bank_after offset others bank
bank_after-done offset ops others bank same =
    let ours = bank_after offset ops bank in
    let theirs = bank_after offset others bank in
    let alike : (held : Held) → read ours held ≡ read theirs held = λ held.
    read-bank_after offset bank ops held ∙ ap (value_of offset bank) (same held) ∙ sym (read-bank_after offset bank others held) in
    λ i. record {
      regs = λ reg. single-inner (ours.regs reg) (theirs.regs reg) (alike (Reg reg)) i;
      mregs = λ mreg. history-inner (ours.mregs mreg) (theirs.mregs mreg) (alike (MReg mreg)) i;
    }
