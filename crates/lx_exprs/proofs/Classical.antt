-- What cannot fail to hold. Excluded middle is free there: a proof may take cases by any fact.
use Rattle.std.proofs.Common.{◌⊎◌, inl, inr}

-- it cannot be that the fact does not hold
abbrev pub Surely : Type 0 → Type 0
Surely Fact = (Fact → ⊥) → ⊥

-- a fact that holds
pub surely : {Fact : Type 0} → Fact → Surely Fact
surely fact fails = fails fact

-- what follows from such a fact
pub and_then : {Fact Next : Type 0} → Surely Fact → (Fact → Surely Next) → Surely Next
and_then sure follows fails = sure (λ fact. follows fact fails)

pub excluded_middle : (Fact : Type 0) → Surely (Fact ⊎ (Fact → ⊥))
excluded_middle Fact fails = fails (inr (λ fact. fails (inl fact)))
