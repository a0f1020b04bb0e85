use Rattle.std.proofs.Common.{IfOk, List, OnOk, Result, Ok, Err, subst}
use Rattle.std.specs.List.{AllZip}
use Rattle.lx_auto.specs.declared.automaton.State.{State}
use Rattle.lx_min.specs.Numbers.{IsLook}
use Rattle.lx_min.proofs.NumberedLooks.{AreLooks-numbered}
use Rattle.lx_min.proofs.looks.looks_of.Goals as goal

-- what follows from a fact on an answer, and from another one where there is an answer
IfOk-then : {A E : Type 0} (P Q : A → Type 0) (Holds : Type 0) (result : Result A E) → ((answer : A) → P answer → Holds → Q answer)
    → IfOk result P → OnOk result Holds → IfOk result Q
IfOk-then P Q Holds (Ok answer) step fact holds = step answer fact holds
IfOk-then P Q Holds (Err error) step fact holds = tt

pub returns : goal.returns
returns c =
    let numbers = c.looks_in.new.numbers in
    IfOk-then _ _ _ c.looks_in.result
    (λ looks are distinct.
    AreLooks-numbered c.args.auto.now looks.items numbers.lists numbers.accepts distinct.0 distinct.1
    (subst (λ (states : List State). AllZip (IsLook numbers.lists numbers.accepts) states looks.items) c.as_slice.ensures are))
    c.looks_in.ensures.looks c.looks_in.ensures.distinct
