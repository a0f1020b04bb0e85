use Rattle.std.proofs.Common.{◌≡◌, ◌↔◌, ◌+◌, ◌∙◌, ℕ, List, drop, get_or, sym, subst}
use Rattle.std.proofs.lemmas.List.{drop_more}
use Rattle.std.proofs.Math.ListN.{drop_of_length-le}
use Rattle.std.specs.Ordering.{nat_cmp}
use Rattle.std.specs.BTreeMap.{get}
use Rattle.lx_ccode.specs.declared.piece.StateCase.{StateCase}
use Rattle.lx_ccode.specs.States.{block_of}
use Rattle.lx_ccode.specs.Validity.{AreAscending}
use Rattle.lx_creader.proofs.StateLists.{AreAscending-drop, no_entries, takes_next}
use Rattle.lx_creader.proofs.states.are_those_of.Goals as goal

pub loop-case-preserved : goal.loop-case-preserved
loop-case-preserved c =
    let cases = c.args.cases.now in
    let i = c.loop-case.case-index in
    let none : StateCase = record { state = 0; block = 0 } in
    let case = get_or cases i none in
    let cons = drop_more cases i none c.loop-case-test.true in
    let before = get nat_cmp c.loop-case.map in
    let next = takes_next case (drop (i + 1) cases) before (get nat_cmp c.remove-found.new.self)
    (subst (λ (l : List StateCase). AreAscending l) cons (AreAscending-drop i cases c.requires))
    (sym c.remove-found.ensures.value ∙ c.is_block.ensures.0 c.if-not-is_block.false) c.remove-found.ensures.updates.0 in
    let same = subst (λ (l : List StateCase). ((s : ℕ) → block_of l s ≡ before s) ↔ ((s : ℕ) → block_of cases s ≡ get nat_cmp c.args.map s)) cons c.loop-case.invariant in
    (λ rest. same.0 (next.0 rest), λ all. next.1 (same.1 all))

pub returns : goal.returns
returns c =
    let none = drop_of_length-le c.args.cases.now {i = c.loop-case.case-index} c.loop-case-test.false in
    let same = subst (λ (l : List StateCase). ((s : ℕ) → block_of l s ≡ get nat_cmp c.loop-case.map s) ↔ ((s : ℕ) → block_of c.args.cases.now s ≡ get nat_cmp c.args.map s)) none c.loop-case.invariant in
    let empty = no_entries c.loop-case.map.entries in
    (λ is. same.0 (empty.0 (c.is_empty.ensures.0 is)), λ all. c.is_empty.ensures.1 (empty.1 (same.1 all)))
