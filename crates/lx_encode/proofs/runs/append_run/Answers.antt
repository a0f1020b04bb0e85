use Rattle.std.proofs.Common.{◌≡◌, ◌<◌, ◌⊎◌, ◌↔◌, [], ◌∷◌, ◌++◌, sym, ◌∙◌, ap, subst, arith}
use Rattle.std.proofs.lemmas.List.{nil_from_length}
use Rattle.lx_encode.specs.Runs.{LeadsTo, IsRow}
use Rattle.lx_encode.proofs.RunLists.{LeadsTo-append}
use Rattle.lx_encode.proofs.Rows.{IsRow-joined, IsRow-last, IsRow-push, LeadsTo-joined, leads_last, joined_run, StayApart}
use Rattle.lx_encode.proofs.runs.append_run.Goals as goal
use Rattle.lx_encode.proofs.runs.append_run.Goals.{In_ok-push-3, in-Some+else-last-run+in_ok-push-2, else-last-run-via-then-last-run+else-last-run-2, else-last-run-via-else-last-run, in_default}

pub overflow_add-last : goal.overflow_add-last
overflow_add-last c =
    let last = IsRow-last c.pop.new.self.items c.in-Some.last (subst (λ l. IsRow l) c.in-Some.ensures.items c.requires.row) in omega arith

pub returns-then-last-run-2-clause-row : goal.returns-then-last-run-2-clause-row
returns-then-last-run-2-clause-row c =
    let front = c.pop.new.self.items in
    let row = subst (λ l. IsRow l) c.in-Some.ensures.items c.requires.row in
    subst (λ l. IsRow l) (sym c.in_ok-push.ensures.items)
    (IsRow-joined front c.in-Some.last c.args.run c.if-last-run-2.true (omega arith) c.requires.bounded row)

pub returns-then-last-run-2-clause-leads : goal.returns-then-last-run-2-clause-leads
returns-then-last-run-2-clause-leads c = λ number target.
    let front = c.pop.new.self.items in
    let last = IsRow-last front c.in-Some.last (subst (λ l. IsRow l) c.in-Some.ensures.items c.requires.row) in
    subst (λ l. LeadsTo l number target ↔ (LeadsTo c.args.row.now.items number target ⊎ LeadsTo (c.args.run ∷ []) number target)) (sym c.in_ok-push.ensures.items)
    (subst (λ l. LeadsTo (front ++ joined_run c.in-Some.last c.args.run ∷ []) number target ↔ (LeadsTo l number target ⊎ LeadsTo (c.args.run ∷ []) number target)) (sym c.in-Some.ensures.items)
    (LeadsTo-joined front c.in-Some.last c.args.run number target c.if-last-run-2.true c.if-last-run.true last.0 c.requires.ordered))

-- what was popped and is pushed again stays there
same_items : (c : In_ok-push-3) → c.match-pop.row.items ≡ c.args.row.now.items
same_items c = elim c.match-pop.branch [
  | in-Some+else-last-run+in_ok-push-2 w ↦ ap (λ v. v.items) w.row-is ∙ w.in_ok-push-2.ensures.items ∙ sym w.in-Some.ensures.items
  | in_default w ↦
      let none : c.pop.new.self.items ≡ [] = nil_from_length c.pop.new.self.items (omega (arith, w.in_default.ensures.cases.1, c.pop.new.self.ok.0)) in
      ap (λ v. v.items) w.row-is ∙ none ∙ sym (w.in_default.ensures.items ∙ ap (λ l. l ++ []) none)
]

pub returns-clause-row : goal.returns-clause-row
returns-clause-row c =
    let run = c.args.run in
    let front = c.pop.new.self.items in
    subst (λ l. IsRow l) (sym c.in_ok-push-3.ensures.items) (elim c.match-pop.branch [
      | in-Some+else-last-run+in_ok-push-2 w ↦
          let last = w.in-Some.last in
          let row : IsRow (front ++ last ∷ []) = subst (λ l. IsRow l) w.in-Some.ensures.items c.requires.row in
          let past : last.hi < run.lo =
          c.requires.behind last.hi last.to (subst (λ l. LeadsTo l last.hi last.to) (sym w.in-Some.ensures.items) (leads_last front last (IsRow-last front last row).0)) in
          let apart : StayApart last run = λ touch same. elim w.else-last-run.branch [
            | else-last-run-via-then-last-run+else-last-run-2 w' ↦ w'.if-last-run-2.false same
            | else-last-run-via-else-last-run w' ↦ w'.if-last-run.false touch
          ] in
          subst (λ l. IsRow (l ++ run ∷ [])) (sym (same_items c ∙ w.in-Some.ensures.items))
          (IsRow-push front last run apart past c.requires.ordered c.requires.bounded row)
      | in_default w ↦
          let none : c.pop.new.self.items ≡ [] = nil_from_length c.pop.new.self.items (omega (arith, w.in_default.ensures.cases.1, c.pop.new.self.ok.0)) in
          subst (λ l. IsRow (l ++ run ∷ [])) (sym (ap (λ v. v.items) w.row-is ∙ none)) (c.requires.ordered, c.requires.bounded, tt)
    ])

pub returns-clause-leads : goal.returns-clause-leads
returns-clause-leads c = λ number target.
    let run = c.args.run in
    subst (λ l. LeadsTo l number target ↔ (LeadsTo c.args.row.now.items number target ⊎ LeadsTo (run ∷ []) number target)) (sym (c.in_ok-push-3.ensures.items ∙ ap (λ l. l ++ run ∷ []) (same_items c)))
    (LeadsTo-append c.args.row.now.items (run ∷ []) number target)
