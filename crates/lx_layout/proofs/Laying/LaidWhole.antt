-- The blocks of a scanner as a whole are those of a part.
use Rattle.std.specs.Prelude.{◌≡◌, ℕ, suc, ◌+◌, ◌<◌, List, [], ◌∷◌, ◌++◌, length, Option, Some, slice_index_or, slice_set, refl}
use Rattle.std.proofs.Common.{sym, ap, ◌∙◌, append_assoc, arith, subst}
use Rattle.lx_auto.specs.Automaton.{state_of}
use Rattle.lx_auto.specs.declared.automaton.State.{State}
use Rattle.lx_ccode.specs.declared.piece.CodeBlock.{CodeBlock}
use Rattle.lx_ccode.specs.declared.piece.Stmt.{Stmt}
use Rattle.lx_layout.specs.LaidParts.{ArePlans, AreStatePlans, codes_at, halting_at, planned_states, seen_demand, seen_given, trees_at, trees_of}
use Rattle.lx_layout.specs.Parts.{IsPartOf, Part, labelled, part_blocks, supply_from}
use Rattle.lx_layout.specs.Plans.{unlabelled}
use Rattle.lx_layout.specs.RuleEnds.{endings_of}
use Rattle.lx_layout.specs.SuppliedLayout.{EachReader, EachState, supplied_layout}
use Rattle.lx_layout.specs.Supplies.{Reader, entry, state}
use Rattle.lx_base.specs.declared.settings.Format.{Format}
use Rattle.lx_dispatch.specs.Dispatch.{AreTestsOf}
use Rattle.lx_dispatch.specs.TestTrees.{TestTree}
use Rattle.lx_dispatch.specs.UnitApart.{reader_split}
use Rattle.lx_layout.specs.declared.demands.PartInput.{PartInput}
use Rattle.lx_layout.specs.declared.state_plans.PartPlans.{PartPlans}
use Rattle.lx_layout.specs.declared.state_plans.StatePlan.{StatePlan}
use Rattle.lx_layout.proofs.BlockLayouts.BlockLoops.{unlabelled-append}
use Rattle.lx_layout.proofs.Laying.Planned.{states_length}

-- ---- a label

labelled-here : (front : List CodeBlock) (codes : List (List Stmt)) (block : CodeBlock) (name : List ℕ)
    → length front < length (front ++ unlabelled codes) → block ≡ slice_index_or (front ++ unlabelled codes) (length front) block
    → slice_set (front ++ unlabelled codes) (length front) (record { cond = Some name; stmts = block.stmts }) ≡ front ++ labelled (Some name) codes
labelled-here [] [] block name within is = absurd (omega (arith, within))
labelled-here [] (code ∷ codes) block name within is =
    ap (λ (b : CodeBlock). record { cond = Some name; stmts = b.stmts } ∷ unlabelled codes) is
labelled-here (first ∷ front) codes block name within is =
    ap (λ l. first ∷ l) (labelled-here front codes block name (omega (arith, within)) is)

pub labelled-set : (blocks front : List CodeBlock) (codes : List (List Stmt)) (begin : ℕ) (block : CodeBlock) (name : List ℕ)
    → blocks ≡ front ++ unlabelled codes → begin ≡ length front → begin < length blocks → block ≡ slice_index_or blocks begin block
    → slice_set blocks begin (record { cond = Some name; stmts = block.stmts }) ≡ front ++ labelled (Some name) codes
labelled-set blocks front codes begin block name put at within is =
    ap (λ (l : List CodeBlock). slice_set l begin (record { cond = Some name; stmts = block.stmts })) put
    ∙ ap (λ n. slice_set (front ++ unlabelled codes) n (record { cond = Some name; stmts = block.stmts })) at
    ∙ labelled-here front codes block name
    (subst (λ n. n < length (front ++ unlabelled codes)) at (subst (λ (l : List CodeBlock). begin < length l) put within))
    (subst (λ n. block ≡ slice_index_or (front ++ unlabelled codes) n block) at (subst (λ (l : List CodeBlock). block ≡ slice_index_or l begin block) put is))

-- ---- parts, one behind another

pub unlabelled-more : (front : List CodeBlock) (codes more : List (List Stmt))
    → (front ++ unlabelled codes) ++ unlabelled more ≡ front ++ unlabelled (codes ++ more)
unlabelled-more front codes more =
    append_assoc front (unlabelled codes) (unlabelled more) ∙ ap (λ l. front ++ l) (sym (unlabelled-append codes more))

pub unlabelled-parts : (front : List CodeBlock) (first states fallback restores : List (List Stmt))
    → (((front ++ unlabelled first) ++ unlabelled states) ++ unlabelled fallback) ++ unlabelled restores
    ≡ front ++ unlabelled (first ++ (states ++ (fallback ++ restores)))
unlabelled-parts front first states fallback restores =
    let begun : List CodeBlock = front ++ unlabelled first in
    unlabelled-more (begun ++ unlabelled states) fallback restores
    ∙ unlabelled-more begun states (fallback ++ restores)
    ∙ unlabelled-more front first (states ++ (fallback ++ restores))

-- ---- the trees

planned_from : (format : Format) (table : List ℕ) (eof : Option ℕ) (greatest number : ℕ) (trees : Reader → TestTree (Option ℕ)) (plans : List StatePlan)
    → ((n : ℕ) → trees (state (number + n)) ≡ trees_of plans (state n)) → AreStatePlans format table eof greatest plans
    → EachState (AreTestsOf format table eof greatest) eof greatest trees number (planned_states plans)
planned_from format table eof greatest number trees [] same are = tt
planned_from format table eof greatest number trees (plan ∷ plans) same are =
    let here : number ≡ number + 0 = omega arith in (
      subst (λ tree. AreTestsOf format table eof greatest (reader_split eof greatest plan.state.now.edges) tree) (sym (ap (λ n. trees (state n)) here ∙ same 0)) are.0.tests,
      planned_from format table eof greatest (suc number) trees plans
          (λ n. let next : suc number + n ≡ number + suc n = omega arith in ap (λ k. trees (state k)) next ∙ same (suc n)) are.1,
    )

entry_planned : (format : Format) (table : List ℕ) (eof : Option ℕ) (greatest : ℕ) (plans : List StatePlan) → AreStatePlans format table eof greatest plans → 0 < length plans
    → AreTestsOf format table eof greatest (reader_split eof greatest (state_of (planned_states plans) 0).edges) (trees_of plans entry)
entry_planned format table eof greatest [] are some = absurd (omega (arith, some))
entry_planned format table eof greatest (plan ∷ plans) are some = are.0.tests

module _ (plans : PartPlans) (are : ArePlans plans) where
  pub trees_planned : EachReader (AreTestsOf plans.input.demand.asking.format plans.input.demand.asking.sets.now.table.items plans.input.demand.eof plans.input.greatest)
      plans.input.demand.eof plans.input.greatest (trees_at plans) plans.input.auto.now
  trees_planned =
      let format = plans.input.demand.asking.format in
      let table = plans.input.demand.asking.sets.now.table.items in
      let eof = plans.input.demand.eof in
      let greatest = plans.input.greatest in
      let long = states_length plans are in
      let trees = planned_from format table eof greatest 0 (trees_at plans) plans.states.items
      (λ n. let same : 0 + n ≡ n = omega arith in ap (λ k. trees_at plans (state k)) same) are.planned in
      let first = entry_planned format table eof greatest plans.states.items are.planned (omega (arith, long, are.formed.start)) in
      record {
        states = subst (λ (l : List State). EachState (AreTestsOf format table eof greatest) eof greatest (trees_at plans) 0 l) are.states trees;
        entry = subst (λ (l : List State). AreTestsOf format table eof greatest (reader_split eof greatest (state_of l 0).edges) (trees_at plans entry)) are.states first;
      }

  pub part_laid : (input : PartInput) → plans.input ≡ input → (begin first : ℕ) → plans.begin ≡ begin → plans.first ≡ first
      → (old new : List CodeBlock) → new ≡ old ++ labelled input.cond.now (codes_at plans)
      → (part : Part) × IsPartOf input.greatest (seen_given input) part × (new ≡ old ++ part_blocks part begin first)
  part_laid input is begin first begin_is first_is old new put = (
    record { given = seen_given input; halting = halting_at plans; trees = trees_at plans },
    subst (λ (i : PartInput). IsPartOf i.greatest (seen_given i) (record { given = seen_given i; halting = halting_at plans; trees = trees_at plans })) is
        (record { is = refl; marked = are.marked; format = are.format; trees = trees_planned }),
    put ∙ ap (λ (i : PartInput). old ++ labelled input.cond.now (codes i plans.begin plans.first)) is
        ∙ ap (λ b. old ++ labelled input.cond.now (codes input b plans.first)) begin_is
        ∙ ap (λ f. old ++ labelled input.cond.now (codes input begin f)) first_is,
  )
    where
      codes : PartInput → (begin first : ℕ) → List (List Stmt)
      codes i begin first =
          supplied_layout (supply_from (seen_demand i.demand) i.end_rule i.auto.now first) (halting_at plans) (endings_of i.ends.now) i.end_rule
          (trees_at plans) i.auto.now begin
