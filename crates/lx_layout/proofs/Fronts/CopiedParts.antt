-- The copy of a front with the ends of a scanner's own rules is a layout of that scanner.
use Rattle.std.specs.Prelude.{◌≡◌, ℕ, ◌+◌, List, [], ◌∷◌, ◌++◌, map, Option, Some, is_some, length, refl}
use Rattle.std.proofs.Common.{◌∙◌, ap, ap₂, arith, subst, sym}
use Rattle.lx_auto.specs.declared.automaton.Accept.{Accept}
use Rattle.lx_auto.specs.declared.automaton.Auto.{Auto}
use Rattle.lx_ccode.specs.declared.piece.CodeBlock.{CodeBlock}
use Rattle.lx_ccode.specs.declared.piece.Stmt.{Stmt}
use Rattle.lx_layout.specs.Copies.{IsFront, IsLikeFront, back_layout, codes_in, copied_codes, front_layout, given_by, moved_codes}
use Rattle.lx_layout.specs.Endings.{Ending}
use Rattle.lx_layout.specs.Halting.{AreHalting, Halting, ended_accepts}
use Rattle.lx_layout.specs.LaidParts.{ended_at, halting_at, seen_demand, seen_given, trees_at}
use Rattle.lx_layout.specs.Layout.{ending_blocks}
use Rattle.lx_layout.specs.Parts.{Demand, IsPartOf, Part, asked, given_asked, labelled, part_blocks, part_codes, supply_from}
use Rattle.lx_layout.specs.Plans.{unlabelled}
use Rattle.lx_layout.specs.RuleEnds.{endings_of}
use Rattle.lx_layout.specs.SuppliedLayout.{EachReader, end_rule_part, supplied_layout}
use Rattle.lx_layout.specs.Supplies.{Reader, Supply}
use Rattle.lx_dispatch.specs.Dispatch.{AreTestsOf}
use Rattle.lx_dispatch.specs.TestTrees.{TestTree}
use Rattle.lx_layout.specs.declared.copies.Front.{Front}
use Rattle.lx_layout.specs.declared.demands.PartInput.{PartInput}
use Rattle.lx_layout.proofs.Fronts.MovedFronts.{front-moved, supplied-parts}
use Rattle.lx_layout.proofs.Fronts.RenumberedFronts.{front-renumbered}
use Rattle.lx_layout.proofs.Fronts.RenumberedMarks.{asked-renumbered, ended-renumbered, halting-renumbered, trees-renumbered}
use Rattle.lx_layout.proofs.Fronts.SuppliedBehind.{supplies-renumbered}
use Rattle.lx_layout.proofs.Laying.LaidWhole.{trees_planned}
use Rattle.lx_renumber.specs.Renumbered.{renumbered, renumbered_accept}

-- the layout of an automaton with greater numbers of rules, from a block and from a number of a stored state on
pub layout-copied : (demand : Demand) (halting : Halting) (trees : Reader → TestTree (Option ℕ)) (auto : Auto) (end_rule other : Option ℕ)
    → is_some other ≡ is_some end_rule → (endings : ℕ → Ending) (by begin first : ℕ)
    → supplied_layout (supply_from demand other (renumbered by auto) first) halting endings other trees (renumbered by auto) begin
    ≡ moved_codes begin first (front_layout (supply_from demand end_rule auto 0) halting end_rule trees auto 0)
    ++ (ending_blocks endings (map (renumbered_accept by) (ended_accepts halting auto.states)) ++ end_rule_part endings other)
layout-copied demand halting trees auto end_rule other same endings by begin first =
    let supply : Supply = supply_from demand other (renumbered by auto) first in
    let back : List (List Stmt) = back_layout halting endings other (renumbered by auto) in
    let from : begin ≡ 0 + begin = omega arith in
    supplied-parts supply halting endings other trees (renumbered by auto) begin
    ∙ ap (λ l. l ++ back)
    (front-renumbered by supply halting end_rule other same trees auto begin
    ∙ ap (λ n. front_layout supply halting end_rule trees auto n) from
    ∙ front-moved first supply (supply_from demand end_rule auto 0) (supplies-renumbered by demand end_rule other same auto first) halting end_rule
    trees auto 0 begin)
    ∙ ap (λ (l : List Accept). moved_codes begin first (front_layout (supply_from demand end_rule auto 0) halting end_rule trees auto 0)
    ++ (ending_blocks endings l ++ end_rule_part endings other)) (ended-renumbered by auto halting)

module _ (front : Front) (input : PartInput) (by : ℕ) (is : IsFront front) (like : IsLikeFront front input) where
  -- the part of the scanner, with the marks and the trees of the front
  abbrev pub copied_part : Part
  copied_part = record { given = given_by (Some by) (seen_given input); halting = halting_at front.ends.plans; trees = trees_at front.ends.plans }

  pub copied-chosen : IsPartOf input.greatest (given_by (Some by) (seen_given input)) copied_part
  copied-chosen =
      let own = front.ends.plans.input in
      let halting = halting_at front.ends.plans in
      let trees = trees_at front.ends.plans in
      let eof : (seen_demand input.demand).eof ≡ own.demand.eof = ap (λ (d : Demand). d.eof) like.demand in
      let marked = halting-renumbered by own.auto.now own.demand.eof own.end_rule input.end_rule like.end_rule own.greatest halting is.ends.plans.marked in
      let format = own.demand.asking.format in
      let table = own.demand.asking.sets.now.table.items in
      let planned = trees-renumbered by own.auto.now (AreTestsOf format table own.demand.eof own.greatest) own.demand.eof own.greatest trees (trees_planned front.ends.plans is.ends.plans) in
      record {
        is = refl;
        marked =
            subst (λ n. AreHalting n input.end_rule input.greatest (renumbered by input.auto.now) halting) (sym eof)
            (subst (λ n. AreHalting own.demand.eof input.end_rule n (renumbered by input.auto.now) halting) (sym like.greatest)
            (subst (λ (a : Auto). AreHalting own.demand.eof input.end_rule own.greatest (renumbered by a) halting) (sym like.auto) marked));
        format = is.ends.plans.format ∙ ap (λ (d : Demand). d.format) (sym like.demand);
        trees =
            subst (λ (d : Demand). EachReader (AreTestsOf d.format d.table d.eof input.greatest) d.eof input.greatest trees (renumbered by input.auto.now)) (sym like.demand)
            (subst (λ n. EachReader (AreTestsOf format table own.demand.eof n) own.demand.eof n trees (renumbered by input.auto.now)) (sym like.greatest)
            (subst (λ (a : Auto). EachReader (AreTestsOf format table own.demand.eof own.greatest) own.demand.eof own.greatest trees (renumbered by a)) (sym like.auto)
            planned));
      }

  pub copied-codes : (begin first : ℕ) → part_codes copied_part begin first ≡ copied_codes front input by begin first
  copied-codes begin first =
      let own = front.ends.plans.input in
      let demand : Demand = seen_demand own.demand in
      let halting = halting_at front.ends.plans in
      let trees = trees_at front.ends.plans in
      let endings = endings_of input.ends.now in
      let back : List (List Stmt) =
      ending_blocks endings (map (renumbered_accept by) (ended_at front.ends.plans)) ++ end_rule_part endings input.end_rule in
      ap (λ (d : Demand). supplied_layout (supply_from d input.end_rule (renumbered by input.auto.now) first) halting endings input.end_rule trees
      (renumbered by input.auto.now) begin) like.demand
      ∙ ap (λ (a : Auto). supplied_layout (supply_from demand input.end_rule (renumbered by a) first) halting endings input.end_rule trees
      (renumbered by a) begin) like.auto
      ∙ layout-copied demand halting trees own.auto.now own.end_rule input.end_rule like.end_rule endings by begin first
      ∙ ap₂ (λ f b. moved_codes begin first (front_layout (supply_from demand own.end_rule own.auto.now f) halting own.end_rule trees own.auto.now b)
      ++ back) (sym is.first) (sym is.begin)

  pub copied-asked : given_asked (given_by (Some by) (seen_given input)) ≡ front.asked
  copied-asked =
      let own = front.ends.plans.input in
      let demand : Demand = seen_demand own.demand in
      ap (λ (d : Demand). asked d input.end_rule (renumbered by input.auto.now)) like.demand
      ∙ ap (λ (a : Auto). asked demand input.end_rule (renumbered by a)) like.auto
      ∙ asked-renumbered by own.auto.now demand own.end_rule input.end_rule like.end_rule
      ∙ sym is.asked

  -- the copy stands behind other blocks, with its label
  pub copied-laid : (begin first : ℕ) (old new : List CodeBlock) → begin ≡ length old
      → new ≡ old ++ labelled input.cond.now (copied_codes front input by begin first)
      → (part : Part) × IsPartOf input.greatest (given_by (Some by) (seen_given input)) part × (new ≡ old ++ part_blocks part (length old) first)
  copied-laid begin first old new at put = (
    copied_part,
    copied-chosen,
    put ∙ ap (λ l. old ++ labelled input.cond.now l) (sym (copied-codes begin first))
        ∙ ap (λ b. old ++ part_blocks copied_part b first) at,
  )

pub codes_in-unlabelled : (codes : List (List Stmt)) → codes_in (unlabelled codes) ≡ codes
codes_in-unlabelled [] = refl
codes_in-unlabelled (code ∷ codes) = ap (λ l. code ∷ l) (codes_in-unlabelled codes)
