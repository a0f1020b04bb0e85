-- Layouts in which what was kept is forgotten before jumps are those of the same scanners, with other ends of rules.
use Rattle.std.specs.Prelude.{◌≡◌, ℕ, suc, ◌+◌, true, false, List, [], ◌∷◌, ◌++◌, length, map, Option, Some, None, refl}
use Rattle.std.proofs.Common.{sym, ap, ap₂, ◌∙◌, subst, true≢false}
use Rattle.std.proofs.lemmas.List.{length-map, map-append}
use Rattle.std.specs.List.{AllByRecursion}
use Rattle.lx_auto.specs.Automaton.{IsAuto}
use Rattle.lx_auto.specs.declared.automaton.Accept.{Accept}
use Rattle.lx_auto.specs.declared.automaton.Auto.{Auto}
use Rattle.lx_auto.specs.declared.automaton.Held.{Held}
use Rattle.lx_ccode.specs.declared.piece.CodeBlock.{CodeBlock}
use Rattle.lx_ccode.specs.declared.piece.Stmt.{Stmt}
use Rattle.lx_ccode.specs.declared.piece.Stmt.TheVariants.{Code, Jump}
use Rattle.lx_layout.specs.Copies.{back_layout, front_layout}
use Rattle.lx_layout.specs.Endings.{Ending, action_code, back_code, cond_code, ending_code, is_slash, name_or_none, slash_held, tag_code, tags_code, unless}
use Rattle.lx_layout.specs.Forgetting.{forgetting, forgetting_block, forgetting_by, is_jump}
use Rattle.lx_layout.specs.FormedParts.{AreFormed, IsFormed}
use Rattle.lx_layout.specs.Halting.{Halting, ended_accepts}
use Rattle.lx_layout.specs.Layout.{ending_blocks}
use Rattle.lx_layout.specs.Parts.{Part, given_asked, given_supply, labelled, part_blocks, part_codes, parts_blocks}
use Rattle.lx_layout.specs.Plans.{unlabelled}
use Rattle.lx_layout.specs.SuppliedLayout.{EachReader, end_rule_part, supplied_layout}
use Rattle.lx_layout.specs.Supplies.{Reader, Supply}
use Rattle.lx_dispatch.specs.TestTrees.{TestTree}
use Rattle.lx_layout.proofs.Fronts.MovedFronts.{supplied-parts}
use Rattle.lx_layout.proofs.Jumps.ForgettingCodes.{forgetting-append, forgetting-none, jumps_none}
use Rattle.lx_layout.proofs.Rules.EndCodes.{ending_code-parts}
use Rattle.lx_layout.proofs.ScannerLaws.InnerCodes.{acting, acts, inner_acts, sorts_ok}
use Rattle.lx_layout.proofs.SuppliedLayouts.HeldLayouts.{each_from-all, layout_any}
use Rattle.lx_layout.proofs.Validity.EachElement.{each-front}
use Rattle.lx_layout.proofs.PartLayouts.ClosedParts.{part_leads}
use Rattle.lx_layout.proofs.SuppliedLayouts.LeadingTrees.{LeadsWithin}

-- ---- the end of a rule

-- the ending, where what was kept is forgotten
abbrev forgetful : Ending → Ending
forgetful ending = record ending { forgets = true }

tags_code-forgetful : (ending : Ending) (number : ℕ) (names : List (List ℕ)) (values : List Held) (rest : List Stmt)
    → tags_code (record ending { forgets = true }) number names values rest ≡ tags_code ending number names values rest
tags_code-forgetful ending number [] values rest = refl
tags_code-forgetful ending number (name ∷ names) [] rest = refl
tags_code-forgetful ending number (name ∷ names) (held ∷ values) rest =
    ap (λ l. unless (is_slash ending.slash number) (tag_code held name) l) (tags_code-forgetful ending (suc number) names values rest)

ending_code-forgetful : (ending : Ending) (rule : ℕ) (values : List Held) → ending.forgets ≡ false
    → ending_code (λ (number : ℕ). record ending { forgets = true }) rule values ≡ forgetting (ending_code (λ (number : ℕ). ending) rule values)
ending_code-forgetful ending rule values keeps =
    sym (ending_code-parts (forgetful ending) rule values)
    ∙ ap (λ l. ((l ++ back_code (slash_held ending.slash values) []) ++ cond_code ending.goes_to [])
    ++ action_code rule (forgetful ending) ending.action true) (tags_code-forgetful ending 0 ending.tags values [])
    ∙ last ending.action
    ∙ ap (λ t. forgetting (front ++ action_code rule ending ending.action t)) (sym keeps)
    ∙ ap forgetting (ending_code-parts ending rule values)
  where
    front : List Stmt
    front = (tags_code ending 0 ending.tags values [] ++ back_code (slash_held ending.slash values) []) ++ cond_code ending.goes_to []

    last : (action : Option (List ℕ))
        → front ++ action_code rule (forgetful ending) action true ≡ forgetting (front ++ action_code rule ending action false)
    last None = sym (forgetting-append front (Jump (name_or_none ending.goes_to) rule) [])
    last (Some action) = sym (forgetting-append front (Code rule ending.line action) [])

-- no ending forgets yet
abbrev pub AllKeep : (endings : ℕ → Ending) → Type 0
AllKeep endings = (rule : ℕ) → (endings rule).forgets ≡ false

module _ (endings : ℕ → Ending) (keeps : AllKeep endings) where
  ending_blocks-forgetting : (accepts : List Accept)
      → ending_blocks (forgetting_by true endings) accepts ≡ map forgetting (ending_blocks endings accepts)
  ending_blocks-forgetting [] = refl
  ending_blocks-forgetting (accept ∷ accepts) =
      ap₂ (λ code codes. code ∷ codes) (ending_code-forgetful (endings accept.rule) accept.rule accept.values (keeps accept.rule))
      (ending_blocks-forgetting accepts)

  end_rule_part-forgetting : (end_rule : Option ℕ)
      → end_rule_part (forgetting_by true endings) end_rule ≡ map forgetting (end_rule_part endings end_rule)
  end_rule_part-forgetting None = refl
  end_rule_part-forgetting (Some rule) = ap (λ code. code ∷ []) (ending_code-forgetful (endings rule) rule [] (keeps rule))

  back_layout-forgetting : (halting : Halting) (end_rule : Option ℕ) (auto : Auto)
      → back_layout halting (forgetting_by true endings) end_rule auto ≡ map forgetting (back_layout halting endings end_rule auto)
  back_layout-forgetting halting end_rule auto =
      ap₂ (λ a b. a ++ b) (ending_blocks-forgetting (ended_accepts halting auto.states)) (end_rule_part-forgetting end_rule)
      ∙ sym (map-append forgetting (ending_blocks endings (ended_accepts halting auto.states)) (end_rule_part endings end_rule))

-- ---- a layout: nothing before the ends of rules is a jump

acts_on : (statement : Stmt) → acts statement ≡ true → is_jump statement ≡ false
acts_on (Jump cond rule) e = absurd (true≢false (sym e))
acts_on statement e = refl

no_jumps : (code : List Stmt) → AllByRecursion (λ statement. acts statement ≡ true) code
    → AllByRecursion (λ statement. is_jump statement ≡ false) code
no_jumps [] h = tt
no_jumps (statement ∷ code) h = (acts_on statement h.0, no_jumps code h.1)

forgetting-acts : (codes : List (List Stmt)) → AllByRecursion (λ code. AllByRecursion (λ statement. acts statement ≡ true) code) codes
    → map forgetting codes ≡ codes
forgetting-acts [] h = refl
forgetting-acts (code ∷ codes) h =
    ap₂ (λ one all. one ∷ all) (forgetting-none code (jumps_none code (no_jumps code h.0))) (forgetting-acts codes h.1)

module _ (supply : Supply) (halting : Halting) (end_rule : Option ℕ) (greatest : ℕ) (trees : Reader → TestTree (Option ℕ)) (auto : Auto) (begin : ℕ)
    (formed : IsAuto auto) (are : EachReader LeadsWithin supply.eof greatest trees auto) where
  abbrev front : List (List Stmt)
  front = front_layout supply halting end_rule trees auto begin

  front_acts : AllByRecursion (λ code. AllByRecursion (λ statement. acts statement ≡ true) code) (front_layout supply halting end_rule trees auto begin)
  front_acts =
      each-front (λ code. AllByRecursion (λ statement. acts statement ≡ true) code) (front_layout supply halting end_rule trees auto begin)
      (back_layout halting acting end_rule auto)
      (subst (λ l. AllByRecursion (λ code. AllByRecursion (λ statement. acts statement ≡ true) code) l)
      (supplied-parts supply halting acting end_rule trees auto begin)
      (each_from-all (λ code. AllByRecursion (λ statement. acts statement ≡ true) code) begin (supplied_layout supply halting acting end_rule trees auto begin)
      (layout_any (λ at code. AllByRecursion (λ statement. acts statement ≡ true) code) (λ reader at. Unit {0}) (λ units. Unit {0}) supply halting acting auto
      (sorts_ok acts inner_acts supply halting acting auto (λ rule. (refl, tt)) (λ accept. (refl, tt))) end_rule greatest trees begin formed are (λ s. tt)
      (λ s lt entered some. tt) (λ rule is. tt))))

  pub layout-forgetting : (endings : ℕ → Ending) → AllKeep endings
      → supplied_layout supply halting (forgetting_by true endings) end_rule trees auto begin
      ≡ map forgetting (supplied_layout supply halting endings end_rule trees auto begin)
  layout-forgetting endings keeps =
      supplied-parts supply halting (forgetting_by true endings) end_rule trees auto begin
      ∙ ap₂ (λ a b. a ++ b) (sym (forgetting-acts (front_layout supply halting end_rule trees auto begin) front_acts))
      (back_layout-forgetting endings keeps halting end_rule auto)
      ∙ sym (map-append forgetting (front_layout supply halting end_rule trees auto begin) (back_layout halting endings end_rule auto))
      ∙ ap (λ l. map forgetting l) (sym (supplied-parts supply halting endings end_rule trees auto begin))

-- ---- scanners one behind another

-- the scanner, where what was kept is forgotten
abbrev pub forgetful_part : Part → Part
forgetful_part part = record part { given = record part.given { endings = forgetting_by true part.given.endings } }

-- no part forgets yet
abbrev pub AllPartsKeep : List Part → Type 0
AllPartsKeep parts = AllByRecursion (λ (part : Part). AllKeep part.given.endings) parts

part_codes-forgetting : (greatest begin first : ℕ) (part : Part) → IsFormed greatest part → AllKeep part.given.endings
    → part_codes (forgetful_part part) begin first ≡ map forgetting (part_codes part begin first)
part_codes-forgetting greatest begin first part formed keeps =
    layout-forgetting (given_supply part.given first) part.halting part.given.end_rule greatest part.trees part.given.auto begin formed.auto
    (part_leads greatest part formed)
    part.given.endings keeps

unlabelled-forgetting : (codes : List (List Stmt)) → unlabelled (map forgetting codes) ≡ map forgetting_block (unlabelled codes)
unlabelled-forgetting [] = refl
unlabelled-forgetting (code ∷ codes) =
    ap (λ (blocks : List CodeBlock). record { cond = None; stmts = forgetting code } ∷ blocks) (unlabelled-forgetting codes)

labelled-forgetting : (cond : Option (List ℕ)) (codes : List (List Stmt))
    → labelled cond (map forgetting codes) ≡ map forgetting_block (labelled cond codes)
labelled-forgetting cond [] = refl
labelled-forgetting cond (code ∷ codes) =
    ap (λ (blocks : List CodeBlock). record { cond = cond; stmts = forgetting code } ∷ blocks) (unlabelled-forgetting codes)

pub parts_blocks-forgetting : (greatest begin first : ℕ) (parts : List Part) → AreFormed greatest parts → AllPartsKeep parts
    → parts_blocks begin first (map forgetful_part parts) ≡ map forgetting_block (parts_blocks begin first parts)
parts_blocks-forgetting greatest begin first [] formed keep = refl
parts_blocks-forgetting greatest begin first (part ∷ parts) formed keep =
    let codes = part_codes-forgetting greatest begin first part formed.0 keep.0 in
    let count : length (part_codes (forgetful_part part) begin first) ≡ length (part_codes part begin first) =
    ap (λ l. length l) codes ∙ length-map (part_codes part begin first) forgetting in
    ap₂ (λ a b. a ++ b)
    (ap (λ l. labelled part.given.cond l) codes ∙ labelled-forgetting part.given.cond (part_codes part begin first))
    (ap (λ n. parts_blocks (begin + n) (first + given_asked part.given) (map forgetful_part parts)) count
    ∙ parts_blocks-forgetting greatest (begin + length (part_codes part begin first)) (first + given_asked part.given) parts formed.1 keep.1)
    ∙ sym (map-append forgetting_block (part_blocks part begin first)
    (parts_blocks (begin + length (part_codes part begin first)) (first + given_asked part.given) parts))
