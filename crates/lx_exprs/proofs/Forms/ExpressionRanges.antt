-- The expressions of a block, which stand in ranges of its tokens.
use Rattle.std.proofs.Common.{◌≡◌, Bool, ℕ, ◌+◌, ◌⊎◌, arith, List, [], ◌∷◌, ◌++◌, drop, length, Some, false, Result, Ok, Err, sym, ap, ap₂, ◌∙◌, subst, ⊎_elim, length-append}
use Rattle.std.proofs.Math.Seq.{drop-append_seam}
use Rattle.std.proofs.lemmas.List.{drop-drop, drop-map, length-drop, length-map}
use Rattle.lx_base.specs.declared.faults.Fault.{Fault}
use Rattle.lx_base.specs.declared.faults.Stop.{Stop}
use Rattle.lx_base.specs.declared.faults.Stop.TheVariants as stop
use Rattle.lx_base.specs.declared.settings.Options.{Options}
use Rattle.lx_parse.specs.Expressions.{alt}
use Rattle.lx_parse.specs.Ranges.{IsPart}
use Rattle.lx_exprs.specs.declared.expressions.Operands.{Operands as Held}
use Rattle.lx_exprs.specs.declared.expressions.Reading.{Reading}
use Rattle.lx_exprs.specs.declared.operands.Operand.{Operand}
use Rattle.lx_exprs.specs.declared.values.Room.{Room}
use Rattle.lx_exprs.specs.Checks.{Checks, StopsAt, are_groups}
use Rattle.lx_exprs.specs.Defined.{Before, Definition, Meaning, and_more, count_of, nothing}
use Rattle.lx_forms.specs.Forms.{Form, IsForm}
use Rattle.lx_exprs.specs.Expressions.{ChecksBehind, IsExpression}
use Rattle.lx_exprs.specs.Expressions.{IsRead, IsReadBehind}
use Rattle.lx_forms.specs.Lexemes.{Lexeme, sort_at, sorts_at}
use Rattle.lx_exprs.specs.Reading.{AreInOrder, AreOperands, AreTaken, AreValues, Goes, Operands, StopsReading, operands_behind, with_more}
use Rattle.lx_exprs.specs.Operands.{IsOperand}
use Rattle.lx_exprs.specs.Values.{IsValue}
use Rattle.lx_forms.specs.Steps.{Step, steps_of}
use Rattle.lx_exprs.proofs.Forms.ExpressionSteps.{reversed}
use Rattle.lx_forms.proofs.FormReading.{HasForm, reads_form}
use Rattle.lx_exprs.proofs.Forms.FormRuns.{IsFormRead, form_goes}
use Rattle.lx_forms.proofs.OneForm.{form_front}
use Rattle.lx_exprs.proofs.Forms.StepOrder.{steps_in_order}

-- a part of an expression is a form
pub part_form : (options : Options) (lexemes : List Lexeme) (from until : ℕ) → IsPart (sorts_at lexemes) alt from until
    → (form : Form) × IsExpression options lexemes from until form
part_form options lexemes from until part =
    of (reads_form alt (drop from (sorts_at lexemes)) (drop until (sorts_at lexemes)) part.reads (drop from lexemes) (drop-map sort_at from lexemes))
  where
    of : HasForm alt (drop from lexemes) (drop until (sorts_at lexemes)) → (form : Form) × IsExpression options lexemes from until form
    of read =
        let front = form_front read.3 in
        let sorted = ap length (sym read.2 ∙ drop-map sort_at until lexemes) in
        let long = length-map read.0 sort_at in let short = length-map (drop until lexemes) sort_at in let whole = length-map lexemes sort_at in
        let both = ap length front.1 ∙ length-append front.0 read.0 in let behind = length-drop from lexemes in let last = length-drop until lexemes in
        let order = part.in_order in let within = part.within in
        let place : from + length front.0 ≡ until = omega (arith, sorted, long, short, whole, both, behind, last, order, within) in
        let rest : read.0 ≡ drop until lexemes =
        sym (drop-append_seam front.0 read.0) ∙ ap (drop (length front.0)) (sym front.1) ∙ drop-drop (length front.0) from lexemes
        ∙ ap (λ n. drop n lexemes) place in
        (read.1, subst (λ r. IsForm alt (drop from lexemes) r read.1) rest read.3)

-- the steps as they are found are those under the options
pub steps_are : {lexemes rest : List Lexeme} {steps : List Step} (options : Options) (definitions : List Definition) (found : Bool)
    → found ≡ are_groups options definitions
    → ((form : Form) → IsForm alt lexemes rest form → steps ≡ steps_of found false form)
    → (form : Form) → IsForm alt lexemes rest form → steps ≡ steps_of (are_groups options definitions) false form
steps_are {lexemes} {rest} {steps} options definitions found same are =
    subst (λ b. (form : Form) → IsForm alt lexemes rest form → steps ≡ steps_of b false form) same are

-- the steps of the expression that stands from one place up to another
module _ (options : Options) (definitions : List Definition) (lexemes : List Lexeme) (from until : ℕ) (part : IsPart (sorts_at lexemes) alt from until)
    (steps : List Step)
    (are : (form : Form) → IsForm alt (drop from lexemes) (drop until lexemes) form → steps ≡ steps_of (are_groups options definitions) false form) where
  pub part_in_order : AreInOrder 0 steps
  part_in_order =
      let stands = part_form options lexemes from until part in
      subst (AreInOrder 0) (sym (are stands.0 stands.1)) (steps_in_order (are_groups options definitions) false stands.0)

  module _ (before : Before) where
    goes_so : (form : Form) → IsExpression options lexemes from until form → (result : Result Operands Fault)
        → Goes options definitions (operands_behind before) steps result
        → ((fault : Fault) × (result ≡ Err fault) × Checks options definitions false before.tags form (Some fault))
        ⊎ ((meaning : Meaning) × (result ≡ Ok (with_more (operands_behind before) meaning)) × IsFormRead options definitions false before form meaning)
    goes_so form stands result goes =
        form_goes options definitions before form result (subst (λ l. Goes options definitions (operands_behind before) l result) (are form stands) goes)

    -- a fault of theirs is one of the expression
    pub part_stops : (stopped : Stop) → StopsReading options definitions (operands_behind before) steps stopped
        → StopsAt (ChecksBehind options lexemes definitions before.tags from until) stopped
    part_stops stop.Memory stops = tt
    part_stops (stop.Fault fault) goes =
        let stands = part_form options lexemes from until part in
        ⊎_elim
        (λ found.
        let same : fault ≡ found.0 = cc in
        (stands.0, stands.1, subst (λ f. Checks options definitions false before.tags stands.0 (Some f)) (sym same) found.2))
        (λ read. absurd (let h : Err fault ≡ Ok (with_more (operands_behind before) read.0) = read.1 in cc))
        (goes_so stands.0 stands.1 (Err fault) goes)

    -- and where they are taken, the expression is read
    pub part_read : (room : Room) (held : Held) (front : List Operand) (last : Operand) (reading : Reading)
        → AreTaken options definitions room (operands_behind before) steps held
        → held.values.items ≡ front ++ last ∷ [] → reading.tags ≡ held.seen
        → ((meaning : Meaning) → IsOperand room meaning last → IsValue room meaning reading.value)
        → IsReadBehind options lexemes definitions room before from until reading
    part_read room held front last reading taken values tags settled =
        let stands = part_form options lexemes from until part in
        ⊎_elim
        (λ found. absurd (let h : Ok taken.after ≡ Err found.0 = found.1 in cc))
        (λ read.
        let after : taken.after ≡ with_more (operands_behind before) read.0 = cc in
        let operands = subst (λ (o : Operands). AreOperands room o held) after taken.stands in
        let is = subst (AreValues room (read.0 ∷ [])) (reversed front held.values.items last values) operands.values in
        let count = read.2.count ∙ ap₂ (λ tags groups. count_of (and_more before tags groups)) (sym read.2.tags) (sym read.2.groups) in
        record {
          form = stands.0;
          stands_there = stands.1;
          checked = read.2.checked;
          meaning = read.0;
          means = read.2.means;
          stands = record { value = settled read.0 is.0; tags = tags ∙ operands.tags; count = count };
        })
        (goes_so stands.0 stands.1 (Ok taken.after) taken.goes)

-- what is read behind nothing is read
pub read_first : (options : Options) (lexemes : List Lexeme) (definitions : List Definition) (room : Room) (from until : ℕ) (reading : Reading)
    → IsReadBehind options lexemes definitions room nothing from until reading → IsRead options lexemes definitions room from until reading
read_first options lexemes definitions room from until reading read = record {
  form = read.form;
  stands_there = read.stands_there;
  checked = read.checked;
  meaning = read.meaning;
  means = read.means;
  stands = record { value = read.stands.value; tags = read.stands.tags; count = let count = read.stands.count in omega (arith, count) };
}
