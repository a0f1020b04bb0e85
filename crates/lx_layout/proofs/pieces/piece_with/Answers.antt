use Rattle.std.proofs.Common.{◌∙◌, List, Some, ap, refl, sym}
use Rattle.std.specs.List.{list_any}
use Rattle.std.specs.Prelude.{◌&&◌, map}
use Rattle.lx_ccode.specs.Statements.{all_statements, has_register_one}
use Rattle.lx_ccode.specs.declared.piece.CodeBlock.{CodeBlock}
use Rattle.lx_ccode.specs.declared.piece.CondCase.{CondCase}
use Rattle.lx_ccode.specs.declared.piece.Head.{Head}
use Rattle.lx_layout.specs.PieceViews.{seen_form}
use Rattle.lx_layout.specs.Pieces.{head_of}
use Rattle.lx_layout.specs.Switches.{cond_cases}
use Rattle.lx_layout.proofs.Laying.PieceFields.{cases-labels, declares-not}
use Rattle.lx_layout.proofs.pieces.piece_with.Goals as goal

pub returns-clause-fields : goal.returns-clause-fields
returns-clause-fields c =
    let form = seen_form c.args.form in
    let blocks = c.args.laid.blocks.items in
    let same = c.from_vec-3.ensures in
    record {
      number = refl;
      head = ap (λ (head : Head). Some head) (c.head_of-head.ensures ∙ ap (λ (l : List CodeBlock). head_of form l) (c.deref-3.ensures.value ∙ sym same));
      names = refl;
      unit = c.unit_bytes.ensures;
      eof = refl;
      declares = declares-not c.args.form.stores;
      table = λ two. c.from_vec.ensures ∙ c.requires.none two;
      ctx = c.has_context-ctx.ensures
          ∙ ap (λ (l : List CodeBlock). form.context && list_any has_register_one (all_statements l)) (c.deref-4.ensures.value ∙ sym same);
      switches = c.switch_of-states.ensures.has;
      conds_are = ap (λ (l : List CondCase). map (λ (case : CondCase). case.cond) l)
          (c.from_vec-2.ensures ∙ c.in_ok-conds.ensures ∙ ap (λ (l : List CodeBlock). cond_cases 0 l) c.deref-2.ensures.value)
          ∙ cases-labels 0 blocks;
      line = refl;
    }
