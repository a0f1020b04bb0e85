use Rattle.std.proofs.Common.{◌∙◌, refl, subst, List, arith, rules}
use Rattle.lx_ccode.specs.declared.piece.CodeBlock.{CodeBlock}
use Rattle.lx_step.specs.Tags.{AreTags}
use Rattle.lx_step.proofs.Soundness.{FreshTables, HasTables-fresh, IsLexerOf-fresh, fresh-is}
use Rattle.lx_step.proofs.lexer.Lexer.of.Goals as goal

tables : (c : goal.In_ok-with_capacity) → FreshTables c.args.program.piece.now.blocks c.in_ok-new.field-0 c.in_ok-new-2.field-0
tables c =
    subst (λ (blocks : List CodeBlock). FreshTables blocks c.in_ok-new.field-0 c.in_ok-new-2.field-0) c.as_slice-blocks.ensures
    (HasTables-fresh _ _ _ _ c.list.new.self _ _ c.in_ok-of_blocks.ensures c.in_ok-new.ensures.numbering c.in_ok-new.ensures.registers c.in_ok-new.ensures.histories
    c.in_ok-list.ensures.tags (c.len.ensures ∙ search rules) c.groups_of_blocks.ensures c.in_ok-new-2.ensures)

pub invariant_of-result : goal.invariant_of-result
invariant_of-result c =
    IsLexerOf-fresh _ _ _ _ _ _ _ _ _ c.requires (tables c).tables c.in_ok-new.ensures.cond c.in_ok-new.ensures.state (subst (λ (blocks : List CodeBlock). AreTags blocks c.list.new.self) c.as_slice-blocks.ensures c.in_ok-list.ensures.tags)
    c.in_ok-with_capacity.ensures.empty (let long = c.in_ok-vec.ensures.len in let many = c.len-2.ensures in search (rules, long, many)) (omega (arith, c.in_ok-with_capacity.ensures.spare)) refl

pub returns : goal.returns
returns c = fresh-is c.args.program.piece.now c.in_ok-new.field-0 c.in_ok-new-2.field-0 _ c.in_ok-new.ensures.cursor c.in_ok-new.ensures.cond c.in_ok-new.ensures.state c.in_ok-with_capacity.ensures.empty (tables c)
