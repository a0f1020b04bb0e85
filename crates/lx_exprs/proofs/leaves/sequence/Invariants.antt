use Rattle.std.proofs.Common.{◌≡◌, [], map, sum, take}
use Rattle.lx_regex.specs.Expr.{size_of, term_of}
use Rattle.lx_regex.specs.Kinds.{joined, kinds_of}
use Rattle.lx_token.specs.declared.characters.Character.{Character}
use Rattle.lx_exprs.specs.Meanings.{character_set, set_term}
use Rattle.lx_exprs.proofs.leaves.sequence.Given as goal

abbrev pub invariant-loop-character : goal.invariant-loop-character
invariant-loop-character l = record {
  terms :
      map (term_of 0) l.members.items
      ≡ map (λ (character : Character). set_term (character_set l.policy l.is_caseless character.point)) (take l.character-index l.characters);
  sizes : sum (map size_of l.members.items) ≡ l.character-index;
  kinds : joined (map kinds_of l.members.items) ≡ [];
}
