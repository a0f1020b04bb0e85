use Rattle.std.proofs.Common.{◌≡◌, ◌∙◌, ◌+◌, ◌++◌, ◌∷◌, [], ap, ap₂, map, sum, sym, rules}
use Rattle.std.proofs.lemmas.List.{map_push, take_all}
use Rattle.std.proofs.lemmas.List.Sums.{sum_by_push}
use Rattle.std.proofs.lemmas.Simd.{map-map}
use Rattle.lx_regex.specs.Term.{cat}
use Rattle.lx_regex.specs.Expr.{members_of, size_of, term_of}
use Rattle.lx_regex.proofs.Trees.Folds.{term_of-cat, term_of-class}
use Rattle.lx_regex.specs.declared.expr.Expr.{the_lemmas}
use Rattle.lx_regex.specs.declared.expr.Expr.TheVariants.{Class}
use Rattle.lx_token.specs.declared.characters.Character.{Character}
use Rattle.lx_exprs.specs.Meanings.{character_set, set_term}
use Rattle.lx_exprs.proofs.Contents.LeafContents.{map-taken}
use Rattle.lx_regex.specs.Kinds.{joined, kinds_of}
use Rattle.lx_regex.proofs.Trees.Kinds.{kinds-append, kinds-one, kinds_of-cat, kinds_of-class}
use Rattle.lx_exprs.proofs.leaves.sequence.Goals as goal

pub loop-character-preserved : goal.loop-character-preserved
loop-character-preserved c =
    let pushed = c.in_ok-push.ensures.items in
    let one : size_of (Class c.in_ok-set.set) ≡ 1 = search (rules, the_lemmas) in record {
      terms =
          map-taken (term_of 0) (λ (character : Character). set_term (character_set c.args.policy c.args.is_caseless character.point))
          c.loop-character.members.items c.push.new.self.items (Class c.in_ok-set.set) c.args.characters.now c.loop-character.character-index _ c.loop-character-test.true pushed
          (term_of-class 0 c.in_ok-set.set ∙ ap set_term c.in_ok-set.ensures) c.loop-character.invariant.terms;
      sizes =
          ap (λ members. sum (map size_of members)) pushed ∙ ap sum (map_push size_of c.loop-character.members.items (Class c.in_ok-set.set))
          ∙ sum_by_push (λ size. size) (map size_of c.loop-character.members.items) (size_of (Class c.in_ok-set.set)) ∙ ap₂ ◌+◌ c.loop-character.invariant.sizes one;
      kinds =
          ap (λ members. joined (map kinds_of members)) pushed ∙ kinds-append c.loop-character.members.items (Class c.in_ok-set.set ∷ [])
          ∙ ap₂ ◌++◌ c.loop-character.invariant.kinds (kinds-one (Class c.in_ok-set.set) ∙ kinds_of-class c.in_ok-set.set);
    }

pub returns-clause-term : goal.returns-clause-term
returns-clause-term c =
    let characters = c.args.characters.now in
    let set = character_set c.args.policy c.args.is_caseless in
    let all = take_all c.loop-character.character-index characters c.loop-character-test.false in
    let each = λ (character : Character). set_term (set character.point) in
    let fused = ap (map set_term) (map-map set (λ (character : Character). character.point) characters) ∙ map-map set_term (λ (character : Character). set character.point) characters in
    term_of-cat 0 c.loop-character.members
    ∙ ap (λ terms. cat (members_of terms)) (c.loop-character.invariant.terms ∙ ap (map each) all ∙ sym fused)

pub returns-clause-kinds : goal.returns-clause-kinds
returns-clause-kinds c = kinds_of-cat c.loop-character.members ∙ c.loop-character.invariant.kinds
