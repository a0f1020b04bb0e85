use Rattle.std.proofs.Common.{◌≡◌, ◌+◌, suc, ◌∙◌, ◌++◌, ◌∷◌, ap, refl, sym, subst, arith, take, drop, get_or, Ok}
use Rattle.std.proofs.Math.Seq.{take-suc, drop-cons}
use Rattle.std.proofs.lemmas.List.{take-append-drop, take_all}
use Rattle.std.proofs.lemmas.Result.{err_from_is_err_and}
use Rattle.lx_parse.specs.declared.items.Item.TheVariants.{Define}
use Rattle.lx_rules.specs.Conditions.{HasConds}
use Rattle.lx_rules.specs.Items.{Goes, ends}
use Rattle.lx_rules.specs.Keeping.{StopsGoing}
use Rattle.lx_forms.specs.Lexemes.{sorts_at}
use Rattle.lx_forms.specs.Seen.{lexemes_view}
use Rattle.lx_rules.proofs.Blocks.ItemRuns.{goes-snoc, goes-stops, expressions_at}
use Rattle.lx_rules.proofs.Rules.RuleNumbers.{all_at}
use Rattle.lx_rules.proofs.resolving.take_items.Goals as goal

pub loop-item-init : goal.loop-item-init
loop-item-init c = record { few = omega arith; before = (refl, refl); goes = λ first holds. (first, ends, holds) }

pub take-requires-clause-few : goal.take-requires-clause-few
take-requires-clause-few c =
    let few = c.loop-item.invariant.few in let most = c.requires.few in let lt = c.loop-item-test.true in omega (arith, few, most, lt)

pub take-requires-clause-fit : goal.take-requires-clause-fit
take-requires-clause-fit c =
    let goes = c.loop-item.invariant.goes c.requires.holds.0 c.requires.holds.1 in goes.2.fit

pub take-requires-clause-expressions : goal.take-requires-clause-expressions
take-requires-clause-expressions c =
    expressions_at (sorts_at (lexemes_view c.args.block.lexemes)) c.args.items.now c.loop-item.item-index _ c.requires.expressions c.loop-item-test.true

pub take-requires-clause-conds : goal.take-requires-clause-conds
take-requires-clause-conds c =
    all_at (HasConds (lexemes_view c.args.block.lexemes)) c.args.items.now c.loop-item.item-index _ c.requires.conds c.loop-item-test.true

pub returns-in_err-take-clause-goes : goal.returns-in_err-take-clause-goes
returns-in_err-take-clause-goes c = λ first holds.
    let options = c.args.block.options.now in
    let lexemes = lexemes_view c.args.block.lexemes in
    let place = c.loop-item.item-index in
    let items = c.args.items.now in
    let goes = c.loop-item.invariant.goes first holds in
    let item = get_or items place (Define 0 0 0) in
    let whole : take place items ++ item ∷ drop (suc place) items ≡ items =
    ap (λ l. take place items ++ l) (sym (drop-cons items place (Define 0 0 0) c.loop-item-test.true)) ∙ take-append-drop place items in
    let p = err_from_is_err_and c.from_residual.result c.from_residual.ensures.1 in
    rw (p.1, p.2)
    (subst (λ l. StopsGoing options lexemes first l c.in_err-take.field-0.0) whole
    (goes-stops options lexemes first goes.0 (take place items) item (drop (suc place) items) c.in_err-take.field-0.0 goes.1
    (c.in_err-take.ensures.taken goes.0 goes.2)))

pub loop-item-preserved : goal.loop-item-preserved
loop-item-preserved c =
    let options = c.args.block.options.now in
    let lexemes = lexemes_view c.args.block.lexemes in
    let place = c.loop-item.item-index in
    let items = c.args.items.now in
    let few = c.loop-item.invariant.few in
    let one = c.in_ok-take.ensures.few in
    let before = c.in_ok-take.ensures.before in
    let next : place + 1 ≡ suc place = omega arith in record {
      few = omega (arith, few, one);
      before = (before.0 ∙ c.loop-item.invariant.before.0, before.1 ∙ c.loop-item.invariant.before.1);
      goes = λ first holds.
          let goes = c.loop-item.invariant.goes first holds in
          let taken = c.in_ok-take.ensures.taken goes.0 goes.2 in
          rw (next) (
            taken.next,
            subst (λ l. Goes options lexemes first l (Ok taken.next)) (sym (take-suc items place (Define 0 0 0) c.loop-item-test.true))
                (goes-snoc options lexemes first goes.0 taken.next (take place items) (get_or items place (Define 0 0 0)) goes.1 taken.checked taken.is_after),
            taken.holds,
          );
    }

pub returns-clause-goes : goal.returns-clause-goes
returns-clause-goes c = λ first holds.
    let options = c.args.block.options.now in
    let lexemes = lexemes_view c.args.block.lexemes in
    let goes = c.loop-item.invariant.goes first holds in
    let all : take c.loop-item.item-index c.args.items.now ≡ c.args.items.now = take_all c.loop-item.item-index c.args.items.now (omega (arith, c.loop-item-test.false)) in
    (goes.0, subst (λ l. Goes options lexemes first l (Ok goes.0)) all goes.1, goes.2)
