use Rattle.std.proofs.Common.{◌≡◌, ◌+◌, ◌*◌, ◌∙◌, ap, arith, refl, sym, length, vec_len}
use Rattle.std.specs.Prelude.{nat_eq, if◌then◌else◌}
use Rattle.lx_regex.specs.Expr.{term_of}
use Rattle.lx_regex.specs.Term.{copies, parts}
use Rattle.lx_regex.proofs.Trees.Folds.{term_of-alt, term_of-rep}
use Rattle.lx_regex.proofs.Trees.NoUnits.{terms_in}
use Rattle.lx_regex.proofs.PartTables.PartLists.{parts-form}
use Rattle.lx_tnfa.specs.declared.states.Repeat.{Repeat}
use Rattle.lx_tnfa.specs.Moves.{counted_size}
use Rattle.lx_tnfa.proofs.Construction.FirstStates.{alt_held, cat_held, class_fits, class_held, counted_times, rep_held}
use Rattle.lx_tnfa.proofs.Construction.ShapeFacts.{alternation_shapes, counted_shape, few_together, repeat_body, repeat_tags}
use Rattle.lx_tnfa.proofs.building.beginning.Goals as goal
use Rattle.lx_tnfa.proofs.building.beginning.Goals.{then-is_empty, else-is_empty}

pub number_of-requires-clause-fits : goal.number_of-requires-clause-fits
number_of-requires-clause-fits c = class_fits c.args.classes.now.enc c.args.site.tags c.args.expr.now c.in-Class.set c.in-Class.is c.requires.term

pub returns-in_ok-number_of-in-Class-clause-held : goal.returns-in_ok-number_of-in-Class-clause-held
returns-in_ok-number_of-in-Class-clause-held c =
    class_held c.number_of.new.self.list.items c.args.site.tags c.args.site.part c.args.expr.now c.in-Class.set c.in_ok-number_of-in-Class.field-0
    c.in-Class.is c.in_ok-number_of-in-Class.ensures.number

pub returns-in_ok-one_move-in-Cat-clause-held : goal.returns-in_ok-one_move-in-Cat-clause-held
returns-in_ok-one_move-in-Cat-clause-held c =
    let part = c.args.site.part in
    let count : c.is_empty.result ≡ nat_eq (length c.in-Cat.members.items) 0 =
    let len : vec_len c.in-Cat.members ≡ length c.in-Cat.members.items = omega arith in c.is_empty.ensures ∙ ap (λ n. nat_eq n 0) len in
    let goes : c.if-is_empty.to ≡ (if c.is_empty.result then 2 * part + 1 else 2 * (part + 1)) =
    elim c.if-is_empty.branch [
      | then-is_empty w ↦ w.to-is ∙ ap (λ b. if b then 2 * part + 1 else 2 * (part + 1)) (sym w.if-is_empty.true)
      | else-is_empty w ↦
          let sum : 2 * part + 1 + 1 ≡ 2 * (part + 1) = omega arith in
          w.to-is ∙ sum ∙ ap (λ b. if b then 2 * part + 1 else 2 * (part + 1)) (sym w.if-is_empty.false)
    ] in
    cat_held c.args.classes.now.list.items c.args.site.tags part c.args.expr.now c.in-Cat.members c.if-is_empty.to c.is_empty.result
    c.in_ok-one_move-in-Cat.field-0 c.in-Cat.is count goes c.in_ok-one_move-in-Cat.ensures

pub member_moves-requires : goal.member_moves-requires
member_moves-requires c =
    let tags = c.args.site.tags in
    let members = c.in-Alt.field-0 in
    let e = parts-form c.args.expr.now _ _ c.in-Alt.is (λ tags. term_of-alt tags members) tags in
    let shapes = alternation_shapes tags c.args.expr.now members c.args.shape.now c.in-Alt.is c.requires.shape in
    record {
      room = rw c.deref-in-Alt.ensures.value
          (few_together (terms_in tags members.items) _ (c.args.site.part + 1) shapes.0 (omega (arith, e, c.requires.parts)));
    }

pub iteration_moves-requires : goal.iteration_moves-requires
iteration_moves-requires c =
    let tags = c.args.site.tags in
    let low = c.in-Rep.low in
    let high = c.in-Rep.high in
    let body = c.in-Rep.field-0 in
    let e = parts-form c.args.expr.now _ _ c.in-Rep.is (λ tags. term_of-rep tags body low high) tags in
    let b = term_of tags body.value in
    let has = repeat_body tags c.args.expr.now body low high c.args.shape.now c.index-inner.result.now c.in-Rep.is c.requires.shape c.index-inner.ensures in
    let size = counted_shape low high b c.index-inner.result.now has (omega (arith, e, c.requires.parts)) in
    let so = c.repeat_of-repeat.ensures ∙ ap (λ n. record { part = c.args.site.part; size = n; low = low; high = high }) size in
    rw so (omega (arith, e, counted_times (copies low high) (parts b), c.requires.parts))

pub returns-in_ok-iteration_moves-in-Rep-clause-held : goal.returns-in_ok-iteration_moves-in-Rep-clause-held
returns-in_ok-iteration_moves-in-Rep-clause-held c =
    let tags = c.args.site.tags in
    let low = c.in-Rep.low in
    let high = c.in-Rep.high in
    let body = c.in-Rep.field-0 in
    let e = parts-form c.args.expr.now _ _ c.in-Rep.is (λ tags. term_of-rep tags body low high) tags in
    let b = term_of tags body.value in
    let has = repeat_body tags c.args.expr.now body low high c.args.shape.now c.index-inner.result.now c.in-Rep.is c.requires.shape c.index-inner.ensures in
    let size = counted_shape low high b c.index-inner.result.now has (omega (arith, e, c.requires.parts)) in
    let made : Repeat = record { part = c.args.site.part; size = counted_size low high b; low = low; high = high } in
    let so : c.repeat_of-repeat.result ≡ made =
    c.repeat_of-repeat.ensures ∙ ap (λ n. record { part = c.args.site.part; size = n; low = low; high = high }) size in
    let ways = rw so at c.in_ok-iteration_moves-in-Rep.ensures in
    let own = repeat_tags tags c.args.expr.now body low high c.args.shape.now c.in-Rep.is c.requires.shape in
    rep_held c.args.classes.now.list.items tags c.args.expr.now body made c.deref-in-Rep.result.now c.in_ok-iteration_moves-in-Rep.field-0
    c.in-Rep.is refl (c.deref-in-Rep.ensures.value ∙ own) ways

pub returns-in_ok-ways-in-Alt-clause-held : goal.returns-in_ok-ways-in-Alt-clause-held
returns-in_ok-ways-in-Alt-clause-held c =
    let tags = c.args.site.tags in
    let members = c.in-Alt.field-0 in
    let shapes = alternation_shapes tags c.args.expr.now members c.args.shape.now c.in-Alt.is c.requires.shape in
    let ways = rw (c.deref.ensures.value, c.deref-in-Alt.ensures.value) at c.in_ok-ways-in-Alt.ensures in
    alt_held c.args.classes.now.list.items tags c.args.site.part c.args.expr.now members c.in_ok-ways-in-Alt.ways c.in-Alt.is
    (ways (terms_in tags members.items) shapes.0 shapes.1)
