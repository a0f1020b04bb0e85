use Rattle.std.proofs.Common.{◌≡◌, ◌∙◌, ◌++◌, [], ap, sym, append-nil, map}
use Rattle.std.specs.Vec.Iter.{into_iter_items}
use Rattle.std.proofs.lemmas.List.{nil_from_length}
use Rattle.lx_compile.specs.Warnings.{placed}
use Rattle.lx_compile.specs.Options.{policy_of}
use Rattle.lx_compile.proofs.warned.append_warnings.Goals as goal

pub returns : goal.returns
returns c =
    let told = map (placed c.args.at c.args.acts.now c.args.scanner.now.cond) in
    let own = c.in_ok-own.own in
    let none = c.in-None.ensures.steps in
    let empty : into_iter_items c.loop-warning.warning-iterator ≡ [] =
    nil_from_length (into_iter_items c.loop-warning.warning-iterator) (sym c.loop-warning.invariant.count ∙ none.0) in
    let items : into_iter_items c.into_iter-warning-iterator.result ≡ own =
    c.into_iter-warning-iterator.ensures.into_iter_gives.0 ∙ c.into_vec-warning-items.ensures in (
      own,
      c.in_ok-own.ensures (policy_of c.args.options.now),
      sym (append-nil c.loop-warning.all) ∙ ap (λ left. c.loop-warning.all ++ told left) (sym empty) ∙ c.loop-warning.invariant.all
          ∙ ap (λ list. c.args.all.now ++ told list) items,
    )
