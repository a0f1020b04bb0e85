use Rattle.std.proofs.Common.{◌≤◌, length, ◌+◌, arith, sym, ap, subst, ◌∙◌, get_or, drop, suc}
use Rattle.std.proofs.Math.ListN.{drop_of_length-le}
use Rattle.lx_parse.specs.Automaton.{depth_of}
use Rattle.lx_parse.specs.declared.states.Step.TheVariants.{Refuse, Go, Done}
use Rattle.lx_parse.proofs.Depths.{depth_behind, next_depth}
use Rattle.lx_parse.proofs.Reading.{few_spans, no_token, token_at, spans_next, step_is, token_sort, read_none, read_go, read_done, read_refused, read_end, read_refused_end}
use Rattle.lx_parse.proofs.parsing.parse.Goals as goal
use Rattle.lx_parse.proofs.parsing.parse.Goals.{in-Go, in-Done+in_ok-push-in-Done}

pub loop-place-init : goal.loop-place-init
loop-place-init c =
    let spans = (c.tokens_stand_in_order.ensures.tokens c.args.body.now c.args.at c.args.tokens.now c.requires.tokens).in_order in
    let few = few_spans (length c.args.body.now) c.args.tokens.now spans in record {
      read = rw (c.new-items.ensures, c.form_of.ensures) (read_none c.args.kind c.args.body.now c.args.tokens.now);
      depth = omega arith;
      spans = (0, spans);
      few = omega arith;
    }

pub returns-in-Refuse : goal.returns-in-Refuse
returns-in-Refuse c =
    let place = c.loop-place.place in
    let listed = c.as_slice-token-items.result.now in
    let token = get_or listed place no_token in
    let split = token_at listed c.args.tokens.now place c.as_slice-token-items.ensures c.loop-place-test.true in
    let is = step_is c.loop-place.state (token_sort c.args.kind c.args.body.now token) c.sort_in-sort.result place Refuse c.next.result
    c.sort_in-sort.ensures c.next.ensures.step c.in-Refuse.is in
    read_refused c.args.kind c.args.body.now c.args.tokens.now place c.loop-place.items c.loop-place.state token c.args.at split is c.loop-place.invariant.read

pub loop-place-preserved : goal.loop-place-preserved
loop-place-preserved c =
    let place = c.loop-place.place in
    let listed = c.as_slice-token-items.result.now in
    let token = get_or listed place no_token in
    let split = token_at listed c.args.tokens.now place c.as_slice-token-items.ensures c.loop-place-test.true in
    let spans = spans_next (length c.args.body.now) token (drop place c.args.tokens.now) (drop (place + 1) c.args.tokens.now) split c.loop-place.invariant.spans in
    let deep = next_depth c.loop-place.state (token_sort c.args.kind c.args.body.now token) place in
    elim c.match-next.branch [
      | in-Go w ↦
          (let is = step_is c.loop-place.state (token_sort c.args.kind c.args.body.now token) c.sort_in-sort.result place (Go w.in-Go.next) c.next.result
          c.sort_in-sort.ensures c.next.ensures.step w.in-Go.is in
          let depth = subst (λ step. depth_behind step ≤ suc (depth_of c.loop-place.state)) is deep in
          let state = ap depth_of w.state-is in record {
            read =
                rw (w.items-is, w.state-is)
                (read_go c.args.kind c.args.body.now c.args.tokens.now place c.loop-place.items c.loop-place.state token w.in-Go.next split is c.loop-place.invariant.read);
            depth = omega (arith, depth, state);
            spans = spans;
            few = c.loop-place.invariant.few;
          })
      | in-Done+in_ok-push-in-Done w ↦
          (let is = step_is c.loop-place.state (token_sort c.args.kind c.args.body.now token) c.sort_in-sort.result place
          (Done w.in-Done.item w.in-Done.form) c.next.result c.sort_in-sort.ensures c.next.ensures.step w.in-Done.is in
          let state = ap depth_of w.state-is in record {
            read =
                rw (w.items-is, w.state-is, w.in_ok-push-in-Done.ensures.pushed)
                (read_done c.args.kind c.args.body.now c.args.tokens.now place c.loop-place.items c.loop-place.state token w.in-Done.item w.in-Done.form split is
                c.loop-place.invariant.read);
            depth = omega (arith, state);
            spans = spans;
            few = c.loop-place.invariant.few;
          })
    ]

pub returns-then-may_end : goal.returns-then-may_end
returns-then-may_end c =
    let same = ap length c.as_slice-token-items.ensures in
    let last : length c.args.tokens.now ≤ c.loop-place.place = omega (arith, same) in
    read_end c.args.kind c.args.body.now c.args.tokens.now c.loop-place.place c.loop-place.items c.loop-place.state no_token
    (drop_of_length-le c.args.tokens.now last) (sym c.may_end.ensures ∙ c.if-may_end.true) c.loop-place.invariant.read

pub returns-else-may_end : goal.returns-else-may_end
returns-else-may_end c =
    let same = ap length c.as_slice-token-items.ensures in
    let last : length c.args.tokens.now ≤ c.loop-place.place = omega (arith, same) in
    read_refused_end c.args.kind c.args.body.now c.args.tokens.now c.loop-place.place c.loop-place.items c.loop-place.state no_token c.args.at
    c.place_after.result c.place_after.ensures.place (drop_of_length-le c.args.tokens.now last) (sym c.may_end.ensures ∙ c.if-may_end.false)
    c.loop-place.invariant.read
