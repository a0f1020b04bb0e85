use Rattle.std.proofs.Common.{◌++◌, ◌∷◌, [], ap, ◌∙◌, length, length-append}
use Rattle.lx_posix.proofs.CodeReaches.ReachLoops.{events_on-move, marks_on-move, move_within, way_on}
use Rattle.lx_posix.proofs.courses.go_on.Goals as goal

pub bounds-moves-index : goal.bounds-moves-index
bounds-moves-index c =
    let way = c.loop-index.invariant.way in
    move_within c.args.t.now c.loop-index.at c.args.way.now c.loop-index.index-index c.loop-index-test.true c.moves.result.now
    c.moves.ensures way.0 way.1

pub loop-index-preserved : goal.loop-index-preserved
loop-index-preserved c =
    let t = c.args.t.now in
    let at = c.loop-index in
    let way = at.invariant.way in
    let move = c.index-moves-index.result in
    let known = c.moves.result.now in
    let listed = c.in_ok-extend_from_slice.ensures.items ∙ ap (λ l. at.events.items ++ l) c.as_slice.ensures in
    record {
      marked =
          marks_on-move t at.at c.args.way.now at.index-index c.loop-index-test.true known c.moves.ensures move
          c.index-moves-index.is way.0 way.1 at.marks.items c.push.new.self.items _ (length at.events.items)
          (length c.extend_from_slice.new.self.items) at.invariant.marked
          (c.in_ok-push.ensures.items
          ∙ ap (λ n. at.marks.items ++ record { state = at.at; count = n } ∷ []) (c.len.ensures ∙ at.events.ok.0))
          (ap length listed ∙ length-append at.events.items move.events);
      listed =
          events_on-move t at.at c.args.way.now at.index-index c.loop-index-test.true known c.moves.ensures move
          c.index-moves-index.is way.0 way.1 at.events.items c.extend_from_slice.new.self.items _ at.invariant.listed listed;
      way = (
        way.0,
        way_on t at.at c.args.way.now at.index-index c.loop-index-test.true known c.moves.ensures move c.index-moves-index.is way.0 way.1,
      );
    }
