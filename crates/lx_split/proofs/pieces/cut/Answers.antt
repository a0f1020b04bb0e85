use Rattle.std.proofs.Common.{◌-◌, drop, ap, length, arith, sym}
use Rattle.std.proofs.lemmas.List.{length-drop, length-take}
use Rattle.lx_split.specs.Pieces.{opener_size}
use Rattle.lx_token.proofs.Ends.{IsEnd-drop}
use Rattle.lx_token.proofs.KnownLines.{AreKnown-end}
use Rattle.lx_split.proofs.Known.{AreKnown-opener}
use Rattle.lx_split.proofs.OpenerTexts.{opener-fits}
use Rattle.lx_split.proofs.Walking.{HasCut-start, HasCut-end, HasCut-refused, HasCut-unclosed, HasCut-block}
use Rattle.lx_split.proofs.pieces.cut.Goals as goal

pub loop-pieces-init : goal.loop-pieces-init
loop-pieces-init c =
    rw (c.new-pieces.ensures, c.start_of-at.ensures)
    (record {
      cut = HasCut-start c.args.opts.now c.args.file c.args.bytes.now;
      known = c.new-unclosed.ensures c.args.bytes.now (omega arith);
      line = omega arith;
      col = omega arith;
    })

pub returns-in-Absent : goal.returns-in-Absent
returns-in-Absent c =
    rw c.in_ok-push_outside.ensures
    (HasCut-end c.args.opts.now c.args.file c.args.bytes.now c.loop-pieces.pieces c.loop-pieces.at c.loop-pieces.rest.now
    c.from_opener-text.result.now c.from_opener-text.ensures.rest c.loop-pieces.invariant.cut (sym c.in-Absent.ensures))

pub returns-in-Refused : goal.returns-in-Refused
returns-in-Refused c =
    rw c.place_after-at.ensures.place
    (HasCut-refused c.args.opts.now c.args.file c.args.bytes.now c.loop-pieces.pieces c.loop-pieces.at c.loop-pieces.rest.now
    c.from_opener-text.result.now c.from_opener-text.ensures.rest c.loop-pieces.invariant.cut (sym c.in-Refused.ensures))

pub behind_opener-requires : goal.behind_opener-requires
behind_opener-requires c = opener-fits c.args.opts.now c.from_opener-text.result.now c.in-Opens.kind (sym c.in-Opens.ensures)

pub returns-in-None : goal.returns-in-None
returns-in-None c =
    let none = rw c.behind_opener.ensures at c.in-None.ensures.rest in
    rw c.place_after-at.ensures.place
    (HasCut-unclosed c.args.opts.now c.args.file c.args.bytes.now c.loop-pieces.pieces c.loop-pieces.at c.loop-pieces.rest.now
    c.from_opener-text.result.now c.from_opener-text.ensures.rest c.in-Opens.kind (sym c.in-Opens.ensures) c.loop-pieces.invariant.cut (sym none))

pub loop-pieces-preserved : goal.loop-pieces-preserved
loop-pieces-preserved c =
    let rest = c.loop-pieces.rest.now in
    let text = c.from_opener-text.result.now in
    let tail = c.in-Some.tail.now in
    let fits = opener-fits c.args.opts.now text c.in-Opens.kind (sym c.in-Opens.ensures) in
    let closed = rw c.behind_opener.ensures at c.in-Some.ensures.rest in
    let shorter = c.in-Some.ensures.shorter in
    let behind_length = ap length c.behind_opener.ensures in
    let drop_length = length-drop (opener_size c.in-Opens.kind) text in
    let outside_length = length-take (length rest - length text) rest in
    let block_length = length-take (length text - length tail) text in record {
      cut =
          rw (c.in_ok-push.ensures.pushed, c.in_ok-block_of.ensures, c.place_after-end.ensures.place, c.in_ok-push_outside.ensures, c.place_after-at.ensures.place)
          (HasCut-block c.args.opts.now c.args.file c.args.bytes.now c.loop-pieces.pieces c.loop-pieces.at rest text
          c.from_opener-text.ensures.rest c.in-Opens.kind (sym c.in-Opens.ensures) tail c.loop-pieces.invariant.cut (sym closed) (omega arith));
      known = c.in-Some.ensures.known;
      line = omega arith;
      col = omega arith;
    }

pub after_block-requires : goal.after_block-requires
after_block-requires c =
    let rest = c.loop-pieces.rest.now in
    let text = c.from_opener-text.result.now in record {
      known =
          rw c.behind_opener.ensures
          (AreKnown-end c.loop-pieces.unclosed text (drop (opener_size c.in-Opens.kind) text) (IsEnd-drop (opener_size c.in-Opens.kind) text)
          (AreKnown-opener c.args.opts.now c.loop-pieces.unclosed rest text c.from_opener-text.ensures.rest c.loop-pieces.invariant.known));
    }
