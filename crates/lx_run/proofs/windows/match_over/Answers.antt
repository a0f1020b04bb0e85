use Rattle.std.proofs.Common.{◌≡◌, ◌∙◌, ap, sym, subst, refl, true, Option, None, Some, ◌<◌, length, ◌+◌, ◌/◌}
use Rattle.std.specs.Prelude.{IfSome, if◌then◌else◌}
use Rattle.std.specs.List.{list_any}
use Rattle.lx_ccode.specs.declared.piece.Piece.{Piece}
use Rattle.lx_ccode.specs.Statements.{all_statements}
use Rattle.lx_step.specs.Feeds.{feed_of}
use Rattle.lx_step.specs.Held.{Held, is_on_histories}
use Rattle.lx_window.specs.MemorySource.{ahead_of}
use Rattle.lx_run.proofs.MatchLoops.{Rose-none, feed_chances-source, made-call, some_answer}
use Rattle.lx_run.proofs.WindowMatches.{IsAdvance-room, IsResumed-left, IsUnderWay-begun, feed_chances}
use Rattle.lx_run.proofs.windows.match_over.Goals as goal

always : {A P : Type 0} (option : Option A) → P → IfSome option (λ one. P)
always None holds = tt
always (Some one) holds = holds

pub loop-w-init : goal.loop-w-init
loop-w-init c =
    let begins = c.requires.stands.1.3 in
    record {
      piece_is = ap (λ (held : Held). held.piece) begins.held_is ∙ begins.piece_is;
      source_unit = refl;
      start_is = subst (λ left. IfSome left (λ one. c.args.w.now.start ≡ c.args.lexer.start)) (sym (ap (λ (held : Held). held.left) begins.held_is ∙ begins.unleft)) tt;
      way = λ reading leaves between is. IsUnderWay-begun c.args.piece.now reading leaves between c.args.lexer (feed_of (ahead_of c.args.src.now) c.args.w.now) is;
    }

pub advance-requires-clause-unit : goal.advance-requires-clause-unit
advance-requires-clause-unit c =
    let some = c.requires.stands.1 in
    let way = c.loop-w.invariant.way some.0 some.1 some.2 some.3 in
    way.at.unit_is ∙ ap (λ (piece : Piece). piece.unit) (sym way.same_piece)

pub advance-requires-clause-start : goal.advance-requires-clause-start
advance-requires-clause-start c = c.loop-w.invariant.start_is

pub refill-requires-clause-room : goal.refill-requires-clause-room
refill-requires-clause-room c =
    let some = c.requires.stands.1 in
    let way = c.loop-w.invariant.way some.0 some.1 some.2 some.3 in
    IsAdvance-room c.args.piece.now some.0 some.1 some.2 _ _ _ _ way (c.in-NeedFill.ensures.advance way.fit)

pub refill-requires-clause-unit : goal.refill-requires-clause-unit
refill-requires-clause-unit c =
    let some = c.requires.stands.1 in
    let way = c.loop-w.invariant.way some.0 some.1 some.2 some.3 in
    c.advance.ensures.source.same_unit ∙ c.loop-w.invariant.source_unit ∙ c.requires.stands.0 ∙ sym (c.advance.ensures.start_kept.same_unit ∙ way.at.unit_is)

pub loop-w-smaller : goal.loop-w-smaller
loop-w-smaller c =
    let piece = c.args.piece.now in
    let some = c.requires.stands.1 in
    let way = c.loop-w.invariant.way some.0 some.1 some.2 some.3 in
    let filled = some_answer _ c.refill.result c.refill.ensures.refills c.refill.ensures.fails in
    let again = feed_of (ahead_of c.refill.new.src) c.refill.new.self in
    let resumed = IsResumed-left piece some.0 some.1 some.2 _ _ _ _ way (c.in-NeedFill.ensures.advance way.fit) again filled.0 filled.1 in
    let unit = c.loop-w.invariant.source_unit ∙ c.requires.stands.0 in
    let before = feed_chances-source some.0 piece.unit some.1 _ _ _ c.loop-w.src c.loop-w.w unit way.at in
    let behind = feed_chances-source some.0 piece.unit some.1 _ _ _ c.refill.new.src c.refill.new.self
    (c.refill.ensures.same_unit ∙ c.advance.ensures.source.same_unit ∙ unit) resumed.way.at in
    let fewer = resumed.fewer in
    subst (λ count. count < length c.loop-w.src.bytes / c.loop-w.src.unit + (if c.loop-w.src.leaves_next then 1 else 0)) behind
    (subst (λ count. feed_chances some.0 again < count) before fewer)

pub loop-w-preserved : goal.loop-w-preserved
loop-w-preserved c =
    let some = c.requires.stands.1 in
    let one = c.loop-w.invariant.way some.0 some.1 some.2 some.3 in
    let call = c.in-NeedFill.ensures.advance one.fit in
    let filled = some_answer _ c.refill.result c.refill.ensures.refills c.refill.ensures.fails in
    let again = feed_of (ahead_of c.refill.new.src) c.refill.new.self in
    record {
      piece_is = call.piece ∙ one.same_piece;
      source_unit = c.refill.ensures.same_unit ∙ c.advance.ensures.source.same_unit ∙ c.loop-w.invariant.source_unit;
      start_is =
          let begins = c.refill.ensures.start_kept.same_start ∙ c.advance.ensures.start_kept.same_start ∙ sym call.holds.start_is in
          always c.advance.new.self.left begins;
      way = λ reading leaves between is.
          let way = c.loop-w.invariant.way reading leaves between is in
          (IsResumed-left c.args.piece.now reading leaves between _ _ _ _ way (c.in-NeedFill.ensures.advance way.fit) again filled.0 filled.1).way;
    }

pub returns-in_default : goal.returns-in_default
returns-in_default c =
    let some = c.requires.stands.1 in
    let one = c.loop-w.invariant.way some.0 some.1 some.2 some.3 in
    record {
      matched = λ reading leaves between is.
          let way = c.loop-w.invariant.way reading leaves between is in
          made-call c.args.piece.now reading leaves between _ _ _ _ way c.advance.result (c.advance.ensures.advance way.fit)
          c.in_default.not-NeedFill (λ failed. Rose-none (c.advance.ensures.fails failed));
      memory = λ told.
          subst (λ (one : Piece). list_any is_on_histories (all_statements one.blocks) ≡ true) c.loop-w.invariant.piece_is (c.advance.ensures.memory told);
      piece = (c.advance.ensures.advance one.fit).piece ∙ one.same_piece;
      source_unit = c.advance.ensures.source.same_unit ∙ c.loop-w.invariant.source_unit;
    }
