use Rattle.std.proofs.Common.{◌≡◌, ◌-◌, ◌++◌, ◌∙◌, List, ℕ, sym, ap, subst, arith, length, take, drop}
use Rattle.lx_posix.specs.Finding.{IsWay}
use Rattle.lx_posix.specs.Courses.{marks_on}
use Rattle.lx_posix.specs.Reaching.{events_on}
use Rattle.lx_posix.proofs.CodeReaches.WayCourses.{behind_is, course_behind, mark_within, way_behind}
use Rattle.lx_posix.proofs.courses.follow.Goals as goal

pub index-mark-requires : goal.index-mark-requires
index-mark-requires c =
    let within =
    mark_within c.args.t.now c.args.way.state c.args.before.now c.args.way.moves.now c.args.marks.now.items c.args.events.now.items
    c.requires.course c.shared-count.result c.shared-count.ensures.is in
    let size = c.args.marks.now.ok.0 in
    omega (arith, within, size)

pub go_on-requires : goal.go_on-requires
go_on-requires c = (
  c.requires.way.0,
  subst (λ l. IsWay c.args.t.now c.index-mark.result.now.state l c.requires.way.0)
      (sym (behind_is c.shared-count.result c.args.way.moves.now))
      (way_behind c.args.t.now c.args.way.state c.args.before.now c.args.way.moves.now c.args.marks.now.items c.args.events.now.items
      c.requires.course c.shared-count.result c.shared-count.ensures.is c.index-mark.result.now c.index-mark.result.now
      c.index-mark.ensures c.requires.way.0 c.requires.way.1),
)

pub returns : goal.returns
returns c =
    let behind = behind_is c.shared-count.result c.args.way.moves.now in
    course_behind c.args.t.now c.args.way.state c.args.before.now c.args.way.moves.now c.args.marks.now.items c.args.events.now.items
    c.requires.course c.shared-count.result c.shared-count.ensures.is c.index-mark.result.now c.index-mark.result.now
    c.index-mark.ensures c.truncate-2.new.self.items c.go_on.new.events.items c.truncate.new.self.items c.go_on.new.marks.items
    c.truncate.ensures.items c.truncate-2.ensures.items
    (c.in_ok-go_on.ensures.marked
    ∙ ap (λ l. c.truncate.new.self.items
    ++ marks_on c.args.t.now c.index-mark.result.now.state (length c.truncate-2.new.self.items) l) behind)
    (c.in_ok-go_on.ensures.listed
    ∙ ap (λ l. c.truncate-2.new.self.items ++ events_on c.args.t.now c.index-mark.result.now.state l) behind)
