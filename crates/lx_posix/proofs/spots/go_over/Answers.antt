use Rattle.std.proofs.Common.{◌≡◌, ◌-◌, ◌++◌, ◌∙◌, List, ℕ, sym, ap, ap₂, subst, arith, length, take, drop}
use Rattle.lx_posix.specs.Courses.{shared}
use Rattle.lx_posix.specs.Finding.{beginning_at}
use Rattle.lx_posix.specs.Spots.{spots_on}
use Rattle.lx_posix.specs.WayNumbers.{FitsOnWay, state_number}
use Rattle.lx_posix.proofs.CodeNumbers.FoundNumbers.{found-fits}
use Rattle.lx_posix.proofs.CodeReaches.WayCourses.{behind_is}
use Rattle.lx_posix.proofs.CodeNumbers.WaySpots.{spot_within, spots_behind, way_fits}
use Rattle.lx_posix.proofs.spots.go_over.Goals as goal

pub index-spot-requires : goal.index-spot-requires
index-spot-requires c =
    let last = c.args.last.now in
    let begin = beginning_at c.args.beginnings.now last.from in
    let within =
    spot_within c.args.t.now (state_number begin.at) begin.depth last.way c.args.found.now.way c.args.spots.now.items c.requires.spots
    c.shared-count.result
    (c.shared-count.ensures.is ∙ ap₂ (λ a b. shared a b) c.as_slice.ensures c.as_slice-way.ensures) in
    let size = c.args.spots.now.ok.0 in
    omega (arith, within, size)

pub walk-requires : goal.walk-requires
walk-requires c =
    let t = c.args.t.now in
    let beginnings = c.args.beginnings.now in
    let last = c.args.last.now in
    let found = c.args.found.now in
    let begin = beginning_at beginnings last.from in
    let spot = c.index-spot.result.now in
    let count = c.shared-count.result in
    let fits =
    subst (λ n. FitsOnWay t (state_number (beginning_at beginnings n).at) (beginning_at beginnings n).depth found.way)
    (sym c.if-last-found.false) (found-fits t beginnings found c.requires.searchable c.requires.found) in
    subst (λ l. FitsOnWay t spot.state spot.depth l)
    (sym (behind_is count c.as_slice-way.result.now ∙ ap (λ l. drop count l) c.as_slice-way.ensures))
    (way_fits t (state_number begin.at) begin.depth last.way found.way c.args.spots.now.items c.requires.spots count
    (c.shared-count.ensures.is ∙ ap₂ (λ a b. shared a b) c.as_slice.ensures c.as_slice-way.ensures) spot spot c.index-spot.ensures fits)

pub returns : goal.returns
returns c =
    let t = c.args.t.now in
    let beginnings = c.args.beginnings.now in
    let last = c.args.last.now in
    let found = c.args.found.now in
    let begin = beginning_at beginnings last.from in
    let spot = c.index-spot.result.now in
    let count = c.shared-count.result in
    let kept = c.truncate.new.self.items in
    spots_behind t (state_number begin.at) begin.depth last.way found.way c.args.spots.now.items c.requires.spots count
    (c.shared-count.ensures.is ∙ ap₂ (λ a b. shared a b) c.as_slice.ensures c.as_slice-way.ensures) spot spot c.index-spot.ensures
    kept c.walk.new.spots.items c.truncate.ensures.items
    (c.in_ok-walk.ensures
    ∙ ap (λ l. kept ++ spots_on t spot.state spot.depth l)
    (behind_is count c.as_slice-way.result.now ∙ ap (λ l. drop count l) c.as_slice-way.ensures))
    ∙ ap (λ n. spots_on t (state_number (beginning_at beginnings n).at) (beginning_at beginnings n).depth found.way) c.if-last-found.false
