use Rattle.std.proofs.Common.{◌≡◌, ◌-◌, ◌∙◌, List, ℕ, sym, ap, ap₂, subst, refl, arith, length, take, drop}
use Rattle.std.specs.Prelude.{get_or}
use Rattle.lx_posix.specs.Courses.{shared}
use Rattle.lx_posix.specs.Finding.{beginning_at}
use Rattle.lx_posix.specs.WayNumbers.{FitsOnWay, number_of_fork, state_number}
use Rattle.lx_posix.specs.declared.spots.Spot.{Spot}
use Rattle.lx_posix.proofs.CodeNumbers.FoundNumbers.{found-fits}
use Rattle.lx_posix.proofs.CodeReaches.WayCourses.{behind_is}
use Rattle.lx_posix.proofs.CodeNumbers.WaySpots.{before_fits, fork_behind, spot_within, way_fits}
use Rattle.lx_posix.proofs.numbers.number_of_one.Goals as goal

abbrev none : Spot
none = record { state = 0; depth = 0 }

pub bounds-spots-count : goal.bounds-spots-count
bounds-spots-count c =
    let found = c.args.found.now in
    let begin = beginning_at c.args.beginnings.now found.from in
    spot_within c.args.t.now (state_number begin.at) begin.depth found.way c.args.other.now.way c.args.spots.now c.requires.spots
    c.shared-count.result
    (c.shared-count.ensures.is ∙ ap₂ (λ a b. shared a b) c.as_slice-way.ensures c.as_slice-others.ensures)

pub number_of_fork-requires-clause-way : goal.number_of_fork-requires-clause-way
number_of_fork-requires-clause-way c =
    let t = c.args.t.now in
    let beginnings = c.args.beginnings.now in
    let found = c.args.found.now in
    let other = c.args.other.now in
    let begin = beginning_at beginnings found.from in
    let count = c.shared-count.result in
    let spot = get_or c.args.spots.now count none in
    let counted = c.shared-count.ensures.is ∙ ap₂ (λ a b. shared a b) c.as_slice-way.ensures c.as_slice-others.ensures in
    subst (λ l. FitsOnWay t spot.state spot.depth l)
    (sym (behind_is count c.as_slice-way.result.now ∙ ap (λ l. drop count l) c.as_slice-way.ensures))
    (before_fits t (state_number begin.at) begin.depth found.way other.way c.args.spots.now c.requires.spots count counted spot none refl
    (found-fits t beginnings found c.requires.depths c.requires.way))

pub number_of_fork-requires-clause-other : goal.number_of_fork-requires-clause-other
number_of_fork-requires-clause-other c =
    let t = c.args.t.now in
    let beginnings = c.args.beginnings.now in
    let found = c.args.found.now in
    let other = c.args.other.now in
    let begin = beginning_at beginnings found.from in
    let count = c.shared-count.result in
    let spot = get_or c.args.spots.now count none in
    let counted = c.shared-count.ensures.is ∙ ap₂ (λ a b. shared a b) c.as_slice-way.ensures c.as_slice-others.ensures in
    subst (λ l. FitsOnWay t spot.state spot.depth l)
    (sym (behind_is count c.as_slice-others.result.now ∙ ap (λ l. drop count l) c.as_slice-others.ensures))
    (way_fits t (state_number begin.at) begin.depth found.way other.way c.args.spots.now c.requires.spots count counted spot none refl
    (subst (λ n. FitsOnWay t (state_number (beginning_at beginnings n).at) (beginning_at beginnings n).depth other.way)
    (sym c.requires.one) (found-fits t beginnings other c.requires.depths c.requires.other_way)))

pub returns : goal.returns
returns c =
    let t = c.args.t.now in
    let beginnings = c.args.beginnings.now in
    let found = c.args.found.now in
    let other = c.args.other.now in
    let begin = beginning_at beginnings found.from in
    let count = c.shared-count.result in
    let spot = get_or c.args.spots.now count none in
    let counted = c.shared-count.ensures.is ∙ ap₂ (λ a b. shared a b) c.as_slice-way.ensures c.as_slice-others.ensures in
    c.number_of_fork.ensures
    ∙ ap₂ (λ l k. number_of_fork t spot.state spot.depth l k)
    (behind_is count c.as_slice-way.result.now ∙ ap (λ l. drop count l) c.as_slice-way.ensures)
    (behind_is count c.as_slice-others.result.now ∙ ap (λ l. drop count l) c.as_slice-others.ensures)
    ∙ fork_behind t (state_number begin.at) begin.depth found.way other.way c.args.spots.now c.requires.spots count counted spot none refl
