use Rattle.lx_class.proofs.Law.{same_ranges}
use Rattle.lx_class.proofs.sets.same_points_same_ranges.Goals as goal

pub returns : goal.returns
returns c = λ left right canonical_left canonical_right same.
    same_ranges 0 0 left right canonical_left canonical_right (λ point. (same point).0) (λ point. (same point).1)
