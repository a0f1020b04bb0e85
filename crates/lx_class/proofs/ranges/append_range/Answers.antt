use Rattle.std.proofs.Common.{◌⊎◌, ◌↔◌, ◌+◌, ◌-◌, ◌∷◌, [], ◌∙◌, sym, subst, arith}
use Rattle.std.proofs.lemmas.List.{nil_from_length}
use Rattle.lx_class.specs.Ranges.{InRanges, IsCanonical}
use Rattle.lx_class.specs.Bounds.{BeginBy, EndBefore}
use Rattle.lx_class.proofs.RangeLists.{InRanges-append, BeginBy-append, EndBefore-later}
use Rattle.lx_class.proofs.Joining.{IsLast, last_canonical, last_begins, last_ends, stretched_canonical, stretched_begin, stretched_points, IsCanonicalFrom-push}
use Rattle.lx_class.proofs.ranges.append_range.Goals as goal
use Rattle.lx_class.proofs.ranges.append_range.Goals.{After-index-last, then-len-gt0+else-range-last, else-len-gt0}

-- the range that is read is the last one
last_is_last : (c : After-index-last) → IsLast c.args.ranges.now.items c.len-len.result c.index-last.result.now
last_is_last c = record {
  length_is = c.len-len.ensures ∙ c.args.ranges.now.ok.0;
  some = c.if-len-gt0.true;
  last_is = c.index-last.ensures;
}

pub overflow_add-last : goal.overflow_add-last
overflow_add-last c =
    let at_end = last_is_last (goal.at.overflow_add-last c).After-index-last in
    let last = last_canonical at_end c.requires.canonical in omega arith

pub returns-then-range-last-clause-canonical : goal.returns-then-range-last-clause-canonical
returns-then-range-last-clause-canonical c =
    let at_end = last_is_last (goal.at.returns-then-range-last-clause-canonical c).After-index-last in
    let last = last_canonical at_end c.requires.canonical in
    stretched_canonical at_end c.max.result (omega arith) (omega arith) c.requires.canonical

pub returns-then-range-last-clause-points : goal.returns-then-range-last-clause-points
returns-then-range-last-clause-points c =
    let at_end = last_is_last (goal.at.returns-then-range-last-clause-points c).After-index-last in
    stretched_points at_end c.args.range c.max.result c.max.ensures
    (last_begins at_end c.args.range.lo c.requires.in_turn) c.if-range-last.true c.requires.ordered

pub returns-then-range-last-clause-begin : goal.returns-then-range-last-clause-begin
returns-then-range-last-clause-begin c =
    let at_end = last_is_last (goal.at.returns-then-range-last-clause-begin c).After-index-last in
    λ point begin _. stretched_begin at_end c.max.result point begin

pub returns-clause-canonical : goal.returns-clause-canonical
returns-clause-canonical c =
    let xs = c.args.ranges.now in
    let x = c.args.range in
    let gap : EndBefore xs.items (x.lo - 1) = elim c.if-len-gt0.branch [
      | then-len-gt0+else-range-last w ↦
          let at_end : IsLast xs.items c.len-len.result w.index-last.result.now =
          record { length_is = c.len-len.ensures ∙ xs.ok.0; some = w.if-len-gt0.true; last_is = w.index-last.ensures } in
          EndBefore-later xs.items (w.index-last.result.now.hi + 1) (x.lo - 1) (omega arith) (last_ends at_end c.requires.canonical)
      | else-len-gt0 w ↦ subst (λ l. EndBefore l (x.lo - 1)) (sym (nil_from_length xs.items (omega (arith, c.len-len.ensures, xs.ok.0)))) tt
    ] in
    subst (λ l. IsCanonical l) (sym c.in_ok-push.ensures.items)
    (IsCanonicalFrom-push 0 xs.items x gap (omega arith) c.requires.ordered c.requires.bounded c.requires.canonical)

pub returns-clause-points : goal.returns-clause-points
returns-clause-points c = λ point.
    let xs = c.args.ranges.now.items in
    let added = c.args.range ∷ [] in
    subst (λ l. InRanges l point ↔ (InRanges xs point ⊎ InRanges added point)) (sym c.in_ok-push.ensures.items)
    (InRanges-append xs added point)

pub returns-clause-begin : goal.returns-clause-begin
returns-clause-begin c = λ point begin le.
    subst (λ l. BeginBy l point) (sym c.in_ok-push.ensures.items)
    (BeginBy-append c.args.ranges.now.items (c.args.range ∷ []) point begin (le, tt))
