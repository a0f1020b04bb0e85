-- An automaton has its own run, and what runs as another runs as whatever that runs as.
use Rattle.std.proofs.Common.{Option, Some, None, refl, ◌∙◌}
use Rattle.lx_auto.specs.declared.automaton.Auto.{Auto}
use Rattle.lx_auto.specs.Run.{Standing, run, start_with}
use Rattle.lx_auto.specs.SameRun.{FindSame, HasSameRun}

find_same-itself : (auto : Auto) (found : Option Standing) → FindSame auto auto found found
find_same-itself auto None = tt
find_same-itself auto (Some standing) = (refl, refl)

find_same-through : (auto middle given : Auto) (found between other : Option Standing) → FindSame auto middle found between
    → FindSame middle given between other → FindSame auto given found other
find_same-through auto middle given None None None first second = tt
find_same-through auto middle given (Some standing) (Some between) (Some other) first second =
    (first.0 ∙ second.0, first.1 ∙ second.1)
find_same-through auto middle given (Some standing) None other first second = absurd first
find_same-through auto middle given None (Some between) other first second = absurd first
find_same-through auto middle given None None (Some other) first second = absurd second
find_same-through auto middle given (Some standing) (Some between) None first second = absurd second

pub same_run-itself : (auto : Auto) → HasSameRun auto auto
same_run-itself auto start bank empty =
    (bank, empty, λ nothing. nothing, λ word. find_same-itself auto (run auto (start_with start bank) word))

pub same_run-through : (auto middle given : Auto) → HasSameRun auto middle → HasSameRun middle given → HasSameRun auto given
same_run-through auto middle given first second start bank empty =
    let between = first start bank empty in
    let source = second start between.0 between.1 in (
      source.0,
      source.1,
      λ nothing. source.2 (between.2 nothing),
      λ word. find_same-through auto middle given (run auto (start_with start bank) word) (run middle (start_with start between.0) word)
          (run given (start_with start source.0) word) (between.3 word) (source.3 word),
    )
