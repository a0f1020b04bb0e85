use Rattle.std.specs.Prelude.{[], ◌∷◌, ◌++◌}
use Rattle.std.proofs.Common.{sym, ◌∙◌, subst, append-nil}
use Rattle.lx_posix.specs.Parting.{Parting, events}
use Rattle.lx_posix.specs.Walks.{depth}
use Rattle.lx_posix.proofs.Counted.NumbersOfCuts.{first_of}
use Rattle.lx_posix.proofs.Fronts.LesserWalks.{walks_differ}
use Rattle.lx_posix.proofs.Orders.CutOrder.{within}
use Rattle.lx_posix.proofs.laws.two_walks_from_one_place.Goals as goal

pub returns : goal.returns
returns c enc rules word j y z u uy uz iy iz lesser =
    let d =
    walks_differ enc rules j y z iy.possible.0 iz.possible.0 iy.after_unit iz.after_unit (iy.reads_word ∙ sym iz.reads_word)
    iy.possible.1 iz.possible.1 lesser in
    let r =
    within enc rules j y z iy.possible.0 iz.possible.0 u iy.after_unit iz.after_unit uy uz iy.possible.1 iz.possible.1 d in (
      r.0,
      r.1,
      r.2,
      subst
          (λ l. Parting 1 (depth 0 j.front) (events l) (events z) r.0 r.1 r.2) (append-nil y)
          (subst (λ l. Parting 1 (depth 0 j.front) (events (y ++ [])) (events l) r.0 r.1 r.2) (append-nil z) r.3),
      λ lt. first_of enc rules (word ++ u ∷ []) _ _ _ iz iy (r.4 lt),
      λ ge. first_of enc rules (word ++ u ∷ []) _ _ _ iy iz (r.5 ge),
    )
