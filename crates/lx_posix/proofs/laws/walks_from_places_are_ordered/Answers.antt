use Rattle.std.specs.Prelude.{[], ◌∷◌, ◌++◌, reverse}
use Rattle.std.proofs.Common.{sym, subst}
use Rattle.lx_regex.specs.Cut.{IsCut}
use Rattle.lx_regex.specs.Pattern.{terms_of}
use Rattle.lx_tnfa.specs.PlaceNumbers.{number_behind, numbers_after, symbols_added}
use Rattle.lx_tnfa.proofs.Leaves.LeafNumbering.{automaton_numbers}
use Rattle.lx_tdfa.proofs.WordKernels.ProgramKernels.{forwards-reverse}
use Rattle.lx_posix.specs.KernelLists.{posix_kernel_after, ranks_after}
use Rattle.lx_posix.specs.Walks.{after}
use Rattle.lx_posix.proofs.Lists.PlacesWeighed.{places_weighed}
use Rattle.lx_posix.proofs.Lists.ProgramLists.{ranked_after}
use Rattle.lx_posix.proofs.laws.walks_from_places_are_ordered.Goals as goal

pub returns : goal.returns
returns c enc patterns tnfa word unit i j cut other walk way of fits lt h k iy iz jy kz =
    places_weighed enc (terms_of patterns) (numbers_after tnfa) (symbols_added tnfa) (number_behind tnfa)
    (automaton_numbers enc patterns tnfa of fits) (reverse word) (posix_kernel_after tnfa (terms_of patterns) word)
    (ranks_after tnfa (terms_of patterns) word) (ranked_after enc patterns tnfa of fits word) unit i j cut other walk way lt h k iy iz
    (subst (λ v. IsCut enc (terms_of patterns) (v ++ unit ∷ []) (after cut walk)) (sym (forwards-reverse word)) jy)
    (subst (λ v. IsCut enc (terms_of patterns) (v ++ unit ∷ []) (after other way)) (sym (forwards-reverse word)) kz)
