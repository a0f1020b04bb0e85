use Rattle.lx_regex.specs.Pattern.{terms_of}
use Rattle.lx_posix.specs.KernelLists.{ranks_after}
use Rattle.lx_posix.proofs.OneSearch.ProgramSearch.{are_state_depths, has_width, program_places, program_ranks, program_segments}
use Rattle.lx_posix.proofs.laws.one_search_lists_first_segments.Goals as goal

pub returns-clause-segments : goal.returns-clause-segments
returns-clause-segments c enc patterns tnfa word unit deep width of fits depths placed small =
    program_segments enc patterns tnfa of fits word unit deep width depths placed small

pub returns-clause-ranks : goal.returns-clause-ranks
returns-clause-ranks c enc patterns tnfa word unit deep width of fits depths placed small =
    program_ranks enc patterns tnfa of fits word unit deep width depths placed small

pub returns-clause-depths : goal.returns-clause-depths
returns-clause-depths c enc patterns tnfa word of fits = (
  are_state_depths (terms_of patterns) (ranks_after tnfa (terms_of patterns) word),
  program_places enc patterns tnfa of fits word,
  has_width (terms_of patterns) (ranks_after tnfa (terms_of patterns) word),
)
