-- What events do last to each tag, gathered in one list.
use Rattle.std.specs.Prelude.{◌≡◌, ◌<◌, ℕ, List, Option, None, Bool, get_or}
use Rattle.lx_tnfa.specs.declared.states.Event.{Event}
use Rattle.lx_tdfa.specs.Registers.{last_mark}

-- what is noted of a tag; nothing behind the end
abbrev pub mark_of : (marks : List (Option Bool)) → (tag : ℕ) → Option Bool
mark_of marks tag = get_or marks tag None

-- of each of the first tags, so many as are counted, it is noted what the events do last to it
abbrev pub AreMarks : (marks : List (Option Bool)) → List Event → (count : ℕ) → Type 0
AreMarks marks events count = (tag : ℕ) → tag < count → mark_of marks tag ≡ last_mark tag events None
