-- The outcome that the run of an automaton finds on a word.
use Rattle.std.specs.Prelude.{ℕ, List, map, Option, Some, None}
use Rattle.lx_auto.specs.Run.{Found, Standing, at_start, found_behind}
use Rattle.lx_auto.specs.declared.automaton.Auto.{Auto}
use Rattle.lx_regex.specs.Match.{Outcome, matched, unmatched}
use Rattle.lx_regex.specs.declared.rules.Rule.{Rule}
use Rattle.lx_tdfa.specs.Promise.{tag_value}
use Rattle.lx_cover.specs.Cursors.{cursor_at, slash_of}
use Rattle.lx_cover.specs.Machine.{last_standing}

-- the outcome by what is found, where the run stops at an end
abbrev pub outcome_of : List Rule → (end : ℕ) → Option Found → Outcome
outcome_of rules end None = unmatched end
outcome_of rules end (Some found) =
    matched found.rule (cursor_at (slash_of rules found.rule) (map tag_value found.values) found.offset) (map tag_value found.values)

-- the same where the run of an automaton stops
abbrev pub outcome_at : List Rule → Auto → Standing → Outcome
outcome_at rules auto last = outcome_of rules last.offset (found_behind auto last)

-- and where its run on a word stops
abbrev pub outcome_on : List Rule → Auto → (word : List ℕ) → Outcome
outcome_on rules auto word = outcome_at rules auto (last_standing auto (at_start 0) word)
