-- How a run ends, and what it gave.
use Rattle.std.specs.Prelude.{◌≡◌, ◌⊎◌, ℕ, true, List, Option, Some, None, Result, Ok, Err}
use Rattle.std.specs.List.{list_any}
use Rattle.lx_ccode.specs.declared.piece.Piece.{Piece}
use Rattle.lx_ccode.specs.Statements.{all_statements}
use Rattle.lx_files.specs.Counts.{Rose}
use Rattle.lx_files.specs.Taking.{GivesFront, given_then}
use Rattle.lx_files.specs.declared.sinks.PutAnswer.{PutAnswer}
use Rattle.lx_files.specs.declared.sinks.PutAnswer.TheVariants as answer
use Rattle.lx_step.specs.Held.{is_on_histories}
use Rattle.lx_run.specs.Texts.{RunText}
use Rattle.lx_run.specs.declared.ends.RunEnd.{RunEnd}
use Rattle.lx_run.specs.declared.ends.RunEnd.TheVariants.{Done, WindowFull, PutFailed, Memory}

-- a run that has this text ended so: its text was given, or a front of it
abbrev pub EndsAs : RunText → (given given' : Option (List ℕ)) → (faults faults' : ℕ) → RunEnd → Type 0
EndsAs run given given' faults faults' Done =
    (run.full ≡ None) × (given' ≡ given_then given run.text) × (faults' ≡ faults)
EndsAs run given given' faults faults' (WindowFull kept need size) =
    (run.full ≡ Some (record { kept = kept; need = need; size = size })) × (given' ≡ given_then given run.text) × (faults' ≡ faults)
EndsAs run given given' faults faults' PutFailed = Rose faults faults' × GivesFront given given' run.text
EndsAs run given given' faults faults' Memory = GivesFront given given' run.text

-- memory was wanting: a statement of the piece is on histories, or a put was refused for it, by the counts of those before and after
abbrev pub RunLacksMemory : Piece → (wants wants' : ℕ) → Type 0
RunLacksMemory piece wants wants' = (list_any is_on_histories (all_statements piece.blocks) ≡ true) ⊎ Rose wants wants'

-- how a run ends behind its last put
abbrev pub end_behind : {T : Type 0} → Result T PutAnswer → RunEnd
end_behind (Ok value) = Done
end_behind (Err answer.Failed) = PutFailed
end_behind (Err answer.Memory) = Memory
