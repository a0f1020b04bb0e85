-- What a put of a text does to a sink, which may take several puts of bytes.
use Rattle.std.specs.Prelude.{◌≡◌, ℕ, ◌≤◌, List, Option, Result, OnOk, OnErr, IfErr}
use Rattle.lx_files.specs.Taking.{GivesFront, RefusesPut, WantsMemory, given_then}
use Rattle.lx_files.specs.declared.sinks.PutAnswer.{PutAnswer}

-- by what was given before and after, and by the counts of faults and of wants: the text was given without a fault, or a front of it and
-- an answer that says why
pub record IsPut {A : Type 0} (given given' : Option (List ℕ)) (faults faults' wants wants' : ℕ) (text : List ℕ) (result : Result A PutAnswer) : Type 0 where
  pub gave : OnOk result (given' ≡ given_then given text)
  pub calm : OnOk result (faults' ≡ faults)
  pub refuses : IfErr result (RefusesPut faults faults')
  pub lacks : IfErr result (WantsMemory wants wants')
  pub front : OnErr result (GivesFront given given' text)
  pub never_falls : faults ≤ faults'
  pub wants_never_fall : wants ≤ wants'
