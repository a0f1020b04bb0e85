use Rattle.std.proofs.Common.{◌≡◌, ◌∙◌, ◌∷◌, ◌++◌, ℕ, List, [], Some, add-one, ap, ap₂, suc, sym, take}
use Rattle.std.specs.Prelude.{slice_get}
use Rattle.std.proofs.Math.Seq.{take-suc}
use Rattle.std.proofs.lemmas.Option.{get_or_from_slice_get, slice_get_within}
use Rattle.lx_compile.proofs.compiling.shared_names.Goals as goal

next : (names : List (List ℕ)) (k : ℕ) (name : List ℕ) → slice_get names k ≡ Some name → take (suc k) names ≡ take k names ++ name ∷ []
next names k name is =
    take-suc names k name (slice_get_within names k name is)
    ∙ ap (λ (one : List ℕ). take k names ++ one ∷ []) (get_or_from_slice_get names k name name is)

pub loop-file-preserved : goal.loop-file-preserved
loop-file-preserved c =
    rw (add-one c.loop-file.file)
    (c.in_ok-push.ensures.items
    ∙ ap₂ (λ (l : List (List ℕ)) (one : List ℕ). l ++ one ∷ []) c.loop-file.invariant (c.in_ok-copy_of.ensures ∙ c.as_bytes.ensures.value)
    ∙ sym (next c.args.names.now c.loop-file.file c.in-Some.name.now c.in-Some.ensures))
