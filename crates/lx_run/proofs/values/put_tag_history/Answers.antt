use Rattle.std.proofs.Common.{◌≡◌, List, ℕ, [], ◌∷◌, ◌++◌, append_assoc, refl}
use Rattle.lx_run.specs.Values.{history_text}
use Rattle.lx_run.proofs.PutTexts.{HasGiven-first, HasGiven-more, IsPut-first_refused, IsPut-last, IsPut-refused}
use Rattle.lx_run.proofs.values.put_tag_history.Goals as goal

splits : (name history : List ℕ) → 32 ∷ (name ++ 61 ∷ 91 ∷ (history ++ 93 ∷ [])) ≡ (32 ∷ (name ++ 61 ∷ 91 ∷ [])) ++ (history ++ 93 ∷ [])
splits name history = simp append_assoc

pub returns-in_err-put_parts : goal.returns-in_err-put_parts
returns-in_err-put_parts g c =
    IsPut-first_refused _ _ c.from_residual.result (splits c.args.name.now (history_text c.args.entries.now)) c.in_err-put_parts.ensures c.from_residual.ensures.1

pub returns-in_err-put_history : goal.returns-in_err-put_history
returns-in_err-put_history g c =
    let first = HasGiven-first _ _ (splits c.args.name.now (history_text c.args.entries.now)) c.in_ok-put_parts.ensures in
    IsPut-refused _ _ (93 ∷ []) c.from_residual-in_err-put_history.result refl first c.in_err-put_history.ensures c.from_residual-in_err-put_history.ensures.1

pub returns : goal.returns
returns g c =
    let first = HasGiven-first _ _ (splits c.args.name.now (history_text c.args.entries.now)) c.in_ok-put_parts.ensures in
    IsPut-last _ c.put.result (HasGiven-more _ _ (93 ∷ []) refl first c.in_ok-put_history.ensures) c.put.ensures
