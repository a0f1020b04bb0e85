use Rattle.lx_auto.proofs.TranslatedWalks.{IsLive-names, IsReached-translated, IsReached-translated_back}
use Rattle.lx_auto.proofs.laws.translations_keep_what_is_live.Goals as goal

pub returns-clause-points : goal.returns-clause-points
returns-clause-points c = λ given answer names point is.
    (IsReached-translated_back given answer names is point, IsReached-translated given answer names is point)

pub returns-clause-live : goal.returns-clause-live
returns-clause-live c = IsLive-names
