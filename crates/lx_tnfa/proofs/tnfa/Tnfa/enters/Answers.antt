use Rattle.std.proofs.Common.{◌≡◌, ◌∙◌, Bool, true, false, List, ◌++◌, [], ◌∷◌, Result, Ok, Err, IfOk, inr, sym}
use Rattle.std.proofs.lemmas.Bool.{false≢true}
use Rattle.std.specs.Bool.{MatchBool}
use Rattle.std.specs.Prelude.{Contains}
use Rattle.lx_tnfa.specs.Search.{Enters}
use Rattle.lx_tnfa.specs.Closure.{IsDead}
use Rattle.lx_tnfa.specs.declared.closure.Stop.{Stop}
use Rattle.lx_tnfa.specs.declared.tnfa.Tnfa.{Tnfa}
use Rattle.lx_tnfa.proofs.tnfa.Tnfa.enters.Goals as goal

entered : {E : Type 0} (tnfa : Tnfa) (stop : Stop) (old new : List Stop) (answer : Result Bool E) → ¬ IsDead tnfa stop
    → IfOk answer (λ fresh. MatchBool fresh (¬ Contains old stop × (new ≡ old ++ stop ∷ [])) (Contains old stop × (new ≡ old))) → IfOk answer (Enters tnfa stop old new)
entered tnfa stop old new (Ok true) live added = (live, added.0, added.1)
entered tnfa stop old new (Ok false) live added = (inr added.0, added.1)
entered tnfa stop old new (Err error) live added = added

pub returns : goal.returns
returns c =
    entered c.args.self.now c.args.stop c.args.visited.now c.add.new.self c.add.result
    (λ dead. false≢true (sym c.if-is_dead.false ∙ c.is_dead.ensures.1 dead)) c.add.ensures
