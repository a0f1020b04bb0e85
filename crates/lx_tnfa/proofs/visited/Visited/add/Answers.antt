use Rattle.std.proofs.Common.{subst}
use Rattle.std.proofs.lemmas.List.{map-id}
use Rattle.std.specs.Bool.{MatchBool}
use Rattle.std.specs.Prelude.{◌≡◌, ◌++◌, [], ◌∷◌, Contains}
use Rattle.lx_tnfa.proofs.Searching.SetMembers.{added}
use Rattle.lx_tnfa.proofs.visited.Visited.add.Goals as goal

pub returns : goal.returns
returns g c = λ equality.
    let old = c.self.inside.items.keys in
    let new = c.insert.new.self.keys in
    rw (← c.self.view_is)
    (subst (λ seen. MatchBool c.in_ok-new.new (¬ Contains seen c.args.item × (new ≡ old ++ c.args.item ∷ [])) (Contains seen c.args.item × (new ≡ old))) (map-id old)
    (added (λ item. item) _ equality.equal equality.itself old new c.args.item c.in_ok-new.new c.in_ok-new.ensures.added c.in_ok-new.ensures.keys))
