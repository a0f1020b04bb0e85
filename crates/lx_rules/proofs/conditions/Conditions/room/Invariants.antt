use Rattle.std.proofs.Common.{◌≡◌, drop, map}
use Rattle.lx_exprs.specs.Values.{IsRoom}
use Rattle.lx_rules.specs.Conditions.{room_under, wider}
use Rattle.lx_rules.proofs.conditions.Conditions.room.Given as goal

abbrev pub invariant-loop-cond : goal.invariant-loop-cond
invariant-loop-cond l = record {
  room : wider l.room (room_under l.self (map (λ cond. cond.now) (drop l.cond-index l.conds))) ≡ room_under l.self (map (λ cond. cond.now) l.conds);
  within : IsRoom l.room;
}
