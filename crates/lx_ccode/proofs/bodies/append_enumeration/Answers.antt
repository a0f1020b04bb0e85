use Rattle.lx_ccode.proofs.BodyTails.{enumeration_written}
use Rattle.lx_ccode.proofs.bodies.append_enumeration.Goals as goal

pub returns : goal.returns
returns c =
    enumeration_written c.args.names.now c.args.conds.now _ _ _ _ c.in_ok-append_parts.ensures c.in_ok-append_conditions.ensures c.in_ok-append_parts-2.ensures
