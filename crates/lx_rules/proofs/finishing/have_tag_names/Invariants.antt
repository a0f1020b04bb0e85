use Rattle.std.proofs.Common.{◌↔◌, drop}
use Rattle.std.specs.List.{AllByRecursion}
use Rattle.std.specs.declared.rc.Rc.{Rc}
use Rattle.std.specs.Global.{Global}
use Rattle.std.specs.Prelude.{is_some}
use Rattle.lx_rules.specs.Blocks.{MayBeTag}
use Rattle.lx_rules.specs.declared.kept.KeptRule.{KeptRule}
use Rattle.lx_rules.proofs.finishing.have_tag_names.Given as goal

abbrev pub invariant-loop-rule : goal.invariant-loop-rule
invariant-loop-rule l =
    AllByRecursion (λ (one : Rc KeptRule Global). AllByRecursion (MayBeTag l.format l.names (is_some one.value.slash)) one.value.tags) (drop l.rule-index l.held)
    ↔ AllByRecursion (λ (one : Rc KeptRule Global). AllByRecursion (MayBeTag l.format l.names (is_some one.value.slash)) one.value.tags) l.held
