use Rattle.std.proofs.Common.{◌≡◌, drop}
use Rattle.lx_ccode.specs.Validity.{ends_once}
use Rattle.lx_creader.proofs.rules.ends_once.Given as goal

abbrev pub invariant-loop-place : goal.invariant-loop-place
invariant-loop-place l =
    ends_once (drop l.place l.statements) ≡ ends_once l.statements
