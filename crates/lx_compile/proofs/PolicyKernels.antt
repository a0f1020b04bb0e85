-- Automata by the trees that are meant, and too many kernels by these.
use Rattle.std.proofs.Common.{◌≡◌, Bool, true, false, List, Result, MatchResult, sym, subst}
use Rattle.lx_auto.specs.declared.automaton.Auto.{Auto}
use Rattle.lx_base.specs.declared.faults.Stop.{Stop}
use Rattle.lx_base.specs.declared.places.Pos.{Pos}
use Rattle.lx_base.specs.declared.settings.Enc.{Enc}
use Rattle.lx_posix.specs.PosixKernel.{HasTooManyPosixKernels}
use Rattle.lx_regex.specs.Kernel.{HasTooManyKernels}
use Rattle.lx_regex.specs.Order.{Policy, greedy, posix}
use Rattle.lx_regex.specs.Term.{Term}
use Rattle.lx_tdfa.specs.Making.{StopsBy}
use Rattle.lx_compile.specs.Options.{policy_where}
use Rattle.lx_compile.specs.ScannerFaults.{HasTooMany}

module _ (enc : Enc) (rules : List Term) (at : Pos) (IsRight : Policy → Auto → Type 0) where
  -- the automaton is one by the trees that are meant, and there are not too many kernels; or there are
  abbrev Ends : (by_posix : Bool) → Result Auto Stop → Type 0
  Ends by_posix result =
      MatchResult result (λ auto. IsRight (policy_where by_posix) auto × ¬ HasTooMany (policy_where by_posix) enc rules)
      (StopsBy at (HasTooMany (policy_where by_posix) enc rules))

  pub ends_greedily : (by_posix : Bool) (result : Result Auto Stop) → by_posix ≡ false
      → MatchResult result (λ auto. IsRight greedy auto × ¬ HasTooManyKernels enc rules) (StopsBy at (HasTooManyKernels enc rules))
      → Ends by_posix result
  ends_greedily by_posix result is ended = subst (λ by. Ends by result) (sym is) ended

  pub ends_by_posix : (by_posix : Bool) (result : Result Auto Stop) → by_posix ≡ true
      → MatchResult result (λ auto. IsRight posix auto × ¬ HasTooManyPosixKernels enc rules) (StopsBy at (HasTooManyPosixKernels enc rules))
      → Ends by_posix result
  ends_by_posix by_posix result is ended = subst (λ by. Ends by result) (sym is) ended
