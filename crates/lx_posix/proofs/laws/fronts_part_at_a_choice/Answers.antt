use Rattle.std.proofs.Common.{sym, inl, inr, ⊎_elim}
use Rattle.lx_regex.proofs.KernelCuts.Cuts.{cuts_differ}
use Rattle.lx_posix.proofs.Fronts.FrontsPart.{cuts_part}
use Rattle.lx_posix.proofs.laws.fronts_part_at_a_choice.Goals as goal

pub returns : goal.returns
returns c enc rules j k p q same ij ik u gj gk =
    ⊎_elim
    (λ e. inl e)
    (λ r.
    inr (⊎_elim (λ d. inl (cuts_part enc rules j k p q same ij ik u gj gk d)) (λ d. inr (cuts_part enc rules k j q p (sym same) ik ij (sym u) gk gj d)) r))
    (cuts_differ enc rules j k p q same ij ik u gj gk)
