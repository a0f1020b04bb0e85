use Rattle.std.proofs.Common.{refl}
use Rattle.lx_auto.proofs.LiveExamples.{live-after_dot, not_live-at_first}
use Rattle.lx_auto.proofs.examples.examples_hold.Goals as goal

pub returns-clause-runs : goal.returns-clause-runs
returns-clause-runs c = record { ends_here = refl; falls_back = refl; nothing = refl; no_run = refl }

pub returns-clause-lists : goal.returns-clause-lists
returns-clause-lists c = record { swapped = refl; read_before = refl; last_counts = refl; marks_follow = refl }

pub returns-clause-effects : goal.returns-clause-effects
returns-clause-effects c = record { last_counts = refl; marks_follow = refl; upon_another = refl; taken_away = refl; marks_stay = refl }

pub returns-clause-live : goal.returns-clause-live
returns-clause-live c = record { after_dot = live-after_dot; at_first = not_live-at_first }
