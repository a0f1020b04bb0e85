use Rattle.lx_samples.proofs.tests.classes.+comb.Given as goal

abbrev pub decreases-comb : goal.decreases-comb
decreases-comb l = l.count
