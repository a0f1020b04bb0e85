use Rattle.lx_samples.proofs.tests.graphs.+uneven_comb.Given as goal

abbrev pub decreases-uneven_comb : goal.decreases-uneven_comb
decreases-uneven_comb l = l.count
