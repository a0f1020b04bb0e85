use Rattle.lx_regex.specs.Pattern.{terms_of}
use Rattle.lx_tdfa.specs.Promise.{IsAutoUnder}
use Rattle.lx_compile.proofs.PolicyKernels.{ends_by_posix, ends_greedily}
use Rattle.lx_compile.proofs.determinized.determinized.Goals as goal

pub returns-then-options : goal.returns-then-options
returns-then-options c patterns built fit =
    let options = c.args.options.now in
    ends_by_posix options.enc (terms_of patterns) c.args.at (λ policy. IsAutoUnder policy options.enc patterns) options.posix
    c.determinize_posix.result c.if-options.true (c.determinize_posix.ensures options.enc patterns built fit)

pub returns-else-options : goal.returns-else-options
returns-else-options c patterns built fit =
    let options = c.args.options.now in
    ends_greedily options.enc (terms_of patterns) c.args.at (λ policy. IsAutoUnder policy options.enc patterns) options.posix
    c.determinize.result c.if-options.false (c.determinize.ensures.automaton options.enc patterns built fit)
