use Rattle.lx_compile.proofs.walk.resolve_behind.Goals as goal

pub returns-clause-parts : goal.returns-clause-parts
returns-clause-parts c =
    let walked = c.in_ok-append_parts.ensures.parts in
    (walked.0, walked.2, c.in_ok-names.ensures walked.0 walked.1)
