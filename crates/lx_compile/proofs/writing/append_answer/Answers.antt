use Rattle.lx_compile.proofs.writing.append_answer.Goals as goal

pub returns : goal.returns
returns c = λ made are.
    let is = c.in_ok-body.ensures made are in
    let gives = c.append_faultless.ensures made are is in
    rw is at gives
