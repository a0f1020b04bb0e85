use Rattle.std.proofs.Common.{sym, ◌∙◌, ap, drop, ◌+◌, arith}
use Rattle.lx_split.specs.Includes.{first_file}
use Rattle.lx_split.proofs.LibraryLemmas.{ReadsOn-trans, drop-here, first_file-here, first_file-past}
use Rattle.lx_split.proofs.library.Library.find.Goals as goal

pub returns-in_err-learn-clause-reads : goal.returns-in_err-learn-clause-reads
returns-in_err-learn-clause-reads g c =
    ReadsOn-trans (g.F.Files.held c.args.files.now) (g.F.Files.held c.loop-name.files) c.args.self.now c.loop-name.self c.learn.new.self
    c.loop-name.invariant.held_stays c.loop-name.invariant.reads c.learn.ensures.reads

pub returns-then-has-clause-reads : goal.returns-then-has-clause-reads
returns-then-has-clause-reads g c =
    ReadsOn-trans (g.F.Files.held c.args.files.now) (g.F.Files.held c.loop-name.files) c.args.self.now c.loop-name.self c.learn.new.self
    c.loop-name.invariant.held_stays c.loop-name.invariant.reads c.learn.ensures.reads

pub returns-then-has-clause-found : goal.returns-then-has-clause-found
returns-then-has-clause-found g c = λ seen agrees.
    let names = c.args.names.now in
    let name = c.name-item.result in
    let here = drop-here names c.loop-name.name-index name c.loop-name-test.true c.name-item.is in
    c.loop-name.invariant.first seen (c.learn.ensures.reads.agrees seen agrees) ∙ ap (first_file seen) here
    ∙ first_file-here c.learn.new.self seen name (drop (c.loop-name.name-index + 1) names) agrees
    (rw c.as_str-in-loop-name.ensures at (sym c.has.ensures ∙ c.if-has.true))

pub loop-name-preserved : goal.loop-name-preserved
loop-name-preserved g c =
    let names = c.args.names.now in
    let name = c.name-item.result in
    let here = drop-here names c.loop-name.name-index name c.loop-name-test.true c.name-item.is in
    let invariant = c.loop-name.invariant in record {
      first = λ seen agrees.
          invariant.first seen (c.learn.ensures.reads.agrees seen agrees) ∙ ap (first_file seen) here
          ∙ first_file-past c.learn.new.self seen name (drop (c.loop-name.name-index + 1) names) agrees
          (rw c.as_str.ensures at c.in_ok-learn.ensures.known)
          (rw c.as_str-in-loop-name.ensures at (sym c.has.ensures ∙ c.if-has.false));
      reads =
          ReadsOn-trans (g.F.Files.held c.args.files.now) (g.F.Files.held c.loop-name.files) c.args.self.now c.loop-name.self c.learn.new.self
          invariant.held_stays invariant.reads c.learn.ensures.reads;
      never_falls = omega (arith, invariant.never_falls, c.learn.ensures.never_falls);
      held_stays = c.learn.ensures.held_stays ∙ invariant.held_stays;
      write_faults_stay = c.learn.ensures.write_faults_stay ∙ invariant.write_faults_stay;
    }
