use Rattle.std.proofs.Common.{List, ℕ, Some, ◌∷◌, ◌++◌, [], sym, ◌∙◌, ap, subst, length, arith}
use Rattle.lx_files.specs.Counts.{Rose}
use Rattle.lx_split.specs.declared.expanding.ExpandStop.TheVariants as stop
use Rattle.lx_split.specs.declared.includes.IncludeBlock.{IncludeBlock}
use Rattle.lx_split.specs.Includes.{StopsExpansion, expansion}
use Rattle.lx_split.specs.Walks.{whole_from, whole_of}
use Rattle.lx_split.proofs.ExpandStops.{MatchResult-residual, StopsExpansion-as, StopsExpansion-from, StopsExpansion-same}
use Rattle.lx_split.proofs.LibraryLemmas.{IsReadFrom-empty, IsReadFrom-on, Rose-from, sees_any}
use Rattle.lx_split.proofs.expanding.expand.Goals as goal

pub returns-in_err-add-clause-expands : goal.returns-in_err-add-clause-expands
returns-in_err-add-clause-expands g c =
    let any = sees_any (g.F.Files.held c.args.files.now) in
    (any.0, any.1, MatchResult-residual c.from_residual.result stop.Memory _ _ c.from_residual.ensures.1 tt)

pub returns-in_err-take_main-clause-expands : goal.returns-in_err-take_main-clause-expands
returns-in_err-take_main-clause-expands g c =
    let main = c.args.main.now in
    let names = c.in_ok-add.ensures.added.1 ∙ ap (λ (l : List (List ℕ)). l ++ main ∷ []) c.requires in
    let read = c.take_main.ensures.reads.read (IsReadFrom-empty (g.F.Files.held c.args.files.now) c.new-library.result c.new-library.ensures) in
    let given = c.in_err-take_main.field-0.0 in
    let CountRose : Type 0 = Rose (g.F.Files.faults c.args.files.now) (g.F.Files.faults c.take_main.new.files) in (
      read.seen,
      read.sees,
      MatchResult-residual c.from_residual-in_err-take_main.result given _ _ c.from_residual-in_err-take_main.ensures.1
          (subst (λ (l : List (List ℕ)). StopsExpansion (expansion c.args.opts.now read.seen main) CountRose l given) (sym names)
          (c.in_err-take_main.ensures.expands read.seen read.agrees)),
    )

pub loop-walk-init : goal.loop-walk-init
loop-walk-init g c =
    let main = c.args.main.now in
    let names = c.in_ok-add.ensures.added.1 ∙ ap (λ (l : List (List ℕ)). l ++ main ∷ []) c.requires in
    let starts = c.in_ok-take_main.ensures.starts in
    let few = starts.few in
    let depth = starts.depth in
    let count = ap length names in record {
      whole = λ seen agrees.
          c.in_ok-take_main.ensures.expands seen agrees ∙ ap (λ (l : List (List ℕ)). whole_of c.args.opts.now seen l c.take_main.new.walk) (sym names);
      read = c.take_main.ensures.reads.read (IsReadFrom-empty (g.F.Files.held c.args.files.now) c.new-library.result c.new-library.ensures);
      few = omega arith;
      within = starts.within;
      depth = omega arith;
      never_falls = c.take_main.ensures.never_falls;
      held_stays = c.take_main.ensures.held_stays;
      write_faults_stay = c.take_main.ensures.write_faults_stay;
    }

pub returns-in_err-wanted-clause-expands : goal.returns-in_err-wanted-clause-expands
returns-in_err-wanted-clause-expands g c =
    let options = c.args.opts.now in
    let names = c.loop-walk.names in
    let walk = c.next_include.new.self in
    let read = c.loop-walk.invariant.read in
    let advances = rw c.in-Some.is at c.in_ok-include.ensures in
    let given = c.in_err-wanted.field-0.0 in
    let CountRose : Type 0 = Rose (g.F.Files.faults c.args.files.now) (g.F.Files.faults c.loop-walk.files) in
    let whole = expansion options read.seen c.args.main.now in
    let later = whole_from options read.seen names walk (Some c.in-Some.include) in (
      read.seen,
      read.sees,
      MatchResult-residual c.from_residual-in_err-wanted.result given _ _ c.from_residual-in_err-wanted.ensures.1
          (StopsExpansion-same whole later CountRose names given
          (c.loop-walk.invariant.whole read.seen read.agrees ∙ advances.whole options read.seen names)
          (StopsExpansion-as later CountRose names walk.total given (c.in_err-wanted.ensures options read.seen names))),
    )

pub returns-in_err-take_include-clause-expands : goal.returns-in_err-take_include-clause-expands
returns-in_err-take_include-clause-expands g c =
    let options = c.args.opts.now in
    let names = c.loop-walk.names in
    let walk = c.next_include.new.self in
    let wanted = c.in_ok-wanted.wanted in
    let invariant = c.loop-walk.invariant in
    let reads = c.take_include.ensures.reads in
    let read = IsReadFrom-on (g.F.Files.held c.args.files.now) (g.F.Files.held c.loop-walk.files) c.loop-walk.library c.take_include.new.library invariant.held_stays reads invariant.read in
    let advances = rw c.in-Some.is at c.in_ok-include.ensures in
    let given = c.in_err-take_include.field-0.0 in
    let first = g.F.Files.faults c.args.files.now in
    let second = g.F.Files.faults c.loop-walk.files in
    let third = g.F.Files.faults c.take_include.new.files in
    let whole = expansion options read.seen c.args.main.now in
    let later = whole_from options read.seen names walk (Some wanted.include) in (
      read.seen,
      read.sees,
      MatchResult-residual c.from_residual-in_err-take_include.result given _ _ c.from_residual-in_err-take_include.ensures.1
          (StopsExpansion-same whole later (Rose first third) c.take_include.new.names given
          (invariant.whole read.seen (reads.agrees read.seen read.agrees) ∙ advances.whole options read.seen names
          ∙ ap (λ (include : IncludeBlock). whole_from options read.seen names walk (Some include)) (sym c.in_ok-wanted.ensures.include_is))
          (StopsExpansion-from later (Rose first third) (Rose second third) c.take_include.new.names given (Rose-from first second third invariant.never_falls)
          (c.in_err-take_include.ensures.expands read.seen read.agrees))),
    )

pub loop-walk-preserved : goal.loop-walk-preserved
loop-walk-preserved g c =
    let options = c.args.opts.now in
    let names = c.loop-walk.names in
    let walk = c.next_include.new.self in
    let invariant = c.loop-walk.invariant in
    let ensures = c.take_include.ensures in
    let reads = ensures.reads in
    let advances = rw c.in-Some.is at c.in_ok-include.ensures in
    let takes = c.in_ok-take_include.ensures.takes in
    let few = invariant.few in
    let a = advances.waiting in
    let b = advances.total in
    let d = takes.named in
    let e = takes.waiting in
    let f = takes.more in record {
      whole = λ seen agrees.
          invariant.whole seen (reads.agrees seen agrees) ∙ advances.whole options seen names
          ∙ ap (λ (include : IncludeBlock). whole_from options seen names walk (Some include)) (sym c.in_ok-wanted.ensures.include_is)
          ∙ c.in_ok-take_include.ensures.expands seen agrees;
      read = IsReadFrom-on (g.F.Files.held c.args.files.now) (g.F.Files.held c.loop-walk.files) c.loop-walk.library c.take_include.new.library invariant.held_stays reads invariant.read;
      few = omega arith;
      within = takes.within;
      depth = takes.depth;
      never_falls = omega (arith, invariant.never_falls, ensures.never_falls);
      held_stays = ensures.held_stays ∙ invariant.held_stays;
      write_faults_stay = ensures.write_faults_stay ∙ invariant.write_faults_stay;
    }
