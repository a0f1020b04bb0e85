use Rattle.std.proofs.Common.{length, arith, sym}
use Rattle.std.proofs.lemmas.Result.{err_from_is_err_and}
use Rattle.lx_files.specs.Counts.{Rose}
use Rattle.lx_split.specs.Includes.{expansion}
use Rattle.lx_split.proofs.ExpandedPieces.{expansion-sound}
use Rattle.lx_compile.proofs.Compilations.{EachIsNear-sound, IsFirstFault-none, IsGiven-of, StopsWith-behind, StopsWith-expansion}
use Rattle.lx_compile.proofs.compiling.compile.Goals as goal

pub returns-in_err-pieces-clause-compiles : goal.returns-in_err-pieces-clause-compiles
returns-in_err-pieces-clause-compiles g c =
    let stops = c.in_err-pieces.ensures.expands in
    let CountRose : Type 0 = Rose (g.F.Files.faults c.args.files.now) (g.F.Files.faults c.expand.new.files) in
    let p = err_from_is_err_and c.from_residual.result c.from_residual.ensures.1 in (
      stops.0,
      stops.1,
      rw (p.1, p.2) (StopsWith-expansion c.args.options.now stops.0 c.args.main.now c.expand.new.names CountRose c.in_err-pieces.field-0.0 stops.2),
    )

pub output_of-requires-clause-near : goal.output_of-requires-clause-near
output_of-requires-clause-near g c =
    let found = c.in_ok-pieces.ensures.expands in
    let pieces = c.in_ok-pieces.pieces in
    EachIsNear-sound (length (expansion c.args.options.now found.0 c.args.main.now).met.names) pieces
    (expansion-sound c.args.options.now found.0 c.args.main.now pieces found.2.0)

pub output_of-requires-clause-few : goal.output_of-requires-clause-few
output_of-requires-clause-few g c =
    let found = c.in_ok-pieces.ensures.expands in
    let few = (expansion-sound c.args.options.now found.0 c.args.main.now c.in_ok-pieces.pieces found.2.0).few in
    omega arith

pub returns-in_err-output_of-clause-compiles : goal.returns-in_err-output_of-clause-compiles
returns-in_err-output_of-clause-compiles g c =
    let found = c.in_ok-pieces.ensures.expands in
    let CountRose : Type 0 = Rose (g.F.Files.faults c.args.files.now) (g.F.Files.faults c.expand.new.files) in
    let p = err_from_is_err_and c.from_residual-in_err-output_of.result c.from_residual-in_err-output_of.ensures.1 in (
      found.0,
      found.1,
      rw (p.1, p.2)
          (StopsWith-behind c.args.options.now found.0 c.args.main.now c.expand.new.names c.in_ok-pieces.pieces found.2 CountRose
          c.in_err-output_of.field-0.0 c.in_err-output_of.ensures),
    )

pub returns-clause-compiles : goal.returns-clause-compiles
returns-clause-compiles g c =
    let options = c.args.options.now in
    let main = c.args.main.now in
    let names = c.expand.new.names in
    let pieces = c.in_ok-pieces.pieces in
    let found = c.in_ok-pieces.ensures.expands in
    let output = c.in_ok-output_of.field-0.output.items in
    let answer = c.in_ok-output_of.ensures in (
      found.0,
      found.1,
      (
        answer.0,
        IsFirstFault-none options found.0 main names pieces found.2 answer.0 answer.1,
        IsGiven-of options found.0 main names pieces found.2 answer.0 output answer.2,
        answer.3,
        sym found.2.1,
      ),
    )
