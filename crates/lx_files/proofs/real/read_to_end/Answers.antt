use Rattle.std.proofs.Common.{arith, IfSome, List, ℕ, ◌≡◌, ◌+◌, length, ap, ◌++◌, ◌<◌, take}
use Rattle.std.specs.Prelude.{option_map}
use Rattle.lx_files.proofs.ReadLemmas.{take-fewer}
use Rattle.lx_files.proofs.real.read_to_end.Goals as goal

pub returns-in-Ok-read_to_end-clause-all : goal.returns-in-Ok-read_to_end-clause-all
returns-in-Ok-read_to_end-clause-all g c =
    let none = c.in-Ok.ensures.items in
    let count = c.in-Ok-read_to_end.ensures.ok in
    let read = c.read_to_end.new.buf.ok.0 in
    let before = c.in-Ok.bytes.ok.0 in
    let empty : length c.in-Ok.bytes.items ≡ 0 = ap (λ (l : List ℕ). length l) none in
    let limit = c.take-front.ensures.limit in
    let most = c.if-count-le-LONGEST_FILE.true in
    let front : IfSome (option_map (take c.take-front.result.limit) (g.F.Read.remaining c.args.file.now)) (λ front. c.read_to_end.new.buf.items ≡ c.in-Ok.bytes.items ++ front) =
    rw c.take-front.ensures.inner at c.in-Ok-read_to_end.ensures.bytes in
    take-fewer (g.F.Read.remaining c.args.file.now) c.take-front.result.limit c.read_to_end.new.buf.items c.in-Ok.bytes.items none front
    (omega (arith, count, read, before, empty, limit, most))
