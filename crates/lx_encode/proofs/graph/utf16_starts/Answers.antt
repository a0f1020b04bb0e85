use Rattle.std.proofs.Common.{◌<◌, ◌∷◌, [], length, refl, sym, subst, arith}
use Rattle.lx_base.specs.declared.settings.Enc.TheVariants.{Utf16}
use Rattle.lx_class.specs.declared.ranges.Range.{Range}
use Rattle.lx_encode.specs.Graph.{AreStarts}
use Rattle.lx_encode.specs.Table.{row_of}
use Rattle.lx_encode.proofs.Spellings.{utf16-1}
use Rattle.lx_encode.proofs.Starts.{AreStarts-cons, StartsWith-grows, two_starts}
use Rattle.lx_encode.proofs.StartRows.{starts_with_one}
use Rattle.lx_encode.proofs.graph.utf16_starts.Goals as goal

pub returns-clause-starts : goal.returns-clause-starts
returns-clause-starts c = λ set canonical ended.
    let old = c.two_unit_start.new.table in
    let rows = c.one_unit_start.new.table in
    let table = c.in_ok-one.ensures.table in
    let two = c.in_ok-two.two in
    let one = c.in_ok-one.one in
    let high : Range = record { lo = 0x10000; hi = 0x10FFFF } in
    let low : Range = record { lo = 0; hi = 0xFFFF } in
    let two_start = StartsWith-grows old rows 1 c.in_ok-two.ensures.table table c.in_ok-one.ensures.grows Utf16 set high two c.in_ok-two.ensures.within (c.in_ok-two.ensures.starts set ended) in
    let one_start = starts_with_one rows table set c.args.points.now ended Utf16 0xFFFF one (row_of rows one)
    c.in_ok-one.ensures.within refl c.in_ok-one.ensures.leads (λ p le. utf16-1 p (omega arith)) in
    let two_within : two < length rows = let lt : two < length old = c.in_ok-two.ensures.within in omega (arith, c.in_ok-one.ensures.grows.longer) in
    subst (λ l. AreStarts rows Utf16 set (high ∷ low ∷ []) l)
    (sym (two_starts two one c.new-starts.result.items c.push_start.new.starts.items c.push_start-2.new.starts.items c.new-starts.ensures.items c.in_ok-push_start.ensures c.in_ok-push_start-2.ensures))
    (AreStarts-cons rows table Utf16 set high (low ∷ []) two _ two_within two_start
    (AreStarts-cons rows table Utf16 set low [] one [] c.in_ok-one.ensures.within one_start refl))
