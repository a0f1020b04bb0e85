use Rattle.std.proofs.Common.{◌≡◌, ◌∙◌, ℕ, ◌+◌, ◌-◌, ◌<◌, ◌≤◌, ◌++◌, ap, sym, subst, arith, List, length, take, drop, replicate}
use Rattle.std.proofs.lemmas.List.{length-take-le}
use Rattle.lx_window.specs.MemorySource.{MemorySource, source_after}
use Rattle.lx_window.specs.Units.{IsUnit, IsWhole}
use Rattle.lx_window.specs.declared.refills.Fill.{Fill}
use Rattle.lx_window.proofs.MemorySources.{Adds-part, answer_of-More, source_after-padded}
use Rattle.lx_window.proofs.PaddedBytes.{length-padded, take-padded}
use Rattle.lx_window.proofs.sources.MemRefillRefill.refill.Goals as goal

pub returns-clause-after : goal.returns-clause-after
returns-clause-after c =
    let source = c.args.self.now in
    let bytes = c.self.inside.ahead.now in
    let zeros = c.self.inside.zeros in
    let count = c.part_length-count.result in
    let held = c.min-held.result in
    let stays = ap (λ (s : MemorySource). s.leaves_next) (sym c.self.view_is) ∙ c.if-self.false in
    let some : 0 < length source.bytes = omega (arith, c.left.ensures, c.if-left-eq0.false) in
    ap (λ (s : MemorySource). record s {
      bytes = take (length bytes - held) (drop held bytes) ++ replicate (zeros - (count - held)) 0;
      leaves_next = s.leaves;
    }) c.self.view_is
    ∙ source_after-padded source count held bytes zeros (ap (λ (s : MemorySource). s.bytes) (sym c.self.view_is)) c.min-held.ensures
    ∙ ap (λ (fill : Fill). source_after fill source)
    (sym (answer_of-More source (length c.args.room.now) count stays some c.part_length-count.ensures))

pub returns-clause-fills : goal.returns-clause-fills
returns-clause-fills c =
    let source = c.args.self.now in
    let bytes = c.self.inside.ahead.now in
    let zeros = c.self.inside.zeros in
    let room = c.args.room.now in
    let count = c.part_length-count.result in
    let count_is = c.part_length-count.ensures in
    let bytes_are : source.bytes ≡ bytes ++ replicate zeros 0 = ap (λ (s : MemorySource). s.bytes) (sym c.self.view_is) in
    let stays = ap (λ (s : MemorySource). s.leaves_next) (sym c.self.view_is) ∙ c.if-self.false in
    let some : 0 < length source.bytes = omega (arith, c.left.ensures, c.if-left-eq0.false) in
    let room_front : length (take count room) ≡ count = length-take-le count room (omega (arith, count_is)) in
    let within : count ≤ length bytes + zeros = omega (arith, count_is, ap length bytes_are, length-padded bytes zeros) in
    let part_is : c.put_padded.new.part ≡ take count source.bytes =
    c.put_padded.ensures
    ∙ ap (λ (n : ℕ). take n bytes ++ replicate (n - length bytes) 0) room_front
    ∙ sym (take-padded count bytes zeros within)
    ∙ ap (λ (all : List ℕ). take count all) (sym bytes_are) in
    Adds-part source _ room c.put_padded.new.part count c.requires count_is
    (subst (λ (s : MemorySource). IsUnit s.unit) c.self.view_is c.self.invariant.0)
    (subst (λ (s : MemorySource). 0 < s.step) c.self.view_is c.self.invariant.2)
    some
    (subst (λ (s : MemorySource). IsWhole s.unit s.bytes) c.self.view_is c.self.invariant.1)
    stays part_is
    (returns-clause-after c ∙ ap (λ (fill : Fill). source_after fill source) (answer_of-More source (length room) count stays some count_is))
