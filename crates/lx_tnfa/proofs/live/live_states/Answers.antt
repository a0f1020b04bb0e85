use Rattle.std.proofs.Common.{◌∙◌, ◌++◌, ◌∷◌, [], ◌<◌, All, arith, ap, length, sym, subst, vec_len}
use Rattle.std.proofs.lemmas.List.{get_or_read}
use Rattle.lx_tnfa.specs.Live.{list_at}
use Rattle.lx_tnfa.proofs.Searching.ClosureLoop.{none_left}
use Rattle.lx_tnfa.proofs.Liveness.LiveMarks.{lists_within, spreading_begins, spreading_ends, spreading_step, waits_within}
use Rattle.lx_tnfa.proofs.live.live_states.Goals as goal

pub loop-number-init : goal.loop-number-init
loop-number-init c =
    spreading_begins c.args.classes.now c.args.states.now c.in_ok-before.before.items c.in_ok-live.live.items c.push.new.self.items c.requires
    c.in_ok-live.ensures (c.in_ok-push.ensures.items ∙ ap (λ l. l ++ 0 ∷ []) c.new-waiting.ensures.items)

pub index-requires : goal.index-requires
index-requires c =
    let lt =
    waits_within c.args.classes.now c.args.states.now c.in_ok-before.before.items c.loop-number.live.items c.loop-number.waiting.items
    c.pop.new.self.items c.in-Some.number c.in-Some.ensures.items c.loop-number.invariant in
    omega (arith, lt, c.in_ok-before.ensures.count, c.in_ok-before.before.ok.0)

pub mark_each-requires : goal.mark_each-requires
mark_each-requires c =
    let before = c.in_ok-before.before.items in
    let number = c.in-Some.number in
    let marks = c.loop-number.live.items in
    let lt =
    waits_within c.args.classes.now c.args.states.now before marks c.loop-number.waiting.items c.pop.new.self.items number c.in-Some.ensures.items
    c.loop-number.invariant in
    let within : number < length before = omega (arith, lt, c.in_ok-before.ensures.count) in
    let list = c.as_slice.ensures ∙ get_or_read before number c.index.result.now within c.index.ensures [] in
    subst (λ l. All (λ other. other < length c.deref_mut.result.now) l) (sym list)
    (subst (λ m. All (λ other. other < length m) (list_at before number)) (sym c.deref_mut.ensures.value)
    (lists_within c.args.classes.now c.args.states.now before marks number c.in_ok-before.ensures.lists lt c.loop-number.invariant.count))

pub loop-number-preserved : goal.loop-number-preserved
loop-number-preserved c =
    let before = c.in_ok-before.before.items in
    let number = c.in-Some.number in
    let marks = c.loop-number.live.items in
    let lt =
    waits_within c.args.classes.now c.args.states.now before marks c.loop-number.waiting.items c.pop.new.self.items number c.in-Some.ensures.items
    c.loop-number.invariant in
    let within : number < length before = omega (arith, lt, c.in_ok-before.ensures.count) in
    let list = c.as_slice.ensures ∙ get_or_read before number c.index.result.now within c.index.ensures [] in
    (spreading_step c.args.classes.now c.args.states.now before marks c.deref_mut.result.now c.mark_each.new.marks c.as_slice.result.now
    c.loop-number.waiting.items c.pop.new.self.items c.mark_each.new.waiting.items number c.loop-number.live.len c.in_ok-before.ensures.lists list
    c.in-Some.ensures.items c.deref_mut.ensures.value c.loop-number.live.ok.0 c.mark_each.auto.marks c.in_ok-mark_each.ensures.marks
    c.in_ok-mark_each.ensures.waiting c.loop-number.invariant).0

pub loop-number-smaller : goal.loop-number-smaller
loop-number-smaller c =
    let before = c.in_ok-before.before.items in
    let number = c.in-Some.number in
    let marks = c.loop-number.live.items in
    let lt =
    waits_within c.args.classes.now c.args.states.now before marks c.loop-number.waiting.items c.pop.new.self.items number c.in-Some.ensures.items
    c.loop-number.invariant in
    let within : number < length before = omega (arith, lt, c.in_ok-before.ensures.count) in
    let list = c.as_slice.ensures ∙ get_or_read before number c.index.result.now within c.index.ensures [] in
    (spreading_step c.args.classes.now c.args.states.now before marks c.deref_mut.result.now c.mark_each.new.marks c.as_slice.result.now
    c.loop-number.waiting.items c.pop.new.self.items c.mark_each.new.waiting.items number c.loop-number.live.len c.in_ok-before.ensures.lists list
    c.in-Some.ensures.items c.deref_mut.ensures.value c.loop-number.live.ok.0 c.mark_each.auto.marks c.in_ok-mark_each.ensures.marks
    c.in_ok-mark_each.ensures.waiting c.loop-number.invariant).1

pub returns-clause-live : goal.returns-clause-live
returns-clause-live c =
    let none = none_left c.pop.result c.loop-number.waiting.items (vec_len c.loop-number.waiting) (vec_len c.pop.new.self) (sym c.loop-number.waiting.ok.0) c.pop.ensures.cases c.in_default.not-Some in
    spreading_ends c.args.classes.now c.args.states.now c.in_ok-before.before.items c.loop-number.live.items c.loop-number.waiting.items
    c.in_ok-before.ensures.lists none c.loop-number.invariant
