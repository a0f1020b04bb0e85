use Rattle.std.proofs.Common.{refl}
use Rattle.lx_posix.proofs.Made.ClosuresMade.{built-few, closure-made, kernel-few, kernel-found, kernel-places, kernel-searchable, kernel-starts}
use Rattle.lx_posix.proofs.closures.closure_of.Goals as goal

pub beginnings-requires-clause-places : goal.beginnings-requires-clause-places
beginnings-requires-clause-places c = kernel-places c.args.t.now c.requires.built c.args.is_first c.args.kernel.now c.requires.reached

pub beginnings-requires-clause-few : goal.beginnings-requires-clause-few
beginnings-requires-clause-few c = built-few c.args.t.now c.requires.built

pub starts-requires : goal.starts-requires
starts-requires c =
    rw (c.deref.ensures.value)
    (kernel-few c.args.t.now c.requires.built c.args.is_first c.args.kernel.now c.requires.reached c.in_ok-beginnings.beginnings.items
    c.in_ok-beginnings.ensures c.requires.short)

pub search-requires-clause-searchable : goal.search-requires-clause-searchable
search-requires-clause-searchable c =
    rw (c.deref-2.ensures.value)
    (kernel-searchable c.args.t.now c.requires.built c.args.is_first c.args.kernel.now c.requires.reached c.in_ok-beginnings.beginnings.items
    c.in_ok-beginnings.ensures)

pub search-requires-clause-starts : goal.search-requires-clause-starts
search-requires-clause-starts c =
    rw (c.deref-2.ensures.value, c.deref-3.ensures.value)
    (kernel-starts c.args.t.now c.requires.built c.args.is_first c.args.kernel.now c.requires.reached c.in_ok-beginnings.beginnings.items
    c.in_ok-beginnings.ensures c.in_ok-starts.starts.items (rw (c.deref.ensures.value) at c.in_ok-starts.ensures.all))

pub reaches_of-requires-clause-few : goal.reaches_of-requires-clause-few
reaches_of-requires-clause-few c = built-few c.args.t.now c.requires.built

pub reaches_of-requires-clause-founds : goal.reaches_of-requires-clause-founds
reaches_of-requires-clause-founds c =
    rw (c.deref-4.ensures.value, c.deref-5.ensures.value)
    (kernel-found c.args.t.now c.requires.built c.args.is_first c.args.kernel.now c.requires.reached c.in_ok-beginnings.beginnings.items
    c.in_ok-beginnings.ensures c.in_ok-starts.starts.items (rw (c.deref.ensures.value) at c.in_ok-starts.ensures.all) c.in_ok-founds.founds.items
    (rw (c.deref-2.ensures.value, c.deref-3.ensures.value) at c.in_ok-founds.ensures.listed)
    (rw (c.deref-2.ensures.value) at c.in_ok-founds.ensures.found))

pub returns : goal.returns
returns c =
    closure-made c.args.t.now c.requires.built c.args.is_first c.args.kernel.now c.requires.reached c.in_ok-beginnings.beginnings.items
    c.in_ok-beginnings.ensures c.in_ok-starts.starts.items (rw (c.deref.ensures.value) at c.in_ok-starts.ensures.all) c.in_ok-founds.founds.items
    (rw (c.deref-2.ensures.value, c.deref-3.ensures.value) at c.in_ok-founds.ensures.listed)
    (rw (c.deref-2.ensures.value) at c.in_ok-founds.ensures.found) _ refl refl
    (rw (c.deref-4.ensures.value, c.deref-5.ensures.value) at c.in_ok-targets.ensures.reaches)
    (rw (c.deref-4.ensures.value, c.deref-5.ensures.value) at c.in_ok-targets.ensures.origins)
