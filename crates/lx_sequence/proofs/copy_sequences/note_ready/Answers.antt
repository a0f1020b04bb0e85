use Rattle.std.proofs.Common.{◌≡◌, ◌&&◌, nat_cmp, nat_eq, if◌then◌else◌, Some, ◌∙◌, ap, sym}
use Rattle.std.specs.BTreeMap.{get}
use Rattle.std.specs.BTreeSet.{contains}
use Rattle.lx_sequence.specs.CopyOps.{seen_copy}
use Rattle.lx_sequence.proofs.WaitingCopies.{AreKept-put, AreKept-unknown, is_unread-counted}
use Rattle.lx_sequence.proofs.copy_sequences.note_ready.Goals as goal

pub copy_at-copy-requires : goal.copy_at-copy-requires
copy_at-copy-requires c =
    let found : get nat_cmp c.args.list.now.places c.args.reg ≡ Some c.in-Some.place =
    sym (c.copied.ensures ∙ c.get.ensures.value) ∙ c.in-Some.is in
    (c.requires.noted.places.known c.args.reg c.in-Some.place found).0

pub returns-in_ok-put_place-clause-kept : goal.returns-in_ok-put_place-clause-kept
returns-in_ok-put_place-clause-kept c =
    AreKept-put c.args.spare c.args.list.now c.requires.noted c.args.reg c.requires.others c.in-Some.place c.put_place.new.places
    c.is_unread.result
    (sym (c.copied.ensures ∙ c.get.ensures.value) ∙ c.in-Some.is)
    (c.is_unread.ensures
    ∙ is_unread-counted c.args.spare c.args.list.now c.requires.noted c.in-Some.place (seen_copy c.copy_at-copy.result) c.copy_at-copy.ensures)
    (λ other.
    c.in_ok-put_place.ensures other
    ∙ ap (λ b. if nat_eq other c.in-Some.place then b && c.is_unread.result else contains nat_cmp c.args.list.now.ready other)
    c.contains.ensures)

pub returns-in_default-clause-kept : goal.returns-in_default-clause-kept
returns-in_default-clause-kept c =
    AreKept-unknown c.args.spare c.args.list.now c.requires.noted c.args.reg c.requires.others
    (sym (c.copied.ensures ∙ c.get.ensures.value) ∙ c.in_default.is)
