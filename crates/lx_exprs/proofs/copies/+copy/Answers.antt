use Rattle.std.proofs.Common.{◌≡◌, ◌∙◌, ap, sym, suc, ◌+◌, arith, map, rules}
use Rattle.std.proofs.lemmas.List.{take_all}
use Rattle.lx_regex.specs.Expr.{size_of, term_of}
use Rattle.lx_regex.specs.declared.expr.Expr.{Expr, the_lemmas}
use Rattle.lx_regex.specs.Kinds.{kinds_of}
use Rattle.lx_exprs.specs.Meanings.{moved, shifted}
use Rattle.lx_exprs.proofs.Contents.KindContents.{alt-moved, cat-moved, rep-moved}
use Rattle.lx_exprs.proofs.Contents.MemberCopies.{map-copies, member-sized, member_below, cat-copies, alt-copies, rep-copies}
use Rattle.lx_exprs.proofs.copies.+copy.Goals as goal

pub copy_members-loop-member-preserved : goal.copy_members-loop-member-preserved
copy_members-loop-member-preserved t c =
    let next : c.loop-member.member-index + 1 ≡ suc c.loop-member.member-index = omega arith in
    let members = c.args.members.now in
    let place = c.loop-member.member-index in
    let pushed = c.in_ok-push.ensures.items in
    let copy = c.in_ok-copy.field-0 in record {
      terms =
          rw next
          (map-copies (term_of 0) (λ (member : Expr). shifted c.args.by c.args.groups (term_of 0 member)) place members c.loop-member.copies.items c.push.new.self.items c.member-item.result copy c.loop-member-test.true
          c.member-item.is pushed c.in_ok-copy.ensures.term c.loop-member.invariant.terms);
      sizes = λ sized.
          rw next
          (map-copies size_of size_of place members c.loop-member.copies.items c.push.new.self.items c.member-item.result copy c.loop-member-test.true
          c.member-item.is pushed (c.in_ok-copy.ensures.size (member-sized c.args.groups place members c.member-item.result sized c.loop-member-test.true c.member-item.is))
          (c.loop-member.invariant.sizes sized));
      kinds =
          rw next
          (map-copies kinds_of (λ (member : Expr). moved c.args.by (kinds_of member)) place members c.loop-member.copies.items c.push.new.self.items c.member-item.result copy c.loop-member-test.true
          c.member-item.is pushed c.in_ok-copy.ensures.kinds c.loop-member.invariant.kinds);
    }

pub copy_members-returns-clause-terms : goal.copy_members-returns-clause-terms
copy_members-returns-clause-terms t c =
    c.loop-member.invariant.terms
    ∙ ap (map (λ (member : Expr). shifted c.args.by c.args.groups (term_of 0 member))) (take_all c.loop-member.member-index c.args.members.now c.loop-member-test.false)

pub copy-returns-in_ok-copy_members-in-Cat-clause-term : goal.copy-returns-in_ok-copy_members-in-Cat-clause-term
copy-returns-in_ok-copy_members-in-Cat-clause-term t c =
    let by = c.args.by in
    let groups = c.args.groups in
    cat-copies by groups c.in_ok-copy_members-in-Cat.field-0 c.in-Cat.members
    (c.in_ok-copy_members-in-Cat.ensures.terms ∙ ap (map (λ (member : Expr). shifted by groups (term_of 0 member))) c.deref.ensures.value)
    ∙ ap (λ e. shifted by groups (term_of 0 e)) (sym c.in-Cat.is)

pub copy-returns-in_ok-copy_members-in-Alt-clause-term : goal.copy-returns-in_ok-copy_members-in-Alt-clause-term
copy-returns-in_ok-copy_members-in-Alt-clause-term t c =
    let by = c.args.by in
    let groups = c.args.groups in
    alt-copies by groups c.in_ok-copy_members-in-Alt.field-0 c.in-Alt.members
    (c.in_ok-copy_members-in-Alt.ensures.terms ∙ ap (map (λ (member : Expr). shifted by groups (term_of 0 member))) c.deref-in-Alt.ensures.value)
    ∙ ap (λ e. shifted by groups (term_of 0 e)) (sym c.in-Alt.is)

pub copy-returns-in_ok-body-in-Rep-clause-term : goal.copy-returns-in_ok-body-in-Rep-clause-term
copy-returns-in_ok-body-in-Rep-clause-term t c =
    let by = c.args.by in
    let groups = c.args.groups in
    rep-copies by groups c.in_ok-body-in-Rep.body c.in-Rep.body c.in-Rep.low c.in-Rep.high
    (ap (term_of 0) c.in_ok-body-in-Rep.ensures.ok ∙ c.in_ok-copy-in-Rep.ensures.term ∙ ap (λ e. shifted by groups (term_of 0 e)) c.deref-in-Rep.ensures)
    ∙ ap (λ e. shifted by groups (term_of 0 e)) (sym c.in-Rep.is)

pub copy_members-copy-requires : goal.copy_members-copy-requires
copy_members-copy-requires t c =
    let below = member_below 0 128 c.loop-member.member-index c.args.members.now c.member-item.result c.requires.tags c.loop-member-test.true c.member-item.is in
    (search (rules, the_lemmas), (c.requires.by, (c.requires.groups, below)))

pub copy_members-returns-clause-kinds : goal.copy_members-returns-clause-kinds
copy_members-returns-clause-kinds t c =
    c.loop-member.invariant.kinds
    ∙ ap (map (λ (member : Expr). moved c.args.by (kinds_of member))) (take_all c.loop-member.member-index c.args.members.now c.loop-member-test.false)

pub copy-returns-in_ok-copy_members-in-Cat-clause-kinds : goal.copy-returns-in_ok-copy_members-in-Cat-clause-kinds
copy-returns-in_ok-copy_members-in-Cat-clause-kinds t c =
    let by = c.args.by in
    cat-moved by c.in_ok-copy_members-in-Cat.field-0 c.in-Cat.members
    (c.in_ok-copy_members-in-Cat.ensures.kinds ∙ ap (map (λ (member : Expr). moved by (kinds_of member))) c.deref.ensures.value)
    ∙ ap (λ e. moved by (kinds_of e)) (sym c.in-Cat.is)

pub copy-returns-in_ok-copy_members-in-Alt-clause-kinds : goal.copy-returns-in_ok-copy_members-in-Alt-clause-kinds
copy-returns-in_ok-copy_members-in-Alt-clause-kinds t c =
    let by = c.args.by in
    alt-moved by c.in_ok-copy_members-in-Alt.field-0 c.in-Alt.members
    (c.in_ok-copy_members-in-Alt.ensures.kinds ∙ ap (map (λ (member : Expr). moved by (kinds_of member))) c.deref-in-Alt.ensures.value)
    ∙ ap (λ e. moved by (kinds_of e)) (sym c.in-Alt.is)

pub copy-returns-in_ok-body-in-Rep-clause-kinds : goal.copy-returns-in_ok-body-in-Rep-clause-kinds
copy-returns-in_ok-body-in-Rep-clause-kinds t c =
    let by = c.args.by in
    rep-moved by c.in_ok-body-in-Rep.body c.in-Rep.body c.in-Rep.low c.in-Rep.high
    (ap kinds_of c.in_ok-body-in-Rep.ensures.ok ∙ c.in_ok-copy-in-Rep.ensures.kinds ∙ ap (λ e. moved by (kinds_of e)) c.deref-in-Rep.ensures)
    ∙ ap (λ e. moved by (kinds_of e)) (sym c.in-Rep.is)
