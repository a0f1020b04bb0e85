use Rattle.std.proofs.Common.{◌≡◌, ◌+◌, ◌-◌, ◌<◌, suc, length, arith, rules, ⊎_elim, subst}
use Rattle.std.proofs.lemmas.Result.{on_ok_weaker}
use Rattle.lx_regex.specs.Term.{parts, parts_of_all}
use Rattle.lx_regex.specs.Expr.{term_of}
use Rattle.lx_regex.specs.declared.expr.Expr.{the_lemmas}
use Rattle.lx_regex.proofs.Trees.Folds.{term_of-cat, term_of-alt, term_of-rep, term_of-group}
use Rattle.lx_regex.proofs.Trees.NoUnits.{terms_in}
use Rattle.lx_regex.proofs.PartTables.PartLists.{form_then_inner, leaf_alone, length-pushed, parts-form, MembersLeft, CopiesLeft, members_more, members_done, members_room, copies_more, copies_done, copies_room, length-parts_of_all}
use Rattle.lx_regex.proofs.parts.+append.Goals as goal

pub append-overflow_cast-inside : goal.append-overflow_cast-inside
append-overflow_cast-inside t c =
    let bound : length c.args.list.now.items + parts (term_of 0 c.args.expr.now) < 4294967296 = c.requires 0 in
    omega (arith, bound, c.len.ensures)

pub append-append_copies-requires : goal.append-append_copies-requires
append-append_copies-requires t c = (
  search (rules, the_lemmas),
  λ tags.
      let e = parts-form c.args.expr.now _ _ c.in-Rep.is (λ tags. term_of-rep tags c.in-Rep.body c.in-Rep.low c.in-Rep.high) tags in
      let count = length-pushed c.args.list.now.items c.push.new.self.items _ c.in_ok-push.ensures.items in
      rw (c.deref.ensures, c.copies.ensures) (omega (arith, c.requires tags, e, count)),
)

pub append-append-requires : goal.append-append-requires
append-append-requires t c = (
  search (rules, the_lemmas),
  λ tags.
      let e = parts-form c.args.expr.now _ _ c.in-Group.is (λ tags. term_of-group tags c.in-Group.field-0 c.in-Group.body) tags in
      let count = length-pushed c.args.list.now.items c.push.new.self.items _ c.in_ok-push.ensures.items in
      rw c.deref-in-Group.ensures (omega (arith, c.requires tags, e, count)),
)

pub append-append_members-requires : goal.append-append_members-requires
append-append_members-requires t c = (
  search (rules, the_lemmas),
  λ tags.
      let members = c.in-Cat.members in
      let count = length-pushed c.args.list.now.items c.push.new.self.items _ c.in_ok-push.ensures.items in
      let e : parts (term_of tags c.args.expr.now) ≡ 1 + parts_of_all (terms_in tags members.items) =
      ⊎_elim
      (λ h. parts-form c.args.expr.now _ _ h (λ tags. term_of-cat tags members) tags)
      (λ h. parts-form c.args.expr.now _ _ h (λ tags. term_of-alt tags members) tags) c.in-Cat.is in
      rw c.deref-in-Cat.ensures.value (omega (arith, c.requires tags, e, count)),
)

pub append-returns-in-Cat : goal.append-returns-in-Cat
append-returns-in-Cat t c =
    let members = c.in-Cat.members in
    let around = c.args.around in
    let len : c.len.result ≡ length c.args.list.now.items = omega (arith, c.len.ensures) in
    let count = length-pushed c.args.list.now.items c.push.new.self.items _ c.in_ok-push.ensures.items in
    on_ok_weaker c.append_members.result
    (λ inner. ⊎_elim
    (λ h. form_then_inner around.rule around.part c.args.child c.args.expr.now _ _ c.args.list.now.items c.push.new.self.items c.append_members.new.list.items _
    h (λ tags. term_of-cat tags members) c.in_ok-push.ensures.items c.in_ok-sort_of.ensures
    (λ tags. rw (c.deref-in-Cat.ensures.value, len, count) at (inner tags)))
    (λ h. form_then_inner around.rule around.part c.args.child c.args.expr.now _ _ c.args.list.now.items c.push.new.self.items c.append_members.new.list.items _
    h (λ tags. term_of-alt tags members) c.in_ok-push.ensures.items c.in_ok-sort_of.ensures
    (λ tags. rw (c.deref-in-Cat.ensures.value, len, count) at (inner tags))) c.in-Cat.is)
    c.append_members.ensures

pub append-returns-in-Rep : goal.append-returns-in-Rep
append-returns-in-Rep t c =
    let around = c.args.around in
    let len : c.len.result ≡ length c.args.list.now.items = omega (arith, c.len.ensures) in
    let count = length-pushed c.args.list.now.items c.push.new.self.items _ c.in_ok-push.ensures.items in
    on_ok_weaker c.append_copies.result
    (λ inner. form_then_inner around.rule around.part c.args.child c.args.expr.now _ _ c.args.list.now.items c.push.new.self.items c.append_copies.new.list.items _
    c.in-Rep.is (λ tags. term_of-rep tags c.in-Rep.body c.in-Rep.low c.in-Rep.high) c.in_ok-push.ensures.items c.in_ok-sort_of.ensures
    (λ tags. rw (c.deref.ensures, c.copies.ensures, len, count) at (inner tags)))
    c.append_copies.ensures

pub append-returns-in-Group : goal.append-returns-in-Group
append-returns-in-Group t c =
    let around = c.args.around in
    let len : c.len.result ≡ length c.args.list.now.items = omega (arith, c.len.ensures) in
    let count = length-pushed c.args.list.now.items c.push.new.self.items _ c.in_ok-push.ensures.items in
    on_ok_weaker c.append.result
    (λ inner. form_then_inner around.rule around.part c.args.child c.args.expr.now _ _ c.args.list.now.items c.push.new.self.items c.append.new.list.items _
    c.in-Group.is (λ tags. term_of-group tags c.in-Group.field-0 c.in-Group.body) c.in_ok-push.ensures.items c.in_ok-sort_of.ensures
    (λ tags. rw (c.deref-in-Group.ensures, len, count) at (inner tags)))
    c.append.ensures

pub append-returns-in-Empty : goal.append-returns-in-Empty
append-returns-in-Empty t c =
    leaf_alone c.args.around.rule c.args.around.part c.args.child c.args.expr.now c.args.list.now.items c.push.new.self.items _
    c.in-Empty.is c.in_ok-push.ensures.items c.in_ok-sort_of.ensures

pub append-returns-in-Empty-2 : goal.append-returns-in-Empty-2
append-returns-in-Empty-2 t c =
    leaf_alone c.args.around.rule c.args.around.part c.args.child c.args.expr.now c.args.list.now.items c.push.new.self.items _
    c.in-Empty.is c.in_ok-push.ensures.items c.in_ok-sort_of.ensures

pub append-returns-in-Empty-3 : goal.append-returns-in-Empty-3
append-returns-in-Empty-3 t c =
    leaf_alone c.args.around.rule c.args.around.part c.args.child c.args.expr.now c.args.list.now.items c.push.new.self.items _
    c.in-Empty.is c.in_ok-push.ensures.items c.in_ok-sort_of.ensures

pub append-returns-in-Empty-4 : goal.append-returns-in-Empty-4
append-returns-in-Empty-4 t c =
    leaf_alone c.args.around.rule c.args.around.part c.args.child c.args.expr.now c.args.list.now.items c.push.new.self.items _
    c.in-Empty.is c.in_ok-push.ensures.items c.in_ok-sort_of.ensures

pub append-returns-in-Empty-5 : goal.append-returns-in-Empty-5
append-returns-in-Empty-5 t c =
    leaf_alone c.args.around.rule c.args.around.part c.args.child c.args.expr.now c.args.list.now.items c.push.new.self.items _
    c.in-Empty.is c.in_ok-push.ensures.items c.in_ok-sort_of.ensures

pub append_members-overflow_cast-child : goal.append_members-overflow_cast-child
append_members-overflow_cast-child t c =
    let many = length-parts_of_all 0 c.args.members.now in
    omega (arith, c.requires 0, many)

pub append_members-append-requires : goal.append_members-append-requires
append_members-append-requires t c = (
  search (rules, the_lemmas),
  λ tags.
      let room =
      members_room c.args.around.rule c.args.around.part c.args.members.now c.args.list.now.items c.loop-child.list.items c.loop-child.child
      c.index-members-child.result c.loop-child-test.true c.index-members-child.is c.loop-child.invariant tags in
      omega (arith, room, c.requires tags),
)

pub append_members-loop-child-preserved : goal.append_members-loop-child-preserved
append_members-loop-child-preserved t c =
    let around = c.args.around in
    let members = c.args.members.now in
    let start = c.args.list.now.items in
    let new = c.append.new.list.items in
    let next : suc c.loop-child.child ≡ c.loop-child.child + 1 = omega arith in
    subst
    (λ n. MembersLeft around.rule around.part members start new n) next
    (members_more around.rule around.part members start c.loop-child.list.items new c.loop-child.child c.index-members-child.result
    c.loop-child-test.true c.index-members-child.is c.loop-child.invariant c.in_ok-append.ensures)

pub append_members-returns : goal.append_members-returns
append_members-returns t c =
    members_done c.args.around.rule c.args.around.part c.args.members.now c.args.list.now.items c.loop-child.list.items c.loop-child.child
    c.loop-child-test.false c.loop-child.invariant

pub append_copies-append-requires : goal.append_copies-append-requires
append_copies-append-requires t c = (
  search (rules, the_lemmas),
  λ tags.
      let around = c.args.around in
      let start = c.args.list.now.items in
      let child = c.loop-child.child in
      let less : c.args.count - child ≡ suc (c.args.count - suc child) = omega (arith, c.loop-child-test.true) in
      let left = subst (λ n. CopiesLeft around.rule around.part c.args.body.now c.args.count start c.loop-child.list.items child n) less c.loop-child.invariant in
      let room = copies_room around.rule around.part c.args.body.now c.args.count start c.loop-child.list.items child (c.args.count - suc child) left tags in
      omega (arith, room, c.requires tags),
)

pub append_copies-loop-child-preserved : goal.append_copies-loop-child-preserved
append_copies-loop-child-preserved t c =
    let around = c.args.around in
    let start = c.args.list.now.items in
    let new = c.append.new.list.items in
    let child = c.loop-child.child in
    let next : suc child ≡ child + 1 = omega arith in
    let less : c.args.count - child ≡ suc (c.args.count - suc child) = omega (arith, c.loop-child-test.true) in
    let left = subst (λ n. CopiesLeft around.rule around.part c.args.body.now c.args.count start c.loop-child.list.items child n) less c.loop-child.invariant in
    subst
    (λ n. CopiesLeft around.rule around.part c.args.body.now c.args.count start new n (c.args.count - n)) next
    (copies_more around.rule around.part c.args.body.now c.args.count start c.loop-child.list.items new child (c.args.count - suc child)
    left c.in_ok-append.ensures)

pub append_copies-returns : goal.append_copies-returns
append_copies-returns t c =
    let around = c.args.around in
    let none : c.args.count - c.loop-child.child ≡ 0 = omega (arith, c.loop-child-test.false) in
    copies_done around.rule around.part c.args.body.now c.args.count c.args.list.now.items c.loop-child.list.items c.loop-child.child
    (subst
    (λ n. CopiesLeft around.rule around.part c.args.body.now c.args.count c.args.list.now.items c.loop-child.list.items c.loop-child.child n) none
    c.loop-child.invariant)
