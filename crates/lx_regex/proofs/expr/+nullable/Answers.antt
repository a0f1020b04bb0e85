use Rattle.std.proofs.Common.{◌≡◌, ◌+◌, suc, refl, sym, subst, true, false, drop, arith, ⊎_elim, eq-eqb}
use Rattle.lx_regex.proofs.Trees.NoUnits.{AreNullable, LiesBehind, IsAnswer, answer-empty, answer-class, answer-any_unit, answer-stag, answer-mtag, answer-cat, answer-alt, answer-group, answer-none, answer-some, nullable_more, nullable_end, behind_more, behind_end, row_at, choice_at, yes, no, not_true}
use Rattle.lx_regex.proofs.expr.+nullable.Goals as goal

pub nullable-returns-in-Empty : goal.nullable-returns-in-Empty
nullable-returns-in-Empty t c =
    let e = c.args.expr.now in
    ⊎_elim (λ h. answer-empty e h) (λ h. ⊎_elim (λ k. answer-stag e k.0 k.1) (λ k. answer-mtag e k.0 k.1) h) c.in-Empty.is

pub nullable-returns-in-Empty-2 : goal.nullable-returns-in-Empty-2
nullable-returns-in-Empty-2 t c =
    let e = c.args.expr.now in
    ⊎_elim (λ h. answer-empty e h) (λ h. ⊎_elim (λ k. answer-stag e k.0 k.1) (λ k. answer-mtag e k.0 k.1) h) c.in-Empty.is

pub nullable-returns-in-Empty-3 : goal.nullable-returns-in-Empty-3
nullable-returns-in-Empty-3 t c =
    let e = c.args.expr.now in
    ⊎_elim (λ h. answer-empty e h) (λ h. ⊎_elim (λ k. answer-stag e k.0 k.1) (λ k. answer-mtag e k.0 k.1) h) c.in-Empty.is

pub nullable-returns-in-Class : goal.nullable-returns-in-Class
nullable-returns-in-Class t c = ⊎_elim (λ h. answer-class c.args.expr.now h.0 h.1) (λ h. answer-any_unit c.args.expr.now h) c.in-Class.is

pub nullable-returns-in-Class-2 : goal.nullable-returns-in-Class-2
nullable-returns-in-Class-2 t c = ⊎_elim (λ h. answer-class c.args.expr.now h.0 h.1) (λ h. answer-any_unit c.args.expr.now h) c.in-Class.is

pub nullable-returns-in-Cat : goal.nullable-returns-in-Cat
nullable-returns-in-Cat t c =
    answer-cat c.all_nullable.result c.args.expr.now c.in-Cat.members c.in-Cat.is
    (λ enc tags part. rw c.deref.ensures.value at (c.all_nullable.ensures enc tags part))

pub nullable-returns-in-Alt : goal.nullable-returns-in-Alt
nullable-returns-in-Alt t c =
    answer-alt c.some_nullable.result c.args.expr.now c.in-Alt.members c.in-Alt.is
    (λ enc tags part. rw c.deref-in-Alt.ensures.value at (c.some_nullable.ensures enc tags part))

pub nullable-returns-in-Group : goal.nullable-returns-in-Group
nullable-returns-in-Group t c =
    let inner = rw c.deref-in-Group.ensures at c.nullable-in-Group.ensures in
    answer-group c.nullable-in-Group.result c.args.expr.now c.in-Group.field-0 c.in-Group.body c.in-Group.is inner

pub nullable-returns-then-low-eq0 : goal.nullable-returns-then-low-eq0
nullable-returns-then-low-eq0 t c =
    let e = c.args.expr.now in
    subst
    (λ b. IsAnswer b e) (sym (eq-eqb c.in-Rep.low 0 c.if-low-eq0.true))
    (answer-none e c.in-Rep.body c.in-Rep.low c.in-Rep.high c.in-Rep.is (c.are_bounds.ensures.0 c.if-are_bounds.true) c.if-low-eq0.true)

pub nullable-returns-else-low-eq0 : goal.nullable-returns-else-low-eq0
nullable-returns-else-low-eq0 t c =
    let inner = rw c.deref-else-low-eq0.ensures at c.nullable.ensures in
    answer-some c.nullable.result c.args.expr.now c.in-Rep.body c.in-Rep.low c.in-Rep.high c.in-Rep.is
    (c.are_bounds.ensures.0 c.if-are_bounds.true) c.if-low-eq0.false inner

pub all_nullable-loop-member-preserved : goal.all_nullable-loop-member-preserved
all_nullable-loop-member-preserved t c more =
    let members = c.args.members.now in
    let i = c.loop-member.member-index in
    let next : i + 1 ≡ suc i = omega arith in
    let answer : IsAnswer true c.member-item.result = subst (λ b. IsAnswer b c.member-item.result) c.if-not-nullable.false c.nullable.ensures in
    c.loop-member.invariant
    (nullable_more members i c.member-item.result c.loop-member-test.true c.member-item.is answer (subst (λ n. AreNullable (drop n members)) next more))

pub all_nullable-returns-then-not-nullable : goal.all_nullable-returns-then-not-nullable
all_nullable-returns-then-not-nullable t c enc tags part =
    let item = c.member-item.result in
    let answer : IsAnswer false item = subst (λ b. IsAnswer b item) c.if-not-nullable.true c.nullable.ensures in
    no (λ has.
    let r = row_at enc tags part c.args.members.now c.loop-member.member-index item c.loop-member-test.true c.member-item.is has in
    not_true ((answer enc tags r.0).1 r.1))

pub all_nullable-returns : goal.all_nullable-returns
all_nullable-returns t c enc tags part =
    yes (c.loop-member.invariant (nullable_end c.args.members.now c.loop-member.member-index c.loop-member-test.false) enc tags part)

pub some_nullable-loop-member-preserved : goal.some_nullable-loop-member-preserved
some_nullable-loop-member-preserved t c =
    let i = c.loop-member.member-index in
    let item = c.member-item.result in
    let next : suc i ≡ i + 1 = omega arith in
    let answer : IsAnswer false item = subst (λ b. IsAnswer b item) c.if-nullable.false c.nullable.ensures in
    subst
    (λ n. LiesBehind n c.args.members.now) next
    (behind_more c.args.members.now i item c.loop-member-test.true c.member-item.is answer c.loop-member.invariant)

pub some_nullable-returns-then-nullable : goal.some_nullable-returns-then-nullable
some_nullable-returns-then-nullable t c enc tags part =
    let item = c.member-item.result in
    let answer : IsAnswer true item = subst (λ b. IsAnswer b item) c.if-nullable.true c.nullable.ensures in
    yes
    (choice_at enc tags part c.args.members.now c.loop-member.member-index item c.loop-member-test.true c.member-item.is
    (λ place. (answer enc tags place).0 refl))

pub some_nullable-returns : goal.some_nullable-returns
some_nullable-returns t c =
    behind_end c.args.members.now c.loop-member.member-index c.loop-member-test.false c.loop-member.invariant
