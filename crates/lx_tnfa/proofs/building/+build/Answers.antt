use Rattle.std.proofs.Common.{◌<◌, ◌≡◌, ◌+◌, ◌-◌, ◌*◌, ◌∙◌, suc, ap, arith, refl, sym, subst, rules, length, drop, [], ◌∷◌, ◌++◌, None, inl, inr}
use Rattle.std.proofs.lemmas.Result.{on_ok_weaker}
use Rattle.std.specs.Prelude.{ℕ, ◌^◌, List}
use Rattle.lx_regex.specs.Automaton as spec
use Rattle.lx_regex.specs.Automaton.{members_table, alternatives_table, table, move, moves_after, next_member}
use Rattle.lx_regex.specs.Expr.{term_of}
use Rattle.lx_regex.specs.Term.{Term, Terms, nil, cons, copies, parts}
use Rattle.lx_regex.specs.declared.expr.Expr.{the_lemmas}
use Rattle.lx_regex.proofs.Trees.Folds.{term_of-cat, term_of-alt, term_of-rep, term_of-group}
use Rattle.lx_regex.proofs.Trees.NoUnits.{terms_in}
use Rattle.lx_regex.proofs.PartTables.PartLists.{parts-form}
use Rattle.lx_regex.proofs.PartTables.Rows.{table_length}
use Rattle.lx_tnfa.specs.Moves.{counted_size}
use Rattle.lx_tnfa.specs.Rows.{HasRoom, IsBuildable}
use Rattle.lx_tnfa.specs.Shapes.{HasShape}
use Rattle.lx_tnfa.specs.declared.building.Building.{Building}
use Rattle.lx_tnfa.proofs.Construction.BuiltCopies.{CopiesBuilt, copies_begin, copies_end, copies_more, copy_exits, copy_room, size_counts}
use Rattle.lx_tnfa.proofs.Construction.BuiltStates.{both_pushed, buildable_at, built, built_leaf, leads_on, room_inside, member_room, members_begin, members_end, members_more, room_front}
use Rattle.lx_tnfa.proofs.Construction.FirstStates.{counted_times, from_form}
use Rattle.lx_tnfa.proofs.Construction.ShapeFacts.{counted_shape, parts_shape, repeat_body, shape_at, shapes_many}
use Rattle.lx_tnfa.proofs.building.+build.Goals as goal
use Rattle.lx_tnfa.proofs.building.+build.Goals.{build_members-then-i-members, build_members-else-i-members}

-- the states of members: of alternatives, each of which leads to one state, and of a sequence
abbrev alternative_rows : ℕ → Terms → (part : ℕ) → List spec.State
alternative_rows last members part = alternatives_table members part last

abbrev alternative_own : ℕ → Term → Terms → (part : ℕ) → List spec.State
alternative_own last e others part = table e part (move None [] [] last ∷ [])

alternative_none : (last part : ℕ) → alternative_rows last nil part ≡ []
alternative_none last part = refl

alternative_one : (last : ℕ) (e : Term) (others : Terms) (part : ℕ)
    → alternative_rows last (cons e others) part ≡ alternative_own last e others part ++ alternative_rows last others (part + parts e)
alternative_one last e others part = refl

alternative_size : (last : ℕ) (e : Term) (others : Terms) (part : ℕ) → length (alternative_own last e others part) ≡ 2 * parts e
alternative_size last e others part = table_length e part (move None [] [] last ∷ [])

abbrev member_rows : ℕ → Terms → (part : ℕ) → List spec.State
member_rows last members part = members_table members part last

abbrev member_own : ℕ → Term → Terms → (part : ℕ) → List spec.State
member_own last e others part = table e part (move None [] [] (next_member (part + parts e) others last) ∷ [])

member_none : (last part : ℕ) → member_rows last nil part ≡ []
member_none last part = refl

member_one : (last : ℕ) (e : Term) (others : Terms) (part : ℕ)
    → member_rows last (cons e others) part ≡ member_own last e others part ++ member_rows last others (part + parts e)
member_one last e others part = refl

member_size : (last : ℕ) (e : Term) (others : Terms) (part : ℕ) → length (member_own last e others part) ≡ 2 * parts e
member_size last e others part = table_length e part (move None [] [] (next_member (part + parts e) others last) ∷ [])

pub build_alternatives-loop-i-init : goal.build_alternatives-loop-i-init
build_alternatives-loop-i-init t c = record {
  tags = refl;
  built = members_begin (alternative_rows c.args.last) (alternative_own c.args.last) (alternative_none c.args.last) (alternative_one c.args.last) (alternative_size c.args.last) c.args.building.now c.args.first.tags c.args.first.part c.args.members.now c.requires.room;
}

pub build_alternatives-build-requires : goal.build_alternatives-build-requires
build_alternatives-build-requires t c =
    let tags = c.loop-i.invariant.tags in
    let now = c.loop-i.building in
    let item = c.index-members-i.result in
    let room =
    member_room (alternative_rows c.args.last) (alternative_own c.args.last) (alternative_none c.args.last) (alternative_one c.args.last) (alternative_size c.args.last)
    c.args.building.now c.loop-i.building c.args.first.tags c.args.first.part c.args.members.now c.loop-i.site.part c.loop-i.i
    c.index-members-i.result c.loop-i-test.true c.index-members-i.is c.loop-i.invariant.built in
    let term =
    buildable_at c.args.building.now.classes.enc c.args.first.tags c.args.members.now c.loop-i.i item c.loop-i-test.true c.index-members-i.is
    c.requires.terms in
    let has =
    shape_at c.args.first.tags c.args.members.now c.args.shapes.now c.loop-i.i c.index-members-i.result c.index-shapes-i.result c.requires.shapes
    c.loop-i-test.true c.index-members-i.is c.index-shapes-i.is in (
      search (rules, the_lemmas),
      (
        subst (λ n. HasRoom now c.loop-i.site.part (parts (term_of n item))) (sym tags) (room_front _ _ _ _ room),
        (
          subst (λ n. IsBuildable now.classes.enc (term_of n item)) (sym tags)
              (subst (λ enc. IsBuildable enc (term_of c.args.first.tags item)) (sym c.loop-i.invariant.built.builds.enc) term),
          subst (λ n. HasShape (term_of n item) c.index-shapes-i.result) (sym tags) has,
        ),
      ),
    )

pub build_alternatives-overflow_add-site : goal.build_alternatives-overflow_add-site
build_alternatives-overflow_add-site t c =
    let room =
    member_room (alternative_rows c.args.last) (alternative_own c.args.last) (alternative_none c.args.last) (alternative_one c.args.last) (alternative_size c.args.last)
    c.args.building.now c.loop-i.building c.args.first.tags c.args.first.part c.args.members.now c.loop-i.site.part c.loop-i.i
    c.index-members-i.result c.loop-i-test.true c.index-members-i.is c.loop-i.invariant.built in
    let has =
    shape_at c.args.first.tags c.args.members.now c.args.shapes.now c.loop-i.i c.index-members-i.result c.index-shapes-i.result c.requires.shapes
    c.loop-i-test.true c.index-members-i.is c.index-shapes-i.is in
    let count = parts_shape (term_of c.args.first.tags c.index-members-i.result) c.index-shapes-i.result has (omega (arith, room.parts)) in
    omega (arith, count, room.parts)

pub build_alternatives-loop-i-preserved : goal.build_alternatives-loop-i-preserved
build_alternatives-loop-i-preserved t c =
    let tags = c.loop-i.invariant.tags in
    let i = c.loop-i.i in
    let next : suc i ≡ i + 1 = omega arith in
    let room =
    member_room (alternative_rows c.args.last) (alternative_own c.args.last) (alternative_none c.args.last) (alternative_one c.args.last) (alternative_size c.args.last)
    c.args.building.now c.loop-i.building c.args.first.tags c.args.first.part c.args.members.now c.loop-i.site.part c.loop-i.i
    c.index-members-i.result c.loop-i-test.true c.index-members-i.is c.loop-i.invariant.built in
    let has =
    shape_at c.args.first.tags c.args.members.now c.args.shapes.now c.loop-i.i c.index-members-i.result c.index-shapes-i.result c.requires.shapes
    c.loop-i-test.true c.index-members-i.is c.index-shapes-i.is in
    let count = parts_shape (term_of c.args.first.tags c.index-members-i.result) c.index-shapes-i.result has (omega (arith, room.parts)) in
    let own = rw tags at (c.in_ok-build.ensures (move None [] [] c.args.last ∷ []) c.in_ok-exits.ensures) in
    let more =
    members_more (alternative_rows c.args.last) (alternative_own c.args.last) (alternative_none c.args.last) (alternative_one c.args.last) (alternative_size c.args.last)
    c.args.building.now c.loop-i.building c.build.new.building c.args.first.tags c.args.first.part c.args.members.now c.loop-i.site.part i
    c.index-members-i.result c.loop-i-test.true c.index-members-i.is c.loop-i.invariant.built own in
    record { tags = tags; built = rw (count, ← next) more }

pub build_alternatives-returns : goal.build_alternatives-returns
build_alternatives-returns t c =
    members_end (alternative_rows c.args.last) (alternative_own c.args.last) (alternative_none c.args.last) (alternative_one c.args.last) (alternative_size c.args.last)
    c.args.building.now c.loop-i.building c.args.first.tags c.args.first.part c.args.members.now c.loop-i.site.part c.loop-i.i
    c.loop-i-test.false c.loop-i.invariant.built

pub build_members-loop-i-init : goal.build_members-loop-i-init
build_members-loop-i-init t c = record {
  tags = refl;
  built = members_begin (member_rows c.args.last) (member_own c.args.last) (member_none c.args.last) (member_one c.args.last) (member_size c.args.last) c.args.building.now c.args.first.tags c.args.first.part c.args.members.now c.requires.room;
}

pub build_members-build-requires : goal.build_members-build-requires
build_members-build-requires t c =
    let tags = c.loop-i.invariant.tags in
    let now = c.loop-i.building in
    let item = c.index-members-i.result in
    let room =
    member_room (member_rows c.args.last) (member_own c.args.last) (member_none c.args.last) (member_one c.args.last) (member_size c.args.last)
    c.args.building.now c.loop-i.building c.args.first.tags c.args.first.part c.args.members.now c.loop-i.site.part c.loop-i.i
    c.index-members-i.result c.loop-i-test.true c.index-members-i.is c.loop-i.invariant.built in
    let term =
    buildable_at c.args.building.now.classes.enc c.args.first.tags c.args.members.now c.loop-i.i item c.loop-i-test.true c.index-members-i.is
    c.requires.terms in
    let has =
    shape_at c.args.first.tags c.args.members.now c.args.shapes.now c.loop-i.i c.index-members-i.result c.index-shapes-i.result c.requires.shapes
    c.loop-i-test.true c.index-members-i.is c.index-shapes-i.is in (
      search (rules, the_lemmas),
      (
        subst (λ n. HasRoom now c.loop-i.site.part (parts (term_of n item))) (sym tags) (room_front _ _ _ _ room),
        (
          subst (λ n. IsBuildable now.classes.enc (term_of n item)) (sym tags)
              (subst (λ enc. IsBuildable enc (term_of c.args.first.tags item)) (sym c.loop-i.invariant.built.builds.enc) term),
          subst (λ n. HasShape (term_of n item) c.index-shapes-i.result) (sym tags) has,
        ),
      ),
    )

pub build_members-overflow_add-next : goal.build_members-overflow_add-next
build_members-overflow_add-next t c =
    let room =
    member_room (member_rows c.args.last) (member_own c.args.last) (member_none c.args.last) (member_one c.args.last) (member_size c.args.last)
    c.args.building.now c.loop-i.building c.args.first.tags c.args.first.part c.args.members.now c.loop-i.site.part c.loop-i.i
    c.index-members-i.result c.loop-i-test.true c.index-members-i.is c.loop-i.invariant.built in
    let has =
    shape_at c.args.first.tags c.args.members.now c.args.shapes.now c.loop-i.i c.index-members-i.result c.index-shapes-i.result c.requires.shapes
    c.loop-i-test.true c.index-members-i.is c.index-shapes-i.is in
    let count = parts_shape (term_of c.args.first.tags c.index-members-i.result) c.index-shapes-i.result has (omega (arith, room.parts)) in
    omega (arith, count, room.parts)

pub build_members-overflow_mul-to : goal.build_members-overflow_mul-to
build_members-overflow_mul-to t c =
    let room =
    member_room (member_rows c.args.last) (member_own c.args.last) (member_none c.args.last) (member_one c.args.last) (member_size c.args.last)
    c.args.building.now c.loop-i.building c.args.first.tags c.args.first.part c.args.members.now c.loop-i.site.part c.loop-i.i
    c.index-members-i.result c.loop-i-test.true c.index-members-i.is c.loop-i.invariant.built in
    let has =
    shape_at c.args.first.tags c.args.members.now c.args.shapes.now c.loop-i.i c.index-members-i.result c.index-shapes-i.result c.requires.shapes
    c.loop-i-test.true c.index-members-i.is c.index-shapes-i.is in
    let count = parts_shape (term_of c.args.first.tags c.index-members-i.result) c.index-shapes-i.result has (omega (arith, room.parts)) in
    omega (arith, count, room.parts)

pub build_members-loop-i-preserved : goal.build_members-loop-i-preserved
build_members-loop-i-preserved t c =
    let tags = c.loop-i.invariant.tags in
    let i = c.loop-i.i in
    let item = c.index-members-i.result in
    let e = term_of c.args.first.tags item in
    let part = c.loop-i.site.part in
    let next : suc i ≡ i + 1 = omega arith in
    let room =
    member_room (member_rows c.args.last) (member_own c.args.last) (member_none c.args.last) (member_one c.args.last) (member_size c.args.last)
    c.args.building.now c.loop-i.building c.args.first.tags c.args.first.part c.args.members.now c.loop-i.site.part c.loop-i.i
    c.index-members-i.result c.loop-i-test.true c.index-members-i.is c.loop-i.invariant.built in
    let has =
    shape_at c.args.first.tags c.args.members.now c.args.shapes.now c.loop-i.i c.index-members-i.result c.index-shapes-i.result c.requires.shapes
    c.loop-i-test.true c.index-members-i.is c.index-shapes-i.is in
    let count = parts_shape (term_of c.args.first.tags c.index-members-i.result) c.index-shapes-i.result has (omega (arith, room.parts)) in
    let to : c.if-i-members.to ≡ next_member (part + parts e) (terms_in c.args.first.tags (drop (suc i) c.args.members.now)) c.args.last =
    leads_on c.args.first.tags c.args.members.now i (part + parts e) c.args.last c.if-i-members.to
    (elim c.if-i-members.branch [
      | build_members-then-i-members w ↦ inl (omega (arith, w.if-i-members.true), w.to-is ∙ ap (λ n. 2 * (part + n)) count)
      | build_members-else-i-members w ↦ inr (omega (arith, w.if-i-members.false), w.to-is)
    ]) in
    let own = rw (tags, to) at (c.in_ok-build.ensures (move None [] [] c.if-i-members.to ∷ []) c.in_ok-exits.ensures) in
    let more =
    members_more (member_rows c.args.last) (member_own c.args.last) (member_none c.args.last) (member_one c.args.last) (member_size c.args.last)
    c.args.building.now c.loop-i.building c.build.new.building c.args.first.tags c.args.first.part c.args.members.now part i
    item c.loop-i-test.true c.index-members-i.is c.loop-i.invariant.built own in
    record { tags = tags; built = rw (count, ← next) more }

pub build_members-returns : goal.build_members-returns
build_members-returns t c =
    members_end (member_rows c.args.last) (member_own c.args.last) (member_none c.args.last) (member_one c.args.last) (member_size c.args.last)
    c.args.building.now c.loop-i.building c.args.first.tags c.args.first.part c.args.members.now c.loop-i.site.part c.loop-i.i
    c.loop-i-test.false c.loop-i.invariant.built

pub build_copies-loop-number-init : goal.build_copies-loop-number-init
build_copies-loop-number-init t c =
    let r = c.args.repeat in
    let all : copies r.low r.high ≡ c.copies-number-end.result - 0 = omega (arith, c.copies-number-end.ensures) in
    subst
    (CopiesBuilt c.args.building.now c.args.building.now r (term_of c.args.tags c.args.body.now) 0) all
    (copies_begin c.args.building.now r (term_of c.args.tags c.args.body.now) c.requires.room)

pub build_copies-build-requires : goal.build_copies-build-requires
build_copies-build-requires t c =
    let r = c.args.repeat in
    let body = term_of c.args.tags c.args.body.now in
    let now = c.loop-number.building in
    let number = c.loop-number.number in
    let left = c.copies-number-end.result - suc number in
    let less : c.copies-number-end.result - number ≡ suc left = omega (arith, c.loop-number-test.true) in
    let size = size_counts r body number (omega (arith, c.loop-number-test.true, c.copies-number-end.ensures)) c.requires.size in
    let so = subst (CopiesBuilt c.args.building.now now r body number) less c.loop-number.invariant in (
      search (rules, the_lemmas),
      (
        room_front now (r.part + 1 + number * r.size) (parts body) (left * r.size) (copy_room c.args.building.now now r body number left so size),
        (subst (λ enc. IsBuildable enc body) (sym c.loop-number.invariant.builds.enc) c.requires.term, c.requires.shape),
      ),
    )

pub build_copies-loop-number-preserved : goal.build_copies-loop-number-preserved
build_copies-loop-number-preserved t c =
    let r = c.args.repeat in
    let body = term_of c.args.tags c.args.body.now in
    let now = c.loop-number.building in
    let new = c.build.new.building in
    let number = c.loop-number.number in
    let left = c.copies-number-end.result - suc number in
    let next : suc number ≡ number + 1 = omega arith in
    let less : c.copies-number-end.result - number ≡ suc left = omega (arith, c.loop-number-test.true) in
    let size = size_counts r body number (omega (arith, c.loop-number-test.true, c.copies-number-end.ensures)) c.requires.size in
    let so = subst (CopiesBuilt c.args.building.now now r body number) less c.loop-number.invariant in
    let exits = rw (← next) at c.in_ok-exits.ensures in
    let own = c.in_ok-build.ensures (moves_after r.part body r.low r.high (suc number)) (copy_exits r body number c.in_ok-exits.exits c.requires.size exits) in
    subst
    (λ n. CopiesBuilt c.args.building.now new r body n (c.copies-number-end.result - n)) next
    (copies_more c.args.building.now now new r body number left so size own)

pub build_copies-returns : goal.build_copies-returns
build_copies-returns t c =
    let r = c.args.repeat in
    let body = term_of c.args.tags c.args.body.now in
    let none : c.copies-number-end.result - c.loop-number.number ≡ 0 = omega (arith, c.loop-number-test.false) in
    copies_end c.args.building.now c.loop-number.building r body c.loop-number.number
    (subst (CopiesBuilt c.args.building.now c.loop-number.building r body c.loop-number.number) none c.loop-number.invariant)

pub build-build_copies-requires : goal.build-build_copies-requires
build-build_copies-requires t c =
    let tags = c.args.site.tags in
    let low = c.in-Rep.low in
    let high = c.in-Rep.high in
    let body = term_of tags c.in-Rep.body.value in
    let mid : Building = record { states = c.push-2.new.self; classes = c.beginning.new.classes } in
    let e = parts-form c.args.expr.now _ _ c.in-Rep.is (λ tags. term_of-rep tags c.in-Rep.body low high) tags in
    let has = repeat_body tags c.args.expr.now c.in-Rep.body low high c.args.shape.now c.index-inner.result.now c.in-Rep.is c.requires.shape c.index-inner.ensures in
    let few : copies low high * parts body < 2 ^ 31 = omega (arith, e, c.requires.room.parts) in
    let so = c.repeat_of-repeat.ensures ∙ ap (λ n. record { part = c.args.site.part; size = n; low = low; high = high }) (counted_shape low high body c.index-inner.result.now has few) in
    let counts : parts (term_of tags c.args.expr.now) ≡ 1 + copies low high * counted_size low high body =
    e ∙ ap (λ n. 1 + n) (sym (counted_times (copies low high) (parts body))) in
    let room =
    room_inside c.args.building.now mid c.args.site.part (copies low high * counted_size low high body)
    (subst (HasRoom c.args.building.now c.args.site.part) counts c.requires.room) c.in_ok-state.ensures.adds c.in_ok-state.ensures.are_classes in
    let term =
    from_form (IsBuildable c.args.building.now.classes.enc) tags c.args.expr.now _ _ c.in-Rep.is (term_of-rep tags c.in-Rep.body low high) c.requires.term in (
      search (rules, the_lemmas),
      rw (so, c.deref-in-Rep.ensures)
          (room, (refl, (subst (λ enc. IsBuildable enc body) (sym c.in_ok-state.ensures.adds.enc) term, has))),
    )

pub build-returns-in-Cat : goal.build-returns-in-Cat
build-returns-in-Cat t c =
    let mid : Building = record { states = c.push-2.new.self; classes = c.beginning.new.classes } in
    let pushed = both_pushed c.args.building.now.states.items c.push.new.self.items c.push-2.new.self.items _ _ c.in_ok-push.ensures.items c.in_ok-push-2.ensures.items in
    let first = c.in_ok-state.ensures in
    on_ok_weaker c.build_members.result
    (λ inner ways out.
    built c.args.building.now mid c.build_members.new.building c.args.site.tags c.args.site.part c.args.expr.now _ _ c.in_ok-state.state c.args.exits ways
    c.in-Cat.is (term_of-cat c.args.site.tags c.in-Cat.members) first.adds first.are_classes first.held pushed (rw c.deref.ensures.value at inner) out)
    c.build_members.ensures

pub build-returns-in-Alt : goal.build-returns-in-Alt
build-returns-in-Alt t c =
    let mid : Building = record { states = c.push-2.new.self; classes = c.beginning.new.classes } in
    let pushed = both_pushed c.args.building.now.states.items c.push.new.self.items c.push-2.new.self.items _ _ c.in_ok-push.ensures.items c.in_ok-push-2.ensures.items in
    let first = c.in_ok-state.ensures in
    on_ok_weaker c.build_alternatives.result
    (λ inner ways out.
    built c.args.building.now mid c.build_alternatives.new.building c.args.site.tags c.args.site.part c.args.expr.now _ _ c.in_ok-state.state c.args.exits ways
    c.in-Alt.is (term_of-alt c.args.site.tags c.in-Alt.members) first.adds first.are_classes first.held pushed (rw c.deref-in-Alt.ensures.value at inner) out)
    c.build_alternatives.ensures

pub build-returns-in-Rep : goal.build-returns-in-Rep
build-returns-in-Rep t c =
    let tags = c.args.site.tags in
    let mid : Building = record { states = c.push-2.new.self; classes = c.beginning.new.classes } in
    let pushed = both_pushed c.args.building.now.states.items c.push.new.self.items c.push-2.new.self.items _ _ c.in_ok-push.ensures.items c.in_ok-push-2.ensures.items in
    let first = c.in_ok-state.ensures in
    let low = c.in-Rep.low in
    let high = c.in-Rep.high in
    let body = term_of tags c.in-Rep.body.value in
    let e = parts-form c.args.expr.now _ _ c.in-Rep.is (λ tags. term_of-rep tags c.in-Rep.body low high) tags in
    let has = repeat_body tags c.args.expr.now c.in-Rep.body low high c.args.shape.now c.index-inner.result.now c.in-Rep.is c.requires.shape c.index-inner.ensures in
    let few : copies low high * parts body < 2 ^ 31 = omega (arith, e, c.requires.room.parts) in
    let so = c.repeat_of-repeat.ensures ∙ ap (λ n. record { part = c.args.site.part; size = n; low = low; high = high }) (counted_shape low high body c.index-inner.result.now has few) in
    on_ok_weaker c.build_copies.result
    (λ inner ways out.
    built c.args.building.now mid c.build_copies.new.building tags c.args.site.part c.args.expr.now _ _ c.in_ok-state.state c.args.exits ways
    c.in-Rep.is (term_of-rep tags c.in-Rep.body c.in-Rep.low c.in-Rep.high) first.adds first.are_classes first.held pushed
    (rw (so, c.deref-in-Rep.ensures) at inner) out)
    c.build_copies.ensures

pub build-returns-in_ok-ways-in-Group : goal.build-returns-in_ok-ways-in-Group
build-returns-in_ok-ways-in-Group t c =
    let tags = c.args.site.tags in
    let closing = tags + 2 * c.in-Group.number + 1 in
    let mid : Building = record { states = c.push-2.new.self; classes = c.beginning.new.classes } in
    let pushed = both_pushed c.args.building.now.states.items c.push.new.self.items c.push-2.new.self.items _ _ c.in_ok-push.ensures.items c.in_ok-push-2.ensures.items in
    let first = c.in_ok-state.ensures in
    let exits = move None (closing ∷ []) [] (2 * c.args.site.part + 1) ∷ [] in
    on_ok_weaker c.build.result
    (λ inner ways out.
    built c.args.building.now mid c.build.new.building tags c.args.site.part c.args.expr.now _ _ c.in_ok-state.state c.args.exits ways
    c.in-Group.is (term_of-group tags c.in-Group.number c.in-Group.body) first.adds first.are_classes first.held pushed
    (rw c.deref-in-Group.ensures at (inner exits c.in_ok-ways-in-Group.ensures)) out)
    c.build.ensures

pub build-returns-in-Empty : goal.build-returns-in-Empty
build-returns-in-Empty t c ways out =
    let mid : Building = record { states = c.push-2.new.self; classes = c.beginning.new.classes } in
    let pushed = both_pushed c.args.building.now.states.items c.push.new.self.items c.push-2.new.self.items _ _ c.in_ok-push.ensures.items c.in_ok-push-2.ensures.items in
    let first = c.in_ok-state.ensures in
    built_leaf c.args.building.now mid c.args.site.tags c.args.site.part c.args.expr.now c.in_ok-state.state c.args.exits ways c.in-Empty.is
    first.adds first.are_classes first.held pushed out

pub build-returns-in-Empty-2 : goal.build-returns-in-Empty-2
build-returns-in-Empty-2 t c ways out =
    let mid : Building = record { states = c.push-2.new.self; classes = c.beginning.new.classes } in
    let pushed = both_pushed c.args.building.now.states.items c.push.new.self.items c.push-2.new.self.items _ _ c.in_ok-push.ensures.items c.in_ok-push-2.ensures.items in
    let first = c.in_ok-state.ensures in
    built_leaf c.args.building.now mid c.args.site.tags c.args.site.part c.args.expr.now c.in_ok-state.state c.args.exits ways c.in-Empty.is
    first.adds first.are_classes first.held pushed out

pub build-returns-in-Empty-3 : goal.build-returns-in-Empty-3
build-returns-in-Empty-3 t c ways out =
    let mid : Building = record { states = c.push-2.new.self; classes = c.beginning.new.classes } in
    let pushed = both_pushed c.args.building.now.states.items c.push.new.self.items c.push-2.new.self.items _ _ c.in_ok-push.ensures.items c.in_ok-push-2.ensures.items in
    let first = c.in_ok-state.ensures in
    built_leaf c.args.building.now mid c.args.site.tags c.args.site.part c.args.expr.now c.in_ok-state.state c.args.exits ways c.in-Empty.is
    first.adds first.are_classes first.held pushed out

pub build-returns-in-Empty-4 : goal.build-returns-in-Empty-4
build-returns-in-Empty-4 t c ways out =
    let mid : Building = record { states = c.push-2.new.self; classes = c.beginning.new.classes } in
    let pushed = both_pushed c.args.building.now.states.items c.push.new.self.items c.push-2.new.self.items _ _ c.in_ok-push.ensures.items c.in_ok-push-2.ensures.items in
    let first = c.in_ok-state.ensures in
    built_leaf c.args.building.now mid c.args.site.tags c.args.site.part c.args.expr.now c.in_ok-state.state c.args.exits ways c.in-Empty.is
    first.adds first.are_classes first.held pushed out

pub build-returns-in-Empty-5 : goal.build-returns-in-Empty-5
build-returns-in-Empty-5 t c ways out =
    let mid : Building = record { states = c.push-2.new.self; classes = c.beginning.new.classes } in
    let pushed = both_pushed c.args.building.now.states.items c.push.new.self.items c.push-2.new.self.items _ _ c.in_ok-push.ensures.items c.in_ok-push-2.ensures.items in
    let first = c.in_ok-state.ensures in
    built_leaf c.args.building.now mid c.args.site.tags c.args.site.part c.args.expr.now c.in_ok-state.state c.args.exits ways c.in-Empty.is
    first.adds first.are_classes first.held pushed out

pub build_alternatives-bounds-shapes-i : goal.build_alternatives-bounds-shapes-i
build_alternatives-bounds-shapes-i t c =
    omega (arith, c.loop-i-test.true, shapes_many c.args.first.tags c.args.members.now c.args.shapes.now c.requires.shapes)

pub build_members-bounds-shapes-i : goal.build_members-bounds-shapes-i
build_members-bounds-shapes-i t c =
    omega (arith, c.loop-i-test.true, shapes_many c.args.first.tags c.args.members.now c.args.shapes.now c.requires.shapes)
