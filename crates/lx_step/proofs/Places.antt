-- Places of statements: how many there may be.
use Rattle.std.proofs.Common.{◌≡◌, ◌∙◌, sym, ap, subst, refl, ℕ, zero, suc, ◌+◌, ◌<◌, ◌≤◌, ◌⊎◌, inl, inr, Bool, true, false, ◌||◌, ◌&&◌, ◌==◌, if◌then◌else◌, List, [], ◌∷◌, ◌++◌, length, Some, slice_get, Result, Ok, Err, IfOk, arith, eqb-true, eq-eqb, length-append}
use Rattle.std.specs.List.{list_any, IsDistinct, AllByRecursion}
use Rattle.std.specs.Cmp.{IsEquivalence}
use Rattle.std.proofs.lemmas.Map.Made.{length-le_from_is_member}
use Rattle.lx_ccode.specs.declared.piece.Stmt.{Stmt}
use Rattle.lx_ccode.specs.declared.piece.CodeBlock.{CodeBlock}
use Rattle.lx_ccode.specs.Statements.{code_of, all_statements, statement_count}
use Rattle.lx_step.specs.declared.answers.StmtAt.{StmtAt}
use Rattle.lx_step.specs.declared.matches.Position.{Position}
use Rattle.lx_step.specs.Assigned.{is_assignment, same_place}
use Rattle.lx_step.specs.Places.{place_of, StandsAt, places_in, places_from, AreRoomy, StaysIn}

eqb-self : (n : ℕ) → (n == n) ≡ true
eqb-self n = eq-eqb n n refl

pub same_place-self : (place : StmtAt) → same_place place place ≡ true
same_place-self place = rw (eqb-self place.block, eqb-self place.stmt) refl

both : (a b : Bool) → (a && b) ≡ true → (a ≡ true) × (b ≡ true)
both true true e = (refl, refl)
both true false e = absurd cc
both false b e = absurd cc

pub same_place-true : (place other : StmtAt) → same_place place other ≡ true → place ≡ other
same_place-true place other e =
    let tests : ((place.block == other.block) ≡ true) × ((place.stmt == other.stmt) ≡ true) = both (place.block == other.block) (place.stmt == other.stmt) e in
    let make : ℕ → ℕ → StmtAt = λ block stmt. record { block = block; stmt = stmt } in
    ap (λ n. make n place.stmt) (eqb-true place.block other.block tests.0) ∙ ap (λ n. make other.block n) (eqb-true place.stmt other.stmt tests.1)

same_place-symm : (place other : StmtAt) → same_place place other ≡ same_place other place
same_place-symm place other = by (same_place place other) (same_place other place) refl refl where
  by : (a b : Bool) → same_place place other ≡ a → same_place other place ≡ b → a ≡ b
  by true b p q = sym (subst (λ (one : StmtAt). same_place one place ≡ true) (same_place-true place other p) (same_place-self place)) ∙ q
  by false true p q = absurd (let e : false ≡ true = sym p ∙ subst (λ (one : StmtAt). same_place one other ≡ true) (same_place-true other place q) (same_place-self other) in cc)
  by false false p q = refl

same_place-laws : IsEquivalence same_place
same_place-laws = record {
  refl = same_place-self;
  symm = same_place-symm;
  congr = λ x y z e. ap (λ one. same_place one z) (same_place-true x y e);
}

-- ---- one more

pub either : (a b : Bool) → (a || b) ≡ true → (a ≡ true) ⊎ (b ≡ true)
either true b e = inl refl
either false b e = inr e

any-append : (test : StmtAt → Bool) (places : List StmtAt) (place : StmtAt) → list_any test (places ++ place ∷ []) ≡ true → (list_any test places ≡ true) ⊎ (test place ≡ true)
any-append test [] place e = elim (either (test place) false e) [ inl h ↦ inr h | inr h ↦ absurd (let k : false ≡ true = h in cc) ]
any-append test (first ∷ places) place e = elim (either (test first) (list_any test (places ++ place ∷ [])) e) [
  | inl h ↦ inl (rw h refl)
  | inr h ↦ elim (any-append test places place h) [ inl k ↦ inl (or-right (test first) (list_any test places) k) | inr k ↦ inr k ]
] where
  or-right : (a b : Bool) → b ≡ true → (a || b) ≡ true
  or-right true b k = refl
  or-right false b k = k

or-false : (a b : Bool) → (a || b) ≡ false → (a ≡ false) × (b ≡ false)
or-false true b e = absurd cc
or-false false b e = (refl, e)

differs-append : (first : StmtAt) (places : List StmtAt) (place : StmtAt) → AllByRecursion (λ other. same_place first other ≡ false) places → same_place first place ≡ false
    → AllByRecursion (λ other. same_place first other ≡ false) (places ++ place ∷ [])
differs-append first [] place h e = (e, tt)
differs-append first (other ∷ places) place h e = (h.0, differs-append first places place h.1 e)

distinct-append : (places : List StmtAt) (place : StmtAt) → IsDistinct same_place places → list_any (same_place place) places ≡ false → IsDistinct same_place (places ++ place ∷ [])
unfolding IsDistinct
distinct-append [] place h e = (tt, tt)
distinct-append (first ∷ places) place h e =
    let tests : (same_place place first ≡ false) × (list_any (same_place place) places ≡ false) = or-false (same_place place first) (list_any (same_place place) places) e in
    (differs-append first places place h.0 (same_place-symm first place ∙ tests.0), distinct-append places place h.1 tests.1)

-- ---- the place of a statement is one of the piece's

pub or-true : (a b : Bool) → b ≡ true → (a || b) ≡ true
or-true true b e = refl
or-true false b e = e

any-onto : (place : StmtAt) (test : Bool) (here : StmtAt) (places : List StmtAt) → list_any (same_place place) places ≡ true
    → list_any (same_place place) (if test then here ∷ places else places) ≡ true
any-onto place true here places h = or-true (same_place place here) (list_any (same_place place) places) h
any-onto place false here places h = h

any-places_in : (place : StmtAt) (block stmt : ℕ) (statements : List Stmt) (others : List StmtAt) → list_any (same_place place) others ≡ true
    → list_any (same_place place) (places_in block stmt statements others) ≡ true
any-places_in place block stmt [] others h = h
any-places_in place block stmt (statement ∷ statements) others h =
    any-onto place (is_assignment statement) (record { block = block; stmt = stmt }) (places_in block (suc stmt) statements others) (any-places_in place block (suc stmt) statements others h)

any-places_in-here : (block stmt at : ℕ) (statements : List Stmt) (statement : Stmt) (others : List StmtAt) → slice_get statements at ≡ Some statement → is_assignment statement ≡ true
    → list_any (same_place (record { block = block; stmt = stmt + at })) (places_in block stmt statements others) ≡ true
any-places_in-here block stmt at [] statement others e t = absurd cc
any-places_in-here block stmt zero (first ∷ statements) statement others e t =
    let same : first ≡ statement = cc in
    let test : is_assignment first ≡ true = ap is_assignment same ∙ t in
    let here : stmt + 0 ≡ stmt = omega arith in
    rw (test, here, eqb-self block, eqb-self stmt) refl
any-places_in-here block stmt (suc at) (first ∷ statements) statement others e t =
    let next : suc stmt + at ≡ stmt + suc at = omega arith in
    any-onto (record { block = block; stmt = stmt + suc at }) (is_assignment first) (record { block = block; stmt = stmt }) (places_in block (suc stmt) statements others)
    (subst (λ n. list_any (same_place (record { block = block; stmt = n })) (places_in block (suc stmt) statements others) ≡ true) next (any-places_in-here block (suc stmt) at statements statement others e t))

pub any-places_from : (block at stmt : ℕ) (blocks : List CodeBlock) (code : List Stmt) (statement : Stmt) → slice_get (code_of blocks) at ≡ Some code → slice_get code stmt ≡ Some statement → is_assignment statement ≡ true
    → list_any (same_place (record { block = block + at; stmt = stmt })) (places_from block blocks) ≡ true
any-places_from block at stmt [] code statement e s t = absurd cc
any-places_from block zero stmt (first ∷ blocks) code statement e s t =
    let same : first.stmts ≡ code = cc in
    let here : block ≡ block + 0 = omega arith in
    let count : 0 + stmt ≡ stmt = omega arith in
    subst (λ n. list_any (same_place (record { block = n; stmt = stmt })) (places_in block 0 first.stmts (places_from (suc block) blocks)) ≡ true) here
    (subst (λ n. list_any (same_place (record { block = block; stmt = n })) (places_in block 0 first.stmts (places_from (suc block) blocks)) ≡ true) count
    (any-places_in-here block 0 stmt first.stmts statement (places_from (suc block) blocks) (ap (λ statements. slice_get statements stmt) same ∙ s) t))
any-places_from block (suc at) stmt (first ∷ blocks) code statement e s t =
    let next : suc block + at ≡ block + suc at = omega arith in
    any-places_in (record { block = block + suc at; stmt = stmt }) block 0 first.stmts (places_from (suc block) blocks)
    (subst (λ n. list_any (same_place (record { block = n; stmt = stmt })) (places_from (suc block) blocks) ≡ true) next (any-places_from (suc block) at stmt blocks code statement e s t))

is_place : (blocks : List CodeBlock) (at : Position) (statement : Stmt) → StandsAt blocks at statement → is_assignment statement ≡ true
    → list_any (same_place (place_of at)) (places_from 0 blocks) ≡ true
is_place blocks at statement stands t =
    let sum : 0 + at.block ≡ at.block = omega arith in
    subst (λ n. list_any (same_place (record { block = n; stmt = at.stmt })) (places_from 0 blocks) ≡ true) sum
    (any-places_from 0 at.block at.stmt blocks at.code.now statement stands.block stands.stmt t)

pub StaysIn-more : (blocks : List CodeBlock) (at : Position) (statement : Stmt) (places : List StmtAt) → StandsAt blocks at statement → is_assignment statement ≡ true
    → list_any (same_place (place_of at)) places ≡ false → StaysIn blocks places → StaysIn blocks (places ++ place_of at ∷ [])
StaysIn-more blocks at statement places stands t new within = record {
  distinct = distinct-append places (place_of at) within.distinct new;
  among = λ place e. elim (any-append (same_place place) places (place_of at) e) [
    | inl h ↦ within.among place h
    | inr h ↦ subst (λ (one : StmtAt). list_any (same_place one) (places_from 0 blocks) ≡ true) (sym (same_place-true place (place_of at) h)) (is_place blocks at statement stands t)
  ];
}

pub room_left : (blocks : List CodeBlock) (at : Position) (statement : Stmt) (places : List StmtAt) (room : ℕ) → StandsAt blocks at statement → is_assignment statement ≡ true
    → list_any (same_place (place_of at)) places ≡ false → StaysIn blocks places → AreRoomy blocks room → length places < room
room_left blocks at statement places room stands t new within roomy =
    let more : StaysIn blocks (places ++ place_of at ∷ []) = StaysIn-more blocks at statement places stands t new within in
    let few : length (places ++ place_of at ∷ []) ≤ length (places_from 0 blocks) =
    length-le_from_is_member same_place-laws (places ++ place_of at ∷ []) (places_from 0 blocks) more.distinct more.among in
    omega (arith, few, roomy, length-append places (place_of at ∷ []))

-- a place that was none of the others was put behind them
pub place_put : {E : Type 0} (answer : Result Bool E) (added : Bool) (places after : List StmtAt) (place : StmtAt) → answer ≡ Ok added
    → IfOk answer (λ one. after ≡ (if list_any (same_place place) places then places else places ++ place ∷ [])) → list_any (same_place place) places ≡ false → after ≡ places ++ place ∷ []
place_put (Ok one) added places after place is put new = put ∙ ap (λ (test : Bool). if test then places else places ++ place ∷ []) new
place_put (Err error) added places after place is put new = absurd cc

pub StaysIn-none : (blocks : List CodeBlock) (places : List StmtAt) → places ≡ [] → StaysIn blocks places
unfolding IsDistinct
StaysIn-none blocks places e = subst (StaysIn blocks) (sym e) (record { distinct = tt; among = λ place h. absurd (let k : false ≡ true = h in cc) })

-- ---- there are at most as many as statements

length-onto : (test : Bool) (here : StmtAt) (places : List StmtAt) → length (if test then here ∷ places else places) ≤ suc (length places)
length-onto true here places = omega arith
length-onto false here places = omega arith

length-places_in : (block stmt : ℕ) (statements : List Stmt) (others : List StmtAt) → length (places_in block stmt statements others) ≤ length statements + length others
length-places_in block stmt [] others = omega arith
length-places_in block stmt (statement ∷ statements) others =
    omega (arith, length-onto (is_assignment statement) (record { block = block; stmt = stmt }) (places_in block (suc stmt) statements others), length-places_in block (suc stmt) statements others)

pub length-places_from : (block : ℕ) (blocks : List CodeBlock) → length (places_from block blocks) ≤ statement_count blocks
length-places_from block [] = omega arith
length-places_from block (first ∷ blocks) = omega (arith, length-places_in block 0 first.stmts (places_from (suc block) blocks), length-places_from (suc block) blocks)

-- ---- what holds of all holds of some

pub all-left : {A : Type 0} (P : A → Type 0) (items others : List A) → AllByRecursion P (items ++ others) → AllByRecursion P items
all-left P [] others h = tt
all-left P (item ∷ items) others h = (h.0, all-left P items others h.1)

pub all-right : {A : Type 0} (P : A → Type 0) (items others : List A) → AllByRecursion P (items ++ others) → AllByRecursion P others
all-right P [] others h = h
all-right P (item ∷ items) others h = all-right P items others h.1

all-at : (P : Stmt → Type 0) (statements : List Stmt) (place : ℕ) (statement : Stmt) → AllByRecursion P statements → slice_get statements place ≡ Some statement → P statement
all-at P [] place statement h e = absurd cc
all-at P (first ∷ statements) zero statement h e = let same : first ≡ statement = cc in subst P same h.0
all-at P (first ∷ statements) (suc place) statement h e = all-at P statements place statement h.1 e

pub all-stands : (P : Stmt → Type 0) (blocks : List CodeBlock) (block stmt : ℕ) (code : List Stmt) (statement : Stmt) → AllByRecursion P (all_statements blocks)
    → slice_get (code_of blocks) block ≡ Some code → slice_get code stmt ≡ Some statement → P statement
all-stands P [] block stmt code statement h b s = absurd cc
all-stands P (first ∷ blocks) zero stmt code statement h b s =
    let same : first.stmts ≡ code = cc in all-at P first.stmts stmt statement (all-left P first.stmts (all_statements blocks) h) (ap (λ statements. slice_get statements stmt) same ∙ s)
all-stands P (first ∷ blocks) (suc block) stmt code statement h b s = all-stands P blocks block stmt code statement (all-right P first.stmts (all_statements blocks) h) b s

any-all : (test : Stmt → Bool) (statements : List Stmt) → AllByRecursion (λ statement. test statement ≡ true → list_any test statements ≡ true) statements
any-all test [] = tt
any-all test (first ∷ statements) = (λ e. rw e refl, more statements (any-all test statements)) where
  more : (others : List Stmt) → AllByRecursion (λ statement. test statement ≡ true → list_any test statements ≡ true) others → AllByRecursion (λ statement. test statement ≡ true → (test first || list_any test statements) ≡ true) others
  more [] h = tt
  more (statement ∷ others) h = (λ e. or-true (test first) (list_any test statements) (h.0 e), more others h.1)

-- a statement passes the test, so some statement of the piece does
pub any-stands : (test : Stmt → Bool) (blocks : List CodeBlock) (block stmt : ℕ) (code : List Stmt) (statement : Stmt)
    → slice_get (code_of blocks) block ≡ Some code → slice_get code stmt ≡ Some statement → test statement ≡ true → list_any test (all_statements blocks) ≡ true
any-stands test blocks block stmt code statement b s e =
    all-stands (λ one. test one ≡ true → list_any test (all_statements blocks) ≡ true) blocks block stmt code statement (any-all test (all_statements blocks)) b s e
