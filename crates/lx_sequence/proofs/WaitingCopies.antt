-- Copies that wait, and what is kept of them.
use Rattle.std.proofs.Common.{◌≡◌, ℕ, zero, suc, ◌+◌, ◌<◌, ◌≤◌, arith, Bool, true, false, ◌&&◌, nat_eq, nat_lt, nat_cmp, if◌then◌else◌, List, [], ◌∷◌, ◌++◌, length, take, get_or, slice_index_or, Some, None, inl, inr, ◌⊎◌, ⊎_elim, refl, sym, ap, ◌∙◌, true≢false, append_assoc, eqb-true, eq-eqb, ne_eqb, lt-ltb, ltb-true, add-zero, BTreeMap, BTreeSet}
use Rattle.std.proofs.lemmas.Bool.{and_parts, cases_eq}
use Rattle.std.proofs.lemmas.Bool.Decides.{nat_tests}
use Rattle.std.proofs.lemmas.List.{get_or-map, length-map, length-take-le, map-append, take_all, take_more}
use Rattle.std.proofs.lemmas.Map.Keys.{apart_from_distinct}
use Rattle.std.specs.BTreeMap as map
use Rattle.std.specs.BTreeSet.{contains}
use Rattle.std.specs.List.{AllByRecursion, IsDistinct}
use Rattle.lx_sequence.specs.CopyOps.{IsNoted, seen_copies, seen_copy}
use Rattle.lx_sequence.specs.ParallelCopies.{Copies, in_sequence, next_copies, read_from, sources, targets, unread_target}
use Rattle.lx_sequence.specs.WaitingCopies.{AreKept, AreNoted, ArePlaces, IsFirst, IsReadyNoted, copy_at, copy_of, count, is_unread, other_copies, reader_count, waiting_copies, waits, without}
use Rattle.lx_sequence.specs.declared.copy_sequences.CopyOp.{CopyOp}
use Rattle.lx_sequence.specs.declared.copy_sequences.WaitingCopies.{WaitingCopies}
use Rattle.lx_sequence.proofs.CopySequences.{AllApart, Fresh, length-read_from}
use Rattle.lx_sequence.proofs.CopiesBelow.{copies_below-first, copies_below-none, copies_below-same, copies_below-take, count-le, count-read_from, count-sources-append, count-without, length-copies_below, length-sources, read_from-below, unread_target-none, unread_target-ready}

-- how many copies that wait read a register
abbrev reads : (spare : ℕ) → WaitingCopies → (reg : ℕ) → ℕ
reads spare list reg = count reg (sources (waiting_copies spare list))

module _ (spare : ℕ) (list : WaitingCopies) (noted : AreNoted spare list) where
  -- the copy into a register is at the place that is kept for it
  get-place : (reg place : ℕ) → waits list place ≡ true → nat_eq (copy_at spare list place).0 reg ≡ true
      → map.get nat_cmp list.places reg ≡ Some place
  get-place reg place waiting same =
      ap (λ r. map.get nat_cmp list.places r) (sym (eqb-true (copy_at spare list place).0 reg same))
      ∙ noted.places.placed place (noted.within place waiting)

  -- whether the copy at a place is ready, by the counts that are kept
  pub is_unread-counted : (place : ℕ) (copy : ℕ × ℕ) → copy ≡ copy_at spare list place
      → nat_eq (reader_count list.readers copy.0) (if nat_eq copy.0 copy.1 then 1 else 0)
      ≡ is_unread (waiting_copies spare list) (copy_at spare list place)
  is_unread-counted place copy is =
      ap (λ c. nat_eq (reader_count list.readers c.0) (if nat_eq c.0 c.1 then 1 else 0)) is
      ∙ ap (λ n. nat_eq n (if nat_eq (copy_at spare list place).0 (copy_at spare list place).1 then 1 else 0))
      (noted.readers (copy_at spare list place).0)

  both_hold : (reg place : ℕ) (b d : Bool) → waits list place ≡ b → nat_eq (copy_at spare list place).0 reg ≡ d
      → ((waits list place && nat_eq (copy_at spare list place).0 reg) ≡ false) ⊎ (map.get nat_cmp list.places reg ≡ Some place)
  both_hold reg place true true p q = inr (get-place reg place p q)
  both_hold reg place true false p q = inl (ap (λ b. b && nat_eq (copy_at spare list place).0 reg) p ∙ q)
  both_hold reg place false d p q = inl (ap (λ b. b && nat_eq (copy_at spare list place).0 reg) p)

  cases_place : (reg place : ℕ)
      → ((waits list place && nat_eq (copy_at spare list place).0 reg) ≡ false) ⊎ (map.get nat_cmp list.places reg ≡ Some place)
  cases_place reg place = both_hold reg place (waits list place) (nat_eq (copy_at spare list place).0 reg) refl refl

  module _ (reg : ℕ)
      (others : (place : ℕ) → (waits list place && nat_eq (copy_at spare list place).0 reg) ≡ false → IsReadyNoted spare list place) where
    pub AreKept-unknown : map.get nat_cmp list.places reg ≡ None → AreKept spare list
    AreKept-unknown none =
        record {
          noted = noted;
          ready = λ place. ⊎_elim (λ e. others place e) (λ e. absurd (cc (e, none))) (cases_place reg place);
        }

    pub AreKept-put : (place : ℕ) (ready : BTreeSet ℕ) (free : Bool) → map.get nat_cmp list.places reg ≡ Some place
        → free ≡ is_unread (waiting_copies spare list) (copy_at spare list place)
        → ((other : ℕ) → contains nat_cmp ready other
        ≡ (if nat_eq other place then waits list place && free else contains nat_cmp list.ready other))
        → AreKept spare (record list { ready = ready })
    AreKept-put place ready free known is put =
        record {
          noted = record { places = noted.places; within = noted.within; readers = noted.readers };
          ready = λ other. put other ∙ at other (nat_eq other place) refl;
        }
      where
        at : (other : ℕ) (b : Bool) → nat_eq other place ≡ b
            → (if b then waits list place && free else contains nat_cmp list.ready other)
            ≡ (waits list other && is_unread (waiting_copies spare list) (copy_at spare list other))
        at other true e =
            ap (λ b. waits list place && b) is
            ∙ ap (λ p. waits list p && is_unread (waiting_copies spare list) (copy_at spare list p)) (sym (eqb-true other place e))
        at other false e =
            ⊎_elim (λ h. others other h)
            (λ h.
            let one : Some other ≡ Some place = sym h ∙ known in
            let same : other ≡ place = cc in
            absurd (true≢false (sym (eq-eqb other place same) ∙ e)))
            (cases_place reg other)

-- ---- the copy at a place is taken

module _ (spare : ℕ) (list : WaitingCopies) (noted : AreNoted spare list) (place : ℕ) (waiting : waits list place ≡ true) where
  abbrev now : ℕ × ℕ
  now = copy_at spare list place

  pub lt-count-taken : 0 < reads spare list now.1
  lt-count-taken =
      let within = noted.within place waiting in
      let whole = count-without (waits list) (copy_at spare list) place waiting (length list.copies.items) within now.1 in
      let own = ap {B = ℕ} (λ b. if b then 1 else 0) (eq-eqb now.1 now.1 refl) in
      omega (arith, whole, own)

  module _ (left ready : BTreeSet ℕ) (readers : BTreeMap ℕ ℕ) (copy : ℕ × ℕ) (is : copy ≡ now)
      (fewer : (other : ℕ) → contains nat_cmp left other ≡ (if nat_eq other place then false else waits list other))
      (counted : (reg : ℕ) → reader_count readers reg + (if nat_eq reg copy.1 then 1 else 0) ≡ reader_count list.readers reg) where
    abbrev rest : WaitingCopies
    rest = record list { waiting = left; ready = ready; readers = readers }

    pub waiting_copies-taken : waiting_copies spare rest ≡ other_copies spare list place
    waiting_copies-taken =
        copies_below-same (contains nat_cmp left) (without place (waits list)) (copy_at spare list) (copy_at spare list)
        (length list.copies.items)
        (λ other. λ lt. fewer other) (λ other. λ lt. refl)

    count-taken : (reg : ℕ) → reads spare rest reg + (if nat_eq reg copy.1 then 1 else 0) ≡ reads spare list reg
    count-taken reg =
        ap (λ l. count reg (sources l) + (if nat_eq reg copy.1 then 1 else 0)) waiting_copies-taken
        ∙ ap (λ c. count reg (sources (other_copies spare list place)) + (if nat_eq reg c.1 then 1 else 0)) is
        ∙ count-without (waits list) (copy_at spare list) place waiting (length list.copies.items) (noted.within place waiting) reg

    waits-taken : (other : ℕ) → contains nat_cmp left other ≡ true → waits list other ≡ true
    waits-taken other e = at (nat_eq other place) (sym (fewer other) ∙ e)
      where
        at : (b : Bool) → (if b then false else waits list other) ≡ true → waits list other ≡ true
        at true h = absurd (true≢false (sym h))
        at false h = h

    pub AreNoted-taken : AreNoted spare rest
    AreNoted-taken =
        record {
          places = noted.places;
          within = λ other. λ e. noted.within other (waits-taken other e);
          readers = λ reg.
              let one = counted reg in
              let two = count-taken reg in
              let three = noted.readers reg in
              omega (arith, one, two, three);
        }

    -- no other copy is into the same register
    pub targets-taken : (other : ℕ) → contains nat_cmp left other ≡ true → nat_eq (copy_at spare list other).0 copy.0 ≡ false
    targets-taken other e = at (nat_eq (copy_at spare list other).0 copy.0) refl
      where
        gone : other ≡ place → ⊥
        gone same = true≢false (sym e ∙ fewer other ∙ ap (λ b. if b then false else waits list other) (eq-eqb other place same))

        at : (b : Bool) → nat_eq (copy_at spare list other).0 copy.0 ≡ b → nat_eq (copy_at spare list other).0 copy.0 ≡ false
        at true h =
            let first = get-place spare list noted copy.0 other (waits-taken other e) h in
            let second = ap (λ c. map.get nat_cmp list.places c.0) is ∙ noted.places.placed place (noted.within place waiting) in
            let both : Some other ≡ Some place = sym first ∙ second in
            let same : other ≡ place = cc in
            absurd (gone same)
        at false h = h

    pub IsReadyNoted-taken : ((other : ℕ) → IsReadyNoted spare list other)
        → ((other : ℕ) → contains nat_cmp ready other ≡ (if nat_eq other place then false else contains nat_cmp list.ready other))
        → (other : ℕ) → (contains nat_cmp left other && nat_eq (copy_at spare list other).0 copy.1) ≡ false → IsReadyNoted spare rest other
    IsReadyNoted-taken known less other none =
        less other ∙ at (nat_eq other place) (contains nat_cmp left other) (nat_eq (copy_at spare list other).0 copy.1) refl none
        (fewer other)
        (count-taken (copy_at spare list other).0)
      where
        at : (a b d : Bool) → nat_eq (copy_at spare list other).0 copy.1 ≡ d → (b && d) ≡ false
            → b ≡ (if a then false else waits list other)
            → count (copy_at spare list other).0 (sources (waiting_copies spare rest)) + (if d then 1 else 0)
            ≡ count (copy_at spare list other).0 (sources (waiting_copies spare list))
            → (if a then false else contains nat_cmp list.ready other)
            ≡ (b && is_unread (waiting_copies spare rest) (copy_at spare list other))
        at true b d q h g e = ap (λ x. x && is_unread (waiting_copies spare rest) (copy_at spare list other)) (sym g)
        at false true true q h g e = absurd (true≢false h)
        at false true false q h g e =
            known other ∙ ap (λ b. b && is_unread (waiting_copies spare list) (copy_at spare list other)) (sym g)
            ∙ ap (λ n. nat_eq n (if nat_eq (copy_at spare list other).0 (copy_at spare list other).1 then 1 else 0))
            (sym e ∙ add-zero (reads spare rest (copy_at spare list other).0))
        at false false d q h g e =
            known other ∙ ap (λ b. b && is_unread (waiting_copies spare list) (copy_at spare list other)) (sym g)

-- ---- the spare holds what a register held

module _ (spare : ℕ) (list : WaitingCopies) (noted : AreNoted spare list) (reg : ℕ) where
  pub count-le-moved : (if nat_eq spare reg then 0 else reader_count list.readers spare) + reader_count list.readers reg
      ≤ length list.copies.items
  count-le-moved =
      let copies = waiting_copies spare list in
      let counted = count-read_from spare reg copies spare in
      let most = count-le spare (sources (read_from spare reg copies)) in
      let long = length-sources (read_from spare reg copies) ∙ length-read_from reg spare copies in
      let few = length-copies_below (waits list) (copy_at spare list) (length list.copies.items) in
      let own = ap {B = ℕ} (λ b. if b then count reg (sources copies) else 0) (eq-eqb spare spare refl) in
      let one = noted.readers reg in
      let two = ap (λ n. if nat_eq spare reg then 0 else n) (noted.readers spare) in
      omega (arith, counted, most, long, few, own, one, two)

  module _ (readers : BTreeMap ℕ ℕ) (moved : BTreeSet ℕ) (more : IsNoted list.moved moved reg)
      (counted : (any : ℕ) → reader_count readers any
      ≡ (if nat_eq any reg then 0 else reader_count list.readers any)
      + (if nat_eq any spare then reader_count list.readers reg else 0)) where
    abbrev onward : WaitingCopies
    onward = record list { readers = readers; moved = moved }

    abbrev original : ℕ → ℕ × ℕ
    original place = copy_of (seen_copies list.copies.items) place

    copy_at-moved : (place : ℕ)
        → ((copy_at spare list place).0, if nat_eq (copy_at spare list place).1 reg then spare else (copy_at spare list place).1)
        ≡ copy_at spare onward place
    copy_at-moved place =
        ap (λ s. ((original place).0, s))
        (at (contains nat_cmp list.moved (original place).1) (nat_eq (original place).1 reg) refl (more (original place).1))
      where
        either : (a : Bool) → spare ≡ (if (if a then true else true) then spare else (original place).1)
        either true = refl
        either false = refl

        same : (a : Bool) → (if a then spare else spare) ≡ spare
        same true = refl
        same false = refl

        at : (a b : Bool) → nat_eq (original place).1 reg ≡ b → contains nat_cmp moved (original place).1 ≡ (if b then true else a)
            → (if nat_eq (if a then spare else (original place).1) reg then spare else (if a then spare else (original place).1))
            ≡ (if contains nat_cmp moved (original place).1 then spare else (original place).1)
        at true b q h = same (nat_eq spare reg) ∙ either b ∙ ap (λ x. if x then spare else (original place).1) (sym h)
        at false true q h = ap (λ x. if x then spare else (original place).1) q ∙ ap (λ x. if x then spare else (original place).1) (sym h)
        at false false q h = ap (λ x. if x then spare else (original place).1) q ∙ ap (λ x. if x then spare else (original place).1) (sym h)

    pub waiting_copies-moved : waiting_copies spare onward ≡ read_from spare reg (waiting_copies spare list)
    waiting_copies-moved =
        sym (read_from-below spare reg (waits list) (copy_at spare list) (copy_at spare onward) (length list.copies.items) copy_at-moved)

    count-moved : (any : ℕ) → reads spare onward any
        ≡ (if nat_eq any reg then 0 else reads spare list any) + (if nat_eq any spare then reads spare list reg else 0)
    count-moved any = ap (λ l. count any (sources l)) waiting_copies-moved ∙ count-read_from spare reg (waiting_copies spare list) any

    pub AreNoted-moved : AreNoted spare onward
    AreNoted-moved =
        record {
          places = noted.places;
          within = noted.within;
          readers = λ any.
              counted any
              ∙ ap (λ n. (if nat_eq any reg then 0 else n) + (if nat_eq any spare then reader_count list.readers reg else 0))
              (noted.readers any)
              ∙ ap (λ n. (if nat_eq any reg then 0 else reads spare list any) + (if nat_eq any spare then n else 0)) (noted.readers reg)
              ∙ sym (count-moved any);
        }

    abbrev target : ℕ → ℕ
    target place = (copy_at spare list place).0

    abbrev source : ℕ → ℕ
    source place = (copy_at spare list place).1

    pub IsReadyNoted-moved : ((place : ℕ) → IsReadyNoted spare list place)
        → ((place : ℕ) → waits list place ≡ true → nat_eq (copy_at spare list place).0 reg ≡ false)
        → (place : ℕ) → (waits list place && nat_eq (copy_at spare list place).0 spare) ≡ false → IsReadyNoted spare onward place
    IsReadyNoted-moved known free place none =
        known place ∙ at (waits list place) (nat_eq (target place) spare) refl refl none
      where
        counts : nat_eq (target place) reg ≡ false → nat_eq (target place) spare ≡ false
            → reads spare onward (target place) ≡ reads spare list (target place)
        counts a b =
            count-moved (target place)
            ∙ ap (λ x. (if x then 0 else reads spare list (target place)) + (if nat_eq (target place) spare then reads spare list reg else 0))
            a
            ∙ ap (λ x. reads spare list (target place) + (if x then reads spare list reg else 0)) b
            ∙ add-zero (reads spare list (target place))

        tests : nat_eq (target place) reg ≡ false → nat_eq (target place) spare ≡ false → (b : Bool) → nat_eq (source place) reg ≡ b
            → nat_eq (target place) (if b then spare else (source place)) ≡ nat_eq (target place) (source place)
        tests a d true e = d ∙ sym a ∙ ap (λ r. nat_eq (target place) r) (sym (eqb-true (source place) reg e))
        tests a d false e = refl

        at : (w d : Bool) → waits list place ≡ w → nat_eq (target place) spare ≡ d → (w && d) ≡ false
            → (w && is_unread (waiting_copies spare list) (copy_at spare list place))
            ≡ (w && is_unread (waiting_copies spare onward) (copy_at spare onward place))
        at false d p q h = refl
        at true true p q h = absurd (true≢false h)
        at true false p q h =
            let a = free place p in
            ap (λ n. nat_eq n (if nat_eq (target place) (source place) then 1 else 0)) (sym (counts a q))
            ∙ ap (λ b. nat_eq (reads spare onward (target place)) (if b then 1 else 0)) (sym (tests a q (nat_eq (source place) reg) refl))
            ∙ ap (λ copy. is_unread (waiting_copies spare onward) copy) (copy_at-moved place)

-- ---- all copies wait

-- the copies at the first places, one more
pub copy_of-target : (copies : Copies) (place : ℕ) → (copy_of copies place).0 ≡ slice_index_or (targets copies) place 0
copy_of-target [] place = refl
copy_of-target (copy ∷ copies) zero = refl
copy_of-target (copy ∷ copies) (suc place) = copy_of-target copies place

module _ (copies : Copies) (distinct : IsDistinct nat_eq (targets copies)) (places after : BTreeMap ℕ ℕ) (place : ℕ)
    (within : place < length copies)
    (known : ArePlaces places copies place)
    (more : (other : ℕ) → map.get nat_cmp after other
    ≡ (if nat_eq other (copy_of copies place).0 then Some place else map.get nat_cmp places other)) where
  length-targets : (list : Copies) → length (targets list) ≡ length list
  length-targets [] = refl
  length-targets (copy ∷ list) = ap (λ n. suc n) (length-targets list)

  apart : (other : ℕ) → other < place → nat_eq (copy_of copies other).0 (copy_of copies place).0 ≡ false
  apart other lt =
      let long = length-targets copies in
      ap (λ n. nat_eq n (copy_of copies place).0) (copy_of-target copies other)
      ∙ ap (λ n. nat_eq (slice_index_or (targets copies) other 0) n) (copy_of-target copies place)
      ∙ apart_from_distinct nat_eq (targets copies) other place 0 distinct lt (omega (arith, long, within))

  pub ArePlaces-more : ArePlaces after copies (place + 1)
  ArePlaces-more =
      record {
        placed = λ other. λ lt. more (copy_of copies other).0
            ∙ ⊎_elim (here other) (λ ne. before other (omega (arith, lt, ne))) (cases_eq other place);
        known = λ reg. λ other. λ e. found reg other (nat_eq reg (copy_of copies place).0) refl (sym (more reg) ∙ e);
      }
    where
      here : (other : ℕ) → other ≡ place
          → (if nat_eq (copy_of copies other).0 (copy_of copies place).0 then Some place else map.get nat_cmp places (copy_of copies other).0)
          ≡ Some other
      here other e =
          ap (λ b. if b then Some place else map.get nat_cmp places (copy_of copies other).0)
          (eq-eqb (copy_of copies other).0 (copy_of copies place).0 (ap (λ p. (copy_of copies p).0) e)) ∙ ap (λ p. Some p) (sym e)

      before : (other : ℕ) → other < place
          → (if nat_eq (copy_of copies other).0 (copy_of copies place).0 then Some place else map.get nat_cmp places (copy_of copies other).0)
          ≡ Some other
      before other lt =
          ap (λ b. if b then Some place else map.get nat_cmp places (copy_of copies other).0) (apart other lt) ∙ known.placed other lt

      found : (reg other : ℕ) (b : Bool) → nat_eq reg (copy_of copies place).0 ≡ b
          → (if b then Some place else map.get nat_cmp places reg) ≡ Some other
          → (other < place + 1) × ((copy_of copies other).0 ≡ reg)
      found reg other true q e =
          let same : place ≡ other = cc in
          (omega (arith, same), ap (λ p. (copy_of copies p).0) (sym same) ∙ sym (eqb-true reg (copy_of copies place).0 q))
      found reg other false q e =
          let h = known.known reg other e in
          (omega (arith, h.0), h.1)

pub count-more : (copies : List CopyOp) (index : ℕ) (d : CopyOp) → index < length copies → (reg : ℕ)
    → count reg (sources (seen_copies (take (index + 1) copies)))
    ≡ count reg (sources (seen_copies (take index copies))) + (if nat_eq reg (get_or copies index d).source then 1 else 0)
count-more copies index d lt reg =
    ap (λ l. count reg (sources (seen_copies l))) (take_more copies index d lt)
    ∙ ap (λ l. count reg (sources l)) (map-append seen_copy (take index copies) (get_or copies index d ∷ []))
    ∙ count-sources-append reg (seen_copies (take index copies)) (seen_copy (get_or copies index d) ∷ [])
    ∙ omega arith

pub count-le-index : (copies : List CopyOp) (index reg : ℕ) → index ≤ length copies
    → count reg (sources (seen_copies (take index copies))) ≤ index
count-le-index copies index reg le =
    let most = count-le reg (sources (seen_copies (take index copies))) in
    let long =
    length-sources (seen_copies (take index copies)) ∙ length-map (take index copies) seen_copy ∙ length-take-le index copies le in
    omega (arith, most, long)

pub seen_copy-at : (copies : List CopyOp) (index : ℕ) (d : CopyOp) → index < length copies
    → seen_copy (get_or copies index d) ≡ copy_of (seen_copies copies) index
seen_copy-at copies index d lt = sym (get_or-map seen_copy copies index d (0, 0) lt)

pub ready_places-more : (ready after : BTreeSet ℕ) (free : ℕ → Bool) (place : ℕ) (here : Bool) → here ≡ free place
    → ((other : ℕ) → contains nat_cmp ready other ≡ (nat_lt other place && free other))
    → ((other : ℕ) → contains nat_cmp after other ≡ (if nat_eq other place then here else contains nat_cmp ready other))
    → (other : ℕ) → contains nat_cmp after other ≡ (nat_lt other (place + 1) && free other)
ready_places-more ready after free place here is known put other =
    put other ∙ ⊎_elim at_place elsewhere (cases_eq other place)
  where
    at_place : other ≡ place
        → (if nat_eq other place then here else contains nat_cmp ready other) ≡ (nat_lt other (place + 1) && free other)
    at_place e =
        ap (λ b. if b then here else contains nat_cmp ready other) (eq-eqb other place e) ∙ is ∙ ap free (sym e)
        ∙ ap (λ b. b && free other) (sym (lt-ltb other (place + 1) (omega (arith, e))))

    elsewhere : (other ≡ place → ⊥)
        → (if nat_eq other place then here else contains nat_cmp ready other) ≡ (nat_lt other (place + 1) && free other)
    elsewhere ne =
        ap (λ b. if b then here else contains nat_cmp ready other) (ne_eqb other place ne) ∙ known other
        ∙ ap (λ b. b && free other) (let same : nat_lt other place ≡ nat_lt other (place + 1) = grind (arith, nat_tests) in same)

module _ (spare : ℕ) (list : WaitingCopies) (none : list.moved.keys ≡ [])
    (all : (place : ℕ) → contains nat_cmp list.waiting place ≡ nat_lt place (length list.copies.items)) where
  copy_at-new : (place : ℕ) → copy_at spare list place ≡ copy_of (seen_copies list.copies.items) place
  copy_at-new place =
      let copy = copy_of (seen_copies list.copies.items) place in
      ap (λ keys. (copy.0, if contains nat_cmp (record { keys = keys }) copy.1 then spare else copy.1)) none

  pub waiting_copies-new : waiting_copies spare list ≡ seen_copies list.copies.items
  waiting_copies-new =
      let long = length-map list.copies.items seen_copy in
      copies_below-take (waits list) (copy_at spare list) (seen_copies list.copies.items) (length list.copies.items) (omega (arith, long))
      (λ place. λ lt. all place ∙ lt-ltb place (length list.copies.items) lt) (λ place. λ lt. copy_at-new place)
      ∙ take_all (length list.copies.items) (seen_copies list.copies.items) (omega (arith, long))

  pub AreKept-new : ArePlaces list.places (seen_copies list.copies.items) (length list.copies.items)
      → ((reg : ℕ) → reader_count list.readers reg ≡ count reg (sources (seen_copies list.copies.items)))
      → ((place : ℕ) → contains nat_cmp list.ready place
      ≡ (nat_lt place (length list.copies.items)
      && is_unread (seen_copies list.copies.items) (copy_of (seen_copies list.copies.items) place)))
      → AreKept spare list
  AreKept-new places readers ready =
      record {
        noted = record {
          places = places;
          within = λ place. λ e. ltb-true place (length list.copies.items) (sym (all place) ∙ e);
          readers = λ reg. readers reg ∙ ap (λ l. count reg (sources l)) (sym waiting_copies-new);
        };
        ready = λ place.
            ready place
            ∙ ap (λ b. b && is_unread (seen_copies list.copies.items) (copy_of (seen_copies list.copies.items) place)) (sym (all place))
            ∙ ap (λ l. waits list place && is_unread l (copy_of (seen_copies list.copies.items) place)) (sym waiting_copies-new)
            ∙ ap (λ copy. waits list place && is_unread (waiting_copies spare list) copy) (sym (copy_at-new place));
      }

-- ---- the next copy

module _ (spare : ℕ) (list : WaitingCopies) (kept : AreKept spare list) where
  not_ready : (place : ℕ) → waits list place ≡ true → contains nat_cmp list.ready place ≡ false
      → is_unread (waiting_copies spare list) (copy_at spare list place) ≡ false
  not_ready place waiting e =
      ap (λ b. b && is_unread (waiting_copies spare list) (copy_at spare list place)) (sym waiting) ∙ sym (kept.ready place) ∙ e

  ready-parts : (place : ℕ) → contains nat_cmp list.ready place ≡ true
      → (waits list place ≡ true) × (is_unread (waiting_copies spare list) (copy_at spare list place) ≡ true)
  ready-parts place e =
      and_parts (waits list place) (is_unread (waiting_copies spare list) (copy_at spare list place)) (sym (kept.ready place) ∙ e)

  pub waits-ready : (place : ℕ) → contains nat_cmp list.ready place ≡ true → waits list place ≡ true
  waits-ready place e = (ready-parts place e).0

  pub unread_target-first : (place : ℕ) → IsFirst (contains nat_cmp list.ready) place
      → unread_target [] (waiting_copies spare list) ≡ Some (copy_at spare list place, other_copies spare list place)
  unread_target-first place first =
      let here = ready-parts place first.0 in
      unread_target-ready (waits list) (copy_at spare list) place here.0 (length list.copies.items) (kept.noted.within place here.0) here.1
      (λ other. λ lt. λ waiting. not_ready other waiting (first.1 other lt))

  pub unread_target-no_place : ((place : ℕ) → contains nat_cmp list.ready place ≡ false)
      → unread_target [] (waiting_copies spare list) ≡ None
  unread_target-no_place none =
      unread_target-none (waits list) (copy_at spare list) (length list.copies.items)
      (λ place. λ lt. λ waiting. not_ready place waiting (none place))

  pub waiting_copies-first : (place : ℕ) → IsFirst (waits list) place
      → waiting_copies spare list ≡ copy_at spare list place ∷ other_copies spare list place
  waiting_copies-first place first =
      copies_below-first (waits list) (copy_at spare list) place first.0 (length list.copies.items) (kept.noted.within place first.0)
      first.1

  pub waiting_copies-none : ((place : ℕ) → waits list place ≡ false) → waiting_copies spare list ≡ []
  waiting_copies-none none = copies_below-none (waits list) (copy_at spare list) (length list.copies.items) none

seen_copies-push : (done : List CopyOp) (copy : CopyOp) (behind : Copies)
    → seen_copies (done ++ copy ∷ []) ++ behind ≡ seen_copies done ++ seen_copy copy ∷ behind
seen_copies-push done copy behind =
    ap (λ l. l ++ behind) (map-append seen_copy done (copy ∷ [])) ∙ append_assoc (seen_copies done) (seen_copy copy ∷ []) behind

pub next_copies-found : (spare : ℕ) (done after : List CopyOp) (copy : CopyOp) (all others : Copies) → after ≡ done ++ copy ∷ []
    → unread_target [] all ≡ Some (seen_copy copy, others) → (onward : Copies → Copies)
    → seen_copies after ++ onward others ≡ seen_copies done ++ next_copies spare (unread_target [] all) all onward
next_copies-found spare done after copy all others put found onward =
    ap (λ l. seen_copies l ++ onward others) put ∙ seen_copies-push done copy (onward others)
    ∙ ap (λ o. seen_copies done ++ next_copies spare o all onward) (sym found)

pub next_copies-cycle : (spare : ℕ) (done middle after : List CopyOp) (copy : CopyOp) (all others left : Copies)
    → middle ≡ done ++ record { target = spare; source = copy.target } ∷ [] → after ≡ middle ++ copy ∷ []
    → all ≡ seen_copy copy ∷ others → left ≡ read_from spare copy.target others → (onward : Copies → Copies)
    → seen_copies after ++ onward left ≡ seen_copies done ++ next_copies spare None all onward
next_copies-cycle spare done middle after copy all others left saved put whole rest onward =
    ap (λ l. seen_copies l ++ onward left) put ∙ seen_copies-push middle copy (onward left)
    ∙ ap (λ l. seen_copies l ++ seen_copy copy ∷ onward left) saved
    ∙ seen_copies-push done (record { target = spare; source = copy.target }) (seen_copy copy ∷ onward left)
    ∙ ap (λ l. seen_copies done ++ (spare, copy.target) ∷ seen_copy copy ∷ onward l) rest
    ∙ ap (λ l. seen_copies done ++ next_copies spare None l onward) (sym whole)

pub next_copies-none : (spare : ℕ) (done all : Copies) → all ≡ [] → (onward : Copies → Copies) → onward [] ≡ []
    → done ++ onward all ≡ done ++ next_copies spare (unread_target [] all) all onward
next_copies-none spare done all none onward last =
    ap (λ l. done ++ onward l) none ∙ ap (λ l. done ++ l) last
    ∙ ap (λ l. done ++ next_copies spare (unread_target [] l) l onward) (sym none)

pub in_sequence-none : (count spare : ℕ) → in_sequence count spare [] ≡ []
in_sequence-none zero spare = refl
in_sequence-none (suc count) spare = refl

-- the targets of the copies that count are different
pub IsDistinct-from_apart : (list : List ℕ) → AllApart list → IsDistinct nat_eq list
unfolding IsDistinct
IsDistinct-from_apart [] apart = tt
IsDistinct-from_apart (number ∷ list) apart = (at list apart.0, IsDistinct-from_apart list apart.1)
  where
    at : (others : List ℕ) → Fresh number others → AllByRecursion (λ other. nat_eq number other ≡ false) others
    at [] fresh = tt
    at (other ∷ others) fresh = (ne_eqb number other fresh.0, at others fresh.1)
