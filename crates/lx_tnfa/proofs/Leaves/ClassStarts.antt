-- The starts of a class: one for each part of the encoding that has a point of the set, with the choice of its points.
use Rattle.std.proofs.Common.{◌≡◌, ℕ, zero, suc, ◌<◌, ◌≤◌, ◌⊎◌, inl, inr, arith, Bool, true, false, List, [], ◌∷◌, length, refl, sym, ap, ◌∙◌, subst, ⊎_elim, lt-ltb, le-ltb, le-leb}
use Rattle.std.proofs.lemmas.Bool.{cases_lt, and_from, false≢true, leb-true, or_cases, or_left, or_right}
use Rattle.std.specs.Prelude.{max, min, nat_le, nat_lt, ◌&&◌, if◌then◌else◌}
use Rattle.lx_base.specs.Spelling.{greatest_point}
use Rattle.lx_base.specs.declared.settings.Enc.{Enc}
use Rattle.lx_base.specs.declared.settings.Enc.TheVariants.{Byte, Ucs2, Utf8, Utf16, Utf32}
use Rattle.lx_class.specs.Ranges.{InRanges}
use Rattle.lx_class.specs.declared.ranges.Range.{Range}
use Rattle.lx_encode.specs.Graph.{AreStarts, IsStart, numbered, parts}
use Rattle.lx_encode.specs.Policy.{NoneWithin}
use Rattle.lx_encode.specs.Table.{Finishes, Rows}
use Rattle.lx_encode.specs.declared.graph.Residual.{Residual}
use Rattle.lx_regex.specs.Expr.{ranges_of}
use Rattle.lx_regex.specs.Script.{Symbol, choices, has_long, has_short, leaf_choice, picks}
use Rattle.lx_tnfa.specs.LeafReadings.{IsNth}
use Rattle.lx_tnfa.specs.PlaceNumbers.{class_starts, has_point}

-- one of the parts
abbrev pub IsPart : Range → List Range → Type 0
IsPart part [] = ⊥
IsPart part (other ∷ others) = (other ≡ part) ⊎ IsPart part others

-- a point of the set that lies in the part
pub record PointOf (set : List Range) (part : Range) : Type 0 where
  pub point : ℕ
  pub within : InRanges set point
  pub low : part.lo ≤ point
  pub high : point ≤ part.hi

pub point_found : (set : List Range) (part : Range) → has_point set part ≡ true → PointOf set part
point_found [] part e = absurd (false≢true e)
point_found (range ∷ set) part e =
    ⊎_elim
    (λ here.
    let le : max range.lo part.lo ≤ min range.hi part.hi = leb-true (max range.lo part.lo) (min range.hi part.hi) here in
    record { point = max range.lo part.lo; within = inl (omega arith, omega arith); low = omega arith; high = omega arith })
    (λ later.
    let found = point_found set part later in
    record { point = found.point; within = inr found.within; low = found.low; high = found.high })
    (or_cases (nat_le (max range.lo part.lo) (min range.hi part.hi)) (has_point set part) e)

point_seen : (set : List Range) (part : Range) (point : ℕ) → InRanges set point → part.lo ≤ point → point ≤ part.hi → has_point set part ≡ true
point_seen [] part point within low high = absurd within
point_seen (range ∷ set) part point within low high =
    ⊎_elim
    (λ here. or_left _ (has_point set part) (le-leb (max range.lo part.lo) (min range.hi part.hi) (omega (arith, here.0, here.1))))
    (λ later. or_right (nat_le (max range.lo part.lo) (min range.hi part.hi)) _ (point_seen set part point later low high)) within

module _ (rows : Rows) (enc : Enc) (set : List Range) (live : (rest : ℕ) → rest < length rows → (units : List ℕ) × Finishes rows rest units) where
  -- a start has a point
  pub start_point : (part : Range) (start : Residual) → IsStart rows enc set part start → PointOf set part
  start_point part start is =
      let units = live start.0 is.0 in
      let spells = (is.1 units.0).0 units.1 in
      record { point = spells.0; within = spells.1; low = spells.2; high = spells.3 }

  -- so its part has one
  pub has_start : (part : Range) (start : Residual) → IsStart rows enc set part start → has_point set part ≡ true
  has_start part start is =
      let at = start_point part start is in point_seen set part at.point at.within at.low at.high

  none_there : (part : Range) → NoneWithin set part.lo part.hi → PointOf set part → ⊥
  none_there part none at = none at.point at.within at.low at.high

  -- each start stands for a part, with its choice
  pub record Stands (all : List Range) (start : List Symbol × ℕ) : Type 0 where
    pub part : Range
    pub among : IsPart part all
    pub choice : start.0 ≡ leaf_choice enc (ranges_of set) part.lo
    pub is : IsStart rows enc set part (numbered start.1)

  further : (part : Range) (others : List Range) (start : List Symbol × ℕ) → Stands others start → Stands (part ∷ others) start
  further part others start s = record { part = s.part; among = inr s.among; choice = s.choice; is = s.is }

  pub start_stands : (all : List Range) (starts : List Residual) (index : ℕ) (start : List Symbol × ℕ) → AreStarts rows enc set all starts
      → IsNth (class_starts enc set all starts) index start → Stands all start
  start_stands [] starts index start are nth = absurd nth
  start_stands (part ∷ others) [] index start are nth = absurd nth
  start_stands (part ∷ others) (first ∷ starts) index start are nth =
      at (has_point set part) refl index nth
      (λ more. start_stands others (first ∷ starts) index start more)
      (λ index more. start_stands others starts index start more)
    where
      at : (b : Bool) → has_point set part ≡ b → (index : ℕ)
          → IsNth (if b then (leaf_choice enc (ranges_of set) part.lo, first.0) ∷ class_starts enc set others starts else class_starts enc set others (first ∷ starts)) index start
          → (AreStarts rows enc set others (first ∷ starts) → IsNth (class_starts enc set others (first ∷ starts)) index start → Stands others start)
          → ((index : ℕ) → AreStarts rows enc set others starts → IsNth (class_starts enc set others starts) index start → Stands others start)
          → Stands (part ∷ others) start
      at true e zero nth without with =
          ⊎_elim
          (λ none. absurd (none_there part none.0 (point_found set part e)))
          (λ some.
          let same : some.0 ≡ first = cc in
          let is : IsStart rows enc set part first = subst (IsStart rows enc set part) same some.3 in
          record { part = part; among = inl refl; choice = ap (λ (s : List Symbol × ℕ). s.0) (sym nth); is = subst (λ (s : List Symbol × ℕ). IsStart rows enc set part (numbered s.1)) nth is })
          are
      at true e (suc index) nth without with =
          ⊎_elim
          (λ none. absurd (none_there part none.0 (point_found set part e)))
          (λ some.
          let same : some.1 ≡ starts = cc in
          further part others start (with index (subst (AreStarts rows enc set others) same some.4) nth))
          are
      at false e index nth without with =
          ⊎_elim
          (λ none. further part others start (without none.1 nth))
          (λ some. absurd (false≢true (sym e ∙ has_start part some.0 some.3)))
          are

  -- and each part with a point has a start
  pub record Begins (part : Range) (starts : List (List Symbol × ℕ)) : Type 0 where
    pub index : ℕ
    pub rest : ℕ
    pub nth : IsNth starts index (leaf_choice enc (ranges_of set) part.lo, rest)
    pub is : IsStart rows enc set part (numbered rest)

  not_begun : (part : Range) (others : List Range) → Begins part (class_starts enc set others []) → ⊥
  not_begun part [] b = b.nth
  not_begun part (other ∷ others) b = b.nth

  pub part_begins : (all : List Range) (starts : List Residual) (part : Range) → AreStarts rows enc set all starts → IsPart part all
      → PointOf set part → Begins part (class_starts enc set all starts)
  part_begins [] starts part are among has = absurd among
  part_begins (first ∷ others) [] part are among has =
      ⊎_elim
      (λ none. absurd (⊎_elim (λ here. none_there first none.0 (subst (PointOf set) (sym here) has)) (λ later. not_begun part others (part_begins others [] part none.1 later has)) among))
      (λ some. let e : [] ≡ some.0 ∷ some.1 = some.2 in cc)
      are
  part_begins (first ∷ others) (start ∷ starts) part are among has =
      at (has_point set first) refl
      (λ more later. part_begins others (start ∷ starts) part more later has)
      (λ more later. part_begins others starts part more later has)
    where
      at : (b : Bool) → has_point set first ≡ b
          → (AreStarts rows enc set others (start ∷ starts) → IsPart part others → Begins part (class_starts enc set others (start ∷ starts)))
          → (AreStarts rows enc set others starts → IsPart part others → Begins part (class_starts enc set others starts))
          → Begins part (if b then (leaf_choice enc (ranges_of set) first.lo, start.0) ∷ class_starts enc set others starts else class_starts enc set others (start ∷ starts))
      at true e without with =
          ⊎_elim
          (λ none. absurd (none_there first none.0 (point_found set first e)))
          (λ some.
          let same : some.0 ≡ start = cc in
          let rest : some.1 ≡ starts = cc in
          ⊎_elim
          (λ here. record {
            index = 0;
            rest = start.0;
            nth = ap (λ (p : Range). (leaf_choice enc (ranges_of set) p.lo, start.0)) here;
            is = subst (λ p. IsStart rows enc set p start) here (subst (IsStart rows enc set first) same some.3);
          })
          (λ later.
          let b = with (subst (AreStarts rows enc set others) rest some.4) later in
          record { index = suc b.index; rest = b.rest; nth = b.nth; is = b.is })
          among)
          are
      at false e without with =
          ⊎_elim
          (λ none. ⊎_elim
          (λ here. absurd (none_there first none.0 (subst (PointOf set) (sym here) has)))
          (λ later. without none.1 later) among)
          (λ some. absurd (false≢true (sym e ∙ has_start first some.0 some.3)))
          are

  -- a class with a start has a point
  pub some_point : (all : List Range) (first : Residual) (starts : List Residual) → AreStarts rows enc set all (first ∷ starts)
      → (point : ℕ) × InRanges set point
  some_point [] first starts are = cc
  some_point (part ∷ others) first starts are =
      ⊎_elim
      (λ none. some_point others first starts none.1)
      (λ some. let at = start_point part some.0 some.3 in (at.point, at.within))
      are

-- each point of an encoding lies in one of its parts
pub point_part : (enc : Enc) (point : ℕ) → point ≤ greatest_point enc → (part : Range) × IsPart part (parts enc) × (part.lo ≤ point) × (point ≤ part.hi)
point_part Byte point le = (record { lo = 0; hi = 0xFF }, inl refl, omega arith, le)
point_part Ucs2 point le = (record { lo = 0; hi = 0xFFFF }, inl refl, omega arith, le)
point_part Utf8 point le = (record { lo = 0; hi = 0x10FFFF }, inl refl, omega arith, le)
point_part Utf16 point le =
    ⊎_elim
    (λ lt. (record { lo = 0; hi = 0xFFFF }, inr (inl refl), omega arith, omega arith))
    (λ more. (record { lo = 0x10000; hi = 0x10FFFF }, inl refl, more, le)) (cases_lt point 0x10000)
point_part Utf32 point le = (record { lo = 0; hi = 0x10FFFF }, inl refl, omega arith, le)

-- and all points of a part have one choice
pub part_choice : (enc : Enc) (ranges : List (ℕ × ℕ)) (part : Range) (point : ℕ) → IsPart part (parts enc) → part.lo ≤ point → point ≤ part.hi
    → leaf_choice enc ranges part.lo ≡ leaf_choice enc ranges point
part_choice Byte ranges part point among low high = refl
part_choice Ucs2 ranges part point among low high = refl
part_choice Utf8 ranges part point among low high = refl
part_choice Utf16 ranges part point (inl long) low high =
    let from : 0x10000 ≡ part.lo = ap (λ (p : Range). p.lo) long in
    ap (λ b. if has_short ranges && has_long ranges then picks (if b then 1 else 0) ∷ [] else [])
    (le-ltb part.lo 0x10000 (omega arith) ∙ sym (le-ltb point 0x10000 (omega arith)))
part_choice Utf16 ranges part point (inr (inl short)) low high =
    let to : 0xFFFF ≡ part.hi = ap (λ (p : Range). p.hi) short in
    ap (λ b. if has_short ranges && has_long ranges then picks (if b then 1 else 0) ∷ [] else [])
    (lt-ltb part.lo 0x10000 (omega arith) ∙ sym (lt-ltb point 0x10000 (omega arith)))
part_choice Utf16 ranges part point (inr (inr none)) low high = absurd none
part_choice Utf32 ranges part point among low high = refl

-- where there is one part there is at most one start
one_start : (enc : Enc) (set : List Range) (part : Range) (starts : List Residual) (index : ℕ) (start : List Symbol × ℕ)
    → IsNth (class_starts enc set (part ∷ []) starts) index start
    → (index ≡ 0) × (has_point set part ≡ true) × (start.0 ≡ leaf_choice enc (ranges_of set) part.lo)
one_start enc set part [] index start nth = absurd nth
one_start enc set part (first ∷ starts) index start nth = at (has_point set part) refl index nth
  where
    at : (b : Bool) → has_point set part ≡ b → (index : ℕ)
        → IsNth (if b then (leaf_choice enc (ranges_of set) part.lo, first.0) ∷ [] else []) index start
        → (index ≡ 0) × (has_point set part ≡ true) × (start.0 ≡ leaf_choice enc (ranges_of set) part.lo)
    at true e zero nth = (refl, e, ap (λ (s : List Symbol × ℕ). s.0) (sym nth))
    at true e (suc index) nth = absurd nth
    at false e index nth = absurd nth

-- where there are two, and two starts, both have points
two_starts : (enc : Enc) (set : List Range) (part other : Range) (starts : List Residual) (index later : ℕ) (start second : List Symbol × ℕ)
    → IsNth (class_starts enc set (part ∷ other ∷ []) starts) index start
    → IsNth (class_starts enc set (part ∷ other ∷ []) starts) later second → index < later
    → (has_point set part ≡ true) × (has_point set other ≡ true) × (start.0 ≡ leaf_choice enc (ranges_of set) part.lo)
    × (second.0 ≡ leaf_choice enc (ranges_of set) other.lo)
two_starts enc set part other [] index later start second nth nth' lt = absurd nth
two_starts enc set part other (first ∷ starts) index later start second nth nth' lt = at (has_point set part) refl index later nth nth' lt
  where
    at : (b : Bool) → has_point set part ≡ b → (index later : ℕ)
        → IsNth (if b then (leaf_choice enc (ranges_of set) part.lo, first.0) ∷ class_starts enc set (other ∷ []) starts else class_starts enc set (other ∷ []) (first ∷ starts)) index start
        → IsNth (if b then (leaf_choice enc (ranges_of set) part.lo, first.0) ∷ class_starts enc set (other ∷ []) starts else class_starts enc set (other ∷ []) (first ∷ starts)) later second
        → index < later
        → (has_point set part ≡ true) × (has_point set other ≡ true) × (start.0 ≡ leaf_choice enc (ranges_of set) part.lo)
        × (second.0 ≡ leaf_choice enc (ranges_of set) other.lo)
    at true e zero zero nth nth' lt = absurd (omega arith)
    at true e zero (suc later) nth nth' lt =
        let o = one_start enc set other starts later second nth' in
        (e, o.1, ap (λ (s : List Symbol × ℕ). s.0) (sym nth), o.2)
    at true e (suc index) zero nth nth' lt = absurd (omega arith)
    at true e (suc index) (suc later) nth nth' lt =
        let o = one_start enc set other starts index start nth in
        let p = one_start enc set other starts later second nth' in
        absurd (omega (arith, o.0, p.0))
    at false e index later nth nth' lt =
        let o = one_start enc set other (first ∷ starts) index start nth in
        let p = one_start enc set other (first ∷ starts) later second nth' in
        absurd (omega (arith, o.0, p.0))

short_seen : (set : List Range) → has_point set (record { lo = 0; hi = 0xFFFF }) ≡ true → has_short (ranges_of set) ≡ true
short_seen [] e = e
short_seen (range ∷ set) e =
    ⊎_elim
    (λ here.
    let le : max range.lo 0 ≤ min range.hi 0xFFFF = leb-true (max range.lo 0) (min range.hi 0xFFFF) here in
    or_left _ (has_short (ranges_of set)) (lt-ltb range.lo 0x10000 (omega arith)))
    (λ later. or_right (nat_lt range.lo 0x10000) _ (short_seen set later))
    (or_cases (nat_le (max range.lo 0) (min range.hi 0xFFFF)) (has_point set (record { lo = 0; hi = 0xFFFF })) e)

long_seen : (set : List Range) → has_point set (record { lo = 0x10000; hi = 0x10FFFF }) ≡ true → has_long (ranges_of set) ≡ true
long_seen [] e = e
long_seen (range ∷ set) e =
    ⊎_elim
    (λ here.
    let le : max range.lo 0x10000 ≤ min range.hi 0x10FFFF = leb-true (max range.lo 0x10000) (min range.hi 0x10FFFF) here in
    or_left _ (has_long (ranges_of set)) (le-leb 0x10000 range.hi (omega arith)))
    (λ later. or_right (nat_le 0x10000 range.hi) _ (long_seen set later))
    (or_cases (nat_le (max range.lo 0x10000) (min range.hi 0x10FFFF)) (has_point set (record { lo = 0x10000; hi = 0x10FFFF })) e)

-- the choices of two starts, of which the first is less
pub record Rise (start second : List Symbol × ℕ) : Type 0 where
  pub choice : ℕ
  pub other : ℕ
  pub is : choices start.0 ≡ choice ∷ []
  pub others : choices second.0 ≡ other ∷ []
  pub less : choice < other

pub starts_rise : (enc : Enc) (set : List Range) (starts : List Residual) (index later : ℕ) (start second : List Symbol × ℕ)
    → IsNth (class_starts enc set (parts enc) starts) index start → IsNth (class_starts enc set (parts enc) starts) later second → index < later
    → Rise start second
starts_rise Byte set starts index later start second nth nth' lt =
    absurd (omega (arith, (one_start Byte set _ starts later second nth').0, lt))
starts_rise Ucs2 set starts index later start second nth nth' lt =
    absurd (omega (arith, (one_start Ucs2 set _ starts later second nth').0, lt))
starts_rise Utf8 set starts index later start second nth nth' lt =
    absurd (omega (arith, (one_start Utf8 set _ starts later second nth').0, lt))
starts_rise Utf16 set starts index later start second nth nth' lt =
    let t = two_starts Utf16 set _ _ starts index later start second nth nth' lt in
    let both : (has_short (ranges_of set) && has_long (ranges_of set)) ≡ true = and_from _ _ (short_seen set t.1) (long_seen set t.0) in
    record {
      choice = 0;
      other = 1;
      is = ap choices (t.2 ∙ ap (λ b. if b then picks 0 ∷ [] else []) both);
      others = ap choices (t.3 ∙ ap (λ b. if b then picks 1 ∷ [] else []) both);
      less = omega arith;
    }
starts_rise Utf32 set starts index later start second nth nth' lt =
    absurd (omega (arith, (one_start Utf32 set _ starts later second nth').0, lt))
