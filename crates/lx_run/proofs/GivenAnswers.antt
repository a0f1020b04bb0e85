-- What a call takes from a source in memory, as the answers to its refills.
use Rattle.std.proofs.Common.{◌≡◌, ◌∙◌, sym, subst, refl, ℕ, ◌+◌, ◌-◌, ◌<◌, ◌≤◌, Bool, true, false, List, [], ◌∷◌, ◌++◌, length, arith}
use Rattle.lx_ccode.specs.Machine.{Answer, left, more, no_more, refilled}
use Rattle.lx_step.specs.Feeds.{Feed, IsFed, brought}
use Rattle.lx_step.specs.Feeds as feeds
use Rattle.lx_run.specs.Readings.{Reading, added}
use Rattle.lx_run.specs.Windows.{IsAt}
use Rattle.lx_run.proofs.RefilledWindows.{Ended, Ended-Refills, Filled, Filled-Refills, HasUnits, IsAt-closed, IsAt-units}

-- ---- what a source answers

module _ (reading : Reading) (start : ℕ) (leaving : Bool) where
  -- a refill at this limit brings so many units
  pub record IsMore (limit count : ℕ) : Type 0 where
    pub unleft : leaving ≡ false
    pub below : limit < length reading.stream
    pub count_is : count ≡ added reading start limit
    pub some : 0 < count

  -- a refill at this limit brings none
  pub record IsNoMore (limit : ℕ) : Type 0 where
    pub unleft : leaving ≡ false
    pub whole : limit ≡ length reading.stream

  -- these are the answers to refills at a limit and on, and then the limit is another
  abbrev pub AreGiven : (limit : ℕ) → List Answer → (limit' : ℕ) → Type 0
  AreGiven limit [] limit' = limit' ≡ limit
  AreGiven limit (refilled (more dropped count) ∷ answers) limit' = IsMore limit count × AreGiven (limit + count) answers limit'
  AreGiven limit (refilled no_more ∷ answers) limit' = IsNoMore limit × AreGiven limit answers limit'
  AreGiven limit (left refills ∷ answers) limit' = ⊥

  pub AreGiven-append : (first second : List Answer) (limit middle limit' : ℕ) → AreGiven limit first middle → AreGiven middle second limit'
      → AreGiven limit (first ++ second) limit'
  AreGiven-append [] second limit middle limit' given others = subst (λ n. AreGiven n second limit') given others
  AreGiven-append (refilled (more dropped count) ∷ answers) second limit middle limit' given others =
      (given.0, AreGiven-append answers second (limit + count) middle limit' given.1 others)
  AreGiven-append (refilled no_more ∷ answers) second limit middle limit' given others =
      (given.0, AreGiven-append answers second limit middle limit' given.1 others)
  AreGiven-append (left refills ∷ answers) second limit middle limit' given others = absurd given

  -- answers in two parts
  pub record AreParts (first second : List Answer) (limit limit' : ℕ) : Type 0 where
    pub middle : ℕ
    pub front : AreGiven limit first middle
    pub back : AreGiven middle second limit'

  pub AreGiven-parts : (first second : List Answer) (limit limit' : ℕ) → AreGiven limit (first ++ second) limit'
      → AreParts first second limit limit'
  AreGiven-parts [] second limit limit' given = record { middle = limit; front = refl; back = given }
  AreGiven-parts (refilled (more dropped count) ∷ answers) second limit limit' given =
      let parts = AreGiven-parts answers second (limit + count) limit' given.1 in
      record { middle = parts.middle; front = (given.0, parts.front); back = parts.back }
  AreGiven-parts (refilled no_more ∷ answers) second limit limit' given =
      let parts = AreGiven-parts answers second limit limit' given.1 in
      record { middle = parts.middle; front = (given.0, parts.front); back = parts.back }
  AreGiven-parts (left refills ∷ answers) second limit limit' given = absurd given

  -- the limit stays in the stream
  pub AreGiven-within : (answers : List Answer) (limit limit' : ℕ) → AreGiven limit answers limit' → limit ≤ length reading.stream
      → limit' ≤ length reading.stream
  AreGiven-within [] limit limit' given within = omega (arith, given, within)
  AreGiven-within (refilled (more dropped count) ∷ answers) limit limit' given within =
      AreGiven-within answers (limit + count) limit' given.1 (omega (arith, given.0.below, given.0.count_is))
  AreGiven-within (refilled no_more ∷ answers) limit limit' given within = AreGiven-within answers limit limit' given.1 within
  AreGiven-within (left refills ∷ answers) limit limit' given within = absurd given

  -- at the stream's end the limit stays
  pub AreGiven-whole : (answers : List Answer) (limit limit' : ℕ) → AreGiven limit answers limit' → limit ≡ length reading.stream
      → limit' ≡ limit
  AreGiven-whole [] limit limit' given whole = given
  AreGiven-whole (refilled (more dropped count) ∷ answers) limit limit' given whole = absurd (omega (arith, given.0.below, whole))
  AreGiven-whole (refilled no_more ∷ answers) limit limit' given whole = AreGiven-whole answers limit limit' given.1 whole
  AreGiven-whole (left refills ∷ answers) limit limit' given whole = absurd given

-- what a call took from its source are the answers to its refills, and the source leaves the scanner as it did before
module _ (reading : Reading) (unit : ℕ) (leaves leaving : Bool) (start : ℕ) (before : Feed) (begins : IsAt reading unit leaves leaving start before.window.limit before) where
  pub record IsGiven (answers : List Answer) (feed : Feed) : Type 0 where
    pub given : AreGiven reading start leaving before.window.limit answers feed.window.limit
    pub at : IsAt reading unit leaves leaving start feed.window.limit feed

  -- a scanner that would be left again got all units
  unleft : (limit : ℕ) (feed : Feed) → IsAt reading unit leaves leaving start limit feed → leaving ≡ false → limit < length reading.stream
      → leaves ≡ leaving
  unleft limit feed at stays below = by leaves at.closed where
    by : (one : Bool) → (one ≡ true → leaving ≡ false → limit ≡ length reading.stream) → one ≡ leaving
    by true closed = absurd (let whole = closed refl stays in omega (arith, whole, below))
    by false closed = sym stays

  IsGiven-filled : (answers others : List Answer) (middle feed : Feed) (count : ℕ)
      → others ≡ answers ++ brought middle.window feed.window ∷ [] → IsGiven answers middle
      → Filled reading unit leaves leaving start middle.window.limit middle feed → IsGiven others feed
  IsGiven-filled answers others middle feed count is behind filled =
      let limit : ℕ = middle.window.limit in
      let same : leaves ≡ leaving = unleft limit middle behind.at filled.unleft filled.within in
      let moved : limit + added reading start limit ≡ feed.window.limit = sym filled.units.limit_is in
      let units : HasUnits reading unit leaves leaving start feed.window.limit feed =
      subst (λ one. HasUnits reading unit leaves one start feed.window.limit feed) same
      (subst (λ n. HasUnits reading unit leaves leaves start n feed) moved filled.units) in
      let more_units : IsMore reading start leaving limit (feed.window.limit - limit) =
      record { unleft = filled.unleft; below = filled.within; count_is = filled.added_is; some = rw filled.added_is filled.some } in
      record {
        given = subst (λ all. AreGiven reading start leaving before.window.limit all feed.window.limit) (sym is)
            (AreGiven-append reading start leaving answers (brought middle.window feed.window ∷ []) before.window.limit limit feed.window.limit behind.given
            (more_units, omega (arith, moved, filled.added_is)));
        at = IsAt-closed reading unit leaves leaving start feed.window.limit feed units
            (λ left stays. absurd (let e : false ≡ true = sym stays ∙ sym same ∙ left in cc)) (λ never. sym same ∙ never);
      }

  IsGiven-ended : (answers others : List Answer) (middle feed : Feed) → others ≡ answers ++ refilled no_more ∷ [] → IsGiven answers middle
      → Ended reading unit leaves leaving start middle.window.limit feed → IsGiven others feed
  IsGiven-ended answers others middle feed is behind ended =
      let limit : ℕ = middle.window.limit in
      let same : limit ≡ feed.window.limit = sym ended.units.limit_is in
      record {
        given = subst (λ all. AreGiven reading start leaving before.window.limit all feed.window.limit) (sym is)
            (AreGiven-append reading start leaving answers (refilled no_more ∷ []) before.window.limit limit feed.window.limit behind.given
            (record { unleft = ended.unleft; whole = ended.whole }, sym same));
        at =
            IsAt-closed reading unit leaves leaving start feed.window.limit feed
            (subst (λ n. HasUnits reading unit leaves leaving start n feed) same ended.units)
            (λ left stays. sym same ∙ ended.whole) (λ never. ended.unleft);
      }

  pub IsGiven-fed : {answers : List Answer} {feed : Feed} → IsFed before answers feed → IsGiven answers feed
  IsGiven-fed feeds.unasked = record { given = refl; at = begins }
  IsGiven-fed (feeds.filled {answers} {others} {before = middle} {after = feed} {count} behind formed refills is) =
      let so_far = IsGiven-fed behind in
      IsGiven-filled answers others middle feed count is so_far
      (Filled-Refills reading unit leaves start middle.window.limit leaving middle (IsAt-units reading unit leaves leaving start middle.window.limit middle so_far.at) feed count refills)
  IsGiven-fed (feeds.ended {answers} {others} {before = middle} {after = feed} behind formed refills is) =
      let so_far = IsGiven-fed behind in
      IsGiven-ended answers others middle feed is so_far
      (Ended-Refills reading unit leaves leaving start middle.window.limit middle feed (IsAt-units reading unit leaves leaving start middle.window.limit middle so_far.at) refills)
