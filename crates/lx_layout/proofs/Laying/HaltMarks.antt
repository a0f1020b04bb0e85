-- The states in which a match can end are those that are marked, and so are those from which one falls back.
use Rattle.std.specs.Prelude.{◌≡◌, ℕ, zero, suc, ◌+◌, ◌<◌, ◌≤◌, ◌↔◌, Bool, true, false, ◌&&◌, ◌||◌, not, is_some, nat_eq, nat_le, nat_lt, List, [], ◌∷◌, length, Option, Some, None, slice_index_or, if◌then◌else◌, refl}
use Rattle.std.proofs.Common.{sym, ap, ap₂, ◌∙◌, arith, subst, le-leb, leb-true, leb-false}
use Rattle.std.proofs.lemmas.Bool.{false≢true, ne_eqb}
use Rattle.lx_auto.proofs.Edges.{edge_on-before, edge_on-below, edge_on-past}
use Rattle.lx_auto.proofs.States.{state_formed}
use Rattle.lx_auto.specs.Automaton.{AreApartFrom, IsAuto, LeadWithin, edge_on, has_unit, state_of}
use Rattle.lx_auto.specs.declared.automaton.Auto.{Auto}
use Rattle.lx_auto.specs.declared.automaton.Edge.{Edge}
use Rattle.lx_auto.specs.declared.automaton.State.{State}
use Rattle.lx_layout.specs.Halting.{AreHalting, Falls, Halting, Halts, at_end, bare, is_entered, lone}
use Rattle.lx_layout.specs.Halting as halting
use Rattle.lx_layout.specs.Marks.{AreFalls, FallsFrom, bare_from, halts_by, halts_from, here, onward}
use Rattle.lx_base.specs.declared.settings.Format.{Format}

-- ---- a unit without an edge

pub bare-some : (greatest low : ℕ) (edges : List Edge) → AreApartFrom low edges → bare_from greatest low edges ≡ true
    → (unit : ℕ) × (low ≤ unit) × (unit ≤ greatest) × (edge_on edges unit ≡ None)
bare-some greatest low [] apart e = (low, omega arith, leb-true low greatest e, refl)
bare-some greatest low (edge ∷ edges) apart e = by (nat_lt low edge.lo) refl e (λ h. bare-some greatest (edge.hi + 1) edges apart.2 h)
  where
    by : (t : Bool) → nat_lt low edge.lo ≡ t → (if t then nat_le low greatest else bare_from greatest (edge.hi + 1) edges) ≡ true
        → (bare_from greatest (edge.hi + 1) edges ≡ true
        → (unit : ℕ) × (edge.hi + 1 ≤ unit) × (unit ≤ greatest) × (edge_on edges unit ≡ None))
        → (unit : ℕ) × (low ≤ unit) × (unit ≤ greatest) × (edge_on (edge ∷ edges) unit ≡ None)
    by true h e again =
        let less : low < edge.lo = grind (arith, h) in (
          low,
          omega arith,
          leb-true low greatest e,
          edge_on-below edge edges low less ∙ edge_on-before (edge.hi + 1) edges low apart.2 (omega (arith, less, apart.1)),
        )
    by false h e again =
        let found = again e in
        (found.0, omega (arith, found.1, apart.0, apart.1), found.2, edge_on-past edge edges found.0 (omega (arith, found.1)) ∙ found.3)

pub bare-of : (greatest low : ℕ) (edges : List Edge) (unit : ℕ) → AreApartFrom low edges → low ≤ unit → unit ≤ greatest → edge_on edges unit ≡ None
    → bare_from greatest low edges ≡ true
bare-of greatest low [] unit apart from within e = le-leb low greatest (omega (arith, from, within))
bare-of greatest low (edge ∷ edges) unit apart from within e =
    by (nat_lt low edge.lo) refl (λ past g. bare-of greatest (edge.hi + 1) edges unit apart.2 past within g)
  where
    on : (t : Bool) → has_unit edge unit ≡ t → (if t then Some edge else edge_on edges unit) ≡ None → nat_lt low edge.lo ≡ false
        → (edge.hi + 1 ≤ unit → edge_on edges unit ≡ None → bare_from greatest (edge.hi + 1) edges ≡ true)
        → bare_from greatest (edge.hi + 1) edges ≡ true
    on true h g less again = absurd (cc)
    on false h g less again =
        let reached : edge.lo ≤ low = grind (arith, less) in again (past (nat_le unit edge.hi) refl (omega (arith, reached, from))) g
      where
        past : (t : Bool) → nat_le unit edge.hi ≡ t → edge.lo ≤ unit → edge.hi + 1 ≤ unit
        past true e le = absurd (false≢true (sym h ∙ ap₂ (λ a b. a && b) (le-leb edge.lo unit le) e))
        past false e le = let more : edge.hi < unit = leb-false unit edge.hi e in omega (arith, more)

    by : (t : Bool) → nat_lt low edge.lo ≡ t
        → (edge.hi + 1 ≤ unit → edge_on edges unit ≡ None → bare_from greatest (edge.hi + 1) edges ≡ true)
        → (if t then nat_le low greatest else bare_from greatest (edge.hi + 1) edges) ≡ true
    by true h again = le-leb low greatest (omega (arith, from, within))
    by false h again = on (has_unit edge unit) refl e h again

-- ---- the list of marks

pub halts_from-length : (greatest : ℕ) (stands entered : Bool) (number : ℕ) (states : List State)
    → length (halts_from greatest stands entered number states) ≡ length states
halts_from-length greatest stands entered number [] = refl
halts_from-length greatest stands entered number (given ∷ states) = ap suc (halts_from-length greatest stands entered (suc number) states)

pub halts_from-at : (greatest : ℕ) (stands entered : Bool) (number : ℕ) (states : List State) (n : ℕ) → n < length states
    → slice_index_or (halts_from greatest stands entered number states) n false
    ≡ halts_by greatest (stands && (entered || not (nat_eq (number + n) 0))) (state_of states n).edges
halts_from-at greatest stands entered number [] n within = absurd (omega (arith, within))
halts_from-at greatest stands entered number (given ∷ states) zero within =
    let same : number ≡ number + 0 = omega arith in
    ap (λ k. halts_by greatest (stands && (entered || not (nat_eq k 0))) given.edges) same
halts_from-at greatest stands entered number (given ∷ states) (suc n) within =
    let same : suc number + n ≡ number + suc n = omega arith in
    halts_from-at greatest stands entered (suc number) states n (omega (arith, within))
    ∙ ap (λ k. halts_by greatest (stands && (entered || not (nat_eq k 0))) (state_of states n).edges) same

-- ---- where a match can end

suc_zero : (n : ℕ) → nat_eq (suc n) 0 ≡ false
suc_zero n = ne_eqb (suc n) 0 (λ e. absurd (omega (arith, e)))

module _ (eof end_rule : Option ℕ) (greatest : ℕ) (auto : Auto) where
  entered_by : (entered : Bool) → entered ≡ is_entered end_rule auto 0 → (number : ℕ)
      → (entered || not (nat_eq number 0)) ≡ is_entered end_rule auto number
  entered_by entered is number = by end_rule number entered is
    where
      other : (entered : Bool) → (entered || true) ≡ true
      other true = refl
      other false = refl

      start : (entered : Bool) → (entered || false) ≡ entered
      start true = refl
      start false = refl

      by : (end_rule : Option ℕ) (number : ℕ) (entered : Bool) → entered ≡ is_entered end_rule auto 0
          → (entered || not (nat_eq number 0)) ≡ is_entered end_rule auto number
      by None zero entered is = start entered ∙ is
      by (Some rule) zero entered is = start entered ∙ is
      by None (suc number) entered is = ap (λ t. entered || not t) (suc_zero number) ∙ other entered
      by (Some rule) (suc number) entered is = ap (λ t. entered || not t) (suc_zero number) ∙ other entered

  module _ (number : ℕ) (apart : AreApartFrom 0 (state_of auto.states number).edges) where
    abbrev edges : List Edge
    edges = (state_of auto.states number).edges

    halts_of : (t : Bool) → t ≡ (is_some eof && is_entered end_rule auto number) → halts_by greatest t edges ≡ true
        → Halts eof end_rule greatest auto number
    halts_of t is e = by edges refl t is e
      where
        by : (list : List Edge) → edges ≡ list → (t : Bool) → t ≡ (is_some eof && is_entered end_rule auto number)
            → ((nat_eq (length list) 0 || t) || bare_from greatest 0 edges) ≡ true → Halts eof end_rule greatest auto number
        by [] is t given e = lone is
        by (edge ∷ list) is true given e = ended (is_some eof) refl (is_entered end_rule auto number) refl (sym given)
          where
            ended : (a : Bool) → is_some eof ≡ a → (b : Bool) → is_entered end_rule auto number ≡ b → (a && b) ≡ true
                → Halts eof end_rule greatest auto number
            ended true h true g e = at_end h g
            ended true h false g e = absurd (false≢true e)
            ended false h b g e = absurd (false≢true e)
        by (edge ∷ list) is false given e =
            let found = bare-some greatest 0 edges apart (ap (λ a. (a || false) || bare_from greatest 0 edges) (sym (suc_zero (length list))) ∙ e) in bare found.0 found.2 found.3

    of_halts : (t : Bool) → t ≡ (is_some eof && is_entered end_rule auto number) → Halts eof end_rule greatest auto number
        → halts_by greatest t edges ≡ true
    of_halts t is (lone none) = ap (λ (list : List Edge). (nat_eq (length list) 0 || t) || bare_from greatest 0 edges) none
    of_halts t is (bare unit within none) =
        by (nat_eq (length edges) 0 || t) (bare-of greatest 0 edges unit apart (omega arith) within none)
      where
        by : (a : Bool) → bare_from greatest 0 edges ≡ true → (a || bare_from greatest 0 edges) ≡ true
        by true e = refl
        by false e = e
    of_halts t is (at_end stands entered) =
        by (nat_eq (length edges) 0) t (is ∙ ap₂ (λ a b. a && b) stands entered)
      where
        by : (a b : Bool) → b ≡ true → ((a || b) || bare_from greatest 0 edges) ≡ true
        by true b e = refl
        by false true e = refl
        by false false e = absurd (false≢true e)

  -- ---- from where it falls back

  leads_within : (regs mregs count : ℕ) (edges : List Edge) (n : ℕ) (edge : Edge) → LeadWithin regs mregs count edges → n < length edges
      → slice_index_or edges n edge ≡ edge → edge.to < count
  leads_within regs mregs count [] n edge lead within is = absurd (omega (arith, within))
  leads_within regs mregs count (first ∷ edges) zero edge lead within is = subst (λ (e : Edge). e.to < count) is lead.0
  leads_within regs mregs count (first ∷ edges) (suc n) edge lead within is =
      leads_within regs mregs count edges n edge lead.2 (omega (arith, within)) is

  module _ (formed : IsAuto auto) (halts : List Bool)
      (right : (number : ℕ) → number < length auto.states → slice_index_or halts number false ≡ true ↔ Halts eof end_rule greatest auto number) where
    of_falls : (number : ℕ) → number < length auto.states → Falls eof end_rule greatest auto number → FallsFrom halts auto.states number
    of_falls _ within (halting.here number none halt) = here number within none ((right number within).1 halt)
    of_falls _ within (halting.onward number edge none among next) =
        onward number edge within none among
        (of_falls edge.to
        (leads_within auto.regs auto.mregs (length auto.states) (state_of auto.states number).edges among.0 edge (state_formed auto number formed).lead among.1 among.2)
        next)

    falls_of : (number : ℕ) → FallsFrom halts auto.states number → Falls eof end_rule greatest auto number
    falls_of _ (here number within none halt) = halting.here number none ((right number within).0 halt)
    falls_of _ (onward number edge within none among next) = halting.onward number edge none among (falls_of edge.to next)

  pub are_halting : (format : Format) → IsAuto auto → (entered : Bool) → entered ≡ is_entered end_rule auto 0 → (halts falls : List Bool)
      → halts ≡ halts_from greatest (is_some eof) entered 0 auto.states → AreFalls halts auto.states falls
      → AreHalting eof end_rule greatest auto
      (record { halts = λ number. slice_index_or halts number false; falls = λ number. slice_index_or falls number false; format = format })
  are_halting format formed entered entered_is halts falls halts_are are =
      record { halts = right; falls = λ number within. falls_right number within }
    where
      right : (number : ℕ) → number < length auto.states → slice_index_or halts number false ≡ true ↔ Halts eof end_rule greatest auto number
      right number within =
          let same : slice_index_or halts number false ≡ halts_by greatest (is_some eof && (entered || not (nat_eq number 0))) (state_of auto.states number).edges =
          ap (λ l. slice_index_or l number false) halts_are ∙ halts_from-at greatest (is_some eof) entered 0 auto.states number within
          ∙ ap (λ k. halts_by greatest (is_some eof && (entered || not (nat_eq k 0))) (state_of auto.states number).edges) (omega arith) in
          let apart = (state_formed auto number formed).apart in (
            λ e. halts_of number apart (is_some eof && (entered || not (nat_eq number 0))) (ap (λ t. is_some eof && t) (entered_by entered entered_is number)) (sym same ∙ e),
            λ h. same ∙ of_halts number apart (is_some eof && (entered || not (nat_eq number 0))) (ap (λ t. is_some eof && t) (entered_by entered entered_is number)) h,
          )

      falls_right : (number : ℕ) → number < length auto.states → slice_index_or falls number false ≡ true ↔ Falls eof end_rule greatest auto number
      falls_right number within = (
        λ e. falls_of formed halts right number ((are number within).0 e),
        λ h. (are number within).1 (of_falls formed halts right number within h),
      )
