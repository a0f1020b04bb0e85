-- A translation of an automaton runs as the automaton.
use Rattle.std.proofs.Common.{◌≡◌, ℕ, suc, List, [], ◌∷◌, Option, Some, None, Bool, true, false, refl, nat_le, ◌&&◌, if◌then◌else◌, Contains, sym, ap, ap₂, ◌∙◌, subst, arith}
use Rattle.std.specs.Prelude.{map}
use Rattle.std.proofs.lemmas.Simd.{map-map}
use Rattle.lx_auto.specs.declared.automaton.Accept.{Accept}
use Rattle.lx_auto.specs.declared.automaton.Auto.{Auto}
use Rattle.lx_auto.specs.declared.automaton.Edge.{Edge}
use Rattle.lx_auto.specs.declared.automaton.Held.{Held}
use Rattle.lx_auto.specs.declared.automaton.Held.TheVariants.{Reg, MReg}
use Rattle.lx_auto.specs.Automaton.{edge_on, has_unit, state_of}
use Rattle.lx_auto.specs.Bank.{Bank, bank_after, read, read_all}
use Rattle.lx_auto.specs.Effects.{Names, effect_of, effect_of_both, renamed, renamed_effect, value_of}
use Rattle.lx_auto.specs.Live.{IsLive, by_accept, by_fallback, onward}
use Rattle.lx_auto.specs.Points.{Point, IsReached, begins, goes_on, first_point, left_by, point_behind, state_at, values_left, values_of}
use Rattle.lx_auto.specs.Run.{Left, Standing, and_then, behind_edge, by_edge, found_by, found_left, left_after, or_else, run}
use Rattle.lx_auto.specs.SameRun.{FindSame, HasSameRun}
use Rattle.lx_auto.specs.Translations.{AcceptAlike, AllLeadAlike, IsTranslation, LeadAlike}
use Rattle.lx_auto.proofs.Effects.{read-bank_after, read-bank_after_both, value_of-renamed}
use Rattle.lx_auto.proofs.SameLists.{Contains-later, map-where}

-- values read by other names
read_all-renamed : (names : Names) (bank source : Bank) (values : List Held)
    → ((held : Held) → Contains values held → read bank (renamed names held) ≡ read source held)
    → read_all bank (map (renamed names) values) ≡ read_all source values
read_all-renamed names bank source values agree =
    map-map (read bank) (renamed names) values ∙ map-where (λ held. read bank (renamed names held)) (read source) values agree

module _ (given answer : Auto) (names : ℕ → Names) where
  -- on both edges or on neither
  abbrev pub FoundAlike : Point → List Edge → (found other : Option Edge) → Type 0
  FoundAlike point edges None None = Unit {0}
  FoundAlike point edges None (Some other) = ⊥
  FoundAlike point edges (Some edge) None = ⊥
  FoundAlike point edges (Some edge) (Some other) = Contains edges edge × LeadAlike given answer names point edge other

  FoundAlike-later : (point : Point) (first : Edge) (edges : List Edge) (found other : Option Edge) → FoundAlike point edges found other
      → FoundAlike point (first ∷ edges) found other
  FoundAlike-later point first edges None None alike = alike
  FoundAlike-later point first edges None (Some other) alike = alike
  FoundAlike-later point first edges (Some edge) None alike = alike
  FoundAlike-later point first edges (Some edge) (Some other) alike =
      (Contains-later first edges edge alike.0, alike.1)

  has_unit-alike : (point : Point) (edge other : Edge) (unit : ℕ) → LeadAlike given answer names point edge other
      → has_unit other unit ≡ has_unit edge unit
  has_unit-alike point edge other unit alike = ap₂ (λ low high. nat_le low unit && nat_le unit high) alike.low alike.high

  pub edge_on-alike : (point : Point) (edges others : List Edge) (unit : ℕ) → AllLeadAlike given answer names point edges others
      → FoundAlike point edges (edge_on edges unit) (edge_on others unit)
  edge_on-alike point [] [] unit alike = tt
  edge_on-alike point (edge ∷ edges) [] unit alike = absurd alike
  edge_on-alike point [] (other ∷ others) unit alike = absurd alike
  edge_on-alike point (edge ∷ edges) (other ∷ others) unit alike =
      subst (λ b. FoundAlike point (edge ∷ edges) (edge_on (edge ∷ edges) unit) (if b then Some other else edge_on others unit))
      (sym (has_unit-alike point edge other unit alike.0)) (at (has_unit edge unit) (edge_on-alike point edges others unit alike.1))
    where
      at : (b : Bool) → FoundAlike point edges (edge_on edges unit) (edge_on others unit)
          → FoundAlike point (edge ∷ edges) (if b then Some edge else edge_on edges unit) (if b then Some other else edge_on others unit)
      at true rest = ((0, omega arith, refl), alike.0)
      at false rest = FoundAlike-later point edge edges (edge_on edges unit) (edge_on others unit) rest

  -- one accepting state was left last, by both runs, or none
  abbrev SameLeft : (state : Option ℕ) → (left earlier : Option Left) → Type 0
  SameLeft None None None = Unit {0}
  SameLeft (Some state) (Some left) (Some earlier) = (left.offset ≡ earlier.offset) × (left.accept.rule ≡ earlier.accept.rule)
      × ((state_of answer.states state).accept ≡ Some left.accept) × ((state_of given.states state).accept ≡ Some earlier.accept)
  SameLeft _ _ _ = ⊥

  -- the registers of the answer have by other names what those of the given automaton have, where these are live
  abbrev HoldsSame : Point → (bank source : Bank) → Type 0
  HoldsSame point bank source =
      (held : Held) → IsLive given point held → read bank (renamed (names point.state) held) ≡ read source held

  -- a standing at a point
  abbrev standing_at : Point → (offset : ℕ) → Bank → Option Left → Standing
  standing_at point offset bank left = record { state = point.state; offset = offset; bank = bank; left = left }

  module _ (is : IsTranslation given answer names) (point : Point) (reached : IsReached given point) (offset : ℕ) (bank source : Bank)
      (left earlier : Option Left) (same_left : SameLeft point.left left earlier) (holds : HoldsSame point bank source) where
    values-alike : (accept other : Accept) → (state_at given point).accept ≡ Some accept
        → map (effect_of other.ops) other.values ≡ map (λ value. renamed_effect (names point.state) (effect_of accept.ops value)) accept.values
        → read_all (bank_after offset other.ops bank) other.values ≡ read_all (bank_after offset accept.ops source) accept.values
    values-alike accept other accepts alike =
        map-where (read (bank_after offset other.ops bank)) (λ value. value_of offset bank (effect_of other.ops value)) other.values
        (λ value has. read-bank_after offset bank other.ops value)
        ∙ sym (map-map (value_of offset bank) (effect_of other.ops) other.values)
        ∙ ap (map (value_of offset bank)) alike
        ∙ map-map (value_of offset bank) (λ value. renamed_effect (names point.state) (effect_of accept.ops value)) accept.values
        ∙ map-where (λ value. value_of offset bank (renamed_effect (names point.state) (effect_of accept.ops value)))
        (read (bank_after offset accept.ops source)) accept.values
        (λ value has.
        value_of-renamed offset (names point.state) bank source (effect_of accept.ops value)
        (λ held reads. holds held (by_accept point held accept value accepts has reads))
        ∙ sym (read-bank_after offset source accept.ops value))

    found_by-alike : (accept other : Option Accept) → (state_at given point).accept ≡ accept
        → AcceptAlike (names point.state) accept other
        → found_by other (standing_at point offset bank left) ≡ found_by accept (standing_at point offset source earlier)
    found_by-alike None None accepts alike = refl
    found_by-alike (Some accept) None accepts alike = absurd alike
    found_by-alike None (Some other) accepts alike = absurd alike
    found_by-alike (Some accept) (Some other) accepts alike =
        ap₂ (λ rule values. Some (record { rule = rule; values = values; offset = offset })) alike.0
        (values-alike accept other accepts alike.1)

    found_left-alike : (state_at given point).accept ≡ None → found_left bank left ≡ found_left source earlier
    found_left-alike none =
        at point.left left earlier same_left (is.falls_back point reached none)
        (λ held has. holds held (by_fallback point held none has))
      where
        at : (state : Option ℕ) (left earlier : Option Left) → SameLeft state left earlier
            → values_left answer state ≡ map (renamed (names point.state)) (values_left given state)
            → ((held : Held) → Contains (values_left given state) held → read bank (renamed (names point.state) held) ≡ read source held)
            → found_left bank left ≡ found_left source earlier
        at None None None same values agree = refl
        at (Some state) (Some left) (Some earlier) same values agree =
            let ours : values_left answer (Some state) ≡ left.accept.values = ap values_of same.2 in
            let theirs : values_left given (Some state) ≡ earlier.accept.values = ap values_of same.3 in
            let read_same : read_all bank left.accept.values ≡ read_all source earlier.accept.values =
            ap (read_all bank) (sym ours ∙ values)
            ∙ read_all-renamed (names point.state) bank source (values_left given (Some state)) agree
            ∙ ap (read_all source) theirs in
            λ i. Some (record { rule = same.1 i; values = read_same i; offset = same.0 i })
        at None None (Some earlier) same values agree = absurd same
        at None (Some left) None same values agree = absurd same
        at None (Some left) (Some earlier) same values agree = absurd same
        at (Some state) None None same values agree = absurd same
        at (Some state) None (Some earlier) same values agree = absurd same
        at (Some state) (Some left) None same values agree = absurd same

    found-alike : FindSame answer given (Some (standing_at point offset bank left)) (Some (standing_at point offset source earlier))
    found-alike =
        let here = found_by-alike (state_at given point).accept (state_at answer point).accept refl (is.accepts point reached) in
        (here, at (state_at given point).accept (state_at answer point).accept refl (is.accepts point reached) here)
      where
        at : (accept other : Option Accept) → (state_at given point).accept ≡ accept → AcceptAlike (names point.state) accept other
            → found_by other (standing_at point offset bank left) ≡ found_by accept (standing_at point offset source earlier)
            → or_else (found_by other (standing_at point offset bank left)) (found_left bank left)
            ≡ or_else (found_by accept (standing_at point offset source earlier)) (found_left source earlier)
        at None None accepts alike same = found_left-alike accepts
        at (Some accept) None accepts alike same = absurd alike
        at None (Some other) accepts alike same = absurd alike
        at (Some accept) (Some other) accepts alike same = same

    left_behind-alike : SameLeft (left_by (state_at given point).accept point) (left_after (state_at answer point).accept (standing_at point offset bank left))
        (left_after (state_at given point).accept (standing_at point offset source earlier))
    left_behind-alike = at (state_at given point).accept (state_at answer point).accept refl refl (is.accepts point reached)
      where
        at : (accept other : Option Accept) → (state_at given point).accept ≡ accept → (state_at answer point).accept ≡ other
            → AcceptAlike (names point.state) accept other
            → SameLeft (left_by accept point) (left_after other (standing_at point offset bank left)) (left_after accept (standing_at point offset source earlier))
        at None None accepts others alike = same_left
        at (Some accept) None accepts others alike = absurd alike
        at None (Some other) accepts others alike = absurd alike
        at (Some accept) (Some other) accepts others alike = (refl, alike.0, others, accepts)

    holds-behind : (edge other : Edge) → Contains (state_at given point).edges edge → LeadAlike given answer names point edge other
        → HoldsSame (point_behind given point edge) (bank_after offset other.ops (bank_after offset (state_at answer point).leave bank))
        (bank_after offset edge.ops (bank_after offset (state_at given point).leave source))
    holds-behind edge other has alike held live =
        let leave = (state_at given point).leave in
        read-bank_after_both offset (state_at answer point).leave other.ops bank (renamed (names edge.to) held)
        ∙ ap (value_of offset bank) (alike.effects held live)
        ∙ value_of-renamed offset (names point.state) bank source (effect_of_both leave edge.ops held)
        (λ before reads. holds before (onward point before edge held has live reads))
        ∙ sym (read-bank_after_both offset leave edge.ops source held)

  module _ (is : IsTranslation given answer names) where
    run-alike : (word : List ℕ) (point : Point) → IsReached given point → (offset : ℕ) (bank source : Bank) (left earlier : Option Left)
        → SameLeft point.left left earlier → HoldsSame point bank source
        → FindSame answer given (run answer (standing_at point offset bank left) word) (run given (standing_at point offset source earlier) word)
    run-alike [] point reached offset bank source left earlier same holds =
        found-alike is point reached offset bank source left earlier same holds
    run-alike (unit ∷ word) point reached offset bank source left earlier same holds =
        at (edge_on (state_at given point).edges unit) (edge_on (state_at answer point).edges unit)
        (edge_on-alike point (state_at given point).edges (state_at answer point).edges unit (is.edges point reached))
        (λ next. run-alike word next)
      where
        at : (found other : Option Edge) → FoundAlike point (state_at given point).edges found other
            → ((next : Point) → IsReached given next → (offset : ℕ) (bank source : Bank) (left earlier : Option Left)
            → SameLeft next.left left earlier → HoldsSame next bank source
            → FindSame answer given (run answer (standing_at next offset bank left) word) (run given (standing_at next offset source earlier) word))
            → FindSame answer given (and_then (by_edge (state_at answer point) (standing_at point offset bank left) other) (λ next. run answer next word))
            (and_then (by_edge (state_at given point) (standing_at point offset source earlier) found) (λ next. run given next word))
        at None None alike rest = tt
        at None (Some other) alike rest = absurd alike
        at (Some edge) None alike rest = absurd alike
        at (Some edge) (Some other) alike rest =
            let next = point_behind given point edge in
            let behind = behind_edge (state_at answer point) (standing_at point offset bank left) other in
            let source_behind = behind_edge (state_at given point) (standing_at point offset source earlier) edge in
            subst
            (λ state. FindSame answer given (run answer (record { state = state; offset = behind.offset; bank = behind.bank; left = behind.left }) word) (run given source_behind word))
            (sym alike.1.target)
            (rest next (goes_on point edge reached alike.0) (suc offset) behind.bank source_behind.bank behind.left source_behind.left
            (left_behind-alike is point reached offset bank source left earlier same holds)
            (holds-behind is point reached offset bank source left earlier same holds edge other alike.0 alike.1))

    -- what the registers of the given automaton hold at the start
    source_of : Bank → Bank
    source_of bank = record { regs = λ reg. bank.regs ((names 0).regs reg); mregs = λ mreg. bank.mregs ((names 0).mregs mreg) }

    holds-start : (bank : Bank) → HoldsSame first_point bank (source_of bank)
    unfolding source_of
    holds-start bank (Reg reg) live = refl
    holds-start bank (MReg mreg) live = refl

    pub translation-same_run : HasSameRun answer given
    unfolding source_of
    translation-same_run start bank empty = (
      source_of bank,
      ap bank.mregs is.start ∙ empty,
      λ nothing. record { regs = λ reg. nothing.regs ((names 0).regs reg); mregs = λ mreg. nothing.mregs ((names 0).mregs mreg) },
      λ word. run-alike word first_point begins start bank (source_of bank) None None tt (holds-start bank),
    )
