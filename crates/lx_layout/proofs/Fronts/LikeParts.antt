-- What is known of a scanner of a piece before its blocks are laid or copied.
use Rattle.std.specs.Prelude.{◌≡◌, ℕ, zero, suc, ◌<◌, Option, Some, None, IfSome, is_some, Bool, true, false, ◌||◌, List, [], ◌∷◌, length, map, slice_index_or, refl}
use Rattle.std.specs.List.{AllByRecursion, list_any}
use Rattle.std.proofs.Common.{◌∙◌, ap, arith, subst, sym}
use Rattle.std.proofs.lemmas.Bool.{false≢true}
use Rattle.lx_auto.specs.Automaton.{IsAuto}
use Rattle.lx_auto.specs.declared.automaton.Accept.{Accept}
use Rattle.lx_auto.specs.declared.automaton.Auto.{Auto}
use Rattle.lx_auto.specs.declared.automaton.State.{State}
use Rattle.lx_base.specs.Spelling.{greatest_unit}
use Rattle.lx_layout.specs.Copies.{AcceptIsToldBy, IsLikeFront, IsToldBy, given_by}
use Rattle.lx_layout.specs.LaidParts.{AcceptIsTold, EndIsTold, IsTold, seen_demand, seen_given}
use Rattle.lx_layout.specs.LikeScanners.{AreLike, HasFront, IsFrontOf, IsLike, is_like}
use Rattle.lx_layout.specs.Parts.{Given}
use Rattle.lx_layout.specs.PieceViews.{seen_source}
use Rattle.lx_layout.specs.Pieces.{FitsAccept, Form, IsFitScanner, demand_of, given_of}
use Rattle.lx_layout.specs.declared.copies.Front.{Front}
use Rattle.lx_layout.specs.declared.demands.PartInput.{PartInput}
use Rattle.lx_layout.specs.declared.pieces.ScannerInput.{ScannerInput}
use Rattle.lx_layout.specs.declared.rule_ends.RuleEnd.{RuleEnd}
use Rattle.lx_layout.proofs.Laying.PartsBehind.{accepts_told, end_told}
use Rattle.lx_renumber.specs.Renumbered.{based, renumbered, renumbered_state}
use Rattle.lx_layout.proofs.Elements.{each-All}

-- ---- a front for each scanner that is like the first one

like-any : (scanners : List ScannerInput) (index : ℕ) (scanner : ScannerInput) → index < length scanners → scanner ≡ slice_index_or scanners index scanner
    → is_like scanner ≡ true → list_any is_like scanners ≡ true
like-any [] index scanner within is like = absurd (omega (arith, within))
like-any (first ∷ scanners) zero scanner within is like =
    ap (λ (t : Bool). t || list_any is_like scanners) (ap is_like (sym is) ∙ like)
like-any (first ∷ scanners) (suc index) scanner within is like =
    ap (λ (t : Bool). is_like first || t) (like-any scanners index scanner (omega (arith, within)) is like) ∙ or_true (is_like first)
  where
    or_true : (t : Bool) → (t || true) ≡ true
    or_true true = refl
    or_true false = refl

like-among : (first : ScannerInput) (scanners : List ScannerInput) (index : ℕ) (scanner : ScannerInput) → index < length scanners
    → scanner ≡ slice_index_or scanners index scanner
    → AllByRecursion (λ (one : ScannerInput). IfSome one.by (λ by. IsLike first one)) scanners → IfSome scanner.by (λ by. IsLike first scanner)
like-among first [] index scanner within is all = absurd (omega (arith, within))
like-among first (one ∷ scanners) zero scanner within is all =
    subst (λ (s : ScannerInput). IfSome s.by (λ by. IsLike first s)) (sym is) all.0
like-among first (one ∷ scanners) (suc index) scanner within is all =
    like-among first scanners index scanner (omega (arith, within)) is all.1

module _ (form : Form) (table : List ℕ) (front : Option Front) where
  like-front : (first : ScannerInput) (scanner : ScannerInput) → is_some front ≡ true
      → IfSome front (λ one. IsFrontOf form table first one) → IsLike first scanner → HasFront form table front scanner
  like-front first scanner some are like = by front some are
    where
      by : (f : Option Front) → is_some f ≡ true → IfSome f (λ one. IsFrontOf form table first one) → HasFront form table f scanner
      by None some are = absurd (false≢true some)
      by (Some one) some are = (first, are, like)

  front-for : (first : ScannerInput) (others : List ScannerInput)
      → IfSome front (λ one. (head : ScannerInput) (tail : List ScannerInput) → first ∷ others ≡ head ∷ tail → IsFrontOf form table head one)
      → IfSome front (λ one. IsFrontOf form table first one)
  front-for first others are = by front are
    where
      by : (f : Option Front)
          → IfSome f (λ one. (head : ScannerInput) (tail : List ScannerInput) → first ∷ others ≡ head ∷ tail → IsFrontOf form table head one)
          → IfSome f (λ one. IsFrontOf form table first one)
      by None are = tt
      by (Some one) are = are first others refl

  pub front-at : (scanners : List ScannerInput) (index : ℕ) (scanner : ScannerInput) → index < length scanners
      → scanner ≡ slice_index_or scanners index scanner → AreLike scanners
      → (list_any is_like scanners ≡ true → is_some front ≡ true)
      → IfSome front (λ one. (first : ScannerInput) (others : List ScannerInput) → scanners ≡ first ∷ others → IsFrontOf form table first one)
      → IfSome scanner.by (λ by. HasFront form table front scanner)
  front-at [] index scanner within is all there are = absurd (omega (arith, within))
  front-at (first ∷ others) zero scanner within is all there are =
      subst (λ (n : Option ℕ). IfSome n (λ by. HasFront form table front scanner)) (sym (ap (λ (s : ScannerInput). s.by) is ∙ all.0)) tt
  front-at (first ∷ others) (suc index) scanner within is all there are =
      by scanner.by refl (like-among first others index scanner (omega (arith, within)) is all.1)
    where
      by : (n : Option ℕ) → scanner.by ≡ n → IfSome n (λ by. IsLike first scanner) → IfSome n (λ by. HasFront form table front scanner)
      by None e like = tt
      by (Some n) e like =
          like-front first scanner
          (there (like-any (first ∷ others) (suc index) scanner within is (ap (λ (o : Option ℕ). is_some o) e)))
          (front-for first others are) like

-- the first scanner has an automaton of its own
pub first-own : (scanners : List ScannerInput) (scanner : ScannerInput) → 0 < length scanners → scanner ≡ slice_index_or scanners 0 scanner
    → AreLike scanners → scanner.by ≡ None
first-own [] scanner within is all = absurd (omega (arith, within))
first-own (first ∷ scanners) scanner within is all = ap (λ (s : ScannerInput). s.by) is ∙ all.0

-- ---- what is told of its ends

module _ (form : Form) (conds : List (List ℕ)) (scanner : ScannerInput) (fit : IsFitScanner form conds (seen_source scanner)) where
  -- without greater numbers
  pub own-formed : (auto : Auto) → auto ≡ scanner.auto.now → scanner.by ≡ None → IsAuto auto
  own-formed auto is own =
      subst (λ (a : Auto). IsAuto a) (ap (λ (n : Option ℕ). based n scanner.auto.now) own ∙ sym is) fit.formed

  pub own-told : (input : PartInput) → input.ends.now ≡ scanner.ends.now → input.auto.now ≡ scanner.auto.now → input.end_rule ≡ scanner.end_rule
      → scanner.by ≡ None → IsTold input
  own-told input ends auto end_rule own =
      let told = accepts_told form conds scanner.ends.now (seen_source scanner) fit refl in
      let end = end_told form conds scanner.ends.now (seen_source scanner) fit refl in
      record {
        accepts =
            subst (λ (l : List RuleEnd). AllByRecursion (λ (given : State). AcceptIsTold l given.accept) input.auto.now.states) (sym ends)
            (subst (λ (a : Auto). AllByRecursion (λ (given : State). AcceptIsTold scanner.ends.now given.accept) a.states)
            (ap (λ (n : Option ℕ). based n scanner.auto.now) own ∙ sym auto) told);
        end_rule =
            subst (λ (l : List RuleEnd). EndIsTold l input.end_rule) (sym ends)
            (subst (λ (rule : Option ℕ). EndIsTold scanner.ends.now rule) (sym end_rule) end);
      }

  -- and with them
  short_told : (ends : List RuleEnd) (by : ℕ) (states : List State)
      → AllByRecursion (λ (given : State). AcceptIsTold ends given.accept) (map (renumbered_state by) states)
      → AllByRecursion (λ (state : State). IfSome state.accept (FitsAccept form.names conds (seen_source scanner).endings)) (map (renumbered_state by) states)
      → AllByRecursion (λ (given : State). AcceptIsToldBy ends by given.accept) states
  short_told ends by [] told fits = tt
  short_told ends by (given ∷ states) told fits =
      (at given.accept told.0 fits.0, short_told ends by states told.1 fits.1)
    where
      at : (accept : Option Accept) → AcceptIsTold ends (renumbered_state by (record given { accept = accept })).accept
          → IfSome (renumbered_state by (record given { accept = accept })).accept (FitsAccept form.names conds (seen_source scanner).endings)
          → AcceptIsToldBy ends by accept
      at None told fits = tt
      at (Some accept) told fits = (told, fits.short)

  pub like-told : (input : PartInput) (by : ℕ) → input.ends.now ≡ scanner.ends.now → input.auto.now ≡ scanner.auto.now
      → input.end_rule ≡ scanner.end_rule → scanner.by ≡ Some by → IsToldBy by input
  like-told input by ends auto end_rule more =
      let told = accepts_told form conds scanner.ends.now (seen_source scanner) fit refl in
      let end = end_told form conds scanner.ends.now (seen_source scanner) fit refl in
      let seen : (seen_source scanner).auto ≡ renumbered by scanner.auto.now = ap (λ (n : Option ℕ). based n scanner.auto.now) more in
      let fits =
      each-All (λ (state : State). IfSome state.accept (FitsAccept form.names conds (seen_source scanner).endings)) (seen_source scanner).auto.states
      fit.accepts in
      let short =
      short_told scanner.ends.now by scanner.auto.now.states
      (subst (λ (a : Auto). AllByRecursion (λ (given : State). AcceptIsTold scanner.ends.now given.accept) a.states) seen told)
      (subst (λ (a : Auto). AllByRecursion (λ (state : State). IfSome state.accept (FitsAccept form.names conds (seen_source scanner).endings)) a.states)
      seen fits) in
      record {
        accepts =
            subst (λ (l : List RuleEnd). AllByRecursion (λ (given : State). AcceptIsToldBy l by given.accept) input.auto.now.states) (sym ends)
            (subst (λ (a : Auto). AllByRecursion (λ (given : State). AcceptIsToldBy scanner.ends.now by given.accept) a.states) (sym auto) short);
        end_rule =
            subst (λ (l : List RuleEnd). EndIsTold l input.end_rule) (sym ends)
            (subst (λ (rule : Option ℕ). EndIsTold scanner.ends.now rule) (sym end_rule) end);
      }

-- ---- a scanner that is like that of a front

module _ (form : Form) (table : List ℕ) (first scanner : ScannerInput) (front : Front) (is : IsFrontOf form table first front) (like : IsLike first scanner) where
  pub like-of : (input : PartInput) → given_by scanner.by (seen_given input) ≡ given_of form table (seen_source scanner)
      → input.greatest ≡ greatest_unit form.enc → input.auto.now ≡ scanner.auto.now → input.end_rule ≡ scanner.end_rule → IsLikeFront front input
  like-of input given greatest auto end_rule =
      let own = front.ends.plans.input in
      let demand : seen_demand input.demand ≡ demand_of form table scanner.checks.now = ap (λ (g : Given). g.demand) given in
      let same : demand_of form table scanner.checks.now ≡ demand_of form table first.checks.now = ap (λ l. demand_of form table l) like.checks in
      let ends : own.end_rule ≡ first.end_rule = ap (λ (g : Given). g.end_rule) is.given in
      let autos : own.auto.now ≡ first.auto.now =
      ap (λ (g : Given). g.auto) is.given ∙ ap (λ (n : Option ℕ). based n first.auto.now) is.own in
      record {
        demand = demand ∙ same ∙ sym (ap (λ (g : Given). g.demand) is.given);
        greatest = greatest ∙ sym is.greatest;
        end_rule = ap (λ (o : Option ℕ). is_some o) end_rule ∙ like.end_rule ∙ ap (λ (o : Option ℕ). is_some o) (sym ends);
        auto = auto ∙ like.auto ∙ sym autos;
      }
