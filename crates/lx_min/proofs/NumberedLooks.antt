-- What states do in numbers is told by the numbers.
use Rattle.std.proofs.Common.{◌≡◌, ℕ, zero, suc, Bool, true, false, List, [], ◌∷◌, Option, Some, None, Contains, slice_get, if◌then◌else◌, refl, sym, ap, ◌∙◌, subst, inl, inr, arith, true≢false}
use Rattle.std.specs.Cmp.Lexicographic.{pointwise}
use Rattle.std.specs.List.{AllZip}
use Rattle.std.specs.Prelude.{◌↔◌, ◌⊎◌}
use Rattle.std.proofs.lemmas.List.Elements.{Contains-get_or}
use Rattle.std.proofs.lemmas.Option.{get_or_from_slice_get}
use Rattle.std.proofs.lemmas.Slice.Zip.{AllZip-long, AllZip-map}
use Rattle.lx_auto.specs.contracts.ops.OpPartialEq.TheImpl.{eq-value}
use Rattle.lx_auto.specs.declared.automaton.Accept.{Accept}
use Rattle.lx_auto.specs.declared.automaton.Auto.{Auto}
use Rattle.lx_auto.specs.declared.automaton.Edge.{Edge}
use Rattle.lx_auto.specs.declared.ops.Op.{Op}
use Rattle.lx_auto.specs.Automaton.{state_of}
use Rattle.lx_auto.specs.ToldApart.{AcceptTheSame, DoTheSame}
use Rattle.lx_min.specs.Canonical.{canonical}
use Rattle.lx_min.specs.declared.looks.Look.{Look}
use Rattle.lx_min.specs.declared.looks.Way.{Way}
use Rattle.lx_min.specs.Looks.{AreLooks, IsOnTheWay, way_of}
use Rattle.lx_min.specs.Numbers.{AreDistinct, IsListNumber, IsLook, IsNumbered, IsWay, NumberedAccept}
use Rattle.lx_min.proofs.CanonicalLists.{canonical-is}
use Rattle.lx_min.proofs.KeptNumbers.{AllZip-where}
use Rattle.lx_min.proofs.ListNumbers.{Decides-lists}

-- ---- two lists at once

AllZip-Contains : {A B : Type 0} (R : A → B → Type 0) (xs : List A) (ys : List B) (x : A) → AllZip R xs ys → Contains xs x → (y : B) × R x y
AllZip-Contains R [] ys x zip (place, within, is) = absurd (omega arith)
AllZip-Contains R (first ∷ xs) [] x zip has = absurd zip
AllZip-Contains R (first ∷ xs) (y ∷ ys) x (here, later) (zero, within, is) = (y, subst (λ e. R e y) is here)
AllZip-Contains R (first ∷ xs) (y ∷ ys) x (here, later) (suc place, within, is) = AllZip-Contains R xs ys x later (place, omega arith, is)

AllZip-back : {A B : Type 0} (R : A → B → Type 0) (xs : List A) (ys : List B) (place : ℕ) (y : B) → AllZip R xs ys
    → slice_get ys place ≡ Some y
    → (x : A) × (slice_get xs place ≡ Some x) × R x y
AllZip-back R xs [] place y zip at = absurd (cc at)
AllZip-back R [] (other ∷ ys) place y zip at = absurd zip
AllZip-back R (x ∷ xs) (other ∷ ys) zero y (here, later) at = let is : other ≡ y = cc at in (x, refl, subst (R x) is here)
AllZip-back R (x ∷ xs) (other ∷ ys) (suc place) y (here, later) at = AllZip-back R xs ys place y later at

-- ---- the number of a list

-- the place of a list, or how many there are
place_in : List (List Op) → List Op → ℕ
place_in [] list = 0
place_in (other ∷ lists) list = if pointwise eq-value.it list other then 0 else suc (place_in lists list)

place_in-found : (lists : List (List Op)) (list : List Op) (place : ℕ) → slice_get lists place ≡ Some list
    → slice_get lists (place_in lists list) ≡ Some list
unfolding place_in
place_in-found [] list place at = absurd (cc at)
place_in-found (other ∷ lists) list place at = by (pointwise eq-value.it list other) refl place at (place_in-found lists list)
  where
    by : (b : Bool) → pointwise eq-value.it list other ≡ b → (place : ℕ) → slice_get (other ∷ lists) place ≡ Some list
        → ((place : ℕ) → slice_get lists place ≡ Some list → slice_get lists (place_in lists list) ≡ Some list)
        → slice_get (other ∷ lists) (if b then 0 else suc (place_in lists list)) ≡ Some list
    by true same place at later = ap Some (sym ((Decides-lists list other).0 same))
    by false same zero at later =
        let is : list ≡ other = cc at in absurd (true≢false (sym ((Decides-lists list other).1 is) ∙ same))
    by false same (suc place) at later = later place at

module _ (lists : List (List Op)) (distinct : AreDistinct lists) where
  number_in : List Op → ℕ
  number_in ops = place_in lists (canonical ops)

  number_in-is : (ops : List Op) (number : ℕ) → IsListNumber lists ops number → number_in ops ≡ number
  unfolding number_in
  number_in-is ops number is =
      distinct (place_in lists (canonical ops)) number (canonical ops) (place_in-found lists (canonical ops) number is) is

  -- lists with one number do the same
  DoTheSame-number : (ops others : List Op) (number : ℕ) → IsListNumber lists ops number → IsListNumber lists others number
      → DoTheSame ops others
  DoTheSame-number ops others number first second =
      let both : Some (canonical ops) ≡ Some (canonical others) = sym first ∙ second in
      let same : canonical ops ≡ canonical others = cc both in
      (canonical-is ops others).0 same

  number-DoTheSame : (ops others : List Op) (number other : ℕ) → IsListNumber lists ops number → IsListNumber lists others other
      → DoTheSame ops others
      → number ≡ other
  number-DoTheSame ops others number other first second same =
      distinct number other (canonical ops) first (second ∙ ap Some (sym ((canonical-is ops others).1 same)))

  number_in-DoTheSame : (ops others : List Op) (number other : ℕ) → IsListNumber lists ops number → IsListNumber lists others other
      → (number_in ops ≡ number_in others) ↔ DoTheSame ops others
  number_in-DoTheSame ops others number other first second = (
    (λ same. DoTheSame-number ops others number first
        (subst (IsListNumber lists others) (sym (number_in-is others other second) ∙ sym same ∙ number_in-is ops number first) second)),
    (λ same. number_in-is ops number first ∙ number-DoTheSame ops others number other first second same
        ∙ sym (number_in-is others other second)),
  )

  -- ---- edges and accepts

  way-is : (leave : List Op) (edge : Edge) (way : Way) → IsWay lists leave edge way → way ≡ way_of number_in leave edge
  way-is leave edge way is = λ i. record {
    lo = is.lo i;
    hi = is.hi i;
    leave = sym (number_in-is leave way.leave is.leaves) i;
    ops = sym (number_in-is edge.ops way.ops is.ops) i;
    to = is.to i;
  }

  accepts-same : (accept other : Option Accept) (key : Option NumberedAccept) → IsNumbered lists accept key → IsNumbered lists other key
      → AcceptTheSame accept other
  accepts-same None None None first second = tt
  accepts-same None None (Some key) first second = absurd first
  accepts-same None (Some other) None first second = absurd second
  accepts-same None (Some other) (Some key) first second = absurd first
  accepts-same (Some accept) None None first second = absurd first
  accepts-same (Some accept) None (Some key) first second = absurd second
  accepts-same (Some accept) (Some other) None first second = absurd first
  accepts-same (Some accept) (Some other) (Some key) (rule, values, ops) (rule', values', ops') =
      (sym rule ∙ rule', sym values ∙ values', DoTheSame-number accept.ops other.ops key.ops ops ops')

  keys-same : (accept other : Option Accept) (key second : Option NumberedAccept) → IsNumbered lists accept key
      → IsNumbered lists other second
      → AcceptTheSame accept other → key ≡ second
  keys-same None None None None is also same = refl
  keys-same None None None (Some second) is also same = absurd also
  keys-same None None (Some key) second is also same = absurd is
  keys-same None (Some other) key second is also same = absurd same
  keys-same (Some accept) None key second is also same = absurd same
  keys-same (Some accept) (Some other) None second is also same = absurd is
  keys-same (Some accept) (Some other) (Some key) None is also same = absurd also
  keys-same (Some accept) (Some other) (Some key) (Some second) (rule, values, ops) (rule', values', ops') (rules, held, lists) =
      let number = number-DoTheSame accept.ops other.ops key.ops second.ops ops ops' lists in
      λ i. Some (record {
        rule = (rule ∙ rules ∙ sym rule') i;
        ops = number i;
        values = (values ∙ held ∙ sym values') i;
      })

-- ---- all states

module _ (auto : Auto) (looks : List Look) (lists : List (List Op)) (accepts : List (Option NumberedAccept)) (distinct : AreDistinct lists)
    (apart : AreDistinct accepts) (are : AllZip (IsLook lists accepts) auto.states looks) where
  -- the look of a state
  look-is : (state : ℕ) (look : Look) → slice_get looks state ≡ Some look → IsLook lists accepts (state_of auto.states state) look
  look-is state look at =
      let there = AllZip-back (IsLook lists accepts) auto.states looks state look are at in
      subst (λ s. IsLook lists accepts s look) (sym (get_or_from_slice_get auto.states state there.0 _ there.1)) there.2

  has-number : (ops : List Op) → IsOnTheWay auto ops → (number : ℕ) × IsListNumber lists ops number
  has-number ops (state, edge, within, has, is) =
      let there = Contains-get_or auto.states state (record { edges = []; accept = None; leave = [] }) within in
      let look = AllZip-Contains (IsLook lists accepts) auto.states looks (state_of auto.states state) are there in
      let way = AllZip-Contains (IsWay lists (state_of auto.states state).leave)
      (state_of auto.states state).edges look.0.ways.items edge look.1.ways has in
      by way.0 way.1 is
    where
      by : (way : Way) → IsWay lists (state_of auto.states state).leave edge way
          → ((state_of auto.states state).leave ≡ ops) ⊎ (edge.ops ≡ ops)
          → (number : ℕ) × IsListNumber lists ops number
      by way is (inl leave) = (way.leave, subst (λ l. IsListNumber lists l way.leave) leave is.leaves)
      by way is (inr on) = (way.ops, subst (λ l. IsListNumber lists l way.ops) on is.ops)

  accepts-number : (state other : ℕ) (look second : Look) → slice_get looks state ≡ Some look → slice_get looks other ≡ Some second
      → (look.accept ≡ second.accept) ↔ AcceptTheSame (state_of auto.states state).accept (state_of auto.states other).accept
  accepts-number state other look second at also =
      let first = look-is state look at in
      let behind = look-is other second also in (
        (λ same. by first behind (sym first.accept ∙ ap (slice_get accepts) same ∙ behind.accept)),
        (λ same. apart look.accept second.accept first.key first.accept
            (behind.accept ∙ ap Some (sym (keys-same lists distinct _ _ first.key behind.key first.numbered behind.numbered same)))),
      )
    where
      by : (first : IsLook lists accepts (state_of auto.states state) look)
          (behind : IsLook lists accepts (state_of auto.states other) second)
          → Some first.key ≡ Some behind.key → AcceptTheSame (state_of auto.states state).accept (state_of auto.states other).accept
      by first behind both =
          let same : first.key ≡ behind.key = cc both in
          accepts-same lists distinct _ _ behind.key (subst (IsNumbered lists (state_of auto.states state).accept) same first.numbered)
          behind.numbered

  pub AreLooks-numbered : AreLooks auto looks
  AreLooks-numbered = record {
    number = number_in lists distinct;
    lists = λ ops others on also.
        let first = has-number ops on in
        let second = has-number others also in
        number_in-DoTheSame lists distinct ops others first.0 second.0 first.1 second.1;
    count = AllZip-long (IsLook lists accepts) auto.states looks are;
    ways = λ state look at.
        let leave = (state_of auto.states state).leave in
        AllZip-map (way_of (number_in lists distinct) leave) (state_of auto.states state).edges look.ways.items
        (AllZip-where (IsWay lists leave) (λ edge way. way ≡ way_of (number_in lists distinct) leave edge)
        (state_of auto.states state).edges look.ways.items
        (way-is lists distinct leave) (look-is state look at).ways);
    accepts = accepts-number;
  }
