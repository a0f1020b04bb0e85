-- The automata of a block's scanners are taken apart: the first one, and the lists of checks.
use Rattle.std.proofs.Common.{◌≡◌, ℕ, ◌<◌, List, [], ◌∷◌, ◌++◌, Option, Some, None, length, refl, sym, subst, append_assoc, append-nil, arith, ◌∙◌}
use Rattle.std.specs.Prelude.{true, false, is_some, slice_get}
use Rattle.lx_auto.specs.declared.automaton.Auto.{Auto}
use Rattle.lx_gen.specs.Automata.{seen_checks}
use Rattle.lx_gen.specs.declared.automata.ScannerAuto.{ScannerAuto}
use Rattle.lx_gen.specs.declared.automata.ScannerAuto.TheVariants.{Own, AsFirst}
use Rattle.lx_compile.specs.Models.{BeginOwn, first_auto}
use Rattle.lx_compile.proofs.ScannerRuns.{StandsBehind, StandsBehind-first, StandsBehind-own}

-- these are taken of the items before the rest
pub record AreTaken (items rest : List ScannerAuto) (first : Option Auto) (lists : List (List ℕ)) : Type 0 where
  pub before : List ScannerAuto
  pub all : items ≡ before ++ rest
  pub auto : first ≡ first_auto before
  pub checks : lists ≡ seen_checks before

pub AreTaken-start : (items : List ScannerAuto) → AreTaken items items None []
AreTaken-start items = record { before = []; all = refl; auto = refl; checks = refl }

pub AreTaken-auto : (items : List ScannerAuto) (first : Option Auto) (lists : List (List ℕ)) → AreTaken items [] first lists → first ≡ first_auto items
AreTaken-auto items first lists taken = rw (taken.all, append-nil taken.before) taken.auto

pub AreTaken-checks : (items : List ScannerAuto) (first : Option Auto) (lists : List (List ℕ)) → AreTaken items [] first lists → lists ≡ seen_checks items
AreTaken-checks items first lists taken = rw (taken.all, append-nil taken.before) taken.checks

pub no_auto : (first : Option Auto) → is_some first ≡ false → first ≡ None
no_auto None is = refl
no_auto (Some auto) is = absurd (let none = is in cc)

pub some_auto : (first : Option Auto) → is_some first ≡ true → (auto : Auto) × (first ≡ Some auto)
some_auto None is = absurd (let some = is in cc)
some_auto (Some auto) is = (auto, refl)

-- those before begin as all do
own-before : (before rest : List ScannerAuto) → BeginOwn (before ++ rest) → BeginOwn before
own-before [] rest own = tt
own-before (Own auto list ∷ before) rest own = tt
own-before (AsFirst by ∷ before) rest own = own

module _ (items rest : List ScannerAuto) (first : Option Auto) (lists : List (List ℕ)) (begin : BeginOwn items) where
  module _ (auto : Auto) (list : List ℕ) (taken : AreTaken items (Own auto list ∷ rest) first lists) where
    stands : StandsBehind taken.before (Own auto list) auto list
    stands = StandsBehind-own taken.before auto list (own-before taken.before (Own auto list ∷ rest) (subst BeginOwn taken.all begin))

    with : (next : Option Auto) → next ≡ first_auto (taken.before ++ Own auto list ∷ []) → AreTaken items rest next (lists ++ list ∷ [])
    with next is = record {
      before = taken.before ++ Own auto list ∷ [];
      all = taken.all ∙ sym (append_assoc taken.before (Own auto list ∷ []) rest);
      auto = is;
      checks = rw taken.checks (sym stands.checks);
    }

    -- one of its own is the first one where there is none
    first-own : (before : List ScannerAuto) → BeginOwn before → None ≡ first_auto before → Some auto ≡ first_auto (before ++ Own auto list ∷ [])
    first-own [] own none = refl
    first-own (Own other checks ∷ before) own none = absurd (let is = none in cc)
    first-own (AsFirst by ∷ before) own none = absurd own

    later-own : (before : List ScannerAuto) → (one : Auto) → Some one ≡ first_auto before → Some one ≡ first_auto (before ++ Own auto list ∷ [])
    later-own [] one some = absurd (let is = some in cc)
    later-own (Own other checks ∷ before) one some = some
    later-own (AsFirst by ∷ before) one some = absurd (let is = some in cc)

    pub AreTaken-first : first ≡ None → AreTaken items rest (Some auto) (lists ++ list ∷ [])
    AreTaken-first none =
        with (Some auto)
        (first-own taken.before (own-before taken.before (Own auto list ∷ rest) (subst BeginOwn taken.all begin)) (sym none ∙ taken.auto))

    pub AreTaken-own : (one : Auto) → first ≡ Some one → AreTaken items rest first (lists ++ list ∷ [])
    AreTaken-own one some = with first (some ∙ later-own taken.before one (sym some ∙ taken.auto))

  -- one that is like the first one
  pub AreTaken-like : (by : ℕ) → AreTaken items (AsFirst by ∷ rest) first lists
      → (0 < length lists) × ((list : List ℕ) × (slice_get lists 0 ≡ Some list) × AreTaken items rest first (lists ++ list ∷ []))
  AreTaken-like by taken = like taken.before taken.all taken.auto taken.checks
    where
      like : (before : List ScannerAuto) → items ≡ before ++ AsFirst by ∷ rest → first ≡ first_auto before → lists ≡ seen_checks before
          → (0 < length lists) × ((list : List ℕ) × (slice_get lists 0 ≡ Some list) × AreTaken items rest first (lists ++ list ∷ []))
      like [] all is are = absurd (subst BeginOwn all begin)
      like (AsFirst one ∷ before) all is are = absurd (subst BeginOwn all begin)
      like (Own auto list ∷ before) all is are =
          let stands = StandsBehind-first auto list before by in
          rw are (
            omega arith,
            (
              list,
              refl,
              record {
                before = Own auto list ∷ before ++ AsFirst by ∷ [];
                all = all ∙ sym (append_assoc (Own auto list ∷ before) (AsFirst by ∷ []) rest);
                auto = is;
                checks = sym stands.checks;
              },
            ),
          )
