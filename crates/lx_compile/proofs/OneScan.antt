-- Scanners with the same rules have one first fault, or none has one.
use Rattle.std.proofs.Common.{◌≡◌, ℕ, List, [], ◌∷◌, refl, sym, ap, subst, inl, inr, ◌∙◌}
use Rattle.lx_base.specs.declared.faults.Fault.{Fault}
use Rattle.lx_base.specs.declared.faults.Fault.TheVariants.{CoverTooLong, TooManyStates}
use Rattle.lx_base.specs.declared.places.Pos.{Pos}
use Rattle.lx_base.specs.declared.settings.Options.{Options}
use Rattle.lx_cover.proofs.OneCover.{IsFirstSumOver-one}
use Rattle.lx_cover.specs.Cover.{IsFirstSumOver}
use Rattle.lx_cover.specs.declared.covering.TheConstants.{COVER_LIMIT}
use Rattle.lx_regex.specs.Pattern.{Pattern, patterns_of, terms_of}
use Rattle.lx_rules.specs.Likeness.{HaveSameRules}
use Rattle.lx_rules.specs.declared.resolved.Scanner.{Scanner}
use Rattle.lx_compile.specs.ScannerFaults.{AreFaultless, AreTooManyFor, IsFaultOfContent, IsFaultOfScanners, IsFaultless, IsFaultlessContent, IsScannerFault, IsTooLarge, IsTooLong}
use Rattle.lx_compile.specs.declared.parts.Content.{Content}
use Rattle.lx_compile.specs.declared.parts.Content.TheVariants.{Asks, Scanners}
use Rattle.lx_compile.proofs.OneBlock.{GiveAlike}

module _ (options : Options) where
  -- ---- one scanner

  module _ (scanner other : Scanner) (same : patterns_of scanner.set.rules ≡ patterns_of other.set.rules) where
    large-same : IsTooLarge options scanner → IsTooLarge options other
    large-same large = subst (λ (patterns : List Pattern). AreTooManyFor options (terms_of patterns)) same large

    large-back : IsTooLarge options other → IsTooLarge options scanner
    large-back large = subst (λ (patterns : List Pattern). AreTooManyFor options (terms_of patterns)) (sym same) large

    long-same : (sum : ℕ) → IsTooLong options scanner sum → IsTooLong options other sum
    long-same sum long =
        (long.0, subst (λ (patterns : List Pattern). IsFirstSumOver options.enc (terms_of patterns) COVER_LIMIT sum) same long.1)

    scanner-one : (at : Pos) (fault second : Fault) → IsScannerFault options at scanner fault → IsScannerFault options at other second → fault ≡ second
    scanner-one at fault second (inl large) (inl large_other) = large.1 ∙ sym large_other.1
    scanner-one at fault second (inl large) (inr long_other) = absurd (long_other.0 (large-same large.0))
    scanner-one at fault second (inr long) (inl large_other) = absurd (long.0 (large-back large_other.0))
    scanner-one at fault second (inr (small, (sum, long, is))) (inr (small_other, (sum_other, long_other, is_other))) =
        is ∙ ap (λ (units : ℕ). CoverTooLong at units)
        (IsFirstSumOver-one options.enc (terms_of (patterns_of other.set.rules)) COVER_LIMIT sum sum_other (long-same sum long).1 long_other.1) ∙ sym is_other

    scanner_or_not : (at : Pos) (fault : Fault) → IsScannerFault options at scanner fault → IsFaultless options other → ⊥
    scanner_or_not at fault (inl large) faultless = faultless.0 (large-same large.0)
    scanner_or_not at fault (inr (small, (sum, long, is))) faultless = faultless.1 sum (long-same sum long)

  -- ---- scanners

  scanners_or_not : (at : Pos) (scanners others : List Scanner) (fault : Fault) → HaveSameRules scanners others
      → IsFaultOfScanners options at scanners fault → AreFaultless options others → ⊥
  scanners_or_not at [] others fault same is faultless = is
  scanners_or_not at (scanner ∷ scanners) [] fault same is faultless = same
  scanners_or_not at (scanner ∷ scanners) (other ∷ others) fault same (inl is) faultless =
      scanner_or_not scanner other same.0.patterns at fault is faultless.0
  scanners_or_not at (scanner ∷ scanners) (other ∷ others) fault same (inr is) faultless =
      scanners_or_not at scanners others fault same.1 is.1 faultless.1

  scanners-one : (at : Pos) (scanners others : List Scanner) (fault second : Fault) → HaveSameRules scanners others
      → IsFaultOfScanners options at scanners fault → IsFaultOfScanners options at others second → fault ≡ second
  scanners-one at [] others fault second same is is_other = absurd is
  scanners-one at (scanner ∷ scanners) [] fault second same is is_other = absurd same
  scanners-one at (scanner ∷ scanners) (other ∷ others) fault second same (inl is) (inl is_other) =
      scanner-one scanner other same.0.patterns at fault second is is_other
  scanners-one at (scanner ∷ scanners) (other ∷ others) fault second same (inl is) (inr is_other) =
      absurd (scanner_or_not scanner other same.0.patterns at fault is is_other.0)
  scanners-one at (scanner ∷ scanners) (other ∷ others) fault second same (inr is) (inl is_other) =
      absurd (scanner_or_not other scanner (sym same.0.patterns) at second is_other is.0)
  scanners-one at (scanner ∷ scanners) (other ∷ others) fault second same (inr is) (inr is_other) =
      scanners-one at scanners others fault second same.1 is.1 is_other.1

  -- ---- what blocks give

  pub content_or_not : (at : Pos) (content another : Content) (fault : Fault) → GiveAlike content another → IsFaultOfContent options at content fault
      → IsFaultlessContent options another → ⊥
  content_or_not at (Scanners resolved) (Scanners another) fault alike is faultless =
      scanners_or_not at resolved.scanners another.scanners fault alike.scanners is faultless
  content_or_not at (Scanners resolved) (Asks directive) fault alike is faultless = alike
  content_or_not at (Asks directive) another fault alike is faultless = is

  pub content-one : (at : Pos) (content another : Content) (fault second : Fault) → GiveAlike content another → IsFaultOfContent options at content fault
      → IsFaultOfContent options at another second → fault ≡ second
  content-one at (Scanners resolved) (Scanners another) fault second alike is is_other =
      scanners-one at resolved.scanners another.scanners fault second alike.scanners is is_other
  content-one at (Scanners resolved) (Asks directive) fault second alike is is_other = absurd alike
  content-one at (Asks directive) another fault second alike is is_other = absurd is

  -- ---- one of both is there

  -- a scanner without a fault is faultless
  scanner-faultless : (at : Pos) (scanner : Scanner) → ((fault : Fault) → IsScannerFault options at scanner fault → ⊥) → IsFaultless options scanner
  scanner-faultless at scanner none = (small, λ sum long. none (CoverTooLong at sum) (inr (small, (sum, long, refl))))
    where
      small : IsTooLarge options scanner → ⊥
      small large = none (TooManyStates at) (inl (large, refl))

  scanners-faultless : (at : Pos) (scanners : List Scanner) → ((fault : Fault) → IsFaultOfScanners options at scanners fault → ⊥)
      → AreFaultless options scanners
  scanners-faultless at [] none = tt
  scanners-faultless at (scanner ∷ scanners) none =
      let here = scanner-faultless at scanner (λ fault is. none fault (inl is)) in
      (here, scanners-faultless at scanners (λ fault is. none fault (inr (here, is))))

  pub content-faultless : (at : Pos) (content : Content) → ((fault : Fault) → IsFaultOfContent options at content fault → ⊥)
      → IsFaultlessContent options content
  content-faultless at (Scanners resolved) none = scanners-faultless at resolved.scanners none
  content-faultless at (Asks directive) none = tt
