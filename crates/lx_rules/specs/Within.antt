-- What rule lists have so that scanners can be built from them: the limits, and classes that fit the encoding.
use Rattle.lx_regex.specs.ClassLimits.{AllClassesFit}
use Rattle.lx_base.specs.declared.settings.Enc.{Enc}
use Rattle.lx_regex.specs.Limits.{IsWithinLimits}
use Rattle.lx_regex.specs.Pattern.{patterns_of, terms_of}
use Rattle.lx_rules.specs.declared.resolved.Scanner.{Scanner}

-- a scanner is within the limits, and its classes fit the encoding
pub record IsScannerWithin (enc : Enc) (scanner : Scanner) : Type 0 where
  pub limits : IsWithinLimits scanner.set.rules
  pub classes : AllClassesFit enc (terms_of (patterns_of scanner.set.rules))
