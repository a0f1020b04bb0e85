-- What is kept of openers that are not closed, as outside text is passed over.
use Rattle.std.proofs.Common.{◌≡◌, ℕ, List, sym, subst}
use Rattle.lx_base.specs.declared.settings.Options.{Options}
use Rattle.lx_token.specs.Braces.{AreKnown}
use Rattle.lx_token.specs.declared.unclosed.Unclosed.{Unclosed}
use Rattle.lx_token.proofs.Ends.{IsEnd}
use Rattle.lx_token.proofs.KnownLines.{AreKnown-end}
use Rattle.lx_split.specs.Openers.{from_opener, is_present, opener_at}
use Rattle.lx_split.proofs.Needles.{from_first-end}

pub AreKnown-opener : (options : Options) (unclosed : Unclosed) (text rest : List ℕ) → rest ≡ from_opener options text → AreKnown unclosed text →
    AreKnown unclosed rest
AreKnown-opener options unclosed text rest is known =
    let end = from_first-end (λ rest. is_present (opener_at options rest)) text in
    AreKnown-end unclosed text rest (subst (λ l. IsEnd text l) (sym is) end) known
