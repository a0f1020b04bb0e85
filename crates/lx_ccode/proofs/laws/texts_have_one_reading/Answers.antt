use Rattle.std.proofs.Common.{[], ◌++◌, ap, ◌∙◌, sym}
use Rattle.std.proofs.lemmas.List.{append-nil}
use Rattle.lx_ccode.specs.Text.{piece_text}
use Rattle.lx_ccode.proofs.RoundTrip.{one_reading}
use Rattle.lx_ccode.proofs.laws.texts_have_one_reading.Goals as goal

pub returns : goal.returns
returns c = record {
  one_piece = λ place mark piece other valid placed other_valid marked same.
      let both = one_reading place mark piece other _ _ valid placed other_valid marked (ap (λ text. text ++ []) same) in (both.0, both.1);
  no_front = λ place mark piece other tail valid placed other_valid marked same.
      (one_reading place mark piece other tail _ valid placed other_valid marked (same ∙ sym (append-nil (piece_text mark other)))).2;
  before_any_bytes = one_reading;
}
