use Rattle.std.proofs.Common.{◌≡◌, ◌∙◌, Bool, List, ap, drop, length, map, subst, ℕ}
use Rattle.std.specs.Prelude.{is_some}
use Rattle.lx_base.specs.Letters.{is_digit, after_letters}
use Rattle.lx_ccode.specs.Heads.{is_custom, is_three}
use Rattle.lx_ccode.specs.Labels.{block_front}
use Rattle.lx_ccode.specs.Reading.{Manner, eof_at, head_at, line_at, names_at, number_at, piece_at, reading, table_at}
use Rattle.lx_creader.specs.BlockParts.{AreFilled, IsBlockPart, blocks_behind}
use Rattle.lx_creader.specs.Fitted.{fitted_eof, fitted_head, fitted_line, short, tiny}
use Rattle.lx_creader.proofs.Steps.{is_some-fitted, read_head, read_manner, read_names, read_place, read_table, unfilled}
use Rattle.lx_creader.proofs.reading.reading.Goals as goal

pub returns-in-None : goal.returns-in-None
returns-in-None c =
    let bytes = c.args.bytes.now in
    let size = length bytes in
    let line : c.skip.result.now ≡ drop 3 (after_letters is_digit (drop 14 bytes)) = cc (c.skip.ensures, c.after_digits.ensures, c.skip-number.ensures) in
    let custom : c.is_custom.result ≡ is_custom (read_head bytes).0 = c.is_custom.ensures ∙ c.head_at-head.ensures.custom ∙ ap (λ b. is_custom (head_at b).0) line in
    let three : c.is_three.result ≡ is_three (read_head bytes).0 = c.is_three.ensures ∙ c.head_at-head.ensures.three ∙ ap (λ b. is_three (head_at b).0) line in
    let kept = c.head_at-head.ensures.kept ∙ ap (λ b. (head_at b).1) line in
    let behind = c.head_at-head.ensures.rest ∙ ap (λ b. (head_at b).2) line in
    let unit : c.skip-unit.result.now ≡ drop 14 (read_head bytes).2 = c.skip-unit.ensures ∙ ap (drop 14) behind in
    let start : c.skip-2.result.now ≡ drop 1 (after_letters is_digit (drop 14 (read_head bytes).2)) = cc (c.skip-2.ensures, c.after_digits-2.ensures, unit) in
    let eof = c.eof_at-eof.ensures.1 ∙ ap (λ b. (eof_at b).1) start in
    let named : c.in_ok-names.names ≡ (read_names bytes).0 = c.in_ok-names.ensures.0 ∙ ap (λ b. (names_at 17 b).0) eof in
    let rest = c.in_ok-names.ensures.1 ∙ ap (λ b. (names_at 17 b).1) eof in
    let mark : c.skip-3.result.now ≡ drop 3 (read_names bytes).1 = c.skip-3.ensures ∙ ap (drop 3) rest in
    let place_is : c.in_ok-place.place ≡ fitted_line (read_place bytes).0 = c.in_ok-place.ensures.0 ∙ ap (λ b. fitted_line (line_at b).0) mark in
    let placed : c.is_some.result ≡ is_some (read_place bytes).0 = c.is_some.ensures ∙ ap is_some place_is ∙ is_some-fitted (read_place bytes).0 in
    let table = c.skip-4.ensures ∙ ap (drop 2) (c.in_ok-place.ensures.1 ∙ ap (λ b. (line_at b).1) mark) in
    let behind_table = c.in_ok-table.ensures.1 ∙ ap (λ b. (table_at size b).1) table in
    let number = c.short_at.ensures ∙ ap (λ b. short (number_at b)) c.skip-number.ensures in
    let front = c.as_slice.ensures.value ∙ c.in_ok-front.ensures ∙ ap block_front number in
    let manner : Manner = record { names = c.in_ok-names.names; custom = c.is_custom.result; three = c.is_three.result; placed = c.is_some.result; front = c.as_slice.result.now } in
    let manner_is : manner ≡ read_manner bytes = λ i. record { names = named i; custom = custom i; three = three i; placed = placed i; front = front i } in
    unfilled bytes
    (subst (λ (k : Bool). AreFilled (blocks_behind size k (read_manner bytes) (read_table bytes).1).0 → ⊥) kept
    (subst (λ (m : Manner). AreFilled (blocks_behind size c.head_at-head.result.1 m (read_table bytes).1).0 → ⊥) manner_is
    (subst (λ (b : List ℕ). AreFilled (blocks_behind size c.head_at-head.result.1 manner b).0 → ⊥) behind_table
    (rw c.in-None.is at c.in_ok-block_part_at.ensures))))

pub returns-in-Some : goal.returns-in-Some
unfolding piece_at reading
returns-in-Some c =
    let bytes = c.args.bytes.now in
    let size = length bytes in
    let line : c.skip.result.now ≡ drop 3 (after_letters is_digit (drop 14 bytes)) = cc (c.skip.ensures, c.after_digits.ensures, c.skip-number.ensures) in
    let custom : c.is_custom.result ≡ is_custom (read_head bytes).0 = c.is_custom.ensures ∙ c.head_at-head.ensures.custom ∙ ap (λ b. is_custom (head_at b).0) line in
    let three : c.is_three.result ≡ is_three (read_head bytes).0 = c.is_three.ensures ∙ c.head_at-head.ensures.three ∙ ap (λ b. is_three (head_at b).0) line in
    let kept = c.head_at-head.ensures.kept ∙ ap (λ b. (head_at b).1) line in
    let behind = c.head_at-head.ensures.rest ∙ ap (λ b. (head_at b).2) line in
    let unit : c.skip-unit.result.now ≡ drop 14 (read_head bytes).2 = c.skip-unit.ensures ∙ ap (drop 14) behind in
    let start : c.skip-2.result.now ≡ drop 1 (after_letters is_digit (drop 14 (read_head bytes).2)) = cc (c.skip-2.ensures, c.after_digits-2.ensures, unit) in
    let eof = c.eof_at-eof.ensures.1 ∙ ap (λ b. (eof_at b).1) start in
    let named : c.in_ok-names.names ≡ (read_names bytes).0 = c.in_ok-names.ensures.0 ∙ ap (λ b. (names_at 17 b).0) eof in
    let rest = c.in_ok-names.ensures.1 ∙ ap (λ b. (names_at 17 b).1) eof in
    let mark : c.skip-3.result.now ≡ drop 3 (read_names bytes).1 = c.skip-3.ensures ∙ ap (drop 3) rest in
    let place_is : c.in_ok-place.place ≡ fitted_line (read_place bytes).0 = c.in_ok-place.ensures.0 ∙ ap (λ b. fitted_line (line_at b).0) mark in
    let placed : c.is_some.result ≡ is_some (read_place bytes).0 = c.is_some.ensures ∙ ap is_some place_is ∙ is_some-fitted (read_place bytes).0 in
    let table = c.skip-4.ensures ∙ ap (drop 2) (c.in_ok-place.ensures.1 ∙ ap (λ b. (line_at b).1) mark) in
    let behind_table = c.in_ok-table.ensures.1 ∙ ap (λ b. (table_at size b).1) table in
    let number = c.short_at.ensures ∙ ap (λ b. short (number_at b)) c.skip-number.ensures in
    let front = c.as_slice.ensures.value ∙ c.in_ok-front.ensures ∙ ap block_front number in
    let manner : Manner = record { names = c.in_ok-names.names; custom = c.is_custom.result; three = c.is_three.result; placed = c.is_some.result; front = c.as_slice.result.now } in
    let manner_is : manner ≡ read_manner bytes = λ i. record { names = named i; custom = custom i; three = three i; placed = placed i; front = front i } in
    let read = c.in-Some.field-0 in
    let found : IsBlockPart size (read_head bytes).1 (read_manner bytes) (read_table bytes).1 read =
    subst (λ (k : Bool). IsBlockPart size k (read_manner bytes) (read_table bytes).1 read) kept
    (subst (λ (m : Manner). IsBlockPart size c.head_at-head.result.1 m (read_table bytes).1 read) manner_is
    (subst (λ (b : List ℕ). IsBlockPart size c.head_at-head.result.1 manner b read) behind_table
    (rw c.in-Some.is at c.in_ok-block_part_at.ensures))) in
    let number_is = c.short_at-in-Some.ensures ∙ ap (λ b. short (number_at b)) c.skip-number.ensures in
    let head_is = c.head_at-head.ensures.head ∙ ap (λ b. fitted_head (head_at b).0) line in
    let unit_is = c.short_at-in-Some-2.ensures ∙ ap (λ b. short (number_at b)) unit in
    let eof_is = c.eof_at-eof.ensures.0 ∙ ap (λ b. fitted_eof (eof_at b).0) start in
    let table_is = c.in_ok-table.ensures.0 ∙ ap (λ b. map tiny (table_at size b).0) table in
    record {
      piece_is = λ i. record {
        number = number_is i;
        head = head_is i;
        names = named i;
        unit = unit_is i;
        eof = eof_is i;
        declares = found.declares_is i;
        ctx = found.ctx_is i;
        table = table_is i;
        states = found.states_are i;
        conds = found.conds_are i;
        blocks = found.blocks_are i;
        line = found.line_is i;
      };
      place_is = place_is;
    }
