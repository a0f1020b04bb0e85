use Rattle.std.proofs.Common.{◌≡◌, arith}
use Rattle.lx_exprs.specs.Defined.{Before, count_of, kept}
use Rattle.lx_exprs.specs.Seen.{scope_view}
use Rattle.lx_forms.specs.Seen.{lexeme_view}
use Rattle.lx_exprs.proofs.Contents.LeafSteps.{caseless-reads, string-reads}
use Rattle.lx_exprs.proofs.leaves.read_leaf.Goals as goal

pub returns-in-Str-clause-read : goal.returns-in-Str-clause-read
returns-in-Str-clause-read c =
    let reader = c.args.reader in
    let definitions = scope_view reader.scope in
    let before : Before = record { tags = c.args.seen.now; groups = c.args.groups } in
    let count : c.count_of-count.result ≡ kept (count_of before) = omega (arith, c.len.ensures, c.count_of-count.ensures) in
    string-reads reader.options.now definitions reader.room c.args.is_operand before (lexeme_view c.args.lexeme.now) c.read_string.result c.in-Str.is
    (c.read_string.ensures.read definitions (count_of before) count)

pub returns-in-IStr-clause-read : goal.returns-in-IStr-clause-read
returns-in-IStr-clause-read c =
    let reader = c.args.reader in
    let definitions = scope_view reader.scope in
    let before : Before = record { tags = c.args.seen.now; groups = c.args.groups } in
    let count : c.count_of-count.result ≡ kept (count_of before) = omega (arith, c.len.ensures, c.count_of-count.ensures) in
    caseless-reads reader.options.now definitions reader.room c.args.is_operand before (lexeme_view c.args.lexeme.now) c.read_string-in-IStr.result
    c.in-IStr.is (c.read_string-in-IStr.ensures.read definitions (count_of before) count)

pub returns-in-Class-clause-read : goal.returns-in-Class-clause-read
returns-in-Class-clause-read c =
    let before : Before = record { tags = c.args.seen.now; groups = c.args.groups } in
    let count : c.count_of-count.result ≡ kept (count_of before) = omega (arith, c.len.ensures, c.count_of-count.ensures) in
    c.read_class.ensures.read before count

pub returns-in_ok-read_line-in-Signs-clause-read : goal.returns-in_ok-read_line-in-Signs-clause-read
returns-in_ok-read_line-in-Signs-clause-read c =
    let before : Before = record { tags = c.args.seen.now; groups = c.args.groups } in
    let count : c.count_of-count.result ≡ kept (count_of before) = omega (arith, c.len.ensures, c.count_of-count.ensures) in
    c.in_ok-read_line-in-Signs.ensures.read before (lexeme_view c.args.lexeme.now) count c.in-Signs.is

pub returns-in_ok-read_line-in-Signs-clause-kinds : goal.returns-in_ok-read_line-in-Signs-clause-kinds
returns-in_ok-read_line-in-Signs-clause-kinds c = c.in_ok-read_line-in-Signs.ensures.kinds c.args.seen.now
