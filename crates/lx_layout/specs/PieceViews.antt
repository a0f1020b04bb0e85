-- What the definitions see of what a piece is made of.
use Rattle.std.specs.Prelude.{List, map}
use Rattle.lx_layout.specs.Pieces.{Form, Source}
use Rattle.lx_layout.specs.RuleEnds.{endings_of}
use Rattle.lx_layout.specs.declared.pieces.PieceForm.{PieceForm}
use Rattle.lx_layout.specs.declared.pieces.ScannerInput.{ScannerInput}
use Rattle.lx_renumber.specs.Renumbered.{based}

abbrev pub seen_form : PieceForm → Form
seen_form form = record {
  number = form.number;
  format = form.format;
  names = form.names;
  enc = form.enc;
  custom = form.custom;
  eof = form.eof;
  fill = form.fill;
  stores = form.stores;
  first_state = form.first_state;
  switches = form.switches;
  context = form.context;
  line = form.line;
}

abbrev pub seen_source : ScannerInput → Source
seen_source scanner = record {
  cond = scanner.cond.now;
  auto = based scanner.by scanner.auto.now;
  checks = scanner.checks.now;
  endings = endings_of scanner.ends.now;
  end_rule = scanner.end_rule;
}

abbrev pub seen_sources : List ScannerInput → List Source
seen_sources scanners = map seen_source scanners
