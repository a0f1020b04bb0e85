use Rattle.std.proofs.Common.{◌∙◌, Option, ap, ap₂, ℕ, List, Bool, arith}
use Rattle.lx_rules.specs.Environments.{Settings, with_name}
use Rattle.lx_rules.proofs.Spellings.SpelledNames.{with_name-pushed, with_name-set}
use Rattle.lx_rules.proofs.environment.Settings.spell.Goals as goal

pub loop-self-preserved : goal.loop-self-preserved
loop-self-preserved c = record {
  names = λ word.
      let ok = c.loop-self.self.names.ok.0 in
      ap (λ l. with_name l c.args.place word) c.in_ok-push.ensures.items
      ∙ with_name-pushed c.loop-self.self.names.items c.args.place word (omega (arith, ok, c.len.ensures, c.loop-self-test.true)) ∙ c.loop-self.invariant.names word;
  eof = c.loop-self.invariant.eof;
  fill = c.loop-self.invariant.fill;
}

pub returns : goal.returns
returns c =
    let ok = c.loop-self.self.names.ok.0 in
    let names = with_name-set c.loop-self.self.names.items c.args.place c.args.word (omega (arith, ok, c.len.ensures, c.loop-self-test.false))
    ∙ c.loop-self.invariant.names c.args.word in
    let same : Settings = record { names = with_name c.args.self.now.names.items c.args.place c.args.word; eof = c.loop-self.self.eof; fill = c.loop-self.self.fill } in
    ap (λ (l : List (Option (List ℕ))). record same { names = l }) names
    ∙ ap₂ (λ (eof : Option (Option ℕ)) (fill : Option Bool). record same { eof = eof; fill = fill }) c.loop-self.invariant.eof c.loop-self.invariant.fill
