-- The examples are valid.
use Rattle.std.proofs.Common.{◌≡◌, ◌∷◌, ◌++◌, ◌∙◌, [], ℕ, zero, suc, Bool, List, refl, sym, arith, false, inl, inr}
use Rattle.std.specs.List.{AllByRecursion, list_any}
use Rattle.std.proofs.lemmas.Bool.{false≢true}
use Rattle.std.specs.Fmt.{digits}
use Rattle.lx_base.specs.Names.{name_primitives, name_table}
use Rattle.lx_ccode.specs.Agreement.{Agrees}
use Rattle.lx_ccode.specs.Labels.{is_like_block}
use Rattle.lx_ccode.specs.Statements.{all_statements, is_of_three, names_table}
use Rattle.lx_ccode.specs.Examples.{checked_example, checked_head, context_example, context_head, headed, kept_head, placed_example, stored_example, stored_head, tested_example, wide_example, zeros}
use Rattle.lx_ccode.specs.Validity.{IsByte, IsLong, IsShort, IsValid, labels}
use Rattle.lx_ccode.specs.declared.piece.Head.{Head}
use Rattle.lx_ccode.specs.declared.piece.Piece.{Piece}
use Rattle.lx_ccode.proofs.UsualNames.{words_differ, AreAllowed-usual, DoNotClash-usual, IsTagName-s, IsTagName-h}

pub IsValid-context : IsValid context_example
IsValid-context = record {
  range = record { number = omega arith; line = omega arith; states = tt; conds = tt; head = tt; table = tt };
  unit = inl refl;
  eof = tt;
  blocks = omega arith;
  statements = omega arith;
  jumps = (tt, ((omega arith, tt), ((omega arith, tt), ((omega arith, tt), (tt, (tt, (tt, (tt, (tt, (tt, (tt, ((omega arith, tt), ((omega arith, tt), ((omega arith, tt), (tt, (tt, (tt, (tt, (tt, (tt, (tt, (tt, ((omega arith, tt), ((omega arith, tt), (tt, (tt, (tt, tt)))))))))))))))))))))))))));
  ends = (refl, (refl, (refl, (refl, (refl, (refl, tt))))));
  one_refill = inl refl;
  states_differ = tt;
  after_states = (refl, (refl, (refl, (refl, (refl, (refl, tt))))));
  before_refills = λ e. absurd (false≢true e);
  next_block = refl;
  state_switch = tt;
  conds = refl;
  conds_differ = tt;
  cond_switch = tt;
  conds_named = (tt, (tt, (tt, (tt, (tt, (tt, (tt, (tt, (tt, (tt, (tt, (tt, (tt, (tt, (tt, (tt, (tt, (tt, (tt, (tt, (tt, (tt, (tt, (tt, (tt, (tt, (tt, tt)))))))))))))))))))))))))));
  groups = (tt, (tt, (tt, (tt, (tt, (tt, (tt, (tt, (tt, (tt, (tt, (tt, (tt, (tt, (tt, (tt, (tt, (tt, (tt, (tt, (tt, (tt, (tt, (tt, (tt, (tt, (tt, tt)))))))))))))))))))))))))));
  ctx = λ e. refl;
  names = AreAllowed-usual;
  names_differ = DoNotClash-usual;
  no_primitive = λ e. absurd (false≢true e);
  of_three = λ e. absurd (false≢true e);
  switches = λ e. absurd (false≢true e);
  table = refl;
  no_table = λ e. absurd (false≢true e);
  no_table_tag = λ e. absurd (false≢true e);
  no_block_label = λ e. absurd (false≢true e);
  head = tt;
  spelled = ((omega arith, tt, (tt, ((omega arith, omega arith), ((omega arith, omega arith), (omega arith, tt))))), ((omega arith, tt, (tt, ((omega arith, omega arith), ((omega arith, omega arith), (omega arith, (tt, (omega arith, (tt, ((omega arith, omega arith), ((omega arith, omega arith), (omega arith, tt))))))))))), ((omega arith, tt, (tt, (((omega arith, omega arith), (omega arith, omega arith)), (omega arith, ((omega arith, omega arith), ((IsTagName-s, (omega arith, omega arith)), ((IsTagName-h, omega arith), ((omega arith, omega arith), ((omega arith, omega arith, omega arith), tt))))))))), ((omega arith, tt, ((omega arith, omega arith), (omega arith, tt))), ((omega arith, tt, (tt, ((omega arith, omega arith, omega arith), tt))), ((omega arith, tt, (tt, tt)), tt))))));
}

pub IsValid-stored : IsValid stored_example
IsValid-stored = record {
  range = record { number = omega arith; line = tt; states = ((omega arith, omega arith), ((omega arith, omega arith), tt)); conds = (((refl, tt), omega arith), (((refl, tt), omega arith), tt)); head = tt; table = tt };
  unit = inl refl;
  eof = omega arith;
  blocks = omega arith;
  statements = omega arith;
  jumps = (tt, ((omega arith, tt), ((omega arith, tt), ((omega arith, tt), ((omega arith, tt), (tt, (tt, (tt, ((omega arith, tt), ((omega arith, tt), (tt, ((omega arith, tt), ((omega arith, tt), ((omega arith, tt), ((omega arith, tt), (tt, (tt, ((omega arith, tt), ((omega arith, tt), ((omega arith, tt), ((omega arith, tt), (tt, (tt, (tt, ((omega arith, tt), ((omega arith, tt), (tt, ((omega arith, tt), ((omega arith, tt), ((omega arith, tt), ((omega arith, tt), (tt, tt))))))))))))))))))))))))))))))));
  ends = (refl, (refl, (refl, (refl, (refl, (refl, (refl, (refl, (refl, (refl, (refl, (refl, tt))))))))))));
  one_refill = inl refl;
  states_differ = ((λ e. cc, tt), (tt, tt));
  after_states = (refl, (refl, (refl, (refl, (refl, (refl, (refl, (refl, (refl, (refl, (refl, (refl, tt))))))))))));
  before_refills = λ e. (refl, (refl, (refl, (refl, (refl, (refl, (refl, (refl, (refl, (refl, (refl, (refl, tt))))))))))));
  next_block = refl;
  state_switch = (((omega arith, tt), (tt, tt)), λ state. refl);
  conds = refl;
  conds_differ = ((words_differ _ _ refl, tt), (tt, tt));
  cond_switch = (refl, (refl, tt));
  conds_named = (tt, (tt, (tt, (tt, (tt, (tt, (refl, (refl, (tt, (tt, (tt, (tt, (tt, (tt, (tt, (tt, (tt, (tt, (tt, (tt, (tt, (tt, (refl, (tt, (tt, (tt, (tt, (tt, (tt, (tt, (tt, (tt, tt))))))))))))))))))))))))))))))));
  groups = (tt, (tt, (tt, (tt, (tt, (tt, (tt, (tt, (tt, (tt, (tt, (tt, (tt, (tt, (tt, (tt, (tt, (tt, (tt, (tt, (tt, (tt, (tt, (tt, (tt, (tt, (tt, (tt, (tt, (tt, (tt, (tt, tt))))))))))))))))))))))))))))))));
  ctx = λ e. absurd (false≢true e);
  names = AreAllowed-usual;
  names_differ = DoNotClash-usual;
  no_primitive = λ e. absurd (false≢true e);
  of_three = λ e. absurd (false≢true e);
  switches = λ e. absurd (false≢true e);
  table = refl;
  no_table = λ e. absurd (false≢true e);
  no_table_tag = λ e. absurd (false≢true e);
  no_block_label = λ e. absurd (false≢true e);
  head = tt;
  spelled = ((omega arith, (refl, tt), (tt, ((omega arith, omega arith), ((omega arith, omega arith), ((omega arith, omega arith), (omega arith, tt)))))), ((omega arith, tt, (tt, ((refl, tt), (((refl, tt), omega arith), tt)))), ((omega arith, tt, (omega arith, (omega arith, tt))), ((omega arith, tt, (omega arith, (omega arith, (omega arith, tt)))), ((omega arith, tt, (omega arith, (omega arith, tt))), ((omega arith, tt, (tt, tt)), ((omega arith, (refl, tt), (tt, ((omega arith, omega arith), ((omega arith, omega arith), ((omega arith, omega arith), (omega arith, tt)))))), ((omega arith, tt, (tt, ((refl, tt), ((omega arith, tt, omega arith), tt)))), ((omega arith, tt, (omega arith, (omega arith, tt))), ((omega arith, tt, (omega arith, (omega arith, (omega arith, tt)))), ((omega arith, tt, (omega arith, (omega arith, tt))), ((omega arith, tt, (tt, tt)), tt))))))))))));
}

pub IsValid-checked : IsValid checked_example
IsValid-checked = record {
  range = record { number = omega arith; line = tt; states = ((omega arith, omega arith), tt); conds = tt; head = tt; table = tt };
  unit = inr (inl refl);
  eof = tt;
  blocks = omega arith;
  statements = omega arith;
  jumps = (tt, (tt, (tt, (tt, ((omega arith, tt), ((omega arith, tt), ((omega arith, tt), (tt, (tt, (tt, (tt, (tt, (tt, (tt, (tt, tt)))))))))))))));
  ends = (refl, (refl, (refl, tt)));
  one_refill = inr refl;
  states_differ = (tt, tt);
  after_states = (refl, (refl, (refl, tt)));
  before_refills = λ e. (refl, (refl, (refl, tt)));
  next_block = refl;
  state_switch = ((tt, tt), λ state. refl);
  conds = refl;
  conds_differ = tt;
  cond_switch = tt;
  conds_named = (tt, (tt, (tt, (tt, (tt, (tt, (tt, (tt, (tt, (tt, (tt, (tt, (tt, (tt, (tt, tt)))))))))))))));
  groups = (tt, (tt, (tt, (tt, (tt, (tt, (tt, (tt, (tt, (tt, (omega arith, (omega arith, (omega arith, (tt, (tt, tt)))))))))))))));
  ctx = λ e. absurd (false≢true e);
  names = AreAllowed-usual;
  names_differ = DoNotClash-usual;
  no_primitive = λ e. absurd (false≢true e);
  of_three = λ e. absurd (false≢true e);
  switches = λ e. absurd (false≢true e);
  table = refl;
  no_table = λ e. absurd (false≢true e);
  no_table_tag = λ e. absurd (false≢true e);
  no_block_label = λ e. absurd (false≢true e);
  head = tt;
  spelled = ((omega arith, tt, (omega arith, (omega arith, ((omega arith, omega arith), (tt, ((omega arith, omega arith), ((omega arith, omega arith), (omega arith, tt)))))))), ((omega arith, tt, (tt, ((omega arith, omega arith), (tt, (omega arith, ((omega arith, (omega arith, omega arith)), ((omega arith, (omega arith, omega arith)), ((omega arith, tt, omega arith), tt)))))))), ((omega arith, tt, (tt, tt)), tt)));
}

-- a valid piece is valid with a head that agrees
IsValid-headed : (head : Head) (piece : Piece) → IsValid piece → IsShort head.regs × IsShort head.mregs × IsLong head.states → Agrees piece head
    → name_primitives piece.names ≡ false → name_table piece.names ≡ false → list_any is_of_three (all_statements piece.blocks) ≡ false
    → list_any names_table (all_statements piece.blocks) ≡ false → list_any (is_like_block piece.number piece.names) (labels piece.blocks) ≡ false
    → IsValid (headed head piece)
IsValid-headed head piece valid numbers agrees free apart none tags labels = record {
  range = record { number = valid.range.number; line = valid.range.line; states = valid.range.states; conds = valid.range.conds; head = numbers; table = valid.range.table };
  unit = valid.unit;
  eof = valid.eof;
  blocks = valid.blocks;
  statements = valid.statements;
  jumps = valid.jumps;
  ends = valid.ends;
  one_refill = valid.one_refill;
  states_differ = valid.states_differ;
  after_states = valid.after_states;
  before_refills = valid.before_refills;
  next_block = valid.next_block;
  state_switch = valid.state_switch;
  conds = valid.conds;
  conds_differ = valid.conds_differ;
  cond_switch = valid.cond_switch;
  conds_named = valid.conds_named;
  groups = valid.groups;
  ctx = valid.ctx;
  names = valid.names;
  names_differ = valid.names_differ;
  no_primitive = λ yes. free;
  of_three = λ yes. absurd (false≢true (sym none ∙ yes));
  switches = valid.switches;
  table = valid.table;
  no_table = λ yes. apart;
  no_table_tag = λ yes. tags;
  no_block_label = λ yes. labels;
  head = record { unit = agrees.unit; mode = agrees.mode; regs = agrees.regs; mregs = agrees.mregs; states = agrees.states };
  spelled = valid.spelled;
}

pub IsValid-context_head : (custom : Bool) → IsValid (headed (context_head custom) context_example)
IsValid-context_head custom =
    IsValid-headed (context_head custom) context_example IsValid-context (omega arith, omega arith, omega arith)
    (record { unit = refl; mode = refl; regs = refl; mregs = refl; states = refl }) refl refl refl refl refl

pub IsValid-stored_head : (custom : Bool) → IsValid (headed (stored_head custom) stored_example)
unfolding digits
IsValid-stored_head custom =
    IsValid-headed (stored_head custom) stored_example IsValid-stored (omega arith, omega arith, omega arith)
    (record { unit = refl; mode = refl; regs = refl; mregs = refl; states = refl }) refl refl refl refl refl

pub IsValid-checked_head : (custom : Bool) → IsValid (headed (checked_head custom) checked_example)
IsValid-checked_head custom =
    IsValid-headed (checked_head custom) checked_example IsValid-checked (omega arith, omega arith, omega arith)
    (record { unit = refl; mode = refl; regs = refl; mregs = refl; states = refl }) refl refl refl refl refl

pub IsValid-kept : (custom : Bool) → IsValid (headed (kept_head custom) stored_example)
unfolding digits
IsValid-kept custom =
    IsValid-headed (kept_head custom) stored_example IsValid-stored (omega arith, omega arith, omega arith)
    (record { unit = refl; mode = refl; regs = refl; mregs = refl; states = refl }) refl refl refl refl refl

-- ---- pieces of format 3

zeros-bytes : (count : ℕ) → AllByRecursion IsByte (zeros count)
zeros-bytes zero = tt
zeros-bytes (suc count) = (omega arith, zeros-bytes count)

bytes-append : (bytes more : List ℕ) → AllByRecursion IsByte bytes → AllByRecursion IsByte more → AllByRecursion IsByte (bytes ++ more)
bytes-append [] more first second = second
bytes-append (byte ∷ bytes) more first second = (first.0, bytes-append bytes more first.1 second)

pub IsValid-tested : (custom : Bool) → IsValid (tested_example custom)
IsValid-tested custom = record {
  range = record {
    number = omega arith;
    line = tt;
    states = tt;
    conds = tt;
    head = (omega arith, omega arith, omega arith);
    table = bytes-append (zeros 120) (1 ∷ 2 ∷ zeros 134) (zeros-bytes 120) (omega arith, (omega arith, zeros-bytes 134));
  };
  unit = inl refl;
  eof = tt;
  blocks = omega arith;
  statements = omega arith;
  jumps = (tt, ((omega arith, tt), ((omega arith, tt), ((omega arith, tt), ((omega arith, (omega arith, (omega arith, tt))), (tt, (tt, (tt, ((omega arith, tt), (tt, (tt, (tt, (tt, tt)))))))))))));
  ends = (refl, (refl, (refl, (refl, (refl, (refl, tt))))));
  one_refill = inl refl;
  states_differ = tt;
  after_states = (refl, (refl, (refl, (refl, (refl, (refl, tt))))));
  before_refills = λ e. absurd (false≢true e);
  next_block = refl;
  state_switch = tt;
  conds = refl;
  conds_differ = tt;
  cond_switch = tt;
  conds_named = (tt, (tt, (tt, (tt, (tt, (tt, (tt, (tt, (tt, (tt, (tt, (tt, (tt, tt)))))))))))));
  groups = (tt, (tt, (tt, (tt, (tt, (tt, (tt, (tt, (tt, (tt, (tt, (tt, (tt, tt)))))))))))));
  ctx = λ e. absurd (false≢true e);
  names = AreAllowed-usual;
  names_differ = DoNotClash-usual;
  no_primitive = λ e. refl;
  of_three = λ e. refl;
  switches = λ e. refl;
  table = refl;
  no_table = λ e. refl;
  no_table_tag = λ e. refl;
  no_block_label = λ e. refl;
  head = record { unit = refl; mode = refl; regs = refl; mregs = refl; states = refl };
  spelled = (
    (
      omega arith,
      tt,
      (
        tt,
        (
          (omega arith, omega arith),
          (
            (omega arith, omega arith),
            (
              (omega arith, omega arith),
              (
                (
                  record {
                    some = omega arith;
                    each = (
                      record { some = omega arith; bytes = (omega arith, (omega arith, tt)); block = omega arith },
                      (record { some = omega arith; bytes = (omega arith, tt); block = omega arith }, tt),
                    );
                    once = ((λ e. omega (arith, e), (λ e. omega (arith, e), tt)), ((λ e. omega (arith, e), tt), (tt, tt)));
                  },
                  omega arith,
                ),
                tt,
              ),
            ),
          ),
        ),
      ),
    ),
    ((omega arith, tt, (tt, ((omega arith, tt, omega arith), tt))), ((omega arith, tt, (tt, (omega arith, tt))), ((omega arith, tt, (tt, ((omega arith, tt, omega arith), tt))), ((omega arith, tt, (tt, tt)), ((omega arith, tt, (tt, tt)), tt))))),
  );
}

pub IsValid-wide : (custom : Bool) → IsValid (wide_example custom)
IsValid-wide custom = record {
  range = record {
    number = omega arith;
    line = tt;
    states = tt;
    conds = tt;
    head = (omega arith, omega arith, omega arith);
    table = bytes-append (zeros 321) (1 ∷ zeros 190) (zeros-bytes 321) (omega arith, zeros-bytes 190);
  };
  unit = inr (inl refl);
  eof = tt;
  blocks = omega arith;
  statements = omega arith;
  jumps = (tt, ((omega arith, tt), ((omega arith, tt), ((omega arith, tt), (tt, (tt, (tt, (tt, (tt, tt)))))))));
  ends = (refl, (refl, (refl, (refl, tt))));
  one_refill = inl refl;
  states_differ = tt;
  after_states = (refl, (refl, (refl, (refl, tt))));
  before_refills = λ e. absurd (false≢true e);
  next_block = refl;
  state_switch = tt;
  conds = refl;
  conds_differ = tt;
  cond_switch = tt;
  conds_named = (tt, (tt, (tt, (tt, (tt, (tt, (tt, (tt, (tt, tt)))))))));
  groups = (tt, (tt, (tt, (tt, (tt, (tt, (tt, (tt, (tt, tt)))))))));
  ctx = λ e. absurd (false≢true e);
  names = AreAllowed-usual;
  names_differ = DoNotClash-usual;
  no_primitive = λ e. refl;
  of_three = λ e. refl;
  switches = λ e. absurd (false≢true e);
  table = refl;
  no_table = λ e. refl;
  no_table_tag = λ e. refl;
  no_block_label = λ e. refl;
  head = record { unit = refl; mode = refl; regs = refl; mregs = refl; states = refl };
  spelled = (
    (omega arith, tt, (tt, ((omega arith, omega arith), ((omega arith, omega arith), (omega arith, tt))))),
    ((omega arith, tt, (tt, ((omega arith, tt, omega arith), tt))), ((omega arith, tt, (tt, tt)), ((omega arith, tt, (tt, ((omega arith, tt, omega arith), tt))), tt))),
  );
}

pub IsValid-placed : IsValid placed_example
unfolding digits
IsValid-placed = record {
  range = record {
    number = omega arith;
    line = omega arith;
    states = tt;
    conds = (((refl, tt), omega arith), (((refl, tt), omega arith), tt));
    head = (omega arith, omega arith, omega arith);
    table = tt;
  };
  unit = inl refl;
  eof = tt;
  blocks = omega arith;
  statements = omega arith;
  jumps = (tt, ((omega arith, tt), ((omega arith, tt), (tt, (tt, (tt, (tt, (tt, (tt, ((omega arith, tt), ((omega arith, tt), (tt, (tt, (tt, tt))))))))))))));
  ends = (refl, (refl, (refl, (refl, (refl, tt)))));
  one_refill = inl refl;
  states_differ = tt;
  after_states = (refl, (refl, (refl, (refl, (refl, tt)))));
  before_refills = λ e. absurd (false≢true e);
  next_block = refl;
  state_switch = tt;
  conds = refl;
  conds_differ = ((words_differ _ _ refl, tt), (tt, tt));
  cond_switch = (refl, (refl, tt));
  conds_named = (tt, (tt, (tt, (tt, (refl, (refl, (tt, (tt, (tt, (tt, (tt, (tt, (refl, (tt, tt))))))))))))));
  groups = (tt, (tt, (tt, (tt, (tt, (tt, (tt, (tt, (tt, (tt, (tt, (tt, (tt, (tt, tt))))))))))))));
  ctx = λ e. absurd (false≢true e);
  names = AreAllowed-usual;
  names_differ = DoNotClash-usual;
  no_primitive = λ e. refl;
  of_three = λ e. refl;
  switches = λ e. refl;
  table = refl;
  no_table = λ e. refl;
  no_table_tag = λ e. refl;
  no_block_label = λ e. refl;
  head = record { unit = refl; mode = refl; regs = refl; mregs = refl; states = refl };
  spelled = (
    (omega arith, (refl, tt), (tt, ((omega arith, omega arith), (omega arith, tt)))),
    (
      (omega arith, tt, (tt, ((refl, tt), (((refl, tt), omega arith), tt)))),
      (
        (omega arith, tt, (tt, tt)),
        (
          (omega arith, (refl, tt), (omega arith, (tt, ((omega arith, omega arith), (omega arith, tt))))),
          ((omega arith, tt, (tt, ((refl, tt), ((omega arith, omega arith, omega arith), tt)))), tt),
        ),
      ),
    ),
  );
}
