-- The usual spellings may be used, and mean different things.
use Rattle.std.proofs.Common.{◌≡◌, ℕ, false, List, refl, sym, ap, ◌∙◌, arith}
use Rattle.std.specs.Prelude.{codes}
use Rattle.std.proofs.lemmas.Bool.{false≢true}
use Rattle.lx_base.specs.Letters.{begins_with, equal_words}
use Rattle.lx_base.specs.Names.{AreAllowed, DoNotClash, IsFree, IsTagName, usual_names}
use Rattle.lx_ccode.proofs.Words.{equal_words-self}

pub words_differ : (word other : List ℕ) → equal_words word other ≡ false → word ≡ other → ⊥
words_differ word other differ same = false≢true (sym differ ∙ ap (equal_words word) (sym same) ∙ equal_words-self word)

IsFree-word : (word : List ℕ) → equal_words word (codes "NULL") ≡ false → equal_words word (codes "yynmatch") ≡ false → equal_words word (codes "yypmatch") ≡ false
    → begins_with (codes "yypmatch[") word ≡ false → IsFree word
IsFree-word word null count groups entry = record {
  null = words_differ word (codes "NULL") null;
  count = words_differ word (codes "yynmatch") count;
  groups = words_differ word (codes "yypmatch") groups;
  group_entry = entry;
}

pub AreAllowed-usual : AreAllowed usual_names
AreAllowed-usual = record {
  count = refl;
  each_is_short = (omega arith, (omega arith, (omega arith, (omega arith, (omega arith, (omega arith, (omega arith, (omega arith, (omega arith, (omega arith, (omega arith, (omega arith, (omega arith, (omega arith, (omega arith, (omega arith, (omega arith, tt)))))))))))))))));
  unit_type = search arith;
  cursor = search arith;
  limit = search arith;
  marker = search arith;
  context_marker = search arith;
  refill = search arith;
  get_state = search arith;
  set_state = search arith;
  get_condition = search arith;
  set_condition = search arith;
  append_offset = search arith;
  append_negative = search arith;
  current_unit = search arith;
  last_accept = search arith;
  tag_prefix = search arith;
  label_prefix = search arith;
  condition_prefix = search arith;
}

pub DoNotClash-usual : DoNotClash usual_names
DoNotClash-usual = record {
  variables_differ = ((words_differ _ _ refl, (words_differ _ _ refl, (words_differ _ _ refl, (words_differ _ _ refl, (words_differ _ _ refl, tt))))), ((words_differ _ _ refl, (words_differ _ _ refl, (words_differ _ _ refl, (words_differ _ _ refl, tt)))), ((words_differ _ _ refl, (words_differ _ _ refl, (words_differ _ _ refl, tt))), ((words_differ _ _ refl, (words_differ _ _ refl, tt)), ((words_differ _ _ refl, tt), (tt, tt))))));
  variables_are_free = (IsFree-word _ refl refl refl refl, (IsFree-word _ refl refl refl refl, (IsFree-word _ refl refl refl refl, (IsFree-word _ refl refl refl refl, (IsFree-word _ refl refl refl refl, (IsFree-word _ refl refl refl refl, tt))))));
  calls_differ = ((words_differ _ _ refl, (words_differ _ _ refl, (words_differ _ _ refl, (words_differ _ _ refl, (words_differ _ _ refl, (words_differ _ _ refl, tt)))))), ((words_differ _ _ refl, (words_differ _ _ refl, (words_differ _ _ refl, (words_differ _ _ refl, (words_differ _ _ refl, tt))))), ((words_differ _ _ refl, (words_differ _ _ refl, (words_differ _ _ refl, (words_differ _ _ refl, tt)))), ((words_differ _ _ refl, (words_differ _ _ refl, (words_differ _ _ refl, tt))), ((words_differ _ _ refl, (words_differ _ _ refl, tt)), ((words_differ _ _ refl, tt), (tt, tt)))))));
  variables_are_no_registers = ((refl, refl), ((refl, refl), ((refl, refl), ((refl, refl), ((refl, refl), ((refl, refl), tt))))));
}

pub IsTagName-s : IsTagName usual_names (codes "s")
IsTagName-s = record {
  identifier = (refl, tt);
  no_variable = (words_differ _ _ refl, (words_differ _ _ refl, (words_differ _ _ refl, (words_differ _ _ refl, (words_differ _ _ refl, (words_differ _ _ refl, tt))))));
  not_count = words_differ _ _ refl;
  not_groups = words_differ _ _ refl;
  no_register = (refl, refl);
}

pub IsTagName-h : IsTagName usual_names (codes "h")
IsTagName-h = record {
  identifier = (refl, tt);
  no_variable = (words_differ _ _ refl, (words_differ _ _ refl, (words_differ _ _ refl, (words_differ _ _ refl, (words_differ _ _ refl, (words_differ _ _ refl, tt))))));
  not_count = words_differ _ _ refl;
  not_groups = words_differ _ _ refl;
  no_register = (refl, refl);
}
