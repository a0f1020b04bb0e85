use Rattle.std.proofs.Common.{refl, arith}
use Rattle.lx_token.proofs.QuotedItems.{quoted_items, items_quoted}
use Rattle.lx_token.proofs.kinds.quoted_texts_are_items.Goals as goal

pub returns : goal.returns
returns c = record {
  strings = λ text rest. (quoted_items 34 refl 34 text rest, items_quoted 34 refl 34 text rest (omega arith));
  caseless_strings = λ text rest. (quoted_items 39 refl 39 text rest, items_quoted 39 refl 39 text rest (omega arith));
  classes = λ text rest. (quoted_items 93 refl 91 text rest, items_quoted 93 refl 91 text rest (omega arith));
}
