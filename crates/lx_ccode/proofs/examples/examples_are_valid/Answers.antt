use Rattle.lx_ccode.proofs.ValidExamples.{IsValid-checked, IsValid-checked_head, IsValid-context, IsValid-context_head, IsValid-kept, IsValid-placed, IsValid-stored, IsValid-stored_head, IsValid-tested, IsValid-wide}
use Rattle.lx_ccode.proofs.examples.examples_are_valid.Goals as goal

pub returns : goal.returns
returns c = record {
  context = IsValid-context;
  stored = IsValid-stored;
  checked = IsValid-checked;
  context_with_head = IsValid-context_head;
  stored_with_head = IsValid-stored_head;
  checked_with_head = IsValid-checked_head;
  tested = IsValid-tested;
  wide = IsValid-wide;
  placed = IsValid-placed;
  kept = IsValid-kept;
}
