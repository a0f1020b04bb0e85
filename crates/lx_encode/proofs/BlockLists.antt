-- Lists of parts, and the blocks that are made of them.
use Rattle.std.proofs.Common.{◌≡◌, ℕ, ◌+◌, ◌*◌, ◌/◌, ◌%◌, ◌<◌, ◌≤◌, ◌↔◌, List, [], ◌∷◌, ◌++◌, length, take, drop, sym, ◌∙◌, subst, ⊎_elim, arith}
use Rattle.std.proofs.lemmas.List.{take-append-drop}
use Rattle.lx_encode.specs.declared.runs.Run.{Run}
use Rattle.lx_encode.specs.declared.layers.Layer.{Layer}
use Rattle.lx_encode.specs.declared.layers.Folding.{Folding}
use Rattle.lx_encode.specs.Runs.{LeadsTo, AreSortedFrom, AreSorted, LeadBelow}
use Rattle.lx_encode.specs.Table.{Rows, GrowsBy}
use Rattle.lx_encode.specs.Layers.{IsBlock, AreBlocks, IsPart, AreParts}
use Rattle.lx_encode.specs.Folding.{IsFolding}
use Rattle.lx_encode.proofs.RunLists.{run_at, rest_at, sorted_at, found_at, before_at}
use Rattle.lx_encode.proofs.Blocks.{number_is, block_bounded}

AreParts-back : (radix : ℕ) (xs ys : List Run) → AreParts radix (xs ++ ys) → AreParts radix ys
AreParts-back radix [] ys h = h
AreParts-back radix (x ∷ xs) ys h = AreParts-back radix xs ys h.1

pub part_at : (radix : ℕ) (xs : List Run) (i : ℕ) → i < length xs → AreParts radix xs → IsPart radix (run_at xs i)
part_at radix xs i lt h =
    let back : AreParts radix (drop i xs) = AreParts-back radix (take i xs) (drop i xs) (subst (λ l. AreParts radix l) (sym (take-append-drop i xs)) h) in
    let here : AreParts radix (run_at xs i ∷ drop (i + 1) xs) = subst (λ l. AreParts radix l) (rest_at xs i lt) back in here.0

-- sorted runs are no more than code points
sorted_length : (low : ℕ) (xs : List Run) → low ≤ 0x110000 → AreSortedFrom low xs → length xs + low ≤ 0x110000
sorted_length low [] le h = omega arith
sorted_length low (x ∷ xs) le h = let rest : length xs + (x.hi + 1) ≤ 0x110000 = sorted_length (x.hi + 1) xs (omega arith) h.3 in omega arith

pub few_parts : (xs : List Run) → AreSorted xs → length xs ≤ 0x110000
few_parts xs h = let few : length xs + 0 ≤ 0x110000 = sorted_length 0 xs (omega arith) h in omega arith

-- a part leads where the runs lead
pub part_to : (runs parts : List Run) (i count : ℕ) → i < length parts → AreSorted parts → ((n t : ℕ) → LeadsTo parts n t ↔ LeadsTo runs n t) → LeadBelow runs count →
    (run_at parts i).to < count
part_to runs parts i count lt sorted same below =
    let x = run_at parts i in
    let filled : x.lo ≤ x.hi = (sorted_at parts i lt sorted).1 in
    below x.lo x.to ((same x.lo x.to).0 (found_at parts i lt x.lo (omega arith) filled))

-- earlier numbers of a block have earlier units
pub unit_before : (layer : Layer) (some : 2 ≤ layer.radix) (runs parts row : List Run) (i block : ℕ) → i < length parts → AreSorted parts →
    IsBlock layer (take i parts) block row → (u t : ℕ) → LeadsTo row u t → block ≡ (run_at parts i).lo / layer.radix → u < layer.offset + (run_at parts i).lo % layer.radix
unit_before layer some runs parts row i block lt sorted is_block u t at is =
    let lo = (run_at parts i).lo in
    let found = (is_block u t).0 at in
    let n = found.0 in
    let before : n < lo = before_at parts i lt n t sorted found.1 in
    let n_is : layer.radix * (n / layer.radix) + n % layer.radix ≡ n = number_is layer.radix some n in
    let lo_is : layer.radix * (lo / layer.radix) + lo % layer.radix ≡ lo = number_is layer.radix some lo in
    let same : n / layer.radix ≡ lo / layer.radix = found.2 ∙ is in
    let n_is' : layer.radix * (lo / layer.radix) + n % layer.radix ≡ n = subst (λ q. layer.radix * q + n % layer.radix ≡ n) same n_is in
    let u_is : u ≡ layer.offset + n % layer.radix = found.3 in omega arith

pub GrowsBy-trans : (a b d : Rows) (m n k : ℕ) → m + n ≤ k → GrowsBy a b m → GrowsBy b d n → GrowsBy a d k
GrowsBy-trans a b d m n k le first second = record {
  longer = omega (arith, first.longer, second.longer);
  at_most = omega (arith, first.at_most, second.at_most);
  same = λ r lt. second.same r (omega (arith, first.longer)) ∙ first.same r lt;
}

-- blocks that are all closed are those of the runs
pub closed_blocks : (layer : Layer) (some : 2 ≤ layer.radix) (runs parts : List Run) (folding : Folding) (rows : Rows) →
    ((n t : ℕ) → LeadsTo parts n t ↔ LeadsTo runs n t) → ((n t : ℕ) → LeadsTo runs n t → n ≤ 0x10FFFF) → folding.block ≡ 0x10FFFF →
    IsFolding layer parts folding rows → AreBlocks layer runs folding.closed.items rows
closed_blocks layer some runs parts folding rows same bounded closed done = record {
  block = λ b r at u t. (
    λ x. let f = (done.block b r at u t).0 x in (f.0, (same f.0 t).0 f.1, f.2, f.3),
    λ (n, x, in_block, is). (done.block b r at u t).1 (n, (same n t).1 x, in_block, is),
  );
  some = done.some;
  all = λ n t at. ⊎_elim
      (λ here. absurd (let lt : n / layer.radix < 0x88000 = block_bounded layer.radix some n (bounded n t at) in omega arith))
      (λ before. before.1) (done.all n t ((same n t).1 at));
}
