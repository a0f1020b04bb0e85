-- Runs that are cut at the borders of blocks.
use Rattle.std.proofs.Common.{◌≡◌, ℕ, ◌+◌, ◌*◌, ◌/◌, ◌%◌, ◌<◌, ◌≤◌, List, [], ◌∷◌, ◌++◌, sym, subst, inl, inr, arith}
use Rattle.lx_encode.specs.declared.runs.Run.{Run}
use Rattle.lx_encode.specs.Runs.{InRun, LeadsTo, AreSortedFrom}
use Rattle.lx_encode.specs.Layers.{IsPart, AreParts}
use Rattle.lx_encode.proofs.Blocks.{place_of, block_of, block_from, block-mono}

pub AreSorted-push : (low : ℕ) (xs : List Run) (run : Run) → ((n t : ℕ) → LeadsTo xs n t → n < run.lo) → low ≤ run.lo → run.lo ≤ run.hi → run.hi ≤ 0x10FFFF →
    AreSortedFrom low xs → AreSortedFrom low (xs ++ run ∷ [])
AreSorted-push low [] run behind from ordered bound h = (from, ordered, bound, tt)
AreSorted-push low (x ∷ xs) run behind from ordered bound h =
    let here : InRun x x.hi = (h.1, omega arith) in
    let past : x.hi < run.lo = behind x.hi x.to (inl (here, λ i. x.to)) in
    (h.0, h.1, h.2, AreSorted-push (x.hi + 1) xs run (λ n t later. behind n t (inr later)) (omega arith) ordered bound h.3)

pub AreParts-push : (radix : ℕ) (xs : List Run) (run : Run) → IsPart radix run → AreParts radix xs → AreParts radix (xs ++ run ∷ [])
AreParts-push radix [] run part h = (part, tt)
AreParts-push radix (x ∷ xs) run part h = (h.0, AreParts-push radix xs run part h.1)

-- a block begins at a border
pub border_place : (radix : ℕ) (some : 2 ≤ radix) (block : ℕ) → block * radix % radix ≡ 0
border_place radix some block =
    let e : block * radix ≡ radix * block + 0 = omega arith in subst (λ n. n % radix ≡ 0) (sym e) (place_of radix some block 0 (omega arith))

-- the part in the last block
pub tail_part : (radix : ℕ) (some : 2 ≤ radix) (hi to : ℕ) → IsPart radix (record { lo = hi / radix * radix; hi = hi; to = to })
tail_part radix some hi to =
    let e : hi / radix * radix ≡ radix * (hi / radix) + 0 = omega arith in
    inl (subst (λ n. n / radix ≡ hi / radix) (sym e) (block_of radix some (hi / radix) 0 (omega arith)))

-- a run that begins in its last block lies in it
pub last_part : (radix : ℕ) (some : 2 ≤ radix) (run : Run) → run.lo ≤ run.hi → run.hi / radix * radix ≤ run.lo → IsPart radix run
last_part radix some run ordered le =
    let up : run.lo / radix ≤ run.hi / radix = block-mono radix some run.lo run.hi ordered in
    let le' : radix * (run.hi / radix) ≤ run.lo = omega arith in
    let down : run.hi / radix ≤ run.lo / radix = block_from radix some (run.hi / radix) run.lo le' in
    inl (omega arith)
