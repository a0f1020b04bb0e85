-- What becomes of a row whose last run grows, or that gets one more run.
use Rattle.std.proofs.Common.{◌≡◌, ℕ, ◌+◌, ◌<◌, ◌≤◌, ◌⊎◌, ◌↔◌, List, [], ◌∷◌, ◌++◌, sym, ◌∙◌, inl, inr, ⊎_elim, arith}
use Rattle.std.proofs.lemmas.Bool.{cases_lt}
use Rattle.lx_encode.specs.declared.runs.Run.{Run}
use Rattle.lx_encode.specs.Runs.{InRun, LeadsTo, AreBehind, IsRow}
use Rattle.lx_encode.proofs.RunLists.{LeadsTo-append}

-- the first run with the last number of the second
abbrev pub joined_run : Run → Run → Run
joined_run last run = record { lo = last.lo; hi = run.hi; to = run.to }

-- the runs are not joined
abbrev pub StayApart : Run → Run → Type 0
StayApart last run = last.hi + 1 ≡ run.lo → last.to ≡ run.to → ⊥

AreBehind-joined : (before : Run) (front : List Run) (last run : Run) → last.to ≡ run.to → last.hi < run.hi → run.hi ≤ 0x10FFFF →
    AreBehind before (front ++ last ∷ []) → AreBehind before (front ++ joined_run last run ∷ [])
AreBehind-joined before [] last run same more bound h = (h.0, omega arith, bound, (λ touch to. h.3 touch (to ∙ sym same)), tt)
AreBehind-joined before (x ∷ front) last run same more bound h =
    (h.0, h.1, h.2, h.3, AreBehind-joined x front last run same more bound h.4)

pub IsRow-joined : (front : List Run) (last run : Run) → last.to ≡ run.to → last.hi < run.hi → run.hi ≤ 0x10FFFF →
    IsRow (front ++ last ∷ []) → IsRow (front ++ joined_run last run ∷ [])
IsRow-joined [] last run same more bound h = (omega arith, bound, tt)
IsRow-joined (x ∷ front) last run same more bound h = (h.0, h.1, AreBehind-joined x front last run same more bound h.2)

AreBehind-push : (before : Run) (front : List Run) (last run : Run) → StayApart last run → last.hi < run.lo → run.lo ≤ run.hi → run.hi ≤ 0x10FFFF →
    AreBehind before (front ++ last ∷ []) → AreBehind before ((front ++ last ∷ []) ++ run ∷ [])
AreBehind-push before [] last run apart past ordered bound h = (h.0, h.1, h.2, h.3, (past, ordered, bound, apart, tt))
AreBehind-push before (x ∷ front) last run apart past ordered bound h =
    (h.0, h.1, h.2, h.3, AreBehind-push x front last run apart past ordered bound h.4)

pub IsRow-push : (front : List Run) (last run : Run) → StayApart last run → last.hi < run.lo → run.lo ≤ run.hi → run.hi ≤ 0x10FFFF →
    IsRow (front ++ last ∷ []) → IsRow ((front ++ last ∷ []) ++ run ∷ [])
IsRow-push [] last run apart past ordered bound h = (h.0, h.1, (past, ordered, bound, apart, tt))
IsRow-push (x ∷ front) last run apart past ordered bound h = (h.0, h.1, AreBehind-push x front last run apart past ordered bound h.2)

AreBehind-last : (before : Run) (front : List Run) (last : Run) → AreBehind before (front ++ last ∷ []) → (last.lo ≤ last.hi) × (last.hi ≤ 0x10FFFF)
AreBehind-last before [] last h = (h.1, h.2)
AreBehind-last before (x ∷ front) last h = AreBehind-last x front last h.4

pub IsRow-last : (front : List Run) (last : Run) → IsRow (front ++ last ∷ []) → (last.lo ≤ last.hi) × (last.hi ≤ 0x10FFFF)
IsRow-last [] last h = (h.0, h.1)
IsRow-last (x ∷ front) last h = AreBehind-last x front last h.2

pub leads_last : (front : List Run) (last : Run) → last.lo ≤ last.hi → LeadsTo (front ++ last ∷ []) last.hi last.to
leads_last [] last some = let at : InRun last last.hi = (some, omega arith) in inl (at, λ i. last.to)
leads_last (x ∷ front) last some = inr (leads_last front last some)

joined_here : (last run : Run) (n t : ℕ) → last.to ≡ run.to → last.hi + 1 ≡ run.lo → last.lo ≤ last.hi → run.lo ≤ run.hi →
    LeadsTo (joined_run last run ∷ []) n t ↔ (LeadsTo (last ∷ []) n t ⊎ LeadsTo (run ∷ []) n t)
joined_here last run n t same touch some ordered = (
  λ at. ⊎_elim
      (λ here. ⊎_elim
      (λ lt. let at' : InRun run n = (omega arith, here.0.1) in inr (inl (at', here.1)))
      (λ le. let at' : InRun last n = (here.0.0, le) in inl (inl (at', same ∙ here.1))) (cases_lt last.hi n))
      (λ none. absurd none) at,
  λ at. ⊎_elim
      (λ old. ⊎_elim (λ here. let at' : InRun (joined_run last run) n = (here.0.0, omega arith) in inl (at', sym same ∙ here.1)) (λ none. absurd none) old)
      (λ new. ⊎_elim (λ here. let at' : InRun (joined_run last run) n = (omega arith, here.0.1) in inl (at', here.1)) (λ none. absurd none) new) at,
)

pub LeadsTo-joined : (front : List Run) (last run : Run) (n t : ℕ) → last.to ≡ run.to → last.hi + 1 ≡ run.lo → last.lo ≤ last.hi → run.lo ≤ run.hi →
    LeadsTo (front ++ joined_run last run ∷ []) n t ↔ (LeadsTo (front ++ last ∷ []) n t ⊎ LeadsTo (run ∷ []) n t)
LeadsTo-joined front last run n t same touch some ordered =
    let here = joined_here last run n t same touch some ordered in
    let new = LeadsTo-append front (joined_run last run ∷ []) n t in
    let old = LeadsTo-append front (last ∷ []) n t in (
      λ at. ⊎_elim (λ f. inl (old.1 (inl f))) (λ j. ⊎_elim (λ l. inl (old.1 (inr l))) (λ r. inr r) (here.0 j)) (new.0 at),
      λ at. ⊎_elim (λ o. ⊎_elim (λ f. new.1 (inl f)) (λ l. new.1 (inr (here.1 (inl l)))) (old.0 o)) (λ r. new.1 (inr (here.1 (inr r)))) at,
    )
