-- A residual whose lists are the spellings of a part is the start of that part.
use Rattle.std.proofs.Common.{◌≡◌, ℕ, zero, suc, ◌<◌, ◌↔◌, List, [], ◌∷◌, ◌++◌, length, refl, sym, ◌∙◌, ap, subst, inl, inr, ⊎_elim, arith}
use Rattle.std.specs.Prelude.{◌==◌}
use Rattle.std.proofs.Common.{false, cond}
use Rattle.std.proofs.lemmas.Bool.Decides.{nat_tests}
use Rattle.lx_base.specs.declared.settings.Enc.{Enc}
use Rattle.lx_class.specs.declared.ranges.Range.{Range}
use Rattle.lx_encode.specs.declared.graph.Residual.{Residual}
use Rattle.lx_encode.specs.declared.runs.Run.{Run}
use Rattle.lx_encode.specs.declared.layers.Layer.{Layer}
use Rattle.lx_encode.specs.Policy.{NoneWithin}
use Rattle.lx_encode.specs.Runs.{LeadBelow, LeadsTo}
use Rattle.lx_encode.specs.Layers.{AreBlocks, IsBlock}
use Rattle.lx_encode.specs.Table.{Rows, IsTable, GrowsBy, Finishes}
use Rattle.lx_encode.specs.Graph.{Spells, IsStart, AreStarts, started, numbered}
use Rattle.lx_encode.specs.Starts.{StartsWith}
use Rattle.lx_encode.proofs.Meaning.{Finishes-0, Finishes-cons}
use Rattle.lx_encode.proofs.Spellings.{spell_first}

module _ (rows : Rows) (table : IsTable rows) (enc : Enc) (set : List Range) (part : Range) where
  pub start_of_none : StartsWith rows enc set part 0 → NoneWithin set part.lo part.hi
  start_of_none starts p at low high =
      let first = spell_first enc p in
      let fin : Finishes rows 0 (first.0 ∷ first.1) = (starts first.0 first.1).1 (p, at, low, high, sym first.2) in
      some first.0 first.1 ((Finishes-0 rows table (first.0 ∷ first.1)).0 fin)
    where
      some : (u : ℕ) (us : List ℕ) → u ∷ us ≡ [] → ⊥
      some u us e = cc

  pub start_of_some : (r : ℕ) → (r ≡ 0 → ⊥) → r < length rows → StartsWith rows enc set part r → IsStart rows enc set part (record { 0 = r })
  start_of_some r nonzero lt starts = (lt, both)
    where
      both : (units : List ℕ) → Finishes rows r units ↔ Spells enc set part units
      both [] = (
        λ ended. absurd (nonzero (table.distinct r 0 lt table.some (ended ∙ sym table.ended))),
        λ (p, at, low, high, is). absurd (let first = spell_first enc p in none first.0 first.1 (is ∙ first.2)),
      )
        where
          none : (u : ℕ) (us : List ℕ) → [] ≡ u ∷ us → ⊥
          none u us e = cc
      both (u ∷ us) = starts u us

abbrev pub EachStart : Rows → List Residual → Type 0
EachStart rows [] = Unit {0}
EachStart rows (start ∷ starts) = (start.0 < length rows) × EachStart rows starts

-- what was said of blocks holds with more rows
pub AreBlocks-grows : (layer : Layer) (runs blocks : List Run) (old new : Rows) (count : ℕ) → LeadBelow blocks (length old) → GrowsBy old new count →
    AreBlocks layer runs blocks old → AreBlocks layer runs blocks new
AreBlocks-grows layer runs blocks old new count below grows are = record {
  block = λ b r at. subst (λ l. IsBlock layer runs b l) (sym (grows.same r (below b r at))) (are.block b r at);
  some = λ b r at. subst (λ l. l ≡ [] → ⊥) (sym (grows.same r (below b r at))) (are.some b r at);
  all = are.all;
}

pub LeadBelow-grows : (runs : List Run) (old new : Rows) (count : ℕ) → GrowsBy old new count → LeadBelow runs (length old) → LeadBelow runs (length new)
LeadBelow-grows runs old new count grows below n t at = let lt : t < length old = below n t at in omega (arith, grows.longer)

started-suc : (r : ℕ) → started (suc r) ≡ numbered (suc r) ∷ []
started-suc r = ap (λ b. cond b [] (numbered (suc r) ∷ [])) (test r)
  where
    test : (r : ℕ) → (suc r == 0) ≡ false
    test r = grind (arith, nat_tests)

append_none : (xs : List Residual) → xs ++ [] ≡ xs
append_none [] = refl
append_none (x ∷ xs) = ap (λ l. x ∷ l) (append_none xs)

-- the list of one start, and of two
pub one_start : (r : ℕ) (base items : List Residual) → base ≡ [] → items ≡ base ++ started r → items ≡ started r ++ []
one_start r base items none is = is ∙ ap (λ l. l ++ started r) none ∙ sym (append_none (started r))

pub two_starts : (r s : ℕ) (base first items : List Residual) → base ≡ [] → first ≡ base ++ started r → items ≡ first ++ started s → items ≡ started r ++ (started s ++ [])
two_starts r s base first items none is more =
    more ∙ ap (λ l. l ++ started s) (is ∙ ap (λ l. l ++ started r) none) ∙ ap (λ l. started r ++ l) (sym (append_none (started s)))

-- a start in front of others
pub AreStarts-cons : (rows : Rows) (table : IsTable rows) (enc : Enc) (set : List Range) (part : Range) (others : List Range) (r : ℕ) (rest : List Residual) →
    r < length rows → StartsWith rows enc set part r → AreStarts rows enc set others rest → AreStarts rows enc set (part ∷ others) (started r ++ rest)
AreStarts-cons rows table enc set part others zero rest lt starts are = inl (start_of_none rows table enc set part starts, are)
AreStarts-cons rows table enc set part others (suc r) rest lt starts are =
    inr (numbered (suc r), rest, nonzero r, start_of_some rows table enc set part (suc r) (λ e. clash r e) lt starts, are)
  where
    clash : (r : ℕ) → suc r ≡ 0 → ⊥
    clash r e = omega arith

    nonzero : (r : ℕ) → started (suc r) ++ rest ≡ numbered (suc r) ∷ rest
    nonzero r = ap (λ l. l ++ rest) (started-suc r)

-- more rows finish a residual by no other lists
pub Finishes-grows : (old new : Rows) (count : ℕ) → IsTable old → IsTable new → GrowsBy old new count → (units : List ℕ) (r : ℕ) → r < length old →
    Finishes old r units ↔ Finishes new r units
Finishes-grows old new count told tnew grows [] r lt = (λ e. grows.same r lt ∙ e, λ e. sym (grows.same r lt) ∙ e)
Finishes-grows old new count told tnew grows (u ∷ us) r lt =
    let lt' : r < length new = omega (arith, grows.longer) in
    let first = Finishes-cons old told r lt u us in
    let second = Finishes-cons new tnew r lt' u us in
    let same = grows.same r lt in (
      λ fin.
          let on = first.0 fin in
          let below : on.0 < length old = let lt'' : on.0 < r = told.earlier r lt u on.0 on.1 in omega arith in
          second.1 (on.0, subst (λ l. LeadsTo l u on.0) (sym same) on.1, (Finishes-grows old new count told tnew grows us on.0 below).0 on.2),
      λ fin.
          let on = second.0 fin in
          let leads = subst (λ l. LeadsTo l u on.0) same on.1 in
          let below : on.0 < length old = let lt'' : on.0 < r = told.earlier r lt u on.0 leads in omega arith in
          first.1 (on.0, leads, (Finishes-grows old new count told tnew grows us on.0 below).1 on.2),
    )

pub StartsWith-grows : (old new : Rows) (count : ℕ) → IsTable old → IsTable new → GrowsBy old new count → (enc : Enc) (set : List Range) (part : Range) (r : ℕ) → r < length old →
    StartsWith old enc set part r → StartsWith new enc set part r
StartsWith-grows old new count told tnew grows enc set part r lt starts u us =
    let same = Finishes-grows old new count told tnew grows (u ∷ us) r lt in
    (λ fin. (starts u us).0 (same.1 fin), λ spells. same.0 ((starts u us).1 spells))

-- each start is a residual of the table
pub starts_within : (rows : Rows) (enc : Enc) (set parts : List Range) (starts : List Residual) → AreStarts rows enc set parts starts → EachStart rows starts
starts_within rows enc set [] starts are = subst (λ l. EachStart rows l) (sym are) tt
starts_within rows enc set (part ∷ parts) starts are =
    ⊎_elim (λ none. starts_within rows enc set parts starts none.1)
    (λ some. subst (λ l. EachStart rows l) (sym some.2) (some.3.0, starts_within rows enc set parts some.1 some.4)) are
