-- The worked examples of kernels.
use Rattle.std.specs.Prelude.{◌≡◌, ◌≢◌, ℕ, zero, suc, ◌<◌, List, [], ◌∷◌, ◌++◌, length, Some, slice_get, refl}
use Rattle.std.proofs.Common.{sym, ap, ap₂, ◌∙◌, subst, arith, append_assoc, length-append}
use Rattle.lx_base.specs.declared.settings.Enc.TheVariants.{Utf8}
use Rattle.lx_regex.specs.Term.{Term, cat}
use Rattle.lx_regex.specs.Tree.{Tree}
use Rattle.lx_regex.specs.Script.{Symbol, begins, ends, reads, script, units}
use Rattle.lx_regex.specs.Cut.{Cut, EndsInUnit, IsCut, SamePlace, Precedes}
use Rattle.lx_regex.specs.Kernel.{IsKernel}
use Rattle.lx_regex.specs.Pattern.{terms_of}
use Rattle.lx_regex.specs.Match.{part_at}
use Rattle.lx_regex.specs.Examples.{letter, two, only_long, KernelsAre}
use Rattle.lx_regex.proofs.Walks.Exchange.{quiet_split}
use Rattle.lx_regex.proofs.KernelCuts.Kernels.{precedes_asym}
use Rattle.lx_regex.proofs.Walks.PlainWalk.{units_append}
use Rattle.lx_regex.proofs.WorkedExamples.WorkedMatches.{ab_symbols, ab_script, a_cut, begun_word, same_head}

abbrev word_a : List ℕ
word_a = 97 ∷ []

abbrev cut_a : Cut
cut_a = record { rule = 0; front = begins 1 ∷ begins 2 ∷ reads 97 ∷ [] }

abbrev behind_a : List Symbol
behind_a = ends 2 ∷ begins 3 ∷ reads 98 ∷ ends 3 ∷ ends 1 ∷ []

front_from :
    (before : List Symbol) (n : ℕ) (rest l : List Symbol) → before ≡ (begins 1 ∷ begins 2 ∷ []) ++ l
    → reads 97 ∷ behind_a ≡ l ++ reads n ∷ rest → units (before ++ reads n ∷ []) ≡ 97 ∷ []
    → before ++ reads n ∷ [] ≡ cut_a.front
front_from before n rest [] e h reads_so =
    let same : 97 ≡ n = cc in ap₂ (λ b k. b ++ reads k ∷ []) e (sym same)
front_from before n rest (x ∷ l) e h reads_so =
    let first : reads 97 ≡ x = cc in
    let said : units (((begins 1 ∷ begins 2 ∷ []) ++ reads 97 ∷ l) ++ reads n ∷ []) ≡ 97 ∷ [] =
    ap (λ y. units (((begins 1 ∷ begins 2 ∷ []) ++ y ∷ l) ++ reads n ∷ [])) first
    ∙ ap (λ b. units (b ++ reads n ∷ [])) (sym e) ∙ reads_so in
    let counted : 97 ∷ (units l ++ n ∷ []) ≡ 97 ∷ [] = ap (λ k. 97 ∷ k) (sym (units_append l (reads n ∷ []))) ∙ said in
    absurd (omega (arith, ap length counted, length-append (units l) (n ∷ [])))

-- the front of the script of "ab" that reads `a` and ends with it
front_of_a : (front rest : List Symbol) → ab_symbols 1 ≡ front ++ rest → EndsInUnit front → units front ≡ 97 ∷ []
    → front ≡ cut_a.front
front_of_a front rest said ends_so reads_so =
    let whole = said ∙ ap (λ l. l ++ rest) ends_so.2 ∙ append_assoc ends_so.0 (reads ends_so.1 ∷ []) rest in
    let r = quiet_split (begins 1 ∷ begins 2 ∷ []) refl (reads 97 ∷ behind_a) ends_so.0 ends_so.1 rest whole in
    ends_so.2 ∙ front_from ends_so.0 ends_so.1 rest r.0 r.1 r.2 (sym (ap units ends_so.2) ∙ reads_so)

only_cut : (cut : Cut) → IsCut Utf8 (terms_of only_long) (97 ∷ []) cut → cut_a ≡ cut
only_cut cut is = at cut.rule is.possible.1.0 is.possible.1.1 is.possible.1.2 is.possible.1.3 refl
  where
    at :
        (rule : ℕ) (e : Term) (tree : Tree e) → slice_get (terms_of only_long) rule ≡ Some e
        → script Utf8 (part_at only_long cut.rule) tree ≡ cut.front ++ is.possible.0 → cut.rule ≡ rule → cut_a ≡ cut
    at zero e tree said goes same =
        let is_ab : e ≡ cat (two (letter 97) (letter 98)) = cc in
        let scripted =
        subst
        (λ y. (t : Tree y) → script Utf8 (part_at only_long cut.rule) t ≡ ab_symbols (part_at only_long cut.rule))
        (sym is_ab) (λ t. ab_script (part_at only_long cut.rule) t) tree in
        let part : part_at only_long cut.rule ≡ 1 = ap (λ n. part_at only_long n) same in
        let front =
        front_of_a cut.front is.possible.0 (sym (ap ab_symbols part) ∙ sym scripted ∙ goes) is.after_unit is.reads_word in
        ap₂ (λ m n. record { rule = m; front = n }) (sym same) (sym front)
    at (suc rule) e tree said goes same = cc

kernel_of_a : IsKernel Precedes Utf8 (terms_of only_long) (97 ∷ []) (cut_a ∷ [])
kernel_of_a = record {
  start = λ e. cc;
  cuts = member;
  every = λ cut ne is. (
    0,
    cut_a,
    refl,
    subst (λ k. SamePlace Utf8 (terms_of only_long) cut_a k) (only_cut cut is) same,
    subst (λ k. Precedes k cut_a → ⊥) (only_cut cut is) (λ before. precedes_asym cut_a cut_a before before),
  );
  ordered = λ i j cut other lt at at'. absurd (none i j cut other lt at at');
}
  where
    same : SamePlace Utf8 (terms_of only_long) cut_a cut_a
    same = record { rule = refl; part = refl; left = λ left. ((λ f. f), (λ f. f)) }

    member : (i : ℕ) (cut : Cut) → word_a ≢ [] → slice_get (cut_a ∷ []) i ≡ Some cut
        → IsCut Utf8 (terms_of only_long) (97 ∷ []) cut
    member zero cut ne at = let e : cut_a ≡ cut = cc in subst (λ k. IsCut Utf8 (terms_of only_long) (97 ∷ []) k) e a_cut
    member (suc i) cut ne at = cc

    none : (i j : ℕ) (cut other : Cut) → i < j → slice_get (cut_a ∷ []) i ≡ Some cut → slice_get (cut_a ∷ []) j ≡ Some other
        → ⊥
    none i zero cut other lt at at' = omega arith
    none i (suc j) cut other lt at at' = cc

no_cut_at_b : (cut : Cut) → IsCut Utf8 (terms_of only_long) (98 ∷ []) cut → ⊥
no_cut_at_b cut is = let b = begun_word (98 ∷ []) cut is in let e = same_head 97 98 (98 ∷ []) b.0 b.1 in omega (arith, e)

pub kernels : KernelsAre
kernels = record { after_a = kernel_of_a; not_b = no_cut_at_b }
