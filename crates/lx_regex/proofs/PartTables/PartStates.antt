-- The states of an automaton stand where the parts of its rules say.
use Rattle.std.specs.Prelude.{◌≡◌, ℕ, zero, suc, ◌+◌, ◌*◌, List, [], ◌∷◌, ◌++◌, Option, Some, Bool, true, false, map, slice_get, if◌then◌else◌, refl}
use Rattle.std.proofs.Common.{sym, ap, ◌∙◌, subst, arith}
use Rattle.lx_regex.specs.Term.{Term, empty, class, any_unit, cat, alt, repeat, tag, group, Terms, nil, cons, copies, parts}
use Rattle.lx_regex.specs.Parts.{Part, copied_parts, parts_in, parts_among, parts_of_rules, parts_of, IsBeginning}
use Rattle.lx_regex.specs.Pattern.{Pattern, is_end, with_terms, terms_of}
use Rattle.lx_regex.specs.Automaton.{Move, State, moves_after, copies_table, table, members_table, alternatives_table, final, rules_table, automaton}

-- two states for each part, of which the first fits it
abbrev pub AllFit : List Part → List State → Type 0
AllFit [] [] = Unit {0}
AllFit [] (state ∷ states) = ⊥
AllFit (part ∷ others) [] = ⊥
AllFit (part ∷ others) (state ∷ []) = ⊥
AllFit (part ∷ others) (state ∷ last ∷ states) = IsBeginning part.sort state × AllFit others states

fit_append : (a b : List Part) (x y : List State) → AllFit a x → AllFit b y → AllFit (a ++ b) (x ++ y)
fit_append [] b [] y h k = k
fit_append [] b (s ∷ x) y h k = absurd h
fit_append (p ∷ a) b [] y h k = absurd h
fit_append (p ∷ a) b (s ∷ []) y h k = absurd h
fit_append (p ∷ a) b (s ∷ e ∷ x) y h k = (h.0, fit_append a b x y h.1 k)

copies_fit :
    (e : Term) (p : ℕ) (low : ℕ) (high : Option ℕ) (body : ℕ → ℕ → List Part) (rows : ℕ → List Move → List State) (left number c q : ℕ)
    → ((number q p : ℕ) (ways : List Move) → AllFit (body number q) (rows p ways))
    → AllFit (copied_parts body (parts e) left number q) (copies_table rows p e low high left c)
copies_fit e p low high body rows zero number c q each = tt
copies_fit e p low high body rows (suc left) number c q each =
    fit_append (body number q) _ (rows (p + 1 + c * parts e) (moves_after p e low high (suc c))) _ (each _ _ _ _)
    (copies_fit e p low high body rows left (suc number) (suc c) (q + parts e) each)

mutual
  table_fits :
      (e : Term) (rule up child q p : ℕ) (exits : List Move) → AllFit (parts_in rule up child q e) (table e p exits)
  table_fits empty rule up child q p exits = (tt, tt)
  table_fits (class ranges) rule up child q p exits = (refl, tt)
  table_fits any_unit rule up child q p exits = (tt, tt)
  table_fits (cat members) rule up child q p exits = (tt, members_fit members rule q 0 (q + 1) (p + 1) (2 * p + 1))
  table_fits (alt members) rule up child q p exits = (tt, alternatives_fit members rule q 0 (q + 1) (p + 1) (2 * p + 1))
  table_fits (repeat body low high) rule up child q p exits = (
    tt,
    copies_fit body p low high
        (λ number copy. parts_in rule q number copy body) (λ copy ways. table body copy ways) (copies low high) 0 0
        (q + 1) (λ number copy at ways. table_fits body rule q number copy at ways),
  )
  table_fits (tag number) rule up child q p exits = (tt, tt)
  table_fits (group opening closing body) rule up child q p exits = (tt, table_fits body rule q 0 (q + 1) (p + 1) _)

  members_fit : (members : Terms) (rule up child q p last : ℕ)
      → AllFit (parts_among rule up child q members) (members_table members p last)
  members_fit nil rule up child q p last = tt
  members_fit (cons e members) rule up child q p last =
      fit_append
      (parts_in rule up child q e) _ (table e p _) _ (table_fits e rule up child q p _)
      (members_fit members rule up (suc child) (q + parts e) (p + parts e) last)

  alternatives_fit : (members : Terms) (rule up child q p last : ℕ)
      → AllFit (parts_among rule up child q members) (alternatives_table members p last)
  alternatives_fit nil rule up child q p last = tt
  alternatives_fit (cons e members) rule up child q p last =
      fit_append
      (parts_in rule up child q e) _ (table e p _) _ (table_fits e rule up child q p _)
      (alternatives_fit members rule up (suc child) (q + parts e) (p + parts e) last)

rules_fit :
    (patterns : List Pattern) (child q p : ℕ) → AllFit (parts_of_rules child q patterns) (rules_table (terms_of patterns) p)
rules_fit [] child q p = tt
rules_fit (pattern ∷ patterns) child q p =
    by_kind
    (is_end pattern.kind) (rules_fit patterns (suc child) q p)
    (rules_fit patterns (suc child) (q + parts pattern.term) (p + parts pattern.term))
  where
    by_kind :
        (b : Bool) → AllFit (parts_of_rules (suc child) q patterns) (rules_table (terms_of patterns) p)
        → AllFit
        (parts_of_rules (suc child) (q + parts pattern.term) patterns)
        (rules_table (terms_of patterns) (p + parts pattern.term))
        → AllFit
        (if b then parts_of_rules (suc child) q patterns
        else parts_in pattern.number 0 child q pattern.term ++ parts_of_rules (suc child) (q + parts pattern.term) patterns)
        (rules_table (map (λ (x : Pattern). x.term) (if b then with_terms patterns else pattern ∷ with_terms patterns)) p)
    by_kind true without others = without
    by_kind false without others =
        fit_append
        (parts_in pattern.number 0 child q pattern.term) _ (table pattern.term p final) _
        (table_fits pattern.term pattern.number 0 child q p final) others

pub list_fits : (patterns : List Pattern) → AllFit (parts_of patterns) (automaton (terms_of patterns))
list_fits patterns = (tt, rules_fit patterns 0 1 1)

-- at the place of a part, its state
pub fits_at :
    (ps : List Part) (states : List State) (i : ℕ) (part : Part) (state : State) → AllFit ps states → slice_get ps i ≡ Some part
    → slice_get states (2 * i) ≡ Some state → IsBeginning part.sort state
fits_at [] states i part state h at at' = cc
fits_at (p ∷ ps) [] i part state h at at' = absurd h
fits_at (p ∷ ps) (s ∷ []) i part state h at at' = absurd h
fits_at (p ∷ ps) (s ∷ e ∷ states) zero part state h at at' =
    let a : p ≡ part = cc in
    let b : s ≡ state = cc in
    subst (λ (x : Part). IsBeginning x.sort state) a (subst (λ x. IsBeginning p.sort x) b h.0)
fits_at (p ∷ ps) (s ∷ e ∷ states) (suc i) part state h at at' =
    let n : 2 * suc i ≡ suc (suc (2 * i)) = omega arith in
    fits_at ps states i part state h.1 at (ap (λ k. slice_get (s ∷ e ∷ states) k) (sym n) ∙ at')
