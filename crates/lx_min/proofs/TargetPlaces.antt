-- Where a target stands among others.
use Rattle.std.proofs.Common.{◌≡◌, ℕ, ◌+◌, ◌<◌, ◌≤◌, suc, List, [], ◌∷◌, ◌++◌, length, take, drop, get_or, Bool, true, false, cond, if◌then◌else◌, refl, sym, ap, ◌∙◌, arith}
use Rattle.std.specs.Prelude.{insert}
use Rattle.std.specs.List.{prefix_len}
use Rattle.std.proofs.lemmas.List.{drop_all, drop_more, take-append-drop}
use Rattle.std.proofs.lemmas.List.Sums.{prefix_len-le-length, prefix_len_stops}
use Rattle.lx_auto.specs.declared.automaton.Held.{Held}
use Rattle.lx_min.specs.Canonical.{comes_before, with_target}

module _ (held : Held) where
  -- how many of the first targets come before it
  abbrev place : List Held → ℕ
  place targets = prefix_len (λ other. comes_before other held) targets

  with_target-place : (targets : List Held)
      → with_target held targets ≡ take (place targets) targets ++ with_target held (drop (place targets) targets)
  with_target-place [] = refl
  with_target-place (other ∷ targets) = by (comes_before other held) refl (with_target-place targets)
    where
      by : (b : Bool) → comes_before other held ≡ b
          → with_target held targets ≡ take (place targets) targets ++ with_target held (drop (place targets) targets)
          → (if b then other ∷ with_target held targets else (if comes_before held other then held ∷ other ∷ targets else other ∷ targets))
          ≡ take (cond b (1 + place targets) 0) (other ∷ targets)
          ++ with_target held (drop (cond b (1 + place targets) 0) (other ∷ targets))
      by true is later =
          let next : suc (place targets) ≡ 1 + place targets = omega arith in
          ap (λ l. other ∷ l) later ∙ ap (λ n. take n (other ∷ targets) ++ with_target held (drop n (other ∷ targets))) next
      by false is later =
          ap (λ b. if b then other ∷ with_target held targets else (if comes_before held other then held ∷ other ∷ targets else other ∷ targets))
          (sym is)

  module _ (targets : List Held) (at : ℕ) (is : at ≡ place targets) where
    with_target-at : with_target held targets ≡ take at targets ++ with_target held (drop at targets)
    with_target-at = with_target-place targets ∙ ap (λ n. take n targets ++ with_target held (drop n targets)) (sym is)

    pub at-le-length : at ≤ length targets
    at-le-length = let most = prefix_len-le-length (λ other. comes_before other held) targets in omega (arith, most, is)

    -- what stands behind it, if something does
    module _ (within : at < length targets) where
      other : Held
      other = get_or targets at held

      rest : List Held
      rest = drop (at + 1) targets

      behind-place : drop at targets ≡ get_or targets at held ∷ drop (at + 1) targets
      behind-place = drop_more targets at held within

      stops : comes_before (get_or targets at held) held ≡ false
      stops =
          ap (λ n. comes_before (get_or targets n held) held) is
          ∙ prefix_len_stops (λ other. comes_before other held) targets held (omega (arith, is))

      of_stop : (b : Bool) → comes_before held (get_or targets at held) ≡ b
          → with_target held (drop at targets) ≡ (if b then held ∷ drop at targets else drop at targets)
      of_stop b first =
          ap (with_target held) behind-place
          ∙ ap (λ t. if t then get_or targets at held ∷ with_target held (drop (at + 1) targets)
          else (if comes_before held (get_or targets at held) then held ∷ get_or targets at held ∷ drop (at + 1) targets
          else get_or targets at held ∷ drop (at + 1) targets)) stops
          ∙ ap (λ t. if t then held ∷ get_or targets at held ∷ drop (at + 1) targets else get_or targets at held ∷ drop (at + 1) targets) first
          ∙ ap (λ l. if b then held ∷ l else l) (sym behind-place)

      -- it is there
      pub with_target-there : comes_before held (get_or targets at held) ≡ false → targets ≡ with_target held targets
      with_target-there first =
          sym (take-append-drop at targets) ∙ ap (λ l. take at targets ++ l) (sym (of_stop false first)) ∙ sym with_target-at

      -- it comes before that one
      pub with_target-before : comes_before held (get_or targets at held) ≡ true → insert targets at held ≡ with_target held targets
      with_target-before first = ap (λ l. take at targets ++ l) (sym (of_stop true first)) ∙ sym with_target-at

    -- nothing stands behind it
    pub with_target-last : length targets ≤ at → insert targets at held ≡ with_target held targets
    with_target-last past =
        let none = drop_all at targets past in
        ap (λ l. take at targets ++ held ∷ l) none ∙ ap (λ l. take at targets ++ with_target held l) (sym none) ∙ sym with_target-at
