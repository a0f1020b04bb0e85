-- What states accept, in sets.
use Rattle.std.proofs.Common.{◌≡◌, true, List, Option, Some, None, rules, ap, refl, eqb, ◌&&◌}
use Rattle.std.specs.Bool.{Decides}
use Rattle.std.specs.Cmp.Lexicographic.{pointwise, pointwise_decides}
use Rattle.std.specs.Option.{option_eq}
use Rattle.std.proofs.lemmas.Bool.Decides.{Decides-and, Decides-eqb, Decides-like}
use Rattle.lx_auto.specs.contracts.automaton.HeldPartialEq.TheImpl.{eq-value as held_eq}
use Rattle.lx_auto.specs.declared.automaton.Held.{Held}
use Rattle.lx_min.specs.contracts.accept_numbers.AcceptKeyPartialEq.TheImpl.{eq-value}
use Rattle.lx_min.specs.declared.accept_numbers.AcceptKey.{AcceptKey}
use Rattle.lx_min.specs.Numbers.{NumberedAccept, seen_accept}

same_held : (held other : Held) → held_eq.it held other ≡ true → held ≡ other
same_held held other e = search rules

held_same : (held other : Held) → held ≡ other → held_eq.it held other ≡ true
held_same held other e = search rules

Decides-values : (values others : List Held) → Decides (pointwise held_eq.it values others) (values ≡ others)
Decides-values = pointwise_decides (λ held other. (same_held held other, held_same held other))

numbered : AcceptKey → NumberedAccept
numbered key = record { rule = key.rule; ops = key.ops; values = key.values.now }

numbered-same : (key other : AcceptKey) → seen_accept (Some key) ≡ seen_accept (Some other) → numbered key ≡ numbered other
unfolding numbered
numbered-same key other same = cc same

module _ (key other : AcceptKey) where
  of_fields : seen_accept (Some key) ≡ seen_accept (Some other)
      → (key.rule ≡ other.rule) × ((key.ops ≡ other.ops) × (key.values.now ≡ other.values.now))
  unfolding numbered
  of_fields same =
      let all = numbered-same key other same in
      (ap (λ (n : NumberedAccept). n.rule) all, (ap (λ (n : NumberedAccept). n.ops) all, ap (λ (n : NumberedAccept). n.values) all))

  Decides-key : Decides (eq-value.it key other) (seen_accept (Some key) ≡ seen_accept (Some other))
  Decides-key =
      Decides-like (eq-value.it key other)
      (λ same. λ i. Some (record { rule = same.0 i; ops = same.1.0 i; values = same.1.1 i }))
      of_fields
      (Decides-and (eqb key.rule other.rule) (eqb key.ops other.ops && pointwise held_eq.it key.values.now other.values.now)
      (Decides-eqb key.rule other.rule)
      (Decides-and (eqb key.ops other.ops) (pointwise held_eq.it key.values.now other.values.now) (Decides-eqb key.ops other.ops)
      (Decides-values key.values.now other.values.now)))

pub Decides-accepts : (accept other : Option AcceptKey)
    → Decides (option_eq eq-value.it accept other) (seen_accept accept ≡ seen_accept other)
Decides-accepts None None = ((λ e. refl), (λ e. refl))
Decides-accepts None (Some other) = ((λ e. absurd (cc e)), (λ e. absurd (cc e)))
Decides-accepts (Some key) None = ((λ e. absurd (cc e)), (λ e. absurd (cc e)))
Decides-accepts (Some key) (Some other) = Decides-key key other
